-- A packet on its way through the stages of a graph: the state so far.
use Rattle.std.proofs.Common.{◌≡◌, ◌∙◌, ◌<◌, ◌≤◌, ◌+◌, ◌*◌, ℕ, zero, suc, Bool, true, false, List, [], ◌∷◌, map, length, take, drop, get_or, sym, ap, refl, subst, arith}
use mathlib.Core.Path.{fun_ext}
use Rattle.std.specs.Prelude.{if◌then◌else◌, Option, Some, None, option_map, is_some, IfSome, slice_get}
use Rattle.std.proofs.lemmas.List.{drop_more, length-map}
use Rattle.std.proofs.lemmas.List.Sums.{sum_by-cons}
use Rattle.packet_fields.specs.Fields.{value}
use Rattle.packet_fields.specs.Writing.{fields_of, rest_of}
use Rattle.packet_fields.specs.declared.field.Field.{Field}
use Rattle.packet_fields.specs.declared.field.Field.TheVariants.{Tag}
use Rattle.action_profile.specs.declared.rights.Profile.{Profile}
use Rattle.chain_walk.specs.Shown.{Values, AreWellFormed, fixed_of}
use Rattle.chain_walk.specs.Step.{Behaviour}
use Rattle.chain_walk.specs.FieldWalk.{End, End.Out, End.Gone, Ended}
use Rattle.chain_walk.specs.declared.fixed.Fixed.{Fixed}
use Rattle.graph_compile.specs.Facts.{IsLawful, IsFull}
use Rattle.graph_compile.specs.Lawful.{size, IsLawfulStage, IsStaged}
use Rattle.graph_compile.specs.declared.graph.Branch.{Branch}
use Rattle.graph_compile.specs.declared.graph.Graph.{Graph}
use Rattle.graph_compile.specs.declared.graph.Stage.{Stage}
use Rattle.graph_law.specs.Flow.{staged, then_flow, flow}
use Rattle.packet_version.specs.Parts.{values_of}
use Rattle.packet_version.specs.Splitting.{PlainApart, split_parts, fresh, spare_room, packet_parts}
use Rattle.packet_version.specs.Tallies.{count_of, raised}
use Rattle.graph_run.specs.Carrying.{values_in}
use Rattle.graph_run.specs.Counting.{copies_in, RaisesAll}
use Rattle.graph_run.specs.Rooms.{adders_from}
use Rattle.graph_run.specs.Running.{IsRunning}
use Rattle.graph_run.specs.Stages.{end_of, GoesFrom, IsStageReady}
use Rattle.graph_run.proofs.Writing.{bytes_in}

-- the copies that were made of a packet in this number of stages
abbrev pub made_in : List Stage → ℕ → List ℕ → Field → ℕ
made_in stages i frame f = if is_some (value f frame) then copies_in (take i stages) f else 0

-- the packet may go on through the remaining stages, which are staged from a position on
pub record OnItsWay (chain : List Profile) (stages : List Stage) (whole : PlainApart) : Type 0 where
  pub at : ℕ
  pub position : 1 ≤ at
  pub staged_on : IsStaged chain at stages (suc (length chain))
  pub goes : GoesFrom chain at whole

-- the packet has passed this number of stages, and the rest of the way gives what the whole way gives
pub record IsFlowing {F : Type 0} (b : Behaviour F) (graph : Graph) (time : ℕ) (frame : List ℕ) (first now : List F) (i : ℕ) (whole : PlainApart) (old new : List ℕ) : Type 0 where
  pub same : flow b (fixed_of time frame) (drop i graph.stages) (values_in whole) now ≡ flow b (fixed_of time frame) graph.stages (fields_of frame) first
  pub profiles : map b.profile now ≡ map b.profile first
  pub fixed : whole.fixed ≡ fixed_of time frame
  pub rest : whole.rest ≡ rest_of frame
  pub there : (f : Field) → is_some (values_in whole f) ≡ is_some (value f frame)
  pub way : OnItsWay (map b.profile first) (drop i graph.stages) whole
  pub counted : RaisesAll (made_in graph.stages i frame) old new

-- the laws of graphs on which a run rests
abbrev pub LawfulIsStaged : Type 0
LawfulIsStaged = (graph : Graph) (chain : List Profile) → IsFull graph → IsLawful graph chain → IsStaged chain 1 graph.stages (suc (length chain))

abbrev pub Rising : Type 0
Rising = (chain : List Profile) (first : ℕ) (stages : List Stage) (next : ℕ) → IsStaged chain first stages next → first ≤ next

value_split : (spare : ℕ) (o : Option (List ℕ)) → bytes_in (option_map (fresh spare) o) ≡ o
value_split spare None = refl
value_split spare (Some bytes) = refl

room_split : (spare adders : ℕ) (o : Option (List ℕ)) → spare ≡ 4 * adders → IfSome (option_map (fresh spare) o) (λ tags. length tags.bytes + 4 * adders ≤ tags.room)
room_split spare adders None is = tt
room_split spare adders (Some bytes) is = omega arith

-- the values of a frame that was split are its fields
pub split_values : (taggers : ℕ) (frame : List ℕ) (whole : PlainApart) → packet_parts whole ≡ split_parts taggers frame → values_in whole ≡ fields_of frame
split_values taggers frame whole parts = ap values_of parts ∙ fun_ext (λ f. value_split (spare_room taggers f) (value f frame))

none_made : (t : Bool) (c : ℕ) → c ≡ raised c (if t then 0 else 0)
none_made true c = omega arith
none_made false c = omega arith

pub flow_begins : {F : Type 0} (b : Behaviour F) (graph : Graph) (time : ℕ) (frame : List ℕ) (first : List F) (taggers : ℕ) (whole : PlainApart) (tally : List ℕ) → LawfulIsStaged → ((frame : List ℕ) → AreWellFormed (fields_of frame)) →
    IsRunning b first graph → taggers ≡ adders_from (map b.profile first) 1 → packet_parts whole ≡ split_parts taggers frame → whole.rest ≡ rest_of frame → whole.fixed ≡ fixed_of time frame →
    IsFlowing b graph time frame first first 0 whole tally tally
flow_begins b graph time frame first taggers whole tally law formed running adders parts rest fixed =
    let values = split_values taggers frame whole parts in
    record {
      same = ap (λ (v : Values). flow b (fixed_of time frame) graph.stages v first) values;
      profiles = refl;
      fixed = fixed;
      rest = rest;
      there = λ f. ap (λ (v : Values). is_some (v f)) values;
      way = record {
        at = 1;
        position = omega arith;
        staged_on = law graph (map b.profile first) running.full running.lawful;
        goes = record {
          formed = subst AreWellFormed (sym values) (formed frame);
          room = subst (λ m. IfSome (m Tag) (λ tags. length tags.bytes + 4 * adders_from (map b.profile first) 1 ≤ tags.room)) (sym parts)
              (room_split (4 * taggers) (adders_from (map b.profile first) 1) (value Tag frame) (ap (λ n. 4 * n) adders));
        };
      };
      counted = λ f. none_made (is_some (value f frame)) (count_of tally f);
    }

pub staged_head : (chain : List Profile) (first : ℕ) (s : Stage) (stages : List Stage) (next : ℕ) → IsStaged chain first (s ∷ stages) next → IsLawfulStage chain first s × IsStaged chain (end_of first s) stages next
unfolding IsStaged
staged_head chain first s stages next h = h

got_at : {A : Type 0} (xs : List A) (j : ℕ) (d : A) → j < length xs → slice_get xs j ≡ Some (get_or xs j d)
got_at [] j d less = absurd (omega arith)
got_at (x ∷ xs) zero d less = refl
got_at (x ∷ xs) (suc j) d less = got_at xs j d (omega arith)

-- a stage whose branches have a function each has at least as many functions as branches
enough : (bs : List Branch) → ((j : ℕ) (b : Branch) → slice_get bs j ≡ Some b → 0 < length b.positions) → length bs ≤ size bs
enough [] each = omega arith
enough (b ∷ bs) each = let here = each 0 b refl in let rest = enough bs (λ j c is. each (suc j) c is) in let all = sum_by-cons (λ (x : Branch). length x.positions) b bs in more _ _ _ _ here rest all
  where
    more : (n m k all : ℕ) → 0 < n → m ≤ k → all ≡ n + k → suc m ≤ all
    more n m k all pos le e = omega arith

-- the next stage is ready for the packet
pub stage_ready : {F : Type 0} (b : Behaviour F) (graph : Graph) (time : ℕ) (frame : List ℕ) (first now : List F) (i : ℕ) (whole : PlainApart) (old new : List ℕ) (d : Stage) → Rising → IsRunning b first graph →
    (way : IsFlowing b graph time frame first now i whole old new) → i < length graph.stages → IsStageReady (map b.profile first) way.way.at (get_or graph.stages i d) whole
stage_ready b graph time frame first now i whole old new d rising running way inside =
    let chain = map b.profile first in
    let s : Stage = get_or graph.stages i d in
    let at = got_at graph.stages i d inside in
    let head = staged_head chain way.way.at s (drop (i + 1) graph.stages) (suc (length chain)) (subst (λ (l : List Stage). IsStaged chain way.way.at l (suc (length chain))) (drop_more graph.stages i d inside) way.way.staged_on) in
    let le = rising chain (end_of way.way.at s) (drop (i + 1) graph.stages) (suc (length chain)) head.1 in
    let branches = running.full.branches i s at in
    let sizes = enough s.branches (λ j c is. running.full.functions i j s c at is) in
    let few = running.few in
    let count : length chain ≡ length first = length-map first b.profile in
    let position = way.way.position in
    record { lawful = head.0; position = way.way.position; within = le; some = branches; few = omega arith; goes = way.way.goes }

flow_more : {F : Type 0} (b : Behaviour F) (fixed : Fixed) (s : Stage) (stages : List Stage) (values : Values) (fs : List F) → flow b fixed (s ∷ stages) values fs ≡ then_flow (staged b fixed s values fs).functions (staged b fixed s values fs).end (flow b fixed stages)
unfolding flow
flow_more b fixed s stages values fs = refl

pub then_out : {F : Type 0} (fs : List F) (values : Values) (on : Values → List F → Ended F) → then_flow fs (Out values) on ≡ on values fs
unfolding then_flow
then_out fs values on = refl

pub then_gone : {F : Type 0} (fs : List F) (p : ℕ) (on : Values → List F → Ended F) → then_flow fs (Gone p) on ≡ record { functions = fs; end = Gone p }
unfolding then_flow
then_gone fs p on = refl

-- the rest of the way, if the next stage leaves the functions in this state and ends so
pub way_on : {F : Type 0} (b : Behaviour F) (graph : Graph) (time : ℕ) (frame : List ℕ) (first now after : List F) (i : ℕ) (whole : PlainApart) (old new : List ℕ) (d : Stage) (end : End) → IsFlowing b graph time frame first now i whole old new → i < length graph.stages →
    after ≡ (staged b whole.fixed (get_or graph.stages i d) (values_in whole) now).functions → end ≡ (staged b whole.fixed (get_or graph.stages i d) (values_in whole) now).end →
    then_flow after end (flow b (fixed_of time frame) (drop (i + 1) graph.stages)) ≡ flow b (fixed_of time frame) graph.stages (fields_of frame) first
way_on b graph time frame first now after i whole old new d end way inside fs ends =
    let s : Stage = get_or graph.stages i d in
    (λ j. then_flow (fs j) (ends j) (flow b (fixed_of time frame) (drop (i + 1) graph.stages)))
    ∙ ap (λ (x : Fixed). then_flow (staged b x s (values_in whole) now).functions (staged b x s (values_in whole) now).end (flow b (fixed_of time frame) (drop (i + 1) graph.stages))) way.fixed
    ∙ sym (flow_more b (fixed_of time frame) s (drop (i + 1) graph.stages) (values_in whole) now)
    ∙ ap (λ (l : List Stage). flow b (fixed_of time frame) l (values_in whole) now) (sym (drop_more graph.stages i d inside))
    ∙ way.same
