-- One more stage, and the end of the way.
use Rattle.std.proofs.Common.{◌≡◌, ◌∙◌, ◌<◌, ◌≤◌, ◌+◌, ℕ, suc, Bool, true, false, List, [], ◌∷◌, ◌++◌, map, length, take, drop, get_or, sym, ap, refl, subst, arith}
use Rattle.std.specs.Prelude.{if◌then◌else◌, Option, Some, None, is_some}
use Rattle.std.specs.List.{list_any}
use Rattle.std.proofs.lemmas.List.{drop_more, drop_all, take_more, append-nil}
use Rattle.std.proofs.lemmas.List.Sums.{sum_by-cons}
use Rattle.packet_fields.specs.Fields.{value}
use Rattle.packet_fields.specs.Writing.{fields_of, rest_of, written}
use Rattle.packet_fields.specs.declared.field.Field.{Field}
use Rattle.action_profile.specs.Modes.{copies}
use Rattle.action_profile.specs.declared.rights.Profile.{Profile}
use Rattle.chain_walk.specs.Shown.{Values, fixed_of}
use Rattle.chain_walk.specs.Step.{Behaviour}
use Rattle.chain_walk.specs.Laws.{KeepsProfile}
use Rattle.chain_walk.specs.Walk.{Walked, walk}
use Rattle.chain_walk.specs.FieldWalk.{End.Out, End.Gone, Ended, walk_fields, walked_by}
use Rattle.chain_walk.specs.declared.fixed.Fixed.{Fixed}
use Rattle.chain_walk.specs.declared.walk.Fate.{Fate}
use Rattle.chain_walk.specs.declared.walk.Fate.TheVariants as fates
use Rattle.graph_compile.specs.Positions.{stands}
use Rattle.graph_compile.specs.Lawful.{IsStaged}
use Rattle.graph_compile.specs.declared.graph.Graph.{Graph}
use Rattle.graph_compile.specs.declared.graph.Stage.{Stage}
use Rattle.graph_law.specs.Flow.{branched, staged, flow}
use Rattle.graph_compile.specs.declared.graph.Branch.{Branch}
use Rattle.action_profile.specs.declared.parts.Touch.{Touch}
use Rattle.packet_version.specs.Parts.{PlainPart}
use Rattle.packet_version.specs.Splitting.{PlainApart, joined, packet_parts}
use Rattle.packet_version.specs.Tallies.{count_of, raised}
use Rattle.graph_run.specs.Carrying.{values_in}
use Rattle.graph_run.specs.Counting.{reached, copies_in, copies_of, RaisesAll, RaisesUpTo}
use Rattle.graph_run.specs.Running.{IsRunning}
use Rattle.graph_run.specs.Stages.{end_of, IsStageReady, IsBehind, stage_copies}
use Rattle.graph_run.proofs.Writing.{bytes_in}
use Rattle.graph_run.proofs.Reaching.{reached_cut, copies_append, first_reached, last_reached}
use Rattle.graph_run.proofs.WayThroughStages.{made_in, IsFlowing, Rising, staged_head, stage_ready, then_out, then_gone, way_on}

-- laws of the way through a graph
abbrev pub StageKeepsFields : Type 0 → Type 0
StageKeepsFields F = (b : Behaviour F) (fixed : Fixed) (stage : Stage) (functions : List F) (values after : Values) (f : Field) → KeepsProfile b → (staged b fixed stage values functions).end ≡ Out after → is_some (after f) ≡ is_some (values f)

abbrev pub StageKeepsProfiles : Type 0 → Type 0
StageKeepsProfiles F = (b : Behaviour F) (fixed : Fixed) (branches : List Branch) (touches : List Touch) (functions : List F) (values : Values) → KeepsProfile b → map b.profile (branched b fixed branches touches values functions).functions ≡ map b.profile functions

abbrev pub IsWalk : {F : Type 0} → Behaviour F → Graph → ℕ → List ℕ → List F → Type 0
IsWalk b graph time frame first = walk b time 1 first frame ≡ walked_by frame (flow b (fixed_of time frame) graph.stages (fields_of frame) first)

-- a graph gives the walk of whole frames
pub is_walk : {F : Type 0} (b : Behaviour F) (graph : Graph) (time : ℕ) (frame : List ℕ) (first : List F) →
    flow b (fixed_of time frame) graph.stages (fields_of frame) first ≡ walk_fields b (fixed_of time frame) 1 first (fields_of frame) →
    walk b time 1 first frame ≡ walked_by frame (walk_fields b (fixed_of time frame) 1 first (fields_of frame)) → IsWalk b graph time frame first
is_walk b graph time frame first chain frames = frames ∙ ap (walked_by frame) (sym chain)

part_there : (o : Option PlainPart) → is_some (bytes_in o) ≡ is_some o
part_there None = refl
part_there (Some p) = refl

-- the copies of one more stage
one_more : (stages : List Stage) (i : ℕ) (d : Stage) (f : Field) → i < length stages → copies_in (take (i + 1) stages) f ≡ copies_in (take i stages) f + copies (get_or stages i d).parts f
one_more stages i d f inside =
    ap (λ l. copies_in l f) (take_more stages i d inside) ∙ copies_append (take i stages) (get_or stages i d ∷ []) f ∙ ap (λ n. copies_in (take i stages) f + n) (sum_by-cons (λ s. copies s.parts f) (get_or stages i d) [] ∙ no_more (copies (get_or stages i d).parts f))
  where
    no_more : (n : ℕ) → n + 0 ≡ n
    no_more n = omega arith

raised_on : (t : Bool) (c a m all now new : ℕ) → now ≡ raised c (if t then a else 0) → new ≡ raised now (if t then m else 0) → all ≡ a + m → new ≡ raised c (if t then all else 0)
raised_on true c a m all now new x y e = omega arith
raised_on false c a m all now new x y e = omega arith

-- the counts after one more stage
counted_more : (graph : Graph) (frame : List ℕ) (i : ℕ) (whole : PlainApart) (old now new : List ℕ) (d : Stage) → i < length graph.stages → ((f : Field) → is_some (values_in whole f) ≡ is_some (value f frame)) →
    RaisesAll (made_in graph.stages i frame) old now → RaisesAll (stage_copies (get_or graph.stages i d) whole) now new → RaisesAll (made_in graph.stages (i + 1) frame) old new
counted_more graph frame i whole old now new d inside there before here = λ f.
    raised_on (is_some (value f frame)) (count_of old f) (copies_in (take i graph.stages) f) (copies (get_or graph.stages i d).parts f) (copies_in (take (i + 1) graph.stages) f) (count_of now f) (count_of new f)
    (before f) (here f ∙ ap (λ (t : Bool). raised (count_of now f) (if t then copies (get_or graph.stages i d).parts f else 0)) (sym (part_there (packet_parts whole f)) ∙ there f)) (one_more graph.stages i d f inside)

-- one more stage, after which the packet goes on
pub stage_passed : {F : Type 0} (b : Behaviour F) (graph : Graph) (time : ℕ) (frame : List ℕ) (first now after : List F) (i : ℕ) (whole next : PlainApart) (old new newer : List ℕ) (d : Stage) → Rising → StageKeepsFields F → StageKeepsProfiles F → KeepsProfile b →
    IsRunning b first graph → IsFlowing b graph time frame first now i whole old new → i < length graph.stages →
    after ≡ (staged b whole.fixed (get_or graph.stages i d) (values_in whole) now).functions → Out (values_in next) ≡ (staged b whole.fixed (get_or graph.stages i d) (values_in whole) now).end →
    ((at : ℕ) → IsStageReady (map b.profile now) at (get_or graph.stages i d) whole → IsBehind (map b.profile now) (end_of at (get_or graph.stages i d)) whole next) →
    RaisesAll (stage_copies (get_or graph.stages i d) whole) new newer → IsFlowing b graph time frame first after (i + 1) next old newer
stage_passed b graph time frame first now after i whole next old new newer d rising fields profiles keeps running way inside fs ends leaves counted =
    let chain = map b.profile first in
    let s : Stage = get_or graph.stages i d in
    let ready = stage_ready b graph time frame first now i whole old new d rising running way inside in
    let behind : IsBehind chain (end_of way.way.at s) whole next =
    subst (λ (ps : List Profile). IsBehind ps (end_of way.way.at s) whole next) way.profiles (leaves way.way.at (subst (λ (ps : List Profile). IsStageReady ps way.way.at s whole) (sym way.profiles) ready)) in
    let head = staged_head chain way.way.at s (drop (i + 1) graph.stages) (suc (length chain)) (subst (λ (l : List Stage). IsStaged chain way.way.at l (suc (length chain))) (drop_more graph.stages i d inside) way.way.staged_on) in
    let position = way.way.position in
    record {
      same = sym (then_out after (values_in next) (flow b (fixed_of time frame) (drop (i + 1) graph.stages))) ∙ way_on b graph time frame first now after i whole old new d (Out (values_in next)) way inside fs ends;
      profiles = ap (map b.profile) fs ∙ profiles b whole.fixed s.branches s.parts.touches now (values_in whole) keeps ∙ way.profiles;
      fixed = behind.fixed ∙ way.fixed;
      rest = behind.rest ∙ way.rest;
      there = λ f. fields b whole.fixed s now (values_in whole) (values_in next) f keeps (sym ends) ∙ way.there f;
      way = record { at = end_of way.way.at s; position = omega arith; staged_on = head.1; goes = behind.goes };
      counted = counted_more graph frame i whole old new newer d inside way.there way.counted counted;
    }

-- what becomes of a packet, and of the functions and counts
pub record Ends {F : Type 0} (b : Behaviour F) (graph : Graph) (time : ℕ) (frame : List ℕ) (first after : List F) (came : Fate) (old new : List ℕ) : Type 0 where
  pub functions : after ≡ (walk b time 1 first frame).functions
  pub fate : came ≡ (walk b time 1 first frame).fate
  pub counted : RaisesAll (copies_of graph.stages frame (walk b time 1 first frame).fate) old new

-- if a packet is dropped on the rest of the way, a remaining stage has the position
abbrev pub GoneLater : Type 0 → Type 0
GoneLater F = (b : Behaviour F) (fixed : Fixed) (stages : List Stage) (functions : List F) (values : Values) (position : ℕ) → (flow b fixed stages values functions).end ≡ Gone position → list_any (stands position) stages ≡ true

-- the stages that the packet reaches, from where it is
cut_here : {F : Type 0} (b : Behaviour F) (graph : Graph) (time : ℕ) (frame : List ℕ) (first now : List F) (i : ℕ) (whole : PlainApart) (old new : List ℕ) → GoneLater F → IsRunning b first graph → IsFlowing b graph time frame first now i whole old new → IsWalk b graph time frame first →
    reached graph.stages (walk b time 1 first frame).fate ≡ take i graph.stages ++ reached (drop i graph.stages) (walk b time 1 first frame).fate
cut_here {F} b graph time frame first now i whole old new gone running way walks =
    let e : Ended F = flow b (fixed_of time frame) graph.stages (fields_of frame) first in
    ap (λ w. reached graph.stages w.fate) walks
    ∙ reached_cut graph (map b.profile first) i frame e.end running.full running.lawful (λ p is. gone b (fixed_of time frame) (drop i graph.stages) now (values_in whole) p (ap (λ r. r.end) way.same ∙ is))
    ∙ ap (λ w. take i graph.stages ++ reached (drop i graph.stages) w.fate) (sym walks)

-- the counts, if the packet reaches no more stages than these
counted_all : (graph : Graph) (frame : List ℕ) (i : ℕ) (fate : Fate) (old new : List ℕ) → reached graph.stages fate ≡ take i graph.stages → RaisesAll (made_in graph.stages i frame) old new → RaisesAll (copies_of graph.stages frame fate) old new
counted_all graph frame i fate old new is counted = λ f. counted f ∙ ap (λ l. raised (count_of old f) (if is_some (value f frame) then copies_in l f else 0)) (sym is)

-- a packet that is dropped in the next stage
pub stage_drops : {F : Type 0} (b : Behaviour F) (graph : Graph) (time : ℕ) (frame : List ℕ) (first now after : List F) (i p : ℕ) (whole : PlainApart) (old new newer : List ℕ) (d : Stage) → GoneLater F →
    ((b : Behaviour F) (fixed : Fixed) (stage : Stage) (functions : List F) (values : Values) (position : ℕ) → (staged b fixed stage values functions).end ≡ Gone position → stands position stage ≡ true) →
    IsRunning b first graph → IsFlowing b graph time frame first now i whole old new → IsWalk b graph time frame first → i < length graph.stages →
    after ≡ (staged b whole.fixed (get_or graph.stages i d) (values_in whole) now).functions → Gone p ≡ (staged b whole.fixed (get_or graph.stages i d) (values_in whole) now).end →
    RaisesAll (stage_copies (get_or graph.stages i d) whole) new newer → Ends b graph time frame first after (fates.Gone p) old newer
stage_drops {F} b graph time frame first now after i p whole old new newer d gone here running way walks inside fs ends counted =
    let s : Stage = get_or graph.stages i d in
    let all : ◌≡◌ {A = Ended F} (record { functions = after; end = Gone p }) (flow b (fixed_of time frame) graph.stages (fields_of frame) first) =
    sym (then_gone after p (flow b (fixed_of time frame) (drop (i + 1) graph.stages))) ∙ way_on b graph time frame first now after i whole old new d (Gone p) way inside fs ends in
    let walked : ◌≡◌ {A = Walked F} (record { functions = after; fate = fates.Gone p }) (walk b time 1 first frame) = ap (walked_by frame) all ∙ sym walks in
    let drops : stands p s ≡ true = here b whole.fixed s now (values_in whole) p (sym ends) in
    let cut : reached graph.stages (walk b time 1 first frame).fate ≡ take (i + 1) graph.stages =
    cut_here b graph time frame first now i whole old new gone running way walks
    ∙ ap (λ w. take i graph.stages ++ reached (drop i graph.stages) w.fate) (sym walked)
    ∙ ap (λ l. take i graph.stages ++ l) (ap (λ (l : List Stage). reached l (fates.Gone p)) (drop_more graph.stages i d inside) ∙ last_reached s (drop (i + 1) graph.stages) p drops)
    ∙ sym (take_more graph.stages i d inside) in
    record {
      functions = ap (λ w. w.functions) walked;
      fate = ap (λ w. w.fate) walked;
      counted = counted_all graph frame (i + 1) (walk b time 1 first frame).fate old newer cut (counted_more graph frame i whole old new newer d inside way.there way.counted counted);
    }

flow_over : {F : Type 0} (b : Behaviour F) (fixed : Fixed) (values : Values) (fs : List F) → flow b fixed [] values fs ≡ record { functions = fs; end = Out values }
unfolding flow
flow_over b fixed values fs = refl

-- a packet that passed every stage
pub way_over : {F : Type 0} (b : Behaviour F) (graph : Graph) (time : ℕ) (frame : List ℕ) (first now : List F) (i : ℕ) (whole : PlainApart) (old new : List ℕ) (out : List ℕ) → GoneLater F →
    ((after : Values) → (walk_fields b (fixed_of time frame) 1 first (fields_of frame)).end ≡ Out after → written after (rest_of frame) ≡ written after frame) →
    flow b (fixed_of time frame) graph.stages (fields_of frame) first ≡ walk_fields b (fixed_of time frame) 1 first (fields_of frame) →
    IsRunning b first graph → IsFlowing b graph time frame first now i whole old new → IsWalk b graph time frame first → length graph.stages ≤ i → out ≡ joined whole → Ends b graph time frame first now (fates.Out out) old new
way_over {F} b graph time frame first now i whole old new out gone again chain running way walks past is =
    let all : ◌≡◌ {A = Ended F} (record { functions = now; end = Out (values_in whole) }) (flow b (fixed_of time frame) graph.stages (fields_of frame) first) =
    sym (flow_over b (fixed_of time frame) (values_in whole) now) ∙ ap (λ (l : List Stage). flow b (fixed_of time frame) l (values_in whole) now) (sym (drop_all i graph.stages past)) ∙ way.same in
    let built : out ≡ written (values_in whole) frame =
    is ∙ ap (written (values_in whole)) way.rest ∙ again (values_in whole) (ap (λ e. e.end) (sym chain ∙ sym all)) in
    let walked : ◌≡◌ {A = Walked F} (record { functions = now; fate = fates.Out (written (values_in whole) frame) }) (walk b time 1 first frame) = ap (walked_by frame) all ∙ sym walks in
    let cut : reached graph.stages (walk b time 1 first frame).fate ≡ take i graph.stages =
    cut_here b graph time frame first now i whole old new gone running way walks
    ∙ ap (λ (l : List Stage). take i graph.stages ++ reached l (walk b time 1 first frame).fate) (drop_all i graph.stages past)
    ∙ append-nil (take i graph.stages) in
    record {
      functions = ap (λ w. w.functions) walked;
      fate = ap fates.Out built ∙ ap (λ w. w.fate) walked;
      counted = counted_all graph frame i (walk b time 1 first frame).fate old new cut way.counted;
    }

up_to : (t : Bool) (c a m all now new total : ℕ) → now ≡ raised c (if t then a else 0) → now ≤ new → new ≤ raised now (if t then m else 0) → total ≡ a + all → m ≤ all → (c ≤ new) × (new ≤ raised c (if t then total else 0))
up_to true c a m all now new total x low high e le = (omega arith, omega arith)
up_to false c a m all now new total x low high e le = (omega arith, omega arith)

-- if a stage runs out of memory, the counts are within those of the whole way
pub stage_fails : {F : Type 0} (b : Behaviour F) (graph : Graph) (time : ℕ) (frame : List ℕ) (first now : List F) (i : ℕ) (whole : PlainApart) (old new newer : List ℕ) (d : Stage) → GoneLater F → IsRunning b first graph → IsFlowing b graph time frame first now i whole old new →
    IsWalk b graph time frame first → i < length graph.stages → RaisesUpTo (stage_copies (get_or graph.stages i d) whole) new newer → RaisesUpTo (copies_of graph.stages frame (walk b time 1 first frame).fate) old newer
stage_fails b graph time frame first now i whole old new newer d gone running way walks inside within = λ f.
    let s : Stage = get_or graph.stages i d in
    let fate : Fate = (walk b time 1 first frame).fate in
    let all : copies_in (reached graph.stages fate) f ≡ copies_in (take i graph.stages) f + copies_in (reached (s ∷ drop (i + 1) graph.stages) fate) f =
    ap (λ l. copies_in l f) (cut_here b graph time frame first now i whole old new gone running way walks)
    ∙ copies_append (take i graph.stages) (reached (drop i graph.stages) fate) f
    ∙ ap (λ (l : List Stage). copies_in (take i graph.stages) f + copies_in (reached l fate) f) (drop_more graph.stages i d inside) in
    up_to (is_some (value f frame)) (count_of old f) (copies_in (take i graph.stages) f) (copies s.parts f) (copies_in (reached (s ∷ drop (i + 1) graph.stages) fate) f) (count_of new f) (count_of newer f) (copies_in (reached graph.stages fate) f)
    (way.counted f) (within f).0
    (subst (λ (t : Bool). count_of newer f ≤ raised (count_of new f) (if t then copies s.parts f else 0)) (sym (part_there (packet_parts whole f)) ∙ way.there f) (within f).1)
    all (first_reached s (drop (i + 1) graph.stages) fate f)

pub all_made : (by : Field → ℕ) (old new : List ℕ) → RaisesAll by old new → RaisesUpTo by old new
all_made by old new all = λ f. let is = all f in (omega arith, omega arith)
