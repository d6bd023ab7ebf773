-- What the branches of a stage note, and the stages of a graph: what is still to come.
use Rattle.std.proofs.Common.{◌≡◌, ◌∙◌, ◌≤◌, ◌<◌, ◌+◌, ℕ, List, [], ◌∷◌, ◌++◌, append_assoc, length, drop, map, get_or, sym, ap, refl, arith}
use Rattle.std.specs.Prelude.{Option, None}
use Rattle.std.proofs.lemmas.List.{drop_more, drop_all, append-nil}
use Rattle.action_profile.specs.declared.parts.Touch.{Touch}
use Rattle.packet_fields.specs.Writing.{fields_of}
use Rattle.chain_walk.specs.Shown.{Values, fixed_of}
use Rattle.chain_walk.specs.FieldWalk.{End, End.Out, End.Gone}
use Rattle.chain_walk.specs.Notes.{Notes}
use Rattle.chain_walk.specs.Step.{Behaviour}
use Rattle.chain_walk.specs.declared.fixed.Fixed.{Fixed}
use Rattle.graph_compile.specs.declared.graph.Branch.{Branch}
use Rattle.graph_compile.specs.declared.graph.Graph.{Graph}
use Rattle.graph_compile.specs.declared.graph.Stage.{Stage}
use Rattle.graph_law.specs.Branches.{BranchEnd.Live, in_turn, dealt as dealt_by_law}
use Rattle.graph_law.specs.BranchNotes.{in_turn_notes, branched_notes, then_notes, no_notes, flow_notes}
use Rattle.graph_law.specs.Flow.{staged}
use Rattle.burst_law.specs.Placed.{PlacedNote, placed, placed_in, placed_by}
use Rattle.packet_version.specs.Dealing.{dealt, dealt_whole}
use Rattle.packet_version.specs.Splitting.{PlainApart, split_parts, packet_parts}
use Rattle.packet_version.specs.Versions.{PlainVersion}
use Rattle.merge_ops.specs.declared.arrival.Arrival.{Arrival}
use Rattle.merge_ops.specs.declared.merging.Merged.{Merged}
use Rattle.merge_ops.specs.declared.merging.Merged.TheVariants as ends
use Rattle.graph_run.specs.Carrying.{as_version, values_in, as_end}
use Rattle.graph_run.proofs.Branching.{Owned, HasRun, ReadySomewhere, next_touch, branch_inside, dealt_is}
use Rattle.graph_run.proofs.WayThroughStages.{IsFlowing, split_values}

-- what was noted, and what the remaining branches note, is what all note
abbrev pub BranchesNoted : {F N : Type 0} → Behaviour F → Notes F N → Stage → PlainApart → List F → List F → ℕ → List (PlacedNote N) → List (PlacedNote N) → Type 0
BranchesNoted b notes stage whole first now j before listed =
    listed ++ placed_in (drop j stage.branches) (branched_notes b notes whole.fixed (drop j stage.branches) (drop j stage.parts.touches) (values_in whole) now)
    ≡ before ++ placed_in stage.branches (branched_notes b notes whole.fixed stage.branches stage.parts.touches (values_in whole) first)

one_branch : {F N : Type 0} (b : Behaviour F) (notes : Notes F N) (fixed : Fixed) (x : Branch) (branches : List Branch) (t : Touch) (touches : List Touch) (values : Values) (fs : List F) →
    placed x.positions (in_turn_notes b notes fixed x.positions fs (dealt_by_law t values)) ++ placed_in branches (branched_notes b notes fixed branches touches values (in_turn b fixed x.positions fs (dealt_by_law t values)).functions)
    ≡ placed_in (x ∷ branches) (branched_notes b notes fixed (x ∷ branches) (t ∷ touches) values fs)
unfolding placed_in branched_notes
one_branch b notes fixed x branches t touches values fs = refl

no_branch : {F N : Type 0} (b : Behaviour F) (notes : Notes F N) (fixed : Fixed) (branches : List Branch) (values : Values) (fs : List F) → placed_in branches (branched_notes b notes fixed branches [] values fs) ≡ []
unfolding placed_in branched_notes
no_branch b notes fixed [] values fs = refl
no_branch b notes fixed (x ∷ branches) values fs = refl

-- one more branch
pub branch_noted : {F N : Type 0} (b : Behaviour F) (notes : Notes F N) (stage : Stage) (whole : PlainApart) (first now after : List F) (j : ℕ) (done : List Arrival) (was rest : List PlainVersion) (version : PlainVersion) (d : Branch) (positions : List ℕ) (before listed more : List (PlacedNote N)) →
    Owned → HasRun b stage whole first now j done was → was ≡ version ∷ rest → ReadySomewhere b first stage whole → positions ≡ (get_or stage.branches j d).positions →
    after ≡ (in_turn b version.fixed positions now (Live (as_version version))).functions →
    BranchesNoted b notes stage whole first now j before listed → more ≡ listed ++ placed positions (in_turn_notes b notes version.fixed positions now (Live (as_version version))) →
    BranchesNoted b notes stage whole first after (j + 1) before more
branch_noted {F} {N} b notes stage whole first now after j done was rest version d positions before listed more owned run takes ready at fs due push =
    let next = next_touch whole stage.parts.touches j version rest (sym takes ∙ run.left) in
    let inside = branch_inside b stage whole first now j done was rest version owned run takes ready in
    let x : Branch = get_or stage.branches j d in
    let branches : List Branch = drop (j + 1) stage.branches in
    let touches : List Touch = drop (j + 1) stage.parts.touches in
    let later : List F → List (PlacedNote N) = λ l. placed_in branches (branched_notes b notes whole.fixed branches touches (values_in whole) l) in
    ap (λ l. l ++ later after) push
    ∙ append_assoc listed (placed positions (in_turn_notes b notes version.fixed positions now (Live (as_version version)))) (later after)
    ∙ ap (λ l. listed ++ l)
    (ap (λ l. placed positions (in_turn_notes b notes version.fixed positions now (Live (as_version version))) ++ later l) fs
    ∙ ap (λ l. placed l (in_turn_notes b notes version.fixed l now (Live (as_version version))) ++ later (in_turn b version.fixed l now (Live (as_version version))).functions) at
    ∙ ap (λ (v : PlainVersion). placed x.positions (in_turn_notes b notes v.fixed x.positions now (Live (as_version v))) ++ later (in_turn b v.fixed x.positions now (Live (as_version v))).functions) next.dealt_so
    ∙ ap (λ a. placed x.positions (in_turn_notes b notes whole.fixed x.positions now a) ++ later (in_turn b whole.fixed x.positions now a).functions) (dealt_is whole next.touch)
    ∙ one_branch b notes whole.fixed x branches next.touch touches (values_in whole) now
    ∙ (λ i. placed_in (sym (drop_more stage.branches j d inside) i) (branched_notes b notes whole.fixed (sym (drop_more stage.branches j d inside) i) (sym next.cut i) (values_in whole) now)))
    ∙ due

map_none : {A B : Type 0} (f : A → B) (l : List A) → [] ≡ map f l → l ≡ []
map_none f [] e = refl
map_none f (x ∷ l) e = absurd cc

-- all branches have run
pub branches_noted : {F N : Type 0} (b : Behaviour F) (notes : Notes F N) (stage : Stage) (whole : PlainApart) (first now : List F) (j : ℕ) (done : List Arrival) (rest : List PlainVersion) (before listed : List (PlacedNote N)) →
    HasRun b stage whole first now j done rest → rest ≡ [] → BranchesNoted b notes stage whole first now j before listed →
    listed ≡ before ++ placed_in stage.branches (branched_notes b notes whole.fixed stage.branches stage.parts.touches (values_in whole) first)
branches_noted b notes stage whole first now j done rest before listed run none due =
    sym (append-nil listed)
    ∙ ap (λ l. listed ++ l) (sym (no_branch b notes whole.fixed (drop j stage.branches) (values_in whole) now))
    ∙ ap (λ (l : List Touch). listed ++ placed_in (drop j stage.branches) (branched_notes b notes whole.fixed (drop j stage.branches) l (values_in whole) now)) (sym (map_none (dealt whole) (drop j stage.parts.touches) (sym none ∙ run.left)))
    ∙ due

-- the only branch of a stage, which has the whole packet
pub only_noted : {F N : Type 0} (b : Behaviour F) (notes : Notes F N) (stage : Stage) (whole : PlainApart) (first : List F) (t : Touch) (v : PlainVersion) (d : Branch) (positions : List ℕ) (before after : List (PlacedNote N)) → length stage.branches ≡ 1 →
    stage.parts.touches ≡ t ∷ [] → v ≡ dealt_whole whole t → positions ≡ (get_or stage.branches 0 d).positions →
    after ≡ before ++ placed positions (in_turn_notes b notes v.fixed positions first (Live (as_version v))) →
    after ≡ before ++ placed_in stage.branches (branched_notes b notes whole.fixed stage.branches stage.parts.touches (values_in whole) first)
only_noted {F} {N} b notes stage whole first t v d positions before after one touches is at all =
    all
    ∙ ap (λ l. before ++ l)
    (ap (λ (x : PlainVersion). placed positions (in_turn_notes b notes x.fixed positions first (Live (as_version x)))) is
    ∙ ap (λ l. placed l (in_turn_notes b notes whole.fixed l first (Live (as_version (dealt whole t))))) at
    ∙ ap (λ a. placed x.positions (in_turn_notes b notes whole.fixed x.positions first a)) (dealt_is whole t)
    ∙ sym (append-nil (placed x.positions (in_turn_notes b notes whole.fixed x.positions first (dealt_by_law t (values_in whole)))))
    ∙ ap (λ l. placed x.positions (in_turn_notes b notes whole.fixed x.positions first (dealt_by_law t (values_in whole))) ++ l) (sym (no_branch b notes whole.fixed [] (values_in whole) (in_turn b whole.fixed x.positions first (dealt_by_law t (values_in whole))).functions))
    ∙ one_branch b notes whole.fixed x [] t [] (values_in whole) first
    ∙ (λ j. placed_in (sym (single stage.branches one) j) (branched_notes b notes whole.fixed (sym (single stage.branches one) j) (sym touches j) (values_in whole) first)))
  where
    x : Branch
    x = get_or stage.branches 0 d

    single : (bs : List Branch) → length bs ≡ 1 → bs ≡ get_or bs 0 d ∷ []
    single [] e = absurd (omega arith)
    single (y ∷ []) e = refl
    single (y ∷ z ∷ bs) e = absurd (omega arith)

-- what was noted, and what is noted in the remaining stages, is what is noted in all
abbrev pub StagesNoted : {F N : Type 0} → Behaviour F → Notes F N → Graph → ℕ → List ℕ → List F → List F → ℕ → PlainApart → List (PlacedNote N) → List (PlacedNote N) → Type 0
StagesNoted b notes graph time frame first now i whole before listed =
    listed ++ placed_by (drop i graph.stages) (flow_notes b notes (fixed_of time frame) (drop i graph.stages) (values_in whole) now)
    ≡ before ++ placed_by graph.stages (flow_notes b notes (fixed_of time frame) graph.stages (fields_of frame) first)

pub stages_unnoted : {F N : Type 0} (b : Behaviour F) (notes : Notes F N) (graph : Graph) (time : ℕ) (frame : List ℕ) (first : List F) (taggers : ℕ) (whole : PlainApart) (before : List (PlacedNote N)) → packet_parts whole ≡ split_parts taggers frame →
    StagesNoted b notes graph time frame first first 0 whole before before
stages_unnoted b notes graph time frame first taggers whole before parts =
    ap (λ (v : Values). before ++ placed_by graph.stages (flow_notes b notes (fixed_of time frame) graph.stages v first)) (split_values taggers frame whole parts)

one_stage : {F N : Type 0} (b : Behaviour F) (notes : Notes F N) (fixed : Fixed) (s : Stage) (stages : List Stage) (values : Values) (fs : List F) →
    placed_in s.branches (branched_notes b notes fixed s.branches s.parts.touches values fs) ++ placed_by stages (then_notes stages (staged b fixed s values fs).functions (staged b fixed s values fs).end (flow_notes b notes fixed stages))
    ≡ placed_by (s ∷ stages) (flow_notes b notes fixed (s ∷ stages) values fs)
unfolding placed_by flow_notes
one_stage b notes fixed s stages values fs = refl

-- one more stage, whatever its result
stage_more : {F N : Type 0} (b : Behaviour F) (notes : Notes F N) (graph : Graph) (time : ℕ) (frame : List ℕ) (first now after : List F) (i : ℕ) (whole : PlainApart) (old new : List ℕ) (s : Stage) (end : End) (before listed more : List (PlacedNote N)) →
    IsFlowing b graph time frame first now i whole old new → i < length graph.stages → s ≡ get_or graph.stages i s →
    after ≡ (staged b whole.fixed s (values_in whole) now).functions → end ≡ (staged b whole.fixed s (values_in whole) now).end →
    StagesNoted b notes graph time frame first now i whole before listed → more ≡ listed ++ placed_in s.branches (branched_notes b notes whole.fixed s.branches s.parts.touches (values_in whole) now) →
    more ++ placed_by (drop (i + 1) graph.stages) (then_notes (drop (i + 1) graph.stages) after end (flow_notes b notes (fixed_of time frame) (drop (i + 1) graph.stages)))
    ≡ before ++ placed_by graph.stages (flow_notes b notes (fixed_of time frame) graph.stages (fields_of frame) first)
stage_more {F} {N} b notes graph time frame first now after i whole old new s end before listed more way inside is fs comes due push =
    let stages : List Stage = drop (i + 1) graph.stages in
    let on : Values → List F → List (List (List (Option N))) = flow_notes b notes (fixed_of time frame) stages in
    let here : Fixed → List (PlacedNote N) = λ x. placed_in s.branches (branched_notes b notes x s.branches s.parts.touches (values_in whole) now) in
    ap (λ l. l ++ placed_by stages (then_notes stages after end on)) push
    ∙ append_assoc listed (here whole.fixed) (placed_by stages (then_notes stages after end on))
    ∙ ap (λ l. listed ++ l)
    ((λ j. here whole.fixed ++ placed_by stages (then_notes stages (fs j) (comes j) on))
    ∙ ap (λ (x : Fixed). here x ++ placed_by stages (then_notes stages (staged b x s (values_in whole) now).functions (staged b x s (values_in whole) now).end on)) way.fixed
    ∙ one_stage b notes (fixed_of time frame) s stages (values_in whole) now
    ∙ ap (λ (l : List Stage). placed_by l (flow_notes b notes (fixed_of time frame) l (values_in whole) now)) (ap (λ x. x ∷ stages) is ∙ sym (drop_more graph.stages i s inside)))
    ∙ due

then_out : {F N : Type 0} (stages : List Stage) (fs : List F) (values : Values) (on : Values → List F → List (List (List (Option N)))) → then_notes stages fs (Out values) on ≡ on values fs
unfolding then_notes
then_out stages fs values on = refl

then_gone : {F N : Type 0} (stages : List Stage) (fs : List F) (p : ℕ) (on : Values → List F → List (List (List (Option N)))) → then_notes stages fs (Gone p) on ≡ no_notes stages
unfolding then_notes
then_gone stages fs p on = refl

none_placed : {N : Type 0} (qs : List ℕ) → placed {N = N} qs (map (λ q. None) qs) ≡ []
unfolding placed
none_placed [] = refl
none_placed (q ∷ qs) = none_placed qs

none_in : {N : Type 0} (branches : List Branch) → placed_in {N = N} branches (map (λ x. map (λ q. None) x.positions) branches) ≡ []
unfolding placed_in
none_in [] = refl
none_in {N} (x ∷ branches) = (λ j. none_placed {N = N} x.positions j ++ none_in {N = N} branches j)

none_by : {N : Type 0} (stages : List Stage) → placed_by {N = N} stages (no_notes stages) ≡ []
unfolding placed_by
none_by [] = refl
none_by {N} (s ∷ stages) = (λ j. none_in {N = N} s.branches j ++ none_by {N = N} stages j)

-- the packet goes on after the stage
pub stage_noted : {F N : Type 0} (b : Behaviour F) (notes : Notes F N) (graph : Graph) (time : ℕ) (frame : List ℕ) (first now after : List F) (i : ℕ) (whole next : PlainApart) (old new : List ℕ) (s : Stage) (merged : Merged) (before listed more : List (PlacedNote N)) →
    IsFlowing b graph time frame first now i whole old new → i < length graph.stages → s ≡ get_or graph.stages i s →
    after ≡ (staged b whole.fixed s (values_in whole) now).functions → as_end merged ≡ (staged b whole.fixed s (values_in whole) now).end → merged ≡ ends.Whole next →
    StagesNoted b notes graph time frame first now i whole before listed → more ≡ listed ++ placed_in s.branches (branched_notes b notes whole.fixed s.branches s.parts.touches (values_in whole) now) →
    StagesNoted b notes graph time frame first after (i + 1) next before more
stage_noted b notes graph time frame first now after i whole next old new s merged before listed more way inside is fs comes goes due push =
    ap (λ l. more ++ placed_by (drop (i + 1) graph.stages) l) (sym (then_out (drop (i + 1) graph.stages) after (values_in next) (flow_notes b notes (fixed_of time frame) (drop (i + 1) graph.stages))))
    ∙ stage_more b notes graph time frame first now after i whole old new s (Out (values_in next)) before listed more way inside is fs (ap as_end (sym goes) ∙ comes) due push

-- or is dropped there
pub stage_dropped : {F N : Type 0} (b : Behaviour F) (notes : Notes F N) (graph : Graph) (time : ℕ) (frame : List ℕ) (first now after : List F) (i p : ℕ) (whole : PlainApart) (old new : List ℕ) (s : Stage) (merged : Merged) (before listed more : List (PlacedNote N)) →
    IsFlowing b graph time frame first now i whole old new → i < length graph.stages → s ≡ get_or graph.stages i s →
    after ≡ (staged b whole.fixed s (values_in whole) now).functions → as_end merged ≡ (staged b whole.fixed s (values_in whole) now).end → merged ≡ ends.Gone p →
    StagesNoted b notes graph time frame first now i whole before listed → more ≡ listed ++ placed_in s.branches (branched_notes b notes whole.fixed s.branches s.parts.touches (values_in whole) now) →
    more ≡ before ++ placed_by graph.stages (flow_notes b notes (fixed_of time frame) graph.stages (fields_of frame) first)
stage_dropped {F} {N} b notes graph time frame first now after i p whole old new s merged before listed more way inside is fs comes goes due push =
    sym (append-nil more)
    ∙ ap (λ l. more ++ l) (sym (none_by {N = N} (drop (i + 1) graph.stages)))
    ∙ ap (λ l. more ++ placed_by (drop (i + 1) graph.stages) l) (sym (then_gone (drop (i + 1) graph.stages) after p (flow_notes b notes (fixed_of time frame) (drop (i + 1) graph.stages))))
    ∙ stage_more b notes graph time frame first now after i whole old new s (Gone p) before listed more way inside is fs (ap as_end (sym goes) ∙ comes) due push

-- the packet has passed all stages
pub stages_noted : {F N : Type 0} (b : Behaviour F) (notes : Notes F N) (graph : Graph) (time : ℕ) (frame : List ℕ) (first now : List F) (i : ℕ) (whole : PlainApart) (before listed : List (PlacedNote N)) → length graph.stages ≤ i →
    StagesNoted b notes graph time frame first now i whole before listed → listed ≡ before ++ placed_by graph.stages (flow_notes b notes (fixed_of time frame) graph.stages (fields_of frame) first)
unfolding placed_by flow_notes
stages_noted b notes graph time frame first now i whole before listed past due =
    sym (append-nil listed) ∙ ap (λ (l : List Stage). listed ++ placed_by l (flow_notes b notes (fixed_of time frame) l (values_in whole) now)) (sym (drop_all i graph.stages past)) ∙ due
