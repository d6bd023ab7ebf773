-- Copies by stages are copies by packets.
use Rattle.std.proofs.Common.{◌≡◌, ◌≤◌, ◌+◌, ◌∙◌, ℕ, Bool, true, false, List, ◌∷◌, [], length, map, sym, ap, refl, subst, arith}
use Rattle.std.specs.Prelude.{◌||◌, ◌==◌, if◌then◌else◌, is_some, zip}
use Rattle.std.specs.List.{sum_by, list_any}
use Rattle.std.proofs.lemmas.List.Sums.{sum_by-cons}
use Rattle.packet_fields.specs.declared.field.Field.{Field}
use Rattle.action_profile.specs.Modes.{copies}
use Rattle.chain_walk.specs.FieldWalk.{End, End.Out, End.Gone, Ended}
use Rattle.chain_walk.specs.Counting.{IsQuiet}
use Rattle.chain_walk.specs.Laws.{KeepsProfile}
use Rattle.chain_walk.specs.Shown.{Values}
use Rattle.chain_walk.specs.Step.{Behaviour}
use Rattle.chain_walk.specs.declared.fixed.Fixed.{Fixed}
use Rattle.graph_compile.specs.Facts.{IsLawful, IsFull, positions_of, all_positions, times}
use Rattle.graph_compile.specs.Positions.{holds, stands}
use Rattle.graph_compile.specs.declared.graph.Branch.{Branch}
use Rattle.graph_compile.specs.declared.graph.Graph.{Graph}
use Rattle.graph_compile.specs.declared.graph.Stage.{Stage}
use Rattle.graph_compile.proofs.FiveFacts.{any-count, times-stages}
use Rattle.graph_compile.proofs.Times.{times-append}
use Rattle.graph_law.specs.Flow.{staged, then_flow, flow}
use Rattle.burst_law.specs.Stations.{Turn, one_by_one, weight_along}
use Rattle.burst_law.specs.Owned.{owned_by}
use Rattle.burst_law.specs.Bursts.{Message, Message.Here, Message.Lost, ended, stage_burst, chain_turn, chain_burst}
use Rattle.burst_law.specs.Copies.{due_in, reached_by, copies_for, chain_copies, graph_copies}
use Rattle.burst_law.proofs.Below.{Below}
use Rattle.burst_law.proofs.Bursting.{functions_once, message_walks, turn_profiles}
use Rattle.burst_law.proofs.Positions.{AreOnce, behind_apart, stage_front, stage_back}
use Rattle.burst_law.proofs.Staging.{stage_turn, burst_is_turns, turn_is_staged, left_by_stage}
use Rattle.burst_law.proofs.Stations.{through}

-- the weight of a value at the stations that it goes through
unfoldable weight_through : {P S X : Type 0} → (P → S → X → Turn S X) → (P → X → ℕ) → List P → List S → X → ℕ
weight_through step weigh [] ss x = 0
weight_through step weigh (p ∷ ps) [] x = 0
weight_through step weigh (p ∷ ps) (s ∷ ss) x = weigh p x + weight_through step weigh ps ss (step p s x).gives

-- value by value
unfoldable weight_over : {P S X : Type 0} → (P → S → X → Turn S X) → (P → X → ℕ) → List P → List S → List X → ℕ
weight_over step weigh ps ss [] = 0
weight_over step weigh ps ss (x ∷ xs) = weight_through step weigh ps ss x + weight_over step weigh ps (through step ps ss x).state xs

first_weighed : {P S X : Type 0} (step : P → S → X → Turn S X) (weigh : P → X → ℕ) (p : P) (ps : List P) (s : S) (ss : List S) (xs : List X) →
    weight_over step weigh (p ∷ ps) (s ∷ ss) xs ≡ sum_by (weigh p) xs + weight_over step weigh ps ss (one_by_one (step p) s xs).gives
unfolding weight_over weight_through one_by_one through
first_weighed step weigh p ps s ss [] = refl
first_weighed step weigh p ps s ss (x ∷ xs) =
    let ih = first_weighed step weigh p ps (step p s x).state (through step ps ss (step p s x).gives).state xs in
    let more = sum_by-cons (weigh p) x xs in
    sums _ _ _ _ _ _ ih more
  where
    sums : (a b c d e g : ℕ) → c ≡ d + e → g ≡ a + d → a + b + c ≡ g + (b + e)
    sums a b c d e g i j = omega arith

none_weighed : {P S X : Type 0} (step : P → S → X → Turn S X) (weigh : P → X → ℕ) (ss : List S) (xs : List X) → weight_over step weigh [] ss xs ≡ 0
unfolding weight_over weight_through through
none_weighed step weigh ss [] = refl
none_weighed step weigh ss (x ∷ xs) = let rest = none_weighed step weigh ss xs in omega arith

stateless_weighed : {P S X : Type 0} (step : P → S → X → Turn S X) (weigh : P → X → ℕ) (p : P) (ps : List P) (xs : List X) → weight_over step weigh (p ∷ ps) [] xs ≡ 0
unfolding weight_over weight_through through
stateless_weighed step weigh p ps [] = refl
stateless_weighed step weigh p ps (x ∷ xs) = let rest = stateless_weighed step weigh p ps xs in omega arith

by_weight : {P S X : Type 0} (step : P → S → X → Turn S X) (weigh : P → X → ℕ) (ps : List P) (ss : List S) (xs : List X) → weight_along (λ p. one_by_one (step p)) weigh ps ss xs ≡ weight_over step weigh ps ss xs
unfolding weight_along
by_weight step weigh [] ss xs = sym (none_weighed step weigh ss xs)
by_weight step weigh (p ∷ ps) [] xs = sym (stateless_weighed step weigh p ps xs)
by_weight step weigh (p ∷ ps) (s ∷ ss) xs = ap (λ n. sum_by (weigh p) xs + n) (by_weight step weigh ps ss (one_by_one (step p) s xs).gives) ∙ sym (first_weighed step weigh p ps s ss xs)

weight_same : {P S X : Type 0} (f g : P → S → List X → Turn S (List X)) (weigh : P → X → ℕ) (ps : List P) (ss : List S) (xs : List X) → ((p : P) (s : S) (xs : List X) → f p s xs ≡ g p s xs) → weight_along f weigh ps ss xs ≡ weight_along g weigh ps ss xs
unfolding weight_along
weight_same f g weigh [] ss xs same = refl
weight_same f g weigh (p ∷ ps) [] xs same = refl
weight_same f g weigh (p ∷ ps) (s ∷ ss) xs same =
    ap (λ n. sum_by (weigh p) xs + n) (ap (λ t. weight_along f weigh ps ss t.gives) (same p s xs) ∙ weight_same f g weigh ps ss (g p s xs).gives same)

-- a position that is in stages is one of theirs
branch_times : (q : ℕ) (branches : List Branch) → list_any (holds q) branches ≡ true → 1 ≤ times q (positions_of branches)
branch_times q [] e = absurd cc
branch_times q (x ∷ branches) e = go (holds q x) refl e (λ h. branch_times q branches h)
  where
    go : (t : Bool) → holds q x ≡ t → (t || list_any (holds q) branches) ≡ true → (list_any (holds q) branches ≡ true → 1 ≤ times q (positions_of branches)) → 1 ≤ times q (positions_of (x ∷ branches))
    go true is e later = let c = any-count (λ r. r == q) x.positions is in let t = times-append q x.positions (positions_of branches) in omega arith
    go false is e later = let c = later e in let t = times-append q x.positions (positions_of branches) in omega arith

stage_times : (q : ℕ) (stages : List Stage) → list_any (stands q) stages ≡ true → 1 ≤ times q (all_positions stages)
stage_times q [] e = absurd cc
stage_times q (s ∷ stages) e = go (stands q s) refl e (λ h. stage_times q stages h)
  where
    go : (t : Bool) → stands q s ≡ t → (t || list_any (stands q) stages) ≡ true → (list_any (stands q) stages ≡ true → 1 ≤ times q (all_positions stages)) → 1 ≤ times q (all_positions (s ∷ stages))
    go true is e later = let c = branch_times q s.branches is in let t = times-stages q s stages in omega arith
    go false is e later = let c = later e in let t = times-stages q s stages in omega arith

-- a position after a stage isn't in it
not_in_both : (n q : ℕ) (s : Stage) (stages : List Stage) → AreOnce n (all_positions (s ∷ stages)) → list_any (stands q) stages ≡ true → stands q s ≡ false
not_in_both n q s stages h e = go (stands q s) refl
  where
    go : (t : Bool) → stands q s ≡ t → stands q s ≡ false
    go false is = is
    go true is = absurd (let c = branch_times q s.branches is in let none = behind_apart n s stages h q (stage_times q stages e) in omega arith)

-- a dropped packet makes no copies
gone_weighs : {F : Type 0} (b : Behaviour F) (f : Field) (stages : List Stage) (own : List (List (List F))) (q : ℕ) → weight_through (stage_turn b) (due_in f) stages own (Lost q) ≡ 0
unfolding weight_through
gone_weighs b f [] own q = refl
gone_weighs b f (s ∷ stages) [] q = refl
gone_weighs b f (s ∷ stages) (o ∷ own) q = let rest = gone_weighs b f stages own q in omega arith

-- the stages after one, if the packet has the field
after_stage : (f : Field) (s : Stage) (stages : List Stage) (fixed : Fixed) (values : Values) (end last : End) (rest : ℕ) → rest ≡ copies_for stages f (ended fixed end) (ended fixed last) →
    ((after : Values) → end ≡ Out after → is_some (after f) ≡ is_some (values f)) → ((q : ℕ) → end ≡ Gone q → (last ≡ Gone q) × (stands q s ≡ true)) → ((after : Values) (q : ℕ) → end ≡ Out after → last ≡ Gone q → stands q s ≡ false) →
    due_in f s (Here fixed values) + rest ≡ copies_for (s ∷ stages) f (Here fixed values) (ended fixed last)
after_stage f s stages fixed values (Gone q) last rest is there here later = by_last last (here q refl).0 (here q refl).1 is
  where
    by_last : (l : End) → l ≡ Gone q → stands q s ≡ true → rest ≡ 0 → due_in f s (Here fixed values) + rest ≡ copies_for (s ∷ stages) f (Here fixed values) (ended fixed l)
    by_last l e stood none = subst (λ l. due_in f s (Here fixed values) + rest ≡ copies_for (s ∷ stages) f (Here fixed values) (ended fixed l)) (sym e) (by_field (is_some (values f)))
      where
        by_field : (t : Bool) → (if t then copies s.parts f else 0) + rest ≡ (if t then sum_by (λ x. copies x.parts f) (s ∷ (if stands q s then [] else reached_by stages (Lost q))) else 0)
        by_field true = rw stood (let c = sum_by-cons (λ (x : Stage). copies x.parts f) s [] in let z = sum_by-cons (λ (x : Stage). copies x.parts f) s [] in simple _ _ _ none c)
          where
            simple : (a r t : ℕ) → r ≡ 0 → t ≡ a + 0 → a + r ≡ t
            simple a r t e g = omega arith
        by_field false = omega arith
after_stage f s stages fixed values (Out after) last rest is there here later = by_last last (λ q e. later after q refl e) is
  where
    add_rest : (t u : Bool) (l : List Stage) → u ≡ t → rest ≡ (if u then sum_by (λ (x : Stage). copies x.parts f) l else 0) → (if t then copies s.parts f else 0) + rest ≡ (if t then sum_by (λ (x : Stage). copies x.parts f) (s ∷ l) else 0)
    add_rest true true l e r = let c = sum_by-cons (λ (x : Stage). copies x.parts f) s l in sums _ _ _ _ r c
      where
        sums : (a r t u : ℕ) → r ≡ t → u ≡ a + t → a + r ≡ u
        sums a r t u e g = omega arith
    add_rest true false l e r = absurd cc
    add_rest false true l e r = absurd cc
    add_rest false false l e r = omega arith

    by_last : (l : End) → ((q : ℕ) → l ≡ Gone q → stands q s ≡ false) → rest ≡ copies_for stages f (Here fixed after) (ended fixed l) → due_in f s (Here fixed values) + rest ≡ copies_for (s ∷ stages) f (Here fixed values) (ended fixed l)
    by_last (Out v) not_here r = add_rest (is_some (values f)) (is_some (after f)) (reached_by stages (Here fixed v)) (there after refl) r
    by_last (Gone q) not_here r = add_rest (is_some (values f)) (is_some (after f)) (reached_by stages (Lost q)) (there after refl) r
        ∙ ap (λ t. if is_some (values f) then sum_by (λ (x : Stage). copies x.parts f) (s ∷ (if t then [] else reached_by stages (Lost q))) else 0) (sym (not_here q refl))

none_copied : (t : Bool) → ◌≡◌ {A = ℕ} 0 (if t then 0 else 0)
none_copied true = refl
none_copied false = refl

-- one packet through stages
turns_weigh : {F : Type 0} (b : Behaviour F) (f : Field) (fixed : Fixed) (stages : List Stage) (values : Values) (fs : List F) → Below F → KeepsProfile b → AreOnce (length fs) (all_positions stages) →
    weight_through (stage_turn b) (due_in f) stages (owned_by stages fs) (Here fixed values) ≡ copies_for stages f (Here fixed values) (ended fixed (flow b fixed stages values fs).end)
unfolding weight_through flow then_flow
turns_weigh b f fixed [] values fs below law h = none_copied (is_some (values f))
turns_weigh {F} b f fixed (s ∷ stages) values fs below law h =
    ap (λ t. due_in f s (Here fixed values) + weight_through (stage_turn b) (due_in f) stages (owned_by stages fs) t.gives) (turn_is_staged b fixed s values fs below (stage_front (length fs) s stages h))
    ∙ ap (λ o. due_in f s (Here fixed values) + weight_through (stage_turn b) (due_in f) stages o (ended fixed w.end)) (sym (left_by_stage b fixed s stages values fs h))
    ∙ after_stage f s stages fixed values w.end (then_flow done w.end (flow b fixed stages)).end _
    (rest w.end (λ after. turns_weigh b f fixed stages after done below law (subst (λ n. AreOnce n (all_positions stages)) (sym (below.stage_length b fixed s.branches s.parts.touches fs values)) (stage_back (length fs) s stages h))))
    (λ after e. below.fields b fixed s fs values after f law e)
    (λ q e. (ap (λ x. (then_flow done x (flow b fixed stages)).end) e, below.dropped_in b fixed s fs values q e))
    (λ after q e l. not_in_both (length fs) q s stages h (below.dropped_behind b fixed stages done after q (sym (ap (λ x. (then_flow done x (flow b fixed stages)).end) e) ∙ l)))
  where
    w : Ended F
    w = staged b fixed s values fs

    done : List F
    done = w.functions

    rest : (end : End) → ((after : Values) → weight_through (stage_turn b) (due_in f) stages (owned_by stages done) (Here fixed after) ≡ copies_for stages f (Here fixed after) (ended fixed (flow b fixed stages after done).end)) →
        weight_through (stage_turn b) (due_in f) stages (owned_by stages done) (ended fixed end) ≡ copies_for stages f (ended fixed end) (ended fixed (then_flow done end (flow b fixed stages)).end)
    rest (Out after) on = on after
    rest (Gone q) on = gone_weighs b f stages (owned_by stages done) q

message_weighs : {F : Type 0} (b : Behaviour F) (f : Field) (graph : Graph) (fs : List F) (m : Message) → Below F → KeepsProfile b → IsQuiet b → IsLawful graph (map b.profile fs) → IsFull graph →
    weight_through (stage_turn b) (due_in f) graph.stages (owned_by graph.stages fs) m ≡ copies_for graph.stages f m (chain_turn b 1 fs m).gives
message_weighs b f graph fs (Here fixed values) below law calm lawful full =
    turns_weigh b f fixed graph.stages values fs below law (functions_once b graph fs lawful)
    ∙ ap (λ w. copies_for graph.stages f (Here fixed values) (ended fixed w.end)) (below.chain b fixed graph fs values law calm lawful full)
message_weighs b f graph fs (Lost q) below law calm lawful full = gone_weighs b f graph.stages (owned_by graph.stages fs) q

burst_weighs : {F : Type 0} (b : Behaviour F) (f : Field) (graph : Graph) (fs : List F) (ms : List Message) → Below F → KeepsProfile b → IsQuiet b → IsLawful graph (map b.profile fs) → IsFull graph →
    weight_over (stage_turn b) (due_in f) graph.stages (owned_by graph.stages fs) ms ≡ chain_copies b graph.stages f fs ms
unfolding weight_over one_by_one
burst_weighs b f graph fs [] below law calm lawful full = refl
burst_weighs {F} b f graph fs (m ∷ ms) below law calm lawful full =
    (λ i. message_weighs b f graph fs m below law calm lawful full i + weight_over (stage_turn b) (due_in f) graph.stages (state i) ms)
    ∙ ap (λ n. copies_for graph.stages f m (chain_turn b 1 fs m).gives + n) (burst_weighs b f graph (chain_turn b 1 fs m).state ms below law calm (subst (IsLawful graph) (sym (turn_profiles b graph fs m below law calm lawful full)) lawful) full)
    ∙ sym (sum_by-cons (λ x. copies_for graph.stages f x.0 x.1) (m, (chain_turn b 1 fs m).gives) (zip ms (chain_burst b (chain_turn b 1 fs m).state ms).gives))
  where
    state : (through (stage_turn b) graph.stages (owned_by graph.stages fs) m).state ≡ owned_by graph.stages (chain_turn b 1 fs m).state
    state = ap (λ t. t.state) (message_walks b graph fs m below law calm lawful full)

pub copies_same : {F : Type 0} (b : Behaviour F) (f : Field) (graph : Graph) (fs : List F) (ms : List Message) → Below F → KeepsProfile b → IsQuiet b → IsLawful graph (map b.profile fs) → IsFull graph →
    graph_copies b graph.stages f (owned_by graph.stages fs) ms ≡ chain_copies b graph.stages f fs ms
copies_same b f graph fs ms below law calm lawful full =
    weight_same (stage_burst b) (λ s. one_by_one (stage_turn b s)) (due_in f) graph.stages (owned_by graph.stages fs) ms (burst_is_turns b)
    ∙ (by_weight (stage_turn b) (due_in f) graph.stages (owned_by graph.stages fs) ms ∙ burst_weighs b f graph fs ms below law calm lawful full)
