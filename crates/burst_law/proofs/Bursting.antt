-- All packets through the stages of a lawful graph, and packets that walk.
use Rattle.std.proofs.Common.{◌≡◌, ◌<◌, ◌≤◌, ◌+◌, ◌-◌, ◌∙◌, ℕ, zero, suc, List, ◌∷◌, [], length, map, sym, ap, refl, subst, arith, Some, inl, inr, ne_eqb, ◌≢◌}
use Rattle.std.specs.Prelude.{◌⊎◌, ◌==◌, slice_get}
use Rattle.std.specs.List.{cons_option}
use Rattle.std.proofs.lemmas.List.{length-map}
use Rattle.chain_walk.specs.Counting.{IsQuiet}
use Rattle.chain_walk.specs.Laws.{KeepsProfile}
use Rattle.chain_walk.specs.Step.{Behaviour}
use Rattle.graph_compile.specs.Facts.{IsLawful, IsFull, positions_of, all_positions, times}
use Rattle.graph_compile.specs.declared.graph.Branch.{Branch}
use Rattle.graph_compile.specs.declared.graph.Graph.{Graph}
use Rattle.graph_compile.specs.declared.graph.Stage.{Stage}
use Rattle.graph_compile.proofs.Counting.{one_if}
use Rattle.graph_compile.proofs.FiveFacts.{times-stages}
use Rattle.graph_compile.proofs.Times.{times-cons, times-append}
use Rattle.burst_law.specs.Stations.{Turn, one_by_one}
use Rattle.burst_law.specs.Owned.{owned, owned_in, owned_by}
use Rattle.burst_law.specs.Bursts.{Message, Message.Here, Message.Lost, stage_burst, graph_burst, chain_turn, chain_burst}
use Rattle.burst_law.proofs.Below.{Below}
use Rattle.burst_law.proofs.Positions.{got, stage_at, branch_at, owned_count, owned_each, AreOnce, AreSame, times_here, once_rest, once_front, once_back, stage_front, stage_back, lawful_once}
use Rattle.burst_law.proofs.Staging.{stage_turn, burst_is_turns, flowed_by, gone_through, turns_flow}
use Rattle.burst_law.proofs.Stations.{through, by_stations, along_same, seen_otherwise}

pub functions_once : {F : Type 0} (b : Behaviour F) (graph : Graph) (fs : List F) → IsLawful graph (map b.profile fs) → AreOnce (length fs) (all_positions graph.stages)
functions_once b graph fs lawful = subst (λ n. AreOnce n (all_positions graph.stages)) (length-map fs b.profile) (lawful_once graph (map b.profile fs) lawful)

-- one packet through all stages, and its walk
pub message_walks : {F : Type 0} (b : Behaviour F) (graph : Graph) (fs : List F) (m : Message) → Below F → KeepsProfile b → IsQuiet b → IsLawful graph (map b.profile fs) → IsFull graph →
    through (stage_turn b) graph.stages (owned_by graph.stages fs) m ≡ record { state = owned_by graph.stages (chain_turn b 1 fs m).state; gives = (chain_turn b 1 fs m).gives }
message_walks b graph fs (Here fixed values) below law calm lawful full =
    turns_flow b fixed graph.stages values fs below (functions_once b graph fs lawful) ∙ ap (flowed_by graph.stages fixed) (below.chain b fixed graph fs values law calm lawful full)
message_walks b graph fs (Lost q) below law calm lawful full = gone_through b graph.stages (owned_by graph.stages fs) q

pub turn_profiles : {F : Type 0} (b : Behaviour F) (graph : Graph) (fs : List F) (m : Message) → Below F → KeepsProfile b → IsQuiet b → IsLawful graph (map b.profile fs) → IsFull graph → map b.profile (chain_turn b 1 fs m).state ≡ map b.profile fs
turn_profiles b graph fs (Here fixed values) below law calm lawful full = ap (λ w. map b.profile w.functions) (sym (below.chain b fixed graph fs values law calm lawful full)) ∙ below.profiles b fixed graph.stages fs values law
turn_profiles b graph fs (Lost q) below law calm lawful full = refl

pub burst_profiles : {F : Type 0} (b : Behaviour F) (graph : Graph) (fs : List F) (ms : List Message) → Below F → KeepsProfile b → IsQuiet b → IsLawful graph (map b.profile fs) → IsFull graph → map b.profile (chain_burst b fs ms).state ≡ map b.profile fs
unfolding one_by_one
burst_profiles b graph fs [] below law calm lawful full = refl
burst_profiles b graph fs (m ∷ ms) below law calm lawful full =
    let here : map b.profile (chain_turn b 1 fs m).state ≡ map b.profile fs = turn_profiles b graph fs m below law calm lawful full in
    burst_profiles b graph (chain_turn b 1 fs m).state ms below law calm (subst (IsLawful graph) (sym here) lawful) full ∙ here

-- a burst through a lawful graph
pub burst_walks : {F : Type 0} (b : Behaviour F) (graph : Graph) (functions : List F) (ms : List Message) → Below F → KeepsProfile b → IsQuiet b → IsLawful graph (map b.profile functions) → IsFull graph →
    ◌≡◌ {A = Turn (List (List (List F))) (List Message)} (graph_burst b graph.stages (owned_by graph.stages functions) ms)
    (record { state = owned_by graph.stages (chain_burst b functions ms).state; gives = (chain_burst b functions ms).gives })
burst_walks {F} b graph functions ms below law calm lawful full =
    along_same (stage_burst b) (λ s. one_by_one (stage_turn b s)) graph.stages (owned_by graph.stages functions) ms (burst_is_turns b)
    ∙ (sym (by_stations (stage_turn b) graph.stages (owned_by graph.stages functions) ms)
    ∙ seen_otherwise (λ fs. map b.profile fs ≡ map b.profile functions) (owned_by graph.stages) (chain_turn b 1) (through (stage_turn b) graph.stages) functions ms refl
    (λ fs m same. turn_profiles b graph fs m below law calm (subst (IsLawful graph) (sym same) lawful) full ∙ same)
    (λ fs m same. message_walks b graph fs m below law calm (subst (IsLawful graph) (sym same) lawful) full))

-- functions that are split into the same lists are the same
heads_same : {A : Type 0} {x y : A} {xs ys : List A} → x ∷ xs ≡ y ∷ ys → x ≡ y
heads_same e = cc

tails_same : {A : Type 0} {x y : A} {xs ys : List A} → x ∷ xs ≡ y ∷ ys → xs ≡ ys
tails_same e = cc

is_or_not : (m n : ℕ) → (m ≡ n) ⊎ (m ≢ n)
is_or_not m n = grind arith

-- a position that is in a list is first or later
times_elsewhere : (r q : ℕ) (qs : List ℕ) → q ≢ r → times r (q ∷ qs) ≡ times r qs
times_elsewhere r q qs ne = let none : one_if (q == r) ≡ 0 = ap one_if (ne_eqb q r ne) in omega (arith, times-cons r q qs, none)

owned_known : {F : Type 0} (qs : List ℕ) (xs ys : List F) → length ys ≡ length xs → AreOnce (length xs) qs → owned qs ys ≡ owned qs xs → AreSame qs xs ys
owned_known [] xs ys long h e = record { same = λ q some. absurd (omega arith) }
owned_known {F} (q ∷ qs) xs ys long h e = record { same = λ r some. go (λ e. owned_known qs xs ys long (once_rest (length xs) q qs h) e) r some (is_or_not q r) }
  where
    inside : q - 1 < length xs
    inside = let w = h.within q (let t = times_here q qs in omega arith) in let l = w.0 in let u = w.1 in omega arith

    x : (f : F) × (slice_get xs (q - 1) ≡ Some f)
    x = got xs (q - 1) inside

    y : (f : F) × (slice_get ys (q - 1) ≡ Some f)
    y = got ys (q - 1) (let i = inside in omega arith)

    both : y.0 ∷ owned qs ys ≡ x.0 ∷ owned qs xs
    both = (λ i. cons_option (sym y.1 i) (owned qs ys)) ∙ (e ∙ (λ i. cons_option (x.1 i) (owned qs xs)))

    go : (owned qs ys ≡ owned qs xs → AreSame qs xs ys) → (r : ℕ) → 1 ≤ times r (q ∷ qs) → (q ≡ r) ⊎ (q ≢ r) → slice_get ys (r - 1) ≡ slice_get xs (r - 1)
    go later r some (inl i) = subst (λ r. slice_get ys (r - 1) ≡ slice_get xs (r - 1)) i (y.1 ∙ ap Some (heads_same both) ∙ sym x.1)
    go later r some (inr ne) = (later (tails_same both)).same r (let t = times_elsewhere r q qs ne in omega arith)

some_of : (a b : ℕ) → 1 ≤ a + b → (1 ≤ a) ⊎ (1 ≤ b)
some_of zero b l = inr (omega arith)
some_of (suc a) b l = inl (omega arith)

owned_in_known : {F : Type 0} (branches : List Branch) (xs ys : List F) → length ys ≡ length xs → AreOnce (length xs) (positions_of branches) → owned_in branches ys ≡ owned_in branches xs → AreSame (positions_of branches) xs ys
owned_in_known [] xs ys long h e = record { same = λ q some. absurd (omega arith) }
owned_in_known {F} (x ∷ branches) xs ys long h e = record { same = λ q some. go (owned_in_known branches xs ys long (once_back (length xs) x.positions (positions_of branches) h) (tails_same e)) q (some_of (times q x.positions) (times q (positions_of branches)) (let t = times-append q x.positions (positions_of branches) in omega arith)) }
  where
    go : AreSame (positions_of branches) xs ys → (q : ℕ) → (1 ≤ times q x.positions) ⊎ (1 ≤ times q (positions_of branches)) → slice_get ys (q - 1) ≡ slice_get xs (q - 1)
    go rest q (inl here) = (owned_known x.positions xs ys long (once_front (length xs) x.positions (positions_of branches) h) (heads_same e)).same q here
    go rest q (inr later) = rest.same q later

owned_by_known : {F : Type 0} (stages : List Stage) (xs ys : List F) → length ys ≡ length xs → AreOnce (length xs) (all_positions stages) → owned_by stages ys ≡ owned_by stages xs → AreSame (all_positions stages) xs ys
owned_by_known [] xs ys long h e = record { same = λ q some. absurd (omega arith) }
owned_by_known {F} (s ∷ stages) xs ys long h e = record { same = λ q some. go (owned_by_known stages xs ys long (stage_back (length xs) s stages h) (tails_same e)) q (some_of (times q (positions_of s.branches)) (times q (all_positions stages)) (let t = times-stages q s stages in omega arith)) }
  where
    go : AreSame (all_positions stages) xs ys → (q : ℕ) → (1 ≤ times q (positions_of s.branches)) ⊎ (1 ≤ times q (all_positions stages)) → slice_get ys (q - 1) ≡ slice_get xs (q - 1)
    go rest q (inl here) = (owned_in_known s.branches xs ys long (stage_front (length xs) s stages h) (heads_same e)).same q here
    go rest q (inr later) = rest.same q later

all_same : {F : Type 0} (xs ys : List F) → length ys ≡ length xs → ((i : ℕ) → i < length xs → slice_get ys i ≡ slice_get xs i) → ys ≡ xs
all_same [] [] long h = refl
all_same [] (y ∷ ys) long h = absurd (omega arith)
all_same (x ∷ xs) [] long h = absurd (omega arith)
all_same (x ∷ xs) (y ∷ ys) long h =
    let first : Some y ≡ Some x = h 0 (omega arith) in
    let here : y ≡ x = cc in
    let rest : ys ≡ xs = all_same xs ys (omega arith) (λ i l. h (suc i) (omega arith)) in
    λ i. here i ∷ rest i

pub owned_whole : {F : Type 0} (b : Behaviour F) (graph : Graph) (functions others : List F) → IsLawful graph (map b.profile functions) → length others ≡ length functions →
    owned_by graph.stages others ≡ owned_by graph.stages functions → others ≡ functions
owned_whole b graph functions others lawful long e = all_same functions others long (λ i l. subst (λ n. slice_get others n ≡ slice_get functions n) (before i) (known.same (suc i) (let one = lawful.each_once (suc i) (omega arith) (let n = length-map functions b.profile in omega arith) in omega arith)))
  where
    before : (i : ℕ) → suc i - 1 ≡ i
    before i = omega arith

    known : AreSame (all_positions graph.stages) functions others
    known = owned_by_known graph.stages functions others long (functions_once b graph functions lawful) e

-- the branch with this number of the stage with that number
branch_once : {F : Type 0} (b : Behaviour F) (graph : Graph) (functions : List F) (i j : ℕ) (s : Stage) (x : Branch) → IsLawful graph (map b.profile functions) → slice_get graph.stages i ≡ Some s → slice_get s.branches j ≡ Some x → AreOnce (length functions) x.positions
branch_once b graph functions i j s x lawful at_stage at_branch =
    branch_at (length functions) j x s.branches (stage_at (length functions) i s graph.stages (functions_once b graph functions lawful) at_stage) at_branch

pub branch_count : {F : Type 0} (b : Behaviour F) (graph : Graph) (functions : List F) (i j : ℕ) (s : Stage) (x : Branch) → IsLawful graph (map b.profile functions) → slice_get graph.stages i ≡ Some s → slice_get s.branches j ≡ Some x → length (owned x.positions functions) ≡ length x.positions
branch_count b graph functions i j s x lawful at_stage at_branch = owned_count x.positions functions (branch_once b graph functions i j s x lawful at_stage at_branch)

pub branch_each : {F : Type 0} (b : Behaviour F) (graph : Graph) (functions : List F) (i j k q : ℕ) (s : Stage) (x : Branch) → IsLawful graph (map b.profile functions) → slice_get graph.stages i ≡ Some s → slice_get s.branches j ≡ Some x → slice_get x.positions k ≡ Some q →
    slice_get (owned x.positions functions) k ≡ slice_get functions (q - 1)
branch_each b graph functions i j k q s x lawful at_stage at_branch at_place = owned_each x.positions functions k q (branch_once b graph functions i j s x lawful at_stage at_branch) at_place
