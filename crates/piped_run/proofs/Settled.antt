-- What the branches listed for a burst is settled: each has the functions that it owns of those that the walks leave.
use Rattle.std.proofs.Common.{◌≡◌, ◌∙◌, ◌-◌, ℕ, zero, suc, List, [], ◌∷◌, map, length, sym, ap, refl, subst}
use Rattle.std.specs.Prelude.{Some, slice_get, zip}
use Rattle.action_profile.specs.declared.parts.Touch.{Touch}
use Rattle.chain_walk.specs.Counting.{quiet, IsQuiet}
use Rattle.chain_walk.specs.Laws.{KeepsProfile}
use Rattle.chain_walk.specs.Notes.{Notes, CountsByNotes}
use Rattle.chain_walk.specs.Step.{Behaviour}
use Rattle.graph_compile.specs.Facts.{IsLawful, IsFull}
use Rattle.graph_compile.specs.declared.graph.Branch.{Branch}
use Rattle.graph_compile.specs.declared.graph.Graph.{Graph}
use Rattle.graph_compile.specs.declared.graph.Stage.{Stage}
use Rattle.merge_ops.specs.Fates.{fate_behind}
use Rattle.merge_ops.specs.declared.merging.Merged.{Merged}
use Rattle.merge_ops.specs.declared.merging.Merged.TheVariants.{Whole, Gone, Short}
use Rattle.burst_law.specs.Bursts.{Message, branch_stream, stage_burst, graph_burst, chain_burst}
use Rattle.burst_law.specs.Noting.{OwnNote, lost_before, stream_notes, branch_settled, stage_settled, graph_settled, rows_listed, settled_listed}
use Rattle.burst_law.specs.Owned.{owned, owned_in, owned_by}
use Rattle.burst_law.specs.Stations.{Turn, along, beside}
use Rattle.stream_law.specs.Listed.{stage_listed, graph_listed}
use Rattle.stream_law.specs.Messages.{as_message}
use Rattle.stream_law.specs.Owned.{PlainOwned}
use Rattle.settled_notes.specs.Settling.{SameDrops, dropped_before}
use Rattle.piped_run.specs.Settling.{settled_own}

-- the fates of packets show where they were dropped
dropped_same : (m : Merged) (q : ℕ) → dropped_before (fate_behind m) q ≡ lost_before (as_message m) q
dropped_same (Whole whole) q = refl
dropped_same (Gone p) q = refl
dropped_same Short q = refl

pub drops_told : (behind : List Merged) → SameDrops (map fate_behind behind) (map as_message behind)
drops_told [] zero q = refl
drops_told [] (suc k) q = refl
drops_told (m ∷ behind) zero q = dropped_same m q
drops_told (m ∷ behind) (suc k) q = drops_told behind k q

-- the laws, as they are cited
abbrev pub SettlesAsListed : Type 0 → Type 0 → Type 0
SettlesAsListed F N = (b : Behaviour F) (notes : Notes F N) (ends : List Message) (x : Branch × Touch) (functions : List F) (packets : List Message) → length functions ≡ length x.0.positions → length ends ≡ length packets →
    settled_listed notes x.0.positions ends (branch_stream b x functions packets).state (rows_listed 0 (stream_notes b notes x functions packets)) ≡ branch_settled b notes ends x functions packets

abbrev pub GivesAsMany : Type 0 → Type 0
GivesAsMany F = (b : Behaviour F) (stage : Stage) (own : List (List F)) (packets : List Message) → length (stage_burst b stage own packets).gives ≡ length packets

abbrev pub IsChain : Type 0 → Type 0
IsChain F = (b : Behaviour F) (graph : Graph) (functions : List F) (packets : List Message) → KeepsProfile b → IsQuiet b → IsLawful graph (map b.profile functions) → IsFull graph →
    ◌≡◌ {A = Turn (List (List (List F))) (List Message)} (graph_burst b graph.stages (owned_by graph.stages functions) packets) (record { state = owned_by graph.stages (chain_burst b functions packets).state; gives = (chain_burst b functions packets).gives })

abbrev pub SettlesBehind : Type 0 → Type 0 → Type 0
SettlesBehind F N = (b : Behaviour F) (notes : Notes F N) (graph : Graph) (functions : List F) (packets : List Message) → KeepsProfile b → CountsByNotes b notes → IsLawful graph (map b.profile functions) → IsFull graph →
    graph_settled (quiet b) notes (chain_burst b functions packets).gives graph.stages (owned_by graph.stages functions) packets ≡ owned_by graph.stages (chain_burst b functions packets).state

abbrev pub EndsAlike : Type 0 → Type 0 → Type 0
EndsAlike F N = (b : Behaviour F) (notes : Notes F N) (functions : List F) (packets : List Message) → KeepsProfile b → CountsByNotes b notes → (chain_burst b functions packets).gives ≡ (chain_burst (quiet b) functions packets).gives

abbrev pub OwnsAsMany : Type 0 → Type 0
OwnsAsMany F = (b : Behaviour F) (graph : Graph) (functions : List F) (i j : ℕ) (s : Stage) (x : Branch) → IsLawful graph (map b.profile functions) → slice_get graph.stages i ≡ Some s → slice_get s.branches j ≡ Some x → length (owned x.positions functions) ≡ length x.positions

pub record AreNoteLaws (F N : Type 0) : Type 0 where
  pub listed : SettlesAsListed F N
  pub count : GivesAsMany F
  pub chain : IsChain F
  pub behind : SettlesBehind F N
  pub ends : EndsAlike F N
  pub owns : OwnsAsMany F

first_same : {A : Type 0} {x y : A} {xs ys : List A} → x ∷ xs ≡ y ∷ ys → x ≡ y
first_same e = cc

rest_same : {A : Type 0} {x y : A} {xs ys : List A} → x ∷ xs ≡ y ∷ ys → xs ≡ ys
rest_same e = cc

-- a branch
branch_back : {F N : Type 0} (b : Behaviour F) (notes : Notes F N) (ends : List Message) (x : Branch × Touch) (own : List F) (ms : List Message) (o : PlainOwned F N) → SettlesAsListed F N → length ends ≡ length ms → length own ≡ length x.0.positions →
    o.functions ≡ (branch_stream b x own ms).state → o.listed ≡ rows_listed 0 (stream_notes b notes x own ms) → o.positions ≡ x.0.positions →
    settled_own notes ends o ≡ branch_settled b notes ends x own ms
branch_back b notes ends x own ms o law many fits functions listed positions =
    (λ i. settled_listed notes (positions i) ends (functions i) (listed i)) ∙ law b notes ends x own ms fits many

-- the branches of a stage
stage_back : {F N : Type 0} (b : Behaviour F) (notes : Notes F N) (ends : List Message) (fs : List F) (branches : List Branch) (touches : List Touch) (ms : List Message) (works : List (PlainOwned F N)) → SettlesAsListed F N → length ends ≡ length ms →
    ((j : ℕ) (x : Branch) → slice_get branches j ≡ Some x → length (owned x.positions fs) ≡ length x.positions) →
    map (λ o. o.functions) works ≡ (beside (branch_stream b) (zip branches touches) (owned_in branches fs) ms).state →
    map (λ o. o.listed) works ≡ stage_listed b notes (zip branches touches) (owned_in branches fs) ms →
    map (λ o. o.positions) works ≡ map (λ x. x.positions) branches →
    map (settled_own notes ends) works ≡ stage_settled b notes ends (zip branches touches) (owned_in branches fs) ms
unfolding stage_settled stage_listed beside
stage_back b notes ends fs [] touches ms [] law many fits functions listed positions = refl
stage_back b notes ends fs [] touches ms (o ∷ works) law many fits functions listed positions = absurd cc
stage_back b notes ends fs (x ∷ branches) touches ms [] law many fits functions listed positions = absurd cc
stage_back b notes ends fs (x ∷ branches) [] ms (o ∷ works) law many fits functions listed positions = absurd cc
stage_back b notes ends fs (x ∷ branches) (t ∷ touches) ms (o ∷ works) law many fits functions listed positions =
    let one = branch_back b notes ends (x, t) (owned x.positions fs) ms o law many (fits 0 x refl) (first_same functions) (first_same listed) (first_same positions) in
    let more = stage_back b notes ends fs branches touches ms works law many (λ j y e. fits (suc j) y e) (rest_same functions) (rest_same listed) (rest_same positions) in
    λ i. one i ∷ more i

-- stage by stage
graph_back : {F N : Type 0} (b : Behaviour F) (notes : Notes F N) (ends : List Message) (fs : List F) (stages : List Stage) (ms : List Message) (works : List (List (PlainOwned F N))) → SettlesAsListed F N → GivesAsMany F → length ends ≡ length ms →
    ((i j : ℕ) (s : Stage) (x : Branch) → slice_get stages i ≡ Some s → slice_get s.branches j ≡ Some x → length (owned x.positions fs) ≡ length x.positions) →
    map (λ l. map (λ o. o.functions) l) works ≡ (along (stage_burst b) stages (owned_by stages fs) ms).state →
    map (λ l. map (λ o. o.listed) l) works ≡ graph_listed b notes stages (owned_by stages fs) ms →
    map (λ l. map (λ o. o.positions) l) works ≡ map (λ s. map (λ x. x.positions) s.branches) stages →
    map (λ l. map (settled_own notes ends) l) works ≡ graph_settled b notes ends stages (owned_by stages fs) ms
unfolding graph_settled graph_listed along stage_burst
graph_back b notes ends fs [] ms [] law count many fits functions listed positions = refl
graph_back b notes ends fs [] ms (l ∷ works) law count many fits functions listed positions = absurd cc
graph_back b notes ends fs (s ∷ stages) ms [] law count many fits functions listed positions = absurd cc
graph_back b notes ends fs (s ∷ stages) ms (l ∷ works) law count many fits functions listed positions =
    let one = stage_back b notes ends fs s.branches s.parts.touches ms l law many (λ j x e. fits 0 j s x refl e) (first_same functions) (first_same listed) (first_same positions) in
    let more = graph_back b notes ends fs stages (stage_burst b s (owned_in s.branches fs) ms).gives works law count (many ∙ sym (count b s (owned_in s.branches fs) ms)) (λ i j y x a e. fits (suc i) j y x a e) (rest_same functions) (rest_same listed) (rest_same positions) in
    λ i. one i ∷ more i

-- What a burst left with the branches of a graph, without counting: their functions, their notes, and their positions.
pub record LeftWith {F N : Type 0} (b : Behaviour F) (notes : Notes F N) (graph : Graph) (functions : List F) (ms : List Message) (works : List (List (PlainOwned F N))) : Type 0 where
  pub functions_are : map (λ l. map (λ o. o.functions) l) works ≡ owned_by graph.stages (chain_burst (quiet b) functions ms).state
  pub listed : map (λ l. map (λ o. o.listed) l) works ≡ graph_listed (quiet b) notes graph.stages (owned_by graph.stages functions) ms
  pub positions : map (λ l. map (λ o. o.positions) l) works ≡ map (λ s. map (λ x. x.positions) s.branches) graph.stages

-- all of it is settled
pub settled_back : {F N : Type 0} (b : Behaviour F) (notes : Notes F N) (graph : Graph) (functions : List F) (ms : List Message) (works : List (List (PlainOwned F N))) → AreNoteLaws F N → KeepsProfile b → KeepsProfile (quiet b) → IsQuiet (quiet b) → CountsByNotes b notes →
    IsLawful graph (map b.profile functions) → IsFull graph → length (chain_burst b functions ms).gives ≡ length ms → LeftWith b notes graph functions ms works →
    map (λ l. map (settled_own notes (chain_burst b functions ms).gives) l) works ≡ owned_by graph.stages (chain_burst b functions ms).state
settled_back b notes graph functions ms works laws keeps quietly calm counts lawful full many left =
    graph_back (quiet b) notes (chain_burst b functions ms).gives functions graph.stages ms works laws.listed laws.count many (λ i j s x a e. laws.owns b graph functions i j s x lawful a e)
    (left.functions_are ∙ sym (ap (λ t. t.state) (laws.chain (quiet b) graph functions ms quietly calm lawful full))) left.listed left.positions
    ∙ laws.behind b notes graph functions ms keeps counts lawful full
