-- What becomes of each packet after a stage.
use Rattle.std.proofs.Common.{◌≡◌, ◌+◌, ◌∙◌, ℕ, zero, suc, List, ◌∷◌, [], length, ap, refl, subst, arith, Some}
use Rattle.std.specs.Prelude.{slice_get, zip}
use Rattle.chain_walk.specs.Step.{Behaviour}
use Rattle.graph_compile.specs.declared.graph.Stage.{Stage}
use Rattle.graph_law.specs.Branches.{BranchEnd}
use Rattle.burst_law.specs.Stations.{Turn, one_by_one, beside, across}
use Rattle.burst_law.specs.Bursts.{Message, behind, branch_turn, merged_from, stage_streams, stage_burst}

as_many_given : {S X Y : Type 0} (step : S → X → Turn S Y) (s : S) (xs : List X) → length (one_by_one step s xs).gives ≡ length xs
unfolding one_by_one
as_many_given step s [] = refl
as_many_given step s (x ∷ xs) = ap suc (as_many_given step (step s x).state xs)

as_many_beside : {P S X Y : Type 0} (step : P → S → X → Turn S Y) (ps : List P) (ss : List S) (xs : List X) (j : ℕ) (stream : List Y) →
    slice_get (beside (λ p. one_by_one (step p)) ps ss xs).gives j ≡ Some stream → length stream ≡ length xs
unfolding beside
as_many_beside step [] ss xs j stream e = absurd cc
as_many_beside step (p ∷ ps) [] xs j stream e = absurd cc
as_many_beside {Y} step (p ∷ ps) (s ∷ ss) xs zero stream e =
    let same : (one_by_one (step p) s xs).gives ≡ stream = cc in subst (λ (l : List Y). length l ≡ length xs) same (as_many_given (step p) s xs)
as_many_beside step (p ∷ ps) (s ∷ ss) xs (suc j) stream e = as_many_beside step ps ss xs j stream e

pub as_many_arrivals : {F : Type 0} (b : Behaviour F) (stage : Stage) (own : List (List F)) (packets : List Message) (j : ℕ) (stream : List BranchEnd) →
    slice_get (stage_streams b stage own packets).gives j ≡ Some stream → length stream ≡ length packets
as_many_arrivals b stage own packets j stream e = as_many_beside (branch_turn b) (zip stage.branches stage.parts.touches) own packets j stream e

as_many_merged : (k : ℕ) (ms : List Message) (streams : List (List BranchEnd)) → length (merged_from k ms streams) ≡ length ms
as_many_merged k [] streams = refl
as_many_merged k (m ∷ ms) streams = ap suc (as_many_merged (suc k) ms streams)

pub as_many_packets : {F : Type 0} (b : Behaviour F) (stage : Stage) (own : List (List F)) (packets : List Message) → length (stage_burst b stage own packets).gives ≡ length packets
unfolding stage_burst
as_many_packets b stage own packets = as_many_merged 0 packets (stage_streams b stage own packets).gives

merged_at : (k : ℕ) (ms : List Message) (streams : List (List BranchEnd)) (i : ℕ) (m : Message) → slice_get ms i ≡ Some m → slice_get (merged_from k ms streams) i ≡ Some (behind m (across (k + i) streams))
merged_at k [] streams i m e = absurd cc
merged_at k (x ∷ ms) streams zero m e = let same : x ≡ m = cc in (λ j. Some (behind (same j) (across (plus_none j) streams)))
  where
    plus_none : k ≡ k + 0
    plus_none = omega arith
merged_at k (x ∷ ms) streams (suc i) m e = merged_at (suc k) ms streams i m e ∙ ap (λ n. Some (behind m (across n streams))) (omega arith)

pub merged_each : {F : Type 0} (b : Behaviour F) (stage : Stage) (own : List (List F)) (packets : List Message) (k : ℕ) (m : Message) → slice_get packets k ≡ Some m →
    slice_get (stage_burst b stage own packets).gives k ≡ Some (behind m (across k (stage_streams b stage own packets).gives))
unfolding stage_burst
merged_each b stage own packets k m e = merged_at 0 packets (stage_streams b stage own packets).gives k m e ∙ ap (λ n. Some (behind m (across n (stage_streams b stage own packets).gives))) none_plus
  where
    none_plus : 0 + k ≡ k
    none_plus = omega arith
