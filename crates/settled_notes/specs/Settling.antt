-- For proofs: where the packets of a burst were dropped, by their fates; and notes that add no line to a state.
use Rattle.std.specs.Prelude.{◌≡◌, ℕ, nat_lt, List, [], ◌∷◌, length, map, Bool, false, slice_index_or}
use Rattle.chain_walk.specs.Notes.{Notes}
use Rattle.chain_walk.specs.declared.walk.Fate.{Fate}
use Rattle.chain_walk.specs.declared.walk.Fate.TheVariants.{Out, Gone}
use Rattle.burst_law.specs.Bursts.{Message, Message.Lost}
use Rattle.burst_law.specs.Noting.{OwnNote, lost_before, settled_one}

-- a packet with this fate was dropped before this position
abbrev pub dropped_before : Fate → ℕ → Bool
dropped_before (Out frame) q = false
dropped_before (Gone p) q = nat_lt p q

-- these fates and these ends show the same drops: before which positions each packet was dropped
abbrev pub SameDrops : List Fate → List Message → Type 0
SameDrops fates ends = (k q : ℕ) → dropped_before (slice_index_or fates k (Gone 0)) q ≡ lost_before (slice_index_or ends k (Lost 0)) q

-- the number of lines that show the state of each function
abbrev pub line_counts : {F : Type 0} → (F → List (List ℕ)) → List F → List ℕ
line_counts rows functions = map (λ f. length (rows f)) functions

-- these notes, settled one after another, leave the number of lines of each state as it is
unfoldable pub AddsNoLine : {F N : Type 0} → (F → List (List ℕ)) → Notes F N → List ℕ → List Message → List F → List (OwnNote N) → Type 0
AddsNoLine rows notes positions ends functions [] = Unit {0}
AddsNoLine rows notes positions ends functions (o ∷ listed) =
    (line_counts rows (settled_one notes positions ends functions o) ≡ line_counts rows functions)
    × AddsNoLine rows notes positions ends (settled_one notes positions ends functions o) listed
