-- Packets in a row, and the positions at which they may be dropped.
use Rattle.std.proofs.Common.{◌≡◌, ◌≤◌, ◌+◌, ℕ, suc, Bool, true, false, List, [], ◌∷◌, ◌++◌, length, ap, refl, arith}
use Rattle.std.specs.Prelude.{if◌then◌else◌}
use Rattle.chain_walk.specs.Step.{Behaviour, is_drop}
use Rattle.chain_walk.specs.Walk.{walk, applied, frame_after, dropped_at, then_walked, EndsWithin}
use Rattle.chain_walk.specs.Packets.{Packet, fates, functions_after}
use Rattle.chain_walk.specs.declared.walk.Fate.{Fate}
use Rattle.chain_walk.specs.declared.walk.Fate.TheVariants.{Out, Gone}

pub fates_in_a_row : {F : Type 0} (b : Behaviour F) (functions : List F) (first later : List Packet) → fates b functions (first ++ later) ≡ fates b functions first ++ fates b (functions_after b functions first) later
unfolding fates functions_after
fates_in_a_row b functions [] later = refl
fates_in_a_row b functions (p ∷ first) later = ap (λ l. (walk b p.time 1 functions p.frame).fate ∷ l) (fates_in_a_row b (walk b p.time 1 functions p.frame).functions first later)

pub functions_in_a_row : {F : Type 0} (b : Behaviour F) (functions : List F) (first later : List Packet) → functions_after b functions (first ++ later) ≡ functions_after b (functions_after b functions first) later
unfolding functions_after
functions_in_a_row b functions [] later = refl
functions_in_a_row b functions (p ∷ first) later = functions_in_a_row b (walk b p.time 1 functions p.frame).functions first later

pub count_of_fates : {F : Type 0} (b : Behaviour F) (functions : List F) (packets : List Packet) → length (fates b functions packets) ≡ length packets
unfolding fates
count_of_fates b functions [] = refl
count_of_fates b functions (p ∷ packets) = let rest = count_of_fates b (walk b p.time 1 functions p.frame).functions packets in omega (arith, rest)

-- a packet that was dropped was dropped at a position from the first on, below this number
abbrev IsGoneFrom : ℕ → ℕ → Fate → Type 0
IsGoneFrom first n (Out frame) = Unit {0}
IsGoneFrom first n (Gone position) = (first ≤ position) × (position + 1 ≤ first + n)

gone_later : (first n : ℕ) (fate : Fate) → IsGoneFrom (first + 1) n fate → IsGoneFrom first (suc n) fate
gone_later first n (Out frame) h = tt
gone_later first n (Gone position) h = (let low = h.0 in omega arith, let high = h.1 in omega arith)

walk_within : {F : Type 0} (b : Behaviour F) (time position : ℕ) (functions : List F) (frame : List ℕ) → IsGoneFrom position (length functions) (walk b time position functions frame).fate
unfolding walk
walk_within b time position [] frame = tt
walk_within b time position (f ∷ later) frame =
    by_test (is_drop (applied b time f frame).verdict) (walk_within b time (position + 1) later (frame_after b time f frame))
  where
    by_test : (t : Bool) → IsGoneFrom (position + 1) (length later) (walk b time (position + 1) later (frame_after b time f frame)).fate →
        IsGoneFrom position (length (f ∷ later)) (if t then dropped_at position (applied b time f frame).after later
        else then_walked (applied b time f frame).after (walk b time (position + 1) later (frame_after b time f frame))).fate
    by_test true h = (omega arith, omega arith)
    by_test false h = gone_later position (length later) (walk b time (position + 1) later (frame_after b time f frame)).fate h

pub ends_within : {F : Type 0} (b : Behaviour F) (time : ℕ) (functions : List F) (frame : List ℕ) → EndsWithin (length functions) (walk b time 1 functions frame).fate
ends_within b time functions frame = by_fate (walk b time 1 functions frame).fate (walk_within b time 1 functions frame)
  where
    by_fate : (fate : Fate) → IsGoneFrom 1 (length functions) fate → EndsWithin (length functions) fate
    by_fate (Out frame) h = tt
    by_fate (Gone position) h = (h.0, let high = h.1 in omega arith)
