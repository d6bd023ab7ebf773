-- The links among which a stream is shared, in turn.
use Rattle.std.proofs.Common.{◌≡◌, ◌<◌, ◌+◌, ◌∙◌, ℕ, zero, suc, pred, List, [], ◌∷◌, ◌++◌, length, refl, arith, ap}
use Rattle.std.proofs.lemmas.List.Elements.{All-cons, All-nil}
use Rattle.packet_messages.specs.Messages.{front, turned}
use Rattle.packet_messages.specs.Turns.{share, shares_from, shares}
use Rattle.stage_nodes.specs.Dues.{NothingOwed}

later_shares : {A : Type 0} (m i c : ℕ) (x : A) (xs : List A) → shares_from m (suc i) c (x ∷ xs) ≡ shares_from m i c xs
unfolding shares_from share
later_shares m i zero x xs = refl
later_shares m i (suc c) x xs = ap (λ y. share m i xs ∷ y) (later_shares m (suc i) c x xs)

last_share : {A : Type 0} (m i c : ℕ) (xs : List A) → shares_from m i c xs ++ share m (i + c) xs ∷ [] ≡ shares_from m i (suc c) xs
unfolding shares_from
last_share m i zero xs = ap (λ n. share m n xs ∷ []) (omega arith)
last_share m i (suc c) xs =
    ap (λ y. share m i xs ∷ y) (ap (λ n. shares_from m (suc i) c xs ++ share m n xs ∷ []) (omega arith) ∙ last_share m (suc i) c xs)

pub shares_length : {A : Type 0} (m i c : ℕ) (xs : List A) → length (shares_from m i c xs) ≡ c
unfolding shares_from
shares_length m i zero xs = refl
shares_length m i (suc c) xs = ap suc (shares_length m (suc i) c xs)

-- the first has the next element, and is the last for the one after it
pub first_share : {A : Type 0} (m : ℕ) (x : A) (xs : List A) → 0 < m → front (shares m (x ∷ xs)) ≡ x ∷ share m (pred m) xs
unfolding shares_from share
first_share zero x xs lt = absurd (omega arith)
first_share (suc c) x xs lt = refl

pub turned_shares : {A : Type 0} (m : ℕ) (x : A) (xs : List A) → 0 < m → turned (shares m (x ∷ xs)) ≡ shares m xs
unfolding shares_from share
turned_shares zero x xs lt = absurd (omega arith)
turned_shares (suc c) x xs lt = ap (λ y. y ++ share (suc c) c xs ∷ []) (later_shares (suc c) 0 c x xs) ∙ ap (λ n. shares_from (suc c) 0 c xs ++ share (suc c) n xs ∷ []) (omega arith) ∙ last_share (suc c) 0 c xs

-- each share of nothing is empty
pub no_shares : {A : Type 0} (m i c : ℕ) → NothingOwed {A = A} (shares_from m i c [])
unfolding shares_from share
no_shares m i zero = All-nil _
no_shares m i (suc c) = All-cons (λ l. l ≡ []) [] (shares_from m (suc i) c []) refl (no_shares m (suc i) c)
