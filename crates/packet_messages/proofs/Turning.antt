-- A stream that is shared in turn, element by element.
use Rattle.std.proofs.Common.{◌≡◌, ◌<◌, ◌+◌, ◌∙◌, ℕ, zero, suc, pred, List, [], ◌∷◌, ◌++◌, length, refl, arith, ap}
use Rattle.packet_messages.specs.Messages.{front, turned}
use Rattle.packet_messages.specs.Turns.{share, shares_from, shares, share_len}

later_shares : {A : Type 0} (m i c : ℕ) (x : A) (xs : List A) → shares_from m (suc i) c (x ∷ xs) ≡ shares_from m i c xs
unfolding shares_from share
later_shares m i zero x xs = refl
later_shares m i (suc c) x xs = ap (λ y. share m i xs ∷ y) (later_shares m (suc i) c x xs)

pub last_share : {A : Type 0} (m i c : ℕ) (xs : List A) → shares_from m i c xs ++ share m (i + c) xs ∷ [] ≡ shares_from m i (suc c) xs
unfolding shares_from
last_share m i zero xs = ap (λ n. share m n xs ∷ []) (omega arith)
last_share m i (suc c) xs =
    ap (λ y. share m i xs ∷ y) (ap (λ n. shares_from m (suc i) c xs ++ share m n xs ∷ []) (omega arith) ∙ last_share m (suc i) c xs)

-- as many as asked for
pub shares_count : {A : Type 0} (m i c : ℕ) (xs : List A) → length (shares_from m i c xs) ≡ c
unfolding shares_from
shares_count m i zero xs = refl
shares_count m i (suc c) xs = ap suc (shares_count m (suc i) c xs)

-- the first of the shares has the first element, and is the last for the next
pub first_share : {A : Type 0} (m : ℕ) (x : A) (xs : List A) → 0 < m → front (shares m (x ∷ xs)) ≡ x ∷ share m (pred m) xs
unfolding shares_from share
first_share zero x xs lt = absurd (omega arith)
first_share (suc c) x xs lt = refl

pub turned_shares : {A : Type 0} (m : ℕ) (x : A) (xs : List A) → 0 < m → turned (shares m (x ∷ xs)) ≡ shares m xs
unfolding shares_from share
turned_shares zero x xs lt = absurd (omega arith)
turned_shares (suc c) x xs lt =
    ap (λ y. y ++ share (suc c) c xs ∷ []) (later_shares (suc c) 0 c x xs)
    ∙ ap (λ n. shares_from (suc c) 0 c xs ++ share (suc c) n xs ∷ []) (omega arith)
    ∙ last_share (suc c) 0 c xs

pub share_long : {A : Type 0} (m i : ℕ) (xs : List A) → length (share m i xs) ≡ share_len m i (length xs)
unfolding share share_len
share_long m i [] = refl
share_long m zero (x ∷ xs) = ap suc (share_long m (pred m) xs)
share_long m (suc i) (x ∷ xs) = share_long m i xs

-- every element from the first on
whole_share : {A : Type 0} (xs : List A) → share 1 0 xs ≡ xs
unfolding share
whole_share [] = refl
whole_share (x ∷ xs) = ap (λ y. x ∷ y) (whole_share xs)

pub one_share : {A : Type 0} (xs : List A) → shares 1 xs ≡ xs ∷ []
unfolding shares_from
one_share xs = ap (λ y. y ∷ []) (whole_share xs)
