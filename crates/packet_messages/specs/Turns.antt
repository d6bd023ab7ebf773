-- For proofs: a stream of messages, shared in turn among some links.
use Rattle.std.specs.Prelude.{ℕ, zero, suc, pred, List, [], ◌∷◌, map}

-- every `m`-th element, from the one after the first `i` on
unfoldable pub share : {A : Type 0} → ℕ → ℕ → List A → List A
share m i [] = []
share m zero (x ∷ xs) = x ∷ share m (pred m) xs
share m (suc i) (x ∷ xs) = share m i xs

-- the shares of this number of the `m` links, from link `i` on
unfoldable pub shares_from : {A : Type 0} → ℕ → ℕ → ℕ → List A → List (List A)
shares_from m i zero xs = []
shares_from m i (suc c) xs = share m i xs ∷ shares_from m (suc i) c xs

-- the shares of `m` links: link `i` has the elements whose place leaves `i` when divided by `m`
abbrev pub shares : {A : Type 0} → ℕ → List A → List (List A)
shares m xs = shares_from m 0 m xs

-- what this number of the `m` mergers take of each of these streams, from merger `i` on
unfoldable pub columns_from : {A : Type 0} → ℕ → ℕ → ℕ → List (List A) → List (List (List A))
columns_from m i zero rows = []
columns_from m i (suc c) rows = map (share m i) rows ∷ columns_from m (suc i) c rows

-- what each of `m` mergers takes of each of these streams: its share of each
abbrev pub columns : {A : Type 0} → ℕ → List (List A) → List (List (List A))
columns m rows = columns_from m 0 m rows

-- the number of elements in a share of this number of elements
unfoldable pub share_len : ℕ → ℕ → ℕ → ℕ
share_len m i zero = 0
share_len m zero (suc n) = suc (share_len m (pred m) n)
share_len m (suc i) (suc n) = share_len m i n
