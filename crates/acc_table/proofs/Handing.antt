-- A row whose values are handed over, one branch after another.
use Rattle.std.proofs.Common.{◌≡◌, ℕ, zero, ◌+◌, ◌-◌, ◌<◌, ◌++◌, List, [], ◌∷◌, map, replicate, take, drop, set, get_or, length, Option, Some, sym, ap, ◌∙◌, arith, add-one, drop-cons, append_assoc}
use Rattle.std.proofs.lemmas.List.{get_or-append_right, length-replicate, replicate_more, set_at, take_more}

seam : {X : Type 0} (items all : List X) (i : ℕ) (n x : X) → i < length all → items ≡ replicate i n ++ drop i all → items ≡ replicate i n ++ get_or all i x ∷ drop (i + 1) all
seam items all i n x lt e = e ∙ ap (λ t. replicate i n ++ t) (drop-cons all i x lt ∙ ap (λ m. get_or all i x ∷ drop m all) (sym (add-one i)))

item_is : {X : Type 0} (items all : List X) (i : ℕ) (n x : X) → i < length all → items ≡ replicate i n ++ drop i all → get_or items i x ≡ get_or all i x
item_is items all i n x lt e =
    let none : i - i ≡ zero = omega arith in
    ap (λ l. get_or l i x) (seam items all i n x lt e)
    ∙ (get_or-append_right (replicate i n) (get_or all i x ∷ drop (i + 1) all) i i x (length-replicate i n) (omega arith)
    ∙ ap (λ m. get_or (get_or all i x ∷ drop (i + 1) all) m x) none)

-- the place of one more branch is emptied
pub emptied_more : {X : Type 0} (items all : List X) (i : ℕ) (n x : X) → i < length all → items ≡ replicate i n ++ drop i all → set items i n ≡ replicate (i + 1) n ++ drop (i + 1) all
emptied_more items all i n x lt e =
    ap (λ l. set l i n) (seam items all i n x lt e)
    ∙ (set_at (replicate i n) (get_or all i x) (drop (i + 1) all) n i (length-replicate i n)
    ∙ (sym (append_assoc (replicate i n) (n ∷ []) (drop (i + 1) all)) ∙ ap (λ l. l ++ drop (i + 1) all) (replicate_more i n)))

-- the value of one more branch is handed over
pub handed_more : {T : Type 0} (items all : List (Option T)) (into more : List T) (i : ℕ) (n x : Option T) → i < length all → items ≡ replicate i n ++ drop i all → map Some into ≡ take i all → map Some more ≡ map Some into ++ get_or items i x ∷ [] → map Some more ≡ take (i + 1) all
handed_more items all into more i n x lt e so h =
    h ∙ (ap (λ l. l ++ get_or items i x ∷ []) so ∙ (ap (λ y. take i all ++ y ∷ []) (item_is items all i n x lt e) ∙ sym (take_more all i x lt)))
