-- Chains of places: each ends, so a place occurs once in a chain; changing a link changes only chains with its place.
use Rattle.std.proofs.Common.{◌≡◌, ◌≢◌, ℕ, ◌+◌, ◌<◌, ◌≤◌, suc, inl, inr, true, false, cond, List, [], ◌∷◌, ◌++◌, length, get_or, set, refl, sym, ap, ◌∙◌, subst, arith, eqb}
use Rattle.std.proofs.lemmas.Bool.{eqb-true, eqb-false, cases_eq}
use Rattle.std.proofs.lemmas.List.{get_or-set_same, get_or-set_other, length-set, get_or_append_left, length-append}
use Rattle.acc_table.specs.Links.{none, IsChain, Among}

-- a choice by a test of two numbers
pub at_bucket : {X : Type 0} (P : X → Type 0) (c b : ℕ) (x y : X) → (c ≡ b → P x) → (c ≢ b → P y) → P (cond (eqb c b) x y)
at_bucket P c b x y f g = elim (eqb c b) as (λ t. eqb c b ≡ t → P (cond t x y)) [ true ↦ λ e. f (eqb-true c b e) | false ↦ λ e. g (eqb-false c b e) ] refl

pub same_chain : (nexts : List ℕ) (h : ℕ) (xs ys : List ℕ) → length nexts ≤ 65536 → IsChain nexts h xs → IsChain nexts h ys → length xs ≡ length ys
same_chain nexts h [] [] few a b = refl
same_chain nexts h [] (y ∷ ys) few a b = absurd (omega (arith, few, a, b.0, b.1))
same_chain nexts h (x ∷ xs) [] few a b = absurd (omega (arith, few, b, a.0, a.1))
same_chain nexts h (x ∷ xs) (y ∷ ys) few a b = ap suc (same_chain nexts (get_or nexts y none) xs ys few (subst (λ z. IsChain nexts (get_or nexts z none) xs) (sym a.0 ∙ b.0) a.2) b.2)

-- the chain from a place in it
from_here : (nexts : List ℕ) (h : ℕ) (xs : List ℕ) (x : ℕ) → IsChain nexts h xs → Among x xs → (ys : List ℕ) × IsChain nexts x ys × (length ys ≤ length xs)
from_here nexts h [] x c a = absurd a
from_here nexts h (y ∷ ys) x c a = elim a [
  | inl e ↦ (y ∷ ys, (e, c.1, c.2), omega arith)
  | inr r ↦ let s = from_here nexts (get_or nexts y none) ys x c.2 r in (s.0, s.1, omega (arith, s.2))
]

-- no place follows itself
pub apart : (nexts : List ℕ) (x : ℕ) (xs : List ℕ) → length nexts ≤ 65536 → x < length nexts → IsChain nexts (get_or nexts x none) xs → Among x xs → ⊥
apart nexts x xs few lt c a =
    let s = from_here nexts (get_or nexts x none) xs x c a in
    omega (arith, s.2, same_chain nexts x s.0 (x ∷ xs) few s.1 (refl, lt, c))

pub within : (nexts : List ℕ) (h : ℕ) (xs : List ℕ) (x : ℕ) → IsChain nexts h xs → Among x xs → x < length nexts
within nexts h [] x c a = absurd a
within nexts h (y ∷ ys) x c a = elim a [
  | inl e ↦ omega (arith, e, c.1)
  | inr r ↦ within nexts (get_or nexts y none) ys x c.2 r
]

-- a link outside a chain is changed
pub frame : (nexts : List ℕ) (h : ℕ) (xs : List ℕ) (k v : ℕ) → IsChain nexts h xs → (Among k xs → ⊥) → IsChain (set nexts k v) h xs
frame nexts h [] k v c n = c
frame nexts h (x ∷ xs) k v c n = (
  c.0,
  omega (arith, c.1, length-set nexts k v),
  subst (λ y. IsChain (set nexts k v) y xs) (sym (get_or-set_other nexts k x v none (λ e. n (inl (sym e))))) (frame nexts (get_or nexts x none) xs k v c.2 (λ a. n (inr a))),
)

-- one more link, after all
pub frame_push : (nexts : List ℕ) (h : ℕ) (xs : List ℕ) (v : ℕ) → IsChain nexts h xs → IsChain (nexts ++ v ∷ []) h xs
frame_push nexts h [] v c = c
frame_push nexts h (x ∷ xs) v c = (
  c.0,
  omega (arith, c.1, length-append nexts (v ∷ [])),
  subst (λ y. IsChain (nexts ++ v ∷ []) y xs) (sym (get_or_append_left nexts (v ∷ []) none x c.1)) (frame_push nexts (get_or nexts x none) xs v c.2),
)

-- a chain that isn't empty
pub record Opened (nexts : List ℕ) (at : ℕ) (xs : List ℕ) : Type 0 where
  pub rest : List ℕ
  pub is : xs ≡ at ∷ rest
  pub within : at < length nexts
  pub chain : IsChain nexts (get_or nexts at none) rest

pub opened_some : (nexts : List ℕ) (at : ℕ) (xs : List ℕ) → IsChain nexts at xs → 0 < length xs → Opened nexts at xs
opened_some nexts at [] c lt = absurd (omega (arith, lt))
opened_some nexts at (x ∷ xs) c lt = record {
  rest = xs;
  is = ap (λ y. y ∷ xs) (sym c.0);
  within = subst (λ y. y < length nexts) (sym c.0) c.1;
  chain = subst (λ y. IsChain nexts (get_or nexts y none) xs) (sym c.0) c.2;
}

pub opened_here : (nexts : List ℕ) (at : ℕ) (xs : List ℕ) → IsChain nexts at xs → at ≢ none → Opened nexts at xs
opened_here nexts at [] c n = absurd (n c)
opened_here nexts at (x ∷ xs) c n = opened_some nexts at (x ∷ xs) c (omega arith)

-- a chain from no place is empty
pub ended : (nexts : List ℕ) (at : ℕ) (xs : List ℕ) → length nexts ≤ 65536 → IsChain nexts at xs → at ≡ none → xs ≡ []
ended nexts at [] few c e = refl
ended nexts at (x ∷ xs) few c e = absurd (omega (arith, few, c.0, c.1, e))

-- the place after one of a chain is in the chain
pub next_among : (nexts : List ℕ) (h : ℕ) (xs : List ℕ) (x : ℕ) → IsChain nexts h xs → Among x xs → get_or nexts x none ≢ none → Among (get_or nexts x none) xs
next_among nexts h [] x c a n = a
next_among nexts h (y ∷ ys) x c a n = elim a [
  | inl e ↦
      let behind : IsChain nexts (get_or nexts x none) ys = subst (λ z. IsChain nexts (get_or nexts z none) ys) (sym e) c.2 in
      let o = opened_here nexts (get_or nexts x none) ys behind n in
      inr (subst (λ zs. Among (get_or nexts x none) zs) (sym o.is) (inl refl))
  | inr r ↦ inr (next_among nexts (get_or nexts y none) ys x c.2 r n)
]

-- without a place
abbrev pub without : ℕ → List ℕ → List ℕ
without i [] = []
without i (x ∷ xs) = cond (eqb i x) xs (x ∷ without i xs)

pub among_without : (i j : ℕ) (xs : List ℕ) → Among j (without i xs) → Among j xs
among_without i j [] a = a
among_without i j (x ∷ xs) a = at_bucket (λ ys. Among j ys → Among j (x ∷ xs)) i x xs (x ∷ without i xs) (λ e b. inr b) (λ n b. elim b [ inl e ↦ inl e | inr r ↦ inr (among_without i j xs r) ]) a

pub without_among : (i j : ℕ) (xs : List ℕ) → Among j xs → j ≢ i → Among j (without i xs)
without_among i j [] a n = a
without_among i j (x ∷ xs) a n = at_bucket (Among j) i x xs (x ∷ without i xs)
    (λ e. elim a [ inl f ↦ absurd (n (f ∙ sym e)) | inr r ↦ r ])
    (λ m. elim a [ inl f ↦ inl f | inr r ↦ inr (without_among i j xs r n) ])

pub length-without : (i : ℕ) (xs : List ℕ) → Among i xs → length (without i xs) + 1 ≡ length xs
length-without i [] a = absurd a
length-without i (x ∷ xs) a = at_bucket (λ ys. length ys + 1 ≡ length (x ∷ xs)) i x xs (x ∷ without i xs)
    (λ e. omega arith)
    (λ m. elim a [ inl f ↦ absurd (m f) | inr r ↦ omega (arith, length-without i xs r) ])

-- the place itself is removed
pub gone : (nexts : List ℕ) (h : ℕ) (xs : List ℕ) (i : ℕ) → length nexts ≤ 65536 → IsChain nexts h xs → Among i (without i xs) → ⊥
gone nexts h [] i few c a = a
gone nexts h (x ∷ xs) i few c a = at_bucket (λ ys. Among i ys → ⊥) i x xs (x ∷ without i xs)
    (λ e b. apart nexts x xs few c.1 c.2 (subst (λ z. Among z xs) e b))
    (λ n b. elim b [ inl e ↦ n e | inr r ↦ gone nexts (get_or nexts x none) xs i few c.2 r ])
    a

-- the place at the front is taken off
pub unlinked_first : (nexts : List ℕ) (h : ℕ) (xs : List ℕ) (i : ℕ) → length nexts ≤ 65536 → IsChain nexts h xs → Among i xs → h ≡ i → IsChain nexts (get_or nexts i none) (without i xs)
unlinked_first nexts h [] i few c a e = absurd a
unlinked_first nexts h (x ∷ xs) i few c a e =
    at_bucket (λ ys. IsChain nexts (get_or nexts i none) ys) i x xs (x ∷ without i xs)
    (λ f. subst (λ z. IsChain nexts (get_or nexts z none) xs) (sym f) c.2)
    (λ n. absurd (n (sym e ∙ c.0)))

-- the place before it is linked to what was after it
pub unlinked_behind : (nexts : List ℕ) (h : ℕ) (xs : List ℕ) (i before : ℕ) → length nexts ≤ 65536 → IsChain nexts h xs → Among before xs → get_or nexts before none ≡ i → i < length nexts → IsChain (set nexts before (get_or nexts i none)) h (without i xs)
unlinked_behind nexts h [] i before few c a e lt = absurd a
unlinked_behind nexts h (x ∷ xs) i before few c a e lt = elim (cases_eq x before) [
  | inl f ↦
      let behind : IsChain nexts i xs = subst (λ y. IsChain nexts y xs) (ap (λ z. get_or nexts z none) f ∙ e) c.2 in
      let o = opened_here nexts i xs behind (λ none_is. omega (arith, none_is, lt, few)) in
      let ne : i ≢ x = λ g. apart nexts x xs few c.1 c.2 (subst (λ ys. Among x ys) (sym o.is) (inl (sym g))) in
      let out : Among before xs → ⊥ = λ r. apart nexts x xs few c.1 c.2 (subst (λ z. Among z xs) (sym f) r) in
      let rest_out : Among before o.rest → ⊥ = λ r. out (subst (λ ys. Among before ys) (sym o.is) (inr r)) in
      let tail : IsChain (set nexts before (get_or nexts i none)) (get_or nexts i none) o.rest = frame nexts (get_or nexts i none) o.rest before (get_or nexts i none) o.chain rest_out in
      let step : get_or (set nexts before (get_or nexts i none)) x none ≡ get_or nexts i none = ap (λ z. get_or (set nexts before (get_or nexts i none)) z none) f ∙ get_or-set_same nexts before (get_or nexts i none) none (omega (arith, f, c.1)) in
      let left : without i xs ≡ o.rest = ap (without i) o.is ∙ at_bucket (λ ys. ys ≡ o.rest) i i o.rest (i ∷ without i o.rest) (λ _. refl) (λ n. absurd (n refl)) in
      at_bucket (λ ys. IsChain (set nexts before (get_or nexts i none)) h ys) i x xs (x ∷ without i xs)
      (λ g. absurd (ne g))
      (λ _. (
        c.0,
        omega (arith, c.1, length-set nexts before (get_or nexts i none)),
        subst (λ ys. IsChain (set nexts before (get_or nexts i none)) (get_or (set nexts before (get_or nexts i none)) x none) ys) (sym left) (subst (λ y. IsChain (set nexts before (get_or nexts i none)) y o.rest) (sym step) tail),
      ))
  | inr n ↦
      let r : Among before xs = elim a [ inl f ↦ absurd (n (sym f)) | inr r ↦ r ] in
      let inner = unlinked_behind nexts (get_or nexts x none) xs i before few c.2 r e lt in
      let ne : i ≢ x = λ g. apart nexts x xs few c.1 c.2 (subst (λ z. Among z xs) (e ∙ g) (next_among nexts (get_or nexts x none) xs before c.2 r (λ none_is. omega (arith, none_is, e, lt, few)))) in
      at_bucket (λ ys. IsChain (set nexts before (get_or nexts i none)) h ys) i x xs (x ∷ without i xs)
      (λ g. absurd (ne g))
      (λ _. (
        c.0,
        omega (arith, c.1, length-set nexts before (get_or nexts i none)),
        subst (λ y. IsChain (set nexts before (get_or nexts i none)) y (without i xs)) (sym (get_or-set_other nexts before x (get_or nexts i none) none n)) inner,
      ))
]
