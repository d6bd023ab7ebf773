-- Lists, bits and places, for the rule of a board.
use Rattle.std.proofs.Common.{◌≡◌, ◌≢◌, ◌⊎◌, ℕ, zero, suc, ◌+◌, ◌-◌, ◌*◌, ◌/◌, ◌^◌, ◌<◌, ◌≤◌, ◌==◌, ◌||◌, Bool, true, false, List, [], ◌∷◌, ◌++◌, length, take, drop, map, replicate, Option, Some, None, IsTrue, refl, sym, ap, ◌∙◌, subst, inl, inr, ⊎_elim, add-one, arith, eq-eqb, ne_eqb, mul-le-mul_right}
use Rattle.std.proofs.Math.Nat.{mul-div_cancel_left}
use Rattle.std.proofs.lemmas.Bool.{eqb-true}
use Rattle.std.proofs.lemmas.Nat.Bits.{bit_at-lt, bit_at_and, bit_at_ones, bit_at_ones_above, same_from_bits, ones_shr}
use Rattle.std.specs.Int.{bit_at}
use lib.Bits.{bit_and}
use mathlib.Core.Option.{some, some-ne-none, some-injective}
use mathlib.Core.Logic.{dite}
use native.Mathlib.Decide.{dec_lt, ℕ_discrete}
use lib.ListN.{get_elem?}
use Rattle.atomic_table.specs.Seated.{TableId}
use Rattle.atomic_table.specs.Table.{rest}
use Rattle.merge_board.specs.Ends.{each, Sized}
use Rattle.merge_board.specs.Rule.{has, AllSet, LacksBit, IsFit}
use Rattle.merge_board.specs.Steps.{shelf, AreDue}

pub at_within : {A : Type 0} (l : List A) (i : ℕ) (a : A) → get_elem? l i ≡ some a → i < length l
at_within [] i a e = absurd (some-ne-none a (sym e))
at_within (x ∷ xs) zero a e = omega arith
at_within (x ∷ xs) (suc i) a e = let h = at_within xs i a e in omega arith

pub at_end : {A : Type 0} (l : List A) (a b : A) (j : ℕ) → get_elem? (l ++ a ∷ []) j ≡ some b
    → (get_elem? l j ≡ some b) ⊎ ((j ≡ length l) × (a ≡ b))
at_end [] a b zero e = inr (refl, some-injective a b e)
at_end [] a b (suc j) e = absurd (some-ne-none b (sym e))
at_end (x ∷ xs) a b zero e = inl e
at_end (x ∷ xs) a b (suc j) e = ⊎_elim inl (λ r. inr (ap suc r.0, r.1)) (at_end xs a b j e)

or_true : (b : Bool) → (b || true) ≡ true
or_true true = refl
or_true false = refl

pub has_here : (p : ℕ) (xs : List ℕ) → has (p ∷ xs) p ≡ true
has_here p xs = ap (λ b. b || has xs p) (eq-eqb p p refl)

pub has_more : (x p : ℕ) (xs : List ℕ) → has xs p ≡ true → has (x ∷ xs) p ≡ true
has_more x p xs e = ap (λ b. (x == p) || b) e ∙ or_true (x == p)

pub has_else : (x p : ℕ) (xs : List ℕ) → p ≢ x → has (x ∷ xs) p ≡ has xs p
has_else x p xs ne = ap (λ b. b || has xs p) (ne_eqb x p (λ e. ne (sym e)))

-- two widths that give as many rows the same area are equal
one_width : (n a b : ℕ) → 0 < n → n * a ≡ n * b → a ≡ b
one_width n a b some_rows e = sym (mul-div_cancel_left a some_rows) ∙ ap (λ z. z / n) e ∙ mul-div_cancel_left b some_rows

-- a seat of the board knows its number of branches, since the table holds it
pub width_is : (t : TableId) (s z : Sized) (b : ℕ) → s ≡ z → t ≡ z.board → s.board.words ≡ s.pids
    → s.board.slots ≡ s.pids * s.branches → 0 < s.pids → t.slots ≡ t.words * b → b ≡ z.branches
width_is t s z b is same words slots some_rows wide =
    let here : t ≡ s.board = same ∙ sym (ap (λ (y : Sized). y.board) is) in
    let rows : t.words ≡ s.pids = ap (λ (y : TableId). y.words) here ∙ words in
    one_width s.pids b s.branches some_rows (ap (λ y. y * b) (sym rows) ∙ sym wide ∙ ap (λ (y : TableId). y.slots) here ∙ slots) ∙ ap (λ (y : Sized). y.branches) is

-- a slot lies among all slots
pub lies_within : (p b pids branches : ℕ) → p < pids → b < branches → p * branches + b < pids * branches
lies_within p b pids branches near few = let h : suc p * branches ≤ pids * branches = mul-le-mul_right branches near in omega arith

pub all_set? : (branches word : ℕ) → Dec (AllSet branches word)
all_set? zero word = yes (λ b few. absurd (omega arith))
all_set? (suc n) word = elim (all_set? n word) [
  | yes all ↦ elim (ℕ_discrete (bit_at word n) 1) [
    | yes e ↦ yes (λ b few. dite (ℕ_discrete b n) (λ is. ap (bit_at word) is ∙ e) (λ ne. all b (omega arith)))
    | no ne ↦ no (λ h. ne (h n (omega arith)))
  ]
  | no ne ↦ no (λ h. ne (λ b few. h b (omega arith)))
]

-- a word with each bit of the mask has all, and conversely
pub whole_test : (branches word mask : ℕ) → mask ≡ 2 ^ branches - 1
    → (IsTrue (bit_and word mask == mask) → AllSet branches word) × (AllSet branches word → IsTrue (bit_and word mask == mask))
whole_test branches word mask is = (
  (λ t b few. let one : bit_at mask b ≡ 1 = ap (λ z. bit_at z b) is ∙ bit_at_ones branches b few in
      omega (arith, bit_at_and word mask b, ap (λ z. bit_at z b) (eqb-true (bit_and word mask) mask t), bit_at-lt word b)),
  (λ all. eq-eqb (bit_and word mask) mask (same_from_bits (bit_and word mask) mask (λ b. dite (dec_lt b branches)
      (λ few. let one : bit_at mask b ≡ 1 = ap (λ z. bit_at z b) is ∙ bit_at_ones branches b few in omega (arith, bit_at_and word mask b, all b few))
      (λ many. let none : bit_at mask b ≡ 0 = ap (λ z. bit_at z b) is ∙ bit_at_ones_above branches b (omega arith) in omega (arith, bit_at_and word mask b))))),
)

-- the mask as it is computed
pub mask_is : (branches : ℕ) → branches ≤ 64 → (2 ^ 64 - 1) / 2 ^ (64 - branches) ≡ 2 ^ branches - 1
mask_is branches most = ones_shr 64 (64 - branches) (omega arith) ∙ ap (λ z. 2 ^ z - 1) (let e : 64 - (64 - branches) ≡ branches = omega arith in e)

-- a word that doesn't have all bits lacks one
pub lacks_one : (branches word : ℕ) → (AllSet branches word → ⊥) → LacksBit branches word
lacks_one zero word out = absurd (out (λ b few. absurd (omega arith)))
lacks_one (suc n) word out = dite (ℕ_discrete (bit_at word n) 1)
    (λ e. let l = lacks_one n word (λ all. out (λ b few. dite (ℕ_discrete b n) (λ is. ap (bit_at word) is ∙ e) (λ ne. all b (omega arith)))) in (l.0, omega (arith, l.1), l.2))
    (λ ne. (n, omega arith, omega (arith, bit_at-lt word n)))

abbrev none_of : (A : Type 0) → Option A
none_of A = None

module _ {A : Type 0} where
  -- the value at `b`, after those before it were taken
  pub next_value : (xs : List A) (b : ℕ) → b < length xs
      → (x : A) × (drop b xs ≡ x ∷ drop (suc b) xs) × (take (suc b) xs ≡ take b xs ++ x ∷ [])
  next_value [] b few = absurd (omega arith)
  next_value (x ∷ xs) zero few = (x, refl, refl)
  next_value (x ∷ xs) (suc b) few = let n = next_value xs b (omega arith) in (n.0, n.1, ap (λ l. x ∷ l) n.2)

  pub nones_home : (n i : ℕ) → i < n → get_elem? (map some (replicate n (none_of A))) i ≡ some (some None)
  nones_home zero i few = absurd (omega arith)
  nones_home (suc n) zero few = refl
  nones_home (suc n) (suc i) few = nones_home n i (omega arith)

  pub each_more : (made : ℕ → A) (n : ℕ) (seats : List A) (x : A) → seats ≡ each made n → x ≡ made n
      → seats ++ x ∷ [] ≡ each made (n + 1)
  each_more made n seats x before is = (λ i. before i ++ is i ∷ []) ∙ ap (each made) (sym (add-one n))

  -- the front place of the rest of the shelf
  pub front_place : (base b : ℕ) (got : List A) (c ys : List (ℕ × Option A)) → c ≡ shelf base b (drop b got) ++ ys
      → b < length got
      → (x : A) × (c ≡ (base + b, Some x) ∷ rest c) × (rest c ≡ shelf base (b + 1) (drop (b + 1) got) ++ ys) × (take (b + 1) got ≡ take b got ++ x ∷ [])
  front_place base b got c ys is few =
      let n = next_value got b few in
      let now = is ∙ ap (λ l. shelf base b l ++ ys) n.1 in (
        n.0,
        now ∙ ap (λ l. (base + b, Some n.0) ∷ l) (sym (ap rest now)),
        ap rest now ∙ ap (λ z. shelf base (b + 1) (drop z got) ++ ys) (sym (add-one b)),
        ap (λ z. take z got) (add-one b) ∙ n.2,
      )

  pub same_front : (c l m : List (ℕ × Option A)) (i j : ℕ) (x y : A) → c ≡ (i, Some x) ∷ l → c ≡ (j, Some y) ∷ m → x ≡ y
  same_front c l m i j x y e f = let both : Some x ≡ Some y = ap (λ z. z.1) (some-injective (i, Some x) (j, Some y) (ap (λ z. get_elem? z 0) (sym e ∙ f))) in cc

  pub each_due : (fits : A → A → Type 0) (due : List (List A)) (p b : ℕ) (xs : List A) → AreDue fits due p b xs
      → (i j : ℕ) (x : A) → get_elem? xs i ≡ some x → j ≡ b + i → IsFit fits due j p x
  each_due fits due p b [] all i j x e is = absurd (some-ne-none x (sym e))
  each_due fits due p b (y ∷ ys) all zero j x e is = subst (λ (z : ℕ × A). IsFit fits due z.0 p z.1) (λ k. ((let g : b ≡ j = omega arith in g) k, some-injective y x e k)) all.0
  each_due fits due p b (y ∷ ys) all (suc i) j x e is = each_due fits due p (b + 1) ys all.1 i j x e (omega arith)
