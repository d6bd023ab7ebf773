-- Each open packet takes one place.
use Rattle.std.proofs.Common.{◌≡◌, ◌≢◌, ℕ, ◌+◌, ◌-◌, ◌<◌, ◌≤◌, zero, suc, ◌⊎◌, inl, inr, Bool, true, false, cond, List, [], ◌∷◌, length, get_or, Option, Some, None, IsSome, refl, sym, ap, ◌∙◌, arith, is_some, Contains}
use Rattle.std.proofs.lemmas.Bool.{false≢true, cases_eq}
use Rattle.std.specs.Ordering.{nat_cmp}
use Rattle.std.specs.Cmp.{nat_cmp_total}
use Rattle.std.specs.FinMap.{FinMap, empty, get, len, remove, get-empty, get-remove, len-empty, len-remove, same_map, nat_cmp-IsAntisymmetric}
use Rattle.acc_table.specs.Arrivals.{HasRoomFor, IsOpen, IsOpenAmong, Table, open_count}
use Rattle.acc_table.proofs.Finding.{tied_or_apart}

at_place : (p : ℕ) (ps : List ℕ) (q k : ℕ) → k < length (p ∷ ps) → get_or (p ∷ ps) k q ≡ q → (p ≡ q) ⊎ Contains ps q
at_place p ps q zero lt e = inl e
at_place p ps q (suc k) lt e = inr (k, omega (arith, lt), e)

contains_parts : (p : ℕ) (ps : List ℕ) (q : ℕ) → Contains (p ∷ ps) q → (p ≡ q) ⊎ Contains ps q
contains_parts p ps q h = at_place p ps q h.0 h.1 h.2

kept_key : {X : Type 0} (m : FinMap nat_cmp X) (p q : ℕ) → IsSome (get (remove m p) q) → IsSome (get m q) × (p ≢ q)
kept_key m p q is = elim (tied_or_apart q p) [
  | inl t ↦ absurd (false≢true (sym (ap is_some (get-remove nat_cmp_total m p q ∙ ap (λ b. cond b None (get m q)) t.0)) ∙ is))
  | inr t ↦ (sym (ap is_some (get-remove nat_cmp_total m p q ∙ ap (λ b. cond b None (get m q)) t.0)) ∙ is, λ e. t.1 (sym e))
]

one_less : (b : Bool) (n : ℕ) → n ≤ cond b (n - 1) n + 1
one_less true n = omega arith
one_less false n = omega arith

len-remove-le : {X : Type 0} (m : FinMap nat_cmp X) (p : ℕ) → len m ≤ len (remove m p) + 1
len-remove-le m p = rw (len-remove nat_cmp_total m p) (one_less (is_some (get m p)) (len m))

none_or_some : {A : Type 0} (o : Option A) → (IsSome o → ⊥) → o ≡ None
none_or_some None h = refl
none_or_some (Some x) h = absurd (h refl)

no_place : (q : ℕ) → Contains [] q → ⊥
no_place q h = omega (arith, h.1)

rest : (p : ℕ) (ps : List ℕ) (q : ℕ) → Contains (p ∷ ps) q → p ≢ q → Contains ps q
rest p ps q h n = elim (contains_parts p ps q h) [ inl e ↦ absurd (n e) | inr r ↦ r ]

same_key : {X : Type 0} (m : FinMap nat_cmp X) (p pid q : ℕ) → p ≡ pid → p ≡ q → IsSome (get m q) → IsSome (get m pid)
same_key m p pid q e f is = ap (λ k. is_some (get m k)) (sym e ∙ f) ∙ is

len-among : {X : Type 0} (ps : List ℕ) (m : FinMap nat_cmp X) → ((q : ℕ) → IsSome (get m q) → Contains ps q) → len m ≤ length ps
len-among {X} [] m h =
    let e : m ≡ empty = same_map nat_cmp_total nat_cmp-IsAntisymmetric m empty (λ q. none_or_some (get m q) (λ is. no_place q (h q is)) ∙ sym (get-empty nat_cmp q)) in
    omega (arith, ap len e, len-empty nat_cmp X)
len-among (p ∷ ps) m h =
    omega (arith, len-remove-le m p, len-among ps (remove m p) (λ q is. rest p ps q (h q (kept_key m p q is).0) (kept_key m p q is).1))

-- keys among some numbers, one of which is no key, are fewer than the numbers
pub len-among-lt : {X : Type 0} (ps : List ℕ) (m : FinMap nat_cmp X) (pid : ℕ) → ((q : ℕ) → IsSome (get m q) → Contains ps q) → Contains ps pid → (IsSome (get m pid) → ⊥) → len m < length ps
len-among-lt [] m pid h at none = absurd (no_place pid at)
len-among-lt (p ∷ ps) m pid h at none = elim (contains_parts p ps pid at) [
  | inl e ↦ omega (arith, len-among ps m (λ q is. rest p ps q (h q is) (λ f. none (same_key m p pid q e f is))))
  | inr r ↦ omega (arith, len-remove-le m p, len-among-lt ps (remove m p) pid (λ q is. rest p ps q (h q (kept_key m p q is).0) (kept_key m p q is).1) r (λ is. none (kept_key m p pid is).0))
]

is_open_or : {T : Type 0} (t : Table T) (pid : ℕ) (o : Option (List (Option T))) → get t.waiting pid ≡ o → ((IsOpen t pid → ⊥) → open_count t < t.entries) → HasRoomFor t pid
is_open_or t pid None e h = inr (h (λ is. absurd (false≢true (sym (ap is_some e) ∙ is))))
is_open_or t pid (Some x) e h = inl (ap is_some e)

-- so there is room for any of the packets for which a table has places
pub room_among : {T : Type 0} (t : Table T) (pids : List ℕ) (pid : ℕ) → IsOpenAmong t pids → length pids ≤ t.entries → Contains pids pid → HasRoomFor t pid
room_among t pids pid among few at =
    is_open_or t pid (get t.waiting pid) refl (λ none. omega (arith, len-among-lt pids t.waiting pid among at none, few))

abbrev below : ℕ → List ℕ
below zero = []
below (suc n) = n ∷ below n

length-below : (n : ℕ) → length (below n) ≡ n
length-below zero = refl
length-below (suc n) = ap suc (length-below n)

Contains-below : (n p : ℕ) → p < n → Contains (below n) p
Contains-below zero p lt = absurd (omega (arith, lt))
Contains-below (suc n) p lt = elim (cases_eq p n) [
  | inl e ↦ (zero, omega arith, sym e)
  | inr o ↦ let h = Contains-below n p (omega (arith, lt, o)) in (suc h.0, omega (arith, h.1), h.2)
]

pub room_below : {T : Type 0} (t : Table T) (count pid : ℕ) → ((p : ℕ) → IsOpen t p → p < count) → count ≤ t.entries → pid < count → HasRoomFor t pid
room_below t count pid below_count few lt =
    room_among t (below count) pid (λ p is. Contains-below count p (below_count p is)) (omega (arith, length-below count, few)) (Contains-below count pid lt)
