-- Which functions are held back, statement by statement.
use Rattle.std.proofs.Common.{◌≡◌, ℕ, zero, suc, ◌<◌, Bool, true, false, ◌&&◌, ◌||◌, not, List, [], ◌∷◌, length, refl, sym, ap, ◌∙◌, arith}
use Rattle.std.specs.Prelude.{◌==◌}
use Rattle.std.specs.List.{list_any, slice_index_or}
use Rattle.std.proofs.lemmas.Bool.Decides.{nat_tests}
use Rattle.policy_text.specs.declared.policy.Statement.{Statement}
use Rattle.policy_text.specs.declared.policy.Statement.TheVariants.{Order, Priority, First, Last}
use Rattle.policy_check.specs.Edges.{draws, edges_of}
use Rattle.policy_check.specs.Turns.{is_held}
use Rattle.policy_check.specs.Waiting.{waits, holds_back}
use Rattle.policy_check.proofs.WaitingLemmas.{waits_some, waits_none}

any-or : {A : Type 0} (p q : A → Bool) (xs : List A) → list_any (λ x. p x || q x) xs ≡ (list_any p xs || list_any q xs)
any-or p q [] = refl
any-or p q (x ∷ xs) = let rest = any-or p q xs in grind arith

any-never : {A : Type 0} (xs : List A) → list_any (λ x. false) xs ≡ false
any-never [] = refl
any-never (x ∷ xs) = any-never xs

any-swap : {A B : Type 0} (p : A → B → Bool) (xs : List A) (ys : List B) → list_any (λ x. list_any (p x) ys) xs ≡ list_any (λ y. list_any (λ x. p x y) xs) ys
any-swap p [] ys = sym (any-never ys)
any-swap p (x ∷ xs) ys = ap (λ t. list_any (p x) ys || t) (any-swap p xs ys) ∙ sym (any-or (p x) (λ y. list_any (λ x. p x y) xs) ys)

any_if : (t : Bool) (p : ℕ → Bool) (xs : List ℕ) → list_any (λ a. t && p a) xs ≡ (t && list_any p xs)
any_if true p xs = refl
any_if false p xs = any-never xs

flag-within : (flags : List Bool) (x : ℕ) → slice_index_or flags x false ≡ true → x < length flags
flag-within [] x e = cc
flag-within (b ∷ flags) zero e = omega arith
flag-within (b ∷ flags) (suc x) e = let rest = flag-within flags x e in omega arith

-- a test that exactly one function passes
any_one : (flags : List Bool) (x : ℕ) (t : Bool) → list_any (λ a. (a == x) && t) (waits flags) ≡ (t && slice_index_or flags x false)
any_one flags x false = waits_none (λ a. (a == x) && false) flags (λ k l. grind arith)
any_one flags x true =
    elim (slice_index_or flags x false) as (λ b. slice_index_or flags x false ≡ b → list_any (λ a. (a == x) && true) (waits flags) ≡ b) [
      | true ↦ λ e. waits_some (λ a. (a == x) && true) flags x (flag-within flags x e) e (grind (arith, nat_tests))
      | false ↦ λ e. waits_none (λ a. (a == x) && true) flags (λ k l.
          elim (k == x) as (λ b. (k == x) ≡ b → (slice_index_or flags k false && (b && true)) ≡ false) [
            | true ↦ λ t. let same : k ≡ x = grind (arith, nat_tests) in let down : slice_index_or flags k false ≡ false = rw same e in rw down refl
            | false ↦ λ t. grind arith
          ] refl)
    ] refl

holds_back-is : (flags : List Bool) (x : ℕ) (s : Statement) → list_any (λ a. draws s a x) (waits flags) ≡ holds_back flags x s
holds_back-is flags x (Order a b line) = any_one flags a (x == b)
holds_back-is flags x (Priority high low line) = any_one flags low (x == high)
holds_back-is flags x (First y line) = any_one flags y (not (x == y))
holds_back-is flags x (Last y line) = any_if (x == y) (λ a. not (a == y)) (waits flags)

any-agree : {A : Type 0} (p q : A → Bool) → ((x : A) → p x ≡ q x) → (xs : List A) → list_any p xs ≡ list_any q xs
any-agree p q h [] = refl
any-agree p q h (x ∷ xs) = rw (h x, any-agree p q h xs) refl

-- a function is held if some statement holds it back
pub is_held_by_statement : (statements : List Statement) (flags : List Bool) (x : ℕ) → is_held (edges_of statements) (waits flags) x ≡ list_any (holds_back flags x) statements
unfolding edges_of
is_held_by_statement statements flags x =
    any-swap (λ a s. draws s a x) (waits flags) statements ∙ any-agree (λ s. list_any (λ a. draws s a x) (waits flags)) (holds_back flags x) (holds_back-is flags x) statements
