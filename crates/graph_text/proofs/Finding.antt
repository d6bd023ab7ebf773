-- The least position that passes a test, and the first pair.
use Rattle.std.proofs.Common.{◌≡◌, ◌<◌, ◌≤◌, ◌+◌, ◌-◌, ◌∙◌, ℕ, zero, suc, Bool, true, false, ◌&&◌, cond, List, [], ◌∷◌, Some, None, sym, ap, refl, arith, subst, inl, inr}
use Rattle.std.specs.Prelude.{Option, find, is_some, nat_lt, option_and_then, ◌⊎◌}
use Rattle.std.specs.List.{range_with_len}
use Rattle.std.specs.Option.{option_map}
use Rattle.std.proofs.lemmas.Bool.Decides.{nat_tests}
use Rattle.std.proofs.lemmas.Option.{some_pair_parts}
use Rattle.graph_text.specs.Standing.{least, least_behind, has_behind, least_pair}
use Rattle.graph_text.proofs.Tests.{and_true}

-- none is found if none passes, and what is found passes
at_or_above : (a q : ℕ) → a ≤ q → (q ≡ a) ⊎ (a + 1 ≤ q)
at_or_above a q le = elim (nat_lt a q) as (λ b. nat_lt a q ≡ b → (q ≡ a) ⊎ (a + 1 ≤ q)) [
  | true ↦ λ e. let lt : a < q = grind (arith, nat_tests) in inr (omega arith)
  | false ↦ λ e. let below : q ≤ a = grind (arith, nat_tests) in inl (omega arith)
] refl

none_found : (test : ℕ → Bool) (a n q : ℕ) → find test (range_with_len a n) ≡ None → a ≤ q → q < a + n → test q ≡ false
none_found test a zero q e le lt = absurd (omega arith)
none_found test a (suc n) q e le lt =
    elim (test a) as (λ b. test a ≡ b → cond b (Some a) (find test (range_with_len (a + 1) n)) ≡ None → test q ≡ false) [
      | true ↦ λ i j. absurd (cc)
      | false ↦ λ i j. elim (at_or_above a q le) [
        | inl same ↦ ap test same ∙ i
        | inr more ↦ none_found test (a + 1) n q j more (omega arith)
      ]
    ] refl e

found : (test : ℕ → Bool) (xs : List ℕ) (q : ℕ) → find test xs ≡ Some q → test q ≡ true
found test [] q e = absurd (cc)
found test (x ∷ xs) q e =
    elim (test x) as (λ b. test x ≡ b → cond b (Some x) (find test xs) ≡ Some q → test q ≡ true) [
      | true ↦ λ i j. let same : x ≡ q = cc in ap test (sym same) ∙ i
      | false ↦ λ i j. found test xs q j
    ] refl e

pub none_least : (test : ℕ → Bool) (end q : ℕ) → least test end ≡ None → 1 ≤ q → q < end → test q ≡ false
none_least test end q e le lt = none_found test 1 (end - 1) q e le (omega arith)

second_false : (a b : Bool) → a ≡ true → (a && b) ≡ false → b ≡ false
second_false true b e f = f
second_false false b e f = absurd (cc)

is_less : (p q : ℕ) → p < q → nat_lt p q ≡ true
is_less p q lt = grind (arith, nat_tests)

none_behind : (test : ℕ → ℕ → Bool) (end p q : ℕ) → least_behind test end p ≡ None → p < q → q < end → test p q ≡ false
none_behind test end p q e less within =
    second_false (nat_lt p q) (test p q) (is_less p q less) (none_least (λ q. nat_lt p q && test p q) end q e (omega arith) within)

some_option : {A : Type 0} (o : Option A) → is_some o ≡ false → o ≡ None
some_option None e = refl
some_option (Some x) e = absurd (cc)

neither : (p : ℕ) (o : Option ℕ) → is_some o ≡ true → option_map {U = ℕ × ℕ} (λ q. (p, q)) o ≡ None → ⊥
neither p None some e = cc
neither p (Some q) some e = cc

-- no pair
by_least : (test : ℕ → ℕ → Bool) (end : ℕ) (o : Option ℕ) → least (has_behind test end) end ≡ o →
    option_and_then {U = ℕ × ℕ} (λ p. option_map {U = ℕ × ℕ} (λ q. (p, q)) (least_behind test end p)) o ≡ None → o ≡ None
by_least test end None is e = refl
by_least test end (Some p) is e =
    let some = found (has_behind test end) (range_with_len 1 (end - 1)) p is in
    absurd (neither p (least_behind test end p) some e)

pub no_pair : (test : ℕ → ℕ → Bool) (end p q : ℕ) → least_pair test end ≡ None → 1 ≤ p → p < q → q < end → test p q ≡ false
no_pair test end p q e one less within =
    let none = by_least test end (least (has_behind test end) end) refl e in
    let alone = none_least (has_behind test end) end p none one (omega arith) in
    none_behind test end p q (some_option (least_behind test end p) alone) less within

-- a pair passes
in_pair : (test : ℕ → ℕ → Bool) (end p a b : ℕ) (o : Option ℕ) → least_behind test end p ≡ o → option_map {U = ℕ × ℕ} (λ q. (p, q)) o ≡ Some (a, b) → test a b ≡ true
in_pair test end p a b None is e = absurd (cc)
in_pair test end p a b (Some q) is e =
    let parts = some_pair_parts p a q b e in
    let passes = (and_true (nat_lt p q) (test p q) (found (λ q. nat_lt p q && test p q) (range_with_len 1 (end - 1)) q is)).1 in
    subst (λ (n : ℕ). test n b ≡ true) parts.0 (subst (λ (n : ℕ). test p n ≡ true) parts.1 passes)

of_pair : (test : ℕ → ℕ → Bool) (end a b : ℕ) (o : Option ℕ) → option_and_then {U = ℕ × ℕ} (λ p. option_map {U = ℕ × ℕ} (λ q. (p, q)) (least_behind test end p)) o ≡ Some (a, b) → test a b ≡ true
of_pair test end a b None e = absurd (cc)
of_pair test end a b (Some p) e = in_pair test end p a b (least_behind test end p) refl e

pub pair_passes : (test : ℕ → ℕ → Bool) (end a b : ℕ) → least_pair test end ≡ Some (a, b) → test a b ≡ true
pair_passes test end a b e = of_pair test end a b (least (has_behind test end) end) e
