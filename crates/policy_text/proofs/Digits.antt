-- The value of at most twenty digits, read from the front.
use Rattle.std.proofs.Common.{◌≡◌, ◌<◌, ◌≤◌, ◌+◌, ◌*◌, ◌-◌, ◌^◌, ℕ, List, ◌∷◌, [], length, take, get_or, true, false, Bool, zero, suc, sym, ap, refl, arith, rules, ◌∙◌}
use Rattle.std.specs.Prelude.{◌&&◌}
use Rattle.std.specs.Char.{is_ascii_digit, digit_value}
use Rattle.std.specs.List.{list_all}
use Rattle.std.specs.Str.Parse.{digits_value}
use Rattle.std.proofs.lemmas.Int.Digits.{digits_value_more}
use Rattle.std.proofs.lemmas.Str.Parse.{IsNumeralModel, numerals_by_value, digits_value_short, digits_value-take-le}
use Rattle.std.proofs.lemmas.Bool.Decides.{nat_tests}

own : IsNumeralModel (λ ds. list_all is_ascii_digit ds ≡ true) (digits_value 10)
own = numerals_by_value _ (search rules)

digit_is : (x : ℕ) → is_ascii_digit x ≡ true → (48 ≤ x) × (x ≤ 57) × (digit_value x ≡ x - 48)
digit_is x h =
    let low : 48 ≤ x = grind (arith, nat_tests) in
    let high : x ≤ 57 = grind (arith, nat_tests) in
    (low, high, grind (arith, nat_tests))

and_left : (a b : Bool) → (a && b) ≡ true → (a ≡ true) × (b ≡ true)
and_left true b h = (refl, h)
and_left false b h = (h, cc)

digit_at : (text : List ℕ) (i : ℕ) → list_all is_ascii_digit text ≡ true → i < length text → is_ascii_digit (get_or text i 0) ≡ true
digit_at [] i h inside = absurd (omega arith)
digit_at (x ∷ xs) zero h inside = (and_left _ _ h).0
digit_at (x ∷ xs) (suc i) h inside = digit_at xs i (and_left _ _ h).1 (omega arith)

-- one digit more
pub record ReadsDigit (text : List ℕ) (i value d : ℕ) : Type 0 where
  pub low : 48 ≤ d
  pub high : d ≤ 57
  pub more : value * 10 + (d - 48) ≡ digits_value 10 (take (i + 1) text)
  pub room : value * 10 + (d - 48) < 10 ^ 20

pub read_digit : (text : List ℕ) (i value d : ℕ) → i < length text → length text ≤ 20 → list_all is_ascii_digit text ≡ true →
    value ≡ digits_value 10 (take i text) → d ≡ get_or text i 0 → ReadsDigit text i value d
read_digit text i value d inside short digits so_far here =
    let is = digit_is (get_or text i 0) (digit_at text i digits inside) in
    let more : digits_value 10 (take (i + 1) text) ≡ value * 10 + (d - 48) =
    digits_value_more 10 text i inside ∙ ap (λ v. v * 10 + digit_value (get_or text i 0)) (sym so_far) ∙ ap (λ v. value * 10 + v) (is.2 ∙ ap (λ x. x - 48) (sym here)) in
    let whole : digits_value 10 text < 10 ^ 20 = digits_value_short own text 20 digits short in
    let part : digits_value 10 (take (i + 1) text) ≤ digits_value 10 text = digits_value-take-le 10 text (i + 1) (omega arith) in
    record { low = omega (arith, is.0, here); high = omega (arith, is.1, here); more = sym more; room = omega (arith, more, whole, part) }
