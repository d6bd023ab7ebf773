-- What `parse` reads in a text of digits.
use Rattle.std.proofs.Common.{◌≡◌, ◌<◌, ◌^◌, ◌&&◌, ℕ, Bool, cond, true, false, refl, sym, rules, arith, List, length, Result, Ok, Err, nat_le, true≢false}
use Rattle.std.specs.Char.{is_ascii_digit}
use Rattle.std.specs.List.{list_all}
use Rattle.std.specs.Result.{OkIff}
use Rattle.std.specs.Str.Parse.{ParsesUnsigned, digits_value}
use Rattle.std.proofs.lemmas.Str.Parse.{IsDigitsTest, IsNumeralModel, numerals_by_value, parse_digits}
use Rattle.std.proofs.lemmas.Bool.Decides.{nat_tests}
use Rattle.command_words.specs.declared.usage.Option4.{Option4}
use Rattle.command_words.specs.declared.usage.UsageFault.TheVariants.{Number}
use Rattle.command_words.specs.Words.{is_numeral, number_of}

digits_test : IsDigitsTest (λ ds. list_all is_ascii_digit ds ≡ true)
digits_test = search rules

model : IsNumeralModel (λ ds. list_all is_ascii_digit ds ≡ true) (digits_value 10)
model = numerals_by_value _ digits_test

both_true : (a b : Bool) → (a && b) ≡ true → (a ≡ true) × (b ≡ true)
both_true true b e = (refl, e)
both_true false b e = absurd (true≢false (sym e))

pub read : {E : Type 0} (text : List ℕ) (r : Result ℕ E) → is_numeral text ≡ true → ParsesUnsigned 64 10 text r → OkIff r ((0 < length text) × (digits_value 10 text < 2 ^ 64)) (digits_value 10 text)
read text r e h = parse_digits model 64 text r h (both_true (nat_le (length text) 20) (list_all is_ascii_digit text) (both_true (nat_le 1 (length text)) _ e).1).1

-- digits that are too many for the type are too great a number
pub no_number : {E : Type 0} (which : Option4) (low high : ℕ) (text : List ℕ) (e : E) → high < 2 ^ 64 → is_numeral text ≡ true → ParsesUnsigned 64 10 text (Err e) → Err (Number which) ≡ number_of which low high text
no_number which low high text e fits spelled h = go (nat_le (digits_value 10 text) high) refl
  where
    go : (b : Bool) → nat_le (digits_value 10 text) high ≡ b → Err (Number which) ≡ number_of which low high text
    go false k = rw k (rest (nat_le low (digits_value 10 text)) (is_numeral text))
      where
        rest : (p q : Bool) → Err (Number which) ≡ cond (q && (p && false)) (Ok (digits_value 10 text)) (Err (Number which))
        rest true true = refl
        rest true false = refl
        rest false true = refl
        rest false false = refl
    go true k =
        let some : 0 < length text = grind (arith, nat_tests) in
        let below : digits_value 10 text < 2 ^ 64 = grind (arith, nat_tests) in
        absurd (read text (Err e) spelled h (some, below))
