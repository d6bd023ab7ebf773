-- What remains to be read of a text.
use Rattle.std.proofs.Common.{eq-eqb, true, false, arith, ◌≡◌, ◌<◌, ◌+◌, ◌^◌, ℕ, List, length, ap, refl}
use Rattle.std.specs.Prelude.{Err, ◌==◌}
use Rattle.std.specs.Str.{IsUtf8, IsValidUpTo}
use Rattle.std.specs.Str.Lossy.{utf8_valid_len}
use Rattle.std.proofs.lemmas.Str.{utf8_valid_len-IsUtf8, utf8_valid_len-IsValidUpTo}
use Rattle.policy_text.specs.declared.fault.TextFault.TheVariants.{NotUtf8}
use Rattle.policy_text.specs.declared.policy.ChainPolicy.{ChainPolicy}
use Rattle.std.proofs.lemmas.Bool.{ne_eqb}
use Rattle.policy_text.specs.Grammar.{after_lines, chains_of, policy_of, policy_of_utf8}
use Rattle.policy_text.specs.Lines.{lines_from, lines_of}

-- the chains so far and the lines that remain give what the text gives
pub record Reads (text : List ℕ) (chains : List ChainPolicy) (number : ℕ) (rest : List ℕ) : Type 0 where
  pub left : chains_of (lines_of text) ≡ after_lines chains (lines_from number rest)
  pub room : number + length rest < 2 ^ 31

-- all of the text is UTF-8
pub whole_text : (text : List ℕ) → IsUtf8 text → policy_of text ≡ policy_of_utf8 text
unfolding policy_of
whole_text text utf8 =
    let test : (utf8_valid_len text == length text) ≡ true = eq-eqb _ _ (utf8_valid_len-IsUtf8 text utf8) in
    rw test refl

-- the text is UTF-8 up to a place
pub part_text : (text : List ℕ) (n : ℕ) → IsValidUpTo text n → policy_of text ≡ Err (NotUtf8 n)
unfolding policy_of
part_text text n valid =
    let same : utf8_valid_len text ≡ n = utf8_valid_len-IsValidUpTo text n valid in
    let test : (utf8_valid_len text == length text) ≡ false = ne_eqb _ _ (omega (arith, same, valid.short)) in
    rw test (ap (λ k. Err (NotUtf8 k)) same)
