-- A pattern that is read has a byte.
use Rattle.std.proofs.Common.{◌≡◌, ◌<◌, ◌∙◌, ℕ, List, length, sym, subst, ⊎_elim, arith}
use Rattle.std.specs.Prelude.{Option, Some, None, codes, nat_le, ◌&&◌}
use Rattle.std.specs.Option.{option_and_then}
use Rattle.std.specs.Str.{bytes_eq}
use Rattle.std.proofs.lemmas.Bool.{cases_Bool, cond-true, cond-false, and_parts, leb-true}
use Rattle.policy_text.specs.Bytes.{bytes_of, limited, pattern_of}

none_some : {A : Type 0} (a : A) → None ≡ Some a → ⊥
none_some a e = cc

some_limited : (bytes pattern : List ℕ) → limited bytes ≡ Some pattern → 0 < length pattern
some_limited bytes pattern h = ⊎_elim
    (λ fits.
    let same : bytes ≡ pattern = (let e = sym (cond-true (nat_le 1 (length bytes) && nat_le (length bytes) 256) (Some bytes) None fits) ∙ h in cc) in
    let least = leb-true 1 (length bytes) ((and_parts (nat_le 1 (length bytes)) (nat_le (length bytes) 256) fits).0) in
    subst (λ l. 0 < length l) same (omega arith))
    (λ other. absurd (none_some pattern (sym (cond-false (nat_le 1 (length bytes) && nat_le (length bytes) 256) (Some bytes) None other) ∙ h)))
    (cases_Bool (nat_le 1 (length bytes) && nat_le (length bytes) 256))

some_spelled : (bytes : Option (List ℕ)) (pattern : List ℕ) → option_and_then limited bytes ≡ Some pattern → 0 < length pattern
some_spelled None pattern h = absurd (none_some pattern h)
some_spelled (Some bytes) pattern h = some_limited bytes pattern h

pub some_bytes : (form word pattern : List ℕ) → pattern_of form word ≡ Some pattern → 0 < length pattern
some_bytes form word pattern h = ⊎_elim
    (λ text. some_limited word pattern (sym (cond-true (bytes_eq form (codes "text")) _ _ text) ∙ h))
    (λ other. let left = sym (cond-false (bytes_eq form (codes "text")) _ _ other) ∙ h in ⊎_elim
    (λ hex. some_spelled (bytes_of word) pattern (sym (cond-true (bytes_eq form (codes "hex")) _ _ hex) ∙ left))
    (λ neither. absurd (none_some pattern (sym (cond-false (bytes_eq form (codes "hex")) _ None neither) ∙ left)))
    (cases_Bool (bytes_eq form (codes "hex"))))
    (cases_Bool (bytes_eq form (codes "text")))
