-- Four bytes, compared as one number.
use Rattle.std.proofs.Common.{◌≡◌, ◌<◌, ◌∙◌, ℕ, List, length, get_or, Bool, true, false, nat_eq, w32, refl, sym, ap}
use Rattle.std.specs.Int.{from_be_bytes}
use Rattle.std.specs.Cmp.Lexicographic.{pointwise, bytes_decides}
use Rattle.std.proofs.lemmas.Nat.{be_bytes_4}
use Rattle.std.proofs.lemmas.Bool.{eq-eqb, eqb-true}

either : (p q : Bool) → (p ≡ true → q ≡ true) → (q ≡ true → p ≡ true) → p ≡ q
either true true f g = refl
either true false f g = sym (f refl)
either false true f g = g refl
either false false f g = refl

pub as_numbers : (a b : List ℕ) → length a ≡ 4 → length b ≡ 4 → ((i : ℕ) → get_or a i 0 < 256) → ((i : ℕ) → get_or b i 0 < 256) → nat_eq (from_be_bytes w32 a) (from_be_bytes w32 b) ≡ pointwise nat_eq a b
as_numbers a b four_a four_b bytes_a bytes_b =
    either (nat_eq (from_be_bytes w32 a) (from_be_bytes w32 b)) (pointwise nat_eq a b)
    (λ same. (bytes_decides a b).1 (sym (be_bytes_4 a (from_be_bytes w32 a) four_a bytes_a refl) ∙ be_bytes_4 b (from_be_bytes w32 a) four_b bytes_b (eqb-true (from_be_bytes w32 a) (from_be_bytes w32 b) same)))
    (λ same. eq-eqb (from_be_bytes w32 a) (from_be_bytes w32 b) (ap (from_be_bytes w32) ((bytes_decides a b).0 same)))
