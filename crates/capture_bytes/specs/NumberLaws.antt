-- For proofs: laws of numbers and their bytes.
use Rattle.std.proofs.Common.{◌≡◌, ◌≤◌, ◌<◌, ◌+◌, ◌-◌, ◌^◌, ◌∙◌, ℕ, zero, suc, List, [], ◌∷◌, length, take, drop, get_or, refl, ap, sym, length-drop, arith}
use Rattle.std.proofs.lemmas.List.{get_or-drop, drop-take}
use Rattle.std.proofs.lemmas.Nat.{le_bytes_2, le_bytes_4, be_bytes_2, be_bytes_4}
use Rattle.byteorder.specs.Endian.{big_number, little_number}
use Rattle.byteorder.specs.Numbers.{big_from-lt, little_from-lt, big_from-take, little_from-take}
use Rattle.capture_bytes.specs.declared.order.Endian.{Endian}
use Rattle.capture_bytes.specs.declared.order.Endian.TheVariants.{Big, Little}
use Rattle.capture_bytes.specs.Numbers.{number_at, bytes_of, IsBytes}

-- a number at the front is that of the whole
pub number_take : (order : Endian) (n at k : ℕ) (bytes : List ℕ) → n ≤ k → number_at order n at (take (at + k) bytes) ≡ number_at order n at bytes
number_take Big n at k bytes h = ap (big_number n) (drop-take at k bytes) ∙ big_from-take 0 n k (drop at bytes) (omega arith)
number_take Little n at k bytes h = ap (little_number n) (drop-take at k bytes) ∙ little_from-take 0 n k (drop at bytes) (omega arith)

pub number_within : (order : Endian) (n at m : ℕ) (bytes : List ℕ) → at + n ≤ m → number_at order n at (take m bytes) ≡ number_at order n at bytes
number_within order n at m bytes h = ap (λ k. number_at order n at (take k bytes)) (let e : m ≡ at + (m - at) = omega arith in e) ∙ number_take order n at (m - at) bytes (omega arith)

-- two lists with the same front have the same numbers there
pub same_number : (order : Endian) (n at m : ℕ) (xs ys : List ℕ) → at + n ≤ m → take m xs ≡ take m ys → number_at order n at xs ≡ number_at order n at ys
same_number order n at m xs ys h same = sym (number_within order n at m xs h) ∙ ap (number_at order n at) same ∙ number_within order n at m ys h

four : (a b c d : ℕ) (xs : List ℕ) → IsBytes (a ∷ b ∷ c ∷ d ∷ xs) → (i : ℕ) → get_or (a ∷ b ∷ c ∷ d ∷ []) i 0 < 256
four a b c d xs small zero = small 0
four a b c d xs small (suc zero) = small 1
four a b c d xs small (suc (suc zero)) = small 2
four a b c d xs small (suc (suc (suc zero))) = small 3
four a b c d xs small (suc (suc (suc (suc i)))) = omega arith

two : (a b : ℕ) (xs : List ℕ) → IsBytes (a ∷ b ∷ xs) → (i : ℕ) → get_or (a ∷ b ∷ []) i 0 < 256
two a b xs small zero = small 0
two a b xs small (suc zero) = small 1
two a b xs small (suc (suc i)) = omega arith

first_4 : (order : Endian) (xs : List ℕ) → 4 ≤ length xs → IsBytes xs → bytes_of order 4 (number_at order 4 0 xs) ≡ take 4 xs
first_4 Big (a ∷ b ∷ c ∷ d ∷ xs) long small = be_bytes_4 (a ∷ b ∷ c ∷ d ∷ []) (number_at Big 4 0 (a ∷ b ∷ c ∷ d ∷ xs)) refl (four a b c d xs small) (omega arith)
first_4 Little (a ∷ b ∷ c ∷ d ∷ xs) long small = le_bytes_4 (a ∷ b ∷ c ∷ d ∷ []) (number_at Little 4 0 (a ∷ b ∷ c ∷ d ∷ xs)) refl (four a b c d xs small) (omega arith)
first_4 order xs long small = absurd (omega arith)

first_2 : (order : Endian) (xs : List ℕ) → 2 ≤ length xs → IsBytes xs → bytes_of order 2 (number_at order 2 0 xs) ≡ take 2 xs
first_2 Big (a ∷ b ∷ xs) long small = be_bytes_2 (a ∷ b ∷ []) (number_at Big 2 0 (a ∷ b ∷ xs)) refl (two a b xs small) (omega arith)
first_2 Little (a ∷ b ∷ xs) long small = le_bytes_2 (a ∷ b ∷ []) (number_at Little 2 0 (a ∷ b ∷ xs)) refl (two a b xs small) (omega arith)
first_2 order xs long small = absurd (omega arith)

-- the bytes of the rest are bytes
pub bytes_behind : (n : ℕ) (xs : List ℕ) → IsBytes xs → IsBytes (drop n xs)
bytes_behind n xs small i = rw (get_or-drop n xs i 0) (small (n + i))

pub at_drop : (order : Endian) (n at : ℕ) (xs : List ℕ) → number_at order n at xs ≡ number_at order n 0 (drop at xs)
at_drop Big n at xs = refl
at_drop Little n at xs = refl

-- four bytes at a place are those of their number
pub spelled_4 : (order : Endian) (at : ℕ) (xs : List ℕ) → at + 4 ≤ length xs → IsBytes xs → bytes_of order 4 (number_at order 4 at xs) ≡ take 4 (drop at xs)
spelled_4 order at xs long small = ap (bytes_of order 4) (at_drop order 4 at xs) ∙ first_4 order (drop at xs) (omega (arith, length-drop at xs)) (bytes_behind at xs small)

pub spelled_2 : (order : Endian) (at : ℕ) (xs : List ℕ) → at + 2 ≤ length xs → IsBytes xs → bytes_of order 2 (number_at order 2 at xs) ≡ take 2 (drop at xs)
spelled_2 order at xs long small = ap (bytes_of order 2) (at_drop order 2 at xs) ∙ first_2 order (drop at xs) (omega (arith, length-drop at xs)) (bytes_behind at xs small)

-- four bytes are a number of 32 bits
pub fits_4 : (order : Endian) (at : ℕ) (xs : List ℕ) → IsBytes xs → number_at order 4 at xs < 2 ^ 32
fits_4 Big at xs small = big_from-lt 0 4 (drop at xs) (bytes_behind at xs small)
fits_4 Little at xs small = little_from-lt 0 4 (drop at xs) (bytes_behind at xs small)
