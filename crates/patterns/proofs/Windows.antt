-- A window is known by its bytes.
use Rattle.std.proofs.Common.{◌≡◌, ◌<◌, ◌≤◌, ◌+◌, ◌%◌, ◌∙◌, ℕ, ◌*◌, List, [], ◌∷◌, length, sym, ap, arith, bit_and}
use Rattle.std.specs.Prelude.{slice_index}
use Rattle.std.specs.Int.{from_le_bytes, w32}
use Rattle.std.proofs.lemmas.Nat.{and_mask}
use Rattle.memchr.specs.Find.{OccursAt}
use Rattle.patterns.specs.Windows.{bytes_of, four_at, window_at}
use Rattle.patterns.specs.declared.width.Width.{Width}
use Rattle.patterns.specs.declared.width.Width.TheVariants.{Two, Three, Four}

pub some_bytes : (width : Width) → (2 ≤ bytes_of width) × (bytes_of width ≤ 4)
some_bytes Two = (omega arith, omega arith)
some_bytes Three = (omega arith, omega arith)
some_bytes Four = (omega arith, omega arith)

-- four bytes, of which a mask leaves the first
four_of : ℕ → ℕ → ℕ → ℕ → ℕ
four_of a b c d = from_le_bytes w32 (a ∷ b ∷ c ∷ d ∷ [])

four_is : (a b c d : ℕ) → four_of a b c d ≡ a + b * 256 + c * 65536 + d * 16777216
unfolding four_of
four_is a b c d = omega arith

first_two : (a b c d e f g h : ℕ) → a ≡ e → b ≡ f → bit_and (four_of a b c d) 65535 ≡ bit_and (four_of e f g h) 65535
first_two a b c d e f g h first second =
    let one = and_mask (four_of a b c d) 16 in
    let other = and_mask (four_of e f g h) 16 in
    let one_is = four_is a b c d in
    let other_is = four_is e f g h in
    let same : four_of a b c d % 65536 ≡ four_of e f g h % 65536 = omega arith in
    one ∙ same ∙ sym other

first_three : (a b c d e f g h : ℕ) → a ≡ e → b ≡ f → c ≡ g → bit_and (four_of a b c d) 16777215 ≡ bit_and (four_of e f g h) 16777215
first_three a b c d e f g h first second third =
    let one = and_mask (four_of a b c d) 24 in
    let other = and_mask (four_of e f g h) 24 in
    let one_is = four_is a b c d in
    let other_is = four_is e f g h in
    let same : four_of a b c d % 16777216 ≡ four_of e f g h % 16777216 = omega arith in
    one ∙ same ∙ sym other

all_four : (a b c d e f g h : ℕ) → a ≡ e → b ≡ f → c ≡ g → d ≡ h → bit_and (four_of a b c d) 4294967295 ≡ bit_and (four_of e f g h) 4294967295
all_four a b c d e f g h first second third fourth = cc

-- an occurrence has the pattern's bytes, and so its windows
module _ (pattern payload : List ℕ) (place offset : ℕ) (at : OccursAt payload pattern place) where
  byte_same : (j : ℕ) → offset + j < length pattern → slice_index payload (place + offset + j) ≡ slice_index pattern (offset + j)
  byte_same j within =
      let together : place + offset + j ≡ place + (offset + j) = omega arith in
      ap (slice_index payload) together ∙ at.reads (offset + j) within

  pub same_window : (width : Width) → offset + bytes_of width ≤ length pattern → window_at width payload (place + offset) ≡ window_at width pattern offset
  unfolding window_at four_at four_of
  same_window Two within = first_two _ _ _ _ _ _ _ _ (at.reads offset (omega arith)) (byte_same 1 (omega arith))
  same_window Three within = first_three _ _ _ _ _ _ _ _ (at.reads offset (omega arith)) (byte_same 1 (omega arith)) (byte_same 2 (omega arith))
  same_window Four within = all_four _ _ _ _ _ _ _ _ (at.reads offset (omega arith)) (byte_same 1 (omega arith)) (byte_same 2 (omega arith)) (byte_same 3 (omega arith))
