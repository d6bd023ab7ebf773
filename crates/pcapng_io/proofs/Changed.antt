-- A section header and an interface, read again as they were written.
use Rattle.std.proofs.Common.{◌≡◌, ◌≤◌, ◌+◌, ◌-◌, ◌%◌, ◌∙◌, ℕ, List, [], ◌∷◌, ◌++◌, length, take, drop, refl, ap, sym, append_assoc, length-append, length-drop, arith, Bool, false}
use Rattle.std.specs.Prelude.{Option, if◌then◌else◌, nat_lt, ◌==◌, ◌||◌, not, is_none, replicate}
use Rattle.std.proofs.Math.Seq.{take-append_seam, drop-append_seam}
use Rattle.std.proofs.lemmas.List.{drop-drop, length-take-le}
use Rattle.capture_bytes.specs.declared.order.Endian.{Endian}
use Rattle.capture_bytes.specs.declared.order.Endian.TheVariants.{Big, Little}
use Rattle.capture_bytes.specs.Numbers.{number_at, bytes_of}
use Rattle.capture_bytes.specs.NumberLaws.{same_number, at_drop}
use Rattle.pcapng_io.specs.declared.block_kind.BlockKind.{BlockKind}
use Rattle.pcapng_io.specs.declared.block_kind.BlockKind.TheVariants.{SectionHeader, InterfaceDescription}
use Rattle.pcapng_io.specs.declared.fault.NgFault.{NgFault}
use Rattle.pcapng_io.specs.declared.fault.NgFault.TheVariants.{CutBlock, BadBlock, BlockTooLong, BadLink, BadResolution, TooManyBlocks}
use Rattle.pcapng_io.specs.declared.item.NgItem.TheVariants.{Section, Interface}
use Rattle.pcapng_io.specs.declared.place.Place.{Place}
use Rattle.pcapng_io.specs.Options.{BlockOption, options_of, resolution_of}
use Rattle.pcapng_io.specs.Times.{is_resolution, ticks_in_second}
use Rattle.pcapng_io.specs.Blocks.{first_fault, length_faults, content_faults, kind_of, length_in, options_at, options_in, copied_block}
use Rattle.pcapng_io.specs.Written.{section_bytes, interface_bytes, grown}
use Rattle.pcapng_io.proofs.Copying.{stays_whole}
use Rattle.pcapng_io.proofs.Faults.{long_enough}
use Rattle.pcapng_io.proofs.Same.{Alone}

-- two blocks that differ between two places alone
pub record Agrees (m k : ℕ) (w block : List ℕ) : Type 0 where
  pub size : length w ≡ length block
  pub front : take m w ≡ take m block
  pub back : drop k w ≡ drop k block

at_front : (order : Endian) (n at m k : ℕ) (w block : List ℕ) → Agrees m k w block → at + n ≤ m → number_at order n at w ≡ number_at order n at block
at_front order n at m k w block agrees h = same_number order n at m w block h agrees.front

from_back : (at m k : ℕ) (w block : List ℕ) → Agrees m k w block → k ≤ at → drop at w ≡ drop at block
from_back at m k w block agrees h =
    ap (λ j. drop j w) (let e : at ≡ k + (at - k) = omega arith in e) ∙ sym (drop-drop (at - k) k w) ∙ ap (drop (at - k)) agrees.back ∙ drop-drop (at - k) k block ∙ ap (λ j. drop j block) (let e : k + (at - k) ≡ at = omega arith in e)

at_back : (order : Endian) (n at m k : ℕ) (w block : List ℕ) → Agrees m k w block → k ≤ at → number_at order n at w ≡ number_at order n at block
at_back order n at m k w block agrees h = at_drop order n at w ∙ ap (number_at order n 0) (from_back at m k w block agrees h) ∙ sym (at_drop order n at block)

last_same : (order : Endian) (m k : ℕ) (w block : List ℕ) → Agrees m k w block → k + 4 ≤ length block → number_at order 4 (length w - 4) w ≡ number_at order 4 (length block - 4) block
last_same order m k w block agrees h = ap (λ j. number_at order 4 (j - 4) w) agrees.size ∙ at_back order 4 (length block - 4) m k w block agrees (omega arith)

-- the tables by what they look at
abbrev lengths : ℕ → BlockKind → ℕ → ℕ → ℕ → List (Bool × NgFault)
lengths n SectionHeader size magic long =
    (nat_lt long 8 || nat_lt long 12, CutBlock n) ∷ (not (magic == 0x1a2b3c4d) || nat_lt size 12 || not (size % 4 == 0) || false, BadBlock n) ∷ (nat_lt 16777216 size, BlockTooLong n size) ∷ (nat_lt long size, CutBlock n) ∷ []
lengths n kind size magic long =
    (nat_lt long 8 || false, CutBlock n) ∷ (false || nat_lt size 12 || not (size % 4 == 0) || false, BadBlock n) ∷ (nat_lt 16777216 size, BlockTooLong n size) ∷ (nat_lt long size, CutBlock n) ∷ []

section_lengths : (n : ℕ) (order : Endian) (w block : List ℕ) → Agrees 16 24 w block → length_faults n order SectionHeader w ≡ length_faults n order SectionHeader block
section_lengths n order w block agrees =
    ap (λ s. lengths n SectionHeader s (number_at order 4 8 w) (length w)) (at_front order 4 4 16 24 w block agrees (omega arith))
    ∙ ap (λ m. lengths n SectionHeader (length_in order block) m (length w)) (at_front order 4 8 16 24 w block agrees (omega arith))
    ∙ ap (lengths n SectionHeader (length_in order block) (number_at order 4 8 block)) agrees.size

interface_lengths : (n : ℕ) (order : Endian) (w block : List ℕ) → Agrees 12 16 w block → length_faults n order InterfaceDescription w ≡ length_faults n order InterfaceDescription block
interface_lengths n order w block agrees =
    ap (λ s. lengths n InterfaceDescription s 0 (length w)) (at_front order 4 4 12 16 w block agrees (omega arith)) ∙ ap (lengths n InterfaceDescription (length_in order block) 0) agrees.size

abbrev section_rows : ℕ → ℕ → ℕ → ℕ → ℕ → List (Bool × NgFault)
section_rows n last size long major =
    (not (last == size) || nat_lt long 28 || not (major == 1) || false, BadBlock n) ∷ (false, BadLink 0) ∷ (false, BadBlock n) ∷ (false, BadBlock n) ∷ (false, BadBlock n) ∷ (false, BadBlock n) ∷ (false, BadBlock n) ∷ (n == 1099511627776, TooManyBlocks) ∷ []

section_content : (place : Place) (order : Endian) (w block : List ℕ) → Agrees 16 24 w block → 28 ≤ length block → first_fault (content_faults place order SectionHeader w) ≡ first_fault (content_faults place order SectionHeader block)
section_content place order w block agrees long =
    let n : ℕ = place.blocks + 1 in
    ap (λ l. first_fault (section_rows n l (length_in order w) (length w) (number_at order 2 12 w))) (last_same order 16 24 w block agrees long)
    ∙ ap (λ s. first_fault (section_rows n (number_at order 4 (length block - 4) block) s (length w) (number_at order 2 12 w))) (at_front order 4 4 16 24 w block agrees (omega arith))
    ∙ ap (λ k. first_fault (section_rows n (number_at order 4 (length block - 4) block) (length_in order block) k (number_at order 2 12 w))) agrees.size
    ∙ ap (λ m. first_fault (section_rows n (number_at order 4 (length block - 4) block) (length_in order block) (length block) m)) (at_front order 2 12 16 24 w block agrees (omega arith))

abbrev interface_rows : ℕ → ℕ → ℕ → ℕ → Option (List BlockOption) → ℕ → List (Bool × NgFault)
interface_rows n last size long options link =
    (not (last == size) || nat_lt long 20 || false || is_none options, BadBlock n) ∷ (not (link == 1), BadLink link) ∷ (not (is_resolution (resolution_of options)), BadResolution n)
    ∷ (false, BadBlock n) ∷ (false, BadBlock n) ∷ (false, BadBlock n) ∷ (false, BadBlock n) ∷ (n == 1099511627776, TooManyBlocks) ∷ []

-- the bytes of options that begin after the change
same_region : (at m k : ℕ) (w block : List ℕ) → Agrees m k w block → k ≤ at → options_at at w ≡ options_at at block
same_region at m k w block agrees h = ap (λ n. take (n - 4 - at) (drop at w)) agrees.size ∙ ap (take (length block - 4 - at)) (from_back at m k w block agrees h)

same_options : (order : Endian) (w block : List ℕ) → Agrees 12 16 w block → options_in order w ≡ options_in order block
same_options order w block agrees = ap (options_of order) (same_region 16 12 16 w block agrees (omega arith))

interface_content : (place : Place) (order : Endian) (w block : List ℕ) → Agrees 12 16 w block → 20 ≤ length block → first_fault (content_faults place order InterfaceDescription w) ≡ first_fault (content_faults place order InterfaceDescription block)
interface_content place order w block agrees long =
    let n : ℕ = place.blocks + 1 in
    ap (λ l. first_fault (interface_rows n l (length_in order w) (length w) (options_in order w) (number_at order 2 8 w))) (last_same order 12 16 w block agrees long)
    ∙ ap (λ s. first_fault (interface_rows n (number_at order 4 (length block - 4) block) s (length w) (options_in order w) (number_at order 2 8 w))) (at_front order 4 4 12 16 w block agrees (omega arith))
    ∙ ap (λ k. first_fault (interface_rows n (number_at order 4 (length block - 4) block) (length_in order block) k (options_in order w) (number_at order 2 8 w))) agrees.size
    ∙ ap (λ o. first_fault (interface_rows n (number_at order 4 (length block - 4) block) (length_in order block) (length block) o (number_at order 2 8 w))) (same_options order w block agrees)
    ∙ ap (λ m. first_fault (interface_rows n (number_at order 4 (length block - 4) block) (length_in order block) (length block) (options_in order block) m)) (at_front order 2 8 12 16 w block agrees (omega arith))

section_kept : (xs ys : List ℕ) → Section xs ≡ Section ys → xs ≡ ys
section_kept xs ys is = cc

interface_kept : (order : Endian) (xs ys : List ℕ) → Interface order xs ≡ Interface order ys → xs ≡ ys
interface_kept order xs ys is = cc

pub section_alone : (place now : Place) (order : Endian) (w block : List ℕ) → Agrees 16 24 w block → Alone place SectionHeader order block (Section block) now → Alone place SectionHeader order w (Section w) now
section_alone place now order w block agrees is = record {
  kind_is = is.kind_is ∙ ap kind_of (sym (at_front place.order 4 0 16 24 w block agrees (omega arith)));
  order_is = is.order_is ∙ ap (λ m. if m == 0x1a2b3c4d then Big else Little) (sym (at_front Big 4 8 16 24 w block agrees (omega arith)));
  size_is = at_front order 4 4 16 24 w block agrees (omega arith) ∙ is.size_is ∙ sym agrees.size;
  fits = ap first_fault (section_lengths (place.blocks + 1) order w block agrees) ∙ is.fits;
  sound = section_content place order w block agrees (long_enough place order SectionHeader block is.sound) ∙ is.sound;
  item_is = ap (λ l. Section l) (stays_whole order 24 w block (omega arith) (long_enough place order SectionHeader block is.sound) (same_region 24 16 24 w block agrees (omega arith)) (section_kept (copied_block order 24 block) block is.item_is));
  now_is = is.now_is;
}

pub interface_alone : (place now : Place) (order : Endian) (w block : List ℕ) → Agrees 12 16 w block → Alone place InterfaceDescription order block (Interface order block) now → Alone place InterfaceDescription order w (Interface order w) now
interface_alone place now order w block agrees is = record {
  kind_is = is.kind_is ∙ ap kind_of (sym (at_front place.order 4 0 12 16 w block agrees (omega arith)));
  order_is = is.order_is;
  size_is = at_front order 4 4 12 16 w block agrees (omega arith) ∙ is.size_is ∙ sym agrees.size;
  fits = ap first_fault (interface_lengths (place.blocks + 1) order w block agrees) ∙ is.fits;
  sound = interface_content place order w block agrees (long_enough place order InterfaceDescription block is.sound) ∙ is.sound;
  item_is = ap (λ l. Interface order l) (stays_whole order 16 w block (omega arith) (long_enough place order InterfaceDescription block is.sound) (same_region 16 12 16 w block agrees (omega arith)) (interface_kept order (copied_block order 16 block) block is.item_is));
  now_is = ap (λ o. record { order = place.order; units = place.units ++ ticks_in_second (resolution_of o) ∷ []; blocks = place.blocks + 1; packets = place.packets }) (same_options order w block agrees) ∙ is.now_is;
}

-- a piece of a block that was put in place of another
put_between : (m n : ℕ) (block piece : List ℕ) → m + n ≤ length block → length piece ≡ n → Agrees m (m + n) (take m block ++ piece ++ drop (m + n) block) block
put_between m n block piece fits size =
    let first : length (take m block) ≡ m = length-take-le m block (omega arith) in
    let both : length (take m block ++ piece) ≡ m + n = omega (arith, first, size, length-append (take m block) piece) in
    record {
      size = omega (arith, fits, both, length-append (take m block ++ piece) (drop (m + n) block), length-drop (m + n) block);
      front = ap (take m) (append_assoc (take m block) piece (drop (m + n) block)) ∙ ap (λ k. take k (take m block ++ (piece ++ drop (m + n) block))) (sym first) ∙ take-append_seam (take m block) (piece ++ drop (m + n) block);
      back = ap (λ k. drop k (take m block ++ piece ++ drop (m + n) block)) (sym both) ∙ drop-append_seam (take m block ++ piece) (drop (m + n) block);
    }

bytes_length : (order : Endian) (x : ℕ) → length (bytes_of order 4 x) ≡ 4
bytes_length Big x = refl
bytes_length Little x = refl

pub section_agrees : (block : List ℕ) → 28 ≤ length block → Agrees 16 24 (section_bytes block) block
section_agrees block long = put_between 16 8 block (replicate 8 255) (omega arith) refl

pub interface_agrees : (growth : ℕ) (order : Endian) (block : List ℕ) → 20 ≤ length block → Agrees 12 16 (interface_bytes growth order block) block
interface_agrees growth order block long = put_between 12 4 block (bytes_of order 4 (grown growth (number_at order 4 12 block))) (omega arith) (bytes_length order (grown growth (number_at order 4 12 block)))
