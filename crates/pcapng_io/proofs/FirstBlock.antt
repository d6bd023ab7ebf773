-- Whether a fault is of the first block of a capture, by the number of blocks before.
use Rattle.std.proofs.Common.{◌≡◌, ◌<◌, ◌+◌, ◌%◌, ◌∙◌, ℕ, List, [], ◌∷◌, length, take, refl, ap, sym, subst, arith, Bool, true, false}
use Rattle.std.specs.Prelude.{Some, None, if◌then◌else◌, nat_lt, ◌==◌, ◌||◌, ◌&&◌, not}
use Rattle.std.proofs.lemmas.Bool.Decides.{nat_tests}
use Rattle.capture_bytes.specs.Numbers.{number_at}
use Rattle.capture_bytes.specs.NumberLaws.{number_within}
use Rattle.capture_bytes.specs.declared.order.Endian.{Endian}
use Rattle.capture_bytes.specs.declared.order.Endian.TheVariants.{Big, Little}
use Rattle.pcapng_io.specs.declared.block_kind.BlockKind.{BlockKind}
use Rattle.pcapng_io.specs.declared.block_kind.BlockKind.TheVariants.{SectionHeader}
use Rattle.pcapng_io.specs.declared.fault.NgFault.{NgFault}
use Rattle.pcapng_io.specs.declared.fault.NgFault.TheVariants.{BadBlock, BlockTooLong, TooManyBlocks}
use Rattle.pcapng_io.specs.declared.place.Place.{Place}
use Rattle.pcapng_io.specs.Blocks.{content_faults, first_fault, is_of_first_block, is_section, is_unread, kind_in, kind_of, length_in}
use Rattle.pcapng_io.specs.Reader.{head_faults}
use Rattle.pcapng_io.proofs.Choices.{not_equal}
use Rattle.pcapng_io.proofs.Slots.{cut_of}

-- a fault belongs to the first block exactly when no block is before it
abbrev pub IsNumbered : Place → NgFault → Type 0
IsNumbered place f = is_of_first_block f ≡ (place.blocks == 0)

next_is_first : (n : ℕ) → (n + 1 == 1) ≡ (n == 0)
next_is_first n = grind (arith, nat_tests)

pub cut_numbered : (place : Place) → IsNumbered place (cut_of place)
cut_numbered place = next_is_first place.blocks

-- the faults that a block's first bytes show
head_rows : (n : ℕ) (bad long : Bool) (size : ℕ) (f : NgFault) → first_fault ((bad, BadBlock (n + 1)) ∷ (long, BlockTooLong (n + 1) size) ∷ []) ≡ Some f → is_of_first_block f ≡ (n == 0)
head_rows n true long size f told =
    let same : BadBlock (n + 1) ≡ f = cc in subst (λ x. is_of_first_block x ≡ (n == 0)) same (next_is_first n)
head_rows n false true size f told =
    let same : BlockTooLong (n + 1) size ≡ f = cc in subst (λ x. is_of_first_block x ≡ (n == 0)) same (next_is_first n)
head_rows n false false size f told = absurd cc

pub head_numbered : (place : Place) (order : Endian) (kind : BlockKind) (head : List ℕ) (f : NgFault) → first_fault (head_faults (place.blocks + 1) order kind head) ≡ Some f → IsNumbered place f
head_numbered place order kind head f told = head_rows place.blocks
    ((is_section kind && not (number_at order 4 8 head == 0x1a2b3c4d)) || nat_lt (length_in order head) 12 || not (length_in order head % 4 == 0) || is_unread kind)
    (nat_lt 16777216 (length_in order head)) (length_in order head) f told

-- each fault of a table has a property
abbrev AllTell : (NgFault → Type 0) → List (Bool × NgFault) → Type 0
AllTell P [] = Unit {0}
AllTell P ((stands, fault) ∷ more) = P fault × AllTell P more

first_tells : (P : NgFault → Type 0) (rows : List (Bool × NgFault)) (f : NgFault) → AllTell P rows → first_fault rows ≡ Some f → P f
first_tells P [] f all told = absurd cc
first_tells P ((true, fault) ∷ more) f all told = let same : fault ≡ f = cc in subst P same all.0
first_tells P ((false, fault) ∷ more) f all told = first_tells P more f all.1 told

not_first : (n : ℕ) → 0 < n → (n + 1 == 1) ≡ false
not_first n some = not_equal (n + 1) 1 (λ same. omega (arith, some, same))

-- a block after others isn't the first
pub later_content : (place : Place) (order : Endian) (kind : BlockKind) (block : List ℕ) (f : NgFault) → 0 < place.blocks → first_fault (content_faults place order kind block) ≡ Some f → is_of_first_block f ≡ false
later_content place order kind block f some told =
    let no = not_first place.blocks some in
    first_tells (λ x. is_of_first_block x ≡ false) (content_faults place order kind block) f (no, (refl, (no, (no, (refl, (refl, (no, (refl, tt)))))))) told

section_rows : (n : ℕ) (bad many : Bool) (f : NgFault) → n ≡ 0 → many ≡ false → (if bad then Some (BadBlock (n + 1)) else if many then Some TooManyBlocks else None) ≡ Some f → is_of_first_block f ≡ true
section_rows n true many f none few told =
    let same : BadBlock (n + 1) ≡ f = cc in subst (λ x. is_of_first_block x ≡ true) same (ap (λ m. m + 1 == 1) none)
section_rows n false true f none few told = absurd cc
section_rows n false false f none few told = absurd cc

-- a section header before all others is
pub first_content : (place : Place) (order : Endian) (kind : BlockKind) (block : List ℕ) (f : NgFault) → kind ≡ SectionHeader → place.blocks ≡ 0 → first_fault (content_faults place order kind block) ≡ Some f → is_of_first_block f ≡ true
first_content place order kind block f section none told =
    section_rows place.blocks _ (place.blocks + 1 == 1099511627776) f none (not_equal (place.blocks + 1) 1099511627776 (λ same. omega (arith, none, same)))
    (subst (λ k. first_fault (content_faults place order k block) ≡ Some f) section told)

-- the type of a section header reads the same in both orders
section_type : (order : Endian) → kind_in order (0x0a ∷ 0x0d ∷ 0x0d ∷ 0x0a ∷ []) ≡ SectionHeader
section_type Big = refl
section_type Little = refl

-- bytes that begin with it are a section header's
pub section_begins : (order : Endian) (first front : List ℕ) → first ≡ 0x0a ∷ 0x0d ∷ 0x0d ∷ 0x0a ∷ [] → take (length first) front ≡ first → kind_in order front ≡ SectionHeader
section_begins order first front is begins =
    let four : take 4 front ≡ 0x0a ∷ 0x0d ∷ 0x0d ∷ 0x0a ∷ [] = subst (λ l. take (length l) front ≡ l) is begins in
    sym (ap kind_of (number_within order 4 0 4 front (omega arith))) ∙ ap (kind_in order) four ∙ section_type order

pub not_section : (kind : BlockKind) → kind ≡ SectionHeader → is_section kind ≡ false → ⊥
not_section kind is other = go (subst (λ k. is_section k ≡ false) is other)
  where
    go : true ≡ false → ⊥
    go e = cc

-- by the number of blocks before
pub number_first : (place : Place) (f : NgFault) → place.blocks ≡ 0 → IsNumbered place f → is_of_first_block f ≡ true
number_first place f none number = number ∙ ap (λ m. m == 0) none

pub number_later : (place : Place) (f : NgFault) → 0 < place.blocks → IsNumbered place f → is_of_first_block f ≡ false
number_later place f some number = number ∙ not_equal place.blocks 0 (λ same. omega (arith, some, same))
