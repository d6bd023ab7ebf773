-- What a block's first bytes say about all the bytes that remain.
use Rattle.std.proofs.Common.{◌≡◌, ◌≤◌, ◌<◌, ◌+◌, ◌%◌, ◌∙◌, ℕ, List, [], ◌∷◌, length, take, drop, refl, ap, sym, arith, Bool, true, false}
use Rattle.std.specs.Prelude.{Some, None, Ok, Err, if◌then◌else◌, nat_lt, ◌==◌, ◌||◌, ◌&&◌, not}
use Rattle.std.proofs.lemmas.Bool.{le-ltb, lt-ltb}
use Rattle.capture_bytes.specs.declared.order.Endian.{Endian}
use Rattle.capture_bytes.specs.declared.order.Endian.TheVariants.{Big, Little}
use Rattle.capture_bytes.specs.Numbers.{number_at}
use Rattle.capture_bytes.specs.NumberLaws.{number_within}
use Rattle.pcapng_io.specs.declared.block_kind.BlockKind.{BlockKind}
use Rattle.pcapng_io.specs.declared.block_kind.BlockKind.TheVariants.{SectionHeader, InterfaceDescription, EnhancedPacket, Unread, Other}
use Rattle.pcapng_io.specs.declared.fault.NgFault.{NgFault}
use Rattle.pcapng_io.specs.declared.fault.NgFault.TheVariants.{CutBlock, BadBlock, BlockTooLong}
use Rattle.pcapng_io.specs.declared.place.Place.{Place}
use Rattle.pcapng_io.specs.Blocks.{first_fault, length_faults, content_faults, is_section, is_unread, kind_of, kind_in, order_in, length_in, whole_block, framed, next_of, and_left, block_of, item_of, after, unless_fault}
use Rattle.pcapng_io.specs.Reader.{head_faults, head_length}
use Rattle.pcapng_io.proofs.Choices.{otherwise, not_equal}

-- the table of a block's length, by its tests
abbrev by_tests : ℕ → Bool → Bool → Bool → ℕ → Bool → List (Bool × NgFault)
by_tests n cut bad long size less = (cut, CutBlock n) ∷ (bad, BadBlock n) ∷ (long, BlockTooLong n size) ∷ (less, CutBlock n) ∷ []

if_cut : (n : ℕ) (cut bad long : Bool) (size : ℕ) (less : Bool) → cut ≡ true → first_fault (by_tests n cut bad long size less) ≡ Some (CutBlock n)
if_cut n true bad long size less h = refl
if_cut n false bad long size less h = absurd cc

if_head : (n : ℕ) (cut bad long : Bool) (size : ℕ) (less : Bool) (f : NgFault) → cut ≡ false → first_fault (take 2 (drop 1 (by_tests n cut bad long size less))) ≡ Some f → first_fault (by_tests n cut bad long size less) ≡ Some f
if_head n true bad long size less f h k = absurd cc
if_head n false true long size less f h k = k
if_head n false false true size less f h k = k
if_head n false false false size less f h k = absurd cc

if_less : (n : ℕ) (cut bad long : Bool) (size : ℕ) (less : Bool) → cut ≡ false → first_fault (take 2 (drop 1 (by_tests n cut bad long size less))) ≡ None → less ≡ true → first_fault (by_tests n cut bad long size less) ≡ Some (CutBlock n)
if_less n true bad long size less h k l = absurd cc
if_less n false true long size less h k l = absurd cc
if_less n false false true size less h k l = absurd cc
if_less n false false false size true h k l = refl
if_less n false false false size false h k l = absurd cc

if_none : (n : ℕ) (cut bad long : Bool) (size : ℕ) (less : Bool) → cut ≡ false → first_fault (take 2 (drop 1 (by_tests n cut bad long size less))) ≡ None → less ≡ false → first_fault (by_tests n cut bad long size less) ≡ None
if_none n true bad long size less h k l = absurd cc
if_none n false true long size less h k l = absurd cc
if_none n false false true size less h k l = absurd cc
if_none n false false false size true h k l = absurd cc
if_none n false false false size false h k l = refl

-- its tests
abbrev is_cut : BlockKind → List ℕ → Bool
is_cut kind bytes = nat_lt (length bytes) 8 || (is_section kind && nat_lt (length bytes) 12)

abbrev is_bad : BlockKind → ℕ → ℕ → Bool
is_bad kind magic size = ((is_section kind && not (magic == 0x1a2b3c4d)) || nat_lt size 12 || not (size % 4 == 0)) || is_unread kind

abbrev tests_of : ℕ → Endian → BlockKind → List ℕ → List (Bool × NgFault)
tests_of n order kind bytes = by_tests n (is_cut kind bytes) (is_bad kind (number_at order 4 8 bytes) (length_in order bytes)) (nat_lt 16777216 (length_in order bytes)) (length_in order bytes) (nat_lt (length bytes) (length_in order bytes))

same_table : (n : ℕ) (order : Endian) (kind : BlockKind) (bytes : List ℕ) → length_faults n order kind bytes ≡ tests_of n order kind bytes
same_table n order kind bytes = refl

-- these bytes are the first ones
pub record Begins (head bytes : List ℕ) : Type 0 where
  pub front : head ≡ take (length head) bytes
  pub long : length head ≤ length bytes

pub same_at : (order : Endian) (n at : ℕ) (head bytes : List ℕ) → Begins head bytes → at + n ≤ length head → number_at order n at head ≡ number_at order n at bytes
same_at order n at head bytes begins h = ap (number_at order n at) begins.front ∙ number_within order n at (length head) bytes h

pub same_kind : (order : Endian) (head bytes : List ℕ) → Begins head bytes → 8 ≤ length head → kind_in order head ≡ kind_in order bytes
same_kind order head bytes begins h = ap kind_of (same_at order 4 0 head bytes begins (omega arith))

pub same_size : (order : Endian) (head bytes : List ℕ) → Begins head bytes → 8 ≤ length head → length_in order head ≡ length_in order bytes
same_size order head bytes begins h = same_at order 4 4 head bytes begins h

pub same_order : (order : Endian) (kind : BlockKind) (head bytes : List ℕ) → Begins head bytes → head_length kind ≤ length head → order_in order kind head ≡ order_in order kind bytes
same_order order SectionHeader head bytes begins h = ap (λ m. if m == 0x1a2b3c4d then Big else Little) (same_at Big 4 8 head bytes begins h)
same_order order InterfaceDescription head bytes begins h = refl
same_order order EnhancedPacket head bytes begins h = refl
same_order order Unread head bytes begins h = refl
same_order order Other head bytes begins h = refl

at_least : (kind : BlockKind) (n : ℕ) → head_length kind ≤ n → 8 ≤ n
at_least SectionHeader n h = omega (arith, h)
at_least InterfaceDescription n h = h
at_least EnhancedPacket n h = h
at_least Unread n h = h
at_least Other n h = h

abbrev heads_by : ℕ → BlockKind → ℕ → ℕ → List (Bool × NgFault)
heads_by n kind magic size = (is_bad kind magic size, BadBlock n) ∷ (nat_lt 16777216 size, BlockTooLong n size) ∷ []

pub same_heads : (n : ℕ) (order : Endian) (kind : BlockKind) (head bytes : List ℕ) → Begins head bytes → head_length kind ≤ length head → head_faults n order kind head ≡ head_faults n order kind bytes
same_heads n order SectionHeader head bytes begins h =
    ap (λ m. heads_by n SectionHeader m (length_in order head)) (same_at order 4 8 head bytes begins h)
    ∙ ap (heads_by n SectionHeader (number_at order 4 8 bytes)) (same_size order head bytes begins (at_least SectionHeader (length head) h))
same_heads n order InterfaceDescription head bytes begins h = ap (heads_by n InterfaceDescription 0) (same_size order head bytes begins h)
same_heads n order EnhancedPacket head bytes begins h = ap (heads_by n EnhancedPacket 0) (same_size order head bytes begins h)
same_heads n order Unread head bytes begins h = ap (heads_by n Unread 0) (same_size order head bytes begins h)
same_heads n order Other head bytes begins h = ap (heads_by n Other 0) (same_size order head bytes begins h)

not_cut : (kind : BlockKind) (bytes : List ℕ) → head_length kind ≤ length bytes → is_cut kind bytes ≡ false
not_cut SectionHeader bytes h = rw (le-ltb (length bytes) 8 (omega (arith, h)), le-ltb (length bytes) 12 h) refl
not_cut InterfaceDescription bytes h = rw (le-ltb (length bytes) 8 h) refl
not_cut EnhancedPacket bytes h = rw (le-ltb (length bytes) 8 h) refl
not_cut Unread bytes h = rw (le-ltb (length bytes) 8 h) refl
not_cut Other bytes h = rw (le-ltb (length bytes) 8 h) refl

-- what comes next, if something remains
next_framed : (place : Place) (bytes : List ℕ) → 0 < length bytes → next_of place bytes ≡ framed place (order_in place.order (kind_in place.order bytes) bytes) (kind_in place.order bytes) bytes
next_framed place bytes some = otherwise (length bytes == 0) _ _ (not_equal (length bytes) 0 (λ h. omega arith))

refused_by : (place : Place) (order : Endian) (kind : BlockKind) (bytes : List ℕ) (f : NgFault) → first_fault (length_faults (place.blocks + 1) order kind bytes) ≡ Some f → framed place order kind bytes ≡ Err f
refused_by place order kind bytes f is = ap (whole_block place order kind (length_in order bytes) bytes) is

accepted_by : (place : Place) (order : Endian) (kind : BlockKind) (bytes : List ℕ) → first_fault (length_faults (place.blocks + 1) order kind bytes) ≡ None →
    framed place order kind bytes ≡ and_left (drop (length_in order bytes) bytes) (block_of place order kind (take (length_in order bytes) bytes))
accepted_by place order kind bytes is = ap (whole_block place order kind (length_in order bytes) bytes) is

-- fewer bytes remain than are needed to identify the block
pub few_left : (place : Place) (bytes : List ℕ) → 0 < length bytes → length bytes < 8 → next_of place bytes ≡ Err (CutBlock (place.blocks + 1))
few_left place bytes some short =
    next_framed place bytes some ∙ refused_by place _ (kind_in place.order bytes) bytes (CutBlock (place.blocks + 1)) (if_cut (place.blocks + 1) (is_cut (kind_in place.order bytes) bytes) _ _ _ _ (rw (lt-ltb (length bytes) 8 short) refl))

pub few_of_section : (place : Place) (head bytes : List ℕ) → Begins head bytes → 8 ≤ length head → kind_in place.order head ≡ SectionHeader → length bytes < 12 → next_of place bytes ≡ Err (CutBlock (place.blocks + 1))
few_of_section place head bytes begins long section short =
    next_framed place bytes (omega (arith, long, begins.long))
    ∙ refused_by place _ (kind_in place.order bytes) bytes (CutBlock (place.blocks + 1)) (if_cut (place.blocks + 1) (is_cut (kind_in place.order bytes) bytes) _ _ _ _
    (ap (λ k. is_cut k bytes) (sym (same_kind place.order head bytes begins long) ∙ section) ∙ rw (le-ltb (length bytes) 8 (omega (arith, long, begins.long)), lt-ltb (length bytes) 12 short) refl))

-- what the first bytes say holds
pub record Known (place : Place) (kind : BlockKind) (order : Endian) (head bytes : List ℕ) : Type 0 where
  pub begins : Begins head bytes
  pub enough : head_length kind ≤ length head
  pub kind_is : kind ≡ kind_in place.order head
  pub order_is : order ≡ order_in place.order kind head

known_framed : (place : Place) (kind : BlockKind) (order : Endian) (head bytes : List ℕ) → Known place kind order head bytes → next_of place bytes ≡ framed place order kind bytes
known_framed place kind order head bytes known =
    let long : 8 ≤ length head = at_least kind (length head) known.enough in
    let k : kind_in place.order bytes ≡ kind = sym (same_kind place.order head bytes known.begins long) ∙ sym known.kind_is in
    let o : order_in place.order kind bytes ≡ order = sym (same_order place.order kind head bytes known.begins known.enough) ∙ sym known.order_is in
    next_framed place bytes (omega (arith, long, known.begins.long)) ∙ ap (λ x. framed place (order_in place.order x bytes) x bytes) k ∙ ap (λ x. framed place x kind bytes) o

whole_left : (place : Place) (kind : BlockKind) (order : Endian) (head bytes : List ℕ) → Known place kind order head bytes → is_cut kind bytes ≡ false
whole_left place kind order head bytes known = not_cut kind bytes (let h = known.enough in let l = known.begins.long in omega arith)

pub head_refused : (place : Place) (kind : BlockKind) (order : Endian) (head bytes : List ℕ) (f : NgFault) → Known place kind order head bytes → first_fault (head_faults (place.blocks + 1) order kind head) ≡ Some f → next_of place bytes ≡ Err f
head_refused place kind order head bytes f known is =
    known_framed place kind order head bytes known
    ∙ refused_by place order kind bytes f (if_head (place.blocks + 1) (is_cut kind bytes) (is_bad kind (number_at order 4 8 bytes) (length_in order bytes)) (nat_lt 16777216 (length_in order bytes)) (length_in order bytes) (nat_lt (length bytes) (length_in order bytes)) f
    (whole_left place kind order head bytes known) (ap first_fault (sym (same_heads (place.blocks + 1) order kind head bytes known.begins known.enough)) ∙ is))

pub block_cut : (place : Place) (kind : BlockKind) (order : Endian) (head bytes : List ℕ) → Known place kind order head bytes → first_fault (head_faults (place.blocks + 1) order kind head) ≡ None →
    length bytes < length_in order head → next_of place bytes ≡ Err (CutBlock (place.blocks + 1))
block_cut place kind order head bytes known none short =
    let size = same_size order head bytes known.begins (at_least kind (length head) known.enough) in
    known_framed place kind order head bytes known
    ∙ refused_by place order kind bytes (CutBlock (place.blocks + 1)) (if_less (place.blocks + 1) (is_cut kind bytes) (is_bad kind (number_at order 4 8 bytes) (length_in order bytes)) (nat_lt 16777216 (length_in order bytes)) (length_in order bytes) (nat_lt (length bytes) (length_in order bytes))
    (whole_left place kind order head bytes known) (ap first_fault (sym (same_heads (place.blocks + 1) order kind head bytes known.begins known.enough)) ∙ none) (lt-ltb (length bytes) (length_in order bytes) (omega (arith, short, size))))

pub block_there : (place : Place) (kind : BlockKind) (order : Endian) (head bytes : List ℕ) → Known place kind order head bytes → first_fault (head_faults (place.blocks + 1) order kind head) ≡ None →
    length_in order head ≤ length bytes → next_of place bytes ≡ and_left (drop (length_in order head) bytes) (block_of place order kind (take (length_in order head) bytes))
block_there place kind order head bytes known none long =
    let size = same_size order head bytes known.begins (at_least kind (length head) known.enough) in
    known_framed place kind order head bytes known
    ∙ accepted_by place order kind bytes (if_none (place.blocks + 1) (is_cut kind bytes) (is_bad kind (number_at order 4 8 bytes) (length_in order bytes)) (nat_lt 16777216 (length_in order bytes)) (length_in order bytes) (nat_lt (length bytes) (length_in order bytes))
    (whole_left place kind order head bytes known) (ap first_fault (sym (same_heads (place.blocks + 1) order kind head bytes known.begins known.enough)) ∙ none) (le-ltb (length bytes) (length_in order bytes) (omega (arith, long, size))))
    ∙ ap (λ n. and_left (drop n bytes) (block_of place order kind (take n bytes))) (sym size)

-- a block whose bytes are present is refused, or gives its item
pub block_refused : (place : Place) (kind : BlockKind) (order : Endian) (head bytes : List ℕ) (f : NgFault) → Known place kind order head bytes → first_fault (head_faults (place.blocks + 1) order kind head) ≡ None →
    length_in order head ≤ length bytes → first_fault (content_faults place order kind (take (length_in order head) bytes)) ≡ Some f → next_of place bytes ≡ Err f
block_refused place kind order head bytes f known none long is =
    block_there place kind order head bytes known none long
    ∙ ap (λ o. and_left (drop (length_in order head) bytes) (unless_fault (item_of place order kind (take (length_in order head) bytes), after place order kind (take (length_in order head) bytes)) o)) is

pub block_given : (place : Place) (kind : BlockKind) (order : Endian) (head bytes : List ℕ) → Known place kind order head bytes → first_fault (head_faults (place.blocks + 1) order kind head) ≡ None →
    length_in order head ≤ length bytes → first_fault (content_faults place order kind (take (length_in order head) bytes)) ≡ None →
    next_of place bytes ≡ Ok (Some (item_of place order kind (take (length_in order head) bytes), after place order kind (take (length_in order head) bytes), drop (length_in order head) bytes))
block_given place kind order head bytes known none long is =
    block_there place kind order head bytes known none long
    ∙ ap (λ o. and_left (drop (length_in order head) bytes) (unless_fault (item_of place order kind (take (length_in order head) bytes), after place order kind (take (length_in order head) bytes)) o)) is
