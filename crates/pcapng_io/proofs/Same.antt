-- A block of which some fixed field was changed: the rest of its content stays.
use Rattle.std.proofs.Common.{◌≡◌, ◌≤◌, ◌+◌, ◌∙◌, ℕ, List, [], ◌∷◌, ◌++◌, length, take, drop, refl, ap, sym, length-drop, length-append, arith, ◌%◌, Bool, true, false}
use Rattle.std.specs.Prelude.{Option, Some, None, Ok, nat_lt, ◌==◌, ◌||◌, ◌&&◌, not}
use Rattle.std.proofs.Math.Seq.{take-append_seam, drop-append_seam, take-length}
use Rattle.std.proofs.lemmas.Bool.{ltb-false}
use Rattle.std.proofs.lemmas.List.{take-append-le, length-take-le}
use Rattle.capture_bytes.specs.declared.order.Endian.{Endian}
use Rattle.capture_bytes.specs.Numbers.{number_at}
use Rattle.pcapng_io.specs.declared.block_kind.BlockKind.{BlockKind}
use Rattle.pcapng_io.specs.declared.block_kind.BlockKind.TheVariants.{SectionHeader, InterfaceDescription, EnhancedPacket, Unread, Other}
use Rattle.pcapng_io.specs.declared.fault.NgFault.{NgFault}
use Rattle.pcapng_io.specs.declared.item.NgItem.{NgItem}
use Rattle.pcapng_io.specs.declared.place.Place.{Place}
use Rattle.pcapng_io.specs.Blocks.{first_fault, length_faults, content_faults, is_section, is_unread, kind_in, order_in, length_in, whole_block, framed, next_of, and_left, block_of, unless_fault, item_of, after}
use Rattle.pcapng_io.specs.Reader.{head_faults, head_length}
use Rattle.pcapng_io.proofs.Choices.{both}
use Rattle.pcapng_io.proofs.Faults.{none_stands, or_left, or_right}
use Rattle.pcapng_io.specs.declared.fault.NgFault.TheVariants.{CutBlock, BadBlock, BlockTooLong}
use Rattle.pcapng_io.proofs.Heads.{Begins, Known, same_kind, same_order, same_size, same_heads, block_given}
use Rattle.pcapng_io.proofs.Sequence.{accepted}

-- a block that is read alone
pub record Alone (place : Place) (kind : BlockKind) (order : Endian) (block : List ℕ) (item : NgItem) (now : Place) : Type 0 where
  pub kind_is : kind ≡ kind_in place.order block
  pub order_is : order ≡ order_in place.order kind block
  pub size_is : length_in order block ≡ length block
  pub fits : first_fault (length_faults (place.blocks + 1) order kind block) ≡ None
  pub sound : first_fault (content_faults place order kind block) ≡ None
  pub item_is : item_of place order kind block ≡ item
  pub now_is : after place order kind block ≡ now

-- what a block that was read gave, with nothing after it
given_parts : (x : NgItem × Place) (o : Option NgFault) (rest : List ℕ) (item : NgItem) (now : Place) → and_left rest (unless_fault x o) ≡ Ok (Some (item, now, [])) → (o ≡ None) × (x.0 ≡ item) × (x.1 ≡ now) × (rest ≡ [])
given_parts (i, p) None rest item now is =
    let same : ◌≡◌ {A = NgItem × Place × List ℕ} (i, p, rest) (item, now, []) = cc in
    (refl, ap (λ (x : NgItem × Place × List ℕ). x.0) same, ap (λ (x : NgItem × Place × List ℕ). x.1) same, ap (λ (x : NgItem × Place × List ℕ). x.2) same)
given_parts x (Some f) rest item now is = absurd cc

whole_parts : (place : Place) (order : Endian) (kind : BlockKind) (block : List ℕ) (item : NgItem) (now : Place) (o : Option NgFault) → first_fault (length_faults (place.blocks + 1) order kind block) ≡ o →
    whole_block place order kind (length_in order block) block o ≡ Ok (Some (item, now, [])) →
    (first_fault (length_faults (place.blocks + 1) order kind block) ≡ None) × (and_left (drop (length_in order block) block) (block_of place order kind (take (length_in order block) block)) ≡ Ok (Some (item, now, [])))
whole_parts place order kind block item now None fits is = (fits, is)
whole_parts place order kind block item now (Some f) fits is = absurd cc

alone_by : (place : Place) (kind : BlockKind) (order : Endian) (block : List ℕ) (item : NgItem) (now : Place) → kind ≡ kind_in place.order block → order ≡ order_in place.order kind block →
    framed place order kind block ≡ Ok (Some (item, now, [])) → Alone place kind order block item now
alone_by place kind order block item now is_kind is_order is =
    let parts = whole_parts place order kind block item now (first_fault (length_faults (place.blocks + 1) order kind block)) refl is in
    let got = given_parts (item_of place order kind (take (length_in order block) block), after place order kind (take (length_in order block) block)) (first_fault (content_faults place order kind (take (length_in order block) block)))
    (drop (length_in order block) block) item now parts.1 in
    let there = accepted (place.blocks + 1) order kind block parts.0 in
    let size : length_in order block ≡ length block = omega (arith, there.there, ap length got.3, length-drop (length_in order block) block) in
    let all : take (length_in order block) block ≡ block = ap (λ n. take n block) size ∙ take-length block in
    record {
      kind_is = is_kind;
      order_is = is_order;
      size_is = size;
      fits = parts.0;
      sound = ap (λ b. first_fault (content_faults place order kind b)) (sym all) ∙ got.0;
      item_is = ap (item_of place order kind) (sym all) ∙ got.1;
      now_is = ap (after place order kind) (sym all) ∙ got.2;
    }

pub alone : (place : Place) (block : List ℕ) (item : NgItem) (now : Place) → next_of place block ≡ Ok (Some (item, now, [])) →
    Alone place (kind_in place.order block) (order_in place.order (kind_in place.order block) block) block item now
alone place block item now is =
    both (λ n. n ≡ Ok (Some (item, now, [])) → Alone place (kind_in place.order block) (order_in place.order (kind_in place.order block) block) block item now) (length block == 0) _ _
    (λ none is. absurd cc) (λ some is. alone_by place (kind_in place.order block) (order_in place.order (kind_in place.order block) block) block item now refl refl is) is

-- the first bytes of a block show no fault if its length shows none
heads_none : (a b c d : Bool) (f g h i : NgFault) → first_fault ((a, f) ∷ (b, g) ∷ (c, h) ∷ (d, i) ∷ []) ≡ None → first_fault ((b, g) ∷ (c, h) ∷ []) ≡ None
heads_none true b c d f g h i none = absurd cc
heads_none false true c d f g h i none = absurd cc
heads_none false false true d f g h i none = absurd cc
heads_none false false false d f g h i none = refl

sound_heads : (n : ℕ) (order : Endian) (kind : BlockKind) (block : List ℕ) → first_fault (length_faults n order kind block) ≡ None → first_fault (head_faults n order kind block) ≡ None
sound_heads n order kind block none = heads_none (nat_lt (length block) 8 || (is_section kind && nat_lt (length block) 12))
    (((is_section kind && not (number_at order 4 8 block == 0x1a2b3c4d)) || nat_lt (length_in order block) 12 || not (length_in order block % 4 == 0)) || is_unread kind)
    (nat_lt 16777216 (length_in order block)) (nat_lt (length block) (length_in order block)) (CutBlock n) (BadBlock n) (BlockTooLong n (length_in order block)) (CutBlock n) none

-- what identifies a block is present
head_there : (n : ℕ) (order : Endian) (kind : BlockKind) (block : List ℕ) → first_fault (length_faults n order kind block) ≡ None → head_length kind ≤ length block
head_there n order SectionHeader block none = ltb-false (length block) 12 (or_right (nat_lt (length block) 8) (nat_lt (length block) 12) (none_stands (length_faults n order SectionHeader block) none).0)
head_there n order InterfaceDescription block none = ltb-false (length block) 8 (or_left (nat_lt (length block) 8) false (none_stands (length_faults n order InterfaceDescription block) none).0)
head_there n order EnhancedPacket block none = ltb-false (length block) 8 (or_left (nat_lt (length block) 8) false (none_stands (length_faults n order EnhancedPacket block) none).0)
head_there n order Unread block none = ltb-false (length block) 8 (or_left (nat_lt (length block) 8) false (none_stands (length_faults n order Unread block) none).0)
head_there n order Other block none = ltb-false (length block) 8 (or_left (nat_lt (length block) 8) false (none_stands (length_faults n order Other block) none).0)

eight : (kind : BlockKind) → 8 ≤ head_length kind
eight SectionHeader = omega arith
eight InterfaceDescription = omega arith
eight EnhancedPacket = omega arith
eight Unread = omega arith
eight Other = omega arith

-- whatever follows it, it is read as it is alone
pub alone_more : (place : Place) (kind : BlockKind) (order : Endian) (block tail : List ℕ) (item : NgItem) (now : Place) → Alone place kind order block item now → next_of place (block ++ tail) ≡ Ok (Some (item, now, tail))
alone_more place kind order block tail item now is =
    let n : ℕ = place.blocks + 1 in
    let long : head_length kind ≤ length block = head_there n order kind block is.fits in
    let head : List ℕ = take (head_length kind) block in
    let size : length head ≡ head_length kind = length-take-le (head_length kind) block long in
    let bytes : List ℕ = block ++ tail in
    let in_block : Begins head block = record { front = ap (λ k. take k block) (sym size); long = omega (arith, size, long) } in
    let begins : Begins head bytes = record { front = sym (take-append-le (head_length kind) block tail long) ∙ ap (λ k. take k bytes) (sym size); long = omega (arith, size, long, length-append block tail) } in
    let least : 8 ≤ length head = omega (arith, size, eight kind) in
    let known : Known place kind order head bytes = record {
      begins = begins;
      enough = omega (arith, size);
      kind_is = is.kind_is ∙ sym (same_kind place.order head block in_block least);
      order_is = is.order_is ∙ sym (same_order place.order kind head block in_block (omega (arith, size)));
    } in
    let says : length_in order head ≡ length block = same_size order head block in_block least ∙ is.size_is in
    let none : first_fault (head_faults n order kind head) ≡ None = ap first_fault (same_heads n order kind head block in_block (omega (arith, size))) ∙ sound_heads n order kind block is.fits in
    let first : take (length_in order head) bytes ≡ block = ap (λ k. take k bytes) says ∙ take-append_seam block tail in
    let rest : drop (length_in order head) bytes ≡ tail = ap (λ k. drop k bytes) says ∙ drop-append_seam block tail in
    block_given place kind order head bytes known none (omega (arith, says, length-append block tail)) (ap (λ b. first_fault (content_faults place order kind b)) first ∙ is.sound)
    ∙ ap (λ b. Ok (Some (item_of place order kind b, after place order kind b, drop (length_in order head) bytes))) first
    ∙ ap (λ l. Ok (Some (item_of place order kind block, after place order kind block, l))) rest
    ∙ ap (λ i. Ok (Some (i, after place order kind block, tail))) is.item_is ∙ ap (λ p. Ok (Some (item, p, tail))) is.now_is

-- a carried block, whatever follows it
pub block_again : (place now : Place) (block tail : List ℕ) (item : NgItem) → next_of place block ≡ Ok (Some (item, now, [])) → next_of place (block ++ tail) ≡ Ok (Some (item, now, tail))
block_again place now block tail item is = alone_more place (kind_in place.order block) (order_in place.order (kind_in place.order block) block) block tail item now (alone place block item now is)
