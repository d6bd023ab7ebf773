-- A block that was read, from its first byte to its last.
use Rattle.std.proofs.Common.{◌≡◌, ◌∙◌, ℕ, List, length, refl, ap, sym, subst}
use Rattle.nfp_outside.specs.Outside.{SlotView}
use Rattle.std.specs.Prelude.{Some}
use Rattle.std.specs.Option.{option_map}
use Rattle.capture_bytes.specs.declared.order.Endian.{Endian}
use Rattle.capture_bytes.specs.Filling.{unread}
use Rattle.pcapng_io.specs.declared.block_kind.BlockKind.{BlockKind}
use Rattle.pcapng_io.specs.declared.fault.NgFault.{NgFault}
use Rattle.pcapng_io.specs.declared.item.NgItem.{NgItem}
use Rattle.pcapng_io.specs.declared.place.Place.{Place}
use Rattle.pcapng_io.specs.Blocks.{next_of, blocks_of, first_fault, content_faults, item_of, after}
use Rattle.pcapng_io.specs.Reader.{Opens, Closes, Gives, ReadsItem, RefusesBlock}
use Rattle.pcapng_io.proofs.Giving.{item_facts}
use Rattle.pcapng_io.proofs.Slots.{given, put_back, block_told, refuses_further}

pub reads_item : (place now : Place) (kind : BlockKind) (order : Endian) (size : ℕ) (head block : List ℕ) (item : NgItem) (x mid new : SlotView) →
    Opens place kind order size head x mid → Closes size block (unread head mid) new → Gives place order kind block item now → ReadsItem item place now x new
reads_item place now kind order size head block item x mid new opens closes gives =
    let got = given place kind order size head block mid new opens.says closes gives.sound.faultless in
    let facts = item_facts place order kind block gives.within gives.sound in
    let back : (unread head mid).bytes ≡ x.bytes = put_back (length head) head x mid refl opens.fills in
    let reads : ReadsItem (item_of place order kind block) place (after place order kind block) x new = record {
      next = sym (ap (option_map (next_of place)) back) ∙ got.next;
      whole = sym (ap (option_map (blocks_of place)) back) ∙ got.whole;
      writable = facts.writable;
      short = facts.short;
      counted = facts.counted;
      blocks = facts.blocks;
      few = facts.few;
    } in
    subst (λ i. ReadsItem i place now x new) (sym gives.item_is) (subst (λ p. ReadsItem (item_of place order kind block) place p x new) (sym gives.place_is) reads)

pub refuses_read : (place : Place) (kind : BlockKind) (order : Endian) (size : ℕ) (head block : List ℕ) (f : NgFault) (x mid new : SlotView) →
    Opens place kind order size head x mid → Closes size block (unread head mid) new → first_fault (content_faults place order kind block) ≡ Some f → RefusesBlock f place x
refuses_read place kind order size head block f x mid new opens closes told =
    refuses_further f place (length head) head x mid refl opens.fills (block_told place kind order size head block f mid new opens.says closes told)
