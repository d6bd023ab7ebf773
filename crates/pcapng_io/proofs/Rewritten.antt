-- Written items are read again.
use Rattle.std.proofs.Common.{◌≡◌, ◌∙◌, ℕ, List, [], ◌∷◌, ◌++◌, map, ap, sym, subst, append_assoc}
use Rattle.std.specs.Prelude.{Ok, Some}
use Rattle.std.specs.List.{flat_map}
use Rattle.std.proofs.lemmas.List.Concat.{flat_map-cons}
use Rattle.capture_bytes.specs.declared.order.Endian.{Endian}
use Rattle.pcapng_io.specs.declared.block_kind.BlockKind.{BlockKind}
use Rattle.pcapng_io.specs.declared.block_kind.BlockKind.TheVariants.{SectionHeader, InterfaceDescription, EnhancedPacket, Unread, Other}
use Rattle.pcapng_io.specs.declared.item.NgItem.{NgItem}
use Rattle.pcapng_io.specs.declared.item.NgItem.TheVariants.{Packet, Section, Interface, Carried}
use Rattle.pcapng_io.specs.declared.place.Place.{Place}
use Rattle.pcapng_io.specs.Blocks.{next_of, blocks_of, and_rest, with_item, kind_in, order_in, copied_block, carried}
use Rattle.pcapng_io.specs.Written.{section_bytes, interface_bytes, item_bytes, as_written, Stands, StandInARow, with_items}
use Rattle.pcapng_io.proofs.Faults.{long_enough}
use Rattle.pcapng_io.proofs.Sequence.{blocks_next}
use Rattle.pcapng_io.proofs.Same.{Alone, alone, alone_more, block_again}
use Rattle.pcapng_io.proofs.Changed.{section_alone, section_agrees, interface_alone, interface_agrees}
use Rattle.pcapng_io.proofs.PacketAgain.{packet_again}

section_again : (place now : Place) (kind : BlockKind) (order : Endian) (block tail : List ℕ) → Alone place kind order block (Section block) now → next_of place (section_bytes block ++ tail) ≡ Ok (Some (Section (section_bytes block), now, tail))
section_again place now SectionHeader order block tail is =
    alone_more place SectionHeader order (section_bytes block) tail (Section (section_bytes block)) now
    (section_alone place now order (section_bytes block) block (section_agrees block (long_enough place order SectionHeader block is.sound)) is)
section_again place now InterfaceDescription order block tail is = let e : Interface order (copied_block order 16 block) ≡ Section block = is.item_is in absurd cc
section_again place now EnhancedPacket order block tail is = absurd (not_a_section _ block is.item_is)
  where
    not_a_section : (p : Rattle.pcapng_io.specs.declared.item.NgPacket.NgPacket) (block : List ℕ) → Packet p ≡ Section block → ⊥
    not_a_section p block e = absurd cc
section_again place now Unread order block tail is = let e : Carried (carried order block) ≡ Section block = is.item_is in absurd cc
section_again place now Other order block tail is = let e : Carried (carried order block) ≡ Section block = is.item_is in absurd cc

same_known : (order known : Endian) (xs ys : List ℕ) → Interface order xs ≡ Interface known ys → order ≡ known
same_known order known xs ys is = cc

interface_again : (place now : Place) (growth : ℕ) (kind : BlockKind) (order known : Endian) (block tail : List ℕ) → Alone place kind order block (Interface known block) now →
    next_of place (interface_bytes growth known block ++ tail) ≡ Ok (Some (Interface known (interface_bytes growth known block), now, tail))
interface_again place now growth InterfaceDescription order known block tail is =
    let same : order ≡ known = same_known order known (copied_block order 16 block) block is.item_is in
    subst (λ o. next_of place (interface_bytes growth o block ++ tail) ≡ Ok (Some (Interface o (interface_bytes growth o block), now, tail))) same
    (alone_more place InterfaceDescription order (interface_bytes growth order block) tail (Interface order (interface_bytes growth order block)) now
    (interface_alone place now order (interface_bytes growth order block) block (interface_agrees growth order block (long_enough place order InterfaceDescription block is.sound))
    (subst (λ o. Alone place InterfaceDescription order block (Interface o block) now) (sym same) is)))
interface_again place now growth SectionHeader order known block tail is = let e : Section (copied_block order 24 block) ≡ Interface known block = is.item_is in absurd cc
interface_again place now growth EnhancedPacket order known block tail is = absurd (not_an_interface _ known block is.item_is)
  where
    not_an_interface : (p : Rattle.pcapng_io.specs.declared.item.NgPacket.NgPacket) (order : Endian) (block : List ℕ) → Packet p ≡ Interface order block → ⊥
    not_an_interface p order block e = absurd cc
interface_again place now growth Unread order known block tail is = let e : Carried (carried order block) ≡ Interface known block = is.item_is in absurd cc
interface_again place now growth Other order known block tail is = let e : Carried (carried order block) ≡ Interface known block = is.item_is in absurd cc

pub item_again : (growth : ℕ) (place now : Place) (item : NgItem) (tail : List ℕ) → Stands place item now → next_of place (item_bytes growth item ++ tail) ≡ Ok (Some (as_written growth item, now, tail))
item_again growth place now (Packet p) tail is = packet_again place p tail is.0 ∙ ap (λ q. Ok (Some (Packet p, q, tail))) (sym is.1)
item_again growth place now (Section block) tail is =
    section_again place now (kind_in place.order block) (order_in place.order (kind_in place.order block) block) block tail (alone place block (Section block) now is)
item_again growth place now (Interface order block) tail is =
    interface_again place now growth (kind_in place.order block) (order_in place.order (kind_in place.order block) block) order block tail (alone place block (Interface order block) now is)
item_again growth place now (Carried block) tail is = block_again place now block tail (Carried block) is

pub items_again : (growth : ℕ) (place now : Place) (items : List NgItem) (tail : List ℕ) → StandInARow place items now →
    blocks_of place (flat_map (item_bytes growth) items ++ tail) ≡ with_items (map (as_written growth) items) (blocks_of now tail)
items_again growth place now [] tail is = ap (λ p. blocks_of p tail) (sym is)
items_again growth place now (i ∷ more) tail is =
    let others : List ℕ = flat_map (item_bytes growth) more ++ tail in
    let parts : flat_map (item_bytes growth) (i ∷ more) ++ tail ≡ item_bytes growth i ++ others =
    ap (λ l. l ++ tail) (flat_map-cons (item_bytes growth) i more) ∙ append_assoc (item_bytes growth i) (flat_map (item_bytes growth) more) tail in
    ap (blocks_of place) parts ∙ blocks_next place (item_bytes growth i ++ others) ∙ ap (and_rest blocks_of) (item_again growth place is.0 i others is.1)
    ∙ ap (with_item (as_written growth i)) (items_again growth is.0 now more tail is.2)
