-- What holds for an item that a block gives.
use Rattle.std.proofs.Common.{◌≡◌, ◌≤◌, ◌<◌, ◌+◌, ◌-◌, ℕ, List, length, take, drop, refl, ap, length-drop, arith}
use Rattle.std.proofs.lemmas.List.{length-take-le}
use Rattle.capture_bytes.specs.declared.order.Endian.{Endian}
use Rattle.pcapng_io.specs.declared.block_kind.BlockKind.{BlockKind}
use Rattle.pcapng_io.specs.declared.block_kind.BlockKind.TheVariants.{SectionHeader, InterfaceDescription, EnhancedPacket, Unread, Other}
use Rattle.pcapng_io.specs.declared.place.Place.{Place}
use Rattle.pcapng_io.specs.Options.{padded}
use Rattle.pcapng_io.specs.Blocks.{captured_in, options_at, item_of, after}
use Rattle.pcapng_io.specs.Reader.{IsSound, IsWritable, IsShortItem, CountsPacket}
use Rattle.pcapng_io.proofs.Copying.{block_least, copied_part, options_length}
use Rattle.pcapng_io.proofs.Faults.{packet_facts, long_enough, last_counted}

pub record ItemFacts (place : Place) (order : Endian) (kind : BlockKind) (block : List ℕ) : Type 0 where
  pub writable : IsWritable (item_of place order kind block)
  pub short : IsShortItem (item_of place order kind block)
  pub counted : CountsPacket (item_of place order kind block) place.packets (after place order kind block).packets
  pub blocks : (after place order kind block).blocks ≡ place.blocks + 1
  pub few : (after place order kind block).blocks < 1099511627776

few_after : (place : Place) (order : Endian) (kind : BlockKind) (block : List ℕ) → IsSound place order kind block → place.blocks + 1 < 1099511627776
few_after place order kind block sound =
    let other : place.blocks + 1 ≡ 1099511627776 → ⊥ = last_counted place order kind block sound.faultless in
    let few = sound.few in omega arith

pub item_facts : (place : Place) (order : Endian) (kind : BlockKind) (block : List ℕ) → place.packets ≤ 4294967295 → IsSound place order kind block → ItemFacts place order kind block
item_facts place order SectionHeader block within sound = record {
  writable = block_least order 24 block (omega arith) (long_enough place order SectionHeader block sound.faultless);
  short = tt;
  counted = refl;
  blocks = refl;
  few = few_after place order SectionHeader block sound;
}
item_facts place order InterfaceDescription block within sound = record {
  writable = block_least order 16 block (omega arith) (long_enough place order InterfaceDescription block sound.faultless);
  short = tt;
  counted = refl;
  blocks = refl;
  few = few_after place order InterfaceDescription block sound;
}
item_facts place order EnhancedPacket block within sound =
    let facts = packet_facts place order block within sound.faultless in
    let captured : ℕ = captured_in order block in
    let frame : length (take captured (drop 28 block)) ≡ captured = length-take-le captured (drop 28 block) (omega (arith, facts.fits, length-drop 28 block)) in
    let all : length (options_at (28 + padded captured) block) ≡ length block - (28 + padded captured + 4) = options_length (28 + padded captured) block (omega (arith, facts.fits)) in
    let options = copied_part order (options_at (28 + padded captured) block) (omega (arith, all, facts.fits, sound.whole)) in
    let whole : padded (length (take captured (drop 28 block))) ≡ padded captured = ap padded frame in
    record {
      writable = (options.whole, omega (arith, whole, options.short, all, facts.fits, sound.most));
      short = (omega (arith, frame, facts.short), omega (arith, whole, options.short, all, facts.fits, sound.most));
      counted = (facts.few, refl);
      blocks = refl;
      few = few_after place order EnhancedPacket block sound;
    }
item_facts place order Unread block within sound = record { writable = tt; short = tt; counted = refl; blocks = refl; few = few_after place order Unread block sound }
item_facts place order Other block within sound = record { writable = tt; short = tt; counted = refl; blocks = refl; few = few_after place order Other block sound }
