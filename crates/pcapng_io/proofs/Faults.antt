-- What a table of faults says about its tests.
use Rattle.std.proofs.Common.{◌≡◌, ◌≤◌, ◌<◌, ◌+◌, ℕ, List, [], ◌∷◌, length, refl, arith, Bool, true, false}
use Rattle.std.specs.Prelude.{None, nat_lt, nat_le, ◌==◌, ◌||◌, ◌&&◌, not, is_none, is_some}
use Rattle.std.proofs.lemmas.Bool.{ltb-false, eqb-false}
use Rattle.std.proofs.lemmas.Bool.Decides.{nat_tests}
use Rattle.capture_bytes.specs.declared.order.Endian.{Endian}
use Rattle.pcapng_io.specs.declared.block_kind.BlockKind.{BlockKind}
use Rattle.pcapng_io.specs.declared.block_kind.BlockKind.TheVariants.{EnhancedPacket}
use Rattle.pcapng_io.specs.declared.fault.NgFault.{NgFault}
use Rattle.pcapng_io.specs.declared.place.Place.{Place}
use Rattle.pcapng_io.specs.Options.{padded}
use Rattle.pcapng_io.specs.Times.{is_resolution}
use Rattle.capture_bytes.specs.Numbers.{number_at}
use Rattle.pcapng_io.specs.Blocks.{first_fault, content_faults, is_section, is_interface, fixed_length, has_bad_lengths, options_in, resolution_in, interface_in, captured_in}

-- no test of a table holds
abbrev pub NoneStands : List (Bool × NgFault) → Type 0
NoneStands [] = Unit {0}
NoneStands ((stands, fault) ∷ more) = (stands ≡ false) × NoneStands more

pub none_stands : (rows : List (Bool × NgFault)) → first_fault rows ≡ None → NoneStands rows
none_stands [] none = tt
none_stands ((true, fault) ∷ more) none = absurd cc
none_stands ((false, fault) ∷ more) none = (refl, none_stands more none)

pub first_passes : (b : Bool) (f : NgFault) (more : List (Bool × NgFault)) → b ≡ false → first_fault ((b, f) ∷ more) ≡ first_fault more
first_passes true f more is = absurd cc
first_passes false f more is = refl

pub or_left : (a b : Bool) → (a || b) ≡ false → a ≡ false
or_left true b h = absurd cc
or_left false b h = refl

pub or_right : (a b : Bool) → (a || b) ≡ false → b ≡ false
or_right true b h = absurd cc
or_right false b h = h

pub not_false : (b : Bool) → not b ≡ false → b ≡ true
not_false true h = refl
not_false false h = absurd cc

-- a packet without a fault
pub record PacketFacts (place : Place) (order : Endian) (block : List ℕ) : Type 0 where
  pub known : interface_in order block < length place.units
  pub few : place.packets < 4294967295
  pub short : captured_in order block ≤ 262144
  pub fits : 32 + padded (captured_in order block) ≤ length block
  pub counted : place.blocks + 1 ≡ 1099511627776 → ⊥

pub packet_facts : (place : Place) (order : Endian) (block : List ℕ) → place.packets ≤ 4294967295 → first_fault (content_faults place order EnhancedPacket block) ≡ None → PacketFacts place order block
packet_facts place order block within none =
    let tests : NoneStands (content_faults place order EnhancedPacket block) = none_stands (content_faults place order EnhancedPacket block) none in
    let known : nat_le (length place.units) (interface_in order block) ≡ false = tests.1.1.1.0 in
    let few : (place.packets == 4294967295) ≡ false = tests.1.1.1.1.0 in
    let short : nat_lt 262144 (captured_in order block) ≡ false = tests.1.1.1.1.1.0 in
    let padding : nat_lt (length block) (32 + padded (captured_in order block)) ≡ false = tests.1.1.1.1.1.1.0 in
    let counted : (place.blocks + 1 == 1099511627776) ≡ false = tests.1.1.1.1.1.1.1.0 in
    record {
      known = grind (arith, nat_tests);
      few = let other : place.packets ≡ 4294967295 → ⊥ = eqb-false place.packets 4294967295 few in omega arith;
      short = ltb-false 262144 (captured_in order block) short;
      fits = ltb-false (length block) (32 + padded (captured_in order block)) padding;
      counted = eqb-false (place.blocks + 1) 1099511627776 counted;
    }

-- an interface without a fault
pub record InterfaceFacts (place : Place) (order : Endian) (block : List ℕ) : Type 0 where
  pub least : 20 ≤ length block
  pub told : is_some (options_in order block) ≡ true
  pub accepted : is_resolution (resolution_in order block) ≡ true
  pub counted : place.blocks + 1 ≡ 1099511627776 → ⊥

-- any block without a fault
pub last_counted : (place : Place) (order : Endian) (kind : BlockKind) (block : List ℕ) → first_fault (content_faults place order kind block) ≡ None → place.blocks + 1 ≡ 1099511627776 → ⊥
last_counted place order kind block none =
    let tests : NoneStands (content_faults place order kind block) = none_stands (content_faults place order kind block) none in
    let counted : (place.blocks + 1 == 1099511627776) ≡ false = tests.1.1.1.1.1.1.1.0 in eqb-false (place.blocks + 1) 1099511627776 counted

-- its fixed fields are present
pub long_enough : (place : Place) (order : Endian) (kind : BlockKind) (block : List ℕ) → first_fault (content_faults place order kind block) ≡ None → 12 + fixed_length kind ≤ length block
long_enough place order kind block none =
    let tests : NoneStands (content_faults place order kind block) = none_stands (content_faults place order kind block) none in
    let other : Bool = is_section kind && not (number_at order 2 12 block == 1) in
    let lengths : has_bad_lengths order kind block ≡ false = or_left (has_bad_lengths order kind block) other (or_left (has_bad_lengths order kind block || other) (is_interface kind && is_none (options_in order block)) tests.0) in
    let cut : nat_lt (length block) (12 + fixed_length kind) ≡ false = or_right _ (nat_lt (length block) (12 + fixed_length kind)) lengths in
    ltb-false (length block) (12 + fixed_length kind) cut
