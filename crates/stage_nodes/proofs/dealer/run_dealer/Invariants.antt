use Rattle.std.proofs.Common.{◌≡◌, ◌-◌, ℕ, false}
use Rattle.packet_fields.specs.declared.field.Field.{Field}
use Rattle.stage_nodes.specs.Turns.{DealerOwes}
use Rattle.stage_nodes.proofs.dealer.run_dealer.Given as goal

abbrev pub invariant-loop-packet : goal.invariant-loop-packet
invariant-loop-packet g l = record {
  owes : (total : Field → ℕ) → DealerOwes g.S.Supply.comes total l.fn.dealer → DealerOwes g.S.Supply.comes total l.dealer;
  ample : l.dealer.to.short ≡ false → l.fn.dealer.to.short ≡ false;
  count : l.dealer.count ≡ l.fn.dealer.count - l._packet;
}
