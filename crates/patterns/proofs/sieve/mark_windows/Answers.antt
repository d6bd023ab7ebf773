use Rattle.std.proofs.Common.{◌≡◌, ◌∙◌, sym, ap, below_more}
use Rattle.std.specs.Int.{bit_at}
use Rattle.patterns.specs.Sieving.{groups_of}
use Rattle.patterns.specs.Windows.{window_at}
use Rattle.patterns.proofs.Sieving.{grows_on, window_stays}
use Rattle.patterns.proofs.sieve.mark_windows.Goals as goal

pub offsets-preserved : goal.offsets-preserved
offsets-preserved c = record {
  grows = grows_on c.args.table.now c.offsets.table c.mark.new.table c.offsets.invariant.grows c.mark.ensures.grows;
  marked = below_more (λ offset. bit_at (groups_of c.mark.new.table (window_at c.args.width c.args.bytes.now offset)) c.args.group ≡ 1) c.offsets.offset
      (λ offset below. window_stays c.offsets.table c.mark.new.table (window_at c.args.width c.args.bytes.now offset) c.args.group c.mark.ensures.grows (c.offsets.invariant.marked offset below))
      (ap (λ window. bit_at (groups_of c.mark.new.table window) c.args.group) (sym c.window_at.ensures) ∙ c.mark.ensures.marked);
}
