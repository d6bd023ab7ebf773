use Rattle.std.proofs.Common.{rules, ◌≡◌, subst}
use Rattle.packet_fields.specs.Checksums.{sealed}
use Rattle.segment_run.proofs.sealing.is_sealed.Goals as goal

pub returns : goal.returns
returns c = λ e. let same : c.args.before.now ≡ c.args.after.now = search rules in subst (λ l. sealed c.args.before.now l ≡ l) same c.unchanged_is_sealed.ensures
