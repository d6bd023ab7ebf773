use Rattle.std.proofs.Common.{◌∙◌, sym}
use Rattle.packet_version.specs.Parts.{as_map}
use Rattle.packet_version.specs.Handing.{reads_more}
use Rattle.packet_version.proofs.Firsts.{none-any}
use Rattle.packet_version.proofs.Originals.{none_lent}
use Rattle.packet_version.proofs.hand.share_out.Goals as goal

pub returns-then-not-some_reads_more-clause-lent : goal.returns-then-not-some_reads_more-clause-lent
returns-then-not-some_reads_more-clause-lent c = none_lent (as_map c.args.held.parts) c.args.versions.now (none-any (λ v. reads_more v.touch) c.args.versions.now (sym c.some_reads_more.ensures ∙ c.if-not-some_reads_more.true))
