use Rattle.std.proofs.Common.{◌∙◌, ap, sym}
use Rattle.std.specs.Option.{option_copied}
use Rattle.packet_version.specs.Parts.{as_map}
use Rattle.packet_version.proofs.Originals.{some_copied, none_read, absent_copied}
use Rattle.packet_version.proofs.hand.copy_out.Goals as goal
use Rattle.packet_version.proofs.hand.copy_out.Goals.{in-Some+in_ok-give_copies, in_default}

pub returns-clause-given : goal.returns-clause-given
returns-clause-given c =
    let part = as_map c.args.held.now.parts c.args.field in
    elim c.match-bytes.branch [
      | in-Some+in_ok-give_copies w ↦ w.versions-is ∙ (w.in_ok-give_copies.ensures.given ∙ some_copied c.args.field part w.in-Some.bytes.now c.spare-spare.result c.args.versions.now (sym (ap (λ o. option_copied o) w.in-Some.is) ∙ c.bytes.ensures) c.spare-spare.ensures)
      | in_default w ↦ w.versions-is ∙ absent_copied c.args.field part c.args.versions.now (none_read part (sym (ap (λ o. option_copied o) w.in_default.is) ∙ c.bytes.ensures))
    ]
