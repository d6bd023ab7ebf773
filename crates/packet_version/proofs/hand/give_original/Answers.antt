use Rattle.std.proofs.Common.{◌∙◌, ◌+◌, ◌-◌, ℕ, length, get_or, ap, subst}
use Rattle.std.specs.Prelude.{Some}
use borrow.Rule.Slice.PartMut.{put_mid, mid_of}
use Rattle.packet_version.specs.Parts.{PlainPart}
use Rattle.packet_version.specs.Raising.{RaisesBy, RaisesAtMost}
use Rattle.packet_version.specs.Versions.{with_part}
use Rattle.packet_version.proofs.Originals.{original_given, original_writes, copies_alike, writers_behind, first_there}
use Rattle.packet_version.proofs.Handing.{on_err}
use Rattle.packet_version.proofs.hand.give_original.Goals as goal

pub returns-in_err-give_copies-clause-refused : goal.returns-in_err-give_copies-clause-refused
returns-in_err-give_copies-clause-refused c =
    on_err c.from_residual.result _ (subst (λ (n : ℕ). RaisesAtMost n c.args.field c.args.tally.now c.give_copies.new.tally) (writers_behind c.args.field c.args.first c.args.versions.now (first_there c.args.field c.args.versions.now c.args.first c.requires.first)) c.in_err-give_copies.ensures.refused)

pub returns-clause-given : goal.returns-clause-given
returns-clause-given c =
    let first = first_there c.args.field c.args.versions.now c.args.first c.requires.first in
    let later = length c.args.versions.now - (c.args.first + 1) in
    let loan = put_mid (c.args.first + 1) later c.args.versions.now c.give_copies.new.versions in
    original_given c.args.field c.args.part c.args.first c.args.versions.now c.give_copies.new.versions c.give.new.self c.index-versions-first.result first
    (c.in_ok-give_copies.ensures.given ∙ copies_alike c.args.field c.args.part c.spare-spare.result c.bytes.result.now (mid_of (c.args.first + 1) later c.args.versions.now) c.bytes.ensures c.spare-spare.ensures)
    (c.give.ensures ∙ ap (λ (p : PlainPart). with_part c.args.field (Some p) (get_or loan c.args.first c.index-versions-first.result)) c.unwritten.ensures)

pub returns-clause-counted : goal.returns-clause-counted
returns-clause-counted c = subst (λ (n : ℕ). RaisesBy n c.args.field c.args.tally.now c.give_copies.new.tally) (writers_behind c.args.field c.args.first c.args.versions.now (first_there c.args.field c.args.versions.now c.args.first c.requires.first)) c.in_ok-give_copies.ensures.counted

pub give-requires-clause-written : goal.give-requires-clause-written
give-requires-clause-written c =
    let first = first_there c.args.field c.args.versions.now c.args.first c.requires.first in
    let later = length c.args.versions.now - (c.args.first + 1) in
    original_writes c.args.field c.args.part c.args.first c.args.versions.now c.give_copies.new.versions c.index-versions-first.result first
    (c.in_ok-give_copies.ensures.given ∙ copies_alike c.args.field c.args.part c.spare-spare.result c.bytes.result.now (mid_of (c.args.first + 1) later c.args.versions.now) c.bytes.ensures c.spare-spare.ensures)
