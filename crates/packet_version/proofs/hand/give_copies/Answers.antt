use Rattle.std.proofs.Common.{arith, get_or}
use Rattle.packet_version.specs.Handing.{copied_to}
use Rattle.packet_version.specs.Splitting.{fresh}
use Rattle.packet_version.proofs.Mapping.{read_next, changed_next}
use Rattle.packet_version.proofs.Counting.{raises_none}
use Rattle.packet_version.proofs.Handing.{copies_next, copies_refused, on_err}
use Rattle.std.proofs.Common.{refl}
use Rattle.packet_version.proofs.hand.give_copies.Goals as goal

pub loop-version-init : goal.loop-version-init
loop-version-init c = record { given = refl; counted = raises_none c.args.field c.args.tally.now }

pub loop-version-preserved : goal.loop-version-preserved
loop-version-preserved c =
    let g = copied_to c.args.field (fresh c.args.spare c.args.bytes.now) in
    let item = get_or c.loop-version.versions c.loop-version.version-index c.version-item.result in
    record {
      given = changed_next g c.args.versions.now c.loop-version.versions c.loop-version.version-index c.give_copy.new.version c.version-item.result (omega (arith, c.loop-version.auto.versions)) c.loop-version.invariant.given c.in_ok-give_copy.ensures.given;
      counted = copies_next c.args.field c.args.versions.now c.loop-version.version-index item c.version-item.result c.args.tally.now c.loop-version.tally c.give_copy.new.tally (omega (arith, c.loop-version.auto.versions)) (read_next g c.args.versions.now c.loop-version.versions c.loop-version.version-index item c.version-item.result (omega (arith, c.loop-version.auto.versions)) c.loop-version.invariant.given refl) c.loop-version.invariant.counted c.in_ok-give_copy.ensures.counted;
    }

pub returns-in_err-give_copy-clause-refused : goal.returns-in_err-give_copy-clause-refused
returns-in_err-give_copy-clause-refused c = on_err c.from_residual.result _ (copies_refused c.args.field c.args.versions.now c.loop-version.version-index c.args.tally.now c.loop-version.tally c.give_copy.new.tally c.loop-version.invariant.counted c.in_err-give_copy.ensures.counted)
