use Rattle.std.proofs.Common.{◌≡◌, ◌∙◌, ◌<◌, length, arith, ap, get_or, refl}
use Rattle.std.specs.Prelude.{None}
use Rattle.std.proofs.lemmas.List.Elements.{All-get_or}
use Rattle.packet_version.specs.Parts.{as_map}
use Rattle.packet_version.specs.Versions.{PlainVersion}
use Rattle.packet_version.specs.Handing.{lent_to}
use Rattle.packet_version.proofs.Mapping.{read_next, changed_next}
use Rattle.packet_version.proofs.hand.lend_out.Goals as goal

pub loop-version-preserved : goal.loop-version-preserved
loop-version-preserved c =
    let g = lent_to (as_map c.args.owner.now.parts) in
    changed_next g c.args.versions.now c.loop-version.versions c.loop-version.version-index c.lend_one.new.version c.version-item.result (omega (arith, c.loop-version.auto.versions)) c.loop-version.invariant c.in_ok-lend_one.ensures

pub lend_one-requires-clause-apart : goal.lend_one-requires-clause-apart
lend_one-requires-clause-apart c =
    let g = lent_to (as_map c.args.owner.now.parts) in
    let item = get_or c.loop-version.versions c.loop-version.version-index c.version-item.result in
    let below : c.loop-version.version-index < length c.args.versions.now = omega (arith, c.loop-version.auto.versions) in
    ap (λ (v : PlainVersion). v.kept) (read_next g c.args.versions.now c.loop-version.versions c.loop-version.version-index item c.version-item.result below c.loop-version.invariant refl)
    ∙ All-get_or (λ (v : PlainVersion). v.kept ≡ None) c.args.versions.now c.loop-version.version-index c.version-item.result below c.requires.apart
