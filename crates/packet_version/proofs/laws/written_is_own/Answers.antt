use Rattle.std.proofs.Common.{◌∙◌, ap, sym, length}
use Rattle.packet_version.specs.Parts.{Parts, writers_of}
use Rattle.packet_version.specs.Versions.{PlainVersion}
use Rattle.action_profile.specs.Modes.{has_write}
use Rattle.packet_version.proofs.PartsOfBranch.{parts_are}
use Rattle.packet_version.proofs.laws.written_is_own.Goals as goal

pub returns-clause-unwritten : goal.returns-clause-unwritten
returns-clause-unwritten c = λ f w.
    ap (λ (m : Parts). writers_of m f) (parts_are c.version.inside.within c.version.inside.own.items c.version.inside.lent c.version.inside.touch c.version.inside.fixed c.args.version.now c.version.view_is)
    ∙ c.version.invariant.unwritten f (ap (λ (v : PlainVersion). has_write f v.touch) c.version.view_is ∙ w)

pub returns-clause-ten : goal.returns-clause-ten
returns-clause-ten c = ap (λ (v : PlainVersion). length v.parts) (sym c.version.view_is)
