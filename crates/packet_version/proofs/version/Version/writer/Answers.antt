use Rattle.std.proofs.Common.{◌∙◌, ap, sym}
use Rattle.packet_version.specs.Parts.{Parts, writers_of}
use Rattle.packet_version.proofs.PartsOfBranch.{parts_are}
use Rattle.packet_version.proofs.version.Version.writer.Goals as goal

pub returns-then-not-has-clause-writer : goal.returns-then-not-has-clause-writer
returns-then-not-has-clause-writer c = sym (
    ap (λ (m : Parts). writers_of m c.args.field) (parts_are c.self.inside.within c.self.inside.own.items c.self.inside.lent c.self.inside.touch c.self.inside.fixed c.args.self.now c.self.view_is)
    ∙ c.self.invariant.unwritten c.args.field (sym c.has.ensures ∙ c.if-not-has.true)
    )
