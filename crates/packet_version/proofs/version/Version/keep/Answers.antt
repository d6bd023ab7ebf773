use Rattle.std.proofs.Common.{sym}
use Rattle.std.specs.Prelude.{Some, None}
use Rattle.packet_version.specs.declared.loan.Loan.TheVariants.{Whole}
use Rattle.packet_version.specs.Handing.{with_packet}
use Rattle.packet_version.proofs.PartsOfBranch.{beside_of, had_lending, version_as, packet_is}
use Rattle.packet_version.proofs.version.Version.keep.Goals as goal

pub invariant_of-self : goal.invariant_of-self
invariant_of-self c =
    let within = c.self.inside.within in
    let own = c.self.inside.own.items in
    let lent = c.self.inside.lent in
    let touch = c.self.inside.touch in
    let fixed = c.self.inside.fixed in
    let none = beside_of within own lent touch fixed c.args.self.now c.self.view_is c.requires.apart in
    had_lending touch within own lent (Some (Whole c.args.held)) none c.requires.unwritten c.requires.formed c.self.invariant

pub returns : goal.returns
returns c =
    let within = c.self.inside.within in
    let own = c.self.inside.own.items in
    let lent = c.self.inside.lent in
    let touch = c.self.inside.touch in
    let fixed = c.self.inside.fixed in
    let none = beside_of within own lent touch fixed c.args.self.now c.self.view_is c.requires.apart in
    version_as None within own (Some (Whole c.args.held)) touch fixed (with_packet c.args.held c.args.self.now) (sym none) (packet_is touch own lent c.args.held fixed c.args.self.now (version_as within None own lent touch fixed c.args.self.now none c.self.view_is))
