use Rattle.std.proofs.Common.{sym}
use Rattle.std.specs.Prelude.{Some, None}
use Rattle.packet_version.specs.Parts.{as_map}
use Rattle.packet_version.specs.declared.loan.Loan.TheVariants.{Shared}
use Rattle.packet_version.specs.Handing.{with_loan}
use Rattle.packet_version.proofs.PartsOfBranch.{beside_of, had_lending, version_as, loan_is}
use Rattle.packet_version.proofs.version.Version.lend.Goals as goal

pub invariant_of-self : goal.invariant_of-self
invariant_of-self c =
    let within = c.self.inside.within in
    let own = c.self.inside.own.items in
    let lent = c.self.inside.lent in
    let touch = c.self.inside.touch in
    let fixed = c.self.inside.fixed in
    let none = beside_of within own lent touch fixed c.args.self.now c.self.view_is c.requires.apart in
    had_lending touch within own lent (Some (Shared c.args.reader)) none c.requires.unwritten c.requires.formed c.self.invariant

pub returns : goal.returns
returns c =
    let within = c.self.inside.within in
    let own = c.self.inside.own.items in
    let lent = c.self.inside.lent in
    let touch = c.self.inside.touch in
    let fixed = c.self.inside.fixed in
    let none = beside_of within own lent touch fixed c.args.self.now c.self.view_is c.requires.apart in
    version_as None within own (Some (Shared c.args.reader)) touch fixed (with_loan (as_map c.args.reader.parts) c.args.self.now) (sym none) (loan_is touch own lent c.args.reader fixed c.args.self.now (version_as within None own lent touch fixed c.args.self.now none c.self.view_is))
