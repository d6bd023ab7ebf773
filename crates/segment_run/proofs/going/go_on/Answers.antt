use Rattle.std.proofs.Common.{rules, refl, ◌≡◌, ◌∙◌, sym, true}
use Rattle.graph_run.specs.Packets.{is_of}
use Rattle.segment_run.proofs.GoingOn.{on_ok_too}
use Rattle.segment_run.proofs.PuttingBack.{nothing_left}
use Rattle.segment_run.proofs.Rejoining.{going_ends, going_takes}
use Rattle.segment_run.proofs.going.go_on.Goals as goal

pub returns-in-Some-clause-packets : goal.returns-in-Some-clause-packets
returns-in-Some-clause-packets c = let own : is_of c.args.chain c.args.item.now ≡ true = search rules in
    on_ok_too c.add_going.result
    (λ more unit later. going_takes unit c.args.chain c.args.next.now.items c.add_going.new.next.items later c.args.item.now c.in-Some.fate c.args.left.now.rest.items c.next.new.self.rest.items own c.in-Some.ensures.items (more unit))
    c.add_going.ensures.packets

pub returns-in-None-clause-packets : goal.returns-in-None-clause-packets
returns-in-None-clause-packets c = λ unit later.
    let none = nothing_left c.args.left.now.rest.items c.args.left.now.rest.len c.args.left.now.rest.ok.0 c.in-None.ensures.cases.0 in
    going_ends unit c.args.chain c.args.next.now.items c.args.next.now.items later c.args.item.now c.args.left.now.rest.items c.next.new.self.rest.items none (sym c.in-None.ensures.items ∙ none) refl
