use Rattle.std.proofs.Common.{rules, ◌≡◌, ◌∙◌, sym, true}
use Rattle.graph_run.specs.Packets.{is_of}
use Rattle.segment_run.proofs.PuttingBack.{nothing_left}
use Rattle.segment_run.proofs.Taken.{seals, seals_none}
use Rattle.segment_run.proofs.sealing.seal_next.Goals as goal

pub returns-in_ok-push-in-Some : goal.returns-in_ok-push-in-Some
returns-in_ok-push-in-Some c = λ unit later. let own : is_of c.args.chain c.args.item.now ≡ true = search rules in
    seals unit c.args.chain c.args.all.now.items c.push.new.self.items c.args.item.now c.in-Some.fate _ c.args.left.now.rest.items c.next.new.self.rest.items later own c.in-Some.ensures.items (search rules) c.in_ok-push-in-Some.ensures.items

pub returns-in-None : goal.returns-in-None
returns-in-None c = λ unit later.
    let none = nothing_left c.args.left.now.rest.items c.args.left.now.rest.len c.args.left.now.rest.ok.0 c.in-None.ensures.cases.0 in
    seals_none unit c.args.chain c.args.all.now.items c.args.item.now c.args.left.now.rest.items c.next.new.self.rest.items later none (sym c.in-None.ensures.items ∙ none)
