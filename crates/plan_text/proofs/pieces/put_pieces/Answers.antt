use Rattle.std.proofs.Common.{rules, ◌≡◌, length}
use Rattle.std.proofs.lemmas.List.{take_rest}
use Rattle.plan_text.proofs.Cutting.{one_put, all_put}
use Rattle.plan_text.proofs.pieces.put_pieces.Goals as goal

pub pieces-preserved : goal.pieces-preserved
pieces-preserved c =
    rw (take_rest c.pieces.rest.now c.first_piece-count.result)
    (one_put c.args.functions.now c.args.order.now c.pieces.rest.now c.pieces.number c.args.out.now.items c.pieces.out.items c.put_piece.new.out.items c.first_piece-count.result c.in_ok-number.number
    c.pieces.invariant c.first_piece-count.ensures c.in_ok-number.ensures.put c.in_ok-number.ensures.next c.in_ok-number.ensures.few)

pub returns : goal.returns
returns c =
    let none : length c.pieces.rest.now ≡ 0 = (let empty = c.is_empty.ensures in let test = c.pieces-test.ensures in let past = c.pieces-test.false in search rules) in
    all_put c.args.functions.now c.args.order.now c.pieces.rest.now c.pieces.number c.args.out.now.items c.pieces.out.items c.pieces.invariant none
