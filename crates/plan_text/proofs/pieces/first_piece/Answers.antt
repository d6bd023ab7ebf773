use Rattle.std.proofs.Common.{rules, ◌<◌, sym}
use Rattle.plan_text.proofs.Cutting.{plain_is_first}
use Rattle.plan_text.proofs.pieces.first_piece.Goals as goal

pub returns-else-plain-eq0 : goal.returns-else-plain-eq0
returns-else-plain-eq0 c =
    let some : 0 < c.plain_len-plain.result = (let other = c.if-plain-eq0.false in search rules) in
    plain_is_first c.args.functions.now c.args.order.now c.plain_len-plain.result (sym c.plain_len-plain.ensures) some
