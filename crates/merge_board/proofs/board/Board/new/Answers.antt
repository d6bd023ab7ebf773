use Rattle.std.proofs.Common.{◌*◌, [], None, replicate, sym, subst, ◌∙◌}
use Rattle.atomic_table.specs.Table.{opening}
use Rattle.merge_board.specs.declared.rule.Sizes.{Sizes}
use Rattle.merge_board.specs.Rule.{IsBoard, maker}
use Rattle.merge_board.proofs.Deals.{opens}
use Rattle.merge_board.proofs.board.Board.new.Goals as goal

pub vacant-requires : goal.vacant-requires
vacant-requires g c =
    let k : Sizes = record { pids = c.args.pids; branches = c.args.branches; mergers = c.args.mergers } in
    let words = c.as_slice.ensures.value ∙ c.in_ok-words.ensures.items_if_clones_equal (λ y e. e) in
    subst (λ ws. IsBoard g.T.BoardFit.fits k
    (opening ws (replicate (c.args.pids * c.args.branches) None) (maker c.args.branches 0 [])))
    (sym words) (opens g.T.BoardFit.fits k)
