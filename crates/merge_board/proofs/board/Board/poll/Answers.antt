use Rattle.std.proofs.Common.{true≢false, refl, sym, ap, subst, ◌∙◌, arith}
use Rattle.std.specs.Prelude.{IsSome, IsNone}
use Rattle.merge_board.specs.Ends.{MergerEnd}
use Rattle.merge_board.specs.Rule.{IsFit}
use Rattle.merge_board.proofs.Lists.{lacks_one, each_due}
use Rattle.merge_board.proofs.board.Board.poll.Goals as goal
use Rattle.merge_board.proofs.board.Board.poll.Goals.{then-gather, else-gather}

pub returns-clause-none : goal.returns-clause-none
returns-clause-none g c =
    let whole = c.gather.ensures.whole in
    elim c.if-gather.branch [
      | then-gather w ↦ (
        (λ none. absurd (true≢false (subst IsNone w.result-is none))),
        (λ lacks. let all = whole.0 w.if-gather.true lacks.0 lacks.1 in absurd (omega (arith, all, lacks.2))),
      )
      | else-gather w ↦ (
        (λ _. lacks_one c.args.self.now.branches c.gather.new.seat.me.0.word
            (λ all. true≢false (sym (whole.1 all) ∙ w.if-gather.false))),
        (λ _. subst IsNone (sym w.result-is) refl),
      )
    ]

pub returns-clause-count : goal.returns-clause-count
returns-clause-count g c =
    elim c.if-gather.branch [
      | then-gather w ↦ (λ _. c.gather.ensures.count w.if-gather.true)
      | else-gather w ↦ (λ some. absurd (true≢false (sym (subst IsSome w.result-is some))))
    ]

pub returns-clause-values : goal.returns-clause-values
returns-clause-values g c =
    elim c.if-gather.branch [
      | then-gather w ↦ (λ _ b x e.
          let due = ap (λ (z : MergerEnd g.row.T.Denot). z.due) c.seat.view_is in
          subst (λ d. IsFit g.T.BoardFit.fits d b c.args.pid x) due
          (each_due g.T.BoardFit.fits c.seat.inside.seat.me.0.due c.args.pid 0 c.gather.new.into.items
          (c.gather.ensures.due w.if-gather.true) b b x e (omega arith)))
      | else-gather w ↦ (λ some. absurd (true≢false (sym (subst IsSome w.result-is some))))
    ]
