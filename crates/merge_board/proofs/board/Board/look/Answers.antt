use Rattle.std.proofs.Common.{◌+◌, ◌*◌, ◌%◌, ◌++◌, ℕ, rules, sym, ap, subst, ◌∙◌, arith}
use Rattle.merge_board.specs.declared.rule.Sizes.{Sizes}
use Rattle.merge_board.specs.Ends.{Sized}
use Rattle.merge_board.specs.Rule.{AllSet}
use Rattle.merge_board.specs.Steps.{shelf}
use Rattle.merge_board.proofs.Lists.{width_is}
use Rattle.merge_board.proofs.Moves.{looks_at}
use Rattle.merge_board.proofs.board.Board.look.Goals as goal

pub load-requires : goal.load-requires
load-requires g c =
    let i = c.self.invariant in
    let s = c.requires.seat in
    let k = c.self.inside.table.shared.key in
    let width = width_is _ _ _ _ c.self.view_is c.requires.board i.words i.slots i.some_pids s.wide in
    let wide = width ∙ ap (λ (z : Sized). z.branches) (sym c.self.view_is) ∙ ap (λ (z : Sizes). z.branches) (sym i.key) in
    let many = ap (λ (z : Sized). z.mergers) (sym c.self.view_is) ∙ ap (λ (z : Sizes). z.mergers) (sym i.key) in (
      search rules,
      search rules,
      looks_at g.T.BoardFit.fits k _ _ _ c.args.seat.now.me
          (omega (arith, ap (λ (z : Sizes). z.pids) i.key, ap (λ (z : Sized). z.pids) c.self.view_is, c.requires.pid))
          s.plays
          (s.role ∙ ap (λ (z : ℕ × ℕ). z.0 + c.args.pid % z.1) (λ j. (wide j, many j)))
          c.requires.first,
    )

pub returns-clause-all : goal.returns-clause-all
returns-clause-all g c = λ all.
    let i = c.self.invariant in
    let width = width_is _ _ _ _ c.self.view_is c.requires.board i.words i.slots i.some_pids c.requires.seat.wide in
    (c.load.ensures.2.0 (subst (λ z. AllSet z c.load.result) (sym width) all)).view

pub returns-clause-slots : goal.returns-clause-slots
returns-clause-slots g c = λ all.
    let i = c.self.invariant in
    let width = width_is _ _ _ _ c.self.view_is c.requires.board i.words i.slots i.some_pids c.requires.seat.wide in
    (c.load.ensures.2.0 (subst (λ z. AllSet z c.load.result) (sym width) all)).slots
    ∙ ap (λ z. shelf (c.args.pid * z) 0 c.load.new.seat.me.0.got ++ c.args.seat.now.me.1) width

pub returns-clause-count : goal.returns-clause-count
returns-clause-count g c = λ all.
    let i = c.self.invariant in
    let width = width_is _ _ _ _ c.self.view_is c.requires.board i.words i.slots i.some_pids c.requires.seat.wide in
    (c.load.ensures.2.0 (subst (λ z. AllSet z c.load.result) (sym width) all)).count ∙ width

pub returns-clause-due : goal.returns-clause-due
returns-clause-due g c = λ all.
    let i = c.self.invariant in
    let width = width_is _ _ _ _ c.self.view_is c.requires.board i.words i.slots i.some_pids c.requires.seat.wide in
    (c.load.ensures.2.0 (subst (λ z. AllSet z c.load.result) (sym width) all)).due

pub returns-clause-lacks : goal.returns-clause-lacks
returns-clause-lacks g c = λ out.
    let i = c.self.invariant in
    let width = width_is _ _ _ _ c.self.view_is c.requires.board i.words i.slots i.some_pids c.requires.seat.wide in
    (c.load.ensures.2.1 (λ all. out (subst (λ z. AllSet z c.load.result) width all))).0
