use Rattle.std.proofs.Common.{◌+◌, ◌*◌, ◌∷◌, ℕ, None, rules, ap, ◌∙◌, arith}
use Rattle.merge_board.specs.declared.rule.Sizes.{Sizes}
use Rattle.merge_board.specs.Ends.{Sized}
use Rattle.merge_board.proofs.Lists.{width_is}
use Rattle.merge_board.proofs.Moves.{takes_slot}
use Rattle.merge_board.proofs.board.Board.take_slot.Goals as goal

pub load-requires : goal.load-requires
load-requires g c =
    let i = c.self.invariant in
    let s = c.requires.seat in
    let k = c.self.inside.table.shared.key in
    let width = width_is _ _ _ _ c.self.view_is c.requires.board i.words i.slots i.some_pids s.wide in (
      search rules,
      search rules,
      takes_slot g.T.BoardFit.fits k _ _ _ c.args.seat.now.me
          (omega (arith, ap (λ (z : Sizes). z.pids) i.key, ap (λ (z : Sized). z.pids) c.self.view_is, c.requires.pid))
          s.plays
          (omega (arith, width, ap (λ (z : Sizes). z.branches) i.key, ap (λ (z : Sized). z.branches) c.self.view_is, s.role, s.within))
          s.idle c.requires.first,
    )

pub returns-clause-slot : goal.returns-clause-slot
returns-clause-slot g c =
    let i = c.self.invariant in
    let s = c.requires.seat in
    let width = width_is _ _ _ _ c.self.view_is c.requires.board i.words i.slots i.some_pids s.wide in
    c.load.ensures.2.1 ∙ ap (λ (z : ℕ × ℕ). (c.args.pid * z.0 + z.1, None) ∷ c.args.seat.now.me.1) (λ j. (width j, s.role j))
