use Rattle.std.proofs.Common.{◌≡◌, ◌<◌, ◌≤◌, ◌+◌, ◌*◌, ◌%◌, ◌^◌, ◌∷◌, Some, rules, sym, ap, subst, ◌∙◌, arith}
use Rattle.atomic_table.specs.Table.{rest}
use Rattle.merge_board.specs.declared.rule.Sizes.{Sizes}
use Rattle.merge_board.specs.Ends.{Sized}
use Rattle.merge_board.specs.Rule.{IsFit}
use Rattle.merge_board.proofs.Lists.{width_is}
use Rattle.merge_board.proofs.Moves.{announces_slot}
use Rattle.merge_board.proofs.board.Board.announce.Goals as goal

pub fetch_or-requires : goal.fetch_or-requires
fetch_or-requires g c =
    let i = c.self.invariant in
    let k = c.self.inside.table.shared.key in
    let me = c.args.seat.now.me in
    let role : me.0.role ≡ c.args.branch = c.requires.role in
    let width = width_is _ _ _ _ c.self.view_is c.requires.board i.words i.slots i.some_pids c.requires.wide in
    let wide : c.args.self.now.branches ≡ k.branches = ap (λ (z : Sized). z.branches) (sym c.self.view_is) ∙ ap (λ (z : Sizes). z.branches) (sym i.key) in
    let few : c.args.branch < k.branches = omega (arith, width, wide, c.requires.within) in
    let most : k.branches ≤ 64 = omega (arith, i.few_branches, ap (λ (z : Sizes). z.branches) i.key) in
    let value = c.requires.value in (
      search rules,
      search rules,
      announces_slot g.T.BoardFit.fits k _ _ _ _ me value.0
          (omega (arith, ap (λ (z : Sizes). z.pids) i.key, ap (λ (z : Sized). z.pids) c.self.view_is, c.requires.pid))
          c.requires.plays (omega arith) (omega arith) c.requires.in_hand
          (ap (λ z. 1 * 2 ^ z % 2 ^ 64) (sym role))
          (value.1 ∙ (λ j. (c.args.pid * wide j + sym role j, Some value.0) ∷ rest me.1))
          (subst (λ z. IsFit g.T.BoardFit.fits me.0.due z c.args.pid value.0) (sym role) value.2),
    )
