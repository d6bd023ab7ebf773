use Rattle.std.proofs.Common.{◌≡◌, ◌-◌, ◌/◌, ◌^◌, ap, subst, sym}
use Rattle.merge_board.specs.Ends.{Sized}
use Rattle.merge_board.specs.Rule.{AllSet}
use Rattle.merge_board.proofs.Lists.{whole_test, mask_is}
use Rattle.merge_board.proofs.board.Board.is_whole.Goals as goal

pub returns : goal.returns
returns g c =
    let t = whole_test c.self.inside.sizes.branches c.args.word ((2 ^ 64 - 1) / 2 ^ (64 - c.self.inside.sizes.branches))
    (mask_is _ c.self.invariant.few_branches) in
    let same : c.self.inside.sizes.branches ≡ c.args.self.now.branches = ap (λ (z : Sized). z.branches) c.self.view_is in
    ((λ e. subst (λ n. AllSet n c.args.word) same (t.0 e)), (λ all. t.1 (subst (λ n. AllSet n c.args.word) (sym same) all)))
