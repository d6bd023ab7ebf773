use Rattle.std.proofs.Common.{◌≡◌, ◌+◌, ◌*◌, ◌++◌, ◌∷◌, [], ℕ, List, Option, Some, None, take, drop, sym, ap, ◌∙◌, append_assoc, arith}
use Rattle.atomic_table.specs.Table.{rest}
use Rattle.merge_board.specs.Ends.{Sized}
use Rattle.merge_board.specs.Steps.{shelf}
use Rattle.merge_board.proofs.Lists.{front_place, same_front}
use Rattle.merge_board.proofs.board.Board.empty.Goals as goal

pub hand_over-requires-clause-full : goal.hand_over-requires-clause-full
hand_over-requires-clause-full g c =
    let i = c.loop-branch.invariant in
    let b : ℕ = c.loop-branch.branch in
    let same : c.self.inside.sizes.branches ≡ c.args.self.now.branches = ap (λ (z : Sized). z.branches) c.self.view_is in
    let f = front_place (c.args.pid * c.args.self.now.branches) b c.args.seat.now.me.0.got c.loop-branch.seat.me.1
    i.front.0 i.front.1 (omega (arith, same, c.requires.all, c.loop-branch-test.true)) in
    (f.0, f.1 ∙ ap (λ z. (c.args.pid * z + b, Some f.0) ∷ rest c.loop-branch.seat.me.1) (sym same))

pub loop-branch-preserved : goal.loop-branch-preserved
loop-branch-preserved g c =
    let i = c.loop-branch.invariant in
    let b : ℕ = c.loop-branch.branch in
    let h = c.hand_over.ensures in
    let same : c.self.inside.sizes.branches ≡ c.args.self.now.branches = ap (λ (z : Sized). z.branches) c.self.view_is in
    let f = front_place (c.args.pid * c.args.self.now.branches) b c.args.seat.now.me.0.got c.loop-branch.seat.me.1
    i.front.0 i.front.1 (omega (arith, same, c.requires.all, c.loop-branch-test.true)) in
    let last : List (ℕ × Option g.row.T.Denot) = (c.args.pid * c.self.inside.sizes.branches + b, None) ∷ [] in
    let one : h.value.0 ≡ f.0 = same_front _ _ _ _ _ _ _ h.value.1 f.1 in
    record {
      table = h.table ∙ i.table;
      view = ap (λ m. m.0) h.seat ∙ i.view;
      front = (
        i.front.0 ++ last,
        ap (λ m. m.1) h.seat ∙ ap (λ l. l ++ last) f.2
            ∙ append_assoc (shelf (c.args.pid * c.args.self.now.branches) (b + 1) (drop (b + 1) c.args.seat.now.me.0.got))
            i.front.0 last,
      );
      values = h.value.2 ∙ ap (λ l. l ++ h.value.0 ∷ []) i.values ∙ ap (λ x. take b c.args.seat.now.me.0.got ++ x ∷ []) one ∙ sym f.3;
      len = h.len ∙ ap (λ z. z + 1) i.len;
      room = h.room ∙ i.room;
    }
