use Rattle.std.proofs.Common.{◌+◌, rules, ap, ◌∙◌, inr, arith}
use Rattle.merge_board.specs.declared.rule.View.{View}
use Rattle.merge_board.specs.Ends.{new_branch}
use Rattle.merge_board.proofs.Deals.{deals}
use Rattle.merge_board.proofs.Lists.{each_more}
use Rattle.merge_board.proofs.deal.branch_seats.Goals as goal

pub split_seat-seat-requires : goal.split_seat-seat-requires
split_seat-seat-requires g c = (search rules, search rules, deals g.T.BoardFit.fits _ _ _ _ _ g.D.BoardDue.due c.loop-branch.invariant.dealt)

pub loop-branch-preserved : goal.loop-branch-preserved
loop-branch-preserved g c =
    let i = c.loop-branch.invariant in
    let split = c.split_seat-seat.ensures in
    let now = ap (λ m. m.0) split.2 in
    record {
      table = split.0 ∙ i.table;
      dealt = record {
        makes = ap (λ (v : View g.row.T.Denot). v.makes) now;
        sized = ap (λ (v : View g.row.T.Denot). v.branches) now ∙ i.dealt.sized;
        count = ap (λ (v : View g.row.T.Denot). v.role) now ∙ omega (arith, i.dealt.count);
        chosen = inr (ap (λ (v : View g.row.T.Denot). v.due) now);
      };
      seats = c.push_reserved.ensures.items
          ∙ each_more (new_branch c.args.table.now.table_id g.D.BoardDue.due) c.loop-branch.branch _ _ i.seats (λ j. record {
            board = (split.3 ∙ i.table ∙ c.requires.table) j;
            branch = c.loop-branch.branch;
            due = ap (λ m. m.0.due) split.4 j;
            put = ap (λ m. m.0.pids) split.4 j;
          });
      len = c.push_reserved.ensures.len ∙ ap (λ z. z + 1) i.len;
      room = omega (arith, i.room, c.push_reserved.ensures.capacity);
    }
