use Rattle.std.proofs.Common.{◌+◌, rules, ap, ◌∙◌, inr, arith}
use Rattle.merge_board.specs.declared.rule.View.{View}
use Rattle.merge_board.specs.Ends.{new_merger}
use Rattle.merge_board.proofs.Deals.{deals}
use Rattle.merge_board.proofs.Lists.{each_more}
use Rattle.merge_board.proofs.deal.merger_seats.Goals as goal

pub split_seat-seat-requires : goal.split_seat-seat-requires
split_seat-seat-requires g c = (search rules, search rules, deals g.T.BoardFit.fits _ _ _ _ _ g.D.BoardDue.due c.loop-merger.invariant.dealt)

pub loop-merger-preserved : goal.loop-merger-preserved
loop-merger-preserved g c =
    let i = c.loop-merger.invariant in
    let split = c.split_seat-seat.ensures in
    let now = ap (λ m. m.0) split.2 in
    record {
      table = split.0 ∙ i.table;
      dealt = record {
        makes = ap (λ (v : View g.row.T.Denot). v.makes) now;
        sized = ap (λ (v : View g.row.T.Denot). v.branches) now ∙ i.dealt.sized;
        count = ap (λ (v : View g.row.T.Denot). v.role) now ∙ omega (arith, i.dealt.count);
        chosen = inr (ap (λ (v : View g.row.T.Denot). v.due) now);
      };
      seats = c.push_reserved.ensures.items
          ∙ each_more (new_merger c.args.table.now.table_id g.D.BoardDue.due) c.loop-merger.merger _ _ i.seats (λ j. record {
            board = (split.3 ∙ i.table ∙ c.requires.table) j;
            merger = c.loop-merger.merger;
            due = ap (λ m. m.0.due) split.4 j;
            done = ap (λ m. m.0.pids) split.4 j;
            loads = ap (λ m. m.0.loads) split.4 j;
            pid = ap (λ m. m.0.pid) split.4 j;
            word = ap (λ m. m.0.word) split.4 j;
          });
      len = c.push_reserved.ensures.len ∙ ap (λ z. z + 1) i.len;
      room = omega (arith, i.room, c.push_reserved.ensures.capacity);
    }
