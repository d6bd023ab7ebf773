use Rattle.std.proofs.Common.{◌<◌, length, None, Some, arith, sym, ap, ◌∙◌, inl, inr, refl}
use Rattle.std.proofs.lemmas.Bool.{false≢true}
use Rattle.acc_table.proofs.Keeping.{at_place, puts_from, arrived_is, keeps, kept-puts, length-puts, forgets, kept-free, arrivals_other, arrivals-puts, arrivals-forgets, others_open, open-puts, open-forgets, has_free_row}
use Rattle.std.proofs.lemmas.List.{length-map}
use Rattle.acc_table.specs.Arrivals.{heads_for}
use Rattle.acc_table.specs.Links.{owners}
use Rattle.acc_table.proofs.Placing.{in_bucket, linked_freed, linked_set, not_none_taken}
use Rattle.acc_table.proofs.table.AccTable.arrive.Goals as goal

pub place_for-place-requires-clause-linked : goal.place_for-place-requires-clause-linked
place_for-place-requires-clause-linked g c = rw c.as_slice.ensures.value c.self.invariant.linked

pub place_for-place-requires-clause-room : goal.place_for-place-requires-clause-room
place_for-place-requires-clause-room g c = rw c.as_slice.ensures.value (has_free_row c.self.inside.branches c.args.pid c.self.inside.rows.items c.args.self.now c.self.view_is c.self.invariant.kept c.requires.room)

pub invariant_of-self : goal.invariant_of-self
invariant_of-self g c =
    let at = at_place c.self.inside.branches c.args.pid _ _ _ _ c.self.invariant.kept c.as_slice.ensures.value c.place_for-place.ensures.place c.index_mut-row.ensures.value in
    let puts = puts_from c.args.pid c.args.branch c.args.value c.index_mut-row.result.now c.put.new.self c.put.ensures in
    record {
      kept = kept-puts _ _ c.args.branch c.args.value _ _ _ _ c.self.invariant.kept at puts;
      linked = linked_set c.self.inside.rows.items c.place_for-place.new.links c.place_for-place.result c.put.new.self (Some c.args.pid) puts.own (rw c.as_slice.ensures.value at c.place_for-place.ensures.linked);
    }

pub returns-then-not-is_whole-clause-complete : goal.returns-then-not-is_whole-clause-complete
returns-then-not-is_whole-clause-complete g c =
    let at = at_place c.self.inside.branches c.args.pid _ _ _ _ c.self.invariant.kept c.as_slice.ensures.value c.place_for-place.ensures.place c.index_mut-row.ensures.value in
    let is = arrived_is _ _ _ _ _ _ _ _ _ c.self.view_is at (puts_from c.args.pid c.args.branch c.args.value c.index_mut-row.result.now c.put.new.self c.put.ensures) in
    rw (sym is) (rw c.if-not-is_whole.true at c.is_whole.ensures)

pub returns-then-not-is_whole-clause-kept : goal.returns-then-not-is_whole-clause-kept
returns-then-not-is_whole-clause-kept g c _ =
    let at = at_place c.self.inside.branches c.args.pid _ _ _ _ c.self.invariant.kept c.as_slice.ensures.value c.place_for-place.ensures.place c.index_mut-row.ensures.value in
    keeps _ _ _ _ _ _ _ _ _ c.self.view_is at (puts_from c.args.pid c.args.branch c.args.value c.index_mut-row.result.now c.put.new.self c.put.ensures)

pub returns-then-not-is_whole-clause-others : goal.returns-then-not-is_whole-clause-others
returns-then-not-is_whole-clause-others g c =
    let at = at_place c.self.inside.branches c.args.pid _ _ _ _ c.self.invariant.kept c.as_slice.ensures.value c.place_for-place.ensures.place c.index_mut-row.ensures.value in
    arrivals_other _ _ _ _ _ _ _ c.self.view_is at (inr (puts_from c.args.pid c.args.branch c.args.value c.index_mut-row.result.now c.put.new.self c.put.ensures).own)

pub give_back-requires : goal.give_back-requires
give_back-requires g c =
    let at = at_place c.self.inside.branches c.args.pid _ _ _ _ c.self.invariant.kept c.as_slice.ensures.value c.place_for-place.ensures.place c.index_mut-row.ensures.value in
    let k = rw c.as_slice.ensures.value at c.place_for-place.ensures.linked in
    let lt : c.place_for-place.result < length (owners c.self.inside.rows.items) = omega (arith, at.within, length-map c.self.inside.rows.items (λ r. r.pid)) in
    record {
      some_heads = omega (arith, k.some_buckets, k.width);
      is_in = in_bucket (heads_for (length c.self.inside.rows.items)) c.args.pid c.place_for-place.result (owners c.self.inside.rows.items) c.place_for-place.new.links k lt;
      some_taken = not_none_taken (heads_for (length c.self.inside.rows.items)) c.args.pid c.place_for-place.result (owners c.self.inside.rows.items) c.place_for-place.new.links k lt;
    }

pub invariant_of-self-2 : goal.invariant_of-self-2
invariant_of-self-2 g c =
    let at = at_place c.self.inside.branches c.args.pid _ _ _ _ c.self.invariant.kept c.as_slice.ensures.value c.place_for-place.ensures.place c.index_mut-row.ensures.value in
    let k = rw c.as_slice.ensures.value at c.place_for-place.ensures.linked in
    let lt : c.place_for-place.result < length (owners c.self.inside.rows.items) = omega (arith, at.within, length-map c.self.inside.rows.items (λ r. r.pid)) in
    record {
      kept = kept-free _ _ _ _ _ _ _ c.self.invariant.kept at (length-puts _ _ _ _ _ _ _ _ at (puts_from c.args.pid c.args.branch c.args.value c.index_mut-row.result.now c.put.new.self c.put.ensures)) c.hand_over.ensures.free;
      linked = linked_set c.self.inside.rows.items c.give_back.new.self c.place_for-place.result c.hand_over.new.self None (ap (λ s. s.pid) c.hand_over.ensures.free)
          (linked_freed (heads_for (length c.self.inside.rows.items)) c.args.pid c.place_for-place.result (owners c.self.inside.rows.items) c.place_for-place.new.links c.give_back.new.self k lt c.give_back.ensures);
    }

pub returns-clause-complete : goal.returns-clause-complete
returns-clause-complete g c =
    let at = at_place c.self.inside.branches c.args.pid _ _ _ _ c.self.invariant.kept c.as_slice.ensures.value c.place_for-place.ensures.place c.index_mut-row.ensures.value in
    let is = arrived_is _ _ _ _ _ _ _ _ _ c.self.view_is at (puts_from c.args.pid c.args.branch c.args.value c.index_mut-row.result.now c.put.new.self c.put.ensures) in
    rw (sym is) (rw c.if-not-is_whole.false at c.is_whole.ensures)

pub returns-clause-values : goal.returns-clause-values
returns-clause-values g c _ =
    let at = at_place c.self.inside.branches c.args.pid _ _ _ _ c.self.invariant.kept c.as_slice.ensures.value c.place_for-place.ensures.place c.index_mut-row.ensures.value in
    c.hand_over.ensures.values ∙ arrived_is _ _ _ _ _ _ _ _ _ c.self.view_is at (puts_from c.args.pid c.args.branch c.args.value c.index_mut-row.result.now c.put.new.self c.put.ensures)

pub returns-clause-forgotten : goal.returns-clause-forgotten
returns-clause-forgotten g c _ =
    let at = at_place c.self.inside.branches c.args.pid _ _ _ _ c.self.invariant.kept c.as_slice.ensures.value c.place_for-place.ensures.place c.index_mut-row.ensures.value in
    forgets _ _ _ _ _ _ _ c.self.view_is at (ap (λ s. s.pid) c.hand_over.ensures.free)

pub returns-clause-others : goal.returns-clause-others
returns-clause-others g c =
    let at = at_place c.self.inside.branches c.args.pid _ _ _ _ c.self.invariant.kept c.as_slice.ensures.value c.place_for-place.ensures.place c.index_mut-row.ensures.value in
    arrivals_other _ _ _ _ _ _ _ c.self.view_is at (inl (ap (λ s. s.pid) c.hand_over.ensures.free))

pub returns-then-not-is_whole-clause-arrived : goal.returns-then-not-is_whole-clause-arrived
returns-then-not-is_whole-clause-arrived g c _ =
    let at = at_place c.self.inside.branches c.args.pid _ _ _ _ c.self.invariant.kept c.as_slice.ensures.value c.place_for-place.ensures.place c.index_mut-row.ensures.value in
    arrivals-puts _ _ _ _ _ _ _ _ _ c.self.view_is at (puts_from c.args.pid c.args.branch c.args.value c.index_mut-row.result.now c.put.new.self c.put.ensures)

pub returns-then-not-is_whole-clause-others_open : goal.returns-then-not-is_whole-clause-others_open
returns-then-not-is_whole-clause-others_open g c =
    let at = at_place c.self.inside.branches c.args.pid _ _ _ _ c.self.invariant.kept c.as_slice.ensures.value c.place_for-place.ensures.place c.index_mut-row.ensures.value in
    others_open _ _ _ _ _ _ _ c.self.view_is at (inr (puts_from c.args.pid c.args.branch c.args.value c.index_mut-row.result.now c.put.new.self c.put.ensures).own)

pub returns-clause-none_left : goal.returns-clause-none_left
returns-clause-none_left g c _ =
    let at = at_place c.self.inside.branches c.args.pid _ _ _ _ c.self.invariant.kept c.as_slice.ensures.value c.place_for-place.ensures.place c.index_mut-row.ensures.value in
    arrivals-forgets _ _ _ _ _ _ _ c.self.view_is at (ap (λ s. s.pid) c.hand_over.ensures.free)

pub returns-clause-others_open : goal.returns-clause-others_open
returns-clause-others_open g c =
    let at = at_place c.self.inside.branches c.args.pid _ _ _ _ c.self.invariant.kept c.as_slice.ensures.value c.place_for-place.ensures.place c.index_mut-row.ensures.value in
    others_open _ _ _ _ _ _ _ c.self.view_is at (inl (ap (λ s. s.pid) c.hand_over.ensures.free))

pub returns-then-not-is_whole-clause-still_open : goal.returns-then-not-is_whole-clause-still_open
returns-then-not-is_whole-clause-still_open g c =
    let at = at_place c.self.inside.branches c.args.pid _ _ _ _ c.self.invariant.kept c.as_slice.ensures.value c.place_for-place.ensures.place c.index_mut-row.ensures.value in
    (λ _. open-puts _ _ _ _ _ _ _ _ at (puts_from c.args.pid c.args.branch c.args.value c.index_mut-row.result.now c.put.new.self c.put.ensures), λ _. refl)

pub returns-clause-still_open : goal.returns-clause-still_open
returns-clause-still_open g c =
    let at = at_place c.self.inside.branches c.args.pid _ _ _ _ c.self.invariant.kept c.as_slice.ensures.value c.place_for-place.ensures.place c.index_mut-row.ensures.value in
    (λ none. absurd (false≢true (sym none)), λ is. absurd (open-forgets _ _ _ _ _ _ at (ap (λ s. s.pid) c.hand_over.ensures.free) is))
