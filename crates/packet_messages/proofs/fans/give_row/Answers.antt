use Rattle.std.proofs.Common.{[], sym, ◌∙◌, arith, ap, inl}
use Rattle.packet_messages.specs.Messages.{Owing, front, turned}
use Rattle.packet_messages.proofs.Sweeps.{swept_none, due_whole, row_turn, next_holds, swept_more, row_over, none_left, plains, next_of}
use Rattle.packet_messages.proofs.fans.give_row.Goals as goal

pub loop-message-init : goal.loop-message-init
loop-message-init g c =
    (tt, tt, sym (swept_none turned _), ap (λ y. plains y) c.into_iter-message-iterator.ensures.into_iter_gives.0 ∙ c.requires.row ∙ sym (due_whole next_of c.args.list.now))

pub give_into-requires-clause-inside : goal.give_into-requires-clause-inside
give_into-requires-clause-inside g c =
    let i = c.loop-message.invariant in
    (row_turn turned [] next_of c.loop-message.index _ _ _ _ _ i.2 i.3 c.in-Some.ensures.steps.0).inside

pub give_into-requires-clause-due : goal.give_into-requires-clause-due
give_into-requires-clause-due g c =
    let i = c.loop-message.invariant in
    next_holds turned [] (λ fan. Owing (front fan)) c.loop-message.index _ _ c.requires.due i.2 (row_turn turned [] next_of c.loop-message.index _ _ _ _ _ i.2 i.3 c.in-Some.ensures.steps.0).inside

pub give_into-requires-clause-fits : goal.give_into-requires-clause-fits
give_into-requires-clause-fits g c =
    let i = c.loop-message.invariant in
    inl (row_turn turned [] next_of c.loop-message.index _ _ _ _ _ i.2 i.3 c.in-Some.ensures.steps.0).next

pub loop-message-preserved : goal.loop-message-preserved
loop-message-preserved g c =
    let i = c.loop-message.invariant in
    let t = row_turn turned [] next_of c.loop-message.index c.args.list.now _ _ _ _ i.2 i.3 c.in-Some.ensures.steps.0 in
    (tt, tt, swept_more turned [] c.loop-message.index _ _ _ i.2 c.give_into.ensures t.inside, t.after)

pub returns : goal.returns
returns g c =
    let i = c.loop-message.invariant in
    row_over turned next_of c.loop-message.index _ _ _ i.2 i.3 (none_left _ _ c.in-None.ensures.steps.0 (sym c.loop-message.message-iterator.rest.ok.0))

pub prove-unreachable-requires : goal.prove-unreachable-requires
prove-unreachable-requires g c =
    let i = c.loop-message.invariant in
    let t = row_turn turned [] next_of c.loop-message.index _ _ _ _ _ i.2 i.3 c.in-Some.ensures.steps.0 in
    omega (arith, t.inside)
