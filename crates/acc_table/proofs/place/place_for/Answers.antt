use Rattle.std.proofs.Common.{length, refl}
use Rattle.acc_table.specs.Arrivals.{heads_for}
use Rattle.acc_table.proofs.Placing.{few_taken, free_in_nexts, linked_as_is, linked_taking, place_free}
use Rattle.acc_table.proofs.place.place_for.Goals as goal

pub take_first-requires-clause-some_free : goal.take_first-requires-clause-some_free
take_first-requires-clause-some_free g c = free_in_nexts (heads_for (length c.args.rows.now)) c.args.rows.now c.args.links.now c.requires.linked (c.requires.room (c.in-None.ensures.absent refl))

pub take_first-requires-clause-few_taken : goal.take_first-requires-clause-few_taken
take_first-requires-clause-few_taken g c = few_taken (heads_for (length c.args.rows.now)) c.args.rows.now c.args.links.now c.requires.linked (c.requires.room (c.in-None.ensures.absent refl))

pub returns-in-Some-clause-linked : goal.returns-in-Some-clause-linked
returns-in-Some-clause-linked g c = linked_as_is (heads_for (length c.args.rows.now)) c.args.pid c.args.rows.now c.args.links.now c.in-Some.place c.requires.linked c.in-Some.ensures.within c.in-Some.ensures.found

pub returns-in-None-clause-place : goal.returns-in-None-clause-place
returns-in-None-clause-place g c =
    let absent = c.in-None.ensures.absent refl in
    place_free (heads_for (length c.args.rows.now)) c.args.pid c.args.rows.now c.args.links.now c.take_first.result c.requires.linked (c.requires.room absent) c.take_first.ensures.place absent

pub returns-in-None-clause-linked : goal.returns-in-None-clause-linked
returns-in-None-clause-linked g c =
    linked_taking (heads_for (length c.args.rows.now)) c.args.pid c.args.rows.now c.args.links.now c.take_first.new.self c.take_first.result c.requires.linked (c.requires.room (c.in-None.ensures.absent refl)) c.take_first.ensures.place c.take_first.ensures.taken
