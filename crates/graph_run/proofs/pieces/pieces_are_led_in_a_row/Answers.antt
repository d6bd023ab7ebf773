use Rattle.graph_run.proofs.Bursting.{packets_append}
use Rattle.graph_run.proofs.LedInPieces.{led_none, led_behind, refused_behind}
use Rattle.graph_run.proofs.pieces.pieces_are_led_in_a_row.Goals as goal

pub returns-clause-none : goal.returns-clause-none
returns-clause-none g c = λ b run tally. led_none b run tally

pub returns-clause-leads : goal.returns-clause-leads
returns-clause-leads g c = λ b run between after first later old new newer ended more keeps x y.
    led_behind b run between after first later old new newer ended more c.packets_walk_in_a_row.ensures.fates c.packets_walk_in_a_row.ensures.functions c.packets_walk_in_a_row.ensures.count keeps c.packets_walk_in_a_row.ensures.within x y

pub returns-clause-refused : goal.returns-clause-refused
returns-clause-refused g c = λ b run between first later last old new newer ended x within.
    refused_behind b run between first later last old new newer ended c.packets_walk_in_a_row.ensures.fates c.packets_walk_in_a_row.ensures.count x within

pub returns-clause-taken : goal.returns-clause-taken
returns-clause-taken g c = λ unit chain first later. packets_append unit chain first later
