use Rattle.chain_walk.proofs.PacketsInRow.{fates_in_a_row, functions_in_a_row, count_of_fates, ends_within}
use Rattle.chain_walk.proofs.laws.packets_walk_in_a_row.Goals as goal

pub returns-clause-fates : goal.returns-clause-fates
returns-clause-fates g c = λ b functions first later. fates_in_a_row b functions first later

pub returns-clause-functions : goal.returns-clause-functions
returns-clause-functions g c = λ b functions first later. functions_in_a_row b functions first later

pub returns-clause-count : goal.returns-clause-count
returns-clause-count g c = λ b functions packets. count_of_fates b functions packets

pub returns-clause-within : goal.returns-clause-within
returns-clause-within g c = λ b time functions frame. ends_within b time functions frame
