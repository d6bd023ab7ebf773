use Rattle.nf_observe.proofs.Spending.{stays_within, new_within, any_row_within}
use Rattle.nf_observe.proofs.laws.buckets_keep_the_rate.Goals as goal

pub returns-clause-all : goal.returns-clause-all
returns-clause-all c = λ rate burst b packets. stays_within rate burst b packets

pub returns-clause-new : goal.returns-clause-new
returns-clause-new c = λ rate burst time packets. new_within rate burst time packets

pub returns-clause-any_row : goal.returns-clause-any_row
returns-clause-any_row c = λ rate burst time earlier first later. any_row_within rate burst time earlier first later
