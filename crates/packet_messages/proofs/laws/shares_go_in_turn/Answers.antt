use Rattle.packet_messages.proofs.Turning.{first_share, turned_shares, shares_count, share_long, one_share}
use Rattle.packet_messages.proofs.laws.shares_go_in_turn.Goals as goal

pub returns-clause-front : goal.returns-clause-front
returns-clause-front g c = first_share

pub returns-clause-turned : goal.returns-clause-turned
returns-clause-turned g c = turned_shares

pub returns-clause-count : goal.returns-clause-count
returns-clause-count g c m xs = shares_count m 0 m xs

pub returns-clause-long : goal.returns-clause-long
returns-clause-long g c = share_long

pub returns-clause-one : goal.returns-clause-one
returns-clause-one g c = one_share
