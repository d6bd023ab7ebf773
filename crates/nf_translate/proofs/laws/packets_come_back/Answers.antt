use Rattle.nf_translate.proofs.Standing.{comes_back, stays_mapped, stays_set, given_once}
use Rattle.nf_translate.proofs.laws.packets_come_back.Goals as goal

pub returns-clause-back : goal.returns-clause-back
returns-clause-back c = λ n source address port h. comes_back n source address port h

pub returns-clause-settings : goal.returns-clause-settings
returns-clause-settings c = λ fixed n v. stays_set n _

pub returns-clause-kept : goal.returns-clause-kept
returns-clause-kept c = λ fixed n v public inside h. stays_mapped n _ public inside h

pub returns-clause-once : goal.returns-clause-once
returns-clause-once c = λ n a b port ha hb pa pb. given_once n a b port ha hb pa pb
