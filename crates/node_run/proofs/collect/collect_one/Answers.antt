use Rattle.node_run.proofs.Running.{collect_more, collected}
use Rattle.node_run.proofs.collect.collect_one.Goals as goal

pub next-requires : goal.next-requires
next-requires g c = record { more = collect_more g.S.Supply.comes _ _ _ _ _ c.requires.2 }

pub returns : goal.returns
returns g c n all h = collected g.S.Supply.comes n _ _ _ _ c.next.result c.in_ok-fate.fate _ _ all h c.next.ensures.next c.next.ensures.left c.in_ok-fate.ensures.fate c.in_ok-fate.ensures.found c.push_reserved.ensures.items c.push_reserved.ensures.capacity
