use Rattle.std.proofs.Common.{◌∙◌, arith}
use Rattle.stage_nodes.proofs.Merging.{merger_same, merger_some}
use Rattle.stage_nodes.proofs.Places.{few_turned, place_fits, places_turned}
use Rattle.stage_nodes.proofs.merger.Merger.turn.Goals as goal

pub merge_next-requires-clause-at : goal.merge_next-requires-clause-at
merge_next-requires-clause-at g c = (_, merger_some _ _ _ _ _ c.if-self-eq0.false c.requires.ready.0)

pub overflow_add-self : goal.overflow_add-self
overflow_add-self g c =
    let e = c.merge_next.ensures in
    let h = place_fits _ _ _ (few_turned _ _ _ _ _ _ c.if-self-eq0.false e.first e.step e.count c.requires.ready.2) in
    omega (arith, h)

pub returns-clause-owes : goal.returns-clause-owes
returns-clause-owes g c =
    let e = c.merge_next.ensures in (
      merger_same _ _ _ _ _ _ e.count (e.at _ (merger_some _ _ _ _ _ c.if-self-eq0.false c.requires.ready.0)),
      e.empty,
      few_turned _ _ _ _ _ _ c.if-self-eq0.false e.first e.step e.count c.requires.ready.2,
    )

pub returns-clause-packets : goal.returns-clause-packets
returns-clause-packets g c some =
    let e = c.merge_next.ensures in
    places_turned _ _ _ _ _ _ c.if-self-eq0.false e.first e.step e.count
