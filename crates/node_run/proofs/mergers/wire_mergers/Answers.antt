use Rattle.std.proofs.Common.{◌≡◌, ◌∙◌, List, ◌∷◌, ap, refl, sym}
use Rattle.node_run.proofs.Wiring.{merger_next}
use Rattle.node_run.proofs.Replicating.{few_numbers}
use Rattle.node_run.proofs.Edging.{mergers_done, mergers_first, mergers_on}
use Rattle.node_run.proofs.mergers.wire_mergers.Goals as goal

-- the first end is a merger's
same_first : {A : Type 0} {ends rest : List A} {first own : A} → ends ≡ first ∷ rest → own ≡ first → ends ≡ own ∷ rest
same_first {A} {ends} {rest} e is = e ∙ ap (λ y. y ∷ rest) (sym is)

pub loop-merger-init : goal.loop-merger-init
loop-merger-init g c = (mergers_first _ _ _ _ _ c.requires.fits, λ fs copies old. old, record { so_far = refl })

pub take_first-base-requires : goal.take_first-base-requires
take_first-base-requires g c = (merger_next _ _ _ _ _ _ c.loop-merger-test.true c.loop-merger.invariant.0).base_some

pub take_first-outlet-requires : goal.take_first-outlet-requires
take_first-outlet-requires g c = (merger_next _ _ _ _ _ _ c.loop-merger-test.true c.loop-merger.invariant.0).outlet_some

pub take_first-from_branches-requires : goal.take_first-from_branches-requires
take_first-from_branches-requires g c = (merger_next _ _ _ _ _ _ c.loop-merger-test.true c.loop-merger.invariant.0).inlets_some

pub push_merger-requires : goal.push_merger-requires
push_merger-requires g c = (
  c.new-to.ensures.ample,
  c.new.ensures.items,
  (merger_next _ _ _ _ _ _ c.loop-merger-test.true c.loop-merger.invariant.0).due _ _ _ _ _ _ _ c.take_first-base.ensures (same_first c.take_first-outlet.ensures c.new-to.ensures.ends) c.take_first-from_branches.ensures c.share_count.ensures.share,
  few_numbers c.args.mergers c.loop-merger.merger c.share_count.result c.args.count c.requires.few_mergers c.loop-merger-test.true c.share_count.ensures.few c.requires.few,
)

pub loop-merger-preserved : goal.loop-merger-preserved
loop-merger-preserved g c =
    let i = c.loop-merger.invariant in (
      (merger_next _ _ _ _ _ _ c.loop-merger-test.true i.0).on _ _ _ _ _ _ c.take_first-base.ensures c.take_first-outlet.ensures c.take_first-from_branches.ensures,
      λ fs copies old. c.in_ok-push_merger.ensures.nodes fs copies (i.1 fs copies old),
      mergers_on _ c.args.mergers c.loop-merger.merger c.args.count c.share_count.result _ _ _ _ _ _ _ _ _ _ _ c.take_first-base.ensures c.take_first-from_branches.ensures (same_first c.take_first-outlet.ensures c.new-to.ensures.ends) c.share_count.ensures.share c.in_ok-push_merger.ensures.joined i.2,
    )

pub returns-clause-joined : goal.returns-clause-joined
returns-clause-joined g c = mergers_done _ _ _ _ _ _ _ _ _ c.loop-merger-test.false c.loop-merger.invariant.0 c.loop-merger.invariant.2

pub returns-clause-nodes : goal.returns-clause-nodes
returns-clause-nodes g c = c.loop-merger.invariant.1
