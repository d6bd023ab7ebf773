use Rattle.std.proofs.Common.{◌∙◌, ap, arith, map, sym, subst, All, eqb-true}
use Rattle.node_run.specs.Runs.{HasLed, fates_behind, is_found}
use Rattle.node_run.specs.Stages.{plain_stage}
use Rattle.node_run.proofs.Wiring.{none_left}
use Rattle.node_run.proofs.Running.{none_through, none_ends, none_copies, ok_so, on_ok_so, to_collect}
use Rattle.node_run.proofs.run.run_nodes.Goals as goal

pub collect-requires : goal.collect-requires
collect-requires g c = (g.D.LinkDue.due, to_collect g.S.Supply.comes _ _ g.D.LinkDue.due c.requires.many c.requires.come)

pub returns-then-is_empty-clause-functions : goal.returns-then-is_empty-clause-functions
returns-then-is_empty-clause-functions g c =
    c.new.ensures.items ∙ sym (none_ends g.F.BranchWork.kit _ g.D.LinkDue.due (ap (map plain_stage) (none_left _ _ (eqb-true _ _ (sym c.is_empty.ensures ∙ c.if-is_empty.true)) (sym c.args.stages.ok.0))))

pub returns-then-is_empty-clause-fates : goal.returns-then-is_empty-clause-fates
returns-then-is_empty-clause-fates g c =
    c.in_ok-fates.ensures.fates g.D.LinkDue.due (to_collect g.S.Supply.comes _ _ g.D.LinkDue.due c.requires.many c.requires.come)
    ∙ ap fates_behind (sym (none_through g.F.BranchWork.kit _ g.D.LinkDue.due (ap (map plain_stage) (none_left _ _ (eqb-true _ _ (sym c.is_empty.ensures ∙ c.if-is_empty.true)) (sym c.args.stages.ok.0)))))

pub returns-then-is_empty-clause-found : goal.returns-then-is_empty-clause-found
returns-then-is_empty-clause-found g c =
    subst (All is_found) (sym (none_through g.F.BranchWork.kit _ g.D.LinkDue.due (ap (map plain_stage) (none_left _ _ (eqb-true _ _ (sym c.is_empty.ensures ∙ c.if-is_empty.true)) (sym c.args.stages.ok.0)))))
    (c.in_ok-fates.ensures.found g.D.LinkDue.due (to_collect g.S.Supply.comes _ _ g.D.LinkDue.due c.requires.many c.requires.come))

pub returns-then-is_empty-clause-counted : goal.returns-then-is_empty-clause-counted
returns-then-is_empty-clause-counted g c f =
    let none = none_copies g.F.BranchWork.kit _ g.D.LinkDue.due f (ap (map plain_stage) (none_left _ _ (eqb-true _ _ (sym c.is_empty.ensures ∙ c.if-is_empty.true)) (sym c.args.stages.ok.0))) in
    omega (arith, none, c.new-then-is_empty.ensures f)

pub returns-clause-functions : goal.returns-clause-functions
returns-clause-functions g c = ok_so (λ ran. HasLed g.F.BranchWork.kit (map plain_stage c.args.stages.items) g.D.LinkDue.due ran.0.items ran.1.items ran.2) _ c.run_stages.result c.run_stages.ensures (λ ran r. r.gives)

pub returns-clause-fates : goal.returns-clause-fates
returns-clause-fates g c = ok_so (λ ran. HasLed g.F.BranchWork.kit (map plain_stage c.args.stages.items) g.D.LinkDue.due ran.0.items ran.1.items ran.2) _ c.run_stages.result c.run_stages.ensures (λ ran r. r.told)

pub returns-clause-found : goal.returns-clause-found
returns-clause-found g c = on_ok_so (λ ran. HasLed g.F.BranchWork.kit (map plain_stage c.args.stages.items) g.D.LinkDue.due ran.0.items ran.1.items ran.2) _ c.run_stages.result c.run_stages.ensures (λ ran r. r.found)

pub returns-clause-counted : goal.returns-clause-counted
returns-clause-counted g c = ok_so (λ ran. HasLed g.F.BranchWork.kit (map plain_stage c.args.stages.items) g.D.LinkDue.due ran.0.items ran.1.items ran.2) _ c.run_stages.result c.run_stages.ensures (λ ran r f. r.counted f)
