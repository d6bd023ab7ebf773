use Rattle.std.proofs.Common.{arith}
use Rattle.node_run.specs.Runs.{HasRun, flat}
use Rattle.node_run.proofs.Running.{can_run, ok_so, ran_so}
use Rattle.node_run.proofs.run.run_at_once.Goals as goal

pub run_scoped-requires-clause-run : goal.run_scoped-requires-clause-run
run_scoped-requires-clause-run g c κs within = (
  c.requires.run.0,
  c.requires.run.1,
  can_run g.F.BranchWork.kit g.F.BranchWork.may g.S.Supply.comes c.args.count _ _ c.requires.run.0 _ _ _ _ _ c.requires.run.2 c.in_ok-crews.ensures.nodes c.in_ok-started.ensures.items (omega (arith, c.in_ok-started.ensures.capacity, c.len.ensures, c.in_ok-crews.crews.ok.0)),
)

pub returns : goal.returns
returns g c copies due h =
    ok_so (λ ran. HasRun g.F.BranchWork.kit copies (flat c.in_ok-crews.crews.items) due ran.0.items ran.1.items ran.2) _ c.run_scoped.result
    (c.run_scoped.ensures copies due (can_run g.F.BranchWork.kit g.F.BranchWork.may g.S.Supply.comes c.args.count _ _ copies _ _ _ _ _ h c.in_ok-crews.ensures.nodes c.in_ok-started.ensures.items (omega (arith, c.in_ok-started.ensures.capacity, c.len.ensures, c.in_ok-crews.crews.ok.0))))
    (λ ran r. ran_so g.F.BranchWork.kit copies _ _ due ran.0.items ran.1.items ran.2 c.in_ok-crews.ensures.nodes r)
