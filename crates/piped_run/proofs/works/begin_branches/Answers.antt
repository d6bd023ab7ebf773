use Rattle.std.proofs.Common.{◌≡◌, ◌∙◌, ◌+◌, ◌++◌, ℕ, List, [], drop, get_or, length, ap, sym, subst, arith}
use Rattle.chain_walk.specs.Counting.{quiet}
use Rattle.graph_compile.specs.Facts.{positions_of}
use Rattle.graph_compile.specs.declared.graph.Branch.{Branch}
use Rattle.stream_law.specs.Owned.{any_counts}
use Rattle.piped_run.specs.Places.{AreThere}
use Rattle.piped_run.proofs.Taking.{Gave, stage_none, branch_there, stage_more, stage_all}
use Rattle.piped_run.proofs.works.begin_branches.Goals as goal

pub loop-branch-init : goal.loop-branch-init
loop-branch-init g c = stage_none (quiet g.F.Function.behaviour) (length c.args.numbers.now) c.args.places.now c.args.branches.now c.in_ok-works.works.items c.in_ok-works.ensures.items

pub split_branch-requires : goal.split_branch-requires
split_branch-requires g c =
    let at : c.as_slice.result.now ≡ (get_or c.args.branches.now c.loop-branch.branch-index c.branch-item.result).positions = c.as_slice.ensures ∙ ap (λ (b : Branch). b.positions) c.branch-item.is in
    let later : List ℕ = positions_of (drop (c.loop-branch.branch-index + 1) c.args.branches.now) ++ c.requires.there.1 in
    record {
      there = (
        c.requires.there.0,
        later,
        subst (λ (l : List ℕ). AreThere c.requires.there.0 c.loop-branch.places (l ++ later)) (sym at)
            (branch_there (quiet g.F.Function.behaviour) (length c.args.numbers.now) c.args.places.now c.loop-branch.places c.args.branches.now c.loop-branch.works.items c.loop-branch.branch-index c.branch-item.result c.requires.there.0 c.requires.there.1 c.loop-branch.invariant c.loop-branch-test.true c.requires.there.2),
      );
    }

pub loop-branch-preserved : goal.loop-branch-preserved
loop-branch-preserved g c =
    let at : c.as_slice.result.now ≡ (get_or c.args.branches.now c.loop-branch.branch-index c.branch-item.result).positions = c.as_slice.ensures ∙ ap (λ (b : Branch). b.positions) c.branch-item.is in
    stage_more (quiet g.F.Function.behaviour) (length c.args.numbers.now) c.args.places.now c.loop-branch.places c.split_branch.new.places c.args.branches.now c.loop-branch.works.items c.push.new.self.items c.in_ok-work.work c.in_ok-functions.functions.items c.loop-branch.branch-index c.branch-item.result c.loop-branch.invariant c.loop-branch-test.true
    (subst (λ (l : List ℕ). Gave l c.loop-branch.places c.split_branch.new.places c.in_ok-functions.functions.items) at (record { own = c.in_ok-functions.ensures.own; left = c.in_ok-functions.ensures.left }))
    (c.in_ok-work.ensures ∙ (λ k. record {
      functions = c.in_ok-functions.functions.items;
      positions = (c.branch-item.is k).positions;
      packets = length c.args.numbers.now;
      counts = any_counts (quiet g.F.Function.behaviour) c.in_ok-functions.functions.items;
      seen = 0;
      listed = [];
    }))
    c.in_ok-push.ensures.items

pub returns-clause-own : goal.returns-clause-own
returns-clause-own g c = λ functions later there. (stage_all (quiet g.F.Function.behaviour) (length c.args.numbers.now) c.args.places.now c.loop-branch.places c.args.branches.now c.loop-branch.works.items c.loop-branch.branch-index functions later c.loop-branch.invariant (omega arith) there).0

pub returns-clause-left : goal.returns-clause-left
returns-clause-left g c = λ functions later there. (stage_all (quiet g.F.Function.behaviour) (length c.args.numbers.now) c.args.places.now c.loop-branch.places c.args.branches.now c.loop-branch.works.items c.loop-branch.branch-index functions later c.loop-branch.invariant (omega arith) there).1
