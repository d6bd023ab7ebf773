use Rattle.std.proofs.Common.{rules, ◌≡◌, ◌∙◌, ◌≤◌, ◌+◌, length, true, ap, sym, subst, arith}
use Rattle.std.specs.Prelude.{IfSome}
use Rattle.packet_fields.specs.declared.field.Field.TheVariants.{Tag}
use Rattle.chain_walk.specs.Counting.{quiet}
use Rattle.graph_law.specs.Branches.{BranchEnd.Live}
use Rattle.packet_version.specs.Versions.{version_parts, HoldsNamed}
use Rattle.graph_run.specs.Carrying.{as_version, as_branch_end}
use Rattle.graph_run.proofs.NotedInTurn.{turn_noted, noted_over, noted_dropped}
use Rattle.graph_run.proofs.TurnsInBranch.{has_turn, turn_inside, turn_is, turn_passed, turns_over, carried_over, turn_dropped}
use Rattle.graph_run.proofs.branch.run_branch.Goals as goal

pub overflow_sub-function : goal.overflow_sub-function
overflow_sub-function g c = (has_turn _ _ _ _ _ _ _ c.loop-position.invariant.turn c.requires.ready c.loop-position-test.true).position

pub offset_bounds-functions-position : goal.offset_bounds-functions-position
offset_bounds-functions-position g c = let inside = turn_inside _ _ _ _ (has_turn _ _ _ _ _ _ _ c.loop-position.invariant.turn c.requires.ready c.loop-position-test.true) in search rules

pub bounds-functions-position : goal.bounds-functions-position
bounds-functions-position g c = turn_inside _ _ _ _ (has_turn _ _ _ _ _ _ _ c.loop-position.invariant.turn c.requires.ready c.loop-position-test.true)

pub step_on-requires-clause-position : goal.step_on-requires-clause-position
step_on-requires-clause-position g c = (has_turn _ _ _ _ _ _ _ c.loop-position.invariant.turn c.requires.ready c.loop-position-test.true).position

pub step_on-requires-clause-holds : goal.step_on-requires-clause-holds
step_on-requires-clause-holds g c =
    let turn = has_turn _ _ _ _ _ _ _ c.loop-position.invariant.turn c.requires.ready c.loop-position-test.true in
    subst (λ f. HoldsNamed (g.F.Function.behaviour.profile f) c.loop-position.version.touch) (sym (turn_is _ _ _ _ c.index-functions-position.result turn)) turn.holds

pub step_on-requires-clause-room : goal.step_on-requires-clause-room
step_on-requires-clause-room g c =
    let turn = has_turn _ _ _ _ _ _ _ c.loop-position.invariant.turn c.requires.ready c.loop-position-test.true in
    subst (λ f. (g.F.Function.behaviour.profile f).adds ≡ true → IfSome (version_parts c.loop-position.version Tag) (λ tags. length tags.bytes + 4 ≤ tags.room)) (sym (turn_is _ _ _ _ c.index-functions-position.result turn)) turn.room

pub returns-in_default : goal.returns-in_default
returns-in_default g c =
    let gone = turn_dropped _ _ _ _ _ _ _ _ _ c.in_ok-arrival.field-0.arrival c.loop-position.invariant.turn c.requires.ready c.loop-position-test.true c.in_ok-arrival.ensures.function c.in_ok-arrival.ensures.arrival c.in_ok-arrival.ensures.written c.in_default.not-Version in
    let noted = turn_noted (quiet g.F.Function.behaviour) g.F.Function.notes _ _ _ _ _ _ _ _ (as_branch_end c.in_ok-arrival.field-0.arrival) _ _ _ _ c.loop-position.invariant.turn c.requires.ready c.loop-position-test.true
    c.in_ok-arrival.ensures.function c.in_ok-arrival.ensures.arrival c.in_ok-arrival.ensures.noted c.loop-position.invariant.noted c.in_ok-note_down.ensures in
    record {
      functions = gone.functions;
      arrival = gone.arrival;
      kept = gone.kept;
      carried = gone.carried;
      noted = noted_dropped (quiet g.F.Function.behaviour) g.F.Function.notes _ _ _ c.args.version _ c.in_ok-arrival.field-0.arrival _ _ c.in_default.not-Version noted;
    }

pub loop-position-preserved : goal.loop-position-preserved
loop-position-preserved g c = record {
  turn = turn_passed _ _ _ _ _ _ _ _ _ _ c.in_ok-arrival.field-0.arrival c.values_stay_well_formed.ensures.step (c.quiet_functions_keep_to_profiles.ensures.keeps _ g.met.F.Function.keeps) c.loop-position.invariant.turn c.requires.ready c.loop-position-test.true
      c.in_ok-arrival.ensures.function c.in_ok-arrival.ensures.arrival c.in_ok-arrival.ensures.written c.in-Version.is;
  noted = turn_noted (quiet g.F.Function.behaviour) g.F.Function.notes _ _ _ _ _ _ _ _ (Live (as_version c.in-Version.after)) _ _ _ _ c.loop-position.invariant.turn c.requires.ready c.loop-position-test.true
      c.in_ok-arrival.ensures.function (ap as_branch_end (sym c.in-Version.is) ∙ c.in_ok-arrival.ensures.arrival) c.in_ok-arrival.ensures.noted c.loop-position.invariant.noted c.in_ok-note_down.ensures;
}

pub returns-clause-functions : goal.returns-clause-functions
returns-clause-functions g c = ap (λ r. r.functions) (turns_over _ _ _ _ _ _ _ c.loop-position.invariant.turn (omega arith))

pub returns-clause-arrival : goal.returns-clause-arrival
returns-clause-arrival g c = ap (λ r. r.arrival) (turns_over _ _ _ _ _ _ _ c.loop-position.invariant.turn (omega arith))

pub returns-clause-carried : goal.returns-clause-carried
returns-clause-carried g c = carried_over _ _ _ _ _ _ _ c.loop-position.invariant.turn (omega arith)

pub returns-clause-kept : goal.returns-clause-kept
returns-clause-kept g c = c.loop-position.invariant.turn.kept

pub returns-clause-noted : goal.returns-clause-noted
returns-clause-noted g c = noted_over _ _ _ _ _ c.args.version c.loop-position.version _ _ _ (omega arith) c.loop-position.invariant.noted
