use Rattle.std.proofs.Common.{rules, arith}
use Rattle.chain_walk.specs.Counting.{quiet}
use Rattle.packet_messages.specs.Messages.{PlainMessage.Live}
use Rattle.piped_run.proofs.Noting.{noted_begin, noted_passed, noted_dropped, noted_over, noted_some, all_are_some}
use Rattle.piped_run.proofs.Staying.{stay_first, stay_more, stay_moved}
use Rattle.piped_run.proofs.Turns.{own_begin, own_inside, has_own_turn, own_passed, own_dropped, own_over, profiles_over}
use Rattle.piped_run.proofs.turn.turn_on.Goals as goal

pub loop-index-init : goal.loop-index-init
loop-index-init g c = record {
  own = own_begin (quiet g.F.Function.behaviour) c.args.positions.now c.args.functions.now c.args.version c.requires.ready;
  noted = noted_begin (quiet g.F.Function.behaviour) g.F.Function.notes c.args.item c.args.positions.now c.args.functions.now c.args.version c.args.notes.now.items;
  stay = stay_first (quiet g.F.Function.behaviour) c.args.functions.now;
}

pub offset_bounds-functions-index : goal.offset_bounds-functions-index
offset_bounds-functions-index g c = let inside = own_inside _ _ _ _ _ _ _ c.loop-index.invariant.own c.loop-index-test.true in search rules

pub bounds-functions-index : goal.bounds-functions-index
bounds-functions-index g c = own_inside _ _ _ _ _ _ _ c.loop-index.invariant.own c.loop-index-test.true

pub step_on-requires-clause-position : goal.step_on-requires-clause-position
step_on-requires-clause-position g c = (has_own_turn _ _ _ _ _ _ _ c.index-functions-index.result c.versions_go_on.ensures.room c.loop-index.invariant.own c.loop-index-test.true).position

pub step_on-requires-clause-holds : goal.step_on-requires-clause-holds
step_on-requires-clause-holds g c = (has_own_turn _ _ _ _ _ _ _ c.index-functions-index.result c.versions_go_on.ensures.room c.loop-index.invariant.own c.loop-index-test.true).holds

pub step_on-requires-clause-room : goal.step_on-requires-clause-room
step_on-requires-clause-room g c = (has_own_turn _ _ _ _ _ _ _ c.index-functions-index.result c.versions_go_on.ensures.room c.loop-index.invariant.own c.loop-index-test.true).room

pub returns-in_err-list_note-clause-each : goal.returns-in_err-list_note-clause-each
returns-in_err-list_note-clause-each g c = stay_moved (quiet g.F.Function.behaviour) _ _ c.loop-index.version _ _ _ c.loop-index.invariant.stay (own_inside _ _ _ _ _ _ _ c.loop-index.invariant.own c.loop-index-test.true) c.in_ok-arrival.ensures.function

pub returns-in_err-list_note-clause-profiles : goal.returns-in_err-list_note-clause-profiles
returns-in_err-list_note-clause-profiles g c = profiles_over (quiet g.F.Function.behaviour) _ _ _ _ c.loop-index.version c.loop-index.index _ c.index-functions-index.result (c.quiet_functions_keep_to_profiles.ensures.keeps g.F.Function.behaviour g.met.F.Function.keeps) c.loop-index.invariant.own c.in_ok-arrival.ensures.function

pub returns-in_err-arrival-clause-listed : goal.returns-in_err-arrival-clause-listed
returns-in_err-arrival-clause-listed g c = noted_some (quiet g.F.Function.behaviour) g.F.Function.notes _ _ _ _ _ _ _ _ _ c.loop-index.invariant.noted

pub returns-in_err-list_note-clause-listed : goal.returns-in_err-list_note-clause-listed
returns-in_err-list_note-clause-listed g c = let some = noted_some (quiet g.F.Function.behaviour) g.F.Function.notes _ _ _ _ _ _ _ _ _ c.loop-index.invariant.noted in search rules

pub returns-in_default : goal.returns-in_default
returns-in_default g c =
    let gone = own_dropped _ _ _ _ _ _ _ _ _ c.in_ok-arrival.field-0.arrival (c.quiet_functions_keep_to_profiles.ensures.keeps g.F.Function.behaviour g.met.F.Function.keeps) c.loop-index.invariant.own c.loop-index-test.true c.in_ok-arrival.ensures.function c.in_ok-arrival.ensures.arrival c.in_ok-arrival.ensures.written c.in_default.not-Version in
    let all = noted_dropped (quiet g.F.Function.behaviour) g.F.Function.notes c.args.item _ _ _ _ c.loop-index.version _ _ _ c.loop-index.index c.index-functions-index.result c.index-functions-index.result c.in_ok-arrival.field-0.note c.in_ok-arrival.field-0.arrival c.loop-index.invariant.noted c.loop-index-test.true (own_inside _ _ _ _ _ _ _ c.loop-index.invariant.own c.loop-index-test.true)
    c.in_ok-arrival.ensures.noted c.in_ok-arrival.ensures.arrival c.in_ok-arrival.ensures.written c.in_ok-list_note.ensures.adds c.in_default.not-Version in
    record {
      functions = gone.functions;
      arrival = gone.arrival;
      noted = all;
      each = stay_moved (quiet g.F.Function.behaviour) _ _ c.loop-index.version _ _ _ c.loop-index.invariant.stay (own_inside _ _ _ _ _ _ _ c.loop-index.invariant.own c.loop-index-test.true) c.in_ok-arrival.ensures.function;
      profiles = gone.profiles;
      listed = all_are_some _ _ _ all;
    }

pub loop-index-preserved : goal.loop-index-preserved
loop-index-preserved g c = record {
  own = own_passed _ _ _ _ _ _ _ _ _ _ c.in_ok-arrival.field-0.arrival c.versions_go_on.ensures.written (c.quiet_functions_keep_to_profiles.ensures.keeps g.F.Function.behaviour g.met.F.Function.keeps) c.loop-index.invariant.own c.loop-index-test.true
      c.in_ok-arrival.ensures.function c.in_ok-arrival.ensures.arrival c.in_ok-arrival.ensures.written c.in-Version.is;
  noted = noted_passed (quiet g.F.Function.behaviour) g.F.Function.notes c.args.item _ _ _ _ c.loop-index.version _ _ _ _ c.loop-index.index _ c.index-functions-index.result c.in_ok-arrival.field-0.note c.in_ok-arrival.field-0.arrival c.loop-index.invariant.noted c.loop-index-test.true (own_inside _ _ _ _ _ _ _ c.loop-index.invariant.own c.loop-index-test.true)
      c.in_ok-arrival.ensures.noted c.in_ok-arrival.ensures.arrival c.in_ok-arrival.ensures.written c.in_ok-list_note.ensures.adds c.in-Version.is;
  stay = stay_more (quiet g.F.Function.behaviour) _ _ c.loop-index.version _ _ _ c.loop-index.invariant.stay (own_inside _ _ _ _ _ _ _ c.loop-index.invariant.own c.loop-index-test.true) c.in_ok-arrival.ensures.function;
}

pub returns-clause-functions : goal.returns-clause-functions
returns-clause-functions g c = (own_over _ _ _ _ _ _ _ c.loop-index.invariant.own (omega arith)).functions

pub returns-clause-arrival : goal.returns-clause-arrival
returns-clause-arrival g c = (own_over _ _ _ _ _ _ _ c.loop-index.invariant.own (omega arith)).arrival

pub returns-clause-noted : goal.returns-clause-noted
returns-clause-noted g c = noted_over (quiet g.F.Function.behaviour) g.F.Function.notes _ _ _ _ _ _ _ _ _ c.loop-index.invariant.noted (omega arith)

pub returns-clause-profiles : goal.returns-clause-profiles
returns-clause-profiles g c = (own_over _ _ _ _ _ _ _ c.loop-index.invariant.own (omega arith)).profiles

pub returns-clause-listed : goal.returns-clause-listed
returns-clause-listed g c = noted_some (quiet g.F.Function.behaviour) g.F.Function.notes _ _ _ _ _ _ _ _ _ c.loop-index.invariant.noted
