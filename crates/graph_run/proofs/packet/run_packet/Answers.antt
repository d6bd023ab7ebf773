use Rattle.std.proofs.Common.{rules}
use Rattle.graph_run.proofs.Settled.{walks_are, fate_so, counted_so, refused_so, unsettled_so, settled_so}
use Rattle.graph_run.proofs.packet.run_packet.Goals as goal

pub returns-in_err-fate-clause-refused : goal.returns-in_err-fate-clause-refused
returns-in_err-fate-clause-refused g c =
    let w = walks_are g.F.Function.behaviour g.F.Function.notes c.args.graph.now c.args.time c.args.frame.now c.args.functions.now c.graph_is_chain.ensures c.quiet_functions_keep_to_profiles.ensures.keeps c.quiet_functions_keep_to_profiles.ensures.still
    c.frames_walk_as_fields.ensures c.notes_are_settled_behind.ensures.fields c.notes_are_settled_by_position.ensures g.met.F.Function.keeps g.met.F.Function.counts c.requires.running in
    let within = refused_so g.F.Function.behaviour g.F.Function.notes c.args.graph.now c.args.time c.args.frame.now c.args.functions.now c.args.tally.now c.pass_stages.new.tally w c.in_err-fate.ensures.refused in search rules

pub returns-in_err-settle_all-clause-refused : goal.returns-in_err-settle_all-clause-refused
returns-in_err-settle_all-clause-refused g c =
    let w = walks_are g.F.Function.behaviour g.F.Function.notes c.args.graph.now c.args.time c.args.frame.now c.args.functions.now c.graph_is_chain.ensures c.quiet_functions_keep_to_profiles.ensures.keeps c.quiet_functions_keep_to_profiles.ensures.still
    c.frames_walk_as_fields.ensures c.notes_are_settled_behind.ensures.fields c.notes_are_settled_by_position.ensures g.met.F.Function.keeps g.met.F.Function.counts c.requires.running in
    let within = unsettled_so g.F.Function.behaviour g.F.Function.notes c.args.graph.now c.args.time c.args.frame.now c.args.functions.now c.args.tally.now c.pass_stages.new.tally w c.in_ok-fate.ensures.counted in search rules

pub returns-clause-functions : goal.returns-clause-functions
returns-clause-functions g c =
    let w = walks_are g.F.Function.behaviour g.F.Function.notes c.args.graph.now c.args.time c.args.frame.now c.args.functions.now c.graph_is_chain.ensures c.quiet_functions_keep_to_profiles.ensures.keeps c.quiet_functions_keep_to_profiles.ensures.still
    c.frames_walk_as_fields.ensures c.notes_are_settled_behind.ensures.fields c.notes_are_settled_by_position.ensures g.met.F.Function.keeps g.met.F.Function.counts c.requires.running in
    settled_so g.F.Function.behaviour g.F.Function.notes c.args.graph.now c.args.time c.args.frame.now c.args.functions.now c.pass_stages.new.functions c.settle_all.new.functions c.in_ok-fate.fate c.args.notes.now.items c.pass_stages.new.notes.items w
    c.in_ok-fate.ensures.functions c.in_ok-fate.ensures.fate c.requires.unnoted c.in_ok-fate.ensures.noted c.in_ok-settle_all.ensures.functions

pub returns-clause-fate : goal.returns-clause-fate
returns-clause-fate g c =
    let w = walks_are g.F.Function.behaviour g.F.Function.notes c.args.graph.now c.args.time c.args.frame.now c.args.functions.now c.graph_is_chain.ensures c.quiet_functions_keep_to_profiles.ensures.keeps c.quiet_functions_keep_to_profiles.ensures.still
    c.frames_walk_as_fields.ensures c.notes_are_settled_behind.ensures.fields c.notes_are_settled_by_position.ensures g.met.F.Function.keeps g.met.F.Function.counts c.requires.running in
    fate_so g.F.Function.behaviour g.F.Function.notes c.args.graph.now c.args.time c.args.frame.now c.args.functions.now c.in_ok-fate.fate w c.in_ok-fate.ensures.fate

pub returns-clause-counted : goal.returns-clause-counted
returns-clause-counted g c =
    let w = walks_are g.F.Function.behaviour g.F.Function.notes c.args.graph.now c.args.time c.args.frame.now c.args.functions.now c.graph_is_chain.ensures c.quiet_functions_keep_to_profiles.ensures.keeps c.quiet_functions_keep_to_profiles.ensures.still
    c.frames_walk_as_fields.ensures c.notes_are_settled_behind.ensures.fields c.notes_are_settled_by_position.ensures g.met.F.Function.keeps g.met.F.Function.counts c.requires.running in
    counted_so g.F.Function.behaviour g.F.Function.notes c.args.graph.now c.args.time c.args.frame.now c.args.functions.now c.args.tally.now c.pass_stages.new.tally w c.in_ok-fate.ensures.counted
