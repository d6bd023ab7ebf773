use Rattle.std.proofs.Common.{rules, ◌≡◌, true, false}
use Rattle.graph_run.specs.Packets.{is_of}
use Rattle.graph_run.proofs.Onward.{all_made}
use Rattle.graph_run.proofs.Single.{skipped, walks, walks_up_to}
use Rattle.graph_run.proofs.plain.run_item.Goals as goal

pub returns-then-not-is_of-clause-functions : goal.returns-then-not-is_of-clause-functions
returns-then-not-is_of-clause-functions g c = (skipped g.F.Function.behaviour c.args.graph.now.stages c.args.functions.now c.args.ended.now.items c.args.unit c.args.chain c.args.item.now c.args.tally.now (let is : is_of c.args.chain c.args.item.now ≡ false = search rules in is)).functions

pub returns-then-not-is_of-clause-fates : goal.returns-then-not-is_of-clause-fates
returns-then-not-is_of-clause-fates g c = (skipped g.F.Function.behaviour c.args.graph.now.stages c.args.functions.now c.args.ended.now.items c.args.unit c.args.chain c.args.item.now c.args.tally.now (let is : is_of c.args.chain c.args.item.now ≡ false = search rules in is)).fates_are

pub returns-then-not-is_of-clause-counted : goal.returns-then-not-is_of-clause-counted
returns-then-not-is_of-clause-counted g c = (skipped g.F.Function.behaviour c.args.graph.now.stages c.args.functions.now c.args.ended.now.items c.args.unit c.args.chain c.args.item.now c.args.tally.now (let is : is_of c.args.chain c.args.item.now ≡ false = search rules in is)).counted

pub returns-in_err-fate-clause-refused : goal.returns-in_err-fate-clause-refused
returns-in_err-fate-clause-refused g c = let within = (walks_up_to g.F.Function.behaviour c.args.graph.now.stages c.args.functions.now c.args.unit c.args.chain c.args.item.now c.time-time.result c.bytes-frame.result.now c.args.tally.now c.run_packet.new.tally (let is : is_of c.args.chain c.args.item.now ≡ true = search rules in is) c.time-time.ensures c.bytes-frame.ensures (c.in_err-fate.ensures.refused)) in search rules

pub returns-in_err-push-clause-refused : goal.returns-in_err-push-clause-refused
returns-in_err-push-clause-refused g c = let within = (walks_up_to g.F.Function.behaviour c.args.graph.now.stages c.args.functions.now c.args.unit c.args.chain c.args.item.now c.time-time.result c.bytes-frame.result.now c.args.tally.now c.run_packet.new.tally (let is : is_of c.args.chain c.args.item.now ≡ true = search rules in is) c.time-time.ensures c.bytes-frame.ensures (all_made _ _ _ c.in_ok-fate.ensures.counted)) in search rules

pub returns-clause-functions : goal.returns-clause-functions
returns-clause-functions g c = (walks g.F.Function.behaviour c.args.graph.now.stages c.args.functions.now c.run_packet.new.functions c.args.ended.now.items c.push.new.self.items c.in_ok-fate.fate c.args.unit c.args.chain c.args.item.now c.time-time.result c.bytes-frame.result.now c.args.tally.now c.run_packet.new.tally (let is : is_of c.args.chain c.args.item.now ≡ true = search rules in is) c.time-time.ensures c.bytes-frame.ensures c.in_ok-fate.ensures.functions c.in_ok-fate.ensures.fate c.in_ok-push.ensures.items c.in_ok-fate.ensures.counted).functions

pub returns-clause-fates : goal.returns-clause-fates
returns-clause-fates g c = (walks g.F.Function.behaviour c.args.graph.now.stages c.args.functions.now c.run_packet.new.functions c.args.ended.now.items c.push.new.self.items c.in_ok-fate.fate c.args.unit c.args.chain c.args.item.now c.time-time.result c.bytes-frame.result.now c.args.tally.now c.run_packet.new.tally (let is : is_of c.args.chain c.args.item.now ≡ true = search rules in is) c.time-time.ensures c.bytes-frame.ensures c.in_ok-fate.ensures.functions c.in_ok-fate.ensures.fate c.in_ok-push.ensures.items c.in_ok-fate.ensures.counted).fates_are

pub returns-clause-counted : goal.returns-clause-counted
returns-clause-counted g c = (walks g.F.Function.behaviour c.args.graph.now.stages c.args.functions.now c.run_packet.new.functions c.args.ended.now.items c.push.new.self.items c.in_ok-fate.fate c.args.unit c.args.chain c.args.item.now c.time-time.result c.bytes-frame.result.now c.args.tally.now c.run_packet.new.tally (let is : is_of c.args.chain c.args.item.now ≡ true = search rules in is) c.time-time.ensures c.bytes-frame.ensures c.in_ok-fate.ensures.functions c.in_ok-fate.ensures.fate c.in_ok-push.ensures.items c.in_ok-fate.ensures.counted).counted
