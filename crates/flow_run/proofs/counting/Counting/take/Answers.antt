use Rattle.std.proofs.Common.{◌≡◌, ◌∙◌, ◌+◌, ap, rules}
use Rattle.std.specs.Prelude.{IsTrue, None, Some}
use Rattle.std.proofs.lemmas.Bool.{false≢true}
use Rattle.classifier.specs.Cutting.{closes}
use Rattle.capture_bytes.specs.Packets.{time_of}
use Rattle.flow_run.specs.Counting.{CountingView, with_record, with_time}
use Rattle.flow_run.proofs.Bursts.{IsTaken, rising_with, taken_closed, taken_open}
use Rattle.flow_run.proofs.counting.Counting.take.Goals as goal

pub invariant_of-result : goal.invariant_of-result
invariant_of-result g c =
    (taken_open c.self.inside.unit c.self.inside.records c.self.inside.cutter c.add.new.self c.args.packet c.self.inside.shards c.self.inside.span (Some c.with_time.result) c.self.invariant
    (λ t. false≢true (rw c.in-None.is at (c.in_ok-add.ensures.closed.1 t))) c.in_ok-add.ensures.added c.with_time.ensures.fits).counting

pub feed-requires-clause-rising : goal.feed-requires-clause-rising
feed-requires-clause-rising g c κs within =
    rising_with c.self.inside.records c.self.inside.cutter c.self.inside.shards c.self.inside.span c.args.packet c.in-Some.burst.items c.self.invariant (rw c.in-Some.is at c.in_ok-add.ensures.burst)

pub returns-in-None : goal.returns-in-None
returns-in-None g c =
    let taken : IsTaken c.self.inside.unit c.self.inside.records c.self.inside.cutter c.args.packet c.self.inside.shards c.add.new.self c.self.inside.shards (Some c.with_time.result) =
    taken_open c.self.inside.unit c.self.inside.records c.self.inside.cutter c.add.new.self c.args.packet c.self.inside.shards c.self.inside.span (Some c.with_time.result) c.self.invariant
    (λ t. false≢true (rw c.in-None.is at (c.in_ok-add.ensures.closed.1 t))) c.in_ok-add.ensures.added c.with_time.ensures.fits in
    let span : c.with_time.result ≡ with_time c.self.inside.span (time_of c.self.inside.unit c.args.packet) = c.with_time.ensures.span ∙ ap (with_time c.self.inside.span) c.time_of.ensures.time in
    (λ i. record { unit = c.self.inside.unit; records = c.self.inside.records + 1; lines = taken.lines i; span = Some (span i) }) ∙ ap (λ (s : CountingView). with_record s c.args.packet) c.self.view_is

pub returns-in_ok-shards-in-Some : goal.returns-in_ok-shards-in-Some
returns-in_ok-shards-in-Some g c =
    let closed : IsTrue (closes c.self.inside.cutter c.args.packet None) = (rw c.in-Some.is at c.in_ok-add.ensures.closed.0) (search rules) in
    let taken : IsTaken c.self.inside.unit c.self.inside.records c.self.inside.cutter c.args.packet c.self.inside.shards c.add.new.self c.in_ok-shards-in-Some.shards (Some c.with_time.result) =
    taken_closed c.self.inside.unit c.self.inside.records c.self.inside.cutter c.add.new.self c.args.packet c.in-Some.burst.items c.self.inside.shards c.in_ok-shards-in-Some.shards c.self.inside.span (Some c.with_time.result) c.self.invariant
    closed c.in_ok-add.ensures.added (rw c.in-Some.is at c.in_ok-add.ensures.burst) c.in_ok-shards-in-Some.ensures.last c.in_ok-shards-in-Some.ensures.lines c.with_time.ensures.fits in
    let span : c.with_time.result ≡ with_time c.self.inside.span (time_of c.self.inside.unit c.args.packet) = c.with_time.ensures.span ∙ ap (with_time c.self.inside.span) c.time_of.ensures.time in
    (λ i. record { unit = c.self.inside.unit; records = c.self.inside.records + 1; lines = taken.lines i; span = Some (span i) }) ∙ ap (λ (s : CountingView). with_record s c.args.packet) c.self.view_is
