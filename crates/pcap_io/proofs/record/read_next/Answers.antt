use Rattle.std.proofs.Common.{◌≡◌, ◌≤◌, ◌<◌, ◌+◌, refl, length, arith}
use Rattle.nfp_outside.specs.declared.slot.Slot.TheVariants.{Capture as CaptureSlot}
use Rattle.pcap_io.specs.declared.capture.CaptureFault.TheVariants.{CutRecord, FrameTooLong, TooManyRecords}
use Rattle.pcap_io.specs.Reader.{RefusesRecord, reader_at}
use Rattle.capture_bytes.specs.FillingLaws.{fills_taken}
use Rattle.pcap_io.proofs.Steps.{only_fault, at_end, too_many, ends_in_head, claims_more, ends_in_frame, record_read, same_record, whole_count, taken_both}
use Rattle.pcap_io.proofs.record.read_next.Goals as goal

pub returns-then-count-eq0-clause-end : goal.returns-then-count-eq0-clause-end
returns-then-count-eq0-clause-end g c =
    at_end c.args.order c.args.given c.fill.new.into (g.D.Desk.slots c.args.desk.now CaptureSlot) (g.D.Desk.slots c.fill.new.desk CaptureSlot) c.fill.auto.into (rw c.if-count-eq0.true at c.in_ok-count.ensures.ok)

pub returns-then-given-eq4294967295-clause-refused : goal.returns-then-given-eq4294967295-clause-refused
returns-then-given-eq4294967295-clause-refused g c =
    let some : 0 < c.in_ok-count.count = omega (arith, c.if-count-eq0.false) in
    only_fault (λ f. RefusesRecord f (reader_at c.args.order c.args.given) (g.D.Desk.slots c.args.desk.now CaptureSlot)) TooManyRecords
    (too_many c.in_ok-count.count c.args.order c.args.given c.fill.new.into (g.D.Desk.slots c.args.desk.now CaptureSlot) (g.D.Desk.slots c.fill.new.desk CaptureSlot) c.in_ok-count.ensures.ok some c.if-given-eq4294967295.true)

pub returns-then-count-lt-RECORD_HEAD_LEN-clause-refused : goal.returns-then-count-lt-RECORD_HEAD_LEN-clause-refused
returns-then-count-lt-RECORD_HEAD_LEN-clause-refused g c =
    let some : 0 < c.in_ok-count.count = omega (arith, c.if-count-eq0.false) in
    let few : c.args.given < 4294967295 = omega arith in
    only_fault (λ f. RefusesRecord f (reader_at c.args.order c.args.given) (g.D.Desk.slots c.args.desk.now CaptureSlot)) (CutRecord (c.args.given + 1))
    (ends_in_head c.in_ok-count.count c.args.order c.args.given c.fill.new.into (g.D.Desk.slots c.args.desk.now CaptureSlot) (g.D.Desk.slots c.fill.new.desk CaptureSlot) c.fill.auto.into c.in_ok-count.ensures.ok
    some c.if-count-lt-RECORD_HEAD_LEN.true few)

pub returns-then-captured-gt-MAX_FRAME-clause-refused : goal.returns-then-captured-gt-MAX_FRAME-clause-refused
returns-then-captured-gt-MAX_FRAME-clause-refused g c =
    let few : c.args.given < 4294967295 = omega arith in
    let head = whole_count c.in_ok-count.count c.fill.new.into (g.D.Desk.slots c.args.desk.now CaptureSlot) (g.D.Desk.slots c.fill.new.desk CaptureSlot) c.fill.auto.into c.if-count-lt-RECORD_HEAD_LEN.false c.in_ok-count.ensures.ok in
    only_fault (λ f. RefusesRecord f (reader_at c.args.order c.args.given) (g.D.Desk.slots c.args.desk.now CaptureSlot)) (FrameTooLong (c.args.given + 1) c.u32_at-captured.result)
    (claims_more c.args.order c.args.given c.fill.new.into c.u32_at-captured.result (g.D.Desk.slots c.args.desk.now CaptureSlot) (g.D.Desk.slots c.fill.new.desk CaptureSlot) head c.u32_at-captured.ensures c.if-captured-gt-MAX_FRAME.true few)

pub returns-in_err-frame-clause-taken : goal.returns-in_err-frame-clause-taken
returns-in_err-frame-clause-taken g c =
    taken_both c.in_ok-count.count c.fill.new.into c.u32_at-captured.result (g.D.Desk.slots c.args.desk.now CaptureSlot) (g.D.Desk.slots c.fill.new.desk CaptureSlot) (g.D.Desk.slots c.read_frame.new.desk CaptureSlot)
    c.fill.auto.into c.in_ok-count.ensures.ok (omega arith) c.in_err-frame.ensures.err.taken

pub returns-in-Some-clause-record : goal.returns-in-Some-clause-record
returns-in-Some-clause-record g c =
    let few : c.args.given < 4294967295 = omega arith in
    let short : c.u32_at-captured.result ≤ 262144 = omega arith in
    let head = whole_count c.in_ok-count.count c.fill.new.into (g.D.Desk.slots c.args.desk.now CaptureSlot) (g.D.Desk.slots c.fill.new.desk CaptureSlot) c.fill.auto.into c.if-count-lt-RECORD_HEAD_LEN.false c.in_ok-count.ensures.ok in
    record_read c.args.order c.args.given c.fill.new.into c.in-Some.frame c.u32_at-captured.result _ (g.D.Desk.slots c.args.desk.now CaptureSlot) (g.D.Desk.slots c.fill.new.desk CaptureSlot) (g.D.Desk.slots c.read_frame.new.desk CaptureSlot)
    head (rw c.in-Some.is at c.in_ok-frame.ensures.whole) (rw c.in-Some.is at c.in_ok-frame.ensures.size) c.u32_at-captured.ensures short few
    (same_record _ _ _ _ _ _ _ _ c.u32_at.ensures c.u32_at-in-Some.ensures c.u32_at-in-Some-2.ensures refl)

pub returns-in-Some-clause-taken : goal.returns-in-Some-clause-taken
returns-in-Some-clause-taken g c =
    let size : length c.in-Some.frame ≡ c.u32_at-captured.result = rw c.in-Some.is at c.in_ok-frame.ensures.size in
    taken_both c.in_ok-count.count c.fill.new.into (length c.in-Some.frame) (g.D.Desk.slots c.args.desk.now CaptureSlot) (g.D.Desk.slots c.fill.new.desk CaptureSlot) (g.D.Desk.slots c.read_frame.new.desk CaptureSlot)
    c.fill.auto.into c.in_ok-count.ensures.ok (omega arith)
    (fills_taken c.u32_at-captured.result c.in-Some.frame (g.D.Desk.slots c.fill.new.desk CaptureSlot) (g.D.Desk.slots c.read_frame.new.desk CaptureSlot) (rw c.in-Some.is at c.in_ok-frame.ensures.whole))

pub returns-in-None-clause-refused : goal.returns-in-None-clause-refused
returns-in-None-clause-refused g c =
    let few : c.args.given < 4294967295 = omega arith in
    let short : c.u32_at-captured.result ≤ 262144 = omega arith in
    let head = whole_count c.in_ok-count.count c.fill.new.into (g.D.Desk.slots c.args.desk.now CaptureSlot) (g.D.Desk.slots c.fill.new.desk CaptureSlot) c.fill.auto.into c.if-count-lt-RECORD_HEAD_LEN.false c.in_ok-count.ensures.ok in
    only_fault (λ f. RefusesRecord f (reader_at c.args.order c.args.given) (g.D.Desk.slots c.args.desk.now CaptureSlot)) (CutRecord (c.args.given + 1))
    (ends_in_frame c.args.order c.args.given c.fill.new.into c.u32_at-captured.result (g.D.Desk.slots c.args.desk.now CaptureSlot) (g.D.Desk.slots c.fill.new.desk CaptureSlot) (g.D.Desk.slots c.read_frame.new.desk CaptureSlot)
    head c.u32_at-captured.ensures short few (rw c.in-None.is at c.in_ok-frame.ensures.cut))
