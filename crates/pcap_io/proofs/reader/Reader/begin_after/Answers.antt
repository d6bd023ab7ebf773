use Rattle.std.proofs.Common.{◌≡◌, ◌≤◌, ◌∙◌, ◌+◌, ◌-◌, ◌++◌, ℕ, List, Ok, Err, Result, ap, length, take, drop, sym, length-append, length-drop, arith}
use Rattle.std.proofs.lemmas.List.{length-take-le}
use borrow.Rule.Slice.PartMut.{put_mid, mid_of}
use Rattle.nfp_outside.specs.declared.slot.Slot.TheVariants.{Capture as CaptureSlot}
use Rattle.nfp_outside.specs.Outside.{SlotView}
use Rattle.capture_bytes.specs.Filling.{Fills, unread}
use Rattle.capture_bytes.specs.FillingLaws.{fills_behind, put_behind}
use Rattle.pcap_io.specs.declared.capture.CaptureHead.{CaptureHead}
use Rattle.pcap_io.specs.declared.capture.CaptureFault.{CaptureFault}
use Rattle.pcap_io.specs.Capture.{head_of}
use Rattle.pcap_io.specs.Reader.{RefusesHead}
use Rattle.pcap_io.proofs.Fronts.{read_head, refuse_head}
use Rattle.pcap_io.proofs.Steps.{only_fault}
use Rattle.pcap_io.proofs.reader.Reader.begin_after.Goals as goal

-- a buffer of 24 bytes that was filled after the first ones, as one that was filled at once
record Whole (answer : Result CaptureHead CaptureFault) (first buffer piece : List ℕ) (count : ℕ) (old new : SlotView) : Type 0 where
  size : length (first ++ piece) ≡ 24
  fills : Fills (length first + count) (first ++ piece) (unread first old) new
  read : head_of (take (length first + count) (first ++ piece)) ≡ answer

whole : (answer : Result CaptureHead CaptureFault) (first buffer piece : List ℕ) (count : ℕ) (old new : SlotView) → length first ≤ 4 → length buffer ≡ 24 → take (length first) buffer ≡ first →
    length piece ≡ length (mid_of (length first) (24 - length first) buffer) → Fills count piece old new → answer ≡ head_of (take (length first + count) (put_mid (length first) (24 - length first) buffer piece)) →
    Whole answer first buffer piece count old new
whole answer first buffer piece count old new few size front piece_size fills read =
    let same : put_mid (length first) (24 - length first) buffer piece ≡ first ++ piece = put_behind (24 - length first) first buffer piece front (omega (arith, size, few)) piece_size in
    record {
      size = omega (arith, few, piece_size, size, length-append first piece, length-drop (length first) buffer, length-take-le (24 - length first) (drop (length first) buffer) (omega (arith, size, length-drop (length first) buffer)));
      fills = fills_behind first piece count old new fills;
      read = ap (λ l. head_of (take (length first + count) l)) (sym same) ∙ sym read;
    }

pub returns-in-Ok-clause-head : goal.returns-in-Ok-clause-head
returns-in-Ok-clause-head g c =
    let first = c.args.first.now in
    let old = g.D.Desk.slots c.args.desk.now CaptureSlot in
    let new = g.D.Desk.slots c.fill.new.desk CaptureSlot in
    let all = whole (Ok c.in-Ok.head) first c.behind-bytes.result c.fill.new.into c.in_ok-count.count old new c.requires.few c.behind-bytes.ensures.size c.behind-bytes.ensures.front c.fill.auto.into c.in_ok-count.ensures.ok c.in-Ok.ensures in
    rw c.resume.ensures (read_head (length first + c.in_ok-count.count) (first ++ c.fill.new.into) c.in-Ok.head (unread first old) new all.size all.fills all.read)

pub returns-in-Err-clause-refused : goal.returns-in-Err-clause-refused
returns-in-Err-clause-refused g c =
    let first = c.args.first.now in
    let old = g.D.Desk.slots c.args.desk.now CaptureSlot in
    let new = g.D.Desk.slots c.fill.new.desk CaptureSlot in
    let all = whole (Err c.in-Err.fault) first c.behind-bytes.result c.fill.new.into c.in_ok-count.count old new c.requires.few c.behind-bytes.ensures.size c.behind-bytes.ensures.front c.fill.auto.into c.in_ok-count.ensures.ok c.in-Err.ensures in
    only_fault (λ f. RefusesHead f (unread first old)) c.in-Err.fault (refuse_head (length first + c.in_ok-count.count) (first ++ c.fill.new.into) c.in-Err.fault (unread first old) new all.size all.fills all.read)
