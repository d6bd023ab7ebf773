-- For proofs: what is counted so far, record by record, and the final result.
use Rattle.std.specs.Prelude.{◌≡◌, ◌<◌, ℕ, ◌+◌, ◌^◌, min, max, [], ◌∷◌, length, fold, Option, Some, None, IfOk, IfSome, IsErrOf, Result, Err, unwrap_or}
use Rattle.std.specs.Map.{values_of}
use Rattle.capture_bytes.specs.Packets.{time_of}
use Rattle.capture_bytes.specs.declared.packet.PcapRecord.{PcapRecord}
use Rattle.capture_bytes.specs.declared.packet.Unit.{Unit as TimeUnit}
use Rattle.nfp_outside.specs.declared.slot.DeskFault.{DeskFault}
use Rattle.nfp_outside.specs.declared.slot.DeskFault.TheVariants.{Failed, NoMemory}
use Rattle.pcap_io.specs.Capture.{Body}
use Rattle.pcap_io.specs.declared.capture.CaptureFault.{CaptureFault}
use Rattle.pcap_io.specs.declared.fault.PcapFault.{PcapFault}
use Rattle.pcap_io.specs.declared.fault.PcapFault.TheVariants as refusals
use Rattle.classifier.specs.Cutting.{Cutting}
use Rattle.flow_export.specs.declared.span.Span5.{Span5}
use Rattle.flow_shards.specs.Flows.{Lines, flows_from}
use Rattle.flow_shards.specs.Sharding.{AreRising, ShardsView, last_of}
use Rattle.flow_run.specs.FlowsOut.{flow_lines, item_of, span_of}
use Rattle.flow_run.specs.declared.count.Counted.{Counted}

-- what is counted so far: the unit of the times, the number of records, the lines of their flows, and the span of their times
pub record CountingView : Type 0 where
  pub unit : TimeUnit
  pub records : ℕ
  pub lines : Lines
  pub span : Option Span5

abbrev pub nothing_counted : TimeUnit → CountingView
nothing_counted unit = record { unit = unit; records = 0; lines = []; span = None }

-- a span, with one more time
abbrev pub with_time : Option Span5 → ℕ → Span5
with_time None time = record { origin = time; greatest = time }
with_time (Some span) time = record { origin = min span.origin time; greatest = max span.greatest time }

-- with one more record
abbrev pub with_record : CountingView → PcapRecord → CountingView
with_record c r = record {
  unit = c.unit;
  records = c.records + 1;
  lines = flows_from c.unit c.lines (item_of (c.records + 1) r ∷ []);
  span = Some (with_time c.span (time_of c.unit r));
}

-- with all records of a body
abbrev pub with_body : CountingView → Body → CountingView
with_body c body = fold with_record c body.records

-- both ends of a span are below 2^63
pub record FitsSpan (span : Span5) : Type 0 where
  pub origin : span.origin < 2 ^ 63
  pub greatest : span.greatest < 2 ^ 63

-- the open burst continues the numbers of the packets that were fed
pub record IsCounting (records : ℕ) (cutter : Cutting) (shards : ShardsView) (span : Option Span5) : Type 0 where
  pub added : records ≡ cutter.added
  pub rising : AreRising shards.last cutter.held
  pub last : last_of shards.last cutter.held ≡ cutter.added
  pub span_fits : IfSome span FitsSpan

abbrev pub no_span : Span5
no_span = record { origin = 0; greatest = 0 }

-- this is what was counted so far, and the fault that ended the capture
pub record IsCountedWith (c : CountingView) (fault : Option CaptureFault) (counted : Counted) : Type 0 where
  pub records : counted.records ≡ c.records
  pub lines : counted.lines ≡ values_of c.lines
  pub span : counted.span ≡ unwrap_or c.span no_span
  pub same_fault : counted.fault ≡ fault

-- a call that stops if the next record is refused: a fault of the capture ends what is counted
abbrev pub StopsAt : CountingView → PcapFault → Result Counted DeskFault → Type 0
StopsAt c (refusals.Capture fault) result = IfOk result (IsCountedWith c (Some fault)) × (¬ IsErrOf result Failed)
StopsAt c (refusals.ReadFault slot) result = result ≡ Err Failed
StopsAt c refusals.OutOfMemory result = result ≡ Err NoMemory

-- this is what is counted for a body
pub record IsCountOf (unit : TimeUnit) (body : Body) (counted : Counted) : Type 0 where
  pub records : counted.records ≡ length body.records
  pub lines : counted.lines ≡ flow_lines unit body.records
  pub span : counted.span ≡ span_of unit body.records
  pub fault : counted.fault ≡ body.fault
