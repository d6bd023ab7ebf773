-- What is counted record by record is what is counted for all records.
use Rattle.std.proofs.Common.{◌≡◌, ◌∙◌, ℕ, ◌+◌, List, [], ◌∷◌, length, refl, sym, ap, arith}
use Rattle.std.specs.Prelude.{fold, Some, unwrap_or}
use Rattle.std.specs.Map.{values_of}
use Rattle.capture_bytes.specs.Packets.{time_of}
use Rattle.capture_bytes.specs.declared.packet.PcapRecord.{PcapRecord}
use Rattle.capture_bytes.specs.declared.packet.Unit.{Unit as TimeUnit}
use Rattle.pcap_io.specs.Capture.{Body}
use Rattle.flow_export.specs.declared.span.Span5.{Span5}
use Rattle.flow_shards.specs.Flows.{Lines, flows_from}
use Rattle.flow_run.specs.Counting.{CountingView, IsCountOf, IsCountedWith, no_span, nothing_counted, with_body, with_record}
use Rattle.flow_run.specs.FlowsOut.{greatest_of, item_of, items_from, least_of, span_of}
use Rattle.flow_run.specs.declared.count.Counted.{Counted}
use Rattle.flow_run.proofs.Bursts.{lines_more}

records_are : (c : CountingView) (rs : List PcapRecord) → (fold with_record c rs).records ≡ c.records + length rs
records_are c [] = omega arith
records_are c (r ∷ rs) = omega (arith, records_are (with_record c r) rs)

lines_are : (c : CountingView) (rs : List PcapRecord) → (fold with_record c rs).lines ≡ flows_from c.unit c.lines (items_from (c.records + 1) rs)
lines_are c [] = refl
lines_are c (r ∷ rs) =
    lines_are (with_record c r) rs ∙ sym (lines_more c.unit c.lines (item_of (c.records + 1) r ∷ []) (items_from (c.records + 1 + 1) rs))

spans : (unit : TimeUnit) (n : ℕ) (lines : Lines) (span : Span5) (rs : List PcapRecord) →
    (fold with_record (record { unit = unit; records = n; lines = lines; span = Some span }) rs).span ≡ Some (record { origin = least_of unit span.origin rs; greatest = greatest_of unit span.greatest rs })
spans unit n lines span [] = refl
spans unit n lines span (r ∷ rs) = spans unit (n + 1) (flows_from unit lines (item_of (n + 1) r ∷ [])) _ rs

span_is : (unit : TimeUnit) (rs : List PcapRecord) → unwrap_or (fold with_record (nothing_counted unit) rs).span no_span ≡ span_of unit rs
span_is unit [] = refl
span_is unit (r ∷ rs) = ap (λ o. unwrap_or o no_span) (spans unit 1 (flows_from unit [] (item_of 1 r ∷ [])) (record { origin = time_of unit r; greatest = time_of unit r }) rs)

pub counted_whole : (unit : TimeUnit) (body : Body) (counted : Counted) → IsCountedWith (with_body (nothing_counted unit) body) body.fault counted → IsCountOf unit body counted
counted_whole unit body counted is = record {
  records = is.records ∙ records_are (nothing_counted unit) body.records ∙ omega arith;
  lines = is.lines ∙ ap values_of (lines_are (nothing_counted unit) body.records);
  span = is.span ∙ span_is unit body.records;
  fault = is.same_fault;
}
