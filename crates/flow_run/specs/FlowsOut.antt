-- Believed: the flows of a capture's records, and what is exported for them.
use Rattle.std.specs.Prelude.{ℕ, ◌+◌, min, max, List, [], ◌∷◌, None, fold}
use Rattle.capture_bytes.specs.Packets.{time_of}
use Rattle.capture_bytes.specs.declared.packet.PcapRecord.{PcapRecord}
use Rattle.capture_bytes.specs.declared.packet.Unit.{Unit as TimeUnit}
use Rattle.classifier.specs.declared.burst.Item.{Item}
use Rattle.flow_export.specs.Exports.{export_bytes}
use Rattle.flow_export.specs.declared.span.Span5.{Span5}
use Rattle.flow_line.specs.declared.line.FlowLine.{FlowLine}
use Rattle.flow_shards.specs.Flows.{flows}

-- a record under its number, which no chain takes
abbrev pub item_of : ℕ → PcapRecord → Item
item_of number r = record { number = number; class = None; packet = r }

-- records, numbered from here
abbrev pub items_from : ℕ → List PcapRecord → List Item
items_from n [] = []
items_from n (r ∷ rs) = item_of n r ∷ items_from (n + 1) rs

-- the lines of the flows of a capture's records, which are numbered from 1
abbrev pub flow_lines : TimeUnit → List PcapRecord → List FlowLine
flow_lines unit records = flows unit (items_from 1 records)

-- the least time of these records and of one before
abbrev pub least_of : TimeUnit → ℕ → List PcapRecord → ℕ
least_of unit before records = fold (λ least r. min least (time_of unit r)) before records

-- the greatest time of these records and of one before
abbrev pub greatest_of : TimeUnit → ℕ → List PcapRecord → ℕ
greatest_of unit before records = fold (λ most r. max most (time_of unit r)) before records

-- from the least time of the records to the greatest
abbrev pub span_of : TimeUnit → List PcapRecord → Span5
span_of unit [] = record { origin = 0; greatest = 0 }
span_of unit (r ∷ rs) = record { origin = least_of unit (time_of unit r) rs; greatest = greatest_of unit (time_of unit r) rs }

-- what is exported for a capture's flows
abbrev pub flows_out : TimeUnit → List PcapRecord → List ℕ
flows_out unit records = export_bytes (span_of unit records) (flow_lines unit records)
