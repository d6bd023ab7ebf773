-- Keys, packets and bytes are what a monitor counts, and bursts continue what was counted before.
use Rattle.std.proofs.Common.{◌≡◌, ◌≤◌, ◌<◌, ◌∙◌, ℕ, List, [], ◌∷◌, ◌++◌, map, Bool, true, false, refl, sym, ap, arith}
use Rattle.std.specs.Prelude.{if◌then◌else◌, Option, Some, None, unwrap_or, filter_map}
use Rattle.std.specs.Map.{keys_of}
use Rattle.std.specs.Option.{option_map}
use Rattle.std.proofs.Math.Nat.{mod-lt}
use Rattle.std.proofs.lemmas.List.Elements.{filter_map-append}
use Rattle.std.proofs.lemmas.List.Sums.{fold-append}
use Rattle.capture_bytes.specs.declared.packet.Unit.{Unit as TimeUnit}
use Rattle.classifier.specs.declared.burst.Item.{Item}
use Rattle.first_sight.specs.FirstSight.{is_seen, belonging, with_value, noted}
use Rattle.flow_line.specs.declared.key.FlowKey.{FlowKey}
use Rattle.flow_line.specs.declared.line.FlowLine.{FlowLine}
use Rattle.nf_observe.specs.Counting.{flows_with}
use Rattle.nf_observe.specs.Flows.{with_packet, no_packets, counted as counted_by_monitor}
use Rattle.packet_function.specs.SameFlow.{is_same_flow}
use Rattle.packet_function.specs.declared.flow.FiveTuple.{FiveTuple}
use Rattle.nf_observe.specs.declared.flow.FlowCounts.{FlowCounts}
use Rattle.flow_shards.specs.Flows.{Lines, first_line, with_sight, counted, counted_all, flows_from, sight_of}
use Rattle.flow_shards.specs.Monitoring.{counts_in, shown}
use Rattle.flow_shards.specs.Sharding.{shard_of}
use Rattle.flow_shards.specs.declared.sight.Sight.{Sight}

pub inside_shards : (workers : ℕ) (key : FlowKey) → 1 ≤ workers → shard_of workers key < workers
inside_shards workers key some = mod-lt _ (omega (arith, some))

abbrev counts : FlowLine → FlowCounts
counts line = record { packets = line.packets; bytes = line.bytes }

same_keys : (lines : Lines) → keys_of (map counts_in lines) ≡ keys_of lines
same_keys [] = refl
same_keys (line ∷ lines) = ap (λ l. line.0 ∷ l) (same_keys lines)

same_belongs : (flow : FiveTuple) (lines : Lines) → belonging is_same_flow (map counts_in lines) flow ≡ option_map counts (belonging is_same_flow lines flow)
same_belongs flow [] = refl
same_belongs flow (line ∷ lines) = by (is_same_flow flow line.0) (same_belongs flow lines)
  where
    by : (b : Bool) → belonging is_same_flow (map counts_in lines) flow ≡ option_map counts (belonging is_same_flow lines flow) →
        (if b then Some (counts line.1) else belonging is_same_flow (map counts_in lines) flow) ≡ option_map counts (if b then Some line.1 else belonging is_same_flow lines flow)
    by true rest = refl
    by false rest = rest

renewed : (flow : FiveTuple) (value : FlowLine) (lines : Lines) → map counts_in (map (with_value is_same_flow flow value) lines) ≡ map (with_value is_same_flow flow (counts value)) (map counts_in lines)
renewed flow value [] = refl
renewed flow value (line ∷ lines) = λ i. by (is_same_flow flow line.0) i ∷ renewed flow value lines i
  where
    by : (b : Bool) → counts_in (if b then (line.0, value) else line) ≡ (if b then (line.0, counts value) else counts_in line)
    by true = refl
    by false = refl

behind : (flow : FiveTuple) (value : FlowLine) (lines : Lines) → map counts_in (lines ++ (flow, value) ∷ []) ≡ map counts_in lines ++ (flow, counts value) ∷ []
behind flow value [] = refl
behind flow value (line ∷ lines) = ap (λ l. counts_in line ∷ l) (behind flow value lines)

noted_counts : (flow : FiveTuple) (value : FlowLine) (lines : Lines) → map counts_in (noted is_same_flow lines flow value) ≡ noted is_same_flow (map counts_in lines) flow (counts value)
noted_counts flow value lines =
    by (is_seen is_same_flow (keys_of lines) flow)
    ∙ ap (λ keys. if is_seen is_same_flow keys flow then map (with_value is_same_flow flow (counts value)) (map counts_in lines) else map counts_in lines ++ (flow, counts value) ∷ []) (sym (same_keys lines))
  where
    by : (b : Bool) → map counts_in (if b then map (with_value is_same_flow flow value) lines else lines ++ (flow, value) ∷ [])
        ≡ (if b then map (with_value is_same_flow flow (counts value)) (map counts_in lines) else map counts_in lines ++ (flow, counts value) ∷ [])
    by true = renewed flow value lines
    by false = behind flow value lines

same_counts : (s : Sight) (o : Option FlowLine) → counts (with_sight (unwrap_or o (first_line s)) s) ≡ with_packet (unwrap_or (option_map counts o) no_packets) s.bytes
same_counts s None = refl
same_counts s (Some line) = refl

one_monitored : (lines : Lines) (s : Sight) → map counts_in (counted lines s) ≡ counted_by_monitor (map counts_in lines) s.flow s.bytes
one_monitored lines s =
    noted_counts s.flow (with_sight (unwrap_or (belonging is_same_flow lines s.flow) (first_line s)) s) lines
    ∙ ap (noted is_same_flow (map counts_in lines) s.flow) (same_counts s (belonging is_same_flow lines s.flow) ∙ ap (λ o. with_packet (unwrap_or o no_packets) s.bytes) (sym (same_belongs s.flow lines)))

all_monitored : (sights : List Sight) (lines : Lines) → map counts_in (counted_all lines sights) ≡ flows_with (map counts_in lines) (map shown sights)
all_monitored [] lines = refl
all_monitored (s ∷ sights) lines = all_monitored sights (counted lines s) ∙ ap (λ l. flows_with l (map shown sights)) (one_monitored lines s)

pub monitored : (unit : TimeUnit) (items : List Item) → map counts_in (flows_from unit [] items) ≡ flows_with [] (map shown (filter_map (sight_of unit) items))
monitored unit items = all_monitored (filter_map (sight_of unit) items) []

pub goes_on : (unit : TimeUnit) (first later : List Item) → flows_from unit (flows_from unit [] first) later ≡ flows_from unit [] (first ++ later)
goes_on unit first later =
    sym (ap (counted_all []) (filter_map-append (sight_of unit) first later) ∙ fold-append counted [] (filter_map (sight_of unit) first) (filter_map (sight_of unit) later))
