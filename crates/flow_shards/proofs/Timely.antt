-- Of packets in order of time the first of a flow has the least time, and the last the greatest.
use Rattle.std.proofs.Common.{◌≡◌, ◌≤◌, ◌∙◌, ℕ, List, [], ◌∷◌, ◌++◌, map, Bool, true, false, refl, ap, arith}
use Rattle.std.proofs.Math.Nat.{min-eq_left, max-eq_right}
use Rattle.std.specs.Prelude.{All, fold, if◌then◌else◌, Some, unwrap_or}
use Rattle.std.specs.Map.{keys_of}
use Rattle.std.proofs.lemmas.List.Elements.{All-head, All-tail, All-map, All-push, All-nil, All-weaker}
use Rattle.first_sight.specs.FirstSight.{belonging, is_seen, noted, with_value}
use Rattle.packet_function.specs.SameFlow.{is_same_flow}
use Rattle.packet_function.specs.declared.flow.FiveTuple.{FiveTuple}
use Rattle.flow_line.specs.declared.line.FlowLine.{FlowLine}
use Rattle.flow_shards.specs.Flows.{Lines, counted, counted_all, first_line, with_sight}
use Rattle.flow_shards.specs.InOrderOfTime.{AreInOrderOfTime, counted_to_last, ending_at}
use Rattle.flow_shards.specs.declared.sight.Sight.{Sight}

-- a line's times are at most this time
record IsUpTo (time : ℕ) (line : FlowLine) : Type 0 where
  begun : line.begun ≤ time
  last : line.last ≤ time

abbrev AreUpTo : ℕ → Lines → Type 0
AreUpTo time lines = All (λ line. IsUpTo time line.1) lines

later_too : (time later : ℕ) → time ≤ later → (lines : Lines) → AreUpTo time lines → AreUpTo later lines
later_too time later h lines up =
    All-weaker (λ line. IsUpTo time line.1) (λ line. IsUpTo later line.1) (λ line is. record { begun = omega (arith, is.begun, h); last = omega (arith, is.last, h) }) lines up

before_up_to : (lines : Lines) (s : Sight) → AreUpTo s.time lines → IsUpTo s.time (unwrap_or (belonging is_same_flow lines s.flow) (first_line s))
before_up_to [] s up = record { begun = omega arith; last = omega arith }
before_up_to (line ∷ lines) s up = by (is_same_flow s.flow line.0) (before_up_to lines s (All-tail (λ line. IsUpTo s.time line.1) line lines up))
  where
    by : (b : Bool) → IsUpTo s.time (unwrap_or (belonging is_same_flow lines s.flow) (first_line s)) →
        IsUpTo s.time (unwrap_or (if b then Some line.1 else belonging is_same_flow lines s.flow) (first_line s))
    by true rest = All-head (λ line. IsUpTo s.time line.1) line lines up
    by false rest = rest

same_line : (line : FlowLine) (s : Sight) → IsUpTo s.time line → with_sight line s ≡ ending_at line s
same_line line s up = λ i. record (with_sight line s) { begun = min-eq_left up.begun i; last = max-eq_right up.last i }

one_up_to : (s : Sight) (value : FlowLine) → IsUpTo s.time value → (lines : Lines) → AreUpTo s.time lines → AreUpTo s.time (noted is_same_flow lines s.flow value)
one_up_to s value own lines up = by (is_seen is_same_flow (keys_of lines) s.flow)
  where
    renewed : (line : FiveTuple × FlowLine) → IsUpTo s.time line.1 → IsUpTo s.time (with_value is_same_flow s.flow value line).1
    renewed line is = either (is_same_flow s.flow line.0)
      where
        either : (b : Bool) → IsUpTo s.time (if b then (line.0, value) else line).1
        either true = own
        either false = is

    by : (b : Bool) → AreUpTo s.time (if b then map (with_value is_same_flow s.flow value) lines else lines ++ (s.flow, value) ∷ [])
    by true =
        All-map (λ line. IsUpTo s.time line.1) (with_value is_same_flow s.flow value) lines
        (All-weaker (λ line. IsUpTo s.time line.1) (λ line. IsUpTo s.time (with_value is_same_flow s.flow value line).1) renewed lines up)
    by false = All-push (λ line. IsUpTo s.time line.1) lines (s.flow, value) up own

same_counts : (time : ℕ) (sights : List Sight) (lines : Lines) → AreInOrderOfTime time sights → AreUpTo time lines → counted_all lines sights ≡ fold counted_to_last lines sights
same_counts time [] lines ordered up = refl
same_counts time (s ∷ sights) lines ordered up =
    let now : AreUpTo s.time lines = later_too time s.time ordered.0 lines up in
    let before : IsUpTo s.time (unwrap_or (belonging is_same_flow lines s.flow) (first_line s)) = before_up_to lines s now in
    let same : counted lines s ≡ counted_to_last lines s = ap (noted is_same_flow lines s.flow) (same_line (unwrap_or (belonging is_same_flow lines s.flow) (first_line s)) s before) in
    ap (λ l. counted_all l sights) same
    ∙ same_counts s.time sights (counted_to_last lines s) ordered.1
    (one_up_to s (ending_at (unwrap_or (belonging is_same_flow lines s.flow) (first_line s)) s) (record { begun = before.begun; last = omega arith }) lines now)

pub last_packets_end : (sights : List Sight) → AreInOrderOfTime 0 sights → counted_all [] sights ≡ fold counted_to_last [] sights
last_packets_end sights ordered = same_counts 0 sights [] ordered (All-nil (λ (line : FiveTuple × FlowLine). IsUpTo 0 line.1))
