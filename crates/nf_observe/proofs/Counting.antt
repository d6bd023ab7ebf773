-- The counts of a flow are those of its packets.
use Rattle.std.proofs.Common.{◌≡◌, ◌+◌, ◌-◌, ◌^◌, ◌∙◌, ℕ, List, [], ◌∷◌, length, Bool, true, false, refl, sym, ap, arith}
use Rattle.std.specs.Prelude.{min, if◌then◌else◌, Option, Some, unwrap_or, fold}
use Rattle.std.proofs.lemmas.List.Sums.{sum_by-cons}
use Rattle.std.specs.HashMap.Eq.{lookup_congr}
use Rattle.std.specs.List.{sum_by}
use Rattle.first_sight.specs.FirstSight.{belonging, noted}
use Rattle.nf_observe.specs.Flows.{count_up_to, no_packets, with_packet, counted}
use Rattle.packet_function.specs.SameFlow.{is_same_flow}
use Rattle.packet_function.specs.SameFlowLaws.{same_flow}
use Rattle.nf_observe.specs.Counting.{Sight, flows_with, counts_of, of_flow, totals}
use Rattle.packet_function.specs.declared.flow.FiveTuple.{FiveTuple}
use Rattle.nf_observe.specs.declared.flow.FlowCounts.{FlowCounts}

-- what is noted for a flow is found
abbrev IsFound : Type 0
IsFound = (flows : List (FiveTuple × FlowCounts)) (flow asked : FiveTuple) (counts : FlowCounts) →
    belonging is_same_flow (noted is_same_flow flows flow counts) asked ≡ (if is_same_flow asked flow then Some counts else belonging is_same_flow flows asked)

pick : (b : Bool) (raised counts : FlowCounts) (o : Option FlowCounts) (n : ℕ) → (b ≡ true → raised ≡ with_packet counts n) → unwrap_or o no_packets ≡ counts →
    unwrap_or (if b then Some raised else o) no_packets ≡ (if b then with_packet counts n else counts)
pick true raised counts o n h g = h refl
pick false raised counts o n h g = g

one_more : IsFound → (flows : List (FiveTuple × FlowCounts)) (k : FiveTuple) (n : ℕ) (q : FiveTuple) →
    counts_of (counted flows k n) q ≡ (if is_same_flow q k then with_packet (counts_of flows q) n else counts_of flows q)
one_more found flows k n q =
    ap (λ o. unwrap_or o no_packets) (found flows k q (with_packet (counts_of flows k) n))
    ∙ pick (is_same_flow q k) (with_packet (counts_of flows k) n) (counts_of flows q) (belonging is_same_flow flows q) n
    (λ same. ap (λ o. with_packet (unwrap_or o no_packets) n) (sym (lookup_congr is_same_flow same_flow.congr flows q k same))) refl

-- counts with these packets, all of one flow
grown : FlowCounts → List Sight → FlowCounts
grown counts packets = fold (λ c p. with_packet c p.1) counts packets

grows : (b : Bool) (counts : FlowCounts) (p : Sight) (packets : List Sight) → grown (if b then with_packet counts p.1 else counts) packets ≡ grown counts (if b then p ∷ packets else packets)
unfolding grown
grows true counts p packets = refl
grows false counts p packets = refl

of_packets : IsFound → (packets : List Sight) (flows : List (FiveTuple × FlowCounts)) (q : FiveTuple) → counts_of (flows_with flows packets) q ≡ grown (counts_of flows q) (of_flow q packets)
unfolding grown
of_packets found [] flows q = refl
of_packets found (p ∷ packets) flows q =
    of_packets found packets (counted flows p.0 p.1) q
    ∙ ap (λ c. grown c (of_flow q packets)) (one_more found flows p.0 p.1 q)
    ∙ grows (is_same_flow q p.0) (counts_of flows q) p (of_flow q packets)

-- both counts, each up to the largest
both : ℕ → ℕ → FlowCounts
both packets bytes = record { packets = count_up_to packets; bytes = count_up_to bytes }

alike : {m n k l : ℕ} → m ≡ n → k ≡ l → both m k ≡ both n l
unfolding both
alike e f = cc

raised : (packets bytes more : ℕ) → with_packet (both packets bytes) more ≡ both (packets + 1) (bytes + more)
unfolding both
raised packets bytes more = same (stops packets 1) (stops bytes more)
  where
    stops : (n more : ℕ) → min (min n (2 ^ 64 - 1) + more) (2 ^ 64 - 1) ≡ min (n + more) (2 ^ 64 - 1)
    stops n more = omega arith

    same : {m n k l : ℕ} → m ≡ n → k ≡ l → ◌≡◌ {A = FlowCounts} (record { packets = m; bytes = k }) (record { packets = n; bytes = l })
    same e f = cc

sums : (packets : List Sight) (a b : ℕ) → grown (both a b) packets ≡ both (a + length packets) (b + sum_by (λ p. p.1) packets)
unfolding grown
sums [] a b = alike (omega arith) (omega arith)
sums (p ∷ packets) a b =
    let first : sum_by (λ q. q.1) (p ∷ packets) ≡ p.1 + sum_by (λ q. q.1) packets = sum_by-cons (λ q. q.1) p packets in
    ap (λ c. grown c packets) (raised a b p.1) ∙ sums packets (a + 1) (b + p.1) ∙ alike (omega arith) (omega (arith, first))

as_totals : (packets : List Sight) → both (length packets) (sum_by (λ p. p.1) packets) ≡ totals packets
unfolding both
as_totals packets = refl

none_counted : both 0 0 ≡ no_packets
unfolding both
none_counted = refl

pub counts_packets : IsFound → (packets : List Sight) (flow : FiveTuple) → counts_of (flows_with [] packets) flow ≡ totals (of_flow flow packets)
counts_packets found packets flow =
    let own = of_flow flow packets in
    of_packets found packets [] flow ∙ ap (λ c. grown c own) (sym none_counted) ∙ sums own 0 0 ∙ alike (omega arith) (omega arith) ∙ as_totals own
