-- Packets counted shard by shard.
use Rattle.std.proofs.Common.{◌≡◌, ◌∙◌, ℕ, List, [], ◌∷◌, filter, Bool, true, false, refl, sym, ap}
use Rattle.std.specs.Prelude.{◌==◌, if◌then◌else◌, unwrap_or}
use Rattle.first_sight.specs.FirstSight.{belonging, noted}
use Rattle.packet_function.specs.SameFlow.{is_same_flow}
use Rattle.packet_function.specs.declared.flow.FiveTuple.{FiveTuple}
use Rattle.flow_line.specs.declared.line.FlowLine.{FlowLine}
use Rattle.flow_shards.specs.Flows.{Lines, first_line, with_sight, counted, counted_all}
use Rattle.flow_shards.specs.Sharding.{has_flow, in_shard, is_own, counted_if_own}
use Rattle.flow_shards.specs.declared.sight.Sight.{Sight}
use Rattle.flow_shards.proofs.Keeping.{kept-noted, kept-left, kept-belonging}
use Rattle.flow_shards.proofs.SameKeys.{same_shard}

abbrev value : Lines → Sight → FlowLine
value lines s = with_sight (unwrap_or (belonging is_same_flow lines s.flow) (first_line s)) s

-- a packet, in the shard of a worker
one_counted : (workers worker : ℕ) (lines : Lines) (s : Sight) → filter (in_shard workers worker) (counted lines s) ≡ counted_if_own workers worker (filter (in_shard workers worker) lines) s
one_counted workers worker lines s = by (is_own workers worker s) refl
  where
    alike : (a b : FiveTuple) → is_same_flow a b ≡ true → has_flow workers worker a ≡ has_flow workers worker b
    alike a b same = ap (λ shard. shard == worker) (same_shard workers a b same)

    by : (b : Bool) → is_own workers worker s ≡ b → filter (in_shard workers worker) (counted lines s) ≡ (if b then counted (filter (in_shard workers worker) lines) s else filter (in_shard workers worker) lines)
    by true own =
        kept-noted is_same_flow (has_flow workers worker) alike s.flow (value lines s) own lines
        ∙ ap (λ o. noted is_same_flow (filter (in_shard workers worker) lines) s.flow (with_sight (unwrap_or o (first_line s)) s)) (sym (kept-belonging is_same_flow (has_flow workers worker) alike s.flow own lines))
    by false other = kept-left is_same_flow (has_flow workers worker) alike s.flow (value lines s) other lines

pub all_counted : (workers worker : ℕ) (lines : Lines) (sights : List Sight) →
    filter (in_shard workers worker) (counted_all lines sights) ≡ counted_all (filter (in_shard workers worker) lines) (filter (is_own workers worker) sights)
all_counted workers worker lines [] = refl
all_counted workers worker lines (s ∷ sights) =
    all_counted workers worker (counted lines s) sights
    ∙ ap (λ l. counted_all l (filter (is_own workers worker) sights)) (one_counted workers worker lines s)
    ∙ by (is_own workers worker s)
  where
    own : Lines
    own = filter (in_shard workers worker) lines

    by : (b : Bool) → counted_all (if b then counted own s else own) (filter (is_own workers worker) sights) ≡ counted_all own (if b then s ∷ filter (is_own workers worker) sights else filter (is_own workers worker) sights)
    by true = refl
    by false = refl

pub own_counted : (workers worker : ℕ) (sights : List Sight) → filter (in_shard workers worker) (counted_all [] sights) ≡ counted_all [] (filter (is_own workers worker) sights)
own_counted workers worker sights = all_counted workers worker [] sights
