-- Lines keep the keys of their flows while packets are counted.
use Rattle.std.proofs.Common.{◌≡◌, ◌∙◌, ℕ, List, [], ◌∷◌, ◌++◌, map, filter, Bool, true, false, refl, sym, ap, subst}
use Rattle.std.specs.Prelude.{◌==◌, All, if◌then◌else◌, Some, unwrap_or}
use Rattle.std.specs.Map.{keys_of, values_of}
use Rattle.std.proofs.lemmas.List.Elements.{All-head, All-tail, All-map, All-push, All-weaker}
use Rattle.first_sight.specs.FirstSight.{is_seen, belonging, with_value}
use Rattle.flow_line.specs.Versions.{FitsVersion, HasFittingKey}
use Rattle.flow_line.specs.declared.line.FlowLine.{FlowLine}
use Rattle.packet_function.specs.SameFlow.{is_same_flow}
use Rattle.packet_function.specs.declared.flow.FiveTuple.{FiveTuple}
use Rattle.flow_shards.specs.Flows.{Lines, counted, counted_all, first_line, with_sight, key_of}
use Rattle.flow_shards.specs.Sharding.{HasFittingFlow, IsKeyed, in_shard, is_in_shard, shard_of}
use Rattle.flow_shards.specs.declared.sight.Sight.{Sight}
use Rattle.flow_shards.proofs.SameKeys.{same_key}

-- what is counted for a packet's flow so far has the key of that flow
abbrev line_before : Lines → Sight → FlowLine
line_before lines s = unwrap_or (belonging is_same_flow lines s.flow) (first_line s)

own_key : (s : Sight) (lines : Lines) → All IsKeyed lines → (line_before lines s).key ≡ key_of s.flow
own_key s [] keyed = refl
own_key s (line ∷ lines) keyed = by (is_same_flow s.flow line.0) refl (own_key s lines (All-tail IsKeyed line lines keyed))
  where
    by : (b : Bool) → is_same_flow s.flow line.0 ≡ b → (line_before lines s).key ≡ key_of s.flow →
        (unwrap_or (if b then Some line.1 else belonging is_same_flow lines s.flow) (first_line s)).key ≡ key_of s.flow
    by true same rest = (All-head IsKeyed line lines keyed).key ∙ sym (same_key s.flow line.0 same)
    by false other rest = rest

one_renewed : (flow : FiveTuple) (value : FlowLine) → value.key ≡ key_of flow → (line : FiveTuple × FlowLine) → IsKeyed line → IsKeyed (with_value is_same_flow flow value line)
one_renewed flow value own line keyed = by (is_same_flow flow line.0) refl
  where
    by : (b : Bool) → is_same_flow flow line.0 ≡ b → IsKeyed (if b then (line.0, value) else line)
    by true same = record { key = own ∙ same_key flow line.0 same; fits = keyed.fits }
    by false other = keyed

one_keyed : (lines : Lines) (s : Sight) → All IsKeyed lines → HasFittingFlow s → All IsKeyed (counted lines s)
one_keyed lines s keyed fits = by (is_seen is_same_flow (keys_of lines) s.flow)
  where
    value : FlowLine
    value = with_sight (line_before lines s) s

    own : value.key ≡ key_of s.flow
    own = own_key s lines keyed

    by : (b : Bool) → All IsKeyed (if b then map (with_value is_same_flow s.flow value) lines else lines ++ (s.flow, value) ∷ [])
    by true =
        All-map IsKeyed (with_value is_same_flow s.flow value) lines
        (All-weaker IsKeyed (λ line. IsKeyed (with_value is_same_flow s.flow value line)) (one_renewed s.flow value own) lines keyed)
    by false = All-push IsKeyed lines (s.flow, value) keyed (record { key = own; fits = fits })

pub all_keyed : (sights : List Sight) (lines : Lines) → All IsKeyed lines → All HasFittingFlow sights → All IsKeyed (counted_all lines sights)
all_keyed [] lines keyed fits = keyed
all_keyed (s ∷ sights) lines keyed fits =
    all_keyed sights (counted lines s) (one_keyed lines s keyed (All-head HasFittingFlow s sights fits)) (All-tail HasFittingFlow s sights fits)

-- so their addresses have the size of their version
pub all_fit : (lines : Lines) → All IsKeyed lines → All HasFittingKey (values_of lines)
all_fit lines keyed =
    All-map HasFittingKey (λ line. line.1) lines
    (All-weaker IsKeyed (λ line. HasFittingKey line.1) (λ line is. subst FitsVersion (sym is.key) is.fits) lines keyed)

-- and a shard's lines are known by their keys
pub own_lines : (workers worker : ℕ) (lines : Lines) → All IsKeyed lines → values_of (filter (in_shard workers worker) lines) ≡ filter (is_in_shard workers worker) (values_of lines)
own_lines workers worker [] keyed = refl
own_lines workers worker (line ∷ lines) keyed =
    by (in_shard workers worker line) (own_lines workers worker lines (All-tail IsKeyed line lines keyed))
    ∙ ap (λ key. if shard_of workers key == worker then line.1 ∷ rest else rest) (sym (All-head IsKeyed line lines keyed).key)
  where
    rest : List FlowLine
    rest = filter (is_in_shard workers worker) (values_of lines)

    by : (b : Bool) → values_of (filter (in_shard workers worker) lines) ≡ rest →
        values_of (if b then line ∷ filter (in_shard workers worker) lines else filter (in_shard workers worker) lines) ≡ (if b then line.1 ∷ rest else rest)
    by true same = ap (λ l. line.1 ∷ l) same
    by false same = same
