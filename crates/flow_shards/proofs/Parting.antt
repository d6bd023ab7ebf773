-- Shards that are the parts of lines in order are one list: those lines.
use Rattle.std.proofs.Common.{◌≡◌, ◌≤◌, ◌<◌, ◌∙◌, ℕ, List, [], filter, length, get_or, sym, ap, subst, arith}
use Rattle.std.specs.Prelude.{All}
use Rattle.std.specs.List.{IsDistinct}
use Rattle.std.proofs.lemmas.List.FromFn.{length-map-range_with_len, get_or-map-range_with_len}
use Rattle.flow_shards.specs.Flows.{Lines}
use Rattle.flow_shards.specs.Sharding.{in_shard, parts, flat, in_order, AreOrdered, AreParted, IsKeyed, ShardsView}
use Rattle.flow_shards.proofs.Ordering.{together}

pub length-parts : (workers : ℕ) (lines : Lines) → length (parts workers lines) ≡ workers
length-parts workers lines = length-map-range_with_len (λ worker. filter (in_shard workers worker) lines) 0 workers

-- the shard of a worker among those of all
pub part_of : (workers worker : ℕ) (lines : Lines) (d : Lines) → worker < workers → get_or (parts workers lines) worker d ≡ filter (in_shard workers worker) lines
part_of workers worker lines d inside = get_or-map-range_with_len (λ w. filter (in_shard workers w) lines) 0 workers worker worker d inside (omega arith)

module _ (workers last : ℕ) (lines : Lines) (tables : List Lines) (some : 1 ≤ workers) (few : workers ≤ 16) (are : tables ≡ parts workers lines) (ordered : AreOrdered last lines) where
  pub count_of : length tables ≡ workers
  count_of = ap length are ∙ length-parts workers lines

  pub lines_of : in_order (flat tables) ≡ lines
  lines_of = ap (λ t. in_order (flat t)) are ∙ together workers lines some ordered.rising

  pub are_parted : All IsKeyed lines → AreParted last tables
  are_parted keyed = record {
    some = omega (arith, count_of, some);
    few = omega (arith, count_of, few);
    parted = are ∙ ap (λ n. parts n lines) (sym count_of) ∙ ap (parts (length tables)) (sym lines_of);
    ordered = subst (AreOrdered last) (sym lines_of) ordered;
    keyed = subst (All IsKeyed) (sym lines_of) keyed;
  }

  pub view_of : ◌≡◌ {A = ShardsView} (record { workers = length tables; last = last; lines = in_order (flat tables) }) (record { workers = workers; last = last; lines = lines })
  view_of = λ i. record { workers = count_of i; last = last; lines = lines_of i }

pub no_lines : (last : ℕ) → AreOrdered last []
unfolding IsDistinct
no_lines last = record { rising = tt; distinct = tt; within = tt; few = omega arith }
