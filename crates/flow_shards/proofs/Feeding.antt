-- What workers counted, each its own packets, are the shards of what was counted for all.
use Rattle.std.proofs.Common.{◌≡◌, ◌<◌, ◌∙◌, ℕ, List, [], map, filter, length, get_or, refl, sym, ap, subst, arith}
use Rattle.std.specs.Prelude.{All, Result, Ok, filter_map}
use Rattle.std.specs.List.{range_with_len, zip}
use Rattle.std.proofs.Math.ListN.{get_or-map}
use Rattle.std.proofs.lemmas.List.{length-map, ext_get_or}
use Rattle.std.proofs.lemmas.List.FromFn.{length-range_with_len, get_or-range_with_len}
use Rattle.std.proofs.lemmas.Slice.Zip.{length-zip, get_or-zip}
use Rattle.capture_bytes.specs.declared.packet.Unit.{Unit as TimeUnit}
use Rattle.classifier.specs.declared.burst.Item.{Item}
use Rattle.flow_shards.specs.Flows.{Lines, counted_all, sight_of, flows_from}
use Rattle.flow_shards.specs.Sharding.{is_own, parts, flat, in_order, AreRising, AreOrdered, AreParted, HasFittingFlow, IsKeyed, last_of}
use Rattle.flow_shards.specs.Working.{IsCounted, jobs_of}
use Rattle.flow_shards.specs.declared.beside.Job.{Job}
use Rattle.flow_shards.specs.declared.sight.Sight.{Sight}
use Rattle.flow_shards.proofs.Keyed.{all_keyed}
use Rattle.flow_shards.proofs.OwnPackets.{all_counted}
use Rattle.flow_shards.proofs.Parting.{part_of, are_parted, lines_of, length-parts}
use Rattle.flow_shards.proofs.Rising.{ordered_all}

abbrev job_by : ℕ × Lines → Job
job_by job = record { worker = job.0; table = job.1 }

pub length-jobs : (tables : List Lines) → length (jobs_of tables) ≡ length tables
length-jobs tables =
    let zipped = length-zip (range_with_len 0 (length tables)) tables in
    let numbers = length-range_with_len 0 (length tables) in
    length-map (zip (range_with_len 0 (length tables)) tables) job_by ∙ omega (arith, zipped, numbers)

job_at : (tables : List Lines) (k : ℕ) → k < length tables → get_or (jobs_of tables) k (record { worker = 0; table = [] }) ≡ record { worker = k; table = get_or tables k [] }
job_at tables k inside =
    let numbers = length-range_with_len 0 (length tables) in
    let number : get_or (range_with_len 0 (length tables)) k 0 ≡ k = get_or-range_with_len 0 (length tables) k 0 inside ∙ omega arith in
    get_or-map job_by (zip (range_with_len 0 (length tables)) tables) k (0, [])
    ∙ ap job_by (get_or-zip (range_with_len 0 (length tables)) tables k (0, []) (omega (arith, numbers, inside)) inside)
    ∙ ap (λ n. job_by (n, get_or tables k [])) number

module _ {E : Type 0} (tables after : List Lines) (counted : List (Result Lines E)) (all : map (λ table. Ok table) after ≡ counted) where
  pub count_counted : length counted ≡ length (jobs_of tables) → length after ≡ length tables
  count_counted size = sym (length-map after (λ table. Ok table)) ∙ ap length all ∙ size ∙ length-jobs tables

  abbrev found : ℕ → Result Lines E
  found k = Ok (get_or after k [])

  pub each_counted : (workers : ℕ) (sights : List Sight) → workers ≡ length tables →
      ((k : ℕ) (d : Job) (e : Result Lines E) → k < length (jobs_of tables) → IsCounted workers sights (get_or (jobs_of tables) k d) (get_or counted k e)) →
      (k : ℕ) → k < length tables → get_or after k [] ≡ counted_all (get_or tables k []) (filter (is_own (length tables) k) sights)
  each_counted workers sights are each k inside =
      let size = length-jobs tables in
      let own : get_or after k [] ≡ counted_all (get_or tables k []) (filter (is_own workers k) sights) =
      subst (λ job. IsCounted workers sights job (found k)) (job_at tables k inside)
      (subst (λ r. IsCounted workers sights (get_or (jobs_of tables) k (record { worker = 0; table = [] })) r) (ap (λ l. get_or l k (Ok [])) (sym all) ∙ get_or-map (λ table. Ok table) after k [])
      (each k (record { worker = 0; table = [] }) (Ok []) (omega (arith, size, inside)))) in
      own ∙ ap (λ n. counted_all (get_or tables k []) (filter (is_own n k) sights)) are

-- if the shards were the parts of lines, they are the parts of the lines with these packets
after_is : (workers : ℕ) (lines : Lines) (tables after : List Lines) (sights : List Sight) → tables ≡ parts workers lines → length tables ≡ workers → length after ≡ length tables →
    ((k : ℕ) → k < length tables → get_or after k [] ≡ counted_all (get_or tables k []) (filter (is_own (length tables) k) sights)) → after ≡ parts workers (counted_all lines sights)
after_is workers lines tables after sights are size same each =
    let sized = length-parts workers (counted_all lines sights) in
    ext_get_or [] after (parts workers (counted_all lines sights)) (omega (arith, same, size, sized)) (λ k inside.
    (let there : k < workers = omega (arith, inside, same, size) in
    each k (omega (arith, inside, same))
    ∙ ap (λ n. counted_all (get_or tables k []) (filter (is_own n k) sights)) size
    ∙ ap (λ t. counted_all t (filter (is_own workers k) sights)) (ap (λ t. get_or t k []) are ∙ part_of workers k lines [] there)
    ∙ sym (all_counted workers k lines sights)
    ∙ sym (part_of workers k (counted_all lines sights) [] there)))

module _ (unit : TimeUnit) (items : List Item) (last next : ℕ) (tables after : List Lines) (sights : List Sight)
    (parted : AreParted last tables) (same : length after ≡ length tables)
    (each : (k : ℕ) → k < length tables → get_or after k [] ≡ counted_all (get_or tables k []) (filter (is_own (length tables) k) sights))
    (seen : sights ≡ filter_map (sight_of unit) items) (rising : AreRising last items) (end : next ≡ last_of last items) where
  abbrev lines : Lines
  lines = in_order (flat tables)

  parts_fed : after ≡ parts (length tables) (flows_from unit lines items)
  parts_fed = after_is (length tables) lines tables after sights parted.parted refl same each ∙ ap (λ s. parts (length tables) (counted_all lines s)) seen

  ordered_fed : AreOrdered next (flows_from unit lines items)
  ordered_fed = subst (λ n. AreOrdered n (flows_from unit lines items)) (sym end) (ordered_all unit items last lines parted.ordered rising)

  pub parted_fed : All HasFittingFlow sights → AreParted next after
  parted_fed fits =
      let keyed : All IsKeyed (flows_from unit lines items) = subst (λ s. All IsKeyed (counted_all lines s)) seen (all_keyed sights lines parted.keyed fits) in
      are_parted (length tables) next (flows_from unit lines items) after parted.some parted.few parts_fed ordered_fed keyed

  pub lines_fed : in_order (flat after) ≡ flows_from unit lines items
  lines_fed = lines_of (length tables) next (flows_from unit lines items) after parted.some parted.few parts_fed ordered_fed
