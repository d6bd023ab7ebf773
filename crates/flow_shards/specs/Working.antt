-- For proofs: workers with their shards.
use Rattle.std.specs.Prelude.{◌≡◌, ℕ, ⊤, List, [], ◌∷◌, map, filter, length, Result, IfOk}
use Rattle.std.specs.List.{range_with_len, zip}
use Rattle.flow_shards.specs.Flows.{Lines, counted_all}
use Rattle.flow_shards.specs.Sharding.{is_own}
use Rattle.flow_shards.specs.declared.beside.Job.{Job}
use Rattle.flow_shards.specs.declared.sight.Sight.{Sight}

-- each worker, counted from 0, with its shard
abbrev pub jobs_of : List Lines → List Job
jobs_of tables = map (λ job. record { worker = job.0; table = job.1 }) (zip (range_with_len 0 (length tables)) tables)

-- a worker has counted the packets of its shard, if its memory sufficed
abbrev pub IsCounted : {E : Type 0} → ℕ → List Sight → Job → Result Lines E → Type 0
IsCounted workers sights job result = IfOk result (λ after. after ≡ counted_all job.table (filter (is_own workers job.worker) sights))

-- each worker has, in their order
abbrev pub AreCounted : {E : Type 0} → ℕ → List Sight → List Job → List (Result Lines E) → Type 0
AreCounted workers sights [] [] = ⊤
AreCounted workers sights [] (result ∷ results) = ⊥
AreCounted workers sights (job ∷ jobs) [] = ⊥
AreCounted workers sights (job ∷ jobs) (result ∷ results) = IsCounted workers sights job result × AreCounted workers sights jobs results
