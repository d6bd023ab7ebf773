-- What workers counted one after another is what each of them counted.
use Rattle.std.proofs.Common.{◌≡◌, ◌<◌, ℕ, List, [], ◌∷◌, ◌++◌, length, get_or, ap, refl, suc, zero, arith}
use Rattle.std.specs.Prelude.{Result}
use Rattle.flow_shards.specs.Flows.{Lines}
use Rattle.flow_shards.specs.Working.{AreCounted, IsCounted}
use Rattle.flow_shards.specs.declared.beside.Job.{Job}
use Rattle.flow_shards.specs.declared.sight.Sight.{Sight}

pub one_more : {E : Type 0} (workers : ℕ) (sights : List Sight) (jobs : List Job) (results : List (Result Lines E)) (job : Job) (result : Result Lines E) → AreCounted workers sights jobs results → IsCounted workers sights job result →
    AreCounted workers sights (jobs ++ job ∷ []) (results ++ result ∷ [])
one_more workers sights [] [] job result all one = (one, tt)
one_more workers sights [] (r ∷ rs) job result all one = absurd all
one_more workers sights (j ∷ js) [] job result all one = absurd all
one_more workers sights (j ∷ js) (r ∷ rs) job result all one = (all.0, one_more workers sights js rs job result all.1 one)

pub as_many : {E : Type 0} (workers : ℕ) (sights : List Sight) (jobs : List Job) (results : List (Result Lines E)) → AreCounted workers sights jobs results → length results ≡ length jobs
as_many workers sights [] [] all = refl
as_many workers sights [] (r ∷ rs) all = absurd all
as_many workers sights (j ∷ js) [] all = absurd all
as_many workers sights (j ∷ js) (r ∷ rs) all = ap (λ n. suc n) (as_many workers sights js rs all.1)

pub each_so : {E : Type 0} (workers : ℕ) (sights : List Sight) (jobs : List Job) (results : List (Result Lines E)) → AreCounted workers sights jobs results → (k : ℕ) (d : Job) (e : Result Lines E) → k < length jobs →
    IsCounted workers sights (get_or jobs k d) (get_or results k e)
each_so workers sights [] [] all k d e inside = absurd (omega (arith, inside))
each_so workers sights [] (r ∷ rs) all k d e inside = absurd all
each_so workers sights (j ∷ js) [] all k d e inside = absurd all
each_so workers sights (j ∷ js) (r ∷ rs) all zero d e inside = all.0
each_so workers sights (j ∷ js) (r ∷ rs) all (suc k) d e inside = each_so workers sights js rs all.1 k d e (omega (arith, inside))
