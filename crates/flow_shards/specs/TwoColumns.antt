-- For proofs: keys in one list beside their values in another.
use Rattle.std.specs.Prelude.{◌≡◌, List, Bool, length}
use Rattle.std.specs.List.{IsDistinct}

-- each key has a value, and no two keys are equal
pub record AreColumns {K V : Type 0} (eq : K → K → Bool) (keys : List K) (values : List V) : Type 0 where
  pub as_many : length values ≡ length keys
  pub distinct : IsDistinct eq keys
