-- For proofs: the ends that a node puts messages into.
use Rattle.std.specs.Prelude.{Bool}

-- the ends, and whether the last item that went into them was short
pub record PlainGiving (E : Type 0) : Type 0 where
  pub ends : E
  pub short : Bool
