-- For proofs: what becomes of a packet after a stage.
use Rattle.std.specs.Prelude.{ℕ, min, nat_lt, List, [], ◌∷◌, if◌then◌else◌, Option, Some, None}
use Rattle.chain_walk.specs.Shown.{Values}
use Rattle.chain_walk.specs.FieldWalk.{End, End.Out, End.Gone}
use Rattle.graph_law.specs.Branches.{Version, BranchEnd, BranchEnd.Live, BranchEnd.Nil}

-- the lesser of two positions, if there are two
abbrev pub lesser : ℕ → Option ℕ → Option ℕ
lesser p None = Some p
lesser p (Some q) = Some (min p q)

-- the least position at which the packet was dropped
unfoldable pub least_nil : List BranchEnd → Option ℕ
least_nil [] = None
least_nil (Live v ∷ others) = least_nil others
least_nil (Nil p ∷ others) = lesser p (least_nil others)

-- field by field, what the later writer wrote
abbrev pub later : Version → Version → Version
later best v = record {
  values = λ f. if nat_lt (best.writers f) (v.writers f) then v.values f else best.values f;
  writers = λ f. if nat_lt (best.writers f) (v.writers f) then v.writers f else best.writers f;
}

-- field by field, the value written last
unfoldable pub latest : Version → List BranchEnd → Version
latest best [] = best
latest best (Live v ∷ others) = latest (later best v) others
latest best (Nil p ∷ others) = latest best others

-- a packet as it arrived at the stage, with no writer
abbrev pub unwritten : Values → Version
unwritten values = record { values = values; writers = λ f. 0 }

unfoldable pub gone_or : Option ℕ → Values → End
gone_or (Some p) values = Gone p
gone_or None values = Out values

-- dropped at the least position, if it was dropped; else each field as written last, or as it arrived if it wasn't
unfoldable pub merged : Values → List BranchEnd → End
merged values arrivals = gone_or (least_nil arrivals) (latest (unwritten values) arrivals).values
