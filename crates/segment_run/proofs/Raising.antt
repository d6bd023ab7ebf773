-- Counts that rise once, and again.
use Rattle.std.proofs.Common.{◌≡◌, ◌≤◌, ◌+◌, ℕ, List, arith}
use Rattle.packet_fields.specs.declared.field.Field.{Field}
use Rattle.packet_version.specs.Tallies.{count_of, raised}
use Rattle.graph_run.specs.Counting.{RaisesAll, RaisesUpTo}

raised_twice : (c a m all now new : ℕ) → now ≡ raised c a → new ≡ raised now m → all ≡ a + m → new ≡ raised c all
raised_twice c a m all now new x y e = omega arith

bounded_twice : (c a m all now new : ℕ) → now ≡ raised c a → now ≤ new → new ≤ raised now m → a + m ≤ all → (c ≤ new) × (new ≤ raised c all)
bounded_twice c a m all now new x low high e = (omega arith, omega arith)

bounded_once : (c a all new : ℕ) → c ≤ new → new ≤ raised c a → a ≤ all → (c ≤ new) × (new ≤ raised c all)
bounded_once c a all new low high e = (omega arith, omega arith)

pub raises_more : (first later all : Field → ℕ) (old new newer : List ℕ) → ((f : Field) → all f ≡ first f + later f) → RaisesAll first old new → RaisesAll later new newer → RaisesAll all old newer
raises_more first later all old new newer sum one two = λ f. raised_twice (count_of old f) (first f) (later f) (all f) (count_of new f) (count_of newer f) (one f) (two f) (sum f)

pub raises_bounded : (first later all : Field → ℕ) (old new newer : List ℕ) → ((f : Field) → first f + later f ≤ all f) → RaisesAll first old new → RaisesUpTo later new newer → RaisesUpTo all old newer
raises_bounded first later all old new newer sum one two = λ f. bounded_twice (count_of old f) (first f) (later f) (all f) (count_of new f) (count_of newer f) (one f) (two f).0 (two f).1 (sum f)

pub raises_within : (by all : Field → ℕ) (old new : List ℕ) → ((f : Field) → by f ≤ all f) → RaisesUpTo by old new → RaisesUpTo all old new
raises_within by all old new sum one = λ f. bounded_once (count_of old f) (by f) (all f) (count_of new f) (one f).0 (one f).1 (sum f)

made : (c a all new : ℕ) → new ≡ raised c a → a ≤ all → (c ≤ new) × (new ≤ raised c all)
made c a all new is e = (omega arith, omega arith)

pub all_made : (by all : Field → ℕ) (old new : List ℕ) → ((f : Field) → by f ≤ all f) → RaisesAll by old new → RaisesUpTo all old new
all_made by all old new sum one = λ f. made (count_of old f) (by f) (all f) (count_of new f) (one f) (sum f)

pub none_raised : (by : Field → ℕ) (old : List ℕ) → ((f : Field) → by f ≡ 0) → RaisesAll by old old
none_raised by old none = λ f. let zero_made = none f in omega (arith, zero_made)
