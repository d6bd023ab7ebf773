-- What the rule has placed so far: the type has no name outside the crate of the rule.
use Rattle.graph_compile.specs.Stages.{nothing_placed}

abbrev type_of : {A : Type 0} (a : A) → Type 0
type_of {A = A} a = A

abbrev pub Draft : Type 0
Draft = type_of nothing_placed
