-- For proofs: which crew was started.
use Rattle.std.specs.Prelude.{List}
use Rattle.node_run.specs.declared.node.Node.{Node}
use Rattle.node_run.specs.declared.start.Started.{Started}
use Rattle.node_run.specs.declared.start.Started.TheVariants.{There, Here}

abbrev pub crew_of : {F : Type 0} {g : _} → Started F g → List (Node F)
crew_of (There h) = h.promise.0.value
crew_of (Here e) = e.crew.value
