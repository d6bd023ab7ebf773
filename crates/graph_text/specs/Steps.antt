-- Believed: what a call gave: the due value, or the due fault, unless it ran out of memory.
use Rattle.std.specs.Prelude.{◌≡◌, Result, Ok, Err}
use Rattle.graph_text.specs.declared.fault.GraphFault.{GraphFault}
use Rattle.graph_text.specs.declared.fault.GraphReadFault.{GraphReadFault}
use Rattle.graph_text.specs.declared.fault.GraphReadFault.TheVariants.{Graph, OutOfMemory}

abbrev pub IsFaultOf : {A : Type 0} → GraphReadFault → Result A GraphFault → Type 0
IsFaultOf OutOfMemory due = Unit {0}
IsFaultOf (Graph fault) due = due ≡ Err fault

-- A call gave the due value, as `view` sees it, or the due fault, unless it ran out of memory.
abbrev pub Gives : {A B : Type 0} → (A → B) → Result A GraphReadFault → Result B GraphFault → Type 0
Gives view (Ok x) due = due ≡ Ok (view x)
Gives view (Err fault) due = IsFaultOf fault due
