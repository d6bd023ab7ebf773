-- Believed: the line that reports why a text of graphs is refused.
use Rattle.std.specs.Prelude.{ℕ, List, [], ◌∷◌, codes}
use Rattle.std.specs.Fmt.{decimal}
use Rattle.graph_text.specs.Chains.{functions_at}
use Rattle.graph_text.specs.declared.fault.GraphFault.{GraphFault}
use Rattle.graph_text.specs.declared.fault.GraphFault.TheVariants.{TooLong, NotUtf8, BadVersionLine, Syntax, UnknownName, Twice, WholeChain, Missing, OutOfOrder, Forbidden}
use Rattle.policy_judge.specs.Lines.{action_text}
use Rattle.policy_text.specs.Names.{name_at}
use Rattle.policy_text.specs.declared.policy.ChainPolicy.{ChainPolicy}
use Rattle.text_lines.specs.Texts.{line_of}

-- what is wrong with a line of the text, counted from 1
unfoldable pub graph_at_line : ℕ → List ℕ → List ℕ
graph_at_line line fault = line_of (codes "graph: line " ∷ decimal line ∷ codes ": " ∷ fault ∷ [])

-- the name of the function at a place of the chain at a place, both counted from 0 as declared
abbrev pub name_in : List ChainPolicy → ℕ → ℕ → List ℕ
name_in chains chain function = name_at (functions_at chains chain) function

-- what is wrong with one function before another
unfoldable pub pair_line : List ℕ → List ℕ → List ℕ → List ℕ
pair_line first second fault = line_of (codes "graph: " ∷ first ∷ codes " before " ∷ second ∷ fault ∷ [])

-- two functions side by side, forbidden because of what one does before what the other does
unfoldable pub forbidden_line : List ℕ → List ℕ → List ℕ → List ℕ → List ℕ
forbidden_line first second action later = line_of (codes "graph: " ∷ first ∷ codes " before " ∷ second ∷ codes " forbidden: " ∷ action ∷ codes " before " ∷ later ∷ [])

-- the first fault; bytes are counted from 0, lines from 1
unfoldable pub graph_line : List ChainPolicy → GraphFault → List ℕ
graph_line chains TooLong = line_of (codes "graph: too long" ∷ [])
graph_line chains (NotUtf8 place) = line_of (codes "graph: not utf-8 at " ∷ decimal place ∷ [])
graph_line chains BadVersionLine = line_of (codes "graph: bad version line" ∷ [])
graph_line chains (Syntax line) = graph_at_line line (codes "syntax")
graph_line chains (UnknownName line) = graph_at_line line (codes "unknown name")
graph_line chains (Twice line) = graph_at_line line (codes "twice")
graph_line chains (WholeChain line) = graph_at_line line (codes "whole chain")
graph_line chains (Missing chain function) = line_of (codes "graph: missing " ∷ name_in chains chain function ∷ [])
graph_line chains (OutOfOrder chain first second) = pair_line (name_in chains chain first) (name_in chains chain second) (codes " out of order")
graph_line chains (Forbidden chain first second action later) = forbidden_line (name_in chains chain first) (name_in chains chain second) (action_text action) (action_text later)
