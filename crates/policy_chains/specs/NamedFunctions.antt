-- Believed: functions with their names: how they behave.
use Rattle.std.specs.Prelude.{ℕ, List, map}
use Rattle.chain_walk.specs.Shown.{Shown}
use Rattle.chain_walk.specs.Step.{Step, Behaviour}
use Rattle.packet_function.specs.Deciding.{Deciding}
use Rattle.net_functions.specs.NetFunctions.{lines_of, net_behaviour, net_decides}
use Rattle.policy_chains.specs.declared.named.NamedFunction.{NamedFunction}

-- it does what its function does, and keeps its name
abbrev pub named_step : NamedFunction → Shown → Step NamedFunction
named_step f shown = record {
  after = record f { function = (net_behaviour.step f.function shown).after };
  verdict = (net_behaviour.step f.function shown).verdict;
  written = (net_behaviour.step f.function shown).written;
}

-- how functions with their names behave
abbrev pub named_behaviour : Behaviour NamedFunction
named_behaviour = record { profile = λ f. net_behaviour.profile f.function; step = named_step }

-- the lines that decide are those of its function
abbrev pub named_decides : Deciding NamedFunction
named_decides f shown = net_decides f.function shown

-- the lines in which a function reports its state
abbrev pub named_lines : NamedFunction → List ℕ
named_lines f = lines_of f.function

-- the names of functions, in their order
abbrev pub names_of : List NamedFunction → List (List ℕ)
names_of functions = map (λ f. f.name) functions
