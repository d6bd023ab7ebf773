-- Believed: what becomes of a packet that passes or doesn't.
use Rattle.std.specs.Prelude.{Bool, true, false}
use Rattle.chain_walk.specs.declared.verdict.Verdict.{Verdict}
use Rattle.chain_walk.specs.declared.verdict.Verdict.TheVariants.{Pass, Drop}

-- a packet that doesn't pass is dropped
abbrev pub verdict_by : Bool → Verdict
verdict_by true = Pass
verdict_by false = Drop
