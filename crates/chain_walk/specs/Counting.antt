-- For proofs: functions whose counting is left out.
use Rattle.std.specs.Prelude.{◌≡◌, true, if◌then◌else◌}
use Rattle.chain_walk.specs.Shown.{Values}
use Rattle.chain_walk.specs.Step.{Step, Behaviour, stepped, nothing}
use Rattle.chain_walk.specs.declared.fixed.Fixed.{Fixed}
use Rattle.chain_walk.specs.declared.verdict.Verdict.TheVariants.{Pass}

-- a step that does nothing
abbrev pub idle : {F : Type 0} → F → Step F
idle f = record { after = f; verdict = Pass; written = nothing }

-- the same functions with the same profiles, but those that count do nothing
abbrev pub quiet : {F : Type 0} → Behaviour F → Behaviour F
quiet b = record { profile = b.profile; step = λ f shown. if (b.profile f).counts then idle f else b.step f shown }

-- No function that counts changes.
pub record IsQuiet {F : Type 0} (b : Behaviour F) : Type 0 where
  pub still : (fixed : Fixed) (f : F) (v : Values) → (b.profile f).counts ≡ true → (stepped b fixed f v).after ≡ f
