-- For proofs: what functions that count note about packets, and how a note is settled.
use Rattle.std.specs.Prelude.{◌≡◌, true, if◌then◌else◌, Option, Some, None}
use Rattle.chain_walk.specs.Shown.{Shown, Values, shown_by}
use Rattle.chain_walk.specs.Step.{Behaviour, stepped, nothing}
use Rattle.chain_walk.specs.declared.fixed.Fixed.{Fixed}
use Rattle.chain_walk.specs.declared.verdict.Verdict.TheVariants.{Pass}

-- The notes of functions: what each notes about a packet from what it is shown, and its state after a note is settled.
pub record Notes (F N : Type 0) : Type 0 where
  pub look : F → Shown → Option N
  pub settle : F → N → F

-- what a function notes about a packet of these values; one that doesn't count notes nothing
abbrev pub noted : {F N : Type 0} → Behaviour F → Notes F N → Fixed → F → Values → Option N
noted b notes fixed f values = if (b.profile f).counts then notes.look f (shown_by (b.profile f) fixed values) else None

-- the function after its note is settled, if there is one
abbrev pub settled : {F N : Type 0} → Notes F N → F → Option N → F
settled notes f None = f
settled notes f (Some note) = notes.settle f note

-- A function that counts only notes a packet and settles the note, and no note depends on what was settled.
pub record CountsByNotes {F N : Type 0} (b : Behaviour F) (notes : Notes F N) : Type 0 where
  -- it passes a packet unchanged, and settles what it notes
  pub step : (fixed : Fixed) (f : F) (v : Values) → (b.profile f).counts ≡ true →
      stepped b fixed f v ≡ record { after = settled notes f (noted b notes fixed f v); verdict = Pass; written = nothing }
  -- a settled note changes neither the profile
  pub stays : (f : F) (note : N) → b.profile (notes.settle f note) ≡ b.profile f
  -- nor what is noted
  pub looks : (f : F) (note : N) (shown : Shown) → notes.look (notes.settle f note) shown ≡ notes.look f shown
