-- For proofs: what is due on a link, and which messages fit it.
use Rattle.std.specs.Prelude.{◌≡◌, ℕ, List, drop, length}
use mathlib.Core.Option.{some}
use lib.ListN.{get_elem?}

module _ {T : Type 0} (fits : T → T → Type 0) where
  -- a message fits the due one of the place `k`, counted from 0
  abbrev pub FitsAt : List T → ℕ → T → Type 0
  FitsAt due k message = (d : T) × (get_elem? due k ≡ some d) × fits d message

  -- each of these messages fits the due one of its place
  abbrev pub EachFits : List T → List T → Type 0
  EachFits due messages = (k : ℕ) (message : T) → get_elem? messages k ≡ some message → FitsAt due k message

-- what is still due after these messages
abbrev pub still_due : {T : Type 0} → List T → List T → List T
still_due due before = drop (length before) due
