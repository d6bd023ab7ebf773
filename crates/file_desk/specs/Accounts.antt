-- Believed: what a file to write holds by its own account.
use Rattle.std.specs.Prelude.{◌≡◌, ℕ, List, [], Bool, true, false, if◌then◌else◌, Option, Some, None}
use Rattle.std.specs.Option.{option_map}
use Rattle.std.specs.Io.KnownBytes.{append_known, IsAtEnd}

-- no known byte is left, and bytes that were known still are
abbrev pub Empties : Option (List ℕ) → Option (List ℕ) → Type 0
Empties None new = IsAtEnd new
Empties (Some bytes) new = new ≡ Some []

-- A file to write by its own account.
pub record Account : Type 0 where
  -- what the file holds, if it shows it: until it is emptied what it held before, and then what was handed on
  pub holds : Option (List ℕ)
  pub is_emptied : Bool
  -- what was put, and isn't handed on yet
  pub gathered : List ℕ

-- the bytes that were handed on: none before the file is emptied
abbrev pub handed_on : Account → Option (List ℕ)
handed_on a = option_map (λ held. if a.is_emptied then held else []) a.holds

-- the bytes that were put: those that were handed on, and then those that are gathered
abbrev pub put_in : Account → Option (List ℕ)
put_in a = append_known (handed_on a) a.gathered

-- the file is as it was when it was opened, and nothing was put into it
pub record IsAsOpened (a : Account) : Type 0 where
  pub as_it_was : a.is_emptied ≡ false
  pub nothing : a.gathered ≡ []

-- the file is emptied, and nothing was put into it
pub record IsEmpty (a : Account) : Type 0 where
  pub emptied : a.is_emptied ≡ true
  pub none_held : IsAtEnd a.holds
  pub nothing : a.gathered ≡ []

-- the file holds what was put, and nothing else
pub record IsWhole (a : Account) : Type 0 where
  pub emptied : a.is_emptied ≡ true
  pub nothing : a.gathered ≡ []
