-- Believed: keys in the order in which they were first seen, what belongs to each, and the lines that report them.
use Rattle.std.specs.Prelude.{ℕ, List, [], ◌∷◌, ◌++◌, map, Bool, if◌then◌else◌, Option}
use Rattle.std.specs.List.{list_any, position_or_len, flat_map, enumerate_from}
use Rattle.std.specs.Map.{keys_of, lookup}

module _ {K : Type 0} (eq : K → K → Bool) where
  -- the key is one of those that were seen
  abbrev pub is_seen : List K → K → Bool
  is_seen keys key = list_any (eq key) keys

  -- the place of a key, counted from 0; one that wasn't seen goes after the others
  abbrev pub place_of : List K → K → ℕ
  place_of keys key = position_or_len (eq key) keys

  -- the keys after this one was seen: one that was seen before keeps its place, and a new one goes last
  abbrev pub seen_with : List K → K → List K
  seen_with keys key = if is_seen keys key then keys else keys ++ key ∷ []

module _ {K V : Type 0} (eq : K → K → Bool) where
  -- what belongs to a key, none if it wasn't seen
  abbrev pub belonging : List (K × V) → K → Option V
  belonging seen key = lookup (eq key) seen

  -- an entry, with this value if it is the key's
  abbrev pub with_value : K → V → K × V → K × V
  with_value key value entry = if eq key entry.0 then (entry.0, value) else entry

  -- The list after this value belongs to the key: a key that was seen keeps its place and gets the value, and a new
  -- one goes last.
  abbrev pub noted : List (K × V) → K → V → List (K × V)
  noted seen key value = if is_seen eq (keys_of seen) key then map (with_value key value) seen else seen ++ (key, value) ∷ []

-- the lines of these, in their order, each by its place, counted from 0
abbrev pub lines_by : {X : Type 0} → (ℕ → X → List ℕ) → List X → List ℕ
lines_by line items = flat_map (λ e. line e.0 e.1) (enumerate_from 0 items)
