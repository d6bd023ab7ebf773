-- Believed: the words that the call of the theorem gets: those of the command line without the option `--sync`.
use Rattle.std.specs.Prelude.{ℕ, ◌+◌, List, [], ◌∷◌, Bool, true, false, ◌||◌, if◌then◌else◌, Option, Some, None, codes}
use Rattle.std.specs.List.{remove}
use Rattle.std.specs.Option.{option_map_or}
use Rattle.std.specs.Str.{bytes_eq}

-- the words are those of a command that writes OUT
abbrev pub has_out : List (List ℕ) → Bool
has_out [] = false
has_out (word ∷ words) = bytes_eq word (codes "run") || bytes_eq word (codes "flows")

-- the word is an option whose value is the next word
abbrev pub takes_value : List ℕ → Bool
takes_value word = bytes_eq word (codes "--mergers") || bytes_eq word (codes "--burst") || bytes_eq word (codes "--merge")
    || bytes_eq word (codes "--graph") || bytes_eq word (codes "--workers")

-- the place of the first `--sync` before any `--`, where the first of the words is at this place, and is a value or not
unfoldable pub sync_from : ℕ → Bool → List (List ℕ) → Option ℕ
sync_from place is_value [] = None
sync_from place true (word ∷ words) = sync_from (place + 1) false words
sync_from place false (word ∷ words) =
    if bytes_eq word (codes "--sync") then Some place else
    if bytes_eq word (codes "--") then None else sync_from (place + 1) (takes_value word) words

-- the place of the option, if the command takes it and it is given
abbrev pub sync_at : List (List ℕ) → Option ℕ
sync_at words = if has_out words then sync_from 0 false words else None

-- the words without it
abbrev pub passed_on : List (List ℕ) → List (List ℕ)
passed_on words = option_map_or (remove words) (sync_at words) words
