-- Believed: the forms of the lines of a graph text.
use Rattle.std.specs.Prelude.{List, [], ◌∷◌, Bool, false, ◌&&◌, ◌||◌, not, codes}
use Rattle.std.specs.List.{list_all}
use Rattle.std.specs.Str.{bytes_eq}
use Rattle.policy_text.specs.Lines.{PlacedWord, Line}
use Rattle.policy_text.specs.Values.{is_name}

-- `nfp-graph 1`
abbrev pub is_version : List PlacedWord → Bool
is_version (word ∷ number ∷ []) = bytes_eq word.text (codes "nfp-graph") && bytes_eq number.text (codes "1")
is_version words = false

-- `chain NAME`
abbrev pub is_chain : List PlacedWord → Bool
is_chain (word ∷ name ∷ []) = bytes_eq word.text (codes "chain") && is_name name.text
is_chain words = false

-- `stage`
abbrev pub is_stage : List PlacedWord → Bool
is_stage (word ∷ []) = bytes_eq word.text (codes "stage")
is_stage words = false

-- `branch NAME ..`
abbrev pub is_branch : List PlacedWord → Bool
is_branch (word ∷ name ∷ names) = bytes_eq word.text (codes "branch") && list_all (λ w. is_name w.text) (name ∷ names)
is_branch words = false

-- the words after the first
abbrev pub names_of : List PlacedWord → List PlacedWord
names_of [] = []
names_of (word ∷ names) = names

-- a branch comes before the next stage and the next chain
abbrev pub has_branch : List Line → Bool
has_branch [] = false
has_branch (line ∷ lines) = is_branch line.words || (not (is_stage line.words || is_chain line.words) && has_branch lines)
