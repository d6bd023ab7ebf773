-- Believed: lines, and words each after one space.
use Rattle.std.specs.Prelude.{ℕ, List, ◌++◌, codes}
use Rattle.std.specs.List.{flat_map}

-- the pieces of a text, joined
abbrev pub joined : List (List ℕ) → List ℕ
joined pieces = flat_map (λ piece. piece) pieces

-- the same as a line, with its line feed
abbrev pub line_of : List (List ℕ) → List ℕ
line_of pieces = joined pieces ++ codes "\n"

-- words, with one space before each
abbrev pub spaced : List (List ℕ) → List ℕ
spaced words = flat_map (λ word. codes " " ++ word) words
