-- For proofs: the lines of a kind for tests: `set size N`, N up to 9, required in each declaration.
use Rattle.std.specs.Prelude.{ℕ, List, [], ◌∷◌, true, ◌&&◌, if◌then◌else◌, Option, None, codes}
use Rattle.std.specs.Option.{option_map}
use Rattle.std.specs.Str.{bytes_eq}
use Rattle.policy_text.specs.Values.{number_of}
use Rattle.function_lines.specs.KindLines.{KindLines, never_clash}

abbrev pub size_line_of : {L : Type 0} → (ℕ → L) → List (List ℕ) → Option L
size_line_of make (lead ∷ key ∷ size ∷ []) = if bytes_eq lead (codes "set") && bytes_eq key (codes "size") then option_map make (number_of 20 9 size) else None
size_line_of make words = None

-- lines of a type, by how one is made from a size
abbrev pub size_lines : {L : Type 0} → (ℕ → L) → KindLines L
size_lines make = record { line_of = size_line_of make; required = (λ line. true) ∷ []; clashes = never_clash }
