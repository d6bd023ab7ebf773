-- Believed: the forms of lines, word by word.
use Rattle.std.specs.Prelude.{ℕ, ◌+◌, List, [], ◌∷◌, Bool, if◌then◌else◌, ◌||◌, Option, Some, None, codes}
use Rattle.std.specs.Str.{bytes_eq}
use Rattle.policy_text.specs.declared.form.WordForm.{WordForm}
use Rattle.policy_text.specs.declared.form.WordForm.TheVariants.{Name, Before, Above, End}
use Rattle.policy_text.specs.Lines.{PlacedWord}
use Rattle.policy_text.specs.Values.{is_name}

-- the word may be at this place
abbrev pub is_fit : WordForm → List ℕ → Bool
is_fit Name word = is_name word
is_fit Before word = bytes_eq word (codes "before")
is_fit Above word = bytes_eq word (codes ">")
is_fit End word = bytes_eq word (codes "first") || bytes_eq word (codes "last")

-- from a place on, the first word that doesn't fit, is missing or is one too many
abbrev pub misfit_from : ℕ → List WordForm → List PlacedWord → Option ℕ
misfit_from place [] [] = None
misfit_from place [] (word ∷ words) = Some place
misfit_from place (wanted ∷ form) [] = Some place
misfit_from place (wanted ∷ form) (word ∷ words) = if is_fit wanted word.text then misfit_from (place + 1) form words else Some place
