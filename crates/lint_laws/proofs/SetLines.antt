-- What the lines of a key are by their words, whatever kind reads them.
use Rattle.std.proofs.Common.{◌≡◌, ◌∙◌, ℕ, List, [], ◌∷◌, Bool, true, false, refl, ap}
use Rattle.std.specs.Prelude.{◌&&◌, ◌||◌, not, Option, None, codes, if◌then◌else◌}
use Rattle.std.specs.List.{list_any}
use Rattle.std.specs.Str.{bytes_eq}
use Rattle.policy_lint.specs.Rules.{word_of}

-- the words of a line that sets a key
abbrev pub words_of : List ℕ → List ℕ → List (List ℕ)
words_of key text = codes "set" ∷ key ∷ text ∷ []

pub same_words : (lead key text name : List ℕ) → lead ≡ codes "set" → key ≡ name → lead ∷ key ∷ text ∷ [] ≡ words_of name text
same_words lead key text name is_set is_key = ap (λ a. a ∷ key ∷ text ∷ []) is_set ∙ ap (λ a. codes "set" ∷ a ∷ text ∷ []) is_key

-- the line sets this key
abbrev pub sets_by : List ℕ → List (List ℕ) → Bool
sets_by key words = bytes_eq (word_of words 0) (codes "set") && bytes_eq (word_of words 1) key

-- what it sets it to
abbrev pub value_by : {V : Type 0} → (List ℕ → Option V) → List ℕ → List (List ℕ) → Option V
value_by read key words = if sets_by key words then read (word_of words 2) else None

pub any_same : {L : Type 0} (p q : L → Bool) → ((l : L) → p l ≡ q l) → (said : List L) → list_any p said ≡ list_any q said
any_same p q same [] = refl
any_same p q same (l ∷ said) = ap (λ b. b || list_any p said) (same l) ∙ ap (λ b. q l || b) (any_same p q same said)

pub not_none : (b : Bool) → not b ≡ false → b ≡ true
not_none true h = refl
not_none false h = absurd cc
