-- The texts that findings read of lines with patterns are patterns of what is made of them.
use Rattle.std.proofs.Common.{◌≡◌, ◌≢◌, ◌∙◌, ℕ, List, [], ◌∷◌, ◌++◌, Bool, true, false, refl, ap, subst, Some, None}
use Rattle.std.specs.Prelude.{◌&&◌, Option, is_none, filter_map, codes, if◌then◌else◌}
use Rattle.std.specs.List.{cons_option}
use Rattle.std.specs.Option.{option_and_then}
use Rattle.std.specs.Str.{bytes_eq}
use Rattle.std.proofs.lemmas.List.Elements.{filter_map-append}
use Rattle.action_profile.specs.declared.kind.Kind.{Kind}
use Rattle.action_profile.specs.declared.kind.Kind.TheVariants as kinds
use Rattle.policy_text.specs.Bytes.{bytes_of, limited}
use Rattle.policy_text.specs.declared.policy.FunctionDecl.{FunctionDecl}
use Rattle.policy_text.specs.declared.policy.Setting.{Setting}
use Rattle.function_lines.specs.KindLines.{refused_line as refused_line_of}
use Rattle.patterns.specs.Lines.{line_of, pattern_lines}
use Rattle.net_functions.specs.Builds.{making_of, function_of, refused_line}
use Rattle.policy_lint.specs.Meaning.{IsOne}
use Rattle.policy_lint.specs.Patterns.{text_of}
use Rattle.policy_lint.specs.Rules.{word_of}
use Rattle.lint_laws.specs.Made.{made_patterns}
use Rattle.lint_laws.proofs.Accepted.{AreSaid, all_said}

abbrev text_in : List (List ℕ) → List ℕ
text_in words = if bytes_eq (word_of words 0) (codes "rule") && bytes_eq (word_of words 1) (codes "text") then word_of words 2 else []

limited_same : (b : Bool) (word : List ℕ) → is_none (if b then Some word else None) ≡ false → (if b then Some word else None) ≡ Some word
limited_same true word said = refl
limited_same false word said = absurd cc

text_by : (word : List ℕ) (other : Option (List ℕ)) (r t : Bool) → (is_none (limited word) ≡ false → limited word ≡ Some word) → is_none (if r then (if t then limited word else other) else None) ≡ false →
    (if r && t then word else []) ≢ [] → (if r then (if t then limited word else other) else None) ≡ Some (if r && t then word else [])
text_by word other true true same said h = same said
text_by word other true false same said h = absurd (h refl)
text_by word other false t same said h = absurd cc

text_made : (words : List (List ℕ)) → is_none (line_of words) ≡ false → text_in words ≢ [] → line_of words ≡ Some (text_in words)
unfolding line_of
text_made [] said h = absurd cc
text_made (lead ∷ []) said h = absurd cc
text_made (lead ∷ form ∷ []) said h = absurd cc
text_made (lead ∷ form ∷ word ∷ []) said h =
    text_by word (if bytes_eq form (codes "hex") then option_and_then limited (bytes_of word) else None) (bytes_eq lead (codes "rule")) (bytes_eq form (codes "text")) (λ some. limited_same _ word some) said h
text_made (lead ∷ form ∷ word ∷ more ∷ words) said h = absurd cc

one_given : {A B : Type 0} (f : A → Option B) (things : List A) (x : A) (y : B) → IsOne things x → f x ≡ Some y → IsOne (filter_map f things) y
one_given f things x y one gives = record {
  front = filter_map f one.front;
  back = filter_map f one.back;
  is = ap (filter_map f) one.is ∙ filter_map-append f one.front (x ∷ one.back) ∙ ap (λ o. filter_map f one.front ++ cons_option o (filter_map f one.back)) gives;
}

said_at : (front : List Setting) (s : Setting) (later : List Setting) → AreSaid pattern_lines (front ++ s ∷ later) → is_none (line_of s.words) ≡ false
said_at [] s later said = said.0
said_at (t ∷ front) s later said = said_at front s later said.1

module _ (decl : FunctionDecl) (s : Setting) (one : IsOne decl.settings s) where
  line_said : refused_line_of pattern_lines decl ≡ None → is_none (line_of s.words) ≡ false
  line_said none = said_at one.front s one.back (subst (AreSaid pattern_lines) one.is (all_said pattern_lines decl none))

  made_by : (kind : Kind) → (making_of kind).refused decl ≡ None → text_of kind s ≢ [] → IsOne (made_patterns ((making_of kind).made decl)) (text_of kind s)
  unfolding making_of
  made_by kinds.Signature none h = one_given (λ (t : Setting). line_of t.words) decl.settings s (text_in s.words) one (text_made s.words (line_said none) h)
  made_by kinds.Redactor none h = one_given (λ (t : Setting). line_of t.words) decl.settings s (text_in s.words) one (text_made s.words (line_said none) h)
  made_by kind none h = absurd (h refl)

  pub pattern_made : refused_line decl ≡ None → text_of decl.kind s ≢ [] → IsOne (made_patterns (function_of decl)) (text_of decl.kind s)
  pattern_made accepted h = made_by decl.kind accepted h
