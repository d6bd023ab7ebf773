-- A limiter's burst, as findings read it and as limiters are made of it.
use Rattle.std.proofs.Common.{◌≡◌, ◌∙◌, ℕ, List, [], ◌∷◌, Bool, true, false, refl, sym, ap, subst, Some, None}
use Rattle.std.specs.Prelude.{◌&&◌, ◌||◌, ◌==◌, not, Option, is_some, codes, unwrap_or, if◌then◌else◌}
use Rattle.std.specs.List.{list_any}
use Rattle.std.specs.Option.{option_map, option_map_or}
use Rattle.std.specs.Str.{bytes_eq}
use Rattle.std.proofs.lemmas.Slice.Eq.{bytes_eq-Decides}
use Rattle.action_profile.specs.declared.kind.Kind.{Kind}
use Rattle.action_profile.specs.declared.kind.Kind.TheVariants as kinds
use Rattle.policy_text.specs.Values.{number_of}
use Rattle.policy_text.specs.declared.policy.FunctionDecl.{FunctionDecl}
use Rattle.function_lines.specs.KindLines.{said_by, refused_line as refused_line_of}
use Rattle.nf_observe.specs.declared.limiter.Limiter.{Limiter}
use Rattle.nf_observe.specs.declared.limiter.lines.LimiterLine.{LimiterLine}
use Rattle.nf_observe.specs.declared.limiter.lines.LimiterLine.TheVariants as lines
use Rattle.nf_observe.specs.LimiterLines.{limiter_lines, positive, amount_of, setting_of, line_of, is_rate, is_burst}
use Rattle.nf_observe.specs.Limiters.{unset_limiter, with_line, limiter_by}
use Rattle.net_functions.specs.Builds.{making_of, function_of, refused_line}
use Rattle.policy_lint.specs.Behind.{is_limiter}
use Rattle.policy_lint.specs.Limits.{burst_of}
use Rattle.policy_lint.specs.Nats.{value_of}
use Rattle.policy_lint.specs.Rules.{word_of}
use Rattle.lint_laws.specs.Made.{made_burst}
use Rattle.lint_laws.proofs.Accepted.{neither, all_said, all_new, none_lacking}
use Rattle.lint_laws.proofs.Keyed.{IsKey, value_made, value_there}
use Rattle.lint_laws.proofs.SetLines.{words_of, same_words, sets_by, value_by, any_same, not_none}

abbrev IsSpelled : List (List ℕ) → LimiterLine → Type 0
IsSpelled words (lines.Rate n) = (text : List ℕ) × (words ≡ words_of (codes "rate") text)
IsSpelled words (lines.Burst n) = (text : List ℕ) × (words ≡ words_of (codes "burst") text) × (number_of 20 4294967295 text ≡ Some n)

positive_by : (n m : ℕ) (zero : Bool) → (if zero then None else Some n) ≡ Some m → n ≡ m
positive_by n m true h = absurd cc
positive_by n m false h = cc

number_by : (o : Option ℕ) (m : ℕ) → positive o ≡ Some m → o ≡ Some m
number_by None m h = absurd cc
number_by (Some n) m h = ap Some (positive_by n m (n == 0) h)

rate_spelled : (words : List (List ℕ)) (text : List ℕ) (l : LimiterLine) (o : Option ℕ) → words ≡ words_of (codes "rate") text → option_map (λ n. lines.Rate n) o ≡ Some l → IsSpelled words l
rate_spelled words text l None w h = absurd cc
rate_spelled words text l (Some n) w h = let same : lines.Rate n ≡ l = cc in subst (IsSpelled words) same (text, w)

burst_spelled : (words : List (List ℕ)) (text : List ℕ) (l : LimiterLine) (o : Option ℕ) → words ≡ words_of (codes "burst") text → amount_of text ≡ o → option_map (λ n. lines.Burst n) o ≡ Some l → IsSpelled words l
burst_spelled words text l None w e h = absurd cc
burst_spelled words text l (Some n) w e h = let same : lines.Burst n ≡ l = cc in subst (IsSpelled words) same (text, w, number_by (number_of 20 4294967295 text) n e)

key_spelled : (lead key text : List ℕ) (l : LimiterLine) (r b : Bool) → lead ≡ codes "set" → bytes_eq key (codes "rate") ≡ r → bytes_eq key (codes "burst") ≡ b →
    (if r then option_map (λ n. lines.Rate n) (amount_of text) else (if b then option_map (λ n. lines.Burst n) (amount_of text) else None)) ≡ Some l → IsSpelled (lead ∷ key ∷ text ∷ []) l
key_spelled lead key text l true b s er eb h = rate_spelled (lead ∷ key ∷ text ∷ []) text l (amount_of text) (same_words lead key text (codes "rate") s ((bytes_eq-Decides key (codes "rate")).0 er)) h
key_spelled lead key text l false true s er eb h = burst_spelled (lead ∷ key ∷ text ∷ []) text l (amount_of text) (same_words lead key text (codes "burst") s ((bytes_eq-Decides key (codes "burst")).0 eb)) refl h
key_spelled lead key text l false false s er eb h = absurd cc

lead_spelled : (lead key text : List ℕ) (l : LimiterLine) (s : Bool) → bytes_eq lead (codes "set") ≡ s → (if s then setting_of key (amount_of text) else None) ≡ Some l → IsSpelled (lead ∷ key ∷ text ∷ []) l
lead_spelled lead key text l true e h = key_spelled lead key text l (bytes_eq key (codes "rate")) (bytes_eq key (codes "burst")) ((bytes_eq-Decides lead (codes "set")).0 e) refl refl h
lead_spelled lead key text l false e h = absurd cc

spelled : (words : List (List ℕ)) (l : LimiterLine) → line_of words ≡ Some l → IsSpelled words l
unfolding line_of
spelled [] l h = absurd cc
spelled (lead ∷ []) l h = absurd cc
spelled (lead ∷ key ∷ []) l h = absurd cc
spelled (lead ∷ key ∷ text ∷ []) l h = lead_spelled lead key text l (bytes_eq lead (codes "set")) refl h
spelled (lead ∷ key ∷ text ∷ more ∷ words) l h = absurd cc

abbrev burst_in : LimiterLine → Option ℕ
burst_in (lines.Rate n) = None
burst_in (lines.Burst n) = Some n

burst_set : (words : List (List ℕ)) (l : LimiterLine) → IsSpelled words l → (sets_by (codes "burst") words ≡ is_some (burst_in l)) × (burst_in l ≡ value_by (number_of 20 4294967295) (codes "burst") words)
burst_set words (lines.Rate n) sp = (ap (sets_by (codes "burst")) sp.1, sym (ap (value_by (number_of 20 4294967295) (codes "burst")) sp.1))
burst_set words (lines.Burst n) sp = (ap (sets_by (codes "burst")) sp.1, sym (ap (value_by (number_of 20 4294967295) (codes "burst")) sp.1 ∙ sp.2))

burst_taken : (l : Limiter) (line : LimiterLine) → (with_line l line).burst ≡ unwrap_or (burst_in line) l.burst
burst_taken l (lines.Rate n) = refl
burst_taken l (lines.Burst n) = refl

burst_key : IsKey limiter_lines with_line (number_of 20 4294967295) (codes "burst") burst_in (λ (l : Limiter). l.burst)
burst_key = record { taken = burst_taken; is_set = λ s l is. (burst_set s.words l (spelled s.words l is)).0; is_read = λ s l is. (burst_set s.words l (spelled s.words l is)).1 }

burst_same : (l : LimiterLine) → is_burst l ≡ is_some (burst_in l)
burst_same (lines.Rate n) = refl
burst_same (lines.Burst n) = refl

module _ (decl : FunctionDecl) where
  module _ (accepted : refused_line_of limiter_lines decl ≡ None) where
    abbrev said : List LimiterLine
    said = said_by limiter_lines decl.settings

    there : (v : ℕ × ℕ) × (value_of (number_of 20 4294967295) (codes "burst") decl ≡ Some v)
    there = value_there limiter_lines with_line (number_of 20 4294967295) (codes "burst") burst_in (λ (l : Limiter). l.burst) burst_key decl.settings (all_said limiter_lines decl accepted)
        (sym (any_same is_burst (λ l. is_some (burst_in l)) burst_same said)
        ∙ not_none (list_any is_burst said) (neither (not (list_any is_burst said)) false (neither (not (list_any is_rate said)) (not (list_any is_burst said) || false) (none_lacking limiter_lines decl accepted)).1).0)

    burst_made : Some (limiter_by said).burst ≡ option_map (λ (v : ℕ × ℕ). v.1) (value_of (number_of 20 4294967295) (codes "burst") decl)
    burst_made =
        ap Some (value_made limiter_lines with_line (number_of 20 4294967295) (codes "burst") burst_in (λ (l : Limiter). l.burst) burst_key unset_limiter [] decl.settings (all_new limiter_lines decl accepted)
        ∙ ap (λ o. option_map_or (λ (v : ℕ × ℕ). v.1) o 0) there.1)
        ∙ sym (ap (option_map (λ (v : ℕ × ℕ). v.1)) there.1)

  made_by : (kind : Kind) → (making_of kind).refused decl ≡ None →
      made_burst ((making_of kind).made decl) ≡ option_map (λ (v : ℕ × ℕ). v.1) (if is_limiter kind then value_of (number_of 20 4294967295) (codes "burst") decl else None)
  unfolding making_of
  made_by kinds.Limiter none = burst_made none
  made_by kind none = refl

  pub burst_read : refused_line decl ≡ None → made_burst (function_of decl) ≡ option_map (λ (v : ℕ × ℕ). v.1) (burst_of decl)
  burst_read accepted = made_by decl.kind accepted
