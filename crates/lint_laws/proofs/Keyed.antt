-- What `set` lines say, of which each key has one: the value of the first line of the key is that of the fold of all lines.
use Rattle.std.proofs.Common.{◌≡◌, ◌∙◌, ℕ, List, [], ◌∷◌, ◌++◌, Bool, true, false, refl, sym, ap, subst, cond, Some, None}
use Rattle.std.specs.Prelude.{◌||◌, Option, is_none, is_some, fold, find, unwrap_or, if◌then◌else◌}
use Rattle.std.specs.List.{list_any, cons_option}
use Rattle.std.specs.Option.{option_map, option_map_or, option_and_then}
use Rattle.policy_text.specs.declared.policy.Setting.{Setting}
use Rattle.function_lines.specs.KindLines.{KindLines, said_by}
use Rattle.policy_lint.specs.Nats.{sets, lined}
use Rattle.policy_lint.specs.Rules.{word_of}
use Rattle.lint_laws.proofs.Accepted.{AreSaid, AreNew, unset, any_front, any_last, not_both}

-- the value that a line of this key has, none where it is of another
abbrev pub value_at : {V : Type 0} → (List ℕ → Option V) → List ℕ → Setting → Option V
value_at read key s = if sets key s then read (word_of s.words 2) else None

-- A key of a kind: what its lines set of what they make, and how that is read.
pub record IsKey {L S V : Type 0} (lines : KindLines L) (with_line : S → L → S) (read : List ℕ → Option V) (key : List ℕ) (takes : L → Option V) (get : S → V) : Type 0 where
  pub taken : (s : S) (l : L) → get (with_line s l) ≡ unwrap_or (takes l) (get s)
  pub is_set : (s : Setting) (l : L) → lines.line_of s.words ≡ Some l → sets key s ≡ is_some (takes l)
  pub is_read : (s : Setting) (l : L) → lines.line_of s.words ≡ Some l → takes l ≡ value_at read key s

module _ {L S V : Type 0} (lines : KindLines L) (with_line : S → L → S) (read : List ℕ → Option V) (key : List ℕ) (takes : L → Option V) (get : S → V)
    (k : IsKey lines with_line read key takes get) where
  -- behind a line of the key there is no other
  settled : (st : S) (before later : List Setting) → AreNew lines before later → list_any (sets key) before ≡ true → get (fold with_line st (said_by lines later)) ≡ get st
  settled st before [] new is_set = refl
  settled st before (s ∷ later) new is_set =
      by (lines.line_of s.words) refl (λ g. settled g (before ++ s ∷ []) later new.2 (any_front (sets key) before (s ∷ []) is_set))
    where
      fresh : sets key s ≡ false
      fresh = unset key before s is_set new.1

      kept : (l : L) (o : Option V) → takes l ≡ o → is_some o ≡ false → get (with_line st l) ≡ get st
      kept l None is none = k.taken st l ∙ ap (λ o. unwrap_or o (get st)) is
      kept l (Some v) is none = absurd cc

      by : (o : Option L) → lines.line_of s.words ≡ o → ((g : S) → get (fold with_line g (said_by lines later)) ≡ get g) → get (fold with_line st (cons_option o (said_by lines later))) ≡ get st
      by None is rest = absurd (not_both (is_none (lines.line_of s.words)) (ap is_none is) new.0)
      by (Some l) is rest = rest (with_line st l) ∙ kept l (takes l) refl (sym (k.is_set s l is) ∙ fresh)

  pub value_made : (st : S) (before later : List Setting) → AreNew lines before later →
      get (fold with_line st (said_by lines later)) ≡ option_map_or (λ (v : ℕ × V). v.1) (option_and_then (lined read) (find (sets key) later)) (get st)
  value_made st before [] new = refl
  value_made st before (s ∷ later) new =
      by (lines.line_of s.words) refl (λ g. value_made g (before ++ s ∷ []) later new.2) (λ g is_set. settled g (before ++ s ∷ []) later new.2 (any_last (sets key) before s is_set))
    where
      found : Option (ℕ × V)
      found = option_and_then (lined read) (find (sets key) later)

      shown : Bool → Option (ℕ × V)
      shown b = option_and_then (lined read) (cond b (Some s) (find (sets key) later))

      of_read : (o : Option V) (v : V) → o ≡ Some v → (d : V) → option_map_or (λ (x : ℕ × V). x.1) (option_map (λ (y : V). (s.line, y)) o) d ≡ v
      of_read o v is d = ap (λ p. option_map_or (λ (x : ℕ × V). x.1) (option_map (λ (y : V). (s.line, y)) p) d) is

      by_value : (l : L) (o : Option V) → takes l ≡ o → lines.line_of s.words ≡ Some l →
          ((g : S) → get (fold with_line g (said_by lines later)) ≡ option_map_or (λ (v : ℕ × V). v.1) found (get g)) →
          ((g : S) → sets key s ≡ true → get (fold with_line g (said_by lines later)) ≡ get g) →
          get (fold with_line (with_line st l) (said_by lines later)) ≡ option_map_or (λ (v : ℕ × V). v.1) (shown (sets key s)) (get st)
      by_value l None takes_none is rest last =
          let other : sets key s ≡ false = k.is_set s l is ∙ ap is_some takes_none in
          rest (with_line st l)
          ∙ ap (λ d. option_map_or (λ (v : ℕ × V). v.1) found d) (k.taken st l ∙ ap (λ o. unwrap_or o (get st)) takes_none)
          ∙ sym (ap (λ b. option_map_or (λ (v : ℕ × V). v.1) (shown b) (get st)) other)
      by_value l (Some v) takes_some is rest last =
          let one : sets key s ≡ true = k.is_set s l is ∙ ap is_some takes_some in
          let reads : read (word_of s.words 2) ≡ Some v = sym (ap (λ b. if b then read (word_of s.words 2) else None) one) ∙ sym (k.is_read s l is) ∙ takes_some in
          last (with_line st l) one
          ∙ k.taken st l ∙ ap (λ o. unwrap_or o (get st)) takes_some
          ∙ sym (ap (λ b. option_map_or (λ (x : ℕ × V). x.1) (shown b) (get st)) one ∙ of_read (read (word_of s.words 2)) v reads (get st))

      by : (o : Option L) → lines.line_of s.words ≡ o →
          ((g : S) → get (fold with_line g (said_by lines later)) ≡ option_map_or (λ (v : ℕ × V). v.1) found (get g)) →
          ((g : S) → sets key s ≡ true → get (fold with_line g (said_by lines later)) ≡ get g) →
          get (fold with_line st (cons_option o (said_by lines later))) ≡ option_map_or (λ (v : ℕ × V). v.1) (shown (sets key s)) (get st)
      by None is rest last = absurd (not_both (is_none (lines.line_of s.words)) (ap is_none is) new.0)
      by (Some l) is rest last = by_value l (takes l) refl is rest last

  -- a key that some line has is read
  pub value_there : (later : List Setting) → AreSaid lines later → list_any (λ l. is_some (takes l)) (said_by lines later) ≡ true →
      (v : ℕ × V) × (option_and_then (lined read) (find (sets key) later) ≡ Some v)
  value_there [] said h = absurd cc
  value_there (s ∷ later) said h = by (lines.line_of s.words) refl (λ rest. value_there later said.1 rest) h
    where
      IsThere : Bool → Type 0
      IsThere b = (v : ℕ × V) × (option_and_then (lined read) (cond b (Some s) (find (sets key) later)) ≡ Some v)

      by_value : (l : L) (o : Option V) → takes l ≡ o → lines.line_of s.words ≡ Some l → (list_any (λ l. is_some (takes l)) (said_by lines later) ≡ true → IsThere false) →
          (is_some o || list_any (λ l. is_some (takes l)) (said_by lines later)) ≡ true → IsThere (sets key s)
      by_value l None takes_none is rest h = subst IsThere (sym (k.is_set s l is ∙ ap is_some takes_none)) (rest h)
      by_value l (Some v) takes_some is rest h =
          let one : sets key s ≡ true = k.is_set s l is ∙ ap is_some takes_some in
          let reads : read (word_of s.words 2) ≡ Some v = sym (ap (λ b. if b then read (word_of s.words 2) else None) one) ∙ sym (k.is_read s l is) ∙ takes_some in
          subst IsThere (sym one) ((s.line, v), ap (option_map (λ (y : V). (s.line, y))) reads)

      by : (o : Option L) → lines.line_of s.words ≡ o → (list_any (λ l. is_some (takes l)) (said_by lines later) ≡ true → IsThere false) →
          list_any (λ l. is_some (takes l)) (cons_option o (said_by lines later)) ≡ true → IsThere (sets key s)
      by None is rest h = absurd (not_both (is_none (lines.line_of s.words)) (ap is_none is) said.0)
      by (Some l) is rest h = by_value l (takes l) refl is rest h
