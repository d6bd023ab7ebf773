-- What is known of the lines of a declaration of which none is refused.
use Rattle.std.proofs.Common.{◌≡◌, ◌∙◌, ℕ, List, [], ◌∷◌, ◌++◌, Bool, true, false, refl, sym, ap, Some, None}
use Rattle.std.specs.Prelude.{◌&&◌, ◌||◌, min, is_none, fold, codes, if◌then◌else◌}
use Rattle.std.specs.List.{list_any}
use Rattle.std.specs.Str.{bytes_eq}
use Rattle.std.proofs.lemmas.Slice.Eq.{bytes_eq-Decides}
use Rattle.policy_text.specs.declared.policy.Setting.{Setting}
use Rattle.policy_text.specs.declared.policy.FunctionDecl.{FunctionDecl}
use Rattle.function_lines.specs.KindLines.{KindLines, said_by, lacks_one, has_same_key, repeats, is_refused, refused_behind, clashing, refused_lines, refused_line, lesser, least}
use Rattle.policy_lint.specs.Nats.{sets}
use Rattle.policy_lint.specs.Rules.{word_of}

pub both_true : (a b : Bool) → (a && b) ≡ true → (a ≡ true) × (b ≡ true)
both_true true b h = (refl, h)
both_true false b h = absurd cc

pub both : (a b : Bool) → a ≡ true → b ≡ true → (a && b) ≡ true
both true b first second = second
both false b first second = absurd cc

pub neither : (a b : Bool) → (a || b) ≡ false → (a ≡ false) × (b ≡ false)
neither true b h = absurd cc
neither false b h = (refl, h)

pub not_both : (b : Bool) → b ≡ true → b ≡ false → ⊥
not_both true is fails = cc
not_both false is fails = cc

-- of numbers that have no least there are none
some_least : (k : ℕ) (lines : List ℕ) → fold lesser (Some k) lines ≡ None → ⊥
some_least k [] e = cc
some_least k (n ∷ lines) e = some_least (min k n) lines e

none_least : (lines : List ℕ) → least lines ≡ None → lines ≡ []
none_least [] e = refl
none_least (n ∷ lines) e = absurd (some_least n lines e)

none_joined : (xs ys : List ℕ) → xs ++ ys ≡ [] → (xs ≡ []) × (ys ≡ [])
none_joined [] ys e = (refl, e)
none_joined (x ∷ xs) ys e = absurd cc

untold : (b : Bool) (line : ℕ) → (if b then line ∷ [] else []) ≡ [] → b ≡ false
untold true line e = absurd cc
untold false line e = refl

module _ {L : Type 0} (lines : KindLines L) where
  -- each is a line of the kind
  abbrev pub AreSaid : List Setting → Type 0
  AreSaid [] = Unit {0}
  AreSaid (s ∷ later) = (is_none (lines.line_of s.words) ≡ false) × AreSaid later

  -- and sets no key that was set before
  abbrev pub AreNew : List Setting → List Setting → Type 0
  AreNew before [] = Unit {0}
  AreNew before (s ∷ later) = (is_none (lines.line_of s.words) ≡ false) × (repeats before s ≡ false) × AreNew (before ++ s ∷ []) later

  new_behind : (before later : List Setting) → refused_behind lines before later ≡ [] → AreNew before later
  new_behind before [] e = tt
  new_behind before (s ∷ later) e =
      let parts = none_joined (if is_refused lines before s then s.line ∷ [] else []) (refused_behind lines (before ++ s ∷ []) later) e in
      let fine = neither (is_none (lines.line_of s.words)) (repeats before s) (untold (is_refused lines before s) s.line parts.0) in
      (fine.0, fine.1, new_behind (before ++ s ∷ []) later parts.1)

  pub said_of : (before later : List Setting) → AreNew before later → AreSaid later
  said_of before [] new = tt
  said_of before (s ∷ later) new = (new.0, said_of (before ++ s ∷ []) later new.2)

  module _ (decl : FunctionDecl) (accepted : refused_line lines decl ≡ None) where
    parts : (refused_behind lines [] decl.settings ≡ []) × ((clashing lines (said_by lines decl.settings) decl.settings ++ (if lacks_one lines (said_by lines decl.settings) then decl.line ∷ [] else [])) ≡ [])
    parts = none_joined (refused_behind lines [] decl.settings) (clashing lines (said_by lines decl.settings) decl.settings ++ (if lacks_one lines (said_by lines decl.settings) then decl.line ∷ [] else []))
        (none_least (refused_lines lines decl) accepted)

    pub all_new : AreNew [] decl.settings
    all_new = new_behind [] decl.settings parts.0

    pub all_said : AreSaid decl.settings
    all_said = said_of [] decl.settings all_new

    pub none_lacking : lacks_one lines (said_by lines decl.settings) ≡ false
    none_lacking = untold (lacks_one lines (said_by lines decl.settings)) decl.line
        (none_joined (clashing lines (said_by lines decl.settings) decl.settings) (if lacks_one lines (said_by lines decl.settings) then decl.line ∷ [] else []) parts.1).1

-- a line that sets no key that was set before sets none that was
same_key : (key : List ℕ) (s t : Setting) → sets key s ≡ true → sets key t ≡ true → has_same_key s t ≡ true
same_key key s t one other =
    let mine = both_true (bytes_eq (word_of s.words 0) (codes "set")) (bytes_eq (word_of s.words 1) key) one in
    let its = both_true (bytes_eq (word_of t.words 0) (codes "set")) (bytes_eq (word_of t.words 1) key) other in
    let same : word_of s.words 1 ≡ word_of t.words 1 = (bytes_eq-Decides (word_of s.words 1) key).0 mine.1 ∙ sym ((bytes_eq-Decides (word_of t.words 1) key).0 its.1) in
    both (bytes_eq (word_of s.words 0) (codes "set")) (bytes_eq (word_of t.words 0) (codes "set") && bytes_eq (word_of s.words 1) (word_of t.words 1)) mine.0
    (both (bytes_eq (word_of t.words 0) (codes "set")) (bytes_eq (word_of s.words 1) (word_of t.words 1)) its.0 ((bytes_eq-Decides (word_of s.words 1) (word_of t.words 1)).1 same))

pub unset : (key : List ℕ) (before : List Setting) (s : Setting) → list_any (sets key) before ≡ true → repeats before s ≡ false → sets key s ≡ false
unset key [] s h new = absurd cc
unset key (t ∷ before) s h new = by (sets key s) (sets key t) refl refl (λ later fresh. unset key before s later fresh)
  where
    fresh : (has_same_key s t ≡ false) × (repeats before s ≡ false)
    fresh = neither (has_same_key s t) (repeats before s) new

    by : (mine its : Bool) → sets key s ≡ mine → sets key t ≡ its → (list_any (sets key) before ≡ true → repeats before s ≡ false → sets key s ≡ false) → sets key s ≡ false
    by false its is it rest = is
    by true true is it rest = absurd (not_both (has_same_key s t) (same_key key s t is it) fresh.0)
    by true false is it rest = rest (sym (ap (λ b. b || list_any (sets key) before) it) ∙ h) fresh.1

pub any_front : {T : Type 0} (p : T → Bool) (xs ys : List T) → list_any p xs ≡ true → list_any p (xs ++ ys) ≡ true
any_front p [] ys h = absurd cc
any_front p (x ∷ xs) ys h = by (p x) (any_front p xs ys) h
  where
    by : (b : Bool) → (list_any p xs ≡ true → list_any p (xs ++ ys) ≡ true) → (b || list_any p xs) ≡ true → (b || list_any p (xs ++ ys)) ≡ true
    by true rest h = refl
    by false rest h = rest h

pub any_last : {T : Type 0} (p : T → Bool) (xs : List T) (x : T) → p x ≡ true → list_any p (xs ++ x ∷ []) ≡ true
any_last p [] x h = ap (λ b. b || false) h
any_last p (y ∷ xs) x h = by (p y) (any_last p xs x h)
  where
    by : (b : Bool) → list_any p (xs ++ x ∷ []) ≡ true → (b || list_any p (xs ++ x ∷ [])) ≡ true
    by true rest = refl
    by false rest = rest
