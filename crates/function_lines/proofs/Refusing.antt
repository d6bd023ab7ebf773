-- The least refused line is refused, and none before it.
use Rattle.std.proofs.Common.{◌≡◌, ◌≤◌, ◌∙◌, ℕ, List, [], ◌∷◌, ◌++◌, map, filter, refl, sym, ap, subst, append_assoc, Bool, true, false, ◌⊎◌, inl, inr, arith}
use Rattle.std.specs.Prelude.{if◌then◌else◌, min, Option, None, Some, IfSome, fold}
use Rattle.std.proofs.lemmas.Bool.{cases_lt}
use Rattle.std.proofs.lemmas.List.{append-nil}
use Rattle.policy_text.specs.declared.policy.Setting.{Setting}
use Rattle.policy_text.specs.declared.policy.FunctionDecl.{FunctionDecl}
use Rattle.function_lines.specs.KindLines.{KindLines, said_by, lacks_one, is_refused, refused_behind, is_clashing, clashing, refused_lines, refused_line, lesser, least}
use Rattle.function_lines.specs.Refusing.{IsRefused, setting, clash, missing}

-- a number is one of these
abbrev Among : ℕ → List ℕ → Type 0
Among n [] = ⊥
Among n (m ∷ ns) = (n ≡ m) ⊎ Among n ns

-- the least so far isn't less than the least in the end
still_below : (first : Option ℕ) (lines : List ℕ) (l : ℕ) → fold lesser first lines ≡ Some l → IfSome first (λ k. l ≤ k)
still_below None lines l e = tt
still_below (Some k) [] l e = let same : k ≡ l = cc in omega arith
still_below (Some k) (n ∷ lines) l e = let below : l ≤ min k n = still_below (Some (min k n)) lines l e in omega arith

below_both : (first : Option ℕ) (n l : ℕ) → IfSome (lesser first n) (λ k. l ≤ k) → l ≤ n
below_both None n l h = h
below_both (Some k) n l h = let below : l ≤ min k n = h in omega arith

below_all : (first : Option ℕ) (lines : List ℕ) (l n : ℕ) → fold lesser first lines ≡ Some l → Among n lines → l ≤ n
below_all first [] l n e h = absurd h
below_all first (m ∷ lines) l n e (inl same) = let below : l ≤ m = below_both first m l (still_below (lesser first m) lines l e) in omega arith
below_all first (m ∷ lines) l n e (inr h) = below_all (lesser first m) lines l n e h

one_of : (first : Option ℕ) (n l : ℕ) → lesser first n ≡ Some l → (first ≡ Some l) ⊎ (n ≡ l)
one_of None n l e = inr cc
one_of (Some k) n l e = elim (cases_lt k n) [
  | inl below ↦ inl (let same : k ≡ l = let is : min k n ≡ l = cc in omega arith in ap Some same)
  | inr above ↦ inr (let is : min k n ≡ l = cc in omega arith)
]

is_among : (first : Option ℕ) (lines : List ℕ) (l : ℕ) → fold lesser first lines ≡ Some l → (first ≡ Some l) ⊎ Among l lines
is_among first [] l e = inl e
is_among first (n ∷ lines) l e = elim (is_among (lesser first n) lines l e) [
  | inr among ↦ inr (inr among)
  | inl is ↦ elim (one_of first n l is) [ inl was ↦ inl was | inr same ↦ inr (inl (sym same)) ]
]

-- a least that was found remains one
is_some_least : (k : ℕ) (lines : List ℕ) → fold lesser (Some k) lines ≡ None → ⊥
is_some_least k [] e = cc
is_some_least k (n ∷ lines) e = is_some_least (min k n) lines e

none_among : (n : ℕ) (lines : List ℕ) → least lines ≡ None → Among n lines → ⊥
none_among n [] e h = h
none_among n (m ∷ lines) e h = is_some_least m lines e

-- a number in two lists is in one
in_either : (n : ℕ) (xs ys : List ℕ) → Among n (xs ++ ys) → Among n xs ⊎ Among n ys
in_either n [] ys h = inr h
in_either n (m ∷ xs) ys (inl same) = inl (inl same)
in_either n (m ∷ xs) ys (inr h) = elim (in_either n xs ys h) [ inl first ↦ inl (inr first) | inr second ↦ inr second ]

in_first : (n : ℕ) (xs ys : List ℕ) → Among n xs → Among n (xs ++ ys)
in_first n [] ys h = absurd h
in_first n (m ∷ xs) ys (inl same) = inl same
in_first n (m ∷ xs) ys (inr h) = inr (in_first n xs ys h)

in_second : (n : ℕ) (xs ys : List ℕ) → Among n ys → Among n (xs ++ ys)
in_second n [] ys h = h
in_second n (m ∷ xs) ys h = inr (in_second n xs ys h)

-- a line that is reported, if it is refused
told : (refused : Bool) (line n : ℕ) → Among n (if refused then line ∷ [] else []) → (refused ≡ true) × (line ≡ n)
told true line n (inl same) = (refl, sym same)
told true line n (inr h) = absurd h
told false line n h = absurd h

tell : (refused : Bool) (line : ℕ) → refused ≡ true → Among line (if refused then line ∷ [] else [])
tell true line is = inl refl
tell false line is = absurd cc

module _ {L : Type 0} (lines : KindLines L) (decl : FunctionDecl) where
  behind_refused : (before later : List Setting) (n : ℕ) → decl.settings ≡ before ++ later → Among n (refused_behind lines before later) → IsRefused lines decl n
  behind_refused before [] n split h = absurd h
  behind_refused before (s ∷ later) n split h = elim (in_either n (if is_refused lines before s then s.line ∷ [] else []) (refused_behind lines (before ++ s ∷ []) later) h) [
    | inl own ↦ let is = told (is_refused lines before s) s.line n own in subst (λ m. IsRefused lines decl m) is.1 (setting before s later split is.0)
    | inr others ↦ behind_refused (before ++ s ∷ []) later n (split ∙ sym (append_assoc before (s ∷ []) later)) others
  ]

  -- what the lines of the declaration say
  abbrev said : List L
  said = said_by lines decl.settings

  clashing_refused : (before later : List Setting) (n : ℕ) → decl.settings ≡ before ++ later → Among n (clashing lines said later) → IsRefused lines decl n
  clashing_refused before [] n split h = absurd h
  clashing_refused before (s ∷ later) n split h =
      by (is_clashing lines said s) refl (λ among. clashing_refused (before ++ s ∷ []) later n (split ∙ sym (append_assoc before (s ∷ []) later)) among) h
    where
      by : (b : Bool) → is_clashing lines said s ≡ b → (Among n (clashing lines said later) → IsRefused lines decl n) →
          Among n (map (λ (t : Setting). t.line) (if b then s ∷ filter (is_clashing lines said) later else filter (is_clashing lines said) later)) → IsRefused lines decl n
      by true is others (inl same) = subst (λ m. IsRefused lines decl m) (sym same) (clash before s later split is)
      by true is others (inr among) = others among
      by false is others among = others among

  among_refused : (n : ℕ) → Among n (refused_lines lines decl) → IsRefused lines decl n
  among_refused n h = elim (in_either n (refused_behind lines [] decl.settings) (clashing lines said decl.settings ++ (if lacks_one lines said then decl.line ∷ [] else [])) h) [
    | inl own ↦ behind_refused [] decl.settings n refl own
    | inr others ↦ elim (in_either n (clashing lines said decl.settings) (if lacks_one lines said then decl.line ∷ [] else []) others) [
      | inl beside ↦ clashing_refused [] decl.settings n refl beside
      | inr fn ↦ let is = told (lacks_one lines said) decl.line n fn in subst (λ m. IsRefused lines decl m) is.1 (missing is.0)
    ]
  ]

  refused_behind_at : (before first : List Setting) (s : Setting) (later : List Setting) → is_refused lines (before ++ first) s ≡ true → Among s.line (refused_behind lines before (first ++ s ∷ later))
  refused_behind_at before [] s later is =
      in_first s.line (if is_refused lines before s then s.line ∷ [] else []) (refused_behind lines (before ++ s ∷ []) later)
      (tell (is_refused lines before s) s.line (subst (λ b. is_refused lines b s ≡ true) (append-nil before) is))
  refused_behind_at before (t ∷ first) s later is =
      in_second s.line (if is_refused lines before t then t.line ∷ [] else []) (refused_behind lines (before ++ t ∷ []) (first ++ s ∷ later))
      (refused_behind_at (before ++ t ∷ []) first s later (subst (λ b. is_refused lines b s ≡ true) (sym (append_assoc before (t ∷ []) first)) is))

  clashing_at : (first : List Setting) (s : Setting) (later : List Setting) → is_clashing lines said s ≡ true → Among s.line (clashing lines said (first ++ s ∷ later))
  clashing_at [] s later is = by (is_clashing lines said s) is
    where
      by : (b : Bool) → b ≡ true → Among s.line (map (λ (t : Setting). t.line) (if b then s ∷ filter (is_clashing lines said) later else filter (is_clashing lines said) later))
      by true e = inl refl
      by false e = absurd cc
  clashing_at (t ∷ first) s later is = by (is_clashing lines said t) (clashing_at first s later is)
    where
      rest : List Setting
      rest = filter (is_clashing lines said) (first ++ s ∷ later)

      by : (b : Bool) → Among s.line (clashing lines said (first ++ s ∷ later)) → Among s.line (map (λ (u : Setting). u.line) (if b then t ∷ rest else rest))
      by true among = inr among
      by false among = among

  refused_among : (n : ℕ) → IsRefused lines decl n → Among n (refused_lines lines decl)
  refused_among n (setting before s later split is) =
      in_first s.line (refused_behind lines [] decl.settings) (clashing lines said decl.settings ++ (if lacks_one lines said then decl.line ∷ [] else []))
      (subst (λ settings. Among s.line (refused_behind lines [] settings)) (sym split) (refused_behind_at [] before s later is))
  refused_among n (clash before s later split is) =
      in_second s.line (refused_behind lines [] decl.settings) (clashing lines said decl.settings ++ (if lacks_one lines said then decl.line ∷ [] else []))
      (in_first s.line (clashing lines said decl.settings) (if lacks_one lines said then decl.line ∷ [] else [])
      (subst (λ settings. Among s.line (clashing lines said settings)) (sym split) (clashing_at before s later is)))
  refused_among n (missing is) =
      in_second decl.line (refused_behind lines [] decl.settings) (clashing lines said decl.settings ++ (if lacks_one lines said then decl.line ∷ [] else []))
      (in_second decl.line (clashing lines said decl.settings) (if lacks_one lines said then decl.line ∷ [] else [])
      (tell (lacks_one lines said) decl.line is))

  pub named : (line : ℕ) → refused_line lines decl ≡ Some line → IsRefused lines decl line
  named line e = elim (is_among None (refused_lines lines decl) line e) [ inl never ↦ absurd (nothing never) | inr among ↦ among_refused line among ]
    where
      nothing : None ≡ Some line → ⊥
      nothing never = cc

  pub is_least : (line other : ℕ) → refused_line lines decl ≡ Some line → IsRefused lines decl other → line ≤ other
  is_least line other e refused = below_all None (refused_lines lines decl) line other e (refused_among other refused)

  pub none_refused : (line : ℕ) → refused_line lines decl ≡ None → IsRefused lines decl line → ⊥
  none_refused line e refused = none_among line (refused_lines lines decl) e (refused_among line refused)
