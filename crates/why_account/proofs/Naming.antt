-- Functions by their names, and lists of what is kept of them.
use Rattle.std.proofs.Common.{◌≡◌, ◌<◌, ◌+◌, ◌∙◌, ℕ, zero, suc, List, [], ◌∷◌, ◌++◌, length, map, take, get_or, refl, ap, sym, arith}
use Rattle.std.specs.Prelude.{Option, Some, None, cond, filter_map, nat_lt, not, position, slice_get}
use Rattle.std.specs.List.{cons_option, position_or_len}
use Rattle.std.specs.Option.{option_map, unwrap_or}
use Rattle.std.specs.Str.{bytes_eq}
use Rattle.std.proofs.lemmas.List.{append-nil, length-map, map-append, take_more}
use Rattle.std.proofs.lemmas.List.Elements.{filter_map-append}
use Rattle.policy_text.specs.declared.policy.FunctionDecl.{FunctionDecl}
use Rattle.why_report.specs.Report.{place_in}

place_or_len : (order : List FunctionDecl) (name : List ℕ) → position_or_len (λ n. bytes_eq n name) (map (λ (d : FunctionDecl). d.name) order) ≡ position_or_len (λ d. bytes_eq d.name name) order
place_or_len [] name = refl
place_or_len (d ∷ order) name = ap (λ k. cond (not (bytes_eq d.name name)) (1 + k) 0) (place_or_len order name)

-- the place of a function by the names in order
pub place_named : (names : List (List ℕ)) (order : List FunctionDecl) (name : List ℕ) → names ≡ map (λ (d : FunctionDecl). d.name) order
    → unwrap_or (position (λ n. bytes_eq n name) names) (length names) ≡ place_in order name
place_named names order name are =
    ap (λ l. unwrap_or (position (λ n. bytes_eq n name) l) (length l)) are
    ∙ ap (λ n. unwrap_or (cond (nat_lt (position_or_len (λ m. bytes_eq m name) (map (λ (d : FunctionDecl). d.name) order)) n) (Some (position_or_len (λ m. bytes_eq m name) (map (λ (d : FunctionDecl). d.name) order))) None) n)
    (length-map order (λ d. d.name))
    ∙ ap (λ k. unwrap_or (cond (nat_lt k (length order)) (Some k) None) (length order)) (place_or_len order name)

module _ {A B : Type 0} (f : A → B) (h : ℕ → Option A) where
  kept_more : (xs : List ℕ) (i d : ℕ) (found : Option A) → i < length xs → h (get_or xs i d) ≡ found
      → map f (filter_map h (take (i + 1) xs)) ≡ map f (filter_map h (take i xs)) ++ map f (cons_option found [])
  kept_more xs i d found inside is =
      ap (λ l. map f (filter_map h l)) (take_more xs i d inside)
      ∙ ap (map f) (filter_map-append h (take i xs) (get_or xs i d ∷ []))
      ∙ map-append f (filter_map h (take i xs)) (filter_map h (get_or xs i d ∷ []))
      ∙ ap (λ o. map f (filter_map h (take i xs)) ++ map f (cons_option o [])) is

  -- one more is kept
  pub kept_one : (xs : List ℕ) (i d : ℕ) (a : A) (now old : List B) → i < length xs → h (get_or xs i d) ≡ Some a → old ≡ map f (filter_map h (take i xs)) → now ≡ old ++ f a ∷ []
      → now ≡ map f (filter_map h (take (i + 1) xs))
  kept_one xs i d a now old inside is before pushed = pushed ∙ ap (λ l. l ++ f a ∷ []) before ∙ sym (kept_more xs i d (Some a) inside is)

  -- no more is kept
  pub kept_none : (xs : List ℕ) (i d : ℕ) (now old : List B) → i < length xs → h (get_or xs i d) ≡ None → old ≡ map f (filter_map h (take i xs)) → now ≡ old
      → now ≡ map f (filter_map h (take (i + 1) xs))
  kept_none xs i d now old inside is before same = same ∙ before ∙ sym (kept_more xs i d None inside is ∙ append-nil (map f (filter_map h (take i xs))))

-- one more is made
pub made_one : {A B : Type 0} (f : A → B) (xs : List A) (i : ℕ) (x : A) (y : B) (old now : List B) → i < length xs → x ≡ get_or xs i x → old ≡ map f (take i xs) → y ≡ f x → now ≡ old ++ y ∷ []
    → now ≡ map f (take (i + 1) xs)
made_one f xs i x y old now inside is before made pushed =
    pushed ∙ (λ j. before j ++ made j ∷ []) ∙ ap (λ z. map f (take i xs) ++ f z ∷ []) is
    ∙ sym (ap (map f) (take_more xs i x inside) ∙ map-append f (take i xs) (get_or xs i x ∷ []))
