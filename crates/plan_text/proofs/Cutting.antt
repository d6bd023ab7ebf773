-- A chain is cut from its front on.
use Rattle.std.proofs.Common.{◌≡◌, ◌<◌, ◌≤◌, ◌+◌, ◌∙◌, ℕ, suc, List, [], ◌∷◌, ◌++◌, length, take, drop, Bool, true, false, cond, refl, sym, ap, subst, arith, append_assoc, length-take, length-drop}
use Rattle.std.specs.Prelude.{All, ◌||◌, not, nat_lt, position, Some, None}
use Rattle.std.specs.List.{list_any, position_or_len}
use Rattle.std.proofs.lemmas.Bool.{ltb-false}
use Rattle.std.proofs.lemmas.List.{append-nil}
use Rattle.std.proofs.lemmas.List.Elements.{All-drop}
use Rattle.policy_text.specs.declared.policy.FunctionDecl.{FunctionDecl}
use Rattle.graph_compile.specs.Cutting.{cut, in_front}
use Rattle.graph_compile.specs.Stages.{graph_of}
use Rattle.plan_text.specs.Plan.{is_whole_at, numbered, pieces_text, stage_text, stages_of}
use Rattle.plan_text.specs.Putting.{IsFirstPiece, IsPut}

-- The number of elements before the first that passes.
one_more : (n : ℕ) → 1 + n ≡ suc n
one_more n = omega arith

at_front : {X : Type 0} (p : X → Bool) (x : X) (xs : List X) → p x ≡ true → position_or_len p (x ∷ xs) ≡ 0
at_front p x xs e = ap (λ b. cond (not b) (1 + position_or_len p xs) 0) e

behind_front : {X : Type 0} (p : X → Bool) (x : X) (xs : List X) → p x ≡ false → position_or_len p (x ∷ xs) ≡ suc (position_or_len p xs)
behind_front p x xs e = ap (λ b. cond (not b) (1 + position_or_len p xs) 0) e ∙ one_more (position_or_len p xs)

within_by : {X : Type 0} (p : X → Bool) (x : X) (xs : List X) (b : Bool) → p x ≡ b → position_or_len p xs ≤ length xs → position_or_len p (x ∷ xs) ≤ length (x ∷ xs)
within_by p x xs true e later = subst (λ n. n ≤ length (x ∷ xs)) (sym (at_front p x xs e)) (omega arith)
within_by p x xs false e later = subst (λ n. n ≤ length (x ∷ xs)) (sym (behind_front p x xs e)) (omega (arith, later))

within : {X : Type 0} (p : X → Bool) (xs : List X) → position_or_len p xs ≤ length xs
within p [] = omega arith
within p (x ∷ xs) = within_by p x xs (p x) refl (within p xs)

some_place_by : (b : Bool) (n place : ℕ) → cond b (Some n) None ≡ Some place → n ≡ place
some_place_by true n place is = cc
some_place_by false n place is = absurd cc

pub some_place : {X : Type 0} (p : X → Bool) (xs : List X) (place : ℕ) → position p xs ≡ Some place → position_or_len p xs ≡ place
some_place p xs place is = some_place_by (nat_lt (position_or_len p xs) (length xs)) (position_or_len p xs) place is

no_place_by : (b : Bool) (n size : ℕ) → nat_lt n size ≡ b → n ≤ size → cond b (Some n) None ≡ None → n ≡ size
no_place_by true n size e less is = absurd cc
no_place_by false n size e less is = let more = ltb-false n size e in omega (arith, less, more)

pub no_place : {X : Type 0} (p : X → Bool) (xs : List X) → position p xs ≡ None → position_or_len p xs ≡ length xs
no_place p xs is = no_place_by (nat_lt (position_or_len p xs) (length xs)) (position_or_len p xs) (length xs) refl (within p xs) is

-- none of them passes
none_by : {X : Type 0} (p : X → Bool) (x : X) (xs : List X) (b : Bool) → p x ≡ b → list_any p (take (position_or_len p xs) xs) ≡ false →
    list_any p (take (position_or_len p (x ∷ xs)) (x ∷ xs)) ≡ false
none_by p x xs true e none = ap (λ n. list_any p (take n (x ∷ xs))) (at_front p x xs e)
none_by p x xs false e none = ap (λ n. list_any p (take n (x ∷ xs))) (behind_front p x xs e) ∙ ap (λ b. b || list_any p (take (position_or_len p xs) xs)) e ∙ none

none_before : {X : Type 0} (p : X → Bool) (xs : List X) → list_any p (take (position_or_len p xs) xs) ≡ false
none_before p [] = refl
none_before p (x ∷ xs) = none_by p x xs (p x) refl (none_before p xs)

-- Where the first piece begins.
whole_first : (functions : List FunctionDecl) (place : ℕ) (pieces : List (List ℕ)) → is_whole_at functions place ≡ true → in_front (is_whole_at functions) place pieces ≡ (place ∷ []) ∷ pieces
whole_first functions place [] e = refl
whole_first functions place (piece ∷ later) e =
    ap (λ b. cond (b || list_any (is_whole_at functions) piece) ((place ∷ []) ∷ piece ∷ later) ((place ∷ piece) ∷ later)) e

beside : (functions : List FunctionDecl) (place : ℕ) (piece : List ℕ) (later : List (List ℕ)) (b : Bool) → is_whole_at functions place ≡ false → list_any (is_whole_at functions) piece ≡ b →
    in_front (is_whole_at functions) place (piece ∷ later) ≡ cond b ((place ∷ []) ∷ piece ∷ later) ((place ∷ piece) ∷ later)
beside functions place piece later b e any =
    ap (λ a. cond (a || list_any (is_whole_at functions) piece) ((place ∷ []) ∷ piece ∷ later) ((place ∷ piece) ∷ later)) e
    ∙ ap (λ a. cond a ((place ∷ []) ∷ piece ∷ later) ((place ∷ piece) ∷ later)) any

-- this number of functions at the front is the first piece
record Front (functions : List FunctionDecl) (order : List ℕ) (count : ℕ) : Type 0 where
  cut : cut (is_whole_at functions) order ≡ take count order ∷ cut (is_whole_at functions) (drop count order)

whole_front : (functions : List FunctionDecl) (place : ℕ) (later : List ℕ) → is_whole_at functions place ≡ true → Front functions (place ∷ later) 1
unfolding cut
whole_front functions place later e = record { cut = whole_first functions place (cut (is_whole_at functions) later) e }

plain_by : (functions : List FunctionDecl) (place q : ℕ) (qs : List ℕ) (b : Bool) → is_whole_at functions place ≡ false → is_whole_at functions q ≡ b →
    (is_whole_at functions q ≡ false → Front functions (q ∷ qs) (suc (position_or_len (is_whole_at functions) qs))) →
    Front functions (place ∷ q ∷ qs) (suc (position_or_len (is_whole_at functions) (q ∷ qs)))
unfolding cut
plain_by functions place q qs true e is later =
    subst (λ n. Front functions (place ∷ q ∷ qs) (suc n)) (sym (at_front (is_whole_at functions) q qs is)) (record {
      cut = ap (λ l. in_front (is_whole_at functions) place l) (whole_front functions q qs is).cut
          ∙ beside functions place (q ∷ []) (cut (is_whole_at functions) qs) true e (ap (λ b. b || false) is)
          ∙ ap (λ l. (place ∷ []) ∷ l) (sym (whole_front functions q qs is).cut);
    })
plain_by functions place q qs false e is later =
    subst (λ n. Front functions (place ∷ q ∷ qs) (suc n)) (sym (behind_front (is_whole_at functions) q qs is)) (record {
      cut = ap (λ l. in_front (is_whole_at functions) place l) (later is).cut
          ∙ beside functions place (take (suc (position_or_len (is_whole_at functions) qs)) (q ∷ qs)) (cut (is_whole_at functions) (drop (suc (position_or_len (is_whole_at functions) qs)) (q ∷ qs))) false e
          (ap (λ b. b || list_any (is_whole_at functions) (take (position_or_len (is_whole_at functions) qs) qs)) is ∙ none_before (is_whole_at functions) qs);
    })

plain_front : (functions : List FunctionDecl) (place : ℕ) (later : List ℕ) → is_whole_at functions place ≡ false → Front functions (place ∷ later) (suc (position_or_len (is_whole_at functions) later))
unfolding cut
plain_front functions place [] e = record { cut = refl }
plain_front functions place (q ∷ qs) e = plain_by functions place q qs (is_whole_at functions q) e refl (plain_front functions q qs)

pub whole_is_first : (functions : List FunctionDecl) (order : List ℕ) → 0 < length order → position_or_len (is_whole_at functions) order ≡ 0 → IsFirstPiece functions order 1
whole_is_first functions [] some none = absurd (omega arith)
whole_is_first functions (place ∷ later) some none = by_test (is_whole_at functions place) refl none
  where
    by_test : (b : Bool) → is_whole_at functions place ≡ b → position_or_len (is_whole_at functions) (place ∷ later) ≡ 0 → IsFirstPiece functions (place ∷ later) 1
    by_test true e none = record { some = omega arith; inside = omega arith; first = (whole_front functions place later e).cut }
    by_test false e none = let more = behind_front (is_whole_at functions) place later e in absurd (omega (arith, more, none))

pub plain_is_first : (functions : List FunctionDecl) (order : List ℕ) (count : ℕ) → position_or_len (is_whole_at functions) order ≡ count → 0 < count → IsFirstPiece functions order count
plain_is_first functions [] count is some = let none : 0 ≡ count = is in absurd (omega (arith, none, some))
plain_is_first functions (place ∷ later) count is some = by_test (is_whole_at functions place) refl
  where
    by_test : (b : Bool) → is_whole_at functions place ≡ b → IsFirstPiece functions (place ∷ later) count
    by_test true e = let none = at_front (is_whole_at functions) place later e in absurd (omega (arith, none, is, some))
    by_test false e = subst (λ n. IsFirstPiece functions (place ∷ later) n) (sym (behind_front (is_whole_at functions) place later e) ∙ is)
        (let less = within (is_whole_at functions) later in record { some = omega arith; inside = omega (arith, less); first = (plain_front functions place later e).cut })

-- The pieces are put one after another.
pub none_put : (functions : List FunctionDecl) (order out : List ℕ) → All (λ p. p < length functions) order → length order ≤ 64 → IsPut functions order order 1 out out
none_put functions order out inside few = record { due = refl; inside = inside; few = omega (arith, few); counted = omega arith }

pub one_put : (functions : List FunctionDecl) (order rest : List ℕ) (number : ℕ) (old out out' : List ℕ) (count next : ℕ) → IsPut functions order rest number old out → IsFirstPiece functions rest count →
    out' ≡ out ++ numbered (stage_text functions (take count rest)) number (stages_of functions (take count rest)) → next ≡ number + length (stages_of functions (take count rest)) →
    next ≤ number + length (take count rest) → IsPut functions order (drop count rest) next old out'
unfolding pieces_text
one_put functions order rest number old out out' count next at first put is few = record {
  due = ap (λ t. t ++ pieces_text functions next (cut (is_whole_at functions) (drop count rest))) put
      ∙ ap (λ n. (out ++ numbered (stage_text functions (take count rest)) number (stages_of functions (take count rest))) ++ pieces_text functions n (cut (is_whole_at functions) (drop count rest))) is
      ∙ append_assoc out (numbered (stage_text functions (take count rest)) number (stages_of functions (take count rest))) (pieces_text functions (number + length (stages_of functions (take count rest))) (cut (is_whole_at functions) (drop count rest)))
      ∙ ap (λ l. out ++ pieces_text functions number l) (sym first.first)
      ∙ at.due;
  inside = All-drop (λ p. p < length functions) count rest at.inside;
  few = let room = at.few in let less = first.inside in omega (arith, room, less, few, length-take {A = ℕ}, length-drop {A = ℕ});
  counted = let before = at.counted in omega (arith, is, before);
}

pub all_put : (functions : List FunctionDecl) (order rest : List ℕ) (number : ℕ) (old out : List ℕ) → IsPut functions order rest number old out → length rest ≡ 0 → out ≡ old ++ pieces_text functions 1 (cut (is_whole_at functions) order)
unfolding pieces_text cut
all_put functions order [] number old out at none = sym (append-nil out) ∙ at.due
all_put functions order (place ∷ later) number old out at none = absurd (omega (arith, none))

-- A chain without a function that rewrites packets whole is one piece.
neither : (a b : Bool) → (a || b) ≡ false → (a ≡ false) × (b ≡ false)
neither true b none = absurd cc
neither false b none = (refl, none)

one_cut : (functions : List FunctionDecl) (place : ℕ) (later : List ℕ) → list_any (is_whole_at functions) (place ∷ later) ≡ false → cut (is_whole_at functions) (place ∷ later) ≡ (place ∷ later) ∷ []
unfolding cut
one_cut functions place [] none = refl
one_cut functions place (q ∷ qs) none =
    let apart = neither (is_whole_at functions place) (list_any (is_whole_at functions) (q ∷ qs)) none in
    ap (λ l. in_front (is_whole_at functions) place l) (one_cut functions q qs apart.1) ∙ beside functions place (q ∷ qs) [] false apart.0 apart.1

pub one_piece : (functions : List FunctionDecl) (order : List ℕ) → list_any (is_whole_at functions) order ≡ false →
    pieces_text functions 1 (cut (is_whole_at functions) order) ≡ numbered (stage_text functions order) 1 (stages_of functions order)
unfolding pieces_text cut graph_of
one_piece functions [] none = refl
one_piece functions (place ∷ later) none =
    ap (λ l. pieces_text functions 1 l) (one_cut functions place later none) ∙ append-nil (numbered (stage_text functions (place ∷ later)) 1 (stages_of functions (place ∷ later)))
