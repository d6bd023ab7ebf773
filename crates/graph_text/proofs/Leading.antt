-- Items that come before others.
use Rattle.std.proofs.Common.{◌≡◌, ◌<◌, ◌∙◌, ℕ, zero, suc, Bool, true, false, ◌&&◌, ◌||◌, List, [], ◌∷◌, Some, ap, refl, arith}
use Rattle.std.specs.Prelude.{◌==◌, slice_get}
use Rattle.std.specs.List.{list_any}
use Rattle.graph_compile.specs.Facts.{positions_of}
use Rattle.graph_compile.specs.declared.graph.Branch.{Branch}
use Rattle.graph_text.specs.Soundness.{standing}
use Rattle.graph_text.specs.Standing.{is_in, is_placed, leads, repeats}
use Rattle.graph_text.proofs.Repeats.{repeats_across, repeats_behind}
use Rattle.graph_text.proofs.Tests.{or_left, or_right, and_both, and_true, any_at, any_flat, any_same}

pub leads_at : {A : Type 0} (f g : A → Bool) (xs : List A) (i j : ℕ) (x y : A) → i < j → slice_get xs i ≡ Some x → slice_get xs j ≡ Some y → f x ≡ true → g y ≡ true → leads f g xs ≡ true
leads_at f g [] i j x y lt e h k l = cc
leads_at f g (z ∷ zs) zero zero x y lt e h k l = absurd (omega arith)
leads_at f g (z ∷ zs) zero (suc j) x y lt e h k l =
    let same : z ≡ x = cc in
    or_left (f z && list_any g zs) (leads f g zs) (and_both (f z) (list_any g zs) (ap f same ∙ k) (any_at g zs j y h l))
leads_at f g (z ∷ zs) (suc i) zero x y lt e h k l = absurd (omega arith)
leads_at f g (z ∷ zs) (suc i) (suc j) x y lt e h k l = or_right (f z && list_any g zs) (leads f g zs) (leads_at f g zs i j x y (omega arith) e h k l)

pub leads_first : {A : Type 0} (f g : A → Bool) (xs : List A) → leads f g xs ≡ true → list_any f xs ≡ true
leads_first f g [] e = e
leads_first f g (x ∷ xs) e =
    elim (f x && list_any g xs) as (λ b. (f x && list_any g xs) ≡ b → (b || leads f g xs) ≡ true → list_any f (x ∷ xs) ≡ true) [
      | true ↦ λ i j. or_left (f x) (list_any f xs) (and_true (f x) (list_any g xs) i).0
      | false ↦ λ i j. or_right (f x) (list_any f xs) (leads_first f g xs j)
    ] refl e

pub leads_second : {A : Type 0} (f g : A → Bool) (xs : List A) → leads f g xs ≡ true → list_any g xs ≡ true
leads_second f g [] e = e
leads_second f g (x ∷ xs) e =
    elim (f x && list_any g xs) as (λ b. (f x && list_any g xs) ≡ b → (b || leads f g xs) ≡ true → list_any g (x ∷ xs) ≡ true) [
      | true ↦ λ i j. or_right (g x) (list_any g xs) (and_true (f x) (list_any g xs) i).1
      | false ↦ λ i j. or_right (g x) (list_any g xs) (leads_second f g xs j)
    ] refl e

-- a position is there if the list of all positions has it
pub any_position : (p : ℕ) (branches : List Branch) → list_any (λ q. q == p) (positions_of branches) ≡ is_in p branches
any_position p branches = any_flat (λ q. q == p) (λ (b : Branch). b.positions) branches

pub any_standing : (p : ℕ) (stages : List (List Branch)) → list_any (λ q. q == p) (standing stages) ≡ is_placed p stages
any_standing p stages = any_flat (λ q. q == p) positions_of stages ∙ any_same (λ bs. list_any (λ q. q == p) (positions_of bs)) (is_in p) stages (any_position p)

-- a position in two stages occurs twice
pub leads_itself : (q : ℕ) (stages : List (List Branch)) → leads (is_in q) (is_in q) stages ≡ true → repeats (standing stages) ≡ true
leads_itself q [] e = absurd (cc)
leads_itself q (s ∷ ss) e =
    elim (is_in q s && list_any (is_in q) ss) as (λ b. (is_in q s && list_any (is_in q) ss) ≡ b → (b || leads (is_in q) (is_in q) ss) ≡ true → repeats (standing (s ∷ ss)) ≡ true) [
      | true ↦ λ i j.
          let both = and_true (is_in q s) (list_any (is_in q) ss) i in
          repeats_across q (positions_of s) (standing ss) (any_position q s ∙ both.0) (any_standing q ss ∙ both.1)
      | false ↦ λ i j. repeats_behind (positions_of s) (standing ss) (leads_itself q ss j)
    ] refl e
