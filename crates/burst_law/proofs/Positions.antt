-- Positions of a chain that occur once each, and the functions at them.
use Rattle.std.proofs.Common.{subst, zero, suc, Some, ◌≡◌, ◌<◌, ◌≤◌, ◌+◌, ◌-◌, ℕ, List, ◌∷◌, [], ◌++◌, length, ap, refl, arith, inl, inr, eq-eqb, sym, ◌∙◌}
use Rattle.std.specs.Prelude.{◌⊎◌, ◌==◌, slice_get}
use Rattle.std.specs.List.{cons_option}
use Rattle.action_profile.specs.declared.rights.Profile.{Profile}
use Rattle.graph_compile.specs.Facts.{IsLawful, positions_of, all_positions, times}
use Rattle.graph_compile.specs.declared.graph.Branch.{Branch}
use Rattle.graph_compile.specs.declared.graph.Graph.{Graph}
use Rattle.graph_compile.specs.declared.graph.Stage.{Stage}
use Rattle.graph_compile.proofs.Counting.{one_if}
use Rattle.graph_compile.proofs.FiveFacts.{times-stages}
use Rattle.graph_compile.proofs.Times.{times-cons, times-append}
use Rattle.burst_law.specs.Owned.{owned, owned_in, owned_by}

-- each of these positions occurs once, and is at most this number of functions
pub record AreOnce (n : ℕ) (qs : List ℕ) : Type 0 where
  pub once : (q : ℕ) → times q qs ≤ 1
  pub within : (q : ℕ) → 1 ≤ times q qs → (1 ≤ q) × (q ≤ n)

pub times_here : (q : ℕ) (qs : List ℕ) → times q (q ∷ qs) ≡ 1 + times q qs
times_here q qs = let here : one_if (q == q) ≡ 1 = ap one_if (eq-eqb q q refl) in omega (arith, times-cons q q qs, here)

pub times_later : (r q : ℕ) (qs : List ℕ) → times r qs ≤ times r (q ∷ qs)
times_later r q qs = omega (arith, times-cons r q qs)

pub once_rest : (n q : ℕ) (qs : List ℕ) → AreOnce n (q ∷ qs) → AreOnce n qs
once_rest n q qs h = record {
  once = λ r. let l = times_later r q qs in let o = h.once r in omega arith;
  within = λ r some. h.within r (let l = times_later r q qs in omega arith);
}

pub once_front : (n : ℕ) (xs ys : List ℕ) → AreOnce n (xs ++ ys) → AreOnce n xs
once_front n xs ys h = record {
  once = λ q. let t = times-append q xs ys in let o = h.once q in omega arith;
  within = λ q some. h.within q (let t = times-append q xs ys in omega arith);
}

pub once_back : (n : ℕ) (xs ys : List ℕ) → AreOnce n (xs ++ ys) → AreOnce n ys
once_back n xs ys h = record {
  once = λ q. let t = times-append q xs ys in let o = h.once q in omega arith;
  within = λ q some. h.within q (let t = times-append q xs ys in omega arith);
}

pub once_apart : (n : ℕ) (xs ys : List ℕ) → AreOnce n (xs ++ ys) → (q : ℕ) → 1 ≤ times q xs → times q ys ≡ 0
once_apart n xs ys h q some = let t = times-append q xs ys in let o = h.once q in omega arith

-- a stage and those after it
pub stage_front : (n : ℕ) (s : Stage) (stages : List Stage) → AreOnce n (all_positions (s ∷ stages)) → AreOnce n (positions_of s.branches)
stage_front n s stages h = record {
  once = λ q. let t = times-stages q s stages in let o = h.once q in omega arith;
  within = λ q some. h.within q (let t = times-stages q s stages in omega arith);
}

pub stage_back : (n : ℕ) (s : Stage) (stages : List Stage) → AreOnce n (all_positions (s ∷ stages)) → AreOnce n (all_positions stages)
stage_back n s stages h = record {
  once = λ q. let t = times-stages q s stages in let o = h.once q in omega arith;
  within = λ q some. h.within q (let t = times-stages q s stages in omega arith);
}

pub stage_apart : (n : ℕ) (s : Stage) (stages : List Stage) → AreOnce n (all_positions (s ∷ stages)) → (q : ℕ) → 1 ≤ times q (positions_of s.branches) → times q (all_positions stages) ≡ 0
stage_apart n s stages h q some = let t = times-stages q s stages in let o = h.once q in omega arith

pub behind_apart : (n : ℕ) (s : Stage) (stages : List Stage) → AreOnce n (all_positions (s ∷ stages)) → (q : ℕ) → 1 ≤ times q (all_positions stages) → times q (positions_of s.branches) ≡ 0
behind_apart n s stages h q some = let t = times-stages q s stages in let o = h.once q in omega arith

in_or_out : (q n : ℕ) → ((1 ≤ q) × (q ≤ n)) ⊎ ((q < 1) ⊎ (n < q))
in_or_out q n = grind arith

-- those of a lawful graph occur once
pub lawful_once : (graph : Graph) (chain : List Profile) → IsLawful graph chain → AreOnce (length chain) (all_positions graph.stages)
lawful_once graph chain h = record { once = λ q. count q (in_or_out q (length chain)); within = λ q some. inside q some (in_or_out q (length chain)) }
  where
    count : (q : ℕ) → ((1 ≤ q) × (q ≤ length chain)) ⊎ ((q < 1) ⊎ (length chain < q)) → times q (all_positions graph.stages) ≤ 1
    count q (inl l) = let one = h.each_once q l.0 l.1 in omega arith
    count q (inr o) = let none = h.no_other q o in omega arith

    inside : (q : ℕ) → 1 ≤ times q (all_positions graph.stages) → ((1 ≤ q) × (q ≤ length chain)) ⊎ ((q < 1) ⊎ (length chain < q)) → (1 ≤ q) × (q ≤ length chain)
    inside q some (inl l) = l
    inside q some (inr o) = absurd (let none = h.no_other q o in omega arith)

-- the same functions are at these positions
pub record AreSame {F : Type 0} (qs : List ℕ) (fs gs : List F) : Type 0 where
  pub same : (q : ℕ) → 1 ≤ times q qs → slice_get gs (q - 1) ≡ slice_get fs (q - 1)

pub owned_same : {F : Type 0} (qs : List ℕ) (fs gs : List F) → AreSame qs fs gs → owned qs gs ≡ owned qs fs
owned_same [] fs gs h = refl
owned_same (q ∷ qs) fs gs h =
    let rest : owned qs gs ≡ owned qs fs = owned_same qs fs gs (record { same = λ r some. h.same r (let l = times_later r q qs in omega arith) }) in
    let here : slice_get gs (q - 1) ≡ slice_get fs (q - 1) = h.same q (let t = times_here q qs in omega arith) in
    λ i. cons_option (here i) (rest i)

pub owned_in_same : {F : Type 0} (branches : List Branch) (fs gs : List F) → AreSame (positions_of branches) fs gs → owned_in branches gs ≡ owned_in branches fs
owned_in_same [] fs gs h = refl
owned_in_same (x ∷ branches) fs gs h =
    let here : owned x.positions gs ≡ owned x.positions fs = owned_same x.positions fs gs (record { same = λ q some. h.same q (let t = times-append q x.positions (positions_of branches) in omega arith) }) in
    let rest : owned_in branches gs ≡ owned_in branches fs = owned_in_same branches fs gs (record { same = λ q some. h.same q (let t = times-append q x.positions (positions_of branches) in omega arith) }) in
    λ i. here i ∷ rest i

pub owned_by_same : {F : Type 0} (stages : List Stage) (fs gs : List F) → AreSame (all_positions stages) fs gs → owned_by stages gs ≡ owned_by stages fs
owned_by_same [] fs gs h = refl
owned_by_same (s ∷ stages) fs gs h =
    let here : owned_in s.branches gs ≡ owned_in s.branches fs = owned_in_same s.branches fs gs (record { same = λ q some. h.same q (let t = times-stages q s stages in omega arith) }) in
    let rest : owned_by stages gs ≡ owned_by stages fs = owned_by_same stages fs gs (record { same = λ q some. h.same q (let t = times-stages q s stages in omega arith) }) in
    λ i. here i ∷ rest i

-- those of one stage among stages, and of one branch among branches
pub stage_at : (n i : ℕ) (s : Stage) (stages : List Stage) → AreOnce n (all_positions stages) → slice_get stages i ≡ Some s → AreOnce n (positions_of s.branches)
stage_at n i s [] h e = absurd cc
stage_at n zero s (t ∷ stages) h e = let same : t ≡ s = cc in subst (λ (u : Stage). AreOnce n (positions_of u.branches)) same (stage_front n t stages h)
stage_at n (suc i) s (t ∷ stages) h e = stage_at n i s stages (stage_back n t stages h) e

pub branch_at : (n j : ℕ) (x : Branch) (branches : List Branch) → AreOnce n (positions_of branches) → slice_get branches j ≡ Some x → AreOnce n x.positions
branch_at n j x [] h e = absurd cc
branch_at n zero x (y ∷ branches) h e = let same : y ≡ x = cc in subst (λ (u : Branch). AreOnce n u.positions) same (once_front n y.positions (positions_of branches) h)
branch_at n (suc j) x (y ∷ branches) h e = branch_at n j x branches (once_back n y.positions (positions_of branches) h) e

pub got : {F : Type 0} (fs : List F) (i : ℕ) → i < length fs → (f : F) × (slice_get fs i ≡ Some f)
got [] i l = absurd (omega arith)
got (f ∷ fs) zero l = (f, refl)
got (f ∷ fs) (suc i) l = got fs i (omega arith)

first_inside : (n q : ℕ) (qs : List ℕ) → AreOnce n (q ∷ qs) → q - 1 < n
first_inside n q qs h = let w = h.within q (let t = times_here q qs in omega arith) in let l = w.0 in let u = w.1 in omega arith

pub owned_count : {F : Type 0} (qs : List ℕ) (fs : List F) → AreOnce (length fs) qs → length (owned qs fs) ≡ length qs
owned_count [] fs h = refl
owned_count {F} (q ∷ qs) fs h = ap (λ o. length (cons_option o (owned qs fs))) here.1 ∙ ap suc (owned_count qs fs (once_rest (length fs) q qs h))
  where
    here : (f : F) × (slice_get fs (q - 1) ≡ Some f)
    here = got fs (q - 1) (first_inside (length fs) q qs h)

pub owned_each : {F : Type 0} (qs : List ℕ) (fs : List F) (k q : ℕ) → AreOnce (length fs) qs → slice_get qs k ≡ Some q → slice_get (owned qs fs) k ≡ slice_get fs (q - 1)
owned_each [] fs k q h e = absurd cc
owned_each {F} (r ∷ qs) fs k q h e = ap (λ o. slice_get (cons_option o (owned qs fs)) k) here.1 ∙ go k e (λ k e. owned_each qs fs k q (once_rest (length fs) r qs h) e)
  where
    here : (f : F) × (slice_get fs (r - 1) ≡ Some f)
    here = got fs (r - 1) (first_inside (length fs) r qs h)

    go : (k : ℕ) → slice_get (r ∷ qs) k ≡ Some q → ((k : ℕ) → slice_get qs k ≡ Some q → slice_get (owned qs fs) k ≡ slice_get fs (q - 1)) → slice_get (here.0 ∷ owned qs fs) k ≡ slice_get fs (q - 1)
    go zero e later = let same : r ≡ q = cc in sym here.1 ∙ ap (λ p. slice_get fs (p - 1)) same
    go (suc k) e later = later k e
