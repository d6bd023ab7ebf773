-- A branch that owns its functions does what it does among all functions of the chain.
use Rattle.std.proofs.Common.{◌≡◌, ◌≢◌, ◌≤◌, ◌-◌, ◌∙◌, ℕ, zero, suc, List, ◌∷◌, [], length, set, sym, ap, refl, subst, arith, Some, None, length-set}
use Rattle.std.specs.Prelude.{Option, slice_get}
use Rattle.std.specs.List.{cons_option}
use Rattle.chain_walk.specs.Step.{Behaviour}
use Rattle.chain_walk.specs.declared.fixed.Fixed.{Fixed}
use Rattle.graph_compile.specs.Facts.{times}
use Rattle.graph_law.specs.Branches.{BranchEnd, Ran, met, in_turn, moved_function, moved_end}
use Rattle.burst_law.specs.Stations.{Turn, then_state}
use Rattle.burst_law.specs.Owned.{owned, turned}
use Rattle.burst_law.proofs.Positions.{got, AreOnce, times_here, times_later, once_rest, owned_same}

pub set_here : {F : Type 0} (fs : List F) (i : ℕ) (f y : F) → slice_get fs i ≡ Some f → slice_get (set fs i y) i ≡ Some y
set_here [] i f y e = absurd cc
set_here (x ∷ fs) zero f y e = refl
set_here (x ∷ fs) (suc i) f y e = set_here fs i f y e

pub set_others : {F : Type 0} (fs : List F) (i j : ℕ) (y : F) → i ≢ j → slice_get (set fs i y) j ≡ slice_get fs j
set_others [] i j y ne = refl
set_others (x ∷ fs) zero zero y ne = absurd (ne refl)
set_others (x ∷ fs) zero (suc j) y ne = refl
set_others (x ∷ fs) (suc i) zero y ne = refl
set_others (x ∷ fs) (suc i) (suc j) y ne = set_others fs i j y (λ e. ne (ap suc e))

-- positions that count from 1
abbrev pub CountFromOne : List ℕ → Type 0
CountFromOne qs = (q : ℕ) → 1 ≤ times q qs → 1 ≤ q

met_others : {F : Type 0} (b : Behaviour F) (fixed : Fixed) (q : ℕ) (o : Option F) (fs : List F) (a : BranchEnd) (r : ℕ) → 1 ≤ q → 1 ≤ r → q ≢ r → slice_get (met b fixed q o fs a).functions (r - 1) ≡ slice_get fs (r - 1)
unfolding met
met_others b fixed q None fs a r low lows ne = refl
met_others b fixed q (Some f) fs a r low lows ne = set_others fs (q - 1) (r - 1) (moved_function b fixed f a) (λ e. ne (omega arith))

-- a branch leaves the functions at other positions
pub in_turn_others : {F : Type 0} (b : Behaviour F) (fixed : Fixed) (qs : List ℕ) (fs : List F) (a : BranchEnd) (r : ℕ) → CountFromOne qs → 1 ≤ r → times r qs ≡ 0 → slice_get (in_turn b fixed qs fs a).functions (r - 1) ≡ slice_get fs (r - 1)
unfolding in_turn
in_turn_others b fixed [] fs a r low lows none = refl
in_turn_others {F} b fixed (q ∷ qs) fs a r low lows none =
    let m : Ran F = met b fixed q (slice_get fs (q - 1)) fs a in
    in_turn_others b fixed qs m.functions m.arrival r (λ p some. low p (let l = times_later p q qs in omega arith)) lows (let l = times_later r q qs in omega arith)
    ∙ met_others b fixed q (slice_get fs (q - 1)) fs a r (low q (let t = times_here q qs in omega arith)) lows other
  where
    other : q ≢ r
    other e = let t = times_here q qs in let same : times q (q ∷ qs) ≡ times r (q ∷ qs) = ap (λ p. times p (q ∷ qs)) e in omega arith

-- the functions of a branch as it leaves them, and what leaves the branch
abbrev pub parted : {F : Type 0} → List ℕ → Ran F → Turn (List F) BranchEnd
parted qs r = record { state = owned qs r.functions; gives = r.arrival }

pub turned_is : {F : Type 0} (b : Behaviour F) (fixed : Fixed) (qs : List ℕ) (fs : List F) (a : BranchEnd) → AreOnce (length fs) qs →
    turned b fixed qs (owned qs fs) a ≡ parted qs (in_turn b fixed qs fs a)
unfolding turned in_turn met
turned_is b fixed [] fs a h = refl
turned_is {F} b fixed (q ∷ qs) fs a h =
    ap (λ o. turned b fixed (q ∷ qs) (cons_option o (owned qs fs)) a) is
    ∙ ap (λ l. then_state y (turned b fixed qs l z)) (sym kept)
    ∙ ap (then_state y) (turned_is b fixed qs next z (subst (λ n. AreOnce n qs) (sym (length-set fs (q - 1) y)) (once_rest (length fs) q qs h)))
    ∙ (λ i. record { state = cons_option (sym stays i) (owned qs (in_turn b fixed qs next z).functions); gives = (in_turn b fixed qs next z).arrival })
    ∙ ap (λ o. parted (q ∷ qs) (in_turn b fixed qs (met b fixed q o fs a).functions (met b fixed q o fs a).arrival)) (sym is)
  where
    some : 1 ≤ times q (q ∷ qs)
    some = let t = times_here q qs in omega arith

    low : 1 ≤ q
    low = (h.within q some).0

    f : F
    f = (got fs (q - 1) (let w = h.within q some in let l = w.0 in let u = w.1 in omega arith)).0

    is : slice_get fs (q - 1) ≡ Some f
    is = (got fs (q - 1) (let w = h.within q some in let l = w.0 in let u = w.1 in omega arith)).1

    y : F
    y = moved_function b fixed f a

    z : BranchEnd
    z = moved_end b fixed q f a

    next : List F
    next = set fs (q - 1) y

    none : times q qs ≡ 0
    none = let o = h.once q in let t = times_here q qs in omega arith

    other : (r : ℕ) → 1 ≤ times r qs → q ≢ r
    other r some e = let same : times q qs ≡ times r qs = ap (λ p. times p qs) e in let n = none in omega arith

    kept : owned qs next ≡ owned qs fs
    kept = owned_same qs fs next (record { same = λ r some. set_others fs (q - 1) (r - 1) y (λ e. other r some (let w = h.within r (let l = times_later r q qs in omega arith) in let u = w.0 in let l = low in omega arith)) })

    stays : slice_get (in_turn b fixed qs next z).functions (q - 1) ≡ Some y
    stays = in_turn_others b fixed qs next z q (λ p some. (h.within p (let l = times_later p q qs in omega arith)).0) low none ∙ set_here fs (q - 1) f y is
