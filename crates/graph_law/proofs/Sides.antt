-- A branch among the functions of its stage alone: it takes, in chain order, those whose position is on its side.
use Rattle.std.proofs.Common.{◌≡◌, ◌≢◌, ◌<◌, ◌≤◌, ◌+◌, ◌∙◌, ℕ, List, ◌∷◌, [], length, sym, ap, refl, arith, eq-eqb, ne_eqb, inl, inr}
use Rattle.std.specs.Prelude.{◌==◌, ◌⊎◌, if◌then◌else◌}
use Rattle.action_profile.specs.declared.parts.Touch.{Touch}
use Rattle.chain_walk.specs.Shown.{Values}
use Rattle.chain_walk.specs.Step.{Behaviour}
use Rattle.chain_walk.specs.declared.fixed.Fixed.{Fixed}
use Rattle.graph_law.specs.Branches.{BranchEnd, BranchEnd.Nil, Ran, dealt, moved_function, moved_end}
use Rattle.graph_law.specs.Flow.{Branched, then_branched}

abbrev pub then_ran : {F : Type 0} → F → Ran F → Ran F
then_ran f rest = record { functions = f ∷ rest.functions; arrival = rest.arrival }

-- the functions of branch `c`, among those from position `p` on
unfoldable pub ran : {F : Type 0} → Behaviour F → Fixed → (ℕ → ℕ) → ℕ → ℕ → List F → BranchEnd → Ran F
ran b fixed side c p [] a = record { functions = []; arrival = a }
ran b fixed side c p (f ∷ fs) a = if side p == c
    then then_ran (moved_function b fixed f a) (ran b fixed side c (p + 1) fs (moved_end b fixed p f a))
    else then_ran f (ran b fixed side c (p + 1) fs a)

-- the branches from branch `c` on, each with what it touches
unfoldable pub sides : {F : Type 0} → Behaviour F → Fixed → (ℕ → ℕ) → ℕ → ℕ → List Touch → Values → List F → Branched F
sides b fixed side c p [] values fs = record { functions = fs; arrivals = [] }
sides b fixed side c p (t ∷ touches) values fs =
    then_branched (ran b fixed side c p fs (dealt t values)).arrival (sides b fixed side (c + 1) p touches values (ran b fixed side c p fs (dealt t values)).functions)

-- two numbers are equal, or not
pub is_or_not : (m n : ℕ) → (m ≡ n) ⊎ (m ≢ n)
is_or_not m n = grind arith

pub ran_here : {F : Type 0} (b : Behaviour F) (fixed : Fixed) (side : ℕ → ℕ) (c p : ℕ) (f : F) (fs : List F) (a : BranchEnd) → side p ≡ c →
    ran b fixed side c p (f ∷ fs) a ≡ then_ran (moved_function b fixed f a) (ran b fixed side c (p + 1) fs (moved_end b fixed p f a))
unfolding ran
ran_here b fixed side c p f fs a e = rw (eq-eqb (side p) c e) refl

pub ran_elsewhere : {F : Type 0} (b : Behaviour F) (fixed : Fixed) (side : ℕ → ℕ) (c p : ℕ) (f : F) (fs : List F) (a : BranchEnd) → side p ≢ c →
    ran b fixed side c p (f ∷ fs) a ≡ then_ran f (ran b fixed side c (p + 1) fs a)
unfolding ran
ran_elsewhere b fixed side c p f fs a ne = rw (ne_eqb (side p) c ne) refl

-- nothing runs after a drop
pub ran_nil : {F : Type 0} (b : Behaviour F) (fixed : Fixed) (side : ℕ → ℕ) (c p q : ℕ) (fs : List F) → ran b fixed side c p fs (Nil q) ≡ record { functions = fs; arrival = Nil q }
unfolding ran moved_function moved_end
ran_nil b fixed side c p q [] = refl
ran_nil b fixed side c p q (f ∷ fs) = go (is_or_not (side p) c) (ran_nil b fixed side c (p + 1) q fs)
  where
    go : (side p ≡ c) ⊎ (side p ≢ c) → ran b fixed side c (p + 1) fs (Nil q) ≡ record { functions = fs; arrival = Nil q } → ran b fixed side c p (f ∷ fs) (Nil q) ≡ record { functions = f ∷ fs; arrival = Nil q }
    go (inl e) ih = ran_here b fixed side c p f fs (Nil q) e ∙ ap (then_ran f) ih
    go (inr ne) ih = ran_elsewhere b fixed side c p f fs (Nil q) ne ∙ ap (then_ran f) ih

pub length_ran : {F : Type 0} (b : Behaviour F) (fixed : Fixed) (side : ℕ → ℕ) (c p : ℕ) (fs : List F) (a : BranchEnd) → length (ran b fixed side c p fs a).functions ≡ length fs
unfolding ran
length_ran b fixed side c p [] a = refl
length_ran b fixed side c p (f ∷ fs) a = go (is_or_not (side p) c) (λ a. length_ran b fixed side c (p + 1) fs a)
  where
    go : (side p ≡ c) ⊎ (side p ≢ c) → ((a : BranchEnd) → length (ran b fixed side c (p + 1) fs a).functions ≡ length fs) → length (ran b fixed side c p (f ∷ fs) a).functions ≡ length (f ∷ fs)
    go (inl e) ih = rw (ran_here b fixed side c p f fs a e) (let n = ih (moved_end b fixed p f a) in omega arith)
    go (inr ne) ih = rw (ran_elsewhere b fixed side c p f fs a ne) (let n = ih a in omega arith)

pub length_sides : {F : Type 0} (b : Behaviour F) (fixed : Fixed) (side : ℕ → ℕ) (c p : ℕ) (touches : List Touch) (values : Values) (fs : List F) → length (sides b fixed side c p touches values fs).functions ≡ length fs
unfolding sides
length_sides b fixed side c p [] values fs = refl
length_sides b fixed side c p (t ∷ touches) values fs = length_sides b fixed side (c + 1) p touches values (ran b fixed side c p fs (dealt t values)).functions ∙ length_ran b fixed side c p fs (dealt t values)

-- the same functions on side `c`
unfoldable pub Agree : {F : Type 0} → (ℕ → ℕ) → ℕ → ℕ → List F → List F → Type 0
Agree side c p [] [] = Unit {0}
Agree side c p [] (g ∷ gs) = ⊥
Agree side c p (f ∷ fs) [] = ⊥
Agree side c p (f ∷ fs) (g ∷ gs) = (side p ≡ c → f ≡ g) × Agree side c (p + 1) fs gs

pub agree_refl : {F : Type 0} (side : ℕ → ℕ) (c p : ℕ) (fs : List F) → Agree side c p fs fs
unfolding Agree
agree_refl side c p [] = tt
agree_refl side c p (f ∷ fs) = (λ _. refl, agree_refl side c (p + 1) fs)

pub agree_trans : {F : Type 0} (side : ℕ → ℕ) (c p : ℕ) (xs ys zs : List F) → Agree side c p xs ys → Agree side c p ys zs → Agree side c p xs zs
unfolding Agree
agree_trans side c p [] [] zs h k = k
agree_trans side c p [] (y ∷ ys) zs h k = absurd h
agree_trans side c p (x ∷ xs) [] zs h k = absurd h
agree_trans side c p (x ∷ xs) (y ∷ ys) [] h k = absurd k
agree_trans side c p (x ∷ xs) (y ∷ ys) (z ∷ zs) h k = (λ e. h.0 e ∙ k.0 e, agree_trans side c (p + 1) xs ys zs h.1 k.1)

-- lists of one length that agree on each side are equal
pub agree_all : {F : Type 0} (side : ℕ → ℕ) (n p : ℕ) (xs ys : List F) → ((q : ℕ) → p ≤ q → q < p + length xs → side q < n) → ((c : ℕ) → c < n → Agree side c p xs ys) → length xs ≡ length ys → xs ≡ ys
unfolding Agree
agree_all side n p [] [] inside h long = refl
agree_all side n p [] (y ∷ ys) inside h long = absurd (omega arith)
agree_all side n p (x ∷ xs) [] inside h long = absurd (omega arith)
agree_all side n p (x ∷ xs) (y ∷ ys) inside h long =
    let e : x ≡ y = (h (side p) (inside p (omega arith) (omega arith))).0 refl in
    let rest : xs ≡ ys = agree_all side n (p + 1) xs ys (λ q low high. inside q (omega arith) (omega arith)) (λ c l. (h c l).1) (omega arith) in cc

-- a branch changes no function of another
pub ran_others : {F : Type 0} (b : Behaviour F) (fixed : Fixed) (side : ℕ → ℕ) (c d p : ℕ) (fs : List F) (a : BranchEnd) → c ≢ d → Agree side d p fs (ran b fixed side c p fs a).functions
unfolding Agree ran
ran_others b fixed side c d p [] a ne = tt
ran_others b fixed side c d p (f ∷ fs) a ne = go (is_or_not (side p) c) (λ a. ran_others b fixed side c d (p + 1) fs a ne)
  where
    go : (side p ≡ c) ⊎ (side p ≢ c) → ((a : BranchEnd) → Agree side d (p + 1) fs (ran b fixed side c (p + 1) fs a).functions) → Agree side d p (f ∷ fs) (ran b fixed side c p (f ∷ fs) a).functions
    go (inl e) ih = rw (ran_here b fixed side c p f fs a e) ((λ x. absurd (ne (sym e ∙ x))), ih (moved_end b fixed p f a))
    go (inr e) ih = rw (ran_elsewhere b fixed side c p f fs a e) ((λ _. refl), ih a)
