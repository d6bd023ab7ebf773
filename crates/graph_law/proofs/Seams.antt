-- A stage's functions among all functions of the chain: those before them, and those after.
use Rattle.std.proofs.Common.{◌≡◌, ◌≢◌, ◌+◌, ◌-◌, ◌∙◌, ℕ, suc, List, ◌∷◌, [], ◌++◌, length, set, sym, ap, refl, arith, Some, inl, inr, eq-eqb, ne_eqb, append_assoc, length-append}
use Rattle.std.specs.Prelude.{◌⊎◌, ◌==◌, slice_get, filter}
use Rattle.std.specs.List.{range_with_len}
use Rattle.std.proofs.Math.Seq.{set-append_seam}
use Rattle.action_profile.specs.declared.parts.Touch.{Touch}
use Rattle.chain_walk.specs.Shown.{Values}
use Rattle.chain_walk.specs.Step.{Behaviour}
use Rattle.chain_walk.specs.declared.fixed.Fixed.{Fixed}
use Rattle.graph_compile.specs.declared.graph.Branch.{Branch}
use Rattle.graph_law.specs.Branches.{BranchEnd, Ran, dealt, met, in_turn, moved_function, moved_end}
use Rattle.graph_law.specs.Flow.{then_branched, branched}
use Rattle.graph_law.proofs.Sides.{ran, ran_here, ran_elsewhere, length_ran, sides, is_or_not}

-- the positions on side `c`, among `n` from `p` on
abbrev pub places : (ℕ → ℕ) → ℕ → ℕ → ℕ → List ℕ
places side c p n = filter (λ q. side q == c) (range_with_len p n)

pub places_here : (side : ℕ → ℕ) (c p n : ℕ) → side p ≡ c → places side c p (suc n) ≡ p ∷ places side c (p + 1) n
places_here side c p n e = rw (eq-eqb (side p) c e) refl

pub places_elsewhere : (side : ℕ → ℕ) (c p n : ℕ) → side p ≢ c → places side c p (suc n) ≡ places side c (p + 1) n
places_elsewhere side c p n ne = rw (ne_eqb (side p) c ne) refl

pub get_seam : {A : Type 0} (pre : List A) (f : A) (post : List A) → slice_get (pre ++ f ∷ post) (length pre) ≡ Some f
get_seam [] f post = refl
get_seam (x ∷ pre) f post = get_seam pre f post

pub met_seam : {F : Type 0} (b : Behaviour F) (fixed : Fixed) (p : ℕ) (pre : List F) (f : F) (rest : List F) (a : BranchEnd) → suc (length pre) ≡ p →
    met b fixed p (slice_get (pre ++ (f ∷ rest)) (p - 1)) (pre ++ (f ∷ rest)) a ≡ record { functions = pre ++ (moved_function b fixed f a ∷ rest); arrival = moved_end b fixed p f a }
unfolding met
met_seam {F} b fixed p pre f rest a e =
    let whole : List F = pre ++ (f ∷ rest) in
    let y : F = moved_function b fixed f a in
    let at_seam : p - 1 ≡ length pre = omega arith in
    let got : slice_get whole (p - 1) ≡ Some f = ap (slice_get whole) at_seam ∙ get_seam pre f rest in
    let put : set whole (p - 1) y ≡ pre ++ (y ∷ rest) = ap (λ n. set whole n y) at_seam ∙ set-append_seam pre f rest y in
    ap (λ o. met b fixed p o whole a) got ∙ (λ i. record { functions = put i; arrival = moved_end b fixed p f a })

-- a branch by its positions among all functions is the branch among those of its stage
pub in_turn_ran : {F : Type 0} (b : Behaviour F) (fixed : Fixed) (side : ℕ → ℕ) (c p : ℕ) (pre mid post : List F) (a : BranchEnd) → suc (length pre) ≡ p →
    in_turn b fixed (places side c p (length mid)) (pre ++ (mid ++ post)) a ≡ record { functions = pre ++ ((ran b fixed side c p mid a).functions ++ post); arrival = (ran b fixed side c p mid a).arrival }
unfolding in_turn ran
in_turn_ran b fixed side c p pre [] post a e = refl
in_turn_ran {F} b fixed side c p pre (f ∷ mid) post a e = go (is_or_not (side p) c) (λ y a. in_turn_ran b fixed side c (p + 1) (pre ++ y ∷ []) mid post a (simp length-append (omega arith)))
  where
    shift : (y : F) (rest : List F) → (pre ++ y ∷ []) ++ rest ≡ pre ++ (y ∷ rest)
    shift y rest = append_assoc pre (y ∷ []) rest

    go : (side p ≡ c) ⊎ (side p ≢ c) →
        ((y : F) (a : BranchEnd) → in_turn b fixed (places side c (p + 1) (length mid)) ((pre ++ y ∷ []) ++ (mid ++ post)) a ≡ record { functions = (pre ++ y ∷ []) ++ ((ran b fixed side c (p + 1) mid a).functions ++ post); arrival = (ran b fixed side c (p + 1) mid a).arrival }) →
        in_turn b fixed (places side c p (suc (length mid))) (pre ++ (f ∷ (mid ++ post))) a ≡ record { functions = pre ++ ((ran b fixed side c p (f ∷ mid) a).functions ++ post); arrival = (ran b fixed side c p (f ∷ mid) a).arrival }
    go which ih = elim which [
      | inl here ↦ rw (places_here side c p (length mid) here, ran_here b fixed side c p f mid a here) (ap (λ r. in_turn b fixed (places side c (p + 1) (length mid)) r.functions r.arrival) (met_seam b fixed p pre f (mid ++ post) a e) ∙ on (moved_function b fixed f a) (moved_end b fixed p f a))
      | inr ne ↦ rw (places_elsewhere side c p (length mid) ne, ran_elsewhere b fixed side c p f mid a ne) (on f a)
    ]
      where
        on : (y : F) (a : BranchEnd) → in_turn b fixed (places side c (p + 1) (length mid)) (pre ++ (y ∷ (mid ++ post))) a ≡ record { functions = pre ++ (y ∷ ((ran b fixed side c (p + 1) mid a).functions ++ post)); arrival = (ran b fixed side c (p + 1) mid a).arrival }
        on y a = rw (← shift y (mid ++ post), ← shift y ((ran b fixed side c (p + 1) mid a).functions ++ post)) (ih y a)

-- each branch from branch `c` on has the positions on its side
unfoldable pub Listed : (ℕ → ℕ) → ℕ → ℕ → ℕ → List Branch → Type 0
Listed side c p n [] = Unit {0}
Listed side c p n (x ∷ branches) = (x.positions ≡ places side c p n) × Listed side (c + 1) p n branches

pub listed_from : (side : ℕ → ℕ) (c p n : ℕ) (branches : List Branch) → ((j : ℕ) (x : Branch) → slice_get branches j ≡ Some x → x.positions ≡ places side (c + j) p n) → Listed side c p n branches
unfolding Listed
listed_from side c p n [] h = tt
listed_from side c p n (x ∷ branches) h = (
  h 0 x refl ∙ ap (λ d. places side d p n) (omega arith),
  listed_from side (c + 1) p n branches (λ j y e. h (suc j) y e ∙ ap (λ d. places side d p n) (omega arith)),
)

-- the branches of a stage by their positions among all functions are the branches among those of the stage
pub branched_is : {F : Type 0} (b : Behaviour F) (fixed : Fixed) (side : ℕ → ℕ) (c p n : ℕ) (branches : List Branch) (touches : List Touch) (values : Values) (pre mid post : List F) →
    suc (length pre) ≡ p → length mid ≡ n → length touches ≡ length branches → Listed side c p n branches →
    branched b fixed branches touches values (pre ++ (mid ++ post)) ≡ record { functions = pre ++ ((sides b fixed side c p touches values mid).functions ++ post); arrivals = (sides b fixed side c p touches values mid).arrivals }
unfolding branched sides Listed
branched_is b fixed side c p n [] [] values pre mid post at_p count same h = refl
branched_is b fixed side c p n [] (t ∷ touches) values pre mid post at_p count same h = absurd (omega arith)
branched_is b fixed side c p n (x ∷ branches) [] values pre mid post at_p count same h = absurd (omega arith)
branched_is {F} b fixed side c p n (x ∷ branches) (t ∷ touches) values pre mid post at_p count same h =
    let r : Ran F = ran b fixed side c p mid (dealt t values) in
    let one : in_turn b fixed x.positions (pre ++ (mid ++ post)) (dealt t values) ≡ record { functions = pre ++ (r.functions ++ post); arrival = r.arrival } =
    ap (λ qs. in_turn b fixed qs (pre ++ (mid ++ post)) (dealt t values)) (h.0 ∙ ap (places side c p) (sym count)) ∙ in_turn_ran b fixed side c p pre mid post (dealt t values) at_p in
    let rest : branched b fixed branches touches values (pre ++ (r.functions ++ post)) ≡ record { functions = pre ++ ((sides b fixed side (c + 1) p touches values r.functions).functions ++ post); arrivals = (sides b fixed side (c + 1) p touches values r.functions).arrivals } =
    branched_is b fixed side (c + 1) p n branches touches values pre r.functions post at_p (length_ran b fixed side c p mid (dealt t values) ∙ count) (omega arith) h.1 in
    ap (λ s. then_branched s.arrival (branched b fixed branches touches values s.functions)) one ∙ ap (then_branched r.arrival) rest
