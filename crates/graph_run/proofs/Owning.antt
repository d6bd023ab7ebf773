-- The branches of a lawful stage hold what their functions name.
use Rattle.std.proofs.Common.{◌≡◌, ◌∙◌, ◌<◌, ◌≤◌, ◌+◌, ◌-◌, ℕ, zero, suc, Bool, true, false, List, [], ◌∷◌, length, sym, ap, refl, subst, arith, eqb-true}
use Rattle.std.specs.Prelude.{◌==◌, if◌then◌else◌, Some, filter, slice_get, ◌||◌}
use Rattle.std.specs.List.{range_with_len}
use Rattle.action_profile.specs.FieldSets.{has}
use Rattle.action_profile.specs.Profiles.{reads_of, writes_of}
use Rattle.action_profile.specs.declared.parts.Touch.{Touch}
use Rattle.action_profile.specs.declared.rights.Profile.{Profile}
use Rattle.graph_compile.specs.Lawful.{size}
use Rattle.graph_compile.specs.Owners.{owner, HasOwners}
use Rattle.graph_compile.specs.Parts.{profile_at}
use Rattle.graph_compile.specs.declared.graph.Branch.{Branch}
use Rattle.graph_compile.specs.declared.graph.Stage.{Stage}
use Rattle.packet_version.specs.Versions.{HoldsNamed}
use Rattle.graph_run.specs.Staging.{Holds}
use Rattle.graph_run.specs.Stages.{end_of}

weaker : (chain : List Profile) (touch : Touch) (low later high : ℕ) (qs : List ℕ) → low ≤ later → Holds chain touch later high qs → Holds chain touch low high qs
unfolding Holds
weaker chain touch low later high [] le h = omega (arith, h)
weaker chain touch low later high (q ∷ qs) le h = (h.0, (let l = h.1 in omega arith), h.2, h.3)

-- a chain has a profile at each of its positions
profile_there : (chain : List Profile) (q : ℕ) → 1 ≤ q → q ≤ length chain → (p : Profile) × (profile_at chain q ≡ Some p)
profile_there chain q pos le = at_index chain (q - 1) (omega arith)
  where
    at_index : (ps : List Profile) (n : ℕ) → n < length ps → (p : Profile) × (slice_get ps n ≡ Some p)
    at_index [] n less = absurd (omega arith)
    at_index (p ∷ ps) zero less = (p, refl)
    at_index (p ∷ ps) (suc n) less = at_index ps n (omega arith)

either_true : (a b x y : Bool) → (a ≡ true → x ≡ true) → (b ≡ true → y ≡ true) → (a || b) ≡ true → (x || y) ≡ true
either_true true b x y f g e = ap (λ (t : Bool). t || y) (f refl)
either_true false true true y f g e = refl
either_true false true false y f g e = g refl
either_true false false x y f g e = absurd cc

-- which of a branch's fields its functions touch
pub owned_named : (chain : List Profile) (first : ℕ) (stage : Stage) (j q : ℕ) (p : Profile) (touch : Touch) → HasOwners chain first stage → slice_get stage.parts.touches j ≡ Some touch → first ≤ q → q < end_of first stage →
    owner stage.branches q ≡ j → profile_at chain q ≡ Some p → HoldsNamed p touch
owned_named chain first stage j q p touch owners is low high owns at =
    let mine : slice_get stage.parts.touches (owner stage.branches q) ≡ Some touch = ap (slice_get stage.parts.touches) owns ∙ is in
    record {
      touched = λ f e. either_true (reads_of p f) (writes_of p f) (has touch.reads f) (has touch.writes f) (λ r. owners.reads q p touch f low high at mine r) (λ w. owners.writes q p touch f low high at mine w) e;
      written = λ f e. owners.writes q p touch f low high at mine e;
    }

-- the positions of a branch among this number of positions from one on
owned_from : (chain : List Profile) (first : ℕ) (stage : Stage) (j : ℕ) (touch : Touch) (low n : ℕ) → HasOwners chain first stage → slice_get stage.parts.touches j ≡ Some touch →
    1 ≤ first → end_of first stage ≤ suc (length chain) → first ≤ low → low + n ≡ end_of first stage →
    Holds chain touch low (end_of first stage) (filter (λ q. owner stage.branches q == j) (range_with_len low n))
unfolding Holds
owned_from chain first stage j touch low zero owners is pos within le ends = omega (arith, ends)
owned_from chain first stage j touch low (suc n) owners is pos within le ends =
    by_owner (owner stage.branches low == j) refl (owned_from chain first stage j touch (low + 1) n owners is pos within (omega arith) (omega arith))
  where
    rest : List ℕ
    rest = filter (λ q. owner stage.branches q == j) (range_with_len (low + 1) n)

    by_owner : (t : Bool) → (owner stage.branches low == j) ≡ t → Holds chain touch (low + 1) (end_of first stage) rest → Holds chain touch low (end_of first stage) (if owner stage.branches low == j then low ∷ rest else rest)
    by_owner true own h =
        let there = profile_there chain low (omega arith) (omega arith) in
        subst (λ (t : Bool). Holds chain touch low (end_of first stage) (if t then low ∷ rest else rest)) (sym own)
        (omega arith, omega arith, (there.0, there.1, owned_named chain first stage j low there.0 touch owners is le (omega arith) (eqb-true _ _ own) there.1), h)
    by_owner false own h = subst (λ (t : Bool). Holds chain touch low (end_of first stage) (if t then low ∷ rest else rest)) (sym own) (weaker chain touch low (low + 1) (end_of first stage) rest (omega arith) h)

-- a branch holds what its functions name
pub branch_holds : (chain : List Profile) (first : ℕ) (stage : Stage) (j : ℕ) (branch : Branch) (touch : Touch) → HasOwners chain first stage → slice_get stage.branches j ≡ Some branch → slice_get stage.parts.touches j ≡ Some touch →
    1 ≤ first → end_of first stage ≤ suc (length chain) → Holds chain touch first (end_of first stage) branch.positions
branch_holds chain first stage j branch touch owners has is pos within =
    subst (Holds chain touch first (end_of first stage)) (sym (owners.listed j branch has)) (owned_from chain first stage j touch first (size stage.branches) owners is pos within (omega arith) refl)
