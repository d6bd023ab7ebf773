-- The branches of a stage, one after another, and their merge.
use Rattle.std.proofs.Common.{length, ◌≡◌, ◌≢◌, ◌<◌, ◌≤◌, ◌+◌, ◌∙◌, ℕ, List, ◌∷◌, [], map, sym, refl, subst, arith, None, inl, inr, if◌then◌else◌}
use Rattle.std.specs.Prelude.{◌⊎◌}
use Rattle.packet_fields.specs.declared.field.Field.{Field}
use Rattle.action_profile.specs.Modes.{has_touch}
use Rattle.action_profile.specs.declared.parts.Touch.{Touch}
use Rattle.action_profile.specs.declared.rights.Profile.{Profile}
use Rattle.chain_walk.specs.FieldWalk.{Ended, walk_fields}
use Rattle.chain_walk.specs.Counting.{IsQuiet}
use Rattle.chain_walk.specs.Laws.{KeepsProfile}
use Rattle.chain_walk.specs.Shown.{Values}
use Rattle.chain_walk.specs.Step.{Behaviour}
use Rattle.chain_walk.specs.declared.fixed.Fixed.{Fixed}
use Rattle.graph_law.specs.Branches.{Ran, dealt}
use Rattle.graph_law.specs.Flow.{Branched}
use Rattle.graph_law.specs.Merging.{merged}
use Rattle.graph_law.proofs.Meets.{meets, last_of}
use Rattle.graph_law.proofs.Merging.{AllMeet, merged_fits}
use Rattle.graph_law.proofs.Near.{Near}
use Rattle.graph_law.proofs.Rights.{Apart, Touched, AllTouched}
use Rattle.graph_law.proofs.Sides.{ran, sides, is_or_not, Agree, agree_refl, agree_trans, agree_all, ran_others, length_sides}
use Rattle.graph_law.proofs.Walking.{walk_gone, length_walk, last_within, untouched}

-- each branch gets what its functions see
pub near_dealt : (side : ℕ → ℕ) (c p : ℕ) (fs : List Profile) (t : Touch) (values : Values) → 0 < p → Touched side c p fs t →
    Near side c p fs values (λ x. 0) (record { values = λ x. if has_touch x t then values x else None; writers = λ x. 0 })
near_dealt side c p fs t values pos touched = record {
  reads = λ x r. rw (touched.reads x r) refl;
  has = λ x r. rw (touched.writes x r) refl;
  same = record { below = λ x. omega arith; same = λ x e l. absurd (omega arith); mine = λ x l e. refl };
  past = λ x. pos;
}

-- the branches from branch `c` on, compared with the walk
record AllEnd {F : Type 0} (side : ℕ → ℕ) (c n p : ℕ) (gs : List F) (w : Ended F) (last : Field → ℕ) (r : Branched F) : Type 0 where
  arrivals : AllMeet side c w.end last r.arrivals
  count : length r.arrivals ≡ n
  done : (d : ℕ) → c ≤ d → d < c + n → Agree side d p w.functions r.functions
  before : (d : ℕ) → d < c → Agree side d p gs r.functions

all_end : {F : Type 0} (b : Behaviour F) (fixed : Fixed) (side : ℕ → ℕ) (c p : ℕ) (touches : List Touch) (fs gs : List F) (values : Values) →
    KeepsProfile b → IsQuiet b → Apart side p (map b.profile fs) → AllTouched side c p (map b.profile fs) touches → 0 < p → ((d : ℕ) → c ≤ d → Agree side d p fs gs) →
    AllEnd side c (length touches) p gs (walk_fields b fixed p fs values) (last_of b fixed p fs values (λ x. 0)) (sides b fixed side c p touches values gs)
unfolding sides AllMeet AllTouched
all_end b fixed side c p [] fs gs values law calm apart touched pos agree = record { arrivals = tt; count = refl; done = λ d l h. absurd (omega arith); before = λ d l. agree_refl side d p gs }
all_end {F} b fixed side c p (t ∷ touches) fs gs values law calm apart touched pos agree =
    let e = meets b fixed side c p fs gs values (λ x. 0) _ law calm apart (agree c (omega arith)) (near_dealt side c p (map b.profile fs) t values pos touched.0) in
    let r : Ran F = ran b fixed side c p gs (dealt t values) in
    let ih = all_end b fixed side (c + 1) p touches fs r.functions values law calm apart touched.1 pos (λ d l. agree_trans side d p fs gs _ (agree d (omega arith)) (ran_others b fixed side c d p gs (dealt t values) (λ x. omega arith))) in
    record {
      arrivals = (e.arrival, ih.arrivals);
      count = let n = ih.count in omega arith;
      done = λ d l h. here d l h (is_or_not d c) _ _ _ e.functions ih.before ih.done;
      before = λ d l. agree_trans side d p gs r.functions _ (ran_others b fixed side c d p gs (dealt t values) (λ x. omega arith)) (ih.before d (omega arith));
    }
  where
    here : (d : ℕ) → c ≤ d → d < c + length (t ∷ touches) → (d ≡ c) ⊎ (d ≢ c) → (w x y : List F) → Agree side c p w x → ((d : ℕ) → d < c + 1 → Agree side d p x y) → ((d : ℕ) → c + 1 ≤ d → d < c + 1 + length touches → Agree side d p w y) → Agree side d p w y
    here d l h (inl e) w x y now before done = subst (λ d. Agree side d p w y) (sym e) (agree_trans side c p w x y now (before c (omega arith)))
    here d l h (inr ne) w x y now before done = done d (omega arith) (omega arith)

-- the branches of a stage, merged, are the walk through its functions
pub sides_fit : {F : Type 0} (b : Behaviour F) (fixed : Fixed) (side : ℕ → ℕ) (p : ℕ) (touches : List Touch) (fs : List F) (values : Values) →
    KeepsProfile b → IsQuiet b → Apart side p (map b.profile fs) → AllTouched side 0 p (map b.profile fs) touches → 0 < p → ((q : ℕ) → p ≤ q → q < p + length fs → side q < length touches) →
    ◌≡◌ {A = Ended F} (record { functions = (sides b fixed side 0 p touches values fs).functions; end = merged values (sides b fixed side 0 p touches values fs).arrivals }) (walk_fields b fixed p fs values)
sides_fit {F} b fixed side p touches fs values law calm apart touched pos inside =
    let e = all_end b fixed side 0 p touches fs fs values law calm apart touched pos (λ d l. agree_refl side d p fs) in
    let count : length (sides b fixed side 0 p touches values fs).arrivals ≡ length touches = e.count in
    let size : length (walk_fields b fixed p fs values).functions ≡ length fs = length_walk b fixed p fs values in
    let same : (walk_fields b fixed p fs values).functions ≡ (sides b fixed side 0 p touches values fs).functions = agree_all side (length touches) p _ _ (λ q l u. inside q l (omega arith)) (λ d l. e.done d (omega arith) (omega arith)) (size ∙ sym (length_sides b fixed side 0 p touches values fs)) in
    let end : merged values (sides b fixed side 0 p touches values fs).arrivals ≡ (walk_fields b fixed p fs values).end =
    merged_fits side values _ _ _ (λ q is. let g = walk_gone b fixed p fs values q is in let l = inside q g.0 g.1 in omega arith)
    (λ x l. let g = last_within b fixed p p fs values (λ y. 0) x (omega arith) (λ z. absurd (omega arith)) l in let k = inside _ g.0 g.1 in omega arith)
    e.arrivals (λ after is. untouched b fixed p fs values values after (λ x. 0) pos (λ x z. refl) is) in
    λ i. record { functions = sym same i; end = end i }
