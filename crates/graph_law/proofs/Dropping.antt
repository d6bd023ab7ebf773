-- A packet that is gone after a stage was dropped at a position of the stage.
use Rattle.std.proofs.Common.{◌≡◌, ◌-◌, ◌∙◌, ℕ, List, ◌∷◌, [], ap, refl, arith, Bool, true, false, Some, None, inl, inr, min, eq-eqb}
use Rattle.std.specs.Prelude.{Option, ◌⊎◌, ◌==◌, if◌then◌else◌, slice_get, IsTrue}
use Rattle.std.specs.List.{list_any}
use Rattle.std.proofs.lemmas.Bool.{or_right}
use Rattle.action_profile.specs.declared.parts.Touch.{Touch}
use Rattle.chain_walk.specs.FieldWalk.{End, End.Out, End.Gone}
use Rattle.chain_walk.specs.Shown.{Values}
use Rattle.chain_walk.specs.Step.{Behaviour, stepped, is_drop}
use Rattle.chain_walk.specs.declared.fixed.Fixed.{Fixed}
use Rattle.graph_compile.specs.Positions.{holds, stands}
use Rattle.graph_compile.specs.declared.graph.Branch.{Branch}
use Rattle.graph_compile.specs.declared.graph.Stage.{Stage}
use Rattle.graph_law.specs.Branches.{Version, BranchEnd, BranchEnd.Live, BranchEnd.Nil, Ran, dealt, met, in_turn, moved_end, written_at}
use Rattle.graph_law.specs.Flow.{Branched, branched, staged, then_flow, flow}
use Rattle.graph_law.specs.Merging.{least_nil, lesser, gone_or, merged}

nil_same : {p q : ℕ} → Nil p ≡ Nil q → p ≡ q
nil_same e = cc

-- a drop that a function passes on arrived at it, or is its own
moved_nil : {F : Type 0} (b : Behaviour F) (fixed : Fixed) (q : ℕ) (f : F) (a : BranchEnd) (p : ℕ) → moved_end b fixed q f a ≡ Nil p → (a ≡ Nil p) ⊎ (q ≡ p)
unfolding moved_end
moved_nil b fixed q f (Nil r) p e = inl e
moved_nil b fixed q f (Live v) p e = inr (go (is_drop (stepped b fixed f v.values).verdict) e)
  where
    go : (d : Bool) → (if d then Nil q else Live (written_at q (stepped b fixed f v.values).written v)) ≡ Nil p → q ≡ p
    go true e = nil_same e
    go false e = absurd cc

met_nil : {F : Type 0} (b : Behaviour F) (fixed : Fixed) (q : ℕ) (o : Option F) (fs : List F) (a : BranchEnd) (p : ℕ) → (met b fixed q o fs a).arrival ≡ Nil p → (a ≡ Nil p) ⊎ (q ≡ p)
unfolding met
met_nil b fixed q None fs a p e = inl e
met_nil b fixed q (Some f) fs a p e = moved_nil b fixed q f a p e

in_turn_nil : {F : Type 0} (b : Behaviour F) (fixed : Fixed) (positions : List ℕ) (fs : List F) (a : BranchEnd) (p : ℕ) → (in_turn b fixed positions fs a).arrival ≡ Nil p → (a ≡ Nil p) ⊎ IsTrue (list_any (λ q. q == p) positions)
unfolding in_turn
in_turn_nil b fixed [] fs a p e = inl e
in_turn_nil {F} b fixed (q ∷ positions) fs a p e = elim (in_turn_nil b fixed positions m.functions m.arrival p e) [
  | inl h ↦ elim (met_nil b fixed q (slice_get fs (q - 1)) fs a p h) [ inl came ↦ inl came | inr here ↦ inr (rw (eq-eqb q p here) refl) ]
  | inr h ↦ inr (or_right (q == p) (list_any (λ r. r == p) positions) h)
]
  where
    m : Ran F
    m = met b fixed q (slice_get fs (q - 1)) fs a

dealt_holds : {F : Type 0} (b : Behaviour F) (fixed : Fixed) (x : Branch) (v : Version) (fs : List F) (p : ℕ) → (in_turn b fixed x.positions fs (Live v)).arrival ≡ Nil p → IsTrue (holds p x)
dealt_holds b fixed x v fs p e = elim (in_turn_nil b fixed x.positions fs (Live v) p e) [ inl h ↦ absurd cc | inr h ↦ h ]

lesser_is : (q : ℕ) (o : Option ℕ) (p : ℕ) → lesser q o ≡ Some p → (q ≡ p) ⊎ (o ≡ Some p)
lesser_is q None p e = let same : q ≡ p = cc in inl same
lesser_is q (Some r) p e = let same : min q r ≡ p = cc in elim (either (min q r) refl) [ inl h ↦ inl (h ∙ same) | inr h ↦ inr (ap Some (h ∙ same)) ]
  where
    either : (n : ℕ) → min q r ≡ n → (q ≡ n) ⊎ (r ≡ n)
    either n e = grind arith

branched_least : {F : Type 0} (b : Behaviour F) (fixed : Fixed) (branches : List Branch) (touches : List Touch) (fs : List F) (values : Values) (p : ℕ) → least_nil (branched b fixed branches touches values fs).arrivals ≡ Some p → IsTrue (list_any (holds p) branches)
unfolding branched least_nil
branched_least b fixed [] touches fs values p e = absurd cc
branched_least b fixed (x ∷ branches) [] fs values p e = absurd cc
branched_least {F} b fixed (x ∷ branches) (t ∷ touches) fs values p e = go r.arrival refl e (λ e. or_right (holds p x) (list_any (holds p) branches) (branched_least b fixed branches touches r.functions values p e))
  where
    r : Ran F
    r = in_turn b fixed x.positions fs (dealt t values)

    rest : Branched F
    rest = branched b fixed branches touches values r.functions

    go : (a : BranchEnd) → r.arrival ≡ a → least_nil (a ∷ rest.arrivals) ≡ Some p → (least_nil rest.arrivals ≡ Some p → IsTrue (list_any (holds p) (x ∷ branches))) → IsTrue (list_any (holds p) (x ∷ branches))
    go (Live v) is e later = later e
    go (Nil q) is e later = elim (lesser_is q (least_nil rest.arrivals) p e) [
      | inl same ↦ rw (dealt_holds b fixed x _ fs p (is ∙ ap Nil same)) refl
      | inr h ↦ later h
    ]

gone_least : (o : Option ℕ) (values : Values) (p : ℕ) → gone_or o values ≡ Gone p → o ≡ Some p
unfolding gone_or
gone_least (Some q) values p e = let same : q ≡ p = cc in ap Some same
gone_least None values p e = absurd cc

pub stage_gone : {F : Type 0} (b : Behaviour F) (fixed : Fixed) (stage : Stage) (fs : List F) (values : Values) (p : ℕ) → (staged b fixed stage values fs).end ≡ Gone p → IsTrue (stands p stage)
unfolding merged
stage_gone b fixed stage fs values p e = branched_least b fixed stage.branches stage.parts.touches fs values p (gone_least _ _ p e)

pub flow_gone : {F : Type 0} (b : Behaviour F) (fixed : Fixed) (stages : List Stage) (fs : List F) (values : Values) (p : ℕ) → (flow b fixed stages values fs).end ≡ Gone p → IsTrue (list_any (stands p) stages)
unfolding flow then_flow
flow_gone b fixed [] fs values p e = absurd cc
flow_gone {F} b fixed (s ∷ stages) fs values p e = go (staged b fixed s values fs).end refl e (λ after e. flow_gone b fixed stages (staged b fixed s values fs).functions after p e)
  where
    done : List F
    done = (staged b fixed s values fs).functions

    go : (end : End) → (staged b fixed s values fs).end ≡ end → (then_flow done end (flow b fixed stages)).end ≡ Gone p → ((after : Values) → (flow b fixed stages after done).end ≡ Gone p → IsTrue (list_any (stands p) stages)) → IsTrue (list_any (stands p) (s ∷ stages))
    go (Gone q) is e ih = rw (stage_gone b fixed s fs values p (is ∙ e)) refl
    go (Out after) is e ih = or_right (stands p s) (list_any (stands p) stages) (ih after e)
