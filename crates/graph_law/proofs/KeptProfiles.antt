-- Functions keep their profiles and their number, whatever runs.
use Rattle.std.proofs.Common.{◌≡◌, ◌-◌, ◌∙◌, ℕ, zero, suc, List, ◌∷◌, [], length, map, set, ap, refl, Some, None, length-set}
use Rattle.std.specs.Prelude.{Option, slice_get}
use Rattle.action_profile.specs.declared.parts.Touch.{Touch}
use Rattle.chain_walk.specs.FieldWalk.{End, End.Out, End.Gone}
use Rattle.chain_walk.specs.Laws.{KeepsProfile}
use Rattle.chain_walk.specs.Shown.{Values}
use Rattle.chain_walk.specs.Step.{Behaviour}
use Rattle.chain_walk.specs.declared.fixed.Fixed.{Fixed}
use Rattle.graph_compile.specs.declared.graph.Branch.{Branch}
use Rattle.graph_compile.specs.declared.graph.Stage.{Stage}
use Rattle.graph_law.specs.Branches.{BranchEnd, BranchEnd.Live, BranchEnd.Nil, Ran, dealt, met, in_turn, moved_function}
use Rattle.graph_law.specs.Flow.{branched, staged, then_flow, flow}

moved_keeps : {F : Type 0} (b : Behaviour F) (fixed : Fixed) (f : F) (a : BranchEnd) → KeepsProfile b → b.profile (moved_function b fixed f a) ≡ b.profile f
unfolding moved_function
moved_keeps b fixed f (Live v) law = law.stays fixed f v.values
moved_keeps b fixed f (Nil q) law = refl

set_keeps : {F A : Type 0} (profile : F → A) (fs : List F) (n : ℕ) (f y : F) → slice_get fs n ≡ Some f → profile y ≡ profile f → map profile (set fs n y) ≡ map profile fs
set_keeps profile [] n f y e same = absurd cc
set_keeps profile (x ∷ fs) zero f y e same = let is : f ≡ x = cc in ap (λ q. q ∷ map profile fs) (same ∙ ap profile is)
set_keeps profile (x ∷ fs) (suc n) f y e same = ap (λ rest. profile x ∷ rest) (set_keeps profile fs n f y e same)

met_keeps : {F : Type 0} (b : Behaviour F) (fixed : Fixed) (q : ℕ) (o : Option F) (fs : List F) (a : BranchEnd) → KeepsProfile b → slice_get fs (q - 1) ≡ o → map b.profile (met b fixed q o fs a).functions ≡ map b.profile fs
unfolding met
met_keeps b fixed q None fs a law e = refl
met_keeps b fixed q (Some f) fs a law e = set_keeps b.profile fs (q - 1) f (moved_function b fixed f a) e (moved_keeps b fixed f a law)

length_met : {F : Type 0} (b : Behaviour F) (fixed : Fixed) (q : ℕ) (o : Option F) (fs : List F) (a : BranchEnd) → length (met b fixed q o fs a).functions ≡ length fs
unfolding met
length_met b fixed q None fs a = refl
length_met b fixed q (Some f) fs a = length-set fs (q - 1) (moved_function b fixed f a)

pub in_turn_keeps : {F : Type 0} (b : Behaviour F) (fixed : Fixed) (positions : List ℕ) (fs : List F) (a : BranchEnd) → KeepsProfile b → map b.profile (in_turn b fixed positions fs a).functions ≡ map b.profile fs
unfolding in_turn
in_turn_keeps b fixed [] fs a law = refl
in_turn_keeps {F} b fixed (q ∷ positions) fs a law =
    let m : Ran F = met b fixed q (slice_get fs (q - 1)) fs a in
    in_turn_keeps b fixed positions m.functions m.arrival law ∙ met_keeps b fixed q (slice_get fs (q - 1)) fs a law refl

pub length_in_turn : {F : Type 0} (b : Behaviour F) (fixed : Fixed) (positions : List ℕ) (fs : List F) (a : BranchEnd) → length (in_turn b fixed positions fs a).functions ≡ length fs
unfolding in_turn
length_in_turn b fixed [] fs a = refl
length_in_turn {F} b fixed (q ∷ positions) fs a =
    let m : Ran F = met b fixed q (slice_get fs (q - 1)) fs a in
    length_in_turn b fixed positions m.functions m.arrival ∙ length_met b fixed q (slice_get fs (q - 1)) fs a

pub branched_keeps : {F : Type 0} (b : Behaviour F) (fixed : Fixed) (branches : List Branch) (touches : List Touch) (fs : List F) (values : Values) → KeepsProfile b → map b.profile (branched b fixed branches touches values fs).functions ≡ map b.profile fs
unfolding branched
branched_keeps b fixed [] touches fs values law = refl
branched_keeps b fixed (x ∷ branches) [] fs values law = refl
branched_keeps b fixed (x ∷ branches) (t ∷ touches) fs values law = branched_keeps b fixed branches touches (in_turn b fixed x.positions fs (dealt t values)).functions values law ∙ in_turn_keeps b fixed x.positions fs (dealt t values) law

pub length_branched : {F : Type 0} (b : Behaviour F) (fixed : Fixed) (branches : List Branch) (touches : List Touch) (fs : List F) (values : Values) → length (branched b fixed branches touches values fs).functions ≡ length fs
unfolding branched
length_branched b fixed [] touches fs values = refl
length_branched b fixed (x ∷ branches) [] fs values = refl
length_branched b fixed (x ∷ branches) (t ∷ touches) fs values = length_branched b fixed branches touches (in_turn b fixed x.positions fs (dealt t values)).functions values ∙ length_in_turn b fixed x.positions fs (dealt t values)

pub flow_keeps : {F : Type 0} (b : Behaviour F) (fixed : Fixed) (stages : List Stage) (fs : List F) (values : Values) → KeepsProfile b → map b.profile (flow b fixed stages values fs).functions ≡ map b.profile fs
unfolding flow then_flow
flow_keeps b fixed [] fs values law = refl
flow_keeps {F} b fixed (s ∷ stages) fs values law = go (staged b fixed s values fs).end (λ after. flow_keeps b fixed stages (staged b fixed s values fs).functions after law) ∙ branched_keeps b fixed s.branches s.parts.touches fs values law
  where
    done : List F
    done = (staged b fixed s values fs).functions

    go : (end : End) → ((after : Values) → map b.profile (flow b fixed stages after done).functions ≡ map b.profile done) → map b.profile (then_flow done end (flow b fixed stages)).functions ≡ map b.profile done
    go (Gone p) ih = refl
    go (Out after) ih = ih after

pub length_flow : {F : Type 0} (b : Behaviour F) (fixed : Fixed) (stages : List Stage) (fs : List F) (values : Values) → length (flow b fixed stages values fs).functions ≡ length fs
unfolding flow then_flow
length_flow b fixed [] fs values = refl
length_flow {F} b fixed (s ∷ stages) fs values = go (staged b fixed s values fs).end (λ after. length_flow b fixed stages (staged b fixed s values fs).functions after) ∙ length_branched b fixed s.branches s.parts.touches fs values
  where
    done : List F
    done = (staged b fixed s values fs).functions

    go : (end : End) → ((after : Values) → length (flow b fixed stages after done).functions ≡ length done) → length (then_flow done end (flow b fixed stages)).functions ≡ length done
    go (Gone p) ih = refl
    go (Out after) ih = ih after
