-- A packet that goes out has the fields that it came in with.
use Rattle.std.proofs.Common.{◌≡◌, ◌<◌, ◌-◌, ◌∙◌, ℕ, List, ◌∷◌, [], sym, ap, refl, arith, Bool, true, false, Some, None, ltb-true}
use Rattle.std.specs.Prelude.{Option, ◌&&◌, is_some, if◌then◌else◌, slice_get, nat_lt}
use Rattle.std.specs.Option.{option_or}
use Rattle.packet_fields.specs.declared.field.Field.{Field}
use Rattle.action_profile.specs.Modes.{has_touch}
use Rattle.action_profile.specs.Profiles.{writes_of}
use Rattle.action_profile.specs.declared.parts.Touch.{Touch}
use Rattle.chain_walk.specs.FieldWalk.{End, End.Out, End.Gone}
use Rattle.chain_walk.specs.Laws.{KeepsProfile}
use Rattle.chain_walk.specs.Shown.{Values}
use Rattle.chain_walk.specs.Step.{Behaviour, Step, stepped, is_drop}
use Rattle.chain_walk.specs.declared.fixed.Fixed.{Fixed}
use Rattle.graph_compile.specs.declared.graph.Branch.{Branch}
use Rattle.graph_compile.specs.declared.graph.Stage.{Stage}
use Rattle.graph_law.specs.Branches.{Version, BranchEnd, BranchEnd.Live, BranchEnd.Nil, Ran, dealt, met, in_turn, moved_end, writer_by, written_at}
use Rattle.graph_law.specs.Flow.{branched, staged, then_flow, flow}
use Rattle.graph_law.specs.Merging.{later, latest, unwritten, gone_or, merged}

-- A branch's version of a packet has a field only if the packet has it or a function wrote it.
record Has (x : Field) (old : Option (List ℕ)) (v : Version) : Type 0 where
  only : is_some (v.values x) ≡ true → is_some old ≡ true
  wrote : 0 < v.writers x → is_some (v.values x) ≡ true

abbrev BranchEndHas : Field → Option (List ℕ) → BranchEnd → Type 0
BranchEndHas x old (Live v) = Has x old v
BranchEndHas x old (Nil p) = Unit {0}

dealt_only : (touches : Bool) (old : Option (List ℕ)) → is_some (if touches then old else None) ≡ true → is_some old ≡ true
dealt_only true old h = h
dealt_only false old h = absurd cc

dealt_has : (x : Field) (t : Touch) (values : Values) → BranchEndHas x (values x) (dealt t values)
dealt_has x t values = record { only = dealt_only (has_touch x t) (values x); wrote = λ l. absurd (omega arith) }

-- a field that is written is present
may_write : (writes : Bool) (new was : Option (List ℕ)) → ((writes && is_some was) ≡ false → new ≡ None) → is_some new ≡ true → is_some was ≡ true
may_write writes new (Some y) h e = refl
may_write true new None h e = absurd (let none = h refl in let e' = ap is_some none in cc)
may_write false new None h e = absurd (let none = h refl in let e' = ap is_some none in cc)

over_only : (new was old : Option (List ℕ)) → (is_some new ≡ true → is_some was ≡ true) → (is_some was ≡ true → is_some old ≡ true) → is_some (option_or new was) ≡ true → is_some old ≡ true
over_only (Some y) was old h only e = only (h refl)
over_only None was old h only e = only e

over_wrote : (new was : Option (List ℕ)) (p n : ℕ) → (0 < n → is_some was ≡ true) → 0 < writer_by new p n → is_some (option_or new was) ≡ true
over_wrote (Some y) was p n h l = refl
over_wrote None was p n h l = h l

moved_has : {F : Type 0} (b : Behaviour F) (fixed : Fixed) (p : ℕ) (f : F) (a : BranchEnd) (x : Field) (old : Option (List ℕ)) → KeepsProfile b → BranchEndHas x old a → BranchEndHas x old (moved_end b fixed p f a)
unfolding moved_end
moved_has b fixed p f (Nil q) x old law h = tt
moved_has {F} b fixed p f (Live v) x old law h = go (is_drop t.verdict)
  where
    t : Step F
    t = stepped b fixed f v.values

    go : (d : Bool) → BranchEndHas x old (if d then Nil p else Live (written_at p t.written v))
    go true = tt
    go false = record {
      only = over_only (t.written x) (v.values x) old (may_write (writes_of (b.profile f) x) (t.written x) (v.values x) (law.writes fixed f v.values x)) h.only;
      wrote = over_wrote (t.written x) (v.values x) p (v.writers x) h.wrote;
    }

met_has : {F : Type 0} (b : Behaviour F) (fixed : Fixed) (q : ℕ) (o : Option F) (fs : List F) (a : BranchEnd) (x : Field) (old : Option (List ℕ)) → KeepsProfile b → BranchEndHas x old a → BranchEndHas x old (met b fixed q o fs a).arrival
unfolding met
met_has b fixed q None fs a x old law h = h
met_has b fixed q (Some f) fs a x old law h = moved_has b fixed q f a x old law h

in_turn_has : {F : Type 0} (b : Behaviour F) (fixed : Fixed) (positions : List ℕ) (fs : List F) (a : BranchEnd) (x : Field) (old : Option (List ℕ)) → KeepsProfile b → BranchEndHas x old a → BranchEndHas x old (in_turn b fixed positions fs a).arrival
unfolding in_turn
in_turn_has b fixed [] fs a x old law h = h
in_turn_has {F} b fixed (q ∷ positions) fs a x old law h =
    let m : Ran F = met b fixed q (slice_get fs (q - 1)) fs a in
    in_turn_has b fixed positions m.functions m.arrival x old law (met_has b fixed q (slice_get fs (q - 1)) fs a x old law h)

unfoldable AllHave : Field → Option (List ℕ) → List BranchEnd → Type 0
AllHave x old [] = Unit {0}
AllHave x old (a ∷ rest) = BranchEndHas x old a × AllHave x old rest

branched_has : {F : Type 0} (b : Behaviour F) (fixed : Fixed) (branches : List Branch) (touches : List Touch) (fs : List F) (values : Values) (x : Field) → KeepsProfile b → AllHave x (values x) (branched b fixed branches touches values fs).arrivals
unfolding branched AllHave
branched_has b fixed [] touches fs values x law = tt
branched_has b fixed (y ∷ branches) [] fs values x law = tt
branched_has b fixed (y ∷ branches) (t ∷ touches) fs values x law = (
  in_turn_has b fixed y.positions fs (dealt t values) x (values x) law (dealt_has x t values),
  branched_has b fixed branches touches (in_turn b fixed y.positions fs (dealt t values)).functions values x law,
)

later_has : (x : Field) (old : Option (List ℕ)) (best v : Version) → is_some (best.values x) ≡ is_some old → Has x old v → is_some ((later best v).values x) ≡ is_some old
later_has x old best v same h = go (nat_lt (best.writers x) (v.writers x)) refl
  where
    go : (d : Bool) → nat_lt (best.writers x) (v.writers x) ≡ d → is_some (if d then v.values x else best.values x) ≡ is_some old
    go true is = let l : best.writers x < v.writers x = ltb-true _ _ is in let there = h.wrote (omega arith) in there ∙ sym (h.only there)
    go false is = same

latest_has : (x : Field) (old : Option (List ℕ)) (best : Version) (rest : List BranchEnd) → is_some (best.values x) ≡ is_some old → AllHave x old rest → is_some ((latest best rest).values x) ≡ is_some old
unfolding latest AllHave
latest_has x old best [] same h = same
latest_has x old best (Live v ∷ rest) same h = latest_has x old (later best v) rest (later_has x old best v same h.0) h.1
latest_has x old best (Nil p ∷ rest) same h = latest_has x old best rest same h.1

out_values : (o : Option ℕ) (values after : Values) → gone_or o values ≡ Out after → values ≡ after
unfolding gone_or
out_values (Some q) values after e = absurd cc
out_values None values after e = cc

pub stage_there : {F : Type 0} (b : Behaviour F) (fixed : Fixed) (stage : Stage) (fs : List F) (values after : Values) (x : Field) → KeepsProfile b → (staged b fixed stage values fs).end ≡ Out after → is_some (after x) ≡ is_some (values x)
unfolding merged
stage_there b fixed stage fs values after x law e =
    ap (λ v. is_some (v x)) (sym (out_values _ _ after e)) ∙ latest_has x (values x) (unwritten values) (branched b fixed stage.branches stage.parts.touches values fs).arrivals refl (branched_has b fixed stage.branches stage.parts.touches fs values x law)

pub flow_there : {F : Type 0} (b : Behaviour F) (fixed : Fixed) (stages : List Stage) (fs : List F) (values after : Values) (x : Field) → KeepsProfile b → (flow b fixed stages values fs).end ≡ Out after → is_some (after x) ≡ is_some (values x)
unfolding flow then_flow
flow_there b fixed [] fs values after x law e = let same : values ≡ after = cc in ap (λ v. is_some (v x)) (sym same)
flow_there {F} b fixed (s ∷ stages) fs values after x law e = go (staged b fixed s values fs).end refl e (λ between e. flow_there b fixed stages (staged b fixed s values fs).functions between after x law e)
  where
    done : List F
    done = (staged b fixed s values fs).functions

    go : (end : End) → (staged b fixed s values fs).end ≡ end → (then_flow done end (flow b fixed stages)).end ≡ Out after → ((between : Values) → (flow b fixed stages between done).end ≡ Out after → is_some (after x) ≡ is_some (between x)) → is_some (after x) ≡ is_some (values x)
    go (Gone q) is e ih = absurd cc
    go (Out between) is e ih = ih between e ∙ stage_there b fixed s fs values between x law is
