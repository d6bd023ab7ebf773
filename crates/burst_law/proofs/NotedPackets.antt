-- One packet through all stages leaves each branch with those of the walk's functions that it owns, with notes settled.
use Rattle.std.proofs.Common.{◌≡◌, ◌≢◌, ◌<◌, ◌≤◌, ◌-◌, ◌∙◌, ℕ, zero, suc, List, ◌∷◌, [], length, map, set, sym, ap, refl, subst, arith, Bool, true, false, Some, None, if◌then◌else◌, length-set}
use Rattle.std.specs.Prelude.{Option, slice_get, zip}
use Rattle.std.specs.List.{cons_option}
use Rattle.action_profile.specs.declared.parts.Touch.{Touch}
use Rattle.chain_walk.specs.FieldWalk.{End, End.Out, End.Gone, Ended}
use Rattle.chain_walk.specs.Notes.{Notes, settled}
use Rattle.chain_walk.specs.Shown.{Values}
use Rattle.chain_walk.specs.Step.{Behaviour}
use Rattle.chain_walk.specs.declared.fixed.Fixed.{Fixed}
use Rattle.graph_compile.specs.Facts.{positions_of, all_positions, times}
use Rattle.graph_compile.specs.declared.graph.Branch.{Branch}
use Rattle.graph_compile.specs.declared.graph.Stage.{Stage}
use Rattle.graph_compile.proofs.Times.{times-append}
use Rattle.graph_law.specs.Branches.{BranchEnd, Ran, met, in_turn, dealt, moved_function, moved_end}
use Rattle.graph_law.specs.BranchNotes.{noted_of, noted_at, in_turn_notes, branched_notes, no_notes, then_notes, flow_notes, gone_before, kept, kept_in, kept_by, taken, taken_in, taken_by}
use Rattle.graph_law.specs.Flow.{Branched, branched, staged, then_flow, flow}
use Rattle.graph_law.specs.NotedWalk.{settled_all}
use Rattle.burst_law.specs.Owned.{owned, owned_in, owned_by, turned}
use Rattle.burst_law.specs.Bursts.{Message.Here, Message.Lost, ended}
use Rattle.burst_law.specs.Noting.{turned_notes, lost_before}
use Rattle.burst_law.proofs.Below.{Below}
use Rattle.burst_law.proofs.NotedBranches.{stage_once, graph_once}
use Rattle.burst_law.proofs.Positions.{got, AreOnce, times_here, times_later, once_rest, once_front, once_back, once_apart, stage_front, stage_back, owned_same, owned_in_same}
use Rattle.burst_law.proofs.Splitting.{set_others, in_turn_others, parted, turned_is}
use Rattle.burst_law.proofs.Staging.{branched_others, turn_is_staged, left_by_stage, left_behind}

-- a branch that owns its functions notes what it notes among all functions of the chain
turned_notes_are : {F N : Type 0} (b : Behaviour F) (notes : Notes F N) (fixed : Fixed) (qs : List ℕ) (fs : List F) (a : BranchEnd) → AreOnce (length fs) qs →
    turned_notes b notes fixed qs (owned qs fs) a ≡ in_turn_notes b notes fixed qs fs a
unfolding turned_notes in_turn_notes met noted_at
turned_notes_are b notes fixed [] fs a h = refl
turned_notes_are {F} b notes fixed (q ∷ qs) fs a h =
    ap (λ o. turned_notes b notes fixed (q ∷ qs) (cons_option o (owned qs fs)) a) is
    ∙ ap (λ l. noted_of b notes fixed f a ∷ turned_notes b notes fixed qs l z) (sym kept_others)
    ∙ ap (λ l. noted_of b notes fixed f a ∷ l) (turned_notes_are b notes fixed qs next z (subst (λ n. AreOnce n qs) (sym (length-set fs (q - 1) y)) (once_rest (length fs) q qs h)))
    ∙ ap (λ o. noted_at b notes fixed o a ∷ in_turn_notes b notes fixed qs (met b fixed q o fs a).functions (met b fixed q o fs a).arrival) (sym is)
  where
    some : 1 ≤ times q (q ∷ qs)
    some = let t = times_here q qs in omega arith

    low : 1 ≤ q
    low = (h.within q some).0

    f : F
    f = (got fs (q - 1) (let w = h.within q some in let l = w.0 in let u = w.1 in omega arith)).0

    is : slice_get fs (q - 1) ≡ Some f
    is = (got fs (q - 1) (let w = h.within q some in let l = w.0 in let u = w.1 in omega arith)).1

    y : F
    y = moved_function b fixed f a

    z : BranchEnd
    z = moved_end b fixed q f a

    next : List F
    next = set fs (q - 1) y

    none : times q qs ≡ 0
    none = let o = h.once q in let t = times_here q qs in omega arith

    other : (r : ℕ) → 1 ≤ times r qs → q ≢ r
    other r some e = let same : times q qs ≡ times r qs = ap (λ p. times p qs) e in let n = none in omega arith

    kept_others : owned qs next ≡ owned qs fs
    kept_others = owned_same qs fs next (record { same = λ r some. set_others fs (q - 1) (r - 1) y (λ e. other r some (let w = h.within r (let l = times_later r q qs in omega arith) in let u = w.0 in let l = low in omega arith)) })

-- the functions of each branch, with these notes settled
unfoldable pub settled_in : {F N : Type 0} → Notes F N → List (List F) → List (List (Option N)) → List (List F)
settled_in notes [] rows = []
settled_in notes (fs ∷ own) [] = fs ∷ own
settled_in notes (fs ∷ own) (row ∷ rows) = settled_all notes fs row ∷ settled_in notes own rows

unfoldable pub settled_by : {F N : Type 0} → Notes F N → List (List (List F)) → List (List (List (Option N))) → List (List (List F))
settled_by notes [] rows = []
settled_by notes (o ∷ own) [] = o ∷ own
settled_by notes (o ∷ own) (row ∷ rows) = settled_in notes o row ∷ settled_by notes own rows

-- the branches of a stage, each with the functions that it owns
stage_is : {F N : Type 0} (b : Behaviour F) (notes : Notes F N) (gone : ℕ → Bool) (fixed : Fixed) (branches : List Branch) (touches : List Touch) (values : Values) (fs : List F) → Below F → AreOnce (length fs) (positions_of branches) →
    stage_once b notes gone (zip branches touches) (owned_in branches fs) (Here fixed values)
    ≡ settled_in notes (owned_in branches (branched b fixed branches touches values fs).functions) (kept_in gone branches (branched_notes b notes fixed branches touches values fs))
unfolding stage_once branched branched_notes kept_in settled_in
stage_is b notes gone fixed [] [] values fs below h = refl
stage_is b notes gone fixed [] (t ∷ touches) values fs below h = refl
stage_is b notes gone fixed (x ∷ branches) [] values fs below h = refl
stage_is {F} {N} b notes gone fixed (x ∷ branches) (t ∷ touches) values fs below h =
    (λ i. settled_all notes (one i).state (kept gone x.positions (turned_notes_are b notes fixed x.positions fs (dealt t values) (once_front (length fs) x.positions later h) i))
    ∷ stage_once b notes gone (zip branches touches) (sym left i) (Here fixed values))
    ∙ (λ i. settled_all notes (sym first i) (kept gone x.positions made)
    ∷ stage_is b notes gone fixed branches touches values r.functions below (subst (λ n. AreOnce n later) (sym (below.branch_length b fixed x.positions fs (dealt t values))) (once_back (length fs) x.positions later h)) i)
  where
    r : Ran F
    r = in_turn b fixed x.positions fs (dealt t values)

    made : List (Option N)
    made = in_turn_notes b notes fixed x.positions fs (dealt t values)

    rest : Branched F
    rest = branched b fixed branches touches values r.functions

    later : List ℕ
    later = positions_of branches

    one : turned b fixed x.positions (owned x.positions fs) (dealt t values) ≡ parted x.positions r
    one = turned_is b fixed x.positions fs (dealt t values) (once_front (length fs) x.positions later h)

    left : owned_in branches r.functions ≡ owned_in branches fs
    left = owned_in_same branches fs r.functions (record {
      same = λ q some. in_turn_others b fixed x.positions fs (dealt t values) q (λ p there. ((once_front (length fs) x.positions later h).within p there).0) ((once_back (length fs) x.positions later h).within q some).0
          (let o = h.once q in let s = times-append q x.positions later in omega arith);
    })

    first : owned x.positions rest.functions ≡ owned x.positions r.functions
    first = owned_same x.positions r.functions rest.functions (record {
      same = λ q some. branched_others b fixed branches touches values r.functions q (λ p there. ((once_back (length fs) x.positions later h).within p there).0) ((once_front (length fs) x.positions later h).within q some).0
          (once_apart (length fs) x.positions later h q some);
    })

-- if nothing was noted nothing is settled
settled_nothing : {F N A : Type 0} (notes : Notes F N) (xs : List F) (gs : List A) → settled_all notes xs (map (λ g. None) gs) ≡ xs
unfolding settled_all
settled_nothing notes [] gs = refl
settled_nothing notes (x ∷ xs) [] = refl
settled_nothing notes (x ∷ xs) (g ∷ gs) = ap (λ l. x ∷ l) (settled_nothing notes xs gs)

none_chosen : {N : Type 0} (c : Bool) → ◌≡◌ {A = Option N} (if c then None else None) None
none_chosen true = refl
none_chosen false = refl

kept_nothing : {N : Type 0} (gone : ℕ → Bool) (qs : List ℕ) → ◌≡◌ {A = List (Option N)} (kept gone qs (map (λ q. None) qs)) (map (λ q. None) qs)
unfolding kept
kept_nothing gone [] = refl
kept_nothing gone (q ∷ qs) = λ i. none_chosen (gone q) i ∷ kept_nothing gone qs i

row_nothing : {F N : Type 0} (notes : Notes F N) (gone : ℕ → Bool) (fs : List F) (qs : List ℕ) → settled_all notes fs (kept gone qs (map (λ q. None) qs)) ≡ fs
row_nothing notes gone fs qs = ap (settled_all notes fs) (kept_nothing gone qs) ∙ settled_nothing notes fs qs

-- a dropped packet changes no function, and no function notes it
stage_gone : {F N : Type 0} (b : Behaviour F) (notes : Notes F N) (gone : ℕ → Bool) (posts : List (Branch × Touch)) (own : List (List F)) (p : ℕ) → stage_once b notes gone posts own (Lost p) ≡ own
unfolding stage_once
stage_gone b notes gone [] own p = refl
stage_gone b notes gone (x ∷ posts) [] p = refl
stage_gone b notes gone (x ∷ posts) (fs ∷ own) p = λ i. row_nothing notes gone fs x.0.positions i ∷ stage_gone b notes gone posts own p i

pub graph_gone : {F N : Type 0} (b : Behaviour F) (notes : Notes F N) (gone : ℕ → Bool) (stages : List Stage) (own : List (List (List F))) (p : ℕ) → graph_once b notes gone stages own (Lost p) ≡ own
unfolding graph_once
graph_gone b notes gone [] own p = refl
graph_gone b notes gone (s ∷ stages) [] p = refl
graph_gone b notes gone (s ∷ stages) (o ∷ own) p = λ i. stage_gone b notes gone (zip s.branches s.parts.touches) o p i ∷ graph_gone b notes gone stages own p i

in_nothing : {F N : Type 0} (notes : Notes F N) (gone : ℕ → Bool) (branches : List Branch) (fs : List F) →
    settled_in notes (owned_in branches fs) (kept_in gone branches (map (λ x. map (λ q. None) x.positions) branches)) ≡ owned_in branches fs
unfolding settled_in kept_in
in_nothing notes gone [] fs = refl
in_nothing notes gone (x ∷ branches) fs = λ i. row_nothing notes gone (owned x.positions fs) x.positions i ∷ in_nothing notes gone branches fs i

by_nothing : {F N : Type 0} (notes : Notes F N) (gone : ℕ → Bool) (stages : List Stage) (fs : List F) → settled_by notes (owned_by stages fs) (kept_by gone stages (no_notes stages)) ≡ owned_by stages fs
unfolding settled_by kept_by
by_nothing notes gone [] fs = refl
by_nothing notes gone (s ∷ stages) fs = λ i. in_nothing notes gone s.branches fs i ∷ by_nothing notes gone stages fs i

-- all stages and one packet
flow_is : {F N : Type 0} (b : Behaviour F) (notes : Notes F N) (gone : ℕ → Bool) (fixed : Fixed) (stages : List Stage) (values : Values) (fs : List F) → Below F → AreOnce (length fs) (all_positions stages) →
    graph_once b notes gone stages (owned_by stages fs) (Here fixed values) ≡ settled_by notes (owned_by stages (flow b fixed stages values fs).functions) (kept_by gone stages (flow_notes b notes fixed stages values fs))
unfolding graph_once flow then_flow flow_notes then_notes kept_by settled_by
flow_is b notes gone fixed [] values fs below h = refl
flow_is {F} {N} b notes gone fixed (s ∷ stages) values fs below h =
    (λ i. stage_is b notes gone fixed s.branches s.parts.touches values fs below (stage_front (length fs) s stages h) i
    ∷ graph_once b notes gone stages (sym (left_by_stage b fixed s stages values fs h) i) (turn_is_staged b fixed s values fs below (stage_front (length fs) s stages h) i).gives)
    ∙ go w.end (λ after. flow_is b notes gone fixed stages after done below (subst (λ n. AreOnce n (all_positions stages)) (sym (below.stage_length b fixed s.branches s.parts.touches fs values)) (stage_back (length fs) s stages h)))
  where
    w : Ended F
    w = staged b fixed s values fs

    done : List F
    done = w.functions

    made : List (List (Option N))
    made = kept_in gone s.branches (branched_notes b notes fixed s.branches s.parts.touches values fs)

    go : (end : End) →
        ((after : Values) → graph_once b notes gone stages (owned_by stages done) (Here fixed after) ≡ settled_by notes (owned_by stages (flow b fixed stages after done).functions) (kept_by gone stages (flow_notes b notes fixed stages after done))) →
        settled_in notes (owned_in s.branches done) made ∷ graph_once b notes gone stages (owned_by stages done) (ended fixed end)
        ≡ settled_in notes (owned_in s.branches (then_flow done end (flow b fixed stages)).functions) made
        ∷ settled_by notes (owned_by stages (then_flow done end (flow b fixed stages)).functions) (kept_by gone stages (then_notes stages done end (flow_notes b notes fixed stages)))
    go (Gone d) on = ap (λ l. settled_in notes (owned_in s.branches done) made ∷ l) (graph_gone b notes gone stages (owned_by stages done) d ∙ sym (by_nothing notes gone stages done))
    go (Out after) on = λ i. settled_in notes (sym (left_behind b fixed (length fs) s stages after done h) i) made ∷ on after i

get_settled : {F N : Type 0} (notes : Notes F N) (fs : List F) (made : List (Option N)) (i : ℕ) (f : F) (note : Option N) → slice_get fs i ≡ Some f → slice_get made i ≡ Some note → slice_get (settled_all notes fs made) i ≡ Some (settled notes f note)
unfolding settled_all
get_settled notes [] made i f _ e k = absurd cc
get_settled notes (g ∷ fs) [] i f _ e k = absurd cc
get_settled notes (g ∷ fs) (n ∷ made) zero f note e k = let same : g ≡ f = cc in let noted : n ≡ note = cc in λ i. Some (settled notes (same i) (noted i))
get_settled notes (g ∷ fs) (n ∷ made) (suc i) f note e k = get_settled notes fs made i f note e k

-- what a branch owns of functions whose notes are settled
owned_settled : {F N : Type 0} (notes : Notes F N) (qs : List ℕ) (fs : List F) (made : List (Option N)) → length made ≡ length fs → AreOnce (length fs) qs → settled_all notes (owned qs fs) (taken qs made) ≡ owned qs (settled_all notes fs made)
unfolding settled_all
owned_settled notes [] fs made long h = refl
owned_settled {F} {N} notes (q ∷ qs) fs made long h =
    (λ i. settled_all notes (cons_option (x.1 i) (owned qs fs)) (cons_option (n.1 i) (taken qs made)))
    ∙ ap (λ l. settled notes x.0 n.0 ∷ l) (owned_settled notes qs fs made long (once_rest (length fs) q qs h))
    ∙ (λ i. cons_option (sym (get_settled notes fs made (q - 1) x.0 n.0 x.1 n.1) i) (owned qs (settled_all notes fs made)))
  where
    inside : q - 1 < length fs
    inside = let w = h.within q (let t = times_here q qs in omega arith) in let l = w.0 in let u = w.1 in omega arith

    x : (f : F) × (slice_get fs (q - 1) ≡ Some f)
    x = got fs (q - 1) inside

    n : (note : Option N) × (slice_get made (q - 1) ≡ Some note)
    n = got made (q - 1) (let i = inside in omega arith)

in_settled : {F N : Type 0} (notes : Notes F N) (branches : List Branch) (fs : List F) (made : List (Option N)) → length made ≡ length fs → AreOnce (length fs) (positions_of branches) →
    settled_in notes (owned_in branches fs) (taken_in branches made) ≡ owned_in branches (settled_all notes fs made)
unfolding settled_in
in_settled notes [] fs made long h = refl
in_settled notes (x ∷ branches) fs made long h =
    λ i. owned_settled notes x.positions fs made long (once_front (length fs) x.positions (positions_of branches) h) i
    ∷ in_settled notes branches fs made long (once_back (length fs) x.positions (positions_of branches) h) i

pub by_settled : {F N : Type 0} (notes : Notes F N) (stages : List Stage) (fs : List F) (made : List (Option N)) → length made ≡ length fs → AreOnce (length fs) (all_positions stages) →
    settled_by notes (owned_by stages fs) (taken_by stages made) ≡ owned_by stages (settled_all notes fs made)
unfolding settled_by
by_settled notes [] fs made long h = refl
by_settled notes (s ∷ stages) fs made long h =
    λ i. in_settled notes s.branches fs made long (stage_front (length fs) s stages h) i ∷ by_settled notes stages fs made long (stage_back (length fs) s stages h) i

same_before : (fixed : Fixed) (end : End) → ◌≡◌ {A = ℕ → Bool} (lost_before (ended fixed end)) (gone_before end)
same_before fixed (Out values) = refl
same_before fixed (Gone p) = refl

-- the walk's functions and notes, split among the branches
pub packet_is : {F N : Type 0} (b : Behaviour F) (notes : Notes F N) (fixed : Fixed) (stages : List Stage) (values : Values) (fs : List F) (w : Ended F) (made : List (Option N)) → Below F → AreOnce (length fs) (all_positions stages) →
    flow b fixed stages values fs ≡ w → length w.functions ≡ length fs → length made ≡ length fs → kept_by (gone_before w.end) stages (flow_notes b notes fixed stages values fs) ≡ taken_by stages made →
    graph_once b notes (lost_before (ended fixed w.end)) stages (owned_by stages fs) (Here fixed values) ≡ owned_by stages (settled_all notes w.functions made)
packet_is b notes fixed stages values fs w made below h is size long same =
    ap (λ g. graph_once b notes g stages (owned_by stages fs) (Here fixed values)) (same_before fixed w.end)
    ∙ flow_is b notes (gone_before w.end) fixed stages values fs below h
    ∙ (λ i. settled_by notes (owned_by stages (is i).functions) (same i))
    ∙ by_settled notes stages w.functions made (long ∙ sym size) (subst (λ n. AreOnce n (all_positions stages)) (sym size) h)
