-- A stage whose branches own their functions does what it does among all functions of the chain.
use Rattle.std.proofs.Common.{◌≡◌, ◌≤◌, ◌-◌, ◌∙◌, ℕ, suc, List, ◌∷◌, [], length, sym, ap, refl, subst, arith}
use Rattle.std.specs.Prelude.{slice_get, zip}
use Rattle.action_profile.specs.declared.parts.Touch.{Touch}
use Rattle.chain_walk.specs.Shown.{Values}
use Rattle.chain_walk.specs.Step.{Behaviour}
use Rattle.chain_walk.specs.FieldWalk.{End, End.Out, End.Gone, Ended}
use Rattle.chain_walk.specs.declared.fixed.Fixed.{Fixed}
use Rattle.graph_compile.specs.Facts.{positions_of, all_positions, times}
use Rattle.graph_compile.specs.declared.graph.Branch.{Branch}
use Rattle.graph_compile.specs.declared.graph.Stage.{Stage}
use Rattle.graph_compile.proofs.FiveFacts.{times-stages}
use Rattle.graph_compile.proofs.Times.{times-append}
use Rattle.graph_law.specs.Branches.{BranchEnd, Ran, in_turn, dealt}
use Rattle.graph_law.specs.Flow.{Branched, branched, staged, then_flow, flow}
use Rattle.graph_law.specs.Merging.{merged}
use Rattle.burst_law.specs.Stations.{Turn, one_by_one, beside, across, then_gives, then_state, then_both}
use Rattle.burst_law.specs.Owned.{owned, owned_in, owned_by, turned}
use Rattle.burst_law.specs.Bursts.{Message, Message.Here, Message.Lost, ended, branch_turn, behind, merged_from, stage_burst}
use Rattle.burst_law.proofs.Below.{Below}
use Rattle.burst_law.proofs.Positions.{AreOnce, once_front, once_back, once_apart, stage_front, stage_back, stage_apart, behind_apart, owned_same, owned_in_same, owned_by_same}
use Rattle.burst_law.proofs.Splitting.{CountFromOne, in_turn_others, parted, turned_is}
use Rattle.burst_law.proofs.Stations.{through, streams, streams_begin, streams_state, streams_first, streams_later}

-- a stage and one packet
abbrev pub stage_turn : {F : Type 0} → Behaviour F → Stage → List (List F) → Message → Turn (List (List F)) Message
stage_turn b stage own m = record {
  state = (beside (branch_turn b) (zip stage.branches stage.parts.touches) own m).state;
  gives = behind m (beside (branch_turn b) (zip stage.branches stage.parts.touches) own m).gives;
}

merged_same : (k : ℕ) (ms : List Message) (xs ys : List (List BranchEnd)) → ((i : ℕ) → across (suc i) xs ≡ across i ys) → merged_from (suc k) ms xs ≡ merged_from k ms ys
merged_same k [] xs ys same = refl
merged_same k (m ∷ ms) xs ys same = (λ i. behind m (same k i) ∷ merged_same (suc k) ms xs ys same i)

-- branch by branch is packet by packet
pub burst_is_turns : {F : Type 0} (b : Behaviour F) (stage : Stage) (own : List (List F)) (ms : List Message) → stage_burst b stage own ms ≡ one_by_one (stage_turn b stage) own ms
unfolding stage_burst one_by_one
burst_is_turns b stage own [] = (λ i. record { state = streams_begin (branch_turn b) (zip stage.branches stage.parts.touches) own i; gives = [] })
burst_is_turns {F} b stage own (m ∷ ms) =
    (λ i. record {
      state = streams_state (branch_turn b) posts own m ms i;
      gives = behind m (streams_first (branch_turn b) posts own m ms i) ∷ merged_same 0 ms (streams (branch_turn b) posts own (m ∷ ms)).gives (streams (branch_turn b) posts next ms).gives (streams_later (branch_turn b) posts own m ms) i;
    })
    ∙ ap (then_gives (behind m (beside (branch_turn b) posts own m).gives)) (burst_is_turns b stage next ms)
  where
    posts : List (Branch × Touch)
    posts = zip stage.branches stage.parts.touches

    next : List (List F)
    next = (beside (branch_turn b) posts own m).state

-- the branches of a stage leave the functions at other positions
pub branched_others : {F : Type 0} (b : Behaviour F) (fixed : Fixed) (branches : List Branch) (touches : List Touch) (values : Values) (fs : List F) (r : ℕ) → CountFromOne (positions_of branches) → 1 ≤ r → times r (positions_of branches) ≡ 0 →
    slice_get (branched b fixed branches touches values fs).functions (r - 1) ≡ slice_get fs (r - 1)
unfolding branched
branched_others b fixed [] touches values fs r low lows none = refl
branched_others b fixed (x ∷ branches) [] values fs r low lows none = refl
branched_others {F} b fixed (x ∷ branches) (t ∷ touches) values fs r low lows none =
    branched_others b fixed branches touches values (in_turn b fixed x.positions fs (dealt t values)).functions r (λ q some. low q (let s = times-append q x.positions (positions_of branches) in omega arith)) lows (let s = times-append r x.positions (positions_of branches) in omega arith)
    ∙ in_turn_others b fixed x.positions fs (dealt t values) r (λ q some. low q (let s = times-append q x.positions (positions_of branches) in omega arith)) lows (let s = times-append r x.positions (positions_of branches) in omega arith)

-- and so do all stages
pub flow_others : {F : Type 0} (b : Behaviour F) (fixed : Fixed) (stages : List Stage) (values : Values) (fs : List F) (r : ℕ) → CountFromOne (all_positions stages) → 1 ≤ r → times r (all_positions stages) ≡ 0 →
    slice_get (flow b fixed stages values fs).functions (r - 1) ≡ slice_get fs (r - 1)
unfolding flow then_flow
flow_others b fixed [] values fs r low lows none = refl
flow_others {F} b fixed (s ∷ stages) values fs r low lows none =
    go (staged b fixed s values fs).end (λ after. flow_others b fixed stages after done r (λ q some. low q (let t = times-stages q s stages in omega arith)) lows (let t = times-stages r s stages in omega arith))
    ∙ branched_others b fixed s.branches s.parts.touches values fs r (λ q some. low q (let t = times-stages q s stages in omega arith)) lows (let t = times-stages r s stages in omega arith)
  where
    done : List F
    done = (staged b fixed s values fs).functions

    go : (end : End) → ((after : Values) → slice_get (flow b fixed stages after done).functions (r - 1) ≡ slice_get done (r - 1)) → slice_get (then_flow done end (flow b fixed stages)).functions (r - 1) ≡ slice_get done (r - 1)
    go (Out after) on = on after
    go (Gone q) on = refl

-- the branches of a stage, each with the functions that it owns
pub beside_branched : {F : Type 0} (b : Behaviour F) (fixed : Fixed) (branches : List Branch) (touches : List Touch) (values : Values) (fs : List F) → Below F → AreOnce (length fs) (positions_of branches) →
    ◌≡◌ {A = Turn (List (List F)) (List BranchEnd)} (beside (branch_turn b) (zip branches touches) (owned_in branches fs) (Here fixed values))
    (record { state = owned_in branches (branched b fixed branches touches values fs).functions; gives = (branched b fixed branches touches values fs).arrivals })
unfolding beside branched
beside_branched b fixed [] [] values fs below h = refl
beside_branched b fixed [] (t ∷ touches) values fs below h = refl
beside_branched b fixed (x ∷ branches) [] values fs below h = refl
beside_branched {F} b fixed (x ∷ branches) (t ∷ touches) values fs below h =
    (λ i. then_both (one i) (others (beside_branched b fixed branches touches values r.functions below (subst (λ n. AreOnce n later) (sym (below.branch_length b fixed x.positions fs (dealt t values))) (once_back (length fs) x.positions later h))) i)) ∙ (λ i. record { state = sym first i ∷ owned_in branches rest.functions; gives = r.arrival ∷ rest.arrivals })
  where
    r : Ran F
    r = in_turn b fixed x.positions fs (dealt t values)

    rest : Branched F
    rest = branched b fixed branches touches values r.functions

    later : List ℕ
    later = positions_of branches

    one : turned b fixed x.positions (owned x.positions fs) (dealt t values) ≡ parted x.positions r
    one = turned_is b fixed x.positions fs (dealt t values) (once_front (length fs) x.positions later h)

    left : owned_in branches r.functions ≡ owned_in branches fs
    left = owned_in_same branches fs r.functions (record {
      same = λ q some. in_turn_others b fixed x.positions fs (dealt t values) q (λ p there. ((once_front (length fs) x.positions later h).within p there).0) ((once_back (length fs) x.positions later h).within q some).0
          (let o = h.once q in let s = times-append q x.positions later in omega arith);
    })

    others : ◌≡◌ {A = Turn (List (List F)) (List BranchEnd)} (beside (branch_turn b) (zip branches touches) (owned_in branches r.functions) (Here fixed values)) (record { state = owned_in branches rest.functions; gives = rest.arrivals }) →
        ◌≡◌ {A = Turn (List (List F)) (List BranchEnd)} (beside (branch_turn b) (zip branches touches) (owned_in branches fs) (Here fixed values)) (record { state = owned_in branches rest.functions; gives = rest.arrivals })
    others ih = ap (λ o. beside (branch_turn b) (zip branches touches) o (Here fixed values)) (sym left) ∙ ih

    first : owned x.positions rest.functions ≡ owned x.positions r.functions
    first = owned_same x.positions r.functions rest.functions (record {
      same = λ q some. branched_others b fixed branches touches values r.functions q (λ p there. ((once_back (length fs) x.positions later h).within p there).0) ((once_front (length fs) x.positions later h).within q some).0
          (once_apart (length fs) x.positions later h q some);
    })

-- a dropped packet changes no function
pub beside_gone : {F : Type 0} (b : Behaviour F) (branches : List Branch) (touches : List Touch) (own : List (List F)) (q : ℕ) →
    (beside (branch_turn b) (zip branches touches) own (Lost q)).state ≡ own
unfolding beside
beside_gone b [] touches own q = refl
beside_gone b (x ∷ branches) [] own q = refl
beside_gone b (x ∷ branches) (t ∷ touches) [] q = refl
beside_gone b (x ∷ branches) (t ∷ touches) (fs ∷ own) q = ap (λ l. fs ∷ l) (beside_gone b branches touches own q)

pub gone_through : {F : Type 0} (b : Behaviour F) (stages : List Stage) (own : List (List (List F))) (q : ℕ) →
    ◌≡◌ {A = Turn (List (List (List F))) Message} (through (stage_turn b) stages own (Lost q)) (record { state = own; gives = Lost q })
unfolding through
gone_through b [] own q = refl
gone_through b (s ∷ stages) [] q = refl
gone_through b (s ∷ stages) (o ∷ own) q = (λ i. then_state (beside_gone b s.branches s.parts.touches o q i) (gone_through b stages own q i))

-- a stage and one packet
abbrev pub staged_in : {F : Type 0} → Stage → Fixed → Ended F → Turn (List (List F)) Message
staged_in stage fixed w = record { state = owned_in stage.branches w.functions; gives = ended fixed w.end }

pub turn_is_staged : {F : Type 0} (b : Behaviour F) (fixed : Fixed) (stage : Stage) (values : Values) (fs : List F) → Below F → AreOnce (length fs) (positions_of stage.branches) →
    stage_turn b stage (owned_in stage.branches fs) (Here fixed values) ≡ staged_in stage fixed (staged b fixed stage values fs)
turn_is_staged b fixed stage values fs below h =
    ap (λ t. record { state = t.state; gives = ended fixed (merged values t.gives) }) (beside_branched b fixed stage.branches stage.parts.touches values fs below h)

-- the stages after one leave its part unchanged, and it leaves theirs unchanged
pub left_by_stage : {F : Type 0} (b : Behaviour F) (fixed : Fixed) (s : Stage) (stages : List Stage) (values : Values) (fs : List F) → AreOnce (length fs) (all_positions (s ∷ stages)) →
    owned_by stages (staged b fixed s values fs).functions ≡ owned_by stages fs
left_by_stage b fixed s stages values fs h = owned_by_same stages fs (staged b fixed s values fs).functions (record {
  same = λ q some. branched_others b fixed s.branches s.parts.touches values fs q (λ p there. ((stage_front (length fs) s stages h).within p there).0) ((stage_back (length fs) s stages h).within q some).0
      (behind_apart (length fs) s stages h q some);
})

pub left_behind : {F : Type 0} (b : Behaviour F) (fixed : Fixed) (n : ℕ) (s : Stage) (stages : List Stage) (values : Values) (fs : List F) → AreOnce n (all_positions (s ∷ stages)) →
    owned_in s.branches (flow b fixed stages values fs).functions ≡ owned_in s.branches fs
left_behind b fixed n s stages values fs h = owned_in_same s.branches fs (flow b fixed stages values fs).functions (record {
  same = λ q some. flow_others b fixed stages values fs q (λ p there. ((stage_back n s stages h).within p there).0) ((stage_front n s stages h).within q some).0 (stage_apart n s stages h q some);
})

-- all stages and one packet
abbrev pub flowed_by : {F : Type 0} → List Stage → Fixed → Ended F → Turn (List (List (List F))) Message
flowed_by stages fixed w = record { state = owned_by stages w.functions; gives = ended fixed w.end }

pub turns_flow : {F : Type 0} (b : Behaviour F) (fixed : Fixed) (stages : List Stage) (values : Values) (fs : List F) → Below F → AreOnce (length fs) (all_positions stages) →
    through (stage_turn b) stages (owned_by stages fs) (Here fixed values) ≡ flowed_by stages fixed (flow b fixed stages values fs)
unfolding through flow then_flow
turns_flow b fixed [] values fs below h = refl
turns_flow {F} b fixed (s ∷ stages) values fs below h =
    ap (λ t. then_state t.state (through (stage_turn b) stages (owned_by stages fs) t.gives)) (turn_is_staged b fixed s values fs below (stage_front (length fs) s stages h))
    ∙ ap (λ o. then_state (owned_in s.branches done) (through (stage_turn b) stages o (ended fixed w.end))) (sym (left_by_stage b fixed s stages values fs h))
    ∙ go w.end (λ after. turns_flow b fixed stages after done below (subst (λ n. AreOnce n (all_positions stages)) (sym (below.stage_length b fixed s.branches s.parts.touches fs values)) (stage_back (length fs) s stages h)))
  where
    w : Ended F
    w = staged b fixed s values fs

    done : List F
    done = w.functions

    go : (end : End) → ((after : Values) → through (stage_turn b) stages (owned_by stages done) (Here fixed after) ≡ flowed_by stages fixed (flow b fixed stages after done)) →
        then_state (owned_in s.branches done) (through (stage_turn b) stages (owned_by stages done) (ended fixed end)) ≡ flowed_by (s ∷ stages) fixed (then_flow done end (flow b fixed stages))
    go (Gone q) on = ap (then_state (owned_in s.branches done)) (gone_through b stages (owned_by stages done) q)
    go (Out after) on = ap (then_state (owned_in s.branches done)) (on after)
        ∙ (λ i. record { state = sym (left_behind b fixed (length fs) s stages after done h) i ∷ owned_by stages (flow b fixed stages after done).functions; gives = ended fixed (flow b fixed stages after done).end })
