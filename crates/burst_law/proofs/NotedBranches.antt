-- The notes of packets may be settled packet after packet: without counting, settling changes nothing later.
use Rattle.std.proofs.Common.{◌≡◌, ◌∙◌, ℕ, List, ◌∷◌, [], map, sym, ap, refl, Bool, true, false, None, if◌then◌else◌}
use Rattle.std.specs.Prelude.{Option, zip}
use Rattle.action_profile.specs.declared.parts.Touch.{Touch}
use Rattle.chain_walk.specs.Counting.{quiet}
use Rattle.chain_walk.specs.Laws.{KeepsProfile}
use Rattle.chain_walk.specs.Notes.{Notes, settled, CountsByNotes}
use Rattle.chain_walk.specs.Shown.{shown_by}
use Rattle.chain_walk.specs.Step.{Behaviour, is_drop}
use Rattle.chain_walk.specs.declared.fixed.Fixed.{Fixed}
use Rattle.graph_compile.specs.declared.graph.Branch.{Branch}
use Rattle.graph_compile.specs.declared.graph.Stage.{Stage}
use Rattle.graph_law.specs.Branches.{BranchEnd, BranchEnd.Live, BranchEnd.Nil, dealt, moved_function, moved_end, written_at}
use Rattle.graph_law.specs.BranchNotes.{noted_of, kept}
use Rattle.graph_law.specs.NotedWalk.{settled_all, settled_in_turn}
use Rattle.graph_law.proofs.Settling.{step_quiet, noted_quiet}
use Rattle.burst_law.specs.Stations.{Turn, one_by_one, beside, then_gives, then_state}
use Rattle.burst_law.specs.Owned.{turned}
use Rattle.burst_law.specs.Bursts.{Message, Message.Here, Message.Lost, branch_turn, branch_stream, merged_from, stage_burst}
use Rattle.burst_law.specs.Noting.{turned_notes, branch_notes, stream_notes, lost_before, kept_stream, branch_settled, stage_settled, graph_settled}
use Rattle.burst_law.proofs.Staging.{stage_turn, burst_is_turns}

-- notes that these functions may have made: one that doesn't count made none
unfoldable pub Fits : {F N : Type 0} → Behaviour F → List F → List (Option N) → Type 0
Fits b [] made = Unit {0}
Fits b (f ∷ fs) [] = Unit {0}
Fits b (f ∷ fs) (note ∷ made) = ((b.profile f).counts ≡ false → note ≡ None) × Fits b fs made

fits_same : {F N : Type 0} (b : Behaviour F) (fs gs : List F) (made : List (Option N)) → map b.profile gs ≡ map b.profile fs → Fits b fs made → Fits b gs made
unfolding Fits
fits_same b [] [] made same fit = tt
fits_same b [] (g ∷ gs) made same fit = absurd cc
fits_same b (f ∷ fs) [] made same fit = absurd cc
fits_same b (f ∷ fs) (g ∷ gs) [] same fit = tt
fits_same b (f ∷ fs) (g ∷ gs) (_ ∷ made) same fit =
    let here : b.profile g ≡ b.profile f = cc in
    let rest : map b.profile gs ≡ map b.profile fs = cc in
    (λ none. fit.0 (ap (λ q. q.counts) (sym here) ∙ none), fits_same b fs gs made rest fit.1)

-- one function, and what arrives at it
noted_fits : {F N : Type 0} (b : Behaviour F) (notes : Notes F N) (fixed : Fixed) (f : F) (a : BranchEnd) → (b.profile f).counts ≡ false → noted_of (quiet b) notes fixed f a ≡ None
unfolding noted_of
noted_fits b notes fixed f (Nil q) none = refl
noted_fits b notes fixed f (Live v) none = ap (λ c. if c then notes.look f (shown_by (b.profile f) fixed v.values) else None) none

noted_same : {F N : Type 0} (b : Behaviour F) (notes : Notes F N) (fixed : Fixed) (f : F) (note : Option N) (a : BranchEnd) → CountsByNotes b notes → noted_of (quiet b) notes fixed (settled notes f note) a ≡ noted_of (quiet b) notes fixed f a
unfolding noted_of
noted_same b notes fixed f _ (Nil q) by_notes = refl
noted_same b notes fixed f note (Live v) by_notes = noted_quiet b notes fixed f note v.values by_notes

function_same : {F N : Type 0} (b : Behaviour F) (notes : Notes F N) (fixed : Fixed) (f : F) (note : Option N) (a : BranchEnd) → CountsByNotes b notes → ((b.profile f).counts ≡ false → note ≡ None) →
    moved_function (quiet b) fixed (settled notes f note) a ≡ settled notes (moved_function (quiet b) fixed f a) note
unfolding moved_function
function_same b notes fixed f _ (Nil q) by_notes fit = refl
function_same b notes fixed f note (Live v) by_notes fit = ap (λ t. t.after) (step_quiet b notes fixed f note v.values by_notes fit)

end_same : {F N : Type 0} (b : Behaviour F) (notes : Notes F N) (fixed : Fixed) (p : ℕ) (f : F) (note : Option N) (a : BranchEnd) → CountsByNotes b notes → ((b.profile f).counts ≡ false → note ≡ None) →
    moved_end (quiet b) fixed p (settled notes f note) a ≡ moved_end (quiet b) fixed p f a
unfolding moved_end
end_same b notes fixed p f _ (Nil q) by_notes fit = refl
end_same b notes fixed p f note (Live v) by_notes fit = ap (λ t. if is_drop t.verdict then Nil p else Live (written_at p t.written v)) (step_quiet b notes fixed f note v.values by_notes fit)

profile_kept : {F : Type 0} (b : Behaviour F) (fixed : Fixed) (f : F) (a : BranchEnd) → KeepsProfile b → b.profile (moved_function b fixed f a) ≡ b.profile f
unfolding moved_function
profile_kept b fixed f (Live v) law = law.stays fixed f v.values
profile_kept b fixed f (Nil q) law = refl

-- the functions of a branch
turned_kept : {F : Type 0} (b : Behaviour F) (fixed : Fixed) (qs : List ℕ) (fs : List F) (a : BranchEnd) → KeepsProfile b → map b.profile (turned b fixed qs fs a).state ≡ map b.profile fs
unfolding turned
turned_kept b fixed [] fs a law = refl
turned_kept b fixed (q ∷ qs) [] a law = refl
turned_kept b fixed (q ∷ qs) (f ∷ fs) a law = λ i. profile_kept b fixed f a law i ∷ turned_kept b fixed qs fs (moved_end b fixed q f a) law i

turned_settled : {F N : Type 0} (b : Behaviour F) (notes : Notes F N) (fixed : Fixed) (qs : List ℕ) (fs : List F) (made : List (Option N)) (a : BranchEnd) → CountsByNotes b notes → Fits b fs made →
    ◌≡◌ {A = Turn (List F) BranchEnd} (turned (quiet b) fixed qs (settled_all notes fs made) a) (record { state = settled_all notes (turned (quiet b) fixed qs fs a).state made; gives = (turned (quiet b) fixed qs fs a).gives })
unfolding turned settled_all Fits
turned_settled b notes fixed [] fs made a by_notes fit = refl
turned_settled b notes fixed (q ∷ qs) [] made a by_notes fit = refl
turned_settled b notes fixed (q ∷ qs) (f ∷ fs) [] a by_notes fit = refl
turned_settled b notes fixed (q ∷ qs) (f ∷ fs) (note ∷ made) a by_notes fit =
    (λ i. then_state (function_same b notes fixed f note a by_notes fit.0 i) (turned (quiet b) fixed qs (settled_all notes fs made) (end_same b notes fixed q f note a by_notes fit.0 i)))
    ∙ ap (then_state (settled notes (moved_function (quiet b) fixed f a) note)) (turned_settled b notes fixed qs fs made (moved_end (quiet b) fixed q f a) by_notes fit.1)

turned_noted : {F N : Type 0} (b : Behaviour F) (notes : Notes F N) (fixed : Fixed) (qs : List ℕ) (fs : List F) (made : List (Option N)) (a : BranchEnd) → CountsByNotes b notes → Fits b fs made →
    turned_notes (quiet b) notes fixed qs (settled_all notes fs made) a ≡ turned_notes (quiet b) notes fixed qs fs a
unfolding turned_notes settled_all Fits
turned_noted b notes fixed [] fs made a by_notes fit = refl
turned_noted b notes fixed (q ∷ qs) [] made a by_notes fit = refl
turned_noted b notes fixed (q ∷ qs) (f ∷ fs) [] a by_notes fit = refl
turned_noted b notes fixed (q ∷ qs) (f ∷ fs) (note ∷ made) a by_notes fit =
    (λ i. noted_same b notes fixed f note a by_notes i ∷ turned_notes (quiet b) notes fixed qs (settled_all notes fs made) (end_same b notes fixed q f note a by_notes fit.0 i))
    ∙ ap (λ l. noted_of (quiet b) notes fixed f a ∷ l) (turned_noted b notes fixed qs fs made (moved_end (quiet b) fixed q f a) by_notes fit.1)

turned_fits : {F N : Type 0} (b : Behaviour F) (notes : Notes F N) (fixed : Fixed) (qs : List ℕ) (fs : List F) (a : BranchEnd) → Fits b fs (turned_notes (quiet b) notes fixed qs fs a)
unfolding turned_notes Fits
turned_fits b notes fixed [] [] a = tt
turned_fits b notes fixed [] (f ∷ fs) a = tt
turned_fits b notes fixed (q ∷ qs) [] a = tt
turned_fits b notes fixed (q ∷ qs) (f ∷ fs) a = (λ none. noted_fits b notes fixed f a none, turned_fits b notes fixed qs fs (moved_end (quiet b) fixed q f a))

none_fits : (N : Type 0) {F : Type 0} (b : Behaviour F) (fs : List F) (qs : List ℕ) → Fits {N = N} b fs (map (λ q. None) qs)
unfolding Fits
none_fits N b [] qs = tt
none_fits N b (f ∷ fs) [] = tt
none_fits N b (f ∷ fs) (q ∷ qs) = (λ none. refl, none_fits N b fs qs)

kept_fits : {F N : Type 0} (b : Behaviour F) (gone : ℕ → Bool) (qs : List ℕ) (fs : List F) (made : List (Option N)) → Fits b fs made → Fits b fs (kept gone qs made)
unfolding kept Fits
kept_fits b gone [] [] made fit = tt
kept_fits b gone [] (f ∷ fs) made fit = tt
kept_fits b gone (q ∷ qs) [] made fit = tt
kept_fits b gone (q ∷ qs) (f ∷ fs) [] fit = tt
kept_fits b gone (q ∷ qs) (f ∷ fs) (note ∷ made) fit = (λ none. go (gone q) (fit.0 none), kept_fits b gone qs fs made fit.1)
  where
    go : (c : Bool) → note ≡ None → (if c then None else note) ≡ None
    go true e = refl
    go false e = e

-- the functions of a branch after one packet, when their notes about it are settled
abbrev pub turn_settled : {F N : Type 0} → Behaviour F → Notes F N → (ℕ → Bool) → Branch × Touch → List F → Message → List F
turn_settled b notes gone x fs m = settled_all notes (branch_turn b x fs m).state (kept gone x.0.positions (branch_notes b notes x fs m))

turn_kept : {F : Type 0} (b : Behaviour F) (x : Branch × Touch) (fs : List F) (m : Message) → KeepsProfile b → map b.profile (branch_turn b x fs m).state ≡ map b.profile fs
turn_kept b x fs (Here fixed values) law = turned_kept b fixed x.0.positions fs (dealt x.1 values) law
turn_kept b x fs (Lost p) law = refl

turn_fits : {F N : Type 0} (b : Behaviour F) (notes : Notes F N) (x : Branch × Touch) (fs : List F) (m : Message) → Fits b fs (branch_notes (quiet b) notes x fs m)
turn_fits b notes x fs (Here fixed values) = turned_fits b notes fixed x.0.positions fs (dealt x.1 values)
turn_fits {N} b notes x fs (Lost p) = none_fits N b fs x.0.positions

turn_after : {F N : Type 0} (b : Behaviour F) (notes : Notes F N) (x : Branch × Touch) (fs : List F) (made : List (Option N)) (m : Message) → CountsByNotes b notes → Fits b fs made →
    ◌≡◌ {A = Turn (List F) BranchEnd} (branch_turn (quiet b) x (settled_all notes fs made) m) (record { state = settled_all notes (branch_turn (quiet b) x fs m).state made; gives = (branch_turn (quiet b) x fs m).gives })
turn_after b notes x fs made (Here fixed values) by_notes fit = turned_settled b notes fixed x.0.positions fs made (dealt x.1 values) by_notes fit
turn_after b notes x fs made (Lost p) by_notes fit = refl

turn_noted : {F N : Type 0} (b : Behaviour F) (notes : Notes F N) (x : Branch × Touch) (fs : List F) (made : List (Option N)) (m : Message) → CountsByNotes b notes → Fits b fs made →
    branch_notes (quiet b) notes x (settled_all notes fs made) m ≡ branch_notes (quiet b) notes x fs m
turn_noted b notes x fs made (Here fixed values) by_notes fit = turned_noted b notes fixed x.0.positions fs made (dealt x.1 values) by_notes fit
turn_noted b notes x fs made (Lost p) by_notes fit = refl

-- all packets that arrive at a branch
stream_after : {F N : Type 0} (b : Behaviour F) (notes : Notes F N) (x : Branch × Touch) (fs : List F) (made : List (Option N)) (ms : List Message) → KeepsProfile (quiet b) → CountsByNotes b notes → Fits b fs made →
    ◌≡◌ {A = Turn (List F) (List BranchEnd)} (branch_stream (quiet b) x (settled_all notes fs made) ms) (record { state = settled_all notes (branch_stream (quiet b) x fs ms).state made; gives = (branch_stream (quiet b) x fs ms).gives })
unfolding one_by_one
stream_after b notes x fs made [] law by_notes fit = refl
stream_after {F} b notes x fs made (m ∷ ms) law by_notes fit =
    let t : Turn (List F) BranchEnd = branch_turn (quiet b) x fs m in
    ap (λ r. then_gives r.gives (branch_stream (quiet b) x r.state ms)) (turn_after b notes x fs made m by_notes fit)
    ∙ ap (then_gives t.gives) (stream_after b notes x t.state made ms law by_notes (fits_same b fs t.state made (turn_kept (quiet b) x fs m law) fit))

stream_noted : {F N : Type 0} (b : Behaviour F) (notes : Notes F N) (x : Branch × Touch) (fs : List F) (made : List (Option N)) (ms : List Message) → KeepsProfile (quiet b) → CountsByNotes b notes → Fits b fs made →
    stream_notes (quiet b) notes x (settled_all notes fs made) ms ≡ stream_notes (quiet b) notes x fs ms
unfolding stream_notes
stream_noted b notes x fs made [] law by_notes fit = refl
stream_noted {F} b notes x fs made (m ∷ ms) law by_notes fit =
    let t : Turn (List F) BranchEnd = branch_turn (quiet b) x fs m in
    (λ i. turn_noted b notes x fs made m by_notes fit i ∷ stream_notes (quiet b) notes x (turn_after b notes x fs made m by_notes fit i).state ms)
    ∙ ap (λ l. branch_notes (quiet b) notes x fs m ∷ l) (stream_noted b notes x t.state made ms law by_notes (fits_same b fs t.state made (turn_kept (quiet b) x fs m law) fit))

made_fits : {F N : Type 0} (b : Behaviour F) (notes : Notes F N) (gone : ℕ → Bool) (x : Branch × Touch) (fs : List F) (m : Message) → KeepsProfile (quiet b) →
    Fits b (branch_turn (quiet b) x fs m).state (kept gone x.0.positions (branch_notes (quiet b) notes x fs m))
made_fits b notes gone x fs m law =
    fits_same b fs (branch_turn (quiet b) x fs m).state _ (turn_kept (quiet b) x fs m law) (kept_fits b gone x.0.positions fs (branch_notes (quiet b) notes x fs m) (turn_fits b notes x fs m))

-- a burst is its first packet, whose notes are settled, and then the others
branch_split : {F N : Type 0} (b : Behaviour F) (notes : Notes F N) (end : Message) (ends : List Message) (x : Branch × Touch) (fs : List F) (m : Message) (ms : List Message) → KeepsProfile (quiet b) → CountsByNotes b notes →
    branch_settled (quiet b) notes (end ∷ ends) x fs (m ∷ ms) ≡ branch_settled (quiet b) notes ends x (turn_settled (quiet b) notes (lost_before end) x fs m) ms
unfolding one_by_one stream_notes kept_stream settled_in_turn
branch_split {F} {N} b notes end ends x fs m ms law by_notes =
    let fit = made_fits b notes (lost_before end) x fs m law in
    λ i. settled_in_turn notes
    (sym (stream_after b notes x next made ms law by_notes fit) i).state
    (kept_stream x.0.positions ends (sym (stream_noted b notes x next made ms law by_notes fit) i))
  where
    next : List F
    next = (branch_turn (quiet b) x fs m).state

    made : List (Option N)
    made = kept (lost_before end) x.0.positions (branch_notes (quiet b) notes x fs m)

-- the branches of a stage after one packet
unfoldable pub stage_once : {F N : Type 0} → Behaviour F → Notes F N → (ℕ → Bool) → List (Branch × Touch) → List (List F) → Message → List (List F)
stage_once b notes gone [] own m = own
stage_once b notes gone (x ∷ posts) [] m = []
stage_once b notes gone (x ∷ posts) (fs ∷ own) m = turn_settled b notes gone x fs m ∷ stage_once b notes gone posts own m

stage_split : {F N : Type 0} (b : Behaviour F) (notes : Notes F N) (end : Message) (ends : List Message) (posts : List (Branch × Touch)) (own : List (List F)) (m : Message) (ms : List Message) → KeepsProfile (quiet b) → CountsByNotes b notes →
    stage_settled (quiet b) notes (end ∷ ends) posts own (m ∷ ms) ≡ stage_settled (quiet b) notes ends posts (stage_once (quiet b) notes (lost_before end) posts own m) ms
unfolding stage_settled stage_once
stage_split b notes end ends [] own m ms law by_notes = refl
stage_split b notes end ends (x ∷ posts) [] m ms law by_notes = refl
stage_split b notes end ends (x ∷ posts) (fs ∷ own) m ms law by_notes =
    λ i. branch_split b notes end ends x fs m ms law by_notes i ∷ stage_split b notes end ends posts own m ms law by_notes i

streams_same : {F N : Type 0} (b : Behaviour F) (notes : Notes F N) (gone : ℕ → Bool) (posts : List (Branch × Touch)) (own : List (List F)) (m : Message) (ms : List Message) → KeepsProfile (quiet b) → CountsByNotes b notes →
    (beside (branch_stream (quiet b)) posts (beside (branch_turn (quiet b)) posts own m).state ms).gives ≡ (beside (branch_stream (quiet b)) posts (stage_once (quiet b) notes gone posts own m) ms).gives
unfolding beside stage_once
streams_same b notes gone [] own m ms law by_notes = refl
streams_same b notes gone (x ∷ posts) [] m ms law by_notes = refl
streams_same b notes gone (x ∷ posts) (fs ∷ own) m ms law by_notes =
    λ i. (sym (stream_after b notes x (branch_turn (quiet b) x fs m).state (kept gone x.0.positions (branch_notes (quiet b) notes x fs m)) ms law by_notes (made_fits b notes gone x fs m law)) i).gives
    ∷ streams_same b notes gone posts own m ms law by_notes i

stage_gives : {F N : Type 0} (b : Behaviour F) (notes : Notes F N) (gone : ℕ → Bool) (s : Stage) (own : List (List F)) (m : Message) (ms : List Message) → KeepsProfile (quiet b) → CountsByNotes b notes →
    (stage_burst (quiet b) s own (m ∷ ms)).gives ≡ (stage_turn (quiet b) s own m).gives ∷ (stage_burst (quiet b) s (stage_once (quiet b) notes gone (zip s.branches s.parts.touches) own m) ms).gives
unfolding one_by_one stage_burst
stage_gives {F} b notes gone s own m ms law by_notes =
    let next : List (List F) = (stage_turn (quiet b) s own m).state in
    ap (λ t. t.gives) (burst_is_turns (quiet b) s own (m ∷ ms))
    ∙ ap (λ l. (stage_turn (quiet b) s own m).gives ∷ l) (ap (λ t. t.gives) (sym (burst_is_turns (quiet b) s next ms)) ∙ ap (λ streams. merged_from 0 ms streams) (streams_same b notes gone (zip s.branches s.parts.touches) own m ms law by_notes))

-- all stages after one packet
unfoldable pub graph_once : {F N : Type 0} → Behaviour F → Notes F N → (ℕ → Bool) → List Stage → List (List (List F)) → Message → List (List (List F))
graph_once b notes gone [] own m = own
graph_once b notes gone (s ∷ stages) [] m = []
graph_once b notes gone (s ∷ stages) (o ∷ own) m = stage_once b notes gone (zip s.branches s.parts.touches) o m ∷ graph_once b notes gone stages own (stage_turn b s o m).gives

pub graph_split : {F N : Type 0} (b : Behaviour F) (notes : Notes F N) (end : Message) (ends : List Message) (stages : List Stage) (own : List (List (List F))) (m : Message) (ms : List Message) → KeepsProfile (quiet b) → CountsByNotes b notes →
    graph_settled (quiet b) notes (end ∷ ends) stages own (m ∷ ms) ≡ graph_settled (quiet b) notes ends stages (graph_once (quiet b) notes (lost_before end) stages own m) ms
unfolding graph_settled graph_once
graph_split b notes end ends [] own m ms law by_notes = refl
graph_split b notes end ends (s ∷ stages) [] m ms law by_notes = refl
graph_split {F} b notes end ends (s ∷ stages) (o ∷ own) m ms law by_notes =
    let posts : List (Branch × Touch) = zip s.branches s.parts.touches in
    let now : List (List F) = stage_once (quiet b) notes (lost_before end) posts o m in
    (λ i. stage_split b notes end ends posts o m ms law by_notes i ∷ graph_settled (quiet b) notes (end ∷ ends) stages own (stage_gives b notes (lost_before end) s o m ms law by_notes i))
    ∙ ap (λ l. stage_settled (quiet b) notes ends posts now ms ∷ l) (graph_split b notes end ends stages own (stage_turn (quiet b) s o m).gives (stage_burst (quiet b) s now ms).gives law by_notes)

-- no packet, no notes
stage_none : {F N : Type 0} (b : Behaviour F) (notes : Notes F N) (posts : List (Branch × Touch)) (own : List (List F)) → stage_settled b notes [] posts own [] ≡ own
unfolding stage_settled one_by_one stream_notes kept_stream settled_in_turn
stage_none b notes [] own = refl
stage_none b notes (x ∷ posts) [] = refl
stage_none b notes (x ∷ posts) (fs ∷ own) = ap (λ l. fs ∷ l) (stage_none b notes posts own)

pub graph_none : {F N : Type 0} (b : Behaviour F) (notes : Notes F N) (stages : List Stage) (own : List (List (List F))) → graph_settled b notes [] stages own [] ≡ own
unfolding graph_settled stage_burst
graph_none b notes [] own = refl
graph_none b notes (s ∷ stages) [] = refl
graph_none b notes (s ∷ stages) (o ∷ own) = λ i. stage_none b notes (zip s.branches s.parts.touches) o i ∷ graph_none b notes stages own i
