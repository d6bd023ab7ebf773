-- What the functions of a branch note, in turn: what is still to come.
use Rattle.std.proofs.Common.{◌≡◌, ◌≢◌, ◌∙◌, ◌≤◌, ◌<◌, ◌+◌, ◌-◌, ℕ, List, [], ◌∷◌, ◌++◌, append_assoc, length, drop, map, set, get_or, sym, ap, refl}
use Rattle.std.specs.Prelude.{Option, Some, None, slice_get}
use Rattle.std.proofs.lemmas.List.{drop_more, drop_all, append-nil}
use Rattle.chain_walk.specs.Notes.{Notes, noted}
use Rattle.chain_walk.specs.Step.{Behaviour}
use Rattle.chain_walk.specs.declared.fixed.Fixed.{Fixed}
use Rattle.graph_law.specs.Branches.{BranchEnd, BranchEnd.Live, BranchEnd.Nil, moved_function, moved_end, met}
use Rattle.graph_law.specs.BranchNotes.{in_turn_notes, noted_at, noted_of}
use Rattle.burst_law.specs.Placed.{PlacedNote, placed}
use Rattle.packet_version.specs.Versions.{PlainVersion}
use Rattle.merge_ops.specs.declared.arrival.Arrival.{Arrival}
use Rattle.merge_ops.specs.declared.arrival.Arrival.TheVariants as cames
use Rattle.graph_run.specs.Carrying.{as_version, as_branch_end}
use Rattle.graph_run.specs.Staging.{IsReady}
use Rattle.graph_run.proofs.TurnsInBranch.{InTurn, HasTurn, has_turn, turn_is}

-- a note is added to those before, if there is one
pub noted_down : {N : Type 0} (q : ℕ) (note : Option N) (n : N) (before after : List (PlacedNote N)) → note ≡ Some n → after ≡ before ++ record { position = q; note = n } ∷ [] → after ≡ before ++ placed (q ∷ []) (note ∷ [])
unfolding placed
noted_down q made n before after is all = all ∙ ap (λ o. before ++ placed (q ∷ []) (o ∷ [])) (sym is)

pub none_noted : {N : Type 0} (q : ℕ) (note : Option N) (before : List (PlacedNote N)) → note ≡ None → before ≡ before ++ placed (q ∷ []) (note ∷ [])
unfolding placed
none_noted q made before is = sym (append-nil before) ∙ ap (λ o. before ++ placed (q ∷ []) (o ∷ [])) (sym is)

placed_one : {N : Type 0} (q : ℕ) (note : Option N) (qs : List ℕ) (made : List (Option N)) → placed (q ∷ []) (note ∷ []) ++ placed qs made ≡ placed (q ∷ qs) (note ∷ made)
unfolding placed
placed_one q None qs made = refl
placed_one q (Some n) qs made = refl

-- what was noted, and what the remaining turns note, is what all note
abbrev pub TurnsNoted : {F N : Type 0} → Behaviour F → Notes F N → List ℕ → List F → List F → PlainVersion → BranchEnd → ℕ → List (PlacedNote N) → List (PlacedNote N) → Type 0
TurnsNoted b notes positions first now v0 a i before listed =
    listed ++ placed (drop i positions) (in_turn_notes b notes v0.fixed (drop i positions) now a) ≡ before ++ placed positions (in_turn_notes b notes v0.fixed positions first (Live (as_version v0)))

-- one turn: a function at a position that exists
in_turn_more : {F N : Type 0} (b : Behaviour F) (notes : Notes F N) (fixed : Fixed) (q : ℕ) (qs : List ℕ) (fs : List F) (f : F) (v : PlainVersion) → slice_get fs (q - 1) ≡ Some f →
    in_turn_notes b notes fixed (q ∷ qs) fs (Live (as_version v)) ≡ noted b notes fixed f (as_version v).values ∷ in_turn_notes b notes fixed qs (set fs (q - 1) (moved_function b fixed f (Live (as_version v)))) (moved_end b fixed q f (Live (as_version v)))
unfolding in_turn_notes noted_at noted_of met
in_turn_more b notes fixed q qs fs f v is =
    ap (λ o. noted_at b notes fixed o (Live (as_version v)) ∷ in_turn_notes b notes fixed qs (met b fixed q o fs (Live (as_version v))).functions (met b fixed q o fs (Live (as_version v))).arrival) is

-- the turn of a function, whatever its result
pub turn_noted : {F N : Type 0} (b : Behaviour F) (notes : Notes F N) (positions : List ℕ) (first now : List F) (v0 v : PlainVersion) (i : ℕ) (f d : F) (came : BranchEnd) (note : Option N) (before listed more : List (PlacedNote N)) →
    InTurn b positions first now v0 v i → IsReady (map b.profile first) positions v0 → i < length positions →
    f ≡ moved_function b v.fixed (get_or now (get_or positions i 0 - 1) d) (Live (as_version v)) →
    came ≡ moved_end b v.fixed (get_or positions i 0) (get_or now (get_or positions i 0 - 1) d) (Live (as_version v)) →
    note ≡ noted b notes v.fixed (get_or now (get_or positions i 0 - 1) d) (as_version v).values →
    TurnsNoted b notes positions first now v0 (Live (as_version v)) i before listed → more ≡ listed ++ placed (get_or positions i 0 ∷ []) (note ∷ []) →
    TurnsNoted b notes positions first (set now (get_or positions i 0 - 1) f) v0 came (i + 1) before more
turn_noted {F} {N} b notes positions first now v0 v i f d came note before listed more turn ready inside moved comes is due push =
    let q : ℕ = get_or positions i 0 in
    let qs : List ℕ = drop (i + 1) positions in
    let has : HasTurn b now q v = has_turn b positions first now v0 v i turn ready inside in
    let was : F = get_or now (q - 1) d in
    let there : slice_get now (q - 1) ≡ Some was = has.is ∙ ap (λ x. Some x) (sym (turn_is b now q v d has)) in
    let later : List (Option N) = in_turn_notes b notes v0.fixed qs (set now (q - 1) f) came in
    ap (λ l. l ++ placed qs later) push
    ∙ append_assoc listed (placed (q ∷ []) (note ∷ [])) (placed qs later)
    ∙ ap (λ l. listed ++ l) (placed_one q note qs later
    ∙ (λ j. placed (q ∷ qs) (is j ∷ in_turn_notes b notes v0.fixed qs (set now (q - 1) (moved j)) (comes j)))
    ∙ ap (λ x. placed (q ∷ qs) (noted b notes x was (as_version v).values ∷ in_turn_notes b notes v0.fixed qs (set now (q - 1) (moved_function b x was (Live (as_version v)))) (moved_end b x q was (Live (as_version v))))) turn.fixed
    ∙ ap (placed (q ∷ qs)) (sym (in_turn_more b notes v0.fixed q qs now was v there))
    ∙ ap (λ l. placed l (in_turn_notes b notes v0.fixed l now (Live (as_version v)))) (sym (drop_more positions i 0 inside)))
    ∙ due

-- no function notes a packet that was dropped
notes_gone : {F N : Type 0} (b : Behaviour F) (notes : Notes F N) (fixed : Fixed) (qs : List ℕ) (fs : List F) (p : ℕ) → placed qs (in_turn_notes b notes fixed qs fs (Nil p)) ≡ []
unfolding placed in_turn_notes noted_at noted_of met moved_end
notes_gone b notes fixed [] fs p = refl
notes_gone {F} b notes fixed (q ∷ qs) fs p = by_get (λ l. notes_gone b notes fixed qs l p) (slice_get fs (q - 1))
  where
    by_get : ((l : List F) → placed qs (in_turn_notes b notes fixed qs l (Nil p)) ≡ []) → (o : Option F) →
        placed (q ∷ qs) (noted_at b notes fixed o (Nil p) ∷ in_turn_notes b notes fixed qs (met b fixed q o fs (Nil p)).functions (met b fixed q o fs (Nil p)).arrival) ≡ []
    by_get gone None = gone fs
    by_get gone (Some f) = gone (met b fixed q (Some f) fs (Nil p)).functions

-- all turns are over
pub noted_over : {F N : Type 0} (b : Behaviour F) (notes : Notes F N) (positions : List ℕ) (first now : List F) (v0 v : PlainVersion) (i : ℕ) (before listed : List (PlacedNote N)) → length positions ≤ i →
    TurnsNoted b notes positions first now v0 (Live (as_version v)) i before listed → listed ≡ before ++ placed positions (in_turn_notes b notes v0.fixed positions first (Live (as_version v0)))
unfolding in_turn_notes placed
noted_over b notes positions first now v0 v i before listed past due =
    sym (append-nil listed) ∙ ap (λ l. listed ++ placed l (in_turn_notes b notes v0.fixed l now (Live (as_version v)))) (sym (drop_all i positions past)) ∙ due

-- or the packet was dropped
pub noted_dropped : {F N : Type 0} (b : Behaviour F) (notes : Notes F N) (positions : List ℕ) (first now : List F) (v0 : PlainVersion) (i : ℕ) (came : Arrival) (before listed : List (PlacedNote N)) → ((w : PlainVersion) → came ≢ cames.Version w) →
    TurnsNoted b notes positions first now v0 (as_branch_end came) i before listed → listed ≡ before ++ placed positions (in_turn_notes b notes v0.fixed positions first (Live (as_version v0)))
noted_dropped b notes positions first now v0 i (cames.Version w) before listed no_version due = absurd (no_version w refl)
noted_dropped b notes positions first now v0 i (cames.Nil p) before listed no_version due =
    sym (append-nil listed) ∙ ap (λ l. listed ++ l) (sym (notes_gone b notes v0.fixed (drop i positions) now p)) ∙ due
noted_dropped b notes positions first now v0 i cames.Short before listed no_version due =
    sym (append-nil listed) ∙ ap (λ l. listed ++ l) (sym (notes_gone b notes v0.fixed (drop i positions) now 0)) ∙ due
