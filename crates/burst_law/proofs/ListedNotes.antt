-- A branch that settles its list, note by note, settles the notes of each packet, packet by packet.
use Rattle.std.proofs.Common.{◌≡◌, ◌≤◌, ◌+◌, ◌∙◌, ℕ, suc, List, ◌∷◌, [], ◌++◌, length, set, sym, ap, refl, arith, Bool, true, false, Some, None, if◌then◌else◌, append_assoc, length-append}
use Rattle.std.specs.Prelude.{Option, slice_get, slice_index_or}
use Rattle.std.proofs.Math.Seq.{set-append_seam}
use Rattle.std.proofs.lemmas.List.{length-map}
use Rattle.action_profile.specs.declared.parts.Touch.{Touch}
use Rattle.chain_walk.specs.Notes.{Notes, settled}
use Rattle.chain_walk.specs.Step.{Behaviour}
use Rattle.chain_walk.specs.declared.fixed.Fixed.{Fixed}
use Rattle.graph_compile.specs.declared.graph.Branch.{Branch}
use Rattle.graph_law.specs.Branches.{BranchEnd, dealt, moved_end}
use Rattle.graph_law.specs.BranchNotes.{kept}
use Rattle.graph_law.specs.NotedWalk.{settled_all, settled_in_turn}
use Rattle.graph_law.proofs.Seams.{get_seam}
use Rattle.burst_law.specs.Stations.{one_by_one}
use Rattle.burst_law.specs.Owned.{turned}
use Rattle.burst_law.specs.Bursts.{Message, Message.Here, Message.Lost, branch_turn, branch_stream}
use Rattle.burst_law.specs.Noting.{turned_notes, branch_notes, stream_notes, lost_before, kept_stream, branch_settled, OwnNote, row_listed, rows_listed, settled_at, settled_one, settled_listed}

index_seam : {A : Type 0} (pre : List A) (x : A) (post : List A) (d : A) → slice_index_or (pre ++ x ∷ post) (length pre) d ≡ x
index_seam [] x post d = refl
index_seam (y ∷ pre) x post d = index_seam pre x post d

listed_append : {F N : Type 0} (notes : Notes F N) (positions : List ℕ) (ends : List Message) (fs : List F) (xs ys : List (OwnNote N)) →
    settled_listed notes positions ends fs (xs ++ ys) ≡ settled_listed notes positions ends (settled_listed notes positions ends fs xs) ys
unfolding settled_listed
listed_append notes positions ends fs [] ys = refl
listed_append notes positions ends fs (x ∷ xs) ys = listed_append notes positions ends (settled_one notes positions ends fs x) xs ys

-- what is settled in a list whose first note is this
pub all_nothing : {F N : Type 0} (notes : Notes F N) (fs : List F) (gone : ℕ → Bool) (qs : List ℕ) → settled_all notes fs (kept gone qs []) ≡ fs
unfolding settled_all kept
all_nothing notes [] gone qs = refl
all_nothing notes (f ∷ fs) gone [] = refl
all_nothing notes (f ∷ fs) gone (q ∷ qs) = refl

settled_choice : {F N : Type 0} (notes : Notes F N) (f : F) (c : Bool) (n : N) → settled notes f (if c then None else Some n) ≡ (if c then f else notes.settle f n)
settled_choice notes f true n = refl
settled_choice notes f false n = refl

none_choice : {F N : Type 0} (notes : Notes F N) (f : F) (c : Bool) → settled notes f (if c then None else None) ≡ f
none_choice notes f true = refl
none_choice notes f false = refl

-- the notes of one packet, from a function on: those before it stay
row_settles : {F N : Type 0} (notes : Notes F N) (ends : List Message) (end : Message) (packet index : ℕ) (first later : List ℕ) (front back : List F) (row : List (Option N)) →
    slice_index_or ends packet (Lost 0) ≡ end → length first ≡ index → length front ≡ index → length back ≡ length later → length row ≤ length later →
    settled_listed notes (first ++ later) ends (front ++ back) (row_listed packet index row) ≡ front ++ settled_all notes back (kept (lost_before end) later row)
unfolding settled_listed row_listed kept settled_all settled_at
row_settles notes ends end packet index first later front back [] at_end at_first at_front same few = ap (λ l. front ++ l) (sym (all_nothing notes back (lost_before end) later))
row_settles notes ends end packet index first [] front back (n ∷ row) at_end at_first at_front same few = absurd (omega arith)
row_settles notes ends end packet index first (q ∷ later) front [] (n ∷ row) at_end at_first at_front same few = absurd (omega arith)
row_settles {F} {N} notes ends end packet index first (q ∷ later) front (f ∷ back) (None ∷ row) at_end at_first at_front same few =
    (λ i. settled_listed notes (sym (append_assoc first (q ∷ []) later) i) ends (sym (append_assoc front (f ∷ []) back) i) (row_listed packet (index + 1) row))
    ∙ row_settles notes ends end packet (index + 1) (first ++ q ∷ []) later (front ++ f ∷ []) back row at_end (let n = length-append first (q ∷ []) in omega arith) (let n = length-append front (f ∷ []) in omega arith) (omega arith) (omega arith)
    ∙ append_assoc front (f ∷ []) (settled_all notes back (kept (lost_before end) later row))
    ∙ ap (λ g. front ++ g ∷ settled_all notes back (kept (lost_before end) later row)) (sym (none_choice notes f (lost_before end q)))
row_settles {F} {N} notes ends end packet index first (q ∷ later) front (f ∷ back) (Some n ∷ row) at_end at_first at_front same few =
    ap (λ l. settled_listed notes (first ++ q ∷ later) ends l (row_listed packet (index + 1) row)) here
    ∙ (λ i. settled_listed notes (sym (append_assoc first (q ∷ []) later) i) ends (sym (append_assoc front (g ∷ []) back) i) (row_listed packet (index + 1) row))
    ∙ row_settles notes ends end packet (index + 1) (first ++ q ∷ []) later (front ++ g ∷ []) back row at_end (let n = length-append first (q ∷ []) in omega arith) (let n = length-append front (g ∷ []) in omega arith) (omega arith) (omega arith)
    ∙ append_assoc front (g ∷ []) (settled_all notes back (kept (lost_before end) later row))
    ∙ ap (λ g. front ++ g ∷ settled_all notes back (kept (lost_before end) later row)) (sym (settled_choice notes f (lost_before end q) n))
  where
    g : F
    g = if lost_before end q then f else notes.settle f n

    o : OwnNote N
    o = record { packet = packet; index = index; note = n }

    positions : List ℕ
    positions = first ++ q ∷ later

    fs : List F
    fs = front ++ f ∷ back

    at_q : slice_index_or positions index 0 ≡ q
    at_q = ap (λ k. slice_index_or positions k 0) (sym at_first) ∙ index_seam first q later 0

    at_f : slice_get fs index ≡ Some f
    at_f = ap (slice_get fs) (sym at_front) ∙ get_seam front f back

    put : set fs index (notes.settle f n) ≡ front ++ notes.settle f n ∷ back
    put = ap (λ k. set fs k (notes.settle f n)) (sym at_front) ∙ set-append_seam front f back (notes.settle f n)

    by_choice : (c : Bool) → (if c then fs else settled_at notes o (slice_get fs index) fs) ≡ front ++ (if c then f else notes.settle f n) ∷ back
    by_choice true = refl
    by_choice false = ap (λ x. settled_at notes o x fs) at_f ∙ put

    here : settled_one notes positions ends fs o ≡ front ++ g ∷ back
    here = (λ i. if lost_before (at_end i) (at_q i) then fs else settled_at notes o (slice_get fs index) fs) ∙ by_choice (lost_before end q)

-- each row has no more notes than there are functions
unfoldable pub Few : {N : Type 0} → ℕ → List (List (Option N)) → Type 0
Few n [] = Unit {0}
Few n (row ∷ rows) = (length row ≤ n) × Few n rows

length_settled : {F N : Type 0} (notes : Notes F N) (fs : List F) (made : List (Option N)) → length (settled_all notes fs made) ≡ length fs
unfolding settled_all
length_settled notes [] made = refl
length_settled notes (f ∷ fs) [] = refl
length_settled notes (f ∷ fs) (_ ∷ made) = ap suc (length_settled notes fs made)

-- the packets from this one on
rows_settle : {F N : Type 0} (notes : Notes F N) (positions : List ℕ) (before ends : List Message) (packet : ℕ) (fs : List F) (rows : List (List (Option N))) →
    length before ≡ packet → length ends ≡ length rows → length fs ≡ length positions → Few (length positions) rows →
    settled_listed notes positions (before ++ ends) fs (rows_listed packet rows) ≡ settled_in_turn notes fs (kept_stream positions ends rows)
unfolding settled_listed rows_listed settled_in_turn kept_stream Few
rows_settle notes positions before [] packet fs [] at same size few = refl
rows_settle notes positions before (end ∷ ends) packet fs [] at same size few = absurd (omega arith)
rows_settle notes positions before [] packet fs (row ∷ rows) at same size few = absurd (omega arith)
rows_settle {F} {N} notes positions before (end ∷ ends) packet fs (row ∷ rows) at same size few =
    let all : List Message = before ++ end ∷ ends in
    let next : List F = settled_all notes fs (kept (lost_before end) positions row) in
    listed_append notes positions all fs (row_listed packet 0 row) (rows_listed (packet + 1) rows)
    ∙ ap (λ l. settled_listed notes positions all l (rows_listed (packet + 1) rows))
    (row_settles notes all end packet 0 [] positions [] fs row (ap (λ k. slice_index_or all k (Lost 0)) (sym at) ∙ index_seam before end ends (Lost 0)) refl refl size few.0)
    ∙ ap (λ l. settled_listed notes positions l next (rows_listed (packet + 1) rows)) (sym (append_assoc before (end ∷ []) ends))
    ∙ rows_settle notes positions (before ++ end ∷ []) ends (packet + 1) next rows (let n = length-append before (end ∷ []) in omega arith) (omega arith) (length_settled notes fs (kept (lost_before end) positions row) ∙ size) few.1

-- as many notes as functions, and the number of functions stays
turned_few : {F N : Type 0} (b : Behaviour F) (notes : Notes F N) (fixed : Fixed) (qs : List ℕ) (fs : List F) (a : BranchEnd) → length (turned_notes b notes fixed qs fs a) ≤ length qs
unfolding turned_notes
turned_few b notes fixed [] fs a = omega arith
turned_few b notes fixed (q ∷ qs) [] a = omega arith
turned_few b notes fixed (q ∷ qs) (f ∷ fs) a = let n = turned_few b notes fixed qs fs (moved_end b fixed q f a) in omega arith

turned_length : {F : Type 0} (b : Behaviour F) (fixed : Fixed) (qs : List ℕ) (fs : List F) (a : BranchEnd) → length (turned b fixed qs fs a).state ≡ length fs
unfolding turned
turned_length b fixed [] fs a = refl
turned_length b fixed (q ∷ qs) [] a = refl
turned_length b fixed (q ∷ qs) (f ∷ fs) a = ap suc (turned_length b fixed qs fs (moved_end b fixed q f a))

turn_few : {F N : Type 0} (b : Behaviour F) (notes : Notes F N) (x : Branch × Touch) (fs : List F) (m : Message) → length (branch_notes b notes x fs m) ≤ length x.0.positions
turn_few b notes x fs (Here fixed values) = turned_few b notes fixed x.0.positions fs (dealt x.1 values)
turn_few {F} {N} b notes x fs (Lost p) = let n : length (branch_notes b notes x fs (Lost p)) ≡ length x.0.positions = length-map x.0.positions (λ q. None) in omega arith

turn_length : {F : Type 0} (b : Behaviour F) (x : Branch × Touch) (fs : List F) (m : Message) → length (branch_turn b x fs m).state ≡ length fs
turn_length b x fs (Here fixed values) = turned_length b fixed x.0.positions fs (dealt x.1 values)
turn_length b x fs (Lost p) = refl

stream_few : {F N : Type 0} (b : Behaviour F) (notes : Notes F N) (x : Branch × Touch) (fs : List F) (ms : List Message) → Few (length x.0.positions) (stream_notes b notes x fs ms)
unfolding stream_notes Few
stream_few b notes x fs [] = tt
stream_few b notes x fs (m ∷ ms) = (turn_few b notes x fs m, stream_few b notes x (branch_turn b x fs m).state ms)

stream_count : {F N : Type 0} (b : Behaviour F) (notes : Notes F N) (x : Branch × Touch) (fs : List F) (ms : List Message) → length (stream_notes b notes x fs ms) ≡ length ms
unfolding stream_notes
stream_count b notes x fs [] = refl
stream_count b notes x fs (m ∷ ms) = ap suc (stream_count b notes x (branch_turn b x fs m).state ms)

stream_length : {F : Type 0} (b : Behaviour F) (x : Branch × Touch) (fs : List F) (ms : List Message) → length (branch_stream b x fs ms).state ≡ length fs
unfolding one_by_one
stream_length b x fs [] = refl
stream_length b x fs (m ∷ ms) = stream_length b x (branch_turn b x fs m).state ms ∙ turn_length b x fs m

pub listed_settles : {F N : Type 0} (b : Behaviour F) (notes : Notes F N) (ends : List Message) (x : Branch × Touch) (fs : List F) (ms : List Message) → length fs ≡ length x.0.positions → length ends ≡ length ms →
    settled_listed notes x.0.positions ends (branch_stream b x fs ms).state (rows_listed 0 (stream_notes b notes x fs ms)) ≡ branch_settled b notes ends x fs ms
listed_settles b notes ends x fs ms size same =
    rows_settle notes x.0.positions [] ends 0 (branch_stream b x fs ms).state (stream_notes b notes x fs ms) refl (same ∙ sym (stream_count b notes x fs ms)) (stream_length b x fs ms ∙ size) (stream_few b notes x fs ms)
