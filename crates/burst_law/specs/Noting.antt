-- For proofs: the notes of a burst: each branch lists its functions' notes, and settles them when all fates are known.
use Rattle.std.specs.Prelude.{ℕ, ◌+◌, nat_lt, List, [], ◌∷◌, ◌++◌, Bool, false, if◌then◌else◌, map, zip, set, slice_get, slice_index_or, Option, Some, None}
use Rattle.action_profile.specs.declared.parts.Touch.{Touch}
use Rattle.chain_walk.specs.Notes.{Notes}
use Rattle.chain_walk.specs.Step.{Behaviour}
use Rattle.chain_walk.specs.declared.fixed.Fixed.{Fixed}
use Rattle.graph_compile.specs.declared.graph.Branch.{Branch}
use Rattle.graph_compile.specs.declared.graph.Stage.{Stage}
use Rattle.graph_law.specs.Branches.{BranchEnd, moved_end, dealt}
use Rattle.graph_law.specs.BranchNotes.{noted_of, kept}
use Rattle.graph_law.specs.NotedWalk.{settled_in_turn}
use Rattle.burst_law.specs.Bursts.{Message, Message.Here, Message.Lost, branch_turn, branch_stream, stage_burst}

-- what the functions of a branch, which have these positions, note about what arrives, one after another
unfoldable pub turned_notes : {F N : Type 0} → Behaviour F → Notes F N → Fixed → List ℕ → List F → BranchEnd → List (Option N)
turned_notes b notes fixed [] fs a = []
turned_notes b notes fixed (q ∷ qs) [] a = []
turned_notes b notes fixed (q ∷ qs) (f ∷ fs) a = noted_of b notes fixed f a ∷ turned_notes b notes fixed qs fs (moved_end b fixed q f a)

-- for a packet; a dropped packet isn't noted
abbrev pub branch_notes : {F N : Type 0} → Behaviour F → Notes F N → Branch × Touch → List F → Message → List (Option N)
branch_notes b notes x fs (Here fixed values) = turned_notes b notes fixed x.0.positions fs (dealt x.1 values)
branch_notes b notes x fs (Lost p) = map (λ q. None) x.0.positions

-- for all packets, in their order
unfoldable pub stream_notes : {F N : Type 0} → Behaviour F → Notes F N → Branch × Touch → List F → List Message → List (List (Option N))
stream_notes b notes x fs [] = []
stream_notes b notes x fs (m ∷ ms) = branch_notes b notes x fs m ∷ stream_notes b notes x (branch_turn b x fs m).state ms

-- a packet that ended so was dropped before this position
abbrev pub lost_before : Message → ℕ → Bool
lost_before (Here fixed values) q = false
lost_before (Lost p) q = nat_lt p q

-- of these notes, those that are settled, by where the packets end
unfoldable pub kept_stream : {N : Type 0} → List ℕ → List Message → List (List (Option N)) → List (List (Option N))
kept_stream positions [] rows = []
kept_stream positions (end ∷ ends) [] = []
kept_stream positions (end ∷ ends) (row ∷ rows) = kept (lost_before end) positions row ∷ kept_stream positions ends rows

-- the functions of a branch after a burst, when their notes are settled
abbrev pub branch_settled : {F N : Type 0} → Behaviour F → Notes F N → List Message → Branch × Touch → List F → List Message → List F
branch_settled b notes ends x fs ms = settled_in_turn notes (branch_stream b x fs ms).state (kept_stream x.0.positions ends (stream_notes b notes x fs ms))

-- those of each branch of a stage
unfoldable pub stage_settled : {F N : Type 0} → Behaviour F → Notes F N → List Message → List (Branch × Touch) → List (List F) → List Message → List (List F)
stage_settled b notes ends [] own ms = own
stage_settled b notes ends (x ∷ posts) [] ms = []
stage_settled b notes ends (x ∷ posts) (fs ∷ own) ms = branch_settled b notes ends x fs ms ∷ stage_settled b notes ends posts own ms

-- stage by stage
unfoldable pub graph_settled : {F N : Type 0} → Behaviour F → Notes F N → List Message → List Stage → List (List (List F)) → List Message → List (List (List F))
graph_settled b notes ends [] own ms = own
graph_settled b notes ends (s ∷ stages) [] ms = []
graph_settled b notes ends (s ∷ stages) (o ∷ own) ms =
    stage_settled b notes ends (zip s.branches s.parts.touches) o ms ∷ graph_settled b notes ends stages own (stage_burst b s o ms).gives

-- A note in a branch's list: the burst's packet and the branch's function, both counted from 0, and what it noted.
pub record OwnNote (N : Type 0) : Type 0 where
  pub packet : ℕ
  pub index : ℕ
  pub note : N

-- the notes of one packet, from the function with this number on
unfoldable pub row_listed : {N : Type 0} → ℕ → ℕ → List (Option N) → List (OwnNote N)
row_listed packet index [] = []
row_listed packet index (None ∷ row) = row_listed packet (index + 1) row
row_listed packet index (Some n ∷ row) = record { packet = packet; index = index; note = n } ∷ row_listed packet (index + 1) row

-- for the packets from this one on
unfoldable pub rows_listed : {N : Type 0} → ℕ → List (List (Option N)) → List (OwnNote N)
rows_listed packet [] = []
rows_listed packet (row ∷ rows) = row_listed packet 0 row ++ rows_listed (packet + 1) rows

-- a function among those of its branch, if it is there, settles a note
unfoldable pub settled_at : {F N : Type 0} → Notes F N → OwnNote N → Option F → List F → List F
settled_at notes o None fs = fs
settled_at notes o (Some f) fs = set fs o.index (notes.settle f o.note)

-- a note is skipped if its packet was dropped before the function's position, and else settled
abbrev pub settled_one : {F N : Type 0} → Notes F N → List ℕ → List Message → List F → OwnNote N → List F
settled_one notes positions ends fs o =
    if lost_before (slice_index_or ends o.packet (Lost 0)) (slice_index_or positions o.index 0) then fs else settled_at notes o (slice_get fs o.index) fs

-- the functions of a branch, at these positions, after all that it listed is settled, by where the packets end
unfoldable pub settled_listed : {F N : Type 0} → Notes F N → List ℕ → List Message → List F → List (OwnNote N) → List F
settled_listed notes positions ends fs [] = fs
settled_listed notes positions ends fs (o ∷ listed) = settled_listed notes positions ends (settled_one notes positions ends fs o) listed
