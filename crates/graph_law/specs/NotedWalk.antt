-- For proofs: the notes that are made about packets on their way through a chain.
use Rattle.std.specs.Prelude.{List, [], ◌∷◌, if◌then◌else◌, Option, None, map}
use Rattle.packet_fields.specs.Writing.{over, fields_of}
use Rattle.chain_walk.specs.Shown.{Values, fixed_of}
use Rattle.chain_walk.specs.Step.{Behaviour, stepped, is_drop}
use Rattle.chain_walk.specs.Walk.{walk}
use Rattle.chain_walk.specs.Packets.{Packet}
use Rattle.chain_walk.specs.Notes.{Notes, noted, settled}
use Rattle.chain_walk.specs.declared.fixed.Fixed.{Fixed}

-- What each function of a chain notes about a packet, in chain order: after a function drops it, no function notes it.
unfoldable pub walk_notes : {F N : Type 0} → Behaviour F → Notes F N → Fixed → List F → Values → List (Option N)
walk_notes b notes fixed [] values = []
walk_notes b notes fixed (f ∷ later) values =
    noted b notes fixed f values ∷
    (if is_drop (stepped b fixed f values).verdict
    then map (λ g. None) later
    else walk_notes b notes fixed later (over (stepped b fixed f values).written values))

-- the functions of a chain after their notes about a packet are settled
unfoldable pub settled_all : {F N : Type 0} → Notes F N → List F → List (Option N) → List F
settled_all notes [] made = []
settled_all notes (f ∷ fs) [] = f ∷ fs
settled_all notes (f ∷ fs) (note ∷ made) = settled notes f note ∷ settled_all notes fs made

-- the notes of each packet, one packet after another
unfoldable pub packet_notes : {F N : Type 0} → Behaviour F → Notes F N → List F → List Packet → List (List (Option N))
packet_notes b notes fs [] = []
packet_notes b notes fs (p ∷ ps) =
    walk_notes b notes (fixed_of p.time p.frame) fs (fields_of p.frame) ∷
    packet_notes b notes (walk b p.time 1 fs p.frame).functions ps

-- the functions of a chain after all these notes are settled, packet after packet
unfoldable pub settled_in_turn : {F N : Type 0} → Notes F N → List F → List (List (Option N)) → List F
settled_in_turn notes fs [] = fs
settled_in_turn notes fs (made ∷ later) = settled_in_turn notes (settled_all notes fs made) later
