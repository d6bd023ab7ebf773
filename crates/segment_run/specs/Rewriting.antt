-- For proofs: what becomes of a frame at an end of a tunnel, and at a function that is no end.
use Rattle.std.specs.Prelude.{ℕ, List, [], ◌∷◌, Option, Some, None}
use Rattle.chain_walk.specs.Packets.{Packet}
use Rattle.chain_walk.specs.declared.walk.Fate.{Fate}
use Rattle.chain_walk.specs.declared.walk.Fate.TheVariants.{Gone, Out}
use Rattle.nf_tunnel.specs.Tunnels.{encapsulated, decapsulated}
use Rattle.segment_run.specs.declared.ends.End.{End}
use Rattle.segment_run.specs.declared.ends.End.TheVariants.{Entry, Exit, Open}

-- the frame after an end
abbrev pub rewritten : End → List ℕ → List ℕ
rewritten (Entry tunnel) frame = encapsulated tunnel frame
rewritten (Exit tunnel) frame = decapsulated tunnel frame
rewritten Open frame = frame

-- a packet goes out with its frame rewritten
abbrev pub out_of : (List ℕ → List ℕ) → Packet → Fate
out_of by p = Out (by p.frame)

-- the same for a packet with a known fate, if it wasn't dropped
abbrev pub out_by : (List ℕ → List ℕ) → Fate → Fate
out_by by (Out frame) = Out (by frame)
out_by by (Gone position) = Gone position

-- a fate whose frame is unknown
abbrev pub without_frame : Fate → Fate
without_frame (Out frame) = Out []
without_frame (Gone position) = Gone position

-- a fate that is put before others; if there is none, nothing more comes
abbrev pub then_put : Option Fate → List Fate → List Fate
then_put None fates = []
then_put (Some fate) fates = fate ∷ fates
