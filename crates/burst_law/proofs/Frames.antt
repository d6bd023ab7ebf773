-- Packets of a capture that walk one after another, and their messages.
use Rattle.std.proofs.Common.{◌≡◌, ◌∙◌, ℕ, List, ◌∷◌, [], map, ap, refl}
use Rattle.packet_fields.specs.Writing.{fields_of}
use Rattle.chain_walk.specs.FieldWalk.{End, End.Out, End.Gone, Ended, walk_fields, walked_by, fate_by}
use Rattle.chain_walk.specs.Laws.{KeepsProfile}
use Rattle.chain_walk.specs.Packets.{Packet, fates, functions_after}
use Rattle.chain_walk.specs.Shown.{fixed_of}
use Rattle.chain_walk.specs.Step.{Behaviour}
use Rattle.chain_walk.specs.Walk.{Walked, walk}
use Rattle.chain_walk.specs.declared.fixed.Fixed.{Fixed}
use Rattle.burst_law.specs.Stations.{one_by_one}
use Rattle.burst_law.specs.Bursts.{ended, chain_burst}
use Rattle.burst_law.specs.Frames.{message_of, fate_of, fates_of}

abbrev pub WalkAsFields : Type 0 → Type 0
WalkAsFields F = (b : Behaviour F) (time position : ℕ) (functions : List F) (frame : List ℕ) → KeepsProfile b →
    ◌≡◌ {A = Walked F} (walk b time position functions frame) (walked_by frame (walk_fields b (fixed_of time frame) position functions (fields_of frame)))

fate_ended : (frame : List ℕ) (fixed : Fixed) (end : End) → fate_by frame end ≡ fate_of frame (ended fixed end)
fate_ended frame fixed (Out values) = refl
fate_ended frame fixed (Gone p) = refl

pub functions_walked : {F : Type 0} (b : Behaviour F) (fs : List F) (packets : List Packet) → WalkAsFields F → KeepsProfile b → functions_after b fs packets ≡ (chain_burst b fs (map message_of packets)).state
unfolding functions_after one_by_one
functions_walked b fs [] walks law = refl
functions_walked b fs (p ∷ packets) walks law =
    ap (λ w. functions_after b w.functions packets) (walks b p.time 1 fs p.frame law) ∙ functions_walked b (walk_fields b (fixed_of p.time p.frame) 1 fs (fields_of p.frame)).functions packets walks law

pub fates_walked : {F : Type 0} (b : Behaviour F) (fs : List F) (packets : List Packet) → WalkAsFields F → KeepsProfile b → fates b fs packets ≡ fates_of packets (chain_burst b fs (map message_of packets)).gives
unfolding fates one_by_one
fates_walked b fs [] walks law = refl
fates_walked {F} b fs (p ∷ packets) walks law =
    ap (λ w. w.fate ∷ fates b w.functions packets) (walks b p.time 1 fs p.frame law)
    ∙ (λ i. fate_ended p.frame (fixed_of p.time p.frame) w.end i ∷ fates_walked b w.functions packets walks law i)
  where
    w : Ended F
    w = walk_fields b (fixed_of p.time p.frame) 1 fs (fields_of p.frame)
