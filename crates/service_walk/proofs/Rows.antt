-- Worked values, computed by the definitions.
use Rattle.std.proofs.Common.{◌≡◌, ◌+◌, ◌==◌, ℕ, if◌then◌else◌, List, [], ◌∷◌, map, Option, Some, None, refl}
use Rattle.packet_fields.specs.Checksums.{has_same_places}
use Rattle.packet_fields.specs.Packets.{is_ipv4, is_ipv6}
use Rattle.packet_fields.specs.Writing.{written_in}
use Rattle.action_profile.specs.Profiles.{profile_of}
use Rattle.action_profile.specs.declared.kind.Kind.TheVariants.{Limiter}
use Rattle.chain_walk.specs.Shown.{Shown}
use Rattle.chain_walk.specs.Step.{Step, Behaviour, nothing}
use Rattle.chain_walk.specs.Walk.{walk}
use Rattle.piece_walk.specs.Pieces.{Piece, Graph, long}
use Rattle.chain_walk.specs.Packets.{Packet}
use Rattle.piece_walk.specs.PiecePackets.{long_fates}
use Rattle.chain_walk.specs.declared.verdict.Verdict.TheVariants.{Pass, Drop}
use Rattle.chain_walk.specs.declared.walk.Fate.{Fate}
use Rattle.chain_walk.specs.declared.walk.Fate.TheVariants.{Out, Gone}
use Rattle.service_walk.specs.Service.{Classed, fates_among, chains_after, packets_in, fates_in}
use Rattle.service_walk.specs.Weaving.{each_fates, woven, fates_seen}

-- a function that counts the packets that it sees, and drops the second
abbrev counted : ℕ → Shown → Step ℕ
counted seen shown = record { after = seen + 1; verdict = if seen == 1 then Drop else Pass; written = nothing }

abbrev counting : Behaviour ℕ
counting = record { profile = λ seen. profile_of Limiter; step = counted }

-- a packet with a frame of one byte
abbrev packet : ℕ → Packet
packet byte = record { time = 0; frame = byte ∷ [] }

abbrev taken_by : Option ℕ → ℕ → Classed
taken_by class byte = record { class = class; packet = packet byte }

-- functions that run in a graph
abbrev in_a_graph : List ℕ → List (Piece ℕ)
in_a_graph functions = Graph [] functions ∷ []

-- a chain of one function and a chain of two, and four packets: for the second, for none, for the first, for the second
abbrev chains : List (List (Piece ℕ))
chains = in_a_graph (0 ∷ []) ∷ in_a_graph (0 ∷ 0 ∷ []) ∷ []

abbrev packets : List Classed
packets = taken_by (Some 1) 10 ∷ taken_by None 11 ∷ taken_by (Some 0) 12 ∷ taken_by (Some 1) 13 ∷ []

abbrev ended : List Fate
ended = Out (10 ∷ []) ∷ Out (11 ∷ []) ∷ Out (12 ∷ []) ∷ Gone 1 ∷ []

abbrev ended_apart : List (List Fate)
ended_apart = (Out (12 ∷ []) ∷ []) ∷ (Out (10 ∷ []) ∷ Gone 1 ∷ []) ∷ []

-- the second chain's first function drops its second packet, and the function after it never sees it
fates_row : fates_among counting chains packets ≡ ended
unfolding fates_among long walk written_in has_same_places is_ipv4 is_ipv6
fates_row = refl

chains_row : chains_after counting chains packets ≡ in_a_graph (1 ∷ []) ∷ in_a_graph (2 ∷ 1 ∷ []) ∷ []
unfolding chains_after long walk written_in
chains_row = refl

packets_row : packets_in 1 packets ≡ packet 10 ∷ packet 13 ∷ []
packets_row = refl

fates_in_row : fates_in 1 packets ended ≡ Out (10 ∷ []) ∷ Gone 1 ∷ []
fates_in_row = refl

each_row : each_fates counting packets 0 chains ≡ ended_apart
unfolding each_fates long_fates long walk written_in has_same_places is_ipv4 is_ipv6
each_row = refl

woven_row : woven (Some 1 ∷ None ∷ Some 0 ∷ Some 1 ∷ []) ended_apart ≡ Some (Out (10 ∷ [])) ∷ None ∷ Some (Out (12 ∷ [])) ∷ Some (Gone 1) ∷ []
unfolding woven
woven_row = refl

seen_row : fates_seen packets (woven (map (λ (x : Classed). x.class) packets) ended_apart) ≡ ended
unfolding fates_seen woven
seen_row = refl

-- a chain that has no more fates gives none
no_more_row : woven (Some 0 ∷ Some 0 ∷ []) ((Gone 1 ∷ []) ∷ []) ≡ Some (Gone 1) ∷ None ∷ []
unfolding woven
no_more_row = refl
