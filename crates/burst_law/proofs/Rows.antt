-- Worked rows, computed by the definitions.
use Rattle.std.proofs.Common.{◌≡◌, ◌+◌, ℕ, List, [], ◌∷◌, refl, Some, None}
use Rattle.std.specs.Prelude.{◌==◌, if◌then◌else◌, map, nat_le, Option}
use Rattle.packet_fields.specs.Fields.{number_of}
use Rattle.packet_fields.specs.Writing.{written_in}
use Rattle.packet_fields.specs.declared.field.Field.TheVariants.{Tos, Ttl}
use Rattle.action_profile.specs.Modes.{mode_of, modes_of, copies}
use Rattle.action_profile.specs.Profiles.{profile_of}
use Rattle.action_profile.specs.declared.kind.Kind.TheVariants.{Limiter}
use Rattle.chain_walk.specs.FieldWalk.{walk_fields}
use Rattle.chain_walk.specs.Shown.{Shown, Values}
use Rattle.chain_walk.specs.Step.{Step, Behaviour}
use Rattle.chain_walk.specs.declared.fixed.Fixed.{Fixed}
use Rattle.chain_walk.specs.declared.verdict.Verdict.TheVariants.{Pass, Drop}
use Rattle.chain_walk.specs.declared.walk.Fate.TheVariants.{Out, Gone}
use Rattle.graph_compile.specs.declared.graph.Stage.{Stage}
use Rattle.graph_law.specs.Branches.{moved_function, moved_end}
use Rattle.graph_law.specs.Merging.{least_nil, latest, gone_or, merged}
use Rattle.burst_law.specs.Stations.{one_by_one, along, beside, across, weight_along}
use Rattle.burst_law.specs.Owned.{owned, owned_by, turned}
use Rattle.burst_law.specs.Bursts.{Message, Message.Here, Message.Lost, stage_burst, graph_burst, chain_burst}
use Rattle.burst_law.specs.Copies.{graph_copies, chain_copies}
use Rattle.burst_law.specs.Frames.{fates_of}

-- the fixed values don't matter
abbrev fixed : Fixed
fixed = record { time = 7; ether_type = Some 0x0800; proto = Some 17; ip_len = Some 28; tcp_flags = None }

-- a packet that has a type of service alone, or none
abbrev only_tos : Option (List ℕ) → Values
only_tos tos f = if number_of f == number_of Tos then tos else None

abbrev packet : List ℕ → Message
packet tos = Here fixed (only_tos (Some tos))

-- functions that count their packets: from 0 on one that does nothing else, from 100 on one that drops its second
-- packet, and from 200 on one that writes its count as type of service
abbrev counted : ℕ → Shown → Step ℕ
counted count shown = record {
  after = count + 1;
  verdict = if count == 101 then Drop else Pass;
  written = only_tos (if nat_le 200 count then Some (count ∷ []) else None);
}

abbrev counting : Behaviour ℕ
counting = record { profile = λ count. profile_of Limiter; step = counted }

-- two branches, of which the first reads the type of service and the second writes it
abbrev stage_of : List ℕ → List ℕ → Stage
stage_of first second = record {
  branches = record { positions = first } ∷ record { positions = second } ∷ [];
  parts = record {
    modes = modes_of (record { reads = record { 0 = 8 }; writes = record { 0 = 0 } } ∷ record { reads = record { 0 = 0 }; writes = record { 0 = 8 } } ∷ []);
    touches = record { reads = record { 0 = 8 }; writes = record { 0 = 0 } } ∷ record { reads = record { 0 = 0 }; writes = record { 0 = 8 } } ∷ [];
  };
}

abbrev stages : List Stage
stages = stage_of (1 ∷ []) (2 ∷ 3 ∷ []) ∷ stage_of (4 ∷ []) (5 ∷ []) ∷ []

abbrev functions : List ℕ
functions = 0 ∷ 100 ∷ 200 ∷ 0 ∷ 250 ∷ []

-- two packets, and one that an earlier chain dropped
abbrev packets : List Message
packets = packet (7 ∷ []) ∷ packet (8 ∷ []) ∷ Lost 9 ∷ []

-- the position that dropped a packet, or else its type of service
abbrev told : Message → ℕ × Option (List ℕ)
told (Here _ values) = (0, values Tos)
told (Lost position) = (position, None)

owned_row : owned {F = ℕ} (3 ∷ 1 ∷ []) (10 ∷ 20 ∷ 30 ∷ []) ≡ 30 ∷ 10 ∷ []
owned_row = refl

split_row : owned_by stages functions ≡ ((0 ∷ []) ∷ (100 ∷ 200 ∷ []) ∷ []) ∷ ((0 ∷ []) ∷ (250 ∷ []) ∷ []) ∷ []
split_row = refl

-- a list that is too short has nothing at a later place
across_row : across {Y = ℕ} 1 ((5 ∷ 6 ∷ []) ∷ (7 ∷ []) ∷ (8 ∷ 9 ∷ []) ∷ []) ≡ 6 ∷ 9 ∷ []
across_row = refl

-- the first branch sees both packets; the second drops the second packet at its first function, and its other function
-- never sees it; the stage after sees the first packet alone
states_row : (graph_burst counting stages (owned_by stages functions) packets).state ≡ ((2 ∷ []) ∷ (102 ∷ 201 ∷ []) ∷ []) ∷ ((1 ∷ []) ∷ (251 ∷ []) ∷ []) ∷ []
unfolding one_by_one along beside stage_burst turned moved_function moved_end merged least_nil latest gone_or
states_row = refl

-- each packet has what was written last of it
ends_row : map told (graph_burst counting stages (owned_by stages functions) packets).gives ≡ (0, Some (250 ∷ [])) ∷ (2, None) ∷ (9, None) ∷ []
unfolding one_by_one along beside stage_burst turned moved_function moved_end merged least_nil latest gone_or
ends_row = refl

-- after the first stage alone
stage_row : map told (stage_burst counting (stage_of (1 ∷ []) (2 ∷ 3 ∷ [])) ((0 ∷ []) ∷ (100 ∷ 200 ∷ []) ∷ []) packets).gives ≡ (0, Some (200 ∷ [])) ∷ (2, None) ∷ (9, None) ∷ []
unfolding one_by_one beside stage_burst turned moved_function moved_end merged least_nil latest gone_or
stage_row = refl

-- the walks
walks_row : (chain_burst counting functions packets).state ≡ 2 ∷ 102 ∷ 201 ∷ 1 ∷ 251 ∷ []
unfolding one_by_one walk_fields
walks_row = refl

walked_row : map told (chain_burst counting functions packets).gives ≡ (0, Some (250 ∷ [])) ∷ (2, None) ∷ (9, None) ∷ []
unfolding one_by_one walk_fields
walked_row = refl

-- each stage copies the type of service once: for both packets in the first, and for the remaining one in the second
copies_row : graph_copies counting stages Tos (owned_by stages functions) packets ≡ 3
unfolding one_by_one along beside weight_along stage_burst turned moved_function moved_end merged least_nil latest gone_or copies mode_of
copies_row = refl

walked_copies_row : chain_copies counting stages Tos functions packets ≡ 3
unfolding one_by_one walk_fields copies mode_of
walked_copies_row = refl

-- no packet has a time to live
no_copies_row : graph_copies counting stages Ttl (owned_by stages functions) packets ≡ 0
unfolding one_by_one along beside weight_along stage_burst turned moved_function moved_end merged least_nil latest gone_or copies mode_of
no_copies_row = refl

-- a packet that goes out has its own frame, with what was written to it; here nothing was
fates_row : fates_of (record { time = 0; frame = 10 ∷ [] } ∷ record { time = 1; frame = 11 ∷ [] } ∷ []) (Here fixed (only_tos None) ∷ Lost 3 ∷ []) ≡ Out (10 ∷ []) ∷ Gone 3 ∷ []
unfolding written_in
fates_row = refl
