-- Believed: the number of copies that a graph makes of the packets that go through it.
use Rattle.std.specs.Prelude.{ℕ, ◌≤◌, List, [], ◌∷◌, ◌≡◌, if◌then◌else◌, is_some}
use Rattle.std.specs.List.{sum_by, zip}
use Rattle.packet_fields.specs.Fields.{value}
use Rattle.packet_fields.specs.declared.field.Field.{Field}
use Rattle.action_profile.specs.Modes.{copies}
use Rattle.chain_walk.specs.Packets.{Packet}
use Rattle.chain_walk.specs.declared.walk.Fate.{Fate}
use Rattle.chain_walk.specs.declared.walk.Fate.TheVariants.{Out, Gone}
use Rattle.graph_compile.specs.Positions.{stands}
use Rattle.graph_compile.specs.declared.graph.Stage.{Stage}
use Rattle.packet_version.specs.Tallies.{count_of, raised}

-- The stages that a packet with this end reaches: all if it goes out, and else those up to the one with the
-- function that dropped it.
abbrev pub reached : List Stage → Fate → List Stage
reached [] fate = []
reached (s ∷ later) (Out frame) = s ∷ reached later (Out frame)
reached (s ∷ later) (Gone p) = s ∷ (if stands p s then [] else reached later (Gone p))

-- the copies of a field that are made of one packet, which has the field
abbrev pub copies_in : List Stage → Field → ℕ
copies_in stages f = sum_by (λ s. copies s.parts f) stages

-- the copies of a field that are made of a packet with this frame and this end
abbrev pub copies_of : List Stage → List ℕ → Fate → Field → ℕ
copies_of stages frame fate f = if is_some (value f frame) then copies_in (reached stages fate) f else 0

-- the copies of a field that are made of these packets
unfoldable pub copies_made : List Stage → List Packet → List Fate → Field → ℕ
copies_made stages packets fates f = sum_by (λ x. copies_of stages x.0.frame x.1 f) (zip packets fates)

-- each count rises by these
abbrev pub RaisesAll : (Field → ℕ) → List ℕ → List ℕ → Type 0
RaisesAll by old new = (f : Field) → count_of new f ≡ raised (count_of old f) (by f)

-- each count rises by at most these
abbrev pub RaisesUpTo : (Field → ℕ) → List ℕ → List ℕ → Type 0
RaisesUpTo by old new = (f : Field) → (count_of old f ≤ count_of new f) × (count_of new f ≤ raised (count_of old f) (by f))
