-- For proofs: counts of copies that rise in one field.
use Rattle.std.specs.Prelude.{ℕ, List, if◌then◌else◌, ◌≡◌, ◌≤◌}
use Rattle.packet_fields.specs.declared.field.Field.{Field}
use Rattle.packet_version.specs.Parts.{is_field}
use Rattle.packet_version.specs.Tallies.{count_of, raised}

-- the count of one field rises by this much, and the others stay
abbrev pub RaisesBy : ℕ → Field → List ℕ → List ℕ → Type 0
RaisesBy by f old new = (g : Field) → count_of new g ≡ raised (count_of old g) (if is_field f g then by else 0)

-- the count of one field rises by at most this much, and the others stay
abbrev pub RaisesAtMost : ℕ → Field → List ℕ → List ℕ → Type 0
RaisesAtMost most f old new = (g : Field) → (count_of old g ≤ count_of new g) × (count_of new g ≤ raised (count_of old g) (if is_field f g then most else 0))
