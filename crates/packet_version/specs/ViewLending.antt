-- For proofs: the bytes of a field that a view lends for writing.
use Rattle.std.specs.Prelude.{ℕ, List, option_map}
use Rattle.std.specs.Borrow.{Lends, MutBor, Fml, Array, u8}
use Rattle.packet_fields.specs.declared.field.Field.{Field}
use Rattle.packet_version.specs.Lending.{edited}
use Rattle.packet_version.specs.Versions.{with_part}
use Rattle.packet_version.specs.Views.{PlainView, seen_parts}
use Rattle.packet_version.specs.contracts.view.View.{the_row}

-- the view after its function left these bytes in a field
abbrev pub left : Field → List ℕ → PlainView → PlainView
left f new view = record view { version = with_part f (option_map (edited new view.position) (seen_parts view f)) view.version }

-- the view ends with the bytes that were left
abbrev pub LendsField : MutBor PlainView → Field → MutBor (List ℕ) → Fml
LendsField view f lent = Lends the_row (Array u8 0) view lent (λ w. left f w view.now)
