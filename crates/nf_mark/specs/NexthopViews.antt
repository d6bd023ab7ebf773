-- For proofs: a view of a packet that has both link addresses.
use Rattle.std.specs.Prelude.{◌≡◌, length}
use Rattle.packet_fields.specs.declared.field.Field.TheVariants.{LinkDst, LinkSrc}
use Rattle.packet_version.specs.Views.{PlainView, HasBytes}

pub record HasLinks (view : PlainView) : Type 0 where
  pub to : HasBytes view LinkDst (λ bytes. length bytes ≡ 6)
  pub from : HasBytes view LinkSrc (λ bytes. length bytes ≡ 6)
