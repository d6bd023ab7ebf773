-- Believed: frames in which a field is written.
use Rattle.std.specs.Prelude.{◌≡◌, ℕ, List, [], ◌∷◌, ◌++◌, length, take, replicate, true, Option, Some, None, option_map, IsSome, IsSomeAnd, IfSome}
use Rattle.std.specs.Option.{option_or}
use Rattle.packet_fields.specs.Frames.{packet, is_tag_list}
use Rattle.packet_fields.specs.Fields.{span, value}
pub use Rattle.packet_fields.specs.Fields.{overwritten}
use Rattle.packet_fields.specs.declared.field.Field.{Field}
use Rattle.packet_fields.specs.declared.field.Field.TheVariants.{LinkDst, LinkSrc, Tag, Tos, Ttl, SrcIp, DstIp, SrcPort, DstPort, Payload}
use Rattle.packet_fields.specs.declared.plan.Span.{Span}

-- the frame with these tags in place of its own
abbrev pub with_tags : List ℕ → List ℕ → List ℕ
with_tags tags frame = take 12 frame ++ (tags ++ packet frame)

-- the same from the place of a span, if there is one
abbrev pub put_at : Option Span → List ℕ → List ℕ → List ℕ
put_at None new frame = frame
put_at (Some s) new frame = overwritten s.at new frame

-- the frame with these bytes in a field's place
abbrev pub put : Field → List ℕ → List ℕ → List ℕ
put Tag new frame = with_tags new frame
put f new frame = put_at (span f frame) new frame

-- a value fits a field's place: for the tags a list of whole tags, and else as many bytes as the field has
abbrev pub Fits : Field → List ℕ → List ℕ → Type 0
Fits Tag new frame = IsSome (value Tag frame) × (is_tag_list new ≡ true)
Fits f new frame = IsSomeAnd (value f frame) (λ old. length new ≡ length old)

-- all fields, in their order
abbrev pub all_fields : List Field
all_fields = LinkDst ∷ LinkSrc ∷ Tag ∷ Tos ∷ Ttl ∷ SrcIp ∷ DstIp ∷ SrcPort ∷ DstPort ∷ Payload ∷ []

-- the frame with this value of a field, if there is one
abbrev pub put_some : Field → Option (List ℕ) → List ℕ → List ℕ
put_some f None frame = frame
put_some f (Some new) frame = put f new frame

-- the frame in which some fields are written one after another
unfoldable pub written_in : List Field → (Field → Option (List ℕ)) → List ℕ → List ℕ
written_in [] values frame = frame
written_in (f ∷ fs) values frame = written_in fs values (put_some f (values f) frame)

-- the frame in which every field that has a value is written
abbrev pub written : (Field → Option (List ℕ)) → List ℕ → List ℕ
written values frame = written_in all_fields values frame

-- each value fits its field's place
abbrev pub AllFit : (Field → Option (List ℕ)) → List ℕ → Type 0
AllFit values frame = (f : Field) → IfSome (values f) (λ new. Fits f new frame)

-- the fields of a frame, as far as they are present
abbrev pub fields_of : List ℕ → Field → Option (List ℕ)
fields_of frame f = value f frame

-- the new values, and the old ones if there is no new one
abbrev pub over : (Field → Option (List ℕ)) → (Field → Option (List ℕ)) → Field → Option (List ℕ)
over new old f = option_or (new f) (old f)

-- nothing for the tags, and zeros for every other field
abbrev pub blank : Field → List ℕ → List ℕ
blank Tag bytes = []
blank f bytes = replicate (length bytes) 0

-- what is left of a frame without its fields: no tags, and zeros in the place of every other field
abbrev pub rest_of : List ℕ → List ℕ
rest_of frame = written (λ f. option_map (blank f) (value f frame)) frame
