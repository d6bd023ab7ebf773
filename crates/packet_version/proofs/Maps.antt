-- Lists of ten parts, read as maps.
use Rattle.std.proofs.Common.{◌≡◌, ◌∙◌, ◌<◌, ◌≤◌, ◌+◌, ℕ, List, [], ◌∷◌, ◌++◌, map, take, ap, refl, get_or, length, drop, drop-cons, add-one, arith}
use Rattle.std.proofs.lemmas.List.{take_more, take_all, map-append}
use mathlib.Core.Path.{fun_ext}
use Rattle.std.specs.Prelude.{Option, None}
use Rattle.packet_fields.specs.Fields.{number_of}
use Rattle.packet_fields.specs.Writing.{all_fields}
use Rattle.packet_fields.specs.declared.field.Field.{Field}
use Rattle.packet_fields.specs.declared.field.Field.TheVariants.{LinkDst, LinkSrc, Tag, Tos, Ttl, SrcIp, DstIp, SrcPort, DstPort, Payload}
use Rattle.packet_version.specs.Parts.{PlainPart, Parts, as_map, as_list}

-- a list made field by field, read at a field's place
pub listed_at : {A : Type 0} (g : Field → A) (d : A) (f : Field) → get_or (map g all_fields) (number_of f) d ≡ g f
listed_at g d LinkDst = refl
listed_at g d LinkSrc = refl
listed_at g d Tag = refl
listed_at g d Tos = refl
listed_at g d Ttl = refl
listed_at g d SrcIp = refl
listed_at g d DstIp = refl
listed_at g d SrcPort = refl
listed_at g d DstPort = refl
listed_at g d Payload = refl

-- a list made field by field is the map that it was made from
pub as_map-listed : (g : Parts) → as_map (map g all_fields) ≡ g
as_map-listed g = fun_ext (λ f. listed_at g None f)

-- the field at an index, and those after it
pub left_at : (fields : List Field) (i : ℕ) → i < length fields → drop i fields ≡ get_or fields i LinkDst ∷ drop (i + 1) fields
left_at fields i below = rw (add-one, drop-cons fields i LinkDst) refl

-- a list of ten is the list of its map
pub as_list-again : (parts : List (Option PlainPart)) → length parts ≡ 10 → as_list (as_map parts) ≡ parts
as_list-again (a ∷ b ∷ c ∷ d ∷ e ∷ f ∷ g ∷ h ∷ i ∷ j ∷ []) len = refl
as_list-again parts len = absurd (omega arith)

-- a list made field by field grows by one
pub mapped_more : {A : Type 0} (g : Field → A) (fields : List Field) (i : ℕ) → i < length fields → map g (take (i + 1) fields) ≡ map g (take i fields) ++ g (get_or fields i LinkDst) ∷ []
mapped_more g fields i below = ap (λ (fs : List Field). map g fs) (take_more fields i LinkDst below) ∙ map-append g (take i fields) (get_or fields i LinkDst ∷ [])

-- and is whole at the end
pub mapped_over : {A : Type 0} (g : Field → A) (fields : List Field) (i : ℕ) (made : List A) → fields ≡ all_fields → length fields ≤ i → made ≡ map g (take i fields) → made ≡ map g all_fields
mapped_over g fields i made is past same = same ∙ (ap (λ (fs : List Field). map g fs) (take_all i fields past) ∙ ap (λ (fs : List Field). map g fs) is)
