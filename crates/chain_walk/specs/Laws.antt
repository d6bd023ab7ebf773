-- For proofs: the rules that every network function obeys.
use Rattle.std.specs.Prelude.{◌≡◌, ◌≢◌, ◌≤◌, ◌+◌, true, false, ◌&&◌, if◌then◌else◌, length, drop, None, is_some, IfSome, IsSomeAnd}
use Rattle.packet_fields.specs.Frames.{is_tag_list}
use Rattle.packet_fields.specs.Fields.{IsLengthOf}
use Rattle.packet_fields.specs.declared.field.Field.{Field}
use Rattle.packet_fields.specs.declared.field.Field.TheVariants.{Tag}
use Rattle.action_profile.specs.Profiles.{writes_of}
use Rattle.chain_walk.specs.Shown.{Values}
use Rattle.chain_walk.specs.Step.{Behaviour, stepped, is_drop}
use Rattle.chain_walk.specs.declared.fixed.Fixed.{Fixed}

-- A step does what the function's profile says, and no more.
pub record KeepsProfile {F : Type 0} (b : Behaviour F) : Type 0 where
  -- the profile stays
  pub stays : (fixed : Fixed) (f : F) (v : Values) → b.profile (stepped b fixed f v).after ≡ b.profile f
  -- only a field that the profile writes and that is present is written
  pub writes : (fixed : Fixed) (f : F) (v : Values) (x : Field) → (writes_of (b.profile f) x && is_some (v x)) ≡ false → (stepped b fixed f v).written x ≡ None
  -- only a profile that drops lets a packet be dropped
  pub drops : (fixed : Fixed) (f : F) (v : Values) → (b.profile f).drops ≡ false → is_drop (stepped b fixed f v).verdict ≡ false
  -- only a function that keeps a state, or counts, changes
  pub state : (fixed : Fixed) (f : F) (v : Values) → (b.profile f).state ≡ false → (b.profile f).counts ≡ false → (stepped b fixed f v).after ≡ f
  -- a field keeps its length, except the tags
  pub lengths : (fixed : Fixed) (f : F) (v : Values) (x : Field) → x ≢ Tag → IfSome (v x) (λ old. IsLengthOf x (length old)) →
      IfSome ((stepped b fixed f v).written x) (λ new. IsSomeAnd (v x) (λ old. length new ≡ length old))
  -- the tags are whole, and at most one more if the profile adds one
  pub tags : (fixed : Fixed) (f : F) (v : Values) → IfSome (v Tag) (λ old. is_tag_list old ≡ true) →
      IfSome ((stepped b fixed f v).written Tag) (λ new. (is_tag_list new ≡ true) × IsSomeAnd (v Tag) (λ old. length new ≤ length old + (if (b.profile f).adds then 4 else 0)))
  -- if the profile adds one, a tag comes before the others, which stay
  pub adds : (fixed : Fixed) (f : F) (v : Values) → (b.profile f).adds ≡ true →
      IfSome ((stepped b fixed f v).written Tag) (λ new. IsSomeAnd (v Tag) (λ old. (length new ≡ length old + 4) × (drop 4 new ≡ old)))
  -- if it removes one, the first tag goes, and the others stay
  pub removes : (fixed : Fixed) (f : F) (v : Values) → (b.profile f).removes ≡ true →
      IfSome ((stepped b fixed f v).written Tag) (λ new. IsSomeAnd (v Tag) (λ old. new ≡ drop 4 old))
