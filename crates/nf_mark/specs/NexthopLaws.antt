-- For proofs: a nexthop does what its profile says, and no more.
use Rattle.std.specs.Prelude.{◌≡◌, ℕ, List, length, Bool, true, false, ◌&&◌, if◌then◌else◌, Option, Some, None, is_some, IfSome, IsSomeAnd, refl}
use Rattle.std.proofs.Common.{◌∙◌, sym, true≢false}
use Rattle.packet_fields.specs.Fields.{IsLengthOf}
use Rattle.packet_fields.specs.declared.field.Field.{Field}
use Rattle.packet_fields.specs.declared.field.Field.TheVariants.{LinkDst, LinkSrc, Tag, Tos, Ttl, SrcIp, DstIp, SrcPort, DstPort, Payload}
use Rattle.action_profile.specs.Profiles.{profile_of, writes_of}
use Rattle.action_profile.specs.declared.kind.Kind.TheVariants as kinds
use Rattle.chain_walk.specs.Shown.{Values}
use Rattle.chain_walk.specs.Laws.{KeepsProfile}
use Rattle.nf_mark.specs.declared.nexthop.NexthopRule.{NexthopRule}
use Rattle.packet_function.specs.Deciding.{DecidesDrops}
use Rattle.nf_mark.specs.Nexthops.{links_by, nexthop_behaviour, nexthop_decides}

abbrev is_link : Field → Bool
is_link LinkDst = true
is_link LinkSrc = true
is_link x = false

-- nothing but the link addresses is written
others : (rule : Option NexthopRule) (x : Field) → is_link x ≡ false → links_by rule x ≡ None
others None x h = refl
others (Some rule) LinkDst h = absurd (true≢false h)
others (Some rule) LinkSrc h = absurd (true≢false h)
others (Some rule) Tag h = refl
others (Some rule) Tos h = refl
others (Some rule) Ttl h = refl
others (Some rule) SrcIp h = refl
others (Some rule) DstIp h = refl
others (Some rule) SrcPort h = refl
others (Some rule) DstPort h = refl
others (Some rule) Payload h = refl

-- which have six bytes
to_length : (rule : Option NexthopRule) → IfSome (links_by rule LinkDst) (λ new. length new ≡ 6)
to_length None = tt
to_length (Some rule) = refl

from_length : (rule : Option NexthopRule) → IfSome (links_by rule LinkSrc) (λ new. length new ≡ 6)
from_length None = tt
from_length (Some rule) = refl

-- the rule is followed if both are present
abbrev followed : Option (List ℕ) → Option (List ℕ) → Option NexthopRule → Option NexthopRule
followed to from rule = if is_some to && is_some from then rule else None

-- if one is absent, nothing is written
unwritten : (to from : Option (List ℕ)) (rule : Option NexthopRule) (x : Field) → (is_some to ≡ true → is_some from ≡ true → ⊥) → links_by (followed to from rule) x ≡ None
unwritten None from rule x never = refl
unwritten (Some old) None rule x never = refl
unwritten (Some old) (Some other) rule x never = absurd (never refl refl)

-- a value that is written where one was, and has the field's length
same_length : (old new : Option (List ℕ)) (len : ℕ) → (is_some old ≡ false → new ≡ None) → IfSome old (λ o. length o ≡ len) → IfSome new (λ w. length w ≡ len) → IfSome new (λ w. IsSomeAnd old (λ o. length w ≡ length o))
same_length old None len absent was is = tt
same_length None (Some w) len absent was is = absurd (let e : Some w ≡ None = absent refl in cc)
same_length (Some o) (Some w) len absent was is = is ∙ sym was

no_length : (old new : Option (List ℕ)) → new ≡ None → IfSome new (λ w. IsSomeAnd old (λ o. length w ≡ length o))
no_length old None is = tt
no_length old (Some w) is = absurd cc

module _ (v : Values) (rule : Option NexthopRule) where
  abbrev done : Option NexthopRule
  done = followed (v LinkDst) (v LinkSrc) rule

  writes : (x : Field) → (writes_of (profile_of kinds.Nexthop) x && is_some (v x)) ≡ false → links_by done x ≡ None
  writes LinkDst h = unwritten (v LinkDst) (v LinkSrc) rule LinkDst (λ to from. true≢false (sym to ∙ h))
  writes LinkSrc h = unwritten (v LinkDst) (v LinkSrc) rule LinkSrc (λ to from. true≢false (sym from ∙ h))
  writes Tag h = others done Tag refl
  writes Tos h = others done Tos refl
  writes Ttl h = others done Ttl refl
  writes SrcIp h = others done SrcIp refl
  writes DstIp h = others done DstIp refl
  writes SrcPort h = others done SrcPort refl
  writes DstPort h = others done DstPort refl
  writes Payload h = others done Payload refl

  other_length : (x : Field) → is_link x ≡ false → IfSome (links_by done x) (λ new. IsSomeAnd (v x) (λ old. length new ≡ length old))
  other_length x other = no_length (v x) (links_by done x) (others done x other)

  lengths : (x : Field) → IfSome (v x) (λ old. IsLengthOf x (length old)) → IfSome (links_by done x) (λ new. IsSomeAnd (v x) (λ old. length new ≡ length old))
  lengths LinkDst h = same_length (v LinkDst) (links_by done LinkDst) 6 (writes LinkDst) h (to_length done)
  lengths LinkSrc h = same_length (v LinkSrc) (links_by done LinkSrc) 6 (writes LinkSrc) h (from_length done)
  lengths Tag h = other_length Tag refl
  lengths Tos h = other_length Tos refl
  lengths Ttl h = other_length Ttl refl
  lengths SrcIp h = other_length SrcIp refl
  lengths DstIp h = other_length DstIp refl
  lengths SrcPort h = other_length SrcPort refl
  lengths DstPort h = other_length DstPort refl
  lengths Payload h = other_length Payload refl

  tags : (P : List ℕ → Type 0) → IfSome (links_by done Tag) P
  tags P = by (links_by done Tag) (others done Tag refl)
    where
      by : (w : Option (List ℕ)) → w ≡ None → IfSome w P
      by None is = tt
      by (Some bytes) is = absurd cc

pub nexthop_keeps : KeepsProfile nexthop_behaviour
nexthop_keeps = record {
  stays = λ fixed n v. refl;
  writes = λ fixed n v x h. writes v _ x h;
  drops = λ fixed n v h. refl;
  state = λ fixed n v h counted. refl;
  lengths = λ fixed n v x other formed. lengths v _ x formed;
  tags = λ fixed n v whole. tags v _ _;
  adds = λ fixed f v h. absurd cc;
  removes = λ fixed f v h. absurd cc;
}

-- it drops nothing
pub nexthop_decides_drops : DecidesDrops nexthop_behaviour nexthop_decides
nexthop_decides_drops = record { one = λ fixed n v drops. absurd cc }
