-- For proofs: a balancer does what its profile says, and no more, and drops nothing.
use Rattle.std.specs.Prelude.{◌≡◌, ◌≤◌, ◌+◌, ℕ, List, Bool, true, false, ◌&&◌, ◌==◌, if◌then◌else◌, length, Option, Some, None, is_some, IfSome, IsSomeAnd, refl}
use Rattle.std.proofs.Common.{◌∙◌, sym, subst, true≢false}
use Rattle.std.proofs.lemmas.Bool.{eqb-true}
use Rattle.packet_fields.specs.Fields.{IsLengthOf}
use Rattle.packet_fields.specs.Frames.{is_tag_list}
use Rattle.packet_fields.specs.declared.field.Field.{Field}
use Rattle.packet_fields.specs.declared.field.Field.TheVariants.{LinkDst, LinkSrc, Tag, Tos, Ttl, SrcIp, DstIp, SrcPort, DstPort, Payload}
use Rattle.action_profile.specs.Profiles.{writes_of}
use Rattle.chain_walk.specs.Shown.{Values}
use Rattle.chain_walk.specs.Step.{stepped, is_drop}
use Rattle.chain_walk.specs.Laws.{KeepsProfile}
use Rattle.chain_walk.specs.declared.fixed.Fixed.{Fixed}
use Rattle.packet_version.specs.Parts.{is_field}
use Rattle.nf_translate.specs.declared.client.Client.{Client}
use Rattle.packet_function.specs.Deciding.{DecidesDrops}
use Rattle.nf_translate.specs.Balancers.{PlainBalancer, in_place_of, balanced, balancer_behaviour, balancer_decides}

passes : (b : PlainBalancer) (destination : Option (List ℕ)) (flow : Option Client) → is_drop (balanced b destination flow).verdict ≡ false
passes b destination None = refl
passes b destination (Some flow) = refl

-- no field but the destination is written
unwritten : (b : PlainBalancer) (destination : Option (List ℕ)) (flow : Option Client) (x : Field) → is_field DstIp x ≡ false → (balanced b destination flow).written x ≡ None
unwritten b destination None x other = refl
unwritten b destination (Some flow) LinkDst other = refl
unwritten b destination (Some flow) LinkSrc other = refl
unwritten b destination (Some flow) Tag other = refl
unwritten b destination (Some flow) Tos other = refl
unwritten b destination (Some flow) Ttl other = refl
unwritten b destination (Some flow) SrcIp other = refl
unwritten b destination (Some flow) DstIp other = absurd (true≢false other)
unwritten b destination (Some flow) SrcPort other = refl
unwritten b destination (Some flow) DstPort other = refl
unwritten b destination (Some flow) Payload other = refl

-- to a packet without a destination none is written
unsent : (b : PlainBalancer) (destination : Option (List ℕ)) (flow : Option Client) → is_some destination ≡ false → (balanced b destination flow).written DstIp ≡ None
unsent b destination None absent = refl
unsent b None (Some flow) absent = refl
unsent b (Some bytes) (Some flow) absent = absurd (true≢false absent)

-- what is written in place of a value has its length
as_long : (old : Option (List ℕ)) (new : List ℕ) → IfSome (in_place_of old new) (λ written. IsSomeAnd old (λ was. length written ≡ length was))
as_long None new = tt
as_long (Some was) new = by (length new == length was) (eqb-true (length new) (length was))
  where
    by : (b : Bool) → (b ≡ true → length new ≡ length was) → IfSome (if b then Some new else None) (λ written. length written ≡ length was)
    by true same = same refl
    by false same = tt

sized : (b : PlainBalancer) (destination : Option (List ℕ)) (flow : Option Client) → IfSome ((balanced b destination flow).written DstIp) (λ new. IsSomeAnd destination (λ old. length new ≡ length old))
sized b destination None = tt
sized b destination (Some flow) = as_long destination _

module _ (fixed : Fixed) (b : PlainBalancer) (v : Values) where
  others_stay : (x : Field) → is_field DstIp x ≡ false → (stepped balancer_behaviour fixed b v).written x ≡ None
  others_stay x other = unwritten b _ _ x other

  writes : (x : Field) → (writes_of (balancer_behaviour.profile b) x && is_some (v x)) ≡ false → (stepped balancer_behaviour fixed b v).written x ≡ None
  writes LinkDst h = others_stay LinkDst refl
  writes LinkSrc h = others_stay LinkSrc refl
  writes Tag h = others_stay Tag refl
  writes Tos h = others_stay Tos refl
  writes Ttl h = others_stay Ttl refl
  writes SrcIp h = others_stay SrcIp refl
  writes DstIp h = unsent b (v DstIp) _ h
  writes SrcPort h = others_stay SrcPort refl
  writes DstPort h = others_stay DstPort refl
  writes Payload h = others_stay Payload refl

  other_lengths : (x : Field) → is_field DstIp x ≡ false → IfSome ((stepped balancer_behaviour fixed b v).written x) (λ new. IsSomeAnd (v x) (λ old. length new ≡ length old))
  other_lengths x other = subst (λ (w : Option (List ℕ)). IfSome w (λ new. IsSomeAnd (v x) (λ old. length new ≡ length old))) (sym (others_stay x other)) tt

  lengths : (x : Field) → IfSome (v x) (λ old. IsLengthOf x (length old)) → IfSome ((stepped balancer_behaviour fixed b v).written x) (λ new. IsSomeAnd (v x) (λ old. length new ≡ length old))
  lengths LinkDst h = other_lengths LinkDst refl
  lengths LinkSrc h = other_lengths LinkSrc refl
  lengths Tag h = other_lengths Tag refl
  lengths Tos h = other_lengths Tos refl
  lengths Ttl h = other_lengths Ttl refl
  lengths SrcIp h = other_lengths SrcIp refl
  lengths DstIp h = sized b (v DstIp) _
  lengths SrcPort h = other_lengths SrcPort refl
  lengths DstPort h = other_lengths DstPort refl
  lengths Payload h = other_lengths Payload refl

pub balancer_keeps : KeepsProfile balancer_behaviour
balancer_keeps = record {
  stays = λ fixed b v. refl;
  writes = λ fixed b v x h. writes fixed b v x h;
  drops = λ fixed b v h. passes b _ _;
  state = λ fixed b v h counted. absurd (true≢false h);
  lengths = λ fixed b v x other formed. lengths fixed b v x formed;
  tags = λ fixed b v whole. subst (λ (w : Option (List ℕ)). IfSome w (λ new. (is_tag_list new ≡ true) × IsSomeAnd (v Tag) (λ old. length new ≤ length old + 0))) (sym (others_stay fixed b v Tag refl)) tt;
  adds = λ fixed f v h. absurd cc;
  removes = λ fixed f v h. absurd cc;
}

pub balancer_decides_drops : DecidesDrops balancer_behaviour balancer_decides
balancer_decides_drops = record { one = λ fixed b v drops. absurd (true≢false (sym drops ∙ passes b _ _)) }
