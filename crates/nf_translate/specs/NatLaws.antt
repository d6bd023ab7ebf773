-- For proofs: a translation does what its profile says, and no more, and one line decides on each drop.
use Rattle.std.specs.Prelude.{◌≡◌, ◌≤◌, ◌+◌, ℕ, List, [], ◌∷◌, Bool, true, false, ◌&&◌, ◌==◌, if◌then◌else◌, length, Option, Some, None, is_some, IfSome, IsSomeAnd, refl}
use Rattle.std.specs.Option.{option_map, option_and_then}
use Rattle.std.proofs.Common.{◌∙◌, sym, subst, true≢false}
use Rattle.std.proofs.lemmas.Bool.{eqb-true}
use Rattle.packet_fields.specs.Fields.{IsLengthOf}
use Rattle.packet_fields.specs.Frames.{is_tag_list}
use Rattle.packet_fields.specs.declared.field.Field.{Field}
use Rattle.packet_fields.specs.declared.field.Field.TheVariants.{LinkDst, LinkSrc, Tag, Tos, Ttl, SrcIp, DstIp, SrcPort, DstPort, Payload}
use Rattle.frame_seen.specs.Seeing.{address_of, seen_by}
use Rattle.policy_text.specs.Meeting.{is_within}
use Rattle.policy_text.specs.declared.seen.Seen.{Seen}
use Rattle.policy_text.specs.declared.seen.TagSeen.{TagSeen}
use Rattle.policy_text.specs.declared.seen.TagSeen.TheVariants.{Absent}
use Rattle.action_profile.specs.Profiles.{writes_of}
use Rattle.chain_walk.specs.Shown.{Values}
use Rattle.chain_walk.specs.Step.{Step, stepped, is_drop}
use Rattle.chain_walk.specs.Laws.{KeepsProfile}
use Rattle.chain_walk.specs.declared.fixed.Fixed.{Fixed}
use Rattle.nf_translate.specs.declared.endpoint.Endpoint.{Endpoint}
use Rattle.nf_translate.specs.Endpoints.{place_of, ends_of}
use Rattle.packet_function.specs.Deciding.{DecidesDrops}
use Rattle.nf_translate.specs.Nats.{PlainNat, from, to, passed, port_at, leaving, coming, mapped, translated, out_by, in_by, translated_by, nat_behaviour, nat_decides}

-- a field of one of a packet's two ends
abbrev is_end : Field → Bool
is_end SrcIp = true
is_end DstIp = true
is_end SrcPort = true
is_end DstPort = true
is_end x = false

-- the number of bytes of an end's address and port in an IPv4 packet
abbrev size_of : Field → ℕ
size_of SrcIp = 4
size_of DstIp = 4
size_of SrcPort = 2
size_of DstPort = 2
size_of x = 0

-- only the two ends are written, and each value has its field's length in an IPv4 packet
record IsTame (told : Step PlainNat) : Type 0 where
  others : (x : Field) → is_end x ≡ false → told.written x ≡ None
  lengths : (x : Field) → IfSome (told.written x) (λ new. length new ≡ size_of x)

from_others : (address port : ℕ) (x : Field) → is_end x ≡ false → from address port x ≡ None
from_others address port LinkDst h = refl
from_others address port LinkSrc h = refl
from_others address port Tag h = refl
from_others address port Tos h = refl
from_others address port Ttl h = refl
from_others address port SrcIp h = absurd (true≢false h)
from_others address port DstIp h = refl
from_others address port SrcPort h = absurd (true≢false h)
from_others address port DstPort h = refl
from_others address port Payload h = refl

from_lengths : (address port : ℕ) (x : Field) → IfSome (from address port x) (λ new. length new ≡ size_of x)
from_lengths address port LinkDst = tt
from_lengths address port LinkSrc = tt
from_lengths address port Tag = tt
from_lengths address port Tos = tt
from_lengths address port Ttl = tt
from_lengths address port SrcIp = refl
from_lengths address port DstIp = tt
from_lengths address port SrcPort = refl
from_lengths address port DstPort = tt
from_lengths address port Payload = tt

to_others : (address port : ℕ) (x : Field) → is_end x ≡ false → to address port x ≡ None
to_others address port LinkDst h = refl
to_others address port LinkSrc h = refl
to_others address port Tag h = refl
to_others address port Tos h = refl
to_others address port Ttl h = refl
to_others address port SrcIp h = refl
to_others address port DstIp h = absurd (true≢false h)
to_others address port SrcPort h = refl
to_others address port DstPort h = absurd (true≢false h)
to_others address port Payload h = refl

to_lengths : (address port : ℕ) (x : Field) → IfSome (to address port x) (λ new. length new ≡ size_of x)
to_lengths address port LinkDst = tt
to_lengths address port LinkSrc = tt
to_lengths address port Tag = tt
to_lengths address port Tos = tt
to_lengths address port Ttl = tt
to_lengths address port SrcIp = tt
to_lengths address port DstIp = refl
to_lengths address port SrcPort = tt
to_lengths address port DstPort = refl
to_lengths address port Payload = tt

passed_tame : (n : PlainNat) → IsTame (passed n)
passed_tame n = record { others = λ x h. refl; lengths = λ x. tt }

leaving_tame : (n : PlainNat) (source : Endpoint) (port : Option ℕ) → IsTame (leaving n source port)
leaving_tame n source None = record { others = λ x h. refl; lengths = λ x. tt }
leaving_tame n source (Some port) = record { others = from_others n.settings.public_address port; lengths = from_lengths n.settings.public_address port }

coming_tame : (n : PlainNat) (inside : Option Endpoint) → IsTame (coming n inside)
coming_tame n None = record { others = λ x h. refl; lengths = λ x. tt }
coming_tame n (Some inside) = record { others = to_others inside.address inside.port; lengths = to_lengths inside.address inside.port }

either : (b : Bool) (s t : Step PlainNat) → IsTame s → IsTame t → IsTame (if b then s else t)
either true s t hs ht = hs
either false s t hs ht = ht

tame : (n : PlainNat) (ends : Option (Endpoint × Endpoint)) → IsTame (translated n ends)
tame n None = passed_tame n
tame n (Some ends) =
    either (is_within n.settings.inside n.settings.inside_bits ends.0.address) _ _ (leaving_tame n ends.0 (port_at n.settings (place_of n.mappings ends.0)))
    (either (ends.1.address == n.settings.public_address) _ _ (coming_tame n (mapped n ends.1)) (passed_tame n))

-- If an IPv4 address or a port is absent, nothing is written.
module _ (n : PlainNat) (tag : TagSeen) (src6 dst6 : Option ℕ) where
  -- what is done with a packet of which this is seen
  abbrev done : (proto src dst sport dport : Option ℕ) → Step PlainNat
  done proto src dst sport dport = translated n (ends_of (record { tag = tag; src = src; dst = dst; src6 = src6; dst6 = dst6; sport = sport; dport = dport; proto = proto; ether_type = None; tcp_flags = None }))

  quiet : (proto src dst sport dport : Option ℕ) → (is_some src ≡ true → is_some dst ≡ true → is_some sport ≡ true → is_some dport ≡ true → ⊥) → (x : Field) → (done proto src dst sport dport).written x ≡ None
  quiet None src dst sport dport never x = refl
  quiet (Some p) None dst sport dport never x = refl
  quiet (Some p) (Some a) dst None dport never x = refl
  quiet (Some p) (Some a) None (Some b) dport never x = refl
  quiet (Some p) (Some a) (Some c) (Some b) None never x = refl
  quiet (Some p) (Some a) (Some c) (Some b) (Some d) never x = absurd (never refl refl refl refl)

-- what is absent isn't seen
unseen_address : (bytes : Option (List ℕ)) → is_some bytes ≡ false → is_some (option_and_then (address_of 4) bytes) ≡ false
unseen_address None absent = refl
unseen_address (Some b) absent = absurd (true≢false absent)

unseen_port : (number : List ℕ → ℕ) (bytes : Option (List ℕ)) → is_some bytes ≡ false → is_some (option_map number bytes) ≡ false
unseen_port number None absent = refl
unseen_port number (Some b) absent = absurd (true≢false absent)

-- a value that is written where a port was
port_length : (old new : Option (List ℕ)) → (is_some old ≡ false → new ≡ None) → IfSome old (λ o. length o ≡ 2) → IfSome new (λ w. length w ≡ 2) → IfSome new (λ w. IsSomeAnd old (λ o. length w ≡ length o))
port_length old None absent was is = tt
port_length None (Some w) absent was is = absurd (let e : Some w ≡ None = absent refl in cc)
port_length (Some o) (Some w) absent was is = is ∙ sym was

-- a value that is written where an IPv4 address was seen
in_place : (number : ℕ) (o w : List ℕ) (b : Bool) → (b ≡ true → length o ≡ 4) → (is_some (if b then Some number else None) ≡ false → Some w ≡ None) → length w ≡ 4 → length w ≡ length o
in_place number o w true four unseen is = is ∙ sym (four refl)
in_place number o w false four unseen is = absurd (let e : Some w ≡ None = unseen refl in cc)

address_length : (old new : Option (List ℕ)) → (is_some (option_and_then (address_of 4) old) ≡ false → new ≡ None) → IfSome new (λ w. length w ≡ 4) → IfSome new (λ w. IsSomeAnd old (λ o. length w ≡ length o))
address_length old None unseen is = tt
address_length None (Some w) unseen is = absurd (let e : Some w ≡ None = unseen refl in cc)
address_length (Some o) (Some w) unseen is = in_place _ o w (length o == 4) (eqb-true (length o) 4) unseen is

module _ (fixed : Fixed) (n : PlainNat) (v : Values) where
  abbrev seen : Seen
  seen = seen_by v fixed.proto

  -- if one of these isn't seen, nothing is written
  unwritten : (is_some seen.src ≡ true → is_some seen.dst ≡ true → is_some seen.sport ≡ true → is_some seen.dport ≡ true → ⊥) → (x : Field) → (stepped nat_behaviour fixed n v).written x ≡ None
  unwritten never x = quiet n Absent None None fixed.proto seen.src seen.dst seen.sport seen.dport never x

  from_unseen : is_some seen.src ≡ false → (x : Field) → (stepped nat_behaviour fixed n v).written x ≡ None
  from_unseen unseen x = unwritten (λ a b c d. true≢false (sym a ∙ unseen)) x

  to_unseen : is_some seen.dst ≡ false → (x : Field) → (stepped nat_behaviour fixed n v).written x ≡ None
  to_unseen unseen x = unwritten (λ a b c d. true≢false (sym b ∙ unseen)) x

  writes : (x : Field) → (writes_of (nat_behaviour.profile n) x && is_some (v x)) ≡ false → (stepped nat_behaviour fixed n v).written x ≡ None
  writes LinkDst h = (tame n _).others LinkDst refl
  writes LinkSrc h = (tame n _).others LinkSrc refl
  writes Tag h = (tame n _).others Tag refl
  writes Tos h = (tame n _).others Tos refl
  writes Ttl h = (tame n _).others Ttl refl
  writes SrcIp h = from_unseen (unseen_address (v SrcIp) h) SrcIp
  writes DstIp h = to_unseen (unseen_address (v DstIp) h) DstIp
  writes SrcPort h = unwritten (λ a b c d. true≢false (sym c ∙ unseen_port _ (v SrcPort) h)) SrcPort
  writes DstPort h = unwritten (λ a b c d. true≢false (sym d ∙ unseen_port _ (v DstPort) h)) DstPort
  writes Payload h = (tame n _).others Payload refl

  other_lengths : (x : Field) → is_end x ≡ false → IfSome ((stepped nat_behaviour fixed n v).written x) (λ new. IsSomeAnd (v x) (λ old. length new ≡ length old))
  other_lengths x other = subst (λ (w : Option (List ℕ)). IfSome w (λ new. IsSomeAnd (v x) (λ old. length new ≡ length old))) (sym ((tame n _).others x other)) tt

  lengths : (x : Field) → IfSome (v x) (λ old. IsLengthOf x (length old)) → IfSome ((stepped nat_behaviour fixed n v).written x) (λ new. IsSomeAnd (v x) (λ old. length new ≡ length old))
  lengths LinkDst h = other_lengths LinkDst refl
  lengths LinkSrc h = other_lengths LinkSrc refl
  lengths Tag h = other_lengths Tag refl
  lengths Tos h = other_lengths Tos refl
  lengths Ttl h = other_lengths Ttl refl
  lengths SrcIp h = address_length (v SrcIp) _ (λ unseen. from_unseen unseen SrcIp) ((tame n _).lengths SrcIp)
  lengths DstIp h = address_length (v DstIp) _ (λ unseen. to_unseen unseen DstIp) ((tame n _).lengths DstIp)
  lengths SrcPort h = port_length (v SrcPort) _ (writes SrcPort) h ((tame n _).lengths SrcPort)
  lengths DstPort h = port_length (v DstPort) _ (writes DstPort) h ((tame n _).lengths DstPort)
  lengths Payload h = other_lengths Payload refl

pub nat_keeps : KeepsProfile nat_behaviour
nat_keeps = record {
  stays = λ fixed n v. refl;
  writes = λ fixed n v x h. writes fixed n v x h;
  drops = λ fixed n v h. absurd (true≢false h);
  state = λ fixed n v h counted. absurd (true≢false h);
  lengths = λ fixed n v x other formed. lengths fixed n v x formed;
  tags = λ fixed n v whole. subst (λ (w : Option (List ℕ)). IfSome w (λ new. (is_tag_list new ≡ true) × IsSomeAnd (v Tag) (λ old. length new ≤ length old + 0))) (sym (writes fixed n v Tag refl)) tt;
  adds = λ fixed f v h. absurd cc;
  removes = λ fixed f v h. absurd cc;
}

-- a packet on which no line decides passes
drop_once : (n : PlainNat) (ends : Option (Endpoint × Endpoint)) → is_drop (translated n ends).verdict ≡ true → length (translated_by n ends) ≡ 1
drop_once n None drops = absurd (true≢false (sym drops))
drop_once n (Some ends) drops = by (is_within n.settings.inside n.settings.inside_bits ends.0.address) (ends.1.address == n.settings.public_address) drops
  where
    by : (inside public : Bool) →
        is_drop (if inside then leaving n ends.0 (port_at n.settings (place_of n.mappings ends.0)) else if public then coming n (mapped n ends.1) else passed n).verdict ≡ true →
        length (if inside then out_by (port_at n.settings (place_of n.mappings ends.0)) ∷ [] else if public then in_by (mapped n ends.1) ∷ [] else []) ≡ 1
    by true public drops = refl
    by false true drops = refl
    by false false drops = absurd (true≢false (sym drops))

pub nat_decides_drops : DecidesDrops nat_behaviour nat_decides
nat_decides_drops = record { one = λ fixed n v drops. drop_once n _ drops }
