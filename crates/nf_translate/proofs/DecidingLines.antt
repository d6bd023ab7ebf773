-- A translation and a balancer do what the lines say that decide.
use Rattle.std.proofs.Common.{◌≡◌, ◌<◌, ◌%◌, ℕ, List, [], ◌∷◌, length, Bool, true, false, Option, Some, None, is_some, refl, arith}
use Rattle.std.specs.Prelude.{if◌then◌else◌, nat_le, ◌==◌}
use Rattle.std.proofs.lemmas.Nat.{mod_below}
use Rattle.packet_fields.specs.declared.field.Field.{Field}
use Rattle.packet_fields.specs.declared.field.Field.TheVariants.{LinkDst, LinkSrc, Tag, Tos, Ttl, SrcIp, DstIp, SrcPort, DstPort, Payload}
use Rattle.policy_text.specs.Meeting.{is_within}
use Rattle.packet_function.specs.declared.deciding.DecidingLine.TheVariants.{Rule}
use Rattle.nf_translate.specs.declared.client.Client.{Client}
use Rattle.nf_translate.specs.declared.endpoint.Endpoint.{Endpoint}
use Rattle.nf_translate.specs.Addresses.{ip_address_bytes}
use Rattle.nf_translate.specs.Balancers.{PlainBalancer, backend_at, balanced, balanced_by, in_place_of, to_address}
use Rattle.nf_translate.specs.Clients.{place_of as place_of_client}
use Rattle.nf_translate.specs.Deciding.{DoesAs, WritesAs}
use Rattle.nf_translate.specs.Endpoints.{place_of}
use Rattle.nf_translate.specs.Nats.{PlainNat, public_port, port_at, mapped, leaving, coming, passed, out_by, in_by, translated, translated_by}
use Rattle.nf_translate.proofs.Standing.{item_at}

out_as : (n : PlainNat) (source : Endpoint) → DoesAs n (out_by (port_at n.settings (place_of n.mappings source)) ∷ []) (leaving n source (port_at n.settings (place_of n.mappings source)))
out_as n source = by (nat_le (public_port n.settings (place_of n.mappings source)) n.settings.high) refl
  where
    port : Bool → Option ℕ
    port fits = if fits then Some (public_port n.settings (place_of n.mappings source)) else None

    by : (fits : Bool) → nat_le (public_port n.settings (place_of n.mappings source)) n.settings.high ≡ fits → DoesAs n (out_by (port fits) ∷ []) (leaving n source (port fits))
    by true is = record { port = public_port n.settings (place_of n.mappings source); least = omega arith; most = grind arith; passes = refl; source = refl }
    by false is = refl

in_as : (n : PlainNat) (inside : Option Endpoint) → DoesAs n (in_by inside ∷ []) (coming n inside)
in_as n (Some inside) = record { inside = inside; passes = refl; destination = refl }
in_as n None = refl

pub does_as : (n : PlainNat) (ends : Option (Endpoint × Endpoint)) → DoesAs n (translated_by n ends) (translated n ends)
does_as n None = refl
does_as n (Some ends) = by (is_within n.settings.inside n.settings.inside_bits ends.0.address) (ends.1.address == n.settings.public_address)
  where
    by : (inside public : Bool) → DoesAs n
        (if inside then out_by (port_at n.settings (place_of n.mappings ends.0)) ∷ [] else if public then in_by (mapped n ends.1) ∷ [] else [])
        (if inside then leaving n ends.0 (port_at n.settings (place_of n.mappings ends.0)) else if public then coming n (mapped n ends.1) else passed n)
    by true public = out_as n ends.0
    by false true = in_as n (mapped n ends.1)
    by false false = refl

-- new bytes are written as they are, or not at all
whole : (old : Option (List ℕ)) (new : List ℕ) → is_some (in_place_of old new) ≡ true → in_place_of old new ≡ Some new
whole None new is = absurd cc
whole (Some bytes) new is = by (length new == length bytes) is
  where
    by : (b : Bool) → is_some (if b then Some new else None) ≡ true → (if b then Some new else None) ≡ Some new
    by true is = refl
    by false is = absurd cc

none_written : (old : Option (List ℕ)) (new : List ℕ) → is_some (in_place_of old new) ≡ false → in_place_of old new ≡ None
none_written None new is = refl
none_written (Some bytes) new is = by (length new == length bytes) is
  where
    by : (b : Bool) → is_some (if b then Some new else None) ≡ false → (if b then Some new else None) ≡ None
    by true is = absurd cc
    by false is = refl

pub writes_as : (b : PlainBalancer) (destination : Option (List ℕ)) (flow : Option Client) → 0 < length b.settings.backends →
    WritesAs b.settings (balanced_by b destination flow) (balanced b destination flow).written
writes_as b destination None some = λ f. refl
writes_as b destination (Some flow) some = by (is_some (in_place_of destination bytes)) refl
  where
    place : ℕ
    place = place_of_client b.flows flow

    bytes : List ℕ
    bytes = ip_address_bytes (backend_at b.settings place)

    nothing_else : in_place_of destination bytes ≡ None → (f : Field) → to_address (backend_at b.settings place) destination f ≡ None
    nothing_else none LinkDst = refl
    nothing_else none LinkSrc = refl
    nothing_else none Tag = refl
    nothing_else none Tos = refl
    nothing_else none Ttl = refl
    nothing_else none SrcIp = refl
    nothing_else none DstIp = none
    nothing_else none SrcPort = refl
    nothing_else none DstPort = refl
    nothing_else none Payload = refl

    by : (written : Bool) → is_some (in_place_of destination bytes) ≡ written →
        WritesAs b.settings (if written then Rule (place % length b.settings.backends) ∷ [] else []) (to_address (backend_at b.settings place) destination)
    by true is = record {
      backend = backend_at b.settings place;
      listed = item_at b.settings.backends (place % length b.settings.backends) b.settings.virtual_address (mod_below place (length b.settings.backends) some);
      destination = whole destination bytes is;
    }
    by false is = nothing_else (none_written destination bytes is)
