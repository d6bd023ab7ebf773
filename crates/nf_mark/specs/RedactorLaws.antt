-- For proofs: a redactor does what its profile says, and no more.
use Rattle.std.specs.Prelude.{◌≡◌, ℕ, List, false, ◌&&◌, length, Option, Some, None, is_some, IfSome, IsSomeAnd, refl}
use Rattle.std.proofs.Common.{true≢false}
use Rattle.std.proofs.lemmas.Bool.{cond_both}
use Rattle.packet_fields.specs.declared.field.Field.{Field}
use Rattle.packet_fields.specs.declared.field.Field.TheVariants.{LinkDst, LinkSrc, Tag, Tos, Ttl, SrcIp, DstIp, SrcPort, DstPort, Payload}
use Rattle.action_profile.specs.Profiles.{writes_of}
use Rattle.chain_walk.specs.Shown.{Values}
use Rattle.chain_walk.specs.Step.{stepped}
use Rattle.chain_walk.specs.Laws.{KeepsProfile}
use Rattle.chain_walk.specs.declared.fixed.Fixed.{Fixed}
use Rattle.patterns.specs.Occurrences.{some_occurs}
use Rattle.patterns.specs.Overwriting.{redacted}
use Rattle.patterns.specs.Lengths.{same_length}
use Rattle.nf_mark.specs.declared.redactor.Redactor.{Redactor}
use Rattle.packet_function.specs.Deciding.{DecidesDrops}
use Rattle.nf_mark.specs.Redactors.{redacted_payload, redactor_behaviour, redactor_decides}

module _ (patterns : List (List ℕ)) where
  -- if there is no payload, nothing is written
  absent : (payload : Option (List ℕ)) → is_some payload ≡ false → redacted_payload patterns payload ≡ None
  absent None none = refl
  absent (Some payload) none = absurd (true≢false none)

  sized : (payload : Option (List ℕ)) → IfSome (redacted_payload patterns payload) (λ new. IsSomeAnd payload (λ old. length new ≡ length old))
  sized None = tt
  sized (Some payload) = cond_both (some_occurs patterns payload) (Some (redacted patterns payload)) None (λ w. IfSome w (λ new. length new ≡ length payload))
      (λ found. same_length patterns payload) (λ other. tt)

module _ (fixed : Fixed) (r : Redactor) (v : Values) where
  writes : (x : Field) → (writes_of (redactor_behaviour.profile r) x && is_some (v x)) ≡ false → (stepped redactor_behaviour fixed r v).written x ≡ None
  writes LinkDst h = refl
  writes LinkSrc h = refl
  writes Tag h = refl
  writes Tos h = refl
  writes Ttl h = refl
  writes SrcIp h = refl
  writes DstIp h = refl
  writes SrcPort h = refl
  writes DstPort h = refl
  writes Payload h = absent r.patterns (v Payload) h

  lengths : (x : Field) → IfSome ((stepped redactor_behaviour fixed r v).written x) (λ new. IsSomeAnd (v x) (λ old. length new ≡ length old))
  lengths LinkDst = tt
  lengths LinkSrc = tt
  lengths Tag = tt
  lengths Tos = tt
  lengths Ttl = tt
  lengths SrcIp = tt
  lengths DstIp = tt
  lengths SrcPort = tt
  lengths DstPort = tt
  lengths Payload = sized r.patterns (v Payload)

pub redactor_keeps : KeepsProfile redactor_behaviour
redactor_keeps = record {
  stays = λ fixed r v. refl;
  writes = λ fixed r v x h. writes fixed r v x h;
  drops = λ fixed r v h. refl;
  state = λ fixed r v h counted. refl;
  lengths = λ fixed r v x other old. lengths fixed r v x;
  tags = λ fixed r v old. tt;
  adds = λ fixed f v h. absurd cc;
  removes = λ fixed f v h. absurd cc;
}

-- it drops nothing
pub redactor_decides_drops : DecidesDrops redactor_behaviour redactor_decides
redactor_decides_drops = record { one = λ fixed r v drops. absurd cc }
