-- For proofs: a hop does what its profile says, and no more.
use Rattle.std.specs.Prelude.{◌≡◌, ◌-◌, ℕ, List, [], ◌∷◌, length, Bool, false, true, nat_le, slice_index, if◌then◌else◌, Option, Some, None, is_some, IfSome, IsSomeAnd, refl}
use Rattle.std.specs.Option.{option_map}
use Rattle.std.proofs.Common.{ap, sym, true≢false}
use Rattle.std.proofs.lemmas.Bool.{cond-true}
use Rattle.packet_fields.specs.declared.field.Field.TheVariants.{Ttl}
use Rattle.chain_walk.specs.Laws.{KeepsProfile}
use Rattle.chain_walk.specs.Step.{stepped, is_drop}
use Rattle.packet_function.specs.Deciding.{DecidesDrops}
use Rattle.packet_function.specs.declared.deciding.DecidingLine.TheVariants.{Declaration}
use Rattle.nf_mark.specs.Hops.{ttl_of, new_ttl, hop_behaviour, hop_decides}
use Rattle.nf_mark.specs.Keeping.{writes_only, lengths_only}

-- the byte of the remaining time, in the place of an old one
abbrev renewed : Option (List ℕ) → Option (List ℕ)
renewed old = option_map (λ ttl. ttl ∷ []) (new_ttl (ttl_of old))

there : (old : Option (List ℕ)) → is_some old ≡ false → renewed old ≡ None
there None absent = refl
there (Some bytes) absent = absurd (true≢false absent)

one_byte : (old : Option (List ℕ)) → IfSome old (λ o. length o ≡ 1) → IfSome (renewed old) (λ n. IsSomeAnd old (λ o. length n ≡ length o))
one_byte None one = tt
one_byte (Some bytes) one = by (nat_le (slice_index bytes 0) 1)
  where
    by : (b : Bool) → IfSome (option_map (λ ttl. ttl ∷ []) (if b then None else Some (slice_index bytes 0 - 1))) (λ n. length n ≡ length bytes)
    by true = tt
    by false = sym one

pub hop_keeps : KeepsProfile hop_behaviour
hop_keeps = record {
  stays = λ fixed h v. refl;
  writes = λ fixed h v x absent. writes_only (hop_behaviour.profile h) v Ttl _ refl (there (v Ttl)) x absent;
  drops = λ fixed h v never. absurd (true≢false never);
  state = λ fixed h v none counted. refl;
  lengths = λ fixed h v x other formed. lengths_only (hop_behaviour.profile h) v Ttl _ (λ no_tag. one_byte (v Ttl)) x other formed;
  tags = λ fixed h v whole. tt;
  adds = λ fixed f v h. absurd cc;
  removes = λ fixed f v h. absurd cc;
}

-- the declaration decides on each drop
pub hop_decides_drops : DecidesDrops hop_behaviour hop_decides
hop_decides_drops = record {
  one = λ fixed h v drops. ap length (cond-true (is_drop (stepped hop_behaviour fixed h v).verdict) (Declaration ∷ []) [] drops);
}
