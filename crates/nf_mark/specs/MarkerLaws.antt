-- For proofs: a marker does what its profile says, and no more.
use Rattle.std.specs.Prelude.{◌≡◌, ℕ, List, [], ◌∷◌, length, false, if◌then◌else◌, Option, Some, None, is_some, IfSome, IsSomeAnd, refl}
use Rattle.std.specs.Option.{option_map}
use Rattle.std.proofs.Common.{sym}
use Rattle.packet_fields.specs.declared.field.Field.TheVariants.{Tos}
use Rattle.chain_walk.specs.Laws.{KeepsProfile}
use Rattle.packet_function.specs.Deciding.{DecidesDrops}
use Rattle.nf_mark.specs.Markers.{marker_behaviour, marker_decides}
use Rattle.nf_mark.specs.Keeping.{writes_only, lengths_only}

-- the byte of a new type of service, in the place of an old one
abbrev renewed : Option (List ℕ) → Option ℕ → Option (List ℕ)
renewed old tos = option_map (λ n. n ∷ []) (if is_some old then tos else None)

there : (old : Option (List ℕ)) (tos : Option ℕ) → is_some old ≡ false → renewed old tos ≡ None
there None tos absent = refl
there (Some bytes) tos absent = absurd cc

one_byte : (old : Option (List ℕ)) (tos : Option ℕ) → IfSome old (λ o. length o ≡ 1) → IfSome (renewed old tos) (λ n. IsSomeAnd old (λ o. length n ≡ length o))
one_byte None tos one = tt
one_byte (Some bytes) None one = tt
one_byte (Some bytes) (Some n) one = sym one

pub marker_keeps : KeepsProfile marker_behaviour
marker_keeps = record {
  stays = λ fixed m v. refl;
  writes = λ fixed m v x h. writes_only (marker_behaviour.profile m) v Tos _ refl (there (v Tos) _) x h;
  drops = λ fixed m v h. refl;
  state = λ fixed m v h counted. refl;
  lengths = λ fixed m v x other formed. lengths_only (marker_behaviour.profile m) v Tos _ (λ no_tag. one_byte (v Tos) _) x other formed;
  tags = λ fixed m v whole. tt;
  adds = λ fixed f v h. absurd cc;
  removes = λ fixed f v h. absurd cc;
}

-- it drops nothing
pub marker_decides_drops : DecidesDrops marker_behaviour marker_decides
marker_decides_drops = record { one = λ fixed m v drops. absurd cc }
