-- For proofs: a tagger does what its profile says, and no more.
use Rattle.std.specs.Prelude.{◌≡◌, ◌≤◌, ◌+◌, ℕ, List, length, drop, ◌++◌, false, true, Option, Some, None, is_some, IfSome, IsSomeAnd, refl}
use Rattle.std.proofs.Common.{true≢false, arith}
use Rattle.packet_fields.specs.Frames.{is_tag_list}
use Rattle.packet_fields.specs.declared.field.Field.TheVariants.{Tag}
use Rattle.chain_walk.specs.Laws.{KeepsProfile}
use Rattle.packet_function.specs.Deciding.{DecidesDrops}
use Rattle.nf_mark.specs.Taggers.{tag_of, tagged, tagger_behaviour, tagger_decides}
use Rattle.nf_mark.specs.Keeping.{writes_only, lengths_only}

there : (control : Option ℕ) (old : Option (List ℕ)) → is_some old ≡ false → tagged control old ≡ None
there None old absent = refl
there (Some c) None absent = refl
there (Some c) (Some tags) absent = absurd (true≢false absent)

-- one more tag before whole tags makes whole tags
one_more : (c : ℕ) (tags : List ℕ) → is_tag_list tags ≡ true → is_tag_list (tag_of c ++ tags) ≡ true
unfolding is_tag_list
one_more c tags whole = whole

whole_tags : (control : Option ℕ) (old : Option (List ℕ)) → IfSome old (λ o. is_tag_list o ≡ true) → IfSome (tagged control old) (λ new. (is_tag_list new ≡ true) × IsSomeAnd old (λ o. length new ≤ length o + 4))
whole_tags None old whole = tt
whole_tags (Some c) None whole = tt
whole_tags (Some c) (Some tags) whole = (one_more c tags whole, omega arith)

put_before : (control : Option ℕ) (old : Option (List ℕ)) → IfSome (tagged control old) (λ new. IsSomeAnd old (λ o. (length new ≡ length o + 4) × (drop 4 new ≡ o)))
put_before None old = tt
put_before (Some c) None = tt
put_before (Some c) (Some tags) = (omega arith, refl)

pub tagger_keeps : KeepsProfile tagger_behaviour
tagger_keeps = record {
  stays = λ fixed t v. refl;
  writes = λ fixed t v x absent. writes_only (tagger_behaviour.profile t) v Tag _ refl (there _ (v Tag)) x absent;
  drops = λ fixed t v never. refl;
  state = λ fixed t v none counted. refl;
  lengths = λ fixed t v x other formed. lengths_only (tagger_behaviour.profile t) v Tag _ (λ never tags_formed. absurd (never refl)) x other formed;
  tags = λ fixed t v whole. whole_tags _ (v Tag) whole;
  adds = λ fixed t v h. put_before _ (v Tag);
  removes = λ fixed f v h. absurd cc;
}

-- it drops nothing
pub tagger_decides_drops : DecidesDrops tagger_behaviour tagger_decides
tagger_decides_drops = record { one = λ fixed t v drops. absurd cc }
