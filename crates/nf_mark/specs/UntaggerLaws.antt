-- For proofs: an untagger does what its profile says, and no more.
use Rattle.std.specs.Prelude.{◌≡◌, ◌≤◌, ◌+◌, ◌*◌, ◌==◌, ℕ, List, [], ◌∷◌, length, drop, Bool, false, true, if◌then◌else◌, Option, Some, None, is_some, IfSome, IsSomeAnd, refl}
use Rattle.std.proofs.Common.{true≢false, length-drop, arith}
use Rattle.std.proofs.lemmas.Bool.{and_parts, false≢true}
use Rattle.packet_fields.specs.Frames.{is_tpid, is_tag_list}
use Rattle.packet_fields.specs.declared.field.Field.TheVariants.{Tag}
use Rattle.chain_walk.specs.Laws.{KeepsProfile}
use Rattle.packet_function.specs.Deciding.{DecidesDrops}
use Rattle.nf_mark.specs.Untaggers.{untagged, untagger_behaviour, untagger_decides}
use Rattle.nf_mark.specs.Keeping.{writes_only, lengths_only}

there : (old : Option (List ℕ)) → is_some old ≡ false → untagged old ≡ None
there None absent = refl
there (Some bytes) absent = absurd (true≢false absent)

-- the rest of whole tags is whole tags
left_whole : (tags : List ℕ) → is_tag_list tags ≡ true → is_tag_list (drop 4 tags) ≡ true
unfolding is_tag_list
left_whole [] whole = whole
left_whole (a ∷ b ∷ c ∷ d ∷ rest) whole = (and_parts (is_tpid (a * 256 + b)) (is_tag_list rest) whole).1
left_whole tags whole = absurd (false≢true whole)

whole_tags : (old : Option (List ℕ)) → IfSome old (λ o. is_tag_list o ≡ true) → IfSome (untagged old) (λ new. (is_tag_list new ≡ true) × IsSomeAnd old (λ o. length new ≤ length o + 0))
whole_tags None whole = tt
whole_tags (Some tags) whole = by (length tags == 0)
  where
    by : (b : Bool) → IfSome (if b then None else Some (drop 4 tags)) (λ new. (is_tag_list new ≡ true) × (length new ≤ length tags + 0))
    by true = tt
    by false = (left_whole tags whole, omega (arith, length-drop 4 tags))

first_gone : (old : Option (List ℕ)) → IfSome (untagged old) (λ new. IsSomeAnd old (λ o. new ≡ drop 4 o))
first_gone None = tt
first_gone (Some tags) = by (length tags == 0)
  where
    by : (b : Bool) → IfSome (if b then None else Some (drop 4 tags)) (λ new. new ≡ drop 4 tags)
    by true = tt
    by false = refl

pub untagger_keeps : KeepsProfile untagger_behaviour
untagger_keeps = record {
  stays = λ fixed u v. refl;
  writes = λ fixed u v x absent. writes_only (untagger_behaviour.profile u) v Tag _ refl (there (v Tag)) x absent;
  drops = λ fixed u v never. refl;
  state = λ fixed u v none counted. refl;
  lengths = λ fixed u v x other formed. lengths_only (untagger_behaviour.profile u) v Tag _ (λ never tags_formed. absurd (never refl)) x other formed;
  tags = λ fixed u v whole. whole_tags (v Tag) whole;
  adds = λ fixed f v h. absurd cc;
  removes = λ fixed u v h. first_gone (v Tag);
}

-- it drops nothing
pub untagger_decides_drops : DecidesDrops untagger_behaviour untagger_decides
untagger_decides_drops = record { one = λ fixed u v drops. absurd cc }
