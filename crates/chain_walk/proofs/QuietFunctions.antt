-- Functions whose counting is left out obey their profiles, and those that count are quiet.
use Rattle.std.proofs.Common.{◌≡◌, length, ap, refl, Bool, true, false, None, if◌then◌else◌}
use Rattle.std.specs.Prelude.{◌+◌, ◌≤◌, drop, IfSome, IsSomeAnd}
use Rattle.packet_fields.specs.Frames.{is_tag_list}
use Rattle.packet_fields.specs.declared.field.Field.TheVariants.{Tag}
use Rattle.chain_walk.specs.Counting.{idle, quiet, IsQuiet}
use Rattle.chain_walk.specs.Laws.{KeepsProfile}
use Rattle.chain_walk.specs.Step.{Step, Behaviour, stepped, is_drop}

-- what holds for a step and for one that does nothing holds for either
either : {F : Type 0} (P : Step F → Type 0) (c : Bool) (f : F) (t : Step F) → P (idle f) → P t → P (if c then idle f else t)
either P true f t h k = h
either P false f t h k = k

pub quiet_keeps : {F : Type 0} (b : Behaviour F) → KeepsProfile b → KeepsProfile (quiet b)
quiet_keeps b keeps = record {
  stays = λ fixed f v. either (λ s. b.profile s.after ≡ b.profile f) (b.profile f).counts f (stepped b fixed f v) refl (keeps.stays fixed f v);
  writes = λ fixed f v x h. either (λ s. s.written x ≡ None) (b.profile f).counts f (stepped b fixed f v) refl (keeps.writes fixed f v x h);
  drops = λ fixed f v h. either (λ s. is_drop s.verdict ≡ false) (b.profile f).counts f (stepped b fixed f v) refl (keeps.drops fixed f v h);
  state = λ fixed f v h k. either (λ s. s.after ≡ f) (b.profile f).counts f (stepped b fixed f v) refl (keeps.state fixed f v h k);
  lengths = λ fixed f v x other formed.
      either (λ s. IfSome (s.written x) (λ new. IsSomeAnd (v x) (λ old. length new ≡ length old))) (b.profile f).counts f (stepped b fixed f v) tt (keeps.lengths fixed f v x other formed);
  tags = λ fixed f v whole.
      either (λ s. IfSome (s.written Tag) (λ new. (is_tag_list new ≡ true) × IsSomeAnd (v Tag) (λ old. length new ≤ length old + (if (b.profile f).adds then 4 else 0)))) (b.profile f).counts f (stepped b fixed f v) tt (keeps.tags fixed f v whole);
  adds = λ fixed f v h.
      either (λ s. IfSome (s.written Tag) (λ new. IsSomeAnd (v Tag) (λ old. (length new ≡ length old + 4) × (drop 4 new ≡ old)))) (b.profile f).counts f (stepped b fixed f v) tt (keeps.adds fixed f v h);
  removes = λ fixed f v h.
      either (λ s. IfSome (s.written Tag) (λ new. IsSomeAnd (v Tag) (λ old. new ≡ drop 4 old))) (b.profile f).counts f (stepped b fixed f v) tt (keeps.removes fixed f v h);
}

pub quiet_is_quiet : {F : Type 0} (b : Behaviour F) → IsQuiet (quiet b)
quiet_is_quiet b = record {
  still = λ fixed f v h. ap (λ c. (if c then idle f else stepped b fixed f v).after) h;
}
