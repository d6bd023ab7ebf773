-- For proofs: a limiter does what its profile says, and no more.
use Rattle.std.specs.Prelude.{◌≡◌, ℕ, List, [], ◌∷◌, length, Option, Some, None, IfSome, refl}
use Rattle.std.proofs.Common.{ap}
use Rattle.std.proofs.lemmas.Bool.{cond-true}
use Rattle.std.specs.declared.net.ip_addr.IpAddr.{IpAddr}
use Rattle.packet_fields.specs.declared.field.Field.{Field}
use Rattle.packet_fields.specs.declared.field.Field.TheVariants.{Tag}
use Rattle.action_profile.specs.Profiles.{profile_of}
use Rattle.action_profile.specs.declared.kind.Kind.TheVariants as kinds
use Rattle.chain_walk.specs.Laws.{KeepsProfile}
use Rattle.chain_walk.specs.Shown.{Values, shown_by}
use Rattle.chain_walk.specs.Step.{stepped, is_drop}
use Rattle.chain_walk.specs.declared.fixed.Fixed.{Fixed}
use Rattle.frame_seen.specs.Seeing.{source_address}
use Rattle.packet_function.specs.Deciding.{DecidesDrops}
use Rattle.packet_function.specs.declared.deciding.DecidingLine.TheVariants.{Set}
use Rattle.packet_function.specs.declared.deciding.SettingKey.TheVariants as keys
use Rattle.nf_observe.specs.Limiters.{limiter_behaviour, limiter_decides, limited_by}
use Rattle.nf_observe.specs.declared.limiter.Limiter.{Limiter}

-- it writes nothing, whether or not it knows source and length
none_written : (l : Limiter) (source : Option IpAddr) (bytes : Option ℕ) (time : ℕ) (x : Field) → (limited_by l source bytes time).written x ≡ None
none_written l (Some source) (Some bytes) time x = refl
none_written l (Some source) None time x = refl
none_written l None bytes time x = refl

writes_none : (fixed : Fixed) (l : Limiter) (v : Values) (x : Field) → (stepped limiter_behaviour fixed l v).written x ≡ None
writes_none fixed l v x = none_written l (source_address (shown_by (profile_of kinds.Limiter) fixed v).values) fixed.ip_len fixed.time x

if_none : (written : Option (List ℕ)) (P : List ℕ → Type 0) → written ≡ None → IfSome written P
if_none None P h = tt
if_none (Some bytes) P h = absurd cc

pub limiter_keeps : KeepsProfile limiter_behaviour
limiter_keeps = record {
  stays = λ fixed l v. refl;
  writes = λ fixed l v x h. writes_none fixed l v x;
  drops = λ fixed l v h. absurd cc;
  state = λ fixed l v h counted. absurd cc;
  lengths = λ fixed l v x other old. if_none _ _ (writes_none fixed l v x);
  tags = λ fixed l v old. if_none _ _ (writes_none fixed l v Tag);
  adds = λ fixed f v h. absurd cc;
  removes = λ fixed f v h. absurd cc;
}

-- the line `set rate` decides on each drop
pub limiter_decides_drops : DecidesDrops limiter_behaviour limiter_decides
limiter_decides_drops = record {
  one = λ fixed l v drops. ap length (cond-true (is_drop (stepped limiter_behaviour fixed l v).verdict) (Set keys.Rate ∷ []) [] drops);
}
