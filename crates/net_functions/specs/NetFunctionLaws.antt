-- For proofs: functions of every kind do what their profiles say, and no more.
use Rattle.std.specs.Prelude.{◌≡◌, ◌≢◌, ◌≤◌, ◌+◌, ℕ, List, false, true, ◌&&◌, if◌then◌else◌, length, drop, Option, None, is_some, IfSome, IsSomeAnd, refl}
use Rattle.std.proofs.Common.{◌∙◌, ap, sym, subst}
use Rattle.packet_fields.specs.Frames.{is_tag_list}
use Rattle.packet_fields.specs.Fields.{IsLengthOf}
use Rattle.packet_fields.specs.declared.field.Field.{Field}
use Rattle.packet_fields.specs.declared.field.Field.TheVariants.{Tag}
use Rattle.action_profile.specs.Profiles.{writes_of}
use Rattle.action_profile.specs.declared.rights.Profile.{Profile}
use Rattle.chain_walk.specs.Shown.{Values, Shown, shown_by}
use Rattle.chain_walk.specs.Step.{Behaviour, stepped, is_drop}
use Rattle.chain_walk.specs.Laws.{KeepsProfile}
use Rattle.chain_walk.specs.declared.fixed.Fixed.{Fixed}
use Rattle.nf_filter.specs.Firewalls.{firewall_behaviour}
use Rattle.nf_filter.specs.FirewallLaws.{firewall_keeps}
use Rattle.nf_translate.specs.Nats.{nat_behaviour}
use Rattle.nf_translate.specs.NatLaws.{nat_keeps}
use Rattle.nf_translate.specs.Balancers.{balancer_behaviour}
use Rattle.nf_translate.specs.BalancerLaws.{balancer_keeps}
use Rattle.nf_observe.specs.Monitors.{monitor_behaviour}
use Rattle.nf_observe.specs.MonitorLaws.{monitor_keeps}
use Rattle.nf_observe.specs.Limiters.{limiter_behaviour}
use Rattle.nf_observe.specs.LimiterLaws.{limiter_keeps}
use Rattle.nf_mark.specs.Markers.{marker_behaviour}
use Rattle.nf_mark.specs.MarkerLaws.{marker_keeps}
use Rattle.nf_mark.specs.Hops.{hop_behaviour}
use Rattle.nf_mark.specs.HopLaws.{hop_keeps}
use Rattle.nf_mark.specs.Taggers.{tagger_behaviour}
use Rattle.nf_mark.specs.TaggerLaws.{tagger_keeps}
use Rattle.nf_mark.specs.Untaggers.{untagger_behaviour}
use Rattle.nf_mark.specs.UntaggerLaws.{untagger_keeps}
use Rattle.nf_filter.specs.Signatures.{signature_behaviour}
use Rattle.nf_filter.specs.SignatureLaws.{signature_keeps}
use Rattle.nf_mark.specs.Nexthops.{nexthop_behaviour}
use Rattle.nf_mark.specs.NexthopLaws.{nexthop_keeps}
use Rattle.nf_mark.specs.Redactors.{redactor_behaviour}
use Rattle.nf_mark.specs.RedactorLaws.{redactor_keeps}
use Rattle.net_functions.specs.NetFunctions.{as_any, net_behaviour, profile_by, step_by}
use Rattle.net_functions.specs.declared.net_function.NetFunction.{NetFunction}
use Rattle.net_functions.specs.declared.net_function.NetFunction.TheVariants.{Firewall, Nat, Balancer, Monitor, Limiter, Marker, Hop, Tagger, Untagger, Signature, Nexthop, Redactor}

-- the functions of one kind behave among all as they do by themselves
record IsKind {F : Type 0} (b : Behaviour F) (make : F → NetFunction) : Type 0 where
  profile : (f : F) → net_behaviour.profile (make f) ≡ b.profile f
  step : (f : F) (shown : Shown) → net_behaviour.step (make f) shown ≡ as_any make (b.step f shown)

-- one function obeys its profile
record Keeps (f : NetFunction) : Type 0 where
  stays : (fixed : Fixed) (v : Values) → net_behaviour.profile (stepped net_behaviour fixed f v).after ≡ net_behaviour.profile f
  writes : (fixed : Fixed) (v : Values) (x : Field) → (writes_of (net_behaviour.profile f) x && is_some (v x)) ≡ false → (stepped net_behaviour fixed f v).written x ≡ None
  drops : (fixed : Fixed) (v : Values) → (net_behaviour.profile f).drops ≡ false → is_drop (stepped net_behaviour fixed f v).verdict ≡ false
  state : (fixed : Fixed) (v : Values) → (net_behaviour.profile f).state ≡ false → (net_behaviour.profile f).counts ≡ false → (stepped net_behaviour fixed f v).after ≡ f
  lengths : (fixed : Fixed) (v : Values) (x : Field) → x ≢ Tag → IfSome (v x) (λ old. IsLengthOf x (length old)) →
      IfSome ((stepped net_behaviour fixed f v).written x) (λ new. IsSomeAnd (v x) (λ old. length new ≡ length old))
  tags : (fixed : Fixed) (v : Values) → IfSome (v Tag) (λ old. is_tag_list old ≡ true) →
      IfSome ((stepped net_behaviour fixed f v).written Tag) (λ new. (is_tag_list new ≡ true) × IsSomeAnd (v Tag) (λ old. length new ≤ length old + (if (net_behaviour.profile f).adds then 4 else 0)))
  adds : (fixed : Fixed) (v : Values) → (net_behaviour.profile f).adds ≡ true →
      IfSome ((stepped net_behaviour fixed f v).written Tag) (λ new. IsSomeAnd (v Tag) (λ old. (length new ≡ length old + 4) × (drop 4 new ≡ old)))
  removes : (fixed : Fixed) (v : Values) → (net_behaviour.profile f).removes ≡ true →
      IfSome ((stepped net_behaviour fixed f v).written Tag) (λ new. IsSomeAnd (v Tag) (λ old. new ≡ drop 4 old))

same_step : {F : Type 0} (b : Behaviour F) (make : F → NetFunction) → IsKind b make → (fixed : Fixed) (f : F) (v : Values) → stepped net_behaviour fixed (make f) v ≡ as_any make (stepped b fixed f v)
same_step b make is fixed f v = ap (λ p. net_behaviour.step (make f) (shown_by p fixed v)) (is.profile f) ∙ is.step f (shown_by (b.profile f) fixed v)

kind_keeps : {F : Type 0} (b : Behaviour F) (make : F → NetFunction) → IsKind b make → KeepsProfile b → (f : F) → Keeps (make f)
kind_keeps {F = F} b make is keeps f = record {
  stays = λ fixed v. ap (λ t. net_behaviour.profile t.after) (same fixed v) ∙ is.profile (stepped b fixed f v).after ∙ keeps.stays fixed f v ∙ sym (is.profile f);
  writes = λ fixed v x h. ap (λ t. t.written x) (same fixed v) ∙ keeps.writes fixed f v x (subst (λ (p : Profile). (writes_of p x && is_some (v x)) ≡ false) (is.profile f) h);
  drops = λ fixed v h. ap (λ t. is_drop t.verdict) (same fixed v) ∙ keeps.drops fixed f v (subst (λ (p : Profile). p.drops ≡ false) (is.profile f) h);
  state = λ fixed v h counted. ap (λ t. t.after) (same fixed v)
      ∙ ap make (keeps.state fixed f v (subst (λ (p : Profile). p.state ≡ false) (is.profile f) h) (subst (λ (p : Profile). p.counts ≡ false) (is.profile f) counted));
  lengths = λ fixed v x other formed.
      subst (λ (w : Option (List ℕ)). IfSome w (λ new. IsSomeAnd (v x) (λ old. length new ≡ length old))) (sym (ap (λ t. t.written x) (same fixed v))) (keeps.lengths fixed f v x other formed);
  tags = λ fixed v whole.
      subst (λ (p : Profile). IfSome ((stepped net_behaviour fixed (make f) v).written Tag) (λ new. (is_tag_list new ≡ true) × IsSomeAnd (v Tag) (λ old. length new ≤ length old + (if p.adds then 4 else 0)))) (sym (is.profile f))
      (subst (λ (w : Option (List ℕ)). IfSome w (λ new. (is_tag_list new ≡ true) × IsSomeAnd (v Tag) (λ old. length new ≤ length old + (if (b.profile f).adds then 4 else 0)))) (sym (ap (λ t. t.written Tag) (same fixed v))) (keeps.tags fixed f v whole));
  adds = λ fixed v h.
      subst (λ (w : Option (List ℕ)). IfSome w (λ new. IsSomeAnd (v Tag) (λ old. (length new ≡ length old + 4) × (drop 4 new ≡ old)))) (sym (ap (λ t. t.written Tag) (same fixed v)))
      (keeps.adds fixed f v (subst (λ (p : Profile). p.adds ≡ true) (is.profile f) h));
  removes = λ fixed v h.
      subst (λ (w : Option (List ℕ)). IfSome w (λ new. IsSomeAnd (v Tag) (λ old. new ≡ drop 4 old))) (sym (ap (λ t. t.written Tag) (same fixed v)))
      (keeps.removes fixed f v (subst (λ (p : Profile). p.removes ≡ true) (is.profile f) h));
}
  where
    same : (fixed : Fixed) (v : Values) → stepped net_behaviour fixed (make f) v ≡ as_any make (stepped b fixed f v)
    same fixed v = same_step b make is fixed f v

-- kind by kind
firewall_is : IsKind firewall_behaviour Firewall
unfolding profile_by step_by
firewall_is = record { profile = λ f. refl; step = λ f shown. refl }

nat_is : IsKind nat_behaviour Nat
unfolding profile_by step_by
nat_is = record { profile = λ f. refl; step = λ f shown. refl }

balancer_is : IsKind balancer_behaviour Balancer
unfolding profile_by step_by
balancer_is = record { profile = λ f. refl; step = λ f shown. refl }

monitor_is : IsKind monitor_behaviour Monitor
unfolding profile_by step_by
monitor_is = record { profile = λ f. refl; step = λ f shown. refl }

limiter_is : IsKind limiter_behaviour Limiter
unfolding profile_by step_by
limiter_is = record { profile = λ f. refl; step = λ f shown. refl }

marker_is : IsKind marker_behaviour Marker
unfolding profile_by step_by
marker_is = record { profile = λ f. refl; step = λ f shown. refl }

hop_is : IsKind hop_behaviour Hop
unfolding profile_by step_by
hop_is = record { profile = λ f. refl; step = λ f shown. refl }

tagger_is : IsKind tagger_behaviour Tagger
unfolding profile_by step_by
tagger_is = record { profile = λ f. refl; step = λ f shown. refl }

untagger_is : IsKind untagger_behaviour Untagger
unfolding profile_by step_by
untagger_is = record { profile = λ f. refl; step = λ f shown. refl }

signature_is : IsKind signature_behaviour Signature
unfolding profile_by step_by
signature_is = record { profile = λ f. refl; step = λ f shown. refl }

nexthop_is : IsKind nexthop_behaviour Nexthop
unfolding profile_by step_by
nexthop_is = record { profile = λ f. refl; step = λ f shown. refl }

redactor_is : IsKind redactor_behaviour Redactor
unfolding profile_by step_by
redactor_is = record { profile = λ f. refl; step = λ f shown. refl }

each_keeps : (f : NetFunction) → Keeps f
each_keeps (Firewall f) = kind_keeps firewall_behaviour Firewall firewall_is firewall_keeps f
each_keeps (Nat f) = kind_keeps nat_behaviour Nat nat_is nat_keeps f
each_keeps (Balancer f) = kind_keeps balancer_behaviour Balancer balancer_is balancer_keeps f
each_keeps (Monitor f) = kind_keeps monitor_behaviour Monitor monitor_is monitor_keeps f
each_keeps (Limiter f) = kind_keeps limiter_behaviour Limiter limiter_is limiter_keeps f
each_keeps (Marker f) = kind_keeps marker_behaviour Marker marker_is marker_keeps f
each_keeps (Hop f) = kind_keeps hop_behaviour Hop hop_is hop_keeps f
each_keeps (Tagger f) = kind_keeps tagger_behaviour Tagger tagger_is tagger_keeps f
each_keeps (Untagger f) = kind_keeps untagger_behaviour Untagger untagger_is untagger_keeps f
each_keeps (Signature f) = kind_keeps signature_behaviour Signature signature_is signature_keeps f
each_keeps (Nexthop f) = kind_keeps nexthop_behaviour Nexthop nexthop_is nexthop_keeps f
each_keeps (Redactor f) = kind_keeps redactor_behaviour Redactor redactor_is redactor_keeps f

pub net_keeps : KeepsProfile net_behaviour
net_keeps = record {
  stays = λ fixed f v. (each_keeps f).stays fixed v;
  writes = λ fixed f v x h. (each_keeps f).writes fixed v x h;
  drops = λ fixed f v h. (each_keeps f).drops fixed v h;
  state = λ fixed f v h counted. (each_keeps f).state fixed v h counted;
  lengths = λ fixed f v x other formed. (each_keeps f).lengths fixed v x other formed;
  tags = λ fixed f v whole. (each_keeps f).tags fixed v whole;
  adds = λ fixed f v h. (each_keeps f).adds fixed v h;
  removes = λ fixed f v h. (each_keeps f).removes fixed v h;
}
