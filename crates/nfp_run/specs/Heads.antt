-- Believed: the head that is written: its snaplen grows by the greatest growth of a frame.
use Rattle.std.specs.Prelude.{ℕ, ◌+◌, min, if◌then◌else◌, ◌==◌}
use Rattle.std.specs.List.{sum_by}
use Rattle.action_profile.specs.Profiles.{profile_of}
use Rattle.action_profile.specs.declared.kind.Kind.{Kind}
use Rattle.action_profile.specs.declared.kind.Kind.TheVariants.{Encap}
use Rattle.pcap_io.specs.declared.capture.CaptureHead.{CaptureHead}
use Rattle.policy_text.specs.declared.policy.ChainPolicy.{ChainPolicy}
use Rattle.capture_run.specs.ChainService.{Chains}

-- the bytes that a function of this kind may add to a frame: a tag 4 (IEEE 802.1Q, 9.3), a header 20 (RFC 2003, 3.1)
abbrev pub growth_by : Kind → ℕ
growth_by Encap = 20
growth_by kind = if (profile_of kind).adds then 4 else 0

-- the bytes that those of a chain may add
abbrev pub growth_in : ChainPolicy → ℕ
growth_in chain = sum_by (λ f. growth_by f.kind) chain.functions

-- the bytes that those of all chains may add
abbrev pub growth_among : Chains → ℕ
growth_among chains = sum_by growth_in chains.declared

-- the same, up to the largest number of 32 bits
abbrev pub growth_of : Chains → ℕ
growth_of chains = min (growth_among chains) 4294967295

-- the head that was read, its snaplen grown by as much, up to the largest number that fits in a head; 0 means no limit
-- and stays
abbrev pub written_head : Chains → CaptureHead → CaptureHead
written_head chains head = record head { snaplen = if head.snaplen == 0 then 0 else min (head.snaplen + growth_among chains) 4294967295 }
