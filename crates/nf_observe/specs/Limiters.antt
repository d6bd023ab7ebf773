-- Believed: a limiter: how it is declared, what it lets pass, and the lines that report its state.
use Rattle.std.specs.Prelude.{ℕ, List, [], ◌∷◌, Bool, true, false, if◌then◌else◌, Option, Some, fold}
use Rattle.std.specs.Option.{option_map_or}
use Rattle.std.specs.declared.net.ip_addr.IpAddr.{IpAddr}
use Rattle.frame_seen.specs.Seeing.{source_address}
use Rattle.action_profile.specs.Profiles.{profile_of}
use Rattle.action_profile.specs.declared.kind.Kind.TheVariants as kinds
use Rattle.chain_walk.specs.Shown.{Shown}
use Rattle.chain_walk.specs.Step.{Step, Behaviour, nothing, is_drop}
use Rattle.chain_walk.specs.declared.verdict.Verdict.{Verdict}
use Rattle.chain_walk.specs.declared.verdict.Verdict.TheVariants.{Pass, Drop}
use Rattle.packet_function.specs.Deciding.{Deciding}
use Rattle.packet_function.specs.declared.deciding.DecidingLine.TheVariants.{Set}
use Rattle.packet_function.specs.declared.deciding.SettingKey.TheVariants as keys
use Rattle.nf_observe.specs.Buckets.{full, filled, affords, paid}
use Rattle.first_sight.specs.FirstSight.{belonging, noted, lines_by}
use Rattle.first_sight.specs.SameAddress.{is_same_address}
use Rattle.nf_observe.specs.StateLines.{source_line}
use Rattle.nf_observe.specs.declared.bucket.TokenBucket.{TokenBucket}
use Rattle.nf_observe.specs.declared.limiter.Limiter.{Limiter}
use Rattle.nf_observe.specs.declared.limiter.lines.LimiterLine.{LimiterLine}
use Rattle.nf_observe.specs.declared.limiter.lines.LimiterLine.TheVariants as lines

-- before its lines are read
abbrev pub unset_limiter : Limiter
unset_limiter = record { rate = 0; burst = 0; sources = [] }

-- a limiter with the content of one more line
abbrev pub with_line : Limiter → LimiterLine → Limiter
with_line l (lines.Rate n) = record l { rate = n }
with_line l (lines.Burst n) = record l { burst = n }

-- the limiter that is declared by these lines has seen no source
abbrev pub limiter_by : List LimiterLine → Limiter
limiter_by said = fold with_line unset_limiter said

-- the bucket of a source at this time: a source that is new has a full one
abbrev pub bucket_of : Limiter → IpAddr → ℕ → TokenBucket
bucket_of l source time = option_map_or (filled l.rate l.burst time) (belonging is_same_address l.sources source) (full l.burst time)

-- a packet that is not paid for is dropped
abbrev pub verdict_by : Bool → Verdict
verdict_by true = Pass
verdict_by false = Drop

-- the source's bucket pays for a packet of this number of bytes at this time
abbrev pub limited : Limiter → IpAddr → ℕ → ℕ → Step Limiter
limited l source bytes time = record {
  after = record l { sources = noted is_same_address l.sources source (paid (bucket_of l source time) bytes) };
  verdict = verdict_by (affords (bucket_of l source time) bytes);
  written = nothing;
}

-- a packet whose source or length isn't known passes
abbrev pub limited_by : Limiter → Option IpAddr → Option ℕ → ℕ → Step Limiter
limited_by l (Some source) (Some bytes) time = limited l source bytes time
limited_by l source bytes time = record { after = l; verdict = Pass; written = nothing }

-- A limiter judges by the source and the IP length, and writes nothing. The IP length is IPv4's total length
-- (RFC 791, 3.1), and for IPv6 the 40 bytes of the header and its payload length (RFC 8200, 3).
abbrev pub limiter_step : Limiter → Shown → Step Limiter
limiter_step l shown = limited_by l (source_address shown.values) shown.fixed.ip_len shown.fixed.time

-- how limiters behave
abbrev pub limiter_behaviour : Behaviour Limiter
limiter_behaviour = record { profile = λ l. profile_of kinds.Limiter; step = limiter_step }

-- the line `set rate` decides on each packet that is dropped
abbrev pub limiter_decides : Deciding Limiter
limiter_decides l shown = if is_drop (limiter_step l shown).verdict then Set keys.Rate ∷ [] else []

-- a line for each source
abbrev pub limiter_text : Limiter → List ℕ
limiter_text l = lines_by (λ place source. source_line source.0 source.1) l.sources
