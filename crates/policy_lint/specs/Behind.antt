-- For proofs: what is told of functions that stand behind others in the order of their chain. A place is that of a function as declared, counted from 0.
use Rattle.std.specs.Prelude.{ℕ, List, [], ◌∷◌, Bool, true, false, not, ◌&&◌, map, find, if◌then◌else◌, slice_get, Option, None}
use Rattle.std.specs.Option.{option_map, option_map_or, option_to_list}
use Rattle.std.specs.List.{list_any}
use Rattle.packet_fields.specs.declared.field.Field.TheVariants.{SrcIp}
use Rattle.action_profile.specs.Profiles.{profile_of, writes_of}
use Rattle.action_profile.specs.declared.kind.Kind.{Kind}
use Rattle.action_profile.specs.declared.kind.Kind.TheVariants.{Limiter}
use Rattle.policy_text.specs.declared.policy.FunctionDecl.{FunctionDecl}
use Rattle.policy_lint.specs.declared.finding.Finding.{Finding}
use Rattle.policy_lint.specs.declared.finding.Finding.TheVariants.{NeverReached, LimiterBehind}
use Rattle.policy_lint.specs.Firewalls.{drops_all}
use Rattle.policy_lint.specs.Gathering.{gathered}

-- whether the function at this place is such
abbrev pub is_at : (FunctionDecl → Bool) → List FunctionDecl → ℕ → Bool
is_at is functions place = option_map_or is (slice_get functions place) false

-- its line
abbrev pub line_at : List FunctionDecl → ℕ → ℕ
line_at functions place = option_map_or (λ d. d.line) (slice_get functions place) 0

abbrev pub told_unreached : List FunctionDecl → ℕ → ℕ → Finding
told_unreached functions dropper place = NeverReached (line_at functions place) (line_at functions dropper)

-- the functions behind the first that drops every packet
abbrev pub unreached : List FunctionDecl → List ℕ → List Finding
unreached functions [] = []
unreached functions (place ∷ order) = if is_at drops_all functions place then map (told_unreached functions place) order else unreached functions order

abbrev pub writes_source : FunctionDecl → Bool
writes_source decl = writes_of (profile_of decl.kind) SrcIp

abbrev pub is_limiter : Kind → Bool
is_limiter Limiter = true
is_limiter kind = false

abbrev pub limits : FunctionDecl → Bool
limits decl = is_limiter decl.kind

-- it rewrites packets whole, so that another source may be seen behind it
abbrev pub is_whole : FunctionDecl → Bool
is_whole decl = (profile_of decl.kind).whole

-- a limiter, behind the first that writes sources, where no function before it rewrites packets whole
abbrev pub told_behind : List FunctionDecl → List ℕ → ℕ → Option Finding
told_behind functions before place =
    if is_at limits functions place && not (list_any (is_at is_whole functions) before)
    then option_map (λ writer. LimiterBehind (line_at functions place) (line_at functions writer)) (find (is_at writes_source functions) before)
    else None

abbrev pub limited_behind : List FunctionDecl → List ℕ → List Finding
limited_behind functions order = gathered (λ before place. option_to_list (told_behind functions before place)) [] order
