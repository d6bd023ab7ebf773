-- For proofs: the functions that a branch owns, one after another on what arrives.
use Rattle.std.specs.Prelude.{◌≡◌, ◌<◌, ℕ, suc, List, [], ◌∷◌, ◌++◌, length, map, Bool, Option, Some, None, if◌then◌else◌}
use Rattle.std.specs.List.{list_any}
use Rattle.action_profile.specs.declared.parts.Touch.{Touch}
use Rattle.action_profile.specs.declared.rights.Profile.{Profile}
use Rattle.chain_walk.specs.Notes.{Notes, noted}
use Rattle.chain_walk.specs.Step.{Behaviour, stepped, is_drop}
use Rattle.graph_compile.specs.Parts.{profile_at}
use Rattle.packet_version.specs.Splitting.{PlainApart}
use Rattle.packet_version.specs.Versions.{PlainVersion}
use Rattle.burst_law.specs.Noting.{OwnNote, row_listed}
use Rattle.burst_law.specs.Stations.{Turn, then_state}
use Rattle.graph_run.specs.Carrying.{as_version, wrote_at}
use Rattle.graph_run.specs.Running.{profiles_of}
use Rattle.graph_run.specs.Staging.{Holds, IsCarried}
use Rattle.packet_messages.specs.Messages.{PlainMessage, PlainMessage.Live, PlainMessage.Nil, PlainMessage.Short}
use Rattle.stage_nodes.specs.Streams.{Kit}

-- Functions of a branch with their chain positions, and the number of packets in a burst. If one of them counts, the
-- branch numbers the packets that arrive, and lists what is noted about them.
pub record PlainOwned (F N : Type 0) : Type 0 where
  pub functions : List F
  pub positions : List ℕ
  pub packets : ℕ
  pub counts : Bool
  pub seen : ℕ
  pub listed : List (OwnNote N)

-- one of these functions counts
abbrev pub any_counts : {F : Type 0} → Behaviour F → List F → Bool
any_counts b functions = list_any (λ f. (b.profile f).counts) functions

-- Functions with these profiles have these positions in a chain, which rise from one bound to another, and a branch with this
-- touch holds what they name.
pub record IsBranch (chain : List Profile) (touch : Touch) (low high : ℕ) (positions : List ℕ) (own : List Profile) : Type 0 where
  pub at : map (profile_at chain) positions ≡ map (λ p. Some p) own
  pub holds : Holds chain touch low high positions

-- A version is ready for a branch that owns functions with these profiles.
pub record IsOwnReady (own : List Profile) (positions : List ℕ) (version : PlainVersion) : Type 0 where
  pub chain : List Profile
  pub whole : PlainApart
  pub low : ℕ
  pub high : ℕ
  pub branch : IsBranch chain version.touch low high positions own
  pub carried : IsCarried chain whole version.touch low version

-- a function after what arrived at it; a message without a packet it never sees
abbrev pub moved_by : {F : Type 0} → Behaviour F → F → PlainMessage PlainVersion → F
moved_by b f (Live v) = (stepped b v.fixed f (as_version v).values).after
moved_by b f (Nil p) = f
moved_by b f Short = f

-- what goes on from the function at this position: the version as it wrote it, or its drop
abbrev pub went_by : {F : Type 0} → Behaviour F → ℕ → F → PlainMessage PlainVersion → PlainMessage PlainVersion
went_by b q f (Live v) =
    if is_drop (stepped b v.fixed f (as_version v).values).verdict then Nil q else Live (wrote_at q (stepped b v.fixed f (as_version v).values).written v)
went_by b q f (Nil p) = Nil p
went_by b q f Short = Short

-- the functions of a branch, which have these positions, one after another, until one drops the packet
unfoldable pub ran_by : {F : Type 0} → Behaviour F → List ℕ → List F → PlainMessage PlainVersion → Turn (List F) (PlainMessage PlainVersion)
ran_by b [] fs m = record { state = fs; gives = m }
ran_by b (q ∷ qs) [] m = record { state = []; gives = m }
ran_by b (q ∷ qs) (f ∷ fs) m = then_state (moved_by b f m) (ran_by b qs fs (went_by b q f m))

-- what a function notes about what arrives
abbrev pub noted_by : {F N : Type 0} → Behaviour F → Notes F N → F → PlainMessage PlainVersion → Option N
noted_by b notes f (Live v) = noted b notes v.fixed f (as_version v).values
noted_by b notes f (Nil p) = None
noted_by b notes f Short = None

-- and the functions of a branch, one after another
unfoldable pub notes_by : {F N : Type 0} → Behaviour F → Notes F N → List ℕ → List F → PlainMessage PlainVersion → List (Option N)
notes_by b notes [] fs m = []
notes_by b notes (q ∷ qs) [] m = []
notes_by b notes (q ∷ qs) (f ∷ fs) m = noted_by b notes f m ∷ notes_by b notes qs fs (went_by b q f m)

-- the number of the packet that comes next
abbrev pub next_seen : {F N : Type 0} → PlainOwned F N → ℕ
next_seen o = if o.counts then suc o.seen else o.seen

-- a branch by the functions that it owns
abbrev pub owned_kit : {F N : Type 0} → Behaviour F → Notes F N → Kit (PlainOwned F N)
owned_kit b notes = record {
  gives = λ o v. (ran_by b o.positions o.functions (Live v)).gives;
  after = λ o v. record o {
    functions = (ran_by b o.positions o.functions (Live v)).state;
    seen = next_seen o;
    listed = o.listed ++ row_listed o.seen 0 (notes_by b notes o.positions o.functions (Live v));
  };
  past = λ o. record o { seen = next_seen o };
}

-- The version of the packet with this number may arrive: the burst has such a packet, each function has its position,
-- and the version is ready for them.
abbrev pub owned_may : {F N : Type 0} → Behaviour F → PlainOwned F N → ℕ → PlainVersion → Type 0
owned_may b o p v = (p < o.packets) × (length o.functions ≡ length o.positions) × IsOwnReady (profiles_of b o.functions) o.positions v
