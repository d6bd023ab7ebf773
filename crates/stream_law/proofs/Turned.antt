-- The functions that a branch owns, in turn on what arrives: the law of bursts says the same, and a version goes on.
use Rattle.std.proofs.Common.{◌≡◌, ◌∙◌, ◌≤◌, ◌+◌, ℕ, suc, Bool, true, false, List, [], ◌∷◌, length, map, ap, refl, sym, subst}
use Rattle.std.specs.Prelude.{Option, Some, if◌then◌else◌}
use Rattle.std.proofs.lemmas.Option.{same_Some}
use Rattle.action_profile.specs.declared.parts.Touch.{Touch}
use Rattle.action_profile.specs.declared.rights.Profile.{Profile}
use Rattle.chain_walk.specs.Laws.{KeepsProfile}
use Rattle.chain_walk.specs.Notes.{Notes, noted}
use Rattle.chain_walk.specs.Step.{Behaviour, stepped, is_drop}
use Rattle.chain_walk.specs.declared.fixed.Fixed.{Fixed}
use Rattle.graph_compile.specs.Parts.{profile_at}
use Rattle.graph_law.specs.BranchNotes.{noted_of}
use Rattle.graph_law.specs.Branches.{BranchEnd, moved_function, moved_end, written_at}
use Rattle.packet_version.specs.Splitting.{PlainApart}
use Rattle.packet_version.specs.Versions.{PlainVersion, HoldsNamed}
use Rattle.burst_law.specs.Noting.{turned_notes}
use Rattle.burst_law.specs.Owned.{turned}
use Rattle.burst_law.specs.Stations.{Turn, then_state}
use Rattle.graph_run.specs.Carrying.{as_version, as_branch_end, wrote_at}
use Rattle.graph_run.specs.Staging.{Holds, IsCarried, IsCarriedBy}
use Rattle.packet_messages.specs.Messages.{PlainMessage, PlainMessage.Live, PlainMessage.Nil, PlainMessage.Short}
use Rattle.stage_nodes.specs.Streams.{as_arrival}
use Rattle.stream_law.specs.Owned.{moved_by, went_by, ran_by, noted_by, notes_by}
use Rattle.stream_law.proofs.Writes.{wrote_as}

-- the laws of versions that go on, as they are cited
abbrev pub GoesOnBehind : Type 0 → Type 0
GoesOnBehind F = (b : Behaviour F) (chain : List Profile) (whole : PlainApart) (touch : Touch) (low q : ℕ) (f : F) (v : PlainVersion) →
    KeepsProfile b → 1 ≤ q → low ≤ q → profile_at chain q ≡ Some (b.profile f) → HoldsNamed (b.profile f) touch → IsCarried chain whole touch low v →
    IsCarried chain whole touch (q + 1) (wrote_at q (stepped b v.fixed f (as_version v).values).written v)

abbrev pub GoesOnLater : Type 0
GoesOnLater = (chain : List Profile) (whole : PlainApart) (touch : Touch) (low high : ℕ) (v : PlainVersion) → low ≤ high → IsCarried chain whole touch low v → IsCarried chain whole touch high v

-- a message as the law of bursts sees it
abbrev pub as_end_of : PlainMessage PlainVersion → BranchEnd
as_end_of m = as_branch_end (as_arrival m)

-- a version has these fixed values
abbrev pub HasFixed : Fixed → PlainMessage PlainVersion → Type 0
HasFixed x (Live v) = v.fixed ≡ x
HasFixed x (Nil p) = Unit {0}
HasFixed x Short = Unit {0}

stays_fixed : {F : Type 0} (b : Behaviour F) (q : ℕ) (f : F) (x : Fixed) (m : PlainMessage PlainVersion) → HasFixed x m → HasFixed x (went_by b q f m)
stays_fixed b q f x (Live v) h = by_verdict (is_drop (stepped b v.fixed f (as_version v).values).verdict)
  where
    by_verdict : (d : Bool) → HasFixed x (if d then Nil q else Live (wrote_at q (stepped b v.fixed f (as_version v).values).written v))
    by_verdict true = tt
    by_verdict false = h
stays_fixed b q f x (Nil p) h = tt
stays_fixed b q f x Short h = tt

-- one function
moved_same : {F : Type 0} (b : Behaviour F) (f : F) (x : Fixed) (m : PlainMessage PlainVersion) → HasFixed x m → moved_by b f m ≡ moved_function b x f (as_end_of m)
unfolding moved_function
moved_same b f x (Live v) h = ap (λ y. (stepped b y f (as_version v).values).after) h
moved_same b f x (Nil p) h = refl
moved_same b f x Short h = refl

went_same : {F : Type 0} (b : Behaviour F) (q : ℕ) (f : F) (x : Fixed) (m : PlainMessage PlainVersion) → KeepsProfile b → HasFixed x m → as_end_of (went_by b q f m) ≡ moved_end b x q f (as_end_of m)
unfolding moved_end
went_same b q f x (Live v) keeps h =
    by_verdict (is_drop (stepped b v.fixed f (as_version v).values).verdict) ∙ ap (λ y. moved_end b y q f (as_end_of (Live v))) h
  where
    by_verdict : (d : Bool) → as_end_of (if d then Nil q else Live (wrote_at q (stepped b v.fixed f (as_version v).values).written v)) ≡ (if d then as_end_of (Nil q) else BranchEnd.Live (written_at q (stepped b v.fixed f (as_version v).values).written (as_version v)))
    by_verdict true = refl
    by_verdict false = ap (λ y. BranchEnd.Live y) (wrote_as b q f v keeps)
went_same b q f x (Nil p) keeps h = refl
went_same b q f x Short keeps h = refl

-- all, in turn
pub ran_same : {F : Type 0} (b : Behaviour F) (qs : List ℕ) (fs : List F) (x : Fixed) (m : PlainMessage PlainVersion) → KeepsProfile b → HasFixed x m →
    ◌≡◌ {A = Turn (List F) BranchEnd} (record { state = (ran_by b qs fs m).state; gives = as_end_of (ran_by b qs fs m).gives }) (turned b x qs fs (as_end_of m))
unfolding ran_by turned
ran_same b [] fs x m keeps h = refl
ran_same b (q ∷ qs) [] x m keeps h = refl
ran_same b (q ∷ qs) (f ∷ fs) x m keeps h =
    ap (then_state (moved_by b f m)) (ran_same b qs fs x (went_by b q f m) keeps (stays_fixed b q f x m h))
    ∙ (λ i. then_state (moved_same b f x m h i) (turned b x qs fs (went_same b q f x m keeps h i)))

-- and what they note about it
noted_same : {F N : Type 0} (b : Behaviour F) (notes : Notes F N) (f : F) (x : Fixed) (m : PlainMessage PlainVersion) → HasFixed x m → noted_by b notes f m ≡ noted_of b notes x f (as_end_of m)
unfolding noted_of
noted_same b notes f x (Live v) h = ap (λ y. noted b notes y f (as_version v).values) h
noted_same b notes f x (Nil p) h = refl
noted_same b notes f x Short h = refl

pub notes_same : {F N : Type 0} (b : Behaviour F) (notes : Notes F N) (qs : List ℕ) (fs : List F) (x : Fixed) (m : PlainMessage PlainVersion) → KeepsProfile b → HasFixed x m → notes_by b notes qs fs m ≡ turned_notes b notes x qs fs (as_end_of m)
unfolding notes_by turned_notes
notes_same b notes [] fs x m keeps h = refl
notes_same b notes (q ∷ qs) [] x m keeps h = refl
notes_same {F} {N} b notes (q ∷ qs) (f ∷ fs) x m keeps h =
    ap (λ (l : List (Option N)). noted_by b notes f m ∷ l) (notes_same b notes qs fs x (went_by b q f m) keeps (stays_fixed b q f x m h))
    ∙ (λ i. noted_same b notes f x m h i ∷ turned_notes b notes x qs fs (went_same b q f x m keeps h i))

-- functions keep their profiles
moved_profile : {F : Type 0} (b : Behaviour F) (f : F) (m : PlainMessage PlainVersion) → KeepsProfile b → b.profile (moved_by b f m) ≡ b.profile f
moved_profile b f (Live v) keeps = keeps.stays v.fixed f (as_version v).values
moved_profile b f (Nil p) keeps = refl
moved_profile b f Short keeps = refl

pub ran_profiles : {F : Type 0} (b : Behaviour F) (qs : List ℕ) (fs : List F) (m : PlainMessage PlainVersion) → KeepsProfile b → map b.profile (ran_by b qs fs m).state ≡ map b.profile fs
unfolding ran_by
ran_profiles b [] fs m keeps = refl
ran_profiles b (q ∷ qs) [] m keeps = refl
ran_profiles b (q ∷ qs) (f ∷ fs) m keeps = λ i. moved_profile b f m keeps i ∷ ran_profiles b qs fs (went_by b q f m) keeps i

-- what holds for the next position, and for those after it
record Next (chain : List Profile) (touch : Touch) (low high q : ℕ) (rest : List ℕ) : Type 0 where
  position : 1 ≤ q
  rises : low ≤ q
  profile : Profile
  is : profile_at chain q ≡ Some profile
  named : HoldsNamed profile touch
  later : Holds chain touch (q + 1) high rest

next_of : (chain : List Profile) (touch : Touch) (low high q : ℕ) (rest : List ℕ) → Holds chain touch low high (q ∷ rest) → Next chain touch low high q rest
unfolding Holds
next_of chain touch low high q rest h = record { position = h.0; rises = h.1; profile = h.2.0; is = h.2.1; named = h.2.2; later = h.3 }

none_held : (chain : List Profile) (touch : Touch) (low high : ℕ) → Holds chain touch low high [] → low ≤ high
unfolding Holds
none_held chain touch low high le = le

-- lists that begin alike
pub first_same : {A : Type 0} {x y : A} {xs ys : List A} → x ∷ xs ≡ y ∷ ys → x ≡ y
first_same e = cc

pub rest_same : {A : Type 0} {x y : A} {xs ys : List A} → x ∷ xs ≡ y ∷ ys → xs ≡ ys
rest_same e = cc

went_on : {F : Type 0} (b : Behaviour F) (chain : List Profile) (whole : PlainApart) (touch : Touch) (low high q : ℕ) (rest : List ℕ) (f : F) (m : PlainMessage PlainVersion) → GoesOnBehind F → KeepsProfile b →
    Next chain touch low high q rest → profile_at chain q ≡ Some (b.profile f) → IsCarriedBy chain whole touch low (as_arrival m) → IsCarriedBy chain whole touch (q + 1) (as_arrival (went_by b q f m))
went_on b chain whole touch low high q rest f (Live v) behind keeps next mine carried = by_verdict (is_drop (stepped b v.fixed f (as_version v).values).verdict)
  where
    by_verdict : (d : Bool) → IsCarriedBy chain whole touch (q + 1) (as_arrival (if d then Nil q else Live (wrote_at q (stepped b v.fixed f (as_version v).values).written v)))
    by_verdict true = tt
    by_verdict false =
        behind b chain whole touch low q f v keeps next.position next.rises mine
        (subst (λ p. HoldsNamed p touch) (same_Some next.profile (b.profile f) (sym next.is ∙ mine)) next.named) carried
went_on b chain whole touch low high q rest f (Nil p) behind keeps next mine carried = tt
went_on b chain whole touch low high q rest f Short behind keeps next mine carried = carried

carried_later : (chain : List Profile) (whole : PlainApart) (touch : Touch) (low high : ℕ) (m : PlainMessage PlainVersion) → GoesOnLater → low ≤ high → IsCarriedBy chain whole touch low (as_arrival m) → IsCarriedBy chain whole touch high (as_arrival m)
carried_later chain whole touch low high (Live v) later le carried = later chain whole touch low high v le carried
carried_later chain whole touch low high (Nil p) later le carried = tt
carried_later chain whole touch low high Short later le carried = carried

-- a version goes on through all of them
pub ran_carried : {F : Type 0} (b : Behaviour F) (chain : List Profile) (whole : PlainApart) (touch : Touch) (low high : ℕ) (qs : List ℕ) (fs : List F) (m : PlainMessage PlainVersion) → GoesOnBehind F → GoesOnLater → KeepsProfile b →
    map (profile_at chain) qs ≡ map (λ p. Some p) (map b.profile fs) → Holds chain touch low high qs → IsCarriedBy chain whole touch low (as_arrival m) → IsCarriedBy chain whole touch high (as_arrival (ran_by b qs fs m).gives)
unfolding ran_by
ran_carried b chain whole touch low high [] fs m behind later keeps at holds carried = carried_later chain whole touch low high m later (none_held chain touch low high holds) carried
ran_carried b chain whole touch low high (q ∷ qs) [] m behind later keeps at holds carried = absurd cc
ran_carried b chain whole touch low high (q ∷ qs) (f ∷ fs) m behind later keeps at holds carried =
    let next = next_of chain touch low high q qs holds in
    ran_carried b chain whole touch (q + 1) high qs fs (went_by b q f m) behind later keeps (rest_same at) next.later
    (went_on b chain whole touch low high q qs f m behind keeps next (first_same at) carried)

-- as many functions as positions
pub as_many : {F : Type 0} (b : Behaviour F) (chain : List Profile) (qs : List ℕ) (fs : List F) → map (profile_at chain) qs ≡ map (λ p. Some p) (map b.profile fs) → length fs ≡ length qs
as_many b chain [] [] e = refl
as_many b chain [] (f ∷ fs) e = absurd cc
as_many b chain (q ∷ qs) [] e = absurd cc
as_many b chain (q ∷ qs) (f ∷ fs) e = ap suc (as_many b chain qs fs (rest_same e))
