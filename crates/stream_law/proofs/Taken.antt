-- A branch that owns its functions may take all that arrives of a burst, and its results are as the law of bursts says.
use Rattle.std.proofs.Common.{◌≡◌, ◌∙◌, ◌≤◌, ◌+◌, ℕ, suc, List, [], ◌∷◌, ◌++◌, length, map, ap, refl, sym, subst, arith, Bool, true, false, Some, None, if◌then◌else◌, append_assoc}
use Rattle.std.specs.Prelude.{◌||◌, Option}
use Rattle.std.specs.List.{list_any}
use Rattle.std.proofs.lemmas.List.{append-nil}
use Rattle.action_profile.specs.declared.parts.Touch.{Touch}
use Rattle.action_profile.specs.declared.rights.Profile.{Profile}
use Rattle.chain_walk.specs.Laws.{KeepsProfile}
use Rattle.chain_walk.specs.Notes.{Notes}
use Rattle.chain_walk.specs.Shown.{shown_by}
use Rattle.chain_walk.specs.Step.{Behaviour}
use Rattle.chain_walk.specs.declared.fixed.Fixed.{Fixed}
use Rattle.graph_compile.specs.Parts.{profile_at}
use Rattle.graph_compile.specs.declared.graph.Branch.{Branch}
use Rattle.graph_law.specs.BranchNotes.{noted_of}
use Rattle.graph_law.specs.Branches.{BranchEnd, BranchEnd.Live as LiveEnd, BranchEnd.Nil as NilEnd, dealt as dealt_by_law, moved_end, moved_function}
use Rattle.packet_version.specs.Splitting.{PlainApart}
use Rattle.packet_version.specs.Dealing.{dealt}
use Rattle.packet_version.specs.Versions.{PlainVersion}
use Rattle.merge_ops.specs.declared.merging.Merged.{Merged}
use Rattle.merge_ops.specs.declared.merging.Merged.TheVariants as ends
use Rattle.burst_law.specs.Bursts.{Message, Message.Here, Message.Lost, branch_turn}
use Rattle.burst_law.specs.Noting.{OwnNote, branch_notes, row_listed, rows_listed, stream_notes, turned_notes}
use Rattle.burst_law.specs.Owned.{turned}
use Rattle.burst_law.specs.Stations.{Turn, then_gives, one_by_one}
use Rattle.graph_run.specs.Carrying.{as_branch_end, as_version, values_in}
use Rattle.graph_run.specs.Staging.{Holds, IsCarried}
use Rattle.graph_run.specs.Stages.{GoesFrom}
use Rattle.packet_messages.specs.Messages.{PlainMessage, PlainMessage.Live, PlainMessage.Nil, PlainMessage.Short}
use Rattle.stage_nodes.specs.Streams.{parted, gave, moved, ran, left, as_arrival, of_merged}
use Rattle.stage_nodes.specs.Flows.{MayTake, MayTakeAll}
use Rattle.stream_law.specs.Messages.{as_message}
use Rattle.stream_law.specs.Owned.{PlainOwned, any_counts, next_seen, owned_kit, owned_may}
use Rattle.stream_law.specs.Ready.{AllEnter, MayEnter}
use Rattle.stream_law.proofs.Turned.{as_end_of, notes_same, ran_same, ran_profiles, as_many}

-- the laws of what a branch gets, as they are cited
abbrev pub DealtIsSame : Type 0
DealtIsSame = (whole : PlainApart) (touch : Touch) → LiveEnd (as_version (dealt whole touch)) ≡ dealt_by_law touch (values_in whole)

abbrev pub DealtGoesOn : Type 0
DealtGoesOn = (chain : List Profile) (whole : PlainApart) (touch : Touch) (first : ℕ) → GoesFrom chain first whole → IsCarried chain whole touch first (dealt whole touch)

-- a branch after a message
pub moved_positions : {F N : Type 0} (b : Behaviour F) (notes : Notes F N) (o : PlainOwned F N) (x : PlainMessage PlainVersion) → (moved (owned_kit b notes) o x).positions ≡ o.positions
moved_positions b notes o (Live v) = refl
moved_positions b notes o (Nil p) = refl
moved_positions b notes o Short = refl

pub moved_packets : {F N : Type 0} (b : Behaviour F) (notes : Notes F N) (o : PlainOwned F N) (x : PlainMessage PlainVersion) → (moved (owned_kit b notes) o x).packets ≡ o.packets
moved_packets b notes o (Live v) = refl
moved_packets b notes o (Nil p) = refl
moved_packets b notes o Short = refl

pub moved_profiles : {F N : Type 0} (b : Behaviour F) (notes : Notes F N) (o : PlainOwned F N) (x : PlainMessage PlainVersion) → KeepsProfile b → map b.profile (moved (owned_kit b notes) o x).functions ≡ map b.profile o.functions
moved_profiles b notes o (Live v) keeps = ran_profiles b o.positions o.functions (Live v) keeps
moved_profiles b notes o (Nil p) keeps = refl
moved_profiles b notes o Short keeps = refl

-- a branch's result, as the law of bursts sees it
abbrev pub as_ends : List (PlainMessage PlainVersion) → List BranchEnd
as_ends row = map as_branch_end (map as_arrival row)

-- by the law of bursts
one_turn : {F N : Type 0} (b : Behaviour F) (notes : Notes F N) (o : PlainOwned F N) (x : Branch) (t : Touch) (m : Merged) → KeepsProfile b → DealtIsSame → o.positions ≡ x.positions →
    ◌≡◌ {A = Turn (List F) BranchEnd} (branch_turn b (x, t) o.functions (as_message m)) (record { state = (moved (owned_kit b notes) o (parted t (of_merged m))).functions; gives = as_end_of (gave (owned_kit b notes) o (parted t (of_merged m))) })
one_turn b notes o x t (ends.Whole whole) keeps law at =
    ap (turned b whole.fixed x.positions o.functions) (sym (law whole t))
    ∙ ap (λ (ps : List ℕ). turned b whole.fixed ps o.functions (LiveEnd (as_version (dealt whole t)))) (sym at)
    ∙ sym (ran_same b o.positions o.functions whole.fixed (Live (dealt whole t)) keeps refl)
one_turn b notes o x t (ends.Gone p) keeps law at = refl
one_turn b notes o x t ends.Short keeps law at = refl

pub stream_same : {F N : Type 0} (b : Behaviour F) (notes : Notes F N) (o : PlainOwned F N) (x : Branch) (t : Touch) (packets : List Merged) → KeepsProfile b → DealtIsSame → o.positions ≡ x.positions →
    ◌≡◌ {A = Turn (List F) (List BranchEnd)} (one_by_one (branch_turn b (x, t)) o.functions (map as_message packets))
    (record { state = (left (owned_kit b notes) o (map (parted t) (map of_merged packets))).functions; gives = as_ends (ran (owned_kit b notes) o (map (parted t) (map of_merged packets))) })
unfolding one_by_one ran left
stream_same b notes o x t [] keeps law at = refl
stream_same {F} {N} b notes o x t (m ∷ packets) keeps law at =
    let y : PlainMessage PlainVersion = parted t (of_merged m) in
    ap (λ (r : Turn (List F) BranchEnd). then_gives r.gives (one_by_one (branch_turn b (x, t)) r.state (map as_message packets))) (one_turn b notes o x t m keeps law at)
    ∙ ap (then_gives (as_end_of (gave (owned_kit b notes) o y))) (stream_same b notes (moved (owned_kit b notes) o y) x t packets keeps law (moved_positions b notes o y ∙ at))

pub left_positions : {F N : Type 0} (b : Behaviour F) (notes : Notes F N) (o : PlainOwned F N) (xs : List (PlainMessage PlainVersion)) → (left (owned_kit b notes) o xs).positions ≡ o.positions
unfolding left
left_positions b notes o [] = refl
left_positions b notes o (x ∷ xs) = left_positions b notes (moved (owned_kit b notes) o x) xs ∙ moved_positions b notes o x

moved_counts : {F N : Type 0} (b : Behaviour F) (notes : Notes F N) (o : PlainOwned F N) (x : PlainMessage PlainVersion) → (moved (owned_kit b notes) o x).counts ≡ o.counts
moved_counts b notes o (Live v) = refl
moved_counts b notes o (Nil p) = refl
moved_counts b notes o Short = refl

any_same : {F : Type 0} (b : Behaviour F) (fs : List F) → any_counts b fs ≡ list_any (λ p. p.counts) (map b.profile fs)
any_same b [] = refl
any_same b (f ∷ fs) = ap (λ c. (b.profile f).counts || c) (any_same b fs)

moved_any : {F N : Type 0} (b : Behaviour F) (notes : Notes F N) (o : PlainOwned F N) (x : PlainMessage PlainVersion) → KeepsProfile b → any_counts b (moved (owned_kit b notes) o x).functions ≡ any_counts b o.functions
moved_any b notes o x keeps = any_same b (moved (owned_kit b notes) o x).functions ∙ ap (list_any (λ (p : Profile). p.counts)) (moved_profiles b notes o x keeps) ∙ sym (any_same b o.functions)

-- if no function counts, nothing is listed
none_listed : {N : Type 0} (packet index : ℕ) (qs : List ℕ) → row_listed {N = N} packet index (map (λ q. None) qs) ≡ []
unfolding row_listed
none_listed packet index [] = refl
none_listed packet index (q ∷ qs) = none_listed packet (index + 1) qs

neither : (c d : Bool) → (c || d) ≡ false → (c ≡ false) × (d ≡ false)
neither true d e = absurd cc
neither false d e = (refl, e)

silent_note : {F N : Type 0} (b : Behaviour F) (notes : Notes F N) (fixed : Fixed) (f : F) (a : BranchEnd) → (b.profile f).counts ≡ false → noted_of b notes fixed f a ≡ None
unfolding noted_of
silent_note b notes fixed f (LiveEnd v) e = ap (λ (c : Bool). if c then notes.look f (shown_by (b.profile f) fixed v.values) else None) e
silent_note b notes fixed f (NilEnd q) e = refl

silent_turn : {F N : Type 0} (b : Behaviour F) (notes : Notes F N) (fixed : Fixed) (packet index : ℕ) (qs : List ℕ) (fs : List F) (a : BranchEnd) → any_counts b fs ≡ false → row_listed packet index (turned_notes b notes fixed qs fs a) ≡ []
unfolding row_listed turned_notes
silent_turn b notes fixed packet index [] fs a e = refl
silent_turn b notes fixed packet index (q ∷ qs) [] a e = refl
silent_turn {F} {N} b notes fixed packet index (q ∷ qs) (f ∷ fs) a e =
    let both = neither (b.profile f).counts (any_counts b fs) e in
    ap (λ (o : Option N). row_listed packet index (o ∷ turned_notes b notes fixed qs fs (moved_end b fixed q f a))) (silent_note b notes fixed f a both.0)
    ∙ silent_turn b notes fixed packet (index + 1) qs fs (moved_end b fixed q f a) both.1

silent_row : {F N : Type 0} (b : Behaviour F) (notes : Notes F N) (packet : ℕ) (x : Branch × Touch) (fs : List F) (m : Message) → any_counts b fs ≡ false → row_listed packet 0 (branch_notes b notes x fs m) ≡ []
silent_row b notes packet x fs (Here fixed values) e = silent_turn b notes fixed packet 0 x.0.positions fs (dealt_by_law x.1 values) e
silent_row b notes packet x fs (Lost p) e = none_listed packet 0 x.0.positions

function_counts : {F : Type 0} (b : Behaviour F) (fixed : Fixed) (f : F) (a : BranchEnd) → KeepsProfile b → (b.profile (moved_function b fixed f a)).counts ≡ (b.profile f).counts
unfolding moved_function
function_counts b fixed f (LiveEnd v) keeps = ap (λ (p : Profile). p.counts) (keeps.stays fixed f v.values)
function_counts b fixed f (NilEnd q) keeps = refl

turned_counts : {F : Type 0} (b : Behaviour F) (fixed : Fixed) (qs : List ℕ) (fs : List F) (a : BranchEnd) → KeepsProfile b → any_counts b (turned b fixed qs fs a).state ≡ any_counts b fs
unfolding turned
turned_counts b fixed [] fs a keeps = refl
turned_counts b fixed (q ∷ qs) [] a keeps = refl
turned_counts b fixed (q ∷ qs) (f ∷ fs) a keeps = λ i. function_counts b fixed f a keeps i || turned_counts b fixed qs fs (moved_end b fixed q f a) keeps i

turn_counts : {F : Type 0} (b : Behaviour F) (x : Branch × Touch) (fs : List F) (m : Message) → KeepsProfile b → any_counts b (branch_turn b x fs m).state ≡ any_counts b fs
turn_counts b x fs (Here fixed values) keeps = turned_counts b fixed x.0.positions fs (dealt_by_law x.1 values) keeps
turn_counts b x fs (Lost p) keeps = refl

silent_rows : {F N : Type 0} (b : Behaviour F) (notes : Notes F N) (packet : ℕ) (x : Branch × Touch) (fs : List F) (ms : List Message) → KeepsProfile b → any_counts b fs ≡ false → rows_listed packet (stream_notes b notes x fs ms) ≡ []
unfolding rows_listed stream_notes
silent_rows b notes packet x fs [] keeps e = refl
silent_rows b notes packet x fs (m ∷ ms) keeps e =
    λ i. silent_row b notes packet x fs m e i ++ silent_rows b notes (packet + 1) x (branch_turn b x fs m).state ms keeps (turn_counts b x fs m keeps ∙ e) i

-- a branch in which a function counts numbers each packet
numbered : {F N : Type 0} (b : Behaviour F) (notes : Notes F N) (c : Bool) (packet : ℕ) (x : Branch × Touch) (fs : List F) (ms : List Message) → KeepsProfile b → c ≡ any_counts b fs →
    rows_listed (if c then suc packet else packet) (stream_notes b notes x fs ms) ≡ rows_listed (packet + 1) (stream_notes b notes x fs ms)
numbered b notes true packet x fs ms keeps e = let next : suc packet ≡ packet + 1 = omega arith in ap (λ (k : ℕ). rows_listed k (stream_notes b notes x fs ms)) next
numbered b notes false packet x fs ms keeps e = silent_rows b notes packet x fs ms keeps (sym e) ∙ sym (silent_rows b notes (packet + 1) x fs ms keeps (sym e))

moved_seen : {F N : Type 0} (b : Behaviour F) (notes : Notes F N) (chain : List Profile) (low : ℕ) (o : PlainOwned F N) (t : Touch) (m : Merged) → MayEnter chain low m → (moved (owned_kit b notes) o (parted t (of_merged m))).seen ≡ next_seen o
moved_seen b notes chain low o t (ends.Whole whole) enter = refl
moved_seen b notes chain low o t (ends.Gone p) enter = refl
moved_seen b notes chain low o t ends.Short enter = absurd enter

-- what it lists for a packet, and for all
one_listed : {F N : Type 0} (b : Behaviour F) (notes : Notes F N) (o : PlainOwned F N) (x : Branch) (t : Touch) (m : Merged) → KeepsProfile b → DealtIsSame → o.positions ≡ x.positions →
    (moved (owned_kit b notes) o (parted t (of_merged m))).listed ≡ o.listed ++ row_listed o.seen 0 (branch_notes b notes (x, t) o.functions (as_message m))
one_listed {F} {N} b notes o x t (ends.Whole whole) keeps law at =
    ap (λ (row : List (Option N)). o.listed ++ row_listed o.seen 0 row)
    (notes_same b notes o.positions o.functions whole.fixed (Live (dealt whole t)) keeps refl
    ∙ (ap (λ (ps : List ℕ). turned_notes b notes whole.fixed ps o.functions (LiveEnd (as_version (dealt whole t)))) at
    ∙ ap (turned_notes b notes whole.fixed x.positions o.functions) (law whole t)))
one_listed {F} {N} b notes o x t (ends.Gone p) keeps law at = sym (append-nil o.listed) ∙ ap (λ (l : List (OwnNote N)). o.listed ++ l) (sym (none_listed o.seen 0 x.positions))
one_listed {F} {N} b notes o x t ends.Short keeps law at = sym (append-nil o.listed) ∙ ap (λ (l : List (OwnNote N)). o.listed ++ l) (sym (none_listed o.seen 0 x.positions))

pub stream_listed : {F N : Type 0} (b : Behaviour F) (notes : Notes F N) (chain : List Profile) (low : ℕ) (o : PlainOwned F N) (x : Branch) (t : Touch) (packets : List Merged) → KeepsProfile b → DealtIsSame → o.positions ≡ x.positions → o.counts ≡ any_counts b o.functions → AllEnter chain low packets →
    (left (owned_kit b notes) o (map (parted t) (map of_merged packets))).listed ≡ o.listed ++ rows_listed o.seen (stream_notes b notes (x, t) o.functions (map as_message packets))
unfolding rows_listed stream_notes left
stream_listed b notes chain low o x t [] keeps law at counts enter = sym (append-nil o.listed)
stream_listed {F} {N} b notes chain low o x t (m ∷ packets) keeps law at counts enter =
    let y : PlainMessage PlainVersion = parted t (of_merged m) in
    let next : PlainOwned F N = moved (owned_kit b notes) o y in
    let ms : List Message = map as_message packets in
    let row : List (OwnNote N) = row_listed o.seen 0 (branch_notes b notes (x, t) o.functions (as_message m)) in
    let still : o.counts ≡ any_counts b next.functions = counts ∙ sym (moved_any b notes o y keeps) in
    let turn : (branch_turn b (x, t) o.functions (as_message m)).state ≡ next.functions = ap (λ (r : Turn (List F) BranchEnd). r.state) (one_turn b notes o x t m keeps law at) in
    stream_listed b notes chain low next x t packets keeps law (moved_positions b notes o y ∙ at) (moved_counts b notes o y ∙ still) (λ k n e. enter (suc k) n e)
    ∙ (λ i. one_listed b notes o x t m keeps law at i ++ rows_listed (moved_seen b notes chain low o t m (enter 0 m refl) i) (stream_notes b notes (x, t) next.functions ms))
    ∙ ap (λ (l : List (OwnNote N)). (o.listed ++ row) ++ l) (numbered b notes o.counts o.seen (x, t) next.functions ms keeps still)
    ∙ ap (λ (fs : List F). (o.listed ++ row) ++ rows_listed (o.seen + 1) (stream_notes b notes (x, t) fs ms)) (sym turn)
    ∙ append_assoc o.listed row (rows_listed (o.seen + 1) (stream_notes b notes (x, t) (branch_turn b (x, t) o.functions (as_message m)).state ms))

-- it may take it all
may_take : {F N : Type 0} (b : Behaviour F) (chain : List Profile) (low high : ℕ) (t : Touch) (o : PlainOwned F N) (p : ℕ) (m : Merged) (packets : List Merged) → DealtGoesOn →
    map (profile_at chain) o.positions ≡ map (λ p. Some p) (map b.profile o.functions) → Holds chain t low high o.positions → AllEnter chain low (m ∷ packets) → p + suc (length packets) ≤ o.packets →
    MayTake (owned_may b) o p (parted t (of_merged m))
may_take b chain low high t o p (ends.Whole whole) packets goes at holds enter many = (
  omega arith,
  as_many b chain o.positions o.functions at,
  record { chain = chain; whole = whole; low = low; high = high; branch = record { at = at; holds = holds }; carried = goes chain whole t low (enter 0 (ends.Whole whole) refl) },
)
may_take b chain low high t o p (ends.Gone q) packets goes at holds enter many = tt
may_take b chain low high t o p ends.Short packets goes at holds enter many = tt

pub may_take_all : {F N : Type 0} (b : Behaviour F) (notes : Notes F N) (chain : List Profile) (low high : ℕ) (t : Touch) (o : PlainOwned F N) (p : ℕ) (packets : List Merged) → DealtGoesOn → KeepsProfile b →
    map (profile_at chain) o.positions ≡ map (λ p. Some p) (map b.profile o.functions) → Holds chain t low high o.positions → AllEnter chain low packets → p + length packets ≤ o.packets →
    MayTakeAll (owned_kit b notes) (owned_may b) o p (map (parted t) (map of_merged packets))
unfolding MayTakeAll
may_take_all b notes chain low high t o p [] goes keeps at holds enter many = tt
may_take_all {F} {N} b notes chain low high t o p (m ∷ packets) goes keeps at holds enter many =
    let x : PlainMessage PlainVersion = parted t (of_merged m) in
    let next : PlainOwned F N = moved (owned_kit b notes) o x in
    let count = moved_packets b notes o x in (
      may_take b chain low high t o p m packets goes at holds enter many,
      may_take_all b notes chain low high t next (suc p) packets goes keeps
          (ap (map (profile_at chain)) (moved_positions b notes o x) ∙ (at ∙ ap (map (λ p. Some p)) (sym (moved_profiles b notes o x keeps))))
          (subst (Holds chain t low high) (sym (moved_positions b notes o x)) holds) (λ k n e. enter (suc k) n e) (omega arith),
    )
