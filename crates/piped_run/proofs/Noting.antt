-- What the functions of a branch note about a packet, in turn, and list.
use Rattle.std.proofs.Common.{◌≡◌, ◌≢◌, ◌∙◌, ◌<◌, ◌≤◌, ◌+◌, ℕ, List, [], ◌∷◌, ◌++◌, length, drop, set, get_or, sym, ap, refl, subst, arith, append_assoc}
use Rattle.std.specs.Prelude.{false, Option, Some, None}
use Rattle.std.proofs.lemmas.List.{append-nil, drop_more, drop_all, drop-set-lt}
use Rattle.chain_walk.specs.Notes.{Notes, noted}
use Rattle.chain_walk.specs.Step.{Behaviour, stepped}
use Rattle.graph_law.specs.Branches.{BranchEnd.Live as Alive, moved_end}
use Rattle.packet_version.specs.Versions.{PlainVersion}
use Rattle.merge_ops.specs.declared.arrival.Arrival.{Arrival}
use Rattle.merge_ops.specs.declared.arrival.Arrival.TheVariants as cames
use Rattle.burst_law.specs.Noting.{OwnNote, row_listed}
use Rattle.graph_run.specs.Carrying.{as_version, as_branch_end}
use Rattle.graph_run.specs.Staging.{IsWhatWasWritten}
use Rattle.packet_messages.specs.Messages.{PlainMessage, PlainMessage.Live, PlainMessage.Nil, is_short, plain}
use Rattle.packet_messages.specs.declared.message.Message.{Message}
use Rattle.packet_messages.specs.declared.message.Message.TheVariants as made
use Rattle.stream_law.specs.Owned.{went_by, notes_by}
use Rattle.piped_run.specs.Turns.{AddsAll, AddsSome, as_sent}
use Rattle.piped_run.proofs.Turns.{went_same}

-- one more note
row_more : {N : Type 0} (packet index : ℕ) (note : Option N) (row : List (Option N)) → row_listed packet index (note ∷ row) ≡ row_listed packet index (note ∷ []) ++ row_listed packet (index + 1) row
unfolding row_listed
row_more packet index None row = refl
row_more packet index (Some n) row = refl

-- a packet that was dropped isn't noted
pub gone_notes : {F N : Type 0} (b : Behaviour F) (notes : Notes F N) (qs : List ℕ) (fs : List F) (p packet index : ℕ) → row_listed packet index (notes_by b notes qs fs (Nil p)) ≡ []
unfolding row_listed notes_by
gone_notes b notes [] fs p packet index = refl
gone_notes b notes (q ∷ qs) [] p packet index = refl
gone_notes b notes (q ∷ qs) (f ∷ fs) p packet index = gone_notes b notes qs fs p packet (index + 1)

-- This number of functions had their turn: their notes are listed, and with those of the rest they are all. What goes
-- on is this.
pub record OwnNoted {F N : Type 0} (b : Behaviour F) (notes : Notes F N) (packet : ℕ) (positions : List ℕ) (first now : List F) (v0 : PlainVersion) (m : PlainMessage PlainVersion) (old new : List (OwnNote N)) (i : ℕ) : Type 0 where
  pub added : List (OwnNote N)
  pub adds : new ≡ old ++ added
  pub of : added ++ row_listed packet i (notes_by b notes (drop i positions) (drop i now) m) ≡ row_listed packet 0 (notes_by b notes positions first (Live v0))

pub noted_begin : {F N : Type 0} (b : Behaviour F) (notes : Notes F N) (packet : ℕ) (positions : List ℕ) (first : List F) (v : PlainVersion) (old : List (OwnNote N)) → OwnNoted b notes packet positions first first v (Live v) old old 0
noted_begin b notes packet positions first v old = record { added = []; adds = sym (append-nil old); of = refl }

pub noted_more : {F N : Type 0} (b : Behaviour F) (notes : Notes F N) (packet : ℕ) (positions : List ℕ) (first now : List F) (v0 v : PlainVersion) (old new newer : List (OwnNote N)) (i : ℕ) (f d : F) (note : Option N) (m : PlainMessage PlainVersion) →
    OwnNoted b notes packet positions first now v0 (Live v) old new i → i < length positions → i < length now →
    note ≡ noted b notes v.fixed (get_or now i d) (as_version v).values → m ≡ went_by b (get_or positions i 0) (get_or now i d) (Live v) → newer ≡ new ++ row_listed packet i (note ∷ []) →
    OwnNoted b notes packet positions first (set now i f) v0 m old newer (i + 1)
unfolding notes_by
noted_more {F} {N} b notes packet positions first now v0 v old new newer i f d note m so_far inside there is came push =
    let later : List ℕ = drop (i + 1) positions in
    let one : List (OwnNote N) = row_listed packet i (note ∷ []) in
    let rest : List (OwnNote N) = row_listed packet (i + 1) (notes_by b notes later (drop (i + 1) (set now i f)) m) in
    record {
      added = so_far.added ++ one;
      adds = push ∙ ap (λ l. l ++ one) so_far.adds ∙ append_assoc old so_far.added one;
      of = append_assoc so_far.added one rest
          ∙ ap (λ l. so_far.added ++ l) (sym (row_more packet i note (notes_by b notes later (drop (i + 1) (set now i f)) m)))
          ∙ (λ k. so_far.added ++ row_listed packet i (is k ∷ notes_by b notes later (drop-set-lt (i + 1) now i f (omega arith) k) (came k)))
          ∙ (λ k. so_far.added ++ row_listed packet i (notes_by b notes (sym (drop_more positions i 0 inside) k) (sym (drop_more now i d there) k) (Live v)))
          ∙ so_far.of;
    }

-- so far some of the notes are listed
pub noted_some : {F N : Type 0} (b : Behaviour F) (notes : Notes F N) (packet : ℕ) (positions : List ℕ) (first now : List F) (v0 : PlainVersion) (m : PlainMessage PlainVersion) (old new : List (OwnNote N)) (i : ℕ) →
    OwnNoted b notes packet positions first now v0 m old new i → AddsSome (row_listed packet 0 (notes_by b notes positions first (Live v0))) old new
noted_some b notes packet positions first now v0 m old new i so_far = record {
  added = so_far.added;
  left = row_listed packet i (notes_by b notes (drop i positions) (drop i now) m);
  adds = so_far.adds;
  of = so_far.of;
}

-- all are, if none remains
all_noted : {F N : Type 0} (b : Behaviour F) (notes : Notes F N) (packet : ℕ) (positions : List ℕ) (first now : List F) (v0 : PlainVersion) (m : PlainMessage PlainVersion) (old new : List (OwnNote N)) (i : ℕ) →
    OwnNoted b notes packet positions first now v0 m old new i → row_listed packet i (notes_by b notes (drop i positions) (drop i now) m) ≡ [] → AddsAll (row_listed packet 0 (notes_by b notes positions first (Live v0))) old new
all_noted b notes packet positions first now v0 m old new i so_far none =
    so_far.adds ∙ ap (λ l. old ++ l) (sym (append-nil so_far.added) ∙ ap (λ l. so_far.added ++ l) (sym none) ∙ so_far.of)

pub noted_over : {F N : Type 0} (b : Behaviour F) (notes : Notes F N) (packet : ℕ) (positions : List ℕ) (first now : List F) (v0 : PlainVersion) (m : PlainMessage PlainVersion) (old new : List (OwnNote N)) (i : ℕ) →
    OwnNoted b notes packet positions first now v0 m old new i → length positions ≤ i → AddsAll (row_listed packet 0 (notes_by b notes positions first (Live v0))) old new
unfolding row_listed notes_by
noted_over b notes packet positions first now v0 m old new i so_far past =
    all_noted b notes packet positions first now v0 m old new i so_far (ap (λ l. row_listed packet i (notes_by b notes l (drop i now) m)) (drop_all i positions past))

-- the turn of a function whose packet goes on
pub noted_passed : {F N : Type 0} (b : Behaviour F) (notes : Notes F N) (packet : ℕ) (positions : List ℕ) (first now : List F) (v0 v after : PlainVersion) (old new newer : List (OwnNote N)) (i : ℕ) (f d : F) (note : Option N) (came : Arrival) →
    OwnNoted b notes packet positions first now v0 (Live v) old new i → i < length positions → i < length now →
    note ≡ noted b notes v.fixed (get_or now i d) (as_version v).values →
    as_branch_end came ≡ moved_end b v.fixed (get_or positions i 0) (get_or now i d) (Alive (as_version v)) →
    IsWhatWasWritten (get_or positions i 0) (stepped b v.fixed (get_or now i d) (as_version v).values).written v came → newer ≡ new ++ row_listed packet i (note ∷ []) → came ≡ cames.Version after →
    OwnNoted b notes packet positions first (set now i f) v0 (Live after) old newer (i + 1)
noted_passed b notes packet positions first now v0 v after old new newer i f d note came so_far inside there is goes_on written push version =
    noted_more b notes packet positions first now v0 v old new newer i f d note (Live after) so_far inside there is (ap as_sent (sym version) ∙ went_same b (get_or positions i 0) (get_or now i d) v came goes_on written) push

-- and of one that drops it
pub noted_dropped : {F N : Type 0} (b : Behaviour F) (notes : Notes F N) (packet : ℕ) (positions : List ℕ) (first now : List F) (v0 v : PlainVersion) (old new newer : List (OwnNote N)) (i : ℕ) (f d : F) (note : Option N) (came : Arrival) →
    OwnNoted b notes packet positions first now v0 (Live v) old new i → i < length positions → i < length now →
    note ≡ noted b notes v.fixed (get_or now i d) (as_version v).values →
    as_branch_end came ≡ moved_end b v.fixed (get_or positions i 0) (get_or now i d) (Alive (as_version v)) →
    IsWhatWasWritten (get_or positions i 0) (stepped b v.fixed (get_or now i d) (as_version v).values).written v came → newer ≡ new ++ row_listed packet i (note ∷ []) → ((w : PlainVersion) → came ≢ cames.Version w) →
    AddsAll (row_listed packet 0 (notes_by b notes positions first (Live v0))) old newer
noted_dropped b notes packet positions first now v0 v old new newer i f d note (cames.Version w) so_far inside there is gone wrote push no_version = absurd (no_version w refl)
noted_dropped b notes packet positions first now v0 v old new newer i f d note cames.Short so_far inside there is gone wrote push no_version = absurd wrote
noted_dropped {F} b notes packet positions first now v0 v old new newer i f d note (cames.Nil p) so_far inside there is gone wrote push no_version =
    let more = noted_more b notes packet positions first now v0 v old new newer i f d note (Nil p) so_far inside there is (went_same b (get_or positions i 0) (get_or now i d) v (cames.Nil p) gone wrote) push in
    all_noted b notes packet positions first (set now i f) v0 (Nil p) old newer (i + 1) more (gone_notes b notes (drop (i + 1) positions) (drop (i + 1) (set now i f)) p packet (i + 1))

-- all that are added are some
pub all_are_some : {A : Type 0} (all old new : List A) → AddsAll all old new → AddsSome all old new
all_are_some all old new adds = record { added = all; left = []; adds = adds; of = append-nil all }

-- a message without a packet isn't noted
pub record NotesNothing {F N : Type 0} (b : Behaviour F) (notes : Notes F N) (packet : ℕ) (positions : List ℕ) (fs : List F) (m : PlainMessage PlainVersion) (listed : List (OwnNote N)) : Type 0 where
  pub all : is_short m ≡ false → AddsAll (row_listed packet 0 (notes_by b notes positions fs m)) listed listed
  pub some : AddsSome (row_listed packet 0 (notes_by b notes positions fs m)) listed listed

pub notes_nothing : {F N : Type 0} (b : Behaviour F) (notes : Notes F N) (packet : ℕ) (positions : List ℕ) (fs : List F) (message : Message PlainVersion) (listed : List (OwnNote N)) → ((v : _) → message ≢ made.Live v) → NotesNothing b notes packet positions fs (plain message) listed
notes_nothing b notes packet positions fs (made.Live v) listed never = absurd (never v refl)
notes_nothing b notes packet positions fs (made.Nil p) listed never = record {
  all = λ found. sym (append-nil listed) ∙ ap (λ l. listed ++ l) (sym (gone_notes b notes positions fs p packet 0));
  some = record { added = []; left = row_listed packet 0 (notes_by b notes positions fs (Nil p)); adds = sym (append-nil listed); of = refl };
}
notes_nothing b notes packet positions fs made.Short listed never = record {
  all = λ found. absurd cc;
  some = record { added = []; left = row_listed packet 0 (notes_by b notes positions fs (plain made.Short)); adds = sym (append-nil listed); of = refl };
}
