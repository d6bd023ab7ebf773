-- The functions that a branch owns, in turn: the state so far.
use Rattle.std.proofs.Common.{◌≡◌, ◌≢◌, ◌∙◌, ◌≤◌, ◌<◌, ◌+◌, ℕ, zero, suc, Bool, true, false, List, [], ◌∷◌, ◌++◌, length, take, drop, map, set, get_or, sym, ap, refl, subst, arith, add-one}
use Rattle.std.specs.Prelude.{Some, IfSome, if◌then◌else◌}
use Rattle.std.proofs.Math.Seq.{map-set_same}
use Rattle.std.proofs.lemmas.List.{drop_more, drop_all, drop-set-lt}
use Rattle.std.proofs.lemmas.Option.{same_Some}
use Rattle.packet_fields.specs.declared.field.Field.TheVariants.{Tag}
use Rattle.action_profile.specs.declared.parts.Touch.{Touch}
use Rattle.action_profile.specs.declared.rights.Profile.{Profile}
use Rattle.chain_walk.specs.Step.{Behaviour, stepped, is_drop}
use Rattle.chain_walk.specs.Laws.{KeepsProfile}
use Rattle.graph_compile.specs.Parts.{profile_at}
use Rattle.graph_law.specs.Branches.{Version, BranchEnd.Live as Alive, BranchEnd.Nil as Gone, moved_function, moved_end}
use Rattle.packet_version.specs.Splitting.{PlainApart}
use Rattle.packet_version.specs.Versions.{PlainVersion, version_parts, HoldsNamed}
use Rattle.merge_ops.specs.declared.arrival.Arrival.{Arrival}
use Rattle.merge_ops.specs.declared.arrival.Arrival.TheVariants as cames
use Rattle.burst_law.specs.Stations.{Turn, then_state}
use Rattle.graph_run.specs.Carrying.{as_version, as_branch_end, wrote_at}
use Rattle.graph_run.specs.Staging.{Holds, IsCarried, IsWhatWasWritten}
use Rattle.stream_law.specs.Owned.{IsOwnReady}
use Rattle.packet_messages.specs.Messages.{PlainMessage, PlainMessage.Live, PlainMessage.Nil, is_short, plain}
use Rattle.packet_messages.specs.declared.message.Message.{Message}
use Rattle.packet_messages.specs.declared.message.Message.TheVariants as made
use Rattle.stream_law.specs.Owned.{moved_by, went_by, ran_by}
use Rattle.piped_run.specs.Turns.{as_sent}

-- the laws of versions that go on, as they are cited
abbrev pub GoesOnBehind : Type 0 → Type 0
GoesOnBehind F = (b : Behaviour F) (chain : List Profile) (whole : PlainApart) (touch : Touch) (low q : ℕ) (f : F) (v : PlainVersion) →
    KeepsProfile b → 1 ≤ q → low ≤ q → profile_at chain q ≡ Some (b.profile f) → HoldsNamed (b.profile f) touch → IsCarried chain whole touch low v →
    IsCarried chain whole touch (q + 1) (wrote_at q (stepped b v.fixed f (as_version v).values).written v)

abbrev pub HasRoom : Type 0
HasRoom = (chain : List Profile) (whole : PlainApart) (touch : Touch) (low q : ℕ) (p : Profile) (v : PlainVersion) → 1 ≤ q → low ≤ q → profile_at chain q ≡ Some p → p.adds ≡ true → IsCarried chain whole touch low v →
    IfSome (version_parts v Tag) (λ tags. length tags.bytes + 4 ≤ tags.room)

-- what holds for the next position, and for those after it
record Next (chain : List Profile) (touch : Touch) (low high q : ℕ) (rest : List ℕ) : Type 0 where
  position : 1 ≤ q
  rises : low ≤ q
  profile : Profile
  is : profile_at chain q ≡ Some profile
  named : HoldsNamed profile touch
  later : Holds chain touch (q + 1) high rest

next_of : (chain : List Profile) (touch : Touch) (low high q : ℕ) (rest : List ℕ) → Holds chain touch low high (q ∷ rest) → Next chain touch low high q rest
unfolding Holds
next_of chain touch low high q rest h = record { position = h.0; rises = h.1; profile = h.2.0; is = h.2.1; named = h.2.2; later = h.3 }

-- the next of the remaining positions
next_in : (chain : List Profile) (touch : Touch) (low high : ℕ) (positions : List ℕ) (i : ℕ) → i < length positions → Holds chain touch low high (drop i positions) → Next chain touch low high (get_or positions i 0) (drop (i + 1) positions)
next_in chain touch low high positions i inside holds = next_of chain touch low high (get_or positions i 0) (drop (i + 1) positions) (subst (Holds chain touch low high) (drop_more positions i 0 inside) holds)

-- a function after a version, in the words of the law of graphs
moved_same : {F : Type 0} (b : Behaviour F) (f : F) (v : PlainVersion) → moved_function b v.fixed f (Alive (as_version v)) ≡ moved_by b f (Live v)
unfolding moved_function
moved_same b f v = refl

-- and what goes on from it
tested : (t : Bool) (q : ℕ) (x y : Version) (w wrote : PlainVersion) → Alive x ≡ (if t then Gone q else Alive y) → w ≡ wrote → ◌≡◌ {A = PlainMessage PlainVersion} (Live w) (if t then Nil q else Live wrote)
tested true q x y w wrote e is = absurd cc
tested false q x y w wrote e is = ap (λ (z : PlainVersion). Live z) is

tested_gone : (t : Bool) (p q : ℕ) (y : Version) (wrote : PlainVersion) → Gone p ≡ (if t then Gone q else Alive y) → ◌≡◌ {A = PlainMessage PlainVersion} (Nil p) (if t then Nil q else Live wrote)
tested_gone true p q y wrote e = let same : p ≡ q = cc in ap (λ (n : ℕ). Nil n) same
tested_gone false p q y wrote e = absurd cc

pub went_same : {F : Type 0} (b : Behaviour F) (q : ℕ) (f : F) (v : PlainVersion) (came : Arrival) → as_branch_end came ≡ moved_end b v.fixed q f (Alive (as_version v)) → IsWhatWasWritten q (stepped b v.fixed f (as_version v).values).written v came →
    as_sent came ≡ went_by b q f (Live v)
unfolding moved_end
went_same b q f v (cames.Version after) e wrote = tested (is_drop (stepped b v.fixed f (as_version v).values).verdict) q _ _ after (wrote_at q (stepped b v.fixed f (as_version v).values).written v) e wrote
went_same b q f v (cames.Nil p) e wrote = tested_gone (is_drop (stepped b v.fixed f (as_version v).values).verdict) p q _ (wrote_at q (stepped b v.fixed f (as_version v).values).written v) e
went_same b q f v cames.Short e wrote = absurd wrote

profile_kept : {F : Type 0} (b : Behaviour F) (f : F) (v : PlainVersion) → KeepsProfile b → b.profile (moved_by b f (Live v)) ≡ b.profile f
profile_kept b f v keeps = keeps.stays v.fixed f (as_version v).values

-- lists that begin alike
first_same : {A : Type 0} {x y : A} {xs ys : List A} → x ∷ xs ≡ y ∷ ys → x ≡ y
first_same e = cc

rest_same : {A : Type 0} {x y : A} {xs ys : List A} → x ∷ xs ≡ y ∷ ys → xs ≡ ys
rest_same e = cc

-- as many functions as positions
as_many : {F : Type 0} (b : Behaviour F) (chain : List Profile) (positions : List ℕ) (fs : List F) → map (profile_at chain) positions ≡ map (λ p. Some p) (map b.profile fs) → length fs ≡ length positions
as_many b chain [] [] e = refl
as_many b chain [] (f ∷ fs) e = absurd cc
as_many b chain (q ∷ positions) [] e = absurd cc
as_many b chain (q ∷ positions) (f ∷ fs) e = ap suc (as_many b chain positions fs (rest_same e))

-- the profile of the function that has its turn
profile_of_turn : {F : Type 0} (b : Behaviour F) (chain : List Profile) (positions : List ℕ) (fs : List F) (i : ℕ) (d : F) → map (profile_at chain) positions ≡ map (λ p. Some p) (map b.profile fs) → i < length positions →
    profile_at chain (get_or positions i 0) ≡ Some (b.profile (get_or fs i d))
profile_of_turn b chain [] fs i d e inside = absurd (omega arith)
profile_of_turn b chain (q ∷ positions) [] i d e inside = absurd cc
profile_of_turn b chain (q ∷ positions) (f ∷ fs) zero d e inside = first_same e
profile_of_turn b chain (q ∷ positions) (f ∷ fs) (suc i) d e inside = profile_of_turn b chain positions fs i d (rest_same e) (omega arith)

-- functions that have had their turn, before those that follow
abbrev pub behind_front : {F : Type 0} → List F → Turn (List F) (PlainMessage PlainVersion) → Turn (List F) (PlainMessage PlainVersion)
behind_front front t = record { state = front ++ t.state; gives = t.gives }

one_more : {F : Type 0} (now : List F) (i : ℕ) (f : F) (t : Turn (List F) (PlainMessage PlainVersion)) → i < length now → behind_front (take (i + 1) (set now i f)) t ≡ behind_front (take i now) (then_state f t)
one_more now i f t inside = (λ k. record { state = (ap (λ n. take n (set now i f) ++ t.state) (add-one i) ∙ spliced now i f t.state inside) k; gives = t.gives })
  where
    spliced : {F : Type 0} (now : List F) (i : ℕ) (f : F) (rest : List F) → i < length now → take (suc i) (set now i f) ++ rest ≡ take i now ++ (f ∷ rest)
    spliced [] i f rest inside = absurd (omega arith)
    spliced (x ∷ now) zero f rest inside = refl
    spliced (x ∷ now) (suc i) f rest inside = ap (λ l. x ∷ l) (spliced now i f rest (omega arith))

-- This number of functions had their turn, and the remaining turns give what all give. The version goes on through the
-- remaining positions.
pub record OwnTurn {F : Type 0} (b : Behaviour F) (positions : List ℕ) (first now : List F) (v0 v : PlainVersion) (i : ℕ) : Type 0 where
  pub same : behind_front (take i now) (ran_by b (drop i positions) (drop i now) (Live v)) ≡ ran_by b positions first (Live v0)
  pub profiles : map b.profile now ≡ map b.profile first
  pub chain : List Profile
  pub whole : PlainApart
  pub low : ℕ
  pub high : ℕ
  pub at : map (profile_at chain) positions ≡ map (λ p. Some p) (map b.profile now)
  pub holds : Holds chain v.touch low high (drop i positions)
  pub carried : IsCarried chain whole v.touch low v

pub own_begin : {F : Type 0} (b : Behaviour F) (positions : List ℕ) (first : List F) (v : PlainVersion) → IsOwnReady (map b.profile first) positions v → OwnTurn b positions first first v v 0
own_begin b positions first v ready = record {
  same = refl;
  profiles = refl;
  chain = ready.chain;
  whole = ready.whole;
  low = ready.low;
  high = ready.high;
  at = ready.branch.at;
  holds = ready.branch.holds;
  carried = ready.carried;
}

-- the function that has its turn: it exists, its branch holds what it names, and there is room for a tag that it adds
pub record HasOwnTurn {F : Type 0} (b : Behaviour F) (now : List F) (i q : ℕ) (f : F) (v : PlainVersion) : Type 0 where
  pub inside : i < length now
  pub position : 1 ≤ q
  pub holds : HoldsNamed (b.profile f) v.touch
  pub room : (b.profile f).adds ≡ true → IfSome (version_parts v Tag) (λ tags. length tags.bytes + 4 ≤ tags.room)

-- there is a function for each position
pub own_inside : {F : Type 0} (b : Behaviour F) (positions : List ℕ) (first now : List F) (v0 v : PlainVersion) (i : ℕ) → OwnTurn b positions first now v0 v i → i < length positions → i < length now
own_inside b positions first now v0 v i turn inside = let n = as_many b turn.chain positions now turn.at in omega arith

pub has_own_turn : {F : Type 0} (b : Behaviour F) (positions : List ℕ) (first now : List F) (v0 v : PlainVersion) (i : ℕ) (d : F) → HasRoom →
    OwnTurn b positions first now v0 v i → i < length positions → HasOwnTurn b now i (get_or positions i 0) (get_or now i d) v
has_own_turn {F} b positions first now v0 v i d room turn inside =
    let next = next_in turn.chain v.touch turn.low turn.high positions i inside turn.holds in
    let mine = profile_of_turn b turn.chain positions now i d turn.at inside in
    record {
      inside = own_inside b positions first now v0 v i turn inside;
      position = next.position;
      holds = subst (λ p. HoldsNamed p v.touch) (same_Some next.profile (b.profile (get_or now i d)) (sym next.is ∙ mine)) next.named;
      room = λ adds. room turn.chain turn.whole v.touch turn.low (get_or positions i 0) (b.profile (get_or now i d)) v next.position next.rises mine adds turn.carried;
    }

-- one more turn
turn_more : {F : Type 0} (b : Behaviour F) (positions : List ℕ) (first now : List F) (v0 v : PlainVersion) (i : ℕ) (f d : F) (m : PlainMessage PlainVersion) →
    OwnTurn b positions first now v0 v i → i < length positions → i < length now →
    f ≡ moved_by b (get_or now i d) (Live v) → m ≡ went_by b (get_or positions i 0) (get_or now i d) (Live v) →
    behind_front (take (i + 1) (set now i f)) (ran_by b (drop (i + 1) positions) (drop (i + 1) (set now i f)) m) ≡ ran_by b positions first (Live v0)
unfolding ran_by
turn_more {F} b positions first now v0 v i f d m turn inside there moved came =
    one_more now i f (ran_by b (drop (i + 1) positions) (drop (i + 1) (set now i f)) m) there
    ∙ ap (λ l. behind_front (take i now) (then_state f (ran_by b (drop (i + 1) positions) l m))) (drop-set-lt (i + 1) now i f (omega arith))
    ∙ (λ k. behind_front (take i now) (then_state (moved k) (ran_by b (drop (i + 1) positions) (drop (i + 1) now) (came k))))
    ∙ (λ k. behind_front (take i now) (ran_by b (sym (drop_more positions i 0 inside) k) (sym (drop_more now i d there) k) (Live v)))
    ∙ turn.same

-- the turn of a function whose packet goes on
pub own_passed : {F : Type 0} (b : Behaviour F) (positions : List ℕ) (first now : List F) (v0 v after : PlainVersion) (i : ℕ) (f d : F) (came : Arrival) → GoesOnBehind F → KeepsProfile b →
    OwnTurn b positions first now v0 v i → i < length positions →
    f ≡ moved_function b v.fixed (get_or now i d) (Alive (as_version v)) →
    as_branch_end came ≡ moved_end b v.fixed (get_or positions i 0) (get_or now i d) (Alive (as_version v)) →
    IsWhatWasWritten (get_or positions i 0) (stepped b v.fixed (get_or now i d) (as_version v).values).written v came → came ≡ cames.Version after →
    OwnTurn b positions first (set now i f) v0 after (i + 1)
own_passed {F} b positions first now v0 v after i f d came behind keeps turn inside moved goes_on written is =
    let q = get_or positions i 0 in
    let was : F = get_or now i d in
    let there = own_inside b positions first now v0 v i turn inside in
    let moves : f ≡ moved_by b was (Live v) = moved ∙ moved_same b was v in
    let wrote : after ≡ wrote_at q (stepped b v.fixed was (as_version v).values).written v = subst (IsWhatWasWritten q (stepped b v.fixed was (as_version v).values).written v) is written in
    let next = next_in turn.chain v.touch turn.low turn.high positions i inside turn.holds in
    let mine = profile_of_turn b turn.chain positions now i d turn.at inside in
    let named : HoldsNamed (b.profile was) v.touch = subst (λ p. HoldsNamed p v.touch) (same_Some next.profile (b.profile was) (sym next.is ∙ mine)) next.named in
    let touch : v.touch ≡ after.touch = sym (ap (λ x. x.touch) wrote) in
    let profiles : map b.profile (set now i f) ≡ map b.profile now = map-set_same b.profile now i f d (ap b.profile moves ∙ profile_kept b was v keeps) in
    record {
      same = turn_more b positions first now v0 v i f d (Live after) turn inside there moves (ap as_sent (sym is) ∙ went_same b q was v came goes_on written);
      profiles = profiles ∙ turn.profiles;
      chain = turn.chain;
      whole = turn.whole;
      low = q + 1;
      high = turn.high;
      at = turn.at ∙ ap (map (λ p. Some p)) (sym profiles);
      holds = subst (λ t. Holds turn.chain t (q + 1) turn.high (drop (i + 1) positions)) touch next.later;
      carried = subst (λ t. IsCarried turn.chain turn.whole t (q + 1) after) touch
          (subst (IsCarried turn.chain turn.whole v.touch (q + 1)) (sym wrote) (behind b turn.chain turn.whole v.touch turn.low q was v keeps next.position next.rises mine named turn.carried));
    }

-- its profile stays
pub profiles_over : {F : Type 0} (b : Behaviour F) (positions : List ℕ) (first now : List F) (v0 v : PlainVersion) (i : ℕ) (f d : F) → KeepsProfile b → OwnTurn b positions first now v0 v i → f ≡ moved_function b v.fixed (get_or now i d) (Alive (as_version v)) →
    map b.profile (set now i f) ≡ map b.profile first
profiles_over b positions first now v0 v i f d keeps turn moved = map-set_same b.profile now i f d (ap b.profile (moved ∙ moved_same b (get_or now i d) v) ∙ profile_kept b (get_or now i d) v keeps) ∙ turn.profiles

-- what becomes of a branch
pub record OwnOver {F : Type 0} (b : Behaviour F) (positions : List ℕ) (first now : List F) (v0 : PlainVersion) (came : Arrival) : Type 0 where
  pub functions : now ≡ (ran_by b positions first (Live v0)).state
  pub arrival : as_sent came ≡ (ran_by b positions first (Live v0)).gives
  pub profiles : map b.profile now ≡ map b.profile first

-- nothing runs if there is no packet
pub ran_gone : {F : Type 0} (b : Behaviour F) (qs : List ℕ) (fs : List F) (p : ℕ) → ran_by b qs fs (Nil p) ≡ record { state = fs; gives = Nil p }
unfolding ran_by
ran_gone b [] fs p = refl
ran_gone b (q ∷ qs) [] p = refl
ran_gone b (q ∷ qs) (f ∷ fs) p = ap (then_state f) (ran_gone b qs fs p)

take_drop : {F : Type 0} (n : ℕ) (l : List F) → take n l ++ drop n l ≡ l
take_drop zero l = refl
take_drop (suc n) [] = refl
take_drop (suc n) (x ∷ l) = ap (λ t. x ∷ t) (take_drop n l)

pub own_dropped : {F : Type 0} (b : Behaviour F) (positions : List ℕ) (first now : List F) (v0 v : PlainVersion) (i : ℕ) (f d : F) (came : Arrival) → KeepsProfile b →
    OwnTurn b positions first now v0 v i → i < length positions →
    f ≡ moved_function b v.fixed (get_or now i d) (Alive (as_version v)) →
    as_branch_end came ≡ moved_end b v.fixed (get_or positions i 0) (get_or now i d) (Alive (as_version v)) →
    IsWhatWasWritten (get_or positions i 0) (stepped b v.fixed (get_or now i d) (as_version v).values).written v came → ((w : PlainVersion) → came ≢ cames.Version w) →
    OwnOver b positions first (set now i f) v0 came
own_dropped b positions first now v0 v i f d (cames.Version w) keeps turn inside moved gone wrote no_version = absurd (no_version w refl)
own_dropped b positions first now v0 v i f d cames.Short keeps turn inside moved gone wrote no_version = absurd wrote
own_dropped {F} b positions first now v0 v i f d (cames.Nil p) keeps turn inside moved gone wrote no_version =
    let was : F = get_or now i d in
    let there = own_inside b positions first now v0 v i turn inside in
    let moves : f ≡ moved_by b was (Live v) = moved ∙ moved_same b was v in
    let after : List F = set now i f in
    let all : ◌≡◌ {A = Turn (List F) (PlainMessage PlainVersion)} (record { state = after; gives = Nil p }) (ran_by b positions first (Live v0)) =
    (λ k. record { state = sym (take_drop (i + 1) after) k; gives = Nil p })
    ∙ ap (behind_front (take (i + 1) after)) (sym (ran_gone b (drop (i + 1) positions) (drop (i + 1) after) p))
    ∙ turn_more b positions first now v0 v i f d (Nil p) turn inside there moves (went_same b (get_or positions i 0) was v (cames.Nil p) gone wrote) in
    record {
      functions = ap (λ r. r.state) all;
      arrival = ap (λ r. r.gives) all;
      profiles = map-set_same b.profile now i f d (ap b.profile moves ∙ profile_kept b was v keeps) ∙ turn.profiles;
    }

pub own_over : {F : Type 0} (b : Behaviour F) (positions : List ℕ) (first now : List F) (v0 v : PlainVersion) (i : ℕ) → OwnTurn b positions first now v0 v i → length positions ≤ i → OwnOver b positions first now v0 (cames.Version v)
unfolding ran_by
own_over {F} b positions first now v0 v i turn past =
    let all : ◌≡◌ {A = Turn (List F) (PlainMessage PlainVersion)} (record { state = now; gives = Live v }) (ran_by b positions first (Live v0)) =
    (λ k. record { state = sym (take_drop i now) k; gives = Live v })
    ∙ ap (λ l. behind_front (take i now) (ran_by b l (drop i now) (Live v))) (sym (drop_all i positions past))
    ∙ turn.same in
    record { functions = ap (λ r. r.state) all; arrival = ap (λ r. r.gives) all; profiles = turn.profiles }

-- a message without a packet passes on, and no function sees it
pub record PassedOn {F : Type 0} (b : Behaviour F) (positions : List ℕ) (fs : List F) (m : PlainMessage PlainVersion) : Type 0 where
  pub ran : is_short m ≡ false → m ≡ (ran_by b positions fs m).gives
  pub functions : is_short m ≡ false → fs ≡ (ran_by b positions fs m).state

pub passes_on : {F : Type 0} (b : Behaviour F) (positions : List ℕ) (fs : List F) (message : Message PlainVersion) → ((v : _) → message ≢ made.Live v) → PassedOn b positions fs (plain message)
passes_on b positions fs (made.Live v) never = absurd (never v refl)
passes_on b positions fs (made.Nil p) never = record {
  ran = λ found. ap (λ t. t.gives) (sym (ran_gone b positions fs p));
  functions = λ found. ap (λ t. t.state) (sym (ran_gone b positions fs p));
}
passes_on b positions fs made.Short never = record { ran = λ found. absurd cc; functions = λ found. absurd cc }
