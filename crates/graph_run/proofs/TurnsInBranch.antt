-- The functions of a branch, in turn: the state so far.
use Rattle.std.proofs.Common.{◌≡◌, ◌∙◌, ◌≤◌, ◌<◌, ◌+◌, ◌-◌, ◌*◌, ℕ, zero, suc, Bool, true, false, List, [], ◌∷◌, length, drop, map, set, get_or, sym, ap, refl, subst, arith}
use Rattle.std.specs.Prelude.{◌≢◌, Option, Some, None, option_map, IfSome, slice_get, if◌then◌else◌}
use Rattle.std.proofs.Math.Seq.{map-set_same}
use Rattle.std.proofs.lemmas.List.{drop_more, drop_all}
use Rattle.std.proofs.lemmas.Option.{same_Some, none-some, slice_get-map}
use Rattle.packet_fields.specs.declared.field.Field.TheVariants.{Tag}
use Rattle.action_profile.specs.declared.parts.Touch.{Touch}
use Rattle.action_profile.specs.declared.rights.Profile.{Profile}
use Rattle.chain_walk.specs.Step.{Behaviour, stepped}
use Rattle.chain_walk.specs.Laws.{KeepsProfile}
use Rattle.chain_walk.specs.declared.fixed.Fixed.{Fixed}
use Rattle.graph_compile.specs.Parts.{profile_at}
use Rattle.graph_law.specs.Branches.{BranchEnd, BranchEnd.Live, BranchEnd.Nil, Ran, moved_function, moved_end, met, in_turn}
use Rattle.packet_version.specs.Parts.{PlainPart}
use Rattle.packet_version.specs.Splitting.{PlainApart}
use Rattle.packet_version.specs.Versions.{PlainVersion, version_parts, HoldsNamed}
use Rattle.merge_ops.specs.declared.arrival.Arrival.{Arrival}
use Rattle.merge_ops.specs.declared.arrival.Arrival.TheVariants as cames
use Rattle.chain_walk.specs.Shown.{AreWellFormed}
use Rattle.graph_run.specs.Carrying.{as_version, as_branch_end, wrote_at}
use Rattle.graph_run.specs.Rooms.{adders_from}
use Rattle.graph_run.specs.Staging.{Holds, IsReady, IsCarried, IsCarriedBy, IsWhatWasWritten, KeepsPacket}
use Rattle.graph_run.proofs.RoomForTags.{adders_at, room_later}
use Rattle.graph_run.proofs.Carried.{StaysFormed, carried_on}

-- a version goes on through the functions at these positions
pub record Goes (chain : List Profile) (whole : PlainApart) (touch : Touch) (high : ℕ) (rest : List ℕ) (v : PlainVersion) : Type 0 where
  pub at : ℕ
  pub holds : Holds chain touch at high rest
  pub carried : IsCarried chain whole touch at v

-- this number of positions had their turn, and the remaining turns give what all give
pub record InTurn {F : Type 0} (b : Behaviour F) (positions : List ℕ) (first now : List F) (v0 v : PlainVersion) (i : ℕ) : Type 0 where
  pub same : in_turn b v0.fixed (drop i positions) now (Live (as_version v)) ≡ in_turn b v0.fixed positions first (Live (as_version v0))
  pub profiles : map b.profile now ≡ map b.profile first
  pub fixed : v.fixed ≡ v0.fixed
  pub touch : v.touch ≡ v0.touch
  pub kept : v.kept ≡ v0.kept
  pub goes : (whole : PlainApart) (low high : ℕ) → Holds (map b.profile first) v0.touch low high positions → IsCarried (map b.profile first) whole v0.touch low v0 →
      Goes (map b.profile first) whole v0.touch high (drop i positions) v

pub turns_begin : {F : Type 0} (b : Behaviour F) (positions : List ℕ) (first : List F) (v : PlainVersion) → InTurn b positions first first v v 0
turns_begin b positions first v = record {
  same = refl;
  profiles = refl;
  fixed = refl;
  touch = refl;
  kept = refl;
  goes = λ whole low high holds carried. record { at = low; holds = holds; carried = carried };
}

-- the function that has its turn: it exists, its branch holds what it names, and there is room for a tag that it adds
pub record HasTurn {F : Type 0} (b : Behaviour F) (now : List F) (q : ℕ) (v : PlainVersion) : Type 0 where
  pub function : F
  pub position : 1 ≤ q
  pub is : slice_get now (q - 1) ≡ Some function
  pub holds : HoldsNamed (b.profile function) v.touch
  pub formed : AreWellFormed (as_version v).values
  pub room : (b.profile function).adds ≡ true → IfSome (version_parts v Tag) (λ tags. length tags.bytes + 4 ≤ tags.room)

-- the function at a position, by its profile
function_at : {F : Type 0} (b : Behaviour F) (fs : List F) (n : ℕ) (p : Profile) → slice_get (map b.profile fs) n ≡ Some p → (f : F) × (slice_get fs n ≡ Some f) × (b.profile f ≡ p)
function_at {F} b fs n p is = by_get (slice_get fs n) refl
  where
    by_get : (o : Option F) → slice_get fs n ≡ o → (f : F) × (slice_get fs n ≡ Some f) × (b.profile f ≡ p)
    by_get None e = absurd (none-some p (sym (ap (λ (o : Option F). option_map b.profile o) e) ∙ (sym (slice_get-map b.profile fs n) ∙ is)))
    by_get (Some f) e = (f, e, same_Some (b.profile f) p (sym (ap (λ (o : Option F). option_map b.profile o) e) ∙ (sym (slice_get-map b.profile fs n) ∙ is)))

pub four_more : (o : Option PlainPart) (adds : Bool) (here later : ℕ) → here ≡ (if adds then 1 else 0) + later → adds ≡ true → IfSome o (λ p. length p.bytes + 4 * here ≤ p.room) → IfSome o (λ p. length p.bytes + 4 ≤ p.room)
four_more None adds here later is e room = tt
four_more (Some p) true here later is e room = omega arith
four_more (Some p) false here later is e room = absurd cc

-- what holds for the next position, and for those after it
record Next (chain : List Profile) (touch : Touch) (low high q : ℕ) (rest : List ℕ) : Type 0 where
  position : 1 ≤ q
  rises : low ≤ q
  profile : Profile
  is : profile_at chain q ≡ Some profile
  named : HoldsNamed profile touch
  later : Holds chain touch (q + 1) high rest

next_of : (chain : List Profile) (touch : Touch) (low high q : ℕ) (rest : List ℕ) → Holds chain touch low high (q ∷ rest) → Next chain touch low high q rest
unfolding Holds
next_of chain touch low high q rest h = record { position = h.0; rises = h.1; profile = h.2.0; is = h.2.1; named = h.2.2; later = h.3 }

-- the next of the remaining positions
next_in : (chain : List Profile) (touch : Touch) (low high : ℕ) (positions : List ℕ) (i : ℕ) → i < length positions → Holds chain touch low high (drop i positions) → Next chain touch low high (get_or positions i 0) (drop (i + 1) positions)
next_in chain touch low high positions i inside holds = next_of chain touch low high (get_or positions i 0) (drop (i + 1) positions) (subst (Holds chain touch low high) (drop_more positions i 0 inside) holds)

pub has_turn : {F : Type 0} (b : Behaviour F) (positions : List ℕ) (first now : List F) (v0 v : PlainVersion) (i : ℕ) →
    InTurn b positions first now v0 v i → IsReady (map b.profile first) positions v0 → i < length positions → HasTurn b now (get_or positions i 0) v
has_turn b positions first now v0 v i turn ready inside =
    let chain = map b.profile first in
    let goes = turn.goes ready.whole ready.low ready.high ready.holds ready.carried in
    let next = next_in chain v0.touch goes.at ready.high positions i inside goes.holds in
    let found = function_at b now (get_or positions i 0 - 1) next.profile (ap (λ (l : List Profile). profile_at l (get_or positions i 0)) turn.profiles ∙ next.is) in
    record {
      function = found.0;
      position = next.position;
      is = found.1;
      holds = record {
        touched = λ x e. rw turn.touch (next.named.touched x (rw (← found.2) e));
        written = λ x e. rw turn.touch (next.named.written x (rw (← found.2) e));
      };
      formed = goes.carried.formed;
      room = λ adds. four_more (version_parts v Tag) (b.profile found.0).adds (adders_from chain (get_or positions i 0)) (adders_from chain (get_or positions i 0 + 1))
          (adders_at chain (get_or positions i 0) (b.profile found.0) next.position (next.is ∙ ap (λ (p : Profile). Some p) (sym found.2))) adds
          (room_later chain goes.at (get_or positions i 0) (version_parts v) next.rises goes.carried.room);
    }

pub turn_inside : {F : Type 0} (b : Behaviour F) (now : List F) (q : ℕ) (v : PlainVersion) → HasTurn b now q v → q - 1 < length now
turn_inside b now q v turn = got_inside now (q - 1) turn.function turn.is
  where
    got_inside : {F : Type 0} (xs : List F) (n : ℕ) (x : F) → slice_get xs n ≡ Some x → n < length xs
    got_inside [] n x e = absurd cc
    got_inside (y ∷ xs) zero x e = omega arith
    got_inside (y ∷ xs) (suc n) x e = let rest = got_inside xs n x e in omega arith

-- the function that is read at that place
pub turn_is : {F : Type 0} (b : Behaviour F) (now : List F) (q : ℕ) (v : PlainVersion) (d : F) (turn : HasTurn b now q v) → get_or now (q - 1) d ≡ turn.function
turn_is b now q v d turn = got now (q - 1) turn.function d turn.is
  where
    got : {F : Type 0} (xs : List F) (n : ℕ) (x d : F) → slice_get xs n ≡ Some x → get_or xs n d ≡ x
    got [] n x d e = absurd cc
    got (y ∷ xs) zero x d e = same_Some y x e
    got (y ∷ xs) (suc n) x d e = got xs n x d e

-- one turn: a function at a position that exists
in_turn_more : {F : Type 0} (b : Behaviour F) (fixed : Fixed) (q : ℕ) (qs : List ℕ) (fs : List F) (f : F) (a : BranchEnd) → slice_get fs (q - 1) ≡ Some f →
    in_turn b fixed (q ∷ qs) fs a ≡ in_turn b fixed qs (set fs (q - 1) (moved_function b fixed f a)) (moved_end b fixed q f a)
unfolding in_turn met
in_turn_more b fixed q qs fs f a is = ap (λ o. in_turn b fixed qs (met b fixed q o fs a).functions (met b fixed q o fs a).arrival) is

-- a packet that was dropped leaves every function unchanged
in_turn_gone : {F : Type 0} (b : Behaviour F) (fixed : Fixed) (qs : List ℕ) (fs : List F) (p : ℕ) → in_turn b fixed qs fs (Nil p) ≡ record { functions = fs; arrival = Nil p }
unfolding in_turn met moved_function moved_end
in_turn_gone b fixed [] fs p = refl
in_turn_gone {F} b fixed (q ∷ qs) fs p = by_get (in_turn_gone b fixed qs fs p) (slice_get fs (q - 1)) refl
  where
    set_same : {F : Type 0} (xs : List F) (n : ℕ) (x : F) → slice_get xs n ≡ Some x → set xs n x ≡ xs
    set_same [] n x e = absurd cc
    set_same (y ∷ xs) zero x e = ap (λ z. z ∷ xs) (sym (same_Some y x e))
    set_same (y ∷ xs) (suc n) x e = ap (λ l. y ∷ l) (set_same xs n x e)

    by_get : in_turn b fixed qs fs (Nil p) ≡ record { functions = fs; arrival = Nil p } → (o : Option F) → slice_get fs (q - 1) ≡ o → in_turn b fixed qs (met b fixed q o fs (Nil p)).functions (met b fixed q o fs (Nil p)).arrival ≡ record { functions = fs; arrival = Nil p }
    by_get gone None e = gone
    by_get gone (Some f) e = ap (λ l. in_turn b fixed qs l (Nil p)) (set_same fs (q - 1) f e) ∙ gone

profile_kept : {F : Type 0} (b : Behaviour F) (fixed : Fixed) (g : F) (v : PlainVersion) → KeepsProfile b → b.profile (moved_function b fixed g (Live (as_version v))) ≡ b.profile g
unfolding moved_function
profile_kept b fixed g v keeps = keeps.stays fixed g (as_version v).values

-- the turn of a function whose packet goes on
pub turn_taken : {F : Type 0} (b : Behaviour F) (positions : List ℕ) (first now : List F) (v0 v after : PlainVersion) (i : ℕ) (f d : F) → StaysFormed F → KeepsProfile b →
    InTurn b positions first now v0 v i → IsReady (map b.profile first) positions v0 → i < length positions →
    f ≡ moved_function b v.fixed (get_or now (get_or positions i 0 - 1) d) (Live (as_version v)) →
    Live (as_version after) ≡ moved_end b v.fixed (get_or positions i 0) (get_or now (get_or positions i 0 - 1) d) (Live (as_version v)) →
    after ≡ wrote_at (get_or positions i 0) (stepped b v.fixed (get_or now (get_or positions i 0 - 1) d) (as_version v).values).written v →
    InTurn b positions first (set now (get_or positions i 0 - 1) f) v0 after (i + 1)
turn_taken {F} b positions first now v0 v after i f d stays keeps turn ready inside moved goes_on wrote =
    let q = get_or positions i 0 in
    let has : HasTurn b now q v = has_turn b positions first now v0 v i turn ready inside in
    let was : F = get_or now (q - 1) d in
    let is : slice_get now (q - 1) ≡ Some was = has.is ∙ ap (λ x. Some x) (sym (turn_is b now q v d has)) in
    record {
      same = (λ j. in_turn b v0.fixed (drop (i + 1) positions) (set now (q - 1) (moved j)) (goes_on j))
          ∙ ap (λ x. in_turn b v0.fixed (drop (i + 1) positions) (set now (q - 1) (moved_function b x was (Live (as_version v)))) (moved_end b x q was (Live (as_version v)))) turn.fixed
          ∙ sym (in_turn_more b v0.fixed q (drop (i + 1) positions) now was (Live (as_version v)) is)
          ∙ ap (λ l. in_turn b v0.fixed l now (Live (as_version v))) (sym (drop_more positions i 0 inside))
          ∙ turn.same;
      profiles = map-set_same b.profile now (q - 1) f d (ap b.profile moved ∙ profile_kept b v.fixed was v keeps) ∙ turn.profiles;
      fixed = ap (λ x. x.fixed) wrote ∙ turn.fixed;
      touch = ap (λ x. x.touch) wrote ∙ turn.touch;
      kept = ap (λ x. x.kept) wrote ∙ turn.kept;
      goes = λ whole low high holds carried.
          let goes = turn.goes whole low high holds carried in
          let next = next_in (map b.profile first) v0.touch goes.at high positions i inside goes.holds in
          let profile : profile_at (map b.profile first) q ≡ Some (b.profile was) = ap (λ (l : List Profile). profile_at l q) (sym turn.profiles) ∙ slice_get-map b.profile now (q - 1) ∙ ap (λ (o : Option F). option_map b.profile o) is in
          let named : HoldsNamed (b.profile was) v0.touch = subst (λ p. HoldsNamed p v0.touch) (same_Some next.profile (b.profile was) (sym next.is ∙ profile)) next.named in
          record {
            at = q + 1;
            holds = next.later;
            carried = subst (IsCarried (map b.profile first) whole v0.touch (q + 1)) (sym wrote)
                (carried_on b (map b.profile first) whole v0.touch goes.at q was v stays keeps next.position next.rises profile named goes.carried);
          };
    }

-- the same, for the result of the function's step
pub turn_passed : {F : Type 0} (b : Behaviour F) (positions : List ℕ) (first now : List F) (v0 v after : PlainVersion) (i : ℕ) (f d : F) (came : Arrival) → StaysFormed F → KeepsProfile b →
    InTurn b positions first now v0 v i → IsReady (map b.profile first) positions v0 → i < length positions →
    f ≡ moved_function b v.fixed (get_or now (get_or positions i 0 - 1) d) (Live (as_version v)) →
    as_branch_end came ≡ moved_end b v.fixed (get_or positions i 0) (get_or now (get_or positions i 0 - 1) d) (Live (as_version v)) →
    IsWhatWasWritten (get_or positions i 0) (stepped b v.fixed (get_or now (get_or positions i 0 - 1) d) (as_version v).values).written v came → came ≡ cames.Version after →
    InTurn b positions first (set now (get_or positions i 0 - 1) f) v0 after (i + 1)
turn_passed b positions first now v0 v after i f d came stays keeps turn ready inside moved goes_on wrote is =
    turn_taken b positions first now v0 v after i f d stays keeps turn ready inside moved (ap as_branch_end (sym is) ∙ goes_on)
    (subst (IsWhatWasWritten (get_or positions i 0) (stepped b v.fixed (get_or now (get_or positions i 0 - 1) d) (as_version v).values).written v) is wrote)

pub turns_over : {F : Type 0} (b : Behaviour F) (positions : List ℕ) (first now : List F) (v0 v : PlainVersion) (i : ℕ) → InTurn b positions first now v0 v i → length positions ≤ i →
    record { functions = now; arrival = Live (as_version v) } ≡ in_turn b v0.fixed positions first (Live (as_version v0))
unfolding in_turn
turns_over b positions first now v0 v i turn past = ap (λ l. in_turn b v0.fixed l now (Live (as_version v))) (sym (drop_all i positions past)) ∙ turn.same

carried_later : (chain : List Profile) (whole : PlainApart) (touch : Touch) (at high : ℕ) (v : PlainVersion) → Holds chain touch at high [] → IsCarried chain whole touch at v → IsCarried chain whole touch high v
unfolding Holds
carried_later chain whole touch at high v le c = record { made = c.made; fixed = c.fixed; formed = c.formed; room = room_later chain at high (version_parts v) le c.room }

pub carried_over : {F : Type 0} (b : Behaviour F) (positions : List ℕ) (first now : List F) (v0 v : PlainVersion) (i : ℕ) → InTurn b positions first now v0 v i → length positions ≤ i →
    (whole : PlainApart) (low high : ℕ) → Holds (map b.profile first) v0.touch low high positions → IsCarried (map b.profile first) whole v0.touch low v0 → IsCarried (map b.profile first) whole v0.touch high v
carried_over b positions first now v0 v i turn past whole low high holds carried =
    let goes = turn.goes whole low high holds carried in
    carried_later (map b.profile first) whole v0.touch goes.at high v (subst (Holds (map b.profile first) v0.touch goes.at high) (drop_all i positions past) goes.holds) goes.carried

-- what becomes of a branch in which a function dropped the packet
pub record Dropped {F : Type 0} (b : Behaviour F) (positions : List ℕ) (first now : List F) (v0 : PlainVersion) (came : Arrival) : Type 0 where
  pub functions : now ≡ (in_turn b v0.fixed positions first (Live (as_version v0))).functions
  pub arrival : as_branch_end came ≡ (in_turn b v0.fixed positions first (Live (as_version v0))).arrival
  pub carried : (whole : PlainApart) (low high : ℕ) → Holds (map b.profile first) v0.touch low high positions → IsCarried (map b.profile first) whole v0.touch low v0 → IsCarriedBy (map b.profile first) whole v0.touch high came
  pub kept : KeepsPacket v0 came

pub turn_dropped : {F : Type 0} (b : Behaviour F) (positions : List ℕ) (first now : List F) (v0 v : PlainVersion) (i : ℕ) (f d : F) (came : Arrival) →
    InTurn b positions first now v0 v i → IsReady (map b.profile first) positions v0 → i < length positions →
    f ≡ moved_function b v.fixed (get_or now (get_or positions i 0 - 1) d) (Live (as_version v)) →
    as_branch_end came ≡ moved_end b v.fixed (get_or positions i 0) (get_or now (get_or positions i 0 - 1) d) (Live (as_version v)) →
    IsWhatWasWritten (get_or positions i 0) (stepped b v.fixed (get_or now (get_or positions i 0 - 1) d) (as_version v).values).written v came → ((w : PlainVersion) → came ≢ cames.Version w) →
    Dropped b positions first (set now (get_or positions i 0 - 1) f) v0 came
turn_dropped b positions first now v0 v i f d (cames.Version w) turn ready inside moved gone wrote no_version = absurd (no_version w refl)
turn_dropped b positions first now v0 v i f d cames.Short turn ready inside moved gone wrote no_version = absurd wrote
turn_dropped {F} b positions first now v0 v i f d (cames.Nil p) turn ready inside moved gone wrote no_version =
    let q = get_or positions i 0 in
    let has : HasTurn b now q v = has_turn b positions first now v0 v i turn ready inside in
    let was : F = get_or now (q - 1) d in
    let is : slice_get now (q - 1) ≡ Some was = has.is ∙ ap (λ x. Some x) (sym (turn_is b now q v d has)) in
    let all : ◌≡◌ {A = Ran F} (record { functions = set now (q - 1) f; arrival = Nil p }) (in_turn b v0.fixed positions first (Live (as_version v0))) =
    sym (in_turn_gone b v0.fixed (drop (i + 1) positions) (set now (q - 1) f) p)
    ∙ (λ j. in_turn b v0.fixed (drop (i + 1) positions) (set now (q - 1) (moved j)) (gone j))
    ∙ ap (λ x. in_turn b v0.fixed (drop (i + 1) positions) (set now (q - 1) (moved_function b x was (Live (as_version v)))) (moved_end b x q was (Live (as_version v)))) turn.fixed
    ∙ sym (in_turn_more b v0.fixed q (drop (i + 1) positions) now was (Live (as_version v)) is)
    ∙ ap (λ l. in_turn b v0.fixed l now (Live (as_version v))) (sym (drop_more positions i 0 inside))
    ∙ turn.same in
    record { functions = ap (λ r. r.functions) all; arrival = ap (λ r. r.arrival) all; carried = λ whole low high holds carried. tt; kept = tt }
