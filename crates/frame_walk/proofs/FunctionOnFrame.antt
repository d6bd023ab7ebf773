-- A function acts on a frame that was split, and the frame is joined again.
use Rattle.std.proofs.Common.{◌≡◌, ◌≢◌, ◌∙◌, ◌<◌, ◌≤◌, ◌+◌, ◌*◌, ℕ, zero, suc, Bool, true, false, List, [], ◌∷◌, ◌++◌, map, length, sym, ap, refl, subst, arith}
use mathlib.Core.Path.{fun_ext}
use Rattle.std.specs.Prelude.{Option, Some, None, is_some, ◌&&◌, ◌||◌, option_map, IsSome, IfSome, IsSomeAnd, if◌then◌else◌, slice_index_or, Result, Ok, Err, OnErr, position, count_by, nat_lt, not, ◌==◌}
use Rattle.std.specs.Option.{option_or, option_map_or}
use Rattle.std.specs.List.{list_any}
use Rattle.packet_fields.specs.Fields.{value}
use Rattle.packet_fields.specs.Writing.{written, over, fields_of, rest_of}
use Rattle.packet_fields.specs.declared.field.Field.{Field}
use Rattle.packet_fields.specs.declared.field.Field.TheVariants.{Tag}
use Rattle.action_profile.specs.FieldSets.{has}
use Rattle.action_profile.specs.Modes.{has_touch, has_write, only_reads, written_mode, mode_of}
use Rattle.action_profile.specs.declared.parts.Mode.TheVariants.{Shared, Moved, Copied}
use Rattle.action_profile.specs.Profiles.{reads_of, writes_of}
use Rattle.action_profile.specs.declared.parts.Touch.{Touch}
use Rattle.action_profile.specs.declared.rights.Profile.{Profile}
use Rattle.chain_walk.specs.Shown.{Values, AreWellFormed, shown_by, fixed_of}
use Rattle.chain_walk.specs.Step.{Behaviour, Step, is_drop}
use Rattle.chain_walk.specs.Laws.{KeepsProfile}
use Rattle.chain_walk.specs.Walk.{applied, frame_after}
use Rattle.chain_walk.specs.declared.fixed.Fixed.{Fixed}
use Rattle.chain_walk.specs.declared.verdict.Verdict.{Verdict}
use Rattle.packet_version.specs.Parts.{PlainPart, Parts, writer_in, values_of, unwritten}
use Rattle.packet_version.specs.Splitting.{PlainApart, IsWhole, fresh, split_parts, spare_room, packet_parts}
use Rattle.packet_version.specs.Versions.{PlainVersion, HoldsNamed, version_parts}
use Rattle.packet_version.specs.Dealing.{dealt, dealt_parts, based}
use Rattle.packet_version.specs.Views.{PlainView, seen_parts, seen_values, viewed, wrote_all, rewritten_by, HasTagRoom}
use Rattle.packet_version.proofs.Firsts.{count-cons}
use Rattle.merge_ops.specs.Behind.{no_touch, lengths_of, IsMadeOf, IsFrom, AreFrom, value_by, value_behind}
use Rattle.merge_ops.specs.Merging.{writer_of, last_writer}
use Rattle.merge_ops.specs.Taking.{arrival_at}
use Rattle.merge_ops.specs.declared.arrival.Arrival.{Arrival}
use Rattle.merge_ops.specs.declared.arrival.Arrival.TheVariants.{Version as of_version}

-- a frame in parts, with room for this number of tags more
pub record IsApart (whole : PlainApart) (taggers time : ℕ) (frame : List ℕ) : Type 0 where
  pub parts : packet_parts whole ≡ split_parts taggers frame
  pub rest : whole.rest ≡ rest_of frame
  pub fixed : whole.fixed ≡ fixed_of time frame
  pub fits : IsWhole (packet_parts whole) whole.rest

bytes_fresh : (spare : ℕ) (o : Option (List ℕ)) → option_map (λ (p : PlainPart). p.bytes) (option_map (fresh spare) o) ≡ o
bytes_fresh spare None = refl
bytes_fresh spare (Some bytes) = refl

values_apart : (whole : PlainApart) (taggers time : ℕ) (frame : List ℕ) → IsApart whole taggers time frame → values_of (packet_parts whole) ≡ fields_of frame
values_apart whole taggers time frame apart = ap values_of apart.parts ∙ fun_ext (λ f. bytes_fresh (spare_room taggers f) (value f frame))

-- the version that the only branch gets, as its function sees it
abbrev pub dealt_view : PlainApart → Touch → Profile → PlainView
dealt_view whole touch profile = record { version = dealt whole touch; profile = profile; position = 1 }

-- what is read from a version that a branch got
abbrev pub IsReadAs : PlainApart → Touch → Type 0
IsReadAs whole touch = version_parts (dealt whole touch) ≡ dealt_parts touch (packet_parts whole)

reads_named : (r w : Bool) → r ≡ true → (r || w) ≡ true
reads_named true w e = refl
reads_named false w e = absurd cc

writes_named : (r w : Bool) → w ≡ true → (r || w) ≡ true
writes_named true w e = refl
writes_named false w e = e

bytes_touched : (t : Bool) (o : Option PlainPart) → t ≡ true → option_map (λ (p : PlainPart). p.bytes) (if t then option_map unwritten o else None) ≡ option_map (λ (p : PlainPart). p.bytes) o
bytes_touched true None e = refl
bytes_touched true (Some p) e = refl
bytes_touched false o e = absurd cc

-- a function sees the same of what its branch gets as of the whole packet
shown_same : (p : Profile) (fixed : Fixed) (touch : Touch) (parts : Parts) → HoldsNamed p touch → shown_by p fixed (values_of (dealt_parts touch parts)) ≡ shown_by p fixed (values_of parts)
shown_same p fixed touch parts holds = λ i. record {
  values = fun_ext (λ f. read f (reads_of p f) refl) i;
  has = fun_ext (λ f. there f (writes_of p f) refl) i;
  fixed = fixed;
}
  where
    read : (f : Field) (r : Bool) → reads_of p f ≡ r → (if r then values_of (dealt_parts touch parts) f else None) ≡ (if r then values_of parts f else None)
    read f true e = bytes_touched (has_touch f touch) (parts f) (holds.touched f (reads_named (reads_of p f) (writes_of p f) e))
    read f false e = refl

    there : (f : Field) (w : Bool) → writes_of p f ≡ w → (w && is_some (values_of (dealt_parts touch parts) f)) ≡ (w && is_some (values_of parts f))
    there f true e = ap (λ (o : Option (List ℕ)). is_some o) (bytes_touched (has_touch f touch) (parts f) (holds.touched f (writes_named (reads_of p f) (writes_of p f) e)))
    there f false e = refl

-- so it does with a view what it does with the frame
pub step_same : {F : Type 0} (b : Behaviour F) (f : F) (whole : PlainApart) (touch : Touch) (taggers time : ℕ) (frame : List ℕ) → IsApart whole taggers time frame → IsReadAs whole touch → HoldsNamed (b.profile f) touch →
    viewed b f (dealt_view whole touch (b.profile f)) ≡ applied b time f frame
step_same b f whole touch taggers time frame apart read holds =
    ap (λ (m : Parts). b.step f (shown_by (b.profile f) whole.fixed (values_of m))) read
    ∙ ap (b.step f) (shown_same (b.profile f) whole.fixed touch (packet_parts whole) holds)
    ∙ ap (λ (v : Values). b.step f (shown_by (b.profile f) whole.fixed v)) (values_apart whole taggers time frame apart)
    ∙ ap (λ (x : Fixed). b.step f (shown_by (b.profile f) x (fields_of frame))) apart.fixed

-- a tag fits if there is room for one
room_dealt : (t : Bool) (o : Option (List ℕ)) (n : ℕ) → n ≡ 1 → IsSome (if t then option_map unwritten (option_map (fresh (4 * n)) o) else None) →
    IsSomeAnd (if t then option_map unwritten (option_map (fresh (4 * n)) o) else None) (λ part. length part.bytes + 4 ≤ part.room)
room_dealt true None n one there = absurd cc
room_dealt true (Some bytes) n one there = omega arith
room_dealt false o n one there = absurd cc

pub has_room : (whole : PlainApart) (touch : Touch) (p : Profile) (taggers time : ℕ) (frame : List ℕ) → IsApart whole taggers time frame → IsReadAs whole touch → taggers ≡ 1 → IsSome (seen_parts (dealt_view whole touch p) Tag) → HasTagRoom (dealt_view whole touch p)
has_room whole touch p taggers time frame apart read one there =
    let is : seen_parts (dealt_view whole touch p) ≡ dealt_parts touch (split_parts taggers frame) = read ∙ ap (dealt_parts touch) apart.parts in
    subst (λ (m : Parts). IsSomeAnd (m Tag) (λ part. length part.bytes + 4 ≤ part.room)) (sym is)
    (room_dealt (has_touch Tag touch) (value Tag frame) taggers one (subst (λ (m : Parts). IsSome (m Tag)) is there))

-- what a function wrote is in its version
abbrev bytes_in : Option PlainPart → Option (List ℕ)
bytes_in part = option_map (λ p. p.bytes) part

there_after : (w : Option (List ℕ)) (o : Option PlainPart) → is_some (rewritten_by w 1 o) ≡ is_some o
there_after None o = refl
there_after (Some w) None = refl
there_after (Some w) (Some p) = refl

own_after : (w : Option (List ℕ)) (o : Option PlainPart) → writer_in (rewritten_by w 1 o) ≡ 0 → bytes_in (rewritten_by w 1 o) ≡ bytes_in o
own_after None o z = refl
own_after (Some w) None z = refl
own_after (Some w) (Some p) z = absurd (omega arith)

length_after : (w : Option (List ℕ)) (o : Option PlainPart) → IfSome w (λ new. IsSomeAnd (bytes_in o) (λ old. length new ≡ length old)) → option_map (λ p. length p.bytes) (rewritten_by w 1 o) ≡ option_map (λ p. length p.bytes) o
length_after None o h = refl
length_after (Some w) None h = refl
length_after (Some w) (Some p) h = ap (λ (n : ℕ). Some n) h

-- what is read from a view in which these values were written
abbrev pub IsWrittenAs : PlainView → Values → Type 0
IsWrittenAs view new = (f : Field) → seen_parts (wrote_all new view) f ≡ rewritten_by (new f) view.position (seen_parts view f)

-- the version is one that its branch may have made
pub step_made : {F : Type 0} (b : Behaviour F) (f : F) (whole : PlainApart) (touch : Touch) (new : Values) → KeepsProfile b → IsReadAs whole touch → AreWellFormed (seen_values (dealt_view whole touch (b.profile f))) →
    new ≡ (viewed b f (dealt_view whole touch (b.profile f))).written → IsWrittenAs (dealt_view whole touch (b.profile f)) new → IsMadeOf whole touch (wrote_all new (dealt_view whole touch (b.profile f))).version
step_made b f whole touch new keeps read formed is after =
    let view = dealt_view whole touch (b.profile f) in
    record {
      touched = refl;
      there = λ x. ap (λ (o : Option PlainPart). is_some o) (after x) ∙ there_after (new x) (seen_parts view x) ∙ ap (λ (m : Parts). is_some (m x)) read;
      own = λ x z. ap bytes_in (after x) ∙ own_after (new x) (seen_parts view x) (sym (ap writer_in (after x)) ∙ z) ∙ ap (λ (m : Parts). values_of m x) read;
      lengths = λ x apart. ap (λ (o : Option PlainPart). option_map (λ p. length p.bytes) o) (after x)
          ∙ length_after (new x) (seen_parts view x) (subst (λ (w : Values). IfSome (w x) (λ n. IsSomeAnd (seen_values view x) (λ old. length n ≡ length old))) (sym is) (keeps.lengths whole.fixed f (seen_values view) x apart (formed.lengths x)))
          ∙ ap (λ (m : Parts). lengths_of m x) read;
    }

pub from_one : (whole base : PlainApart) (touch : Touch) (version : PlainVersion) → IsWhole (packet_parts whole) whole.rest → base ≡ based (touch ∷ []) whole → IsMadeOf whole touch version → AreFrom whole (touch ∷ []) base (of_version version ∷ [])
from_one whole base touch version fits behind made = record { fits = fits; behind = behind; count = refl; each = each }
  where
    each : (k : ℕ) → k < 1 → IsFrom whole (slice_index_or (touch ∷ []) k no_touch) (arrival_at (of_version version ∷ []) k)
    each zero less = made
    each (suc k) less = absurd (omega arith)

-- the laws of merging on which this rests
abbrev pub NoneWrote : Type 0
NoneWrote = (arrivals : List Arrival) (f : Field) (branch : ℕ) → last_writer arrivals f ≡ None → writer_of f (arrival_at arrivals branch) ≡ 0

abbrev pub OneWrote : Type 0
OneWrote = (arrivals : List Arrival) (f : Field) (branch : ℕ) → last_writer arrivals f ≡ Some branch → (branch < length arrivals) × (0 < writer_of f (arrival_at arrivals branch))

nobody : (t : Bool) (o : Option PlainPart) → writer_in (if t then option_map unwritten o else None) ≡ 0
nobody true None = refl
nobody true (Some p) = refl
nobody false o = refl

nothing_new : (w : Option (List ℕ)) (o : Option PlainPart) → (is_some (bytes_in o) ≡ false → w ≡ None) → writer_in (rewritten_by w 1 o) ≡ 0 → w ≡ None
nothing_new None o absent z = refl
nothing_new (Some w) None absent z = absent refl
nothing_new (Some w) (Some p) absent z = absurd (omega arith)

new_bytes : (w : Option (List ℕ)) (o : Option PlainPart) (own : Option (List ℕ)) → writer_in o ≡ 0 → 0 < writer_in (rewritten_by w 1 o) → bytes_in (rewritten_by w 1 o) ≡ option_or w own
new_bytes None o own unwritten some = absurd (omega arith)
new_bytes (Some w) None own unwritten some = absurd (omega arith)
new_bytes (Some w) (Some p) own unwritten some = refl

false_and : (a c : Bool) → c ≡ false → (a && c) ≡ false
false_and true c e = e
false_and false c e = refl

-- after the branch each field has the value that was written, or the packet's own
pub value_written : {F : Type 0} (b : Behaviour F) (f : F) (whole : PlainApart) (touch : Touch) (new : Values) → NoneWrote → OneWrote → KeepsProfile b → IsReadAs whole touch → new ≡ (viewed b f (dealt_view whole touch (b.profile f))).written →
    IsWrittenAs (dealt_view whole touch (b.profile f)) new → value_behind whole (of_version (wrote_all new (dealt_view whole touch (b.profile f))).version ∷ []) ≡ over new (values_of (packet_parts whole))
value_written b f whole touch new none_wrote one_wrote keeps read is after = fun_ext (λ x. by_last x (last_writer arrivals x) refl)
  where
    view : PlainView
    view = dealt_view whole touch (b.profile f)

    arrivals : List Arrival
    arrivals = of_version (wrote_all new view).version ∷ []

    absent : (x : Field) → is_some (seen_values view x) ≡ false → new x ≡ None
    absent x e = ap (λ (w : Values). w x) is ∙ keeps.writes whole.fixed f (seen_values view) x (false_and (writes_of (b.profile f) x) (is_some (seen_values view x)) e)

    unwritten_yet : (x : Field) → writer_in (seen_parts view x) ≡ 0
    unwritten_yet x = ap (λ (m : Parts). writer_in (m x)) read ∙ nobody (has_touch x touch) (packet_parts whole x)

    by_last : (x : Field) (o : Option ℕ) → last_writer arrivals x ≡ o → value_by whole arrivals x o ≡ option_or (new x) (values_of (packet_parts whole) x)
    by_last x None none = sym (ap (λ (w : Option (List ℕ)). option_or w (values_of (packet_parts whole) x)) (nothing_new (new x) (seen_parts view x) (absent x) (sym (ap writer_in (after x)) ∙ none_wrote arrivals x 0 none)))
    by_last x (Some zero) some = let wrote = (one_wrote arrivals x 0 some).1 in
        ap bytes_in (after x) ∙ new_bytes (new x) (seen_parts view x) (values_of (packet_parts whole) x) (unwritten_yet x) (subst (λ (o : Option PlainPart). 0 < writer_in o) (after x) wrote)
    by_last x (Some (suc k)) some = absurd (let less = (one_wrote arrivals x (suc k) some).0 in omega arith)

-- the frame is joined with what was written
abbrev pub PutTogether : {F : Type 0} → Behaviour F → ℕ → F → List ℕ → Type 0
PutTogether b time f frame = written (over (applied b time f frame).written (fields_of frame)) (rest_of frame) ≡ frame_after b time f frame

pub frame_made : {F : Type 0} (b : Behaviour F) (f : F) (whole : PlainApart) (taggers time : ℕ) (frame out : List ℕ) (new : Values) (behind : Values) → IsApart whole taggers time frame → PutTogether b time f frame → new ≡ (applied b time f frame).written →
    behind ≡ over new (values_of (packet_parts whole)) → out ≡ written behind whole.rest → out ≡ frame_after b time f frame
frame_made b f whole taggers time frame out new behind apart together is values made =
    made
    ∙ ap (λ (v : Values). written v whole.rest) (values ∙ ap (λ (v : Values). over v (values_of (packet_parts whole))) is ∙ ap (over (applied b time f frame).written) (values_apart whole taggers time frame apart))
    ∙ ap (written (over (applied b time f frame).written (fields_of frame))) apart.rest
    ∙ together

-- a function's turn: the view of what it gets, and what it does there
pub record IsTurn {F : Type 0} (b : Behaviour F) (f : F) (whole : PlainApart) (touch : Touch) (taggers time : ℕ) (frame : List ℕ) (view : PlainView) : Type 0 where
  pub apart : IsApart whole taggers time frame
  pub read : IsReadAs whole touch
  pub is : view ≡ dealt_view whole touch (b.profile f)
  pub step : viewed b f view ≡ applied b time f frame

last_is : {A : Type 0} (others : List A) (t v : A) → t ∷ [] ≡ others ++ v ∷ [] → v ≡ t
last_is [] t v e = cc
last_is (o ∷ []) t v e = absurd cc
last_is (o ∷ p ∷ others) t v e = absurd cc

pub turn : {F : Type 0} (b : Behaviour F) (f : F) (whole : PlainApart) (touch : Touch) (touches : List Touch) (taggers time : ℕ) (frame : List ℕ) (profile : Profile) (versions others : List PlainVersion) (version : PlainVersion) (view : PlainView) →
    IsApart whole taggers time frame → IsReadAs whole touch → profile ≡ b.profile f → HoldsNamed profile touch → touches ≡ touch ∷ [] → versions ≡ map (dealt whole) touches → versions ≡ others ++ version ∷ [] →
    view ≡ record { version = version; profile = profile; position = 1 } → IsTurn b f whole touch taggers time frame view
turn b f whole touch touches taggers time frame profile versions others version view apart read own holds one dealt_are popped sees =
    let version_is : version ≡ dealt whole touch = last_is others (dealt whole touch) version (sym (dealt_are ∙ ap (map (dealt whole)) one) ∙ popped) in
    let is : view ≡ dealt_view whole touch (b.profile f) = sees ∙ ap (λ (v : PlainVersion). let x : PlainView = record { version = v; profile = profile; position = 1 } in x) version_is ∙ ap (dealt_view whole touch) own in
    record {
      apart = apart;
      read = read;
      is = is;
      step = ap (viewed b f) is ∙ step_same b f whole touch taggers time frame apart read (subst (λ (p : Profile). HoldsNamed p touch) own holds);
    }

pub turn_room : {F : Type 0} (b : Behaviour F) (f : F) (whole : PlainApart) (touch : Touch) (taggers time : ℕ) (frame : List ℕ) (view : PlainView) (profile : Profile) → IsTurn b f whole touch taggers time frame view → profile ≡ b.profile f → taggers ≡ (if profile.adds then 1 else 0) →
    (b.profile f).adds ≡ true → IsSome (seen_parts view Tag) → HasTagRoom view
turn_room b f whole touch taggers time frame view profile turn own count adds there =
    let one : taggers ≡ 1 = count ∙ ap (λ (t : Bool). if t then 1 else 0) (ap (λ (p : Profile). p.adds) own ∙ adds) in
    subst HasTagRoom (sym turn.is) (has_room whole touch (b.profile f) taggers time frame turn.apart turn.read one (subst (λ (v : PlainView). IsSome (seen_parts v Tag)) turn.is there))

-- what is read from any view in which any values were written
abbrev pub WritesAreRead : Type 0
WritesAreRead = (view : PlainView) (new : Values) (f : Field) → seen_parts (wrote_all new view) f ≡ rewritten_by (new f) view.position (seen_parts view f)

-- the version after a turn
pub version_behind : {F : Type 0} (b : Behaviour F) (f : F) (whole : PlainApart) (touch : Touch) (taggers time : ℕ) (frame : List ℕ) (view after : PlainView) (version : PlainVersion) → IsTurn b f whole touch taggers time frame view →
    after ≡ wrote_all (viewed b f view).written view → version ≡ after.version → version ≡ (wrote_all (viewed b f (dealt_view whole touch (b.profile f))).written (dealt_view whole touch (b.profile f))).version
version_behind b f whole touch taggers time frame view after version turn wrote ends = ends ∙ ap (λ (v : PlainView). v.version) wrote ∙ ap (λ (v : PlainView). (wrote_all (viewed b f v).written v).version) turn.is

pub turn_from : {F : Type 0} (b : Behaviour F) (f : F) (whole base : PlainApart) (touch : Touch) (touches : List Touch) (taggers time : ℕ) (frame : List ℕ) (view after : PlainView) (version : PlainVersion) → IsTurn b f whole touch taggers time frame view →
    WritesAreRead → KeepsProfile b → AreWellFormed (seen_values view) → after ≡ wrote_all (viewed b f view).written view → version ≡ after.version → touches ≡ touch ∷ [] → base ≡ based touches whole → AreFrom whole (touch ∷ []) base (of_version version ∷ [])
turn_from b f whole base touch touches taggers time frame view after version turn read keeps formed wrote ends one behind =
    let seen = dealt_view whole touch (b.profile f) in
    let new = (viewed b f seen).written in
    let made = step_made b f whole touch new keeps turn.read (subst (λ (v : PlainView). AreWellFormed (seen_values v)) turn.is formed) refl (read seen new) in
    subst (λ (v : PlainVersion). AreFrom whole (touch ∷ []) base (of_version v ∷ [])) (sym (version_behind b f whole touch taggers time frame view after version turn wrote ends))
    (from_one whole base touch (wrote_all new seen).version turn.apart.fits (behind ∙ ap (λ (ts : List Touch). based ts whole) one) made)

pub turn_made : {F : Type 0} (b : Behaviour F) (f : F) (whole : PlainApart) (touch : Touch) (taggers time : ℕ) (frame out : List ℕ) (view after : PlainView) (version : PlainVersion) → IsTurn b f whole touch taggers time frame view →
    WritesAreRead → NoneWrote → OneWrote → KeepsProfile b → PutTogether b time f frame → after ≡ wrote_all (viewed b f view).written view → version ≡ after.version →
    out ≡ written (value_behind whole (of_version version ∷ [])) whole.rest → out ≡ frame_after b time f frame
turn_made {F} b f whole touch taggers time frame out view after version turn read none_wrote one_wrote keeps together wrote ends made =
    let seen = dealt_view whole touch (b.profile f) in
    let new = (viewed b f seen).written in
    let is : new ≡ (applied b time f frame).written = ap (λ (s : Step F). s.written) (sym (ap (viewed b f) turn.is) ∙ turn.step) in
    let values = ap (λ (v : PlainVersion). value_behind whole (of_version v ∷ [])) (version_behind b f whole touch taggers time frame view after version turn wrote ends) ∙ value_written b f whole touch new none_wrote one_wrote keeps turn.read refl (read seen new) in
    frame_made b f whole taggers time frame out new (value_behind whole (of_version version ∷ [])) turn.apart together is values made

-- what the function decided is what it decides for the frame
pub turn_verdict : {F : Type 0} (b : Behaviour F) (f : F) (whole : PlainApart) (touch : Touch) (taggers time : ℕ) (frame : List ℕ) (view : PlainView) (told verdict : Verdict) → IsTurn b f whole touch taggers time frame view → told ≡ (viewed b f view).verdict → told ≡ verdict →
    is_drop (applied b time f frame).verdict ≡ is_drop verdict
turn_verdict {F} b f whole touch taggers time frame view told verdict turn decided is = ap is_drop (sym (decided ∙ ap (λ (s : Step F). s.verdict) turn.step) ∙ is)

-- what always holds also holds on an error
pub on_err : {T E : Type 0} (r : Result T E) (P : Type 0) → P → OnErr r P
on_err (Ok x) P p = tt
on_err (Err e) P p = p

-- the mode of a field for the only branch
place_one : {A : Type 0} (p : A → Bool) (x : A) (w : Bool) → p x ≡ w → position p (x ∷ []) ≡ (if w then Some 0 else None)
place_one p x true e = ap (λ (c : Bool). if nat_lt (if not c then 1 + 0 else 0) 1 then Some (if not c then 1 + 0 else 0) else None) e
place_one p x false e = ap (λ (c : Bool). if nat_lt (if not c then 1 + 0 else 0) 1 then Some (if not c then 1 + 0 else 0) else None) e

by_place : (t : Touch) (f : Field) (o : Option ℕ) → position (has_write f) (t ∷ []) ≡ o → mode_of (t ∷ []) f ≡ option_map_or (written_mode (t ∷ []) f) o Shared
unfolding mode_of
by_place t f o is = ap (λ (p : Option ℕ). option_map_or (written_mode (t ∷ []) f) p Shared) is

pub mode_moved : (t : Touch) (f : Field) → has t.writes f ≡ true → Moved 0 ≡ mode_of (t ∷ []) f
mode_moved t f writes =
    let one : count_by (has_touch f) (t ∷ []) ≡ 1 = count-cons (has_touch f) t [] ∙ ap (λ (c : Bool). (if c then 1 else 0) + 0) (writes_named (has t.reads f) (has t.writes f) writes) in
    sym (by_place t f (Some 0) (place_one (has_write f) t true writes)
    ∙ ap (λ (n : ℕ). if n == 1 then Moved 0 else Copied (if list_any (only_reads f) (t ∷ []) then None else Some 0)) one)

pub mode_shared : (t : Touch) (f : Field) → has t.writes f ≡ false → Shared ≡ mode_of (t ∷ []) f
mode_shared t f none = sym (by_place t f None (place_one (has_write f) t false none))
