-- The packet joined from the arrivals of a base is whole.
use Rattle.std.proofs.Common.{◌≡◌, ◌≢◌, ◌∙◌, ◌<◌, ℕ, Bool, true, false, List, length, sym, ap, refl, subst, get_or, arith}
use Rattle.std.specs.Prelude.{if◌then◌else◌, ◌||◌, Option, Some, None, is_some, option_map, IfSome, position}
use Rattle.std.specs.Option.{option_or, option_map_or}
use Rattle.std.proofs.lemmas.List.Quantifiers.{position-Some}
use Rattle.std.proofs.lemmas.List.Folds.{list_any_at}
use Rattle.packet_fields.specs.Writing.{Fits}
use Rattle.packet_fields.specs.declared.field.Field.{Field}
use Rattle.packet_fields.specs.declared.field.Field.TheVariants.{Tag}
use Rattle.action_profile.specs.FieldSets.{has}
use Rattle.action_profile.specs.declared.parts.Mode.TheVariants.{Shared}
use Rattle.action_profile.specs.declared.parts.Touch.{Touch}
use Rattle.action_profile.specs.Modes.{has_write, has_touch, mode_of, written_mode}
use Rattle.packet_version.specs.Parts.{PlainPart, Parts, unwritten, values_of, writers_of, writer_in}
use Rattle.packet_version.specs.Parts.{AreTags}
use Rattle.packet_version.specs.Splitting.{PlainApart, IsWhole, packet_parts}
use Rattle.packet_version.specs.Versions.{PlainVersion, version_parts}
use Rattle.packet_version.specs.Dealing.{dealt_parts, kept_part, kept_parts, based, is_given}
use Rattle.packet_version.proofs.Firsts.{none-position, any-none}
use Rattle.packet_version.proofs.Maps.{as_map-listed}
use Rattle.packet_version.proofs.Shaping.{shaped_whole}
use Rattle.merge_ops.specs.Merging.{part_of, writer_of, last_writer, decision_of}
use Rattle.merge_ops.specs.Taking.{writes_in, arrival_at, part_behind, part_from, merged_parts, with_parts}
use Rattle.merge_ops.specs.Behind.{no_touch, IsMadeOf, IsFrom, AreFrom, value_by, value_behind}
use Rattle.merge_ops.specs.declared.arrival.Arrival.{Arrival}
use Rattle.merge_ops.specs.declared.arrival.Arrival.TheVariants.{Version, Nil, Short}
use Rattle.merge_ops.specs.declared.decision.MergeOp.{MergeOp}
use Rattle.merge_ops.specs.declared.decision.Decision.TheVariants.{Take}
use Rattle.merge_ops.proofs.Latest.{GoesOn, goes_on, is_version, version_at, last_is, last_none}

abbrev bytes_in : Option PlainPart → Option (List ℕ)
bytes_in part = option_map (λ p. p.bytes) part

abbrev length_in : Option PlainPart → Option ℕ
length_in part = option_map (λ p. length p.bytes) part

-- A part of the shape of another.
record Alike (f : Field) (new old : Option PlainPart) : Type 0 where
  there : is_some new ≡ is_some old
  lengths : f ≢ Tag → length_in new ≡ length_in old

unwritten_there : (o : Option PlainPart) → is_some (option_map unwritten o) ≡ is_some o
unwritten_there None = refl
unwritten_there (Some p) = refl

unwritten_length : (o : Option PlainPart) → length_in (option_map unwritten o) ≡ length_in o
unwritten_length None = refl
unwritten_length (Some p) = refl

unwritten_bytes : (o : Option PlainPart) → bytes_in (option_map unwritten o) ≡ bytes_in o
unwritten_bytes None = refl
unwritten_bytes (Some p) = refl

touch_write : (r w : Bool) → w ≡ true → (r || w) ≡ true
touch_write true w e = refl
touch_write false w e = e

-- a branch that writes a field gets it
dealt_write : (touch : Touch) (parts : Parts) (f : Field) → has_write f touch ≡ true → dealt_parts touch parts f ≡ option_map unwritten (parts f)
dealt_write touch parts f w = ap (λ (b : Bool). if b then option_map unwritten (parts f) else None) (touch_write (has touch.reads f) (has touch.writes f) w)

made_alike : (whole : PlainApart) (touch : Touch) (v : PlainVersion) (f : Field) → IsMadeOf whole touch v → dealt_parts touch (packet_parts whole) f ≡ option_map unwritten (packet_parts whole f) → Alike f (version_parts v f) (packet_parts whole f)
made_alike whole touch v f m d = record {
  there = m.there f ∙ (ap (λ (o : Option PlainPart). is_some o) d ∙ unwritten_there (packet_parts whole f));
  lengths = λ apart. m.lengths f apart ∙ (ap length_in d ∙ unwritten_length (packet_parts whole f));
}

-- a branch that gets a field has the packet's part
dealt_there : (touch : Touch) (parts : Parts) (f : Field) → is_some (dealt_parts touch parts f) ≡ true → dealt_parts touch parts f ≡ option_map unwritten (parts f)
dealt_there touch parts f there = by_test (has_touch f touch) there
  where
    by_test : (b : Bool) → is_some (if b then option_map unwritten (parts f) else None) ≡ true → (if b then option_map unwritten (parts f) else None) ≡ option_map unwritten (parts f)
    by_test true e = refl
    by_test false e = absurd (cc)

there_written : (part : Option PlainPart) → writer_in part ≢ 0 → is_some part ≡ true
there_written None w = absurd (w refl)
there_written (Some p) w = refl

made_own : (whole : PlainApart) (touch : Touch) (v : PlainVersion) (f : Field) → IsMadeOf whole touch v → has_write f touch ≡ true → writers_of (version_parts v) f ≡ 0 → bytes_in (version_parts v f) ≡ bytes_in (packet_parts whole f)
made_own whole touch v f m w zero = m.own f zero ∙ (ap bytes_in (dealt_write touch (packet_parts whole) f w) ∙ unwritten_bytes (packet_parts whole f))

-- an arrival in which a field was written
wrote_alike : (whole : PlainApart) (touch : Touch) (a : Arrival) (f : Field) → IsFrom whole touch a → writer_of f a ≢ 0 → Alike f (part_of f a) (packet_parts whole f)
wrote_alike whole touch (Version v) f m w = made_alike whole touch v f m (dealt_there touch (packet_parts whole) f (sym (m.there f) ∙ there_written (version_parts v f) w))
wrote_alike whole touch (Nil p) f m w = absurd (w refl)
wrote_alike whole touch Short f m w = absurd (w refl)

-- an arrival of a branch that writes it
from_alike : (whole : PlainApart) (touch : Touch) (a : Arrival) (f : Field) → IsFrom whole touch a → writes_in f a ≡ true → Alike f (part_of f a) (packet_parts whole f)
from_alike whole touch (Version v) f m w = made_alike whole touch v f m (dealt_write touch (packet_parts whole) f (sym (ap (λ (t : Touch). has_write f t) m.touched) ∙ w))
from_alike whole touch (Nil p) f m w = absurd (cc)
from_alike whole touch Short f m w = absurd (cc)

from_own : (whole : PlainApart) (touch : Touch) (a : Arrival) (f : Field) → IsFrom whole touch a → writes_in f a ≡ true → writer_of f a ≡ 0 → bytes_in (part_of f a) ≡ bytes_in (packet_parts whole f)
from_own whole touch (Version v) f m w zero = made_own whole touch v f m (sym (ap (λ (t : Touch). has_write f t) m.touched) ∙ w) zero
from_own whole touch (Nil p) f m w zero = absurd (cc)
from_own whole touch Short f m w zero = absurd (cc)

version_writes : (whole : PlainApart) (touch : Touch) (a : Arrival) (f : Field) → IsFrom whole touch a → is_version a ≡ true → has_write f touch ≡ true → writes_in f a ≡ true
version_writes whole touch (Version v) f m is w = ap (λ (t : Touch). has_write f t) m.touched ∙ w
version_writes whole touch (Nil p) f m is w = absurd (cc)
version_writes whole touch Short f m is w = absurd (cc)

or_there : (part own : Option PlainPart) → is_some part ≡ true → option_or part own ≡ part
or_there None own e = absurd (cc)
or_there (Some p) own e = refl

or_none : (part : Option PlainPart) → option_or part None ≡ part
or_none None = refl
or_none (Some p) = refl

-- what the base kept
based_part : (whole : PlainApart) (touches : List Touch) (base : PlainApart) (f : Field) → base ≡ based touches whole → packet_parts base f ≡ kept_part (mode_of touches f) (packet_parts whole f)
based_part whole touches base f e =
    ap (λ (b : PlainApart). packet_parts b f) e ∙ ap (λ (m : Parts). m f) (as_map-listed (kept_parts touches (packet_parts whole)))

kept_by : (b : Bool) (o : Option PlainPart) (p : PlainPart) → (if b then None else option_map unwritten o) ≡ Some p → option_map unwritten o ≡ Some p
kept_by true o p e = absurd (cc)
kept_by false o p e = e

given_by : (b : Bool) (o : Option PlainPart) → b ≡ false → (if b then None else option_map unwritten o) ≡ None → is_some o ≡ false
given_by true o is e = absurd (cc)
given_by false None is e = refl
given_by false (Some p) is e = absurd (cc)

shared_mode : (touches : List Touch) (f : Field) → position (has_write f) touches ≡ None → mode_of touches f ≡ Shared
unfolding mode_of
shared_mode touches f e = ap (λ (o : Option ℕ). option_map_or (written_mode touches f) o Shared) e

-- no branch has a field that no arrival's branch writes
none_writes : (whole : PlainApart) (touches : List Touch) (base : PlainApart) (arrivals : List Arrival) (ops : List MergeOp) (f : Field) → AreFrom whole touches base arrivals → GoesOn arrivals ops → position (writes_in f) arrivals ≡ None → (o : Option ℕ) → position (has_write f) touches ≡ o → o ≡ None
none_writes whole touches base arrivals ops f from on none None e = refl
none_writes whole touches base arrivals ops f from on none (Some b) e =
    let found = position-Some (has_write f) touches b no_touch e in
    let below : b < length arrivals = (let inside : b < length touches = found.0 in let count = from.count in omega arith) in
    let writes : writes_in f (arrival_at arrivals b) ≡ true = version_writes whole (get_or touches b no_touch) (arrival_at arrivals b) f (from.each b found.0) (version_at arrivals ops b on below) found.1 in
    let some = list_any_at (writes_in f) arrivals b Short below writes in
    let nobody = any-none (writes_in f) arrivals (none-position (writes_in f) arrivals none) in
    absurd (cc)

-- The part of a field after the stage: it has the shape of the packet's own, and the value that was written last.
record IsBehind (whole : PlainApart) (arrivals : List Arrival) (f : Field) (last : Option ℕ) (part : Option PlainPart) : Type 0 where
  alike : Alike f part (packet_parts whole f)
  value : bytes_in part ≡ value_by whole arrivals f last

by_first : (whole : PlainApart) (touches : List Touch) (base : PlainApart) (arrivals : List Arrival) (ops : List MergeOp) (f : Field) → AreFrom whole touches base arrivals → GoesOn arrivals ops → last_writer arrivals f ≡ None → packet_parts base f ≡ None → (o : Option ℕ) → position (writes_in f) arrivals ≡ o → IsBehind whole arrivals f None (option_or (part_from f arrivals o) None)
by_first whole touches base arrivals ops f from on last own (Some b) e =
    let found = position-Some (writes_in f) arrivals b Short e in
    let below : b < length touches = (let inside : b < length arrivals = found.0 in let count = from.count in omega arith) in
    let made = from.each b below in
    let part = part_of f (arrival_at arrivals b) in
    subst (λ (p : Option PlainPart). IsBehind whole arrivals f None p) (sym (or_none part)) (record {
      alike = from_alike whole (get_or touches b no_touch) (arrival_at arrivals b) f made found.1;
      value = from_own whole (get_or touches b no_touch) (arrival_at arrivals b) f made found.1 (last_none arrivals f b last);
    })
by_first whole touches base arrivals ops f from on last own None e =
    let free : is_given (mode_of touches f) ≡ false = ap is_given (shared_mode touches f (none_writes whole touches base arrivals ops f from on e (position (has_write f) touches) refl)) in
    let lacks = given_by (is_given (mode_of touches f)) (packet_parts whole f) free (sym (based_part whole touches base f from.behind) ∙ own) in
    nothing (packet_parts whole f) refl lacks
  where
    nothing : (o : Option PlainPart) → packet_parts whole f ≡ o → is_some o ≡ false → IsBehind whole arrivals f None None
    nothing None is lacks = record {
      alike = record { there = sym (ap (λ (p : Option PlainPart). is_some p) is); lengths = λ apart. sym (ap length_in is) };
      value = sym (ap bytes_in is);
    }
    nothing (Some p) is lacks = absurd (cc)

behind : (whole : PlainApart) (touches : List Touch) (base : PlainApart) (arrivals : List Arrival) (ops : List MergeOp) (f : Field) → AreFrom whole touches base arrivals → GoesOn arrivals ops → (last : Option ℕ) → last_writer arrivals f ≡ last → (own : Option PlainPart) → packet_parts base f ≡ own → IsBehind whole arrivals f last (part_behind f arrivals last own)
behind whole touches base arrivals ops f from on (Some b) e own is =
    let last = last_is arrivals f b e in
    let below : b < length touches = (let inside : b < length arrivals = last.below in let count = from.count in omega arith) in
    let made = from.each b below in
    let part = part_of f (arrival_at arrivals b) in
    subst (λ (p : Option PlainPart). IsBehind whole arrivals f (Some b) p) (sym (or_there part own (there_written part last.wrote))) (record {
      alike = wrote_alike whole (get_or touches b no_touch) (arrival_at arrivals b) f made last.wrote;
      value = refl;
    })
behind whole touches base arrivals ops f from on None e (Some p) is =
    let kept : option_map unwritten (packet_parts whole f) ≡ Some p = kept_by (is_given (mode_of touches f)) (packet_parts whole f) p (sym (based_part whole touches base f from.behind) ∙ is) in
    record {
      alike = record {
        there = sym (ap (λ (o : Option PlainPart). is_some o) kept) ∙ unwritten_there (packet_parts whole f);
        lengths = λ apart. sym (ap length_in kept) ∙ unwritten_length (packet_parts whole f);
      };
      value = sym (ap bytes_in kept) ∙ unwritten_bytes (packet_parts whole f);
    }
behind whole touches base arrivals ops f from on None e None is = by_first whole touches base arrivals ops f from on e is (position (writes_in f) arrivals) refl

merged_behind : (whole : PlainApart) (touches : List Touch) (base : PlainApart) (arrivals : List Arrival) (ops : List MergeOp) (f : Field) → AreFrom whole touches base arrivals → GoesOn arrivals ops → IsBehind whole arrivals f (last_writer arrivals f) (merged_parts base arrivals f)
unfolding merged_parts
merged_behind whole touches base arrivals ops f from on = behind whole touches base arrivals ops f from on (last_writer arrivals f) refl (packet_parts base f) refl

-- each field has the value that was written last
pub merged_value : (whole : PlainApart) (touches : List Touch) (base : PlainApart) (arrivals : List Arrival) (ops : List MergeOp) (f : Field) → AreFrom whole touches base arrivals → decision_of arrivals ≡ Take ops → values_of (merged_parts base arrivals) f ≡ value_behind whole arrivals f
merged_value whole touches base arrivals ops f from on = (merged_behind whole touches base arrivals ops f from (goes_on arrivals ops (sym on))).value

tags_by : (b : Bool) (o : Option PlainPart) (frame : List ℕ) → IfSome (bytes_in o) (λ bytes. Fits Tag bytes frame) → AreTags (if b then None else option_map unwritten o)
tags_by true o frame fits = tt
tags_by false None frame fits = tt
tags_by false (Some p) frame fits = fits.1

-- the tags that the base kept are whole
pub kept_tags : (whole : PlainApart) (touches : List Touch) (base : PlainApart) (arrivals : List Arrival) → AreFrom whole touches base arrivals → AreTags (packet_parts base Tag)
kept_tags whole touches base arrivals from = subst AreTags (sym (based_part whole touches base Tag from.behind)) (tags_by (is_given (mode_of touches Tag)) (packet_parts whole Tag) whole.rest (from.fits.fits Tag))

-- so the joined parts fit the rest
pub whole_behind : (whole : PlainApart) (touches : List Touch) (base made : PlainApart) (arrivals : List Arrival) (ops : List MergeOp) → AreFrom whole touches base arrivals → Take ops ≡ decision_of arrivals → made ≡ with_parts base (merged_parts base arrivals) → AreTags (packet_parts made Tag) → IsWhole (packet_parts made) made.rest
whole_behind whole touches base made arrivals ops from on is tags =
    let done = goes_on arrivals ops on in
    let parts : packet_parts made ≡ merged_parts base arrivals = ap packet_parts is ∙ as_map-listed (merged_parts base arrivals) in
    let rest : whole.rest ≡ made.rest = sym (ap (λ (w : PlainApart). w.rest) is ∙ ap (λ (w : PlainApart). w.rest) from.behind) in
    subst (λ (r : List ℕ). IsWhole (packet_parts made) r) rest (shaped_whole (packet_parts whole) (packet_parts made) whole.rest from.fits (record {
      there = λ f. ap (λ (m : Parts). is_some (m f)) parts ∙ (merged_behind whole touches base arrivals ops f from done).alike.there;
      lengths = λ f apart. ap (λ (m : Parts). length_in (m f)) parts ∙ (merged_behind whole touches base arrivals ops f from done).alike.lengths apart;
      tags = tags;
    }))
