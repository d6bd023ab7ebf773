-- What a function sees of a packet that it has whole, and that a function which writes nothing leaves the packet as it is.
use Rattle.std.proofs.Common.{◌≡◌, ◌∙◌, ◌+◌, ℕ, Bool, true, false, List, [], ◌∷◌, ◌++◌, sym, ap, refl, subst}
use mathlib.Core.Path.{fun_ext}
use Rattle.std.specs.Prelude.{Option, Some, None, is_some, ◌&&◌, ◌||◌, option_map, IfSome, if◌then◌else◌, position, nat_lt, not, ◌==◌}
use Rattle.std.specs.Option.{option_map_or}
use Rattle.std.proofs.lemmas.Bool.{eqb-true}
use Rattle.packet_fields.specs.Fields.{value}
use Rattle.packet_fields.specs.Writing.{written, over, fields_of, rest_of}
use Rattle.packet_fields.specs.declared.field.Field.{Field}
use Rattle.packet_fields.specs.declared.field.Field.TheVariants.{LinkDst, LinkSrc, Tag, Tos, Ttl, SrcIp, DstIp, SrcPort, DstPort, Payload}
use Rattle.action_profile.specs.FieldSets.{has}
use Rattle.action_profile.specs.Modes.{has_touch, has_write, written_mode, mode_of}
use Rattle.action_profile.specs.Profiles.{reads_of, writes_of}
use Rattle.action_profile.specs.declared.field_set.FieldSet.{FieldSet}
use Rattle.action_profile.specs.declared.parts.Mode.TheVariants.{Shared}
use Rattle.action_profile.specs.declared.parts.Touch.{Touch}
use Rattle.action_profile.specs.declared.rights.Profile.{Profile}
use Rattle.chain_walk.specs.Laws.{KeepsProfile}
use Rattle.chain_walk.specs.Shown.{Values, shown_by, fixed_of}
use Rattle.chain_walk.specs.Step.{Behaviour, stepped, nothing}
use Rattle.chain_walk.specs.Walk.{applied, frame_after}
use Rattle.chain_walk.specs.declared.fixed.Fixed.{Fixed}
use Rattle.packet_function.specs.Deciding.{Deciding, decided}
use Rattle.packet_function.specs.declared.deciding.DecidingLine.{DecidingLine}
use Rattle.packet_version.specs.Dealing.{dealt, dealt_parts, dealt_whole, based, kept_part, kept_parts}
use Rattle.packet_version.specs.Parts.{PlainPart, Parts, as_list, unwritten, values_of}
use Rattle.packet_version.specs.Rejoining.{rejoined_parts}
use Rattle.packet_version.specs.Splitting.{PlainApart, IsWhole, fresh, joined, packet_parts, spare_room, split_parts, taken_apart}
use Rattle.packet_version.specs.Versions.{HoldsNamed, PlainVersion, version_parts}
use Rattle.packet_version.specs.Views.{PlainView, seen_values, viewed, wrote_all}

-- what is read of what a stage's only branch gets, and of a frame in parts
pub record AreRead : Type 0 where
  pub version : (whole : PlainApart) (touch : Touch) → version_parts (dealt whole touch) ≡ dealt_parts touch (packet_parts whole)
  pub base : (whole : PlainApart) (touches : List Touch) → packet_parts (based touches whole) ≡ kept_parts touches (packet_parts whole)
  pub parts : (taggers time : ℕ) (frame : List ℕ) → packet_parts (taken_apart taggers time frame) ≡ split_parts taggers frame

-- the version that a function gets of a frame in parts
pub record IsDealt (whole : PlainApart) (touch : Touch) (profile : Profile) (time : ℕ) (frame : List ℕ) (version : PlainVersion) : Type 0 where
  pub read : AreRead
  pub apart : whole ≡ taken_apart 1 time frame
  pub is : version ≡ dealt_whole whole touch
  pub holds : HoldsNamed profile touch

bytes_fresh : (spare : ℕ) (o : Option (List ℕ)) → option_map (λ (p : PlainPart). p.bytes) (option_map (fresh spare) o) ≡ o
bytes_fresh spare None = refl
bytes_fresh spare (Some bytes) = refl

reads_named : (r w : Bool) → r ≡ true → (r || w) ≡ true
reads_named true w e = refl
reads_named false w e = absurd cc

writes_named : (r w : Bool) → w ≡ true → (r || w) ≡ true
writes_named true w e = refl
writes_named false w e = e

bytes_touched : (t : Bool) (o : Option PlainPart) → t ≡ true → option_map (λ (p : PlainPart). p.bytes) (if t then option_map unwritten o else None) ≡ option_map (λ (p : PlainPart). p.bytes) o
bytes_touched true None e = refl
bytes_touched true (Some p) e = refl
bytes_touched false o e = absurd cc

shown_same : (p : Profile) (fixed : Fixed) (touch : Touch) (parts : Parts) → HoldsNamed p touch → shown_by p fixed (values_of (dealt_parts touch parts)) ≡ shown_by p fixed (values_of parts)
shown_same p fixed touch parts holds = λ i. record {
  values = fun_ext (λ f. read f (reads_of p f) refl) i;
  has = fun_ext (λ f. there f (writes_of p f) refl) i;
  fixed = fixed;
}
  where
    read : (f : Field) (r : Bool) → reads_of p f ≡ r → (if r then values_of (dealt_parts touch parts) f else None) ≡ (if r then values_of parts f else None)
    read f true e = bytes_touched (has_touch f touch) (parts f) (holds.touched f (reads_named (reads_of p f) (writes_of p f) e))
    read f false e = refl

    there : (f : Field) (w : Bool) → writes_of p f ≡ w → (w && is_some (values_of (dealt_parts touch parts) f)) ≡ (w && is_some (values_of parts f))
    there f true e = ap (λ (o : Option (List ℕ)). is_some o) (bytes_touched (has_touch f touch) (parts f) (holds.touched f (writes_named (reads_of p f) (writes_of p f) e)))
    there f false e = refl

whole_parts : (whole : PlainApart) (time : ℕ) (frame : List ℕ) → AreRead → whole ≡ taken_apart 1 time frame → packet_parts whole ≡ split_parts 1 frame
whole_parts whole time frame read apart = ap packet_parts apart ∙ read.parts 1 time frame

-- a function sees of its version what it sees of the frame
pub shows_frame : (whole : PlainApart) (touch : Touch) (p : Profile) (time : ℕ) (frame : List ℕ) (version : PlainVersion) → IsDealt whole touch p time frame version
    → shown_by p version.fixed (values_of (version_parts version)) ≡ shown_by p (fixed_of time frame) (fields_of frame)
shows_frame whole touch p time frame version dealt_so =
    ap (λ (v : PlainVersion). shown_by p v.fixed (values_of (version_parts v))) dealt_so.is
    ∙ ap (λ (m : Parts). shown_by p whole.fixed (values_of m)) (dealt_so.read.version whole touch)
    ∙ shown_same p whole.fixed touch (packet_parts whole) dealt_so.holds
    ∙ ap (λ (m : Parts). shown_by p whole.fixed (values_of m)) (whole_parts whole time frame dealt_so.read dealt_so.apart)
    ∙ ap (λ (v : Values). shown_by p whole.fixed v) (fun_ext (λ f. bytes_fresh (spare_room 1 f) (value f frame)))
    ∙ ap (λ (w : PlainApart). shown_by p w.fixed (fields_of frame)) dealt_so.apart

-- no field is in no set
pub none_has : (x : Field) → has (record { 0 = 0 }) x ≡ false
none_has LinkDst = refl
none_has LinkSrc = refl
none_has Tag = refl
none_has Tos = refl
none_has Ttl = refl
none_has SrcIp = refl
none_has DstIp = refl
none_has SrcPort = refl
none_has DstPort = refl
none_has Payload = refl

if_not : (w t : Bool) → (w ≡ true → t ≡ true) → t ≡ false → w ≡ false
if_not true t h e = sym (h refl) ∙ e
if_not false t h e = refl

-- a branch that writes nothing has only functions that write nothing
pub is_silent : (p : Profile) (touch : Touch) → HoldsNamed p touch → ((x : Field) → has_write x touch ≡ false) → (x : Field) → writes_of p x ≡ false
is_silent p touch holds none x = if_not (writes_of p x) (has_write x touch) (holds.written x) (none x)

by_flags : (h a r : Bool) → (h || (a || r)) ≡ false → a ≡ true → ⊥
by_flags true a r e is = cc
by_flags false true r e is = cc
by_flags false false r e is = cc

pub adds_nothing : (p : Profile) → writes_of p Tag ≡ false → p.adds ≡ true → ⊥
adds_nothing p e is = by_flags (has p.writes Tag) p.adds p.removes e is

false_and : (a c : Bool) → a ≡ false → (a && c) ≡ false
false_and true c e = absurd cc
false_and false c e = refl

-- what a function writes that writes nothing
pub writes_nothing : {F : Type 0} (b : Behaviour F) (fixed : Fixed) (f : F) (v : Values) → KeepsProfile b → ((x : Field) → writes_of (b.profile f) x ≡ false) → (stepped b fixed f v).written ≡ nothing
writes_nothing b fixed f v keeps silent = fun_ext (λ x. keeps.writes fixed f v x (false_and (writes_of (b.profile f) x) (is_some (v x)) (silent x)))

pub view_stays : {F : Type 0} (b : Behaviour F) (f : F) (view after : PlainView) → KeepsProfile b → ((x : Field) → writes_of (b.profile f) x ≡ false)
    → wrote_all nothing view ≡ view → after ≡ wrote_all (viewed b f view).written view → after ≡ view
view_stays b f view after keeps silent same wrote = wrote ∙ ap (λ (v : Values). wrote_all v view) (writes_nothing b view.version.fixed f (seen_values view) keeps silent) ∙ same

-- it passes on the frame as it is
pub frame_stays : {F : Type 0} (b : Behaviour F) (f : F) (time : ℕ) (frame : List ℕ) (whole : PlainApart) → KeepsProfile b → AreRead → ((x : Field) → writes_of (b.profile f) x ≡ false)
    → written (over (applied b time f frame).written (fields_of frame)) (rest_of frame) ≡ frame_after b time f frame → whole ≡ taken_apart 1 time frame
    → joined whole ≡ frame → frame_after b time f frame ≡ frame
frame_stays b f time frame whole keeps read silent together apart again =
    sym together
    ∙ ap (λ (v : Values). written (over v (fields_of frame)) (rest_of frame)) (writes_nothing b (fixed_of time frame) f (fields_of frame) keeps silent)
    ∙ ap (λ (v : Values). written v (rest_of frame)) (sym (fun_ext (λ f. bytes_fresh (spare_room 1 f) (value f frame))))
    ∙ ap (λ (m : Parts). written (values_of m) (rest_of frame)) (sym (whole_parts whole time frame read apart))
    ∙ ap (λ (w : PlainApart). written (values_of (packet_parts whole)) w.rest) (sym apart)
    ∙ again

-- the mode of a field that the only branch doesn't write
place_none : {A : Type 0} (p : A → Bool) (x : A) → p x ≡ false → position p (x ∷ []) ≡ None
place_none p x e = ap (λ (c : Bool). if nat_lt (if not c then 1 + 0 else 0) 1 then Some (if not c then 1 + 0 else 0) else None) e

is_shared : (t : Touch) (f : Field) → has_write f t ≡ false → mode_of (t ∷ []) f ≡ Shared
unfolding mode_of
is_shared t f none = ap (λ (p : Option ℕ). option_map_or (written_mode (t ∷ []) f) p Shared) (place_none (has_write f) t none)

fresh_unwritten : (spare : ℕ) (o : Option (List ℕ)) → option_map unwritten (option_map (fresh spare) o) ≡ option_map (fresh spare) o
fresh_unwritten spare None = refl
fresh_unwritten spare (Some bytes) = refl

if_none : {A : Type 0} (c : Bool) (x y : A) → c ≡ false → (if c then x else y) ≡ y
if_none true x y e = absurd cc
if_none false x y e = refl

-- the parts of a packet after a branch that writes nothing
parts_stay : (whole : PlainApart) (touch : Touch) (time : ℕ) (frame : List ℕ) → AreRead → whole ≡ taken_apart 1 time frame → ((x : Field) → has_write x touch ≡ false)
    → rejoined_parts (dealt_whole whole touch) (based (touch ∷ []) whole) ≡ split_parts 1 frame
parts_stay whole touch time frame read apart none = fun_ext (λ x.
    if_none (has_write x touch) _ _ (none x)
    ∙ ap (λ (m : Parts). m x) (read.base whole (touch ∷ []))
    ∙ ap (λ mode. kept_part mode (packet_parts whole x)) (is_shared touch x (none x))
    ∙ ap (λ (m : Parts). option_map unwritten (m x)) (whole_parts whole time frame read apart)
    ∙ fresh_unwritten (spare_room 1 x) (value x frame))

pub fits_again : (whole : PlainApart) (touch : Touch) (p : Profile) (time : ℕ) (frame : List ℕ) (version : PlainVersion) → IsDealt whole touch p time frame version
    → ((x : Field) → has_write x touch ≡ false)
    → IsWhole (packet_parts whole) whole.rest → IfSome version.kept (λ base. IsWhole (rejoined_parts version base) base.rest)
fits_again whole touch p time frame version dealt_so none fits =
    let same = parts_stay whole touch time frame dealt_so.read dealt_so.apart none in
    subst (λ (v : PlainVersion). IfSome v.kept (λ base. IsWhole (rejoined_parts v base) base.rest)) (sym dealt_so.is)
    (subst (λ (m : Parts). IsWhole m whole.rest) (whole_parts whole time frame dealt_so.read dealt_so.apart ∙ sym same) fits)

-- such a branch leaves the packet as it was
pub whole_again : (whole left : PlainApart) (touch : Touch) (p : Profile) (time : ℕ) (frame : List ℕ) (version : PlainVersion)
    → IsDealt whole touch p time frame version → ((x : Field) → has_write x touch ≡ false)
    → IfSome version.kept (λ base. left ≡ record base { parts = as_list (rejoined_parts version base) }) → left ≡ whole
whole_again whole left touch p time frame version dealt_so none rejoined =
    let back : left ≡ record (based (touch ∷ []) whole) { parts = as_list (rejoined_parts (dealt_whole whole touch) (based (touch ∷ []) whole)) } =
    subst (λ (v : PlainVersion). IfSome v.kept (λ base. left ≡ record base { parts = as_list (rejoined_parts v base) })) dealt_so.is rejoined in
    back
    ∙ ap (λ (m : Parts). let w : PlainApart = record whole { parts = as_list m } in w) (parts_stay whole touch time frame dealt_so.read dealt_so.apart none)
    ∙ ap (λ (w : PlainApart). let x : PlainApart = record w { parts = as_list (split_parts 1 frame) } in x) dealt_so.apart
    ∙ sym dealt_so.apart

not_false : (b : Bool) → false ≡ not b → b ≡ true
not_false true e = refl
not_false false e = absurd cc

-- what it means that the set of what a branch writes is none
pub none_written : (touch : Touch) → false ≡ not (touch.writes.0 == 0) → (x : Field) → has_write x touch ≡ false
none_written touch e x = ap (λ (n : ℕ). let s : FieldSet = record { 0 = n } in has s x) (eqb-true touch.writes.0 0 (not_false (touch.writes.0 == 0) e)) ∙ none_has x

-- what a function does with its version, and the lines that decide it, are those of the frame
pub step_same : {F : Type 0} (b : Behaviour F) (f : F) (whole : PlainApart) (touch : Touch) (time : ℕ) (frame : List ℕ) (version : PlainVersion) → IsDealt whole touch (b.profile f) time frame version
    → stepped b version.fixed f (values_of (version_parts version)) ≡ applied b time f frame
step_same b f whole touch time frame version dealt_so = ap (b.step f) (shows_frame whole touch (b.profile f) time frame version dealt_so)

pub lines_same : {F : Type 0} (b : Behaviour F) (d : Deciding F) (f : F) (whole : PlainApart) (touch : Touch) (time : ℕ) (frame : List ℕ)
    (version : PlainVersion) (told items first : List DecidingLine)
    → IsDealt whole touch (b.profile f) time frame version → told ≡ items → items ≡ first ++ decided b d version.fixed f (values_of (version_parts version)) → first ≡ []
    → told ≡ decided b d (fixed_of time frame) f (fields_of frame)
lines_same b d f whole touch time frame version told items first dealt_so are added none =
    are ∙ added ∙ ap (λ (l : List DecidingLine). l ++ decided b d version.fixed f (values_of (version_parts version))) none
    ∙ ap (d f) (shows_frame whole touch (b.profile f) time frame version dealt_so)
