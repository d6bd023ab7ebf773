-- What a branch has of a packet, of which one of its own parts is changed.
use Rattle.std.proofs.Common.{rules, ◌≡◌, ◌≢◌, ◌∙◌, ◌<◌, ℕ, Bool, true, false, List, [], map, sym, ap, refl, subst, get_or, length, set, arith}
use mathlib.Core.Path.{fun_ext}
use Rattle.std.specs.Prelude.{Option, Some, None, if◌then◌else◌, ◌==◌, ◌||◌, ◌&&◌, not}
use Rattle.std.specs.Int.{bit_at}
use Rattle.std.proofs.lemmas.Bool.{false≢true}
use Rattle.std.proofs.lemmas.List.{length-set, get_or_read_under}
use Rattle.packet_fields.specs.Fields.{number_of}
use Rattle.packet_fields.specs.Writing.{all_fields}
use Rattle.packet_fields.specs.declared.field.Field.{Field}
use Rattle.packet_fields.specs.declared.field.Field.TheVariants.{LinkDst, LinkSrc, Tag, Tos, Ttl, SrcIp, DstIp, SrcPort, DstPort, Payload}
use Rattle.action_profile.specs.FieldSets.{has, is_none}
use Rattle.action_profile.specs.declared.field_set.FieldSet.{FieldSet}
use Rattle.action_profile.specs.Modes.{has_write, has_touch, only_reads}
use Rattle.action_profile.specs.declared.parts.Touch.{Touch}
use Rattle.action_profile.specs.declared.rights.Profile.{Profile}
use Rattle.chain_walk.specs.declared.fixed.Fixed.{Fixed}
use Rattle.packet_version.specs.declared.loan.Loan.{Loan}
use Rattle.packet_version.specs.declared.loan.Loan.TheVariants.{Shared, Whole}
use Rattle.packet_fields.specs.Writing.{rest_of}
use Rattle.packet_version.specs.Parts.{PlainPart, PlainHeld, Parts, as_map, as_list, changed, writer_in, IsPartOf}
use Rattle.packet_version.specs.Versions.{PlainVersion, version_parts, with_part, nothing, lent_parts, kept_by, kept_of, had_by, had_in, left_by, IsHad}
use Rattle.packet_version.specs.Handing.{with_loan, with_packet, writes_few}
use Rattle.packet_version.specs.Views.{PlainView}
use Rattle.packet_version.proofs.Maps.{as_map-listed, listed_at}
use Rattle.packet_version.proofs.Placing.{map_put}
use Rattle.packet_version.proofs.DealtByField.{by_field}

-- for a field that it writes, a branch has its own part
pub had_own : (touch : Touch) (own lent : Parts) (f : Field) → has_write f touch ≡ true → had_by touch own lent f ≡ own f
had_own touch own lent f w = ap (λ (b : Bool). if b then own f else (if only_reads f touch then lent f else None)) w

reads_of_touch : (r w : Bool) → (r || w) ≡ true → w ≡ false → (r && not w) ≡ true
reads_of_touch true true t w = absurd (false≢true (sym w))
reads_of_touch true false t w = refl
reads_of_touch false w t e = absurd (false≢true (sym e ∙ t))

-- for another that it touches, it has the lent one
pub had_lent : (touch : Touch) (own lent : Parts) (f : Field) → has_touch f touch ≡ true → has_write f touch ≡ false → had_by touch own lent f ≡ lent f
had_lent touch own lent f t w =
    ap (λ (b : Bool). if b then own f else (if only_reads f touch then lent f else None)) w
    ∙ ap (λ (b : Bool). if b then lent f else None) (reads_of_touch (has touch.reads f) (has touch.writes f) t w)

-- one of its own parts is another
had_changed : (touch : Touch) (own lent : Parts) (f : Field) (o : Option PlainPart) → has_write f touch ≡ true → had_by touch (changed f o own) lent ≡ changed f o (had_by touch own lent)
had_changed touch own lent f o w = fun_ext (λ g. by_field f g (had_by touch (changed f o own) lent g ≡ changed f o (had_by touch own lent) g)
    (λ same e.
    had_own touch (changed f o own) lent g (sym (ap (λ (h : Field). has_write h touch) same) ∙ w)
    ∙ (ap (λ (b : Bool). if b then o else own g) e ∙ sym (ap (λ (b : Bool). if b then o else had_by touch own lent g) e)))
    (λ apart e.
    ap (λ (p : Option PlainPart). if has_write g touch then p else (if only_reads g touch then lent g else None)) (ap (λ (b : Bool). if b then o else own g) e)
    ∙ sym (ap (λ (b : Bool). if b then o else had_by touch own lent g) e)))

pub had_put : (touch : Touch) (own : List (Option PlainPart)) (lent : Parts) (n : ℕ) (f : Field) (o : Option PlainPart) → n ≡ number_of f → n < length own → has_write f touch ≡ true → had_by touch (as_map (set own n o)) lent ≡ changed f o (had_by touch (as_map own) lent)
had_put touch own lent n f o is below w = ap (λ (m : Parts). had_by touch m lent) (map_put own n f o is below) ∙ had_changed touch (as_map own) lent f o w

-- for a field that it doesn't write, its own parts don't matter
other_own : (touch : Touch) (own new lent : Parts) (f : Field) → has_write f touch ≡ false → had_by touch new lent f ≡ had_by touch own lent f
other_own touch own new lent f w =
    ap (λ (b : Bool). if b then new f else (if only_reads f touch then lent f else None)) w
    ∙ sym (ap (λ (b : Bool). if b then own f else (if only_reads f touch then lent f else None)) w)

-- the version of these parts
abbrev pub version_of : Option PlainHeld → List (Option PlainPart) → Option (Loan PlainHeld) → Touch → Fixed → PlainVersion
version_of within own lent touch fixed = record { parts = as_list (had_in touch within own lent); touch = touch; fixed = fixed; kept = kept_of touch within lent fixed }

-- if a branch has the packet, or doesn't
pub version_as : (within now : Option PlainHeld) (own : List (Option PlainPart)) (lent : Option (Loan PlainHeld)) (touch : Touch) (fixed : Fixed) (old : PlainVersion) → within ≡ now → version_of within own lent touch fixed ≡ old → version_of now own lent touch fixed ≡ old
version_as within now own lent touch fixed old is old_is = subst (λ (w : Option PlainHeld). version_of w own lent touch fixed ≡ old) is old_is

pub had_as : (touch : Touch) (within now : Option PlainHeld) (own : List (Option PlainPart)) (lent : Option (Loan PlainHeld)) → within ≡ now → IsHad touch within own lent → IsHad touch now own lent
had_as touch within now own lent is h = subst (λ (w : Option PlainHeld). IsHad touch w own lent) is h

-- a branch that has nothing of the packet has no packet that it writes in
pub beside_of : (within : Option PlainHeld) (own : List (Option PlainPart)) (lent : Option (Loan PlainHeld)) (touch : Touch) (fixed : Fixed) (old : PlainVersion) → version_of within own lent touch fixed ≡ old → old.kept ≡ None → within ≡ None
beside_of None own lent touch fixed old old_is none = refl
beside_of (Some held) own lent touch fixed old old_is none = absurd (let e : kept_of touch (Some held) lent fixed ≡ None = ap (λ (v : PlainVersion). v.kept) old_is ∙ none in cc)

-- a version after an own part, or none, was put into a field's place
pub put_had : (own : List (Option PlainPart)) (lent : Option (Loan PlainHeld)) (n : ℕ) (f : Field) (o : Option PlainPart) (touch : Touch) (fixed : Fixed) (old : PlainVersion) → n ≡ number_of f → n < length own → has_write f touch ≡ true → version_of None own lent touch fixed ≡ old → version_of None (set own n o) lent touch fixed ≡ with_part f o old
put_had own lent n f o touch fixed old is below w old_is =
    ap (λ (m : Parts). let v : PlainVersion = record { parts = as_list m; touch = touch; fixed = fixed; kept = kept_by lent fixed } in v)
    (had_put touch own (lent_parts lent) n f o is below w ∙ ap (λ (m : Parts). changed f o m) (sym (as_map-listed (had_by touch (as_map own) (lent_parts lent)))))
    ∙ ap (λ (v : PlainVersion). with_part f o v) old_is

-- what a branch writes, in its version
pub writes_is : (within : Option PlainHeld) (own : List (Option PlainPart)) (lent : Option (Loan PlainHeld)) (f : Field) (touch : Touch) (fixed : Fixed) (b : Bool) (old : PlainVersion) → version_of within own lent touch fixed ≡ old → has_write f old.touch ≡ b → has_write f touch ≡ b
writes_is within own lent f touch fixed b old old_is w = ap (λ (v : PlainVersion). has_write f v.touch) old_is ∙ w

-- the parts of a version
pub parts_are : (within : Option PlainHeld) (own : List (Option PlainPart)) (lent : Option (Loan PlainHeld)) (touch : Touch) (fixed : Fixed) (old : PlainVersion) → version_of within own lent touch fixed ≡ old → version_parts old ≡ had_in touch within own lent
parts_are within own lent touch fixed old old_is = sym (ap (λ (v : PlainVersion). version_parts v) old_is) ∙ as_map-listed (had_in touch within own lent)

-- there is a place for what a branch writes
pub own_inside : (touch : Touch) (own : List (Option PlainPart)) (lent : Option (Loan PlainHeld)) (n : ℕ) (f : Field) → n < 10 → has_write f touch ≡ true → IsHad touch None own lent → n < length own
own_inside touch own lent n f below w h = let ten = h.there refl f w in omega arith

-- the part that was read in the place of a field that the branch writes
pub own_read : (touch : Touch) (own : List (Option PlainPart)) (lent : Option (Loan PlainHeld)) (n : ℕ) (f : Field) (o : Option PlainPart) → o ≡ get_or own n o → n ≡ number_of f → n < 10 → has_write f touch ≡ true → IsHad touch None own lent → had_by touch (as_map own) (lent_parts lent) f ≡ o
own_read touch own lent n f o read is below w h =
    had_own touch (as_map own) (lent_parts lent) f w ∙ sym (get_or_read_under own n 10 o None read below (sym (h.there refl f w)) ∙ ap (λ (k : ℕ). get_or own k None) is)

formed_changed : (f : Field) (o : Option PlainPart) (parts : Parts) → IsPartOf f o → ((g : Field) → IsPartOf g (parts g)) → (g : Field) → IsPartOf g (changed f o parts g)
formed_changed f o parts part formed g = by_field f g (IsPartOf g (changed f o parts g))
    (λ same e. subst (IsPartOf g) (sym (ap (λ (b : Bool). if b then o else parts g) e)) (subst (λ (h : Field). IsPartOf h o) same part))
    (λ apart e. subst (IsPartOf g) (sym (ap (λ (b : Bool). if b then o else parts g) e)) (formed g))

-- and it stays so if an own part, or none, is put into its place
pub had_on : (touch : Touch) (own : List (Option PlainPart)) (lent : Option (Loan PlainHeld)) (n : ℕ) (f : Field) (o : Option PlainPart) → n ≡ number_of f → n < 10 → has_write f touch ≡ true → IsPartOf f o → IsHad touch None own lent → IsHad touch None (set own n o) lent
had_on touch own lent n f o is below w part h = record {
  there = λ e g v. length-set own n o ∙ h.there e g v;
  unwritten = λ g v. ap writer_in (other_own touch (as_map own) (as_map (set own n o)) (lent_parts lent) g v) ∙ h.unwritten g v;
  formed = subst (λ (m : Parts). (g : Field) → IsPartOf g (m g)) (sym (had_put touch own (lent_parts lent) n f o is (own_inside touch own lent n f below w h) w)) (formed_changed f o (had_by touch (as_map own) (lent_parts lent)) part h.formed);
  few = tt;
}

-- a branch that writes the tags doesn't write in the packet
pub tags_beside : (touch : Touch) (within : Option PlainHeld) (own : List (Option PlainPart)) (lent : Option (Loan PlainHeld)) → has_write Tag touch ≡ true → IsHad touch within own lent → within ≡ None
tags_beside touch None own lent w h = refl
tags_beside touch (Some held) own lent w h = absurd (false≢true (sym h.few.0 ∙ w))

-- what a branch writes in the packet is of fixed length
pub few_apart : (touch : Touch) (within : Option PlainHeld) (held : PlainHeld) (own : List (Option PlainPart)) (lent : Option (Loan PlainHeld)) (f : Field) → within ≡ Some held → has_write f touch ≡ true → IsHad touch within own lent → (f ≢ Tag) × (f ≢ Payload)
few_apart touch within held own lent f is w h =
    let few = (had_as touch within (Some held) own lent is h).few in (
      λ e. false≢true (sym few.0 ∙ (ap (λ (g : Field). has_write g touch) (sym e) ∙ w)),
      λ e. false≢true (sym few.1 ∙ (ap (λ (g : Field). has_write g touch) (sym e) ∙ w)),
    )

-- for a field that it writes, a branch that writes in the packet has the packet's part
pub within_read : (touch : Touch) (held : PlainHeld) (own : List (Option PlainPart)) (lent : Option (Loan PlainHeld)) (f : Field) → has_write f touch ≡ true → had_in touch (Some held) own lent f ≡ as_map held.parts f
within_read touch held own lent f w = had_own touch (as_map held.parts) (as_map held.parts) f w

-- and for another that it touches
pub within_lent : (touch : Touch) (held : PlainHeld) (own : List (Option PlainPart)) (lent : Option (Loan PlainHeld)) (f : Field) → has_touch f touch ≡ true → had_in touch (Some held) own lent f ≡ as_map held.parts f
within_lent touch held own lent f t = by_test (has_write f touch) refl
  where
    by_test : (b : Bool) → has_write f touch ≡ b → had_in touch (Some held) own lent f ≡ as_map held.parts f
    by_test true w = had_own touch (as_map held.parts) (as_map held.parts) f w
    by_test false w = had_lent touch (as_map held.parts) (as_map held.parts) f t w

-- the packet's part is the field's
pub within_formed : (touch : Touch) (within : Option PlainHeld) (held : PlainHeld) (own : List (Option PlainPart)) (lent : Option (Loan PlainHeld)) (f : Field) → within ≡ Some held → has_write f touch ≡ true → IsHad touch within own lent → IsPartOf f (as_map held.parts f)
within_formed touch within held own lent f is w h = subst (IsPartOf f) (within_read touch held own lent f w) ((had_as touch within (Some held) own lent is h).formed f)

pub part_within : (within : Option PlainHeld) (own : List (Option PlainPart)) (lent : Option (Loan PlainHeld)) (held : PlainHeld) (f : Field) (touch : Touch) (fixed : Fixed) (old : PlainVersion) → within ≡ Some held → has_write f touch ≡ true → version_of within own lent touch fixed ≡ old → version_parts old f ≡ as_map held.parts f
part_within within own lent held f touch fixed old is w old_is =
    ap (λ (m : Parts). m f) (parts_are (Some held) own lent touch fixed old (version_as within (Some held) own lent touch fixed old is old_is)) ∙ within_read touch held own lent f w

-- a packet in which one part is another, or none
pub record IsChanged (f : Field) (o : Option PlainPart) (held new : PlainHeld) : Type 0 where
  pub parts : as_map new.parts ≡ changed f o (as_map held.parts)
  pub rest : rest_of new.frame ≡ rest_of held.frame

pub changed_as : (f : Field) (o : Option PlainPart) (held new : PlainHeld) → new.parts ≡ as_list (changed f o (as_map held.parts)) → rest_of new.frame ≡ rest_of held.frame → IsChanged f o held new
changed_as f o held new parts rest = record { parts = ap as_map parts ∙ as_map-listed (changed f o (as_map held.parts)); rest = rest }

pub changed_to : (f : Field) (o : Option PlainPart) (held new : PlainHeld) → new ≡ record held { parts = as_list (changed f o (as_map held.parts)) } → IsChanged f o held new
changed_to f o held new is = changed_as f o held new (ap (λ (h : PlainHeld). h.parts) is) (ap (λ (h : PlainHeld). rest_of h.frame) is)

within_put : (touch : Touch) (f : Field) (o : Option PlainPart) (held new : PlainHeld) → has_write f touch ≡ true → as_map new.parts ≡ changed f o (as_map held.parts) → had_by touch (as_map new.parts) (as_map new.parts) ≡ changed f o (had_by touch (as_map held.parts) (as_map held.parts))
within_put touch f o held new w is = ap (λ (m : Parts). had_by touch m m) is ∙ fun_ext (λ g. by_field f g (had_by touch made made g ≡ changed f o was g)
    (λ same e.
    had_own touch made made g (sym (ap (λ (h : Field). has_write h touch) same) ∙ w)
    ∙ (ap (λ (b : Bool). if b then o else as_map held.parts g) e ∙ sym (ap (λ (b : Bool). if b then o else was g) e)))
    (λ apart e.
    ap (λ (p : Option PlainPart). if has_write g touch then p else (if only_reads g touch then p else None)) (ap (λ (b : Bool). if b then o else as_map held.parts g) e)
    ∙ sym (ap (λ (b : Bool). if b then o else was g) e)))
  where
    made : Parts
    made = changed f o (as_map held.parts)

    was : Parts
    was = had_by touch (as_map held.parts) (as_map held.parts)

within_left : (touch : Touch) (f : Field) (o : Option PlainPart) (held new : PlainHeld) → has_write f touch ≡ true → as_map new.parts ≡ changed f o (as_map held.parts) → left_by touch (as_map new.parts) ≡ left_by touch (as_map held.parts)
within_left touch f o held new w is = ap (λ (m : Parts). left_by touch m) is ∙ fun_ext (λ g. by_field f g (left_by touch (changed f o (as_map held.parts)) g ≡ left_by touch (as_map held.parts) g)
    (λ same e.
    let writes = sym (ap (λ (h : Field). has_write h touch) same) ∙ w in
    ap (λ (b : Bool). if b then None else changed f o (as_map held.parts) g) writes ∙ sym (ap (λ (b : Bool). if b then None else as_map held.parts g) writes))
    (λ apart e. ap (λ (b : Bool). if has_write g touch then None else (if b then o else as_map held.parts g)) e))

-- a version after another part, or none, is put in its packet
pub put_within : (own : List (Option PlainPart)) (lent : Option (Loan PlainHeld)) (held new : PlainHeld) (f : Field) (o : Option PlainPart) (touch : Touch) (fixed : Fixed) (old : PlainVersion) → IsChanged f o held new → has_write f touch ≡ true → version_of (Some held) own lent touch fixed ≡ old → version_of (Some new) own lent touch fixed ≡ with_part f o old
put_within own lent held new f o touch fixed old is w old_is =
    ap (λ (m : Parts). let v : PlainVersion = record { parts = as_list m; touch = touch; fixed = fixed; kept = kept_of touch (Some new) lent fixed } in v)
    (within_put touch f o held new w is.parts ∙ ap (λ (m : Parts). changed f o m) (sym (as_map-listed (had_in touch (Some held) own lent))))
    ∙ (ap (λ (m : Parts). let v : PlainVersion = record { parts = as_list (changed f o (as_map (as_list (had_in touch (Some held) own lent)))); touch = touch; fixed = fixed; kept = Some (record { parts = as_list m; rest = rest_of new.frame; fixed = fixed }) } in v)
    (within_left touch f o held new w is.parts)
    ∙ (ap (λ (r : List ℕ). let v : PlainVersion = record { parts = as_list (changed f o (as_map (as_list (had_in touch (Some held) own lent)))); touch = touch; fixed = fixed; kept = Some (record { parts = as_list (left_by touch (as_map held.parts)); rest = r; fixed = fixed }) } in v)
    is.rest
    ∙ ap (λ (v : PlainVersion). with_part f o v) old_is))

-- and what such a branch has keeps its form
pub within_on : (touch : Touch) (own : List (Option PlainPart)) (lent : Option (Loan PlainHeld)) (held new : PlainHeld) (f : Field) (o : Option PlainPart) → IsChanged f o held new → has_write f touch ≡ true → IsPartOf f o → IsHad touch (Some held) own lent → IsHad touch (Some new) own lent
within_on touch own lent held new f o is w part h = record {
  there = λ e g v. absurd (cc);
  unwritten = λ g v. ap (λ (m : Parts). writer_in (m g)) (within_put touch f o held new w is.parts) ∙ by_field f g (writer_in (changed f o (had_in touch (Some held) own lent) g) ≡ 0)
      (λ same e. absurd (false≢true (sym v ∙ (sym (ap (λ (k : Field). has_write k touch) same) ∙ w))))
      (λ apart e. ap (λ (b : Bool). writer_in (if b then o else had_in touch (Some held) own lent g)) e ∙ h.unwritten g v);
  formed = subst (λ (m : Parts). (g : Field) → IsPartOf g (m g)) (sym (within_put touch f o held new w is.parts)) (formed_changed f o (had_in touch (Some held) own lent) part h.formed);
  few = h.few;
}

-- a version that has its own parts beside the packet, after one, or none, was put into its place
pub put_beside : (within : Option PlainHeld) (own : List (Option PlainPart)) (lent : Option (Loan PlainHeld)) (n : ℕ) (f : Field) (o : Option PlainPart) (touch : Touch) (fixed : Fixed) (old : PlainVersion) → within ≡ None → n ≡ number_of f → n < 10 → has_write f touch ≡ true → IsHad touch within own lent → version_of within own lent touch fixed ≡ old → version_of within (set own n o) lent touch fixed ≡ with_part f o old
put_beside within own lent n f o touch fixed old none is below w h old_is =
    version_as None within (set own n o) lent touch fixed (with_part f o old) (sym none)
    (put_had own lent n f o touch fixed old is (own_inside touch own lent n f below w (had_as touch within None own lent none h)) w (version_as within None own lent touch fixed old none old_is))

pub had_beside : (touch : Touch) (within : Option PlainHeld) (own : List (Option PlainPart)) (lent : Option (Loan PlainHeld)) (n : ℕ) (f : Field) (o : Option PlainPart) → within ≡ None → n ≡ number_of f → n < 10 → has_write f touch ≡ true → IsPartOf f o → IsHad touch within own lent → IsHad touch within (set own n o) lent
had_beside touch within own lent n f o none is below w part h =
    had_as touch None within (set own n o) lent (sym none) (had_on touch own lent n f o is below w part (had_as touch within None own lent none h))

-- one that writes in the packet, after another part, or none, was put there
pub put_in_packet : (within : Option PlainHeld) (own : List (Option PlainPart)) (lent : Option (Loan PlainHeld)) (held new : PlainHeld) (f : Field) (o : Option PlainPart) (touch : Touch) (fixed : Fixed) (old : PlainVersion) → within ≡ Some held → IsChanged f o held new → has_write f touch ≡ true → version_of within own lent touch fixed ≡ old → version_of (Some new) own lent touch fixed ≡ with_part f o old
put_in_packet within own lent held new f o touch fixed old some is w old_is = put_within own lent held new f o touch fixed old is w (version_as within (Some held) own lent touch fixed old some old_is)

pub had_in_packet : (touch : Touch) (within : Option PlainHeld) (own : List (Option PlainPart)) (lent : Option (Loan PlainHeld)) (held new : PlainHeld) (f : Field) (o : Option PlainPart) → within ≡ Some held → IsChanged f o held new → has_write f touch ≡ true → IsPartOf f o → IsHad touch within own lent → IsHad touch (Some new) own lent
had_in_packet touch within own lent held new f o some is w part h = within_on touch own lent held new f o is w part (had_as touch within (Some held) own lent some h)

both_not : (a b : Bool) → (not a && not b) ≡ true → (a ≡ false) × (b ≡ false)
both_not true b e = absurd (false≢true e)
both_not false true e = absurd (false≢true e)
both_not false false e = (refl, refl)

-- a branch that has a packet without writers, and writes in it
pub packet_had : (touch : Touch) (held : PlainHeld) (own : List (Option PlainPart)) (lent : Option (Loan PlainHeld)) → ((f : Field) → writer_in (as_map held.parts f) ≡ 0) → ((f : Field) → IsPartOf f (as_map held.parts f)) → writes_few touch ≡ true → IsHad touch (Some held) own lent
packet_had touch held own lent unwritten formed few = record {
  there = λ e f w. absurd (cc);
  unwritten = λ f w. ap writer_in (other_own touch (λ g. None) (as_map held.parts) (as_map held.parts) f w) ∙ by_test f (has_write f touch) (only_reads f touch);
  formed = λ f. by_tests f (has_write f touch) (only_reads f touch);
  few = both_not (has_write Tag touch) (has_write Payload touch) few;
}
  where
    by_test : (f : Field) (b c : Bool) → writer_in (if b then None else (if c then as_map held.parts f else None)) ≡ 0
    by_test f true c = refl
    by_test f false true = unwritten f
    by_test f false false = refl

    by_tests : (f : Field) (b c : Bool) → IsPartOf f (if b then as_map held.parts f else (if c then as_map held.parts f else None))
    by_tests f true c = formed f
    by_tests f false true = formed f
    by_tests f false false = tt

no_bit : (f : Field) → (bit_at 0 (number_of f) == 1) ≡ false
no_bit LinkDst = refl
no_bit LinkSrc = refl
no_bit Tag = refl
no_bit Tos = refl
no_bit Ttl = refl
no_bit SrcIp = refl
no_bit DstIp = refl
no_bit SrcPort = refl
no_bit DstPort = refl
no_bit Payload = refl

zero_is : (n : ℕ) → (n == 0) ≡ true → n ≡ 0
zero_is n e = search rules

-- a set that has a field isn't empty
pub some_field : (s : FieldSet) (f : Field) → has s f ≡ true → is_none s ≡ true → ⊥
some_field s f has_f none = false≢true (sym (ap (λ (n : ℕ). bit_at n (number_of f) == 1) (zero_is s.0 none) ∙ no_bit f) ∙ has_f)

abbrev pub no_parts : List (Option PlainPart)
no_parts = map (λ f. None) all_fields

no_part : (f : Field) → as_map no_parts f ≡ None
no_part f = listed_at (λ g. None) None f

no_place : (f : Field) → as_map [] f ≡ None
no_place LinkDst = refl
no_place LinkSrc = refl
no_place Tag = refl
no_place Tos = refl
no_place Ttl = refl
no_place SrcIp = refl
no_place DstIp = refl
no_place SrcPort = refl
no_place DstPort = refl
no_place Payload = refl

pub empty_is : (touch : Touch) (own : List (Option PlainPart)) (fixed : Fixed) → own ≡ (if is_none touch.writes then [] else no_parts) → version_of None own None touch fixed ≡ nothing touch fixed
empty_is touch own fixed is =
    ap (λ (m : Parts). let v : PlainVersion = record { parts = as_list m; touch = touch; fixed = fixed; kept = None } in v) (fun_ext (λ f. by_tests f (has_write f touch) (only_reads f touch)))
  where
    none_own : (f : Field) (b : Bool) → as_map (if b then [] else no_parts) f ≡ None
    none_own f true = no_place f
    none_own f false = no_part f

    by_tests : (f : Field) (b c : Bool) → (if b then as_map own f else (if c then lent_parts None f else None)) ≡ None
    by_tests f true c = ap (λ (xs : List (Option PlainPart)). as_map xs f) is ∙ none_own f (is_none touch.writes)
    by_tests f false true = refl
    by_tests f false false = refl

-- the parts of a packet that are lent or left with a branch
pub had_loan : (touch : Touch) (own : List (Option PlainPart)) (lent loan : Option (Loan PlainHeld)) → ((f : Field) → writer_in (lent_parts loan f) ≡ 0) → ((f : Field) → IsPartOf f (lent_parts loan f)) → IsHad touch None own lent → IsHad touch None own loan
had_loan touch own lent loan unwritten formed h = record {
  there = h.there;
  unwritten = λ f w. ap (λ (b : Bool). writer_in (if b then as_map own f else (if only_reads f touch then lent_parts loan f else None))) w ∙ by_test f (only_reads f touch);
  formed = λ f. by_tests f (has_write f touch) (only_reads f touch) refl;
  few = tt;
}
  where
    by_test : (f : Field) (b : Bool) → writer_in (if b then lent_parts loan f else None) ≡ 0
    by_test f true = unwritten f
    by_test f false = refl

    by_tests : (f : Field) (b c : Bool) → has_write f touch ≡ b → IsPartOf f (if b then as_map own f else (if c then lent_parts loan f else None))
    by_tests f true c w = subst (IsPartOf f) (had_own touch (as_map own) (lent_parts lent) f w) (h.formed f)
    by_tests f false true w = formed f
    by_tests f false false w = tt

-- the parts of a branch with another loan
pub parts_lent : (touch : Touch) (own : List (Option PlainPart)) (lent : Option (Loan PlainHeld)) (parts : Parts) → had_by touch (as_map own) parts ≡ had_by touch (as_map (as_list (had_by touch (as_map own) (lent_parts lent)))) parts
parts_lent touch own lent parts = fun_ext (λ f. by_test f (has_write f touch) refl)
  where
    old_parts : Parts
    old_parts = as_map (as_list (had_by touch (as_map own) (lent_parts lent)))

    by_test : (f : Field) (b : Bool) → has_write f touch ≡ b → (if b then as_map own f else (if only_reads f touch then parts f else None)) ≡ (if b then old_parts f else (if only_reads f touch then parts f else None))
    by_test f true w = sym (ap (λ (m : Parts). m f) (as_map-listed (had_by touch (as_map own) (lent_parts lent))) ∙ had_own touch (as_map own) (lent_parts lent) f w)
    by_test f false w = refl

pub loan_is : (touch : Touch) (own : List (Option PlainPart)) (lent : Option (Loan PlainHeld)) (held : PlainHeld) (fixed : Fixed) (old : PlainVersion) → version_of None own lent touch fixed ≡ old → version_of None own (Some (Shared held)) touch fixed ≡ with_loan (as_map held.parts) old
loan_is touch own lent held fixed old old_is =
    ap (λ (m : Parts). let v : PlainVersion = record { parts = as_list m; touch = touch; fixed = fixed; kept = None } in v) (parts_lent touch own lent (as_map held.parts))
    ∙ ap (λ (v : PlainVersion). with_loan (as_map held.parts) v) old_is

pub packet_is : (touch : Touch) (own : List (Option PlainPart)) (lent : Option (Loan PlainHeld)) (held : PlainHeld) (fixed : Fixed) (old : PlainVersion) → version_of None own lent touch fixed ≡ old → version_of None own (Some (Whole held)) touch fixed ≡ with_packet held old
packet_is touch own lent held fixed old old_is =
    ap (λ (m : Parts). let v : PlainVersion = record { parts = as_list m; touch = touch; fixed = fixed; kept = kept_by (Some (Whole held)) fixed } in v) (parts_lent touch own lent (as_map held.parts))
    ∙ ap (λ (v : PlainVersion). with_packet held v) old_is

-- the same for a branch that has its own parts beside the packet
pub had_lending : (touch : Touch) (within : Option PlainHeld) (own : List (Option PlainPart)) (lent loan : Option (Loan PlainHeld)) → within ≡ None → ((f : Field) → writer_in (lent_parts loan f) ≡ 0) → ((f : Field) → IsPartOf f (lent_parts loan f)) → IsHad touch within own lent → IsHad touch within own loan
had_lending touch within own lent loan none unwritten formed h =
    had_as touch None within own loan (sym none) (had_loan touch own lent loan unwritten formed (had_as touch within None own lent none h))

-- the view of these parts
abbrev pub view_of : Option PlainHeld → List (Option PlainPart) → Option (Loan PlainHeld) → Touch → Fixed → Profile → ℕ → PlainView
view_of within own lent touch fixed profile position = record { version = version_of within own lent touch fixed; profile = profile; position = position }

-- a view in which one part, or none, was put into a field's place
abbrev pub with_seen : Field → Option PlainPart → PlainView → PlainView
with_seen f o old = record { version = with_part f o old.version; profile = old.profile; position = old.position }

pub put_seen : (own : List (Option PlainPart)) (lent : Option (Loan PlainHeld)) (n : ℕ) (f : Field) (o : Option PlainPart) (touch : Touch) (fixed : Fixed) (profile : Profile) (position : ℕ) (old : PlainView) → n ≡ number_of f → n < length own → has_write f touch ≡ true → view_of None own lent touch fixed profile position ≡ old → view_of None (set own n o) lent touch fixed profile position ≡ with_seen f o old
put_seen own lent n f o touch fixed profile position old is below w old_is =
    ap (λ (v : PlainVersion). let x : PlainView = record { version = v; profile = profile; position = position } in x) (put_had own lent n f o touch fixed (version_of None own lent touch fixed) is below w refl)
    ∙ ap (λ (x : PlainView). with_seen f o x) old_is

-- the same for a part of the packet that a branch writes in
pub put_seen_within : (own : List (Option PlainPart)) (lent : Option (Loan PlainHeld)) (held new : PlainHeld) (f : Field) (o : Option PlainPart) (touch : Touch) (fixed : Fixed) (profile : Profile) (position : ℕ) (old : PlainView) → IsChanged f o held new → has_write f touch ≡ true → view_of (Some held) own lent touch fixed profile position ≡ old → view_of (Some new) own lent touch fixed profile position ≡ with_seen f o old
put_seen_within own lent held new f o touch fixed profile position old is w old_is =
    ap (λ (v : PlainVersion). let x : PlainView = record { version = v; profile = profile; position = position } in x) (put_within own lent held new f o touch fixed (version_of (Some held) own lent touch fixed) is w refl)
    ∙ ap (λ (x : PlainView). with_seen f o x) old_is
