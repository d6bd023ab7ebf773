-- The only branch of a stage that has the packet itself and writes in it.
use Rattle.std.proofs.Common.{◌≡◌, ◌∙◌, ◌+◌, ℕ, Bool, true, false, List, [], ◌∷◌, sym, ap, subst, refl}
use mathlib.Core.Path.{fun_ext}
use Rattle.std.specs.Prelude.{if◌then◌else◌, count_by, position, Option, Some, None, option_map, ◌||◌, ◌&&◌, not, ◌==◌}
use Rattle.std.specs.List.{list_any}
use Rattle.std.proofs.lemmas.Bool.{false≢true}
use Rattle.packet_fields.specs.Writing.{rest_of}
use Rattle.packet_fields.specs.declared.field.Field.{Field}
use Rattle.action_profile.specs.FieldSets.{has}
use Rattle.action_profile.specs.Modes.{has_write, has_touch, only_reads, mode_of, copies_by_mode}
use Rattle.action_profile.specs.declared.parts.Mode.{Mode}
use Rattle.action_profile.specs.declared.parts.Mode.TheVariants.{Moved, Copied}
use Rattle.action_profile.specs.declared.parts.Touch.{Touch}
use Rattle.chain_walk.specs.declared.fixed.Fixed.{Fixed}
use Rattle.packet_version.specs.Parts.{PlainPart, PlainHeld, Parts, as_list, as_map, unwritten, writer_in, IsPartOf}
use Rattle.packet_version.specs.Tallies.{count_of, raised}
use Rattle.packet_version.specs.Versions.{PlainVersion, had_by, left_by}
use Rattle.packet_version.specs.Dealing.{dealt_parts, dealt_version, is_given, kept_parts, copies_due, RaisesByDue}
use Rattle.packet_version.specs.Handing.{holding}
use Rattle.packet_version.proofs.Counting.{raised_none}
use Rattle.packet_version.proofs.Firsts.{count-cons, none-position}
use Rattle.packet_version.proofs.Maps.{as_map-listed}
use Rattle.packet_version.proofs.Modal.{by_position}
use Rattle.packet_version.proofs.Undealt.{is_shared}

touched : (r w : Bool) → w ≡ true → (r || w) ≡ true
touched true w e = refl
touched false w e = e

one_touches : (t : Touch) (f : Field) → has_write f t ≡ true → (count_by (has_touch f) (t ∷ []) == 1) ≡ true
one_touches t f w =
    ap (λ (n : ℕ). n == 1) (count-cons (has_touch f) t [] ∙ ap (λ (b : Bool). (if b then 1 else 0) + 0) (touched (has t.reads f) (has t.writes f) w))

-- a field that the only branch writes is moved there
pub record IsMoved (mode : Mode) : Type 0 where
  pub first : ℕ
  pub moved : mode ≡ Moved first

one_mode : (t : Touch) (f : Field) → has_write f t ≡ true → IsMoved (mode_of (t ∷ []) f)
one_mode t f w = by_place (position (has_write f) (t ∷ [])) refl
  where
    by_place : (o : Option ℕ) → position (has_write f) (t ∷ []) ≡ o → IsMoved (mode_of (t ∷ []) f)
    by_place None place = absurd (false≢true (sym (none-position (has_write f) (t ∷ []) place).0 ∙ w))
    by_place (Some k) place = record {
      first = k;
      moved = by_position (t ∷ []) f (Some k) place ∙ ap (λ (b : Bool). if b then Moved k else Copied (if list_any (only_reads f) (t ∷ []) then None else Some k)) (one_touches t f w);
    }

-- what is kept of the packet is all that the branch doesn't write
one_given : (t : Touch) (f : Field) → has_write f t ≡ is_given (mode_of (t ∷ []) f)
one_given t f = by_test (has_write f t) refl
  where
    by_test : (b : Bool) → has_write f t ≡ b → has_write f t ≡ is_given (mode_of (t ∷ []) f)
    by_test true w = w ∙ sym (ap is_given (one_mode t f w).moved)
    by_test false w = w ∙ sym (ap is_given (is_shared (t ∷ []) f (w, tt)))

one_kept : (t : Touch) (parts : Parts) → left_by t (λ f. option_map unwritten (parts f)) ≡ kept_parts (t ∷ []) parts
one_kept t parts = fun_ext (λ f. ap (λ (b : Bool). if b then None else option_map unwritten (parts f)) (one_given t f))

had_dealt : (r w : Bool) (o : Option PlainPart) → (if w then o else (if r && not w then o else None)) ≡ (if r || w then o else None)
had_dealt true true o = refl
had_dealt true false o = refl
had_dealt false true o = refl
had_dealt false false o = refl

one_dealt : (t : Touch) (parts : Parts) → had_by t (λ f. option_map unwritten (parts f)) (λ f. option_map unwritten (parts f)) ≡ dealt_parts t parts
one_dealt t parts = fun_ext (λ f. had_dealt (has t.reads f) (has t.writes f) (option_map unwritten (parts f)))

-- a packet whose writers were cleared
abbrev pub forgotten : Parts → List ℕ → PlainHeld
forgotten parts frame = record { parts = as_list (λ f. option_map unwritten (parts f)); frame = frame }

pub packet_dealt : (t : Touch) (parts : Parts) (frame : List ℕ) (fixed : Fixed) (held : PlainHeld) → held ≡ forgotten parts frame →
    holding held t fixed ≡ record (dealt_version parts fixed t) { kept = Some (record { parts = as_list (kept_parts (t ∷ []) parts); rest = rest_of frame; fixed = fixed }) }
packet_dealt t parts frame fixed held is =
    ap (λ (h : PlainHeld). holding h t fixed) is
    ∙ (ap (λ (m : Parts). let v : PlainVersion = record { parts = as_list (had_by t m m); touch = t; fixed = fixed; kept = Some (record { parts = as_list (left_by t m); rest = rest_of frame; fixed = fixed }) } in v)
    (as_map-listed (λ f. option_map unwritten (parts f)))
    ∙ (ap (λ (m : Parts). let v : PlainVersion = record { parts = as_list m; touch = t; fixed = fixed; kept = Some (record { parts = as_list (left_by t (λ f. option_map unwritten (parts f))); rest = rest_of frame; fixed = fixed }) } in v)
    (one_dealt t parts)
    ∙ ap (λ (m : Parts). let v : PlainVersion = record { parts = as_list (dealt_parts t parts); touch = t; fixed = fixed; kept = Some (record { parts = as_list m; rest = rest_of frame; fixed = fixed }) } in v)
    (one_kept t parts)))

-- its parts have no writer, and are their fields'
nobody_wrote : (o : Option PlainPart) → writer_in (option_map unwritten o) ≡ 0
nobody_wrote None = refl
nobody_wrote (Some p) = refl

still_formed : (f : Field) (o : Option PlainPart) → IsPartOf f o → IsPartOf f (option_map unwritten o)
still_formed f None formed = tt
still_formed f (Some p) formed = formed

held_parts : (parts : Parts) (frame : List ℕ) (held : PlainHeld) (f : Field) → held ≡ forgotten parts frame → as_map held.parts f ≡ option_map unwritten (parts f)
held_parts parts frame held f is = ap (λ (h : PlainHeld). as_map h.parts f) is ∙ ap (λ (m : Parts). m f) (as_map-listed (λ g. option_map unwritten (parts g)))

pub packet_unwritten : (parts : Parts) (frame : List ℕ) (held : PlainHeld) → held ≡ forgotten parts frame → (f : Field) → writer_in (as_map held.parts f) ≡ 0
packet_unwritten parts frame held is f = ap writer_in (held_parts parts frame held f is) ∙ nobody_wrote (parts f)

pub packet_formed : (parts : Parts) (frame : List ℕ) (held : PlainHeld) → held ≡ forgotten parts frame → ((f : Field) → IsPartOf f (parts f)) → (f : Field) → IsPartOf f (as_map held.parts f)
packet_formed parts frame held is formed f = subst (IsPartOf f) (sym (held_parts parts frame held f is)) (still_formed f (parts f) (formed f))

due_one : (t : Touch) (f : Field) (o : Option PlainPart) → copies_due (t ∷ []) f o ≡ 0
due_one t f None = refl
due_one t f (Some p) = by_test (has_write f t) refl
  where
    by_test : (b : Bool) → has_write f t ≡ b → copies_by_mode (mode_of (t ∷ []) f) (t ∷ []) f ≡ 0
    by_test true w = ap (λ (m : Mode). copies_by_mode m (t ∷ []) f) (one_mode t f w).moved
    by_test false w = ap (λ (m : Mode). copies_by_mode m (t ∷ []) f) (is_shared (t ∷ []) f (w, tt))

-- no copy is due if there is one branch
pub one_counted : (t : Touch) (parts : Parts) (counts : List ℕ) → RaisesByDue (t ∷ []) parts counts counts
one_counted t parts counts f = sym (ap (λ (n : ℕ). raised (count_of counts f) n) (due_one t f (parts f)) ∙ raised_none (count_of counts f))
