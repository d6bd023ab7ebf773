-- A stage of which no branch writes: no part leaves the packet, and the packet is kept unchanged.
use Rattle.std.proofs.Common.{◌≡◌, ◌∙◌, ℕ, zero, suc, Bool, true, false, List, [], ◌∷◌, map, sym, ap, refl, length}
use mathlib.Core.Path.{fun_ext}
use Rattle.std.specs.Prelude.{if◌then◌else◌, not, position, Option, Some, None, option_map}
use Rattle.std.specs.List.{list_any}
use Rattle.std.proofs.lemmas.Bool.{false≢true}
use Rattle.packet_fields.specs.declared.field.Field.{Field}
use Rattle.action_profile.specs.FieldSets.{is_none}
use Rattle.action_profile.specs.Modes.{has_write, mode_of, copies_by_mode}
use Rattle.action_profile.specs.declared.parts.Mode.{Mode}
use Rattle.action_profile.specs.declared.parts.Mode.TheVariants.{Shared}
use Rattle.action_profile.specs.declared.parts.Touch.{Touch}
use Rattle.packet_version.specs.Parts.{PlainPart, PlainHeld, Parts, as_map, as_list, unwritten}
use Rattle.packet_version.specs.Tallies.{count_of, raised}
use Rattle.packet_version.specs.Versions.{PlainVersion}
use Rattle.packet_version.specs.Dealing.{kept_part, kept_parts, copies_due, RaisesByDue}
use Rattle.packet_version.specs.Handing.{touches_in, writes_some, with_own, without_fields}
use Rattle.packet_version.proofs.Counting.{raised_none}
use Rattle.packet_version.proofs.Firsts.{NoneOf, IsFirst, none-any, first-position}
use Rattle.packet_version.proofs.Maps.{as_list-again}
use Rattle.packet_version.proofs.Modal.{by_position, no_touch}
use Rattle.packet_version.proofs.PartsOfBranch.{some_field}

is_set : (b : Bool) → not b ≡ false → b ≡ true
is_set true e = refl
is_set false e = absurd (false≢true (sym e))

-- a branch that writes nothing doesn't write the field
no_write : (t : Touch) (f : Field) → writes_some t ≡ false → has_write f t ≡ false
no_write t f e = by_test (has_write f t) refl
  where
    by_test : (b : Bool) → has_write f t ≡ b → has_write f t ≡ false
    by_test true w = absurd (some_field t.writes f w (is_set (is_none t.writes) e))
    by_test false w = w

none_writes : (vs : List PlainVersion) (f : Field) → NoneOf (λ v. writes_some v.touch) vs → NoneOf (has_write f) (touches_in vs)
none_writes [] f none = tt
none_writes (v ∷ vs) f none = (no_write v.touch f none.0, none_writes vs f none.1)

none_first : (p : Touch → Bool) (ts : List Touch) (k : ℕ) → NoneOf p ts → IsFirst p k ts → ⊥
none_first p [] k none first = first
none_first p (t ∷ ts) zero none first = false≢true (sym none.0 ∙ first)
none_first p (t ∷ ts) (suc k) none first = none_first p ts k none.1 first.1

-- a field that no branch writes is shared
pub is_shared : (ts : List Touch) (f : Field) → NoneOf (has_write f) ts → mode_of ts f ≡ Shared
is_shared ts f none = by_place (position (has_write f) ts) refl
  where
    by_place : (o : Option ℕ) → position (has_write f) ts ≡ o → mode_of ts f ≡ Shared
    by_place None place = by_position ts f None place
    by_place (Some k) place = absurd (none_first (has_write f) ts k none (first-position (has_write f) ts k no_touch place))

all_shared : (vs : List PlainVersion) (f : Field) → list_any (λ v. writes_some v.touch) vs ≡ false → mode_of (touches_in vs) f ≡ Shared
all_shared vs f none = is_shared (touches_in vs) f (none_writes vs f (none-any (λ v. writes_some v.touch) vs none))

-- nothing is given
owns_none : (parts : Parts) (vs : List PlainVersion) → NoneOf (λ v. writes_some v.touch) vs → map without_fields vs ≡ map (with_own parts) vs
owns_none parts [] none = refl
owns_none parts (v ∷ vs) none =
    ap (λ (m : Parts). let x : PlainVersion = record { parts = as_list m; touch = v.touch; fixed = v.fixed; kept = v.kept } in x ∷ map without_fields vs)
    (fun_ext (λ f. sym (ap (λ (b : Bool). if b then option_map unwritten (parts f) else None) (no_write v.touch f none.0))))
    ∙ ap (λ (xs : List PlainVersion). with_own parts v ∷ xs) (owns_none parts vs none.1)

pub none_given : (parts : Parts) (vs : List PlainVersion) → list_any (λ v. writes_some v.touch) vs ≡ false → vs ≡ map without_fields vs → vs ≡ map (with_own parts) vs
none_given parts vs none empty = empty ∙ owns_none parts vs (none-any (λ v. writes_some v.touch) vs none)

-- the packet stays
pub all_kept : (held : PlainHeld) (vs : List PlainVersion) → list_any (λ v. writes_some v.touch) vs ≡ false → length held.parts ≡ 10 → ((f : Field) → option_map unwritten (as_map held.parts f) ≡ as_map held.parts f) → held ≡ record held { parts = as_list (kept_parts (touches_in vs) (as_map held.parts)) }
all_kept held vs none ten unwritten_all =
    ap (λ (ps : List (Option PlainPart)). let h : PlainHeld = record { parts = ps; frame = held.frame } in h)
    (sym (as_list-again held.parts ten) ∙ ap as_list (fun_ext (λ f. sym (ap (λ (m : Mode). kept_part m (as_map held.parts f)) (all_shared vs f none) ∙ unwritten_all f))))

due_none : (ts : List Touch) (f : Field) (o : Option PlainPart) → mode_of ts f ≡ Shared → copies_due ts f o ≡ 0
due_none ts f None shared = refl
due_none ts f (Some p) shared = ap (λ (m : Mode). copies_by_mode m ts f) shared

-- no copy is counted
pub none_counted : (parts : Parts) (vs : List PlainVersion) (counts : List ℕ) → list_any (λ v. writes_some v.touch) vs ≡ false → RaisesByDue (touches_in vs) parts counts counts
none_counted parts vs counts none f =
    sym (ap (λ (n : ℕ). raised (count_of counts f) n) (due_none (touches_in vs) f (parts f) (all_shared vs f none)) ∙ raised_none (count_of counts f))
