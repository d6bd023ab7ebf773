-- A packet that only one branch had is joined again.
use Rattle.std.proofs.Common.{◌≡◌, ◌≢◌, ◌∙◌, ◌+◌, ℕ, Bool, true, false, List, sym, ap, refl, subst, length, arith}
use mathlib.Core.Path.{fun_ext}
use Rattle.std.specs.Prelude.{Option, Some, None, IfSome, if◌then◌else◌, ◌==◌, ◌&&◌, nat_lt}
use Rattle.std.proofs.lemmas.Bool.Decides.{nat_tests}
use Rattle.packet_fields.specs.Fields.{number_of}
use Rattle.packet_fields.specs.Writing.{rest_of}
use Rattle.packet_fields.specs.declared.field.Field.{Field}
use Rattle.action_profile.specs.Modes.{has_write}
use Rattle.action_profile.specs.declared.parts.Touch.{Touch}
use Rattle.chain_walk.specs.declared.fixed.Fixed.{Fixed}
use Rattle.packet_version.specs.Parts.{PlainPart, PlainHeld, Parts, as_map, as_list, changed}
use Rattle.packet_version.specs.Splitting.{PlainApart, IsWhole, packet_parts}
use Rattle.packet_version.specs.Versions.{PlainVersion, version_parts, lent_parts, had_in, left_by, kept_of}
use Rattle.packet_version.specs.Rejoining.{rejoined_part, rejoined_by, rejoined_parts, with_rejoined}
use Rattle.packet_version.specs.declared.loan.Loan.{Loan}
use Rattle.packet_version.specs.declared.loan.Loan.TheVariants.{Whole}
use Rattle.packet_version.proofs.DealtByField.{by_field}
use Rattle.packet_version.proofs.Maps.{as_map-listed, as_list-again}
use Rattle.packet_version.proofs.PartsFitRest.{whole_from}
use Rattle.packet_version.proofs.PartsOfBranch.{version_of, version_as, parts_are, had_own, within_read}

-- the rejoined parts of the fields before an index, and those that were there for the others
abbrev pub way : ℕ → Parts → Parts → Parts
way i done left g = if nat_lt (number_of g) i then done g else left g

way_by : (i : ℕ) (done left : Parts) (g : Field) (b : Bool) → nat_lt (number_of g) i ≡ b → way i done left g ≡ (if b then done g else left g)
way_by i done left g b e = ap (λ (c : Bool). if c then done g else left g) e

lt_self : (a i : ℕ) → a ≡ i → nat_lt a i ≡ false
lt_self a i is = grind (arith, nat_tests)

lt_next : (a i : ℕ) → a ≡ i → nat_lt a (i + 1) ≡ true
lt_next a i is = grind (arith, nat_tests)

lt_other : (a i : ℕ) → a ≢ i → nat_lt a (i + 1) ≡ nat_lt a i
lt_other a i apart = grind (arith, nat_tests)

way_next : (f : Field) (i : ℕ) (done left : Parts) (part : Option PlainPart) (g : Field) → number_of f ≡ i → part ≡ done f → changed f part (way i done left) g ≡ way (i + 1) done left g
way_next f i done left part g is here = by_field f g (changed f part (way i done left) g ≡ way (i + 1) done left g)
    (λ same e.
    ap (λ (b : Bool). if b then part else way i done left g) e
    ∙ (here ∙ (ap done same ∙ sym (way_by (i + 1) done left g true (lt_next (number_of g) i (sym (ap number_of same) ∙ is))))))
    (λ apart e.
    ap (λ (b : Bool). if b then part else way i done left g) e
    ∙ sym (way_by (i + 1) done left g (nat_lt (number_of g) i) (lt_other (number_of g) i (λ s. apart (s ∙ sym is)))))

abbrev pub on_way : ℕ → PlainApart → Parts → PlainApart
on_way i first done = with_rejoined first (way i done (packet_parts first))

way_parts : (i : ℕ) (first was : PlainApart) (done : Parts) → was ≡ on_way i first done → packet_parts was ≡ way i done (packet_parts first)
way_parts i first was done e = ap packet_parts e ∙ as_map-listed (way i done (packet_parts first))

-- one more field
pub way_more : (f : Field) (i : ℕ) (touch : Touch) (own first_own : Parts) (first was next : PlainApart) → number_of f ≡ i → own f ≡ first_own f → was ≡ on_way i first (rejoined_by touch first_own (packet_parts first)) → next ≡ with_rejoined was (changed f (rejoined_by touch own (packet_parts was) f) (packet_parts was)) → next ≡ on_way (i + 1) first (rejoined_by touch first_own (packet_parts first))
way_more f i touch own first_own first was next is same e step =
    let done = rejoined_by touch first_own (packet_parts first) in
    let here : packet_parts was f ≡ packet_parts first f = ap (λ (m : Parts). m f) (way_parts i first was done e) ∙ way_by i done (packet_parts first) f false (lt_self (number_of f) i is) in
    let part : rejoined_by touch own (packet_parts was) f ≡ done f = ap (λ (o : Option PlainPart). if has_write f touch then rejoined_part o (packet_parts was f) else packet_parts was f) same ∙ ap (λ (o : Option PlainPart). if has_write f touch then rejoined_part (first_own f) o else o) here in
    step
    ∙ (ap (λ (w : PlainApart). with_rejoined w (changed f (rejoined_by touch own (packet_parts was) f) (packet_parts was))) e
    ∙ (ap (λ (m : Parts). with_rejoined first (changed f (rejoined_by touch own (packet_parts was) f) m)) (way_parts i first was done e)
    ∙ ap (λ (m : Parts). with_rejoined first m) (fun_ext (λ g. way_next f i done (packet_parts first) (rejoined_by touch own (packet_parts was) f) g is part))))

-- what a branch had that has its own parts beside the packet
abbrev pub base_of : PlainHeld → Fixed → PlainApart
base_of held fixed = record { parts = held.parts; rest = rest_of held.frame; fixed = fixed }

pub beside_kept : (within : Option PlainHeld) (own : List (Option PlainPart)) (lent : Option (Loan PlainHeld)) (held : PlainHeld) (touch : Touch) (fixed : Fixed) (old : PlainVersion) → within ≡ None → lent ≡ Some (Whole held) → version_of within own lent touch fixed ≡ old → old.kept ≡ Some (base_of held fixed)
beside_kept within own lent held touch fixed old none whole old_is =
    sym (ap (λ (v : PlainVersion). v.kept) old_is)
    ∙ (ap (λ (w : Option PlainHeld). kept_of touch w lent fixed) none ∙ ap (λ (l : Option (Loan PlainHeld)). kept_of touch None l fixed) whole)

pub beside_rejoined : (within : Option PlainHeld) (own : List (Option PlainPart)) (lent : Option (Loan PlainHeld)) (touch : Touch) (fixed : Fixed) (old : PlainVersion) (base : PlainApart) → within ≡ None → version_of within own lent touch fixed ≡ old → rejoined_by touch (as_map own) (packet_parts base) ≡ rejoined_parts old base
beside_rejoined within own lent touch fixed old base none old_is =
    fun_ext (λ f. by_test f (has_write f touch) refl)
    ∙ (ap (λ (m : Parts). rejoined_by touch m (packet_parts base)) (sym (parts_are None own lent touch fixed old (version_as within None own lent touch fixed old none old_is)))
    ∙ ap (λ (t : Touch). rejoined_by t (version_parts old) (packet_parts base)) (ap (λ (v : PlainVersion). v.touch) old_is))
  where
    by_test : (f : Field) (b : Bool) → has_write f touch ≡ b → (if has_write f touch then rejoined_part (as_map own f) (packet_parts base f) else packet_parts base f) ≡ (if has_write f touch then rejoined_part (had_in touch None own lent f) (packet_parts base f) else packet_parts base f)
    by_test f true w = ap (λ (o : Option PlainPart). if has_write f touch then rejoined_part o (packet_parts base f) else packet_parts base f) (sym (had_own touch (as_map own) (lent_parts lent) f w))
    by_test f false w =
        ap (λ (b : Bool). if b then rejoined_part (as_map own f) (packet_parts base f) else packet_parts base f) w
        ∙ sym (ap (λ (b : Bool). if b then rejoined_part (had_in touch None own lent f) (packet_parts base f) else packet_parts base f) w)

-- and one that writes in the packet
abbrev pub base_in : PlainHeld → Touch → Fixed → PlainApart
base_in held touch fixed = record { parts = as_list (left_by touch (as_map held.parts)); rest = rest_of held.frame; fixed = fixed }

pub packet_kept : (within : Option PlainHeld) (own : List (Option PlainPart)) (lent : Option (Loan PlainHeld)) (held : PlainHeld) (touch : Touch) (fixed : Fixed) (old : PlainVersion) → within ≡ Some held → version_of within own lent touch fixed ≡ old → old.kept ≡ Some (base_in held touch fixed)
packet_kept within own lent held touch fixed old some old_is = sym (ap (λ (v : PlainVersion). v.kept) old_is) ∙ ap (λ (w : Option PlainHeld). kept_of touch w lent fixed) some

never_both : (b : Bool) → (b && false) ≡ false
never_both true = refl
never_both false = refl

lone_part : (part : Option PlainPart) → rejoined_part part None ≡ part
lone_part None = refl
lone_part (Some p) = ap (λ (b : Bool). if b then None else Some p) (never_both (p.writer == 0))

pub packet_rejoined : (within : Option PlainHeld) (own : List (Option PlainPart)) (lent : Option (Loan PlainHeld)) (held : PlainHeld) (touch : Touch) (fixed : Fixed) (old : PlainVersion) → within ≡ Some held → version_of within own lent touch fixed ≡ old → rejoined_parts old (base_in held touch fixed) ≡ as_map held.parts
packet_rejoined within own lent held touch fixed old some old_is =
    ap (λ (t : Touch). rejoined_by t (version_parts old) (packet_parts (base_in held touch fixed))) (sym (ap (λ (v : PlainVersion). v.touch) old_is))
    ∙ (ap (λ (m : Parts). rejoined_by touch m (packet_parts (base_in held touch fixed))) (parts_are (Some held) own lent touch fixed old (version_as within (Some held) own lent touch fixed old some old_is))
    ∙ (ap (λ (m : Parts). rejoined_by touch (had_in touch (Some held) own lent) m) (as_map-listed (left_by touch (as_map held.parts)))
    ∙ fun_ext (λ f. by_test f (has_write f touch) refl)))
  where
    by_test : (f : Field) (b : Bool) → has_write f touch ≡ b → rejoined_by touch (had_in touch (Some held) own lent) (left_by touch (as_map held.parts)) f ≡ as_map held.parts f
    by_test f true w =
        ap (λ (b : Bool). if b then rejoined_part (had_in touch (Some held) own lent f) (if b then None else as_map held.parts f) else (if b then None else as_map held.parts f)) w
        ∙ (lone_part (had_in touch (Some held) own lent f) ∙ within_read touch held own lent f w)
    by_test f false w = ap (λ (b : Bool). if b then rejoined_part (had_in touch (Some held) own lent f) (if b then None else as_map held.parts f) else (if b then None else as_map held.parts f)) w

-- so the packet has what was written
pub packet_whole : (within : Option PlainHeld) (own : List (Option PlainPart)) (lent : Option (Loan PlainHeld)) (held : PlainHeld) (touch : Touch) (fixed : Fixed) (old : PlainVersion) → within ≡ Some held → version_of within own lent touch fixed ≡ old → IfSome old.kept (λ base. IsWhole (rejoined_parts old base) base.rest) → IsWhole (as_map held.parts) held.frame
packet_whole within own lent held touch fixed old some old_is whole =
    whole_from (as_map held.parts) held.frame (subst (λ (m : Parts). IsWhole m (rest_of held.frame)) (packet_rejoined within own lent held touch fixed old some old_is)
    (subst (λ (o : Option PlainApart). IfSome o (λ base. IsWhole (rejoined_parts old base) base.rest)) (packet_kept within own lent held touch fixed old some old_is) whole))

pub packet_again : (within : Option PlainHeld) (own : List (Option PlainPart)) (lent : Option (Loan PlainHeld)) (held : PlainHeld) (touch : Touch) (fixed : Fixed) (old : PlainVersion) → within ≡ Some held → length held.parts ≡ 10 → version_of within own lent touch fixed ≡ old → IfSome old.kept (λ base. base_of held fixed ≡ with_rejoined base (rejoined_parts old base))
packet_again within own lent held touch fixed old some ten old_is =
    subst (λ (o : Option PlainApart). IfSome o (λ base. base_of held fixed ≡ with_rejoined base (rejoined_parts old base))) (sym (packet_kept within own lent held touch fixed old some old_is))
    (ap (λ (ps : List (Option PlainPart)). let a : PlainApart = record { parts = ps; rest = rest_of held.frame; fixed = fixed } in a)
    (sym (as_list-again held.parts ten) ∙ ap as_list (sym (packet_rejoined within own lent held touch fixed old some old_is))))

-- what becomes of one that has its own parts beside the packet
pub beside_whole : (old : PlainVersion) (base now : PlainApart) → old.kept ≡ Some base → now ≡ with_rejoined base (rejoined_parts old base) → IfSome old.kept (λ b. IsWhole (rejoined_parts old b) b.rest) → IsWhole (packet_parts now) now.rest
beside_whole old base now kept made whole =
    subst (λ (w : PlainApart). IsWhole (packet_parts w) w.rest) (sym made) (subst (λ (m : Parts). IsWhole m base.rest) (sym (as_map-listed (rejoined_parts old base)))
    (subst (λ (o : Option PlainApart). IfSome o (λ b. IsWhole (rejoined_parts old b) b.rest)) kept whole))

pub beside_again : (old : PlainVersion) (base now : PlainApart) → old.kept ≡ Some base → now ≡ with_rejoined base (rejoined_parts old base) → IfSome old.kept (λ b. now ≡ with_rejoined b (rejoined_parts old b))
beside_again old base now kept made = subst (λ (o : Option PlainApart). IfSome o (λ b. now ≡ with_rejoined b (rejoined_parts old b))) (sym kept) made
