-- Which fields two functions need a copy of, and what an answer that forbids names.
use Rattle.std.proofs.Common.{◌≡◌, ◌∙◌, ℕ, true, false, Bool, sym, ap, refl}
use Rattle.std.specs.Prelude.{◌&&◌, ◌||◌, ◌==◌, if◌then◌else◌, Option, Some, None, filter}
use Rattle.std.specs.Option.{option_map_or}
use Rattle.std.specs.List.{list_any}
use Rattle.std.specs.Int.{bit_at}
use Rattle.std.proofs.lemmas.Bool.{and_parts}
use Rattle.std.proofs.lemmas.Bool.Decides.{Decides-eqb}
use Rattle.std.proofs.lemmas.Nat.Bits.{bit_at-zero}
use Rattle.packet_fields.specs.Fields.{number_of}
use Rattle.packet_fields.specs.declared.field.Field.{Field}
use Rattle.action_profile.specs.declared.field_set.FieldSet.{FieldSet}
use Rattle.action_profile.specs.declared.rights.Profile.{Profile}
use Rattle.action_profile.specs.FieldSets.{has, all_fields}
use Rattle.action_profile.specs.Profiles.{reads_of, writes_of}
use Rattle.action_profile.proofs.Members.{has_fields}
use Rattle.dependency_table.specs.Actions.{has_action, actions}
use Rattle.dependency_table.specs.Table.{is_same, forbids, copies, pairs, first_forbidden, is_copied, copied, free_or_copy, pair_of, is_allowed, copies_field}
use Rattle.dependency_table.specs.declared.action.Action.{Action}
use Rattle.dependency_table.specs.declared.action.Action.TheVariants.{Read, Write}
use Rattle.dependency_table.specs.declared.action.Answer.TheVariants.{Free, Copy, Forbidden}
use Rattle.dependency_table.proofs.Among.{Among, among_filter, among_filtered, any_among, any_passes, find_passes, find_among, side, among_sides, sides_among}
use Rattle.dependency_table.proofs.ActionsOfProfile.{same_bool, is_same_field, same_field, among_fields, stands, has_it, none_forbidden}

both : (a b : Bool) → a ≡ true → b ≡ true → (a && b) ≡ true
both true b h k = k
both false b h k = cc

left_or : (a b : Bool) → a ≡ true → (a || b) ≡ true
left_or true b h = refl
left_or false b h = cc

right_or : (a b : Bool) → b ≡ true → (a || b) ≡ true
right_or true b h = refl
right_or false b h = h

copying : (x y : Profile) (f : Field) (a b : Action) → copies f a b ≡ true → has_action x a ≡ true → has_action y b ≡ true → ((reads_of x f || writes_of x f) && writes_of y f) ≡ true
copying x y f (Read g) (Write h) c ha hb =
    let t = and_parts (is_same f g) (is_same f h) c in
    both (reads_of x f || writes_of x f) (writes_of y f) (left_or (reads_of x f) (writes_of x f) (ap (reads_of x) (same_field f g t.0) ∙ ha)) (ap (writes_of y) (same_field f h t.1) ∙ hb)
copying x y f (Write g) (Write h) c ha hb =
    let t = and_parts (is_same f g) (is_same f h) c in
    both (reads_of x f || writes_of x f) (writes_of y f) (right_or (reads_of x f) (writes_of x f) (ap (writes_of x) (same_field f g t.0) ∙ ha)) (ap (writes_of y) (same_field f h t.1) ∙ hb)
copying x y f a b c ha hb = cc

copied_sound : (x y : Profile) (f : Field) → is_copied x y f ≡ true → ((reads_of x f || writes_of x f) && writes_of y f) ≡ true
unfolding is_copied pairs
copied_sound x y f h =
    let r = any_passes (λ (p : Action × Action). copies f p.0 p.1) (pairs x y) h in
    let s = sides_among r.it (actions x) (actions y) r.stands in
    copying x y f r.it.0 r.it.1 r.passes (has_it x r.it.0 s.0) (has_it y r.it.1 s.1)

copied_by : (x y : Profile) (f : Field) (a b : Action) → has_action x a ≡ true → has_action y b ≡ true → copies f a b ≡ true → is_copied x y f ≡ true
unfolding is_copied pairs
copied_by x y f a b ha hb c = any_among (λ (p : Action × Action). copies f p.0 p.1) (side a b) (pairs x y) (among_sides a b (actions x) (actions y) (stands x a ha) (stands y b hb)) c

copied_complete : (x y : Profile) (f : Field) (r w : Bool) → reads_of x f ≡ r → writes_of x f ≡ w → ((r || w) && writes_of y f) ≡ true → is_copied x y f ≡ true
copied_complete x y f true w er ew h = copied_by x y f (Read f) (Write f) er h (both (is_same f f) (is_same f f) (is_same_field f) (is_same_field f))
copied_complete x y f false true er ew h = copied_by x y f (Write f) (Write f) ew h (both (is_same f f) (is_same f f) (is_same_field f) (is_same_field f))
copied_complete x y f false false er ew h = cc

-- a field is copied if the earlier function reads or writes it and the later one writes it
pub is_copied_is : (x y : Profile) (f : Field) → is_copied x y f ≡ ((reads_of x f || writes_of x f) && writes_of y f)
is_copied_is x y f = same_bool (is_copied x y f) ((reads_of x f || writes_of x f) && writes_of y f) (copied_sound x y f) (copied_complete x y f (reads_of x f) (writes_of x f) refl refl)

in_filter : (p : Field → Bool) (f : Field) → list_any (λ g. number_of g == number_of f) (filter p all_fields) ≡ p f
in_filter p f = same_bool (list_any (λ g. number_of g == number_of f) (filter p all_fields)) (p f)
    (λ h. let r = any_passes (λ (g : Field). number_of g == number_of f) (filter p all_fields) h in
    let e : p r.it ≡ p f = ap p (same_field r.it f r.passes) in
    sym e ∙ among_filtered p r.it all_fields r.stands)
    (λ h. any_among (λ (g : Field). number_of g == number_of f) f (filter p all_fields) (among_filter p f all_fields (among_fields f) h) (is_same_field f))

has_copied : (x y : Profile) (f : Field) → has (copied x y) f ≡ ((reads_of x f || writes_of x f) && writes_of y f)
unfolding copied
has_copied x y f = has_fields (filter (is_copied x y) all_fields) f ∙ in_filter (is_copied x y) f ∙ is_copied_is x y f

field_of_answer : (set : FieldSet) (f : Field) → copies_field (free_or_copy set) f ≡ has set f
field_of_answer set f = step (set.0 == 0) refl
  where
    step : (b : Bool) → (set.0 == 0) ≡ b → copies_field (if b then Free else Copy set) f ≡ has set f
    step true e = sym (ap (λ (n : ℕ). bit_at n (number_of f) == 1) ((Decides-eqb set.0 0).0 e) ∙ ap (λ (n : ℕ). n == 1) (bit_at-zero (number_of f)))
    step false e = refl

pub copies_are : (x y : Profile) (f : Field) → is_allowed (pair_of x y) ≡ true → copies_field (pair_of x y) f ≡ ((reads_of x f || writes_of x f) && writes_of y f)
unfolding pair_of
copies_are x y f h =
    ap (λ (o : Option (Action × Action)). copies_field (option_map_or (λ p. Forbidden p.0 p.1) o (free_or_copy (copied x y))) f) (none_forbidden x y h)
    ∙ field_of_answer (copied x y) f ∙ has_copied x y f

not_forbidding : (b : Bool) (set : FieldSet) (first second : Action) → (if b then Free else Copy set) ≡ Forbidden first second → ⊥
not_forbidding true set first second h = cc
not_forbidding false set first second h = cc

cause : (o : Option (Action × Action)) (set : FieldSet) (a b : Action) → option_map_or (λ p. Forbidden p.0 p.1) o (free_or_copy set) ≡ Forbidden a b → o ≡ Some (side a b)
cause (Some p) set a b h =
    let first : p.0 ≡ a = cc in
    let second : p.1 ≡ b = cc in
    λ i. Some (side (first i) (second i))
cause None set a b h = absurd (not_forbidding (set.0 == 0) set a b h)

found : (x y : Profile) (a b : Action) → pair_of x y ≡ Forbidden a b → first_forbidden x y ≡ Some (side a b)
unfolding pair_of
found x y a b h = cause (first_forbidden x y) (copied x y) a b h

pub forbidden_forbids : (x y : Profile) (a b : Action) → pair_of x y ≡ Forbidden a b → forbids a b ≡ true
unfolding first_forbidden
forbidden_forbids x y a b h = find_passes (λ (p : Action × Action). forbids p.0 p.1) (side a b) (pairs x y) (found x y a b h)

forbidden_stands : (x y : Profile) (a b : Action) → pair_of x y ≡ Forbidden a b → Among a (actions x) × Among b (actions y)
unfolding first_forbidden pairs
forbidden_stands x y a b h = sides_among (side a b) (actions x) (actions y) (find_among (λ (p : Action × Action). forbids p.0 p.1) (side a b) (pairs x y) (found x y a b h))

pub first_has : (x y : Profile) (a b : Action) → pair_of x y ≡ Forbidden a b → has_action x a ≡ true
first_has x y a b h = has_it x a (forbidden_stands x y a b h).0

pub second_has : (x y : Profile) (a b : Action) → pair_of x y ≡ Forbidden a b → has_action y b ≡ true
second_has x y a b h = has_it y b (forbidden_stands x y a b h).1
