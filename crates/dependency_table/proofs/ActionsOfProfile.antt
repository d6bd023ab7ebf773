-- Which actions a profile has, and what the table forbids and copies among them.
use Rattle.std.proofs.Common.{◌≡◌, true, false, Bool, sym, ap, refl, [], ◌∷◌, ◌++◌, inl, inr}
use Rattle.std.specs.Prelude.{not, Option, Some, None, map}
use Rattle.std.specs.Option.{option_map_or}
use Rattle.std.specs.List.{list_any}
use Rattle.std.proofs.lemmas.Bool.Decides.{Decides-eqb}
use Rattle.packet_fields.specs.Fields.{number_of}
use Rattle.packet_fields.specs.declared.field.Field.{Field}
use Rattle.packet_fields.specs.declared.field.Field.TheVariants.{LinkDst, LinkSrc, Tag, Tos, Ttl, SrcIp, DstIp, SrcPort, DstPort, Payload}
use Rattle.action_profile.specs.declared.rights.Profile.{Profile}
use Rattle.action_profile.specs.FieldSets.{all_fields}
use Rattle.action_profile.specs.Profiles.{reads_of, writes_of}
use Rattle.dependency_table.specs.Actions.{all_actions, may, has_action, actions}
use Rattle.dependency_table.specs.Table.{is_same, forbids, pairs, first_forbidden, copied, free_or_copy, pair_of, is_allowed}
use Rattle.dependency_table.specs.declared.action.Action.{Action}
use Rattle.dependency_table.specs.declared.action.Action.TheVariants.{Pass, Read, Write, Drop, State, Count, Whole}
use Rattle.dependency_table.specs.declared.action.Answer.{Answer}
use Rattle.dependency_table.specs.declared.action.Answer.TheVariants.{Forbidden}
use Rattle.dependency_table.proofs.Among.{Among, among_left, among_right, among_map, among_filter, among_filtered, any_passes, find_none, side, among_sides}

false_where : (b : Bool) → (b ≡ true → ⊥) → b ≡ false
false_where true f = absurd (f refl)
false_where false f = refl

pub same_bool : (a b : Bool) → (a ≡ true → b ≡ true) → (b ≡ true → a ≡ true) → a ≡ b
same_bool true b f g = sym (f refl)
same_bool false true f g = g refl
same_bool false false f g = refl

pub is_same_field : (f : Field) → is_same f f ≡ true
is_same_field f = (Decides-eqb (number_of f) (number_of f)).1 refl

pub same_field : (f g : Field) → is_same f g ≡ true → f ≡ g
same_field LinkDst LinkDst h = refl
same_field LinkSrc LinkSrc h = refl
same_field Tag Tag h = refl
same_field Tos Tos h = refl
same_field Ttl Ttl h = refl
same_field SrcIp SrcIp h = refl
same_field DstIp DstIp h = refl
same_field SrcPort SrcPort h = refl
same_field DstPort DstPort h = refl
same_field Payload Payload h = refl
same_field f g h = cc

pub among_fields : (f : Field) → Among f all_fields
unfolding Among
among_fields LinkDst = inl refl
among_fields LinkSrc = inr (inl refl)
among_fields Tag = inr (inr (inl refl))
among_fields Tos = inr (inr (inr (inl refl)))
among_fields Ttl = inr (inr (inr (inr (inl refl))))
among_fields SrcIp = inr (inr (inr (inr (inr (inl refl)))))
among_fields DstIp = inr (inr (inr (inr (inr (inr (inl refl))))))
among_fields SrcPort = inr (inr (inr (inr (inr (inr (inr (inl refl)))))))
among_fields DstPort = inr (inr (inr (inr (inr (inr (inr (inr (inl refl))))))))
among_fields Payload = inr (inr (inr (inr (inr (inr (inr (inr (inr (inl refl)))))))))

-- every action is among all
among_all : (a : Action) → Among a all_actions
unfolding all_actions Among
among_all (Read f) = among_left (Read f) (map (λ f. Read f) all_fields ++ map (λ f. Write f) all_fields) (Drop ∷ State ∷ Count ∷ Whole ∷ Pass ∷ [])
    (among_left (Read f) (map (λ f. Read f) all_fields) (map (λ f. Write f) all_fields) (among_map (λ f. Read f) f all_fields (among_fields f)))
among_all (Write f) = among_left (Write f) (map (λ f. Read f) all_fields ++ map (λ f. Write f) all_fields) (Drop ∷ State ∷ Count ∷ Whole ∷ Pass ∷ [])
    (among_right (Write f) (map (λ f. Read f) all_fields) (map (λ f. Write f) all_fields) (among_map (λ f. Write f) f all_fields (among_fields f)))
among_all Drop = among_right Drop (map (λ f. Read f) all_fields ++ map (λ f. Write f) all_fields) (Drop ∷ State ∷ Count ∷ Whole ∷ Pass ∷ []) (inl refl)
among_all State = among_right State (map (λ f. Read f) all_fields ++ map (λ f. Write f) all_fields) (Drop ∷ State ∷ Count ∷ Whole ∷ Pass ∷ []) (inr (inl refl))
among_all Count = among_right Count (map (λ f. Read f) all_fields ++ map (λ f. Write f) all_fields) (Drop ∷ State ∷ Count ∷ Whole ∷ Pass ∷ []) (inr (inr (inl refl)))
among_all Whole = among_right Whole (map (λ f. Read f) all_fields ++ map (λ f. Write f) all_fields) (Drop ∷ State ∷ Count ∷ Whole ∷ Pass ∷ []) (inr (inr (inr (inl refl))))
among_all Pass = among_right Pass (map (λ f. Read f) all_fields ++ map (λ f. Write f) all_fields) (Drop ∷ State ∷ Count ∷ Whole ∷ Pass ∷ []) (inr (inr (inr (inr (inl refl)))))

pub stands : (p : Profile) (a : Action) → has_action p a ≡ true → Among a (actions p)
unfolding actions
stands p a h = among_filter (has_action p) a all_actions (among_all a) h

pub has_it : (p : Profile) (a : Action) → Among a (actions p) → has_action p a ≡ true
unfolding actions
has_it p a h = among_filtered (has_action p) a all_actions h

may_has : (p : Profile) (a : Action) → may p a ≡ true → has_action p a ≡ true
may_has p (Read f) h = h
may_has p (Write f) h = h
may_has p Drop h = h
may_has p State h = h
may_has p Count h = h
may_has p Whole h = h
may_has p Pass h = cc

record SomeAction (p : Profile) : Type 0 where
  it : Action
  has : has_action p it ≡ true

some_action : (p : Profile) → SomeAction p
some_action p = step (list_any (may p) all_actions) refl
  where
    step : (b : Bool) → list_any (may p) all_actions ≡ b → SomeAction p
    step true e = let r = any_passes (may p) all_actions e in record { it = r.it; has = may_has p r.it r.passes }
    step false e = record { it = Pass; has = ap not e }

allowed_none : (o : Option (Action × Action)) (other : Answer) → is_allowed (option_map_or (λ p. Forbidden p.0 p.1) o other) ≡ true → o ≡ None
allowed_none (Some p) other h = cc
allowed_none None other h = refl

pub none_forbidden : (x y : Profile) → is_allowed (pair_of x y) ≡ true → first_forbidden x y ≡ None
unfolding pair_of
none_forbidden x y h = allowed_none (first_forbidden x y) (free_or_copy (copied x y)) h

not_forbidden : (x y : Profile) (a b : Action) → is_allowed (pair_of x y) ≡ true → has_action x a ≡ true → has_action y b ≡ true → forbids a b ≡ false
unfolding first_forbidden pairs
not_forbidden x y a b h ha hb = find_none (λ (p : Action × Action). forbids p.0 p.1) (side a b) (pairs x y) (none_forbidden x y h) (among_sides a b (actions x) (actions y) (stands x a ha) (stands y b hb))

pub unread : (x y : Profile) (f : Field) → is_allowed (pair_of x y) ≡ true → writes_of x f ≡ true → reads_of y f ≡ false
unread x y f h w = false_where (reads_of y f) (λ r. let n : is_same f f ≡ false = not_forbidden x y (Write f) (Read f) h w r in let s = is_same_field f in cc)

pub stateless : (x y : Profile) → is_allowed (pair_of x y) ≡ true → x.drops ≡ true → y.state ≡ false
stateless x y h d = false_where y.state (λ s. let n : true ≡ false = not_forbidden x y Drop State h d s in cc)

pub first_in_parts : (x y : Profile) → is_allowed (pair_of x y) ≡ true → x.whole ≡ false
first_in_parts x y h = false_where x.whole (λ w. let b = some_action y in let n : true ≡ false = not_forbidden x y Whole b.it h w b.has in cc)

whole_second : (a : Action) → forbids a Whole ≡ true
whole_second Pass = refl
whole_second (Read f) = refl
whole_second (Write f) = refl
whole_second Drop = refl
whole_second State = refl
whole_second Count = refl
whole_second Whole = refl

pub second_in_parts : (x y : Profile) → is_allowed (pair_of x y) ≡ true → y.whole ≡ false
second_in_parts x y h = false_where y.whole (λ w. let a = some_action x in let n : forbids a.it Whole ≡ false = not_forbidden x y a.it Whole h a.has w in let e = whole_second a.it in cc)
