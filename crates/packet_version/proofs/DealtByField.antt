-- The parts of a packet are passed out field by field.
use Rattle.std.proofs.Common.{◌≡◌, ◌≢◌, ◌∙◌, ◌<◌, ◌≤◌, ◌+◌, ℕ, zero, suc, Bool, true, false, List, [], ◌∷◌, map, sym, ap, refl, get_or, length, arith}
use mathlib.Core.Path.{fun_ext}
use Rattle.std.specs.Prelude.{if◌then◌else◌, Option, Some, None, option_map, nat_lt}
use Rattle.std.proofs.lemmas.Bool.Decides.{Decides-eqb, nat_tests}
use Rattle.packet_fields.specs.Fields.{number_of}
use Rattle.packet_fields.specs.Writing.{all_fields}
use Rattle.packet_fields.specs.declared.field.Field.{Field}
use Rattle.packet_fields.specs.declared.field.Field.TheVariants.{LinkDst, LinkSrc, Tag, Tos, Ttl, SrcIp, DstIp, SrcPort, DstPort, Payload}
use Rattle.action_profile.specs.Modes.{has_write, mode_of, modes_of}
use Rattle.action_profile.specs.declared.parts.Mode.{Mode}
use Rattle.action_profile.specs.declared.parts.Touch.{Touch}
use Rattle.packet_version.specs.Parts.{PlainPart, Parts, as_list, changed, is_field, unwritten}
use Rattle.packet_version.specs.Tallies.{count_of, raised}
use Rattle.packet_version.specs.Raising.{RaisesBy, RaisesAtMost}
use Rattle.packet_version.specs.Versions.{PlainVersion, with_part, nothing}
use Rattle.chain_walk.specs.declared.fixed.Fixed.{Fixed}
use Rattle.packet_version.specs.Dealing.{kept_part, kept_parts}
use Rattle.packet_version.specs.Handing.{touches_in, copied_some, copied_to, own_parts, with_own, without_fields}
use Rattle.packet_version.proofs.Maps.{as_map-listed, listed_at}
use Rattle.packet_version.proofs.Counting.{raised_twice, raised_up, raised_more, raised_none}

-- the field at an index has the index as its number
number_in : (i : ℕ) → i < 10 → number_of (get_or all_fields i LinkDst) ≡ i
number_in zero b = refl
number_in (suc zero) b = refl
number_in (suc (suc zero)) b = refl
number_in (suc (suc (suc zero))) b = refl
number_in (suc (suc (suc (suc zero)))) b = refl
number_in (suc (suc (suc (suc (suc zero))))) b = refl
number_in (suc (suc (suc (suc (suc (suc zero)))))) b = refl
number_in (suc (suc (suc (suc (suc (suc (suc zero))))))) b = refl
number_in (suc (suc (suc (suc (suc (suc (suc (suc zero)))))))) b = refl
number_in (suc (suc (suc (suc (suc (suc (suc (suc (suc zero))))))))) b = refl
number_in (suc (suc (suc (suc (suc (suc (suc (suc (suc (suc i)))))))))) b = absurd (omega arith)

pub number_at : (fields : List Field) (i : ℕ) → fields ≡ all_fields → i < length fields → number_of (get_or fields i LinkDst) ≡ i
number_at fields i is below =
    let len : length fields ≡ 10 = ap (λ (fs : List Field). length fs) is in
    ap (λ (fs : List Field). number_of (get_or fs i LinkDst)) is ∙ number_in i (omega arith)

-- a field is known by its number
pub same_field : (f g : Field) → number_of f ≡ number_of g → f ≡ g
same_field f g same = sym (listed_at (λ h. h) LinkDst f) ∙ (ap (λ (n : ℕ). get_or (map (λ h. h) all_fields) n LinkDst) same ∙ listed_at (λ h. h) LinkDst g)

-- the values of the fields before an index, and nothing for the others
abbrev pub before : {A : Type 0} → A → ℕ → (Field → A) → Field → A
before none i values g = if nat_lt (number_of g) i then values g else none

lt_self : (i : ℕ) → nat_lt i i ≡ false
lt_self i = grind (arith, nat_tests)

lt_next : (i : ℕ) → nat_lt i (i + 1) ≡ true
lt_next i = grind (arith, nat_tests)

lt_other : (a i : ℕ) → a ≢ i → nat_lt a (i + 1) ≡ nat_lt a i
lt_other a i apart = grind (arith, nat_tests)

here_none : {A : Type 0} (none : A) (i : ℕ) (values : Field → A) (g : Field) → number_of g ≡ i → before none i values g ≡ none
here_none none i values g is = ap (λ (b : Bool). if b then values g else none) (ap (λ (n : ℕ). nat_lt n i) is ∙ lt_self i)

here_next : {A : Type 0} (none : A) (i : ℕ) (values : Field → A) (g : Field) → number_of g ≡ i → before none (i + 1) values g ≡ values g
here_next none i values g is = ap (λ (b : Bool). if b then values g else none) (ap (λ (n : ℕ). nat_lt n (i + 1)) is ∙ lt_next i)

other_next : {A : Type 0} (none : A) (i : ℕ) (values : Field → A) (g : Field) → number_of g ≢ i → before none (i + 1) values g ≡ before none i values g
other_next none i values g apart = ap (λ (b : Bool). if b then values g else none) (lt_other (number_of g) i apart)

-- cases by whether two fields are the same
pub by_field : (f g : Field) (P : Type 0) → (f ≡ g → is_field f g ≡ true → P) → (number_of g ≢ number_of f → is_field f g ≡ false → P) → P
by_field f g P same other = by_test (is_field f g) refl
  where
    by_test : (b : Bool) → is_field f g ≡ b → P
    by_test true e = same (same_field f g ((Decides-eqb (number_of f) (number_of g)).0 e)) e
    by_test false e = other (λ s. (let t : is_field f g ≡ true = (Decides-eqb (number_of f) (number_of g)).1 (sym s) in cc)) e

-- one more field
before_changed : (f : Field) (i : ℕ) (parts : Parts) (g : Field) → number_of f ≡ i → changed f (parts f) (before None i parts) g ≡ before None (i + 1) parts g
before_changed f i parts g is = by_field f g (changed f (parts f) (before None i parts) g ≡ before None (i + 1) parts g)
    (λ same e.
    ap (λ (b : Bool). if b then parts f else before None i parts g) e
    ∙ (ap parts same ∙ sym (here_next None i parts g (sym (ap number_of same) ∙ is))))
    (λ apart e.
    ap (λ (b : Bool). if b then parts f else before None i parts g) e
    ∙ sym (other_next None i parts g (λ s. apart (s ∙ sym is))))

-- one more field, which is absent
before_same : (f : Field) (i : ℕ) (parts : Parts) (g : Field) → number_of f ≡ i → parts f ≡ None → before None i parts g ≡ before None (i + 1) parts g
before_same f i parts g is none = by_field f g (before None i parts g ≡ before None (i + 1) parts g)
    (λ same e.
    here_none None i parts g (sym (ap number_of same) ∙ is)
    ∙ (sym none ∙ (ap parts same ∙ sym (here_next None i parts g (sym (ap number_of same) ∙ is)))))
    (λ apart e. sym (other_next None i parts g (λ s. apart (s ∙ sym is))))

before_none : (parts : Parts) (g : Field) → before None 0 parts g ≡ None
before_none parts LinkDst = refl
before_none parts LinkSrc = refl
before_none parts Tag = refl
before_none parts Tos = refl
before_none parts Ttl = refl
before_none parts SrcIp = refl
before_none parts DstIp = refl
before_none parts SrcPort = refl
before_none parts DstPort = refl
before_none parts Payload = refl

before_all : {A : Type 0} (none : A) (values : Field → A) (g : Field) → before none 10 values g ≡ values g
before_all none values LinkDst = refl
before_all none values LinkSrc = refl
before_all none values Tag = refl
before_all none values Tos = refl
before_all none values Ttl = refl
before_all none values SrcIp = refl
before_all none values DstIp = refl
before_all none values SrcPort = refl
before_all none values DstPort = refl
before_all none values Payload = refl

-- a version with the fields before an index
abbrev pub first_own : ℕ → Parts → PlainVersion → PlainVersion
first_own i parts v = record v { parts = as_list (before None i (own_parts v.touch parts)) }

none_both : (b : Bool) (o : Option PlainPart) → (if b then o else o) ≡ o
none_both true o = refl
none_both false o = refl

own_none : (touch : Touch) (parts : Parts) (f : Field) → parts f ≡ None → own_parts touch parts f ≡ None
own_none touch parts f none = ap (λ (o : Option PlainPart). if has_write f touch then option_map unwritten o else None) none ∙ none_both (has_write f touch) None

own_by : (touch : Touch) (parts : Parts) (f : Field) (p : PlainPart) (b : Bool) → parts f ≡ Some p → has_write f touch ≡ b → own_parts touch parts f ≡ (if b then Some (unwritten p) else None)
own_by touch parts f p b is e = ap (λ (o : Option PlainPart). if has_write f touch then option_map unwritten o else None) is ∙ ap (λ (c : Bool). if c then Some (unwritten p) else None) e

abbrev with_parts : PlainVersion → Parts → PlainVersion
with_parts v parts = record v { parts = as_list parts }

stays_own : (f : Field) (i : ℕ) (parts : Parts) (v : PlainVersion) → number_of f ≡ i → own_parts v.touch parts f ≡ None → first_own i parts v ≡ first_own (i + 1) parts v
stays_own f i parts v is none = ap (λ (ps : Parts). with_parts v ps) (fun_ext (λ g. before_same f i (own_parts v.touch parts) g is none))

gets_own : (f : Field) (i : ℕ) (parts : Parts) (v : PlainVersion) (o : Option PlainPart) → number_of f ≡ i → own_parts v.touch parts f ≡ o → with_part f o (first_own i parts v) ≡ first_own (i + 1) parts v
gets_own f i parts v o is own =
    ap (λ (ps : Parts). with_parts v (changed f o ps)) (as_map-listed (before None i (own_parts v.touch parts)))
    ∙ (ap (λ (p : Option PlainPart). with_parts v (changed f p (before None i (own_parts v.touch parts)))) (sym own)
    ∙ ap (λ (ps : Parts). with_parts v ps) (fun_ext (λ g. before_changed f i (own_parts v.touch parts) g is)))

own_step : (f : Field) (i : ℕ) (parts : Parts) (v : PlainVersion) → number_of f ≡ i → copied_some f (parts f) (first_own i parts v) ≡ first_own (i + 1) parts v
own_step f i parts v is = by_part (parts f) refl
  where
    by_write : (p : PlainPart) (b : Bool) → parts f ≡ Some p → has_write f v.touch ≡ b → copied_to f p (first_own i parts v) ≡ first_own (i + 1) parts v
    by_write p true own e =
        ap (λ (c : Bool). if c then with_part f (Some (unwritten p)) (first_own i parts v) else first_own i parts v) e
        ∙ gets_own f i parts v (Some (unwritten p)) is (own_by v.touch parts f p true own e)
    by_write p false own e =
        ap (λ (c : Bool). if c then with_part f (Some (unwritten p)) (first_own i parts v) else first_own i parts v) e
        ∙ stays_own f i parts v is (own_by v.touch parts f p false own e)

    by_part : (o : Option PlainPart) → parts f ≡ o → copied_some f (parts f) (first_own i parts v) ≡ first_own (i + 1) parts v
    by_part None own = ap (λ (o : Option PlainPart). copied_some f o (first_own i parts v)) own ∙ stays_own f i parts v is (own_none v.touch parts f own)
    by_part (Some p) own = ap (λ (o : Option PlainPart). copied_some f o (first_own i parts v)) own ∙ by_write p (has_write f v.touch) own refl

all_step : (f : Field) (i : ℕ) (parts : Parts) (vs : List PlainVersion) → number_of f ≡ i → map (copied_some f (parts f)) (map (first_own i parts) vs) ≡ map (first_own (i + 1) parts) vs
all_step f i parts [] is = refl
all_step f i parts (v ∷ vs) is =
    ap (λ (x : PlainVersion). x ∷ map (copied_some f (parts f)) (map (first_own i parts) vs)) (own_step f i parts v is)
    ∙ ap (λ (xs : List PlainVersion). first_own (i + 1) parts v ∷ xs) (all_step f i parts vs is)

-- the versions after one more field
pub versions_next : (f : Field) (i : ℕ) (parts : Parts) (part : Option PlainPart) (vs now new : List PlainVersion) → number_of f ≡ i → part ≡ parts f → now ≡ map (first_own i parts) vs → new ≡ map (copied_some f part) now → new ≡ map (first_own (i + 1) parts) vs
versions_next f i parts part vs now new is own was made =
    made ∙ (ap (λ (xs : List PlainVersion). map (copied_some f part) xs) was ∙ (ap (λ (o : Option PlainPart). map (copied_some f o) (map (first_own i parts) vs)) own ∙ all_step f i parts vs is))

-- after the last field
pub versions_over : (i : ℕ) (parts : Parts) (vs now : List PlainVersion) → i ≡ 10 → now ≡ map (first_own i parts) vs → now ≡ map (with_own parts) vs
versions_over i parts vs now over was = was ∙ (ap (λ (n : ℕ). map (first_own n parts) vs) over ∙ same vs)
  where
    one : (v : PlainVersion) → first_own 10 parts v ≡ with_own parts v
    one v = ap (λ (ps : Parts). with_parts v ps) (fun_ext (λ g. before_all None (own_parts v.touch parts) g))

    same : (ws : List PlainVersion) → map (first_own 10 parts) ws ≡ map (with_own parts) ws
    same [] = refl
    same (w ∷ ws) = ap (λ (x : PlainVersion). x ∷ map (first_own 10 parts) ws) (one w) ∙ ap (λ (xs : List PlainVersion). with_own parts w ∷ xs) (same ws)

-- what the branches touch stays
pub touches_stay : (i : ℕ) (parts : Parts) (vs now : List PlainVersion) → now ≡ map (first_own i parts) vs → touches_in now ≡ touches_in vs
touches_stay i parts vs now was = ap touches_in was ∙ same vs
  where
    same : (ws : List PlainVersion) → touches_in (map (first_own i parts) ws) ≡ touches_in ws
    same [] = refl
    same (w ∷ ws) = ap (λ (ts : List Touch). w.touch ∷ ts) (same ws)

-- a mode that is read from the list of all
pub mode_read : (ts : List Touch) (modes : List Mode) (f : Field) (n : ℕ) (d : Mode) → modes ≡ modes_of ts → n ≡ number_of f → get_or modes n d ≡ mode_of ts f
mode_read ts modes f n d is at = ap (λ (ms : List Mode). get_or ms n d) is ∙ (ap (λ (k : ℕ). get_or (map (mode_of ts) all_fields) k d) at ∙ listed_at (mode_of ts) d f)

plus_before : (f g : Field) (i : ℕ) (due : Field → ℕ) → number_of f ≡ i → before 0 i due g + (if is_field f g then due f else 0) ≡ before 0 (i + 1) due g
plus_before f g i due is = by_field f g (before 0 i due g + (if is_field f g then due f else 0) ≡ before 0 (i + 1) due g)
    (λ same e.
    let a = here_none 0 i due g (sym (ap number_of same) ∙ is) in
    let b : (if is_field f g then due f else 0) ≡ due g = ap (λ (c : Bool). if c then due f else 0) e ∙ ap due same in
    let c = here_next 0 i due g (sym (ap number_of same) ∙ is) in
    omega arith)
    (λ apart e.
    let b : (if is_field f g then due f else 0) ≡ 0 = ap (λ (c : Bool). if c then due f else 0) e in
    let c = other_next 0 i due g (λ s. apart (s ∙ sym is)) in
    omega arith)

-- the counts rose by the copies that are due for the fields before an index
abbrev pub RaisesBefore : (Field → ℕ) → ℕ → List ℕ → List ℕ → Type 0
RaisesBefore due i old new = (g : Field) → count_of new g ≡ raised (count_of old g) (before 0 i due g)

pub counted_begin : (due : Field → ℕ) (t : List ℕ) → RaisesBefore due 0 t t
counted_begin due t g = sym (ap (λ (n : ℕ). raised (count_of t g) n) (none g) ∙ raised_none (count_of t g))
  where
    none : (h : Field) → before 0 0 due h ≡ 0
    none LinkDst = refl
    none LinkSrc = refl
    none Tag = refl
    none Tos = refl
    none Ttl = refl
    none SrcIp = refl
    none DstIp = refl
    none SrcPort = refl
    none DstPort = refl
    none Payload = refl

pub counted_next : (due : Field → ℕ) (f : Field) (i most : ℕ) (t u v : List ℕ) → number_of f ≡ i → most ≡ due f → RaisesBefore due i t u → RaisesBy most f u v → RaisesBefore due (i + 1) t v
counted_next due f i most t u v is all was more g =
    more g
    ∙ (ap (λ (n : ℕ). raised n (if is_field f g then most else 0)) (was g)
    ∙ (raised_twice (count_of t g) (before 0 i due g) (if is_field f g then most else 0)
    ∙ ap (λ (n : ℕ). raised (count_of t g) n) (ap (λ (n : ℕ). before 0 i due g + (if is_field f g then n else 0)) all ∙ plus_before f g i due is)))

pub counted_over : (due : Field → ℕ) (i : ℕ) (t u : List ℕ) → i ≡ 10 → RaisesBefore due i t u → (g : Field) → count_of u g ≡ raised (count_of t g) (due g)
counted_over due i t u over was g = was g ∙ ap (λ (n : ℕ). raised (count_of t g) n) (ap (λ (k : ℕ). before 0 k due g) over ∙ before_all 0 due g)

before_less : (due : Field → ℕ) (i : ℕ) (g : Field) → before 0 i due g ≤ due g
before_less due i g = by_test (nat_lt (number_of g) i)
  where
    by_test : (b : Bool) → (if b then due g else 0) ≤ due g
    by_test true = omega arith
    by_test false = omega arith

-- counts that rose by all that are due rose within them
pub raised_within : (due : Field → ℕ) (t u : List ℕ) → ((g : Field) → count_of u g ≡ raised (count_of t g) (due g)) → (g : Field) → (count_of t g ≤ count_of u g) × (count_of u g ≤ raised (count_of t g) (due g))
raised_within due t u was g =
    let e = was g in
    let up = raised_up (count_of t g) (due g) in
    (omega arith, omega arith)

-- and if memory ran out at a field
pub counted_refused : (due : Field → ℕ) (f : Field) (i most : ℕ) (t u v : List ℕ) → number_of f ≡ i → most ≡ due f → RaisesBefore due i t u → RaisesAtMost most f u v → (g : Field) → (count_of t g ≤ count_of v g) × (count_of v g ≤ raised (count_of t g) (due g))
counted_refused due f i most t u v is all was more g =
    let e = was g in
    let m = more g in
    let up = raised_up (count_of t g) (before 0 i due g) in
    let sum : raised (count_of u g) (if is_field f g then most else 0) ≡ raised (count_of t g) (before 0 (i + 1) due g) =
    ap (λ (n : ℕ). raised n (if is_field f g then most else 0)) e
    ∙ (raised_twice (count_of t g) (before 0 i due g) (if is_field f g then most else 0)
    ∙ ap (λ (n : ℕ). raised (count_of t g) n) (ap (λ (n : ℕ). before 0 i due g + (if is_field f g then n else 0)) all ∙ plus_before f g i due is)) in
    let most_due = raised_more (count_of t g) (before 0 (i + 1) due g) (due g) (before_less due (i + 1) g) in
    (omega arith, omega arith)

-- what is kept of the fields before an index, and the parts of the others
abbrev pub first_kept : ℕ → List Touch → Parts → Parts
first_kept i ts parts g = if nat_lt (number_of g) i then kept_parts ts parts g else parts g

-- the part of the next field is the packet's
pub part_next : (f : Field) (i : ℕ) (ts : List Touch) (parts now : Parts) → number_of f ≡ i → now ≡ first_kept i ts parts → now f ≡ parts f
part_next f i ts parts now is was = ap (λ (m : Parts). m f) was ∙ ap (λ (b : Bool). if b then kept_parts ts parts f else parts f) (ap (λ (n : ℕ). nat_lt n i) is ∙ lt_self i)

-- what is kept of one more field
pub kept_next : (f : Field) (i : ℕ) (ts : List Touch) (mode : Mode) (parts now new : Parts) → number_of f ≡ i → mode ≡ mode_of ts f → now ≡ first_kept i ts parts → new ≡ changed f (kept_part mode (now f)) now → new ≡ first_kept (i + 1) ts parts
kept_next f i ts mode parts now new is mode_is was made =
    made
    ∙ (ap (λ (o : Option PlainPart). changed f o now) (ap (λ (k : Mode). kept_part k (now f)) mode_is ∙ ap (λ (o : Option PlainPart). kept_part (mode_of ts f) o) (part_next f i ts parts now is was))
    ∙ (ap (λ (m : Parts). changed f (kept_parts ts parts f) m) was
    ∙ fun_ext (λ g. by_field f g (changed f (kept_parts ts parts f) (first_kept i ts parts) g ≡ first_kept (i + 1) ts parts g)
    (λ same e.
    ap (λ (b : Bool). if b then kept_parts ts parts f else first_kept i ts parts g) e
    ∙ (ap (λ (h : Field). kept_parts ts parts h) same
    ∙ sym (ap (λ (b : Bool). if b then kept_parts ts parts g else parts g) (ap (λ (n : ℕ). nat_lt n (i + 1)) (sym (ap number_of same) ∙ is) ∙ lt_next i))))
    (λ apart e.
    ap (λ (b : Bool). if b then kept_parts ts parts f else first_kept i ts parts g) e
    ∙ sym (ap (λ (b : Bool). if b then kept_parts ts parts g else parts g) (lt_other (number_of g) i (λ s. apart (s ∙ sym is))))))))

-- and of all
pub kept_over : (i : ℕ) (ts : List Touch) (parts now : Parts) → i ≡ 10 → now ≡ first_kept i ts parts → now ≡ kept_parts ts parts
kept_over i ts parts now over was = was ∙ (ap (λ (n : ℕ). first_kept n ts parts) over ∙ fun_ext (λ g. all g))
  where
    all : (h : Field) → first_kept 10 ts parts h ≡ kept_parts ts parts h
    all LinkDst = refl
    all LinkSrc = refl
    all Tag = refl
    all Tos = refl
    all Ttl = refl
    all SrcIp = refl
    all DstIp = refl
    all SrcPort = refl
    all DstPort = refl
    all Payload = refl

-- versions that have no field
pub touches_begin : (ts : List Touch) (fixed : Fixed) (vs : List PlainVersion) → vs ≡ map (λ t. nothing t fixed) ts → touches_in vs ≡ ts
touches_begin ts fixed vs is = ap touches_in is ∙ same ts
  where
    same : (us : List Touch) → touches_in (map (λ t. nothing t fixed) us) ≡ us
    same [] = refl
    same (u ∷ us) = ap (λ (xs : List Touch). u ∷ xs) (same us)

pub empty_begin : (ts : List Touch) (fixed : Fixed) (vs : List PlainVersion) → vs ≡ map (λ t. nothing t fixed) ts → vs ≡ map without_fields vs
empty_begin ts fixed vs is = is ∙ (sym (same ts) ∙ ap (λ (xs : List PlainVersion). map without_fields xs) (sym is))
  where
    same : (us : List Touch) → map without_fields (map (λ t. nothing t fixed) us) ≡ map (λ t. nothing t fixed) us
    same [] = refl
    same (u ∷ us) = ap (λ (xs : List PlainVersion). nothing u fixed ∷ xs) (same us)
