-- A part that is taken leaves every other field of the arrivals unchanged.
use Rattle.std.proofs.Common.{◌≡◌, ◌≢◌, ◌∙◌, ◌<◌, ◌+◌, ℕ, Bool, true, false, List, map, sym, ap, refl, get_or, length, set, arith, subst}
use mathlib.Core.Path.{fun_ext}
use Rattle.std.specs.Prelude.{if◌then◌else◌, not, Option, Some, None, is_some, nat_lt, position}
use Rattle.std.specs.List.{position_or_len}
use Rattle.std.specs.Option.{option_or}
use Rattle.std.proofs.Math.ListN.{get_or-map}
use Rattle.std.proofs.Math.Seq.{map-set_same}
use Rattle.std.proofs.lemmas.Bool.Decides.{Decides-eqb, nat_tests}
use Rattle.std.proofs.lemmas.List.{length-map}
use Rattle.std.proofs.lemmas.List.Recursion.{is_position_or_len}
use Rattle.packet_fields.specs.Fields.{number_of}
use Rattle.packet_fields.specs.declared.field.Field.{Field}
use Rattle.packet_fields.specs.declared.field.Field.TheVariants.{LinkDst, LinkSrc, Tag, Tos, Ttl, SrcIp, DstIp, SrcPort, DstPort, Payload}
use Rattle.packet_version.specs.Parts.{PlainPart, Parts, changed, is_field, writer_in}
use Rattle.packet_version.specs.Splitting.{PlainApart, packet_parts}
use Rattle.packet_version.specs.Versions.{version_parts}
use Rattle.packet_version.proofs.Maps.{as_map-listed}
use Rattle.packet_version.proofs.DealtByField.{same_field}
use Rattle.merge_ops.specs.Merging.{part_of, writer_of, last_writer, op_from, op_of}
use Rattle.merge_ops.specs.Taking.{writes_in, without, arrival_at, branch_of, source, part_from, part_behind, merged_parts, with_parts, IsWritten, SameIn}
use Rattle.merge_ops.specs.declared.arrival.Arrival.{Arrival}
use Rattle.merge_ops.specs.declared.arrival.Arrival.TheVariants.{Version, Nil, Short}
use Rattle.merge_ops.specs.declared.decision.MergeOp.{MergeOp}
use Rattle.merge_ops.proofs.Latest.{last_there}

-- different fields have different numbers
other_field : (f g : Field) → f ≢ g → is_field g f ≡ false
other_field f g apart = by_test (is_field g f) refl
  where
    by_test : (b : Bool) → is_field g f ≡ b → is_field g f ≡ false
    by_test true e = absurd (apart (sym (same_field g f ((Decides-eqb (number_of g) (number_of f)).0 e))))
    by_test false e = e

without_part : (f g : Field) (a : Arrival) → f ≢ g → part_of f (without g a) ≡ part_of f a
without_part f g (Version v) apart = ap (λ (m : Parts). m f) (as_map-listed (changed g None (version_parts v))) ∙ ap (λ (b : Bool). if b then None else version_parts v f) (other_field f g apart)
without_part f g (Nil p) apart = refl
without_part f g Short apart = refl

without_writes : (f g : Field) (a : Arrival) → writes_in f (without g a) ≡ writes_in f a
without_writes f g (Version v) = refl
without_writes f g (Nil p) = refl
without_writes f g Short = refl

-- the arrivals after a part that was taken
pub same_taken : (f g : Field) (arrivals : List Arrival) (b : ℕ) (new d : Arrival) → f ≢ g → new ≡ without g (get_or arrivals b d) → SameIn f arrivals (set arrivals b new)
same_taken f g arrivals b new d apart is = record {
  parts = map-set_same (part_of f) arrivals b new d (ap (λ (a : Arrival). part_of f a) is ∙ without_part f g (get_or arrivals b d) apart);
  writes = map-set_same (writes_in f) arrivals b new d (ap (λ (a : Arrival). writes_in f a) is ∙ without_writes f g (get_or arrivals b d));
}

-- and those after two
pub same_on : (f : Field) (first old new : List Arrival) → SameIn f first old → SameIn f old new → SameIn f first new
same_on f first old new s t = record { parts = t.parts ∙ s.parts; writes = t.writes ∙ s.writes }

turned : (b : Bool) (n : ℕ) → (if not b then n else 0) ≡ (if b then 0 else n)
turned true n = refl
turned false n = refl

-- the tests determine the first that passes
pub position-map : {A : Type 0} (p : A → Bool) (xs : List A) → position (λ b. b) (map p xs) ≡ position p xs
position-map p xs =
    let first : position_or_len (λ b. b) (map p xs) ≡ position_or_len p xs = is_position_or_len (λ ys. position_or_len (λ b. b) (map p ys)) p refl (λ y ys. turned (p y) (1 + position_or_len (λ b. b) (map p ys))) xs in
    let len : length (map p xs) ≡ length xs = length-map xs p in
    cc

same_at : (f : Field) (old new : List Arrival) (b : ℕ) → SameIn f old new → part_of f (arrival_at new b) ≡ part_of f (arrival_at old b)
same_at f old new b s = sym (get_or-map (part_of f) new b Short) ∙ (ap (λ (ps : List (Option PlainPart)). get_or ps b None) s.parts ∙ get_or-map (part_of f) old b Short)

same_length : (f : Field) (old new : List Arrival) → SameIn f old new → length new ≡ length old
same_length f old new s = sym (length-map new (writes_in f)) ∙ (ap (λ (ps : List Bool). length ps) s.writes ∙ length-map old (writes_in f))

-- the first branch that writes the field is the same
pub same_first : (f : Field) (old new : List Arrival) → SameIn f old new → position (writes_in f) new ≡ position (writes_in f) old
same_first f old new s = sym (position-map (writes_in f) new) ∙ (ap (λ (ps : List Bool). position (λ b. b) ps) s.writes ∙ position-map (writes_in f) old)

same_source : (f : Field) (old new : List Arrival) (last : Option ℕ) (own : Option PlainPart) → SameIn f old new → source f new last own ≡ source f old last own
same_source f old new (Some b) own s = refl
same_source f old new None own s = ap (λ (o : Option ℕ). if is_some own then None else o) (same_first f old new s)

same_from : (f : Field) (old new : List Arrival) (branch : Option ℕ) → SameIn f old new → part_from f new branch ≡ part_from f old branch
same_from f old new None s = refl
same_from f old new (Some b) s = same_at f old new b s

-- the part after the stage is the same for such arrivals
pub same_behind : (f : Field) (old new : List Arrival) (last : Option ℕ) (own : Option PlainPart) → SameIn f old new → part_behind f new last own ≡ part_behind f old last own
same_behind f old new last own s =
    ap (λ (b : Option ℕ). option_or (part_from f new b) own) (same_source f old new last own s)
    ∙ ap (λ (p : Option PlainPart). option_or p own) (same_from f old new (source f old last own) s)

still_written : (f : Field) (old new : List Arrival) (branch : Option ℕ) → SameIn f old new → IsWritten f old branch → IsWritten f new branch
still_written f old new None s w = tt
still_written f old new (Some b) s w =
    let len = same_length f old new s in
    let inside : b < length old = w.0 in
    let wrote : 0 < writer_of f (arrival_at old b) = w.1 in
    let same : writer_of f (arrival_at new b) ≡ writer_of f (arrival_at old b) = ap writer_in (same_at f old new b s) in
    (omega arith, omega arith)

-- an operation names the branch that it was made for
op_branch : (f : Field) (o : Option ℕ) → branch_of (op_from f o) ≡ o
op_branch f None = refl
op_branch LinkDst (Some b) = refl
op_branch LinkSrc (Some b) = refl
op_branch Tag (Some b) = refl
op_branch Tos (Some b) = refl
op_branch Ttl (Some b) = refl
op_branch SrcIp (Some b) = refl
op_branch DstIp (Some b) = refl
op_branch SrcPort (Some b) = refl
op_branch DstPort (Some b) = refl
op_branch Payload (Some b) = refl

-- the branch that wrote a field last wrote it
last_written : (f : Field) (arrivals : List Arrival) (o : Option ℕ) → last_writer arrivals f ≡ o → IsWritten f arrivals o
last_written f arrivals None e = tt
last_written f arrivals (Some b) e = last_there arrivals f b e

pub written_op : (f : Field) (op : MergeOp) (old new : List Arrival) → op ≡ op_of old f → SameIn f old new → IsWritten f new (branch_of op)
written_op f op old new is s = subst (λ (b : Option ℕ). IsWritten f new b) (sym (ap branch_of is ∙ op_branch f (last_writer old f))) (still_written f old new (last_writer old f) s (last_written f old (last_writer old f) refl))

-- the parts after the stage for the fields before an index, and those that were there for the others
abbrev pub way : ℕ → Parts → Parts → Parts
way i done left g = if nat_lt (number_of g) i then done g else left g

way_by : (i : ℕ) (done left : Parts) (g : Field) (b : Bool) → nat_lt (number_of g) i ≡ b → way i done left g ≡ (if b then done g else left g)
way_by i done left g b e = ap (λ (c : Bool). if c then done g else left g) e

lt_self : (a i : ℕ) → a ≡ i → nat_lt a i ≡ false
lt_self a i is = grind (arith, nat_tests)

lt_next : (a i : ℕ) → a ≡ i → nat_lt a (i + 1) ≡ true
lt_next a i is = grind (arith, nat_tests)

lt_other : (a i : ℕ) → a ≢ i → nat_lt a (i + 1) ≡ nat_lt a i
lt_other a i apart = grind (arith, nat_tests)

way_next : (f : Field) (i : ℕ) (done left : Parts) (part : Option PlainPart) (g : Field) → number_of f ≡ i → part ≡ done f → changed f part (way i done left) g ≡ way (i + 1) done left g
way_next f i done left part g is here = by_test (is_field f g) refl
  where
    by_test : (b : Bool) → is_field f g ≡ b → changed f part (way i done left) g ≡ way (i + 1) done left g
    by_test true e =
        let same : number_of f ≡ number_of g = (Decides-eqb (number_of f) (number_of g)).0 e in
        ap (λ (b : Bool). if b then part else way i done left g) e ∙ (here ∙ (ap done (same_field f g same) ∙ sym (way_by (i + 1) done left g true (lt_next (number_of g) i (sym same ∙ is)))))
    by_test false e =
        ap (λ (b : Bool). if b then part else way i done left g) e
        ∙ sym (way_by (i + 1) done left g (nat_lt (number_of g) i) (lt_other (number_of g) i (λ s. (let t : is_field f g ≡ true = (Decides-eqb (number_of f) (number_of g)).1 (is ∙ sym s) in cc))))

abbrev pub on_way : ℕ → PlainApart → List Arrival → PlainApart
on_way i first arrivals = with_parts first (way i (merged_parts first arrivals) (packet_parts first))

pub way_parts : (i : ℕ) (first was : PlainApart) (old : List Arrival) → was ≡ on_way i first old → packet_parts was ≡ way i (merged_parts first old) (packet_parts first)
way_parts i first was old e = ap packet_parts e ∙ as_map-listed (way i (merged_parts first old) (packet_parts first))

merged_by_op : (f : Field) (op : MergeOp) (first : PlainApart) (old now : List Arrival) → op ≡ op_of old f → SameIn f old now → part_behind f now (branch_of op) (packet_parts first f) ≡ merged_parts first old f
unfolding merged_parts
merged_by_op f op first old now is s =
    ap (λ (b : Option ℕ). part_behind f now b (packet_parts first f)) (ap branch_of is ∙ op_branch f (last_writer old f)) ∙ same_behind f old now (last_writer old f) (packet_parts first f) s

-- the part at the index is still the first
pub way_here : (f : Field) (i : ℕ) (first was : PlainApart) (old : List Arrival) → number_of f ≡ i → was ≡ on_way i first old → packet_parts was f ≡ packet_parts first f
way_here f i first was old is e = ap (λ (m : Parts). m f) (way_parts i first was old e) ∙ way_by i (merged_parts first old) (packet_parts first) f false (lt_self (number_of f) i is)

-- one more part
pub put_more : (f : Field) (i : ℕ) (part : Option PlainPart) (first was next : PlainApart) (old : List Arrival) → number_of f ≡ i → part ≡ merged_parts first old f → was ≡ on_way i first old → next ≡ with_parts was (changed f part (packet_parts was)) → next ≡ on_way (i + 1) first old
put_more f i part first was next old is made e step =
    step
    ∙ (ap (λ (w : PlainApart). with_parts w (changed f part (packet_parts was))) e
    ∙ (ap (λ (m : Parts). with_parts first (changed f part m)) (way_parts i first was old e)
    ∙ ap (λ (m : Parts). with_parts first m) (fun_ext (λ g. way_next f i (merged_parts first old) (packet_parts first) part g is made))))

-- by an operation
pub put_next : (f : Field) (i : ℕ) (op : MergeOp) (first was next : PlainApart) (old now : List Arrival) → number_of f ≡ i → op ≡ op_of old f → SameIn f old now → was ≡ on_way i first old → next ≡ with_parts was (changed f (part_behind f now (branch_of op) (packet_parts was f)) (packet_parts was)) → next ≡ on_way (i + 1) first old
put_next f i op first was next old now is made s e step =
    put_more f i (part_behind f now (branch_of op) (packet_parts was f)) first was next old is (ap (λ (o : Option PlainPart). part_behind f now (branch_of op) o) (way_here f i first was old is e) ∙ merged_by_op f op first old now made s) e step
