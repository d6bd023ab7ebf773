-- A packet that only one branch had is joined from what the branch kept and what it wrote.
use Rattle.std.proofs.Common.{◌≡◌, ◌∙◌, ℕ, Bool, true, false, List, [], ◌∷◌, map, sym, ap, refl, subst, arith}
use mathlib.Core.Path.{fun_ext}
use Rattle.std.specs.Prelude.{if◌then◌else◌, ◌==◌, ◌||◌, ◌&&◌, Option, Some, None, IfSome, is_some, max, position}
use Rattle.std.specs.List.{list_any}
use Rattle.std.specs.Option.{option_or}
use Rattle.std.proofs.lemmas.Bool.{false≢true}
use Rattle.std.proofs.lemmas.Bool.Decides.{Decides-eqb}
use Rattle.packet_fields.specs.declared.field.Field.{Field}
use Rattle.packet_fields.specs.declared.field.Field.TheVariants.{Tag}
use Rattle.action_profile.specs.FieldSets.{all_fields, has, is_none}
use Rattle.action_profile.specs.declared.field_set.FieldSet.{FieldSet}
use Rattle.action_profile.specs.Modes.{has_write}
use Rattle.packet_version.specs.Parts.{PlainPart, AreTags, as_list, writer_in, writers_of}
use Rattle.packet_version.specs.Splitting.{PlainApart, packet_parts}
use Rattle.packet_version.specs.Versions.{PlainVersion, version_parts}
use Rattle.packet_version.specs.Rejoining.{rejoined_part, rejoined_parts}
use Rattle.packet_version.proofs.PartsOfBranch.{some_field}
use Rattle.merge_ops.specs.Merging.{writer_of, greatest_writer, last_writer, op_of, decision_of}
use Rattle.merge_ops.specs.Taking.{writes_in, part_from, part_behind, merged_parts, merged_packet, merged_by, merged, with_parts}
use Rattle.merge_ops.specs.declared.arrival.Arrival.{Arrival}
use Rattle.merge_ops.specs.declared.arrival.Arrival.TheVariants.{Version, Nil, Short}
use Rattle.merge_ops.specs.declared.merging.Merged.TheVariants.{Whole, Gone, Short as Halted}
use Rattle.merge_ops.specs.declared.decision.Decision.TheVariants.{Take}
use Rattle.merge_ops.specs.Behind.{KeepsBase}
use Rattle.merge_ops.proofs.Same.{position-map}
use Rattle.merge_ops.proofs.Writable.{none_first, none_last}

-- a field that has no writer and that no branch writes stays the base's
pub untouched_merged : (base : PlainApart) (arrivals : List Arrival) (f : Field) → greatest_writer arrivals f ≡ 0 → position (writes_in f) arrivals ≡ None → merged_parts base arrivals f ≡ packet_parts base f
unfolding merged_parts
untouched_merged base arrivals f zero none =
    ap (λ (o : Option ℕ). part_behind f arrivals o (packet_parts base f)) (none_last arrivals f zero)
    ∙ ap (λ (o : Option ℕ). option_or (part_from f arrivals (if is_some (packet_parts base f) then None else o)) (packet_parts base f)) none
    ∙ by_own (packet_parts base f)
  where
    by_own : (own : Option PlainPart) → option_or (part_from f arrivals (if is_some own then None else None)) own ≡ own
    by_own None = refl
    by_own (Some p) = refl

no_field : (s : FieldSet) (f : Field) → is_none s ≡ true → has s f ≡ false
no_field s f none = by_test (has s f) refl
  where
    by_test : (b : Bool) → has s f ≡ b → has s f ≡ false
    by_test true e = absurd (some_field s f e none)
    by_test false e = e

-- if no branch writes any field, the packet is the base
pub untouched_packet : (base : PlainApart) (arrivals : List Arrival) (writable : FieldSet) → base.parts ≡ as_list (packet_parts base) → is_none writable ≡ true → ((f : Field) → has writable f ≡ list_any (writes_in f) arrivals) → ((f : Field) → has writable f ≡ false → greatest_writer arrivals f ≡ 0) →
    base ≡ with_parts base (merged_parts base arrivals)
untouched_packet base arrivals writable listed none fields unwritten =
    ap (λ (ps : List (Option PlainPart)). let b : PlainApart = record { parts = ps; rest = base.rest; fixed = base.fixed } in b)
    (listed ∙ ap as_list (sym (fun_ext (λ f. untouched_merged base arrivals f (unwritten f (no_field writable f none)) (none_first arrivals f (sym (fields f) ∙ no_field writable f none))))))

-- the last writer of a field, by its only part
abbrev last_by : Option PlainPart → Option ℕ
last_by part = if max (writer_in part) 0 == 0 then None else position (λ b. b) ((writer_in part == max (writer_in part) 0) ∷ [])

last_of : (f : Field) (v : PlainVersion) → last_writer (Version v ∷ []) f ≡ last_by (version_parts v f)
unfolding last_writer
last_of f v = ap (λ (o : Option ℕ). if max (writer_in (version_parts v f)) 0 == 0 then None else o) (sym (position-map (λ a. writer_of f a == max (writer_of f (Version v)) 0) (Version v ∷ [])))

none_writes : (v : PlainVersion) (f : Field) → has_write f v.touch ≡ false → position (writes_in f) (Version v ∷ []) ≡ None
none_writes v f w = none_first (Version v ∷ []) f (ap (λ (b : Bool). b || false) w)

none_wrote : (v : PlainVersion) (f : Field) → writer_in (version_parts v f) ≡ 0 → greatest_writer (Version v ∷ []) f ≡ 0
none_wrote v f zero = ap (λ (n : ℕ). max n 0) zero

-- a field that the branch doesn't write stays the packet's
unwritable_merged : (base : PlainApart) (v : PlainVersion) (f : Field) → has_write f v.touch ≡ false → writers_of (version_parts v) f ≡ 0 → merged_parts base (Version v ∷ []) f ≡ packet_parts base f
unwritable_merged base v f not zero = untouched_merged base (Version v ∷ []) f (none_wrote v f zero) (none_writes v f not)

-- so does one that the branch didn't write, if the packet has it
kept_merged : (base : PlainApart) (v : PlainVersion) (f : Field) → writers_of (version_parts v) f ≡ 0 → is_some (packet_parts base f) ≡ true → merged_parts base (Version v ∷ []) f ≡ packet_parts base f
unfolding merged_parts
kept_merged base v f zero there =
    ap (λ (o : Option ℕ). part_behind f (Version v ∷ []) o (packet_parts base f)) (none_last (Version v ∷ []) f (none_wrote v f zero))
    ∙ ap (λ (b : Bool). option_or (part_from f (Version v ∷ []) (if b then None else position (writes_in f) (Version v ∷ []))) (packet_parts base f)) there

max_zero : (n : ℕ) → max n 0 ≡ n
max_zero n = omega arith

-- the only branch wrote it last
wrote_last : (f : Field) (v : PlainVersion) → (writer_in (version_parts v f) == 0) ≡ false → last_writer (Version v ∷ []) f ≡ Some 0
wrote_last f v some =
    let w = writer_in (version_parts v f) in
    last_of f v
    ∙ (ap (λ (n : ℕ). if n == 0 then None else position (λ b. b) ((w == n) ∷ [])) (max_zero w)
    ∙ (ap (λ (t : Bool). if t then None else position (λ b. b) ((w == w) ∷ [])) some
    ∙ ap (λ (t : Bool). position (λ b. b) (t ∷ [])) ((Decides-eqb w w).1 refl)))

-- and is the first that writes it
writes_first : (f : Field) (v : PlainVersion) → has_write f v.touch ≡ true → position (writes_in f) (Version v ∷ []) ≡ Some 0
writes_first f v w = sym (position-map (writes_in f) (Version v ∷ [])) ∙ ap (λ (t : Bool). position (λ b. b) (t ∷ [])) w

-- the branch's part, if it has one, for a field that it wrote or that the packet lacks
taken_merged : (base : PlainApart) (v : PlainVersion) (f : Field) → has_write f v.touch ≡ true → (writers_of (version_parts v) f ≡ 0 → is_some (packet_parts base f) ≡ false) → merged_parts base (Version v ∷ []) f ≡ option_or (version_parts v f) (packet_parts base f)
unfolding merged_parts
taken_merged base v f writes lacks = by_test (writer_in (version_parts v f) == 0) refl
  where
    by_test : (b : Bool) → (writer_in (version_parts v f) == 0) ≡ b → part_behind f (Version v ∷ []) (last_writer (Version v ∷ []) f) (packet_parts base f) ≡ option_or (version_parts v f) (packet_parts base f)
    by_test true e =
        let nobody : writer_in (version_parts v f) ≡ 0 = (Decides-eqb (writer_in (version_parts v f)) 0).0 e in
        ap (λ (o : Option ℕ). part_behind f (Version v ∷ []) o (packet_parts base f)) (none_last (Version v ∷ []) f (none_wrote v f nobody))
        ∙ (ap (λ (b : Bool). option_or (part_from f (Version v ∷ []) (if b then None else position (writes_in f) (Version v ∷ []))) (packet_parts base f)) (lacks nobody)
        ∙ ap (λ (o : Option ℕ). option_or (part_from f (Version v ∷ []) o) (packet_parts base f)) (writes_first f v writes))
    by_test false e = ap (λ (o : Option ℕ). part_behind f (Version v ∷ []) o (packet_parts base f)) (wrote_last f v e)

-- so the joined packet is the result of the one arrival
pub only_merged : (base : PlainApart) (v : PlainVersion) → ((f : Field) → has_write f v.touch ≡ false → writers_of (version_parts v) f ≡ 0) → rejoined_parts v base ≡ merged_parts base (Version v ∷ [])
only_merged base v unwritten = fun_ext (λ f. by_write f (has_write f v.touch) refl)
  where
    by_own : (f : Field) (p : PlainPart) → has_write f v.touch ≡ true → version_parts v f ≡ Some p → (b : Bool) → (p.writer == 0) ≡ b → (own : Option PlainPart) → packet_parts base f ≡ own → rejoined_part (Some p) own ≡ merged_parts base (Version v ∷ []) f
    by_own f p w part true zero (Some q) own =
        let nobody : writers_of (version_parts v) f ≡ 0 = ap writer_in part ∙ (Decides-eqb p.writer 0).0 zero in
        ap (λ (b : Bool). if b && true then Some q else Some p) zero ∙ (sym own ∙ sym (kept_merged base v f nobody (ap (λ (o : Option PlainPart). is_some o) own)))
    by_own f p w part true zero None own =
        ap (λ (b : Bool). if b && false then None else Some p) zero
        ∙ sym (taken_merged base v f w (λ n. ap (λ (o : Option PlainPart). is_some o) own) ∙ ap (λ (o : Option PlainPart). option_or o (packet_parts base f)) part)
    by_own f p w part false some q own =
        ap (λ (b : Bool). if b && is_some q then q else Some p) some
        ∙ sym (taken_merged base v f w (λ n. absurd (false≢true (sym some ∙ (Decides-eqb p.writer 0).1 (sym (ap writer_in part) ∙ n)))) ∙ ap (λ (o : Option PlainPart). option_or o (packet_parts base f)) part)

    by_none : (f : Field) → has_write f v.touch ≡ true → version_parts v f ≡ None → (own : Option PlainPart) → packet_parts base f ≡ own → own ≡ merged_parts base (Version v ∷ []) f
    by_none f w part (Some q) own = sym own ∙ sym (kept_merged base v f (ap writer_in part) (ap (λ (o : Option PlainPart). is_some o) own))
    by_none f w part None own = sym own ∙ sym (taken_merged base v f w (λ n. ap (λ (o : Option PlainPart). is_some o) own) ∙ ap (λ (o : Option PlainPart). option_or o (packet_parts base f)) part)

    by_part : (f : Field) → has_write f v.touch ≡ true → (o : Option PlainPart) → version_parts v f ≡ o → rejoined_part o (packet_parts base f) ≡ merged_parts base (Version v ∷ []) f
    by_part f w None part = by_none f w part (packet_parts base f) refl
    by_part f w (Some p) part = by_own f p w part (p.writer == 0) refl (packet_parts base f) refl

    by_write : (f : Field) (b : Bool) → has_write f v.touch ≡ b → (if has_write f v.touch then rejoined_part (version_parts v f) (packet_parts base f) else packet_parts base f) ≡ merged_parts base (Version v ∷ []) f
    by_write f true w = ap (λ (b : Bool). if b then rejoined_part (version_parts v f) (packet_parts base f) else packet_parts base f) w ∙ by_part f w (version_parts v f) refl
    by_write f false w =
        ap (λ (b : Bool). if b then rejoined_part (version_parts v f) (packet_parts base f) else packet_parts base f) w
        ∙ sym (unwritable_merged base v f w (unwritten f w))

pub only_packet : (v : PlainVersion) (made : PlainApart) (kept : Option PlainApart) → ((f : Field) → has_write f v.touch ≡ false → writers_of (version_parts v) f ≡ 0) → IfSome kept (λ base. made ≡ with_parts base (rejoined_parts v base)) → IfSome kept (λ base. made ≡ merged_packet base (Version v ∷ []))
only_packet v made None unwritten is = tt
only_packet v made (Some base) unwritten is = is ∙ ap (with_parts base) (only_merged base v unwritten)

-- its tags are whole
either_tags : (b : Bool) (o p : Option PlainPart) → AreTags o → AreTags p → AreTags (if b then o else p)
either_tags true o p tags other = tags
either_tags false o p tags other = other

part_tags : (part own : Option PlainPart) → AreTags part → AreTags own → AreTags (rejoined_part part own)
part_tags None own tags other = other
part_tags (Some p) own tags other = either_tags ((p.writer == 0) && is_some own) own (Some p) other tags

pub only_tags : (base : PlainApart) (v : PlainVersion) → AreTags (version_parts v Tag) → AreTags (packet_parts base Tag) → AreTags (rejoined_parts v base Tag)
only_tags base v tags other = either_tags (has_write Tag v.touch) (rejoined_part (version_parts v Tag) (packet_parts base Tag)) (packet_parts base Tag) (part_tags (version_parts v Tag) (packet_parts base Tag) tags other) other

-- a version alone goes on
pub alone_goes_on : (v : PlainVersion) → Take (map (op_of (Version v ∷ [])) all_fields) ≡ decision_of (Version v ∷ [])
unfolding decision_of
alone_goes_on v = refl

-- what becomes of the only branch's result
pub alone_whole : (base : PlainApart) (a : Arrival) (v : PlainVersion) (made : PlainApart) → a ≡ Version v → KeepsBase base a → IfSome v.kept (λ b. made ≡ merged_packet b (Version v ∷ [])) → Whole made ≡ merged base (a ∷ [])
alone_whole base a v made is keeps merges =
    ap (λ (w : PlainApart). Whole w) (subst (λ (o : Option PlainApart). IfSome o (λ b. made ≡ merged_packet b (Version v ∷ []))) (subst (KeepsBase base) is keeps) merges)
    ∙ ap (merged_by base (Version v ∷ [])) (alone_goes_on v)
    ∙ ap (λ (x : Arrival). merged base (x ∷ [])) (sym is)

gone_alone : (base : PlainApart) (p : ℕ) → Gone p ≡ merged base (Nil p ∷ [])
unfolding decision_of
gone_alone base p = refl

pub alone_gone : (base : PlainApart) (a : Arrival) (p : ℕ) → a ≡ Nil p → Gone p ≡ merged base (a ∷ [])
alone_gone base a p is = gone_alone base p ∙ ap (λ (x : Arrival). merged base (x ∷ [])) (sym is)

short_alone : (base : PlainApart) → Halted ≡ merged base (Short ∷ [])
unfolding decision_of
short_alone base = refl

pub alone_short : (base : PlainApart) (a : Arrival) → a ≡ Short → Halted ≡ merged base (a ∷ [])
alone_short base a is = short_alone base ∙ ap (λ (x : Arrival). merged base (x ∷ [])) (sym is)
