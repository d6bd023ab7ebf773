-- What branches got and didn't write comes back unchanged.
use Rattle.std.proofs.Common.{◌≡◌, ◌∙◌, ℕ, Bool, true, false, List, [], ◌∷◌, map, sym, ap, refl, subst, get_or, arith}
use mathlib.Core.Path.{fun_ext}
use Rattle.std.specs.Prelude.{if◌then◌else◌, ◌==◌, Option, Some, None, is_some, option_map, position}
use Rattle.std.specs.List.{list_any}
use Rattle.std.proofs.lemmas.List.{length-map, get_or-map}
use Rattle.packet_fields.specs.Writing.{written}
use Rattle.packet_fields.specs.declared.field.Field.{Field}
use Rattle.action_profile.specs.FieldSets.{all_fields}
use Rattle.action_profile.specs.declared.parts.Touch.{Touch}
use Rattle.action_profile.specs.Modes.{has_touch}
use Rattle.packet_version.specs.Parts.{PlainPart, Parts, unwritten, values_of, writers_of, writer_in}
use Rattle.packet_version.specs.Splitting.{PlainApart, IsWhole, joined, packet_parts}
use Rattle.packet_version.specs.Versions.{version_parts}
use Rattle.packet_version.specs.Dealing.{dealt, dealt_parts, based}
use Rattle.packet_version.proofs.Maps.{as_map-listed}
use Rattle.merge_ops.specs.Merging.{is_short, least_nil, writer_of, greatest_writer, last_writer, op_of, op_from, decided_by, decision_of}
use Rattle.merge_ops.specs.Taking.{merged_parts, merged_packet}
use Rattle.merge_ops.specs.Behind.{no_touch, lengths_of, IsMadeOf, IsFrom, AreFrom, value_by, value_behind, dealt_arrival, dealt_arrivals}
use Rattle.merge_ops.specs.declared.arrival.Arrival.{Arrival}
use Rattle.merge_ops.specs.declared.arrival.Arrival.TheVariants.{Short}
use Rattle.merge_ops.specs.declared.decision.MergeOp.{MergeOp}
use Rattle.merge_ops.specs.declared.decision.MergeOp.TheVariants.{Keep}
use Rattle.merge_ops.specs.declared.decision.Decision.{Decision}
use Rattle.merge_ops.specs.declared.decision.Decision.TheVariants.{Take, Short as Halted}
use Rattle.merge_ops.proofs.Whole.{merged_value}

-- a field after the stage, by the values
pub packet_value : (whole : PlainApart) (touches : List Touch) (base : PlainApart) (arrivals : List Arrival) (ops : List MergeOp) (f : Field) → AreFrom whole touches base arrivals → decision_of arrivals ≡ Take ops → values_of (packet_parts (merged_packet base arrivals)) f ≡ value_behind whole arrivals f
packet_value whole touches base arrivals ops f from on =
    ap (λ (m : Parts). values_of m f) (as_map-listed (merged_parts base arrivals)) ∙ merged_value whole touches base arrivals ops f from on

nobody : (b : Bool) (o : Option PlainPart) → writer_in (if b then option_map unwritten o else None) ≡ 0
nobody true None = refl
nobody true (Some p) = refl
nobody false o = refl

-- what a branch gets has no writer
dealt_writer : (whole : PlainApart) (touch : Touch) (f : Field) → writers_of (version_parts (dealt whole touch)) f ≡ 0
dealt_writer whole touch f = ap (λ (m : Parts). writers_of m f) (as_map-listed (dealt_parts touch (packet_parts whole))) ∙ nobody (has_touch f touch) (packet_parts whole f)

pub dealt_made : (whole : PlainApart) (touch : Touch) → IsMadeOf whole touch (dealt whole touch)
dealt_made whole touch =
    let read = as_map-listed (dealt_parts touch (packet_parts whole)) in
    record {
      touched = refl;
      there = λ f. ap (λ (m : Parts). is_some (m f)) read;
      own = λ f zero. ap (λ (m : Parts). values_of m f) read;
      lengths = λ f apart. ap (λ (m : Parts). lengths_of m f) read;
    }

pub dealt_from : (whole : PlainApart) (touches : List Touch) → IsWhole (packet_parts whole) whole.rest → AreFrom whole touches (based touches whole) (dealt_arrivals whole touches)
dealt_from whole touches fits = record {
  fits = fits;
  behind = refl;
  count = length-map touches (dealt_arrival whole);
  each = λ b below. subst (λ (a : Arrival). IsFrom whole (get_or touches b no_touch) a) (sym (get_or-map (dealt_arrival whole) touches b no_touch Short below)) (dealt_made whole (get_or touches b no_touch));
}

none_short : (whole : PlainApart) (touches : List Touch) → list_any is_short (dealt_arrivals whole touches) ≡ false
none_short whole [] = refl
none_short whole (t ∷ ts) = none_short whole ts

none_dropped : (whole : PlainApart) (touches : List Touch) → least_nil (dealt_arrivals whole touches) ≡ None
none_dropped whole [] = refl
none_dropped whole (t ∷ ts) = none_dropped whole ts

none_greatest : (whole : PlainApart) (touches : List Touch) (f : Field) → greatest_writer (dealt_arrivals whole touches) f ≡ 0
none_greatest whole [] f = refl
none_greatest whole (t ∷ ts) f = let own : writer_of f (dealt_arrival whole t) ≡ 0 = dealt_writer whole t f in let others = none_greatest whole ts f in omega arith

none_last : (whole : PlainApart) (touches : List Touch) (f : Field) → last_writer (dealt_arrivals whole touches) f ≡ None
unfolding last_writer
none_last whole touches f =
    ap (λ (n : ℕ). if n == 0 then None else position (λ a. writer_of f a == n) (dealt_arrivals whole touches)) (none_greatest whole touches f)

keeps_all : (arrivals : List Arrival) → ((f : Field) → last_writer arrivals f ≡ None) → map (op_of arrivals) all_fields ≡ map (λ f. Keep) all_fields
keeps_all arrivals none = ap (λ (g : Field → MergeOp). map g all_fields) (fun_ext (λ f. ap (λ (o : Option ℕ). op_from f o) (none f)))

-- so each field is kept
pub dealt_kept : (whole : PlainApart) (touches : List Touch) → decision_of (dealt_arrivals whole touches) ≡ Take (map (λ f. Keep) all_fields)
unfolding decision_of
dealt_kept whole touches =
    let arrivals = dealt_arrivals whole touches in
    ap (λ (b : Bool). if b then Halted else decided_by arrivals (least_nil arrivals)) (none_short whole touches)
    ∙ (ap (λ (o : Option ℕ). decided_by arrivals o) (none_dropped whole touches)
    ∙ ap (λ (ops : List MergeOp). let d : Decision = Take ops in d) (keeps_all arrivals (none_last whole touches)))

pub dealt_same : (whole : PlainApart) (touches : List Touch) → IsWhole (packet_parts whole) whole.rest → joined (merged_packet (based touches whole) (dealt_arrivals whole touches)) ≡ joined whole
dealt_same whole touches fits =
    let arrivals = dealt_arrivals whole touches in
    ap (λ (values : Field → Option (List ℕ)). written values whole.rest) (fun_ext (λ f. packet_value whole touches (based touches whole) arrivals (map (λ g. Keep) all_fields) f (dealt_from whole touches fits) (dealt_kept whole touches) ∙ ap (λ (o : Option ℕ). value_by whole arrivals f o) (none_last whole touches f)))
