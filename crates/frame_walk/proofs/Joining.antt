-- What is joined after the only branch of a stage.
use Rattle.std.proofs.Common.{◌≡◌, ◌∙◌, List, [], ◌∷◌, ap, refl}
use mathlib.Core.Path.{fun_ext}
use Rattle.std.specs.Prelude.{Result, Ok, Err, IfOk}
use Rattle.packet_fields.specs.Writing.{written}
use Rattle.packet_fields.specs.declared.field.Field.{Field}
use Rattle.action_profile.specs.declared.parts.Touch.{Touch}
use Rattle.packet_version.specs.Parts.{values_of}
use Rattle.packet_version.specs.Splitting.{PlainApart, joined, packet_parts}
use Rattle.packet_version.specs.Versions.{PlainVersion}
use Rattle.merge_ops.specs.Behind.{AreFrom, value_behind}
use Rattle.merge_ops.specs.Merging.{decision_of}
use Rattle.merge_ops.specs.Taking.{merged, merged_packet}
use Rattle.merge_ops.specs.declared.arrival.Arrival.{Arrival}
use Rattle.merge_ops.specs.declared.arrival.Arrival.TheVariants.{Version as of_version}
use Rattle.merge_ops.specs.declared.decision.Decision.TheVariants.{Take}
use Rattle.merge_ops.specs.declared.decision.MergeOp.{MergeOp}
use Rattle.merge_ops.specs.declared.merging.Merged.TheVariants.{Whole}

abbrev pub LastValues : Type 0
LastValues = (whole : PlainApart) (touches : List Touch) (base : PlainApart) (arrivals : List Arrival) (ops : List MergeOp) (f : Field) → AreFrom whole touches base arrivals → decision_of arrivals ≡ Take ops → values_of (packet_parts (merged_packet base arrivals)) f ≡ value_behind whole arrivals f

abbrev pub SameRest : Type 0
SameRest = (whole : PlainApart) (touches : List Touch) (base : PlainApart) (arrivals : List Arrival) → AreFrom whole touches base arrivals → (merged_packet base arrivals).rest ≡ whole.rest

-- a version alone is neither a drop nor out of memory
alone : (base : PlainApart) (version : PlainVersion) (whole : PlainApart) → Whole whole ≡ merged base (of_version version ∷ []) → whole ≡ merged_packet base (of_version version ∷ [])
unfolding decision_of
alone base version whole is = cc

values_alone : (whole base : PlainApart) (touch : Touch) (version : PlainVersion) → LastValues → AreFrom whole (touch ∷ []) base (of_version version ∷ []) → values_of (packet_parts (merged_packet base (of_version version ∷ []))) ≡ value_behind whole (of_version version ∷ [])
unfolding decision_of
values_alone whole base touch version last from = fun_ext (λ f. last whole (touch ∷ []) base (of_version version ∷ []) _ f from refl)

pub joined_behind : (whole base : PlainApart) (touch : Touch) (version : PlainVersion) (back : PlainApart) → LastValues → SameRest → AreFrom whole (touch ∷ []) base (of_version version ∷ []) → Whole back ≡ merged base (of_version version ∷ []) →
    joined back ≡ written (value_behind whole (of_version version ∷ [])) whole.rest
joined_behind whole base touch version back last same from is =
    ap joined (alone base version back is)
    ∙ ap (λ v. written v (merged_packet base (of_version version ∷ [])).rest) (values_alone whole base touch version last from)
    ∙ ap (written (value_behind whole (of_version version ∷ []))) (same whole (touch ∷ []) base (of_version version ∷ []) from)

pub if_ok : {T E : Type 0} (r : Result T E) (P Q : T → Type 0) → ((x : T) → P x → Q x) → IfOk r P → IfOk r Q
if_ok (Ok x) P Q then p = then x p
if_ok (Err e) P Q then p = tt
