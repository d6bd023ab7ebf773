-- A packet that was merged after a stage is whole again.
use Rattle.std.proofs.Common.{◌≡◌, ◌≢◌, ◌∙◌, ◌<◌, ℕ, Bool, true, false, List, length, ap, refl, sym, subst, arith}
use Rattle.std.specs.Prelude.{Option, Some, None, is_some, option_map, IfSome, if◌then◌else◌, slice_index_or}
use Rattle.packet_fields.specs.Frames.{is_tag_list}
use Rattle.packet_fields.specs.declared.field.Field.{Field}
use Rattle.packet_fields.specs.declared.field.Field.TheVariants.{Tag}
use Rattle.action_profile.specs.Modes.{has_touch}
use Rattle.action_profile.specs.declared.parts.Touch.{Touch}
use Rattle.action_profile.specs.declared.rights.Profile.{Profile}
use Rattle.chain_walk.specs.Shown.{AreWellFormed}
use Rattle.packet_version.specs.Parts.{PlainPart, Parts, unwritten, values_of, writer_in}
use Rattle.packet_version.specs.Splitting.{PlainApart, IsWhole, IsShapedAs, packet_parts}
use Rattle.packet_version.specs.Versions.{version_parts}
use Rattle.packet_version.specs.Dealing.{dealt_parts, based}
use Rattle.merge_ops.specs.Behind.{no_touch, IsFrom, AreFrom, value_by, value_behind}
use Rattle.merge_ops.specs.Merging.{part_of, writer_of, last_writer, decision_of}
use Rattle.merge_ops.specs.Taking.{arrival_at, merged_packet, merged_by, merged}
use Rattle.merge_ops.specs.declared.arrival.Arrival.{Arrival}
use Rattle.merge_ops.specs.declared.arrival.Arrival.TheVariants as cames
use Rattle.merge_ops.specs.declared.decision.Decision.{Decision}
use Rattle.merge_ops.specs.declared.decision.Decision.TheVariants as decisions
use Rattle.merge_ops.specs.declared.decision.MergeOp.{MergeOp}
use Rattle.merge_ops.specs.declared.merging.Merged.{Merged}
use Rattle.merge_ops.specs.declared.merging.Merged.TheVariants as ends
use Rattle.graph_run.specs.Carrying.{values_in}
use Rattle.graph_run.specs.Stages.{LeavesStage}
use Rattle.stream_law.specs.Ready.{Fits}

-- the laws of merging, as they are cited
abbrev pub ValuesBehind : Type 0
ValuesBehind = (whole : PlainApart) (touches : List Touch) (base : PlainApart) (arrivals : List Arrival) (ops : List MergeOp) (f : Field) → AreFrom whole touches base arrivals → decision_of arrivals ≡ decisions.Take ops → values_of (packet_parts (merged_packet base arrivals)) f ≡ value_behind whole arrivals f

abbrev pub LastWrote : Type 0
LastWrote = (arrivals : List Arrival) (f : Field) (branch : ℕ) → last_writer arrivals f ≡ Some branch → (branch < length arrivals) × (0 < writer_of f (arrival_at arrivals branch))

abbrev pub ShapeFits : Type 0
ShapeFits = (old new : Parts) (rest : List ℕ) → IsWhole old rest → IsShapedAs old new → IsWhole new rest

abbrev bytes_in : Option PlainPart → Option (List ℕ)
bytes_in part = option_map (λ p. p.bytes) part

abbrev length_in : Option PlainPart → Option ℕ
length_in part = option_map (λ p. length p.bytes) part

-- a value of the shape of a packet's part
record Alike (f : Field) (value : Option (List ℕ)) (old : Option PlainPart) : Type 0 where
  there : is_some value ≡ is_some old
  lengths : f ≢ Tag → option_map (λ bytes. length bytes) value ≡ length_in old

bytes_there : (o : Option PlainPart) → is_some (bytes_in o) ≡ is_some o
bytes_there None = refl
bytes_there (Some p) = refl

bytes_length : (o : Option PlainPart) → option_map (λ bytes. length bytes) (bytes_in o) ≡ length_in o
bytes_length None = refl
bytes_length (Some p) = refl

unwritten_there : (o : Option PlainPart) → is_some (option_map unwritten o) ≡ is_some o
unwritten_there None = refl
unwritten_there (Some p) = refl

unwritten_length : (o : Option PlainPart) → length_in (option_map unwritten o) ≡ length_in o
unwritten_length None = refl
unwritten_length (Some p) = refl

own_alike : (f : Field) (o : Option PlainPart) → Alike f (bytes_in o) o
own_alike f o = record { there = bytes_there o; lengths = λ apart. bytes_length o }

-- a branch that has a part got the packet's
dealt_there : (touch : Touch) (parts : Parts) (f : Field) → is_some (dealt_parts touch parts f) ≡ true → dealt_parts touch parts f ≡ option_map unwritten (parts f)
dealt_there touch parts f there = by_test (has_touch f touch) there
  where
    by_test : (b : Bool) → is_some (if b then option_map unwritten (parts f) else None) ≡ true → (if b then option_map unwritten (parts f) else None) ≡ option_map unwritten (parts f)
    by_test true e = refl
    by_test false e = absurd cc

there_written : (part : Option PlainPart) → 0 < writer_in part → is_some part ≡ true
there_written None w = absurd (omega arith)
there_written (Some p) w = refl

-- an arrival in which a field was written
written_alike : (whole : PlainApart) (touch : Touch) (a : Arrival) (f : Field) → IsFrom whole touch a → 0 < writer_of f a → Alike f (bytes_in (part_of f a)) (packet_parts whole f)
written_alike whole touch (cames.Version v) f m w =
    let dealt = dealt_there touch (packet_parts whole) f (sym (m.there f) ∙ there_written (version_parts v f) w) in
    record {
      there = bytes_there (version_parts v f) ∙ (m.there f ∙ (ap (λ (o : Option PlainPart). is_some o) dealt ∙ unwritten_there (packet_parts whole f)));
      lengths = λ apart. bytes_length (version_parts v f) ∙ (m.lengths f apart ∙ (ap length_in dealt ∙ unwritten_length (packet_parts whole f)));
    }
written_alike whole touch (cames.Nil p) f m w = absurd (omega arith)
written_alike whole touch cames.Short f m w = absurd (omega arith)

value_alike : (whole : PlainApart) (touches : List Touch) (base : PlainApart) (arrivals : List Arrival) (f : Field) → LastWrote → AreFrom whole touches base arrivals → (o : Option ℕ) → last_writer arrivals f ≡ o → Alike f (value_by whole arrivals f o) (packet_parts whole f)
value_alike whole touches base arrivals f law from None is = own_alike f (packet_parts whole f)
value_alike whole touches base arrivals f law from (Some branch) is =
    let wrote = law arrivals f branch is in
    let count = from.count in
    let inside = wrote.0 in
    written_alike whole (slice_index_or touches branch no_touch) (arrival_at arrivals branch) f (from.each branch (omega arith)) wrote.1

tags_of : (o : Option PlainPart) → IfSome (bytes_in o) (λ tags. is_tag_list tags ≡ true) → IfSome o (λ p. is_tag_list p.bytes ≡ true)
tags_of None h = tt
tags_of (Some p) h = h

-- the packet
shaped : (whole : PlainApart) (touches : List Touch) (base : PlainApart) (arrivals : List Arrival) (ops : List MergeOp) → ValuesBehind → LastWrote → AreFrom whole touches base arrivals → decision_of arrivals ≡ decisions.Take ops → AreWellFormed (values_in (merged_packet base arrivals)) →
    IsShapedAs (packet_parts whole) (packet_parts (merged_packet base arrivals))
shaped whole touches base arrivals ops values law from takes formed = record {
  there = λ f. sym (bytes_there (packet_parts (merged_packet base arrivals) f)) ∙ (ap (λ (v : Option (List ℕ)). is_some v) (values whole touches base arrivals ops f from takes) ∙ (alike f).there);
  lengths = λ f apart. sym (bytes_length (packet_parts (merged_packet base arrivals) f)) ∙ (ap (λ (v : Option (List ℕ)). option_map (λ bytes. length bytes) v) (values whole touches base arrivals ops f from takes) ∙ (alike f).lengths apart);
  tags = tags_of (packet_parts (merged_packet base arrivals) Tag) formed.tags;
}
  where
    alike : (f : Field) → Alike f (value_behind whole arrivals f) (packet_parts whole f)
    alike f = value_alike whole touches base arrivals f law from (last_writer arrivals f) refl

-- what is whole goes on
record Takes (base : PlainApart) (arrivals : List Arrival) (d : Decision) (after : PlainApart) : Type 0 where
  ops : List MergeOp
  takes : d ≡ decisions.Take ops
  same : merged_packet base arrivals ≡ after

takes_by : (base : PlainApart) (arrivals : List Arrival) (d : Decision) (after : PlainApart) → merged_by base arrivals d ≡ ends.Whole after → Takes base arrivals d after
takes_by base arrivals (decisions.Take ops) after e = record { ops = ops; takes = refl; same = cc }
takes_by base arrivals (decisions.Gone p) after e = absurd cc
takes_by base arrivals decisions.Short after e = absurd cc

whole_again : (whole : PlainApart) (touches : List Touch) (base : PlainApart) (arrivals : List Arrival) (after : PlainApart) → ValuesBehind → LastWrote → ShapeFits → AreFrom whole touches base arrivals → merged base arrivals ≡ ends.Whole after → AreWellFormed (values_in after) → IsWhole (packet_parts after) after.rest
whole_again whole touches base arrivals after values law shape from is formed =
    let t = takes_by base arrivals (decision_of arrivals) after is in
    let rest : whole.rest ≡ base.rest = sym (ap (λ (w : PlainApart). w.rest) from.behind) in
    subst (λ (w : PlainApart). IsWhole (packet_parts w) w.rest) t.same
    (subst (IsWhole (packet_parts (merged_packet base arrivals))) rest
    (shape (packet_parts whole) (packet_parts (merged_packet base arrivals)) whole.rest from.fits
    (shaped whole touches base arrivals t.ops values law from t.takes (subst (λ (w : PlainApart). AreWellFormed (values_in w)) (sym t.same) formed))))

-- and so is a merger's result for a packet
pub merged_fits : (chain : List Profile) (next : ℕ) (whole : PlainApart) (touches : List Touch) (row : List Arrival) → ValuesBehind → LastWrote → ShapeFits → AreFrom whole touches (based touches whole) row → LeavesStage chain next whole (merged (based touches whole) row) →
    Fits (merged (based touches whole) row)
merged_fits chain next whole touches row values law shape from leaves = by_end (merged (based touches whole) row) refl leaves
  where
    by_end : (m : Merged) → merged (based touches whole) row ≡ m → LeavesStage chain next whole m → Fits m
    by_end (ends.Whole after) is behind = whole_again whole touches (based touches whole) row after values law shape from is behind.goes.formed
    by_end (ends.Gone p) is behind = tt
    by_end ends.Short is behind = tt
