-- The merge after a stage is as the law of graphs says, and the packet may go on.
use Rattle.std.proofs.Common.{◌≡◌, ◌∙◌, ◌<◌, ◌≤◌, ◌+◌, ◌*◌, ℕ, zero, suc, Bool, true, false, List, [], ◌∷◌, map, length, sym, ap, refl, subst, arith}
use mathlib.Core.Path.{fun_ext}
use Rattle.std.specs.Prelude.{if◌then◌else◌, nat_lt, Option, Some, None, option_map, IfSome, slice_index_or}
use Rattle.std.specs.Option.{option_or}
use Rattle.std.specs.List.{list_any}
use Rattle.packet_fields.specs.Frames.{is_tag_list}
use Rattle.packet_fields.specs.Fields.{IsLengthOf}
use Rattle.packet_fields.specs.declared.field.Field.{Field}
use Rattle.packet_fields.specs.declared.field.Field.TheVariants.{Tag}
use Rattle.action_profile.specs.Modes.{mode_of}
use Rattle.action_profile.specs.declared.parts.Touch.{Touch}
use Rattle.action_profile.specs.declared.rights.Profile.{Profile}
use Rattle.chain_walk.specs.Shown.{Values, AreWellFormed}
use Rattle.chain_walk.specs.FieldWalk.{End.Out}
use Rattle.graph_law.specs.Branches.{Version}
use Rattle.graph_law.specs.Merging.{lesser as lesser_by, least_nil as least_by, later, latest, unwritten, gone_or, merged as merged_by_law}
use Rattle.packet_version.specs.Parts.{PlainPart, Parts, values_of, unwritten as cleared}
use Rattle.packet_version.specs.Splitting.{PlainApart, packet_parts}
use Rattle.packet_version.specs.Dealing.{is_given, kept_parts, based}
use Rattle.merge_ops.specs.Behind.{no_touch, IsFrom, AreFrom, value_behind}
use Rattle.merge_ops.specs.Merging.{is_short, part_of, lesser, least_nil, last_writer, decided_by, decision_of}
use Rattle.merge_ops.specs.Taking.{arrival_at, source, part_from, merged_parts, merged_packet, merged_by, merged}
use Rattle.merge_ops.specs.declared.arrival.Arrival.{Arrival}
use Rattle.merge_ops.specs.declared.arrival.Arrival.TheVariants as cames
use Rattle.merge_ops.specs.declared.decision.Decision.TheVariants as decisions
use Rattle.merge_ops.specs.declared.decision.MergeOp.{MergeOp}
use Rattle.graph_run.specs.Carrying.{as_version, as_branch_end, values_in, as_end}
use Rattle.graph_run.specs.Rooms.{adders_from, HasRoomFrom}
use Rattle.graph_run.specs.Stages.{AllCarried, GoesFrom, LeavesStage}
use Rattle.graph_run.proofs.Listed.{map_of_list}
use Rattle.graph_run.proofs.RoomForTags.{room_later}
use Rattle.graph_run.proofs.Latest.{AreVersions, Unwritten, values_behind}

-- the laws of merging on which a run rests
abbrev pub LastValues : Type 0
LastValues = (whole : PlainApart) (touches : List Touch) (base : PlainApart) (arrivals : List Arrival) (ops : List MergeOp) (f : Field) → AreFrom whole touches base arrivals → decision_of arrivals ≡ decisions.Take ops → values_of (packet_parts (merged_packet base arrivals)) f ≡ value_behind whole arrivals f

no_short : (chain : List Profile) (whole : PlainApart) (high : ℕ) (touches : List Touch) (arrivals : List Arrival) → AllCarried chain whole high touches arrivals → list_any is_short arrivals ≡ false
unfolding AllCarried
no_short chain whole high [] [] all = refl
no_short chain whole high (t ∷ touches) (cames.Version v ∷ arrivals) all = no_short chain whole high touches arrivals all.1
no_short chain whole high (t ∷ touches) (cames.Nil p ∷ arrivals) all = no_short chain whole high touches arrivals all.1
no_short chain whole high (t ∷ touches) (cames.Short ∷ arrivals) all = absurd all.0
no_short chain whole high [] (a ∷ arrivals) all = absurd all
no_short chain whole high (t ∷ touches) [] all = absurd all

lesser_same : (p : ℕ) (o : Option ℕ) → lesser (Some p) o ≡ lesser_by p o
lesser_same p None = refl
lesser_same p (Some q) = refl

-- the least drop by both definitions
least_same : (chain : List Profile) (whole : PlainApart) (high : ℕ) (touches : List Touch) (arrivals : List Arrival) → AllCarried chain whole high touches arrivals → least_nil arrivals ≡ least_by (map as_branch_end arrivals)
unfolding AllCarried least_by
least_same chain whole high [] [] all = refl
least_same chain whole high (t ∷ touches) (cames.Version v ∷ arrivals) all = least_same chain whole high touches arrivals all.1
least_same chain whole high (t ∷ touches) (cames.Nil p ∷ arrivals) all = ap (lesser (Some p)) (least_same chain whole high touches arrivals all.1) ∙ lesser_same p (least_by (map as_branch_end arrivals))
least_same chain whole high (t ∷ touches) (cames.Short ∷ arrivals) all = absurd all.0
least_same chain whole high [] (a ∷ arrivals) all = absurd all
least_same chain whole high (t ∷ touches) [] all = absurd all

lesser_some : (p : ℕ) (o : Option ℕ) → lesser (Some p) o ≡ None → ⊥
lesser_some p None e = absurd cc
lesser_some p (Some q) e = absurd cc

all_versions : (chain : List Profile) (whole : PlainApart) (high : ℕ) (touches : List Touch) (arrivals : List Arrival) → AllCarried chain whole high touches arrivals → least_nil arrivals ≡ None → AreVersions arrivals
unfolding AllCarried AreVersions
all_versions chain whole high [] [] all none = tt
all_versions chain whole high (t ∷ touches) (cames.Version v ∷ arrivals) all none = all_versions chain whole high touches arrivals all.1 none
all_versions chain whole high (t ∷ touches) (cames.Nil p ∷ arrivals) all none = absurd (lesser_some p (least_nil arrivals) none)
all_versions chain whole high (t ∷ touches) (cames.Short ∷ arrivals) all none = absurd all.0
all_versions chain whole high [] (a ∷ arrivals) all none = absurd all
all_versions chain whole high (t ∷ touches) [] all none = absurd all

-- by place
pub each_from : (chain : List Profile) (whole : PlainApart) (high : ℕ) (touches : List Touch) (arrivals : List Arrival) → AllCarried chain whole high touches arrivals → (b : ℕ) → b < length touches → IsFrom whole (slice_index_or touches b no_touch) (arrival_at arrivals b)
unfolding AllCarried
each_from chain whole high [] [] all b less = absurd (omega arith)
each_from chain whole high (t ∷ touches) (cames.Version v ∷ arrivals) all zero less = all.0.made
each_from chain whole high (t ∷ touches) (cames.Nil p ∷ arrivals) all zero less = tt
each_from chain whole high (t ∷ touches) (cames.Short ∷ arrivals) all zero less = tt
each_from chain whole high (t ∷ touches) (a ∷ arrivals) all (suc b) less = each_from chain whole high touches arrivals all.1 b (omega arith)
each_from chain whole high [] (a ∷ arrivals) all b less = absurd all
each_from chain whole high (t ∷ touches) [] all b less = absurd all

pub same_count : (chain : List Profile) (whole : PlainApart) (high : ℕ) (touches : List Touch) (arrivals : List Arrival) → AllCarried chain whole high touches arrivals → length arrivals ≡ length touches
unfolding AllCarried
same_count chain whole high [] [] all = refl
same_count chain whole high (t ∷ touches) (a ∷ arrivals) all = ap suc (same_count chain whole high touches arrivals all.1)
same_count chain whole high [] (a ∷ arrivals) all = absurd all
same_count chain whole high (t ∷ touches) [] all = absurd all

abbrev Rooms : List Profile → ℕ → Option PlainPart → Type 0
Rooms chain high part = IfSome part (λ p. length p.bytes + 4 * adders_from chain high ≤ p.room)

room_at : (chain : List Profile) (whole : PlainApart) (high : ℕ) (touches : List Touch) (arrivals : List Arrival) → AllCarried chain whole high touches arrivals → (b : ℕ) → Rooms chain high (part_of Tag (arrival_at arrivals b))
unfolding AllCarried
room_at chain whole high [] [] all b = tt
room_at chain whole high (t ∷ touches) (cames.Version v ∷ arrivals) all zero = all.0.room
room_at chain whole high (t ∷ touches) (cames.Nil p ∷ arrivals) all zero = tt
room_at chain whole high (t ∷ touches) (cames.Short ∷ arrivals) all zero = tt
room_at chain whole high (t ∷ touches) (a ∷ arrivals) all (suc b) = room_at chain whole high touches arrivals all.1 b
room_at chain whole high [] (a ∷ arrivals) all b = absurd all
room_at chain whole high (t ∷ touches) [] all b = absurd all

room_from : (chain : List Profile) (whole : PlainApart) (high : ℕ) (touches : List Touch) (arrivals : List Arrival) → AllCarried chain whole high touches arrivals → (o : Option ℕ) → Rooms chain high (part_from Tag arrivals o)
room_from chain whole high touches arrivals all None = tt
room_from chain whole high touches arrivals all (Some b) = room_at chain whole high touches arrivals all b

room_either : (chain : List Profile) (high : ℕ) (x own : Option PlainPart) → Rooms chain high x → Rooms chain high own → Rooms chain high (option_or x own)
room_either chain high None own h k = k
room_either chain high (Some p) own h k = h

room_kept : (chain : List Profile) (high : ℕ) (given : Bool) (part : Option PlainPart) → Rooms chain high part → Rooms chain high (if given then None else option_map cleared part)
room_kept chain high true part h = tt
room_kept chain high false None h = tt
room_kept chain high false (Some p) h = h

room_behind : (chain : List Profile) (whole base : PlainApart) (high : ℕ) (touches : List Touch) (arrivals : List Arrival) → AllCarried chain whole high touches arrivals → base ≡ based touches whole → HasRoomFrom chain high (packet_parts whole) →
    HasRoomFrom chain high (packet_parts (merged_packet base arrivals))
unfolding merged_parts
room_behind chain whole base high touches arrivals all is room =
    let own : Rooms chain high (packet_parts base Tag) =
    subst (Rooms chain high) (sym (ap (λ (w : PlainApart). packet_parts w Tag) is ∙ ap (λ (m : Parts). m Tag) (map_of_list (kept_parts touches (packet_parts whole))))) (room_kept chain high (is_given (mode_of touches Tag)) (packet_parts whole Tag) room) in
    subst (Rooms chain high) (sym (ap (λ (m : Parts). m Tag) (map_of_list (merged_parts base arrivals))))
    (room_either chain high (part_from Tag arrivals (source Tag arrivals (last_writer arrivals Tag) (packet_parts base Tag))) (packet_parts base Tag)
    (room_from chain whole high touches arrivals all (source Tag arrivals (last_writer arrivals Tag) (packet_parts base Tag))) own)

either_formed : (P : Option (List ℕ) → Type 0) (t : Bool) (x y : Option (List ℕ)) → P x → P y → P (if t then x else y)
either_formed P true x y h k = h
either_formed P false x y h k = k

-- what was written last is well formed
latest_formed : (chain : List Profile) (whole : PlainApart) (high : ℕ) (touches : List Touch) (arrivals : List Arrival) (best : Version) → AllCarried chain whole high touches arrivals → AreWellFormed best.values → AreWellFormed (latest best (map as_branch_end arrivals)).values
unfolding AllCarried latest
latest_formed chain whole high [] [] best all formed = formed
latest_formed chain whole high (t ∷ touches) (cames.Version v ∷ arrivals) best all formed = latest_formed chain whole high touches arrivals (later best (as_version v)) all.1 (record {
  lengths = λ f. either_formed (λ o. IfSome o (λ bytes. IsLengthOf f (length bytes))) (nat_lt (best.writers f) ((as_version v).writers f)) ((as_version v).values f) (best.values f) (all.0.formed.lengths f) (formed.lengths f);
  tags = either_formed (λ o. IfSome o (λ tags. is_tag_list tags ≡ true)) (nat_lt (best.writers Tag) ((as_version v).writers Tag)) ((as_version v).values Tag) (best.values Tag) all.0.formed.tags formed.tags;
})
latest_formed chain whole high (t ∷ touches) (cames.Nil p ∷ arrivals) best all formed = latest_formed chain whole high touches arrivals best all.1 formed
latest_formed chain whole high (t ∷ touches) (cames.Short ∷ arrivals) best all formed = absurd all.0
latest_formed chain whole high [] (a ∷ arrivals) best all formed = absurd all
latest_formed chain whole high (t ∷ touches) [] best all formed = absurd all

-- the merge ends as the law says, and a packet that goes on may go on
pub record Behind (chain : List Profile) (whole base : PlainApart) (high : ℕ) (arrivals : List Arrival) : Type 0 where
  pub end : as_end (merged base arrivals) ≡ merged_by_law (values_in whole) (map as_branch_end arrivals)
  pub leaves : LeavesStage chain high whole (merged base arrivals)

pub behind : (chain : List Profile) (whole base : PlainApart) (low high : ℕ) (touches : List Touch) (arrivals : List Arrival) → Unwritten → LastValues →
    AllCarried chain whole high touches arrivals → AreFrom whole touches base arrivals → GoesFrom chain low whole → low ≤ high → Behind chain whole base high arrivals
unfolding decision_of merged_by_law gone_or
behind chain whole base low high touches arrivals unwritten_law values_law all from goes le = by_least (least_nil arrivals) refl
  where
    decided : decision_of arrivals ≡ decided_by arrivals (least_nil arrivals)
    decided = ap (λ (t : Bool). if t then decisions.Short else decided_by arrivals (least_nil arrivals)) (no_short chain whole high touches arrivals all)

    last : Values
    last = (latest (unwritten (values_in whole)) (map as_branch_end arrivals)).values

    by_law : (o : Option ℕ) → least_nil arrivals ≡ o → merged_by_law (values_in whole) (map as_branch_end arrivals) ≡ gone_or o last
    by_law o is = ap (λ o. gone_or o last) (sym (least_same chain whole high touches arrivals all) ∙ is)

    by_least : (o : Option ℕ) → least_nil arrivals ≡ o → Behind chain whole base high arrivals
    by_least (Some p) is =
        let gone : decision_of arrivals ≡ decisions.Gone p = decided ∙ ap (decided_by arrivals) is in
        record {
          end = ap (λ d. as_end (merged_by base arrivals d)) gone ∙ sym (by_law (Some p) is);
          leaves = subst (λ d. LeavesStage chain high whole (merged_by base arrivals d)) (sym gone) tt;
        }
    by_least None is =
        let takes = decided ∙ ap (decided_by arrivals) is in
        let values : values_in (merged_packet base arrivals) ≡ last =
        fun_ext (λ f. values_law whole touches base arrivals _ f from takes ∙ values_behind whole arrivals unwritten_law (all_versions chain whole high touches arrivals all is) f) in
        record {
          end = ap (λ d. as_end (merged_by base arrivals d)) takes ∙ (ap (λ v. Out v) values ∙ sym (by_law None is));
          leaves = subst (λ d. LeavesStage chain high whole (merged_by base arrivals d)) (sym takes) (record {
            rest = ap (λ w. w.rest) from.behind;
            fixed = ap (λ w. w.fixed) from.behind;
            goes = record {
              formed = subst AreWellFormed (sym values) (latest_formed chain whole high touches arrivals (unwritten (values_in whole)) all goes.formed);
              room = room_behind chain whole base high touches arrivals all from.behind (room_later chain low high (packet_parts whole) le goes.room);
            };
          });
        }
