use Rattle.std.proofs.Common.{◌≡◌, ◌∙◌, ℕ, List, get_or, ap, sym, arith}
use Rattle.packet_fields.specs.Fields.{number_of}
use Rattle.packet_fields.specs.declared.field.Field.TheVariants.{LinkDst}
use Rattle.packet_version.proofs.Maps.{listed_at}
use Rattle.packet_version.proofs.DealtByField.{number_at}
use Rattle.merge_ops.specs.Merging.{op_of}
use Rattle.merge_ops.specs.declared.decision.MergeOp.{MergeOp}
use Rattle.merge_ops.specs.declared.decision.MergeOp.TheVariants.{Keep}
use Rattle.merge_ops.proofs.Same.{written_op, put_next, same_on, same_first}
use Rattle.merge_ops.proofs.OnlyBranch.{untouched_packet}
use Rattle.merge_ops.proofs.Writable.{none_first}
use Rattle.merge_ops.proofs.merging.put_parts.Goals as goal

pub put_part-requires-clause-written : goal.put_part-requires-clause-written
put_part-requires-clause-written c =
    let f = get_or c.all_fields-field-items.result.now c.loop-field.field-index LinkDst in
    let at : number_of f ≡ c.loop-field.field-index = number_at c.all_fields-field-items.result.now c.loop-field.field-index c.loop-field.invariant.fields c.loop-field-test.true in
    let op : get_or c.args.ops.now c.number.result Keep ≡ op_of c.args.arrivals.now f =
    ap (λ (n : ℕ). get_or c.args.ops.now n Keep) c.number.ensures.number ∙ (ap (λ (ops : List MergeOp). get_or ops (number_of f) Keep) c.requires.ops ∙ listed_at (op_of c.args.arrivals.now) Keep f) in
    written_op f (get_or c.args.ops.now c.number.result Keep) c.args.arrivals.now c.loop-field.arrivals op (c.loop-field.invariant.left f (omega arith))

pub loop-field-preserved : goal.loop-field-preserved
loop-field-preserved c =
    let f = get_or c.all_fields-field-items.result.now c.loop-field.field-index LinkDst in
    let at : number_of f ≡ c.loop-field.field-index = number_at c.all_fields-field-items.result.now c.loop-field.field-index c.loop-field.invariant.fields c.loop-field-test.true in
    let op : get_or c.args.ops.now c.number.result Keep ≡ op_of c.args.arrivals.now f =
    ap (λ (n : ℕ). get_or c.args.ops.now n Keep) c.number.ensures.number ∙ (ap (λ (ops : List MergeOp). get_or ops (number_of f) Keep) c.requires.ops ∙ listed_at (op_of c.args.arrivals.now) Keep f) in
    record {
      fields = c.loop-field.invariant.fields;
      left = λ g below. same_on g c.args.arrivals.now c.loop-field.arrivals c.put_part.new.arrivals (c.loop-field.invariant.left g (omega arith)) (c.put_part.ensures.others g (λ e. (let same : number_of g ≡ number_of f = ap number_of e in omega arith)));
      done = put_next f c.loop-field.field-index (get_or c.args.ops.now c.number.result Keep) c.args.gathered.now c.loop-field.gathered c.put_part.new.gathered c.args.arrivals.now c.loop-field.arrivals at op (c.loop-field.invariant.left f (omega arith)) c.loop-field.invariant.done c.put_part.ensures.part;
      tags = λ t. c.put_part.ensures.tags (c.loop-field.invariant.tags t);
    }

pub put_part-requires-clause-unwritten : goal.put_part-requires-clause-unwritten
put_part-requires-clause-unwritten c = λ none.
    (let f = get_or c.all_fields-field-items.result.now c.loop-field.field-index LinkDst in
    let at : number_of f ≡ c.loop-field.field-index = number_at c.all_fields-field-items.result.now c.loop-field.field-index c.loop-field.invariant.fields c.loop-field-test.true in
    same_first f c.args.arrivals.now c.loop-field.arrivals (c.loop-field.invariant.left f (omega arith)) ∙ none_first c.args.arrivals.now f (sym (c.writable_in-writable.ensures.fields f) ∙ none))

pub returns-then-eq-clause-parts : goal.returns-then-eq-clause-parts
returns-then-eq-clause-parts c = untouched_packet c.args.gathered.now c.args.arrivals.now c.writable_in-writable.result c.requires.listed (sym c.eq.ensures ∙ c.if-eq.true) c.writable_in-writable.ensures.fields c.writable_in-writable.ensures.unwritten
