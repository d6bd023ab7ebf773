use Rattle.std.proofs.Common.{◌≡◌, ◌∙◌, Bool, take, sym, ap, arith}
use Rattle.std.specs.Prelude.{◌||◌}
use Rattle.std.specs.List.{list_any}
use Rattle.std.proofs.lemmas.List.Folds.{list_any_more}
use Rattle.packet_fields.specs.declared.field.Field.{Field}
use Rattle.action_profile.specs.FieldSets.{has}
use Rattle.merge_ops.specs.Merging.{writer_of}
use Rattle.merge_ops.specs.Taking.{writes_in}
use Rattle.merge_ops.specs.declared.arrival.Arrival.{Arrival}
use Rattle.merge_ops.proofs.Writable.{neither, unwritten_by, zero_next}
use Rattle.merge_ops.proofs.decision.writable_in.Goals as goal

pub loop-arrival-preserved : goal.loop-arrival-preserved
loop-arrival-preserved c =
    let xs = c.args.arrivals.now in
    let k = c.loop-arrival.arrival-index in
    let item = c.arrival-item.result in
    let joined : (f : Field) → has c.with-fields.result f ≡ (has c.loop-arrival.fields f || writes_in f item) = λ f. c.with-fields.ensures.fields f ∙ ap (λ (b : Bool). has c.loop-arrival.fields f || b) (c.writable.ensures f) in
    record {
      fields = λ f. joined f ∙ (ap (λ (b : Bool). b || writes_in f item) (c.loop-arrival.invariant.fields f) ∙ (ap (λ (a : Arrival). list_any (writes_in f) (take k xs) || writes_in f a) c.arrival-item.is ∙ sym (list_any_more (writes_in f) xs k item (omega arith))));
      unwritten = λ f e. (let none = neither (has c.loop-arrival.fields f) (writes_in f item) (sym (joined f) ∙ e) in zero_next xs f k item (omega arith) (c.loop-arrival.invariant.unwritten f none.0) (sym (ap (λ (a : Arrival). writer_of f a) c.arrival-item.is) ∙ unwritten_by f item (c.wrote_its_own.ensures f) none.1));
    }
