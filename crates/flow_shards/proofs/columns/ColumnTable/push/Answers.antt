use Rattle.std.proofs.Common.{◌≡◌, ◌∙◌, [], ◌∷◌, ◌++◌, length, false, sym, ap, subst, arith}
use Rattle.std.specs.Prelude.{if◌then◌else◌}
use Rattle.std.specs.List.{IsDistinct, zip}
use Rattle.std.specs.Map.{keys_of}
use Rattle.std.proofs.lemmas.List.{length-append}
use Rattle.first_sight.specs.FirstSight.{belonging, is_seen, noted}
use Rattle.flow_shards.proofs.TwoColumns.{distinct_last, not_seen, pushed}
use Rattle.flow_shards.proofs.columns.ColumnTable.push.Goals as goal

pub invariant_of-self-2 : goal.invariant_of-self-2
invariant_of-self-2 g c =
    let keys = keys_of c.self.inside.keys in
    let values = c.self.inside.values.items in
    let new : is_seen g.K.PartialEq.eq keys c.args.key ≡ false =
    not_seen g.K.PartialEq.eq keys values c.args.key c.self.invariant.as_many (ap (λ seen. belonging g.K.PartialEq.eq seen c.args.key) c.self.view_is ∙ c.requires) in
    let more : keys_of c.note.new.self ≡ keys ++ c.args.key ∷ [] = c.in_ok-note.ensures.keys ∙ ap (λ b. if b then keys else keys ++ c.args.key ∷ []) new in
    let items : c.push_reserved.new.self.items ≡ values ++ c.args.value ∷ [] = c.push_reserved.ensures.items ∙ ap (λ l. l ++ c.args.value ∷ []) c.in_ok-reserve.ensures.items in
    record {
      as_many = omega (arith, ap length items, ap length more, length-append keys (c.args.key ∷ []), length-append values (c.args.value ∷ []), c.self.invariant.as_many);
      distinct = subst (IsDistinct g.K.PartialEq.eq) (sym more) (distinct_last g.K.PartialEq.eq g.met.K.Eq.laws c.args.key keys new c.self.invariant.distinct);
    }

pub returns : goal.returns
returns g c =
    let keys = keys_of c.self.inside.keys in
    let values = c.self.inside.values.items in
    let new : is_seen g.K.PartialEq.eq keys c.args.key ≡ false =
    not_seen g.K.PartialEq.eq keys values c.args.key c.self.invariant.as_many (ap (λ seen. belonging g.K.PartialEq.eq seen c.args.key) c.self.view_is ∙ c.requires) in
    let more : keys_of c.note.new.self ≡ keys ++ c.args.key ∷ [] = c.in_ok-note.ensures.keys ∙ ap (λ b. if b then keys else keys ++ c.args.key ∷ []) new in
    let items : c.push_reserved.new.self.items ≡ values ++ c.args.value ∷ [] = c.push_reserved.ensures.items ∙ ap (λ l. l ++ c.args.value ∷ []) c.in_ok-reserve.ensures.items in
    record {
      pushed =
          (λ i. zip (more i) (items i))
          ∙ pushed g.K.PartialEq.eq keys values c.args.key c.args.value c.self.invariant.as_many new
          ∙ ap (λ seen. noted g.K.PartialEq.eq seen c.args.key c.args.value) c.self.view_is;
    }
