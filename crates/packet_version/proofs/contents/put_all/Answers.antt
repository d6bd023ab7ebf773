use Rattle.std.proofs.Common.{◌∙◌, arith, ap}
use Rattle.packet_version.specs.Places.{beside, parts_beside}
use Rattle.packet_version.specs.declared.place.Place.{Place}
use Rattle.packet_version.proofs.Keeping.{place_read, not_beside}
use Rattle.packet_version.proofs.Joining.{turns_begin, turn_some, turn_fits, turn_stays, turns_over}
use Rattle.packet_version.proofs.contents.put_all.Goals as goal
use Rattle.packet_version.proofs.contents.put_all.Goals.{in-Outside+in_ok-put, in_default}

pub put-requires : goal.put-requires
put-requires c =
    let is = ap (λ (p : Place). beside p) (place_read c.args.places.now c.number.result _ c.index-places-number.result c.index-places-number.is c.number.ensures.number c.number.ensures.below c.requires.ten ∙ c.in-Outside.is) in
    turn_fits (parts_beside c.args.places.now) c.all_fields-fields.result.now c.loop-field.field-index c.loop-field.rest _ c.bytes.result.now c.in-Outside.part c.loop-field-test.true is c.bytes.ensures c.loop-field.invariant.1

pub loop-field-init : goal.loop-field-init
loop-field-init c = (c.all_fields-fields.ensures, turns_begin (parts_beside c.args.places.now) c.all_fields-fields.result.now c.args.rest.now c.all_fields-fields.ensures c.requires.fit)

pub returns : goal.returns
returns c = turns_over (parts_beside c.args.places.now) c.all_fields-fields.result.now c.loop-field.field-index c.loop-field.rest _ (omega arith) c.loop-field.invariant.1

pub loop-field-preserved : goal.loop-field-preserved
loop-field-preserved c =
    let read = place_read c.args.places.now c.number.result _ c.index-places-number.result c.index-places-number.is c.number.ensures.number c.number.ensures.below c.requires.ten in (
      c.loop-field.invariant.0,
      elim c.match-places-number.branch [
        | in-Outside+in_ok-put w ↦ turn_some (parts_beside c.args.places.now) c.all_fields-fields.result.now c.loop-field.field-index c.loop-field.rest c.match-places-number.rest _ w.bytes.result.now w.in-Outside.part c.loop-field-test.true (ap (λ (p : Place). beside p) (read ∙ w.in-Outside.is)) w.bytes.ensures (w.rest-is ∙ w.in_ok-put.ensures) c.loop-field.invariant.1
        | in_default w ↦ turn_stays (parts_beside c.args.places.now) c.all_fields-fields.result.now c.loop-field.field-index c.loop-field.rest c.match-places-number.rest _ c.loop-field-test.true (ap (λ (p : Place). beside p) read ∙ not_beside c.index-places-number.result w.in_default.not-Outside) w.rest-is c.loop-field.invariant.1
      ],
    )
