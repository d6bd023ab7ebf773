use Rattle.std.proofs.Common.{◌∙◌, List, ℕ, length, get_or, ap, refl}
use Rattle.packet_version.specs.declared.place.Place.{Place}
use Rattle.packet_version.proofs.Keeping.{opened_held}
use Rattle.packet_version.proofs.Bringing.{IsBrought, lent_are, held_left}
use Rattle.packet_version.proofs.contents.Contents.edit.Goals as goal

pub returns : goal.returns
returns c =
    let taggers = c.self.inside.taggers in
    let frame = c.self.inside.rest in
    let writers = c.self.inside.writers in
    let n = c.number-number.result in
    let b : IsBrought taggers frame writers c.open.new.self n (get_or writers n 0) c.args.field c.at_mut.result.now c.bring_out.new.place c.at_mut-place.result.now c.args.self.now = record {
      other = c.requires.not_tag;
      number = c.number-number.ensures.number;
      below = c.number-number.ensures.below;
      ten = ap (λ (ps : List Place). length ps) c.open.ensures ∙ c.self.invariant.ten;
      writer = ap (λ (k : ℕ). get_or writers k 0) c.number-number.ensures.number;
      read = c.at_mut.ensures.value;
      out_is = c.bring_out.ensures;
      again_is = c.at_mut-place.ensures.value;
      old_is = opened_held taggers frame writers c.self.inside.places c.open.new.self c.args.self.now c.open.ensures c.self.view_is;
      present = c.requires.present;
    } in (
      (refl, λ w. held_left w c.args.writer b),
      record { writes_back = tt; bytes = lent_are c.edit.result.now b c.edit.ensures.bytes },
    )
