use Rattle.std.proofs.Common.{◌≡◌, ◌∙◌, List, sym, ap, subst, refl}
use Rattle.packet_fields.specs.Writing.{rest_of, written}
use Rattle.packet_version.specs.Parts.{PlainHeld, Parts, as_map, values_of}
use Rattle.packet_version.specs.Places.{parts_in, parts_beside, opened}
use Rattle.packet_version.specs.Splitting.{IsWhole}
use Rattle.packet_version.specs.declared.place.Place.{Place}
use Rattle.packet_version.proofs.Joining.{joined_beside}
use Rattle.packet_version.proofs.Keeping.{opened_held}
use Rattle.packet_version.proofs.Maps.{as_map-listed}
use Rattle.packet_version.proofs.contents.Contents.put_places_back.Goals as goal

pub returns : goal.returns
returns c =
    let taggers = c.self.inside.taggers in
    let frame = c.self.inside.rest in
    let writers = c.self.inside.writers in
    let places = opened c.self.inside.places in
    let same = opened_held taggers frame writers c.self.inside.places places c.args.self.now refl c.self.view_is in
    let w = subst (λ (h : PlainHeld). IsWhole (as_map h.parts) h.frame) (sym same) c.requires in
    let whole = subst (λ (m : Parts). IsWhole m frame) (as_map-listed (parts_in taggers frame writers places)) w in
    let due = written (values_of (as_map c.args.self.now.parts)) (rest_of c.args.self.now.frame) in
    let is : written (values_of (parts_beside c.all.result.now)) frame ≡ due =
    ap (λ (ps : List Place). written (values_of (parts_beside ps)) frame) c.all.ensures
    ∙ (joined_beside taggers frame writers places whole
    ∙ (ap (λ (m : Parts). written (values_of m) (rest_of frame)) (sym (as_map-listed (parts_in taggers frame writers places)))
    ∙ ap (λ (h : PlainHeld). written (values_of (as_map h.parts)) (rest_of h.frame)) same)) in
    c.in_ok-put_all.ensures ∙ is
