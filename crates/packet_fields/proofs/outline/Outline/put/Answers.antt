use Rattle.std.proofs.Common.{◌∙◌, List, ℕ, sym, ap}
use Rattle.packet_fields.specs.Writing.{rest_of}
use Rattle.packet_fields.specs.Outlines.{outline_of}
use Rattle.packet_fields.proofs.Puts.{is_put, put_is}
use Rattle.packet_fields.proofs.Rest.{rest_of-put}
use Rattle.packet_fields.proofs.Outlines.{outline_of-put}
use Rattle.packet_fields.proofs.outline.Outline.put.Goals as goal

pub returns-in-Some-clause-written : goal.returns-in-Some-clause-written
returns-in-Some-clause-written c =
    (is_put c.args.field c.args.value.now c.args.frame.now c.overwrite.new.bytes c.in-Some.span c.requires.not_tag c.requires.fits (sym c.place.ensures.place ∙ c.in-Some.is) c.overwrite.ensures).written

pub returns-in-Some-clause-others : goal.returns-in-Some-clause-others
returns-in-Some-clause-others c =
    (is_put c.args.field c.args.value.now c.args.frame.now c.overwrite.new.bytes c.in-Some.span c.requires.not_tag c.requires.fits (sym c.place.ensures.place ∙ c.in-Some.is) c.overwrite.ensures).others

pub returns-in-Some-clause-outline : goal.returns-in-Some-clause-outline
returns-in-Some-clause-outline c =
    ap (λ (xs : List ℕ). outline_of xs) (c.overwrite.ensures ∙ sym (put_is c.args.field c.args.value.now c.args.frame.now c.in-Some.span c.requires.not_tag (sym c.place.ensures.place ∙ c.in-Some.is))) ∙ outline_of-put c.args.field c.args.value.now c.args.frame.now c.requires.not_tag c.requires.fits

pub returns-in-Some-clause-rest : goal.returns-in-Some-clause-rest
returns-in-Some-clause-rest c =
    ap (λ (xs : List ℕ). rest_of xs) (c.overwrite.ensures ∙ sym (put_is c.args.field c.args.value.now c.args.frame.now c.in-Some.span c.requires.not_tag (sym c.place.ensures.place ∙ c.in-Some.is))) ∙ rest_of-put c.args.field c.args.value.now c.args.frame.now c.requires.fits
