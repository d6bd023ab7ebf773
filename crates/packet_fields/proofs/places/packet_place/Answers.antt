use Rattle.std.proofs.Common.{◌≡◌, ◌∙◌, arith, sym, true}
use Rattle.std.proofs.lemmas.List.{take_rest}
use Rattle.packet_fields.specs.Frames.{is_tpid, tags_len, word}
use Rattle.packet_fields.proofs.TagWalk.{at_tags_more, tags_len-other, tags_len-short, packet_at-long}
use Rattle.packet_fields.proofs.places.packet_place.Goals as goal
use Rattle.packet_fields.proofs.places.packet_place.Goals.{then-tags-test+else-is_tag, else-tags-test}

pub tags-preserved : goal.tags-preserved
tags-preserved c =
    let rest = c.tags.rest.now in
    let tag : is_tpid (word rest 0) ≡ true = rw c.word.ensures at (sym c.is_tag.ensures ∙ c.if-is_tag.true) in
    rw (take_rest rest 4) (at_tags_more c.args.frame.now rest c.tags.invariant c.tags-test.true tag)

pub returns-clause-place : goal.returns-clause-place
returns-clause-place c =
    let rest = c.tags.rest.now in
    let none : tags_len rest ≡ 0 = elim c.tags-test.branch [
      | then-tags-test+else-is_tag w ↦ tags_len-other rest (rw w.word.ensures at (sym w.is_tag.ensures ∙ w.if-is_tag.false))
      | else-tags-test w ↦ tags_len-short rest w.tags-test.false
    ] in
    omega (arith, packet_at-long c.args.frame.now c.if-frame-lt14.false, c.tags.invariant.same, none)
