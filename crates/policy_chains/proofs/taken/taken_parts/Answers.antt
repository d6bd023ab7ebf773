use Rattle.std.proofs.Common.{◌∙◌, ap, length, map, sym, take}
use Rattle.std.specs.Prelude.{slice_index_or}
use Rattle.std.proofs.lemmas.List.{length-map}
use Rattle.policy_judge.specs.Making.{place_of}
use Rattle.policy_chains.specs.Taking.{without}
use Rattle.policy_chains.proofs.CutSoFar.{cutting_goes_on}
use Rattle.policy_chains.proofs.Taking.{as_many_left, still_there, taken_back}
use Rattle.policy_chains.proofs.taken.taken_parts.Goals as goal

pub with_place-requires-clause-untaken : goal.with_place-requires-clause-untaken
with_place-requires-clause-untaken c =
    still_there (length c.args.declared.now) c.args.places.now c.places.place-index 0 (map place_of c.args.declared.now) c.deref_mut.result.now c.requires.each_once c.places-test.true (cc)

pub with_place-requires-clause-as_long : goal.with_place-requires-clause-as_long
with_place-requires-clause-as_long c =
    ap length (c.deref_mut.ensures.value ∙ c.places.invariant.left) ∙ as_many_left (map place_of c.args.declared.now) (take c.places.place-index c.args.places.now) ∙ length-map c.args.declared.now place_of

pub places-preserved : goal.places-preserved
places-preserved c = record {
  cut = cutting_goes_on c.args.declared.now c.args.places.now c.places.cutting c.in_ok-cutting.cutting c.places.place-index 0 c.places.invariant.cut c.places-test.true c.in_ok-cutting.ensures.goes_on;
  left =
      taken_back c.places.made.len c.places.made.items c.with_place.new.made (map place_of c.args.declared.now) c.args.places.now c.places.place-index 0 (sym c.places.made.ok.0)
      (c.in_ok-cutting.ensures.taken ∙ ap (λ l. without l (slice_index_or c.args.places.now c.places.place-index 0)) c.deref_mut.ensures.value) c.places.invariant.left c.places-test.true;
}
