use Rattle.std.proofs.Common.{length, refl}
use Rattle.std.proofs.lemmas.Option.{slice_get_read}
use Rattle.why_run.proofs.Chains.{chains_more}
use Rattle.why_run.proofs.summary.push_chains.Goals as goal

pub chains-preserved : goal.chains-preserved
chains-preserved c = λ ways are.
    chains_more ways c.args.chains.now c.chains.place c.index-chains-place.result c.args.text.now.items c.chains.text.items c.push_chain_at.new.text.items c.chains-test.true c.index-chains-place.is
    (c.chains.invariant ways are)
    (c.in_ok-push_chain_at.ensures c.args.chains.now ways are (slice_get_read c.args.chains.now (length c.args.chains.now) c.chains.place c.index-chains-place.result refl c.chains-test.true c.index-chains-place.is))
