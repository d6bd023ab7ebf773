use Rattle.std.proofs.Common.{length, refl}
use Rattle.std.proofs.lemmas.Option.{slice_get_past, slice_get_read}
use Rattle.why_account.specs.Accounts.{AddsChain}
use Rattle.why_run.specs.Telling.{AddsChainAt}
use Rattle.why_run.proofs.Chains.{chain_added, chain_missing, on_ok}
use Rattle.why_run.proofs.summary.push_chain_at.Goals as goal

pub returns-in-Some : goal.returns-in-Some
returns-in-Some c =
    on_ok c.push_chain.result (AddsChain c.args.chain.now.declared c.in-Some.account.now c.args.text.now.items c.push_chain.new.text.items)
    (AddsChainAt c.args.chain.now c.args.accounts.now c.args.place c.args.text.now.items c.push_chain.new.text.items)
    (chain_added c.args.chain.now c.args.accounts.now c.args.place c.in-Some.account.now c.args.text.now.items c.push_chain.new.text.items
    (slice_get_read c.args.accounts.now (length c.args.accounts.now) c.args.place c.in-Some.account.now refl c.in-Some.ensures.lookup.3.0 c.in-Some.ensures.lookup.1))
    c.push_chain.ensures

pub returns-in-None : goal.returns-in-None
returns-in-None c = chain_missing c.args.chain.now c.args.accounts.now c.args.place c.args.text.now.items (slice_get_past c.args.accounts.now c.args.place c.in-None.ensures.lookup.3)
