use Rattle.std.proofs.Common.{length, refl}
use Rattle.std.proofs.lemmas.Option.{slice_get_past, slice_get_read}
use Rattle.why_account.specs.Accounts.{AddsDrop}
use Rattle.why_run.specs.Telling.{AddsLine}
use Rattle.why_run.proofs.Chains.{on_ok}
use Rattle.why_run.proofs.Told.{line_added, line_unkept}
use Rattle.why_run.proofs.telling.push_line.Goals as goal

pub returns-in-Some-get-2 : goal.returns-in-Some-get-2
returns-in-Some-get-2 c =
    on_ok c.push_drop.result (AddsDrop c.args.number c.in-Some-get.chain.now.declared.name c.in-Some-get-2.account.now c.args.acts.now c.args.led.now.fate c.args.text.now.items c.push_drop.new.text.items)
    (AddsLine c.args.chains.now c.args.accounts.now c.args.number c.args.led.now c.args.acts.now c.args.text.now.items c.push_drop.new.text.items)
    (line_added c.args.chains.now c.args.accounts.now c.args.number c.in-Some.class c.in-Some-get.chain.now c.in-Some-get-2.account.now c.args.led.now c.args.acts.now c.args.text.now.items c.push_drop.new.text.items c.in-Some.is
    (slice_get_read c.args.chains.now (length c.args.chains.now) c.in-Some.class c.in-Some-get.chain.now refl c.in-Some-get.ensures.lookup.3.0 c.in-Some-get.ensures.lookup.1)
    (slice_get_read c.args.accounts.now (length c.args.accounts.now) c.in-Some.class c.in-Some-get-2.account.now refl c.in-Some-get-2.ensures.lookup.3.0 c.in-Some-get-2.ensures.lookup.1))
    c.push_drop.ensures

pub returns-in-None : goal.returns-in-None
returns-in-None c = line_unkept c.args.chains.now c.args.accounts.now c.args.number c.in-Some.class c.args.led.now c.args.acts.now c.args.text.now.items c.in-Some.is (slice_get_past c.args.accounts.now c.in-Some.class c.in-None.ensures.lookup.3)
