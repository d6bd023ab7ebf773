use Rattle.std.proofs.Common.{subst, sym}
use Rattle.nf_tunnel.specs.Tunnels.{decapsulated, encapsulated}
use Rattle.piece_walk.specs.Pieces.{Whole}
use Rattle.policy_chains.specs.NamedFunctions.{named_behaviour, named_decides}
use Rattle.policy_chains.specs.Parts.{part_of}
use Rattle.policy_chains.specs.Services.{compiled}
use Rattle.policy_chains.specs.declared.part.ChainPart.{ChainPart}
use Rattle.plain_chains.specs.Leading.{IsLed}
use Rattle.plain_chains.proofs.Parting.{end_leads, functions_lead}
use Rattle.plain_chains.proofs.part.lead_part.Goals as goal

pub returns-in_ok-functions-in-Functions : goal.returns-in_ok-functions-in-Functions
returns-in_ok-functions-in-Functions g c =
    let led = c.in_ok-functions-in-Functions in
    subst (λ (part : ChainPart). IsLed named_behaviour named_decides c.args.time c.args.position c.args.frame (part_of part) (compiled led.functions.items) led.fate c.args.trace.now c.lead_functions.new.trace)
    (sym c.in-Functions.is)
    (functions_lead c.args.time c.args.position c.args.frame c.in-Functions.functions.items led.functions.items led.fate c.args.trace.now c.lead_functions.new.trace led.ensures.functions led.ensures.fate led.ensures.acts)

pub returns-in_ok-fate-in-Encap : goal.returns-in_ok-fate-in-Encap
returns-in_ok-fate-in-Encap g c =
    let led = c.in_ok-fate-in-Encap in
    let rewritten = encapsulated c.in-Encap.tunnel in
    subst (λ (part : ChainPart). IsLed named_behaviour named_decides c.args.time c.args.position c.args.frame (part_of part) (Whole rewritten) led.fate c.args.trace.now c.lead_encap.new.trace) (sym c.in-Encap.is)
    (end_leads c.args.time c.args.position c.args.frame rewritten led.fate c.args.trace.now c.lead_encap.new.trace led.ensures.fate led.ensures.acts)

pub returns-in_ok-fate-in-Decap : goal.returns-in_ok-fate-in-Decap
returns-in_ok-fate-in-Decap g c =
    let led = c.in_ok-fate-in-Decap in
    let rewritten = decapsulated c.in-Decap.tunnel in
    subst (λ (part : ChainPart). IsLed named_behaviour named_decides c.args.time c.args.position c.args.frame (part_of part) (Whole rewritten) led.fate c.args.trace.now c.lead_decap.new.trace) (sym c.in-Decap.is)
    (end_leads c.args.time c.args.position c.args.frame rewritten led.fate c.args.trace.now c.lead_decap.new.trace led.ensures.fate led.ensures.acts)
