use Rattle.std.proofs.Common.{◌∙◌, ap, subst, sym}
use Rattle.std.specs.Prelude.{IfSome}
use Rattle.nfp_outside.specs.declared.slot.Slot.TheVariants.{Capture, Graph, Out, Policy, Report}
use Rattle.command_words.specs.Named.{names_seen}
use Rattle.capture_run.specs.ChainServiceProofs.{chains_of}
use Rattle.nfp_run.specs.Reading.{opened_led}
use Rattle.nfp_run.specs.Answers.{RunAttaches}
use Rattle.call_ending.specs.Endings.{outcome_seen}
use Rattle.nfp_run.proofs.Attaching.{refused_attaches, run_attaches}
use Rattle.nfp_run.proofs.EndedRuns.{IsLed, opens_so, run_ends, run_prefixes, run_write_faults}
use Rattle.nfp_run.proofs.ReadToEnd.{ended_drained, refused_early, texts_early, texts_to}
use Rattle.nfp_run.proofs.OtherSlots.{capture_is_not_graph, capture_is_not_policy, graph_is_not_capture, graph_is_not_out, graph_is_not_report, policy_is_not_capture, policy_is_not_out, policy_is_not_report, out_is_not_graph, out_is_not_policy, report_is_not_graph, report_is_not_policy, out_is_not_capture, report_is_not_capture}
use Rattle.nfp_run.proofs.run.run.Goals as goal

pub returns-clause-prefixes : goal.returns-clause-prefixes
returns-clause-prefixes g c = run_prefixes (names_seen c.args.names.now) c.args.options (chains_of c.in-Ok.service.chains) _ c.attach_and_run.result
    (g.D.Desk.slots c.args.desk.now) (g.D.Desk.slots c.open_capture.new.desk) (g.D.Desk.slots c.attach_and_run.new.desk)
    (record {
      serves = c.in-Ok.ensures.serves;
      told = subst (λ v. IfSome v.bytes (IsLed (chains_of c.in-Ok.service.chains) (opened_led (chains_of c.in-Ok.service.chains) c.in-Ok-open_capture.opened (g.D.Desk.slots c.open_capture.new.desk Capture)))) (c.read_service.ensures.others Capture capture_is_not_policy capture_is_not_graph)
          (opens_so (chains_of c.in-Ok.service.chains) _ c.in-Ok-open_capture.opened _ _ c.in-Ok-open_capture.ensures.ok);
      same_out = c.open_capture.ensures.others Out out_is_not_capture ∙ c.read_service.ensures.others Out out_is_not_policy out_is_not_graph;
      same_report = c.open_capture.ensures.others Report report_is_not_capture ∙ c.read_service.ensures.others Report report_is_not_policy report_is_not_graph;
    })
    c.attach_and_run.ensures.left

pub returns-clause-write_faults : goal.returns-clause-write_faults
returns-clause-write_faults g c = run_write_faults (names_seen c.args.names.now) c.args.options (chains_of c.in-Ok.service.chains) _
    (g.D.Desk.slots c.args.desk.now) (g.D.Desk.slots c.open_capture.new.desk) (g.D.Desk.slots c.attach_and_run.new.desk) c.attach_and_run.result c.ending_of.result
    (record {
      serves = c.in-Ok.ensures.serves;
      told = subst (λ v. IfSome v.bytes (IsLed (chains_of c.in-Ok.service.chains) (opened_led (chains_of c.in-Ok.service.chains) c.in-Ok-open_capture.opened (g.D.Desk.slots c.open_capture.new.desk Capture)))) (c.read_service.ensures.others Capture capture_is_not_policy capture_is_not_graph)
          (opens_so (chains_of c.in-Ok.service.chains) _ c.in-Ok-open_capture.opened _ _ c.in-Ok-open_capture.ensures.ok);
      same_out = c.open_capture.ensures.others Out out_is_not_capture ∙ c.read_service.ensures.others Out out_is_not_policy out_is_not_graph;
      same_report = c.open_capture.ensures.others Report report_is_not_capture ∙ c.read_service.ensures.others Report report_is_not_policy report_is_not_graph;
    })
    c.attach_and_run.ensures.cause c.ending_of.ensures

pub returns-clause-due : goal.returns-clause-due
returns-clause-due g c = run_ends (names_seen c.args.names.now) c.args.options (chains_of c.in-Ok.service.chains) _ c.attach_and_run.result c.ending_of.result
    (g.D.Desk.slots c.args.desk.now) (g.D.Desk.slots c.open_capture.new.desk) (g.D.Desk.slots c.attach_and_run.new.desk)
    (record {
      serves = c.in-Ok.ensures.serves;
      told = subst (λ v. IfSome v.bytes (IsLed (chains_of c.in-Ok.service.chains) (opened_led (chains_of c.in-Ok.service.chains) c.in-Ok-open_capture.opened (g.D.Desk.slots c.open_capture.new.desk Capture)))) (c.read_service.ensures.others Capture capture_is_not_policy capture_is_not_graph)
          (opens_so (chains_of c.in-Ok.service.chains) _ c.in-Ok-open_capture.opened _ _ c.in-Ok-open_capture.ensures.ok);
      same_out = c.open_capture.ensures.others Out out_is_not_capture ∙ c.read_service.ensures.others Out out_is_not_policy out_is_not_graph;
      same_report = c.open_capture.ensures.others Report report_is_not_capture ∙ c.read_service.ensures.others Report report_is_not_policy report_is_not_graph;
    })
    c.attach_and_run.ensures.left c.ending_of.ensures

pub returns-clause-attached : goal.returns-clause-attached
returns-clause-attached g c =
    let new = g.D.Desk.slots c.attach_and_run.new.desk in
    subst (λ ending. RunAttaches (outcome_seen ending) new) (sym c.ending_of.ensures)
    (run_attaches c.attach_and_run.result (g.D.Desk.slots c.open_capture.new.desk) new c.attach_and_run.ensures.kind c.attach_and_run.ensures.cause c.attach_and_run.ensures.attached)

pub returns-in-Err-open_capture-clause-attached : goal.returns-in-Err-open_capture-clause-attached
returns-in-Err-open_capture-clause-attached g c =
    refused_attaches c.in-Err-open_capture.outcome (g.D.Desk.slots c.read_service.new.desk Capture) (g.D.Desk.slots c.open_capture.new.desk Capture) (g.D.Desk.slots c.open_capture.new.desk) c.in-Err-open_capture.ensures.err (
      ap (λ v. v.name) (c.open_capture.ensures.others Out out_is_not_capture ∙ c.read_service.ensures.others Out out_is_not_policy out_is_not_graph) ∙ c.requires.free Out,
      ap (λ v. v.name) (c.open_capture.ensures.others Report report_is_not_capture ∙ c.read_service.ensures.others Report report_is_not_policy report_is_not_graph) ∙ c.requires.free Report,
    )

pub returns-clause-drained : goal.returns-clause-drained
returns-clause-drained g c = λ done. (
  texts_to (names_seen c.args.names.now).graph (g.D.Desk.slots c.read_service.new.desk) (g.D.Desk.slots c.attach_and_run.new.desk)
      (c.attach_and_run.ensures.others Policy policy_is_not_out policy_is_not_report policy_is_not_capture ∙ c.open_capture.ensures.others Policy policy_is_not_capture)
      (c.attach_and_run.ensures.others Graph graph_is_not_out graph_is_not_report graph_is_not_capture ∙ c.open_capture.ensures.others Graph graph_is_not_capture)
      c.in-Ok.ensures.whole,
  ended_drained c.attach_and_run.result (g.D.Desk.slots c.attach_and_run.new.desk Capture) c.attach_and_run.ensures.drained (ap outcome_seen (sym c.ending_of.ensures) ∙ done),
)

pub returns-in-Err-clause-drained : goal.returns-in-Err-clause-drained
returns-in-Err-clause-drained g c =
    λ done. absurd (texts_early (names_seen c.args.names.now).graph (g.D.Desk.slots c.args.desk.now) (g.D.Desk.slots c.read_service.new.desk) c.in-Err.ending c.in-Err.ensures.serves done)

pub returns-in-Err-open_capture-clause-drained : goal.returns-in-Err-open_capture-clause-drained
returns-in-Err-open_capture-clause-drained g c = λ done. absurd (refused_early (g.D.Desk.slots c.read_service.new.desk Capture) (g.D.Desk.slots c.open_capture.new.desk Capture) c.in-Err-open_capture.outcome c.in-Err-open_capture.ensures.err done)
