use Rattle.std.proofs.Common.{◌∙◌, ap, sym, subst}
use Rattle.std.specs.Prelude.{Ok}
use Rattle.command_words.specs.Named.{command_seen, plan_seen}
use Rattle.nfp_run.specs.Ran.{Ran}
use Rattle.nfp_run.proofs.ShownPlans.{plan_ran}
use Rattle.nfp_run.proofs.commands.run_words.Goals as goal

pub returns-in-Ok-Run : goal.returns-in-Ok-Run
returns-in-Ok-Run g c = record {
  ran = subst (λ command. Ran command (g.D.Desk.slots c.args.desk.now) (g.D.Desk.slots c.run.new.desk) c.run.result)
      (sym (c.in-Ok-Run.ensures.reads ∙ ap (λ x. Ok (command_seen x)) c.in-Ok-Run.field-0-is))
      (record {
        due = c.run.ensures.due;
        prefixes = c.run.ensures.prefixes;
        within = c.run.ensures.within;
        names_are = c.run.ensures.names;
        attached = c.run.ensures.attached;
        report_behind = c.run.ensures.report_behind;
        note_stays = c.run.ensures.note_stays;
        usage = λ fault x. absurd (c.run.ensures.no_usage fault x);
        usage_always = λ fault x. absurd cc;
        refused = c.run.ensures.refused;
        graph_refused = c.run.ensures.graph_refused;
        policy = c.run.ensures.policy;
        drained = c.run.ensures.drained;
        read_faults = c.run.ensures.read_faults;
        write_faults = c.run.ensures.write_faults;
        no_note_fault = c.run.ensures.no_note_fault;
      });
}

pub returns-in-Ok-Plan : goal.returns-in-Ok-Plan
returns-in-Ok-Plan g c = record {
  ran = subst (λ command. Ran command (g.D.Desk.slots c.args.desk.now) (g.D.Desk.slots c.plan.new.desk) c.plan.result)
      (sym (c.in-Ok-Plan.ensures.reads ∙ ap (λ x. Ok (command_seen x)) c.in-Ok-Plan.field-0-is))
      (plan_ran (plan_seen c.in-Ok-Plan.names) (g.D.Desk.slots c.args.desk.now) (g.D.Desk.slots c.plan.new.desk) c.plan.result c.requires c.plan.ensures.policy_name c.plan.ensures.graph_name c.plan.ensures.others c.plan.ensures.ends c.plan.ensures.drained);
}
