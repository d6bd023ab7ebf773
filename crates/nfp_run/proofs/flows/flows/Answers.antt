use Rattle.std.proofs.Common.{◌≡◌, ◌⊎◌, ◌∙◌, inl, ap, subst, sym}
use Rattle.std.specs.Prelude.{None, Ok, Some}
use Rattle.nfp_outside.specs.declared.slot.Slot.TheVariants.{Out, Report}
use Rattle.command_words.specs.Named.{files_seen}
use Rattle.command_words.specs.Words.{Flows}
use Rattle.nfp_run.specs.Ran.{Ran}
use Rattle.call_ending.specs.declared.ending.Ending.TheVariants.{Stopped}
use Rattle.nfp_run.proofs.FlowRuns.{Stands, Stays, broken, exported, unopened}
use Rattle.nfp_run.proofs.OtherSlots.{out_is_not_capture, report_is_not_capture}
use Rattle.nfp_run.proofs.flows.flows.Goals as goal

pub returns-in-Err : goal.returns-in-Err
returns-in-Err g c = record {
  ran = unopened (files_seen c.args.names.now) c.args.options (g.D.Desk.slots c.args.desk.now) (g.D.Desk.slots c.open_classic.new.desk) c.in-Err.outcome c.in-Err.ensures.err
      (record {
        free = c.requires.free;
        capture = c.in-Err.ensures.name;
        out = inl (ap (λ v. v.name) (c.in-Err.ensures.others Out out_is_not_capture) ∙ c.requires.free Out);
        others = λ s out capture. c.in-Err.ensures.others s capture;
      })
      (c.in-Err.ensures.others Out out_is_not_capture);
}

pub returns-in-Ok-count_and_export : goal.returns-in-Ok-count_and_export
returns-in-Ok-count_and_export g c =
    let stands : Stands c.in-Ok.opened.0 c.in-Ok.opened.1 (g.D.Desk.slots c.args.desk.now) (g.D.Desk.slots c.open_classic.new.desk) = record {
      whole = c.in-Ok.ensures.ok.whole;
      same_out = c.in-Ok.ensures.others Out out_is_not_capture;
      same_report = c.in-Ok.ensures.others Report report_is_not_capture;
      later = c.in-Ok.ensures.later;
    } in
    let stays : Stays (files_seen c.args.names.now) (g.D.Desk.slots c.args.desk.now) (g.D.Desk.slots c.count_and_export.new.desk) = record {
      free = c.requires.free;
      capture = subst (λ n. (n ≡ None) ⊎ (n ≡ Some c.args.names.now.capture.now)) (sym c.count_and_export.ensures.capture_name) c.in-Ok.ensures.name;
      out = c.count_and_export.ensures.out_name;
      others = λ s out capture. c.count_and_export.ensures.others s out capture ∙ c.in-Ok.ensures.others s capture;
    } in
    record {
      ran = exported (files_seen c.args.names.now) c.args.options c.in-Ok.opened.0 c.in-Ok.opened.1 (g.D.Desk.slots c.args.desk.now) (g.D.Desk.slots c.open_classic.new.desk) (g.D.Desk.slots c.count_and_export.new.desk) c.in-Ok-count_and_export.ending
          stands stays c.in-Ok-count_and_export.ensures.told c.in-Ok-count_and_export.ensures.attached c.in-Ok-count_and_export.ensures.drained c.in-Ok-count_and_export.ensures.left;
    }

pub returns-in-Err-count_and_export : goal.returns-in-Err-count_and_export
returns-in-Err-count_and_export g c =
    let stands : Stands c.in-Ok.opened.0 c.in-Ok.opened.1 (g.D.Desk.slots c.args.desk.now) (g.D.Desk.slots c.open_classic.new.desk) = record {
      whole = c.in-Ok.ensures.ok.whole;
      same_out = c.in-Ok.ensures.others Out out_is_not_capture;
      same_report = c.in-Ok.ensures.others Report report_is_not_capture;
      later = c.in-Ok.ensures.later;
    } in
    let stays : Stays (files_seen c.args.names.now) (g.D.Desk.slots c.args.desk.now) (g.D.Desk.slots c.count_and_export.new.desk) = record {
      free = c.requires.free;
      capture = subst (λ n. (n ≡ None) ⊎ (n ≡ Some c.args.names.now.capture.now)) (sym c.count_and_export.ensures.capture_name) c.in-Ok.ensures.name;
      out = c.count_and_export.ensures.out_name;
      others = λ s out capture. c.count_and_export.ensures.others s out capture ∙ c.in-Ok.ensures.others s capture;
    } in
    record {
      ran = subst (λ o. Ran (Ok (Flows (files_seen c.args.names.now) c.args.options)) (g.D.Desk.slots c.args.desk.now) (g.D.Desk.slots c.count_and_export.new.desk) (Stopped o)) (sym c.into.ensures)
          (broken (files_seen c.args.names.now) c.args.options c.in-Ok.opened.0 c.in-Ok.opened.1 (g.D.Desk.slots c.args.desk.now) (g.D.Desk.slots c.open_classic.new.desk) (g.D.Desk.slots c.count_and_export.new.desk) c.in-Err-count_and_export.fault
          stands stays c.in-Err-count_and_export.ensures.cause c.in-Err-count_and_export.ensures.left);
    }
