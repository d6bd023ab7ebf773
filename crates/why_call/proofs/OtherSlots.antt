-- The slots differ from one another.
use Rattle.std.proofs.Common.{◌≢◌}
use Rattle.nfp_outside.specs.declared.slot.Slot.TheVariants.{Policy, Capture, Out, Report, Note, Graph}

pub policy_beside : Policy ≢ Note
policy_beside h = cc

pub capture_beside : Capture ≢ Note
capture_beside h = cc

pub report_beside : Report ≢ Note
report_beside h = cc

pub report_is_not_policy : Report ≢ Policy
report_is_not_policy h = cc

pub report_is_not_capture : Report ≢ Capture
report_is_not_capture h = cc

pub capture_is_not_policy : Capture ≢ Policy
capture_is_not_policy h = cc

pub capture_is_not_report : Capture ≢ Report
capture_is_not_report h = cc

pub policy_is_not_capture : Policy ≢ Capture
policy_is_not_capture h = cc

pub policy_is_not_report : Policy ≢ Report
policy_is_not_report h = cc

pub out_is_not_policy : Out ≢ Policy
out_is_not_policy h = cc

pub out_is_not_capture : Out ≢ Capture
out_is_not_capture h = cc

pub out_is_not_report : Out ≢ Report
out_is_not_report h = cc

pub note_is_not_policy : Note ≢ Policy
note_is_not_policy h = cc

pub note_is_not_capture : Note ≢ Capture
note_is_not_capture h = cc

pub note_is_not_report : Note ≢ Report
note_is_not_report h = cc

pub graph_is_not_policy : Graph ≢ Policy
graph_is_not_policy h = cc

pub graph_is_not_capture : Graph ≢ Capture
graph_is_not_capture h = cc

pub graph_is_not_report : Graph ≢ Report
graph_is_not_report h = cc
