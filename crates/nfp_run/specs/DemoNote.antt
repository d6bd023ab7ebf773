-- Believed: what a demo prints: how its packets end in its policy's chains, and the size and weight of a run's output.
use Rattle.std.specs.Prelude.{◌-◌, ℕ, List, [], length, count_by, Option, Some, None}
use Rattle.nfp_outside.specs.Weights.{weight_of}
use Rattle.chain_walk.specs.declared.walk.Fate.{Fate}
use Rattle.command_words.specs.declared.requests.DemoInput.{DemoInput}
use Rattle.policy_judge.specs.Judging.{judged}
use Rattle.capture_run.specs.ChainService.{Chains, service_of}
use Rattle.demo_capture.specs.declared.summary.Weighed.{Weighed}
use Rattle.demo_capture.specs.declared.summary.Summary.{Summary}
use Rattle.demo_capture.specs.DemoCapture.{policy_text, demo_head, demo_records, whole_body}
use Rattle.demo_capture.specs.Summary.{summary_text}
use Rattle.capture_run.specs.BurstWalk.{fates_of}
use Rattle.capture_run.specs.CaptureReport.{is_gone}
use Rattle.nfp_run.specs.Written.{Written, written_of}

abbrev pub weighed : List ℕ → Weighed
weighed bytes = record { bytes = (weight_of bytes).bytes; weight = (weight_of bytes).sum }

-- the numbers, by the packets' fates and what would be written
abbrev pub summary_by : DemoInput → List Fate → Written → Summary
summary_by input fates written = record {
  seed = input.seed;
  count = input.count;
  records = length fates;
  emitted = length fates - count_by is_gone fates;
  dropped = count_by is_gone fates;
  out = weighed written.out;
  report = weighed written.report;
}

-- the numbers of a seed and a count, if these chains run
abbrev pub demo_summary : DemoInput → Chains → Summary
demo_summary input chains =
    summary_by input (fates_of chains demo_head.unit (demo_records input.seed input.count)) (written_of chains demo_head (whole_body (demo_records input.seed input.count)))

abbrev pub text_by : DemoInput → Option Chains → List ℕ
text_by input (Some chains) = summary_text (demo_summary input chains)
text_by input None = []

-- the text that is shown; the demo's policy has no fault, so it has chains
abbrev pub demo_text : DemoInput → List ℕ
demo_text input = text_by input (service_of (judged policy_text))
