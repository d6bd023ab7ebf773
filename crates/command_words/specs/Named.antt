-- For proofs: a command without the places of its names in memory.
use Rattle.std.specs.Prelude.{◌≡◌, ◌≤◌, ⊤, Option, Result, Ok, Err, option_map}
use Rattle.std.specs.Borrow.{Bor}
use Rattle.command_words.specs.declared.requests.Command.{Command as Asked}
use Rattle.command_words.specs.declared.requests.Command.TheVariants as asked
use Rattle.command_words.specs.declared.requests.FileNames.{FileNames}
use Rattle.command_words.specs.declared.requests.FlowNames.{FlowNames}
use Rattle.command_words.specs.declared.requests.FlowOptions.{FlowOptions}
use Rattle.command_words.specs.declared.requests.PlanNames.{PlanNames}
use Rattle.command_words.specs.declared.requests.RunOptions.{RunOptions}
use Rattle.command_words.specs.declared.requests.WhyRequest.{WhyRequest}
use Rattle.command_words.specs.declared.usage.UsageFault.{UsageFault}
use Rattle.command_words.specs.declared.usage.WordsFault.{WordsFault}
use Rattle.command_words.specs.declared.usage.WordsFault.TheVariants.{Usage, OutOfMemory}
use Rattle.command_words.specs.Given.{Word}
use Rattle.command_words.specs.WhyWords.{WhyAsked, WhyFiles}
use Rattle.command_words.specs.Words.{Answer, Command, Demo, FlowFiles, Flows, Names, Plan, PlanFiles, Run}

abbrev pub word_in : Option (Bor Word) → Option Word
word_in = option_map (λ word. word.now)

abbrev pub names_seen : FileNames → Names
names_seen n = record { policy = n.policy.now; capture = n.capture.now; out = n.out.now; report = n.report.now; graph = word_in n.graph }

abbrev pub plan_seen : PlanNames → PlanFiles
plan_seen n = record { policy = n.policy.now; graph = word_in n.graph }

abbrev pub files_seen : FlowNames → FlowFiles
files_seen n = record { capture = n.capture.now; out = n.out.now }

abbrev pub command_seen : Asked → Command
command_seen (asked.Run names options) = Run (names_seen names) options
command_seen (asked.Plan names) = Plan (plan_seen names)
command_seen (asked.Demo input options) = Demo input options
command_seen (asked.Flows names options) = Flows (files_seen names) options

abbrev pub answer_seen : Result Asked UsageFault → Answer
answer_seen (Ok command) = Ok (command_seen command)
answer_seen (Err fault) = Err fault

-- the words were read to this, or it ran out of memory
abbrev pub ReadsWords : Result Asked WordsFault → Answer → Type 0
ReadsWords (Ok command) due = due ≡ Ok (command_seen command)
ReadsWords (Err (Usage fault)) due = due ≡ Err fault
ReadsWords (Err OutOfMemory) due = ⊤

-- the numbers lie in their ranges
pub record IsInRange (options : RunOptions) : Type 0 where
  pub some_mergers : 1 ≤ options.mergers
  pub few_mergers : options.mergers ≤ 16
  pub some_packets : 1 ≤ options.burst
  pub few_packets : options.burst ≤ 65536

-- the same for the numbers of `flows`
pub record IsFlowRange (options : FlowOptions) : Type 0 where
  pub some_workers : 1 ≤ options.workers
  pub few_workers : options.workers ≤ 16
  pub some_packets : 1 ≤ options.burst
  pub few_packets : options.burst ≤ 65536

abbrev pub HasRanges : Asked → Type 0
HasRanges (asked.Run names options) = IsInRange options
HasRanges (asked.Plan names) = ⊤
HasRanges (asked.Demo input options) = (1 ≤ input.count) × (input.count ≤ 1000000) × IsInRange options
HasRanges (asked.Flows names options) = IsFlowRange options

-- ---- the words behind `why`

abbrev pub why_files_seen : WhyRequest → WhyFiles
why_files_seen r = record { policy = r.policy.now; capture = r.capture.now; report = r.report.now }

abbrev pub asked_seen : WhyRequest → WhyAsked
asked_seen r = record { files = why_files_seen r; record_number = r.«record» }

abbrev pub why_seen : Result WhyRequest UsageFault → Result WhyAsked UsageFault
why_seen (Ok request) = Ok (asked_seen request)
why_seen (Err fault) = Err fault

-- the words were read to this, or it ran out of memory
abbrev pub ReadsWhy : Result WhyRequest WordsFault → Result WhyAsked UsageFault → Type 0
ReadsWhy (Ok request) due = due ≡ Ok (asked_seen request)
ReadsWhy (Err (Usage fault)) due = due ≡ Err fault
ReadsWhy (Err OutOfMemory) due = ⊤
