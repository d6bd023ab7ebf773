-- Believed: the command line: commands with names, options, numbers and ways, and the first fault of the words.
use Rattle.std.specs.Prelude.{ℕ, List, [], ◌∷◌, length, Bool, if◌then◌else◌, nat_le, ◌&&◌, Option, Some, None, Result, Ok, Err, codes}
use Rattle.std.specs.Char.{is_ascii_digit}
use Rattle.std.specs.List.{list_all}
use Rattle.std.specs.Str.{bytes_eq}
use Rattle.std.specs.Str.Parse.{digits_value}
use Rattle.command_words.specs.declared.requests.DemoInput.{DemoInput}
use Rattle.command_words.specs.declared.requests.FlowOptions.{FlowOptions}
use Rattle.command_words.specs.declared.requests.RunOptions.{RunOptions}
use Rattle.command_words.specs.declared.requests.Way.{Way}
use Rattle.command_words.specs.declared.requests.Way.TheVariants.{Inbox, Board}
use Rattle.command_words.specs.declared.usage.Option4.{Option4}
use Rattle.command_words.specs.declared.usage.Option4.TheVariants.{Mergers, Burst, Workers, Seed, Count}
use Rattle.command_words.specs.declared.usage.UsageFault.{UsageFault}
use Rattle.command_words.specs.declared.usage.UsageFault.TheVariants.{NoCommand, UnknownCommand, Words, Number, Merge, SameName}
use Rattle.command_words.specs.Given.{Given, Word, all_differ, given_by, is_sound, value_given}

-- ---- numbers

-- the fault, or else what follows
abbrev pub after : {X Y : Type 0} → Result X UsageFault → (X → Result Y UsageFault) → Result Y UsageFault
after (Err fault) next = Err fault
after (Ok x) next = next x

-- 1 to 20 digits
abbrev pub is_numeral : Word → Bool
is_numeral word = nat_le 1 (length word) && (nat_le (length word) 20 && list_all is_ascii_digit word)

-- such a number that lies in its range
abbrev pub number_of : Option4 → ℕ → ℕ → Word → Result ℕ UsageFault
number_of which low high word =
    if is_numeral word && (nat_le low (digits_value 10 word) && nat_le (digits_value 10 word) high) then Ok (digits_value 10 word)
    else Err (Number which)

abbrev pub mergers_of : Option Word → Result ℕ UsageFault
mergers_of None = Ok 2
mergers_of (Some word) = number_of Mergers 1 16 word

abbrev pub burst_of : Option Word → Result ℕ UsageFault
burst_of None = Ok 1024
burst_of (Some word) = number_of Burst 1 65536 word

abbrev pub workers_of : Option Word → Result ℕ UsageFault
workers_of None = Ok 2
workers_of (Some word) = number_of Workers 1 16 word

abbrev pub seed_of : Word → Result ℕ UsageFault
seed_of word = number_of Seed 0 18446744073709551615 word

abbrev pub count_of : Word → Result ℕ UsageFault
count_of word = number_of Count 1 1000000 word

-- ---- how the results of a stage's branches are merged

abbrev pub way_of : Option Word → Result Way UsageFault
way_of None = Ok Inbox
way_of (Some word) = if bytes_eq word (codes "inbox") then Ok Inbox else if bytes_eq word (codes "board") then Ok Board else Err Merge

-- ---- the commands

-- The names of the four files of `run`, and of the hand-written graphs, if they are named.
pub record Names : Type 0 where
  pub policy : Word
  pub capture : Word
  pub out : Word
  pub report : Word
  pub graph : Option Word

-- The names of the policy of `plan` and of such graphs.
pub record PlanFiles : Type 0 where
  pub policy : Word
  pub graph : Option Word

-- The names of the two files of `flows`.
pub record FlowFiles : Type 0 where
  pub capture : Word
  pub out : Word

-- What is asked for: to run a policy over a capture, to show the plan of a policy, to run the demonstration, or to
-- count the flows of a capture.
pub data Command : Type 0 where
  Run : Names → RunOptions → Command
  Plan : PlanFiles → Command
  Demo : DemoInput → RunOptions → Command
  Flows : FlowFiles → FlowOptions → Command

abbrev pub Answer : Type 0
Answer = Result Command UsageFault

-- these names and that of the graphs, if they are named
abbrev pub with_graph : Option Word → List Word → List Word
with_graph None names = names
with_graph (Some graph) names = graph ∷ names

abbrev pub distinct : Names → Result Names UsageFault
distinct n = if all_differ (with_graph n.graph (n.policy ∷ n.capture ∷ n.out ∷ n.report ∷ [])) then Ok n else Err SameName

abbrev pub distinct_plan : PlanFiles → Result PlanFiles UsageFault
distinct_plan n = if all_differ (with_graph n.graph (n.policy ∷ [])) then Ok n else Err SameName

abbrev pub distinct_files : FlowFiles → Result FlowFiles UsageFault
distinct_files n = if all_differ (n.capture ∷ n.out ∷ []) then Ok n else Err SameName

-- the numbers in their order, the way, and then the names
abbrev pub run_with : Names → Option Word → Option Word → Option Word → Answer
run_with names mergers burst way = after (mergers_of mergers) (λ m. after (burst_of burst) (λ b. after (way_of way) (λ w. after (distinct names) (λ n.
    Ok (Run n (record { mergers = m; burst = b; way = w }))))))

abbrev pub plan_with : PlanFiles → Answer
plan_with files = after (distinct_plan files) (λ n. Ok (Plan n))

abbrev pub demo_with : Word → Word → Option Word → Option Word → Option Word → Answer
demo_with seed count mergers burst way = after (mergers_of mergers) (λ m. after (burst_of burst) (λ b. after (seed_of seed) (λ s. after (count_of count) (λ c.
    after (way_of way) (λ w. Ok (Demo (record { seed = s; count = c }) (record { mergers = m; burst = b; way = w })))))))

abbrev pub flows_with : FlowFiles → Option Word → Option Word → Answer
flows_with files burst workers = after (burst_of burst) (λ b. after (workers_of workers) (λ w. after (distinct_files files) (λ n.
    Ok (Flows n (record { workers = w; burst = b })))))

abbrev pub run_by : List Word → List (Word × Word) → Answer
run_by (policy ∷ capture ∷ out ∷ report ∷ []) options =
    run_with (record { policy = policy; capture = capture; out = out; report = report; graph = value_given (codes "graph") options })
    (value_given (codes "mergers") options) (value_given (codes "burst") options) (value_given (codes "merge") options)
run_by names options = Err Words

abbrev pub plan_by : List Word → List (Word × Word) → Answer
plan_by (policy ∷ []) options = plan_with (record { policy = policy; graph = value_given (codes "graph") options })
plan_by names options = Err Words

abbrev pub demo_by : List Word → List (Word × Word) → Answer
demo_by (seed ∷ count ∷ []) options = demo_with seed count
    (value_given (codes "mergers") options) (value_given (codes "burst") options) (value_given (codes "merge") options)
demo_by names options = Err Words

abbrev pub flows_by : List Word → List (Word × Word) → Answer
flows_by (capture ∷ out ∷ []) options =
    flows_with (record { capture = capture; out = out }) (value_given (codes "burst") options) (value_given (codes "workers") options)
flows_by names options = Err Words

-- the answer to the parts of the words after a command
abbrev pub answer_by : {X : Type 0} → (List Word → List (Word × Word) → Result X UsageFault) → Option Given → Result X UsageFault
answer_by answer None = Err Words
answer_by answer (Some given) = if is_sound given then answer given.names given.options else Err Words

-- the options of `run`
abbrev pub run_options : List Word
run_options = codes "mergers" ∷ codes "burst" ∷ codes "merge" ∷ codes "graph" ∷ []

-- those of `plan`
abbrev pub plan_options : List Word
plan_options = codes "graph" ∷ []

-- those of `demo`
abbrev pub demo_options : List Word
demo_options = codes "mergers" ∷ codes "burst" ∷ codes "merge" ∷ []

-- those of `flows`
abbrev pub flows_options : List Word
flows_options = codes "workers" ∷ codes "burst" ∷ []

abbrev pub run_of : List Word → Answer
run_of words = answer_by run_by (given_by run_options None words)

abbrev pub plan_of : List Word → Answer
plan_of words = answer_by plan_by (given_by plan_options None words)

abbrev pub demo_of : List Word → Answer
demo_of words = answer_by demo_by (given_by demo_options None words)

abbrev pub flows_of : List Word → Answer
flows_of words = answer_by flows_by (given_by flows_options None words)

-- the command, or the first fault of the words
abbrev pub command_of : List Word → Answer
command_of [] = Err NoCommand
command_of (word ∷ words) =
    if bytes_eq word (codes "run") then run_of words else
    if bytes_eq word (codes "plan") then plan_of words else
    if bytes_eq word (codes "demo") then demo_of words else
    if bytes_eq word (codes "flows") then flows_of words else Err UnknownCommand
