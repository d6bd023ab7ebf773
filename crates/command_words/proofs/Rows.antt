-- Worked rows, computed by the definitions.
use Rattle.std.specs.Prelude.{◌≡◌, ℕ, List, [], refl, ◌==◌, Some, None, Ok, Err, codes}
use Rattle.std.specs.List.{slice_split}
use Rattle.command_words.specs.declared.requests.RunOptions.{RunOptions}
use Rattle.command_words.specs.declared.requests.Way.{Way}
use Rattle.command_words.specs.declared.requests.Way.TheVariants.{Inbox, Board}
use Rattle.command_words.specs.declared.usage.Option4.TheVariants.{Mergers, Burst, Workers, Seed, Count}
use Rattle.command_words.specs.declared.usage.UsageFault.TheVariants.{NoCommand, UnknownCommand, Words, Number, Merge, SameName}
use Rattle.command_words.specs.Given.{given_by}
use Rattle.command_words.specs.Words.{Answer, Demo, Flows, Plan, Run, command_of}

-- the answer to a line whose words are separated by blanks
abbrev read : List ℕ → Answer
read line = command_of (slice_split (λ c. c == 32) line)

abbrev options_by : Way → ℕ → ℕ → RunOptions
options_by way mergers burst = record { mergers = mergers; burst = burst; way = way }

-- if no word says how the results of the branches are merged
abbrev options : ℕ → ℕ → RunOptions
options = options_by Inbox

-- `run p c o r` with these options
abbrev runs_by : Way → ℕ → ℕ → Answer
runs_by way mergers burst =
    Ok (Run (record { policy = codes "p"; capture = codes "c"; out = codes "o"; report = codes "r"; graph = None }) (options_by way mergers burst))

abbrev runs : ℕ → ℕ → Answer
runs = runs_by Inbox

abbrev demo : ℕ → ℕ → RunOptions → Answer
demo seed count given = Ok (Demo (record { seed = seed; count = count }) given)

-- `flows c o` with these options
abbrev flows : ℕ → ℕ → Answer
flows workers burst = Ok (Flows (record { capture = codes "c"; out = codes "o" }) (record { workers = workers; burst = burst }))

no_word : command_of [] ≡ Err NoCommand
no_word = refl

-- ---- the commands, with the default numbers of options that aren't given

a_run : read (codes "run p c o r") ≡ runs 2 1024
unfolding given_by
a_run = refl

a_plan : read (codes "plan p") ≡ Ok (Plan (record { policy = codes "p"; graph = None }))
unfolding given_by
a_plan = refl

a_demo : read (codes "demo 7 20000") ≡ demo 7 20000 (options 2 1024)
unfolding given_by
a_demo = refl

no_run : read (codes "Run p c o r") ≡ Err UnknownCommand
unfolding given_by
no_run = refl

dashed_command : read (codes "--help") ≡ Err UnknownCommand
unfolding given_by
dashed_command = refl

empty_command : read (codes "") ≡ Err UnknownCommand
unfolding given_by
empty_command = refl

-- ---- options before, between and after the names, in both forms

options_first : read (codes "run --mergers 3 --burst=7 p c o r") ≡ runs 3 7
unfolding given_by
options_first = refl

options_between : read (codes "run p --burst 7 c o --mergers=3 r") ≡ runs 3 7
unfolding given_by
options_between = refl

options_last : read (codes "run p c o r --burst=7 --mergers 3") ≡ runs 3 7
unfolding given_by
options_last = refl

options_of_demo : read (codes "demo --mergers 16 7 --burst 65536 20000") ≡ demo 7 20000 (options 16 65536)
unfolding given_by
options_of_demo = refl

options_of_plan : read (codes "plan p --burst 7") ≡ Err Words
unfolding given_by
options_of_plan = refl

-- ---- after `--` each word is a name

dashed_names : read (codes "run --burst 7 -- -p --burst=9 -- r") ≡ Ok (Run (record { policy = codes "-p"; capture = codes "--burst=9"; out = codes "--"; report = codes "r"; graph = None }) (options 2 7))
unfolding given_by
dashed_names = refl

separator_last : read (codes "run p c o r --") ≡ runs 2 1024
unfolding given_by
separator_last = refl

option_behind : read (codes "run p c o r -- --burst 7") ≡ Err Words
unfolding given_by
option_behind = refl

dash_behind : read (codes "plan -- -") ≡ Err Words
unfolding given_by
dash_behind = refl

empty_behind : read (codes "plan -- ") ≡ Err Words
unfolding given_by
empty_behind = refl

-- ---- faults of words

no_names : read (codes "run") ≡ Err Words
unfolding given_by
no_names = refl

three_names : read (codes "run p c o") ≡ Err Words
unfolding given_by
three_names = refl

five_names : read (codes "run p c o r x") ≡ Err Words
unfolding given_by
five_names = refl

no_policy : read (codes "plan") ≡ Err Words
unfolding given_by
no_policy = refl

one_number : read (codes "demo 7") ≡ Err Words
unfolding given_by
one_number = refl

empty_name : read (codes "run p c  r") ≡ Err Words
unfolding given_by
empty_name = refl

dash_as_name : read (codes "run p c - r") ≡ Err Words
unfolding given_by
dash_as_name = refl

short_option : read (codes "run p c o r -b") ≡ Err Words
unfolding given_by
short_option = refl

short_with_value : read (codes "run p c o r -b=7") ≡ Err Words
unfolding given_by
short_with_value = refl

unknown_option : read (codes "run p c o r --help") ≡ Err Words
unfolding given_by
unknown_option = refl

shortened_option : read (codes "run p c o r --burs 7") ≡ Err Words
unfolding given_by
shortened_option = refl

long_option : read (codes "run p c o r --bursts 7") ≡ Err Words
unfolding given_by
long_option = refl

nameless_option : read (codes "run p c o r --=7") ≡ Err Words
unfolding given_by
nameless_option = refl

twice : read (codes "run p c o r --burst 7 --burst 7") ≡ Err Words
unfolding given_by
twice = refl

twice_in_both_forms : read (codes "run --burst 7 p c o r --burst=7") ≡ Err Words
unfolding given_by
twice_in_both_forms = refl

no_value : read (codes "run p c o r --burst") ≡ Err Words
unfolding given_by
no_value = refl

empty_value : read (codes "run p c o r --burst ") ≡ Err Words
unfolding given_by
empty_value = refl

empty_value_attached : read (codes "run p c o r --burst=") ≡ Err Words
unfolding given_by
empty_value_attached = refl

dash_as_value : read (codes "run p c o r --burst -") ≡ Err Words
unfolding given_by
dash_as_value = refl

dash_as_value_attached : read (codes "run p c o r --burst=-") ≡ Err Words
unfolding given_by
dash_as_value_attached = refl

dashed_value : read (codes "run p c o r --burst -7") ≡ Err Words
unfolding given_by
dashed_value = refl

separator_as_value : read (codes "run --burst -- p c o r") ≡ Err Words
unfolding given_by
separator_as_value = refl

option_as_value : read (codes "run p c o r --burst --mergers 3") ≡ Err Words
unfolding given_by
option_as_value = refl

-- ---- numbers, at both ends of their ranges

dashed_value_attached : read (codes "run p c o r --mergers=-1") ≡ Err (Number Mergers)
unfolding given_by
dashed_value_attached = refl

value_with_equals : read (codes "run p c o r --burst==7") ≡ Err (Number Burst)
unfolding given_by
value_with_equals = refl

signed : read (codes "run p c o r --burst +7") ≡ Err (Number Burst)
unfolding given_by
signed = refl

no_digit : read (codes "run p c o r --burst 7x") ≡ Err (Number Burst)
unfolding given_by
no_digit = refl

zeros_lead : read (codes "run p c o r --mergers 00000000000000000016") ≡ runs 16 1024
unfolding given_by
zeros_lead = refl

too_many_zeros : read (codes "run p c o r --mergers 000000000000000000016") ≡ Err (Number Mergers)
unfolding given_by
too_many_zeros = refl

least : read (codes "run p c o r --mergers 1 --burst 1") ≡ runs 1 1
unfolding given_by
least = refl

greatest : read (codes "run p c o r --mergers 16 --burst 65536") ≡ runs 16 65536
unfolding given_by
greatest = refl

no_mergers : read (codes "run p c o r --mergers 0") ≡ Err (Number Mergers)
unfolding given_by
no_mergers = refl

too_many_mergers : read (codes "run p c o r --mergers 17") ≡ Err (Number Mergers)
unfolding given_by
too_many_mergers = refl

no_burst : read (codes "run p c o r --burst 0") ≡ Err (Number Burst)
unfolding given_by
no_burst = refl

too_long_a_burst : read (codes "run p c o r --burst 65537") ≡ Err (Number Burst)
unfolding given_by
too_long_a_burst = refl

least_demo : read (codes "demo 0 1") ≡ demo 0 1 (options 2 1024)
unfolding given_by
least_demo = refl

greatest_demo : read (codes "demo 18446744073709551615 1000000") ≡ demo 18446744073709551615 1000000 (options 2 1024)
unfolding given_by
greatest_demo = refl

too_great_a_seed : read (codes "demo 18446744073709551616 1") ≡ Err (Number Seed)
unfolding given_by
too_great_a_seed = refl

twenty_digits : read (codes "demo 99999999999999999999 1") ≡ Err (Number Seed)
unfolding given_by
twenty_digits = refl

no_count : read (codes "demo 0 0") ≡ Err (Number Count)
unfolding given_by
no_count = refl

too_great_a_count : read (codes "demo 0 1000001") ≡ Err (Number Count)
unfolding given_by
too_great_a_count = refl

-- ---- how the results of a stage's branches are merged

over_links : read (codes "run p c o r --merge inbox") ≡ runs 2 1024
unfolding given_by
over_links = refl

on_a_board : read (codes "run p --merge=board c o --burst 7 r") ≡ runs_by Board 2 7
unfolding given_by
on_a_board = refl

demo_on_a_board : read (codes "demo --merge board 7 20000") ≡ demo 7 20000 (options_by Board 2 1024)
unfolding given_by
demo_on_a_board = refl

no_way : read (codes "run p c o r --merge zip") ≡ Err Merge
unfolding given_by
no_way = refl

capital_way : read (codes "run p c o r --merge Board") ≡ Err Merge
unfolding given_by
capital_way = refl

longer_way : read (codes "demo 7 20000 --merge=boards") ≡ Err Merge
unfolding given_by
longer_way = refl

dashed_way_attached : read (codes "run p c o r --merge=-board") ≡ Err Merge
unfolding given_by
dashed_way_attached = refl

dashed_way : read (codes "run p c o r --merge -board") ≡ Err Words
unfolding given_by
dashed_way = refl

way_of_plan : read (codes "plan p --merge board") ≡ Err Words
unfolding given_by
way_of_plan = refl

two_ways : read (codes "run p c o r --merge board --merge=board") ≡ Err Words
unfolding given_by
two_ways = refl

no_word_for_the_way : read (codes "run p c o r --merge") ≡ Err Words
unfolding given_by
no_word_for_the_way = refl

empty_way : read (codes "run p c o r --merge=") ≡ Err Words
unfolding given_by
empty_way = refl

-- ---- the first fault: words, then numbers in their order, then the way, then equal names

words_before_numbers : read (codes "run p c o r --mergers 0 -b") ≡ Err Words
unfolding given_by
words_before_numbers = refl

words_before_names : read (codes "run p c c r --burst") ≡ Err Words
unfolding given_by
words_before_names = refl

mergers_before_burst : read (codes "run p c o r --burst 0 --mergers 0") ≡ Err (Number Mergers)
unfolding given_by
mergers_before_burst = refl

burst_before_seed : read (codes "demo x 0 --burst 0") ≡ Err (Number Burst)
unfolding given_by
burst_before_seed = refl

seed_before_count : read (codes "demo x 0") ≡ Err (Number Seed)
unfolding given_by
seed_before_count = refl

burst_before_way : read (codes "run p c c r --merge zip --burst 0") ≡ Err (Number Burst)
unfolding given_by
burst_before_way = refl

count_before_way : read (codes "demo 7 0 --merge zip") ≡ Err (Number Count)
unfolding given_by
count_before_way = refl

way_before_names : read (codes "run p c c r --merge zip") ≡ Err Merge
unfolding given_by
way_before_names = refl

numbers_before_names : read (codes "run p c c r --burst 0") ≡ Err (Number Burst)
unfolding given_by
numbers_before_names = refl

equal_names : read (codes "run p c c r") ≡ Err SameName
unfolding given_by
equal_names = refl

equal_ends : read (codes "run p c o p") ≡ Err SameName
unfolding given_by
equal_ends = refl

-- ---- flows

flows_as_is : read (codes "flows c o") ≡ flows 2 1024
unfolding given_by
flows_as_is = refl

flows_with_options : read (codes "flows --workers 16 c --burst=7 o") ≡ flows 16 7
unfolding given_by
flows_with_options = refl

flows_of_one_name : read (codes "flows c") ≡ Err Words
unfolding given_by
flows_of_one_name = refl

flows_of_three_names : read (codes "flows c o x") ≡ Err Words
unfolding given_by
flows_of_three_names = refl

mergers_of_flows : read (codes "flows c o --mergers 2") ≡ Err Words
unfolding given_by
mergers_of_flows = refl

workers_of_run : read (codes "run p c o r --workers 2") ≡ Err Words
unfolding given_by
workers_of_run = refl

no_workers : read (codes "flows c o --workers 0") ≡ Err (Number Workers)
unfolding given_by
no_workers = refl

too_many_workers : read (codes "flows c o --workers 17") ≡ Err (Number Workers)
unfolding given_by
too_many_workers = refl

burst_before_workers : read (codes "flows c o --workers 17 --burst 0") ≡ Err (Number Burst)
unfolding given_by
burst_before_workers = refl

workers_before_names : read (codes "flows c c --workers 17") ≡ Err (Number Workers)
unfolding given_by
workers_before_names = refl

equal_files : read (codes "flows c c") ≡ Err SameName
unfolding given_by
equal_files = refl

-- ---- hand-written graphs

-- `run p c o r` with graphs of this name
abbrev runs_by_hand : List ℕ → Answer
runs_by_hand graph =
    Ok (Run (record { policy = codes "p"; capture = codes "c"; out = codes "o"; report = codes "r"; graph = Some graph }) (options 2 1024))

a_graph : read (codes "run p c --graph g o r") ≡ runs_by_hand (codes "g")
unfolding given_by
a_graph = refl

attached_graph : read (codes "run --graph=g p c o r") ≡ runs_by_hand (codes "g")
unfolding given_by
attached_graph = refl

planned_graph : read (codes "plan p --graph g") ≡ Ok (Plan (record { policy = codes "p"; graph = Some (codes "g") }))
unfolding given_by
planned_graph = refl

graph_twice : read (codes "plan --graph g --graph h p") ≡ Err Words
unfolding given_by
graph_twice = refl

graph_of_demo : read (codes "demo 7 1 --graph g") ≡ Err Words
unfolding given_by
graph_of_demo = refl

graph_without_text : read (codes "plan p --graph=-") ≡ Err Words
unfolding given_by
graph_without_text = refl

-- the name of the graphs is one of the names that differ, and the last to be looked at
graph_is_policy : read (codes "plan p --graph p") ≡ Err SameName
unfolding given_by
graph_is_policy = refl

graph_is_report : read (codes "run p c o r --graph r") ≡ Err SameName
unfolding given_by
graph_is_report = refl

graph_behind_way : read (codes "run p c o r --graph r --merge x") ≡ Err Merge
unfolding given_by
graph_behind_way = refl
