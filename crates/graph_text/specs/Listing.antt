-- Believed: the stages that a graph text lists for chains of a policy, line by line, or its first faulty line.
use Rattle.std.specs.Prelude.{ℕ, List, [], ◌∷◌, ◌++◌, length, Bool, true, false, ◌==◌, ◌&&◌, ◌||◌, not, nat_lt, if◌then◌else◌, Result, Ok, Err}
use Rattle.std.specs.List.{list_any}
use Rattle.graph_compile.specs.declared.graph.Branch.{Branch}
use Rattle.policy_check.specs.declared.fault.Order.{Order}
use Rattle.policy_text.specs.Grammar.{latest, change_latest}
use Rattle.policy_text.specs.Lines.{Line, word_at}
use Rattle.policy_text.specs.Steps.{◌>>=◌, demand, some_or}
use Rattle.policy_text.specs.declared.policy.ChainPolicy.{ChainPolicy}
use Rattle.graph_text.specs.Chains.{chain_named, functions_at, order_at, has_whole, positions_named}
use Rattle.graph_text.specs.Forms.{is_version, is_chain, is_stage, is_branch, names_of, has_branch}
use Rattle.graph_text.specs.Standing.{stands_twice}
use Rattle.graph_text.specs.declared.fault.GraphFault.{GraphFault}
use Rattle.graph_text.specs.declared.fault.GraphFault.TheVariants.{BadVersionLine, Syntax, UnknownName, Twice, WholeChain}
use Rattle.graph_text.specs.declared.listed.Listed.{Listed}

-- a chain is listed
abbrev pub is_listed : List Listed → ℕ → Bool
is_listed listed chain = list_any (λ l. l.chain == chain) listed

-- a chain without a stage
abbrev pub no_stage : ℕ → Listed
no_stage chain = record { chain = chain; opened = false; stages = [] }

-- `chain NAME`
abbrev pub chain_line : List ChainPolicy → List Listed → Line → Result (List Listed) GraphFault
chain_line chains listed line = do
  chain ← some_or (UnknownName line.number) (chain_named chains (word_at line 1))
  _ ← demand (not (is_listed listed chain)) (Twice line.number)
  _ ← demand (not (has_whole (functions_at chains chain))) (WholeChain line.number)
  Ok (listed ++ no_stage chain ∷ [])

-- a stage is opened in a chain; it counts from its first branch on
abbrev pub with_stage : Listed → Listed
with_stage l = record { chain = l.chain; opened = true; stages = l.stages }

-- `stage`, in a chain, and with a branch
abbrev pub stage_line : List Listed → Line → List Line → Result (List Listed) GraphFault
stage_line listed line later = do
  _ ← demand (nat_lt 0 (length listed) && has_branch later) (Syntax line.number)
  Ok (change_latest with_stage listed)

-- a branch more in a stage, and in the stages of a chain, of which the latest may still have none
abbrev pub with_branch_in : Branch → List Branch → List Branch
with_branch_in branch branches = branches ++ branch ∷ []

abbrev pub stages_with : Bool → List (List Branch) → Branch → List (List Branch)
stages_with opened stages branch = if opened then stages ++ (branch ∷ []) ∷ [] else change_latest (with_branch_in branch) stages

abbrev pub with_branch : Branch → Listed → Listed
with_branch branch l = record { chain = l.chain; opened = false; stages = stages_with l.opened l.stages branch }

-- the branch of a line: it is in a stage of the current chain; its functions are of that chain and in no branch yet
abbrev pub branch_in : List ChainPolicy → List Order → Listed → Line → Result (List ℕ) GraphFault
branch_in chains orders here line = do
  _ ← demand (here.opened || nat_lt 0 (length here.stages)) (Syntax line.number)
  positions ← some_or (UnknownName line.number) (positions_named (functions_at chains here.chain) (order_at orders here.chain) (names_of line.words))
  _ ← demand (not (stands_twice here.stages positions)) (Twice line.number)
  Ok positions

abbrev pub branch_of : List ChainPolicy → List Order → List Listed → Line → Result (List ℕ) GraphFault
branch_of chains orders listed line = do
  here ← some_or (Syntax line.number) (latest listed)
  branch_in chains orders here line

-- `branch NAME ..`
abbrev pub with_positions : List Listed → List ℕ → List Listed
with_positions listed positions = change_latest (with_branch (record { positions = positions })) listed

abbrev pub branch_line : List ChainPolicy → List Order → List Listed → Line → Result (List Listed) GraphFault
branch_line chains orders listed line = do
  positions ← branch_of chains orders listed line
  Ok (with_positions listed positions)

-- what is listed so far with one more line, followed by these lines, or the line's fault
unfoldable pub after_line : List ChainPolicy → List Order → List Listed → Line → List Line → Result (List Listed) GraphFault
after_line chains orders listed line later =
    if is_chain line.words then chain_line chains listed line else
    if is_stage line.words then stage_line listed line later else
    if is_branch line.words then branch_line chains orders listed line else Err (Syntax line.number)

-- what is listed so far with more lines, or the fault of the first that has one
abbrev pub after_lines : List ChainPolicy → List Order → List Listed → List Line → Result (List Listed) GraphFault
after_lines chains orders listed [] = Ok listed
after_lines chains orders listed (line ∷ lines) = do
  more ← after_line chains orders listed line lines
  after_lines chains orders more lines

-- the first line that isn't blank is the version
unfoldable pub listed_by : List ChainPolicy → List Order → List Line → Result (List Listed) GraphFault
listed_by chains orders [] = Err BadVersionLine
listed_by chains orders (first ∷ lines) = do
  _ ← demand (is_version first.words) BadVersionLine
  after_lines chains orders [] lines
