-- Worked rows, computed by the definitions.
use Rattle.std.proofs.Common.{◌≡◌, ℕ, refl, List, [], ◌∷◌, Some, None}
use Rattle.std.specs.Prelude.{Ok, Err, codes}
use Rattle.action_profile.specs.Profiles.{profile_of}
use Rattle.action_profile.specs.declared.kind.Kind.{Kind}
use Rattle.action_profile.specs.declared.kind.Kind.TheVariants.{Firewall, Monitor, Marker, Balancer}
use Rattle.dependency_table.specs.Actions.{all_actions, actions}
use Rattle.dependency_table.specs.Table.{pairs, first_forbidden, is_copied, copied, pair_of}
use Rattle.dependency_table.specs.declared.action.Action.TheVariants.{Drop, State}
use Rattle.graph_compile.specs.declared.graph.Branch.{Branch}
use Rattle.policy_check.specs.declared.fault.Order.{Order}
use Rattle.policy_text.specs.declared.policy.ChainPolicy.{ChainPolicy}
use Rattle.policy_text.specs.declared.policy.FunctionDecl.{FunctionDecl}
use Rattle.graph_text.specs.Faults.{faultless}
use Rattle.graph_text.specs.Graphs.{graph_of_stages, graph_due, graphs_of_utf8}
use Rattle.graph_text.specs.Listing.{after_line, listed_by}
use Rattle.graph_text.specs.declared.fault.GraphFault.TheVariants.{BadVersionLine, Syntax, UnknownName, Twice, Missing, OutOfOrder, Forbidden}

a : List ℕ → Kind → FunctionDecl
a name kind = record { name = name; line = 1; kind = kind; settings = [] }

chain_of : List ℕ → List FunctionDecl → ChainPolicy
chain_of name functions = record { name = name; line = 2; fit = record { clauses = [] }; functions = functions; statements = [] }

-- one chain of a marker, a firewall and a balancer; another whose monitor is declared before a firewall but comes later
chains : List ChainPolicy
chains = chain_of (codes "main") (a (codes "m") Marker ∷ a (codes "f") Firewall ∷ a (codes "b") Balancer ∷ []) ∷ chain_of (codes "rest") (a (codes "mon") Monitor ∷ a (codes "fw") Firewall ∷ []) ∷ []

orders : List Order
orders = (record { positions = 0 ∷ 1 ∷ 2 ∷ [] }) ∷ (record { positions = 1 ∷ 0 ∷ [] }) ∷ []

branch : List ℕ → Branch
branch positions = record { positions = positions }

-- a chain that isn't listed has no graph
one_listed : graphs_of_utf8 (codes "# by hand\r\nnfp-graph 1\n\nchain main # the first\n\tstage\nbranch m\nstage\nbranch f\nstage\nbranch b") chains orders
    ≡ Ok (Some (graph_of_stages (profile_of Marker ∷ profile_of Firewall ∷ profile_of Balancer ∷ []) ((branch (1 ∷ []) ∷ []) ∷ (branch (2 ∷ []) ∷ []) ∷ (branch (3 ∷ []) ∷ []) ∷ [])) ∷ None ∷ [])
unfolding graphs_of_utf8 listed_by after_line graph_due faultless a chain_of chains orders branch pair_of first_forbidden pairs actions all_actions is_copied copied
one_listed = refl

side_by_side : graphs_of_utf8 (codes "nfp-graph 1\nchain main\nstage\nbranch f\nbranch m\nstage\nbranch b\nchain rest\nstage\nbranch fw mon") chains orders
    ≡ Ok (Some (graph_of_stages (profile_of Marker ∷ profile_of Firewall ∷ profile_of Balancer ∷ []) ((branch (2 ∷ []) ∷ branch (1 ∷ []) ∷ []) ∷ (branch (3 ∷ []) ∷ []) ∷ [])) ∷ Some (graph_of_stages (profile_of Firewall ∷ profile_of Monitor ∷ []) ((branch (1 ∷ 2 ∷ []) ∷ []) ∷ [])) ∷ [])
unfolding graphs_of_utf8 listed_by after_line graph_due faultless a chain_of chains orders branch pair_of first_forbidden pairs actions all_actions is_copied copied
side_by_side = refl

none_listed : graphs_of_utf8 (codes "nfp-graph 1") chains orders ≡ Ok (None ∷ None ∷ [])
unfolding graphs_of_utf8 listed_by chains
none_listed = refl

-- the table forbids a firewall beside a balancer after it
drop_beside_state : graphs_of_utf8 (codes "nfp-graph 1\nchain main\nstage\nbranch m f\nbranch b") chains orders ≡ Err (Forbidden 0 1 2 Drop State)
unfolding graphs_of_utf8 listed_by after_line graph_due faultless a chain_of chains orders branch pair_of first_forbidden pairs actions all_actions is_copied copied
drop_beside_state = refl

-- functions are reported as declared, even if the order of the chain differs
monitor_first : graphs_of_utf8 (codes "nfp-graph 1\nchain rest\nstage\nbranch mon fw") chains orders ≡ Err (OutOfOrder 1 1 0)
unfolding graphs_of_utf8 listed_by after_line graph_due faultless a chain_of chains orders branch
monitor_first = refl

earlier_stage : graphs_of_utf8 (codes "nfp-graph 1\nchain main\nstage\nbranch b\nstage\nbranch f\nstage\nbranch m") chains orders ≡ Err (OutOfOrder 0 0 1)
unfolding graphs_of_utf8 listed_by after_line graph_due faultless a chain_of chains orders branch
earlier_stage = refl

missing_first : graphs_of_utf8 (codes "nfp-graph 1\nchain main\nstage\nbranch b\nstage\nbranch m") chains orders ≡ Err (Missing 0 1)
unfolding graphs_of_utf8 listed_by after_line graph_due faultless a chain_of chains orders branch
missing_first = refl

no_stage : graphs_of_utf8 (codes "nfp-graph 1\nchain main\n") chains orders ≡ Err (Missing 0 0)
unfolding graphs_of_utf8 listed_by after_line graph_due faultless a chain_of chains orders branch
no_stage = refl

-- chains are looked at in the order of the graph text
as_listed : graphs_of_utf8 (codes "nfp-graph 1\nchain rest\nstage\nbranch mon\nchain main\n") chains orders ≡ Err (Missing 1 1)
unfolding graphs_of_utf8 listed_by after_line graph_due faultless a chain_of chains orders branch
as_listed = refl

-- lines
empty_text : graphs_of_utf8 [] chains orders ≡ Err BadVersionLine
unfolding graphs_of_utf8 listed_by
empty_text = refl

policy_version : graphs_of_utf8 (codes "nfp 1\n") chains orders ≡ Err BadVersionLine
unfolding graphs_of_utf8 listed_by
policy_version = refl

stage_before_chain : graphs_of_utf8 (codes "nfp-graph 1\nstage\nbranch m") chains orders ≡ Err (Syntax 2)
unfolding graphs_of_utf8 listed_by after_line
stage_before_chain = refl

branch_before_stage : graphs_of_utf8 (codes "nfp-graph 1\nchain rest\nstage\nbranch fw mon\nchain main\nbranch m") chains orders ≡ Err (Syntax 6)
unfolding graphs_of_utf8 listed_by after_line a chain_of chains orders branch
branch_before_stage = refl

-- a stage without a branch is reported before a later line that has no form, even one meant to be the branch
stage_alone : graphs_of_utf8 (codes "nfp-graph 1\nchain main\nstage\nbranch\n") chains orders ≡ Err (Syntax 3)
unfolding graphs_of_utf8 listed_by after_line a chain_of chains
stage_alone = refl

stage_with_later_branch : graphs_of_utf8 (codes "nfp-graph 1\nchain main\nstage\nbrunch m\nbranch m\n") chains orders ≡ Err (Syntax 4)
unfolding graphs_of_utf8 listed_by after_line a chain_of chains
stage_with_later_branch = refl

stage_before_stage : graphs_of_utf8 (codes "nfp-graph 1\nchain main\nstage\nstage\nbranch m\n") chains orders ≡ Err (Syntax 3)
unfolding graphs_of_utf8 listed_by after_line a chain_of chains
stage_before_stage = refl

unknown_chain : graphs_of_utf8 (codes "nfp-graph 1\nchain other\n") chains orders ≡ Err (UnknownName 2)
unfolding graphs_of_utf8 listed_by after_line a chain_of chains
unknown_chain = refl

-- a function of another chain, though another function of the line occurs twice
function_elsewhere : graphs_of_utf8 (codes "nfp-graph 1\nchain main\nstage\nbranch m m fw\n") chains orders ≡ Err (UnknownName 4)
unfolding graphs_of_utf8 listed_by after_line a chain_of chains orders
function_elsewhere = refl

twice_in_a_branch : graphs_of_utf8 (codes "nfp-graph 1\nchain main\nstage\nbranch m f m\n") chains orders ≡ Err (Twice 4)
unfolding graphs_of_utf8 listed_by after_line a chain_of chains orders branch
twice_in_a_branch = refl

twice_in_stages : graphs_of_utf8 (codes "nfp-graph 1\nchain main\nstage\nbranch m f\nstage\nbranch b f\n") chains orders ≡ Err (Twice 6)
unfolding graphs_of_utf8 listed_by after_line a chain_of chains orders branch
twice_in_stages = refl

chain_twice : graphs_of_utf8 (codes "nfp-graph 1\nchain main\nchain rest\nchain main\n") chains orders ≡ Err (Twice 4)
unfolding graphs_of_utf8 listed_by after_line a chain_of chains orders
chain_twice = refl
