-- Worked rows: hand-written graphs.
use Rattle.std.specs.Prelude.{◌≡◌, ℕ, List, [], ◌∷◌, ◌++◌, refl, Result, Ok, Err, codes}
use Rattle.std.specs.Fmt.{digits}
use Rattle.std.specs.Net.Addr.{ipv4_bits}
use Rattle.pcap_io.specs.Capture.{body_of}
use Rattle.pcap_io.specs.Written.{head_bytes, record_head}
use Rattle.packet_fields.specs.Frames.{tags_len}
use Rattle.packet_fields.specs.Packets.{is_ipv4, is_ipv6, has_transport}
use Rattle.packet_fields.specs.Checksums.{words, is_changed, change_sum, has_same_places}
use Rattle.dependency_table.specs.Actions.{all_actions, actions}
use Rattle.dependency_table.specs.declared.action.Action.TheVariants.{Drop, State}
use Rattle.dependency_table.specs.Table.{pairs, first_forbidden, is_copied, copied, pair_of}
use Rattle.policy_text.specs.Grammar.{policy_of_utf8, after_line}
use Rattle.policy_text.specs.declared.fault.TextFault.TheVariants.{BadVersionLine}
use Rattle.policy_check.specs.Checked.{answer_of}
use Rattle.policy_check.specs.Cycles.{cycle_back, from_earliest, named_cycle}
use Rattle.policy_check.specs.Edges.{edges_of}
use Rattle.policy_check.specs.Refusals.{first_refusal}
use Rattle.policy_check.specs.Turns.{taken, stuck}
use Rattle.policy_judge.specs.declared.fault.PolicyFault.TheVariants.{Text}
use Rattle.nfp_run.specs.Preparing.{Unprepared}
use Rattle.nfp_run.specs.declared.prepared.Prepared.{Prepared}
use Rattle.policy_judge.specs.Judging.{judged_text, orders_from}
use Rattle.policy_judge.specs.Lines.{text_line}
use Rattle.net_functions.specs.NetFunctions.{lines_of, profile_by, step_by}
use Rattle.net_functions.specs.Builds.{making_of}
use Rattle.nf_filter.specs.Firewalls.{passes}
use Rattle.nf_filter.specs.Lines.{line_of}
use Rattle.nf_observe.specs.StateLines.{flow_line, endpoint_text}
use Rattle.first_sight.specs.Addresses.{dotted}
use Rattle.chain_walk.specs.Packets.{fates}
use Rattle.chain_walk.specs.Walk.{walk}
use Rattle.call_ending.specs.declared.outcome.Outcome.TheVariants.{Done, Graph, Policy}
use Rattle.nfp_run.specs.Written.{both}
use Rattle.nfp_run.specs.Due.{due_of_plan, due_of_run, nothing_but}
use Rattle.piece_walk.specs.PiecePackets.{passed}
use Rattle.piece_walk.specs.Pieces.{long}
use Rattle.service_walk.specs.Service.{fates_among, chains_after}
use Rattle.segment_run.specs.Counting.{copies_through}
use Rattle.graph_compile.specs.Cutting.{cut}
use Rattle.burst_walk.specs.Fates.{chains_behind, fates_of}
use Rattle.capture_run.specs.Emitted.{emitted_all, out_bytes}
use Rattle.call_ending.specs.Notes.{done_text}
use Rattle.nfp_run.specs.Plan.{plan_text}
use Rattle.packet_fields.specs.Writing.{written_in}
use Rattle.action_profile.specs.Modes.{mode_of, copies}
use Rattle.graph_compile.specs.Parts.{branch_reads, branch_writes, touch_of, stage_parts}
use Rattle.graph_compile.specs.Stages.{is_forbidden, holds_back, placed, graph_of}
use Rattle.graph_run.specs.Counting.{copies_made}
use Rattle.capture_report.specs.Report.{chain_lines, copies_due, copies_lines, drop_lines, drop_text, function_text, report_bytes, summary}
use Rattle.capture_items.specs.FaultLines.{last_line}
use Rattle.capture_items.specs.Totals.{total_line}
use Rattle.graph_text.specs.Faults.{faultless}
use Rattle.graph_text.specs.Graphs.{graph_due, graphs_of_utf8}
use Rattle.graph_text.specs.Listing.{after_line as graph_after_line, listed_by}
use Rattle.graph_text.specs.declared.fault.GraphFault.TheVariants.{Forbidden, Missing, OutOfOrder}
use Rattle.nf_translate.specs.BalancerLines.{line_of as balancer_line_of}
use Rattle.nfp_run.specs.GraphLines.{forbidden_line, graph_at_line, graph_line, pair_line}
use Rattle.nfp_run.specs.Preparing.{ByPolicy, prepared_with}
use Rattle.plan_text.specs.Plan.{branch_text, chain_plan, part_line, stage_text}
use Rattle.policy_judge.specs.declared.fault.Refusal.{Refusal}
use Rattle.policy_judge.specs.declared.judged.Judged.{Judged}

-- version 2.4, snaplen 65535, Ethernet
head : List ℕ
head = 212 ∷ 195 ∷ 178 ∷ 161 ∷ 2 ∷ 0 ∷ 4 ∷ 0 ∷ 0 ∷ 0 ∷ 0 ∷ 0 ∷ 0 ∷ 0 ∷ 0 ∷ 0 ∷ 255 ∷ 255 ∷ 0 ∷ 0 ∷ 1 ∷ 0 ∷ 0 ∷ 0 ∷ []

-- a UDP packet of 42 bytes from 10.0.0.1 to 10.0.0.2, and its record
first : List ℕ
first = 0 ∷ 0 ∷ 0 ∷ 0 ∷ 0 ∷ 0 ∷ 0 ∷ 0 ∷ 42 ∷ 0 ∷ 0 ∷ 0 ∷ 42 ∷ 0 ∷ 0 ∷ 0 ∷ 2 ∷ 0 ∷ 0 ∷ 0 ∷ 0 ∷ 2 ∷ 2 ∷ 0 ∷ 0 ∷ 0 ∷ 0 ∷ 1 ∷ 8 ∷ 0 ∷ 69 ∷ 0 ∷ 0 ∷ 28 ∷ 0 ∷ 0 ∷ 0 ∷ 0 ∷ 64 ∷ 17 ∷ 102 ∷ 207 ∷ 10 ∷ 0 ∷ 0 ∷ 1 ∷ 10 ∷ 0 ∷ 0 ∷ 2 ∷ 3 ∷ 232 ∷ 0 ∷ 53 ∷ 0 ∷ 8 ∷ 0 ∷ 0 ∷ []

-- the same from 10.0.0.9
ninth : List ℕ
ninth = 0 ∷ 0 ∷ 0 ∷ 0 ∷ 0 ∷ 0 ∷ 0 ∷ 0 ∷ 42 ∷ 0 ∷ 0 ∷ 0 ∷ 42 ∷ 0 ∷ 0 ∷ 0 ∷ 2 ∷ 0 ∷ 0 ∷ 0 ∷ 0 ∷ 2 ∷ 2 ∷ 0 ∷ 0 ∷ 0 ∷ 0 ∷ 1 ∷ 8 ∷ 0 ∷ 69 ∷ 0 ∷ 0 ∷ 28 ∷ 0 ∷ 0 ∷ 0 ∷ 0 ∷ 64 ∷ 17 ∷ 102 ∷ 199 ∷ 10 ∷ 0 ∷ 0 ∷ 9 ∷ 10 ∷ 0 ∷ 0 ∷ 2 ∷ 3 ∷ 232 ∷ 0 ∷ 53 ∷ 0 ∷ 8 ∷ 0 ∷ 0 ∷ []

capture : List ℕ
capture = head ++ (first ++ (ninth ++ first))

-- a policy in UTF-8 and graphs in UTF-8, read
with_graphs : Result Judged Refusal → List ℕ → Result Prepared Unprepared
with_graphs (Ok policy) text = prepared_with policy (graphs_of_utf8 text policy.policy.chains policy.orders)
with_graphs (Err refusal) text = Err (ByPolicy refusal)

worth : List ℕ → List ℕ → Result Prepared Unprepared
worth policy text = with_graphs (judged_text (policy_of_utf8 policy)) text

-- ---- a monitor and a firewall in one branch: what is written stays the same

counting : List ℕ
counting = codes "nfp 1\nchain main\nfn mon monitor\nfn fw firewall\nrule deny src 10.0.0.9\norder mon before fw\n"

one_branch : List ℕ
one_branch = codes "nfp-graph 1\nchain main\nstage\nbranch mon fw\n"

in_one_branch : due_of_run (worth counting one_branch) capture ≡ record {
  outcome = Done;
  written = both (record {
    out = head ++ (first ++ first);
    report = codes "nfp report 1\ndrop 2 main fw\nrecords 3 emitted 2 dropped 1\nfunction main mon monitor\n  flow 17 10.0.0.1 1000 10.0.0.2 53 packets 2 bytes 56\n  flow 17 10.0.0.9 1000 10.0.0.2 53 packets 1 bytes 28\nfunction main fw firewall\nend\n";
  });
  note = codes "done records 3 emitted 2 dropped 1\n";
}
unfolding worth with_graphs one_branch graphs_of_utf8 listed_by graph_after_line graph_due faultless making_of profile_by step_by lines_of counting policy_of_utf8 after_line orders_from answer_of edges_of taken stuck named_cycle from_earliest cycle_back first_refusal head first ninth capture body_of head_bytes record_head tags_len is_ipv4 is_ipv6 walk fates long cut fates_among chains_after fates_of chains_behind emitted_all out_bytes report_bytes drop_text drop_lines total_line last_line summary done_text digits words is_changed change_sum has_same_places has_transport passes line_of function_text chain_lines copies_due copies_lines copies_through passed copies_made written_in graph_of placed holds_back is_forbidden branch_reads branch_writes touch_of stage_parts mode_of copies pair_of first_forbidden pairs actions all_actions is_copied copied flow_line endpoint_text dotted ipv4_bits
in_one_branch = refl

-- ---- a monitor, a firewall and a balancer

balanced : List ℕ
balanced = codes "nfp 1\nchain main\nfn m monitor\nfn f firewall\nrule deny src 10.0.0.9\nfn b balancer\nset vip 10.0.0.2\nrule backend 10.9.0.1\nrule backend 10.9.0.2\n"

-- the firewall may drop what the balancer, which keeps a state, may not see
forbidden : due_of_run (worth balanced (codes "nfp-graph 1\nchain main\nstage\nbranch m f\nbranch b\n")) []
    ≡ nothing_but (Graph (Forbidden 0 1 2 Drop State)) (codes "graph: f before b forbidden: drop before state\n")
unfolding worth with_graphs balanced making_of profile_by line_of balancer_line_of graphs_of_utf8 listed_by graph_after_line graph_due faultless graph_line forbidden_line pair_line graph_at_line plan_text chain_plan stage_text branch_text part_line digits policy_of_utf8 after_line orders_from answer_of edges_of taken stuck named_cycle from_earliest cycle_back first_refusal pair_of first_forbidden pairs actions all_actions is_copied copied stage_parts touch_of branch_reads branch_writes mode_of copies
forbidden = refl

-- in two stages nothing is copied
two_stages : due_of_plan (worth balanced (codes "nfp-graph 1\nchain main\nstage\nbranch m\nbranch f\nstage\nbranch b\n"))
    ≡ nothing_but Done (codes "chain main\norder m f b\nstage 1\nbranch 1 m\nbranch 2 f\npart tag shared\npart src shared\npart dst shared\npart sport shared\npart dport shared\nstage 2\nbranch 1 b\npart src shared\npart dst moved 1\npart sport shared\n")
unfolding worth with_graphs balanced making_of profile_by line_of balancer_line_of graphs_of_utf8 listed_by graph_after_line graph_due faultless graph_line forbidden_line pair_line graph_at_line plan_text chain_plan stage_text branch_text part_line digits policy_of_utf8 after_line orders_from answer_of edges_of taken stuck named_cycle from_earliest cycle_back first_refusal pair_of first_forbidden pairs actions all_actions is_copied copied stage_parts touch_of branch_reads branch_writes mode_of copies
two_stages = refl

missing : due_of_plan (worth balanced (codes "nfp-graph 1\nchain main\nstage\nbranch m b\n")) ≡ nothing_but (Graph (Missing 0 1)) (codes "graph: missing f\n")
unfolding worth with_graphs balanced making_of profile_by line_of balancer_line_of graphs_of_utf8 listed_by graph_after_line graph_due faultless graph_line forbidden_line pair_line graph_at_line plan_text chain_plan stage_text branch_text part_line digits policy_of_utf8 after_line orders_from answer_of edges_of taken stuck named_cycle from_earliest cycle_back first_refusal pair_of first_forbidden pairs actions all_actions is_copied copied stage_parts touch_of branch_reads branch_writes mode_of copies
missing = refl

turned_round : due_of_plan (worth balanced (codes "nfp-graph 1\nchain main\nstage\nbranch f m\nstage\nbranch b\n")) ≡ nothing_but (Graph (OutOfOrder 0 0 1)) (codes "graph: m before f out of order\n")
unfolding worth with_graphs balanced making_of profile_by line_of balancer_line_of graphs_of_utf8 listed_by graph_after_line graph_due faultless graph_line forbidden_line pair_line graph_at_line plan_text chain_plan stage_text branch_text part_line digits policy_of_utf8 after_line orders_from answer_of edges_of taken stuck named_cycle from_earliest cycle_back first_refusal pair_of first_forbidden pairs actions all_actions is_copied copied stage_parts touch_of branch_reads branch_writes mode_of copies
turned_round = refl

-- a policy's fault is reported before that of the graphs
policy_first : due_of_plan (worth (codes "nfp 2\n") (codes "nfp-graph 2\n")) ≡ nothing_but (Policy (Text BadVersionLine)) (codes "policy: bad version line\n")
unfolding worth with_graphs text_line policy_of_utf8
policy_first = refl
