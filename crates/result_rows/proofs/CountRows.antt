-- Worked rows: functions that remember packets, after functions that drop some.
use Rattle.std.specs.Prelude.{◌≡◌, ℕ, List, ◌++◌, refl, codes}
use Rattle.std.specs.Fmt.{digits}
use Rattle.std.specs.Net.Addr.{ipv4_bits}
use Rattle.pcap_io.specs.Capture.{body_of}
use Rattle.pcap_io.specs.Written.{head_bytes, record_head}
use Rattle.packet_fields.specs.Frames.{tags_len}
use Rattle.packet_fields.specs.Packets.{is_ipv4, is_ipv6, has_transport}
use Rattle.packet_fields.specs.Checksums.{words, is_changed, change_sum, has_same_places}
use Rattle.dependency_table.specs.Actions.{all_actions, actions}
use Rattle.dependency_table.specs.Table.{pairs, first_forbidden, is_copied, copied, pair_of}
use Rattle.policy_text.specs.Grammar.{policy_of_utf8, after_line}
use Rattle.policy_check.specs.Checked.{answer_of}
use Rattle.policy_check.specs.Cycles.{cycle_back, from_earliest, named_cycle}
use Rattle.policy_check.specs.Edges.{edges_of}
use Rattle.policy_check.specs.Refusals.{first_refusal}
use Rattle.policy_check.specs.Turns.{taken, stuck}
use Rattle.policy_judge.specs.Judging.{orders_from}
use Rattle.net_functions.specs.NetFunctions.{lines_of, profile_by, step_by}
use Rattle.net_functions.specs.Builds.{making_of}
use Rattle.nf_filter.specs.Firewalls.{passes}
use Rattle.nf_filter.specs.Lines.{line_of}
use Rattle.nf_observe.specs.StateLines.{flow_line, endpoint_text, source_line}
use Rattle.first_sight.specs.Addresses.{dotted}
use Rattle.chain_walk.specs.Packets.{fates}
use Rattle.chain_walk.specs.Walk.{walk}
use Rattle.call_ending.specs.declared.outcome.Outcome.TheVariants.{Done}
use Rattle.nfp_run.specs.Written.{both}
use Rattle.nfp_run.specs.Due.{due_of_plan, due_of_run, nothing_but}
use Rattle.piece_walk.specs.PiecePackets.{passed}
use Rattle.piece_walk.specs.Pieces.{long}
use Rattle.service_walk.specs.Service.{fates_among, chains_after}
use Rattle.segment_run.specs.Counting.{copies_through}
use Rattle.graph_compile.specs.Cutting.{cut}
use Rattle.burst_walk.specs.Fates.{chains_behind, fates_of}
use Rattle.capture_run.specs.Emitted.{emitted_all, out_bytes}
use Rattle.call_ending.specs.Notes.{done_text}
use Rattle.nfp_run.specs.Plan.{plan_text}
use Rattle.packet_fields.specs.Writing.{written_in}
use Rattle.action_profile.specs.Modes.{mode_of, copies}
use Rattle.graph_compile.specs.Parts.{branch_reads, branch_writes, touch_of, stage_parts}
use Rattle.graph_compile.specs.Stages.{is_forbidden, holds_back, placed, graph_of}
use Rattle.graph_run.specs.Counting.{copies_made}
use Rattle.capture_report.specs.Report.{chain_lines, copies_due, copies_lines, drop_lines, drop_text, function_text, report_bytes, summary}
use Rattle.capture_items.specs.FaultLines.{last_line}
use Rattle.capture_items.specs.Totals.{total_line}
use Rattle.nf_observe.specs.LimiterLines.{line_of as limiter_line_of}
use Rattle.plan_text.specs.Plan.{branch_text, chain_plan, part_line, pieces_text, stage_text}
use Rattle.result_rows.proofs.Rows.{head, first, ninth, capture, worth}

-- ---- a monitor after a firewall, beside it in the graph, counts what the firewall passes

past : List ℕ
past = codes "nfp 1\nchain main\nfn fw firewall\nrule deny src 10.0.0.9\nfn mon monitor\n"

past_planned : due_of_plan (worth past)
    ≡ nothing_but Done (codes "chain main\norder fw mon\nstage 1\nbranch 1 fw\nbranch 2 mon\npart tag shared\npart src shared\npart dst shared\npart sport shared\npart dport shared\n")
unfolding worth making_of profile_by past line_of plan_text chain_plan pieces_text cut stage_text branch_text part_line digits policy_of_utf8 after_line orders_from answer_of edges_of taken stuck named_cycle from_earliest cycle_back first_refusal graph_of placed holds_back is_forbidden pair_of first_forbidden pairs actions all_actions is_copied copied stage_parts touch_of branch_reads branch_writes mode_of copies
past_planned = refl

past_written : due_of_run (worth past) capture ≡ record {
  outcome = Done;
  written = both (record {
    out = head ++ (first ++ first);
    report = codes "nfp report 1\ndrop 2 main fw\nrecords 3 emitted 2 dropped 1\nfunction main fw firewall\nfunction main mon monitor\n  flow 17 10.0.0.1 1000 10.0.0.2 53 packets 2 bytes 56\nend\n";
  });
  note = codes "done records 3 emitted 2 dropped 1\n";
}
unfolding worth making_of profile_by step_by lines_of past policy_of_utf8 after_line orders_from answer_of edges_of taken stuck named_cycle from_earliest cycle_back first_refusal head first ninth capture body_of head_bytes record_head tags_len is_ipv4 is_ipv6 walk fates long cut fates_among chains_after fates_of chains_behind emitted_all out_bytes report_bytes drop_text drop_lines total_line last_line summary done_text digits words is_changed change_sum has_same_places has_transport passes line_of function_text chain_lines copies_due copies_lines copies_through passed copies_made written_in graph_of placed holds_back is_forbidden branch_reads branch_writes touch_of stage_parts mode_of copies pair_of first_forbidden pairs actions all_actions is_copied copied flow_line endpoint_text dotted ipv4_bits
past_written = refl

-- ---- of two firewalls beside it the first comes before the monitor, and the second after it

between : List ℕ
between = codes "nfp 1\nchain main\nfn f1 firewall\nrule deny src 10.0.0.9\nfn m monitor\nfn f2 firewall\nrule deny src 10.0.0.1\n"

between_planned : due_of_plan (worth between)
    ≡ nothing_but Done (codes "chain main\norder f1 m f2\nstage 1\nbranch 1 f1\nbranch 2 m\nbranch 3 f2\npart tag shared\npart src shared\npart dst shared\npart sport shared\npart dport shared\n")
unfolding worth making_of profile_by between line_of plan_text chain_plan pieces_text cut stage_text branch_text part_line digits policy_of_utf8 after_line orders_from answer_of edges_of taken stuck named_cycle from_earliest cycle_back first_refusal graph_of placed holds_back is_forbidden pair_of first_forbidden pairs actions all_actions is_copied copied stage_parts touch_of branch_reads branch_writes mode_of copies
between_planned = refl

between_written : due_of_run (worth between) capture ≡ record {
  outcome = Done;
  written = both (record {
    out = head;
    report = codes "nfp report 1\ndrop 1 main f2\ndrop 2 main f1\ndrop 3 main f2\nrecords 3 emitted 0 dropped 3\nfunction main f1 firewall\nfunction main m monitor\n  flow 17 10.0.0.1 1000 10.0.0.2 53 packets 2 bytes 56\nfunction main f2 firewall\nend\n";
  });
  note = codes "done records 3 emitted 0 dropped 3\n";
}
unfolding worth making_of profile_by step_by lines_of between policy_of_utf8 after_line orders_from answer_of edges_of taken stuck named_cycle from_earliest cycle_back first_refusal head first ninth capture body_of head_bytes record_head tags_len is_ipv4 is_ipv6 walk fates long cut fates_among chains_after fates_of chains_behind emitted_all out_bytes report_bytes drop_text drop_lines total_line last_line summary done_text digits words is_changed change_sum has_same_places has_transport passes line_of function_text chain_lines copies_due copies_lines copies_through passed copies_made written_in graph_of placed holds_back is_forbidden branch_reads branch_writes touch_of stage_parts mode_of copies pair_of first_forbidden pairs actions all_actions is_copied copied flow_line endpoint_text dotted ipv4_bits
between_written = refl

-- ---- a limiter acts by what it remembers, so it follows the firewall in a branch, and never sees what that drops

limited : List ℕ
limited = codes "nfp 1\nchain main\nfn fw firewall\nrule deny src 10.0.0.9\nfn lim limiter\nset rate 1\nset burst 1000\n"

limited_planned : due_of_plan (worth limited)
    ≡ nothing_but Done (codes "chain main\norder fw lim\nstage 1\nbranch 1 fw lim\npart tag shared\npart src shared\npart dst shared\npart sport shared\npart dport shared\n")
unfolding worth making_of profile_by limited line_of plan_text chain_plan pieces_text cut stage_text branch_text part_line digits policy_of_utf8 after_line orders_from answer_of edges_of taken stuck named_cycle from_earliest cycle_back first_refusal graph_of placed holds_back is_forbidden pair_of first_forbidden pairs actions all_actions is_copied copied stage_parts touch_of branch_reads branch_writes mode_of copies limiter_line_of
limited_planned = refl

limited_written : due_of_run (worth limited) capture ≡ record {
  outcome = Done;
  written = both (record {
    out = head ++ (first ++ first);
    report = codes "nfp report 1\ndrop 2 main fw\nrecords 3 emitted 2 dropped 1\nfunction main fw firewall\nfunction main lim limiter\n  source 10.0.0.1 tokens 944000000000 at 0\nend\n";
  });
  note = codes "done records 3 emitted 2 dropped 1\n";
}
unfolding worth making_of profile_by step_by lines_of limited policy_of_utf8 after_line orders_from answer_of edges_of taken stuck named_cycle from_earliest cycle_back first_refusal head first ninth capture body_of head_bytes record_head tags_len is_ipv4 is_ipv6 walk fates long cut fates_among chains_after fates_of chains_behind emitted_all out_bytes report_bytes drop_text drop_lines total_line last_line summary done_text digits words is_changed change_sum has_same_places has_transport passes line_of function_text chain_lines copies_due copies_lines copies_through passed copies_made written_in graph_of placed holds_back is_forbidden branch_reads branch_writes touch_of stage_parts mode_of copies pair_of first_forbidden pairs actions all_actions is_copied copied source_line dotted ipv4_bits limiter_line_of
limited_written = refl
