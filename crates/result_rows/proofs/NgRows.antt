-- Rows of the result that are computed: pcapng captures.
use Rattle.std.specs.Prelude.{◌≡◌, ℕ, List, [], ◌∷◌, ◌++◌, refl, take, None, Result, codes}
use Rattle.std.specs.Fmt.{digits}
use Rattle.pcapng_io.specs.declared.fault.NgFault.TheVariants.{CutBlock}
use Rattle.pcapng_io.specs.Blocks.{blocks_of}
use Rattle.pcapng_io.specs.Options.{options_of, copied as copied_options}
use Rattle.pcapng_io.specs.Written.{packet_head}
use Rattle.packet_fields.specs.Frames.{tags_len}
use Rattle.packet_fields.specs.Packets.{is_ipv4, is_ipv6, has_transport}
use Rattle.packet_fields.specs.Checksums.{words, is_changed, change_sum, has_same_places}
use Rattle.dependency_table.specs.Actions.{all_actions, actions}
use Rattle.dependency_table.specs.Table.{pairs, first_forbidden, is_copied, copied, pair_of}
use Rattle.policy_text.specs.Grammar.{policy_of_utf8, after_line}
use Rattle.policy_check.specs.Checked.{answer_of}
use Rattle.policy_check.specs.Cycles.{cycle_back, from_earliest, named_cycle}
use Rattle.policy_check.specs.Edges.{edges_of}
use Rattle.policy_check.specs.Refusals.{first_refusal}
use Rattle.policy_check.specs.Turns.{taken, stuck}
use Rattle.nfp_run.specs.Preparing.{Unprepared, prepared_by}
use Rattle.nfp_run.specs.declared.prepared.Prepared.{Prepared}
use Rattle.policy_judge.specs.Judging.{judged_text, orders_from}
use Rattle.net_functions.specs.NetFunctions.{lines_of, profile_by, step_by}
use Rattle.net_functions.specs.Builds.{making_of}
use Rattle.nf_filter.specs.Firewalls.{passes}
use Rattle.nf_filter.specs.Lines.{line_of}
use Rattle.chain_walk.specs.Packets.{fates}
use Rattle.chain_walk.specs.Walk.{walk}
use Rattle.call_ending.specs.declared.outcome.Outcome.TheVariants.{Done, CaptureNg}
use Rattle.nfp_run.specs.Written.{both}
use Rattle.nfp_run.specs.Due.{due_of_run, nothing_but}
use Rattle.piece_walk.specs.PiecePackets.{passed as passed_on}
use Rattle.piece_walk.specs.Pieces.{long}
use Rattle.service_walk.specs.Service.{fates_among, chains_after}
use Rattle.segment_run.specs.Counting.{copies_through}
use Rattle.graph_compile.specs.Cutting.{cut as cut_chain}
use Rattle.burst_walk.specs.Fates.{chains_behind, fates_of}
use Rattle.capture_run.specs.EmittedNg.{ng_out_bytes}
use Rattle.capture_report.specs.Report.{chain_lines, copies_due, copies_lines, drop_lines, drop_text, function_text, report_bytes, summary}
use Rattle.capture_items.specs.FaultLines.{last_line}
use Rattle.capture_items.specs.Totals.{total_line}
use Rattle.capture_items.specs.FaultLines.{ng_text}
use Rattle.call_ending.specs.Notes.{done_text}
use Rattle.packet_fields.specs.Writing.{written_in}
use Rattle.action_profile.specs.Modes.{mode_of, copies}
use Rattle.graph_compile.specs.Parts.{branch_reads, branch_writes, touch_of, stage_parts}
use Rattle.graph_compile.specs.Stages.{is_forbidden, holds_back, placed, graph_of}
use Rattle.graph_run.specs.Counting.{copies_made}

-- no section length, little-endian
section : List ℕ
section = 10 ∷ 13 ∷ 13 ∷ 10 ∷ 28 ∷ 0 ∷ 0 ∷ 0 ∷ 77 ∷ 60 ∷ 43 ∷ 26 ∷ 1 ∷ 0 ∷ 0 ∷ 0 ∷ 255 ∷ 255 ∷ 255 ∷ 255 ∷ 255 ∷ 255 ∷ 255 ∷ 255 ∷ 28 ∷ 0 ∷ 0 ∷ 0 ∷ []

-- Ethernet, with this snaplen in its lowest byte
interface : ℕ → List ℕ
interface low = 1 ∷ 0 ∷ 0 ∷ 0 ∷ 20 ∷ 0 ∷ 0 ∷ 0 ∷ 1 ∷ 0 ∷ 0 ∷ 0 ∷ low ∷ 255 ∷ 0 ∷ 0 ∷ 20 ∷ 0 ∷ 0 ∷ 0 ∷ []

-- a UDP packet of 42 bytes from this host of 10.0.0.0/24 to 10.0.0.2, its header's checksum with this low byte
block : ℕ → ℕ → List ℕ
block sum host = 6 ∷ 0 ∷ 0 ∷ 0 ∷ 76 ∷ 0 ∷ 0 ∷ 0 ∷ 0 ∷ 0 ∷ 0 ∷ 0 ∷ 0 ∷ 0 ∷ 0 ∷ 0 ∷ 0 ∷ 0 ∷ 0 ∷ 0 ∷ 42 ∷ 0 ∷ 0 ∷ 0 ∷ 42 ∷ 0 ∷ 0 ∷ 0 ∷ 2 ∷ 0 ∷ 0 ∷ 0 ∷ 0 ∷ 2 ∷ 2 ∷ 0 ∷ 0 ∷ 0 ∷ 0 ∷ 1 ∷ 8 ∷ 0 ∷ 69 ∷ 0 ∷ 0 ∷ 28 ∷ 0 ∷ 0 ∷ 0 ∷ 0 ∷ 64 ∷ 17 ∷ 102 ∷ sum ∷ 10 ∷ 0 ∷ 0 ∷ host ∷ 10 ∷ 0 ∷ 0 ∷ 2 ∷ 3 ∷ 232 ∷ 0 ∷ 53 ∷ 0 ∷ 8 ∷ 0 ∷ 0 ∷ 0 ∷ 0 ∷ 76 ∷ 0 ∷ 0 ∷ 0 ∷ []

-- the value of a text of ASCII characters
worth : List ℕ → Result Prepared Unprepared
worth text = prepared_by None (judged_text (policy_of_utf8 text)) []

deny : List ℕ
deny = codes "nfp 1\nchain main\nfn fw firewall\nrule deny src 10.0.0.9\n"

-- a packet that passes goes out unchanged
passed : due_of_run (worth deny) (section ++ (interface 255 ++ block 207 1)) ≡ record {
  outcome = Done;
  written = both (record {
    out = section ++ (interface 255 ++ block 207 1);
    report = codes "nfp report 1\nrecords 1 emitted 1 dropped 0\nfunction main fw firewall\nend\n";
  });
  note = codes "done records 1 emitted 1 dropped 0\n";
}
unfolding worth making_of profile_by step_by lines_of deny policy_of_utf8 after_line orders_from answer_of edges_of taken stuck named_cycle from_earliest cycle_back first_refusal section interface block blocks_of options_of copied_options packet_head ng_out_bytes tags_len is_ipv4 is_ipv6 walk fates long cut_chain fates_among chains_after fates_of chains_behind report_bytes drop_text drop_lines total_line last_line ng_text summary done_text digits words is_changed change_sum has_same_places has_transport passes line_of function_text chain_lines copies_due copies_lines copies_through passed_on copies_made written_in graph_of placed holds_back is_forbidden branch_reads branch_writes touch_of stage_parts mode_of copies pair_of first_forbidden pairs actions all_actions is_copied copied
passed = refl

-- for a packet that is dropped nothing goes out
dropped : due_of_run (worth deny) (section ++ (interface 255 ++ block 199 9)) ≡ record {
  outcome = Done;
  written = both (record {
    out = section ++ interface 255;
    report = codes "nfp report 1\ndrop 1 main fw\nrecords 1 emitted 0 dropped 1\nfunction main fw firewall\nend\n";
  });
  note = codes "done records 1 emitted 0 dropped 1\n";
}
unfolding worth making_of profile_by step_by lines_of deny policy_of_utf8 after_line orders_from answer_of edges_of taken stuck named_cycle from_earliest cycle_back first_refusal section interface block blocks_of options_of copied_options packet_head ng_out_bytes tags_len is_ipv4 is_ipv6 walk fates long cut_chain fates_among chains_after fates_of chains_behind report_bytes drop_text drop_lines total_line last_line ng_text summary done_text digits words is_changed change_sum has_same_places has_transport passes line_of function_text chain_lines copies_due copies_lines copies_through passed_on copies_made written_in graph_of placed holds_back is_forbidden branch_reads branch_writes touch_of stage_parts mode_of copies pair_of first_forbidden pairs actions all_actions is_copied copied
dropped = refl

-- cut inside the packet's block: the two blocks before it stay
cut : due_of_run (worth deny) (take 100 (section ++ (interface 255 ++ block 207 1))) ≡ record {
  outcome = CaptureNg (CutBlock 3);
  written = both (record {
    out = section ++ interface 255;
    report = codes "nfp report 1\nrecords 0 emitted 0 dropped 0\nfunction main fw firewall\nfault capture: cut block 3\n";
  });
  note = codes "capture: cut block 3\n";
}
unfolding worth making_of profile_by step_by lines_of deny policy_of_utf8 after_line orders_from answer_of edges_of taken stuck named_cycle from_earliest cycle_back first_refusal section interface block blocks_of options_of copied_options packet_head ng_out_bytes tags_len is_ipv4 is_ipv6 walk fates long cut_chain fates_among chains_after fates_of chains_behind report_bytes drop_text drop_lines total_line last_line ng_text summary done_text digits words is_changed change_sum has_same_places has_transport passes line_of function_text chain_lines copies_due copies_lines copies_through passed_on copies_made written_in graph_of placed holds_back is_forbidden branch_reads branch_writes touch_of stage_parts mode_of copies pair_of first_forbidden pairs actions all_actions is_copied copied
cut = refl

-- a first block that is cut leaves nothing to write
cut_first : due_of_run (worth deny) (take 9 section) ≡ nothing_but (CaptureNg (CutBlock 1)) (codes "capture: cut block 1\n")
unfolding worth making_of profile_by step_by lines_of deny policy_of_utf8 after_line orders_from answer_of edges_of taken stuck named_cycle from_earliest cycle_back first_refusal section interface block blocks_of options_of copied_options packet_head ng_out_bytes tags_len is_ipv4 is_ipv6 walk fates long cut_chain fates_among chains_after fates_of chains_behind report_bytes drop_text drop_lines total_line last_line ng_text summary done_text digits words is_changed change_sum has_same_places has_transport passes line_of function_text chain_lines copies_due copies_lines copies_through passed_on copies_made written_in graph_of placed holds_back is_forbidden branch_reads branch_writes touch_of stage_parts mode_of copies pair_of first_forbidden pairs actions all_actions is_copied copied
cut_first = refl
