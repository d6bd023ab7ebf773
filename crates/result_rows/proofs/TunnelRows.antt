-- Rows of the result that are computed: tunnels.
use Rattle.std.specs.Prelude.{◌≡◌, ℕ, List, [], ◌∷◌, ◌++◌, refl, None, Result, codes}
use Rattle.std.specs.Fmt.{digits}
use Rattle.pcap_io.specs.Capture.{body_of}
use Rattle.pcap_io.specs.Written.{head_bytes, record_head}
use Rattle.internet_checksum.specs.Checksums.{checksum_of}
use Rattle.packet_fields.specs.Frames.{tags_len}
use Rattle.packet_fields.specs.Packets.{is_ipv4, is_ipv6, has_transport}
use Rattle.packet_fields.specs.Checksums.{words, is_changed, change_sum, has_same_places}
use Rattle.packet_fields.specs.Writing.{written_in}
use Rattle.packet_fields.specs.declared.field.Field.TheVariants.{SrcIp}
use Rattle.action_profile.specs.Modes.{mode_of, copies}
use Rattle.dependency_table.specs.Actions.{all_actions, actions}
use Rattle.dependency_table.specs.Table.{pairs, first_forbidden, is_copied, copied, pair_of}
use Rattle.dependency_table.specs.declared.action.Action.TheVariants.{Read, Whole}
use Rattle.graph_compile.specs.Parts.{branch_reads, branch_writes, touch_of, stage_parts}
use Rattle.graph_compile.specs.Stages.{is_forbidden, holds_back, placed, graph_of}
use Rattle.policy_text.specs.Grammar.{policy_of_utf8, after_line}
use Rattle.policy_check.specs.declared.fault.CheckFault.TheVariants.{PriorityForbidden}
use Rattle.policy_check.specs.Checked.{answer_of}
use Rattle.policy_check.specs.Cycles.{cycle_back, from_earliest, named_cycle}
use Rattle.policy_check.specs.Edges.{edges_of}
use Rattle.policy_check.specs.Refusals.{first_refusal}
use Rattle.policy_check.specs.Turns.{taken, stuck}
use Rattle.policy_judge.specs.declared.fault.PolicyFault.TheVariants.{BadSetting, Check}
use Rattle.nfp_run.specs.Preparing.{Unprepared, prepared_by}
use Rattle.nfp_run.specs.declared.prepared.Prepared.{Prepared}
use Rattle.policy_judge.specs.Judging.{judged_text, orders_from}
use Rattle.policy_judge.specs.Lines.{setting_line, check_line, priority_line}
use Rattle.net_functions.specs.NetFunctions.{lines_of, profile_by, step_by}
use Rattle.net_functions.specs.Builds.{making_of}
use Rattle.nf_mark.specs.MarkerLines.{line_of as marker_line_of}
use Rattle.nf_mark.specs.Markers.{tos_for}
use Rattle.nf_tunnel.specs.OuterHeaders.{outer_header}
use Rattle.nf_tunnel.specs.TunnelLines.{entry_line_of, exit_line_of}
use Rattle.nf_tunnel.specs.Tunnels.{enters, leaves}
use Rattle.chain_walk.specs.Packets.{fates}
use Rattle.chain_walk.specs.Walk.{walk}
use Rattle.piece_walk.specs.PiecePackets.{passed}
use Rattle.piece_walk.specs.Pieces.{long}
use Rattle.service_walk.specs.Service.{fates_among, chains_after}
use Rattle.graph_run.specs.Counting.{copies_made}
use Rattle.segment_run.specs.Counting.{copies_through}
use Rattle.graph_compile.specs.Cutting.{cut}
use Rattle.burst_walk.specs.Fates.{chains_behind, fates_of}
use Rattle.capture_run.specs.Emitted.{emitted_all, out_bytes}
use Rattle.capture_report.specs.Report.{chain_lines, copies_due, copies_lines, drop_lines, drop_text, function_text, report_bytes, summary}
use Rattle.capture_items.specs.FaultLines.{last_line}
use Rattle.capture_items.specs.Totals.{total_line}
use Rattle.call_ending.specs.declared.outcome.Outcome.TheVariants.{Done, Policy}
use Rattle.nfp_run.specs.Due.{due_of_run, nothing_but}
use Rattle.call_ending.specs.Notes.{done_text}
use Rattle.nfp_run.specs.Written.{both}

-- version 2.4, Ethernet, with a snaplen of these low three bytes
head : ℕ → ℕ → ℕ → List ℕ
head low middle high = 212 ∷ 195 ∷ 178 ∷ 161 ∷ 2 ∷ 0 ∷ 4 ∷ 0 ∷ 0 ∷ 0 ∷ 0 ∷ 0 ∷ 0 ∷ 0 ∷ 0 ∷ 0 ∷ low ∷ middle ∷ high ∷ 0 ∷ 1 ∷ 0 ∷ 0 ∷ 0 ∷ []

-- the head of the record of a frame of this number of bytes, and of the frame its link addresses and its EtherType
front : ℕ → List ℕ
front length = 0 ∷ 0 ∷ 0 ∷ 0 ∷ 0 ∷ 0 ∷ 0 ∷ 0 ∷ length ∷ 0 ∷ 0 ∷ 0 ∷ length ∷ 0 ∷ 0 ∷ 0 ∷ 2 ∷ 0 ∷ 0 ∷ 0 ∷ 0 ∷ 2 ∷ 2 ∷ 0 ∷ 0 ∷ 0 ∷ 0 ∷ 1 ∷ 8 ∷ 0 ∷ []

-- UDP from 10.0.0.1:1000 to 10.0.0.2:53, without data, with this type of service and this low byte of the header's
-- checksum
datagram : ℕ → ℕ → List ℕ
datagram tos sum = 69 ∷ tos ∷ 0 ∷ 28 ∷ 0 ∷ 0 ∷ 0 ∷ 0 ∷ 64 ∷ 17 ∷ 0x66 ∷ sum ∷ 10 ∷ 0 ∷ 0 ∷ 1 ∷ 10 ∷ 0 ∷ 0 ∷ 2 ∷ 3 ∷ 0xe8 ∷ 0 ∷ 53 ∷ 0 ∷ 8 ∷ 0 ∷ 0 ∷ []

-- an outer header from 192.0.2.1 to 192.0.2.2 before it
outer : ℕ → ℕ → List ℕ
outer tos sum = 69 ∷ tos ∷ 0 ∷ 48 ∷ 0 ∷ 0 ∷ 0 ∷ 0 ∷ 64 ∷ 4 ∷ 0xf6 ∷ sum ∷ 192 ∷ 0 ∷ 2 ∷ 1 ∷ 192 ∷ 0 ∷ 2 ∷ 2 ∷ []

capture : List ℕ
capture = head 255 255 0 ++ (front 42 ++ datagram 0 0xcf)

worth : List ℕ → Result Prepared Unprepared
worth text = prepared_by None (judged_text (policy_of_utf8 text)) []

-- a packet enters a tunnel, and the snaplen grows by the outer header
entry : List ℕ
entry = codes "nfp 1\nchain main\nfn e encap\nset entry 192.0.2.1\nset exit 192.0.2.2\nset ttl 64\n"

entry_written : due_of_run (worth entry) capture ≡ record {
  outcome = Done;
  written = both (record {
    out = head 19 0 1 ++ (front 62 ++ (outer 0 0xc6 ++ datagram 0 0xcf));
    report = codes "nfp report 1\nrecords 1 emitted 1 dropped 0\nfunction main e encap\nend\n";
  });
  note = codes "done records 1 emitted 1 dropped 0\n";
}
unfolding worth making_of profile_by step_by lines_of entry_line_of exit_line_of entry policy_of_utf8 after_line orders_from answer_of edges_of taken stuck named_cycle from_earliest cycle_back first_refusal head body_of head_bytes record_head tags_len is_ipv4 is_ipv6 walk fates long cut fates_among chains_after fates_of chains_behind emitted_all out_bytes report_bytes drop_text drop_lines total_line last_line summary done_text digits words is_changed change_sum has_same_places has_transport function_text chain_lines copies_due copies_lines copies_through passed copies_made written_in graph_of placed holds_back is_forbidden branch_reads branch_writes touch_of stage_parts mode_of copies pair_of first_forbidden pairs actions all_actions is_copied copied front datagram outer capture enters outer_header checksum_of
entry_written = refl

-- a marker before it marks the packet, whose checksum is adjusted before the outer header copies the mark
marked : List ℕ
marked = codes "nfp 1\nchain main\nfn m marker\nrule tos 8\nfn e encap\nset entry 192.0.2.1\nset exit 192.0.2.2\nset ttl 64\norder m before e\n"

marked_written : due_of_run (worth marked) capture ≡ record {
  outcome = Done;
  written = both (record {
    out = head 19 0 1 ++ (front 62 ++ (outer 8 0xbe ++ datagram 8 0xc7));
    report = codes "nfp report 1\nrecords 1 emitted 1 dropped 0\nfunction main m marker\nfunction main e encap\nend\n";
  });
  note = codes "done records 1 emitted 1 dropped 0\n";
}
unfolding worth making_of profile_by step_by lines_of entry_line_of exit_line_of marker_line_of tos_for marked policy_of_utf8 after_line orders_from answer_of edges_of taken stuck named_cycle from_earliest cycle_back first_refusal head body_of head_bytes record_head tags_len is_ipv4 is_ipv6 walk fates long cut fates_among chains_after fates_of chains_behind emitted_all out_bytes report_bytes drop_text drop_lines total_line last_line summary done_text digits words is_changed change_sum has_same_places has_transport function_text chain_lines copies_due copies_lines copies_through passed copies_made written_in graph_of placed holds_back is_forbidden branch_reads branch_writes touch_of stage_parts mode_of copies pair_of first_forbidden pairs actions all_actions is_copied copied front datagram outer capture enters outer_header checksum_of
marked_written = refl

-- after the tunnel's exit it is the marked packet again
through : List ℕ
through = codes "nfp 1\nchain main\nfn m marker\nrule tos 8\nfn e encap\nset entry 192.0.2.1\nset exit 192.0.2.2\nset ttl 64\nfn d decap\nset exit 192.0.2.2\norder m before e\norder e before d\n"

through_written : due_of_run (worth through) capture ≡ record {
  outcome = Done;
  written = both (record {
    out = head 19 0 1 ++ (front 42 ++ datagram 8 0xc7);
    report = codes "nfp report 1\nrecords 1 emitted 1 dropped 0\nfunction main m marker\nfunction main e encap\nfunction main d decap\nend\n";
  });
  note = codes "done records 1 emitted 1 dropped 0\n";
}
unfolding worth making_of profile_by step_by lines_of entry_line_of exit_line_of marker_line_of tos_for through policy_of_utf8 after_line orders_from answer_of edges_of taken stuck named_cycle from_earliest cycle_back first_refusal head body_of head_bytes record_head tags_len is_ipv4 is_ipv6 walk fates long cut fates_among chains_after fates_of chains_behind emitted_all out_bytes report_bytes drop_text drop_lines total_line last_line summary done_text digits words is_changed change_sum has_same_places has_transport function_text chain_lines copies_due copies_lines copies_through passed copies_made written_in graph_of placed holds_back is_forbidden branch_reads branch_writes touch_of stage_parts mode_of copies pair_of first_forbidden pairs actions all_actions is_copied copied front datagram outer capture enters leaves outer_header checksum_of
through_written = refl

-- a marker over an entry, which rewrites what the marker reads
over_entry : List ℕ
over_entry = codes "nfp 1\nchain main\nfn m marker\nrule tos 8\nfn e encap\nset entry 192.0.2.1\nset exit 192.0.2.2\nset ttl 64\npriority m > e\n"

forbidden : due_of_run (worth over_entry) []
    ≡ nothing_but (Policy (Check 0 (PriorityForbidden 0 1 9 Whole (Read SrcIp)))) (codes "policy: line 9: priority m over e forbidden: whole before read src\n")
unfolding worth over_entry making_of marker_line_of entry_line_of check_line priority_line digits pair_of first_forbidden pairs actions all_actions is_copied copied policy_of_utf8 after_line orders_from answer_of edges_of taken stuck named_cycle from_earliest cycle_back first_refusal
forbidden = refl

-- an entry without a time to live is reported with its own line
no_ttl : due_of_run (worth (codes "nfp 1\nchain main\nfn e encap\nset entry 192.0.2.1\nset exit 192.0.2.2\n")) [] ≡ nothing_but (Policy (BadSetting 3)) (codes "policy: line 3: bad setting\n")
unfolding worth making_of setting_line digits entry_line_of policy_of_utf8 after_line
no_ttl = refl
