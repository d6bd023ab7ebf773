-- Worked rows, computed by the definitions.
use Rattle.std.specs.Prelude.{◌≡◌, ◌==◌, ℕ, List, [], ◌∷◌, ◌++◌, refl, take, slice_index, None, Result, Ok, Err, codes}
use Rattle.std.specs.List.{slice_split}
use Rattle.std.specs.Fmt.{digits}
use Rattle.std.specs.Net.Addr.{ipv4_bits}
use Rattle.pcap_io.specs.declared.capture.CaptureFault.TheVariants.{CutRecord, CutHead}
use Rattle.pcap_io.specs.Capture.{body_of}
use Rattle.capture_bytes.specs.declared.order.Endian.TheVariants.{Little}
use Rattle.capture_bytes.specs.declared.packet.Unit.TheVariants.{Micro}
use Rattle.pcap_io.specs.Written.{head_bytes, record_head}
use Rattle.packet_fields.specs.Frames.{tags_len}
use Rattle.packet_fields.specs.Packets.{is_ipv4, is_ipv6, has_transport}
use Rattle.packet_fields.specs.Checksums.{words, is_changed, change_sum, has_same_places}
use Rattle.dependency_table.specs.Actions.{all_actions, actions}
use Rattle.dependency_table.specs.Table.{pairs, first_forbidden, is_copied, copied, pair_of}
use Rattle.dependency_table.specs.declared.action.Action.TheVariants.{Read, Write}
use Rattle.packet_fields.specs.declared.field.Field.TheVariants.{SrcIp}
use Rattle.policy_text.specs.Grammar.{policy_of_utf8, after_line}
use Rattle.policy_text.specs.declared.policy.Policy.{Policy as PolicyRead}
use Rattle.policy_text.specs.declared.fault.TextFault.{TextFault}
use Rattle.policy_text.specs.declared.fault.TextFault.TheVariants.{BadVersionLine, NotUtf8}
use Rattle.policy_check.specs.declared.fault.CheckFault.TheVariants.{Cycle, PriorityForbidden}
use Rattle.policy_check.specs.Checked.{answer_of}
use Rattle.policy_check.specs.Cycles.{cycle_back, from_earliest, named_cycle}
use Rattle.policy_check.specs.Edges.{edges_of}
use Rattle.policy_check.specs.Refusals.{first_refusal}
use Rattle.policy_check.specs.Turns.{taken, stuck}
use Rattle.policy_judge.specs.declared.fault.PolicyFault.TheVariants.{Text, BadSetting, Check}
use Rattle.nfp_run.specs.Preparing.{Unprepared, prepared_by}
use Rattle.nfp_run.specs.declared.prepared.Prepared.{Prepared}
use Rattle.policy_judge.specs.Judging.{judged_text, orders_from}
use Rattle.policy_judge.specs.Lines.{text_line, setting_line, check_line, priority_line}
use Rattle.net_functions.specs.NetFunctions.{lines_of, profile_by, step_by}
use Rattle.net_functions.specs.Builds.{making_of}
use Rattle.nf_filter.specs.Firewalls.{passes}
use Rattle.nf_filter.specs.Lines.{line_of}
use Rattle.nf_translate.specs.NatLines.{line_of as nat_line_of}
use Rattle.nf_observe.specs.StateLines.{flow_line, endpoint_text}
use Rattle.first_sight.specs.Addresses.{dotted}
use Rattle.chain_walk.specs.Packets.{fates}
use Rattle.chain_walk.specs.Walk.{walk}
use Rattle.command_words.specs.declared.usage.UsageFault.TheVariants.{Merge}
use Rattle.command_words.specs.Given.{given_by}
use Rattle.call_ending.specs.declared.outcome.Outcome.TheVariants.{Done, Usage, Policy, Capture}
use Rattle.nfp_run.specs.Written.{both}
use Rattle.nfp_run.specs.Due.{Due, due, due_of_plan, due_of_run, nothing_but}
use Rattle.piece_walk.specs.PiecePackets.{passed}
use Rattle.piece_walk.specs.Pieces.{long}
use Rattle.service_walk.specs.Service.{fates_among, chains_after}
use Rattle.segment_run.specs.Counting.{copies_through}
use Rattle.graph_compile.specs.Cutting.{cut}
use Rattle.burst_walk.specs.Fates.{chains_behind, fates_of}
use Rattle.capture_run.specs.Emitted.{emitted_all, out_bytes}
use Rattle.capture_report.specs.Report.{chain_lines, copies_due, copies_lines, copies_text, drop_lines, drop_text, function_text, report_bytes, summary}
use Rattle.capture_items.specs.FaultLines.{last_line}
use Rattle.capture_items.specs.Totals.{total_line}
use Rattle.capture_items.specs.FaultLines.{capture_text}
use Rattle.nfp_run.specs.Heads.{written_head}
use Rattle.call_ending.specs.Notes.{done_text}
use Rattle.nfp_run.specs.Plan.{plan_text}
use Rattle.packet_fields.specs.Writing.{written_in}
use Rattle.packet_fields.specs.Fields.{number_of}
use Rattle.action_profile.specs.Modes.{mode_of, copies}
use Rattle.graph_compile.specs.Parts.{branch_reads, branch_writes, touch_of, stage_parts}
use Rattle.graph_compile.specs.Stages.{is_forbidden, holds_back, placed, graph_of}
use Rattle.graph_run.specs.Counting.{copies_made}

-- version 2.4, snaplen 65535, Ethernet
unfoldable pub head : List ℕ
head = 212 ∷ 195 ∷ 178 ∷ 161 ∷ 2 ∷ 0 ∷ 4 ∷ 0 ∷ 0 ∷ 0 ∷ 0 ∷ 0 ∷ 0 ∷ 0 ∷ 0 ∷ 0 ∷ 255 ∷ 255 ∷ 0 ∷ 0 ∷ 1 ∷ 0 ∷ 0 ∷ 0 ∷ []

-- a UDP packet of 42 bytes from 10.0.0.1 to 10.0.0.2, and its record
unfoldable pub first : List ℕ
first = 0 ∷ 0 ∷ 0 ∷ 0 ∷ 0 ∷ 0 ∷ 0 ∷ 0 ∷ 42 ∷ 0 ∷ 0 ∷ 0 ∷ 42 ∷ 0 ∷ 0 ∷ 0 ∷ 2 ∷ 0 ∷ 0 ∷ 0 ∷ 0 ∷ 2 ∷ 2 ∷ 0 ∷ 0 ∷ 0 ∷ 0 ∷ 1 ∷ 8 ∷ 0 ∷ 69 ∷ 0 ∷ 0 ∷ 28 ∷ 0 ∷ 0 ∷ 0 ∷ 0 ∷ 64 ∷ 17 ∷ 102 ∷ 207 ∷ 10 ∷ 0 ∷ 0 ∷ 1 ∷ 10 ∷ 0 ∷ 0 ∷ 2 ∷ 3 ∷ 232 ∷ 0 ∷ 53 ∷ 0 ∷ 8 ∷ 0 ∷ 0 ∷ []

-- the same from 10.0.0.9
unfoldable pub ninth : List ℕ
ninth = 0 ∷ 0 ∷ 0 ∷ 0 ∷ 0 ∷ 0 ∷ 0 ∷ 0 ∷ 42 ∷ 0 ∷ 0 ∷ 0 ∷ 42 ∷ 0 ∷ 0 ∷ 0 ∷ 2 ∷ 0 ∷ 0 ∷ 0 ∷ 0 ∷ 2 ∷ 2 ∷ 0 ∷ 0 ∷ 0 ∷ 0 ∷ 1 ∷ 8 ∷ 0 ∷ 69 ∷ 0 ∷ 0 ∷ 28 ∷ 0 ∷ 0 ∷ 0 ∷ 0 ∷ 64 ∷ 17 ∷ 102 ∷ 199 ∷ 10 ∷ 0 ∷ 0 ∷ 9 ∷ 10 ∷ 0 ∷ 0 ∷ 2 ∷ 3 ∷ 232 ∷ 0 ∷ 53 ∷ 0 ∷ 8 ∷ 0 ∷ 0 ∷ []

unfoldable pub capture : List ℕ
capture = head ++ (first ++ (ninth ++ first))

-- the value of a text of ASCII characters
unfoldable pub worth : List ℕ → Result Prepared Unprepared
worth text = prepared_by None (judged_text (policy_of_utf8 text)) []

deny : List ℕ
deny = codes "nfp 1\nchain main\nfn fw firewall\nrule deny src 10.0.0.9\n"

-- the second packet is dropped
deny_written : due_of_run (worth deny) capture ≡ record {
  outcome = Done;
  written = both (record {
    out = head ++ (first ++ first);
    report = codes "nfp report 1\ndrop 2 main fw\nrecords 3 emitted 2 dropped 1\nfunction main fw firewall\nend\n";
  });
  note = codes "done records 3 emitted 2 dropped 1\n";
}
unfolding worth making_of profile_by step_by lines_of deny policy_of_utf8 after_line orders_from answer_of edges_of taken stuck named_cycle from_earliest cycle_back first_refusal head first ninth capture body_of head_bytes record_head tags_len is_ipv4 is_ipv6 walk fates long cut fates_among chains_after fates_of chains_behind emitted_all out_bytes report_bytes drop_text drop_lines total_line last_line summary done_text digits words is_changed change_sum has_same_places has_transport passes line_of function_text chain_lines copies_due copies_lines copies_through passed copies_made written_in graph_of placed holds_back is_forbidden branch_reads branch_writes touch_of stage_parts mode_of copies pair_of first_forbidden pairs actions all_actions is_copied copied
deny_written = refl

-- b is before a, and denies what none of its rules allows: only the second packet passes it, and a drops that
two : List ℕ
two = codes "nfp 1\nchain main\nfn a firewall\nrule deny src 10.0.0.9\nfn b firewall\nset default deny\nrule allow proto udp dport 50-60 src 10.0.0.8/30\norder b before a\n"

two_written : due_of_run (worth two) capture ≡ record {
  outcome = Done;
  written = both (record {
    out = head;
    report = codes "nfp report 1\ndrop 1 main b\ndrop 2 main a\ndrop 3 main b\nrecords 3 emitted 0 dropped 3\nfunction main a firewall\nfunction main b firewall\nend\n";
  });
  note = codes "done records 3 emitted 0 dropped 3\n";
}
unfolding worth making_of profile_by step_by lines_of two policy_of_utf8 after_line orders_from answer_of edges_of taken stuck named_cycle from_earliest cycle_back first_refusal head first ninth capture body_of head_bytes record_head tags_len is_ipv4 is_ipv6 walk fates long cut fates_among chains_after fates_of chains_behind emitted_all out_bytes report_bytes drop_text drop_lines total_line last_line summary done_text digits words is_changed change_sum has_same_places has_transport passes line_of function_text chain_lines copies_due copies_lines copies_through passed copies_made written_in graph_of placed holds_back is_forbidden branch_reads branch_writes touch_of stage_parts mode_of copies pair_of first_forbidden pairs actions all_actions is_copied copied
two_written = refl

-- cut inside the third record: the two before it are done, and the report ends with the fault
cut_written : due_of_run (worth deny) (head ++ (first ++ (ninth ++ take 30 first))) ≡ record {
  outcome = Capture (CutRecord 3);
  written = both (record {
    out = head ++ first;
    report = codes "nfp report 1\ndrop 2 main fw\nrecords 2 emitted 1 dropped 1\nfunction main fw firewall\nfault capture: cut record 3\n";
  });
  note = codes "capture: cut record 3\n";
}
unfolding worth making_of profile_by step_by lines_of deny capture_text policy_of_utf8 after_line orders_from answer_of edges_of taken stuck named_cycle from_earliest cycle_back first_refusal head first ninth capture body_of head_bytes record_head tags_len is_ipv4 is_ipv6 walk fates long cut fates_among chains_after fates_of chains_behind emitted_all out_bytes report_bytes drop_text drop_lines total_line last_line summary done_text digits words is_changed change_sum has_same_places has_transport passes line_of function_text chain_lines copies_due copies_lines copies_through passed copies_made written_in graph_of placed holds_back is_forbidden branch_reads branch_writes touch_of stage_parts mode_of copies pair_of first_forbidden pairs actions all_actions is_copied copied
cut_written = refl

-- the second packet is dropped by the first function, which is beside the other, and the others by that
beside : List ℕ
beside = codes "nfp 1\nchain main\nfn f1 firewall\nrule deny src 10.0.0.9\nfn f2 firewall\nrule deny src 10.0.0.0/8\n"

beside_written : due_of_run (worth beside) capture ≡ record {
  outcome = Done;
  written = both (record {
    out = head;
    report = codes "nfp report 1\ndrop 1 main f2\ndrop 2 main f1\ndrop 3 main f2\nrecords 3 emitted 0 dropped 3\nfunction main f1 firewall\nfunction main f2 firewall\nend\n";
  });
  note = codes "done records 3 emitted 0 dropped 3\n";
}
unfolding worth making_of profile_by step_by lines_of beside policy_of_utf8 after_line orders_from answer_of edges_of taken stuck named_cycle from_earliest cycle_back first_refusal head first ninth capture body_of head_bytes record_head tags_len is_ipv4 is_ipv6 walk fates long cut fates_among chains_after fates_of chains_behind emitted_all out_bytes report_bytes drop_text drop_lines total_line last_line summary done_text digits words is_changed change_sum has_same_places has_transport passes line_of function_text chain_lines copies_due copies_lines copies_through passed copies_made written_in graph_of placed holds_back is_forbidden branch_reads branch_writes touch_of stage_parts mode_of copies pair_of first_forbidden pairs actions all_actions is_copied copied
beside_written = refl

-- A monitor in front of a firewall counts what that drops, too, and the report shows its flows in the order of first
-- sight.
counting : List ℕ
counting = codes "nfp 1\nchain main\nfn mon monitor\nfn fw firewall\nrule deny src 10.0.0.9\norder mon before fw\n"

counting_written : due_of_run (worth counting) capture ≡ record {
  outcome = Done;
  written = both (record {
    out = head ++ (first ++ first);
    report = codes "nfp report 1\ndrop 2 main fw\nrecords 3 emitted 2 dropped 1\nfunction main mon monitor\n  flow 17 10.0.0.1 1000 10.0.0.2 53 packets 2 bytes 56\n  flow 17 10.0.0.9 1000 10.0.0.2 53 packets 1 bytes 28\nfunction main fw firewall\nend\n";
  });
  note = codes "done records 3 emitted 2 dropped 1\n";
}
unfolding worth making_of profile_by step_by lines_of counting policy_of_utf8 after_line orders_from answer_of edges_of taken stuck named_cycle from_earliest cycle_back first_refusal head first ninth capture body_of head_bytes record_head tags_len is_ipv4 is_ipv6 walk fates long cut fates_among chains_after fates_of chains_behind emitted_all out_bytes report_bytes drop_text drop_lines total_line last_line summary done_text digits words is_changed change_sum has_same_places has_transport passes line_of function_text chain_lines copies_due copies_lines copies_through passed copies_made written_in graph_of placed holds_back is_forbidden branch_reads branch_writes touch_of stage_parts mode_of copies pair_of first_forbidden pairs actions all_actions is_copied copied flow_line endpoint_text dotted ipv4_bits
counting_written = refl

-- The second packet meets the clauses of both chains, and the first chain takes it. The others meet only the second
-- chain's.
overlapping : List ℕ
overlapping = codes "nfp 1\nchain ninth match src 10.0.0.9\nfn n firewall\nset default deny\nchain all match src 10.0.0.0/8\nfn a firewall\nrule deny src 10.0.0.1\n"

overlapping_written : due_of_run (worth overlapping) capture ≡ record {
  outcome = Done;
  written = both (record {
    out = head;
    report = codes "nfp report 1\ndrop 1 all a\ndrop 2 ninth n\ndrop 3 all a\nrecords 3 emitted 0 dropped 3\nfunction ninth n firewall\nfunction all a firewall\nend\n";
  });
  note = codes "done records 3 emitted 0 dropped 3\n";
}
unfolding worth making_of profile_by step_by lines_of overlapping policy_of_utf8 after_line orders_from answer_of edges_of taken stuck named_cycle from_earliest cycle_back first_refusal head first ninth capture body_of head_bytes record_head tags_len is_ipv4 is_ipv6 walk fates long cut fates_among chains_after fates_of chains_behind emitted_all out_bytes report_bytes drop_text drop_lines total_line last_line summary done_text digits words is_changed change_sum has_same_places has_transport passes line_of function_text chain_lines copies_due copies_lines copies_through passed copies_made written_in graph_of placed holds_back is_forbidden branch_reads branch_writes touch_of stage_parts mode_of copies pair_of first_forbidden pairs actions all_actions is_copied copied
overlapping_written = refl

-- a frame of 14 bytes that is no IPv4, and its record
other : List ℕ
other = 0 ∷ 0 ∷ 0 ∷ 0 ∷ 0 ∷ 0 ∷ 0 ∷ 0 ∷ 14 ∷ 0 ∷ 0 ∷ 0 ∷ 14 ∷ 0 ∷ 0 ∷ 0 ∷ 2 ∷ 0 ∷ 0 ∷ 0 ∷ 0 ∷ 2 ∷ 2 ∷ 0 ∷ 0 ∷ 0 ∷ 0 ∷ 1 ∷ 8 ∷ 6 ∷ []

-- no chain takes the second packet, which goes out with its own bytes beside the first, which is dropped
untaken : List ℕ
untaken = codes "nfp 1\nchain one match src 10.0.0.1\nfn fw firewall\nset default deny\n"

untaken_written : due_of_run (worth untaken) (head ++ (first ++ (other ++ ninth))) ≡ record {
  outcome = Done;
  written = both (record {
    out = head ++ (other ++ ninth);
    report = codes "nfp report 1\ndrop 1 one fw\nrecords 3 emitted 2 dropped 1\nfunction one fw firewall\nend\n";
  });
  note = codes "done records 3 emitted 2 dropped 1\n";
}
unfolding worth making_of profile_by step_by lines_of untaken other policy_of_utf8 after_line orders_from answer_of edges_of taken stuck named_cycle from_earliest cycle_back first_refusal head first ninth capture body_of head_bytes record_head tags_len is_ipv4 is_ipv6 walk fates long cut fates_among chains_after fates_of chains_behind emitted_all out_bytes report_bytes drop_text drop_lines total_line last_line summary done_text digits words is_changed change_sum has_same_places has_transport passes line_of function_text chain_lines copies_due copies_lines copies_through passed copies_made written_in graph_of placed holds_back is_forbidden branch_reads branch_writes touch_of stage_parts mode_of copies pair_of first_forbidden pairs actions all_actions is_copied copied
untaken_written = refl

-- a chain without functions passes its packets
idle_written : due_of_run (worth (codes "nfp 1\nchain idle match src 10.0.0.9\n")) capture ≡ record {
  outcome = Done;
  written = both (record { out = capture; report = codes "nfp report 1\nrecords 3 emitted 3 dropped 0\nend\n" });
  note = codes "done records 3 emitted 3 dropped 0\n";
}
unfolding worth policy_of_utf8 after_line orders_from answer_of edges_of taken stuck named_cycle from_earliest cycle_back first_refusal head first ninth capture body_of head_bytes record_head tags_len is_ipv4 is_ipv6 walk fates long cut fates_among chains_after fates_of chains_behind emitted_all out_bytes report_bytes drop_text drop_lines total_line last_line summary done_text digits words is_changed change_sum has_same_places has_transport passes line_of function_text chain_lines copies_due copies_lines copies_through passed copies_made written_in graph_of placed holds_back is_forbidden branch_reads branch_writes touch_of stage_parts mode_of copies pair_of first_forbidden pairs actions all_actions is_copied copied
idle_written = refl

-- without chains every packet passes, and the report has only the totals and the end
no_chains_written : due_of_run (worth (codes "nfp 1\n")) capture ≡ record {
  outcome = Done;
  written = both (record { out = capture; report = codes "nfp report 1\nrecords 3 emitted 3 dropped 0\nend\n" });
  note = codes "done records 3 emitted 3 dropped 0\n";
}
unfolding worth policy_of_utf8 after_line orders_from answer_of edges_of taken stuck named_cycle from_earliest cycle_back first_refusal head first ninth capture body_of head_bytes record_head tags_len is_ipv4 is_ipv6 walk fates long cut fates_among chains_after fates_of chains_behind emitted_all out_bytes report_bytes drop_text drop_lines total_line last_line summary done_text digits words is_changed change_sum has_same_places has_transport passes line_of function_text chain_lines copies_due copies_lines copies_through passed copies_made written_in graph_of placed holds_back is_forbidden branch_reads branch_writes touch_of stage_parts mode_of copies pair_of first_forbidden pairs actions all_actions is_copied copied
no_chains_written = refl

-- the snaplen that is written if a capture with this snaplen runs through the chains of a text; 0 for a refused text
grown_snaplen : ℕ → Result PolicyRead TextFault → ℕ
grown_snaplen snaplen (Ok policy) = (written_head (record { declared = policy.chains; names = []; pieces = [] }) (record { order = Little; unit = Micro; zone = 0; sigfigs = 0; snaplen = snaplen })).snaplen
grown_snaplen snaplen (Err fault) = 0

-- a frame of 65535 bytes and one more tag fit
one_tagger : grown_snaplen 65535 (policy_of_utf8 (codes "nfp 1\nchain main\nfn fw firewall\nfn t tagger\n")) ≡ 65539
unfolding grown_snaplen policy_of_utf8 after_line
one_tagger = refl

-- the taggers of all chains count, and what takes a tag away doesn't
taggers_of_both : grown_snaplen 1 (policy_of_utf8 (codes "nfp 1\nchain a\nfn t tagger\nfn u untagger\nfn v tagger\nchain b\nfn w tagger\n")) ≡ 13
unfolding grown_snaplen policy_of_utf8 after_line
taggers_of_both = refl

no_tagger : grown_snaplen 65535 (policy_of_utf8 (codes "nfp 1\nchain main\nfn fw firewall\nfn u untagger\n")) ≡ 65535
unfolding grown_snaplen policy_of_utf8 after_line
no_tagger = refl

-- an outer header of twenty bytes counts too, and what takes one off doesn't
one_entry : grown_snaplen 65535 (policy_of_utf8 (codes "nfp 1\nchain main\nfn e encap\n")) ≡ 65555
unfolding grown_snaplen policy_of_utf8 after_line
one_entry = refl

entry_tagger_and_exit : grown_snaplen 65535 (policy_of_utf8 (codes "nfp 1\nchain main\nfn t tagger\nfn e encap\nfn d decap\n")) ≡ 65559
unfolding grown_snaplen policy_of_utf8 after_line
entry_tagger_and_exit = refl

-- 0 means that there is no limit, and stays
no_snaplen : grown_snaplen 0 (policy_of_utf8 (codes "nfp 1\nchain main\nfn t tagger\nfn e encap\n")) ≡ 0
unfolding grown_snaplen policy_of_utf8 after_line
no_snaplen = refl

-- there is no larger number of 32 bits
largest_snaplen : grown_snaplen 4294967293 (policy_of_utf8 (codes "nfp 1\nchain main\nfn t tagger\n")) ≡ 4294967295
unfolding grown_snaplen policy_of_utf8 after_line
largest_snaplen = refl

-- a field has a line if copies of it were made, in the order of the fields
copies_told : copies_lines (codes "main") (λ f. slice_index (0 ∷ 0 ∷ 3 ∷ 0 ∷ 0 ∷ 12 ∷ 0 ∷ 0 ∷ 0 ∷ 18446744073709551615 ∷ []) (number_of f)) ≡ codes "copies main tag 3\ncopies main src 12\ncopies main payload 18446744073709551615\n"
unfolding copies_lines copies_text digits
copies_told = refl

-- a capture of no bytes has no head, and nothing is written
no_head : due_of_run (worth deny) [] ≡ nothing_but (Capture CutHead) (codes "capture: cut head\n")
unfolding worth making_of deny capture_text line_of policy_of_utf8 after_line orders_from answer_of edges_of taken stuck named_cycle from_earliest cycle_back first_refusal
no_head = refl

-- a policy without chains has an empty plan, which doesn't look at the capture
plan_shown : due_of_plan (worth (codes "nfp 1\n")) ≡ nothing_but Done []
unfolding worth plan_text policy_of_utf8 after_line orders_from
plan_shown = refl

-- no text at all has no version line
no_policy : due_of_run (worth []) [] ≡ nothing_but (Policy (Text BadVersionLine)) (codes "policy: bad version line\n")
unfolding worth text_line policy_of_utf8
no_policy = refl

-- a translation without a public address is reported with its own line
no_public : due_of_run (worth (codes "nfp 1\nchain main\nfn n nat\nset inside 10.0.0.0/8\nset ports 40000-40000\n")) [] ≡ nothing_but (Policy (BadSetting 3)) (codes "policy: line 3: bad setting\n")
unfolding worth making_of setting_line digits nat_line_of policy_of_utf8 after_line
no_public = refl

-- bytes that are no UTF-8
no_text : due_of_run (prepared_by None (judged_text (Err (NotUtf8 0))) []) [] ≡ nothing_but (Policy (Text (NotUtf8 0))) (codes "policy: not utf-8 at 0\n")
unfolding text_line digits
no_text = refl

-- a line that a function refuses counts before a cycle
bad_setting : due_of_run (worth (codes "nfp 1\nchain a\nfn f firewall\nrule pass\norder f before f\n")) [] ≡ nothing_but (Policy (BadSetting 4)) (codes "policy: line 4: bad setting\n")
unfolding worth making_of setting_line digits line_of policy_of_utf8 after_line
bad_setting = refl

cycle : due_of_run (worth (codes "nfp 1\nchain main\nfn a monitor\nfn b monitor\norder a before b\npriority a > b\n")) []
    ≡ nothing_but (Policy (Check 0 (Cycle (0 ∷ 1 ∷ [])))) (codes "policy: cycle a b\n")
unfolding worth making_of check_line policy_of_utf8 after_line orders_from answer_of edges_of taken stuck named_cycle from_earliest cycle_back first_refusal
cycle = refl

-- a monitor over a translation
forbidden : due_of_run (worth (codes "nfp 1\nchain main\nfn mon monitor\nfn n nat\nset inside 10.0.0.0/8\nset public 192.0.2.1\nset ports 40000-40009\npriority mon > n\n")) []
    ≡ nothing_but (Policy (Check 0 (PriorityForbidden 0 1 8 (Write SrcIp) (Read SrcIp)))) (codes "policy: line 8: priority mon over n forbidden: write src before read src\n")
unfolding worth making_of nat_line_of check_line priority_line digits pair_of first_forbidden pairs actions all_actions is_copied copied policy_of_utf8 after_line orders_from answer_of edges_of taken stuck named_cycle from_earliest cycle_back first_refusal
forbidden = refl

-- ---- how the results of a stage's branches are merged

-- the result of a line whose words are separated by blanks
abbrev due_of_line : List ℕ → List ℕ → List ℕ → List ℕ → Due
due_of_line line = due (slice_split (λ c. c == 32) line)

no_way : (policy graph bytes : List ℕ) → due_of_line (codes "run p c o r --merge zip") policy graph bytes ≡ nothing_but (Usage Merge) (codes "usage: merge\n")
unfolding given_by
no_way policy graph bytes = refl

-- what is due is the same on a board as over links
run_on_a_board : (policy graph bytes : List ℕ) → due_of_line (codes "run p c o r --merge board") policy graph bytes ≡ due_of_line (codes "run p c o r") policy graph bytes
unfolding given_by
run_on_a_board policy graph bytes = refl

demo_on_a_board : (policy graph bytes : List ℕ) → due_of_line (codes "demo 1 20000 --merge board") policy graph bytes ≡ due_of_line (codes "demo 1 20000") policy graph bytes
unfolding given_by
demo_on_a_board policy graph bytes = refl
