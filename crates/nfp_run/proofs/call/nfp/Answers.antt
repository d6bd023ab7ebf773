use Rattle.std.proofs.Common.{map}
use Rattle.std.specs.Prelude.{string_bytes}
use Rattle.command_words.specs.Words.{command_of}
use Rattle.nfp_run.proofs.CallAnswers.{called_exact, called_prefixes, called_answers, called_noted, called_noted_whole}
use Rattle.nfp_run.proofs.NotedLines.{called_done_noted, called_noted_short, called_noted_late}
use Rattle.nfp_run.proofs.CallCauses.{called_names, called_usage_always, called_note_fault, called_attached, called_report_behind, called_graph_refused, called_policy, called_read_whole, called_refused, called_read_faults, called_write_faults}
use Rattle.nfp_run.proofs.call.nfp.Goals as goal

pub returns-clause-answers : goal.returns-clause-answers
returns-clause-answers g c = called_answers (command_of (map string_bytes c.args.words.now)) (g.D.Desk.slots c.args.desk.now) (g.D.Desk.slots c.run_words-ending.new.desk) (g.D.Desk.slots c.put_note.new.desk) c.run_words-ending.result c.put_note.result
    (record { ran = c.run_words-ending.ensures.ran; notes = c.put_note.ensures.notes; beside = c.put_note.ensures.others })

pub returns-clause-exact : goal.returns-clause-exact
returns-clause-exact g c = called_exact (command_of (map string_bytes c.args.words.now)) (g.D.Desk.slots c.args.desk.now) (g.D.Desk.slots c.run_words-ending.new.desk) (g.D.Desk.slots c.put_note.new.desk) c.run_words-ending.result c.put_note.result
    (record { ran = c.run_words-ending.ensures.ran; notes = c.put_note.ensures.notes; beside = c.put_note.ensures.others })

pub returns-clause-prefixes : goal.returns-clause-prefixes
returns-clause-prefixes g c = called_prefixes (command_of (map string_bytes c.args.words.now)) (g.D.Desk.slots c.args.desk.now) (g.D.Desk.slots c.run_words-ending.new.desk) (g.D.Desk.slots c.put_note.new.desk) c.run_words-ending.result c.put_note.result
    (record { ran = c.run_words-ending.ensures.ran; notes = c.put_note.ensures.notes; beside = c.put_note.ensures.others })

pub returns-clause-noted : goal.returns-clause-noted
returns-clause-noted g c = called_noted (command_of (map string_bytes c.args.words.now)) (g.D.Desk.slots c.args.desk.now) (g.D.Desk.slots c.run_words-ending.new.desk) (g.D.Desk.slots c.put_note.new.desk) c.run_words-ending.result c.put_note.result
    (record { ran = c.run_words-ending.ensures.ran; notes = c.put_note.ensures.notes; beside = c.put_note.ensures.others })

pub returns-clause-noted_whole : goal.returns-clause-noted_whole
returns-clause-noted_whole g c = called_noted_whole (command_of (map string_bytes c.args.words.now)) (g.D.Desk.slots c.args.desk.now) (g.D.Desk.slots c.run_words-ending.new.desk) (g.D.Desk.slots c.put_note.new.desk) c.run_words-ending.result c.put_note.result
    (record { ran = c.run_words-ending.ensures.ran; notes = c.put_note.ensures.notes; beside = c.put_note.ensures.others })

pub returns-clause-names : goal.returns-clause-names
returns-clause-names g c = called_names (command_of (map string_bytes c.args.words.now)) (g.D.Desk.slots c.args.desk.now) (g.D.Desk.slots c.run_words-ending.new.desk) (g.D.Desk.slots c.put_note.new.desk) c.run_words-ending.result c.put_note.result
    (record { ran = c.run_words-ending.ensures.ran; notes = c.put_note.ensures.notes; beside = c.put_note.ensures.others })

pub returns-clause-refused : goal.returns-clause-refused
returns-clause-refused g c = called_refused (command_of (map string_bytes c.args.words.now)) (g.D.Desk.slots c.args.desk.now) (g.D.Desk.slots c.run_words-ending.new.desk) (g.D.Desk.slots c.put_note.new.desk) c.run_words-ending.result c.put_note.result
    (record { ran = c.run_words-ending.ensures.ran; notes = c.put_note.ensures.notes; beside = c.put_note.ensures.others })

pub returns-clause-read_faults : goal.returns-clause-read_faults
returns-clause-read_faults g c = called_read_faults (command_of (map string_bytes c.args.words.now)) (g.D.Desk.slots c.args.desk.now) (g.D.Desk.slots c.run_words-ending.new.desk) (g.D.Desk.slots c.put_note.new.desk) c.run_words-ending.result c.put_note.result
    (record { ran = c.run_words-ending.ensures.ran; notes = c.put_note.ensures.notes; beside = c.put_note.ensures.others })

pub returns-clause-write_faults : goal.returns-clause-write_faults
returns-clause-write_faults g c = called_write_faults (command_of (map string_bytes c.args.words.now)) (g.D.Desk.slots c.args.desk.now) (g.D.Desk.slots c.run_words-ending.new.desk) (g.D.Desk.slots c.put_note.new.desk) c.run_words-ending.result c.put_note.result
    (record { ran = c.run_words-ending.ensures.ran; notes = c.put_note.ensures.notes; beside = c.put_note.ensures.others })

pub returns-clause-note_fault : goal.returns-clause-note_fault
returns-clause-note_fault g c = called_note_fault (command_of (map string_bytes c.args.words.now)) (g.D.Desk.slots c.args.desk.now) (g.D.Desk.slots c.run_words-ending.new.desk) (g.D.Desk.slots c.put_note.new.desk) c.run_words-ending.result c.put_note.result
    (record { ran = c.run_words-ending.ensures.ran; notes = c.put_note.ensures.notes; beside = c.put_note.ensures.others })

pub returns-clause-attached : goal.returns-clause-attached
returns-clause-attached g c = called_attached (command_of (map string_bytes c.args.words.now)) (g.D.Desk.slots c.args.desk.now) (g.D.Desk.slots c.run_words-ending.new.desk) (g.D.Desk.slots c.put_note.new.desk) c.run_words-ending.result c.put_note.result
    (record { ran = c.run_words-ending.ensures.ran; notes = c.put_note.ensures.notes; beside = c.put_note.ensures.others })

pub returns-clause-report_behind : goal.returns-clause-report_behind
returns-clause-report_behind g c = called_report_behind (command_of (map string_bytes c.args.words.now)) (g.D.Desk.slots c.args.desk.now) (g.D.Desk.slots c.run_words-ending.new.desk) (g.D.Desk.slots c.put_note.new.desk) c.run_words-ending.result c.put_note.result
    (record { ran = c.run_words-ending.ensures.ran; notes = c.put_note.ensures.notes; beside = c.put_note.ensures.others })

pub returns-clause-policy : goal.returns-clause-policy
returns-clause-policy g c = called_policy (command_of (map string_bytes c.args.words.now)) (g.D.Desk.slots c.args.desk.now) (g.D.Desk.slots c.run_words-ending.new.desk) (g.D.Desk.slots c.put_note.new.desk) c.run_words-ending.result c.put_note.result
    (record { ran = c.run_words-ending.ensures.ran; notes = c.put_note.ensures.notes; beside = c.put_note.ensures.others })

pub returns-clause-done_noted : goal.returns-clause-done_noted
returns-clause-done_noted g c = called_done_noted (command_of (map string_bytes c.args.words.now)) (g.D.Desk.slots c.args.desk.now) (g.D.Desk.slots c.run_words-ending.new.desk) (g.D.Desk.slots c.put_note.new.desk) c.run_words-ending.result c.put_note.result
    (record { ran = c.run_words-ending.ensures.ran; notes = c.put_note.ensures.notes; beside = c.put_note.ensures.others })

pub returns-clause-noted_short : goal.returns-clause-noted_short
returns-clause-noted_short g c = called_noted_short (command_of (map string_bytes c.args.words.now)) (g.D.Desk.slots c.args.desk.now) (g.D.Desk.slots c.run_words-ending.new.desk) (g.D.Desk.slots c.put_note.new.desk) c.run_words-ending.result c.put_note.result
    (record { ran = c.run_words-ending.ensures.ran; notes = c.put_note.ensures.notes; beside = c.put_note.ensures.others })

pub returns-clause-usage_always : goal.returns-clause-usage_always
returns-clause-usage_always g c = called_usage_always (command_of (map string_bytes c.args.words.now)) (g.D.Desk.slots c.args.desk.now) (g.D.Desk.slots c.run_words-ending.new.desk) (g.D.Desk.slots c.put_note.new.desk) c.run_words-ending.result c.put_note.result
    (record { ran = c.run_words-ending.ensures.ran; notes = c.put_note.ensures.notes; beside = c.put_note.ensures.others })

pub returns-clause-noted_late : goal.returns-clause-noted_late
returns-clause-noted_late g c = called_noted_late (command_of (map string_bytes c.args.words.now)) (g.D.Desk.slots c.args.desk.now) (g.D.Desk.slots c.run_words-ending.new.desk) (g.D.Desk.slots c.put_note.new.desk) c.run_words-ending.result c.put_note.result
    (record { ran = c.run_words-ending.ensures.ran; notes = c.put_note.ensures.notes; beside = c.put_note.ensures.others })

pub returns-clause-graph_refused : goal.returns-clause-graph_refused
returns-clause-graph_refused g c = called_graph_refused (command_of (map string_bytes c.args.words.now)) (g.D.Desk.slots c.args.desk.now) (g.D.Desk.slots c.run_words-ending.new.desk) (g.D.Desk.slots c.put_note.new.desk) c.run_words-ending.result c.put_note.result
    (record { ran = c.run_words-ending.ensures.ran; notes = c.put_note.ensures.notes; beside = c.put_note.ensures.others })

pub returns-clause-read_whole : goal.returns-clause-read_whole
returns-clause-read_whole g c = called_read_whole (command_of (map string_bytes c.args.words.now)) (g.D.Desk.slots c.args.desk.now) (g.D.Desk.slots c.run_words-ending.new.desk) (g.D.Desk.slots c.put_note.new.desk) c.run_words-ending.result c.put_note.result
    (record { ran = c.run_words-ending.ensures.ran; notes = c.put_note.ensures.notes; beside = c.put_note.ensures.others })
