use Rattle.std.proofs.Common.{map}
use Rattle.std.specs.Prelude.{string_bytes}
use Rattle.command_words.specs.WhyWords.{why_of}
use Rattle.why_call.specs.Ran.{why_line, why_outcome}
use Rattle.why_call.proofs.CallAnswers.{called_answers, called_exact, called_noted, called_noted_whole, called_prefixes}
use Rattle.why_call.proofs.CallCauses.{called_attached, called_names, called_note_fault, called_policy, called_read_faults, called_read_whole, called_refused, called_usage, called_usage_always, called_write_faults}
use Rattle.why_call.proofs.NotedLines.{called_done_noted, called_noted_late, called_noted_short}
use Rattle.why_call.proofs.call.why.Goals as goal

pub returns-clause-answers : goal.returns-clause-answers
returns-clause-answers g c =
    called_answers (why_of (map string_bytes c.args.words.now)) (g.D.Desk.slots c.args.desk.now) (g.D.Desk.slots c.run_words-ending.new.desk) (g.D.Desk.slots c.put_ending.new.desk)
    (why_outcome c.run_words-ending.result) (why_line c.run_words-ending.result) c.put_ending.result
    (record { ran = c.run_words-ending.ensures.ran; notes = c.put_ending.ensures.notes; beside = c.put_ending.ensures.others })

pub returns-clause-exact : goal.returns-clause-exact
returns-clause-exact g c =
    called_exact (why_of (map string_bytes c.args.words.now)) (g.D.Desk.slots c.args.desk.now) (g.D.Desk.slots c.run_words-ending.new.desk) (g.D.Desk.slots c.put_ending.new.desk)
    (why_outcome c.run_words-ending.result) (why_line c.run_words-ending.result) c.put_ending.result
    (record { ran = c.run_words-ending.ensures.ran; notes = c.put_ending.ensures.notes; beside = c.put_ending.ensures.others })

pub returns-clause-prefixes : goal.returns-clause-prefixes
returns-clause-prefixes g c =
    called_prefixes (why_of (map string_bytes c.args.words.now)) (g.D.Desk.slots c.args.desk.now) (g.D.Desk.slots c.run_words-ending.new.desk) (g.D.Desk.slots c.put_ending.new.desk)
    (why_outcome c.run_words-ending.result) (why_line c.run_words-ending.result) c.put_ending.result
    (record { ran = c.run_words-ending.ensures.ran; notes = c.put_ending.ensures.notes; beside = c.put_ending.ensures.others })

pub returns-clause-noted : goal.returns-clause-noted
returns-clause-noted g c =
    called_noted (why_of (map string_bytes c.args.words.now)) (g.D.Desk.slots c.args.desk.now) (g.D.Desk.slots c.run_words-ending.new.desk) (g.D.Desk.slots c.put_ending.new.desk)
    (why_outcome c.run_words-ending.result) (why_line c.run_words-ending.result) c.put_ending.result
    (record { ran = c.run_words-ending.ensures.ran; notes = c.put_ending.ensures.notes; beside = c.put_ending.ensures.others })

pub returns-clause-noted_whole : goal.returns-clause-noted_whole
returns-clause-noted_whole g c =
    called_noted_whole (why_of (map string_bytes c.args.words.now)) (g.D.Desk.slots c.args.desk.now) (g.D.Desk.slots c.run_words-ending.new.desk) (g.D.Desk.slots c.put_ending.new.desk)
    (why_outcome c.run_words-ending.result) (why_line c.run_words-ending.result) c.put_ending.result
    (record { ran = c.run_words-ending.ensures.ran; notes = c.put_ending.ensures.notes; beside = c.put_ending.ensures.others })

pub returns-clause-done_noted : goal.returns-clause-done_noted
returns-clause-done_noted g c =
    called_done_noted (why_of (map string_bytes c.args.words.now)) (g.D.Desk.slots c.args.desk.now) (g.D.Desk.slots c.run_words-ending.new.desk) (g.D.Desk.slots c.put_ending.new.desk)
    (why_outcome c.run_words-ending.result) (why_line c.run_words-ending.result) c.put_ending.result
    (record { ran = c.run_words-ending.ensures.ran; notes = c.put_ending.ensures.notes; beside = c.put_ending.ensures.others })

pub returns-clause-noted_short : goal.returns-clause-noted_short
returns-clause-noted_short g c =
    called_noted_short (why_of (map string_bytes c.args.words.now)) (g.D.Desk.slots c.args.desk.now) (g.D.Desk.slots c.run_words-ending.new.desk) (g.D.Desk.slots c.put_ending.new.desk)
    (why_outcome c.run_words-ending.result) (why_line c.run_words-ending.result) c.put_ending.result
    (record { ran = c.run_words-ending.ensures.ran; notes = c.put_ending.ensures.notes; beside = c.put_ending.ensures.others })

pub returns-clause-noted_late : goal.returns-clause-noted_late
returns-clause-noted_late g c =
    called_noted_late (why_of (map string_bytes c.args.words.now)) (g.D.Desk.slots c.args.desk.now) (g.D.Desk.slots c.run_words-ending.new.desk) (g.D.Desk.slots c.put_ending.new.desk)
    (why_outcome c.run_words-ending.result) (why_line c.run_words-ending.result) c.put_ending.result
    (record { ran = c.run_words-ending.ensures.ran; notes = c.put_ending.ensures.notes; beside = c.put_ending.ensures.others })

pub returns-clause-note_fault : goal.returns-clause-note_fault
returns-clause-note_fault g c =
    called_note_fault (why_of (map string_bytes c.args.words.now)) (g.D.Desk.slots c.args.desk.now) (g.D.Desk.slots c.run_words-ending.new.desk) (g.D.Desk.slots c.put_ending.new.desk)
    (why_outcome c.run_words-ending.result) (why_line c.run_words-ending.result) c.put_ending.result
    (record { ran = c.run_words-ending.ensures.ran; notes = c.put_ending.ensures.notes; beside = c.put_ending.ensures.others })

pub returns-clause-read_whole : goal.returns-clause-read_whole
returns-clause-read_whole g c =
    called_read_whole (why_of (map string_bytes c.args.words.now)) (g.D.Desk.slots c.args.desk.now) (g.D.Desk.slots c.run_words-ending.new.desk) (g.D.Desk.slots c.put_ending.new.desk)
    (why_outcome c.run_words-ending.result) (why_line c.run_words-ending.result) c.put_ending.result
    (record { ran = c.run_words-ending.ensures.ran; notes = c.put_ending.ensures.notes; beside = c.put_ending.ensures.others })

pub returns-clause-names : goal.returns-clause-names
returns-clause-names g c =
    called_names (why_of (map string_bytes c.args.words.now)) (g.D.Desk.slots c.args.desk.now) (g.D.Desk.slots c.run_words-ending.new.desk) (g.D.Desk.slots c.put_ending.new.desk)
    (why_outcome c.run_words-ending.result) (why_line c.run_words-ending.result) c.put_ending.result
    (record { ran = c.run_words-ending.ensures.ran; notes = c.put_ending.ensures.notes; beside = c.put_ending.ensures.others })

pub returns-clause-attached : goal.returns-clause-attached
returns-clause-attached g c =
    called_attached (why_of (map string_bytes c.args.words.now)) (g.D.Desk.slots c.args.desk.now) (g.D.Desk.slots c.run_words-ending.new.desk) (g.D.Desk.slots c.put_ending.new.desk)
    (why_outcome c.run_words-ending.result) (why_line c.run_words-ending.result) c.put_ending.result
    (record { ran = c.run_words-ending.ensures.ran; notes = c.put_ending.ensures.notes; beside = c.put_ending.ensures.others })

pub returns-clause-usage : goal.returns-clause-usage
returns-clause-usage g c =
    called_usage (why_of (map string_bytes c.args.words.now)) (g.D.Desk.slots c.args.desk.now) (g.D.Desk.slots c.run_words-ending.new.desk) (g.D.Desk.slots c.put_ending.new.desk)
    (why_outcome c.run_words-ending.result) (why_line c.run_words-ending.result) c.put_ending.result
    (record { ran = c.run_words-ending.ensures.ran; notes = c.put_ending.ensures.notes; beside = c.put_ending.ensures.others })

pub returns-clause-usage_always : goal.returns-clause-usage_always
returns-clause-usage_always g c =
    called_usage_always (why_of (map string_bytes c.args.words.now)) (g.D.Desk.slots c.args.desk.now) (g.D.Desk.slots c.run_words-ending.new.desk) (g.D.Desk.slots c.put_ending.new.desk)
    (why_outcome c.run_words-ending.result) (why_line c.run_words-ending.result) c.put_ending.result
    (record { ran = c.run_words-ending.ensures.ran; notes = c.put_ending.ensures.notes; beside = c.put_ending.ensures.others })

pub returns-clause-refused : goal.returns-clause-refused
returns-clause-refused g c =
    called_refused (why_of (map string_bytes c.args.words.now)) (g.D.Desk.slots c.args.desk.now) (g.D.Desk.slots c.run_words-ending.new.desk) (g.D.Desk.slots c.put_ending.new.desk)
    (why_outcome c.run_words-ending.result) (why_line c.run_words-ending.result) c.put_ending.result
    (record { ran = c.run_words-ending.ensures.ran; notes = c.put_ending.ensures.notes; beside = c.put_ending.ensures.others })

pub returns-clause-policy : goal.returns-clause-policy
returns-clause-policy g c =
    called_policy (why_of (map string_bytes c.args.words.now)) (g.D.Desk.slots c.args.desk.now) (g.D.Desk.slots c.run_words-ending.new.desk) (g.D.Desk.slots c.put_ending.new.desk)
    (why_outcome c.run_words-ending.result) (why_line c.run_words-ending.result) c.put_ending.result
    (record { ran = c.run_words-ending.ensures.ran; notes = c.put_ending.ensures.notes; beside = c.put_ending.ensures.others })

pub returns-clause-read_faults : goal.returns-clause-read_faults
returns-clause-read_faults g c =
    called_read_faults (why_of (map string_bytes c.args.words.now)) (g.D.Desk.slots c.args.desk.now) (g.D.Desk.slots c.run_words-ending.new.desk) (g.D.Desk.slots c.put_ending.new.desk)
    (why_outcome c.run_words-ending.result) (why_line c.run_words-ending.result) c.put_ending.result
    (record { ran = c.run_words-ending.ensures.ran; notes = c.put_ending.ensures.notes; beside = c.put_ending.ensures.others })

pub returns-clause-write_faults : goal.returns-clause-write_faults
returns-clause-write_faults g c =
    called_write_faults (why_of (map string_bytes c.args.words.now)) (g.D.Desk.slots c.args.desk.now) (g.D.Desk.slots c.run_words-ending.new.desk) (g.D.Desk.slots c.put_ending.new.desk)
    (why_outcome c.run_words-ending.result) (why_line c.run_words-ending.result) c.put_ending.result
    (record { ran = c.run_words-ending.ensures.ran; notes = c.put_ending.ensures.notes; beside = c.put_ending.ensures.others })
