-- Believed: the one line that is put into Note for each outcome.
use Rattle.std.specs.Prelude.{ℕ, List, [], ◌∷◌, ◌++◌, codes}
use Rattle.nfp_outside.specs.declared.slot.Slot.{Slot}
use Rattle.nfp_outside.specs.declared.slot.Slot.TheVariants.{Policy, Capture, Out, Report, Note, Graph}
use Rattle.text_lines.specs.Texts.{joined}
use Rattle.capture_items.specs.Totals.{total_line}
use Rattle.command_words.specs.declared.usage.Option4.{Option4}
use Rattle.command_words.specs.declared.usage.Option4.TheVariants.{Mergers, Burst, Workers, Record, Seed, Count}
use Rattle.command_words.specs.declared.usage.UsageFault.{UsageFault}
use Rattle.command_words.specs.declared.usage.UsageFault.TheVariants.{NoCommand, UnknownCommand, Words, Number, Merge, SameName}

-- which number is refused
abbrev pub number_text : Option4 → List ℕ
number_text Mergers = codes "usage: number mergers\n"
number_text Burst = codes "usage: number burst\n"
number_text Workers = codes "usage: number workers\n"
number_text Record = codes "usage: number record\n"
number_text Seed = codes "usage: number seed\n"
number_text Count = codes "usage: number count\n"

-- why the words are refused
abbrev pub usage_text : UsageFault → List ℕ
usage_text NoCommand = codes "usage: no command\n"
usage_text UnknownCommand = codes "usage: unknown command\n"
usage_text Words = codes "usage: words\n"
usage_text (Number which) = number_text which
usage_text Merge = codes "usage: merge\n"
usage_text SameName = codes "usage: same name\n"

-- `done records N emitted E dropped D`
unfoldable pub done_text : ℕ → ℕ → List ℕ
done_text records dropped = codes "done " ++ total_line records dropped

abbrev pub slot_word : Slot → List ℕ
slot_word Policy = codes "policy"
slot_word Capture = codes "capture"
slot_word Out = codes "out"
slot_word Report = codes "report"
slot_word Note = codes "note"
slot_word Graph = codes "graph"

unfoldable pub read_fault_text : Slot → List ℕ
read_fault_text slot = joined (codes "read fault: " ∷ slot_word slot ∷ codes "\n" ∷ [])

unfoldable pub write_fault_text : Slot → List ℕ
write_fault_text slot = joined (codes "write fault: " ∷ slot_word slot ∷ codes "\n" ∷ [])
