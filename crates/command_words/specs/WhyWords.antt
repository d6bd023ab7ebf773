-- Believed: the words of `why POLICY CAPTURE REPORT [--record N]`, and their first fault.
use Rattle.std.specs.Prelude.{ℕ, List, [], ◌∷◌, if◌then◌else◌, Option, Some, None, Result, Ok, Err, codes}
use Rattle.command_words.specs.declared.usage.Option4.TheVariants.{Record}
use Rattle.command_words.specs.declared.usage.UsageFault.{UsageFault}
use Rattle.command_words.specs.declared.usage.UsageFault.TheVariants.{Words, SameName}
use Rattle.command_words.specs.Given.{Word, all_differ, given_by, value_given}
use Rattle.command_words.specs.Words.{after, answer_by, number_of}

-- The names of the three files.
pub record WhyFiles : Type 0 where
  pub policy : Word
  pub capture : Word
  pub report : Word

-- What is asked for: why each packet of a capture fared as it did, and the trace of this record, if there is one.
pub record WhyAsked : Type 0 where
  pub files : WhyFiles
  pub record_number : Option ℕ

-- the number of the record, if it is given
abbrev pub record_of : Option Word → Result (Option ℕ) UsageFault
record_of None = Ok None
record_of (Some word) = after (number_of Record 1 4294967295 word) (λ n. Ok (Some n))

abbrev pub distinct_why : WhyFiles → Result WhyFiles UsageFault
distinct_why n = if all_differ (n.policy ∷ n.capture ∷ n.report ∷ []) then Ok n else Err SameName

-- the number, and then the names
abbrev pub why_with : WhyFiles → Option Word → Result WhyAsked UsageFault
why_with files number = after (record_of number) (λ r. after (distinct_why files) (λ n.
    Ok (record { files = n; record_number = r })))

abbrev pub why_by : List Word → List (Word × Word) → Result WhyAsked UsageFault
why_by (policy ∷ capture ∷ report ∷ []) options =
    why_with (record { policy = policy; capture = capture; report = report }) (value_given (codes "record") options)
why_by names options = Err Words

-- the option of `why`
abbrev pub why_options : List Word
why_options = codes "record" ∷ []

-- the answer to the words behind `why`
abbrev pub why_of : List Word → Result WhyAsked UsageFault
why_of words = answer_by why_by (given_by why_options None words)
