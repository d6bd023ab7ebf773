-- Believed: the verdict on a policy text: its chains with their orders, or the first fault and the line for it.
use Rattle.std.specs.Prelude.{◌≡◌, ℕ, ◌+◌, List, [], ◌∷◌, length, nat_lt, if◌then◌else◌, Option, Some, None, Result, Ok, Err}
use Rattle.policy_text.specs.declared.fault.TextFault.{TextFault}
use Rattle.policy_text.specs.declared.fault.TextFault.TheVariants as texts
use Rattle.policy_text.specs.declared.policy.ChainPolicy.{ChainPolicy}
use Rattle.policy_text.specs.declared.policy.Policy.{Policy}
use Rattle.policy_text.specs.Grammar.{policy_of}
use Rattle.policy_text.specs.Steps.{◌>>=◌}
use Rattle.policy_check.specs.declared.fault.CheckFault.{CheckFault}
use Rattle.policy_check.specs.declared.fault.Order.{Order}
use Rattle.policy_check.specs.Checked.{answer_of}
use Rattle.policy_judge.specs.declared.fault.PolicyFault.{PolicyFault}
use Rattle.policy_judge.specs.declared.fault.PolicyFault.TheVariants.{TooLong, Text, BadSetting, Check}
use Rattle.policy_judge.specs.declared.fault.Refusal.{Refusal}
use Rattle.policy_judge.specs.declared.fault.JudgeFault.{JudgeFault}
use Rattle.policy_judge.specs.declared.fault.JudgeFault.TheVariants.{Refused, OutOfMemory}
use Rattle.policy_judge.specs.declared.judged.Judged.{Judged}
use Rattle.policy_judge.specs.Lines.{too_long_line, text_line, setting_line, check_line}
use Rattle.policy_judge.specs.Making.{functions_made}
use Rattle.policy_judge.specs.Settings.{least_refused}

-- a fault and the line that reports it
abbrev pub told : PolicyFault → List ℕ → Refusal
told fault line = record { fault = fault; line = line }

-- the order of the chain at this place, counted from 0, or its fault
abbrev pub order_due : ℕ → ChainPolicy → Result Order CheckFault → Result Order Refusal
order_due place chain (Ok order) = Ok order
order_due place chain (Err fault) = Err (told (Check place fault) (check_line chain.functions fault))

-- the orders of the chains from this place on, or the fault of the first chain that has one
unfoldable pub orders_from : ℕ → List ChainPolicy → Result (List Order) Refusal
orders_from place [] = Ok []
orders_from place (chain ∷ chains) = do
  order ← order_due place chain (answer_of chain)
  orders ← orders_from (place + 1) chains
  Ok (order ∷ orders)

-- the chains with their orders and their functions
abbrev pub judged_orders : Policy → Result (List Order) Refusal → Result Judged Refusal
judged_orders policy (Err refusal) = Err refusal
judged_orders policy (Ok orders) = Ok (record { policy = policy; orders = orders; functions = functions_made policy.chains })

-- the settings of all functions before the order of any chain
abbrev pub judged_settings : Policy → Option ℕ → Result Judged Refusal
judged_settings policy (Some line) = Err (told (BadSetting line) (setting_line line))
judged_settings policy None = judged_orders policy (orders_from 0 policy.chains)

-- the text's own faults first
abbrev pub judged_text : Result Policy TextFault → Result Judged Refusal
judged_text (Err fault) = Err (told (Text fault) (text_line fault))
judged_text (Ok policy) = judged_settings policy (least_refused policy.chains)

-- a text of more than 1,048,576 bytes is not read
unfoldable pub judged : List ℕ → Result Judged Refusal
judged bytes = if nat_lt 1048576 (length bytes) then Err (told TooLong too_long_line) else judged_text (policy_of bytes)

-- the answer is the due one, unless it ran out of memory
abbrev pub Judges : {A : Type 0} → Result A Refusal → Result A JudgeFault → Type 0
Judges due (Ok value) = due ≡ Ok value
Judges due (Err (Refused refusal)) = due ≡ Err refusal
Judges due (Err OutOfMemory) = Unit {0}

-- the same for a refusal alone
abbrev pub Tells : Refusal → JudgeFault → Type 0
Tells due (Refused refusal) = due ≡ refusal
Tells due OutOfMemory = Unit {0}

-- the same for the fault of a text
abbrev pub TellsText : TextFault → JudgeFault → Type 0
TellsText texts.OutOfMemory answer = answer ≡ OutOfMemory
TellsText fault answer = Tells (told (Text fault) (text_line fault)) answer
