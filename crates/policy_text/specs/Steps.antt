-- Believed: steps of which each may fail: the first failure is the answer.
use Rattle.std.specs.Prelude.{◌≡◌, Bool, ⊤, if◌then◌else◌, Option, Some, None, Result, Ok, Err}
use Rattle.policy_text.specs.declared.fault.TextFault.{TextFault}
use Rattle.policy_text.specs.declared.fault.TextFault.TheVariants.{OutOfMemory}

infixl 10 ◌>>=◌
abbrev pub ◌>>=◌ : {A B E : Type 0} → Result A E → (A → Result B E) → Result B E
(Ok x) >>= f = f x
(Err e) >>= f = Err e

-- continues if the test passes
abbrev pub demand : {E : Type 0} → Bool → E → Result ⊤ E
demand test fault = if test then Ok tt else Err fault

-- continues with the value, if there is one
abbrev pub some_or : {A E : Type 0} → E → Option A → Result A E
some_or fault None = Err fault
some_or fault (Some x) = Ok x

-- fails with a fault, if there is one
abbrev pub unless : {E : Type 0} → Option E → Result ⊤ E
unless None = Ok tt
unless (Some fault) = Err fault

abbrev pub IsFaultOf : {A : Type 0} → TextFault → Result A TextFault → Type 0
IsFaultOf OutOfMemory due = Unit {0}
IsFaultOf fault due = due ≡ Err fault

-- A call gave the due value, as `view` sees it, or the due fault, unless it ran out of memory.
abbrev pub Gives : {A B : Type 0} → (A → B) → Result A TextFault → Result B TextFault → Type 0
Gives view (Ok x) due = due ≡ Ok (view x)
Gives view (Err fault) due = IsFaultOf fault due
