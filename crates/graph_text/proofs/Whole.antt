-- A text as a whole.
use Rattle.std.proofs.Common.{eq-eqb, true, false, arith, ◌≡◌, ◌≤◌, ◌∙◌, ℕ, List, length, ap, refl}
use Rattle.std.specs.Prelude.{Err, Ok, Result, IfOk, ◌==◌, nat_lt}
use Rattle.std.specs.Str.{IsUtf8, IsValidUpTo}
use Rattle.std.specs.Str.Lossy.{utf8_valid_len}
use Rattle.std.proofs.lemmas.Bool.{ne_eqb}
use Rattle.std.proofs.lemmas.Bool.Decides.{nat_tests}
use Rattle.std.proofs.lemmas.Str.{utf8_valid_len-IsUtf8, utf8_valid_len-IsValidUpTo}
use Rattle.policy_check.specs.declared.fault.Order.{Order}
use Rattle.policy_text.specs.declared.policy.ChainPolicy.{ChainPolicy}
use Rattle.graph_text.specs.Graphs.{graphs_of, graphs_of_bytes, graphs_of_utf8}
use Rattle.graph_text.specs.Steps.{Gives}
use Rattle.graph_text.specs.declared.fault.GraphFault.{GraphFault}
use Rattle.graph_text.specs.declared.fault.GraphFault.TheVariants.{NotUtf8}
use Rattle.graph_text.specs.declared.fault.GraphReadFault.{GraphReadFault}

short_enough : (n : ℕ) → n ≤ 1048576 → nat_lt 1048576 n ≡ false
short_enough n short = grind (arith, nat_tests)

short_text : (text : List ℕ) (chains : List ChainPolicy) (orders : List Order) → length text ≤ 1048576 → graphs_of text chains orders ≡ graphs_of_bytes text chains orders
unfolding graphs_of
short_text text chains orders short =
    let test : nat_lt 1048576 (length text) ≡ false = short_enough (length text) short in
    rw test refl

-- all of the text is UTF-8
pub whole_text : (text : List ℕ) (chains : List ChainPolicy) (orders : List Order) → length text ≤ 1048576 → IsUtf8 text → graphs_of text chains orders ≡ graphs_of_utf8 text chains orders
unfolding graphs_of_bytes
whole_text text chains orders short utf8 =
    let test : (utf8_valid_len text == length text) ≡ true = eq-eqb _ _ (utf8_valid_len-IsUtf8 text utf8) in
    short_text text chains orders short ∙ rw test refl

-- the text is UTF-8 up to a place
pub part_text : (text : List ℕ) (chains : List ChainPolicy) (orders : List Order) (n : ℕ) → length text ≤ 1048576 → IsValidUpTo text n → graphs_of text chains orders ≡ Err (NotUtf8 n)
unfolding graphs_of_bytes
part_text text chains orders n short valid =
    let same : utf8_valid_len text ≡ n = utf8_valid_len-IsValidUpTo text n valid in
    let test : (utf8_valid_len text == length text) ≡ false = ne_eqb _ _ (omega (arith, same, valid.short)) in
    short_text text chains orders short ∙ rw test (ap (λ k. Err (NotUtf8 k)) same)

-- what holds for the due value holds for what was given
pub of_due : {A B : Type 0} (view : A → B) (P : B → Type 0) (r : Result A GraphReadFault) (due : Result B GraphFault) → Gives view r due → ((x : B) → due ≡ Ok x → P x) → IfOk r (λ x. P (view x))
of_due view P (Ok x) due e h = h (view x) e
of_due view P (Err fault) due e h = tt
