-- The chains in a row: their accounts and their lines.
use Rattle.std.proofs.Common.{◌≡◌, ◌<◌, ◌+◌, ◌∙◌, ℕ, zero, suc, List, [], ◌∷◌, ◌++◌, length, map, take, get_or, refl, ap, sym, append_assoc, arith}
use Rattle.std.specs.Prelude.{Option, Some, None, OnOk, Result, Ok, Err, IfErr, slice_get}
use Rattle.std.specs.List.{enumerate_from, flat_map}
use Rattle.std.specs.Option.{option_map, unwrap_or}
use Rattle.std.proofs.lemmas.List.{append-nil, length-map, map-append, take_more}
use Rattle.std.proofs.lemmas.List.Concat.{flat_map-append}
use Rattle.std.proofs.lemmas.List.FromFn.{length-enumerate_from}
use Rattle.plain_chains.specs.declared.chain.PlainChain.{PlainChain}
use Rattle.traced_walk.specs.Ways.{Way}
use Rattle.why_account.specs.Accounts.{AddsChain, chain_account, chain_accounts}
use Rattle.why_account.specs.declared.chain.ChainAccount.{ChainAccount}
use Rattle.why_report.specs.Report.{OrderedChain, chain_lines}
use Rattle.why_run.specs.Running.{ordered_of}
use Rattle.why_run.specs.Telling.{AddsChainAt}
use Rattle.why_run.proofs.Streaming.{enumerate-append}
use Rattle.why_run.proofs.Told.{account_at, order_in, ordered_there}

pub on_ok : {T E : Type 0} (r : Result T E) (P Q : Type 0) → (P → Q) → OnOk r P → OnOk r Q
on_ok (Ok x) P Q f p = f p
on_ok (Err e) P Q f p = tt

pub if_err : {T E : Type 0} (r : Result T E) (P Q : E → Type 0) → ((e : E) → P e → Q e) → IfErr r P → IfErr r Q
if_err (Ok x) P Q f p = tt
if_err (Err e) P Q f p = f e p

-- ---- one chain

account_there : (chains : List PlainChain) (ways : List Way) (accounts : List ChainAccount) (place : ℕ) (chain : PlainChain) (found : Option ChainAccount) → accounts ≡ chain_accounts 0 (ordered_of chains) ways → slice_get chains place ≡ Some chain
    → slice_get accounts place ≡ found → Some (chain_account (0 + place) (order_in chain) ways) ≡ found
account_there chains ways accounts place chain found are there got =
    ap (option_map (λ c. chain_account (0 + place) c ways)) (sym (ordered_there chains place (Some chain) there)) ∙ sym (account_at 0 (ordered_of chains) ways place) ∙ ap (λ l. slice_get l place) (sym are) ∙ got

from_zero : (n : ℕ) → 0 + n ≡ n
from_zero n = omega arith

pub chain_added : (chain : PlainChain) (accounts : List ChainAccount) (place : ℕ) (account : ChainAccount) (old new : List ℕ) → slice_get accounts place ≡ Some account → AddsChain chain.declared account old new → AddsChainAt chain accounts place old new
chain_added chain accounts place account old new got adds = λ chains ways are there.
    adds (0 + place) (order_in chain) ways refl (sym (ap (λ o. unwrap_or o account) (account_there chains ways accounts place chain (Some account) are there got)))
    ∙ ap (λ n. old ++ chain_lines n (order_in chain) ways) (from_zero place)

pub chain_missing : (chain : PlainChain) (accounts : List ChainAccount) (place : ℕ) (old : List ℕ) → slice_get accounts place ≡ None → AddsChainAt chain accounts place old old
chain_missing chain accounts place old got = λ chains ways are there.
    absurd (let wrong : Some (chain_account (0 + place) (order_in chain) ways) ≡ None = account_there chains ways accounts place chain None are there got in cc)

-- ---- chains in a row

length_taken : {A : Type 0} (xs : List A) (i : ℕ) → i < length xs → length (take i xs) ≡ i
length_taken xs zero inside = refl
length_taken [] (suc i) inside = absurd (omega arith)
length_taken (x ∷ xs) (suc i) inside = ap suc (length_taken xs i (omega arith))

-- the chains so far and one more, with their numbers
numbered_more : (chains : List PlainChain) (i : ℕ) (chain : PlainChain) → i < length chains → chain ≡ get_or chains i chain → enumerate_from 0 (ordered_of (take (i + 1) chains)) ≡ enumerate_from 0 (ordered_of (take i chains)) ++ (i, order_in chain) ∷ []
numbered_more chains i chain inside is =
    ap (λ l. enumerate_from 0 (ordered_of l)) (take_more chains i chain inside ∙ ap (λ c. take i chains ++ c ∷ []) (sym is))
    ∙ ap (enumerate_from 0) (map-append order_in (take i chains) (chain ∷ []))
    ∙ enumerate-append 0 (ordered_of (take i chains)) (order_in chain ∷ [])
    ∙ ap (λ n. enumerate_from 0 (ordered_of (take i chains)) ++ (n, order_in chain) ∷ []) (from_zero (length (ordered_of (take i chains))) ∙ length-map (take i chains) order_in ∙ length_taken chains i inside)

pub chains_more : (ways : List Way) (chains : List PlainChain) (i : ℕ) (chain : PlainChain) (first old new : List ℕ) → i < length chains → chain ≡ get_or chains i chain
    → old ≡ first ++ flat_map (λ x. chain_lines x.0 x.1 ways) (enumerate_from 0 (ordered_of (take i chains))) → new ≡ old ++ chain_lines i (order_in chain) ways
    → new ≡ first ++ flat_map (λ x. chain_lines x.0 x.1 ways) (enumerate_from 0 (ordered_of (take (i + 1) chains)))
chains_more ways chains i chain first old new inside is before added =
    let text : ℕ × OrderedChain → List ℕ = λ (x : ℕ × OrderedChain). chain_lines x.0 x.1 ways in
    let so_far : List (ℕ × OrderedChain) = enumerate_from 0 (ordered_of (take i chains)) in
    added ∙ ap (λ l. l ++ chain_lines i (order_in chain) ways) before ∙ append_assoc first (flat_map text so_far) (chain_lines i (order_in chain) ways)
    ∙ ap (λ l. first ++ l) (sym (ap (flat_map text) (numbered_more chains i chain inside is) ∙ flat_map-append text so_far ((i, order_in chain) ∷ [])
    ∙ ap (λ l. flat_map text so_far ++ l) (append-nil (chain_lines i (order_in chain) ways))))

pub accounts_more : (chains : List PlainChain) (i : ℕ) (chain : PlainChain) (old new : List ChainAccount) → i < length chains → chain ≡ get_or chains i chain → old ≡ chain_accounts 0 (ordered_of (take i chains)) []
    → new ≡ old ++ chain_account (length old) (order_in chain) [] ∷ [] → new ≡ chain_accounts 0 (ordered_of (take (i + 1) chains)) []
accounts_more chains i chain old new inside is before added =
    let account : ℕ × OrderedChain → ChainAccount = λ (x : ℕ × OrderedChain). chain_account x.0 x.1 [] in
    let so_far : List (ℕ × OrderedChain) = enumerate_from 0 (ordered_of (take i chains)) in
    let many : length old ≡ i = ap length before ∙ length-map so_far account ∙ length-enumerate_from 0 (ordered_of (take i chains)) ∙ length-map (take i chains) order_in ∙ length_taken chains i inside in
    added ∙ (λ j. before j ++ chain_account (many j) (order_in chain) [] ∷ [])
    ∙ sym (ap (map account) (numbered_more chains i chain inside is) ∙ map-append account so_far ((i, order_in chain) ∷ []))
