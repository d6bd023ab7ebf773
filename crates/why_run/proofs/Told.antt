-- What is told, with one more way.
use Rattle.std.proofs.Common.{◌≡◌, ◌≤◌, ◌+◌, ◌-◌, ◌∙◌, ℕ, zero, suc, List, [], ◌∷◌, ◌++◌, length, map, refl, ap, sym, subst, Bool, true, false, arith}
use Rattle.std.specs.Prelude.{◌==◌, if◌then◌else◌, Option, Some, None, IfSome, slice_get}
use Rattle.std.specs.List.{enumerate_from}
use Rattle.std.specs.Option.{option_map, option_map_or, unwrap_or}
use Rattle.std.proofs.lemmas.List.{append-nil}
use Rattle.std.proofs.lemmas.Bool.{eqb-true, eqb-false}
use Rattle.std.proofs.lemmas.Option.{slice_get-map}
use Rattle.nfp_outside.specs.Outside.{SlotView}
use Rattle.nfp_outside.specs.declared.slot.Slot.{Slot}
use Rattle.capture_bytes.specs.declared.packet.PcapRecord.{PcapRecord}
use Rattle.capture_bytes.specs.declared.packet.Unit.{Unit as TimeUnit}
use Rattle.capture_items.specs.Slots.{Breaks, Gathers}
use Rattle.capture_items.specs.declared.fault.FormatFault.{FormatFault}
use Rattle.capture_items.specs.declared.fault.RunFault.{RunFault}
use Rattle.plain_chains.specs.Plain.{Leads, way_next}
use Rattle.plain_chains.specs.declared.chain.PlainChain.{PlainChain}
use Rattle.plain_chains.specs.declared.service.Led.{Led}
use Rattle.trace_text.specs.Trace.{chain_trace, record_line, trace_of, untaken_trace, way_text}
use Rattle.traced_run.specs.Telling.{told}
use Rattle.traced_run.specs.declared.acts.TracedAct.{TracedAct}
use Rattle.traced_walk.specs.Traced.{Act}
use Rattle.traced_walk.specs.Ways.{Way}
use Rattle.why_account.specs.Accounts.{AddsDrop, NotesWay, account_of, chain_account, chain_accounts}
use Rattle.why_account.specs.declared.account.Account.{Account}
use Rattle.why_account.specs.declared.chain.ChainAccount.{ChainAccount}
use Rattle.why_report.specs.Report.{OrderedChain, drop_in, drop_line, in_order, summary}
use Rattle.why_run.specs.Running.{ordered_of}
use Rattle.why_run.specs.Telling.{AddsLed, AddsLine, AddsSummary, AddsTrace, AddsWay, IsTold, IsWay, KeepsTrace, RecordBreaks, TellsLed, TellsRecord, TellsWay, TracesWay, is_asked}
use Rattle.why_run.specs.Why.{asked_trace, trace_due}
use Rattle.why_run.specs.declared.telling.Telling.{Telling}
use Rattle.why_run.proofs.Gathering.{gathers_more, gathers_pushed}
use Rattle.why_run.proofs.Streaming.{still_ordered}

get_last : {A : Type 0} (xs : List A) (x : A) (k : ℕ) → k ≡ length xs → slice_get (xs ++ x ∷ []) k ≡ Some x
get_last [] x zero is = refl
get_last [] x (suc k) is = absurd (omega (arith, is))
get_last (y ∷ xs) x zero is = absurd (omega (arith, is))
get_last (y ∷ xs) x (suc k) is = get_last xs x k (omega (arith, is))

get_other : {A : Type 0} (xs : List A) (x : A) (k : ℕ) → ¬ (k ≡ length xs) → slice_get (xs ++ x ∷ []) k ≡ slice_get xs k
get_other [] x zero is = absurd (is refl)
get_other [] x (suc k) is = refl
get_other (y ∷ xs) x zero is = refl
get_other (y ∷ xs) x (suc k) is = get_other xs x k (λ same. is (ap suc same))

-- the trace that is due behind one more way
pub asked_more : (chains : List OrderedChain) (done : List Way) (way : Way) (asked : Option ℕ) → IfSome asked (λ n. 1 ≤ n) →
    asked_trace chains (done ++ way ∷ []) asked ≡ (if is_asked asked (length done + 1) then Some (record_line (length done + 1) ++ way_text chains way) else asked_trace chains done asked)
asked_more chains done way None counted = refl
asked_more chains done way (Some number) counted = go (number == length done + 1) refl
  where
    shown : Way → List ℕ
    shown w = record_line number ++ way_text chains w

    go : (b : Bool) → (number == length done + 1) ≡ b → trace_due chains (done ++ way ∷ []) number ≡ (if number == length done + 1 then Some (record_line (length done + 1) ++ way_text chains way) else trace_due chains done number)
    go true is =
        let same : number ≡ length done + 1 = eqb-true number (length done + 1) is in
        ap (option_map shown) (get_last done way (number - 1) (omega (arith, same)))
        ∙ ap (λ n. Some (record_line n ++ way_text chains way)) same
        ∙ ap (λ b. if b then Some (record_line (length done + 1) ++ way_text chains way) else trace_due chains done number) (sym is)
    go false is =
        ap (option_map shown) (get_other done way (number - 1) (λ same. eqb-false number (length done + 1) is (omega (arith, same, counted))))
        ∙ ap (λ b. if b then Some (record_line (length done + 1) ++ way_text chains way) else trace_due chains done number) (sym is)

-- the account of the chain with this number
pub account_at : (first : ℕ) (chains : List OrderedChain) (ways : List Way) (k : ℕ) → slice_get (chain_accounts first chains ways) k ≡ option_map (λ c. chain_account (first + k) c ways) (slice_get chains k)
account_at first [] ways k = refl
account_at first (c ∷ chains) ways zero = ap (λ n. Some (chain_account n c ways)) (plus_none first)
  where
    plus_none : (n : ℕ) → n ≡ n + 0
    plus_none n = omega arith
account_at first (c ∷ chains) ways (suc k) = account_at (first + 1) chains ways k ∙ ap (λ n. option_map (λ d. chain_account n d ways) (slice_get chains k)) (shifted first k)
  where
    shifted : (n m : ℕ) → n + 1 + m ≡ n + suc m
    shifted n m = omega arith

-- ---- the line of a packet, and its trace

none_in : {A B : Type 0} (f : A → B) (o : Option A) → option_map f o ≡ None → o ≡ None
none_in f None is = refl
none_in f (Some a) is = absurd cc

-- the chain at a place, with its functions in order
abbrev pub order_in : PlainChain → OrderedChain
order_in c = in_order c.declared c.order

pub ordered_there : (chains : List PlainChain) (k : ℕ) (found : Option PlainChain) → slice_get chains k ≡ found → slice_get (ordered_of chains) k ≡ option_map order_in found
ordered_there chains k found is = slice_get-map order_in chains k ∙ ap (option_map order_in) is

pub line_untaken : (chains : List PlainChain) (accounts : List ChainAccount) (number : ℕ) (led : Led) (acts : List TracedAct) (old : List ℕ) → led.class ≡ None → AddsLine chains accounts number led acts old old
line_untaken chains accounts number led acts old none = λ ways way keeps is are.
    sym (append-nil old) ∙ ap (λ c. old ++ drop_line (ordered_of chains) number c way) (sym none ∙ is.class)

-- no chain has this number
line_off : (ordered : List OrderedChain) (number class : ℕ) (way : Way) (old : List ℕ) → slice_get ordered class ≡ None → way.class ≡ Some class → old ≡ old ++ drop_line ordered number way.class way
line_off ordered number class way old none class_is =
    sym (append-nil old) ∙ ap (λ o. old ++ option_map_or (λ c. drop_in number c way.acts way.fate) o []) (sym none) ∙ ap (λ c. old ++ drop_line ordered number c way) (sym class_is)

pub line_unknown : (chains : List PlainChain) (accounts : List ChainAccount) (number class : ℕ) (led : Led) (acts : List TracedAct) (old : List ℕ) → led.class ≡ Some class → slice_get chains class ≡ None → AddsLine chains accounts number led acts old old
line_unknown chains accounts number class led acts old some none = λ ways way keeps is are.
    line_off (ordered_of chains) number class way old (ordered_there chains class None none) (sym is.class ∙ some)

pub line_unkept : (chains : List PlainChain) (accounts : List ChainAccount) (number class : ℕ) (led : Led) (acts : List TracedAct) (old : List ℕ) → led.class ≡ Some class → slice_get accounts class ≡ None → AddsLine chains accounts number led acts old old
line_unkept chains accounts number class led acts old some none = λ ways way keeps is are.
    line_off (ordered_of chains) number class way old
    (none_in (λ c. chain_account (0 + class) c ways) (slice_get (ordered_of chains) class) (sym (account_at 0 (ordered_of chains) ways class) ∙ ap (λ l. slice_get l class) (sym are) ∙ none))
    (sym is.class ∙ some)

pub line_added : (chains : List PlainChain) (accounts : List ChainAccount) (number class : ℕ) (chain : PlainChain) (account : ChainAccount) (led : Led) (acts : List TracedAct) (old new : List ℕ) → led.class ≡ Some class → slice_get chains class ≡ Some chain
    → slice_get accounts class ≡ Some account → AddsDrop number chain.declared.name account acts led.fate old new → AddsLine chains accounts number led acts old new
line_added chains accounts number class chain account led acts old new some there kept adds = λ ways way keeps is are.
    let ordered : slice_get (ordered_of chains) class ≡ Some (order_in chain) = ordered_there chains class (Some chain) there in
    let same : Some (chain_account (0 + class) (order_in chain) ways) ≡ Some account =
    ap (option_map (λ c. chain_account (0 + class) c ways)) (sym ordered) ∙ sym (account_at 0 (ordered_of chains) ways class) ∙ ap (λ l. slice_get l class) (sym are) ∙ kept in
    adds (0 + class) (order_in chain) ways way.acts keeps refl (sym (ap (λ o. unwrap_or o account) same)) is.are
    ∙ ap (λ f. old ++ drop_in number (order_in chain) way.acts f) is.fate
    ∙ ap (λ o. old ++ option_map_or (λ c. drop_in number c way.acts way.fate) o []) (sym ordered)
    ∙ ap (λ c. old ++ drop_line (ordered_of chains) number c way) (sym some ∙ is.class)

pub way_untaken : (chains : List PlainChain) (led : Led) (acts : List TracedAct) (old new : List ℕ) → led.class ≡ None → new ≡ old ++ untaken_trace → AddsTrace chains led acts old new
way_untaken chains led acts old new none adds = λ way is. adds ∙ ap (λ c. old ++ trace_of (ordered_of chains) c way.acts way.fate) (sym none ∙ is.class)

pub way_unknown : (chains : List PlainChain) (class : ℕ) (led : Led) (acts : List TracedAct) (old : List ℕ) → led.class ≡ Some class → slice_get chains class ≡ None → AddsTrace chains led acts old old
way_unknown chains class led acts old some none = λ way is.
    sym (append-nil old)
    ∙ ap (λ o. old ++ option_map_or (λ chain. chain_trace chain way.acts way.fate) o []) (sym (ordered_there chains class None none))
    ∙ ap (λ c. old ++ trace_of (ordered_of chains) c way.acts way.fate) (sym some ∙ is.class)

pub way_added : (chains : List PlainChain) (class : ℕ) (chain : PlainChain) (led : Led) (acts : List TracedAct) (old new : List ℕ) → led.class ≡ Some class → slice_get chains class ≡ Some chain
    → ((way_acts : List Act) → acts ≡ map (told true) way_acts → new ≡ old ++ chain_trace (order_in chain) way_acts led.fate) → AddsTrace chains led acts old new
way_added chains class chain led acts old new some there adds = λ way is.
    adds way.acts is.are
    ∙ ap (λ f. old ++ chain_trace (order_in chain) way.acts f) is.fate
    ∙ ap (λ o. old ++ option_map_or (λ c. chain_trace c way.acts way.fate) o []) (sym (ordered_there chains class (Some chain) there))
    ∙ ap (λ c. old ++ trace_of (ordered_of chains) c way.acts way.fate) (sym some ∙ is.class)

-- ---- one packet

-- the accounts of the chains, by what is told
pub accounts_told : (chains : List OrderedChain) (asked : Option ℕ) (done : List Way) (t : Telling) → IsTold chains asked done t → t.account ≡ account_of (ordered_of t.service) done
accounts_told chains asked done t told = told.account ∙ ap (λ o. account_of o done) (sym told.ordered)

pub trace_unkept : (keeps : Bool) (led : Led) (acts : List TracedAct) (t : Telling) → keeps ≡ false → KeepsTrace keeps led acts t t
trace_unkept keeps led acts t kept = record {
  only = refl;
  kept = λ ways way is account. ap (λ b. if b then Some (record_line (length ways + 1) ++ way_text (ordered_of t.service) way) else t.trace) (sym kept);
}

pub trace_kept : (keeps : Bool) (led : Led) (acts : List TracedAct) (t : Telling) (trace : List ℕ) → keeps ≡ true → TracesWay t.service (t.account.totals.records + 1) led acts trace → KeepsTrace keeps led acts t (record t { trace = Some trace })
trace_kept keeps led acts t trace kept traces = record {
  only = refl;
  kept = λ ways way is account.
      ap (λ l. Some l) (traces way (subst (λ b. IsWay b led acts way) kept is))
      ∙ ap (λ a. Some (record_line (a.totals.records + 1) ++ way_text (ordered_of t.service) way)) account
      ∙ ap (λ b. if b then Some (record_line (length ways + 1) ++ way_text (ordered_of t.service) way) else t.trace) (sym kept);
}

pub led_told : (keeps : Bool) (led : Led) (acts : List TracedAct) (old mid : Telling) (account : Account) → keeps ≡ is_asked old.asked (old.account.totals.records + 1) → KeepsTrace keeps led acts old mid
    → NotesWay led.class led.fate acts mid.account account → TellsLed keeps led acts old (record mid { account = account })
led_told keeps led acts old mid account asked_is keeping notes = λ way is chains asked done told.
    let keeps_is : keeps ≡ is_asked asked (length done + 1) = asked_is ∙ (λ i. is_asked (told.asks i) ((told.account i).totals.records + 1)) in
    record {
      ordered = ap (λ t. ordered_of t.service) keeping.only ∙ told.ordered;
      account = notes chains done way keeps is.class is.fate is.are (ap (λ t. t.account) keeping.only ∙ told.account);
      asks = ap (λ t. t.asked) keeping.only ∙ told.asks;
      counted = told.counted;
      trace = keeping.kept done way is (accounts_told chains asked done old told)
          ∙ (λ i. if keeps_is i then Some (record_line (length done + 1) ++ way_text (told.ordered i) way) else told.trace i)
          ∙ sym (asked_more chains done way asked told.counted);
    }

pub led_added : (keeps : Bool) (led : Led) (acts : List TracedAct) (t : Telling) (old new : List ℕ) → AddsLine t.service t.account.chains (t.account.totals.records + 1) led acts old new → AddsLed keeps led acts t old new
led_added keeps led acts t old new adds = λ way is chains asked done told.
    adds done way keeps is (ap (λ a. a.chains) (accounts_told chains asked done t told))
    ∙ (λ i. old ++ drop_line (told.ordered i) ((told.account i).totals.records + 1) way.class way)

-- the chains as the next packet leaves them have the same orders
pub moved_on : (unit : TimeUnit) (r : PcapRecord) (old : Telling) (service : List PlainChain) (chains : List OrderedChain) (asked : Option ℕ) (done : List Way) → Leads unit r old.service service → IsTold chains asked done old
    → IsTold chains asked done (record old { service = service })
moved_on unit r old service chains asked done led told = record {
  ordered = still_ordered unit r old.service service led ∙ told.ordered;
  account = told.account;
  asks = told.asks;
  counted = told.counted;
  trace = told.trace;
}

-- the text of the next packet goes through the buffer
pub record_told : (unit : TimeUnit) (r : PcapRecord) (t t' : Telling) (held mid held' : List ℕ) (old new : Slot → SlotView) → Leads unit r t.service t'.service → TellsWay (way_next t.service unit r) t t'
    → AddsWay (way_next t.service unit r) t held mid → Gathers [] mid held' old new → TellsRecord unit r t t' held held' old new
record_told unit r t t' held mid held' old new led tells adds gathers = record {
  led = led;
  tells = tells;
  gathers = λ chains asked done told.
      let line = drop_line chains (length done + 1) (way_next t.service unit r).class (way_next t.service unit r) in
      subst (λ l. Gathers l held held' old new) (append-nil line) (gathers_more line [] held mid held' old old new (gathers_pushed line held mid old (adds chains asked done told)) gathers);
}

pub record_broken : (unit : TimeUnit) (r : PcapRecord) (t : Telling) (held mid : List ℕ) (old new : Slot → SlotView) (e : RunFault) → AddsWay (way_next t.service unit r) t held mid → Breaks [] mid old new e → RecordBreaks unit r t held old new e
record_broken unit r t held mid old new e adds broken = λ chains asked done told. subst (λ l. Breaks [] l old new e) (adds chains asked done told) broken

-- ---- the end

pub summary_told : (chains : List OrderedChain) (asked : Option ℕ) (done : List Way) (t : Telling) (fault : Option FormatFault) (held text : List ℕ) → IsTold chains asked done t → AddsSummary t.service t.account fault held text → text ≡ held ++ summary chains done fault
summary_told chains asked done t fault held text told adds = adds done (accounts_told chains asked done t told) ∙ ap (λ o. held ++ summary o done fault) told.ordered
