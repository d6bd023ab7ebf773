-- The pieces of a burst, one after the other.
use Rattle.std.proofs.Common.{◌≡◌, ◌∙◌, ◌≤◌, ◌+◌, ◌-◌, ℕ, List, [], ◌++◌, length, take, drop, sym, ap, subst, arith, take-append-drop}
use Rattle.std.proofs.Math.Seq.{take-add}
use Rattle.std.proofs.lemmas.List.{take_all}
use Rattle.capture_bytes.specs.declared.packet.Unit.{Unit as TimeUnit}
use Rattle.chain_walk.specs.Laws.{KeepsProfile}
use Rattle.chain_walk.specs.Packets.{Packet, fates}
use Rattle.chain_walk.specs.Step.{Behaviour}
use Rattle.chain_walk.specs.declared.walk.Fate.{Fate}
use Rattle.classifier.specs.declared.burst.Item.{Item}
use Rattle.graph_run.specs.Counting.{RaisesUpTo, copies_made}
use Rattle.graph_run.specs.Leading.{Leads}
use Rattle.graph_run.specs.Packets.{packets_taken}
use Rattle.graph_run.specs.Running.{PlainRunning}

-- what `pieces_are_led_in_a_row` says
abbrev pub LedBehind : Type 0 → Type 0
LedBehind F = (b : Behaviour F) (run between after : PlainRunning F) (first later : List Packet) (old new newer : List ℕ) (ended more : List Fate) → KeepsProfile b →
    Leads b run first old new between ended → Leads b between later new newer after more → Leads b run (first ++ later) old newer after (ended ++ more)

abbrev pub LedNone : Type 0 → Type 0
LedNone F = (b : Behaviour F) (run : PlainRunning F) (tally : List ℕ) → Leads b run [] tally tally run []

abbrev pub RefusedBehind : Type 0 → Type 0
RefusedBehind F = (b : Behaviour F) (run between : PlainRunning F) (first later last : List Packet) (old new newer : List ℕ) (ended : List Fate) →
    Leads b run first old new between ended → RaisesUpTo (copies_made between.graph.stages later (fates b between.functions later)) new newer →
    RaisesUpTo (copies_made run.graph.stages (first ++ (later ++ last)) (fates b run.functions (first ++ (later ++ last)))) old newer

abbrev pub TakenBehind : Type 0
TakenBehind = (unit : TimeUnit) (chain : ℕ) (first later : List Item) → packets_taken unit chain (first ++ later) ≡ packets_taken unit chain first ++ packets_taken unit chain later

-- the items up to the end of a piece
upto : (items piece : List Item) (start end : ℕ) → start ≤ end → piece ≡ take (end - start) (drop start items) → take end items ≡ take start items ++ piece
upto items piece start end le is =
    ap (λ (n : ℕ). take n items) (let same : end ≡ start + (end - start) = omega arith in same) ∙ take-add start (end - start) items ∙ ap (λ (l : List Item). take start items ++ l) (sym is)

pub piece_led : {F : Type 0} (b : Behaviour F) (run between after : PlainRunning F) (unit : TimeUnit) (chain : ℕ) (items piece : List Item) (start end : ℕ) (old new newer : List ℕ) (ended more all : List Fate) → LedBehind F → TakenBehind → KeepsProfile b →
    start ≤ end → piece ≡ take (end - start) (drop start items) → all ≡ ended ++ more →
    Leads b run (packets_taken unit chain (take start items)) old new between ended → Leads b between (packets_taken unit chain piece) new newer after more →
    Leads b run (packets_taken unit chain (take end items)) old newer after all
piece_led {F} b run between after unit chain items piece start end old new newer ended more all behind taken keeps le is both x y =
    let row : packets_taken unit chain (take end items) ≡ packets_taken unit chain (take start items) ++ packets_taken unit chain piece = ap (packets_taken unit chain) (upto items piece start end le is) ∙ taken unit chain (take start items) piece in
    subst (λ (l : List Packet). Leads b run l old newer after all) (sym row)
    (subst (λ (l : List Fate). Leads b run (packets_taken unit chain (take start items) ++ packets_taken unit chain piece) old newer after l) (sym both)
    (behind b run between after (packets_taken unit chain (take start items)) (packets_taken unit chain piece) old new newer ended more keeps x y))

pub piece_refused : {F : Type 0} (b : Behaviour F) (run between : PlainRunning F) (unit : TimeUnit) (chain : ℕ) (items piece : List Item) (start end : ℕ) (old new newer : List ℕ) (ended : List Fate) → RefusedBehind F → TakenBehind →
    start ≤ end → piece ≡ take (end - start) (drop start items) →
    Leads b run (packets_taken unit chain (take start items)) old new between ended → RaisesUpTo (copies_made between.graph.stages (packets_taken unit chain piece) (fates b between.functions (packets_taken unit chain piece))) new newer →
    RaisesUpTo (copies_made run.graph.stages (packets_taken unit chain items) (fates b run.functions (packets_taken unit chain items))) old newer
piece_refused {F} b run between unit chain items piece start end old new newer ended behind taken le is x within =
    let first : List Packet = packets_taken unit chain (take start items) in
    let later : List Packet = packets_taken unit chain piece in
    let last : List Packet = packets_taken unit chain (drop (end - start) (drop start items)) in
    let row : packets_taken unit chain items ≡ first ++ (later ++ last) =
    ap (packets_taken unit chain) (sym (take-append-drop start items)) ∙ taken unit chain (take start items) (drop start items)
    ∙ ap (λ (l : List Packet). first ++ l) (ap (packets_taken unit chain) (sym (take-append-drop (end - start) (drop start items)) ∙ ap (λ (l : List Item). l ++ drop (end - start) (drop start items)) (sym is)) ∙ taken unit chain piece (drop (end - start) (drop start items))) in
    subst (λ (l : List Packet). RaisesUpTo (copies_made run.graph.stages l (fates b run.functions l)) old newer) (sym row)
    (behind b run between first later last old new newer ended x within)

-- a refusal while a piece ran: no more copies were made than all items make
pub led_refused : {F : Type 0} (b : Behaviour F) (run after : PlainRunning F) (unit : TimeUnit) (chain : ℕ) (items : List Item) (end : ℕ) (old new : List ℕ) (ended : List Fate) → RefusedBehind F → TakenBehind → LedNone F →
    Leads b run (packets_taken unit chain (take end items)) old new after ended →
    RaisesUpTo (copies_made run.graph.stages (packets_taken unit chain items) (fates b run.functions (packets_taken unit chain items))) old new
led_refused {F} b run after unit chain items end old new ended behind taken none x =
    let first : List Packet = packets_taken unit chain (take end items) in
    let last : List Packet = packets_taken unit chain (drop end items) in
    let row : packets_taken unit chain items ≡ first ++ last = ap (packets_taken unit chain) (sym (take-append-drop end items)) ∙ taken unit chain (take end items) (drop end items) in
    let nothing : RaisesUpTo (copies_made after.graph.stages [] (fates b after.functions [])) new new = λ f. let same = (none b after new).counted f in (omega arith, omega (arith, same)) in
    subst (λ (l : List Packet). RaisesUpTo (copies_made run.graph.stages l (fates b run.functions l)) old new) (sym row)
    (behind b run after first [] last old new new ended x nothing)

pub all_led : {F : Type 0} (b : Behaviour F) (run after : PlainRunning F) (unit : TimeUnit) (chain : ℕ) (items : List Item) (start : ℕ) (old new : List ℕ) (ended : List Fate) → length items ≤ start →
    Leads b run (packets_taken unit chain (take start items)) old new after ended → Leads b run (packets_taken unit chain items) old new after ended
all_led b run after unit chain items start old new ended past x = subst (λ (l : List Item). Leads b run (packets_taken unit chain l) old new after ended) (take_all start items past) x
