-- Copies of packets that ran in a row: those of the stages that each reaches, field by field and packet by packet.
use Rattle.std.proofs.Common.{◌≡◌, ◌∙◌, ◌≤◌, ◌<◌, ◌+◌, ℕ, zero, suc, Bool, true, false, List, [], ◌∷◌, map, length, take, drop, get_or, sym, ap, refl, arith}
use Rattle.std.specs.Prelude.{◌-◌, ◌^◌, if◌then◌else◌, not, min, filter, nat_lt, Option, Some, None}
use Rattle.std.specs.List.{position, position_or_len, sum_by, zip}
use Rattle.std.proofs.lemmas.Bool.Decides.{nat_tests}
use Rattle.std.proofs.lemmas.List.{drop_more, drop_all, take_all}
use Rattle.std.proofs.lemmas.List.Sums.{sum_by-cons}
use Rattle.packet_fields.specs.declared.field.Field.{Field}
use Rattle.action_profile.specs.Modes.{copies}
use Rattle.capture_bytes.specs.declared.packet.Unit.{Unit as TimeUnit}
use Rattle.chain_walk.specs.Packets.{Packet}
use Rattle.chain_walk.specs.declared.walk.Fate.{Fate}
use Rattle.chain_walk.specs.declared.walk.Fate.TheVariants.{Out, Gone}
use Rattle.classifier.specs.declared.burst.Item.{Item}
use Rattle.graph_compile.specs.Positions.{stands}
use Rattle.graph_compile.specs.declared.graph.Stage.{Stage}
use Rattle.packet_version.specs.Tallies.{count_of, raised}
use Rattle.graph_run.specs.Counting.{reached, copies_in, copies_of, copies_made, RaisesAll}
use Rattle.graph_run.specs.Packets.{is_of, packet_of, packets_taken}
use Rattle.graph_run.proofs.Bursting.{raised_more}

-- a packet that goes out reaches all stages
pub reached_out : (stages : List Stage) (frame : List ℕ) → reached stages (Out frame) ≡ stages
reached_out [] frame = refl
reached_out (s ∷ later) frame = ap (λ (l : List Stage). s ∷ l) (reached_out later frame)

one_more : (n : ℕ) → suc n ≡ 1 + n
one_more n = omega arith

-- one that is dropped reaches those up to the first with the function that dropped it
reached_drop : (stages : List Stage) (p : ℕ) → reached stages (Gone p) ≡ take (suc (position_or_len (stands p) stages)) stages
reached_drop [] p = refl
reached_drop (s ∷ later) p = by_test (stands p s) (reached_drop later p)
  where
    by_test : (t : Bool) → reached later (Gone p) ≡ take (suc (position_or_len (stands p) later)) later →
        s ∷ (if t then [] else reached later (Gone p)) ≡ s ∷ take (if not t then 1 + position_or_len (stands p) later else 0) later
    by_test true rest = refl
    by_test false rest = ap (λ (l : List Stage). s ∷ l) (rest ∙ ap (λ (k : ℕ). take k later) (one_more (position_or_len (stands p) later)))

placed : (n len i : ℕ) (t : Bool) → nat_lt n len ≡ t → (if t then Some n else None) ≡ Some i → i ≡ n
placed n len i true e is = grind arith
placed n len i false e is = grind arith

past : (n len : ℕ) (t : Bool) → nat_lt n len ≡ t → ◌≡◌ {A = Option ℕ} (if t then Some n else None) None → len ≤ n
past n len true e is = grind arith
past n len false e is = grind (arith, nat_tests)

pub reached_to : (stages : List Stage) (p i : ℕ) → position (stands p) stages ≡ Some i → take (i + 1) stages ≡ reached stages (Gone p)
reached_to stages p i is =
    let n : ℕ = position_or_len (stands p) stages in
    let same : i ≡ n = placed n (length stages) i (nat_lt n (length stages)) refl is in
    ap (λ (k : ℕ). take k stages) (let e : i + 1 ≡ suc n = omega arith in e) ∙ sym (reached_drop stages p)

pub reached_end : (stages : List Stage) (p : ℕ) → position (stands p) stages ≡ None → stages ≡ reached stages (Gone p)
reached_end stages p is =
    let n : ℕ = position_or_len (stands p) stages in
    let over : length stages ≤ n = past n (length stages) (nat_lt n (length stages)) refl is in
    sym (take_all (suc n) stages (omega arith)) ∙ sym (reached_drop stages p)

copies_front : (f : Field) (stages : List Stage) (i : ℕ) (d : Stage) → i < length stages → copies_in (take (suc i) stages) f ≡ copies_in (take i stages) f + copies (get_or stages i d).parts f
copies_front f [] i d inside = absurd (omega arith)
copies_front f (s ∷ later) zero d inside = let one = sum_by-cons (λ (t : Stage). copies t.parts f) s [] in omega (arith, one)
copies_front f (s ∷ later) (suc i) d inside =
    let rest = copies_front f later i d (omega arith) in
    let more = sum_by-cons (λ (t : Stage). copies t.parts f) s (take (suc i) later) in
    let less = sum_by-cons (λ (t : Stage). copies t.parts f) s (take i later) in
    omega (arith, rest, more, less)

behind : (i : ℕ) → i + 1 ≡ suc i
behind i = omega arith

pub copies_next : (f : Field) (stages : List Stage) (i made more : ℕ) (d : Stage) → i < length stages → made ≡ min (copies_in (take i stages) f) (2 ^ 64 - 1) → more ≡ copies (get_or stages i d).parts f →
    min (made + more) (2 ^ 64 - 1) ≡ min (copies_in (take (i + 1) stages) f) (2 ^ 64 - 1)
copies_next f stages i made more d inside was is =
    let front = copies_front f stages i d inside in
    let here : min (made + more) (2 ^ 64 - 1) ≡ min (copies_in (take (suc i) stages) f) (2 ^ 64 - 1) = omega (arith, front, was, is) in
    here ∙ ap (λ (k : ℕ). min (copies_in (take k stages) f) (2 ^ 64 - 1)) (sym (behind i))

-- the copies of a packet, up to what a count holds
abbrev pub most_of : List Stage → List ℕ → Fate → Field → ℕ
most_of stages frame fate f = min (copies_of stages frame fate f) (2 ^ 64 - 1)

-- one more packet, and those after it
zip_none : {A B : Type 0} (xs : List A) → zip {K = A} {X = B} xs [] ≡ []
zip_none [] = refl
zip_none (x ∷ xs) = refl

abbrev by_fate : List Stage → Field → Packet × Fate → ℕ
by_fate stages f x = copies_of stages x.0.frame x.1 f

pub nothing_left : (stages : List Stage) (ended : List Fate) (f : Field) → copies_made stages [] ended f ≡ 0
unfolding copies_made
nothing_left stages ended f = refl

none_ended : (stages : List Stage) (packets : List Packet) (f : Field) → copies_made stages packets [] f ≡ 0
unfolding copies_made
none_ended stages packets f = ap (sum_by (by_fate stages f)) (zip_none packets)

packet_first : (stages : List Stage) (p : Packet) (later : List Packet) (ended : List Fate) (f : Field) → copies_made stages (p ∷ later) ended f ≡ copies_made stages (p ∷ []) ended f + copies_made stages later (drop 1 ended) f
unfolding copies_made
packet_first stages p later [] f = let rest = ap (sum_by (by_fate stages f)) (zip_none later) in omega (arith, rest)
packet_first stages p later (e ∷ ended) f =
    let all = sum_by-cons (by_fate stages f) (p, e) (zip later ended) in
    let one = sum_by-cons (by_fate stages f) (p, e) [] in
    omega (arith, all, one)

item_first : (stages : List Stage) (unit : TimeUnit) (chain : ℕ) (x : Item) (xs : List Item) (ended : List Fate) (f : Field) →
    copies_made stages (packets_taken unit chain (x ∷ xs)) ended f ≡ copies_made stages (packets_taken unit chain (x ∷ [])) ended f + copies_made stages (packets_taken unit chain xs) (if is_of chain x then drop 1 ended else ended) f
item_first stages unit chain x xs ended f = by_test (is_of chain x)
  where
    later : List Packet
    later = map (packet_of unit) (filter (is_of chain) xs)

    by_test : (t : Bool) → copies_made stages (map (packet_of unit) (if t then x ∷ filter (is_of chain) xs else filter (is_of chain) xs)) ended f ≡
        copies_made stages (map (packet_of unit) (if t then x ∷ [] else [])) ended f + copies_made stages later (if t then drop 1 ended else ended) f
    by_test true = packet_first stages (packet_of unit x) later ended f
    by_test false = let none = nothing_left stages ended f in omega (arith, none)

-- an item of another chain, one without a fate, and one that ended so
pub of_another : (stages : List Stage) (unit : TimeUnit) (chain : ℕ) (item : Item) (ended : List Fate) (tally : List ℕ) → is_of chain item ≡ false → RaisesAll (copies_made stages (packets_taken unit chain (item ∷ [])) ended) tally tally
of_another stages unit chain item ended tally apart f =
    let none : copies_made stages (packets_taken unit chain (item ∷ [])) ended f ≡ 0 =
    ap (λ (t : Bool). copies_made stages (map (packet_of unit) (if t then item ∷ [] else [])) ended f) apart ∙ nothing_left stages ended f in
    omega (arith, none)

pub without_fate : (stages : List Stage) (unit : TimeUnit) (chain : ℕ) (item : Item) (ended : List Fate) (tally : List ℕ) → length ended ≡ 0 → RaisesAll (copies_made stages (packets_taken unit chain (item ∷ [])) ended) tally tally
without_fate stages unit chain item (e ∷ ended) tally over f = absurd (omega arith)
without_fate stages unit chain item [] tally over f =
    let none : copies_made stages (packets_taken unit chain (item ∷ [])) [] f ≡ 0 = none_ended stages (packets_taken unit chain (item ∷ [])) f in
    omega (arith, none)

one_made : (stages : List Stage) (p : Packet) (fate : Fate) (later : List Fate) (f : Field) → copies_made stages (p ∷ []) (fate ∷ later) f ≡ copies_of stages p.frame fate f
unfolding copies_made
one_made stages p fate later f = let one = sum_by-cons (by_fate stages f) (p, fate) [] in omega (arith, one)

pub with_fate : (stages shown : List Stage) (unit : TimeUnit) (chain : ℕ) (item : Item) (frame : List ℕ) (fate : Fate) (ended later : List Fate) (old new : List ℕ) → is_of chain item ≡ true → shown ≡ stages → frame ≡ item.packet.frame → ended ≡ fate ∷ later →
    RaisesAll (copies_of shown frame fate) old new → RaisesAll (copies_made stages (packets_taken unit chain (item ∷ [])) ended) old new
with_fate stages shown unit chain item frame fate ended later old new is all framed over was f =
    let same : copies_made stages (packets_taken unit chain (item ∷ [])) ended f ≡ copies_of shown frame fate f =
    ap (λ (t : Bool). copies_made stages (map (packet_of unit) (if t then item ∷ [] else [])) ended f) is
    ∙ ap (λ (l : List Fate). copies_made stages (packet_of unit item ∷ []) l f) over
    ∙ one_made stages (packet_of unit item) fate later f
    ∙ (λ i. copies_of (sym all i) (sym framed i) fate f) in
    was f ∙ ap (raised (count_of old f)) (sym same)

-- The copies of the items before one are counted, and these fates remain for those from it on.
pub record HasCounted (stages : List Stage) (unit : TimeUnit) (chain : ℕ) (items : List Item) (ended left : List Fate) (i : ℕ) (old new : List ℕ) : Type 0 where
  pub made : Field → ℕ
  pub counted : RaisesAll made old new
  pub due : (f : Field) → copies_made stages (packets_taken unit chain items) ended f ≡ made f + copies_made stages (packets_taken unit chain (drop i items)) left f

pub counts_begin : (stages : List Stage) (unit : TimeUnit) (chain : ℕ) (items : List Item) (ended : List Fate) (tally : List ℕ) → HasCounted stages unit chain items ended ended 0 tally tally
counts_begin stages unit chain items ended tally = record {
  made = λ f. 0;
  counted = λ f. omega arith;
  due = λ f. omega arith;
}

pub counts_next : (stages : List Stage) (unit : TimeUnit) (chain : ℕ) (items : List Item) (ended left rest : List Fate) (i : ℕ) (old new newer : List ℕ) (item : Item) → HasCounted stages unit chain items ended left i old new →
    i < length items → item ≡ get_or items i item → RaisesAll (copies_made stages (packets_taken unit chain (item ∷ [])) left) new newer → rest ≡ (if is_of chain item then drop 1 left else left) → HasCounted stages unit chain items ended rest (i + 1) old newer
counts_next stages unit chain items ended left rest i old new newer item was inside is counted goes = record {
  made = λ f. was.made f + copies_made stages (packets_taken unit chain (item ∷ [])) left f;
  counted = λ f. raised_more (count_of old f) (was.made f) (copies_made stages (packets_taken unit chain (item ∷ [])) left f) (was.made f + copies_made stages (packets_taken unit chain (item ∷ [])) left f) (count_of new f) (count_of newer f) (was.counted f) (counted f) refl;
  due = λ f.
      let cut : drop i items ≡ item ∷ drop (i + 1) items = drop_more items i item inside ∙ ap (λ (x : Item). x ∷ drop (i + 1) items) (sym is) in
      let here : copies_made stages (packets_taken unit chain (drop i items)) left f ≡ copies_made stages (packets_taken unit chain (item ∷ [])) left f + copies_made stages (packets_taken unit chain (drop (i + 1) items)) rest f =
      ap (λ (l : List Item). copies_made stages (packets_taken unit chain l) left f) cut ∙ item_first stages unit chain item (drop (i + 1) items) left f
      ∙ ap (λ (l : List Fate). copies_made stages (packets_taken unit chain (item ∷ [])) left f + copies_made stages (packets_taken unit chain (drop (i + 1) items)) l f) (sym goes) in
      let all = was.due f in
      omega (arith, here, all);
}

pub counts_end : (stages : List Stage) (unit : TimeUnit) (chain : ℕ) (items : List Item) (ended left : List Fate) (i : ℕ) (old new : List ℕ) → length items ≤ i → HasCounted stages unit chain items ended left i old new →
    RaisesAll (copies_made stages (packets_taken unit chain items) ended) old new
counts_end stages unit chain items ended left i old new over was f =
    let none : copies_made stages (packets_taken unit chain (drop i items)) left f ≡ 0 = ap (λ (l : List Item). copies_made stages (packets_taken unit chain l) left f) (drop_all i items over) ∙ nothing_left stages left f in
    let all = was.due f in
    let up = was.counted f in
    let same : copies_made stages (packets_taken unit chain items) ended f ≡ was.made f = omega (arith, none, all) in
    up ∙ ap (raised (count_of old f)) (sym same)
