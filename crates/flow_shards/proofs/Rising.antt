-- Lines stay in the order of first sight, each flow once, while packets whose numbers rise are counted.
use Rattle.std.proofs.Common.{◌≡◌, ◌≤◌, ◌<◌, ◌∙◌, ℕ, List, [], ◌∷◌, ◌++◌, map, length, Bool, true, false, refl, sym, ap, subst, arith}
use Rattle.std.specs.Prelude.{◌||◌, ⊤, if◌then◌else◌, Option, Some, None, unwrap_or, filter_map}
use Rattle.std.specs.List.{AllByRecursion, IsDistinct, cons_option}
use Rattle.std.specs.Map.{keys_of}
use Rattle.std.proofs.lemmas.Bool.{true≢false}
use Rattle.std.proofs.lemmas.List.{length-append, length-map}
use Rattle.capture_bytes.specs.declared.packet.Unit.{Unit as TimeUnit}
use Rattle.capture_bytes.specs.Packets.{time_of}
use Rattle.packet_fields.specs.Frames.{packet}
use Rattle.packet_fields.specs.Packets.{total_len, control_bits}
use Rattle.classifier.specs.declared.burst.Item.{Item}
use Rattle.first_sight.specs.FirstSight.{is_seen, belonging, with_value}
use Rattle.first_sight.proofs.Noting.{keys_noted}
use Rattle.flow_line.specs.declared.line.FlowLine.{FlowLine}
use Rattle.packet_function.specs.SameFlow.{is_same_flow}
use Rattle.packet_function.specs.SameFlowLaws.{same_flow}
use Rattle.packet_function.specs.declared.flow.FiveTuple.{FiveTuple}
use Rattle.flow_shards.specs.Flows.{Lines, counted, counted_all, first_line, with_sight, flow_in, sight_by, sight_of, flows_from}
use Rattle.flow_shards.specs.Sharding.{IsRising, AreOrdered, AreRising, last_of}
use Rattle.flow_shards.specs.declared.sight.Sight.{Sight}

-- the numbers of the first packets
abbrev firsts : Lines → List ℕ
firsts lines = map (λ line. line.1.first) lines

-- numbers rise, and none is above this one
abbrev AreIncreasing : List ℕ → Type 0
AreIncreasing [] = ⊤
AreIncreasing (n ∷ ns) = AllByRecursion (λ m. n < m) ns × AreIncreasing ns

abbrev AreUpTo : ℕ → List ℕ → Type 0
AreUpTo last ns = AllByRecursion (λ n. n ≤ last) ns

behind_of : (n : ℕ) (lines : Lines) → AllByRecursion (λ m. n < m) (firsts lines) → AllByRecursion (λ (line : FiveTuple × FlowLine). n < line.1.first) lines
behind_of n [] h = tt
behind_of n (line ∷ lines) h = (h.0, behind_of n lines h.1)

behind_to : (n : ℕ) (lines : Lines) → AllByRecursion (λ (line : FiveTuple × FlowLine). n < line.1.first) lines → AllByRecursion (λ m. n < m) (firsts lines)
behind_to n [] h = tt
behind_to n (line ∷ lines) h = (h.0, behind_to n lines h.1)

rising_of : (lines : Lines) → AreIncreasing (firsts lines) → IsRising lines
rising_of [] h = tt
rising_of (line ∷ lines) h = (behind_of line.1.first lines h.0, rising_of lines h.1)

rising_to : (lines : Lines) → IsRising lines → AreIncreasing (firsts lines)
rising_to [] h = tt
rising_to (line ∷ lines) h = (behind_to line.1.first lines h.0, rising_to lines h.1)

within_of : (last : ℕ) (lines : Lines) → AreUpTo last (firsts lines) → AllByRecursion (λ (line : FiveTuple × FlowLine). line.1.first ≤ last) lines
within_of last [] h = tt
within_of last (line ∷ lines) h = (h.0, within_of last lines h.1)

within_to : (last : ℕ) (lines : Lines) → AllByRecursion (λ (line : FiveTuple × FlowLine). line.1.first ≤ last) lines → AreUpTo last (firsts lines)
within_to last [] h = tt
within_to last (line ∷ lines) h = (h.0, within_to last lines h.1)

up_to_more : (last more : ℕ) (ns : List ℕ) → last ≤ more → AreUpTo last ns → AreUpTo more ns
up_to_more last more [] h up = tt
up_to_more last more (n ∷ ns) h up = (omega (arith, h, up.0), up_to_more last more ns h up.1)

up_to_last : (last : ℕ) (ns : List ℕ) → AreUpTo last ns → AreUpTo last (ns ++ last ∷ [])
up_to_last last [] up = (omega arith, tt)
up_to_last last (n ∷ ns) up = (up.0, up_to_last last ns up.1)

above_last : (n last more : ℕ) (ns : List ℕ) → n ≤ last → last < more → AllByRecursion (λ m. n < m) ns → AllByRecursion (λ m. n < m) (ns ++ more ∷ [])
above_last n last more [] h g above = (omega (arith, h, g), tt)
above_last n last more (m ∷ ns) h g above = (above.0, above_last n last more ns h g above.1)

increasing_last : (last more : ℕ) (ns : List ℕ) → last < more → AreUpTo last ns → AreIncreasing ns → AreIncreasing (ns ++ more ∷ [])
increasing_last last more [] h up rise = (tt, tt)
increasing_last last more (n ∷ ns) h up rise = (above_last n last more ns up.0 h rise.0, increasing_last last more ns h up.1 rise.1)

-- if a flow isn't among keys, nothing is returned
none_given : (flow : FiveTuple) (value : FlowLine) (lines : Lines) → AllByRecursion (λ k. is_same_flow flow k ≡ false) (keys_of lines) → map (with_value is_same_flow flow value) lines ≡ lines
none_given flow value [] none = refl
none_given flow value (line ∷ lines) none = λ i. (if none.0 i then (line.0, value) else line) ∷ none_given flow value lines none.1 i

not_among : (flow key : FiveTuple) (keys : List FiveTuple) → is_same_flow flow key ≡ true → AllByRecursion (λ k. is_same_flow key k ≡ false) keys → AllByRecursion (λ k. is_same_flow flow k ≡ false) keys
not_among flow key [] same none = tt
not_among flow key (k ∷ keys) same none = (same_flow.congr flow key k same ∙ none.0, not_among flow key keys same none.1)

-- a line that was seen keeps the number of its first packet
renewed : (s : Sight) (lines : Lines) → IsDistinct is_same_flow (keys_of lines) →
    firsts (map (with_value is_same_flow s.flow (with_sight (unwrap_or (belonging is_same_flow lines s.flow) (first_line s)) s)) lines) ≡ firsts lines
unfolding IsDistinct
renewed s [] distinct = refl
renewed s (line ∷ lines) distinct = by (is_same_flow s.flow line.0) refl (renewed s lines distinct.1)
  where
    by : (b : Bool) → is_same_flow s.flow line.0 ≡ b →
        firsts (map (with_value is_same_flow s.flow (with_sight (unwrap_or (belonging is_same_flow lines s.flow) (first_line s)) s)) lines) ≡ firsts lines →
        (if b then (line.0, with_sight (unwrap_or (if b then Some line.1 else belonging is_same_flow lines s.flow) (first_line s)) s) else line).1.first
        ∷ firsts (map (with_value is_same_flow s.flow (with_sight (unwrap_or (if b then Some line.1 else belonging is_same_flow lines s.flow) (first_line s)) s)) lines) ≡ line.1.first ∷ firsts lines
    by true same rest = ap (λ l. line.1.first ∷ firsts l) (none_given s.flow (with_sight line.1 s) lines (not_among s.flow line.0 (keys_of lines) same distinct.0))
    by false other rest = ap (λ l. line.1.first ∷ l) rest

-- nothing belongs to a flow that wasn't seen
none_belongs : (flow : FiveTuple) (lines : Lines) → is_seen is_same_flow (keys_of lines) flow ≡ false → belonging is_same_flow lines flow ≡ None
none_belongs flow [] new = refl
none_belongs flow (line ∷ lines) new = by (is_same_flow flow line.0) new (none_belongs flow lines)
  where
    by : (b : Bool) → (b || is_seen is_same_flow (keys_of lines) flow) ≡ false → (is_seen is_same_flow (keys_of lines) flow ≡ false → belonging is_same_flow lines flow ≡ None) →
        (if b then Some line.1 else belonging is_same_flow lines flow) ≡ None
    by true new rest = absurd (true≢false new)
    by false new rest = rest new

firsts_last : (line : FiveTuple × FlowLine) (lines : Lines) → firsts (lines ++ line ∷ []) ≡ firsts lines ++ line.1.first ∷ []
firsts_last line [] = refl
firsts_last line (x ∷ lines) = ap (λ l. x.1.first ∷ l) (firsts_last line lines)

-- the numbers of the first packets, after one more is counted
firsts_counted : (s : Sight) (lines : Lines) → IsDistinct is_same_flow (keys_of lines) →
    firsts (counted lines s) ≡ (if is_seen is_same_flow (keys_of lines) s.flow then firsts lines else firsts lines ++ s.number ∷ [])
firsts_counted s lines distinct = by (is_seen is_same_flow (keys_of lines) s.flow) refl
  where
    by : (b : Bool) → is_seen is_same_flow (keys_of lines) s.flow ≡ b →
        firsts (if b then map (with_value is_same_flow s.flow (with_sight (unwrap_or (belonging is_same_flow lines s.flow) (first_line s)) s)) lines
        else lines ++ (s.flow, with_sight (unwrap_or (belonging is_same_flow lines s.flow) (first_line s)) s) ∷ [])
        ≡ (if b then firsts lines else firsts lines ++ s.number ∷ [])
    by true seen = renewed s lines distinct
    by false new =
        firsts_last (s.flow, with_sight (unwrap_or (belonging is_same_flow lines s.flow) (first_line s)) s) lines
        ∙ ap (λ o. firsts lines ++ (with_sight (unwrap_or o (first_line s)) s).first ∷ []) (none_belongs s.flow lines new)

unlike_last : (key flow : FiveTuple) (keys : List FiveTuple) → is_same_flow key flow ≡ false → AllByRecursion (λ k. is_same_flow key k ≡ false) keys → AllByRecursion (λ k. is_same_flow key k ≡ false) (keys ++ flow ∷ [])
unlike_last key flow [] other none = (other, tt)
unlike_last key flow (k ∷ keys) other none = (none.0, unlike_last key flow keys other none.1)

distinct_last : (flow : FiveTuple) (keys : List FiveTuple) → is_seen is_same_flow keys flow ≡ false → IsDistinct is_same_flow keys → IsDistinct is_same_flow (keys ++ flow ∷ [])
unfolding IsDistinct
distinct_last flow [] new distinct = (tt, tt)
distinct_last flow (key ∷ keys) new distinct = by (is_same_flow flow key) refl new (distinct_last flow keys)
  where
    by : (b : Bool) → is_same_flow flow key ≡ b → (b || is_seen is_same_flow keys flow) ≡ false → (is_seen is_same_flow keys flow ≡ false → IsDistinct is_same_flow keys → IsDistinct is_same_flow (keys ++ flow ∷ [])) →
        AllByRecursion (λ k. is_same_flow key k ≡ false) (keys ++ flow ∷ []) × IsDistinct is_same_flow (keys ++ flow ∷ [])
    by true same new rest = absurd (true≢false new)
    by false other new rest = (unlike_last key flow keys (same_flow.symm key flow ∙ other) distinct.0, rest new distinct.1)

distinct_counted : (s : Sight) (lines : Lines) → IsDistinct is_same_flow (keys_of lines) → IsDistinct is_same_flow (keys_of (counted lines s))
distinct_counted s lines distinct =
    subst (IsDistinct is_same_flow) (sym (keys_noted is_same_flow lines s.flow (with_sight (unwrap_or (belonging is_same_flow lines s.flow) (first_line s)) s))) (by (is_seen is_same_flow (keys_of lines) s.flow) refl)
  where
    by : (b : Bool) → is_seen is_same_flow (keys_of lines) s.flow ≡ b → IsDistinct is_same_flow (if b then keys_of lines else keys_of lines ++ s.flow ∷ [])
    by true seen = distinct
    by false new = distinct_last s.flow (keys_of lines) new distinct

-- numbers of first packets with which lines are in order
record Numbers (last : ℕ) (ns : List ℕ) : Type 0 where
  increasing : AreIncreasing ns
  up_to : AreUpTo last ns

numbers_counted : (last : ℕ) (s : Sight) (lines : Lines) → AreOrdered last lines → last < s.number → Numbers s.number (firsts (counted lines s))
numbers_counted last s lines ordered above = subst (Numbers s.number) (sym (firsts_counted s lines ordered.distinct)) (by (is_seen is_same_flow (keys_of lines) s.flow))
  where
    rising : AreIncreasing (firsts lines)
    rising = rising_to lines ordered.rising

    within : AreUpTo last (firsts lines)
    within = within_to last lines ordered.within

    more : AreUpTo s.number (firsts lines)
    more = up_to_more last s.number (firsts lines) (omega (arith, above)) within

    by : (b : Bool) → Numbers s.number (if b then firsts lines else firsts lines ++ s.number ∷ [])
    by true = record { increasing = rising; up_to = more }
    by false = record { increasing = increasing_last last s.number (firsts lines) above within rising; up_to = up_to_last s.number (firsts lines) more }

-- a packet makes at most one more line
few_counted : (last : ℕ) (s : Sight) (lines : Lines) → AreOrdered last lines → last < s.number → length (counted lines s) ≤ s.number
few_counted last s lines ordered above =
    let size : length (firsts (counted lines s)) ≡ length (counted lines s) = length-map (counted lines s) (λ line. line.1.first) in
    let grown = by (is_seen is_same_flow (keys_of lines) s.flow) in
    omega (arith, size, ap length (firsts_counted s lines ordered.distinct), grown)
  where
    before : length (firsts lines) ≡ length lines
    before = length-map lines (λ line. line.1.first)

    by : (b : Bool) → length (if b then firsts lines else firsts lines ++ s.number ∷ []) ≤ s.number
    by true = omega (arith, before, ordered.few, above)
    by false = omega (arith, length-append (firsts lines) (s.number ∷ []), before, ordered.few, above)

ordered_counted : (last : ℕ) (s : Sight) (lines : Lines) → AreOrdered last lines → last < s.number → AreOrdered s.number (counted lines s)
ordered_counted last s lines ordered above =
    let numbers = numbers_counted last s lines ordered above in
    record {
      rising = rising_of (counted lines s) numbers.increasing;
      distinct = distinct_counted s lines ordered.distinct;
      within = within_of s.number (counted lines s) numbers.up_to;
      few = few_counted last s lines ordered above;
    }

ordered_later : (last later : ℕ) (lines : Lines) → last ≤ later → AreOrdered last lines → AreOrdered later lines
ordered_later last later lines h ordered = record {
  rising = ordered.rising;
  distinct = ordered.distinct;
  within = within_of later lines (up_to_more last later (firsts lines) h (within_to last lines ordered.within));
  few = omega (arith, h, ordered.few);
}

-- a packet is seen under its own number
own_number : (unit : TimeUnit) (item : Item) (s : Sight) → sight_of unit item ≡ Some s → s.number ≡ item.number
own_number unit item s seen = by (flow_in item.packet.frame) (total_len (packet item.packet.frame)) seen
  where
    by : (flow : Option FiveTuple) (bytes : Option ℕ) → sight_by flow bytes item.number (time_of unit item.packet) (unwrap_or (control_bits (packet item.packet.frame)) 0) ≡ Some s → s.number ≡ item.number
    by (Some flow) (Some bytes) seen = number_in s seen
      where
        number_in : (t : Sight) → Some (record { flow = flow; bytes = bytes; number = item.number; time = time_of unit item.packet; flags = unwrap_or (control_bits (packet item.packet.frame)) 0 }) ≡ Some t → t.number ≡ item.number
        number_in t same = cc
    by (Some flow) None seen = absurd cc
    by None bytes seen = absurd cc

-- lines stay in order while the packets of a burst are counted
pub ordered_all : (unit : TimeUnit) (items : List Item) (last : ℕ) (lines : Lines) → AreOrdered last lines → AreRising last items → AreOrdered (last_of last items) (flows_from unit lines items)
ordered_all unit [] last lines ordered rising = ordered
ordered_all unit (item ∷ items) last lines ordered rising = by (sight_of unit item) refl (λ next. ordered_all unit items item.number next)
  where
    by : (o : Option Sight) → sight_of unit item ≡ o →
        ((next : Lines) → AreOrdered item.number next → AreRising item.number items → AreOrdered (last_of item.number items) (flows_from unit next items)) →
        AreOrdered (last_of item.number items) (counted_all lines (cons_option o (filter_map (sight_of unit) items)))
    by None unseen rest = rest lines (ordered_later last item.number lines (omega (arith, rising.0)) ordered) rising.1
    by (Some s) seen rest =
        let own : s.number ≡ item.number = own_number unit item s seen in
        rest (counted lines s) (subst (λ n. AreOrdered n (counted lines s)) own (ordered_counted last s lines ordered (omega (arith, rising.0, own)))) rising.1
