-- What a capture gives in a row, the ways of its packets, and their lines.
use Rattle.std.proofs.Common.{◌≡◌, ◌+◌, ◌∙◌, ℕ, suc, List, [], ◌∷◌, ◌++◌, length, map, refl, ap, sym, subst, append_assoc, arith}
use Rattle.std.specs.Prelude.{Option, Some, None, IfSome}
use Rattle.std.specs.List.{enumerate_from, flat_map}
use Rattle.std.specs.Option.{option_map}
use Rattle.std.proofs.lemmas.List.{append-nil, length-map}
use Rattle.std.proofs.lemmas.List.Concat.{flat_map-append}
use Rattle.capture_bytes.specs.declared.packet.PcapRecord.{PcapRecord}
use Rattle.capture_bytes.specs.declared.packet.Unit.{Unit as TimeUnit}
use Rattle.capture_items.specs.Streams.{Stream, records_in, with_given}
use Rattle.capture_items.specs.declared.fault.FormatFault.{FormatFault}
use Rattle.capture_items.specs.declared.given.Given.{Given}
use Rattle.capture_items.specs.declared.given.Given.TheVariants.{Packet, Block}
use Rattle.chain_walk.specs.Step.{Behaviour}
use Rattle.packet_function.specs.Deciding.{Deciding}
use Rattle.piece_walk.specs.Pieces.{Piece}
use Rattle.service_walk.specs.Service.{Classed, served}
use Rattle.traced_walk.specs.Ways.{Way, ways}
use Rattle.policy_chains.specs.Fates.{all_classed, classed}
use Rattle.policy_chains.specs.NamedFunctions.{named_behaviour, named_decides}
use Rattle.plain_chains.specs.PacketWays.{ways_of}
use Rattle.plain_chains.specs.Plain.{Leads, chains_of, next_classed, way_next}
use Rattle.plain_chains.specs.declared.chain.PlainChain.{PlainChain}
use Rattle.why_report.specs.Report.{OrderedChain, all_in_order, drop_line, drop_lines, in_order}
use Rattle.why_run.specs.Running.{ordered_of}

pub records-append : {X B : Type 0} (xs ys : List (Given X B)) → records_in (xs ++ ys) ≡ records_in xs ++ records_in ys
records-append [] ys = refl
records-append (Packet r x ∷ xs) ys = ap (λ l. r ∷ l) (records-append xs ys)
records-append (Block b ∷ xs) ys = records-append xs ys

-- this before the rest of a capture
abbrev pub with_all : {X B : Type 0} → List (Given X B) → Stream X B → Stream X B
with_all done rest = record { given = done ++ rest.given; fault = rest.fault }

pub with_more : {X B : Type 0} (done : List (Given X B)) (x : Given X B) (o : Option (Stream X B)) → option_map (with_all done) (option_map (with_given x) o) ≡ option_map (with_all (done ++ x ∷ [])) o
with_more done x None = refl
with_more done x (Some rest) = ap (λ l. Some (record { given = l; fault = rest.fault })) (sym (append_assoc done (x ∷ []) rest.given))

pub with_none : {X B : Type 0} (o : Option (Stream X B)) → o ≡ option_map (with_all []) o
with_none None = refl
with_none (Some rest) = refl

-- ---- chains with their orders

ordered_by : (chains : List PlainChain) → ordered_of chains ≡ all_in_order (map (λ c. c.declared) chains) (map (λ c. c.order) chains)
ordered_by [] = refl
ordered_by (c ∷ chains) = ap (λ l. in_order c.declared c.order ∷ l) (ordered_by chains)

-- a packet leaves the orders
pub still_ordered : (unit : TimeUnit) (r : PcapRecord) (old new : List PlainChain) → Leads unit r old new → ordered_of new ≡ ordered_of old
still_ordered unit r old new led = ordered_by new ∙ (λ i. all_in_order (led.declared i) (led.orders i)) ∙ sym (ordered_by old)

-- ---- ways

-- the ways behind the next packet's
abbrev pub ways_behind : TimeUnit → PcapRecord → List PlainChain → List PcapRecord → List Way
ways_behind unit r chains rs = ways named_behaviour named_decides (served named_behaviour (chains_of chains).pieces (next_classed chains unit r).class (next_classed chains unit r).packet).chains (all_classed (chains_of chains).declared unit rs)

pub ways_first : (unit : TimeUnit) (r : PcapRecord) (rs : List PcapRecord) (chains : List PlainChain) → ways_of (chains_of chains) unit (r ∷ rs) ≡ way_next chains unit r ∷ ways_behind unit r chains rs
unfolding ways
ways_first unit r rs chains = refl

-- the next packet's way, and the ways of the chains as it left them
pub ways_next : (unit : TimeUnit) (r : PcapRecord) (rs : List PcapRecord) (old new : List PlainChain) → Leads unit r old new
    → ways_of (chains_of old) unit (r ∷ rs) ≡ way_next old unit r ∷ ways_of (chains_of new) unit rs
ways_next unit r rs old new led =
    ways_first unit r rs old
    ∙ ap (λ l. way_next old unit r ∷ l)
    (λ i. ways named_behaviour named_decides (sym led.pieces i) (all_classed (sym led.declared i) unit rs))

length-each : {F : Type 0} (b : Behaviour F) (d : Deciding F) (chains : List (List (Piece F))) (xs : List Classed) → length (ways b d chains xs) ≡ length xs
unfolding ways
length-each b d chains [] = refl
length-each b d chains (x ∷ xs) = ap suc (length-each b d (served b chains x.class x.packet).chains xs)

pub length-ways : (chains : List PlainChain) (unit : TimeUnit) (rs : List PcapRecord) → length (ways_of (chains_of chains) unit rs) ≡ length rs
length-ways chains unit rs =
    length-each named_behaviour named_decides (chains_of chains).pieces (all_classed (chains_of chains).declared unit rs)
    ∙ length-map rs (classed (chains_of chains).declared unit)

-- ---- lines

pub enumerate-append : {A : Type 0} (n : ℕ) (xs ys : List A) → enumerate_from n (xs ++ ys) ≡ enumerate_from n xs ++ enumerate_from (n + length xs) ys
enumerate-append n [] ys = ap (λ k. enumerate_from k ys) (plus_none n)
  where
    plus_none : (n : ℕ) → n ≡ n + 0
    plus_none n = omega arith
enumerate-append n (x ∷ xs) ys = ap (λ l. (n, x) ∷ l) (enumerate-append (n + 1) xs ys ∙ ap (λ k. enumerate_from (n + 1) xs ++ enumerate_from k ys) (shifted n (length xs)))
  where
    shifted : (n m : ℕ) → n + 1 + m ≡ n + suc m
    shifted n m = omega arith

pub lines-append : (chains : List OrderedChain) (first : ℕ) (done more : List Way) → drop_lines chains first (done ++ more) ≡ drop_lines chains first done ++ drop_lines chains (first + length done) more
unfolding drop_lines
lines-append chains first done more =
    ap (flat_map (λ x. drop_line chains x.0 x.1.class x.1)) (enumerate-append first done more)
    ∙ flat_map-append (λ x. drop_line chains x.0 x.1.class x.1) (enumerate_from first done) (enumerate_from (first + length done) more)

-- the line of one more way
pub lines_push : (chains : List OrderedChain) (done : List Way) (way : Way) → drop_lines chains 1 (done ++ way ∷ []) ≡ drop_lines chains 1 done ++ drop_line chains (length done + 1) way.class way
unfolding drop_lines
lines_push chains done way =
    lines-append chains 1 done (way ∷ [])
    ∙ ap (λ l. drop_lines chains 1 done ++ l) (append-nil (drop_line chains (1 + length done) way.class way) ∙ ap (λ n. drop_line chains n way.class way) (turned (length done)))
  where
    turned : (n : ℕ) → 1 + n ≡ n + 1
    turned n = omega arith
