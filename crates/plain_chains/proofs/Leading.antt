-- A packet goes through the chain that takes it.
use Rattle.std.proofs.Common.{◌≡◌, ◌<◌, ◌≤◌, ◌∙◌, ◌++◌, ℕ, List, [], ◌∷◌, drop, length, map, set, take, get_or, ap, arith, refl, subst, sum_by, sym, Option, Some, None}
use Rattle.std.proofs.lemmas.List.{append-nil, drop_all, get_or-map, length-map, map-set, set-get_or, take_all}
use Rattle.capture_bytes.specs.Packets.{time_of}
use Rattle.capture_bytes.specs.declared.packet.PcapRecord.{PcapRecord}
use Rattle.capture_bytes.specs.declared.packet.Unit.{Unit as TimeUnit}
use Rattle.chain_walk.specs.Packets.{Packet}
use Rattle.chain_walk.specs.Step.{Behaviour}
use Rattle.packet_function.specs.Deciding.{Deciding}
use Rattle.piece_walk.specs.Pieces.{Piece, count_of, long}
use Rattle.piece_walk.specs.PiecePackets.{pieces_after}
use Rattle.service_walk.specs.Service.{Classed, at_chain, served}
use Rattle.traced_walk.specs.Traced.{long_traced}
use Rattle.traced_run.specs.Telling.{with_acts}
use Rattle.traced_run.specs.declared.acts.Trace.{Trace}
use Rattle.traced_run.specs.declared.acts.TracedAct.{TracedAct}
use Rattle.traced_walk.specs.Ways.{Way, way_of, way_in}
use Rattle.classifier.specs.Classes.{class_of}
use Rattle.policy_text.specs.declared.clause.Match.{Match}
use Rattle.policy_text.specs.declared.policy.ChainPolicy.{ChainPolicy}
use Rattle.policy_chains.specs.NamedFunctions.{named_behaviour, named_decides}
use Rattle.policy_chains.specs.declared.named.NamedFunction.{NamedFunction}
use Rattle.plain_chains.specs.Plain.{Leads, chains_of, next_classed, pieces_in, way_next}
use Rattle.plain_chains.specs.declared.chain.PlainChain.{PlainChain}
use Rattle.plain_chains.proofs.Opens.{fits_declared}

-- packets change no number of functions
pub count_stays : {F : Type 0} (b : Behaviour F) (time : ℕ) (pieces : List (Piece F)) (frame : List ℕ) →
    ((b : Behaviour F) (pieces : List (Piece F)) (ps : List Packet) → sum_by count_of (pieces_after b pieces ps) ≡ sum_by count_of pieces) →
    sum_by count_of (long b time 1 pieces frame).pieces ≡ sum_by count_of pieces
unfolding pieces_after
count_stays b time pieces frame law = law b pieces (record { time = time; frame = frame } ∷ [])

-- items that were overwritten whole
pub overwritten : {X : Type 0} (written items : List X) (n : ℕ) → n ≡ length items → length written ≡ length items → take n (written ++ drop (length written) items) ≡ written
overwritten written items n whole as_long =
    ap (λ t. take n (written ++ t)) (drop_all (length written) items (omega arith)) ∙ ap (take n) (append-nil written) ∙ take_all n written (omega arith)

-- a trace without more acts
pub nothing_added : (trace : Trace) → trace ≡ with_acts trace []
nothing_added trace = ap (λ (acts : List TracedAct). let t : Trace = record trace { acts = acts } in t) (sym (append-nil trace.acts))

-- what stays in each chain stays in all of them
same_set : {X Y : Type 0} (f : X → Y) (xs : List X) (i : ℕ) (x : X) (e : X) → i < length xs → f x ≡ f (get_or xs i e) → map f (set xs i x) ≡ map f xs
same_set f xs i x e inside same =
    map-set f xs i x ∙ ap (set (map f xs) i) (same ∙ sym (get_or-map f xs i e (f e) inside)) ∙ set-get_or (map f xs) i (f e)

-- the pieces of a chain at its place
at_place : (chains : List PlainChain) (i : ℕ) (e : PlainChain) → i < length chains → at_chain (chains_of chains).pieces i ≡ pieces_in (get_or chains i e)
at_place chains i e inside = get_or-map pieces_in chains i e [] inside

module _ (unit : TimeUnit) (r : PcapRecord) (old : List PlainChain) where
  -- the class of the next packet, by the table
  class_here : (classes : List Match) (class : Option ℕ) → classes ≡ map (λ c. c.declared.fit) old → class ≡ class_of classes r.frame → class ≡ (next_classed old unit r).class
  class_here classes class table is = is ∙ ap (λ (fits : List Match). class_of fits r.frame) (table ∙ sym (fits_declared old))

  -- the way by the class
  way_by : (class : Option ℕ) → class ≡ (next_classed old unit r).class → way_of named_behaviour named_decides (chains_of old).pieces class (next_classed old unit r) ≡ way_next old unit r
  way_by class is = ap (λ (class : Option ℕ). way_of named_behaviour named_decides (chains_of old).pieces class (next_classed old unit r)) is

  pub way_untaken : None ≡ (next_classed old unit r).class → way_of named_behaviour named_decides (chains_of old).pieces None (next_classed old unit r) ≡ way_next old unit r
  way_untaken is = way_by None is

  way_taken : (i : ℕ) (e : PlainChain) → i < length old → Some i ≡ (next_classed old unit r).class →
      way_in i (long_traced named_behaviour named_decides (time_of unit r) 1 (pieces_in (get_or old i e)) r.frame) ≡ way_next old unit r
  way_taken i e inside is =
      ap (λ (pieces : List (Piece NamedFunction)). way_in i (long_traced named_behaviour named_decides (time_of unit r) 1 pieces r.frame)) (sym (at_place old i e inside))
      ∙ way_by (Some i) is

  pub leads_nowhere : None ≡ (next_classed old unit r).class → Leads unit r old old
  leads_nowhere is = record {
    declared = refl;
    orders = refl;
    pieces = ap (λ (class : Option ℕ). (served named_behaviour (chains_of old).pieces class (next_classed old unit r).packet).chains) is;
  }

  leads_on : (i : ℕ) (e new : PlainChain) → i < length old → Some i ≡ (next_classed old unit r).class → new.declared ≡ (get_or old i e).declared → new.order ≡ (get_or old i e).order →
      pieces_in new ≡ (long named_behaviour (time_of unit r) 1 (pieces_in (get_or old i e)) r.frame).pieces → Leads unit r old (set old i new)
  leads_on i e new inside is declared order pieces = record {
    declared = same_set (λ (c : PlainChain). c.declared) old i new e inside declared;
    orders = same_set (λ (c : PlainChain). c.order) old i new e inside order;
    pieces =
        map-set pieces_in old i new
        ∙ ap (set (map pieces_in old) i) (pieces ∙ ap (λ (ps : List (Piece NamedFunction)). (long named_behaviour (time_of unit r) 1 ps r.frame).pieces) (sym (at_place old i e inside)))
        ∙ ap (λ (class : Option ℕ). (served named_behaviour (chains_of old).pieces class (next_classed old unit r).packet).chains) is;
  }

  -- the class that the table gives
  pub class_told : (classes : List Match) (items : List PlainChain) (bytes : List ℕ) (found class : Option ℕ) → classes ≡ map (λ c. c.declared.fit) items → old ≡ items → found ≡ class_of classes bytes →
      bytes ≡ r.frame → found ≡ class → class ≡ (next_classed old unit r).class
  class_told classes items bytes found class table same is entered told =
      class_here classes class (table ∙ ap (λ (l : List PlainChain). map (λ c. c.declared.fit) l) (sym same)) (sym told ∙ is ∙ ap (λ (l : List ℕ). class_of classes l) entered)

  module _ (items : List PlainChain) (i : ℕ) (chain : PlainChain) (time : ℕ) (frame : List ℕ) (same : old ≡ items) (inside : i < length items) (at : chain ≡ get_or items i chain)
      (is : Some i ≡ (next_classed old unit r).class) (clock : time ≡ time_of unit r) (entered : frame ≡ r.frame) where
    within_old : i < length old
    within_old = subst (λ (l : List PlainChain). i < length l) (sym same) inside

    at_old : chain ≡ get_or old i chain
    at_old = at ∙ ap (λ (l : List PlainChain). get_or l i chain) (sym same)

    pub way_through : way_in i (long_traced named_behaviour named_decides time 1 (pieces_in chain) frame) ≡ way_next old unit r
    way_through =
        ap (λ (t : ℕ). way_in i (long_traced named_behaviour named_decides t 1 (pieces_in chain) frame)) clock
        ∙ ap (λ (l : List ℕ). way_in i (long_traced named_behaviour named_decides (time_of unit r) 1 (pieces_in chain) l)) entered
        ∙ ap (λ (x : PlainChain). way_in i (long_traced named_behaviour named_decides (time_of unit r) 1 (pieces_in x) r.frame)) at_old
        ∙ way_taken i chain within_old is

    pub leads_through : (new : PlainChain) → new.declared ≡ chain.declared → new.order ≡ chain.order → pieces_in new ≡ (long named_behaviour time 1 (pieces_in chain) frame).pieces → Leads unit r old (set items i new)
    leads_through new declared order pieces =
        subst (λ (l : List PlainChain). Leads unit r old (set l i new)) same
        (leads_on i chain new within_old is (declared ∙ ap (λ (x : PlainChain). x.declared) at_old) (order ∙ ap (λ (x : PlainChain). x.order) at_old)
        (pieces
        ∙ ap (λ (t : ℕ). (long named_behaviour t 1 (pieces_in chain) frame).pieces) clock
        ∙ ap (λ (l : List ℕ). (long named_behaviour (time_of unit r) 1 (pieces_in chain) l).pieces) entered
        ∙ ap (λ (x : PlainChain). (long named_behaviour (time_of unit r) 1 (pieces_in x) r.frame).pieces) at_old))

-- the table is still that of the chains
pub table_stays : (classes : List Match) (old : List PlainChain) (i : ℕ) (e new : PlainChain) → classes ≡ map (λ c. c.declared.fit) old → i < length old → new.declared ≡ (get_or old i e).declared →
    classes ≡ map (λ c. c.declared.fit) (set old i new)
table_stays classes old i e new table inside declared = table ∙ sym (same_set (λ (c : PlainChain). c.declared.fit) old i new e inside (ap (λ (c : ChainPolicy). c.fit) declared))

-- the place of the chain that takes a packet
pub class_within : (classes : List Match) (old : List PlainChain) (frame : List ℕ) (class : ℕ) → ((fits : List Match) (frame : List ℕ) (c : ℕ) → class_of fits frame ≡ Some c → c < length fits) →
    classes ≡ map (λ c. c.declared.fit) old → Some class ≡ class_of classes frame → class < length old
class_within classes old frame class within table is =
    subst (λ n. class < n) (ap length table ∙ length-map old (λ c. c.declared.fit)) (within classes frame class (sym is))
