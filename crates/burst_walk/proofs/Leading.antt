-- Each chain runs its own packets among those of a burst.
use Rattle.std.proofs.Common.{◌≡◌, ◌≤◌, ◌+◌, ◌∙◌, ℕ, suc, List, [], ◌∷◌, ◌++◌, length, map, Bool, true, false, refl, ap, sym, subst, append_assoc, length-append, arith}
use Rattle.std.specs.Prelude.{All, filter, if◌then◌else◌}
use Rattle.std.proofs.lemmas.List.{length-map, map_push}
use Rattle.std.proofs.lemmas.List.Elements.{All-cons, All-head, All-nil, All-push, All-tail}
use Rattle.capture_bytes.specs.Packets.{IsShort}
use Rattle.capture_bytes.specs.declared.packet.Unit.{Unit as TimeUnit}
use Rattle.chain_walk.specs.Packets.{Packet}
use Rattle.chain_walk.specs.declared.walk.Fate.{Fate}
use Rattle.piece_walk.specs.PiecePackets.{long_fates}
use Rattle.piece_walk.specs.Pieces.{Piece}
use Rattle.service_walk.specs.Service.{Classed, is_of as takes, packets_in}
use Rattle.service_walk.specs.Weaving.{each_fates}
use Rattle.classifier.specs.declared.burst.Item.{Item}
use Rattle.chain_service.specs.SegmentRunProofs.{is_of, packet_of, packets_taken}
use Rattle.policy_chains.specs.NamedFunctions.{named_behaviour}
use Rattle.chain_service.specs.Opening.{pieces_in}
use Rattle.policy_chains.specs.declared.named.NamedFunction.{NamedFunction}
use Rattle.chain_service.specs.declared.service.ServiceChain.{ServiceChain}
use Rattle.burst_walk.specs.Leading.{IsWritable, LeadsChain, LeadsEach, classed_item, classed_items}

-- the packets that the pieces of a chain take are those of the chain
pub packets_led : (unit : TimeUnit) (chain : ℕ) (items : List Item) → packets_taken unit chain items ≡ packets_in chain (classed_items unit items)
packets_led unit chain [] = refl
packets_led unit chain (item ∷ items) = by (is_of chain item) (packets_led unit chain items)
  where
    by : (b : Bool) → packets_taken unit chain items ≡ packets_in chain (classed_items unit items) → map (packet_of unit) (if b then item ∷ filter (is_of chain) items else filter (is_of chain) items)
        ≡ map (λ x. x.packet) (if b then classed_item unit item ∷ filter (takes chain) (classed_items unit items) else filter (takes chain) (classed_items unit items))
    by true later = ap (λ l. packet_of unit item ∷ l) later
    by false later = later

-- a packet of an accepted length
abbrev pub IsShortPacket : Packet → Type 0
IsShortPacket x = length x.frame ≤ 262144

pub short_packets : (unit : TimeUnit) (chain : ℕ) (items : List Item) → All (λ i. IsShort i.packet) items → All IsShortPacket (packets_in chain (classed_items unit items))
short_packets unit chain [] short = All-nil IsShortPacket
short_packets unit chain (item ∷ items) short = by (takes chain (classed_item unit item)) (short_packets unit chain items (All-tail (λ i. IsShort i.packet) item items short))
  where
    by : (b : Bool) → All IsShortPacket (packets_in chain (classed_items unit items)) →
        All IsShortPacket (map (λ x. x.packet) (if b then classed_item unit item ∷ filter (takes chain) (classed_items unit items) else filter (takes chain) (classed_items unit items)))
    by true later = All-cons IsShortPacket (packet_of unit item) (packets_in chain (classed_items unit items)) (All-head (λ i. IsShort i.packet) item items short) later
    by false later = later

-- one more chain ran its packets
leads_more : (packets : List Classed) (number : ℕ) (before after : List ServiceChain) (chain led : ServiceChain) → LeadsEach packets number before after →
    LeadsChain packets (number + length before) chain led →
    LeadsEach packets number (before ++ chain ∷ []) (after ++ led ∷ [])
unfolding LeadsEach
leads_more packets number [] [] chain led each one = (subst (λ n. LeadsChain packets n chain led) (omega arith) one, tt)
leads_more packets number [] (y ∷ after) chain led each one = absurd each
leads_more packets number (x ∷ before) [] chain led each one = absurd each
leads_more packets number (x ∷ before) (y ∷ after) chain led each one =
    (each.0, leads_more packets (suc number) before after chain led each.1 (subst (λ n. LeadsChain packets n chain led) (omega arith) one))

none_led : (packets : List Classed) (number : ℕ) → LeadsEach packets number [] []
unfolding LeadsEach
none_led packets number = tt

no_fates : (packets : List Classed) (number : ℕ) → each_fates named_behaviour packets number [] ≡ []
unfolding each_fates
no_fates packets number = refl

each_more : (packets : List Classed) (number : ℕ) (chains : List (List (Piece NamedFunction))) (pieces : List (Piece NamedFunction)) →
    each_fates named_behaviour packets number (chains ++ pieces ∷ []) ≡ each_fates named_behaviour packets number chains ++ long_fates named_behaviour pieces (packets_in (number + length chains) packets) ∷ []
unfolding each_fates
each_more packets number [] pieces = ap (λ n. long_fates named_behaviour pieces (packets_in n packets) ∷ []) (omega arith)
each_more packets number (first ∷ chains) pieces =
    ap (λ l. long_fates named_behaviour first (packets_in number packets) ∷ l)
    (each_more packets (suc number) chains pieces ∙ ap (λ n. each_fates named_behaviour packets (suc number) chains ++ long_fates named_behaviour pieces (packets_in n packets) ∷ []) (omega arith))

-- Some chains ran their packets, and these remain.
pub record IsLeading {V : Type 0} (row_of : V → List Fate) (packets : List Classed) (chains left led : List ServiceChain) (number : ℕ) (rows : List V) : Type 0 where
  pub done : List ServiceChain
  pub row : chains ≡ done ++ left
  pub count : number ≡ length done
  pub each : LeadsEach packets 0 done led
  pub fates_are : map row_of rows ≡ each_fates named_behaviour packets 0 (map pieces_in done)
  pub writable : All (λ v. All IsWritable (row_of v)) rows

pub leading_begins : {V : Type 0} (row_of : V → List Fate) (packets : List Classed) (chains left led : List ServiceChain) (rows : List V) → left ≡ chains → led ≡ [] → rows ≡ [] →
    IsLeading row_of packets chains left led 0 rows
leading_begins row_of packets chains left led rows all none no_rows = record {
  done = [];
  row = sym all;
  count = refl;
  each = subst (LeadsEach packets 0 []) (sym none) (none_led packets 0);
  fates_are = ap (map row_of) no_rows ∙ sym (no_fates packets 0);
  writable = subst (All (λ v. All IsWritable (row_of v))) (sym no_rows) (All-nil (λ v. All IsWritable (row_of v)));
}

pub leading_goes_on : {V : Type 0} (row_of : V →
    List Fate) (packets : List Classed) (chains left left' led led' : List ServiceChain) (number : ℕ) (rows rows' : List V) (chain after : ServiceChain) (fate_row : V) →
    IsLeading row_of packets chains left led number rows → left ≡ chain ∷ left' → LeadsChain packets number chain after →
    row_of fate_row ≡ long_fates named_behaviour (pieces_in chain) (packets_in number packets) →
    All IsWritable (row_of fate_row) → led' ≡ led ++ after ∷ [] → rows' ≡ rows ++ fate_row ∷ [] → IsLeading row_of packets chains left' led' (number + 1) rows'
leading_goes_on row_of packets chains left left' led led' number rows rows' chain after fate_row at next leads are writable more more_rows =
    let many : length (map pieces_in at.done) ≡ length at.done = length-map at.done pieces_in in
    let count = at.count in
    record {
      done = at.done ++ chain ∷ [];
      row = at.row ∙ ap (λ l. at.done ++ l) next ∙ sym (append_assoc at.done (chain ∷ []) left');
      count = let e = length-append at.done (chain ∷ []) in omega arith;
      each = subst (LeadsEach packets 0 (at.done ++ chain ∷ [])) (sym more) (leads_more packets 0 at.done led chain after at.each (subst (λ n. LeadsChain packets n chain after) (omega arith) leads));
      fates_are = ap (map row_of) more_rows ∙ map_push row_of rows fate_row ∙ ap (λ l. l ++ row_of fate_row ∷ []) at.fates_are
          ∙ ap (λ l. each_fates named_behaviour packets 0 (map pieces_in at.done) ++ l ∷ []) (are ∙ ap (λ n. long_fates named_behaviour (pieces_in chain) (packets_in n packets)) (omega arith))
          ∙ sym (each_more packets 0 (map pieces_in at.done) (pieces_in chain)) ∙ ap (each_fates named_behaviour packets 0) (sym (map_push pieces_in at.done chain));
      writable = subst (All (λ v. All IsWritable (row_of v))) (sym more_rows) (All-push (λ v. All IsWritable (row_of v)) rows fate_row at.writable writable);
    }
