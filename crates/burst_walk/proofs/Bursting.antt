-- The walk of a burst, stated for the records of its packets.
use Rattle.std.proofs.Common.{◌≡◌, ◌<◌, ◌∙◌, ℕ, suc, List, [], ◌∷◌, length, map, refl, ap, sym, subst}
use Rattle.std.specs.Prelude.{All, IfSome, Option, Some, None}
use Rattle.std.proofs.lemmas.List.{length-map}
use Rattle.std.proofs.lemmas.List.Elements.{All-nil, All-cons, All-head, All-tail}
use Rattle.capture_bytes.specs.declared.packet.Unit.{Unit as TimeUnit}
use Rattle.policy_text.specs.declared.clause.Match.{Match}
use Rattle.policy_text.specs.declared.policy.ChainPolicy.{ChainPolicy}
use Rattle.chain_walk.specs.Step.{Behaviour}
use Rattle.chain_walk.specs.declared.walk.Fate.{Fate}
use Rattle.chain_walk.specs.declared.walk.Fate.TheVariants.{Out}
use Rattle.piece_walk.specs.Pieces.{Piece}
use Rattle.service_walk.specs.Service.{Classed, chains_after, fates_among}
use Rattle.service_walk.specs.Weaving.{each_after, each_fates, fates_left, fates_seen, woven}
use Rattle.classifier.specs.Classes.{class_of}
use Rattle.classifier.specs.declared.burst.Item.{Item}
use Rattle.policy_chains.specs.NamedFunctions.{named_behaviour}
use Rattle.chain_service.specs.Opening.{chains_of, fits_of, pieces_in}
use Rattle.policy_chains.specs.declared.named.NamedFunction.{NamedFunction}
use Rattle.chain_service.specs.declared.service.ServiceChain.{ServiceChain}
use Rattle.burst_walk.specs.Fates.{all_classed, chains_behind, fates_of}
use Rattle.burst_walk.specs.Leading.{IsClassed, LeadsEach, all_ended, classed_item, classed_items, records_of}

fits_twice : (chains : List ServiceChain) → map (λ (c : ChainPolicy). c.fit) (chains_of chains).declared ≡ fits_of chains
fits_twice [] = refl
fits_twice (c ∷ chains) = ap (λ l. c.declared.fit ∷ l) (fits_twice chains)

-- each packet of a burst is classified by the chains' own clauses
pub packets_told : (fits : List Match) (chains : List ServiceChain) (unit : TimeUnit) (items : List Item) → fits ≡ fits_of chains → All (IsClassed fits) items →
    classed_items unit items ≡ all_classed (chains_of chains).declared unit (records_of items)
packets_told fits chains unit [] told held = refl
packets_told fits chains unit (i ∷ items) told held =
    let own : fits ≡ map (λ (c : ChainPolicy). c.fit) (chains_of chains).declared = told ∙ sym (fits_twice chains) in
    let class : i.class ≡ class_of (map (λ (c : ChainPolicy). c.fit) (chains_of chains).declared) i.packet.frame =
    (All-head (IsClassed fits) i items held).class ∙ ap (λ l. class_of l i.packet.frame) own in
    λ j. record { class = class j; packet = (classed_item unit i).packet } ∷ packets_told fits chains unit items told (All-tail (IsClassed fits) i items held) j

-- the chain that takes a packet is one of those that are asked
abbrev pub AreWithin : Type 0
AreWithin = (fits : List Match) (frame : List ℕ) (class : ℕ) → class_of fits frame ≡ Some class → class < length fits

class_within : (fits : List Match) (frame : List ℕ) (o : Option ℕ) → AreWithin → o ≡ class_of fits frame → IfSome o (λ class. class < length fits)
class_within fits frame None within is = tt
class_within fits frame (Some class) within is = within fits frame class (sym is)

-- a packet's chain is one of these
pub classes_within : (fits : List Match) (items : List Item) (many : ℕ) → AreWithin → many ≡ length fits → All (IsClassed fits) items → All (λ i. IfSome i.class (λ class. class < many)) items
classes_within fits [] many within same held = All-nil (λ (i : Item). IfSome i.class (λ class. class < many))
classes_within fits (i ∷ items) many within same held =
    All-cons (λ (x : Item). IfSome x.class (λ class. class < many)) i items
    (subst (λ n. IfSome i.class (λ class. class < n)) (sym same) (class_within fits i.packet.frame i.class within (All-head (IsClassed fits) i items held).class))
    (classes_within fits items many within same (All-tail (IsClassed fits) i items held))

as_many_rows : (b : Behaviour NamedFunction) (xs : List Classed) (n : ℕ) (chains : List (List (Piece NamedFunction))) → length (each_fates b xs n chains) ≡ length chains
unfolding each_fates
as_many_rows b xs n [] = refl
as_many_rows b xs n (c ∷ chains) = ap suc (as_many_rows b xs (suc n) chains)

-- each chain has its row of fates
pub rows_many : (fits : List Match) (chains : List ServiceChain) (xs : List Classed) (rows : List (List Fate)) (many : ℕ) → length rows ≡ many →
    rows ≡ each_fates named_behaviour xs 0 (chains_of chains).pieces → fits ≡ fits_of chains → many ≡ length fits
rows_many fits chains xs rows many all each told =
    sym all ∙ ap length each ∙ as_many_rows named_behaviour xs 0 (chains_of chains).pieces ∙ length-map chains pieces_in ∙ sym (length-map chains (λ c. c.declared.fit)) ∙ ap length (sym told)

pub as_many_woven : (classes : List (Option ℕ)) (rows : List (List Fate)) → length (woven classes rows) ≡ length classes
unfolding woven
as_many_woven [] rows = refl
as_many_woven (c ∷ classes) rows = ap suc (as_many_woven classes (fates_left rows c))

ended_seen : (unit : TimeUnit) (items : List Item) (fates : List (Option Fate)) → all_ended items fates ≡ fates_seen (classed_items unit items) fates
unfolding all_ended fates_seen
ended_seen unit [] fates = refl
ended_seen unit (i ∷ items) [] = refl
ended_seen unit (i ∷ items) (None ∷ fates) = ap (λ l. Out i.packet.frame ∷ l) (ended_seen unit items fates)
ended_seen unit (i ∷ items) (Some fate ∷ fates) = ap (λ l. fate ∷ l) (ended_seen unit items fates)

classes_seen : (unit : TimeUnit) (items : List Item) → map (λ (i : Item). i.class) items ≡ map (λ (x : Classed). x.class) (classed_items unit items)
classes_seen unit [] = refl
classes_seen unit (i ∷ items) = ap (λ l. i.class ∷ l) (classes_seen unit items)

-- the classes of a burst's packets are those of its records
pub classes_by_record : (fits : List Match) (chains : List ServiceChain) (unit : TimeUnit) (items : List Item) → fits ≡ fits_of chains → All (IsClassed fits) items →
    map (λ (i : Item). i.class) items ≡ map (λ (x : Classed). x.class) (all_classed (chains_of chains).declared unit (records_of items))
classes_by_record fits chains unit items told held = classes_seen unit items ∙ ap (map (λ (x : Classed). x.class)) (packets_told fits chains unit items told held)

-- the state of the chains is the one in which their own packets left each
each_pieces : (xs : List Classed) (n : ℕ) (a b : List ServiceChain) → LeadsEach xs n a b → map pieces_in b ≡ each_after named_behaviour xs n (map pieces_in a)
unfolding LeadsEach each_after
each_pieces xs n [] [] led = refl
each_pieces xs n [] (y ∷ b) led = absurd led
each_pieces xs n (x ∷ a) [] led = absurd led
each_pieces xs n (x ∷ a) (y ∷ b) led = λ i. led.0.pieces i ∷ each_pieces xs (suc n) a b led.1 i

each_declared : (xs : List Classed) (n : ℕ) (a b : List ServiceChain) → LeadsEach xs n a b → map (λ (c : ServiceChain). c.declared) b ≡ map (λ (c : ServiceChain). c.declared) a
unfolding LeadsEach
each_declared xs n [] [] led = refl
each_declared xs n [] (y ∷ b) led = absurd led
each_declared xs n (x ∷ a) [] led = absurd led
each_declared xs n (x ∷ a) (y ∷ b) led = λ i. led.0.same_chain i ∷ each_declared xs (suc n) a b led.1 i

each_names : (xs : List Classed) (n : ℕ) (a b : List ServiceChain) → LeadsEach xs n a b → map (λ (c : ServiceChain). c.names) b ≡ map (λ (c : ServiceChain). c.names) a
unfolding LeadsEach
each_names xs n [] [] led = refl
each_names xs n [] (y ∷ b) led = absurd led
each_names xs n (x ∷ a) [] led = absurd led
each_names xs n (x ∷ a) (y ∷ b) led = λ i. led.0.same_names i ∷ each_names xs (suc n) a b led.1 i

-- fates in the packets' order are those of each chain, woven
abbrev pub AreWoven : Type 0
AreWoven = (b : Behaviour NamedFunction) (chains : List (List (Piece NamedFunction))) (xs : List Classed) →
    fates_seen xs (woven (map (λ x. x.class) xs) (each_fates b xs 0 chains)) ≡ fates_among b chains xs

pub burst_fates : (fits : List Match) (unit : TimeUnit) (items : List Item) (before : List ServiceChain) (rows : List (List Fate)) (fates : List (Option Fate)) → AreWoven → fits ≡ fits_of before →
    All (IsClassed fits) items →
    rows ≡ each_fates named_behaviour (classed_items unit items) 0 (chains_of before).pieces → fates ≡ woven (map (λ i. i.class) items) rows →
    all_ended items fates ≡ fates_of (chains_of before) unit (records_of items)
unfolding fates_of
burst_fates fits unit items before rows fates weaves told held each is =
    let chains = (chains_of before).pieces in
    ended_seen unit items fates ∙ ap (fates_seen (classed_items unit items)) (is ∙ (λ i. woven (classes_seen unit items i) (each i)))
    ∙ weaves named_behaviour chains (classed_items unit items)
    ∙ ap (fates_among named_behaviour chains) (packets_told fits before unit items told held)

pub burst_chains : (fits : List Match) (unit : TimeUnit) (items : List Item) (before after : List ServiceChain) →
    ((b : Behaviour NamedFunction) (chains : List (List (Piece NamedFunction))) (xs : List Classed) → each_after b xs 0 chains ≡ chains_after b chains xs) → fits ≡ fits_of before →
    All (IsClassed fits) items → LeadsEach (classed_items unit items) 0 before after → chains_of after ≡ chains_behind (chains_of before) unit (records_of items)
unfolding chains_behind
burst_chains fits unit items before after weaves told held led =
    let pieces : (chains_of after).pieces ≡ chains_after named_behaviour (chains_of before).pieces (all_classed (chains_of before).declared unit (records_of items)) =
    each_pieces (classed_items unit items) 0 before after led ∙ weaves named_behaviour (chains_of before).pieces (classed_items unit items)
    ∙ ap (chains_after named_behaviour (chains_of before).pieces) (packets_told fits before unit items told held) in
    λ i. record { declared = each_declared (classed_items unit items) 0 before after led i; names = each_names (classed_items unit items) 0 before after led i; pieces = pieces i }
