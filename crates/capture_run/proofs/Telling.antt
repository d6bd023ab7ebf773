-- The report of the chains at the end is the summary that is due.
use Rattle.std.proofs.Common.{◌≡◌, ◌∙◌, ℕ, suc, List, [], ◌∷◌, ◌++◌, length, map, refl, ap, sym, append_assoc, length-append, add-one, arith}
use Rattle.std.specs.Prelude.{All}
use Rattle.std.specs.List.{enumerate_from, flat_map, zip}
use Rattle.std.proofs.lemmas.List.Elements.{All-head, All-tail}
use Rattle.packet_fields.specs.declared.field.Field.{Field}
use Rattle.piece_walk.specs.Pieces.{Piece, functions_in}
use Rattle.service_walk.specs.Service.{Classed, at_chain, packets_in}
use Rattle.packet_version.specs.Tallies.{count_of, raised}
use Rattle.capture_report.specs.SegmentRun.{copies_through}
use Rattle.capture_report.specs.ChainService.{named_behaviour}
use Rattle.capture_report.specs.ChainServiceProofs.{IsOpeningChain, NamedFunction, ServiceChain, chains_of, pieces_in}
use Rattle.capture_report.specs.BurstWalkProofs.{LeadsChain, LeadsEach}
use Rattle.capture_report.specs.Report.{chain_lines, copies_due, copies_lines, summary}
use Rattle.capture_items.specs.FaultLines.{last_line}
use Rattle.capture_items.specs.Totals.{total_line}
use Rattle.capture_report.specs.Telling.{told_text}
use Rattle.capture_report.specs.declared.ended.Ended.{Ended}

at_seam : {X : Type 0} (done : List (List X)) (own : List X) (later : List (List X)) → at_chain (done ++ own ∷ later) (length done) ≡ own
at_seam [] own later = refl
at_seam (x ∷ done) own later = at_seam done own later

-- a chain's count is the one that is due
count_due : (xs : List Classed) (all : List (List (Piece NamedFunction))) (n : ℕ) (a b : ServiceChain) (f : Field) → LeadsChain xs n a b → IsOpeningChain a → at_chain all n ≡ pieces_in a →
    count_of b.copies f ≡ copies_due all xs n f
unfolding copies_due
count_due xs all n a b f led opening at = led.copied f ∙ (λ i. raised (opening.none_copied f i) (copies_through named_behaviour (sym at i) (packets_in n xs) f))

-- the lines of each chain's copies
copies_told : (xs : List Classed) (all done : List (List (Piece NamedFunction))) (n : ℕ) (a b : List ServiceChain) → LeadsEach xs n a b → All IsOpeningChain a → length done ≡ n →
    all ≡ done ++ map pieces_in a →
    flat_map (λ (c : ServiceChain). copies_lines c.declared.name (count_of c.copies)) b ≡ flat_map (λ x. copies_lines x.1.name (copies_due all xs x.0)) (enumerate_from n (map (λ (c : ServiceChain). c.declared) b))
unfolding LeadsEach
copies_told xs all done n [] [] led opening many row = refl
copies_told xs all done n [] (y ∷ b) led opening many row = absurd led
copies_told xs all done n (x ∷ a) [] led opening many row = absurd led
copies_told xs all done n (x ∷ a) (y ∷ b) led opening many row =
    let later = map pieces_in a in
    let at : at_chain all n ≡ pieces_in x = (λ i. at_chain (row i) (sym many i)) ∙ at_seam done (pieces_in x) later in
    let counts : count_of y.copies ≡ copies_due all xs n =
    (λ i f. count_due xs all n x y f led.0 (All-head IsOpeningChain x a opening) at i) in
    let rest = copies_told xs all (done ++ pieces_in x ∷ []) (suc n) a b led.1 (All-tail IsOpeningChain x a opening)
    (length-append done (pieces_in x ∷ []) ∙ omega arith) (row ∙ sym (append_assoc done (pieces_in x ∷ []) later)) in
    (λ i. copies_lines y.declared.name (counts i) ++ rest i)
    ∙ ap (λ m. copies_lines y.declared.name (copies_due all xs n) ++ flat_map (λ z. copies_lines z.1.name (copies_due all xs z.0)) (enumerate_from m (map (λ (c : ServiceChain). c.declared) b))) (sym (add-one n))

-- the lines of each chain's functions
functions_told : (b : List ServiceChain) →
    flat_map (λ (c : ServiceChain). chain_lines c.declared (functions_in (pieces_in c))) b ≡ flat_map (λ x. chain_lines x.0 (functions_in x.1)) (zip (chains_of b).declared (chains_of b).pieces)
functions_told [] = refl
functions_told (c ∷ b) = ap (λ l. chain_lines c.declared (functions_in (pieces_in c)) ++ l) (functions_told b)

pub summary_told : (xs : List Classed) (a b : List ServiceChain) (ended : Ended) → LeadsEach xs 0 a b → All IsOpeningChain a →
    told_text b ended ≡ summary (chains_of b) ended.totals.records ended.totals.dropped (copies_due (chains_of a).pieces xs) ended.fault
unfolding told_text summary
summary_told xs a b ended led opening =
    λ i. total_line ended.totals.records ended.totals.dropped ++ (copies_told xs (chains_of a).pieces [] 0 a b led opening refl refl i ++ (functions_told b i ++ last_line ended.fault))
