-- Chains that ran packets, and then more of them, ran them all.
use Rattle.std.proofs.Common.{◌≡◌, ◌+◌, ◌∙◌, ℕ, suc, List, [], ◌∷◌, ◌++◌, max, min, refl, ap, sym, arith}
use Rattle.packet_fields.specs.declared.field.Field.{Field}
use Rattle.chain_walk.specs.Packets.{Packet, fates}
use Rattle.chain_walk.specs.Step.{Behaviour}
use Rattle.piece_walk.specs.PiecePackets.{passed, pieces_after}
use Rattle.piece_walk.specs.Pieces.{Piece, Graph, Whole}
use Rattle.service_walk.specs.Service.{Classed, packets_in}
use Rattle.packet_version.specs.Tallies.{count_of, raised}
use Rattle.capture_report.specs.GraphRun.{copies_made}
use Rattle.capture_report.specs.SegmentRun.{copies_through}
use Rattle.capture_report.specs.ChainService.{named_behaviour}
use Rattle.capture_report.specs.ChainServiceProofs.{NamedFunction, ServiceChain, chains_of, fits_of, pieces_in}
use Rattle.capture_report.specs.BurstWalkProofs.{LeadsChain, LeadsEach}
use Rattle.capture_report.specs.Report.{names_among}
use Rattle.capture_run.proofs.Walking.{packets-append, pieces_more}

-- a count that rises twice
raised_twice : (m c a b : ℕ) → max (max c (min (c + a) m)) (min (max c (min (c + a) m) + b) m) ≡ max c (min (c + (a + b)) m)
raised_twice m c a b = omega arith

raised_by_none : (m c : ℕ) → max c (min (c + 0) m) ≡ c
raised_by_none m c = omega arith

-- Copies of packets in a row are counted one group after another.
abbrev pub CountsInARow : Type 0
CountsInARow = (b : Behaviour NamedFunction) (pieces : List (Piece NamedFunction)) (xs ys : List Packet) (f : Field) →
    copies_through b pieces (xs ++ ys) f ≡ copies_through b pieces xs f + copies_through b (pieces_after b pieces xs) ys f

-- the copies that a chain makes of more packets, by its pieces after the first
copies_more : CountsInARow → (xs ys : List Classed) (n : ℕ) (a b : ServiceChain) (f : Field) → LeadsChain xs n a b →
    copies_through named_behaviour (pieces_in a) (packets_in n (xs ++ ys)) f
    ≡ copies_through named_behaviour (pieces_in a) (packets_in n xs) f + copies_through named_behaviour (pieces_in b) (packets_in n ys) f
copies_more law xs ys n a b f first =
    let ps = packets_in n xs in
    let qs = packets_in n ys in
    ap (λ l. copies_through named_behaviour (pieces_in a) l f) (packets-append n xs ys)
    ∙ law named_behaviour (pieces_in a) ps qs f
    ∙ ap (λ g. copies_through named_behaviour (pieces_in a) ps f + copies_through named_behaviour g qs f) (sym first.pieces)

chain_more : CountsInARow → (xs ys : List Classed) (n : ℕ) (a b c : ServiceChain) → LeadsChain xs n a b → LeadsChain ys n b c → LeadsChain (xs ++ ys) n a c
chain_more law xs ys n a b c first second = record {
  same_chain = second.same_chain ∙ first.same_chain;
  same_names = second.same_names ∙ first.same_names;
  pieces = second.pieces ∙ ap (λ g. pieces_after named_behaviour g (packets_in n ys)) first.pieces
      ∙ sym (ap (pieces_after named_behaviour (pieces_in a)) (packets-append n xs ys) ∙ pieces_more named_behaviour (pieces_in a) (packets_in n xs) (packets_in n ys));
  copied = λ f.
      let by_first = copies_through named_behaviour (pieces_in a) (packets_in n xs) f in
      let by_second = copies_through named_behaviour (pieces_in b) (packets_in n ys) f in
      second.copied f ∙ ap (λ m. raised m by_second) (first.copied f) ∙ raised_twice _ (count_of a.copies f) by_first by_second
      ∙ ap (raised (count_of a.copies f)) (sym (copies_more law xs ys n a b f first));
}

pub each_more : CountsInARow → (xs ys : List Classed) (n : ℕ) (a b c : List ServiceChain) → LeadsEach xs n a b → LeadsEach ys n b c → LeadsEach (xs ++ ys) n a c
unfolding LeadsEach
each_more law xs ys n [] [] [] first second = tt
each_more law xs ys n [] [] (z ∷ c) first second = absurd second
each_more law xs ys n [] (y ∷ b) c first second = absurd first
each_more law xs ys n (x ∷ a) [] c first second = absurd first
each_more law xs ys n (x ∷ a) (y ∷ b) [] first second = absurd second
each_more law xs ys n (x ∷ a) (y ∷ b) (z ∷ c) first second = (chain_more law xs ys n x y z first.0 second.0, each_more law xs ys (suc n) a b c first.1 second.1)

-- no packets are copied
no_copies : (pieces : List (Piece NamedFunction)) (f : Field) → copies_through named_behaviour pieces [] f ≡ 0
unfolding copies_through copies_made fates passed
no_copies [] f = refl
no_copies (Graph stages functions ∷ later) f = let rest = no_copies later f in omega arith
no_copies (Whole rewritten ∷ later) f = let rest = no_copies later f in omega arith

chain_none : (n : ℕ) (a : ServiceChain) → LeadsChain [] n a a
unfolding pieces_after
chain_none n a = record {
  same_chain = refl;
  same_names = refl;
  pieces = refl;
  copied = λ f. sym (ap (raised (count_of a.copies f)) (no_copies (pieces_in a) f) ∙ raised_by_none _ (count_of a.copies f));
}

pub each_none : (n : ℕ) (a : List ServiceChain) → LeadsEach [] n a a
unfolding LeadsEach
each_none n [] = tt
each_none n (x ∷ a) = (chain_none n x, each_none (suc n) a)

-- the clauses stay
pub each_fits : (xs : List Classed) (n : ℕ) (a b : List ServiceChain) → LeadsEach xs n a b → fits_of b ≡ fits_of a
unfolding LeadsEach
each_fits xs n [] [] led = refl
each_fits xs n [] (y ∷ b) led = absurd led
each_fits xs n (x ∷ a) [] led = absurd led
each_fits xs n (x ∷ a) (y ∷ b) led = λ i. (led.0.same_chain i).fit ∷ each_fits xs (suc n) a b led.1 i

-- the names stay
pub each_names : (xs : List Classed) (n : ℕ) (a b : List ServiceChain) → LeadsEach xs n a b → names_among (chains_of b) ≡ names_among (chains_of a)
unfolding LeadsEach
each_names xs n [] [] led = refl
each_names xs n [] (y ∷ b) led = absurd led
each_names xs n (x ∷ a) [] led = absurd led
each_names xs n (x ∷ a) (y ∷ b) led =
    λ i. record { chain = (led.0.same_chain i).name; functions = led.0.same_names i } ∷ each_names xs (suc n) a b led.1 i
