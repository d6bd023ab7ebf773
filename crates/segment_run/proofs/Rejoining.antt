-- One step of putting fates back, and of choosing the packets that go on.
use Rattle.std.proofs.Common.{◌≡◌, ◌∙◌, ℕ, true, List, [], ◌∷◌, ◌++◌, map, ap, refl, sym, append_assoc, eq-eqb}
use Rattle.std.specs.Prelude.{Option, Some, None}
use Rattle.std.specs.Option.{option_to_list}
use Rattle.std.proofs.lemmas.List.{append-nil}
use Rattle.capture_bytes.specs.Packets.{time_of}
use Rattle.capture_bytes.specs.declared.packet.Unit.{Unit as TimeUnit}
use Rattle.chain_walk.specs.Packets.{Packet}
use Rattle.chain_walk.specs.declared.walk.Fate.{Fate}
use Rattle.chain_walk.specs.declared.walk.Fate.TheVariants.{Out, Gone}
use Rattle.classifier.specs.declared.burst.Item.{Item}
use Rattle.graph_run.specs.Packets.{is_of, packet_of, packets_taken}
use Rattle.piece_walk.specs.Rejoining.{still_going, put_back, moved}
use Rattle.segment_run.specs.Rewriting.{then_put}
use Rattle.segment_run.proofs.Taken.{taken, taken_append}

pub put_gone : (before position : ℕ) (rest later : List Fate) → put_back (Gone position ∷ rest) (map (moved before) later) ≡ then_put (Some (Gone position)) (put_back rest (map (moved before) later))
unfolding put_back
put_gone before position rest later = refl

pub put_none : (before : ℕ) (frame : List ℕ) (rest later later' : List Fate) → later ≡ [] → put_back (Out frame ∷ rest) (map (moved before) later) ≡ then_put None (put_back rest (map (moved before) later'))
unfolding put_back
put_none before frame rest later later' none = ap (λ l. put_back (Out frame ∷ rest) (map (moved before) l)) none

-- the next of the later fates, if there is one, belongs to a packet that went on
put_over : (before : ℕ) (frame : List ℕ) (rest later later' : List Fate) (put : Option Fate) → map (moved before) later ≡ option_to_list put ++ map (moved before) later' → (put ≡ None → later ≡ []) →
    put_back (Out frame ∷ rest) (map (moved before) later) ≡ then_put put (put_back rest (map (moved before) later'))
unfolding put_back
put_over before frame rest later later' None next none = put_none before frame rest later later' (none refl)
put_over before frame rest later later' (Some fate) next none = ap (put_back (Out frame ∷ rest)) next

pub put_next_out : (before : ℕ) (fate : Fate) (frame : List ℕ) (rest later later' left : List Fate) (put result : Option Fate) → fate ≡ Out frame → map (moved before) later ≡ option_to_list put ++ map (moved before) later' → (put ≡ None → later ≡ []) →
    left ≡ later' → result ≡ put → put_back (fate ∷ rest) (map (moved before) later) ≡ then_put result (put_back rest (map (moved before) left))
put_next_out before fate frame rest later later' left put result is next none left_is result_is =
    ap (λ x. put_back (x ∷ rest) (map (moved before) later)) is ∙ put_over before frame rest later later' put next none ∙ sym (λ i. then_put (result_is i) (put_back rest (map (moved before) (left_is i))))

pub put_next_gone : (before : ℕ) (fate : Fate) (position : ℕ) (rest later left : List Fate) (result : Option Fate) → fate ≡ Gone position → left ≡ later → result ≡ Some (Gone position) →
    put_back (fate ∷ rest) (map (moved before) later) ≡ then_put result (put_back rest (map (moved before) left))
put_next_gone before fate position rest later left result is left_is result_is =
    ap (λ x. put_back (x ∷ rest) (map (moved before) later)) is ∙ put_gone before position rest later ∙ sym (λ i. then_put (result_is i) (put_back rest (map (moved before) (left_is i))))

pub put_ends : (all left later total : List Fate) → left ≡ [] → all ++ put_back left later ≡ total → all ≡ total
unfolding put_back
put_ends all left later total none is = sym (append-nil all) ∙ ap (λ l. all ++ put_back l later) (sym none) ∙ is

going_cons : (p : Packet) (ps : List Packet) (fate : Fate) (fates : List Fate) → still_going (p ∷ ps) (fate ∷ fates) ≡ still_going (p ∷ []) (fate ∷ []) ++ still_going ps fates
unfolding still_going
going_cons p ps (Out frame) fates = refl
going_cons p ps (Gone position) fates = refl

none_going : (ps : List Packet) → still_going ps [] ≡ []
unfolding still_going
none_going [] = refl
none_going (p ∷ ps) = refl

module _ (unit : TimeUnit) (chain : ℕ) where
  -- what is chosen so far, and what the rest gives
  abbrev due : List Item → List Item → List Fate → List Packet
  due chosen later ended = packets_taken unit chain chosen ++ still_going (packets_taken unit chain later) ended

  pub going_ends : (chosen chosen' later : List Item) (item : Item) (left left' : List Fate) → left ≡ [] → left' ≡ [] → chosen' ≡ chosen → due chosen' later left' ≡ due chosen (item ∷ later) left
  going_ends chosen chosen' later item left left' none none' same =
      ap (λ l. due l later left') same
      ∙ ap (λ l. packets_taken unit chain chosen ++ l) (ap (still_going (packets_taken unit chain later)) none' ∙ none_going (packets_taken unit chain later)
      ∙ sym (ap (still_going (packets_taken unit chain (item ∷ later))) none ∙ none_going (packets_taken unit chain (item ∷ later))))

  pub going_takes : (chosen chosen' later : List Item) (item : Item) (fate : Fate) (left left' : List Fate) → is_of chain item ≡ true → left ≡ fate ∷ left' →
      packets_taken unit chain chosen' ≡ packets_taken unit chain chosen ++ still_going (packet_of unit item ∷ []) (fate ∷ []) →
      due chosen' later left' ≡ due chosen (item ∷ later) left
  going_takes chosen chosen' later item fate left left' e row more =
      let rest = still_going (packets_taken unit chain later) left' in
      ap (λ l. l ++ rest) more
      ∙ append_assoc (packets_taken unit chain chosen) (still_going (packet_of unit item ∷ []) (fate ∷ [])) rest
      ∙ ap (λ l. packets_taken unit chain chosen ++ l) (sym (ap (λ ps. still_going ps left) (taken unit chain item later e)
      ∙ ap (still_going (packet_of unit item ∷ packets_taken unit chain later)) row
      ∙ going_cons (packet_of unit item) (packets_taken unit chain later) fate left'))

  pub adds_out : (chosen chosen' : List Item) (item made : Item) (frame : List ℕ) → chosen' ≡ chosen ++ made ∷ [] → made.class ≡ Some chain → packet_of unit made ≡ record { time = time_of unit item.packet; frame = frame } →
      packets_taken unit chain chosen' ≡ packets_taken unit chain chosen ++ still_going (packet_of unit item ∷ []) (Out frame ∷ [])
  unfolding still_going
  adds_out chosen chosen' item made frame push class same =
      let own : is_of chain made ≡ true = rw class (eq-eqb chain chain refl) in
      ap (packets_taken unit chain) push ∙ taken_append unit chain chosen (made ∷ [])
      ∙ ap (λ l. packets_taken unit chain chosen ++ l) (taken unit chain made [] own ∙ ap (λ (p : Packet). p ∷ []) same)

  pub adds_none : (chosen chosen' : List Item) (item : Item) (position : ℕ) → chosen' ≡ chosen → packets_taken unit chain chosen' ≡ packets_taken unit chain chosen ++ still_going (packet_of unit item ∷ []) (Gone position ∷ [])
  unfolding still_going
  adds_none chosen chosen' item position same = ap (packets_taken unit chain) same ∙ sym (append-nil (packets_taken unit chain chosen))
