-- Parts in boxes, one after another.
use Rattle.std.proofs.Common.{◌≡◌, ◌∙◌, List, [], ◌∷◌, ◌++◌, map, ap, sym, append_assoc}
use Rattle.std.proofs.lemmas.List.{append-nil, map-append}
use Rattle.packet_messages.specs.Messages.{PlainMessage, PlainMessage.Live, plain}
use Rattle.packet_messages.specs.declared.message.Message.{Message}

pub none_boxed : {P : Type 0} (row : List (Message P)) (rest all : List P) → row ≡ [] → rest ≡ all → map plain row ++ map (λ p. Live p) rest ≡ map (λ p. Live p) all
none_boxed {P} row rest all none is = ap (λ (l : List (Message P)). map plain l ++ map (λ p. Live p) rest) none ∙ ap (map (λ p. Live p)) is

pub one_boxed : {P : Type 0} (all was rest : List P) (part : P) (row more : List (Message P)) (message : Message P) → map plain row ++ map (λ p. Live p) was ≡ map (λ p. Live p) all → was ≡ part ∷ rest → plain message ≡ Live part → more ≡ row ++ message ∷ [] →
    map plain more ++ map (λ p. Live p) rest ≡ map (λ p. Live p) all
one_boxed {P} all was rest part row more message so_far is live push =
    ap (λ (l : List (Message P)). map plain l ++ map (λ p. Live p) rest) push
    ∙ ap (λ (l : List (PlainMessage P)). l ++ map (λ p. Live p) rest) (map-append plain row (message ∷ []))
    ∙ append_assoc (map plain row) (plain message ∷ []) (map (λ p. Live p) rest)
    ∙ ap (λ (m : PlainMessage P). map plain row ++ m ∷ map (λ p. Live p) rest) live
    ∙ ap (λ (l : List P). map plain row ++ map (λ p. Live p) l) (sym is)
    ∙ so_far

pub all_are_boxed : {P : Type 0} (all rest : List P) (row : List (Message P)) → map plain row ++ map (λ p. Live p) rest ≡ map (λ p. Live p) all → rest ≡ [] → map plain row ≡ map (λ p. Live p) all
all_are_boxed {P} all rest row so_far none = sym (append-nil (map plain row)) ∙ ap (λ (l : List P). map plain row ++ map (λ p. Live p) l) (sym none) ∙ so_far
