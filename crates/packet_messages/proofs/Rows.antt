-- Rows worked by hand: five messages, shared in turn.
use Rattle.std.proofs.Common.{◌≡◌, ℕ, List, [], ◌∷◌, refl, inl, inr}
use Rattle.packet_messages.specs.Messages.{PlainMessage.Live, PlainMessage.Nil, PlainMessage.Short, Fits, AllFit, turned}
use Rattle.packet_messages.specs.Turns.{share, shares_from, shares, columns_from, columns, share_len}

abbrev five : List ℕ
five = 10 ∷ 11 ∷ 12 ∷ 13 ∷ 14 ∷ []

two_links : shares 2 five ≡ (10 ∷ 12 ∷ 14 ∷ []) ∷ (11 ∷ 13 ∷ []) ∷ []
unfolding shares_from share
two_links = refl

three_links : shares 3 five ≡ (10 ∷ 13 ∷ []) ∷ (11 ∷ 14 ∷ []) ∷ (12 ∷ []) ∷ []
unfolding shares_from share
three_links = refl

more_links_than_messages : shares 7 five ≡ (10 ∷ []) ∷ (11 ∷ []) ∷ (12 ∷ []) ∷ (13 ∷ []) ∷ (14 ∷ []) ∷ [] ∷ [] ∷ []
unfolding shares_from share
more_links_than_messages = refl

shares_are_long : (share_len 3 0 5 ∷ share_len 3 1 5 ∷ share_len 3 2 5 ∷ []) ≡ 2 ∷ 2 ∷ 1 ∷ []
unfolding share_len
shares_are_long = refl

goes_to_the_back : turned (shares 2 five) ≡ (11 ∷ 13 ∷ []) ∷ (12 ∷ 14 ∷ []) ∷ []
unfolding shares_from share
goes_to_the_back = refl

two_mergers : columns 2 (five ∷ (20 ∷ []) ∷ []) ≡ ((10 ∷ 12 ∷ 14 ∷ []) ∷ (20 ∷ []) ∷ []) ∷ ((11 ∷ 13 ∷ []) ∷ [] ∷ []) ∷ []
unfolding columns_from share
two_mergers = refl

another_part : Fits {P = ℕ} (Live 5) (Live 6) → ⊥
another_part (inl e) = absurd (cc)
another_part (inr e) = absurd (cc)

dropped_elsewhere : Fits {P = ℕ} (Nil 2) (Nil 3) → ⊥
dropped_elsewhere (inl e) = absurd (cc)
dropped_elsewhere (inr e) = absurd (cc)

one_is_short : AllFit {P = ℕ} (Live 5 ∷ Nil 2 ∷ []) (Short ∷ Nil 2 ∷ [])
unfolding AllFit
one_is_short = (inr refl, (inl refl, tt))

one_is_lost : AllFit {P = ℕ} (Live 5 ∷ Nil 2 ∷ []) (Live 5 ∷ []) → ⊥
unfolding AllFit
one_is_lost fit = fit.1
