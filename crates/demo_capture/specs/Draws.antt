-- Believed: the draws of the demo, and the content of a record by its four draws.
use Rattle.std.specs.Prelude.{codes, ℕ, zero, suc, ◌+◌, ◌-◌, ◌*◌, ◌/◌, ◌%◌, ◌^◌, List, [], ◌∷◌, ◌++◌, map, Bool, if◌then◌else◌, ◌==◌, ◌&&◌, nat_le}
use Rattle.std.specs.List.{range_with_len}
use Rattle.demo_capture.specs.declared.draws.Draws.{Draws}

-- the number after a number: a linear congruential generator modulo 2^64
unfoldable pub next_number : ℕ → ℕ
next_number x = (x * 6364136223846793005 + 1442695040888963407) % 2 ^ 64

-- the number that is this number of steps after a number
abbrev pub number_after : ℕ → ℕ → ℕ
number_after zero x = x
number_after (suc n) x = number_after n (next_number x)

-- the draw of this place after a number: the high bits of the number there
abbrev pub draw_after : ℕ → ℕ → ℕ
draw_after n x = number_after n x / 2 ^ 33

-- the four draws after a number
abbrev pub draws_after : ℕ → Draws
draws_after x = record { a = draw_after 1 x; b = draw_after 2 x; c = draw_after 3 x; d = draw_after 4 x }

-- an address among 10.0.0.0/22
abbrev pub source_of : Draws → List ℕ
source_of r = 10 ∷ 0 ∷ (r.a % 4) ∷ (1 + (r.a / 4) % 200) ∷ []

-- an address among 198.51.100.1 to 198.51.100.8
abbrev pub destination_of : Draws → List ℕ
destination_of r = 198 ∷ 51 ∷ 100 ∷ (1 + r.b % 8) ∷ []

abbrev pub source_port_of : Draws → ℕ
source_port_of r = 1024 + r.c % 64

abbrev pub destination_port_of : Draws → ℕ
destination_port_of r = if (r.b / 8) % 2 == 0 then 80 else 53

-- TCP, or else UDP
abbrev pub is_tcp : Draws → Bool
is_tcp r = r.d % 2 == 0

abbrev pub protocol_of : Draws → ℕ
protocol_of r = if is_tcp r then 6 else 17

-- the length of the payload
abbrev pub payload_len : Draws → ℕ
payload_len r = (r.d / 2) % 64

-- the payload begins with the word `secret`
abbrev pub has_secret : Draws → Bool
has_secret r = ((r.d / 128) % 4 == 0) && nat_le 6 (payload_len r)

-- the letter at a place of the payload, from 0: those of the alphabet in a row, again and again
abbrev pub letter_at : Draws → ℕ → ℕ
letter_at r j = 97 + (r.c + j) % 26

-- this number of letters from a place on
unfoldable pub letters : Draws → ℕ → ℕ → List ℕ
letters r from n = map (letter_at r) (range_with_len from n)

abbrev pub payload_of : Draws → List ℕ
payload_of r = if has_secret r then codes "secret" ++ letters r 6 (payload_len r - 6) else letters r 0 (payload_len r)
