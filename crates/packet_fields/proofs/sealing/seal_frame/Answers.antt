-- What is before the packet stays, and nothing follows it.
use Rattle.std.proofs.Common.{◌≡◌, ◌∙◌, ◌-◌, ◌++◌, ℕ, List, [], length, take, drop, ap, arith}
use Rattle.std.proofs.lemmas.List.{append-nil, take_rest, drop_all, length-drop}
use Rattle.packet_fields.specs.Frames.{packet_at, packet}
use Rattle.packet_fields.specs.Checksums.{packet_sealed, sealed}
use Rattle.packet_fields.proofs.Overwriting.{cong2}
use Rattle.packet_fields.proofs.sealing.seal_frame.Goals as goal

frame_sealed : (before after old new : List ℕ) (start : ℕ) → start ≡ packet_at after → old ≡ packet before → new ≡ packet_sealed old (take (length after - start) (drop start after))
    → take start after ++ (new ++ drop (length after - start) (drop start after)) ≡ sealed before after
frame_sealed before after old new start is_start is_old is_new =
    let none : drop (length after - start) (drop start after) ≡ [] = drop_all (length after - start) (drop start after) (let len = length-drop start after in omega arith) in
    let whole : take (length after - start) (drop start after) ≡ packet after = take_rest after start ∙ ap (λ (n : ℕ). drop n after) is_start in
    ap (λ (xs : List ℕ). take start after ++ (new ++ xs)) none
    ∙ (ap (λ (xs : List ℕ). take start after ++ xs) (append-nil new ∙ (is_new ∙ cong2 (λ (p q : List ℕ). packet_sealed p q) is_old whole))
    ∙ ap (λ (n : ℕ). take n after ++ packet_sealed (packet before) (packet after)) is_start)

pub returns : goal.returns
returns c = frame_sealed c.args.before.now c.args.after.now c.packet_from-old.result.now c.seal_packet.new.new c.packet_place-start.result c.packet_place-start.ensures.place c.packet_from-old.ensures.packet c.seal_packet.ensures
