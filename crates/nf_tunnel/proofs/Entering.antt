-- A frame after the entry of a tunnel.
use Rattle.std.proofs.Common.{◌≡◌, ◌≢◌, ◌∙◌, ℕ, List, ◌++◌, take, drop, true, false, sym, ap, subst, ⊎_elim}
use Rattle.std.proofs.lemmas.Bool.{cases_Bool, cond-true, cond-false}
use Rattle.std.proofs.lemmas.List.{drop-drop}
use Rattle.packet_fields.specs.Frames.{packet_at, packet}
use Rattle.packet_fields.specs.Checksums.{words, header_of, IsRight}
use Rattle.internet_checksum.specs.Laws.{ChecksumsAreRight}
use Rattle.nf_tunnel.specs.declared.encap.Encap.{Encap}
use Rattle.nf_tunnel.specs.OuterHeaders.{outer_header}
use Rattle.nf_tunnel.specs.Tunnels.{header_at, enters, encapsulated}
use Rattle.nf_tunnel.specs.Headers.{Enters}
use Rattle.nf_tunnel.proofs.Headers.{entering}
use Rattle.nf_tunnel.proofs.Outer.{HasAddresses, HasOuter, has_outer, right_outer}
use Rattle.nf_tunnel.proofs.Replacing.{replaced}

-- the frame with the outer header in it
abbrev pub around : Encap → List ℕ → List ℕ
around tunnel frame = take (header_at frame) frame ++ (outer_header tunnel (packet frame) ++ drop (header_at frame) frame)

pub around_is : (tunnel : Encap) (frame : List ℕ) → enters (packet frame) ≡ true → encapsulated tunnel frame ≡ around tunnel frame
around_is tunnel frame test = cond-true (enters (packet frame)) (around tunnel frame) frame test

pub stays_out : (tunnel : Encap) (frame : List ℕ) → enters (packet frame) ≡ false → encapsulated tunnel frame ≡ frame
stays_out tunnel frame test = cond-false (enters (packet frame)) (around tunnel frame) frame test

-- a frame that an entry changes enters the tunnel
pub went_in : (tunnel : Encap) (frame : List ℕ) → encapsulated tunnel frame ≢ frame → enters (packet frame) ≡ true
went_in tunnel frame changed =
    ⊎_elim
    (λ (is : enters (packet frame) ≡ true). is)
    (λ (is : enters (packet frame) ≡ false). absurd (changed (stays_out tunnel frame is)))
    (cases_Bool (enters (packet frame)))

-- what is known about it after the entry
pub record WentIn (tunnel : Encap) (frame new : List ℕ) : Type 0 where
  pub inner : Enters (packet frame)
  pub whole : new ≡ around tunnel frame
  pub place : packet_at new ≡ packet_at frame
  pub outer : HasOuter tunnel (packet frame) (packet new)

pub behind_entry : (tunnel : Encap) (frame : List ℕ) → HasAddresses tunnel → encapsulated tunnel frame ≢ frame → WentIn tunnel frame (encapsulated tunnel frame)
behind_entry tunnel frame h changed =
    let test = went_in tunnel frame changed in
    let p = packet frame in
    let inner = entering p test in
    let whole = around_is tunnel frame test in
    let r = replaced frame (outer_header tunnel p ++ drop (header_at frame) frame) inner.header.there in
    let q_is : packet (around tunnel frame) ≡ take 2 p ++ (outer_header tunnel p ++ drop 2 p) =
    r.packet_is ∙ ap (λ (xs : List ℕ). take 2 p ++ (outer_header tunnel p ++ xs)) (sym (drop-drop 2 (packet_at frame) frame)) in
    record {
      inner = inner;
      whole = whole;
      place = ap (λ (xs : List ℕ). packet_at xs) whole ∙ r.place;
      outer = subst (λ (xs : List ℕ). HasOuter tunnel p xs) (sym (ap (λ (xs : List ℕ). packet xs) whole ∙ q_is)) (has_outer tunnel p h inner.header.there);
    }

-- the checksum of its outer header is right
pub right_behind_entry : ChecksumsAreRight → (tunnel : Encap) (frame : List ℕ) → HasAddresses tunnel → encapsulated tunnel frame ≢ frame → IsRight (words (header_of (packet (encapsulated tunnel frame))))
right_behind_entry law tunnel frame h changed =
    subst (λ (xs : List ℕ). IsRight (words xs)) (sym (behind_entry tunnel frame h changed).outer.own) (right_outer law tunnel (packet frame))
