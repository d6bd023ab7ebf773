-- Packets walk the same where one of two functions that do the same stands in place of the other.
use Rattle.std.proofs.Common.{◌≡◌, ◌∙◌, ℕ, ◌+◌, List, [], ◌∷◌, ◌++◌, Bool, true, false, refl, sym, ap, subst}
use Rattle.std.specs.Prelude.{if◌then◌else◌}
use Rattle.chain_walk.specs.Packets.{Packet, fates}
use Rattle.chain_walk.specs.Shown.{Shown, shown_by, fixed_of}
use Rattle.chain_walk.specs.Step.{is_drop}
use Rattle.chain_walk.specs.Walk.{walk, Walked, applied, frame_after, dropped_at, then_walked}
use Rattle.packet_fields.specs.Writing.{fields_of, written}
use Rattle.net_functions.specs.NetFunctions.{net_behaviour}
use Rattle.net_functions.specs.declared.net_function.NetFunction.{NetFunction}
use Rattle.lint_laws.specs.Alike.{AreAlike}

module _ (f g : NetFunction) (alike : AreAlike f g) where
  -- both walks end the same, and leave the same functions but for these two
  record AreTwins (w v : Walked NetFunction) : Type 0 where
    front : List NetFunction
    back : List NetFunction
    one : w.functions ≡ front ++ f ∷ back
    other : v.functions ≡ front ++ g ∷ back
    ends : w.fate ≡ v.fate

  abbrev shown : NetFunction → ℕ → List ℕ → Shown
  shown h time frame = shown_by (net_behaviour.profile h) (fixed_of time frame) (fields_of frame)

  same_shown : (time : ℕ) (frame : List ℕ) → shown f time frame ≡ shown g time frame
  same_shown time frame = ap (λ p. shown_by p (fixed_of time frame) (fields_of frame)) alike.profile

  same_verdict : (time : ℕ) (frame : List ℕ) → is_drop (applied net_behaviour time f frame).verdict ≡ is_drop (applied net_behaviour time g frame).verdict
  same_verdict time frame = ap is_drop (ap (λ s. (net_behaviour.step f s).verdict) (same_shown time frame) ∙ alike.verdict (shown g time frame))

  same_frame : (time : ℕ) (frame : List ℕ) → frame_after net_behaviour time f frame ≡ frame_after net_behaviour time g frame
  same_frame time frame = ap (λ values. written values frame) (ap (λ s. (net_behaviour.step f s).written) (same_shown time frame) ∙ alike.written (shown g time frame))

  behind : (time position : ℕ) (back : List NetFunction) (frame : List ℕ) (b : Bool) →
      AreTwins (if b then dropped_at position (applied net_behaviour time f frame).after back
      else then_walked (applied net_behaviour time f frame).after (walk net_behaviour time (position + 1) back (frame_after net_behaviour time f frame)))
      (if b then dropped_at position (applied net_behaviour time g frame).after back
      else then_walked (applied net_behaviour time g frame).after (walk net_behaviour time (position + 1) back (frame_after net_behaviour time g frame)))
  behind time position back frame true = record {
    front = [];
    back = back;
    one = ap (λ h. h ∷ back) (alike.stays (shown f time frame));
    other = ap (λ h. h ∷ back) (alike.other_stays (shown g time frame));
    ends = refl;
  }
  behind time position back frame false =
      let after : Walked NetFunction = walk net_behaviour time (position + 1) back (frame_after net_behaviour time g frame) in
      record {
        front = [];
        back = after.functions;
        one = ap (λ h. h ∷ (walk net_behaviour time (position + 1) back (frame_after net_behaviour time f frame)).functions) (alike.stays (shown f time frame))
            ∙ ap (λ fr. f ∷ (walk net_behaviour time (position + 1) back fr).functions) (same_frame time frame);
        other = ap (λ h. h ∷ after.functions) (alike.other_stays (shown g time frame));
        ends = ap (λ fr. (walk net_behaviour time (position + 1) back fr).fate) (same_frame time frame);
      }

  longer : (h : NetFunction) (w v : Walked NetFunction) → AreTwins w v → AreTwins (then_walked h w) (then_walked h v)
  longer h w v t = record { front = h ∷ t.front; back = t.back; one = ap (λ l. h ∷ l) t.one; other = ap (λ l. h ∷ l) t.other; ends = t.ends }

  walk_twins : (time position : ℕ) (front back : List NetFunction) (frame : List ℕ) → AreTwins (walk net_behaviour time position (front ++ f ∷ back) frame) (walk net_behaviour time position (front ++ g ∷ back) frame)
  unfolding walk
  walk_twins time position [] back frame =
      subst (λ b. AreTwins (if b then dropped_at position (applied net_behaviour time f frame).after back
      else then_walked (applied net_behaviour time f frame).after (walk net_behaviour time (position + 1) back (frame_after net_behaviour time f frame)))
      (if is_drop (applied net_behaviour time g frame).verdict then dropped_at position (applied net_behaviour time g frame).after back
      else then_walked (applied net_behaviour time g frame).after (walk net_behaviour time (position + 1) back (frame_after net_behaviour time g frame))))
      (sym (same_verdict time frame)) (behind time position back frame (is_drop (applied net_behaviour time g frame).verdict))
  walk_twins time position (h ∷ front) back frame = by (is_drop (applied net_behaviour time h frame).verdict) (walk_twins time (position + 1) front back (frame_after net_behaviour time h frame))
    where
      later : NetFunction → Walked NetFunction
      later x = walk net_behaviour time (position + 1) (front ++ x ∷ back) (frame_after net_behaviour time h frame)

      by : (b : Bool) → AreTwins (later f) (later g) →
          AreTwins (if b then dropped_at position (applied net_behaviour time h frame).after (front ++ f ∷ back) else then_walked (applied net_behaviour time h frame).after (later f))
          (if b then dropped_at position (applied net_behaviour time h frame).after (front ++ g ∷ back) else then_walked (applied net_behaviour time h frame).after (later g))
      by true rest = record { front = (applied net_behaviour time h frame).after ∷ front; back = back; one = refl; other = refl; ends = refl }
      by false rest = longer (applied net_behaviour time h frame).after (later f) (later g) rest

  pub same_fates : (front back : List NetFunction) (packets : List Packet) → fates net_behaviour (front ++ f ∷ back) packets ≡ fates net_behaviour (front ++ g ∷ back) packets
  unfolding fates
  same_fates front back [] = refl
  same_fates front back (p ∷ packets) =
      let t = walk_twins p.time 1 front back p.frame in
      ap (λ fate. fate ∷ fates net_behaviour (walk net_behaviour p.time 1 (front ++ f ∷ back) p.frame).functions packets) t.ends
      ∙ ap (λ rest. (walk net_behaviour p.time 1 (front ++ g ∷ back) p.frame).fate ∷ rest)
      (ap (λ fs. fates net_behaviour fs packets) t.one ∙ same_fates t.front t.back packets ∙ sym (ap (λ fs. fates net_behaviour fs packets) t.other))
