-- Behind a function that drops every packet no function changes, and no packet comes out.
use Rattle.std.proofs.Common.{◌∙◌, ℕ, ◌+◌, List, [], ◌∷◌, ◌++◌, Bool, true, false, refl, sym, ap, subst, suc}
use Rattle.std.specs.Prelude.{if◌then◌else◌, All}
use Rattle.std.proofs.lemmas.List.Elements.{All-nil, All-cons}
use Rattle.chain_walk.specs.Packets.{Packet, fates, functions_after}
use Rattle.chain_walk.specs.Shown.{shown_by, fixed_of}
use Rattle.chain_walk.specs.Step.{is_drop}
use Rattle.chain_walk.specs.Walk.{walk, Walked, applied, frame_after, dropped_at, then_walked}
use Rattle.packet_fields.specs.Writing.{fields_of}
use Rattle.net_functions.specs.NetFunctions.{net_behaviour}
use Rattle.net_functions.specs.declared.net_function.NetFunction.{NetFunction}
use Rattle.lint_laws.specs.Alike.{DropsBy}
use Rattle.lint_laws.specs.Walks.{IsGone, AreKept}

module _ (f : NetFunction) (drops : DropsBy true f) (back : List NetFunction) where
  -- one packet
  abbrev IsShut : List NetFunction → Walked NetFunction → Type 0
  IsShut front w = AreKept front (f ∷ back) w.functions × IsGone w.fate

  kept : (g : NetFunction) (front functions : List NetFunction) → AreKept front (f ∷ back) functions → (h : NetFunction) → AreKept (g ∷ front) (f ∷ back) (h ∷ functions)
  kept g front functions k h = record { front_after = h ∷ k.front_after; as_many = ap suc k.as_many; is = ap (λ l. h ∷ l) k.is }

  one_shut : (time position : ℕ) (front : List NetFunction) (frame : List ℕ) → IsShut front (walk net_behaviour time position (front ++ f ∷ back) frame)
  unfolding walk
  one_shut time position [] frame =
      subst (λ b. IsShut [] (if b then dropped_at position (applied net_behaviour time f frame).after back
      else then_walked (applied net_behaviour time f frame).after (walk net_behaviour time (position + 1) back (frame_after net_behaviour time f frame))))
      (sym (drops.verdict (shown_by (net_behaviour.profile f) (fixed_of time frame) (fields_of frame))))
      (record { front_after = []; as_many = refl; is = ap (λ g. g ∷ back) (drops.stays (shown_by (net_behaviour.profile f) (fixed_of time frame) (fields_of frame))) }, tt)
  one_shut time position (g ∷ front) frame = by (is_drop (applied net_behaviour time g frame).verdict) (one_shut time (position + 1) front (frame_after net_behaviour time g frame))
    where
      by : (b : Bool) → IsShut front (walk net_behaviour time (position + 1) (front ++ f ∷ back) (frame_after net_behaviour time g frame)) →
          IsShut (g ∷ front) (if b then dropped_at position (applied net_behaviour time g frame).after (front ++ f ∷ back)
          else then_walked (applied net_behaviour time g frame).after (walk net_behaviour time (position + 1) (front ++ f ∷ back) (frame_after net_behaviour time g frame)))
      by true rest = (record { front_after = (applied net_behaviour time g frame).after ∷ front; as_many = refl; is = refl }, tt)
      by false rest = (kept g front (walk net_behaviour time (position + 1) (front ++ f ∷ back) (frame_after net_behaviour time g frame)).functions rest.0 (applied net_behaviour time g frame).after, rest.1)

  -- all packets
  pub all_kept : (front : List NetFunction) (packets : List Packet) → AreKept front (f ∷ back) (functions_after net_behaviour (front ++ f ∷ back) packets)
  unfolding functions_after
  all_kept front [] = record { front_after = front; as_many = refl; is = refl }
  all_kept front (p ∷ packets) =
      let first = (one_shut p.time 1 front p.frame).0 in
      let rest = all_kept first.front_after packets in
      record {
        front_after = rest.front_after;
        as_many = rest.as_many ∙ first.as_many;
        is = ap (λ fs. functions_after net_behaviour fs packets) first.is ∙ rest.is;
      }

  pub all_gone : (front : List NetFunction) (packets : List Packet) → All IsGone (fates net_behaviour (front ++ f ∷ back) packets)
  unfolding fates
  all_gone front [] = All-nil IsGone
  all_gone front (p ∷ packets) =
      let first = one_shut p.time 1 front p.frame in
      All-cons IsGone (walk net_behaviour p.time 1 (front ++ f ∷ back) p.frame).fate (fates net_behaviour (walk net_behaviour p.time 1 (front ++ f ∷ back) p.frame).functions packets) first.1
      (subst (λ fs. All IsGone (fates net_behaviour fs packets)) (sym first.0.is) (all_gone first.0.front_after packets))
