use Rattle.std.proofs.Common.{◌≡◌, ◌∙◌, ℕ, List, [], ◌∷◌, ◌++◌, map, sym, ap, refl, subst, length, length-append, arith}
use Rattle.std.proofs.lemmas.List.{length-map}
use Rattle.action_profile.specs.declared.parts.Touch.{Touch}
use Rattle.packet_version.specs.Splitting.{PlainApart}
use Rattle.packet_version.specs.Versions.{PlainVersion}
use Rattle.packet_version.specs.Dealing.{dealt, based}
use Rattle.merge_ops.specs.Behind.{AreFrom, dealt_arrival, dealt_arrivals}
use Rattle.merge_ops.specs.declared.arrival.Arrival.{Arrival}
use Rattle.merge_ops.specs.declared.arrival.Arrival.TheVariants.{Version}
use Rattle.merge_ops.proofs.Untouched.{dealt_from}
use Rattle.bench_program.proofs.versions.dealt.Goals as goal

made_of : (whole : PlainApart) (touches : List Touch) → map (λ v. Version v) (map (dealt whole) touches) ≡ dealt_arrivals whole touches
made_of whole [] = refl
made_of whole (t ∷ ts) = ap (λ (xs : List Arrival). dealt_arrival whole t ∷ xs) (made_of whole ts)

-- two that were taken from the end
two_of : {A : Type 0} (xs ys zs : List A) (f s : A) → length xs ≡ 2 → xs ≡ ys ++ s ∷ [] → ys ≡ zs ++ f ∷ [] → xs ≡ f ∷ s ∷ []
two_of xs ys [] f s two is was = is ∙ ap (λ ws. ws ++ s ∷ []) was
two_of xs ys (z ∷ zs) f s two is was =
    let a = ap (λ ws. length ws) is in
    let b = ap (λ ws. length ws) was in
    absurd (omega (arith, length-append ys (s ∷ []), length-append zs (f ∷ [])))

pub returns-clause-arrivals : goal.returns-clause-arrivals
returns-clause-arrivals c =
    let touches = c.args.parts.now.touches in
    let whole = c.args.whole in
    let long : length c.in_ok-base.versions.items ≡ 2 = ap (λ (vs : List PlainVersion). length vs) c.in_ok-base.ensures.versions ∙ (length-map touches (dealt whole) ∙ c.requires.two) in
    let two = two_of c.in_ok-base.versions.items c.pop.new.self.items c.pop-2.new.self.items c.in-Some-pop.first c.in-Some.second long c.in-Some.ensures.items c.in-Some-pop.ensures.items in
    let is : c.push-2.new.self.items ≡ dealt_arrivals whole touches =
    c.in_ok-push-2.ensures.items
    ∙ (ap (λ (xs : List Arrival). xs ++ Version c.in-Some.second ∷ []) (c.in_ok-push.ensures.items ∙ ap (λ (xs : List Arrival). xs ++ Version c.in-Some-pop.first ∷ []) c.requires.none)
    ∙ (ap (λ (vs : List PlainVersion). map (λ v. Version v) vs) (sym two ∙ c.in_ok-base.ensures.versions) ∙ made_of whole touches)) in
    record {
      whole = whole;
      touches = touches;
      from = subst (λ (b : PlainApart). AreFrom whole touches b c.push-2.new.self.items) (sym c.in_ok-base.ensures.base) (subst (λ (xs : List Arrival). AreFrom whole touches (based touches whole) xs) (sym is) (dealt_from whole touches c.deal.ensures.fits));
    }
