-- For proofs: how the effects of calls that put bytes into a slot add up.
use Rattle.std.proofs.Common.{◌≡◌, ◌++◌, ◌∙◌, ℕ, List, [], ◌∷◌, refl, ap, sym, append_assoc}
use Rattle.std.specs.Prelude.{Option, Some, None}
use Rattle.std.specs.Option.{option_map}
use Rattle.std.proofs.lemmas.List.{append-nil}
use Rattle.nfp_outside.specs.declared.weight.Weight.{Weight}
use Rattle.nfp_outside.specs.Weights.{with_byte, heavier}
use Rattle.nfp_outside.specs.Outside.{SlotView, Appends, AppendsPrefix}

-- the weight of two pieces, one put after the other, is the weight of the joined piece
pub heavier_more : (a b : List ℕ) (w : Weight) → heavier b (heavier a w) ≡ heavier (a ++ b) w
unfolding heavier
heavier_more [] b w = refl
heavier_more (x ∷ a) b w = heavier_more a b (with_byte w x)

map_empty : (o : Option (List ℕ)) → o ≡ option_map (λ before. before ++ []) o
map_empty None = refl
map_empty (Some bytes) = ap (λ x. Some x) (sym (append-nil bytes))

map_twice : (a b : List ℕ) (o : Option (List ℕ)) → option_map (λ before. before ++ b) (option_map (λ before. before ++ a) o) ≡ option_map (λ before. before ++ (a ++ b)) o
map_twice a b None = refl
map_twice a b (Some bytes) = ap (λ x. Some x) (append_assoc bytes a b)

weighs_none : (o : Option Weight) → o ≡ option_map (heavier []) o
unfolding heavier
weighs_none None = refl
weighs_none (Some w) = refl

weighs_twice : (a b : List ℕ) (o : Option Weight) → option_map (heavier b) (option_map (heavier a) o) ≡ option_map (heavier (a ++ b)) o
weighs_twice a b None = refl
weighs_twice a b (Some w) = ap (λ x. Some x) (heavier_more a b w)

pub appends_none : (v : SlotView) → Appends [] v v
appends_none v = record { same_name = refl; content = map_empty v.bytes; weighs = weighs_none v.weight }

pub appends_more : (a b : List ℕ) (x y z : SlotView) → Appends a x y → Appends b y z → Appends (a ++ b) x z
appends_more a b x y z first second = record {
  same_name = second.same_name ∙ first.same_name;
  content = second.content ∙ ap (option_map (λ before. before ++ b)) first.content ∙ map_twice a b x.bytes;
  weighs = second.weighs ∙ ap (option_map (heavier b)) first.weighs ∙ weighs_twice a b x.weight;
}

pub prefix_longer : (a b : List ℕ) (x y : SlotView) → AppendsPrefix a x y → AppendsPrefix (a ++ b) x y
prefix_longer a b x y p = record { done = p.done; rest = p.rest ++ b; parts = ap (λ l. l ++ b) p.parts ∙ append_assoc p.done p.rest b; appended = p.appended }

pub prefix_more : (a b : List ℕ) (x y z : SlotView) → Appends a x y → AppendsPrefix b y z → AppendsPrefix (a ++ b) x z
prefix_more a b x y z first p = record { done = a ++ p.done; rest = p.rest; parts = ap (λ l. a ++ l) p.parts ∙ sym (append_assoc a p.done p.rest); appended = appends_more a p.done x y z first p.appended }

pub prefix_whole : (a : List ℕ) (x y : SlotView) → Appends a x y → AppendsPrefix a x y
prefix_whole a x y appended = record { done = a; rest = []; parts = sym (append-nil a); appended = appended }

pub prefix_none : (a : List ℕ) (x : SlotView) → AppendsPrefix a x x
prefix_none a x = record { done = []; rest = a; parts = refl; appended = appends_none x }
