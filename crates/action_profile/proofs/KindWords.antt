-- The words of kinds and kinds are each other's inverse.
use Rattle.std.proofs.Common.{◌≡◌, ℕ, true, false, cond, List, [], ◌∷◌, Some, refl, sym, ap, ◌∙◌}
use Rattle.std.specs.Prelude.{find}
use Rattle.std.proofs.lemmas.Slice.Eq.{bytes_eq-Decides}
use Rattle.action_profile.specs.Kinds.{kind_name, kinds, is_name_of, kind_named}
use Rattle.action_profile.specs.declared.kind.Kind.{Kind}
use Rattle.action_profile.specs.declared.kind.Kind.TheVariants.{Firewall, Signature, Nat, Balancer, Monitor, Limiter, Marker, Nexthop, Hop, Redactor, Tagger, Untagger, Encap, Decap}

pub kind_named-name : (kind : Kind) → kind_named (kind_name kind) ≡ Some kind
kind_named-name Firewall = refl
kind_named-name Signature = refl
kind_named-name Nat = refl
kind_named-name Balancer = refl
kind_named-name Monitor = refl
kind_named-name Limiter = refl
kind_named-name Marker = refl
kind_named-name Nexthop = refl
kind_named-name Hop = refl
kind_named-name Redactor = refl
kind_named-name Tagger = refl
kind_named-name Untagger = refl
kind_named-name Encap = refl
kind_named-name Decap = refl

found-name : (word : List ℕ) (kind : Kind) (among : List Kind) → find (is_name_of word) among ≡ Some kind → word ≡ kind_name kind
found-name word kind [] e = absurd cc
found-name word kind (one ∷ among) e =
    elim (is_name_of word one) as (λ b. is_name_of word one ≡ b → cond b (Some one) (find (is_name_of word) among) ≡ Some kind → word ≡ kind_name kind) [
      | true ↦ λ t f. let same : one ≡ kind = cc in sym ((bytes_eq-Decides (kind_name one) word).0 t) ∙ ap kind_name same
      | false ↦ λ t f. found-name word kind among f
    ] refl e

pub name-kind_named : (word : List ℕ) (kind : Kind) → kind_named word ≡ Some kind → word ≡ kind_name kind
name-kind_named word kind = found-name word kind kinds
