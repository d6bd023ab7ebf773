-- Believed: the kinds of network functions and their names.
use Rattle.std.specs.Prelude.{ℕ, List, [], ◌∷◌, Bool, Option, find, codes}
use Rattle.std.specs.Str.{bytes_eq}
use Rattle.action_profile.specs.declared.kind.Kind.{Kind}
use Rattle.action_profile.specs.declared.kind.Kind.TheVariants.{Firewall, Signature, Nat, Balancer, Monitor, Limiter, Marker, Nexthop, Hop, Redactor, Tagger, Untagger, Encap, Decap}

-- the name of a kind in policies and printed texts
abbrev pub kind_name : Kind → List ℕ
kind_name Firewall = codes "firewall"
kind_name Signature = codes "signature"
kind_name Nat = codes "nat"
kind_name Balancer = codes "balancer"
kind_name Monitor = codes "monitor"
kind_name Limiter = codes "limiter"
kind_name Marker = codes "marker"
kind_name Nexthop = codes "nexthop"
kind_name Hop = codes "hop"
kind_name Redactor = codes "redactor"
kind_name Tagger = codes "tagger"
kind_name Untagger = codes "untagger"
kind_name Encap = codes "encap"
kind_name Decap = codes "decap"

-- all kinds
abbrev pub kinds : List Kind
kinds = Firewall ∷ Signature ∷ Nat ∷ Balancer ∷ Monitor ∷ Limiter ∷ Marker ∷ Nexthop ∷ Hop ∷ Redactor ∷ Tagger ∷ Untagger ∷ Encap ∷ Decap ∷ []

abbrev pub is_name_of : List ℕ → Kind → Bool
is_name_of word kind = bytes_eq (kind_name kind) word

-- the kind with this name
abbrev pub kind_named : List ℕ → Option Kind
kind_named word = find (is_name_of word) kinds
