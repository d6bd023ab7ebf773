-- Flows keep their backends, replies come back, and ports run out after all are taken.
use Rattle.std.proofs.Common.{◌≡◌, ◌<◌, ◌≤◌, ◌+◌, ◌-◌, ◌*◌, ◌∙◌, ℕ, zero, suc, List, [], ◌∷◌, ◌++◌, length, Bool, true, false, Option, Some, None, slice_get, slice_index_or, refl, sym, ap, arith}
use Rattle.std.specs.Prelude.{if◌then◌else◌, nat_le, ◌==◌}
use Rattle.std.specs.Option.{option_and_then}
use Rattle.std.proofs.lemmas.Bool.{eq-eqb}
use Rattle.std.proofs.lemmas.Nat.{mod-mul-add}
use Rattle.policy_text.specs.Meeting.{is_within}
use Rattle.chain_walk.specs.Step.{Step}
use Rattle.nf_translate.specs.declared.endpoint.Endpoint.{Endpoint}
use Rattle.nf_translate.specs.declared.nat.NatSettings.{NatSettings}
use Rattle.nf_translate.specs.declared.client.Client.{Client}
use Rattle.nf_translate.specs.declared.balancer.BalancerSettings.{BalancerSettings}
use Rattle.nf_translate.specs.Clients.{is_same as is_same_client, is_known as is_known_client, place_of as place_of_client, with_client}
use Rattle.nf_translate.specs.Endpoints.{is_same, is_known, place_of, with_endpoint}
use Rattle.nf_translate.specs.Balancers.{PlainBalancer, balanced, backend_at, to_address}
use Rattle.nf_translate.specs.Nats.{PlainNat, public_port, port_at, place_at, of_protocol, mapped, leaving, coming, translated}
use Rattle.nf_translate.specs.Standing.{KeepsBackend, HasPorts}
use Rattle.nf_translate.proofs.Known.{same_is, at_place, one_place, keeps_place, stays_known, new_place, known_place, IsLater, same_later, seen_later, seen_length, seen_stays}

keeps_by : (flow : Client) (b : PlainBalancer) (flows : List Client) → IsLater b.flows flows → is_known_client b.flows flow ≡ true → KeepsBackend flow b (record b { flows = flows })
keeps_by flow b flows later known = record {
  known = ap (λ l. is_known_client l flow) later.is ∙ stays_known is_same_client b.flows later.more flow known;
  backend = ap (backend_at b.settings) (ap (λ l. place_of_client l flow) later.is ∙ keeps_place is_same_client b.flows later.more flow known);
}

pub keeps_backend : (flow : Client) (b : PlainBalancer) (destination : Option (List ℕ)) (other : Option Client) → is_known_client b.flows flow ≡ true → KeepsBackend flow b (balanced b destination other).after
keeps_backend flow b destination None known = record { known = known; backend = refl }
keeps_backend flow b destination (Some other) known = keeps_by flow b (with_client b.flows other) (seen_later is_same_client b.flows other) known

-- a translation at a later time: what was mapped is in front
record IsLaterNat (n later : PlainNat) : Type 0 where
  settings : later.settings ≡ n.settings
  mappings : IsLater n.mappings later.mappings

either : {A : Type 0} (P : A → Type 0) (b : Bool) (s t : A) → P s → P t → P (if b then s else t)
either P true s t hs ht = hs
either P false s t hs ht = ht

leaving_later : (n : PlainNat) (source : Endpoint) (port : Option ℕ) → IsLaterNat n (leaving n source port).after
leaving_later n source None = record { settings = refl; mappings = same_later n.mappings }
leaving_later n source (Some port) = record { settings = refl; mappings = seen_later is_same n.mappings source }

coming_later : (n : PlainNat) (inside : Option Endpoint) → IsLaterNat n (coming n inside).after
coming_later n None = record { settings = refl; mappings = same_later n.mappings }
coming_later n (Some inside) = record { settings = refl; mappings = same_later n.mappings }

later : (n : PlainNat) (ends : Option (Endpoint × Endpoint)) → IsLaterNat n (translated n ends).after
later n None = record { settings = refl; mappings = same_later n.mappings }
later n (Some ends) =
    either (λ (s : Step PlainNat). IsLaterNat n s.after) (is_within n.settings.inside n.settings.inside_bits ends.0.address) _ _
    (leaving_later n ends.0 (port_at n.settings (place_of n.mappings ends.0)))
    (either (λ (s : Step PlainNat). IsLaterNat n s.after) (ends.1.address == n.settings.public_address) _ _ (coming_later n (mapped n ends.1)) (record { settings = refl; mappings = same_later n.mappings }))

-- what was found is found in front of more
front : (mappings more : List Endpoint) (place proto : ℕ) (inside : Endpoint) → option_and_then (of_protocol proto) (slice_get mappings place) ≡ Some inside → option_and_then (of_protocol proto) (slice_get (mappings ++ more) place) ≡ Some inside
front [] more place proto inside h = absurd cc
front (x ∷ mappings) more zero proto inside h = h
front (x ∷ mappings) more (suc place) proto inside h = front mappings more place proto inside h

front_at : (mappings more : List Endpoint) (place : Option ℕ) (proto : ℕ) (inside : Endpoint) → option_and_then (of_protocol proto) (option_and_then (slice_get mappings) place) ≡ Some inside → option_and_then (of_protocol proto) (option_and_then (slice_get (mappings ++ more)) place) ≡ Some inside
front_at mappings more None proto inside h = absurd cc
front_at mappings more (Some place) proto inside h = front mappings more place proto inside h

-- addresses and ports stay as they were set
pub stays_set : (n : PlainNat) (ends : Option (Endpoint × Endpoint)) → (translated n ends).after.settings ≡ n.settings
stays_set n ends = (later n ends).settings

pub stays_mapped : (n : PlainNat) (ends : Option (Endpoint × Endpoint)) (public inside : Endpoint) → mapped n public ≡ Some inside → mapped (translated n ends).after public ≡ Some inside
stays_mapped n ends public inside h =
    let l = later n ends in
    ap (λ (s : NatSettings). option_and_then (of_protocol public.proto) (option_and_then (slice_get (translated n ends).after.mappings) (place_at s public.port))) l.settings
    ∙ ap (λ ms. option_and_then (of_protocol public.proto) (option_and_then (slice_get ms) (place_at n.settings public.port))) l.mappings.is
    ∙ front_at n.mappings l.mappings.more (place_at n.settings public.port) public.proto inside h

-- a port is found again at its place
port_is : (b : Bool) (p port : ℕ) → (if b then Some p else None) ≡ Some port → port ≡ p
port_is true p port h = cc
port_is false p port h = absurd cc

place_again : (low place : ℕ) → (if nat_le low (low + place) then Some (low + place - low) else None) ≡ Some place
place_again low place = by (nat_le low (low + place)) refl
  where
    by : (b : Bool) → nat_le low (low + place) ≡ b → (if b then Some (low + place - low) else None) ≡ Some place
    by true h = ap Some (omega arith)
    by false h = absurd (grind arith)

own_protocol : (inside : Endpoint) → of_protocol inside.proto inside ≡ Some inside
own_protocol inside = rw (eq-eqb inside.proto inside.proto refl) refl

pub comes_back : (n : PlainNat) (source : Endpoint) (address port : ℕ) → port_at n.settings (place_of n.mappings source) ≡ Some port → mapped (leaving n source (Some port)).after (record { proto = source.proto; address = address; port = port }) ≡ Some source
comes_back n source address port h =
    ap (λ p. option_and_then (of_protocol source.proto) (option_and_then (slice_get (with_endpoint n.mappings source)) (place_at n.settings p))) (port_is _ (public_port n.settings (place_of n.mappings source)) port h)
    ∙ ap (λ o. option_and_then (of_protocol source.proto) (option_and_then (slice_get (with_endpoint n.mappings source)) o)) (place_again n.settings.low (place_of n.mappings source))
    ∙ ap (option_and_then (of_protocol source.proto)) (at_place is_same same_is n.mappings source)
    ∙ own_protocol source

-- the ports
within : (n : PlainNat) (source : Endpoint) (b : Bool) → nat_le (public_port n.settings (place_of n.mappings source)) n.settings.high ≡ b → HasPorts n → HasPorts (leaving n source (if b then Some (public_port n.settings (place_of n.mappings source)) else None)).after
within n source false is has = has
within n source true is has =
    let place : n.settings.low + place_of n.mappings source ≤ n.settings.high = grind arith in
    let count = seen_length is_same n.mappings source (n.settings.high + 1 - n.settings.low) (omega (arith, has)) (omega (arith, place)) in
    omega (arith, has, place, count)

pub stays_within : (n : PlainNat) (ends : Option (Endpoint × Endpoint)) → HasPorts n → HasPorts (translated n ends).after
stays_within n None has = has
stays_within n (Some ends) has =
    either (λ (s : Step PlainNat). HasPorts s.after) (is_within n.settings.inside n.settings.inside_bits ends.0.address) _ _
    (within n ends.0 _ refl has)
    (either (λ (s : Step PlainNat). HasPorts s.after) (ends.1.address == n.settings.public_address) _ _ (comes (mapped n ends.1)) has)
  where
    comes : (inside : Option Endpoint) → HasPorts (coming n inside).after
    comes None = has
    comes (Some inside) = has

past : (p high : ℕ) → (if nat_le p high then Some p else None) ≡ None → high < p
past p high none = by (nat_le p high) refl none
  where
    by : (b : Bool) → nat_le p high ≡ b → (if b then Some p else None) ≡ None → high < p
    by true h none = absurd cc
    by false h none = grind arith

pub is_new : (n : PlainNat) (source : Endpoint) → HasPorts n → port_at n.settings (place_of n.mappings source) ≡ None → is_known n.mappings source ≡ false
is_new n source has none = by (is_known n.mappings source) refl
  where
    by : (b : Bool) → is_known n.mappings source ≡ b → b ≡ false
    by false h = refl
    by true h = absurd (let place = known_place is_same n.mappings source h in let beyond = past _ _ none in omega (arith, has, place, beyond))

pub all_taken : (n : PlainNat) (source : Endpoint) → HasPorts n → port_at n.settings (place_of n.mappings source) ≡ None → n.settings.low + length n.mappings ≡ n.settings.high + 1
all_taken n source has none =
    let place = new_place is_same n.mappings source (is_new n source has none) in
    let beyond = past _ _ none in
    omega (arith, has, place, beyond)

-- a port is given once
pub given_once : (n : PlainNat) (a b : Endpoint) (port : ℕ) → is_known n.mappings a ≡ true → is_known n.mappings b ≡ true →
    port_at n.settings (place_of n.mappings a) ≡ Some port → port_at n.settings (place_of n.mappings b) ≡ Some port → a ≡ b
given_once n a b port ha hb pa pb =
    let mine = port_is _ (public_port n.settings (place_of n.mappings a)) port pa in
    let other = port_is _ (public_port n.settings (place_of n.mappings b)) port pb in
    one_place is_same same_is n.mappings a b ha hb (omega (arith, mine, other))

-- the backends take turns
pub takes_turn : (b : PlainBalancer) (destination : Option (List ℕ)) (flow : Client) → is_known_client b.flows flow ≡ false → (balanced b destination (Some flow)).written ≡ to_address (backend_at b.settings (length b.flows)) destination
takes_turn b destination flow new = ap (λ place. to_address (backend_at b.settings place) destination) (new_place is_same_client b.flows flow new)

-- in the order of the list
pub item_at : {X : Type 0} (items : List X) (place : ℕ) (other : X) → place < length items → slice_get items place ≡ Some (slice_index_or items place other)
item_at [] place other inside = absurd (omega (arith, inside))
item_at (x ∷ items) zero other inside = refl
item_at (x ∷ items) (suc place) other inside = item_at items place other (omega (arith, inside))

pub as_listed : (s : BalancerSettings) (turn place : ℕ) → place < length s.backends → slice_get s.backends place ≡ Some (backend_at s (turn * length s.backends + place))
as_listed s turn place inside =
    item_at s.backends place s.virtual_address inside
    ∙ ap (λ p. Some (slice_index_or s.backends p s.virtual_address)) (sym (mod-mul-add turn (length s.backends) place inside))

-- what is known is not noted again
pub known_flow_stays : (b : PlainBalancer) (destination : Option (List ℕ)) (flow : Client) → is_known_client b.flows flow ≡ true → (balanced b destination (Some flow)).after ≡ b
known_flow_stays b destination flow known = ap (λ flows. record b { flows = flows }) (seen_stays is_same_client b.flows flow known)

pub known_source_stays : (n : PlainNat) (source : Endpoint) (port : Option ℕ) → is_known n.mappings source ≡ true → (leaving n source port).after ≡ n
known_source_stays n source None known = refl
known_source_stays n source (Some port) known = ap (λ mappings. record n { mappings = mappings }) (seen_stays is_same n.mappings source known)

pub back_stays : (n : PlainNat) (inside : Option Endpoint) → (coming n inside).after ≡ n
back_stays n None = refl
back_stays n (Some inside) = refl
