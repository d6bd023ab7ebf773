-- The backends of a balancer that is declared without a refused line are of the version of the virtual address.
use Rattle.std.proofs.Common.{◌≡◌, ◌∙◌, ℕ, zero, suc, List, [], ◌∷◌, ◌++◌, map, filter, length, Bool, true, false, not, cond, ◌||◌, Option, Some, None, refl, sym, ap, subst, true≢false, arith}
use Rattle.std.specs.Prelude.{if◌then◌else◌, ◌==◌, IfSome, All, fold, filter_map, slice_index_or, nat_eq, codes, ◌%◌, min, ◌+◌}
use Rattle.std.specs.List.{list_any, cons_option}
use Rattle.std.specs.Option.{option_map, option_map_or, option_and_then, option_or, unwrap_or}
use Rattle.std.specs.Str.{bytes_eq}
use Rattle.std.specs.Net.Addr.{ipv4_octets, ipv6_segments, segments_of, octets_of}
use Rattle.std.specs.Cmp.Lexicographic.{as_long}
use Rattle.std.proofs.lemmas.Bool.{eqb-true, eq-eqb}
use Rattle.std.proofs.lemmas.List.Elements.{All-nil, All-cons, All-weaker}
use Rattle.std.specs.declared.net.ip_addr.IpAddr.{IpAddr}
use Rattle.std.specs.declared.net.ip_addr.IpAddr.TheVariants.{V4, V6}
use Rattle.chain_walk.specs.Shown.{Values}
use Rattle.packet_fields.specs.declared.field.Field.TheVariants.{DstIp}
use Rattle.frame_seen.specs.Seeing.{ip_address_of as address_seen}
use Rattle.first_sight.specs.SameAddress.{is_same_address}
use Rattle.policy_text.specs.Values.{address_of}
use Rattle.policy_text.specs.Addresses6.{address6_of}
use Rattle.policy_text.specs.declared.policy.FunctionDecl.{FunctionDecl}
use Rattle.policy_text.specs.declared.policy.Setting.{Setting}
use Rattle.function_lines.specs.KindLines.{said_by, lacks_one, refused_behind, is_clashing, clashing, refused_lines, refused_line, lesser, least}
use Rattle.nf_translate.specs.declared.balancer_lines.BalancerLine.{BalancerLine}
use Rattle.nf_translate.specs.declared.balancer_lines.BalancerLine.TheVariants as lines
use Rattle.nf_translate.specs.declared.client.Client.{Client}
use Rattle.nf_translate.specs.Addresses.{ip_address_bytes, is_same_version, ipv4_address, ipv6_address, ip_address_of}
use Rattle.nf_translate.specs.BalancerLines.{line_of, is_virtual_address, backend_in, virtual_address_by, clashes, balancer_lines}
use Rattle.nf_translate.specs.Balancers.{PlainBalancer, balanced, balancer_of, in_place_of, flow_of}
use Rattle.nf_translate.specs.Clients.{place_of, source_of}
use Rattle.nf_translate.specs.Standing.{HasOneVersion, backend_of}

-- an address has the bytes of its version
abbrev IsWhole : IpAddr → Type 0
IsWhole (V4 a) = length (ip_address_bytes (V4 a)) ≡ 4
IsWhole (V6 a) = length (ip_address_bytes (V6 a)) ≡ 16

as_many : (a b : IpAddr) → IsWhole a → IsWhole b → is_same_version a b ≡ true → length (ip_address_bytes b) ≡ length (ip_address_bytes a)
as_many (V4 a) (V4 b) ha hb h = hb ∙ sym ha
as_many (V4 a) (V6 b) ha hb h = absurd (true≢false (sym h))
as_many (V6 a) (V4 b) ha hb h = absurd (true≢false (sym h))
as_many (V6 a) (V6 b) ha hb h = hb ∙ sym ha

-- so has each that a line gives
abbrev IsWholeLine : BalancerLine → Type 0
IsWholeLine (lines.VirtualAddress a) = IsWhole a
IsWholeLine (lines.Backend a) = IsWhole a

spelled_whole : (four six : Option ℕ) → IfSome (option_or (option_map ipv4_address four) (option_map ipv6_address six)) IsWhole
spelled_whole (Some bits) six = refl
spelled_whole None (Some bits) = refl
spelled_whole None None = tt

line_whole : (words : List (List ℕ)) → IfSome (line_of words) IsWholeLine
unfolding line_of
line_whole [] = tt
line_whole (lead ∷ []) = tt
line_whole (lead ∷ key ∷ []) = tt
line_whole (lead ∷ key ∷ text ∷ []) = by (bytes_eq lead (codes "set")) (bytes_eq lead (codes "rule")) (bytes_eq key (codes "vip")) (bytes_eq key (codes "backend")) (ip_address_of text) (spelled_whole (address_of text) (address6_of text))
  where
    by : (set rule vip backend : Bool) (address : Option IpAddr) → IfSome address IsWhole →
        IfSome (if set then (if vip then option_map (λ a. lines.VirtualAddress a) address else None) else if rule then (if backend then option_map (λ a. lines.Backend a) address else None) else None) IsWholeLine
    by true rule true backend None whole = tt
    by true rule true backend (Some a) whole = whole
    by true rule false backend address whole = tt
    by false true vip true None whole = tt
    by false true vip true (Some a) whole = whole
    by false true vip false address whole = tt
    by false false vip backend address whole = tt
line_whole (lead ∷ key ∷ text ∷ more ∷ words) = tt

-- if no line is the least, there is none
some_stays : (k : ℕ) (ns : List ℕ) → fold lesser (Some k) ns ≡ None → ⊥
some_stays k [] e = cc
some_stays k (n ∷ ns) e = some_stays (min k n) ns e

none_least : (ns : List ℕ) → least ns ≡ None → ns ≡ []
none_least [] e = refl
none_least (n ∷ ns) e = absurd (some_stays n ns e)

none_first : (xs ys : List ℕ) → xs ++ ys ≡ [] → xs ≡ []
none_first [] ys e = refl
none_first (x ∷ xs) ys e = absurd cc

none_second : (xs ys : List ℕ) → xs ++ ys ≡ [] → ys ≡ []
none_second [] ys e = e
none_second (x ∷ xs) ys e = absurd cc

lacks_none : (lacks : Bool) (line : ℕ) → (if lacks then line ∷ [] else []) ≡ [] → lacks ≡ false
lacks_none true line e = absurd cc
lacks_none false line e = refl

one_is : (a b : Bool) → (not a || b) ≡ false → a ≡ true
one_is true b e = refl
one_is false b e = absurd (true≢false e)

-- The virtual address that these lines set.
record Sets (said : List BalancerLine) : Type 0 where
  virtual : IpAddr
  is : virtual_address_by said ≡ Some virtual
  whole : IsWhole virtual

sets_one : (settings : List Setting) → list_any is_virtual_address (said_by balancer_lines settings) ≡ true → Sets (said_by balancer_lines settings)
sets_one [] h = absurd (true≢false (sym h))
sets_one (s ∷ settings) h = by (line_of s.words) (line_whole s.words) h (sets_one settings)
  where
    by : (line : Option BalancerLine) → IfSome line IsWholeLine → list_any is_virtual_address (cons_option line (said_by balancer_lines settings)) ≡ true →
        (list_any is_virtual_address (said_by balancer_lines settings) ≡ true → Sets (said_by balancer_lines settings)) → Sets (cons_option line (said_by balancer_lines settings))
    by None whole h rest = rest h
    by (Some (lines.VirtualAddress a)) whole h rest = record { virtual = a; is = refl; whole = whole }
    by (Some (lines.Backend a)) whole h rest = let later = rest h in record { virtual = later.virtual; is = later.is; whole = later.whole }

-- the backend is of the version of the virtual address, and has as many bytes
abbrev IsAlike : IpAddr → IpAddr → Type 0
IsAlike virtual backend = (is_same_version virtual backend ≡ true) × (length (ip_address_bytes backend) ≡ length (ip_address_bytes virtual))

-- the lines that clash among these
abbrev beside : List BalancerLine → List Setting → List Setting
beside said settings = filter (is_clashing balancer_lines said) settings

abbrev numbers : List Setting → List ℕ
numbers settings = map (λ s. s.line) settings

-- the backends that these add
abbrev added : List Setting → List IpAddr
added settings = filter_map backend_in (said_by balancer_lines settings)

module _ (said : List BalancerLine) (sets : Sets said) where
  all_alike : (settings : List Setting) → clashing balancer_lines said settings ≡ [] → All (IsAlike sets.virtual) (added settings)
  all_alike [] none = All-nil (IsAlike sets.virtual)
  all_alike (s ∷ settings) none = by (line_of s.words) (line_whole s.words) none (all_alike settings)
    where
      one : (a : IpAddr) → IsWhole a → (b : Bool) → is_same_version sets.virtual a ≡ b → numbers (cond (not b) (s ∷ beside said settings) (beside said settings)) ≡ [] →
          (numbers (beside said settings) ≡ [] → All (IsAlike sets.virtual) (added settings)) → All (IsAlike sets.virtual) (a ∷ added settings)
      one a whole true same none rest = All-cons (IsAlike sets.virtual) a (added settings) (same, as_many sets.virtual a sets.whole whole same) (rest none)
      one a whole false same none rest = absurd cc

      by : (line : Option BalancerLine) → IfSome line IsWholeLine → numbers (cond (option_map_or (clashes said) line false) (s ∷ beside said settings) (beside said settings)) ≡ [] →
          (numbers (beside said settings) ≡ [] → All (IsAlike sets.virtual) (added settings)) → All (IsAlike sets.virtual) (filter_map backend_in (cons_option line (said_by balancer_lines settings)))
      by None whole none rest = rest none
      by (Some (lines.VirtualAddress a)) whole none rest = rest none
      by (Some (lines.Backend a)) whole none rest =
          one a whole (is_same_version sets.virtual a) refl (subst (λ v. numbers (cond (option_map_or (λ virtual. not (is_same_version virtual a)) v false) (s ∷ beside said settings) (beside said settings)) ≡ []) sets.is none) rest

pub declared_alike : (decl : FunctionDecl) → refused_line balancer_lines decl ≡ None → HasOneVersion (balancer_of decl).settings
declared_alike decl none =
    let said = said_by balancer_lines decl.settings in
    let all = none_least (refused_lines balancer_lines decl) none in
    let behind = none_second (refused_behind balancer_lines [] decl.settings) _ all in
    let beside_none = none_first (clashing balancer_lines said decl.settings) _ behind in
    let lacks = lacks_none (lacks_one balancer_lines said) decl.line (none_second (clashing balancer_lines said decl.settings) _ behind) in
    let sets = sets_one decl.settings (one_is _ _ lacks) in
    let alike = all_alike said sets decl.settings beside_none in
    subst (λ v. HasOneVersion (record { virtual_address = unwrap_or v (ipv4_address 0); backends = filter_map backend_in said })) (sym sets.is)
    (record {
      version = All-weaker (IsAlike sets.virtual) (λ backend. is_same_version sets.virtual backend ≡ true) (λ backend h. h.0) (filter_map backend_in said) alike;
      bytes = All-weaker (IsAlike sets.virtual) (λ backend. length (ip_address_bytes backend) ≡ length (ip_address_bytes sets.virtual)) (λ backend h. h.1) (filter_map backend_in said) alike;
    })

pub keeps_settings : (b : PlainBalancer) (destination : Option (List ℕ)) (flow : Option Client) → (balanced b destination flow).after.settings ≡ b.settings
keeps_settings b destination None = refl
keeps_settings b destination (Some flow) = refl

-- there are as many segments as pairs of bytes, and conversely
pairs : (bytes : List ℕ) (n : ℕ) → length bytes ≡ n + n → length (segments_of bytes) ≡ n
pairs [] n h = omega (arith, h)
pairs (a ∷ []) n h = absurd (omega (arith, h))
pairs (a ∷ b ∷ bytes) zero h = absurd cc
pairs (a ∷ b ∷ bytes) (suc n) h = let e = pairs bytes n (omega (arith, h)) in omega (arith, e)

twice : (segments : List ℕ) (n : ℕ) → length segments ≡ n → length (octets_of segments) ≡ n + n
twice [] n h = omega (arith, h)
twice (s ∷ segments) zero h = absurd cc
twice (s ∷ segments) (suc n) h = let e = twice segments n (omega (arith, h)) in omega (arith, e)

-- a destination that is the virtual address has as many bytes
four_bytes : (bytes : List ℕ) (virtual : IpAddr) → is_same_address (V4 (record { octets = bytes })) virtual ≡ true → length (ip_address_bytes virtual) ≡ length bytes
four_bytes bytes (V4 a) h = sym (as_long nat_eq bytes (ipv4_octets a) h)
four_bytes bytes (V6 a) h = absurd (true≢false (sym h))

sixteen_bytes : (bytes : List ℕ) (virtual : IpAddr) → length bytes ≡ 16 → is_same_address (V6 (record { segments = segments_of bytes })) virtual ≡ true → length (ip_address_bytes virtual) ≡ length bytes
sixteen_bytes bytes (V4 a) long h = absurd (true≢false (sym h))
sixteen_bytes bytes (V6 a) long h = twice (ipv6_segments a) 8 (sym (as_long nat_eq (segments_of bytes) (ipv6_segments a) h) ∙ pairs bytes 8 long) ∙ sym long

of_flow : (b : Bool) (source : Option Client) (flow : Client) → (if b then source else None) ≡ Some flow → b ≡ true
of_flow true source flow e = refl
of_flow false source flow e = absurd cc

sent_bytes : (bytes : List ℕ) (virtual : IpAddr) (source : Option Client) (flow : Client) → (four sixteen : Bool) → (sixteen ≡ true → length bytes ≡ 16) →
    option_and_then (λ address. if is_same_address address virtual then source else None) (if four then Some (V4 (record { octets = bytes })) else if sixteen then Some (V6 (record { segments = segments_of bytes })) else None) ≡ Some flow →
    length (ip_address_bytes virtual) ≡ length bytes
sent_bytes bytes virtual source flow true sixteen long e = four_bytes bytes virtual (of_flow _ source flow e)
sent_bytes bytes virtual source flow false true long e = sixteen_bytes bytes virtual (long refl) (of_flow _ source flow e)
sent_bytes bytes virtual source flow false false long e = absurd cc

-- and every backend too, so its bytes are written
any_backend : (P : IpAddr → Type 0) (backends : List IpAddr) (place : ℕ) (virtual : IpAddr) → All P backends → P virtual → P (slice_index_or backends (place % length backends) virtual)
any_backend P [] place virtual all own = own
any_backend P (x ∷ backends) place virtual all own = all (place % length (x ∷ backends)) virtual (omega arith)

fits : (old new : List ℕ) → length new ≡ length old → in_place_of (Some old) new ≡ Some new
fits old new same = rw (eq-eqb (length new) (length old) same) refl

gets_by : (b : PlainBalancer) (source : Option Client) (destination : Option (List ℕ)) (found : Option Client) (flow : Client) → HasOneVersion b.settings →
    found ≡ Some flow → option_and_then (λ address. if is_same_address address b.settings.virtual_address then source else None) (option_and_then address_seen destination) ≡ Some flow →
    (balanced b destination found).written DstIp ≡ Some (ip_address_bytes (backend_of b flow))
gets_by b source destination None flow has is e = absurd cc
gets_by b source None (Some other) flow has is e = absurd cc
gets_by b source (Some old) (Some other) flow has is e =
    let same : other ≡ flow = cc in
    let sent = sent_bytes old b.settings.virtual_address source flow (length old == 4) (length old == 16) (eqb-true (length old) 16) e in
    let backend = any_backend (λ backend. length (ip_address_bytes backend) ≡ length (ip_address_bytes b.settings.virtual_address)) b.settings.backends (place_of b.flows other) b.settings.virtual_address has.bytes refl in
    fits old (ip_address_bytes (backend_of b other)) (backend ∙ sent) ∙ ap (λ f. Some (ip_address_bytes (backend_of b f))) same

pub gets_all : (proto : Option ℕ) (b : PlainBalancer) (v : Values) (flow : Client) → HasOneVersion b.settings → flow_of b.settings v proto ≡ Some flow →
    (balanced b (v DstIp) (flow_of b.settings v proto)).written DstIp ≡ Some (ip_address_bytes (backend_of b flow))
gets_all proto b v flow has of = gets_by b (source_of v proto) (v DstIp) (flow_of b.settings v proto) flow has of of
