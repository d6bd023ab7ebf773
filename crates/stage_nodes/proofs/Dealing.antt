-- A dealer before and after one packet.
use Rattle.std.proofs.Common.{◌≡◌, ◌≢◌, ◌≤◌, ◌+◌, ◌-◌, ◌∙◌, ℕ, suc, List, [], ◌∷◌, length, map, refl, arith, ap, sym, subst, Bool, false, All, inl, inr}
use Rattle.std.specs.Prelude.{Some, None}
use Rattle.std.proofs.lemmas.List.Elements.{All-cons, All-nil}
use Rattle.std.proofs.lemmas.List.Sums.{sum_by-cons}
use Rattle.packet_fields.specs.declared.field.Field.{Field}
use Rattle.action_profile.specs.declared.parts.StageParts.{StageParts}
use Rattle.action_profile.specs.declared.parts.Touch.{Touch}
use Rattle.packet_version.specs.Splitting.{PlainApart}
use Rattle.packet_version.specs.Versions.{PlainVersion}
use Rattle.packet_version.specs.Dealing.{dealt}
use Rattle.packet_version.specs.Tallies.{count_of, raised}
use Rattle.packet_messages.specs.Messages.{PlainMessage, PlainMessage.Live, PlainMessage.Nil, PlainMessage.Short, Fits, Owing, first, front, turned, is_short}
use Rattle.packet_messages.specs.Turns.{shares}
use Rattle.stage_nodes.specs.Streams.{parted, base_of, due_of, dealer_copies}
use Rattle.stage_nodes.specs.Dues.{AreFanned, DealerDue, NothingOwed}
use Rattle.stage_nodes.specs.Turns.{HasMore, DealerReady, RaisesByMessage, Deals, DealerAt, GivenFits, is_lost}
use Rattle.stage_nodes.specs.declared.given.Given.{Given}
use Rattle.stage_nodes.specs.declared.given.Given.TheVariants.{Row, Word}
use Rattle.stage_nodes.proofs.Shares.{turned_shares, no_shares}
use Rattle.stage_nodes.proofs.Ends.{due_is, begins, Front, front_of, some_more, none_more}

-- what is due on the links of the branches' nodes, and after each branch has its version of the next packet

fans_owing : (touches : List Touch) (x : PlainMessage PlainApart) (xs : List (PlainMessage PlainApart)) (fans : List (List (List (PlainMessage PlainVersion)))) → AreFanned touches (x ∷ xs) fans → All (λ fan. Owing (front fan)) fans
unfolding AreFanned
fans_owing [] x xs [] h = All-nil _
fans_owing [] x xs (fan ∷ fans) h = absurd h
fans_owing (t ∷ touches) x xs [] h = absurd h
fans_owing (t ∷ touches) x xs (fan ∷ fans) h =
    All-cons (λ fan. Owing (front fan)) fan fans (front_of h.0.0 (parted t x) (map (parted t) xs) fan h.0.1 h.0.2).owing (fans_owing touches x xs fans h.1)

fans_first : (touches : List Touch) (x : PlainMessage PlainApart) (xs : List (PlainMessage PlainApart)) (fans : List (List (List (PlainMessage PlainVersion)))) → AreFanned touches (x ∷ xs) fans → map (λ fan. first (front fan)) fans ≡ map (λ t. parted t x) touches
unfolding AreFanned
fans_first [] x xs [] h = refl
fans_first [] x xs (fan ∷ fans) h = absurd h
fans_first (t ∷ touches) x xs [] h = absurd h
fans_first (t ∷ touches) x xs (fan ∷ fans) h =
    ap (λ y. y ∷ map (λ fan. first (front fan)) fans) (front_of h.0.0 (parted t x) (map (parted t) xs) fan h.0.1 h.0.2).is
    ∙ ap (λ y. parted t x ∷ y) (fans_first touches x xs fans h.1)

fans_turned : (touches : List Touch) (x : PlainMessage PlainApart) (xs : List (PlainMessage PlainApart)) (fans : List (List (List (PlainMessage PlainVersion)))) → AreFanned touches (x ∷ xs) fans → AreFanned touches xs (map turned fans)
unfolding AreFanned
fans_turned [] x xs [] h = tt
fans_turned [] x xs (fan ∷ fans) h = absurd h
fans_turned (t ∷ touches) x xs [] h = absurd h
fans_turned (t ∷ touches) x xs (fan ∷ fans) h =
    ((h.0.0, h.0.1, ap turned h.0.2 ∙ turned_shares h.0.0 (parted t x) (map (parted t) xs) h.0.1), fans_turned touches x xs fans h.1)

fans_words : (touches : List Touch) (q : ℕ) (xs : List (PlainMessage PlainApart)) (fans : List (List (List (PlainMessage PlainVersion)))) → AreFanned touches (Nil q ∷ xs) fans → All (λ fan. Fits (first (front fan)) (Nil q)) fans
unfolding AreFanned
fans_words [] q xs [] h = All-nil _
fans_words [] q xs (fan ∷ fans) h = absurd h
fans_words (t ∷ touches) q xs [] h = absurd h
fans_words (t ∷ touches) q xs (fan ∷ fans) h =
    All-cons (λ fan. Fits (first (front fan)) (Nil q)) fan fans (inl (sym (front_of h.0.0 (parted t (Nil q)) (map (parted t) xs) fan h.0.1 h.0.2).is)) (fans_words touches q xs fans h.1)

all_short : (fans : List (List (List (PlainMessage PlainVersion)))) → All (λ fan. Fits (first (front fan)) Short) fans
all_short [] = All-nil _
all_short (fan ∷ fans) = All-cons (λ y. Fits (first (front y)) Short) fan fans (inr refl) (all_short fans)

row_live : (touches : List Touch) (whole : PlainApart) → map (λ v. Live v) (map (dealt whole) touches) ≡ map (λ t. parted t (Live whole)) touches
row_live [] whole = refl
row_live (t ∷ touches) whole = ap (λ y. Live (dealt whole t) ∷ y) (row_live touches whole)

-- the packet that comes next, and the links at it
pub record DealerTurn {S : Type 0} (comes : S → List (PlainMessage PlainApart) → Type 0) (touches : List Touch) (source : S) (versions : List (List (List (PlainMessage PlainVersion)))) (bases : List (List (PlainMessage PlainApart))) : Type 0 where
  pub next : PlainMessage PlainApart
  pub later : List (PlainMessage PlainApart)
  pub takes : comes source (next ∷ later)
  pub owing : All (λ fan. Owing (front fan)) versions
  pub row : map (λ fan. first (front fan)) versions ≡ map (λ t. parted t next) touches
  pub base : Front bases (base_of touches next)
  pub words : (q : ℕ) → next ≡ Nil q → All (λ fan. Fits (first (front fan)) (Nil q)) versions

pub dealer_turn : {S : Type 0} {comes : S → List (PlainMessage PlainApart) → Type 0} (parts : StageParts) (source : S) (versions : List (List (List (PlainMessage PlainVersion)))) (bases : List (List (PlainMessage PlainApart))) → DealerReady comes parts source versions bases → DealerTurn comes parts.touches source versions bases
dealer_turn {S} {comes} parts source versions bases r =
    let d = r.2 in
    let b = begins r.1 r.0 d.many in
    let gives : AreFanned parts.touches (b.head ∷ b.tail) versions = subst (λ y. AreFanned parts.touches y versions) b.is d.gives in record {
      next = b.head;
      later = b.tail;
      takes = subst (comes source) b.is d.takes;
      owing = fans_owing parts.touches b.head b.tail versions gives;
      row = fans_first parts.touches b.head b.tail versions gives;
      base = front_of d.mergers (base_of parts.touches b.head) (map (base_of parts.touches) b.tail) bases d.some (d.gives_bases ∙ ap (λ y. shares d.mergers (map (base_of parts.touches) y)) b.is);
      words = λ q e. fans_words parts.touches q b.tail versions (subst (λ y. AreFanned parts.touches (y ∷ b.tail) versions) e gives);
    }

pub has_more : {S : Type 0} {comes : S → List (PlainMessage PlainApart) → Type 0} (parts : StageParts) (source : S) (versions : List (List (List (PlainMessage PlainVersion)))) (bases : List (List (PlainMessage PlainApart))) → DealerReady comes parts source versions bases → HasMore comes source
has_more {S} {comes} parts source versions bases r = let t = dealer_turn parts source versions bases r in (t.next, t.later, t.takes)

-- what arrived fits the packet that comes next
abbrev pub FitsNext : {S : Type 0} → (S → List (PlainMessage PlainApart) → Type 0) → S → PlainMessage PlainApart → Type 0
FitsNext comes source message = (x : PlainMessage PlainApart) (xs : List (PlainMessage PlainApart)) → comes source (x ∷ xs) → Fits x message

came_live : {S : Type 0} {comes : S → List (PlainMessage PlainApart) → Type 0} (touches : List Touch) (source : S) (versions : List (List (List (PlainMessage PlainVersion)))) (bases : List (List (PlainMessage PlainApart))) (message : PlainMessage PlainApart) (whole : PlainApart)
    → (t : DealerTurn comes touches source versions bases) → FitsNext comes source message → message ≡ Live whole → t.next ≡ Live whole
came_live {S} {comes} touches source versions bases message whole t fits live = sym (due_is t.next message (fits t.next t.later t.takes) (ap is_short live)) ∙ live

-- what a dealer gives fits
pub given_fits : {S : Type 0} {comes : S → List (PlainMessage PlainApart) → Type 0} (touches : List Touch) (source : S) (versions : List (List (List (PlainMessage PlainVersion)))) (bases : List (List (PlainMessage PlainApart))) (message : PlainMessage PlainApart) (short : Bool) (old new : List ℕ) (given : Given)
    → DealerTurn comes touches source versions bases → FitsNext comes source message → Deals touches message short old new given → GivenFits versions bases given
given_fits {S} {comes} touches source versions bases message short old new (Row base row) t fits d =
    let s = d.1 in
    let is = came_live touches source versions bases message s.whole t fits s.live in (
      s.given ∙ row_live touches s.whole ∙ sym (t.row ∙ ap (λ y. map (λ t. parted t y) touches) is),
      inl (sym (t.base.is ∙ ap (base_of touches) is ∙ ap (λ y. Live y) (sym s.stays))),
    )
given_fits {S} {comes} touches source versions bases message short old new (Word None) t fits st = (all_short versions, inr refl)
given_fits {S} {comes} touches source versions bases message short old new (Word (Some q)) t fits st =
    let is : t.next ≡ Nil q = sym (due_is t.next message (fits t.next t.later t.takes) (ap is_short st.1)) ∙ st.1 in
    (t.words q is, inl (sym (t.base.is ∙ ap (base_of touches) is)))

-- a packet that was passed to branches, or was dropped before, was counted
pub record WasCounted (touches : List Touch) (message : PlainMessage PlainApart) (short : Bool) (old new : List ℕ) : Type 0 where
  pub ample : short ≡ false
  pub there : is_short message ≡ false
  pub counted : RaisesByMessage touches message old new

-- after the message that memory is short, no other message is given
pub given_ample : (touches : List Touch) (message : PlainMessage PlainApart) (short : Bool) (old new : List ℕ) (given : Given) → Deals touches message short old new given → is_lost given ≡ false → short ≡ false
given_ample touches message short old new (Row base row) d w = d.0
given_ample touches message short old new (Word None) st w = absurd cc
given_ample touches message short old new (Word (Some q)) st w = st.0

pub given_counted : (touches : List Touch) (message : PlainMessage PlainApart) (was short after : Bool) (old new : List ℕ) (given : Given)
    → short ≡ was → Deals touches message short old new given → after ≡ is_lost given → after ≡ false → WasCounted touches message was old new
given_counted touches message was short after old new (Row base row) s d e w = record { ample = sym s ∙ d.0; there = ap is_short d.1.live; counted = d.1.counted }
given_counted touches message was short after old new (Word None) s st e w = absurd (let x = sym w ∙ e in cc)
given_counted touches message was short after old new (Word (Some q)) s st e w = record { ample = sym s ∙ st.0; there = ap is_short st.1; counted = st.2 }

raised_twice : (c d s : ℕ) → raised (raised c d) s ≡ raised c (d + s)
raised_twice c d s = omega arith

pub dealer_goes_on : {S : Type 0} {comes : S → List (PlainMessage PlainApart) → Type 0} (parts : StageParts) (n : ℕ) (total : Field → ℕ) (short after : Bool) (counts counts' : List ℕ) (source source' : S) (versions versions' : List (List (List (PlainMessage PlainVersion)))) (bases bases' : List (List (PlainMessage PlainApart))) (message : PlainMessage PlainApart)
    → DealerAt comes parts (suc n) total short counts source versions bases → FitsNext comes source message
    → ((x : PlainMessage PlainApart) (xs : List (PlainMessage PlainApart)) → comes source (x ∷ xs) → comes source' xs) → versions' ≡ map turned versions → bases' ≡ turned bases
    → (after ≡ false → WasCounted parts.touches message short counts counts') → DealerAt comes parts n total after counts' source' versions' bases'
dealer_goes_on {S} {comes} parts n total short after counts counts' source source' versions versions' bases bases' message a fits left v t h =
    let d = a.due in
    let b = begins a.coming n d.many in
    let here = subst (comes source) b.is d.takes in record {
      coming = b.tail;
      due = record {
        mergers = d.mergers;
        some = d.some;
        modes = d.modes;
        branches = d.branches;
        few = d.few;
        many = b.many;
        takes = left b.head b.tail here;
        gives = subst (AreFanned parts.touches b.tail) (sym v) (fans_turned parts.touches b.head b.tail versions (subst (λ y. AreFanned parts.touches y versions) b.is d.gives));
        gives_bases = t ∙ ap turned (d.gives_bases ∙ ap (λ y. shares d.mergers (map (base_of parts.touches) y)) b.is) ∙ turned_shares d.mergers (base_of parts.touches b.head) (map (base_of parts.touches) b.tail) d.some;
      };
      counted = λ w f.
          let k = h w in
          let is = due_is b.head message (fits b.head b.tail here) k.there in
          ap (λ c. raised c (dealer_copies parts.touches b.tail f)) (k.counted f ∙ ap (λ y. raised (count_of counts f) (due_of parts.touches f y)) is)
          ∙ raised_twice (count_of counts f) (due_of parts.touches f b.head) (dealer_copies parts.touches b.tail f)
          ∙ ap (raised (count_of counts f)) (sym (sum_by-cons (due_of parts.touches f) b.head b.tail) ∙ ap (λ y. dealer_copies parts.touches y f) (sym b.is))
          ∙ a.counted k.ample f;
    }

-- over a count of packets

pub dealer_begins : {S : Type 0} {comes : S → List (PlainMessage PlainApart) → Type 0} (parts : StageParts) (n : ℕ) (xs : List (PlainMessage PlainApart)) (short : Bool) (counts : List ℕ) (source : S) (versions : List (List (List (PlainMessage PlainVersion)))) (bases : List (List (PlainMessage PlainApart)))
    → DealerDue comes parts n xs source versions bases → DealerAt comes parts n (λ f. raised (count_of counts f) (dealer_copies parts.touches xs f)) short counts source versions bases
dealer_begins {S} {comes} parts n xs short counts source versions bases d = record { coming = xs; due = d; counted = λ w f. refl }

-- at least one packet is to come
pub dealer_some : {S : Type 0} {comes : S → List (PlainMessage PlainApart) → Type 0} (parts : StageParts) (count : ℕ) (xs : List (PlainMessage PlainApart)) (source : S) (versions : List (List (List (PlainMessage PlainVersion)))) (bases : List (List (PlainMessage PlainApart))) → count ≢ 0
    → DealerDue comes parts count xs source versions bases → DealerReady comes parts source versions bases
dealer_some {S} {comes} parts count xs source versions bases ne d = (count - 1, xs, subst (λ n. DealerDue comes parts n xs source versions bases) (some_more count ne) d)

pub dealer_at : {S : Type 0} {comes : S → List (PlainMessage PlainApart) → Type 0} (parts : StageParts) (count : ℕ) (total : Field → ℕ) (short : Bool) (counts counts' : List ℕ) (source : S) (versions : List (List (List (PlainMessage PlainVersion)))) (bases : List (List (PlainMessage PlainApart))) → count ≢ 0 → counts' ≡ counts
    → DealerAt comes parts count total short counts source versions bases → DealerAt comes parts (suc (count - 1)) total short counts' source versions bases
dealer_at {S} {comes} parts count total short counts counts' source versions bases ne t d =
    subst (λ n. DealerAt comes parts n total short counts' source versions bases) (some_more count ne) (subst (λ y. DealerAt comes parts count total short y source versions bases) (sym t) d)

pub dealer_same : {S : Type 0} {comes : S → List (PlainMessage PlainApart) → Type 0} (parts parts' : StageParts) (count count' : ℕ) (total : Field → ℕ) (short : Bool) (counts : List ℕ) (source : S) (versions : List (List (List (PlainMessage PlainVersion)))) (bases : List (List (PlainMessage PlainApart)))
    → parts' ≡ parts → count' ≡ count → DealerAt comes parts (count - 1) total short counts source versions bases → DealerAt comes parts' (count' - 1) total short counts source versions bases
dealer_same {S} {comes} parts parts' count count' total short counts source versions bases p c a =
    subst (λ y. DealerAt comes y (count' - 1) total short counts source versions bases) (sym p) (subst (λ y. DealerAt comes parts (y - 1) total short counts source versions bases) (sym c) a)

raised_none : (c : ℕ) → raised c 0 ≡ c
raised_none c = omega arith

all_counted : {S : Type 0} {comes : S → List (PlainMessage PlainApart) → Type 0} (parts : StageParts) (total : Field → ℕ) (short : Bool) (counts : List ℕ) (source : S) (versions : List (List (List (PlainMessage PlainVersion)))) (bases : List (List (PlainMessage PlainApart)))
    → DealerAt comes parts 0 total short counts source versions bases → short ≡ false → (f : Field) → count_of counts f ≡ total f
all_counted {S} {comes} parts total short counts source versions bases a w f = over a.coming a.due.many (a.counted w f)
  where
    over : (coming : List (PlainMessage PlainApart)) → length coming ≡ 0 → raised (count_of counts f) (dealer_copies parts.touches coming f) ≡ total f → count_of counts f ≡ total f
    over [] none e = sym (raised_none (count_of counts f)) ∙ e
    over (x ∷ coming) none e = absurd (omega arith)

pub dealer_done : {S : Type 0} {comes : S → List (PlainMessage PlainApart) → Type 0} (parts : StageParts) (count i n : ℕ) (total : Field → ℕ) (short : Bool) (counts : List ℕ) (source : S) (versions : List (List (List (PlainMessage PlainVersion)))) (bases : List (List (PlainMessage PlainApart))) → count ≤ i → n ≡ count - i
    → DealerAt comes parts n total short counts source versions bases → short ≡ false → (f : Field) → count_of counts f ≡ total f
dealer_done {S} {comes} parts count i n total short counts source versions bases le e d =
    all_counted parts total short counts source versions bases (subst (λ m. DealerAt comes parts m total short counts source versions bases) (e ∙ none_more count i le) d)

fans_given : (touches : List Touch) (fans : List (List (List (PlainMessage PlainVersion)))) → AreFanned touches [] fans → All NothingOwed fans
unfolding AreFanned
fans_given [] [] h = All-nil _
fans_given [] (fan ∷ fans) h = absurd h
fans_given (t ∷ touches) [] h = absurd h
fans_given (t ∷ touches) (fan ∷ fans) h = All-cons NothingOwed fan fans (subst NothingOwed (sym h.0.2) (no_shares h.0.0 0 h.0.0)) (fans_given touches fans h.1)

-- no more version or base is due
all_given : {S : Type 0} {comes : S → List (PlainMessage PlainApart) → Type 0} (parts : StageParts) (total : Field → ℕ) (short : Bool) (counts : List ℕ) (source : S) (versions : List (List (List (PlainMessage PlainVersion)))) (bases : List (List (PlainMessage PlainApart)))
    → DealerAt comes parts 0 total short counts source versions bases → All NothingOwed versions × NothingOwed bases
all_given {S} {comes} parts total short counts source versions bases a = over a.coming a.due.many a.due.gives a.due.gives_bases
  where
    over : (coming : List (PlainMessage PlainApart)) → length coming ≡ 0 → AreFanned parts.touches coming versions → bases ≡ shares a.due.mergers (map (base_of parts.touches) coming) → All NothingOwed versions × NothingOwed bases
    over [] none v b = (fans_given parts.touches versions v, subst NothingOwed (sym b) (no_shares a.due.mergers 0 a.due.mergers))
    over (x ∷ coming) none v b = absurd (omega arith)

pub dealer_gave : {S : Type 0} {comes : S → List (PlainMessage PlainApart) → Type 0} (parts : StageParts) (count i n : ℕ) (total : Field → ℕ) (short : Bool) (counts : List ℕ) (source : S) (versions : List (List (List (PlainMessage PlainVersion)))) (bases : List (List (PlainMessage PlainApart))) → count ≤ i → n ≡ count - i
    → DealerAt comes parts n total short counts source versions bases → All NothingOwed versions × NothingOwed bases
dealer_gave {S} {comes} parts count i n total short counts source versions bases le e d =
    all_given parts total short counts source versions bases (subst (λ m. DealerAt comes parts m total short counts source versions bases) (e ∙ none_more count i le) d)
