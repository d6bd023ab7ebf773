-- What a branch's version has in common with the packet of the walk, while both go on.
use Rattle.std.proofs.Common.{◌≡◌, ◌≢◌, ◌<◌, ◌≤◌, ◌+◌, ◌∙◌, ℕ, List, ◌∷◌, sym, ap, refl, arith, Bool, true, false, Some, None, inr}
use Rattle.std.specs.Prelude.{Option, is_some, ◌&&◌, if◌then◌else◌}
use Rattle.std.specs.Option.{option_or}
use Rattle.packet_fields.specs.Writing.{over}
use Rattle.packet_fields.specs.declared.field.Field.{Field}
use Rattle.action_profile.specs.Profiles.{reads_of, writes_of}
use Rattle.action_profile.specs.declared.rights.Profile.{Profile}
use Rattle.chain_walk.specs.Laws.{KeepsProfile}
use Rattle.chain_walk.specs.Shown.{Values, shown_by}
use Rattle.chain_walk.specs.Step.{Behaviour, stepped}
use Rattle.chain_walk.specs.declared.fixed.Fixed.{Fixed}
use Rattle.graph_law.specs.Branches.{Version, writer_by, written_at}
use Rattle.graph_law.proofs.Rights.{Reads, Writes}

-- In the walk, `last x` is the position of x's last writer, 0 if none. A version with that writer has the walk's value.
pub record Same (side : ℕ → ℕ) (c : ℕ) (values : Values) (last : Field → ℕ) (v : Version) : Type 0 where
  pub below : (x : Field) → v.writers x ≤ last x
  pub same : (x : Field) → v.writers x ≡ last x → 0 < last x → v.values x ≡ values x
  pub mine : (x : Field) → 0 < last x → side (last x) ≡ c → v.writers x ≡ last x

-- The functions still to come see the same.
pub record Near (side : ℕ → ℕ) (c p : ℕ) (fs : List Profile) (values : Values) (last : Field → ℕ) (v : Version) : Type 0 where
  pub reads : (x : Field) → Reads side c p fs x → v.values x ≡ values x
  pub has : (x : Field) → Writes side c p fs x → is_some (v.values x) ≡ is_some (values x)
  pub same : Same side c values last v
  pub past : (x : Field) → last x < p

-- the last writers after the function at position `p` wrote these values
abbrev pub marks : ℕ → Values → (Field → ℕ) → Field → ℕ
marks p new last = λ x. writer_by (new x) p (last x)

same_shown : (r : Bool) (v w : Option (List ℕ)) → (r ≡ true → v ≡ w) → (if r then v else None) ≡ (if r then w else None)
same_shown true v w h = h refl
same_shown false v w h = refl

same_has : (r v w : Bool) → (r ≡ true → v ≡ w) → (r && v) ≡ (r && w)
same_has true v w h = h refl
same_has false v w h = refl

-- a function sees the same if what it reads and what it may write are the same
pub shown_same : (f : Profile) (fixed : Fixed) (v w : Values) → ((x : Field) → reads_of f x ≡ true → v x ≡ w x) → ((x : Field) → writes_of f x ≡ true → is_some (v x) ≡ is_some (w x)) → shown_by f fixed v ≡ shown_by f fixed w
shown_same f fixed v w reads has = λ i. record {
  values = λ x. same_shown (reads_of f x) (v x) (w x) (reads x) i;
  has = λ x. same_has (writes_of f x) (is_some (v x)) (is_some (w x)) (has x) i;
  fixed = fixed;
}

both_has : (new v w : Option (List ℕ)) → is_some v ≡ is_some w → is_some (option_or new v) ≡ is_some (option_or new w)
both_has None v w h = h
both_has (Some y) v w h = refl

both_below : (new : Option (List ℕ)) (p m n : ℕ) → m ≤ n → writer_by new p m ≤ writer_by new p n
both_below None p m n h = h
both_below (Some y) p m n h = omega arith

both_same : (new v w : Option (List ℕ)) (p m n : ℕ) → (m ≡ n → 0 < n → v ≡ w) → writer_by new p m ≡ writer_by new p n → 0 < writer_by new p n → option_or new v ≡ option_or new w
both_same None v w p m n h e l = h e l
both_same (Some y) v w p m n h e l = refl

both_mine : (side : ℕ → ℕ) (new : Option (List ℕ)) (c p m n : ℕ) → (0 < n → side n ≡ c → m ≡ n) → 0 < writer_by new p n → side (writer_by new p n) ≡ c → writer_by new p m ≡ writer_by new p n
both_mine side None c p m n h l e = h l e
both_mine side (Some y) c p m n h l e = refl

past_more : (new : Option (List ℕ)) (p n : ℕ) → n < p → writer_by new p n < p + 1
past_more None p n h = omega arith
past_more (Some y) p n h = omega arith

else_below : (new : Option (List ℕ)) (p m n : ℕ) → n < p → m ≤ n → m ≤ writer_by new p n
else_below None p m n l h = h
else_below (Some y) p m n l h = omega arith

else_same : (new v w : Option (List ℕ)) (p m n : ℕ) → n < p → m ≤ n → (m ≡ n → 0 < n → v ≡ w) → m ≡ writer_by new p n → 0 < writer_by new p n → v ≡ option_or new w
else_same None v w p m n past below h e l = h e l
else_same (Some y) v w p m n past below h e l = absurd (omega arith)

else_mine : (side : ℕ → ℕ) (new : Option (List ℕ)) (c p m n : ℕ) → side p ≢ c → (0 < n → side n ≡ c → m ≡ n) → 0 < writer_by new p n → side (writer_by new p n) ≡ c → m ≡ writer_by new p n
else_mine side None c p m n ne h l e = h l e
else_mine side (Some y) c p m n ne h l e = absurd (ne e)

-- the branch's own function wrote the same over both
pub near_own : (side : ℕ → ℕ) (c p : ℕ) (f : Profile) (fs : List Profile) (values new : Values) (last : Field → ℕ) (v : Version) →
    Near side c p (f ∷ fs) values last v → Near side c (p + 1) fs (over new values) (marks p new last) (written_at p new v)
unfolding Reads Writes
near_own side c p f fs values new last v n = record {
  reads = λ x r. ap (option_or (new x)) (n.reads x (inr r));
  has = λ x r. both_has (new x) (v.values x) (values x) (n.has x (inr r));
  same = record {
    below = λ x. both_below (new x) p (v.writers x) (last x) (n.same.below x);
    same = λ x. both_same (new x) (v.values x) (values x) p (v.writers x) (last x) (n.same.same x);
    mine = λ x. both_mine side (new x) c p (v.writers x) (last x) (n.same.mine x);
  };
  past = λ x. past_more (new x) p (last x) (n.past x);
}

none_written : (new old : Option (List ℕ)) → new ≡ None → option_or new old ≡ old
none_written None old e = refl
none_written (Some y) old e = absurd cc

-- a step never changes which fields are present
pub still_there : (new old : Option (List ℕ)) (writes : Bool) → ((writes && is_some old) ≡ false → new ≡ None) → is_some (option_or new old) ≡ is_some old
still_there None old writes h = refl
still_there (Some y) (Some z) writes h = refl
still_there (Some y) None true h = absurd (let e = h refl in cc)
still_there (Some y) None false h = absurd (let e = h refl in cc)

-- a function of another branch wrote nothing that this branch still reads
pub near_other : {F : Type 0} (b : Behaviour F) (fixed : Fixed) (side : ℕ → ℕ) (c p : ℕ) (f : F) (fs : List Profile) (values : Values) (last : Field → ℕ) (v : Version) →
    KeepsProfile b → side p ≢ c → ((x : Field) → Reads side c (p + 1) fs x → writes_of (b.profile f) x ≡ false) →
    Near side c p (b.profile f ∷ fs) values last v → Near side c (p + 1) fs (over (stepped b fixed f values).written values) (marks p (stepped b fixed f values).written last) v
unfolding Reads Writes
near_other b fixed side c p f fs values last v law ne unread n = record {
  reads = λ x r. n.reads x (inr r) ∙ sym (none_written (new x) (values x) (law.writes fixed f values x (rw (unread x r) refl)));
  has = λ x r. n.has x (inr r) ∙ sym (still_there (new x) (values x) (writes_of (b.profile f) x) (law.writes fixed f values x));
  same = record {
    below = λ x. else_below (new x) p (v.writers x) (last x) (n.past x) (n.same.below x);
    same = λ x. else_same (new x) (v.values x) (values x) p (v.writers x) (last x) (n.past x) (n.same.below x) (n.same.same x);
    mine = λ x. else_mine side (new x) c p (v.writers x) (last x) ne (n.same.mine x);
  };
  past = λ x. past_more (new x) p (last x) (n.past x);
}
  where
    new : Values
    new = (stepped b fixed f values).written
