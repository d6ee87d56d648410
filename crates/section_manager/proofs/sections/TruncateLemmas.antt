-- What removing the later sections, and then shortening one, leaves of the blobs.
use Rattle.std.specs.Prelude.{◌≡◌, ◌⊎◌, ℕ, ◌^◌, ◌<◌, ◌≤◌, min, List, IsSomeAnd, Option, None, Some, IsSome, Result, Ok, Err, OnErr}
use Rattle.std.proofs.Common.{inl, inr, refl, sym, ◌∙◌, ap, subst, arith}
use Rattle.std.proofs.lemmas.Bool.{cases_lt}
use Rattle.blob_device.specs.Disk.{Key, Blob, Disk, nothing}
use Rattle.blob_device.specs.Opened.{OpenedList, reads_of}
use Rattle.blob_device.specs.Timeline.{Timeline, disk, Always, OnlyAt}
use Rattle.blob_device.specs.lemmas.Moments.{always_now, always_then, always_weaker}
use Rattle.section_manager.specs.declared.buffer.SectionBuffer as buffer
use Rattle.section_manager.specs.declared.journal.Error.{Error}
use Rattle.section_manager.specs.Lasting.{Removing, EntriesLeave, IsLonger, Truncating}
use Rattle.section_manager.specs.Leaving.{Leaves, AllMoments}
use Rattle.section_manager.specs.Refusing.{HasFailed, IsPruned, HasDamage}
use Rattle.section_manager.specs.Entries.{StartsNoRead}
use Rattle.section_manager.specs.Sections.{Sections, section_key, key_of, IsKnown}
use Rattle.section_manager.specs.lemmas.Keys.{key_injective, keys_differ}

pub some_so : {T : Type 0} {P R : T → Type 0} (o : Option T) → IsSomeAnd o P → ((v : T) → P v → R v) → IsSomeAnd o R
some_so None is f = is
some_so (Some v) is f = f v is

-- an entry that leaves the list has no reads
pub leave_unread : (P : Key → Type 0) (old new : OpenedList) → EntriesLeave P old new → StartsNoRead old new
leave_unread P old new leave q = elim (leave q) [
  | inl same ↦ omega (arith, ap reads_of same)
  | inr gone ↦ omega (arith, ap reads_of gone.1)
]

module _ {F B : Type 0} (g : buffer.Ghosts B) (m : Sections F B) (target n : ℕ) where
  some_longer : (o : Option B) → IsSomeAnd o (λ u. n < g.byte_count u) ⊎ (IsSomeAnd o (λ u. n < g.byte_count u) → ⊥)
  some_longer None = inr (λ is. is)
  some_longer (Some u) = elim (cases_lt n (g.byte_count u)) [
    | inl lt ↦ inl lt
    | inr le ↦ inr (λ lt. absurd (omega (arith, lt, le)))
  ]

  pub longer_or_not : IsLonger g m target n ⊎ (IsLonger g m target n → ⊥)
  longer_or_not = some_longer (m.held target)

  longer_known : IsLonger g m target n → IsKnown m target
  longer_known longer = inl (go (m.held target) longer)
    where
      go : (o : Option B) → IsSomeAnd o (λ u. n < g.byte_count u) → IsSome o
      go None is = absurd is
      go (Some u) is = refl

  module _ (from : Disk) (small : target < 2 ^ 64) (number : (s : ℕ) → IsKnown m s → s < 2 ^ 64) where
    -- the removal of the later ones leaves the target
    pub target_stays : (d : Disk) → Removing m (λ s. IsKnown m s × (target < s)) (λ s t. t < s) from d → d (key_of m target) ≡ from (key_of m target)
    target_stays d removing = removing.others (key_of m target) (λ w. omega (arith, w.1.1, key_injective m.partition target w.0 small (number w.0 w.1.0) w.2))

    -- while they are removed
    pub removing_truncating : (stands : (u : B) → m.held target ≡ Some u → Leaves (g.NoChanceSeal u) (g.MayKeep u (from (key_of m target)) (min (g.settled u) n)) (from (key_of m target)))
        → (d : Disk) → Removing m (λ s. IsKnown m s × (target < s)) (λ s t. t < s) from d → Truncating g m target n from d
    removing_truncating stands d removing = record {
      later = removing.going;
      cut = λ u held. subst (Leaves (g.NoChanceSeal u) (g.MayKeep u (from (key_of m target)) (min (g.settled u) n))) (sym (target_stays d removing)) (stands u held);
      last = inl (target_stays d removing);
      others = λ q not. removing.others q (λ w. not (w.0, (w.1.0, omega (arith, w.1.1)), w.2));
    }

    -- and while the target is shortened
    pub cutting_truncating : (mid : Disk) → Removing m (λ s. IsKnown m s × (target < s)) (λ s t. t < s) from mid → ((s : ℕ) → IsKnown m s → target < s → mid (key_of m s) ≡ nothing) → IsLonger g m target n
        → (d : Disk) → OnlyAt (key_of m target) mid (λ b. (u : B) → m.held target ≡ Some u → Leaves (g.NoChanceSeal u) (g.MayKeep u (from (key_of m target)) (min (g.settled u) n)) b) d → Truncating g m target n from d
    cutting_truncating mid removing gone longer d only = record {
      later = record {
        each = λ s is. inr (inr (still s is.0 is.1));
        order = λ s t is_s is_t goes. inr (still s is_s.0 is_s.1);
      };
      cut = only.here;
      last = inr (longer, still);
      others = λ q not. only.others q (λ is. not (target, (longer_known longer, omega arith), is)) ∙ removing.others q (λ w. not (w.0, (w.1.0, omega (arith, w.1.1)), w.2));
    }
      where
        still : (s : ℕ) → IsKnown m s → target < s → d (key_of m s) ≡ nothing
        still s known later = only.others (key_of m s) (keys_differ m.partition s target (number s known) small (λ is. omega (arith, is, later))) ∙ gone s known later

-- What is claimed of the cut of a section is claimed of it as it was before the others were removed.
pub cut_as_before : {B : Type 0} (g : buffer.Ghosts B) (n : ℕ) (k j : Key) (old new : Option B) (mid from d : Disk) → j ≡ k → new ≡ old → mid k ≡ from k
    → OnlyAt j mid (λ b. (u : B) → new ≡ Some u → Leaves (g.NoChanceSeal u) (g.MayKeep u (mid j) (min (g.settled u) n)) b) d
    → OnlyAt k mid (λ b. (u : B) → old ≡ Some u → Leaves (g.NoChanceSeal u) (g.MayKeep u (from k) (min (g.settled u) n)) b) d
cut_as_before {B = B} g n k j old new mid from d key held blob only =
    let at : OnlyAt k mid (λ b. (u : B) → new ≡ Some u → Leaves (g.NoChanceSeal u) (g.MayKeep u (mid k) (min (g.settled u) n)) b) d =
    subst (λ (x : Key). OnlyAt x mid (λ b. (u : B) → new ≡ Some u → Leaves (g.NoChanceSeal u) (g.MayKeep u (mid x) (min (g.settled u) n)) b) d) key only in
    record {
      here = λ u is. subst (λ (x : Blob). Leaves (g.NoChanceSeal u) (g.MayKeep u x (min (g.settled u) n)) (d k)) blob (at.here u (held ∙ is));
      others = at.others;
    }

-- the later sections were removed, and then the target was cut, if it was longer
pub truncating_moments : {F B : Type 0} (g : buffer.Ghosts B) (m o : Sections F B) (target n : ℕ) (a b c : Timeline) → target < 2 ^ 64 → ((s : ℕ) → IsKnown m s → s < 2 ^ 64)
    → ((u : B) → m.held target ≡ Some u → Leaves (g.NoChanceSeal u) (g.MayKeep u (disk a (key_of m target)) (min (g.settled u) n)) (disk a (key_of m target)))
    → Always a b (Removing m (λ s. IsKnown m s × (target < s)) (λ s t. t < s) (disk a)) → ((s : ℕ) → IsKnown m s → target < s → disk b (key_of m s) ≡ nothing) → o.partition ≡ m.partition → o.held target ≡ m.held target
    → AllMoments (key_of o target) (λ x. (u : B) → o.held target ≡ Some u → Leaves (g.NoChanceSeal u) (g.MayKeep u (disk b (key_of o target)) (min (g.settled u) n)) x) b c
    → ((IsLonger g o target n → ⊥) → c ≡ b) → Always a c (Truncating g m target n (disk a))
truncating_moments {B = B} g m o target n a b c small number stands removing gone partition held cut idle =
    let P : Disk → Type 0 = Truncating g m target n (disk a) in
    let now = always_now a b (Removing m (λ s. IsKnown m s × (target < s)) (λ s t. t < s) (disk a)) removing in
    let first : Always a b P = always_weaker a b (Removing m (λ s. IsKnown m s × (target < s)) (λ s t. t < s) (disk a)) P (removing_truncating g m target n (disk a) small number stands) removing in
    elim (longer_or_not g m target n) [
      | inl longer ↦ always_then a b c P first (always_weaker b c
          (OnlyAt (key_of o target) (disk b) (λ x. (u : B) → o.held target ≡ Some u → Leaves (g.NoChanceSeal u) (g.MayKeep u (disk b (key_of o target)) (min (g.settled u) n)) x)) P
          (λ d only. cutting_truncating g m target n (disk a) small number (disk b) now gone longer d
          (cut_as_before g n (key_of m target) (key_of o target) (m.held target) (o.held target) (disk b) (disk a) d (ap (λ (p : List ℕ). section_key p target) partition) held
          (target_stays g m target n (disk a) small number (disk b) now) only))
          cut)
      | inr not ↦ subst (λ (t : Timeline). Always a t P) (sym (idle (λ longer. not (subst (λ (h : Option B). IsSomeAnd h (λ u. n < g.byte_count u)) held longer)))) first
    ]

-- a cut that fails names no floor
pub not_pruned : {T : Type 0} (r : Result T Error) (floor before now : ℕ) → OnErr r (HasDamage r ⊎ HasFailed r before now) → IsPruned r floor → ⊥
not_pruned (Ok v) floor before now cause is = absurd (cc is)
not_pruned (Err e) floor before now cause is = elim cause [
  | inl damage ↦ absurd (cc (damage.1, is))
  | inr failed ↦ elim failed [
    | inl mem ↦ absurd (cc (mem, is))
    | inr fault ↦ absurd (cc (fault.0, is))
  ]
]

pub earlier_cause : {T : Type 0} (r : Result T Error) (floor first before now : ℕ) → first ≤ before → OnErr r (HasDamage r ⊎ HasFailed r before now) → OnErr r (IsPruned r floor ⊎ (HasDamage r ⊎ HasFailed r first now))
earlier_cause (Ok v) floor first before now le cause = tt
earlier_cause (Err e) floor first before now le cause = elim cause [
  | inl damage ↦ inr (inl damage)
  | inr failed ↦ elim failed [
    | inl mem ↦ inr (inr (inl mem))
    | inr fault ↦ inr (inr (inr (fault.0, omega (arith, fault.1, le))))
  ]
]
