-- What a sync of lists of sections says, where both lists have just the sections that Q names.
use Rattle.std.proofs.Common.{◌≡◌, ◌↔◌, inl, inr, ℕ}
use Rattle.blob_device.specs.Disk.{Key}
use Rattle.blob_device.specs.Timeline.{Timeline, disk, Always}
use Rattle.blob_device.specs.lemmas.Moments.{always_now, always_weaker}
use Rattle.sealed_pages.specs.declared.page_blob.PageBlob.{PageBlob}
use Rattle.section_manager.specs.Sections.{IsHeld}
use Rattle.paired.specs.Crashes.{IsOneOf, IsOwn}
use Rattle.paired.specs.Kept.{Layout}
use Rattle.paired.specs.Pair.{Pair, IsMoving}
use Rattle.paired.specs.PairSync.{IsSyncOf, SyncKeeps}

-- a blob of one section among some, of records or of values, is one of one among more
pub one_more : (l : Layout) (P Q R : ℕ → Type 0) → ((s : ℕ) → P s → R s) → ((s : ℕ) → Q s → R s) → (q : Key) → IsOneOf l P Q q → IsOwn l R q
one_more l P Q R first second q one = elim one [
  | inl blob ↦ inl (blob.0, blob.1, first blob.0 blob.2, blob.3)
  | inr (inl blob) ↦ inr (inl (blob.0, blob.1, second blob.0 blob.2, blob.3))
  | inr (inr copy) ↦ inr (inr copy)
]

pub own_more : (l : Layout) (P Q : ℕ → Type 0) → ((s : ℕ) → P s → Q s) → (q : Key) → IsOwn l P q → IsOwn l Q q
own_more l P Q more = one_more l P P Q more more

module _ {F S : Type 0} {gs : _} (p : Pair F (PageBlob S gs)) (P A Q : ℕ → Type 0) (named : (s : ℕ) → P s ↔ Q s) (active : (s : ℕ) → A s ↔ Q s) where
  -- some marker moves
  pub moving_as : ((s : ℕ) × IsMoving p P A s) → ((s : ℕ) × IsMoving p Q Q s)
  moving_as (s, moving) = (
    s,
    (
      moving.0,
      λ is. moving.1 ((active s).1 is),
      elim moving.2 [
        | inl this ↦ inl ((named s).0 this.0, this.1)
        | inr other ↦ inr (λ is. other.0 ((named s).1 is), other.1)
      ],
    ),
  )

  pub moving_of : ((s : ℕ) × IsMoving p Q Q s) → ((s : ℕ) × IsMoving p P A s)
  moving_of (s, moving) = (
    s,
    (
      moving.0,
      λ is. moving.1 ((active s).0 is),
      elim moving.2 [
        | inl this ↦ inl ((named s).1 this.0, this.1)
        | inr other ↦ inr (λ is. other.0 ((named s).0 is), other.1)
      ],
    ),
  )

  pub sync_as : (r : Pair F (PageBlob S gs)) → IsSyncOf p P A r → IsSyncOf p Q Q r
  sync_as r of = record {
    lengths = of.lengths;
    sizes = of.sizes;
    held = of.held;
    values_held = of.values_held;
    named = λ s is. of.named s ((named s).1 is);
    settled = λ s is held. of.settled s ((named s).1 is) held;
    same = λ s not. of.same s (λ is. not ((named s).0 is));
    others = λ s not. of.others s (λ is. not ((named s).0 is));
    markers = λ s not. of.markers s (λ is. not ((active s).0 is));
    active = λ s is. of.active s ((active s).1 is);
    marked = λ s m has. elim (of.marked s m has) [
      | inl was ↦ inl was
      | inr new ↦ inr (λ is. new.0 ((active s).1 is), new.1, new.2)
    ];
    still = λ none. of.still (λ w. none (moving_as w));
    marker_floor = of.marker_floor;
    bounds = of.bounds;
    layout = of.layout;
  }

  module _ (old new : Timeline) (keeps : SyncKeeps p P A old new) where
    -- no blob changes but those of these sections, and of the markers
    pub sync_alone : Always old new (λ d. (q : Key) → (IsOwn p.layout Q q → ⊥) → d q ≡ disk old q)
    sync_alone = always_weaker old new (λ d. (q : Key) → (IsOwn p.layout (λ s. P s × IsHeld p.index.sections s) q → ⊥) → d q ≡ disk old q) (λ d. (q : Key) → (IsOwn p.layout Q q → ⊥) → d q ≡ disk old q)
        (λ d others q not. others q (λ own. not (own_more p.layout (λ s. P s × IsHeld p.index.sections s) Q (λ s has. (named s).0 has.0) q own))) keeps.untouched

    -- of these only those whose records are held
    pub sync_others : (q : Key) → (IsOwn p.layout (λ s. Q s × IsHeld p.index.sections s) q → ⊥) → disk new q ≡ disk old q
    sync_others q not = always_now old new (λ d. (q : Key) → (IsOwn p.layout (λ s. P s × IsHeld p.index.sections s) q → ⊥) → d q ≡ disk old q) keeps.untouched q
        (λ own. not (own_more p.layout (λ s. P s × IsHeld p.index.sections s) (λ s. Q s × IsHeld p.index.sections s) (λ s has. ((named s).0 has.0, has.1)) q own))
