-- Which bytes the sections of a journal of frames have after a call, and that it is a journal of frames then.
use Rattle.std.proofs.Common.{◌≡◌, ◌∙◌, ◌⊎◌, inl, inr, ℕ, ◌<◌, ◌≤◌, ◌^◌, [], false, Option, None, Some, IsSome, refl, sym, ap, subst, arith}
use Rattle.std.proofs.lemmas.Bool.{cases_lt}
use Rattle.blob_device.specs.Disk.{Disk}
use Rattle.blob_device.specs.Timeline.{Timeline, disk, Always}
use Rattle.blob_device.specs.lemmas.Moments.{always_now}
use Rattle.sealed_pages.specs.declared.page_blob.PageBlob.{PageBlob}
use Rattle.section_manager.specs.Lasting.{Removing}
use Rattle.section_manager.specs.Sections.{section_key, key_of, IsGone, IsKnown, IsSame, SamePlace}
use Rattle.section_manager.specs.lemmas.Keys.{key_injective}
use Rattle.segments.specs.FixedLists.{Lists, bytes_held, section_bytes}
use Rattle.variable_journal.specs.Frames.{rest_of}
use Rattle.variable_journal.specs.Lists.{AreFramed}
use Rattle.variable_journal.specs.lemmas.Frame.{rest_none}

module _ {F S : Type 0} {gs : _} (j k : Lists F (PageBlob S gs)) (d e : Disk) where
  -- A section that owes no replay then owed none, and has the bytes that it had, or it has none.
  pub framed_again : AreFramed j d
      → ((s : ℕ) → k.unrecovered s ≡ false → (section_bytes k.sections e s ≡ [])
      ⊎ ((j.unrecovered s ≡ false) × (section_bytes k.sections e s ≡ section_bytes j.sections d s)))
      → AreFramed k e
  framed_again framed as_before s free = elim (as_before s free) [
    | inl none ↦ ap rest_of none ∙ rest_none
    | inr same ↦ ap rest_of same.1 ∙ framed s same.0
  ]

  -- the bytes of a section that is held as before
  pub held_again : (s : ℕ) → k.sections.partition ≡ j.sections.partition
      → k.sections.held s ≡ j.sections.held s
      → ((u : PageBlob S gs) → j.sections.held s ≡ Some u
      → e (key_of j.sections s) ≡ d (key_of j.sections s))
      → section_bytes k.sections e s ≡ section_bytes j.sections d s
  held_again s partition held blob =
      (λ i. bytes_held (held i) (e (section_key (partition i) s)).content) ∙ here (j.sections.held s) blob
    where
      here : (o : Option (PageBlob S gs))
          → ((u : PageBlob S gs) → o ≡ Some u → e (key_of j.sections s) ≡ d (key_of j.sections s))
          → bytes_held o (e (key_of j.sections s)).content ≡ bytes_held o (d (key_of j.sections s)).content
      here None blob = refl
      here (Some u) blob = λ i. bytes_held (Some u) (blob u refl i).content

module _ {F S : Type 0} {gs : _} (min : ℕ) (j k : Lists F (PageBlob S gs)) (a b : Timeline) where
  -- after a prune each section has the bytes that it had, or it is gone and has none
  pub pruned_bytes : ((s : ℕ) → IsKnown j.sections s → s < 2 ^ 64)
      → ((s : ℕ) → s < min → IsGone k.sections s)
      → ((s : ℕ) → min ≤ s → IsSame j.sections k.sections s) → SamePlace j.sections k.sections
      → Always a b (Removing j.sections (λ s. IsKnown j.sections s × (s < min)) (λ s t. s < t) (disk a))
      → (s : ℕ) → ((s < min) × (section_bytes k.sections (disk b) s ≡ []))
      ⊎ ((min ≤ s) × (section_bytes k.sections (disk b) s ≡ section_bytes j.sections (disk a) s))
  pruned_bytes number removed kept place moments s = elim (cases_lt s min) [
    | inl low ↦ inl (low, λ i. bytes_held ((removed s low).held i) (disk b (key_of k.sections s)).content)
    | inr stays ↦ inr (
      stays,
      held_again j k (disk a) (disk b) s place.partition (kept s stays).held (λ u was.
          (always_now a b (Removing j.sections (λ q. IsKnown j.sections q × (q < min)) (λ q t. q < t) (disk a)) moments).others (key_of j.sections s)
          (λ x. (let one : s ≡ x.0 = key_injective j.sections.partition s x.0 (number s (inl (subst (λ o. IsSome o) (sym was) refl))) (number x.0 x.1.0) x.2 in omega (arith, one, stays, x.1.1)))),
    )
  ]

pub gone_bytes : {F S : Type 0} {gs : _} (k : Lists F (PageBlob S gs)) (e : Disk) (s : ℕ) → IsGone k.sections s → section_bytes k.sections e s ≡ []
gone_bytes k e s gone = λ i. bytes_held (gone.held i) (e (key_of k.sections s)).content
