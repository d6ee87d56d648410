-- What stays unflushed of a fixed journal's section behind an append.
use Rattle.std.proofs.Common.{◌≡◌, ◌∙◌, inl, inr, ℕ, false, Option, None, Some, sym, ap, arith}
use Rattle.sealed_pages.specs.declared.page_blob.PageBlob.{PageBlob}
use Rattle.sealed_pages.specs.Shown.{shown}
use Rattle.sealed_pages.specs.Tails.{tail_of, tail_after, LeavesTail}
use Rattle.section_manager.specs.declared.sealed.AppendFactory.{AppendFactory}
use Rattle.section_manager.specs.Sealed.{is_unsettled}
use Rattle.section_manager.specs.SealedLaws.{all_settled}
use Rattle.section_manager.specs.Sections.{Sections}
use Rattle.segments.specs.Tails.{tail_held, tail_size, IsTailAfter}
use Rattle.blob_device.proofs.general.Options.{none_or_value}

module _ {S : Type 0} {gs : _} where
  -- a buffer of which all has settled has nothing left to flush
  settled_tail : (u : PageBlob S gs) → is_unsettled (shown u) ≡ false → tail_of (shown u) ≡ 0
  settled_tail u idle = omega (arith, u.fit.within, u.order, all_settled (shown u) idle)

  module _ (m : Sections (AppendFactory S) (PageBlob S gs)) (s : ℕ) (w : PageBlob S gs) (same : (u : PageBlob S gs) → m.held s ≡ Some u → w ≡ u) (idle : m.held s ≡ None → is_unsettled (shown w) ≡ false) where
    -- the buffer that was taken has the section's tail; one that was made has none
    taken_tail : tail_of (shown w) ≡ tail_size m s
    taken_tail = elim (none_or_value (m.held s)) [
      | inl none ↦ settled_tail w (idle none) ∙ sym (ap (λ (o : Option (PageBlob S gs)). tail_held o) none)
      | inr u ↦ ap (λ (x : PageBlob S gs). tail_of (shown x)) (same u.0 u.1) ∙ sym (ap (λ (o : Option (PageBlob S gs)). tail_held o) u.1)
    ]

    pub appended_tail : (n : Sections (AppendFactory S) (PageBlob S gs)) (v : PageBlob S gs) (added size : ℕ) → n.held s ≡ Some v → w.capacity ≡ m.factory.write_buffer → added ≡ size → LeavesTail (shown w) added (shown v) → IsTailAfter m s size n
    appended_tail n v added size put capacity long left = ap (λ (o : Option (PageBlob S gs)). tail_held o) put ∙ left ∙ (λ i. tail_after (capacity i) (taken_tail i) (long i))
