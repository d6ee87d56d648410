-- What stays unflushed of a glob's section behind an append.
use Rattle.std.proofs.Common.{◌≡◌, ◌∙◌, inl, inr, ℕ, false, not, length, None, Some, sym, ap}
use Rattle.std.proofs.lemmas.Bool.{or_parts, not-false}
use Rattle.sealed_pages.specs.declared.write_blob.WriteBlob.{WriteBlob}
use Rattle.sealed_pages.specs.Tails.{tail_after, run_at_end, LeavesPending}
use Rattle.sealed_pages.specs.unsealed.Writing.{shown, is_idle, StandsBehind}
use Rattle.sealed_pages.specs.lemmas.unsealed.Tails.{end_behind}
use Rattle.sealed_pages.specs.lemmas.unsealed.Writing.{idle_parts}
use Rattle.section_manager.specs.declared.unsealed.WriteFactory.{WriteFactory}
use Rattle.section_manager.specs.Sections.{Sections}
use Rattle.section_manager.specs.unsealed.Buffer.{is_unsettled}
use Rattle.paired.specs.glob.Sections.{pending_held, pending_size}
use Rattle.paired.specs.Tails.{IsTailAfter}
use Rattle.blob_device.proofs.general.Options.{none_or_value}

-- a buffer of which all has settled has an empty run
settled_run : (u : WriteBlob) → is_unsettled u ≡ false → length u.pending.items ≡ 0
settled_run u idle = ap length (idle_parts (shown u) (not-false (is_idle (shown u)) (or_parts u.dirty (not (is_idle (shown u))) idle).1)).0

module _ (m : Sections WriteFactory WriteBlob) (s : ℕ) (w : WriteBlob) (same : (u : WriteBlob) → m.held s ≡ Some u → w ≡ u) (idle : m.held s ≡ None → is_unsettled w ≡ false)
    (behind : (u : WriteBlob) → m.held s ≡ Some u → StandsBehind (shown u)) where
  -- an append joins all that the section has pending; a buffer that was made has nothing
  taken_run : run_at_end (shown w) ≡ pending_size m s
  taken_run = elim (none_or_value (m.held s)) [
    | inl none ↦ end_behind (shown w) (inr (settled_run w (idle none))) ∙ settled_run w (idle none) ∙ sym (ap pending_held none)
    | inr u ↦ ap (λ (x : WriteBlob). run_at_end (shown x)) (same u.0 u.1) ∙ end_behind (shown u.0) (behind u.0 u.1) ∙ sym (ap pending_held u.1)
  ]

  pub appended_tail : (n : Sections WriteFactory WriteBlob) (v : WriteBlob) (added size : ℕ) → n.held s ≡ Some v → w.capacity ≡ m.factory.capacity → added ≡ size → LeavesPending (shown w) added (shown v) → IsTailAfter m s size n
  appended_tail n v added size put capacity long left = ap pending_held put ∙ left ∙ (λ i. tail_after (capacity i) (taken_run i) (long i))
