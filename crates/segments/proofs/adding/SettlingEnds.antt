-- How settling sections of a fixed journal ends.
use Rattle.std.proofs.Common.{◌≡◌, ◌⊎◌, inl, inr, ℕ, List, Result, Ok, Err, sym, subst}
use Rattle.blob_device.specs.declared.device.Device as device
use Rattle.blob_device.specs.Timeline.{disk}
use Rattle.sealed_pages.specs.declared.page_blob.PageBlob.{PageBlob}
use Rattle.section_manager.specs.Setting.{Setting}
use Rattle.section_manager.specs.declared.buffer.SectionBuffer as buffer
use Rattle.section_manager.specs.declared.journal.Error.{Error}
use Rattle.section_manager.specs.managing.Settling as sections
use Rattle.section_manager.specs.lemmas.Seen.{err_same, failed_again}
use Rattle.segments.specs.FixedLists.{Lists, IsJournal}
use Rattle.segments.specs.FixedSettling.{Settles}
use Rattle.segments.specs.lemmas.adding.Write.{ArePages}
use Rattle.segments.specs.lemmas.held.Passing.{guard_ok}
use Rattle.segments.proofs.adding.WriteLemmas.{is_settled, settling_of, synced_bytes, synced_journal}

module _ {F S D : Type 0} {gs : _} (g : buffer.Ghosts (PageBlob S gs)) (gives : F → Setting) (seal : List ℕ → ℕ) (size : ℕ) (dev : device.Ghosts D) (j : Lists F (PageBlob S gs)) (IsNamed : ℕ → Type 0) (IsBelow : Type 0) (old new : D) where
  -- the same error, of another call's answer
  pub settles_as : (r : Result (Lists F (PageBlob S gs)) Error) (e : Error) → r ≡ Err e → Settles g gives seal size dev j IsNamed IsBelow (Err e) old new
      → Settles g gives seal size dev j IsNamed IsBelow r old new
  settles_as r e is has = subst (λ (x : Result (Lists F (PageBlob S gs)) Error). Settles g gives seal size dev j IsNamed IsBelow x old new) (sym is) has

  module _ (pages : ArePages g seal) (journal : IsJournal g gives seal size dev.Tells j (dev.opened old) (disk (dev.time old))) where
    -- the sections' buffers failed
    pub settle_failed : (r : Result (Lists F (PageBlob S gs)) Error) (e : Error) → r ≡ Err e → sections.Settles g gives dev j.sections IsNamed IsBelow old new (Err e)
        → Settles g gives seal size dev j IsNamed IsBelow r old new
    settle_failed r e is did = settles_as r e is (record {
      over = tt;
      named = tt;
      none = tt;
      others = tt;
      unopened = tt;
      spares = λ t. tt;
      bounds = tt;
      unrecovered = tt;
      floors = tt;
      moments = λ t. settling_of seal size dev.Tells g pages gives j (dev.opened old) (dev.time old) (dev.time new) IsNamed journal t (did.moments t);
      idle = λ none. did.idle (λ s u named held. is_settled g (j.sections.held s) u held (none s named));
      entries = did.entries;
      guard = (λ pruned. did.guard.0 (err_same pruned), λ below. err_same (did.guard.1 below));
      refuses = did.refuses;
      faults = did.faults;
      cause = elim did.cause [ inl pruned ↦ inl (err_same pruned) | inr failed ↦ inr (failed_again e (dev.faults old) (dev.faults new) failed) ];
    })

    -- they were settled
    pub settled_all : (k : Lists F (PageBlob S gs)) → ((s : ℕ) → IsNamed s ⊎ (IsNamed s → ⊥)) → sections.Settles g gives dev j.sections IsNamed IsBelow old new (Ok k.sections)
        → ((s : ℕ) → k.unrecovered s ≡ j.unrecovered s) → ((s : ℕ) → k.floor_of s ≡ j.floor_of s) → Settles g gives seal size dev j IsNamed IsBelow (Ok k) old new
    settled_all k decides did owes floors = record {
      over = synced_journal seal size dev.Tells g pages gives j (dev.opened old) (dev.time old) (dev.time new) IsNamed journal k (dev.opened new) decides did.over did.named did.none did.others did.unopened did.bounds owes floors did.moments;
      named = did.named;
      none = did.none;
      others = did.others;
      unopened = did.unopened;
      spares = synced_bytes seal size dev.Tells g pages gives j (dev.opened old) (dev.time old) (dev.time new) IsNamed journal k (dev.opened new) decides did.over did.named did.none did.others did.unopened did.bounds owes floors did.moments;
      bounds = did.bounds;
      unrecovered = owes;
      floors = floors;
      moments = λ t. settling_of seal size dev.Tells g pages gives j (dev.opened old) (dev.time old) (dev.time new) IsNamed journal t (did.moments t);
      idle = λ none. did.idle (λ s u named held. is_settled g (j.sections.held s) u held (none s named));
      entries = did.entries;
      guard = guard_ok k k.sections j.sections.floor IsBelow did.guard;
      refuses = did.refuses;
      faults = did.faults;
      cause = tt;
    }
