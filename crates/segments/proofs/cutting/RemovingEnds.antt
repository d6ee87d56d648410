-- How removing sections of a fixed journal ends.
use Rattle.std.proofs.Common.{◌≡◌, ℕ, ◌<◌, ◌≤◌, Bool, false, List, Result, Ok, Err, sym, subst}
use Rattle.blob_device.specs.declared.device.Device as device
use Rattle.blob_device.specs.Timeline.{disk}
use Rattle.blob_device.specs.lemmas.Moments.{always_now}
use Rattle.sealed_pages.specs.declared.page_blob.PageBlob.{PageBlob}
use Rattle.section_manager.specs.Setting.{Setting}
use Rattle.section_manager.specs.declared.buffer.SectionBuffer as buffer
use Rattle.section_manager.specs.declared.journal.Error.{Error}
use Rattle.section_manager.specs.managing.Removing as sections
use Rattle.section_manager.specs.lemmas.Seen.{failed_again}
use Rattle.segments.specs.FixedLists.{Lists, IsJournal}
use Rattle.segments.specs.FixedRemoving.{Clears, Prunes}
use Rattle.segments.proofs.cutting.RemoveLemmas.{journal_cleared, journal_pruned, pruned_bytes}

module _ {F S D : Type 0} {gs : _} (g : buffer.Ghosts (PageBlob S gs)) (gives : F → Setting) (seal : List ℕ → ℕ) (size : ℕ) (dev : device.Ghosts D) (j : Lists F (PageBlob S gs)) (old new : D) where
  module _ (least : ℕ) where
    -- a removal failed
    pub prune_failed : (r : Result (Lists F (PageBlob S gs) × Bool) Error) (e : Error) → r ≡ Err e → sections.Prunes g gives dev j.sections least old new (Err e)
        → Prunes j g gives seal size least dev r old new
    prune_failed r e is did = subst (λ (x : Result (Lists F (PageBlob S gs) × Bool) Error). Prunes j g gives seal size least dev x old new) (sym is) (record {
      over = tt;
      removed = tt;
      kept = tt;
      spares = λ t. tt;
      place = tt;
      ceiling = tt;
      flag = tt;
      floor = tt;
      same_floor = tt;
      recovered = tt;
      unrecovered = tt;
      lifted = tt;
      floors = tt;
      moments = did.moments;
      gone = λ t. tt;
      idle = did.idle;
      entries = did.entries;
      faults = did.faults;
      cause = failed_again e (dev.faults old) (dev.faults new) did.cause;
    })

    -- they were removed, and no note is kept of them
    module _ (k : Lists F (PageBlob S gs)) (was : Bool) (journal : IsJournal g gives seal size dev.Tells j (dev.opened old) (disk (dev.time old)))
        (did : sections.Prunes g gives dev j.sections least old new (Ok (k.sections, was))) where
      pub pruned_all : ((s : ℕ) → s < least → k.unrecovered s ≡ false) → ((s : ℕ) → least ≤ s → k.unrecovered s ≡ j.unrecovered s) → ((s : ℕ) → s < least → k.floor_of s ≡ 0)
          → ((s : ℕ) → least ≤ s → k.floor_of s ≡ j.floor_of s) → Prunes j g gives seal size least dev (Ok (k, was)) old new
      pruned_all below above lifted floors = record {
        over = journal_pruned g gives seal size dev.Tells k (dev.opened new) (disk (dev.time new)) did.over j least (dev.opened old) (disk (dev.time old)) journal did.removed did.kept did.place did.ceiling below above floors
            (λ t. (always_now (dev.time old) (dev.time new) _ (did.moments t)).others);
        removed = did.removed;
        kept = did.kept;
        spares = pruned_bytes g gives seal size dev.Tells k (dev.opened new) (disk (dev.time new)) did.over j least (dev.opened old) (disk (dev.time old)) journal did.removed did.kept did.place
            (λ t. (always_now (dev.time old) (dev.time new) _ (did.moments t)).others);
        place = did.place;
        ceiling = did.ceiling;
        flag = did.flag;
        floor = did.floor;
        same_floor = did.same_floor;
        recovered = below;
        unrecovered = above;
        lifted = lifted;
        floors = floors;
        moments = did.moments;
        gone = did.gone;
        idle = did.idle;
        entries = did.entries;
        faults = did.faults;
        cause = tt;
      }

  -- a removal failed
  pub clear_failed : (r : Result (Lists F (PageBlob S gs)) Error) (e : Error) → r ≡ Err e → sections.Clears g gives dev j.sections old new (Err e) → Clears j g gives seal size dev r old new
  clear_failed r e is did = subst (λ (x : Result (Lists F (PageBlob S gs)) Error). Clears j g gives seal size dev x old new) (sym is) (record {
    over = tt;
    removed = tt;
    recovered = tt;
    lifted = tt;
    place = tt;
    floor = tt;
    ceiling = tt;
    moments = did.moments;
    gone = λ t. tt;
    gone_all = λ t. tt;
    entries = did.entries;
    faults = did.faults;
    cause = failed_again e (dev.faults old) (dev.faults new) did.cause;
  })

  -- all were removed
  pub cleared_all : (k : Lists F (PageBlob S gs)) → sections.Clears g gives dev j.sections old new (Ok k.sections) → ((s : ℕ) → k.unrecovered s ≡ false) → ((s : ℕ) → k.floor_of s ≡ 0)
      → Clears j g gives seal size dev (Ok k) old new
  cleared_all k did none lifted = record {
    over = journal_cleared g gives seal size dev.Tells k (dev.opened new) (disk (dev.time new)) did.over did.removed none;
    removed = did.removed;
    recovered = none;
    lifted = lifted;
    place = did.place;
    floor = did.floor;
    ceiling = did.ceiling;
    moments = did.moments;
    gone = did.gone;
    gone_all = did.gone_all;
    entries = did.entries;
    faults = did.faults;
    cause = tt;
  }
