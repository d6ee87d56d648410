-- A glob whose sections are removed: what its calls owe, from what the manager's say.
use Rattle.std.proofs.Common.{◌≡◌, ◌<◌, ◌^◌, ℕ, Bool, Result, Ok, Err, refl, sym, subst, arith}
use Rattle.std.specs.Prelude.{IsSome}
use Rattle.blob_device.specs.lemmas.Moments.{always_now}
use Rattle.blob_device.specs.Timeline.{disk}
use Rattle.blob_device.specs.declared.device.Device as device
use Rattle.section_manager.specs.contracts.unsealed.WriteBlobSectionBuffer.TheImpl as buffer
use Rattle.section_manager.specs.contracts.unsealed.WriteFactoryBufferFactory.TheImpl as factory
use Rattle.section_manager.specs.declared.journal.Error.{Error}
use Rattle.sealed_pages.specs.declared.write_blob.WriteBlob.{WriteBlob}
use Rattle.section_manager.specs.declared.unsealed.WriteFactory.{WriteFactory}
use Rattle.section_manager.specs.Sections.{Sections}
use Rattle.section_manager.specs.managing.Removing as managing
use Rattle.segments.specs.lemmas.held.Passing.{failed_on, pruned_on, no_error}
use Rattle.paired.proofs.pair.Pruned.{pruned_as}
use Rattle.paired.specs.glob.Removes.{PrunesGlob, RemovesSection}
use Rattle.paired.specs.glob.Shown.{Shown, IsGlobOn}
use Rattle.paired.proofs.CallLemmas.{none_from, prune_glob, kept_bytes, pruned_gone}
use Rattle.paired.specs.lemmas.Glob.{glob_one, other_bytes}

module _ {D C T : Type 0} (dev : device.Ghosts D) (g : Shown C) (old new : D) (see : T → Shown C) (was : T → Bool) where
  module _ (least : ℕ) where
    -- the manager failed
    pub prune_failed : (e : Error) (r : Result T Error) → r ≡ Err e → managing.Prunes buffer.ghosts factory.ghosts.gives dev g.sections least old new (Err e)
        → PrunesGlob dev g old new see least was r
    prune_failed e r is says = subst (λ (x : Result T Error). PrunesGlob dev g old new see least was x) (sym is) (record {
      over = tt;
      removed = tt;
      kept = tt;
      bytes = λ t. tt;
      place = tt;
      ceiling = tt;
      codec_config = tt;
      flag = tt;
      floor = tt;
      same_floor = tt;
      moments = says.moments;
      gone = λ t. tt;
      gone_all = λ t. tt;
      idle = says.idle;
      entries = says.entries;
      faults = says.faults;
      cause = failed_on {U = Sections WriteFactory WriteBlob × Bool} (Err e) e (dev.faults old) (dev.faults new) refl says.cause;
    })

    -- the sections are removed
    pub pruned : IsGlobOn dev g.sections old → least < 2 ^ 64 → (v : T)
        → managing.Prunes buffer.ghosts factory.ghosts.gives dev g.sections least old new (Ok ((see v).sections, was v))
        → (see v).codec_config ≡ g.codec_config → PrunesGlob dev g old new see least was (Ok v)
    pruned over fits v says same =
        let m = g.sections in
        let n = (see v).sections in
        let none = none_from m n least says.removed says.kept in
        record {
          over = prune_glob _ m n _ _ (disk (dev.time old)) (disk (dev.time new)) over says.over says.place.partition none least says.removed says.kept (λ t. always_now _ _ _ (says.moments t)) says.ceiling;
          removed = says.removed;
          kept = says.kept;
          bytes = kept_bytes _ m n _ _ (disk (dev.time old)) (disk (dev.time new)) over says.over says.place.partition none least says.removed says.kept (λ t. always_now _ _ _ (says.moments t));
          place = says.place;
          ceiling = says.ceiling;
          codec_config = same;
          flag = says.flag;
          floor = says.floor;
          same_floor = says.same_floor;
          moments = says.moments;
          gone = λ t s below. pruned_gone _ m n _ _ (disk (dev.time old)) (disk (dev.time new)) over says.over says.place.partition none least says.removed says.kept (λ t. always_now _ _ _ (says.moments t)) t s (omega (arith, below, fits)) below;
          gone_all = says.gone;
          idle = says.idle;
          entries = says.entries;
          faults = says.faults;
          cause = tt;
        }

  module _ (section : ℕ) where
    -- the manager refused, or failed
    pub remove_failed : (e : Error) (r : Result T Error) → r ≡ Err e → managing.RemovesOne buffer.ghosts factory.ghosts.gives dev g.sections section old new (Err e)
        → RemovesSection dev g old new see section was r
    remove_failed e r is says = subst (λ (x : Result T Error). RemovesSection dev g old new see section was x) (sym is) (record {
      over = tt;
      removed = tt;
      others = tt;
      bytes = λ t. tt;
      unopened = tt;
      bounds = tt;
      codec_config = tt;
      flag = tt;
      moments = says.moments;
      gone = λ t held. tt;
      absent = says.absent;
      entries = says.entries;
      guard = pruned_as {U = Sections WriteFactory WriteBlob × Bool} (Err e) e g.sections.floor _ refl says.guard;
      refuses = says.refuses;
      faults = says.faults;
      cause = pruned_on {U = Sections WriteFactory WriteBlob × Bool} (Err e) e g.sections.floor (dev.faults old) (dev.faults new) refl says.cause;
    })

    -- the section is removed
    pub section_removed : IsGlobOn dev g.sections old → section < 2 ^ 64 → (v : T)
        → managing.RemovesOne buffer.ghosts factory.ghosts.gives dev g.sections section old new (Ok ((see v).sections, was v))
        → (see v).codec_config ≡ g.codec_config → RemovesSection dev g old new see section was (Ok v)
    section_removed over fits v says same =
        let m = g.sections in
        let n = (see v).sections in
        record {
          over = glob_one _ m _ _ over n _ (disk (dev.time new)) section says.over says.bounds says.others fits (λ t. (always_now _ _ _ (says.moments t)).others)
              (λ u held. absurd (cc (held, says.removed)))
              (λ t some. omega (arith, says.bounds.ceiling, over.unopened t section (subst IsSome says.unopened some)));
          removed = says.removed;
          others = says.others;
          bytes = other_bytes _ m _ _ over n _ (disk (dev.time new)) section says.over says.bounds says.others fits (λ t. (always_now _ _ _ (says.moments t)).others);
          unopened = says.unopened;
          bounds = says.bounds;
          codec_config = same;
          flag = says.flag;
          moments = says.moments;
          gone = says.gone;
          absent = says.absent;
          entries = says.entries;
          guard = (λ pruned. absurd (no_error _ _ pruned), λ below. absurd (no_error _ _ (says.guard.1 below)));
          refuses = says.refuses;
          faults = says.faults;
          cause = tt;
        }
