-- A glob whose sections are settled: what its calls owe, from what the manager's say.
use Rattle.std.proofs.Common.{◌≡◌, ◌⊎◌, ℕ, Result, Ok, Err, refl, sym, subst}
use Rattle.blob_device.specs.lemmas.Moments.{always_now}
use Rattle.blob_device.specs.Timeline.{disk}
use Rattle.blob_device.specs.declared.device.Device as device
use Rattle.section_manager.specs.contracts.unsealed.WriteBlobSectionBuffer.TheImpl as buffer
use Rattle.section_manager.specs.contracts.unsealed.WriteFactoryBufferFactory.TheImpl as factory
use Rattle.section_manager.specs.declared.journal.Error.{Error}
use Rattle.sealed_pages.specs.declared.write_blob.WriteBlob.{WriteBlob}
use Rattle.section_manager.specs.declared.unsealed.WriteFactory.{WriteFactory}
use Rattle.section_manager.specs.Sections.{Sections}
use Rattle.section_manager.specs.managing.Settling.{Settles}
use Rattle.segments.specs.lemmas.held.Passing.{pruned_on, no_error}
use Rattle.paired.proofs.pair.Pruned.{pruned_as}
use Rattle.paired.specs.glob.Shown.{Shown, IsGlobOn}
use Rattle.paired.specs.glob.Syncs.{SyncsGlob}
use Rattle.paired.proofs.CallLemmas.{sync_glob, sync_bytes, sync_settled, sync_all}
use Rattle.paired.proofs.StepLemmas.{settling_moments, same_unopened, none_unsettled}

module _ {D C T : Type 0} (dev : device.Ghosts D) (g : Shown C) (old new : D) (see : T → Shown C) (IsNamed : ℕ → Type 0) (IsBelow : Type 0) (over : IsGlobOn dev g.sections old) where
  -- the manager refused, or failed
  pub sync_failed : (e : Error) (r : Result T Error) → r ≡ Err e → Settles buffer.ghosts factory.ghosts.gives dev g.sections IsNamed IsBelow old new (Err e)
      → SyncsGlob dev g old new see IsNamed IsBelow r
  sync_failed e r is says = subst (λ (x : Result T Error). SyncsGlob dev g old new see IsNamed IsBelow x) (sym is) (record {
    over = tt;
    bytes = λ t. tt;
    settled = λ t. tt;
    all_settled = tt;
    named = tt;
    none = tt;
    others = tt;
    unopened = tt;
    bounds = tt;
    codec_config = tt;
    moments = λ t. settling_moments _ g.sections _ (dev.time old) (dev.time new) over t IsNamed (says.moments t);
    idle = λ none. says.idle (λ s u is held. none_unsettled g.sections s u held (none s is));
    entries = says.entries;
    reads = says.reads (λ no. no);
    guard = pruned_as {U = Sections WriteFactory WriteBlob} (Err e) e g.sections.floor _ refl says.guard;
    refuses = says.refuses;
    faults = says.faults;
    cause = pruned_on {U = Sections WriteFactory WriteBlob} (Err e) e g.sections.floor (dev.faults old) (dev.faults new) refl says.cause;
  })

  -- the sections have settled
  pub synced : ((s : ℕ) → IsNamed s ⊎ (IsNamed s → ⊥)) → (v : T) → Settles buffer.ghosts factory.ghosts.gives dev g.sections IsNamed IsBelow old new (Ok (see v).sections)
      → (see v).codec_config ≡ g.codec_config → SyncsGlob dev g old new see IsNamed IsBelow (Ok v)
  synced named_or_not v says same =
      let m = g.sections in
      let n = (see v).sections in
      record {
        over = sync_glob _ m n _ _ _ (disk (dev.time new)) over says.over says.bounds.place.partition says.none IsNamed named_or_not says.named says.others (λ t. always_now _ _ _ (says.moments t)) (same_unopened _ m n _ _ over says.bounds.ceiling says.unopened);
        bytes = sync_bytes _ m n _ _ _ (disk (dev.time new)) over says.over says.bounds.place.partition says.none IsNamed named_or_not says.named says.others (λ t. always_now _ _ _ (says.moments t));
        settled = sync_settled _ m n _ _ _ (disk (dev.time new)) over says.over says.bounds.place.partition says.none IsNamed named_or_not says.named says.others (λ t. always_now _ _ _ (says.moments t));
        all_settled = sync_all _ m n _ _ _ (disk (dev.time new)) over says.over says.bounds.place.partition says.none IsNamed named_or_not says.named says.others (λ t. always_now _ _ _ (says.moments t));
        named = says.named;
        none = says.none;
        others = says.others;
        unopened = says.unopened;
        bounds = says.bounds;
        codec_config = same;
        moments = λ t. settling_moments _ m _ (dev.time old) (dev.time new) over t IsNamed (says.moments t);
        idle = λ none. says.idle (λ s u is held. none_unsettled m s u held (none s is));
        entries = says.entries;
        reads = says.reads (λ no. no);
        guard = (λ pruned. absurd (no_error _ _ pruned), λ below. absurd (no_error _ _ (says.guard.1 below)));
        refuses = says.refuses;
        faults = says.faults;
        cause = tt;
      }
