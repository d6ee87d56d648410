-- A glob under recovery whose sections are shortened: what its calls owe, from what the manager's say.
use Rattle.std.proofs.Common.{◌≡◌, ◌≤◌, ◌<◌, ◌^◌, ℕ, Option, Result, Ok, Err, refl, sym, subst}
use Rattle.blob_device.specs.lemmas.Moments.{always_now}
use Rattle.blob_device.specs.Timeline.{disk}
use Rattle.blob_device.specs.declared.device.Device as device
use Rattle.section_manager.specs.contracts.unsealed.WriteBlobSectionBuffer.TheImpl as buffer
use Rattle.section_manager.specs.contracts.unsealed.WriteFactoryBufferFactory.TheImpl as factory
use Rattle.section_manager.specs.declared.journal.Error.{Error}
use Rattle.section_manager.specs.declared.unsealed.WriteFactory.{WriteFactory}
use Rattle.section_manager.specs.managing.Cutting as managing
use Rattle.section_manager.specs.Sections.{Sections}
use Rattle.sealed_pages.specs.declared.write_blob.WriteBlob.{WriteBlob}
use Rattle.segments.specs.lemmas.held.Passing.{no_error}
use Rattle.paired.proofs.pair.Pruned.{pruned_as}
use Rattle.paired.specs.glob.Cuts.{TruncatesGlob, CutsSection, CutsSections}
use Rattle.paired.specs.glob.Shown.{Shown, IsGlobOn}
use Rattle.paired.proofs.CallLemmas.{none_after, none_each, truncate_glob, earlier_bytes, cut_glob, cuts_glob, uncut_bytes, one_bytes, one_settled, one_all}
use Rattle.paired.proofs.FailLemmas.{undamaged}
use Rattle.paired.specs.lemmas.Glob.{other_bytes}
use Rattle.paired.proofs.StepLemmas.{truncating_moments, one_moments, cutting_moments, same_unopened}

module _ {D C T : Type 0} (dev : device.Ghosts D) (g : Shown C) (old new : D) (see : T → Shown C) (over : IsGlobOn dev g.sections old) where
  module _ (section n : ℕ) where
    -- the manager refused, or failed
    pub cut_behind_failed : (e : Error) (r : Result T Error) → r ≡ Err e → managing.CutsBehind buffer.ghosts factory.ghosts.gives dev g.sections section n old new (Err e)
        → TruncatesGlob dev g old new see section n r
    cut_behind_failed e r is says = subst (λ (x : Result T Error). TruncatesGlob dev g old new see section n x) (sym is) (record {
      over = tt;
      later = tt;
      earlier = tt;
      earlier_bytes = λ t. tt;
      bytes = λ t. tt;
      settled = λ t. tt;
      all_settled = tt;
      cut = tt;
      absent = tt;
      unopened = tt;
      place = tt;
      floor = tt;
      lifted = tt;
      codec_config = tt;
      moments = λ t. truncating_moments _ g.sections _ (dev.time old) (dev.time new) over t section n (says.moments t);
      gone = λ t. tt;
      idle = says.idle;
      entries = says.entries;
      reads = says.reads (λ no. no);
      guard = pruned_as {U = Sections WriteFactory WriteBlob} (Err e) e g.sections.floor _ refl says.guard;
      refuses = says.refuses;
      faults = says.faults;
      cause = undamaged {T = T} {U = Sections WriteFactory WriteBlob} (Err e) e g.sections.floor (dev.faults old) (dev.faults new) refl (says.damage_unread (λ no. no)) says.cause;
    })

    -- the later sections are removed, and this one is shortened
    pub cut_behind : section ≤ g.sections.ceiling → (v : T) → managing.CutsBehind buffer.ghosts factory.ghosts.gives dev g.sections section n old new (Ok (see v).sections)
        → (see v).codec_config ≡ g.codec_config → TruncatesGlob dev g old new see section n (Ok v)
    cut_behind below v says same =
        let m = g.sections in
        let k = (see v).sections in
        let none = none_after m k section says.later says.earlier says.absent in
        record {
          over = truncate_glob _ m k _ _ _ (disk (dev.time new)) over says.over says.place.partition none section n says.later says.earlier says.cut (λ t. always_now _ _ _ (says.moments t)) below says.unopened;
          later = says.later;
          earlier = says.earlier;
          earlier_bytes = earlier_bytes _ m k _ _ _ (disk (dev.time new)) over says.over says.place.partition none section n says.later says.earlier says.cut (λ t. always_now _ _ _ (says.moments t));
          bytes = one_bytes _ m k _ _ _ (disk (dev.time new)) over says.over says.place.partition none section n says.cut;
          settled = one_settled _ m k _ _ _ (disk (dev.time new)) over says.over says.place.partition none section n says.cut;
          all_settled = one_all _ m k _ _ _ (disk (dev.time new)) over says.over says.place.partition none section n says.cut;
          cut = says.cut;
          absent = says.absent;
          unopened = says.unopened;
          place = says.place;
          floor = says.floor;
          lifted = says.lifted;
          codec_config = same;
          moments = λ t. truncating_moments _ g.sections _ (dev.time old) (dev.time new) over t section n (says.moments t);
          gone = says.gone;
          idle = says.idle;
          entries = says.entries;
          reads = says.reads (λ no. no);
          guard = (λ pruned. absurd (no_error _ _ pruned), λ below. absurd (no_error _ _ (says.guard.1 below)));
          refuses = says.refuses;
          faults = says.faults;
          cause = tt;
        }

    -- the manager refused, or failed
    pub cut_section_failed : (e : Error) (r : Result T Error) → r ≡ Err e → managing.CutsOne buffer.ghosts factory.ghosts.gives dev g.sections section n (section < g.sections.floor) old new (Err e)
        → CutsSection dev g old new see section n r
    cut_section_failed e r is says = subst (λ (x : Result T Error). CutsSection dev g old new see section n x) (sym is) (record {
      over = tt;
      bytes = λ t. tt;
      other_bytes = λ t. tt;
      settled = λ t. tt;
      all_settled = tt;
      cut = tt;
      absent = tt;
      unopened = tt;
      others = tt;
      bounds = tt;
      codec_config = tt;
      moments = λ t. one_moments _ g.sections _ (dev.time old) (dev.time new) over t section n (says.moments t);
      idle = says.idle;
      entries = says.entries;
      reads = says.reads (λ no. no);
      guard = pruned_as {U = Sections WriteFactory WriteBlob} (Err e) e g.sections.floor _ refl says.guard;
      refuses = says.refuses;
      faults = says.faults;
      cause = undamaged {T = T} {U = Sections WriteFactory WriteBlob} (Err e) e g.sections.floor (dev.faults old) (dev.faults new) refl (says.damage_unread (λ no. no)) says.cause;
    })

    -- the section is shortened
    pub section_cut : section < 2 ^ 64 → (v : T) → managing.CutsOne buffer.ghosts factory.ghosts.gives dev g.sections section n (section < g.sections.floor) old new (Ok (see v).sections)
        → (see v).codec_config ≡ g.codec_config → CutsSection dev g old new see section n (Ok v)
    section_cut fits v says same =
        let m = g.sections in
        let k = (see v).sections in
        let none = none_each m k section says.absent says.others in
        record {
          over = cut_glob _ m k _ _ _ (disk (dev.time new)) over says.over says.bounds.place.partition none section n says.cut says.bounds says.others fits (λ t. (always_now _ _ _ (says.moments t)).others) says.unopened;
          bytes = one_bytes _ m k _ _ _ (disk (dev.time new)) over says.over says.bounds.place.partition none section n says.cut;
          other_bytes = other_bytes _ m _ _ over k _ (disk (dev.time new)) section says.over says.bounds says.others fits (λ t. (always_now _ _ _ (says.moments t)).others);
          settled = one_settled _ m k _ _ _ (disk (dev.time new)) over says.over says.bounds.place.partition none section n says.cut;
          all_settled = one_all _ m k _ _ _ (disk (dev.time new)) over says.over says.bounds.place.partition none section n says.cut;
          cut = says.cut;
          absent = says.absent;
          unopened = says.unopened;
          others = says.others;
          bounds = says.bounds;
          codec_config = same;
          moments = λ t. one_moments _ g.sections _ (dev.time old) (dev.time new) over t section n (says.moments t);
          idle = says.idle;
          entries = says.entries;
          reads = says.reads (λ no. no);
          guard = (λ pruned. absurd (no_error _ _ pruned), λ below. absurd (no_error _ _ (says.guard.1 below)));
          refuses = says.refuses;
          faults = says.faults;
          cause = tt;
        }

  module _ (size_of : ℕ → Option ℕ) where
    -- the manager refused, or failed
    pub cut_each_failed : (e : Error) (r : Result T Error) → r ≡ Err e → managing.CutsEach buffer.ghosts factory.ghosts.gives dev g.sections size_of old new (Err e)
        → CutsSections dev g old new see size_of r
    cut_each_failed e r is says = subst (λ (x : Result T Error). CutsSections dev g old new see size_of x) (sym is) (record {
      over = tt;
      bytes = λ t. tt;
      other_bytes = λ t. tt;
      settled = λ t. tt;
      all_settled = tt;
      cut = tt;
      absent = tt;
      others = tt;
      unopened = tt;
      bounds = tt;
      codec_config = tt;
      moments = λ t. cutting_moments _ g.sections _ (dev.time old) (dev.time new) over t size_of (says.moments t);
      idle = says.idle;
      entries = says.entries;
      reads = says.reads (λ no. no);
      guard = pruned_as {U = Sections WriteFactory WriteBlob} (Err e) e g.sections.floor _ refl says.guard;
      refuses = says.refuses;
      faults = says.faults;
      cause = undamaged {T = T} {U = Sections WriteFactory WriteBlob} (Err e) e g.sections.floor (dev.faults old) (dev.faults new) refl (says.damage_unread (λ no. no)) says.cause;
    })

    -- the sections are shortened
    pub each_cut : (v : T) → managing.CutsEach buffer.ghosts factory.ghosts.gives dev g.sections size_of old new (Ok (see v).sections)
        → (see v).codec_config ≡ g.codec_config → CutsSections dev g old new see size_of (Ok v)
    each_cut v says same =
        let m = g.sections in
        let k = (see v).sections in
        record {
          over = cuts_glob _ m k _ _ _ (disk (dev.time new)) over says.over says.bounds.place.partition says.absent size_of says.cut says.others (λ t. always_now _ _ _ (says.moments t)) (same_unopened _ m k _ _ over says.bounds.ceiling says.unopened);
          bytes = λ t s n is. one_bytes _ m k _ _ _ (disk (dev.time new)) over says.over says.bounds.place.partition says.absent s n (λ u held. says.cut s n u is held) t;
          other_bytes = uncut_bytes _ m k _ _ _ (disk (dev.time new)) over says.over says.bounds.place.partition says.absent size_of says.cut says.others (λ t. always_now _ _ _ (says.moments t));
          settled = λ t s n is. one_settled _ m k _ _ _ (disk (dev.time new)) over says.over says.bounds.place.partition says.absent s n (λ u held. says.cut s n u is held) t;
          all_settled = λ s n is. one_all _ m k _ _ _ (disk (dev.time new)) over says.over says.bounds.place.partition says.absent s n (λ u held. says.cut s n u is held);
          cut = says.cut;
          absent = says.absent;
          others = says.others;
          unopened = says.unopened;
          bounds = says.bounds;
          codec_config = same;
          moments = λ t. cutting_moments _ g.sections _ (dev.time old) (dev.time new) over t size_of (says.moments t);
          idle = says.idle;
          entries = says.entries;
          reads = says.reads (λ no. no);
          guard = (λ pruned. absurd (no_error _ _ pruned), λ below. absurd (no_error _ _ (says.guard.1 below)));
          refuses = says.refuses;
          faults = says.faults;
          cause = tt;
        }
