-- What a prune promises, in the terms of a store that serves commands.
use Rattle.std.proofs.Common.{◌≡◌, ◌⊎◌, inl, inr, refl, sym, ◌∙◌, ap, subst, ℕ, ◌<◌, ◌≤◌, length, true, false, List, Some, None, Option, Result, Ok, Err, arith}
use Rattle.std.proofs.lemmas.Bool.{cases_lt}
use Rattle.blob_device.specs.Disk.{Disk}
use Rattle.blob_device.specs.Timeline.{disk}
use Rattle.blob_device.specs.declared.device.Device as device
use Rattle.blob_device.specs.declared.runtime.RError.TheVariants as runtime
use Rattle.meta_store.specs.Store.{contents_of}
use Rattle.meta_store.specs.declared.error.Error.TheVariants as metadata
use Rattle.section_manager.specs.declared.journal.Error.TheVariants as journal
use Rattle.section_manager.specs.declared.sealed.AppendFactory.{AppendFactory}
use Rattle.segments.specs.Tails.{tail_held}
use Rattle.sealed_pages.specs.declared.page_blob.PageBlob.{PageBlob}
use Rattle.paired.specs.glob.Sections as glob
use Rattle.paired.specs.Kept.{IsMarked, Markers}
use Rattle.archives.specs.Archives.{IsArchive}
use Rattle.archives.specs.Changes.{outcome}
use Rattle.archives.specs.Commands.{Prune}
use Rattle.archives.specs.Filing.{Filing}
use Rattle.archives.specs.Machine.{State, section_of}
use Rattle.archives.specs.Opening.{HasNoVersion}
use Rattle.archives.specs.Opens.{OfMarkers}
use Rattle.archives.specs.Prunable.{Prunable, Setup, filing_by}
use Rattle.archives.specs.Prunes.{IsDropping, IsPruneCause, IsRaising, Pruned, Prunes}
use Rattle.archives.specs.Putting.{record_tail, value_tail}
use Rattle.archives.specs.Replies as reply
use Rattle.archives.specs.declared.error.Error.{Error}
use Rattle.archives.specs.declared.error.Error.TheVariants.{Full, Journal, Mem, Metadata}
use Rattle.archive_service.specs.lemmas.Store.{Given, as_asked, rows_long_of, serving_by, st}
use Rattle.archives.specs.lemmas.Outlasts.{markers_are, markers_held}
use Rattle.archives.specs.lemmas.put.Sync.{filing_then}
use Rattle.archive_service.specs.Causes.{IsCause, IsCauseAnywhere, IsRaisedTo}
use Rattle.archive_service.specs.StoreCalls.{AnswerEnds, Answers}
use Rattle.archive_service.specs.PrunableKind.{HoldsPruned}
use Rattle.archive_service.specs.PrunableStore.{IsUsableStore, held_by, openable_serving}
use Rattle.archive_service.specs.declared.store.openable.Openable.TheVariants.{Open}
use Rattle.archive_service.proofs.StoreLemmas.{no_refusal, quiet_open}

module _ {A V S D : Type 0} {gs : _} (p : Prunable A V (AppendFactory S) (PageBlob S gs)) (setup : Setup V) (valid : Type 0) (dev : device.Ghosts D) (a : A) (old : D) (given : Given p setup valid dev a old) (bound : ℕ) where
  abbrev filing : Filing
  filing = filing_by p a

  abbrev from : Disk
  from = disk (dev.time old)

  abbrev was : State (List ℕ)
  was = st p setup valid dev a old given

  -- the start of the section of the bound
  abbrev start : ℕ
  start = section_of (p.see a).items bound

  -- ---- what the archive then is

  module _ (r : A) (new : D) (done : Pruned p dev a bound r new) where
    -- nothing is left to flush: of what is gone, and of the rest as before
    tails : dev.Tells → (s : ℕ) → (p.see r).is_written s ≡ false → (record_tail (p.see r) s ≡ 0) × (value_tail (p.see r) s ≡ 0)
    tails t s unwritten = elim (cases_lt s start) as (λ _. (record_tail (p.see r) s ≡ 0) × (value_tail (p.see r) s ≡ 0)) [
      | inl gone ↦ (let bare = done.below s gone in (ap index_tail bare.records, ap glob.pending_held bare.values))
      | inr stays ↦
          let same = done.others s stays in
          let none = given.usable.flushed t s (sym same.written ∙ unwritten) in
          (same.tails.0 ∙ none.0, same.tails.1 ∙ none.1)
    ]
      where
        index_tail : Option (PageBlob S gs) → ℕ
        index_tail o = tail_held o

    prune_usable : IsArchive (p.see r) p.buffers dev.Tells (dev.opened new) (disk (dev.time new)) → ((x : V) → p.Accepts a x → p.Accepts r x) → IsUsableStore p setup r dev.Tells (dev.opened new) (disk (dev.time new))
    prune_usable over accepts = record {
      usable = over;
      filing = filing_then setup.filing filing (filing_by p r) given.usable.filing done.filing;
      accepts = λ x allowed. accepts x (given.usable.accepts x allowed);
      write_buffer = ap (λ factory. factory.write_buffer) done.places.0.factory ∙ given.usable.write_buffer;
      value_buffer = ap (λ factory. factory.capacity) done.places.1.factory ∙ given.usable.value_buffer;
      flushed = tails;
    }

    prune_holds : IsArchive (p.see r) p.buffers dev.Tells (dev.opened new) (disk (dev.time new)) → dev.Tells → HoldsPruned filing setup.write_buffer setup.value_buffer (held_by p a) bound (held_by p r)
    prune_holds over t = record {
      is_open = refl;
      floor = done.floor;
      below = λ is s gone. (let bare = done.below s gone in record {
        rows = bare.rows;
        bytes = ap glob.size_held bare.values;
        synced = over.unwritten s (done.unwritten s gone) ∙ sym (rows_long_of p setup valid dev r new over t s) ∙ ap length bare.rows;
        record_tail = ap index_tail bare.records;
        value_tail = ap glob.pending_held bare.values;
      });
      others = λ s stays. (let same = done.others s (not_closed s stays) in record {
        rows = same.rows;
        bytes = same.values;
        synced = same.synced;
        record_tail = same.tails.0;
        value_tail = same.tails.1;
      });
    }
      where
        index_tail : Option (PageBlob S gs) → ℕ
        index_tail o = tail_held o

        not_closed : (s : ℕ) → (start ≤ s) ⊎ (true ≡ false) → start ≤ s
        not_closed s (inl le) = le
        not_closed s (inr shut) = cc shut

  -- ---- markers that have to go

  module _ (t : dev.Tells) where
    -- Over the disk, as in the archive, a section below the bound has a marker.
    abbrev HasLow : Type 0
    HasLow = OfMarkers filing from (λ markers. (s m : ℕ) × IsMarked markers.entries s m × (s < start))

    drops_there : IsDropping (p.see a) bound → IsRaisedTo (p.see a).items true (p.see a).floor bound × HasLow
    drops_there dropping = (
      (refl, dropping.0),
      (
        contents_of (p.see a).pair.store,
        markers_held filing.layout (p.see a).pair.store from given.partition given.marked (given.usable.usable.pair.disk t).markers,
        (let (s, m, below, marked) = dropping.1 in (s, m, marked, below)),
      ),
    )

    there_drops : IsRaisedTo (p.see a).items true (p.see a).floor bound × HasLow → IsDropping (p.see a) bound
    there_drops (raised, (markers, held, (s, m, marked, below))) =
        let same : markers ≡ contents_of (p.see a).pair.store = markers_are filing.layout (p.see a).pair.store from given.partition given.marked (given.usable.usable.pair.disk t).markers given.readable markers held in
        (raised.1, (s, m, below, subst (λ (x : Markers). IsMarked x.entries s m) same marked))

    -- ---- why it failed

    prune_cause : (before now : ℕ) (e : Error) → IsPruneCause (p.see a) bound before now e → IsCause filing was (Some (Prune bound)) from e
    prune_cause before now Mem why = tt
    prune_cause before now Full why = inr (drops_there why.1, (given.laws.state t).version.0 why.0)
    prune_cause before now (Journal (journal.Runtime runtime.Fault)) why = tt
    prune_cause before now (Metadata (metadata.Runtime runtime.Fault)) why = inr (inr (drops_there why.1))
    prune_cause before now e why = absurd why

    prune_anywhere : (to : Disk) (before now : ℕ) (e : Error) → IsPruneCause (p.see a) bound before now e → IsCauseAnywhere filing (held_by p a) (Some (Prune bound)) from to e
    prune_anywhere to before now Mem why = tt
    prune_anywhere to before now Full why = inr (inr (drops_there why.1, (given.laws.state t).version.0 why.0))
    prune_anywhere to before now (Journal (journal.Runtime runtime.Fault)) why = tt
    prune_anywhere to before now (Metadata (metadata.Runtime runtime.Fault)) why = inr (inr (drops_there why.1))
    prune_anywhere to before now e why = absurd why

    -- where a marker had to go, the markers had a next version
    lawful : (r : A) (new : D) → Pruned p dev a bound r new → (IsRaisedTo (p.see a).items true (p.see a).floor bound × HasLow) × HasNoVersion filing.layout from → ⊥
    lawful r new done must = (let some = done.version (there_drops must.0) in omega (arith, some, (given.laws.state t).version.1 must.1))

  -- ---- the prune

  module _ (new : D) where
    prune_ends : (result : Result A Error) → Prunes p dev a bound result old new → AnswerEnds (serving_by p setup valid dev filing) dev (Open a) (Prune bound) (outcome (λ r. (Open r, reply.Done)) result) old new
    prune_ends (Ok r) prunes = record {
      usable = prune_usable r new prunes.ends prunes.changes.ends.over prunes.changes.ends.alike.accepts;
      sound = prunes.changes.ends.sound;
      step = prunes.changes.ends.step;
      reopened = λ t sound is. absurd (cc is);
      allowed = λ t sound must. elim must as (λ _. ⊥) [ inl adds ↦ adds | inr moves ↦ lawful t r new prunes.ends moves ];
      rest = λ t sound. (prunes.changes.ends.alike.leaves _ None _).1 (prunes.changes.ends.rest t sound);
      learns = prune_holds r new prunes.ends prunes.changes.ends.over;
      cleared = λ t q both. prunes.ends.gone t q both.1;
      allowed_anywhere = λ t must. elim must as (λ _. ⊥) [
        | inl puts ↦ puts
        | inr other ↦ elim other as (λ _. ⊥) [ inl moves ↦ lawful t r new prunes.ends moves | inr over ↦ (let is = over.0 in cc is) ]
      ];
    }
    prune_ends (Err e) prunes = record {
      cause = λ t sound. prune_cause t (dev.faults old) (dev.faults new) e prunes.ends.cause;
      unwritten = λ t sound refuses. absurd (no_refusal refuses);
      anywhere = λ t. prune_anywhere t (disk (dev.time new)) (dev.faults old) (dev.faults new) e prunes.ends.cause;
      unwritten_anywhere = λ t refuses. absurd (no_refusal refuses);
      fault = prunes.changes.ends;
    }

    prune_at : (result : Result A Error) → Prunes p dev a bound result old new → Answers (serving_by p setup valid dev filing) dev (Open a) (Prune bound) (outcome (λ r. (Open r, reply.Done)) result) old new
    prune_at result prunes = record {
      moments = prunes.changes.moments;
      alone = prunes.footprint.alone;
      footprint = prunes.changes.footprint;
      quiet = λ t still. (prunes.low (not_raising (quiet_open still))).1;
      ends = prune_ends result prunes;
    }
      where
        not_raising : start ≤ (p.see a).floor → IsRaising (p.see a) bound → ⊥
        not_raising low raising = omega (arith, low, raising)

    pub prune_answers : (result : Result A Error) → Prunes p dev a bound result old new → Answers (openable_serving p setup valid) dev (Open a) (Prune bound) (outcome (λ r. (Open r, reply.Done)) result) old new
    prune_answers result prunes = as_asked p setup valid dev a old given (Prune bound) (outcome (λ r. (Open r, reply.Done)) result) new (prune_at result prunes)
