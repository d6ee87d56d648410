-- What an opening promises, by the ways in which it ends.
use Rattle.std.proofs.Common.{◌≡◌, ◌⊎◌, inl, inr, refl, sym, ◌∙◌, ap, subst, ℕ, ◌+◌, ◌*◌, ◌≤◌, List, length, IsTrue, Result, Ok, Err, arith}
use Rattle.std.specs.Prelude.{⊤}
use Rattle.std.specs.Result.{IsErrOf}
use Rattle.blob_device.specs.Disk.{Key}
use Rattle.blob_device.specs.Footprint.{Footprint}
use Rattle.blob_device.specs.Opened.{reads_of}
use Rattle.blob_device.specs.Timeline.{disk}
use Rattle.blob_device.specs.declared.device.Device as device
use Rattle.blob_device.specs.declared.runtime.RError.TheVariants as runtime
use Rattle.meta_store.specs.declared.error.Error.TheVariants as metadata
use Rattle.meta_store.specs.declared.error.Side.{Side}
use Rattle.meta_store.specs.lemmas.Uses.{IsReadable}
use Rattle.paired.specs.lemmas.pair.Failing.{rose_before}
use Rattle.sealed_pages.specs.declared.page_blob.PageBlob.{PageBlob}
use Rattle.section_manager.specs.Sections.{section_key}
use Rattle.section_manager.specs.declared.journal.Error.TheVariants as journal
use Rattle.section_manager.specs.declared.sealed.AppendFactory.{AppendFactory}
use Rattle.meta_store.specs.Store.{contents_of}
use Rattle.paired.specs.Crashes.{IsOwn}
use Rattle.paired.specs.Kept.{Layout, Markers, stored_records}
use Rattle.paired.specs.Opening.{IsLawful, MayBeOpened, as_read}
use Rattle.paired.specs.Records as stored
use Rattle.paired.specs.Replaying.{Run}
use Rattle.archives.specs.Archives.{Buffers}
use Rattle.archives.specs.Enters.{Drains, kept_on}
use Rattle.archives.specs.Filing.{kept_entries}
use Rattle.archives.specs.Lawful.{Lawful}
use Rattle.archives.specs.Opening.{FindsShort, HasStray, IsPastLimits}
use Rattle.archives.specs.Opens.{HaveBadCopy, IsOpeningCause, IsOpeningFailure, NotOpened, Opened, OpeningLeaves, Opens, ReadsOnOpening}
use Rattle.archives.specs.Prunable.{Prunable, Setup}
use Rattle.archives.specs.Rows.{Row}
use Rattle.archives.specs.declared.error.Error.{Error}
use Rattle.archives.specs.declared.error.Error.TheVariants.{Journal, Metadata}
use Rattle.archives.specs.declared.prunable.limits.Limits.{Limits}
use Rattle.archives.proofs.DrainCauses.{opening_of_drain, over_at, stray_at}
use Rattle.archives.proofs.init.Causes.{lawful_no_over, lawful_no_stray, marked_damage, marked_short}
use Rattle.archives.proofs.init.Moments.{moments_lawful, moments_stand}
use Rattle.archives.proofs.LawfulOpens.{failed_on_lawful, lawful_cause}
use Rattle.archives.proofs.opening.Causes.{HasCause, HasLostMarkers, IsOpeningError, opening_cause, opening_failure}
use Rattle.archives.proofs.opening.Kept.{over_same, stray_same}
use Rattle.archives.proofs.opening.Parts.{AreFew, Part, Replayed, drained_part, few_left, kept_same, left_behind, markers_are, stored_same}
use Rattle.archives.proofs.read.Causes.{HasFailed}

module _ {A V S D : Type 0} {gs : _} (p : Prunable A V (AppendFactory S) (PageBlob S gs)) (dev : device.Ghosts D) (setup : Setup V) (old new : D) where
  module _ (most : ℕ → ℕ) (few : AreFew dev setup.filing old most) (part : Part dev setup.filing.layout most old new) where
    moments : dev.Tells → MayBeOpened setup.filing.layout (disk (dev.time old)) → OpeningLeaves setup.filing dev old new
    moments t may = record {
      keeps = part.recalls t may;
      lawful = moments_lawful setup.filing (dev.time old) (dev.time new) (part.recalls t may);
      stands = moments_stand setup.filing (dev.time old) (dev.time new) (part.recalls t may);
    }

    touched : Footprint dev (IsOwn setup.filing.layout (λ _. ⊤)) (ReadsOnOpening setup.filing dev old new) old new
    touched = record {
      alone = part.alone;
      entries = part.entries;
      reads = λ q n at.
          let all = part.reads at.told at.section at.in_range in
          let bound = few at.told at.markers at.held at.section in
          let same : section_key setup.filing.layout.values at.section ≡ q = sym at.is in
          let most_is = at.bound in
          subst (λ (k : Key). reads_of (dev.opened new k) ≤ reads_of (dev.opened old k) + n) same (omega (arith, all, bound, most_is));
      faults = part.faults;
    }

    pub opening_done : (r : A) → Opened p dev setup r old new → Opens p dev setup (Ok r) old new
    opening_done r done = record { moments = moments; footprint = touched; ends = done }

    pub opening_refused : (r : Result A Error) (e : Error) → r ≡ Err e → NotOpened p dev setup e old new → Opens p dev setup r old new
    opening_refused r e is why = subst (λ (x : Result A Error). Opens p dev setup x old new) (sym is) (record { moments = moments; footprint = touched; ends = why })

    abbrev GaveUp : Result A Error → Type 0
    GaveUp r = HasFailed r (dev.faults old) (dev.faults new) ⊎ HasLostMarkers r (dev.faults old) (dev.faults new)

    pub not_opened : (r : Result A Error) (e : Error) → r ≡ Err e → IsOpeningError r ⊎ GaveUp r → (dev.Tells → HasCause r setup.filing (disk (dev.time old)) (disk (dev.time new)))
        → (dev.Tells → (side : Side) → HaveBadCopy setup.filing (disk (dev.time old)) side → IsErrOf r (Metadata (metadata.Corruption side)) ⊎ GaveUp r)
        → (dev.Tells → (k : ℕ) → IsErrOf r (Journal (journal.Runtime (runtime.InvalidChecksum k))) → ⊥)
        → IsTrue setup.filing.layout.marked → IsReadable setup.filing.layout.markers → 1 ≤ setup.filing.layout.page_size → 1 ≤ setup.filing.layout.record_size
        → Opens p dev setup r old new
    not_opened r e is cause causes copies page marked readable paged sized = subst (λ (x : Result A Error). Opens p dev setup x old new) (sym is) (record {
      moments = moments;
      footprint = touched;
      ends = record {
        cause = why;
        copies = λ t side bad. elim (subst (λ (x : Result A Error). IsErrOf x (Metadata (metadata.Corruption side)) ⊎ GaveUp x) is (copies t side bad)) [
          | inl corrupt ↦ inl (the_error (Metadata (metadata.Corruption side)) corrupt)
          | inr gave ↦ inr (opening_failure setup.filing dev old new A e gave)
        ];
        complete = λ t markers lawful. lawful_cause setup.filing dev old new marked readable paged sized t markers lawful e why
            (λ k same. page t k (given (Journal (journal.Runtime (runtime.InvalidChecksum k))) same));
      };
    })
      where
        the_error : (x : Error) → IsErrOf {T = A} (Err e) x → e ≡ x
        the_error x same = cc same

        given : (x : Error) → e ≡ x → IsErrOf r x
        given x same = (let as_result : Error → Result A Error = λ y. Err y in is ∙ ap as_result same)

        why : IsOpeningCause setup.filing dev old new e
        why = opening_cause setup.filing dev old new A e (subst (λ (x : Result A Error). IsOpeningError x ⊎ GaveUp x) is cause)
            (λ t. subst (λ (x : Result A Error). HasCause x setup.filing (disk (dev.time old)) (disk (dev.time new))) is (causes t))

-- ---- the records were not all entered

module _ {A V S D : Type 0} {gs : _} (p : Prunable A V (AppendFactory S) (PageBlob S gs)) {dev : device.Ghosts D} (setup : Setup V) {old mid : D} {run : Run (AppendFactory S) (PageBlob S gs)}
    (r : Replayed dev setup.filing old mid run) {buffers : Buffers (AppendFactory S) (PageBlob S gs)} {key_size : ℕ} {limits : Limits} {walked : Run (AppendFactory S) (PageBlob S gs)} {end : D}
    {T C : Type 0} {rows : T → ℕ → List Row} {AreTied : T → Type 0} {before after : C} (x : Error)
    (drains : Drains buffers dev key_size setup.filing.items limits run walked mid end rows AreTied before after (Err x))
    (paged : 1 ≤ setup.filing.layout.page_size) (some : 1 ≤ setup.filing.layout.record_size) (sections : limits.sections ≡ setup.filing.most_sections) (records : limits.per_section ≡ setup.filing.most_records) where
  -- what the replay goes over, and what the disk kept before
  abbrev Given : ℕ → List stored.Entry
  Given = kept_on buffers dev key_size setup.filing.items limits run walked mid end (disk (dev.time mid))

  abbrev Kept : ℕ → List stored.Entry
  Kept = kept_entries setup.filing (as_read (disk (dev.time old))) (contents_of run.store)

  strays : dev.Tells → HasStray setup.filing.items Given → HasStray setup.filing.items Kept
  strays t = stray_same Given Kept (kept_same r t) setup.filing.items

  overs : dev.Tells → IsPastLimits limits.sections limits.per_section Given → IsPastLimits setup.filing.most_sections setup.filing.most_records Kept
  overs t over = over_same Given Kept (kept_same r t) setup.filing.most_sections setup.filing.most_records
      (subst (λ (n : ℕ). IsPastLimits setup.filing.most_sections n Given) records (subst (λ (n : ℕ). IsPastLimits n limits.per_section Given) sections over))

  bytes : dev.Tells → (s : ℕ) → length (stored_records run.layout (as_read (disk (dev.time mid))) s) * run.layout.record_size
      ≡ length (stored_records setup.filing.layout (as_read (disk (dev.time old))) s) * setup.filing.layout.record_size
  bytes t s = ap (λ (xs : List (List ℕ)). length xs * run.layout.record_size) (stored_same r t s)
      ∙ ap (λ (y : Layout). length (stored_records setup.filing.layout (as_read (disk (dev.time old))) s) * y.record_size) r.here

  why : IsOpeningCause setup.filing dev old end x
  why = opening_of_drain buffers dev key_size setup.filing.items limits run walked mid end old setup.filing
      (rose_before (dev.faults old) (dev.faults mid) (dev.faults end) r.part.faults)
      (λ t has. (contents_of run.store, (r.found t).markers, strays t has))
      (λ t has. (contents_of run.store, (r.found t).markers, overs t has))
      (λ t y has. (
        contents_of run.store,
        (r.found t).markers,
        inr (marked_damage run.store.entries setup.filing.layout.record_size run.walk.journal.floor_of r.floors y
            (length (stored_records setup.filing.layout (as_read (disk (dev.time old))) y.section) * setup.filing.layout.record_size) (has.wanted, has.less, has.is ∙ bytes t y.section)),
      ))
      (λ t k has.
      let w = marked_short run.store.entries setup.filing.layout.record_size run.walk.journal.floor_of r.floors setup.filing.layout refl some (disk (dev.time end)) k
      (subst (λ (y : Layout). FindsShort y run.walk.journal.floor_of (disk (dev.time end)) k) r.here has) in
      (contents_of run.store, (r.found t).markers, record { section = w.0; marker = w.1; position = w.2; marked = w.3; below = w.4; page = w.5 }))
      x drains.ends.cause

  -- a lawful image has nothing that is refused
  gives_up : dev.Tells → (markers : Markers) → Lawful setup.filing (as_read (disk (dev.time old))) markers → IsOpeningFailure (dev.faults old) (dev.faults end) x
  gives_up t markers lawful =
      let own : Lawful setup.filing (as_read (disk (dev.time old))) (contents_of run.store) = subst (Lawful setup.filing (as_read (disk (dev.time old)))) (markers_are r t markers lawful.pair.held) lawful in
      let now : IsLawful run.layout (as_read (disk (dev.time mid))) (contents_of run.store) =
      subst (λ (y : Layout). IsLawful y (as_read (disk (dev.time mid))) (contents_of run.store)) (sym r.here) ((r.found t).lawful markers lawful.pair) in
      elim (drains.ends.complete t now) as (λ _. IsOpeningFailure (dev.faults old) (dev.faults end) x) [
        | inl stray ↦ absurd (lawful_no_stray setup.filing (as_read (disk (dev.time old))) (contents_of run.store) own
            (strays t (stray_at buffers dev key_size setup.filing.items limits run walked mid end x drains.ends.cause stray t)))
        | inr (inl full) ↦ absurd (lawful_no_over setup.filing (as_read (disk (dev.time old))) (contents_of run.store) own
            (overs t (over_at buffers dev key_size setup.filing.items limits run walked mid end x drains.ends.cause full t)))
        | inr (inr (inl memory)) ↦ inl (inl memory)
        | inr (inr (inr fault)) ↦ inl (inr (fault.0, rose_before (dev.faults old) (dev.faults mid) (dev.faults end) r.part.faults fault.1))
      ]

  pub tables_refused : (result : Result A Error) → result ≡ Err x → Opens p dev setup result old end
  tables_refused result is = opening_refused p dev setup old end (left_behind dev setup.filing old mid run) (few_left r) (drained_part r drains) result x is (record {
    cause = why;
    copies = λ t side bad. absurd (r.copies t side bad);
    complete = λ t markers lawful. failed_on_lawful setup.filing dev old end x (gives_up t markers lawful);
  })
