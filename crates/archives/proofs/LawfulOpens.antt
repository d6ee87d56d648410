-- Why an opening over a lawful image fails: nothing of it is refused, so it is the device, memory, a missing next version, or a blob of records that is
-- too long.
use Rattle.std.specs.Prelude.{◌≡◌, ◌⊎◌, ℕ, ◌+◌, ◌-◌, ◌*◌, ◌^◌, ◌<◌, ◌≤◌, cond, Bool, true, false, List, [], length, take, get_or, IsTrue, IsSome, Some, None, Ok, Err}
use Rattle.std.proofs.Common.{inl, inr, refl, sym, ◌∙◌, ap, subst, arith, length-take-le}
use Rattle.std.specs.List.{AllByRecursion}
use Rattle.std.proofs.lemmas.List.{get_or-take}
use Rattle.std.proofs.lemmas.Nat.{mul-le}
use Rattle.blob_device.specs.Disk.{Blob, Disk, reads}
use Rattle.blob_device.specs.Timeline.{disk}
use Rattle.blob_device.specs.declared.device.Device as device
use Rattle.blob_device.specs.declared.runtime.RError.TheVariants as runtime
use Rattle.meta_store.specs.Blobs.{blob_of, bytes_of}
use Rattle.meta_store.specs.Format.{Format}
use Rattle.meta_store.specs.Pairs.{ReadsPair, chosen_of}
use Rattle.meta_store.specs.declared.copy.CopyText.{CopyText}
use Rattle.meta_store.specs.declared.error.Error.TheVariants as metadata
use Rattle.meta_store.specs.declared.error.Side.{Side}
use Rattle.meta_store.specs.declared.error.Side.TheVariants.{Left, Right}
use Rattle.meta_store.specs.declared.pair.Chosen.{Chosen}
use Rattle.archives.specs.lemmas.init.Records.{one_markers}
use Rattle.meta_store.specs.lemmas.Uses.{IsReadable, one_reading}
use Rattle.paired.specs.lemmas.Boundary.{content_there}
use Rattle.paired.specs.lemmas.Kept.{EndsBy, follow_ends, sound_parts}
use Rattle.paired.specs.lemmas.opening.StartRefusals.{last_is_record, records_end, sealed_small}
use Rattle.segments.specs.lemmas.replay.Kept.{prefix_data}
use Rattle.sealed_pages.specs.SealedPrefix.{data_from, sealed_prefix}
use Rattle.sealed_pages.specs.View.{view}
use Rattle.section_manager.specs.Sections.{section_key}
use Rattle.section_manager.specs.declared.journal.Damage.{Damage}
use Rattle.section_manager.specs.declared.journal.Error.TheVariants as journal
use Rattle.segments.specs.FixedFloors.{IsRefused}
use Rattle.paired.specs.Kept.{IsMarked, Layout, Markers, content_at, is_sound_in, stored_records}
use Rattle.paired.specs.Opening.{IsLawful, as_read}
use Rattle.paired.specs.OpeningRefusing.{IsCutOff, IsLost, IsOutside, last_of}
use Rattle.paired.specs.Places.{end_of}
use Rattle.archives.specs.Filing.{Filing, kept_entries}
use Rattle.archives.specs.Lawful.{Lawful}
use Rattle.archives.specs.Opening.{HasNoVersion, HasStray, IsPastLimits}
use Rattle.archives.specs.Opens.{HasForeign, HasToMove, HaveBadCopy, IsLawfulCause, IsOpeningCause, IsOpeningFailure, IsShortOf, OfMarkers}
use Rattle.archives.specs.declared.error.Error.{Error}
use Rattle.archives.specs.declared.error.Error.TheVariants.{Journal, Metadata, RecordCorrupted, Full, Mem}
use Rattle.archives.proofs.init.Causes.{lawful_no_over, lawful_no_stray}
use Rattle.blob_device.proofs.general.Lists.{all_at}

-- ---- the copies of the markers

module _ {K V : Type 0} (f : Format K V) (readable : IsReadable f) where
  -- contents that hold a map are no bad copies
  no_bad_pair : (left right : List ℕ) (side : Side) (c : Chosen K V) → ReadsPair f left right (Err side) → ReadsPair f left right (Ok c) → ⊥
  no_bad_pair left right side c bad good =
      let l = one_reading f readable left bad.left_text good.left_text bad.left_reads good.left_reads in
      let r = one_reading f readable right bad.right_text good.right_text bad.right_reads good.right_reads in
      let same = sym bad.is ∙ ap (λ (t : CopyText K V). chosen_of t bad.right_text) l ∙ ap (λ (t : CopyText K V). chosen_of good.left_text t) r ∙ good.is in
      cc same

-- ---- names

-- a blob reads as something where it is there
there_reads : (b : Blob) → IsTrue b.there → IsSome (reads b)
there_reads b there = subst (λ (t : Bool). IsSome (cond t (Some b.content) None)) (sym there) refl

reads_there : (b : Blob) → IsSome (reads b) → b.there ≡ true
reads_there b has = go b.there refl
  where
    go : (t : Bool) → b.there ≡ t → b.there ≡ true
    go true is = is
    go false is = absurd (cc (subst (λ (x : Bool). IsSome (cond x (Some b.content) None)) is has))

-- ---- markers

module _ (l : Layout) (paged : 1 ≤ l.page_size) (sized : 1 ≤ l.record_size) (d : Disk) (markers : Markers) (lawful : IsLawful l (as_read d) markers) where
  module _ (s m : ℕ) (marked : IsMarked markers.entries s m) where
    there_marked : (d (section_key l.index s)).there ≡ true
    there_marked = reads_there (d (section_key l.index s)) (lawful.true_markers s m marked).index_blob

    -- the records that a marker counts stand in the sealed prefix
    marked_fits : m * l.record_size ≤ length (sealed_prefix l.seal l.page_size (content_at (as_read d) l.index s))
    marked_fits = records_end l.record_size m (sealed_prefix l.seal l.page_size (content_at (as_read d) l.index s)) (lawful.true_markers s m marked).enough

    -- the value of the last of them stands within the values, and a u64 counts its end
    last_inside : 0 < m → ((l.place (last_of l d s m)).0 + (l.place (last_of l d s m)).1 ≤ length (content_at (as_read d) l.values s))
        × ((l.place (last_of l d s m)).0 + (l.place (last_of l d s m)).1 < 2 ^ 64)
    last_inside some =
        let is = lawful.true_markers s m marked in
        let content : List ℕ = content_at (as_read d) l.index s in
        let sealed : List ℕ = sealed_prefix l.seal l.page_size content in
        let rs : List (List ℕ) = stored_records l (as_read d) s in
        let in_place = lawful.places s marked.0 in
        let last : get_or rs (m - 1) [] ≡ last_of l d s m =
        last_is_record l.seal l.page_size content sealed l.record_size m paged sized (prefix_data l.seal l.page_size content paged) some marked_fits
        ∙ ap (λ (c : List ℕ). data_from l.page_size (view c) ((m - 1) * l.record_size) l.record_size) (content_there d l.index s there_marked) in
        let first : get_or (take m rs) (m - 1) [] ≡ last_of l d s m = get_or-take m rs (m - 1) [] (omega (arith, some)) ∙ last in
        let long : m - 1 < length (take m rs) = omega (arith, some, length-take-le m rs is.enough) in
        let sound : IsTrue (is_sound_in l (as_read d) s (last_of l d s m)) = subst (λ (r : List ℕ). IsTrue (is_sound_in l (as_read d) s r)) first
        (all_at (λ r. IsTrue (is_sound_in l (as_read d) s r)) [] (take m rs) is.sound (m - 1) long) in
        let parts = sound_parts l.seal (content_at (as_read d) l.values s) (l.place (last_of l d s m)).0 (l.place (last_of l d s m)).1 sound in
        let ends : AllByRecursion (EndsBy l.place in_place.end) (take m rs) =
        follow_ends l.place m 0 rs in_place.end (end_of l.place 0 (take m rs)) in_place.end in_place.follow (omega arith) (omega arith) in
        let end : EndsBy l.place in_place.end (last_of l d s m) = subst (EndsBy l.place in_place.end) first (all_at (EndsBy l.place in_place.end) [] (take m rs) ends (m - 1) long) in
        (parts.1, omega (arith, end, in_place.fits))

  -- no marker of a lawful image is lost
  none_lost : (x : Damage) → IsLost l (IsMarked markers.entries) d x → ⊥
  none_lost x lost = go lost.why
    where
      content : content_at (as_read d) l.index x.section ≡ (d (section_key l.index x.section)).content
      content = content_there d l.index x.section (there_marked x.section lost.items lost.marked)

      fits : lost.items * l.record_size ≤ length (sealed_prefix l.seal l.page_size (d (section_key l.index x.section)).content)
      fits = subst (λ (c : List ℕ). lost.items * l.record_size ≤ length (sealed_prefix l.seal l.page_size c)) content (marked_fits x.section lost.items lost.marked)

      refused : IsRefused l.seal l.page_size l.record_size (d (section_key l.index x.section)) lost.items x → ⊥
      refused (inl many) = omega (arith, many.many, fits, sealed_small l.seal l.page_size (d (section_key l.index x.section)).content)
      refused (inr (inl missing)) = absurd (cc (missing.absent, there_marked x.section lost.items lost.marked))
      refused (inr (inr unsealed)) = absurd (omega (arith, unsealed.less, unsealed.kept, unsealed.wanted, fits))

      outside : (at n len : ℕ) → (at + n ≤ len) → (at + n < 2 ^ 64) → IsOutside (at, n) len x → ⊥
      outside at n len within small (inl large) = omega (arith, large.0, small)
      outside at n len within small (inr past) = omega (arith, past.1, within)

      go : IsRefused l.seal l.page_size l.record_size (d (section_key l.index x.section)) lost.items x ⊎ IsCutOff l d x.section lost.items x
          → ⊥
      go (inl is) = refused is
      go (inr cut) =
          let both = last_inside x.section lost.items lost.marked cut.some in
          absurd (outside (l.place (last_of l d x.section lost.items)).0 (l.place (last_of l d x.section lost.items)).1 (length (content_at (as_read d) l.values x.section)) both.0 both.1 cut.outside)

-- ---- the device failed, or memory was short

pub failed_on_lawful : {D : Type 0} (f : Filing) (dev : device.Ghosts D) (old new : D) (e : Error) → IsOpeningFailure (dev.faults old) (dev.faults new) e → IsLawfulCause f dev old new e
failed_on_lawful f dev old new e (inl (inl memory)) = subst (IsLawfulCause f dev old new) (sym memory) tt
failed_on_lawful f dev old new e (inl (inr fault)) = subst (IsLawfulCause f dev old new) (sym fault.0) fault.1
failed_on_lawful f dev old new e (inr lost) = subst (IsLawfulCause f dev old new) (sym lost.0) lost.1

-- ---- nothing is refused

module _ {D : Type 0} (f : Filing) (dev : device.Ghosts D) (old new : D) (marked : IsTrue f.layout.marked) (readable : IsReadable f.layout.markers) (paged : 1 ≤ f.layout.page_size) (sized : 1 ≤ f.layout.record_size)
    (t : dev.Tells) (markers : Markers) (lawful : Lawful f (as_read (disk (dev.time old))) markers) where
  abbrev from : Disk
  from = disk (dev.time old)

  -- what holds of the markers on the disk holds of these
  here : (P : Markers → Type 0) → OfMarkers f from P → P markers
  here P (others, held, is) = subst P (one_markers f.layout readable (as_read from) others markers held lawful.pair.held) is

  whole_copies : (side : Side) → HaveBadCopy f from side → ⊥
  whole_copies side bad = no_bad_pair f.layout.markers readable (bytes_of (as_read from (blob_of f.layout.metadata Left))) (bytes_of (as_read from (blob_of f.layout.metadata Right))) side
      (lawful.pair.held.copies marked).chosen bad (lawful.pair.held.copies marked).reads

  own_names : (name : List ℕ) → HasForeign f from name → ⊥
  own_names name (inl index) = index.size (lawful.pair.names.index name (there_reads (from (f.layout.index, name)) index.there))
  own_names name (inr values) = values.size (lawful.pair.names.values name (there_reads (from (f.layout.values, name)) values.there))

  -- none has less than its marker says
  none_short : (x : Damage) → OfMarkers f from (λ (m : Markers). IsShortOf f from m x) → ⊥
  none_short x short = elim (here (λ (m : Markers). IsShortOf f from m x) short) as (λ _. ⊥) [
    | inl lost ↦ none_lost f.layout paged sized from markers lawful.pair x lost
    | inr (m, marked, wanted, kept, less) ↦ absurd (omega (
      arith,
      wanted,
      kept,
      less,
      mul-le m f.layout.record_size (length (stored_records f.layout (as_read from) x.section)) f.layout.record_size (lawful.pair.true_markers x.section m marked).enough (omega arith),
    ))
  ]

  pub lawful_cause : (e : Error) → IsOpeningCause f dev old new e → ((k : ℕ) → e ≡ Journal (journal.Runtime (runtime.InvalidChecksum k)) → ⊥)
      → IsLawfulCause f dev old new e
  lawful_cause Mem why page = tt
  lawful_cause (Journal (journal.Runtime runtime.Fault)) why page = why
  lawful_cause (Metadata (metadata.Runtime runtime.Fault)) why page = why
  lawful_cause (Metadata (metadata.Corruption side)) why page = absurd (whole_copies side (why t))
  lawful_cause (Journal (journal.InvalidBlobName name)) why page = absurd (own_names name (why t))
  lawful_cause (Journal (journal.Corruption x)) why page = absurd (none_short x (why t))
  lawful_cause (Journal (journal.Runtime (runtime.InvalidChecksum k))) why page = absurd (page k refl)
  lawful_cause RecordCorrupted why page = absurd (lawful_no_stray f (as_read from) markers lawful (here (λ (m : Markers). HasStray f.items (kept_entries f (as_read from) m)) (why t)))
  lawful_cause Full why page = elim (why t) as (λ _. HasNoVersion f.layout from × OfMarkers f from (HasToMove f from)) [
    | inl over ↦ absurd (lawful_no_over f (as_read from) markers lawful (here (λ (m : Markers). IsPastLimits f.most_sections f.most_records (kept_entries f (as_read from) m)) over))
    | inr moving ↦ moving
  ]
  lawful_cause (Journal (journal.ItemOutOfRange n)) why page = absurd (why t)
  lawful_cause (Journal (journal.Codec x)) why page = absurd (why t)
  lawful_cause e why page = absurd why
