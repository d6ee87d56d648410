-- Reading the value of a record: what stays, what was read, and why it failed.
use Rattle.std.proofs.Common.{◌≡◌, ◌⊎◌, inl, inr, sym, ◌∙◌, ap, subst, ℕ, ◌+◌, ◌-◌, ◌<◌, ◌≤◌, ◌^◌, ◌↔◌, List, map, slice_get, Option, None, Some, IsSomeAnd, Result, Err, arith}
use Rattle.std.specs.List.{AllByRecursion}
use Rattle.std.specs.Result.{IsErrOf}
use Rattle.blob_device.specs.Disk.{Disk}
use Rattle.blob_device.specs.Opened.{OpenedList}
use Rattle.blob_device.specs.declared.runtime.RError.TheVariants.{BlobInsufficientLength, Fault, InvalidChecksum, OffsetOverflow}
use Rattle.value_codec.specs.declared.codec.Error as codec
use Rattle.sealed_pages.specs.declared.page_blob.PageBlob.{PageBlob}
use Rattle.sealed_pages.specs.declared.write_blob.WriteBlob.{WriteBlob}
use Rattle.section_manager.specs.Refusing as segments
use Rattle.section_manager.specs.Sections.{IsHeld}
use Rattle.section_manager.specs.Setting.{Setting}
use Rattle.section_manager.specs.unsealed.Buffer.{count_of}
use Rattle.section_manager.specs.declared.journal.Error as journal
use Rattle.section_manager.specs.declared.journal.Error.TheVariants as section
use Rattle.section_manager.specs.declared.unsealed.WriteFactory.{WriteFactory}
use Rattle.paired.specs.Frames.{HasFrame, IsBroken, bytes_at}
use Rattle.paired.specs.glob.Reading as frames
use Rattle.paired.specs.glob.Sections as glob
use Rattle.paired.specs.Pair.{IsPair, list_of, records_of}
use Rattle.paired.specs.lemmas.Glob.{buffers, section_counted}
use Rattle.paired.specs.lemmas.Kept.{sound_parts}
use Rattle.paired.specs.lemmas.pair.Reads.{frame_held, frame_not_short, frame_spells, sound_entry, sound_unbroken}
use Rattle.archives.specs.Archives.{Archive, IsArchive, IsSoundArchive}
use Rattle.archives.specs.IndexRecord.{IsSpelled}
use Rattle.archives.specs.Raised.{raised}
use Rattle.archives.specs.Reading.{NamesPlace}
use Rattle.archives.proofs.read.Causes.{HasCause}
use Rattle.archives.specs.Rows.{row_in}
use Rattle.archives.specs.declared.error.Error.{Error}
use Rattle.archives.proofs.read.Fails.{Why, lower, of_why, under}
use Rattle.archives.proofs.read.Records.{Names, all_at, named_value, weaker_at}
use Rattle.blob_device.proofs.general.Options.{the_some}

-- ---- what stays

-- an archive whose blobs were only read is what it was
pub archive_read : {F S : Type 0} {gs : _} (a : Archive F (PageBlob S gs)) {bs : _} {told : Type 0} {opened : OpenedList} {d : Disk} → IsArchive a bs told opened d
    → (new : OpenedList) (e : Disk) → IsPair bs.pages bs.gives bs.values bs.takes told a.pair new e → (told → e ≡ d) → IsArchive a bs told new e
archive_read a archive new e pair same = record {
  pair = pair;
  items = archive.items;
  floor = archive.floor;
  pair_floor = archive.pair_floor;
  below = λ s low. (let bare = archive.below s low in record { rows = bare.rows; records = bare.records; values = bare.values });
  listed = λ t s. archive.listed t s ∙ ap (λ (x : Disk). map (row_in a.key_size) (records_of a.pair x s)) (sym (same t));
  spelled = λ t s. subst (λ (x : Disk). AllByRecursion (IsSpelled a.key_size) (records_of a.pair x s)) (sym (same t)) (archive.spelled t s);
  tied = archive.tied;
  indices = archive.indices;
  within = archive.within;
  unwritten = archive.unwritten;
  written = archive.written;
  unsynced = archive.unsynced;
}

-- ---- the value of a record

module _ {F S : Type 0} {gs : _} (a : Archive F (PageBlob S gs)) (e : Disk) (s at n : ℕ) where
  -- What the pair says of a place where it failed to read a value. A floor is one of the pair's sections.
  pub record Says (U : Type 0) (x : journal.Error) (floor b c : ℕ) : Type 0 where
    pub none : floor ≤ s
    pub guard : segments.IsPruned {T = U} (Err x) floor ↔ (s < floor)
    pub absent : frames.IsAbsent {T = U} (Err x) s ↔ ((floor ≤ s) × (a.pair.values.held s ≡ None))
    pub overflow : frames.IsOverflow {T = U} (Err x) ↔ ((floor ≤ s) × IsHeld a.pair.values s × (2 ^ 64 ≤ at + n))
    pub short : frames.IsShort {T = U} (Err x) ↔ ((floor ≤ s) × IsSomeAnd (a.pair.values.held s) (λ u. (at + n < 2 ^ 64) × ((count_of u < at + n) ⊎ (n < 4))))
    pub mismatch : (i j : ℕ) → IsErrOf {T = U} (Err x) (section.ChecksumMismatch i j) → IsBroken a.pair.layout.seal (glob.section_bytes a.pair.values e s) at n i j
    pub refused : (y : codec.Error) → IsErrOf {T = U} (Err x) (section.Codec y)
        → ((spelled : List ℕ) × HasFrame a.pair.layout.seal (glob.section_bytes a.pair.values e s) at n spelled × (a.refusal spelled ≡ Some y))
    pub why : Why U x floor s b c

module _ {F S : Type 0} {gs : _} (a : Archive F (PageBlob S gs)) (d e : Disk) (same : e ≡ d) (s p at n : ℕ) (names : Names a.pair d s p at n) where
  now_names : Names a.pair e s p at n
  now_names = subst (λ (x : Disk). Names a.pair x s p at n) (sym same) names

  -- what is read at the place that the record names is its value
  pub value_read : (spelled : List ℕ) → HasFrame a.pair.layout.seal (glob.section_bytes a.pair.values e s) at n spelled → IsSomeAnd (slice_get (list_of a.pair d s) p) (λ x. x.value ≡ spelled)
  value_read spelled frame =
      let bytes : Disk → List ℕ = λ x. bytes_at (glob.section_bytes a.pair.values x s) at (n - 4) in
      let is = (frame_spells a.pair.layout.seal (glob.section_bytes a.pair.values e s) at n spelled (a.pair.layout.seal spelled) frame.inside frame.is).0 in
      weaker_at (slice_get (list_of a.pair d s) p) (λ x has. has.0 ∙ ap bytes (sym same) ∙ is) (named_value a.pair d s p at n names)

  named_so : (P : ℕ → ℕ → Type 0) → P at n → NamesPlace a d s p P
  named_so P has = weaker_at (slice_get (records_of a.pair d s) p) (λ r is. subst (λ (x : ℕ × ℕ). P x.0 x.1) (sym is) has) names

  size_short : IsSomeAnd (a.pair.values.held s) (λ u. (at + n < 2 ^ 64) × ((count_of u < at + n) ⊎ (n < 4))) → (glob.section_size a.pair.values s < at + n) ⊎ (n < 4)
  size_short short = go (a.pair.values.held s) short
    where
      go : (o : Option WriteBlob) → IsSomeAnd o (λ u. (at + n < 2 ^ 64) × ((count_of u < at + n) ⊎ (n < 4))) → (glob.size_held o < at + n) ⊎ (n < 4)
      go None is = absurd is
      go (Some u) is = is.1

  -- an error that no cause names
  unnamed : (U : Type 0) (x y : journal.Error) (floor b c : ℕ) → Why U x floor s b c → (section.AlreadyPrunedToSection floor ≡ y → ⊥) → (section.SectionOutOfRange s ≡ y → ⊥) → (section.Runtime OffsetOverflow ≡ y → ⊥)
      → (section.Runtime BlobInsufficientLength ≡ y → ⊥) → ((i j : ℕ) → section.ChecksumMismatch i j ≡ y → ⊥) → ((z : codec.Error) → section.Codec z ≡ y → ⊥) → (section.Mem ≡ y → ⊥) → (section.Runtime Fault ≡ y → ⊥) → x ≡ y → ⊥
  unnamed U x y floor b c why n1 n2 n3 n4 n5 n6 n7 n8 = of_why (λ z. z ≡ y → ⊥) U x floor s b c n1 n2 n3 n4 n5 n6 n7 n8 why

  -- each error has its cause
  pub value_cause : {T U : Type 0} (r : Result T Error) (x : journal.Error) → r ≡ Err (raised x) → (floor b c : ℕ) → Says a e s at n U x floor b c → HasCause a d s p r
  value_cause {T} {U} r x is floor b c says = record {
    damaged = λ k has. absurd (unnamed U x (section.Runtime (InvalidChecksum k)) floor b c says.why (λ no. cc no) (λ no. cc no) (λ no. cc no) (λ no. cc no) (λ i j no. cc no) (λ z no. cc no) (λ no. cc no) (λ no. cc no)
        (lower U r x is (section.Runtime (InvalidChecksum k)) has));
    absent = λ n has.
        let here : n ≡ s = of_why (λ z. z ≡ section.SectionOutOfRange n → n ≡ s) U x floor s b c (λ no. absurd (cc no)) (λ yes. cc yes) (λ no. absurd (cc no)) (λ no. absurd (cc no))
        (λ i j no. absurd (cc no)) (λ z no. absurd (cc no)) (λ no. absurd (cc no)) (λ no. absurd (cc no)) says.why (lower U r x is (section.SectionOutOfRange n) has) in
        (here, (says.absent.0 (subst (λ (m : ℕ). IsErrOf {T = U} (Err x) (section.SectionOutOfRange m)) here (under U r x is (section.SectionOutOfRange n) has))).1);
    past = λ n has. unnamed U x (section.ItemOutOfRange n) floor b c says.why (λ no. cc no) (λ no. cc no) (λ no. cc no) (λ no. cc no) (λ i j no. cc no) (λ z no. cc no) (λ no. cc no) (λ no. cc no)
        (lower U r x is (section.ItemOutOfRange n) has);
    short = λ has. named_so (λ i j. (glob.section_size a.pair.values s < i + j) ⊎ (j < 4)) (size_short (says.short.0 (under U r x is (section.Runtime BlobInsufficientLength) has)).1);
    overflow = λ has. named_so (λ i j. 2 ^ 64 ≤ i + j) (says.overflow.0 (under U r x is (section.Runtime OffsetOverflow) has)).2;
    mismatch = λ i j has. named_so (λ k m. IsBroken a.pair.layout.seal (glob.section_bytes a.pair.values d s) k m i j)
        (subst (λ (y : Disk). IsBroken a.pair.layout.seal (glob.section_bytes a.pair.values y s) at n i j) same (says.mismatch i j (under U r x is (section.ChecksumMismatch i j) has)));
    refused = λ z has. named_so (λ k m. (spelled : List ℕ) × HasFrame a.pair.layout.seal (glob.section_bytes a.pair.values d s) k m spelled × (a.refusal spelled ≡ Some z))
        (subst (λ (y : Disk). (spelled : List ℕ) × HasFrame a.pair.layout.seal (glob.section_bytes a.pair.values y s) at n spelled × (a.refusal spelled ≡ Some z)) same (says.refused z (under U r x is (section.Codec z) has)));
  }

  -- where the archive is sound, memory or the device failed
  pub value_failed : {U : Type 0} {takes : WriteFactory → Setting} {told : Type 0} {opened : OpenedList} (x : journal.Error) → IsSoundArchive a d → glob.IsGlob buffers takes told a.pair.values opened e → told
      → (floor b c : ℕ) → Says a e s at n U x floor b c → segments.HasFailed {T = U} (Err x) b c
  value_failed {U} {opened = opened} x whole over t floor b c says =
      let sound : IsSoundArchive a e = subst (IsSoundArchive a) (sym same) whole in
      let seal = a.pair.layout.seal in
      let values = glob.section_bytes a.pair.values e s in
      let entry = named_value a.pair e s p at n now_names in
      let has = sound_entry a.pair e s sound.pair.sound p at n (bytes_at values at (n - 4)) entry in
      let is = has.2 in
      let parts = sound_parts seal values at n is in
      elim says.why [
        | inl pruned ↦ absurd (omega (arith, says.guard.0 pruned, says.none))
        | inr (inl absent) ↦ absurd (frame_held a.pair.values opened e over t seal s at n is (says.absent.0 absent).1)
        | inr (inr (inl high)) ↦ absurd (omega (arith, (says.overflow.0 high).2, parts.1, section_counted _ a.pair.values opened e over t s, sound.counted s))
        | inr (inr (inr (inl short))) ↦ absurd (frame_not_short a.pair.values opened e over t seal s at n is (says.short.0 short).1)
        | inr (inr (inr (inr (inl broken)))) ↦ absurd (sound_unbroken seal values at n broken.0 broken.1 is (says.mismatch broken.0 broken.1 broken.2))
        | inr (inr (inr (inr (inr (inl refused))))) ↦ absurd (accepted sound entry refused.0 (says.refused refused.0 refused.1))
        | inr (inr (inr (inr (inr (inr failed))))) ↦ failed
      ]
    where
      accepted : IsSoundArchive a e → IsSomeAnd (slice_get (list_of a.pair e s) p) (λ y. (y.value ≡ bytes_at (glob.section_bytes a.pair.values e s) at (n - 4)) × (a.pair.layout.place y.stored ≡ (at, n))) → (z : codec.Error)
          → ((spelled : List ℕ) × HasFrame a.pair.layout.seal (glob.section_bytes a.pair.values e s) at n spelled × (a.refusal spelled ≡ Some z)) → ⊥
      accepted sound entry z (spelled, frame, refused) =
          let found = the_some (slice_get (list_of a.pair e s) p) (all_at (λ y. a.refusal y.value ≡ None) (λ y. (y.value ≡ bytes_at (glob.section_bytes a.pair.values e s) at (n - 4)) × (a.pair.layout.place y.stored ≡ (at, n))) (list_of a.pair e s) p (sound.decoded s) entry) in
          let is : found.0.value ≡ spelled = found.2.1.0 ∙ (frame_spells a.pair.layout.seal (glob.section_bytes a.pair.values e s) at n spelled (a.pair.layout.seal spelled) frame.inside frame.is).0 in
          cc (sym found.2.0, ap a.refusal is, refused)
