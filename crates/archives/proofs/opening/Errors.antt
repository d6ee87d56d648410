-- What an error of an opening's walk says, as the archive answers it.
use Rattle.std.specs.Prelude.{◌≡◌, ◌⊎◌, ℕ, zero, suc, ◌+◌, ◌*◌, ◌/◌, ◌^◌, ◌<◌, ◌≤◌, true, List, [], length, get_or, Option, None, Some, IsSomeAnd, Result, Err}
use Rattle.std.proofs.Common.{inl, inr, sym, ◌∙◌, ap, subst, arith, drop, length-drop, length-take}
use Rattle.std.proofs.lemmas.Bool.{cases_lt}
use Rattle.std.proofs.lemmas.Bool.Decides.{nat_tests}
use Rattle.std.proofs.lemmas.Nat.{mul-le}
use Rattle.std.specs.List.{AllByRecursion}
use Rattle.std.specs.Result.{IsErrOf}
use Rattle.blob_device.specs.Disk.{Disk}
use Rattle.blob_device.specs.Opened.{OpenedList}
use Rattle.blob_device.specs.Timeline.{Timeline, disk}
use Rattle.blob_device.specs.declared.runtime.RError.TheVariants as runtime
use Rattle.value_codec.specs.Spelling.{size_refusal}
use Rattle.value_codec.specs.declared.codec.Error as codec
use Rattle.value_codec.specs.declared.key.Key8.{Key8}
use Rattle.sealed_pages.specs.Buffer.{size_of}
use Rattle.sealed_pages.specs.Reads.{IsShort}
use Rattle.sealed_pages.specs.Shown.{shown}
use Rattle.sealed_pages.specs.declared.page_blob.PageBlob.{PageBlob}
use Rattle.meta_store.specs.declared.error.Error.TheVariants as store
use Rattle.meta_store.specs.declared.error.Side.{Side}
use Rattle.meta_store.specs.Store.{Store, contents_of}
use Rattle.section_manager.specs.declared.buffer.SectionBuffer as buffer
use Rattle.section_manager.specs.declared.journal.Damage.{Damage}
use Rattle.section_manager.specs.declared.journal.Error as journal
use Rattle.section_manager.specs.declared.journal.Error.TheVariants as section
use Rattle.section_manager.specs.declared.unsealed.WriteFactory.{WriteFactory}
use Rattle.section_manager.specs.Sections.{key_of, section_key}
use Rattle.section_manager.specs.Setting.{Setting}
use Rattle.segments.specs.FixedItems.{item_at}
use Rattle.segments.specs.FixedLists.{section_size, size_held}
use Rattle.segments.specs.FixedReplay.{FindsDamage, kept_bytes}
use Rattle.paired.specs.lemmas.Replay.{record_at}
use Rattle.paired.specs.lemmas.next.Clauses.{Clauses}
use Rattle.paired.specs.lemmas.pair.Failing.{rose_before}
use Rattle.paired.specs.lemmas.pair.Synced.{Here}
use Rattle.segments.specs.lemmas.adding.Write.{ArePages}
use Rattle.paired.specs.Kept.{Layout, marker_of, stored_records}
use Rattle.paired.specs.Opening.{as_read, IsLawful}
use Rattle.paired.specs.OpeningRefusing.{AreSpellings}
use Rattle.paired.specs.Records.{each_below, records}
use Rattle.paired.specs.Replaying.{IsOpeningRun, IsUnspelled, Run, marker, pair_of, records_over}
use Rattle.archives.specs.declared.error.Error as archive
use Rattle.archives.specs.declared.error.Error.TheVariants.{Journal, Metadata, RecordCorrupted}
use Rattle.archives.specs.Opening.{FindsShort}
use Rattle.archives.specs.Raised.{raised}
use Rattle.archives.proofs.read.Causes.{HasFailed}
use Rattle.archives.proofs.opening.Loop.{Going, Passed}
use Rattle.archives.proofs.opening.Passed.{short_same, short_stored}
use Rattle.blob_device.proofs.general.Numbers.{item_ends}
use Rattle.blob_device.proofs.general.Options.{the_some}

-- An error of a journal is that of the journal below.
raised_journal : (y e : journal.Error) → raised y ≡ Journal e → y ≡ e
raised_journal (section.Runtime x) e is = cc
raised_journal (section.Metadata (store.Runtime x)) e is = absurd (cc is)
raised_journal (section.Metadata (store.Corruption x)) e is = absurd (cc is)
raised_journal (section.Metadata store.Full) e is = absurd (cc is)
raised_journal (section.Metadata store.Mem) e is = absurd (cc is)
raised_journal (section.Codec x) e is = cc
raised_journal (section.InvalidBlobName x) e is = cc
raised_journal (section.ItemOutOfRange x) e is = cc
raised_journal (section.SectionOutOfRange x) e is = cc
raised_journal (section.AlreadyPrunedToSection x) e is = cc
raised_journal (section.ChecksumMismatch x y) e is = cc
raised_journal section.ValueTooLarge e is = cc
raised_journal section.OffsetOverflow e is = cc
raised_journal (section.Corruption x) e is = cc
raised_journal section.ReplayFailed e is = cc
raised_journal section.Full e is = absurd (cc is)
raised_journal section.Mem e is = absurd (cc is)

-- as many bytes as a record has are spelled by one
pub whole_kept : (n : ℕ) (bytes : List ℕ) → length bytes ≡ n → size_refusal n bytes ≡ None
whole_kept n bytes long = grind (arith, nat_tests)

-- an item's bytes are as many as an item has
item_long : (size : ℕ) (bytes : List ℕ) (p : ℕ) → p < length bytes / size → length (item_at size bytes p) ≡ size
item_long size bytes p lt = omega (arith, item_ends size (length bytes) p lt, length-drop (p * size) bytes, length-take size (drop (p * size) bytes))

each_has : {X : Type 0} (P : X → Type 0) (n : ℕ) (f : ℕ → X) → ((i : ℕ) → i < n → P (f i)) → AllByRecursion P (each_below n f)
each_has P zero f has = tt
each_has P (suc n) f has = (has 0 (omega arith), each_has P n (λ i. f (i + 1)) (λ i lt. has (i + 1) (omega (arith, lt))))

all_spelled : (size : ℕ) (refusal : List ℕ → Unit {0} → Option codec.Error) → ((r : List ℕ) → length r ≡ size → refusal r tt ≡ None) → (bytes : List ℕ) → AllByRecursion (λ r. refusal r tt ≡ None) (records size bytes)
all_spelled size refusal spelled bytes = each_has (λ r. refusal r tt ≡ None) (length bytes / size) (item_at size bytes) (λ i lt. spelled (item_at size bytes i) (item_long size bytes i lt))

-- One of the copies of the markers alone.
raised_side : (y : journal.Error) (side : Side) → raised y ≡ Metadata (store.Corruption side) → y ≡ section.Metadata (store.Corruption side)
raised_side (section.Runtime x) side is = absurd (cc is)
raised_side (section.Metadata (store.Runtime x)) side is = absurd (cc is)
raised_side (section.Metadata (store.Corruption x)) side is = cc
raised_side (section.Metadata store.Full) side is = absurd (cc is)
raised_side (section.Metadata store.Mem) side is = absurd (cc is)
raised_side (section.Codec x) side is = absurd (cc is)
raised_side (section.InvalidBlobName x) side is = absurd (cc is)
raised_side (section.ItemOutOfRange x) side is = absurd (cc is)
raised_side (section.SectionOutOfRange x) side is = absurd (cc is)
raised_side (section.AlreadyPrunedToSection x) side is = absurd (cc is)
raised_side (section.ChecksumMismatch x y) side is = absurd (cc is)
raised_side section.ValueTooLarge side is = absurd (cc is)
raised_side section.OffsetOverflow side is = absurd (cc is)
raised_side (section.Corruption x) side is = absurd (cc is)
raised_side section.ReplayFailed side is = absurd (cc is)
raised_side section.Full side is = absurd (cc is)
raised_side section.Mem side is = absurd (cc is)

raised_stray : (y : journal.Error) → raised y ≡ RecordCorrupted → ⊥
raised_stray (section.Runtime x) is = cc
raised_stray (section.Metadata (store.Runtime x)) is = cc
raised_stray (section.Metadata (store.Corruption x)) is = cc
raised_stray (section.Metadata store.Full) is = cc
raised_stray (section.Metadata store.Mem) is = cc
raised_stray (section.Codec x) is = cc
raised_stray (section.InvalidBlobName x) is = cc
raised_stray (section.ItemOutOfRange x) is = cc
raised_stray (section.SectionOutOfRange x) is = cc
raised_stray (section.AlreadyPrunedToSection x) is = cc
raised_stray (section.ChecksumMismatch x y) is = cc
raised_stray section.ValueTooLarge is = cc
raised_stray section.OffsetOverflow is = cc
raised_stray (section.Corruption x) is = cc
raised_stray section.ReplayFailed is = cc
raised_stray section.Full is = cc
raised_stray section.Mem is = cc

err_is : {A E : Type 0} {y z : E} → ◌≡◌ {A = Result A E} (Err y) (Err z) → y ≡ z
err_is is = cc

-- which error was answered
answered : {T : Type 0} (r : Result T archive.Error) (e z : archive.Error) → r ≡ Err e → IsErrOf r z → e ≡ z
answered r e z back is = err_is (sym back ∙ is)

-- why a walk fails
abbrev pub IsWalkError : {T : Type 0} → Result T archive.Error → Type 0
IsWalkError r = ((d : Damage) × IsErrOf r (Journal (section.Corruption d))) ⊎ (((k : ℕ) × IsErrOf r (Journal (section.Runtime (runtime.InvalidChecksum k))))
    ⊎ (((n : ℕ) × IsErrOf r (Journal (section.ItemOutOfRange n))) ⊎ ((z : codec.Error) × IsErrOf r (Journal (section.Codec z)))))

-- What an answer of an opening says, where an error of its walk made it.
pub record Answer {T F S : Type 0} {gs : _} (told : Type 0) (start : Run F (PageBlob S gs)) (from to : Disk) (first many : ℕ) (r : Result T archive.Error) : Type 0 where
  pub stray : IsErrOf r RecordCorrupted → ⊥
  pub damage : told → (d : Damage) → IsErrOf r (Journal (section.Corruption d))
      → (d.wanted ≡ start.walk.journal.floor_of d.section) × (d.kept < d.wanted) × (d.kept ≡ length (stored_records start.layout (as_read from) d.section) * start.layout.record_size)
  pub damaged : told → (k : ℕ) → IsErrOf r (Journal (section.Runtime (runtime.InvalidChecksum k))) → FindsShort start.layout start.walk.journal.floor_of to k
  pub start_within : told → (n : ℕ) → IsErrOf r (Journal (section.ItemOutOfRange n)) → ⊥
  pub unspelled : told → (z : codec.Error) → IsErrOf r (Journal (section.Codec z)) → ⊥
  pub whole_copies : (side : Side) → IsErrOf r (Metadata (store.Corruption side)) → ⊥
  pub own_names : (n : List ℕ) → IsErrOf r (Journal (section.InvalidBlobName n)) → ⊥
  pub failed : told → IsLawful start.layout (as_read from) (contents_of start.store) → HasFailed r first many
  pub cause : IsWalkError r ⊎ HasFailed r first many

module _ {F S : Type 0} {gs : _} (g : buffer.Ghosts (PageBlob S gs)) (gives : F → Setting) (takes : WriteFactory → Setting) (told : Type 0) (refusal : List ℕ → Unit {0} → Option codec.Error)
    {V : Type 0} (spelling : V → List ℕ) (accepted : V → Unit {0} → Type 0) (start : Run F (PageBlob S gs)) (a : Timeline) (before : OpenedList) (tracked : start.tracked ≡ true)
    (now : Run F (PageBlob S gs)) (e : Timeline) (mid : OpenedList) (was : Passed g gives takes told start a before now e mid) (going : Going told start a now e) (x : Run F (PageBlob S gs)) (f : Timeline) (after : OpenedList) (first few many : ℕ) (risen : first ≤ few)
    (result : Option (Result (ℕ × ℕ × V) journal.Error)) (y : journal.Error) (gave : result ≡ Some (Err y)) (says : Clauses refusal told now x e f g gives takes spelling accepted result mid after few many)
    (laid : now.layout ≡ start.layout) (laid_now : x.layout ≡ now.layout) (spelled : (r : List ℕ) → length r ≡ now.layout.record_size → refusal r tt ≡ None) where
  tracked_now : now.tracked ≡ true
  tracked_now = was.same.tracked ∙ tracked

  is_opening : IsOpeningRun now g told (disk e)
  is_opening = was.over.opening tracked_now

  gave_so : (z : journal.Error) → raised y ≡ Journal z → result ≡ Some (Err z)
  gave_so z is = gave ∙ ap (λ (w : journal.Error). let r : Result (ℕ × ℕ × V) journal.Error = Err w in let o : Option (Result (ℕ × ℕ × V) journal.Error) = Some r in o) (raised_journal y z is)

  below_floor : ArePages g now.layout.seal → Here gives (pair_of now) → told → (d : Damage) → raised y ≡ Journal (section.Corruption d)
      → (d.wanted ≡ start.walk.journal.floor_of d.section) × (d.kept < d.wanted) × (d.kept ≡ length (stored_records start.layout (as_read (disk a)) d.section) * start.layout.record_size)
  below_floor pages here t d is =
      let low = says.damage t d (gave_so (section.Corruption d) is) in
      let s : ℕ = d.section in
      let size : ℕ = now.layout.record_size in
      let small : s < 2 ^ 64 = was.over.index.over.opened_list.number s (inl low.held) in
      let stored : d.kept ≡ length (stored_records now.layout (as_read (disk e)) s) * size = short_stored now mid (disk e) pages here was.over tracked_now going.going t d low in
      let few : length (stored_records now.layout (as_read (disk e)) s) < marker now s = elim (cases_lt (length (stored_records now.layout (as_read (disk e)) s)) (marker now s)) [
        | inl lt ↦ lt
        | inr le ↦ absurd (omega (arith, stored, low.wanted, low.less, is_opening.floors s, mul-le (marker now s) size (length (stored_records now.layout (as_read (disk e)) s)) size le (omega arith)))
      ] in
      let few_start : length (stored_records start.layout (as_read (disk e)) s) < marker start s =
      subst (λ (u : Store Key8 ℕ). length (stored_records start.layout (as_read (disk e)) s) < marker_of u.entries s) was.same.store
      (subst (λ (l : Layout). length (stored_records l (as_read (disk e)) s) < marker now s) laid few) in (
        low.wanted ∙ was.same.walk.floors s,
        low.less,
        stored ∙ ap (λ (l : Layout). length (stored_records l (as_read (disk e)) s) * l.record_size) laid
            ∙ ap (λ (n : ℕ). n * start.layout.record_size) (sym (short_same start.layout (as_read (disk a)) (as_read (disk e)) (marker start s) s (going.stays.keeps t s small) few_start)),
      )

  start_within : told → (n : ℕ) → raised y ≡ Journal (section.ItemOutOfRange n) → ⊥
  start_within t n is =
      let out = says.start t n (gave_so (section.ItemOutOfRange n) is) in
      let none : n * now.layout.record_size ≡ 0 * now.layout.record_size = ap (λ (m : ℕ). m * now.layout.record_size) (out.0 ∙ is_opening.start_position) in
      omega (arith, out.1, none)

  none_unspelled : told → (z : codec.Error) → raised y ≡ Journal (section.Codec z) → ⊥
  none_unspelled t z is =
      let refused : IsUnspelled refusal now (disk e) z = says.refused t z (gave_so (section.Codec z) is) in
      let bytes = kept_bytes now.layout.seal now.layout.record_size now.walk (disk e) refused.section in
      let long : length (get_or (records_over now (disk e) refused.section) refused.position []) ≡ now.layout.record_size =
      ap length (record_at now.layout.record_size bytes refused.position refused.left.whole) ∙ item_long now.layout.record_size bytes refused.position refused.left.whole in
      let fine = spelled (get_or (records_over now (disk e) refused.section) refused.position []) long in
      let bad = refused.refused in
      cc

  module _ {T : Type 0} (r : Result T archive.Error) (back : r ≡ Err (raised y)) where
    so : (z : journal.Error) → y ≡ z → r ≡ Err (raised z)
    so z is = back ∙ ap (λ (w : journal.Error). let q : Result T archive.Error = Err (raised w) in q) is

    failed_only : told → IsLawful start.layout (as_read (disk a)) (contents_of start.store) → HasFailed r first many
    failed_only t lawful =
        let here : IsLawful start.layout (as_read (disk e)) (contents_of start.store) = going.stays.lawful t lawful in
        let laid_back : IsLawful now.layout (as_read (disk e)) (contents_of start.store) = subst (λ (l : Layout). IsLawful l (as_read (disk e)) (contents_of start.store)) (sym laid) here in
        let stored : IsLawful now.layout (as_read (disk e)) (contents_of now.store) = subst (λ (m : _). IsLawful now.layout (as_read (disk e)) (contents_of m)) (sym was.same.store) laid_back in
        let spellings : AreSpellings now.layout refusal (as_read (disk e)) = λ s small. all_spelled now.layout.record_size refusal spelled _ in
        elim (says.complete t tracked_now stored spellings y gave) [
          | inl is ↦ inl (so section.Mem (err_is is))
          | inr is ↦ inr (so (section.Runtime runtime.Fault) (err_is is.0), rose_before first few many risen is.1)
        ]

    caused : IsWalkError r ⊎ HasFailed r first many
    caused = elim (says.cause y gave) [
      | inl is ↦ inl (inr (inr (inl (now.walk.start_position, so (section.ItemOutOfRange now.walk.start_position) is))))
      | inr (inl (d, is)) ↦ inl (inl (d, so (section.Corruption d) (err_is is)))
      | inr (inr (inl (k, is))) ↦ inl (inr (inl (k, so (section.Runtime (runtime.InvalidChecksum k)) (err_is is))))
      | inr (inr (inr (inl (z, is)))) ↦ inl (inr (inr (inr (z, so (section.Codec z) (err_is is)))))
      | inr (inr (inr (inr (inl is)))) ↦ inr (inl (so section.Mem (err_is is)))
      | inr (inr (inr (inr (inr is)))) ↦ inr (inr (so (section.Runtime runtime.Fault) (err_is is.0), rose_before first few many risen is.1))
    ]

  -- Neither the copies of the markers nor a name is refused.
  copies_whole : (side : Side) → raised y ≡ Metadata (store.Corruption side) → ⊥
  copies_whole side is = let same = raised_side y side is in elim (says.cause y gave) [
    | inl w ↦ (let h = sym same ∙ w in absurd (cc h))
    | inr (inl (d, w)) ↦ (let h = sym same ∙ err_is w in absurd (cc h))
    | inr (inr (inl (k, w))) ↦ (let h = sym same ∙ err_is w in absurd (cc h))
    | inr (inr (inr (inl (c, w)))) ↦ (let h = sym same ∙ err_is w in absurd (cc h))
    | inr (inr (inr (inr (inl w)))) ↦ (let h = sym same ∙ err_is w in absurd (cc h))
    | inr (inr (inr (inr (inr w)))) ↦ (let h = sym same ∙ err_is w.0 in absurd (cc h))
  ]

  names_own : (n : List ℕ) → raised y ≡ Journal (section.InvalidBlobName n) → ⊥
  names_own n is = let same = raised_journal y (section.InvalidBlobName n) is in elim (says.cause y gave) [
    | inl w ↦ (let h = sym same ∙ w in absurd (cc h))
    | inr (inl (d, w)) ↦ (let h = sym same ∙ err_is w in absurd (cc h))
    | inr (inr (inl (k, w))) ↦ (let h = sym same ∙ err_is w in absurd (cc h))
    | inr (inr (inr (inl (c, w)))) ↦ (let h = sym same ∙ err_is w in absurd (cc h))
    | inr (inr (inr (inr (inl w)))) ↦ (let h = sym same ∙ err_is w in absurd (cc h))
    | inr (inr (inr (inr (inr w)))) ↦ (let h = sym same ∙ err_is w.0 in absurd (cc h))
  ]

  -- Page k is of a section with a floor, in which no more bytes are than the floor.
  finds_short : ArePages g now.layout.seal → Here gives (pair_of x) → told → (k : ℕ) → raised y ≡ Journal (section.Runtime (runtime.InvalidChecksum k)) → FindsShort start.layout start.walk.journal.floor_of (disk f) k
  finds_short pages here t k is =
      let found : FindsDamage now.layout.seal now.layout.record_size now.walk x.walk (disk f) k = says.damaged t k (gave_so (section.Runtime (runtime.InvalidChecksum k)) is) in
      let opening : IsOpeningRun x g told (disk f) = says.over.opening (says.same.tracked ∙ tracked_now) in
      let held = the_some {P = λ u. (found.position + 1) * now.layout.record_size ≤ size_of (shown u)} (x.walk.journal.sections.held found.section) found.within in
      let u = held.0 in
      let size : section_size x.walk.journal.sections found.section ≡ size_of (shown u) = ap (λ (o : Option (PageBlob S gs)). size_held o) held.1 in
      let short : IsShort now.layout.seal u.page_size (disk f (key_of x.walk.journal.sections found.section)).content (found.position * now.layout.record_size) now.layout.record_size k =
      subst (λ (o : Option (PageBlob S gs)). IsSomeAnd o (λ v. IsShort now.layout.seal v.page_size (disk f (key_of x.walk.journal.sections found.section)).content (found.position * now.layout.record_size) now.layout.record_size k)) held.1 found.page in
      let paged : u.page_size ≡ now.layout.page_size =
      sym (pages.page_size u) ∙ ap (λ (q : Setting). q.page_size) (says.over.index.over.opened_list.setting found.section u held.1) ∙ here.page_size ∙ ap (λ (l : Layout). l.page_size) laid_now in
      let key : key_of x.walk.journal.sections found.section ≡ section_key now.layout.index found.section = ap (λ (p : List ℕ). section_key p found.section) (here.index ∙ ap (λ (l : Layout). l.index) laid_now) in
      subst (λ (l : Layout). FindsShort l start.walk.journal.floor_of (disk f) k) laid (record {
        section = found.section;
        position = found.position;
        below = omega (arith, held.2, size, opening.unowed found.section found.free, says.same.walk.floors found.section, was.same.walk.floors found.section);
        page = subst (λ (n : ℕ). IsShort now.layout.seal n (disk f (section_key now.layout.index found.section)).content (found.position * now.layout.record_size) now.layout.record_size k) paged
            (subst (λ (q : _). IsShort now.layout.seal u.page_size (disk f q).content (found.position * now.layout.record_size) now.layout.record_size k) key short);
      })

  -- All of that of the answer.
  pub answer : {T : Type 0} → ArePages g now.layout.seal → Here gives (pair_of now) → Here gives (pair_of x) → (r : Result T archive.Error) → r ≡ Err (raised y) → Answer told start (disk a) (disk f) first many r
  answer pages before_here here r back = record {
    stray = λ is. raised_stray y (answered r (raised y) RecordCorrupted back is);
    damage = λ t d is. below_floor pages before_here t d (answered r (raised y) (Journal (section.Corruption d)) back is);
    damaged = λ t k is. finds_short pages here t k (answered r (raised y) (Journal (section.Runtime (runtime.InvalidChecksum k))) back is);
    start_within = λ t n is. start_within t n (answered r (raised y) (Journal (section.ItemOutOfRange n)) back is);
    unspelled = λ t z is. none_unspelled t z (answered r (raised y) (Journal (section.Codec z)) back is);
    whole_copies = λ side is. copies_whole side (answered r (raised y) (Metadata (store.Corruption side)) back is);
    own_names = λ n is. names_own n (answered r (raised y) (Journal (section.InvalidBlobName n)) back is);
    failed = failed_only r back;
    cause = caused r back;
  }
