-- What a get of a cache answers.
use Rattle.std.specs.Prelude.{◌≡◌, ◌⊎◌, ℕ, ◌<◌, ◌^◌, ◌==◌, ◌||◌, if◌then◌else◌, Bool, false, true, List, [], ◌∷◌, ◌++◌, length, filter, drop, take, Option, None, Some, is_some, Result, Ok, Err, OnErr}
use Rattle.std.specs.List.{AllByRecursion}
use Rattle.std.specs.Result.{IsErrOf}
use Rattle.std.proofs.Common.{inl, inr, ⊎_elim, refl, sym, ap, ◌∙◌, subst, arith}
use Rattle.std.proofs.lemmas.List.{append-nil, append_assoc}
use Rattle.std.proofs.Math.Seq.{drop-append_seam, take-append_seam}
use Rattle.blob_device.specs.Disk.{Disk}
use Rattle.blob_device.specs.Footprint.{Footprint, NoBound}
use Rattle.blob_device.specs.Timeline.{Always, disk}
use Rattle.blob_device.specs.declared.device.Device as device
use Rattle.blob_device.specs.declared.runtime.RError.TheVariants as runtime
use Rattle.blob_device.specs.Counts.{Rose}
use Rattle.blob_device.specs.lemmas.Footprint.{footprint_none}
use Rattle.blob_device.specs.lemmas.Moments.{always_now, always_start, always_weaker}
use Rattle.value_codec.specs.declared.codec.Error as codec
use Rattle.value_codec.specs.Varint.{varint, IsVarint}
use Rattle.value_codec.specs.lemmas.Varint.{varint_spells}
use Rattle.value_codec.specs.lemmas.VarintPrefix.{prefix_gives}
use Rattle.variable_journal.specs.lemmas.Frame.{are_frames, frames_append, one_frame}
use Rattle.variable_journal.specs.lemmas.Keeping.{journal_read}
use Rattle.sealed_pages.specs.declared.page_blob.PageBlob.{PageBlob}
use Rattle.section_manager.specs.Sections.{key_of}
use Rattle.section_manager.specs.Setting.{Setting}
use Rattle.section_manager.specs.declared.buffer.SectionBuffer as buffer
use Rattle.section_manager.specs.Refusing.{HasFailed, IsPruned}
use Rattle.section_manager.specs.declared.journal.Error.{Error}
use Rattle.section_manager.specs.declared.journal.Error.TheVariants.{Codec, Runtime}
use Rattle.section_manager.specs.declared.sealed.AppendFactory.{AppendFactory}
use Rattle.segments.specs.FixedLists.{Lists, bytes_held}
use Rattle.segments.specs.FixedReading.{IsAbsent, IsPast}
use Rattle.variable_journal.specs.Frames.{frames, items_of, rest_of, AreFrames, BeginsWithFrame, HasBadLength}
use Rattle.variable_journal.specs.Reading as journal
use Rattle.variable_journal.specs.Reading.{FrameOf, IsRefusedBy}
use Rattle.cache_store.specs.Caches.{Cache, IsTold, bytes_in, holds, state_of}
use Rattle.cache_store.specs.Changes.{Gets, IsFailure, IsSoundOver, MayUse, state_over, wanted}
use Rattle.cache_store.specs.Filing.{offset_in}
use Rattle.cache_store.specs.Machine.{Entry, first_value, has_entry, section_of, value_at}
use Rattle.cache_store.specs.Records.{entry_of, record_bytes, record_refusal}
use Rattle.cache_store.proofs.AskLemmas.{held_is}
use Rattle.cache_store.proofs.EndLemmas.{err_cause, failed, failed_of, ok_value, rose_of}
use Rattle.cache_store.proofs.HoldingLemmas.{err_is, ok_is}
use Rattle.cache_store.proofs.LawfulLemmas.{entry_record, no_items}
use Rattle.cache_store.proofs.OffsetLemmas.{FoundAt, found_at}
use Rattle.cache_store.proofs.RestLemmas.{rest_leaves}
use Rattle.cache_store.specs.Standing.{Leaves}
use Rattle.blob_device.proofs.general.Options.{none_or_value}

-- an index that no entry has has no value
pub no_value : (index : ℕ) (es : List (Entry (List ℕ))) → has_entry index es ≡ false → first_value (filter (λ e. e.index == index) es) ≡ None
no_value index [] none = refl
no_value index (e ∷ es) none = go (e.index == index) none (no_value index es)
  where
    go : (b : Bool) → (b || has_entry index es) ≡ false → (has_entry index es ≡ false → first_value (filter (λ x. x.index == index) es) ≡ None)
        → first_value (if b then e ∷ filter (λ x. x.index == index) es else filter (λ x. x.index == index) es) ≡ None
    go true is later = absurd (cc is)
    go false is later = later is

-- what holds of each holds of one of them
one_of : {X : Type 0} (P : X → Type 0) (before after : List X) (x : X) → AllByRecursion P (before ++ x ∷ after) → P x
one_of P [] after x all = all.0
one_of P (y ∷ before) after x all = one_of P before after x all.1

-- the section by another name
pub at_index : {F S V C D : Type 0} {gs : _} {seal : List ℕ → ℕ} {spelling : V → List ℕ} {accepted : V → C → Type 0} {refusal : List ℕ → C → Option codec.Error} {config : C}
    {dev : device.Ghosts D} {offset : ℕ} {j : Lists F (PageBlob S gs)} {result : Result V Error} {old new : D} (s r : ℕ) → s ≡ r
    → journal.Gets seal spelling accepted refusal config dev s offset j result old new → journal.Gets seal spelling accepted refusal config dev r offset j result old new
at_index {seal = seal} {spelling = spelling} {accepted = accepted} {refusal = refusal} {config = config} {dev = dev} {offset = offset} {j = j} {result = result} {old = old} {new = new} s r same did =
    subst (λ (x : ℕ). journal.Gets seal spelling accepted refusal config dev x offset j result old new) same did

-- where a frame begins no length is refused
frame_not_bad : (bytes item rest : List ℕ) → BeginsWithFrame bytes item rest → HasBadLength bytes → ⊥
frame_not_bad bytes item rest begins bad =
    let v = varint (length item) in
    let head : take (length v) bytes ≡ v = ap (take (length v)) (begins.is ∙ append_assoc v item rest) ∙ take-append_seam v (item ++ rest) in
    bad.none (length item) (length v) begins.fits (subst (λ (bs : List ℕ). IsVarint bs (length item)) (sym head) (varint_spells (length item)))

-- a fault is answered where the device failed, and for nothing else
fault_rose : {T : Type 0} (r : Result T Error) (section offset floor a b : ℕ) → r ≡ Err (Runtime runtime.Fault)
    → OnErr r (IsPruned r floor ⊎ (IsAbsent r section ⊎ (IsPast r offset ⊎ (((k : ℕ) × IsErrOf r (Runtime (runtime.InvalidChecksum k)))
    ⊎ (((e : codec.Error) × IsErrOf r (Codec e)) ⊎ HasFailed r a b)))))
    → Rose a b
fault_rose (Ok v) section offset floor a b is cause = absurd (cc is)
fault_rose (Err x) section offset floor a b is (inl other) = absurd (cc (is, other))
fault_rose (Err x) section offset floor a b is (inr (inl other)) = absurd (cc (is, other))
fault_rose (Err x) section offset floor a b is (inr (inr (inl other))) = absurd (cc (is, other))
fault_rose (Err x) section offset floor a b is (inr (inr (inr (inl other)))) = absurd (cc (is, other.1))
fault_rose (Err x) section offset floor a b is (inr (inr (inr (inr (inl other))))) = absurd (cc (is, other.1))
fault_rose {T = T} (Err x) section offset floor a b is (inr (inr (inr (inr (inr has))))) = rose_of (Runtime runtime.Fault) a b (failed {T = T} (Err x) a b (Runtime runtime.Fault) is has) refl

module _ {S D : Type 0} {gs : _} (g : buffer.Ghosts (PageBlob S gs)) (gives : AppendFactory S → Setting) (sized : (u : PageBlob S gs) → (g.setting u).page_size ≡ u.page_size)
    (dev : device.Ghosts D) (c : Cache (AppendFactory S) (PageBlob S gs)) (index : ℕ) (now : D) (over : MayUse g gives dev c now) where
  -- what crashes leave between calls
  rest : dev.Tells → IsSoundOver g gives dev c now → Leaves c.layout (wanted g gives dev c None now) (disk (dev.time now))
  rest t sound = rest_leaves g gives sized dev.Tells c (dev.opened now) (disk (dev.time now)) over t sound (wanted g gives dev c None now) (λ s. refl) (λ s. refl)

  -- the index is not held
  pub get_absent : c.offsets index ≡ None → Gets g gives dev c index (Ok None) now now
  get_absent none = record {
    step = λ t v is. (sym (ok_is is) ∙ sym (no_value index _ (sym (held_is c (disk (dev.time now)) (over.memory t) index) ∙ ap is_some none)), refl);
    over = over;
    unchanged = λ t. always_start (dev.time now) _ refl;
    moments = λ t sound. always_start (dev.time now) _ (rest t sound);
    absent = λ not. (refl, refl);
    footprint = footprint_none dev _ NoBound now now refl;
    cause = λ t e is. absurd (cc is);
    fault = λ is. absurd (cc is);
  }

  -- it is held, and the journal read its record
  module _ {V C : Type 0} (offset : ℕ) (held : c.offsets index ≡ Some offset) (spelling : V → List ℕ) (index_of : V → ℕ) (value_of : V → List ℕ)
      (accepted : V → C → Type 0) (small : (v : V) (cfg : C) → accepted v cfg → index_of v < 2 ^ 64) (spells : (v : V) → spelling v ≡ record_bytes (index_of v) (value_of v))
      (refusal : List ℕ → C → Option codec.Error) (cfg : C) (refuses : (x : List ℕ) → refusal x cfg ≡ record_refusal c.layout.refusal x)
      (result : Result V Error) (new : D)
      (did : journal.Gets c.layout.seal spelling accepted refusal cfg dev (section_of c.layout.items index) offset c.journal result now new) where
    abbrev bytes : List ℕ
    bytes = bytes_in c (disk (dev.time now)) (section_of c.layout.items index)

    module _ (t : dev.Tells) where
      found : FoundAt index 0 offset (items_of (bytes_in c (disk (dev.time now)) (section_of c.layout.items index)))
      found = found_at index 0 offset _ (sym ((over.memory t).listed index) ∙ held)

      are : AreFrames (bytes_in c (disk (dev.time now)) (section_of c.layout.items index)) (items_of (bytes_in c (disk (dev.time now)) (section_of c.layout.items index)))
          (rest_of (bytes_in c (disk (dev.time now)) (section_of c.layout.items index)))
      are = are_frames (bytes_in c (disk (dev.time now)) (section_of c.layout.items index))

      -- the frame of the record begins there
      begins : BeginsWithFrame (drop offset (bytes_in c (disk (dev.time now)) (section_of c.layout.items index))) found.item (frames found.after)
      begins = record {
        fits = one_of (λ x. length x < 2 ^ 32) found.before found.after found.item (subst (AllByRecursion (λ x. length x < 2 ^ 32)) found.is are.fit);
        is = (let start : offset ≡ length (frames found.before) = omega (arith, found.begins) in
            (λ i. drop (start i) (whole i)) ∙ drop-append_seam (frames found.before) (frames (found.item ∷ found.after)));
      }
        where
          whole : bytes_in c (disk (dev.time now)) (section_of c.layout.items index) ≡ frames found.before ++ frames (found.item ∷ found.after)
          whole = are.is ∙ (λ i. frames (items_of (bytes_in c (disk (dev.time now)) (section_of c.layout.items index))) ++ over.journal.framed t (section_of c.layout.items index) (over.recovered (section_of c.layout.items index)) i)
              ∙ append-nil _ ∙ ap frames found.is ∙ frames_append found.before (found.item ∷ found.after)

      -- it is what was read
      value_is : (v : V) → FrameOf spelling accepted cfg (drop offset (bytes_in c (disk (dev.time now)) (section_of c.layout.items index))) v
          → Some (value_of v) ≡ value_at c.layout.items (state_over g gives dev c now) index
      value_is v frame_of =
          let same : frame_of.item ≡ found.item = (one_frame _ frame_of.item frame_of.rest found.item (frames found.after) frame_of.begins.is begins.is).0 in
          let item : found.item ≡ record_bytes (index_of v) (value_of v) = sym same ∙ sym frame_of.spells.spelled ∙ spells v in
          let entry = entry_record c.layout 0 [] (index_of v) (value_of v) (prefix_gives (2 ^ 64) 10 (index_of v) (value_of v) (small v cfg frame_of.spells.allowed)) in
          sym (found.value ∙ ap (λ (x : List ℕ). Some (entry_of x).value) item ∙ ap (λ (e : Entry (List ℕ)). Some e.value) entry)

      section_held : c.journal.sections.held (section_of c.layout.items index) ≡ None → ⊥
      section_held none = (let it : offset_in index 0 (items_of (bytes_in c (disk (dev.time now)) (section_of c.layout.items index))) ≡ None =
          ap (offset_in index 0) (ap (λ (o : Option (PageBlob S gs)). items_of (bytes_held o (disk (dev.time now) (key_of c.journal.sections (section_of c.layout.items index))).content)) none ∙ no_items) in
          cc (it, (over.memory t).listed index, held))

      none_refused : (e : codec.Error) → IsRefusedBy refusal cfg (drop offset (bytes_in c (disk (dev.time now)) (section_of c.layout.items index))) e → ⊥
      none_refused e (inl bad) = frame_not_bad _ found.item (frames found.after) begins bad.1
      none_refused e (inr code) =
          let same : code.0 ≡ found.item = (one_frame _ code.0 code.1 found.item (frames found.after) code.2.is begins.is).0 in
          let fine : record_refusal c.layout.refusal found.item ≡ None = one_of (λ x. record_refusal c.layout.refusal x ≡ None) found.before found.after found.item
          (subst (AllByRecursion (λ x. record_refusal c.layout.refusal x ≡ None)) found.is ((over.memory t).decoded (section_of c.layout.items index))) in
          let said : record_refusal c.layout.refusal found.item ≡ Some e = ap (record_refusal c.layout.refusal) (sym same) ∙ sym (refuses code.0) ∙ code.3 in
          cc (said, fine)

      -- nothing is refused
      no_other : (e : Error) → result ≡ Err e → IsFailure (dev.faults now) (dev.faults new) e
      no_other e is = elim (err_cause result e is did.cause) [
        | inl pruned ↦ absurd (⊎_elim section_held
            (λ some. (let low = did.guard.0 pruned in let from = over.journal.bytes.over.opened_list.from_floor (section_of c.layout.items index) (inl (ap is_some some.1)) in omega (arith, low, from)))
            (none_or_value (c.journal.sections.held (section_of c.layout.items index))))
        | inr (inl none) ↦ absurd (section_held (did.absent.0 none).1)
        | inr (inr (inl past)) ↦ absurd ((did.past t past).none found.item (frames found.after) begins)
        | inr (inr (inr (inl page))) ↦ absurd (did.sound t (over.recovered (section_of c.layout.items index)) page.0 page.1)
        | inr (inr (inr (inr (inl code)))) ↦ absurd (none_refused code.0 (did.refused t code.0 code.1))
        | inr (inr (inr (inr (inr has)))) ↦ failed_of result _ _ e is has
      ]

    disk_same : dev.Tells → disk (dev.time new) ≡ disk (dev.time now)
    disk_same t = always_now _ _ _ (did.unchanged t)

    -- the cache may still be used
    still : MayUse g gives dev c new
    still = record {
      journal = journal_read g gives c.layout.seal dev.Tells c.journal (key_of c.journal.sections (section_of c.layout.items index)) (dev.opened now) (dev.opened new)
          (disk (dev.time now)) (disk (dev.time new)) did.entries disk_same over.journal;
      ceiling = over.ceiling;
      recovered = over.recovered;
      partition = over.partition;
      pages = over.pages;
      items = over.items;
      floor = over.floor;
      journal_floor = over.journal_floor;
      indices = over.indices;
      below = over.below;
      none_below = over.none_below;
      written = over.written;
      settled = over.settled;
      memory = λ t. subst (IsTold c) (sym (disk_same t)) (over.memory t);
    }

    footprint : Footprint dev (λ q. q ≡ key_of c.journal.sections (section_of c.layout.items index)) NoBound now new
    footprint = record {
      alone = λ t. always_weaker _ _ _ _ (λ d same q other. ap (λ (x : Disk). x q) same) (did.unchanged t);
      entries = did.entries.others;
      reads = λ q n most. absurd most;
      faults = did.faults;
    }

    moments : dev.Tells → IsSoundOver g gives dev c now → Always (dev.time now) (dev.time new) (Leaves c.layout (wanted g gives dev c None now))
    moments t sound = always_weaker _ _ _ _ (λ d same. subst (Leaves c.layout (wanted g gives dev c None now)) (sym same) (rest t sound)) (did.unchanged t)

    not_absent : holds c index ≡ false → ⊥
    not_absent is = cc (is, held)

    -- it was read
    pub get_done : (v : V) → result ≡ Ok v → Gets g gives dev c index (Ok (Some (value_of v))) now new
    get_done v is = record {
      step = λ t x same. (sym (ok_is same) ∙ value_is t v (ok_value _ result v is (did.value t)), ap (state_of c) (disk_same t));
      over = still;
      unchanged = did.unchanged;
      moments = moments;
      absent = λ not. absurd (not_absent not);
      footprint = footprint;
      cause = λ t e no. absurd (cc no);
      fault = λ no. absurd (cc no);
    }

    -- it was not
    pub get_failed : (e : Error) → result ≡ Err e → Gets g gives dev c index (Err e) now new
    get_failed e is = record {
      step = λ t x same. absurd (cc same);
      over = still;
      unchanged = did.unchanged;
      moments = moments;
      absent = λ not. absurd (not_absent not);
      footprint = footprint;
      cause = λ t x same. subst (IsFailure (dev.faults now) (dev.faults new)) (err_is same) (no_other t e is);
      fault = λ same. fault_rose result _ _ _ _ _ (is ∙ ap (λ (x : Error). Err x) (err_is same)) did.cause;
    }
