-- What a call answers that reads an item of a section, from how the read of the section's buffer ended.
use Rattle.std.proofs.Common.{◌≡◌, ◌∙◌, ◌⊎◌, ◌↔◌, inl, inr, ℕ, ◌<◌, ◌≤◌, false, List, length, drop, Option, Some, None, IsSomeAnd, Result, Ok, Err, refl, sym, ap, subst, arith}
use Rattle.blob_device.specs.Disk.{Blob, Disk, Key}
use Rattle.blob_device.specs.Timeline.{disk}
use Rattle.blob_device.specs.declared.device.Device as device
use Rattle.value_codec.specs.declared.codec.Error as codec
use Rattle.sealed_pages.specs.Buffer as pages
use Rattle.sealed_pages.specs.Buffer.{bytes_of, IsBacked, IsSealed}
use Rattle.sealed_pages.specs.Entries.{IsOpenAt}
use Rattle.sealed_pages.specs.Reading.{OnlyRead}
use Rattle.sealed_pages.specs.Reads.{IsHeld}
use Rattle.sealed_pages.specs.Shown.{shown}
use Rattle.sealed_pages.specs.declared.page_blob.PageBlob.{PageBlob}
use Rattle.sealed_pages.specs.lemmas.looking.Looking.{unchanged_now, unchanged_start}
use Rattle.section_manager.specs.Refusing.{IsPruned}
use Rattle.section_manager.specs.Sections.{key_of}
use Rattle.section_manager.specs.Setting.{Setting}
use Rattle.section_manager.specs.declared.buffer.SectionBuffer as buffer
use Rattle.section_manager.specs.declared.journal.Error.{Error}
use Rattle.section_manager.specs.declared.journal.Error.TheVariants.{AlreadyPrunedToSection, ItemOutOfRange, SectionOutOfRange}
use Rattle.segments.specs.FixedLists.{Lists, section_bytes}
use Rattle.segments.specs.FixedReading.{IsAbsent}
use Rattle.segments.specs.lemmas.adding.Write.{ArePages}
use Rattle.segments.specs.lemmas.held.Sections.{bytes_own, from_here, holds_own, is_held, own_here, size_here}
use Rattle.variable_journal.specs.FrameReading.{IsIdle, blob_under, bytes_under, EndsPast, Fails, Finds, HasChecked, OnlyLooks, Reads}
use Rattle.variable_journal.specs.Frames.{frame, BeginsWithFrame}
use Rattle.variable_journal.specs.Lists.{IsJournal}
use Rattle.variable_journal.specs.Reaching.{frame_reach, IsCoveredTo, IsDamagedTo}
use Rattle.variable_journal.specs.Reading.{FrameOf, Gets, IsPastLast, IsRefusedBy}
use Rattle.variable_journal.proofs.ReadingLemmas.{failed_cause, failed_code, failed_held, failed_page, failed_past, looked_start}

-- the section was refused
pub section_refused : {F S V C D : Type 0} {gs : _} (seal : List ℕ → ℕ) (spelling : V → List ℕ) (accepted : V → C → Type 0) (refusal : List ℕ → C → Option codec.Error)
    (config : C) (dev : device.Ghosts D) (s offset : ℕ) (j : Lists F (PageBlob S gs)) (old : D) (e : Error) → (IsPruned {T = V} (Err e) j.sections.floor ↔ (s < j.sections.floor))
    → (IsAbsent {T = V} (Err e) s ↔ ((j.sections.floor ≤ s) × (j.sections.held s ≡ None)))
    → (e ≡ AlreadyPrunedToSection j.sections.floor) ⊎ (e ≡ SectionOutOfRange s)
    → Gets seal spelling accepted refusal config dev s offset j (Err e) old old
section_refused seal spelling accepted refusal config dev s offset j old e guard absent why = record {
  value = λ t. tt;
  guard = guard;
  absent = absent;
  behind = λ u held le past. absurd (elim why [
    | inl pruned ↦ (let low = guard.0 (ap Err pruned) in omega (arith, low, le))
    | inr none ↦ (let gone = (absent.0 (ap Err none)).1 in cc (held, gone))
  ]);
  past = λ t is. absurd (elim why [ inl pruned ↦ cc (is, pruned) | inr none ↦ cc (is, none) ]);
  checked = λ t said. absurd (elim said [
    | inl is ↦ elim why [ inl pruned ↦ cc (is, pruned) | inr none ↦ cc (is, none) ]
    | inr code ↦ (let is = code.1 in elim why [ inl pruned ↦ cc (is, pruned) | inr none ↦ cc (is, none) ])
  ]);
  damaged = λ t k is. absurd (elim why [ inl pruned ↦ cc (is, pruned) | inr none ↦ cc (is, none) ]);
  sound = λ t free k is. elim why [ inl pruned ↦ cc (is, pruned) | inr none ↦ cc (is, none) ];
  refused = λ t x is. absurd (elim why [ inl pruned ↦ cc (is, pruned) | inr none ↦ cc (is, none) ]);
  idle = λ t item rest begins held. refl;
  unchanged = λ t. unchanged_start (dev.time old);
  entries = record { others = λ q other. refl; length = λ n is. is };
  faults = omega arith;
  cause = elim why [ inl pruned ↦ inl (ap Err pruned) | inr none ↦ inr (inl (ap Err none)) ];
}

-- The section is held.
module _ {F S D : Type 0} {gs : _} (seal : List ℕ → ℕ) (dev : device.Ghosts D) (s : ℕ) (j : Lists F (PageBlob S gs)) (old : D) (g : buffer.Ghosts (PageBlob S gs)) (gives : F → Setting)
    (are : ArePages g seal) (extent : (u : PageBlob S gs) → g.extent u ≡ u.end) (over : IsJournal g gives seal dev.Tells j (dev.opened old) (disk (dev.time old)))
    (u : PageBlob S gs) (held : j.sections.held s ≡ Some u) where
  pub key : pages.key_of (shown u) ≡ key_of j.sections s
  key = sym (are.key u) ∙ over.bytes.over.opened_list.key s u held

  pub floor : j.sections.floor ≤ s
  floor = over.bytes.over.opened_list.from_floor s (inl (is_held j.sections s u held))

  pub open_at : IsOpenAt (dev.opened old) (pages.key_of (shown u)) u.end
  open_at = rw (sym (extent u)) (subst (λ (q : Key). IsOpenAt (dev.opened old) q (g.extent u)) (sym key) (over.bytes.over.opened_list.is_open s u held))

  -- After reads of its blob, at the offset o.
  module _ (now : D) (looks : OnlyLooks dev (pages.key_of (shown u)) old now) (o : ℕ) where
    same : dev.Tells → blob_under dev u o now ≡ blob_under dev u o old
    same t = ap (λ (d : Disk). d (pages.key_of (shown u))) (unchanged_now (dev.time old) (dev.time now) (looks.unchanged t))

    pub bytes_now : dev.Tells → bytes_under dev u o now ≡ drop o (section_bytes j.sections (disk (dev.time old)) s)
    bytes_now t = ap (λ (b : Blob). drop o (bytes_of (shown u) b.content)) (same t) ∙ sym (ap (drop o) (bytes_own j.sections s u held key (disk (dev.time old))))

    pub backed_now : dev.Tells → IsBacked seal (shown u) (blob_under dev u o now).content
    backed_now t = subst (λ (b : Blob). IsBacked seal (shown u) b.content) (sym (same t))
        (holds_own j.sections s u held key seal (disk (dev.time old)) (are.stands u (disk (dev.time old) (key_of j.sections s)) ((over.bytes.over.disk t).stands s u held)))

    pub sealed_now : dev.Tells → j.unrecovered s ≡ false → IsSealed seal (shown u) (blob_under dev u o now)
    sealed_now t free = subst (IsSealed seal (shown u)) (sym (same t))
        (subst (λ (q : Key). IsSealed seal (shown u) (disk (dev.time old) q)) (sym key) ((over.bytes.disk t).sealed s u held (record { checked = free; free = over.free s })))

    -- what is said of pages
    page_now : (Q : PageBlob S gs → Blob → List ℕ → Type 0) → dev.Tells → Q u (blob_under dev u o now) (bytes_under dev u o now)
        → IsSomeAnd (j.sections.held s) (λ v. Q v (disk (dev.time old) (key_of j.sections s)) (drop o (section_bytes j.sections (disk (dev.time old)) s)))
    page_now Q t has = own_here j.sections s u held key (λ v b. Q v b (drop o (section_bytes j.sections (disk (dev.time old)) s))) (disk (dev.time old))
        (subst (Q u (blob_under dev u o old)) (bytes_now t) (subst (λ (b : Blob). Q u b (bytes_under dev u o now)) (same t) has))

    pub covered_now : dev.Tells → HasChecked seal dev u o now frame_reach
        → IsSomeAnd (j.sections.held s) (λ v. IsCoveredTo seal v (disk (dev.time old) (key_of j.sections s)).content o (frame_reach (drop o (section_bytes j.sections (disk (dev.time old)) s))))
    covered_now = page_now (λ v b l. IsCoveredTo seal v b.content o (frame_reach l))

    pub damaged_now : dev.Tells → (k : ℕ) → IsDamagedTo seal u (blob_under dev u o now).content o (frame_reach (bytes_under dev u o now)) k
        → IsSomeAnd (j.sections.held s) (λ v. IsDamagedTo seal v (disk (dev.time old) (key_of j.sections s)).content o (frame_reach (drop o (section_bytes j.sections (disk (dev.time old)) s))) k)
    damaged_now t k = page_now (λ v b l. IsDamagedTo seal v b.content o (frame_reach l) k) t

    -- a frame that is in memory needs no call of the device
    pub idle_now : (new : D) → IsIdle seal dev u o now new → dev.Tells → (item rest : List ℕ) → BeginsWithFrame (drop o (section_bytes j.sections (disk (dev.time old)) s)) item rest
        → IsSomeAnd (j.sections.held s) (λ v. IsHeld (shown v) o (length (frame item))) → new ≡ now
    idle_now new idle t item rest begins has = idle t (backed_now t) item rest (subst (λ (l : List ℕ). BeginsWithFrame l item rest) (sym (bytes_now t)) begins)
        (from_here j.sections s u held (λ v. IsHeld (shown v) o (length (frame item))) has)

  pub entries_there : (new : D) → OnlyRead (pages.key_of (shown u)) (dev.opened old) (dev.opened new) → OnlyRead (key_of j.sections s) (dev.opened old) (dev.opened new)
  entries_there new = subst (λ (q : Key). OnlyRead q (dev.opened old) (dev.opened new)) key

  module _ {V C : Type 0} (spelling : V → List ℕ) (accepted : V → C → Type 0) (refusal : List ℕ → C → Option codec.Error) (config : C) (offset : ℕ) (new : D) (idle : IsIdle seal dev u offset old new) where
    start : OnlyLooks dev (pages.key_of (shown u)) old old
    start = looked_start seal dev u offset old

    -- the item was read
    pub gets_found : (v : V) → Finds seal dev u offset old frame_reach (IsRefusedBy refusal config) (FrameOf spelling accepted config) new v
        → Gets seal spelling accepted refusal config dev s offset j (Ok v) old new
    gets_found v did = record {
      value = λ t. subst (λ (l : List ℕ). FrameOf spelling accepted config l v) (bytes_now old start offset t) (did.value t (backed_now old start offset t));
      guard = (λ is. absurd (cc is), λ low. absurd (omega (arith, low, floor)));
      absent = (λ is. absurd (cc is), λ none. absurd (let gone = none.1 in cc (held, gone)));
      behind = λ w is le past. absurd (omega (arith, past, size_here j.sections s u held, did.inside));
      past = λ t is. absurd (cc is);
      checked = λ t said. covered_now old start offset t (did.checked t (backed_now old start offset t));
      damaged = λ t k is. absurd (cc is);
      sound = λ t free k is. cc is;
      refused = λ t x is. absurd (cc is);
      idle = idle_now old start offset new idle;
      unchanged = did.looks.unchanged;
      entries = entries_there new did.looks.entries;
      faults = did.looks.faults;
      cause = tt;
    }

    -- it was not
    module _ (e : Error) (did : Fails seal dev u offset old frame_reach (IsRefusedBy refusal config) new e) where
      past_is : (is : ◌≡◌ {A = Result V Error} (Err e) (Err (ItemOutOfRange offset))) → EndsPast seal dev u offset old frame_reach e
      past_is is = (failed_past seal dev u offset old refusal config new e did (Err e) refl offset is).0

      pub gets_failed : Gets seal spelling accepted refusal config dev s offset j (Err e) old new
      gets_failed = record {
        value = λ t. tt;
        guard = (λ is. absurd (failed_held seal dev u offset old refusal config new e did (Err e) refl j.sections.floor s (inl is)), λ low. absurd (omega (arith, low, floor)));
        absent = (λ is. absurd (failed_held seal dev u offset old refusal config new e did (Err e) refl j.sections.floor s (inr is)), λ none. absurd (let gone = none.1 in cc (held, gone)));
        behind = λ w is le past. elim did.why [
          | inl end ↦ ap Err end.is
          | inr more ↦ absurd (omega (arith, past, size_here j.sections s u held, more.0))
        ];
        past = λ t is. subst IsPastLast (bytes_now old start offset t) ((past_is is).past t (backed_now old start offset t));
        checked = λ t said. covered_now old start offset t (elim said [
          | inl is ↦ (past_is is).checked t (backed_now old start offset t)
          | inr code ↦ (failed_code seal dev u offset old refusal config new e did (Err e) refl code.0 code.1).0.checked t (backed_now old start offset t)
        ]);
        damaged = λ t k is.
            (let page = failed_page seal dev u offset old refusal config new e did (Err e) refl k is in
            subst (λ (n : ℕ). IsSomeAnd (j.sections.held s) (λ v. IsDamagedTo seal v (disk (dev.time old) (key_of j.sections s)).content offset (frame_reach (drop offset (section_bytes j.sections (disk (dev.time old)) s))) n))
            page.1 (damaged_now old start offset t page.0.page (page.0.damaged t (backed_now old start offset t))));
        sound = λ t free k is. (failed_page seal dev u offset old refusal config new e did (Err e) refl k is).0.sound t (sealed_now old start offset t free);
        refused = λ t x is.
            (let bad = failed_code seal dev u offset old refusal config new e did (Err e) refl x is in
            subst (IsRefusedBy refusal config (drop offset (section_bytes j.sections (disk (dev.time old)) s))) bad.1
            (subst (λ (l : List ℕ). IsRefusedBy refusal config l bad.0.cause) (bytes_now old start offset t) (bad.0.refused t (backed_now old start offset t))));
        idle = idle_now old start offset new idle;
        unchanged = did.looks.unchanged;
        entries = entries_there new did.looks.entries;
        faults = did.looks.faults;
        cause = inr (inr (failed_cause seal dev u offset old refusal config new e did (Err e) refl));
      }

    pub gets_of : (result : Result V Error) → Reads seal dev u offset old frame_reach (IsRefusedBy refusal config) (FrameOf spelling accepted config) new result
        → Gets seal spelling accepted refusal config dev s offset j result old new
    gets_of (Ok v) did = gets_found v did
    gets_of (Err e) did = gets_failed e did
