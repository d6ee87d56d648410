-- A cache whose journal was opened and replayed whole, and whose records were entered.
use Rattle.std.specs.Prelude.{◌≡◌, ℕ, ◌-◌, ◌^◌, ◌<◌, ◌≤◌, Bool, false, true, List, [], length, map, take, Option, None, Some, IsSome, is_some, cond, Ok}
use Rattle.std.specs.List.{AllByRecursion}
use Rattle.std.proofs.Common.{inl, inr, ⊎_elim, refl, sym, ap, ◌∙◌, subst, arith}
use Rattle.std.proofs.lemmas.Bool.{cases_lt, false_from_ne_true}
use Rattle.std.proofs.lemmas.List.{take_all}
use Rattle.blob_device.specs.Disk.{Key, Blob, Disk}
use Rattle.blob_device.specs.Opened.{OpenedList}
use Rattle.blob_device.specs.Timeline.{disk}
use Rattle.blob_device.specs.declared.device.Device as device
use Rattle.blob_device.specs.lemmas.Moments.{always_now}
use Rattle.sealed_pages.specs.Buffer.{bytes_of, size_of}
use Rattle.sealed_pages.specs.SealedPrefix.{sealed_prefix}
use Rattle.sealed_pages.specs.Shown.{shown}
use Rattle.sealed_pages.specs.declared.page_blob.PageBlob.{PageBlob}
use Rattle.sealed_pages.specs.declared.pages.Pages.{Pages}
use Rattle.section_manager.specs.SealedLaws.{all_settled, counted}
use Rattle.section_manager.specs.Sections.{Sections, key_of, section_key, IsHeld, IsOver}
use Rattle.section_manager.specs.Setting.{Setting}
use Rattle.section_manager.specs.declared.buffer.SectionBuffer as buffer
use Rattle.section_manager.specs.declared.sealed.AppendFactory.{AppendFactory}
use Rattle.sealed_pages.specs.lemmas.cutting.Truncating.{all_flushed}
use Rattle.section_manager.specs.lemmas.buffers.NothingSealed.{nothing_sealed}
use Rattle.segments.specs.lemmas.replay.Kept.{sealed_flushed}
use Rattle.segments.specs.FixedLists.{Lists, bytes_held, section_bytes, size_held}
use Rattle.segments.specs.FixedOpens as bytes
use Rattle.segments.specs.FixedReplay.{Walk, kept_of}
use Rattle.variable_journal.specs.Advancing.{HasGone, IsGoing}
use Rattle.variable_journal.specs.Finishing.{Finishes}
use Rattle.variable_journal.specs.Frames.{items_of, rest_of, HasBadLength}
use Rattle.variable_journal.specs.Lists.{IsJournal}
use Rattle.variable_journal.specs.Replaying.{given_bytes}
use Rattle.cache_store.specs.Caches.{Cache, IsCache, IsTold, bytes_in, state_of}
use Rattle.cache_store.specs.Filing.{offset_in, synced_in}
use Rattle.cache_store.specs.Kept.{IsStart, Layout, entries_of, sealed_bytes, sealed_in}
use Rattle.cache_store.specs.Machine.{section_of}
use Rattle.cache_store.specs.Reopening.{as_read}
use Rattle.cache_store.specs.Records.{entry_of, record_refusal}
use Rattle.cache_store.specs.Replayed.{AreEntered}
use Rattle.cache_store.proofs.LawfulLemmas.{no_items, no_rest}
use Rattle.cache_store.proofs.PlaceLemmas.{first_section}
use Rattle.cache_store.proofs.SyncedLemmas.{Reads}
use Rattle.blob_device.proofs.general.Options.{none_or_value, some_of}
use Rattle.section_manager.specs.Sealed.{is_unsettled}

-- the journal that a finished replay gave back
module _ {F S D V C : Type 0} {gs : _} (g : buffer.Ghosts (PageBlob S gs)) (gives : F → Setting) (seal : List ℕ → ℕ) (dev : device.Ghosts D)
    (spelling : V → List ℕ) (accepted : V → C → Type 0) (config : C) (w : Walk F (PageBlob S gs)) (at : D) (over : IsGoing g gives seal dev w at)
    (k : Lists F (PageBlob S gs)) (cfg : C) (finish : Finishes seal spelling accepted config w (Ok k) (Ok cfg)) where
  pub journal_back : IsJournal g gives seal dev.Tells k (dev.opened at) (disk (dev.time at))
  journal_back = record {
    bytes = record {
      over = subst (λ (m : Sections F (PageBlob S gs)). IsOver g gives dev.Tells m (dev.opened at) (disk (dev.time at))) (sym finish.sections) over.bytes.over;
      owes_held = finish.held over.bytes.walk;
      owes_settled = finish.settled over.bytes.walk;
      disk = λ t. finish.sealed (disk (dev.time at)) (over.bytes.disk t);
      unopened = λ t. finish.unopened (disk (dev.time at)) (over.bytes.disk t);
    };
    free = finish.free over.free;
    framed = λ t. finish.framed (disk (dev.time at)) over.bytes.walk (over.bytes.disk t) (over.walked t);
  }

-- a section that owes no replay, and of which all has settled, is its sealed prefix
pub settled_bytes : {F S : Type 0} {gs : _} (g : buffer.Ghosts (PageBlob S gs)) (gives : F → Setting) (seal : List ℕ → ℕ) (told : Type 0) (k : Lists F (PageBlob S gs)) (opened : OpenedList) (d : Disk)
    → IsJournal g gives seal told k opened d → told → (s : ℕ) (u : PageBlob S gs) → k.sections.held s ≡ Some u → k.unrecovered s ≡ false → u.settled ≡ size_of (shown u)
    → sealed_prefix seal u.page_size (d (key_of k.sections s)).content ≡ bytes_of (shown u) (d (key_of k.sections s)).content
settled_bytes g gives seal told k opened d over t s u held free settled =
    sealed_flushed seal (shown u) (d (key_of k.sections s)) u.fit.begun ((over.bytes.disk t).sealed s u held (record { checked = free; free = over.free s }))
    (all_flushed (shown u) u.fit.within u.order settled)

-- What an opening of the journal found.
module _ {S D : Type 0} {gs : _} (g : buffer.Ghosts (PageBlob S gs)) (gives : AppendFactory S → Setting) (reads : Reads g)
    (papers : (f : AppendFactory S) → (gives f).page_size ≡ f.pages.page_size) (idles : (u : PageBlob S gs) → g.unsettled u ≡ is_unsettled (shown u))
    (dev : device.Ghosts D) (l : Layout) (paged : Pages) (same_pages : paged.page_size ≡ l.page_size) (capacity : ℕ) (old a : D)
    (w : Walk (AppendFactory S) (PageBlob S gs)) (opens : bytes.Opens g gives l.seal 1 l.partition paged capacity (2 ^ 64 - 1) dev (Ok w.journal) old a) where
  key_opened : (s : ℕ) → key_of w.journal.sections s ≡ section_key l.partition s
  key_opened s = ap (λ (p : List ℕ). section_key p s) opens.partition

  pub paged_so : (s : ℕ) (u : PageBlob S gs) → w.journal.sections.held s ≡ Some u → u.page_size ≡ l.page_size
  paged_so s u held = sym (reads.sized u) ∙ ap (λ (x : Setting). x.page_size) (opens.over.over.opened_list.setting s u held) ∙ papers w.journal.sections.factory
      ∙ ap (λ (p : Pages). p.page_size) opens.pages ∙ same_pages

  pub settled_first : (s : ℕ) (u : PageBlob S gs) → w.journal.sections.held s ≡ Some u → u.settled ≡ size_of (shown u)
  settled_first s u held = all_settled (shown u) (sym (idles u) ∙ opens.idle s u held)

  module _ (t : dev.Tells) where
    abbrev from : Disk
    from = disk (dev.time old)

    -- what it reads as
    content_at : (s : ℕ) → (disk (dev.time a) (section_key l.partition s)).content ≡ (disk (dev.time old) (section_key l.partition s)).content
    content_at s = ⊎_elim (λ same. ap (λ (x : Blob). x.content) same) (λ settled. ap (λ (x : Blob). x.content) settled.4) (always_now _ _ _ (opens.moments t) (section_key l.partition s))

    is_there : (s : ℕ) → s < 2 ^ 64 → IsHeld w.journal.sections s → (disk (dev.time old) (section_key l.partition s)).there ≡ true
    is_there s small held = ((opens.held t s small).0 held).0

    -- of a section that is there, what is sealed is what the image has
    pub sealed_there : (s : ℕ) → s < 2 ^ 64 → IsHeld w.journal.sections s
        → sealed_prefix l.seal l.page_size (disk (dev.time a) (section_key l.partition s)).content ≡ sealed_bytes l (as_read (disk (dev.time old))) s
    sealed_there s small held = ap (sealed_prefix l.seal l.page_size) (content_at s)
        ∙ sym (ap (λ (x : Bool). sealed_in l (cond x (Some (disk (dev.time old) (section_key l.partition s)).content) None)) (is_there s small held))

    content_same : (s : ℕ) → (disk (dev.time a) (key_of w.journal.sections s)).content ≡ (disk (dev.time old) (section_key l.partition s)).content
    content_same s = ap (λ (q : Key). (disk (dev.time a) q).content) (key_opened s) ∙ content_at s

    -- the bytes from which records are given are those that the image keeps
    pub given_sealed : (s : ℕ) → s < 2 ^ 64 → given_bytes l.seal w (disk (dev.time a)) s ≡ sealed_bytes l (as_read (disk (dev.time old))) s
    given_sealed s small = elim (none_or_value (w.journal.sections.held s)) [
      | inl none ↦
          (let gone : (disk (dev.time old) (section_key l.partition s)).there ≡ false = false_from_ne_true _ (λ has. cc (none, (opens.held t s small).1 (has, omega (arith, small)))) in
          ap (λ (o : Option (PageBlob S gs)). kept_of l.seal (w.journal.unrecovered s) o (disk (dev.time a) (key_of w.journal.sections s)).content) none
          ∙ sym (ap (λ (x : Bool). sealed_in l (cond x (Some (disk (dev.time old) (section_key l.partition s)).content) None)) gone ∙ nothing_sealed l.seal l.page_size))
      | inr some ↦
          (go (w.journal.unrecovered s) refl some.0 some.1
          ∙ (λ i. sealed_prefix l.seal (paged_so s some.0 some.1 i) (content_same s i))
          ∙ sym (ap (λ (x : Bool). sealed_in l (cond x (Some (disk (dev.time old) (section_key l.partition s)).content) None)) (is_there s small (ap is_some some.1))))
    ]
      where
        go : (b : Bool) → w.journal.unrecovered s ≡ b → (u : PageBlob S gs) → w.journal.sections.held s ≡ Some u
            → given_bytes l.seal w (disk (dev.time a)) s ≡ sealed_prefix l.seal u.page_size (disk (dev.time a) (key_of w.journal.sections s)).content
        go true owes u held = λ i. kept_of l.seal (owes i) (held i) (disk (dev.time a) (key_of w.journal.sections s)).content
        go false free u held = (λ i. kept_of l.seal (free i) (held i) (disk (dev.time a) (key_of w.journal.sections s)).content)
            ∙ sym (sealed_flushed l.seal (shown u) (disk (dev.time a) (key_of w.journal.sections s)) u.fit.begun
            ((opens.over.disk t).sealed s u held (record { checked = free; free = opens.floors s })) (all_flushed (shown u) u.fit.within u.order (settled_first s u held)))

-- What the drained replay left of it.
module _ {S D : Type 0} {gs : _} (g : buffer.Ghosts (PageBlob S gs)) (gives : AppendFactory S → Setting) (reads : Reads g)
    (papers : (f : AppendFactory S) → (gives f).page_size ≡ f.pages.page_size) (idles : (u : PageBlob S gs) → g.unsettled u ≡ is_unsettled (shown u))
    (dev : device.Ghosts D) (l : Layout) (paged : Pages) (same_pages : paged.page_size ≡ l.page_size) (capacity : ℕ) (old a : D)
    (w : Walk (AppendFactory S) (PageBlob S gs)) (opens : bytes.Opens g gives l.seal 1 l.partition paged capacity (2 ^ 64 - 1) dev (Ok w.journal) old a)
    (b : D) (k : Walk (AppendFactory S) (PageBlob S gs)) (gone : HasGone g gives l.seal dev w k a b) (over : IsGoing g gives l.seal dev k b) (going : k.ended ≡ false) where
  -- the buffers after the replay
  held_then : (s : ℕ) (u : PageBlob S gs) → k.journal.sections.held s ≡ Some u → (x : PageBlob S gs) × (w.journal.sections.held s ≡ Some x)
  held_then s u held = some_of (w.journal.sections.held s) ((gone.goes.held s).0 (ap is_some held))

  key_then : (s : ℕ) → key_of k.journal.sections s ≡ key_of w.journal.sections s
  key_then s = ap (λ (p : List ℕ). section_key p s) gone.keeps.same.bounds.place.partition

  -- all has settled: of a section that owed no replay there was nothing
  pub settled_then : (s : ℕ) (u : PageBlob S gs) → k.journal.sections.held s ≡ Some u → u.settled ≡ size_of (shown u)
  settled_then s u held = go (k.journal.unrecovered s) refl
    where
      go : (owes : Bool) → k.journal.unrecovered s ≡ owes → u.settled ≡ size_of (shown u)
      go true owes = over.bytes.walk.owes_settled.settled s u held owes
      go false free =
          let x = held_then s u held in
          let none : size_of (shown x.0) ≡ 0 = ⊎_elim
          (λ (some : 0 < size_of (shown x.0)). absurd (let owed = (opens.unrecovered s).1 (subst (λ (n : ℕ). 0 < n) (sym (ap (λ (o : Option (PageBlob S gs)). size_held o) x.1)) some) in
          let free_first = sym (gone.keeps.same.unrecovered s) ∙ free in cc (owed, free_first)))
          (λ le. omega (arith, le)) (cases_lt 0 (size_of (shown x.0))) in
          omega (arith, none, (gone.keeps.floors s x.0 u x.1 held).shorter, u.order, u.fit.within)

  -- The replay was given back as the journal j.
  module _ {V C : Type 0} (spelling : V → List ℕ) (accepted : V → C → Type 0) (config cfg : C) (j : Lists (AppendFactory S) (PageBlob S gs)) (finish : Finishes l.seal spelling accepted config k (Ok j) (Ok cfg))
      (start : w.start_section ≡ 0) (position : w.start_position ≡ 0) where
    pub back : IsJournal g gives l.seal dev.Tells j (dev.opened b) (disk (dev.time b))
    back = journal_back g gives l.seal dev spelling accepted config k b over j cfg finish

    pub held_back : (s : ℕ) → j.sections.held s ≡ k.journal.sections.held s
    held_back s = ap (λ (m : Sections (AppendFactory S) (PageBlob S gs)). m.held s) finish.sections

    pub key_back : (s : ℕ) → key_of j.sections s ≡ key_of w.journal.sections s
    key_back s = ap (λ (m : Sections (AppendFactory S) (PageBlob S gs)). key_of m s) finish.sections ∙ key_then s

    -- no section owes a replay
    pub none_owed : (s : ℕ) → j.unrecovered s ≡ false
    none_owed s = finish.recovered s (⊎_elim
        (λ (more : 0 < s). inl (omega (arith, gone.keeps.same.section, start, more)))
        (λ zero. inr (gone.keeps.same.position ∙ position, omega (arith, gone.keeps.same.section, start, zero)))
        (cases_lt 0 s))

    pub settled_back : (s : ℕ) (u : PageBlob S gs) → j.sections.held s ≡ Some u → u.settled ≡ size_of (shown u)
    settled_back s u held = settled_then s u (sym (held_back s) ∙ held)

    -- the sealed prefix of a section is all of it
    sealed_back : dev.Tells → (s : ℕ) (u : PageBlob S gs) → k.journal.sections.held s ≡ Some u
        → sealed_prefix l.seal u.page_size (disk (dev.time b) (key_of w.journal.sections s)).content ≡ bytes_of (shown u) (disk (dev.time b) (key_of w.journal.sections s)).content
    sealed_back t s u held = subst (λ (q : Key). sealed_prefix l.seal u.page_size (disk (dev.time b) q).content ≡ bytes_of (shown u) (disk (dev.time b) q).content) (key_back s)
        (settled_bytes g gives l.seal dev.Tells j (dev.opened b) (disk (dev.time b)) back t s u (held_back s ∙ held) (none_owed s) (settled_then s u held))

    -- each section has the items that the image keeps
    pub items_back : dev.Tells → (s : ℕ) → items_of (section_bytes j.sections (disk (dev.time b)) s) ≡ items_of (given_bytes l.seal w (disk (dev.time a)) s)
    items_back t s = elim (none_or_value (w.journal.sections.held s)) [
      | inl none ↦ ap (λ (o : Option (PageBlob S gs)). items_of (bytes_held o (disk (dev.time b) (key_of j.sections s)).content)) (gone_none none)
          ∙ sym (ap (λ (o : Option (PageBlob S gs)). items_of (kept_of l.seal (w.journal.unrecovered s) o (disk (dev.time a) (key_of w.journal.sections s)).content)) none)
      | inr some ↦ (let u = some_of (k.journal.sections.held s) ((gone.goes.held s).1 (ap is_some some.1)) in
          ap (λ (o : Option (PageBlob S gs)). items_of (bytes_held o (disk (dev.time b) (key_of j.sections s)).content)) (held_back s ∙ u.1)
          ∙ ap (λ (q : Key). items_of (bytes_of (shown u.0) (disk (dev.time b) q).content)) (key_back s)
          ∙ go (w.journal.unrecovered s) refl some.0 u.0 some.1 u.1)
    ]
      where
        gone_none : w.journal.sections.held s ≡ None → j.sections.held s ≡ None
        gone_none none = ⊎_elim (λ is. is)
            (λ some. absurd (cc (subst IsSome none ((gone.goes.held s).0 (ap is_some (sym (held_back s) ∙ some.1))))))
            (none_or_value (j.sections.held s))

        go : (owes : Bool) → w.journal.unrecovered s ≡ owes → (x u : PageBlob S gs) → w.journal.sections.held s ≡ Some x → k.journal.sections.held s ≡ Some u
            → items_of (bytes_of (shown u) (disk (dev.time b) (key_of w.journal.sections s)).content) ≡ items_of (given_bytes l.seal w (disk (dev.time a)) s)
        go false free x u was held = ap items_of (((gone.keeps.on_disk t).bytes s x u was held free).bytes tt
            ∙ sym (λ i. kept_of l.seal (free i) (was i) (disk (dev.time a) (key_of w.journal.sections s)).content))
        go true owes x u was held =
            ap items_of (sym (sealed_back t s u held)) ∙ ap (λ (P : ℕ). items_of (sealed_prefix l.seal P (disk (dev.time b) (key_of w.journal.sections s)).content)) (gone.keeps.floors s x u was held).page_size
            ∙ ((gone.keeps.on_disk t).items going s x was owes).items
            ∙ sym (ap items_of (λ i. kept_of l.seal (owes i) (was i) (disk (dev.time a) (key_of w.journal.sections s)).content))

    -- nor was a length refused
    pub none_bad : dev.Tells → (s : ℕ) → HasBadLength (rest_of (given_bytes l.seal w (disk (dev.time a)) s)) → ⊥
    none_bad t s bad = elim (none_or_value (w.journal.sections.held s)) [
      | inl none ↦ few (ap (λ (o : Option (PageBlob S gs)). rest_of (kept_of l.seal (w.journal.unrecovered s) o (disk (dev.time a) (key_of w.journal.sections s)).content)) none ∙ no_rest)
      | inr some ↦ (let u = some_of (k.journal.sections.held s) ((gone.goes.held s).1 (ap is_some some.1)) in go (w.journal.unrecovered s) refl some.0 u.0 some.1 u.1)
    ]
      where
        few : rest_of (given_bytes l.seal w (disk (dev.time a)) s) ≡ [] → ⊥
        few none = omega (arith, bad.enough, ap length none)

        -- the bytes are whole frames
        rest_here : (u : PageBlob S gs) → k.journal.sections.held s ≡ Some u → rest_of (bytes_of (shown u) (disk (dev.time b) (key_of w.journal.sections s)).content) ≡ []
        rest_here u held = sym (ap (λ (q : Key). rest_of (bytes_of (shown u) (disk (dev.time b) q).content)) (key_back s))
            ∙ sym (ap (λ (o : Option (PageBlob S gs)). rest_of (bytes_held o (disk (dev.time b) (key_of j.sections s)).content)) (held_back s ∙ held)) ∙ back.framed t s (none_owed s)

        go : (owes : Bool) → w.journal.unrecovered s ≡ owes → (x u : PageBlob S gs) → w.journal.sections.held s ≡ Some x → k.journal.sections.held s ≡ Some u → ⊥
        go false free x u was held = few (ap rest_of ((λ i. kept_of l.seal (free i) (was i) (disk (dev.time a) (key_of w.journal.sections s)).content)
            ∙ sym (((gone.keeps.on_disk t).bytes s x u was held free).bytes tt)) ∙ rest_here u held)
        go true owes x u was held =
            let given : given_bytes l.seal w (disk (dev.time a)) s ≡ sealed_prefix l.seal x.page_size (disk (dev.time a) (key_of w.journal.sections s)).content =
            λ i. kept_of l.seal (owes i) (was i) (disk (dev.time a) (key_of w.journal.sections s)).content in
            let all = ((gone.keeps.on_disk t).items going s x was owes).all (subst (λ (xs : List ℕ). HasBadLength (rest_of xs)) given bad) in
            few (ap rest_of (given ∙ sym all ∙ ap (λ (P : ℕ). sealed_prefix l.seal P (disk (dev.time b) (key_of w.journal.sections s)).content) (sym (gone.keeps.floors s x u was held).page_size)
            ∙ sealed_back t s u held) ∙ rest_here u held)

    -- The cache over it.
    module _ (valid : 1 ≤ l.items) (lay : Layout) (same : lay ≡ l) (offsets : ℕ → Option ℕ) (indices : ℕ → Bool) (tied : (i : ℕ) → indices i ≡ is_some (offsets i))
        (written : ℕ → Option ℕ) (none_written : (s : ℕ) → written s ≡ None)
        (entered : dev.Tells → AreEntered l.items l.refusal (given_bytes l.seal w (disk (dev.time a))) offsets) where
      abbrev pub opened : Cache (AppendFactory S) (PageBlob S gs)
      opened = record { journal = j; layout = l; offsets = offsets; indices = indices; written = written; floor = 0 }

      opened_told : dev.Tells → IsTold opened (disk (dev.time b))
      opened_told t = record {
        indices = tied;
        listed = λ i. (entered t).listed i ∙ ap (offset_in i 0) (sym (items_back t (section_of l.items i)));
        decoded = λ s. subst (AllByRecursion (λ x. record_refusal l.refusal x ≡ None)) (sym (items_back t s)) ((entered t).own s).decoded;
        in_section = λ s. subst (AllByRecursion (λ x. section_of l.items (entry_of x).index ≡ s)) (sym (items_back t s)) ((entered t).own s).in_section;
        settled = λ s u held. omega (
          arith,
          settled_back s u held,
          ap (λ (o : Option ℕ). synced_in o (bytes_in opened (disk (dev.time b)) s)) (none_written s),
          ap (λ (o : Option (PageBlob S gs)). length (bytes_held o (disk (dev.time b) (key_of j.sections s)).content)) held,
          counted (shown u) (disk (dev.time b) (key_of j.sections s)).content,
        );
      }

      pub opened_over : IsCache opened g gives dev.Tells (dev.opened b) (disk (dev.time b))
      opened_over = record {
        journal = back;
        ceiling = ap (λ (m : Sections (AppendFactory S) (PageBlob S gs)). m.ceiling) finish.sections ∙ gone.keeps.same.bounds.ceiling ∙ opens.ceiling;
        recovered = none_owed;
        partition = ap (λ (m : Sections (AppendFactory S) (PageBlob S gs)). m.partition) finish.sections ∙ gone.keeps.same.bounds.place.partition ∙ opens.partition;
        pages = ap (λ (m : Sections (AppendFactory S) (PageBlob S gs)). (gives m.factory).page_size) finish.sections ∙ ap (λ (f : AppendFactory S). (gives f).page_size) gone.keeps.same.bounds.place.factory
            ∙ papers w.journal.sections.factory ∙ ap (λ (p : Pages). p.page_size) opens.pages ∙ same_pages;
        items = valid;
        floor = first_section l.items;
        journal_floor = omega (arith, ap (λ (m : Sections (AppendFactory S) (PageBlob S gs)). m.floor) finish.sections, gone.keeps.same.bounds.floor, opens.floor);
        indices = tied;
        below = λ s less. absurd (omega (arith, less));
        none_below = λ i less. absurd (omega (arith, less));
        written = λ s has. absurd (cc (subst IsSome (none_written s) has));
        settled = λ s u held none. settled_back s u held;
        memory = opened_told;
      }

      -- it has just what the image keeps
      pub opened_start : dev.Tells → IsStart l (as_read (disk (dev.time old))) (state_of opened (disk (dev.time b)))
      opened_start t = record {
        lists = λ s small. ap (map entry_of) (items_back t s) ∙ ap entries_of (given_sealed g gives reads papers idles dev l paged same_pages capacity old a w opens t s small);
        no_more = λ s large. ap entries_of (ap (λ (o : Option (PageBlob S gs)). bytes_held o (disk (dev.time b) (key_of j.sections s)).content) (none_far s large)) ∙ ap (map entry_of) no_items;
        synced = λ s. ap (λ (o : Option ℕ). length (entries_of (take (synced_in o (bytes_in opened (disk (dev.time b)) s)) (bytes_in opened (disk (dev.time b)) s)))) (none_written s)
            ∙ ap (λ bytes. length (entries_of bytes)) (take_all (length (bytes_in opened (disk (dev.time b)) s)) (bytes_in opened (disk (dev.time b)) s) (omega arith));
        floor = refl;
      }
        where
          none_far : (s : ℕ) → 2 ^ 64 ≤ s → j.sections.held s ≡ None
          none_far s large = ⊎_elim (λ is. is) (λ some. absurd (let small = back.bytes.over.opened_list.number s (inl (ap is_some some.1)) in omega (arith, small, large))) (none_or_value (j.sections.held s))
