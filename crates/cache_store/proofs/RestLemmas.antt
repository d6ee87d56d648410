-- What a cache's sections are between calls, and what crashes leave of them then.
use Rattle.std.specs.Prelude.{◌≡◌, ◌≢◌, ◌⊎◌, ℕ, ◌+◌, ◌^◌, ◌<◌, ◌≤◌, List, [], length, map, take, Option, None, Some, IsSome, is_some}
use Rattle.std.proofs.Common.{inl, inr, ⊎_elim, refl, sym, ap, ◌∙◌, subst, arith}
use Rattle.std.proofs.lemmas.Bool.{cases_eq}
use Rattle.std.proofs.lemmas.List.{take_all}
use Rattle.blob_device.specs.Disk.{Key, Blob, Disk, MayLeave, longest}
use Rattle.blob_device.specs.Opened.{OpenedList}
use Rattle.sealed_pages.specs.Buffer.{bytes_of, IsSealed}
use Rattle.sealed_pages.specs.ChanceSeal as pages
use Rattle.sealed_pages.specs.Shown.{shown}
use Rattle.sealed_pages.specs.declared.page_blob.PageBlob.{PageBlob}
use Rattle.section_manager.specs.declared.buffer.SectionBuffer as buffer
use Rattle.section_manager.specs.SealedLaws.{counted}
use Rattle.section_manager.specs.Sections.{Sections, section_key, key_of, IsKeyOf}
use Rattle.section_manager.specs.Setting.{Setting}
use Rattle.sealed_pages.specs.lemmas.memory.Holding.{holds_leaves}
use Rattle.section_manager.specs.lemmas.Number.{length-number_name}
use Rattle.segments.specs.FixedLists.{bytes_held}
use Rattle.variable_journal.specs.Frames.{rest_of}
use Rattle.cache_store.specs.Caches.{Cache, IsCache, IsSound, bytes_in, state_of}
use Rattle.cache_store.specs.Filing.{synced_in}
use Rattle.cache_store.specs.Kept.{Layout, IsLawfulIn, entries_of}
use Rattle.cache_store.specs.Records.{entry_of}
use Rattle.cache_store.specs.Standing.{IsHeld, Leaves, Wanted}
use Rattle.cache_store.proofs.LawfulLemmas.{no_items}
use Rattle.cache_store.proofs.LeavingLemmas.{Backs, SectionLeaves, bare_leaves, fewer_entries, prefix_leaves, together}
use Rattle.blob_device.proofs.general.Options.{none_or_value}

-- a name that has not eight bytes is no section's
pub no_section : {F B : Type 0} (m : Sections F B) (P : ℕ → Type 0) (q : Key) → length q.1 ≢ 8 → IsKeyOf m P q → ⊥
no_section m P q long is = long (ap (λ (k : Key). length k.1) is.2 ∙ length-number_name is.0)

-- What each section leaves, over a disk on which only names of sections have changed.
pub gathered : (l : Layout) (w : Wanted) (from d : Disk) → ((name x : List ℕ) → MayLeave (from (l.partition, name)) (Some x) → length name ≡ 8)
    → ((q : Key) → length q.1 ≢ 8 → d q ≡ from q) → ((s : ℕ) → s < 2 ^ 64 → SectionLeaves l w s (d (section_key l.partition s))) → Leaves l w d
gathered l w from d names same each = together l w d
    (λ name x may. ⊎_elim (λ eight. eight) (λ other. names name x (subst (λ (b : Blob). MayLeave b (Some x)) (same (l.partition, name) other) may)) (cases_eq (length name) 8)) each

module _ {F S : Type 0} {gs : _} (g : buffer.Ghosts (PageBlob S gs)) (gives : F → Setting) (sized : (u : PageBlob S gs) → (g.setting u).page_size ≡ u.page_size)
    (told : Type 0) (c : Cache F (PageBlob S gs)) (opened : OpenedList) (d : Disk) (over : IsCache c g gives told opened d) where
  -- each buffer has the layout's pages
  pub paged : (s : ℕ) (u : PageBlob S gs) → c.journal.sections.held s ≡ Some u → u.page_size ≡ c.layout.page_size
  paged s u held = sym (sized u) ∙ ap (λ (x : Setting). x.page_size) (over.journal.bytes.over.opened_list.setting s u held) ∙ over.pages

  pub number : (s : ℕ) (u : PageBlob S gs) → c.journal.sections.held s ≡ Some u → s < 2 ^ 64
  number s u held = over.journal.bytes.over.opened_list.number s (inl (ap is_some held))

  -- the bytes of one that is held, and of one that is not
  pub bytes_some : (s : ℕ) (u : PageBlob S gs) → c.journal.sections.held s ≡ Some u → bytes_in c d s ≡ bytes_of (shown u) (d (key_of c.journal.sections s)).content
  bytes_some s u held = ap (λ (o : Option (PageBlob S gs)). bytes_held o (d (key_of c.journal.sections s)).content) held

  pub bytes_none : (s : ℕ) → c.journal.sections.held s ≡ None → bytes_in c d s ≡ []
  bytes_none s none = ap (λ (o : Option (PageBlob S gs)). bytes_held o (d (key_of c.journal.sections s)).content) none

  -- the keys of sections
  pub here : (s : ℕ) → key_of c.journal.sections s ≡ section_key c.layout.partition s
  here s = ap (λ (p : List ℕ). section_key p s) over.partition

  module _ (t : told) where
    pub sealed : (s : ℕ) (u : PageBlob S gs) → c.journal.sections.held s ≡ Some u → IsSealed c.layout.seal (shown u) (d (key_of c.journal.sections s))
    sealed s u held = (over.journal.bytes.disk t).sealed s u held (record { checked = over.recovered s; free = over.journal.free s })

    -- sections are whole frames
    pub whole : (s : ℕ) → rest_of (bytes_in c d s) ≡ []
    whole s = over.journal.framed t s (over.recovered s)

    -- no more counts as synced than there is
    pub within : (s : ℕ) → synced_in (c.written s) (bytes_in c d s) ≤ length (bytes_in c d s)
    within s = ⊎_elim
        (λ (none : c.journal.sections.held s ≡ None). ⊎_elim
        (λ (is : c.written s ≡ None). omega (arith, ap (λ (o : Option ℕ). synced_in o (bytes_in c d s)) is))
        (λ has. absurd (cc (subst IsSome none (over.written s (ap is_some has.1)))))
        (none_or_value (c.written s)))
        (λ some. omega (arith, (over.memory t).settled s some.0 some.1, ap length (bytes_some s some.0 some.1), counted (shown some.0) (d (key_of c.journal.sections s)).content, some.0.order, some.0.fit.within))
        (none_or_value (c.journal.sections.held s))

    pub lawful : IsSound c d → (s : ℕ) → IsLawfulIn c.layout s (bytes_in c d s)
    lawful sound s = record {
      lengths = λ bad. omega (arith, bad.enough, ap length (whole s));
      decoded = (over.memory t).decoded s;
      in_section = (over.memory t).in_section s;
      once = sound.once s;
    }

    -- what is synced has settled
    pub settled : (s : ℕ) (u : PageBlob S gs) → c.journal.sections.held s ≡ Some u
        → length (entries_of (take (synced_in (c.written s) (bytes_in c d s)) (bytes_in c d s))) ≤ length (entries_of (take u.settled (bytes_in c d s)))
    settled s u held = fewer_entries (bytes_in c d s) (synced_in (c.written s) (bytes_in c d s)) u.settled ((over.memory t).settled s u held)

    pub none_synced : (s : ℕ) → c.journal.sections.held s ≡ None → (state_of c d).synced s ≡ 0
    none_synced s none =
        let n = synced_in (c.written s) (bytes_in c d s) in
        let few = fewer_entries (bytes_in c d s) n (n + length (bytes_in c d s)) (omega arith) in
        let all = take_all (n + length (bytes_in c d s)) (bytes_in c d s) (omega arith) in
        omega (arith, few, ap (λ bytes. length (entries_of bytes)) all, ap (λ bytes. length (entries_of bytes)) (bytes_none s none), ap (λ xs. length (map entry_of xs)) no_items)

    module _ (sound : IsSound c d) (w : Wanted) (s : ℕ) (lists : w.lists s ≡ (state_of c d).lists s) (synced : w.synced s ≡ (state_of c d).synced s) where
      pub backs : (u : PageBlob S gs) → c.journal.sections.held s ≡ Some u → Backs c.layout w s (bytes_in c d s) u.settled
      backs u held = record { lawful = lawful sound s; list = sym lists; synced = omega (arith, synced, settled s u held) }

      -- of one that is not held nothing is wanted
      pub bare : c.journal.sections.held s ≡ None → IsHeld c.layout w s []
      bare none = inl (record { same = refl; synced = omega (arith, synced, none_synced s none) })

      -- a crash leaves what is wanted of a section, where its blob leaves that of its bytes, or has not changed
      pub lasts : (b : Blob) → ((u : PageBlob S gs) → c.journal.sections.held s ≡ Some u → (b ≡ d (key_of c.journal.sections s))
          ⊎ pages.Leaves c.layout.seal u.page_size (bytes_of (shown u) (d (key_of c.journal.sections s)).content) u.settled b)
          → (c.journal.sections.held s ≡ None → longest b ≡ 0) → SectionLeaves c.layout w s b
      lasts b some none = elim (none_or_value (c.journal.sections.held s)) [
        | inl absent ↦ bare_leaves c.layout w s b (none absent) (bare absent)
        | inr held ↦
            (let u = held.0 in
            let go : pages.Leaves c.layout.seal u.page_size (bytes_of (shown u) (d (key_of c.journal.sections s)).content) u.settled b → SectionLeaves c.layout w s b =
            λ leaves. prefix_leaves c.layout w s (bytes_in c d s) u.settled b (backs u held.1)
            (subst (λ bytes. pages.Leaves c.layout.seal c.layout.page_size bytes u.settled b) (sym (bytes_some s u held.1))
            (subst (λ (n : ℕ). pages.Leaves c.layout.seal n (bytes_of (shown u) (d (key_of c.journal.sections s)).content) u.settled b) (paged s u held.1) leaves)) in
            ⊎_elim (λ same. go (subst (λ (x : Blob). pages.Leaves c.layout.seal u.page_size (bytes_of (shown u) (d (key_of c.journal.sections s)).content) u.settled x) (sym same)
            (holds_leaves c.layout.seal (shown u) (bytes_of (shown u) (d (key_of c.journal.sections s)).content) (d (key_of c.journal.sections s)) u.fit.begun (sealed s u held.1).holds))) go (some u held.1))
      ]

    -- each crash leaves what is there
    pub rest_leaves : IsSound c d → (w : Wanted) → ((s : ℕ) → w.lists s ≡ (state_of c d).lists s) → ((s : ℕ) → w.synced s ≡ (state_of c d).synced s) → Leaves c.layout w d
    rest_leaves sound w lists synced = gathered c.layout w d d sound.names (λ q long. refl)
        (λ s small. subst (λ (k : Key). SectionLeaves c.layout w s (d k)) (here s)
        (lasts sound w s (lists s) (synced s) (d (key_of c.journal.sections s)) (λ u held. inl refl) (λ none. sound.absent s small none)))
