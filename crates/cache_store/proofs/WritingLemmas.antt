-- What crashes leave of a cache while a record is put, and while it is synced.
use Rattle.std.specs.Prelude.{◌≡◌, ◌≢◌, ◌⊎◌, ℕ, ◌^◌, ◌<◌, ◌≤◌, false, List, [], ◌∷◌, ◌++◌, length, take, None, Some, IsSome, Ok}
use Rattle.std.proofs.Common.{inl, inr, ⊎_elim, refl, sym, ap, ◌∙◌, subst, arith}
use Rattle.std.proofs.Math.Nat.{div-mul-le_self}
use Rattle.std.proofs.lemmas.Bool.{cases_eq}
use Rattle.std.proofs.lemmas.List.{take-append-le}
use Rattle.blob_device.specs.Disk.{Key, Blob, Disk, longest}
use Rattle.blob_device.specs.Opened.{OpenedList}
use Rattle.blob_device.specs.Timeline.{Each}
use Rattle.sealed_pages.specs.ChanceSeal as pages
use Rattle.sealed_pages.specs.declared.page_blob.PageBlob.{PageBlob}
use Rattle.section_manager.specs.declared.buffer.SectionBuffer as buffer
use Rattle.section_manager.specs.Sections.{key_of}
use Rattle.section_manager.specs.Setting.{Setting}
use Rattle.section_manager.specs.lemmas.Number.{length-number_name}
use Rattle.value_codec.specs.lemmas.VarintPrefix.{prefix_gives}
use Rattle.variable_journal.specs.lemmas.Frame.{one_more}
use Rattle.section_manager.specs.lemmas.Keys.{key_injective}
use Rattle.segments.specs.FixedLasting.{IsBeginning, Settling}
use Rattle.variable_journal.specs.Frames.{frame}
use Rattle.value_codec.specs.Varint.{varint, varint_prefix}
use Rattle.cache_store.specs.Caches.{Cache, IsCache, IsSound, bytes_in, holds, state_of}
use Rattle.cache_store.specs.Filing.{synced_in}
use Rattle.cache_store.specs.Kept.{IsLawfulIn, entries_of}
use Rattle.cache_store.specs.Machine.{State, Put, Sync, after_put, appended, has_entry, section_of}
use Rattle.cache_store.specs.Records.{entry_of, record_bytes}
use Rattle.cache_store.specs.Standing.{IsHeld, Leaves, Wanted, wanted_of}
use Rattle.cache_store.proofs.AskLemmas.{held_is, not_skipped}
use Rattle.cache_store.proofs.LawfulLemmas.{entry_record, entries_more, lawful_more}
use Rattle.cache_store.proofs.LeavingLemmas.{SectionLeaves, bare_leaves, fewer_entries, opening_bare, prefix_leaves}
use Rattle.cache_store.proofs.RestLemmas.{bytes_none, gathered, here, lasts, lawful, no_section, none_synced, paged, sealed, whole, within}
use Rattle.cache_store.proofs.StateLemmas.{chosen, passed}
use Rattle.blob_device.proofs.general.Options.{none_or_value}

module _ {F S : Type 0} {gs : _} (g : buffer.Ghosts (PageBlob S gs)) (gives : F → Setting) (sized : (u : PageBlob S gs) → (g.setting u).page_size ≡ u.page_size)
    (told : Type 0) (c : Cache F (PageBlob S gs)) (opened : OpenedList) (d : Disk) (over : IsCache c g gives told opened d) (t : told) (sound : IsSound c d) where
  -- ---- sync
  module _ (IsNamed : ℕ → Type 0) (which : (s : ℕ) → IsNamed s ⊎ (IsNamed s → ⊥)) where
    -- each crash leaves what the buffers had, with what was synced
    pub sync_leaves : (e : Disk) → Each (Settling c.layout.seal c.journal IsNamed d) e → Leaves c.layout (wanted_of c.layout.items (state_of c d) (Some Sync)) e
    sync_leaves e each = gathered c.layout (wanted_of c.layout.items (state_of c d) (Some Sync)) d e sound.names (λ q long. (each q).others (no_section c.journal.sections _ q long))
        (λ s small. subst (λ (k : Key). SectionLeaves c.layout (wanted_of c.layout.items (state_of c d) (Some Sync)) s (e k)) (here g gives sized told c opened d over s)
        (lasts g gives sized told c opened d over t sound (wanted_of c.layout.items (state_of c d) (Some Sync)) s refl refl (e (key_of c.journal.sections s))
        (λ u held. ⊎_elim
        (λ named. inr ((each (key_of c.journal.sections s)).named s u named held (sealed g gives sized told c opened d over t s u held) refl))
        (λ other. inl ((each (key_of c.journal.sections s)).others (λ is. other (subst IsNamed (one s small is.0 is.1.1 is.2) is.1.0))))
        (which s))
        (λ none. ap longest ((each (key_of c.journal.sections s)).others (λ is. cc (subst IsSome none (subst (λ (r : ℕ). IsSome (c.journal.sections.held r)) (one s small is.0 is.1.1 is.2) is.1.1)))) ∙ sound.absent s small none)))
      where
        one : (s : ℕ) → s < 2 ^ 64 → (r : ℕ) → IsSome (c.journal.sections.held r) → key_of c.journal.sections s ≡ key_of c.journal.sections r → r ≡ s
        one s small r held same = key_injective c.journal.sections.partition r s (over.journal.bytes.over.opened_list.number r (inl held)) small (sym same)

  -- ---- put
  module _ (index : ℕ) (spelled : List ℕ) (small : index < 2 ^ 64) (high : c.floor ≤ index) (new : holds c index ≡ false)
      (fits : length (record_bytes index spelled) < 2 ^ 32) (allowed : c.layout.refusal spelled ≡ None) where
    abbrev s0 : ℕ
    s0 = section_of c.layout.items index

    abbrev item : List ℕ
    item = record_bytes index spelled

    abbrev w : Wanted
    w = wanted_of c.layout.items (state_of c d) (Some (Put index spelled))

    read : varint_prefix (2 ^ 64) 10 (record_bytes index spelled) ≡ Ok (index, length (varint index))
    read = prefix_gives (2 ^ 64) 10 index spelled small

    pub entry : entry_of (record_bytes index spelled) ≡ record { index = index; value = spelled }
    entry = entry_record c.layout (section_of c.layout.items index) (bytes_in c d (section_of c.layout.items index)) index spelled read

    pub none_there : has_entry index (entries_of (bytes_in c d (section_of c.layout.items index))) ≡ false
    none_there = sym (held_is c d (over.memory t) index) ∙ new

    -- the put is not skipped
    pub appends : after_put c.layout.items index spelled (state_of c d) ≡ appended c.layout.items index spelled (state_of c d)
    appends = not_skipped c index spelled high new d (over.memory t)

    more : (s : ℕ) → entries_of (bytes_in c d s ++ frame (record_bytes index spelled)) ≡ entries_of (bytes_in c d s) ++ record { index = index; value = spelled } ∷ []
    more s = entries_more c.layout s (bytes_in c d s) index spelled read (one_more (bytes_in c d s) (record_bytes index spelled) (whole g gives sized told c opened d over t s) fits).0

    pub lists_here : (s : ℕ) → s ≡ section_of c.layout.items index → (after_put c.layout.items index spelled (state_of c d)).lists s ≡ entries_of (bytes_in c d s ++ frame (record_bytes index spelled))
    lists_here s same = ap (λ (st : State (List ℕ)). st.lists s) appends
        ∙ chosen s (section_of c.layout.items index) (entries_of (bytes_in c d s) ++ record { index = index; value = spelled } ∷ []) (entries_of (bytes_in c d s)) same ∙ sym (more s)

    pub lists_other : (s : ℕ) → s ≢ section_of c.layout.items index → (after_put c.layout.items index spelled (state_of c d)).lists s ≡ (state_of c d).lists s
    lists_other s other = ap (λ (st : State (List ℕ)). st.lists s) appends
        ∙ passed s (section_of c.layout.items index) (entries_of (bytes_in c d s) ++ record { index = index; value = spelled } ∷ []) (entries_of (bytes_in c d s)) other

    pub grown_lawful : (s : ℕ) → s ≡ section_of c.layout.items index → IsLawfulIn c.layout s (bytes_in c d s ++ frame (record_bytes index spelled))
    grown_lawful s same = lawful_more c.layout s (bytes_in c d s) index spelled read
        (one_more (bytes_in c d s) (record_bytes index spelled) (whole g gives sized told c opened d over t s) fits)
        (lawful g gives sized told c opened d over t sound s) (sym same) (subst (λ (r : ℕ). has_entry index (entries_of (bytes_in c d r)) ≡ false) (sym same) none_there) allowed

    -- the frame is added to the bytes of its section
    put_section : (s : ℕ) → s < 2 ^ 64 → s ≡ section_of c.layout.items index → (P : ℕ) → P ≡ c.layout.page_size → (b : Blob)
        → ((u : PageBlob S gs) → c.journal.sections.held s ≡ Some u → pages.Leaves c.layout.seal u.page_size (bytes_in c d s ++ frame (record_bytes index spelled)) u.settled b)
        → (c.journal.sections.held s ≡ None → ((d (key_of c.journal.sections s)).there ≡ false) × IsBeginning c.layout.seal P (frame (record_bytes index spelled)) (d (key_of c.journal.sections s)) b)
        → SectionLeaves c.layout w s b
    put_section s below same P paper b some none = elim (none_or_value (c.journal.sections.held s)) [
      | inr held ↦ (let u = held.0 in prefix_leaves c.layout w s (bytes_in c d s ++ frame (record_bytes index spelled)) u.settled b
          (record {
            lawful = grown_lawful s same;
            list = sym (lists_here s same);
            synced = synced_before s u held.1;
          })
          (subst (λ (n : ℕ). pages.Leaves c.layout.seal n (bytes_in c d s ++ frame (record_bytes index spelled)) u.settled b) (paged g gives sized told c opened d over s u held.1) (some u held.1)))
      | inl absent ↦ ⊎_elim
          (λ opening. bare_leaves c.layout w s b (opening_bare (d (key_of c.journal.sections s)) b (none absent).0 (sound.absent s below absent) opening) (nothing s absent))
          (λ leaves. prefix_leaves c.layout w s (bytes_in c d s ++ frame (record_bytes index spelled)) 0 b
          (record {
            lawful = grown_lawful s same;
            list = sym (lists_here s same);
            synced = omega (arith, none_synced g gives sized told c opened d over t s absent);
          })
          (subst (λ bytes. pages.Leaves c.layout.seal c.layout.page_size bytes 0 b) (ap (λ bytes. bytes ++ frame (record_bytes index spelled)) (sym (bytes_none g gives sized told c opened d over s absent)))
          (subst (λ (n : ℕ). pages.Leaves c.layout.seal n (frame (record_bytes index spelled)) 0 b) paper leaves)))
          (none absent).1
    ]
      where
        nothing : (s : ℕ) → c.journal.sections.held s ≡ None → IsHeld c.layout w s []
        nothing s absent = inl (record { same = refl; synced = omega (arith, none_synced g gives sized told c opened d over t s absent) })

        synced_before : (s : ℕ) (u : PageBlob S gs) → c.journal.sections.held s ≡ Some u
            → (state_of c d).synced s ≤ length (entries_of (take u.settled (bytes_in c d s ++ frame (record_bytes index spelled))))
        synced_before s u held =
            let n = synced_in (c.written s) (bytes_in c d s) in
            let le : n ≤ u.settled = (over.memory t).settled s u held in
            let within : n ≤ length (bytes_in c d s) = within g gives sized told c opened d over t s in
            omega (
              arith,
              fewer_entries (bytes_in c d s ++ frame (record_bytes index spelled)) n u.settled le,
              ap (λ bytes. length (entries_of bytes)) (take-append-le n (bytes_in c d s) (frame (record_bytes index spelled)) within),
            )

    -- each crash leaves what it would have left, and the record or not
    pub put_leaves : (P : ℕ) → P ≡ c.layout.page_size → (e : Disk)
        → ((q : Key) → q ≢ key_of c.journal.sections (section_of c.layout.items index) → e q ≡ d q)
        → ((u : PageBlob S gs) → c.journal.sections.held (section_of c.layout.items index) ≡ Some u
        → pages.Leaves c.layout.seal u.page_size (bytes_in c d (section_of c.layout.items index) ++ frame (record_bytes index spelled)) u.settled (e (key_of c.journal.sections (section_of c.layout.items index))))
        → (c.journal.sections.held (section_of c.layout.items index) ≡ None → ((d (key_of c.journal.sections (section_of c.layout.items index))).there ≡ false)
        × IsBeginning c.layout.seal P (frame (record_bytes index spelled)) (d (key_of c.journal.sections (section_of c.layout.items index))) (e (key_of c.journal.sections (section_of c.layout.items index))))
        → Leaves c.layout w e
    put_leaves P paper e others some none = gathered c.layout w d e sound.names
        (λ q long. others q (λ is. long (ap (λ (k : Key). length k.1) is ∙ length-number_name (section_of c.layout.items index))))
        (λ s below. subst (λ (k : Key). SectionLeaves c.layout w s (e k)) (here g gives sized told c opened d over s) (⊎_elim
        (λ (same : s ≡ section_of c.layout.items index). put_section s below same P paper (e (key_of c.journal.sections s))
        (subst (λ (r : ℕ). (u : PageBlob S gs) → c.journal.sections.held r ≡ Some u → pages.Leaves c.layout.seal u.page_size (bytes_in c d r ++ frame (record_bytes index spelled)) u.settled (e (key_of c.journal.sections r))) (sym same) some)
        (subst (λ (r : ℕ). c.journal.sections.held r ≡ None → ((d (key_of c.journal.sections r)).there ≡ false) × IsBeginning c.layout.seal P (frame (record_bytes index spelled)) (d (key_of c.journal.sections r)) (e (key_of c.journal.sections r))) (sym same) none))
        (λ (other : s ≢ section_of c.layout.items index). (
        let stays : e (key_of c.journal.sections s) ≡ d (key_of c.journal.sections s) = others (key_of c.journal.sections s)
        (λ same. other (key_injective c.journal.sections.partition s (section_of c.layout.items index) below (omega (arith, small, div-mul-le_self index c.layout.items)) same)) in
        lasts g gives sized told c opened d over t sound w s (lists_other s other) refl (e (key_of c.journal.sections s)) (λ u held. inl stays) (λ absent. ap longest stays ∙ sound.absent s below absent)))
        (cases_eq s (section_of c.layout.items index))))
