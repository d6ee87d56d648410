-- A cache whose written sections were settled.
use Rattle.std.specs.Prelude.{◌≡◌, ◌⊎◌, ℕ, List, length, map, Option, None, Some, IsSome, IsSomeAnd, nat_eq}
use Rattle.std.specs.List.{AllByRecursion, IsDistinct}
use Rattle.std.proofs.Common.{inl, inr, ⊎_elim, refl, sym, ap, ◌∙◌, subst, arith}
use Rattle.std.proofs.lemmas.Bool.{cases_eq}
use Rattle.blob_device.specs.Disk.{Key, Blob, Disk, MayLeave, longest}
use Rattle.blob_device.specs.Opened.{OpenedList}
use Rattle.blob_device.specs.Timeline.{Each}
use Rattle.sealed_pages.specs.Buffer.{bytes_of, size_of}
use Rattle.sealed_pages.specs.Shown.{shown}
use Rattle.sealed_pages.specs.declared.page_blob.PageBlob.{PageBlob}
use Rattle.section_manager.specs.SealedLaws.{counted}
use Rattle.section_manager.specs.Sections.{key_of, section_key, IsSynced, SameBounds}
use Rattle.section_manager.specs.Setting.{Setting}
use Rattle.section_manager.specs.declared.buffer.SectionBuffer as buffer
use Rattle.section_manager.specs.lemmas.Keys.{key_injective}
use Rattle.segments.specs.FixedLasting.{Settling}
use Rattle.segments.specs.FixedLists.{Lists, bytes_held}
use Rattle.segments.specs.lemmas.adding.Write.{ArePages}
use Rattle.variable_journal.specs.Frames.{items_of}
use Rattle.variable_journal.specs.Lists.{IsJournal}
use Rattle.cache_store.specs.Caches.{Cache, IsCache, IsSound, IsTold, bytes_in, state_of}
use Rattle.cache_store.specs.Filing.{offset_in, synced_in}
use Rattle.cache_store.specs.Kept.{entries_of}
use Rattle.cache_store.specs.Machine.{after_sync, section_of}
use Rattle.cache_store.specs.Records.{entry_of, record_refusal}
use Rattle.cache_store.proofs.RestLemmas.{no_section, number}
use Rattle.cache_store.proofs.StateLemmas.{sync_state}
use Rattle.blob_device.proofs.general.Options.{none_or_value}

-- What a cache is read by: its buffers show their pages, their sizes and their bytes.
pub record Reads {S : Type 0} {gs : _} (g : buffer.Ghosts (PageBlob S gs)) : Type 0 where
  pub sized : (u : PageBlob S gs) → (g.setting u).page_size ≡ u.page_size
  pub settled : (u : PageBlob S gs) → g.settled u ≡ u.settled
  pub count : (u : PageBlob S gs) → g.byte_count u ≡ size_of (shown u)
  pub bytes : (u : PageBlob S gs) (x : List ℕ) → g.bytes u x ≡ bytes_of (shown u) x

pub read_by : {S : Type 0} {gs : _} (g : buffer.Ghosts (PageBlob S gs)) (seal : List ℕ → ℕ) → ArePages g seal → Reads g
read_by g seal are = record { sized = are.page_size; settled = are.settled; count = are.count; bytes = are.bytes }

module _ {F S : Type 0} {gs : _} (g : buffer.Ghosts (PageBlob S gs)) (gives : F → Setting) (reads : Reads g)
    (told : Type 0) (c : Cache F (PageBlob S gs)) (opened after : OpenedList) (d e : Disk) (over : IsCache c g gives told opened d)
    (k : Lists F (PageBlob S gs)) (now : ℕ → Option ℕ) (cleared : (s : ℕ) → now s ≡ None)
    (usable : IsJournal g gives c.layout.seal told k after e)
    (named : (s : ℕ) (u : PageBlob S gs) → (c.written s ≡ None → ⊥) → c.journal.sections.held s ≡ Some u
    → IsSomeAnd (k.sections.held s) (λ v. IsSynced g told u v (d (key_of c.journal.sections s)) (e (key_of c.journal.sections s))))
    (none : (s : ℕ) → c.journal.sections.held s ≡ None → k.sections.held s ≡ None)
    (others : (s : ℕ) → ((c.written s ≡ None → ⊥) → ⊥) → k.sections.held s ≡ c.journal.sections.held s)
    (unopened : (s : ℕ) → k.sections.unopened s ≡ c.journal.sections.unopened s)
    (bounds : SameBounds c.journal.sections k.sections)
    (unrecovered : (s : ℕ) → k.unrecovered s ≡ c.journal.unrecovered s)
    (moments : told → Each (Settling c.layout.seal c.journal (λ s. c.written s ≡ None → ⊥) d) e) where
  -- the cache
  abbrev pub synced : Cache F (PageBlob S gs)
  synced = record c { journal = k; written = now }

  key_same : (s : ℕ) → key_of k.sections s ≡ key_of c.journal.sections s
  key_same s = ap (λ (p : List ℕ). section_key p s) bounds.place.partition

  -- which was written
  written_or : (s : ℕ) → (c.written s ≡ None) ⊎ (c.written s ≡ None → ⊥)
  written_or s = ⊎_elim (λ is. inl is) (λ has. inr (λ is. cc (is, has.1))) (none_or_value (c.written s))

  settled_size : (s : ℕ) (v : PageBlob S gs) → k.sections.held s ≡ Some v → v.settled ≡ size_of (shown v)
  settled_size s v held = ⊎_elim
      (λ (is : c.written s ≡ None). over.settled s v (sym (others s (λ not. not is)) ∙ held) is)
      (λ has. ⊎_elim
      (λ absent. absurd (cc (none s absent, held)))
      (λ some. (let it = subst (λ (o : Option (PageBlob S gs)). IsSomeAnd o (λ v. IsSynced g told some.0 v (d (key_of c.journal.sections s)) (e (key_of c.journal.sections s)))) held (named s some.0 has some.1) in
      sym (reads.settled v) ∙ it.settled ∙ sym it.size ∙ reads.count v))
      (none_or_value (c.journal.sections.held s)))
      (written_or s)

  module _ (t : told) where
    -- each section has the bytes that it had
    bytes_same : (s : ℕ) → bytes_in synced e s ≡ bytes_in c d s
    bytes_same s = ⊎_elim
        (λ absent. ap (λ (o : Option (PageBlob S gs)). bytes_held o (e (key_of k.sections s)).content) (none s absent) ∙ sym (ap (λ (o : Option (PageBlob S gs)). bytes_held o (d (key_of c.journal.sections s)).content) absent))
        (λ some. ⊎_elim
        (λ (is : c.written s ≡ None).
        ap (λ (o : Option (PageBlob S gs)). bytes_held o (e (key_of k.sections s)).content) (others s (λ not. not is))
        ∙ ap (λ (b : Blob). bytes_held (c.journal.sections.held s) b.content) (ap e (key_same s) ∙ (moments t (key_of c.journal.sections s)).others
        (λ it. it.1.0 (ap c.written (key_injective c.journal.sections.partition it.0 s (over.journal.bytes.over.opened_list.number it.0 (inl it.1.1)) (number g gives reads.sized told c opened d over s some.0 some.1) (sym it.2)) ∙ is))))
        (λ has. synced_bytes s some.0 some.1 has (k.sections.held s) refl (named s some.0 has some.1))
        (written_or s))
        (none_or_value (c.journal.sections.held s))
      where
        synced_bytes : (s : ℕ) (u : PageBlob S gs) → c.journal.sections.held s ≡ Some u → (c.written s ≡ None → ⊥) → (o : Option (PageBlob S gs)) → k.sections.held s ≡ o
            → IsSomeAnd o (λ v. IsSynced g told u v (d (key_of c.journal.sections s)) (e (key_of c.journal.sections s)))
            → bytes_held (k.sections.held s) (e (key_of k.sections s)).content ≡ bytes_held (c.journal.sections.held s) (d (key_of c.journal.sections s)).content
        synced_bytes s u held has None is it = absurd it
        synced_bytes s u held has (Some v) is it =
            ap (λ (o : Option (PageBlob S gs)). bytes_held o (e (key_of k.sections s)).content) is
            ∙ ap (λ (q : Key). bytes_of (shown v) (e q).content) (key_same s)
            ∙ sym (reads.bytes v (e (key_of c.journal.sections s)).content) ∙ it.bytes t ∙ reads.bytes u (d (key_of c.journal.sections s)).content
            ∙ sym (ap (λ (o : Option (PageBlob S gs)). bytes_held o (d (key_of c.journal.sections s)).content) held)

    synced_told : IsTold synced e
    synced_told = record {
      indices = (over.memory t).indices;
      listed = λ i. (over.memory t).listed i ∙ ap (λ bytes. offset_in i 0 (items_of bytes)) (sym (bytes_same (section_of c.layout.items i)));
      decoded = λ s. subst (λ bytes. AllByRecursion (λ x. record_refusal c.layout.refusal x ≡ None) (items_of bytes)) (sym (bytes_same s)) ((over.memory t).decoded s);
      in_section = λ s. subst (λ bytes. AllByRecursion (λ x. section_of c.layout.items (entry_of x).index ≡ s) (items_of bytes)) (sym (bytes_same s)) ((over.memory t).in_section s);
      settled = λ s v held. omega (
        arith,
        settled_size s v held,
        ap (λ (o : Option ℕ). synced_in o (bytes_in synced e s)) (cleared s),
        ap (λ (o : Option (PageBlob S gs)). length (bytes_held o (e (key_of k.sections s)).content)) held,
        counted (shown v) (e (key_of k.sections s)).content,
      );
    }

    -- what was synced is a step
    pub synced_step : state_of synced e ≡ after_sync (state_of c d)
    synced_step = sync_state c.floor (bytes_in c d) (bytes_in synced e) c.written now bytes_same cleared

    pub synced_sound : IsSound c d → IsSound synced e
    synced_sound sound = record {
      once = λ s. subst (λ bytes. IsDistinct nat_eq (map (λ x. x.index) (entries_of bytes))) (sym (bytes_same s)) (sound.once s);
      names = λ name x may. ⊎_elim (λ eight. eight)
          (λ long. sound.names name x (subst (λ (b : Blob). MayLeave b (Some x)) ((moments t (c.layout.partition, name)).others (no_section c.journal.sections _ (c.layout.partition, name) long)) may))
          (cases_eq (length name) 8);
      absent = λ s small bare. ⊎_elim
          (λ absent. ap longest (ap e (key_same s) ∙ (moments t (key_of c.journal.sections s)).others
          (λ it. cc (subst IsSome absent (subst (λ (r : ℕ). IsSome (c.journal.sections.held r))
          (key_injective c.journal.sections.partition it.0 s (over.journal.bytes.over.opened_list.number it.0 (inl it.1.1)) small (sym it.2)) it.1.1)))) ∙ sound.absent s small absent)
          (λ some. ⊎_elim
          (λ (is : c.written s ≡ None). absurd (cc (sym (others s (λ not. not is)) ∙ bare, some.1)))
          (λ has. absurd (subst (λ (o : Option (PageBlob S gs)). IsSomeAnd o (λ v. IsSynced g told some.0 v (d (key_of c.journal.sections s)) (e (key_of c.journal.sections s)))) bare (named s some.0 has some.1)))
          (written_or s))
          (none_or_value (c.journal.sections.held s));
    }

  -- the cache may be used
  pub synced_over : IsCache synced g gives told after e
  synced_over = record {
    journal = usable;
    ceiling = bounds.ceiling ∙ over.ceiling;
    recovered = λ s. unrecovered s ∙ over.recovered s;
    partition = bounds.place.partition ∙ over.partition;
    pages = ap (λ (f : F). (gives f).page_size) bounds.place.factory ∙ over.pages;
    items = over.items;
    floor = over.floor;
    journal_floor = omega (arith, bounds.floor, over.journal_floor);
    indices = over.indices;
    below = λ s low. record { held = none s (over.below s low).held; unopened = unopened s ∙ (over.below s low).unopened };
    none_below = over.none_below;
    written = λ s has. absurd (cc (subst IsSome (cleared s) has));
    settled = λ s v held is. settled_size s v held;
    memory = synced_told;
  }
