-- A cache to which a record was added.
use Rattle.std.specs.Prelude.{◌≡◌, ◌≢◌, ℕ, ◌^◌, ◌<◌, ◌≤◌, List, [], ◌∷◌, ◌++◌, length, Option, None, Some, IsSome, is_some, unwrap_or}
use Rattle.std.specs.List.{AllByRecursion}
use Rattle.std.proofs.Common.{⊎_elim, sym, ap, ◌∙◌, subst, arith}
use Rattle.std.proofs.lemmas.Bool.{cases_eq}
use Rattle.blob_device.specs.Disk.{Disk}
use Rattle.blob_device.specs.Opened.{OpenedList}
use Rattle.sealed_pages.specs.declared.page_blob.PageBlob.{PageBlob}
use Rattle.section_manager.specs.Sections.{IsHeld, IsSame, SameBounds}
use Rattle.section_manager.specs.Setting.{Setting}
use Rattle.section_manager.specs.declared.buffer.SectionBuffer as buffer
use Rattle.segments.specs.FixedLists.{Lists, section_bytes}
use Rattle.variable_journal.specs.Frames.{frame, items_of}
use Rattle.variable_journal.specs.Lists.{IsJournal}
use Rattle.variable_journal.specs.lemmas.Frame.{one_more}
use Rattle.cache_store.specs.Caches.{Cache, IsCache, IsTold, bytes_in, state_of}
use Rattle.cache_store.specs.Filing.{state_by, synced_in}
use Rattle.cache_store.specs.Holding.{noted}
use Rattle.cache_store.specs.Machine.{appended, section_of}
use Rattle.cache_store.specs.Records.{entry_of, record_bytes, record_refusal}
use Rattle.cache_store.proofs.LawfulLemmas.{all_more}
use Rattle.cache_store.proofs.OffsetLemmas.{put_listed}
use Rattle.cache_store.proofs.PlaceLemmas.{section_below}
use Rattle.cache_store.proofs.RestLemmas.{bytes_none, whole, within}
use Rattle.cache_store.proofs.StateLemmas.{chosen, noted_synced, passed, put_state}
use Rattle.blob_device.proofs.general.Options.{none_or_value}

module _ {F S : Type 0} {gs : _} (g : buffer.Ghosts (PageBlob S gs)) (gives : F → Setting) (sized : (u : PageBlob S gs) → (g.setting u).page_size ≡ u.page_size)
    (told : Type 0) (c : Cache F (PageBlob S gs)) (opened after : OpenedList) (d e : Disk) (over : IsCache c g gives told opened d)
    (index : ℕ) (spelled : List ℕ) (high : c.floor ≤ section_of c.layout.items index) (new : c.offsets index ≡ None) (fits : length (record_bytes index spelled) < 2 ^ 32)
    (allowed : record_refusal c.layout.refusal (record_bytes index spelled) ≡ None)
    (entry : entry_of (record_bytes index spelled) ≡ record { index = index; value = spelled })
    (k : Lists F (PageBlob S gs)) (offset : ℕ) (off : ℕ → Option ℕ) (idx : ℕ → _) (now : ℕ → Option ℕ)
    (usable : IsJournal g gives c.layout.seal told k after e)
    (place : told → offset ≡ length (bytes_in c d (section_of c.layout.items index)))
    (grown : told → section_bytes k.sections e (section_of c.layout.items index) ≡ bytes_in c d (section_of c.layout.items index) ++ frame (record_bytes index spelled))
    (held : IsHeld k.sections (section_of c.layout.items index))
    (settled : (u v : PageBlob S gs) → c.journal.sections.held (section_of c.layout.items index) ≡ Some u → k.sections.held (section_of c.layout.items index) ≡ Some v → v.settled ≡ u.settled)
    (others : (q : ℕ) → q ≢ section_of c.layout.items index → IsSame c.journal.sections k.sections q)
    (spares : told → (q : ℕ) → q ≢ section_of c.layout.items index → section_bytes k.sections e q ≡ bytes_in c d q)
    (bounds : SameBounds c.journal.sections k.sections) (unrecovered : (q : ℕ) → k.unrecovered q ≡ c.journal.unrecovered q)
    (offs : (i : ℕ) → off i ≡ noted index offset c.offsets i) (tied : (i : ℕ) → idx i ≡ is_some (off i))
    (now_here : now (section_of c.layout.items index) ≡ Some (unwrap_or (c.written (section_of c.layout.items index)) offset))
    (now_other : (s : ℕ) → s ≢ section_of c.layout.items index → now s ≡ c.written s) where
  abbrev pub added : Cache F (PageBlob S gs)
  added = record c { journal = k; offsets = off; indices = idx; written = now }

  module _ (t : told) where
    -- of the section, as much counts as synced as before
    now_synced : (s : ℕ) → now s ≡ noted_synced (section_of c.layout.items index) (bytes_in c d) c.written s
    now_synced s = ⊎_elim
        (λ (same : s ≡ section_of c.layout.items index). ap now same ∙ now_here
        ∙ ap (λ (n : ℕ). Some (unwrap_or (c.written (section_of c.layout.items index)) n)) (place t)
        ∙ sym (ap (λ (r : ℕ). Some (synced_in (c.written r) (bytes_in c d r))) same)
        ∙ sym (chosen s (section_of c.layout.items index) (Some (synced_in (c.written s) (bytes_in c d s))) (c.written s) same))
        (λ (other : s ≢ section_of c.layout.items index). now_other s other ∙ sym (passed s (section_of c.layout.items index) (Some (synced_in (c.written s) (bytes_in c d s))) (c.written s) other))
        (cases_eq s (section_of c.layout.items index))

    all_in : (P : List ℕ → Type 0) → P (record_bytes index spelled) → (s : ℕ) → AllByRecursion P (items_of (bytes_in c d s)) → s ≡ section_of c.layout.items index → AllByRecursion P (items_of (section_bytes k.sections e s))
    all_in P last s all same = subst (AllByRecursion P)
        (sym (ap (λ (r : ℕ). items_of (section_bytes k.sections e r)) same ∙ ap items_of (grown t) ∙ (one_more (bytes_in c d (section_of c.layout.items index)) (record_bytes index spelled) (whole g gives sized told c opened d over t (section_of c.layout.items index)) fits).0
        ∙ sym (ap (λ (r : ℕ). items_of (bytes_in c d r) ++ record_bytes index spelled ∷ []) same)))
        (all_more P (items_of (bytes_in c d s)) (record_bytes index spelled) all last)

    all_out : (P : List ℕ → Type 0) (s : ℕ) → AllByRecursion P (items_of (bytes_in c d s)) → s ≢ section_of c.layout.items index → AllByRecursion P (items_of (section_bytes k.sections e s))
    all_out P s all other = subst (λ bytes. AllByRecursion P (items_of bytes)) (sym (spares t s other)) all

    kept_synced : (s : ℕ) → s ≡ section_of c.layout.items index → synced_in (now s) (section_bytes k.sections e s) ≡ synced_in (c.written s) (bytes_in c d s)
    kept_synced s same = ap (λ (o : Option ℕ). synced_in o (section_bytes k.sections e s)) (now_synced s
        ∙ chosen s (section_of c.layout.items index) (Some (synced_in (c.written s) (bytes_in c d s))) (c.written s) same)

    pub added_told : IsTold added e
    added_told = record {
      indices = tied;
      listed = λ i. offs i ∙ ap (λ (n : ℕ). noted index n c.offsets i) (place t)
          ∙ put_listed c.layout.items index spelled (bytes_in c d) (section_bytes k.sections e) c.offsets entry (whole g gives sized told c opened d over t (section_of c.layout.items index)) fits (grown t) (spares t) (over.memory t).listed new i;
      decoded = λ s. ⊎_elim (all_in (λ x. record_refusal c.layout.refusal x ≡ None) allowed s ((over.memory t).decoded s))
          (all_out (λ x. record_refusal c.layout.refusal x ≡ None) s ((over.memory t).decoded s)) (cases_eq s (section_of c.layout.items index));
      in_section = λ s. ⊎_elim (λ (same : s ≡ section_of c.layout.items index).
          all_in (λ x. section_of c.layout.items (entry_of x).index ≡ s) (ap (λ (x : _). section_of c.layout.items x.index) entry ∙ sym same) s ((over.memory t).in_section s) same)
          (all_out (λ x. section_of c.layout.items (entry_of x).index ≡ s) s ((over.memory t).in_section s)) (cases_eq s (section_of c.layout.items index));
      settled = λ s v is. ⊎_elim
          (λ (same : s ≡ section_of c.layout.items index). ⊎_elim
          (λ (none : c.journal.sections.held s ≡ None). ⊎_elim
          (λ (free : c.written s ≡ None). omega (arith, kept_synced s same, ap (λ (o : Option ℕ). synced_in o (bytes_in c d s)) free, ap length (bytes_none g gives sized told c opened d over s none)))
          (λ has. absurd (cc (subst IsSome none (over.written s (ap is_some has.1)))))
          (none_or_value (c.written s)))
          (λ some. omega (arith, kept_synced s same, (over.memory t).settled s some.0 some.1, settled some.0 v (ap c.journal.sections.held (sym same) ∙ some.1) (ap k.sections.held (sym same) ∙ is)))
          (none_or_value (c.journal.sections.held s)))
          (λ (other : s ≢ section_of c.layout.items index). omega (
            arith,
            (over.memory t).settled s v (sym (others s other).held ∙ is),
            ap (λ (o : Option ℕ). synced_in o (section_bytes k.sections e s)) (now_other s other),
            ap (λ bytes. synced_in (c.written s) bytes) (spares t s other),
          ))
          (cases_eq s (section_of c.layout.items index));
    }

    -- what was put is a step
    pub added_step : state_of added e ≡ appended c.layout.items index spelled (state_of c d)
    added_step = ap (λ (written : ℕ → Option ℕ). state_by (section_bytes k.sections e) written c.floor) (λ i s. now_synced s i)
        ∙ put_state c.layout.items index c.floor spelled (bytes_in c d) (section_bytes k.sections e) c.written entry (whole g gives sized told c opened d over t (section_of c.layout.items index)) fits (grown t) (spares t) (within g gives sized told c opened d over t)

  pub added_over : IsCache added g gives told after e
  added_over = record {
    journal = usable;
    ceiling = bounds.ceiling ∙ over.ceiling;
    recovered = λ s. unrecovered s ∙ over.recovered s;
    partition = bounds.place.partition ∙ over.partition;
    pages = ap (λ (f : F). (gives f).page_size) bounds.place.factory ∙ over.pages;
    items = over.items;
    floor = over.floor;
    journal_floor = omega (arith, bounds.floor, over.journal_floor);
    indices = tied;
    below = λ s low. (let same = others s (λ is. omega (arith, is, low, high)) in record { held = same.held ∙ (over.below s low).held; unopened = same.unopened ∙ (over.below s low).unopened });
    none_below = λ i low. ap is_some (offs i ∙ passed i index (Some offset) (c.offsets i)
        (λ same. omega (arith, high, section_below c.layout.items c.floor index (subst (λ (n : ℕ). n < c.floor) same low)))) ∙ over.none_below i low;
    written = λ s has. ⊎_elim
        (λ (same : s ≡ section_of c.layout.items index). subst (IsHeld k.sections) (sym same) held)
        (λ (other : s ≢ section_of c.layout.items index). subst IsSome (sym (others s other).held) (over.written s (subst IsSome (now_other s other) has)))
        (cases_eq s (section_of c.layout.items index));
    settled = λ s v is none. ⊎_elim
        (λ (same : s ≡ section_of c.layout.items index). absurd (cc (sym none ∙ ap now same, now_here)))
        (λ (other : s ≢ section_of c.layout.items index). over.settled s v (sym (others s other).held ∙ is) (sym (now_other s other) ∙ none))
        (cases_eq s (section_of c.layout.items index));
    memory = added_told;
  }
