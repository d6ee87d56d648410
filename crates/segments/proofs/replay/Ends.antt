-- Where a replay of a fixed journal comes to the end of a section: behind the last whole item of its sealed prefix.
use Rattle.std.specs.Prelude.{◌≡◌, ◌⊎◌, ℕ, ◌+◌, ◌*◌, ◌%◌, ◌<◌, ◌≤◌, Bool, true, false, List, length, IsTrue, Some}
use Rattle.std.proofs.Common.{inl, inr, refl, sym, ◌∙◌, ap, subst, arith}
use Rattle.std.proofs.lemmas.Bool.{cases_lt}
use Rattle.std.proofs.lemmas.Nat.{mod-mul-add}
use Rattle.blob_device.specs.Disk.{Blob, Disk}
use Rattle.blob_device.specs.Opened.{OpenedList}
use Rattle.sealed_pages.specs.declared.page_blob.PageBlob.{PageBlob}
use Rattle.sealed_pages.specs.Shown.{shown}
use Rattle.sealed_pages.specs.Buffer.{size_of, IsSealed}
use Rattle.sealed_pages.specs.Readers.{next_of}
use Rattle.sealed_pages.specs.Reads.{IsShort}
use Rattle.sealed_pages.specs.Unrecovered.{IsAdopted}
use Rattle.sealed_pages.specs.lemmas.memory.Holding.{bytes_length}
use Rattle.segments.specs.lemmas.replay.Kept.{covered_length, sealed_by_length, sealed_flushed, short_length}
use Rattle.section_manager.specs.declared.buffer.SectionBuffer as buffer
use Rattle.section_manager.specs.Setting.{Setting}
use Rattle.section_manager.specs.Sections.{key_of}
use Rattle.segments.specs.FixedLists.{IsProven}
use Rattle.segments.specs.FixedReplay.{Place, Walk, IsReadWhole, IsWalk, kept_bytes}
use Rattle.segments.specs.FixedStepping.{standing, EndsAt}
use Rattle.segments.proofs.replay.Kept.{next_within}
use Rattle.segments.proofs.replay.Reading.{here, reads_here, kept_owed, kept_free}
use Rattle.blob_device.proofs.general.Numbers.{last_place, times_next}

module _ {F S : Type 0} {gs : _} (seal : List ℕ → ℕ) (size : ℕ) (g : buffer.Ghosts (PageBlob S gs)) (gives : F → Setting) {told : Type 0} (w : Walk F (PageBlob S gs)) (r : Place) (opened : OpenedList) (d : Disk)
    (was : IsWalk g gives seal size told (standing w r) opened d) (adopt : (u : PageBlob S gs) (b : Blob) → g.Stands u b → IsAdopted seal (shown u) b) (pos : 1 ≤ size) where
  abbrev u : PageBlob S gs
  u = (here seal size g gives w r opened d was).0

  abbrev blob : Blob
  blob = d (key_of w.journal.sections r.section)

  -- All bytes were read: where they were read from the start on, they are sealed.
  module _ (rest : next_of r.reader ≡ r.reader.size) where
    sealed_end : told → IsReadWhole (standing w r) r.section → IsSealed seal (shown u) blob
    sealed_end t read =
        let h = (here seal size g gives w r opened d was).2 in
        let adopted = adopt u blob ((was.over.disk t).stands r.section u (here seal size g gives w r opened d was).1) in
        let long = covered_length seal u.page_size blob.content (omega (arith, u.fit.begun)) (next_of r.reader) ((reads_here seal size g gives w r opened d was t).checked read) in
        sealed_by_length seal (shown u) blob u.fit.begun adopted (omega (arith, long, rest, h.blob_size))

    pub count_all : told → length (kept_bytes seal size (standing w r) d r.section) ≡ size_of (shown u)
    count_all t = go (w.journal.unrecovered r.section) refl
      where
        go : (owes : Bool) → w.journal.unrecovered r.section ≡ owes → length (kept_bytes seal size (standing w r) d r.section) ≡ size_of (shown u)
        go true owed = ap length (kept_owed seal size g gives w r opened d was owed)
            ∙ ap length (sealed_flushed seal (shown u) blob u.fit.begun (sealed_end t (inl owed)) (here seal size g gives w r opened d was).2.flushed) ∙ bytes_length (shown u) blob.content
        go false free = ap length (kept_free seal size g gives w r opened d was free) ∙ bytes_length (shown u) blob.content

  -- Only a section that owes a replay, or has a floor, has a page that is not covered.
  pub short_owed : (m n k : ℕ) → m + n ≤ r.reader.size → told → IsShort seal u.page_size blob.content m n k → IsTrue (w.journal.unrecovered r.section) ⊎ ((w.journal.unrecovered r.section ≡ false) × (0 < w.journal.floor_of r.section))
  short_owed m n k near t short = go (w.journal.unrecovered r.section) refl
    where
      go : (owes : Bool) → w.journal.unrecovered r.section ≡ owes → IsTrue (w.journal.unrecovered r.section) ⊎ ((w.journal.unrecovered r.section ≡ false) × (0 < w.journal.floor_of r.section))
      go true owed = inl owed
      go false free = elim (cases_lt 0 (w.journal.floor_of r.section)) [
        | inl floor ↦ inr (free, floor)
        | inr none ↦
            let h = here seal size g gives w r opened d was in
            let proven : IsProven w.journal r.section = record { checked = free; free = omega (arith, none) } in
            let long = ap length (sealed_flushed seal (shown u) blob u.fit.begun ((was.disk t).sealed.sealed r.section u h.1 proven) h.2.flushed) in
            absurd (omega (arith, near, h.2.blob_size, long, bytes_length (shown u) blob.content, short_length seal u.page_size blob.content (omega (arith, u.fit.begun)) m n k short))
      ]

  -- The bytes up to the place are kept.
  pub kept_from : told → r.position * size ≤ length (kept_bytes seal size (standing w r) d r.section)
  kept_from t = go (w.journal.unrecovered r.section) refl
    where
      go : (owes : Bool) → w.journal.unrecovered r.section ≡ owes → r.position * size ≤ length (kept_bytes seal size (standing w r) d r.section)
      go true owed =
          let h = (here seal size g gives w r opened d was).2 in
          let long = covered_length seal u.page_size blob.content (omega (arith, u.fit.begun)) (next_of r.reader) ((reads_here seal size g gives w r opened d was t).checked (inl owed)) in
          omega (arith, h.at, long, ap length (kept_owed seal size g gives w r opened d was owed))
      go false free = omega (arith, (here seal size g gives w r opened d was).2.within, ap length (kept_free seal size g gives w r opened d was free), bytes_length (shown u) blob.content)

  -- No whole item is kept behind it.
  module _ (last : told → length (kept_bytes seal size (standing w r) d r.section) < (r.position + 1) * size) where
    -- nor is one in a section that owes no replay
    free_end : told → w.journal.unrecovered r.section ≡ false → size_of (shown u) ≤ r.position * size
    free_end t free = elim (cases_lt (r.position * size) (size_of (shown u))) [
      | inl lt ↦ absurd (omega (
        arith,
        last t,
        ap length (kept_free seal size g gives w r opened d was free),
        bytes_length (shown u) blob.content,
        next_within size (size_of (shown u)) r.position pos ((was.disk t).sealed.whole r.section u (here seal size g gives w r opened d was).1 free) lt,
      ))
      | inr le ↦ le
    ]

    end_here : told → (IsTrue (w.journal.unrecovered r.section) → size_of (shown u) ≤ r.position * size) → size_of (shown u) ≡ r.position * size + 0
    end_here t owing = go (w.journal.unrecovered r.section) refl
      where
        go : (owes : Bool) → w.journal.unrecovered r.section ≡ owes → size_of (shown u) ≡ r.position * size + 0
        go true owed = omega (arith, owing owed, (here seal size g gives w r opened d was).2.within)
        go false free = omega (arith, free_end t free, (here seal size g gives w r opened d was).2.within)

    pub ends_kept : (cuts : Bool) → (cuts ≡ false → IsTrue (w.journal.unrecovered r.section) → size_of (shown u) ≤ r.position * size) → (cuts ≡ true → r.position * size < size_of (shown u))
        → told → EndsAt seal size (standing w r) d r cuts
    ends_kept cuts empty some t = record {
      last = last_place size (length (kept_bytes seal size (standing w r) d r.section)) r.position pos (kept_from t) (omega (arith, last t, times_next r.position size));
      whole = λ not read v held. (let same = has_here v held in
          subst (λ (x : PageBlob S gs). IsSealed seal (shown x) blob × (size_of (shown x) % size ≡ 0)) (sym same) (sealed_here not read, whole_here not));
      longer = λ cut v held. subst (λ (x : PageBlob S gs). r.position * size < size_of (shown x)) (sym (has_here v held)) (some cut);
    }
      where
        has_here : (v : PageBlob S gs) → w.journal.sections.held r.section ≡ Some v → v ≡ u
        has_here v held = (let mine = (here seal size g gives w r opened d was).1 in cc (mine, held))

        whole_here : cuts ≡ false → size_of (shown u) % size ≡ 0
        whole_here not = ap (λ (n : ℕ). n % size) (end_here t (empty not)) ∙ mod-mul-add r.position size 0 (omega (arith, pos))

        sealed_here : cuts ≡ false → IsReadWhole (standing w r) r.section → IsSealed seal (shown u) blob
        sealed_here not read =
            let h = here seal size g gives w r opened d was in
            let adopted = adopt u blob ((was.over.disk t).stands r.section u h.1) in
            let long = covered_length seal u.page_size blob.content (omega (arith, u.fit.begun)) (next_of r.reader) ((reads_here seal size g gives w r opened d was t).checked read) in
            sealed_by_length seal (shown u) blob u.fit.begun adopted (omega (arith, long, h.2.at, end_here t (empty not)))
