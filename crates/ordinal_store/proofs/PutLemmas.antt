-- A write of one index's slot through the buffer of its section: what it leaves at each moment, and what stands in the slots then.
use Rattle.std.proofs.Common.{◌≡◌, ◌≢◌, ◌⊎◌, inl, inr, ℕ, ◌+◌, ◌-◌, ◌*◌, ◌^◌, ◌<◌, ◌≤◌, max, List, [], ◌∷◌, length, get_or, take, drop, Some, refl, sym, ◌∙◌, ap, subst, arith, length-take-le, length-drop}
use Rattle.std.specs.List.{AllByRecursion}
use Rattle.std.proofs.lemmas.Bool.{cases_eq}
use Rattle.std.proofs.lemmas.List.{get_or-take, get_or-drop}
use Rattle.std.proofs.lemmas.List.Elements.{All-contains, All-from_recursion}
use Rattle.std.proofs.Math.Nat.{mod-lt, mod-add-div}
use Rattle.blob_device.specs.Change.{written}
use Rattle.blob_device.specs.Disk.{Disk, Key, Outside, longest, past}
use Rattle.blob_device.specs.Timeline.{Always, OnlyAt, Timeline, disk}
use Rattle.blob_device.specs.lemmas.Puts.{same_or_other}
use Rattle.sealed_pages.specs.Contents.{AddsOnly}
use Rattle.sealed_pages.specs.Sparing.{Spares, Sparing}
use Rattle.sealed_pages.specs.View.{Within}
use Rattle.sealed_pages.specs.unsealed.Writing.{Over, bytes_of, run_of, shown, size_of}
use Rattle.sealed_pages.specs.declared.write_blob.WriteBlob.{WriteBlob}
use Rattle.sealed_pages.specs.lemmas.unsealed.Content.{adds_keep}
use Rattle.ordinal_store.specs.Durable.{IsDurable, Stays}
use Rattle.ordinal_store.specs.Slots.{Layout, place_of, position_of, section_of, slot_at, slot_size}
use Rattle.ordinal_store.specs.Stores.{IsQuiet, Store, key_of}
use Rattle.ordinal_store.proofs.DurableLemmas.{part_there}
use Rattle.ordinal_store.proofs.MendingLemmas.{slots_apart}
use Rattle.ordinal_store.proofs.StayLemmas.{durable_here, durable_there, put_spares}
use Rattle.ordinal_store.proofs.StepLemmas.{all_short, keys_differ, longest_of, section_small}
use Rattle.blob_device.specs.Lengths.{length-written}
use Rattle.blob_device.specs.Places.{written_in, written_out}
use Rattle.blob_device.proofs.general.Numbers.{times_more}

-- two indices of one section have different positions
pub positions_differ : (l : Layout) (i j : ℕ) → j ≢ i → section_of l j ≡ section_of l i → position_of l i ≢ position_of l j
positions_differ l i j other same position = other
    (sym (mod-add-div j l.items) ∙ ap (λ (p : ℕ). p + l.items * section_of l j) (sym position) ∙ ap (λ (q : ℕ). position_of l i + l.items * q) same ∙ mod-add-div i l.items)

-- a slot ends with its section's slots, or before
pub slot_inside : (l : Layout) (i : ℕ) → 1 ≤ l.items → place_of l i + slot_size l ≤ l.items * slot_size l
slot_inside l i some = times_more (position_of l i) l.items (slot_size l) (mod-lt i (omega (arith, some)))

-- the slot that was written
pub slot_written : (size p : ℕ) (bytes slot : List ℕ) → length slot ≡ size → slot_at size (written bytes (p * size) slot) p ≡ slot
slot_written size p bytes slot len = subst (λ (n : ℕ). take n (drop (p * size) (written bytes (p * size) slot)) ≡ slot) len
    (part_there (written bytes (p * size) slot) slot (p * size) (omega (arith, length-written bytes (p * size) slot))
    (λ k w.
    let there : p * size + (k - p * size) ≡ k = omega (arith, w.low) in
    ap (λ (m : ℕ). get_or (written bytes (p * size) slot) m 0) (sym there) ∙ written_in bytes (p * size) slot (k - p * size) (omega (arith, w.low, w.high))))

-- the slots beside it
pub slot_beside : (size p q : ℕ) (bytes slot : List ℕ) → length slot ≡ size → p ≢ q → q * size + size ≤ length bytes → slot_at size (written bytes (p * size) slot) q ≡ slot_at size bytes q
slot_beside size p q bytes slot len other room =
    let whole : List ℕ = slot_at size bytes q in
    let long : length whole ≡ size = length-take-le size (drop (q * size) bytes) (omega (arith, length-drop (q * size) bytes, room)) in
    subst (λ (n : ℕ). take n (drop (q * size) (written bytes (p * size) slot)) ≡ whole) long
    (part_there (written bytes (p * size) slot) whole (q * size) (omega (arith, length-written bytes (p * size) slot, room, long))
    (λ k w.
    let place : Within (q * size) size k = record { low = w.low; high = omega (arith, w.high, long) } in
    let out : (k < p * size) ⊎ (p * size + length slot ≤ k) = subst (λ (n : ℕ). (k < p * size) ⊎ (p * size + n ≤ k)) (sym len) (slots_apart p q size k other place) in
    let back : q * size + (k - q * size) ≡ k = omega (arith, w.low) in
    written_out bytes (p * size) slot k out
    ∙ ap (λ (m : ℕ). get_or bytes m 0) (sym back) ∙ sym (get_or-drop (q * size) bytes (k - q * size) 0) ∙ sym (get_or-take size (drop (q * size) bytes) (k - q * size) 0 (omega (arith, place.high, w.low)))))

module _ (o : Store) (s : ℕ) (small : s < 2 ^ 64) (u : WriteBlob) (at : o.buffers s ≡ Some u) (t0 t1 : Timeline) (over : Over (shown u) (disk t0 (key_of o s)))
    (bounded : size_of (shown u) ≤ max u.settled (o.layout.items * slot_size o.layout)) where
  -- contents that a call adds, none longer than the section's slots or what settled, make no crash longer
  pub short_since : (made : List (List ℕ)) (n : ℕ) → AllByRecursion (λ (c : List ℕ). length c ≤ n) made → longest (disk t0 (key_of o s)) ≤ n → AddsOnly made (key_of o s) t0 t1
      → (m : ℕ) → 2 * t0.calls ≤ m → m ≤ 2 * t1.calls → longest (t1.at m (key_of o s)) ≤ n
  short_since made n new short adds m lo hi =
      let b = disk t0 (key_of o s) in
      let all = (adds_keep (λ (c : List ℕ). length c ≤ n) made (key_of o s) t0 t1 (all_short n (length b.settled) b.since short) new adds).each m lo hi in
      longest_of n (t1.at m (key_of o s)).settled (t1.at m (key_of o s)).since all

  -- the bytes of the buffer are no longer
  pub bytes_short : (n : ℕ) → o.layout.items * slot_size o.layout ≤ n → longest (disk t0 (key_of o s)) ≤ n → length (bytes_of (shown u) (disk t0 (key_of o s)).content) ≤ n
  bytes_short n room short =
      let b = disk t0 (key_of o s) in
      let content : length b.content ≤ n = All-contains (λ (c : List ℕ). length c ≤ n) (past b) b.content (All-from_recursion (λ (c : List ℕ). length c ≤ n) (past b) (all_short n (length b.settled) b.since short)) over.had in
      omega (arith, content, bounded, room, over.lasts.long, length-written b.content (shown u).at (shown u).pending)

  module _ (i : ℕ) (slot : List ℕ) (section : section_of o.layout i ≡ s) (len : length slot ≡ slot_size o.layout) (some : 1 ≤ o.layout.items)
      (spares : Sparing (Outside ((place_of o.layout i, length slot) ∷ run_of (shown u) ∷ [])) u.settled (key_of o s) t0 t1)
      (adds : AddsOnly (bytes_of (shown u) (disk t0 (key_of o s)).content ∷ written (bytes_of (shown u) (disk t0 (key_of o s)).content) (place_of o.layout i) slot ∷ []) (key_of o s) t0 t1) where
    abbrev R : ℕ → Type 0
    R = Outside ((place_of o.layout i, length slot) ∷ run_of (shown u) ∷ [])

    kept : (d : Disk) → OnlyAt (key_of o s) (disk t0) (Spares R u.settled (disk t0 (key_of o s))) d → (j : ℕ) (kept : List ℕ) → (j ≢ i) × IsQuiet o j → IsDurable o.layout (disk t0) j kept → IsDurable o.layout d j kept
    kept d only j bytes spared durable = elim (cases_eq (section_of o.layout j) s) [
      | inl same ↦ durable_here o s u at (disk t0) d over R only j bytes same spared.1
          (put_spares o s u at (disk t0) d over R only i j (length slot) refl len same (positions_differ o.layout i j spared.0 (same ∙ sym section)) spared.1) durable
      | inr other ↦ durable_there o s u at (disk t0) d over R only j bytes (keys_differ o.layout.partition (section_of o.layout j) s (section_small o.layout j durable.index) small other) durable
    ]

    -- at each moment of the write
    pub stays_written : Always t0 t1 (Stays o.layout (λ j. (j ≢ i) × IsQuiet o j) (λ q. q ≡ key_of o s) (disk t0))
    stays_written = record {
      later = spares.later;
      kept = spares.kept;
      each = λ m lo hi. let only = spares.each m lo hi in record {
        slots = kept (t1.at m) only;
        bounded = λ q n room short. elim (same_or_other q (key_of o s)) [
          | inl same ↦ subst (λ (k : Key). longest (t1.at m k) ≤ n) (sym same)
              (let short_here : longest (disk t0 (key_of o s)) ≤ n = subst (λ (k : Key). longest (disk t0 k) ≤ n) same short in
              let whole = bytes_short n room short_here in
              short_since _ n (whole, (omega (arith, whole, room, slot_inside o.layout i some, len, length-written (bytes_of (shown u) (disk t0 (key_of o s)).content) (place_of o.layout i) slot), tt)) short_here adds m lo hi)
          | inr other ↦ subst (λ (b : _). longest b ≤ n) (sym (only.others q other)) short
        ];
        others = λ q out. only.others q out;
      };
    }
