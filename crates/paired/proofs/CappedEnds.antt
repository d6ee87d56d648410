-- Ends that a bound gives: one section is cut to so many records, of which what was kept is kept.
use Rattle.std.proofs.Common.{◌≡◌, ℕ, ◌^◌, ◌<◌, ◌≤◌, ◌==◌, if◌then◌else◌, Bool, true, false, List, length, map, take, Option, None, Some, refl, ap, arith}
use Rattle.std.proofs.lemmas.Bool.{eqb-true}
use Rattle.blob_device.specs.Disk.{Disk}
use Rattle.blob_device.specs.Opened.{OpenedList}
use Rattle.sealed_pages.specs.declared.page_blob.PageBlob.{PageBlob}
use Rattle.sealed_pages.specs.declared.write_blob.WriteBlob.{WriteBlob}
use Rattle.section_manager.specs.declared.buffer.SectionBuffer as buffer
use Rattle.section_manager.specs.declared.unsealed.WriteFactory.{WriteFactory}
use Rattle.section_manager.specs.Sections.{Sections}
use Rattle.section_manager.specs.Setting.{Setting}
use Rattle.segments.specs.FixedLists.{Lists}
use Rattle.segments.specs.FixedLists as fixed
use Rattle.value_codec.specs.declared.key.Key8.{Key8}
use Rattle.meta_store.specs.Store.{Store}
use Rattle.paired.specs.Kept.{Layout, marker_of, content_at, stored_records, is_sound_in, kept}
use Rattle.paired.specs.Opening.{as_read, Relation, IsOrder, APrefix, UpTo}
use Rattle.paired.specs.Pair.{AreApart}
use Rattle.paired.specs.Records.{records, unbroken_prefix, entry_of}
use Rattle.paired.proofs.Ends.{Bounds}
use Rattle.paired.proofs.opening.Ends.{prefix_order, up_to_order, cut_prefix, cut_up_to}
use Rattle.paired.specs.lemmas.Ends.{Ends}
use Rattle.paired.specs.lemmas.reconcile.Resting.{Resting}
use Rattle.blob_device.proofs.general.Options.{some_same}

-- n at that section alone
abbrev pub only_at : ℕ → ℕ → ℕ → Option ℕ
only_at section n s = if s == section then Some n else None

-- the records before the end, or all
abbrev pub cut_to : Option ℕ → List (List ℕ) → List (List ℕ)
cut_to None rs = rs
cut_to (Some n) rs = take n rs

is_at : (section n s p : ℕ) → only_at section n s ≡ Some p → (s ≡ section) × (n ≡ p)
is_at section n s p = go (s == section) refl
  where
    go : (b : Bool) → (s == section) ≡ b → (if b then Some n else None) ≡ Some p → (s ≡ section) × (n ≡ p)
    go true same is = (eqb-true s section same, some_same n p is)
    go false same is = absurd (cc is)

-- ---- where it ends, whatever is owed of a replay
module _ {l : Layout} {u : Store Key8 ℕ} {d : Disk} (section n : ℕ) (small : section < 2 ^ 64) (high : marker_of u.entries section ≤ n) where
  module _ (Rel : Relation) (order : IsOrder Rel) (prefixes : (s k : ℕ) → s ≡ section → n ≤ k
      → Rel s (map (entry_of l.place (content_at (as_read d) l.values s)) (unbroken_prefix (is_sound_in l (as_read d) s) (marker_of u.entries s) 0 (take k (stored_records l (as_read d) s)))) (kept l (as_read d) (marker_of u.entries s) s)) where
    bounds_by : Bounds Rel l u (only_at section n) d
    bounds_by = record {
      order = order;
      from = λ s p is. (let at = is_at section n s p is in (omega (arith, at.0, small), omega (arith, ap (marker_of u.entries) at.0, high, at.1)));
      prefixes = λ s p fits is k le few. (let at = is_at section n s p is in prefixes s k at.0 (omega (arith, at.1, le)));
    }

  -- where the first of what was kept are to be kept
  pub bounds_prefix : Bounds APrefix l u (only_at section n) d
  bounds_prefix = bounds_by APrefix prefix_order (λ s k is le. cut_prefix (entry_of l.place (content_at (as_read d) l.values s)) (is_sound_in l (as_read d) s) (marker_of u.entries s) (stored_records l (as_read d) s) s k)

  -- and at least n of them
  pub bounds_up_to : Bounds (UpTo section n) l u (only_at section n) d
  bounds_up_to = bounds_by (UpTo section n) (up_to_order section n) (λ s k is le. cut_up_to (entry_of l.place (content_at (as_read d) l.values s)) (is_sound_in l (as_read d) s) (marker_of u.entries s) (stored_records l (as_read d) s) section n s k
      (omega (arith, is)) (λ same. omega (arith, le)))

-- ---- of sections that are proven
module _ {F S : Type 0} {gs : _} {g : buffer.Ghosts (PageBlob S gs)} {gives : F → Setting} {takes : WriteFactory → Setting} {told : Type 0} {l : Layout} {j : Lists F (PageBlob S gs)} {m : Sections WriteFactory WriteBlob} {u : Store Key8 ℕ} {o : OpenedList} {d : Disk}
    (rests : Resting g gives takes told l j m u o d) (apart : AreApart l) (section n : ℕ) (small : section < 2 ^ 64) (high : marker_of u.entries section ≤ n)
    (more : told → n < length (records l.record_size (fixed.section_bytes j.sections d section))) where
  abbrev given : ℕ → List (List ℕ)
  given s = cut_to (only_at section n s) (records l.record_size (fixed.section_bytes j.sections d s))

  ends_by : (Rel : Relation) → Bounds Rel l u (only_at section n) d → Ends g gives takes told Rel l j.sections m u (only_at section n) given j o d
  ends_by Rel bounds = record {
    order = bounds.order;
    begins = refl;
    rests = rests;
    apart = apart;
    from = bounds.from;
    within = λ t s p is. (let at = is_at section n s p is in
        omega (arith, at.1, more t, ap (λ (x : ℕ). length (records l.record_size (fixed.section_bytes j.sections d x))) at.0));
    gives_all = λ t s none. ap (λ (x : Option ℕ). cut_to x (records l.record_size (fixed.section_bytes j.sections d s))) none;
    gives_to = λ t s p is. ap (λ (x : Option ℕ). cut_to x (records l.record_size (fixed.section_bytes j.sections d s))) is;
    prefixes = λ t. bounds.prefixes;
  }

  pub ends_prefix : Ends g gives takes told APrefix l j.sections m u (only_at section n) given j o d
  ends_prefix = ends_by APrefix (bounds_prefix section n small high)

  pub ends_up_to : Ends g gives takes told (UpTo section n) l j.sections m u (only_at section n) given j o d
  ends_up_to = ends_by (UpTo section n) (bounds_up_to section n small high)
