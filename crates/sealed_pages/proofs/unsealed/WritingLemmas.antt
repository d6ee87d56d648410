-- A buffer over a blob without seals, after each of its calls of the device.
use Rattle.std.proofs.Common.{◌≡◌, ◌⊎◌, inl, inr, ℕ, ◌+◌, ◌-◌, ◌<◌, ◌≤◌, ◌&&◌, max, leb, Bool, true, List, [], ◌∷◌, ◌++◌, length, Option, Some, None, Result, Ok, refl, sym, ◌∙◌, ap, subst, arith}
use Rattle.std.proofs.lemmas.Bool.{eq-eqb, le-leb}
use Rattle.blob_device.specs.declared.error.DevError.{DevError}
use Rattle.blob_device.specs.Disk.{Key, Blob, Outside, settled_at}
use Rattle.blob_device.specs.Change.{Write, written}
use Rattle.std.specs.Option.{option_map}
use Rattle.blob_device.specs.Opened.{Opened, OpenedList, updated, with_len, one_more_read, reads_of, PartlyGrown}
use Rattle.blob_device.specs.lemmas.Opened.{updated_other}
use Rattle.blob_device.specs.lemmas.Puts.{put_same}
use Rattle.blob_device.specs.Timeline.{Timeline, disk, Passes}
use Rattle.blob_device.specs.lemmas.Bytes.{written_end}
use Rattle.blob_device.specs.lemmas.Moments.{ok_blob}
use Rattle.sealed_pages.specs.Contents.{IsHad}
use Rattle.sealed_pages.specs.Entries.{IsOpenAt, NoReads, ReadsAtMost}
use Rattle.sealed_pages.specs.Sparing.{Lasts, Spares, Sparing}
use Rattle.sealed_pages.specs.lemmas.Had.{had_rest}
use Rattle.sealed_pages.specs.lemmas.Write.{written_nothing}
use Rattle.sealed_pages.specs.lemmas.unsealed.Sparing.{sparing_then, sparing_weaker}
use Rattle.sealed_pages.specs.unsealed.Writing.{WriteBuffer, blob_key, bytes_of, size_of, run_of, is_idle, Joins, StaysBelow, with_bytes_put, Over}
use Rattle.sealed_pages.specs.lemmas.Entries.{open_some, open_updated, no_reads_part, no_reads_updated, no_reads_resize, open_written, open_resized}
use Rattle.sealed_pages.proofs.WriteLemmas.{written_again, written_twice}
use Rattle.blob_device.specs.Lengths.{length-written}
use Rattle.sealed_pages.specs.lemmas.unsealed.Writing.{idle_parts}

pub idle_of : (u : WriteBuffer) → u.pending ≡ [] → u.at ≤ u.end → is_idle u ≡ true
idle_of u none within = ap (λ (b : Bool). b && leb u.at u.end) (eq-eqb (length u.pending) 0 (ap length none)) ∙ le-leb u.at u.end within

pub flushed_bytes : (c now run rest : List ℕ) (at : ℕ) → now ≡ written c at run → rest ≡ [] → written now at rest ≡ written c at run
flushed_bytes c now run rest at is none = ap (written now at) none ∙ written_nothing now at (omega (arith, ap length is, length-written c at run)) ∙ is

pub over_after : (u r : WriteBuffer) (R : ℕ → Type 0) (b c : Blob) → Spares R u.settled b c → r.settled ≡ u.settled → r.dirty ≡ true → IsHad c → Over u b → Over r c
over_after u r R b c spares settled dirty had over = record {
  lasts = subst (λ (n : ℕ). Lasts n c) (sym settled) (spares.lasts u.settled (omega arith) over.lasts);
  clean = λ is. absurd (cc (is, dirty));
  had = had;
}

pub over_settled : (r : WriteBuffer) (b : Blob) → b ≡ settled_at b.content → r.settled ≤ length b.content → Over r b
over_settled r b is within = record {
  lasts = subst (Lasts r.settled) (sym is) (record { there = refl; sure = refl; short = within; long = within });
  clean = λ clean. is;
  had = had_rest b is;
}

-- the same call, its key and its bytes spelled otherwise
pub passes_write : {T : Type 0} {p q x y l m : List ℕ} {at : ℕ} {r : Result T DevError} {t0 t1 : Timeline} → p ≡ x → q ≡ y → l ≡ m → Passes (p, q) (Write at l) r t0 t1 → Passes (x, y) (Write at m) r t0 t1
passes_write {at = at} {r = r} {t0 = t0} {t1 = t1} e f h passes = subst (λ (k : List ℕ × List ℕ × List ℕ). Passes (k.0, k.1) (Write at k.2) r t0 t1) (λ i. (e i, f i, h i)) passes

pub written_content : (k : Key) (at : ℕ) (bytes : List ℕ) (t0 t1 : Timeline) (v : Unit {0}) → Passes {T = Unit {0}} k (Write at bytes) (Ok v) t0 t1 → (disk t1 k).content ≡ written (disk t0 k).content at bytes
written_content k at bytes t0 t1 v passes = ap (λ (b : Blob). b.content) (ok_blob k (Write at bytes) v t0 t1 passes)

module _ {p q x y : List ℕ} (e : p ≡ x) (f : q ≡ y) (old new : OpenedList) (n : ℕ) (was : IsOpenAt old (x, y) n) where
  at_key : (λ (k : Key). k) (p, q) ≡ (x, y)
  at_key = λ i. (e i, f i)

  pub part_at : (end : ℕ) → PartlyGrown (p, q) end old new → NoReads (x, y) old new
  part_at end part = no_reads_part (x, y) end old new (subst (λ (k : Key). PartlyGrown k end old new) at_key part) (open_some old (x, y) n was)

  pub grown_at : (end : ℕ) → new ≡ updated old (p, q) (λ o. with_len (max o.len end) o) → NoReads (x, y) old new
  grown_at end is = no_reads_updated (x, y) old new (λ o. max o.len end) (subst (λ (k : Key). new ≡ updated old k (λ o. with_len (max o.len end) o)) at_key is) (open_some old (x, y) n was)

  pub grown_open : (end m : ℕ) → new ≡ updated old (p, q) (λ o. with_len (max o.len end) o) → m ≡ max n end → IsOpenAt new (x, y) m
  grown_open end m is size = open_written (x, y) old new end n m (subst (λ (k : Key). new ≡ updated old k (λ o. with_len (max o.len end) o)) at_key is) size was

  pub cut_part : (m : ℕ) → (new ≡ old) ⊎ (new ≡ updated old (p, q) (with_len m)) → NoReads (x, y) old new
  cut_part m is = no_reads_resize (x, y) m old new (subst (λ (k : Key). (new ≡ old) ⊎ (new ≡ updated old k (with_len m))) at_key is) (open_some old (x, y) n was)

  pub cut_at : (m : ℕ) → new ≡ updated old (p, q) (with_len m) → NoReads (x, y) old new
  cut_at m is = cut_part m (inr is)

  pub cut_open : (m : ℕ) → new ≡ updated old (p, q) (with_len m) → IsOpenAt new (x, y) m
  cut_open m is = open_resized (x, y) old new m n (subst (λ (k : Key). new ≡ updated old k (with_len m)) at_key is) was

  pub read_once : new ≡ updated old (p, q) one_more_read → ReadsAtMost 1 (x, y) old new
  read_once is =
      let same : new ≡ updated old (x, y) one_more_read = subst (λ (k : Key). new ≡ updated old k one_more_read) at_key is in
      record {
        others = λ k other. updated_other new old (x, y) k one_more_read same other;
        length = λ m is_open. open_updated (x, y) old new one_more_read m m same (λ o e. e) is_open;
        reads = subst (λ (o : Option Opened). reads_of o ≤ reads_of (old (x, y)) + 1) (sym (ap (λ (o : OpenedList). o (x, y)) same ∙ put_same old (x, y) _)) (more (old (x, y)));
      }
    where
      more : (o : Option Opened) → reads_of (option_map one_more_read o) ≤ reads_of o + 1
      more None = omega arith
      more (Some o) = omega arith

-- a flush and a sync
pub flushed_rests : (R : ℕ → Type 0) (u v : WriteBuffer) (n : ℕ) (d : Bool) (t0 t1 t2 : Timeline) → v ≡ record u { end = n; pending = []; dirty = d }
    → Sparing R u.settled (blob_key u) t0 t1 → Sparing (λ i. Unit {0}) v.settled (blob_key v) t1 t2 → Sparing R u.settled (blob_key u) t0 t2
flushed_rests R u v n d t0 t1 t2 same first second = sparing_then R u.settled (blob_key u) t0 t1 t2 first
    (sparing_weaker (λ i. Unit {0}) R u.settled u.settled (blob_key u) t1 t2 (λ i r. tt) (omega arith)
    (subst (λ (x : WriteBuffer). Sparing (λ i. Unit {0}) x.settled (blob_key x) t1 t2) same second))

-- What a run holds after bytes were put into it: m is the buffer before, u the one at the start of the call, p the one after.
module _ (u m p : WriteBuffer) (offset : ℕ) (bytes : List ℕ) (joined : Joins m offset)
    (run : ((m.at ≡ u.at) × (m.pending ≡ u.pending)) ⊎ ((m.at ≡ offset) × (m.pending ≡ [])))
    (put : p ≡ with_bytes_put m offset bytes) where
  put_at : p.at ≡ m.at
  put_at = ap (λ (x : WriteBuffer). x.at) put

  put_long : length p.pending ≡ max (length m.pending) (offset - m.at + length bytes)
  put_long = ap (λ (x : WriteBuffer). length x.pending) put ∙ length-written m.pending (offset - m.at) bytes

  put_outside : (i : ℕ) → Outside ((offset, length bytes) ∷ run_of u ∷ []) i → Outside (run_of p ∷ []) i
  put_outside i out = (side run out.0 out.1.0, tt)
    where
      side : ((m.at ≡ u.at) × (m.pending ≡ u.pending)) ⊎ ((m.at ≡ offset) × (m.pending ≡ [])) → (i < offset) ⊎ (offset + length bytes ≤ i) → (i < u.at) ⊎ (u.at + length u.pending ≤ i)
          → (i < p.at) ⊎ (p.at + length p.pending ≤ i)
      side (inl same) a (inl before) = inl (omega (arith, before, same.0, put_at))
      side (inl same) (inl low) (inr past) = absurd (omega (arith, low, past, joined.high, same.0, ap length same.1))
      side (inl same) (inr high) (inr past) = inr (omega (arith, high, past, joined.low, same.0, ap length same.1, put_at, put_long))
      side (inr new) (inl low) b = inl (omega (arith, low, new.0, put_at))
      side (inr new) (inr high) b = inr (omega (arith, high, new.0, ap length new.1, put_at, put_long))

  pub put_bytes : (c all : List ℕ) → bytes_of m c ≡ written all offset [] → bytes_of p c ≡ written all offset bytes
  put_bytes c all is = ap (λ (x : WriteBuffer). bytes_of x c) put ∙ written_again c m.at m.pending offset bytes joined.low joined.high ∙ ap (λ (l : List ℕ). written l offset bytes) is ∙ written_twice all offset bytes

  pub put_below : (n : ℕ) → n ≡ length p.pending → p.capacity ≡ u.capacity → (Joins u offset → m ≡ u) → StaysBelow u offset (length bytes) → p.capacity ≤ n → ⊥
  put_below n len capacity kept (inl (joins, less)) full =
      let same = kept joins in
      omega (arith, less, full, len, capacity, put_long, ap (λ (x : WriteBuffer). x.at) same, ap (λ (x : WriteBuffer). length x.pending) same)
  put_below n len capacity kept (inr (idle, less)) full = go run
    where
      go : ((m.at ≡ u.at) × (m.pending ≡ u.pending)) ⊎ ((m.at ≡ offset) × (m.pending ≡ [])) → ⊥
      go (inl same) = omega (arith, less, full, len, capacity, put_long, same.0, ap length same.1, ap length (idle_parts u idle).0, joined.low, joined.high)
      go (inr new) = omega (arith, less, full, len, capacity, put_long, new.0, ap length new.1)

  -- fewer bytes than the capacity fill the run only where they join it
  pub put_joins : (n : ℕ) → n ≡ length p.pending → p.capacity ≡ u.capacity → length bytes < u.capacity → p.capacity ≤ n → Joins u offset
  put_joins n len capacity less full = go run
    where
      go : ((m.at ≡ u.at) × (m.pending ≡ u.pending)) ⊎ ((m.at ≡ offset) × (m.pending ≡ [])) → Joins u offset
      go (inl same) = record { low = omega (arith, joined.low, same.0); high = omega (arith, joined.high, same.0, ap length same.1) }
      go (inr new) = absurd (omega (arith, less, full, len, capacity, put_long, new.0, ap length new.1))

  pub put_spares : (t0 t1 t2 : Timeline) → p.settled ≡ u.settled → blob_key p ≡ blob_key u → Sparing (Outside (run_of u ∷ [])) u.settled (blob_key u) t0 t1
      → Sparing (Outside (run_of p ∷ [])) p.settled (blob_key p) t1 t2 → Sparing (Outside ((offset, length bytes) ∷ run_of u ∷ [])) u.settled (blob_key u) t0 t2
  put_spares t0 t1 t2 settled key first second =
      let all : ℕ → Type 0 = Outside ((offset, length bytes) ∷ run_of u ∷ []) in
      sparing_then (Outside ((offset, length bytes) ∷ run_of u ∷ [])) u.settled (blob_key u) t0 t1 t2
      (sparing_weaker (Outside (run_of u ∷ [])) (Outside ((offset, length bytes) ∷ run_of u ∷ [])) u.settled u.settled (blob_key u) t0 t1 (λ i out. out.1) (omega arith) first)
      (sparing_weaker (Outside (run_of p ∷ [])) (Outside ((offset, length bytes) ∷ run_of u ∷ [])) p.settled u.settled (blob_key u) t1 t2 put_outside (omega (arith, settled))
      (subst (λ (k : Key). Sparing (Outside (run_of p ∷ [])) p.settled k t1 t2) key second))

-- a write at the end
pub written_last : (u : WriteBuffer) (c bytes : List ℕ) (at : ℕ) → length c ≡ u.end → at ≡ size_of u → written (bytes_of u c) at bytes ≡ bytes_of u c ++ bytes
written_last u c bytes at long is =
    let e : at ≡ length (bytes_of u c) = omega (arith, is, long, length-written c u.at u.pending) in
    ap (λ (n : ℕ). written (bytes_of u c) n bytes) e ∙ written_end (bytes_of u c) bytes
