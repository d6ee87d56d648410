-- The bytes of a buffer without seals that settled and were not written since.
use Rattle.std.proofs.Common.{◌≡◌, ◌⊎◌, inl, inr, ℕ, zero, suc, ◌+◌, ◌-◌, ◌<◌, ◌≤◌, false, List, [], ◌∷◌, length, get_or, take, sym, ◌∙◌, ap, subst, arith, length-take}
use Rattle.std.proofs.lemmas.List.{get_or-take}
use Rattle.blob_device.specs.Change.{written}
use Rattle.blob_device.specs.Disk.{Key, Blob, Outside, shortest, settled_at}
use Rattle.blob_device.specs.Keeps.{Keeps}
use Rattle.blob_device.specs.Timeline.{Timeline, disk, OnlyAt}
use Rattle.blob_device.specs.lemmas.Bytes.{written_end}
use Rattle.blob_device.specs.lemmas.Guards.{guards_settled}
use Rattle.blob_device.specs.lemmas.Moments.{always_weaker, always_now}
use Rattle.sealed_pages.specs.Sparing.{Lasts, Spares, Sparing, Keeping}
use Rattle.sealed_pages.specs.unsealed.Writing.{WriteBuffer, bytes_of, run_of, Joins, HoldsOnly, with_bytes_put, Over, KeepsSettled}
use Rattle.blob_device.specs.Lengths.{length-written}
use Rattle.blob_device.specs.Places.{written_out}
use Rattle.sealed_pages.specs.lemmas.unsealed.Lasting.{nowhere, outside_none}

-- each place below a bound is below another, so the bound is
below_all : (n m : ℕ) → ((i : ℕ) → i < n → i < m) → n ≤ m
below_all zero m each = omega arith
below_all (suc n) m each = omega (arith, each n (omega arith))

module _ (u : WriteBuffer) (b : Blob) (kept : KeepsSettled u b) (m : ℕ) (few : m ≤ u.settled) where
  prefix : List ℕ
  prefix = take m (bytes_of u b.content)

  all_long : u.settled ≤ length (bytes_of u b.content)
  all_long = omega (arith, kept.long, length-written b.content u.at u.pending)

  prefix_long : length (take m (bytes_of u b.content)) ≡ m
  prefix_long = omega (arith, length-take m (bytes_of u b.content), all_long, few)

  within : (i : ℕ) → i < m → i < length (take u.settled (bytes_of u b.content))
  within i lt = omega (arith, lt, few, all_long, length-take u.settled (bytes_of u b.content))

  prefix_byte : (i : ℕ) → i < m → get_or b.content i 0 ≡ get_or (take m (bytes_of u b.content)) i 0
  prefix_byte i lt = kept.keeps.same i (within i lt) ∙ get_or-take u.settled (bytes_of u b.content) i 0 (omega (arith, lt, few)) ∙ sym (get_or-take m (bytes_of u b.content) i 0 lt)

  prefix_lasts : Lasts m b
  prefix_lasts = record {
    there = kept.keeps.there;
    sure = kept.keeps.sure;
    short = below_all m (shortest b) (λ i lt. kept.keeps.short i (within i lt));
    long = below_all m (length b.content) (λ i lt. kept.keeps.long i (within i lt));
  }

  -- as long as these places are spared
  spared : (R : ℕ → Type 0) (n : ℕ) (c : Blob) → m ≤ n → ((i : ℕ) → i < m → R i) → Spares R n b c → Keeps (take m (bytes_of u b.content)) c
  spared R n c le each spares = let last = spares.lasts m le prefix_lasts in record {
    there = last.there;
    sure = last.sure;
    short = λ i lt. omega (arith, lt, last.short, prefix_long);
    long = λ i lt. omega (arith, lt, last.long, prefix_long);
    outside = λ i lt. let inside : i < m = omega (arith, lt, prefix_long) in spares.loose i (each i inside) (kept.keeps.outside i (within i inside));
    same = λ i lt. let inside : i < m = omega (arith, lt, prefix_long) in spares.same i (each i inside) ∙ prefix_byte i inside;
  }

pub keeping_of : (u : WriteBuffer) (R : ℕ → Type 0) (n m : ℕ) (k : Key) (t0 t1 : Timeline) → KeepsSettled u (disk t0 k) → m ≤ u.settled → m ≤ n → ((i : ℕ) → i < m → R i) → Sparing R n k t0 t1 → Keeping (take m (bytes_of u (disk t0 k).content)) k t0 t1
keeping_of u R n m k t0 t1 kept few le each always = always_weaker t0 t1 (OnlyAt k (disk t0) (Spares R n (disk t0 k))) (OnlyAt k (disk t0) (Keeps (take m (bytes_of u (disk t0 k).content))))
    (λ d only. record { here = spared u (disk t0 k) kept m few R n (d k) le each only.here; others = only.others }) always

pub keeping_now : (kept : List ℕ) (k : Key) (t0 t1 : Timeline) → Keeping kept k t0 t1 → Keeps kept (disk t1 k)
keeping_now kept k t0 t1 always = (always_now t0 t1 (OnlyAt k (disk t0) (Keeps kept)) always).here

-- after a call that changed none of these bytes
pub kept_after : (u r : WriteBuffer) (b c : Blob) → KeepsSettled u b → Keeps (take u.settled (bytes_of u b.content)) c → r.settled ≡ u.settled → ((i : ℕ) → i < u.settled → get_or (bytes_of r c.content) i 0 ≡ get_or (bytes_of u b.content) i 0)
    → ((i : ℕ) → i < u.settled → Outside (run_of r ∷ []) i) → KeepsSettled r c
kept_after u r b c kept keeps settled same apart = record {
  long = long;
  keeps = record {
    there = keeps.there;
    sure = keeps.sure;
    short = λ i lt. keeps.short i (inside i lt);
    long = λ i lt. keeps.long i (inside i lt);
    outside = λ i lt. keeps.outside i (inside i lt);
    same = λ i lt. let low : i < u.settled = omega (arith, lt, new_long, settled) in
        keeps.same i (inside i lt) ∙ get_or-take u.settled (bytes_of u b.content) i 0 low ∙ sym (same i low) ∙ sym (get_or-take r.settled (bytes_of r c.content) i 0 (omega (arith, low, settled)));
  };
  apart = λ i lt. apart i (omega (arith, lt, settled));
}
  where
    old_long : length (take u.settled (bytes_of u b.content)) ≡ u.settled
    old_long = omega (arith, length-take u.settled (bytes_of u b.content), kept.long, length-written b.content u.at u.pending)

    long : r.settled ≤ length c.content
    long = below_all r.settled (length c.content) (λ i lt. keeps.long i (omega (arith, lt, settled, old_long)))

    new_long : length (take r.settled (bytes_of r c.content)) ≡ r.settled
    new_long = omega (arith, length-take r.settled (bytes_of r c.content), long, length-written c.content r.at r.pending)

    inside : (i : ℕ) → i < length (take r.settled (bytes_of r c.content)) → i < length (take u.settled (bytes_of u b.content))
    inside i lt = omega (arith, lt, new_long, old_long, settled)

-- once all has settled
kept_settled : (r : WriteBuffer) (b : Blob) → b ≡ settled_at b.content → r.settled ≤ length b.content → r.pending ≡ [] → KeepsSettled r b
kept_settled r b is long none = record {
  long = long;
  keeps = subst (Keeps (take r.settled (bytes_of r b.content))) (sym is) (guards_settled (λ i. i < length (take r.settled (bytes_of r b.content))) (λ i. get_or (take r.settled (bytes_of r b.content)) i 0) b.content
      (λ i lt. omega (arith, lt, length-take r.settled (bytes_of r b.content), long))
      (λ i lt. sym (get_or-take r.settled (bytes_of r b.content) i 0 (omega (arith, lt, length-take r.settled (bytes_of r b.content)))
      ∙ ap (λ (l : List ℕ). get_or (written b.content r.at l) i 0) none ∙ written_out b.content r.at [] i (nowhere r.at i))));
  apart = λ i lt. outside_none r none i;
}

pub kept_clean : (r : WriteBuffer) (b : Blob) → Over r b → r.dirty ≡ false → r.pending ≡ [] → KeepsSettled r b
kept_clean r b over clean none = kept_settled r b (over.clean clean) over.lasts.long none

-- after bytes went to places behind them
pub apart_after : (u r : WriteBuffer) (offset : ℕ) (bytes : List ℕ) → u.settled ≤ offset → ((i : ℕ) → i < u.settled → Outside (run_of u ∷ []) i) → HoldsOnly u offset bytes r → (i : ℕ) → i < u.settled → Outside (run_of r ∷ []) i
apart_after u r offset bytes far apart (inl (joins, at, run)) i lt = (side (apart i lt).0, tt)
  where
    side : (i < u.at) ⊎ (u.at + length u.pending ≤ i) → (i < r.at) ⊎ (r.at + length r.pending ≤ i)
    side (inl before) = inl (omega (arith, before, at))
    side (inr past) = absurd (omega (arith, past, lt, far, joins.high))
apart_after u r offset bytes far apart (inr (inl (at, run))) i lt = (inl (omega (arith, at, lt, far)), tt)
apart_after u r offset bytes far apart (inr (inr none)) i lt = outside_none r none i

-- what a run holds once bytes were put into it: m is the buffer before, u the one at the start of the call, p the one after
pub put_holds : (u m p : WriteBuffer) (offset : ℕ) (bytes : List ℕ) → Joins m offset → ((m.at ≡ u.at) × (m.pending ≡ u.pending)) ⊎ ((m.at ≡ offset) × (m.pending ≡ [])) → p ≡ with_bytes_put m offset bytes → HoldsOnly u offset bytes p
put_holds u m p offset bytes joined (inl (at, run)) put =
    inl (record { low = omega (arith, joined.low, at); high = omega (arith, joined.high, at, ap length run) }, ap (λ (x : WriteBuffer). x.at) put ∙ at, ap (λ (x : WriteBuffer). x.pending) put ∙ (λ i. written (run i) (offset - at i) bytes))
put_holds u m p offset bytes joined (inr (at, none)) put =
    let e : offset - m.at ≡ 0 = omega (arith, at) in
    inr (inl (ap (λ (x : WriteBuffer). x.at) put ∙ at, ap (λ (x : WriteBuffer). x.pending) put ∙ (λ i. written (none i) (e i) bytes) ∙ written_end [] bytes))
