-- Single calls on one blob, and the places that they spare.
use Rattle.std.proofs.Common.{◌≡◌, ◌⊎◌, inl, inr, ℕ, ◌+◌, ◌<◌, ◌≤◌, List, length, get_or, Result, refl, sym, ◌∙◌, ap, subst, arith}
use Rattle.std.proofs.lemmas.Bool.{cases_lt}
use Rattle.std.proofs.lemmas.List.{get_or_past}
use Rattle.blob_device.specs.declared.error.DevError.{DevError}
use Rattle.blob_device.specs.Disk.{Key, Blob, Outside, settled_at}
use Rattle.blob_device.specs.Change.{Change, Write, Resize, Settle, during, done, FailedTo, written, resized}
use Rattle.blob_device.specs.Timeline.{Timeline, disk, Passes, OnlyAt}
use Rattle.blob_device.specs.lemmas.Bytes.{outside_push}
use Rattle.blob_device.specs.lemmas.Moments.{always_start, always_now, always_then, always_weaker}
use Rattle.sealed_pages.specs.Sparing.{Spares, Sparing, LooseOnly}
use Rattle.blob_device.specs.Lengths.{least_push, length-resized, length-written}
use Rattle.blob_device.specs.Places.{resized_below, written_out}
use Rattle.sealed_pages.specs.lemmas.unsealed.Sparing.{any_call, spares_of, spares_self}

pub sparing_now : (R : ℕ → Type 0) (n : ℕ) (k : Key) (a b : Timeline) → Sparing R n k a b → Spares R n (disk a k) (disk b k)
sparing_now R n k a b always = (always_now a b (OnlyAt k (disk a) (Spares R n (disk a k))) always).here

module _ (R : ℕ → Type 0) (n : ℕ) (k : Key) (t0 t1 : Timeline) where
  one_call : {T : Type 0} (change : Change) (r : Result T DevError) → Passes k change r t0 t1 → Spares R n (disk t0 k) (during change (disk t0 k)) → Spares R n (disk t0 k) (done change (disk t0 k))
      → ((new : Blob) → FailedTo change (disk t0 k) new → Spares R n (disk t0 k) new) → Sparing R n k t0 t1
  one_call change r passes inside after failed = any_call (Spares R n (disk t0 k)) k t0 t1 change r (spares_self R n (disk t0 k)) passes inside after failed

  spares_written : (at : ℕ) (bytes c : List ℕ) → ((i : ℕ) → R i → (i < at) ⊎ (at + length bytes ≤ i)) → length (disk t0 k).content ≤ length c
      → ((i : ℕ) → R i → get_or c i 0 ≡ get_or (disk t0 k).content i 0) → Spares R n (disk t0 k) (record (during (Write at bytes) (disk t0 k)) { content = c })
  spares_written at bytes c avoids long same = spares_of R n (disk t0 k) (record (during (Write at bytes) (disk t0 k)) { content = c })
      (λ i r out. outside_push (disk t0 k).loose at (length bytes) i out (avoids i r)) same
      (λ m le was. record {
        there = was.there;
        sure = was.sure;
        short = omega (arith, was.short, was.long, least_push (length (disk t0 k).settled) (disk t0 k).since (written (disk t0 k).content at bytes), length-written (disk t0 k).content at bytes);
        long = omega (arith, was.long, long);
      })

  pub sparing_write : {T : Type 0} (at : ℕ) (bytes : List ℕ) (r : Result T DevError) → Passes k (Write at bytes) r t0 t1 → ((i : ℕ) → R i → (i < at) ⊎ (at + length bytes ≤ i)) → Sparing R n k t0 t1
  sparing_write at bytes r passes avoids = one_call (Write at bytes) r passes
      (spares_written at bytes (disk t0 k).content avoids (omega arith) (λ i named. refl))
      (spares_written at bytes (written (disk t0 k).content at bytes) avoids (omega (arith, length-written (disk t0 k).content at bytes)) (λ i named. written_out (disk t0 k).content at bytes i (avoids i named)))
      (λ new failed. subst (Spares R n (disk t0 k)) (sym failed.2) (spares_written at bytes failed.0 avoids failed.1.no_shorter
      (λ i named. elim (cases_lt i (length failed.0)) [
        | inl inside ↦ failed.1.outside i inside (avoids i named) ∙ written_out (disk t0 k).content at bytes i (avoids i named)
        | inr past ↦ get_or_past failed.0 i 0 past ∙ sym (get_or_past (disk t0 k).content i 0 (omega (arith, past, failed.1.no_shorter)))
      ])))

  spares_resized : (m : ℕ) (c : List ℕ) → ((i : ℕ) → R i → i < m) → n ≤ m → ((j : ℕ) → j ≤ m → j ≤ length (disk t0 k).content → j ≤ length c)
      → ((i : ℕ) → R i → get_or c i 0 ≡ get_or (disk t0 k).content i 0) → Spares R n (disk t0 k) (record (during (Resize m) (disk t0 k)) { content = c })
  spares_resized m c avoids fits long same = spares_of R n (disk t0 k) (record (during (Resize m) (disk t0 k)) { content = c })
      (λ i r out. out) same
      (λ j le was. record {
        there = was.there;
        sure = was.sure;
        short = omega (arith, was.short, le, fits, least_push (length (disk t0 k).settled) (disk t0 k).since (resized (disk t0 k).content m), length-resized (disk t0 k).content m);
        long = long j (omega (arith, le, fits)) was.long;
      })

  pub sparing_resize : {T : Type 0} (m : ℕ) (r : Result T DevError) → Passes k (Resize m) r t0 t1 → ((i : ℕ) → R i → i < m) → n ≤ m → Sparing R n k t0 t1
  sparing_resize m r passes avoids fits =
      let during_is = spares_resized m (disk t0 k).content avoids fits (λ j le long. long) (λ i named. refl) in
      let done_is = spares_resized m (resized (disk t0 k).content m) avoids fits (λ j le long. omega (arith, le, length-resized (disk t0 k).content m)) (λ i named. resized_below (disk t0 k).content m i (avoids i named)) in
      one_call (Resize m) r passes during_is done_is (λ new failed. after new failed during_is done_is)
    where
      after : (new : Blob) → FailedTo (Resize m) (disk t0 k) new → Spares R n (disk t0 k) (during (Resize m) (disk t0 k)) → Spares R n (disk t0 k) (done (Resize m) (disk t0 k)) → Spares R n (disk t0 k) new
      after new (inl is) before whole = subst (Spares R n (disk t0 k)) (sym is) before
      after new (inr is) before whole = subst (Spares R n (disk t0 k)) (sym is) whole

  pub sparing_settle : {T : Type 0} (r : Result T DevError) → Passes k Settle r t0 t1 → Sparing R n k t0 t1
  sparing_settle r passes = one_call Settle r passes (spares_self R n (disk t0 k))
      (spares_of R n (disk t0 k) (settled_at (disk t0 k).content) (λ i named out. tt) (λ i named. refl) (λ m le was. record { there = refl; sure = refl; short = was.long; long = was.long }))
      (λ new failed. subst (Spares R n (disk t0 k)) (sym failed) (spares_self R n (disk t0 k)))

-- places that were not made loose
pub loose_start : (R : ℕ → Type 0) (k : Key) (t : Timeline) → LooseOnly R k t t
loose_start R k t = always_start t (λ d. (i : ℕ) → R i → Outside (disk t k).loose i → Outside (d k).loose i) (λ i r out. out)

pub loose_spared : (R S : ℕ → Type 0) (n : ℕ) (k : Key) (a b : Timeline) → ((i : ℕ) → S i → R i) → Sparing R n k a b → LooseOnly S k a b
loose_spared R S n k a b less always = always_weaker a b (OnlyAt k (disk a) (Spares R n (disk a k))) (λ d. (i : ℕ) → S i → Outside (disk a k).loose i → Outside (d k).loose i) (λ d only i r out. only.here.loose i (less i r) out) always

pub loose_then : (R S : ℕ → Type 0) (k : Key) (a b c : Timeline) → ((i : ℕ) → S i → R i) → LooseOnly S k a b → LooseOnly R k b c → LooseOnly S k a c
loose_then R S k a b c less first second =
    let now = always_now a b (λ d. (i : ℕ) → S i → Outside (disk a k).loose i → Outside (d k).loose i) first in
    always_then a b c (λ d. (i : ℕ) → S i → Outside (disk a k).loose i → Outside (d k).loose i) first
    (always_weaker b c (λ d. (i : ℕ) → R i → Outside (disk b k).loose i → Outside (d k).loose i) (λ d. (i : ℕ) → S i → Outside (disk a k).loose i → Outside (d k).loose i) (λ d is i r out. is i (less i r) (now i r out)) second)

pub loose_resize : {T : Type 0} (k : Key) (t0 t1 : Timeline) (m : ℕ) (r : Result T DevError) → Passes k (Resize m) r t0 t1 → LooseOnly (λ i. Unit {0}) k t0 t1
loose_resize k t0 t1 m r passes = always_weaker t0 t1 (OnlyAt k (disk t0) Same) (λ d. (i : ℕ) → Unit {0} → Outside (disk t0 k).loose i → Outside (d k).loose i) (λ d only i r out. subst (λ (l : List (ℕ × ℕ)). Outside l i) (sym only.here) out)
    (any_call Same k t0 t1 (Resize m) r refl passes refl refl after)
  where
    Same : Blob → Type 0
    Same b = b.loose ≡ (disk t0 k).loose

    after : (new : Blob) → FailedTo (Resize m) (disk t0 k) new → Same new
    after new (inl is) = ap (λ (b : Blob). b.loose) is
    after new (inr is) = ap (λ (b : Blob). b.loose) is

-- the same call, its key spelled otherwise
pub passes_at : {T : Type 0} {p q x y : List ℕ} {change : Change} {r : Result T DevError} {t0 t1 : Timeline} → p ≡ x → q ≡ y → Passes (p, q) change r t0 t1 → Passes (x, y) change r t0 t1
passes_at {change = change} {r = r} {t0 = t0} {t1 = t1} e f passes = subst (λ (k : Key). Passes k change r t0 t1) (λ i. (e i, f i)) passes
