-- A buffer to which bytes are added: what the call owes, from what the flush says.
use Rattle.std.proofs.Common.{◌≡◌, ◌⊎◌, ◌↔◌, ◌+◌, ◌^◌, ◌≤◌, ◌<◌, ◌++◌, ◌∙◌, inl, inr, ap, sym, subst, refl, ℕ, Bool, true, false, List, length, Result, Ok, Err, arith, length-append}
use Rattle.std.specs.Prelude.{IsTrue}
use Rattle.std.specs.Result.{IsErrAnd}
use Rattle.std.proofs.lemmas.Bool.{cases_lt}
use Rattle.blob_device.specs.Disk.{Key}
use Rattle.blob_device.specs.Errors.{raised}
use Rattle.blob_device.specs.Timeline.{disk}
use Rattle.blob_device.specs.declared.device.Device as device
use Rattle.blob_device.specs.declared.error.DevError.{DevError}
use Rattle.blob_device.specs.declared.error.DevError.TheVariants as error
use Rattle.blob_device.specs.declared.runtime.RError.{RError}
use Rattle.blob_device.specs.declared.runtime.RError.TheVariants.{Mem, OffsetOverflow}
use Rattle.sealed_pages.specs.Buffer.{Buffer, key_of, size_of, flushed_of, bytes_of, extent, Holds, IsBacked, IsSealed, FlushesNothing, AddsPages}
use Rattle.sealed_pages.specs.ChanceSeal.{Sealing}
use Rattle.sealed_pages.specs.Entries.{IsOpenAt}
use Rattle.sealed_pages.specs.Flushes.{Flushes}
use Rattle.sealed_pages.specs.Leftover.{IsKnown}
use Rattle.sealed_pages.specs.Tails.{LeavesTail}
use Rattle.sealed_pages.specs.Unrecovered.{blob_of, IsUnrecovered}
use Rattle.sealed_pages.specs.Writes.{Appends}
use Rattle.sealed_pages.proofs.memory.CacheLemmas.{cached_none}
use Rattle.sealed_pages.proofs.adopted.Clearing.{clears_start}
use Rattle.sealed_pages.specs.lemmas.Entries.{no_reads_start, open_some}
use Rattle.sealed_pages.proofs.memory.Holding.{holds_more, holds_own, tip_stands}
use Rattle.sealed_pages.proofs.adopted.KnownLemmas.{known_flushed}
use Rattle.sealed_pages.proofs.slots.PageCalls.{alone_start}
use Rattle.sealed_pages.proofs.Syncing.{flushed_bytes}
use Rattle.sealed_pages.proofs.unsealed.Tails.{tail_kept, tail_flushed}
use Rattle.sealed_pages.proofs.cutting.Truncating.{raised_cause}
use Rattle.sealed_pages.specs.lemmas.Syncing.{backed_more, bytes_longer}
use Rattle.sealed_pages.specs.lemmas.Unrecovered.{more_stays, stood_keeps}
use Rattle.sealed_pages.specs.lemmas.memory.Holding.{bytes_length, holds_start}

-- what the test of the room says, by the lengths
pub over_of : (P at n size m : ℕ) (r : Bool) → at ≡ size → n ≡ m → IsTrue r ↔ extent P (at + n) < 2 ^ 64 → r ≡ false → 2 ^ 64 ≤ extent P (size + m)
over_of P at n size m true e f holds is = absurd (cc is)
over_of P at n size m false e f holds is = elim (cases_lt (extent P (size + m)) (2 ^ 64)) [
  | inl lt ↦ absurd (cc (holds.1 (subst (λ (x : ℕ × ℕ). extent P (x.0 + x.1) < 2 ^ 64) (λ i. (sym e i, sym f i)) lt)))
  | inr far ↦ far
]

pub fits_of : (P at n size m : ℕ) (r : Bool) → at ≡ size → n ≡ m → IsTrue r ↔ extent P (at + n) < 2 ^ 64 → r ≡ true → extent P (size + m) < 2 ^ 64
fits_of P at n size m false e f holds is = absurd (cc is)
fits_of P at n size m true e f holds is = subst (λ (x : ℕ × ℕ). extent P (x.0 + x.1) < 2 ^ 64) (λ i. (e i, f i)) (holds.0 refl)

module _ {D : Type 0} (dev : device.Ghosts D) (seal : List ℕ → ℕ) (u : Buffer) (begun : u.from < u.page_size) (within : u.from ≤ length u.tip) (order : u.settled ≤ flushed_of u)
    (more : List ℕ) {B : Type 0} (see : B → Buffer) (old : D) where
  -- the buffer with these bytes
  abbrev pub longer : Buffer
  longer = record u { tip = u.tip ++ more }

  -- the bytes that the buffer means before
  abbrev meant : List ℕ
  meant = bytes_of u (blob_of u (dev.time old)).content

  long : length (u.tip ++ more) ≡ length u.tip + length more
  long = length-append u.tip more

  holds : IsSealed seal u (blob_of u (dev.time old)) → Holds seal longer (meant ++ more) (blob_of u (dev.time old))
  holds sealed = holds_more seal u longer meant more (blob_of u (dev.time old)) refl sealed.holds

  backed_longer : IsBacked seal u (blob_of u (dev.time old)).content → IsBacked seal longer (blob_of u (dev.time old)).content
  backed_longer backed = record { flushed = backed_more u longer more (blob_of u (dev.time old)).content refl within backed.flushed; tip = backed.tip; cache = backed.cache }

  unrecovered_longer : IsUnrecovered seal u (blob_of u (dev.time old)) → IsUnrecovered seal longer (blob_of u (dev.time old))
  unrecovered_longer un = more_stays seal u longer more (blob_of u (dev.time old)) refl within (omega (arith, order, within)) un

  -- no crash costs a byte where no call is made
  stood : IsSealed seal u (blob_of u (dev.time old)) → Sealing seal u.page_size (meant ++ more) u.settled (key_of u) (dev.time old) (dev.time old)
  stood sealed = holds_start seal longer (meant ++ more) (key_of u) (dev.time old) begun (holds sealed)

  -- the call's result where it fails
  abbrev gave_up : RError → Result (B × ℕ) RError
  gave_up e = Err e

  -- whether the bytes fit
  abbrev Fits : Type 0
  Fits = extent u.page_size (size_of u + length more) < 2 ^ 64

  -- they do not, or memory is short
  pub append_refused : (open_ : IsOpenAt (dev.opened old) (key_of u) u.end) (e : RError) (r : Result (B × ℕ) RError) → r ≡ Err e → ((e ≡ OffsetOverflow) × (2 ^ 64 ≤ extent u.page_size (size_of u + length more))) ⊎ ((e ≡ Mem) × Fits)
      → Appends dev seal u old old see more r
  append_refused open_ e r is why = subst (λ (x : Result (B × ℕ) RError). Appends dev seal u old old see more x) (sym is) (record {
    crashes = λ t sealed. stood sealed;
    sealed = λ t sealed. tt;
    clears = λ t rest left. clears_start seal u.page_size u.first u.from u.newest (key_of u) (dev.time old) rest;
    known = λ t known. tt;
    steady = λ t un. stood_keeps seal u (key_of u) (dev.time old) un;
    unrecovered = λ t un. tt;
    alone = λ t backed. alone_start (dev.time old) (key_of u);
    bytes = λ t backed. tt;
    backed = λ t backed. tt;
    cached = tt;
    below = λ le. refl;
    faultless = λ le. elim why [ inl over ↦ inl (ap Err over.0) | inr short ↦ inr (ap Err short.0) ];
    flushed = λ full. tt;
    tail = tt;
    at = tt;
    size = tt;
    key = tt;
    page_size = tt;
    capacity = tt;
    cache_pages = tt;
    settled = tt;
    «open» = tt;
    entries = no_reads_start (dev.opened old) (key_of u) (open_some (dev.opened old) (key_of u) u.end open_);
    overflow = elim why [
      | inl over ↦ (λ named. over.1, λ far. ap Err over.0)
      | inr short ↦ (λ named. absurd (let at = short.0 in cc (at, named)), λ far. absurd (omega (arith, far, short.1)))
    ];
    refused = λ named. refl;
    faults = omega arith;
    cause = elim why [ inl over ↦ inl (ap Err over.0) | inr short ↦ inr (inl (ap Err short.0)) ];
  })

  module _ (fits : Fits) (tip : List ℕ) (tip_is : tip ≡ u.tip ++ more) (at : ℕ) (at_is : at ≡ size_of u) where
    -- below the capacity they stay in memory
    pub append_kept : (v : B) → see v ≡ record u { tip = tip } → IsOpenAt (dev.opened old) (key_of u) u.end → length u.cache ≤ u.cache_pages → length u.tip + length more < u.from + u.capacity → Appends dev seal u old old see more (Ok (v, at))
    append_kept v is open_ few under = record {
      crashes = λ t sealed. stood sealed;
      sealed = λ t sealed. at_v (λ (b : Buffer). IsSealed seal b (blob_of u (dev.time old))) (record {
        holds = holds_own seal longer (meant ++ more) (blob_of u (dev.time old)) (omega (arith, begun)) (holds sealed);
        backed = backed_longer sealed.backed;
      });
      clears = λ t rest left. clears_start seal u.page_size u.first u.from u.newest (key_of u) (dev.time old) rest;
      known = λ t known. at_v (λ (b : Buffer). IsKnown seal b (blob_of u (dev.time old))) known;
      steady = λ t un. stood_keeps seal u (key_of u) (dev.time old) un;
      unrecovered = λ t un. at_v (λ (b : Buffer). IsUnrecovered seal b (blob_of u (dev.time old))) (unrecovered_longer un);
      alone = λ t backed. alone_start (dev.time old) (key_of u);
      bytes = λ t backed. at_v (λ (b : Buffer). bytes_of b (blob_of u (dev.time old)).content ≡ meant ++ more) (bytes_longer u more (blob_of u (dev.time old)).content);
      backed = λ t backed. at_v (λ (b : Buffer). IsBacked seal b (blob_of u (dev.time old)).content) (backed_longer backed);
      cached = at_v (λ (b : Buffer). AddsPages u b) (cached_none u few);
      below = λ le. refl;
      faultless = λ le. tt;
      flushed = λ full. absurd (omega (arith, full, under));
      tail = at_v (λ (b : Buffer). LeavesTail u (length more) b) (tail_kept u.capacity _ (length more) _ (omega (arith, within, long)) (omega (arith, under, long)));
      at = at_is;
      size = at_v (λ (b : Buffer). size_of b ≡ size_of u + length more) (omega (arith, long));
      key = at_v (λ (b : Buffer). key_of b ≡ key_of u) refl;
      page_size = at_v (λ (b : Buffer). b.page_size ≡ u.page_size) refl;
      capacity = at_v (λ (b : Buffer). b.capacity ≡ u.capacity) refl;
      cache_pages = at_v (λ (b : Buffer). b.cache_pages ≡ u.cache_pages) refl;
      settled = at_v (λ (b : Buffer). b.settled ≡ u.settled) refl;
      «open» = at_v (λ (b : Buffer). IsOpenAt (dev.opened old) (key_of b) b.end) open_;
      entries = no_reads_start (dev.opened old) (key_of u) (open_some (dev.opened old) (key_of u) u.end open_);
      overflow = (λ named. absurd (cc named), λ far. absurd (omega (arith, far, fits)));
      refused = λ named. refl;
      faults = omega arith;
      cause = tt;
    }
      where
        at_v : (Q : Buffer → Type 0) → Q longer → Q (see v)
        at_v Q has = subst Q (sym (is ∙ ap (λ (l : List ℕ). record u { tip = l }) tip_is)) has

    module _ (full : u.from + u.capacity ≤ length u.tip + length more) (new : D) where
      flush_as : (r : Result B DevError) → Flushes dev seal (record u { tip = tip }) old new see r → Flushes dev seal longer old new see r
      flush_as r says = subst (λ (l : List ℕ). Flushes dev seal (record u { tip = l }) old new see r) tip_is says

      -- where all was flushed before, no call was made
      idle : (r : Result B DevError) → Flushes dev seal longer old new see r → FlushesNothing u (length more) → new ≡ old
      idle r flush nothing = elim nothing [ inl less ↦ absurd (omega (arith, less, full)) | inr none ↦ flush.idle (omega (arith, none, long)) ]

      -- at the capacity all is to be flushed, and that failed
      pub append_unflushed : (e : DevError) (r : Result (B × ℕ) RError) → IsErrAnd r (λ x. x ≡ raised e) → Flushes dev seal (record u { tip = tip }) old new see (Err e) → Appends dev seal u old new see more r
      append_unflushed e (Ok v) is says = absurd is
      append_unflushed e (Err x) is says =
          let flush = flush_as (Err e) says in
          let below = raised_cause (gave_up x) e (dev.faults old) (dev.faults new) is (λ failed. flush.cause (ap Err failed)) in
          record {
            crashes = λ t sealed. flush.told t (meant ++ more) (holds sealed);
            sealed = λ t sealed. tt;
            clears = flush.clears;
            known = λ t known. tt;
            steady = λ t un. flush.steady t (unrecovered_longer un);
            unrecovered = λ t un. tt;
            alone = λ t backed. (flush.wrote t (bytes_of longer (blob_of u (dev.time old)).content) (backed_longer backed).flushed (tip_stands longer (blob_of u (dev.time old)).content)).alone;
            bytes = λ t backed. tt;
            backed = λ t backed. tt;
            cached = tt;
            below = idle (Err e) flush;
            faultless = λ nothing. absurd (elim nothing [ inl less ↦ omega (arith, less, full) | inr none ↦ flush.fine (omega (arith, none, long)) ]);
            flushed = λ full. tt;
            tail = tt;
            at = tt;
            size = tt;
            key = tt;
            page_size = tt;
            capacity = tt;
            cache_pages = tt;
            settled = tt;
            «open» = tt;
            entries = flush.entries;
            overflow = (λ named. absurd (not_over e x is (cc named)), λ far. absurd (omega (arith, far, fits)));
            refused = λ named. absurd (not_over e x is (cc named));
            faults = flush.faults;
            cause = inr below;
          }
        where
          not_over : (d : DevError) (y : RError) → y ≡ raised d → y ≡ OffsetOverflow → ⊥
          not_over error.Fault y is named = cc (is, named)
          not_over error.Mem y is named = cc (is, named)

      -- it is flushed
      pub append_flushed : (v : B) → (see v).from < (see v).page_size → Flushes dev seal (record u { tip = tip }) old new see (Ok v) → Appends dev seal u old new see more (Ok (v, at))
      append_flushed v some says = let flush = flush_as (Ok v) says in record {
        crashes = λ t sealed. flush.told t (meant ++ more) (holds sealed);
        sealed = λ t sealed. record {
          holds = holds_own seal (see v) (meant ++ more) (blob_of u (dev.time new)) (omega (arith, some)) (flush.done t (meant ++ more) (holds sealed));
          backed = flush.backed t (backed_longer sealed.backed);
        };
        clears = flush.clears;
        known = λ t known. known_flushed seal longer (see v) (blob_of u (dev.time old)) (blob_of u (dev.time new)) (λ le. (flush.fine le, ap (λ (d : D). disk (dev.time d) (key_of u)) (flush.idle le))) flush.left known;
        steady = λ t un. flush.steady t (unrecovered_longer un);
        unrecovered = λ t un. flush.unrecovered t (unrecovered_longer un);
        alone = λ t backed. (flush.wrote t (bytes_of longer (blob_of u (dev.time old)).content) (backed_longer backed).flushed (tip_stands longer (blob_of u (dev.time old)).content)).alone;
        bytes = λ t backed.
            let stands = tip_stands longer (blob_of u (dev.time old)).content in
            flushed_bytes (see v) u.page_size (size_of longer) (bytes_of longer (blob_of u (dev.time old)).content) (blob_of u (dev.time new)).content (omega (arith, some)) flush.page_size flush.size
            (flush.wrote t (bytes_of longer (blob_of u (dev.time old)).content) (backed_longer backed).flushed stands).done (flush.tip (bytes_of longer (blob_of u (dev.time old)).content) stands) (bytes_length longer (blob_of u (dev.time old)).content)
            ∙ bytes_longer u more (blob_of u (dev.time old)).content;
        backed = λ t backed. flush.backed t (backed_longer backed);
        cached = flush.cached;
        below = idle (Ok v) flush;
        faultless = λ le. tt;
        flushed = λ full. flush.flushed;
        tail = tail_flushed u.capacity _ (length more) _ (omega (arith, flush.flushed)) (omega (arith, within, full));
        at = at_is;
        size = omega (arith, flush.size, long);
        key = flush.key;
        page_size = flush.page_size;
        capacity = flush.capacity;
        cache_pages = flush.cache_pages;
        settled = flush.settled;
        «open» = subst (λ (k : Key). IsOpenAt (dev.opened new) k (see v).end) (sym flush.key) flush.«length»;
        entries = flush.entries;
        overflow = (λ named. absurd (cc named), λ far. absurd (omega (arith, far, fits)));
        refused = λ named. absurd (cc named);
        faults = flush.faults;
        cause = tt;
      }
