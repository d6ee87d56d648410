-- A buffer that is flushed: what the call owes, from what its repair and the writing of its tip say.
use Rattle.std.proofs.Common.{◌≡◌, ◌*◌, ◌≤◌, ◌<◌, inl, inr, ap, sym, subst, refl, ℕ, false, List, length, Result, Ok, Err, arith}
use Rattle.blob_device.specs.Timeline.{Always, OnlyAt, disk}
use Rattle.blob_device.specs.declared.device.Device as device
use Rattle.blob_device.specs.declared.error.DevError.{DevError}
use Rattle.sealed_pages.specs.Buffer.{Buffer, key_of, size_of, flushed_of, bytes_of, has_leftover, Holds, IsBacked}
use Rattle.sealed_pages.specs.Cached.{AreFull}
use Rattle.sealed_pages.specs.ChanceSeal.{Sealing}
use Rattle.sealed_pages.specs.Cutting.{StandsSettled}
use Rattle.sealed_pages.specs.Entries.{IsOpenAt, NoReads}
use Rattle.sealed_pages.specs.Flushes.{Repairs, WritesTip, Flushes}
use Rattle.sealed_pages.specs.Flushing.{Data, Wrote}
use Rattle.sealed_pages.specs.Leftover.{Leftover, ClearsFirst}
use Rattle.sealed_pages.specs.Unrecovered.{blob_of, SparesPrefix}
use Rattle.sealed_pages.specs.View.{view, page_at, StandsAt}
use Rattle.sealed_pages.proofs.memory.CacheLemmas.{cached_none, cached_by}
use Rattle.sealed_pages.proofs.adopted.Clearing.{clears_start, clears_then}
use Rattle.sealed_pages.specs.lemmas.Entries.{no_reads_start, no_reads_then, open_some}
use Rattle.sealed_pages.proofs.Prefixes.{prefix_then}
use Rattle.sealed_pages.proofs.memory.Holding.{tip_stands}
use Rattle.sealed_pages.proofs.memory.MemoryLemmas.{memory_flushed}
use Rattle.sealed_pages.proofs.slots.PageCalls.{alone_start}
use Rattle.sealed_pages.proofs.Syncing.{flush_told}
use Rattle.sealed_pages.specs.lemmas.Prefixes.{prefix_now, prefix_start}
use Rattle.sealed_pages.specs.lemmas.Unrecovered.{spared_keeps, spared_stays, stood_keeps}
use Rattle.sealed_pages.specs.lemmas.cutting.Truncating.{rose_since}
use Rattle.sealed_pages.specs.lemmas.memory.Holding.{bytes_length, holds_start}
use Rattle.sealed_pages.specs.lemmas.slots.PageCalls.{alone_then}
use Rattle.sealed_pages.proofs.UnrecoveredLemmas.{first_later}

module _ {D : Type 0} (dev : device.Ghosts D) (seal : List ℕ → ℕ) {B : Type 0} (see : B → Buffer) where
  -- all is flushed
  pub flush_idle : (old : D) (v : B) → (see v).from < (see v).page_size → (see v).from ≤ length (see v).tip → length (see v).cache ≤ (see v).cache_pages → length (see v).tip ≤ (see v).from
      → IsOpenAt (dev.opened old) (key_of (see v)) (see v).end → Flushes dev seal (see v) old old see (Ok v)
  flush_idle old v begun within few none open_ = record {
    told = λ t all holds. holds_start seal (see v) all (key_of (see v)) (dev.time old) begun holds;
    done = λ t all holds. holds;
    wrote = λ t all same at. record {
      alone = alone_start (dev.time old) (key_of (see v));
      done = (let e : flushed_of (see v) ≡ size_of (see v) = omega (arith, within, none) in subst (λ (n : ℕ). Data (see v).page_size all n (view (blob_of (see v) (dev.time old)).content)) e same);
    };
    steady = λ t un. stood_keeps seal (see v) (key_of (see v)) (dev.time old) un;
    unrecovered = λ t un. un;
    prefix = λ t. prefix_start (page_at (see v).page_size (see v).first) (key_of (see v)) (dev.time old);
    clears = λ t rest left. clears_start seal (see v).page_size (see v).first (see v).from (see v).newest (key_of (see v)) (dev.time old) rest;
    left = inl none;
    backed = λ t backed. backed;
    cached = cached_none (see v) few;
    idle = λ le. refl;
    fine = λ le. refl;
    key = refl;
    page_size = refl;
    capacity = refl;
    cache_pages = refl;
    settled = refl;
    newest = refl;
    size = refl;
    flushed = omega (arith, within, none);
    tip = λ all at. at;
    «length» = open_;
    entries = no_reads_start (dev.opened old) (key_of (see v)) (open_some (dev.opened old) (key_of (see v)) (see v).end open_);
    faults = omega arith;
    cause = λ failed. absurd (cc failed);
  }

  module _ (u : Buffer) (some : u.from < length u.tip) (old mid : D) where
    -- what a crash left is not removed
    pub flush_unrepaired : (e : DevError) (r : Result B DevError) → r ≡ Err e → Repairs dev seal u old mid see (Err e) → Flushes dev seal u old mid see r
    flush_unrepaired e r is repair = subst (λ (x : Result B DevError). Flushes dev seal u old mid see x) (sym is) (record {
      told = repair.told;
      done = λ t all holds. tt;
      wrote = λ t all same at. record { alone = (repair.wrote t all same).alone; done = tt };
      steady = λ t un. spared_keeps seal u (key_of u) (dev.time old) (dev.time mid) un u.first un.below (repair.prefix t);
      unrecovered = λ t un. tt;
      prefix = repair.prefix;
      clears = λ t rest left. repair.clears t rest;
      left = tt;
      backed = λ t backed. tt;
      cached = tt;
      idle = λ le. absurd (omega (arith, le, some));
      fine = λ le. absurd (omega (arith, le, some));
      key = tt;
      page_size = tt;
      capacity = tt;
      cache_pages = tt;
      settled = tt;
      newest = tt;
      size = tt;
      flushed = tt;
      tip = tt;
      «length» = tt;
      entries = repair.entries;
      faults = repair.faults;
      cause = repair.cause;
    })

    -- it is, and the tip is written
    module _ (w : B) (repair : Repairs dev seal u old mid see (Ok w)) (new : D) where
      -- the buffer between the two
      abbrev cleared : Buffer
      cleared = record u { end = (see w).end; behind = false; torn = false }

      held : dev.Tells → (all : List ℕ) → Holds seal u all (blob_of u (dev.time old)) → Holds seal cleared all (blob_of u (dev.time mid))
      held t all holds = subst (λ (x : Buffer). Holds seal x all (blob_of u (dev.time mid))) repair.same (repair.done t all holds)

      module _ (r : Result B DevError) (write : WritesTip dev seal cleared mid new see r) where
        told_both : dev.Tells → (all : List ℕ) → Holds seal u all (blob_of u (dev.time old)) → Sealing seal u.page_size all u.settled (key_of u) (dev.time old) (dev.time new)
        told_both t all holds = flush_told seal u cleared (see w).end all (dev.time old) (dev.time mid) (dev.time new) refl (repair.told t all holds) (held t all holds) (write.told t)

        wrote_both : dev.Tells → (all : List ℕ) → Data u.page_size all (flushed_of u) (view (blob_of u (dev.time old)).content) → StandsAt all (u.first * u.page_size) u.tip
            → Wrote u.page_size all (size_of u) (key_of u) r (dev.time old) (dev.time new)
        wrote_both t all same at =
            let first = repair.wrote t all same in
            let second = write.wrote t all first.done at in
            record { alone = alone_then (dev.time old) (dev.time mid) (dev.time new) (key_of u) first.alone second.alone; done = second.done }

        prefix_both : dev.Tells → SparesPrefix (page_at u.page_size u.first) (key_of u) (dev.time old) (dev.time new)
        prefix_both t = prefix_then (page_at u.page_size u.first) (key_of u) (dev.time old) (dev.time mid) (dev.time new) (repair.prefix t) (write.prefix t)

        clears_both : dev.Tells → StandsSettled (blob_of u (dev.time old)) → Leftover seal u.page_size (blob_of u (dev.time old)).content u.first u.from u.newest u.behind u.torn
            → Always (dev.time old) (dev.time new) (OnlyAt (key_of u) (disk (dev.time old)) (ClearsFirst seal u.page_size u.first u.from u.newest))
        clears_both t rest left = clears_then seal u.page_size u.first u.from u.newest (key_of u) (dev.time old) (dev.time mid) (dev.time new) (repair.clears t rest) (repair.cleared t rest left) (write.stays t)

        entries_both : NoReads (key_of u) (dev.opened old) (dev.opened new)
        entries_both = no_reads_then _ _ _ _ repair.entries write.entries

      both : (r : Result B DevError) → WritesTip dev seal cleared mid new see r → AreFull u.page_size u.first u.cache → u.settled ≤ flushed_of u → ((v : B) → (see v).from < (see v).page_size) → Flushes dev seal u old new see r
      both (Err e) write full order begun = record {
        told = told_both (Err e) write;
        done = λ t all holds. tt;
        wrote = wrote_both (Err e) write;
        steady = λ t un. spared_keeps seal u (key_of u) (dev.time old) (dev.time new) un u.first un.below (prefix_both (Err e) write t);
        unrecovered = λ t un. tt;
        prefix = prefix_both (Err e) write;
        clears = clears_both (Err e) write;
        left = tt;
        backed = λ t backed. tt;
        cached = tt;
        idle = λ le. absurd (omega (arith, le, some));
        fine = λ le. absurd (omega (arith, le, some));
        key = tt;
        page_size = tt;
        capacity = tt;
        cache_pages = tt;
        settled = tt;
        newest = tt;
        size = tt;
        flushed = tt;
        tip = tt;
        «length» = tt;
        entries = entries_both (Err e) write;
        faults = omega (arith, repair.faults, write.faults);
        cause = λ failed. rose_since (dev.faults old) (dev.faults mid) (dev.faults new) repair.faults (write.cause failed);
      }
      both (Ok v) write full order begun = record {
        told = told_both (Ok v) write;
        done = λ t all holds. write.done t all (held t all holds);
        wrote = wrote_both (Ok v) write;
        steady = λ t un. spared_keeps seal u (key_of u) (dev.time old) (dev.time new) un u.first un.below (prefix_both (Ok v) write t);
        unrecovered = λ t un.
            let page : (see v).page_size ≡ u.page_size = ap (λ (x : Buffer). x.page_size) write.into.same in
            let short : length (see v).tip < (see v).page_size = omega (arith, begun v, ap (λ (x : Buffer). x.from) write.into.same) in
            let later = first_later u.page_size u.first (see v).first (length u.tip) (length (see v).tip) (omega (arith, write.into.size, ap (λ (n : ℕ). (see v).first * n) page)) (omega (arith, short, page)) in
            let own : (see v).settled ≡ u.settled = ap (λ (x : Buffer). x.settled) write.into.same in
            let unsettled : u.settled < size_of u = omega (arith, order, some) in
            spared_stays seal u (key_of u) (dev.time old) (dev.time new) un u.first un.below (prefix_both (Ok v) write t) (see v) page (omega (arith, un.below, later)) (omega (arith, un.settled, own)) (backed_now t un.backed)
            (λ settled. absurd (omega (arith, settled, write.into.size, unsettled, own))) (write.had t (repair.had t un.had));
        prefix = prefix_both (Ok v) write;
        clears = clears_both (Ok v) write;
        left = inr (ap has_leftover write.into.same);
        backed = backed_now;
        cached = cached_by u (see v) u.page_size u.tip write.into.cache;
        idle = λ le. absurd (omega (arith, le, some));
        fine = λ le. absurd (omega (arith, le, some));
        key = ap key_of write.into.same;
        page_size = ap (λ (x : Buffer). x.page_size) write.into.same;
        capacity = ap (λ (x : Buffer). x.capacity) write.into.same;
        cache_pages = ap (λ (x : Buffer). x.cache_pages) write.into.same;
        settled = ap (λ (x : Buffer). x.settled) write.into.same;
        newest = ap (λ (x : Buffer). x.newest) write.into.same;
        size = write.into.size;
        flushed = ap (λ (x : Buffer). x.from) write.into.same;
        tip = write.into.tip;
        «length» = write.«length»;
        entries = entries_both (Ok v) write;
        faults = omega (arith, repair.faults, write.faults);
        cause = λ failed. absurd (cc failed);
      }
        where
          backed_now : dev.Tells → IsBacked seal u (blob_of u (dev.time old)).content → IsBacked seal (see v) (blob_of u (dev.time new)).content
          backed_now t backed =
              let all : List ℕ = bytes_of u (blob_of u (dev.time old)).content in
              let at = tip_stands u (blob_of u (dev.time old)).content in
              memory_flushed seal u cleared (see v) (blob_of u (dev.time old)) (blob_of u (dev.time new)) all refl refl refl refl (begun v) write.into (prefix_now _ _ _ _ (prefix_both (Ok v) write t)) full
              (wrote_both (Ok v) write t all backed.flushed at).done (bytes_length u (blob_of u (dev.time old)).content) at (write.covers t all (repair.wrote t all backed.flushed).done at some) backed.cache

      pub flush_written : (r : Result B DevError) → WritesTip dev seal (see w) mid new see r → AreFull u.page_size u.first u.cache → u.settled ≤ flushed_of u → ((v : B) → (see v).from < (see v).page_size) → Flushes dev seal u old new see r
      flush_written r write full order begun = both r (subst (λ (x : Buffer). WritesTip dev seal x mid new see r) repair.same write) full order begun
