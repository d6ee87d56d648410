-- A buffer whose bytes are settled: what the call owes, from what the flush says and what the device does.
use Rattle.std.proofs.Common.{◌≡◌, ◌≢◌, ◌+◌, ◌*◌, ◌≤◌, ◌<◌, ◌∙◌, ap, sym, subst, refl, ℕ, Bool, List, length, Result, Ok, Err, arith}
use Rattle.std.specs.Prelude.{OnErr}
use Rattle.std.specs.Result.{IsErr, IsErrAnd}
use Rattle.blob_device.specs.Change.{Settle}
use Rattle.blob_device.specs.Disk.{Key, Blob, settled_at}
use Rattle.blob_device.specs.Errors.{raised}
use Rattle.blob_device.specs.Opened.{OpenedList}
use Rattle.blob_device.specs.Timeline.{Passes, Always, OnlyAt, disk}
use Rattle.blob_device.specs.declared.device.Device as device
use Rattle.blob_device.specs.declared.error.DevError.{DevError}
use Rattle.blob_device.specs.declared.runtime.RError.{RError}
use Rattle.blob_device.specs.lemmas.Moments.{ok_blob}
use Rattle.sealed_pages.specs.Buffer.{Buffer, key_of, size_of, flushed_of, bytes_of, Holds, IsBacked, IsSealed, AddsPages}
use Rattle.sealed_pages.specs.Calls.{FailsBelow}
use Rattle.sealed_pages.specs.ChanceSeal.{Leaves, Sealing}
use Rattle.sealed_pages.specs.Cutting.{StandsSettled}
use Rattle.sealed_pages.specs.Entries.{IsOpenAt, NoReads}
use Rattle.sealed_pages.specs.Flushes.{Flushes}
use Rattle.sealed_pages.specs.Flushing.{Alone, last_slot}
use Rattle.sealed_pages.specs.Leftover.{Leftover, ClearsFirst, IsKnown}
use Rattle.sealed_pages.specs.SealedPrefix.{sealed_prefix}
use Rattle.sealed_pages.specs.Unrecovered.{blob_of, prefix_of, SparesPrefix, KeepsPrefix, IsUnrecovered}
use Rattle.sealed_pages.specs.View.{page_at}
use Rattle.sealed_pages.specs.Writes.{Syncs}
use Rattle.sealed_pages.proofs.memory.CacheLemmas.{cached_none}
use Rattle.sealed_pages.proofs.adopted.Clearing.{clears_start, clears_settle}
use Rattle.sealed_pages.specs.lemmas.Entries.{no_reads_start, open_some}
use Rattle.sealed_pages.specs.lemmas.Prefixes.{prefix_settle, prefix_start}
use Rattle.sealed_pages.specs.lemmas.Unrecovered.{keeps_then, settled_keeps, settled_stays, stood_keeps}
use Rattle.sealed_pages.specs.lemmas.cutting.Steps.{settled_rest}
use Rattle.sealed_pages.specs.lemmas.cutting.Truncating.{all_flushed, settles_of}
use Rattle.sealed_pages.specs.lemmas.memory.Holding.{bytes_length, holds_start}
use Rattle.sealed_pages.specs.lemmas.slots.PageCalls.{only_then}
use Rattle.sealed_pages.proofs.memory.Holding.{holds_own, tip_stands}
use Rattle.sealed_pages.proofs.adopted.Keeping.{settle_data}
use Rattle.sealed_pages.proofs.adopted.KnownLemmas.{known_synced}
use Rattle.sealed_pages.proofs.slots.PageCalls.{alone_on, alone_start}
use Rattle.sealed_pages.proofs.Syncing.{holds_settle, holds_synced, flushed_bytes}
use Rattle.sealed_pages.proofs.cutting.Truncating.{leaves_of, raised_cause}

module _ {D : Type 0} (dev : device.Ghosts D) (seal : List ℕ → ℕ) {B : Type 0} (see : B → Buffer) where
  -- all has settled
  pub sync_idle : (old : D) (v : B) → (see v).from < (see v).page_size → (see v).from ≤ length (see v).tip → (see v).settled ≤ flushed_of (see v) → length (see v).cache ≤ (see v).cache_pages
      → (see v).settled ≡ size_of (see v) → IsOpenAt (dev.opened old) (key_of (see v)) (see v).end → Syncs dev seal (see v) old old see (Ok v)
  sync_idle old v begun within order few settled open_ = record {
    crashes = λ t sealed. holds_start seal (see v) (bytes_of (see v) (blob_of (see v) (dev.time old)).content) (key_of (see v)) (dev.time old) begun sealed.holds;
    sealed = λ t sealed. sealed;
    clears = λ t rest left. clears_start seal (see v).page_size (see v).first (see v).from (see v).newest (key_of (see v)) (dev.time old) rest;
    known = λ t known. known;
    steady = λ t un. stood_keeps seal (see v) (key_of (see v)) (dev.time old) un;
    unrecovered = λ t un. un;
    prefix = λ t. prefix_start (page_at (see v).page_size (see v).first) (key_of (see v)) (dev.time old);
    alone = λ t backed. alone_start (dev.time old) (key_of (see v));
    bytes = λ t backed. refl;
    backed = λ t backed. backed;
    cached = cached_none (see v) few;
    idle = λ e. refl;
    same = λ e. refl;
    leaves = λ t sealed. leaves_of seal (see v) (see v).page_size (size_of (see v)) (bytes_of (see v) (blob_of (see v) (dev.time old)).content) (blob_of (see v) (dev.time old)) refl begun settled sealed.holds;
    rests = λ t before. before settled;
    again = λ t sealed. settles_of seal (see v) (see v).page_size (bytes_of (see v) (blob_of (see v) (dev.time old)).content) (blob_of (see v) (dev.time old)) refl begun (all_flushed (see v) within order settled) settled sealed.holds;
    settled = settled;
    size = refl;
    key = refl;
    page_size = refl;
    capacity = refl;
    cache_pages = refl;
    «open» = open_;
    entries = no_reads_start (dev.opened old) (key_of (see v)) (open_some (dev.opened old) (key_of (see v)) (see v).end open_);
    faults = omega arith;
    cause = tt;
  }

  module _ (u : Buffer) (unsettled : u.settled ≢ size_of u) (old : D) where
    -- the flush failed
    pub sync_unflushed : (mid : D) (e : DevError) (r : Result B RError) → IsErrAnd r (λ x. x ≡ raised e) → Flushes dev seal u old mid see (Err e) → Syncs dev seal u old mid see r
    sync_unflushed mid e (Ok v) is flush = absurd is
    sync_unflushed mid e (Err x) is flush = record {
      crashes = λ t sealed. flush.told t (bytes_of u (blob_of u (dev.time old)).content) sealed.holds;
      sealed = λ t sealed. tt;
      clears = flush.clears;
      known = λ t known. tt;
      steady = flush.steady;
      unrecovered = λ t un. tt;
      prefix = flush.prefix;
      alone = λ t backed. (flush.wrote t (bytes_of u (blob_of u (dev.time old)).content) backed.flushed (tip_stands u (blob_of u (dev.time old)).content)).alone;
      bytes = λ t backed. tt;
      backed = λ t backed. tt;
      cached = tt;
      idle = λ e. absurd (unsettled e);
      same = λ e. absurd (unsettled e);
      leaves = λ t sealed. tt;
      rests = λ t before. tt;
      again = λ t sealed. tt;
      settled = tt;
      size = tt;
      key = tt;
      page_size = tt;
      capacity = tt;
      cache_pages = tt;
      «open» = tt;
      entries = flush.entries;
      faults = flush.faults;
      cause = raised_cause (Err x) e (dev.faults old) (dev.faults mid) is (λ failed. flush.cause (ap Err failed));
    }

    -- all is flushed, and the device settles the blob
    module _ (mid new : D) (w : B) (begun : (see w).from < (see w).page_size) (flush : Flushes dev seal u old mid see (Ok w)) (x : Result (Unit {0}) DevError)
        (passes : dev.Tells → Passes (key_of u) Settle x (dev.time mid) (dev.time new)) (opened : dev.opened new ≡ dev.opened mid) (later : dev.faults mid ≤ dev.faults new) where
      -- the bytes that the buffer means
      abbrev meant : List ℕ
      meant = bytes_of u (blob_of u (dev.time old)).content

      stands : IsBacked seal u (blob_of u (dev.time old)).content → dev.Tells → Alone (key_of u) (dev.time old) (dev.time mid)
      stands backed t = (flush.wrote t meant backed.flushed (tip_stands u (blob_of u (dev.time old)).content)).alone

      any_crash : dev.Tells → IsSealed seal u (blob_of u (dev.time old)) → Sealing seal u.page_size meant u.settled (key_of u) (dev.time old) (dev.time new)
      any_crash t sealed = only_then (dev.time old) (dev.time mid) (dev.time new) (key_of u) (Leaves seal u.page_size meant u.settled) (flush.told t meant sealed.holds)
          (subst (λ (i : ℕ × ℕ). Sealing seal i.0 meant i.1 (key_of u) (dev.time mid) (dev.time new)) (λ i. (flush.page_size i, flush.settled i))
          (holds_settle seal (see w) meant (key_of u) (dev.time mid) (dev.time new) x begun (flush.done t meant sealed.holds) (passes t)))

      any_clears : dev.Tells → StandsSettled (blob_of u (dev.time old)) → Leftover seal u.page_size (blob_of u (dev.time old)).content u.first u.from u.newest u.behind u.torn
          → Always (dev.time old) (dev.time new) (OnlyAt (key_of u) (disk (dev.time old)) (ClearsFirst seal u.page_size u.first u.from u.newest))
      any_clears t rest left = clears_settle seal u.page_size u.first u.from u.newest (key_of u) (dev.time old) (dev.time mid) (dev.time new) x (flush.clears t rest left) (passes t)

      any_steady : dev.Tells → IsUnrecovered seal u (blob_of u (dev.time old)) → KeepsPrefix seal u.page_size (prefix_of seal u (dev.time old)) (key_of u) (dev.time old) (dev.time new)
      any_steady t un = keeps_then seal u.page_size (prefix_of seal u (dev.time old)) (key_of u) (dev.time old) (dev.time mid) (dev.time new) (flush.steady t un)
          (subst (λ (p : ℕ). KeepsPrefix seal p (sealed_prefix seal p (blob_of u (dev.time mid)).content) (key_of u) (dev.time mid) (dev.time new)) flush.page_size
          (settled_keeps seal (see w) (key_of u) (dev.time mid) (dev.time new) x (flush.unrecovered t un) (passes t)))

      any_prefix : dev.Tells → SparesPrefix (page_at u.page_size u.first) (key_of u) (dev.time old) (dev.time new)
      any_prefix t = prefix_settle (page_at u.page_size u.first) (key_of u) (dev.time old) (dev.time mid) (dev.time new) x (flush.prefix t) (passes t)

      any_alone : dev.Tells → IsBacked seal u (blob_of u (dev.time old)).content → Alone (key_of u) (dev.time old) (dev.time new)
      any_alone t backed = alone_on (stands backed t) (passes t)

      any_entries : NoReads (key_of u) (dev.opened old) (dev.opened new)
      any_entries = subst (NoReads (key_of u) (dev.opened old)) (sym opened) flush.entries

      -- it failed
      pub sync_failed : (r : Result B RError) → IsErr r → OnErr r (FailsBelow dev r old new) → Syncs dev seal u old new see r
      sync_failed (Ok v) is cause = absurd (cc is)
      sync_failed (Err e) is cause = record {
        crashes = any_crash;
        sealed = λ t sealed. tt;
        clears = any_clears;
        known = λ t known. tt;
        steady = any_steady;
        unrecovered = λ t un. tt;
        prefix = any_prefix;
        alone = any_alone;
        bytes = λ t backed. tt;
        backed = λ t backed. tt;
        cached = tt;
        idle = λ e. absurd (unsettled e);
        same = λ e. absurd (unsettled e);
        leaves = λ t sealed. tt;
        rests = λ t before. tt;
        again = λ t sealed. tt;
        settled = tt;
        size = tt;
        key = tt;
        page_size = tt;
        capacity = tt;
        cache_pages = tt;
        «open» = tt;
        entries = any_entries;
        faults = omega (arith, flush.faults, later);
        cause = cause;
      }

    -- it does
    module _ (mid new : D) (w : B) (begun : (see w).from < (see w).page_size) (flush : Flushes dev seal u old mid see (Ok w))
        (passes : dev.Tells → Passes {T = Unit {0}} (key_of u) Settle (Ok tt) (dev.time mid) (dev.time new)) (opened : dev.opened new ≡ dev.opened mid) (later : dev.faults mid ≤ dev.faults new)
        (v : B) (end : ℕ) (slot : Bool) (is : see v ≡ record (see w) { settled = end; newest = slot }) (ends : end ≡ flushed_of (see w))
        (picked : 0 < (see w).from → slot ≡ last_slot (see w).page_size end (see w).settled (see w).newest (see w).first) (within : u.from ≤ length u.tip) where
      -- the buffer then
      abbrev settled_buffer : Buffer
      settled_buffer = record (see w) { settled = end; newest = slot }

      abbrev means : List ℕ
      means = bytes_of u (blob_of u (dev.time old)).content

      full : flushed_of (see w) ≡ size_of u
      full = ap (λ (m : ℕ). (see w).first * (see w).page_size + m) flush.flushed ∙ flush.size

      behind : (see w).settled ≢ flushed_of (see w)
      behind e = unsettled (sym flush.settled ∙ e ∙ full)

      at_v : (Q : Buffer → Type 0) → Q settled_buffer → Q (see v)
      at_v Q has = subst Q (sym is) has

      blob_is : dev.Tells → blob_of u (dev.time new) ≡ settled_at (blob_of u (dev.time mid)).content
      blob_is t = ok_blob (key_of u) Settle tt (dev.time mid) (dev.time new) (passes t)

      holds_now : dev.Tells → IsSealed seal u (blob_of u (dev.time old)) → Holds seal settled_buffer means (blob_of u (dev.time new))
      holds_now t sealed = holds_synced seal (see w) means (key_of u) (dev.time mid) (dev.time new) tt end slot begun behind ends picked (flush.done t means sealed.holds) (passes t)

      backed_now : dev.Tells → IsBacked seal (see w) (blob_of u (dev.time mid)).content → IsBacked seal settled_buffer (blob_of u (dev.time new)).content
      backed_now t now = subst (λ (b : Blob). IsBacked seal settled_buffer b.content) (sym (blob_is t)) (record { flushed = now.flushed; tip = now.tip; cache = now.cache })

      pub synced : Syncs dev seal u old new see (Ok v)
      synced = record {
        crashes = any_crash mid new w begun flush (Ok tt) passes opened later;
        sealed = λ t sealed. at_v (λ (b : Buffer). IsSealed seal b (blob_of u (dev.time new))) (record {
          holds = holds_own seal settled_buffer means (blob_of u (dev.time new)) (omega (arith, begun)) (holds_now t sealed);
          backed = backed_now t (flush.backed t sealed.backed);
        });
        clears = any_clears mid new w begun flush (Ok tt) passes opened later;
        known = λ t known. at_v (λ (b : Buffer). IsKnown seal b (blob_of u (dev.time new)))
            (known_synced seal u (see w) settled_buffer (blob_of u (dev.time old)) (blob_of u (dev.time new)) within unsettled (λ le. flush.fine le) refl flush.left known);
        steady = any_steady mid new w begun flush (Ok tt) passes opened later;
        unrecovered = λ t un. at_v (λ (b : Buffer). IsUnrecovered seal b (blob_of u (dev.time new)))
            (settled_stays seal (see w) (key_of u) (dev.time mid) (dev.time new) tt settled_buffer (flush.unrecovered t un) (passes t) refl refl (omega (arith, ends)) (backed_now t (flush.unrecovered t un).backed));
        prefix = any_prefix mid new w begun flush (Ok tt) passes opened later;
        alone = any_alone mid new w begun flush (Ok tt) passes opened later;
        bytes = λ t backed. at_v (λ (b : Buffer). bytes_of b (blob_of u (dev.time new)).content ≡ means)
            (flushed_bytes settled_buffer u.page_size (size_of u) means (blob_of u (dev.time new)).content (omega (arith, begun)) flush.page_size flush.size
            (settle_data u.page_size means (size_of u) (key_of u) (dev.time mid) (dev.time new) tt (passes t) (flush.wrote t means backed.flushed (tip_stands u (blob_of u (dev.time old)).content)).done)
            (flush.tip means (tip_stands u (blob_of u (dev.time old)).content)) (bytes_length u (blob_of u (dev.time old)).content));
        backed = λ t backed. at_v (λ (b : Buffer). IsBacked seal b (blob_of u (dev.time new)).content) (backed_now t (flush.backed t backed));
        cached = at_v (λ (b : Buffer). AddsPages u b) flush.cached;
        idle = λ e. absurd (unsettled e);
        same = λ e. absurd (unsettled e);
        leaves = λ t sealed. leaves_of seal settled_buffer u.page_size (size_of u) means (blob_of u (dev.time new)) flush.page_size begun (ends ∙ full) (holds_now t sealed);
        rests = λ t before. settled_rest (blob_of u (dev.time new)) _ (blob_is t);
        again = λ t sealed. settles_of seal settled_buffer u.page_size means (blob_of u (dev.time new)) flush.page_size begun flush.flushed (ends ∙ full ∙ sym flush.size) (holds_now t sealed);
        settled = at_v (λ (b : Buffer). b.settled ≡ size_of b) (ends ∙ full ∙ sym flush.size);
        size = at_v (λ (b : Buffer). size_of b ≡ size_of u) flush.size;
        key = at_v (λ (b : Buffer). key_of b ≡ key_of u) flush.key;
        page_size = at_v (λ (b : Buffer). b.page_size ≡ u.page_size) flush.page_size;
        capacity = at_v (λ (b : Buffer). b.capacity ≡ u.capacity) flush.capacity;
        cache_pages = at_v (λ (b : Buffer). b.cache_pages ≡ u.cache_pages) flush.cache_pages;
        «open» = at_v (λ (b : Buffer). IsOpenAt (dev.opened new) (key_of b) b.end)
            (subst (λ (i : Key × OpenedList). IsOpenAt i.1 i.0 (see w).end) (λ i. (sym flush.key i, sym opened i)) flush.«length»);
        entries = any_entries mid new w begun flush (Ok tt) passes opened later;
        faults = omega (arith, flush.faults, later);
        cause = tt;
      }
