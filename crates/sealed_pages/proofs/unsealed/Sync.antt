-- A flush of a buffer over a blob without seals, and a sync behind it.
use Rattle.std.proofs.Common.{◌≡◌, ◌+◌, ◌≤◌, true, false, [], ◌∷◌, length, take, Result, Ok, IsErr, OnErr, sym, ◌∙◌, ap, subst, arith}
use Rattle.std.specs.Prelude.{IfSome, IsTrue}
use Rattle.blob_device.specs.declared.device.Device as device
use Rattle.blob_device.specs.declared.error.DevError.{DevError}
use Rattle.blob_device.specs.declared.runtime.RError.{RError}
use Rattle.blob_device.specs.Disk.{Key, Blob, Outside, settled_at}
use Rattle.blob_device.specs.Timeline.{Timeline, disk, Passes}
use Rattle.blob_device.specs.Change.{Write}
use Rattle.sealed_pages.specs.Calls.{FailsBelow}
use Rattle.sealed_pages.specs.Contents.{AddsOnly}
use Rattle.sealed_pages.specs.Entries.{NoReads}
use Rattle.sealed_pages.specs.Sparing.{Sparing, Keeping}
use Rattle.sealed_pages.specs.unsealed.RunCalls.{FlushesRun, Rests, Syncs}
use Rattle.sealed_pages.specs.unsealed.Writing.{WriteBuffer, blob_key, bytes_of, size_of, run_of, is_unsettled, Over, KeepsSettled}
use Rattle.sealed_pages.proofs.unsealed.ContentLemmas.{adds_start, adds_write, adds_rested}
use Rattle.sealed_pages.proofs.unsealed.LastingLemmas.{keeping_of}
use Rattle.sealed_pages.specs.lemmas.looking.Looking.{content_length}
use Rattle.sealed_pages.specs.lemmas.unsealed.Sparing.{sparing_start}
use Rattle.sealed_pages.specs.lemmas.unsealed.Writing.{idle_bytes, idle_parts, settled_parts}
use Rattle.sealed_pages.proofs.unsealed.SparingLemmas.{sparing_write}
use Rattle.sealed_pages.proofs.cutting.Truncating.{no_value}
use Rattle.sealed_pages.proofs.unsealed.WritingLemmas.{flushed_rests}
use Rattle.sealed_pages.proofs.unsealed.Settled.{SettledAs, settled_as}

-- What they have done to the blob of the buffer u by some time.
pub record FlushBy (u : WriteBuffer) (t0 t1 : Timeline) : Type 0 where
  -- they have touched the run's places alone,
  pub spares : Sparing (Outside (run_of u ∷ [])) u.settled (blob_key u) t0 t1
  -- and made no content but the buffer's bytes
  pub since : AddsOnly (bytes_of u (disk t0 (blob_key u)).content ∷ []) (blob_key u) t0 t1

-- what settled and was not written since outlives each crash
pub flush_lasts : (u : WriteBuffer) (t0 t1 : Timeline) → FlushBy u t0 t1 → KeepsSettled u (disk t0 (blob_key u)) → Keeping (take u.settled (bytes_of u (disk t0 (blob_key u)).content)) (blob_key u) t0 t1
flush_lasts u t0 t1 by kept = keeping_of u (Outside (run_of u ∷ [])) u.settled u.settled (blob_key u) t0 t1 kept (omega arith) (omega arith) kept.apart by.spares

-- before the first call
pub flush_none : (u : WriteBuffer) (t : Timeline) → FlushBy u t t
flush_none u t = record {
  spares = sparing_start (Outside (run_of u ∷ [])) u.settled (blob_key u) t;
  since = adds_start (bytes_of u (disk t (blob_key u)).content ∷ []) (blob_key u) t;
}

-- after the write of the run
pub flush_written : {T : Type 0} (u : WriteBuffer) (t0 t1 : Timeline) (r : Result T DevError) → Passes (blob_key u) (Write u.at u.pending) r t0 t1 → FlushBy u t0 t1
flush_written u t0 t1 r passes = record {
  spares = sparing_write (Outside (run_of u ∷ [])) u.settled (blob_key u) t0 t1 u.at u.pending r passes (λ i out. out.0);
  since = adds_write (blob_key u) t0 t1 r u.at u.pending passes;
}

-- where nothing is unsettled
module _ (u : WriteBuffer) (rested : is_unsettled u ≡ false) where
  clean : u.dirty ≡ false
  clean = (settled_parts u rested).0

  none : u.pending ≡ []
  none = (idle_parts u (settled_parts u rested).1).0

  low : u.at ≤ u.end
  low = (idle_parts u (settled_parts u rested).1).1

  pub rested_as : (b : Blob) → length b.content ≡ u.end → u.settled ≡ u.end → Over u b → SettledAs u (bytes_of u b.content) b
  rested_as b long all over =
      let same : bytes_of u b.content ≡ b.content = idle_bytes u b.content (settled_parts u rested).1 long in
      settled_as u (bytes_of u b.content) b (over.clean clean ∙ ap settled_at (sym same)) (omega (arith, all, long, ap length same)) (omega (arith, low, long, ap length same)) clean none

  pub rested_same : u.settled ≡ u.end → u ≡ record u { end = size_of u; pending = []; settled = size_of u; dirty = false }
  rested_same all =
      let end : u.end ≡ size_of u = omega (arith, low, ap length none) in
      λ i. record u { end = end i; pending = none i; settled = (all ∙ end) i; dirty = clean i }

-- after each call
module _ {D : Type 0} (dev : device.Ghosts D) (tells : dev.Tells) (u : WriteBuffer) (d0 d1 : D) where
  pub flush_run : {B : Type 0} (see : B → WriteBuffer) (r : Result B DevError) → FlushesRun dev u d0 d1 see r → FlushBy u (dev.time d0) (dev.time d1)
  flush_run see r flushed = record { spares = flushed.spares tells; since = flushed.since tells }

  -- v is the buffer after the flush
  module _ {B : Type 0} (see : B → WriteBuffer) (v : B) (flushed : FlushesRun dev u d0 d1 see (Ok v)) (stands : (d : D) (k : Key) → IfSome (dev.opened d k) (λ o. (IsTrue (disk (dev.time d) k).there) × (length (disk (dev.time d) k).content ≡ o.len))) (d2 : D) where
    long1 : length (disk (dev.time d1) (blob_key (see v))).content ≡ (see v).end
    long1 = content_length (dev.opened d1) (blob_key (see v)) (see v).end _ _ (stands d1 (blob_key (see v))) flushed.«open»

    after_flush : see v ≡ record u { end = size_of u; pending = []; dirty = (see v).dirty }
    after_flush = flushed.same

    key_v : blob_key (see v) ≡ blob_key u
    key_v = ap blob_key after_flush

    pub sync_rested : (r : Result B DevError) → Rests dev (see v) d1 d2 see r → FlushBy u (dev.time d0) (dev.time d2)
    sync_rested r rests = record {
      spares = flushed_rests (Outside (run_of u ∷ [])) u (see v) (size_of u) (see v).dirty (dev.time d0) (dev.time d1) (dev.time d2) after_flush (flushed.spares tells) (rests.spares tells);
      since = adds_rested u (see v) (bytes_of u (disk (dev.time d0) (blob_key u)).content) (dev.time d0) (dev.time d1) (dev.time d2) key_v flushed.idle long1 (flushed.bytes tells) (flushed.since tells) (rests.since tells);
    }

    -- r is the one at the end
    module _ (r : B) (rests : Rests dev (see v) d1 d2 see (Ok r)) where
      after_rest : see r ≡ record (see v) { settled = (see v).end; dirty = false }
      after_rest = rests.same

      long_u : length (disk (dev.time d1) (blob_key u)).content ≡ (see v).end
      long_u = subst (λ (k : Key). length (disk (dev.time d1) k).content ≡ (see v).end) key_v long1

      flushed_is : (disk (dev.time d1) (blob_key u)).content ≡ bytes_of u (disk (dev.time d0) (blob_key u)).content
      flushed_is =
          let all : bytes_of (see v) (disk (dev.time d1) (blob_key u)).content ≡ bytes_of u (disk (dev.time d0) (blob_key u)).content = flushed.bytes tells in
          sym (idle_bytes (see v) (disk (dev.time d1) (blob_key u)).content flushed.idle long_u) ∙ all

      settles : disk (dev.time d2) (blob_key u) ≡ settled_at (bytes_of u (disk (dev.time d0) (blob_key u)).content)
      settles =
          let rest : disk (dev.time d2) (blob_key (see v)) ≡ settled_at (disk (dev.time d1) (blob_key (see v))).content = rests.settles tells in
          subst (λ (k : Key). disk (dev.time d2) k ≡ settled_at (disk (dev.time d1) k).content) key_v rest ∙ ap settled_at flushed_is

      pub sync_to : SettledAs (see r) (bytes_of u (disk (dev.time d0) (blob_key u)).content) (disk (dev.time d2) (blob_key u))
      sync_to = settled_as (see r) (bytes_of u (disk (dev.time d0) (blob_key u)).content) (disk (dev.time d2) (blob_key u)) settles
          (omega (arith, ap (λ (x : WriteBuffer). x.settled) after_rest, long_u, ap length flushed_is))
          (omega (arith, ap (λ (x : WriteBuffer). x.at) after_rest, (idle_parts (see v) flushed.idle).1, long_u, ap length flushed_is))
          (ap (λ (x : WriteBuffer). x.dirty) after_rest)
          (ap (λ (x : WriteBuffer). x.pending) after_rest ∙ ap (λ (x : WriteBuffer). x.pending) after_flush)

-- where a sync failed in one of them
pub sync_failed : {D B : Type 0} (dev : device.Ghosts D) (u : WriteBuffer) (see : B → WriteBuffer) (d0 d1 : D) (r : Result B RError)
    → IsErr r → is_unsettled u ≡ true → (dev.Tells → FlushBy u (dev.time d0) (dev.time d1)) → (dev.time d1).calls ≤ (dev.time d0).calls + 2
    → NoReads (blob_key u) (dev.opened d0) (dev.opened d1) → dev.faults d0 ≤ dev.faults d1 → OnErr r (FailsBelow dev r d0 d1) → Syncs dev u d0 d1 see r
sync_failed dev u see d0 d1 r failed loose by calls entries faults cause = record {
  spares = λ t. (by t).spares;
  over = λ t over. no_value _ r failed;
  lasts = λ t kept. flush_lasts u (dev.time d0) (dev.time d1) (by t) kept;
  kept = λ t over. no_value _ r failed;
  since = λ t. (by t).since;
  settles = λ t over. no_value _ r failed;
  bytes = λ t. no_value _ r failed;
  idle = no_value _ r failed;
  same = no_value _ r failed;
  untouched = λ rested. absurd (cc (rested, loose));
  stays = λ rested. absurd (cc (rested, loose));
  calls = calls;
  «open» = no_value _ r failed;
  entries = entries;
  faults = faults;
  cause = cause;
}
