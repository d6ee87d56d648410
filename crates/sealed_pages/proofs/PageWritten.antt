-- One page of a flush, from what its two writes do.
use Rattle.std.proofs.Common.{◌≡◌, ℕ, ◌+◌, ◌*◌, ◌^◌, ◌<◌, ◌≤◌, Bool, List, Result, Ok, Err, length, drop, sym, subst, arith, rules}
use Rattle.std.specs.Prelude.{IsSome}
use Rattle.blob_device.specs.Change.{Write}
use Rattle.blob_device.specs.Counts.{Counted}
use Rattle.blob_device.specs.Disk.{Key}
use Rattle.blob_device.specs.Timeline.{disk, Passes}
use Rattle.blob_device.specs.declared.device.Device as device
use Rattle.blob_device.specs.declared.error.DevError.{DevError}
use Rattle.sealed_pages.specs.Entries.{IsOpenAt, NoReads}
use Rattle.sealed_pages.specs.Flushing.{Ready, next_slot}
use Rattle.sealed_pages.specs.Leftover.{SettlesNothing}
use Rattle.sealed_pages.specs.PageWrites.{WritesPage}
use Rattle.sealed_pages.specs.Slots.{slot_bytes}
use Rattle.sealed_pages.specs.Unrecovered.{SparesPrefix}
use Rattle.sealed_pages.specs.View.{page_at, slot_at, StandsAt}
use Rattle.sealed_pages.proofs.adopted.Clearing.{settles_start, settles_write}
use Rattle.sealed_pages.proofs.slots.CoverLemmas.{page_covers}
use Rattle.sealed_pages.specs.lemmas.Entries.{no_reads_then, no_reads_open}
use Rattle.sealed_pages.proofs.Prefixes.{prefix_write}
use Rattle.sealed_pages.specs.lemmas.Had.{had_write}
use Rattle.sealed_pages.specs.lemmas.Prefixes.{prefix_start}
use Rattle.sealed_pages.specs.lemmas.cutting.Truncating.{rose_since}
use Rattle.sealed_pages.specs.lemmas.slots.PageCalls.{Begun, page_leaves, page_one, page_ready, page_two}
use Rattle.sealed_pages.specs.lemmas.slots.Steps.{slot_low}
use Rattle.sealed_pages.proofs.slots.PageCalls.{alone_start, alone_on, page_wrote}

module _ {D : Type 0} (dev : device.Ghosts D) (seal : List ℕ → ℕ) (P : ℕ) (blob : Key) (page from : ℕ) (bytes : List ℕ) (second : Bool) (fits : (x : List ℕ) → seal x < 2 ^ 32) (small : P < 2 ^ 16)
    (new : from < length bytes) (size : length bytes ≤ P) (room : page_at P page + (P + 12) < 2 ^ 64) (old mid : D) where
  begun : (all : List ℕ) (F L : ℕ) (newest : Bool) → Ready seal P all F L newest (disk (dev.time old) blob) → F ≡ page * P + from → StandsAt all (page * P) bytes → second ≡ next_slot P L newest page
      → Begun seal P all F L newest blob (dev.time old) page from bytes second
  begun all F L newest ready is at pick = record { seal_fits = fits; small = small; ready = ready; is = is; new = new; size = size; places = room; at = at; pick = pick }

  data_prefix : {r : Result (Unit {0}) DevError} → Passes {T = Unit {0}} blob (Write (page_at P page + from) (drop from bytes)) r (dev.time old) (dev.time mid) → SparesPrefix (page_at P page) blob (dev.time old) (dev.time mid)
  data_prefix passes = prefix_write (page_at P page) blob (dev.time old) (dev.time old) (dev.time mid) _ _ _ (omega arith) (prefix_start (page_at P page) blob (dev.time old)) passes

  data_stays : {r : Result (Unit {0}) DevError} → Passes {T = Unit {0}} blob (Write (page_at P page + from) (drop from bytes)) r (dev.time old) (dev.time mid) → SettlesNothing blob (dev.time old) (dev.time mid)
  data_stays passes = settles_write blob (dev.time old) (dev.time old) (dev.time mid) _ _ _ (settles_start blob (dev.time old)) passes

  -- the data are not written whole
  pub data_failed : (r : Result ℕ DevError) (e : DevError) {x y : ℕ} → r ≡ Err e → Counted {T = Unit {0}} (Err e) (dev.faults old) (dev.faults mid) x y → NoReads blob (dev.opened old) (dev.opened mid)
      → (dev.Tells → Passes {T = Unit {0}} blob (Write (page_at P page + from) (drop from bytes)) (Err e) (dev.time old) (dev.time mid)) → WritesPage dev seal P blob old mid page from bytes second r
  data_failed r e is counts reads told = subst (WritesPage dev seal P blob old mid page from bytes second) (sym is) (record {
    told = λ t all F L newest ready is at pick. record {
      any_moment = page_leaves seal P all F L newest blob (dev.time old) page from bytes second (begun all F L newest ready is at pick) (page_one seal P all F L newest blob (dev.time old) page from bytes second (begun all F L newest ready is at pick) (told t));
      done = tt;
    };
    wrote = λ t all was at. record { alone = alone_on (alone_start (dev.time old) blob) (told t); done = tt };
    covers = λ t all was at. tt;
    prefix = λ t. data_prefix (told t);
    stays = λ t. data_stays (told t);
    had = λ t. tt;
    «length» = tt;
    entries = reads;
    faults = counts.later;
    cause = λ f. counts.cause (search (rules, f));
  })

  module _ (v : Unit {0}) (told : dev.Tells → Passes {T = Unit {0}} blob (Write (page_at P page + from) (drop from bytes)) (Ok v) (dev.time old) (dev.time mid)) (first_faults : dev.faults old ≤ dev.faults mid) (reads : NoReads blob (dev.opened old) (dev.opened mid)) (last : D) where
    slot_prefix : {r : Result (Unit {0}) DevError} → dev.Tells → Passes {T = Unit {0}} blob (Write (slot_at P page second) (slot_bytes seal P bytes)) r (dev.time mid) (dev.time last) → SparesPrefix (page_at P page) blob (dev.time old) (dev.time last)
    slot_prefix t passes = prefix_write (page_at P page) blob (dev.time old) (dev.time mid) (dev.time last) _ _ _ (omega (arith, slot_low P page second)) (data_prefix (told t)) passes

    slot_stays : {r : Result (Unit {0}) DevError} → dev.Tells → Passes {T = Unit {0}} blob (Write (slot_at P page second) (slot_bytes seal P bytes)) r (dev.time mid) (dev.time last) → SettlesNothing blob (dev.time old) (dev.time last)
    slot_stays t passes = settles_write blob (dev.time old) (dev.time mid) (dev.time last) _ _ _ (data_stays (told t)) passes

    slot_reads : (IsSome (dev.opened mid blob) → NoReads blob (dev.opened mid) (dev.opened last)) → NoReads blob (dev.opened old) (dev.opened last)
    slot_reads more = no_reads_then blob (dev.opened old) (dev.opened mid) (dev.opened last) reads (more (no_reads_open blob (dev.opened old) (dev.opened mid) reads))

    -- the slot is not written whole
    pub slot_failed : (r : Result ℕ DevError) (e : DevError) {x y : ℕ} → r ≡ Err e → Counted {T = Unit {0}} (Err e) (dev.faults mid) (dev.faults last) x y → (IsSome (dev.opened mid blob) → NoReads blob (dev.opened mid) (dev.opened last))
        → (dev.Tells → Passes {T = Unit {0}} blob (Write (slot_at P page second) (slot_bytes seal P bytes)) (Err e) (dev.time mid) (dev.time last)) → WritesPage dev seal P blob old last page from bytes second r
    slot_failed r e is counts more then = subst (WritesPage dev seal P blob old last page from bytes second) (sym is) (record {
      told = λ t all F L newest ready is at pick. record {
        any_moment = page_leaves seal P all F L newest blob (dev.time old) page from bytes second (begun all F L newest ready is at pick) (page_two seal P all F L newest blob (dev.time old) page from bytes second (begun all F L newest ready is at pick) (told t) (then t));
        done = tt;
      };
      wrote = λ t all was at. record { alone = alone_on (alone_on (alone_start (dev.time old) blob) (told t)) (then t); done = tt };
      covers = λ t all was at. tt;
      prefix = λ t. slot_prefix t (then t);
      stays = λ t. slot_stays t (then t);
      had = λ t. tt;
      «length» = tt;
      entries = slot_reads more;
      faults = omega (arith, first_faults, counts.later);
      cause = λ f. rose_since _ _ _ first_faults (counts.cause (search (rules, f)));
    })

    -- both are
    pub page_written : (u : Unit {0}) (end : ℕ) → IsOpenAt (dev.opened last) blob end → dev.faults mid ≤ dev.faults last → (IsSome (dev.opened mid blob) → NoReads blob (dev.opened mid) (dev.opened last))
        → (dev.Tells → Passes {T = Unit {0}} blob (Write (slot_at P page second) (slot_bytes seal P bytes)) (Ok u) (dev.time mid) (dev.time last)) → WritesPage dev seal P blob old last page from bytes second (Ok end)
    page_written u end opened faults more then = record {
      told = λ t all F L newest ready is at pick. record {
        any_moment = page_leaves seal P all F L newest blob (dev.time old) page from bytes second (begun all F L newest ready is at pick) (page_two seal P all F L newest blob (dev.time old) page from bytes second (begun all F L newest ready is at pick) (told t) (then t));
        done = page_ready seal P all F L newest blob (dev.time old) page from bytes second (begun all F L newest ready is at pick) (told t) (then t);
      };
      wrote = λ t all was at. record {
        alone = alone_on (alone_on (alone_start (dev.time old) blob) (told t)) (then t);
        done = page_wrote seal P all blob (dev.time old) page from bytes second new size at was (told t) (then t);
      };
      covers = λ t all was at. page_covers seal P all blob (dev.time old) page from bytes second fits small room new size at was (told t) (then t);
      prefix = λ t. slot_prefix t (then t);
      stays = λ t. slot_stays t (then t);
      had = λ t. had_write blob _ _ u (dev.time mid) (dev.time last) (then t);
      «length» = opened;
      entries = slot_reads more;
      faults = omega (arith, first_faults, faults);
      cause = λ f. absurd (cc f);
    }
