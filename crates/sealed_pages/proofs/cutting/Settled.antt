-- A change of a blob, and then its settling: what holds of both, whatever the change is.
use Rattle.std.proofs.Common.{◌≡◌, ℕ, ◌≤◌, Result, Ok, Err, sym, subst, arith, rules}
use Rattle.blob_device.specs.Change.{Change, Settle}
use Rattle.blob_device.specs.Counts.{Rose, Counted}
use Rattle.blob_device.specs.Disk.{Key}
use Rattle.blob_device.specs.Timeline.{Passes}
use Rattle.blob_device.specs.declared.device.Device as device
use Rattle.blob_device.specs.declared.error.DevError.{DevError}
use Rattle.blob_device.specs.declared.error.DevError.TheVariants.{Fault}
use Rattle.sealed_pages.specs.Entries.{NoReads}
use Rattle.sealed_pages.specs.Flushing.{Alone}
use Rattle.sealed_pages.specs.Unrecovered.{SparesPrefix}
use Rattle.sealed_pages.specs.lemmas.Entries.{no_reads_then, no_reads_same, no_reads_open}
use Rattle.sealed_pages.specs.lemmas.Prefixes.{prefix_settle}
use Rattle.sealed_pages.specs.lemmas.cutting.Truncating.{rose_since}
use Rattle.sealed_pages.proofs.slots.PageCalls.{alone_start, alone_on}

-- no other blob changes, the bytes before `low` stand, no read began, and a fault that is told is counted
pub record Steps {D T : Type 0} (dev : device.Ghosts D) (blob : Key) (low : ℕ) (old new : D) (result : Result T DevError) : Type 0 where
  pub alone : dev.Tells → Alone blob (dev.time old) (dev.time new)
  pub prefix : dev.Tells → SparesPrefix low blob (dev.time old) (dev.time new)
  pub entries : NoReads blob (dev.opened old) (dev.opened new)
  pub faults : dev.faults old ≤ dev.faults new
  pub cause : result ≡ Err Fault → Rose (dev.faults old) (dev.faults new)

module _ {D : Type 0} (dev : device.Ghosts D) (blob : Key) (low : ℕ) (old mid : D) (change : Change) where
  -- the change fails
  pub not_changed : {T : Type 0} (r : Result T DevError) (e : DevError) {x y : ℕ} → r ≡ Err e → Counted {T = Unit {0}} (Err e) (dev.faults old) (dev.faults mid) x y → NoReads blob (dev.opened old) (dev.opened mid)
      → (dev.Tells → SparesPrefix low blob (dev.time old) (dev.time mid)) → (dev.Tells → Passes {T = Unit {0}} blob change (Err e) (dev.time old) (dev.time mid)) → Steps dev blob low old mid r
  not_changed {T = T} r e is counts reads spares told = subst (λ (x : Result T DevError). Steps dev blob low old mid x) (sym is) (record {
    alone = λ t. alone_on (alone_start (dev.time old) blob) (told t);
    prefix = spares;
    entries = reads;
    faults = counts.later;
    cause = λ f. counts.cause (search (rules, f));
  })

  module _ (v : Unit {0}) (later : dev.faults old ≤ dev.faults mid) (reads : NoReads blob (dev.opened old) (dev.opened mid)) (spares : dev.Tells → SparesPrefix low blob (dev.time old) (dev.time mid))
      (told : dev.Tells → Passes {T = Unit {0}} blob change (Ok v) (dev.time old) (dev.time mid)) (new : D) (same : dev.opened new ≡ dev.opened mid) where
    both_reads : NoReads blob (dev.opened old) (dev.opened new)
    both_reads = no_reads_then blob (dev.opened old) (dev.opened mid) (dev.opened new) reads (no_reads_same blob (dev.opened mid) (dev.opened new) same (no_reads_open blob (dev.opened old) (dev.opened mid) reads))

    -- it does not settle
    pub not_settled : {T : Type 0} (r : Result T DevError) (e : DevError) {x y : ℕ} → r ≡ Err e → Counted {T = Unit {0}} (Err e) (dev.faults mid) (dev.faults new) x y
        → (dev.Tells → Passes {T = Unit {0}} blob Settle (Err e) (dev.time mid) (dev.time new)) → Steps dev blob low old new r
    not_settled {T = T} r e is counts then = subst (λ (x : Result T DevError). Steps dev blob low old new x) (sym is) (record {
      alone = λ t. alone_on (alone_on (alone_start (dev.time old) blob) (told t)) (then t);
      prefix = λ t. prefix_settle low blob (dev.time old) (dev.time mid) (dev.time new) _ (spares t) (then t);
      entries = both_reads;
      faults = omega (arith, later, counts.later);
      cause = λ f. rose_since _ _ _ later (counts.cause (search (rules, f)));
    })

    -- it does
    pub is_settled : {T : Type 0} (x : T) {u : Unit {0}} → dev.faults mid ≤ dev.faults new → (dev.Tells → Passes {T = Unit {0}} blob Settle (Ok u) (dev.time mid) (dev.time new)) → Steps {T = T} dev blob low old new (Ok x)
    is_settled x faults then = record {
      alone = λ t. alone_on (alone_on (alone_start (dev.time old) blob) (told t)) (then t);
      prefix = λ t. prefix_settle low blob (dev.time old) (dev.time mid) (dev.time new) _ (spares t) (then t);
      entries = both_reads;
      faults = omega (arith, later, faults);
      cause = λ f. absurd (cc f);
    }
