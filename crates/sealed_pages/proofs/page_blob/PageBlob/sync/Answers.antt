use Rattle.std.proofs.Common.{◌≡◌, ◌≢◌, ◌∙◌, ◌<◌, string_bytes, arith, ap, refl, Result, Ok, Err}
use Rattle.blob_device.specs.Change.{Settle}
use Rattle.blob_device.specs.Disk.{Key}
use Rattle.blob_device.specs.Timeline.{Passes}
use Rattle.blob_device.specs.declared.error.DevError.{DevError}
use Rattle.sealed_pages.specs.Buffer.{key_of, size_of}
use Rattle.sealed_pages.specs.Flushing.{last_slot}
use Rattle.sealed_pages.specs.Shown.{shown}
use Rattle.sealed_pages.specs.SlotNames.{is_b}
use Rattle.sealed_pages.proofs.memory.Holding.{settle_as, fit_room}
use Rattle.sealed_pages.proofs.Syncing.{needs}
use Rattle.sealed_pages.proofs.SyncEnds.{sync_idle, sync_unflushed, sync_failed, synced}
use Rattle.sealed_pages.proofs.cutting.Truncating.{no_need, raised_cause}
use Rattle.sealed_pages.proofs.page_blob.PageBlob.sync.Given as given
use Rattle.sealed_pages.proofs.page_blob.PageBlob.sync.Goals as goal
use Rattle.sealed_pages.proofs.page_blob.PageBlob.sync.Goals.{After-flush, After-sync, After-last_slot_of-slot}
use Rattle.sealed_pages.specs.lemmas.cutting.Truncating.{rose_since}

pub last_slot_of-slot-requires : goal.last_slot_of-slot-requires
last_slot_of-slot-requires g c some = fit_room _ _ _ _ c.in_ok-this.this.fit c.in_ok-this.this.first (omega (arith, some, c.in_ok-this.this.fit.within))

pub returns-then-not-needs_sync : goal.returns-then-not-needs_sync
returns-then-not-needs_sync g c = sync_idle g.D.Device g.S.Seal.seal_of shown c.args.dev.now c.args.self c.args.self.fit.begun c.args.self.fit.within c.args.self.order c.args.self.few
    (no_need c.args.self.settled (size_of (shown c.args.self)) c.needs_sync.result c.needs_sync.ensures c.if-not-needs_sync.true) c.requires.«open»

unsettled : (g : given.Over) (c : After-flush g) → c.args.self.settled ≢ size_of (shown c.args.self)
unsettled g c = needs c.args.self.settled (size_of (shown c.args.self)) c.needs_sync.result c.needs_sync.ensures c.if-not-needs_sync.false

pub returns-in_err-this : goal.returns-in_err-this
returns-in_err-this g c = sync_unflushed g.D.Device g.S.Seal.seal_of shown (shown c.args.self) (unsettled g (goal.at.returns-in_err-this g c).After-flush) c.args.dev.now _ _ _ c.from_residual.ensures.1 c.in_err-this.ensures

-- the device settles the buffer's blob
settles : (g : given.Over) (c : After-sync g) (r : Result (Unit {0}) DevError) → Passes (c.as_str.result.now, c.as_slice.result.now) Settle r (g.D.Device.time c.flush.new.dev) (g.D.Device.time c.sync.new.self)
    → Passes (key_of (shown c.args.self)) Settle r (g.D.Device.time c.flush.new.dev) (g.D.Device.time c.sync.new.self)
settles g c r told = settle_as r _ (string_bytes c.args.self.partition) _ c.args.self.name.items (g.D.Device.time c.flush.new.dev) (g.D.Device.time c.sync.new.self) (c.as_str.ensures.value ∙ ap (λ (k : Key). k.0) c.in_ok-this.ensures.key)
    (c.as_slice.ensures.value ∙ ap (λ (k : Key). k.1) c.in_ok-this.ensures.key) told

pub returns-in_err-sync : goal.returns-in_err-sync
returns-in_err-sync g c = sync_failed g.D.Device g.S.Seal.seal_of shown (shown c.args.self) (unsettled g (goal.at.returns-in_err-sync g c).After-flush) c.args.dev.now c.flush.new.dev c.sync.new.self c.in_ok-this.this c.in_ok-this.this.fit.begun c.in_ok-this.ensures
    c.sync.result (λ t. settles g (goal.at.returns-in_err-sync g c).After-sync c.sync.result (c.sync.ensures.told t)) c.sync.ensures.opened c.sync.ensures.counts.later c.from_residual-in_err-sync.result c.from_residual-in_err-sync.ensures.0
    (raised_cause c.from_residual-in_err-sync.result c.in_err-sync.field-0.0 (g.D.Device.faults c.args.dev.now) (g.D.Device.faults c.sync.new.self) c.from_residual-in_err-sync.ensures.1
    (λ is. rose_since (g.D.Device.faults c.args.dev.now) (g.D.Device.faults c.flush.new.dev) (g.D.Device.faults c.sync.new.self) c.in_ok-this.ensures.faults (c.in_err-sync.ensures.counts.cause (ap Err is))))

-- the slot that covers the end then
picked : (g : given.Over) (c : After-last_slot_of-slot g) → 0 < c.in_ok-this.this.from
    → is_b c.last_slot_of-slot.result ≡ last_slot c.in_ok-this.this.page_size c.flushed-end.result c.in_ok-this.this.settled (is_b c.in_ok-this.this.newest) c.in_ok-this.this.first
picked g c some = c.last_slot_of-slot.ensures some ∙ (λ i. last_slot c.in_ok-this.this.page_size c.flushed-end.result (c.settled_end-settled.ensures.len i) (is_b (c.settled_end-settled.ensures.slot i)) c.in_ok-this.this.first)

pub returns : goal.returns
returns g c = synced g.D.Device g.S.Seal.seal_of shown (shown c.args.self) (unsettled g (goal.at.returns g c).After-flush) c.args.dev.now c.flush.new.dev c.sync.new.self c.in_ok-this.this c.in_ok-this.this.fit.begun c.in_ok-this.ensures
    (λ t. settles g (goal.at.returns g c).After-sync (Ok tt) (c.in_ok-sync.ensures.told t)) c.sync.ensures.opened c.sync.ensures.counts.later _ c.flushed-end.result (is_b c.last_slot_of-slot.result) refl c.flushed-end.ensures (picked g (goal.at.returns g c).After-last_slot_of-slot) c.args.self.fit.within
