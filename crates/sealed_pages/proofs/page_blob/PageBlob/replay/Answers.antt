use Rattle.std.proofs.Common.{rules, ◌≡◌, ◌<◌, ◌^◌, ◌%◌, ℕ, length, ap, sym, subst, arith, Ok, Err}
use Rattle.blob_device.specs.Disk.{Key}
use Rattle.sealed_pages.specs.Buffer.{extent}
use Rattle.sealed_pages.specs.Readers.{reading}
use Rattle.sealed_pages.specs.Replays.{Begins}
use Rattle.sealed_pages.specs.Shown.{shown}
use Rattle.sealed_pages.proofs.memory.MemoryLemmas.{tip_rest}
use Rattle.sealed_pages.proofs.Replaying.{not_replaying, replaying}
use Rattle.sealed_pages.proofs.cutting.Truncating.{raised_cause}
use Rattle.sealed_pages.proofs.page_blob.PageBlob.replay.Goals as goal

pub new-requires-clause-some : goal.new-requires-clause-some
new-requires-clause-some g c = omega (arith, c.blob.ensures.page_size, c.in_ok-this.this.fit.begun)

pub new-requires-clause-room : goal.new-requires-clause-room
new-requires-clause-room g c = subst (λ (n : ℕ). extent n c.size.result < 2 ^ 64) (sym c.blob.ensures.page_size) (search rules)

pub new-requires-clause-tip : goal.new-requires-clause-tip
new-requires-clause-tip g c =
    let same : c.in_ok-tip.tip.items ≡ c.in_ok-this.this.tip.items = search rules in
    subst (λ (n : ℕ). length c.in_ok-tip.tip.items ≡ c.size.result % n) (sym c.blob.ensures.page_size)
    (tip_rest c.in_ok-this.this.page_size c.in_ok-this.this.first c.size.result (length c.in_ok-tip.tip.items) (omega (arith, ap length same, c.in_ok-this.ensures.flushed, c.in_ok-this.this.fit.begun)) (omega (arith, ap length same, c.size.ensures)))

pub returns-in_err-this : goal.returns-in_err-this
returns-in_err-this g c = not_replaying g.D.Device g.S.Seal.seal_of (shown c.args.self) c.args.dev.now c.flush.new.dev shown reading c.flush.result c.from_residual.result c.flush.ensures c.from_residual.ensures.0
    (raised_cause c.from_residual.result c.in_err-this.field-0.0 (g.D.Device.faults c.args.dev.now) (g.D.Device.faults c.flush.new.dev) c.from_residual.ensures.1 (λ is. c.in_err-this.ensures.cause (ap Err is)))

pub returns-in_err-tip : goal.returns-in_err-tip
returns-in_err-tip g c = not_replaying g.D.Device g.S.Seal.seal_of (shown c.args.self) c.args.dev.now c.flush.new.dev shown reading c.flush.result c.from_residual-in_err-tip.result c.flush.ensures c.from_residual-in_err-tip.ensures.0 (search rules)

pub returns-in_err-replay : goal.returns-in_err-replay
returns-in_err-replay g c = not_replaying g.D.Device g.S.Seal.seal_of (shown c.args.self) c.args.dev.now c.flush.new.dev shown reading c.flush.result c.from_residual-in_err-replay.result c.flush.ensures c.from_residual-in_err-replay.ensures.0 (search rules)

pub returns : goal.returns
returns g c =
    replaying g.D.Device g.S.Seal.seal_of (shown c.args.self) c.args.dev.now c.flush.new.dev shown reading c.in_ok-this.this c.in_ok-replay.replay c.size.result c.in_ok-tip.tip.items c.args.self.fit.begun c.in_ok-this.this.fit.begun c.in_ok-this.ensures
    (subst (λ (x : Key × (ℕ × ℕ)). Begins g.S.Seal.seal_of reading x.0 x.1.0 x.1.1 c.size.result c.in_ok-tip.tip.items (Ok c.in_ok-replay.replay)) (λ j. (c.blob.ensures.key j, (c.blob.ensures.page_size j, c.blob.ensures.end j))) c.in_ok-replay.ensures)
    c.size.ensures (search rules)
