use Rattle.std.proofs.Common.{◌+◌, ◌*◌, ◌/◌, ◌<◌, ◌≤◌, ℕ, length, refl, subst, arith}
use Rattle.sealed_pages.specs.unsealed.Writing.{shown, size_of}
use Rattle.ordinal_store.specs.Stores.{sight}
use Rattle.ordinal_store.proofs.ClearLemmas.{clear_all, clear_failed, clear_start, clear_then, room_below}
use Rattle.ordinal_store.proofs.mending.clear_unmarked.Goals as goal
use Rattle.blob_device.proofs.general.Results.{err_of}

pub loop-position-init : goal.loop-position-init
loop-position-init g c = clear_start g.D.Device.Tells (length c.args.zeros.now) c.args.bits.now (sight g.D.Device c.args.dev.now) c.args.buffer c.requires.clearable

pub clear_one-requires : goal.clear_one-requires
clear_one-requires g c =
    let far = c.loop-position.invariant in
    let below : c.loop-position.position < size_of (shown c.args.buffer) / (length c.args.zeros.now) =
    subst (λ (n : ℕ). c.loop-position.position < n / (length c.args.zeros.now)) c.size.ensures c.loop-position-test.true in
    let room : c.loop-position.position * (length c.args.zeros.now) + (length c.args.zeros.now) ≤ size_of (shown c.args.buffer) = room_below c.loop-position.position (length c.args.zeros.now) (size_of (shown c.args.buffer)) c.requires.some below in
    record {
      clearable = far.clearable;
      zeros = c.requires.zeros;
      room = omega (arith, room, far.same.long);
      fits = omega (arith, room, c.size.ensures, c.size.type_inv);
    }

pub returns-in_err-buffer : goal.returns-in_err-buffer
returns-in_err-buffer g c =
    clear_failed g.D.Device.Tells (length c.args.zeros.now) c.args.bits.now 0 c.loop-position.position (omega arith) c.args.buffer c.loop-position.buffer (sight g.D.Device c.args.dev.now) (sight g.D.Device c.loop-position.dev) (sight g.D.Device c.clear_one.new.dev)
    c.loop-position.invariant (c.loop-position.position + 1) _ c.in_err-buffer.field-0.0 c.from_residual.result (err_of c.from_residual.result c.in_err-buffer.field-0.0 c.from_residual.ensures.1) c.in_err-buffer.ensures

pub loop-position-preserved : goal.loop-position-preserved
loop-position-preserved g c =
    clear_then g.D.Device.Tells (length c.args.zeros.now) c.args.bits.now 0 c.loop-position.position (omega arith) c.args.buffer c.loop-position.buffer (sight g.D.Device c.args.dev.now) (sight g.D.Device c.loop-position.dev) (sight g.D.Device c.clear_one.new.dev)
    c.loop-position.invariant (c.loop-position.position + 1) c.in_ok-buffer.buffer (omega arith) c.in_ok-buffer.ensures

pub returns : goal.returns
returns g c =
    let over : size_of (shown c.args.buffer) / (length c.args.zeros.now) ≤ c.loop-position.position =
    subst (λ (n : ℕ). n / (length c.args.zeros.now) ≤ c.loop-position.position) c.size.ensures c.loop-position-test.false in
    clear_all g.D.Device.Tells (length c.args.zeros.now) c.args.bits.now (sight g.D.Device c.args.dev.now) (sight g.D.Device c.loop-position.dev) c.args.buffer c.loop-position.buffer _ c.loop-position.position c.requires.some refl over c.requires.clearable.long c.loop-position.invariant
