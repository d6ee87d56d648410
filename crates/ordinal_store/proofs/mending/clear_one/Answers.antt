use Rattle.std.proofs.Common.{◌≡◌, false, length, refl, sym, arith}
use Rattle.ordinal_store.specs.Mending.{is_marked}
use Rattle.ordinal_store.specs.Stores.{sight}
use Rattle.ordinal_store.proofs.ClearLemmas.{clear_kept, clear_wrote}
use Rattle.ordinal_store.proofs.MendingLemmas.{overflow_out}
use Rattle.ordinal_store.proofs.mending.clear_one.Goals as goal

pub returns-then-is_marked : goal.returns-then-is_marked
returns-then-is_marked g c = clear_kept g.D.Device.Tells (length c.args.zeros.now) c.args.bits.now (sight g.D.Device c.args.dev.now) c.args.buffer c.args.position (sym c.if-is_marked.ensures) c.requires.clearable

pub returns : goal.returns
returns g c =
    let unmarked : is_marked c.args.bits.now c.args.position ≡ false = sym c.if-is_marked.ensures in
    clear_wrote g.D.Device.Tells (length c.args.zeros.now) c.args.bits.now (sight g.D.Device c.args.dev.now) (sight g.D.Device c.write_at.new.dev) c.args.buffer c.args.position c.args.zeros.now refl c.requires.zeros unmarked c.requires.room c.requires.clearable
    c.write_at.ensures.spares c.write_at.ensures.since c.write_at.ensures.entries c.write_at.ensures.faults c.write_at.result
    c.write_at.ensures.same c.write_at.ensures.size c.write_at.ensures.run c.write_at.ensures.open c.write_at.ensures.over c.write_at.ensures.bytes
    (overflow_out c.write_at.result _ (λ over. absurd (omega (arith, c.write_at.ensures.overflow.0 over, c.requires.fits))) c.write_at.ensures.cause)
