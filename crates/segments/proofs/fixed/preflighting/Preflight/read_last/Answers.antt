use Rattle.std.proofs.Common.{◌≡◌, ◌-◌, ◌*◌, ◌+◌, ◌^◌, ◌<◌, ℕ, length, ap, arith}
use Rattle.blob_device.specs.Timeline.{disk}
use Rattle.sealed_pages.specs.Buffer.{key_of, size_of}
use Rattle.sealed_pages.specs.Shown.{shown}
use Rattle.segments.proofs.looking.Adopted.{read_ok, read_adopted, covered_adopted, short_adopted, passes_adopted}
use Rattle.segments.proofs.opened.FloorLemmas.{whole_end, read_cause}
use Rattle.segments.proofs.fixed.preflighting.Preflight.read_last.Goals as goal
use Rattle.blob_device.proofs.general.Results.{on_ok}

pub overflow_mul-items : goal.overflow_mul-items
overflow_mul-items g c = omega (arith, c.requires.fits, whole_end c.args.items g.A.CodecFixed.SIZE c.requires.some, ap (λ (n : ℕ). (c.args.items - 1) * n) c.SIZE.ensures)

pub returns : goal.returns
returns g c =
    let u = c.args.buffer.now in
    let blob = disk (g.D.Device.time c.args.dev.now) (key_of (shown c.args.buffer.now)) in
    let n = length c.args.bytes.now in
    let m = (c.args.items - 1) * c.SIZE.result in
    let at : m ≡ (c.args.items - 1) * g.A.CodecFixed.SIZE = ap (λ (n : ℕ). (c.args.items - 1) * n) c.SIZE.ensures in
    let end = whole_end c.args.items g.A.CodecFixed.SIZE c.requires.some in
    let fits : m + length c.args.bytes.now < 2 ^ 64 = omega (arith, c.requires.fits, end, at, c.requires.room) in
    record {
      bytes = λ t. read_ok c.read_at.result m n (size_of (shown u)) _ fits c.read_at.ensures.short.1
          (λ within. on_ok c.read_at.result (read_adopted g.S.Seal.seal_of u blob (c.requires.adopted t) g.A.CodecFixed.SIZE (c.args.items - 1) m n at c.requires.room within c.read_at.new.buf) (c.read_at.ensures.bytes t (λ _. (c.requires.adopted t).backed.cache)));
      checked = λ t. read_ok c.read_at.result m n (size_of (shown u)) _ fits c.read_at.ensures.short.1
          (λ within. on_ok c.read_at.result (covered_adopted g.S.Seal.seal_of u blob (c.requires.adopted t) g.A.CodecFixed.SIZE (c.args.items - 1) m n at c.requires.room within) (c.read_at.ensures.checked t (λ _. (c.requires.adopted t).backed.cache)));
      within = λ t. read_ok c.read_at.result m n (size_of (shown u)) _ fits c.read_at.ensures.short.1
          (λ within. on_ok c.read_at.result (λ covered. omega (arith, within, (c.requires.adopted t).size, at, c.requires.room, end)) (c.read_at.ensures.checked t (λ _. (c.requires.adopted t).backed.cache)));
      checksum = λ t k is. short_adopted g.S.Seal.seal_of u blob (c.requires.adopted t) g.A.CodecFixed.SIZE (c.args.items - 1) m n at c.requires.room k (c.read_at.ensures.checksum t k is);
      short = λ t is. passes_adopted g.S.Seal.seal_of u blob (c.requires.adopted t) g.A.CodecFixed.SIZE (c.args.items - 1) m n at c.requires.room (c.read_at.ensures.short.0 is).0 (c.read_at.ensures.short.0 is).1;
      unchanged = c.read_at.ensures.unchanged;
      entries = c.read_at.ensures.reads.others;
      «open» = c.read_at.ensures.reads.length _ c.requires.«open»;
      faults = c.read_at.ensures.faults;
      cause = read_cause c.read_at.result _ (g.D.Device.faults c.args.dev.now) (g.D.Device.faults c.read_at.new.dev) (λ over. omega (arith, c.read_at.ensures.overflow.0 over, end, at, c.requires.fits, c.requires.room)) c.read_at.ensures.cause;
    }
