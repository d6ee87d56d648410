-- The bytes are in memory, or read.
use Rattle.std.proofs.Common.{◌∙◌, ◌*◌, ℕ, Err, length, refl, sym, ap, arith}
use Rattle.blob_device.specs.Timeline.{disk}
use Rattle.blob_device.specs.declared.runtime.RError.TheVariants.{InvalidChecksum}
use Rattle.sealed_pages.specs.Buffer.{key_of, size_of, bytes_of}
use Rattle.sealed_pages.specs.Shown.{shown}
use Rattle.sealed_pages.specs.lemmas.Entries.{reads_more}
use Rattle.sealed_pages.specs.lemmas.looking.Looking.{unchanged_start}
use Rattle.sealed_pages.specs.lemmas.memory.Holding.{fit_size}
use Rattle.section_manager.specs.Raised.{raised}
use Rattle.segments.specs.lemmas.FixedErrors.{of_buffer, read_fails}
use Rattle.segments.proofs.looking.ItemReads.{no_reads}
use Rattle.segments.proofs.looking.Memory.{covered_item, told_held, held_covered, missing_most}
use Rattle.segments.proofs.looking.ReadLemmas.{read_item, short_item}
use Rattle.segments.proofs.fixed.Journal.fill_item.Goals as goal
use Rattle.blob_device.proofs.general.Numbers.{item_ends}
use Rattle.blob_device.proofs.general.Results.{err_of}

pub overflow_mul-offset : goal.overflow_mul-offset
overflow_mul-offset g c = omega (arith, item_ends g.A.CodecFixed.SIZE (size_of (shown c.args.buffer.now)) c.args.position c.requires.inside, fit_size _ _ _ _ c.args.buffer.now.fit, ap (λ (n : ℕ). c.args.position * n) c.SIZE.ensures)

pub returns-then-try_read_held : goal.returns-then-try_read_held
returns-then-try_read_held g c =
    let held = sym c.if-try_read_held.true ∙ told_held (shown c.args.buffer.now) g.A.CodecFixed.SIZE c.args.position (c.args.position * c.SIZE.result) (length c.args.bytes.now) (ap (λ (n : ℕ). c.args.position * n) c.SIZE.ensures) c.requires.room
    (omega (arith, c.args.buffer.now.fit.begun)) (item_ends g.A.CodecFixed.SIZE (size_of (shown c.args.buffer.now)) c.args.position c.requires.inside) c.try_read_held.result c.try_read_held.ensures.held in
    record {
      bytes = λ t holds. read_item c.args.buffer.now.page_size c.args.buffer.now.first g.A.CodecFixed.SIZE c.args.position (c.args.position * c.SIZE.result) (length c.args.bytes.now) (ap (λ (n : ℕ). c.args.position * n) c.SIZE.ensures) c.requires.room c.try_read_held.new.buf
          (bytes_of (shown c.args.buffer.now) (disk (g.D.Device.time c.args.dev.now) (key_of (shown c.args.buffer.now))).content) (c.try_read_held.ensures.bytes c.if-try_read_held.true _ (λ _. holds.cache));
      checked = λ t holds. held_covered g.S.Seal.seal_of (shown c.args.buffer.now) g.A.CodecFixed.SIZE c.args.position (disk (g.D.Device.time c.args.dev.now) (key_of (shown c.args.buffer.now))).content (omega (arith, c.args.buffer.now.fit.begun)) holds (sym held);
      damaged = λ t holds k is. absurd (cc is);
      held = held;
      idle = λ is. refl;
      unchanged = λ t. unchanged_start _;
      reads = no_reads _ _ _;
      faults = omega arith;
      cause = tt;
    }

pub returns-in_err-read_at : goal.returns-in_err-read_at
returns-in_err-read_at g c =
    let e = c.in_err-read_at.field-0.0 in
    let h = c.in_err-read_at.ensures in
    let within = item_ends g.A.CodecFixed.SIZE (size_of (shown c.args.buffer.now)) c.args.position c.requires.inside in
    let told = told_held (shown c.args.buffer.now) g.A.CodecFixed.SIZE c.args.position (c.args.position * c.SIZE.result) (length c.args.bytes.now) (ap (λ (n : ℕ). c.args.position * n) c.SIZE.ensures) c.requires.room (omega (arith, c.args.buffer.now.fit.begun)) within c.try_read_held.result c.try_read_held.ensures.held in
    rw (err_of c.from_residual.result _ c.from_residual.ensures.1) record {
      bytes = λ t holds. tt;
      checked = λ t holds. tt;
      damaged = λ t holds k is.
          let same = of_buffer (Err (raised e)) e (InvalidChecksum k) refl is in
          short_item c.args.buffer.now.page_size c.args.buffer.now.first g.A.CodecFixed.SIZE c.args.position (c.args.position * c.SIZE.result) (length c.try_read_held.new.buf) (ap (λ (n : ℕ). c.args.position * n) c.SIZE.ensures) (c.try_read_held.auto.buf ∙ c.requires.room) g.S.Seal.seal_of (disk (g.D.Device.time c.args.dev.now) (key_of (shown c.args.buffer.now))).content k (h.checksum t k (cc same));
      held = tt;
      idle = λ held. absurd (cc (sym c.if-try_read_held.false ∙ told ∙ held));
      unchanged = h.unchanged;
      reads = reads_more _ _ _ _ _ (missing_most (shown c.args.buffer.now) (c.args.position * c.SIZE.result) (length c.try_read_held.new.buf) (omega (arith, c.args.buffer.now.fit.begun)) g.A.CodecFixed.SIZE (omega (arith, (c.try_read_held.auto.buf ∙ c.requires.room)))) h.reads;
      faults = h.faults;
      cause = read_fails (Err (raised e)) {U = Unit {0}} e _ (g.D.Device.faults c.args.dev.now) (g.D.Device.faults c.read_at.new.dev) refl
          (λ over. omega (arith, h.overflow.0 over, within, fit_size _ _ _ _ c.args.buffer.now.fit, (ap (λ (n : ℕ). c.args.position * n) c.SIZE.ensures), (c.try_read_held.auto.buf ∙ c.requires.room))) (λ short. omega (arith, (h.short.0 short).1, within, (ap (λ (n : ℕ). c.args.position * n) c.SIZE.ensures), (c.try_read_held.auto.buf ∙ c.requires.room))) h.cause;
    }

pub returns : goal.returns
returns g c =
    let h = c.in_ok-read_at.ensures in
    let out = sym c.if-try_read_held.false ∙ told_held (shown c.args.buffer.now) g.A.CodecFixed.SIZE c.args.position (c.args.position * c.SIZE.result) (length c.args.bytes.now) (ap (λ (n : ℕ). c.args.position * n) c.SIZE.ensures) c.requires.room
    (omega (arith, c.args.buffer.now.fit.begun)) (item_ends g.A.CodecFixed.SIZE (size_of (shown c.args.buffer.now)) c.args.position c.requires.inside) c.try_read_held.result c.try_read_held.ensures.held in
    record {
      bytes = λ t holds. read_item c.args.buffer.now.page_size c.args.buffer.now.first g.A.CodecFixed.SIZE c.args.position (c.args.position * c.SIZE.result) (length c.try_read_held.new.buf) (ap (λ (n : ℕ). c.args.position * n) c.SIZE.ensures) (c.try_read_held.auto.buf ∙ c.requires.room) c.read_at.new.buf
          (bytes_of (shown c.args.buffer.now) (disk (g.D.Device.time c.args.dev.now) (key_of (shown c.args.buffer.now))).content) (h.bytes t (λ _. holds.cache));
      checked = λ t holds. covered_item g.S.Seal.seal_of (disk (g.D.Device.time c.args.dev.now) (key_of (shown c.args.buffer.now))).content (shown c.args.buffer.now) g.A.CodecFixed.SIZE c.args.position (c.args.position * c.SIZE.result) (length c.try_read_held.new.buf) (ap (λ (n : ℕ). c.args.position * n) c.SIZE.ensures) (c.try_read_held.auto.buf ∙ c.requires.room) (h.checked t (λ _. holds.cache));
      damaged = λ t holds k is. absurd (cc is);
      held = out;
      idle = λ held. absurd (cc (out ∙ held));
      unchanged = h.unchanged;
      reads = reads_more _ _ _ _ _ (missing_most (shown c.args.buffer.now) (c.args.position * c.SIZE.result) (length c.try_read_held.new.buf) (omega (arith, c.args.buffer.now.fit.begun)) g.A.CodecFixed.SIZE (omega (arith, (c.try_read_held.auto.buf ∙ c.requires.room)))) h.reads;
      faults = h.faults;
      cause = tt;
    }
