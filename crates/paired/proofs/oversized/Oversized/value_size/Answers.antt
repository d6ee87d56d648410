use Rattle.std.proofs.Common.{◌≡◌, ◌⊎◌, inl, inr, ℕ, ◌+◌, ◌-◌, ◌/◌, ◌^◌, ◌≤◌, false, slice_get, Option, IsSomeAnd, Err, refl, sym, ◌∙◌, ap, arith}
use Rattle.blob_device.specs.Timeline.{disk}
use Rattle.blob_device.specs.declared.runtime.RError.TheVariants.{InvalidChecksum}
use Rattle.sealed_pages.specs.Buffer.{size_of}
use Rattle.sealed_pages.specs.Shown as page_blob
use Rattle.paired.specs.lemmas.pair.Reads.{last_place, may_read, no_length, place_of, sound_empty, sound_end}
use Rattle.sealed_pages.specs.lemmas.looking.Looking.{unchanged_now, unchanged_start}
use Rattle.section_manager.specs.declared.journal.Error.TheVariants.{AlreadyPrunedToSection, Runtime, Codec, OffsetOverflow}
use Rattle.section_manager.specs.declared.journal.Error.{Error}
use Rattle.segments.specs.FixedReading.{is_item_held, IsAbsent}
use Rattle.std.specs.Result.{IsErrOf}
use Rattle.section_manager.specs.Sections.{key_of}
use Rattle.segments.specs.lemmas.FixedErrors.{of_error}
use Rattle.paired.specs.glob.Sections as glob
use Rattle.paired.specs.Pair.{list_of, length_of}
use Rattle.paired.specs.PairShown.{shown}
use Rattle.paired.proofs.pair.Reads.{has_last, sum_answered, sum_refused, damaged_last, no_item, pair_read}
use Rattle.paired.proofs.pair.Failing.{no_error}
use Rattle.paired.proofs.pair.Passing.{no_value, pruned_cause, pruned_else, last_cause, last_overflow, sum_error, sum_cause, reads_still, not_empty}
use Rattle.paired.proofs.pair.Pruned.{pruned_as}
use Rattle.paired.proofs.oversized.Oversized.value_size.Goals as goal
use Rattle.blob_device.proofs.general.Results.{err_of}

pub returns-in_err-size : goal.returns-in_err-size
returns-in_err-size g c =
    let r = c.from_residual.result in
    let e = c.in_err-size.field-0.0 in
    let is = err_of r e c.from_residual.ensures.1 in
    record {
      end = λ t. no_value _ _ c.from_residual.ensures.0;
      sound = λ t sound. no_value _ _ c.from_residual.ensures.0;
      none = no_value _ _ c.from_residual.ensures.0;
      guard = pruned_as r e _ _ is c.in_err-size.ensures.guard;
      damaged = λ t k bad. absurd (pruned_else r e _ is c.in_err-size.ensures.cause (Runtime (InvalidChecksum k)) (λ same. cc same) bad);
      refused = λ t x bad. absurd (pruned_else r e _ is c.in_err-size.ensures.cause (Codec x) (λ same. cc same) bad);
      overflow = λ t bad. absurd (pruned_else r e _ is c.in_err-size.ensures.cause OffsetOverflow (λ same. cc same) bad);
      reads = reads_still _ _ _;
      idle = λ zero. refl;
      over = c.requires;
      unchanged = λ t. unchanged_start _;
      faults = omega arith;
      cause = pruned_cause r e _ is c.in_err-size.ensures.cause _;
    }

pub returns-then-branch-eq0 : goal.returns-then-branch-eq0
returns-then-branch-eq0 g c =
    let p = shown g.I.Record.place c.args.self.now in
    let d = disk (g.D.Device.time c.args.dev.now) in
    let empty = no_length p d c.args.section g.met.I.CodecFixed.fixed.at_least (sym c.in_ok-size.ensures.size ∙ c.if-branch-eq0.true) in
    record {
      end = λ t. inr (empty, refl);
      sound = λ t sound. sym (sound_empty p d c.args.section sound empty);
      none = λ zero. refl;
      guard = (λ pruned. absurd (no_error _ _ pruned), λ below. absurd (no_error _ _ (c.in_ok-size.ensures.guard.1 below)));
      damaged = λ t k bad. absurd (no_error _ _ bad);
      refused = λ t x bad. absurd (no_error _ _ bad);
      overflow = λ t bad. absurd (no_error _ _ bad);
      reads = reads_still _ _ _;
      idle = λ zero. refl;
      over = c.requires;
      unchanged = λ t. unchanged_start _;
      faults = omega arith;
      cause = tt;
    }

pub returns-in_err-record : goal.returns-in_err-record
returns-in_err-record g c =
    let p = shown g.I.Record.place c.args.self.now in
    let d = disk (g.D.Device.time c.args.dev.now) in
    let m = p.index.sections in
    let s = c.args.section in
    let r = c.from_residual-in_err-record.result in
    let e = c.in_err-record.field-0.0 in
    let is = err_of r e c.from_residual-in_err-record.ensures.1 in
    let none_read = no_item m _ d c.requires.index.over g.I.CodecFixed.SIZE s 0 (λ u. is_item_held g.I.CodecFixed.SIZE u (size_of (page_blob.shown u) / g.I.CodecFixed.SIZE - 1) ≡ false) in
    let read = may_read m s (g.I.CodecFixed.SIZE / m.factory.pages.page_size + 2) (key_of m s) (g.D.Device.opened c.args.dev.now) (g.D.Device.opened c.last.new.dev) c.last.ensures.reads (λ none. ap g.D.Device.opened (c.last.ensures.idle (none_read (inr (inl none))))) in
    let held : IsAbsent {T = Option g.row.I.Denot} (Err e) s → ⊥ = λ absent. not_empty m s (λ zero. omega (arith, zero, c.in_ok-size.ensures.size, c.if-branch-eq0.false)) (c.in_err-record.ensures.absent.0 absent).1 in
    record {
      end = λ t. no_value _ _ c.from_residual-in_err-record.ensures.0;
      sound = λ t sound. no_value _ _ c.from_residual-in_err-record.ensures.0;
      none = no_value _ _ c.from_residual-in_err-record.ensures.0;
      guard = pruned_as r e _ _ is c.in_err-record.ensures.guard;
      damaged = λ t k bad. damaged_last m g.I.CodecFixed.SIZE g.S.Seal.seal_of (d (key_of m s)).content s k (c.in_err-record.ensures.damaged t k (ap Err (of_error r e (Runtime (InvalidChecksum k)) c.from_residual-in_err-record.ensures.1 bad)));
      refused = λ t x bad. c.in_err-record.ensures.refused t x (ap Err (of_error r e (Codec x) c.from_residual-in_err-record.ensures.1 bad));
      overflow = λ t bad. absurd (last_overflow r e s _ _ _ is held c.in_err-record.ensures.cause bad);
      reads = read;
      idle = λ zero. c.last.ensures.idle (none_read (inr (inr (omega (arith, zero)))));
      over = pair_read p _ _ _ _ _ _ c.requires read (λ t. unchanged_now _ _ (c.last.ensures.unchanged t));
      unchanged = c.last.ensures.unchanged;
      faults = c.last.ensures.faults;
      cause = last_cause r e s _ _ _ is held c.in_err-record.ensures.cause _;
    }

pub returns-in_default : goal.returns-in_default
returns-in_default g c =
    let p = shown g.I.Record.place c.args.self.now in
    let d = disk (g.D.Device.time c.args.dev.now) in
    let m = p.index.sections in
    let s = c.args.section in
    let empty = c.in_ok-record.ensures.none.0 c.in_default.is in
    let none_read = no_item m _ d c.requires.index.over g.I.CodecFixed.SIZE s 0 (λ u. is_item_held g.I.CodecFixed.SIZE u (size_of (page_blob.shown u) / g.I.CodecFixed.SIZE - 1) ≡ false) in
    let read = may_read m s (g.I.CodecFixed.SIZE / m.factory.pages.page_size + 2) (key_of m s) (g.D.Device.opened c.args.dev.now) (g.D.Device.opened c.last.new.dev) c.last.ensures.reads (λ none. ap g.D.Device.opened (c.last.ensures.idle (none_read (inr (inl none))))) in
    record {
      end = λ t. inr (empty, refl);
      sound = λ t sound. sym (sound_empty p d s sound empty);
      none = λ zero. refl;
      guard = (λ pruned. absurd (no_error _ _ pruned), λ below. absurd (no_error _ _ (c.in_ok-size.ensures.guard.1 below)));
      damaged = λ t k bad. absurd (no_error _ _ bad);
      refused = λ t x bad. absurd (no_error _ _ bad);
      overflow = λ t bad. absurd (no_error _ _ bad);
      reads = read;
      idle = λ zero. c.last.ensures.idle (none_read (inr (inr (omega (arith, zero)))));
      over = pair_read p _ _ _ _ _ _ c.requires read (λ t. unchanged_now _ _ (c.last.ensures.unchanged t));
      unchanged = c.last.ensures.unchanged;
      faults = c.last.ensures.faults;
      cause = tt;
    }

pub returns : goal.returns
returns g c =
    let p = shown g.I.Record.place c.args.self.now in
    let d = disk (g.D.Device.time c.args.dev.now) in
    let m = p.index.sections in
    let s = c.args.section in
    let sum : ℕ = c.value_location-offset.result.0 + c.from.result in
    let some = has_last c.in_ok-record.field-0 c.in-Some.record (length_of p s) c.in-Some.is c.in_ok-record.ensures.none in
    let here = λ (t : g.D.Device.Tells). c.value_location-offset.ensures ∙ place_of p d s g.I.Codec.spelling g.I.Codec.accepted g.I.Record.location g.met.I.Record.spelled c.in-Some.record (c.in_ok-record.ensures.item t c.in-Some.record c.in-Some.is) in
    let error : (x : Error) → IsErrOf c.ok_or.result x → c.ok_or.result ≡ Err OffsetOverflow = λ x. sum_error c.checked_add.result OffsetOverflow x c.ok_or.result c.ok_or.ensures.value in
    let none_read = no_item m _ d c.requires.index.over g.I.CodecFixed.SIZE s 0 (λ u. is_item_held g.I.CodecFixed.SIZE u (size_of (page_blob.shown u) / g.I.CodecFixed.SIZE - 1) ≡ false) in
    let read = may_read m s (g.I.CodecFixed.SIZE / m.factory.pages.page_size + 2) (key_of m s) (g.D.Device.opened c.args.dev.now) (g.D.Device.opened c.last.new.dev) c.last.ensures.reads (λ none. ap g.D.Device.opened (c.last.ensures.idle (none_read (inr (inl none))))) in
    record {
      end = λ t. sum_answered c.checked_add.result OffsetOverflow c.ok_or.result sum
          (λ n. IsSomeAnd (slice_get (list_of p d s) (length_of p s - 1)) (λ e. n ≡ (g.I.Record.place e.stored).0 + (g.I.Record.place e.stored).1) ⊎ ((length_of p s ≡ 0) × (n ≡ 0)))
          c.checked_add.ensures c.ok_or.ensures.value
          (inl (last_place p d s (λ w. sum ≡ w.0 + w.1) some (omega (arith, c.from.ensures, ap (λ (w : ℕ × ℕ). w.0) (here t), ap (λ (w : ℕ × ℕ). w.1) (here t)))));
      sound = λ t sound. sum_answered c.checked_add.result OffsetOverflow c.ok_or.result sum (λ n. n ≡ glob.section_size p.values s) c.checked_add.ensures c.ok_or.ensures.value
          (omega (arith, c.from.ensures, ap (λ (w : ℕ × ℕ). w.0) (here t), ap (λ (w : ℕ × ℕ). w.1) (here t), sound_end p d s sound some));
      none = sum_answered c.checked_add.result OffsetOverflow c.ok_or.result sum (λ n. length_of p s ≡ 0 → n ≡ 0) c.checked_add.ensures c.ok_or.ensures.value (λ zero. absurd (omega (arith, zero, some)));
      guard = (λ pruned. absurd (cc (error (AlreadyPrunedToSection m.floor) pruned, pruned)), λ below. absurd (no_error _ _ (c.in_ok-size.ensures.guard.1 below)));
      damaged = λ t k bad. absurd (cc (error (Runtime (InvalidChecksum k)) bad, bad));
      refused = λ t x bad. absurd (cc (error (Codec x) bad, bad));
      overflow = λ t bad. last_place p d s (λ w. 2 ^ 64 ≤ w.0 + w.1) some
          (omega (arith, c.from.ensures, ap (λ (w : ℕ × ℕ). w.0) (here t), ap (λ (w : ℕ × ℕ). w.1) (here t), sum_refused c.checked_add.result OffsetOverflow OffsetOverflow c.ok_or.result sum c.checked_add.ensures c.ok_or.ensures.value bad));
      reads = read;
      idle = λ zero. c.last.ensures.idle (none_read (inr (inr (omega (arith, zero)))));
      over = pair_read p _ _ _ _ _ _ c.requires read (λ t. unchanged_now _ _ (c.last.ensures.unchanged t));
      unchanged = c.last.ensures.unchanged;
      faults = c.last.ensures.faults;
      cause = sum_cause _ _ c.checked_add.result OffsetOverflow c.ok_or.result c.ok_or.ensures.value;
    }
