use Rattle.std.proofs.Common.{ℕ}
use Rattle.ordinal_store.specs.declared.error.RMapError.TheVariants.{Mem}
use Rattle.ordinal_store.proofs.ranges.Grows.{IsSound-alone, AddsNumber-alone, IsSound-after, AddsNumber-after, IsSound-before, AddsNumber-before, IsSound-between, AddsNumber-between, Inserting-refused, IsSound-unchanged, values-unchanged}
use Rattle.ordinal_store.proofs.filed.put_beside.Goals as goal

pub returns-in_err-insert-in-None-None : goal.returns-in_err-insert-in-None-None
returns-in_err-insert-in-None-None c =
    let same = c.in_err-insert-in-None-None.ensures.err in
    Inserting-refused c.args.ranges.now c.insert.new.self c.args.value c.from_residual.result Mem c.from_residual.ensures.1
    (IsSound-unchanged c.args.ranges.now c.insert.new.self same c.requires.sound) (values-unchanged c.args.ranges.now c.insert.new.self same) c.requires.absent

pub returns-in_ok-insert-in-None-None : goal.returns-in_ok-insert-in-None-None
returns-in_ok-insert-in-None-None c =
    let n = c.insert.new.self in
    let below = rw c.in-None-None.is-0 at c.ending_below.ensures in
    let above = rw c.in-None-None.is-1 at c.beginning_above.ensures in
    record {
      sound = IsSound-alone c.args.ranges.now n c.args.value c.requires.sound c.ranges.value.fits c.requires.filed c.requires.absent below above c.in_ok-insert-in-None-None.ensures.updates c.insert.ensures.ordered;
      ok = AddsNumber-alone c.args.ranges.now n c.args.value c.requires.sound c.ranges.value.fits c.requires.filed c.requires.absent below above c.in_ok-insert-in-None-None.ensures.updates c.insert.ensures.ordered;
      err = tt;
      absent = tt;
    }

pub returns-in_err-insert-in-None-Some : goal.returns-in_err-insert-in-None-Some
returns-in_err-insert-in-None-Some c =
    let same = c.in_err-insert-in-None-Some.ensures.err in
    Inserting-refused c.args.ranges.now c.insert-in-None-Some.new.self c.args.value c.from_residual-in_err-insert-in-None-Some.result Mem c.from_residual-in_err-insert-in-None-Some.ensures.1
    (IsSound-unchanged c.args.ranges.now c.insert-in-None-Some.new.self same c.requires.sound) (values-unchanged c.args.ranges.now c.insert-in-None-Some.new.self same) c.requires.absent

pub returns-in_ok-insert-in-None-Some : goal.returns-in_ok-insert-in-None-Some
returns-in_ok-insert-in-None-Some c =
    let e = c.in-None-Some.ensures in
    let r : ℕ × ℕ = (c.in-None-Some.field-0-1-0-1, c.in-None-Some.end) in
    record {
      sound = IsSound-before c.args.ranges.now c.remove.new.self c.args.value c.requires.sound c.ranges.value.fits c.requires.filed c.requires.absent
          c.insert-in-None-Some.new.self c.in-None-Some.key r e.0 e.1 c.in_ok-insert-in-None-Some.ensures.updates c.remove.ensures.updates c.remove.ensures.ordered
          (rw c.in-None-Some.is-0 at c.ending_below.ensures);
      ok = AddsNumber-before c.args.ranges.now c.remove.new.self c.args.value c.requires.sound c.ranges.value.fits c.requires.filed c.requires.absent
          c.insert-in-None-Some.new.self c.in-None-Some.key r e.0 e.1 c.in_ok-insert-in-None-Some.ensures.updates c.remove.ensures.updates c.remove.ensures.ordered;
      err = tt;
      absent = tt;
    }

pub returns-in-Some-None : goal.returns-in-Some-None
returns-in-Some-None c =
    let e = c.in-Some-None.ensures in
    let r : ℕ × ℕ = (c.in-Some-None.start, c.in-Some-None.field-0-1-1-0) in
    record {
      sound = IsSound-after c.args.ranges.now c.set.new.ranges c.args.value c.requires.sound c.ranges.value.fits c.requires.filed c.requires.absent
          c.in-Some-None.key r e.0 e.1 c.set.ensures.updates c.set.ensures.ordered (rw c.in-Some-None.is-1 at c.beginning_above.ensures);
      ok = AddsNumber-after c.args.ranges.now c.set.new.ranges c.args.value c.requires.sound c.ranges.value.fits c.requires.filed c.requires.absent
          c.in-Some-None.key r e.0 e.1 c.set.ensures.updates c.set.ensures.ordered;
      err = tt;
      absent = tt;
    }

pub returns-in-Some-Some : goal.returns-in-Some-Some
returns-in-Some-Some c =
    let e = c.in-Some-Some.ensures in
    let f = c.in-Some-Some.ensures' in
    let r : ℕ × ℕ = (c.in-Some-Some.start, c.in-Some-Some.field-0-1-1-0) in
    let s : ℕ × ℕ = (c.in-Some-Some.field-0-1-0-1, c.in-Some-Some.end) in
    record {
      sound = IsSound-between c.args.ranges.now c.set-in-Some-Some.new.ranges c.args.value c.requires.sound c.ranges.value.fits c.requires.filed c.requires.absent
          c.remove-in-Some-Some.new.self c.in-Some-Some.key c.in-Some-Some.next r s e.0 f.0 e.1 f.1
          c.remove-in-Some-Some.ensures.updates c.set-in-Some-Some.ensures.updates c.remove-in-Some-Some.ensures.ordered c.set-in-Some-Some.ensures.ordered;
      ok = AddsNumber-between c.args.ranges.now c.set-in-Some-Some.new.ranges c.args.value c.requires.sound c.ranges.value.fits c.requires.filed c.requires.absent
          c.remove-in-Some-Some.new.self c.in-Some-Some.key c.in-Some-Some.next r s e.0 f.0 e.1 f.1
          c.remove-in-Some-Some.ensures.updates c.set-in-Some-Some.ensures.updates c.remove-in-Some-Some.ensures.ordered c.set-in-Some-Some.ensures.ordered;
      err = tt;
      absent = tt;
    }
