use Rattle.std.proofs.Common.{◌≡◌, ◌+◌, ◌≤◌, ap, arith, inr, subst, ◌∙◌, Bool, true, false, cond, List, ℕ, OnOk}
use Rattle.blob_device.specs.declared.error.DevError.TheVariants.{Mem, Fault}
use Rattle.blob_device.specs.Counts.{next}
use Rattle.blob_device.specs.Disk.{Key}
use Rattle.blob_device.specs.Calls.{change_of, FindsBlob}
use Rattle.blob_device.specs.Laws.{disk_now}
use Rattle.blob_device.specs.Tracks.{tracks_of, Stepped}
use Rattle.blob_device.proofs.Logged.{made_ok, made_err, made_opened, made_sound, made_leaves, unmade, unmade_leaves, mem_leaves}
use Rattle.blob_device.proofs.memory.Memory.change.Goals as goal
use Rattle.blob_device.proofs.general.Results.{err_of}

pub returns-then-turn-clause-counts : goal.returns-then-turn-clause-counts
returns-then-turn-clause-counts c = record { later = c.begin-turn.ensures.later; cause = λ e. absurd (cc e); calls = c.begin-turn.ensures.next }

pub invariant_of-self : goal.invariant_of-self
invariant_of-self c =
    let k : Key = (c.args.partition.now, c.args.name.now) in
    let before = c.args.self.now in
    let after : c.begin-turn.new.self.count ≡ before.count + 1 = omega (arith, c.begin-turn.ensures.next, c.begin-turn.ensures.number, c.begin-turn.ensures.fits, c.if-turn.false) in
    let step = subst (λ (p : List ℕ). OnOk c.step_at.result (Stepped (p, c.args.name.now) c.begin-turn.result.number (change_of c.args.step) c.begin-turn.result.failed (tracks_of c.begin-turn.new.self.logs) (tracks_of c.step_at.new.logs))) c.as_bytes.ensures.value c.step_at.ensures.ok in
    record {
      sound = made_sound (tracks_of before.logs) (tracks_of c.begin-turn.new.self.logs) (tracks_of c.step_at.new.logs) before.count c.begin-turn.result.number c.begin-turn.new.self.count k (change_of c.args.step) c.begin-turn.result.failed
          before.sound (ap tracks_of c.begin-turn.ensures.logs) c.begin-turn.ensures.number after c.step_at.result c.requires.bytes (subst (FindsBlob (change_of c.args.step)) (disk_now (tracks_of before.logs) before.count k (before.sound k)) c.requires.there) step c.step_at.ensures.err;
    }

pub returns-in_err-step_at-clause-counts : goal.returns-in_err-step_at-clause-counts
returns-in_err-step_at-clause-counts c =
    let mem = err_of c.from_residual.result Mem c.from_residual.ensures.1 in
    record { later = c.begin-turn.ensures.later; cause = λ e. absurd (cc (e, mem)); calls = c.begin-turn.ensures.next }

pub returns-in_err-step_at-clause-told : goal.returns-in_err-step_at-clause-told
returns-in_err-step_at-clause-told c =
    let k : Key = (c.args.partition.now, c.args.name.now) in
    let before = c.args.self.now in
    let after : c.begin-turn.new.self.count ≡ before.count + 1 = omega (arith, c.begin-turn.ensures.next, c.begin-turn.ensures.number, c.begin-turn.ensures.fits, c.if-turn.false) in
    unmade (tracks_of before.logs) (tracks_of c.begin-turn.new.self.logs) (tracks_of c.step_at.new.logs) before.count c.begin-turn.result.number c.begin-turn.new.self.count k (change_of c.args.step) c.begin-turn.result.failed
    before.sound (ap tracks_of c.begin-turn.ensures.logs) c.begin-turn.ensures.number after c.from_residual.result (err_of c.from_residual.result Mem c.from_residual.ensures.1) c.in_err-step_at.ensures.err

pub returns-then-turn-2-clause-counts : goal.returns-then-turn-2-clause-counts
returns-then-turn-2-clause-counts c = record {
  later = c.begin-turn.ensures.later;
  cause = λ e. omega (arith, c.begin-turn.ensures.faults ∙ ap (λ (b : Bool). cond b (next c.args.self.now.faults) c.args.self.now.faults) c.if-turn-2.true);
  calls = c.begin-turn.ensures.next;
}

pub returns-then-turn-2-clause-told : goal.returns-then-turn-2-clause-told
returns-then-turn-2-clause-told c =
    let k : Key = (c.args.partition.now, c.args.name.now) in
    let before = c.args.self.now in
    let after : c.begin-turn.new.self.count ≡ before.count + 1 = omega (arith, c.begin-turn.ensures.next, c.begin-turn.ensures.number, c.begin-turn.ensures.fits, c.if-turn.false) in
    let step = subst (λ (p : List ℕ). Stepped (p, c.args.name.now) c.begin-turn.result.number (change_of c.args.step) c.begin-turn.result.failed (tracks_of c.begin-turn.new.self.logs) (tracks_of c.step_at.new.logs)) c.as_bytes.ensures.value c.in_ok-step_at.ensures.ok in
    made_err (tracks_of before.logs) (tracks_of c.begin-turn.new.self.logs) (tracks_of c.step_at.new.logs) before.count c.begin-turn.result.number c.begin-turn.new.self.count k (change_of c.args.step) c.begin-turn.result.failed
    before.sound (ap tracks_of c.begin-turn.ensures.logs) c.begin-turn.ensures.number after Fault step c.if-turn-2.true

pub returns-then-turn-2-clause-opened_err : goal.returns-then-turn-2-clause-opened_err
returns-then-turn-2-clause-opened_err c =
    let k : Key = (c.args.partition.now, c.args.name.now) in
    let before = c.args.self.now in
    let after : c.begin-turn.new.self.count ≡ before.count + 1 = omega (arith, c.begin-turn.ensures.next, c.begin-turn.ensures.number, c.begin-turn.ensures.fits, c.if-turn.false) in
    let step = subst (λ (p : List ℕ). Stepped (p, c.args.name.now) c.begin-turn.result.number (change_of c.args.step) c.begin-turn.result.failed (tracks_of c.begin-turn.new.self.logs) (tracks_of c.step_at.new.logs)) c.as_bytes.ensures.value c.in_ok-step_at.ensures.ok in
    inr (made_opened (tracks_of before.logs) (tracks_of c.begin-turn.new.self.logs) (tracks_of c.step_at.new.logs) before.count c.begin-turn.result.number c.begin-turn.new.self.count k (change_of c.args.step) c.begin-turn.result.failed
    before.sound (ap tracks_of c.begin-turn.ensures.logs) c.begin-turn.ensures.number after step true c.if-turn-2.true)

pub returns-clause-told : goal.returns-clause-told
returns-clause-told c =
    let k : Key = (c.args.partition.now, c.args.name.now) in
    let before = c.args.self.now in
    let after : c.begin-turn.new.self.count ≡ before.count + 1 = omega (arith, c.begin-turn.ensures.next, c.begin-turn.ensures.number, c.begin-turn.ensures.fits, c.if-turn.false) in
    let step = subst (λ (p : List ℕ). Stepped (p, c.args.name.now) c.begin-turn.result.number (change_of c.args.step) c.begin-turn.result.failed (tracks_of c.begin-turn.new.self.logs) (tracks_of c.step_at.new.logs)) c.as_bytes.ensures.value c.in_ok-step_at.ensures.ok in
    made_ok (tracks_of before.logs) (tracks_of c.begin-turn.new.self.logs) (tracks_of c.step_at.new.logs) before.count c.begin-turn.result.number c.begin-turn.new.self.count k (change_of c.args.step) c.begin-turn.result.failed
    before.sound (ap tracks_of c.begin-turn.ensures.logs) c.begin-turn.ensures.number after tt step c.if-turn-2.false

pub returns-clause-opened : goal.returns-clause-opened
returns-clause-opened c =
    let k : Key = (c.args.partition.now, c.args.name.now) in
    let before = c.args.self.now in
    let after : c.begin-turn.new.self.count ≡ before.count + 1 = omega (arith, c.begin-turn.ensures.next, c.begin-turn.ensures.number, c.begin-turn.ensures.fits, c.if-turn.false) in
    let step = subst (λ (p : List ℕ). Stepped (p, c.args.name.now) c.begin-turn.result.number (change_of c.args.step) c.begin-turn.result.failed (tracks_of c.begin-turn.new.self.logs) (tracks_of c.step_at.new.logs)) c.as_bytes.ensures.value c.in_ok-step_at.ensures.ok in
    made_opened (tracks_of before.logs) (tracks_of c.begin-turn.new.self.logs) (tracks_of c.step_at.new.logs) before.count c.begin-turn.result.number c.begin-turn.new.self.count k (change_of c.args.step) c.begin-turn.result.failed
    before.sound (ap tracks_of c.begin-turn.ensures.logs) c.begin-turn.ensures.number after step false c.if-turn-2.false

pub returns-in_err-step_at-clause-leaves : goal.returns-in_err-step_at-clause-leaves
returns-in_err-step_at-clause-leaves c =
    let k : Key = (c.args.partition.now, c.args.name.now) in
    let before = c.args.self.now in
    let after : c.begin-turn.new.self.count ≡ before.count + 1 = omega (arith, c.begin-turn.ensures.next, c.begin-turn.ensures.number, c.begin-turn.ensures.fits, c.if-turn.false) in
    record {
      fault = λ e. absurd (let mem = err_of c.from_residual.result Mem c.from_residual.ensures.1 in cc (e, mem));
      memory = λ _. unmade_leaves (tracks_of before.logs) (tracks_of c.begin-turn.new.self.logs) (tracks_of c.step_at.new.logs) before.count c.begin-turn.result.number c.begin-turn.new.self.count k (change_of c.args.step) c.begin-turn.result.failed
          before.sound (ap tracks_of c.begin-turn.ensures.logs) c.begin-turn.ensures.number after c.in_err-step_at.ensures.err;
    }

pub returns-then-turn-2-clause-leaves : goal.returns-then-turn-2-clause-leaves
returns-then-turn-2-clause-leaves c =
    let k : Key = (c.args.partition.now, c.args.name.now) in
    let before = c.args.self.now in
    let after : c.begin-turn.new.self.count ≡ before.count + 1 = omega (arith, c.begin-turn.ensures.next, c.begin-turn.ensures.number, c.begin-turn.ensures.fits, c.if-turn.false) in
    let step = subst (λ (p : List ℕ). Stepped (p, c.args.name.now) c.begin-turn.result.number (change_of c.args.step) c.begin-turn.result.failed (tracks_of c.begin-turn.new.self.logs) (tracks_of c.step_at.new.logs)) c.as_bytes.ensures.value c.in_ok-step_at.ensures.ok in
    record {
      fault = λ _. made_leaves (tracks_of before.logs) (tracks_of c.begin-turn.new.self.logs) (tracks_of c.step_at.new.logs) before.count c.begin-turn.result.number c.begin-turn.new.self.count k (change_of c.args.step) c.begin-turn.result.failed
          before.sound (ap tracks_of c.begin-turn.ensures.logs) c.begin-turn.ensures.number after step c.if-turn-2.true;
      memory = λ e. absurd (cc e);
    }

pub returns-then-turn-clause-leaves : goal.returns-then-turn-clause-leaves
returns-then-turn-clause-leaves c =
    let before = c.args.self.now in
    let later : before.count ≤ c.begin-turn.new.self.count = omega (arith, c.begin-turn.ensures.next, c.begin-turn.ensures.fits) in
    record {
      fault = λ e. absurd (cc e);
      memory = λ _. mem_leaves (tracks_of before.logs) (tracks_of c.begin-turn.new.self.logs) before.count c.begin-turn.new.self.count before.sound (ap tracks_of c.begin-turn.ensures.logs) later;
    }
