use Rattle.std.proofs.Common.{◌≡◌, ◌*◌, ℕ, inl, refl, ap, subst, arith}
use Rattle.std.proofs.lemmas.Nat.{div_below}
use Rattle.blob_device.specs.Timeline.{disk}
use Rattle.sealed_pages.specs.Buffer.{key_of}
use Rattle.sealed_pages.specs.Shown.{shown}
use Rattle.section_manager.specs.declared.journal.Damage.{Damage}
use Rattle.section_manager.specs.lemmas.Seen.{raised_failed}
use Rattle.segments.specs.FixedFloors.{IsUnsealed}
use Rattle.segments.proofs.checkpoint.ChecksEnds.{looks_failed}
use Rattle.segments.proofs.opened.FloorLemmas.{unsealed_less}
use Rattle.segments.proofs.fixed.preflighting.Preflight.refuse.Goals as goal
use Rattle.blob_device.proofs.general.Results.{err_of}

pub returns-in_err-kept-clause-looks : goal.returns-in_err-kept-clause-looks
returns-in_err-kept-clause-looks g c =
    let h = c.in_err-kept.ensures in
    looks_failed _ _ _ _ _ _ _ _ _ _ _ _ _ h.unchanged h.reads.others (h.reads.length _ c.requires.«open») h.faults _ _ (err_of c.from_residual.result _ c.from_residual.ensures.1) (raised_failed _ _ _ _ refl h.cause)

pub returns-clause-looks : goal.returns-clause-looks
returns-clause-looks g c =
    let size = g.A.CodecFixed.SIZE in
    let n = c.args.items in
    let u = c.args.buffer.now in
    let h = c.in_ok-kept.ensures in
    let blob = disk (g.D.Device.time c.args.dev.now) (key_of (shown c.args.buffer.now)) in
    let wanted : c.args.items * c.SIZE.result ≡ c.args.items * g.A.CodecFixed.SIZE = ap (λ (m : ℕ). c.args.items * m) c.SIZE.ensures in
    let d : Damage = record { section = c.args.section; kept = c.in_ok-kept.kept; wanted = c.args.items * c.SIZE.result } in
    record {
      item = λ t. tt;
      damage = λ t x is.
          let kept = h.sealed t (λ k lt. absurd (omega (arith, lt, div_below 0 u.page_size 1 (omega (arith, u.fit.begun)) (omega (arith, u.fit.begun))))) in
          let same : d ≡ x = cc is in
          subst (λ (y : Damage). (y.section ≡ c.args.section) × IsUnsealed g.S.Seal.seal_of c.args.buffer.now.page_size g.A.CodecFixed.SIZE (disk (g.D.Device.time c.args.dev.now) (key_of (shown c.args.buffer.now))) c.args.items y) same (
            refl,
            record {
              there = c.requires.there t;
              fits = c.requires.fits;
              some = c.requires.some;
              broken = c.requires.broken t;
              kept = kept;
              wanted = wanted;
              less = omega (arith, kept, wanted, unsealed_less g.S.Seal.seal_of u.page_size size blob.content n (omega (arith, u.fit.begun)) c.requires.some (c.requires.broken t));
            },
          );
      refused = λ t e bad. absurd (cc bad);
      unchanged = h.unchanged;
      entries = h.reads.others;
      «open» = h.reads.length _ c.requires.«open»;
      faults = h.faults;
      cause = inl (d, refl);
    }
