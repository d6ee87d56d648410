use Rattle.std.proofs.Common.{◌≡◌, ◌≢◌, ◌%◌, ◌<◌, ◌≤◌, ℕ, Option, false, refl, sym, ap}
use Rattle.std.specs.Option.{unwrap_or}
use Rattle.std.proofs.lemmas.Bool.{false_from_ne_true}
use Rattle.std.specs.BTreeMap.{get, is_at}
use Rattle.std.specs.Ordering.{nat_cmp}
use Rattle.segments.proofs.checkpoint.ChecksEnds.{floor_failed}
use Rattle.segments.proofs.opened.FloorLemmas.{floors_have}
use Rattle.segments.proofs.fixed.preflighting.Preflight.with_floor.Goals as goal
use Rattle.blob_device.proofs.general.Numbers.{same_number}
use Rattle.blob_device.proofs.general.Results.{err_of}

-- another section's number is not at this one's place
apart : (s q : ℕ) → q ≢ s → is_at (nat_cmp s) q ≡ false
apart s q other = false_from_ne_true (is_at (nat_cmp s) q) (λ at. other (sym (same_number s q at)))

pub returns-in_err-insert : goal.returns-in_err-insert
returns-in_err-insert g c = floor_failed _ _ _ _ _ _ _ _ _ _ (err_of c.from_residual.result _ c.from_residual.ensures.1)

pub returns-in_err-insert-2 : goal.returns-in_err-insert-2
returns-in_err-insert-2 g c = floor_failed _ _ _ _ _ _ _ _ _ _ (err_of c.from_residual-in_err-insert-2.result _ c.from_residual-in_err-insert-2.ensures.1)

pub invariant_of-this : goal.invariant_of-this
invariant_of-this g c =
    let m = c.args.self.journal.floors in
    let kept : (q : ℕ) → q ≢ c.args.section → get nat_cmp c.insert.new.self q ≡ get nat_cmp c.args.self.journal.floors q = λ q other. c.in_ok-insert.ensures.updates.2 q (apart c.args.section q other) in
    record {
      whole = floors_have m c.insert.new.self c.args.section c.args.floor c.in_ok-insert.ensures.updates.1 kept (λ q n. n % g.A.CodecFixed.SIZE ≡ 0) c.requires.whole c.args.self.whole;
      bounded = floors_have m c.insert.new.self c.args.section c.args.floor c.in_ok-insert.ensures.updates.1 kept (λ q n. 0 < n → q ≤ c.args.self.journal.manager.ceiling) (λ some. c.requires.bounded) c.args.self.bounded;
    }

pub returns : goal.returns
returns g c = record {
  floor = ap (λ (o : Option ℕ). unwrap_or o 0) c.in_ok-insert.ensures.updates.1;
  boundary = c.in_ok-insert-2.ensures.updates.1;
  floors = λ q other. ap (λ (o : Option ℕ). unwrap_or o 0) (c.in_ok-insert.ensures.updates.2 q (apart c.args.section q other));
  boundaries = λ q other. c.in_ok-insert-2.ensures.updates.2 q (apart c.args.section q other);
  sections = refl;
  target = refl;
  cause = tt;
}
