use Rattle.std.proofs.lemmas.Grind.{common_steps}
use Rattle.std.proofs.Common.{rules, ◌≡◌, ◌<◌, ◌+◌, ◌-◌, inl, inr, ℕ, List, refl, length, length-drop, ap, sym, subst, arith}
use Rattle.std.proofs.lemmas.Result.{err_from_is_err_and}
use Rattle.blob_device.specs.Disk.{Key}
use Rattle.blob_device.specs.Timeline.{disk}
use Rattle.sealed_pages.specs.Entries.{IsOpenAt, ReadsAtMost}
use Rattle.sealed_pages.specs.Readers.{Reader, ReadsUnread, reading, next_of, missing_of, IsReplayOf, SameReader}
use Rattle.sealed_pages.specs.Reads.{IsWanted, IsShort}
use Rattle.sealed_pages.specs.lemmas.looking.Looking.{unchanged_now, unchanged_start, unchanged_then}
use Rattle.sealed_pages.specs.lemmas.looking.Replay.{page_reads_last, page_reads_next}
use Rattle.sealed_pages.proofs.looking.ReadLemmas.{same_error}
use Rattle.sealed_pages.proofs.cutting.Truncating.{no_value}
use Rattle.sealed_pages.proofs.looking.ReplayLemmas.{page_reads_start, unread_then, wanted_all, short_all, same_then}
use Rattle.sealed_pages.proofs.replay.PageReplay.ensure.Given as given
use Rattle.sealed_pages.proofs.replay.PageReplay.ensure.Goals.{After-fetch}
use Rattle.sealed_pages.proofs.replay.PageReplay.ensure.Goals as goal

-- the blob's content stays
stays : (g : given.Over) (c : After-fetch g) → g.D.Device.Tells → (disk (g.D.Device.time c.fill.dev) (reading c.fill.self).key).content ≡ (disk (g.D.Device.time c.args.dev.now) (reading c.args.self.now).key).content
stays g c t = λ j. (unchanged_now (g.D.Device.time c.args.dev.now) (g.D.Device.time c.fill.dev) (c.fill.invariant.unchanged t) j (c.fill.invariant.same.key j)).content

-- what is at hand is as in the blob
replays : (g : given.Over) (c : After-fetch g) → g.D.Device.Tells → IsReplayOf g.S.Seal.seal_of (disk (g.D.Device.time c.args.dev.now) (reading c.args.self.now).key).content (reading c.args.self.now) → IsReplayOf g.S.Seal.seal_of (disk (g.D.Device.time c.args.dev.now) (reading c.args.self.now).key).content (reading c.fetch.new.self)
replays g c t is = subst (λ (l : List ℕ). IsReplayOf g.S.Seal.seal_of l (reading c.fill.self) → IsReplayOf g.S.Seal.seal_of l (reading c.fetch.new.self)) (stays g c t) (c.fetch.ensures.replays t) (c.fill.invariant.replays t is)

pub fill-preserved : goal.fill-preserved
fill-preserved g c =
    let key = c.fill.invariant.same.key in
    let further : next_of (reading c.fill.self) < next_of (reading c.fetch.new.self) = c.in_ok-fetch.ensures.grows in
    record {
      have_is = c.remaining-have-in-fill.ensures;
      same = same_then (reading c.args.self.now) (reading c.fill.self) (reading c.fetch.new.self) c.fill.invariant.same c.in_ok-fetch.ensures.same;
      grows = omega (arith, c.fill.invariant.grows, further, c.in_ok-fetch.ensures.same.at);
      replays = replays g (goal.at.fill-preserved g c).After-fetch;
      reads = page_reads_next c.args.self.now.page_size (next_of (reading c.args.self.now)) (missing_of (reading c.args.self.now) c.args.n) (next_of (reading c.fill.self)) (c.args.self.now.at + c.min-want.result) (reading c.args.self.now).key
          (g.D.Device.opened c.args.dev.now) (g.D.Device.opened c.fill.dev) (g.D.Device.opened c.fetch.new.dev) c.args.self.now.some
          (omega (arith, c.fill-test.true, c.min-want.ensures, c.fill.invariant.have_is, c.fill.invariant.grows)) (omega (arith, c.fill.invariant.grows, c.fill.invariant.same.at)) (omega (arith, c.fill-test.true, c.fill.invariant.have_is, c.fill.invariant.same.at)) c.fill.invariant.reads
          (subst (λ (k : Key). ReadsAtMost 1 k (g.D.Device.opened c.fill.dev) (g.D.Device.opened c.fetch.new.dev)) key c.in_ok-fetch.ensures.entries)
          c.fill.self.page_size (next_of (reading c.fetch.new.self)) c.fill.invariant.same.page_size c.in_ok-fetch.ensures.reaches;
      once = unread_then (reading c.args.self.now) (reading c.fill.self) (reading c.fetch.new.self) (g.D.Device.opened c.args.dev.now) (g.D.Device.opened c.fill.dev) (g.D.Device.opened c.fetch.new.dev) key c.fill.invariant.once c.in_ok-fetch.ensures.once;
      still = λ all. absurd (omega (arith, all, c.fill-test.true, c.min-want.ensures, c.fill.invariant.have_is, c.fill.invariant.grows));
      faults = omega (arith, c.fill.invariant.faults, c.in_ok-fetch.ensures.faults);
      unchanged = λ t. unchanged_then (g.D.Device.time c.args.dev.now) (g.D.Device.time c.fill.dev) (g.D.Device.time c.fetch.new.dev) (c.fill.invariant.unchanged t) (c.in_ok-fetch.ensures.unchanged t);
    }

pub fill-init : goal.fill-init
fill-init g c =
    let same : reading c.args.self.now ≡ reading c.let_go.new.self = sym c.let_go.ensures in
    record {
      have_is = c.remaining-have.ensures;
      same = subst (λ (r : Reader). SameReader (reading c.args.self.now) r) same (record { key = refl; page_size = refl; end = refl; size = refl; at = refl });
      grows = omega (arith, ap (λ (r : Reader). length r.bytes) same);
      replays = λ t is. subst (λ (r : Reader). IsReplayOf g.S.Seal.seal_of (disk (g.D.Device.time c.args.dev.now) (reading c.args.self.now).key).content r) same is;
      reads = page_reads_start c.args.self.now.page_size (next_of (reading c.args.self.now)) (missing_of (reading c.args.self.now) c.args.n) (next_of (reading c.let_go.new.self)) (reading c.args.self.now).key (g.D.Device.opened c.args.dev.now);
      once = subst (λ (r : Reader). ReadsUnread (reading c.args.self.now) r (g.D.Device.opened c.args.dev.now) (g.D.Device.opened c.args.dev.now)) same (omega arith);
      still = λ all. refl;
      faults = omega arith;
      unchanged = λ t. unchanged_start (g.D.Device.time c.args.dev.now);
    }

pub returns-in_err-fetch : goal.returns-in_err-fetch
returns-in_err-fetch g c =
    let given = err_from_is_err_and c.from_residual.result c.from_residual.ensures.1 in
    let same = same_then (reading c.args.self.now) (reading c.fill.self) (reading c.fetch.new.self) c.fill.invariant.same c.fetch.ensures.same in
    let reads = page_reads_last c.args.self.now.page_size (next_of (reading c.args.self.now)) (missing_of (reading c.args.self.now) c.args.n) (next_of (reading c.fill.self)) (c.args.self.now.at + c.min-want.result) (reading c.args.self.now).key
    (g.D.Device.opened c.args.dev.now) (g.D.Device.opened c.fill.dev) (g.D.Device.opened c.fetch.new.dev) c.args.self.now.some
    (omega (arith, c.fill-test.true, c.min-want.ensures, c.fill.invariant.have_is, c.fill.invariant.grows)) (omega (arith, c.fill.invariant.grows, c.fill.invariant.same.at)) (omega (arith, c.fill-test.true, c.fill.invariant.have_is, c.fill.invariant.same.at)) c.fill.invariant.reads
    (subst (λ (k : Key). ReadsAtMost 1 k (g.D.Device.opened c.fill.dev) (g.D.Device.opened c.fetch.new.dev)) c.fill.invariant.same.key c.fetch.ensures.entries) in
    record {
      at_hand = no_value _ _ c.from_residual.ensures.0;
      rest = no_value _ _ c.from_residual.ensures.0;
      exact = no_value _ _ c.from_residual.ensures.0;
      ready = λ le. absurd (omega (arith, le, c.fill-test.true, c.min-want.ensures, c.fill.invariant.have_is, c.fill.invariant.grows));
      within = omega (arith, c.fetch.new.self.inside, length-drop c.fetch.new.self.used c.fetch.new.self.held.items);
      same = same;
      grows = omega (arith, ap (λ (l : List ℕ). length l) c.in_err-fetch.ensures.stays, c.fill.invariant.grows);
      replays = replays g (goal.at.returns-in_err-fetch g c).After-fetch;
      checksum = λ t is p e.
          let short : IsShort g.S.Seal.seal_of c.fill.self.page_size (disk (g.D.Device.time c.fill.dev) (reading c.fill.self).key).content (next_of (reading c.fill.self)) (c.args.self.now.at + c.min-want.result - next_of (reading c.fill.self)) p
          = c.in_err-fetch.ensures.short t (subst (λ (l : List ℕ). IsReplayOf g.S.Seal.seal_of l (reading c.fill.self)) (sym (stays g (goal.at.returns-in_err-fetch g c).After-fetch t)) (c.fill.invariant.replays t is)) p (same_error (rw (given.1, given.2) at e)) in
          short_all g.S.Seal.seal_of c.args.self.now.page_size (next_of (reading c.args.self.now)) (missing_of (reading c.args.self.now) c.args.n) (next_of (reading c.fill.self)) (c.args.self.now.at + c.min-want.result) p (disk (g.D.Device.time c.args.dev.now) (reading c.args.self.now).key).content (omega (arith, c.fill.invariant.grows, c.fill.invariant.same.at)) (omega (arith, c.fill-test.true, c.fill.invariant.have_is, c.fill.invariant.same.at)) (omega (arith, c.fill-test.true, c.min-want.ensures, c.fill.invariant.have_is, c.fill.invariant.grows))
          (subst (λ (x : ℕ × List ℕ). IsShort g.S.Seal.seal_of x.0 x.1 (next_of (reading c.fill.self)) (c.args.self.now.at + c.min-want.result - next_of (reading c.fill.self)) p) (λ j. (c.fill.invariant.same.page_size j, stays g (goal.at.returns-in_err-fetch g c).After-fetch t j)) short);
      unchanged = λ t. unchanged_then (g.D.Device.time c.args.dev.now) (g.D.Device.time c.fill.dev) (g.D.Device.time c.fetch.new.dev) (c.fill.invariant.unchanged t) (c.fetch.ensures.unchanged t);
      «open» = subst (λ (x : Key × ℕ). IsOpenAt (g.D.Device.opened c.fetch.new.dev) x.0 x.1) (λ j. (sym same.key j, sym same.end j))
          (reads.length (reading c.args.self.now).end c.requires);
      reads = reads;
      once = no_value _ _ c.from_residual.ensures.0;
      judged = λ p e.
          unread_then (reading c.args.self.now) (reading c.fill.self) (reading c.fetch.new.self) (g.D.Device.opened c.args.dev.now) (g.D.Device.opened c.fill.dev) (g.D.Device.opened c.fetch.new.dev) c.fill.invariant.same.key c.fill.invariant.once
          (c.in_err-fetch.ensures.judged p (same_error (rw (given.1, given.2) at e)));
      faults = omega (arith, c.fill.invariant.faults, c.fetch.ensures.faults);
      cause = rw (given.1, given.2) (elim c.in_err-fetch.ensures.cause [
        | inl (k, is, wanted) ↦ inl (
          k,
          same_error is,
          wanted_all c.args.self.now.page_size (next_of (reading c.args.self.now)) (missing_of (reading c.args.self.now) c.args.n) (next_of (reading c.fill.self)) (c.args.self.now.at + c.min-want.result) k (omega (arith, c.fill.invariant.grows, c.fill.invariant.same.at)) (omega (arith, c.fill-test.true, c.fill.invariant.have_is, c.fill.invariant.same.at)) (omega (arith, c.fill-test.true, c.min-want.ensures, c.fill.invariant.have_is, c.fill.invariant.grows))
              (subst (λ (x : ℕ). IsWanted x (next_of (reading c.fill.self)) (c.args.self.now.at + c.min-want.result - next_of (reading c.fill.self)) k) c.fill.invariant.same.page_size wanted),
        )
        | inr (inl mem) ↦ inr (inl (same_error mem))
        | inr (inr (fault, rose)) ↦ inr (inr (same_error fault, omega (arith, rose, c.fill.invariant.faults)))
      ]);
    }

pub returns : goal.returns
returns g c =
    record {
      at_hand = search rules;
      rest = λ e. grind (arith, common_steps);
      exact = search rules;
      ready = λ le. (c.fill.invariant.still le, grind (arith, common_steps));
      within = omega (arith, c.fill.self.inside, length-drop c.fill.self.used c.fill.self.held.items);
      same = c.fill.invariant.same;
      grows = c.fill.invariant.grows;
      replays = c.fill.invariant.replays;
      checksum = search rules;
      unchanged = c.fill.invariant.unchanged;
      «open» = subst (λ (x : Key × ℕ). IsOpenAt (g.D.Device.opened c.fill.dev) x.0 x.1) (λ j. (sym c.fill.invariant.same.key j, sym c.fill.invariant.same.end j))
          (c.fill.invariant.reads.reads.length (reading c.args.self.now).end c.requires);
      reads = search rules;
      once = search rules;
      judged = search rules;
      faults = c.fill.invariant.faults;
      cause = tt;
    }
