use Rattle.std.proofs.Common.{◌≡◌, true}
use Rattle.blob_device.specs.Timeline.{disk}
use Rattle.paired.specs.ReplayShown.{run_of}
use Rattle.paired.proofs.SortLemmas.{ended_not, no_end, each_ok, ok_has, sorts_noted}
use Rattle.paired.proofs.oversized.replaying.Replay.keeps.Goals as goal

pub returns-else-is_err-clause-sorts : goal.returns-else-is_err-clause-sorts
returns-else-is_err-clause-sorts g c t =
    let old = run_of g.I.Record.place c.args.self.now in
    let tracked : old.tracked ≡ true = cc c.if-not-self.false in
    each_ok c.checks-checked.result _ (λ r is. sorts_noted old (disk (g.D.Device.time c.args.dev.now)) c.args.section c.args.position c.args.location (run_of g.I.Record.place c.checks-checked.new.self) r tracked
    (ended_not old.ended_section c.args.section c.if-eq.ensures) (no_end (old.ends.at c.args.section) c.if-contains_key.ensures)
    (ok_has c.checks-checked.result _ r is (c.checks-checked.ensures.good t)) (ok_has c.checks-checked.result _ r is c.checks-checked.ensures.notes))
