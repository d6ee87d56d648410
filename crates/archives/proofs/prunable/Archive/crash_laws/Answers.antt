use Rattle.std.proofs.Common.{refl, arith, ◌≤◌}
use Rattle.blob_device.specs.Timeline.{disk}
use Rattle.archives.specs.lemmas.Outlasts.{moving_after_said, moving_said, no_next_version}
use Rattle.archives.specs.lemmas.Reopening.{none_beyond}
use Rattle.paired.specs.lemmas.reconcile.Entries.{markers_readable}
use Rattle.segments.specs.lemmas.adding.Write.{are_pages}
use Rattle.archives.specs.Shown.{shown}
use Rattle.archives.proofs.MachineTerms.{allowed, has_no_version_now, passed, passes}
use Rattle.archives.proofs.OpenedAgain.{opened_again}
use Rattle.archives.specs.PuttingLaws.{taken_state}
use Rattle.archives.proofs.sync.Lemmas.{stands_now}
use Rattle.archives.proofs.prunable.Archive.crash_laws.Goals as goal

pub returns : goal.returns
returns g c =
    let a = shown c.args.self.now in
    let d = disk (g.D.Device.time c.args._dev.now) in
    let opened = g.D.Device.opened c.args._dev.now in
    let over = c.requires.over in
    let key : g.K.Key.SIZE ≤ 1024 = g.met.K.Key.small in
    record {
      leaves = λ t sound. stands_now a opened d (omega arith) refl refl refl refl (λ s v held. λ i. (over.pair.index.over.opened_list.setting s v held i).page_size) over t sound;
      opened = λ t sound. opened_again a opened d (are_pages g.row.S g.S.Seal g.S.Seal-dict) refl refl refl over t sound;
      no_lists = λ s far. (none_beyond a opened d (omega arith) over s far).0;
      none_synced = λ s far. (none_beyond a opened d (omega arith) over s far).1;
      state = λ t. record {
        taken = taken_state a d (over.listed t);
        allowed = allowed a opened d over t;
        passed = λ sound i n few. (
          passed a opened d over t sound (λ s v held. λ j. (over.pair.index.over.opened_list.setting s v held j).page_size) i n,
          passes a opened d over t sound (λ s v held. λ j. (over.pair.index.over.opened_list.setting s v held j).page_size) i n c.args.self.now.pair.index.manager.factory.small (omega (arith, key)) few,
        );
        moving = moving_said a opened d over t refl refl (markers_readable g.S.Seal);
        moving_after = λ times i key value. moving_after_said a opened d over t refl refl (markers_readable g.S.Seal) times i key value;
        version = (
          has_no_version_now a.pair.layout a.pair.store d refl (over.pair.disk t).markers,
          no_next_version a.pair.layout a.pair.store d refl refl (over.pair.disk t).markers (markers_readable g.S.Seal),
        );
      };
    }
