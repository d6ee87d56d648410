use Rattle.std.specs.Prelude.{◌≡◌, ◌≤◌, ℕ, length, take}
use Rattle.std.specs.List.{AllByRecursion}
use Rattle.blob_device.specs.Timeline.{disk}
use Rattle.section_manager.specs.contracts.sealed.PageBlobSectionBuffer.TheImpl as page_blob
use Rattle.segments.specs.FixedStepping.{way_of}
use Rattle.segments.specs.FixedWalking.{walk_of}
use Rattle.paired.specs.Replaying.{records_given}
use Rattle.paired.specs.ReplayShown.{run_of}
use Rattle.paired.specs.lemmas.pair.Synced.{page_setting}
use Rattle.archives.specs.IndexRecord.{IsSpelled, place_of}
use Rattle.archives.specs.Opening.{HasEntered}
use Rattle.archives.specs.Rows.{AreTables, AreWithin, rows_of}
use Rattle.archives.proofs.opening.Loop.{Going, Passed}
use Rattle.archives.proofs.prunable.Archive.entered.Given as goal

-- What the walk leaves so far, without an error; and of each section the first records that it gives are entered.
abbrev pub invariant-loop-given : goal.invariant-loop-given
invariant-loop-given g l = record {
  passed : Passed (page_blob.ghosts g.row.S g.S.Seal g.S.Seal-dict) page_setting (λ f. record { page_size = 1; capacity = f.capacity; cache_pages = 0 }) g.D.Device.Tells
      (run_of (place_of g.K.Key.SIZE) l.initial.replay) (g.D.Device.time l.initial.dev) (g.D.Device.opened l.initial.dev) (run_of (place_of g.K.Key.SIZE) l.replay) (g.D.Device.time l.dev) (g.D.Device.opened l.dev);
  going : Going g.D.Device.Tells (run_of (place_of g.K.Key.SIZE) l.initial.replay) (g.D.Device.time l.initial.dev) (run_of (place_of g.K.Key.SIZE) l.replay) (g.D.Device.time l.dev);
  entered : g.D.Device.Tells → HasEntered g.K.Key.SIZE (rows_of g.K.Key.key_bytes l.tables) (run_of (place_of g.K.Key.SIZE) l.replay) (disk (g.D.Device.time l.dev));
  spelled : g.D.Device.Tells → (s : ℕ) → AllByRecursion (IsSpelled g.K.Key.SIZE)
      (take (length (rows_of g.K.Key.key_bytes l.tables s)) (records_given (run_of (place_of g.K.Key.SIZE) l.replay) (disk (g.D.Device.time l.dev)) s));
  within : AreWithin l.cfg.items_per_section l.cfg.limits.sections l.cfg.limits.per_section (rows_of g.K.Key.key_bytes l.tables);
  tied : AreTables g.K.Key.key_bytes g.T.Word.PartialEq.eq (g.T.Translator.word_of l.cfg.translator) l.tables;
  codec_config : l.replay.values.codec_config ≡ l.initial.replay.values.codec_config;
  faults : g.D.Device.faults l.initial.dev ≤ g.D.Device.faults l.dev;
}

abbrev pub decreases-loop-given : goal.decreases-loop-given
decreases-loop-given g l = way_of (walk_of l.replay.index)
