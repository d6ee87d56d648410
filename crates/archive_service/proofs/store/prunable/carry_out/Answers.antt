use Rattle.std.proofs.Common.{ap, sym}
use Rattle.archives.specs.Finding.{get_command, has_command, wanted_of}
use Rattle.archives.specs.Machine.{asked}
use Rattle.archive_service.specs.declared.store.openable.Openable.TheVariants.{Open}
use Rattle.archive_service.specs.lemmas.Store.{answers_to}
use Rattle.archive_service.proofs.store.prunable.carry_out.Goals as goal

pub returns-in-Put : goal.returns-in-Put
returns-in-Put g c = answers_to _ g.D.Device (Open c.args.archive) _ _ _ _ _ (ap (asked g.K.Key.key_bytes g.V.Codec.spelling) c.in-Put.is) c.put.ensures

pub returns-in-PutSync : goal.returns-in-PutSync
returns-in-PutSync g c = answers_to _ g.D.Device (Open c.args.archive) _ _ _ _ _ (ap (asked g.K.Key.key_bytes g.V.Codec.spelling) c.in-PutSync.is) c.put_sync.ensures

pub returns-in-PutStart : goal.returns-in-PutStart
returns-in-PutStart g c = answers_to _ g.D.Device (Open c.args.archive) _ _ _ _ _ (ap (asked g.K.Key.key_bytes g.V.Codec.spelling) c.in-PutStart.is) c.put_start.ensures

pub returns-in-Sync : goal.returns-in-Sync
returns-in-Sync g c = answers_to _ g.D.Device (Open c.args.archive) _ _ _ _ _ (ap (asked g.K.Key.key_bytes g.V.Codec.spelling) c.in-Sync.is) c.sync.ensures

pub returns-in-Start : goal.returns-in-Start
returns-in-Start g c = answers_to _ g.D.Device (Open c.args.archive) _ _ _ _ _ (ap (asked g.K.Key.key_bytes g.V.Codec.spelling) c.in-Start.is) c.start.ensures

pub returns-in-Reopen : goal.returns-in-Reopen
returns-in-Reopen g c = answers_to _ g.D.Device (Open c.args.archive) _ _ _ _ _ (ap (asked g.K.Key.key_bytes g.V.Codec.spelling) c.in-Reopen.is) c.reopen.ensures

pub returns-in-Get : goal.returns-in-Get
returns-in-Get g c =
    answers_to _ g.D.Device (Open c.args.archive) _ _ _ _ _ (ap (asked g.K.Key.key_bytes g.V.Codec.spelling) c.in-Get.is)
    (answers_to _ g.D.Device (Open c.args.archive) _ _ _ _ _ (sym (ap (λ x. get_command (wanted_of g.K.Key.key_bytes x)) c.by_index.ensures)) c.get.ensures)

pub returns-in-Has : goal.returns-in-Has
returns-in-Has g c =
    answers_to _ g.D.Device (Open c.args.archive) _ _ _ _ _ (ap (asked g.K.Key.key_bytes g.V.Codec.spelling) c.in-Has.is)
    (answers_to _ g.D.Device (Open c.args.archive) _ _ _ _ _ (sym (ap (λ x. has_command (wanted_of g.K.Key.key_bytes x)) c.by_index-in-Has.ensures)) c.has.ensures)

pub returns-in-GetKey : goal.returns-in-GetKey
returns-in-GetKey g c = answers_to _ g.D.Device (Open c.args.archive) _ _ _ _ _ (ap (asked g.K.Key.key_bytes g.V.Codec.spelling) c.in-GetKey.is) c.get-in-GetKey.ensures

pub returns-in-HasKey : goal.returns-in-HasKey
returns-in-HasKey g c = answers_to _ g.D.Device (Open c.args.archive) _ _ _ _ _ (ap (asked g.K.Key.key_bytes g.V.Codec.spelling) c.in-HasKey.is) c.has-in-HasKey.ensures

pub returns-in-Gap : goal.returns-in-Gap
returns-in-Gap g c = answers_to _ g.D.Device (Open c.args.archive) _ _ _ _ _ (ap (asked g.K.Key.key_bytes g.V.Codec.spelling) c.in-Gap.is) c.gap.ensures

pub returns-in-Missing : goal.returns-in-Missing
returns-in-Missing g c = answers_to _ g.D.Device (Open c.args.archive) _ _ _ _ _ (ap (asked g.K.Key.key_bytes g.V.Codec.spelling) c.in-Missing.is) c.missing.ensures

pub returns-in-Ranges : goal.returns-in-Ranges
returns-in-Ranges g c = answers_to _ g.D.Device (Open c.args.archive) _ _ _ _ _ (ap (asked g.K.Key.key_bytes g.V.Codec.spelling) c.in-Ranges.is) c.ranges-in-Ranges.ensures

pub returns-in-RangesFrom : goal.returns-in-RangesFrom
returns-in-RangesFrom g c = answers_to _ g.D.Device (Open c.args.archive) _ _ _ _ _ (ap (asked g.K.Key.key_bytes g.V.Codec.spelling) c.in-RangesFrom.is) c.ranges_from.ensures

pub returns-in-First : goal.returns-in-First
returns-in-First g c = answers_to _ g.D.Device (Open c.args.archive) _ _ _ _ _ (ap (asked g.K.Key.key_bytes g.V.Codec.spelling) c.in-First.is) c.first.ensures

pub returns-in-Last : goal.returns-in-Last
returns-in-Last g c = answers_to _ g.D.Device (Open c.args.archive) _ _ _ _ _ (ap (asked g.K.Key.key_bytes g.V.Codec.spelling) c.in-Last.is) c.last.ensures

pub returns-in-Multi : goal.returns-in-Multi
returns-in-Multi g c = answers_to _ g.D.Device (Open c.args.archive) _ _ _ _ _ (ap (asked g.K.Key.key_bytes g.V.Codec.spelling) c.in-Multi.is) c.put-in-Multi.ensures

pub returns-in-MultiSync : goal.returns-in-MultiSync
returns-in-MultiSync g c = answers_to _ g.D.Device (Open c.args.archive) _ _ _ _ _ (ap (asked g.K.Key.key_bytes g.V.Codec.spelling) c.in-MultiSync.is) c.put_sync-in-MultiSync.ensures

pub returns-in-MultiStart : goal.returns-in-MultiStart
returns-in-MultiStart g c = answers_to _ g.D.Device (Open c.args.archive) _ _ _ _ _ (ap (asked g.K.Key.key_bytes g.V.Codec.spelling) c.in-MultiStart.is) c.put_start-in-MultiStart.ensures

pub returns-in-HasAt : goal.returns-in-HasAt
returns-in-HasAt g c = answers_to _ g.D.Device (Open c.args.archive) _ _ _ _ _ (ap (asked g.K.Key.key_bytes g.V.Codec.spelling) c.in-HasAt.is) c.has_at.ensures

pub returns-in-All : goal.returns-in-All
returns-in-All g c = answers_to _ g.D.Device (Open c.args.archive) _ _ _ _ _ (ap (asked g.K.Key.key_bytes g.V.Codec.spelling) c.in-All.is) c.all.ensures

pub returns-in-Prune : goal.returns-in-Prune
returns-in-Prune g c = answers_to _ g.D.Device (Open c.args.archive) _ _ _ _ _ (ap (asked g.K.Key.key_bytes g.V.Codec.spelling) c.in-Prune.is) c.prune.ensures

pub returns-in-Destroy : goal.returns-in-Destroy
returns-in-Destroy g c = answers_to _ g.D.Device (Open c.args.archive) _ _ _ _ _ (ap (asked g.K.Key.key_bytes g.V.Codec.spelling) c.in-Destroy.is) c.destroy.ensures
