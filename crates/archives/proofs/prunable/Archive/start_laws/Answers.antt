use Rattle.blob_device.specs.Timeline.{disk}
use Rattle.paired.specs.lemmas.opening.Laws.{nothing_pending}
use Rattle.archives.specs.Shown.{filing_for}
use Rattle.archives.proofs.Reopening.{start_leaves}
use Rattle.archives.proofs.prunable.Archive.start_laws.Goals as goal

pub returns : goal.returns
returns g c t =
    let f = filing_for g.K.Key.SIZE g.S.Seal g.V.Codec.refusal c.args._cfg.now in
    let d = disk (g.D.Device.time c.args._dev.now) in
    record {
      opened = λ settled. nothing_pending f.layout d settled (λ k. g.met.D.Device.absent t c.args._dev.now k);
      stands = λ settled markers st lawful start. start_leaves f d markers st settled lawful start;
    }
