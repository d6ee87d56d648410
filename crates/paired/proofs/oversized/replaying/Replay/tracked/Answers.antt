use Rattle.std.proofs.Common.{◌<◌, ◌/◌, arith}
use Rattle.sealed_pages.specs.Buffer.{size_of}
use Rattle.sealed_pages.specs.Shown as page_blob
use Rattle.segments.specs.FixedShown.{shown}
use Rattle.paired.proofs.oversized.replaying.Replay.tracked.Goals as goal
use Rattle.blob_device.proofs.general.Options.{value_of}

pub returns-in_err-index-clause-cause : goal.returns-in_err-index-clause-cause
returns-in_err-index-clause-cause g c =
    let past = c.in_err-index.ensures.past.0 c.in_err-index.ensures.cause in
    let w = value_of ((shown c.args.index).sections.held 0) (λ u. size_of (page_blob.shown u) / g.I.CodecFixed.SIZE < 0) past in
    absurd (omega (arith, w.has))
