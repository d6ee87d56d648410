use Rattle.std.proofs.Common.{arith}
use Rattle.blob_device.specs.Timeline.{disk}
use Rattle.paired.specs.lemmas.pair.Reads.{frame_held, frame_not_beyond, frame_not_short, held_by, sound_entry}
use Rattle.sealed_pages.specs.lemmas.looking.Looking.{unchanged_now}
use Rattle.paired.specs.glob.Sections as glob
use Rattle.paired.specs.PairShown.{shown}
use Rattle.paired.proofs.pair.Reads.{from_floor, gives_value, pair_read}
use Rattle.paired.proofs.oversized.Oversized.get_value.Goals as goal

pub returns-clause-over : goal.returns-clause-over
returns-clause-over g c = pair_read (shown g.I.Record.place c.args.self.now) _ _ _ _ _ _ c.requires c.get.ensures.reads (λ t. unchanged_now _ _ (c.get.ensures.unchanged t))

pub returns-clause-gives : goal.returns-clause-gives
returns-clause-gives g c t whole position v accepted has =
    let p = shown g.I.Record.place c.args.self.now in
    let d = disk (g.D.Device.time c.args.dev.now) in
    let s = c.args.section in
    let at = c.args.offset in
    let n = c.args.size in
    let says = c.get.ensures in
    let found = sound_entry p d s whole position at n (g.V.Codec.spelling v) has in
    let held = held_by p d s position g.met.I.CodecFixed.fixed.at_least found.0 in
    let sound = found.2 in
    let seal = g.S.Seal.seal_of in
    gives_value seal g.V.Codec.spelling g.V.Codec.accepted g.V.Codec.refusal g.met.V.Codec.kept g.met.V.Codec.one_value c.args.self.now.values.codec_config c.get.result v
    (glob.section_bytes p.values d s) at n p.values.floor s (g.D.Device.faults c.args.dev.now) (g.D.Device.faults c.get.new.dev)
    accepted found.1 sound (says.value t) says.accepted
    (λ pruned. from_floor p.index.sections _ d c.requires.index.over s held (omega (arith, says.guard.0 pruned, c.requires.whole.floors)))
    (λ absent. frame_held p.values _ d c.requires.values t seal s at n sound (says.absent.0 absent).1)
    (λ over. frame_not_beyond p.values _ d c.requires.values t seal s at n sound (says.beyond over))
    (λ short. frame_not_short p.values _ d c.requires.values t seal s at n sound (says.short.0 short))
    (says.mismatch t) (says.refused t) says.cause

-- a section below the floor is not held, and has no record
pub returns-in_err-prune_guard-clause-gives : goal.returns-in_err-prune_guard-clause-gives
returns-in_err-prune_guard-clause-gives g c t whole position v accepted has =
    let p = shown g.I.Record.place c.args.self.now in
    let d = disk (g.D.Device.time c.args.dev.now) in
    let s = c.args.section in
    let found = sound_entry p d s whole position c.args.offset c.args.size (g.V.Codec.spelling v) has in
    let held = held_by p d s position g.met.I.CodecFixed.fixed.at_least found.0 in
    let says = c.in_err-prune_guard.ensures in
    absurd (from_floor p.index.sections _ d c.requires.index.over s held (says.guard.0 says.cause))
