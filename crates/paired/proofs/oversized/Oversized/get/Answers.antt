use Rattle.std.proofs.Common.{◌≡◌, ◌+◌, ◌/◌, inl, inr, false, ap, arith}
use Rattle.blob_device.specs.Timeline.{disk}
use Rattle.paired.specs.lemmas.pair.Facts.{proven_of}
use Rattle.paired.specs.lemmas.pair.Reads.{held_by, in_list, listed_answer, may_read}
use Rattle.sealed_pages.specs.lemmas.looking.Looking.{unchanged_now}
use Rattle.section_manager.specs.Sections.{key_of}
use Rattle.segments.specs.FixedItems.{item_at}
use Rattle.segments.specs.FixedLists as fixed
use Rattle.segments.specs.FixedReading.{is_item_held}
use Rattle.paired.specs.PairShown.{shown}
use Rattle.paired.proofs.pair.Reads.{from_floor, not_held, no_item, answered_inside, past_held, undamaged, gives_record, pair_read}
use Rattle.paired.proofs.oversized.Oversized.get.Goals as goal

pub returns-clause-inside : goal.returns-clause-inside
returns-clause-inside g c =
    let m = (shown g.I.Record.place c.args.self.now).index.sections in
    answered_inside m g.I.CodecFixed.SIZE c.args.section c.args.position c.get.result c.get.ensures.guard c.get.ensures.absent c.get.ensures.past

pub returns-clause-record : goal.returns-clause-record
returns-clause-record g c t =
    let p = shown g.I.Record.place c.args.self.now in
    let d = disk (g.D.Device.time c.args.dev.now) in
    listed_answer p d c.args.section g.I.Codec.spelling g.I.Codec.accepted c.args.position c.get.result
    (answered_inside p.index.sections g.I.CodecFixed.SIZE c.args.section c.args.position c.get.result c.get.ensures.guard c.get.ensures.absent c.get.ensures.past) (c.get.ensures.item t)

pub returns-clause-past : goal.returns-clause-past
returns-clause-past g c =
    let m = (shown g.I.Record.place c.args.self.now).index.sections in
    let held = past_held m g.I.CodecFixed.SIZE c.args.section c.args.position in
    (λ past. held.0 (c.get.ensures.past.0 past), λ over. c.get.ensures.past.1 (held.1 over))

pub returns-clause-gives : goal.returns-clause-gives
returns-clause-gives g c t v accepted has =
    let p = shown g.I.Record.place c.args.self.now in
    let d = disk (g.D.Device.time c.args.dev.now) in
    let s = c.args.section in
    let says = c.get.ensures in
    let found = in_list p d s c.args.position (λ e. e.stored ≡ g.I.Codec.spelling v) has in
    let held = held_by p d s c.args.position g.met.I.CodecFixed.fixed.at_least found.0 in
    gives_record g.I.Codec.spelling g.I.Codec.accepted g.I.Codec.refusal g.met.I.Codec.kept g.met.I.Codec.one_value c.get.result v
    (item_at g.I.CodecFixed.SIZE (fixed.section_bytes p.index.sections d s) c.args.position) p.index.sections.floor s c.args.position (g.D.Device.faults c.args.dev.now) (g.D.Device.faults c.get.new.dev)
    accepted found.1 (says.item t)
    (λ pruned. from_floor p.index.sections _ d c.requires.index.over s held (says.guard.0 pruned))
    (λ absent. not_held p.index.sections s held (says.absent.0 absent).1)
    (λ past. omega (arith, found.0, (past_held p.index.sections g.I.CodecFixed.SIZE s c.args.position).0 (says.past.0 past)))
    (λ k is. undamaged g.S.Seal.seal_of g.I.CodecFixed.SIZE p.index _ d c.requires.index t s (proven_of c.requires.whole s) c.args.position k (says.damaged t k is))
    (says.refused t) says.cause

pub returns-clause-idle : goal.returns-clause-idle
returns-clause-idle g c why =
    let m = (shown g.I.Record.place c.args.self.now).index.sections in
    c.get.ensures.idle (no_item m _ (disk (g.D.Device.time c.args.dev.now)) c.requires.index.over g.I.CodecFixed.SIZE c.args.section c.args.position
    (λ u. is_item_held g.I.CodecFixed.SIZE u c.args.position ≡ false) why)

pub returns-clause-over : goal.returns-clause-over
returns-clause-over g c =
    let p = shown g.I.Record.place c.args.self.now in
    let m = p.index.sections in
    let s = c.args.section in
    let none_read = no_item m _ (disk (g.D.Device.time c.args.dev.now)) c.requires.index.over g.I.CodecFixed.SIZE s c.args.position (λ u. is_item_held g.I.CodecFixed.SIZE u c.args.position ≡ false) in
    pair_read p _ _ _ _ _ _ c.requires
    (may_read m s (g.I.CodecFixed.SIZE / m.factory.pages.page_size + 2) (key_of m s) (g.D.Device.opened c.args.dev.now) (g.D.Device.opened c.get.new.dev) c.get.ensures.reads (λ none. ap g.D.Device.opened (c.get.ensures.idle (none_read (inr (inl none))))))
    (λ t. unchanged_now _ _ (c.get.ensures.unchanged t))
