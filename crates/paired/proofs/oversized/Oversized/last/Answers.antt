use Rattle.std.proofs.Common.{◌≡◌, ◌+◌, ◌-◌, ◌/◌, inl, inr, false, ap, arith}
use Rattle.blob_device.specs.Timeline.{disk}
use Rattle.sealed_pages.specs.Buffer.{size_of}
use Rattle.sealed_pages.specs.Shown as page_blob
use Rattle.paired.specs.lemmas.pair.Reads.{listed_last, may_read}
use Rattle.sealed_pages.specs.lemmas.looking.Looking.{unchanged_now}
use Rattle.section_manager.specs.Sections.{key_of}
use Rattle.segments.specs.FixedReading.{is_item_held}
use Rattle.paired.specs.PairShown.{shown}
use Rattle.paired.proofs.pair.Reads.{damaged_last, no_item, pair_read}
use Rattle.paired.proofs.oversized.Oversized.last.Goals as goal

pub returns-clause-record : goal.returns-clause-record
returns-clause-record g c t =
    listed_last (shown g.I.Record.place c.args.self.now) (disk (g.D.Device.time c.args.dev.now)) c.args.section g.I.Codec.spelling g.I.Codec.accepted c.last.result c.last.ensures.none (c.last.ensures.item t)

pub returns-clause-damaged : goal.returns-clause-damaged
returns-clause-damaged g c t k is =
    let m = (shown g.I.Record.place c.args.self.now).index.sections in
    damaged_last m g.I.CodecFixed.SIZE g.S.Seal.seal_of (disk (g.D.Device.time c.args.dev.now) (key_of m c.args.section)).content c.args.section k (c.last.ensures.damaged t k is)

pub returns-clause-idle : goal.returns-clause-idle
returns-clause-idle g c why =
    let m = (shown g.I.Record.place c.args.self.now).index.sections in
    c.last.ensures.idle (no_item m _ (disk (g.D.Device.time c.args.dev.now)) c.requires.index.over g.I.CodecFixed.SIZE c.args.section 0
    (λ u. is_item_held g.I.CodecFixed.SIZE u (size_of (page_blob.shown u) / g.I.CodecFixed.SIZE - 1) ≡ false)
    (elim why [
      | inl below ↦ inl below
      | inr (inl none) ↦ inr (inl none)
      | inr (inr few) ↦ inr (inr (omega (arith, few)))
    ]))

pub returns-clause-over : goal.returns-clause-over
returns-clause-over g c =
    let p = shown g.I.Record.place c.args.self.now in
    let m = p.index.sections in
    let s = c.args.section in
    let none_read = no_item m _ (disk (g.D.Device.time c.args.dev.now)) c.requires.index.over g.I.CodecFixed.SIZE s 0 (λ u. is_item_held g.I.CodecFixed.SIZE u (size_of (page_blob.shown u) / g.I.CodecFixed.SIZE - 1) ≡ false) in
    pair_read p _ _ _ _ _ _ c.requires
    (may_read m s (g.I.CodecFixed.SIZE / m.factory.pages.page_size + 2) (key_of m s) (g.D.Device.opened c.args.dev.now) (g.D.Device.opened c.last.new.dev) c.last.ensures.reads (λ none. ap g.D.Device.opened (c.last.ensures.idle (none_read (inr (inl none))))))
    (λ t. unchanged_now _ _ (c.last.ensures.unchanged t))
