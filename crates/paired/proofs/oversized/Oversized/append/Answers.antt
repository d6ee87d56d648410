use Rattle.std.proofs.Common.{◌≡◌, ◌++◌, ℕ, List, inl, IsSome, length, refl, sym, ◌∙◌, ap, subst}
use Rattle.blob_device.specs.Timeline.{disk}
use Rattle.section_manager.specs.managing.Managed as managed
use Rattle.segments.specs.FixedLists.{section_bytes}
use Rattle.segments.specs.FixedShown as fixed
use Rattle.segments.specs.lemmas.adding.Write.{are_pages}
use Rattle.paired.specs.Frames.{frame}
use Rattle.paired.specs.glob.Sections as glob
use Rattle.paired.specs.PairShown.{shown}
use Rattle.paired.proofs.pair.Appended.{GetsValue, GetsRecord, is_laid, value_blobs, untouched_value, untouched_record, index_bytes_on, values_bytes_on, value_order, record_order, index_on, still_keeps, value_keeps, record_keeps_as, list_now_as, other_list_now, pair_again, sound_again}
use Rattle.paired.proofs.oversized.Oversized.append.Goals as goal

pub returns-clause-tails : goal.returns-clause-tails
returns-clause-tails g c = record { records = c.in_ok-index.ensures.tail; values = c.in_ok-values.ensures.tail }

pub returns-in_err-frame_size-clause-moments : goal.returns-in_err-frame_size-clause-moments
returns-in_err-frame_size-clause-moments g c t sound =
    let laid = is_laid c.requires.over (are_pages g.row.S g.S.Seal g.S.Seal-dict) refl refl refl refl refl g.met.I.CodecFixed.fixed.at_least in
    still_keeps (shown g.I.Record.place c.args.self) (g.D.Device.opened c.args.dev.now) (g.D.Device.time c.args.dev.now) c.requires.over laid t sound.sound sound.floor _ _

pub returns-in_err-is_full-clause-moments : goal.returns-in_err-is_full-clause-moments
returns-in_err-is_full-clause-moments g c t sound =
    let laid = is_laid c.requires.over (are_pages g.row.S g.S.Seal g.S.Seal-dict) refl refl refl refl refl g.met.I.CodecFixed.fixed.at_least in
    still_keeps (shown g.I.Record.place c.args.self) (g.D.Device.opened c.args.dev.now) (g.D.Device.time c.args.dev.now) c.requires.over laid t sound.sound sound.floor _ _

pub returns-then-branch-clause-moments : goal.returns-then-branch-clause-moments
returns-then-branch-clause-moments g c t sound =
    let laid = is_laid c.requires.over (are_pages g.row.S g.S.Seal g.S.Seal-dict) refl refl refl refl refl g.met.I.CodecFixed.fixed.at_least in
    still_keeps (shown g.I.Record.place c.args.self) (g.D.Device.opened c.args.dev.now) (g.D.Device.time c.args.dev.now) c.requires.over laid t sound.sound sound.floor _ _

pub returns-in_err-values-clause-moments : goal.returns-in_err-values-clause-moments
returns-in_err-values-clause-moments g c t sound =
    let laid = is_laid c.requires.over (are_pages g.row.S g.S.Seal g.S.Seal-dict) refl refl refl refl refl g.met.I.CodecFixed.fixed.at_least in
    value_keeps (shown g.I.Record.place c.args.self) (g.D.Device.opened c.args.dev.now) (g.D.Device.time c.args.dev.now) c.requires.over laid t sound.sound c.args.section c.ranges.section.fits (g.V.Codec.spelling c.args.value.now) (g.D.Device.time c.append.new.dev) (record { moments = c.append.ensures.moments t; made = c.append.ensures.made t }) sound.floor _

pub returns-in_err-values-clause-order : goal.returns-in_err-values-clause-order
returns-in_err-values-clause-order g c t =
    let laid = is_laid c.requires.over (are_pages g.row.S g.S.Seal g.S.Seal-dict) refl refl refl refl refl g.met.I.CodecFixed.fixed.at_least in
    value_order (shown g.I.Record.place c.args.self) (g.D.Device.opened c.args.dev.now) (g.D.Device.time c.args.dev.now) c.requires.over laid _ c.args.section (g.V.Codec.spelling c.args.value.now) (g.D.Device.time c.append.new.dev) (record { moments = c.append.ensures.moments t; made = c.append.ensures.made t })

pub append-requires-2-clause-over : goal.append-requires-2-clause-over
append-requires-2-clause-over g c =
    let laid = is_laid c.requires.over (are_pages g.row.S g.S.Seal g.S.Seal-dict) refl refl refl refl refl g.met.I.CodecFixed.fixed.at_least in
    index_on (shown g.I.Record.place c.args.self) (g.D.Device.opened c.args.dev.now) (g.D.Device.time c.args.dev.now) c.requires.over laid c.args.section (g.D.Device.opened c.append.new.dev) _ c.append.ensures.entries (λ t. value_blobs (shown g.I.Record.place c.args.self) c.args.section (g.V.Codec.spelling c.args.value.now) (g.D.Device.time c.args.dev.now) (g.D.Device.time c.append.new.dev) (record { moments = c.append.ensures.moments t; made = c.append.ensures.made t }))

pub returns-in_err-index-clause-moments : goal.returns-in_err-index-clause-moments
returns-in_err-index-clause-moments g c t sound =
    let laid = is_laid c.requires.over (are_pages g.row.S g.S.Seal g.S.Seal-dict) refl refl refl refl refl g.met.I.CodecFixed.fixed.at_least in
    let value : GetsValue (shown g.I.Record.place c.args.self) c.args.section _ g.D.Device.Tells (g.V.Codec.spelling c.args.value.now) (managed.shown c.in_ok-values.values.manager) (g.D.Device.opened c.args.dev.now) (g.D.Device.opened c.append.new.dev) (g.D.Device.time c.args.dev.now) (g.D.Device.time c.append.new.dev) = record {
      over = c.in_ok-values.ensures.over;
      bytes = c.in_ok-values.ensures.bytes;
      held = c.in_ok-values.ensures.held;
      settled = c.in_ok-values.ensures.settled;
      others = c.in_ok-values.ensures.others;
      other_bytes = c.in_ok-values.ensures.other_bytes;
      bounds = c.in_ok-values.ensures.bounds;
      entries = c.append.ensures.entries;
      adds = λ t. (record { moments = c.append.ensures.moments t; made = c.append.ensures.made t });
    } in
    let long : length (g.I.Codec.spelling c.naming-entry.result) ≡ g.I.CodecFixed.SIZE = g.met.I.CodecFixed.fixed.sized c.naming-entry.result c.naming-entry.ensures.accepted in
    let at : c.in_ok-values.offset ≡ glob.section_size (shown g.I.Record.place c.args.self).values c.args.section = c.in_ok-values.ensures.place (inl t) in
    let size : c.in_ok-values.size ≡ length (frame g.S.Seal.seal_of (g.V.Codec.spelling c.args.value.now)) = c.in_ok-values.ensures.size in
    let names : g.I.Record.place (g.I.Codec.spelling c.naming-entry.result) ≡ (glob.section_size (shown g.I.Record.place c.args.self).values c.args.section, length (frame g.S.Seal.seal_of (g.V.Codec.spelling c.args.value.now))) = c.naming-entry.ensures.place ∙ (λ i. (at i, size i)) in
    let same : g.I.Codec.spelling c.naming-entry.result ≡ g.I.Codec.spelling (g.I.Record.located c.args.entry (glob.section_size (shown g.I.Record.place c.args.self).values c.args.section) (length (frame g.S.Seal.seal_of (g.V.Codec.spelling c.args.value.now)))) =
    ap g.I.Codec.spelling c.naming-entry.ensures.located ∙ (λ i. g.I.Codec.spelling (g.I.Record.located c.args.entry (at i) (size i))) in
    record_keeps_as (shown g.I.Record.place c.args.self) (g.D.Device.opened c.args.dev.now) (g.D.Device.time c.args.dev.now) c.requires.over laid t sound.sound c.args.section c.ranges.section.fits (g.V.Codec.spelling c.args.value.now) (g.D.Device.time c.append.new.dev) (record { moments = c.append.ensures.moments t; made = c.append.ensures.made t }) (g.I.Codec.spelling c.naming-entry.result) (g.met.S.Seal.fits (g.V.Codec.spelling c.args.value.now)) long names (managed.shown c.in_ok-values.values.manager) (g.D.Device.opened c.args.dev.now) (g.D.Device.opened c.append.new.dev) value (g.D.Device.time c.append-2.new.dev) (record { alone = c.append-2.ensures.alone t; moments = c.append-2.ensures.moments t; made = c.append-2.ensures.made t }) sound.floor _ same

pub returns-in_err-index-clause-order : goal.returns-in_err-index-clause-order
returns-in_err-index-clause-order g c t =
    let laid = is_laid c.requires.over (are_pages g.row.S g.S.Seal g.S.Seal-dict) refl refl refl refl refl g.met.I.CodecFixed.fixed.at_least in
    record_order (shown g.I.Record.place c.args.self) (g.D.Device.opened c.args.dev.now) (g.D.Device.time c.args.dev.now) c.requires.over laid _ c.args.section (g.V.Codec.spelling c.args.value.now) (g.D.Device.time c.append.new.dev) (record { moments = c.append.ensures.moments t; made = c.append.ensures.made t }) (g.I.Codec.spelling c.naming-entry.result) (g.D.Device.time c.append-2.new.dev) (record { alone = c.append-2.ensures.alone t; moments = c.append-2.ensures.moments t; made = c.append-2.ensures.made t })

pub returns-in_err-index-clause-below : goal.returns-in_err-index-clause-below
returns-in_err-index-clause-below g c u v index values flushes few =
    c.append-2.ensures.below u index flushes ∙ c.append.ensures.below (subst IsSome (sym values) refl) few

pub returns-clause-below : goal.returns-clause-below
returns-clause-below g c u v index values flushes few =
    c.append-2.ensures.below u index flushes ∙ c.append.ensures.below (subst IsSome (sym values) refl) few

pub returns-clause-over : goal.returns-clause-over
returns-clause-over g c =
    let laid = is_laid c.requires.over (are_pages g.row.S g.S.Seal g.S.Seal-dict) refl refl refl refl refl g.met.I.CodecFixed.fixed.at_least in
    let value : GetsValue (shown g.I.Record.place c.args.self) c.args.section _ g.D.Device.Tells (g.V.Codec.spelling c.args.value.now) (managed.shown c.in_ok-values.values.manager) (g.D.Device.opened c.args.dev.now) (g.D.Device.opened c.append.new.dev) (g.D.Device.time c.args.dev.now) (g.D.Device.time c.append.new.dev) = record {
      over = c.in_ok-values.ensures.over;
      bytes = c.in_ok-values.ensures.bytes;
      held = c.in_ok-values.ensures.held;
      settled = c.in_ok-values.ensures.settled;
      others = c.in_ok-values.ensures.others;
      other_bytes = c.in_ok-values.ensures.other_bytes;
      bounds = c.in_ok-values.ensures.bounds;
      entries = c.append.ensures.entries;
      adds = λ t. (record { moments = c.append.ensures.moments t; made = c.append.ensures.made t });
    } in
    let item : GetsRecord (shown g.I.Record.place c.args.self) c.args.section _ _ g.D.Device.Tells (g.I.Codec.spelling c.naming-entry.result) (fixed.shown c.in_ok-index.index) (g.D.Device.opened c.append.new.dev) (g.D.Device.opened c.append-2.new.dev) (g.D.Device.time c.append.new.dev) (g.D.Device.time c.append-2.new.dev) = record {
      over = c.in_ok-index.ensures.over;
      bytes = c.in_ok-index.ensures.bytes;
      size = c.in_ok-index.ensures.size;
      held = c.in_ok-index.ensures.held;
      settled = c.in_ok-index.ensures.settled;
      others = c.in_ok-index.ensures.others;
      bounds = c.in_ok-index.ensures.bounds;
      unrecovered = c.in_ok-index.ensures.unrecovered;
      floors = c.in_ok-index.ensures.floors;
      entries = c.append-2.ensures.entries;
      adds = λ t. (record { alone = c.append-2.ensures.alone t; moments = c.append-2.ensures.moments t; made = c.append-2.ensures.made t });
    } in
    pair_again (shown g.I.Record.place c.args.self) (g.D.Device.opened c.args.dev.now) (g.D.Device.time c.args.dev.now) c.requires.over laid c.args.section c.ranges.section.fits (g.V.Codec.spelling c.args.value.now) (g.I.Codec.spelling c.naming-entry.result) (managed.shown c.in_ok-values.values.manager) (fixed.shown c.in_ok-index.index) (g.D.Device.opened c.append.new.dev) (g.D.Device.opened c.append-2.new.dev) (g.D.Device.time c.append.new.dev) (g.D.Device.time c.append-2.new.dev) value item _ _ _ c.in_ok-index.ensures.bounds.place.partition c.in_ok-values.ensures.bounds.place.partition

pub returns-clause-sound : goal.returns-clause-sound
returns-clause-sound g c t sound =
    let laid = is_laid c.requires.over (are_pages g.row.S g.S.Seal g.S.Seal-dict) refl refl refl refl refl g.met.I.CodecFixed.fixed.at_least in
    let value : GetsValue (shown g.I.Record.place c.args.self) c.args.section _ g.D.Device.Tells (g.V.Codec.spelling c.args.value.now) (managed.shown c.in_ok-values.values.manager) (g.D.Device.opened c.args.dev.now) (g.D.Device.opened c.append.new.dev) (g.D.Device.time c.args.dev.now) (g.D.Device.time c.append.new.dev) = record {
      over = c.in_ok-values.ensures.over;
      bytes = c.in_ok-values.ensures.bytes;
      held = c.in_ok-values.ensures.held;
      settled = c.in_ok-values.ensures.settled;
      others = c.in_ok-values.ensures.others;
      other_bytes = c.in_ok-values.ensures.other_bytes;
      bounds = c.in_ok-values.ensures.bounds;
      entries = c.append.ensures.entries;
      adds = λ t. (record { moments = c.append.ensures.moments t; made = c.append.ensures.made t });
    } in
    let item : GetsRecord (shown g.I.Record.place c.args.self) c.args.section _ _ g.D.Device.Tells (g.I.Codec.spelling c.naming-entry.result) (fixed.shown c.in_ok-index.index) (g.D.Device.opened c.append.new.dev) (g.D.Device.opened c.append-2.new.dev) (g.D.Device.time c.append.new.dev) (g.D.Device.time c.append-2.new.dev) = record {
      over = c.in_ok-index.ensures.over;
      bytes = c.in_ok-index.ensures.bytes;
      size = c.in_ok-index.ensures.size;
      held = c.in_ok-index.ensures.held;
      settled = c.in_ok-index.ensures.settled;
      others = c.in_ok-index.ensures.others;
      bounds = c.in_ok-index.ensures.bounds;
      unrecovered = c.in_ok-index.ensures.unrecovered;
      floors = c.in_ok-index.ensures.floors;
      entries = c.append-2.ensures.entries;
      adds = λ t. (record { alone = c.append-2.ensures.alone t; moments = c.append-2.ensures.moments t; made = c.append-2.ensures.made t });
    } in
    let long : length (g.I.Codec.spelling c.naming-entry.result) ≡ g.I.CodecFixed.SIZE = g.met.I.CodecFixed.fixed.sized c.naming-entry.result c.naming-entry.ensures.accepted in
    let at : c.in_ok-values.offset ≡ glob.section_size (shown g.I.Record.place c.args.self).values c.args.section = c.in_ok-values.ensures.place (inl t) in
    let size : c.in_ok-values.size ≡ length (frame g.S.Seal.seal_of (g.V.Codec.spelling c.args.value.now)) = c.in_ok-values.ensures.size in
    let names : g.I.Record.place (g.I.Codec.spelling c.naming-entry.result) ≡ (glob.section_size (shown g.I.Record.place c.args.self).values c.args.section, length (frame g.S.Seal.seal_of (g.V.Codec.spelling c.args.value.now))) = c.naming-entry.ensures.place ∙ (λ i. (at i, size i)) in
    sound_again (shown g.I.Record.place c.args.self) (g.D.Device.opened c.args.dev.now) (g.D.Device.time c.args.dev.now) c.requires.over laid c.args.section c.ranges.section.fits (g.V.Codec.spelling c.args.value.now) (g.I.Codec.spelling c.naming-entry.result) (managed.shown c.in_ok-values.values.manager) (fixed.shown c.in_ok-index.index) (g.D.Device.opened c.append.new.dev) (g.D.Device.opened c.append-2.new.dev) (g.D.Device.time c.append.new.dev) (g.D.Device.time c.append-2.new.dev) value item _ _ _ c.in_ok-index.ensures.bounds.place.partition c.in_ok-values.ensures.bounds.place.partition t sound (g.met.S.Seal.fits (g.V.Codec.spelling c.args.value.now)) long names

pub returns-clause-list : goal.returns-clause-list
returns-clause-list g c t sound =
    let laid = is_laid c.requires.over (are_pages g.row.S g.S.Seal g.S.Seal-dict) refl refl refl refl refl g.met.I.CodecFixed.fixed.at_least in
    let value : GetsValue (shown g.I.Record.place c.args.self) c.args.section _ g.D.Device.Tells (g.V.Codec.spelling c.args.value.now) (managed.shown c.in_ok-values.values.manager) (g.D.Device.opened c.args.dev.now) (g.D.Device.opened c.append.new.dev) (g.D.Device.time c.args.dev.now) (g.D.Device.time c.append.new.dev) = record {
      over = c.in_ok-values.ensures.over;
      bytes = c.in_ok-values.ensures.bytes;
      held = c.in_ok-values.ensures.held;
      settled = c.in_ok-values.ensures.settled;
      others = c.in_ok-values.ensures.others;
      other_bytes = c.in_ok-values.ensures.other_bytes;
      bounds = c.in_ok-values.ensures.bounds;
      entries = c.append.ensures.entries;
      adds = λ t. (record { moments = c.append.ensures.moments t; made = c.append.ensures.made t });
    } in
    let item : GetsRecord (shown g.I.Record.place c.args.self) c.args.section _ _ g.D.Device.Tells (g.I.Codec.spelling c.naming-entry.result) (fixed.shown c.in_ok-index.index) (g.D.Device.opened c.append.new.dev) (g.D.Device.opened c.append-2.new.dev) (g.D.Device.time c.append.new.dev) (g.D.Device.time c.append-2.new.dev) = record {
      over = c.in_ok-index.ensures.over;
      bytes = c.in_ok-index.ensures.bytes;
      size = c.in_ok-index.ensures.size;
      held = c.in_ok-index.ensures.held;
      settled = c.in_ok-index.ensures.settled;
      others = c.in_ok-index.ensures.others;
      bounds = c.in_ok-index.ensures.bounds;
      unrecovered = c.in_ok-index.ensures.unrecovered;
      floors = c.in_ok-index.ensures.floors;
      entries = c.append-2.ensures.entries;
      adds = λ t. (record { alone = c.append-2.ensures.alone t; moments = c.append-2.ensures.moments t; made = c.append-2.ensures.made t });
    } in
    let long : length (g.I.Codec.spelling c.naming-entry.result) ≡ g.I.CodecFixed.SIZE = g.met.I.CodecFixed.fixed.sized c.naming-entry.result c.naming-entry.ensures.accepted in
    let at : c.in_ok-values.offset ≡ glob.section_size (shown g.I.Record.place c.args.self).values c.args.section = c.in_ok-values.ensures.place (inl t) in
    let size : c.in_ok-values.size ≡ length (frame g.S.Seal.seal_of (g.V.Codec.spelling c.args.value.now)) = c.in_ok-values.ensures.size in
    let names : g.I.Record.place (g.I.Codec.spelling c.naming-entry.result) ≡ (glob.section_size (shown g.I.Record.place c.args.self).values c.args.section, length (frame g.S.Seal.seal_of (g.V.Codec.spelling c.args.value.now))) = c.naming-entry.ensures.place ∙ (λ i. (at i, size i)) in
    let same : g.I.Codec.spelling c.naming-entry.result ≡ g.I.Codec.spelling (g.I.Record.located c.args.entry (glob.section_size (shown g.I.Record.place c.args.self).values c.args.section) (length (frame g.S.Seal.seal_of (g.V.Codec.spelling c.args.value.now)))) =
    ap g.I.Codec.spelling c.naming-entry.ensures.located ∙ (λ i. g.I.Codec.spelling (g.I.Record.located c.args.entry (at i) (size i))) in
    list_now_as (shown g.I.Record.place c.args.self) (g.D.Device.opened c.args.dev.now) (g.D.Device.time c.args.dev.now) c.requires.over laid t sound c.args.section c.ranges.section.fits (g.V.Codec.spelling c.args.value.now) (g.D.Device.time c.append.new.dev) (record { moments = c.append.ensures.moments t; made = c.append.ensures.made t }) (g.I.Codec.spelling c.naming-entry.result) (g.met.S.Seal.fits (g.V.Codec.spelling c.args.value.now)) long names (managed.shown c.in_ok-values.values.manager) (g.D.Device.opened c.append.new.dev) (g.D.Device.opened c.append-2.new.dev) value (fixed.shown c.in_ok-index.index) (g.D.Device.time c.append-2.new.dev) item _ same

pub returns-clause-other_lists : goal.returns-clause-other_lists
returns-clause-other_lists g c t q other =
    let laid = is_laid c.requires.over (are_pages g.row.S g.S.Seal g.S.Seal-dict) refl refl refl refl refl g.met.I.CodecFixed.fixed.at_least in
    let value : GetsValue (shown g.I.Record.place c.args.self) c.args.section _ g.D.Device.Tells (g.V.Codec.spelling c.args.value.now) (managed.shown c.in_ok-values.values.manager) (g.D.Device.opened c.args.dev.now) (g.D.Device.opened c.append.new.dev) (g.D.Device.time c.args.dev.now) (g.D.Device.time c.append.new.dev) = record {
      over = c.in_ok-values.ensures.over;
      bytes = c.in_ok-values.ensures.bytes;
      held = c.in_ok-values.ensures.held;
      settled = c.in_ok-values.ensures.settled;
      others = c.in_ok-values.ensures.others;
      other_bytes = c.in_ok-values.ensures.other_bytes;
      bounds = c.in_ok-values.ensures.bounds;
      entries = c.append.ensures.entries;
      adds = λ t. (record { moments = c.append.ensures.moments t; made = c.append.ensures.made t });
    } in
    let item : GetsRecord (shown g.I.Record.place c.args.self) c.args.section _ _ g.D.Device.Tells (g.I.Codec.spelling c.naming-entry.result) (fixed.shown c.in_ok-index.index) (g.D.Device.opened c.append.new.dev) (g.D.Device.opened c.append-2.new.dev) (g.D.Device.time c.append.new.dev) (g.D.Device.time c.append-2.new.dev) = record {
      over = c.in_ok-index.ensures.over;
      bytes = c.in_ok-index.ensures.bytes;
      size = c.in_ok-index.ensures.size;
      held = c.in_ok-index.ensures.held;
      settled = c.in_ok-index.ensures.settled;
      others = c.in_ok-index.ensures.others;
      bounds = c.in_ok-index.ensures.bounds;
      unrecovered = c.in_ok-index.ensures.unrecovered;
      floors = c.in_ok-index.ensures.floors;
      entries = c.append-2.ensures.entries;
      adds = λ t. (record { alone = c.append-2.ensures.alone t; moments = c.append-2.ensures.moments t; made = c.append-2.ensures.made t });
    } in
    other_list_now (shown g.I.Record.place c.args.self) (g.D.Device.opened c.args.dev.now) (g.D.Device.time c.args.dev.now) c.requires.over laid c.args.section c.ranges.section.fits (g.V.Codec.spelling c.args.value.now) (g.I.Codec.spelling c.naming-entry.result) (managed.shown c.in_ok-values.values.manager) (fixed.shown c.in_ok-index.index) (g.D.Device.opened c.append.new.dev) (g.D.Device.opened c.append-2.new.dev) (g.D.Device.time c.append.new.dev) (g.D.Device.time c.append-2.new.dev) value item t q other

pub returns-clause-moments : goal.returns-clause-moments
returns-clause-moments g c t sound =
    let laid = is_laid c.requires.over (are_pages g.row.S g.S.Seal g.S.Seal-dict) refl refl refl refl refl g.met.I.CodecFixed.fixed.at_least in
    let value : GetsValue (shown g.I.Record.place c.args.self) c.args.section _ g.D.Device.Tells (g.V.Codec.spelling c.args.value.now) (managed.shown c.in_ok-values.values.manager) (g.D.Device.opened c.args.dev.now) (g.D.Device.opened c.append.new.dev) (g.D.Device.time c.args.dev.now) (g.D.Device.time c.append.new.dev) = record {
      over = c.in_ok-values.ensures.over;
      bytes = c.in_ok-values.ensures.bytes;
      held = c.in_ok-values.ensures.held;
      settled = c.in_ok-values.ensures.settled;
      others = c.in_ok-values.ensures.others;
      other_bytes = c.in_ok-values.ensures.other_bytes;
      bounds = c.in_ok-values.ensures.bounds;
      entries = c.append.ensures.entries;
      adds = λ t. (record { moments = c.append.ensures.moments t; made = c.append.ensures.made t });
    } in
    let long : length (g.I.Codec.spelling c.naming-entry.result) ≡ g.I.CodecFixed.SIZE = g.met.I.CodecFixed.fixed.sized c.naming-entry.result c.naming-entry.ensures.accepted in
    let at : c.in_ok-values.offset ≡ glob.section_size (shown g.I.Record.place c.args.self).values c.args.section = c.in_ok-values.ensures.place (inl t) in
    let size : c.in_ok-values.size ≡ length (frame g.S.Seal.seal_of (g.V.Codec.spelling c.args.value.now)) = c.in_ok-values.ensures.size in
    let names : g.I.Record.place (g.I.Codec.spelling c.naming-entry.result) ≡ (glob.section_size (shown g.I.Record.place c.args.self).values c.args.section, length (frame g.S.Seal.seal_of (g.V.Codec.spelling c.args.value.now))) = c.naming-entry.ensures.place ∙ (λ i. (at i, size i)) in
    let same : g.I.Codec.spelling c.naming-entry.result ≡ g.I.Codec.spelling (g.I.Record.located c.args.entry (glob.section_size (shown g.I.Record.place c.args.self).values c.args.section) (length (frame g.S.Seal.seal_of (g.V.Codec.spelling c.args.value.now)))) =
    ap g.I.Codec.spelling c.naming-entry.ensures.located ∙ (λ i. g.I.Codec.spelling (g.I.Record.located c.args.entry (at i) (size i))) in
    record_keeps_as (shown g.I.Record.place c.args.self) (g.D.Device.opened c.args.dev.now) (g.D.Device.time c.args.dev.now) c.requires.over laid t sound.sound c.args.section c.ranges.section.fits (g.V.Codec.spelling c.args.value.now) (g.D.Device.time c.append.new.dev) (record { moments = c.append.ensures.moments t; made = c.append.ensures.made t }) (g.I.Codec.spelling c.naming-entry.result) (g.met.S.Seal.fits (g.V.Codec.spelling c.args.value.now)) long names (managed.shown c.in_ok-values.values.manager) (g.D.Device.opened c.args.dev.now) (g.D.Device.opened c.append.new.dev) value (g.D.Device.time c.append-2.new.dev) (record { alone = c.append-2.ensures.alone t; moments = c.append-2.ensures.moments t; made = c.append-2.ensures.made t }) sound.floor _ same

pub returns-clause-order : goal.returns-clause-order
returns-clause-order g c t =
    let laid = is_laid c.requires.over (are_pages g.row.S g.S.Seal g.S.Seal-dict) refl refl refl refl refl g.met.I.CodecFixed.fixed.at_least in
    record_order (shown g.I.Record.place c.args.self) (g.D.Device.opened c.args.dev.now) (g.D.Device.time c.args.dev.now) c.requires.over laid _ c.args.section (g.V.Codec.spelling c.args.value.now) (g.D.Device.time c.append.new.dev) (record { moments = c.append.ensures.moments t; made = c.append.ensures.made t }) (g.I.Codec.spelling c.naming-entry.result) (g.D.Device.time c.append-2.new.dev) (record { alone = c.append-2.ensures.alone t; moments = c.append-2.ensures.moments t; made = c.append-2.ensures.made t })

pub returns-in_err-values-clause-untouched : goal.returns-in_err-values-clause-untouched
returns-in_err-values-clause-untouched g c t = untouched_value (shown g.I.Record.place c.args.self) c.args.section (g.V.Codec.spelling c.args.value.now) (g.D.Device.time c.args.dev.now) (g.D.Device.time c.append.new.dev) (record { moments = c.append.ensures.moments t; made = c.append.ensures.made t })

pub returns-in_err-index-clause-untouched : goal.returns-in_err-index-clause-untouched
returns-in_err-index-clause-untouched g c t = untouched_record (shown g.I.Record.place c.args.self) c.args.section (g.V.Codec.spelling c.args.value.now) (g.I.Codec.spelling c.naming-entry.result) (g.D.Device.time c.args.dev.now) (g.D.Device.time c.append.new.dev) (g.D.Device.time c.append-2.new.dev)
    (record { moments = c.append.ensures.moments t; made = c.append.ensures.made t }) (record { alone = c.append-2.ensures.alone t; moments = c.append-2.ensures.moments t; made = c.append-2.ensures.made t })

pub returns-clause-untouched : goal.returns-clause-untouched
returns-clause-untouched g c t = untouched_record (shown g.I.Record.place c.args.self) c.args.section (g.V.Codec.spelling c.args.value.now) (g.I.Codec.spelling c.naming-entry.result) (g.D.Device.time c.args.dev.now) (g.D.Device.time c.append.new.dev) (g.D.Device.time c.append-2.new.dev)
    (record { moments = c.append.ensures.moments t; made = c.append.ensures.made t }) (record { alone = c.append-2.ensures.alone t; moments = c.append-2.ensures.moments t; made = c.append-2.ensures.made t })

pub returns-clause-records : goal.returns-clause-records
returns-clause-records g c t =
    let laid = is_laid c.requires.over (are_pages g.row.S g.S.Seal g.S.Seal-dict) refl refl refl refl refl g.met.I.CodecFixed.fixed.at_least in
    let was : List ℕ = section_bytes (shown g.I.Record.place c.args.self).index.sections (disk (g.D.Device.time c.args.dev.now)) c.args.section in
    c.in_ok-index.ensures.bytes t
    ∙ ap (λ (l : List ℕ). l ++ g.I.Codec.spelling c.naming-entry.result) (index_bytes_on (shown g.I.Record.place c.args.self) (g.D.Device.opened c.args.dev.now) (g.D.Device.time c.args.dev.now) c.requires.over laid c.args.section (g.V.Codec.spelling c.args.value.now) (g.D.Device.time c.append.new.dev) (record { moments = c.append.ensures.moments t; made = c.append.ensures.made t }))
    ∙ ap (λ (l : List ℕ). was ++ l) (ap g.I.Codec.spelling c.naming-entry.ensures.located)

pub returns-clause-values : goal.returns-clause-values
returns-clause-values g c t =
    let laid = is_laid c.requires.over (are_pages g.row.S g.S.Seal g.S.Seal-dict) refl refl refl refl refl g.met.I.CodecFixed.fixed.at_least in
    values_bytes_on (shown g.I.Record.place c.args.self) (g.D.Device.opened c.args.dev.now) (g.D.Device.time c.args.dev.now) c.requires.over laid c.args.section (managed.shown c.in_ok-values.values.manager) c.in_ok-values.ensures.bounds (g.I.Codec.spelling c.naming-entry.result) (g.D.Device.time c.append.new.dev) (g.D.Device.time c.append-2.new.dev) (record { alone = c.append-2.ensures.alone t; moments = c.append-2.ensures.moments t; made = c.append-2.ensures.made t })
    ∙ c.in_ok-values.ensures.bytes t

pub returns-clause-others : goal.returns-clause-others
returns-clause-others g c s other = (c.in_ok-index.ensures.others s other, c.in_ok-values.ensures.others s other)

pub returns-in_err-index-clause-entries : goal.returns-in_err-index-clause-entries
returns-in_err-index-clause-entries g c q index values = c.append-2.ensures.entries q index ∙ c.append.ensures.entries q values

pub returns-clause-entries : goal.returns-clause-entries
returns-clause-entries g c q index values = c.append-2.ensures.entries q index ∙ c.append.ensures.entries q values
