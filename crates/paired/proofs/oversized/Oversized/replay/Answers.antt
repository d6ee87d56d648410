use Rattle.std.proofs.Common.{refl, sym, ◌∙◌, ap, subst}
use Rattle.blob_device.specs.Timeline.{disk}
use Rattle.section_manager.specs.managing.Managed as managed
use Rattle.meta_store.specs.Calls.{IsOpened}
use Rattle.meta_store.specs.Store.{Stands, contents_of}
use Rattle.sealed_pages.specs.declared.page_blob.PageBlob.{PageBlob}
use Rattle.section_manager.specs.declared.sealed.AppendFactory.{AppendFactory}
use Rattle.segments.specs.FixedLists.{Lists}
use Rattle.paired.specs.Pair.{Pair, AreApart, AreWhole, AreMarkers, HasSettled, IsSoundOn, list_of}
use Rattle.paired.specs.PairShown.{shown}
use Rattle.paired.proofs.RunLemmas.{paired_same, values_as}
use Rattle.paired.proofs.oversized.Oversized.replay.Goals as goal

pub returns-clause-over : goal.returns-clause-over
returns-clause-over g c =
    let p = shown g.I.Record.place c.args.self in
    let same = paired_same p _ _ refl c.in_ok-index.ensures.begins.journal (ap managed.shown c.of.ensures.manager) in
    let was = c.requires.over in
    let dev = sym c.replay.ensures.unchanged in
    record {
      index = c.in_ok-index.ensures.over;
      values = values_as p.values (managed.shown c.of.result.manager) (g.D.Device.opened c.args.dev.now) (g.D.Device.opened c.replay.new.dev) (disk (g.D.Device.time c.args.dev.now)) (disk (g.D.Device.time c.replay.new.dev))
          (ap managed.shown c.of.ensures.manager) (ap (λ x. g.D.Device.opened x) c.replay.ensures.unchanged) (ap (λ x. disk (g.D.Device.time x)) c.replay.ensures.unchanged) was.values;
      apart = subst (λ q. AreApart q.layout) (sym same) was.apart;
      metadata_opened = subst (λ x. IsOpened p.store.partition (g.D.Device.opened x)) dev was.metadata_opened;
      storable = was.storable;
      synced = was.synced;
      markers = λ t. subst (λ x. Stands p.layout.markers p.store (contents_of p.store) (disk (g.D.Device.time x))) dev ((was.disk t).markers);
      opening = λ is. absurd (cc is);
      live = λ is. record {
        whole = λ known. subst AreWhole (sym same) was.whole;
        markers = λ known. subst AreMarkers (sym same) was.markers;
        settled = λ known. subst HasSettled (sym same) was.settled;
        known = λ going s. ap (λ (j : Lists (AppendFactory g.row.S.Denot) (PageBlob g.row.S.Denot g.S.Seal)). j.sections.unopened s) c.in_ok-index.ensures.begins.journal ∙ was.whole.index_known s;
        proven = λ s. record {
          checked = ap (λ (j : Lists (AppendFactory g.row.S.Denot) (PageBlob g.row.S.Denot g.S.Seal)). j.unrecovered s) c.in_ok-index.ensures.begins.journal ∙ was.whole.recovered s;
          free = ap (λ (j : Lists (AppendFactory g.row.S.Denot) (PageBlob g.row.S.Denot g.S.Seal)). j.floor_of s) c.in_ok-index.ensures.begins.journal ∙ was.whole.unfloored s;
        };
        ends = λ s. (c.none.ensures s).0;
        goes_on = refl;
      };
    }

pub returns-clause-lists : goal.returns-clause-lists
returns-clause-lists g c t s =
    let p = shown g.I.Record.place c.args.self in
    let same = paired_same p _ _ refl c.in_ok-index.ensures.begins.journal (ap managed.shown c.of.ensures.manager) in
    ap (λ (q : Pair (AppendFactory g.row.S.Denot) (PageBlob g.row.S.Denot g.S.Seal)). list_of q (disk (g.D.Device.time c.replay.new.dev)) s) same
    ∙ ap (λ x. list_of p (disk (g.D.Device.time x)) s) c.replay.ensures.unchanged

pub returns-clause-sound : goal.returns-clause-sound
returns-clause-sound g c t sound =
    let p = shown g.I.Record.place c.args.self in
    let same = paired_same p _ _ refl c.in_ok-index.ensures.begins.journal (ap managed.shown c.of.ensures.manager) in
    subst (λ (q : Pair (AppendFactory g.row.S.Denot) (PageBlob g.row.S.Denot g.S.Seal)). IsSoundOn q (disk (g.D.Device.time c.replay.new.dev))) (sym same)
    (subst (λ x. IsSoundOn p (disk (g.D.Device.time x))) (sym c.replay.ensures.unchanged) sound)

pub returns-clause-layout : goal.returns-clause-layout
returns-clause-layout g c =
    let p = shown g.I.Record.place c.args.self in
    let same = paired_same p _ _ refl c.in_ok-index.ensures.begins.journal (ap managed.shown c.of.ensures.manager) in
    record {
      index = ap (λ q. q.layout.index) same;
      values = ap (λ q. q.layout.values) same;
      marked = refl;
      metadata = refl;
      page_size = ap (λ q. q.layout.page_size) same;
    }
