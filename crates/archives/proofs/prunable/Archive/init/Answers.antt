use Rattle.std.proofs.Common.{◌≡◌, ◌⊎◌, inl, inr, refl, sym, ◌∙◌, ap, subst, ℕ, ◌+◌, ◌≤◌, ◌<◌, ◌^◌, Bool, true, false, IsTrue, List, length, map, None, Err, arith}
use Rattle.std.proofs.Math.Nat.{div-mul-le_self}
use Rattle.std.specs.Prelude.{⊤}
use Rattle.std.specs.List.{AllByRecursion}
use Rattle.blob_device.specs.Timeline.{disk, Always}
use Rattle.blob_device.specs.declared.runtime.RError.TheVariants.{InvalidChecksum, OffsetOverflow}
use Rattle.meta_store.specs.Opening.{PairOn}
use Rattle.meta_store.specs.declared.error.Error.TheVariants as store
use Rattle.section_manager.specs.Refusing.{IsForeign}
use Rattle.section_manager.specs.Sections.{section_key}
use Rattle.section_manager.specs.declared.journal.Error.TheVariants as section
use Rattle.std.specs.BTreeSet as set
use Rattle.std.specs.Ordering.{nat_cmp}
use Rattle.blob_device.specs.Disk.{Key, MayLeave, reads}
use Rattle.blob_device.specs.lemmas.Moments.{always_now, always_start}
use Rattle.meta_store.specs.Store.{contents_of}
use Rattle.paired.specs.Crashes.{HoldMarkers, IsOwn}
use Rattle.sealed_pages.specs.declared.page_blob.PageBlob.{PageBlob}
use Rattle.section_manager.specs.declared.sealed.AppendFactory.{AppendFactory}
use Rattle.paired.specs.lemmas.pair.Reads.{leaves_now}
use Rattle.paired.specs.lemmas.pair.Synced.{here_of}
use Rattle.paired.specs.lemmas.reconcile.Entries.{drained_from, markers_readable, run_here}
use Rattle.segments.specs.lemmas.adding.Write.{are_pages}
use Rattle.paired.specs.Kept.{content_at, IsMarked, IsSameLayout, Markers}
use Rattle.paired.specs.Opening.{IsLawful, MayBeOpened, OnlyOpens, RecallsAlone, as_read}
use Rattle.paired.specs.OpeningFound.{HasFound}
use Rattle.paired.specs.Pair.{AreApart, IsSoundOn, records_of}
use Rattle.paired.specs.PairShown as pair
use Rattle.paired.specs.OpeningRefusing.{IsLost}
use Rattle.paired.specs.ReplayShown.{layout_for, run_of}
use Rattle.ordinal_store.specs.Ranges.{set_of}
use Rattle.archives.specs.Archives.{Archive, filing_of, state_of}
use Rattle.archives.specs.FilingLaws.{one_filing}
use Rattle.archives.specs.IndexRecord.{IsSpelled, place_of}
use Rattle.archives.specs.Lawful.{Lawful}
use Rattle.archives.specs.Opening.{LeavesLawful}
use Rattle.archives.specs.declared.error.Error.TheVariants.{Mem}
use Rattle.archives.specs.Raised.{raised}
use Rattle.archives.specs.Rows.{AreTables, row_in, rows_of}
use Rattle.archives.specs.Standing.{IsStart, StandsFor}
use Rattle.archives.specs.Shown.{filing_for, setup_for}
use Rattle.archives.proofs.init.Errors.{end_stops, gives_up_on, handed, journal_back, no_refusal, after_replay, end_full, end_no_copy, end_no_name, end_no_start, metadata_back, never, no_stray_back, pair_no_full, pair_no_page, pair_no_start, pair_stops}
use Rattle.archives.proofs.put.Sync.{same_filing}
use Rattle.archives.proofs.sync.Stored.{no_record_tail, no_value_tail, values_stored}
use Rattle.archives.proofs.sync.Lemmas.{none_in}
use Rattle.archives.proofs.init.Causes.{none_refused}
use Rattle.record_tables.specs.Tables as tables
use Rattle.archives.proofs.TableLemmas.{indices_shown}
use Rattle.archives.proofs.IndexSets.{rows_set}
use Rattle.archives.proofs.init.Ends.{drained_given, moved_small, not_replay}
use Rattle.archives.proofs.ArchiveStands.{no_foreign}
use Rattle.archives.proofs.init.Sound.{all_lawful, no_foreign_before, rests}
use Rattle.archives.proofs.init.Left.{pair_rests, sound_left}
use Rattle.archives.proofs.Reopening.{reopens}
use Rattle.archives.proofs.init.Stored.{left_at_most}
use Rattle.archives.proofs.init.Layouts.{layout_same}
use Rattle.archives.proofs.init.Records.{all_whole, none_unreadable}
use Rattle.archives.proofs.init.State.{archive_over, given_count, in_place, lawful_now, lists_left, marker_is, none_over, none_stray, records_left, starts}
use Rattle.archives.proofs.init.Moments.{OthersStay, recalls_itself, open_as, others_opened, same_layout}
use Rattle.archives.proofs.opening.Parts.{Part, Replayed, ended_part, entered, few_left, markers_are, no_next, none_before, part_as, to_move}
use Rattle.archives.proofs.OpensLemmas.{not_opened, opening_done, opening_refused, tables_refused}
use Rattle.archives.proofs.prunable.Archive.init.Given as given
use Rattle.archives.proofs.prunable.Archive.init.Goals as goal
use Rattle.archives.proofs.prunable.Archive.init.Goals.{After-init_with_metadata, In_ok-replay}
use Rattle.blob_device.proofs.general.Results.{err_of}

-- what is false is not true
not_true : (b : Bool) → b ≡ false → IsTrue b → ⊥
not_true b none is = cc (none, is)

-- ---- what the exits share

-- the pair's layout is that of the filing
named_at : (g : given.Over) (c : After-init_with_metadata g) → layout_for (place_of g.K.Key.SIZE) (g.K.Key.SIZE + 20) g.S.Seal c.in_ok-pair.field-0 c.as_str.result.now ≡ (filing_for g.K.Key.SIZE g.S.Seal g.V.Codec.refusal c.args.cfg.now).layout
named_at g c = layout_same g.K.Key.SIZE g.S.Seal g.V.Codec.refusal c.args.cfg.now c.in_ok-pair.field-0 c.as_str.result.now c.in_ok-pair.ensures.records c.in_ok-pair.ensures.values c.as_str.ensures.value c.in_ok-pair.ensures.pages

-- what was touched until there was a replay
made_at : (g : given.Over) (c : After-init_with_metadata g) → Part g.D.Device (filing_for g.K.Key.SIZE g.S.Seal g.V.Codec.refusal c.args.cfg.now).layout (λ s. 0) c.args.dev.now c.init_with_metadata.new.dev
made_at g c =
    let made = c.init_with_metadata.ensures in
    part_as g.D.Device _ _ (named_at g c) (λ s. 0) c.args.dev.now c.init_with_metadata.new.dev (record {
      recalls = made.moments;
      alone = λ t. others_opened (layout_for (place_of g.K.Key.SIZE) (g.K.Key.SIZE + 20) g.S.Seal c.in_ok-pair.field-0 c.as_str.result.now) (g.D.Device.time c.args.dev.now) (g.D.Device.time c.init_with_metadata.new.dev) (made.settles t);
      entries = made.entries;
      reads = λ t s small. (let one = made.reads s small in omega (arith, one));
      faults = made.faults;
    })

-- what the replay found
replayed_at : (g : given.Over) (c : In_ok-replay g)
    → layout_for (place_of g.K.Key.SIZE) (g.K.Key.SIZE + 20) g.S.Seal c.in_ok-pair.field-0 c.as_str.result.now ≡ (filing_for g.K.Key.SIZE g.S.Seal g.V.Codec.refusal c.args.cfg.now).layout
    → Part g.D.Device (filing_for g.K.Key.SIZE g.S.Seal g.V.Codec.refusal c.args.cfg.now).layout (λ s. 0) c.args.dev.now c.init_with_metadata.new.dev
    → Replayed g.D.Device (filing_for g.K.Key.SIZE g.S.Seal g.V.Codec.refusal c.args.cfg.now) c.args.dev.now c.init_with_metadata.new.dev (run_of (place_of g.K.Key.SIZE) c.in_ok-replay.replay)
replayed_at g c named part =
    let f = filing_for g.K.Key.SIZE g.S.Seal g.V.Codec.refusal c.args.cfg.now in
    let a = g.D.Device.time c.args.dev.now in
    let b = g.D.Device.time c.init_with_metadata.new.dev in
    let found = c.in_ok-replay.ensures in
    let l = layout_for (place_of g.K.Key.SIZE) (g.K.Key.SIZE + 20) g.S.Seal c.in_ok-pair.field-0 c.as_str.result.now in
    let run = run_of (place_of g.K.Key.SIZE) c.in_ok-replay.replay in
    let here : run.layout ≡ f.layout = same_layout l run.layout found.layout ∙ named in
    record {
      part = part;
      opened = λ t. open_as l f.layout named a b (c.init_with_metadata.ensures.opened t);
      opens = λ t. always_now a b (OnlyOpens f.layout (disk a)) (subst (λ x. Always a b (OnlyOpens x (disk a))) named (c.init_with_metadata.ensures.settles t));
      here = here;
      partition = ap (λ y. y.metadata) here;
      apart = subst AreApart here found.over.apart;
      marked = refl;
      readable = markers_readable g.S.Seal;
      found = λ t. subst (λ y. HasFound y (disk a) (disk b) run) named (found.found t);
      stands = λ t. found.over.markers t;
      floors = (found.over.opening found.tracked).floors;
      left = λ t s. left_at_most run (g.D.Device.opened c.init_with_metadata.new.dev) (disk b) (are_pages g.row.S g.S.Seal g.S.Seal-dict)
          (run_here (place_of g.K.Key.SIZE) c.in_ok-replay.replay (omega arith)) found.over found.tracked found.going t s;
      copies = λ t side has. no_refusal c.in_ok-replay.replay (section.Metadata (store.Corruption side)) (g.D.Device.faults c.args.dev.now) (g.D.Device.faults c.init_with_metadata.new.dev)
          (found.corrupt_copies t side (subst (λ y. PairOn y.markers y.metadata (disk a) (Err side)) (sym named) has));
      names = λ t name has. found.foreign t name (subst (λ y. IsForeign (disk a) y.index name ⊎ IsForeign (disk a) y.values name) (sym named) has);
    }

-- ---- calls

pub entered-requires-clause-may : goal.entered-requires-clause-may
entered-requires-clause-may g c = record {
  over = c.in_ok-replay.ensures.over;
  tracked = c.in_ok-replay.ensures.tracked;
  going = c.in_ok-replay.ensures.going;
  due = λ t. (c.in_ok-replay.ensures.found t).due;
}

-- ---- the exits

pub returns-in_err-pair : goal.returns-in_err-pair
returns-in_err-pair g c =
    let l = (filing_for g.K.Key.SIZE g.S.Seal g.V.Codec.refusal c.args.cfg.now).layout in
    let a = g.D.Device.time c.args.dev.now in
    opening_refused _ g.D.Device _ c.args.dev.now c.args.dev.now (λ s. 0) (λ t markers held s. omega arith)
    (record {
      recalls = λ t may. always_start a (RecallsAlone l (IsOwn l (λ _. ⊤)) (disk a)) (recalls_itself l (disk a));
      alone = λ t. always_start a (OthersStay l (disk a)) (λ q other. refl);
      entries = λ q other. refl;
      reads = λ t s small. omega arith;
      faults = omega arith;
    })
    c.from_residual.result Mem (subst (λ x. c.from_residual.result ≡ Err x) c.in_err-pair.ensures (err_of _ c.in_err-pair.field-0.0 c.from_residual.ensures.1))
    (record { cause = tt; copies = λ t side bad. inr (inl (inl refl)); complete = λ t markers lawful. tt })

pub returns-in_err-replay : goal.returns-in_err-replay
returns-in_err-replay g c =
    let n = (goal.at.returns-in_err-replay g c).After-init_with_metadata in
    let named = named_at g n in
    let a = g.D.Device.time c.args.dev.now in
    let fa = g.D.Device.faults c.args.dev.now in
    let fb = g.D.Device.faults c.init_with_metadata.new.dev in
    let says = c.in_err-replay.ensures in
    let r = c.from_residual-in_err-replay.result in
    let x = c.in_err-replay.field-0.0 in
    let is : r ≡ Err (raised x) = err_of r (raised x) c.from_residual-in_err-replay.ensures.1 in
    not_opened _ g.D.Device _ c.args.dev.now c.init_with_metadata.new.dev (λ s. 0) (λ t markers held s. omega arith)
    (made_at g n)
    r (raised x) is (pair_stops r _ x is fa fb says.cause)
    (λ t. record {
      corrupt = λ side has. subst (λ y. PairOn y.markers y.metadata (disk a) (Err side)) named ((says.refusals t).corrupt side (metadata_back r _ x is (store.Corruption side) has));
      named = λ n has. subst (λ y. IsForeign (disk a) y.index n ⊎ IsForeign (disk a) y.values n) named ((says.refusals t).named n (journal_back r _ x is (section.InvalidBlobName n) has));
      damage = λ y has. (let w = (says.refusals t).damage y (journal_back r _ x is (section.Corruption y) has) in
          (w.0, subst (λ z. HoldMarkers z (as_read (disk a)) w.0) named w.1, inl (subst (λ z. IsLost z (IsMarked w.0.entries) (disk a) y) named w.2)));
      damaged = λ k has. absurd (pair_no_page r _ x is fa fb says.cause k has);
      start = λ n has. pair_no_start r _ x is fa fb says.cause n has;
      spelled = λ y has. (let w = (says.refusals t).refused y (journal_back r _ x is (section.Codec y) has) in none_unreadable (layout_for (place_of g.K.Key.SIZE) (g.K.Key.SIZE + 20) g.S.Seal c.in_ok-pair.field-0 c.as_str.result.now) (disk a) (IsMarked w.0.entries) y w.2);
      stray = λ has. no_stray_back r ⊤ x is has;
      full = λ has. absurd (pair_no_full r _ x is fa fb says.cause has);
    })
    (λ t side has. elim (says.corrupt_copies t side (subst (λ y. PairOn y.markers y.metadata (disk a) (Err side)) (sym named) has)) [
      | inl corrupt ↦ inl (handed r _ x is (section.Metadata (store.Corruption side)) corrupt)
      | inr gave ↦ inr (gives_up_on r _ x is fa fb gave)
    ])
    (λ t k has. absurd (pair_no_page r _ x is fa fb says.cause k has))
    refl (markers_readable g.S.Seal) c.requires.valid.pages (omega arith)

pub returns-in_err-tables : goal.returns-in_err-tables
returns-in_err-tables g c =
    let at = goal.at.returns-in_err-tables g c in
    tables_refused _ (setup_for g.K.Key.SIZE g.S.Seal g.V.Codec g.T.Translator.word_of g.T.Word.PartialEq.eq c.args.cfg.now) (replayed_at g at.In_ok-replay (named_at g at.After-init_with_metadata) (made_at g at.After-init_with_metadata)) c.in_err-tables.field-0.0 c.in_err-tables.ensures c.requires.valid.pages (omega arith) refl refl
    c.from_residual-in_err-tables.result (err_of c.from_residual-in_err-tables.result c.in_err-tables.field-0.0 c.from_residual-in_err-tables.ensures.1)

-- The replay was drained, and there was no memory for the set of indices. Nothing is wrong with the image, and no byte was changed.
pub returns-in_err-indices : goal.returns-in_err-indices
returns-in_err-indices g c =
    let at = goal.at.returns-in_err-indices g c in
    let walked = run_of (place_of g.K.Key.SIZE) c.entered.new.replay in
    let here = replayed_at g at.In_ok-replay (named_at g at.After-init_with_metadata) (made_at g at.After-init_with_metadata) in
    let since = entered here (same_layout (run_of (place_of g.K.Key.SIZE) c.in_ok-replay.replay).layout walked.layout c.entered.ensures.same.layout) c.in_ok-tables.ensures in
    opening_refused _ g.D.Device (setup_for g.K.Key.SIZE g.S.Seal g.V.Codec g.T.Translator.word_of g.T.Word.PartialEq.eq c.args.cfg.now) c.args.dev.now c.entered.new.dev _ (few_left here) since.part
    c.from_residual-in_err-indices.result Mem (err_of c.from_residual-in_err-indices.result Mem c.from_residual-in_err-indices.ensures.1)
    (record { cause = tt; copies = λ t side bad. absurd (here.copies t side bad); complete = λ t markers lawful. tt })

pub returns-in_err-finish_tracked : goal.returns-in_err-finish_tracked
returns-in_err-finish_tracked g c =
    let d = disk (g.D.Device.time c.entered.new.dev) in
    let fa = g.D.Device.faults c.args.dev.now in
    let fe = g.D.Device.faults c.entered.new.dev in
    let fz = g.D.Device.faults c.finish_tracked.new.dev in
    let walked = run_of (place_of g.K.Key.SIZE) c.entered.new.replay in
    let at = goal.at.returns-in_err-finish_tracked g c in
    let here = replayed_at g at.In_ok-replay (named_at g at.After-init_with_metadata) (made_at g at.After-init_with_metadata) in
    let since = entered here (same_layout (run_of (place_of g.K.Key.SIZE) c.in_ok-replay.replay).layout walked.layout c.entered.ensures.same.layout) c.in_ok-tables.ensures in
    let read = c.in_ok-tables.ensures.ends in
    let ended = c.finish_tracked.ensures in
    let says = c.in_err-finish_tracked.ensures in
    let tracked : walked.tracked ≡ true = c.entered.ensures.same.tracked ∙ c.in_ok-replay.ensures.tracked in
    let drained = drained_from (are_pages g.row.S g.S.Seal g.S.Seal-dict) (run_here (place_of g.K.Key.SIZE) c.entered.new.replay (omega arith)) c.entered.ensures.over tracked read.going read.drained in
    let r = c.from_residual-in_err-finish_tracked.result in
    let x = c.in_err-finish_tracked.field-0.0 in
    let is : r ≡ Err (raised x) = err_of r (raised x) c.from_residual-in_err-finish_tracked.ensures.1 in
    let why = after_replay (λ replay. not_replay walked tracked read.going read.drained (says.replay_failed.0 replay)) says.cause in
    let le : fa ≤ fe = since.part.faults in
    not_opened _ g.D.Device (setup_for g.K.Key.SIZE g.S.Seal g.V.Codec g.T.Translator.word_of g.T.Word.PartialEq.eq c.args.cfg.now) c.args.dev.now c.finish_tracked.new.dev _ (few_left here) (ended_part here since (record {
      recalls = ended.moments;
      alone = ended.untouched;
      entries = ended.entries;
      reads = λ t s small. (let one = ended.reads s in omega (arith, one));
      faults = ended.faults;
    }))
    r (raised x) is (end_stops r _ x is fa fe fz le why)
    (λ t. record {
      corrupt = λ side has. absurd (end_no_copy r _ x is fe fz why side has);
      named = λ n has. absurd (end_no_name r _ x is fe fz why n has);
      damage = λ y has. absurd (says.damage t y (journal_back r _ x is (section.Corruption y) has));
      damaged = λ k has. absurd (says.damaged t (k, journal_back r _ x is (section.Runtime (InvalidChecksum k)) has));
      start = λ n has. end_no_start r _ x is fe fz why n has;
      spelled = λ y has. (let w = says.unspelled t y (journal_back r _ x is (section.Codec y) has) in none_refused walked d tracked w.0 y w.1);
      stray = λ has. no_stray_back r ⊤ x is has;
      full = λ has.
          let full = end_full r _ x is fe fz why has in
          let moves = says.full_moves t full in
          let small : moves.0 < 2 ^ 64 = moved_small walked (g.D.Device.opened c.entered.new.dev) d drained moves.0 moves.1 in
          inr (
            no_next here t (subst (λ u. 2 ^ 64 ≤ u.version + 1) since.store (says.full full)),
            to_move here since t (drained_given walked (g.D.Device.opened c.entered.new.dev) d drained t) moves.0 small moves.1,
          );
    })
    (λ t side has. absurd (here.copies t side has))
    (λ t k has. absurd (says.damaged t (k, journal_back r _ x is (section.Runtime (InvalidChecksum k)) has)))
    refl (markers_readable g.S.Seal) c.requires.valid.pages (omega arith)

pub returns : goal.returns
returns g c =
    let a = disk (g.D.Device.time c.args.dev.now) in
    let b = disk (g.D.Device.time c.init_with_metadata.new.dev) in
    let e = disk (g.D.Device.time c.entered.new.dev) in
    let z = disk (g.D.Device.time c.finish_tracked.new.dev) in
    let f = filing_for g.K.Key.SIZE g.S.Seal g.V.Codec.refusal c.args.cfg.now in
    let setup = setup_for g.K.Key.SIZE g.S.Seal g.V.Codec g.T.Translator.word_of g.T.Word.PartialEq.eq c.args.cfg.now in
    let run = run_of (place_of g.K.Key.SIZE) c.in_ok-replay.replay in
    let walked = run_of (place_of g.K.Key.SIZE) c.entered.new.replay in
    let at = goal.at.returns g c in
    let here = replayed_at g at.In_ok-replay (named_at g at.After-init_with_metadata) (made_at g at.After-init_with_metadata) in
    let since = entered here (same_layout run.layout walked.layout c.entered.ensures.same.layout) c.in_ok-tables.ensures in
    let read = c.in_ok-tables.ensures.ends in
    let ended = c.finish_tracked.ensures in
    let says = c.in_ok-finish_tracked.ensures in
    let opened = g.D.Device.opened c.finish_tracked.new.dev in
    let p = pair.shown (place_of g.K.Key.SIZE) c.in_ok-finish_tracked.field-0 in
    let refusal = λ (bytes : List ℕ). g.V.Codec.refusal bytes c.in_ok-finish_tracked.field-0.values.codec_config in
    let back : p.layout ≡ walked.layout = same_layout walked.layout p.layout says.counts.layout in
    let own : p.layout ≡ f.layout = back ∙ since.still in
    let config : c.in_ok-finish_tracked.field-0.values.codec_config ≡ c.args.cfg.now.codec_config =
    says.codec_config ∙ c.entered.ensures.config ∙ c.in_ok-replay.ensures.codec_config ∙ c.in_ok-pair.ensures.codec_config in
    let arch : Archive (AppendFactory g.row.S.Denot) (PageBlob g.row.S.Denot g.S.Seal) =
    archive_over p f refusal (rows_of g.K.Key.key_bytes c.in_ok-tables.tables) (AreTables g.K.Key.key_bytes g.T.Word.PartialEq.eq (g.T.Translator.word_of c.args.cfg.now.translator) c.in_ok-tables.tables) (set_of c.in_ok-indices.indices) (set.contains nat_cmp c.new.result) in
    let alike : IsSameLayout f.layout p.layout = record { index = ap (λ y. y.index) own; values = ap (λ y. y.values) own; marked = ap (λ y. y.marked) own; metadata = ap (λ y. y.metadata) own; page_size = ap (λ y. y.page_size) own } in
    let filing = same_filing f p.layout refusal alike refl (λ _. refl) (λ _. refl) (λ bytes. ap (g.V.Codec.refusal bytes) config) in
    let none_is : (s : ℕ) → arch.is_written s ≡ false = none_in c.new.result c.new.ensures.empty in
    let part = ended_part here since (record {
      recalls = ended.moments;
      alone = ended.untouched;
      entries = ended.entries;
      reads = λ t s small. (let one = ended.reads s in omega (arith, one));
      faults = ended.faults;
    }) in
    let start : g.D.Device.Tells → (markers : Markers) → Lawful f (as_read a) markers → IsStart f (as_read a) markers (state_of arch z) = λ t markers lawful.
    starts f here.readable run walked a b e since.still since.store (here.found t) (since.stays t) markers lawful.pair.held z arch (says.kept t) lawful.pair (since.lawful_on t) (omega arith)
    (λ s is. says.over.index.over.opened_list.number s (inl is)) refl refl says.counts in
    let listed : g.D.Device.Tells → (s : ℕ) → arch.rows s ≡ map (row_in arch.key_size) (records_of arch.pair z s) =
    λ t s. (read.told t).listed s ∙ ap (map (row_in g.K.Key.SIZE)) (sym ((says.kept t).records s)) in
    opening_done _ g.D.Device setup c.args.dev.now c.finish_tracked.new.dev _ (few_left here) part
    _ (record {
      over = record {
        pair = says.over;
        items = c.requires.valid.items;
        floor = omega (arith, div-mul-le_self 0 f.items);
        pair_floor = omega (arith, says.counts.floors.0);
        below = λ s low. absurd (omega (arith, low));
        listed = listed;
        spelled = λ t s. subst (AllByRecursion (IsSpelled g.K.Key.SIZE)) (sym ((says.kept t).records s)) ((read.told t).spelled s);
        tied = read.tied;
        indices = rows_set arch.items arch.rows arch.indices read.within.in_section (indices_shown g.K.Key.key_bytes (tables.rows_of c.in_ok-tables.tables) (set_of c.in_ok-indices.indices) c.in_ok-indices.ensures);
        within = read.within;
        unwritten = λ s none. says.counts.synced s;
        written = λ s is. absurd (not_true (arch.is_written s) (none_is s) is);
        unsynced = λ t s is. absurd (not_true (arch.is_written s) (none_is s) is);
      };
      filing = filing;
      write_buffer = ap (λ y. y.write_buffer) (says.counts.places.0.factory ∙ c.entered.ensures.same.walk.bounds.place.factory)
          ∙ c.in_ok-replay.ensures.write_buffers.0 ∙ c.in_ok-pair.ensures.write_buffers.0;
      value_buffer = ap (λ y. y.capacity) (says.counts.places.1.factory ∙ ap (λ v. v.factory) c.entered.ensures.same.values)
          ∙ c.in_ok-replay.ensures.write_buffers.1 ∙ c.in_ok-pair.ensures.write_buffers.1;
      accepts = λ v. (subst (λ x. g.V.Codec.accepted v x) config, subst (λ x. g.V.Codec.accepted v x) (sym config));
      alike = refl;
      none_written = none_is;
      counts = says.counts.markers;
      flushed = λ t s. (no_record_tail p opened z says.over s t (says.counts.synced s), no_value_tail p opened z says.over s (says.settled s));
      told = λ t. record {
        records = (contents_of run.store, (here.found t).markers, records_left f here.readable run walked a b e since.still since.store (here.found t) (since.stays t) (contents_of run.store) (here.found t).markers z arch (says.kept t));
        values = λ s small. values_stored p opened z says.over s t small (says.settled s) ∙ ap (λ y. length (content_at (as_read z) y.values s)) own;
        floor = (contents_of run.store, (here.found t).markers, refl);
        start = start t;
        kept = record {
          copies = here.copies t;
          names = here.names t;
          in_section = λ (markers, held, stray). none_stray f here.readable run walked a b e since.still since.store (here.found t) (since.stays t) markers held z arch (says.kept t) (listed t) f.items read.within.in_section stray;
          within = λ (markers, held, over). none_over f here.readable run walked a b e since.still since.store (here.found t) (since.stays t) markers held z arch (says.kept t) (listed t) f.most_sections f.most_records
              read.within.few_sections read.within.few_records over;
          version = λ none (markers, held, (s, small, moved)).
              says.no_version t (subst (λ u. 2 ^ 64 ≤ u.version + 1) (sym since.store) (none_before here t none)) (
                s,
                λ same. moved (sym (marker_is f here.readable run walked a b e since.still since.store (here.found t) (since.stays t) markers held s) ∙ same
                    ∙ given_count f here.readable run walked a b e since.still since.store (here.found t) (since.stays t) markers held z arch (says.kept t) s small),
              );
        };
        proved = λ markers held s m is. (here.found t).proved s m (subst (λ (ms : Markers). IsMarked ms.entries s m) (markers_are here t markers held) is);
        sound = λ may leaves.
            let same : filing_of arch ≡ f = one_filing f (filing_of arch) filing refl in
            sound_left arch opened z
            (pair_rests arch.pair opened z (are_pages g.row.S g.S.Seal g.S.Seal-dict) (here_of (place_of g.K.Key.SIZE) c.in_ok-finish_tracked.field-0 (omega arith)) says.over says.index_settled says.settled) t
            walked e (sym back) says.counts (says.kept t) here.readable (λ q. g.met.D.Device.as_read t c.finish_tracked.new.dev q) says.over
            (subst (λ y. MayBeOpened y e) (sym since.still) (since.opened t may)) (subst (λ x. LeavesLawful x z) (sym same) leaves);
        step = λ may st leaves none.
            let was : StandsFor f st None (as_read a) = leaves (as_read a) (λ q. g.met.D.Device.as_read t c.args.dev.now q) may.no_chance in
            reopens f (as_read a) st _ was (start t was.markers was.lawful) f.items none;
        rest = λ may st leaves.
            let law : (q : Key) → MayLeave (a q) (reads (a q)) = λ q. g.met.D.Device.as_read t c.args.dev.now q in
            let was : StandsFor f st None (as_read a) = leaves (as_read a) law may.no_chance in
            let sound : IsSoundOn arch.pair z = (says.kept t).sound (subst (λ y. MayBeOpened y e) (sym since.still) (since.opened t may))
            (in_place f here.readable run walked a b e since.still since.store (here.found t) (since.stays t) was.markers was.lawful.pair.held z arch (says.kept t) was.lawful.pair (since.lawful_on t)) in
            rests f a was.markers was.lawful arch z own
            (lists_left f here.readable run walked a b e since.still since.store (here.found t) (since.stays t) was.markers was.lawful.pair.held z arch (says.kept t) was.lawful.pair (since.lawful_on t))
            sound refl (λ s. refl)
            (no_foreign f.layout here.apart (λ _. ⊤) a z (always_now (g.D.Device.time c.args.dev.now) (g.D.Device.time c.finish_tracked.new.dev) (OthersStay f.layout a) (part.alone t))
            (no_foreign_before f a law may.no_chance (all_lawful f st a leaves) here.apart))
            (leaves_now arch.pair opened z (omega arith) refl refl refl refl (λ s v held. λ i. (says.over.index.over.opened_list.setting s v held i).page_size) says.over t (record { sound = sound; floor = says.counts.marker_floor ∙ (lawful_now f here.readable run walked a b e since.still since.store (here.found t) (since.stays t) was.markers was.lawful.pair.held z arch (says.kept t) was.lawful.pair (since.lawful_on t)).floor }));
      };
    })

pub indices-requires : goal.indices-requires
indices-requires g c = c.in_ok-tables.ensures.ends.tied.order
