use Rattle.std.proofs.Common.{◌≡◌, ◌+◌, ◌<◌, ◌^◌, refl, sym, ◌∙◌, ap, subst, ℕ, List, [], Some, Ok, Err, arith, get_or, length, map, take}
use Rattle.std.specs.List.{AllByRecursion}
use Rattle.paired.specs.Kept.{kept}
use Rattle.paired.specs.Opening.{as_read}
use Rattle.paired.specs.Replaying.{GivesRecord, HasFailed, marker, records_given}
use Rattle.archives.specs.Rows.{Row, row_in, rows_of}
use Rattle.archives.proofs.DrainsLemmas.{drained, entry_is, not_entered, not_walked}
use Rattle.blob_device.specs.Timeline.{disk}
use Rattle.value_codec.specs.Spelling.{size_refusal}
use Rattle.section_manager.specs.contracts.sealed.PageBlobSectionBuffer.TheImpl as page_blob
use Rattle.paired.specs.lemmas.next.Clauses.{Clauses}
use Rattle.paired.specs.lemmas.next.Glue.{here_run}
use Rattle.paired.specs.lemmas.pair.Synced.{page_setting}
use Rattle.segments.specs.lemmas.adding.Write.{are_pages}
use Rattle.paired.specs.ReplayShown.{run_of}
use Rattle.archives.specs.IndexRecord.{IsInRange, IsSpelled, place_of, spelling_of}
use Rattle.archives.specs.IndexRecordLaws.{index_record_at_least}
use Rattle.archives.specs.Raised.{raised}
use Rattle.archives.specs.declared.prunable.index_record.IndexRecord.{IndexRecord}
use Rattle.archives.proofs.opening.Errors.{answer, whole_kept}
use Rattle.archives.proofs.opening.Kept.{given_rows, kept_start, over_kept, stray_kept, undue, undue_rows}
use Rattle.archives.proofs.opening.Loop.{Going, Passed, drained_on, going_on, going_start, passed_on, passed_start, reads_end, run_layout}
use Rattle.archives.proofs.opening.Rows.{all_of, all_rows, entered_on, entered_start, is_spelled, next_row, one_more, row_spelled, stray_given, within_start}
use Rattle.archives.proofs.TableLemmas.{bare_shown}
use Rattle.record_tables.specs.Tables as tables
use Rattle.archives.proofs.prunable.Archive.entered.Given as given
use Rattle.archives.proofs.prunable.Archive.entered.Goals as goal
use Rattle.archives.proofs.prunable.Archive.entered.Goals.{After-next, In_ok-section}
use Rattle.blob_device.proofs.general.Results.{err_of}

-- ---- what the call of the replay says, and what follows of it

says : (g : given.Over) (c : After-next g) → Clauses (λ bytes _. size_refusal (g.K.Key.SIZE + 20) bytes) g.D.Device.Tells (run_of (place_of g.K.Key.SIZE) c.loop-given.replay) (run_of (place_of g.K.Key.SIZE) c.next.new.self) (g.D.Device.time c.loop-given.dev) (g.D.Device.time c.next.new.dev) {V = IndexRecord g.row.K.Denot} (page_blob.ghosts g.row.S g.S.Seal g.S.Seal-dict) page_setting (λ f. record { page_size = 1; capacity = f.capacity; cache_pages = 0 }) (spelling_of g.K.Key.key_bytes) (λ r _. IsInRange r)
    c.next.result (g.D.Device.opened c.loop-given.dev) (g.D.Device.opened c.next.new.dev) (g.D.Device.faults c.loop-given.dev) (g.D.Device.faults c.next.new.dev)
says g c = record {
  over = c.next.ensures.over;
  same = c.next.ensures.same;
  item = c.next.ensures.item;
  going = c.next.ensures.going;
  none = c.next.ensures.none;
  drained = c.next.ensures.drained;
  whole = c.next.ensures.whole;
  failed = c.next.ensures.failed;
  stops = c.next.ensures.stops;
  nearer = c.next.ensures.nearer;
  ends = c.next.ensures.ends;
  ends_cut = c.next.ensures.ends_cut;
  reads = c.next.ensures.reads;
  unread = c.next.ensures.unread;
  entries = c.next.ensures.entries;
  start = c.next.ensures.start;
  damage = c.next.ensures.damage;
  damaged = c.next.ensures.damaged;
  refused = c.next.ensures.refused;
  complete = c.next.ensures.complete;
  faults = c.next.ensures.faults;
  cause = c.next.ensures.cause;
  images = record { kept = c.next.ensures.kept; given = c.next.ensures.given; lawful = c.next.ensures.lawful; spelled = c.next.ensures.spelled; moments = c.next.ensures.moments; opened = c.next.ensures.opened; lists = c.next.ensures.lists; sound = c.next.ensures.sound; keeps = c.next.ensures.keeps; flushed = c.next.ensures.flushed; untouched = c.next.ensures.untouched; still = c.next.ensures.still; idle = c.next.ensures.idle };
}

laid : (g : given.Over) (c : After-next g) → (run_of (place_of g.K.Key.SIZE) c.loop-given.replay).layout ≡ (run_of (place_of g.K.Key.SIZE) c.args.replay.now).layout
laid g c = run_layout (place_of g.K.Key.SIZE) c.args.replay.now c.loop-given.replay c.loop-given.invariant.passed.same

passed : (g : given.Over) (c : After-next g) → Passed (page_blob.ghosts g.row.S g.S.Seal g.S.Seal-dict) page_setting (λ f. record { page_size = 1; capacity = f.capacity; cache_pages = 0 }) g.D.Device.Tells (run_of (place_of g.K.Key.SIZE) c.args.replay.now) (g.D.Device.time c.args.dev.now) (g.D.Device.opened c.args.dev.now) (run_of (place_of g.K.Key.SIZE) c.next.new.self) (g.D.Device.time c.next.new.dev) (g.D.Device.opened c.next.new.dev)
passed g c = passed_on (page_blob.ghosts g.row.S g.S.Seal g.S.Seal-dict) page_setting (λ f. record { page_size = 1; capacity = f.capacity; cache_pages = 0 }) g.D.Device.Tells (λ bytes _. size_refusal (g.K.Key.SIZE + 20) bytes) (spelling_of g.K.Key.key_bytes) (λ r _. IsInRange r) (run_of (place_of g.K.Key.SIZE) c.args.replay.now) (g.D.Device.time c.args.dev.now) (g.D.Device.opened c.args.dev.now) c.requires.may.tracked
    (run_of (place_of g.K.Key.SIZE) c.loop-given.replay) (g.D.Device.time c.loop-given.dev) (g.D.Device.opened c.loop-given.dev) c.loop-given.invariant.passed c.loop-given.invariant.going (run_of (place_of g.K.Key.SIZE) c.next.new.self) (g.D.Device.time c.next.new.dev) (g.D.Device.opened c.next.new.dev)
    (g.D.Device.faults c.loop-given.dev) (g.D.Device.faults c.next.new.dev) c.next.result (says g c) (laid g c)

-- where it has not failed
going : (g : given.Over) (c : After-next g) → (HasFailed (run_of (place_of g.K.Key.SIZE) c.next.new.self) → ⊥) → Going g.D.Device.Tells (run_of (place_of g.K.Key.SIZE) c.args.replay.now) (g.D.Device.time c.args.dev.now) (run_of (place_of g.K.Key.SIZE) c.next.new.self) (g.D.Device.time c.next.new.dev)
going g c unfailed = going_on (page_blob.ghosts g.row.S g.S.Seal g.S.Seal-dict) page_setting (λ f. record { page_size = 1; capacity = f.capacity; cache_pages = 0 }) g.D.Device.Tells (λ bytes _. size_refusal (g.K.Key.SIZE + 20) bytes) (spelling_of g.K.Key.key_bytes) (λ r _. IsInRange r) (run_of (place_of g.K.Key.SIZE) c.args.replay.now) (g.D.Device.time c.args.dev.now) (g.D.Device.opened c.args.dev.now) c.requires.may.tracked
    (run_of (place_of g.K.Key.SIZE) c.loop-given.replay) (g.D.Device.time c.loop-given.dev) (g.D.Device.opened c.loop-given.dev) c.loop-given.invariant.passed c.loop-given.invariant.going (run_of (place_of g.K.Key.SIZE) c.next.new.self) (g.D.Device.time c.next.new.dev) (g.D.Device.opened c.next.new.dev)
    (g.D.Device.faults c.loop-given.dev) (g.D.Device.faults c.next.new.dev) c.next.result (says g c) (laid g c) unfailed

same_given : (g : given.Over) (c : After-next g) → Going g.D.Device.Tells (run_of (place_of g.K.Key.SIZE) c.args.replay.now) (g.D.Device.time c.args.dev.now) (run_of (place_of g.K.Key.SIZE) c.next.new.self) (g.D.Device.time c.next.new.dev) → g.D.Device.Tells → (s : ℕ) → records_given (run_of (place_of g.K.Key.SIZE) c.next.new.self) (disk (g.D.Device.time c.next.new.dev)) s ≡ records_given (run_of (place_of g.K.Key.SIZE) c.loop-given.replay) (disk (g.D.Device.time c.loop-given.dev)) s
same_given g c went t s = went.given t s ∙ sym (c.loop-given.invariant.going.given t s)

kept_since : (g : given.Over) (c : After-next g) → Going g.D.Device.Tells (run_of (place_of g.K.Key.SIZE) c.args.replay.now) (g.D.Device.time c.args.dev.now) (run_of (place_of g.K.Key.SIZE) c.next.new.self) (g.D.Device.time c.next.new.dev) → g.D.Device.Tells → (s : ℕ) → s < 2 ^ 64 → kept (run_of (place_of g.K.Key.SIZE) c.next.new.self).layout (as_read (disk (g.D.Device.time c.next.new.dev))) (marker (run_of (place_of g.K.Key.SIZE) c.next.new.self) s) s
    ≡ kept (run_of (place_of g.K.Key.SIZE) c.args.replay.now).layout (as_read (disk (g.D.Device.time c.args.dev.now))) (marker (run_of (place_of g.K.Key.SIZE) c.args.replay.now) s) s
kept_since g c went = kept_start g.D.Device.Tells (run_of (place_of g.K.Key.SIZE) c.args.replay.now) (run_of (place_of g.K.Key.SIZE) c.next.new.self) (g.D.Device.time c.args.dev.now) (g.D.Device.time c.next.new.dev) (run_layout (place_of g.K.Key.SIZE) c.args.replay.now c.next.new.self (passed g c).same) (passed g c).same.store went.stays

-- where it gave a record
gave : (g : given.Over) (c : In_ok-section g) → c.next.result ≡ Some (Ok (c.in_ok-section.section, c.in_ok-section.field-0-1, c.in_ok-section.record))
gave g c = let at = c.in_ok-section.was in let is = c.in-Some.is in cc (is, at)

gives_record : (g : given.Over) (c : In_ok-section g) → g.D.Device.Tells → GivesRecord (spelling_of g.K.Key.key_bytes) (λ r _. IsInRange r) (run_of (place_of g.K.Key.SIZE) c.loop-given.replay) (run_of (place_of g.K.Key.SIZE) c.next.new.self) (disk (g.D.Device.time c.loop-given.dev)) (disk (g.D.Device.time c.next.new.dev)) c.in_ok-section.section c.in_ok-section.field-0-1 c.in_ok-section.record
gives_record g c t = c.next.ensures.item t c.in_ok-section.section c.in_ok-section.field-0-1 c.in_ok-section.record (gave g c)

pub loop-given-init : goal.loop-given-init
loop-given-init g c =
    let none = bare_shown g.K.Key.key_bytes (tables.rows_of c.new-tables.result) c.new-tables.ensures.none in
    record {
      passed = passed_start (page_blob.ghosts g.row.S g.S.Seal g.S.Seal-dict) page_setting (λ f. record { page_size = 1; capacity = f.capacity; cache_pages = 0 }) g.D.Device.Tells (run_of (place_of g.K.Key.SIZE) c.args.replay.now) (g.D.Device.time c.args.dev.now) (g.D.Device.opened c.args.dev.now) c.requires.may.over;
      going = going_start g.D.Device.Tells (run_of (place_of g.K.Key.SIZE) c.args.replay.now) (g.D.Device.time c.args.dev.now) c.requires.may.going;
      entered = λ t. entered_start g.K.Key.SIZE (rows_of g.K.Key.key_bytes c.new-tables.result) (run_of (place_of g.K.Key.SIZE) c.args.replay.now) (disk (g.D.Device.time c.args.dev.now)) none (c.requires.may.due t);
      spelled = λ t s. subst (λ (rs : List Row). AllByRecursion (IsSpelled g.K.Key.SIZE) (take (length rs) (records_given (run_of (place_of g.K.Key.SIZE) c.args.replay.now) (disk (g.D.Device.time c.args.dev.now)) s))) (sym (none s)) tt;
      within = within_start c.args.cfg.now.items_per_section c.args.cfg.now.limits.sections c.args.cfg.now.limits.per_section (rows_of g.K.Key.key_bytes c.new-tables.result) none;
      tied = record { order = c.new-tables.ensures.order; words = c.new-tables.ensures.words (λ k. g.T.Translator.word_of c.args.cfg.now.translator (g.K.Key.key_bytes k)) };
      codec_config = refl;
      faults = omega arith;
    }

pub next-requires : goal.next-requires
next-requires g c = c.loop-given.invariant.passed.over

pub enter-requires-clause-tied : goal.enter-requires-clause-tied
enter-requires-clause-tied g c = c.loop-given.invariant.tied

pub loop-given-preserved : goal.loop-given-preserved
loop-given-preserved g c =
    let n = (goal.at.loop-given-preserved g c).After-next in
    let taken = (goal.at.loop-given-preserved g c).In_ok-section in
    let went = going g n (c.next.ensures.going c.in_ok-section.section c.in_ok-section.field-0-1 c.in_ok-section.record (gave g taken) c.loop-given.invariant.going.going) in
    record {
      passed = passed g n;
      going = went;
      entered = λ t. entered_on g.K.Key.SIZE (rows_of g.K.Key.key_bytes c.loop-given.tables) (run_of (place_of g.K.Key.SIZE) c.loop-given.replay) (disk (g.D.Device.time c.loop-given.dev)) (c.loop-given.invariant.entered t) (spelling_of g.K.Key.key_bytes) (λ r _. IsInRange r) (run_of (place_of g.K.Key.SIZE) c.next.new.self) (disk (g.D.Device.time c.next.new.dev)) c.in_ok-section.section c.in_ok-section.field-0-1 c.in_ok-section.record (gives_record g taken t) (same_given g n went t) (rows_of g.K.Key.key_bytes c.enter.new.tables)
          (record { index = c.in_ok-section.record.index; key = g.K.Key.key_bytes c.in_ok-section.record.key }) c.in_ok-enter.ensures.0.entered c.in_ok-enter.ensures.0.others
          (row_spelled g.K.Key.key_bytes g.K.Key.SIZE g.met.K.Key.sized c.in_ok-section.record (get_or (records_given (run_of (place_of g.K.Key.SIZE) c.loop-given.replay) (disk (g.D.Device.time c.loop-given.dev)) c.in_ok-section.section) c.in_ok-section.field-0-1 []) (gives_record g taken t).item.spelled (gives_record g taken t).item.allowed);
      spelled = λ t. one_more (IsSpelled g.K.Key.SIZE) (rows_of g.K.Key.key_bytes c.loop-given.tables) (rows_of g.K.Key.key_bytes c.enter.new.tables) (record { index = c.in_ok-section.record.index; key = g.K.Key.key_bytes c.in_ok-section.record.key }) (records_given (run_of (place_of g.K.Key.SIZE) c.loop-given.replay) (disk (g.D.Device.time c.loop-given.dev))) (records_given (run_of (place_of g.K.Key.SIZE) c.next.new.self) (disk (g.D.Device.time c.next.new.dev))) (same_given g n went t) c.in_ok-section.section c.in_ok-section.field-0-1
          c.in_ok-enter.ensures.0.entered c.in_ok-enter.ensures.0.others (next_row g.K.Key.SIZE (rows_of g.K.Key.key_bytes c.loop-given.tables) (run_of (place_of g.K.Key.SIZE) c.loop-given.replay) (disk (g.D.Device.time c.loop-given.dev)) (c.loop-given.invariant.entered t) c.in_ok-section.section c.in_ok-section.field-0-1 (gives_record g taken t).due (gives_record g taken t).first)
          (gives_record g taken t).due.given (is_spelled g.K.Key.key_bytes g.K.Key.SIZE g.met.K.Key.sized c.in_ok-section.record (get_or (records_given (run_of (place_of g.K.Key.SIZE) c.loop-given.replay) (disk (g.D.Device.time c.loop-given.dev)) c.in_ok-section.section) c.in_ok-section.field-0-1 []) (gives_record g taken t).item.spelled (gives_record g taken t).item.allowed) (c.loop-given.invariant.spelled t);
      within = c.in_ok-enter.ensures.0.within c.loop-given.invariant.within;
      tied = c.in_ok-enter.ensures.0.tied;
      codec_config = c.next.ensures.codec_config ∙ c.loop-given.invariant.codec_config;
      faults = omega (arith, c.loop-given.invariant.faults, c.next.ensures.faults);
    }

pub returns-in_err-section : goal.returns-in_err-section
returns-in_err-section g c =
    let n = (goal.at.returns-in_err-section g c).After-next in
    let gave : c.next.result ≡ Some (Err c.in_err-section.field-0.0) = (let at = c.in_err-section.was in let is = c.in-Some.is in cc (is, at)) in
    let back : c.from_residual.result ≡ Err (raised c.in_err-section.field-0.0) = err_of c.from_residual.result (raised c.in_err-section.field-0.0) c.from_residual.ensures.1 in
    not_walked _ g.D.Device g.K.Key.SIZE c.args.cfg.now.items_per_section c.args.cfg.now.limits (run_of (place_of g.K.Key.SIZE) c.args.replay.now) (run_of (place_of g.K.Key.SIZE) c.next.new.self) c.args.dev.now c.next.new.dev _ _ (record {
      over = (passed g n).over;
      same = (passed g n).same;
      config = c.next.ensures.codec_config ∙ c.loop-given.invariant.codec_config;
      moments = (passed g n).moves.moments;
      untouched = (passed g n).moves.untouched;
      entries = (passed g n).moves.entries;
      reads = reads_end (page_blob.ghosts g.row.S g.S.Seal g.S.Seal-dict) page_setting (λ f. record { page_size = 1; capacity = f.capacity; cache_pages = 0 }) g.D.Device.Tells (run_of (place_of g.K.Key.SIZE) c.args.replay.now) (g.D.Device.time c.args.dev.now) (g.D.Device.opened c.args.dev.now) (run_of (place_of g.K.Key.SIZE) c.next.new.self) (g.D.Device.time c.next.new.dev) (g.D.Device.opened c.next.new.dev) (passed g n);
      faults = omega (arith, c.loop-given.invariant.faults, c.next.ensures.faults);
    }) _ _ _ (raised c.in_err-section.field-0.0) back (answer (page_blob.ghosts g.row.S g.S.Seal g.S.Seal-dict) page_setting (λ f. record { page_size = 1; capacity = f.capacity; cache_pages = 0 }) g.D.Device.Tells (λ bytes _. size_refusal (g.K.Key.SIZE + 20) bytes) (spelling_of g.K.Key.key_bytes) (λ r _. IsInRange r) (run_of (place_of g.K.Key.SIZE) c.args.replay.now) (g.D.Device.time c.args.dev.now) (g.D.Device.opened c.args.dev.now) c.requires.may.tracked (run_of (place_of g.K.Key.SIZE) c.loop-given.replay) (g.D.Device.time c.loop-given.dev) (g.D.Device.opened c.loop-given.dev) c.loop-given.invariant.passed c.loop-given.invariant.going (run_of (place_of g.K.Key.SIZE) c.next.new.self) (g.D.Device.time c.next.new.dev) (g.D.Device.opened c.next.new.dev) (g.D.Device.faults c.args.dev.now) (g.D.Device.faults c.loop-given.dev) (g.D.Device.faults c.next.new.dev) c.loop-given.invariant.faults
    c.next.result c.in_err-section.field-0.0 gave (says g n) (laid g n) (run_layout (place_of g.K.Key.SIZE) c.loop-given.replay c.next.new.self c.next.ensures.same) (λ r long. whole_kept (g.K.Key.SIZE + 20) r long)
    (are_pages g.row.S g.S.Seal g.S.Seal-dict) (here_run (place_of g.K.Key.SIZE) c.loop-given.replay (index_record_at_least g.K.Key.SIZE)) (here_run (place_of g.K.Key.SIZE) c.next.new.self (index_record_at_least g.K.Key.SIZE)) c.from_residual.result back)

pub returns-in_err-enter : goal.returns-in_err-enter
returns-in_err-enter g c =
    let n = (goal.at.returns-in_err-enter g c).After-next in
    let taken = (goal.at.returns-in_err-enter g c).In_ok-section in
    let went = going g n (c.next.ensures.going c.in_ok-section.section c.in_ok-section.field-0-1 c.in_ok-section.record (gave g taken) c.loop-given.invariant.going.going) in
    let start = run_of (place_of g.K.Key.SIZE) c.args.replay.now in
    let run = run_of (place_of g.K.Key.SIZE) c.next.new.self in
    not_entered _ g.D.Device g.K.Key.SIZE c.args.cfg.now.items_per_section c.args.cfg.now.limits (run_of (place_of g.K.Key.SIZE) c.args.replay.now) (run_of (place_of g.K.Key.SIZE) c.next.new.self) c.args.dev.now c.next.new.dev _ _ (record {
      over = (passed g n).over;
      same = (passed g n).same;
      config = c.next.ensures.codec_config ∙ c.loop-given.invariant.codec_config;
      moments = (passed g n).moves.moments;
      untouched = (passed g n).moves.untouched;
      entries = (passed g n).moves.entries;
      reads = reads_end (page_blob.ghosts g.row.S g.S.Seal g.S.Seal-dict) page_setting (λ f. record { page_size = 1; capacity = f.capacity; cache_pages = 0 }) g.D.Device.Tells (run_of (place_of g.K.Key.SIZE) c.args.replay.now) (g.D.Device.time c.args.dev.now) (g.D.Device.opened c.args.dev.now) (run_of (place_of g.K.Key.SIZE) c.next.new.self) (g.D.Device.time c.next.new.dev) (g.D.Device.opened c.next.new.dev) (passed g n);
      faults = omega (arith, c.loop-given.invariant.faults, c.next.ensures.faults);
    }) _ _ _ c.in_err-enter.field-0.0 (err_of _ c.in_err-enter.field-0.0 c.from_residual-in_err-enter.ensures.1) _ _
    (entry_is g.K.Key.key_bytes g.T.Word.PartialEq.eq (g.T.Translator.word_of c.args.cfg.now.translator) c.args.cfg.now.items_per_section c.args.cfg.now.limits c.loop-given.tables c.in_ok-section.section (record { index = c.in_ok-section.record.index; key = g.K.Key.key_bytes c.in_ok-section.record.key }) c.in_err-enter.field-0.0 c.in_err-enter.ensures)
    (λ t apart_row.
    let gives = gives_record g taken t in
    let at = stray_given g.K.Key.key_bytes c.args.cfg.now.items_per_section c.in_ok-section.section c.in_ok-section.field-0-1 c.in_ok-section.record (records_given (run_of (place_of g.K.Key.SIZE) c.loop-given.replay) (disk (g.D.Device.time c.loop-given.dev)) c.in_ok-section.section) (records_given run (disk (g.D.Device.time c.next.new.dev)) c.in_ok-section.section)
    (sym (same_given g n went t c.in_ok-section.section)) gives.due.given gives.item.spelled gives.item.allowed apart_row in
    stray_kept run (g.D.Device.opened c.next.new.dev) (disk (g.D.Device.time c.next.new.dev)) (are_pages g.row.S g.S.Seal g.S.Seal-dict) (here_run (place_of g.K.Key.SIZE) c.next.new.self (index_record_at_least g.K.Key.SIZE)) (passed g n).over ((passed g n).same.tracked ∙ c.requires.may.tracked) went.going t
    (λ s. kept start.layout (as_read (disk (g.D.Device.time c.args.dev.now))) (marker start s) s) (kept_since g n went t) c.args.cfg.now.items_per_section c.in_ok-section.section c.in_ok-section.field-0-1 at.0
    (undue g.K.Key.SIZE (rows_of g.K.Key.key_bytes c.loop-given.tables) (run_of (place_of g.K.Key.SIZE) c.loop-given.replay) run (disk (g.D.Device.time c.loop-given.dev)) (disk (g.D.Device.time c.next.new.dev)) (c.loop-given.invariant.entered t) (spelling_of g.K.Key.key_bytes) (λ r _. IsInRange r) c.in_ok-section.section c.in_ok-section.field-0-1 c.in_ok-section.record gives)
    at.1)
    (λ t none.
    let gives = gives_record g taken t in
    let entered = c.loop-given.invariant.entered t in
    let rows = rows_of g.K.Key.key_bytes c.loop-given.tables in
    let walked = run_of (place_of g.K.Key.SIZE) c.loop-given.replay in
    let d = disk (g.D.Device.time c.loop-given.dev) in
    let e = disk (g.D.Device.time c.next.new.dev) in
    over_kept run (g.D.Device.opened c.next.new.dev) e (are_pages g.row.S g.S.Seal g.S.Seal-dict) (here_run (place_of g.K.Key.SIZE) c.next.new.self (index_record_at_least g.K.Key.SIZE)) (passed g n).over ((passed g n).same.tracked ∙ c.requires.may.tracked) went.going t
    (λ s. kept start.layout (as_read (disk (g.D.Device.time c.args.dev.now))) (marker start s) s) (kept_since g n went t) c.args.cfg.now.limits.sections c.args.cfg.now.limits.per_section c.in_ok-section.section c.in_ok-section.field-0-1 rows
    (undue_rows g.K.Key.SIZE rows walked run d e entered (spelling_of g.K.Key.key_bytes) (λ r _. IsInRange r) c.in_ok-section.section c.in_ok-section.field-0-1 c.in_ok-section.record gives)
    (given_rows g.K.Key.SIZE rows walked run d e entered (spelling_of g.K.Key.key_bytes) (λ r _. IsInRange r) c.in_ok-section.section c.in_ok-section.field-0-1 c.in_ok-section.record gives (same_given g n went t))
    (next_row g.K.Key.SIZE rows walked d entered c.in_ok-section.section c.in_ok-section.field-0-1 gives.due gives.first)
    (subst (λ (rs : List (List ℕ)). c.in_ok-section.field-0-1 < length rs) (sym (same_given g n went t c.in_ok-section.section)) gives.due.given)
    (undue g.K.Key.SIZE rows walked run d e entered (spelling_of g.K.Key.key_bytes) (λ r _. IsInRange r) c.in_ok-section.section c.in_ok-section.field-0-1 c.in_ok-section.record gives)
    none)

pub returns : goal.returns
returns g c =
    let n = (goal.at.returns g c).After-next in
    let went = going g n (c.next.ensures.whole c.in_default.is c.loop-given.invariant.going.going) in
    drained _ g.D.Device g.K.Key.SIZE c.args.cfg.now.items_per_section c.args.cfg.now.limits (run_of (place_of g.K.Key.SIZE) c.args.replay.now) (run_of (place_of g.K.Key.SIZE) c.next.new.self) c.args.dev.now c.next.new.dev _ _ (record {
      over = (passed g n).over;
      same = (passed g n).same;
      config = c.next.ensures.codec_config ∙ c.loop-given.invariant.codec_config;
      moments = (passed g n).moves.moments;
      untouched = (passed g n).moves.untouched;
      entries = (passed g n).moves.entries;
      reads = reads_end (page_blob.ghosts g.row.S g.S.Seal g.S.Seal-dict) page_setting (λ f. record { page_size = 1; capacity = f.capacity; cache_pages = 0 }) g.D.Device.Tells (run_of (place_of g.K.Key.SIZE) c.args.replay.now) (g.D.Device.time c.args.dev.now) (g.D.Device.opened c.args.dev.now) (run_of (place_of g.K.Key.SIZE) c.next.new.self) (g.D.Device.time c.next.new.dev) (g.D.Device.opened c.next.new.dev) (passed g n);
      faults = omega (arith, c.loop-given.invariant.faults, c.next.ensures.faults);
    }) _ _ c.loop-given.tables (record {
      going = went.going;
      drained = drained_on (page_blob.ghosts g.row.S g.S.Seal g.S.Seal-dict) page_setting (λ f. record { page_size = 1; capacity = f.capacity; cache_pages = 0 }) g.D.Device.Tells (λ bytes _. size_refusal (g.K.Key.SIZE + 20) bytes) (spelling_of g.K.Key.key_bytes) (λ r _. IsInRange r) (run_of (place_of g.K.Key.SIZE) c.args.replay.now) (g.D.Device.time c.args.dev.now) (g.D.Device.opened c.args.dev.now) c.requires.may.tracked (run_of (place_of g.K.Key.SIZE) c.loop-given.replay) (g.D.Device.time c.loop-given.dev) (g.D.Device.opened c.loop-given.dev) c.loop-given.invariant.passed c.loop-given.invariant.going (run_of (place_of g.K.Key.SIZE) c.next.new.self) (g.D.Device.time c.next.new.dev) (g.D.Device.opened c.next.new.dev) (g.D.Device.faults c.loop-given.dev) (g.D.Device.faults c.next.new.dev) c.next.result (says g n) (laid g n)
          (c.next.ensures.whole c.in_default.is c.loop-given.invariant.going.going) c.in_default.is;
      within = c.loop-given.invariant.within;
      tied = c.loop-given.invariant.tied;
      told = λ t. record {
        listed = (λ s. all_rows g.K.Key.SIZE (rows_of g.K.Key.key_bytes c.loop-given.tables) (run_of (place_of g.K.Key.SIZE) c.loop-given.replay) (disk (g.D.Device.time c.loop-given.dev)) (c.loop-given.invariant.entered t) (c.next.ensures.none t c.in_default.is) s ∙ ap (map (row_in g.K.Key.SIZE)) (sym (same_given g n went t s)));
        spelled = (λ s. subst (AllByRecursion (IsSpelled g.K.Key.SIZE)) (sym (same_given g n went t s)) (all_of g.K.Key.SIZE (rows_of g.K.Key.key_bytes c.loop-given.tables) (run_of (place_of g.K.Key.SIZE) c.loop-given.replay) (disk (g.D.Device.time c.loop-given.dev)) (c.loop-given.invariant.entered t) (IsSpelled g.K.Key.SIZE) (c.next.ensures.none t c.in_default.is) (c.loop-given.invariant.spelled t) s));
        given = went.given t;
        keeps = went.stays.keeps t;
        lawful = went.stays.lawful t;
        opened = went.stays.opened t;
      };
    })
