use Rattle.std.proofs.Common.{[], ap, inl, refl}
use Rattle.std.specs.BTreeMap.{get, is_at}
use Rattle.std.specs.Map.{lookup}
use Rattle.std.specs.Ordering.{nat_cmp}
use Rattle.blob_device.proofs.general.Results.{err_of}
use Rattle.sealed_pages.specs.Buffer.{size_of}
use Rattle.sealed_pages.specs.Shown as page_blob
use Rattle.segments.specs.lemmas.adding.Write.{are_pages}
use Rattle.variable_journal.specs.Shown as journal
use Rattle.variable_journal.specs.Walking.{walk_of}
use Rattle.cache_store.proofs.InitLemmas.{begins_own, cache_opened, given_back, has_begun, not_begun, not_entered, not_opened, not_past}
use Rattle.cache_store.proofs.cache.Cache.init.Goals as goal

-- there was no memory for the journal's configuration
pub returns-in_err-config : goal.returns-in_err-config
returns-in_err-config g c =
    rw (err_of c.from_residual.result c.in_err-config.field-0.0 c.from_residual.ensures.1)
    (not_begun _ _ g.D.Device g.S.Seal.seal_of g.V.Codec.refusal c.args.cfg.now c.args.dev.now (record { absent = λ t q. g.met.D.Device.absent t c.args.dev.now q; as_read = λ t q. g.met.D.Device.as_read t c.args.dev.now q }) _ c.in_err-config.ensures)

-- the journal was not opened
pub returns-in_err-journal : goal.returns-in_err-journal
returns-in_err-journal g c =
    rw (err_of c.from_residual-in_err-journal.result c.in_err-journal.field-0.0 c.from_residual-in_err-journal.ensures.1)
    (not_opened _ _ g.D.Device g.S.Seal.seal_of g.V.Codec.refusal c.args.cfg.now c.args.dev.now (record { absent = λ t q. g.met.D.Device.absent t c.args.dev.now q; as_read = λ t q. g.met.D.Device.as_read t c.args.dev.now q }) c.init.new.dev _ c.in_ok-config.ensures _ _ c.in_err-journal.ensures)

-- each frame is from the start on
pub replay-requires-clause-start : goal.replay-requires-clause-start
replay-requires-clause-start g c t held = inl (record { before = []; after = _; are = refl; at = refl })

-- a start at 0 is not refused
pub returns-in_err-replay : goal.returns-in_err-replay
returns-in_err-replay g c = absurd (not_past _ (λ u. size_of (page_blob.shown u)) (c.in_err-replay.ensures.past.0 c.in_err-replay.ensures.cause))

-- it begins over its own journal
pub entered-requires-clause-begun : goal.entered-requires-clause-begun
entered-requires-clause-begun g c = begins_own _ 0 0 (walk_of c.in_ok-replay.replay) c.in_ok-replay.ensures.begins

-- a record was refused, or there was a failure
pub returns-in_err-held : goal.returns-in_err-held
returns-in_err-held g c =
    rw (err_of c.from_residual-in_err-held.result c.in_err-held.field-0.0 c.from_residual-in_err-held.ensures.1)
    (not_entered _ _ g.D.Device g.S.Seal.seal_of g.V.Codec.refusal c.args.cfg.now c.args.dev.now (record { absent = λ t q. g.met.D.Device.absent t c.args.dev.now q; as_read = λ t q. g.met.D.Device.as_read t c.args.dev.now q }) c.replay.new.dev (are_pages g.row.S g.S.Seal g.S.Seal-dict) (λ f. refl) (walk_of c.in_ok-replay.replay) _
    (has_begun _ _ g.D.Device g.S.Seal.seal_of g.V.Codec.refusal c.args.cfg.now c.args.dev.now (record { absent = λ t q. g.met.D.Device.absent t c.args.dev.now q; as_read = λ t q. g.met.D.Device.as_read t c.args.dev.now q }) _ c.in_ok-config.ensures _ _ c.init.new.dev c.in_ok-journal.ensures _ _ _ c.in_ok-replay.ensures)
    c.entered.new.dev (walk_of c.entered.new.replay) _ c.in_err-held.ensures.all)

-- the journal is given back
pub returns-in_err-records : goal.returns-in_err-records
returns-in_err-records g c = absurd (given_back _ _ g.D.Device g.S.Seal.seal_of g.V.Codec.refusal c.args.cfg.now c.args.dev.now (record { absent = λ t q. g.met.D.Device.absent t c.args.dev.now q; as_read = λ t q. g.met.D.Device.as_read t c.args.dev.now q }) c.replay.new.dev (are_pages g.row.S g.S.Seal g.S.Seal-dict) (λ f. refl) (walk_of c.in_ok-replay.replay) _
    (has_begun _ _ g.D.Device g.S.Seal.seal_of g.V.Codec.refusal c.args.cfg.now c.args.dev.now (record { absent = λ t q. g.met.D.Device.absent t c.args.dev.now q; as_read = λ t q. g.met.D.Device.as_read t c.args.dev.now q }) _ c.in_ok-config.ensures _ _ c.init.new.dev c.in_ok-journal.ensures _ _ _ c.in_ok-replay.ensures)
    c.entered.new.dev (walk_of c.entered.new.replay) c.in_ok-held.held c.in_ok-held.ensures.all _ _ _ _ _ c.in_err-records.ensures)

-- it was opened
pub returns : goal.returns
returns g c = cache_opened _ _ g.D.Device g.S.Seal.seal_of g.V.Codec.refusal c.args.cfg.now c.args.dev.now (record { absent = λ t q. g.met.D.Device.absent t c.args.dev.now q; as_read = λ t q. g.met.D.Device.as_read t c.args.dev.now q }) c.replay.new.dev (are_pages g.row.S g.S.Seal g.S.Seal-dict) (λ f. refl) (walk_of c.in_ok-replay.replay) _
    (has_begun _ _ g.D.Device g.S.Seal.seal_of g.V.Codec.refusal c.args.cfg.now c.args.dev.now (record { absent = λ t q. g.met.D.Device.absent t c.args.dev.now q; as_read = λ t q. g.met.D.Device.as_read t c.args.dev.now q }) _ c.in_ok-config.ensures _ _ c.init.new.dev c.in_ok-journal.ensures _ _ _ c.in_ok-replay.ensures)
    c.entered.new.dev (walk_of c.entered.new.replay) c.in_ok-held.held c.in_ok-held.ensures.all _ _ _ _ (journal.shown c.in_ok-records.records) c.in_ok-records.ensures c.in_ok-held.ensures.config
    c.requires.items (get nat_cmp c.new.result) (λ n. ap (lookup (is_at (nat_cmp n))) c.new.ensures.empty)
