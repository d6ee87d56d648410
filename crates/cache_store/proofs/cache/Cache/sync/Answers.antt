use Rattle.std.proofs.Common.{refl, ap}
use Rattle.std.specs.BTreeMap.{get, is_at}
use Rattle.std.specs.Map.{lookup}
use Rattle.std.specs.Ordering.{nat_cmp}
use Rattle.blob_device.proofs.general.Results.{err_of}
use Rattle.segments.specs.lemmas.adding.Write.{are_pages}
use Rattle.variable_journal.specs.Shown as journal
use Rattle.cache_store.specs.Shown.{config_of, shown}
use Rattle.cache_store.proofs.EndLemmas.{mem_failed}
use Rattle.cache_store.proofs.LayoutLemmas.{same_layout}
use Rattle.cache_store.proofs.SyncCallLemmas.{sync_as, sync_done, sync_early, sync_failed}
use Rattle.cache_store.proofs.cache.Cache.sync.Goals as goal

-- there was no memory to list the sections
pub returns-in_err-sections : goal.returns-in_err-sections
returns-in_err-sections g c =
    sync_as _ _ g.D.Device (shown g.V.Codec.refusal c.args.self) (shown g.V.Codec.refusal) _ config_of _ c.in_err-sections.field-0.0 _ _ (err_of _ c.in_err-sections.field-0.0 c.from_residual.ensures.1)
    (sync_early _ _ g.D.Device (shown g.V.Codec.refusal c.args.self) (are_pages g.row.S g.S.Seal g.S.Seal-dict) c.args.dev.now c.requires.over _ _
    (mem_failed _ _ _ c.in_err-sections.ensures.cause))

-- the journal's sync failed
pub returns-in_err-this : goal.returns-in_err-this
returns-in_err-this g c =
    sync_as _ _ g.D.Device (shown g.V.Codec.refusal c.args.self) (shown g.V.Codec.refusal) _ config_of _ c.in_err-this.field-0.0 _ _ (err_of _ c.in_err-this.field-0.0 c.from_residual-in_err-this.ensures.1)
    (sync_failed _ _ g.D.Device (shown g.V.Codec.refusal c.args.self) (are_pages g.row.S g.S.Seal g.S.Seal-dict) c.args.dev.now c.requires.over
    c.as_slice.result.now _ c.as_slice.ensures.value c.in_ok-sections.ensures.each _ _ c.sync.new.dev _ c.in_err-this.ensures c.in_err-this.field-0.0 refl)

-- all has settled
pub returns : goal.returns
returns g c =
    sync_done _ _ g.D.Device (shown g.V.Codec.refusal c.args.self) (are_pages g.row.S g.S.Seal g.S.Seal-dict) c.args.dev.now c.requires.over
    c.as_slice.result.now _ c.as_slice.ensures.value c.in_ok-sections.ensures.each _ _ c.sync.new.dev (journal.shown c.in_ok-this.field-0) c.in_ok-this.ensures _
    (same_layout g.S.Seal.seal_of c.args.self.items_per_blob g.V.Codec.refusal _ _ _ _ c.in_ok-this.ensures.bounds.place c.in_ok-this.ensures.config)
    (get nat_cmp c.clear.new.self) (λ n. ap (lookup (is_at (nat_cmp n))) c.clear.ensures.empty)
