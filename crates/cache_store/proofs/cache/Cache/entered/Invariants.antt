use Rattle.std.specs.Prelude.{◌<◌, ◌^◌}
use Rattle.std.proofs.Common.{refl}
use Rattle.section_manager.specs.contracts.sealed.PageBlobSectionBuffer.TheImpl as page_blob
use Rattle.segments.specs.FixedStepping.{way_of}
use Rattle.variable_journal.specs.Walking.{config_of, walk_of}
use Rattle.cache_store.specs.Config.{refusal_of}
use Rattle.cache_store.specs.Records.{record_bytes, record_refusal}
use Rattle.cache_store.specs.declared.record.Record.{Record}
use Rattle.cache_store.proofs.ReplayedLemmas.{IsEntering}
use Rattle.cache_store.proofs.cache.Cache.entered.Given as goal

-- what was given so far is entered
abbrev pub invariant-records : goal.invariant-records
invariant-records g l = IsEntering {V = Record g.row.V.Denot} (page_blob.ghosts g.row.S g.S.Seal g.S.Seal-dict) (λ f. record { page_size = f.pages.page_size; capacity = f.write_buffer; cache_pages = f.pages.cache_pages })
    g.S.Seal.seal_of g.D.Device (λ r. record_bytes r.index (g.V.Codec.spelling r.value)) (λ r cfg. (r.index < 2 ^ 64) × g.V.Codec.accepted r.value cfg) (λ bytes cfg. record_refusal (refusal_of g.V.Codec.refusal cfg) bytes)
    (config_of l.initial.replay) l.items (refusal_of g.V.Codec.refusal (config_of l.initial.replay))
    (record { index = λ r. r.index; value = λ r. g.V.Codec.spelling r.value; spelled = λ r. refl; number = λ r a. a.0; fine = λ r a. g.met.V.Codec.kept r.value (config_of l.initial.replay) a.1 })
    (walk_of l.initial.replay) l.initial.dev (walk_of l.replay) (config_of l.replay) l.dev l.held

abbrev pub decreases-records : goal.decreases-records
decreases-records g l = way_of (walk_of l.replay)
