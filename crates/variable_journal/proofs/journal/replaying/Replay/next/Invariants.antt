use Rattle.std.specs.Prelude.{◌≡◌, true}
use Rattle.section_manager.specs.contracts.sealed.PageBlobSectionBuffer.TheImpl as impl
use Rattle.segments.specs.FixedStepping.{way_of}
use Rattle.variable_journal.specs.Walking.{config_of, walk_of}
use Rattle.variable_journal.proofs.NextLemmas.{HasRun}
use Rattle.variable_journal.proofs.journal.replaying.Replay.next.Given as goal

abbrev pub invariant-turns : goal.invariant-turns
invariant-turns g l = record {
  run : HasRun (impl.ghosts g.row.S g.S.Seal g.S.Seal-dict) (λ f. record { page_size = f.pages.page_size; capacity = f.write_buffer; cache_pages = f.pages.cache_pages }) g.S.Seal.seal_of g.D.Device (walk_of l.fn.self) (walk_of l.self) l.initial.dev l.dev;
  config : config_of l.self ≡ config_of l.fn.self;
  ended : (walk_of l.fn.self).ended ≡ true → (l.self ≡ l.fn.self) × (l.dev ≡ l.initial.dev);
}

abbrev pub decreases-turns : goal.decreases-turns
decreases-turns g l = way_of (walk_of l.self)
