use Rattle.std.specs.Prelude.{◌≡◌}
use Rattle.section_manager.specs.contracts.sealed.PageBlobSectionBuffer.TheImpl as impl
use Rattle.segments.specs.FixedStepping.{way_of}
use Rattle.variable_journal.specs.Draining.{HasComeTo}
use Rattle.variable_journal.specs.Walking.{config_of, walk_of}
use Rattle.variable_journal.proofs.journal.replaying.Replay.drain.Given as goal

abbrev pub invariant-items : goal.invariant-items
invariant-items g l = record {
  come : HasComeTo (impl.ghosts g.row.S g.S.Seal g.S.Seal-dict) (λ f. record { page_size = f.pages.page_size; capacity = f.write_buffer; cache_pages = f.pages.cache_pages }) g.S.Seal.seal_of g.D.Device g.V.Codec.spelling g.V.Codec.accepted g.V.Codec.refusal (config_of l.fn.self) (walk_of l.fn.self) l.initial.dev (walk_of l.this) l.dev;
  config : config_of l.this ≡ config_of l.fn.self;
}

abbrev pub decreases-items : goal.decreases-items
decreases-items g l = way_of (walk_of l.this)
