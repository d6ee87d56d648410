use Rattle.std.specs.Prelude.{◌≡◌, ◌≤◌, ◌-◌, Some, Ok}
use Rattle.section_manager.specs.contracts.sealed.PageBlobSectionBuffer.TheImpl as impl
use Rattle.segments.specs.FixedReplay.{Place}
use Rattle.variable_journal.specs.Turning.{AreAtHand, Looks, StandsStill}
use Rattle.variable_journal.specs.Walking.{config_of, walk_of}
use Rattle.variable_journal.proofs.journal.replaying.Replay.look_last.Given as goal

abbrev pub invariant-bytes : goal.invariant-bytes
invariant-bytes g l = record {
  few : l.count ≤ 5;
  config : config_of l.self ≡ config_of l.fn.self;
  looks : (r : Place) → (walk_of l.fn.self).place ≡ Some r → Looks (impl.ghosts g.row.S g.S.Seal g.S.Seal-dict) (λ f. record { page_size = f.pages.page_size; capacity = f.write_buffer; cache_pages = f.pages.cache_pages }) g.S.Seal.seal_of g.D.Device r (walk_of l.fn.self) (walk_of l.self) l.initial.dev l.dev {T = Unit {0}} (Ok tt);
  still : (r : Place) → (walk_of l.fn.self).place ≡ Some r → StandsStill (impl.ghosts g.row.S g.S.Seal g.S.Seal-dict) (λ f. record { page_size = f.pages.page_size; capacity = f.write_buffer; cache_pages = f.pages.cache_pages }) g.S.Seal.seal_of g.D.Device r (walk_of l.fn.self) (walk_of l.self) l.initial.dev l.dev;
  hand : (r : Place) → (walk_of l.fn.self).place ≡ Some r → AreAtHand (impl.ghosts g.row.S g.S.Seal g.S.Seal-dict) (λ f. record { page_size = f.pages.page_size; capacity = f.write_buffer; cache_pages = f.pages.cache_pages }) g.S.Seal.seal_of g.D.Device r (walk_of l.fn.self) (walk_of l.self) l.initial.dev l.dev l.count;
}

abbrev pub decreases-bytes : goal.decreases-bytes
decreases-bytes g l = 5 - l.count
