use Rattle.std.proofs.Common.{inl, refl, sym, ◌∙◌}
use Rattle.cache_store.specs.Holding.{offsets_of}
use Rattle.cache_store.proofs.EnteringLemmas.{enters_inserted, marked_held}
use Rattle.cache_store.proofs.cache.opening.enter.Goals as goal

-- it is of another section
pub returns-then-wanted-section : goal.returns-then-wanted-section
returns-then-wanted-section c = inl (_, refl, record { section = refl; kept = refl; wanted = c.section_of-wanted.ensures; other = c.if-wanted-section.true })

-- an earlier one has its index
pub returns-then-has : goal.returns-then-has
returns-then-has c = record {
  own = sym c.section_of-wanted.ensures ∙ c.if-wanted-section.false;
  tied = c.requires.tied;
  held = marked_held c.args.index c.args.offset (offsets_of c.args.held.now) (sym c.has.ensures ∙ c.if-has.true);
}

pub returns : goal.returns
returns c =
    enters_inserted c.args.items c.args.section c.args.offset c.args.index c.args.held.now c.insert.new.self c.insert.result (sym c.section_of-wanted.ensures ∙ c.if-wanted-section.false)
    (sym c.has.ensures ∙ c.if-has.false) c.insert.ensures.tied c.insert.ensures.held c.insert.ensures.cause
