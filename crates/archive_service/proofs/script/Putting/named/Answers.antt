-- The name is one of six, or of no put.
use Rattle.std.proofs.Common.{◌≢◌}
use Rattle.archive_service.specs.PuttingNames.{name_of}
use Rattle.archive_service.specs.declared.script.Putting.{Putting}
use Rattle.archive_service.specs.declared.script.Putting.TheVariants as way
use Rattle.archive_service.proofs.WordLemmas.{other_word, same_word}
use Rattle.archive_service.proofs.script.Putting.named.Goals as goal

pub returns-then-eq-clause-found : goal.returns-then-eq-clause-found
returns-then-eq-clause-found c = same_word c.as_slice.ensures c.if-eq.ensures

pub returns-then-eq-2-clause-found : goal.returns-then-eq-2-clause-found
returns-then-eq-2-clause-found c = same_word c.as_slice-else-eq.ensures c.if-eq-2.ensures

pub returns-then-eq-3-clause-found : goal.returns-then-eq-3-clause-found
returns-then-eq-3-clause-found c = same_word c.as_slice-else-eq-2.ensures c.if-eq-3.ensures

pub returns-then-eq-4-clause-found : goal.returns-then-eq-4-clause-found
returns-then-eq-4-clause-found c = same_word c.as_slice-else-eq-3.ensures c.if-eq-4.ensures

pub returns-then-eq-5-clause-found : goal.returns-then-eq-5-clause-found
returns-then-eq-5-clause-found c = same_word c.as_slice-else-eq-4.ensures c.if-eq-5.ensures

pub returns-then-eq-6-clause-found : goal.returns-then-eq-6-clause-found
returns-then-eq-6-clause-found c = same_word c.as_slice-else-eq-5.ensures c.if-eq-6.ensures

pub returns-else-eq-6-clause-none : goal.returns-else-eq-6-clause-none
returns-else-eq-6-clause-none c = none
  where
    none : (putting : Putting) → c.args.name.now ≢ name_of putting
    none way.Put = other_word c.as_slice.ensures c.if-eq.ensures
    none way.PutSync = other_word c.as_slice-else-eq.ensures c.if-eq-2.ensures
    none way.PutStart = other_word c.as_slice-else-eq-2.ensures c.if-eq-3.ensures
    none way.Multi = other_word c.as_slice-else-eq-3.ensures c.if-eq-4.ensures
    none way.MultiSync = other_word c.as_slice-else-eq-4.ensures c.if-eq-5.ensures
    none way.MultiStart = other_word c.as_slice-else-eq-5.ensures c.if-eq-6.ensures
