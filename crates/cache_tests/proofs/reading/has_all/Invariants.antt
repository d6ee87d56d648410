use Rattle.cache_tests.specs.Stores.{IsUsable}
use Rattle.cache_tests.proofs.reading.has_all.Given as goal

abbrev pub invariant-entries : goal.invariant-entries
invariant-entries l = IsUsable l.dev l.cache
