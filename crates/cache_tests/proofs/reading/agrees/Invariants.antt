use Rattle.cache_tests.specs.Stores.{IsUsable}
use Rattle.cache_tests.proofs.reading.agrees.Given as goal

abbrev pub invariant-sections : goal.invariant-sections
invariant-sections l = IsUsable l.dev l.cache
