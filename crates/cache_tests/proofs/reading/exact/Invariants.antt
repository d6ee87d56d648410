use Rattle.cache_tests.specs.Stores.{IsUsable}
use Rattle.cache_tests.proofs.reading.exact.Given as goal

abbrev pub invariant-indices : goal.invariant-indices
invariant-indices l = IsUsable l.dev l.cache
