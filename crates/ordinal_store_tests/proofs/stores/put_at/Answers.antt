use Rattle.ordinal_store_tests.proofs.stores.put_at.Goals as goal

pub put-requires-clause-value : goal.put-requires-clause-value
put-requires-clause-value c = c.ranges.value.fits
