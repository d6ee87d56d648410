use Rattle.sealed_pages.specs.lemmas.Entries.{open_entered}
use Rattle.sealed_pages_tests.proofs.pages.adopted.Goals as goal

pub adopt-requires-clause-open : goal.adopt-requires-clause-open
adopt-requires-clause-open c = open_entered _ _ _ _ c.in_ok-size.ensures.opened
