use Rattle.std.proofs.Common.{rules}
use Rattle.sealed_pages.proofs.reading.read_page.Goals as goal

pub returns : goal.returns
returns g c =
    record {
      bytes = search rules;
      within = search rules;
      unchanged = search rules;
      entries = search rules;
      faults = search rules;
      cause = search rules;
    }
