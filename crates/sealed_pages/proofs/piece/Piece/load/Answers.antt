use Rattle.std.proofs.Common.{rules}
use Rattle.sealed_pages.proofs.piece.Piece.load.Goals as goal

pub returns-then-has : goal.returns-then-has
returns-then-has g c =
    record {
      holds = search rules;
      piece = search rules;
      held = search rules;
      loads = search rules;
      page_size = search rules;
      unchanged = search rules;
      entries = search rules;
      faults = search rules;
      cause = search rules;
    }

pub returns : goal.returns
returns g c =
    record {
      holds = search rules;
      piece = search rules;
      held = search rules;
      loads = search rules;
      page_size = search rules;
      unchanged = search rules;
      entries = search rules;
      faults = search rules;
      cause = search rules;
    }
