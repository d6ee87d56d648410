use Rattle.sealed_pages.specs.lemmas.Entries.{reads_start}
use Rattle.std.proofs.Common.{rules, refl}
use Rattle.sealed_pages.proofs.range.read_pages.Goals as goal

pub returns-then-is_empty : goal.returns-then-is_empty
returns-then-is_empty g c =
    record {
      bytes = search rules;
      covered = search rules;
      short = search rules;
      unchanged = search rules;
      none = λ empty. refl;
      entries = reads_start _ _ _;
      faults = search rules;
      cause = search rules;
    }

pub returns-in_err-page_buf : goal.returns-in_err-page_buf
returns-in_err-page_buf g c =
    record {
      bytes = search rules;
      covered = search rules;
      short = search rules;
      unchanged = search rules;
      none = λ empty. refl;
      entries = reads_start _ _ _;
      faults = search rules;
      cause = search rules;
    }
