-- How much a prunable archive may keep.
use Rattle.std.specs.Prelude.{◌≤◌, ◌^◌}
use Rattle.archives.specs.declared.prunable.limits.Limits.{Limits}

-- the limits are in their ranges
pub record AreLimits (l : Limits) : Type 0 where
  pub some_sections : 1 ≤ l.sections
  pub sections : l.sections ≤ 2 ^ 24
  pub some_records : 1 ≤ l.per_section
  pub records : l.per_section ≤ 2 ^ 40
