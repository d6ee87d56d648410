-- Which settings of the program are valid.
use Rattle.std.specs.Prelude.{◌≡◌, ℕ, ◌^◌, ◌≤◌}
use Rattle.archives.specs.Limits.{AreLimits}
use Rattle.archive_service.specs.declared.settings.Settings.{Settings}

-- the settings with which the program runs
abbrev pub usual : Settings
usual = record {
  page_size = 1024;
  cache_pages = 16;
  write_buffer = 1024;
  replay_buffer = 1024;
  max_value = 65536;
  limits = record { sections = 2 ^ 24; per_section = 2 ^ 40 };
  table_initial_size = 256;
  table_resize_frequency = 4;
  table_resize_chunk_size = 64;
  value_target_size = 1048576;
}

abbrev pub IsPowerOfTwo : ℕ → Type 0
IsPowerOfTwo n = (k : ℕ) × (n ≡ 2 ^ k)

module _ (s : Settings) where
  -- the numbers of a hash table are in their ranges
  pub record AreForTables : Type 0 where
    -- the slots of a new table
    pub size : IsPowerOfTwo s.table_initial_size
    -- at least one entry counts towards the next doubling
    pub some_entries : 1 ≤ s.table_resize_frequency
    -- and at most so many do
    pub entries : s.table_resize_frequency ≤ 254
    -- at least one slot is moved at once
    pub chunk : 1 ≤ s.table_resize_chunk_size
    -- a section of values has at least one byte
    pub target : 1 ≤ s.value_target_size

  -- all are
  pub record AreSettings : Type 0 where
    -- a page has data bytes
    pub pages : 1 ≤ s.page_size
    -- a buffer flushes from one byte on, or more
    pub write_buffer : 1 ≤ s.write_buffer
    -- an opening reads at least a byte
    pub replay_buffer : 1 ≤ s.replay_buffer
    -- a value may have sixteen bytes
    pub some_value : 16 ≤ s.max_value
    -- and none has more than these
    pub value : s.max_value ≤ 65536
    -- how much may be kept
    pub limits : AreLimits s.limits
    -- the numbers of a hash table
    pub tables : AreForTables

-- these are the settings with which the program runs, and they are valid
pub record IsUsual (s : Settings) : Type 0 where
  -- these are they
  pub is : s ≡ usual
  -- they are valid
  pub valid : AreSettings s
