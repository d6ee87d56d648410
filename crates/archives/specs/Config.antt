-- Which configurations of a prunable archive are valid.
use Rattle.std.specs.Prelude.{◌≡◌, ◌≢◌, ◌≤◌, Result, Ok, Err, string_bytes, string_len}
use Rattle.paired.specs.declared.oversized.opening.Config as oversized
use Rattle.archives.specs.declared.error.Error.{Error}
use Rattle.archives.specs.declared.error.Error.TheVariants.{Mem}
use Rattle.archives.specs.declared.prunable.config.Config.{Config}
use Rattle.archives.specs.Limits.{AreLimits}

module _ {T C : Type 0} (cfg : Config T C) where
  -- the three partitions have names, and no two the same
  pub record HasPartitions : Type 0 where
    pub metadata : 1 ≤ string_len cfg.metadata_partition
    pub keys : 1 ≤ string_len cfg.key_partition
    pub values : 1 ≤ string_len cfg.value_partition
    pub metadata_keys : string_bytes cfg.metadata_partition ≢ string_bytes cfg.key_partition
    pub metadata_values : string_bytes cfg.metadata_partition ≢ string_bytes cfg.value_partition
    pub keys_values : string_bytes cfg.key_partition ≢ string_bytes cfg.value_partition

  -- they have, each number is at least 1, and the limits are in their ranges
  pub record IsValid : Type 0 where
    pub partitions : HasPartitions
    pub pages : 1 ≤ cfg.key_pages.page_size
    pub items : 1 ≤ cfg.items_per_section
    pub key_buffer : 1 ≤ cfg.key_write_buffer
    pub value_buffer : 1 ≤ cfg.value_write_buffer
    pub replay_buffer : 1 ≤ cfg.replay_buffer
    pub limits : AreLimits cfg.limits

  -- it is where the archive's pair is kept, but for its markers
  pub record IsPairOf (pair : oversized.Config C) : Type 0 where
    pub records : string_bytes pair.index_partition ≡ string_bytes cfg.key_partition
    pub values : string_bytes pair.value_partition ≡ string_bytes cfg.value_partition
    pub pages : pair.index_pages ≡ cfg.key_pages
    pub write_buffers : (pair.index_write_buffer ≡ cfg.key_write_buffer)
        × (pair.value_write_buffer ≡ cfg.value_write_buffer)
    pub replay_buffer : pair.replay_buffer ≡ cfg.replay_buffer
    pub codec_config : pair.codec_config ≡ cfg.codec_config

  -- that, or want of memory
  abbrev pub Pairs : Result (oversized.Config C) Error → Type 0
  Pairs (Ok pair) = IsPairOf pair
  Pairs (Err e) = e ≡ Mem
