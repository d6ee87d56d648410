-- The configuration of the program's archive.
use Rattle.std.specs.Prelude.{◌≡◌, ℕ}
use Rattle.value_codec.specs.Spelling.{length_refusal}
use Rattle.value_codec.specs.contracts.seal.Sha256SealSeal.TheImpl as sha256
use Rattle.archives.specs.Filing.{IsSameFiling}
use Rattle.archives.specs.declared.translator.FourCap.{FourCap}
use Rattle.archive_service.specs.Stores.{IsValidStore, codec_config_of, filing_in}
use Rattle.archive_service.specs.declared.serving.StoreConfig.{StoreConfig}
use Rattle.archive_service.specs.declared.serving.StoreConfig.TheVariants.{Prunable}
use Rattle.archive_service.specs.declared.settings.Settings.{Settings}
use Rattle.archive_program.specs.Program.{program_filing}

-- how many pages it holds, and from how many bytes on its buffers of records and of values, and its replay, read or
-- write
abbrev pub buffers_of : {T C : Type 0} → StoreConfig T C → ℕ × ℕ × ℕ × ℕ
buffers_of (Prunable cfg) = (cfg.key_pages.cache_pages, cfg.key_write_buffer, cfg.value_write_buffer, cfg.replay_buffer)

-- It is valid, allows values up to the settings' limit, and files records as the program's archive does.
pub record IsConfigFor (settings : Settings) (items : ℕ) (store : StoreConfig FourCap ℕ) : Type 0 where
  -- it is valid
  pub valid : IsValidStore store
  -- it allows values up to so many bytes
  pub values : codec_config_of store ≡ settings.max_value
  -- its buffers are of the stated sizes
  pub buffers :
      buffers_of store ≡ (settings.cache_pages, settings.write_buffer, settings.write_buffer, settings.replay_buffer)
  -- it files records as the program's archive
  pub filing : IsSameFiling (program_filing settings items)
      (filing_in 8 sha256.ghosts (λ bytes most. length_refusal most bytes) store)
