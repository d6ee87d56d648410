-- Which archive a configuration asks for, and what it asks of commands.
use Rattle.std.specs.Prelude.{ℕ, ⊤, List, Option}
use Rattle.value_codec.specs.declared.codec.Error as codec
use Rattle.value_codec.specs.declared.seal.Seal as seal
use Rattle.archives.specs.Config.{IsValid}
use Rattle.archives.specs.Filing.{Filing}
use Rattle.archives.specs.Shown.{filing_for}
use Rattle.archives.specs.declared.commands.Command as asking
use Rattle.archives.specs.declared.commands.Command.TheVariants as ask
use Rattle.archive_service.specs.Kinds.{Kind}
use Rattle.archive_service.specs.PrunableKind.{prunable_kind}
use Rattle.archive_service.specs.declared.serving.StoreConfig.{StoreConfig}
use Rattle.archive_service.specs.declared.serving.StoreConfig.TheVariants.{Prunable}

-- the configuration of the archive is valid
abbrev pub IsValidStore : {T C : Type 0} → StoreConfig T C → Type 0
IsValidStore (Prunable cfg) = IsValid cfg

-- what the codec of the values is told
abbrev pub codec_config_of : {T C : Type 0} → StoreConfig T C → C
codec_config_of (Prunable cfg) = cfg.codec_config

-- how the archive files its records, with keys of n bytes, under this seal, and values that the codec refuses so
abbrev pub filing_in : {T S C : Type 0} → ℕ → seal.Ghosts S → (List ℕ → C → Option codec.Error)
    → StoreConfig T C → Filing
filing_in n sealing refusal (Prunable cfg) = filing_for n sealing refusal cfg

-- the store as a kind
abbrev pub kind_in : {T S C : Type 0} → ℕ → seal.Ghosts S → (List ℕ → C → Option codec.Error)
    → StoreConfig T C → Kind
kind_in n sealing refusal (Prunable cfg) =
    prunable_kind (filing_for n sealing refusal cfg) cfg.key_write_buffer cfg.value_write_buffer

-- a value that the command puts, if any, has P
abbrev pub PutsOnly : {K V : Type 0} → (V → Type 0) → asking.Command K V → Type 0
PutsOnly P (ask.Put index key value) = P value
PutsOnly P (ask.PutSync index key value) = P value
PutsOnly P (ask.PutStart index key value) = P value
PutsOnly P (ask.Multi index key value) = P value
PutsOnly P (ask.MultiSync index key value) = P value
PutsOnly P (ask.MultiStart index key value) = P value
PutsOnly P (ask.Get index) = ⊤
PutsOnly P (ask.GetKey key) = ⊤
PutsOnly P (ask.Has index) = ⊤
PutsOnly P (ask.HasKey key) = ⊤
PutsOnly P (ask.HasAt index key) = ⊤
PutsOnly P (ask.All index) = ⊤
PutsOnly P (ask.Gap index) = ⊤
PutsOnly P (ask.Missing index count) = ⊤
PutsOnly P ask.Ranges = ⊤
PutsOnly P (ask.RangesFrom index) = ⊤
PutsOnly P ask.First = ⊤
PutsOnly P ask.Last = ⊤
PutsOnly P ask.Sync = ⊤
PutsOnly P ask.Start = ⊤
PutsOnly P (ask.Prune bound) = ⊤
PutsOnly P ask.Reopen = ⊤
PutsOnly P ask.Destroy = ⊤
