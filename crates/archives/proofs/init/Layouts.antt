-- The layout of an archive's pair, as its filing says it.
use Rattle.std.proofs.Common.{◌≡◌, ap, ℕ, ◌+◌, List, Option}
use Rattle.std.specs.Prelude.{string_bytes}
use Rattle.sealed_pages.specs.declared.pages.Pages.{Pages}
use Rattle.value_codec.specs.declared.codec.Error as codec
use Rattle.value_codec.specs.declared.seal.Seal as seal
use Rattle.paired.specs.ReplayShown.{layout_for}
use Rattle.paired.specs.declared.oversized.opening.Config.{Config}
use Rattle.paired.specs.lemmas.pair.Synced.{layout_as}
use Rattle.archives.specs.IndexRecord.{place_of}
use Rattle.archives.specs.Shown.{filing_for}
use Rattle.archives.specs.declared.prunable.config.Config as archive

pub layout_same : {T S C D : Type 0} (n : ℕ) (sealing : seal.Ghosts S) (refusal : List ℕ → C → Option codec.Error) (cfg : archive.Config T C) (pair : Config D) (metadata : List ℕ)
    → string_bytes pair.index_partition ≡ string_bytes cfg.key_partition → string_bytes pair.value_partition ≡ string_bytes cfg.value_partition
    → metadata ≡ string_bytes cfg.metadata_partition → pair.index_pages ≡ cfg.key_pages
    → layout_for (place_of n) (n + 20) sealing pair metadata ≡ (filing_for n sealing refusal cfg).layout
layout_same n sealing refusal cfg pair metadata index values markers pages =
    layout_as (filing_for n sealing refusal cfg).layout (string_bytes pair.index_partition) (string_bytes pair.value_partition) metadata pair.index_pages.page_size
    index values markers (ap (λ (p : Pages). p.page_size) pages)
