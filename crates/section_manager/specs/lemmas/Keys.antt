-- Two sections have different blobs.
use Rattle.std.specs.Prelude.{◌≡◌, ◌≢◌, ℕ, ◌^◌, ◌<◌, List}
use Rattle.std.specs.Int.{w64, from_be_bytes}
use Rattle.std.proofs.Common.{sym, ap, ◌∙◌}
use Rattle.std.proofs.lemmas.Nat.{from_be_bytes-to_be_bytes_8}
use Rattle.blob_device.specs.Disk.{Key}
use Rattle.section_manager.specs.Sections.{section_key}

pub key_injective : (partition : List ℕ) (s t : ℕ) → s < 2 ^ 64 → t < 2 ^ 64 → section_key partition s ≡ section_key partition t → s ≡ t
key_injective partition s t s_small t_small is =
    sym (from_be_bytes-to_be_bytes_8 s s_small) ∙ ap (λ (k : Key). from_be_bytes w64 k.1) is ∙ from_be_bytes-to_be_bytes_8 t t_small

pub keys_differ : (partition : List ℕ) (s t : ℕ) → s < 2 ^ 64 → t < 2 ^ 64 → s ≢ t → section_key partition s ≢ section_key partition t
keys_differ partition s t s_small t_small other is = other (key_injective partition s t s_small t_small is)
