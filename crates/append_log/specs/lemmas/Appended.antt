-- A settled blob holds its bytes, whatever crash comes.
use Rattle.std.proofs.Common.{ℕ, List, refl, arith}
use Rattle.blob_device.specs.Disk.{settled_at}
use Rattle.blob_device.specs.lemmas.Keeps.{keeps_all}
use Rattle.append_log.specs.Appended.{Holds}

pub holds_settled : (bytes : List ℕ) → Holds bytes (settled_at bytes)
holds_settled bytes = record { content = refl; kept = keeps_all bytes; no_longer = record { now = omega arith; past = omega arith } }
