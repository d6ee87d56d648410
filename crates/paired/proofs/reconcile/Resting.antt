-- No crash leaves a byte in a blob without bytes.
use Rattle.std.proofs.Common.{◌≡◌, ℕ, List, [], Option, None, Some, unwrap_or, refl, arith}
use Rattle.std.proofs.lemmas.List.{nil_from_length}
use Rattle.blob_device.specs.Disk.{Blob, MayLeave}
use Rattle.paired.specs.Pair.{HasNoBytes}

-- ---- blobs

-- no crash leaves a byte in a blob without bytes
pub left_bare : (b : Blob) → HasNoBytes b → (left : Option (List ℕ)) → MayLeave b left → unwrap_or left [] ≡ []
left_bare b bare None may = refl
left_bare b bare (Some c) may = nil_from_length c (omega (arith, may.1.no_longer, bare))
