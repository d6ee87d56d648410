-- A buffer over a blob without seals of which nothing is pending, once its blob has settled.
use Rattle.std.proofs.Common.{◌≡◌, ℕ, ◌≤◌, false, List, [], length, sym, ◌∙◌, ap, arith}
use Rattle.blob_device.specs.Change.{written}
use Rattle.blob_device.specs.Disk.{Blob, settled_at}
use Rattle.sealed_pages.specs.unsealed.Writing.{WriteBuffer, bytes_of, Over, KeepsSettled}
use Rattle.sealed_pages.proofs.unsealed.LastingLemmas.{kept_clean}
use Rattle.sealed_pages.specs.lemmas.Write.{written_nothing}
use Rattle.sealed_pages.proofs.unsealed.WritingLemmas.{over_settled}

-- the blob has settled with these bytes, and the buffer means them
pub record SettledAs (r : WriteBuffer) (all : List ℕ) (b : Blob) : Type 0 where
  pub over : Over r b
  pub kept : KeepsSettled r b
  pub settles : b ≡ settled_at all
  pub bytes : bytes_of r b.content ≡ all

pub settled_as : (r : WriteBuffer) (all : List ℕ) (b : Blob) → b ≡ settled_at all → r.settled ≤ length all → r.at ≤ length all → r.dirty ≡ false → r.pending ≡ [] → SettledAs r all b
settled_as r all b is few low clean none = record {
  over = over;
  kept = kept_clean r b over clean none;
  settles = is;
  bytes = ap (written b.content r.at) none ∙ written_nothing b.content r.at (omega (arith, low, ap length same)) ∙ same;
}
  where
    same : b.content ≡ all
    same = ap (λ (x : Blob). x.content) is

    over : Over r b
    over = over_settled r b (is ∙ ap settled_at (sym same)) (omega (arith, few, ap length same))
