-- A section that was cut back, by another name of the length.
use Rattle.std.specs.Prelude.{◌≡◌, ℕ, List}
use Rattle.std.proofs.Common.{subst}
use Rattle.blob_device.specs.Disk.{Blob}
use Rattle.sealed_pages.specs.declared.page_blob.PageBlob.{PageBlob}
use Rattle.segments.specs.FixedStepping.{IsCutBack}

-- as many bytes, by another name
pub cut_to : {S told : Type 0} {gs : _} {seal : List ℕ → ℕ} {u v : PageBlob S gs} {x y : Blob} {n m : ℕ} → n ≡ m → IsCutBack seal told u x v y n → IsCutBack seal told u x v y m
cut_to {told = told} {seal = seal} {u = u} {v = v} {x = x} {y = y} is cut = subst (IsCutBack seal told u x v y) is cut
