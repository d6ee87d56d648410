-- A slot is not the other one, and what has settled at a content has settled.
use Rattle.std.proofs.Common.{◌≡◌, ◌≢◌, ℕ, not, Bool, true, false, List, sym, ◌∙◌, ap}
use Rattle.blob_device.specs.Disk.{Blob, settled_at}
use Rattle.sealed_pages.specs.Cutting.{StandsSettled}

pub other_not : (b : Bool) → b ≢ not b
other_not true e = cc e
other_not false e = cc e

-- what has settled with a content has settled with its own
pub settled_rest : (b : Blob) (c : List ℕ) → b ≡ settled_at c → StandsSettled b
settled_rest b c is = is ∙ ap settled_at (sym (ap (λ (x : Blob). x.content) is))
