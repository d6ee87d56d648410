-- The calls that write the next copy of a map and settle it: what they leave of its blob, and that no other changes.
use Rattle.std.proofs.Common.{◌≡◌, ℕ, List, Result, Ok, ◌∙◌, ap, subst}
use Rattle.blob_device.specs.declared.error.DevError.{DevError}
use Rattle.blob_device.specs.Disk.{Key, Blob, settled_at}
use Rattle.blob_device.specs.Change.{Write, Settle, written}
use Rattle.blob_device.specs.Timeline.{Timeline, disk, Passes, Always, OnlyAt}
use Rattle.blob_device.specs.lemmas.Moments.{always_weaker, only_start, only_on, ok_blob}
use Rattle.meta_store.specs.declared.error.Side.{Side}
use Rattle.meta_store.specs.Blobs.{blob_of, OnlyOne}

-- the blob that the two calls leave
pub sync_wrote : {T U : Type 0} (k : Key) (bytes : List ℕ) (v : T) (w : U) (a b c : Timeline) → Passes k (Write 0 bytes) (Ok v) a b → Passes k Settle (Ok w) b c → disk c k ≡ settled_at (written (disk a k).content 0 bytes)
sync_wrote k bytes v w a b c write settle = ok_blob k Settle w b c settle ∙ ap (λ (x : Blob). settled_at x.content) (ok_blob k (Write 0 bytes) v a b write)

-- no other blob changes
pub write_alone : {T : Type 0} (p : List ℕ) (side : Side) (bytes : List ℕ) (r : Result T DevError) (a b : Timeline) → Passes (blob_of p side) (Write 0 bytes) r a b → Always a b (OnlyOne p side (disk a))
write_alone p side bytes r a b write = always_weaker a b (OnlyAt (blob_of p side) (disk a) (λ x. Unit {0})) (OnlyOne p side (disk a)) (λ d only. only.others)
    (only_on a a b (blob_of p side) (disk a) (λ x. Unit {0}) (Write 0 bytes) r (only_start a (blob_of p side) (λ x. Unit {0}) tt) write tt tt)

pub both_alone : {T U : Type 0} (p : List ℕ) (side : Side) (bytes : List ℕ) (q : Result T DevError) (r : Result U DevError) (a b c : Timeline) → Passes (blob_of p side) (Write 0 bytes) q a b → Passes (blob_of p side) Settle r b c
    → Always a c (OnlyOne p side (disk a))
both_alone p side bytes q r a b c write settle = always_weaker a c (OnlyAt (blob_of p side) (disk a) (λ x. Unit {0})) (OnlyOne p side (disk a)) (λ d only. only.others)
    (only_on a b c (blob_of p side) (disk a) (λ x. Unit {0}) Settle r
    (only_on a a b (blob_of p side) (disk a) (λ x. Unit {0}) (Write 0 bytes) q (only_start a (blob_of p side) (λ x. Unit {0}) tt) write tt tt) settle tt tt)

-- the calls, at the blob of the side
pub write_at_side : {T : Type 0} (p : List ℕ) (side : Side) (k : Key) (given bytes : List ℕ) (r : Result T DevError) (a b : Timeline) → k ≡ blob_of p side → given ≡ bytes → Passes k (Write 0 given) r a b → Passes (blob_of p side) (Write 0 bytes) r a b
write_at_side p side k given bytes r a b key same passes = subst (λ (x : Key). Passes x (Write 0 bytes) r a b) key (subst (λ (x : List ℕ). Passes k (Write 0 x) r a b) same passes)

pub settle_at_side : {T : Type 0} (p : List ℕ) (side : Side) (k : Key) (r : Result T DevError) (a b : Timeline) → k ≡ blob_of p side → Passes k Settle r a b → Passes (blob_of p side) Settle r a b
settle_at_side p side k r a b key passes = subst (λ (x : Key). Passes x Settle r a b) key passes
