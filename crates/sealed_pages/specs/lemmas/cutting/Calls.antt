-- What is claimed of fewer bytes, or of the first of them, at each moment.
use Rattle.std.proofs.Common.{ℕ, ◌≤◌, List, length, take, Option, Some, None, IsSomeAnd, ◌∙◌, arith, length-take}
use Rattle.blob_device.specs.Disk.{Key, Blob, past}
use Rattle.blob_device.specs.Timeline.{Timeline, disk}
use Rattle.sealed_pages.specs.ChanceSeal.{NoChanceSeal, Leaves, Sealing}
use Rattle.sealed_pages.specs.SealedPrefix.{sealed_prefix, Prefix}
use Rattle.sealed_pages.specs.lemmas.cutting.Cuts.{take_prefix}
use Rattle.sealed_pages.specs.lemmas.slots.PageCalls.{only_weaker}

-- fewer bytes are claimed
pub prefix_less : (seal : List ℕ → ℕ) (P : ℕ) (bytes : List ℕ) (L M : ℕ) (c : List ℕ) → M ≤ L → Prefix seal P bytes L c → Prefix seal P bytes M c
prefix_less seal P bytes L M c le p = record { is = p.is; no_shorter = omega (arith, le, p.no_shorter); no_longer = p.no_longer }

-- a prefix of the first bytes is one of all
pub prefix_whole : (seal : List ℕ → ℕ) (P : ℕ) (bytes : List ℕ) (n L : ℕ) (c : List ℕ) → Prefix seal P (take n bytes) L c → Prefix seal P bytes L c
prefix_whole seal P bytes n L c p = record {
  is = p.is ∙ take_prefix (length (sealed_prefix seal P c)) n bytes (omega (arith, p.no_longer, length-take n bytes));
  no_shorter = p.no_shorter;
  no_longer = omega (arith, p.no_longer, length-take n bytes);
}

leaves_by : (seal : List ℕ → ℕ) (P : ℕ) (bytes more : List ℕ) (L M : ℕ) → ((c : List ℕ) → Prefix seal P bytes L c → Prefix seal P more M c) → (b : Blob) → Leaves seal P bytes L b → Leaves seal P more M b
leaves_by seal P bytes more L M to b leaves left may = go left (leaves left may)
  where
    go : (left : Option (List ℕ)) → IsSomeAnd left (λ c. NoChanceSeal seal P (past b) c → Prefix seal P bytes L c) → IsSomeAnd left (λ c. NoChanceSeal seal P (past b) c → Prefix seal P more M c)
    go None has = has
    go (Some c) has = λ chance. to c (has chance)

pub sealing_less : (seal : List ℕ → ℕ) (P : ℕ) (bytes : List ℕ) (L M : ℕ) (key : Key) (a b : Timeline) → M ≤ L → Sealing seal P bytes L key a b → Sealing seal P bytes M key a b
sealing_less seal P bytes L M key a b le sealing = only_weaker a b key (disk a) (Leaves seal P bytes L) (Leaves seal P bytes M) (leaves_by seal P bytes bytes L M (λ c p. prefix_less seal P bytes L M c le p)) sealing

pub sealing_whole : (seal : List ℕ → ℕ) (P : ℕ) (bytes : List ℕ) (n L : ℕ) (key : Key) (a b : Timeline) → Sealing seal P (take n bytes) L key a b → Sealing seal P bytes L key a b
sealing_whole seal P bytes n L key a b sealing = only_weaker a b key (disk a) (Leaves seal P (take n bytes) L) (Leaves seal P bytes L) (leaves_by seal P (take n bytes) bytes L L (λ c p. prefix_whole seal P bytes n L c p)) sealing
