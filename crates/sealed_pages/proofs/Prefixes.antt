-- First bytes that calls spare, over single calls of the device.
use Rattle.std.proofs.Common.{◌≡◌, ℕ, ◌≤◌, List, Result, sym, ap, subst, arith}
use Rattle.blob_device.specs.declared.error.DevError.{DevError}
use Rattle.blob_device.specs.Change.{Write, Resize}
use Rattle.blob_device.specs.Disk.{Key, Disk}
use Rattle.blob_device.specs.Timeline.{Timeline, disk, Passes, OnlyAt}
use Rattle.blob_device.specs.lemmas.Moments.{always_weaker}
use Rattle.sealed_pages.specs.Reading.{Unchanged}
use Rattle.sealed_pages.specs.Unrecovered.{SparedPrefix, SparesPrefix}
use Rattle.sealed_pages.specs.View.{page_at}
use Rattle.sealed_pages.specs.lemmas.adopted.Repairing.{page_order}
use Rattle.sealed_pages.specs.lemmas.slots.PageCalls.{only_then, only_weaker}
use Rattle.sealed_pages.specs.lemmas.Prefixes.{prefix_more, prefix_now, prefix_on, prefix_same}

pub prefix_then : (end : ℕ) (key : Key) (a b c : Timeline) → SparesPrefix end key a b → SparesPrefix end key b c → SparesPrefix end key a c
prefix_then end key a b c first second = only_then a b c key (SparedPrefix end (disk a key)) first
    (only_weaker b c key (disk b) (SparedPrefix end (disk b key)) (SparedPrefix end (disk a key)) (λ x has. prefix_more end (disk a key) (disk b key) x (prefix_now end key a b first) has) second)

pub prefix_less : (end more : ℕ) (key : Key) (a b : Timeline) → end ≤ more → SparesPrefix more key a b → SparesPrefix end key a b
prefix_less end more key a b less spares = only_weaker a b key (disk a) (SparedPrefix more (disk a key)) (SparedPrefix end (disk a key))
    (λ x has. record {
      reads = λ i lt. has.reads i (omega (arith, lt, less));
      long = omega (arith, has.long, less);
      crashes = λ n v le. has.crashes n v (omega (arith, le, less));
    }) spares

-- below a page, where the calls spare what is below a later one
pub prefix_page : (P j k : ℕ) (key : Key) (a b : Timeline) → j ≤ k → SparesPrefix (page_at P k) key a b → SparesPrefix (page_at P j) key a b
prefix_page P j k key a b le = prefix_less (page_at P j) (page_at P k) key a b (page_order (λ x. 0) P j k le)

pub prefix_look : (end : ℕ) (key : Key) (a b : Timeline) → Unchanged a b → SparesPrefix end key a b
prefix_look end key a b look = always_weaker a b (λ x. x ≡ disk a) (OnlyAt key (disk a) (SparedPrefix end (disk a key)))
    (λ x same. record { here = subst (λ (y : Disk). SparedPrefix end (disk a key) (y key)) (sym same) (prefix_same end (disk a key)); others = λ q other. ap (λ (y : Disk). y q) same }) look

-- one call of the device, on a blob at this key
pub prefix_write : {T : Type 0} (end : ℕ) (key : Key) (a b c : Timeline) (at : ℕ) (bytes : List ℕ) (result : Result T DevError) → end ≤ at → SparesPrefix end key a b → Passes key (Write at bytes) result b c → SparesPrefix end key a c
prefix_write end key a b c at bytes result le first passes = prefix_on end key a b c (Write at bytes) result first passes le

pub prefix_resize : {T : Type 0} (end : ℕ) (key : Key) (a b c : Timeline) (n : ℕ) (result : Result T DevError) → end ≤ n → SparesPrefix end key a b → Passes key (Resize n) result b c → SparesPrefix end key a c
prefix_resize end key a b c n result le first passes = prefix_on end key a b c (Resize n) result first passes le
