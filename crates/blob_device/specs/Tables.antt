-- A table of values, each by a partition and a name.
use Rattle.std.specs.Prelude.{ℕ, List, Option, Vec}
use Rattle.std.specs.declared.cmp.Ordering.{Ordering}
use Rattle.std.specs.Option.{option_and_then}
use Rattle.std.specs.Ordering.{nat_cmp}
use Rattle.std.specs.Cmp.Lexicographic.{slice_cmp}
use Rattle.std.specs.BTreeMap.{BTreeMap, get_by}
use Rattle.std.specs.declared.alloc.Global.{Global}
use Rattle.blob_device.specs.Disk.{Key}

-- the order of byte strings
abbrev pub by_bytes : Vec ℕ Global → Vec ℕ Global → Ordering
by_bytes x y = slice_cmp nat_cmp x.items y.items

-- what the map has at a name
abbrev pub at_name : {X : Type 0} → BTreeMap (Vec ℕ Global) X → List ℕ → Option X
at_name m name = get_by (λ (k : Vec ℕ Global). slice_cmp nat_cmp name k.items) m

abbrev pub Partitions : Type 0 → Type 0
Partitions X = BTreeMap (Vec ℕ Global) (BTreeMap (Vec ℕ Global) X)

-- what the table has at a partition and a name
abbrev pub at_key : {X : Type 0} → Partitions X → Key → Option X
at_key partitions k = option_and_then (λ names. at_name names k.1) (at_name partitions k.0)
