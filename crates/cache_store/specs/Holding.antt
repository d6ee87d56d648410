-- Which indices are held, each with the offset of its record: what calls make of that.
use Rattle.std.specs.Prelude.{◌≡◌, ℕ, ◌==◌, nat_le, is_some, if◌then◌else◌, Option, Some, None, unwrap_or}
use Rattle.std.specs.BTreeMap.{get}
use Rattle.std.specs.Ordering.{nat_cmp}
use Rattle.ordinal_store.specs.Numbers.{Set}
use Rattle.ordinal_store.specs.Ranges.{set_of}
use Rattle.cache_store.specs.declared.held.Held.{Held}

-- where the record of each index begins
abbrev pub offsets_of : Held → ℕ → Option ℕ
offsets_of h = get nat_cmp h.offsets

-- the indices that have one
abbrev pub members : (ℕ → Option ℕ) → Set
members offsets i = is_some (offsets i)

-- the indices that its runs have
abbrev pub indices_of : Held → Set
indices_of h = set_of h.indices

-- they are just these
abbrev pub IsTied : Held → Type 0
IsTied h = (i : ℕ) → indices_of h i ≡ members (offsets_of h) i

-- an index at an offset is held beside the others
abbrev pub noted : ℕ → ℕ → (ℕ → Option ℕ) → ℕ → Option ℕ
noted index offset offsets i = if i == index then Some offset else offsets i

-- the indices below a bound are held no more
abbrev pub forgotten : ℕ → (ℕ → Option ℕ) → ℕ → Option ℕ
forgotten bound offsets i = if nat_le bound i then offsets i else None

-- a section counts as written, with the size that was noted first
abbrev pub marked : ℕ → ℕ → (ℕ → Option ℕ) → ℕ → Option ℕ
marked section size written s =
    if s == section then Some (unwrap_or (written s) size) else written s
