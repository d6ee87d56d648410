-- The first positions of offsets, and the further ones, as they are held.
use Rattle.std.specs.Prelude.{◌≡◌, ℕ, ◌<◌, ◌==◌, if◌then◌else◌, List, [], slice_get, Option, None, Some, IsSomeAnd}
use Rattle.std.specs.BTreeMap.{BTreeMap, get}
use Rattle.std.specs.Global.{Vec}
use Rattle.std.specs.Ordering.{nat_cmp}
use Rattle.std.specs.Vec.{vec_len, vec_capacity}
use Rattle.record_tables.specs.declared.positions.First.{First}

-- the first position; the greatest `u64` stands for none
abbrev pub first_in : First → Option ℕ
first_in f = if f.at == 18446744073709551615 then None else Some f.at

abbrev pub first_of : Option First → Option ℕ
first_of None = None
first_of (Some f) = first_in f

abbrev pub further_of : Option (Vec ℕ) → List ℕ
further_of None = []
further_of (Some further) = further.items

-- an offset with further positions has a first one
abbrev pub HaveFirsts : List First → BTreeMap ℕ (Vec ℕ) → Type 0
HaveFirsts firsts further = (o : ℕ) → first_of (slice_get firsts o) ≡ None
    → further_of (get nat_cmp further o) ≡ []

-- there is a list of further positions, and one more fits without memory
abbrev pub HasSpareFurther : Option (Vec ℕ) → Type 0
HasSpareFurther list = IsSomeAnd list (λ further. vec_len further < vec_capacity further)
