-- What a command does. The 23 commands of an archive are of eight families, and what is said of a command by what it
-- does is said of its family.
use Rattle.std.specs.Prelude.{ℕ, List, Option, None, Some}
use Rattle.archives.specs.Changes.{Asked}
use Rattle.archives.specs.Commands.{Put, PutSync, PutStart, Multi, MultiSync, MultiStart, Get, GetKey, All, Has, HasKey, HasAt, Gap, Missing, Ranges, RangesFrom, First, Last, Sync, Start, Prune, Reopen, Destroy}
use Rattle.archives.specs.Machine.{Entry}

-- What is put: a record where its index is free, or a record in any case.
pub data PutOf : Type 0 where
  IfFree : Entry (List ℕ) → PutOf
  InAnyCase : Entry (List ℕ) → PutOf

pub data Family : Type 0 where
  -- it asks, and is answered by what is held in memory
  AsksHeld : Family
  -- it asks, and reads stored bytes
  AsksStored : Family
  -- it puts a record, and syncs nothing
  PutsRecord : PutOf → Family
  -- it puts a record, and then syncs or starts to
  PutsDurably : PutOf → Family
  -- it syncs, or starts to
  SyncsAll : Family
  -- it takes away what is below an index
  PrunesBelow : ℕ → Family
  -- it opens the archive anew
  OpensAnew : Family
  -- it takes all away
  DestroysAll : Family

abbrev pub family_of : Asked → Family
family_of (Put i k v) = PutsRecord (IfFree (record { index = i; key = k; value = v }))
family_of (PutSync i k v) = PutsDurably (IfFree (record { index = i; key = k; value = v }))
family_of (PutStart i k v) = PutsDurably (IfFree (record { index = i; key = k; value = v }))
family_of (Multi i k v) = PutsRecord (InAnyCase (record { index = i; key = k; value = v }))
family_of (MultiSync i k v) = PutsDurably (InAnyCase (record { index = i; key = k; value = v }))
family_of (MultiStart i k v) = PutsDurably (InAnyCase (record { index = i; key = k; value = v }))
family_of (Get i) = AsksStored
family_of (GetKey k) = AsksStored
family_of (All i) = AsksStored
family_of (Has i) = AsksHeld
family_of (HasKey k) = AsksStored
family_of (HasAt i k) = AsksStored
family_of (Gap i) = AsksHeld
family_of (Missing i n) = AsksHeld
family_of Ranges = AsksHeld
family_of (RangesFrom i) = AsksHeld
family_of First = AsksHeld
family_of Last = AsksHeld
family_of Sync = SyncsAll
family_of Start = SyncsAll
family_of (Prune bound) = PrunesBelow bound
family_of Reopen = OpensAnew
family_of Destroy = DestroysAll

-- what a command of the family puts, if anything
abbrev pub put_by : Family → Option PutOf
put_by (PutsRecord put) = Some put
put_by (PutsDurably put) = Some put
put_by AsksHeld = None
put_by AsksStored = None
put_by SyncsAll = None
put_by (PrunesBelow bound) = None
put_by OpensAnew = None
put_by DestroysAll = None

-- what a command puts
abbrev pub put_of : Asked → Option PutOf
put_of command = put_by (family_of command)
