use Rattle.std.proofs.Common.{◌≡◌, ◌≤◌, List, length, take}
use Rattle.std.specs.List.{AllByRecursion}
use Rattle.std.specs.List.Sorted.{IsStrictlySortedBy}
use Rattle.std.specs.Map.{keys_of}
use Rattle.meta_store.specs.Format.{format_of}
use Rattle.meta_store.specs.Copies.{IsStorable, IsEntries, entries_bytes}
use Rattle.meta_store.proofs.EntryLists.{GoesOn}
use Rattle.meta_store.proofs.metadata.Metadata.read_entries.Given as goal

abbrev pub invariant-entries : goal.invariant-entries
invariant-entries g l = record {
  number : length l.items.items ≡ l.counter;
  within : l.at ≤ length l.bytes;
  prefix : take l.at l.bytes ≡ entries_bytes g.K.Key.key_bytes g.V.Codec.spelling l.items.items;
  ascending : IsStrictlySortedBy g.K.Ord.cmp (keys_of l.items.items);
  storable : AllByRecursion (λ e. IsStorable (format_of g.K.Ord.cmp g.K.Key.key_bytes g.V.Codec g.S.Seal l.cfg) e.1) l.items.items;
  goes_on : (entries : List (g.row.K.Denot × g.row.V.Denot)) → IsEntries (format_of g.K.Ord.cmp g.K.Key.key_bytes g.V.Codec g.S.Seal l.cfg) l.count l.bytes entries
      → GoesOn (format_of g.K.Ord.cmp g.K.Key.key_bytes g.V.Codec g.S.Seal l.cfg) l.bytes l.items.items l.at entries;
}
