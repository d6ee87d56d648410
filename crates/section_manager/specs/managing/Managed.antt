-- What a manager shows of itself.
use Rattle.std.specs.Prelude.{ℕ, Bool, ◌+◌, string_bytes}
use Rattle.std.specs.Ordering.{nat_cmp}
use Rattle.std.specs.BTreeMap as tree
use Rattle.section_manager.specs.declared.manager.Manager.{Manager}
use Rattle.section_manager.specs.Sections.{Sections}

abbrev pub shown : {F B : Type 0} → Manager F B → Sections F B
shown m = record {
  partition = string_bytes m.partition;
  factory = m.factory;
  held = tree.get nat_cmp m.held.buffers;
  unopened = tree.get nat_cmp m.unopened;
  floor = m.floor;
  ceiling = m.ceiling;
}

-- the same beside an answer
abbrev pub flagged : {F B : Type 0} → Manager F B × Bool → Sections F B × Bool
flagged r = (shown r.0, r.1)

-- how many sections are held, and how many are unopened
abbrev pub known_count : {F B : Type 0} → Manager F B → ℕ
known_count m = tree.btree_map_len m.held.buffers + tree.btree_map_len m.unopened
