-- Where a record stands, in one number: the slot of its section in the upper 24 bits, and its position in the lower 40.
use Rattle.std.specs.Prelude.{◌≡◌, ℕ, ◌^◌, ◌/◌, ◌%◌, Bool, nat_eq}
use Rattle.record_tables.specs.declared.handle.Handle.{Handle}

unfoldable pub slot_of : Handle → ℕ
slot_of h = h.bits / 2 ^ 40

unfoldable pub position_of : Handle → ℕ
position_of h = h.bits % 2 ^ 40

-- whether two handles are one
abbrev pub same_handle : Handle → Handle → Bool
same_handle h k = nat_eq h.bits k.bits

-- The handle is that of the record at this position of the section with this slot.
pub record IsHandleOf (slot position : ℕ) (h : Handle) : Type 0 where
  -- its slot is that of the section
  pub its_slot : slot_of h ≡ slot
  -- its position is that of the record
  pub its_position : position_of h ≡ position
