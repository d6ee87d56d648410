use Rattle.std.proofs.Common.{inl, inr, ◌^◌, arith}
use Rattle.record_tables.specs.Rows.{HasRoom}
use Rattle.record_tables.specs.Tables.{rows_of}
use Rattle.record_tables_tests.proofs.both.Both.put.Goals as goal

-- The driver's limits are narrower than those of handles.
pub reserve-requires-clause-room : goal.reserve-requires-clause-room
reserve-requires-clause-room c = elim (c.has_room.ensures.0 c.if-not-has_room.false) as (λ _. HasRoom (2 ^ 24) (2 ^ 40) (rows_of c.args.self.tables) c.args.place.section) [
  | inl has ↦ inl (has.0, omega (arith, has.1))
  | inr none ↦ inr (none.0, λ ss up rows. omega (arith, none.1 ss up rows))
]
