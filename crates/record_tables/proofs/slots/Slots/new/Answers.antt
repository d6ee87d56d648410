use Rattle.record_tables.proofs.SlotLemmas.{fresh_slots, fresh_used}
use Rattle.record_tables.proofs.slots.Slots.new.Goals as goal

pub returns : goal.returns
returns c = record {
  slots = fresh_slots _ c.new.ensures.items c.new-2.ensures.items;
  used = fresh_used (record { sections = c.new.result; free = c.new-2.result }) c.new.ensures.items c.new-2.ensures.items;
}
