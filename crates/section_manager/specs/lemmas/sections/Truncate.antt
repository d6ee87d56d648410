-- Two calls one after the other that start no read.
use Rattle.std.proofs.Common.{arith}
use Rattle.blob_device.specs.Opened.{OpenedList}
use Rattle.section_manager.specs.Entries.{StartsNoRead}

pub unread_then : (a b c : OpenedList) → StartsNoRead a b → StartsNoRead b c → StartsNoRead a c
unread_then a b c first second q = omega (arith, first q, second q)
