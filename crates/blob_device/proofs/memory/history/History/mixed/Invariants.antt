use Rattle.std.proofs.Common.{◌≡◌, ◌+◌, ◌<◌, ◌%◌, ℕ, get_or, length}
use Rattle.blob_device.specs.Disk.{Blob}
use Rattle.blob_device.specs.Histories.{IsHistory}
use Rattle.blob_device.specs.Picked.{free_below, mixed_byte}
use Rattle.blob_device.proofs.memory.history.History.mixed.Given as goal

abbrev pub invariant-loop-i : goal.invariant-loop-i
invariant-loop-i l = record {
  small : l.number < 64;
  size : length l.bytes.items ≡ l.i;
  number : (b : Blob) (n : ℕ) → IsHistory l.self b → l.first ≡ n % 64 → l.number ≡ (n + free_below b l.i) % 64;
  each : (b : Blob) (n : ℕ) → IsHistory l.self b → l.first ≡ n % 64 → (j : ℕ) → j < l.i → get_or l.bytes.items j 0 ≡ mixed_byte l.bits n b j;
}
