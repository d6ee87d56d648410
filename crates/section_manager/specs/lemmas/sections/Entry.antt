-- Calls on one blob that start no read, by the list of opened blobs.
use Rattle.std.proofs.Common.{◌≡◌, ◌≤◌, inl, inr, ℕ, Option, Some, None, IsSomeAnd, sym, ap, subst, arith}
use Rattle.blob_device.specs.Disk.{Key}
use Rattle.blob_device.specs.Opened.{Opened, OpenedList, reads_of}
use Rattle.blob_device.specs.lemmas.Puts.{same_or_other}
use Rattle.sealed_pages.specs.Entries.{NoReads}
use Rattle.section_manager.specs.Entries.{StartsNoRead}

has_reads : (o : Option Opened) (n : ℕ) → IsSomeAnd o (λ p. p.reads ≡ n) → reads_of o ≡ n
has_reads None n is = absurd is
has_reads (Some p) n is = is

-- calls that start no read on their own blob, and touch no other entry
pub starts_none : (k : Key) (old new : OpenedList) → NoReads k old new → StartsNoRead old new
starts_none k old new none q = elim (same_or_other q k) [
  | inl is ↦ subst (λ (p : Key). reads_of (new p) ≤ reads_of (old p)) (sym is) (omega (arith, has_reads (new k) (reads_of (old k)) none.here))
  | inr other ↦ omega (arith, ap reads_of (none.others q other))
]
