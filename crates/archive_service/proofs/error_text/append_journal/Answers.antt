-- The group's name, and then what it holds.
use Rattle.std.proofs.Common.{◌≡◌, codes, decimal, ◌++◌, subst, sym}
use Rattle.std.proofs.lemmas.List.{append_assoc}
use Rattle.hex.specs.Hex.{encode_lower}
use Rattle.archive_service.specs.ErrorTexts.{journal_text}
use Rattle.archive_service.specs.Writing.{Appends}
use Rattle.archive_service.proofs.TextLemmas.{appends, appends_more, appends_same}
use Rattle.archive_service.proofs.error_text.append_journal.Goals as goal

pub returns-in_ok-extend_from_slice-in-InvalidBlobName : goal.returns-in_ok-extend_from_slice-in-InvalidBlobName
returns-in_ok-extend_from_slice-in-InvalidBlobName c =
    let last = c.append_hex in
    let old = c.args.out.now.items in
    let mid = c.extend_from_slice.new.self.items in
    let prefix = codes "invalid-blob-name " in
    let name = subst (λ n. Appends last.result mid (encode_lower n) last.new.out.items) c.as_bytes.ensures last.ensures in
    subst (λ e. Appends last.result old (journal_text e) last.new.out.items) (sym c.in-InvalidBlobName.is)
    (appends_more last.result old mid last.new.out.items prefix (encode_lower c.in-InvalidBlobName.name) c.in_ok-extend_from_slice-in-InvalidBlobName.ensures.items name)

pub returns-in_ok-append_with-in-ChecksumMismatch : goal.returns-in_ok-append_with-in-ChecksumMismatch
returns-in_ok-append_with-in-ChecksumMismatch c =
    let last = c.append_with-in-ChecksumMismatch-2 in
    let old = c.args.out.now.items in
    let mid = c.append_with-in-ChecksumMismatch.new.out.items in
    let prefix = codes "checksum-mismatch " in
    let stored : mid ≡ old ++ (prefix ++ decimal c.in-ChecksumMismatch.stored) = rw c.from.ensures at c.in_ok-append_with-in-ChecksumMismatch.ensures in
    let computed = subst (λ n. Appends last.result mid (codes " " ++ decimal n) last.new.out.items) c.from-in-ChecksumMismatch.ensures last.ensures in
    subst (λ e. Appends last.result old (journal_text e) last.new.out.items) (sym c.in-ChecksumMismatch.is)
    (appends_same last.result old last.new.out.items _ _ (sym (append_assoc (prefix ++ decimal c.in-ChecksumMismatch.stored) (codes " ") (decimal c.in-ChecksumMismatch.computed)))
    (appends_more last.result old mid last.new.out.items (prefix ++ decimal c.in-ChecksumMismatch.stored) (codes " " ++ decimal c.in-ChecksumMismatch.computed) stored computed))

pub returns-in-OffsetOverflow : goal.returns-in-OffsetOverflow
returns-in-OffsetOverflow c =
    let last = c.extend_from_slice-in-OffsetOverflow in
    subst (λ e. Appends last.result c.args.out.now.items (journal_text e) last.new.self.items) (sym c.in-OffsetOverflow.is)
    (appends last.result c.args.out.now.items last.new.self.items (codes "offset-overflow") last.ensures.items)
