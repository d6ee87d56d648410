-- What is open stands open on a device.
use Rattle.std.specs.Prelude.{◌≡◌}
use Rattle.blob_device.specs.Opened.{OpenedList}
use Rattle.sealed_pages.specs.Buffer.{key_of}
use Rattle.sealed_pages.specs.Entries.{IsOpenAt}
use Rattle.sealed_pages.specs.Readers.{reading}
use Rattle.sealed_pages.specs.Shown.{shown}
use Rattle.sealed_pages.specs.unsealed.Writing as writing
use Rattle.sealed_pages_tests.specs.declared.store.Store.{Store}
use Rattle.sealed_pages_tests.specs.declared.store.Store.TheVariants.{Closed, Pages, Reading, Unsealed}

-- the blob of what is open has the length that its buffer knows, and a reader reads the blob of its pages
abbrev pub IsOpen : OpenedList → Store → Type 0
IsOpen opened Closed = Unit {0}
IsOpen opened (Pages blob) = IsOpenAt opened (key_of (shown blob)) blob.end
IsOpen opened (Reading blob reader) = IsOpenAt opened (reading reader).key (reading reader).end × ((reading reader).key ≡ key_of (shown blob)) × ((reading reader).end ≡ blob.end)
IsOpen opened (Unsealed blob) = IsOpenAt opened (writing.blob_key (writing.shown blob)) blob.end
