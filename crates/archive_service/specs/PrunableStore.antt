-- The prunable archive, kept by a configuration, as a store that serves commands: open, or destroyed and closed.
use Rattle.std.specs.Prelude.{◌≡◌, ⊤, ℕ, true, false, List, [], None}
use Rattle.blob_device.specs.Disk.{Disk}
use Rattle.blob_device.specs.Opened.{OpenedList}
use Rattle.sealed_pages.specs.declared.page_blob.PageBlob.{PageBlob}
use Rattle.section_manager.specs.declared.sealed.AppendFactory.{AppendFactory}
use Rattle.paired.specs.glob.Sections as glob
use Rattle.paired.specs.Opening.{MayBeOpened}
use Rattle.paired.specs.Pair.{synced_length}
use Rattle.archives.specs.Archives.{IsArchive, IsSoundArchive, state_of}
use Rattle.archives.specs.Filing.{IsSameFiling}
use Rattle.archives.specs.Machine.{State}
use Rattle.archives.specs.Prunable.{Prunable, Setup, filing_by, value_buffer_of, write_buffer_of}
use Rattle.archives.specs.Putting.{record_tail, value_tail}
use Rattle.archives.specs.Standing.{Leaves}
use Rattle.archive_service.specs.Causes.{Held}
use Rattle.archive_service.specs.StoreCalls.{Serving}
use Rattle.archive_service.specs.PrunableKind.{prunable_kind}
use Rattle.archive_service.specs.Starts.{start_with}
use Rattle.archive_service.specs.declared.store.openable.Openable.{Openable}
use Rattle.archive_service.specs.declared.store.openable.Openable.TheVariants.{Closed, Open}

module _ {A V S : Type 0} {gs : _} (p : Prunable A V (AppendFactory S) (PageBlob S gs)) where
  -- what the archive holds
  abbrev pub held_by : A → Held
  held_by a = record {
    is_open = true;
    floor = (p.see a).floor;
    rows = (p.see a).rows;
    bytes = glob.section_size (p.see a).pair.values;
    synced = synced_length (p.see a).pair;
    record_tail = record_tail (p.see a);
    value_tail = value_tail (p.see a);
  }

  module _ (setup : Setup V) where
    -- The archive is one of this configuration, and may be used. Of a section that was not written since the last
    -- sync nothing is left to flush.
    pub record IsUsableStore (a : A) (told : Type 0) (opened : OpenedList) (d : Disk) : Type 0 where
      -- the archive may be used
      pub usable : IsArchive (p.see a) p.buffers told opened d
      -- it files its records as the configuration says
      pub filing : IsSameFiling setup.filing (filing_by p a)
      -- it takes the values that are allowed
      pub accepts : (v : V) → setup.Allows v → p.Accepts a v
      -- its buffers of records flush from so many bytes on
      pub write_buffer : write_buffer_of (p.see a) ≡ setup.write_buffer
      -- and so do those of values
      pub value_buffer : value_buffer_of (p.see a) ≡ setup.value_buffer
      -- nothing is left to flush of what was not written
      pub flushed : told → (s : ℕ) → (p.see a).is_written s ≡ false
          → (record_tail (p.see a) s ≡ 0) × (value_tail (p.see a) s ≡ 0)

    -- ---- open or closed

    -- The state of a closed archive, which was destroyed with this floor, and what it knows of itself: it
    -- keeps nothing.
    abbrev pub closed_state : ℕ → State (List ℕ)
    closed_state floor = record { is_open = false; lists = λ s. []; synced = λ s. 0; floor = floor }

    abbrev pub closed_held : ℕ → Held
    closed_held floor = record {
      is_open = false;
      floor = floor;
      rows = λ s. [];
      bytes = λ s. 0;
      synced = λ s. 0;
      record_tail = λ s. 0;
      value_tail = λ s. 0;
    }

    -- It is sound where its disk may be opened again, and each crash leaves what stands for that state.
    pub record IsSoundClosed (floor : ℕ) (d : Disk) : Type 0 where
      -- the disk may be opened
      pub opened : MayBeOpened setup.filing.layout d
      -- and each crash leaves nothing
      pub leaves : Leaves setup.filing (closed_state floor) None d

    abbrev pub IsUsableOpenable : Openable A → Type 0 → OpenedList → Disk → Type 0
    IsUsableOpenable (Open a) told opened d = IsUsableStore a told opened d
    IsUsableOpenable (Closed floor) told opened d = ⊤

    abbrev pub IsSoundOpenable : Openable A → Disk → Type 0
    IsSoundOpenable (Open a) d = IsSoundArchive (p.see a) d
    IsSoundOpenable (Closed floor) d = IsSoundClosed floor d

    abbrev pub openable_state : Openable A → Disk → State (List ℕ)
    openable_state (Open a) d = state_of (p.see a) d
    openable_state (Closed floor) d = closed_state floor

    abbrev pub openable_held : Openable A → Held
    openable_held (Open a) = held_by a
    openable_held (Closed floor) = closed_held floor

    abbrev pub openable_serving : Type 0 → Serving (Openable A) V
    openable_serving valid = record {
      kind = prunable_kind setup.filing setup.write_buffer setup.value_buffer;
      starts = start_with setup.filing;
      IsValid = valid;
      Accepts = setup.Allows;
      IsUsable = IsUsableOpenable;
      IsSound = IsSoundOpenable;
      state = openable_state;
      known = openable_held;
    }
