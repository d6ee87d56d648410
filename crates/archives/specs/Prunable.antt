-- What contracts see of prunable archives, and what one means as an archive.
use Rattle.std.proofs.Common.{◌∙◌}
use Rattle.std.specs.Prelude.{⊤, ℕ, Bool, IsTrue, List}
use Rattle.blob_device.specs.declared.device.Device as device
use Rattle.sealed_pages.specs.declared.page_blob.PageBlob.{PageBlob}
use Rattle.section_manager.specs.declared.sealed.AppendFactory.{AppendFactory}
use Rattle.paired.specs.Crashes.{IsOwn}
use Rattle.archives.specs.Archives.{Archive, Buffers, IsArchive, IsSoundArchive, filing_of, state_of}
use Rattle.archives.specs.Changes.{MayUse, Meaning}
use Rattle.archives.specs.Filing.{Filing}
use Rattle.archives.specs.Finding.{IsNear, Wanted}
use Rattle.archives.specs.Machine.{State, Step}
use Rattle.archives.specs.PuttingLaws.{taken_state}
use Rattle.archives.specs.Standing.{Leaves}

-- What an archive A of values V shows, how its buffers are read, which values its configuration allows, how they are
-- spelled, and which keys have words that are told to be equal.
pub record Prunable (A V F B : Type 0) : Type 1 where
  pub see : A → Archive F B
  pub buffers : Buffers F B
  pub Accepts : A → V → Type 0
  pub spelling : V → List ℕ
  pub alike : A → List ℕ → List ℕ → Bool

module _ {A V F S : Type 0} {gs : _} (p : Prunable A V F (PageBlob S gs)) where
  -- how an archive files its records
  abbrev pub filing_by : A → Filing
  filing_by a = filing_of (p.see a)

  -- At which records, by section and position, a lookup of what is wanted has to look: those with the index, or with
  -- a key whose word is told to be that of the wanted one.
  abbrev pub HasToLook : A → Wanted → ℕ → ℕ → Type 0
  HasToLook a = IsNear (λ k key. IsTrue (p.alike a k key)) (p.see a)

  -- As an archive: its states are those of the record machine with lists by sections.
  abbrev pub meaning : Meaning A V
  meaning = record {
    State = State (List ℕ);
    seen = λ st. st;
    items = λ a. (p.see a).items;
    IsUsable = λ a told opened d. IsArchive (p.see a) p.buffers told opened d;
    IsSound = λ a d. IsSoundArchive (p.see a) d;
    state = λ a d. state_of (p.see a) d;
    Step = λ a. Step (p.see a).items;
    steps = λ a st next command reply every step. step;
    Leaves = λ a. Leaves (filing_by a);
    IsOwn = λ a. IsOwn (p.see a).pair.layout (λ _. ⊤);
    has = λ a. (p.see a).indices;
    has_index = λ a told opened d usable t i. usable.indices i ∙ taken_state (p.see a) d (usable.listed t) i;
    Accepts = p.Accepts;
  }

-- the archive may be used with the device
abbrev pub IsOver : {A V F S D : Type 0} {gs : _} → Prunable A V F (PageBlob S gs) → device.Ghosts D → A → D → Type 0
IsOver p = MayUse (meaning p)

-- from how many bytes on its buffers of records, and those of values, are flushed
abbrev pub write_buffer_of : {S B : Type 0} → Archive (AppendFactory S) B → ℕ
write_buffer_of a = a.pair.index.sections.factory.write_buffer

abbrev pub value_buffer_of : {F B : Type 0} → Archive F B → ℕ
value_buffer_of a = a.pair.values.factory.capacity

-- What an opening is asked for: how it files records, which values it allows, which keys have equal words, and from
-- how many bytes on the buffers of records and of values flush.
pub record Setup (V : Type 0) : Type 1 where
  pub filing : Filing
  pub Allows : V → Type 0
  pub alike : List ℕ → List ℕ → Bool
  pub write_buffer : ℕ
  pub value_buffer : ℕ
