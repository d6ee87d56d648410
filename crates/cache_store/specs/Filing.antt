-- How records are filed in sections of bytes: where the frame of each begins, and what the sections
-- mean.
use Rattle.std.specs.Prelude.{ℕ, ◌+◌, ◌==◌, if◌then◌else◌, List, [], ◌∷◌, length, take, Option, None, Some, unwrap_or}
use Rattle.variable_journal.specs.Frames.{frame}
use Rattle.cache_store.specs.Kept.{entries_of}
use Rattle.cache_store.specs.Machine.{State}
use Rattle.cache_store.specs.Records.{entry_of}

-- Where the frame of the first record with the index begins, if there is one, of records whose
-- first frame begins at this offset.
abbrev pub offset_in : ℕ → ℕ → List (List ℕ) → Option ℕ
offset_in index at [] = None
offset_in index at (x ∷ xs) =
    if (entry_of x).index == index then Some at else offset_in index (at + length (frame x)) xs

-- how many bytes of a section are synced: all, or what is noted of one that was written since
abbrev pub synced_in : Option ℕ → List ℕ → ℕ
synced_in written bytes = unwrap_or written (length bytes)

-- the state of sections with these bytes, of which these were written since the last sync
abbrev pub state_by : (ℕ → List ℕ) → (ℕ → Option ℕ) → ℕ → State (List ℕ)
state_by bytes written floor = record {
  lists = λ s. entries_of (bytes s);
  synced = λ s. length (entries_of (take (synced_in (written s) (bytes s)) (bytes s)));
  floor = floor;
}
