-- What a map shows of itself, and how it stands on its device.
use Rattle.std.specs.Prelude.{◌≡◌, ℕ, ◌+◌, cond, Bool, true, false, List, Ok, string_bytes}
use Rattle.std.specs.List.{AllByRecursion}
use Rattle.blob_device.specs.Disk.{Disk, settled_at}
use Rattle.meta_store.specs.declared.copy.Contents.{Contents}
use Rattle.meta_store.specs.declared.error.Side.{Side}
use Rattle.meta_store.specs.declared.error.Side.TheVariants.{Left, Right}
use Rattle.meta_store.specs.declared.metadata.Metadata.{Metadata}
use Rattle.meta_store.specs.declared.pair.Chosen.{Chosen}
use Rattle.meta_store.specs.Format.{Format}
use Rattle.meta_store.specs.Copies.{IsStorable}
use Rattle.meta_store.specs.Pairs.{ReadsPair}
use Rattle.meta_store.specs.Blobs.{blob_of, other_side}

-- The entries ascend by their keys. `version` is the greater version of the copies, `older` the side that is written next, and
-- `staged` says that a change has not been synced.
pub record Store (K V : Type 0) : Type 0 where
  pub partition : List ℕ
  pub entries : List (K × V)
  pub floor : ℕ
  pub version : ℕ
  pub older : Side
  pub staged : Bool

abbrev pub shown : {K V S C : Type 0} → Metadata K V S C → Store K V
shown m = record {
  partition = string_bytes m.partition;
  entries = m.entries.entries;
  floor = m.floor;
  version = m.version;
  older = m.older;
  staged = m.staged;
}

-- with the configuration of its values
pub record Seen (K V C : Type 0) : Type 0 where
  pub store : Store K V
  pub config : C

abbrev pub seen : {K V S C : Type 0} → Metadata K V S C → Seen K V C
seen m = record { store = shown m; config = m.codec_config }

-- what the next copy holds
abbrev pub contents_of : {K V : Type 0} → Store K V → Contents K V
contents_of u = record { floor = u.floor; entries = u.entries }

-- what the copies hold together, where the newer one holds this
abbrev pub chosen_by : {K V : Type 0} → Store K V → Contents K V → Chosen K V
chosen_by u synced = record { version = u.version; older = u.older; contents = synced }

-- the same map with these entries, and a change that has not been synced
abbrev pub staging : {K V : Type 0} → Store K V → List (K × V) → Store K V
staging u entries = record u { entries = entries; staged = true }

-- the same map after a sync
abbrev pub synced_store : {K V : Type 0} → Store K V → Store K V
synced_store u = cond u.staged (record u { version = u.version + 1; older = other_side u.older; staged = false }) u

-- The map stands on its device: both blobs have settled, they hold what was last synced, and where nothing is staged that is
-- what the map has.
pub record Stands {K V : Type 0} (f : Format K V) (u : Store K V) (synced : Contents K V) (d : Disk) : Type 0 where
  pub left : d (blob_of u.partition Left) ≡ settled_at (d (blob_of u.partition Left)).content
  pub right : d (blob_of u.partition Right) ≡ settled_at (d (blob_of u.partition Right)).content
  pub pair : ReadsPair f (d (blob_of u.partition Left)).content (d (blob_of u.partition Right)).content (Ok (chosen_by u synced))
  pub fresh : u.staged ≡ false → contents_of u ≡ synced

-- each value may be stored
abbrev pub MayBeSynced : {K V : Type 0} → Format K V → List (K × V) → Type 0
MayBeSynced f entries = AllByRecursion (λ e. IsStorable f e.1) entries
