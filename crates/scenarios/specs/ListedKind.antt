-- A store of records in a list, which leaves the device alone, as a kind: what serving asks of a store it can be asked
-- of this one.
use Rattle.std.specs.Prelude.{◌≡◌, ⊤, List, ℕ}
use Rattle.blob_device.specs.Disk.{Image}
use Rattle.value_codec.specs.Keys.{key8_bytes}
use Rattle.value_codec.specs.declared.byte_value.ByteValue.{ByteValue}
use Rattle.paired.specs.Opening.{as_read}
use Rattle.archives.specs.Changes.{Asked, Replied}
use Rattle.archives.specs.Commands.{Put, PutSync, PutStart, Multi, MultiSync, MultiStart, Get, GetKey, All, Has, HasKey, HasAt, Gap, Missing, Ranges, RangesFrom, First, Last, Sync, Start, Prune, Reopen, Destroy}
use Rattle.archives.specs.Machine.{State, Step, empty_state}
use Rattle.archives.specs.plain.Machine.{state_of}
use Rattle.archives.specs.Replies as reply
use Rattle.archives.specs.declared.error.Error.TheVariants.{Mem}
use Rattle.archive_service.specs.Kinds.{Kind}
use Rattle.archive_service.specs.StoreCalls.{Serving}
use Rattle.scenarios.specs.declared.listed.Listed.{Listed}

-- the image over which it was opened, and the records
pub record ListedState : Type 0 where
  pub image : Image
  pub records : State (List ℕ)

-- As the record machine, where a section has room for one index; a reopening begins anew, since nothing is kept.
abbrev pub ListedStep : State (List ℕ) → Asked → Replied → State (List ℕ) → Type 0
ListedStep old Reopen reply.Done new = new ≡ empty_state
ListedStep old Reopen reply new = ⊥
ListedStep old (Put i k v) reply new = Step 1 old (Put i k v) reply new
ListedStep old (PutSync i k v) reply new = Step 1 old (PutSync i k v) reply new
ListedStep old (PutStart i k v) reply new = Step 1 old (PutStart i k v) reply new
ListedStep old (Multi i k v) reply new = Step 1 old (Multi i k v) reply new
ListedStep old (MultiSync i k v) reply new = Step 1 old (MultiSync i k v) reply new
ListedStep old (MultiStart i k v) reply new = Step 1 old (MultiStart i k v) reply new
ListedStep old (Get i) reply new = Step 1 old (Get i) reply new
ListedStep old (GetKey k) reply new = Step 1 old (GetKey k) reply new
ListedStep old (All i) reply new = Step 1 old (All i) reply new
ListedStep old (Has i) reply new = Step 1 old (Has i) reply new
ListedStep old (HasKey k) reply new = Step 1 old (HasKey k) reply new
ListedStep old (HasAt i k) reply new = Step 1 old (HasAt i k) reply new
ListedStep old (Gap i) reply new = Step 1 old (Gap i) reply new
ListedStep old (Missing i n) reply new = Step 1 old (Missing i n) reply new
ListedStep old Ranges reply new = Step 1 old Ranges reply new
ListedStep old (RangesFrom i) reply new = Step 1 old (RangesFrom i) reply new
ListedStep old First reply new = Step 1 old First reply new
ListedStep old Last reply new = Step 1 old Last reply new
ListedStep old Sync reply new = Step 1 old Sync reply new
ListedStep old Start reply new = Step 1 old Start reply new
ListedStep old (Prune bound) reply new = Step 1 old (Prune bound) reply new
ListedStep old Destroy reply new = Step 1 old Destroy reply new

abbrev pub listed_kind : Kind
listed_kind = record {
  State = ListedState;
  Lawful = λ image. ⊤;
  IsStart = λ image st. (st.image ≡ image) × (st.records ≡ empty_state);
  Step = λ old command reply new. (new.image ≡ old.image) × ListedStep old.records command reply new.records;
  -- the disk reads as it did at the opening
  Leaves = λ st under_way d. as_read d ≡ st.image;
  MustRefuse = λ st d command. ⊥;
  Refuses = λ st command e. ⊥;
  IsCause = λ st under_way d e. e ≡ Mem;
  Known = Unit {0};
  unknown = tt;
  IsFound = λ from to known. to ≡ from;
  Learns = λ known command from to next. to ≡ from;
  Clears = λ known command q. ⊥;
  IsCauseAnywhere = λ known under_way from to e. e ≡ Mem;
  MustRefuseAnywhere = λ known d command. ⊥;
  RefusesAnywhere = λ known command e. ⊥;
  IsQuiet = λ known command. ⊤;
  IsOwn = λ q. ⊥;
  MayChange = λ command q. ⊥;
}

-- the store as one: each may be used with each device, and takes each value
abbrev pub listed_serving : Serving Listed ByteValue
listed_serving = record {
  kind = listed_kind;
  starts = λ image lawful. (record { image = image; records = empty_state }, (λ i. image, λ i. empty_state));
  IsValid = ⊤;
  Accepts = λ v. ⊤;
  IsUsable = λ a told opened d. ⊤;
  IsSound = λ a d. ⊤;
  state = λ a d. record { image = as_read d; records = state_of key8_bytes a.machine };
  known = λ a. tt;
}
