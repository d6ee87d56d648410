-- What a put of one record to an index and one of several have alike; and what stands at or above the floor.
use Rattle.std.proofs.Common.{◌≡◌, inl, inr, refl, sym, ◌∙◌, ap, subst, ℕ, zero, suc, ◌*◌, ◌/◌, ◌<◌, ◌≤◌, List, [], Bool, true, false, ◌||◌, nat_lt, Option, None, Some, IsSome, IsSomeAnd, if◌then◌else◌, arith}
use Rattle.std.specs.Prelude.{⊤, slice_get}
use Rattle.std.proofs.lemmas.Bool.{cases_lt, le-ltb, lt-ltb, or_left, or_right}
use Rattle.std.proofs.Math.Nat.{div-mul-le_self, mul-le-mul_right}
use Rattle.std.proofs.lemmas.Nat.{le-div}
use Rattle.blob_device.specs.Disk.{Disk}
use Rattle.blob_device.specs.Opened.{OpenedList}
use Rattle.sealed_pages.specs.declared.page_blob.PageBlob.{PageBlob}
use Rattle.archives.specs.Archives.{Archive, Buffers, IsArchive}
use Rattle.archives.specs.Machine.{OpenStep, State, after_sync, section_of}
use Rattle.archives.specs.Putting.{Often, Once, Times, after_putting, is_skipped, is_taken, put_command, put_start_command, put_sync_command}
use Rattle.archives.specs.Replies as reply
use Rattle.archives.specs.Rows.{Row}
use Rattle.archives.specs.Standing.{IsGoing, submitted}

-- a put is a step to what it leaves, and to nothing else
pub step_by : (times : Times) (items index : ℕ) (key value : List ℕ) (st next : State (List ℕ)) → next ≡ after_putting times items index key value st → OpenStep items st (put_command times index key value) reply.Done next
step_by Once items index key value st next is = is
step_by Often items index key value st next is = is

pub by_step : (times : Times) (items index : ℕ) (key value : List ℕ) (st next : State (List ℕ)) → OpenStep items st (put_command times index key value) reply.Done next → next ≡ after_putting times items index key value st
by_step Once items index key value st next is = is
by_step Often items index key value st next is = is

-- so is one that syncs, or starts a sync
pub sync_step_by : (times : Times) (items index : ℕ) (key value : List ℕ) (st next : State (List ℕ)) → next ≡ after_sync (after_putting times items index key value st) → OpenStep items st (put_sync_command times index key value) reply.Done next
sync_step_by Once items index key value st next is = is
sync_step_by Often items index key value st next is = is

pub start_step_by : (times : Times) (items index : ℕ) (key value : List ℕ) (st next : State (List ℕ)) → next ≡ after_sync (after_putting times items index key value st) → OpenStep items st (put_start_command times index key value) reply.Done next
start_step_by Once items index key value st next is = is
start_step_by Often items index key value st next is = is

-- under way it submits what it leaves
pub submits_by : (times : Times) (items index : ℕ) (key value : List ℕ) (st : State (List ℕ)) (s : ℕ)
    → submitted items st (Some (put_command times index key value)) s ≡ (if st.is_open then (after_putting times items index key value st).lists s else st.lists s)
submits_by Once items index key value st s = refl
submits_by Often items index key value st s = refl

-- so do those that sync
pub sync_submits : (times : Times) (items index : ℕ) (key value : List ℕ) (st : State (List ℕ)) (s : ℕ)
    → submitted items st (Some (put_command times index key value)) s ≡ submitted items st (Some (put_sync_command times index key value)) s
sync_submits Once items index key value st s = refl
sync_submits Often items index key value st s = refl

pub start_submits : (times : Times) (items index : ℕ) (key value : List ℕ) (st : State (List ℕ)) (s : ℕ)
    → submitted items st (Some (put_command times index key value)) s ≡ submitted items st (Some (put_start_command times index key value)) s
start_submits Once items index key value st s = refl
start_submits Often items index key value st s = refl

-- and no section goes
pub none_goes : (times : Times) (items index : ℕ) (key value : List ℕ) (st : State (List ℕ)) (s : ℕ) → IsGoing items st (Some (put_command times index key value)) s → ⊥
none_goes Once items index key value st s going = going
none_goes Often items index key value st s going = going

-- ---- the floor

-- a section's start is one of a section
pub section_start : (items index : ℕ) → 1 ≤ items → section_of items (section_of items index) ≡ section_of items index
section_start items index some =
    let start = section_of items index in
    let least : index / items ≤ start / items = le-div (index / items) start items (omega (arith, some)) (omega arith) in
    let low : start ≤ start / items * items = mul-le-mul_right items least in
    omega (arith, low, div-mul-le_self start items)

-- an index from a section's start on is in that section or a later one
pub section_from : (items low index : ℕ) → 1 ≤ items → section_of items low ≡ low → low ≤ index → low ≤ section_of items index
section_from items low index some is from =
    let least : low / items ≤ index / items = le-div (low / items) index items (omega (arith, some)) (omega (arith, is, from)) in
    let start : low / items * items ≤ index / items * items = mul-le-mul_right items least in
    omega (arith, is, start)

-- so the pair's floor is not above the section of an index that is not below the archive's
pub pair_above : {F S : Type 0} {gs : _} (a : Archive F (PageBlob S gs)) {bs : Buffers F (PageBlob S gs)} {told : Type 0} {opened : OpenedList} {d : Disk} → IsArchive a bs told opened d
    → (index sec : ℕ) → sec ≡ section_of a.items index → a.floor ≤ index → a.pair.index.sections.floor ≤ sec
pair_above a archive index sec here from =
    let low : a.floor ≤ section_of a.items index = section_from a.items a.floor index archive.items archive.floor from in
    omega (arith, archive.pair_floor, low, here)

-- nor above that of a record
none_got : (p : ℕ) → IsSomeAnd (slice_get {X = Row} [] p) (λ _. ⊤) → ⊥
none_got zero is = absurd is
none_got (suc p) is = absurd is

pub row_above : {F S : Type 0} {gs : _} (a : Archive F (PageBlob S gs)) {bs : Buffers F (PageBlob S gs)} {told : Type 0} {opened : OpenedList} {d : Disk} → IsArchive a bs told opened d
    → (s p : ℕ) → IsSomeAnd (slice_get (a.rows s) p) (λ _. ⊤) → a.pair.index.sections.floor ≤ s
row_above a archive s p got = elim (cases_lt s a.floor) [
  | inl low ↦ absurd (none_got p (subst (λ (rs : List Row). IsSomeAnd (slice_get rs p) (λ _. ⊤)) (archive.below s low).rows got))
  | inr from ↦ omega (arith, archive.pair_floor, from)
]

-- ---- a put of one record is skipped below the floor, and where the set has the index

module _ {F S : Type 0} {gs : _} (a : Archive F (PageBlob S gs)) (index : ℕ) where
  pub skips_low : index < a.floor → is_skipped a index Once ≡ true
  skips_low low = or_left (nat_lt index a.floor) (is_taken a index) (lt-ltb index a.floor low)

  pub skips_taken : a.indices index ≡ is_taken a index → a.indices index ≡ true → is_skipped a index Once ≡ true
  skips_taken same has = or_right (nat_lt index a.floor) (is_taken a index) (sym same ∙ has)

  pub skips_not : a.indices index ≡ is_taken a index → a.floor ≤ index → a.indices index ≡ false → is_skipped a index Once ≡ false
  skips_not same from free =
      ap (λ (b : Bool). b || is_taken a index) (le-ltb index a.floor from) ∙ sym same ∙ free

-- what is not held stays so, where no other is held
pub none_still : {T U : Type 0} (old : Option T) (new : Option U) → (IsSome new → IsSome old) → old ≡ None → new ≡ None
none_still old None had none = refl
none_still None (Some y) had none = absurd (cc (had refl))
none_still (Some x) (Some y) had none = absurd (cc none)
