-- What a put makes of the state of an archive, where it is skipped and where it is not.
use Rattle.std.proofs.Common.{◌≡◌, sym, ◌∙◌, ap, ℕ, List, map, Bool, true, false, ◌||◌, if◌then◌else◌, nat_lt}
use Rattle.blob_device.specs.Disk.{Disk}
use Rattle.sealed_pages.specs.declared.page_blob.PageBlob.{PageBlob}
use Rattle.paired.specs.Pair.{records_of}
use Rattle.archives.specs.Archives.{Archive, state_of}
use Rattle.archives.specs.Machine.{appended}
use Rattle.archives.specs.Putting.{Often, Once, Times, after_putting, is_skipped}
use Rattle.archives.specs.PuttingLaws.{taken_state}
use Rattle.archives.specs.Rows.{row_in}

-- a put that is skipped changes nothing, and one that is not appends
module _ {F S : Type 0} {gs : _} (a : Archive F (PageBlob S gs)) (d : Disk) (index : ℕ) (key value : List ℕ) (listed : (s : ℕ) → a.rows s ≡ map (row_in a.key_size) (records_of a.pair d s)) where
  pub put_by : (b : Bool) (times : Times) → is_skipped a index times ≡ b
      → after_putting times a.items index key value (state_of a d) ≡ (if b then state_of a d else appended a.items index key value (state_of a d))
  put_by b Once is =
      ap (λ (x : Bool). if x then state_of a d else appended a.items index key value (state_of a d)) (ap (λ (x : Bool). nat_lt index a.floor || x) (sym (taken_state a d listed index)) ∙ is)
  put_by b Often is = ap (λ (x : Bool). if x then state_of a d else appended a.items index key value (state_of a d)) is

  pub put_skipped : (times : Times) → is_skipped a index times ≡ true → after_putting times a.items index key value (state_of a d) ≡ state_of a d
  put_skipped times is = put_by true times is

  pub put_appends : (times : Times) → is_skipped a index times ≡ false → after_putting times a.items index key value (state_of a d) ≡ appended a.items index key value (state_of a d)
  put_appends times is = put_by false times is
