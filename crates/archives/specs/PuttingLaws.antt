-- Whether an index is taken is the same of the rows and of the state.
use Rattle.std.specs.Prelude.{◌≡◌, ℕ, ◌==◌, ◌||◌, Bool, List, [], ◌∷◌, map}
use Rattle.std.proofs.Common.{refl, sym, ◌∙◌, ap}
use Rattle.std.specs.List.{list_any}
use Rattle.blob_device.specs.Disk.{Disk}
use Rattle.sealed_pages.specs.declared.page_blob.PageBlob.{PageBlob}
use Rattle.paired.specs.glob.Sections as glob
use Rattle.paired.specs.Pair.{list_of, records_of}
use Rattle.paired.specs.Records as stored
use Rattle.archives.specs.Archives.{Archive, filing_of, state_of}
use Rattle.archives.specs.Filing.{filed}
use Rattle.archives.specs.IndexRecord.{index_of}
use Rattle.archives.specs.Machine.{has_index, section_of}
use Rattle.archives.specs.Putting.{is_taken}
use Rattle.archives.specs.Rows.{row_in}

any_map : {X Y : Type 0} (f : X → Y) (test : Y → Bool) (xs : List X)
    → list_any test (map f xs) ≡ list_any (λ x. test (f x)) xs
any_map f test [] = refl
any_map f test (x ∷ xs) = ap (λ b. test (f x) || b) (any_map f test xs)

-- A record of the lists has an index where a row has it, as the rows are those of the records.
pub taken_state : {F S : Type 0} {gs : _} (a : Archive F (PageBlob S gs)) (d : Disk)
    → ((s : ℕ) → a.rows s ≡ map (row_in a.key_size) (records_of a.pair d s))
    → (i : ℕ) → is_taken a i ≡ has_index a.items (state_of a d) i
taken_state a d shows i =
    let s = section_of a.items i in
    let rs = records_of a.pair d s in
    ap (list_any (λ r. r.index == i)) (shows s) ∙ any_map (row_in a.key_size) (λ r. r.index == i) rs
    ∙ sym (any_map (filed (filing_of a)) (λ r. r.index == i) (list_of a.pair d s)
    ∙ any_map (stored.entry_of a.pair.layout.place (glob.section_bytes a.pair.values d s))
    (λ e. index_of e.stored == i) rs)
