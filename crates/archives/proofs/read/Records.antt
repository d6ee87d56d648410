-- Rows and records at a place: the record behind a row, the entry of the pair's list, and the record that its bytes spell.
use Rattle.std.proofs.Common.{◌≡◌, refl, sym, ◌∙◌, ap, subst, ℕ, zero, suc, ◌-◌, List, [], ◌∷◌, map, slice_get, Option, None, Some, IsSomeAnd}
use Rattle.std.specs.Prelude.{⊤}
use Rattle.std.specs.List.{AllByRecursion}
use Rattle.std.specs.Option.{option_map}
use Rattle.std.proofs.lemmas.Option.{slice_get-map}
use Rattle.blob_device.specs.Disk.{Disk}
use Rattle.sealed_pages.specs.declared.page_blob.PageBlob.{PageBlob}
use Rattle.paired.specs.Frames.{bytes_at}
use Rattle.paired.specs.glob.Sections as glob
use Rattle.paired.specs.Pair.{Pair, list_of, records_of}
use Rattle.paired.specs.Records as stored
use Rattle.archives.specs.IndexRecord.{IsInRange, IsSpelled, index_record, key_of, spelling_of}
use Rattle.archives.specs.IndexRecordLaws.{key_of-index_record}
use Rattle.archives.specs.Rows.{Row, row_in, row_of, rows_of}
use Rattle.archives.specs.declared.prunable.index_record.IndexRecord.{IndexRecord}
use Rattle.record_tables.specs.Rows as held
use Rattle.record_tables.specs.Tables as tables
use Rattle.record_tables.specs.declared.tables.Tables.{Tables}
use Rattle.blob_device.proofs.general.Options.{the_some}

-- ---- what stands at a place of a list

pub value_some : {X : Type 0} (P : X → Type 0) (o : Option X) (x : X) → o ≡ Some x → P x → IsSomeAnd o P
value_some {X} P o x is has = subst (λ (q : Option X). IsSomeAnd q P) (sym is) has

pub weaker_at : {X : Type 0} {P Q : X → Type 0} (o : Option X) → ((x : X) → P x → Q x) → IsSomeAnd o P → IsSomeAnd o Q
weaker_at None to is = is
weaker_at (Some x) to is = to x is

-- no value has both, where each that has the one has not the other
pub clash : {X : Type 0} {P Q : X → Type 0} (o : Option X) → IsSomeAnd o P → IsSomeAnd o Q → ((x : X) → P x → Q x → ⊥) → ⊥
clash None is too apart = is
clash (Some x) is too apart = apart x is too

pub all_at : {X : Type 0} (P Q : X → Type 0) (xs : List X) (p : ℕ) → AllByRecursion P xs → IsSomeAnd (slice_get xs p) Q → IsSomeAnd (slice_get xs p) (λ x. P x × Q x)
all_at P Q [] p all is = absurd is
all_at P Q (x ∷ xs) zero all is = (all.0, is)
all_at P Q (x ∷ xs) (suc p) all is = all_at P Q xs p all.1 is

module _ {X Y : Type 0} (f : X → Y) (Q : Y → Type 0) (xs : List X) (p : ℕ) where
  pub from_map : IsSomeAnd (slice_get (map f xs) p) Q → IsSomeAnd (slice_get xs p) (λ x. Q (f x))
  from_map is = go (slice_get xs p) (subst (λ (o : Option Y). IsSomeAnd o Q) (slice_get-map f xs p) is)
    where
      go : (o : Option X) → IsSomeAnd (option_map f o) Q → IsSomeAnd o (λ x. Q (f x))
      go None is = is
      go (Some x) is = is

  pub to_map : IsSomeAnd (slice_get xs p) (λ x. Q (f x)) → IsSomeAnd (slice_get (map f xs) p) Q
  to_map is = subst (λ (o : Option Y). IsSomeAnd o Q) (sym (slice_get-map f xs p)) (go (slice_get xs p) is)
    where
      go : (o : Option X) → IsSomeAnd o (λ x. Q (f x)) → IsSomeAnd (option_map f o) Q
      go None is = is
      go (Some x) is = is

-- ---- rows, and the records that they show

-- the bytes of a row's key are those of a key
pub key_behind : {K W : Type 0} (key_bytes : K → List ℕ) (t : Tables W K) (s p : ℕ) → IsSomeAnd (slice_get (rows_of key_bytes t s) p) (λ _. ⊤)
    → (k : K) × IsSomeAnd (slice_get (rows_of key_bytes t s) p) (λ r. r.key ≡ key_bytes k)
key_behind {K} key_bytes t s p has =
    let row = the_some (slice_get (tables.rows_of t s) p) (from_map (row_of key_bytes) (λ _. ⊤) (tables.rows_of t s) p has) in
    (row.0.key, to_map (row_of key_bytes) (λ r. r.key ≡ key_bytes row.0.key) (tables.rows_of t s) p (value_some (λ (q : held.Row K). key_bytes q.key ≡ key_bytes row.0.key) (slice_get (tables.rows_of t s) p) row.0 row.1 refl))

-- the bytes of a record are those of one with this key, where they say this key
pub record_with : {K : Type 0} (key_bytes : K → List ℕ) (k : K) (n : ℕ) (bytes : List ℕ) → IsSpelled n bytes → key_of n bytes ≡ key_bytes k
    → (r : IndexRecord K) × IsInRange r × (bytes ≡ spelling_of key_bytes r)
record_with key_bytes k n bytes spelled is =
    let r : IndexRecord _ = record { index = spelled.index; key = k; offset = spelled.offset; size = spelled.size } in
    let same : spelled.key ≡ key_bytes k = sym (key_of-index_record n spelled.index spelled.key spelled.offset spelled.size spelled.key_size) ∙ ap (key_of n) (sym spelled.is) ∙ is in
    (r, (spelled.index_fits, spelled.offset_fits, spelled.size_fits), spelled.is ∙ ap (λ (key : List ℕ). index_record spelled.index key spelled.offset spelled.size) same)

module _ {F S : Type 0} {gs : _} (pair : Pair F (PageBlob S gs)) (d : Disk) (s p : ℕ) where
  -- the record at a place of the list names this frame
  abbrev pub Names : ℕ → ℕ → Type 0
  Names at n = IsSomeAnd (slice_get (records_of pair d s) p) (λ r. pair.layout.place r ≡ (at, n))

  abbrev entry_of : List ℕ → stored.Entry
  entry_of r = stored.entry_of pair.layout.place (glob.section_bytes pair.values d s) r

  -- what holds of the entry of each record holds of the list's
  pub listed : {P : List ℕ → Type 0} (Q : stored.Entry → Type 0) → ((r : List ℕ) → P r → Q (entry_of r)) → IsSomeAnd (slice_get (records_of pair d s) p) P → IsSomeAnd (slice_get (list_of pair d s) p) Q
  listed Q to has = to_map entry_of Q (records_of pair d s) p (weaker_at (slice_get (records_of pair d s) p) to has)

  -- and the other way round
  pub unlisted : {P : List ℕ → Type 0} (Q : stored.Entry → Type 0) → ((r : List ℕ) → Q (entry_of r) → P r) → IsSomeAnd (slice_get (list_of pair d s) p) Q → IsSomeAnd (slice_get (records_of pair d s) p) P
  unlisted Q to has = weaker_at (slice_get (records_of pair d s) p) to (from_map entry_of Q (records_of pair d s) p has)

  -- the value of an entry is what its frame spells
  pub named_value : (at n : ℕ) → Names at n → IsSomeAnd (slice_get (list_of pair d s) p) (λ e. (e.value ≡ bytes_at (glob.section_bytes pair.values d s) at (n - 4)) × (pair.layout.place e.stored ≡ (at, n)))
  named_value at n = listed (λ e. (e.value ≡ bytes_at (glob.section_bytes pair.values d s) at (n - 4)) × (pair.layout.place e.stored ≡ (at, n)))
      (λ r is. (ap (λ (x : ℕ × ℕ). bytes_at (glob.section_bytes pair.values d s) x.0 (x.1 - 4)) is, is))

  -- a row with the bytes of a key is that of a record with the key
  pub record_at : {K : Type 0} (key_bytes : K → List ℕ) (size : ℕ) (rows : List Row) → rows ≡ map (row_in size) (records_of pair d s) → AllByRecursion (IsSpelled size) (records_of pair d s)
      → (k : K) → IsSomeAnd (slice_get rows p) (λ r. r.key ≡ key_bytes k) → (r : IndexRecord K) × IsInRange r × IsSomeAnd (slice_get (list_of pair d s) p) (λ e. e.stored ≡ spelling_of key_bytes r)
  record_at {K} key_bytes size rows shows spelled k has =
      let HasKey : Row → Type 0 = λ r. r.key ≡ key_bytes k in
      let rs = records_of pair d s in
      let at = from_map (row_in size) HasKey rs p (subst (λ (xs : List Row). IsSomeAnd (slice_get xs p) HasKey) shows has) in
      let found = the_some (slice_get rs p) (all_at (IsSpelled size) (λ r. key_of size r ≡ key_bytes k) rs p spelled at) in
      let made = record_with key_bytes k size found.0 found.2.0 found.2.1 in
      let Is : stored.Entry → Type 0 = λ e. e.stored ≡ spelling_of key_bytes made.0 in
      (made.0, made.1, listed Is (λ r is. is) (value_some (λ (r : List ℕ). r ≡ spelling_of key_bytes made.0) (slice_get rs p) found.0 found.1 made.2))

  -- the record that was read names its place
  pub names_place : {K : Type 0} (key_bytes : K → List ℕ) → ((r : IndexRecord K) → IsInRange r → pair.layout.place (spelling_of key_bytes r) ≡ (r.offset, r.size)) → (r : IndexRecord K) → IsInRange r
      → IsSomeAnd (slice_get (list_of pair d s) p) (λ e. e.stored ≡ spelling_of key_bytes r) → (at : ℕ × ℕ) → at ≡ (r.offset, r.size) → Names at.0 at.1
  names_place key_bytes placed r fits has at is =
      unlisted (λ e. e.stored ≡ spelling_of key_bytes r) (λ x same. ap pair.layout.place same ∙ placed r fits ∙ sym is) has
