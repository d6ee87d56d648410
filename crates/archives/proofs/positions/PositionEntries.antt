-- What the records at the ascending positions of an index say of the machine's lists, and what the entries say of their values.
use Rattle.std.proofs.Common.{◌≡◌, ◌≢◌, refl, sym, ◌∙◌, ap, subst, ℕ, ◌+◌, ◌==◌, List, [], ◌∷◌, map, filter, slice_get, Contains, Option, None, Some, IsSomeAnd, arith}
use Rattle.std.specs.Prelude.{IfSome}
use Rattle.std.specs.List.{AllByRecursion}
use Rattle.std.specs.Option.{option_map}
use Rattle.blob_device.specs.Disk.{Disk}
use Rattle.sealed_pages.specs.declared.page_blob.PageBlob.{PageBlob}
use Rattle.paired.specs.Pair.{list_of, records_of}
use Rattle.paired.specs.Records as stored
use Rattle.record_tables.specs.Rows.{ArePositions}
use Rattle.archives.specs.Archives.{Archive, filing_of, state_of}
use Rattle.archives.specs.Filing.{filed}
use Rattle.archives.specs.IndexRecord.{index_of, key_of}
use Rattle.archives.specs.Machine.{ContainsAt, Entry, all_entries, all_values, entries_at, section_of}
use Rattle.archives.specs.Rows.{row_in}
use Rattle.archives.proofs.positions.PositionLemmas.{AreEach, are_standing, at_kept, each_weaker, kept_at, one_of, read_standing, standing}
use Rattle.archives.proofs.read.Finding.{both_at, from_list, to_list}
use Rattle.archives.proofs.read.Records.{from_map, to_map, weaker_at}
use Rattle.blob_device.proofs.general.Options.{the_some}

-- ---- what the records at ascending positions say of the machine's lists

module _ {F S : Type 0} {gs : _} (a : Archive F (PageBlob S gs)) (d : Disk) (s : ℕ) where
  -- key and value of the record at a place are these
  abbrev pub IsEntry : List ℕ × List ℕ → ℕ → Type 0
  IsEntry e at = IsSomeAnd (slice_get (list_of a.pair d s) at) (λ x. (key_of a.key_size x.stored ≡ e.0) × (x.value ≡ e.1))

  -- its key is this one, or another
  abbrev pub HasKeyAt : List ℕ → ℕ → Type 0
  HasKeyAt key at = IsSomeAnd (slice_get (list_of a.pair d s) at) (λ x. key_of a.key_size x.stored ≡ key)

  abbrev pub HasOtherKeyAt : List ℕ → ℕ → Type 0
  HasOtherKeyAt key at = IsSomeAnd (slice_get (list_of a.pair d s) at) (λ x. key_of a.key_size x.stored ≢ key)

module _ {F S : Type 0} {gs : _} (a : Archive F (PageBlob S gs)) (d : Disk) (shows : (s : ℕ) → a.rows s ≡ map (row_in a.key_size) (records_of a.pair d s)) (i s : ℕ) (here : s ≡ section_of a.items i) where
  abbrev filed_as : stored.Entry → Entry (List ℕ)
  filed_as e = filed (filing_of a) e

  -- what was read of all of them is what the machine has at the index
  pub entries_of_positions : {Y : Type 0} (g : Y → List ℕ × List ℕ) (ps : List ℕ) (ys : List Y) → ArePositions (a.rows s) i ps → AreEach (λ at y. IsEntry a d s (g y) at) ps ys
      → map g ys ≡ map (λ e. (e.key, e.value)) (entries_at a.items (state_of a d) i)
  entries_of_positions {Y} g ps ys are each =
      subst (λ (t : ℕ). map g ys ≡ map (λ e. (e.key, e.value)) (filter (λ e. e.index == i) (map filed_as (list_of a.pair d t)))) here
      (read_standing (λ (e : Entry (List ℕ)). e.index) i (λ (e : Entry (List ℕ)). (e.key, e.value)) g xs 0 xs ys whole
      (subst (λ (ns : List ℕ). AreEach (λ at y. IsSomeAnd (slice_get xs at) (λ e. (e.key, e.value) ≡ g y)) ns ys) stands (each_weaker (λ at y. IsEntry a d s (g y) at) (λ at y. IsSomeAnd (slice_get xs at) (λ e. (e.key, e.value) ≡ g y)) listed_there ps ys each)))
    where
      xs : List (Entry (List ℕ))
      xs = map filed_as (list_of a.pair d s)

      whole : (q : ℕ) → slice_get xs (0 + q) ≡ slice_get xs q
      whole q = let same : 0 + q ≡ q = omega arith in ap (slice_get xs) same

      stands : ps ≡ standing (λ (e : Entry (List ℕ)). e.index) i 0 xs
      stands = are_standing (λ (e : Entry (List ℕ)). e.index) i xs ps are.ascending (λ at. (
        λ has. to_map filed_as (λ e. e.index ≡ i) (list_of a.pair d s) at (to_list a d shows (λ r. r.index ≡ i) s at ((are.exact at).0 has)),
        λ is. (are.exact at).1 (from_list a d shows (λ r. r.index ≡ i) s at (from_map filed_as (λ e. e.index ≡ i) (list_of a.pair d s) at is)),
      ))

      listed_there : (at : ℕ) (y : Y) → IsEntry a d s (g y) at → IsSomeAnd (slice_get xs at) (λ e. (e.key, e.value) ≡ g y)
      listed_there at y is = to_map filed_as (λ e. (e.key, e.value) ≡ g y) (list_of a.pair d s) at (weaker_at (slice_get (list_of a.pair d s) at) (λ x both. (λ j. (both.0 j, both.1 j))) is)

  -- a record at such a position with the key is one with both
  pub at_both : (key : List ℕ) (at : ℕ) → IsSomeAnd (slice_get (a.rows s) at) (λ r. r.index ≡ i) → HasKeyAt a d s key at → ContainsAt a.items (state_of a d) i key
  at_both key at row is =
      let both = both_at (λ x. index_of x.stored ≡ i) (λ x. key_of a.key_size x.stored ≡ key) (slice_get (list_of a.pair d s) at) (to_list a d shows (λ r. r.index ≡ i) s at row) is in
      let found = kept_at (λ (e : Entry (List ℕ)). e.index) i (λ e. e.key ≡ key) (map filed_as (list_of a.pair d s)) at (to_map filed_as (λ e. (e.index ≡ i) × (e.key ≡ key)) (list_of a.pair d s) at both) in
      (found.0, subst (λ (t : ℕ). Contains (filter (λ e. e.index == i) (map filed_as (list_of a.pair d t))) found.0) here found.1, found.2)

  -- where no record at these positions has the key, there is none with both
  pub none_both : (key : List ℕ) (ps : List ℕ) → ArePositions (a.rows s) i ps → AllByRecursion (HasOtherKeyAt a d s key) ps → ContainsAt a.items (state_of a d) i key → ⊥
  none_both key ps are all (e, has, is) =
      let mine = subst (λ (t : ℕ). Contains (filter (λ x. x.index == i) (map filed_as (list_of a.pair d t))) e) (sym here) has in
      let at = at_kept (λ (x : Entry (List ℕ)). x.index) i (λ x. x.key ≡ key) (map filed_as (list_of a.pair d s)) e mine is in
      let found = from_map filed_as (λ x. (x.index ≡ i) × (x.key ≡ key)) (list_of a.pair d s) at.0 at.1 in
      let row = from_list a d shows (λ r. r.index ≡ i) s at.0 (weaker_at (slice_get (list_of a.pair d s) at.0) (λ x both. both.0) found) in
      let other = one_of (HasOtherKeyAt a d s key) ps at.0 all ((are.exact at.0).1 row) in
      let apart = the_some (slice_get (list_of a.pair d s) at.0) (both_at (λ x. (index_of x.stored ≡ i) × (key_of a.key_size x.stored ≡ key)) (λ x. key_of a.key_size x.stored ≢ key) (slice_get (list_of a.pair d s) at.0) found other) in
      apart.2.1 apart.2.0.1

-- ---- lists of entries, and of their values

-- keys and values of some records, and of none
pub some_entries : (es : List (Entry (List ℕ))) (e : List ℕ × List ℕ) (rest : List (List ℕ × List ℕ)) → e ∷ rest ≡ map (λ x. (x.key, x.value)) es → Some (e ∷ rest) ≡ all_entries es
some_entries [] e rest is = cc is
some_entries (x ∷ xs) e rest is = let some : List (List ℕ × List ℕ) → Option (List (List ℕ × List ℕ)) = λ l. Some l in ap some is

pub no_entries : (es : List (Entry (List ℕ))) → ◌≡◌ {A = List (List ℕ × List ℕ)} [] (map (λ x. (x.key, x.value)) es) → ◌≡◌ {A = Option (List (List ℕ × List ℕ))} None (all_entries es)
no_entries [] is = refl
no_entries (x ∷ xs) is = cc is

-- the values of the machine are those of its entries
entry_values : (es : List (Entry (List ℕ))) → map (λ e. e.value) es ≡ map (λ (x : List ℕ × List ℕ). x.1) (map (λ e. (e.key, e.value)) es)
entry_values [] = refl
entry_values (e ∷ es) = let rest = entry_values es in ap (λ l. e.value ∷ l) rest

values_of : (es : List (Entry (List ℕ))) → all_values es ≡ option_map (map (λ (x : List ℕ × List ℕ). x.1)) (all_entries es)
values_of [] = refl
values_of (e ∷ es) = let some : List (List ℕ) → Option (List (List ℕ)) = λ l. Some l in ap some (entry_values (e ∷ es))

module _ {K V : Type 0} (key_bytes : K → List ℕ) (spelling : V → List ℕ) where
  spelled : (es : List (K × V)) → map spelling (map (λ e. e.1) es) ≡ map (λ (x : List ℕ × List ℕ). x.1) (map (λ e. (key_bytes e.0, spelling e.1)) es)
  spelled [] = refl
  spelled (e ∷ es) = let rest = spelled es in ap (λ l. spelling e.1 ∷ l) rest

  -- and those that were read are the machine's where the entries are
  pub values_spelled : (found : Option (List (K × V))) (es : List (Entry (List ℕ))) → option_map (map (λ e. (key_bytes e.0, spelling e.1))) found ≡ all_entries es → option_map (map spelling) (option_map (map (λ e. e.1)) found) ≡ all_values es
  values_spelled found es is = seen found ∙ ap (option_map (map (λ (x : List ℕ × List ℕ). x.1))) is ∙ sym (values_of es)
    where
      seen : (o : Option (List (K × V))) → option_map (map spelling) (option_map (map (λ e. e.1)) o) ≡ option_map (map (λ (x : List ℕ × List ℕ). x.1)) (option_map (map (λ e. (key_bytes e.0, spelling e.1))) o)
      seen None = refl
      seen (Some l) = let some : List (List ℕ) → Option (List (List ℕ)) = λ x. Some x in ap some (spelled l)

  pub values_allowed : (Allows : V → Type 0) (found : Option (List (K × V))) → IfSome found (AllByRecursion (λ e. Allows e.1)) → IfSome (option_map (map (λ e. e.1)) found) (AllByRecursion Allows)
  values_allowed Allows None all = tt
  values_allowed Allows (Some es) all = go es all
    where
      go : (l : List (K × V)) → AllByRecursion (λ e. Allows e.1) l → AllByRecursion Allows (map (λ e. e.1) l)
      go [] every = tt
      go (e ∷ rest) every = (every.0, go rest every.1)
