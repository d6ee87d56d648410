-- What an archive says of its pair's lists, and what a crash at a moment of a call of the pair leaves of its state.
use Rattle.std.proofs.Common.{◌≡◌, ◌≢◌, inl, inr, refl, sym, ◌∙◌, ap, subst, ℕ, ◌<◌, ◌^◌, List, [], ◌∷◌, length, map, Option, None, Some, IsSome, arith}
use Rattle.std.specs.List.{AllByRecursion}
use Rattle.std.proofs.lemmas.List.{length-map}
use Rattle.std.proofs.lemmas.Bool.Decides.{nat_tests}
use Rattle.blob_device.specs.Disk.{Disk, Image, IsCrashOf, Key, MayLeave}
use Rattle.sealed_pages.specs.declared.page_blob.PageBlob.{PageBlob}
use Rattle.paired.specs.Crashes.{IsOneOf, IsOwn}
use Rattle.paired.specs.Crashes as pair
use Rattle.paired.specs.glob.Sections as glob
use Rattle.paired.specs.Kept.{Layout}
use Rattle.paired.specs.Opening.{AreNamed}
use Rattle.paired.specs.Pair.{AreApart, list_of, records_of, synced_length}
use Rattle.paired.specs.Places.{Follow}
use Rattle.section_manager.specs.declared.buffer.SectionBuffer as buffer
use Rattle.section_manager.specs.declared.unsealed.WriteFactory.{WriteFactory}
use Rattle.section_manager.specs.Setting.{Setting}
use Rattle.section_manager.specs.Sections.{section_key}
use Rattle.section_manager.specs.lemmas.Keys.{key_injective}
use Rattle.paired.specs.lemmas.Glob.{buffers}
use Rattle.paired.specs.lemmas.OpenParts.{keys_apart}
use Rattle.paired.specs.Records as stored
use Rattle.archives.specs.Archives.{Archive, Buffers, IsArchive, IsSoundArchive, LeavesNoForeign, filing_of, state_of}
use Rattle.archives.specs.Commands.{Command}
use Rattle.archives.specs.Filing.{filed}
use Rattle.archives.specs.IndexRecord.{index_of}
use Rattle.archives.specs.Machine.{section_of}
use Rattle.archives.specs.Rows.{Row, row_in}
use Rattle.archives.specs.Standing.{IsGoing, Leaves, submitted}
use Rattle.archives.proofs.StandLemmas.{AreFiled, all_map, keeps_going, keeps_stand}
use Rattle.blob_device.proofs.general.Lists.{all_by}

-- the buffers of an archive, where those of its records are read so
abbrev pub glob_buffers : {F S : Type 0} {gs : _} → buffer.Ghosts (PageBlob S gs) → (F → Setting) → (WriteFactory → Setting) → Buffers F (PageBlob S gs)
glob_buffers g gives takes = record { pages = g; gives = gives; values = buffers; takes = takes }

-- what holds of each that a map makes holds of each that it makes it of
pub all_unmap : {X Y : Type 0} (g : X → Y) (P : Y → Type 0) (xs : List X) → AllByRecursion P (map g xs) → AllByRecursion (λ x. P (g x)) xs
all_unmap g P [] all = tt
all_unmap g P (x ∷ xs) all = (all.0, all_unmap g P xs all.1)

pub map_none : {X Y : Type 0} (g : X → Y) (xs : List X) → map g xs ≡ [] → xs ≡ []
map_none g [] none = refl
map_none g (x ∷ xs) none = absurd (cc none)

-- the records of entries are those that they were made of
pub stored_again : (place : List ℕ → ℕ × ℕ) (values : List ℕ) (rs : List (List ℕ)) → map (λ e. e.stored) (map (stored.entry_of place values) rs) ≡ rs
stored_again place values [] = refl
stored_again place values (r ∷ rs) = ap (λ (ys : List (List ℕ)). r ∷ ys) (stored_again place values rs)

module _ {F S : Type 0} {gs : _} (a : Archive F (PageBlob S gs)) (d : Disk) where
  -- the records of the lists
  pub list_records : (s : ℕ) → map (λ e. e.stored) (list_of a.pair d s) ≡ records_of a.pair d s
  list_records s = stored_again a.pair.layout.place (glob.section_bytes a.pair.values d s) (records_of a.pair d s)

  pub length_list : (s : ℕ) → length (list_of a.pair d s) ≡ length (records_of a.pair d s)
  length_list s = length-map (records_of a.pair d s) (stored.entry_of a.pair.layout.place (glob.section_bytes a.pair.values d s))

  module _ (listed : (s : ℕ) → a.rows s ≡ map (row_in a.key_size) (records_of a.pair d s)) where
    pub length_rows : (s : ℕ) → length (a.rows s) ≡ length (list_of a.pair d s)
    length_rows s = ap length (listed s) ∙ length-map (records_of a.pair d s) (row_in a.key_size) ∙ sym (length_list s)

    -- each record lies in its section
    pub in_section : (s : ℕ) → AllByRecursion (λ r. section_of a.items r.index ≡ s) (a.rows s) → AllByRecursion (λ e. section_of a.items (index_of e.stored) ≡ s) (list_of a.pair d s)
    in_section s all =
        let Q : Row → Type 0 = λ r. section_of a.items r.index ≡ s in
        let P : stored.Entry → Type 0 = λ e. section_of a.items (index_of e.stored) ≡ s in
        let rs = records_of a.pair d s in
        all_map (stored.entry_of a.pair.layout.place (glob.section_bytes a.pair.values d s)) P rs (all_unmap (row_in a.key_size) Q rs (subst (AllByRecursion Q) (listed s) all))

    -- a section without rows has no records
    pub no_list : (s : ℕ) → a.rows s ≡ [] → list_of a.pair d s ≡ []
    no_list s none =
        let rs = records_of a.pair d s in
        ap (map (stored.entry_of a.pair.layout.place (glob.section_bytes a.pair.values d s))) (map_none (row_in a.key_size) rs (sym (listed s) ∙ none))

  -- the lists of an archive that is sound are filed as a lawful image asks
  pub are_filed : {bs : _} {told : Type 0} {opened : _} → IsArchive a bs told opened d → told → IsSoundArchive a d → AreFiled (filing_of a) (list_of a.pair d)
  are_filed {told = told} archive t sound = record {
    in_section = λ s small. in_section (archive.listed t) s (archive.within.in_section s);
    decoded = λ s small. sound.decoded s;
    end = λ s. glob.section_size a.pair.values s;
    fits = λ s small. sound.counted s;
    follow = λ s small. subst (λ rs. Follow a.pair.layout.place 0 rs (glob.section_size a.pair.values s)) (sym (list_records s)) (sound.pair.sound.places s);
    few_sections = λ ss sorted all. archive.within.few_sections ss sorted (all_by (λ s. (s < 2 ^ 64) × (list_of a.pair d s ≢ [])) (λ s. a.rows s ≢ []) (λ s has none. has.1 (no_list (archive.listed t) s none)) ss all);
    few_records = λ s small. omega (arith, length_rows (archive.listed t) s, archive.within.few_records s);
  }

-- ---- names

module _ (l : Layout) (d : Disk) where
  -- a crash leaves the names of sections alone
  pub names_left : LeavesNoForeign l d → (image : Image) → IsCrashOf d image → AreNamed l image
  names_left none image crash = record {
    index = λ name has. from name (image (l.index, name)) (crash (l.index, name)) has (none.index name);
    values = λ name has. from name (image (l.values, name)) (crash (l.values, name)) has (none.values name);
  }
    where
      from : {q : Key} (name : List ℕ) (left : Option (List ℕ)) → MayLeave (d q) left → IsSome left → ((c : List ℕ) → MayLeave (d q) (Some c) → length name ≡ 8) → length name ≡ 8
      from name None may has each = absurd (cc has)
      from name (Some c) may has each = each c may

-- a blob whose name has not eight bytes is none of the pair's
pub foreign_not_own : (l : Layout) → AreApart l → (P : ℕ → Type 0) (name : List ℕ) → (length name ≡ 8 → ⊥)
    → (IsOwn l P (l.index, name) → ⊥) × (IsOwn l P (l.values, name) → ⊥)
foreign_not_own l apart P name other = (
  λ own. elim own [
    | inl (s, small, named, is) ↦ other (ap (λ (q : Key). length q.1) is)
    | inr (inl (s, small, named, is)) ↦ other (ap (λ (q : Key). length q.1) is)
    | inr (inr (side, is)) ↦ apart.metadata (ap (λ (q : Key). q.0) is)
  ],
  λ own. elim own [
    | inl (s, small, named, is) ↦ other (ap (λ (q : Key). length q.1) is)
    | inr (inl (s, small, named, is)) ↦ other (ap (λ (q : Key). length q.1) is)
    | inr (inr (side, is)) ↦ apart.both (ap (λ (q : Key). q.0) is)
  ],
)

-- a blob of records is none of those of sections that P names, nor a blob of values one of those of sections that Q names, where its own is none
pub index_apart : (l : Layout) → AreApart l → (P Q : ℕ → Type 0) (s : ℕ) → s < 2 ^ 64 → (P s → ⊥) → IsOneOf l P Q (section_key l.index s) → ⊥
index_apart l apart P Q s small other one = elim one [
  | inl blob ↦ other (subst P (sym (key_injective l.index s blob.0 small blob.1 blob.3)) blob.2)
  | inr (inl blob) ↦ apart.values (ap (λ (q : Key). q.0) blob.3)
  | inr (inr copy) ↦ apart.metadata (ap (λ (q : Key). q.0) copy.1)
]

pub values_apart : (l : Layout) → AreApart l → (P Q : ℕ → Type 0) (s : ℕ) → s < 2 ^ 64 → (Q s → ⊥) → IsOneOf l P Q (section_key l.values s) → ⊥
values_apart l apart P Q s small other one = elim one [
  | inl blob ↦ keys_apart l.index l.values apart.values s blob.0 blob.3
  | inr (inl blob) ↦ other (subst Q (sym (key_injective l.values s blob.0 small blob.1 blob.3)) blob.2)
  | inr (inr copy) ↦ apart.both (ap (λ (q : Key). q.0) copy.1)
]

-- where no blob but the pair's changes, no foreign name comes
pub no_foreign : (l : Layout) → AreApart l → (P : ℕ → Type 0) (from d : Disk) → ((q : Key) → (IsOwn l P q → ⊥) → d q ≡ from q) → LeavesNoForeign l from → LeavesNoForeign l d
no_foreign l apart P from d others none = record {
  index = λ name c may. decide (length name) (λ other. none.index name c (subst (λ b. MayLeave b (Some c)) (others (l.index, name) ((foreign_not_own l apart P name other).0)) may));
  values = λ name c may. decide (length name) (λ other. none.values name c (subst (λ b. MayLeave b (Some c)) (others (l.values, name) ((foreign_not_own l apart P name other).1)) may));
}
  where
    decide : (n : ℕ) → ((n ≡ 8 → ⊥) → n ≡ 8) → n ≡ 8
    decide n other = grind (arith, nat_tests, other)

-- ---- moments

-- a section's synced length below what is kept
module _ {F S : Type 0} {gs : _} (a : Archive F (PageBlob S gs)) (from : Disk) where
  -- At a moment at which each crash leaves of the pair's lists a prefix that holds what was synced, each crash leaves what stands for the state.
  pub stands_at : {bs : _} {told : Type 0} {opened : _} → IsArchive a bs told opened from → told → IsSoundArchive a from
      → (P : ℕ → Type 0) (d : Disk) → ((q : Key) → (IsOwn a.pair.layout P q → ⊥) → d q ≡ from q)
      → pair.Leaves a.pair.layout (list_of a.pair from) (synced_length a.pair) (λ _. ⊥) d
      → Leaves (filing_of a) (state_of a from) None d
  stands_at archive t sound P d others leaves image crash no_chance =
      let none = no_foreign a.pair.layout archive.pair.apart P from d others sound.names in
      keeps_stand (filing_of a) (list_of a.pair from) (synced_length a.pair) image (are_filed a from archive t sound) (names_left a.pair.layout d none image crash) (leaves image crash no_chance)
      (state_of a from) None (λ s small. refl) (λ s small. omega arith)

  -- Where it may leave nothing of a section that goes, it leaves what stands for the state with a command under way that takes what goes.
  pub going_at : {bs : _} {told : Type 0} {opened : _} → IsArchive a bs told opened from → told → IsSoundArchive a from → (Goes : ℕ → Type 0) (under_way : Option (Command (List ℕ)))
      → ((s : ℕ) → s < 2 ^ 64 → submitted a.items (state_of a from) under_way s ≡ map (filed (filing_of a)) (list_of a.pair from s))
      → ((s : ℕ) → s < 2 ^ 64 → Goes s → IsGoing a.items (state_of a from) under_way s)
      → (P : ℕ → Type 0) (d : Disk) → ((q : Key) → (IsOwn a.pair.layout P q → ⊥) → d q ≡ from q)
      → pair.Leaves a.pair.layout (list_of a.pair from) (synced_length a.pair) Goes d
      → Leaves (filing_of a) (state_of a from) under_way d
  going_at archive t sound Goes under_way submits goes P d others leaves image crash no_chance =
      let none = no_foreign a.pair.layout archive.pair.apart P from d others sound.names in
      keeps_going (filing_of a) (list_of a.pair from) (synced_length a.pair) Goes image (are_filed a from archive t sound) (names_left a.pair.layout d none image crash) (leaves image crash no_chance)
      (state_of a from) under_way submits (λ s small. omega arith) goes
