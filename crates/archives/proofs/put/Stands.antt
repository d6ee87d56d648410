-- What a crash leaves of an archive while a put is under way.
use Rattle.std.proofs.Common.{◌≡◌, ◌≢◌, ◌⊎◌, inl, inr, refl, sym, ◌∙◌, ap, subst, ℕ, ◌+◌, ◌-◌, ◌^◌, ◌<◌, ◌≤◌, List, [], ◌∷◌, ◌++◌, length, map, take, Bool, true, false, ◌==◌, ◌||◌, if◌then◌else◌, nat_lt, IsTrue, Option, None, Some, IsSomeAnd, arith}
use Rattle.std.specs.List.{AllByRecursion}
use Rattle.std.specs.List.Sorted.{IsStrictlySortedBy}
use Rattle.std.specs.Ordering.{nat_cmp}
use Rattle.std.proofs.lemmas.Bool.{cases_lt}
use Rattle.std.proofs.lemmas.Bool.Decides.{nat_tests}
use Rattle.std.proofs.lemmas.List.{append-nil, length-take, map-append, take-append-le}
use Rattle.blob_device.specs.Disk.{Disk, Image}
use Rattle.blob_device.specs.Timeline.{Timeline, disk, Always}
use Rattle.blob_device.specs.lemmas.Moments.{always_start, always_weaker}
use Rattle.sealed_pages.specs.declared.page_blob.PageBlob.{PageBlob}
use Rattle.sealed_pages.specs.declared.write_blob.WriteBlob.{WriteBlob}
use Rattle.section_manager.specs.declared.buffer.SectionBuffer as buffer
use Rattle.section_manager.specs.declared.unsealed.WriteFactory.{WriteFactory}
use Rattle.section_manager.specs.Setting.{Setting}
use Rattle.section_manager.specs.unsealed.Buffer.{count_of}
use Rattle.paired.specs.Crashes.{IsIndexOf, IsValuesOf, Keeping, LeavesAlone}
use Rattle.paired.specs.glob.Sections as glob
use Rattle.paired.specs.Pair.{list_of, records_of, synced_length}
use Rattle.paired.specs.Places.{Follow}
use Rattle.paired.specs.Records as stored
use Rattle.archives.specs.lemmas.put.Rows.{other_or_same}
use Rattle.paired.specs.lemmas.pair.Appending.{follow-push}
use Rattle.paired.specs.lemmas.pair.Reads.{leaves_now}
use Rattle.archives.specs.Archives.{Archive, Buffers, IsArchive, IsSoundArchive, filing_of, state_of}
use Rattle.archives.specs.Commands.{Command}
use Rattle.archives.specs.Filing.{Filing, filed, kept}
use Rattle.archives.specs.IndexRecord.{index_record, index_of, key_of}
use Rattle.archives.specs.IndexRecordLaws.{index_of-index_record, key_of-index_record}
use Rattle.archives.specs.Machine.{Entry, State, appended, has_index, section_of}
use Rattle.archives.specs.Putting.{Often, Once, Times, after_putting, is_skipped, put_command}
use Rattle.archives.specs.Rows.{HasRoom}
use Rattle.archives.specs.Standing.{Leaves, StandsFor, submitted}
use Rattle.archives.proofs.ArchiveStands.{are_filed, glob_buffers, in_section, length_rows, list_records, names_left, no_foreign, no_list, stands_at}
use Rattle.archives.proofs.put.Rows.{few_now, few_sections_now}
use Rattle.archives.proofs.PuttingLemmas.{submits_by}
use Rattle.archives.proofs.StandLemmas.{AreFiled, keeps_stand}
use Rattle.blob_device.proofs.general.Lists.{all_by, all_push}
use Rattle.archives.specs.lemmas.put.Stands.{put_appends}

-- ---- between calls

-- what a crash leaves while no call is under way
pub stands_settled : {F S : Type 0} {gs : _} {g : buffer.Ghosts (PageBlob S gs)} {gives : F → Setting} {takes : WriteFactory → Setting} {told : Type 0} {opened : _} (a : Archive F (PageBlob S gs)) (d : Disk)
    → 1 ≤ a.pair.layout.record_size → a.pair.index.sections.partition ≡ a.pair.layout.index → a.pair.values.partition ≡ a.pair.layout.values → a.pair.store.partition ≡ a.pair.layout.metadata → IsTrue a.pair.layout.marked
    → ((s : ℕ) (v : PageBlob S gs) → a.pair.index.sections.held s ≡ Some v → v.page_size ≡ a.pair.layout.page_size)
    → IsArchive a (glob_buffers g gives takes) told opened d → told → IsSoundArchive a d → Leaves (filing_of a) (state_of a d) None d
stands_settled {opened = opened} a d pos index values store is_marked paged archive t sound =
    stands_at a d archive t sound (λ _. ⊥) d (λ q other. refl) (leaves_now a.pair opened d pos index values store is_marked paged archive.pair t sound.pair)

-- A command under way that adds to a list leaves room for what stands for the state without it.
module _ (f : Filing) (st : State (List ℕ)) (command : Command (List ℕ)) (adds : (s : ℕ) → (more : List (Entry (List ℕ))) × (submitted f.items st (Some command) s ≡ submitted f.items st None s ++ more)) where
  still_first : (xs ys zs : List (Entry (List ℕ))) → zs ≡ take (length zs) xs → zs ≡ take (length zs) (xs ++ ys)
  still_first xs ys zs is =
      let few : length zs ≤ length xs = omega (arith, ap length is ∙ length-take (length zs) xs) in
      is ∙ sym (take-append-le (length zs) xs ys few)

  pub stands_more : (image : Image) → StandsFor f st None image → StandsFor f st (Some command) image
  stands_more image stands = record {
    markers = stands.markers;
    lawful = stands.lawful;
    each = λ s small. elim (stands.each s small) [
      | inl held ↦ inl (record {
        same = subst (λ xs. kept f image stands.markers s ≡ take (length (kept f image stands.markers s)) xs) (sym (adds s).1)
            (still_first (submitted f.items st None s) (adds s).0 (kept f image stands.markers s) held.same);
        synced = held.synced;
      })
      | inr gone ↦ absurd gone.1
    ];
  }

  pub leaves_more : (d : Disk) → Leaves f st None d → Leaves f st (Some command) d
  leaves_more d leaves image crash no_chance = stands_more image (leaves image crash no_chance)

-- what a put adds to a list
pub put_adds : (times : Times) (items index : ℕ) (key value : List ℕ) (st : State (List ℕ)) (s : ℕ)
    → (more : List (Entry (List ℕ))) × ((after_putting times items index key value st).lists s ≡ st.lists s ++ more)
put_adds times items index key value st s = by times
  where
    last : (c : Bool) → (more : List (Entry (List ℕ))) × ((if c then st.lists s ++ record { index = index; key = key; value = value } ∷ [] else st.lists s) ≡ st.lists s ++ more)
    last true = (record { index = index; key = key; value = value } ∷ [], refl)
    last false = ([], sym (append-nil (st.lists s)))

    go : (b : Bool) → (more : List (Entry (List ℕ))) × ((if b then st else appended items index key value st).lists s ≡ st.lists s ++ more)
    go true = ([], sym (append-nil (st.lists s)))
    go false = last (s == section_of items index)

    by : (t : Times) → (more : List (Entry (List ℕ))) × ((after_putting t items index key value st).lists s ≡ st.lists s ++ more)
    by Once = go (nat_lt index st.floor || has_index items st index)
    by Often = go (nat_lt index st.floor)

-- ---- a put that appends

module _ {F S : Type 0} {gs : _} (a : Archive F (PageBlob S gs)) (index sec : ℕ) (here : sec ≡ section_of a.items index) (key value : List ℕ) (n : ℕ) (d : Disk) where
  -- the record, which names the place behind the section's values, with its value
  abbrev pub new_entry : stored.Entry
  new_entry = record { stored = index_record index key (glob.section_size a.pair.values sec) n; value = value }

  -- the lists with it
  abbrev pub wanted : ℕ → List stored.Entry
  wanted s = list_of a.pair d s ++ (if s == sec then new_entry ∷ [] else [])

  pub wanted_here : wanted sec ≡ list_of a.pair d sec ++ new_entry ∷ []
  wanted_here =
      let same : (sec == sec) ≡ true = grind (arith, nat_tests) in
      ap (λ (b : Bool). list_of a.pair d sec ++ (if b then new_entry ∷ [] else [])) same

  pub wanted_other : (s : ℕ) → s ≢ sec → wanted s ≡ list_of a.pair d s
  wanted_other s other =
      let differs : (s == sec) ≡ false = grind (arith, nat_tests, other) in
      ap (λ (b : Bool). list_of a.pair d s ++ (if b then new_entry ∷ [] else [])) differs ∙ append-nil (list_of a.pair d s)

  abbrev pub filed_entry : Entry (List ℕ)
  filed_entry = record { index = index; key = key; value = value }

  -- What is asked of the record: its put is not skipped.
  pub record IsFree (times : Times) : Type 0 where
    pub small : index < 2 ^ 64
    pub sized : length key ≡ a.key_size
    pub free : is_skipped a index times ≡ false
    pub accepted : a.refusal value ≡ None
    pub some : 4 ≤ n
    pub place : a.pair.layout.place (index_record index key (glob.section_size a.pair.values sec) n) ≡ (glob.section_size a.pair.values sec, n)

  module _ (times : Times) (asked : IsFree times) where
    filed_new : filed (filing_of a) new_entry ≡ filed_entry
    filed_new =
        let i : index_of new_entry.stored ≡ index = index_of-index_record index key (glob.section_size a.pair.values sec) n asked.small in
        let k : key_of a.key_size new_entry.stored ≡ key = key_of-index_record a.key_size index key (glob.section_size a.pair.values sec) n asked.sized in
        λ j. record { index = i j; key = k j; value = value }

    -- filed, the lists with it are those that a put leaves
    filed_here : map (filed (filing_of a)) (wanted sec) ≡ map (filed (filing_of a)) (list_of a.pair d sec) ++ filed_entry ∷ []
    filed_here =
        ap (map (filed (filing_of a))) wanted_here ∙ map-append (filed (filing_of a)) (list_of a.pair d sec) (new_entry ∷ [])
        ∙ ap (λ (x : Entry (List ℕ)). map (filed (filing_of a)) (list_of a.pair d sec) ++ x ∷ []) filed_new

    pub lists_appended : (s : ℕ) → map (filed (filing_of a)) (wanted s) ≡ (appended a.items index key value (state_of a d)).lists s
    lists_appended s = elim (other_or_same sec s) [
      | inl same ↦
          let is : (s == section_of a.items index) ≡ true = grind (arith, nat_tests, same, here) in
          ap (λ (u : ℕ). map (filed (filing_of a)) (wanted u)) same ∙ filed_here ∙ ap (λ (u : ℕ). map (filed (filing_of a)) (list_of a.pair d u) ++ filed_entry ∷ []) (sym same)
          ∙ ap (λ (b : Bool). if b then map (filed (filing_of a)) (list_of a.pair d s) ++ filed_entry ∷ [] else map (filed (filing_of a)) (list_of a.pair d s)) (sym is)
      | inr other ↦
          let is : (s == section_of a.items index) ≡ false = grind (arith, nat_tests, other, here) in
          ap (map (filed (filing_of a))) (wanted_other s other)
          ∙ ap (λ (b : Bool). if b then map (filed (filing_of a)) (list_of a.pair d s) ++ filed_entry ∷ [] else map (filed (filing_of a)) (list_of a.pair d s)) (sym is)
    ]

    module _ {bs : Buffers F (PageBlob S gs)} {told : Type 0} {opened : _} (archive : IsArchive a bs told opened d) (t : told) (sound : IsSoundArchive a d) where
      -- the put appends
      pub put_is : after_putting times a.items index key value (state_of a d) ≡ appended a.items index key value (state_of a d)
      put_is = put_appends a d index key value (archive.listed t) times asked.free

      pub lists_put : (s : ℕ) → map (filed (filing_of a)) (wanted s) ≡ (after_putting times a.items index key value (state_of a d)).lists s
      lists_put s = lists_appended s ∙ ap (λ (st : State (List ℕ)). st.lists s) (sym put_is)

      abbrev ends : ℕ → ℕ
      ends s = glob.section_size a.pair.values s + (if s == sec then n else 0)

      ends_here : ends sec ≡ glob.section_size a.pair.values sec + n
      ends_here =
          let same : (sec == sec) ≡ true = grind (arith, nat_tests) in
          ap (λ (b : Bool). glob.section_size a.pair.values sec + (if b then n else 0)) same

      ends_other : (s : ℕ) → s ≢ sec → ends s ≡ glob.section_size a.pair.values s
      ends_other s other =
          let differs : (s == sec) ≡ false = grind (arith, nat_tests, other) in
          let is : ends s ≡ glob.section_size a.pair.values s + 0 = ap (λ (b : Bool). glob.section_size a.pair.values s + (if b then n else 0)) differs in
          omega (arith, is)

      follow_here : Follow a.pair.layout.place 0 (map (λ e. e.stored) (wanted sec)) (ends sec)
      follow_here =
          let place = a.pair.layout.place in
          let r : List ℕ = new_entry.stored in
          let long : (place r).1 ≡ n = ap (λ (x : ℕ × ℕ). x.1) asked.place in
          let all : map (λ e. e.stored) (wanted sec) ≡ records_of a.pair d sec ++ r ∷ [] =
          ap (map (λ (e : stored.Entry). e.stored)) wanted_here ∙ map-append (λ (e : stored.Entry). e.stored) (list_of a.pair d sec) (new_entry ∷ []) ∙ ap (λ (rs : List (List ℕ)). rs ++ r ∷ []) (list_records a d sec) in
          let end : glob.section_size a.pair.values sec + (place r).1 ≡ ends sec = ap (λ (k : ℕ). glob.section_size a.pair.values sec + k) long ∙ sym ends_here in
          let pushed : Follow place 0 (records_of a.pair d sec ++ r ∷ []) (glob.section_size a.pair.values sec + (place r).1) =
          follow-push place 0 (records_of a.pair d sec) r (glob.section_size a.pair.values sec) (sound.pair.sound.places sec) (ap (λ (x : ℕ × ℕ). x.0) asked.place) (omega (arith, asked.some, long)) in
          subst (λ (rs : List (List ℕ)). Follow place 0 rs (ends sec)) (sym all) (subst (λ (k : ℕ). Follow place 0 (records_of a.pair d sec ++ r ∷ []) k) end pushed)

      -- the limits of lists are those of rows
      room_lists : HasRoom a.most_sections a.most_records a.rows sec
          → ((list_of a.pair d sec ≢ []) × (length (list_of a.pair d sec) < a.most_records))
          ⊎ ((list_of a.pair d sec ≡ []) × ((ss : List ℕ) → IsStrictlySortedBy nat_cmp ss → AllByRecursion (λ s. list_of a.pair d s ≢ []) ss → length ss < a.most_sections))
      room_lists room = elim room [
        | inl held ↦ inl ((λ none. held.0 (no_rows none)), omega (arith, held.1, length_rows a d (archive.listed t) sec))
        | inr first ↦ inr (no_list a d (archive.listed t) sec first.0, λ ss up all. first.1 ss up (all_by (λ s. list_of a.pair d s ≢ []) (λ s. a.rows s ≢ []) (λ s has none. has (no_list a d (archive.listed t) s none)) ss all))
      ]
        where
          empty : {X : Type 0} (xs : List X) → length xs ≡ 0 → xs ≡ []
          empty [] is = refl
          empty (x ∷ xs) is = absurd (omega (arith, is))

          no_rows : list_of a.pair d sec ≡ [] → a.rows sec ≡ []
          no_rows none = empty (a.rows sec) (length_rows a d (archive.listed t) sec ∙ ap length none)

      -- the lists with the record are filed as a lawful image asks
      pub wanted_filed : HasRoom a.most_sections a.most_records a.rows sec → 1 ≤ a.most_records → glob.section_size a.pair.values sec + n < 2 ^ 64 → AreFiled (filing_of a) wanted
      wanted_filed room one fits =
          let old : AreFiled (filing_of a) (list_of a.pair d) = are_filed a d archive t sound in
          record {
            in_section = λ s small. elim (other_or_same sec s) [
              | inl same ↦ subst (λ (u : ℕ). AllByRecursion (λ e. section_of a.items (index_of e.stored) ≡ u) (wanted u)) (sym same)
                  (subst (AllByRecursion (λ e. section_of a.items (index_of e.stored) ≡ sec)) (sym wanted_here)
                  (all_push (λ e. section_of a.items (index_of e.stored) ≡ sec) (list_of a.pair d sec) new_entry (in_section a d (archive.listed t) sec (archive.within.in_section sec))
                  (ap (section_of a.items) (index_of-index_record index key (glob.section_size a.pair.values sec) n asked.small) ∙ sym here)))
              | inr other ↦ subst (AllByRecursion (λ e. section_of a.items (index_of e.stored) ≡ s)) (sym (wanted_other s other)) (old.in_section s small)
            ];
            decoded = λ s small. elim (other_or_same sec s) [
              | inl same ↦ subst (λ (u : ℕ). AllByRecursion (λ e. a.refusal e.value ≡ None) (wanted u)) (sym same)
                  (subst (AllByRecursion (λ e. a.refusal e.value ≡ None)) (sym wanted_here) (all_push (λ e. a.refusal e.value ≡ None) (list_of a.pair d sec) new_entry (sound.decoded sec) asked.accepted))
              | inr other ↦ subst (AllByRecursion (λ e. a.refusal e.value ≡ None)) (sym (wanted_other s other)) (sound.decoded s)
            ];
            end = ends;
            fits = λ s small. elim (other_or_same sec s) [
              | inl same ↦ subst (λ (u : ℕ). ends u < 2 ^ 64) (sym same) (omega (arith, ends_here, fits))
              | inr other ↦ omega (arith, ends_other s other, sound.counted s)
            ];
            follow = λ s small. elim (other_or_same sec s) [
              | inl same ↦ subst (λ (u : ℕ). Follow a.pair.layout.place 0 (map (λ e. e.stored) (wanted u)) (ends u)) (sym same) follow_here
              | inr other ↦ subst (λ (xs : List stored.Entry). Follow a.pair.layout.place 0 (map (λ e. e.stored) xs) (ends s)) (sym (wanted_other s other))
                  (subst (λ (rs : List (List ℕ)). Follow a.pair.layout.place 0 rs (ends s)) (sym (list_records a d s)) (subst (λ (k : ℕ). Follow a.pair.layout.place 0 (records_of a.pair d s) k) (sym (ends_other s other)) (sound.pair.sound.places s)))
            ];
            few_sections = few_sections_now a.most_sections a.most_records (list_of a.pair d) wanted sec new_entry wanted_here wanted_other one (λ s. s < 2 ^ 64) (room_lists room) old.few_sections;
            few_records = λ s small. few_now a.most_sections a.most_records (list_of a.pair d) wanted sec new_entry wanted_here wanted_other one (room_lists room)
                (λ u. omega (arith, length_rows a d (archive.listed t) u, archive.within.few_records u)) s;
          }

      -- At a moment at which each crash leaves of the pair's lists a prefix, the record included, it leaves what stands for the state with the put under way.
      pub stands_put : AreFiled (filing_of a) wanted → sec < 2 ^ 64 → (m : Disk)
          → LeavesAlone a.pair.layout wanted (synced_length a.pair) (λ _. ⊥) (λ q. IsIndexOf a.pair.layout (λ s. s ≡ sec) q ⊎ IsValuesOf a.pair.layout (λ s. s ≡ sec) q) d m
          → Leaves (filing_of a) (state_of a d) (Some (put_command times index key value)) m
      stands_put files small m left image crash no_chance =
          let none = no_foreign a.pair.layout archive.pair.apart (λ s. s ≡ sec) d m
          (λ q other. left.others q (λ own. other (elim own [ inl i ↦ inl i | inr v ↦ inr (inl v) ]))) sound.names in
          keeps_stand (filing_of a) wanted (synced_length a.pair) image files (names_left a.pair.layout m none image crash) (left.leaves image crash no_chance)
          (state_of a d) (Some (put_command times index key value)) (λ s below. submits_by times a.items index key value (state_of a d) s ∙ sym (lists_put s)) (λ s below. omega arith)

-- a section's values have room for n bytes more, or pass 2^64 with them
pub full_or_room : (held : Option WriteBlob) (n : ℕ) → n < 2 ^ 64 → IsSomeAnd held (λ v. 2 ^ 64 ≤ count_of v + n) ⊎ (glob.size_held held + n < 2 ^ 64)
full_or_room None n small = inr (omega (arith, small))
full_or_room (Some v) n small = elim (cases_lt (count_of v + n) (2 ^ 64)) [
  | inl lt ↦ inr lt
  | inr le ↦ inl le
]

module _ {F S : Type 0} {gs : _} (a : Archive F (PageBlob S gs)) (index sec : ℕ) (here : sec ≡ section_of a.items index) (key value : List ℕ) (n : ℕ) (times : Times) {Dev : Type 0} (time : Dev → Timeline) (before now : Dev)
    (rest : Leaves (filing_of a) (state_of a (disk (time before))) None (disk (time before))) where
  abbrev Under : Disk → Type 0
  Under = Leaves (filing_of a) (state_of a (disk (time before))) (Some (put_command times index key value))

  -- where nothing was done
  pub put_unmoved : now ≡ before → Always (time before) (time now) Under
  put_unmoved same =
      let st = state_of a (disk (time before)) in
      let adds : (s : ℕ) → (more : List (Entry (List ℕ))) × (submitted a.items st (Some (put_command times index key value)) s ≡ submitted a.items st None s ++ more) =
      λ s. (let more = put_adds times a.items index key value st s in (more.0, submits_by times a.items index key value st s ∙ more.1)) in
      let more = leaves_more (filing_of a) st (put_command times index key value) adds (disk (time before)) rest in
      subst (λ (x : Dev). Always (time before) (time x) Under) (sym same) (always_start (time before) Under more)

  -- At every moment each crash leaves what stands for the state with the put under way: where the record or its value had no room nothing was done.
  pub put_moments : {bs : Buffers F (PageBlob S gs)} {told : Type 0} {opened : _} → IsArchive a bs told opened (disk (time before)) → told → IsSoundArchive a (disk (time before))
      → (n ≤ 2 ^ 32 - 1 → IsFree a index sec here key value n (disk (time before)) times) → HasRoom a.most_sections a.most_records a.rows sec → 1 ≤ a.most_records → sec < 2 ^ 64
      → (2 ^ 32 - 1 < n → now ≡ before) → (n ≤ 2 ^ 32 - 1 → IsSomeAnd (a.pair.values.held sec) (λ v. 2 ^ 64 ≤ count_of v + n) → now ≡ before)
      → Keeping a.pair.layout (wanted a index sec here key value n (disk (time before))) (synced_length a.pair) (λ _. ⊥) (λ q. IsIndexOf a.pair.layout (λ s. s ≡ sec) q ⊎ IsValuesOf a.pair.layout (λ s. s ≡ sec) q) (time before) (time now)
      → Always (time before) (time now) Under
  put_moments archive t sound asked room one small large over keeping = elim (cases_lt (2 ^ 32 - 1) n) [
    | inl lt ↦ put_unmoved (large lt)
    | inr le ↦ elim (full_or_room (a.pair.values.held sec) n (omega (arith, le))) [
      | inl full ↦ put_unmoved (over le full)
      | inr fits ↦
          let free = asked le in
          let d : Disk = disk (time before) in
          let files = wanted_filed a index sec here key value n d times free archive t sound room one fits in
          always_weaker (time before) (time now) (LeavesAlone a.pair.layout (wanted a index sec here key value n d) (synced_length a.pair) (λ _. ⊥) (λ q. IsIndexOf a.pair.layout (λ s. s ≡ sec) q ⊎ IsValuesOf a.pair.layout (λ s. s ≡ sec) q) d) Under
          (stands_put a index sec here key value n d times free archive t sound files small) keeping
    ]
  ]
