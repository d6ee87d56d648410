-- What opening the sections of a partition, one after another, makes of the manager.
use Rattle.std.specs.Prelude.{◌≡◌, ◌≢◌, ◌⊎◌, ◌↔◌, ℕ, ◌+◌, ◌-◌, ◌^◌, ◌<◌, ◌≤◌, false, List, length, map, IsTrue, Option, Some, None, IsSome, Result, Ok, Err, IfOk, OnErr}
use Rattle.std.specs.List.{Contains}
use Rattle.std.specs.Option.{is_some}
use Rattle.std.specs.Int.{w64, to_be_bytes}
use Rattle.std.proofs.Common.{inl, inr, refl, sym, ◌∙◌, ap, subst, get_or, arith}
use Rattle.std.proofs.lemmas.Bool.{cases_lt, cases_eq}
use Rattle.std.proofs.lemmas.List.Elements.{Contains-get_or}
use Rattle.blob_device.specs.Disk.{Key, Blob, Disk, AreNamesIn}
use Rattle.blob_device.specs.Opened.{OpenedList}
use Rattle.blob_device.specs.Timeline.{Timeline, disk, Always, OnlyAt, Each}
use Rattle.blob_device.specs.lemmas.Moments.{always_now}
use Rattle.section_manager.specs.declared.buffer.SectionBuffer as buffer
use Rattle.section_manager.specs.declared.journal.Error.{Error}
use Rattle.section_manager.specs.declared.unopened.Unopened.{Unopened}
use Rattle.section_manager.specs.declared.unopened.Unopened.TheVariants.{Section, Leftover}
use Rattle.section_manager.specs.Setting.{Setting}
use Rattle.section_manager.specs.Leaving.{AllMoments}
use Rattle.section_manager.specs.Entries.{OnlyOwnEntry, StartsNoRead}
use Rattle.section_manager.specs.Lasting.{IsOpening, IsSettling}
use Rattle.section_manager.specs.Refusing.{HasFailed, IsForeign}
use Rattle.section_manager.specs.Sections.{Sections, section_key, key_of, IsHeld, IsKnown, IsSame, SameBounds, IsOver}
use Rattle.section_manager.specs.lemmas.Keys.{keys_differ}
use Rattle.section_manager.proofs.NumberLemmas.{has_name, name_size, names_number}
use Rattle.section_manager.specs.lemmas.sections.Over.{same_key}
use Rattle.blob_device.proofs.general.Lists.{contains_or_not}
use Rattle.blob_device.proofs.general.Results.{err_with}
use Rattle.blob_device.proofs.general.Options.{none_or_value}
use Rattle.section_manager.specs.lemmas.Init.{settling_content, settling_start, settling_then}

module _ {F B : Type 0} where
  same_then : (a b c : Sections F B) (s : ℕ) → IsSame a b s → IsSame b c s → IsSame a c s
  same_then a b c s first second = record { held = second.held ∙ first.held; unopened = second.unopened ∙ first.unopened }

  bounds_then : (a b c : Sections F B) → SameBounds a b → SameBounds b c → SameBounds a c
  bounds_then a b c first second = record {
    place = record { partition = second.place.partition ∙ first.place.partition; factory = second.place.factory ∙ first.place.factory };
    floor = second.floor ∙ first.floor;
    ceiling = second.ceiling ∙ first.ceiling;
  }

module _ {F B : Type 0} (g : buffer.Ghosts B) (gives : F → Setting) (told : Type 0) where
  -- What a call that opens the section s does to the device, whatever it answers.
  pub record Touches (s : ℕ) (m : Sections F B) (old new : Timeline) (before after : OpenedList) : Type 0 where
    pub passed : m.ceiling < s → (new ≡ old) × (after ≡ before)
    pub untouched : IsHeld m s → new ≡ old
    pub moments : told → AllMoments (key_of m s) (IsOpening (disk old (key_of m s))) old new
    pub entries : OnlyOwnEntry (key_of m s) before after
    pub reads : (g.StartsReads → ⊥) → StartsNoRead before after

  -- What it makes of the manager m, where it succeeds.
  pub record Opens (s : ℕ) (m n : Sections F B) (new : Timeline) (after : OpenedList) : Type 0 where
    pub over : IsOver g gives told n after (disk new)
    pub held : s ≤ m.ceiling → IsHeld n s
    pub same : (u : B) → m.held s ≡ Some u → n.held s ≡ Some u
    pub bytes : told → m.held s ≡ None → (u : B) → n.held s ≡ Some u → g.bytes u (disk new (key_of m s)).content ≡ g.holds (gives m.factory) (disk new (key_of m s)).content
    pub idle : m.held s ≡ None → (u : B) → n.held s ≡ Some u → g.unsettled u ≡ false
    pub above : m.ceiling < s → IsSame m n s
    pub others : (q : ℕ) → q ≢ s → IsSame m n q
    pub bounds : SameBounds m n

  pub touches_by : {D : Type 0} (time : D → Timeline) (list : D → OpenedList) (s : ℕ) (m : Sections F B) (dev new : D) → (m.ceiling < s → new ≡ dev) → (IsHeld m s → new ≡ dev)
      → (told → AllMoments (key_of m s) (IsOpening (disk (time dev) (key_of m s))) (time dev) (time new)) → OnlyOwnEntry (key_of m s) (list dev) (list new)
      → ((g.StartsReads → ⊥) → StartsNoRead (list dev) (list new)) → Touches s m (time dev) (time new) (list dev) (list new)
  touches_by time list s m dev new passed untouched moments entries reads = record {
    passed = λ above. (ap time (passed above), ap list (passed above));
    untouched = λ held. ap time (untouched held);
    moments = moments;
    entries = entries;
    reads = reads;
  }

  module _ (numbers : List ℕ) (start : Sections F B) (first : Timeline) (list : OpenedList) where
    -- What calls for sections up to the ceiling did to the device.
    pub record Touched (now : Timeline) (opened : OpenedList) : Type 0 where
      pub moments : told → Always first now (Each (IsSettling start.partition start.ceiling (disk first)))
      pub entries : (q : Key) → ((s : ℕ) → s ≤ start.ceiling → q ≢ key_of start s) → opened q ≡ list q
      pub reads : (g.StartsReads → ⊥) → StartsNoRead list opened

    -- Of the first i numbers, those up to the ceiling are held; the other sections are as at the start.
    pub record OpenedFirst (i : ℕ) (m : Sections F B) (now : Timeline) (opened : OpenedList) : Type 0 where
      pub over : IsOver g gives told m opened (disk now)
      pub bounds : SameBounds start m
      pub held : (k : ℕ) → k < i → get_or numbers k 0 ≤ start.ceiling → IsHeld m (get_or numbers k 0)
      pub passed : (s : ℕ) → (Contains numbers s × (s ≤ start.ceiling) → ⊥) → IsSame start m s
      pub bytes : told → (s : ℕ) (u : B) → m.held s ≡ Some u → g.bytes u (disk now (key_of start s)).content ≡ g.holds (gives start.factory) (disk first (key_of start s)).content
      pub idle : (s : ℕ) (u : B) → m.held s ≡ Some u → g.unsettled u ≡ false

    pub touched_none : Touched first list
    touched_none = record {
      moments = λ t. settling_start start.partition start.ceiling first;
      entries = λ q other. refl;
      reads = λ none q. omega arith;
    }

    pub opened_none : IsOver g gives told start list (disk first) → ((s : ℕ) → start.held s ≡ None) → OpenedFirst 0 start first list
    opened_none over fresh = record {
      over = over;
      bounds = record { place = record { partition = refl; factory = refl }; floor = refl; ceiling = refl };
      held = λ k lt. absurd (omega (arith, lt));
      passed = λ s other. record { held = refl; unopened = refl };
      bytes = λ t s u held. absurd (cc (held, fresh s));
      idle = λ s u held. absurd (cc (held, fresh s));
    }

    module _ (i s : ℕ) (m : Sections F B) (old new : Timeline) (before after : OpenedList) (done : OpenedFirst i m old before) (touches : Touches s m old new before after) where
      own_key : key_of m s ≡ key_of start s
      own_key = same_key start m done.bounds s

      -- one call more
      pub touched_more : Contains numbers s → (told → (q : ℕ) → Contains numbers q → IsTrue (disk first (key_of start q)).there) → Touched old before → Touched new after
      touched_more listed there touched = record {
        moments = λ t. elim (cases_lt m.ceiling s) [
          | inl above ↦ subst (λ (x : Timeline). Always first x (Each (IsSettling start.partition start.ceiling (disk first)))) (sym (touches.passed above).0) (touched.moments t)
          | inr within ↦ settling_then start.partition start.ceiling s first old new (omega (arith, within, done.bounds.ceiling)) (there t s listed) (touched.moments t)
              (subst (λ (k : Key). AllMoments k (IsOpening (disk old k)) old new) own_key (touches.moments t))
        ];
        entries = λ q other. elim (cases_lt m.ceiling s) [
          | inl above ↦ ap (λ (o : OpenedList). o q) (touches.passed above).1 ∙ touched.entries q other
          | inr within ↦ touches.entries q (λ is. other s (omega (arith, within, done.bounds.ceiling)) (is ∙ own_key)) ∙ touched.entries q other
        ];
        reads = λ none q. omega (arith, touches.reads none q, touched.reads none q);
      }

      module _ (n : Sections F B) (opens : Opens s m n new after) (small : s < 2 ^ 64) (turn : get_or numbers i 0 ≡ s) (lt : i < length numbers) where
        holds_still : (q : ℕ) → IsHeld m q → IsHeld n q
        holds_still q held = elim (cases_eq q s) [
          | inl is ↦ elim (none_or_value (m.held s)) [
            | inl none ↦ absurd (cc (ap m.held is, none, held))
            | inr some ↦ subst (IsHeld n) (sym is) (ap is_some (opens.same some.0 some.1))
          ]
          | inr other ↦ subst IsSome (sym (opens.others q other).held) held
        ]

        held_more : (k : ℕ) → k < i + 1 → get_or numbers k 0 ≤ start.ceiling → IsHeld n (get_or numbers k 0)
        held_more k below le = elim (cases_lt k i) [
          | inl before ↦ holds_still (get_or numbers k 0) (done.held k before le)
          | inr last ↦
              let here : get_or numbers k 0 ≡ s = (let at : k ≡ i = omega (arith, below, last) in ap (λ (j : ℕ). get_or numbers j 0) at ∙ turn) in
              subst (IsHeld n) (sym here) (opens.held (omega (arith, le, here, done.bounds.ceiling)))
        ]

        passed_more : (q : ℕ) → (Contains numbers q × (q ≤ start.ceiling) → ⊥) → IsSame start n q
        passed_more q other = elim (cases_eq q s) [
          | inl is ↦ elim (cases_lt m.ceiling s) [
            | inl above ↦ subst (IsSame start n) (sym is) (same_then start m n s (done.passed s (subst (λ (p : ℕ). Contains numbers p × (p ≤ start.ceiling) → ⊥) is other)) (opens.above above))
            | inr within ↦ absurd (other (subst (Contains numbers) (turn ∙ sym is) (Contains-get_or numbers i 0 lt), omega (arith, is, within, done.bounds.ceiling)))
          ]
          | inr apart ↦ same_then start m n q (done.passed q other) (opens.others q apart)
        ]

        -- a section that was opened before
        bytes_before : told → Touched new after → (q : ℕ) (u : B) → m.held q ≡ Some u → disk new (key_of start q) ≡ disk old (key_of start q)
            → g.bytes u (disk new (key_of start q)).content ≡ g.holds (gives start.factory) (disk first (key_of start q)).content
        bytes_before t touched q u held same = ap (λ (b : Blob). g.bytes u b.content) same ∙ done.bytes t q u held

        bytes_more : told → Touched new after → (q : ℕ) (u : B) → n.held q ≡ Some u → g.bytes u (disk new (key_of start q)).content ≡ g.holds (gives start.factory) (disk first (key_of start q)).content
        bytes_more t touched q u held = elim (cases_eq q s) [
          | inl is ↦ elim (none_or_value (m.held s)) [
            | inl none ↦ subst (λ (p : ℕ). g.bytes u (disk new (key_of start p)).content ≡ g.holds (gives start.factory) (disk first (key_of start p)).content) (sym is) (
                subst (λ (k : Key). g.bytes u (disk new k).content ≡ g.holds (gives m.factory) (disk new k).content) own_key (opens.bytes t none u (sym (ap n.held is) ∙ held))
                ∙ ap (λ (f : F). g.holds (gives f) (disk new (key_of start s)).content) done.bounds.place.factory
                ∙ ap (g.holds (gives start.factory)) (settling_content start.partition start.ceiling (disk first) (key_of start s) (disk new (key_of start s))
                (always_now first new (Each (IsSettling start.partition start.ceiling (disk first))) (touched.moments t) (key_of start s)))
                )
            | inr some ↦ bytes_before t touched q u (ap m.held is ∙ some.1 ∙ sym (opens.same some.0 some.1) ∙ sym (ap n.held is) ∙ held)
                (ap (λ (x : Timeline). disk x (key_of start q)) (touches.untouched (ap is_some some.1)))
          ]
          | inr other ↦
              let was : m.held q ≡ Some u = sym (opens.others q other).held ∙ held in
              bytes_before t touched q u was (ap (λ (k : Key). disk new k) (sym (same_key start m done.bounds q))
              ∙ (always_now old new (OnlyAt (key_of m s) (disk old) (IsOpening (disk old (key_of m s)))) (touches.moments t)).others (key_of m q)
              (keys_differ m.partition q s (done.over.opened_list.number q (inl (ap is_some was))) small other)
              ∙ ap (λ (k : Key). disk old k) (same_key start m done.bounds q))
        ]

        idle_more : (q : ℕ) (u : B) → n.held q ≡ Some u → g.unsettled u ≡ false
        idle_more q u held = elim (cases_eq q s) [
          | inl is ↦ elim (none_or_value (m.held s)) [
            | inl none ↦ opens.idle none u (sym (ap n.held is) ∙ held)
            | inr some ↦ done.idle s u (some.1 ∙ sym (opens.same some.0 some.1) ∙ sym (ap n.held is) ∙ held)
          ]
          | inr other ↦ done.idle q u (sym (opens.others q other).held ∙ held)
        ]

        -- one section more
        pub opened_more : Touched new after → OpenedFirst (i + 1) n new after
        opened_more touched = record {
          over = opens.over;
          bounds = bounds_then start m n done.bounds opens.bounds;
          held = held_more;
          passed = passed_more;
          bytes = λ t. bytes_more t touched;
          idle = idle_more;
        }

-- a manager that knows the sections of these numbers, and has opened none
pub record Found {F B : Type 0} (numbers : List ℕ) (m : Sections F B) : Type 0 where
  pub fresh : (s : ℕ) → m.held s ≡ None
  pub known : (s : ℕ) → Contains numbers s → m.unopened s ≡ Some Section
  pub others : (s : ℕ) → (Contains numbers s → ⊥) → m.unopened s ≡ None

found_listed : {F B : Type 0} (numbers : List ℕ) (m : Sections F B) (found : Found numbers m) (s : ℕ) → IsKnown m s → Contains numbers s
found_listed numbers m found s known = elim (contains_or_not numbers s) [
  | inl listed ↦ listed
  | inr none ↦ elim known [
    | inl held ↦ absurd (cc (ap is_some (found.fresh s), held))
    | inr unopened ↦ absurd (cc (ap is_some (found.others s none), unopened))
  ]
]

-- The numbers that the names of a partition's blobs spell.
module _ (numbers : List ℕ) (names : List (List ℕ)) (spelled : map (to_be_bytes w64) numbers ≡ names) (d : Disk) (partition : List ℕ) (are : AreNamesIn d partition names) where
  pub listed_there : (s : ℕ) → Contains numbers s → IsTrue (d (section_key partition s)).there
  listed_there s listed = (are.each (to_be_bytes w64 s)).0 (has_name numbers names spelled s listed)

  pub there_listed : ((n : ℕ) → Contains numbers n → n < 2 ^ 64) → (s : ℕ) → s < 2 ^ 64 → IsTrue (d (section_key partition s)).there → Contains numbers s
  there_listed small s s_small there = names_number numbers names spelled small s s_small ((are.each (to_be_bytes w64 s)).1 there)

  pub none_foreign : (name : List ℕ) → IsForeign d partition name → ⊥
  none_foreign name foreign = foreign.size (name_size numbers names spelled name ((are.each name).1 foreign.there))

module _ {F B : Type 0} (g : buffer.Ghosts B) (gives : F → Setting) (told : Type 0) (numbers : List ℕ) (m : Sections F B) (found : Found numbers m) where
  pub found_over : (opened : OpenedList) (d : Disk) → m.floor ≡ 0 → ((n : ℕ) → Contains numbers n → n < 2 ^ 64)
      → (told → (s : ℕ) → s < 2 ^ 64 → IsTrue (d (key_of m s)).there → Contains numbers s) → IsOver g gives told m opened d
  found_over opened d floor small there = record {
    opened_list = record {
      key = λ s u held. absurd (cc (held, found.fresh s));
      setting = λ s u held. absurd (cc (held, found.fresh s));
      is_open = λ s u held. absurd (cc (held, found.fresh s));
      to_ceiling = λ s held. absurd (cc (ap is_some (found.fresh s), held));
      apart = λ s held. absurd (cc (ap is_some (found.fresh s), held));
      from_floor = λ s known. omega (arith, floor);
      number = λ s known. small s (found_listed numbers m found s known);
    };
    disk = λ t. record {
      stands = λ s u held. absurd (cc (held, found.fresh s));
      whose = λ s s_small is. inr (ap is_some (found.known s (there t s s_small is)));
    };
  }

module _ {F B : Type 0} (numbers : List ℕ) (m : Sections F B) (found : Found numbers m) where
  -- What opening each of them up to the ceiling made of the manager.
  pub record Opened (n : Sections F B) : Type 0 where
    pub held : (s : ℕ) → Contains numbers s → s ≤ m.ceiling → IsHeld n s
    pub passed : (s : ℕ) → (Contains numbers s × (s ≤ m.ceiling) → ⊥) → IsSame m n s
    pub apart : (s : ℕ) → IsHeld n s → n.unopened s ≡ None

  module _ (n : Sections F B) (opened : Opened n) where
    wanted_or_not : (s : ℕ) → (Contains numbers s × (s ≤ m.ceiling)) ⊎ (Contains numbers s × (s ≤ m.ceiling) → ⊥)
    wanted_or_not s = elim (contains_or_not numbers s) [
      | inl listed ↦ elim (cases_lt m.ceiling s) [
        | inl above ↦ inr (λ both. omega (arith, above, both.1))
        | inr within ↦ inl (listed, within)
      ]
      | inr none ↦ inr (λ both. none both.0)
    ]

    pub held_wanted : (s : ℕ) → IsHeld n s → Contains numbers s × (s ≤ m.ceiling)
    held_wanted s held = elim (wanted_or_not s) [
      | inl wanted ↦ wanted
      | inr passed ↦ absurd (cc (ap is_some ((opened.passed s passed).held ∙ found.fresh s), held))
    ]

    pub unopened_above : (s : ℕ) → IsSome (n.unopened s) → Contains numbers s × (m.ceiling < s) × (n.unopened s ≡ Some Section)
    unopened_above s unopened = elim (contains_or_not numbers s) [
      | inl listed ↦ elim (cases_lt m.ceiling s) [
        | inl above ↦ (listed, above, (opened.passed s (λ both. omega (arith, above, both.1))).unopened ∙ found.known s listed)
        | inr within ↦ absurd (cc (ap is_some (opened.apart s (opened.held s listed within)), unopened))
      ]
      | inr none ↦ absurd (cc (ap is_some ((opened.passed s (λ both. none both.0)).unopened ∙ found.others s none), unopened))
    ]

    pub above_unopened : (s : ℕ) → Contains numbers s → m.ceiling < s → n.unopened s ≡ Some Section
    above_unopened s listed above = (opened.passed s (λ both. omega (arith, above, both.1))).unopened ∙ found.known s listed

module _ {F B : Type 0} (numbers slice : List ℕ) (same : slice ≡ numbers) (m : Sections F B) where
  listed_as : (s : ℕ) → Contains numbers s → Contains slice s
  listed_as s = subst (λ (l : List ℕ). Contains l s) (sym same)

  as_listed : (s : ℕ) → Contains slice s → Contains numbers s
  as_listed s = subst (λ (l : List ℕ). Contains l s) same

  pub found_as : ((s : ℕ) → m.held s ≡ None) → ((s : ℕ) → Contains slice s → m.unopened s ≡ Some Section) → ((s : ℕ) → (Contains slice s → ⊥) → m.unopened s ≡ None) → Found numbers m
  found_as fresh known others = record {
    fresh = fresh;
    known = λ s listed. known s (listed_as s listed);
    others = λ s none. others s (λ listed. none (as_listed s listed));
  }

  pub opened_as : {T E : Type 0} (g : buffer.Ghosts B) (gives : F → Setting) (told : Type 0) (found : Found numbers m) (opened : OpenedList) (d : Disk) (r : Result T E) (shows : T → Sections F B)
      → IfOk r (λ v. (s : ℕ) → Contains slice s → s ≤ m.ceiling → IsHeld (shows v) s) → IfOk r (λ v. (s : ℕ) → (Contains slice s × (s ≤ m.ceiling) → ⊥) → IsSame m (shows v) s)
      → IfOk r (λ v. IsOver g gives told (shows v) opened d) → IfOk r (λ v. Opened numbers m found (shows v))
  opened_as g gives told found opened d (Ok v) shows held passed over = record {
    held = λ s listed. held s (listed_as s listed);
    passed = λ s none. passed s (λ both. none (as_listed s both.0, both.1));
    apart = over.opened_list.apart;
  }
  opened_as g gives told found opened d (Err e) shows held passed over = tt

-- What an opening of the sections that names spell answers.
module _ {F B : Type 0} (numbers : List ℕ) (m : Sections F B) (found : Found numbers m) (n : Sections F B) (opened : Opened numbers m found n) where
  module _ (names : List (List ℕ)) (spelled : map (to_be_bytes w64) numbers ≡ names) (d : Disk) (partition : List ℕ) (are : AreNamesIn d partition names) (ceiling : ℕ) (bound : m.ceiling ≡ ceiling)
      (small : (k : ℕ) → Contains numbers k → k < 2 ^ 64) (s : ℕ) (s_small : s < 2 ^ 64) where
    pub held_exactly : IsHeld n s ↔ (IsTrue (d (section_key partition s)).there × (s ≤ ceiling))
    held_exactly = (
      λ held. let wanted = held_wanted numbers m found n opened s held in (listed_there numbers names spelled d partition are s wanted.0, omega (arith, wanted.1, bound)),
      λ both. opened.held s (there_listed numbers names spelled d partition are small s s_small both.0) (omega (arith, both.1, bound)),
    )

    pub unopened_exactly : (n.unopened s ≡ Some Section) ↔ (IsTrue (d (section_key partition s)).there × (ceiling < s))
    unopened_exactly = (
      λ unopened. let above = unopened_above numbers m found n opened s (ap is_some unopened) in (listed_there numbers names spelled d partition are s above.0, omega (arith, above.1, bound)),
      λ both. above_unopened numbers m found n opened s (there_listed numbers names spelled d partition are small s s_small both.0) (omega (arith, both.1, bound)),
    )

  pub none_leftover : (s : ℕ) → n.unopened s ≢ Some Leftover
  none_leftover s is = absurd (cc (is, (unopened_above numbers m found n opened s (ap is_some is)).2))

-- the same bytes, where the disk, the partition and the factory go by other names
pub bytes_as : {F B : Type 0} (g : buffer.Ghosts B) (gives : F → Setting) (m : Sections F B) (partition : List ℕ) (factory : F) (new e d : Disk) (s : ℕ) (u : B) → m.partition ≡ partition → m.factory ≡ factory → e ≡ d
    → g.bytes u (new (key_of m s)).content ≡ g.holds (gives m.factory) (e (key_of m s)).content → g.bytes u (new (section_key partition s)).content ≡ g.holds (gives factory) (d (section_key partition s)).content
bytes_as {F = F} g gives m partition factory new e d s u here made same is = subst (λ (p : List ℕ). g.bytes u (new (section_key p s)).content ≡ g.holds (gives factory) (d (section_key p s)).content) here
    (is ∙ ap (λ (f : F). g.holds (gives f) (e (key_of m s)).content) made ∙ ap (λ (x : Disk). g.holds (gives factory) (x (key_of m s)).content) same)

-- the refusal of a call, passed on
pub failed_since : {T U : Type 0} (r : Result T Error) (e : Error) (a b n : ℕ) → r ≡ Err e → a ≤ b → HasFailed {T = U} (Err e) b n → OnErr r (HasFailed r a n)
failed_since r e a b n is le cause = err_with r (elim cause [
  | inl none ↦ inl (cc (is, none))
  | inr fault ↦ inr (cc (is, fault.0), omega (arith, le, fault.1))
])

-- a section that is unopened is above the ceiling, so below the greatest ceiling there is none
pub none_unopened : {F B T E : Type 0} (g : buffer.Ghosts B) (gives : F → Setting) (told : Type 0) (There : ℕ → Type 0) (opened : OpenedList) (d : Disk) (r : Result T E) (shows : T → Sections F B)
    → IfOk r (λ v. IsOver g gives told (shows v) opened d) → IfOk r (λ v. (s : ℕ) → (shows v).unopened s ≢ Some Leftover)
    → IfOk r (λ v. (s : ℕ) → s < 2 ^ 64 → ((shows v).unopened s ≡ Some Section) ↔ (There s × (2 ^ 64 - 1 < s))) → IfOk r (λ v. (s : ℕ) → (shows v).unopened s ≡ None)
none_unopened {F = F} {B = B} g gives told There opened d (Ok v) shows over leftover above = λ s. go s (n.unopened s) refl
  where
    n : Sections F B
    n = shows v

    go : (s : ℕ) (o : Option Unopened) → n.unopened s ≡ o → n.unopened s ≡ None
    go s None is = is
    go s (Some Section) is =
        let small : s < 2 ^ 64 = over.opened_list.number s (inr (ap is_some is)) in
        absurd (omega (arith, small, ((above s small).0 is).1))
    go s (Some Leftover) is = absurd (leftover s is)
none_unopened g gives told There opened d (Err e) shows over leftover above = tt
