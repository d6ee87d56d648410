-- What the check of one section of a checkpoint adds to the check of those before it.
use Rattle.std.specs.Prelude.{◌≡◌, ◌≢◌, ◌⊎◌, ◌↔◌, ℕ, ◌+◌, ◌-◌, ◌*◌, ◌/◌, ◌%◌, ◌^◌, ◌<◌, ◌≤◌, eqb, cond, Bool, List, [], ◌∷◌, ◌++◌, length, Option, None, Some, Result, Ok, Err, IfOk, OnErr, IsTrue, IsSome, IsSomeAnd}
use Rattle.std.specs.Result.{IsErrOf}
use Rattle.std.specs.List.{Contains}
use Rattle.std.proofs.Common.{inl, inr, refl, sym, ◌∙◌, ap, subst, arith}
use Rattle.std.proofs.lemmas.Nat.{div-mul-add}
use Rattle.std.proofs.lemmas.List.Elements.{Contains-append_left, Contains-push, Contains-push_cases}
use Rattle.std.proofs.lemmas.Bool.{cases_Bool, cases_eq, cases_lt, eq-eqb, eqb-true}
use Rattle.blob_device.specs.Disk.{Key, Disk}
use Rattle.blob_device.specs.Opened.{OpenedList}
use Rattle.blob_device.specs.Timeline.{disk}
use Rattle.blob_device.specs.declared.device.Device as device
use Rattle.sealed_pages.specs.Reading.{Unchanged}
use Rattle.sealed_pages.specs.Reads.{IsCovered}
use Rattle.sealed_pages.specs.SealedPrefix.{sealed_prefix, adopted_size, data_from}
use Rattle.sealed_pages.specs.Shown.{shown}
use Rattle.sealed_pages.specs.Buffer.{size_of}
use Rattle.sealed_pages.specs.View.{view}
use Rattle.sealed_pages.specs.declared.page_blob.PageBlob.{PageBlob}
use Rattle.sealed_pages.specs.lemmas.looking.Looking.{unchanged_now, unchanged_start, unchanged_then}
use Rattle.sealed_pages.specs.lemmas.memory.Holding.{extent_more}
use Rattle.segments.specs.lemmas.adding.Write.{ArePages}
use Rattle.segments.specs.lemmas.held.Passing.{error_back, failed_on}
use Rattle.segments.specs.lemmas.replay.Reading.{failed_since}
use Rattle.value_codec.specs.declared.codec.Error as codec
use Rattle.section_manager.specs.Refusing.{HasFailed}
use Rattle.section_manager.specs.Sections.{Sections, section_key, key_of, IsHeld, IsOver}
use Rattle.section_manager.specs.Setting.{Setting}
use Rattle.section_manager.specs.declared.buffer.SectionBuffer as buffer
use Rattle.section_manager.specs.declared.journal.Damage.{Damage}
use Rattle.section_manager.specs.declared.journal.Error.{Error}
use Rattle.section_manager.specs.declared.journal.Error.TheVariants.{Codec, Corruption}
use Rattle.segments.specs.FixedCheckpoint.{boundary_at, IsUnder, IsCheckpointRefused, IsPassed, IsCheckpointItemRefused, IsShown, AreChecked, HasCome, Looks}
use Rattle.segments.specs.FixedChecks.{ChecksMarker}
use Rattle.segments.specs.declared.fixed.preflighting.Target.{Target}
use Rattle.segments.specs.FixedFloors as marks
use Rattle.segments.specs.FixedFloors.{Floors, IsBoundary, AreAdopted}
use Rattle.segments.specs.FixedLists.{section_size, size_held}
use Rattle.segments.proofs.opened.FloorLemmas.{whole_items}
use Rattle.blob_device.proofs.general.Options.{has_value, none_or_value, value_of}

-- n whole items have the bytes that they were counted by
pub whole_count : (n size : ℕ) → 1 ≤ size → n % size ≡ 0 → n / size * size ≡ n
whole_count n size pos is = omega (arith, pos, is)

-- by another name of the size
pub count_as : (n m size : ℕ) → m ≡ size → 1 ≤ size → n % size ≡ 0 → n / m * size ≡ n
count_as n m size is pos whole = ap (λ (k : ℕ). n / k * size) is ∙ whole_count n size pos whole

module _ (seal : List ℕ → ℕ) (P size : ℕ) (partition : List ℕ) (at bytes : ℕ) (d : Disk) where
  -- the checkpoint's own section ends where it says
  pub boundary_own : (s : ℕ) → s ≡ at → boundary_at seal P size partition at bytes d s ≡ bytes
  boundary_own s is = ap (λ (b : Bool). cond b bytes (adopted_size seal P (d (section_key partition s)).content)) (eq-eqb s at is)

  -- an earlier one where adopting its blob finds the end
  pub boundary_earlier : (s : ℕ) → s < at → boundary_at seal P size partition at bytes d s ≡ adopted_size seal P (d (section_key partition s)).content
  boundary_earlier s less = elim (cases_Bool (eqb s at)) [
    | inl is ↦ absurd (omega (arith, less, eqb-true s at is))
    | inr not ↦ ap (λ (b : Bool). cond b bytes (adopted_size seal P (d (section_key partition s)).content)) not
  ]

  module _ (s items : ℕ) (ends : boundary_at seal P size partition at bytes d s ≡ items * size) where
    -- the damage that the check of so many items finds
    pub damage_of : (x : Damage) → items * size < 2 ^ 64 → IsTrue (d (section_key partition s)).there ⊎ ((s ≡ at) × (0 < bytes))
        → marks.IsRefused seal P size (d (section_key partition s)) items x → IsCheckpointRefused seal P size partition at bytes d s x
    damage_of x fits own (inl many) = absurd (omega (arith, fits, many.many))
    damage_of x fits own (inr (inl missing)) = elim own [
      | inl there ↦ (let gone = missing.absent in absurd (cc (there, gone)))
      | inr some ↦ inr (inl (record {
        own = some.0;
        some = some.1;
        absent = missing.absent;
        kept = missing.kept;
        wanted = missing.wanted ∙ sym ends ∙ boundary_own s some.0;
      }))
    ]
    damage_of x fits own (inr (inr un)) = inr (inr (record {
      there = un.there;
      kept = un.kept;
      wanted = un.wanted ∙ sym ends;
      less = un.less;
    }))

    last_start : 0 < items → boundary_at seal P size partition at bytes d s - size ≡ (items - 1) * size
    last_start some = (let back : items - 1 + 1 ≡ items = omega (arith, some) in omega (arith, ends, ap (λ (m : ℕ). m * size) back))

    pub some_bytes : 1 ≤ size → 0 < items → 0 < boundary_at seal P size partition at bytes d s
    some_bytes pos some = (let back : items - 1 + 1 ≡ items = omega (arith, some) in omega (arith, pos, ends, ap (λ (m : ℕ). m * size) back))

    pub no_bytes : items ≡ 0 → boundary_at seal P size partition at bytes d s ≡ 0
    no_bytes none = omega (arith, ends, ap (λ (m : ℕ). m * size) none)

    -- the item that it refuses
    pub refused_of : (refusal : List ℕ → Unit {0} → Option codec.Error) (e : codec.Error) → 1 ≤ size → 0 < items
        → refusal (data_from P (view (d (section_key partition s)).content) ((items - 1) * size) size) tt ≡ Some e
        → IsCovered seal P (d (section_key partition s)).content ((items - 1) * size) size
        → IsCheckpointItemRefused seal P size partition at bytes d refusal s e
    refused_of refusal e pos some bad covered = record {
      some = some_bytes pos some;
      covered = subst (λ (n : ℕ). IsCovered seal P (d (section_key partition s)).content n size) (sym (last_start some)) covered;
      refused = subst (λ (n : ℕ). refusal (data_from P (view (d (section_key partition s)).content) n size) tt ≡ Some e) (sym (last_start some)) bad;
    }

    count_of : 1 ≤ size → boundary_at seal P size partition at bytes d s / size ≡ items
    count_of pos = ap (λ (m : ℕ). m / size) (ends ∙ zero) ∙ div-mul-add items size 0 (omega (arith, pos))
      where
        zero : items * size ≡ items * size + 0
        zero = omega arith

    module _ {A : Type 0} (spelling : A → List ℕ) (accepted : A → Unit {0} → Type 0) (pos : 1 ≤ size) (there : IsTrue (d (section_key partition s)).there) where
      abbrev pub IsLast : A → Type 0
      IsLast = IsBoundary seal P size spelling accepted (d (section_key partition s)).content items

      -- what it shows of the section
      pub shown_of : (o : Option (Option A)) → (items ≡ 0 → o ≡ Some None) → (0 < items → IsSomeAnd o (λ b. IsSomeAnd b IsLast))
          → IsSomeAnd o (IsShown seal P size partition at bytes spelling accepted d s)
      shown_of o empty boundary = elim (cases_lt 0 items) [
        | inr none ↦ has_value o (IsShown seal P size partition at bytes spelling accepted d s) None (empty (omega (arith, none))) (no_bytes (omega (arith, none)))
        | inl some ↦
            let b = value_of o (λ x. IsSomeAnd x IsLast) (boundary some) in
            let v = value_of b.value IsLast b.has in
            has_value o (IsShown seal P size partition at bytes spelling accepted d s) (Some v.value) (b.is ∙ ap (λ (x : Option A). Some x) v.is)
            (some_bytes pos some, subst (λ (n : ℕ). IsBoundary seal P size spelling accepted (d (section_key partition s)).content n v.value) (sym (count_of pos)) v.has)
      ]

      -- that it is passed
      pub passed_of : (o : Option (Option A)) → (0 < items → IsSomeAnd o (λ b. IsSomeAnd b IsLast))
          → (s ≡ at → bytes < adopted_size seal P (d (section_key partition s)).content → bytes ≤ length (sealed_prefix seal P (d (section_key partition s)).content))
          → IsPassed seal P size partition at bytes d spelling accepted s
      passed_of o boundary sealed = record {
        whole = whole_items items size (boundary_at seal P size partition at bytes d s) ends;
        there = λ some. there;
        last = λ some.
            let more : 0 < items = elim (cases_lt 0 items) [ inl is ↦ is | inr none ↦ absurd (omega (arith, some, no_bytes (omega (arith, none)))) ] in
            let b = value_of o (λ x. IsSomeAnd x IsLast) (boundary more) in
            let v = value_of b.value IsLast b.has in
            (v.value, subst (λ (n : ℕ). IsBoundary seal P size spelling accepted (d (section_key partition s)).content n v.value) (sym (count_of pos)) v.has);
        sealed = sealed;
      }

-- ---- one section more
module _ {A : Type 0} (seal : List ℕ → ℕ) (P size : ℕ) (partition : List ℕ) (at bytes : ℕ) (spelling : A → List ℕ) (accepted : A → Unit {0} → Type 0) (told : Type 0) where
  module _ (IsNamed Named : ℕ → Type 0) (f h : Floors A) (d : Disk) (s n : ℕ) where
    -- What the check of the section makes of f.
    pub record Adds : Type 0 where
      -- the named ones are those before and the section
      pub among : (q : ℕ) → Named q → (q ≡ s) ⊎ IsNamed q
      pub both : (q : ℕ) → (Named q → ⊥) → (q ≢ s) × (IsNamed q → ⊥)
      pub under : told → IsUnder seal P size partition at bytes d s
      pub floor : h.floor_of s ≡ n
      pub ends : told → boundary_at seal P size partition at bytes d s ≡ n
      pub shows : told → IsSomeAnd (h.boundary_of s) (IsShown seal P size partition at bytes spelling accepted d s)
      pub passed : told → IsPassed seal P size partition at bytes d spelling accepted s
      pub floors : (q : ℕ) → q ≢ s → h.floor_of q ≡ f.floor_of q
      pub boundaries : (q : ℕ) → q ≢ s → h.boundary_of q ≡ f.boundary_of q

    pub checked_add : Adds → AreChecked seal P size partition at bytes spelling accepted IsNamed told f d → AreChecked seal P size partition at bytes spelling accepted Named told h d
    checked_add adds had = record {
      shows = λ t q is under. elim (cases_eq q s) [
        | inl same ↦ subst (λ (x : ℕ). IsSomeAnd (h.boundary_of x) (IsShown seal P size partition at bytes spelling accepted d x)) (sym same) (adds.shows t)
        | inr other ↦ subst (λ (o : Option (Option A)). IsSomeAnd o (IsShown seal P size partition at bytes spelling accepted d q)) (sym (adds.boundaries q other)) (had.shows t q (before q is other) under)
      ];
      floors = λ t q is under. elim (cases_eq q s) [
        | inl same ↦ subst (λ (x : ℕ). h.floor_of x ≡ boundary_at seal P size partition at bytes d x) (sym same) (adds.floor ∙ sym (adds.ends t))
        | inr other ↦ adds.floors q other ∙ had.floors t q (before q is other) under
      ];
      passed = λ t q is under. elim (cases_eq q s) [
        | inl same ↦ subst (λ (x : ℕ). IsPassed seal P size partition at bytes d spelling accepted x) (sym same) (adds.passed t)
        | inr other ↦ had.passed t q (before q is other) under
      ];
      others = λ q not. (let out = adds.both q not in let was = had.others q out.1 in (adds.boundaries q out.0 ∙ was.0, adds.floors q out.0 ∙ was.1));
      free = λ t q not.
          let other : q ≢ s = λ same. not (subst (λ (x : ℕ). IsUnder seal P size partition at bytes d x) (sym same) (adds.under t)) in
          let was = had.free t q not in
          (adds.boundaries q other ∙ was.0, adds.floors q other ∙ was.1);
    }
      where
        before : (q : ℕ) → Named q → q ≢ s → IsNamed q
        before q is other = elim (adds.among q is) [ inl same ↦ absurd (other same) | inr had ↦ had ]

    pub come_add : {F S : Type 0} {gs : _} (m k l : Sections F (PageBlob S gs)) → Adds → (s < at → n ≡ section_size m s) → l ≡ m
        → HasCome seal P size partition at bytes spelling accepted IsNamed told m k f d → HasCome seal P size partition at bytes spelling accepted Named told m l h d
    come_add m k l adds whole same had = record {
      same = same;
      checked = checked_add adds had.checked;
      ends = λ q is less held. elim (cases_eq q s) [
        | inl own ↦ subst (λ (x : ℕ). h.floor_of x ≡ section_size m x) (sym own) (adds.floor ∙ whole (subst (λ (x : ℕ). x < at) own less))
        | inr other ↦ adds.floors q other ∙ had.ends q (elim (adds.among q is) [ inl own ↦ absurd (other own) | inr before ↦ before ]) less held
      ];
    }

  -- the sections below s that have a boundary are among those checked
  pub passes_below : {IsNamed : ℕ → Type 0} (f : Floors A) (d : Disk) (s : ℕ) → ((q : ℕ) → q < s → IsUnder seal P size partition at bytes d q → IsNamed q) → told
      → AreChecked seal P size partition at bytes spelling accepted IsNamed told f d
      → (q : ℕ) → q < s → IsUnder seal P size partition at bytes d q → IsPassed seal P size partition at bytes d spelling accepted q
  passes_below f d s named t had q less under = had.passed t q (named q less under) under

  -- others are named, where they are the same among those with a boundary
  pub come_named : {F S : Type 0} {gs : _} (IsNamed Named : ℕ → Type 0) (m k : Sections F (PageBlob S gs)) (f : Floors A) (d : Disk)
      → (told → (q : ℕ) → Named q → IsUnder seal P size partition at bytes d q → IsNamed q) → ((q : ℕ) → (Named q → ⊥) → IsNamed q → ⊥) → ((q : ℕ) → Named q → q < at → IsHeld m q → IsNamed q)
      → HasCome seal P size partition at bytes spelling accepted IsNamed told m k f d → HasCome seal P size partition at bytes spelling accepted Named told m k f d
  come_named IsNamed Named m k f d into out held had = record {
    same = had.same;
    checked = record {
      shows = λ t q is under. had.checked.shows t q (into t q is under) under;
      floors = λ t q is under. had.checked.floors t q (into t q is under) under;
      passed = λ t q is under. had.checked.passed t q (into t q is under) under;
      others = λ q not. had.checked.others q (out q not);
      free = had.checked.free;
    };
    ends = λ q is less has. had.ends q (held q is less has) less has;
  }

-- ---- how a part of the check ends
module _ {A D F S : Type 0} {gs : _} (seal : List ℕ → ℕ) (P size : ℕ) (partition : List ℕ) (at bytes : ℕ) (spelling : A → List ℕ) (accepted : A → Unit {0} → Type 0)
    (refusal : List ℕ → Unit {0} → Option codec.Error) (dev : device.Ghosts D) (g : buffer.Ghosts (PageBlob S gs)) (gives : F → Setting) (m : Sections F (PageBlob S gs)) where
  -- an error is passed on
  pub looks_err : {T U : Type 0} (r : Result T Error) (e : Error) (old new : D) (Ends : T → Type 0) (Other : U → Type 0) → r ≡ Err e
      → Looks seal P size partition at bytes spelling accepted {T = U} refusal dev (Err e) old new g gives m Other
      → Looks seal P size partition at bytes spelling accepted refusal dev r old new g gives m Ends
  looks_err {T = T} {U = U} r e old new Ends Other is had = subst (λ (x : Result T Error). Looks seal P size partition at bytes spelling accepted refusal dev x old new g gives m Ends) (sym is) (record {
    over = had.over;
    ends = tt;
    unchanged = had.unchanged;
    entries = had.entries;
    damage = λ t x bad. had.damage t x (error_back {T = T} {U = U} (Err e) e (Corruption x) refl bad);
    refused = λ t x bad. had.refused t x (error_back {T = T} {U = U} (Err e) e (Codec x) refl bad);
    faults = had.faults;
    cause = elim had.cause [
      | inl damage ↦ inl (damage.0, cc damage.1)
      | inr (inl coded) ↦ inr (inl (coded.0, cc coded.1))
      | inr (inr failed) ↦ inr (inr (failed_on {U = U} (Err e) e (dev.faults old) (dev.faults new) refl failed))
    ];
  })

  -- a part behind others that wrote nothing
  pub looks_then : {T : Type 0} (r : Result T Error) (a b c : D) (Ends : T → Type 0) → (dev.Tells → Unchanged (dev.time a) (dev.time b))
      → ((q : Key) → ((s : ℕ) → s ≤ at → q ≢ key_of m s) → dev.opened b q ≡ dev.opened a q) → dev.faults a ≤ dev.faults b
      → Looks seal P size partition at bytes spelling accepted refusal dev r b c g gives m Ends
      → Looks seal P size partition at bytes spelling accepted refusal dev r a c g gives m Ends
  looks_then r a b c Ends same entries faults had = record {
    over = had.over;
    ends = had.ends;
    unchanged = λ t. unchanged_then (dev.time a) (dev.time b) (dev.time c) (same t) (had.unchanged t);
    entries = λ q none. had.entries q none ∙ entries q none;
    damage = λ t x bad. subst (λ (d : Disk). IsUnder seal P size partition at bytes d x.section × IsCheckpointRefused seal P size partition at bytes d x.section x
        × ((s : ℕ) → s < x.section → IsUnder seal P size partition at bytes d s → IsPassed seal P size partition at bytes d spelling accepted s)) (unchanged_now (dev.time a) (dev.time b) (same t)) (had.damage t x bad);
    refused = λ t e bad. subst (λ (d : Disk). (s : ℕ) × IsUnder seal P size partition at bytes d s × IsCheckpointItemRefused seal P size partition at bytes d refusal s e
        × ((q : ℕ) → q < s → IsUnder seal P size partition at bytes d q → IsPassed seal P size partition at bytes d spelling accepted q)) (unchanged_now (dev.time a) (dev.time b) (same t)) (had.refused t e bad);
    faults = omega (arith, faults, had.faults);
    cause = since r had.cause;
  }
    where
      since : {T : Type 0} (r : Result T Error) → OnErr r (((x : Damage) × IsErrOf r (Corruption x)) ⊎ (((e : codec.Error) × IsErrOf r (Codec e)) ⊎ HasFailed r (dev.faults b) (dev.faults c)))
          → OnErr r (((x : Damage) × IsErrOf r (Corruption x)) ⊎ (((e : codec.Error) × IsErrOf r (Codec e)) ⊎ HasFailed r (dev.faults a) (dev.faults c)))
      since (Ok v) cause = tt
      since (Err e) cause = elim cause [
        | inl damage ↦ inl damage
        | inr (inl coded) ↦ inr (inl coded)
        | inr (inr failed) ↦ inr (inr (failed_since (Err e) (dev.faults a) (dev.faults b) (dev.faults c) faults failed))
      ]

  -- an earlier section ends within an item
  pub looks_partial : {T U : Type 0} (r : Result T Error) (e : Error) (old : D) (Ends : T → Type 0) (s n whole : ℕ) → r ≡ Err e
      → IsErrOf {T = U} (Err e) (Corruption (record { section = s; kept = n; wanted = whole })) → whole ≡ n / size * size → n % size ≢ 0
      → (dev.Tells → boundary_at seal P size partition at bytes (disk (dev.time old)) s ≡ n) → (dev.Tells → IsUnder seal P size partition at bytes (disk (dev.time old)) s)
      → (dev.Tells → (q : ℕ) → q < s → IsUnder seal P size partition at bytes (disk (dev.time old)) q → IsPassed seal P size partition at bytes (disk (dev.time old)) spelling accepted q)
      → IsOver g gives dev.Tells m (dev.opened old) (disk (dev.time old))
      → Looks seal P size partition at bytes spelling accepted refusal dev r old old g gives m Ends
  looks_partial {T = T} r e old Ends s n whole is bad rounds rest ends under below over = subst (λ (x : Result T Error). Looks seal P size partition at bytes spelling accepted refusal dev x old old g gives m Ends) (sym is) (record {
    over = over;
    ends = tt;
    unchanged = λ t. unchanged_start (dev.time old);
    entries = λ q none. refl;
    damage = λ t x of.
        let own : Damage = record { section = s; kept = n; wanted = whole } in
        let same : own ≡ x = cc (bad, of) in
        subst (λ (y : Damage). IsUnder seal P size partition at bytes (disk (dev.time old)) y.section × IsCheckpointRefused seal P size partition at bytes (disk (dev.time old)) y.section y
        × ((q : ℕ) → q < y.section → IsUnder seal P size partition at bytes (disk (dev.time old)) q → IsPassed seal P size partition at bytes (disk (dev.time old)) spelling accepted q)) same (
          under t,
          inl (record {
            partial = λ none. rest (ap (λ (k : ℕ). k % size) (sym (ends t)) ∙ none);
            kept = sym (ends t);
            wanted = rounds ∙ ap (λ (k : ℕ). k / size * size) (sym (ends t));
          }),
          below t,
        );
    refused = λ t x of. absurd (cc (bad, of));
    faults = omega arith;
    cause = inl (record { section = s; kept = n; wanted = whole }, cc bad);
  })

  -- ---- the check of a section's items
  module _ {T : Type 0} (see : T → Floors A) (sections_of : T → Sections F (PageBlob S gs)) (f : Floors A) (s items : ℕ) (old new : D) where
    -- what the check of so many items of the section answers
    abbrev pub Answers : Option Target → Result T Error → Type 0
    Answers aim r = ChecksMarker see sections_of f.floor_of f.boundary_of aim m s seal P size partition spelling accepted refusal dev g gives items old new r

    module _ {aim : Option Target} (r : Result T Error) (has : Answers aim r) (Ends : T → Type 0) (pos : 1 ≤ size) (fits : items * size < 2 ^ 64) (place : m.partition ≡ partition)
        (le : s ≤ at)
        (ends : dev.Tells → boundary_at seal P size partition at bytes (disk (dev.time old)) s ≡ items * size)
        (under : dev.Tells → IsUnder seal P size partition at bytes (disk (dev.time old)) s)
        (own : dev.Tells → IsTrue (disk (dev.time old) (section_key partition s)).there ⊎ ((s ≡ at) × (0 < bytes)))
        (below : dev.Tells → (q : ℕ) → q < s → IsUnder seal P size partition at bytes (disk (dev.time old)) q → IsPassed seal P size partition at bytes (disk (dev.time old)) spelling accepted q) where
      pub looks_one : IfOk r Ends → Looks seal P size partition at bytes spelling accepted refusal dev r old new g gives m Ends
      looks_one found = record {
        over = has.over;
        ends = found;
        unchanged = has.unchanged;
        entries = λ q none. has.entries q (λ is. none s le (is ∙ ap (λ (p : List ℕ). section_key p s) (sym place)));
        damage = λ t x bad.
            let had = has.damage t x bad in
            let at_s = damage_of seal P size partition at bytes (disk (dev.time old)) s items (ends t) x fits (own t) had.1 in
            subst (λ (y : ℕ). IsUnder seal P size partition at bytes (disk (dev.time old)) y × IsCheckpointRefused seal P size partition at bytes (disk (dev.time old)) y x
            × ((q : ℕ) → q < y → IsUnder seal P size partition at bytes (disk (dev.time old)) q → IsPassed seal P size partition at bytes (disk (dev.time old)) spelling accepted q)) (sym had.0)
            (under t, at_s, below t);
        refused = λ t e bad. (let had = has.refused t e bad in
            (s, under t, refused_of seal P size partition at bytes (disk (dev.time old)) s items (ends t) refusal e pos had.0 had.1 had.2, below t));
        faults = has.faults;
        cause = has.cause;
      }

    -- what is then known of the sections
    pub come_one : {aim : Option Target} (x : T) (IsNamed Named : ℕ → Type 0) (k : Sections F (PageBlob S gs)) → Answers aim (Ok x) → 1 ≤ size
        → (dev.Tells → boundary_at seal P size partition at bytes (disk (dev.time old)) s ≡ items * size)
        → (dev.Tells → IsUnder seal P size partition at bytes (disk (dev.time old)) s)
        → (dev.Tells → s ≡ at → bytes < adopted_size seal P (disk (dev.time old) (section_key partition s)).content → bytes ≤ length (sealed_prefix seal P (disk (dev.time old) (section_key partition s)).content))
        → ((q : ℕ) → Named q → (q ≡ s) ⊎ IsNamed q) → ((q : ℕ) → (Named q → ⊥) → (q ≢ s) × (IsNamed q → ⊥))
        → (s < at → items * size ≡ section_size m s)
        → HasCome seal P size partition at bytes spelling accepted IsNamed dev.Tells m k f (disk (dev.time old))
        → HasCome seal P size partition at bytes spelling accepted Named dev.Tells m (sections_of x) (see x) (disk (dev.time old))
    come_one x IsNamed Named k has pos ends under sealed among both whole had =
        come_add seal P size partition at bytes spelling accepted dev.Tells IsNamed Named f (see x) (disk (dev.time old)) s (items * size) m k (sections_of x) (record {
          among = among;
          both = both;
          under = under;
          floor = has.floor;
          ends = ends;
          shows = λ t. shown_of seal P size partition at bytes (disk (dev.time old)) s items (ends t) spelling accepted pos (has.there t) ((see x).boundary_of s) has.empty (has.boundary t);
          passed = λ t. passed_of seal P size partition at bytes (disk (dev.time old)) s items (ends t) spelling accepted pos (has.there t) ((see x).boundary_of s) (has.boundary t) (sealed t);
          floors = has.floors;
          boundaries = has.boundaries;
        }) whole has.sections had

    -- an earlier section was checked, with those below it
    pub whole_looks : {aim : Option Target} (r : Result T Error) (done : List ℕ) (k : Sections F (PageBlob S gs)) → Answers aim r → 1 ≤ size → items * size < 2 ^ 64 → m.partition ≡ partition → s < at → IsHeld m s
        → (dev.Tells → adopted_size seal P (disk (dev.time old) (section_key partition s)).content ≡ items * size)
        → (dev.Tells → IsTrue (disk (dev.time old) (section_key partition s)).there)
        → (dev.Tells → (q : ℕ) → q < s → IsUnder seal P size partition at bytes (disk (dev.time old)) q → Contains done q × (q < at))
        → items * size ≡ section_size m s
        → HasCome seal P size partition at bytes spelling accepted (λ q. Contains done q × (q < at)) dev.Tells m k f (disk (dev.time old))
        → Looks seal P size partition at bytes spelling accepted refusal dev r old new g gives m
        (λ x. HasCome seal P size partition at bytes spelling accepted (λ q. Contains (done ++ s ∷ []) q × (q < at)) dev.Tells m (sections_of x) (see x) (disk (dev.time old)))
    whole_looks {aim = aim} r done k has pos fits place less held adopted there named whole had =
        looks_one r has (λ x. HasCome seal P size partition at bytes spelling accepted (λ q. Contains (done ++ s ∷ []) q × (q < at)) dev.Tells m (sections_of x) (see x) (disk (dev.time old)))
        pos fits place (omega (arith, less)) ends (λ t. inr (less, there t)) (λ t. inl (there t))
        (λ t. passes_below seal P size partition at bytes spelling accepted dev.Tells f (disk (dev.time old)) s (named t) t had.checked) (found r has)
      where
        ends : dev.Tells → boundary_at seal P size partition at bytes (disk (dev.time old)) s ≡ items * size
        ends t = boundary_earlier seal P size partition at bytes (disk (dev.time old)) s less ∙ adopted t

        found : (x : Result T Error) → Answers aim x → IfOk x (λ x. HasCome seal P size partition at bytes spelling accepted (λ q. Contains (done ++ s ∷ []) q × (q < at)) dev.Tells m (sections_of x) (see x) (disk (dev.time old)))
        found (Err e) has = tt
        found (Ok x) has = come_one x (λ q. Contains done q × (q < at)) (λ q. Contains (done ++ s ∷ []) q × (q < at)) k has pos ends (λ t. inr (less, there t)) (λ t is. absurd (omega (arith, is, less)))
            (λ q is. elim (Contains-push_cases done s q is.0) [ inl before ↦ inr (before, is.1) | inr same ↦ inl (sym same) ])
            (λ q not. (λ same. not (subst (λ (x : ℕ). Contains (done ++ s ∷ []) x × (x < at)) (sym same) (Contains-push done s, less)), λ was. not (Contains-append_left done (s ∷ []) q was.0, was.1)))
            (λ lt. whole) had

-- ---- the sections of the opening
module _ {F S : Type 0} {gs : _} (seal : List ℕ → ℕ) (g : buffer.Ghosts (PageBlob S gs)) (gives : F → Setting) (pages : ArePages g seal) (told : Type 0) (m : Sections F (PageBlob S gs)) (opened : OpenedList) (d : Disk)
    (over : IsOver g gives told m opened d) where
  -- a held section has the bytes that adopting its blob finds
  pub adopted_here : AreAdopted seal m d → (s : ℕ) → IsHeld m s → adopted_size seal (gives m.factory).page_size (d (key_of m s)).content ≡ section_size m s
  adopted_here adopted s held = elim (none_or_value (m.held s)) [
    | inl none ↦ absurd (cc (subst IsSome none held))
    | inr u ↦
        let paged : u.0.page_size ≡ (gives m.factory).page_size = sym (pages.page_size u.0) ∙ ap (λ (x : Setting). x.page_size) (over.opened_list.setting s u.0 u.1) in
        sym (ap (λ (p : ℕ). adopted_size seal p (d (key_of m s)).content) paged) ∙ sym (adopted s u.0 u.1).size ∙ sym (ap size_held u.1)
  ]

  -- a section below one that is held has a boundary only where it is held too
  pub named_below : (P size at bytes most s : ℕ) (done : List ℕ) → s < at → s ≤ most → s < 2 ^ 64
      → ((q : ℕ) → q < 2 ^ 64 → IsHeld m q ↔ (IsTrue (d (section_key m.partition q)).there × (q ≤ most))) → ((q : ℕ) → q < s → IsHeld m q → Contains done q)
      → (q : ℕ) → q < s → IsUnder seal P size m.partition at bytes d q → Contains done q × (q < at)
  named_below P size at bytes most s done less under small held named q lt (inl own) = absurd (omega (arith, own, lt, less))
  named_below P size at bytes most s done less under small held named q lt (inr there) =
      (named q lt ((held q (omega (arith, lt, small))).1 (there.1, omega (arith, lt, under))), omega (arith, lt, less))

-- a buffer's bytes are no more than a u64 counts
pub size_small : {F S : Type 0} {gs : _} (m : Sections F (PageBlob S gs)) (s : ℕ) → IsHeld m s → section_size m s < 2 ^ 64
size_small m s held = elim (none_or_value (m.held s)) [
  | inl none ↦ absurd (cc (subst IsSome none held))
  | inr u ↦ (let b = u.0 in omega (arith, ap size_held u.1, b.fit.room, extent_more b.page_size (size_of (shown b)) (omega (arith, b.fit.begun))))
]
