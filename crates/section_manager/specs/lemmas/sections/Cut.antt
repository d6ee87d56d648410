-- What cuts of sections, one after another, make of a manager, and what they leave of its blobs.
use Rattle.std.specs.Prelude.{◌≡◌, ◌≢◌, ◌⊎◌, ℕ, ◌<◌, ◌≤◌, min, false, List, take, Option, None, Some, IsSome, IsSomeAnd}
use Rattle.std.proofs.Common.{[], ◌∷◌, ◌++◌, inl, inr, refl, sym, ◌∙◌, ap, subst, arith}
use Rattle.std.specs.List.{Contains}
use Rattle.std.specs.Option.{unwrap_or}
use Rattle.std.proofs.lemmas.List.Elements.{Contains-append_left, Contains-push, Contains-push_cases}
use Rattle.std.proofs.lemmas.Bool.{cases_lt}
use Rattle.std.proofs.lemmas.List.{take_all}
use Rattle.blob_device.specs.Disk.{Key, Blob}
use Rattle.blob_device.specs.Opened.{OpenedList}
use Rattle.blob_device.specs.Timeline.{Timeline, disk, Always, Each}
use Rattle.blob_device.specs.lemmas.Moments.{always_weaker}
use Rattle.sealed_pages.specs.Cutting.{StandsSettled}
use Rattle.section_manager.specs.declared.buffer.SectionBuffer as buffer
use Rattle.section_manager.specs.Entries.{OnlyOwnEntry, StartsNoRead}
use Rattle.section_manager.specs.Leaving.{Leaves, AllMoments}
use Rattle.section_manager.specs.Setting.{Setting}
use Rattle.section_manager.specs.Sections.{Sections, key_of, IsSame, SameBounds, IsKeyOf, IsOver, IsCut}
use Rattle.section_manager.specs.Lasting.{Cutting, IsLonger}
use Rattle.section_manager.specs.lemmas.Walk.{Rules, Tried, Tries, Walked, Walking, tried_more, tried_start, untouched, walked_more, walked_start}
use Rattle.section_manager.specs.lemmas.sections.Over.{same_key}
use Rattle.section_manager.specs.lemmas.sections.Sync.{BufferLaws}
use Rattle.blob_device.proofs.general.Lists.{contains_or_not}
use Rattle.blob_device.proofs.general.Options.{has_value, some_same}

pub not_below : (n k : ℕ) → (n < k → ⊥) → k ≤ n
not_below n k not = elim (cases_lt n k) [
  | inl lt ↦ absurd (not lt)
  | inr le ↦ le
]

module _ {F B : Type 0} (g : buffer.Ghosts B) (gives : F → Setting) (told : Type 0) where
  kept_some : BufferLaws g → (u : B) (b : Blob) (few more : ℕ) → few ≤ more → (contents : List (List ℕ)) (o : Option (List ℕ))
      → IsSomeAnd o (λ c. g.NoChanceSeal u contents c → g.MayKeep u b more contents c) → IsSomeAnd o (λ c. g.NoChanceSeal u contents c → g.MayKeep u b few contents c)
  kept_some laws u b few more le contents None is = is
  kept_some laws u b few more le contents (Some c) is = λ no_chance. laws.looser u b few more contents c le (is no_chance)

  -- fewer bytes are to be kept
  pub leaves_few : BufferLaws g → (u : B) (b : Blob) (few : ℕ) → few ≤ g.settled u → g.Stands u b → Leaves (g.NoChanceSeal u) (g.MayKeep u b few) b
  leaves_few laws u b few le stands left may = kept_some laws u b few (g.settled u) le _ left (laws.passes u b stands left may)

  -- a buffer that is no longer is as a cut leaves it
  pub cut_same : BufferLaws g → (n : ℕ) (u : B) (b : Blob) → (told → g.Stands u b) → g.byte_count u ≤ n → IsCut g told n u u b b
  cut_same laws n u b stands le = record {
    size = omega (arith, le);
    bytes = λ t. sym (take_all n (g.bytes u b.content) (omega (arith, laws.counted u b (stands t), le)));
    settled = λ lt. absurd (omega (arith, le, lt));
    done = λ lt. absurd (omega (arith, le, lt));
    rests = λ t lt. absurd (omega (arith, le, lt));
    whole = λ t whole. whole;
    mended = λ t lt. absurd (omega (arith, le, lt));
    again = λ t lt. absurd (omega (arith, le, lt));
    same = λ is. refl;
    stays = λ t is. refl;
  }

  -- what a cut that did something answers
  pub record CutAnswer (n : ℕ) (u v : B) (x y : Blob) : Type 0 where
    pub acts : n < g.byte_count u
    pub stood : told → g.Stands u x
    pub stands : told → g.Stands u x → g.Stands v y
    pub bytes : told → g.Stands u x → g.bytes v y.content ≡ take n (g.bytes u x.content)
    pub whole : told → g.Stands u x → g.IsWhole u x → g.IsWhole v y
    pub mended : told → g.Stands u x → n < g.byte_count u → g.IsWhole v y
    pub size : g.byte_count v ≡ min (g.byte_count u) n
    pub done : n < g.byte_count u → g.unsettled v ≡ false

  pub cut_new : BufferLaws g → (n : ℕ) (u v : B) (x y : Blob) → CutAnswer n u v x y → IsCut g told n u v x y
  cut_new laws n u v x y call = record {
    size = call.size;
    bytes = λ t. call.bytes t (call.stood t);
    settled = λ lt. omega (arith, laws.all_settled v (call.done lt), call.size, lt);
    done = call.done;
    rests = λ t lt. laws.rested v y (call.stands t (call.stood t)) (call.done lt);
    whole = λ t whole. call.whole t (call.stood t) whole;
    mended = λ t lt. call.mended t (call.stood t) lt;
    again = λ t lt. laws.found_again v y (call.stands t (call.stood t)) (call.mended t (call.stood t) lt) (call.done lt);
    same = λ le. absurd (omega (arith, le, call.acts));
    stays = λ t le. absurd (omega (arith, le, call.acts));
  }

  pub cut_moves : (n : ℕ) (u v : B) (x y old new : Blob) → (told → old ≡ x) → (told → new ≡ y) → IsCut g told n u v x y → IsCut g told n u v old new
  cut_moves n u v x y old new was is did = record {
    size = did.size;
    bytes = λ t. ap (λ (b : Blob). g.bytes v b.content) (is t) ∙ did.bytes t ∙ sym (ap (λ (b : Blob). take n (g.bytes u b.content)) (was t));
    settled = did.settled;
    done = did.done;
    rests = λ t lt. subst StandsSettled (sym (is t)) (did.rests t lt);
    whole = λ t whole. subst (g.IsWhole v) (sym (is t)) (did.whole t (subst (g.IsWhole u) (was t) whole));
    mended = λ t lt. subst (g.IsWhole v) (sym (is t)) (did.mended t lt);
    again = λ t lt. subst (λ (b : Blob). g.holds (g.setting v) b.content ≡ g.bytes v b.content) (sym (is t)) (did.again t lt);
    same = did.same;
    stays = λ t le. is t ∙ did.stays t le ∙ sym (was t);
  }

  module _ (size_of : ℕ → Option ℕ) where
    abbrev pub cut_at : ℕ → ℕ
    cut_at s = unwrap_or (size_of s) 0

    abbrev pub NeedsCut : ℕ → B → Type 0
    NeedsCut s u = cut_at s < g.byte_count u

    abbrev pub kept_of : ℕ → B → ℕ
    kept_of s u = min (g.settled u) (cut_at s)

    abbrev pub DidCut : ℕ → B → B → Blob → Blob → Type 0
    DidCut s u v x y = IsCut g told (cut_at s) u v x y

    needs_or_not : (n k : ℕ) → (n < k) ⊎ (n < k → ⊥)
    needs_or_not n k = elim (cases_lt n k) [
      | inl lt ↦ inl lt
      | inr le ↦ inr (λ lt. absurd (omega (arith, le, lt)))
    ]

    pub cut_rules : {Dev : Type 0} (time : Dev → Timeline) (opened : Dev → OpenedList) (faults : Dev → ℕ) → BufferLaws g → Rules g gives told time opened faults NeedsCut kept_of DidCut
    cut_rules time opened faults laws = record {
      decides = λ s u. needs_or_not (cut_at s) (g.byte_count u);
      passes = λ s u x stands. leaves_few laws u x (min (g.settled u) (cut_at s)) (omega arith) stands;
      ends = λ s u v x y did acts. omega (arith, did.size, acts);
      same = λ s u v x y did idle. did.same (not_below (cut_at s) (g.byte_count u) idle);
      moves = λ s u v x y old new was is did. cut_moves (cut_at s) u v x y old new was is did;
    }

    -- the same of a size that there is
    pub longer_at : (m : Sections F B) (s : ℕ) (o : Option ℕ) → IsSome o → IsLonger g m s (unwrap_or o 0) → IsSomeAnd o (IsLonger g m s)
    longer_at m s None some longer = absurd (cc some)
    longer_at m s (Some n) some longer = longer

    -- what a walk of cuts leaves of the blobs
    pub cutting_of : {Dev : Type 0} (time : Dev → Timeline) (opened : Dev → OpenedList) (faults : Dev → ℕ) (m : Sections F B) (a b : Dev)
        → Tried g gives told time opened faults NeedsCut kept_of DidCut m (λ s. IsSome (size_of s)) a b → told → Always (time a) (time b) (Each (Cutting g m size_of (disk (time a))))
    cutting_of time opened faults m a b tried t = always_weaker (time a) (time b) (Each (Walking g gives told time opened faults NeedsCut kept_of DidCut m (λ s. IsSome (size_of s)) (disk (time a)))) (Each (Cutting g m size_of (disk (time a))))
        (λ d walking q. record {
          shortened = λ s n u size held is. subst (λ (k : ℕ). Leaves (g.NoChanceSeal u) (g.MayKeep u (disk (time a) q) (min (g.settled u) k)) (d q)) (ap (λ (o : Option ℕ). unwrap_or o 0) size)
              ((walking q).named s u (subst IsSome (sym size) refl) held is);
          others = λ none. (walking q).others (λ k. none (k.0, longer_at m k.0 (size_of k.0) k.1.0 k.1.1, k.2));
        }) (tried.moments t)

    pub longer_none : (m : Sections F B) (q : Key) → (IsKeyOf m (λ s. IsSomeAnd (size_of s) (IsLonger g m s)) q → ⊥) → IsKeyOf m (λ s. IsSome (size_of s) × IsLonger g m s (cut_at s)) q → ⊥
    longer_none m q none k = none (k.0, longer_at m k.0 (size_of k.0) k.1.0 k.1.1, k.2)

  -- what cut_one promises of a cut to n bytes, also where it fails
  pub record CutCall {Dev : Type 0} (time : Dev → Timeline) (opened : Dev → OpenedList) (faults_of : Dev → ℕ) (n s : ℕ) (m : Sections F B) (a b : Dev) : Type 0 where
    pub moments : told → AllMoments (key_of m s) (λ x. (u : B) → m.held s ≡ Some u → Leaves (g.NoChanceSeal u) (g.MayKeep u (disk (time a) (key_of m s)) (min (g.settled u) n)) x) (time a) (time b)
    pub idle : (IsLonger g m s n → ⊥) → b ≡ a
    pub entries : OnlyOwnEntry (key_of m s) (opened a) (opened b)
    pub reads : (g.StartsReads → ⊥) → StartsNoRead (opened a) (opened b)
    pub faults : faults_of a ≤ faults_of b

  -- and where it succeeds
  pub record CutMade {Dev : Type 0} (time : Dev → Timeline) (opened : Dev → OpenedList) (n s : ℕ) (m r : Sections F B) (a b : Dev) : Type 0 where
    pub over : IsOver g gives told r (opened b) (disk (time b))
    pub cut : (u : B) → m.held s ≡ Some u → IsSomeAnd (r.held s) (λ v. IsCut g told n u v (disk (time a) (key_of m s)) (disk (time b) (key_of m s)))
    pub absent : m.held s ≡ None → r.held s ≡ None
    pub unopened : r.unopened s ≡ m.unopened s
    pub others : (q : ℕ) → q ≢ s → IsSame m r q
    pub bounds : SameBounds m r

  module _ {Dev : Type 0} (time : Dev → Timeline) (opened : Dev → OpenedList) (faults_of : Dev → ℕ) (size_of : ℕ → Option ℕ) where
    abbrev pub CutWalked : (ℕ → Type 0) → Sections F B → Sections F B → Dev → Dev → Type 0
    CutWalked IsDone m n a b = Walked g gives told time opened faults_of (NeedsCut size_of) (kept_of size_of) (DidCut size_of) IsDone m n a b

    abbrev pub CutTried : Sections F B → Dev → Dev → Type 0
    CutTried m a b = Tried g gives told time opened faults_of (NeedsCut size_of) (kept_of size_of) (DidCut size_of) m (λ s. IsSome (size_of s)) a b

    pub cut_tried_start : BufferLaws g → (m : Sections F B) (a : Dev) → IsOver g gives told m (opened a) (disk (time a)) → CutTried m a a
    cut_tried_start laws m a over = tried_start g gives told time opened faults_of (NeedsCut size_of) (kept_of size_of) (DidCut size_of) (cut_rules size_of time opened faults_of laws) m (λ s. IsSome (size_of s)) a over

    pub cut_walked_start : (m : Sections F B) (a : Dev) → IsOver g gives told m (opened a) (disk (time a)) → CutWalked (Contains []) m m a a
    cut_walked_start m a over = walked_start g gives told time opened faults_of (NeedsCut size_of) (kept_of size_of) (DidCut size_of) (Contains []) m a (λ s done. absurd (omega (arith, done.1))) over

    -- one section more, after those of the list
    module _ (laws : BufferLaws g) (ks : List ℕ) (s n : ℕ) (size : size_of s ≡ Some n) (m now : Sections F B) (a b : Dev) (began : IsOver g gives told m (opened a) (disk (time a)))
        (walked : CutWalked (Contains ks) m now a b) where
      cut_is : n ≡ cut_at size_of s
      cut_is = sym (ap (λ (o : Option ℕ). unwrap_or o 0) size)

      -- what may be cut at first may be cut still
      pub can_still : told → ((u : B) → m.held s ≡ Some u → n < g.byte_count u → g.CanCut u (disk (time a) (key_of m s)) n)
          → (u : B) → now.held s ≡ Some u → n < g.byte_count u → g.CanCut u (disk (time b) (key_of now s)) n
      can_still t can u held longer =
          let v = untouched g gives told time opened faults_of (NeedsCut size_of) (kept_of size_of) (DidCut size_of) (cut_rules size_of time opened faults_of laws) (λ q. IsSome (size_of q)) (Contains ks) (contains_or_not ks)
          m now a b s began walked (has_value (now.held s) (NeedsCut size_of s) u held (subst (λ (k : ℕ). k < g.byte_count u) cut_is longer)) in
          let same : v.value ≡ u = some_same v.value u (sym v.now ∙ held) in
          subst (λ (x : Blob). g.CanCut u x n) (sym (ap (disk (time b)) (same_key m now walked.bounds s) ∙ v.blob t)) (can u (v.was ∙ ap (λ (x : B). Some x) same) longer)

      module _ (c : Dev) (tried : CutTried m a b) (call : CutCall time opened faults_of n s now b c) where
        cut_tries : Tries g gives told time opened faults_of (NeedsCut size_of) (kept_of size_of) (DidCut size_of) s now b c
        cut_tries = let same = subst (λ (k : ℕ). CutCall time opened faults_of k s now b c) cut_is call in
            record { moments = same.moments; idle = same.idle; entries = same.entries; reads = same.reads; faults = same.faults }

        pub cut_tried_more : CutTried m a c
        cut_tried_more = tried_more g gives told time opened faults_of (NeedsCut size_of) (kept_of size_of) (DidCut size_of) (cut_rules size_of time opened faults_of laws) (λ q. IsSome (size_of q)) (Contains ks) (contains_or_not ks)
            m now a b s began walked c tried cut_tries (subst IsSome (sym size) refl)

        pub cut_walked_more : (r : Sections F B) → CutMade time opened n s now r b c → CutWalked (Contains (ks ++ s ∷ [])) m r a c
        cut_walked_more r made =
            let same = subst (λ (k : ℕ). CutMade time opened k s now r b c) cut_is made in
            walked_more g gives told time opened faults_of (NeedsCut size_of) (kept_of size_of) (DidCut size_of) (cut_rules size_of time opened faults_of laws) (λ q. IsSome (size_of q)) (Contains ks) (contains_or_not ks)
            m now a b s began walked c tried cut_tries (Contains (ks ++ s ∷ [])) (λ q done. Contains-append_left ks (s ∷ []) q done) (Contains-push ks s) (λ q done. pushed q (Contains-push_cases ks s q done)) r
            (record { over = same.over; did = same.cut; absent = same.absent; unopened = same.unopened; others = same.others; bounds = same.bounds })
          where
            pushed : (q : ℕ) → Contains ks q ⊎ (s ≡ q) → Contains ks q ⊎ (q ≡ s)
            pushed q (inl before) = inl before
            pushed q (inr is) = inr (sym is)
