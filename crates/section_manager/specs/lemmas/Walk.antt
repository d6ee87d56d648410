-- What calls on one section after another make of a manager, and what they leave of its blobs.
use Rattle.std.specs.Prelude.{◌≡◌, ◌≢◌, ◌⊎◌, ℕ, ◌^◌, ◌<◌, ◌≤◌, Option, None, Some, IsSome, IsSomeAnd}
use Rattle.std.proofs.Common.{inl, inr, refl, sym, ◌∙◌, ap, subst, arith}
use Rattle.std.proofs.lemmas.Bool.{cases_eq}
use Rattle.blob_device.specs.Disk.{Key, Blob, Disk}
use Rattle.blob_device.specs.Opened.{OpenedList}
use Rattle.blob_device.specs.Timeline.{Timeline, disk, Always, OnlyAt, Each}
use Rattle.blob_device.specs.lemmas.Moments.{always_start, always_then, always_weaker, always_now}
use Rattle.blob_device.specs.lemmas.Puts.{same_or_other}
use Rattle.section_manager.specs.declared.buffer.SectionBuffer as buffer
use Rattle.section_manager.specs.Entries.{OnlyOwnEntry, StartsNoRead}
use Rattle.section_manager.specs.Leaving.{Leaves, AllMoments}
use Rattle.section_manager.specs.Setting.{Setting}
use Rattle.section_manager.specs.Sections.{Sections, key_of, IsSame, SameBounds, IsKeyOf, IsOver}
use Rattle.section_manager.specs.lemmas.Keys.{key_injective}
use Rattle.section_manager.specs.lemmas.sections.Over.{same_key}
use Rattle.blob_device.proofs.general.Options.{has_value, none_or_value, some_same, value_of}

pub same_bounds : {F B : Type 0} (m n r : Sections F B) → SameBounds m n → SameBounds n r → SameBounds m r
same_bounds m n r first second = record {
  place = record { partition = second.place.partition ∙ first.place.partition; factory = second.place.factory ∙ first.place.factory };
  floor = second.floor ∙ first.floor;
  ceiling = second.ceiling ∙ first.ceiling;
}

module _ {F B Dev : Type 0} (g : buffer.Ghosts B) (gives : F → Setting) (told : Type 0) (time : Dev → Timeline) (opened : Dev → OpenedList) (faults_of : Dev → ℕ)
    (Acts : ℕ → B → Type 0) (least : ℕ → B → ℕ) (Did : ℕ → B → B → Blob → Blob → Type 0) where
  -- the section is held, and a call on it does something
  abbrev pub IsActing : Sections F B → ℕ → Type 0
  IsActing m s = IsSomeAnd (m.held s) (Acts s)

  -- what a call on one section leaves, also where it fails
  pub record Tries (s : ℕ) (m : Sections F B) (a b : Dev) : Type 0 where
    pub moments : told → AllMoments (key_of m s) (λ x. (u : B) → m.held s ≡ Some u → Leaves (g.NoChanceSeal u) (g.MayKeep u (disk (time a) (key_of m s)) (least s u)) x) (time a) (time b)
    pub idle : (IsActing m s → ⊥) → b ≡ a
    pub entries : OnlyOwnEntry (key_of m s) (opened a) (opened b)
    pub reads : (g.StartsReads → ⊥) → StartsNoRead (opened a) (opened b)
    pub faults : faults_of a ≤ faults_of b

  -- what it makes of the manager
  pub record Makes (s : ℕ) (m r : Sections F B) (a b : Dev) : Type 0 where
    pub over : IsOver g gives told r (opened b) (disk (time b))
    pub did : (u : B) → m.held s ≡ Some u → IsSomeAnd (r.held s) (λ v. Did s u v (disk (time a) (key_of m s)) (disk (time b) (key_of m s)))
    pub absent : m.held s ≡ None → r.held s ≡ None
    pub unopened : r.unopened s ≡ m.unopened s
    pub others : (q : ℕ) → q ≢ s → IsSame m r q
    pub bounds : SameBounds m r

  -- each crash leaves of a named section's blob what has to be kept; a blob on which nothing is done stays
  pub record Walking (m : Sections F B) (IsNamed : ℕ → Type 0) (from : Disk) (q : Key) (x : Blob) : Type 0 where
    pub named : (s : ℕ) (u : B) → IsNamed s → m.held s ≡ Some u → q ≡ key_of m s → Leaves (g.NoChanceSeal u) (g.MayKeep u (from q) (least s u)) x
    pub others : (IsKeyOf m (λ s. IsNamed s × IsActing m s) q → ⊥) → x ≡ from q

  -- what the calls so far leave, also where the last one failed
  pub record Tried (m : Sections F B) (IsNamed : ℕ → Type 0) (a b : Dev) : Type 0 where
    pub moments : told → Always (time a) (time b) (Each (Walking m IsNamed (disk (time a))))
    pub idle : ((s : ℕ) (u : B) → IsNamed s → m.held s ≡ Some u → Acts s u → ⊥) → b ≡ a
    pub entries : (q : Key) → (IsKeyOf m (λ s. IsNamed s × IsActing m s) q → ⊥) → opened b q ≡ opened a q
    pub reads : (g.StartsReads → ⊥) → StartsNoRead (opened a) (opened b)
    pub faults : faults_of a ≤ faults_of b

  -- what they make of the manager
  pub record Walked (IsDone : ℕ → Type 0) (m n : Sections F B) (a b : Dev) : Type 0 where
    pub over : IsOver g gives told n (opened b) (disk (time b))
    pub did : (s : ℕ) (u : B) → IsDone s → m.held s ≡ Some u → IsSomeAnd (n.held s) (λ v. Did s u v (disk (time a) (key_of m s)) (disk (time b) (key_of m s)))
    pub absent : (s : ℕ) → m.held s ≡ None → n.held s ≡ None
    pub others : (s : ℕ) → (IsDone s → ⊥) → n.held s ≡ m.held s
    pub blobs : told → (q : Key) → (IsKeyOf m (λ s. IsDone s × IsActing m s) q → ⊥) → disk (time b) q ≡ disk (time a) q
    pub unopened : (s : ℕ) → n.unopened s ≡ m.unopened s
    pub bounds : SameBounds m n

  -- What is known of one call: it leaves nothing to do, does nothing where nothing is to be done, and the disk counts only where it is told.
  pub record Rules : Type 0 where
    pub decides : (s : ℕ) (u : B) → Acts s u ⊎ (Acts s u → ⊥)
    pub passes : (s : ℕ) (u : B) (x : Blob) → g.Stands u x → Leaves (g.NoChanceSeal u) (g.MayKeep u x (least s u)) x
    pub ends : (s : ℕ) (u v : B) (x y : Blob) → Did s u v x y → Acts s v → ⊥
    pub same : (s : ℕ) (u v : B) (x y : Blob) → Did s u v x y → (Acts s u → ⊥) → v ≡ u
    pub moves : (s : ℕ) (u v : B) (x y old new : Blob) → (told → old ≡ x) → (told → new ≡ y) → Did s u v x y → Did s u v old new

  acts_or_not : Rules → (s : ℕ) (o : Option B) → IsSomeAnd o (Acts s) ⊎ (IsSomeAnd o (Acts s) → ⊥)
  acts_or_not rules s None = inr (λ is. is)
  acts_or_not rules s (Some u) = rules.decides s u

  -- nothing was called yet
  pub tried_start : Rules → (m : Sections F B) (IsNamed : ℕ → Type 0) (a : Dev) → IsOver g gives told m (opened a) (disk (time a)) → Tried m IsNamed a a
  tried_start rules m IsNamed a over = record {
    moments = λ t. always_start (time a) (Each (Walking m IsNamed (disk (time a)))) (λ q. record {
      named = λ s u named held is. subst (λ (k : Key). Leaves (g.NoChanceSeal u) (g.MayKeep u (disk (time a) k) (least s u)) (disk (time a) k)) (sym is)
          (rules.passes s u (disk (time a) (key_of m s)) ((over.disk t).stands s u held));
      others = λ none. refl;
    });
    idle = λ none. refl;
    entries = λ q none. refl;
    reads = λ none q. omega arith;
    faults = omega arith;
  }

  pub walked_start : (IsDone : ℕ → Type 0) (m : Sections F B) (a : Dev) → ((s : ℕ) → IsDone s → ⊥) → IsOver g gives told m (opened a) (disk (time a)) → Walked IsDone m m a a
  walked_start IsDone m a none over = record {
    over = over;
    did = λ s u done held. absurd (none s done);
    absent = λ s held. held;
    others = λ s other. refl;
    blobs = λ t q other. refl;
    unopened = λ s. refl;
    bounds = record { place = record { partition = refl; factory = refl }; floor = refl; ceiling = refl };
  }

  module _ (rules : Rules) (IsNamed IsDone : ℕ → Type 0) (is_done : (s : ℕ) → IsDone s ⊎ (IsDone s → ⊥)) (m n : Sections F B) (a b : Dev) (s : ℕ)
      (began : IsOver g gives told m (opened a) (disk (time a))) (walked : Walked IsDone m n a b) where
    -- what a section on which the call does something was when the calls began
    pub record Untouched : Type 0 where
      pub value : B
      pub was : m.held s ≡ Some value
      pub now : n.held s ≡ Some value
      pub acts : Acts s value
      pub blob : told → disk (time b) (key_of m s) ≡ disk (time a) (key_of m s)

    key_is : (q : ℕ) → key_of n q ≡ key_of m q
    key_is q = same_key m n walked.bounds q

    number : (q : ℕ) (u : B) → m.held q ≡ Some u → q < 2 ^ 64
    number q u held = began.opened_list.number q (inl (subst IsSome (sym held) refl))

    -- a section on which it was done has nothing left to do
    done_idle : IsDone s → IsActing n s → ⊥
    done_idle done acts = elim (none_or_value (m.held s)) [
      | inl none ↦ subst (λ (o : Option B). IsSomeAnd o (Acts s)) (walked.absent s none) acts
      | inr some ↦
          let v = value_of (n.held s) (λ v. Did s some.0 v (disk (time a) (key_of m s)) (disk (time b) (key_of m s))) (walked.did s some.0 done some.1) in
          rules.ends s some.0 v.value _ _ v.has (subst (λ (o : Option B). IsSomeAnd o (Acts s)) v.is acts)
    ]

    blob_before : (IsDone s → ⊥) → (u : B) → m.held s ≡ Some u → told → disk (time b) (key_of m s) ≡ disk (time a) (key_of m s)
    blob_before not_done u held t = walked.blobs t (key_of m s) (λ k.
        let acting = value_of (m.held k.0) (Acts k.0) k.1.1 in
        not_done (subst IsDone (sym (key_injective m.partition s k.0 (number s u held) (number k.0 acting.value acting.is) k.2)) k.1.0))

    pub untouched : IsActing n s → Untouched
    untouched acts =
        let v = value_of (n.held s) (Acts s) acts in
        let not_done : IsDone s → ⊥ = λ done. done_idle done acts in
        let was : m.held s ≡ Some v.value = sym (walked.others s not_done) ∙ v.is in
        record { value = v.value; was = was; now = v.is; acts = v.has; blob = blob_before not_done v.value was }

    -- where the call does something, that was to be done when the calls began
    acting_before : IsActing n s → IsActing m s
    acting_before acts = let u = untouched acts in has_value (m.held s) (Acts s) u.value u.was u.acts

    module _ (c : Dev) (tried : Tried m IsNamed a b) (tries : Tries s n b c) where
      -- only the section's own blob may change, and only where the call does something
      blob_stays : told → (q : Key) → (IsActing n s → q ≢ key_of m s) → disk (time c) q ≡ disk (time b) q
      blob_stays t q other = elim (acts_or_not rules s (n.held s)) [
        | inl acts ↦ (always_now (time b) (time c) _ (tries.moments t)).others q (λ is. other acts (is ∙ key_is s))
        | inr idle ↦ ap (λ (x : Dev). disk (time x) q) (tries.idle idle)
      ]

      still : Tried m IsNamed a b → c ≡ b → Tried m IsNamed a c
      still before is = subst (λ (x : Dev). Tried m IsNamed a x) (sym is) before

      walking_own : IsNamed s → (u : Untouched) (t : told) (d : Disk) → OnlyAt (key_of n s) (disk (time b)) (λ x. (v : B) → n.held s ≡ Some v → Leaves (g.NoChanceSeal v) (g.MayKeep v (disk (time b) (key_of n s)) (least s v)) x) d
          → Walking m IsNamed (disk (time a)) (key_of m s) (d (key_of m s))
      walking_own named u t d only = record {
        named = λ q w is_named held is.
            let same : s ≡ q = key_injective m.partition s q (number s u.value u.was) (number q w held) is in
            let value : Some u.value ≡ Some w = sym u.was ∙ ap m.held same ∙ held in
            subst (λ (v : B). Leaves (g.NoChanceSeal v) (g.MayKeep v (disk (time a) (key_of m s)) (least q v)) (d (key_of m s))) (some_same u.value w value)
            (subst (λ (k : ℕ). Leaves (g.NoChanceSeal u.value) (g.MayKeep u.value (disk (time a) (key_of m s)) (least k u.value)) (d (key_of m s))) same
            (subst (λ (x : Blob). Leaves (g.NoChanceSeal u.value) (g.MayKeep u.value x (least s u.value)) (d (key_of m s))) (u.blob t)
            (subst (λ (k : Key). Leaves (g.NoChanceSeal u.value) (g.MayKeep u.value (disk (time b) k) (least s u.value)) (d k)) (key_is s) (only.here u.value u.now))));
        others = λ none. absurd (none (s, (named, has_value (m.held s) (Acts s) u.value u.was u.acts), refl));
      }

      walking : IsNamed s → (u : Untouched) (t : told) (d : Disk) → OnlyAt (key_of n s) (disk (time b)) (λ x. (v : B) → n.held s ≡ Some v → Leaves (g.NoChanceSeal v) (g.MayKeep v (disk (time b) (key_of n s)) (least s v)) x) d
          → Each (Walking m IsNamed (disk (time a))) d
      walking named u t d only q = elim (same_or_other q (key_of m s)) [
        | inl is ↦ subst (λ (k : Key). Walking m IsNamed (disk (time a)) k (d k)) (sym is) (walking_own named u t d only)
        | inr other ↦ subst (Walking m IsNamed (disk (time a)) q) (sym (only.others q (λ is. other (is ∙ key_is s)))) (always_now (time a) (time b) (Each (Walking m IsNamed (disk (time a)))) (tried.moments t) q)
      ]

      went : IsNamed s → Untouched → Tried m IsNamed a c
      went named u = record {
        moments = λ t. always_then (time a) (time b) (time c) (Each (Walking m IsNamed (disk (time a)))) (tried.moments t)
            (always_weaker (time b) (time c) (OnlyAt (key_of n s) (disk (time b)) (λ x. (v : B) → n.held s ≡ Some v → Leaves (g.NoChanceSeal v) (g.MayKeep v (disk (time b) (key_of n s)) (least s v)) x))
            (Each (Walking m IsNamed (disk (time a)))) (walking named u t) (tries.moments t));
        idle = λ none. absurd (none s u.value named u.was u.acts);
        entries = λ q none.
            let other : q ≢ key_of n s = λ is. none (s, (named, has_value (m.held s) (Acts s) u.value u.was u.acts), is ∙ key_is s) in
            tries.entries q other ∙ tried.entries q none;
        reads = λ starts q. omega (arith, tries.reads starts q, tried.reads starts q);
        faults = omega (arith, tries.faults, tried.faults);
      }

      -- one call more, also where it fails
      pub tried_more : IsNamed s → Tried m IsNamed a c
      tried_more named = elim (acts_or_not rules s (n.held s)) [
        | inl acts ↦ went named (untouched acts)
        | inr idle ↦ still tried (tries.idle idle)
      ]

      module _ (IsDoneNow : ℕ → Type 0) (now_done : (q : ℕ) → IsDone q → IsDoneNow q) (done_now : IsDoneNow s) (new_done : (q : ℕ) → IsDoneNow q → IsDone q ⊎ (q ≡ s)) (r : Sections F B) (makes : Makes s n r b c) where
        -- what was done before is done still, also where the section is called upon again
        did_again : (u : B) → IsDone s → m.held s ≡ Some u → IsSomeAnd (r.held s) (λ w. Did s u w (disk (time a) (key_of m s)) (disk (time c) (key_of m s)))
        did_again u done held =
            let v = value_of (n.held s) (λ v. Did s u v (disk (time a) (key_of m s)) (disk (time b) (key_of m s))) (walked.did s u done held) in
            let w = value_of (r.held s) (λ w. Did s v.value w (disk (time b) (key_of n s)) (disk (time c) (key_of n s))) (makes.did v.value v.is) in
            let same = rules.same s v.value w.value _ _ w.has (rules.ends s u v.value _ _ v.has) in
            let stays : told → disk (time c) (key_of m s) ≡ disk (time b) (key_of m s) = λ t. ap (λ (x : Dev). disk (time x) (key_of m s)) (tries.idle (done_idle done)) in
            has_value (r.held s) (λ w. Did s u w (disk (time a) (key_of m s)) (disk (time c) (key_of m s))) v.value (w.is ∙ ap (λ (x : B). Some x) same)
            (rules.moves s u v.value _ _ _ _ (λ t. refl) stays v.has)

        did_first : (u : B) → (IsDone s → ⊥) → m.held s ≡ Some u → IsSomeAnd (r.held s) (λ w. Did s u w (disk (time a) (key_of m s)) (disk (time c) (key_of m s)))
        did_first u not_done held =
            let w = value_of (r.held s) (λ w. Did s u w (disk (time b) (key_of n s)) (disk (time c) (key_of n s))) (makes.did u (walked.others s not_done ∙ held)) in
            has_value (r.held s) (λ w. Did s u w (disk (time a) (key_of m s)) (disk (time c) (key_of m s))) w.value w.is
            (rules.moves s u w.value _ _ _ _ (λ t. sym (blob_before not_done u held t) ∙ ap (disk (time b)) (sym (key_is s))) (λ t. ap (disk (time c)) (sym (key_is s))) w.has)

        did_other : (q : ℕ) (u : B) → q ≢ s → IsDone q → m.held q ≡ Some u → IsSomeAnd (r.held q) (λ w. Did q u w (disk (time a) (key_of m q)) (disk (time c) (key_of m q)))
        did_other q u other done held =
            let v = value_of (n.held q) (λ v. Did q u v (disk (time a) (key_of m q)) (disk (time b) (key_of m q))) (walked.did q u done held) in
            let stays : told → disk (time c) (key_of m q) ≡ disk (time b) (key_of m q) = λ t. blob_stays t (key_of m q) (λ acts is.
            let touched = untouched acts in other (key_injective m.partition q s (number q u held) (number s touched.value touched.was) is)) in
            has_value (r.held q) (λ w. Did q u w (disk (time a) (key_of m q)) (disk (time c) (key_of m q))) v.value ((makes.others q other).held ∙ v.is)
            (rules.moves q u v.value _ _ _ _ (λ t. refl) stays v.has)

        did_now : (q : ℕ) (u : B) → IsDoneNow q → m.held q ≡ Some u → IsSomeAnd (r.held q) (λ w. Did q u w (disk (time a) (key_of m q)) (disk (time c) (key_of m q)))
        did_now q u done held = elim (cases_eq q s) [
          | inl is ↦ own is
          | inr other ↦ elim (new_done q done) [
            | inl before ↦ did_other q u other before held
            | inr is ↦ absurd (other is)
          ]
        ]
          where
            own : q ≡ s → IsSomeAnd (r.held q) (λ w. Did q u w (disk (time a) (key_of m q)) (disk (time c) (key_of m q)))
            own is =
                let here : m.held s ≡ Some u = ap m.held (sym is) ∙ held in
                subst (λ (k : ℕ). IsSomeAnd (r.held k) (λ w. Did k u w (disk (time a) (key_of m k)) (disk (time c) (key_of m k)))) (sym is)
                (elim (is_done s) [
                  | inl before ↦ did_again u before here
                  | inr first ↦ did_first u first here
                ])

        -- one call more that succeeded
        pub walked_more : Walked IsDoneNow m r a c
        walked_more = record {
          over = makes.over;
          did = did_now;
          absent = λ q none. elim (cases_eq q s) [
            | inl is ↦ subst (λ (k : ℕ). r.held k ≡ None) (sym is) (makes.absent (walked.absent s (ap m.held (sym is) ∙ none)))
            | inr other ↦ (makes.others q other).held ∙ walked.absent q none
          ];
          others = λ q not_done. elim (cases_eq q s) [
            | inl is ↦ absurd (not_done (subst IsDoneNow (sym is) done_now))
            | inr other ↦ (makes.others q other).held ∙ walked.others q (λ done. not_done (now_done q done))
          ];
          blobs = λ t q none. blob_stays t q (λ acts is. none (s, (done_now, acting_before acts), is)) ∙ walked.blobs t q (λ k. none (k.0, (now_done k.0 k.1.0, k.1.1), k.2));
          unopened = λ q. elim (cases_eq q s) [
            | inl is ↦ subst (λ (k : ℕ). r.unopened k ≡ m.unopened k) (sym is) (makes.unopened ∙ walked.unopened s)
            | inr other ↦ (makes.others q other).unopened ∙ walked.unopened q
          ];
          bounds = same_bounds m n r walked.bounds makes.bounds;
        }
