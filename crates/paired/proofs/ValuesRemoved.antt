-- What is left of a glob where the values of some sections are removed, one after another.
use Rattle.std.specs.Prelude.{◌≡◌, ◌≢◌, ◌⊎◌, ◌↔◌, ℕ, ◌^◌, ◌<◌, ◌≤◌, Bool, true, false, List, [], ◌∷◌, ◌++◌, None, IsSome}
use Rattle.std.proofs.Common.{inl, inr, refl, sym, ◌∙◌, ap, subst, arith}
use Rattle.std.specs.List.{Contains}
use Rattle.std.proofs.lemmas.Bool.{cases_eq}
use Rattle.std.proofs.lemmas.List.Elements.{Contains-append_left, Contains-push, Contains-push_cases}
use Rattle.blob_device.specs.Disk.{Key, Disk, nothing}
use Rattle.blob_device.specs.Opened.{OpenedList}
use Rattle.blob_device.specs.Timeline.{Timeline, disk, Always, OnlyAt}
use Rattle.blob_device.specs.lemmas.Moments.{always_start, always_then, always_weaker, always_now}
use Rattle.sealed_pages.specs.declared.write_blob.WriteBlob.{WriteBlob}
use Rattle.section_manager.specs.Lasting.{IsGoing, EntriesLeave}
use Rattle.section_manager.specs.Leaving.{AllMoments}
use Rattle.section_manager.specs.Sections.{Sections, key_of, IsHeld, IsSame, SameBounds, IsKeyOf}
use Rattle.section_manager.specs.Setting.{Setting}
use Rattle.section_manager.specs.lemmas.Keys.{keys_differ}
use Rattle.paired.specs.lemmas.Glob.{buffers}
use Rattle.section_manager.specs.lemmas.Walk.{same_bounds}
use Rattle.section_manager.specs.lemmas.sections.Over.{same_key}
use Rattle.paired.specs.glob.Sections.{IsGlob, section_bytes}
use Rattle.blob_device.proofs.general.Lists.{contains_or_not, first_in, first_or_later, later_in}
use Rattle.blob_device.proofs.general.Options.{none_or_value}

-- no blob changes but those of named sections that are held
abbrev pub OnlyHeld : {F : Type 0} → Sections F WriteBlob → (ℕ → Type 0) → Disk → Disk → Type 0
OnlyHeld m IsNamed from d = (q : Key) → (IsKeyOf m (λ s. IsNamed s × IsHeld m s) q → ⊥) → d q ≡ from q

-- the removal of one section, as the call promises it, also where it fails
pub record RemovesOne {F Dev : Type 0} (m : Sections F WriteBlob) (told : Type 0) (time : Dev → Timeline) (opened : Dev → OpenedList) (faults_of : Dev → ℕ) (s : ℕ) (b c : Dev) : Type 0 where
  pub moments : told → AllMoments (key_of m s) (IsGoing (disk (time b) (key_of m s))) (time b) (time c)
  pub absent : m.held s ≡ None → c ≡ b
  pub entries : EntriesLeave (λ q. q ≡ key_of m s) (opened b) (opened c)
  pub faults : faults_of b ≤ faults_of c

-- and where it succeeds
pub record RemovedOne {F Dev : Type 0} (m n : Sections F WriteBlob) (gives : F → Setting) (told : Type 0) (time : Dev → Timeline) (opened : Dev → OpenedList) (s : ℕ) (b c : Dev) : Type 0 where
  pub over : IsGlob buffers gives told n (opened c) (disk (time c))
  pub removed : n.held s ≡ None
  pub others : (q : ℕ) → q ≢ s → IsSame m n q
  pub bytes : told → (q : ℕ) → q ≢ s → section_bytes n (disk (time c)) q ≡ section_bytes m (disk (time b)) q
  pub unopened : n.unopened s ≡ m.unopened s
  pub bounds : SameBounds m n
  pub gone : told → IsHeld m s → disk (time c) (key_of m s) ≡ nothing

-- what the removals so far left, also where the last one failed
pub record ValuesTried {F Dev : Type 0} (m : Sections F WriteBlob) (told : Type 0) (time : Dev → Timeline) (opened : Dev → OpenedList) (faults_of : Dev → ℕ) (IsNamed : ℕ → Type 0) (a b : Dev) : Type 0 where
  pub moments : told → Always (time a) (time b) (OnlyHeld m IsNamed (disk (time a)))
  pub idle : ((s : ℕ) → IsNamed s → m.held s ≡ None) → b ≡ a
  pub entries : EntriesLeave (IsKeyOf m IsNamed) (opened a) (opened b)
  pub faults : faults_of a ≤ faults_of b

-- what they made of the glob
pub record ValuesGone {F Dev : Type 0} (m n : Sections F WriteBlob) (gives : F → Setting) (told : Type 0) (time : Dev → Timeline) (opened : Dev → OpenedList) (faults_of : Dev → ℕ) (IsNamed : ℕ → Type 0) (ks : List ℕ) (a b : Dev) : Type 0 where
  pub tried : ValuesTried m told time opened faults_of IsNamed a b
  pub over : IsGlob buffers gives told n (opened b) (disk (time b))
  pub removed : (s : ℕ) → Contains ks s → n.held s ≡ None
  pub others : (s : ℕ) → (Contains ks s → ⊥) → IsSame m n s
  pub bytes : told → (s : ℕ) → (Contains ks s → ⊥) → section_bytes n (disk (time b)) s ≡ section_bytes m (disk (time a)) s
  pub unopened : (s : ℕ) → n.unopened s ≡ m.unopened s
  pub bounds : SameBounds m n
  pub gone : told → (s : ℕ) → Contains ks s → IsHeld m s → disk (time b) (key_of m s) ≡ nothing

module _ {F Dev : Type 0} (gives : F → Setting) (told : Type 0) (time : Dev → Timeline) (opened : Dev → OpenedList) (faults_of : Dev → ℕ) (IsNamed : ℕ → Type 0) where
  -- nothing was removed yet
  pub gone_start : (m : Sections F WriteBlob) (a : Dev) → IsGlob buffers gives told m (opened a) (disk (time a)) → ValuesGone m m gives told time opened faults_of IsNamed [] a a
  gone_start m a over = record {
    tried = record {
      moments = λ t. always_start (time a) (OnlyHeld m IsNamed (disk (time a))) (λ q none. refl);
      idle = λ none. refl;
      entries = λ q. inl refl;
      faults = omega arith;
    };
    over = over;
    removed = λ s has. absurd (omega (arith, has.1));
    others = λ s none. record { held = refl; unopened = refl };
    bytes = λ t s none. refl;
    unopened = λ s. refl;
    bounds = record { place = record { partition = refl; factory = refl }; floor = refl; ceiling = refl };
    gone = λ t s has held. absurd (omega (arith, has.1));
  }

  -- one section more
  module _ (m n : Sections F WriteBlob) (ks : List ℕ) (s : ℕ) (named : IsNamed s) (a b : Dev) (began : IsGlob buffers gives told m (opened a) (disk (time a)))
      (walked : ValuesGone m n gives told time opened faults_of IsNamed ks a b) (c : Dev) (call : RemovesOne n told time opened faults_of s b c) where
    key_is : (q : ℕ) → key_of n q ≡ key_of m q
    key_is q = same_key m n walked.bounds q

    -- a section that is held still was so at first, and was not removed
    held_first : IsHeld n s → IsHeld m s × (Contains ks s → ⊥)
    held_first held =
        let never : Contains ks s → ⊥ = λ has. absurd (cc (subst IsSome (walked.removed s has) held)) in
        (subst IsSome (walked.others s never).held held, never)

    never_held : m.held s ≡ None → n.held s ≡ None
    never_held none = elim (contains_or_not ks s) [
      | inl has ↦ walked.removed s has
      | inr never ↦ (walked.others s never).held ∙ none
    ]

    entries_then : EntriesLeave (IsKeyOf m IsNamed) (opened a) (opened c)
    entries_then q = elim (call.entries q) [
      | inl same ↦ elim (walked.tried.entries q) [
        | inl before ↦ inl (same ∙ before)
        | inr left ↦ inr (left.0, same ∙ left.1)
      ]
      | inr left ↦ inr ((s, named, left.0 ∙ key_is s), left.1)
    ]

    tried_on : IsHeld n s → ValuesTried m told time opened faults_of IsNamed a c
    tried_on held = record {
      moments = λ t. always_then (time a) (time b) (time c) (OnlyHeld m IsNamed (disk (time a))) (walked.tried.moments t)
          (always_weaker (time b) (time c) (OnlyAt (key_of n s) (disk (time b)) (IsGoing (disk (time b) (key_of n s)))) (OnlyHeld m IsNamed (disk (time a)))
          (λ d only q none. only.others q (λ is. none (s, (named, (held_first held).0), is ∙ key_is s)) ∙ always_now (time a) (time b) (OnlyHeld m IsNamed (disk (time a))) (walked.tried.moments t) q none)
          (call.moments t));
      idle = λ none. absurd (cc (subst IsSome (never_held (none s named)) held));
      entries = entries_then;
      faults = omega (arith, call.faults, walked.tried.faults);
    }

    -- also where the call fails
    pub gone_tried : ValuesTried m told time opened faults_of IsNamed a c
    gone_tried = elim (none_or_value (n.held s)) [
      | inl none ↦ subst (λ (x : Dev). ValuesTried m told time opened faults_of IsNamed a x) (sym (call.absent none)) walked.tried
      | inr some ↦ tried_on (subst IsSome (sym some.1) refl)
    ]

    small : (q : ℕ) → IsHeld m q → q < 2 ^ 64
    small q held = began.over.opened_list.number q (inl held)

    -- the blob of another section that was held stays
    other_blob : told → (q : ℕ) → q ≢ s → IsHeld m q → disk (time c) (key_of m q) ≡ disk (time b) (key_of m q)
    other_blob t q other held = elim (none_or_value (n.held s)) [
      | inl none ↦ ap (λ (x : Dev). disk (time x) (key_of m q)) (call.absent none)
      | inr some ↦
          let mine = held_first (subst IsSome (sym some.1) refl) in
          (always_now (time b) (time c) (OnlyAt (key_of n s) (disk (time b)) (IsGoing (disk (time b) (key_of n s)))) (call.moments t)).others (key_of m q)
          (λ is. keys_differ m.partition q s (small q held) (small s mine.0) other (is ∙ key_is s))
    ]

    module _ (r : Sections F WriteBlob) (made : RemovedOne n r gives told time opened s b c) where
      own_gone : told → IsHeld m s → disk (time c) (key_of m s) ≡ nothing
      own_gone t held = elim (contains_or_not ks s) [
        | inl has ↦ ap (λ (x : Dev). disk (time x) (key_of m s)) (call.absent (walked.removed s has)) ∙ walked.gone t s has held
        | inr never ↦ subst (λ (k : Key). disk (time c) k ≡ nothing) (key_is s) (made.gone t (subst IsSome (sym (walked.others s never).held) held))
      ]

      before : (q : ℕ) → q ≢ s → Contains (ks ++ s ∷ []) q → Contains ks q
      before q other has = elim (Contains-push_cases ks s q has) [
        | inl had ↦ had
        | inr is ↦ absurd (other (sym is))
      ]

      not_mine : (q : ℕ) → (Contains (ks ++ s ∷ []) q → ⊥) → q ≢ s
      not_mine q never is = never (subst (Contains (ks ++ s ∷ [])) (sym is) (Contains-push ks s))

      not_before : (q : ℕ) → (Contains (ks ++ s ∷ []) q → ⊥) → Contains ks q → ⊥
      not_before q never has = never (Contains-append_left ks (s ∷ []) q has)

      pub gone_more : ValuesGone m r gives told time opened faults_of IsNamed (ks ++ s ∷ []) a c
      gone_more = record {
        tried = gone_tried;
        over = made.over;
        removed = λ q has. elim (cases_eq q s) [
          | inl is ↦ subst (λ (x : ℕ). r.held x ≡ None) (sym is) made.removed
          | inr other ↦ (made.others q other).held ∙ walked.removed q (before q other has)
        ];
        others = λ q never. record {
          held = (made.others q (not_mine q never)).held ∙ (walked.others q (not_before q never)).held;
          unopened = (made.others q (not_mine q never)).unopened ∙ (walked.others q (not_before q never)).unopened;
        };
        bytes = λ t q never. made.bytes t q (not_mine q never) ∙ walked.bytes t q (not_before q never);
        unopened = λ q. elim (cases_eq q s) [
          | inl is ↦ subst (λ (x : ℕ). r.unopened x ≡ m.unopened x) (sym is) (made.unopened ∙ walked.unopened s)
          | inr other ↦ (made.others q other).unopened ∙ walked.unopened q
        ];
        bounds = same_bounds m n r walked.bounds made.bounds;
        gone = λ t q has held. elim (cases_eq q s) [
          | inl is ↦ subst (λ (x : ℕ). disk (time c) (key_of m x) ≡ nothing) (sym is) (own_gone t (subst (IsHeld m) is held))
          | inr other ↦ other_blob t q other held ∙ walked.gone t q (before q other has) held
        ];
      }

-- ---- the sections of values that are not among some others, as far as they were gone over
pub record AreAlone {F B : Type 0} (m : Sections F B) (has : ℕ → Bool) (items left : List ℕ) : Type 0 where
  pub alone : (s : ℕ) → Contains items s → IsHeld m s × (has s ≡ false)
  pub held : (s : ℕ) → Contains left s → IsHeld m s
  pub each : (s : ℕ) → IsHeld m s → has s ≡ false → Contains items s ⊎ Contains left s

module _ {F B : Type 0} (m : Sections F B) (has : ℕ → Bool) where
  pub alone_start : (left : List ℕ) → ((s : ℕ) → Contains left s ↔ IsHeld m s) → AreAlone m has [] left
  alone_start left all = record {
    alone = λ s is. absurd (omega (arith, is.1));
    held = λ s is. (all s).0 is;
    each = λ s held none. inr ((all s).1 held);
  }

  -- one that is among them is passed over
  pub alone_pass : (x : ℕ) (items later : List ℕ) → has x ≡ true → AreAlone m has items (x ∷ later) → AreAlone m has items later
  alone_pass x items later there was = record {
    alone = was.alone;
    held = λ s is. was.held s (later_in x later s is);
    each = λ s held none. elim (was.each s held none) [
      | inl is ↦ inl is
      | inr is ↦ elim (first_or_later x later s is) [
        | inl same ↦ absurd (cc (ap has same, there, none))
        | inr more ↦ inr more
      ]
    ];
  }

  -- one that is not is added
  pub alone_more : (x : ℕ) (items later : List ℕ) → has x ≡ false → AreAlone m has items (x ∷ later) → AreAlone m has (items ++ x ∷ []) later
  alone_more x items later none was = record {
    alone = λ s is. elim (Contains-push_cases items x s is) [
      | inl before ↦ was.alone s before
      | inr same ↦ (subst (IsHeld m) same (was.held x (first_in x later)), ap has (sym same) ∙ none)
    ];
    held = λ s is. was.held s (later_in x later s is);
    each = λ s held away. elim (was.each s held away) [
      | inl is ↦ inl (Contains-append_left items (x ∷ []) s is)
      | inr is ↦ elim (first_or_later x later s is) [
        | inl same ↦ inl (subst (Contains (items ++ x ∷ [])) same (Contains-push items x))
        | inr more ↦ inr more
      ]
    ];
  }

  pub alone_all : (items left : List ℕ) → left ≡ [] → AreAlone m has items left → (s : ℕ) → Contains items s ↔ (IsHeld m s × (has s ≡ false))
  alone_all items left none was s = (
    was.alone s,
    λ is. elim (was.each s is.0 is.1) [
      | inl here ↦ here
      | inr more ↦ absurd (omega (arith, (subst (λ (l : List ℕ). Contains l s) none more).1))
    ],
  )
