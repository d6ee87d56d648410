-- What the opening of a section's blob leaves of the blobs, of the list of opened ones and of the manager.
use Rattle.std.specs.Prelude.{◌≡◌, ◌≢◌, ◌↔◌, ℕ, ◌^◌, ◌<◌, ◌≤◌, Bool, false, Option, None, Some, is_some, IsSome, IsSomeAnd, OnSome, IsTrue, Result, Ok, Err}
use Rattle.std.proofs.Common.{inl, inr, refl, sym, ◌∙◌, ap, subst, arith}
use Rattle.std.proofs.lemmas.Bool.{cases_eq, cases_lt}
use Rattle.blob_device.specs.declared.error.DevError.{DevError}
use Rattle.blob_device.specs.Change.{Make, done}
use Rattle.blob_device.specs.Disk.{Key, Blob, Disk}
use Rattle.blob_device.specs.Opened.{Opened, OpenedList, entered, reads_of}
use Rattle.blob_device.specs.Timeline.{Timeline, disk, Passes, OnlyAt}
use Rattle.blob_device.specs.lemmas.Moments.{always_then, always_weaker, always_now, only_start, only_on, ok_blob, err_has}
use Rattle.blob_device.specs.lemmas.Opened.{entered_other}
use Rattle.blob_device.specs.lemmas.Puts.{put_same, same_or_other}
use Rattle.sealed_pages.specs.Cutting.{StandsSettled}
use Rattle.sealed_pages.specs.Entries.{IsOpenAt}
use Rattle.sealed_pages.specs.Reading.{Unchanged}
use Rattle.sealed_pages.specs.lemmas.looking.Looking.{unchanged_now}
use Rattle.section_manager.specs.lemmas.sections.Over.{known_same, over_changed, same_key}
use Rattle.section_manager.specs.declared.buffer.SectionBuffer as buffer
use Rattle.section_manager.specs.Entries.{OnlyOwnEntry, StartsNoRead}
use Rattle.section_manager.specs.Lasting.{IsOpening}
use Rattle.section_manager.specs.Leaving.{AllMoments}
use Rattle.section_manager.specs.Refusing.{IsPruned}
use Rattle.section_manager.specs.Sections.{Sections, key_of, IsKnown, IsSame, SameBounds, StandsOver, IsOver}
use Rattle.section_manager.specs.Setting.{Setting}

-- The blob at k is made, by a call that names it p.
module _ (k p : Key) (is : p ≡ k) (a b : Timeline) where
  pub opening_moments : {T : Type 0} (r : Result T DevError) → Passes p Make r a b → AllMoments k (IsOpening (disk a k)) a b
  opening_moments {T = T} r passes = subst (λ (q : Key). AllMoments q (IsOpening (disk a q)) a b) is
      (only_on a a b p (disk a) (IsOpening (disk a p)) Make r (only_start a p (IsOpening (disk a p)) (inl refl)) passes (inr (inl (inl refl))) (after r passes))
    where
      after : (q : Result T DevError) → Passes p Make q a b → IsOpening (disk a p) (disk b p)
      after (Ok v) goes = inr (inr (ok_blob p Make v a b goes))
      after (Err e) goes = err_has {T = T} (IsOpening (disk a p)) p Make e a b goes (inl refl) (λ new failed. inr (inl failed))

  pub made_blob : {T : Type 0} (v : T) → Passes p Make (Ok v) a b → disk b k ≡ done Make (disk a k)
  made_blob v passes = subst (λ (q : Key). disk b q ≡ done Make (disk a q)) is (ok_blob p Make v a b passes)

  -- and then no blob changes
  module _ (c : Timeline) (look : Unchanged b c) where
    pub opened_moments : {T : Type 0} (r : Result T DevError) → Passes p Make r a b → AllMoments k (IsOpening (disk a k)) a c
    opened_moments r passes =
        let first = opening_moments r passes in
        let now = always_now a b (OnlyAt k (disk a) (IsOpening (disk a k))) first in
        always_then a b c (OnlyAt k (disk a) (IsOpening (disk a k))) first
        (always_weaker b c (λ d. d ≡ disk b) (OnlyAt k (disk a) (IsOpening (disk a k))) (λ d same. subst (OnlyAt k (disk a) (IsOpening (disk a k))) (sym same) now) look)

    pub opened_made : {T : Type 0} (v : T) → Passes p Make (Ok v) a b → disk c k ≡ done Make (disk a k)
    opened_made v passes = ap (λ (d : Disk). d k) (unchanged_now b c look) ∙ made_blob v passes

    -- what holds of a buffer over the blob, which has settled, by another name of it
    pub opened_has : {T : Type 0} (v : T) (q : Key) (P : Blob → Type 0) → q ≡ k → Passes p Make (Ok v) a b → (StandsSettled (disk b q) → P (disk b q)) → P (disk c k)
    opened_has v q P same passes has = subst P (sym (ap (λ (d : Disk). d k) (unchanged_now b c look)))
        (subst (λ (x : Key). StandsSettled (disk b x) → P (disk b x)) same has (subst StandsSettled (sym (made_blob v passes)) refl))

-- The blob at k is entered in the list, by a call that names it p.
module _ (k p : Key) (is : p ≡ k) (n : ℕ) (old mid : OpenedList) (enters : mid ≡ entered old p n) where
  here : mid p ≡ Some (record { len = n; reads = reads_of (old p) })
  here = ap (λ (o : OpenedList). o p) enters ∙ put_same old p (Some (record { len = n; reads = reads_of (old p) }))

  pub entered_at : (q : Key) → q ≡ k → IsOpenAt mid q n
  entered_at q same = subst (λ (x : Key). IsOpenAt mid x n) (is ∙ sym same) (subst (λ (o : Option Opened). IsSomeAnd o (λ e. e.len ≡ n)) (sym here) refl)

  pub entered_entries : (new : OpenedList) (q : Key) → q ≡ k → OnlyOwnEntry q mid new → OnlyOwnEntry k old new
  entered_entries new q same only x other = only x (λ e. other (e ∙ same)) ∙ entered_other mid old p x n enters (λ e. other (e ∙ is))

  pub entered_reads : (new : OpenedList) → new ≡ mid → StartsNoRead old new
  entered_reads new same q = elim (same_or_other q p) [
    | inl at ↦ subst (λ (x : Key). reads_of (new x) ≤ reads_of (old x)) (sym at) (omega (arith, ap reads_of (ap (λ (o : OpenedList). o p) same ∙ here)))
    | inr other ↦ omega (arith, ap reads_of (ap (λ (o : OpenedList). o q) same ∙ entered_other mid old p q n enters other))
  ]

-- what is found out before the opening
pub not_held : {X : Type 0} (o : Option X) (b : Bool) → IsTrue b ↔ IsSome o → b ≡ false → o ≡ None
not_held None b is out = refl
not_held (Some x) b is out = absurd (cc (is.1 refl, out))

pub not_pruned : {T : Type 0} (v : T) (floor s : ℕ) → IsPruned (Ok v) floor ↔ (s < floor) → floor ≤ s
not_pruned v floor s is = elim (cases_lt s floor) [
  | inl below ↦ absurd (cc (is.1 below))
  | inr from ↦ from
]

-- what a look-up has lent
pub on_some : {T : Type 0} (o : Option T) (x : T) (P : Type 0) → o ≡ Some x → OnSome o P → P
on_some None x P is has = absurd (cc is)
on_some (Some y) x P is has = has

module _ {F B : Type 0} where
  -- sections of which none changed
  pub same_sections : (m n : Sections F B) → SameBounds m n → ((q : ℕ) → IsSame m n q) → m ≡ n
  same_sections m n bounds same = λ i. record {
    partition = sym bounds.place.partition i;
    factory = sym bounds.place.factory i;
    held = λ q. sym (same q).held i;
    unopened = λ q. sym (same q).unopened i;
    floor = sym bounds.floor i;
    ceiling = sym bounds.ceiling i;
  }

  -- one section's facts and those of all others
  pub all_same : (m n : Sections F B) (s : ℕ) → IsSame m n s → ((q : ℕ) → q ≢ s → IsSame m n q) → (q : ℕ) → IsSame m n q
  all_same m n s here others q = elim (cases_eq q s) [
    | inl is ↦ subst (IsSame m n) (sym is) here
    | inr other ↦ others q other
  ]

module _ {F B : Type 0} (g : buffer.Ghosts B) (gives : F → Setting) where
  pub same_over : {told : Type 0} (m n : Sections F B) (opened : OpenedList) (d : Disk) → SameBounds m n → ((q : ℕ) → IsSame m n q) → IsOver g gives told m opened d → IsOver g gives told n opened d
  same_over {told = told} m n opened d bounds same over = subst (λ (x : Sections F B). IsOver g gives told x opened d) (same_sections m n bounds same) over

  -- The section's blob may have been opened or made: it is known, and not held.
  pub unopened_over : {told : Type 0} (m mid n : Sections F B) (old new : OpenedList) (a b : Timeline) (s : ℕ) → s < 2 ^ 64 → m.floor ≤ s → SameBounds m mid → SameBounds m n → ((q : ℕ) → q ≢ s → IsSame m n q)
      → n.held s ≡ None → IsSome (n.unopened s) → OnlyOwnEntry (key_of mid s) old new → (told → AllMoments (key_of mid s) (IsOpening (disk a (key_of mid s))) a b)
      → IsOver g gives told m old (disk a) → IsOver g gives told n new (disk b)
  unopened_over {told = told} m mid n old new a b s small floor stays bounds others out known entries moments over = over_changed g gives m n old new (disk a) (disk b) s over (record {
    number = small;
    bounds = bounds;
    others = others;
    entries = subst (λ (k : Key). OnlyOwnEntry k old new) here entries;
    blobs = λ tells. subst (λ (k : Key). (q : Key) → q ≢ k → disk b q ≡ disk a q) here (always_now a b (OnlyAt (key_of mid s) (disk a) (IsOpening (disk a (key_of mid s)))) (moments tells)).others;
    opened = record {
      key = λ u held. absurd (cc (out, held));
      setting = λ u held. absurd (cc (out, held));
      is_open = λ u held. absurd (cc (out, held));
      to_ceiling = λ held. absurd (cc (ap is_some out, held));
      apart = λ held. absurd (cc (ap is_some out, held));
      from_floor = λ some. omega (arith, bounds.floor, floor);
    };
    disk = λ tells. record { stands = λ u held. absurd (cc (out, held)); whose = λ there. inr known };
  })
    where
      here : key_of mid s ≡ key_of m s
      here = same_key m mid stays s

module _ {F B : Type 0} (g : buffer.Ghosts B) (m n : Sections F B) (s : ℕ) (w : B) (bounds : SameBounds m n) (put : n.held s ≡ Some w) (others : (q : ℕ) → q ≢ s → IsSame m n q) where
  is_put : (u : B) → n.held s ≡ Some u → w ≡ u
  is_put u held = cc (put, held)

  -- A buffer that stands over the section's blob is put in.
  pub put_stands : (d : Disk) → StandsOver g m d → g.Stands w (d (key_of m s)) → StandsOver g n d
  put_stands d stands at = record {
    stands = λ q u held. elim (cases_eq q s) [
      | inl is ↦ subst (λ (x : ℕ). n.held x ≡ Some u → g.Stands u (d (key_of n x))) (sym is)
          (λ same. subst (λ (x : B). g.Stands x (d (key_of n s))) (is_put u same) (subst (λ (k : Key). g.Stands w (d k)) (sym (same_key m n bounds s)) at)) held
      | inr other ↦ subst (λ (k : Key). g.Stands u (d k)) (sym (same_key m n bounds q)) (stands.stands q u (sym (others q other).held ∙ held))
    ];
    whose = λ q small there. elim (cases_eq q s) [
      | inl is ↦ subst (λ (x : ℕ). IsKnown n x) (sym is) (inl (ap is_some put))
      | inr other ↦ known_same m n q (others q other) (stands.whose q small (subst (λ (k : Key). IsTrue (d k).there) (same_key m n bounds q) there))
    ];
  }
