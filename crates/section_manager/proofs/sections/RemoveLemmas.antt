-- What removing sections, one after another, leaves of the manager, of its blobs and of the list of opened blobs.
use Rattle.std.specs.Prelude.{◌≡◌, ◌≢◌, ◌↔◌, ◌⊎◌, ℕ, ◌^◌, ◌-◌, ◌<◌, ◌≤◌, Bool, false, IsTrue, Option, None, Some, IsSome, Result, Ok, Err}
use Rattle.std.proofs.Common.{inl, inr, refl, sym, ◌∙◌, ap, subst, arith}
use Rattle.std.proofs.lemmas.Bool.{cases_eq}
use Rattle.blob_device.specs.declared.error.DevError.{DevError}
use Rattle.blob_device.specs.Change.{Remove}
use Rattle.blob_device.specs.Disk.{Key, Blob, Disk, nothing}
use Rattle.blob_device.specs.Opened.{OpenedList, left}
use Rattle.blob_device.specs.Timeline.{Timeline, disk, Passes, Always, OnlyAt}
use Rattle.blob_device.specs.lemmas.Moments.{always_now, always_then, always_weaker, only_start, only_on, ok_blob, err_has}
use Rattle.blob_device.specs.lemmas.Opened.{left_other}
use Rattle.blob_device.specs.lemmas.Puts.{put_same, same_or_other}
use Rattle.section_manager.specs.declared.buffer.SectionBuffer as buffer
use Rattle.section_manager.specs.declared.manager.removing.Doomed.{Doomed}
use Rattle.section_manager.specs.declared.manager.removing.Doomed.TheVariants.{Through, After}
use Rattle.section_manager.specs.Doomed.{IsDoomed, GoesBefore}
use Rattle.section_manager.specs.Lasting.{IsGoing, Removing, EntriesLeave}
use Rattle.section_manager.specs.Leaving.{AllMoments}
use Rattle.section_manager.specs.Sections.{Sections, key_of, IsHeld, IsKnown, IsSection, IsGone, IsSame, SameBounds, IsKeyOf, IsOver}
use Rattle.section_manager.specs.Setting.{Setting}
use Rattle.section_manager.specs.lemmas.Keys.{keys_differ}
use Rattle.section_manager.specs.lemmas.Walk.{same_bounds}
use Rattle.section_manager.specs.lemmas.sections.Over.{over_changed, same_key}
use Rattle.section_manager.specs.lemmas.sections.Remove.{doomed_known, doomed_same, gone_then, gone_unknown, known_or_not, same_doomed, same_section, same_then, section_known, section_same, start_bounds, unknown_gone}

-- nothing stays nothing while it is removed
going_nothing : (b : Blob) → IsGoing nothing b → b ≡ nothing
going_nothing b (inl is) = is
going_nothing b (inr (inl (inl is))) = is
going_nothing b (inr (inl (inr is))) = is
going_nothing b (inr (inr is)) = is

-- one blob is removed
going : {T : Type 0} (k : Key) (r : Result T DevError) (a b : Timeline) → Passes k Remove r a b → AllMoments k (IsGoing (disk a k)) a b
going {T = T} k r a b passes = only_on a a b k (disk a) (IsGoing (disk a k)) Remove r (only_start a k (IsGoing (disk a k)) (inl refl)) passes (inr (inl (inl refl))) (after r passes)
  where
    after : (s : Result T DevError) → Passes k Remove s a b → IsGoing (disk a k) (disk b k)
    after (Ok v) p = inr (inr (ok_blob k Remove v a b p))
    after (Err e) p = err_has {T = T} (IsGoing (disk a k)) k Remove e a b p (inl refl) (λ new failed. inr (inl failed))

-- by the key that the call was made with
module _ {T : Type 0} (j k : Key) (same : j ≡ k) (a b : Timeline) where
  pub going_moments : (r : Result T DevError) → Passes j Remove r a b → AllMoments k (IsGoing (disk a k)) a b
  going_moments r passes = going k r a b (subst (λ (x : Key). Passes x Remove r a b) same passes)

  pub gone_blob : (v : T) → Passes j Remove (Ok v) a b → disk b k ≡ nothing
  gone_blob v passes = ok_blob k Remove v a b (subst (λ (x : Key). Passes {T = T} x Remove (Ok v) a b) same passes)

  pub other_blobs : (r : Result T DevError) → Passes j Remove r a b → (q : Key) → q ≢ k → disk b q ≡ disk a q
  other_blobs r passes = (always_now a b (OnlyAt k (disk a) (IsGoing (disk a k))) (going_moments r passes)).others

-- its entry leaves the list
left_here : (k : Key) (old new : OpenedList) → new ≡ left old k → EntriesLeave (λ q. q ≡ k) old new
left_here k old new is q = elim (same_or_other q k) [
  | inl here ↦ inr (here, ap (λ (o : OpenedList). o q) is ∙ subst (λ (p : Key). left old k p ≡ None) (sym here) (put_same old k None))
  | inr other ↦ inl (left_other new old k q is other)
]

pub entry_left : (j k : Key) → j ≡ k → (old new : OpenedList) → new ≡ left old j → EntriesLeave (λ q. q ≡ k) old new
entry_left j k same old new is = left_here k old new (subst (λ (x : Key). new ≡ left old x) same is)

pub entry_may_leave : (j k : Key) → j ≡ k → (old new : OpenedList) → (new ≡ old) ⊎ (new ≡ left old j) → EntriesLeave (λ q. q ≡ k) old new
entry_may_leave j k same old new (inl is) = λ q. inl (ap (λ (o : OpenedList). o q) is)
entry_may_leave j k same old new (inr is) = entry_left j k same old new is

pub entries_weaker : (P Q : Key → Type 0) (old new : OpenedList) → ((q : Key) → P q → Q q) → EntriesLeave P old new → EntriesLeave Q old new
entries_weaker P Q old new weaker leave q = elim (leave q) [
  | inl same ↦ inl same
  | inr gone ↦ inr (weaker q gone.0, gone.1)
]

pub entries_then : (P : Key → Type 0) (a b c : OpenedList) → EntriesLeave P a b → EntriesLeave P b c → EntriesLeave P a c
entries_then P a b c first second q = elim (second q) [
  | inl same ↦ elim (first q) [
    | inl before ↦ inl (same ∙ before)
    | inr gone ↦ inr (gone.0, same ∙ gone.1)
  ]
  | inr gone ↦ inr gone
]

pub no_some : {T : Type 0} (o : Option T) → ((v : T) → o ≡ Some v → ⊥) → o ≡ None
no_some None not = refl
no_some (Some v) not = absurd (not v refl)

before_once : (doomed : Doomed) (s t : ℕ) → GoesBefore doomed s t → GoesBefore doomed t s → ⊥
before_once (Through last) s t one two = omega (arith, one, two)
before_once (After kept) s t one two = omega (arith, one, two)

module _ {F B : Type 0} (g : buffer.Ghosts B) (gives : F → Setting) {told : Type 0} (m n : Sections F B) (old new : OpenedList) (d e : Disk) (s : ℕ) where
  -- the section is gone, and so is its blob
  pub over_gone : IsOver g gives told m old d → s < 2 ^ 64 → SameBounds m n → ((q : ℕ) → q ≢ s → IsSame m n q) → IsGone n s → EntriesLeave (λ q. q ≡ key_of m s) old new
      → (told → (q : Key) → q ≢ key_of m s → e q ≡ d q) → (told → e (key_of m s) ≡ nothing) → IsOver g gives told n new e
  over_gone over small bounds others gone leave blobs none = over_changed g gives m n old new d e s over (record {
    number = small;
    bounds = bounds;
    others = others;
    entries = λ q other. elim (leave q) [
      | inl same ↦ same
      | inr away ↦ absurd (other away.0)
    ];
    blobs = blobs;
    opened = record {
      key = λ u held. absurd (cc (gone.held, held));
      setting = λ u held. absurd (cc (gone.held, held));
      is_open = λ u held. absurd (cc (gone.held, held));
      to_ceiling = λ held. absurd (cc (subst IsSome gone.held held));
      apart = λ held. absurd (cc (subst IsSome gone.held held));
      from_floor = λ known. absurd (gone_unknown n s gone known);
    };
    disk = λ tells. record {
      stands = λ u held. absurd (cc (gone.held, held));
      whose = λ there. absurd (let is : e (key_of n s) ≡ nothing = ap e (same_key m n bounds s) ∙ none tells in cc (sym there ∙ ap (λ (b : Blob). b.there) is));
    };
  })

module _ {F B : Type 0} (m : Sections F B) (doomed : Doomed) where
  -- how far a removal has come: each section is as before, or it was doomed and is gone
  pub record Progress (told : Type 0) (n : Sections F B) (from d : Disk) : Type 0 where
    pub bounds : SameBounds m n
    pub each : (s : ℕ) → (IsSame m n s × (told → IsDoomed m doomed s → d (key_of m s) ≡ from (key_of m s))) ⊎ (IsDoomed m doomed s × IsGone n s × (told → d (key_of m s) ≡ nothing))

  -- a section that was no leftover is gone
  abbrev pub SomeGone : Sections F B → Type 0
  SomeGone n = (s : ℕ) × IsDoomed m doomed s × IsSection m s × IsGone n s

  pub none_gone : IsTrue false ↔ SomeGone m
  none_gone = (λ is. absurd (cc is), λ some. absurd (gone_unknown m some.0 some.3 (section_known m some.0 some.2)))

  pub no_progress : (told : Type 0) (d : Disk) → Progress told m d d
  no_progress told d = record { bounds = start_bounds m; each = λ s. inl (record { held = refl; unopened = refl }, λ tells is. refl) }

  module _ {told : Type 0} (n : Sections F B) (from d : Disk) (s : ℕ) (small : (t : ℕ) → IsDoomed m doomed t → t < 2 ^ 64) (next : IsDoomed n doomed s) (progress : Progress told n from d) where
    -- the next one is as before
    pub next_same : IsSame m n s × (told → d (key_of m s) ≡ from (key_of m s)) × IsDoomed m doomed s
    next_same = elim (progress.each s) [
      | inl same ↦ let is = same_doomed m n doomed s same.0 next in (same.0, λ tells. same.1 tells is, is)
      | inr gone ↦ absurd (gone_unknown n s gone.1 (doomed_known n doomed s next))
    ]

    other_key : (t : ℕ) → IsDoomed m doomed t → t ≢ s → key_of m t ≢ key_of m s
    other_key t is other = keys_differ m.partition t s (small t is) (small s next_same.2) other

    -- while it is removed, and after that
    pub still_removing : told → ((t : ℕ) → IsDoomed n doomed t → t ≢ s → GoesBefore doomed s t) → Removing m (IsDoomed m doomed) (GoesBefore doomed) from d
        → (e : Disk) → OnlyAt (key_of n s) d (IsGoing (d (key_of n s))) e → Removing m (IsDoomed m doomed) (GoesBefore doomed) from e
    still_removing tells first removing e only_there = record { going = record { each = each; order = order }; others = others }
      where
        only : OnlyAt (key_of m s) d (IsGoing (d (key_of m s))) e
        only = subst (λ (k : Key). OnlyAt k d (IsGoing (d k)) e) (same_key m n progress.bounds s) only_there

        each : (t : ℕ) → IsDoomed m doomed t → IsGoing (from (key_of m t)) (e (key_of m t))
        each t is = elim (cases_eq t s) [
          | inl same ↦ subst (λ (k : ℕ). IsGoing (from (key_of m k)) (e (key_of m k))) (sym same) (subst (λ (b : Blob). IsGoing b (e (key_of m s))) (next_same.1 tells) only.here)
          | inr other ↦ subst (IsGoing (from (key_of m t))) (sym (only.others (key_of m t) (other_key t is other))) (removing.going.each t is)
        ]

        -- those before it are gone already
        last : (t : ℕ) → IsDoomed m doomed t → GoesBefore doomed t s → e (key_of m t) ≡ nothing
        last t is goes = elim (cases_eq t s) [
          | inl same ↦ absurd (let at : GoesBefore doomed s s = subst (λ (k : ℕ). GoesBefore doomed k s) same goes in before_once doomed s s at at)
          | inr other ↦ elim (progress.each t) [
            | inl same ↦ absurd (before_once doomed s t (first t (doomed_same m n doomed t same.0 is) other) goes)
            | inr gone ↦ only.others (key_of m t) (other_key t is other) ∙ gone.2 tells
          ]
        ]

        -- what was nothing is nothing
        none_yet : (t : ℕ) → IsDoomed m doomed t → d (key_of m t) ≡ nothing → e (key_of m t) ≡ nothing
        none_yet t is none = elim (cases_eq t s) [
          | inl same ↦ subst (λ (k : ℕ). d (key_of m k) ≡ nothing → e (key_of m k) ≡ nothing) (sym same)
              (λ was. going_nothing (e (key_of m s)) (subst (λ (b : Blob). IsGoing b (e (key_of m s))) was only.here)) none
          | inr other ↦ only.others (key_of m t) (other_key t is other) ∙ none
        ]

        order : (t u : ℕ) → IsDoomed m doomed t → IsDoomed m doomed u → GoesBefore doomed t u → (e (key_of m u) ≡ from (key_of m u)) ⊎ (e (key_of m t) ≡ nothing)
        order t u is_t is_u goes = elim (cases_eq u s) [
          | inl same ↦ inr (last t is_t (subst (λ (k : ℕ). GoesBefore doomed t k) same goes))
          | inr other ↦ elim (removing.going.order t u is_t is_u goes) [
            | inl stays ↦ inl (only.others (key_of m u) (other_key u is_u other) ∙ stays)
            | inr none ↦ inr (none_yet t is_t none)
          ]
        ]

        others : (q : Key) → (IsKeyOf m (IsDoomed m doomed) q → ⊥) → e q ≡ from q
        others q not = only.others q (λ is. not (s, next_same.2, is)) ∙ removing.others q not

    pub one_more_entry : (a b c : OpenedList) → EntriesLeave (IsKeyOf m (IsDoomed m doomed)) a b → EntriesLeave (λ q. q ≡ key_of n s) b c → EntriesLeave (IsKeyOf m (IsDoomed m doomed)) a c
    one_more_entry a b c leave then = entries_then (IsKeyOf m (IsDoomed m doomed)) a b c leave
        (entries_weaker (λ q. q ≡ key_of n s) (IsKeyOf m (IsDoomed m doomed)) b c (λ q is. (s, next_same.2, is ∙ same_key m n progress.bounds s)) then)

    -- it is gone
    pub one_gone : (o : Sections F B) (e : Disk) → SameBounds n o → ((q : ℕ) → q ≢ s → IsSame n o q) → IsGone o s
        → (told → (q : Key) → q ≢ key_of n s → e q ≡ d q) → (told → e (key_of n s) ≡ nothing) → Progress told o from e
    one_gone o e bounds others gone blobs none = record {
      bounds = same_bounds m n o progress.bounds bounds;
      each = λ t. elim (cases_eq t s) [
        | inl same ↦ inr (
          subst (IsDoomed m doomed) (sym same) next_same.2,
          subst (IsGone o) (sym same) gone,
          λ tells. ap (λ (k : ℕ). e (key_of m k)) same ∙ ap e (sym (same_key m n progress.bounds s)) ∙ none tells,
        )
        | inr other ↦ elim (progress.each t) [
          | inl same ↦ inl (same_then m n o t same.0 (others t other), λ tells is. stays tells t is other ∙ same.1 tells is)
          | inr away ↦ inr (away.0, gone_then n o t away.1 (others t other), λ tells. stays tells t away.0 other ∙ away.2 tells)
        ]
      ];
    }
      where
        stays : told → (t : ℕ) → IsDoomed m doomed t → t ≢ s → e (key_of m t) ≡ d (key_of m t)
        stays tells t is other = blobs tells (key_of m t) (λ same. other_key t is other (same ∙ same_key m n progress.bounds s))

    pub flag_on : (o : Sections F B) (before after : Bool) → ((q : ℕ) → q ≢ s → IsSame n o q) → IsGone o s → (IsTrue before ↔ SomeGone n) → (IsTrue before → IsTrue after) → (IsSection n s → IsTrue after)
        → (IsTrue after → IsTrue before ⊎ IsSection n s) → IsTrue after ↔ SomeGone o
    flag_on o before after others gone so_far stays rises either = (there, back)
      where
        there : IsTrue after → SomeGone o
        there is = elim (either is) [
          | inl was ↦
              let some = so_far.0 was in (
                some.0,
                some.1,
                some.2,
                elim (cases_eq some.0 s) [
                  | inl same ↦ subst (IsGone o) (sym same) gone
                  | inr other ↦ gone_then n o some.0 some.3 (others some.0 other)
                ],
              )
          | inr section ↦ (s, next_same.2, same_section m n s next_same.0 section, gone)
        ]

        back : SomeGone o → IsTrue after
        back some = elim (cases_eq some.0 s) [
          | inl same ↦ rises (section_same m n s next_same.0 (subst (IsSection m) same some.2))
          | inr other ↦
              let same = others some.0 other in
              stays (so_far.1 (some.0, some.1, some.2, record { held = sym same.held ∙ some.3.held; unopened = sym same.unopened ∙ some.3.unopened }))
        ]

  -- at each moment, over one section more
  pub removing_on : {told : Type 0} (n : Sections F B) (s : ℕ) (start now after : Timeline) → ((t : ℕ) → IsDoomed m doomed t → t < 2 ^ 64) → IsDoomed n doomed s → ((t : ℕ) → IsDoomed n doomed t → t ≢ s → GoesBefore doomed s t)
      → Progress told n (disk start) (disk now) → told → Always start now (Removing m (IsDoomed m doomed) (GoesBefore doomed) (disk start)) → AllMoments (key_of n s) (IsGoing (disk now (key_of n s))) now after
      → Always start after (Removing m (IsDoomed m doomed) (GoesBefore doomed) (disk start))
  removing_on n s start now after small next first progress tells always going_on =
      let P : Disk → Type 0 = Removing m (IsDoomed m doomed) (GoesBefore doomed) (disk start) in
      always_then start now after P always
      (always_weaker now after (OnlyAt (key_of n s) (disk now) (IsGoing (disk now (key_of n s)))) P
      (λ e only. still_removing n (disk start) (disk now) s small next progress tells first (always_now start now P always) e only) going_on)

  -- the end of a removal: none is left that was doomed
  module _ {told : Type 0} (n : Sections F B) (from d : Disk) (progress : Progress told n from d) where
    pub all_gone : ((s : ℕ) → IsDoomed n doomed s → ⊥) → (s : ℕ) → IsDoomed m doomed s → IsGone n s × (told → d (key_of m s) ≡ nothing)
    all_gone none s is = elim (progress.each s) [
      | inl same ↦ absurd (none s (doomed_same m n doomed s same.0 is))
      | inr gone ↦ (gone.1, gone.2)
    ]

    pub all_kept : (s : ℕ) → (IsDoomed m doomed s → ⊥) → IsSame m n s
    all_kept s not = elim (progress.each s) [
      | inl same ↦ same.0
      | inr gone ↦ absurd (not gone.0)
    ]

    pub all_flagged : ((s : ℕ) → IsDoomed n doomed s → ⊥) → (flag : Bool) → (IsTrue flag ↔ SomeGone n) → IsTrue flag ↔ ((s : ℕ) × IsDoomed m doomed s × IsSection m s)
    all_flagged none flag so_far = (λ is. let some = so_far.0 is in (some.0, some.1, some.2), λ some. so_far.1 (some.0, some.1, some.2, (all_gone none some.0 some.1).0))

pub removing_start : {F B : Type 0} (m : Sections F B) (P : ℕ → Type 0) (G : ℕ → ℕ → Type 0) (d : Disk) → Removing m P G d d
removing_start m P G d = record { going = record { each = λ s is. inl refl; order = λ s t is_s is_t goes. inl refl }; others = λ q not. refl }

-- sections that are named in two ways
module _ {F B : Type 0} (m : Sections F B) (P Q : ℕ → Type 0) (G : ℕ → ℕ → Type 0) (there : (s : ℕ) → P s → Q s) (back : (s : ℕ) → Q s → P s) where
  removing_as : (from d : Disk) → Removing m P G from d → Removing m Q G from d
  removing_as from d removing = record {
    going = record {
      each = λ s is. removing.going.each s (back s is);
      order = λ s t is_s is_t. removing.going.order s t (back s is_s) (back t is_t);
    };
    others = λ q not. removing.others q (λ w. not (w.0, there w.0 w.1, w.2));
  }

  pub moments_as : (a b : Timeline) → Always a b (Removing m P G (disk a)) → Always a b (Removing m Q G (disk a))
  moments_as a b = always_weaker a b (Removing m P G (disk a)) (Removing m Q G (disk a)) (removing_as (disk a))

  pub entries_as : (old new : OpenedList) → EntriesLeave (IsKeyOf m P) old new → EntriesLeave (IsKeyOf m Q) old new
  entries_as old new = entries_weaker (IsKeyOf m P) (IsKeyOf m Q) old new (λ q w. (w.0, there w.0 w.1, w.2))

-- What was doomed where it was known is gone, known or not.
pub none_known : {F B : Type 0} (m n : Sections F B) (doomed : Doomed) → ((s : ℕ) → IsDoomed m doomed s → IsGone n s) → ((s : ℕ) → (IsDoomed m doomed s → ⊥) → IsSame m n s) → (s : ℕ) → (IsKnown m s → IsDoomed m doomed s) → IsGone n s
none_known m n doomed removed kept s named = elim (known_or_not m s) [
  | inl is ↦ removed s (named is)
  | inr unknown ↦ gone_then m n s (unknown_gone m s unknown) (kept s (λ is. unknown (doomed_known m doomed s is)))
]

-- The sections below `least` are gone.
module _ {F B : Type 0} (m : Sections F B) (least : ℕ) (some : 0 < least) where
  pub doomed_below : (s : ℕ) → IsDoomed m (Through (least - 1)) s → IsKnown m s × (s < least)
  doomed_below s is = (is.0, omega (arith, is.1, some))

  pub below_doomed : (s : ℕ) → IsKnown m s × (s < least) → IsDoomed m (Through (least - 1)) s
  below_doomed s is = (is.0, omega (arith, is.1, some))

  pub pruned_flag : (flag : Bool) → (IsTrue flag ↔ ((s : ℕ) × IsDoomed m (Through (least - 1)) s × IsSection m s)) → IsTrue flag ↔ ((s : ℕ) × IsSection m s × (s < least))
  pruned_flag flag is = (
    λ true'. let w = is.0 true' in (w.0, w.2, (doomed_below w.0 w.1).1),
    λ w. is.1 (w.0, below_doomed w.0 (section_known m w.0 w.1, w.2), w.1),
  )

-- other bounds, within which the known sections are
pub over_bounds : {F B : Type 0} (g : buffer.Ghosts B) (gives : F → Setting) {told : Type 0} (m : Sections F B) (opened : OpenedList) (d : Disk) (floor ceiling : ℕ) → IsOver g gives told m opened d
    → ((s : ℕ) → IsKnown m s → floor ≤ s) → ((s : ℕ) → IsHeld m s → s ≤ ceiling) → IsOver g gives told (record m { floor = floor; ceiling = ceiling }) opened d
over_bounds g gives m opened d floor ceiling over from_floor to_ceiling = record {
  opened_list = record {
    key = over.opened_list.key;
    setting = over.opened_list.setting;
    is_open = over.opened_list.is_open;
    to_ceiling = to_ceiling;
    apart = over.opened_list.apart;
    from_floor = from_floor;
    number = over.opened_list.number;
  };
  disk = λ tells. record { stands = (over.disk tells).stands; whose = (over.disk tells).whose };
}
