-- The sections before a checkpoint's are checked one after another.
use Rattle.std.specs.Prelude.{◌≡◌, ◌≢◌, ◌↔◌, ℕ, ◌+◌, ◌^◌, ◌<◌, ◌≤◌, List, [], ◌∷◌, ◌++◌, length, take, drop, get_or, Option, None, Result, Ok, Err, IsTrue}
use Rattle.std.specs.List.{Contains}
use Rattle.std.specs.List.Sorted.{IsStrictlySortedBy}
use Rattle.std.specs.Ordering.{nat_cmp}
use Rattle.std.proofs.Common.{inl, inr, refl, sym, ◌∙◌, ap, subst, arith}
use Rattle.std.proofs.lemmas.List.{take-append-drop, take_more, append_assoc}
use Rattle.std.proofs.lemmas.List.Elements.{Contains-append_left, Contains-push, Contains-push_cases}
use Rattle.blob_device.specs.Disk.{Key, Disk}
use Rattle.blob_device.specs.Opened.{OpenedList}
use Rattle.blob_device.specs.Timeline.{disk}
use Rattle.blob_device.specs.declared.device.Device as device
use Rattle.sealed_pages.specs.Reading.{Unchanged}
use Rattle.sealed_pages.specs.declared.page_blob.PageBlob.{PageBlob}
use Rattle.sealed_pages.specs.lemmas.looking.Looking.{unchanged_now, unchanged_start}
use Rattle.segments.specs.lemmas.held.Passing.{no_error}
use Rattle.value_codec.specs.declared.codec.Error as codec
use Rattle.section_manager.specs.Sections.{Sections, section_key, key_of, IsHeld, IsOver}
use Rattle.section_manager.specs.Setting.{Setting}
use Rattle.section_manager.specs.declared.buffer.SectionBuffer as buffer
use Rattle.section_manager.specs.declared.journal.Error.{Error}
use Rattle.section_manager.specs.declared.journal.Error.TheVariants.{Mem}
use Rattle.section_manager.specs.declared.sealed.AppendFactory.{AppendFactory}
use Rattle.segments.specs.FixedCheckpoint.{IsUnder, AreChecked, HasCome, Looks}
use Rattle.segments.specs.FixedChecks.{AreCheckable}
use Rattle.segments.specs.FixedFloors.{Floors, AreAdopted}
use Rattle.segments.proofs.opened.BoundsEnds.{if_ok_on}
use Rattle.segments.proofs.checkpoint.Checking.{come_named, looks_then}
use Rattle.blob_device.proofs.general.Lists.{before_turn}

-- the numbers below that of this turn had theirs
pub had_numbers : (xs : List ℕ) (i : ℕ) → i < length xs → IsStrictlySortedBy nat_cmp xs → (q : ℕ) → q < get_or xs i 0 → Contains xs q → Contains (take i xs) q
had_numbers xs i lt sorted q less listed =
    let split : xs ≡ take i xs ++ get_or xs i 0 ∷ drop (i + 1) xs = sym (take-append-drop (i + 1) xs) ∙ ap (λ (l : List ℕ). l ++ drop (i + 1) xs) (take_more xs i 0 lt)
    ∙ append_assoc (take i xs) (get_or xs i 0 ∷ []) (drop (i + 1) xs) in
    before_turn (take i xs) (drop (i + 1) xs) (get_or xs i 0) q (subst (λ (l : List ℕ). IsStrictlySortedBy nat_cmp l) split sorted) less (subst (λ (l : List ℕ). Contains l q) split listed)

-- the number of this turn is one of them
pub has_number : (xs : List ℕ) (i : ℕ) → i < length xs → Contains xs (get_or xs i 0)
has_number xs i lt = subst (λ (l : List ℕ). Contains l (get_or xs i 0)) (take-append-drop (i + 1) xs)
    (Contains-append_left (take (i + 1) xs) (drop (i + 1) xs) (get_or xs i 0) (subst (λ (l : List ℕ). Contains l (get_or xs i 0)) (sym (take_more xs i 0 lt)) (Contains-push (take i xs) (get_or xs i 0))))

module _ {A S : Type 0} {gs : _} (seal : List ℕ → ℕ) (size : ℕ) (at : ℕ) (spelling : A → List ℕ) (accepted : A → Unit {0} → Type 0) (told : Type 0) where
  -- the check so far, of a checkpoint of so many bytes
  abbrev pub Come : Sections (AppendFactory S) (PageBlob S gs) → (ℕ → Type 0) → Sections (AppendFactory S) (PageBlob S gs) → Floors A → Disk → ℕ → Type 0
  Come m IsNamed k f d bytes = HasCome seal m.factory.pages.page_size size m.partition at bytes spelling accepted IsNamed told m k f d

  -- it stands, where the blobs read as before
  pub come_moved : (m k : Sections (AppendFactory S) (PageBlob S gs)) (IsNamed : ℕ → Type 0) (f : Floors A) (d e : Disk) (bytes : ℕ) → (told → e ≡ d) → Come m IsNamed k f d bytes → Come m IsNamed k f e bytes
  come_moved m k IsNamed f d e bytes same had = record {
    same = had.same;
    checked = record {
      shows = λ t. (moved t).shows t;
      floors = λ t. (moved t).floors t;
      passed = λ t. (moved t).passed t;
      others = had.checked.others;
      free = λ t. (moved t).free t;
    };
    ends = had.ends;
  }
    where
      moved : told → AreChecked seal m.factory.pages.page_size size m.partition at bytes spelling accepted IsNamed told f e
      moved t = subst (λ (x : Disk). AreChecked seal m.factory.pages.page_size size m.partition at bytes spelling accepted IsNamed told f x) (sym (same t)) had.checked

module _ {A D S T : Type 0} {gs : _} (seal : List ℕ → ℕ) (size : ℕ) (at : ℕ) (spelling : A → List ℕ) (accepted : A → Unit {0} → Type 0) (refusal : List ℕ → Unit {0} → Option codec.Error) (dev : device.Ghosts D)
    (g : buffer.Ghosts (PageBlob S gs)) (gives : AppendFactory S → Setting) (m : Sections (AppendFactory S) (PageBlob S gs)) (see : T → Floors A) (sections_of : T → Sections (AppendFactory S) (PageBlob S gs)) where
  -- what the check of a section asks
  abbrev pub Ready : Sections (AppendFactory S) (PageBlob S gs) → OpenedList → Disk → Type 0
  Ready k opened d = AreCheckable g gives seal dev.Tells k opened d

  -- These numbers are gone over.
  pub record Gone (done : List ℕ) (k : Sections (AppendFactory S) (PageBlob S gs)) (f : Floors A) (old now : D) : Type 0 where
    pub come : (bytes : ℕ) → Come seal size at spelling accepted dev.Tells m (λ q. Contains done q × (q < at)) k f (disk (dev.time old)) bytes
    pub ready : Ready k (dev.opened now) (disk (dev.time now))
    pub unchanged : dev.Tells → Unchanged (dev.time old) (dev.time now)
    pub entries : (q : Key) → ((s : ℕ) → s ≤ at → q ≢ key_of m s) → dev.opened now q ≡ dev.opened old q
    pub faults : dev.faults old ≤ dev.faults now

  pub gone_none : (f : Floors A) (old : D) → ((s : ℕ) → (f.boundary_of s ≡ None) × (f.floor_of s ≡ 0)) → Ready m (dev.opened old) (disk (dev.time old)) → Gone [] m f old old
  gone_none f old fresh ready = record {
    come = λ bytes. record {
      same = refl;
      checked = record {
        shows = λ t s is under. absurd (nothing s is.0);
        floors = λ t s is under. absurd (nothing s is.0);
        passed = λ t s is under. absurd (nothing s is.0);
        others = λ s not. fresh s;
        free = λ t s not. fresh s;
      };
      ends = λ s is less held. absurd (nothing s is.0);
    };
    ready = ready;
    unchanged = λ t. unchanged_start (dev.time old);
    entries = λ q not. refl;
    faults = omega arith;
  }
    where
      nothing : (s : ℕ) → Contains [] s → ⊥
      nothing s listed = omega (arith, listed.1)

  -- what the check of one more section answers, over the sections k
  abbrev pub Turn : Sections (AppendFactory S) (PageBlob S gs) → Floors A → ℕ → D → D → Result T Error → Type 0
  Turn k f s now new r = (bytes : ℕ) (done : List ℕ) → s < at → ((q : ℕ) → q < s → IsHeld k q → Contains done q)
      → Come seal size at spelling accepted dev.Tells k (λ q. Contains done q × (q < at)) k f (disk (dev.time now)) bytes
      → Looks seal k.factory.pages.page_size size k.partition at bytes spelling accepted refusal dev r now new g gives k
      (λ x. Come seal size at spelling accepted dev.Tells k (λ q. Contains (done ++ s ∷ []) q × (q < at)) (sections_of x) (see x) (disk (dev.time now)) bytes)

  -- one section more
  module _ (done : List ℕ) (f : Floors A) (old now : D) (s : ℕ) (less : s < at) (named : (q : ℕ) → q < s → IsHeld m q → Contains done q) where
    pub turn : (k : Sections (AppendFactory S) (PageBlob S gs)) (new : D) (r : Result T Error) → Gone done k f old now → Turn k f s now new r → (bytes : ℕ)
        → Looks seal m.factory.pages.page_size size m.partition at bytes spelling accepted refusal dev r old new g gives m
        (λ x. Come seal size at spelling accepted dev.Tells m (λ q. Contains (done ++ s ∷ []) q × (q < at)) (sections_of x) (see x) (disk (dev.time old)) bytes)
    turn k new r gone answers bytes =
        let same : k ≡ m = (gone.come 0).same in
        let here : Come seal size at spelling accepted dev.Tells m (λ q. Contains done q × (q < at)) m f (disk (dev.time old)) bytes =
        subst (λ (x : Sections (AppendFactory S) (PageBlob S gs)). Come seal size at spelling accepted dev.Tells m (λ q. Contains done q × (q < at)) x f (disk (dev.time old)) bytes) same (gone.come bytes) in
        let own : Turn m f s now new r = subst (λ (x : Sections (AppendFactory S) (PageBlob S gs)). Turn x f s now new r) same answers in
        let looks = looks_then seal m.factory.pages.page_size size m.partition at bytes spelling accepted refusal dev g gives m r old now new
        (λ x. Come seal size at spelling accepted dev.Tells m (λ q. Contains (done ++ s ∷ []) q × (q < at)) (sections_of x) (see x) (disk (dev.time now)) bytes) gone.unchanged gone.entries gone.faults
        (own bytes done less named (come_moved seal size at spelling accepted dev.Tells m m (λ q. Contains done q × (q < at)) f (disk (dev.time old)) (disk (dev.time now)) bytes (λ t. unchanged_now (dev.time old) (dev.time now) (gone.unchanged t)) here)) in
        record {
          over = looks.over;
          ends = if_ok_on r (λ x. come_moved seal size at spelling accepted dev.Tells m (sections_of x) (λ q. Contains (done ++ s ∷ []) q × (q < at)) (see x) (disk (dev.time now)) (disk (dev.time old)) bytes
              (λ t. sym (unchanged_now (dev.time old) (dev.time now) (gone.unchanged t)))) looks.ends;
          unchanged = looks.unchanged;
          entries = looks.entries;
          damage = looks.damage;
          refused = looks.refused;
          faults = looks.faults;
          cause = looks.cause;
        }

  ready_on : (k : Sections (AppendFactory S) (PageBlob S gs)) (l : Sections (AppendFactory S) (PageBlob S gs)) (o p : OpenedList) (d e : Disk) → l ≡ k → (dev.Tells → e ≡ d) → IsOver g gives dev.Tells k p e → Ready k o d → Ready l p e
  ready_on k l o p d e is same over ready = subst (λ (x : Sections (AppendFactory S) (PageBlob S gs)). Ready x p e) (sym is) (record {
    floor = ready.floor;
    over = over;
    adopted = λ t. subst (λ (x : Disk). AreAdopted seal k x) (sym (same t)) (ready.adopted t);
    held = λ t. subst (λ (x : Disk). (s : ℕ) → s < 2 ^ 64 → IsHeld k s ↔ (IsTrue (x (section_key k.partition s)).there × (s ≤ k.ceiling))) (sym (same t)) (ready.held t);
  })

  pub gone_more : (done : List ℕ) (k : Sections (AppendFactory S) (PageBlob S gs)) (f : Floors A) (old now new : D) (s : ℕ) (x : T) → Gone done k f old now
      → ((bytes : ℕ) → Looks seal m.factory.pages.page_size size m.partition at bytes spelling accepted refusal dev (Ok x) old new g gives m
      (λ x. Come seal size at spelling accepted dev.Tells m (λ q. Contains (done ++ s ∷ []) q × (q < at)) (sections_of x) (see x) (disk (dev.time old)) bytes))
      → Gone (done ++ s ∷ []) (sections_of x) (see x) old new
  gone_more done k f old now new s x gone looks = record {
    come = λ bytes. (looks bytes).ends;
    ready = ready_on m (sections_of x) (dev.opened now) (dev.opened new) (disk (dev.time now)) (disk (dev.time new)) ((looks 0).ends).same (λ t. unchanged_now (dev.time old) (dev.time new) ((looks 0).unchanged t) ∙ sym (unchanged_now (dev.time old) (dev.time now) (gone.unchanged t))) (looks 0).over
        (subst (λ (l : Sections (AppendFactory S) (PageBlob S gs)). Ready l (dev.opened now) (disk (dev.time now))) (gone.come 0).same gone.ready);
    unchanged = (looks 0).unchanged;
    entries = (looks 0).entries;
    faults = (looks 0).faults;
  }

  -- the same by other names
  pub gone_to : (done all : List ℕ) (x y : T) (old now new : D) → y ≡ x → new ≡ now → all ≡ done → Gone done (sections_of x) (see x) old now → Gone all (sections_of y) (see y) old new
  gone_to done all x y old now new same at_new listed gone =
      subst (λ (l : List ℕ). Gone l (sections_of y) (see y) old new) (sym listed) (subst (λ (d : D). Gone done (sections_of y) (see y) old d) (sym at_new) (subst (λ (z : T). Gone done (sections_of z) (see z) old now) (sym same) gone))

  -- the checkpoint's own section is passed over
  pub gone_past : (done : List ℕ) (k : Sections (AppendFactory S) (PageBlob S gs)) (f : Floors A) (old now : D) (s : ℕ) → at ≤ s → Gone done k f old now → Gone (done ++ s ∷ []) k f old now
  gone_past done k f old now s past gone = record {
    come = λ bytes. come_named seal m.factory.pages.page_size size m.partition at bytes spelling accepted dev.Tells (λ q. Contains done q × (q < at)) (λ q. Contains (done ++ s ∷ []) q × (q < at)) m k f (disk (dev.time old))
        (λ t q is under. before q is) (λ q not is. not (Contains-append_left done (s ∷ []) q is.0, is.1)) (λ q is less held. before q is) (gone.come bytes);
    ready = gone.ready;
    unchanged = gone.unchanged;
    entries = gone.entries;
    faults = gone.faults;
  }
    where
      before : (q : ℕ) → Contains (done ++ s ∷ []) q × (q < at) → Contains done q × (q < at)
      before q is = elim (Contains-push_cases done s q is.0) [ inl had ↦ (had, is.1) | inr same ↦ absurd (omega (arith, same, past, is.1)) ]

  -- all are gone over
  pub gone_all : (xs : List ℕ) (x : T) (old now : D) (bytes : ℕ) → Gone xs (sections_of x) (see x) old now → ((q : ℕ) → IsHeld m q → Contains xs q) → at < 2 ^ 64 → at ≤ m.ceiling
      → (dev.Tells → (s : ℕ) → s < 2 ^ 64 → IsHeld m s ↔ (IsTrue (disk (dev.time old) (section_key m.partition s)).there × (s ≤ m.ceiling)))
      → Looks seal m.factory.pages.page_size size m.partition at bytes spelling accepted refusal dev (Ok x) old now g gives m
      (λ x. Come seal size at spelling accepted dev.Tells m (λ q. q < at) (sections_of x) (see x) (disk (dev.time old)) bytes)
  gone_all xs x old now bytes gone listed small under held = record {
    over = subst (λ (l : Sections (AppendFactory S) (PageBlob S gs)). IsOver g gives dev.Tells l (dev.opened now) (disk (dev.time now))) (gone.come 0).same gone.ready.over;
    ends = come_named seal m.factory.pages.page_size size m.partition at bytes spelling accepted dev.Tells (λ q. Contains xs q × (q < at)) (λ q. q < at) m (sections_of x) (see x) (disk (dev.time old))
        into (λ q not is. not is.1) (λ q is less has. (listed q has, is)) (gone.come bytes);
    unchanged = gone.unchanged;
    entries = gone.entries;
    damage = λ t y bad. absurd (no_error x _ bad);
    refused = λ t y bad. absurd (no_error x _ bad);
    faults = gone.faults;
    cause = tt;
  }
    where
      into : dev.Tells → (q : ℕ) → q < at → IsUnder seal m.factory.pages.page_size size m.partition at bytes (disk (dev.time old)) q → Contains xs q × (q < at)
      into t q less (inl own) = absurd (omega (arith, own, less))
      into t q less (inr there) = (listed q ((held t q (omega (arith, less, small))).1 (there.1, omega (arith, less, under))), less)

  -- there was no memory for their numbers
  pub looks_none : (r : Result T Error) (e : Error) (old : D) (bytes : ℕ) (Ends : T → Type 0) → r ≡ Err e → e ≡ Mem → IsOver g gives dev.Tells m (dev.opened old) (disk (dev.time old))
      → Looks seal m.factory.pages.page_size size m.partition at bytes spelling accepted refusal dev r old old g gives m Ends
  looks_none r e old bytes Ends is none over = subst (λ (x : Result T Error). Looks seal m.factory.pages.page_size size m.partition at bytes spelling accepted refusal dev x old old g gives m Ends) (sym (is ∙ ap Err none)) (record {
    over = over;
    ends = tt;
    unchanged = λ t. unchanged_start (dev.time old);
    entries = λ q not. refl;
    damage = λ t x bad. absurd (cc bad);
    refused = λ t x bad. absurd (cc bad);
    faults = omega arith;
    cause = inr (inr (inl refl));
  })
