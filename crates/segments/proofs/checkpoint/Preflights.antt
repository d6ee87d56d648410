-- How the check of a checkpoint ends that is refused.
use Rattle.std.specs.Prelude.{◌≡◌, ◌≢◌, ◌⊎◌, ◌↔◌, ℕ, ◌%◌, ◌^◌, ◌<◌, ◌≤◌, Bool, true, false, List, Option, Result, Ok, Err, IfOk, OnErr, IsTrue}
use Rattle.std.specs.Result.{IsErrOf}
use Rattle.std.proofs.Common.{inl, inr, refl, sym, ◌∙◌, ap, subst, arith}
use Rattle.blob_device.specs.Disk.{Key, Disk}
use Rattle.blob_device.specs.Opened.{OpenedList}
use Rattle.blob_device.specs.Timeline.{Timeline, disk, Always, Each}
use Rattle.blob_device.specs.declared.device.Device as device
use Rattle.blob_device.specs.lemmas.Moments.{always_now, always_then, always_weaker}
use Rattle.sealed_pages.specs.Reading.{Unchanged}
use Rattle.sealed_pages.specs.declared.pages.Pages.{Pages}
use Rattle.sealed_pages.specs.lemmas.looking.Looking.{unchanged_start}
use Rattle.section_manager.specs.lemmas.Init.{settling_start}
use Rattle.segments.specs.lemmas.adding.Write.{ArePages}
use Rattle.segments.specs.lemmas.held.Passing.{error_back, failed_on, no_error}
use Rattle.sealed_pages.specs.declared.page_blob.PageBlob.{PageBlob}
use Rattle.value_codec.specs.declared.codec.Error as codec
use Rattle.section_manager.specs.Lasting.{IsSettling}
use Rattle.section_manager.specs.Refusing.{HasFailed, IsForeign}
use Rattle.section_manager.specs.Sections.{Sections, section_key, IsHeld, IsOver}
use Rattle.section_manager.specs.Setting.{Setting}
use Rattle.section_manager.specs.declared.buffer.SectionBuffer as buffer
use Rattle.section_manager.specs.declared.journal.Damage.{Damage}
use Rattle.section_manager.specs.declared.journal.Error.{Error}
use Rattle.section_manager.specs.declared.journal.Error.TheVariants.{Codec, Corruption, InvalidBlobName, Mem}
use Rattle.section_manager.specs.declared.sealed.AppendFactory.{AppendFactory}
use Rattle.segments.specs.FixedBounds.{whole_of}
use Rattle.segments.specs.FixedCheckpoint.{boundary_at, IsUnder, IsCheckpointRefused, IsPassed, HasCome, Looks, Checks}
use Rattle.segments.specs.FixedFloors.{Floors, AreAdopted}
use Rattle.segments.proofs.checkpoint.AsBefore.{ReadsAs, under_same, under_back, refused_same, item_same, passed_same, kept_none}
use Rattle.segments.proofs.checkpoint.Checking.{boundary_own}
use Rattle.segments.proofs.opened.FloorLemmas.{AreOpened, adopted_now, held_now, content_now, there_now, was_there, not_damaged, not_coded}
use Rattle.segments.proofs.held.Passing.{opening_on, checked_on, checked_named}

-- after an opening that settles, each blob reads as before
pub reads_as : (seal : List ℕ → ℕ) (P size : ℕ) (p : List ℕ) (at bytes : ℕ) (from now : Timeline) → Always from now (Each (IsSettling p at (disk from))) → ReadsAs seal P size p at bytes (disk now) (disk from)
reads_as seal P size p at bytes from now moments = record {
  content = λ s. content_now p at from now moments s;
  there = λ s. both (disk now (section_key p s)).there (disk from (section_key p s)).there (was_there p at from now moments s) (there_now p at from now moments s);
}
  where
    both : (a b : Bool) → (IsTrue a → IsTrue b) → (IsTrue b → IsTrue a) → a ≡ b
    both true b on back = sym (on refl)
    both false true on back = back refl
    both false false on back = refl

-- what is unchanged behind it
pub settling_more : (p : List ℕ) (at : ℕ) (a b c : Timeline) → Always a b (Each (IsSettling p at (disk a))) → Unchanged b c → Always a c (Each (IsSettling p at (disk a)))
settling_more p at a b c moments same = (let R : Disk → Type 0 = Each (IsSettling p at (disk a)) in
    always_then a b c R moments (always_weaker b c (λ d. d ≡ disk b) R (λ d is. subst R (sym is) (always_now a b R moments)) same))

module _ {A D T : Type 0} (seal : List ℕ → ℕ) (P size : ℕ) (p : List ℕ) (at bytes : ℕ) (spelling : A → List ℕ) (accepted : A → Unit {0} → Type 0)
    (refusal : List ℕ → Unit {0} → Option codec.Error) (dev : device.Ghosts D) (r : Result T Error) (e : Error) (is : r ≡ Err e) (Ends : T → Type 0) where
  none : IfOk r Ends
  none = subst (λ (x : Result T Error). IfOk x Ends) (sym is) tt

  -- it ends within an item
  pub checks_partial : {U : Type 0} (old : D) → bytes % size ≢ 0 → IsErrOf {T = U} (Err e) (Corruption (record { section = at; kept = bytes; wanted = whole_of size bytes }))
      → Checks seal P size p at bytes spelling accepted refusal dev r old old Ends
  checks_partial old rest bad = record {
    moments = λ t. settling_start p at (dev.time old);
    ends = none;
    partial = λ not. (is ∙ cc bad, refl);
    names = λ whole. absurd (rest whole);
    damage = λ t x of. damaged x of;
    first = λ t whole x of. absurd (rest whole);
    whole = λ t kept x of. absurd (rest (sym (ap (λ (n : ℕ). n % size) (own old)) ∙ (kept at (inl refl)).whole));
    refused = λ t x of. absurd (cc (is, bad, of));
    entries = λ q not. refl;
    faults = omega arith;
    cause = subst (λ (x : Result T Error). OnErr x (((n : List ℕ) × IsErrOf x (InvalidBlobName n)) ⊎ (((y : Damage) × IsErrOf x (Corruption y))
        ⊎ (((y : codec.Error) × IsErrOf x (Codec y)) ⊎ HasFailed x (dev.faults old) (dev.faults old))))) (sym is)
        (inr (inl (record { section = at; kept = bytes; wanted = whole_of size bytes }, cc bad)));
  }
    where
      own : (o : D) → boundary_at seal P size p at bytes (disk (dev.time o)) at ≡ bytes
      own o = boundary_own seal P size p at bytes (disk (dev.time o)) at refl

      damaged : (x : Damage) → IsErrOf r (Corruption x) → IsUnder seal P size p at bytes (disk (dev.time old)) x.section × IsCheckpointRefused seal P size p at bytes (disk (dev.time old)) x.section x
      damaged x of =
          let d : Damage = record { section = at; kept = bytes; wanted = whole_of size bytes } in
          let same : d ≡ x = cc (is, bad, of) in
          subst (λ (y : Damage). IsUnder seal P size p at bytes (disk (dev.time old)) y.section × IsCheckpointRefused seal P size p at bytes (disk (dev.time old)) y.section y) same
          (inl refl, inl (record { partial = λ not. rest (sym (ap (λ (n : ℕ). n % size) (own old)) ∙ not); kept = sym (own old); wanted = ap (λ (n : ℕ). whole_of size n) (sym (own old)) }))

  -- its sections were not opened
  pub checks_opening : {U : Type 0} (old new : D) → bytes % size ≡ 0 → (dev.Tells → Always (dev.time old) (dev.time new) (Each (IsSettling p at (disk (dev.time old)))))
      → (dev.Tells → (name : List ℕ) → IsForeign (disk (dev.time old)) p name → Unchanged (dev.time old) (dev.time new))
      → (dev.Tells → (name : List ℕ) → IsForeign (disk (dev.time old)) p name → dev.opened new ≡ dev.opened old)
      → ((n : List ℕ) → IsErrOf {T = U} (Err e) (InvalidBlobName n) → dev.opened new ≡ dev.opened old)
      → (dev.Tells → (n : List ℕ) → IsErrOf {T = U} (Err e) (InvalidBlobName n) → IsForeign (disk (dev.time old)) p n)
      → ((q : Key) → ((s : ℕ) → s ≤ at → q ≢ section_key p s) → dev.opened new q ≡ dev.opened old q)
      → dev.faults old ≤ dev.faults new
      → ((n : List ℕ) × IsErrOf {T = U} (Err e) (InvalidBlobName n)) ⊎ HasFailed {T = U} (Err e) (dev.faults old) (dev.faults new)
      → Checks seal P size p at bytes spelling accepted refusal dev r old new Ends
  checks_opening {U = U} old new whole moments untouched unopened entries named others faults cause = record {
    moments = moments;
    ends = none;
    partial = λ rest. absurd (rest whole);
    names = λ same. record {
      foreign = λ t name bad. elim cause [
        | inl called ↦ inl (called.0, (let h = called.1 in cc (is, h)))
        | inr failed ↦ inr (failed_on {U = U} r e (dev.faults old) (dev.faults new) is failed)
      ];
      untouched = untouched;
      unopened = unopened;
      named = λ t n of. named t n (error_back r e (InvalidBlobName n) is of);
      entries = λ n of. entries n (error_back r e (InvalidBlobName n) is of);
    };
    damage = λ t x of. absurd (not_damaged {T = U} e (dev.faults old) (dev.faults new) cause x (cc (is, of)));
    first = λ t same x of. absurd (not_damaged {T = U} e (dev.faults old) (dev.faults new) cause x (cc (is, of)));
    whole = λ t kept x of. not_damaged {T = U} e (dev.faults old) (dev.faults new) cause x (cc (is, of));
    refused = λ t x of. absurd (not_coded {T = U} e (dev.faults old) (dev.faults new) cause x (cc (is, of)));
    entries = others;
    faults = faults;
    cause = opening_on {U = U} r e (dev.faults old) (dev.faults new) is cause;
  }

  -- a part of the check refused it, behind an opening that settled
  module _ {F S U : Type 0} {gs : _} (g : buffer.Ghosts (PageBlob S gs)) (gives : F → Setting) (m : Sections F (PageBlob S gs)) (old mid new : D) (Other : U → Type 0) (whole : bytes % size ≡ 0)
      (moments : dev.Tells → Always (dev.time old) (dev.time mid) (Each (IsSettling p at (disk (dev.time old)))))
      (foreign : dev.Tells → (name : List ℕ) → IsForeign (disk (dev.time old)) p name → ⊥)
      (others : (q : Key) → ((s : ℕ) → s ≤ at → q ≢ section_key p s) → dev.opened mid q ≡ dev.opened old q) (faults : dev.faults old ≤ dev.faults mid)
      (place : m.partition ≡ p) (looks : Looks seal P size p at bytes spelling accepted {T = U} refusal dev (Err e) mid new g gives m Other) where
    pub checks_looks : Checks seal P size p at bytes spelling accepted refusal dev r old new Ends
    checks_looks = record {
      moments = λ t. settling_more p at (dev.time old) (dev.time mid) (dev.time new) (moments t) (looks.unchanged t);
      ends = none;
      partial = λ rest. absurd (rest whole);
      names = λ same. record {
        foreign = λ t name bad. absurd (foreign t name bad);
        untouched = λ t name bad. absurd (foreign t name bad);
        unopened = λ t name bad. absurd (foreign t name bad);
        named = λ t n of. absurd (checked_named {U = U} r e (dev.faults old) (dev.faults mid) (dev.faults new) is looks.cause n of);
        entries = λ n of. absurd (checked_named {U = U} r e (dev.faults old) (dev.faults mid) (dev.faults new) is looks.cause n of);
      };
      damage = λ t x of. (let had = damaged t x of in (had.0, had.1));
      first = λ t same x of. (damaged t x of).2;
      whole = λ t kept x of. (let had = damaged t x of in kept_none seal P size p at bytes (disk (dev.time old)) x.section x (boundary_own seal P size p at bytes (disk (dev.time old)) x.section) (kept x.section had.0) had.1);
      refused = λ t x of.
          let had = looks.refused t x (error_back r e (Codec x) is of) in
          let alike = reads_as seal P size p at bytes (dev.time old) (dev.time mid) (moments t) in
          (had.0, under_same seal P size p at bytes (disk (dev.time mid)) (disk (dev.time old)) alike had.0 had.1, item_same seal P size p at bytes (disk (dev.time mid)) (disk (dev.time old)) alike refusal had.0 x had.2, below t had.0 had.3);
      entries = λ q not. looks.entries q (λ s le at_s. not s le (at_s ∙ ap (λ (l : List ℕ). section_key l s) place)) ∙ others q not;
      faults = omega (arith, faults, looks.faults);
      cause = checked_on {U = U} r e (dev.faults old) (dev.faults mid) (dev.faults new) is looks.cause faults;
    }
      where
        below : dev.Tells → (n : ℕ) → ((q : ℕ) → q < n → IsUnder seal P size p at bytes (disk (dev.time mid)) q → IsPassed seal P size p at bytes (disk (dev.time mid)) spelling accepted q)
            → (q : ℕ) → q < n → IsUnder seal P size p at bytes (disk (dev.time old)) q → IsPassed seal P size p at bytes (disk (dev.time old)) spelling accepted q
        below t n had q less under =
            let alike = reads_as seal P size p at bytes (dev.time old) (dev.time mid) (moments t) in
            passed_same seal P size p at bytes (disk (dev.time mid)) (disk (dev.time old)) alike spelling accepted q (had q less (under_back seal P size p at bytes (disk (dev.time mid)) (disk (dev.time old)) alike q under))

        damaged : dev.Tells → (x : Damage) → IsErrOf r (Corruption x) → IsUnder seal P size p at bytes (disk (dev.time old)) x.section × IsCheckpointRefused seal P size p at bytes (disk (dev.time old)) x.section x
            × ((q : ℕ) → q < x.section → IsUnder seal P size p at bytes (disk (dev.time old)) q → IsPassed seal P size p at bytes (disk (dev.time old)) spelling accepted q)
        damaged t x of =
            let had = looks.damage t x (error_back r e (Corruption x) is of) in
            let alike = reads_as seal P size p at bytes (dev.time old) (dev.time mid) (moments t) in
            (under_same seal P size p at bytes (disk (dev.time mid)) (disk (dev.time old)) alike x.section had.0, refused_same seal P size p at bytes (disk (dev.time mid)) (disk (dev.time old)) alike x.section x had.1, below t x.section had.2)

-- the same of the configuration's partition and pages
pub looks_at : {A D T S : Type 0} {gs : _} (seal : List ℕ → ℕ) (size at bytes : ℕ) (spelling : A → List ℕ) (accepted : A → Unit {0} → Type 0) (refusal : List ℕ → Unit {0} → Option codec.Error) (dev : device.Ghosts D)
    (g : buffer.Ghosts (PageBlob S gs)) (gives : AppendFactory S → Setting) (m : Sections (AppendFactory S) (PageBlob S gs)) (p : List ℕ) (pages : Pages) (r : Result T Error) (old new : D) (Ends : T → Type 0) → m.partition ≡ p → m.factory.pages ≡ pages
    → Looks seal m.factory.pages.page_size size m.partition at bytes spelling accepted refusal dev r old new g gives m Ends → Looks seal pages.page_size size p at bytes spelling accepted refusal dev r old new g gives m Ends
looks_at {S = S} {gs = gs} seal size at bytes spelling accepted refusal dev g gives m p pages r old new Ends place paging looks =
    subst (λ (x : List ℕ). Looks seal pages.page_size size x at bytes spelling accepted refusal dev r old new g gives m Ends) place
    (subst (λ (x : Pages). Looks seal x.page_size size m.partition at bytes spelling accepted refusal dev r old new g gives m Ends) paging looks)

module _ {A D F S T : Type 0} {gs : _} (seal : List ℕ → ℕ) (P size : ℕ) (p : List ℕ) (at bytes : ℕ) (spelling : A → List ℕ) (accepted : A → Unit {0} → Type 0)
    (refusal : List ℕ → Unit {0} → Option codec.Error) (dev : device.Ghosts D) where
  -- the last step fails for want of memory, or, where no disk is told, because a section is shorter
  pub looks_owing : (g : buffer.Ghosts (PageBlob S gs)) (gives : F → Setting) (m : Sections F (PageBlob S gs)) (e : Error) (old : D) (Ends : T → Type 0) → IsOver g gives dev.Tells m (dev.opened old) (disk (dev.time old))
      → (dev.Tells → (x : Damage) → IsErrOf {T = T} (Err e) (Corruption x) → ⊥) → ((x : Damage) × IsErrOf {T = T} (Err e) (Corruption x)) ⊎ IsErrOf {T = T} (Err e) Mem
      → Looks seal P size p at bytes spelling accepted {T = T} refusal dev (Err e) old old g gives m Ends
  looks_owing g gives m e old Ends over sound cause = record {
    over = over;
    ends = tt;
    unchanged = λ t. unchanged_start (dev.time old);
    entries = λ q not. refl;
    damage = λ t x bad. absurd (sound t x bad);
    refused = λ t x bad. elim cause [ inl damaged ↦ (let h = damaged.1 in absurd (cc (h, bad))) | inr memory ↦ absurd (cc (memory, bad)) ];
    faults = omega arith;
    cause = elim cause [ inl damaged ↦ inl damaged | inr memory ↦ inr (inr (inl memory)) ];
  }

module _ {A D T : Type 0} (seal : List ℕ → ℕ) (P size : ℕ) (p : List ℕ) (at bytes : ℕ) (spelling : A → List ℕ) (accepted : A → Unit {0} → Type 0)
    (refusal : List ℕ → Unit {0} → Option codec.Error) (dev : device.Ghosts D) where
  -- nothing was refused
  pub checks_ok : (x : T) (old new : D) (Ends : T → Type 0) → bytes % size ≡ 0 → (dev.Tells → Always (dev.time old) (dev.time new) (Each (IsSettling p at (disk (dev.time old)))))
      → (dev.Tells → (name : List ℕ) → IsForeign (disk (dev.time old)) p name → ⊥) → ((q : Key) → ((s : ℕ) → s ≤ at → q ≢ section_key p s) → dev.opened new q ≡ dev.opened old q)
      → dev.faults old ≤ dev.faults new → Ends x → Checks seal P size p at bytes spelling accepted refusal dev (Ok x) old new Ends
  checks_ok x old new Ends whole moments foreign others faults found = record {
    moments = moments;
    ends = found;
    partial = λ rest. absurd (rest whole);
    names = λ same. record {
      foreign = λ t name bad. absurd (foreign t name bad);
      untouched = λ t name bad. absurd (foreign t name bad);
      unopened = λ t name bad. absurd (foreign t name bad);
      named = λ t n of. absurd (no_error x (InvalidBlobName n) of);
      entries = λ n of. absurd (no_error x (InvalidBlobName n) of);
    };
    damage = λ t y of. absurd (no_error x (Corruption y) of);
    first = λ t same y of. absurd (no_error x (Corruption y) of);
    whole = λ t kept y of. no_error x (Corruption y) of;
    refused = λ t y of. absurd (no_error x (Codec y) of);
    entries = others;
    faults = faults;
    cause = tt;
  }

-- what the check asks of the sections that were opened
module _ {S : Type 0} {gs : _} (seal : List ℕ → ℕ) (g : buffer.Ghosts (PageBlob S gs)) (gives : AppendFactory S → Setting) (pages : ArePages g seal) (told : Type 0) (p : List ℕ) (at : ℕ) (from now : Timeline) (list : OpenedList)
    (m : Sections (AppendFactory S) (PageBlob S gs)) (opened : AreOpened g gives told p at from m now list) (moments : told → Always from now (Each (IsSettling p at (disk from)))) (ceiling : m.ceiling ≡ at) where
  pub adopted_of : told → AreAdopted seal m (disk now)
  adopted_of t = adopted_now g gives told p at from m now list opened moments t seal pages

  pub held_of : told → (s : ℕ) → s < 2 ^ 64 → IsHeld m s ↔ (IsTrue (disk now (section_key m.partition s)).there × (s ≤ m.ceiling))
  held_of t s lt = subst (λ (most : ℕ). IsHeld m s ↔ (IsTrue (disk now (section_key m.partition s)).there × (s ≤ most))) (sym ceiling) (held_now g gives told p at from m now list opened moments t s lt)

-- and what is known of them
pub come_at : {A S : Type 0} {gs : _} (seal : List ℕ → ℕ) (size at bytes : ℕ) (spelling : A → List ℕ) (accepted : A → Unit {0} → Type 0) (told : Type 0) (IsNamed : ℕ → Type 0) (m : Sections (AppendFactory S) (PageBlob S gs)) (f : Floors A) (d : Disk)
    (p : List ℕ) (pages : Pages) → m.partition ≡ p → m.factory.pages ≡ pages
    → HasCome seal m.factory.pages.page_size size m.partition at bytes spelling accepted IsNamed told m m f d → HasCome seal pages.page_size size p at bytes spelling accepted IsNamed told m m f d
come_at seal size at bytes spelling accepted told IsNamed m f d p pages place paging come =
    subst (λ (x : List ℕ). HasCome seal pages.page_size size x at bytes spelling accepted IsNamed told m m f d) place
    (subst (λ (x : Pages). HasCome seal x.page_size size m.partition at bytes spelling accepted IsNamed told m m f d) paging come)
