-- What the check of a checkpoint's own section shows.
use Rattle.std.specs.Prelude.{◌≡◌, ◌≢◌, ◌⊎◌, ℕ, ◌*◌, ◌%◌, ◌^◌, ◌<◌, ◌≤◌, List, length, Option, None, Some, Result, Ok, Err, IfOk, OnErr, IsTrue, IsSome, IsSomeAnd}
use Rattle.std.specs.Result.{IsErrOf}
use Rattle.std.proofs.Common.{inl, inr, refl, sym, ◌∙◌, ap, subst, arith}
use Rattle.std.proofs.lemmas.Bool.{cases_eq}
use Rattle.blob_device.specs.Disk.{Disk}
use Rattle.blob_device.specs.Timeline.{disk}
use Rattle.blob_device.specs.declared.device.Device as device
use Rattle.sealed_pages.specs.Buffer.{size_of}
use Rattle.sealed_pages.specs.Reading.{OnlyRead, Unchanged}
use Rattle.sealed_pages.specs.SealedPrefix.{sealed_prefix, adopted_size}
use Rattle.sealed_pages.specs.Shown.{shown}
use Rattle.sealed_pages.specs.declared.page_blob.PageBlob.{PageBlob}
use Rattle.sealed_pages.specs.lemmas.looking.Looking.{unchanged_now, unchanged_start, unchanged_then}
use Rattle.segments.specs.lemmas.held.Passing.{failed_on, no_error}
use Rattle.segments.specs.lemmas.held.Sections.{opened_read}
use Rattle.segments.specs.lemmas.replay.Reading.{failed_since}
use Rattle.value_codec.specs.declared.codec.Error as codec
use Rattle.section_manager.specs.Refusing.{HasFailed}
use Rattle.section_manager.specs.Sections.{Sections, section_key, key_of, IsHeld, IsOver}
use Rattle.section_manager.specs.Setting.{Setting}
use Rattle.section_manager.specs.declared.buffer.SectionBuffer as buffer
use Rattle.section_manager.specs.declared.journal.Damage.{Damage}
use Rattle.section_manager.specs.declared.journal.Error.{Error}
use Rattle.section_manager.specs.declared.journal.Error.TheVariants.{Corruption, Mem}
use Rattle.segments.specs.FixedCheckpoint.{boundary_at, IsUnder, IsCheckpointRefused, IsPassed, IsShown, HasCome, Looks}
use Rattle.segments.specs.FixedFloors.{Floors, AreAdopted}
use Rattle.segments.specs.declared.fixed.preflighting.Target.{Target}
use Rattle.segments.proofs.checkpoint.Checking.{come_add, come_one, Answers, boundary_own, passes_below, looks_one}
use Rattle.blob_device.proofs.general.Numbers.{no_rest}
use Rattle.blob_device.proofs.general.Options.{has_value, none_or_value, value_of}

module _ {A D F S T : Type 0} {gs : _} (seal : List ℕ → ℕ) (P size : ℕ) (at bytes : ℕ) (spelling : A → List ℕ) (accepted : A → Unit {0} → Type 0)
    (refusal : List ℕ → Unit {0} → Option codec.Error) (dev : device.Ghosts D) (g : buffer.Ghosts (PageBlob S gs)) (gives : F → Setting) (m : Sections F (PageBlob S gs))
    (see : T → Floors A) (sections_of : T → Sections F (PageBlob S gs)) (f : Floors A) (old : D) where
  -- the section itself and those below it
  among : (q : ℕ) → q ≤ at → (q ≡ at) ⊎ (q < at)
  among q le = elim (cases_eq q at) [ inl is ↦ inl is | inr other ↦ inr (omega (arith, le, other)) ]

  both : (q : ℕ) → (q ≤ at → ⊥) → (q ≢ at) × (q < at → ⊥)
  both q not = (λ is. not (omega (arith, is)), λ lt. not (omega (arith, lt)))

  Named : T → Type 0
  Named x = HasCome seal P size m.partition at bytes spelling accepted (λ q. q ≤ at) dev.Tells m (sections_of x) (see x) (disk (dev.time old))
      × ((see x).floor_of at ≡ bytes) × IsSomeAnd (see x).target (λ t. (t.section ≡ at) × (t.size ≡ bytes))

  pub aim : (o : Option Target) → o ≡ Some (record { section = at; size = bytes }) → IsSomeAnd o (λ t. (t.section ≡ at) × (t.size ≡ bytes))
  aim o is = has_value o (λ t. (t.section ≡ at) × (t.size ≡ bytes)) (record { section = at; size = bytes }) is (refl, refl)

  module _ (had : HasCome seal P size m.partition at bytes spelling accepted (λ q. q < at) dev.Tells m m f (disk (dev.time old))) where
    below : dev.Tells → (q : ℕ) → q < at → IsUnder seal P size m.partition at bytes (disk (dev.time old)) q → IsPassed seal P size m.partition at bytes (disk (dev.time old)) spelling accepted q
    below t = passes_below seal P size m.partition at bytes spelling accepted dev.Tells f (disk (dev.time old)) at (λ q lt under. lt) t had.checked

    -- a checkpoint of no bytes asks for no blob
    pub no_target : (r : Result T Error) → bytes ≡ 0 → IsOver g gives dev.Tells m (dev.opened old) (disk (dev.time old))
        → IfOk r (λ x. (see x).floor_of at ≡ 0) → IfOk r (λ x. (see x).boundary_of at ≡ Some None) → IfOk r (λ x. (q : ℕ) → q ≢ at → (see x).floor_of q ≡ f.floor_of q)
        → IfOk r (λ x. (q : ℕ) → q ≢ at → (see x).boundary_of q ≡ f.boundary_of q) → IfOk r (λ x. sections_of x ≡ m) → IfOk r (λ x. (see x).target ≡ Some (record { section = at; size = bytes }))
        → OnErr r (IsErrOf r Mem)
        → Looks seal P size m.partition at bytes spelling accepted refusal dev r old old g gives m (λ x. HasCome seal P size m.partition at bytes spelling accepted (λ q. q ≤ at) dev.Tells m (sections_of x) (see x) (disk (dev.time old))
        × ((see x).floor_of at ≡ bytes) × IsSomeAnd (see x).target (λ t. (t.section ≡ at) × (t.size ≡ bytes)))
    no_target (Err e) none over floor boundary floors boundaries sections target cause = record {
      over = over;
      ends = tt;
      unchanged = λ t. unchanged_start (dev.time old);
      entries = λ q not. refl;
      damage = λ t x bad. absurd (cc (cause, bad));
      refused = λ t x bad. absurd (cc (cause, bad));
      faults = omega arith;
      cause = inr (inr (inl cause));
    }
    no_target (Ok x) none over floor boundary floors boundaries sections target cause = record {
      over = over;
      ends = (
        come_add seal P size m.partition at bytes spelling accepted dev.Tells (λ q. q < at) (λ q. q ≤ at) f (see x) (disk (dev.time old)) at 0 m m (sections_of x) (record {
          among = among;
          both = both;
          under = λ t. inl refl;
          floor = floor;
          ends = λ t. zero;
          shows = λ t. has_value ((see x).boundary_of at) (IsShown seal P size m.partition at bytes spelling accepted (disk (dev.time old)) at) None boundary zero;
          passed = λ t. record {
            whole = ap (λ (n : ℕ). n % size) zero ∙ no_rest size;
            there = λ some. absurd (omega (arith, some, zero));
            last = λ some. absurd (omega (arith, some, zero));
            sealed = λ is more. omega (arith, none);
          };
          floors = floors;
          boundaries = boundaries;
        }) (λ lt. absurd (omega (arith, lt))) sections had,
        floor ∙ sym none,
        aim (see x).target target,
      );
      unchanged = λ t. unchanged_start (dev.time old);
      entries = λ q not. refl;
      damage = λ t y bad. absurd (no_error x _ bad);
      refused = λ t y bad. absurd (no_error x _ bad);
      faults = omega arith;
      cause = tt;
    }
      where
        zero : boundary_at seal P size m.partition at bytes (disk (dev.time old)) at ≡ 0
        zero = boundary_own seal P size m.partition at bytes (disk (dev.time old)) at refl ∙ none

    module _ (items : ℕ) (count : items * size ≡ bytes) (fits : bytes < 2 ^ 64) (pos : 1 ≤ size) (some : 0 < bytes) where
      ends : dev.Tells → boundary_at seal P size m.partition at bytes (disk (dev.time old)) at ≡ items * size
      ends t = boundary_own seal P size m.partition at bytes (disk (dev.time old)) at refl ∙ sym count

      -- the check of its last item failed
      pub target_err : {named : Option Target} (e : Error) (new : D) (Ends : T → Type 0) → Answers seal P size m.partition at bytes spelling accepted refusal dev g gives m see sections_of f at items old new named (Err e)
          → Looks seal P size m.partition at bytes spelling accepted {T = T} refusal dev (Err e) old new g gives m Ends
      target_err e new Ends has = looks_one seal P size m.partition at bytes spelling accepted refusal dev g gives m see sections_of f at items old new (Err e) has Ends pos (omega (arith, count, fits)) refl (omega arith)
          ends (λ t. inl refl) (λ t. inr (refl, some)) below tt

      module _ {named : Option Target} (x : T) (mid new : D) (has : Answers seal P size m.partition at bytes spelling accepted refusal dev g gives m see sections_of f at items old mid named (Ok x))
          (k : Sections F (PageBlob S gs)) (is_k : k ≡ m) (same : dev.Tells → Unchanged (dev.time mid) (dev.time new)) (read_k : OnlyRead (key_of k at) (dev.opened mid) (dev.opened new)) (faults : dev.faults mid ≤ dev.faults new)
          (paged : (u : PageBlob S gs) → m.held at ≡ Some u → u.page_size ≡ P) where
        read : OnlyRead (key_of m at) (dev.opened mid) (dev.opened new)
        read = subst (λ (x : Sections F (PageBlob S gs)). OnlyRead (key_of x at) (dev.opened mid) (dev.opened new)) is_k read_k

        over_new : IsOver g gives dev.Tells m (dev.opened new) (disk (dev.time new))
        over_new = record {
          opened_list = opened_read g gives m (key_of m at) (dev.opened mid) (dev.opened new) read has.over.opened_list;
          disk = λ t. rw (unchanged_now (dev.time mid) (dev.time new) (same t)) (has.over.disk t);
        }

        -- more is cut than is sealed
        pub prefix_err : {U V : Type 0} (r : Result V Error) (e : Error) (Ends : V → Type 0) → r ≡ Err e
            → (dev.Tells → (y : Damage) → IsErrOf {T = U} (Err e) (Corruption y) → IsSomeAnd (k.held at)
            (λ u. (y.section ≡ at) × (y.kept ≡ length (sealed_prefix seal u.page_size (disk (dev.time mid) (key_of k at)).content)) × (y.wanted ≡ bytes) × (y.kept < bytes)))
            → ((y : Damage) × IsErrOf {T = U} (Err e) (Corruption y)) ⊎ HasFailed {T = U} (Err e) (dev.faults mid) (dev.faults new)
            → Looks seal P size m.partition at bytes spelling accepted refusal dev r old new g gives m Ends
        prefix_err {U = U} {V = V} r e Ends is damage cause = subst (λ (x : Result V Error). Looks seal P size m.partition at bytes spelling accepted refusal dev x old new g gives m Ends) (sym is) (record {
          over = over_new;
          ends = tt;
          unchanged = λ t. unchanged_then (dev.time old) (dev.time mid) (dev.time new) (has.unchanged t) (same t);
          entries = λ q not. read.others q (not at (omega arith)) ∙ has.entries q (not at (omega arith));
          damage = λ t y bad.
              let u = value_of (m.held at) (λ u. (y.section ≡ at) × (y.kept ≡ length (sealed_prefix seal u.page_size (disk (dev.time mid) (key_of m at)).content)) × (y.wanted ≡ bytes) × (y.kept < bytes))
              (subst (λ (x : Sections F (PageBlob S gs)). IsSomeAnd (x.held at) (λ u. (y.section ≡ at) × (y.kept ≡ length (sealed_prefix seal u.page_size (disk (dev.time mid) (key_of x at)).content)) × (y.wanted ≡ bytes) × (y.kept < bytes))) is_k (damage t y (cc bad))) in
              let kept : y.kept ≡ length (sealed_prefix seal P (disk (dev.time old) (key_of m at)).content) = u.has.1
              ∙ ap (λ (p : ℕ). length (sealed_prefix seal p (disk (dev.time mid) (key_of m at)).content)) (paged u.value u.is)
              ∙ ap (λ (d : Disk). length (sealed_prefix seal P (d (key_of m at)).content)) (unchanged_now (dev.time old) (dev.time mid) (has.unchanged t)) in
              let own = boundary_own seal P size m.partition at bytes (disk (dev.time old)) at refl in
              subst (λ (s : ℕ). IsUnder seal P size m.partition at bytes (disk (dev.time old)) s × IsCheckpointRefused seal P size m.partition at bytes (disk (dev.time old)) s y
              × ((q : ℕ) → q < s → IsUnder seal P size m.partition at bytes (disk (dev.time old)) q → IsPassed seal P size m.partition at bytes (disk (dev.time old)) spelling accepted q)) (sym u.has.0) (
                inl refl,
                inr (inr (record {
                  there = has.there t;
                  kept = kept;
                  wanted = u.has.2 ∙ sym own;
                  less = omega (arith, u.has.2, u.has.3);
                })),
                below t,
              );
          refused = λ t y bad. elim cause [
            | inl damaged ↦ (let h = damaged.1 in absurd (cc (h, bad)))
            | inr (inl memory) ↦ absurd (cc (memory, bad))
            | inr (inr fault) ↦ (let h = fault.0 in absurd (cc (h, bad)))
          ];
          faults = omega (arith, has.faults, faults);
          cause = elim cause [
            | inl damaged ↦ inl (damaged.0, cc damaged.1)
            | inr failed ↦ inr (inr (failed_since (Err e) (dev.faults old) (dev.faults mid) (dev.faults new) has.faults (failed_on {U = U} (Err e) e (dev.faults mid) (dev.faults new) refl failed)))
          ];
        })

        -- the section is as the checkpoint says
        pub target_found : (see x).target ≡ Some (record { section = at; size = bytes })
            → (dev.Tells → (u : PageBlob S gs) → k.held at ≡ Some u → bytes < size_of (shown u) → bytes ≤ length (sealed_prefix seal u.page_size (disk (dev.time mid) (key_of k at)).content))
            → (dev.Tells → AreAdopted seal m (disk (dev.time old))) → (dev.Tells → IsTrue (disk (dev.time old) (section_key m.partition at)).there → IsHeld m at)
            → Looks seal P size m.partition at bytes spelling accepted refusal dev (Ok x) old new g gives m (λ x. HasCome seal P size m.partition at bytes spelling accepted (λ q. q ≤ at) dev.Tells m (sections_of x) (see x) (disk (dev.time old))
            × ((see x).floor_of at ≡ bytes) × IsSomeAnd (see x).target (λ t. (t.section ≡ at) × (t.size ≡ bytes)))
        target_found target sealed adopted held = record {
          over = over_new;
          ends = (
            come_one seal P size m.partition at bytes spelling accepted refusal dev g gives m see sections_of f at items old mid x (λ q. q < at) (λ q. q ≤ at) m has pos ends (λ t. inl refl) (λ t is. sealed_here t)
                among both (λ lt. absurd (omega (arith, lt))) had,
            has.floor ∙ count,
            aim (see x).target target,
          );
          unchanged = λ t. unchanged_then (dev.time old) (dev.time mid) (dev.time new) (has.unchanged t) (same t);
          entries = λ q not. read.others q (not at (omega arith)) ∙ has.entries q (not at (omega arith));
          damage = λ t y bad. absurd (no_error x _ bad);
          refused = λ t y bad. absurd (no_error x _ bad);
          faults = omega (arith, has.faults, faults);
          cause = tt;
        }
          where
            sealed_here : dev.Tells → bytes < adopted_size seal P (disk (dev.time old) (section_key m.partition at)).content → bytes ≤ length (sealed_prefix seal P (disk (dev.time old) (section_key m.partition at)).content)
            sealed_here t more = elim (none_or_value (m.held at)) [
              | inl none ↦ absurd (cc (subst IsSome none (held t (has.there t))))
              | inr u ↦
                  let content = unchanged_now (dev.time old) (dev.time mid) (has.unchanged t) in
                  let size_is : size_of (shown u.0) ≡ adopted_size seal P (disk (dev.time old) (key_of m at)).content = (adopted t at u.0 u.1).size ∙ ap (λ (p : ℕ). adopted_size seal p (disk (dev.time old) (key_of m at)).content) (paged u.0 u.1) in
                  let prefix : bytes ≤ length (sealed_prefix seal u.0.page_size (disk (dev.time mid) (key_of m at)).content) =
                  subst (λ (x : Sections F (PageBlob S gs)). (w : PageBlob S gs) → x.held at ≡ Some w → bytes < size_of (shown w) → bytes ≤ length (sealed_prefix seal w.page_size (disk (dev.time mid) (key_of x at)).content)) is_k (sealed t) u.0 u.1 (omega (arith, more, size_is)) in
                  subst (λ (p : ℕ). bytes ≤ length (sealed_prefix seal p (disk (dev.time old) (key_of m at)).content)) (paged u.0 u.1)
                  (subst (λ (d : Disk). bytes ≤ length (sealed_prefix seal u.0.page_size (d (key_of m at)).content)) content prefix)
            ]
