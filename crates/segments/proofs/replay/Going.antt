-- A step of a replay that reads first: what stands at the place, or that the section's reading failed.
use Rattle.std.specs.Prelude.{◌≡◌, ◌⊎◌, ℕ, ◌+◌, ◌*◌, ◌-◌, ◌<◌, ◌≤◌, Bool, true, false, List, min, length, IsSome, IsSomeAnd, Option, Some, Result, Ok, Err, IfSome}
use Rattle.std.proofs.Common.{inl, inr, refl, sym, ◌∙◌, ap, subst, arith}
use Rattle.blob_device.specs.Disk.{Disk}
use Rattle.blob_device.specs.Opened.{OpenedList}
use Rattle.blob_device.specs.Timeline.{Timeline, disk}
use Rattle.blob_device.specs.declared.device.Device as device
use Rattle.blob_device.specs.declared.runtime.RError.TheVariants.{InvalidChecksum}
use Rattle.blob_device.specs.lemmas.Moments.{always_now}
use Rattle.sealed_pages.specs.Buffer.{size_of}
use Rattle.sealed_pages.specs.Reads.{IsShort}
use Rattle.sealed_pages.specs.Shown.{shown}
use Rattle.sealed_pages.specs.declared.page_blob.PageBlob.{PageBlob}
use Rattle.value_codec.specs.declared.codec.Error as codec
use Rattle.section_manager.specs.Refusing.{HasDamage, HasFailed}
use Rattle.section_manager.specs.Sections.{key_of}
use Rattle.section_manager.specs.Setting.{Setting}
use Rattle.section_manager.specs.declared.buffer.SectionBuffer as buffer
use Rattle.section_manager.specs.declared.journal.Error.{Error}
use Rattle.section_manager.specs.declared.journal.Error.TheVariants.{Codec, ItemOutOfRange, Runtime}
use Rattle.segments.specs.FixedCursor.{Ends, Fills, IsFilled, leaving}
use Rattle.segments.specs.FixedReading.{HasNotRead}
use Rattle.segments.specs.FixedReplay.{Place, Walk, WalksOver, IsWalk, EndsDamaged, kept_bytes}
use Rattle.segments.specs.FixedStepping.{failing, standing, ReadsOnce, Steps}
use Rattle.segments.proofs.replay.Kept.{next_within}
use Rattle.segments.proofs.replay.Stopping.{ended_here}
use Rattle.segments.proofs.replay.Reading.{read_failed, some_and, steps_read}
use Rattle.blob_device.proofs.general.Options.{the_some}
use Rattle.blob_device.proofs.general.Results.{ok_with}

pub if_some_at : {A : Type 0} (o : Option A) (v : A) (P : A → Type 0) → o ≡ Some v → IfSome o P → P v
if_some_at {A = A} o v P is has = subst (λ (x : Option A). IfSome x P) is has

pub some_at : {A : Type 0} (o : Option A) (v : A) (P : A → Type 0) → o ≡ Some v → IsSomeAnd o P → P v
some_at {A = A} o v P is has = subst (λ (x : Option A). IsSomeAnd x P) is has

-- a section's end by other names
pub ends_as : {F S V : Type 0} {gs : _} (seal : List ℕ → ℕ) (size : ℕ) (g : buffer.Ghosts (PageBlob S gs)) (gives : F → Setting) (spelling : V → List ℕ) (accepted : V → Unit {0} → Type 0) (refusal : List ℕ → Unit {0} → Option codec.Error) (told : Type 0)
    (result : Result (Unit {0}) Error) (old was new now : Walk F (PageBlob S gs)) (before after : OpenedList) (begin end : Timeline) (few many : ℕ) (r x : Place) → r ≡ x → old ≡ was → new ≡ now
    → Ends seal size g gives spelling accepted refusal told result old new before after begin end few many r → Ends seal size g gives spelling accepted refusal told result was now before after begin end few many x
ends_as {F = F} {S = S} {gs = gs} seal size g gives spelling accepted refusal told result old was new now before after begin end few many r x here first last did =
    subst (λ (y : Walk F (PageBlob S gs)). Ends seal size g gives spelling accepted refusal told result was y before after begin end few many x) last
    (subst (λ (y : Walk F (PageBlob S gs)). Ends seal size g gives spelling accepted refusal told result y new before after begin end few many x) first
    (subst (λ (y : Place). Ends seal size g gives spelling accepted refusal told result old new before after begin end few many y) here did))

module _ {F S D V : Type 0} {gs : _} (seal : List ℕ → ℕ) (size : ℕ) (g : buffer.Ghosts (PageBlob S gs)) (gives : F → Setting) (spelling : V → List ℕ) (accepted : V → Unit {0} → Type 0) (refusal : List ℕ → Unit {0} → Option codec.Error) (dev : device.Ghosts D)
    (old : Walk F (PageBlob S gs)) (r : Place) (from via : D) (was : IsWalk g gives seal size dev.Tells old (dev.opened from) (disk (dev.time from))) (at : old.place ≡ Some r) where
  abbrev w : Walk F (PageBlob S gs)
  w = leaving old

  back : standing w r ≡ old
  back = λ i. record old { place = sym at i }

  there : IsWalk g gives seal size dev.Tells (standing w r) (dev.opened from) (disk (dev.time from))
  there = subst (λ (x : Walk F (PageBlob S gs)). IsWalk g gives seal size dev.Tells x (dev.opened from) (disk (dev.time from))) (sym back) was

  -- What a step does from where a fill left the replay, it does with the fill.
  module _ (mid : Walk F (PageBlob S gs)) (enough : Bool) (fill : Fills seal size g gives dev 1 r (Ok enough) old mid from via) where
    q : (p : Place) × (mid.place ≡ Some p) × IsFilled old mid r p
    q = the_some mid.place fill.rest

    -- it goes on
    pub going_filled : old.ended ≡ false → mid.ended ≡ false
    going_filled going = ap (λ (x : Walk F (PageBlob S gs)). x.ended) q.2.goes ∙ going

    pub stands_filled : IsSome mid.place
    stands_filled = subst IsSome (sym q.1) refl

    disk_filled : dev.Tells → disk (dev.time via) ≡ disk (dev.time from)
    disk_filled t = always_now (dev.time from) (dev.time via) (λ x. x ≡ disk (dev.time from)) (fill.unchanged t)

    -- where no item is kept from the place on, none is
    pub last_filled : enough ≡ false → dev.Tells → IfSome mid.place (λ (y : Place). length (kept_bytes seal size mid (disk (dev.time via)) y.section) < (y.position + 1) * size)
    last_filled off t =
        let kept : kept_bytes seal size mid (disk (dev.time via)) q.0.section ≡ kept_bytes seal size old (disk (dev.time from)) r.section =
        (λ i. kept_bytes seal size (q.2.goes i) (disk_filled t i) (q.2.section i)) in
        subst (λ (o : Option Place). IfSome o (λ (y : Place). length (kept_bytes seal size mid (disk (dev.time via)) y.section) < (y.position + 1) * size)) (sym q.1)
        (subst (λ (n : ℕ). length (kept_bytes seal size mid (disk (dev.time via)) q.0.section) < (n + 1) * size) (sym q.2.position)
        (subst (λ (l : List ℕ). length l < (r.position + 1) * size) (sym kept) (fill.short t (ap Ok off))))

    -- an item is at hand
    pub hand_filled : enough ≡ true → (y : Place) → mid.place ≡ Some y → size ≤ length y.reader.bytes
    hand_filled enough_is y is =
        let has = some_at mid.place y (λ (x : Place). 1 * size ≤ length x.reader.bytes) is (fill.at_hand (ap Ok enough_is)) in
        omega (arith, has)

    pub step_filled : (result : Result (Option (ℕ × ℕ × V)) Error) (new : Walk F (PageBlob S gs)) (to : D)
        → Steps seal size g gives spelling accepted refusal dev.Tells result mid new (dev.opened via) (dev.opened to) (dev.time via) (dev.time to) (dev.faults via) (dev.faults to)
        → Steps seal size g gives spelling accepted refusal dev.Tells result old new (dev.opened from) (dev.opened to) (dev.time from) (dev.time to) (dev.faults from) (dev.faults to)
    step_filled result new to step =
        let f = q.2 in
        let on : Place = record { section = r.section; position = r.position; reader = q.0.reader } in
        let at_q : mid ≡ standing w on = f.goes ∙ (λ i. standing w (record { section = f.section i; position = f.position i; reader = q.0.reader })) in
        let once : ReadsOnce (standing w r) (standing w on) (dev.opened from) (dev.opened via) =
        subst (λ (x : Walk F (PageBlob S gs)). ReadsOnce x (standing w on) (dev.opened from) (dev.opened via)) (sym back)
        (subst (λ (x : Walk F (PageBlob S gs)). ReadsOnce old x (dev.opened from) (dev.opened via)) at_q fill.once) in
        subst (λ (x : Walk F (PageBlob S gs)). Steps seal size g gives spelling accepted refusal dev.Tells result x new (dev.opened from) (dev.opened to) (dev.time from) (dev.time to) (dev.faults from) (dev.faults to)) back
        (steps_read seal size g gives w r q.0.reader (dev.opened from) (dev.opened via) (dev.time from) (dev.time via) there f.same
        fill.unchanged fill.entries
        spelling accepted refusal result new (dev.opened to) (dev.time to) (dev.faults from) (dev.faults via) (dev.faults to) fill.faults (ok_with result once)
        (subst (λ (x : Walk F (PageBlob S gs)). Steps seal size g gives spelling accepted refusal dev.Tells result x new (dev.opened via) (dev.opened to) (dev.time via) (dev.time to) (dev.faults via) (dev.faults to)) at_q step))

  -- The section's reading failed.
  module _ (e : Error) (new : Walk F (PageBlob S gs)) (fill : Fills seal size g gives dev 1 r (Err e) old new from via) (pos : 1 ≤ size) where
    same_disk : dev.Tells → disk (dev.time via) ≡ disk (dev.time from)
    same_disk t = always_now (dev.time from) (dev.time via) (λ x. x ≡ disk (dev.time from)) (fill.unchanged t)

    over_new : IsWalk g gives seal size dev.Tells (standing w r) (dev.opened via) (disk (dev.time via))
    over_new = record {
      over = (subst (λ (x : Walk F (PageBlob S gs)). IsWalk g gives seal size dev.Tells (failing x) (dev.opened via) (disk (dev.time via))) fill.dropped fill.broken).over;
      walk = there.walk;
      disk = λ t. subst (WalksOver seal size (standing w r)) (sym (same_disk t)) (there.disk t);
    }

    found : dev.Tells → (k : ℕ) → e ≡ Runtime (InvalidChecksum k) → EndsDamaged seal size (standing w r) w (disk (dev.time via)) (disk (dev.time via)) k
    found t k is =
        let f = fill.damaged t k (ap Err is) in
        let u = the_some (old.journal.sections.held r.section) f.page in
        let fits = next_within size (size_of (shown u.0)) r.position pos ((was.disk t).sealed.whole r.section u.0 u.1 f.free) u.2.0 in
        let one : min (1 * size) (size_of (shown u.0) - r.position * size) ≡ size = omega (arith, fits) in
        record {
          damage = record {
            section = r.section;
            position = r.position;
            near = inr refl;
            free = f.free;
            floor = f.floor;
            within = some_and (λ (v : PageBlob S gs). (r.position + 1) * size ≤ size_of (shown v)) (old.journal.sections.held r.section) u.0 u.1
                fits;
            page = some_and (λ (v : PageBlob S gs). IsShort seal v.page_size (disk (dev.time via) (key_of old.journal.sections r.section)).content (r.position * size) size k) (old.journal.sections.held r.section) u.0 u.1
                (subst (λ (n : ℕ). IsShort seal u.0.page_size (disk (dev.time via) (key_of old.journal.sections r.section)).content (r.position * size) n k) one
                (subst (λ (d : Disk). IsShort seal u.0.page_size (d (key_of old.journal.sections r.section)).content (r.position * size) (min (1 * size) (size_of (shown u.0) - r.position * size)) k) (sym (same_disk t)) u.2.1));
          };
          ends = ended_here seal size w r (disk (dev.time via)) refl (was.walk.come_to r at).1;
        }

    not_start : HasDamage {T = Option (ℕ × ℕ × V)} (Err e) ⊎ HasFailed {T = Option (ℕ × ℕ × V)} (Err e) (dev.faults from) (dev.faults via) → (p : ℕ) → e ≡ ItemOutOfRange p → ⊥
    not_start cause p is = elim cause [
      | inl (k, damage) ↦ cc (damage, is)
      | inr (inl none) ↦ cc (none, is)
      | inr (inr (fault, rose)) ↦ cc (fault, is)
    ]

    not_codec : HasDamage {T = Option (ℕ × ℕ × V)} (Err e) ⊎ HasFailed {T = Option (ℕ × ℕ × V)} (Err e) (dev.faults from) (dev.faults via) → (x : codec.Error) → e ≡ Codec x → ⊥
    not_codec cause p is = elim cause [
      | inl (k, damage) ↦ cc (damage, is)
      | inr (inl none) ↦ cc (none, is)
      | inr (inr (fault, rose)) ↦ cc (fault, is)
    ]

    cause_of : HasDamage {T = Option (ℕ × ℕ × V)} (Err e) ⊎ HasFailed {T = Option (ℕ × ℕ × V)} (Err e) (dev.faults from) (dev.faults via)
    cause_of = elim fill.cause [
      | inl (k, damage) ↦ inl (k, cc damage)
      | inr (inl none) ↦ inr (inl (cc none))
      | inr (inr (fault, rose)) ↦ inr (inr (cc fault, rose))
    ]

    read_cause : HasNotRead {T = Option (ℕ × ℕ × V)} (Err e) (dev.faults from) (dev.faults via)
    read_cause = elim cause_of [ inl damage ↦ inl damage | inr failed ↦ inr (inr failed) ]

    pub step_stopped : Steps seal size g gives spelling accepted refusal dev.Tells (Err e) old new (dev.opened from) (dev.opened via) (dev.time from) (dev.time via) (dev.faults from) (dev.faults via)
    step_stopped =
        let stops : Steps seal size g gives spelling accepted refusal dev.Tells (Err e) (standing w r) w (dev.opened via) (dev.opened via) (dev.time via) (dev.time via) (dev.faults from) (dev.faults via) =
        read_failed seal size g gives w r (dev.opened via) (dev.time via) over_new spelling accepted refusal refl (dev.faults from) (dev.faults via) fill.faults e (not_start cause_of) found (λ t x is. absurd (not_codec cause_of x is)) read_cause in
        let whole : Steps seal size g gives spelling accepted refusal dev.Tells (Err e) (standing w r) w (dev.opened from) (dev.opened via) (dev.time from) (dev.time via) (dev.faults from) (dev.faults via) =
        steps_read seal size g gives w r r.reader (dev.opened from) (dev.opened via) (dev.time from) (dev.time via) there (record { key = refl; page_size = refl; end = refl; size = refl; at = refl })
        fill.unchanged fill.entries spelling accepted refusal (Err e) w (dev.opened via) (dev.time via) (dev.faults from) (dev.faults from) (dev.faults via) (omega arith) tt stops in
        subst (λ (x : Walk F (PageBlob S gs)). Steps seal size g gives spelling accepted refusal dev.Tells (Err e) x new (dev.opened from) (dev.opened via) (dev.time from) (dev.time via) (dev.faults from) (dev.faults via)) back
        (subst (λ (x : Walk F (PageBlob S gs)). Steps seal size g gives spelling accepted refusal dev.Tells (Err e) (standing w r) x (dev.opened from) (dev.opened via) (dev.time from) (dev.time via) (dev.faults from) (dev.faults via)) (sym fill.dropped) whole)
