-- What a fill of a replay's cursor answers, from what its reader answered.
use Rattle.std.specs.Prelude.{◌≡◌, ◌≢◌, ◌⊎◌, ℕ, ◌+◌, ◌*◌, ◌-◌, ◌<◌, ◌≤◌, Bool, true, false, List, min, length, take, drop, IsTrue, None, Some, Result, Ok, Err}
use Rattle.std.specs.Result.{IsErrOf}
use Rattle.std.proofs.Common.{inl, inr, refl, sym, ◌∙◌, ap, subst, arith}
use Rattle.blob_device.specs.Disk.{Key, Blob, Disk}
use Rattle.blob_device.specs.Timeline.{disk}
use Rattle.blob_device.specs.declared.device.Device as device
use Rattle.blob_device.specs.declared.runtime.RError.{RError}
use Rattle.blob_device.specs.declared.runtime.RError.TheVariants.{InvalidChecksum}
use Rattle.blob_device.specs.lemmas.Moments.{always_now}
use Rattle.sealed_pages.specs.Buffer.{size_of}
use Rattle.sealed_pages.specs.Entries.{ReadsAtMost}
use Rattle.sealed_pages.specs.Readers.{Reader, IsReplayOf, ReadsUnread, SameReader, missing_of, next_of}
use Rattle.sealed_pages.specs.Reading.{Unchanged}
use Rattle.sealed_pages.specs.Reads.{IsShort}
use Rattle.sealed_pages.specs.SealedPrefix.{data_from}
use Rattle.sealed_pages.specs.Shown.{shown}
use Rattle.sealed_pages.specs.Unrecovered.{IsAdopted}
use Rattle.sealed_pages.specs.View.{view}
use Rattle.sealed_pages.specs.declared.page_blob.PageBlob.{PageBlob}
use Rattle.std.proofs.Math.Nat.{add-mul}
use Rattle.section_manager.specs.Refusing.{HasDamage, HasFailed}
use Rattle.section_manager.specs.Sections.{key_of}
use Rattle.section_manager.specs.Setting.{Setting}
use Rattle.section_manager.specs.declared.buffer.SectionBuffer as buffer
use Rattle.section_manager.specs.declared.journal.Error.{Error}
use Rattle.section_manager.specs.declared.journal.Error.TheVariants.{Runtime}
use Rattle.segments.specs.FixedCursor.{Fills, IsFoundShort}
use Rattle.segments.specs.FixedReplay.{Place, Walk, IsWalk, kept_bytes}
use Rattle.segments.specs.FixedStepping.{standing}
use Rattle.segments.proofs.replay.Ends.{count_all, short_owed}
use Rattle.segments.specs.lemmas.replay.Kept.{range_kept, short_length}
use Rattle.segments.specs.lemmas.replay.WalksOn.{walk_broken}
use Rattle.segments.proofs.replay.Reading.{count_read, here, kept_data, kept_owed, long_here, reads_here, some_and, walk_read}

ok_is : (a b : Bool) → ◌≡◌ {A = Result Bool Error} (Ok a) (Ok b) → a ≡ b
ok_is a b is = cc is

err_is : (e x : Error) → IsErrOf {T = Bool} (Err e) x → e ≡ x
err_is e x is = cc is

-- one answer of the reader
pub same_ok : (x : Result Bool RError) (a b : Bool) → x ≡ Ok a → x ≡ Ok b → a ≡ b
same_ok x a b is also = cc (is, also)

pub never_ok : (x : Result Bool RError) (e : RError) (b : Bool) → x ≡ Err e → x ≡ Ok b → ⊥
never_ok x e b is also = cc (is, also)

pub none_some : {A : Type 0} {v : A} → None ≡ Some v → ⊥
none_some is = cc is

-- what a reader fails by, without the page's place
pub page_alone : {P : ℕ → Type 0} {Q : Type 0} (e : RError)
    → ((p : ℕ) × (◌≡◌ {A = Result Bool RError} (Err e) (Err (InvalidChecksum p))) × P p) ⊎ Q → ((p : ℕ) × (◌≡◌ {A = Result Bool RError} (Err e) (Err (InvalidChecksum p)))) ⊎ Q
page_alone e (inl (p, is, wanted)) = inl (p, is)
page_alone e (inr other) = inr other

pub page_is : (j k : ℕ) → ◌≡◌ {A = Error} (Runtime (InvalidChecksum j)) (Runtime (InvalidChecksum k)) → j ≡ k
page_is j k is = cc is

module _ {F S D : Type 0} {gs : _} (seal : List ℕ → ℕ) (size : ℕ) (g : buffer.Ghosts (PageBlob S gs)) (gives : F → Setting) (dev : device.Ghosts D) where
  -- a fill by other names
  pub fills_as : (count : ℕ) (r x : Place) (result : Result Bool Error) (old was new now : Walk F (PageBlob S gs)) (from to : D) → r ≡ x → old ≡ was → new ≡ now
      → Fills seal size g gives dev count r result old new from to → Fills seal size g gives dev count x result was now from to
  fills_as count r x result old was new now from to here first last did =
      subst (λ (y : Walk F (PageBlob S gs)). Fills seal size g gives dev count x result was y from to) last
      (subst (λ (y : Walk F (PageBlob S gs)). Fills seal size g gives dev count x result y new from to) first
      (subst (λ (y : Place). Fills seal size g gives dev count y result old new from to) here did))

module _ {F S D : Type 0} {gs : _} (seal : List ℕ → ℕ) (size : ℕ) (g : buffer.Ghosts (PageBlob S gs)) (gives : F → Setting) (dev : device.Ghosts D) (w : Walk F (PageBlob S gs)) (r : Place) (more : Reader) (from to : D) (count n : ℕ)
    (was : IsWalk g gives seal size dev.Tells (standing w r) (dev.opened from) (disk (dev.time from))) (adopt : (u : PageBlob S gs) (b : Blob) → g.Stands u b → IsAdopted seal (shown u) b) (pos : 1 ≤ size)
    (same : SameReader r.reader more) (grows : length r.reader.bytes ≤ length more.bytes)
    (replays : dev.Tells → IsReplayOf seal (disk (dev.time from) r.reader.key).content r.reader → IsReplayOf seal (disk (dev.time from) r.reader.key).content more)
    (stood : dev.Tells → Unchanged (dev.time from) (dev.time to)) (reads : ReadsAtMost n r.reader.key (dev.opened from) (dev.opened to)) (faults : dev.faults from ≤ dev.faults to) where
  abbrev on : Place
  on = record { section = r.section; position = r.position; reader = more }

  abbrev K : Key
  K = key_of w.journal.sections r.section

  abbrev u : PageBlob S gs
  u = (here seal size g gives w r (dev.opened from) (disk (dev.time from)) was).0

  now : IsWalk g gives seal size dev.Tells (standing w on) (dev.opened to) (disk (dev.time to))
  now = walk_read seal size g gives w r more (dev.opened from) (dev.opened to) (dev.time from) (dev.time to) n was same replays stood reads

  same_disk : dev.Tells → disk (dev.time to) ≡ disk (dev.time from)
  same_disk t = always_now (dev.time from) (dev.time to) (λ x. x ≡ disk (dev.time from)) (stood t)

  own : (q : Key) → q ≢ K → dev.opened to q ≡ dev.opened from q
  own q other = reads.others q (λ is. other (is ∙ (here seal size g gives w r (dev.opened from) (disk (dev.time from)) was).2.key))

  -- the bytes that are given are as before
  kept_on : dev.Tells → kept_bytes seal size (standing w on) (disk (dev.time to)) r.section ≡ kept_bytes seal size (standing w r) (disk (dev.time from)) r.section
  kept_on t = ap (λ (d : Disk). kept_bytes seal size (standing w r) d r.section) (same_disk t)

  at_place : r.reader.at ≡ r.position * size
  at_place = (here seal size g gives w r (dev.opened from) (disk (dev.time from)) was).2.at

  behind : (r.position + count) * size ≡ r.position * size + count * size
  behind = add-mul r.position count size

  -- as many bytes as were wanted are at hand, and they are kept
  pub filled : (within : next_of more ≤ more.size) (unread : ReadsUnread r.reader more (dev.opened from) (dev.opened to)) (enough : Bool) → (enough ≡ true → count * size ≤ length more.bytes)
      → (count * size ≤ length r.reader.bytes → (to ≡ from) × (enough ≡ true))
      → (enough ≡ false → dev.Tells → length (kept_bytes seal size (standing w r) (disk (dev.time from)) r.section) < (r.position + count) * size)
      → Fills seal size g gives dev count r (Ok enough) (standing w r) (standing w on) from to
  filled within unread enough at_hand ready short = record {
    over = now;
    broken = tt;
    rest = record { goes = refl; section = refl; position = refl; same = same; grows = grows };
    dropped = tt;
    at_hand = λ is. at_hand (ok_is enough true is);
    content = λ t is. (let h = here seal size g gives w on (dev.opened to) (disk (dev.time to)) now in
        let c = (disk (dev.time to) K).content in
        let has = reads_here seal size g gives w on (dev.opened to) (disk (dev.time to)) now t in
        let kept = kept_bytes seal size (standing w on) (disk (dev.time to)) r.section in
        range_kept seal h.0.page_size c (omega (arith, h.0.fit.begun)) kept (kept_data seal size g gives w on (dev.opened to) (disk (dev.time to)) now adopt t) (count * size) more.at more.bytes
        (subst (λ (P : ℕ). more.bytes ≡ data_from P (view c) more.at (length more.bytes)) h.2.page_size has.replays.bytes) (at_hand (ok_is enough true is)) (long_here seal size g gives w on (dev.opened to) (disk (dev.time to)) now t within)
        ∙ ap (λ (l : List ℕ). take (count * size) (drop more.at l)) (kept_on t)
        ∙ ap (λ (m : ℕ). take (count * size) (drop m (kept_bytes seal size (standing w r) (disk (dev.time from)) r.section))) (same.at ∙ at_place));
    enough = λ t is. omega (arith, at_hand (ok_is enough true is), long_here seal size g gives w on (dev.opened to) (disk (dev.time to)) now t within, ap length (kept_on t), same.at, at_place, behind);
    short = λ t is. short (ok_is enough false is) t;
    ready = λ few. (ap Ok (ready few).1, (ready few).0);
    unchanged = stood;
    once = λ t held. count_read seal size g gives w r more (dev.opened from) (dev.opened to) (dev.time from) (dev.time to) n was same replays stood reads unread t held;
    entries = own;
    faults = faults;
    damaged = λ t k is. absurd (cc is);
    cause = tt;
  }

  -- the reader has no more
  pub filled_out : (rest : next_of more ≡ more.size) → r.reader.size < r.reader.at + count * size → dev.Tells
      → length (kept_bytes seal size (standing w r) (disk (dev.time from)) r.section) < (r.position + count) * size
  filled_out rest past t =
      let all : length (kept_bytes seal size (standing w on) (disk (dev.time to)) r.section) ≡ size_of (shown (here seal size g gives w on (dev.opened to) (disk (dev.time to)) now).0) =
      count_all seal size g gives w on (dev.opened to) (disk (dev.time to)) now adopt pos rest t in
      let size_is : more.size ≡ size_of (shown (here seal size g gives w on (dev.opened to) (disk (dev.time to)) now).0) = (here seal size g gives w on (dev.opened to) (disk (dev.time to)) now).2.blob_size in
      let same_length : length (kept_bytes seal size (standing w on) (disk (dev.time to)) r.section) ≡ length (kept_bytes seal size (standing w r) (disk (dev.time from)) r.section) = ap length (kept_on t) in
      omega (arith, past, behind, at_place, size_is, same.size, all, same_length)

  -- A page fails, as far as so many items go from the place on.
  module _ (k : ℕ) (short : dev.Tells → IsReplayOf seal (disk (dev.time from) r.reader.key).content r.reader
      → IsShort seal r.reader.page_size (disk (dev.time from) r.reader.key).content (next_of r.reader) (missing_of r.reader (count * size)) k) where
    replay_here : dev.Tells → IsReplayOf seal (disk (dev.time from) r.reader.key).content r.reader
    replay_here t = subst (λ (q : Key). IsReplayOf seal (disk (dev.time from) q).content r.reader) (sym (here seal size g gives w r (dev.opened from) (disk (dev.time from)) was).2.key)
        (reads_here seal size g gives w r (dev.opened from) (disk (dev.time from)) was t).replays

    short_here : dev.Tells → IsShort seal u.page_size (disk (dev.time from) K).content (next_of r.reader) (missing_of r.reader (count * size)) k
    short_here t = (let h = (here seal size g gives w r (dev.opened from) (disk (dev.time from)) was).2 in
        subst (λ (q : Key). IsShort seal u.page_size (disk (dev.time from) q).content (next_of r.reader) (missing_of r.reader (count * size)) k) h.key
        (subst (λ (P : ℕ). IsShort seal P (disk (dev.time from) r.reader.key).content (next_of r.reader) (missing_of r.reader (count * size)) k) h.page_size (short t (replay_here t))))

    -- so some of these are not at hand
    pub short_more : dev.Tells → count * size ≤ length r.reader.bytes → ⊥
    short_more t few = omega (arith, (short_here t).wanted.some, few)

    far : dev.Tells → next_of r.reader + missing_of r.reader (count * size) ≤ r.position * size + count * size
    far t = omega (arith, (short_here t).wanted.some, at_place)

    inside : dev.Tells → next_of r.reader + missing_of r.reader (count * size) ≤ r.reader.size
    inside t = omega (arith, (short_here t).wanted.some)

    -- in a section that owes a replay fewer are kept then
    pub filled_short : IsTrue (w.journal.unrecovered r.section) → dev.Tells → length (kept_bytes seal size (standing w r) (disk (dev.time from)) r.section) < (r.position + count) * size
    filled_short owed t = omega (
      arith,
      behind,
      far t,
      short_length seal u.page_size (disk (dev.time from) K).content (omega (arith, u.fit.begun)) (next_of r.reader) (missing_of r.reader (count * size)) k (short_here t),
      ap length (kept_owed seal size g gives w r (dev.opened from) (disk (dev.time from)) was owed),
    )

    -- any other has a floor
    pub found_short : w.journal.unrecovered r.section ≡ false → dev.Tells → IsFoundShort seal size count (standing w r) r (disk (dev.time from)) k
    found_short free t =
        let h = here seal size g gives w r (dev.opened from) (disk (dev.time from)) was in
        let s = short_here t in
        record {
          free = free;
          floor = elim (short_owed seal size g gives w r (dev.opened from) (disk (dev.time from)) was adopt pos (next_of r.reader) (missing_of r.reader (count * size)) k (inside t) t s) [
            | inl owed ↦ absurd (not_owed free owed)
            | inr floor ↦ floor.1
          ];
          page = some_and (λ (v : PageBlob S gs). (r.position * size < size_of (shown v)) × IsShort seal v.page_size (disk (dev.time from) K).content (r.position * size) (min (count * size) (size_of (shown v) - r.position * size)) k) (w.journal.sections.held r.section) h.0 h.1 (
            omega (arith, s.wanted.some, at_place, h.2.blob_size),
            record {
              wanted = record { some = omega (arith, s.wanted.some, at_place, far t, inside t, h.2.blob_size); low = omega (arith, s.wanted.low, at_place); high = omega (arith, s.wanted.high, far t, inside t, h.2.blob_size) };
              short = omega (arith, s.short, far t, inside t, h.2.blob_size);
            },
          );
        }
      where
        not_owed : {b : Bool} → b ≡ false → IsTrue b → ⊥
        not_owed free owed = cc (free, owed)

  -- it failed
  pub filled_failed : w.place ≡ None → (e : Error) → HasDamage {T = Bool} (Err e) ⊎ HasFailed {T = Bool} (Err e) (dev.faults from) (dev.faults to)
      → (dev.Tells → (k : ℕ) → e ≡ Runtime (InvalidChecksum k) → IsFoundShort seal size count (standing w r) r (disk (dev.time from)) k) → (count * size ≤ length r.reader.bytes → ⊥)
      → Fills seal size g gives dev count r (Err e) (standing w r) w from to
  filled_failed none e cause found more_wanted = record {
    over = tt;
    broken = walk_broken seal size g gives (standing w r) w (dev.opened from) (dev.opened to) (disk (dev.time from)) (disk (dev.time to)) was now.over
        (record { bounds = record { place = record { partition = refl; factory = refl }; floor = refl; ceiling = refl }; unrecovered = λ s. refl; floors = λ s. refl; section = refl; position = refl })
        (λ q v held. (held, λ t. ap (λ (d : Disk). d (key_of w.journal.sections q)) (same_disk t))) none (λ t ahead. ahead) was.walk.from_start;
    rest = tt;
    dropped = λ i. record w { place = none i };
    at_hand = λ is. absurd (cc is);
    content = λ t is. absurd (cc is);
    enough = λ t is. absurd (cc is);
    short = λ t is. absurd (cc is);
    ready = λ few. absurd (more_wanted few);
    unchanged = stood;
    once = tt;
    entries = own;
    faults = faults;
    damaged = λ t k is. found t k (err_is e (Runtime (InvalidChecksum k)) is);
    cause = cause;
  }
