-- Turns of a replay of frames that write nothing: looks at bytes, and errors of its own.
use Rattle.std.specs.Prelude.{◌≡◌, ◌⊎◌, ◌↔◌, ℕ, ◌+◌, ◌*◌, ◌<◌, ◌≤◌, false, List, Option, Some, None, Result, Ok, Err, IsSomeAnd}
use Rattle.std.proofs.Common.{inl, inr, refl, sym, ap, ◌∙◌, subst, arith}
use Rattle.std.proofs.lemmas.Bool.{cases_lt}
use Rattle.blob_device.specs.Disk.{Key, Disk}
use Rattle.blob_device.specs.Timeline.{disk, Always, Each}
use Rattle.blob_device.specs.declared.device.Device as device
use Rattle.blob_device.specs.declared.runtime.RError.TheVariants.{Fault, InvalidChecksum}
use Rattle.blob_device.specs.lemmas.Moments.{always_weaker}
use Rattle.value_codec.specs.declared.codec.Error as codec
use Rattle.value_codec.specs.declared.codec.Error.TheVariants.{InvalidVarint}
use Rattle.sealed_pages.specs.Reading.{Unchanged}
use Rattle.sealed_pages.specs.declared.page_blob.PageBlob.{PageBlob}
use Rattle.section_manager.specs.Entries.{OnlyOwnEntry}
use Rattle.section_manager.specs.Sections.{key_of, IsHeld, IsKeyOf}
use Rattle.section_manager.specs.Setting.{Setting}
use Rattle.section_manager.specs.declared.buffer.SectionBuffer as buffer
use Rattle.section_manager.specs.declared.journal.Damage.{Damage}
use Rattle.section_manager.specs.declared.journal.Error.{Error}
use Rattle.section_manager.specs.declared.journal.Error.TheVariants.{Codec, Corruption, ItemOutOfRange, Mem, Runtime}
use Rattle.segments.specs.FixedCursor.{kept_at}
use Rattle.segments.specs.FixedReading.{HasNotRead}
use Rattle.segments.specs.FixedReplay as bytes
use Rattle.segments.specs.FixedReplay.{Walk, Place, IsAhead, IsIn, IsWalk, first_of}
use Rattle.segments.specs.FixedStepping.{bytes_ahead, failing, sections_ahead, standing, way_of, word}
use Rattle.segments.specs.lemmas.replay.Ending.{ahead_from}
use Rattle.segments.specs.lemmas.replay.Walks.{same_bytes}
use Rattle.segments.specs.lemmas.replay.WalksOn.{replaying_start}
use Rattle.variable_journal.specs.lemmas.Running.{cut_ends, frames_same}
use Rattle.segments.specs.lemmas.FixedOwed.{same_or_cut}
use Rattle.variable_journal.specs.Frames.{HasBadLength, rest_of}
use Rattle.variable_journal.specs.Replaying.{AreWalked, EndsSection, IsItemAt, IsItemLeft, ReplayingFrames, given_bytes}
use Rattle.variable_journal.specs.Advancing.{GivesError, HasGone, HasPassed, Keeps, LeavesLess}
use Rattle.variable_journal.specs.Turning.{BytesGo, IsFurther, Looks, stopped}
use Rattle.variable_journal.proofs.LookingLemmas.{and_at, at_some, disk_same, some_and}
use Rattle.blob_device.proofs.general.Options.{same_some, some_there}

module _ {F S : Type 0} {gs : _} (seal : List ℕ → ℕ) (w : Walk F (PageBlob S gs)) (s : ℕ) (not_ahead : IsAhead w s → ⊥) (own : (t : ℕ) → IsIn w t → t ≡ s) where
  in_of : (o : Option Place) (t q : ℕ) → IsSomeAnd o (λ p. (p.section ≡ t) × (p.position ≤ q)) → IsSomeAnd o (λ p. p.section ≡ t)
  in_of None t q has = has
  in_of (Some p) t q has = has.0

  -- what is ahead is behind the section
  pub ahead_far : (t : ℕ) → IsAhead w t → s < t
  ahead_far t ahead = elim (cases_lt s t) [ inl lt ↦ lt | inr le ↦ absurd (not_ahead (ahead_from w.next_section t s le ahead)) ]

  -- a section that is left by an error is ended
  pub ends_left : (d : Disk) → EndsSection seal w (stopped w) d d s
  ends_left d = record {
    first = λ t q i l lt. elim l.byte.ahead [
      | inl here ↦ (let far = ahead_far t here.1 in omega (arith, far, lt))
      | inr there ↦ (let is = own t (in_of w.place t q there) in omega (arith, is, lt))
    ];
    rest = λ t q i. (
      λ l. (let b = l.byte in elim b.ahead [
        | inl here ↦ (record { byte = record { goes_on = b.goes_on; begun = b.begun; whole = b.whole; ahead = inl here }; whole = l.whole }, ahead_far t here.1)
        | inr never ↦ absurd never
      ]),
      λ l. (let b = l.0.byte in elim b.ahead [
        | inl here ↦ record { byte = record { goes_on = b.goes_on; begun = b.begun; whole = b.whole; ahead = inl here }; whole = l.0.whole }
        | inr there ↦ absurd (let is = own t (in_of w.place t q there) in let lt = l.1 in omega (arith, is, lt))
      ]),
    );
  }

module _ {F S D : Type 0} {gs : _} (g : buffer.Ghosts (PageBlob S gs)) (gives : F → Setting) (seal : List ℕ → ℕ) (dev : device.Ghosts D) (w : Walk F (PageBlob S gs)) (r : Place) (at : w.place ≡ Some r) (a b : D)
    (was : BytesGo g gives seal dev w a) where
  abbrev d : Disk
  d = disk (dev.time a)

  abbrev e : Disk
  e = disk (dev.time b)

  held_here : IsHeld w.journal.sections r.section
  held_here = (let u = at_some (w.journal.sections.held r.section) _ (was.walk.place r at) in some_there (w.journal.sections.held r.section) u.0 u.1)

  in_here : (s : ℕ) → r.section ≡ s → IsIn w s
  in_here s is = some_and w.place (λ (p : Place). p.section ≡ s) r at is

  near_here : (s : ℕ) → (IsAhead w s ⊎ (r.section ≡ s)) → IsAhead w s ⊎ IsIn w s
  near_here s (inl ahead) = inl ahead
  near_here s (inr is) = inr (in_here s is)

  entries_here : OnlyOwnEntry (key_of w.journal.sections r.section) (dev.opened a) (dev.opened b) → (q : Key) → (IsKeyOf w.journal.sections (λ s. IsHeld w.journal.sections s × (IsAhead w s ⊎ IsIn w s)) q → ⊥) → dev.opened b q ≡ dev.opened a q
  entries_here entries q never = entries q (λ is. never (r.section, (held_here, inr (in_here r.section refl)), is))

  moments_here : Unchanged (dev.time a) (dev.time b) → Always (dev.time a) (dev.time b) (Each (ReplayingFrames seal w d))
  moments_here still = always_weaker (dev.time a) (dev.time b) (λ x. x ≡ d) (Each (ReplayingFrames seal w d))
      (λ x is q. inl (subst (λ (y : Disk). bytes.Replaying seal 1 w d q (y q)) (sym is) (replaying_start seal 1 w d q))) still

  own_here : (t : ℕ) → IsIn w t → t ≡ r.section
  own_here t is = sym (and_at w.place (λ (p : Place). p.section ≡ t) r at is)

  -- the place moved in its section, over no item that is left
  module _ (q : Place) (section : q.section ≡ r.section) (onward : r.position ≤ q.position) where
    abbrev on : Place
    on = record { section = r.section; position = q.position; reader = q.reader }

    abbrev k : Walk F (PageBlob S gs)
    k = standing w on

    less_here : LeavesLess seal w k d d
    less_here x y is = elim is [
      | inl rep ↦ inl (record {
        flushed = rep.flushed;
        prefix = rep.prefix;
        cut = rep.cut;
        still = rep.still;
        others = λ never. rep.others (λ z. never (z.0, (z.1.0, near_here z.0 z.1.1), z.2));
      })
      | inr cuts ↦ inr (record {
        section = cuts.section;
        buffer = cuts.buffer;
        held = cuts.held;
        owes = cuts.owes;
        near = near_here cuts.section cuts.near;
        key = cuts.key;
        torn = cuts.torn;
        leaves = cuts.leaves;
      })
    ]

    left_here : ((o : ℕ) (i : List ℕ) → IsItemAt (kept_at seal 1 w r d) o i → r.position ≤ o → first_of w r.section ≤ o → q.position ≤ o) → (s o : ℕ) (i : List ℕ) → IsItemLeft seal k d s o i ↔ IsItemLeft seal w d s o i
    left_here none s o i = (forth, back)
      where
        forth : IsItemLeft seal k d s o i → IsItemLeft seal w d s o i
        forth l = (let y = l.byte in record {
          byte = record {
            goes_on = y.goes_on;
            begun = y.begun;
            whole = y.whole;
            ahead = elim y.ahead [
              | inl here ↦ inl here
              | inr there ↦ inr (some_and w.place (λ (p : Place). (p.section ≡ s) × (p.position ≤ o)) r at (there.0, (let far = there.1 in omega (arith, far, onward))))
            ];
          };
          whole = l.whole;
        })

        back : IsItemLeft seal w d s o i → IsItemLeft seal k d s o i
        back l = (let y = l.byte in record {
          byte = record {
            goes_on = y.goes_on;
            begun = y.begun;
            whole = y.whole;
            ahead = elim y.ahead [
              | inl here ↦ inl here
              | inr there ↦ (let in_r = and_at w.place (λ (p : Place). (p.section ≡ s) × (p.position ≤ o)) r at there in
                  inr (in_r.0, none o i (subst (λ (t : ℕ). IsItemAt (given_bytes seal w d t) o i) (sym in_r.0) l.whole) in_r.1 (subst (λ (t : ℕ). first_of w t ≤ o) (sym in_r.0) y.begun)))
            ];
          };
          whole = l.whole;
        })

    gone_here : OnlyOwnEntry (key_of w.journal.sections r.section) (dev.opened a) (dev.opened b) → (dev.Tells → Unchanged (dev.time a) (dev.time b)) → dev.faults a ≤ dev.faults b → HasGone g gives seal dev w k a b
    gone_here entries still faults = record {
      keeps = record {
        same = record { bounds = record { place = record { partition = refl; factory = refl }; floor = refl; ceiling = refl }; unrecovered = λ s. refl; floors = λ s. refl; section = refl; position = refl };
        stays = λ s never. (never, (λ h. h, λ h. h));
        floors = λ s u v held also. same_or_cut (w.journal.floor_of s) u v (same_some (w.journal.sections.held s) u v held also);
        onward = near_here;
        on_disk = λ t. record {
          bytes = λ s u v held also free. same_bytes (Unit {0}) u v (d (key_of w.journal.sections s)) (e (key_of w.journal.sections s)) (same_some (w.journal.sections.held s) u v held also) (λ x. ap (λ (y : Disk). y (key_of w.journal.sections s)) (same t));
          items = λ going s u held owed. frames_same seal u.page_size (d (key_of w.journal.sections s)) (e (key_of w.journal.sections s)) (ap (λ (y : Disk). y (key_of w.journal.sections s)) (same t));
          behind = λ s held also far. ap (λ (x : Disk). given_bytes seal w x s) (same t);
        };
        moments = λ t. moments_here (still t);
        entries = entries_here entries;
        faults = faults;
      };
      goes = record { failed = refl; ended = refl; held = λ s. (λ h. h, λ h. h); known = λ s. refl };
      later = λ t. subst (λ (x : Disk). LeavesLess seal w k d x) (sym (same t)) less_here;
    }
      where
        same : (t : dev.Tells) → e ≡ d
        same t = disk_same g gives seal dev a b (still t)

    passed_here : OnlyOwnEntry (key_of w.journal.sections r.section) (dev.opened a) (dev.opened b) → (dev.Tells → Unchanged (dev.time a) (dev.time b)) → dev.faults a ≤ dev.faults b
        → (dev.Tells → (o : ℕ) (i : List ℕ) → IsItemAt (kept_at seal 1 w r d) o i → r.position ≤ o → first_of w r.section ≤ o → q.position ≤ o)
        → HasPassed g gives seal dev w k a b
    passed_here entries still faults none = record {
      gone = gone_here entries still faults;
      rest = λ t. (let same = disk_same g gives seal dev a b (still t) in record {
        left = subst (λ (x : Disk). (s o : ℕ) (i : List ℕ) → IsItemLeft seal k x s o i ↔ IsItemLeft seal w d s o i) (sym same) (left_here (none t));
        kept = λ s near. ap (λ (x : Disk). given_bytes seal w x s) same;
        sizes = λ s near. refl;
      });
    }

  -- looks keep all, wherever the place goes in its section
  pub gone_looked : {T : Type 0} (x : T) (m : Walk F (PageBlob S gs)) (q : Place) → m.place ≡ Some q → Looks g gives seal dev r w m a b (Ok x) → HasGone g gives seal dev w m a b
  gone_looked x m q there looks =
      let f = and_at m.place (IsFurther w m r) q there looks.rest in
      let same : m ≡ standing w (record { section = r.section; position = q.position; reader = q.reader }) = f.goes ∙ (λ i. standing w (record { section = f.section i; position = q.position; reader = q.reader })) in
      subst (λ (y : Walk F (PageBlob S gs)). HasGone g gives seal dev w y a b) (sym same) (gone_here q f.section f.position looks.entries looks.unchanged looks.faults)

  -- looks passed over no item that is left
  pub passed_looked : {T : Type 0} (x : T) (m : Walk F (PageBlob S gs)) (q : Place) → m.place ≡ Some q → Looks g gives seal dev r w m a b (Ok x)
      → (dev.Tells → (o : ℕ) (i : List ℕ) → IsItemAt (kept_at seal 1 w r d) o i → r.position ≤ o → first_of w r.section ≤ o → q.position ≤ o)
      → HasPassed g gives seal dev w m a b
  passed_looked x m q there looks none =
      let f = and_at m.place (IsFurther w m r) q there looks.rest in
      let same : m ≡ standing w (record { section = r.section; position = q.position; reader = q.reader }) = f.goes ∙ (λ i. standing w (record { section = f.section i; position = q.position; reader = q.reader })) in
      subst (λ (y : Walk F (PageBlob S gs)). HasPassed g gives seal dev w y a b) (sym same) (passed_here q f.section f.position looks.entries looks.unchanged looks.faults none)

  -- they leave no section
  pub near_looked : {T : Type 0} (x : T) (m : Walk F (PageBlob S gs)) (q : Place) → m.place ≡ Some q → Looks g gives seal dev r w m a b (Ok x) → (s : ℕ) → IsAhead w s ⊎ IsIn w s → IsAhead m s ⊎ IsIn m s
  near_looked x m q there looks s near =
      let f = and_at m.place (IsFurther w m r) q there looks.rest in
      elim near [
        | inl ahead ↦ inl (subst (λ (y : Walk F (PageBlob S gs)). IsAhead y s) (sym f.goes) ahead)
        | inr inside ↦ inr (some_and m.place (λ (p : Place). p.section ≡ s) q there (f.section ∙ sym (own_here s inside)))
      ]

  -- sections stay whole frames, wherever it stands
  pub walked_looked : {T : Type 0} (x : T) (m : Walk F (PageBlob S gs)) (q : Place) → m.place ≡ Some q → Looks g gives seal dev r w m a b (Ok x) → dev.Tells → AreWalked seal w d → AreWalked seal m e
  walked_looked x m q there looks t walked =
      let f = and_at m.place (IsFurther w m r) q there looks.rest in
      let on : Place = record { section = r.section; position = q.position; reader = q.reader } in
      let same : m ≡ standing w on = f.goes ∙ (λ i. standing w (record { section = f.section i; position = q.position; reader = q.reader })) in
      subst (λ (y : Walk F (PageBlob S gs)). AreWalked seal y e) (sym same) (subst (AreWalked seal (standing w on)) (sym (disk_same g gives seal dev a b (looks.unchanged t))) (record {
        start = λ going near held. walked.start going (near_here w.start_section near) held;
        framed = walked.framed;
        gone_over = λ fine s over. walked.gone_over fine s (record { begun = over.begun; not_ahead = over.not_ahead; not_in = λ there. over.not_in (sym (own_here s there)) });
      }))

  -- an error of a look, or of what stands at the place, ends the section
  pub error_stopped : {V C : Type 0} (spelling : V → List ℕ) (accepted : V → C → Type 0) (refusal : List ℕ → C → Option codec.Error) (config : C) (x : Error)
      → (free : (s : ℕ) → w.journal.floor_of s ≡ 0) → (dev.Tells → AreWalked seal w d) → w.ended ≡ false → BytesGo g gives seal dev (stopped w) b
      → OnlyOwnEntry (key_of w.journal.sections r.section) (dev.opened a) (dev.opened b) → (dev.Tells → Unchanged (dev.time a) (dev.time b)) → dev.faults a ≤ dev.faults b
      → ((p : ℕ) → x ≡ ItemOutOfRange p → ⊥)
      → (dev.Tells → (y : codec.Error) → x ≡ Codec y → ((o : ℕ) × (i : List ℕ) × IsItemLeft seal w d r.section o i × ((q : ℕ) (j : List ℕ) → IsItemLeft seal w d r.section q j → o ≤ q) × (refusal i config ≡ Some y))
      ⊎ ((y ≡ InvalidVarint) × ((q : ℕ) (i : List ℕ) → IsItemLeft seal w d r.section q i → ⊥) × HasBadLength (rest_of (given_bytes seal w d r.section))))
      → (dev.Tells → (n : ℕ) → x ≡ Runtime (InvalidChecksum n) → ⊥) → ((y : Damage) → x ≡ Corruption y → ⊥)
      → HasNotRead {T = V} (Err x) (dev.faults a) (dev.faults b)
      → GivesError g gives seal dev spelling accepted refusal config w (stopped w) a b x
  error_stopped spelling accepted refusal config x free walked going broken entries still faults no_start why no_page no_floor cause = record {
    keeps = keeps;
    over = record {
      bytes = broken;
      free = free;
      place = λ t p is. absurd (cc is);
      walked = λ t. subst (AreWalked seal (stopped w)) (sym (same t)) (record {
        start = λ go near held. (walked t).start go (elim near [ inl ahead ↦ inl ahead | inr never ↦ absurd never ]) held;
        framed = (walked t).framed;
        gone_over = λ never. absurd (cc never);
      });
    };
    failed = refl;
    says = λ t. record {
      stops = inr (r.section, ends t, record { near = inr (in_here r.section refl); left = λ held near. elim near [ inl ahead ↦ not_ahead ahead | inr never ↦ absurd never ] });
      ends = λ is. absurd (cc (is, going));
      cut = cut_ends g gives seal dev w (stopped w) a b keeps t;
      start = λ p is. absurd (no_start p is);
      refused = λ y is. record {
        section = r.section;
        near = inr (in_here r.section refl);
        ends = ends t;
        lengths = λ s near lt. absurd (none_before s near lt);
        whole = λ s near lt. absurd (none_before s near lt);
        why = why t y is;
      };
      damaged = no_page t;
      floor = no_floor;
    };
    nearer = (let before : way_of w ≡ sections_ahead w.next_section * (word + 1) + bytes_ahead (Some r) = ap (λ (o : Option Place). sections_ahead w.next_section * (word + 1) + bytes_ahead o) at in omega (arith, before));
    cause = inr (inr cause);
  }
    where
      same : (t : dev.Tells) → e ≡ d
      same t = disk_same g gives seal dev a b (still t)

      not_ahead : IsAhead w r.section → ⊥
      not_ahead = (was.walk.come_to r at).1

      -- no section before it was to be gone over
      none_before : (s : ℕ) → IsAhead w s ⊎ IsIn w s → s < r.section → ⊥
      none_before s near lt = elim near [ inl ahead ↦ not_ahead (ahead_from w.next_section s r.section (omega (arith, lt)) ahead) | inr inside ↦ (let is = own_here s inside in omega (arith, is, lt)) ]

      keeps : Keeps g gives seal dev w (stopped w) a b
      keeps = record {
        same = record { bounds = record { place = record { partition = refl; factory = refl }; floor = refl; ceiling = refl }; unrecovered = λ s. refl; floors = λ s. refl; section = refl; position = refl };
        stays = λ s never. (never, (λ h. h, λ h. h));
        floors = λ s u v held also. same_or_cut (w.journal.floor_of s) u v (same_some (w.journal.sections.held s) u v held also);
        onward = λ s near. elim near [ inl ahead ↦ inl ahead | inr never ↦ absurd never ];
        on_disk = λ t. record {
          bytes = λ s u v held also free. same_bytes (Unit {0}) u v (d (key_of w.journal.sections s)) (e (key_of w.journal.sections s)) (same_some (w.journal.sections.held s) u v held also) (λ y. ap (λ (z : Disk). z (key_of w.journal.sections s)) (same t));
          items = λ going s u held owed. frames_same seal u.page_size (d (key_of w.journal.sections s)) (e (key_of w.journal.sections s)) (ap (λ (z : Disk). z (key_of w.journal.sections s)) (same t));
          behind = λ s held also far. ap (λ (x : Disk). given_bytes seal w x s) (same t);
        };
        moments = λ t. moments_here (still t);
        entries = entries_here entries;
        faults = faults;
      }

      ends : (t : dev.Tells) → EndsSection seal w (stopped w) d e r.section
      ends t = subst (λ (y : Disk). EndsSection seal w (stopped w) d y r.section) (sym (same t)) (ends_left seal w r.section (was.walk.come_to r at).1 own_here d)

  -- an error of a look
  pub error_looked : {V C T : Type 0} (spelling : V → List ℕ) (accepted : V → C → Type 0) (refusal : List ℕ → C → Option codec.Error) (config : C) (k : Walk F (PageBlob S gs)) (x : Error)
      → ((s : ℕ) → w.journal.floor_of s ≡ 0) → (dev.Tells → AreWalked seal w d) → w.ended ≡ false → Looks g gives seal dev r w k a b {T = T} (Err x) → GivesError g gives seal dev spelling accepted refusal config w (stopped k) a b x
  error_looked {V = V} {T = T} spelling accepted refusal config k x free walked going looks =
      let same : stopped k ≡ stopped w = ap failing looks.dropped in
      subst (λ (y : Walk F (PageBlob S gs)). GivesError g gives seal dev spelling accepted refusal config w y a b x) (sym same)
      (error_stopped spelling accepted refusal config x free walked going (subst (λ (y : Walk F (PageBlob S gs)). BytesGo g gives seal dev y b) same looks.broken) looks.entries looks.unchanged looks.faults
      (λ p is. never (λ y at. cc (at, is)) (λ at. cc (at, is)) (λ at. cc (at, is)))
      (λ t y is. absurd (never (λ z at. cc (at, is)) (λ at. cc (at, is)) (λ at. cc (at, is))))
      (λ t n is. looks.damaged t n (ap Err is))
      (λ y is. never (λ z at. cc (at, is)) (λ at. cc (at, is)) (λ at. cc (at, is)))
      cause_of)
    where
      inner : {y : Error} → ◌≡◌ {A = Result T Error} (Err x) (Err y) → x ≡ y
      inner is = cc is

      never : ((n : ℕ) → x ≡ Runtime (InvalidChecksum n) → ⊥) → (x ≡ Mem → ⊥) → (x ≡ Runtime Fault → ⊥) → ⊥
      never page memory fault = elim looks.cause [
        | inl damage ↦ page damage.0 (inner damage.1)
        | inr (inl none) ↦ memory (inner none)
        | inr (inr rose) ↦ fault (inner rose.0)
      ]

      cause_of : HasNotRead {T = V} (Err x) (dev.faults a) (dev.faults b)
      cause_of = elim looks.cause [
        | inl damage ↦ inl (damage.0, ap Err (inner damage.1))
        | inr (inl none) ↦ inr (inr (inl (ap Err (inner none))))
        | inr (inr rose) ↦ inr (inr (inr (ap Err (inner rose.0), rose.1)))
      ]
