-- Looking at bytes of a section: one look after another, and what is passed over. Nothing is written.
use Rattle.std.specs.Prelude.{◌≡◌, ◌⊎◌, ℕ, ◌+◌, ◌*◌, ◌<◌, ◌≤◌, Bool, true, false, List, [], length, take, drop, Option, Some, None, IsSome, IsSomeAnd, MatchOption, Result, Ok, Err, IfOk, OnOk, OnErr}
use Rattle.std.specs.Option.{option_map}
use Rattle.std.proofs.Common.{inl, inr, refl, sym, ap, ◌∙◌, subst, arith}
use Rattle.std.proofs.lemmas.List.{take_all}
use Rattle.blob_device.specs.Disk.{Blob}
use Rattle.blob_device.specs.Timeline.{disk}
use Rattle.blob_device.specs.declared.device.Device as device
use Rattle.blob_device.specs.declared.runtime.RError.TheVariants.{InvalidChecksum}
use Rattle.blob_device.specs.lemmas.Moments.{always_now, always_then, always_weaker}
use Rattle.sealed_pages.specs.Reading.{Unchanged}
use Rattle.sealed_pages.specs.declared.page_blob.PageBlob.{PageBlob}
use Rattle.sealed_pages.specs.Shown.{shown}
use Rattle.sealed_pages.specs.Unrecovered.{IsAdopted}
use Rattle.sealed_pages.specs.lemmas.Unrecovered.{prefix_short}
use Rattle.sealed_pages.specs.lemmas.looking.Looking.{unchanged_start}
use Rattle.sealed_pages.specs.lemmas.memory.Holding.{bytes_length}
use Rattle.segments.specs.lemmas.replay.Kept.{sealed_flushed}
use Rattle.segments.specs.lemmas.replay.Reading.{failed_since}
use Rattle.section_manager.specs.Refusing.{HasDamage, HasFailed}
use Rattle.section_manager.specs.Sections.{key_of, IsOver}
use Rattle.section_manager.specs.Setting.{Setting}
use Rattle.section_manager.specs.declared.buffer.SectionBuffer as buffer
use Rattle.section_manager.specs.declared.journal.Error.{Error}
use Rattle.section_manager.specs.declared.journal.Error.TheVariants.{Runtime}
use Rattle.segments.specs.FixedBounds.{whole_of}
use Rattle.segments.specs.FixedCursor.{Fills, IsFilled, Turns, after_items, kept_at, leaving, passing}
use Rattle.segments.specs.FixedReplay.{Walk, Place, HasWalk, IsWalk, StandsIn, kept_bytes, kept_of}
use Rattle.segments.specs.FixedStepping.{bytes_ahead, failing, sections_ahead, standing, way_of, word}
use Rattle.variable_journal.specs.Turning.{BytesGo, HasLooked, HasSkipped, IsFurther, Looks, MayLook, stopped}
use Rattle.blob_device.proofs.general.Results.{on_err, on_ok}

-- what holds of the value that is there
pub at_some : {A : Type 0} (o : Option A) (P : A → Type 0) → IsSomeAnd o P → (v : A) × (o ≡ Some v) × P v
at_some None P has = absurd has
at_some (Some v) P has = (v, refl, has)

-- what holds of each value that is there holds, where one is
pub of_some : {A P : Type 0} (o : Option A) → IsSome o → ((v : A) → o ≡ Some v → P) → P
of_some None has f = absurd (cc has)
of_some (Some v) has f = f v refl

pub some_and : {A : Type 0} (o : Option A) (P : A → Type 0) (v : A) → o ≡ Some v → P v → IsSomeAnd o P
some_and {A = A} o P v is has = subst (λ (x : Option A). IsSomeAnd x P) (sym is) has

pub and_at : {A : Type 0} (o : Option A) (P : A → Type 0) (v : A) → o ≡ Some v → IsSomeAnd o P → P v
and_at {A = A} o P v is has = subst (λ (x : Option A). IsSomeAnd x P) is has

pub some_map : {A : Type 0} (o : Option A) (P Q : A → Type 0) → ((v : A) → P v → Q v) → IsSomeAnd o P → IsSomeAnd o Q
some_map None P Q f has = absurd has
some_map (Some v) P Q f has = f v has

-- what is said of the value that is there
pub match_at : {A : Type 0} (o : Option A) (v : A) (N : Type 0) (P : A → Type 0) → o ≡ Some v → MatchOption o N P → P v
match_at {A = A} o v N P is has = subst (λ (x : Option A). MatchOption x N P) is has

-- all bytes are whole items
pub whole_bytes : (bytes hand : List ℕ) → hand ≡ take (whole_of 1 (length bytes)) bytes → hand ≡ bytes
whole_bytes bytes hand is = is ∙ take_all (whole_of 1 (length bytes)) bytes (omega arith)

never_floor : (n : ℕ) → n ≡ 0 → 0 < n → ⊥
never_floor n is has = omega (arith, is, has)

module _ {F B : Type 0} (w : Walk F B) (r : Place) where
  -- as many bytes at hand, or more
  pub further_filled : (k : Walk F B) (q : Place) → IsFilled w k r q → IsFurther w k r q
  further_filled k q f = record {
    goes = f.goes;
    section = f.section;
    position = omega (arith, f.position);
    size = f.same.size;
    at = omega (arith, f.same.at);
  }

  pub further_here : w.place ≡ Some r → IsFurther w w r r
  further_here at = record { goes = λ i. record w { place = at i }; section = refl; position = omega arith; size = refl; at = omega arith }

  pub further_then : (m k : Walk F B) (q x : Place) → IsFurther w m r q → IsFurther m k q x → IsFurther w k r x
  further_then m k q x one two = record {
    goes = two.goes ∙ ap (λ (y : Walk F B). standing y x) one.goes;
    section = two.section ∙ one.section;
    position = omega (arith, one.position, two.position);
    size = two.size ∙ one.size;
    at = omega (arith, one.at, two.at);
  }

  pub further_passed : (k : Walk F B) (count : ℕ) → w.place ≡ Some r → k ≡ passing 1 count w → IsFurther w k r (after_items 1 count r)
  further_passed k count at goes = record {
    goes = goes ∙ (λ i. record w { place = option_map (after_items 1 count) (at i) });
    section = refl;
    position = omega arith;
    size = refl;
    at = omega arith;
  }

module _ {F S D : Type 0} {gs : _} (g : buffer.Ghosts (PageBlob S gs)) (gives : F → Setting) (seal : List ℕ → ℕ) (dev : device.Ghosts D) where
  -- the disk behind calls that write nothing
  pub disk_same : (a b : D) → Unchanged (dev.time a) (dev.time b) → disk (dev.time b) ≡ disk (dev.time a)
  disk_same a b still = always_now (dev.time a) (dev.time b) (λ x. x ≡ disk (dev.time a)) still

  pub still_then : (a b c : D) → Unchanged (dev.time a) (dev.time b) → Unchanged (dev.time b) (dev.time c) → Unchanged (dev.time a) (dev.time c)
  still_then a b c one two = always_then (dev.time a) (dev.time b) (dev.time c) (λ x. x ≡ disk (dev.time a)) one
      (always_weaker (dev.time b) (dev.time c) (λ x. x ≡ disk (dev.time b)) (λ x. x ≡ disk (dev.time a)) (λ x is. is ∙ disk_same a b one) two)

  -- a look by another answer
  module _ {T U : Type 0} (r : Place) (w k : Walk F (PageBlob S gs)) (a b : D) where
    pub looks_ok : (x : T) (y : U) → Looks g gives seal dev r w k a b (Ok x) → Looks g gives seal dev r w k a b (Ok y)
    looks_ok x y l = record {
      rest = l.rest;
      over = l.over;
      broken = tt;
      dropped = tt;
      unchanged = l.unchanged;
      entries = l.entries;
      faults = l.faults;
      damaged = λ t n is. absurd (cc is);
      cause = tt;
    }

    pub looks_err : (e : Error) → Looks g gives seal dev r w k a b {T = T} (Err e) → Looks g gives seal dev r w k a b {T = U} (Err e)
    looks_err e l = record {
      rest = tt;
      over = tt;
      broken = l.broken;
      dropped = l.dropped;
      unchanged = l.unchanged;
      entries = l.entries;
      faults = l.faults;
      damaged = λ t n is. (let same : e ≡ Runtime (InvalidChecksum n) = cc is in l.damaged t n (ap Err same));
      cause = elim l.cause [
        | inl damage ↦ inl (damage.0, ap Err (inner damage.1))
        | inr (inl memory) ↦ inr (inl (ap Err (inner memory)))
        | inr (inr fault) ↦ inr (inr (ap Err (inner fault.0), fault.1))
      ];
    }
      where
        inner : {y : Error} → ◌≡◌ {A = Result T Error} (Err e) (Err y) → e ≡ y
        inner is = cc is

  -- the replay of bytes goes on behind what was passed over
  walk_turned : (w k : Walk F (PageBlob S gs)) (here : D) (count : ℕ) → BytesGo g gives seal dev w here → Turns seal 1 (passing 1 count w) w k → BytesGo g gives seal dev k here
  walk_turned w k here count over turn = record {
    over = subst (λ (x : Walk F (PageBlob S gs)). IsOver g gives dev.Tells x.journal.sections (dev.opened here) (disk (dev.time here))) (sym turn.goes) over.over;
    walk = turn.walk over.walk;
    disk = λ t. turn.walks (disk (dev.time here)) (over.disk t);
  }

  -- bytes at hand are passed over
  pub looks_passed : (w k : Walk F (PageBlob S gs)) (r : Place) → w.place ≡ Some r → (here : D) (count : ℕ) → BytesGo g gives seal dev w here → Turns seal 1 (passing 1 count w) w k → Looks g gives seal dev r w k here here {T = Unit {0}} (Ok tt)
  looks_passed w k r at here count over turn = record {
    rest = some_and k.place (IsFurther w k r) (after_items 1 count r) (ap (λ (x : Walk F (PageBlob S gs)). x.place) (further_passed w r k count at turn.goes).goes) (further_passed w r k count at turn.goes);
    over = walk_turned w k here count over turn;
    broken = tt;
    dropped = tt;
    unchanged = λ t. unchanged_start (dev.time here);
    entries = λ q other. refl;
    faults = omega arith;
    damaged = λ t n is. absurd (cc is);
    cause = tt;
  }

  -- a fill of bytes is a look
  pub looks_fill : (w : Walk F (PageBlob S gs)) (r : Place) (k : Walk F (PageBlob S gs)) (a b : D) (count : ℕ) (result : Result Bool Error) → ((s : ℕ) → w.journal.floor_of s ≡ 0)
      → Fills seal 1 g gives dev count r result w k a b → Looks g gives seal dev r w k a b result
  looks_fill w r k a b count result free fill = record {
    rest = on_ok result (some_map k.place (IsFilled w k r) (IsFurther w k r) (further_filled w r k)) fill.rest;
    over = fill.over;
    broken = both result fill.broken fill.dropped;
    dropped = on_err result (λ is. ap leaving is) fill.dropped;
    unchanged = fill.unchanged;
    entries = fill.entries;
    faults = fill.faults;
    damaged = λ t n is. never_floor (w.journal.floor_of r.section) (free r.section) (fill.damaged t n is).floor;
    cause = fill.cause;
  }
    where
      both : (x : Result Bool Error) → OnErr x (IsWalk g gives seal 1 dev.Tells (failing k) (dev.opened b) (disk (dev.time b))) → OnErr x (k ≡ leaving w) → OnErr x (BytesGo g gives seal dev (stopped k) b)
      both (Ok y) go is = tt
      both (Err e) go is = subst (λ (y : Walk F (PageBlob S gs)). IsWalk g gives seal 1 dev.Tells y (dev.opened b) (disk (dev.time b))) (λ i. failing (sym (left is) i)) go
        where
          left : k ≡ leaving w → leaving k ≡ k
          left same = ap leaving same ∙ sym same

  module _ (w : Walk F (PageBlob S gs)) (r : Place) (at : w.place ≡ Some r) where
    pub looks_start : {T : Type 0} (x : T) (here : D) → BytesGo g gives seal dev w here → Looks g gives seal dev r w w here here (Ok x)
    looks_start x here over = record {
      rest = some_and w.place (IsFurther w w r) r at (further_here w r at);
      over = over;
      broken = tt;
      dropped = tt;
      unchanged = λ t. unchanged_start (dev.time here);
      entries = λ q other. refl;
      faults = omega arith;
      damaged = λ t n is. absurd (cc is);
      cause = tt;
    }

    -- one look after another
    module _ {T U : Type 0} (m k : Walk F (PageBlob S gs)) (q : Place) (a b c : D) (x : T) (result : Result U Error)
        (one : Looks g gives seal dev r w m a b (Ok x)) (there : m.place ≡ Some q) (two : Looks g gives seal dev q m k b c result) where
      first : IsFurther w m r q
      first = and_at m.place (IsFurther w m r) q there one.rest

      key_same : key_of m.journal.sections q.section ≡ key_of w.journal.sections r.section
      key_same = λ i. key_of (first.goes i).journal.sections (first.section i)

      pub looks_then : Looks g gives seal dev r w k a c result
      looks_then = record {
        rest = on_ok result (some_map k.place (IsFurther m k q) (IsFurther w k r) (λ y two. further_then w r m k q y first two)) two.rest;
        over = two.over;
        broken = two.broken;
        dropped = on_err result (λ is. is ∙ ap leaving first.goes) two.dropped;
        unchanged = λ t. still_then a b c (one.unchanged t) (two.unchanged t);
        entries = λ y other. two.entries y (λ is. other (is ∙ key_same)) ∙ one.entries y other;
        faults = omega (arith, one.faults, two.faults);
        damaged = two.damaged;
        cause = since result two.cause;
      }
        where
          since : (y : Result U Error) → OnErr y (HasDamage y ⊎ HasFailed y (dev.faults b) (dev.faults c)) → OnErr y (HasDamage y ⊎ HasFailed y (dev.faults a) (dev.faults c))
          since (Ok v) has = tt
          since (Err e) has = elim has [ inl damage ↦ inl damage | inr failed ↦ inr (failed_since (Err e) (dev.faults a) (dev.faults b) (dev.faults c) one.faults failed) ]

    -- a fill of bytes from where earlier looks left the replay
    module _ (m k : Walk F (PageBlob S gs)) (q : Place) (a b c : D) (one : Looks g gives seal dev r w m a b {T = Unit {0}} (Ok tt)) (there : m.place ≡ Some q) (still : q.position ≡ r.position) (free : (s : ℕ) → w.journal.floor_of s ≡ 0)
        (count : ℕ) (result : Result Bool Error) (fill : Fills seal 1 g gives dev count q result m k b c) where
      before : IsFurther w m r q
      before = and_at m.place (IsFurther w m r) q there one.rest

      free_m : (s : ℕ) → m.journal.floor_of s ≡ 0
      free_m s = ap (λ (x : Walk F (PageBlob S gs)). x.journal.floor_of s) before.goes ∙ free s

      kept_same : dev.Tells → kept_at seal 1 m q (disk (dev.time b)) ≡ kept_at seal 1 w r (disk (dev.time a))
      kept_same t = λ i. kept_bytes seal 1 (before.goes i) (disk_same a b (one.unchanged t) i) (before.section i)

      pub looks_filled : Looks g gives seal dev r w k a c result
      looks_filled = looks_then m k q a b c tt result one there (looks_fill m q k b c count result free_m fill)

      pub still_filled : OnOk result (IsSomeAnd k.place (λ p. p.position ≡ r.position))
      still_filled = on_ok result (some_map k.place (IsFilled m k q) (λ p. p.position ≡ r.position) (λ p f. f.position ∙ still)) fill.rest

      pub hand_filled : result ≡ Ok true → IsSomeAnd k.place (λ p. count ≤ length p.reader.bytes)
      hand_filled is = some_map k.place (λ p. count * 1 ≤ length p.reader.bytes) (λ p. count ≤ length p.reader.bytes) (λ p le. omega (arith, le)) (fill.at_hand is)

      -- what was at hand is
      pub hand_kept : (n : ℕ) → n ≤ length q.reader.bytes → OnOk result (IsSomeAnd k.place (λ p. n ≤ length p.reader.bytes))
      hand_kept n le = on_ok result (some_map k.place (IsFilled m k q) (λ p. n ≤ length p.reader.bytes) (λ p f. omega (arith, le, f.grows))) fill.rest

      pub there_filled : dev.Tells → result ≡ Ok true → IsSomeAnd k.place (λ p. take count p.reader.bytes ≡ take count (drop r.position (kept_at seal 1 w r (disk (dev.time a)))))
      there_filled t is =
          let ones : count * 1 ≡ count = omega arith in
          let same : q.position * 1 ≡ r.position = omega (arith, still) in
          some_map k.place (λ p. take (count * 1) p.reader.bytes ≡ take (count * 1) (drop (q.position * 1) (kept_at seal 1 m q (disk (dev.time b))))) (λ p. take count p.reader.bytes ≡ take count (drop r.position (kept_at seal 1 w r (disk (dev.time a)))))
          (λ p has. ap (λ (n : ℕ). take n p.reader.bytes) (sym ones) ∙ has ∙ (λ i. take (ones i) (drop (same i) (kept_same t i)))) (fill.content t is)

      pub enough_filled : dev.Tells → result ≡ Ok true → r.position + count ≤ length (kept_at seal 1 w r (disk (dev.time a)))
      enough_filled t is = omega (arith, fill.enough t is, ap length (kept_same t), still)

      pub short_filled : dev.Tells → result ≡ Ok false → length (kept_at seal 1 w r (disk (dev.time a))) < r.position + count
      short_filled t is = omega (arith, fill.short t is, ap length (kept_same t), still)

    -- no more bytes are given than the section has
    module _ (adopt : (u : PageBlob S gs) (b : Blob) → g.Stands u b → IsAdopted seal (shown u) b) (here : D) (over : BytesGo g gives seal dev w here) where
      buffer_here : (u : PageBlob S gs) × (w.journal.sections.held r.section ≡ Some u) × StandsIn 1 w r u
      buffer_here = at_some (w.journal.sections.held r.section) (StandsIn 1 w r) (over.walk.place r at)

      pub kept_most : dev.Tells → length (kept_at seal 1 w r (disk (dev.time here))) ≤ r.reader.size
      kept_most t = go (w.journal.unrecovered r.section) refl
        where
          u : PageBlob S gs
          u = buffer_here.0

          b : Blob
          b = disk (dev.time here) (key_of w.journal.sections r.section)

          own : (o : Bool) → w.journal.unrecovered r.section ≡ o → kept_at seal 1 w r (disk (dev.time here)) ≡ kept_of seal o (Some u) b.content
          own o is = λ i. kept_of seal (is i) (buffer_here.1 i) b.content

          go : (o : Bool) → w.journal.unrecovered r.section ≡ o → length (kept_at seal 1 w r (disk (dev.time here))) ≤ r.reader.size
          go false free = omega (arith, ap length (own false free), bytes_length (shown u) b.content, buffer_here.2.blob_size)
          go true owed = elim (adopt u b ((over.over.disk t).stands r.section u buffer_here.1)) [
            | inl sealed ↦ omega (arith, ap length (own true owed), ap length (sealed_flushed seal (shown u) b u.fit.begun sealed buffer_here.2.flushed), bytes_length (shown u) b.content, buffer_here.2.blob_size)
            | inr un ↦ omega (arith, ap length (own true owed), prefix_short seal (shown u) b (omega (arith, u.fit.begun)) un, buffer_here.2.blob_size)
          ]

      -- and the place is within it
      pub place_most : r.position ≤ r.reader.size
      place_most = omega (arith, buffer_here.2.within, buffer_here.2.blob_size)

    -- one round of passing over what is left: there is less to go over
    module _ (k n : Walk F (PageBlob S gs)) (a b : D) (over : BytesGo g gives seal dev w a) (free : (s : ℕ) → w.journal.floor_of s ≡ 0) (fill : Fills seal 1 g gives dev 1 r (Ok true) w k a b) (p : Place) (there : k.place ≡ Some p)
        (count : ℕ) (all : count ≡ length p.reader.bytes) (turn : Turns seal 1 (passing 1 count k) k n) where
      filled : IsFilled w k r p
      filled = and_at k.place (IsFilled w k r) p there fill.rest

      over_n : BytesGo g gives seal dev n b
      over_n = walk_turned k n b count fill.over turn

      pub looks_round : Looks g gives seal dev r w n a b {T = Unit {0}} (Ok tt)
      looks_round = looks_then k n p a b b true (Ok tt) (looks_fill w r k a b 1 (Ok true) free fill) there (looks_passed k n p there b count fill.over turn)

      pub nearer_round : way_of n < way_of w
      nearer_round =
          let place : n.place ≡ Some (after_items 1 count p) = ap (λ (x : Walk F (PageBlob S gs)). x.place) (further_passed k p n count there turn.goes).goes in
          let u = at_some (n.journal.sections.held p.section) (StandsIn 1 n (after_items 1 count p)) (over_n.walk.place (after_items 1 count p) place) in
          let some = and_at k.place (λ (y : Place). 1 * 1 ≤ length y.reader.bytes) p there (fill.at_hand refl) in
          let before : way_of w ≡ sections_ahead w.next_section * (word + 1) + bytes_ahead (Some r) = ap (λ (o : Option Place). sections_ahead w.next_section * (word + 1) + bytes_ahead o) at in
          let next : n.next_section ≡ w.next_section = ap (λ (x : Walk F (PageBlob S gs)). x.next_section) turn.goes ∙ ap (λ (x : Walk F (PageBlob S gs)). x.next_section) filled.goes in
          let after : way_of n ≡ sections_ahead w.next_section * (word + 1) + bytes_ahead (Some (after_items 1 count p)) = (λ i. sections_ahead (next i) * (word + 1) + bytes_ahead (place i)) in
          let within = u.2.within in
          let size = u.2.blob_size in
          let spot = u.2.at in
          omega (arith, before, after, within, size, spot, some, all, filled.same.size, filled.same.at)

    -- one byte more was asked for
    module _ (m k : Walk F (PageBlob S gs)) (a b c : D) (one : Looks g gives seal dev r w m a b {T = Unit {0}} (Ok tt)) (still : IsSomeAnd m.place (λ q. q.position ≡ r.position)) (free : (s : ℕ) → w.journal.floor_of s ≡ 0) (count : ℕ) where
      q : (x : Place) × (m.place ≡ Some x) × IsFurther w m r x
      q = at_some m.place (IsFurther w m r) one.rest

      still_q : q.0.position ≡ r.position
      still_q = and_at m.place (λ (x : Place). x.position ≡ r.position) q.0 q.1 still

      pub look_stands : IsSome m.place
      look_stands = subst IsSome (sym q.1) refl

      -- it failed
      pub looked_err : (e : Error) → ((x : Place) → m.place ≡ Some x → Fills seal 1 g gives dev (count + 1) x (Err e) m k b c) → HasLooked g gives seal dev r w k a c (Err e)
      looked_err e fill = record {
        looks = looks_err {T = Bool} {U = ℕ} r w k a c e (looks_filled m k q.0 a b c one q.1 still_q free (count + 1) (Err e) (fill q.0 q.1));
        still = tt;
        hand = tt;
        all = λ t. tt;
      }

      -- no more bytes are kept
      pub looked_all : count ≤ 5 → IsSomeAnd m.place (λ x. count ≤ length x.reader.bytes) → ((x : Place) → m.place ≡ Some x → Fills seal 1 g gives dev (count + 1) x (Ok false) m k b c) → HasLooked g gives seal dev r w k a c (Ok count)
      looked_all few hand fill = record {
        looks = looks_ok r w k a c false count (looks_filled m k q.0 a b c one q.1 still_q free (count + 1) (Ok false) (fill q.0 q.1));
        still = still_filled m k q.0 a b c one q.1 still_q free (count + 1) (Ok false) (fill q.0 q.1);
        hand = (few, hand_kept m k q.0 a b c one q.1 still_q free (count + 1) (Ok false) (fill q.0 q.1) count (and_at m.place (λ (x : Place). count ≤ length x.reader.bytes) q.0 q.1 hand));
        all = λ t less. (let short = short_filled m k q.0 a b c one q.1 still_q free (count + 1) (Ok false) (fill q.0 q.1) t refl in omega (arith, short));
      }

      -- one more is at hand
      pub looked_more : ((x : Place) → m.place ≡ Some x → Fills seal 1 g gives dev (count + 1) x (Ok true) m k b c)
          → Looks g gives seal dev r w k a c {T = Unit {0}} (Ok tt) × IsSomeAnd k.place (λ x. x.position ≡ r.position) × IsSomeAnd k.place (λ x. count + 1 ≤ length x.reader.bytes)
      looked_more fill = (
        looks_ok r w k a c true tt (looks_filled m k q.0 a b c one q.1 still_q free (count + 1) (Ok true) (fill q.0 q.1)),
        still_filled m k q.0 a b c one q.1 still_q free (count + 1) (Ok true) (fill q.0 q.1),
        hand_filled m k q.0 a b c one q.1 still_q free (count + 1) (Ok true) (fill q.0 q.1) refl,
      )

    -- five bytes were asked for at once
    module _ (m : Walk F (PageBlob S gs)) (a b : D) (over : BytesGo g gives seal dev w a) (free : (s : ℕ) → w.journal.floor_of s ≡ 0) where
      start : Looks g gives seal dev r w w a a {T = Unit {0}} (Ok tt)
      start = looks_start tt a over

      here : IsSomeAnd w.place (λ q. q.position ≡ r.position)
      here = some_and w.place (λ (q : Place). q.position ≡ r.position) r at refl

      pub five_err : (e : Error) → ((x : Place) → w.place ≡ Some x → Fills seal 1 g gives dev 5 x (Err e) w m a b) → HasLooked g gives seal dev r w m a b (Err e)
      five_err e fill = looked_err w m a a b start here free 4 e fill

      -- they are at hand
      pub five_hand : ((x : Place) → w.place ≡ Some x → Fills seal 1 g gives dev 5 x (Ok true) w m a b) → HasLooked g gives seal dev r w m a b (Ok 5)
      five_hand fill = (let more = looked_more w m a a b start here free 4 fill in record {
        looks = looks_ok r w m a b tt 5 more.0;
        still = more.1;
        hand = (omega arith, more.2);
        all = λ t less. absurd (omega (arith, less));
      })

      -- fewer are kept: it is looked how many
      module _ (fill : (x : Place) → w.place ≡ Some x → Fills seal 1 g gives dev 5 x (Ok false) w m a b) where
        one : Looks g gives seal dev r w m a b (Ok false)
        one = looks_fill w r m a b 5 (Ok false) free (fill r at)

        five : (x : Place) × (m.place ≡ Some x) × IsFilled w m r x
        five = at_some m.place (IsFilled w m r) (fill r at).rest

        pub may_on : MayLook g gives seal dev m b
        may_on = record {
          over = (fill r at).over;
          free = λ s. ap (λ (x : Walk F (PageBlob S gs)). x.journal.floor_of s) five.2.goes ∙ free s;
          stands = subst IsSome (sym five.1) refl;
        }

        pub looked_on : (k : Walk F (PageBlob S gs)) (c : D) (result : Result ℕ Error) → ((x : Place) → m.place ≡ Some x → HasLooked g gives seal dev x m k b c result) → HasLooked g gives seal dev r w k a c result
        looked_on k c result more = (let last = more five.0 five.1 in record {
          looks = looks_then m k five.0 a b c false result one five.1 last.looks;
          still = on_ok result (some_map k.place (λ p. p.position ≡ five.0.position) (λ p. p.position ≡ r.position) (λ p is. is ∙ five.2.position)) last.still;
          hand = last.hand;
          all = λ t. as_before t result (last.all t);
        })
          where
            as_before : dev.Tells → (y : Result ℕ Error) → IfOk y (λ n. n < 5 → length (kept_at seal 1 m five.0 (disk (dev.time b))) ≤ five.0.position + n) → IfOk y (λ n. n < 5 → length (kept_at seal 1 w r (disk (dev.time a))) ≤ r.position + n)
            as_before t (Err e) has = tt
            as_before t (Ok n) has = (
                let same : kept_at seal 1 m five.0 (disk (dev.time b)) ≡ kept_at seal 1 w r (disk (dev.time a)) = (λ i. kept_bytes seal 1 (five.2.goes i) (disk_same a b (one.unchanged t) i) (five.2.section i)) in
                λ less. (let le = has less in omega (arith, le, ap length same, five.2.position)))

    -- what is left is passed over, a round at a time
    module _ (m k : Walk F (PageBlob S gs)) (a b c : D) (one : Looks g gives seal dev r w m a b {T = Unit {0}} (Ok tt)) (free : (s : ℕ) → w.journal.floor_of s ≡ 0) where
      spot : (x : Place) × (m.place ≡ Some x) × IsFurther w m r x
      spot = at_some m.place (IsFurther w m r) one.rest

      free_spot : (s : ℕ) → m.journal.floor_of s ≡ 0
      free_spot s = ap (λ (x : Walk F (PageBlob S gs)). x.journal.floor_of s) spot.2.goes ∙ free s

      pub skip_stands : IsSome m.place
      skip_stands = subst IsSome (sym spot.1) refl

      pub skipped_err : (e : Error) → ((x : Place) → m.place ≡ Some x → Fills seal 1 g gives dev 1 x (Err e) m k b c) → HasSkipped g gives seal dev r w k a c (Err e)
      skipped_err e fill = record {
        looks = looks_err {T = Bool} {U = Unit {0}} r w k a c e (looks_then m k spot.0 a b c tt (Err e) one spot.1 (looks_fill m spot.0 k b c 1 (Err e) free_spot (fill spot.0 spot.1)));
        end = λ t. tt;
      }

      -- no more is kept
      pub skipped_all : ((x : Place) → m.place ≡ Some x → Fills seal 1 g gives dev 1 x (Ok false) m k b c) → HasSkipped g gives seal dev r w k a c (Ok tt)
      skipped_all fill =
          let did = fill spot.0 spot.1 in
          let f = at_some k.place (IsFilled m k spot.0) did.rest in
          record {
            looks = looks_ok r w k a c false tt (looks_then m k spot.0 a b c tt (Ok false) one spot.1 (looks_fill m spot.0 k b c 1 (Ok false) free_spot did));
            end = λ t. some_and k.place (λ p. length (kept_at seal 1 w r (disk (dev.time a))) ≤ p.position) f.0 f.1
                (let same : kept_at seal 1 m spot.0 (disk (dev.time b)) ≡ kept_at seal 1 w r (disk (dev.time a)) = (λ i. kept_bytes seal 1 (spot.2.goes i) (disk_same a b (one.unchanged t) i) (spot.2.section i)) in
                omega (arith, did.short t refl, ap length same, f.2.position));
          }

      -- the walk behind a fill
      pub skip_walk : ((x : Place) → m.place ≡ Some x → Fills seal 1 g gives dev 1 x (Ok true) m k b c) → HasWalk 1 k
      skip_walk fill = (fill spot.0 spot.1).over.walk

  -- a round of passing over what is at hand, from where earlier rounds left the replay
  module _ (w : Walk F (PageBlob S gs)) (r : Place) (at : w.place ≡ Some r) (m k n : Walk F (PageBlob S gs)) (a b c : D) (one : Looks g gives seal dev r w m a b {T = Unit {0}} (Ok tt)) (free : (s : ℕ) → w.journal.floor_of s ≡ 0)
      (fill : (x : Place) → m.place ≡ Some x → Fills seal 1 g gives dev 1 x (Ok true) m k b c) (count : ℕ) (hand : List ℕ) (found : MatchOption k.place (hand ≡ []) (λ p. hand ≡ take (whole_of 1 (length p.reader.bytes)) p.reader.bytes)) (long : count ≡ length hand)
      (turn : Turns seal 1 (passing 1 count k) k n) where
    stood : (x : Place) × (m.place ≡ Some x) × IsFurther w m r x
    stood = at_some m.place (IsFurther w m r) one.rest

    free_stood : (s : ℕ) → m.journal.floor_of s ≡ 0
    free_stood s = ap (λ (x : Walk F (PageBlob S gs)). x.journal.floor_of s) stood.2.goes ∙ free s

    reached : (x : Place) × (k.place ≡ Some x) × IsFilled m k stood.0 x
    reached = at_some k.place (IsFilled m k stood.0) (fill stood.0 stood.1).rest

    all_of : count ≡ length reached.0.reader.bytes
    all_of = long ∙ ap length (whole_bytes reached.0.reader.bytes hand (match_at k.place reached.0 (hand ≡ []) (λ p. hand ≡ take (whole_of 1 (length p.reader.bytes)) p.reader.bytes) reached.1 found))

    -- it is a look
    pub skip_round : Looks g gives seal dev r w n a c {T = Unit {0}} (Ok tt)
    skip_round = looks_then w r at m n stood.0 a b c tt (Ok tt) one stood.1 (looks_round m stood.0 stood.1 k n b c one.over free_stood (fill stood.0 stood.1) reached.0 reached.1 count all_of turn)

    -- there is less to go over
    pub skip_nearer : way_of n < way_of m
    skip_nearer = nearer_round m stood.0 stood.1 k n b c one.over free_stood (fill stood.0 stood.1) reached.0 reached.1 count all_of turn
