use Rattle.blob_device.specs.declared.runtime.RError.{RError}
use Rattle.blob_device.specs.declared.runtime.RError.TheVariants.{InvalidChecksum}
use Rattle.std.specs.Result.{IsErrOf}
use Rattle.sealed_pages.specs.lemmas.looking.Looking.{unchanged_start}
use Rattle.sealed_pages.specs.lemmas.memory.Cache.{found_page_has}
use Rattle.sealed_pages.specs.lemmas.memory.Held.{held_to}
use Rattle.sealed_pages.specs.lemmas.slots.Whole.{whole_read}
use Rattle.sealed_pages.proofs.cutting.Truncating.{no_value}
use Rattle.std.proofs.Common.{rules, ◌≡◌, ◌≤◌, ◌<◌, ◌+◌, ◌-◌, ◌*◌, ◌^◌, ◌++◌, ◌∙◌, ℕ, List, length, take, drop, length-take, length-drop, ap, sym, subst, arith, ◌/◌, refl, true, false, Bool, inl, inr, Result}
use Rattle.blob_device.specs.Disk.{Key}
use Rattle.blob_device.specs.Timeline.{disk}
use Rattle.sealed_pages.specs.Buffer.{key_of}
use Rattle.sealed_pages.specs.Buffer.{bytes_of, cached}
use Rattle.sealed_pages.specs.Entries.{ReadsAtMost}
use Rattle.sealed_pages.specs.lemmas.Entries.{reads_start}
use Rattle.sealed_pages.specs.Cached.{uncached, IsCachedOf}
use Rattle.sealed_pages.proofs.memory.CacheLemmas.{full_whole}
use Rattle.sealed_pages.specs.Reads.{below, missing_pages, touched, IsCovered, IsShort, IsWanted}
use Rattle.sealed_pages.specs.Shown.{shown}
use Rattle.sealed_pages.specs.SlotNames.{opened_key}
use Rattle.sealed_pages.specs.View.{view}
use Rattle.sealed_pages.proofs.memory.Holding.{fit_room}
use Rattle.sealed_pages.proofs.looking.ReadLemmas.{read_whole, put_tail, prefix_of, same_error}
use Rattle.sealed_pages.specs.BlobReads.{ReadsPages}
use Rattle.sealed_pages.specs.Entries.{IsOpenAt}
use Rattle.sealed_pages.specs.Cached.{held_in, AreWhole}
use Rattle.sealed_pages.specs.View.{page_at}
use Rattle.sealed_pages.proofs.page_blob.PageBlob.read_at.Given as given
use Rattle.sealed_pages.proofs.page_blob.PageBlob.read_at.Goals.{After-read_pages}
use Rattle.sealed_pages.proofs.page_blob.PageBlob.read_at.Goals as goal
use Rattle.blob_device.proofs.general.Results.{err_of}

-- the pages that are read are those of this buffer's blob
pub read_pages-requires-clause-open : goal.read_pages-requires-clause-open
read_pages-requires-clause-open g c = subst (λ (x : Key × ℕ). IsOpenAt (g.D.Device.opened c.args.dev.now) x.0 x.1) (λ j. (sym c.blob.ensures.key j, sym c.blob.ensures.end j)) c.requires

pub read_pages-requires-clause-some : goal.read_pages-requires-clause-some
read_pages-requires-clause-some g c = omega (arith, c.blob.ensures.page_size, c.args.self.now.fit.begun)

pub read_pages-requires-clause-room : goal.read_pages-requires-clause-room
read_pages-requires-clause-room g c k = subst (λ (n : ℕ). k * n < c.args.offset + length (take c.below_tip-below.result c.try_read_held.new.buf) → page_at n k + (n + 12) < 2 ^ 64) (sym c.blob.ensures.page_size)
    (λ lt. omega (arith, fit_room _ _ _ _ c.args.self.now.fit k (omega (arith, lt, c.try_read_held.auto.buf, length-take c.below_tip-below.result c.try_read_held.new.buf, c.below_tip-below.ensures, c.in_ok-check_range.ensures.fits, c.size.ensures))))

pub read_pages-requires-clause-whole : goal.read_pages-requires-clause-whole
read_pages-requires-clause-whole g c = subst (λ (n : ℕ). AreWhole n (shown c.args.self.now).cache) (sym c.blob.ensures.page_size) (full_whole c.args.self.now.page_size c.args.self.now.first (shown c.args.self.now).cache c.args.self.now.full)

-- how many bytes are read from pages
many : (g : given.Over) (c : After-read_pages g) → length (take c.below_tip-below.result c.try_read_held.new.buf) ≡ below c.args.self.now.page_size c.args.self.now.first c.args.offset (length c.args.buf.now)
many g c = omega (arith, length-take c.below_tip-below.result c.try_read_held.new.buf, c.below_tip-below.ensures, c.try_read_held.auto.buf)

-- what reading them means for this buffer
seen : {T : Type 0} (g : given.Over) (c : After-read_pages g) (r : Result T RError) → ReadsPages g.D.Device g.S.Seal.seal_of c.blob.result.page_size (opened_key c.blob.result) c.args.dev.now c.read_pages.new.dev (held_in c.args.self.now.cache) c.args.offset (take c.below_tip-below.result c.try_read_held.new.buf) c.read_pages.new.out r
    → ReadsPages g.D.Device g.S.Seal.seal_of c.args.self.now.page_size (key_of (shown c.args.self.now)) c.args.dev.now c.read_pages.new.dev (held_in c.args.self.now.cache) c.args.offset (take c.below_tip-below.result c.try_read_held.new.buf) c.read_pages.new.out r
seen g c r read = subst (λ (x : Key × ℕ). ReadsPages g.D.Device g.S.Seal.seal_of x.1 x.0 c.args.dev.now c.read_pages.new.dev (held_in c.args.self.now.cache) c.args.offset (take c.below_tip-below.result c.try_read_held.new.buf) c.read_pages.new.out r) (λ j. (c.blob.ensures.key j, c.blob.ensures.page_size j)) read

-- no more reads began than pages miss
reads : {T : Type 0} (g : given.Over) (c : After-read_pages g) (r : Result T RError) → ReadsPages g.D.Device g.S.Seal.seal_of c.blob.result.page_size (opened_key c.blob.result) c.args.dev.now c.read_pages.new.dev (held_in c.args.self.now.cache) c.args.offset (take c.below_tip-below.result c.try_read_held.new.buf) c.read_pages.new.out r
    → ReadsAtMost (missing_pages (shown c.args.self.now) c.args.offset (length c.args.buf.now)) (key_of (shown c.args.self.now)) (g.D.Device.opened c.args.dev.now) (g.D.Device.opened c.read_pages.new.dev)
reads g c r read = subst (λ (n : ℕ). ReadsAtMost (uncached (cached (shown c.args.self.now)) (c.args.offset / c.args.self.now.page_size) (touched c.args.self.now.page_size c.args.offset n)) (key_of (shown c.args.self.now)) (g.D.Device.opened c.args.dev.now) (g.D.Device.opened c.read_pages.new.dev)) (many g c) (seen g c r read).entries

never : {A : Type 0} (b : Bool) → b ≡ false → b ≡ true → A
never b off on = absurd (cc (off, on))

pub returns-in_err-check_range : goal.returns-in_err-check_range
returns-in_err-check_range g c =
    record {
      bytes = λ t h1. no_value _ _ c.from_residual.ensures.0;
      checked = λ t h1. no_value _ _ c.from_residual.ensures.0;
      checksum = search rules;
      whole = search rules;
      overflow = search rules;
      short = search rules;
      refused = λ over. refl;
      unchanged = λ t. unchanged_start (g.D.Device.time c.args.dev.now);
      reads = search rules;
      held = λ held. refl;
      faults = omega arith;
      cause = search rules;
    }

pub returns-then-try_read_held : goal.returns-then-try_read_held
returns-then-try_read_held g c =
    record {
      bytes = λ t cache. c.try_read_held.ensures.bytes c.if-try_read_held.true _ cache;
      checked = λ t cache k w.
          omega (
            arith,
            (found_page_has (IsCachedOf g.S.Seal.seal_of c.args.self.now.page_size (disk (g.D.Device.time c.args.dev.now) (key_of (shown c.args.self.now))).content) k (shown c.args.self.now).cache (cache w.some)
                (held_to (shown c.args.self.now) c.args.offset (length c.args.buf.now) (below c.args.self.now.page_size c.args.self.now.first c.args.offset (length c.args.buf.now)) (omega (arith, c.args.self.now.fit.begun)) refl (c.try_read_held.ensures.held.0 c.if-try_read_held.true) k w)).1.covered,
          );
      checksum = search rules;
      whole = search rules;
      overflow = search rules;
      short = search rules;
      refused = λ over. refl;
      unchanged = λ t. unchanged_start (g.D.Device.time c.args.dev.now);
      reads = reads_start _ _ _;
      held = λ held. refl;
      faults = omega arith;
      cause = tt;
    }

pub returns-in_err-read_pages : goal.returns-in_err-read_pages
returns-in_err-read_pages g c =
    let is = err_of c.from_residual-in_err-read_pages.result c.in_err-read_pages.field-0.0 c.from_residual-in_err-read_pages.ensures.1 in
    let read = seen g (goal.at.returns-in_err-read_pages g c).After-read_pages _ c.in_err-read_pages.ensures in
    let named : g.D.Device.Tells → (p : ℕ) → IsErrOf c.from_residual-in_err-read_pages.result (InvalidChecksum p) → IsShort g.S.Seal.seal_of c.args.self.now.page_size (disk (g.D.Device.time c.args.dev.now) (key_of (shown c.args.self.now))).content c.args.offset (below c.args.self.now.page_size c.args.self.now.first c.args.offset (length c.args.buf.now)) p
    = λ t p e. subst (λ (n : ℕ). IsShort g.S.Seal.seal_of c.args.self.now.page_size (disk (g.D.Device.time c.args.dev.now) (key_of (shown c.args.self.now))).content c.args.offset n p) (many g (goal.at.returns-in_err-read_pages g c).After-read_pages) (read.short t p (same_error (rw is at e))) in
    record {
      bytes = λ t h1. no_value _ _ c.from_residual-in_err-read_pages.ensures.0;
      checked = λ t h1. no_value _ _ c.from_residual-in_err-read_pages.ensures.0;
      checksum = named;
      whole = λ t sealed p e. whole_read g.S.Seal.seal_of (shown c.args.self.now) _ _ sealed.holds c.args.offset (length c.args.buf.now) p (named t p e);
      overflow = search rules;
      short = search rules;
      refused = search rules;
      unchanged = read.unchanged;
      reads = reads g (goal.at.returns-in_err-read_pages g c).After-read_pages _ c.in_err-read_pages.ensures;
      held = λ held. never c.try_read_held.result c.if-try_read_held.false (c.try_read_held.ensures.held.1 held);
      faults = read.faults;
      cause = rw is (elim read.cause [
        | inl (p, page, wanted) ↦ inr (inr (inl (p, same_error page, subst (λ (n : ℕ). IsWanted c.args.self.now.page_size c.args.offset n p) (many g (goal.at.returns-in_err-read_pages g c).After-read_pages) wanted)))
        | inr (inl mem) ↦ inr (inr (inr (inl (same_error mem))))
        | inr (inr (fault, rose)) ↦ inr (inr (inr (inr (same_error fault, rose))))
      ]);
    }

pub returns : goal.returns
returns g c =
    let read = seen g (goal.at.returns g c).After-read_pages _ c.in_ok-read_pages.ensures in
    record {
      bytes = λ t cache.
          let wide : c.below_tip-below.result ≤ length c.try_read_held.new.buf = omega (arith, c.below_tip-below.ensures) in
          let long : length c.read_pages.new.out ≡ c.below_tip-below.result = search rules in
          let all : length (c.read_pages.new.out ++ drop c.below_tip-below.result c.try_read_held.new.buf) ≡ length c.try_read_held.new.buf = search rules in
          let rest : length c.copy_held.new.buf ≡ length (c.read_pages.new.out ++ drop c.below_tip-below.result c.try_read_held.new.buf) - c.below_tip-below.result = search rules in
          let prefix : take c.below_tip-below.result (c.read_pages.new.out ++ drop c.below_tip-below.result c.try_read_held.new.buf) ≡ c.read_pages.new.out = prefix_of c.below_tip-below.result c.read_pages.new.out (drop c.below_tip-below.result c.try_read_held.new.buf) long in
          put_tail c.below_tip-below.result (c.read_pages.new.out ++ drop c.below_tip-below.result c.try_read_held.new.buf) c.copy_held.new.buf (omega (arith, wide, all)) rest
          ∙ ap (λ (l : List ℕ). l ++ c.copy_held.new.buf) prefix
          ∙ read_whole c.args.self.now.page_size c.args.self.now.first c.args.offset (length c.try_read_held.new.buf) c.below_tip-below.result (view (disk (g.D.Device.time c.args.dev.now) (key_of (shown c.args.self.now))).content) c.args.self.now.tip.items c.read_pages.new.out c.copy_held.new.buf
          c.below_tip-below.ensures (omega (arith, c.in_ok-check_range.ensures.fits, c.size.ensures, c.try_read_held.auto.buf)) long
          (λ i lt. read.bytes t (cache (omega (arith, lt, c.below_tip-below.ensures, c.try_read_held.auto.buf))) i (omega (arith, lt, long, c.read_pages.auto.out)))
          (c.copy_held.ensures ∙ (let e : length (take (length (c.read_pages.new.out ++ drop c.below_tip-below.result c.try_read_held.new.buf) - c.below_tip-below.result) (drop c.below_tip-below.result (c.read_pages.new.out ++ drop c.below_tip-below.result c.try_read_held.new.buf))) ≡ length c.try_read_held.new.buf - c.below_tip-below.result
          = omega (arith, length-take (length (c.read_pages.new.out ++ drop c.below_tip-below.result c.try_read_held.new.buf) - c.below_tip-below.result) (drop c.below_tip-below.result (c.read_pages.new.out ++ drop c.below_tip-below.result c.try_read_held.new.buf)), length-drop c.below_tip-below.result (c.read_pages.new.out ++ drop c.below_tip-below.result c.try_read_held.new.buf), all) in
          ap (λ (n : ℕ). take n (drop (c.args.offset + c.below_tip-below.result - c.args.self.now.first * c.args.self.now.page_size) c.args.self.now.tip.items)) e))
          ∙ ap (λ (n : ℕ). take n (drop c.args.offset (bytes_of (shown c.args.self.now) (disk (g.D.Device.time c.args.dev.now) (key_of (shown c.args.self.now))).content))) c.try_read_held.auto.buf;
      checked = λ t cache k w. subst (λ (n : ℕ). IsCovered g.S.Seal.seal_of c.args.self.now.page_size (disk (g.D.Device.time c.args.dev.now) (key_of (shown c.args.self.now))).content c.args.offset n) (many g (goal.at.returns g c).After-read_pages) (read.covered t (cache w.some)) k w;
      checksum = λ t p e. absurd (cc e);
      whole = λ t sealed p e. absurd (cc e);
      overflow = search rules;
      short = search rules;
      refused = λ over. absurd (omega (arith, over, c.in_ok-check_range.ensures.fits, c.size.ensures));
      unchanged = read.unchanged;
      reads = reads g (goal.at.returns g c).After-read_pages _ c.in_ok-read_pages.ensures;
      held = λ held. never c.try_read_held.result c.if-try_read_held.false (c.try_read_held.ensures.held.1 held);
      faults = read.faults;
      cause = tt;
    }
