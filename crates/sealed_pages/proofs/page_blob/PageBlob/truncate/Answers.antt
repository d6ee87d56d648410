use Rattle.std.proofs.Common.{◌≡◌, ◌+◌, ◌*◌, ◌/◌, ◌%◌, ◌<◌, ◌≤◌, ◌∙◌, ap, sym, subst, refl, ℕ, [], arith, inr, Err, ◌⊎◌}
use Rattle.std.specs.Prelude.{IfOk, OnErr}
use Rattle.std.proofs.lemmas.List.{take_all}
use Rattle.blob_device.specs.Disk.{Key}
use Rattle.blob_device.specs.Timeline.{Timeline, disk}
use Rattle.blob_device.specs.declared.runtime.RError.TheVariants.{Fault, InvalidChecksum, Mem}
use Rattle.blob_device.specs.Counts.{Rose}
use Rattle.sealed_pages.specs.Buffer.{key_of, size_of, bytes_of}
use Rattle.sealed_pages.specs.Cutting.{FewReads}
use Rattle.sealed_pages.specs.Entries.{NoReads}
use Rattle.sealed_pages.specs.Shown.{shown}
use Rattle.sealed_pages.specs.Slots.{page_length}
use Rattle.sealed_pages.specs.Reading.{Unchanged}
use Rattle.sealed_pages.specs.lemmas.Unrecovered.{keeps_sealing, stood_keeps}
use Rattle.sealed_pages.specs.lemmas.cutting.Calls.{sealing_less}
use Rattle.sealed_pages.specs.lemmas.cutting.Truncating.{rose_since}
use Rattle.sealed_pages.specs.lemmas.memory.Holding.{bytes_length, holds_start}
use Rattle.sealed_pages.proofs.cutting.Entries.{few_none, few_then, then_few}
use Rattle.sealed_pages.proofs.slots.PageCalls.{alone_start}
use Rattle.sealed_pages.proofs.cutting.Truncating.{no_value, as_of, page_named, not_named}
use Rattle.sealed_pages.proofs.cutting.TruncateEnds as ends
use Rattle.sealed_pages.proofs.cutting.TruncateEnds.{SyncedCut, IsCut, placed, is_cut, cut_as, cut_open, failed_since, cause_since, caused, page_around, few_start, no_page, no_recovery}
use Rattle.sealed_pages.proofs.page_blob.PageBlob.truncate.Given as given
use Rattle.sealed_pages.proofs.page_blob.PageBlob.truncate.Goals as goal
use Rattle.blob_device.proofs.general.Results.{both_ok, err_of, if_ok_weaker, ok_with, on_err}

pub cut_within-requires-clause-below : goal.cut_within-requires-clause-below
cut_within-requires-clause-below g c =
    omega (arith, (placed c.in_ok-this.this.page_size c.from-page_size.result c.args.len c.from-page_size.ensures).at, c.in_ok-this.ensures.size, c.size.ensures, c.if-len-size.false)

-- nothing is to be cut
pub returns-then-len-size : goal.returns-then-len-size
returns-then-len-size g c =
    let past : size_of (shown c.args.self) ≤ c.args.len = omega (arith, c.size.ensures, c.if-len-size.true) in
    record {
      crashes = λ t sealed. sealing_less g.S.Seal.seal_of _ _ c.args.self.settled _ _ _ _ (omega arith)
          (holds_start g.S.Seal.seal_of (shown c.args.self) _ _ _ c.args.self.fit.begun sealed.holds);
      sealed = λ t sealed. sealed;
      recovering = λ t recovery. absurd (no_recovery g.S.Seal.seal_of (shown c.args.self) c.args.len (disk (g.D.Device.time c.args.dev.now) (key_of (shown c.args.self))) c.args.self.fit.begun past recovery);
      recovered = λ t recovery. absurd (no_recovery g.S.Seal.seal_of (shown c.args.self) c.args.len (disk (g.D.Device.time c.args.dev.now) (key_of (shown c.args.self))) c.args.self.fit.begun past recovery);
      prefix = λ t recovery. absurd (no_recovery g.S.Seal.seal_of (shown c.args.self) c.args.len (disk (g.D.Device.time c.args.dev.now) (key_of (shown c.args.self))) c.args.self.fit.begun past recovery);
      prefix_again = λ t recovery. absurd (no_recovery g.S.Seal.seal_of (shown c.args.self) c.args.len (disk (g.D.Device.time c.args.dev.now) (key_of (shown c.args.self))) c.args.self.fit.begun past recovery);
      prefix_leaves = λ t recovery. absurd (no_recovery g.S.Seal.seal_of (shown c.args.self) c.args.len (disk (g.D.Device.time c.args.dev.now) (key_of (shown c.args.self))) c.args.self.fit.begun past recovery);
      steady = λ t un past. stood_keeps g.S.Seal.seal_of (shown c.args.self) (key_of (shown c.args.self)) (g.D.Device.time c.args.dev.now) un;
      unrecovered = λ t un past. un;
      bytes = λ t backed. sym (take_all c.args.len (bytes_of (shown c.args.self) (disk (g.D.Device.time c.args.dev.now) (key_of (shown c.args.self))).content) (omega (arith, bytes_length (shown c.args.self) (disk (g.D.Device.time c.args.dev.now) (key_of (shown c.args.self))).content, past)));
      backed = λ t backed. backed;
      alone = λ t backed. alone_start (g.D.Device.time c.args.dev.now) (key_of (shown c.args.self));
      cache = λ lt. absurd (omega (arith, lt, past));
      unchanged = λ le. refl;
      same = λ le. refl;
      settled = λ lt. absurd (omega (arith, lt, past));
      rests = λ t lt. absurd (omega (arith, lt, past));
      shorter = λ t lt. absurd (omega (arith, lt, past));
      again = λ t lt sealed. absurd (omega (arith, lt, past));
      leaves = λ t lt sealed. absurd (omega (arith, lt, past));
      size = omega (arith, past);
      key = refl;
      page_size = refl;
      capacity = refl;
      cache_pages = refl;
      known = λ t known. known;
      «open» = c.requires.open;
      entries = few_start 1 c.args.self.end (key_of (shown c.args.self)) (g.D.Device.opened c.args.dev.now) c.requires.open;
      faults = omega arith;
      checksum = λ t p is. absurd (cc is);
      uncut_pages = λ t p is. absurd (cc is);
      uncut = λ t backed p is. absurd (cc is);
      uncut_rests = λ t rests p is. absurd (cc is);
      untouched = λ t settled p is. absurd (cc is);
      covered = λ t settled lt. absurd (omega (arith, lt, past));
      covered_below = λ t lt below whole. absurd (omega (arith, lt, past));
      whole = λ t safe. tt;
      page = λ p is. absurd (cc is);
      cause = tt;
    }

-- why the sync failed
cause-sync : (g : given.Over) (c : goal.After-from_residual g)
    → OnErr c.from_residual.result ((c.from_residual.result ≡ Err Mem) ⊎ ((c.from_residual.result ≡ Err Fault) × Rose (g.D.Device.faults c.args.dev.now) (g.D.Device.faults c.sync.new.dev)))
cause-sync g c = caused (Rose (g.D.Device.faults c.args.dev.now) (g.D.Device.faults c.sync.new.dev)) c.from_residual.result c.sync.result
    (err_of c.from_residual.result c.in_err-this.field-0.0 c.from_residual.ensures.1 ∙ sym c.in_err-this.was) c.sync.ensures.cause

not-sync : (g : given.Over) (c : goal.After-from_residual g) (p : ℕ) → c.from_residual.result ≡ Err (InvalidChecksum p) → ⊥
not-sync g c p is = no_page (Rose (g.D.Device.faults c.args.dev.now) (g.D.Device.faults c.sync.new.dev)) c.from_residual.result p (cause-sync g c) is

-- the sync failed
pub returns-in_err-this : goal.returns-in_err-this
returns-in_err-this g c =
    let lt : c.args.len < size_of (shown c.args.self) = omega (arith, c.size.ensures, c.if-len-size.false) in
    record {
      crashes = λ t sealed. sealing_less g.S.Seal.seal_of _ _ c.args.self.settled _ _ _ _ (omega arith) (c.in_err-this.ensures.crashes t sealed);
      sealed = λ t sealed. no_value _ _ c.from_residual.ensures.0;
      recovering = λ t recovery. keeps_sealing g.S.Seal.seal_of _ _ _ _ _ _ recovery.1 (c.in_err-this.ensures.steady t recovery.0);
      recovered = λ t recovery. no_value _ _ c.from_residual.ensures.0;
      prefix = λ t recovery. no_value _ _ c.from_residual.ensures.0;
      prefix_again = λ t recovery. no_value _ _ c.from_residual.ensures.0;
      prefix_leaves = λ t recovery. no_value _ _ c.from_residual.ensures.0;
      steady = λ t un past. c.in_err-this.ensures.steady t un;
      unrecovered = λ t un past. no_value _ _ c.from_residual.ensures.0;
      bytes = λ t backed. no_value _ _ c.from_residual.ensures.0;
      backed = λ t backed. no_value _ _ c.from_residual.ensures.0;
      alone = c.in_err-this.ensures.alone;
      cache = λ less. no_value _ _ c.from_residual.ensures.0;
      unchanged = λ le. absurd (omega (arith, le, lt));
      same = λ le. absurd (omega (arith, le, lt));
      settled = λ less. no_value _ _ c.from_residual.ensures.0;
      rests = λ t less. no_value _ _ c.from_residual.ensures.0;
      shorter = λ t less. no_value _ _ c.from_residual.ensures.0;
      again = λ t less sealed. no_value _ _ c.from_residual.ensures.0;
      leaves = λ t less sealed. no_value _ _ c.from_residual.ensures.0;
      size = no_value _ _ c.from_residual.ensures.0;
      key = no_value _ _ c.from_residual.ensures.0;
      page_size = no_value _ _ c.from_residual.ensures.0;
      capacity = no_value _ _ c.from_residual.ensures.0;
      cache_pages = no_value _ _ c.from_residual.ensures.0;
      known = λ t known. no_value _ _ c.from_residual.ensures.0;
      «open» = no_value _ _ c.from_residual.ensures.0;
      entries = few_none 1 (key_of (shown c.args.self)) _ _ c.in_err-this.ensures.entries;
      faults = c.in_err-this.ensures.faults;
      checksum = λ t p is. absurd (not-sync g c p is);
      uncut_pages = λ t p is. absurd (not-sync g c p is);
      uncut = λ t backed p is. absurd (not-sync g c p is);
      uncut_rests = λ t rests p is. absurd (not-sync g c p is);
      untouched = λ t settled p is. absurd (not-sync g c p is);
      covered = λ t settled less. no_value _ _ c.from_residual.ensures.0;
      covered_below = λ t less below whole. no_value _ _ c.from_residual.ensures.0;
      whole = λ t safe. cause-sync g c;
      page = λ p is. absurd (not-sync g c p is);
      cause = on_err c.from_residual.result inr (cause-sync g c);
    }

-- where that cut stands
at-start : (g : given.Over) (c : goal.After-cut_at g) → (c.args.len / c.from-page_size.result) * c.in_ok-this.this.page_size ≡ c.args.len
at-start g c = omega (arith, (placed c.in_ok-this.this.page_size c.from-page_size.result c.args.len c.from-page_size.ensures).at, c.if-keep-eq0.true)

-- the buffer that it gives
marks-start : (g : given.Over) (c : goal.After-cut_at g) → IfOk c.cut_at.result (λ v. IsCut (shown c.args.self) c.args.len (c.args.len / c.from-page_size.result) (shown v))
marks-start g c = if_ok_weaker c.cut_at.result c.cut_at.ensures.same (λ v is. is_cut (shown c.args.self) (shown c.in_ok-this.this) (shown v) c.args.len (c.args.len / c.from-page_size.result) []
    c.in_ok-this.ensures.key c.in_ok-this.ensures.page_size c.in_ok-this.ensures.capacity c.in_ok-this.ensures.cache_pages v.fit.begun (omega (arith, at-start g c)) is)

-- what the two calls say
ends-start : (g : given.Over) (c : goal.After-cut_at g) → g.D.Device.Tells
    → SyncedCut shown g.S.Seal.seal_of (shown c.args.self) (shown c.in_ok-this.this) c.args.len (c.args.len / c.from-page_size.result) (c.args.len % c.from-page_size.result)
    c.cut_at.result (g.D.Device.time c.args.dev.now) (g.D.Device.time c.sync.new.dev) (g.D.Device.time c.cut_at.new.dev)
ends-start g c t = record {
  synced = record {
    key = c.in_ok-this.ensures.key;
    page = c.in_ok-this.ensures.page_size;
    size = c.in_ok-this.ensures.size;
    settled = c.in_ok-this.ensures.settled;
    begun = c.in_ok-this.this.fit.begun;
    within = c.in_ok-this.this.fit.within;
    order = c.in_ok-this.this.order;
    crashes = c.in_ok-this.ensures.crashes t;
    sealed = c.in_ok-this.ensures.sealed t;
    steady = c.in_ok-this.ensures.steady t;
    unrecovered = c.in_ok-this.ensures.unrecovered t;
    prefix = c.in_ok-this.ensures.prefix t;
    alone = c.in_ok-this.ensures.alone t;
    bytes = c.in_ok-this.ensures.bytes t;
    backed = c.in_ok-this.ensures.backed t;
  };
  cut = cut_as c.in_ok-this.ensures.key c.in_ok-this.ensures.page_size (at-start g c) (record {
    crashes = c.cut_at.ensures.crashes t;
    done = c.cut_at.ensures.done t;
    bytes = c.cut_at.ensures.bytes t;
    backed = c.cut_at.ensures.backed t;
    memory = c.cut_at.ensures.memory t;
    rests = c.cut_at.ensures.rests t;
    alone = c.cut_at.ensures.alone t;
    prefix = c.cut_at.ensures.prefix t;
    shorter = c.cut_at.ensures.shorter t;
    covered = ok_with c.cut_at.result (omega (arith, c.if-keep-eq0.true));
    refused = λ short. absurd (omega (arith, short, c.if-keep-eq0.true));
  });
  place = placed c.args.self.page_size c.from-page_size.result c.args.len (c.from-page_size.ensures ∙ c.in_ok-this.ensures.page_size);
  less = omega (arith, c.size.ensures, c.if-len-size.false);
  marks = marks-start g c;
}

not-start : (g : given.Over) (c : goal.After-cut_at g) (p : ℕ) → c.cut_at.result ≡ Err (InvalidChecksum p) → ⊥
not-start g c p is = no_page (Rose (g.D.Device.faults c.sync.new.dev) (g.D.Device.faults c.cut_at.new.dev)) c.cut_at.result p c.cut_at.ensures.cause is

-- a cut where a page begins
pub returns-then-keep-eq0 : goal.returns-then-keep-eq0
returns-then-keep-eq0 g c = record {
  crashes = λ t. ends.cut_crashes (ends-start g c t);
  sealed = λ t. ends.cut_sealed (ends-start g c t);
  recovering = λ t. ends.cut_recovering (ends-start g c t);
  recovered = λ t. ends.cut_recovered (ends-start g c t);
  prefix = λ t. ends.cut_prefix (ends-start g c t);
  prefix_again = λ t. ends.cut_prefix_again (ends-start g c t);
  prefix_leaves = λ t. ends.cut_prefix_leaves (ends-start g c t);
  steady = λ t. ends.cut_steady (ends-start g c t);
  unrecovered = λ t. ends.cut_unrecovered (ends-start g c t);
  bytes = λ t. ends.cut_bytes_are (ends-start g c t);
  backed = λ t. ends.cut_is_backed (ends-start g c t);
  alone = λ t. ends.cut_alone (ends-start g c t);
  cache = λ lt. if_ok_weaker c.cut_at.result (marks-start g c) (λ v m. m.cache);
  unchanged = λ le. absurd (omega (arith, le, c.size.ensures, c.if-len-size.false));
  same = λ le. absurd (omega (arith, le, c.size.ensures, c.if-len-size.false));
  settled = λ lt. if_ok_weaker c.cut_at.result (marks-start g c) (λ v m. m.settled);
  rests = λ t lt. (ends-start g c t).cut.rests;
  shorter = λ t lt. (ends-start g c t).cut.shorter;
  again = λ t lt. ends.cut_again (ends-start g c t);
  leaves = λ t lt. ends.cut_leaves (ends-start g c t);
  size = if_ok_weaker c.cut_at.result (marks-start g c) (λ v m. omega (arith, m.size, c.size.ensures, c.if-len-size.false));
  key = if_ok_weaker c.cut_at.result (marks-start g c) (λ v m. m.key);
  page_size = if_ok_weaker c.cut_at.result (marks-start g c) (λ v m. m.page);
  capacity = if_ok_weaker c.cut_at.result (marks-start g c) (λ v m. m.capacity);
  cache_pages = if_ok_weaker c.cut_at.result (marks-start g c) (λ v m. m.cache_pages);
  known = λ t known. if_ok_weaker c.cut_at.result (marks-start g c) (λ v m has. absurd (cc (has, m.clean)));
  «open» = cut_open shown (shown c.args.self) (shown c.in_ok-this.this) c.args.len (c.args.len / c.from-page_size.result) (g.D.Device.opened c.cut_at.new.dev) c.cut_at.result c.in_ok-this.ensures.key (marks-start g c) c.cut_at.ensures.length;
  entries = few_then 1 (key_of (shown c.args.self)) _ (g.D.Device.opened c.sync.new.dev) _ (few_none 1 (key_of (shown c.args.self)) _ _ c.in_ok-this.ensures.entries)
      (subst (λ (q : Key). NoReads q (g.D.Device.opened c.sync.new.dev) (g.D.Device.opened c.cut_at.new.dev)) c.in_ok-this.ensures.key c.cut_at.ensures.entries);
  faults = omega (arith, c.in_ok-this.ensures.faults, c.cut_at.ensures.faults);
  checksum = λ t p is. absurd (not-start g c p is);
  uncut_pages = λ t p is. absurd (not-start g c p is);
  uncut = λ t backed p is. absurd (not-start g c p is);
  uncut_rests = λ t rests p is. absurd (not-start g c p is);
  untouched = λ t settled p is. absurd (not-start g c p is);
  covered = λ t settled lt. ends.cut_covered (ends-start g c t) (ap g.D.Device.time (c.in_ok-this.ensures.idle settled));
  covered_below = λ t lt below whole. ends.cut_covered_below (ends-start g c t) below whole;
  whole = λ t safe. failed_since c.cut_at.result _ _ _ c.in_ok-this.ensures.faults c.cut_at.ensures.cause;
  page = λ p is. absurd (not-start g c p is);
  cause = on_err c.cut_at.result inr (failed_since c.cut_at.result _ _ _ c.in_ok-this.ensures.faults c.cut_at.ensures.cause);
}

-- where that cut stands
at-inside : (g : given.Over) (c : goal.After-cut_within g) → (c.args.len / c.from-page_size.result) * c.in_ok-this.this.page_size + (c.args.len % c.from-page_size.result) ≡ c.args.len
at-inside g c = omega (arith, (placed c.in_ok-this.this.page_size c.from-page_size.result c.args.len c.from-page_size.ensures).at)

-- the buffer that it gives
marks-inside : (g : given.Over) (c : goal.After-cut_within g) → IfOk c.cut_within.result (λ v. IsCut (shown c.args.self) c.args.len (c.args.len / c.from-page_size.result) (shown v))
marks-inside g c = if_ok_weaker c.cut_within.result (both_ok _ _ _ c.cut_within.ensures.same c.cut_within.ensures.long)
    (λ v is. is_cut (shown c.args.self) (shown c.in_ok-this.this) (shown v) c.args.len (c.args.len / c.from-page_size.result) v.tip.items
    c.in_ok-this.ensures.key c.in_ok-this.ensures.page_size c.in_ok-this.ensures.capacity c.in_ok-this.ensures.cache_pages v.fit.begun (omega (arith, at-inside g c, is.1)) is.0)

-- what the two calls say
ends-inside : (g : given.Over) (c : goal.After-cut_within g) → g.D.Device.Tells
    → SyncedCut shown g.S.Seal.seal_of (shown c.args.self) (shown c.in_ok-this.this) c.args.len (c.args.len / c.from-page_size.result) (c.args.len % c.from-page_size.result)
    c.cut_within.result (g.D.Device.time c.args.dev.now) (g.D.Device.time c.sync.new.dev) (g.D.Device.time c.cut_within.new.dev)
ends-inside g c t = record {
  synced = record {
    key = c.in_ok-this.ensures.key;
    page = c.in_ok-this.ensures.page_size;
    size = c.in_ok-this.ensures.size;
    settled = c.in_ok-this.ensures.settled;
    begun = c.in_ok-this.this.fit.begun;
    within = c.in_ok-this.this.fit.within;
    order = c.in_ok-this.this.order;
    crashes = c.in_ok-this.ensures.crashes t;
    sealed = c.in_ok-this.ensures.sealed t;
    steady = c.in_ok-this.ensures.steady t;
    unrecovered = c.in_ok-this.ensures.unrecovered t;
    prefix = c.in_ok-this.ensures.prefix t;
    alone = c.in_ok-this.ensures.alone t;
    bytes = c.in_ok-this.ensures.bytes t;
    backed = c.in_ok-this.ensures.backed t;
  };
  cut = cut_as c.in_ok-this.ensures.key c.in_ok-this.ensures.page_size (at-inside g c) (record {
    crashes = λ rest stands inside. c.cut_within.ensures.crashes t rest inside;
    done = λ rest stands inside. c.cut_within.ensures.done t rest inside;
    bytes = c.cut_within.ensures.bytes t;
    backed = c.cut_within.ensures.backed t;
    memory = c.cut_within.ensures.memory t;
    rests = c.cut_within.ensures.rests t;
    alone = c.cut_within.ensures.alone t;
    prefix = c.cut_within.ensures.prefix t;
    shorter = c.cut_within.ensures.shorter t;
    covered = c.cut_within.ensures.covered t;
    refused = c.cut_within.ensures.refused t;
  });
  place = placed c.args.self.page_size c.from-page_size.result c.args.len (c.from-page_size.ensures ∙ c.in_ok-this.ensures.page_size);
  less = omega (arith, c.size.ensures, c.if-len-size.false);
  marks = marks-inside g c;
}

-- the page that it names is not covered so far
short : (g : given.Over) (c : goal.After-cut_within g) → g.D.Device.Tells → (p : ℕ) → c.cut_within.result ≡ Err (InvalidChecksum p)
    → page_length g.S.Seal.seal_of c.args.self.page_size (disk (g.D.Device.time c.sync.new.dev) (key_of (shown c.args.self))).content (c.args.len / c.from-page_size.result) < (c.args.len % c.from-page_size.result)
short g c t p is = as_of (λ (k : Key) (n : ℕ). page_length g.S.Seal.seal_of n (disk (g.D.Device.time c.sync.new.dev) k).content (c.args.len / c.from-page_size.result) < (c.args.len % c.from-page_size.result))
    c.in_ok-this.ensures.key c.in_ok-this.ensures.page_size (c.cut_within.ensures.checksum t p is)

page-of : (g : given.Over) (c : goal.After-cut_within g) → (p : ℕ) → c.cut_within.result ≡ Err (InvalidChecksum p) → p ≡ (c.args.len / c.from-page_size.result)
page-of g c p is = page_named c.cut_within.result p (c.args.len / c.from-page_size.result) (p ≡ (c.args.len / c.from-page_size.result)) (Rose (g.D.Device.faults c.sync.new.dev) (g.D.Device.faults c.cut_within.new.dev)) (λ none. absurd (cc (none, is))) (λ failed rose. absurd (cc (failed, is))) c.cut_within.ensures.cause is

-- a cut within a page
pub returns : goal.returns
returns g c = record {
  crashes = λ t. ends.cut_crashes (ends-inside g c t);
  sealed = λ t. ends.cut_sealed (ends-inside g c t);
  recovering = λ t. ends.cut_recovering (ends-inside g c t);
  recovered = λ t. ends.cut_recovered (ends-inside g c t);
  prefix = λ t. ends.cut_prefix (ends-inside g c t);
  prefix_again = λ t. ends.cut_prefix_again (ends-inside g c t);
  prefix_leaves = λ t. ends.cut_prefix_leaves (ends-inside g c t);
  steady = λ t. ends.cut_steady (ends-inside g c t);
  unrecovered = λ t. ends.cut_unrecovered (ends-inside g c t);
  bytes = λ t. ends.cut_bytes_are (ends-inside g c t);
  backed = λ t. ends.cut_is_backed (ends-inside g c t);
  alone = λ t. ends.cut_alone (ends-inside g c t);
  cache = λ lt. if_ok_weaker c.cut_within.result (marks-inside g c) (λ v m. m.cache);
  unchanged = λ le. absurd (omega (arith, le, c.size.ensures, c.if-len-size.false));
  same = λ le. absurd (omega (arith, le, c.size.ensures, c.if-len-size.false));
  settled = λ lt. if_ok_weaker c.cut_within.result (marks-inside g c) (λ v m. m.settled);
  rests = λ t lt. (ends-inside g c t).cut.rests;
  shorter = λ t lt. (ends-inside g c t).cut.shorter;
  again = λ t lt. ends.cut_again (ends-inside g c t);
  leaves = λ t lt. ends.cut_leaves (ends-inside g c t);
  size = if_ok_weaker c.cut_within.result (marks-inside g c) (λ v m. omega (arith, m.size, c.size.ensures, c.if-len-size.false));
  key = if_ok_weaker c.cut_within.result (marks-inside g c) (λ v m. m.key);
  page_size = if_ok_weaker c.cut_within.result (marks-inside g c) (λ v m. m.page);
  capacity = if_ok_weaker c.cut_within.result (marks-inside g c) (λ v m. m.capacity);
  cache_pages = if_ok_weaker c.cut_within.result (marks-inside g c) (λ v m. m.cache_pages);
  known = λ t known. if_ok_weaker c.cut_within.result (marks-inside g c) (λ v m has. absurd (cc (has, m.clean)));
  «open» = cut_open shown (shown c.args.self) (shown c.in_ok-this.this) c.args.len (c.args.len / c.from-page_size.result) (g.D.Device.opened c.cut_within.new.dev) c.cut_within.result c.in_ok-this.ensures.key (marks-inside g c) c.cut_within.ensures.length;
  entries = then_few 1 (key_of (shown c.args.self)) _ (g.D.Device.opened c.sync.new.dev) _ c.in_ok-this.ensures.entries
      (subst (λ (q : Key). FewReads 1 q (g.D.Device.opened c.sync.new.dev) (g.D.Device.opened c.cut_within.new.dev)) c.in_ok-this.ensures.key c.cut_within.ensures.entries);
  faults = omega (arith, c.in_ok-this.ensures.faults, c.cut_within.ensures.faults);
  checksum = λ t p is. ends.refused_short (ends-inside g c t) (short g c t p is) p (page-of g c p is);
  uncut_pages = λ t p is. ends.refused_prefix (ends-inside g c t) (short g c t p is);
  uncut = λ t backed p is. ends.refused_data (ends-inside g c t) (short g c t p is) backed;
  uncut_rests = λ t rests p is. ends.refused_rests (ends-inside g c t) (short g c t p is) (c.in_ok-this.ensures.rests t rests);
  untouched = λ t settled p is. subst (λ (x : Timeline). Unchanged x (g.D.Device.time c.cut_within.new.dev))
      (ap g.D.Device.time (c.in_ok-this.ensures.idle settled)) ((ends-inside g c t).cut.refused (short g c t p is));
  covered = λ t settled lt. ends.cut_covered (ends-inside g c t) (ap g.D.Device.time (c.in_ok-this.ensures.idle settled));
  covered_below = λ t lt below whole. ends.cut_covered_below (ends-inside g c t) below whole;
  whole = λ t safe. not_named c.cut_within.result (c.args.len / c.from-page_size.result) (Rose (g.D.Device.faults c.sync.new.dev) (g.D.Device.faults c.cut_within.new.dev)) (Rose (g.D.Device.faults c.args.dev.now) (g.D.Device.faults c.cut_within.new.dev)) (λ is. ends.safe_covered (ends-inside g c t) safe (short g c t _ is))
      (rose_since (g.D.Device.faults c.args.dev.now) (g.D.Device.faults c.sync.new.dev) (g.D.Device.faults c.cut_within.new.dev) c.in_ok-this.ensures.faults) c.cut_within.ensures.cause;
  page = λ p is. page_around c.args.self.page_size c.args.len (c.args.len / c.from-page_size.result) (c.args.len % c.from-page_size.result) p (size_of (shown c.args.self))
      (placed c.args.self.page_size c.from-page_size.result c.args.len (c.from-page_size.ensures ∙ c.in_ok-this.ensures.page_size))
      (omega (arith, c.args.self.fit.begun)) (omega (arith, c.if-keep-eq0.false)) (omega (arith, c.size.ensures, c.if-len-size.false)) (page-of g c p is);
  cause = cause_since c.cut_within.result (c.args.len / c.from-page_size.result) (g.D.Device.faults c.args.dev.now) (g.D.Device.faults c.sync.new.dev) (g.D.Device.faults c.cut_within.new.dev) c.in_ok-this.ensures.faults c.cut_within.ensures.cause;
}
