use Rattle.sealed_pages.proofs.cutting.Truncating.{no_value, raised_cause}
use Rattle.sealed_pages.proofs.cutting.TruncateEnds.{no_page}
use Rattle.blob_device.specs.Counts.{Rose}
use Rattle.std.proofs.Common.{rules, ◌≡◌, ◌≤◌, ◌<◌, ◌+◌, ◌-◌, ◌*◌, ◌/◌, ◌^◌, ◌++◌, ◌∙◌, ◌⊎◌, Err, inl, inr, ℕ, List, refl, length, take, drop, length-drop, length-append, ap, sym, subst, arith}
use Rattle.std.specs.String.{string_bytes}
use Rattle.std.proofs.Math.Nat.{div-mul-le_self}
use Rattle.blob_device.specs.Disk.{Key}
use Rattle.blob_device.specs.Timeline.{disk}
use Rattle.blob_device.specs.Opened.{OpenedList, reads_of}
use Rattle.sealed_pages.specs.Pieces.{IsPieceOf, HasPage, next_missing}
use Rattle.sealed_pages.specs.Readers.{reading, next_of}
use Rattle.sealed_pages.specs.Reading.{page_of}
use Rattle.sealed_pages.specs.Reads.{EndsAtOrPast}
use Rattle.sealed_pages.specs.Slots.{page_length}
use Rattle.sealed_pages.specs.View.{page_at}
use Rattle.sealed_pages.proofs.looking.PieceLemmas.{piece_covered}
use Rattle.sealed_pages.specs.lemmas.Entries.{reads_start}
use Rattle.sealed_pages.specs.lemmas.looking.Looking.{unchanged_start}
use Rattle.sealed_pages.specs.lemmas.looking.Replay.{longer, more_bytes, more_covered, part_ends, part_some, part_within}
use Rattle.sealed_pages.proofs.looking.ReadLemmas.{extent_room}
use Rattle.sealed_pages.proofs.looking.ReplayLemmas.{pushed_cases, missing_later, unread_step, part_wanted, tip_reaches}
use Rattle.sealed_pages.specs.Entries.{ReadsAtMost}
use Rattle.sealed_pages.specs.Readers.{IsReplayOf}
use Rattle.sealed_pages.proofs.replay.PageReplay.fetch.Given as given
use Rattle.sealed_pages.proofs.replay.PageReplay.fetch.Goals.{After-load, After-covered_len-covered, After-min-upto}
use Rattle.sealed_pages.proofs.replay.PageReplay.fetch.Goals as goal
use Rattle.blob_device.proofs.general.Results.{on_err, on_ok}

pub load-requires-clause-place : goal.load-requires-clause-place
load-requires-clause-place g c =
    let next : ℕ = c.args.self.now.at + c.remaining.result in
    let room : page_at c.args.self.now.page_size (next / c.args.self.now.page_size) + (c.args.self.now.page_size + 12) < 2 ^ 64
    = extent_room c.args.self.now.page_size c.args.self.now.size (next / c.args.self.now.page_size) c.args.self.now.some c.args.self.now.room (omega (arith, div-mul-le_self next c.args.self.now.page_size, c.remaining.ensures, c.requires.more, c.requires.within)) in
    let e : page_at c.args.self.now.piece.page_size (next / c.from-data.result) ≡ page_at c.args.self.now.page_size (next / c.args.self.now.page_size) = λ i. page_at (c.args.self.now.same_pages i) (next / c.from-data.ensures i) in
    omega (arith, e, room)

-- which blob it is
key : (g : given.Over) (c : After-load g) → ◌≡◌ {A = Key} (c.as_str.result.now, c.as_slice.result.now) (string_bytes c.args.self.now.partition, c.args.self.now.name.items)
key g c = λ j. (c.as_str.ensures.value j, c.as_slice.ensures.value j)

-- the page of the next byte
page : (g : given.Over) (c : After-load g) → ((c.args.self.now.at + c.remaining.result) / c.from-data.result) ≡ next_of (reading c.args.self.now) / c.args.self.now.page_size
page g c = λ j. (c.args.self.now.at + c.remaining.ensures j) / c.from-data.ensures j

-- the pages that were read are still as in the blob
piece : (g : given.Over) (c : After-load g) → g.D.Device.Tells → IsPieceOf (disk (g.D.Device.time c.args.dev.now) (string_bytes c.args.self.now.partition, c.args.self.now.name.items)).content c.args.self.now.piece → IsPieceOf (disk (g.D.Device.time c.args.dev.now) (string_bytes c.args.self.now.partition, c.args.self.now.name.items)).content c.load.new.self
piece g c t = subst (λ (k : Key). IsPieceOf (disk (g.D.Device.time c.args.dev.now) k).content c.args.self.now.piece → IsPieceOf (disk (g.D.Device.time c.args.dev.now) k).content c.load.new.self) (key g c) (c.load.ensures.piece t)

-- and so is what is at hand
kept : (g : given.Over) (c : After-load g) → g.D.Device.Tells → IsReplayOf g.S.Seal.seal_of (disk (g.D.Device.time c.args.dev.now) (string_bytes c.args.self.now.partition, c.args.self.now.name.items)).content (reading c.args.self.now) → IsReplayOf g.S.Seal.seal_of (disk (g.D.Device.time c.args.dev.now) (string_bytes c.args.self.now.partition, c.args.self.now.name.items)).content (record (reading c.args.self.now) { piece = c.load.new.self })
kept g c t is = record { bytes = is.bytes; covered = is.covered; piece = piece g c t is.piece; tip = is.tip }

-- how far the page is covered
covered : (g : given.Over) (c : After-covered_len-covered g) → g.D.Device.Tells → IsPieceOf (disk (g.D.Device.time c.args.dev.now) (string_bytes c.args.self.now.partition, c.args.self.now.name.items)).content c.load.new.self → c.covered_len-covered.result ≡ page_length g.S.Seal.seal_of c.args.self.now.page_size (disk (g.D.Device.time c.args.dev.now) (string_bytes c.args.self.now.partition, c.args.self.now.name.items)).content ((c.args.self.now.at + c.remaining.result) / c.from-data.result)
covered g c t is = piece_covered g.S.Seal.seal_of c.args.self.now.page_size (disk (g.D.Device.time c.args.dev.now) (string_bytes c.args.self.now.partition, c.args.self.now.name.items)).content c.load.new.self ((c.args.self.now.at + c.remaining.result) / c.from-data.result) c.page_bytes-found.result.now c.covered_len-covered.result
    (omega (arith, extent_room c.args.self.now.page_size c.args.self.now.size ((c.args.self.now.at + c.remaining.result) / c.from-data.result) c.args.self.now.some c.args.self.now.room (omega (arith, div-mul-le_self (c.args.self.now.at + c.remaining.result) c.from-data.result, ap (λ (n : ℕ). (c.args.self.now.at + c.remaining.result) / c.from-data.result * n) c.from-data.ensures, c.remaining.ensures, c.requires.more, c.requires.within))))
    (c.in_ok-load.ensures.page_size ∙ c.args.self.now.same_pages) is c.in_ok-load.ensures.holds c.page_bytes-found.ensures c.covered_len-covered.ensures.covers

-- a read took a page that was not read, and the next byte then stands there, or behind
unread : (g : given.Over) (c : After-covered_len-covered g) (after : ℕ) → next_of (reading c.args.self.now) ≤ after → reads_of ((g.D.Device.opened c.load.new.dev) (reading c.args.self.now).key) + (c.args.self.now.size / c.args.self.now.page_size - next_missing c.load.new.self (after / c.args.self.now.page_size)) ≤ reads_of ((g.D.Device.opened c.args.dev.now) (reading c.args.self.now).key) + (c.args.self.now.size / c.args.self.now.page_size - next_missing c.args.self.now.piece (next_of (reading c.args.self.now) / c.args.self.now.page_size))
unread g c after le =
    let place : ((c.args.self.now.at + c.remaining.result) / c.from-data.result) ≡ next_of (reading c.args.self.now) / c.args.self.now.page_size = λ j. (c.args.self.now.at + c.remaining.ensures j) / c.from-data.ensures j in
    let blob : ◌≡◌ {A = Key} (c.as_str.result.now, c.as_slice.result.now) (reading c.args.self.now).key = λ j. (c.as_str.ensures.value j, c.as_slice.ensures.value j) in
    unread_step c.args.self.now.page_size (c.args.self.now.size / c.args.self.now.page_size) (next_of (reading c.args.self.now)) after (reads_of ((g.D.Device.opened c.args.dev.now) (reading c.args.self.now).key)) (reads_of ((g.D.Device.opened c.load.new.dev) (reading c.args.self.now).key)) c.args.self.now.piece c.load.new.self
    c.args.self.now.some (omega (arith, c.if-page-full.false, c.remaining.ensures, place, ap (λ (n : ℕ). c.args.self.now.size / n) c.from-data.ensures)) le
    (subst (HasPage c.load.new.self) place c.in_ok-load.ensures.holds)
    (subst (λ (x : ℕ). (HasPage c.args.self.now.piece x × (c.load.new.self ≡ c.args.self.now.piece)) ⊎ ((c.load.new.self.page ≡ x) × (HasPage c.args.self.now.piece x → ⊥))) place c.in_ok-load.ensures.loads)
    (λ has. ap (λ (o : OpenedList). reads_of (o (reading c.args.self.now).key)) (c.in_ok-load.ensures.held (subst (HasPage c.args.self.now.piece) (sym place) has)).1)
    (subst (λ (k : Key). reads_of ((g.D.Device.opened c.load.new.dev) k) ≤ reads_of ((g.D.Device.opened c.args.dev.now) k) + 1) blob c.in_ok-load.ensures.entries.reads)

-- no more is taken than the page has
reach : (g : given.Over) (c : After-min-upto g) → c.min-upto.result ≤ length c.page_bytes-found.result.now
reach g c = omega (arith, c.min-upto.ensures, c.covered_len-covered.ensures.held)

-- how many bytes are at hand then
more : (g : given.Over) (c : After-min-upto g) (all : List ℕ) → all ≡ c.args.self.now.held.items ++ take (c.min-upto.result - ((c.args.self.now.at + c.remaining.result) - (c.args.self.now.at + c.remaining.result) / c.from-data.result * c.from-data.result)) (drop ((c.args.self.now.at + c.remaining.result) - (c.args.self.now.at + c.remaining.result) / c.from-data.result * c.from-data.result) c.page_bytes-found.result.now) → length (drop c.args.self.now.used all) ≡ length (drop c.args.self.now.used c.args.self.now.held.items) + (c.min-upto.result - ((c.args.self.now.at + c.remaining.result) - (c.args.self.now.at + c.remaining.result) / c.from-data.result * c.from-data.result))
more g c all is = longer c.args.self.now.used ((c.args.self.now.at + c.remaining.result) - (c.args.self.now.at + c.remaining.result) / c.from-data.result * c.from-data.result) c.min-upto.result c.args.self.now.held.items all c.page_bytes-found.result.now c.args.self.now.taken (reach g c) is

pub invariant_of-self-2 : goal.invariant_of-self-2
invariant_of-self-2 g c =
    elim (pushed_cases c.extend_from_slice.result c.extend_from_slice.new.self.items (c.args.self.now.held.items ++ take (c.min-upto.result - ((c.args.self.now.at + c.remaining.result) - (c.args.self.now.at + c.remaining.result) / c.from-data.result * c.from-data.result)) (drop ((c.args.self.now.at + c.remaining.result) - (c.args.self.now.at + c.remaining.result) / c.from-data.result * c.from-data.result) c.page_bytes-found.result.now)) c.args.self.now.held.items c.extend_from_slice.ensures.items) [
      | inl is ↦ record {
        taken = omega (arith, ap length is, length-append c.args.self.now.held.items (take (c.min-upto.result - ((c.args.self.now.at + c.remaining.result) - (c.args.self.now.at + c.remaining.result) / c.from-data.result * c.from-data.result)) (drop ((c.args.self.now.at + c.remaining.result) - (c.args.self.now.at + c.remaining.result) / c.from-data.result * c.from-data.result) c.page_bytes-found.result.now)), c.args.self.now.taken);
        inside = omega (arith, part_within c.from-data.result (c.args.self.now.at + c.remaining.result) c.args.goal c.args.self.now.size c.covered_len-covered.result c.min-need.result c.min-upto.result (omega (arith, c.from-data.ensures, c.args.self.now.some)) (omega (arith, c.remaining.ensures, c.requires.more)) c.requires.within (omega (arith, c.covered_len-covered.ensures.within, c.from-data.ensures)) c.min-need.ensures c.if-covered-need.false c.min-upto.ensures, more g (goal.at.invariant_of-self-2 g c).After-min-upto c.extend_from_slice.new.self.items is, length-drop c.args.self.now.used c.extend_from_slice.new.self.items, c.remaining.ensures);
        some = c.args.self.now.some;
        room = c.args.self.now.room;
        tip_long = c.args.self.now.tip_long;
        same_pages = c.in_ok-load.ensures.page_size ∙ c.args.self.now.same_pages;
      }
      | inr same ↦ record {
        taken = omega (arith, ap length same, c.args.self.now.taken);
        inside = omega (arith, ap length same, c.args.self.now.inside);
        some = c.args.self.now.some;
        room = c.args.self.now.room;
        tip_long = c.args.self.now.tip_long;
        same_pages = c.in_ok-load.ensures.page_size ∙ c.args.self.now.same_pages;
      }
    ]

-- the last page, which is not full
pub take_tip-requires-clause-full : goal.take_tip-requires-clause-full
take_tip-requires-clause-full g c = omega (arith, c.if-page-full.true, ap (λ (n : ℕ). c.args.self.now.size / n) c.from-data.ensures, ap (λ (n : ℕ). (c.args.self.now.at + n) / c.args.self.now.page_size) c.remaining.ensures, ap (λ (n : ℕ). (c.args.self.now.at + c.remaining.result) / n) c.from-data.ensures)

pub returns-then-page-full : goal.returns-then-page-full
returns-then-page-full g c =
    let last : c.args.self.now.size / c.args.self.now.page_size ≤ next_of (reading c.args.self.now) / c.args.self.now.page_size
    = omega (arith, c.if-page-full.true, ap (λ (n : ℕ). c.args.self.now.size / n) c.from-data.ensures, ap (λ (n : ℕ). (c.args.self.now.at + n) / c.args.self.now.page_size) c.remaining.ensures, ap (λ (n : ℕ). (c.args.self.now.at + c.remaining.result) / n) c.from-data.ensures) in
    record {
      same = c.take_tip.ensures.same;
      replays = λ t is. c.take_tip.ensures.replays _ is;
      grows = on_ok c.take_tip.result (λ ends. omega (arith, ends, c.requires.more, c.requires.within)) c.take_tip.ensures.ends;
      reaches = on_ok c.take_tip.result (λ ends. tip_reaches c.args.self.now.page_size (next_of (reading c.args.self.now)) c.args.goal c.args.self.now.size (next_of (reading c.take_tip.new.self)) c.args.self.now.some last c.requires.within ends) c.take_tip.ensures.ends;
      stays = c.take_tip.ensures.stays;
      short = λ t is p e. absurd (no_page (Rose (g.D.Device.faults c.args.dev.now) (g.D.Device.faults c.args.dev.now)) c.take_tip.result p (on_err c.take_tip.result (λ m. inl m) c.take_tip.ensures.cause) e);
      once = on_ok c.take_tip.result (λ ends.
          let full : (reading c.take_tip.new.self).size / (reading c.take_tip.new.self).page_size ≡ c.args.self.now.size / c.args.self.now.page_size = λ j. c.take_tip.ensures.same.size j / c.take_tip.ensures.same.page_size j in
          let at : next_of (reading c.take_tip.new.self) / (reading c.take_tip.new.self).page_size ≡ c.args.self.now.size / c.args.self.now.page_size = λ j. ends j / c.take_tip.ensures.same.page_size j in
          omega (arith, full, at, missing_later (reading c.take_tip.new.self).piece (next_of (reading c.take_tip.new.self) / (reading c.take_tip.new.self).page_size))) c.take_tip.ensures.ends;
      judged = λ p e. absurd (no_page (Rose (g.D.Device.faults c.args.dev.now) (g.D.Device.faults c.args.dev.now)) c.take_tip.result p (on_err c.take_tip.result (λ m. inl m) c.take_tip.ensures.cause) e);
      unchanged = λ t. unchanged_start (g.D.Device.time c.args.dev.now);
      entries = reads_start _ _ _;
      faults = omega arith;
      cause = on_err c.take_tip.result (λ m. inr (inl m)) c.take_tip.ensures.cause;
    }

-- the device failed
pub returns-in_err-load : goal.returns-in_err-load
returns-in_err-load g c =
    let failed = raised_cause c.from_residual.result c.in_err-load.field-0.0 (g.D.Device.faults c.args.dev.now) (g.D.Device.faults c.load.new.dev) c.from_residual.ensures.1 (λ is. c.in_err-load.ensures.cause (ap Err is)) in
    record {
      same = record { key = refl; page_size = refl; end = refl; size = refl; at = refl };
      replays = kept g (goal.at.returns-in_err-load g c).After-load;
      grows = no_value _ _ c.from_residual.ensures.0;
      reaches = no_value _ _ c.from_residual.ensures.0;
      stays = on_err c.from_residual.result (λ why. refl) failed;
      short = λ t is p e. absurd (no_page (Rose (g.D.Device.faults c.args.dev.now) (g.D.Device.faults c.load.new.dev)) c.from_residual.result p failed e);
      once = no_value _ _ c.from_residual.ensures.0;
      judged = λ p e. absurd (no_page (Rose (g.D.Device.faults c.args.dev.now) (g.D.Device.faults c.load.new.dev)) c.from_residual.result p failed e);
      unchanged = c.load.ensures.unchanged;
      entries = subst (λ (k : Key). ReadsAtMost 1 k (g.D.Device.opened c.args.dev.now) (g.D.Device.opened c.load.new.dev)) (key g (goal.at.returns-in_err-load g c).After-load) c.load.ensures.entries;
      faults = c.load.ensures.faults;
      cause = on_err c.from_residual.result (λ why. inr why) failed;
    }

-- the page does not cover what is needed of it
pub returns-then-covered-need : goal.returns-then-covered-need
returns-then-covered-need g c =
    record {
      same = record { key = refl; page_size = refl; end = refl; size = refl; at = refl };
      replays = kept g (goal.at.returns-then-covered-need g c).After-load;
      grows = tt;
      reaches = tt;
      stays = refl;
      short = λ t is p e.
          let at : ((c.args.self.now.at + c.remaining.result) / c.from-data.result) ≡ p = cc e in
          let start : ((c.args.self.now.at + c.remaining.result) / c.from-data.result) * c.from-data.result ≡ p * c.args.self.now.page_size = λ j. at j * c.from-data.ensures j in
          record {
            wanted = part_wanted c.args.self.now.page_size (next_of (reading c.args.self.now)) c.args.goal p c.args.self.now.some c.requires.more (sym at ∙ page g (goal.at.returns-then-covered-need g c).After-load);
            short = omega (arith, covered g (goal.at.returns-then-covered-need g c).After-covered_len-covered t (piece g (goal.at.returns-then-covered-need g c).After-load t is.piece), ap (page_length g.S.Seal.seal_of c.args.self.now.page_size (disk (g.D.Device.time c.args.dev.now) (string_bytes c.args.self.now.partition, c.args.self.now.name.items)).content) at, start, c.if-covered-need.true, c.min-need.ensures, c.from-data.ensures, c.requires.more);
          };
      once = tt;
      judged = λ p e. unread g (goal.at.returns-then-covered-need g c).After-covered_len-covered (next_of (reading c.args.self.now)) (omega arith);
      unchanged = c.load.ensures.unchanged;
      entries = subst (λ (k : Key). ReadsAtMost 1 k (g.D.Device.opened c.args.dev.now) (g.D.Device.opened c.load.new.dev)) (key g (goal.at.returns-then-covered-need g c).After-load) c.load.ensures.entries;
      faults = c.load.ensures.faults;
      cause = inl (((c.args.self.now.at + c.remaining.result) / c.from-data.result), refl, part_wanted c.args.self.now.page_size (next_of (reading c.args.self.now)) c.args.goal ((c.args.self.now.at + c.remaining.result) / c.from-data.result) c.args.self.now.some c.requires.more (page g (goal.at.returns-then-covered-need g c).After-load));
    }

-- memory was short
pub returns-in_err-extend_from_slice : goal.returns-in_err-extend_from_slice
returns-in_err-extend_from_slice g c =
    let same : c.extend_from_slice.new.self.items ≡ c.args.self.now.held.items = search rules in
    record {
      same = record { key = refl; page_size = refl; end = refl; size = refl; at = refl };
      replays = λ t is. subst (λ (l : List ℕ). IsReplayOf g.S.Seal.seal_of (disk (g.D.Device.time c.args.dev.now) (string_bytes c.args.self.now.partition, c.args.self.now.name.items)).content (record (reading c.args.self.now) { bytes = drop c.args.self.now.used l; piece = c.load.new.self })) (sym same) (kept g (goal.at.returns-in_err-extend_from_slice g c).After-load t is);
      grows = no_value _ _ c.from_residual-in_err-extend_from_slice.ensures.0;
      reaches = no_value _ _ c.from_residual-in_err-extend_from_slice.ensures.0;
      stays = search rules;
      short = search rules;
      once = no_value _ _ c.from_residual-in_err-extend_from_slice.ensures.0;
      judged = search rules;
      unchanged = c.load.ensures.unchanged;
      entries = subst (λ (k : Key). ReadsAtMost 1 k (g.D.Device.opened c.args.dev.now) (g.D.Device.opened c.load.new.dev)) (key g (goal.at.returns-in_err-extend_from_slice g c).After-load) c.load.ensures.entries;
      faults = c.load.ensures.faults;
      cause = search rules;
    }

pub returns : goal.returns
returns g c =
    let all : c.extend_from_slice.new.self.items ≡ c.args.self.now.held.items ++ take (c.min-upto.result - ((c.args.self.now.at + c.remaining.result) - (c.args.self.now.at + c.remaining.result) / c.from-data.result * c.from-data.result)) (drop ((c.args.self.now.at + c.remaining.result) - (c.args.self.now.at + c.remaining.result) / c.from-data.result * c.from-data.result) c.page_bytes-found.result.now) = c.in_ok-extend_from_slice.ensures.items in
    let some = part_some c.from-data.result (c.args.self.now.at + c.remaining.result) c.args.goal c.args.self.now.size c.covered_len-covered.result c.min-need.result c.min-upto.result (omega (arith, c.from-data.ensures, c.args.self.now.some)) (omega (arith, c.remaining.ensures, c.requires.more)) c.requires.within (omega (arith, c.covered_len-covered.ensures.within, c.from-data.ensures)) c.min-need.ensures c.if-covered-need.false c.min-upto.ensures in
    let long = more g (goal.at.returns g c).After-min-upto c.extend_from_slice.new.self.items all in
    record {
      same = record { key = refl; page_size = refl; end = refl; size = refl; at = refl };
      replays = λ t is.
          let has = piece g (goal.at.returns g c).After-load t is.piece in
          let next : (c.args.self.now.at + c.remaining.result) ≡ next_of (reading c.args.self.now) = ap (λ (n : ℕ). c.args.self.now.at + n) c.remaining.ensures in
          let place : ((c.args.self.now.at + c.remaining.result) / c.from-data.result) * c.args.self.now.page_size + ((c.args.self.now.at + c.remaining.result) - (c.args.self.now.at + c.remaining.result) / c.from-data.result * c.from-data.result) ≡ (c.args.self.now.at + c.remaining.result) = omega (arith, ap (λ (n : ℕ). ((c.args.self.now.at + c.remaining.result) / c.from-data.result) * n) c.from-data.ensures, div-mul-le_self (c.args.self.now.at + c.remaining.result) c.from-data.result) in
          let fits : c.min-upto.result ≤ c.args.self.now.page_size = omega (arith, c.min-upto.ensures, c.covered_len-covered.ensures.within) in
          let found : c.page_bytes-found.result.now ≡ page_of c.args.self.now.page_size (disk (g.D.Device.time c.args.dev.now) (string_bytes c.args.self.now.partition, c.args.self.now.name.items)).content ((c.args.self.now.at + c.remaining.result) / c.from-data.result)
          = c.page_bytes-found.ensures ∙ has ((c.args.self.now.at + c.remaining.result) / c.from-data.result) c.in_ok-load.ensures.holds ∙ ap (λ (n : ℕ). page_of n (disk (g.D.Device.time c.args.dev.now) (string_bytes c.args.self.now.partition, c.args.self.now.name.items)).content ((c.args.self.now.at + c.remaining.result) / c.from-data.result)) (c.in_ok-load.ensures.page_size ∙ c.args.self.now.same_pages) in
          record {
            bytes = more_bytes c.args.self.now.used ((c.args.self.now.at + c.remaining.result) - (c.args.self.now.at + c.remaining.result) / c.from-data.result * c.from-data.result) c.min-upto.result c.args.self.now.held.items c.extend_from_slice.new.self.items c.page_bytes-found.result.now c.args.self.now.taken (reach g (goal.at.returns g c).After-min-upto) all g.S.Seal.seal_of c.args.self.now.page_size c.args.self.now.at (c.args.self.now.at + c.remaining.result) ((c.args.self.now.at + c.remaining.result) / c.from-data.result) (disk (g.D.Device.time c.args.dev.now) (string_bytes c.args.self.now.partition, c.args.self.now.name.items)).content next place (omega (arith, some)) fits found is.bytes;
            covered = more_covered c.args.self.now.used ((c.args.self.now.at + c.remaining.result) - (c.args.self.now.at + c.remaining.result) / c.from-data.result * c.from-data.result) c.min-upto.result c.args.self.now.held.items c.extend_from_slice.new.self.items c.page_bytes-found.result.now c.args.self.now.taken (reach g (goal.at.returns g c).After-min-upto) all g.S.Seal.seal_of c.args.self.now.page_size c.args.self.now.at (c.args.self.now.at + c.remaining.result) ((c.args.self.now.at + c.remaining.result) / c.from-data.result) (disk (g.D.Device.time c.args.dev.now) (string_bytes c.args.self.now.partition, c.args.self.now.name.items)).content next place (omega (arith, some)) fits found (omega (arith, c.min-upto.ensures, covered g (goal.at.returns g c).After-covered_len-covered t has)) is.covered;
            piece = has;
            tip = is.tip;
          };
      grows = omega (arith, long, some, c.remaining.ensures);
      reaches = subst (λ (x : ℕ × ℕ). EndsAtOrPast x.0 (c.args.self.now.at + x.1) c.args.goal (c.args.self.now.at + length (drop c.args.self.now.used c.extend_from_slice.new.self.items))) (λ j. (c.from-data.ensures j, c.remaining.ensures j))
          (part_ends c.from-data.result (c.args.self.now.at + c.remaining.result) c.args.goal c.args.self.now.size c.covered_len-covered.result c.min-need.result c.min-upto.result (omega (arith, c.from-data.ensures, c.args.self.now.some)) (omega (arith, c.remaining.ensures, c.requires.more)) c.requires.within (omega (arith, c.covered_len-covered.ensures.within, c.from-data.ensures)) c.min-need.ensures c.if-covered-need.false c.min-upto.ensures (c.args.self.now.at + length (drop c.args.self.now.used c.extend_from_slice.new.self.items)) (omega (arith, long, c.remaining.ensures)));
      stays = tt;
      short = λ t is p e. absurd (cc e);
      once = unread g (goal.at.returns g c).After-covered_len-covered (c.args.self.now.at + length (drop c.args.self.now.used c.extend_from_slice.new.self.items)) (omega (arith, long, some, c.remaining.ensures));
      judged = λ p e. absurd (cc e);
      unchanged = c.load.ensures.unchanged;
      entries = subst (λ (k : Key). ReadsAtMost 1 k (g.D.Device.opened c.args.dev.now) (g.D.Device.opened c.load.new.dev)) (key g (goal.at.returns g c).After-load) c.load.ensures.entries;
      faults = c.load.ensures.faults;
      cause = tt;
    }
