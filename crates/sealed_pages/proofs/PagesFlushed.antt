-- The pages of a flush, one after the other, from what writing each of them promises.
use Rattle.std.proofs.Common.{◌≡◌, ℕ, ◌+◌, ◌*◌, ◌<◌, ◌≤◌, Bool, List, Result, Ok, Err, length, take, drop, sym, subst, arith, length-take, length-drop}
use Rattle.std.proofs.Math.Nat.{mul-le-mul_right}
use Rattle.blob_device.specs.Disk.{Key}
use Rattle.blob_device.specs.Timeline.{disk}
use Rattle.blob_device.specs.declared.device.Device as device
use Rattle.blob_device.specs.declared.error.DevError.{DevError}
use Rattle.sealed_pages.specs.Contents.{IsHad}
use Rattle.sealed_pages.specs.Entries.{IsOpenAt, NoReads}
use Rattle.sealed_pages.specs.Flushing.{Ready, Data, PageFlushed, Wrote, CoversFrom, next_slot}
use Rattle.sealed_pages.specs.Leftover.{SettlesNothing}
use Rattle.sealed_pages.specs.PageWrites.{WritesPage, WritesPages}
use Rattle.sealed_pages.specs.Unrecovered.{SparesPrefix}
use Rattle.sealed_pages.specs.View.{view, page_at, StandsAt}
use Rattle.sealed_pages.proofs.adopted.Clearing.{settles_start, settles_then}
use Rattle.sealed_pages.proofs.slots.CoverLemmas.{covers_next}
use Rattle.sealed_pages.specs.lemmas.Entries.{open_some, no_reads_start, no_reads_then}
use Rattle.sealed_pages.proofs.Prefixes.{prefix_page, prefix_then}
use Rattle.sealed_pages.proofs.slots.PageCalls.{flushed_as, wrote_as, wrote_start, wrote_then, flush_start, flush_then, part_stands}
use Rattle.sealed_pages.specs.lemmas.Prefixes.{prefix_now, prefix_start}
use Rattle.sealed_pages.specs.lemmas.cutting.Truncating.{rose_since}
use Rattle.sealed_pages.specs.lemmas.slots.PageCalls.{alone_then}

module _ {D : Type 0} (dev : device.Ghosts D) (seal : List ℕ → ℕ) (P : ℕ) (blob : Key) (first begin : ℕ) (tip : List ℕ) (settled : ℕ) (newest : Bool) (old : D) where
  -- so many bytes of the tip are written, and `from` of the page that is next
  pub record Going (now : D) (at from page : ℕ) : Type 0 where
    pub entries : NoReads blob (dev.opened old) (dev.opened now)
    pub faults : dev.faults old ≤ dev.faults now
    pub later : first ≤ page
    pub prefix : dev.Tells → SparesPrefix (page_at P first) blob (dev.time old) (dev.time now)
    pub stays : dev.Tells → SettlesNothing blob (dev.time old) (dev.time now)
    pub had : dev.Tells → IsHad (disk (dev.time old) blob) → IsHad (disk (dev.time now) blob)
    pub told : dev.Tells → (all : List ℕ) → Ready seal P all (first * P + begin) settled newest (disk (dev.time old) blob) → StandsAt all (first * P) tip
        → PageFlushed seal P {T = ℕ} {E = DevError} all (first * P + (at + from)) settled newest blob (Ok 0) (dev.time old) (dev.time now)
    pub covers : dev.Tells → (all : List ℕ) → Data P all (first * P + begin) (view (disk (dev.time old) blob).content) → StandsAt all (first * P) tip → CoversFrom seal P (disk (dev.time now) blob).content first (first * P + at)
    pub wrote : dev.Tells → (all : List ℕ) → Data P all (first * P + begin) (view (disk (dev.time old) blob).content) → StandsAt all (first * P) tip
        → Wrote {T = ℕ} {E = DevError} P all (first * P + (at + from)) blob (Ok 0) (dev.time old) (dev.time now)

  pub going_start : begin < P → (end : ℕ) → IsOpenAt (dev.opened old) blob end → Going old 0 begin first
  going_start begun end opened = record {
    entries = no_reads_start (dev.opened old) blob (open_some (dev.opened old) blob end opened);
    faults = omega arith;
    later = omega arith;
    prefix = λ t. prefix_start (page_at P first) blob (dev.time old);
    stays = λ t. settles_start blob (dev.time old);
    had = λ t had. had;
    told = λ t all ready at. subst (λ (x : ℕ). PageFlushed seal P {T = ℕ} {E = DevError} all (x) settled newest blob (Ok 0) (dev.time old) (dev.time old)) same (flush_start seal P (omega (arith, begun)) blob 0 all (first * P + begin) settled newest (dev.time old) ready);
    covers = λ t all was at k low lt. absurd (omega (arith, lt, mul-le-mul_right P low));
    wrote = λ t all was at. wrote_start P 0 all _ blob (dev.time old) (subst (λ (x : ℕ). Data P all x (view (disk (dev.time old) blob).content)) same was);
  }
    where
      same : first * P + begin ≡ first * P + (0 + begin)
      same = omega arith

  -- nothing is new
  pub none_new : begin < P → begin ≡ length tip → (end : ℕ) → IsOpenAt (dev.opened old) blob end → WritesPages dev seal P blob old old first begin tip settled newest (Ok end)
  none_new begun is end opened = record {
    told = λ t all ready at. subst (λ (x : ℕ). PageFlushed seal P {T = ℕ} {E = DevError} all (x) settled newest blob (Ok end) (dev.time old) (dev.time old)) same (flush_start seal P (omega (arith, begun)) blob end all (first * P + begin) settled newest (dev.time old) ready);
    wrote = λ t all was at. wrote_start P end all _ blob (dev.time old) (subst (λ (x : ℕ). Data P all x (view (disk (dev.time old) blob).content)) same was);
    covers = λ t all more was at. absurd (omega (arith, more, is));
    prefix = λ t. prefix_start (page_at P first) blob (dev.time old);
    stays = λ t. settles_start blob (dev.time old);
    had = λ t had. had;
    «length» = opened;
    entries = no_reads_start (dev.opened old) blob (open_some (dev.opened old) blob end opened);
    faults = omega arith;
    cause = λ f. absurd (cc f);
  }
    where
      same : first * P + begin ≡ first * P + length tip
      same = omega (arith, is)

  module _ (now : D) (at from page : ℕ) (going : Going now at from page) where
    -- all is written
    pub all_written : at + from ≤ length tip → length tip ≤ at → (end : ℕ) → IsOpenAt (dev.opened now) blob end → WritesPages dev seal P blob old now first begin tip settled newest (Ok end)
    all_written within over end opened = record {
      told = λ t all ready stands. subst (λ (x : ℕ). PageFlushed seal P {T = ℕ} {E = DevError} all (x) settled newest blob (Ok end) (dev.time old) (dev.time now)) same (flushed_as _ _ (going.told t all ready stands));
      wrote = λ t all was stands. subst (λ (x : ℕ). Wrote {T = ℕ} {E = DevError} P all (x) blob (Ok end) (dev.time old) (dev.time now)) same (wrote_as _ _ (going.wrote t all was stands));
      covers = λ t all more was stands. subst (λ (x : ℕ). CoversFrom seal P (disk (dev.time now) blob).content first x) whole (going.covers t all was stands);
      prefix = going.prefix;
      stays = going.stays;
      had = going.had;
      «length» = opened;
      entries = going.entries;
      faults = going.faults;
      cause = λ f. absurd (cc f);
    }
      where
        same : first * P + (at + from) ≡ first * P + length tip
        same = omega (arith, within, over)

        whole : first * P + at ≡ first * P + length tip
        whole = omega (arith, within, over)

    -- the next page is written: n bytes of the tip
    module _ (new : D) (n m : ℕ) (slot : Bool) (place : page * P ≡ first * P + at) (size : n ≤ P) (fits : at + n ≤ length tip) (is : m ≡ n) (pick : slot ≡ next_slot P settled newest page) where
      page_flushed : {r : Result ℕ DevError} → WritesPage dev seal P blob now new page from (take m (drop at tip)) slot r → dev.Tells → (all : List ℕ) → Ready seal P all (first * P + begin) settled newest (disk (dev.time old) blob) → StandsAt all (first * P) tip
          → PageFlushed seal P all (page * P + length (take m (drop at tip))) settled newest blob r (dev.time now) (dev.time new)
      page_flushed write t all ready stands = write.told t all (first * P + (at + from)) settled newest (going.told t all ready stands).done (omega (arith, place))
          (part_stands all (first * P) at m (page * P) tip stands (omega (arith, fits, is)) place) pick

      page_data : dev.Tells → (all : List ℕ) → Data P all (first * P + begin) (view (disk (dev.time old) blob).content) → StandsAt all (first * P) tip → Data P all (page * P + from) (view (disk (dev.time now) blob).content)
      page_data t all was stands = subst (λ (x : ℕ). Data P all x (view (disk (dev.time now) blob).content)) (omega (arith, place)) (going.wrote t all was stands).done

      page_wrote : {r : Result ℕ DevError} → WritesPage dev seal P blob now new page from (take m (drop at tip)) slot r → dev.Tells → (all : List ℕ) → Data P all (first * P + begin) (view (disk (dev.time old) blob).content) → StandsAt all (first * P) tip
          → Wrote P all (page * P + length (take m (drop at tip))) blob r (dev.time now) (dev.time new)
      page_wrote write t all was stands = write.wrote t all (page_data t all was stands) (part_stands all (first * P) at m (page * P) tip stands (omega (arith, fits, is)) place)

      page_prefix : {r : Result ℕ DevError} → WritesPage dev seal P blob now new page from (take m (drop at tip)) slot r → dev.Tells → SparesPrefix (page_at P first) blob (dev.time old) (dev.time new)
      page_prefix write t = prefix_then (page_at P first) blob (dev.time old) (dev.time now) (dev.time new) (going.prefix t) (prefix_page P first page blob (dev.time now) (dev.time new) going.later (write.prefix t))

      pub page_failed : 1 ≤ P → (r : Result ℕ DevError) (e : DevError) → r ≡ Err e → WritesPage dev seal P blob now new page from (take m (drop at tip)) slot (Err e) → WritesPages dev seal P blob old new first begin tip settled newest r
      page_failed pos r e failed write = subst (WritesPages dev seal P blob old new first begin tip settled newest) (sym failed) (record {
        told = λ t all ready stands. record {
          any_moment = (flush_then seal P pos blob 0 all _ _ settled newest (Err e) (dev.time old) (dev.time now) (dev.time new) (going.told t all ready stands) (page_flushed write t all ready stands)).any_moment;
          done = tt;
        };
        wrote = λ t all was stands. record { alone = alone_then _ _ _ _ (going.wrote t all was stands).alone (page_wrote write t all was stands).alone; done = tt };
        covers = λ t all more was stands. tt;
        prefix = page_prefix write;
        stays = λ t. settles_then blob (dev.time old) (dev.time now) (dev.time new) (going.stays t) (write.stays t);
        had = λ t had. tt;
        «length» = tt;
        entries = no_reads_then blob (dev.opened old) (dev.opened now) (dev.opened new) going.entries write.entries;
        faults = omega (arith, going.faults, write.faults);
        cause = λ f. rose_since _ _ _ going.faults (write.cause f);
      })

      pub going_on : 1 ≤ P → (end : ℕ) → WritesPage dev seal P blob now new page from (take m (drop at tip)) slot (Ok end) → Going new (at + n) 0 (page + 1)
      going_on pos end write = record {
        entries = no_reads_then blob (dev.opened old) (dev.opened now) (dev.opened new) going.entries write.entries;
        faults = omega (arith, going.faults, write.faults);
        later = omega (arith, going.later);
        prefix = page_prefix write;
        stays = λ t. settles_then blob (dev.time old) (dev.time now) (dev.time new) (going.stays t) (write.stays t);
        had = λ t had. write.had t;
        told = λ t all ready stands. subst (λ (x : ℕ). PageFlushed seal P {T = ℕ} {E = DevError} all (x) settled newest blob (Ok 0) (dev.time old) (dev.time new)) far
            (flush_then seal P pos blob 0 all _ _ settled newest (Ok 0) (dev.time old) (dev.time now) (dev.time new) (going.told t all ready stands) (flushed_as _ 0 (page_flushed write t all ready stands)));
        covers = λ t all was stands.
            covers_next seal P first page at n (disk (dev.time now) blob) (disk (dev.time new) blob) (going.covers t all was stands) place pos size (prefix_now _ _ _ _ (write.prefix t))
            (omega (arith, long, write.covers t all (page_data t all was stands) (part_stands all (first * P) at m (page * P) tip stands (omega (arith, fits, is)) place)));
        wrote = λ t all was stands. subst (λ (x : ℕ). Wrote {T = ℕ} {E = DevError} P all (x) blob (Ok 0) (dev.time old) (dev.time new)) far
            (wrote_then P 0 all _ _ blob (Ok 0) (dev.time old) (dev.time now) (dev.time new) (going.wrote t all was stands) (wrote_as _ 0 (page_wrote write t all was stands)));
      }
        where
          long : length (take m (drop at tip)) ≡ n
          long = omega (arith, fits, is, length-take m (drop at tip), length-drop at tip)

          far : page * P + length (take m (drop at tip)) ≡ first * P + (at + n + 0)
          far = omega (arith, place, long)
