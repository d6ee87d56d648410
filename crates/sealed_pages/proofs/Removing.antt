-- Removing what a crash left, from what its steps promise.
use Rattle.std.proofs.Common.{◌≡◌, ℕ, ◌+◌, ◌*◌, ◌<◌, ◌≤◌, ◌∙◌, not, cond, Bool, true, false, List, Result, Ok, Err, length, sym, refl, ap, subst, arith, rules}
use Rattle.blob_device.specs.Change.{Settle, written}
use Rattle.blob_device.specs.Counts.{Counted}
use Rattle.blob_device.specs.Disk.{Key, Blob, settled_at}
use Rattle.blob_device.specs.Timeline.{disk, Passes, Always, OnlyAt}
use Rattle.blob_device.specs.declared.device.Device as device
use Rattle.blob_device.specs.declared.error.DevError.{DevError}
use Rattle.blob_device.specs.lemmas.Moments.{ok_blob}
use Rattle.sealed_pages.specs.Buffer.{Adopted, pages_of}
use Rattle.sealed_pages.specs.ChanceSeal.{Leaves, Sealing}
use Rattle.sealed_pages.specs.Cutting.{StandsSettled}
use Rattle.sealed_pages.specs.Entries.{NoReads}
use Rattle.sealed_pages.specs.Flushing.{Removed, IsClean, Data, Wrote, no_slot}
use Rattle.sealed_pages.specs.Leftover.{OnlySlot, IsCleared}
use Rattle.sealed_pages.specs.Removals.{CutsBehind, ClearsTorn, Removes}
use Rattle.sealed_pages.specs.Unrecovered.{SparesPrefix}
use Rattle.sealed_pages.specs.View.{view, page_at, slot_at}
use Rattle.sealed_pages.proofs.adopted.Adopting.{pages_reach}
use Rattle.sealed_pages.proofs.adopted.Clearing.{slot_clears, slot_then, slot_settle, both_cleared}
use Rattle.sealed_pages.specs.lemmas.Entries.{no_reads_then, no_reads_same, no_reads_open, open_same}
use Rattle.sealed_pages.proofs.Prefixes.{prefix_page, prefix_then}
use Rattle.sealed_pages.proofs.adopted.Keeping.{settle_any, settle_ready, settle_data}
use Rattle.sealed_pages.proofs.slots.PageCalls.{alone_on}
use Rattle.sealed_pages.specs.lemmas.Prefixes.{prefix_settle}
use Rattle.sealed_pages.specs.lemmas.adopted.Adopting.{adopted_kept, all_clean, head_is, last_page, pages_some, torn_inside, torn_other}
use Rattle.sealed_pages.specs.lemmas.cutting.Steps.{settled_rest}
use Rattle.sealed_pages.specs.lemmas.cutting.Truncating.{rose_since}
use Rattle.sealed_pages.specs.lemmas.slots.PageCalls.{alone_then, only_then}
use Rattle.sealed_pages.proofs.UnrecoveredLemmas.{pages_span}

-- what the steps promise, by other names
pub behind_as : {D : Type 0} {dev : device.Ghosts D} {seal : List ℕ → ℕ} {P : ℕ} {blob : Key} {old new : D} {n m : ℕ} {behind : Bool} {r : Result ℕ DevError} → n ≡ m → CutsBehind dev seal P blob old new n behind r → CutsBehind dev seal P blob old new m behind r
behind_as {dev = dev} {seal = seal} {P = P} {blob = blob} {old = old} {new = new} {behind = behind} {r = r} is cuts = subst (λ (x : ℕ). CutsBehind dev seal P blob old new x behind r) is cuts

pub torn_as : {D : Type 0} {dev : device.Ghosts D} {seal : List ℕ → ℕ} {P : ℕ} {blob : Key} {old new : D} {page : ℕ} {a b torn : Bool} {r : Result ℕ DevError} → a ≡ b → ClearsTorn dev seal P blob old new page a torn r → ClearsTorn dev seal P blob old new page b torn r
torn_as {dev = dev} {seal = seal} {P = P} {blob = blob} {old = old} {new = new} {page = page} {torn = torn} {r = r} is clears = subst (λ (x : Bool). ClearsTorn dev seal P blob old new page x torn r) is clears

module _ {D : Type 0} (dev : device.Ghosts D) (seal : List ℕ → ℕ) (P : ℕ) (blob : Key) (first from : ℕ) (newest behind torn : Bool) (begun : from < P) (some : torn ≡ true → 0 < from) where
  pos : 1 ≤ P
  pos = omega (arith, begun)

  -- what the cut leaves of pages, and then the zeros
  abbrev IsCut : List ℕ → List ℕ → Type 0
  IsCut b c = (length c ≤ page_at P (pages_of first from)) × ((k : ℕ) (second : Bool) → k < pages_of first from → IsClean seal P b k second → IsClean seal P c k second)

  abbrev IsZeroed : List ℕ → List ℕ → Type 0
  IsZeroed b c = ((torn ≡ false → IsClean seal P b first (not newest)) → IsClean seal P c first (not newest)) × ((n : ℕ) → (torn ≡ true → page_at P (first + 1) ≤ n) → length b ≤ n → length c ≤ n)

  far : torn ≡ true → page_at P (pages_of first from) ≡ page_at P (first + 1)
  far e = ap (page_at P) (pages_some first from (some e))

  start : (k : ℕ) → first * P + from < k * P + P → k < pages_of first from → k * P ≤ first * P + from
  start k part below = omega (arith, ap (λ (m : ℕ). m * P) (last_page P first from k begun part below).0)

  -- what stands behind the pages is cut
  module _ (old mid : D) where
    cut_told : {r : Result ℕ DevError} → CutsBehind dev seal P blob old mid (pages_of first from) behind r → dev.Tells → (all : List ℕ) (a : Adopted seal P all first from newest behind torn (disk (dev.time old) blob))
        → Removed seal P all (first * P + from) (disk (dev.time old) blob).content a.σ (IsCut (disk (dev.time old) blob).content) blob r (dev.time old) (dev.time mid)
    cut_told cut t all a = cut.told t all (first * P + from) (disk (dev.time old) blob).content a.σ (adopted_kept seal P pos all first from newest behind torn begun (disk (dev.time old) blob) a) (pages_reach P first from begun) a.longer a.shorter

    cut_prefix : {r : Result ℕ DevError} → CutsBehind dev seal P blob old mid (pages_of first from) behind r → dev.Tells → SparesPrefix (page_at P first) blob (dev.time old) (dev.time mid)
    cut_prefix cut t = prefix_page P first (pages_of first from) blob (dev.time old) (dev.time mid) (pages_span first from).0 (cut.prefix t)

    pub behind_failed : (r : Result ℕ DevError) (e : DevError) → r ≡ Err e → CutsBehind dev seal P blob old mid (pages_of first from) behind (Err e) → Removes dev seal P blob old mid first from newest behind torn r
    behind_failed r e is cut = subst (Removes dev seal P blob old mid first from newest behind torn) (sym is) (record {
      told = λ t all a. record { any_moment = (cut_told cut t all a).any_moment; done = tt };
      wrote = λ t all same. record { alone = (cut.wrote t all (first * P + from) same (pages_reach P first from begun)).alone; done = tt };
      prefix = cut_prefix cut;
      clears = λ t rest. slot_clears seal P first from newest blob (dev.time old) (dev.time mid) (cut.loose t (slot_at P first (not newest)) rest);
      cleared = λ t left. tt;
      settles = λ t. tt;
      length = tt;
      entries = cut.entries;
      faults = cut.faults;
      cause = cut.cause;
    })

    -- then zeros are written over the torn slot
    module _ (n : ℕ) (cut : CutsBehind dev seal P blob old mid (pages_of first from) behind (Ok n)) (last : D) where
      torn_told : {r : Result ℕ DevError} → ClearsTorn dev seal P blob mid last first (not newest) torn r → (t : dev.Tells) (all : List ℕ) (a : Adopted seal P all first from newest behind torn (disk (dev.time old) blob))
          → Removed seal P all (first * P + from) (disk (dev.time old) blob).content a.σ (IsZeroed (disk (dev.time mid) blob).content) blob r (dev.time mid) (dev.time last)
      torn_told clear t all a =
          let one = cut_told cut t all a in
          clear.told t all (first * P + from) (disk (dev.time old) blob).content a.σ one.done.0 (torn_inside seal P pos all first from newest behind torn begun (disk (dev.time old) blob) a) (torn_other seal P pos all first from newest behind torn begun (disk (dev.time old) blob) a) (λ e. omega (arith, one.done.1.0, far e))

      torn_moments : {r : Result ℕ DevError} → ClearsTorn dev seal P blob mid last first (not newest) torn r → (t : dev.Tells) (all : List ℕ) (a : Adopted seal P all first from newest behind torn (disk (dev.time old) blob)) → Sealing seal P all (first * P + from) blob (dev.time old) (dev.time last)
      torn_moments clear t all a = only_then (dev.time old) (dev.time mid) (dev.time last) blob (Leaves seal P all (first * P + from)) (cut_told cut t all a).any_moment (torn_told clear t all a).any_moment

      torn_wrote : {r : Result ℕ DevError} → ClearsTorn dev seal P blob mid last first (not newest) torn r → dev.Tells → (all : List ℕ) → Data P all (first * P + from) (view (disk (dev.time old) blob).content) → Wrote P all (first * P + from) blob r (dev.time old) (dev.time last)
      torn_wrote clear t all same =
          let one = cut.wrote t all (first * P + from) same (pages_reach P first from begun) in
          let two = clear.wrote t all (first * P + from) one.done in
          record { alone = alone_then (dev.time old) (dev.time mid) (dev.time last) blob one.alone two.alone; done = two.done }

      torn_prefix : {r : Result ℕ DevError} → ClearsTorn dev seal P blob mid last first (not newest) torn r → dev.Tells → SparesPrefix (page_at P first) blob (dev.time old) (dev.time last)
      torn_prefix clear t = prefix_then (page_at P first) blob (dev.time old) (dev.time mid) (dev.time last) (cut_prefix cut t) (clear.prefix t)

      torn_only : {r : Result ℕ DevError} → ClearsTorn dev seal P blob mid last first (not newest) torn r → dev.Tells → StandsSettled (disk (dev.time old) blob) → Always (dev.time old) (dev.time last) (OnlyAt blob (disk (dev.time old)) (OnlySlot (slot_at P first (not newest))))
      torn_only clear t rest = slot_then (slot_at P first (not newest)) blob (dev.time old) (dev.time mid) (dev.time last) (cut.loose t (slot_at P first (not newest)) rest) (λ only. clear.loose t only)

      torn_entries : {r : Result ℕ DevError} → ClearsTorn dev seal P blob mid last first (not newest) torn r → NoReads blob (dev.opened old) (dev.opened last)
      torn_entries clear = no_reads_then blob (dev.opened old) (dev.opened mid) (dev.opened last) cut.entries clear.entries

      pub torn_failed : (r : Result ℕ DevError) (e : DevError) → r ≡ Err e → ClearsTorn dev seal P blob mid last first (not newest) torn (Err e) → Removes dev seal P blob old last first from newest behind torn r
      torn_failed r e is clear = subst (Removes dev seal P blob old last first from newest behind torn) (sym is) (record {
        told = λ t all a. record { any_moment = torn_moments clear t all a; done = tt };
        wrote = torn_wrote clear;
        prefix = torn_prefix clear;
        clears = λ t rest. slot_clears seal P first from newest blob (dev.time old) (dev.time last) (torn_only clear t rest);
        cleared = λ t left. tt;
        settles = λ t. tt;
        length = tt;
        entries = torn_entries clear;
        faults = omega (arith, cut.faults, clear.faults);
        cause = λ f. rose_since _ _ _ cut.faults (clear.cause f);
      })

      -- and all of it settles
      module _ (m : ℕ) (clear : ClearsTorn dev seal P blob mid last first (not newest) torn (Ok m)) (new : D) (opened : dev.opened new ≡ dev.opened last) where
        settle_moments : {r : Result (Unit {0}) DevError} → Passes blob Settle r (dev.time last) (dev.time new) → (t : dev.Tells) (all : List ℕ) (a : Adopted seal P all first from newest behind torn (disk (dev.time old) blob)) → Sealing seal P all (first * P + from) blob (dev.time old) (dev.time new)
        settle_moments passes t all a = only_then (dev.time old) (dev.time last) (dev.time new) blob (Leaves seal P all (first * P + from)) (torn_moments clear t all a)
            (settle_any seal P all (first * P + from) a.σ pos (disk (dev.time old) blob).content blob (dev.time last) (torn_told clear t all a).done.0 passes)

        settle_prefix : {r : Result (Unit {0}) DevError} → Passes blob Settle r (dev.time last) (dev.time new) → dev.Tells → SparesPrefix (page_at P first) blob (dev.time old) (dev.time new)
        settle_prefix {r = r} passes t = prefix_settle (page_at P first) blob (dev.time old) (dev.time last) (dev.time new) r (torn_prefix clear t) passes

        settle_only : {r : Result (Unit {0}) DevError} → Passes blob Settle r (dev.time last) (dev.time new) → dev.Tells → StandsSettled (disk (dev.time old) blob) → Always (dev.time old) (dev.time new) (OnlyAt blob (disk (dev.time old)) (OnlySlot (slot_at P first (not newest))))
        settle_only {r = r} passes t rest = slot_settle (slot_at P first (not newest)) blob (dev.time old) (dev.time last) (dev.time new) r (torn_only clear t rest) passes

        settle_entries : NoReads blob (dev.opened old) (dev.opened new)
        settle_entries = no_reads_then blob (dev.opened old) (dev.opened last) (dev.opened new) (torn_entries clear) (no_reads_same blob (dev.opened last) (dev.opened new) opened (no_reads_open blob (dev.opened old) (dev.opened last) (torn_entries clear)))

        pub settle_failed : (r : Result ℕ DevError) (e : DevError) {x y : ℕ} → r ≡ Err e → Counted {T = Unit {0}} (Err e) (dev.faults last) (dev.faults new) x y → (dev.Tells → Passes {T = Unit {0}} blob Settle (Err e) (dev.time last) (dev.time new)) → Removes dev seal P blob old new first from newest behind torn r
        settle_failed r e is counts told = subst (Removes dev seal P blob old new first from newest behind torn) (sym is) (record {
          told = λ t all a. record { any_moment = settle_moments (told t) t all a; done = tt };
          wrote = λ t all same. record { alone = alone_on (torn_wrote clear t all same).alone (told t); done = tt };
          prefix = λ t. settle_prefix (told t) t;
          clears = λ t rest. slot_clears seal P first from newest blob (dev.time old) (dev.time new) (settle_only (told t) t rest);
          cleared = λ t left. tt;
          settles = λ t. tt;
          length = tt;
          entries = settle_entries;
          faults = omega (arith, cut.faults, clear.faults, counts.later);
          cause = λ f. rose_since _ _ _ (omega (arith, cut.faults, clear.faults)) (counts.cause (search (rules, f)));
        })

        pub removed : {v : Unit {0}} → dev.faults last ≤ dev.faults new → (dev.Tells → Passes {T = Unit {0}} blob Settle (Ok v) (dev.time last) (dev.time new)) → Removes dev seal P blob old new first from newest behind torn (Ok m)
        removed {v = v} faults told = record {
          told = λ t all a.
              let two = (torn_told clear t all a).done in
              record {
                any_moment = settle_moments (told t) t all a;
                done = settle_ready seal P all (first * P + from) a.σ pos (disk (dev.time old) blob).content blob (dev.time last) two.0 (pages_of first from) newest (told t)
                    (two.1.1 (page_at P (pages_of first from)) (λ e. omega (arith, far e)) (cut_told cut t all a).done.1.0) start
                    (all_clean seal P pos all first from newest behind torn begun (disk (dev.time old) blob) a (disk (dev.time last) blob).content two.0.content.covers
                    (λ more. two.1.0 (λ whole. (cut_told cut t all a).done.1.1 first (not newest) (omega (arith, pages_some first from more)) (a.clean whole more))))
                    (head_is seal P pos all first from newest behind torn begun (disk (dev.time old) blob) a);
              };
          wrote = λ t all same. record {
            alone = alone_on (torn_wrote clear t all same).alone (told t);
            done = settle_data P all (first * P + from) blob (dev.time last) (dev.time new) v (told t) (torn_wrote clear t all same).done;
          };
          prefix = λ t. settle_prefix (told t) t;
          clears = λ t rest. slot_clears seal P first from newest blob (dev.time old) (dev.time new) (settle_only (told t) t rest);
          cleared = λ t left. subst (IsCleared seal P first from newest)
              (sym (ap (λ (b : Blob). b.settled) (settled_is t) ∙ clear.content t ∙ ap (λ (l : List ℕ). cond torn (written l (slot_at P first (not newest)) no_slot) l) (cut.content t)))
              (both_cleared seal P first from newest (disk (dev.time old) blob).content behind torn left torn refl some);
          settles = λ t. settled_rest (disk (dev.time new) blob) _ (settled_is t);
          length = open_same blob (dev.opened last) (dev.opened new) m opened clear.length;
          entries = settle_entries;
          faults = omega (arith, cut.faults, clear.faults, faults);
          cause = λ f. absurd (cc f);
        }
          where
            settled_is : dev.Tells → disk (dev.time new) blob ≡ settled_at (disk (dev.time last) blob).content
            settled_is t = ok_blob blob Settle v (dev.time last) (dev.time new) (told t)
