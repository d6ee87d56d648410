-- A buffer whose blob is cleared of what a crash left: what the call owes, from what the removal says.
use Rattle.std.proofs.Common.{◌≡◌, ◌+◌, ◌*◌, ◌<◌, ◌||◌, ◌∙◌, ap, sym, subst, refl, ℕ, Bool, true, false, List, Result, Ok, Err, arith}
use Rattle.blob_device.specs.Disk.{Key}
use Rattle.blob_device.specs.declared.device.Device as device
use Rattle.blob_device.specs.declared.error.DevError.{DevError}
use Rattle.blob_device.specs.declared.error.DevError.TheVariants.{Fault}
use Rattle.sealed_pages.specs.Buffer.{Buffer, key_of, Holds}
use Rattle.sealed_pages.specs.ChanceSeal.{Sealing}
use Rattle.sealed_pages.specs.Entries.{IsOpenAt}
use Rattle.sealed_pages.specs.Flushes.{Repairs}
use Rattle.sealed_pages.specs.Flushing.{Ready}
use Rattle.sealed_pages.specs.Removals.{Removes}
use Rattle.sealed_pages.specs.Unrecovered.{blob_of}
use Rattle.sealed_pages.specs.View.{page_at}
use Rattle.sealed_pages.proofs.adopted.Clearing.{clears_start, rest_cleared}
use Rattle.sealed_pages.specs.lemmas.Entries.{no_reads_start, open_some}
use Rattle.sealed_pages.specs.lemmas.Had.{had_rest}
use Rattle.sealed_pages.specs.lemmas.Prefixes.{prefix_start}
use Rattle.sealed_pages.specs.lemmas.memory.Holding.{holds_start}
use Rattle.sealed_pages.proofs.memory.Holding.{state_clean}
use Rattle.sealed_pages.proofs.slots.PageCalls.{alone_start}
use Rattle.sealed_pages.proofs.cutting.Truncating.{as_of}

first_false : (x y : Bool) → (x || y) ≡ false → x ≡ false
first_false false y none = refl
first_false true y none = absurd (cc none)

second_false : (x y : Bool) → (x || y) ≡ false → y ≡ false
second_false false y none = none
second_false true y none = absurd (cc none)

module _ {D : Type 0} (dev : device.Ghosts D) (seal : List ℕ → ℕ) (u : Buffer) {B : Type 0} (see : B → Buffer) where
  -- nothing is left
  pub nothing_left : (old : D) (v : B) → see v ≡ u → u.from < u.page_size → (u.behind || u.torn) ≡ false → IsOpenAt (dev.opened old) (key_of u) u.end → Repairs dev seal u old old see (Ok v)
  nothing_left old v is begun none open_ = record {
    told = λ t all holds. holds_start seal u all (key_of u) (dev.time old) begun holds;
    done = λ t all holds. subst (λ (x : Buffer). Holds seal x all (blob_of u (dev.time old))) (sym is) holds;
    wrote = λ t all same. record { alone = alone_start (dev.time old) (key_of u); done = same };
    prefix = λ t. prefix_start (page_at u.page_size u.first) (key_of u) (dev.time old);
    clears = λ t rest. clears_start seal u.page_size u.first u.from u.newest (key_of u) (dev.time old) rest;
    cleared = λ t rest left. rest_cleared seal u.page_size u.first u.from u.newest (blob_of u (dev.time old)) u.behind u.torn left rest behind_none torn_none;
    settles = λ t left. absurd (cc (left, none));
    had = λ t had. had;
    same = is ∙ same_as ∙ ap (λ (x : Buffer). record u { end = x.end; behind = false; torn = false }) (sym is);
    «length» = subst (λ (x : Buffer). IsOpenAt (dev.opened old) (key_of u) x.end) (sym is) open_;
    entries = no_reads_start (dev.opened old) (key_of u) (open_some (dev.opened old) (key_of u) u.end open_);
    faults = omega arith;
    cause = λ failed. absurd (cc failed);
  }
    where
      behind_none : u.behind ≡ false
      behind_none = first_false u.behind u.torn none

      torn_none : u.torn ≡ false
      torn_none = second_false u.behind u.torn none

      same_as : u ≡ record u { behind = false; torn = false }
      same_as i = record u { behind = behind_none i; torn = torn_none i }

  -- something is, and it is removed from this opened blob, which is the buffer's
  module _ (left : (u.behind || u.torn) ≡ true) (old new : D) (blob : Key) (P : ℕ) (key : blob ≡ key_of u) (size : P ≡ u.page_size) where
    -- what the removal says of the buffer's blob
    removal : (r : Result ℕ DevError) → Removes dev seal P blob old new u.first u.from u.newest u.behind u.torn r → Removes dev seal u.page_size (key_of u) old new u.first u.from u.newest u.behind u.torn r
    removal r gone = as_of (λ (k : Key) (p : ℕ). Removes dev seal p k old new u.first u.from u.newest u.behind u.torn r) key size gone

    told_at : (r : Result ℕ DevError) → Removes dev seal u.page_size (key_of u) old new u.first u.from u.newest u.behind u.torn r → dev.Tells → (all : List ℕ) → Holds seal u all (blob_of u (dev.time old))
        → Sealing seal u.page_size all u.settled (key_of u) (dev.time old) (dev.time new)
    told_at r gone t all holds = let a = holds.state.adopted left in subst (λ (n : ℕ). Sealing seal u.page_size all n (key_of u) (dev.time old) (dev.time new)) (sym a.1) (gone.told t all a.0).any_moment

    pub removal_failed : (e : DevError) (r : Result B DevError) → r ≡ Err e → Removes dev seal P blob old new u.first u.from u.newest u.behind u.torn (Err e) → Repairs dev seal u old new see r
    removal_failed e r is says = let gone = removal (Err e) says in subst (λ (x : Result B DevError). Repairs dev seal u old new see x) (sym is) (record {
      told = told_at (Err e) gone;
      done = λ t all holds. tt;
      wrote = λ t all same. record { alone = (gone.wrote t all same).alone; done = tt };
      prefix = gone.prefix;
      clears = gone.clears;
      cleared = λ t rest was. tt;
      settles = λ t left. tt;
      had = λ t had. tt;
      same = tt;
      «length» = tt;
      entries = gone.entries;
      faults = gone.faults;
      cause = λ fault. (let e_is : e ≡ Fault = cc fault in gone.cause (ap Err e_is));
    })

    pub removal_done : (end : ℕ) (v : B) → see v ≡ record u { end = end; behind = false; torn = false } → Removes dev seal P blob old new u.first u.from u.newest u.behind u.torn (Ok end) → Repairs dev seal u old new see (Ok v)
    removal_done end v is says = let gone = removal (Ok end) says in record {
      told = told_at (Ok end) gone;
      done = λ t all holds. (let a = holds.state.adopted left in subst (λ (x : Buffer). Holds seal x all (blob_of u (dev.time new))) (sym is) (record {
        state = state_clean seal u.page_size all u.first u.from u.settled u.newest (blob_of u (dev.time new))
            (subst (λ (n : ℕ). Ready seal u.page_size all (u.first * u.page_size + u.from) n u.newest (blob_of u (dev.time new))) (sym a.1) (gone.told t all a.0).done);
        tip_at = holds.tip_at;
        size = holds.size;
      }));
      wrote = λ t all same. record { alone = (gone.wrote t all same).alone; done = (gone.wrote t all same).done };
      prefix = gone.prefix;
      clears = gone.clears;
      cleared = λ t rest was. gone.cleared t was;
      settles = λ t left. gone.settles t;
      had = λ t had. had_rest (blob_of u (dev.time new)) (gone.settles t);
      same = is ∙ ap (λ (n : ℕ). record u { end = n; behind = false; torn = false }) (sym (ap (λ (x : Buffer). x.end) is));
      «length» = subst (λ (n : ℕ). IsOpenAt (dev.opened new) (key_of u) n) (sym (ap (λ (x : Buffer). x.end) is)) gone.«length»;
      entries = gone.entries;
      faults = gone.faults;
      cause = λ failed. absurd (cc failed);
    }
