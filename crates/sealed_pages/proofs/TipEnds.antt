-- A buffer whose tip is written: what the call owes, from what the writing of the pages says.
use Rattle.std.proofs.Common.{◌≡◌, ◌+◌, ◌-◌, ◌*◌, ◌/◌, ◌≤◌, ◌<◌, ◌^◌, ◌∙◌, ◌++◌, ◌||◌, ap, sym, subst, ℕ, Bool, false, List, length, take, drop, Result, Ok, Err, arith, length-drop}
use Rattle.std.specs.Result.{IsErr}
use Rattle.std.proofs.Math.Nat.{div-mul-le_self, lt-div-mul-add}
use Rattle.blob_device.specs.Counts.{Rose}
use Rattle.blob_device.specs.Disk.{Key}
use Rattle.blob_device.specs.declared.device.Device as device
use Rattle.blob_device.specs.declared.error.DevError.{DevError}
use Rattle.blob_device.specs.declared.error.DevError.TheVariants.{Fault}
use Rattle.sealed_pages.specs.Buffer.{Buffer, Fit, key_of, size_of, Holds, FlushesInto}
use Rattle.sealed_pages.specs.Cached.{full_pages}
use Rattle.sealed_pages.specs.Entries.{IsOpenAt}
use Rattle.sealed_pages.specs.Flushes.{WritesTip}
use Rattle.sealed_pages.specs.Flushing.{Ready}
use Rattle.sealed_pages.specs.PageWrites.{WritesPages}
use Rattle.sealed_pages.specs.SlotNames.{is_b}
use Rattle.sealed_pages.specs.Unrecovered.{blob_of}
use Rattle.sealed_pages.specs.View.{StandsAt}
use Rattle.sealed_pages.specs.declared.slot.Slot.{Slot}
use Rattle.sealed_pages.proofs.memory.Holding.{rest_far, rest_stands, pages_fit}
use Rattle.sealed_pages.proofs.cutting.Truncating.{as_of}

-- how many whole pages a tip of n bytes has
pub whole_pages : (P s n : ℕ) (tip : List ℕ) → s ≡ P → n ≡ length tip → n / s * P ≤ length tip
whole_pages P s n tip size len = omega (arith, div-mul-le_self n s, ap (λ (m : ℕ). n / s * m) size, len)

pub whole_count : (P s n : ℕ) (tip part : List ℕ) → s ≡ P → n ≡ length tip → part ≡ tip → length part / P ≡ n / s
whole_count P s n tip part size len same = (λ i. length (same i) / P) ∙ (λ i. sym len i / P) ∙ ap (λ (m : ℕ). n / m) (sym size)

pub whole_fit : (P first from s n : ℕ) (tip : List ℕ) → Fit P first from tip → first < 2 ^ 64 → s ≡ P → n ≡ length tip → first + n / s < 2 ^ 64
whole_fit P first from s n tip fit small size len = pages_fit P first from (n / s) tip fit small (whole_pages P s n tip size len)

-- What is left of a tip of which q full pages are let go.
pub record Rest (P first q : ℕ) (tip rest : List ℕ) : Type 0 where
  pub full : q * P ≤ length tip
  pub is : rest ≡ drop (q * P) tip
  pub far : first * P + length tip ≡ (first + q) * P + length rest
  pub short : length rest < P

pub rest_of : (P first s n : ℕ) (tip rest : List ℕ) → s ≡ P → 1 ≤ P → n ≡ length tip → rest ≡ drop (n / s * s) tip → Rest P first (n / s) tip rest
rest_of P first s n tip rest size pos len dropped =
    let full : n / s * P ≤ length tip = whole_pages P s n tip size len in
    let is : rest ≡ drop (n / s * P) tip = dropped ∙ ap (λ (m : ℕ). drop (n / s * m) tip) size in
    let near : n < n / s * s + s = lt-div-mul-add (omega (arith, size, pos)) in
    record {
      full = full;
      is = is;
      far = rest_far P first (n / s) tip rest full is;
      short = omega (arith, near, size, len, ap (λ (m : ℕ). n / s * m) size, ap length is, length-drop (n / s * P) tip);
    }

-- what the flush then leaves of a buffer
pub flushed_into : (u : Buffer) (q end n most : ℕ) (rest : List ℕ) (cache : List (ℕ × List ℕ)) → Rest u.page_size u.first q u.tip rest → n ≡ length rest → most ≡ u.cache_pages
    → cache ≡ take u.cache_pages (full_pages u.page_size u.first q u.tip ++ u.cache)
    → FlushesInto u (record u { end = end; first = u.first + q; tip = rest; from = n; cache_pages = most; cache = cache })
flushed_into u q end n most rest cache left len bound held =
    let more : u.first + q - u.first ≡ q = omega arith in
    record {
      same = λ i. record u { end = end; first = u.first + q; tip = rest; from = len i; cache_pages = bound i; cache = cache };
      size = sym left.far;
      tip = λ all at. rest_stands u.page_size u.first q u.tip rest all left.full left.is at;
      later = omega arith;
      long = omega (arith, left.full, ap (λ (m : ℕ). m * u.page_size) more);
      cache = held ∙ ap (λ (m : ℕ). take u.cache_pages (full_pages u.page_size u.first m u.tip ++ u.cache)) (sym more);
    }

-- the pages of a tip by other names of the blob, the page size and what is written
pub record Names (u : Buffer) (blob : Key) (P : ℕ) (tip : List ℕ) (settled : ℕ) (newest : Slot) (own : Slot) : Type 0 where
  pub key : blob ≡ key_of u
  pub size : P ≡ u.page_size
  pub bytes : tip ≡ u.tip
  pub len : settled ≡ u.settled
  pub slot : newest ≡ own
  pub newest_is : is_b own ≡ u.newest

module _ {D : Type 0} (dev : device.Ghosts D) (seal : List ℕ → ℕ) (u : Buffer) (clean : (u.behind || u.torn) ≡ false) {B : Type 0} (see : B → Buffer)
    (old new : D) {blob : Key} {P : ℕ} {tip : List ℕ} {settled : ℕ} {newest own : Slot} (names : Names u blob P tip settled newest own) where
  pages : (r : Result ℕ DevError) → WritesPages dev seal P blob old new u.first u.from tip settled (is_b newest) r → WritesPages dev seal u.page_size (key_of u) old new u.first u.from u.tip u.settled u.newest r
  pages r says = as_of (λ (k : Key) (p : ℕ). WritesPages dev seal p k old new u.first u.from u.tip u.settled u.newest r) names.key names.size
      (subst (λ (x : List ℕ × ℕ × Bool). WritesPages dev seal P blob old new u.first u.from x.0 x.1 x.2 r) (λ i. (names.bytes i, names.len i, (ap is_b names.slot ∙ names.newest_is) i)) says)

  -- the writing failed, or memory ran out behind it
  pub tip_failed : (x : Result ℕ DevError) (r : Result B DevError) → IsErr r → (r ≡ Err Fault → Rose (dev.faults old) (dev.faults new)) → WritesPages dev seal P blob old new u.first u.from tip settled (is_b newest) x → WritesTip dev seal u old new see r
  tip_failed x (Ok v) is cause says = absurd (cc is)
  tip_failed x (Err e) is cause says = let all_pages = pages x says in record {
    told = λ t all holds. (all_pages.told t all (holds.state.ready clean) holds.tip_at).any_moment;
    done = λ t all holds. tt;
    wrote = λ t all same at. record { alone = (all_pages.wrote t all same at).alone; done = tt };
    prefix = all_pages.prefix;
    stays = all_pages.stays;
    had = λ t had. tt;
    covers = λ t all same at more. tt;
    into = tt;
    «length» = tt;
    entries = all_pages.entries;
    faults = all_pages.faults;
    cause = cause;
  }

  -- it did not
  pub tip_written : (end : ℕ) (v : B) → (see v).end ≡ end → FlushesInto u (see v) → WritesPages dev seal P blob old new u.first u.from tip settled (is_b newest) (Ok end) → WritesTip dev seal u old new see (Ok v)
  tip_written end v ends into says = let all_pages = pages (Ok end) says in record {
    told = λ t all holds. (all_pages.told t all (holds.state.ready clean) holds.tip_at).any_moment;
    done = λ t all holds.
        let ready : Ready seal u.page_size all ((see v).first * (see v).page_size + length (see v).tip) u.settled u.newest (blob_of u (dev.time new))
        = subst (λ (n : ℕ). Ready seal u.page_size all n u.settled u.newest (blob_of u (dev.time new))) (sym into.size) (all_pages.told t all (holds.state.ready clean) holds.tip_at).done in
        subst (λ (x : Buffer). Holds seal x all (blob_of u (dev.time new))) (sym into.same) (record {
          state = record { ready = λ e. subst (λ (p : ℕ). Ready seal u.page_size all ((see v).first * p + length (see v).tip) u.settled u.newest (blob_of u (dev.time new))) (ap (λ (x : Buffer). x.page_size) into.same) ready; adopted = λ e. absurd (cc (e, clean)) };
          tip_at = subst (λ (p : ℕ). StandsAt all ((see v).first * p) (see v).tip) (ap (λ (x : Buffer). x.page_size) into.same) (into.tip all holds.tip_at);
          size = subst (λ (x : Buffer). length all ≡ size_of x) into.same (holds.size ∙ sym into.size);
        });
    wrote = λ t all same at. record { alone = (all_pages.wrote t all same at).alone; done = (all_pages.wrote t all same at).done };
    prefix = all_pages.prefix;
    stays = all_pages.stays;
    had = λ t had. all_pages.had t had;
    covers = λ t all same at more. all_pages.covers t all more same at;
    into = into;
    «length» = subst (λ (n : ℕ). IsOpenAt (dev.opened new) (key_of u) n) (sym ends) all_pages.«length»;
    entries = all_pages.entries;
    faults = all_pages.faults;
    cause = λ failed. absurd (cc failed);
  }
