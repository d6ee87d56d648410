-- Runs of the calls by which pages are flushed, one after the other, and calls in another spelling.
use Rattle.std.proofs.Common.{◌≡◌, ℕ, ◌+◌, ◌-◌, ◌*◌, ◌<◌, ◌≤◌, Bool, cond, List, length, get_or, take, drop, Result, Ok, Err, OnOk, refl, sym, ◌∙◌, ap, subst, arith, length-drop, length-take}
use Rattle.std.specs.Result.{IsErr}
use Rattle.std.proofs.lemmas.List.{get_or-drop, get_or-take, take_all}
use Rattle.std.proofs.lemmas.Bool.{eq-eqb}
use Rattle.blob_device.specs.declared.error.DevError.{DevError}
use Rattle.blob_device.specs.Disk.{Key, Blob, Disk, settled_at}
use Rattle.blob_device.specs.Change.{Change, Write, Settle, written}
use Rattle.blob_device.specs.Timeline.{Timeline, disk, Passes, Always, OnlyAt}
use Rattle.blob_device.specs.lemmas.Moments.{only_start, only_on, ok_blob}
use Rattle.sealed_pages.specs.ChanceSeal.{Leaves}
use Rattle.sealed_pages.specs.Flushing.{next_slot, last_slot, Data, Sound, Held, Stands, Ready, PageFlushed, Alone, Wrote}
use Rattle.sealed_pages.specs.Slots.{slot_bytes}
use Rattle.sealed_pages.specs.View.{view, page_at, slot_at, StandsAt}
use Rattle.blob_device.specs.lemmas.Guards.{sealed_on, sealed_start}
use Rattle.sealed_pages.specs.lemmas.Had.{had_settled}
use Rattle.sealed_pages.specs.lemmas.slots.SealedBytes.{stands_leaves}
use Rattle.sealed_pages.specs.lemmas.slots.SlotSteps.{length-slot_bytes, slot_data_kept, stands_settled}
use Rattle.sealed_pages.specs.lemmas.slots.Steps.{data_same, tidy_sound}
use Rattle.sealed_pages.specs.lemmas.slots.PageCalls.{alone_then, only_then, only_weaker, was}

-- the same call, its place and bytes spelled otherwise
pub passes_as : {T : Type 0} {key : Key} {at x : ℕ} {chunk l : List ℕ} {r : Result T DevError} {t0 t1 : Timeline} → at ≡ x → chunk ≡ l → Passes key (Write at chunk) r t0 t1 → Passes key (Write x l) r t0 t1
passes_as {key = key} {r = r} {t0 = t0} {t1 = t1} e f passes = subst (λ (p : ℕ × List ℕ). Passes key (Write p.0 p.1) r t0 t1) (λ t. (e t, f t)) passes

pub rest_whole : (f : ℕ) (page : List ℕ) → take (length page - f) (drop f page) ≡ drop f page
rest_whole f page = take_all (length page - f) (drop f page) (omega (arith, length-drop f page))

pub no_ok : {T E : Type 0} (Q : Type 0) (r : Result T E) → IsErr r → OnOk r Q
no_ok Q (Ok v) is = absurd (cc is)
no_ok Q (Err e) is = tt

module _ (seal : List ℕ → ℕ) (P : ℕ) (pos : 1 ≤ P) (key : Key) where
  pub ready_leaves : (bytes : List ℕ) (F L : ℕ) (newest : Bool) (b : Blob) → Ready seal P bytes F L newest b → Leaves seal P bytes L b
  ready_leaves bytes F L newest b ready = stands_leaves seal P ready.w L ready.σ bytes b pos ready.settled ready.stands

  pub flush_start : (n : ℕ) (bytes : List ℕ) (F L : ℕ) (newest : Bool) (t : Timeline) → Ready seal P bytes F L newest (disk t key) → PageFlushed seal P {T = ℕ} {E = DevError} bytes F L newest key (Ok n) t t
  flush_start n bytes F L newest t ready = record { any_moment = only_start t key (Leaves seal P bytes L) (ready_leaves bytes F L newest (disk t key) ready); done = ready }

  pub flush_then : (n : ℕ) (bytes : List ℕ) (F G L : ℕ) (newest : Bool) (r : Result ℕ DevError) (a b c : Timeline) → PageFlushed seal P {T = ℕ} {E = DevError} bytes F L newest key (Ok n) a b
      → PageFlushed seal P {T = ℕ} {E = DevError} bytes G L newest key r b c → PageFlushed seal P {T = ℕ} {E = DevError} bytes G L newest key r a c
  flush_then n bytes F G L newest r a b c first second = record { any_moment = only_then a b c key (Leaves seal P bytes L) first.any_moment second.any_moment; done = second.done }

-- a part of what stands in a list
pub part_stands : (all : List ℕ) (start at n x : ℕ) (tip : List ℕ) → StandsAt all start tip → at + n ≤ length tip → x ≡ start + at → StandsAt all x (take n (drop at tip))
part_stands all start at n x tip stands fits is = record {
  room = omega (arith, stands.room, length-part, is, fits);
  same = λ i lt. get_or-take n (drop at tip) i 0 (omega (arith, lt, length-part)) ∙ get_or-drop at tip i 0 ∙ stands.same (at + i) (omega (arith, lt, length-part, fits))
      ∙ (let e : start + (at + i) ≡ x + i = omega (arith, is) in ap (λ (j : ℕ). get_or all j 0) e);
}
  where
    length-part : length (take n (drop at tip)) ≡ n
    length-part = omega (arith, length-take n (drop at tip), length-drop at tip, fits)

module _ (seal : List ℕ → ℕ) (P : ℕ) (pos : 1 ≤ P) (key : Key) (bytes : List ℕ) (F L : ℕ) (newest : Bool) where
  pub ready_synced : (b : Blob) (slot : Bool) → Ready seal P bytes F L newest b → ((k : ℕ) → k * P < F → F < k * P + P → slot ≡ last_slot P F L newest k) → Ready seal P bytes F F slot (settled_at b.content)
  ready_synced b slot ready pick = record {
    w = b.content;
    σ = ready.τ;
    τ = ready.τ;
    stands = stands_settled seal P bytes F ready.τ b.content pos ready.flushed;
    settled = ready.flushed.covers;
    flushed = ready.flushed;
    order = omega arith;
    rest = λ e. refl;
    had = had_settled b.content;
    last = λ k low high. ready.head k low high ∙ sym (pick k low high);
    head = λ k low high. ready.head k low high ∙ sym (pick k low high) ∙ sym (ap (λ (t : Bool). cond t slot (next_slot P F slot k)) (eq-eqb F F refl));
  }

  pub synced_any : {r : Result (Unit {0}) DevError} {t0 t1 : Timeline} → Ready seal P bytes F L newest (disk t0 key) → Passes key Settle r t0 t1 → Always t0 t1 (OnlyAt key (disk t0) (Leaves seal P bytes L))
  synced_any {t0 = t0} {t1 = t1} ready passes = only_weaker t0 t1 key (disk t0) (Stands seal P bytes ready.w L ready.σ) (Leaves seal P bytes L)
      (λ x stands. stands_leaves seal P ready.w L ready.σ bytes x pos ready.settled stands)
      (sealed_on (sealed_start t0 key (Held seal P ready.w L ready.σ) (view ready.w) (Sound seal P bytes) ready.stands) passes tt
      (tidy_sound seal P bytes F (disk t0 key).content ready.flushed.fits ready.flushed.quiet ready.flushed.same))

  pub synced_ok : {v : Unit {0}} {t0 t1 : Timeline} → Ready seal P bytes F L newest (disk t0 key) → Passes {T = Unit {0}} key Settle (Ok v) t0 t1 → (slot : Bool) → ((k : ℕ) → k * P < F → F < k * P + P → slot ≡ last_slot P F L newest k) → Ready seal P bytes F F slot (disk t1 key)
  synced_ok {v = v} {t0 = t0} {t1 = t1} ready passes slot pick = subst (Ready seal P bytes F F slot) (sym (ok_blob key Settle v t0 t1 passes)) (ready_synced (disk t0 key) slot ready pick)

-- The calls on one blob, whatever it holds.
pub alone_start : (t : Timeline) (key : Key) → Alone key t t
alone_start t key = only_start t key (λ b. Unit {0}) tt

pub alone_on : {T : Type 0} {a b c : Timeline} {key : Key} {from : Disk} {change : Change} {r : Result T DevError} → Always a b (OnlyAt key from (λ x. Unit {0})) → Passes key change r b c → Always a c (OnlyAt key from (λ x. Unit {0}))
alone_on {a = a} {b = b} {c = c} {key = key} {from = from} {change = change} {r = r} always passes = only_on a b c key from (λ x. Unit {0}) change r always passes tt tt

module _ (seal : List ℕ → ℕ) (P : ℕ) (bytes : List ℕ) (key : Key) (t0 : Timeline) (k f : ℕ) (page : List ℕ) (b : Bool) where
  pub page_wrote : {v u : Unit {0}} {t1 t2 : Timeline} → f < length page → length page ≤ P → StandsAt bytes (k * P) page → Data P bytes (k * P + f) (view (disk t0 key).content)
      → Passes {T = Unit {0}} key (Write (page_at P k + f) (drop f page)) (Ok v) t0 t1 → Passes {T = Unit {0}} key (Write (slot_at P k b) (slot_bytes seal P page)) (Ok u) t1 t2 → Data P bytes (k * P + length page) (view (disk t2 key).content)
  page_wrote {v = v} {u = u} {t1 = t1} {t2 = t2} new size at was first second =
      subst (λ (c : List ℕ). Data P bytes (k * P + length page) (view c)) (sym content2) (subst (λ (n : ℕ). Data P bytes n (view (written (written (disk t0 key).content (page_at P k + f) (drop f page)) (slot_at P k b) (slot_bytes seal P page)))) far now)
    where
      short : f < P
      short = omega (arith, new, size)

      chunk_is : (i : ℕ) → i < length (drop f page) → get_or (drop f page) i 0 ≡ get_or bytes (k * P + f + i) 0
      chunk_is i lt = get_or-drop f page i 0 ∙ at.same (f + i) (omega (arith, lt, length-drop f page)) ∙ (let e : k * P + (f + i) ≡ k * P + f + i = omega arith in ap (λ (j : ℕ). get_or bytes j 0) e)

      data1 : Data P bytes (k * P + f + length (drop f page)) (view (written (disk t0 key).content (page_at P k + f) (drop f page)))
      data1 = data_same seal P bytes (k * P + f) (disk t0 key).content k f (page_at P k + f) (drop f page) refl short refl (omega (arith, length-drop f page, new, size)) was chunk_is

      now : Data P bytes (k * P + f + length (drop f page)) (view (written (written (disk t0 key).content (page_at P k + f) (drop f page)) (slot_at P k b) (slot_bytes seal P page)))
      now = slot_data_kept seal P (written (disk t0 key).content (page_at P k + f) (drop f page)) k b (slot_bytes seal P page) (length-slot_bytes seal P page) bytes (k * P + f + length (drop f page)) data1

      far : k * P + f + length (drop f page) ≡ k * P + length page
      far = omega (arith, length-drop f page, new)

      content2 : (disk t2 key).content ≡ written (written (disk t0 key).content (page_at P k + f) (drop f page)) (slot_at P k b) (slot_bytes seal P page)
      content2 = ap (λ (x : Blob). x.content) (ok_blob key (Write (slot_at P k b) (slot_bytes seal P page)) u t1 t2 second)
          ∙ ap (λ (c : List ℕ). written c (slot_at P k b) (slot_bytes seal P page)) (ap (λ (x : Blob). x.content) (ok_blob key (Write (page_at P k + f) (drop f page)) v t0 t1 first))

pub wrote_start : (P n : ℕ) (bytes : List ℕ) (F : ℕ) (key : Key) (t : Timeline) → Data P bytes F (view (disk t key).content) → Wrote {T = ℕ} {E = DevError} P bytes F key (Ok n) t t
wrote_start P n bytes F key t was = record { alone = alone_start t key; done = was }

pub wrote_then : (P n : ℕ) (bytes : List ℕ) (F G : ℕ) (key : Key) (r : Result ℕ DevError) (a b c : Timeline) → Wrote {T = ℕ} {E = DevError} P bytes F key (Ok n) a b → Wrote {T = ℕ} {E = DevError} P bytes G key r b c → Wrote {T = ℕ} {E = DevError} P bytes G key r a c
wrote_then P n bytes F G key r a b c first second = record { alone = alone_then a b c key first.alone second.alone; done = second.done }

-- whatever number is answered
pub flushed_as : {seal : List ℕ → ℕ} {P : ℕ} {bytes : List ℕ} {G L : ℕ} {newest : Bool} {key : Key} {old new : Timeline} (n m : ℕ) → PageFlushed seal P {T = ℕ} {E = DevError} bytes G L newest key (Ok n) old new → PageFlushed seal P {T = ℕ} {E = DevError} bytes G L newest key (Ok m) old new
flushed_as n m flushed = record { any_moment = flushed.any_moment; done = flushed.done }

pub wrote_as : {P : ℕ} {bytes : List ℕ} {G : ℕ} {key : Key} {old new : Timeline} (n m : ℕ) → Wrote {T = ℕ} {E = DevError} P bytes G key (Ok n) old new → Wrote {T = ℕ} {E = DevError} P bytes G key (Ok m) old new
wrote_as n m wrote = record { alone = wrote.alone; done = wrote.done }
