-- A cut inside a page, from what its three steps promise.
use Rattle.std.proofs.Common.{◌≡◌, ℕ, ◌+◌, ◌*◌, ◌^◌, ◌<◌, ◌≤◌, min, not, Bool, List, Result, Ok, Err, length, take, drop, sym, ◌∙◌, ap, subst, arith}
use Rattle.blob_device.specs.Change.{written}
use Rattle.std.specs.Prelude.{OnOk}
use Rattle.blob_device.specs.Disk.{Key, Blob, settled_at}
use Rattle.blob_device.specs.Timeline.{disk}
use Rattle.blob_device.specs.declared.device.Device as device
use Rattle.blob_device.specs.declared.error.DevError.{DevError}
use Rattle.sealed_pages.specs.ChanceSeal.{Sealing}
use Rattle.sealed_pages.specs.Cuts.{CutsLater, AddsSlot, ClearsSlot, CutsInside}
use Rattle.sealed_pages.specs.Cutting.{StandsSettled}
use Rattle.sealed_pages.specs.Entries.{NoReads}
use Rattle.sealed_pages.specs.Flushing.{Alone, no_slot}
use Rattle.sealed_pages.specs.SealedPrefix.{sealed_prefix}
use Rattle.sealed_pages.specs.Slots.{page_length, best_slot, slot_bytes}
use Rattle.sealed_pages.specs.Unrecovered.{SparesPrefix}
use Rattle.sealed_pages.specs.View.{page_at, slot_at}
use Rattle.sealed_pages.specs.lemmas.Entries.{no_reads_then}
use Rattle.sealed_pages.proofs.Prefixes.{prefix_page, prefix_then}
use Rattle.sealed_pages.specs.lemmas.cutting.Calls.{sealing_less}
use Rattle.sealed_pages.specs.lemmas.cutting.Steps.{settled_rest}
use Rattle.sealed_pages.specs.lemmas.cutting.Truncating.{rose_since}
use Rattle.sealed_pages.specs.lemmas.slots.PageCalls.{alone_then}
use Rattle.sealed_pages.proofs.cutting.Steps.{last1, own1, covered1, page_is1, prefix1, inside1, last2, own2, prefix2, inside2, later_any, both_any}
use Rattle.blob_device.proofs.general.Numbers.{times_next}

-- what is promised of a slot, by another name
pub slot_as : {D : Type 0} {dev : device.Ghosts D} {seal : List ℕ → ℕ} {P : ℕ} {blob : Key} {old new : D} {page : ℕ} {bytes : List ℕ} {a b : Bool} {r : Result ℕ DevError} → a ≡ b → AddsSlot dev seal P blob old new page bytes a r → AddsSlot dev seal P blob old new page bytes b r
slot_as {dev = dev} {seal = seal} {P = P} {blob = blob} {old = old} {new = new} {page = page} {bytes = bytes} {r = r} is adds = subst (λ (x : Bool). AddsSlot dev seal P blob old new page bytes x r) is adds

-- a content whose page may be cut to these bytes
record Cuttable (seal : List ℕ → ℕ) (P page : ℕ) (bytes : List ℕ) (second : Bool) (c : List ℕ) : Type 0 where
  own : best_slot seal P c page ≡ second
  covered : length bytes ≤ page_length seal P c page
  page_is : bytes ≡ take (length bytes) (drop (page_at P page) c)
  inside : page * P + length bytes ≤ length (sealed_prefix seal P c)

module _ {D : Type 0} (dev : device.Ghosts D) (seal : List ℕ → ℕ) (P : ℕ) (blob : Key) (page : ℕ) (bytes : List ℕ) (second : Bool)
    (some : 0 < length bytes) (short : length bytes < P) where
  pos : 1 ≤ P
  pos = omega (arith, short)

  abbrev content : D → List ℕ
  content d = (disk (dev.time d) blob).content

  -- the moments between two states, over all bytes of the first
  abbrev Leaving : D → D → D → Type 0
  Leaving old a b = Sealing seal P (sealed_prefix seal P (content old)) (page * P + length bytes) blob (dev.time a) (dev.time b)

  -- the later pages are cut
  module _ (old mid : D) where
    cut_leaves : {r : Result ℕ DevError} → CutsLater dev seal P blob old mid (page + 1) r → dev.Tells → StandsSettled (disk (dev.time old) blob) → Cuttable seal P page bytes second (content old) → Leaving old old mid
    cut_leaves cut t rest a =
        sealing_less seal P (sealed_prefix seal P (content old)) (min ((page + 1) * P) (length (sealed_prefix seal P (content old)))) (page * P + length bytes) blob (dev.time old) (dev.time mid)
        (omega (arith, a.inside, short, times_next page P)) (cut.crashes t rest)

    pub cut_failed : (r : Result ℕ DevError) (e : DevError) → r ≡ Err e → CutsLater dev seal P blob old mid (page + 1) (Err e) → CutsInside dev seal P blob old mid page bytes second r
    cut_failed r e is cut = subst (CutsInside dev seal P blob old mid page bytes second) (sym is) (record {
      crashes = λ t rest own covered page_is inside. cut_leaves cut t rest (record { own = own; covered = covered; page_is = page_is; inside = inside });
      settles = λ t. tt;
      alone = cut.alone;
      prefix = λ t. prefix_page P page (page + 1) blob (dev.time old) (dev.time mid) (omega arith) (cut.prefix t);
      length = tt;
      entries = cut.entries;
      faults = cut.faults;
      cause = cut.cause;
    })

    -- then the new slot is written beside the old one
    module _ (n : ℕ) (cut : CutsLater dev seal P blob old mid (page + 1) (Ok n)) (last : D) (fits : (x : List ℕ) → seal x < 2 ^ 32) (small : P < 2 ^ 16) where
      add_leaves : {r : Result ℕ DevError} → AddsSlot dev seal P blob mid last page bytes (not second) r → dev.Tells → StandsSettled (disk (dev.time old) blob) → Cuttable seal P page bytes second (content old) → Leaving old old last
      add_leaves add t rest a =
          both_any seal P pos (content old) page second bytes fits small some short a.own a.covered a.page_is a.inside blob (dev.time old) (dev.time mid) (dev.time last) (cut_leaves cut t rest a)
          (later_any seal P pos (content old) page second bytes fits small some short a.own a.covered a.page_is a.inside (sealed_prefix seal P (content mid)) (length (sealed_prefix seal P (content mid))) blob (dev.time mid) (dev.time last)
          (prefix1 seal P pos (content old) page second bytes fits small some short a.own a.covered a.page_is a.inside (content mid) (cut.content t)) (inside1 seal P pos (content old) page second bytes fits small some short a.own a.covered a.page_is a.inside (content mid) (cut.content t))
          (add.crashes t (cut.rests t rest) (last1 seal P pos (content old) page second bytes fits small some short a.own a.covered a.page_is a.inside (content mid) (cut.content t)) (own1 seal P pos (content old) page second bytes fits small some short a.own a.covered a.page_is a.inside (content mid) (cut.content t)) (covered1 seal P pos (content old) page second bytes fits small some short a.own a.covered a.page_is a.inside (content mid) (cut.content t)) (page_is1 seal P pos (content old) page second bytes fits small some short a.own a.covered a.page_is a.inside (content mid) (cut.content t))))

      add_alone : {r : Result ℕ DevError} → AddsSlot dev seal P blob mid last page bytes (not second) r → dev.Tells → Alone blob (dev.time old) (dev.time last)
      add_alone add t = alone_then (dev.time old) (dev.time mid) (dev.time last) blob (cut.alone t) (add.alone t)

      add_prefix : {r : Result ℕ DevError} → AddsSlot dev seal P blob mid last page bytes (not second) r → dev.Tells → SparesPrefix (page_at P page) blob (dev.time old) (dev.time last)
      add_prefix add t = prefix_then (page_at P page) blob (dev.time old) (dev.time mid) (dev.time last) (prefix_page P page (page + 1) blob (dev.time old) (dev.time mid) (omega arith) (cut.prefix t)) (add.prefix t)

      add_entries : {r : Result ℕ DevError} → AddsSlot dev seal P blob mid last page bytes (not second) r → NoReads blob (dev.opened old) (dev.opened last)
      add_entries add = no_reads_then blob (dev.opened old) (dev.opened mid) (dev.opened last) cut.entries add.entries

      pub add_failed : (r : Result ℕ DevError) (e : DevError) → r ≡ Err e → AddsSlot dev seal P blob mid last page bytes (not second) (Err e) → CutsInside dev seal P blob old last page bytes second r
      add_failed r e is add = subst (CutsInside dev seal P blob old last page bytes second) (sym is) (record {
        crashes = λ t rest own covered page_is inside. add_leaves add t rest (record { own = own; covered = covered; page_is = page_is; inside = inside });
        settles = λ t. tt;
        alone = add_alone add;
        prefix = add_prefix add;
        length = tt;
        entries = add_entries add;
        faults = omega (arith, cut.faults, add.faults);
        cause = λ f. rose_since _ _ _ cut.faults (add.cause f);
      })

      -- and last the old slot is cleared
      module _ (m : ℕ) (add : AddsSlot dev seal P blob mid last page bytes (not second) (Ok m)) (new : D) (r : Result ℕ DevError) (clear : ClearsSlot dev seal P blob last new page second r) where
        both : dev.Tells → content last ≡ written (content mid) (slot_at P page (not second)) (slot_bytes seal P bytes)
        both t = ap (λ (b : Blob). b.content) (add.settles t)

        pub cleared : CutsInside dev seal P blob old new page bytes second r
        cleared = record {
          crashes = λ t rest own covered page_is inside.
              let a : Cuttable seal P page bytes second (content old) = record { own = own; covered = covered; page_is = page_is; inside = inside } in
              both_any seal P pos (content old) page second bytes fits small some short a.own a.covered a.page_is a.inside blob (dev.time old) (dev.time last) (dev.time new) (add_leaves add t rest a)
              (later_any seal P pos (content old) page second bytes fits small some short a.own a.covered a.page_is a.inside (sealed_prefix seal P (content last)) (page * P + length bytes) blob (dev.time last) (dev.time new)
              (prefix2 seal P pos (content old) page second bytes fits small some short a.own a.covered a.page_is a.inside (content mid) (cut.content t) (content last) (both t)) (omega arith)
              (clear.crashes t (length bytes) (settled_rest (disk (dev.time last) blob) _ (add.settles t)) (last2 seal P pos (content old) page second bytes fits small some short a.own a.covered a.page_is a.inside (content mid) (cut.content t) (content last) (both t)) (own2 seal P pos (content old) page second bytes fits small some short a.own a.covered a.page_is a.inside (content mid) (cut.content t) (content last) (both t)) some (inside2 seal P pos (content old) page second bytes fits small some short a.own a.covered a.page_is a.inside (content mid) (cut.content t) (content last) (both t))));
          settles = λ t. subst (λ (l : List ℕ). OnOk r (disk (dev.time new) blob ≡ settled_at (written l (slot_at P page second) no_slot)))
              (both t ∙ ap (λ (l : List ℕ). written l (slot_at P page (not second)) (slot_bytes seal P bytes)) (cut.content t)) (clear.settles t);
          alone = λ t. alone_then (dev.time old) (dev.time last) (dev.time new) blob (add_alone add t) (clear.alone t);
          prefix = λ t. prefix_then (page_at P page) blob (dev.time old) (dev.time last) (dev.time new) (add_prefix add t) (clear.prefix t);
          length = clear.length;
          entries = no_reads_then blob (dev.opened old) (dev.opened last) (dev.opened new) (add_entries add) clear.entries;
          faults = omega (arith, cut.faults, add.faults, clear.faults);
          cause = λ f. rose_since _ _ _ (omega (arith, cut.faults, add.faults)) (clear.cause f);
        }
