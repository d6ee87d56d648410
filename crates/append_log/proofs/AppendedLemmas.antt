-- What stands while a record is appended, and what a crash leaves of it.
use Rattle.std.proofs.Common.{◌≡◌, ℕ, ◌+◌, ◌-◌, ◌<◌, ◌^◌, ◌≢◌, ◌≤◌, List, [], ◌++◌, length, sym, ◌∙◌, ap, subst, arith, cond, Bool, Ok}
use Rattle.blob_device.specs.Disk.{Key, Blob, Disk, settled_at}
use Rattle.blob_device.specs.Change.{Make, Write, Settle, written}
use Rattle.blob_device.specs.Timeline.{Timeline, disk, Passes, Always, OnlyAt}
use Rattle.blob_device.specs.Keeps.{Stays}
use Rattle.blob_device.specs.lemmas.Moments.{always_weaker, ok_blob}
use Rattle.blob_device.specs.lemmas.Bytes.{written_end}
use Rattle.blob_device.specs.lemmas.Stays.{stays_crash}
use Rattle.blob_device.specs.Opened.{Opened, OpenedList, entered, updated, with_len, PartlyGrown}
use Rattle.blob_device.specs.lemmas.Opened.{entered_other, updated_other}
use Rattle.append_log.specs.Appended.{Holds, LeavesFirst}
use Rattle.append_log.specs.lemmas.Appended.{holds_settled}

pub leaves : {a b : Timeline} {k : Key} {from : Disk} {kept : List ℕ} {most : ℕ} → Always a b (OnlyAt k from (Stays kept most)) → Always a b (OnlyAt k from (LeavesFirst kept most))
leaves {a = a} {b = b} {k = k} {from = from} {kept = kept} {most = most} always =
    always_weaker a b (OnlyAt k from (Stays kept most)) (OnlyAt k from (LeavesFirst kept most)) (λ d s. record { here = stays_crash kept most (d k) s.here; others = s.others }) always

-- a blob that holds its bytes stays so while at most n more are added
pub holds_stays : (n : ℕ) (b : Blob) → Holds b.content b → Stays b.content (length b.content + n) b
holds_stays n b h = record { keeps = h.kept; no_longer = record { now = omega arith; past = omega (arith, h.no_longer.past) } }

module _ {t0 t1 : Timeline} {k : Key} (kept bytes : List ℕ) (len : ℕ) (held : Holds kept (disk t0 k))
    (opening : Passes {T = ℕ} k Make (Ok len) t0 t1) (is : len ≡ length (disk t1 k).content) where
  same_content : (disk t1 k).content ≡ kept
  same_content = ap (λ (b : Blob). b.content) (ok_blob k Make len t0 t1 opening) ∙ ap (λ (v : Bool). cond v (disk t0 k).content []) held.kept.there ∙ held.content

  pub len_is : len ≡ length kept
  len_is = is ∙ ap length same_content

  pub added : {t2 t3 : Timeline} (u v : Unit {0}) → Passes k (Write len bytes) (Ok u) t1 t2 → Passes k Settle (Ok v) t2 t3 → Holds (kept ++ bytes) (disk t3 k)
  added {t2 = t2} {t3 = t3} u v writing syncing =
      let whole : (disk t2 k).content ≡ kept ++ bytes =
      ap (λ (b : Blob). b.content) (ok_blob k (Write len bytes) u t1 t2 writing)
      ∙ ap (λ (n : ℕ). written (disk t1 k).content n bytes) is ∙ written_end (disk t1 k).content bytes ∙ ap (λ (l : List ℕ). l ++ bytes) same_content in
      subst (Holds (kept ++ bytes)) (sym (ok_blob k Settle v t2 t3 syncing ∙ ap settled_at whole)) (holds_settled (kept ++ bytes))

-- no room in a u64
pub no_room : (len n m : ℕ) → len ≡ m → 2 ^ 64 - 1 - len < n → 2 ^ 64 ≤ m + n
no_room len n m is lt = omega (arith, is, lt)

-- the entries of other blobs after an append
pub others_opened : (first second third last : OpenedList) (k : Key) (n : ℕ) (f : Opened → Opened) → second ≡ entered first k n → third ≡ updated second k f → last ≡ third → (q : Key) → q ≢ k → last q ≡ first q
others_opened first second third last k n f a b c q other = ap (λ (o : OpenedList). o q) c ∙ updated_other third second k q f b other ∙ entered_other second first k q n a other

pub others_grown : (first second third : OpenedList) (k : Key) (n end : ℕ) → second ≡ entered first k n → PartlyGrown k end second third → (q : Key) → q ≢ k → third q ≡ first q
others_grown first second third k n end a part q other = updated_other third second k q (with_len part.len) part.is other ∙ entered_other second first k q n a other
