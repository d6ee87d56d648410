-- A buffer after a flush, and after a sync.
use Rattle.std.proofs.Common.{◌≡◌, ◌≢◌, inl, inr, ℕ, Ok, ◌+◌, ◌*◌, ◌<◌, ◌≤◌, ◌||◌, not, eqb, Result, Bool, true, false, List, length, sym, ◌∙◌, ap, subst, arith}
use Rattle.std.proofs.lemmas.Bool.{cases_Bool, eq-eqb}
use Rattle.blob_device.specs.declared.error.DevError.{DevError}
use Rattle.blob_device.specs.Timeline.{Timeline, disk, Passes}
use Rattle.blob_device.specs.Change.{Settle}
use Rattle.blob_device.specs.Disk.{Key}
use Rattle.sealed_pages.specs.lemmas.adopted.Adopting.{adopted_kept, end_page}
use Rattle.sealed_pages.specs.lemmas.slots.PageCalls.{only_then}
use Rattle.sealed_pages.proofs.adopted.Keeping.{settle_any}
use Rattle.sealed_pages.proofs.memory.Holding.{bytes_is, data_less}
use Rattle.sealed_pages.proofs.slots.PageCalls.{synced_any, synced_ok}
use Rattle.sealed_pages.specs.Buffer.{Buffer, key_of, size_of, flushed_of, bytes_of, Holds, HasFlushed}
use Rattle.sealed_pages.specs.ChanceSeal.{Leaves, Sealing}
use Rattle.sealed_pages.specs.Flushing.{last_slot, Data, Ready}
use Rattle.sealed_pages.specs.View.{view, StandsAt}

pub flush_told : (seal : List ℕ → ℕ) (u v : Buffer) (n : ℕ) (all : List ℕ) (t0 t1 t2 : Timeline) → v ≡ record u { end = n; behind = false; torn = false } → Sealing seal u.page_size all u.settled (key_of u) t0 t1
    → Holds seal v all (disk t1 (key_of u)) → ((l : List ℕ) → Holds seal v l (disk t1 (key_of v)) → Sealing seal v.page_size l v.settled (key_of v) t1 t2) → Sealing seal u.page_size all u.settled (key_of u) t0 t2
flush_told seal u v n all t0 t1 t2 is first = subst (λ (x : Buffer). Holds seal x all (disk t1 (key_of u)) → ((l : List ℕ) → Holds seal x l (disk t1 (key_of x)) → Sealing seal x.page_size l x.settled (key_of x) t1 t2) → Sealing seal u.page_size all u.settled (key_of u) t0 t2) (sym is)
    (λ holds told. only_then t0 t1 t2 (key_of u) (Leaves seal u.page_size all u.settled) first (told all holds))

-- once all bytes are flushed
pub flushed_bytes : (r : Buffer) (P n : ℕ) (all content : List ℕ) → 0 < r.page_size → r.page_size ≡ P → size_of r ≡ n → Data P all n (view content) → StandsAt all (r.first * r.page_size) r.tip → length all ≡ n → bytes_of r content ≡ all
flushed_bytes r P n all content pos page size same at long =
    let own : Data r.page_size all n (view content) = subst (λ (p : ℕ). Data p all n (view content)) (sym page) same in
    bytes_is r all content pos (data_less r.page_size n (r.first * r.page_size) all (view content) (omega (arith, size)) own) at (long ∙ sym size)

pub flushed_backed : (r : Buffer) (P n : ℕ) (all content : List ℕ) → 0 < r.page_size → r.page_size ≡ P → size_of r ≡ n → Data P all n (view content) → StandsAt all (r.first * r.page_size) r.tip → length all ≡ n → r.from ≤ length r.tip → HasFlushed r content
flushed_backed r P n all content pos page size same at long within =
    let own : Data r.page_size all n (view content) = subst (λ (p : ℕ). Data p all n (view content)) (sym page) same in
    subst (λ (l : List ℕ). Data r.page_size l (flushed_of r) (view content)) (sym (flushed_bytes r P n all content pos page size same at long)) (data_less r.page_size n (flushed_of r) all (view content) (omega (arith, size, within)) own)

pub holds_settle : (seal : List ℕ → ℕ) (r : Buffer) (all : List ℕ) (key : Key) (t1 t2 : Timeline) (result : Result (Unit {0}) DevError) → r.from < r.page_size → Holds seal r all (disk t1 key) → Passes key Settle result t1 t2 → Sealing seal r.page_size all r.settled key t1 t2
holds_settle seal r all key t1 t2 result begun holds passes = let pos : 1 ≤ r.page_size = omega (arith, begun) in
    elim (cases_Bool (r.behind || r.torn)) [
      | inl left ↦ (let a = holds.state.adopted left in
          subst (λ (n : ℕ). Sealing seal r.page_size all n key t1 t2) (sym a.1)
          (settle_any seal r.page_size all (flushed_of r) a.0.σ pos (disk t1 key).content key t1 (adopted_kept seal r.page_size pos all r.first r.from r.newest r.behind r.torn begun (disk t1 key) a.0) passes))
      | inr clean ↦ synced_any seal r.page_size pos key all (flushed_of r) r.settled r.newest (holds.state.ready clean) passes
    ]

pub needs : (x y : ℕ) (r : Bool) → r ≡ not (eqb x y) → r ≡ true → x ≢ y
needs x y r is so e = cc (is, so, eq-eqb x y e)

-- a sync settles all that is flushed
pub holds_synced : (seal : List ℕ → ℕ) (r : Buffer) (all : List ℕ) (key : Key) (t1 t2 : Timeline) (v : Unit {0}) (end : ℕ) (slot : Bool) → r.from < r.page_size → r.settled ≢ flushed_of r → end ≡ flushed_of r
    → (0 < r.from → slot ≡ last_slot r.page_size end r.settled r.newest r.first) → Holds seal r all (disk t1 key) → Passes {T = Unit {0}} key Settle (Ok v) t1 t2 → Holds seal (record r { settled = end; newest = slot }) all (disk t2 key)
holds_synced seal r all key t1 t2 v end slot begun unsettled is pick holds passes = elim (cases_Bool (r.behind || r.torn)) [
  | inl left ↦ absurd (unsettled (holds.state.adopted left).1)
  | inr clean ↦ record {
    state = record {
      ready = λ e. subst (λ (n : ℕ). Ready seal r.page_size all (flushed_of r) n slot (disk t2 key)) (sym is) (synced_ok seal r.page_size (omega (arith, begun)) key all (flushed_of r) r.settled r.newest (holds.state.ready clean) passes slot picked);
      adopted = λ e. absurd (cc (e, clean));
    };
    tip_at = holds.tip_at;
    size = holds.size;
  }
]
  where
    picked : (k : ℕ) → k * r.page_size < flushed_of r → flushed_of r < k * r.page_size + r.page_size → slot ≡ last_slot r.page_size (flushed_of r) r.settled r.newest k
    picked k low high = let at = end_page r.page_size r.first r.from begun k low high in
        pick at.1 ∙ ap (λ (n : ℕ). last_slot r.page_size n r.settled r.newest r.first) is ∙ ap (λ (n : ℕ). last_slot r.page_size (flushed_of r) r.settled r.newest n) (sym at.0)
