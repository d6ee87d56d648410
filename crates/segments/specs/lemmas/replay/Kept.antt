-- The bytes from which a replay gives items: the sealed prefix, or all of a flushed buffer.
use Rattle.std.proofs.Common.{◌≡◌, inl, inr, ℕ, ◌+◌, ◌*◌, ◌<◌, ◌≤◌, List, length, take, drop, refl, sym, ◌∙◌, ap, subst, arith, length-take, length-drop}
use Rattle.std.proofs.lemmas.Bool.{cases_lt}
use Rattle.sealed_pages.specs.lemmas.Reaching.{own_prefix}
use Rattle.sealed_pages.specs.lemmas.Unrecovered.{adopted_backed, prefix_short}
use Rattle.sealed_pages.specs.lemmas.adopted.Adopt.{best_length, get_or-data_from, length-data_from}
use Rattle.sealed_pages.specs.lemmas.cutting.Truncating.{holds_prefix, prefix_covers}
use Rattle.sealed_pages.specs.lemmas.looking.Read.{read_data}
use Rattle.sealed_pages.specs.lemmas.looking.Replay.{data_all}
use Rattle.sealed_pages.specs.lemmas.memory.Holding.{bytes_length}
use Rattle.sealed_pages.specs.lemmas.slots.SealedBytes.{covers_length}
use Rattle.std.proofs.lemmas.List.{get_or-take, get_or-drop}
use Rattle.blob_device.specs.Disk.{Blob}
use Rattle.sealed_pages.specs.Buffer.{Buffer, size_of, bytes_of, IsSealed}
use Rattle.sealed_pages.specs.Flushing.{Data}
use Rattle.sealed_pages.specs.Reads.{IsWanted, IsCovered, IsShort, needed}
use Rattle.sealed_pages.specs.SealedPrefix.{sealed_prefix, adopted_size, data_from, place}
use Rattle.sealed_pages.specs.Slots.{best_slot}
use Rattle.sealed_pages.specs.Unrecovered.{IsAdopted}
use Rattle.sealed_pages.specs.View.{View, view}
use Rattle.segments.specs.FixedItems.{item_at}

data_prefix : (P m n k : ℕ) (v : View) → k ≤ n → take k (data_from P v m n) ≡ data_from P v m k
data_prefix P m n k v le = read_data P m k v (take k (data_from P v m n)) (omega (arith, length-take k (data_from P v m n), length-data_from P v n m, le))
    (λ i lt. get_or-take k (data_from P v m n) i 0 lt ∙ get_or-data_from P v n m i (omega (arith, lt, le)))

-- bytes among data
pub range_data : (P at n all : ℕ) (v : View) → at + n ≤ all → take n (drop at (data_from P v 0 all)) ≡ data_from P v at n
range_data P at n all v fits =
    let whole = data_from P v 0 all in
    read_data P at n v (take n (drop at whole)) (omega (arith, length-take n (drop at whole), length-drop at whole, length-data_from P v all 0, fits))
    (λ i lt. get_or-take n (drop at whole) i 0 lt ∙ get_or-drop at whole i 0 ∙ get_or-data_from P v all 0 (at + i) (omega (arith, lt, fits))
    ∙ (let e : 0 + (at + i) ≡ at + i = omega arith in ap (λ (x : ℕ). v (place P x)) e))

module _ (seal : List ℕ → ℕ) (P : ℕ) (c : List ℕ) (pos : 1 ≤ P) where
  -- what is covered from the start on is sealed
  pub covered_length : (n : ℕ) → IsCovered seal P c 0 n → n ≤ length (sealed_prefix seal P c)
  covered_length n covered = covers_length seal P c n (best_slot seal P c) pos (λ k lt.
      let wanted : IsWanted P 0 n k = record { some = omega (arith, lt); low = omega (arith, pos); high = omega (arith, lt) } in
      omega (arith, best_length seal P c k, covered k wanted))

  -- the sealed prefix ends before a page that is not covered so far
  pub short_length : (m n k : ℕ) → IsShort seal P c m n k → length (sealed_prefix seal P c) < m + n
  short_length m n k short = elim (cases_lt (length (sealed_prefix seal P c)) (m + n)) [
    | inl lt ↦ lt
    | inr le ↦ absurd (omega (arith, short.short, prefix_covers seal P c k (needed P m n k) (omega (arith, short.wanted.high, pos)) (omega arith) (omega (arith, le, short.wanted.high))))
  ]

  pub prefix_data : sealed_prefix seal P c ≡ data_from P (view c) 0 (length (sealed_prefix seal P c))
  prefix_data =
      let own = own_prefix seal P c in
      own.is ∙ data_prefix P 0 (adopted_size seal P c) (length (sealed_prefix seal P c)) (view c) (omega (arith, own.no_longer, length-data_from P (view c) (adopted_size seal P c) 0))

  -- the bytes at hand
  pub range_kept : (kept : List ℕ) → kept ≡ data_from P (view c) 0 (length kept) → (n at : ℕ) (bytes : List ℕ) → bytes ≡ data_from P (view c) at (length bytes) → n ≤ length bytes → at + length bytes ≤ length kept
      → take n bytes ≡ take n (drop at kept)
  range_kept kept stands n at bytes is has fits =
      ap (take n) is ∙ data_prefix P at (length bytes) n (view c) has
      ∙ sym (range_data P at n (length kept) (view c) (omega (arith, has, fits)))
      ∙ ap (λ (l : List ℕ). take n (drop at l)) (sym stands)

  -- the item at hand
  pub item_kept : (kept : List ℕ) → kept ≡ data_from P (view c) 0 (length kept) → (size p at : ℕ) (bytes : List ℕ) → bytes ≡ data_from P (view c) at (length bytes) → at ≡ p * size → size ≤ length bytes → at + length bytes ≤ length kept
      → take size bytes ≡ item_at size kept p
  item_kept kept stands size p at bytes is here has fits = range_kept kept stands size at bytes is has fits ∙ ap (λ (m : ℕ). take size (drop m kept)) here

  -- with bytes behind them that are covered too
  pub covered_on : (at n : ℕ) → IsCovered seal P c 0 at → IsCovered seal P c at n → IsCovered seal P c 0 (at + n)
  covered_on at n before behind k wanted = elim (cases_lt at (k * P + P)) [
    | inl near ↦ elim (cases_lt (k * P) at) [
      | inl begun ↦ elim (cases_lt 0 n) [
        | inl some ↦ (let here = behind k (record { some = some; low = near; high = omega (arith, begun, some) }) in omega (arith, here))
        | inr none ↦ (let here = before k (record { some = omega (arith, begun); low = omega (arith, pos); high = omega (arith, begun) }) in omega (arith, here, none))
      ]
      | inr behind_it ↦ (let here = behind k (record { some = omega (arith, wanted.high, behind_it); low = near; high = omega (arith, wanted.high) }) in omega (arith, here))
    ]
    | inr far ↦ (let here = before k (record { some = omega (arith, far, pos); low = omega (arith, pos); high = omega (arith, far, pos) }) in omega (arith, here, far))
  ]

module _ (seal : List ℕ → ℕ) (u : Buffer) (b : Blob) (begun : u.from < u.page_size) where
  -- the bytes of a sealed buffer are its sealed prefix, once they are flushed
  pub sealed_flushed : IsSealed seal u b → u.from ≡ length u.tip → sealed_prefix seal u.page_size b.content ≡ bytes_of u b.content
  sealed_flushed sealed flushed = holds_prefix seal u (bytes_of u b.content) b begun sealed.holds flushed

  -- they stand in the blob, once they are flushed, also where the buffer is not sealed
  pub flushed_data : IsAdopted seal u b → u.from ≡ length u.tip → bytes_of u b.content ≡ data_from u.page_size (view b.content) 0 (length (bytes_of u b.content))
  flushed_data adopted flushed = sym (data_all u.page_size (length (bytes_of u b.content)) (bytes_of u b.content) b.content (omega (arith, begun))
      (subst (λ (n : ℕ). Data u.page_size (bytes_of u b.content) n (view b.content)) (omega (arith, flushed, bytes_length u b.content)) (adopted_backed seal u b adopted).flushed) refl)

  -- a buffer whose sealed prefix has as many bytes as the buffer is sealed
  pub sealed_by_length : IsAdopted seal u b → size_of u ≤ length (sealed_prefix seal u.page_size b.content) → IsSealed seal u b
  sealed_by_length (inl sealed) long = sealed
  sealed_by_length (inr un) long = absurd (omega (arith, long, prefix_short seal u b (omega (arith, begun)) un))
