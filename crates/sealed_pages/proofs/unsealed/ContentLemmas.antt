-- What calls on one blob add to the contents that it has had since it settled.
use Rattle.std.proofs.Common.{◌≡◌, ◌⊎◌, inl, inr, ℕ, ◌-◌, ◌<◌, ◌≤◌, ◌&&◌, min, leb, Bool, true, List, [], ◌∷◌, ◌++◌, length, take, Result, refl, sym, ◌∙◌, ap, subst, arith, length-take}
use Rattle.std.specs.List.{AllByRecursion, Contains}
use Rattle.std.proofs.lemmas.Bool.{cases_lt, eq-eqb, le-leb}
use Rattle.std.proofs.lemmas.List.{take_all}
use Rattle.std.proofs.lemmas.List.Elements.{recursion_from_All, All-contains_itself}
use Rattle.blob_device.specs.declared.error.DevError.{DevError}
use Rattle.blob_device.specs.Disk.{Key, Blob, past}
use Rattle.blob_device.specs.Change.{Write, Resize, Settle, during, FailedTo, written, resized}
use Rattle.blob_device.specs.Timeline.{Timeline, disk, Passes}
use Rattle.blob_device.specs.lemmas.Moments.{always_start, always_then}
use Rattle.sealed_pages.specs.Contents.{AllSince, KeepsAll, AddsOnly}
use Rattle.sealed_pages.specs.unsealed.Writing.{WriteBuffer, blob_key, bytes_of, size_of, is_idle, short_run}
use Rattle.sealed_pages.proofs.WriteLemmas.{written_cut}
use Rattle.sealed_pages.specs.lemmas.unsealed.Writing.{idle_bytes}
use Rattle.blob_device.specs.Lengths.{length-written}
use Rattle.blob_device.proofs.general.Lists.{all_push}
use Rattle.sealed_pages.specs.lemmas.unsealed.Content.{adds_keep, all_among, all_left, all_right, keeps_call, keeps_now}

-- It is enough that each test which the contents before and those added pass is kept.
adds_of : (made : List (List ℕ)) (k : Key) (t0 t1 : Timeline) → ((Q : List ℕ → Type 0) → AllSince Q (disk t0 k) → AllByRecursion Q made → KeepsAll Q k t0 t1) → AddsOnly made k t0 t1
adds_of made k t0 t1 keeps =
    let all : List (List ℕ) = past (disk t0 k) ++ made in
    let each : AllByRecursion (Contains all) all = recursion_from_All (Contains all) all (All-contains_itself all) in
    keeps (Contains all) (all_left (Contains all) (past (disk t0 k)) made each) (all_right (Contains all) (past (disk t0 k)) made each)

pub adds_start : (made : List (List ℕ)) (k : Key) (t : Timeline) → AddsOnly made k t t
adds_start made k t = adds_of made k t t (λ Q had new. always_start t (λ d. AllSince Q (d k)) had)

-- one call more, which adds a content among these
pub adds_on : (made : List (List ℕ)) (x : List ℕ) (k : Key) (t0 t1 t2 : Timeline) → Contains made x → AddsOnly made k t0 t1 → AddsOnly (x ∷ []) k t1 t2 → AddsOnly made k t0 t2
adds_on made x k t0 t1 t2 among adds more = adds_of made k t0 t2 both
  where
    both : (Q : List ℕ → Type 0) → AllSince Q (disk t0 k) → AllByRecursion Q made → KeepsAll Q k t0 t2
    both Q had new =
        let then : KeepsAll Q k t0 t1 = adds_keep Q made k t0 t1 had new adds in
        always_then t0 t1 t2 (λ d. AllSince Q (d k)) then (adds_keep Q (x ∷ []) k t1 t2 (keeps_now Q k t0 t1 then) (all_among Q made (x ∷ []) new (among, tt)) more)

pub adds_one : (made : List (List ℕ)) (x : List ℕ) (k : Key) (t0 t1 : Timeline) → Contains made x → AddsOnly (x ∷ []) k t0 t1 → AddsOnly made k t0 t1
adds_one made x k t0 t1 among adds = adds_on made x k t0 t0 t1 among (adds_start made k t0) adds

module _ {T : Type 0} (k : Key) (t0 t1 : Timeline) (r : Result T DevError) where
  pub adds_write : (at : ℕ) (bytes : List ℕ) → Passes k (Write at bytes) r t0 t1 → AddsOnly (written (disk t0 k).content at bytes ∷ []) k t0 t1
  adds_write at bytes passes = adds_of (written (disk t0 k).content at bytes ∷ []) k t0 t1 keeps
    where
      keeps : (Q : List ℕ → Type 0) → AllSince Q (disk t0 k) → AllByRecursion Q (written (disk t0 k).content at bytes ∷ []) → KeepsAll Q k t0 t1
      keeps Q had new =
          let more : AllSince Q (during (Write at bytes) (disk t0 k)) = (had.0, all_push Q (disk t0 k).since (written (disk t0 k).content at bytes) had.1 new.0) in
          keeps_call Q k t0 t1 (Write at bytes) r passes had more more (λ b part. subst (AllSince Q) (sym part.2) more)

  pub adds_resize : (n : ℕ) → Passes k (Resize n) r t0 t1 → AddsOnly (resized (disk t0 k).content n ∷ []) k t0 t1
  adds_resize n passes = adds_of (resized (disk t0 k).content n ∷ []) k t0 t1 keeps
    where
      failed : (Q : List ℕ → Type 0) → AllSince Q (during (Resize n) (disk t0 k)) → (b : Blob) → FailedTo (Resize n) (disk t0 k) b → AllSince Q b
      failed Q more b (inl is) = subst (AllSince Q) (sym is) more
      failed Q more b (inr is) = subst (AllSince Q) (sym is) more

      keeps : (Q : List ℕ → Type 0) → AllSince Q (disk t0 k) → AllByRecursion Q (resized (disk t0 k).content n ∷ []) → KeepsAll Q k t0 t1
      keeps Q had new =
          let more : AllSince Q (during (Resize n) (disk t0 k)) = (had.0, all_push Q (disk t0 k).since (resized (disk t0 k).content n) had.1 new.0) in
          keeps_call Q k t0 t1 (Resize n) r passes had more more (failed Q more)

  pub adds_settle : Passes k Settle r t0 t1 → AddsOnly ((disk t0 k).content ∷ []) k t0 t1
  adds_settle passes = adds_of ((disk t0 k).content ∷ []) k t0 t1 (λ Q had new. keeps_call Q k t0 t1 Settle r passes had had (new.0, tt) (λ b is. subst (AllSince Q) (sym is) had))

-- a flush and a sync: u is the buffer at the start, v the one after the flush
pub adds_rested : (u v : WriteBuffer) (bytes : List ℕ) (t0 t1 t2 : Timeline) → blob_key v ≡ blob_key u → is_idle v ≡ true → length (disk t1 (blob_key v)).content ≡ v.end → bytes_of v (disk t1 (blob_key u)).content ≡ bytes
    → AddsOnly (bytes ∷ []) (blob_key u) t0 t1 → AddsOnly ((disk t1 (blob_key v)).content ∷ []) (blob_key v) t1 t2 → AddsOnly (bytes ∷ []) (blob_key u) t0 t2
adds_rested u v bytes t0 t1 t2 key idle long is adds rests =
    let c : List ℕ = (disk t1 (blob_key u)).content in
    let same : c ≡ bytes = sym (idle_bytes v c idle (subst (λ (k : Key). length (disk t1 k).content ≡ v.end) key long)) ∙ is in
    adds_on (bytes ∷ []) c (blob_key u) t0 t1 t2 (0, omega arith, sym same) adds (subst (λ (k : Key). AddsOnly ((disk t1 k).content ∷ []) k t1 t2) key rests)

-- a flush of the run before, and one of the run that the bytes were put into, p
pub adds_put : (u p : WriteBuffer) (bytes whole : List ℕ) (t0 t1 t2 : Timeline) → blob_key p ≡ blob_key u → bytes_of p (disk t1 (blob_key u)).content ≡ whole
    → AddsOnly (bytes ∷ []) (blob_key u) t0 t1 → AddsOnly (bytes_of p (disk t1 (blob_key p)).content ∷ []) (blob_key p) t1 t2 → AddsOnly (bytes ∷ whole ∷ []) (blob_key u) t0 t2
adds_put u p bytes whole t0 t1 t2 key is adds more =
    adds_on (bytes ∷ whole ∷ []) (bytes_of p (disk t1 (blob_key u)).content) (blob_key u) t0 t1 t2 (1, omega arith, sym is)
    (adds_one (bytes ∷ whole ∷ []) bytes (blob_key u) t0 t1 (0, omega arith, refl) adds)
    (subst (λ (k : Key). AddsOnly (bytes_of p (disk t1 k).content ∷ []) k t1 t2) key more)

-- The steps of a cut to n bytes: w is the buffer with the run's part below n, v the one after its flush, s the one after the cut.
module _ (u w : WriteBuffer) (n : ℕ) (shorter : w ≡ short_run u n) (less : n < size_of u) (t0 : Timeline) (long0 : length (disk t0 (blob_key u)).content ≡ u.end) where
  -- the cut bytes
  abbrev prefix : List ℕ
  prefix = take n (bytes_of u (disk t0 (blob_key u)).content)

  -- what the flush makes
  abbrev flushed : List ℕ
  flushed = bytes_of (short_run u n) (disk t0 (blob_key u)).content

  flush_adds : (t1 : Timeline) → AddsOnly (bytes_of w (disk t0 (blob_key w)).content ∷ []) (blob_key w) t0 t1 → AddsOnly (bytes_of (short_run u n) (disk t0 (blob_key u)).content ∷ []) (blob_key u) t0 t1
  flush_adds t1 adds = subst (λ (x : WriteBuffer). AddsOnly (bytes_of x (disk t0 (blob_key x)).content ∷ []) (blob_key x) t0 t1) shorter adds

  pub cut_adds : (t1 : Timeline) → AddsOnly (bytes_of w (disk t0 (blob_key w)).content ∷ []) (blob_key w) t0 t1 → AddsOnly (flushed ∷ prefix ∷ []) (blob_key u) t0 t1
  cut_adds t1 adds = adds_one (flushed ∷ prefix ∷ []) flushed (blob_key u) t0 t1 (0, omega arith, refl) (flush_adds t1 adds)

  module _ (few : (u.end ≤ u.at) ⊎ ((n ≤ u.at) ⊎ (length u.pending ≡ 0))) where
    none_left : n < u.end → length (take (n - min u.at n) u.pending) ≡ 0
    none_left short = elim few [
      | inl behind ↦ omega (arith, short, behind, length-take (n - min u.at n) u.pending)
      | inr (inl out) ↦ omega (arith, out, length-take (n - min u.at n) u.pending)
      | inr (inr none) ↦ omega (arith, none, length-take (n - min u.at n) u.pending)
    ]

    no_flush : n < u.end → is_idle w ≡ true
    no_flush short = subst (λ (x : WriteBuffer). is_idle x ≡ true) (sym shorter)
        (ap (λ (b : Bool). b && leb (min u.at n) u.end) (eq-eqb (length (take (n - min u.at n) u.pending)) 0 (none_left short)) ∙ le-leb (min u.at n) u.end (omega (arith, short)))

    -- without a flush, or with one that ends at n
    flushed_prefix : u.end ≤ n → bytes_of (short_run u n) (disk t0 (blob_key u)).content ≡ take n (bytes_of u (disk t0 (blob_key u)).content)
    flushed_prefix within = sym (take_all n flushed (omega (arith, within, long0, length-written (disk t0 (blob_key u)).content (min u.at n) (take (n - min u.at n) u.pending), length-take (n - min u.at n) u.pending)))
        ∙ written_cut (disk t0 (blob_key u)).content u.at u.pending n (omega (arith, less, long0))

    pub cut_adds_prefix : (t1 : Timeline) → (is_idle w ≡ true → t1 ≡ t0) → AddsOnly (bytes_of w (disk t0 (blob_key w)).content ∷ []) (blob_key w) t0 t1 → AddsOnly (prefix ∷ []) (blob_key u) t0 t1
    cut_adds_prefix t1 untouched adds = elim (cases_lt n u.end) [
      | inl short ↦ subst (λ (t : Timeline). AddsOnly (prefix ∷ []) (blob_key u) t0 t) (sym (untouched (no_flush short))) (adds_start (prefix ∷ []) (blob_key u) t0)
      | inr within ↦ adds_one (prefix ∷ []) flushed (blob_key u) t0 t1 (0, omega arith, sym (flushed_prefix within)) (flush_adds t1 adds)
    ]

  module _ (v : WriteBuffer) (key : blob_key v ≡ blob_key u) (idle : is_idle v ≡ true) (t1 : Timeline) (long1 : length (disk t1 (blob_key v)).content ≡ v.end)
      (bytes : bytes_of v (disk t1 (blob_key w)).content ≡ bytes_of w (disk t0 (blob_key w)).content) where
    prefix_is : take n (disk t1 (blob_key u)).content ≡ take n (bytes_of u (disk t0 (blob_key u)).content)
    prefix_is = ap (take n) (sym (idle_bytes v (disk t1 (blob_key u)).content idle (subst (λ (k : Key). length (disk t1 k).content ≡ v.end) key long1))
        ∙ subst (λ (x : WriteBuffer). bytes_of v (disk t1 (blob_key x)).content ≡ bytes_of x (disk t0 (blob_key x)).content) shorter bytes)
        ∙ written_cut (disk t0 (blob_key u)).content u.at u.pending n (omega (arith, less, long0))

    module _ (made : List (List ℕ)) (among : Contains made prefix) (t2 : Timeline) where
      pub resize_adds : AddsOnly made (blob_key u) t0 t1 → AddsOnly (take n (disk t1 (blob_key v)).content ∷ []) (blob_key v) t1 t2 → AddsOnly made (blob_key u) t0 t2
      resize_adds adds cut = adds_on made prefix (blob_key u) t0 t1 t2 among adds
          (subst (λ (l : List ℕ). AddsOnly (l ∷ []) (blob_key u) t1 t2) prefix_is (subst (λ (k : Key). AddsOnly (take n (disk t1 k).content ∷ []) k t1 t2) key cut))

      pub settle_adds : (s : WriteBuffer) (t3 : Timeline) → blob_key s ≡ blob_key u → (disk t2 (blob_key v)).content ≡ take n (disk t1 (blob_key v)).content
          → AddsOnly made (blob_key u) t0 t2 → AddsOnly ((disk t2 (blob_key s)).content ∷ []) (blob_key s) t2 t3 → AddsOnly made (blob_key u) t0 t3
      settle_adds s t3 key_s content adds rests =
          let is : (disk t2 (blob_key u)).content ≡ prefix = subst (λ (k : Key). (disk t2 k).content ≡ take n (disk t1 k).content) key content ∙ prefix_is in
          adds_on made prefix (blob_key u) t0 t2 t3 among adds
          (subst (λ (l : List ℕ). AddsOnly (l ∷ []) (blob_key u) t2 t3) is (subst (λ (k : Key). AddsOnly ((disk t2 k).content ∷ []) k t2 t3) key_s rests))
