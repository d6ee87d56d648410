-- A cut of a buffer over a blob without seals, step by step: the run's part below it is flushed, the blob is cut, and it settles.
use Rattle.std.proofs.Common.{◌≡◌, ◌⊎◌, inl, inr, ℕ, ◌+◌, ◌-◌, ◌<◌, ◌≤◌, min, false, List, [], ◌∷◌, length, take, Result, Ok, IsErr, OnErr, refl, sym, ◌∙◌, ap, subst, arith, length-take}
use Rattle.std.specs.Prelude.{IfSome, IsTrue}
use Rattle.std.proofs.lemmas.Bool.{cases_lt}
use Rattle.blob_device.specs.declared.device.Device as device
use Rattle.blob_device.specs.declared.error.DevError.{DevError}
use Rattle.blob_device.specs.declared.runtime.RError.{RError}
use Rattle.blob_device.specs.Disk.{Key, Outside, settled_at}
use Rattle.blob_device.specs.Timeline.{Timeline, disk, Passes}
use Rattle.blob_device.specs.Change.{Resize}
use Rattle.sealed_pages.specs.Calls.{FailsBelow}
use Rattle.sealed_pages.specs.Contents.{AddsOnly}
use Rattle.sealed_pages.specs.Entries.{IsOpenAt, NoReads}
use Rattle.sealed_pages.specs.Sparing.{Sparing, LooseOnly, Keeping}
use Rattle.sealed_pages.specs.unsealed.RunCalls.{FlushesRun, Rests, Shortens, Truncates}
use Rattle.sealed_pages.specs.unsealed.Writing.{WriteBuffer, blob_key, bytes_of, size_of, run_of, short_run, KeepsSettled}
use Rattle.sealed_pages.proofs.unsealed.ContentLemmas.{adds_start, adds_resize, cut_adds, cut_adds_prefix, resize_adds, settle_adds}
use Rattle.sealed_pages.proofs.unsealed.LastingLemmas.{keeping_of}
use Rattle.sealed_pages.specs.lemmas.looking.Looking.{content_length}
use Rattle.sealed_pages.specs.lemmas.unsealed.Sparing.{sparing_start, sparing_then, sparing_weaker}
use Rattle.sealed_pages.specs.lemmas.unsealed.Writing.{idle_bytes}
use Rattle.sealed_pages.proofs.unsealed.SparingLemmas.{sparing_resize, loose_resize, loose_start, loose_spared, loose_then}
use Rattle.sealed_pages.proofs.cutting.Truncating.{no_value}
use Rattle.sealed_pages.proofs.WriteLemmas.{written_cut, resized_within}
use Rattle.sealed_pages.proofs.unsealed.Settled.{SettledAs, settled_as}
use Rattle.blob_device.specs.Lengths.{length-written}

-- What the resize of such a cut has done: u is the buffer before it.
pub record ShortBy (u : WriteBuffer) (n : ℕ) (t0 t1 : Timeline) : Type 0 where
  -- below n it has touched no byte,
  pub spares : Sparing (λ i. i < n) (min u.settled n) (blob_key u) t0 t1
  -- and it has made no place loose
  pub loose : LooseOnly (λ i. Unit {0}) (blob_key u) t0 t1
  -- it has made no content but the first n bytes
  pub since : AddsOnly (take n (disk t0 (blob_key u)).content ∷ []) (blob_key u) t0 t1

pub short_by : {T : Type 0} (u : WriteBuffer) (n : ℕ) (t0 t1 : Timeline) (r : Result T DevError) → n ≤ length (disk t0 (blob_key u)).content → Passes (blob_key u) (Resize n) r t0 t1 → ShortBy u n t0 t1
short_by u n t0 t1 r within passes = record {
  spares = sparing_resize (λ (i : ℕ). i < n) (min u.settled n) (blob_key u) t0 t1 n r passes (λ i lt. lt) (omega arith);
  loose = loose_resize (blob_key u) t0 t1 n r passes;
  since = subst (λ (l : List ℕ). AddsOnly (l ∷ []) (blob_key u) t0 t1) (resized_within (disk t0 (blob_key u)).content n within) (adds_resize (blob_key u) t0 t1 r n passes);
}

-- what each step spares, and makes loose
module _ (u : WriteBuffer) (n : ℕ) where
  -- what a cut to n bytes spares
  abbrev pub BelowCut : ℕ → Type 0
  BelowCut i = (i < n) × Outside (run_of u ∷ []) i

  cut_run_outside : (i : ℕ) → BelowCut i → Outside (run_of (short_run u n) ∷ []) i
  cut_run_outside i (below, out) = (side out.0, tt)
    where
      side : (i < u.at) ⊎ (u.at + length u.pending ≤ i) → (i < min u.at n) ⊎ (min u.at n + length (take (n - min u.at n) u.pending) ≤ i)
      side (inl before) = inl (omega (arith, before, below))
      side (inr past) = inr (omega (arith, past, below, length-take (n - min u.at n) u.pending))

  run_cut_outside : (i : ℕ) → Outside (run_of u ∷ []) i → Outside (run_of (short_run u n) ∷ []) i
  run_cut_outside i out = elim (cases_lt i n) [
    | inl below ↦ cut_run_outside i (below, out)
    | inr past ↦ (inr (omega (arith, past, length-take (n - min u.at n) u.pending)), tt)
  ]

  -- what they make loose
  pub loose_first : (w : WriteBuffer) (t0 t1 : Timeline) → w ≡ short_run u n → Sparing (Outside (run_of w ∷ [])) w.settled (blob_key w) t0 t1 → LooseOnly (Outside (run_of u ∷ [])) (blob_key u) t0 t1
  loose_first w t0 t1 is first = loose_spared (Outside (run_of (short_run u n) ∷ [])) (Outside (run_of u ∷ [])) u.settled (blob_key u) t0 t1 run_cut_outside
      (subst (λ (x : WriteBuffer). Sparing (Outside (run_of x ∷ [])) x.settled (blob_key x) t0 t1) is first)

  pub loose_second : (v : WriteBuffer) (t0 t1 t2 : Timeline) → blob_key v ≡ blob_key u → LooseOnly (Outside (run_of u ∷ [])) (blob_key u) t0 t1 → LooseOnly (λ i. Unit {0}) (blob_key v) t1 t2 → LooseOnly (Outside (run_of u ∷ [])) (blob_key u) t0 t2
  loose_second v t0 t1 t2 key first second = loose_then (λ i. Unit {0}) (Outside (run_of u ∷ [])) (blob_key u) t0 t1 t2 (λ i r. tt) first (subst (λ (k : Key). LooseOnly (λ i. Unit {0}) k t1 t2) key second)

  pub loose_third : (s : WriteBuffer) (t0 t2 t3 : Timeline) → blob_key s ≡ blob_key u → LooseOnly (Outside (run_of u ∷ [])) (blob_key u) t0 t2 → Sparing (λ i. Unit {0}) s.settled (blob_key s) t2 t3 → LooseOnly (Outside (run_of u ∷ [])) (blob_key u) t0 t3
  loose_third s t0 t2 t3 key first third = loose_second s t0 t2 t3 key first (loose_spared (λ i. Unit {0}) (λ i. Unit {0}) s.settled (blob_key s) t2 t3 (λ i r. tt) third)

  pub cut_first : (w : WriteBuffer) (t0 t1 : Timeline) → w ≡ short_run u n → Sparing (Outside (run_of w ∷ [])) w.settled (blob_key w) t0 t1 → Sparing BelowCut (min u.settled n) (blob_key u) t0 t1
  cut_first w t0 t1 is first = sparing_weaker (Outside (run_of (short_run u n) ∷ [])) BelowCut u.settled (min u.settled n) (blob_key u) t0 t1 cut_run_outside (omega arith)
      (subst (λ (x : WriteBuffer). Sparing (Outside (run_of x ∷ [])) x.settled (blob_key x) t0 t1) is first)

  pub cut_second : (v : WriteBuffer) (t0 t1 t2 : Timeline) → v.settled ≡ u.settled → blob_key v ≡ blob_key u → Sparing BelowCut (min u.settled n) (blob_key u) t0 t1
      → Sparing (λ i. i < n) (min v.settled n) (blob_key v) t1 t2 → Sparing BelowCut (min u.settled n) (blob_key u) t0 t2
  cut_second v t0 t1 t2 settled key first second = sparing_then BelowCut (min u.settled n) (blob_key u) t0 t1 t2 first
      (sparing_weaker (λ i. i < n) BelowCut (min v.settled n) (min u.settled n) (blob_key u) t1 t2 (λ i out. out.0) (omega (arith, settled))
      (subst (λ (k : Key). Sparing (λ i. i < n) (min v.settled n) k t1 t2) key second))

  pub cut_third : (s : WriteBuffer) (t0 t2 t3 : Timeline) → s.settled ≡ min u.settled n → blob_key s ≡ blob_key u → Sparing BelowCut (min u.settled n) (blob_key u) t0 t2
      → Sparing (λ i. Unit {0}) s.settled (blob_key s) t2 t3 → Sparing BelowCut (min u.settled n) (blob_key u) t0 t3
  cut_third s t0 t2 t3 settled key first third = sparing_then BelowCut (min u.settled n) (blob_key u) t0 t2 t3 first
      (sparing_weaker (λ i. Unit {0}) BelowCut s.settled (min u.settled n) (blob_key u) t2 t3 (λ i out. tt) (omega (arith, settled))
      (subst (λ (k : Key). Sparing (λ i. Unit {0}) s.settled k t2 t3) key third))

-- What a cut of the buffer u to n bytes has done to its blob by some time.
pub record CutBy (u : WriteBuffer) (n : ℕ) (t0 t1 : Timeline) : Type 0 where
  -- below n it has touched the run's places alone,
  pub spares : Sparing (BelowCut u n) (min u.settled n) (blob_key u) t0 t1
  -- and it has made no other place loose
  pub loose : LooseOnly (Outside (run_of u ∷ [])) (blob_key u) t0 t1
  -- it has made no content but the flushed bytes and the cut ones,
  pub since : AddsOnly (bytes_of (short_run u n) (disk t0 (blob_key u)).content ∷ take n (bytes_of u (disk t0 (blob_key u)).content) ∷ []) (blob_key u) t0 t1
  -- and these alone where the flush makes no other
  pub since_cut : ((u.end ≤ u.at) ⊎ ((n ≤ u.at) ⊎ (length u.pending ≡ 0))) → AddsOnly (take n (bytes_of u (disk t0 (blob_key u)).content) ∷ []) (blob_key u) t0 t1

-- what settled below n and was not written since outlives each crash
pub cut_lasts : (u : WriteBuffer) (n : ℕ) (t0 t1 : Timeline) → CutBy u n t0 t1 → KeepsSettled u (disk t0 (blob_key u)) → Keeping (take (min u.settled n) (bytes_of u (disk t0 (blob_key u)).content)) (blob_key u) t0 t1
cut_lasts u n t0 t1 by kept = keeping_of u (BelowCut u n) (min u.settled n) (min u.settled n) (blob_key u) t0 t1 kept (omega arith) (omega arith) (λ i lt. (omega (arith, lt), kept.apart i (omega (arith, lt)))) by.spares

-- before its first call
pub cut_none : (u : WriteBuffer) (n : ℕ) (t : Timeline) → CutBy u n t t
cut_none u n t = record {
  spares = sparing_start (BelowCut u n) (min u.settled n) (blob_key u) t;
  loose = loose_start (Outside (run_of u ∷ [])) (blob_key u) t;
  since = adds_start (bytes_of (short_run u n) (disk t (blob_key u)).content ∷ take n (bytes_of u (disk t (blob_key u)).content) ∷ []) (blob_key u) t;
  since_cut = λ few. adds_start (take n (bytes_of u (disk t (blob_key u)).content) ∷ []) (blob_key u) t;
}

-- after each of its calls: w is the buffer with the run's part below n
module _ {D : Type 0} (dev : device.Ghosts D) (tells : dev.Tells) (stands : (d : D) (k : Key) → IfSome (dev.opened d k) (λ o. (IsTrue (disk (dev.time d) k).there) × (length (disk (dev.time d) k).content ≡ o.len)))
    (u w : WriteBuffer) (n : ℕ) (shorter : w ≡ short_run u n) (less : n < size_of u) (d0 d1 : D) (is_open : IsOpenAt (dev.opened d0) (blob_key u) u.end) where
  long0 : length (disk (dev.time d0) (blob_key u)).content ≡ u.end
  long0 = content_length (dev.opened d0) (blob_key u) u.end _ _ (stands d0 (blob_key u)) is_open

  pub cut_flushed : {B : Type 0} (see : B → WriteBuffer) (r : Result B DevError) → FlushesRun dev w d0 d1 see r → CutBy u n (dev.time d0) (dev.time d1)
  cut_flushed see r flushed = record {
    spares = cut_first u n w (dev.time d0) (dev.time d1) shorter (flushed.spares tells);
    loose = loose_first u n w (dev.time d0) (dev.time d1) shorter (flushed.spares tells);
    since = cut_adds u w n shorter less (dev.time d0) long0 (dev.time d1) (flushed.since tells);
    since_cut = λ few. cut_adds_prefix u w n shorter less (dev.time d0) long0 few (dev.time d1) (λ idle. ap dev.time (flushed.untouched idle)) (flushed.since tells);
  }

  -- v is the one after the flush
  module _ {B : Type 0} (see : B → WriteBuffer) (v : B) (flushed : FlushesRun dev w d0 d1 see (Ok v)) (d2 : D) where
    long1 : length (disk (dev.time d1) (blob_key (see v))).content ≡ (see v).end
    long1 = content_length (dev.opened d1) (blob_key (see v)) (see v).end _ _ (stands d1 (blob_key (see v))) flushed.«open»

    after_flush : see v ≡ record w { end = size_of w; pending = []; dirty = (see v).dirty }
    after_flush = flushed.same

    key_v : blob_key (see v) ≡ blob_key u
    key_v = ap blob_key after_flush ∙ ap blob_key shorter

    settled_v : (see v).settled ≡ u.settled
    settled_v = ap (λ (x : WriteBuffer). x.settled) after_flush ∙ ap (λ (x : WriteBuffer). x.settled) shorter

    pub cut_resized : (r : Result B DevError) → Shortens dev (see v) d1 d2 see n r → CutBy u n (dev.time d0) (dev.time d2)
    cut_resized r cut =
        let by : CutBy u n (dev.time d0) (dev.time d1) = cut_flushed see (Ok v) flushed in
        record {
          spares = cut_second u n (see v) (dev.time d0) (dev.time d1) (dev.time d2) settled_v key_v by.spares (cut.spares tells);
          loose = loose_second u n (see v) (dev.time d0) (dev.time d1) (dev.time d2) key_v by.loose (cut.loose tells);
          since = resize_adds u w n shorter less (dev.time d0) long0 (see v) key_v flushed.idle (dev.time d1) long1 (flushed.bytes tells)
              (bytes_of (short_run u n) (disk (dev.time d0) (blob_key u)).content ∷ take n (bytes_of u (disk (dev.time d0) (blob_key u)).content) ∷ []) (1, omega arith, refl) (dev.time d2) by.since (cut.since tells);
          since_cut = λ few. resize_adds u w n shorter less (dev.time d0) long0 (see v) key_v flushed.idle (dev.time d1) long1 (flushed.bytes tells)
              (take n (bytes_of u (disk (dev.time d0) (blob_key u)).content) ∷ []) (0, omega arith, refl) (dev.time d2) (by.since_cut few) (cut.since tells);
        }

    -- s is the one after the cut
    module _ (s : B) (cut : Shortens dev (see v) d1 d2 see n (Ok s)) (d3 : D) where
      after_cut : see s ≡ record (see v) { end = n; settled = min (see v).settled n; dirty = (see s).dirty }
      after_cut = cut.same

      key_s : blob_key (see s) ≡ blob_key u
      key_s = ap blob_key after_cut ∙ key_v

      pub cut_rested : (r : Result B DevError) → Rests dev (see s) d2 d3 see r → CutBy u n (dev.time d0) (dev.time d3)
      cut_rested r rests =
          let by : CutBy u n (dev.time d0) (dev.time d2) = cut_resized (Ok s) cut in
          record {
            spares = cut_third u n (see s) (dev.time d0) (dev.time d2) (dev.time d3) (ap (λ (x : WriteBuffer). x.settled) after_cut ∙ ap (λ (m : ℕ). min m n) settled_v) key_s by.spares (rests.spares tells);
            loose = loose_third u n (see s) (dev.time d0) (dev.time d2) (dev.time d3) key_s by.loose (rests.spares tells);
            since = settle_adds u w n shorter less (dev.time d0) long0 (see v) key_v flushed.idle (dev.time d1) long1 (flushed.bytes tells)
                (bytes_of (short_run u n) (disk (dev.time d0) (blob_key u)).content ∷ take n (bytes_of u (disk (dev.time d0) (blob_key u)).content) ∷ []) (1, omega arith, refl) (dev.time d2) (see s) (dev.time d3) key_s (cut.content tells) by.since (rests.since tells);
            since_cut = λ few. settle_adds u w n shorter less (dev.time d0) long0 (see v) key_v flushed.idle (dev.time d1) long1 (flushed.bytes tells)
                (take n (bytes_of u (disk (dev.time d0) (blob_key u)).content) ∷ []) (0, omega arith, refl) (dev.time d2) (see s) (dev.time d3) key_s (cut.content tells) (by.since_cut few) (rests.since tells);
          }

      -- r is the one at its end
      module _ (r : B) (rests : Rests dev (see s) d2 d3 see (Ok r)) where
        after_rest : see r ≡ record (see s) { settled = (see s).end; dirty = false }
        after_rest = rests.same

        flushed_is : (disk (dev.time d1) (blob_key u)).content ≡ bytes_of (short_run u n) (disk (dev.time d0) (blob_key u)).content
        flushed_is =
            let all : bytes_of (see v) (disk (dev.time d1) (blob_key w)).content ≡ bytes_of w (disk (dev.time d0) (blob_key w)).content = flushed.bytes tells in
            sym (idle_bytes (see v) (disk (dev.time d1) (blob_key u)).content flushed.idle (subst (λ (k : Key). length (disk (dev.time d1) k).content ≡ (see v).end) key_v long1))
            ∙ subst (λ (x : WriteBuffer). bytes_of (see v) (disk (dev.time d1) (blob_key x)).content ≡ bytes_of x (disk (dev.time d0) (blob_key x)).content) shorter all

        cut_content : (disk (dev.time d2) (blob_key u)).content ≡ take n (bytes_of u (disk (dev.time d0) (blob_key u)).content)
        cut_content =
            let short : (disk (dev.time d2) (blob_key (see v))).content ≡ take n (disk (dev.time d1) (blob_key (see v))).content = cut.content tells in
            subst (λ (k : Key). (disk (dev.time d2) k).content ≡ take n (disk (dev.time d1) k).content) key_v short
            ∙ ap (take n) flushed_is ∙ written_cut (disk (dev.time d0) (blob_key u)).content u.at u.pending n (omega (arith, less, long0))

        settles : disk (dev.time d3) (blob_key u) ≡ settled_at (take n (bytes_of u (disk (dev.time d0) (blob_key u)).content))
        settles =
            let rest : disk (dev.time d3) (blob_key (see s)) ≡ settled_at (disk (dev.time d2) (blob_key (see s))).content = rests.settles tells in
            subst (λ (k : Key). disk (dev.time d3) k ≡ settled_at (disk (dev.time d2) k).content) key_s rest ∙ ap settled_at cut_content

        long3 : length (take n (bytes_of u (disk (dev.time d0) (blob_key u)).content)) ≡ n
        long3 = omega (arith, length-take n (bytes_of u (disk (dev.time d0) (blob_key u)).content), length-written (disk (dev.time d0) (blob_key u)).content u.at u.pending, less, long0)

        low : (see r).at ≡ min u.at n
        low = ap (λ (x : WriteBuffer). x.at) after_rest ∙ ap (λ (x : WriteBuffer). x.at) after_cut ∙ ap (λ (x : WriteBuffer). x.at) after_flush ∙ ap (λ (x : WriteBuffer). x.at) shorter

        -- it has settled with the cut bytes
        pub cut_to : SettledAs (see r) (take n (bytes_of u (disk (dev.time d0) (blob_key u)).content)) (disk (dev.time d3) (blob_key u))
        cut_to = settled_as (see r) (take n (bytes_of u (disk (dev.time d0) (blob_key u)).content)) (disk (dev.time d3) (blob_key u)) settles
            (omega (arith, ap (λ (x : WriteBuffer). x.settled) after_rest, ap (λ (x : WriteBuffer). x.end) after_cut, long3))
            (omega (arith, low, long3))
            (ap (λ (x : WriteBuffer). x.dirty) after_rest)
            (ap (λ (x : WriteBuffer). x.pending) after_rest ∙ ap (λ (x : WriteBuffer). x.pending) after_cut ∙ ap (λ (x : WriteBuffer). x.pending) after_flush)

-- where it failed behind its first call
pub cut_failed : {D B : Type 0} (dev : device.Ghosts D) (u : WriteBuffer) (n : ℕ) (see : B → WriteBuffer) (d0 d1 : D) (r : Result B RError)
    → IsErr r → n < size_of u → (dev.Tells → CutBy u n (dev.time d0) (dev.time d1))
    → (dev.time d1).calls ≤ (dev.time d0).calls + 3 → (((n ≤ u.at) ⊎ (length u.pending ≡ 0)) → (dev.time d1).calls ≤ (dev.time d0).calls + 2)
    → NoReads (blob_key u) (dev.opened d0) (dev.opened d1) → dev.faults d0 ≤ dev.faults d1 → OnErr r (FailsBelow dev r d0 d1) → Truncates dev u d0 d1 see n r
cut_failed dev u n see d0 d1 r failed less by calls once entries faults cause = record {
  spares = λ t. (by t).spares;
  loose = λ t. (by t).loose;
  over = λ t over. no_value _ r failed;
  lasts = λ t kept. cut_lasts u n (dev.time d0) (dev.time d1) (by t) kept;
  kept = λ t kept. no_value _ r failed;
  since = λ t. (by t).since;
  since_cut = λ t few. (by t).since_cut few;
  settles = λ t short. no_value _ r failed;
  bytes = λ t. no_value _ r failed;
  cut = λ short. no_value _ r failed;
  size = no_value _ r failed;
  key = no_value _ r failed;
  capacity = no_value _ r failed;
  untouched = λ past. absurd (omega (arith, past, less));
  stays = λ past. absurd (omega (arith, past, less));
  calls = calls;
  once = once;
  «open» = no_value _ r failed;
  entries = entries;
  faults = faults;
  cause = cause;
}
