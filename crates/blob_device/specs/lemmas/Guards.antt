-- Calls on one blob that avoid some of its places, and whose contents all have a property.
use Rattle.std.proofs.Common.{◌≡◌, ◌⊎◌, inl, inr, ℕ, ◌+◌, ◌<◌, ◌≤◌, Bool, true, not, ◌||◌, cond, List, [], ◌∷◌, ◌++◌, length, get_or, Result, Ok, Err, Option, Some, None, IsSomeAnd, refl, sym, ◌∙◌, ap, subst, arith}
use Rattle.std.specs.List.{AllByRecursion}
use Rattle.blob_device.specs.declared.error.DevError.{DevError}
use Rattle.blob_device.specs.Disk.{Key, Blob, Disk, MayHold, MayLeave, settled_at, past}
use Rattle.blob_device.specs.Change.{Change, Make, Write, Resize, Settle, Remove, Look, during, done, FailedTo, written, resized}
use Rattle.blob_device.specs.Timeline.{Timeline, disk, Passes, Always, OnlyAt}
use Rattle.blob_device.specs.lemmas.Bytes.{outside_push}
use Rattle.blob_device.specs.lemmas.Moments.{always_now, only_start, only_on, ok_blob, err_has}
use Rattle.blob_device.specs.Guards.{Guards, Sealed, Avoids, Makes}
use Rattle.blob_device.specs.Lengths.{least_push, length-resized, length-written}
use Rattle.blob_device.specs.Places.{resized_below, written_out}

-- what holds of each content of a list, and of one more
all_more : (Q : List ℕ → Type 0) (cs : List (List ℕ)) (c : List ℕ) → AllByRecursion Q cs → Q c → AllByRecursion Q (cs ++ c ∷ [])
all_more Q [] c all here = (here, tt)
all_more Q (d ∷ cs) c all here = (all.0, all_more Q cs c all.1 here)

pub guards_settled : (R : ℕ → Type 0) (v : ℕ → ℕ) (c : List ℕ) → ((i : ℕ) → R i → i < length c) → ((i : ℕ) → R i → get_or c i 0 ≡ v i) → Guards R v (settled_at c)
guards_settled R v c long same = record { there = refl; sure = refl; short = long; long = long; outside = λ i r. tt; same = same }

module _ (R : ℕ → Type 0) (v : ℕ → ℕ) (b : Blob) (g : Guards R v b) where
  guards_written : (at : ℕ) (bytes c : List ℕ) → ((i : ℕ) → R i → (i < at) ⊎ (at + length bytes ≤ i)) → ((i : ℕ) → R i → i < length c) → ((i : ℕ) → R i → get_or c i 0 ≡ v i)
      → Guards R v (record (during (Write at bytes) b) { content = c })
  guards_written at bytes c avoids long same = record {
    there = g.there;
    sure = g.sure;
    short = λ i r. omega (arith, g.short i r, g.long i r, least_push (length b.settled) b.since (written b.content at bytes), length-written b.content at bytes);
    long = long;
    outside = λ i r. outside_push b.loose at (length bytes) i (g.outside i r) (avoids i r);
    same = same;
  }

  guards_resized : (n : ℕ) (c : List ℕ) → ((i : ℕ) → R i → i < n) → ((i : ℕ) → R i → i < length c) → ((i : ℕ) → R i → get_or c i 0 ≡ v i) → Guards R v (record (during (Resize n) b) { content = c })
  guards_resized n c avoids long same = record {
    there = g.there;
    sure = g.sure;
    short = λ i r. omega (arith, g.short i r, avoids i r, least_push (length b.settled) b.since (resized b.content n), length-resized b.content n);
    long = long;
    outside = g.outside;
    same = same;
  }

  made : during Make b ≡ b
  made = ap (λ (t : Bool). cond t b (record b { content = []; unsure = true; since = b.since ++ [] ∷ [] })) g.there

  made_done : done Make b ≡ settled_at b.content
  made_done = ap (λ (t : Bool). settled_at (cond t b.content [])) g.there

  pub guards_during : (change : Change) → Avoids R change → Guards R v (during change b)
  guards_during Make avoids = subst (Guards R v) (sym made) g
  guards_during (Write at bytes) avoids = guards_written at bytes b.content avoids g.long g.same
  guards_during (Resize n) avoids = guards_resized n b.content avoids g.long g.same
  guards_during Settle avoids = g
  guards_during Remove avoids = absurd avoids
  guards_during Look avoids = g

  pub guards_done : (change : Change) → Avoids R change → Guards R v (done change b)
  guards_done Make avoids = subst (Guards R v) (sym made_done) (guards_settled R v b.content g.long g.same)
  guards_done (Write at bytes) avoids = guards_written at bytes (written b.content at bytes) avoids
      (λ i r. omega (arith, g.long i r, length-written b.content at bytes))
      (λ i r. written_out b.content at bytes i (avoids i r) ∙ g.same i r)
  guards_done (Resize n) avoids = guards_resized n (resized b.content n) avoids
      (λ i r. omega (arith, avoids i r, length-resized b.content n))
      (λ i r. resized_below b.content n i (avoids i r) ∙ g.same i r)
  guards_done Settle avoids = guards_settled R v b.content g.long g.same
  guards_done Remove avoids = absurd avoids
  guards_done Look avoids = g

  pub guards_failed : (change : Change) (new : Blob) → Avoids R change → FailedTo change b new → Guards R v new
  guards_failed Make new avoids (inl same) = subst (Guards R v) (sym (same ∙ made)) g
  guards_failed Make new avoids (inr same) = subst (Guards R v) (sym (same ∙ ap (λ (d : Blob). record d { there = true }) made))
      (record { there = refl; sure = g.sure; short = g.short; long = g.long; outside = g.outside; same = g.same })
  guards_failed (Write at bytes) new avoids part = subst (Guards R v) (sym part.2) (guards_written at bytes part.0 avoids
      (λ i r. omega (arith, g.long i r, part.1.no_shorter))
      (λ i r. part.1.outside i (omega (arith, g.long i r, part.1.no_shorter)) (avoids i r) ∙ written_out b.content at bytes i (avoids i r) ∙ g.same i r))
  guards_failed (Resize n) new avoids (inl same) = subst (Guards R v) (sym same) (guards_during (Resize n) avoids)
  guards_failed (Resize n) new avoids (inr same) = subst (Guards R v) (sym same) (guards_done (Resize n) avoids)
  guards_failed Settle new avoids same = subst (Guards R v) (sym same) g
  guards_failed Remove new avoids failed = absurd avoids
  guards_failed Look new avoids same = subst (Guards R v) (sym same) g

  module _ (Q : List ℕ → Type 0) (all : AllByRecursion Q (past b)) where
    pub all_during : (change : Change) → Makes Q b.content change → AllByRecursion Q (past (during change b))
    all_during Make makes = subst (λ (d : Blob). AllByRecursion Q (past d)) (sym made) all
    all_during (Write at bytes) makes = (all.0, all_more Q b.since (written b.content at bytes) all.1 makes)
    all_during (Resize n) makes = (all.0, all_more Q b.since (resized b.content n) all.1 makes)
    all_during Settle makes = all
    all_during Remove makes = absurd makes
    all_during Look makes = all

    pub all_done : (change : Change) → Makes Q b.content change → AllByRecursion Q (past (done change b))
    all_done Make makes = subst (λ (d : Blob). AllByRecursion Q (past d)) (sym made_done) (makes, tt)
    all_done (Write at bytes) makes = all_during (Write at bytes) makes
    all_done (Resize n) makes = all_during (Resize n) makes
    all_done Settle makes = (makes, tt)
    all_done Remove makes = absurd makes
    all_done Look makes = all

    pub all_failed : (change : Change) (new : Blob) → Makes Q b.content change → FailedTo change b new → AllByRecursion Q (past new)
    all_failed Make new makes (inl same) = subst (λ (d : Blob). AllByRecursion Q (past d)) (sym (same ∙ made)) all
    all_failed Make new makes (inr same) = subst (λ (d : Blob). AllByRecursion Q (past d)) (sym (same ∙ ap (λ (d : Blob). record d { there = true }) made)) all
    all_failed (Write at bytes) new makes part = subst (λ (d : Blob). AllByRecursion Q (past d)) (sym part.2) (all_during (Write at bytes) makes)
    all_failed (Resize n) new makes (inl same) = subst (λ (d : Blob). AllByRecursion Q (past d)) (sym same) (all_during (Resize n) makes)
    all_failed (Resize n) new makes (inr same) = subst (λ (d : Blob). AllByRecursion Q (past d)) (sym same) (all_during (Resize n) makes)
    all_failed Settle new makes same = subst (λ (d : Blob). AllByRecursion Q (past d)) (sym same) all
    all_failed Remove new makes failed = absurd makes
    all_failed Look new makes same = subst (λ (d : Blob). AllByRecursion Q (past d)) (sym same) all

-- a call on the blob at k
module _ (R : ℕ → Type 0) (v : ℕ → ℕ) (Q : List ℕ → Type 0) where
  pub sealed_during : (b : Blob) (change : Change) → Sealed R v Q b → Avoids R change → Makes Q b.content change → Sealed R v Q (during change b)
  sealed_during b change s avoids makes = record { guards = guards_during R v b s.guards change avoids; all = all_during R v b s.guards Q s.all change makes }

  pub sealed_done : (b : Blob) (change : Change) → Sealed R v Q b → Avoids R change → Makes Q b.content change → Sealed R v Q (done change b)
  sealed_done b change s avoids makes = record { guards = guards_done R v b s.guards change avoids; all = all_done R v b s.guards Q s.all change makes }

  pub sealed_failed : (b new : Blob) (change : Change) → Sealed R v Q b → Avoids R change → Makes Q b.content change → FailedTo change b new → Sealed R v Q new
  sealed_failed b new change s avoids makes failed = record { guards = guards_failed R v b s.guards change new avoids failed; all = all_failed R v b s.guards Q s.all change new makes failed }

  pub sealed_after : {T : Type 0} (k : Key) (change : Change) (result : Result T DevError) (b c : Timeline)
      → Passes k change result b c → Sealed R v Q (disk b k) → Avoids R change → Makes Q (disk b k).content change → Sealed R v Q (disk c k)
  sealed_after k change (Ok x) b c passes s avoids makes = subst (Sealed R v Q) (sym (ok_blob k change x b c passes)) (sealed_done (disk b k) change s avoids makes)
  sealed_after {T = T} k change (Err e) b c passes s avoids makes = err_has {T = T} (Sealed R v Q) k change e b c passes s (λ new failed. sealed_failed (disk b k) new change s avoids makes failed)

pub sealed_start : (t : Timeline) (k : Key) (R : ℕ → Type 0) (v : ℕ → ℕ) (Q : List ℕ → Type 0) → Sealed R v Q (disk t k) → Always t t (OnlyAt k (disk t) (Sealed R v Q))
sealed_start t k R v Q here = only_start t k (Sealed R v Q) here

-- one call more
pub sealed_on : {T : Type 0} {a b c : Timeline} {k : Key} {from : Disk} {R : ℕ → Type 0} {v : ℕ → ℕ} {Q : List ℕ → Type 0} {change : Change} {result : Result T DevError}
    → Always a b (OnlyAt k from (Sealed R v Q)) → Passes k change result b c → Avoids R change → Makes Q (disk b k).content change → Always a c (OnlyAt k from (Sealed R v Q))
sealed_on {a = a} {b = b} {c = c} {k = k} {from = from} {R = R} {v = v} {Q = Q} {change = change} {result = result} always passes avoids makes =
    let here : Sealed R v Q (disk b k) = (always_now a b (OnlyAt k from (Sealed R v Q)) always).here in
    only_on a b c k from (Sealed R v Q) change result always passes
    (sealed_during R v Q (disk b k) change here avoids makes)
    (sealed_after R v Q k change result b c passes here avoids makes)

-- each crash holds v at each place that R names
pub guards_crash : (R : ℕ → Type 0) (v : ℕ → ℕ) (b : Blob) → Guards R v b → (c : List ℕ) → MayHold b c → (i : ℕ) → R i → get_or c i 0 ≡ v i
guards_crash R v b g c hold i r = hold.kept i (g.short i r) (g.outside i r) ∙ g.same i r

pub guards_left : (R : ℕ → Type 0) (v : ℕ → ℕ) (b : Blob) (P : List ℕ → Type 0) → Guards R v b → ((c : List ℕ) → MayHold b c → P c) → (left : Option (List ℕ)) → MayLeave b left → IsSomeAnd left P
guards_left R v b P g each None left =
    let unsure : b.unsure ≡ true = sym (ap (λ (t : Bool). not t || b.unsure) g.there) ∙ left in
    absurd (cc (unsure, g.sure))
guards_left R v b P g each (Some c) left = each c left.1
