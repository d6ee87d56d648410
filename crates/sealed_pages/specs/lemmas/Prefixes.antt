-- What a call keeps of a blob at each moment: first bytes that outlived each crash do so, as long as they are spared.
use Rattle.std.proofs.Common.{◌≡◌, inl, inr, ℕ, ◌<◌, ◌≤◌, List, length, get_or, Result, Ok, Err, refl, sym, ◌∙◌, ap, subst, arith}
use Rattle.std.proofs.lemmas.Bool.{cases_lt}
use Rattle.std.proofs.lemmas.List.{get_or_past}
use Rattle.blob_device.specs.declared.error.DevError.{DevError}
use Rattle.blob_device.specs.Change.{Change, Make, Write, Resize, Settle, Remove, Look, during, done, FailedTo, written, resized}
use Rattle.blob_device.specs.Disk.{Key, Blob, Disk}
use Rattle.blob_device.specs.Guards.{Avoids}
use Rattle.blob_device.specs.Timeline.{Timeline, disk, Passes, Always, OnlyAt}
use Rattle.blob_device.specs.lemmas.Guards.{guards_done, guards_during, guards_failed}
use Rattle.blob_device.specs.lemmas.Moments.{always_now, only_start, only_on, ok_blob, err_has}
use Rattle.sealed_pages.specs.Unrecovered.{HasBytesBelow, SparedPrefix, SparesPrefix}
use Rattle.sealed_pages.specs.View.{View, view}
use Rattle.blob_device.specs.Lengths.{length-resized, length-written}
use Rattle.blob_device.specs.Places.{resized_below, written_out}

-- what each of a change's outcomes keeps, a call keeps at each moment
pub kept_on : {T : Type 0} (Q : Blob → Type 0) (key : Key) (from : Disk) (a b c : Timeline) (change : Change) (result : Result T DevError) → Always a b (OnlyAt key from Q) → Passes key change result b c
    → ((x : Blob) → Q x → Q (during change x)) → ((x : Blob) → Q x → Q (done change x)) → ((x y : Blob) → Q x → FailedTo change x y → Q y) → Always a c (OnlyAt key from Q)
kept_on {T = T} Q key from a b c change result always passes inside ok err =
    let here : Q (disk b key) = (always_now a b (OnlyAt key from Q) always).here in
    only_on a b c key from Q change result always passes (inside (disk b key) here) (after result passes here)
  where
    after : (r : Result T DevError) → Passes key change r b c → Q (disk b key) → Q (disk c key)
    after (Ok x) p here = subst Q (sym (ok_blob key change x b c p)) (ok (disk b key) here)
    after (Err e) p here = err_has {T = T} Q key change e b c p here (λ new failed. err (disk b key) new here failed)

-- what one change leaves, under way, done and failed
module _ (end : ℕ) (b : Blob) where
  pub prefix_same : SparedPrefix end b b
  prefix_same = record { reads = λ i lt. refl; long = omega arith; crashes = λ n v le has. has }

  prefix_kept : (c : Blob) → ((n : ℕ) (v : View) → n ≤ end → HasBytesBelow n v b → HasBytesBelow n v c) → c.content ≡ b.content → SparedPrefix end b c
  prefix_kept c crashes is = record { reads = λ i lt. ap (λ (l : List ℕ). view l i) is; long = omega (arith, ap length is); crashes = crashes }

  prefix_written : (at : ℕ) (bytes : List ℕ) (c : Blob) → end ≤ at → ((n : ℕ) (v : View) → n ≤ end → HasBytesBelow n v b → HasBytesBelow n v c) → length b.content ≤ length c.content
      → ((i : ℕ) → i < length c.content → i < at → get_or c.content i 0 ≡ get_or (written b.content at bytes) i 0) → SparedPrefix end b c
  prefix_written at bytes c le crashes long same = record {
    reads = λ i lt. elim (cases_lt i (length c.content)) [
      | inl inside ↦ same i inside (omega (arith, lt, le)) ∙ written_out b.content at bytes i (inl (omega (arith, lt, le)))
      | inr past ↦ get_or_past c.content i 0 past ∙ sym (get_or_past b.content i 0 (omega (arith, past, long)))
    ];
    long = omega (arith, long);
    crashes = crashes;
  }

  prefix_resized : (m : ℕ) (c : Blob) → end ≤ m → ((n : ℕ) (v : View) → n ≤ end → HasBytesBelow n v b → HasBytesBelow n v c) → c.content ≡ resized b.content m → SparedPrefix end b c
  prefix_resized m c le crashes is = record {
    reads = λ i lt. ap (λ (l : List ℕ). view l i) is ∙ resized_below b.content m i (omega (arith, lt, le));
    long = omega (arith, ap length is, length-resized b.content m, le);
    crashes = crashes;
  }

-- the changes that touch no byte below this end
abbrev SparesTo : ℕ → Change → Type 0
SparesTo end Make = ⊥
SparesTo end (Write at bytes) = end ≤ at
SparesTo end (Resize n) = end ≤ n
SparesTo end Settle = Unit {0}
SparesTo end Remove = ⊥
SparesTo end Look = Unit {0}

avoids_to : (n end : ℕ) (change : Change) → n ≤ end → SparesTo end change → Avoids (λ i. i < n) change
avoids_to n end Make le spares = tt
avoids_to n end (Write at bytes) le spares = λ i lt. inl (omega (arith, lt, le, spares))
avoids_to n end (Resize m) le spares = λ i lt. omega (arith, lt, le, spares)
avoids_to n end Settle le spares = tt
avoids_to n end Remove le spares = spares
avoids_to n end Look le spares = tt

module _ (end : ℕ) (b : Blob) where
  during_has : (change : Change) → SparesTo end change → (n : ℕ) (v : View) → n ≤ end → HasBytesBelow n v b → HasBytesBelow n v (during change b)
  during_has change spares n v le has = guards_during (λ i. i < n) v b has change (avoids_to n end change le spares)

  done_has : (change : Change) → SparesTo end change → (n : ℕ) (v : View) → n ≤ end → HasBytesBelow n v b → HasBytesBelow n v (done change b)
  done_has change spares n v le has = guards_done (λ i. i < n) v b has change (avoids_to n end change le spares)

  failed_has : (change : Change) (c : Blob) → SparesTo end change → FailedTo change b c → (n : ℕ) (v : View) → n ≤ end → HasBytesBelow n v b → HasBytesBelow n v c
  failed_has change c spares failed n v le has = guards_failed (λ i. i < n) v b has change c (avoids_to n end change le spares) failed

  prefix_during : (change : Change) → SparesTo end change → SparedPrefix end b (during change b)
  prefix_during Make spares = absurd spares
  prefix_during (Write at bytes) spares = prefix_kept end b (during (Write at bytes) b) (during_has (Write at bytes) spares) refl
  prefix_during (Resize m) spares = prefix_kept end b (during (Resize m) b) (during_has (Resize m) spares) refl
  prefix_during Settle spares = prefix_same end b
  prefix_during Remove spares = absurd spares
  prefix_during Look spares = prefix_same end b

  prefix_done : (change : Change) → SparesTo end change → SparedPrefix end b (done change b)
  prefix_done Make spares = absurd spares
  prefix_done (Write at bytes) spares = prefix_written end b at bytes (done (Write at bytes) b) spares (done_has (Write at bytes) spares) (omega (arith, length-written b.content at bytes)) (λ i inside lt. refl)
  prefix_done (Resize m) spares = prefix_resized end b m (done (Resize m) b) spares (done_has (Resize m) spares) refl
  prefix_done Settle spares = prefix_kept end b (done Settle b) (done_has Settle spares) refl
  prefix_done Remove spares = absurd spares
  prefix_done Look spares = prefix_same end b

  prefix_failed : (change : Change) (c : Blob) → SparesTo end change → FailedTo change b c → SparedPrefix end b c
  prefix_failed Make c spares failed = absurd spares
  prefix_failed (Write at bytes) c spares part = prefix_written end b at bytes c spares (failed_has (Write at bytes) c spares part) (omega (arith, part.1.no_shorter, content))
      (λ i inside lt. ap (λ (l : List ℕ). get_or l i 0) is ∙ part.1.outside i (omega (arith, inside, content)) (inl lt))
    where
      is : c.content ≡ part.0
      is = ap (λ (x : Blob). x.content) part.2

      content : length c.content ≡ length part.0
      content = ap length is
  prefix_failed (Resize m) c spares (inl same) = prefix_kept end b c (failed_has (Resize m) c spares (inl same)) (ap (λ (x : Blob). x.content) same)
  prefix_failed (Resize m) c spares (inr same) = prefix_resized end b m c spares (failed_has (Resize m) c spares (inr same)) (ap (λ (x : Blob). x.content) same)
  prefix_failed Settle c spares same = subst (SparedPrefix end b) (sym same) (prefix_same end b)
  prefix_failed Remove c spares failed = absurd spares
  prefix_failed Look c spares same = subst (SparedPrefix end b) (sym same) (prefix_same end b)

pub prefix_more : (end : ℕ) (a b c : Blob) → SparedPrefix end a b → SparedPrefix end b c → SparedPrefix end a c
prefix_more end a b c first second = record {
  reads = λ i lt. second.reads i lt ∙ first.reads i lt;
  long = omega (arith, first.long, second.long);
  crashes = λ n v le has. second.crashes n v le (first.crashes n v le has);
}

pub prefix_start : (end : ℕ) (key : Key) (t : Timeline) → SparesPrefix end key t t
prefix_start end key t = only_start t key (SparedPrefix end (disk t key)) (prefix_same end (disk t key))

-- the blob after the calls
pub prefix_now : (end : ℕ) (key : Key) (a b : Timeline) → SparesPrefix end key a b → SparedPrefix end (disk a key) (disk b key)
prefix_now end key a b spares = (always_now a b (OnlyAt key (disk a) (SparedPrefix end (disk a key))) spares).here

-- one call more
pub prefix_on : {T : Type 0} (end : ℕ) (key : Key) (a b c : Timeline) (change : Change) (result : Result T DevError) → SparesPrefix end key a b → Passes key change result b c → SparesTo end change → SparesPrefix end key a c
prefix_on end key a b c change result first passes spares = kept_on (SparedPrefix end (disk a key)) key (disk a) a b c change result first passes
    (λ x has. prefix_more end (disk a key) x (during change x) has (prefix_during end x change spares))
    (λ x has. prefix_more end (disk a key) x (done change x) has (prefix_done end x change spares))
    (λ x y has failed. prefix_more end (disk a key) x y has (prefix_failed end x change y spares failed))

pub prefix_settle : {T : Type 0} (end : ℕ) (key : Key) (a b c : Timeline) (result : Result T DevError) → SparesPrefix end key a b → Passes key Settle result b c → SparesPrefix end key a c
prefix_settle end key a b c result first passes = prefix_on end key a b c Settle result first passes tt
