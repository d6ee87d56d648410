-- What the two calls by which a page is flushed leave of it, at each moment.
use Rattle.std.proofs.Common.{◌≡◌, ◌≢◌, inl, inr, ℕ, ◌+◌, ◌-◌, ◌*◌, ◌^◌, ◌<◌, ◌≤◌, not, Bool, true, false, cond, List, ◌++◌, length, get_or, drop, Result, Ok, refl, sym, ◌∙◌, ap, subst, arith, length-append, length-drop}
use Rattle.std.proofs.lemmas.List.{get_or-drop, get_or_append_left}
use Rattle.std.proofs.lemmas.Bool.{cases_order, eq-eqb, ne_eqb}
use Rattle.std.proofs.lemmas.Bool.Decides.{Decides-ltb}
use Rattle.blob_device.specs.declared.error.DevError.{DevError}
use Rattle.blob_device.specs.Disk.{Key, Blob, Disk, past}
use Rattle.blob_device.specs.Change.{Write, written}
use Rattle.blob_device.specs.Timeline.{Timeline, disk, Passes, Always, OnlyAt}
use Rattle.blob_device.specs.lemmas.Moments.{always_now, always_then, always_weaker, ok_blob}
use Rattle.sealed_pages.specs.ChanceSeal.{Leaves}
use Rattle.sealed_pages.specs.Flushing.{next_slot, last_slot, with_slot, Quiet, Data, Sound, Held, Stands, Flushed, Ready, Alone}
use Rattle.sealed_pages.specs.Slots.{slot_bytes}
use Rattle.sealed_pages.specs.View.{View, view, page_at, slot_at, StandsAt}
use Rattle.blob_device.specs.lemmas.Guards.{sealed_on, sealed_start}
use Rattle.sealed_pages.specs.lemmas.Had.{had_write}
use Rattle.sealed_pages.specs.lemmas.slots.SealedBytes.{all_map, stands_leaves}
use Rattle.sealed_pages.specs.lemmas.slots.SlotSteps.{flushed_page, held_data, held_slot, length-slot_bytes}
use Rattle.sealed_pages.specs.lemmas.slots.Steps.{data_quiet, data_same, tidy_sound}
use Rattle.blob_device.proofs.general.Numbers.{times_more}

pub only_weaker : (a b : Timeline) (k : Key) (from : Disk) (Q R : Blob → Type 0) → ((x : Blob) → Q x → R x) → Always a b (OnlyAt k from Q) → Always a b (OnlyAt k from R)
only_weaker a b k from Q R weaker always = always_weaker a b (OnlyAt k from Q) (OnlyAt k from R) (λ d only. record { here = weaker (d k) only.here; others = only.others }) always

pub other_slot : (a b : Bool) → b ≡ not a → a ≢ b
other_slot true b is e = cc (is, e)
other_slot false b is e = cc (is, e)

module _ (seal : List ℕ → ℕ) (P : ℕ) (bytes : List ℕ) (F L : ℕ) (newest : Bool) (key : Key) (t0 : Timeline) (k f : ℕ) (page : List ℕ) (b : Bool) where
  -- what a call on page k begins with
  pub record Begun : Type 0 where
    pub seal_fits : (x : List ℕ) → seal x < 2 ^ 32
    pub small : P < 2 ^ 16
    pub ready : Ready seal P bytes F L newest (disk t0 key)
    pub is : F ≡ k * P + f
    pub new : f < length page
    pub size : length page ≤ P
    pub places : page_at P k + (P + 12) < 2 ^ 64
    pub at : StandsAt bytes (k * P) page
    pub pick : b ≡ next_slot P L newest k

  module _ (begun : Begun) where
    pub was : Flushed seal P bytes F begun.ready.τ (disk t0 key).content
    was = begun.ready.flushed

    pub short : f < P
    short = omega (arith, begun.new, begun.size)

    pub pos : 1 ≤ P
    pos = omega (arith, begun.new, begun.size)

    length-chunk : length (drop f page) ≡ length page - f
    length-chunk = length-drop f page

    chunk_end : f + length (drop f page) ≤ P
    chunk_end = omega (arith, length-drop f page, begun.new, begun.size)

    pub chunk_is : (i : ℕ) → i < length (drop f page) → get_or (drop f page) i 0 ≡ get_or bytes (F + i) 0
    chunk_is i lt = get_or-drop f page i 0 ∙ begun.at.same (f + i) (omega (arith, lt, length-drop f page))
        ∙ (let e : k * P + (f + i) ≡ F + i = omega (arith, begun.is) in ap (λ (j : ℕ). get_or bytes j 0) e)

    other : k * P < L → begun.ready.σ k ≢ b
    other lt =
        let is_newest : begun.ready.σ k ≡ newest = begun.ready.last k lt (omega (arith, begun.ready.order, begun.is, short)) in
        let is_not : b ≡ not newest = begun.pick ∙ ap (λ (t : Bool). cond t (not newest) false) ((Decides-ltb (k * P) L).1 lt) in
        subst (λ (x : Bool). x ≢ b) (sym is_newest) (other_slot newest b is_not)

    content1 : List ℕ
    content1 = written (disk t0 key).content (page_at P k + f) (drop f page)

    quiet1 : Quiet P F (view (written (disk t0 key).content (page_at P k + f) (drop f page)))
    quiet1 = data_quiet seal P bytes F (disk t0 key).content k f (page_at P k + f) (drop f page) begun.is short refl chunk_end was.quiet

    pub data1 : Data P bytes (F + length (drop f page)) (view (written (disk t0 key).content (page_at P k + f) (drop f page)))
    data1 = data_same seal P bytes F (disk t0 key).content k f (page_at P k + f) (drop f page) begun.is short refl chunk_end was.same chunk_is

    pub page_one : {r : Result (Unit {0}) DevError} {t1 : Timeline} → Passes key (Write (page_at P k + f) (drop f page)) r t0 t1
        → Always t0 t1 (OnlyAt key (disk t0) (Stands seal P bytes begun.ready.w L begun.ready.σ))
    page_one passes = sealed_on (sealed_start t0 key (Held seal P begun.ready.w L begun.ready.σ) (view begun.ready.w) (Sound seal P bytes) begun.ready.stands) passes
        (held_data seal P begun.ready.w L begun.ready.σ (disk t0 key) begun.ready.stands.guards F pos begun.ready.settled begun.ready.order was.quiet k f (page_at P k + f) (drop f page) begun.is short refl chunk_end)
        (tidy_sound seal P bytes F (written (disk t0 key).content (page_at P k + f) (drop f page)) was.fits quiet1 (λ j i lt below. data1 j i lt (omega (arith, below))))

    pub page_content : (t1 : Timeline) (v : Unit {0}) → Passes {T = Unit {0}} key (Write (page_at P k + f) (drop f page)) (Ok v) t0 t1 → (disk t1 key).content ≡ written (disk t0 key).content (page_at P k + f) (drop f page)
    page_content t1 v passes = ap (λ (x : Blob). x.content) (ok_blob key (Write (page_at P k + f) (drop f page)) v t0 t1 passes)

    six : List ℕ
    six = slot_bytes seal P page

    done_now : Flushed seal P bytes (F + length (drop f page)) (with_slot begun.ready.τ k b) (written (written (disk t0 key).content (page_at P k + f) (drop f page)) (slot_at P k b) (slot_bytes seal P page))
    done_now = flushed_page seal P bytes F begun.ready.τ (disk t0 key).content k f (page_at P k + f) b (drop f page) page begun.places begun.seal_fits begun.small pos was begun.is short refl
        (omega (arith, length-drop f page, begun.new)) begun.size (omega (arith, length-drop f page, begun.new)) (omega (arith, length-drop f page, begun.new, begun.is, begun.at.room)) chunk_is begun.at.same

    pub page_two : {v : Unit {0}} {r : Result (Unit {0}) DevError} {t1 t2 : Timeline} → Passes {T = Unit {0}} key (Write (page_at P k + f) (drop f page)) (Ok v) t0 t1
        → Passes key (Write (slot_at P k b) (slot_bytes seal P page)) r t1 t2 → Always t0 t2 (OnlyAt key (disk t0) (Stands seal P bytes begun.ready.w L begun.ready.σ))
    page_two {v = v} {t1 = t1} first second =
        let one = page_one first in
        let now : Stands seal P bytes begun.ready.w L begun.ready.σ (disk t1 key) = (always_now t0 t1 (OnlyAt key (disk t0) (Stands seal P bytes begun.ready.w L begun.ready.σ)) one).here in
        sealed_on one second
        (held_slot seal P begun.ready.w L begun.ready.σ (disk t1 key) now.guards k b (slot_bytes seal P page) (length-slot_bytes seal P page) other)
        (subst (λ (c : List ℕ). Sound seal P bytes (written c (slot_at P k b) (slot_bytes seal P page))) (sym (page_content t1 v first))
        (tidy_sound seal P bytes (F + length (drop f page)) (written (written (disk t0 key).content (page_at P k + f) (drop f page)) (slot_at P k b) (slot_bytes seal P page)) done_now.fits done_now.quiet done_now.same))

    pub page_leaves : {t2 : Timeline} → Always t0 t2 (OnlyAt key (disk t0) (Stands seal P bytes begun.ready.w L begun.ready.σ)) → Always t0 t2 (OnlyAt key (disk t0) (Leaves seal P bytes L))
    page_leaves {t2 = t2} always = only_weaker t0 t2 key (disk t0) (Stands seal P bytes begun.ready.w L begun.ready.σ) (Leaves seal P bytes L)
        (λ x stands. stands_leaves seal P begun.ready.w L begun.ready.σ bytes x pos begun.ready.settled stands) always

    pub page_ready : {v u : Unit {0}} {t1 t2 : Timeline} → Passes {T = Unit {0}} key (Write (page_at P k + f) (drop f page)) (Ok v) t0 t1
        → Passes {T = Unit {0}} key (Write (slot_at P k b) (slot_bytes seal P page)) (Ok u) t1 t2 → Ready seal P bytes (k * P + length page) L newest (disk t2 key)
    page_ready {v = v} {u = u} {t1 = t1} {t2 = t2} first second = record {
      w = begun.ready.w;
      σ = begun.ready.σ;
      τ = with_slot begun.ready.τ k b;
      stands = (always_now t0 t2 (OnlyAt key (disk t0) (Stands seal P bytes begun.ready.w L begun.ready.σ)) (page_two first second)).here;
      settled = begun.ready.settled;
      flushed = subst (Flushed seal P bytes (k * P + length page) (with_slot begun.ready.τ k b)) (sym content2) (subst (λ (n : ℕ). Flushed seal P bytes n (with_slot begun.ready.τ k b) (written (written (disk t0 key).content (page_at P k + f) (drop f page)) (slot_at P k b) (slot_bytes seal P page))) far done_now);
      order = omega (arith, begun.ready.order, begun.is, begun.new);
      rest = λ e. absurd (omega (arith, e, begun.ready.order, begun.is, begun.new));
      had = had_write key (slot_at P k b) (slot_bytes seal P page) u t1 t2 second;
      last = begun.ready.last;
      head = head_is;
    }
      where
        head_is : (j : ℕ) → j * P < k * P + length page → k * P + length page < j * P + P → with_slot begun.ready.τ k b j ≡ last_slot P (k * P + length page) L newest j
        head_is j low high = elim (cases_order j k) [
          | inl same ↦ (let longer : (k * P + length page ≡ L) → ⊥ = λ e. omega (arith, e, begun.ready.order, begun.is, begun.new) in
              ap (λ (t : Bool). cond t b (begun.ready.τ j)) (eq-eqb j k same) ∙ begun.pick ∙ ap (next_slot P L newest) (sym same)
              ∙ sym (ap (λ (t : Bool). cond t newest (next_slot P L newest j)) (ne_eqb (k * P + length page) L longer)))
          | inr (inl less) ↦ absurd (omega (arith, high, times_more j k P less))
          | inr (inr more) ↦ absurd (omega (arith, low, begun.size, times_more k j P more))
        ]

        content2 : (disk t2 key).content ≡ written (written (disk t0 key).content (page_at P k + f) (drop f page)) (slot_at P k b) (slot_bytes seal P page)
        content2 = ap (λ (x : Blob). x.content) (ok_blob key (Write (slot_at P k b) (slot_bytes seal P page)) u t1 t2 second)
            ∙ ap (λ (c : List ℕ). written c (slot_at P k b) (slot_bytes seal P page)) (page_content t1 v first)

        far : F + length (drop f page) ≡ k * P + length page
        far = omega (arith, length-drop f page, begun.is, begun.new)

pub only_then : (a b c : Timeline) (k : Key) (Q : Blob → Type 0) → Always a b (OnlyAt k (disk a) Q) → Always b c (OnlyAt k (disk b) Q) → Always a c (OnlyAt k (disk a) Q)
only_then a b c k Q first second =
    let others = (always_now a b (OnlyAt k (disk a) Q) first).others in
    always_then a b c (OnlyAt k (disk a) Q) first
    (always_weaker b c (OnlyAt k (disk b) Q) (OnlyAt k (disk a) Q) (λ d only. record { here = only.here; others = λ q other. only.others q other ∙ others q other }) second)

-- more bytes behind those that are known
module _ (seal : List ℕ → ℕ) (P : ℕ) (bytes more : List ℕ) where
  pub sound_more : (c : List ℕ) → Sound seal P bytes c → Sound seal P (bytes ++ more) c
  sound_more c sound = record {
    within = λ k b some. omega (arith, sound.within k b some, length-append bytes more);
    same = λ k b i lt. sound.same k b i lt ∙ sym (get_or_append_left bytes more 0 (k * P + i) (omega (arith, lt, sound.within k b (omega (arith, lt)))));
  }

  pub data_more : (F : ℕ) (v : View) → F ≤ length bytes → Data P bytes F v → Data P (bytes ++ more) F v
  data_more F v fits same k i lt below = same k i lt below ∙ sym (get_or_append_left bytes more 0 (k * P + i) (omega (arith, below, fits)))

  pub ready_more : (F L : ℕ) (newest : Bool) (b : Blob) → Ready seal P bytes F L newest b → Ready seal P (bytes ++ more) F L newest b
  ready_more F L newest b ready = record {
    w = ready.w;
    σ = ready.σ;
    τ = ready.τ;
    stands = record { guards = ready.stands.guards; all = all_map {A = Sound seal P bytes} {B = Sound seal P (bytes ++ more)} sound_more (past b) ready.stands.all };
    settled = ready.settled;
    flushed = record {
      fits = omega (arith, ready.flushed.fits, length-append bytes more);
      quiet = ready.flushed.quiet;
      same = data_more F (view b.content) ready.flushed.fits ready.flushed.same;
      covers = ready.flushed.covers;
    };
    order = ready.order;
    rest = ready.rest;
    had = ready.had;
    last = ready.last;
    head = ready.head;
  }

pub alone_then : (a b c : Timeline) (key : Key) → Alone key a b → Alone key b c → Alone key a c
alone_then a b c key first second = only_then a b c key (λ x. Unit {0}) first second
