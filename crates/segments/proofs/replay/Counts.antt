-- How many reads of a section's blob are left to a replay, after one section changed.
use Rattle.std.specs.Prelude.{◌≡◌, ◌≢◌, ℕ, ◌+◌, ◌≤◌, eqb, leb, cond, Bool, List, IsSomeAnd, Option, None, Some}
use Rattle.std.proofs.Common.{inl, inr, refl, sym, ◌∙◌, ap, subst, arith}
use Rattle.std.proofs.lemmas.Bool.{cases_Bool, eq-eqb, eqb-true, le-leb, leb-true}
use Rattle.blob_device.specs.Disk.{Key, Disk}
use Rattle.blob_device.specs.Opened.{Opened, OpenedList, reads_of}
use Rattle.sealed_pages.specs.Cutting.{FewReads}
use Rattle.sealed_pages.specs.Entries.{NoReads}
use Rattle.sealed_pages.specs.declared.page_blob.PageBlob.{PageBlob}
use Rattle.sealed_pages.specs.Shown.{shown}
use Rattle.sealed_pages.specs.Buffer.{size_of}
use Rattle.sealed_pages.specs.Readers.{unread_of}
use Rattle.sealed_pages.specs.Reads.{pages_for}
use Rattle.section_manager.specs.Sections.{IsHeld}
use Rattle.segments.specs.FixedReplay.{Place, Walk, IsAhead, IsIn}
use Rattle.segments.specs.FixedStepping.{standing, ahead_count, place_count, held_count, reads_left}
use Rattle.segments.specs.lemmas.replay.Walks.{IsBehind, OnlyOne}

-- the replay stands in another section
place_none : (o : Option Place) (t more x : ℕ) → (IsSomeAnd o (λ r. r.section ≡ t) → ⊥) → place_count o t more x ≡ x
place_none None t more x out = refl
place_none (Some r) t more x out = elim (cases_Bool (eqb r.section t)) [
  | inl is ↦ absurd (out (eqb-true r.section t is))
  | inr not ↦ ap (λ (b : Bool). cond b (unread_of r.reader + more) x) not
]

-- it stands in this one
pub place_in : (r : Place) (t more x : ℕ) → r.section ≡ t → place_count (Some r) t more x ≡ unread_of r.reader + more
place_in r t more x is = ap (λ (b : Bool). cond b (unread_of r.reader + more) x) (eq-eqb r.section t is)

ahead_none : (o : Option ℕ) (t n : ℕ) → (IsSomeAnd o (λ k. k ≤ t) → ⊥) → ahead_count o t n ≡ 0
ahead_none None t n out = refl
ahead_none (Some k) t n out = elim (cases_Bool (leb k t)) [
  | inl is ↦ absurd (out (leb-true k t is))
  | inr not ↦ ap (λ (b : Bool). cond b n 0) not
]

pub ahead_all : (o : Option ℕ) (t n : ℕ) → IsSomeAnd o (λ k. k ≤ t) → ahead_count o t n ≡ n
ahead_all None t n here = absurd here
ahead_all (Some k) t n here = ap (λ (b : Bool). cond b n 0) (le-leb k t here)

ahead_less : (o p : Option ℕ) (t n : ℕ) → (IsSomeAnd o (λ k. k ≤ t) → IsSomeAnd p (λ k. k ≤ t)) → ahead_count o t n ≤ ahead_count p t n
ahead_less None p t n to = omega arith
ahead_less (Some k) p t n to = elim (cases_Bool (leb k t)) [
  | inl is ↦ (let here : k ≤ t = leb-true k t is in omega (arith, ahead_all p t n (to here), ap (λ (b : Bool). cond b n 0) is))
  | inr not ↦ (let none : ahead_count (Some k) t n ≡ 0 = ap (λ (b : Bool). cond b n 0) not in omega (arith, none))
]

module _ {F S : Type 0} {gs : _} (seal : List ℕ → ℕ) (size : ℕ) {told : Type 0} (s : ℕ) (old new : Walk F (PageBlob S gs)) (d e : Disk) (one : OnlyOne seal size told s old new d e) (behind : IsBehind seal size s old new)
    (new_in : (x : ℕ) → IsIn new x → x ≡ s) where
  -- no more of another section are left
  pub count_other : (t : ℕ) → t ≢ s → IsHeld old.journal.sections t → reads_left new t ≤ reads_left old t
  count_other t other held = omega (arith, go (old.journal.sections.held t), opens)
    where
      more : ℕ
      more = cond (old.journal.unrecovered t) 1 0

      opens : reads_left new t ≡ held_count (old.journal.sections.held t) new.place new.next_section (cond (old.journal.unrecovered t) 1 0) t
      opens = λ i. held_count ((one.others t other).held i) new.place new.next_section (cond (one.same.unrecovered t i) 1 0) t

      go : (h : Option (PageBlob S gs)) → held_count h new.place new.next_section (cond (old.journal.unrecovered t) 1 0) t ≤ held_count h old.place old.next_section (cond (old.journal.unrecovered t) 1 0) t
      go None = omega arith
      go (Some u) =
          let n = pages_for u.page_size (size_of (shown u)) + cond (old.journal.unrecovered t) 1 0 in
          omega (
            arith,
            place_none new.place t (cond (old.journal.unrecovered t) 1 0) (ahead_count new.next_section t n) (λ is. other (new_in t is)),
            place_none old.place t (cond (old.journal.unrecovered t) 1 0) (ahead_count old.next_section t n) (λ is. other (behind.in_old t is)),
            ahead_less new.next_section old.next_section t n (λ h. ((behind.ahead t (one.numbers t held)).0 h).0),
          )

-- none are left of a section that was gone over
pub count_over : {F S : Type 0} {gs : _} (w : Walk F (PageBlob S gs)) (s : ℕ) → w.place ≡ None → (IsAhead w s → ⊥) → reads_left w s ≡ 0
count_over {S = S} {gs = gs} w s none behind = go (w.journal.sections.held s)
  where
    go : (h : Option (PageBlob S gs)) → held_count h w.place w.next_section (cond (w.journal.unrecovered s) 1 0) s ≡ 0
    go None = refl
    go (Some u) =
        let n = pages_for u.page_size (size_of (shown u)) + cond (w.journal.unrecovered s) 1 0 in
        ap (λ (o : Option Place). place_count o s (cond (w.journal.unrecovered s) 1 0) (ahead_count w.next_section s n)) none ∙ ahead_none w.next_section s n behind

-- those of the section in which it stands
pub count_here : {F S : Type 0} {gs : _} (w : Walk F (PageBlob S gs)) (r : Place) (u : PageBlob S gs) → w.place ≡ Some r → w.journal.sections.held r.section ≡ Some u → reads_left w r.section ≡ unread_of r.reader + cond (w.journal.unrecovered r.section) 1 0
count_here w r u at held =
    let more = cond (w.journal.unrecovered r.section) 1 0 in
    let n = ahead_count w.next_section r.section (pages_for u.page_size (size_of (shown u)) + more) in
    (λ i. held_count (held i) (at i) w.next_section (cond (w.journal.unrecovered r.section) 1 0) r.section) ∙ place_in r r.section more n refl

-- and those of one that is ahead
pub count_ahead : {F S : Type 0} {gs : _} (w : Walk F (PageBlob S gs)) (s : ℕ) (u : PageBlob S gs) → w.place ≡ None → w.journal.sections.held s ≡ Some u → IsAhead w s
    → reads_left w s ≡ pages_for u.page_size (size_of (shown u)) + cond (w.journal.unrecovered s) 1 0
count_ahead w s u none held ahead =
    (λ i. held_count (held i) (none i) w.next_section (cond (w.journal.unrecovered s) 1 0) s) ∙ ahead_all w.next_section s (pages_for u.page_size (size_of (shown u)) + cond (w.journal.unrecovered s) 1 0) ahead

-- those of a section in which it does not stand are the same wherever it stands
pub count_apart : {F S : Type 0} {gs : _} (w : Walk F (PageBlob S gs)) (r q : Place) (t : ℕ) → (r.section ≡ t → ⊥) → (q.section ≡ t → ⊥) → reads_left (standing w q) t ≡ reads_left (standing w r) t
count_apart {S = S} {gs = gs} w r q t out also = go (w.journal.sections.held t)
  where
    go : (h : Option (PageBlob S gs)) → held_count h (Some q) w.next_section (cond (w.journal.unrecovered t) 1 0) t ≡ held_count h (Some r) w.next_section (cond (w.journal.unrecovered t) 1 0) t
    go None = refl
    go (Some u) =
        let more = cond (w.journal.unrecovered t) 1 0 in
        let n = ahead_count w.next_section t (pages_for u.page_size (size_of (shown u)) + more) in
        place_none (Some q) t more n also ∙ sym (place_none (Some r) t more n out)

-- those of a reader that has as many pages to read
pub count_same : {F S : Type 0} {gs : _} (w : Walk F (PageBlob S gs)) (r q : Place) (t : ℕ) → q.section ≡ r.section → unread_of q.reader ≡ unread_of r.reader → reads_left (standing w q) t ≡ reads_left (standing w r) t
count_same {S = S} {gs = gs} w r q t there pages = go (w.journal.sections.held t)
  where
    go : (h : Option (PageBlob S gs)) → held_count h (Some q) w.next_section (cond (w.journal.unrecovered t) 1 0) t ≡ held_count h (Some r) w.next_section (cond (w.journal.unrecovered t) 1 0) t
    go None = refl
    go (Some u) = λ i. cond (eqb (there i) t) (pages i + cond (w.journal.unrecovered t) 1 0) (ahead_count w.next_section t (pages_for u.page_size (size_of (shown u)) + cond (w.journal.unrecovered t) 1 0))

-- what a call has begun, as the list of opened blobs says
same_reads : (o : Option Opened) (n : ℕ) → IsSomeAnd o (λ x. x.reads ≡ n) → reads_of o ≤ n
same_reads None n is = absurd is
same_reads (Some x) n is = omega (arith, is)

more_reads : (o : Option Opened) (n : ℕ) → IsSomeAnd o (λ x. x.reads ≤ n) → reads_of o ≤ n
more_reads None n is = absurd is
more_reads (Some x) n is = is

pub no_reads : (k K : Key) (o p q : OpenedList) → k ≡ K → p ≡ o → NoReads k p q → reads_of (q K) ≤ reads_of (o K)
no_reads k K o p q key same none = subst (λ (l : OpenedList). reads_of (q K) ≤ reads_of (l K)) same (subst (λ (x : Key). reads_of (q x) ≤ reads_of (p x)) key (same_reads (q k) (reads_of (p k)) none.here))

pub few_reads : (n : ℕ) (k K : Key) (o p q : OpenedList) → k ≡ K → p ≡ o → FewReads n k p q → reads_of (q K) ≤ reads_of (o K) + n
few_reads n k K o p q key same few = subst (λ (l : OpenedList). reads_of (q K) ≤ reads_of (l K) + n) same (subst (λ (x : Key). reads_of (q x) ≤ reads_of (p x) + n) key (more_reads (q k) (reads_of (p k) + n) few.here))
