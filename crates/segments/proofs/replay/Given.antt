-- What the calls of a replay gave is all that was to be given, once none is left.
use Rattle.std.specs.Prelude.{⊤, ◌≡◌, ◌⊎◌, ◌↔◌, ℕ, ◌+◌, ◌≤◌, true, List, [], ◌∷◌, ◌++◌, Option, Some, None}
use Rattle.std.specs.List.{Contains}
use Rattle.std.proofs.Common.{inl, inr, refl, sym, ◌∙◌, ap, subst, arith}
use Rattle.std.proofs.lemmas.Bool.{cases_order}
use Rattle.std.proofs.lemmas.List.{append-nil}
use Rattle.std.proofs.lemmas.List.Elements.{Contains-append_left, Contains-append_right, Contains-push, Contains-push_cases}
use Rattle.blob_device.specs.Disk.{Key}
use Rattle.blob_device.specs.Opened.{reads_of}
use Rattle.sealed_pages.specs.declared.page_blob.PageBlob.{PageBlob}
use Rattle.section_manager.specs.Sections.{section_key, key_of, IsHeld}
use Rattle.segments.specs.FixedGiving.{Given, At, Call, given_by, given, AreAscending, GivesOne, IsCall, HasRun, AreAllLeft, ReadsAllOnce}
use Rattle.segments.specs.FixedItems.{item_at, IsItem}
use Rattle.segments.specs.FixedReplay.{IsLeft, IsDrained, StandsBefore, kept_bytes}
use Rattle.segments.specs.FixedStepping.{reads_left}
use Rattle.segments.proofs.replay.DrainLemmas.{kept_item}
use Rattle.blob_device.proofs.general.Options.{none_in}

-- nothing is left of a replay that is drained, or has ended
pub none_left : {F S : Type 0} {gs : _} (seal : List ℕ → ℕ) (size : ℕ) (now : At F (PageBlob S gs)) → IsDrained now.walk ⊎ (now.walk.ended ≡ true)
    → (s p : ℕ) → IsLeft seal size now.walk now.disk s p → ⊥
none_left seal size now (inr ended) s p l = (let on = l.goes_on in cc (ended, on))
none_left seal size now (inl drained) s p l = elim l.ahead [
  | inl here ↦ drained.last s here.0 here.1
  | inr there ↦ none_in now.walk.place (λ r. (r.section ≡ s) × (r.position ≤ p)) drained.between there
]

-- items behind which one stands ascend with it
pub ascending_push : {V : Type 0} (xs : List (Given V)) (x : Given V) → AreAscending xs → ((y : Given V) → Contains xs y → StandsBefore y.0 y.1 x.0 x.1) → AreAscending (xs ++ x ∷ [])
ascending_push [] x ascend behind = (λ y none. absurd (omega (arith, none.1)), tt)
ascending_push (z ∷ xs) x ascend behind = (
  λ y has. elim (Contains-push_cases xs x y has) [ inl before ↦ ascend.0 y before | inr is ↦ subst (λ (w : Given _). StandsBefore z.0 z.1 w.0 w.1) is (behind z (Contains-append_left (z ∷ []) xs z (Contains-push [] z))) ],
  ascending_push xs x ascend.1 (λ y has. behind y (Contains-append_right (z ∷ []) xs y has)),
)

module _ {F S V : Type 0} {gs : _} (seal : List ℕ → ℕ) (size : ℕ) (spelling : V → List ℕ) (accepted : V → Unit {0} → Type 0) (from : At F (PageBlob S gs)) where
  -- What holds behind some calls, which gave xs.
  pub record HasCome (xs : List (Given V)) (now : At F (PageBlob S gs)) : Type 0 where
    pub partition : now.walk.journal.sections.partition ≡ from.walk.journal.sections.partition
    pub held : (s : ℕ) → IsHeld now.walk.journal.sections s ↔ IsHeld from.walk.journal.sections s
    pub reads : (s : ℕ) → IsHeld from.walk.journal.sections s → reads_of (now.opened (key_of from.walk.journal.sections s)) + reads_left now.walk s
        ≤ reads_of (from.opened (key_of from.walk.journal.sections s)) + reads_left from.walk s
    pub ascending : AreAscending xs
    pub items : (x : Given V) → Contains xs x → IsLeft seal size from.walk from.disk x.0 x.1
        × IsItem spelling accepted (item_at size (kept_bytes seal size from.walk from.disk x.0) x.1) x.2
    pub all : (s p : ℕ) → IsLeft seal size from.walk from.disk s p → ((v : V) × Contains xs (s, p, v)) ⊎ IsLeft seal size now.walk now.disk s p
    -- what is left was, from the same bytes, and stands behind what was given
    pub left : (s p : ℕ) → IsLeft seal size now.walk now.disk s p → IsLeft seal size from.walk from.disk s p
    pub kept : (s p : ℕ) → IsLeft seal size now.walk now.disk s p → item_at size (kept_bytes seal size now.walk now.disk s) p ≡ item_at size (kept_bytes seal size from.walk from.disk s) p
    pub behind : (s p : ℕ) → IsLeft seal size now.walk now.disk s p → (x : Given V) → Contains xs x → StandsBefore x.0 x.1 s p

  come_start : HasCome [] from
  come_start = record {
    partition = refl;
    held = λ s. (λ h. h, λ h. h);
    reads = λ s held. omega arith;
    ascending = tt;
    items = λ x none. absurd (omega (arith, none.1));
    all = λ s p l. inr l;
    left = λ s p l. l;
    kept = λ s p l. refl;
    behind = λ s p l x none. absurd (omega (arith, none.1));
  }

  module _ (xs : List (Given V)) (c : Call F (PageBlob S gs) V) (come : HasCome xs c.old) (is : IsCall seal size spelling accepted c) where
    partition_on : c.new.walk.journal.sections.partition ≡ from.walk.journal.sections.partition
    partition_on = is.same.bounds.place.partition ∙ come.partition

    held_on : (s : ℕ) → IsHeld c.new.walk.journal.sections s ↔ IsHeld from.walk.journal.sections s
    held_on s = (λ h. (come.held s).0 ((is.held s).0 h), λ h. (is.held s).1 ((come.held s).1 h))

    reads_on : (s : ℕ) → IsHeld from.walk.journal.sections s → reads_of (c.new.opened (key_of from.walk.journal.sections s)) + reads_left c.new.walk s
        ≤ reads_of (from.opened (key_of from.walk.journal.sections s)) + reads_left from.walk s
    reads_on s held =
        let here = subst (λ (k : Key). reads_of (c.new.opened k) + reads_left c.new.walk s ≤ reads_of (c.old.opened k) + reads_left c.old.walk s) (ap (λ (p : List ℕ). section_key p s) come.partition) (is.once s ((come.held s).1 held)) in
        omega (arith, here, come.reads s held)

    -- an item that is left still, and was, has its bytes
    kept_on : (s p : ℕ) → IsLeft seal size c.new.walk c.new.disk s p → IsLeft seal size c.old.walk c.old.disk s p
        → item_at size (kept_bytes seal size c.new.walk c.new.disk s) p ≡ item_at size (kept_bytes seal size from.walk from.disk s) p
    kept_on s p l was = kept_item seal size ⊤ c.old.walk c.new.walk c.old.disk c.new.disk is.same is.held is.floors is.bytes (is.items l.goes_on) tt s p was.whole ∙ come.kept s p was

    come_none : GivesOne seal size spelling accepted c.old c.new None → HasCome xs c.new
    come_none gave = record {
      partition = partition_on;
      held = held_on;
      reads = reads_on;
      ascending = come.ascending;
      items = come.items;
      all = λ s p l. elim (come.all s p l) [ inl has ↦ inl has | inr here ↦ absurd (gave.0 s p here) ];
      left = λ s p l. absurd (none_left seal size c.new gave.1 s p l);
      kept = λ s p l. absurd (none_left seal size c.new gave.1 s p l);
      behind = λ s p l. absurd (none_left seal size c.new gave.1 s p l);
    }

    come_item : (x : Given V) → GivesOne seal size spelling accepted c.old c.new (Some x) → HasCome (xs ++ x ∷ []) c.new
    come_item x gave = record {
      partition = partition_on;
      held = held_on;
      reads = reads_on;
      ascending = ascending_push xs x come.ascending (come.behind x.0 x.1 gave.left);
      items = λ y has. elim (Contains-push_cases xs x y has) [
        | inl before ↦ come.items y before
        | inr here ↦ subst (λ (z : Given V). IsLeft seal size from.walk from.disk z.0 z.1 × IsItem spelling accepted (item_at size (kept_bytes seal size from.walk from.disk z.0) z.1) z.2) here
            (come.left x.0 x.1 gave.left, subst (λ (bytes : List ℕ). IsItem spelling accepted bytes x.2) (come.kept x.0 x.1 gave.left) gave.item)
      ];
      all = λ s p l. elim (come.all s p l) [
        | inl has ↦ inl (has.0, Contains-append_left xs (x ∷ []) (s, p, has.0) has.1)
        | inr here ↦ elim (cases_order x.0 s) [
          | inr (inl lt) ↦ inr ((gave.rest s p).1 (here, inl lt))
          | inr (inr gt) ↦ absurd (gave.first s p here (inl gt))
          | inl at ↦ elim (cases_order x.1 p) [
            | inr (inl lt) ↦ inr ((gave.rest s p).1 (here, inr (at, lt)))
            | inr (inr gt) ↦ absurd (gave.first s p here (inr (sym at, gt)))
            | inl place ↦ inl (x.2, subst (λ (q : ℕ). Contains (xs ++ x ∷ []) (s, q, x.2)) place (subst (λ (q : ℕ). Contains (xs ++ x ∷ []) (q, x.1, x.2)) at (Contains-push xs x)))
          ]
        ]
      ];
      left = λ s p l. come.left s p ((gave.rest s p).0 l).0;
      kept = λ s p l. kept_on s p l ((gave.rest s p).0 l).0;
      behind = λ s p l y has. elim (Contains-push_cases xs x y has) [
        | inl before ↦ come.behind s p ((gave.rest s p).0 l).0 y before
        | inr here ↦ subst (λ (z : Given V). StandsBefore z.0 z.1 s p) here ((gave.rest s p).0 l).1
      ];
    }

  come_on : (calls : List (Call F (PageBlob S gs) V)) (c : Call F (PageBlob S gs) V) → HasCome (given calls) c.old → IsCall seal size spelling accepted c
      → (o : Option (Given V)) → c.gave ≡ o → HasCome (given (c ∷ calls)) c.new
  come_on calls c come is None none = subst (λ (xs : List (Given V)). HasCome xs c.new) (sym (ap (λ (o : Option (Given V)). given calls ++ given_by o) none ∙ append-nil (given calls)))
      (come_none (given calls) c come is (subst (GivesOne seal size spelling accepted c.old c.new) none is.gave))
  come_on calls c come is (Some x) some = subst (λ (xs : List (Given V)). HasCome xs c.new) (sym (ap (λ (o : Option (Given V)). given calls ++ given_by o) some))
      (come_item (given calls) c come is x (subst (GivesOne seal size spelling accepted c.old c.new) some is.gave))

  pub has_come : (calls : List (Call F (PageBlob S gs) V)) (now : At F (PageBlob S gs)) → HasRun seal size spelling accepted from calls now → HasCome (given calls) now
  has_come [] now run = subst (λ (a : At F (PageBlob S gs)). HasCome [] a) (sym run) come_start
  has_come (c ∷ calls) now run = subst (λ (a : At F (PageBlob S gs)). HasCome (given (c ∷ calls)) a) (sym run.0) (come_on calls c (has_come calls c.old run.2) run.1 c.gave refl)

  -- once nothing is left, it was all
  pub all_given : (calls : List (Call F (PageBlob S gs) V)) (now : At F (PageBlob S gs)) → HasRun seal size spelling accepted from calls now → IsDrained now.walk
      → AreAllLeft seal size spelling accepted from (given calls) × ReadsAllOnce from now.opened
  all_given calls now run drained =
      let come = has_come calls now run in (
        record {
          ascending = come.ascending;
          items = come.items;
          all = λ s p l. elim (come.all s p l) [ inl has ↦ has | inr here ↦ absurd (none_left seal size now (inl drained) s p here) ];
        },
        λ s held. omega (arith, come.reads s held),
      )
