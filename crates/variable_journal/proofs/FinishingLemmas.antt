-- What the calls of a replay of frames gave is all that was to be given, once none is left; and the journal is whole
-- frames then.
use Rattle.std.specs.Prelude.{◌≡◌, ◌⊎◌, ℕ, ◌/◌, ◌<◌, ◌≤◌, Bool, true, false, List, [], ◌∷◌, ◌++◌, length, Option, Some, None, IsTrue}
use Rattle.std.specs.List.{Contains}
use Rattle.std.proofs.Common.{inl, inr, refl, sym, ◌∙◌, ap, subst, arith}
use Rattle.std.proofs.lemmas.Bool.{cases_lt, cases_order}
use Rattle.std.proofs.lemmas.List.{append-nil}
use Rattle.std.proofs.lemmas.List.Elements.{Contains-append_left, Contains-append_right, Contains-push, Contains-push_cases}
use Rattle.blob_device.specs.Disk.{Blob, Disk}
use Rattle.sealed_pages.specs.Buffer.{bytes_of}
use Rattle.sealed_pages.specs.SealedPrefix.{sealed_prefix}
use Rattle.sealed_pages.specs.Shown.{shown}
use Rattle.sealed_pages.specs.declared.page_blob.PageBlob.{PageBlob}
use Rattle.section_manager.specs.Sections.{key_of}
use Rattle.segments.specs.FixedFinishing.{GoesOver, Spares}
use Rattle.segments.specs.FixedLists.{Lists, bytes_held, section_bytes}
use Rattle.segments.specs.FixedReplay.{Walk, Place, IsGoneOver, IsDrained, HasWalk, StandsBefore, WalksOver, kept_of}
use Rattle.sealed_pages.specs.lemmas.cutting.Truncating.{all_flushed}
use Rattle.segments.specs.lemmas.replay.Kept.{sealed_flushed}
use Rattle.variable_journal.specs.lemmas.Frame.{rest_none}
use Rattle.variable_journal.specs.Finishing.{AreAllItems, AreInOrder, GivesNext, HasCalled, IsAsLeft, Moment, NextCall, given, given_by}
use Rattle.variable_journal.specs.Frames.{rest_of}
use Rattle.variable_journal.specs.Reading.{Spells}
use Rattle.variable_journal.specs.Replaying.{AreWalked, GivenItem, IsItemAt, IsItemLeft, given_bytes}
use Rattle.blob_device.proofs.general.Options.{none_in, some_there}

-- nothing is left of a replay that is drained, or has ended
none_left : {F S : Type 0} {gs : _} (seal : List ℕ → ℕ) (now : Moment F (PageBlob S gs)) → IsDrained now.walk ⊎ (now.walk.ended ≡ true)
    → (s o : ℕ) (i : List ℕ) → IsItemLeft seal now.walk now.disk s o i → ⊥
none_left seal now (inr ended) s o i l = (let on = l.byte.goes_on in cc (ended, on))
none_left seal now (inl drained) s o i l = elim l.byte.ahead [
  | inl here ↦ drained.last s here.0 here.1
  | inr there ↦ none_in now.walk.place (λ r. (r.section ≡ s) × (r.position ≤ o)) drained.between there
]

-- items behind which one stands are in order with it
order_push : {V : Type 0} (xs : List (GivenItem V)) (x : GivenItem V) → AreInOrder xs → ((y : GivenItem V) → Contains xs y → StandsBefore y.0 y.1 x.0 x.1) → AreInOrder (xs ++ x ∷ [])
order_push [] x ascend behind = (λ y none. absurd (omega (arith, none.1)), tt)
order_push (z ∷ xs) x ascend behind = (
  λ y has. elim (Contains-push_cases xs x y has) [ inl before ↦ ascend.0 y before | inr is ↦ subst (λ (w : GivenItem _). StandsBefore z.0 z.1 w.0 w.1) is (behind z (Contains-append_left (z ∷ []) xs z (Contains-push [] z))) ],
  order_push xs x ascend.1 (λ y has. behind y (Contains-append_right (z ∷ []) xs y has)),
)

-- what is left hangs on the blobs of the replay's sections alone
left_over : {F S : Type 0} {gs : _} (seal : List ℕ → ℕ) (w : Walk F (PageBlob S gs)) (d e : Disk) → ((s : ℕ) → d (key_of w.journal.sections s) ≡ e (key_of w.journal.sections s))
    → (s o : ℕ) (i : List ℕ) → IsItemLeft seal w d s o i → IsItemLeft seal w e s o i
left_over seal w d e same s o i l = (
    let bytes : given_bytes seal w d s ≡ given_bytes seal w e s = ap (λ (b : Blob). kept_of seal (w.journal.unrecovered s) (w.journal.sections.held s) b.content) (same s) in
    let byte = l.byte in
    record {
      byte = record { goes_on = byte.goes_on; begun = byte.begun; whole = subst (λ (y : List ℕ). o < length y / 1) bytes byte.whole; ahead = byte.ahead };
      whole = subst (λ (y : List ℕ). IsItemAt y o i) bytes l.whole;
    })

module _ {F S : Type 0} {gs : _} (seal : List ℕ → ℕ) (a b : Moment F (PageBlob S gs)) (is : IsAsLeft a b) where
  left_as : (s o : ℕ) (i : List ℕ) → IsItemLeft seal a.walk a.disk s o i → IsItemLeft seal b.walk b.disk s o i
  left_as s o i l = left_over seal b.walk a.disk b.disk is.blobs s o i (subst (λ (w : Walk F (PageBlob S gs)). IsItemLeft seal w a.disk s o i) is.walk l)

  left_back : (s o : ℕ) (i : List ℕ) → IsItemLeft seal b.walk b.disk s o i → IsItemLeft seal a.walk a.disk s o i
  left_back s o i l = subst (λ (w : Walk F (PageBlob S gs)). IsItemLeft seal w a.disk s o i) (sym is.walk) (left_over seal b.walk b.disk a.disk (λ q. sym (is.blobs q)) s o i l)

module _ {F S V C : Type 0} {gs : _} (seal : List ℕ → ℕ) (spelling : V → List ℕ) (accepted : V → C → Type 0) (config : C) (from : Moment F (PageBlob S gs)) where
  -- What holds behind some calls, which gave xs.
  pub record HasCome (xs : List (GivenItem V)) (now : Moment F (PageBlob S gs)) : Type 0 where
    pub ascending : AreInOrder xs
    pub items : (x : GivenItem V) → Contains xs x → (i : List ℕ) × IsItemLeft seal from.walk from.disk x.0 x.1 i × Spells spelling accepted config i x.3 × (x.2 ≡ length i)
    pub all : (s o : ℕ) (i : List ℕ) → IsItemLeft seal from.walk from.disk s o i → ((n : ℕ) × (v : V) × Contains xs (s, o, n, v)) ⊎ IsItemLeft seal now.walk now.disk s o i
    -- what is left was, and stands behind what was given
    pub left : (s o : ℕ) (i : List ℕ) → IsItemLeft seal now.walk now.disk s o i → IsItemLeft seal from.walk from.disk s o i
    pub behind : (s o : ℕ) (i : List ℕ) → IsItemLeft seal now.walk now.disk s o i → (x : GivenItem V) → Contains xs x → StandsBefore x.0 x.1 s o

  come_start : HasCome [] from
  come_start = record {
    ascending = tt;
    items = λ x none. absurd (omega (arith, none.1));
    all = λ s o i l. inr l;
    left = λ s o i l. l;
    behind = λ s o i l x none. absurd (omega (arith, none.1));
  }

  module _ (xs : List (GivenItem V)) (c : NextCall F (PageBlob S gs) V) (come : HasCome xs c.old) where
    come_none : GivesNext seal spelling accepted config c.old c.new None → HasCome xs c.new
    come_none gave = record {
      ascending = come.ascending;
      items = come.items;
      all = λ s o i l. elim (come.all s o i l) [ inl has ↦ inl has | inr here ↦ absurd (gave.0 s o i here) ];
      left = λ s o i l. absurd (none_left seal c.new gave.1 s o i l);
      behind = λ s o i l. absurd (none_left seal c.new gave.1 s o i l);
    }

    come_item : (x : GivenItem V) → GivesNext seal spelling accepted config c.old c.new (Some x) → HasCome (xs ++ x ∷ []) c.new
    come_item x gave = record {
      ascending = order_push xs x come.ascending (come.behind x.0 x.1 gave.item gave.left);
      items = λ y has. elim (Contains-push_cases xs x y has) [
        | inl before ↦ come.items y before
        | inr here ↦ subst (λ (z : GivenItem V). (i : List ℕ) × IsItemLeft seal from.walk from.disk z.0 z.1 i × Spells spelling accepted config i z.3 × (z.2 ≡ length i)) here
            (gave.item, come.left x.0 x.1 gave.item gave.left, gave.spells, gave.sized)
      ];
      all = λ s o i l. elim (come.all s o i l) [
        | inl has ↦ inl (has.0, has.1, Contains-append_left xs (x ∷ []) (s, o, has.0, has.1) has.2)
        | inr here ↦ elim (cases_order x.0 s) [
          | inr (inl lt) ↦ inr ((gave.rest s o i).1 (here, inl lt))
          | inr (inr gt) ↦ absurd (gave.first s o i here (inl gt))
          | inl at ↦ elim (cases_order x.1 o) [
            | inr (inl lt) ↦ inr ((gave.rest s o i).1 (here, inr (at, lt)))
            | inr (inr gt) ↦ absurd (gave.first s o i here (inr (sym at, gt)))
            | inl place ↦ inl (x.2, x.3, subst (λ (q : ℕ). Contains (xs ++ x ∷ []) (s, q, x.2, x.3)) place (subst (λ (q : ℕ). Contains (xs ++ x ∷ []) (q, x.1, x.2, x.3)) at (Contains-push xs x)))
          ]
        ]
      ];
      left = λ s o i l. come.left s o i ((gave.rest s o i).0 l).0;
      behind = λ s o i l y has. elim (Contains-push_cases xs x y has) [
        | inl before ↦ come.behind s o i ((gave.rest s o i).0 l).0 y before
        | inr here ↦ subst (λ (z : GivenItem V). StandsBefore z.0 z.1 s o) here ((gave.rest s o i).0 l).1
      ];
    }

  come_on : (calls : List (NextCall F (PageBlob S gs) V)) (c : NextCall F (PageBlob S gs) V) → HasCome (given calls) c.old → GivesNext seal spelling accepted config c.old c.new c.gave
      → (o : Option (GivenItem V)) → c.gave ≡ o → HasCome (given (c ∷ calls)) c.new
  come_on calls c come gave None none = subst (λ (xs : List (GivenItem V)). HasCome xs c.new) (sym (ap (λ (o : Option (GivenItem V)). given calls ++ given_by o) none ∙ append-nil (given calls)))
      (come_none (given calls) c come (subst (GivesNext seal spelling accepted config c.old c.new) none gave))
  come_on calls c come gave (Some x) some = subst (λ (xs : List (GivenItem V)). HasCome xs c.new) (sym (ap (λ (o : Option (GivenItem V)). given calls ++ given_by o) some))
      (come_item (given calls) c come x (subst (GivesNext seal spelling accepted config c.old c.new) some gave))

  -- also where the caller wrote elsewhere since
  come_as : (xs : List (GivenItem V)) (now b : Moment F (PageBlob S gs)) → IsAsLeft now b → HasCome xs b → HasCome xs now
  come_as xs now b is come = record {
    ascending = come.ascending;
    items = come.items;
    all = λ s o i l. elim (come.all s o i l) [ inl has ↦ inl has | inr here ↦ inr (left_back seal now b is s o i here) ];
    left = λ s o i l. come.left s o i (left_as seal now b is s o i l);
    behind = λ s o i l. come.behind s o i (left_as seal now b is s o i l);
  }

  pub has_come : (calls : List (NextCall F (PageBlob S gs) V)) (now : Moment F (PageBlob S gs)) → HasCalled seal spelling accepted config from calls now → HasCome (given calls) now
  has_come [] now run = come_as [] now from run come_start
  has_come (c ∷ calls) now run = come_as (given (c ∷ calls)) now c.new run.0 (come_on calls c (has_come calls c.old run.2) run.1 c.gave refl)

  -- once nothing is left, it was all
  pub all_items : (calls : List (NextCall F (PageBlob S gs) V)) (now : Moment F (PageBlob S gs)) → HasCalled seal spelling accepted config from calls now → IsDrained now.walk
      → AreAllItems seal spelling accepted config from (given calls)
  all_items calls now run drained = (let come = has_come calls now run in record {
    ascending = come.ascending;
    items = come.items;
    all = λ s o i l. elim (come.all s o i l) [ inl has ↦ has | inr here ↦ absurd (none_left seal now (inl drained) s o i here) ];
  })

-- the journal that is given back is whole frames
pub finished_framed : {F S : Type 0} {gs : _} (seal : List ℕ → ℕ) (w : Walk F (PageBlob S gs)) (k : Lists F (PageBlob S gs)) (d : Disk) → k.sections ≡ w.journal.sections
    → ((s : ℕ) → Spares w s → k.unrecovered s ≡ w.journal.unrecovered s) → w.failed ≡ false → IsDrained w → HasWalk 1 w → WalksOver seal 1 w d → AreWalked seal w d
    → (s : ℕ) → k.unrecovered s ≡ false → rest_of (section_bytes k.sections d s) ≡ []
finished_framed {S = S} {gs = gs} seal w k d sections spared fine drained walk over walked s free =
    ap (λ m. rest_of (section_bytes m d s)) sections ∙ go (w.journal.unrecovered s) refl
  where
    from_start : IsTrue (w.journal.unrecovered s) → w.start_section ≤ s
    from_start owed = elim (cases_lt s w.start_section) [ inr le ↦ le | inl before ↦ absurd (let same = spared s (inl before) in cc (same, free, owed)) ]

    here : IsTrue (w.journal.unrecovered s) → (o : Option (PageBlob S gs)) → w.journal.sections.held s ≡ o → rest_of (section_bytes w.journal.sections d s) ≡ []
    here owed None is = ap (λ (o : Option (PageBlob S gs)). rest_of (bytes_held o (d (key_of w.journal.sections s)).content)) is ∙ rest_none
    here owed (Some u) is =
        let gone : IsGoneOver w s = record {
          begun = from_start owed;
          not_ahead = λ ahead. drained.last s (some_there (w.journal.sections.held s) u is) ahead;
          not_in = λ there. none_in w.place (λ r. r.section ≡ s) drained.between there;
        } in
        let sealed = (over.gone_over fine s u is gone (inl owed)).0 in
        let same : sealed_prefix seal u.page_size (d (key_of w.journal.sections s)).content ≡ bytes_of (shown u) (d (key_of w.journal.sections s)).content =
        sealed_flushed seal (shown u) (d (key_of w.journal.sections s)) u.fit.begun sealed (all_flushed (shown u) u.fit.within u.order (walk.owes_settled.settled s u is owed)) in
        (λ i. rest_of (bytes_held (is i) (d (key_of w.journal.sections s)).content))
        ∙ ap rest_of (sym same ∙ sym (λ i. kept_of seal (owed i) (is i) (d (key_of w.journal.sections s)).content))
        ∙ walked.gone_over fine s gone

    go : (o : Bool) → w.journal.unrecovered s ≡ o → rest_of (section_bytes w.journal.sections d s) ≡ []
    go false unowed = walked.framed s unowed
    go true owed = here owed (w.journal.sections.held s) refl

-- a replay of which it can't be that it is not drained is
pub drained_of : {F B : Type 0} (w : Walk F B) → ((IsDrained w → ⊥) → ⊥) → IsDrained w
drained_of w not = record {
  between = go w.place refl;
  last = λ s held ahead. not (λ drained. drained.last s held ahead);
}
  where
    go : (o : Option Place) → w.place ≡ o → w.place ≡ None
    go None is = is
    go (Some r) is = absurd (not (λ drained. (let none = drained.between in cc (is, none))))

pub fine_of : (b : Bool) → (b ≡ true → ⊥) → b ≡ false
fine_of true not = absurd (not refl)
fine_of false not = refl

-- it went over a section from its first item on, or it did not
pub over_or_spares : {F B : Type 0} (w : Walk F B) (s : ℕ) → GoesOver w s ⊎ Spares w s
over_or_spares w s = elim (cases_order w.start_section s) [
  | inr (inl later) ↦ inl (inl later)
  | inr (inr earlier) ↦ inr (inl earlier)
  | inl is ↦ elim (cases_lt 0 w.start_position) [
    | inl behind ↦ inr (inr (behind, is))
    | inr first ↦ inl (inr (omega (arith, first), is))
  ]
]
