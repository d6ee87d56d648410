-- What an insertion makes of the entries of a map, and a write through a value that was lent.
use Rattle.std.proofs.Common.{◌≡◌, ◌⊎◌, inl, inr, ◌≤◌, length, arith, Bool, true, false, cond, List, [], ◌∷◌, ◌++◌, Option, Some, None, IsSome, refl, sym, ◌∙◌, ap, subst}
use Rattle.std.specs.Prelude.{OnSome, IfNone, is_some}
use Rattle.std.specs.declared.cmp.Ordering.{Ordering}
use Rattle.std.specs.declared.cmp.Ordering.TheVariants.{Less, Greater}
use Rattle.std.specs.Ordering.{match_ordering, ordering_reverse}
use Rattle.std.specs.Cmp.{IsTotalOrder}
use Rattle.std.specs.List.{AllByRecursion}
use Rattle.std.specs.List.Sorted.{IsStrictlySortedBy}
use Rattle.std.specs.Option.{option_copied_mut}
use Rattle.std.specs.Borrow.{MutBor}
use Rattle.std.specs.Map.{keys_of, set_value}
use Rattle.std.specs.Map.Calls.{RetainsPairs}
use Rattle.std.specs.BTreeMap.{BTreeMap, insert_entry, is_at, get_by, WritesThrough}
use Rattle.meta_store.specs.declared.metadata.Metadata.{Metadata}
use Rattle.meta_store.specs.Entries.{Retained}
use Rattle.meta_store.specs.Store.{shown, staging}
use Rattle.meta_store.specs.Lends.{WroteValue, SameMap}
use Rattle.meta_store.proofs.Ascending.{sorted_below, keys_append}
use Rattle.meta_store.specs.lemmas.Inserting.{retained_fewer}

module _ {K V : Type 0} (R : K → K → Ordering) where
  -- a key that is above all goes to the end
  inserted_above : (o : IsTotalOrder R) (es : List (K × V)) (k : K) (v : V) → AllByRecursion (λ j. R j k ≡ Less) (keys_of es) → insert_entry R es k v ≡ es ++ (k, v) ∷ []
  inserted_above o [] k v below = refl
  inserted_above o (e ∷ es) k v below =
      let above : R k e.0 ≡ Greater = o.antisymm k e.0 ∙ ap ordering_reverse below.0 in
      ap (λ (r : Ordering). match_ordering r ((k, v) ∷ e ∷ es) ((e.0, v) ∷ es) (e ∷ insert_entry R es k v)) above ∙ ap (λ l. e ∷ l) (inserted_above o es k v below.1)

  pub inserted_last : (o : IsTotalOrder R) (es rest all : List (K × V)) (k : K) (v : V) → IsStrictlySortedBy R (keys_of all) → es ++ (k, v) ∷ rest ≡ all → insert_entry R es k v ++ rest ≡ all
  inserted_last o es rest all k v sorted is =
      let keys : keys_of all ≡ keys_of es ++ k ∷ keys_of rest = ap keys_of (sym is) ∙ keys_append es ((k, v) ∷ rest) in
      ap (λ l. l ++ rest) (inserted_above o es k v (sorted_below R (keys_of es) (keys_of rest) k (subst (IsStrictlySortedBy R) keys sorted)))
      ∙ appended es ∙ is
    where
      appended : (xs : List (K × V)) → (xs ++ (k, v) ∷ []) ++ rest ≡ xs ++ (k, v) ∷ rest
      appended [] = refl
      appended (x ∷ xs) = ap (λ l. x ∷ l) (appended xs)

module _ {K V S C : Type 0} (R : K → K → Ordering) (key : K) (old : Metadata K V S C) where
  -- how the map was marked before the value was lent
  unfoldable pub Marked : Bool → Metadata K V S C → Type 0
  Marked found mid = ((found ≡ true) × (mid ≡ record old { staged = true })) ⊎ ((found ≡ false) × (mid ≡ old))

  none_found : (r : Option (MutBor V)) (found : Bool) → found ≡ is_some (option_copied_mut r) → found ≡ false → r ≡ None
  none_found None found is not = refl
  none_found (Some x) found is not = absurd (cc (is, not))

  on_some : {P : Type 0} (r : Option (MutBor V)) → (IsSome (option_copied_mut r) → P) → OnSome r P
  on_some None f = tt
  on_some (Some x) f = f refl

  pub wrote_value : (found : Bool) (mid : Metadata K V S C) (r : Option (MutBor V)) (w : V) (n : BTreeMap K V) → found ≡ is_some (get_by (R key) old.entries) → Marked found mid
      → option_copied_mut r ≡ get_by (R key) mid.entries → WritesThrough R (R key) mid.entries w n → OnSome r (WroteValue R key w old (record mid { entries = n }))
  unfolding Marked
  wrote_value found mid r w n test (inl marked) has wrote =
      let same : mid.entries ≡ old.entries = ap (λ (m : Metadata K V S C). m.entries) marked.1 in
      on_some r (λ some. subst (λ (m : Metadata K V S C). WroteValue R key w old (record m { entries = n })) (sym marked.1) (record {
        same = ap (staging (shown old)) (wrote.0 ∙ ap (λ (m : BTreeMap K V). set_value (is_at (R key)) m.entries w) same);
        value_put = λ q. (wrote.3 (subst IsSome has some)).0 q ∙ ap (λ (m : BTreeMap K V). cond (is_at (R key) q) (Some w) (get_by (R q) m)) same;
        config = refl;
      }))
  wrote_value found mid r w n test (inr marked) has wrote =
      let none : r ≡ None = none_found r found (test ∙ ap (λ (m : Metadata K V S C). is_some (get_by (R key) m.entries)) (sym marked.1) ∙ ap is_some (sym has)) marked.0 in
      subst (λ (o : Option (MutBor V)). OnSome o (WroteValue R key w old (record mid { entries = n }))) (sym none) tt

  pub wrote_none : (found : Bool) (mid : Metadata K V S C) (r : Option (MutBor V)) (n : BTreeMap K V) → found ≡ is_some (get_by (R key) old.entries) → Marked found mid
      → option_copied_mut r ≡ get_by (R key) mid.entries → n ≡ mid.entries → IfNone r (SameMap old (record mid { entries = n }))
  unfolding Marked
  wrote_none found mid (Some x) n test marked has same = tt
  wrote_none found mid None n test (inl marked) has same =
      absurd (cc (test ∙ ap (λ (m : Metadata K V S C). is_some (get_by (R key) m.entries)) (sym marked.1) ∙ ap is_some (sym has), marked.0))
  wrote_none found mid None n test (inr marked) has same =
      subst (λ (m : BTreeMap K V). SameMap old (record mid { entries = m })) (sym same) (subst (λ (m : Metadata K V S C). SameMap old m) (sym marked.1) (record { same = refl; config = refl }))

  pub marked_entries : (found : Bool) (mid : Metadata K V S C) → Marked found mid → mid.entries ≡ old.entries
  unfolding Marked
  marked_entries found mid (inl marked) = ap (λ (m : Metadata K V S C). m.entries) marked.1
  marked_entries found mid (inr marked) = ap (λ (m : Metadata K V S C). m.entries) marked.1

-- a test that changes nothing, asked at each entry
pub retained_from : {F K V : Type 0} (T : F → K → V → Bool → V → F → Type 0) (answers : K → V → Bool → Type 0) (f : F) (es kept : List (K × V)) → RetainsPairs T f es kept
    → ((k : K) (v : V) (b : Bool) (w : V) (f' : F) → T f k v b w f' → answers k v b × (w ≡ v) × (f' ≡ f)) → Retained answers es kept
retained_from T answers f [] kept ran each = ran
retained_from {F = F} {K = K} {V = V} T answers f (e ∷ es) kept ran each =
    let b = ran.0 in
    let rest = ran.3 in
    let said = each e.0 e.1 b ran.1 ran.2 ran.4 in (
      b,
      rest,
      said.0,
      retained_from T answers f es rest (subst (λ (g : F). RetainsPairs T g es rest) said.2 ran.5) each,
      ran.6 ∙ ap (λ (v : V). cond b ((e.0, v) ∷ rest) rest) said.1,
    )

all_by : {X : Type 0} (b : Bool) (e : X) (es kept rest : List X) → kept ≡ cond b (e ∷ rest) rest → length rest ≤ length es → length kept ≡ length (e ∷ es) → (length rest ≡ length es → rest ≡ es) → kept ≡ e ∷ es
all_by true e es kept rest is fewer same more = is ∙ ap (λ l. e ∷ l) (more (omega (arith, ap length is, same)))
all_by false e es kept rest is fewer same more = absurd (omega (arith, ap length is, same, fewer))

-- where none is dropped, all stand as before
pub retained_all : {K V : Type 0} (answers : K → V → Bool → Type 0) (es kept : List (K × V)) → Retained answers es kept → length kept ≡ length es → kept ≡ es
retained_all answers [] kept ran same = ran
retained_all answers (e ∷ es) kept ran same =
    all_by ran.0 e es kept ran.1 ran.4 (retained_fewer answers es ran.1 ran.3) same (λ some. retained_all answers es ran.1 ran.3 some)

has_by : {X : Type 0} (P : X → Type 0) (b : Bool) (e : X) (kept rest : List X) → kept ≡ cond b (e ∷ rest) rest → P e → AllByRecursion P rest → AllByRecursion P kept
has_by P true e kept rest is here all = subst (AllByRecursion P) (sym is) (here, all)
has_by P false e kept rest is here all = subst (AllByRecursion P) (sym is) all

pub retained_has : {K V : Type 0} (answers : K → V → Bool → Type 0) (P : V → Type 0) (es kept : List (K × V)) → Retained answers es kept → AllByRecursion (λ e. P e.1) es → AllByRecursion (λ e. P e.1) kept
retained_has answers P [] kept ran all = subst (AllByRecursion (λ e. P e.1)) (sym ran) tt
retained_has answers P (e ∷ es) kept ran all = has_by (λ e. P e.1) ran.0 e kept ran.1 ran.4 all.0 (retained_has answers P es ran.1 ran.3 all.1)
