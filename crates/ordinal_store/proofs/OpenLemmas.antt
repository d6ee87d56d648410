-- An opening as a whole: what each way to end leaves.
use Rattle.std.specs.Prelude.{◌≡◌, ◌≢◌, ◌⊎◌, ◌↔◌, ℕ, ◌^◌, ◌<◌, ◌≤◌, Bool, true, false, cond, List, [], length, map, get_or, Option, Some, None, IsSome, IsTrue, unwrap_or, Result, Ok, Err}
use Rattle.std.specs.Int.{w64, to_be_bytes}
use Rattle.std.specs.List.{Contains}
use Rattle.std.specs.Result.{IsErrAnd, IsErrOf}
use Rattle.std.proofs.Common.{inl, inr, refl, sym, ◌∙◌, ap, subst, arith, rules}
use Rattle.std.proofs.lemmas.List.{get_or-map, length-map}
use Rattle.std.proofs.lemmas.Option.{get_or_from_slice_get, none-some, slice_get-get_or}
use Rattle.blob_device.specs.lemmas.Moments.{always_now, always_then, always_weaker}
use Rattle.blob_device.specs.Disk.{AreNamesIn, Blob, Disk, Key, longest, nothing}
use Rattle.blob_device.specs.Timeline.{Always}
use Rattle.sealed_pages.specs.Reading.{Unchanged}
use Rattle.ordinal_store.specs.Calls.{HasFailed, HasRecordError, IsCause, IsForeign, IsLeft, MayOpen, Opening, as_read}
use Rattle.ordinal_store.specs.Durable.{IsGoing, StandsFor, Stays}
use Rattle.ordinal_store.specs.Emptying.{Empties, Emptying, GoesAll, IsUnkept}
use Rattle.ordinal_store.specs.Marking.{IsFault, IsFirstRefused, IsKept, IsMended, IsPast, IsWhole, Marking, is_wanted}
use Rattle.ordinal_store.specs.Restoring.{RestoringAll, There, Wanted}
use Rattle.ordinal_store.specs.Slots.{Layout, blob_of, place_of, position_of, section_of, slot_at, slot_size}
use Rattle.ordinal_store.specs.Stores.{Sight, Store, now}
use Rattle.ordinal_store.specs.declared.ordinal.Error.{Error}
use Rattle.ordinal_store.specs.declared.ordinal.Error.TheVariants.{Full, InvalidBlobName}
use Rattle.ordinal_store.proofs.FinishLemmas.{committed_end, held_end, kept_end, mended_end, slots_end, unkept_end, usable_end, whole_end}
use Rattle.ordinal_store.proofs.StepLemmas.{key_injective, section_small, stays_start, stays_then}
use Rattle.ordinal_store.proofs.TrailLemmas.{failed_as}
use Rattle.blob_device.proofs.general.Results.{err_of}

-- a removal under way or done makes no crash longer
pub going_short : (from b : Blob) (n : ℕ) → IsGoing from b → longest from ≤ n → longest b ≤ n
going_short from b n (inl is) short = subst (λ (x : Blob). longest x ≤ n) (sym is) short
going_short from b n (inr (inl (inl is))) short = let e : longest b ≡ longest from = ap longest is in omega (arith, e, short)
going_short from b n (inr (inl (inr is))) short = let e : longest b ≡ longest from = ap longest is in omega (arith, e, short)
going_short from b n (inr (inr is)) short = let e : longest b ≡ 0 = ap longest is in omega (arith, e)

read_content : (b : Blob) (c : List ℕ) → cond b.there (Some b.content) None ≡ Some c → b.content ≡ c
read_content b c read = go b.there read
  where
    go : (x : Bool) → cond x (Some b.content) None ≡ Some c → b.content ≡ c
    go true is = cc is
    go false is = absurd (none-some c is)

there_some : (b : Blob) → IsSome (cond b.there (Some b.content) None) → IsTrue b.there
there_some b some = go b.there some
  where
    go : (x : Bool) → IsSome (cond x (Some b.content) None) → IsTrue x
    go true s = refl
    go false s = absurd (cc s)

pub some_there : (b : Blob) → IsTrue b.there → IsSome (cond b.there (Some b.content) None)
some_there b there = subst (λ (x : Bool). IsSome (cond x (Some b.content) None)) (sym there) refl

eight : (n : ℕ) → length (to_be_bytes w64 n) ≡ 8
eight n = search rules

-- a name among those that numbers spell is spelled by one of them
of_name : (numbers : List ℕ) (name : List ℕ) → ((i : ℕ) → get_or numbers i 0 < 2 ^ 64) → Contains (map (to_be_bytes w64) numbers) name → (s : ℕ) × (s < 2 ^ 64) × Contains numbers s × (name ≡ to_be_bytes w64 s)
of_name numbers name small listed =
    let inside : listed.0 < length numbers = omega (arith, listed.1, length-map numbers (to_be_bytes w64)) in
    let found = slice_get-get_or numbers listed.0 0 inside in (
      get_or numbers listed.0 0,
      small listed.0,
      (listed.0, inside, get_or_from_slice_get numbers listed.0 (get_or numbers listed.0 0) (get_or numbers listed.0 0) found),
      sym listed.2 ∙ get_or-map (to_be_bytes w64) numbers listed.0 0 name inside,
    )

mapped : (numbers : List ℕ) (s : ℕ) → Contains numbers s → Contains (map (to_be_bytes w64) numbers) (to_be_bytes w64 s)
mapped numbers s listed = (listed.0, omega (arith, listed.1, length-map numbers (to_be_bytes w64)), get_or-map (to_be_bytes w64) numbers listed.0 s (to_be_bytes w64 s) listed.1 ∙ ap (to_be_bytes w64) listed.2)

module _ {T : Type 0} (show : T → Store) (told : Type 0) (l : Layout) (marking : Marking) (capacity : ℕ) (old : Sight) where
  abbrev pub In : Key → Type 0
  In q = (q.0 ≡ l.partition) × IsSome (as_read (now old) q)

  abbrev pub Want : ℕ → Type 0
  Want j = is_wanted l.items (marking (section_of l j)) (position_of l j) ≡ true

  -- what holds of an opening so far
  pub record Way (new : Sight) : Type 0 where
    pub moments : told → Always old.time new.time (Stays l Want In (now old))
    pub entries : (q : Key) → q.0 ≢ l.partition → new.opened q ≡ old.opened q
    pub faults : old.faults ≤ new.faults

  module _ (new : Sight) (unchanged : told → Unchanged old.time new.time) (opened : new.opened ≡ old.opened) (faults : old.faults ≤ new.faults) where
    pub way_looked : Way new
    way_looked = record {
      moments = λ t. always_weaker old.time new.time (λ d. d ≡ now old) (Stays l Want In (now old)) (λ d same. subst (Stays l Want In (now old)) (sym same) (stays_start l Want In (now old))) (unchanged t);
      entries = λ q other. ap (λ o. o q) opened;
      faults = faults;
    }

    -- refused before anything was changed
    early : (e : Error) → (told → IsCause l (Some marking) (as_read (now old)) e ⊎ HasFailed {T = T} (Err e) old new)
        → ((name : List ℕ) × (◌≡◌ {A = Result T Error} (Err e) (Err (InvalidBlobName name))) × (length name ≢ 8)) ⊎ (IsErrOf {T = T} (Err e) Full ⊎ (((i : ℕ) × HasRecordError {T = T} (Err e) i) ⊎ HasFailed {T = T} (Err e) old new))
        → Opening l (Some marking) show told capacity (Err e) old new
    early e answer failed = record {
      layout = tt;
      capacity = tt;
      usable = tt;
      held = tt;
      slots = λ t. tt;
      committed = λ t. tt;
      left = λ t. tt;
      answer = answer;
      tested = λ t not. unchanged t;
      unopened = λ which. opened;
      moments = way_looked.moments;
      entries = way_looked.entries;
      faults = faults;
      failed = failed;
    }

    pub early_failed : (result : Result T Error) (e : Error) → IsErrAnd result (λ x. x ≡ e) → HasFailed {T = T} (Err e) old new → Opening l (Some marking) show told capacity result old new
    early_failed result e is why = subst (λ (r : Result T Error). Opening l (Some marking) show told capacity r old new) (sym (err_of result e is)) (early e (λ t. inr why) (inr (inr (inr why))))

    -- a name is refused
    pub early_named : (result : Result T Error) (n : List ℕ) → result ≡ Err (InvalidBlobName n) → (told → IsTrue (now old (l.partition, n)).there) → length n ≢ 8 → Opening l (Some marking) show told capacity result old new
    early_named result n is there size = subst (λ (r : Result T Error). Opening l (Some marking) show told capacity r old new) (sym is)
        (early (InvalidBlobName n) (λ t. inl (inl (n, record { marked = refl; there = some_there (now old (l.partition, n)) (there t); size = size }, refl))) (inl (n, refl, size)))

  -- The names are those of sections.
  module _ (numbers : List ℕ) (names : told → AreNamesIn (now old) l.partition (map (to_be_bytes w64) numbers)) (number_small : (i : ℕ) → get_or numbers i 0 < 2 ^ 64) where
    -- a blob of the partition is a section's
    named : told → (name : List ℕ) → IsTrue (now old (l.partition, name)).there → (s : ℕ) × (s < 2 ^ 64) × Contains numbers s × (name ≡ to_be_bytes w64 s)
    named t name there = of_name numbers name number_small (((names t).each name).1 there)

    not_foreign : told → (name : List ℕ) → IsForeign l (Some marking) (as_read (now old)) name → ⊥
    not_foreign t name foreign = let at = named t name (there_some (now old (l.partition, name)) foreign.there) in foreign.size (ap length at.3 ∙ eight at.0)

    -- an index is refused
    pub early_full : (new : Sight) → (told → Unchanged old.time new.time) → new.opened ≡ old.opened → old.faults ≤ new.faults → (result : Result T Error) → result ≡ Err Full → IsPast l marking → Opening l (Some marking) show told capacity result old new
    early_full new unchanged opened faults result is past = subst (λ (r : Result T Error). Opening l (Some marking) show told capacity r old new) (sym is)
        (early new unchanged opened faults Full (λ t. inl (inr (inl (not_foreign t, past, refl)))) (inr (inl refl)))

    module _ (not_past : IsPast l marking → ⊥) where
      pub may_open : told → MayOpen l (Some marking) (as_read (now old))
      may_open t = record { names = not_foreign t; numbers = not_past }

      -- refused after the names and the numbers were judged
      late : (new : Sight) → Way new → (e : Error) → (told → IsCause l (Some marking) (as_read (now old)) e ⊎ HasFailed {T = T} (Err e) old new) → ((i : ℕ) × HasRecordError {T = T} (Err e) i) ⊎ HasFailed {T = T} (Err e) old new
          → Opening l (Some marking) show told capacity (Err e) old new
      late new way e answer why = record {
        layout = tt;
        capacity = tt;
        usable = tt;
        held = tt;
        slots = λ t. tt;
        committed = λ t. tt;
        left = λ t. tt;
        answer = answer;
        tested = λ t not. absurd (not (may_open t));
        unopened = λ which. absurd (other why which);
        moments = way.moments;
        entries = way.entries;
        faults = way.faults;
        failed = inr (inr why);
      }
        where
          other : ((i : ℕ) × HasRecordError {T = T} (Err e) i) ⊎ HasFailed {T = T} (Err e) old new → IsErrOf {T = T} (Err e) Full ⊎ ((name : List ℕ) × (◌≡◌ {A = Result T Error} (Err e) (Err (InvalidBlobName name)))) → ⊥
          other (inl (i, inl a)) (inl b) = absurd (cc (a, b))
          other (inl (i, inl a)) (inr b) = absurd (cc (a, b.1))
          other (inl (i, inr a)) (inl b) = absurd (cc (a, b))
          other (inl (i, inr a)) (inr b) = absurd (cc (a, b.1))
          other (inr (inl a)) (inl b) = absurd (cc (a, b))
          other (inr (inl a)) (inr b) = absurd (cc (a, b.1))
          other (inr (inr a)) (inl b) = absurd (cc (a.0, b))
          other (inr (inr a)) (inr b) = absurd (cc (a.0, b.1))

      pub late_failed : (new : Sight) → Way new → (result : Result T Error) (e : Error) → IsErrAnd result (λ x. x ≡ e) → HasFailed {T = T} (Err e) old new → Opening l (Some marking) show told capacity result old new
      late_failed new way result e is why = subst (λ (r : Result T Error). Opening l (Some marking) show told capacity r old new) (sym (err_of result e is)) (late new way e (λ t. inr why) (inr why))

      -- the sections that are not kept are removed
      module _ (mid : Sight) (looked : told → Unchanged old.time mid.time) (mid_opened : mid.opened ≡ old.opened) (mid_faults : old.faults ≤ mid.faults) where
        same_mid : told → now mid ≡ now old
        same_mid t = always_now old.time mid.time (λ d. d ≡ now old) (looked t)

        emptied_stays : (d : Disk) → Empties (IsUnkept l marking) (now old) d → Stays l Want In (now old) d
        emptied_stays d e = record {
          slots = λ j slot wanted durable. record {
            index = durable.index;
            size = durable.size;
            stands = subst (StandsFor (place_of l j) slot) (sym (e.others (blob_of l (section_of l j)) (λ both. both.0.2 (subst (IsKept l marking)
                (key_injective l.partition (section_of l j) both.0.0 (section_small l j durable.index) both.0.1 both.0.3) (section_small l j durable.index, (position_of l j, wanted)))))) durable.stands;
          };
          bounded = λ q n room short. going_short (now old q) (d q) n (e.each q) short;
          others = λ q out. e.others q (λ both. out (ap (λ (k : Key). k.0) both.0.3, some_there (now old q) both.1));
        }

        pub way_emptied : (base : Sight) → GoesAll (IsUnkept l marking) told mid base → Way base
        way_emptied base goes = record {
          moments = λ t. always_then old.time mid.time base.time (Stays l Want In (now old)) ((way_looked mid looked mid_opened mid_faults).moments t)
              (always_weaker mid.time base.time (Empties (IsUnkept l marking) (now mid)) (Stays l Want In (now old)) (λ d e. emptied_stays d (subst (λ (x : Disk). Empties (IsUnkept l marking) x d) (same_mid t) e)) (goes.moments t));
          entries = λ q other. elim (goes.entries q) [
            | inl same ↦ same ∙ ap (λ o. o q) mid_opened
            | inr gone ↦ absurd (other (ap (λ (k : Key). k.0) gone.0.3))
          ];
          faults = omega (arith, mid_faults, goes.faults);
        }

        module _ (base : Sight) (emptied : Emptying (IsUnkept l marking) told (Ok tt) mid base) where
          goes_old : told → Empties (IsUnkept l marking) (now old) (now base)
          goes_old t = subst (λ (x : Disk). Empties (IsUnkept l marking) x (now base)) (same_mid t) (always_now mid.time base.time (Empties (IsUnkept l marking) (now mid)) (emptied.goes.moments t))

          gone_old : told → (q : Key) → IsUnkept l marking q → IsTrue (now old q).there → now base q ≡ nothing
          gone_old t q unkept there = emptied.gone t q unkept (subst (λ (x : Disk). IsTrue (x q).there) (sym (same_mid t)) there)

          -- a kept section's blob is as it was
          pub kept_same : told → (s : ℕ) → IsKept l marking s → now base (blob_of l s) ≡ now old (blob_of l s)
          kept_same t s kept = (goes_old t).others (blob_of l s) (λ both. both.0.2 (subst (IsKept l marking) (key_injective l.partition s both.0.0 kept.0 both.0.1 both.0.3) kept))

          pub no_other : told → (s : ℕ) → s < 2 ^ 64 → (IsKept l marking s → ⊥) → (now base (blob_of l s)).there ≡ false
          no_other t s small unkept = by_there (now old (blob_of l s)).there refl
            where
              by_there : (x : Bool) → (now old (blob_of l s)).there ≡ x → (now base (blob_of l s)).there ≡ false
              by_there true is = ap (λ (b : Blob). b.there) (gone_old t (blob_of l s) (s, small, unkept, refl) is)
              by_there false is = ap (λ (b : Blob). b.there) ((goes_old t).others (blob_of l s) (λ both. absurd (cc (is, both.1)))) ∙ is

          -- what is there was there
          was_there : told → (q : Key) → IsTrue (now base q).there → IsTrue (now old q).there
          was_there t q there = by_there (now old q).there refl
            where
              by_there : (x : Bool) → (now old q).there ≡ x → IsTrue (now old q).there
              by_there true is = is
              by_there false is = absurd (cc (is, sym (ap (λ (b : Blob). b.there) ((goes_old t).others q (λ both. absurd (cc (is, both.1))))) ∙ there))

          -- a number of the list is that of a blob which is there
          pub there_of : told → (s : ℕ) → IsKept l marking s → Contains numbers s ↔ IsTrue (now base (blob_of l s)).there
          there_of t s kept = (
            λ listed. subst (λ (b : Blob). IsTrue b.there) (sym (kept_same t s kept)) (((names t).each (to_be_bytes w64 s)).0 (mapped numbers s listed)),
            λ there. (let at = named t (to_be_bytes w64 s) (subst (λ (b : Blob). IsTrue b.there) (kept_same t s kept) there) in
                subst (Contains numbers) (sym (key_injective l.partition s at.0 kept.0 at.1 (λ i. (l.partition, at.3 i)))) at.2),
          )

          module _ (new : Sight) (items : (1 ≤ l.items) × (l.items ≤ 2 ^ 40)) (width : (1 ≤ l.width) × (l.width ≤ 65535)) where
            pub way_restored : (r : Result T Error) → RestoringAll told l capacity marking base show r new → Way new
            way_restored r all = record {
              moments = λ t. stays_then l Want (Wanted told l capacity marking base) In (There told l capacity marking base) old.time base.time new.time (λ i is. is)
                  (λ q is. (is.0, some_there (now old q) (was_there t q is.1))) ((way_emptied base emptied.goes).moments t) (all.moments t);
              entries = λ q other. all.entries q other ∙ (way_emptied base emptied.goes).entries q other;
              faults = omega (arith, (way_emptied base emptied.goes).faults, all.faults);
            }

            image_same : told → (s : ℕ) → IsKept l marking s → as_read (now base) (blob_of l s) ≡ as_read (now old) (blob_of l s)
            image_same t s kept = ap (λ (b : Blob). cond b.there (Some b.content) None) (kept_same t s kept)

            refused_old : told → (s : ℕ) (e : Error) → IsFirstRefused l marking (as_read (now base)) s e → IsFirstRefused l marking (as_read (now old)) s e
            refused_old t s e first = record {
              kept = first.kept;
              fault = subst (λ (b : Option (List ℕ)). IsFault l s (marking s) b e) (image_same t s first.kept) first.fault;
              first = λ q below kept. subst (IsWhole l (marking q)) (image_same t q kept) (first.first q below kept);
            }

            -- no crash brings a blob back that is not kept
            lost_one : (r : T) → RestoringAll told l capacity marking base show (Ok r) new → told → (name : List ℕ) → ((s : ℕ) → IsKept l marking s → (l.partition, name) ≢ blob_of l s) → IsTrue (now old (l.partition, name)).there → now new (l.partition, name) ≡ nothing
            lost_one r all t name not there =
                let at = named t name there in
                let is : (l.partition, name) ≡ blob_of l at.0 = λ i. (l.partition, at.3 i) in
                let unkept : IsKept l marking at.0 → ⊥ = λ kept. not at.0 kept is in
                ap (now new) is ∙ unkept_end told l capacity marking base new (show r) all.done items width no_other t at.0 at.1 unkept ∙ sym (ap (now base) is) ∙ gone_old t (l.partition, name) (at.0, at.1, unkept, is) there

            gone_one : (r : T) → RestoringAll told l capacity marking base show (Ok r) new → told → (name : List ℕ) → ((s : ℕ) → IsKept l marking s → (l.partition, name) ≢ blob_of l s) → (now new (l.partition, name)).there ≡ false
            gone_one r all t name not = by_there (now old (l.partition, name)).there refl
              where
                by_there : (x : Bool) → (now old (l.partition, name)).there ≡ x → (now new (l.partition, name)).there ≡ false
                by_there true is = ap (λ (b : Blob). b.there) (lost_one r all t name not is)
                by_there false is =
                    let first : now base (l.partition, name) ≡ now old (l.partition, name) = (goes_old t).others (l.partition, name) (λ both. absurd (cc (is, both.1))) in
                    let none : (now base (l.partition, name)).there ≡ false = ap (λ (b : Blob). b.there) first ∙ is in
                    ap (λ (b : Blob). b.there) ((always_now base.time new.time (Stays l (Wanted told l capacity marking base) (There told l capacity marking base) (now base)) (all.moments t)).others (l.partition, name) (λ there. absurd (cc (none, there.1)))) ∙ none

            left_all : (r : T) → RestoringAll told l capacity marking base show (Ok r) new → told → IsLeft l (Some marking) (now old) (now new)
            left_all r all t = record {
              mended = λ s c kept is. (let m = mended_end told l capacity marking base new (show r) all.done items width no_other t s kept in
                  (m.0, subst (λ (x : List ℕ). IsMended l (marking s) x m.0) (read_content (now base (blob_of l s)) c (image_same t s kept ∙ is)) m.1, m.2));
              gone = gone_one r all t;
              lost = lost_one r all t;
            }

            pub restored_all : (r : Result T Error) → RestoringAll told l capacity marking base show r new → Opening l (Some marking) show told capacity r old new
            restored_all (Err e) all = late new (way_restored (Err e) all) e
                (λ t. elim (all.refused t e refl) [
                  | inl first ↦ inl (inr (inr (may_open t, (first.0, refused_old t first.0 e first.1))))
                  | inr why ↦ inr (failed_as {T = T} {U = T} e old base new (way_emptied base emptied.goes).faults why)
                ])
                (elim all.cause [
                  | inl record_error ↦ inl record_error
                  | inr why ↦ inr (failed_as {T = T} {U = T} e old base new (way_emptied base emptied.goes).faults why)
                ])
            restored_all (Ok r) all = record {
              layout = all.done.layout_is;
              capacity = all.done.capacity_is;
              usable = usable_end told l capacity marking base new (show r) all.done items width no_other;
              held = held_end told l capacity marking base new (show r) all.done items width no_other;
              slots = λ t j slot found. subst (λ (b : Option (List ℕ)). slot_at (slot_size l) (unwrap_or b []) (position_of l j) ≡ slot) (image_same t (section_of l j) (kept_end told l capacity marking base new (show r) all.done items width no_other j slot found))
                  (slots_end told l capacity marking base new (show r) all.done items width no_other t j slot found);
              committed = committed_end told l capacity marking base new (show r) all.done items width no_other;
              left = left_all r all;
              answer = λ t. (may_open t, λ s kept. subst (IsWhole l (marking s)) (image_same t s kept) (whole_end told l capacity marking base new (show r) all.done items width no_other t s kept));
              tested = λ t not. absurd (not (may_open t));
              unopened = λ which. elim which [ inl full ↦ absurd (cc full) | inr name ↦ absurd (cc name.1) ];
              moments = (way_restored (Ok r) all).moments;
              entries = (way_restored (Ok r) all).entries;
              faults = (way_restored (Ok r) all).faults;
              failed = tt;
            }
