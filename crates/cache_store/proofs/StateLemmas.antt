-- What calls make of the state that sections of bytes mean.
use Rattle.std.specs.Prelude.{◌≡◌, ◌≢◌, ℕ, zero, suc, ◌<◌, ◌≤◌, ◌^◌, ◌==◌, nat_lt, if◌then◌else◌, Bool, List, [], ◌∷◌, ◌++◌, length, map, take, Option, None, Some, unwrap_or}
use Rattle.std.proofs.Common.{refl, sym, ap, ◌∙◌, arith, ⊎_elim}
use Rattle.std.proofs.lemmas.Bool.{cases_eq, cases_lt, eqb-true, eq-eqb, false_from_ne_true, lt-ltb, le-ltb}
use Rattle.std.proofs.lemmas.List.{take_all, take-append-le}
use Rattle.variable_journal.specs.Frames.{frame, items_of, rest_of}
use Rattle.variable_journal.specs.lemmas.Frame.{one_more}
use Rattle.cache_store.specs.Filing.{state_by, synced_in}
use Rattle.cache_store.specs.Kept.{entries_of}
use Rattle.cache_store.specs.Machine.{Entry, section_of, appended, after_sync, emptied_below}
use Rattle.cache_store.specs.Records.{entry_of, record_bytes}
use Rattle.cache_store.proofs.LawfulLemmas.{map_more, no_items}

-- of a section written now, what was synced before is
abbrev pub noted_synced : ℕ → (ℕ → List ℕ) → (ℕ → Option ℕ) → ℕ → Option ℕ
noted_synced section bytes written s = if s == section then Some (synced_in (written s) (bytes s)) else written s

pub chosen : {X : Type 0} (s t : ℕ) (x y : X) → s ≡ t → (if s == t then x else y) ≡ x
chosen s t x y same = ap (λ (b : Bool). if b then x else y) (eq-eqb s t same)

pub passed : {X : Type 0} (s t : ℕ) (x y : X) → s ≢ t → (if s == t then x else y) ≡ y
passed s t x y other = ap (λ (b : Bool). if b then x else y) (false_from_ne_true (s == t) (λ e. other (eqb-true s t e)))

module _ (items index floor : ℕ) (spelled : List ℕ) (old new : ℕ → List ℕ) (written : ℕ → Option ℕ)
    (entry : entry_of (record_bytes index spelled) ≡ record { index = index; value = spelled })
    (whole : rest_of (old (section_of items index)) ≡ [])
    (fits : length (record_bytes index spelled) < 2 ^ 32)
    (grown : new (section_of items index) ≡ old (section_of items index) ++ frame (record_bytes index spelled))
    (others : (s : ℕ) → s ≢ section_of items index → new s ≡ old s)
    (within : (s : ℕ) → synced_in (written s) (old s) ≤ length (old s)) where
  abbrev pub here : ℕ
  here = section_of items index

  abbrev pub item : List ℕ
  item = record_bytes index spelled

  pub entries_here : entries_of (new here) ≡ entries_of (old here) ++ record { index = index; value = spelled } ∷ []
  entries_here = ap entries_of grown ∙ ap (map entry_of) (one_more (old here) item whole fits).0
      ∙ map_more entry_of (items_of (old here)) item ∙ ap (λ (e : Entry (List ℕ)). entries_of (old here) ++ e ∷ []) entry

  pub put_lists : (s : ℕ) → entries_of (new s) ≡ (appended items index spelled (state_by old written floor)).lists s
  put_lists s = ⊎_elim
      (λ (same : s ≡ here). ap (λ (t : ℕ). entries_of (new t)) same ∙ entries_here
      ∙ ap (λ (t : ℕ). entries_of (old t) ++ record { index = index; value = spelled } ∷ []) (sym same)
      ∙ sym (chosen s here (entries_of (old s) ++ record { index = index; value = spelled } ∷ []) (entries_of (old s)) same))
      (λ (other : s ≢ here). ap entries_of (others s other) ∙ sym (passed s here (entries_of (old s) ++ record { index = index; value = spelled } ∷ []) (entries_of (old s)) other))
      (cases_eq s here)

  put_synced_bytes : (s : ℕ) → take (synced_in (noted_synced here old written s) (new s)) (new s) ≡ take (synced_in (written s) (old s)) (old s)
  put_synced_bytes s = ⊎_elim
      (λ (same : s ≡ here).
      ap (λ (o : Option ℕ). take (unwrap_or o (length (new s))) (new s)) (chosen s here (Some (synced_in (written s) (old s))) (written s) same)
      ∙ ap (λ bytes. take (synced_in (written s) (old s)) bytes) (ap new same ∙ grown ∙ ap (λ (t : ℕ). old t ++ frame item) (sym same))
      ∙ take-append-le (synced_in (written s) (old s)) (old s) (frame item) (within s))
      (λ (other : s ≢ here).
      ap (λ (o : Option ℕ). take (unwrap_or o (length (new s))) (new s)) (passed s here (Some (synced_in (written s) (old s))) (written s) other)
      ∙ ap (λ bytes. take (synced_in (written s) bytes) bytes) (others s other))
      (cases_eq s here)

  -- a put appends
  pub put_state : state_by new (noted_synced here old written) floor ≡ appended items index spelled (state_by old written floor)
  put_state i = record {
    lists = λ s. put_lists s i;
    synced = λ s. length (entries_of (put_synced_bytes s i));
    floor = floor;
  }

-- a sync makes all synced
pub sync_state : (floor : ℕ) (old new : ℕ → List ℕ) (written now : ℕ → Option ℕ) → ((s : ℕ) → new s ≡ old s) → ((s : ℕ) → now s ≡ None)
    → state_by new now floor ≡ after_sync (state_by old written floor)
sync_state floor old new written now same none i = record {
  lists = λ s. entries_of (same s i);
  synced = λ s. all s i;
  floor = floor;
}
  where
    all : (s : ℕ) → length (entries_of (take (synced_in (now s) (new s)) (new s))) ≡ length (entries_of (old s))
    all s = ap (λ (o : Option ℕ). length (entries_of (take (unwrap_or o (length (new s))) (new s)))) (none s)
        ∙ ap (λ bytes. length (entries_of bytes)) (take_all (length (new s)) (new s) (omega arith))
        ∙ ap (λ bytes. length (entries_of bytes)) (same s)

take_empty : (n : ℕ) → take {A = ℕ} n [] ≡ []
take_empty zero = refl
take_empty (suc n) = refl

-- a prune empties the sections below
pub prune_state : (bound floor : ℕ) (old new : ℕ → List ℕ) (written now : ℕ → Option ℕ) → ((s : ℕ) → s < bound → new s ≡ []) → ((s : ℕ) → bound ≤ s → new s ≡ old s)
    → ((s : ℕ) → bound ≤ s → now s ≡ written s) → state_by new now bound ≡ emptied_below bound (state_by old written floor)
prune_state bound floor old new written now gone same stays i = record {
  lists = λ s. lists s i;
  synced = λ s. synced s i;
  floor = bound;
}
  where
    synced_of : ℕ → ℕ
    synced_of s = length (entries_of (take (synced_in (written s) (old s)) (old s)))

    none_taken : (n : ℕ) (bytes : List ℕ) → bytes ≡ [] → length (entries_of (take n bytes)) ≡ 0
    none_taken n bytes none = ap (λ bs. length (entries_of (take n bs))) none ∙ ap (λ bs. length (entries_of bs)) (take_empty n) ∙ ap (λ xs. length (map entry_of xs)) no_items

    below : {X : Type 0} (s : ℕ) (x y : X) → s < bound → (if nat_lt s bound then x else y) ≡ x
    below s x y low = ap (λ (b : Bool). if b then x else y) (lt-ltb s bound low)

    above : {X : Type 0} (s : ℕ) (x y : X) → bound ≤ s → (if nat_lt s bound then x else y) ≡ y
    above s x y high = ap (λ (b : Bool). if b then x else y) (le-ltb s bound high)

    lists : (s : ℕ) → entries_of (new s) ≡ (if nat_lt s bound then [] else entries_of (old s))
    lists s = ⊎_elim
        (λ (low : s < bound). ap entries_of (gone s low) ∙ ap (map entry_of) no_items ∙ sym (below s [] (entries_of (old s)) low))
        (λ (high : bound ≤ s). ap entries_of (same s high) ∙ sym (above s [] (entries_of (old s)) high))
        (cases_lt s bound)

    synced : (s : ℕ) → length (entries_of (take (synced_in (now s) (new s)) (new s))) ≡ (if nat_lt s bound then 0 else synced_of s)
    synced s = ⊎_elim
        (λ (low : s < bound). none_taken (synced_in (now s) (new s)) (new s) (gone s low) ∙ sym (below s 0 (synced_of s) low))
        (λ (high : bound ≤ s). ap (λ (o : Option ℕ). length (entries_of (take (synced_in o (new s)) (new s)))) (stays s high)
        ∙ ap (λ bytes. length (entries_of (take (synced_in (written s) bytes) bytes))) (same s high)
        ∙ sym (above s 0 (synced_of s) high))
        (cases_lt s bound)
