-- Worked rows, as runs that the machine admits, each with the state in which it ends. Sections have room for four indices.
use Rattle.std.proofs.Common.{◌≡◌, ◌≢◌, ◌⊎◌, inl, inr, refl, sym, subst, ℕ, zero, suc, ◌+◌, ◌<◌, ◌≤◌, List, slice_index, [], ◌∷◌, ◌++◌, length, Some, None, true, false, lit<, arith, Contains, IsTrue}
use Rattle.std.specs.Int.{w64, to_be_bytes}
use Rattle.std.proofs.Math.Seq.{take-length}
use Rattle.std.proofs.lemmas.Bool.{cases_lt, false≢true}
use Rattle.archives.specs.Commands.{Command, Put, Multi, Get, GetKey, Has, HasAt, All, Gap, Missing, Ranges, First, Sync, Prune, Reopen, Destroy}
use Rattle.archives.specs.Replies as reply
use Rattle.archives.specs.Replies.{Reply}
use Rattle.archives.specs.Machine.{Entry, State, Run, IsReopened, empty_state, has_index, appended, emptied_below, after_sync, after_destroy}
use Rattle.archives.proofs.MachineLaws.{run_append}
use Rattle.ordinal_store.specs.Numbers.{Set, IsRun, AreMissing, IsMissing, IsRunEnd, IsNextRun}
use Rattle.archives.proofs.Sets.{HasOnly, appended_has_only, each_of, emptied_has_only, empty_has_only, is_lone, lone_runs, none_missing}
use Rattle.archives.specs.lemmas.MachineLaws.{IsInOrder}

-- a key of eight bytes
abbrev pub key_of : ℕ → List ℕ
key_of n = to_be_bytes w64 n

-- a value is its bytes
abbrev pub Stand : Type 0
Stand = State (List ℕ)

-- ---- a put, and what is found then

abbrev pub fifth : Stand
fifth = appended 4 5 (key_of 1) (170 ∷ []) empty_state

pub put_then_get : Run 4 empty_state
    (Put 5 (key_of 1) (170 ∷ []) ∷ Get 5 ∷ GetKey (key_of 1) ∷ Get 6 ∷ [])
    (reply.Done ∷ reply.Value (Some (170 ∷ [])) ∷ reply.Value (Some (170 ∷ [])) ∷ reply.Value None ∷ [])
    fifth
put_then_get = (_, refl, (_, (refl, refl), (_, ((4, _, (0, lit< tt, refl), refl, refl), refl), (_, (refl, refl), refl))))

-- ---- two records at an index; a put there changes nothing

abbrev pub both : Stand
both = appended 4 5 (key_of 2) (187 ∷ []) fifth

pub several_records : Run 4 empty_state
    (Multi 5 (key_of 1) (170 ∷ []) ∷ Multi 5 (key_of 2) (187 ∷ []) ∷ Put 5 (key_of 3) (204 ∷ []) ∷ All 5 ∷ Get 5 ∷ HasAt 5 (key_of 3) ∷ [])
    (reply.Done ∷ reply.Done ∷ reply.Done ∷ reply.Values (Some ((170 ∷ []) ∷ (187 ∷ []) ∷ [])) ∷ reply.Value (Some (170 ∷ [])) ∷ reply.Flag false ∷ [])
    both
several_records = (_, refl, (_, refl, (_, refl, (_, (refl, refl), (_, (refl, refl), (_, ((λ e. absurd (false≢true e), no_third), refl), refl))))))
  where
    no_third : (r : Entry (List ℕ)) × Contains (record { index = 5; key = key_of 1; value = 170 ∷ [] } ∷ record { index = 5; key = key_of 2; value = 187 ∷ [] } ∷ []) r × (r.key ≡ key_of 3) → false ≡ true
    no_third (r, is, e) = absurd (each_of (λ (q : Entry (List ℕ)). q.key ≢ key_of 3) (both.lists 4) ((λ same. cc), ((λ same. cc), tt)) r is e)

-- ---- the greatest index of 64 bits

abbrev top : ℕ
top = 18446744073709551615

abbrev topmost : Stand
topmost = appended 4 top (key_of 1) [] empty_state

only_top : HasOnly (has_index 4 topmost) (top ∷ [])
only_top = appended_has_only {V = List ℕ} 4 top (key_of 1) [] empty_state [] empty_has_only

pub at_the_top : Run 4 empty_state
    (Put top (key_of 1) [] ∷ Gap top ∷ Missing top 3 ∷ Get top ∷ [])
    (reply.Done ∷ reply.Gap (Some top) None ∷ reply.Items [] ∷ reply.Value (Some []) ∷ [])
    topmost
at_the_top = (_, refl, (_, (gap_end, gap_next, refl), (_, (missing, refl), (_, (refl, refl), refl))))
  where
    is_top : (i : ℕ) → IsTrue (has_index 4 topmost i) → i ≡ top
    is_top i h = each_of (λ n. n ≡ top) (top ∷ []) (refl, tt) i (only_top i h)

    gap_end : IsRunEnd (has_index 4 topmost) top (Some top)
    gap_end = (top, omega arith, omega arith, is_lone (has_index 4 topmost) (top ∷ []) (tt, tt) only_top top refl)

    gap_next : IsNextRun (has_index 4 topmost) top None
    gap_next a b above run = omega (arith, is_top a (run.inside a (omega arith) run.ordered))

    missing : AreMissing (has_index 4 topmost) top 3 []
    missing = record {
      ascending = λ k within. absurd (omega arith);
      at_most = omega arith;
      each = λ x is. absurd (omega (arith, is.1));
      first = λ x m. absurd (omega (arith, m.from, m.below.1, is_top m.below.0 m.below.2));
    }

-- ---- three puts and a prune

abbrev one : Stand
one = appended 4 3 (key_of 1) (170 ∷ []) empty_state

abbrev two : Stand
two = appended 4 4 (key_of 2) (187 ∷ []) one

abbrev three : Stand
three = appended 4 9 (key_of 3) (204 ∷ []) two

abbrev pruned : Stand
pruned = emptied_below 4 three

only_pruned : HasOnly (has_index 4 pruned) (4 ∷ 9 ∷ [])
only_pruned =
    emptied_has_only {V = List ℕ} 4 4 three (3 ∷ 4 ∷ 9 ∷ []) (appended_has_only {V = List ℕ} 4 9 (key_of 3) (204 ∷ []) two (3 ∷ 4 ∷ [])
    (appended_has_only {V = List ℕ} 4 4 (key_of 2) (187 ∷ []) one (3 ∷ []) (appended_has_only {V = List ℕ} 4 3 (key_of 1) (170 ∷ []) empty_state [] empty_has_only)))

abbrev prune_commands : List (Command (List ℕ))
prune_commands = Put 3 (key_of 1) (170 ∷ []) ∷ Put 4 (key_of 2) (187 ∷ []) ∷ Put 9 (key_of 3) (204 ∷ []) ∷ Prune 7 ∷ Ranges ∷ Put 3 (key_of 1) (170 ∷ []) ∷ Has 3 ∷ []

abbrev prune_replies : List (Reply (List ℕ))
prune_replies = reply.Done ∷ reply.Done ∷ reply.Done ∷ reply.Done ∷ reply.Ranges ((4, 4) ∷ (9, 9) ∷ []) ∷ reply.Done ∷ reply.Flag false ∷ []

pub after_a_prune : Run 4 empty_state prune_commands prune_replies pruned
after_a_prune = (_, refl, (_, refl, (_, refl, (_, refl, (_, (lone_runs (has_index 4 pruned) (4 ∷ 9 ∷ []) ((lit< tt, tt), (tt, tt)) only_pruned (refl, (refl, tt)), refl), (_, refl, (_, (refl, refl), refl)))))))

-- ---- the floor is gone after a reopening

-- a reopening that cuts nothing
abbrev pub reopened : {V : Type 0} → State V → State V
reopened st = record { is_open = true; lists = st.lists; synced = λ s. length (st.lists s); floor = 0 }

pub whole : {V : Type 0} (st : State V) → IsInOrder st → IsReopened st (reopened st)
whole st order = record {
  opened = refl;
  cut = λ s. sym (take-length (st.lists s));
  at_least = order;
  synced = λ s. refl;
  floor = refl;
}

abbrev put_again : Stand
put_again = appended 4 3 (key_of 1) (170 ∷ []) (reopened (after_sync pruned))

abbrev reopening_commands : List (Command (List ℕ))
reopening_commands = Sync ∷ Reopen ∷ Put 3 (key_of 1) (170 ∷ []) ∷ Has 3 ∷ []

abbrev reopening_replies : List (Reply (List ℕ))
reopening_replies = reply.Done ∷ reply.Done ∷ reply.Done ∷ reply.Flag true ∷ []

behind_the_prune : Run 4 pruned reopening_commands reopening_replies put_again
behind_the_prune = (_, refl, (_, whole (after_sync pruned) (λ s. omega arith), (_, refl, (_, (refl, refl), refl))))

-- and all of it from the start
pub after_a_reopening : Run 4 empty_state (prune_commands ++ reopening_commands) (prune_replies ++ reopening_replies) put_again
after_a_reopening = run_append 4 empty_state pruned put_again prune_commands reopening_commands prune_replies reopening_replies after_a_prune behind_the_prune

-- ---- gaps and absent numbers

abbrev put_1 : Stand
put_1 = appended 4 1 (key_of 1) (170 ∷ []) empty_state

abbrev put_10 : Stand
put_10 = appended 4 10 (key_of 1) (170 ∷ []) put_1

abbrev put_11 : Stand
put_11 = appended 4 11 (key_of 1) (170 ∷ []) put_10

abbrev pub four : Stand
four = appended 4 14 (key_of 1) (170 ∷ []) put_11

abbrev four_set : Set
four_set = has_index 4 four

abbrev ones : List ℕ
ones = 1 ∷ 10 ∷ 11 ∷ 14 ∷ []

only_four : HasOnly four_set ones
only_four =
    appended_has_only {V = List ℕ} 4 14 (key_of 1) (170 ∷ []) put_11 (1 ∷ 10 ∷ 11 ∷ []) (appended_has_only {V = List ℕ} 4 11 (key_of 1) (170 ∷ []) put_10 (1 ∷ 10 ∷ [])
    (appended_has_only {V = List ℕ} 4 10 (key_of 1) (170 ∷ []) put_1 (1 ∷ []) (appended_has_only {V = List ℕ} 4 1 (key_of 1) (170 ∷ []) empty_state [] empty_has_only)))

absent : (x : ℕ) → 0 ≤ x → x < 14 → ¬ IsTrue (four_set x) → IsMissing four_set 0 x
absent x from low none = record { from = from; absent = none; below = (14, low, refl) }

abbrev gaps : List ℕ
gaps = 0 ∷ 2 ∷ 3 ∷ 4 ∷ []

-- the least five numbers, one by one
below_5 : (x : ℕ) → x ≤ 4 → ¬ IsTrue (four_set x) → Contains gaps x
below_5 zero le none = (0, lit< tt, refl)
below_5 (suc zero) le none = absurd (none refl)
below_5 (suc (suc zero)) le none = (1, lit< tt, refl)
below_5 (suc (suc (suc zero))) le none = (2, lit< tt, refl)
below_5 (suc (suc (suc (suc zero)))) le none = (3, lit< tt, refl)
below_5 (suc (suc (suc (suc (suc x))))) le none = absurd (omega arith)

first_absent : AreMissing four_set 0 4 gaps
first_absent = record {
  ascending = spaced_or_next;
  at_most = omega arith;
  each = each_of (IsMissing four_set 0) gaps (
    absent 0 (omega arith) (lit< tt) (λ h. false≢true h),
    (absent 2 (omega arith) (lit< tt) (λ h. false≢true h), (absent 3 (omega arith) (lit< tt) (λ h. false≢true h), (absent 4 (omega arith) (lit< tt) (λ h. false≢true h), tt))),
  );
  first = λ x missing. elim (cases_lt x 5) as (λ _. Contains gaps x ⊎ ((length gaps ≡ 4) × ((y : ℕ) → Contains gaps y → y < x))) [
    | inl low ↦ inl (below_5 x (omega arith) missing.absent)
    | inr high ↦ inr (refl, each_of (λ y. y < x) gaps (omega arith, (omega arith, (omega arith, (omega arith, tt)))))
  ];
}
  where
    spaced_or_next : (k : ℕ) → k + 1 < 4 → slice_index gaps k < slice_index gaps (k + 1)
    spaced_or_next zero within = lit< tt
    spaced_or_next (suc zero) within = lit< tt
    spaced_or_next (suc (suc zero)) within = lit< tt
    spaced_or_next (suc (suc (suc k))) within = absurd (omega arith)

-- a run of four_set begins at 14 where it begins above 11, or above 10 and not right behind 10
late_start : (a b : ℕ) → 10 < a → IsRun four_set a b → 14 ≤ a
late_start a b above run = each_of (λ n. 10 < n → ((i : ℕ) → i + 1 ≡ n → ¬ IsTrue (four_set i)) → 14 ≤ n) ones (
  (λ low begins. omega arith),
  ((λ low begins. omega arith), ((λ low begins. absurd (begins 10 refl refl)), ((λ low begins. omega arith), tt))),
) a (only_four a (run.inside a (omega arith) run.ordered)) above run.begins

run_14 : IsRun four_set 14 14
run_14 = record {
  ordered = omega arith;
  inside = λ i a b. let e : 14 ≡ i = omega arith in subst (λ j. IsTrue (four_set j)) e refl;
  begins = λ i e h. let at : i ≡ 13 = omega arith in false≢true (subst (λ j. IsTrue (four_set j)) at h);
  ends = λ h. false≢true h;
}

run_10 : IsRun four_set 10 11
run_10 = record {
  ordered = omega arith;
  inside = λ i a b. elim (cases_lt 10 i) as (λ _. IsTrue (four_set i)) [
    | inl more ↦ let e : 11 ≡ i = omega arith in subst (λ j. IsTrue (four_set j)) e refl
    | inr less ↦ let e : 10 ≡ i = omega arith in subst (λ j. IsTrue (four_set j)) e refl
  ];
  begins = λ i e h. let at : i ≡ 9 = omega arith in false≢true (subst (λ j. IsTrue (four_set j)) at h);
  ends = λ h. false≢true h;
}

pub gaps_found : Run 4 empty_state
    (Put 1 (key_of 1) (170 ∷ []) ∷ Put 10 (key_of 1) (170 ∷ []) ∷ Put 11 (key_of 1) (170 ∷ []) ∷ Put 14 (key_of 1) (170 ∷ []) ∷ Missing 0 4 ∷ Missing 0 0 ∷ Gap 10 ∷ Gap 12 ∷ [])
    (reply.Done ∷ reply.Done ∷ reply.Done ∷ reply.Done ∷ reply.Items (0 ∷ 2 ∷ 3 ∷ 4 ∷ []) ∷ reply.Items [] ∷ reply.Gap (Some 11) (Some 14) ∷ reply.Gap None (Some 14) ∷ [])
    four
gaps_found = (_, refl, (_, refl, (_, refl, (_, refl, (_, (first_absent, refl), (_, (none_missing four_set 0, refl), (_, (in_run, next 10 (lit< tt) (λ a b lt. lt), refl), (_, ((λ h. false≢true h), next 12 (lit< tt) (λ a b lt. omega arith), refl), refl))))))))
  where
    in_run : IsRunEnd four_set 10 (Some 11)
    in_run = (10, omega arith, omega arith, run_10)

    next : (v : ℕ) → v < 14 → ((a b : ℕ) → v < a → 10 < a) → IsNextRun four_set v (Some 14)
    next v low high = (low, (14, run_14), λ a b above run. late_start a b (high a b above) run)

-- ---- nothing is there after a destroy

destroyed_again : IsReopened {V = List ℕ} (after_destroy (after_sync (appended 4 1 (key_of 1) (170 ∷ []) empty_state))) empty_state
destroyed_again = record { opened = refl; cut = λ s. refl; at_least = λ s. omega arith; synced = λ s. refl; floor = refl }

pub after_a_destroy : Run {V = List ℕ} 4 empty_state
    (Put 1 (key_of 1) (170 ∷ []) ∷ Sync ∷ Destroy ∷ Get 1 ∷ Reopen ∷ Get 1 ∷ First ∷ [])
    (reply.Done ∷ reply.Done ∷ reply.Done ∷ reply.Closed ∷ reply.Done ∷ reply.Value None ∷ reply.Index None ∷ [])
    empty_state
after_a_destroy = (_, refl, (_, refl, (_, refl, (_, refl, (empty_state, destroyed_again, (_, (refl, refl), (_, ((λ i e. false≢true e), refl), refl)))))))
