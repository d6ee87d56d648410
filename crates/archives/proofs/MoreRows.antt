-- Further worked rows, as runs that the machine admits, with syncs, a loss, key tests and ranges from an index on.
use Rattle.std.proofs.Common.{◌≡◌, inl, inr, refl, subst, ℕ, zero, suc, ◌+◌, ◌-◌, ◌<◌, ◌≤◌, List, [], ◌∷◌, slice_index, Some, true, false, lit<, arith, Contains, IsTrue}
use Rattle.std.proofs.lemmas.Bool.{false≢true}
use Rattle.archives.specs.Commands.{Put, PutSync, PutStart, MultiSync, MultiStart, Has, HasKey, Missing, Ranges, RangesFrom, First, Last, Start, Prune, Reopen}
use Rattle.archives.specs.Replies as reply
use Rattle.ordinal_store.specs.Numbers.{Set, AreMissing, IsMissing, IsLeast, IsGreatest, AreRuns, AreRunsFrom}
use Rattle.archives.specs.Machine.{IsReopened, Run, ContainsKey, empty_state, has_index, appended, emptied_below, after_sync}
use Rattle.archives.specs.lemmas.MachineLaws.{IsInOrder, step_keeps_order}
use Rattle.archives.proofs.Rows.{Stand, key_of, reopened, whole}
use Rattle.archives.proofs.Sets.{HasOnly, appended_has_only, appended_record, each_of, emptied_has_only, empty_has_only, lone_runs, lone_runs_from}

-- ---- synced puts in sections of 1,000, a prune inside the second, and a reopening

abbrev one : Stand
one = after_sync (appended 1000 998 (key_of 1) (170 ∷ []) empty_state)

abbrev two : Stand
two = after_sync (appended 1000 1000 (key_of 2) (187 ∷ []) one)

abbrev three : Stand
three = after_sync (appended 1000 1003 (key_of 3) (204 ∷ []) two)

abbrev set : Set
set = has_index 1000 three

only_three : HasOnly set (998 ∷ 1000 ∷ 1003 ∷ [])
only_three =
    appended_has_only {V = List ℕ} 1000 1003 (key_of 3) (204 ∷ []) two (998 ∷ 1000 ∷ []) (appended_has_only {V = List ℕ} 1000 1000 (key_of 2) (187 ∷ []) one (998 ∷ [])
    (appended_has_only {V = List ℕ} 1000 998 (key_of 1) (170 ∷ []) empty_state [] empty_has_only))

abbrev gaps : List ℕ
gaps = 999 ∷ 1001 ∷ 1002 ∷ []

absent : (x : ℕ) → 998 ≤ x → x < 1003 → ¬ IsTrue (set x) → IsMissing set 998 x
absent x from low none = record { from = from; absent = none; below = (1003, low, refl) }

-- the numbers from 998 to 1002, one by one
listed : (x j : ℕ) → x ≡ 998 + j → j < 5 → ¬ IsTrue (set x) → Contains gaps x
listed x zero e lt none = let at : 998 ≡ x = omega arith in absurd (none (subst (λ i. IsTrue (set i)) at refl))
listed x (suc zero) e lt none = (0, lit< tt, omega arith)
listed x (suc (suc zero)) e lt none = let at : 1000 ≡ x = omega arith in absurd (none (subst (λ i. IsTrue (set i)) at refl))
listed x (suc (suc (suc zero))) e lt none = (1, lit< tt, omega arith)
listed x (suc (suc (suc (suc zero)))) e lt none = (2, lit< tt, omega arith)
listed x (suc (suc (suc (suc (suc j))))) e lt none = absurd (omega arith)

absent_all : AreMissing set 998 10 gaps
absent_all = record {
  ascending = next;
  at_most = omega arith;
  each = each_of (IsMissing set 998) gaps (
    absent 999 (omega arith) (lit< tt) (λ h. false≢true h),
    (absent 1001 (omega arith) (lit< tt) (λ h. false≢true h), (absent 1002 (omega arith) (lit< tt) (λ h. false≢true h), tt)),
  );
  first = λ x missing.
      let top = each_of (λ m. m ≤ 1003) (998 ∷ 1000 ∷ 1003 ∷ []) (omega arith, (omega arith, (omega arith, tt))) missing.below.0 (only_three missing.below.0 missing.below.2) in
      inl (listed x (x - 998) (omega (arith, missing.from)) (omega (arith, missing.from, missing.below.1, top)) missing.absent);
}
  where
    next : (k : ℕ) → k + 1 < 3 → slice_index gaps k < slice_index gaps (k + 1)
    next zero within = lit< tt
    next (suc zero) within = lit< tt
    next (suc (suc k)) within = absurd (omega arith)

abbrev pruned : Stand
pruned = emptied_below 1000 three

only_pruned : HasOnly (has_index 1000 pruned) (1000 ∷ 1003 ∷ [])
only_pruned = emptied_has_only {V = List ℕ} 1000 1000 three (998 ∷ 1000 ∷ 1003 ∷ []) only_three

least : IsLeast (has_index 1000 pruned) (Some 1000)
least = (refl, λ i h. each_of (λ n. 1000 ≤ n) (1000 ∷ 1003 ∷ []) (omega arith, (omega arith, tt)) i (only_pruned i h))

greatest : IsGreatest (has_index 1000 pruned) (Some 1003)
greatest = (refl, λ i h. each_of (λ n. n ≤ 1003) (1000 ∷ 1003 ∷ []) (omega arith, (omega arith, tt)) i (only_pruned i h))

order : IsInOrder pruned
order = step_keeps_order 1000 three (Prune 1002) reply.Done pruned refl (λ s. omega arith)

pub thousand_a_section : Run 1000 empty_state
    (PutSync 998 (key_of 1) (170 ∷ []) ∷ PutSync 1000 (key_of 2) (187 ∷ []) ∷ PutSync 1003 (key_of 3) (204 ∷ []) ∷ Ranges ∷ Missing 998 10 ∷ Prune 1002 ∷ First ∷ Last ∷ Reopen ∷ Ranges ∷ [])
    (reply.Done ∷ reply.Done ∷ reply.Done ∷ reply.Ranges ((998, 998) ∷ (1000, 1000) ∷ (1003, 1003) ∷ []) ∷ reply.Items (999 ∷ 1001 ∷ 1002 ∷ []) ∷ reply.Done ∷ reply.Index (Some 1000) ∷ reply.Index (Some 1003) ∷ reply.Done ∷ reply.Ranges ((1000, 1000) ∷ (1003, 1003) ∷ []) ∷ [])
    (reopened pruned)
thousand_a_section = (_, refl, (_, refl, (_, refl, (_, (all, refl), (_, (absent_all, refl), (_, refl, (_, (least, refl), (_, (greatest, refl), (_, whole pruned order, (_, (left, refl), refl))))))))))
  where
    all : AreRuns set ((998, 998) ∷ (1000, 1000) ∷ (1003, 1003) ∷ [])
    all = lone_runs set (998 ∷ 1000 ∷ 1003 ∷ []) ((lit< tt, (lit< tt, tt)), ((lit< tt, tt), (tt, tt))) only_three (refl, (refl, (refl, tt)))

    left : AreRuns (has_index 1000 pruned) ((1000, 1000) ∷ (1003, 1003) ∷ [])
    left = lone_runs (has_index 1000 pruned) (1000 ∷ 1003 ∷ []) ((lit< tt, tt), (tt, tt)) only_pruned (refl, (refl, tt))

-- ---- what was not synced may be lost by a reopening

lost : IsReopened {V = List ℕ} (appended 4 5 (key_of 1) (170 ∷ []) empty_state) empty_state
lost = record { opened = refl; cut = λ s. refl; at_least = λ s. omega arith; synced = λ s. refl; floor = refl }

pub unsynced_lost : Run {V = List ℕ} 4 empty_state (Put 5 (key_of 1) (170 ∷ []) ∷ Reopen ∷ Has 5 ∷ []) (reply.Done ∷ reply.Done ∷ reply.Flag false ∷ []) empty_state
unsynced_lost = (_, refl, (empty_state, lost, (_, (refl, refl), refl)))

-- ---- a record more, and none; the key of a record, and of none; the ranges above the first

abbrev kept : Stand
kept = after_sync (after_sync (appended 4 4 (key_of 1) (170 ∷ []) empty_state))

abbrev more : Stand
more = after_sync (after_sync (appended 4 9 (key_of 2) (204 ∷ []) kept))

only_more : HasOnly (has_index 4 more) (4 ∷ 9 ∷ [])
only_more =
    appended_has_only {V = List ℕ} 4 9 (key_of 2) (204 ∷ []) kept (4 ∷ []) (appended_has_only {V = List ℕ} 4 4 (key_of 1) (170 ∷ []) empty_state [] empty_has_only)

no_third : ¬ ContainsKey more (key_of 3)
no_third (value, (s, r, is, key, at)) =
    elim (appended_record {V = List ℕ} 4 9 (key_of 2) (204 ∷ []) kept s r is) as (λ _. ⊥) [
      | inr e ↦ let second : key_of 2 ≡ key_of 3 = cc in cc
      | inl before ↦ elim (appended_record {V = List ℕ} 4 4 (key_of 1) (170 ∷ []) empty_state s r before) as (λ _. ⊥) [
        | inr e ↦ let first : key_of 1 ≡ key_of 3 = cc in cc
        | inl none ↦ omega (arith, none.1)
      ]
    ]

from_5 : AreRunsFrom (has_index 4 more) 5 ((9, 9) ∷ [])
from_5 = lone_runs_from (has_index 4 more) (4 ∷ 9 ∷ []) ((lit< tt, tt), (tt, tt)) only_more 5 (9 ∷ []) (tt, tt)
    (λ i h. each_of (λ n. 5 ≤ n → Contains (9 ∷ []) n) (4 ∷ 9 ∷ []) ((λ low. absurd (omega arith)), ((λ low. (0, lit< tt, refl)), tt)) i (only_more i h))
    ((refl, omega arith), tt)

pub other_commands : Run 4 empty_state
    (MultiSync 4 (key_of 1) (170 ∷ []) ∷ PutStart 4 (key_of 2) (187 ∷ []) ∷ MultiStart 9 (key_of 2) (204 ∷ []) ∷ Start ∷ HasKey (key_of 2) ∷ HasKey (key_of 3) ∷ RangesFrom 5 ∷ [])
    (reply.Done ∷ reply.Done ∷ reply.Done ∷ reply.Done ∷ reply.Flag true ∷ reply.Flag false ∷ reply.Ranges ((9, 9) ∷ []) ∷ [])
    more
other_commands = (_, refl, (_, refl, (_, refl, (_, refl, (_, (second, refl), (_, (((λ h. absurd (false≢true h)), (λ has. absurd (no_third has))), refl), (_, (from_5, refl), refl)))))))
  where
    second : (IsTrue true → ContainsKey more (key_of 2)) × (ContainsKey more (key_of 2) → IsTrue true)
    second = ((λ h. (204 ∷ [], (8, _, (0, lit< tt, refl), refl, refl))), λ has. refl)
