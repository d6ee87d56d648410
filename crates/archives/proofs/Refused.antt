-- Replies that the machine refuses, whatever state would come of them. Sections have room for four indices.
use Rattle.std.proofs.Common.{◌≡◌, ◌≢◌, inl, inr, refl, sym, ◌∙◌, ap, subst, ℕ, true, false, ◌==◌, List, [], ◌∷◌, length, Option, Some, None, lit<, arith}
use Rattle.std.specs.Prelude.{MatchBool}
use Rattle.std.specs.List.{list_any}
use Rattle.std.proofs.lemmas.Bool.{false≢true}
use Rattle.std.proofs.lemmas.List.{take_all}
use Rattle.archives.specs.Commands.{Command, Put, PutSync, Get, GetKey, Has, Missing, Prune, Reopen, Destroy}
use Rattle.archives.specs.Replies as reply
use Rattle.archives.specs.Replies.{Reply}
use Rattle.archives.specs.Machine.{Entry, Run, Step, OpenStep, ClosedStep, IsReopened, empty_state, has_index, emptied_below, after_sync, after_destroy}
use Rattle.archives.proofs.Rows.{Stand, both, fifth, four, key_of}
use Rattle.archives.proofs.Sets.{appended_record, each_of}

-- what follows a step that can lead to one state only
settled : (to : Stand) (commands : List (Command (List ℕ))) (replies : List (Reply (List ℕ))) (end : Stand)
    → ((mid : Stand) × (mid ≡ to) × Run 4 mid commands replies end) → Run 4 to commands replies end
settled to commands replies end run = subst (λ st. Run 4 st commands replies end) run.1 run.2

-- a put is not answered by a value
pub refused_kind : (end : Stand) → ¬ Run 4 empty_state (Put 5 (key_of 1) (170 ∷ []) ∷ []) (reply.Value None ∷ []) end
refused_kind end run = run.1

-- a put record is not answered as absent
pub refused_get : (end : Stand) → ¬ Run 4 empty_state (Put 5 (key_of 1) (170 ∷ []) ∷ Get 5 ∷ []) (reply.Done ∷ reply.Value None ∷ []) end
refused_get end run =
    let next = settled fifth (Get 5 ∷ []) (reply.Value None ∷ []) end run in
    let found = next.1.0 in
    cc

abbrev first_byte : Option (List ℕ) → ℕ
first_byte None = 0
first_byte (Some []) = 0
first_byte (Some (byte ∷ bytes)) = byte

-- the first record at an index is the one that is found
pub refused_last : (end : Stand) → ¬ Run 4 both (Get 5 ∷ []) (reply.Value (Some (187 ∷ [])) ∷ []) end
refused_last end run = let bytes : first_byte (Some (187 ∷ [])) ≡ first_byte (Some (170 ∷ [])) = ap first_byte run.1.0 in omega (arith, bytes)

-- a value is not found under another key
pub refused_key : (end : Stand) → ¬ Run 4 fifth (GetKey (key_of 2) ∷ []) (reply.Value (Some (170 ∷ [])) ∷ []) end
refused_key end (mid, ((s, r, is, key, value), same), rest) =
    elim (appended_record {V = List ℕ} 4 5 (key_of 1) (170 ∷ []) empty_state s r is) as (λ _. ⊥) [
      | inl none ↦ omega (arith, none.1)
      | inr e ↦ let keys : key_of 1 ≡ key_of 2 = cc in cc
    ]

-- what is put below the floor is not there
pub refused_low : (end : Stand) → ¬ Run 4 empty_state (Prune 7 ∷ Put 3 (key_of 1) (170 ∷ []) ∷ Has 3 ∷ []) (reply.Done ∷ reply.Done ∷ reply.Flag true ∷ []) end
refused_low end run =
    let pruned : Stand = emptied_below 4 empty_state in
    let next = settled pruned (Put 3 (key_of 1) (170 ∷ []) ∷ Has 3 ∷ []) (reply.Done ∷ reply.Flag true ∷ []) end run in
    let last = settled pruned (Has 3 ∷ []) (reply.Flag true ∷ []) end next in
    false≢true (sym last.1.0)

-- a closed archive says so
pub refused_closed : (end : Stand) → ¬ Run 4 empty_state (Destroy ∷ Get 1 ∷ []) (reply.Done ∷ reply.Value None ∷ []) end
refused_closed end run = (settled (after_destroy empty_state) (Get 1 ∷ []) (reply.Value None ∷ []) end run).1

-- an absent number is not left out
pub refused_gap : (end : Stand) → ¬ Run 4 four (Missing 0 3 ∷ []) (reply.Items (0 ∷ 2 ∷ 4 ∷ []) ∷ []) end
refused_gap end run =
    let missing = run.1.0 in
    let third = missing.first 3 (record { from = omega arith; absent = λ h. false≢true h; below = (14, lit< tt, refl) }) in
    elim third as (λ _. ⊥) [
      | inl is ↦ each_of (λ n. n ≢ 3) (0 ∷ 2 ∷ 4 ∷ []) ((λ e. omega arith), ((λ e. omega arith), ((λ e. omega arith), tt))) 3 is refl
      | inr late ↦ let over = late.1 4 (2, lit< tt, refl) in omega (arith, over)
    ]

-- ---- a reopening

opened_step : (st new : Stand) (command : Command (List ℕ)) (answer : Reply (List ℕ)) → st.is_open ≡ true → Step 4 st command answer new → OpenStep 4 st command answer new
opened_step st new command answer opened step = subst (λ b. MatchBool b (OpenStep 4 st command answer new) (ClosedStep st command answer new)) opened step

-- what was synced is there after it
pub refused_loss : (end : Stand) → ¬ Run 4 empty_state (PutSync 5 (key_of 1) (170 ∷ []) ∷ Reopen ∷ Has 5 ∷ []) (reply.Done ∷ reply.Done ∷ reply.Flag false ∷ []) end
refused_loss end run =
    let synced : Stand = after_sync fifth in
    let next = settled synced (Reopen ∷ Has 5 ∷ []) (reply.Done ∷ reply.Flag false ∷ []) end run in
    let new = next.0 in
    let reopened : IsReopened synced new = next.1 in
    let whole = reopened.cut 4 ∙ take_all (length (new.lists 4)) (synced.lists 4) (reopened.at_least 4) in
    let there : has_index 4 new 5 ≡ true = ap (list_any (λ (r : Entry (List ℕ)). r.index == 5)) whole in
    let step = opened_step new next.2.0 (Has 5) (reply.Flag false) reopened.opened next.2.1 in
    false≢true (step.0 ∙ there)
