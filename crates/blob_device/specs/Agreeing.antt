-- The contents of a device in memory since a blob settled agree with what it reads as. The laws of the trait cite these.
use Rattle.std.specs.Prelude.{◌≡◌, ◌⊎◌, ℕ, ◌+◌, ◌/◌, ◌<◌, ◌≤◌, Bool, true, false, cond, List, [], ◌∷◌, ◌++◌, length, take, Option, Some, None}
use Rattle.std.proofs.Common.{refl, sym, ◌∙◌, inl, inr, get_or, arith, length-take}
use Rattle.std.specs.List.{AllByRecursion}
use Rattle.blob_device.specs.declared.memory.blob_log.Call.{Call}
use Rattle.blob_device.specs.Disk.{Blob, Outside, Agrees, PastAgrees, shortest, begun}
use Rattle.blob_device.specs.Change.{Change, Make, Write, Resize, Settle, Remove, Look, written, resized}
use Rattle.blob_device.specs.Calls.{result_of, change_of, after, replay, now, Track}
use Rattle.blob_device.specs.Lengths.{length-resized, least_push}
use Rattle.blob_device.specs.Places.{outside_before, written_out, resized_below}

pub all_added : (Q : List ℕ → Type 0) (cs : List (List ℕ)) (c : List ℕ) → AllByRecursion Q cs → Q c → AllByRecursion Q (cs ++ c ∷ [])
all_added Q [] c all new = (new, tt)
all_added Q (d ∷ cs) c all new = (all.0, all_added Q cs c all.1 new)

-- at each place that no crash changes now, the blob reads as before
abbrev SamePlaces : Blob → Blob → Type 0
SamePlaces b b' = (i : ℕ) → i < shortest b' → Outside b'.loose i → (i < shortest b) × Outside b.loose i × (get_or b.content i 0 ≡ get_or b'.content i 0)

still : (b b' : Blob) → SamePlaces b b' → (cs : List (List ℕ)) → AllByRecursion (Agrees b) cs → AllByRecursion (Agrees b') cs
still b b' same [] all = tt
still b b' same (c ∷ cs) all = (λ i lt out. let k = same i lt out in all.0 i k.0 k.1 ∙ k.2, still b b' same cs all.1)

-- one content more
more : (b b' : Blob) (whole : List ℕ) → SamePlaces b b' → Agrees b' whole → PastAgrees b → AllByRecursion (Agrees b') (b.settled ∷ (b.since ++ whole ∷ []))
more b b' whole same new was = let all = still b b' same (b.settled ∷ b.since) was in (all.0, all_added (Agrees b') b.since whole all.1 new)

module _ (b : Blob) (at : ℕ) (bytes part : List ℕ) (le : length part ≤ length bytes) (was : PastAgrees b) where
  nearer : (i : ℕ) → (i < at) ⊎ (at + length bytes ≤ i) → (i < at) ⊎ (at + length part ≤ i)
  nearer i (inl below) = inl below
  nearer i (inr beyond) = inr (omega (arith, beyond, le))

  abbrev to : Blob
  to = record b { content = written b.content at part; since = b.since ++ written b.content at bytes ∷ []; loose = b.loose ++ (at, length bytes) ∷ [] }

  wrote : PastAgrees to
  wrote = more b to (written b.content at bytes)
      (λ i lt out. let outs = outside_before b.loose at (length bytes) i out in
      (omega (arith, lt, least_push (length b.settled) b.since (written b.content at bytes)), outs.0, sym (written_out b.content at part i (nearer i outs.1))))
      (λ i lt out. let outs = outside_before b.loose at (length bytes) i out in written_out b.content at bytes i outs.1 ∙ sym (written_out b.content at part i (nearer i outs.1)))
      was

made : (b : Blob) → PastAgrees b → (v : Bool) → PastAgrees (cond v b (record b { content = []; unsure = true; since = b.since ++ [] ∷ [] }))
made b was true = was
made b was false = more b (record b { content = []; unsure = true; since = b.since ++ [] ∷ [] }) []
    (λ i lt out. absurd (omega (arith, lt, least_push (length b.settled) b.since []))) (λ i lt out. refl) was

agrees_result : (change : Change) (f : Bool) (b : Blob) → PastAgrees b → PastAgrees (result_of change f b)
agrees_result Make true b was = made b was b.there
agrees_result Make false b was = (λ i lt out. refl, tt)
agrees_result (Write at bytes) true b was = wrote b at bytes (take (length bytes / 2) bytes) (omega (arith, length-take (length bytes / 2) bytes)) was
agrees_result (Write at bytes) false b was = wrote b at bytes bytes (omega arith) was
agrees_result (Resize n) true b was = more b (record b { since = b.since ++ resized b.content n ∷ [] }) (resized b.content n)
    (λ i lt out. (omega (arith, lt, least_push (length b.settled) b.since (resized b.content n)), out, refl))
    (λ i lt out. resized_below b.content n i (omega (arith, lt, least_push (length b.settled) b.since (resized b.content n), length-resized b.content n))) was
agrees_result (Resize n) false b was = more b (record b { content = resized b.content n; since = b.since ++ resized b.content n ∷ [] }) (resized b.content n)
    (λ i lt out. (
      omega (arith, lt, least_push (length b.settled) b.since (resized b.content n)),
      out,
      sym (resized_below b.content n i (omega (arith, lt, least_push (length b.settled) b.since (resized b.content n), length-resized b.content n))),
    ))
    (λ i lt out. refl) was
agrees_result Settle true b was = was
agrees_result Settle false b was = (λ i lt out. refl, tt)
agrees_result Remove true b was = was
agrees_result Remove false b was = (λ i lt out. refl, tt)
agrees_result Look true b was = was
agrees_result Look false b was = was

agrees_replay : (cs : List Call) (b : Blob) → PastAgrees b → PastAgrees (replay cs b)
unfolding replay
agrees_replay [] b was = was
agrees_replay (c ∷ cs) b was = agrees_replay cs (after c b) (agrees_result (change_of c.step) c.failed b was)

agrees_begun : (start : Option (List ℕ)) → PastAgrees (begun start)
agrees_begun None = (λ i lt out. refl, tt)
agrees_begun (Some c) = (λ i lt out. refl, tt)

pub agrees_now : (t : Track) → PastAgrees (now t)
agrees_now t = agrees_replay t.calls (begun t.start) (agrees_begun t.start)
