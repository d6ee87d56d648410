-- A value that is sound in the first bytes is sound in all.
use Rattle.std.proofs.Common.{ℕ, List, length, take, IsTrue, sym, ap, subst, arith}
use Rattle.std.proofs.lemmas.List.{take_all}
use Rattle.section_manager.specs.Prefixes.{IsPrefixOf}
use Rattle.paired.specs.lemmas.Kept.{sound_parts, sound_settled}
use Rattle.section_manager.specs.lemmas.buffers.UnsealedCalls.{prefix_taken}
use Rattle.paired.specs.Records.{is_sound}

-- what is sound in the first bytes is sound in all
pub sound_longer : (seal : List ℕ → ℕ) (bytes : List ℕ) (k at n : ℕ) → IsTrue (is_sound seal (take k bytes) (at, n)) → IsTrue (is_sound seal bytes (at, n))
sound_longer seal bytes k at n sound =
    let some : List ℕ = take k bytes in
    sound_settled seal some bytes (length some) at n (subst (λ (c : List ℕ). IsPrefixOf c bytes) (sym (take_all (length some) some (omega arith))) (prefix_taken k bytes))
    (omega (arith, (sound_parts seal some at n sound).1, ap length (take_all (length some) some (omega arith)))) sound
