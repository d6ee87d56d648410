-- A content without bytes has no sealed bytes.
use Rattle.std.proofs.Common.{◌≡◌, ℕ, List, [], arith}
use Rattle.std.proofs.lemmas.List.{nil_from_length}
use Rattle.sealed_pages.specs.SealedPrefix.{sealed_prefix, Prefix}
use Rattle.sealed_pages.specs.lemmas.slots.SealedBytes.{SoundTo, sound_prefix}
use Rattle.sealed_pages.specs.lemmas.slots.Slot.{slot_stands}

pub nothing_sealed : (seal : List ℕ → ℕ) (P : ℕ) → sealed_prefix seal P [] ≡ []
nothing_sealed seal P =
    let sound : SoundTo seal P [] [] = record {
      within = λ k b start some. absurd (omega (arith, slot_stands seal P [] k b some));
      same = λ k b i start lt. absurd (omega (arith, slot_stands seal P [] k b (omega (arith, lt))));
    } in
    let prefix : Prefix seal P [] 0 [] = sound_prefix seal P [] [] sound 0 (omega arith) in
    nil_from_length (sealed_prefix seal P []) (omega (arith, prefix.no_longer))
