-- Proofs of the laws of a section in a buffer without seals.
use Rattle.std.specs.Prelude.{◌≡◌, ℕ, ◌≤◌, ◌||◌, ◌&&◌, ◌∷◌, not, eqb, leb, ⊤, Bool, true, false, List, [], length, None, Some}
use Rattle.std.proofs.Common.{arith, inl, refl, sym, ap, ◌∙◌}
use Rattle.std.specs.List.{AllByRecursion, Contains}
use Rattle.std.proofs.lemmas.Bool.Decides.{nat_tests}
use Rattle.std.proofs.lemmas.List.Elements.{recursion_from_All, All-contains_itself}
use Rattle.blob_device.specs.Change.{written}
use Rattle.blob_device.specs.Disk.{Blob, past}
use Rattle.sealed_pages.specs.lemmas.Write.{written_nothing}
use Rattle.sealed_pages.specs.declared.write_blob.WriteBlob.{WriteBlob}
use Rattle.sealed_pages.specs.Cutting.{StandsSettled}
use Rattle.section_manager.specs.Leaving.{Leaves}
use Rattle.section_manager.specs.unsealed.Buffer.{Stands, IsWhole, IsOldOrPrefix, MayKeep, content_of, count_of, settled_of, is_unsettled}
use Rattle.blob_device.specs.Lengths.{length-written}

-- what is known of each has a weaker form
pub all_weaker : (P Q : List ℕ → Type 0) (cs : List (List ℕ)) → ((c : List ℕ) → P c → Q c) → AllByRecursion P cs → AllByRecursion Q cs
all_weaker P Q [] weaker all = tt
all_weaker P Q (c ∷ cs) weaker all = (weaker c all.0, all_weaker P Q cs weaker all.1)

-- the contents that a blob has had are old
pub all_old : (u : WriteBlob) (b : Blob) → AllByRecursion (IsOldOrPrefix u b) (past b)
all_old u b = all_weaker (Contains (past b)) (IsOldOrPrefix u b) (past b) (λ c among. inl among) (recursion_from_All (Contains (past b)) (past b) (All-contains_itself (past b)))

pub passes : (u : WriteBlob) (b : Blob) → Stands u b → Leaves (λ _ _. ⊤) (MayKeep u b (settled_of u)) b
passes u b stands None left =
    let unsure : b.unsure ≡ true = sym (ap (λ (t : Bool). not t || b.unsure) stands.over.lasts.there) ∙ left in
    absurd (cc (unsure, stands.over.lasts.sure))
passes u b stands (Some c) left = λ sealed. record {
  bytes = record {
    long = omega (arith, stands.over.lasts.short, left.1.no_shorter);
    same = λ i lt out loose. record {
      inside = omega (arith, lt, stands.over.lasts.short, left.1.no_shorter);
      same = left.1.kept i (omega (arith, lt, stands.over.lasts.short)) loose;
    };
  };
  since = λ behind. all_old u b;
}

pub looser : (u : WriteBlob) (b : Blob) (few more : ℕ) (contents : List (List ℕ)) (c : List ℕ) → few ≤ more → MayKeep u b more contents c → MayKeep u b few contents c
looser u b few more contents c le keeps = record {
  bytes = record {
    long = omega (arith, keeps.bytes.long);
    same = λ i lt out loose. keeps.bytes.same i (omega (arith, lt, le)) out loose;
  };
  since = keeps.since;
}

pub counted : (u : WriteBlob) (b : Blob) → Stands u b → length (content_of u b.content) ≡ count_of u
counted u b stands = omega (arith, length-written b.content u.at u.pending.items, stands.size)

-- no bytes are pending where nothing is unsettled
pub idle_parts : (dirty : Bool) (n at end : ℕ) → (dirty || not (eqb n 0 && leb at end)) ≡ false → (dirty ≡ false) × ((n ≡ 0) × (at ≤ end))
idle_parts true n at end is = absurd (cc is)
idle_parts false n at end is = (refl, (grind (arith, nat_tests), grind (arith, nat_tests)))

same_if_none : (c : List ℕ) (at : ℕ) (bytes : List ℕ) → length bytes ≡ 0 → at ≤ length c → written c at bytes ≡ c
same_if_none c at [] none inside = written_nothing c at inside
same_if_none c at (x ∷ xs) none inside = absurd (omega arith)

pub settled_within : (u : WriteBlob) (b : Blob) → Stands u b → settled_of u ≤ count_of u
settled_within u b stands = omega (arith, u.order)

pub all_settled : (u : WriteBlob) → is_unsettled u ≡ false → settled_of u ≡ count_of u
all_settled u idle = let parts = idle_parts u.dirty (length u.pending.items) u.at u.end idle in omega (arith, u.rests parts.0, parts.1.0, parts.1.1)

pub rested : (u : WriteBlob) (b : Blob) → Stands u b → is_unsettled u ≡ false → StandsSettled b
rested u b stands idle = stands.over.clean (idle_parts u.dirty (length u.pending.items) u.at u.end idle).0

pub found_again : (u : WriteBlob) (b : Blob) → Stands u b → IsWhole u b → is_unsettled u ≡ false → b.content ≡ content_of u b.content
found_again u b stands whole idle =
    let parts = idle_parts u.dirty (length u.pending.items) u.at u.end idle in
    sym (same_if_none b.content u.at u.pending.items parts.1.0 (omega (arith, parts.1.1, stands.size)))
