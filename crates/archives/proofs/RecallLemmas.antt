-- What stands for a state still does where it keeps just what a crash before would have kept.
use Rattle.std.proofs.Common.{◌≡◌, ◌≢◌, ◌⊎◌, inl, inr, sym, ◌∙◌, ap, subst, ℕ, ◌<◌, ◌^◌, List, [], length, take, map, Option, None, arith}
use Rattle.std.specs.List.{AllByRecursion}
use Rattle.blob_device.specs.Disk.{Image, Disk}
use Rattle.paired.specs.Kept.{Markers, stored_records}
use Rattle.paired.specs.Opening.{IsKeptFrom, KeepsAs, Recalls}
use Rattle.paired.specs.Records as pair
use Rattle.archives.specs.Commands.{Command}
use Rattle.archives.specs.Filing.{Filing, filed, kept, kept_entries}
use Rattle.archives.specs.IndexRecord.{index_of}
use Rattle.archives.specs.Lawful.{Lawful}
use Rattle.archives.specs.Machine.{State, section_of}
use Rattle.archives.specs.Standing.{StandsFor, IsPrefix, IsGoing, Leaves, submitted}
use Rattle.blob_device.proofs.general.Lists.{all_by, all_take}

module _ (f : Filing) (old : Image) (markers : Markers) (new : Image) (keeps : KeepsAs f.layout old markers new) where
  pub same_kept : (s : ℕ) → s < 2 ^ 64 → kept f new keeps.markers s ≡ kept f old markers s
  same_kept s small = ap (map (filed f)) (keeps.same s small)

  -- a lawful image that keeps the same is lawful
  pub lawful_still : Lawful f old markers → Lawful f new keeps.markers
  lawful_still lawful = record {
    pair = keeps.lawful;
    in_section = λ s small.
        (let P : List ℕ → Type 0 = λ r. section_of f.items (index_of r) ≡ s in
        subst (AllByRecursion P) (sym (keeps.stored s small)) (all_take P (length (stored_records f.layout new s)) (stored_records f.layout old s) (lawful.in_section s small)));
    decoded = λ s small.
        (let P : pair.Entry → Type 0 = λ e. f.refusal e.value ≡ None in
        subst (AllByRecursion P) (sym (keeps.same s small)) (lawful.decoded s small));
    few_sections = λ ss sorted all. lawful.few_sections ss sorted
        (all_by (λ s. (s < 2 ^ 64) × (kept_entries f new keeps.markers s ≢ [])) (λ s. (s < 2 ^ 64) × (kept_entries f old markers s ≢ [])) (λ s has. (has.0, λ none. has.1 (keeps.same s has.0 ∙ none))) ss all);
    few_records = λ s small. omega (arith, ap length (keeps.same s small), lawful.few_records s small);
  }

module _ (f : Filing) (st : State (List ℕ)) (under_way : Option (Command (List ℕ))) where
  -- and stands for the same
  pub stands_still : (old new : Image) → (stands : StandsFor f st under_way old) → KeepsAs f.layout old stands.markers new → StandsFor f st under_way new
  stands_still old new stands keeps = record {
    markers = keeps.markers;
    lawful = lawful_still f old stands.markers new keeps stands.lawful;
    each = λ s small.
        let same = same_kept f old stands.markers new keeps s small in
        elim (stands.each s small) as (λ _. IsPrefix f st under_way new keeps.markers s ⊎ ((kept f new keeps.markers s ≡ []) × IsGoing f.items st under_way s)) [
          | inl held ↦ inl (record {
            same = subst (λ xs. xs ≡ take (length xs) (submitted f.items st under_way s)) (sym same) held.same;
            synced = omega (arith, held.synced, ap length same);
          })
          | inr gone ↦ inr (same ∙ gone.0, gone.1)
        ];
  }

  -- An opening that keeps what a crash before it would have kept leaves what stood for the state.
  pub recalls_stand : (from d : Disk) → Leaves f st under_way from → Recalls f.layout from d → Leaves f st under_way d
  recalls_stand from d leaves recalls image crash no_chance =
      let was : IsKeptFrom f.layout from image = recalls image crash no_chance in
      let stands = leaves was.old was.crash was.no_chance in
      stands_still was.old image stands (was.keeps stands.markers stands.lawful.pair)
