-- What an image of a pair stands for, where the pair's lists are filed as an archive files them.
use Rattle.std.proofs.Common.{◌≡◌, ◌≢◌, ◌⊎◌, inl, inr, refl, sym, ◌∙◌, ap, subst, ℕ, zero, suc, ◌<◌, ◌≤◌, ◌^◌, List, [], ◌∷◌, length, take, map, Option, None, arith}
use Rattle.std.specs.List.{AllByRecursion}
use Rattle.std.specs.List.Sorted.{IsStrictlySortedBy}
use Rattle.std.specs.Ordering.{nat_cmp}
use Rattle.std.proofs.lemmas.List.{length-map, length-take, take-map}
use Rattle.blob_device.specs.Disk.{Image}
use Rattle.paired.specs.Crashes.{Keeps}
use Rattle.paired.specs.Kept.{Markers, stored_records}
use Rattle.paired.specs.Opening.{AreNamed, IsInPlace}
use Rattle.paired.specs.Places.{Follow, end_of}
use Rattle.paired.specs.Records as pair
use Rattle.paired.specs.lemmas.opening.Ends.{follow_first}
use Rattle.archives.specs.Commands.{Command}
use Rattle.archives.specs.Filing.{Filing, filed, kept, kept_entries}
use Rattle.archives.specs.IndexRecord.{index_of}
use Rattle.archives.specs.Lawful.{Lawful}
use Rattle.archives.specs.Machine.{State, section_of}
use Rattle.archives.specs.Standing.{IsGoing, IsPrefix, StandsFor, submitted}
use Rattle.blob_device.proofs.general.Lists.{all_by, all_take}

-- the lists are those of an archive: what a lawful image asks of what it stores and keeps
pub record AreFiled (f : Filing) (wanted : ℕ → List pair.Entry) : Type 0 where
  pub in_section : (s : ℕ) → s < 2 ^ 64 → AllByRecursion (λ e. section_of f.items (index_of e.stored) ≡ s) (wanted s)
  pub decoded : (s : ℕ) → s < 2 ^ 64 → AllByRecursion (λ e. f.refusal e.value ≡ None) (wanted s)
  pub end : ℕ → ℕ
  pub fits : (s : ℕ) → s < 2 ^ 64 → end s < 2 ^ 64
  pub follow : (s : ℕ) → s < 2 ^ 64 → Follow f.layout.place 0 (map (λ e. e.stored) (wanted s)) (end s)
  pub few_sections : (ss : List ℕ) → IsStrictlySortedBy nat_cmp ss → AllByRecursion (λ s. (s < 2 ^ 64) × (wanted s ≢ [])) ss → length ss ≤ f.most_sections
  pub few_records : (s : ℕ) → s < 2 ^ 64 → length (wanted s) ≤ f.most_records

-- what holds of each element holds of each that a map makes of them
pub all_map : {X Y : Type 0} (g : X → Y) (P : Y → Type 0) (xs : List X) → AllByRecursion (λ x. P (g x)) xs → AllByRecursion P (map g xs)
all_map g P [] all = tt
all_map g P (x ∷ xs) all = (all.0, all_map g P xs all.1)

nothing_taken : {X : Type 0} (n : ℕ) (xs : List X) → xs ≡ [] → take n xs ≡ []
nothing_taken zero xs none = refl
nothing_taken (suc n) [] none = refl
nothing_taken (suc n) (x ∷ xs) none = absurd (cc none)

-- Where some sections are going, the pair may keep nothing of these.
module _ (f : Filing) (wanted : ℕ → List pair.Entry) (synced : ℕ → ℕ) (Goes : ℕ → Type 0) (image : Image) (filing : AreFiled f wanted) (names : AreNamed f.layout image)
    (keeps : Keeps f.layout wanted synced Goes image) where
  abbrev own_markers : Markers
  own_markers = keeps.markers

  abbrev kept_here : ℕ → List pair.Entry
  kept_here s = kept_entries f image own_markers s

  is_first : (s : ℕ) → s < 2 ^ 64 → kept_here s ≡ take (length (kept_here s)) (wanted s)
  is_first s small = elim (keeps.lists s small) as (λ _. kept_here s ≡ take (length (kept_here s)) (wanted s)) [ inl prefix ↦ prefix.same | inr gone ↦ gone.0 ∙ sym (ap (λ (ks : List pair.Entry). take (length ks) (wanted s)) gone.0) ]

  no_longer : (s : ℕ) → s < 2 ^ 64 → length (kept_here s) ≤ length (wanted s)
  no_longer s small = omega (arith, ap length (is_first s small) ∙ length-take (length (kept_here s)) (wanted s))

  stored_first : (s : ℕ) → s < 2 ^ 64 → stored_records f.layout image s ≡ take (length (stored_records f.layout image s)) (map (λ e. e.stored) (wanted s))
  stored_first s small = keeps.stored s small

  in_place : (s : ℕ) → s < 2 ^ 64 → IsInPlace f.layout image s
  in_place s small =
      let n = length (stored_records f.layout image s) in
      let first = follow_first f.layout.place n 0 (map (λ e. e.stored) (wanted s)) (filing.end s) (filing.follow s small) in
      record {
        end = end_of f.layout.place 0 (take n (map (λ e. e.stored) (wanted s)));
        fits = omega (arith, first.0, filing.fits s small);
        follow = subst (λ rs. Follow f.layout.place 0 rs (end_of f.layout.place 0 (take n (map (λ e. e.stored) (wanted s))))) (sym (stored_first s small)) first.1;
      }

  lawful : Lawful f image own_markers
  lawful = record {
    pair = record { names = names; held = keeps.held; floor = keeps.floor; true_markers = keeps.true_markers; places = in_place };
    in_section = λ s small.
        (let P : List ℕ → Type 0 = λ r. section_of f.items (index_of r) ≡ s in
        subst (AllByRecursion P) (sym (stored_first s small)) (all_take P (length (stored_records f.layout image s)) (map (λ e. e.stored) (wanted s)) (all_map (λ e. e.stored) P (wanted s) (filing.in_section s small))));
    decoded = λ s small.
        (let P : pair.Entry → Type 0 = λ e. f.refusal e.value ≡ None in
        subst (AllByRecursion P) (sym (is_first s small)) (all_take P (length (kept_here s)) (wanted s) (filing.decoded s small)));
    few_sections = λ ss sorted all. filing.few_sections ss sorted
        (all_by (λ s. (s < 2 ^ 64) × (kept_here s ≢ [])) (λ s. (s < 2 ^ 64) × (wanted s ≢ [])) (λ s has. (has.0, λ none. has.1 (is_first s has.0 ∙ nothing_taken (length (kept_here s)) (wanted s) none))) ss all);
    few_records = λ s small. omega (arith, no_longer s small, filing.few_records s small);
  }

  -- So the image stands for a state whose submitted lists are these, in which no more is synced, and whose
  -- command under way takes what goes.
  pub keeps_going : (st : State (List ℕ)) (under_way : Option (Command (List ℕ)))
      → ((s : ℕ) → s < 2 ^ 64 → submitted f.items st under_way s ≡ map (filed f) (wanted s))
      → ((s : ℕ) → s < 2 ^ 64 → st.synced s ≤ synced s)
      → ((s : ℕ) → s < 2 ^ 64 → Goes s → IsGoing f.items st under_way s)
      → StandsFor f st under_way image
  keeps_going st under_way same fewer goes = record {
    markers = own_markers;
    lawful = lawful;
    each = λ s small. elim (keeps.lists s small) as (λ _. IsPrefix f st under_way image own_markers s ⊎ ((kept f image own_markers s ≡ []) × IsGoing f.items st under_way s)) [
      | inl prefix ↦ inl (record {
        same =
            let n : length (map (filed f) (kept_here s)) ≡ length (kept_here s) = length-map (kept_here s) (filed f) in
            ap (map (filed f)) (is_first s small) ∙ sym (take-map (filed f) (length (kept_here s)) (wanted s)) ∙ ap (take (length (kept_here s))) (sym (same s small)) ∙ ap (λ (m : ℕ). take m (submitted f.items st under_way s)) (sym n);
        synced = let enough = prefix.synced in omega (arith, fewer s small, enough, length-map (kept_here s) (filed f));
      })
      | inr gone ↦ inr (ap (map (filed f)) gone.0, goes s small gone.1)
    ];
  }

module _ (f : Filing) (wanted : ℕ → List pair.Entry) (synced : ℕ → ℕ) (image : Image) (filing : AreFiled f wanted) (names : AreNamed f.layout image)
    (keeps : Keeps f.layout wanted synced (λ _. ⊥) image) where
  -- so it does where none goes
  pub keeps_stand : (st : State (List ℕ)) (under_way : Option (Command (List ℕ)))
      → ((s : ℕ) → s < 2 ^ 64 → submitted f.items st under_way s ≡ map (filed f) (wanted s))
      → ((s : ℕ) → s < 2 ^ 64 → st.synced s ≤ synced s)
      → StandsFor f st under_way image
  keeps_stand st under_way same fewer = keeps_going f wanted synced (λ _. ⊥) image filing names keeps st under_way same fewer (λ s small goes. absurd goes)
