-- What a checkpoint asks of the blobs is the same where each reads as before.
use Rattle.std.specs.Prelude.{◌≡◌, ℕ, ◌-◌, ◌*◌, ◌/◌, ◌%◌, eqb, cond, List, length, Option, None, Some}
use Rattle.std.proofs.Common.{inl, inr, sym, ◌∙◌, ap, subst, arith}
use Rattle.blob_device.specs.Disk.{Disk}
use Rattle.sealed_pages.specs.Reads.{IsCovered}
use Rattle.sealed_pages.specs.SealedPrefix.{sealed_prefix, adopted_size, data_from}
use Rattle.sealed_pages.specs.View.{view}
use Rattle.value_codec.specs.declared.codec.Error as codec
use Rattle.section_manager.specs.Sections.{section_key}
use Rattle.section_manager.specs.declared.journal.Damage.{Damage}
use Rattle.segments.specs.FixedCheckpoint.{boundary_at, IsUnder, IsCheckpointRefused, IsKept, IsPassed, IsCheckpointItemRefused, IsShown, AreChecked}
use Rattle.segments.specs.FixedFloors.{Floors, IsBoundary}
use Rattle.blob_device.proofs.general.Options.{has_value, value_of}

module _ (seal : List ℕ → ℕ) (P size : ℕ) (partition : List ℕ) (at bytes : ℕ) (e d : Disk) where
  -- each blob of a section reads as before
  pub record ReadsAs : Type 0 where
    pub content : (s : ℕ) → (e (section_key partition s)).content ≡ (d (section_key partition s)).content
    pub there : (s : ℕ) → (e (section_key partition s)).there ≡ (d (section_key partition s)).there

  module _ (alike : ReadsAs) where
    pub boundary_same : (s : ℕ) → boundary_at seal P size partition at bytes e s ≡ boundary_at seal P size partition at bytes d s
    boundary_same s = ap (λ (c : List ℕ). cond (eqb s at) bytes (adopted_size seal P c)) (alike.content s)

    length_same : (s : ℕ) → length (sealed_prefix seal P (e (section_key partition s)).content) ≡ length (sealed_prefix seal P (d (section_key partition s)).content)
    length_same s = ap (λ (c : List ℕ). length (sealed_prefix seal P c)) (alike.content s)

    pub under_same : (s : ℕ) → IsUnder seal P size partition at bytes e s → IsUnder seal P size partition at bytes d s
    under_same s (inl own) = inl own
    under_same s (inr under) = inr (under.0, sym (alike.there s) ∙ under.1)

    pub under_back : (s : ℕ) → IsUnder seal P size partition at bytes d s → IsUnder seal P size partition at bytes e s
    under_back s (inl own) = inl own
    under_back s (inr under) = inr (under.0, alike.there s ∙ under.1)

    pub refused_same : (s : ℕ) (x : Damage) → IsCheckpointRefused seal P size partition at bytes e s x → IsCheckpointRefused seal P size partition at bytes d s x
    refused_same s x (inl p) = inl (record {
      partial = λ none. p.partial (ap (λ (n : ℕ). n % size) (boundary_same s) ∙ none);
      kept = p.kept ∙ boundary_same s;
      wanted = p.wanted ∙ ap (λ (n : ℕ). n / size * size) (boundary_same s);
    })
    refused_same s x (inr (inl missing)) = inr (inl (record { own = missing.own; some = missing.some; absent = sym (alike.there s) ∙ missing.absent; kept = missing.kept; wanted = missing.wanted }))
    refused_same s x (inr (inr un)) = inr (inr (record { there = sym (alike.there s) ∙ un.there; kept = un.kept ∙ length_same s; wanted = un.wanted ∙ boundary_same s; less = un.less }))

    pub item_same : (refusal : List ℕ → Unit {0} → Option codec.Error) (s : ℕ) (x : codec.Error) → IsCheckpointItemRefused seal P size partition at bytes e refusal s x → IsCheckpointItemRefused seal P size partition at bytes d refusal s x
    item_same refusal s x is = record {
      some = omega (arith, is.some, boundary_same s);
      covered = subst (λ (n : ℕ). IsCovered seal P (d (section_key partition s)).content (n - size) size) (boundary_same s)
          (subst (λ (c : List ℕ). IsCovered seal P c (boundary_at seal P size partition at bytes e s - size) size) (alike.content s) is.covered);
      refused = subst (λ (n : ℕ). refusal (data_from P (view (d (section_key partition s)).content) (n - size) size) tt ≡ Some x) (boundary_same s)
          (subst (λ (c : List ℕ). refusal (data_from P (view c) (boundary_at seal P size partition at bytes e s - size) size) tt ≡ Some x) (alike.content s) is.refused);
    }

    module _ {A : Type 0} (spelling : A → List ℕ) (accepted : A → Unit {0} → Type 0) where
      last_same : (s : ℕ) (v : A) → IsBoundary seal P size spelling accepted (e (section_key partition s)).content (boundary_at seal P size partition at bytes e s / size) v
          → IsBoundary seal P size spelling accepted (d (section_key partition s)).content (boundary_at seal P size partition at bytes d s / size) v
      last_same s v is = subst (λ (n : ℕ). IsBoundary seal P size spelling accepted (d (section_key partition s)).content (n / size) v) (boundary_same s)
          (subst (λ (c : List ℕ). IsBoundary seal P size spelling accepted c (boundary_at seal P size partition at bytes e s / size) v) (alike.content s) is)

      pub passed_same : (s : ℕ) → IsPassed seal P size partition at bytes e spelling accepted s → IsPassed seal P size partition at bytes d spelling accepted s
      passed_same s is = record {
        whole = ap (λ (n : ℕ). n % size) (sym (boundary_same s)) ∙ is.whole;
        there = λ some. sym (alike.there s) ∙ is.there (omega (arith, some, boundary_same s));
        last = λ some. (let v = is.last (omega (arith, some, boundary_same s)) in (v.0, last_same s v.0 v.1));
        sealed = λ own more. omega (arith, length_same s, is.sealed own (omega (arith, more, ap (adopted_size seal P) (alike.content s))));
      }

      pub shown_same : (s : ℕ) (o : Option A) → IsShown seal P size partition at bytes spelling accepted e s o → IsShown seal P size partition at bytes spelling accepted d s o
      shown_same s None is = sym (boundary_same s) ∙ is
      shown_same s (Some v) is = (omega (arith, is.0, boundary_same s), last_same s v is.1)

      -- so what was checked was
      pub checked_same : (told : Type 0) (IsNamed : ℕ → Type 0) (f : Floors A) → AreChecked seal P size partition at bytes spelling accepted IsNamed told f e → AreChecked seal P size partition at bytes spelling accepted IsNamed told f d
      checked_same told IsNamed f is = record {
        shows = λ t s named under. (let o = value_of (f.boundary_of s) (IsShown seal P size partition at bytes spelling accepted e s) (is.shows t s named (under_back s under)) in
            has_value (f.boundary_of s) (IsShown seal P size partition at bytes spelling accepted d s) o.value o.is (shown_same s o.value o.has));
        floors = λ t s named under. is.floors t s named (under_back s under) ∙ boundary_same s;
        passed = λ t s named under. passed_same s (is.passed t s named (under_back s under));
        others = is.others;
        free = λ t s not. is.free t s (λ under. not (under_same s under));
      }

-- a checkpoint of which all is sealed is not refused
pub kept_none : (seal : List ℕ → ℕ) (P size : ℕ) (partition : List ℕ) (at bytes : ℕ) (d : Disk) (s : ℕ) (x : Damage) → (s ≡ at → boundary_at seal P size partition at bytes d s ≡ bytes)
    → IsKept seal P size partition at bytes d s → IsCheckpointRefused seal P size partition at bytes d s x → ⊥
kept_none seal P size partition at bytes d s x own kept (inl p) = p.partial kept.whole
kept_none seal P size partition at bytes d s x own kept (inr (inl missing)) = (let here = own missing.own in let some = missing.some in let gone = missing.absent in
    let there = kept.there (omega (arith, here, some)) in absurd (cc (there, gone)))
kept_none seal P size partition at bytes d s x own kept (inr (inr un)) = omega (arith, kept.sealed, un.kept, un.wanted, un.less)
