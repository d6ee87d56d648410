-- What an opening refuses of sections with these bytes.
use Rattle.std.specs.Prelude.{◌≡◌, ℕ, ◌^◌, ◌<◌, List, [], ◌∷◌, ◌++◌, None, Option}
use Rattle.std.specs.List.{AllByRecursion}
use Rattle.std.proofs.Common.{inl, inr, sym, ap, ◌∙◌, subst, arith}
use Rattle.section_manager.specs.declared.journal.Error.{Error}
use Rattle.value_codec.specs.declared.codec.Error as codec
use Rattle.variable_journal.specs.Frames.{items_of, rest_of, HasBadLength}
use Rattle.cache_store.specs.Machine.{section_of}
use Rattle.cache_store.specs.Records.{entry_of, record_refusal}
use Rattle.cache_store.specs.Refusals.{AreOwn, ComesTo, IsRefusal}

-- what holds of all holds of one among them
among : (P : List ℕ → Type 0) (before : List (List ℕ)) (x : List ℕ) (behind xs : List (List ℕ)) → xs ≡ before ++ x ∷ behind → AllByRecursion P xs → P x
among P before x behind xs is all = go before (subst (AllByRecursion P) is all)
  where
    go : (ys : List (List ℕ)) → AllByRecursion P (ys ++ x ∷ behind) → P x
    go [] has = has.0
    go (y ∷ ys) has = go ys has.1

module _ (items : ℕ) (refusal : List ℕ → Option codec.Error) where
  -- nothing is refused where each section is in order
  pub none_refused : (bytes : ℕ → List ℕ) (e : Error) → ((s : ℕ) → s < 2 ^ 64 → HasBadLength (rest_of (bytes s)) → ⊥) → ((s : ℕ) → s < 2 ^ 64 → AreOwn items refusal s (items_of (bytes s)))
      → IsRefusal items refusal bytes e → ⊥
  none_refused bytes e lengths own is = elim is [
    | inl short ↦ lengths short.1.section short.1.come.number short.1.bad
    | inr (inl record_is) ↦ (let it = record_is.2 in
        let none = among (λ x. record_refusal refusal x ≡ None) it.before it.item it.behind (items_of (bytes it.section)) it.come.are (own it.section it.come.number).decoded in
        let some = it.refused in cc (none, some))
    | inr (inr stray) ↦ (let it = stray.2 in it.other (it.wanted ∙ among (λ x. section_of items (entry_of x).index ≡ stray.0.section) it.before it.item it.behind
        (items_of (bytes stray.0.section)) it.come.are (own stray.0.section it.come.number).in_section))
  ]

  -- of the same bytes the same is refused
  module _ (bytes others : ℕ → List ℕ) (same : (s : ℕ) → s < 2 ^ 64 → bytes s ≡ others s) where
    comes_alike : (s : ℕ) (before behind : List (List ℕ)) → ComesTo items refusal bytes s before behind → ComesTo items refusal others s before behind
    comes_alike s before behind come = record {
      number = come.number;
      are = sym (ap items_of (same s come.number)) ∙ come.are;
      here = come.here;
      earlier = λ t less. subst (λ (xs : List ℕ). AreOwn items refusal t (items_of xs)) (same t (let small = come.number in omega (arith, less, small))) (come.earlier t less);
      lengths = λ t less bad. come.lengths t less (subst (λ (xs : List ℕ). HasBadLength (rest_of xs)) (sym (same t (let small = come.number in omega (arith, less, small)))) bad);
    }

    pub refused_alike : (e : Error) → IsRefusal items refusal bytes e → IsRefusal items refusal others e
    refused_alike e is = elim is [
      | inl short ↦ (let it = short.1 in inl (
        short.0,
        record {
          section = it.section;
          come = subst (λ (xs : List ℕ). ComesTo items refusal others it.section (items_of xs) []) (same it.section it.come.number) (comes_alike it.section (items_of (bytes it.section)) [] it.come);
          bad = subst (λ (xs : List ℕ). HasBadLength (rest_of xs)) (same it.section it.come.number) it.bad;
        },
      ))
      | inr (inl record_is) ↦ (let it = record_is.2 in inr (inl (
        record_is.0,
        record_is.1,
        record {
          section = it.section;
          before = it.before;
          item = it.item;
          behind = it.behind;
          come = comes_alike it.section it.before (it.item ∷ it.behind) it.come;
          refused = it.refused;
        },
      )))
      | inr (inr stray) ↦ (let it = stray.2 in inr (inr (
        stray.0,
        stray.1,
        record {
          before = it.before;
          item = it.item;
          behind = it.behind;
          come = comes_alike stray.0.section it.before (it.item ∷ it.behind) it.come;
          decoded = it.decoded;
          kept = it.kept;
          wanted = it.wanted;
          other = it.other;
        },
      )))
    ]
