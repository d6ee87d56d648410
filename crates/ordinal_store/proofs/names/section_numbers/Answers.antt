use Rattle.std.proofs.Common.{◌≡◌, ◌^◌, ◌<◌, ◌≤◌, ◌++◌, ◌∷◌, [], List, ℕ, Result, Err, Some, None, inl, inr, get_or, map, take, length, length-append, sym, ◌∙◌, ap, subst, arith, rules}
use Rattle.std.specs.Int.{w64, to_be_bytes}
use Rattle.std.specs.List.{slice_get}
use Rattle.std.specs.Option.{option_copied}
use Rattle.std.proofs.lemmas.Bool.{cases_eq, cases_lt}
use Rattle.std.proofs.lemmas.List.{get_or_append_left, get_or_past, get_or_push, take_all, take_more, map-append}
use Rattle.std.proofs.lemmas.Option.{get_or_from_slice_get, slice_get_within, slice_get-get_or}
use Rattle.std.proofs.lemmas.Result.{err_from_is_err_and}
use Rattle.ordinal_store.specs.declared.ordinal.Error.{Error}
use Rattle.ordinal_store.specs.declared.ordinal.Error.TheVariants.{InvalidBlobName}
use Rattle.ordinal_store.proofs.names.section_numbers.Goals as goal
use Rattle.ordinal_store.proofs.names.section_numbers.Goals.{else-loop-i-test, then-loop-i-test+in_default}

small_push : (ns : List ℕ) (n : ℕ) → ((j : ℕ) → get_or ns j 0 < 2 ^ 64) → n < 2 ^ 64 → (k : ℕ) → get_or (ns ++ n ∷ []) k 0 < 2 ^ 64
small_push ns n small n_small k = elim (cases_lt k (length ns)) [
  | inl below ↦ omega (arith, get_or_append_left ns (n ∷ []) 0 k below, small k)
  | inr past ↦ elim (cases_eq k (length ns)) [
    | inl here ↦ omega (arith, get_or_push ns n 0 k (sym here), n_small)
    | inr other ↦ omega (arith, get_or_past (ns ++ n ∷ []) k 0 (omega (arith, past, other, length-append ns (n ∷ []))))
  ]
]

pub loop-i-init : goal.loop-i-init
loop-i-init c = record {
  spelled = ap (map (to_be_bytes w64)) c.new-numbers.ensures.items;
  small = λ k. subst (λ (ns : List ℕ). get_or ns k 0 < 2 ^ 64) (sym c.new-numbers.ensures.items) (omega arith);
}

pub returns-in_err-section_number-clause-foreign : goal.returns-in_err-section_number-clause-foreign
returns-in_err-section_number-clause-foreign c n is =
    let p = err_from_is_err_and c.from_residual.result c.from_residual.ensures.1 in
    let same : c.in_err-section_number.field-0.0 ≡ InvalidBlobName n = cc (p.1, p.2, is) in
    let own = c.in_err-section_number.ensures.foreign n (let refused : Error → Result ℕ Error = λ e. Err e in ap refused same) in
    let found : slice_get c.args.names.now c.loop-i.i ≡ Some c.in-Some.name.now = sym c.in-Some.ensures in (
      (c.loop-i.i, slice_get_within c.args.names.now c.loop-i.i c.in-Some.name.now found, get_or_from_slice_get c.args.names.now c.loop-i.i c.in-Some.name.now n found ∙ sym own.0),
      λ eight. own.1 (ap length (sym own.0) ∙ eight),
    )

pub loop-i-preserved : goal.loop-i-preserved
loop-i-preserved c =
    let found : slice_get c.args.names.now c.loop-i.i ≡ Some c.in-Some.name.now = sym c.in-Some.ensures in
    let pushed : c.push.new.self.items ≡ c.loop-i.numbers.items ++ c.in_ok-section_number.field-0 ∷ [] = search rules in
    record {
      spelled = ap (map (to_be_bytes w64)) pushed
          ∙ map-append (to_be_bytes w64) c.loop-i.numbers.items (c.in_ok-section_number.field-0 ∷ [])
          ∙ ap (λ (l : List (List ℕ)). l ++ to_be_bytes w64 c.in_ok-section_number.field-0 ∷ []) c.loop-i.invariant.spelled
          ∙ ap (λ (name : List ℕ). take c.loop-i.i c.args.names.now ++ name ∷ []) (sym c.in_ok-section_number.ensures.number.0 ∙ sym (get_or_from_slice_get c.args.names.now c.loop-i.i c.in-Some.name.now [] found))
          ∙ sym (take_more c.args.names.now c.loop-i.i [] (slice_get_within c.args.names.now c.loop-i.i c.in-Some.name.now found));
      small = λ k. subst (λ (ns : List ℕ). get_or ns k 0 < 2 ^ 64) (sym pushed) (small_push c.loop-i.numbers.items c.in_ok-section_number.field-0 c.loop-i.invariant.small c.in_ok-section_number.ensures.number.1 k);
    }

pub returns-clause-numbers : goal.returns-clause-numbers
returns-clause-numbers c =
    let over : length c.args.names.now ≤ c.loop-i.i = elim c.loop-i-test.branch [
      | else-loop-i-test w ↦ omega (arith, w.loop-i-test.false, c.len-i-end.ensures)
      | then-loop-i-test+in_default w ↦
          let found = slice_get-get_or c.args.names.now c.loop-i.i [] (omega (arith, w.loop-i-test.true, c.len-i-end.ensures)) in
          let none : slice_get c.args.names.now c.loop-i.i ≡ None = sym w.get.ensures ∙ ap option_copied w.in_default.is in
          absurd (cc (found, none))
    ] in
    c.loop-i.invariant.spelled ∙ take_all c.loop-i.i c.args.names.now over

pub returns-clause-small : goal.returns-clause-small
returns-clause-small c = c.loop-i.invariant.small
