use Rattle.std.proofs.Common.{◌≡◌, ◌≤◌, ◌++◌, ◌∷◌, [], List, ℕ, Result, Err, Some, None, map, take, length, sym, ◌∙◌, ap, arith, rules}
use Rattle.std.specs.Int.{w64, to_be_bytes}
use Rattle.std.specs.List.{slice_get}
use Rattle.std.specs.Option.{option_copied}
use Rattle.std.proofs.lemmas.List.{take_all, take_more, map-append}
use Rattle.std.proofs.lemmas.Option.{get_or_from_slice_get, slice_get_within, slice_get-get_or}
use Rattle.std.proofs.lemmas.Result.{err_from_is_err_and}
use Rattle.section_manager.specs.declared.journal.Error.{Error}
use Rattle.section_manager.specs.declared.journal.Error.TheVariants.{InvalidBlobName}
use Rattle.section_manager.proofs.manager.opening.section_numbers.Goals as goal
use Rattle.section_manager.proofs.manager.opening.section_numbers.Goals.{else-loop-i-test, then-loop-i-test+in_default}

pub loop-i-init : goal.loop-i-init
loop-i-init c = ap (map (to_be_bytes w64)) c.new-numbers.ensures.items

pub returns-in_err-section_number-clause-foreign : goal.returns-in_err-section_number-clause-foreign
returns-in_err-section_number-clause-foreign c n is =
    let p = err_from_is_err_and c.from_residual.result c.from_residual.ensures.1 in
    let same : c.in_err-section_number.field-0.0 ≡ InvalidBlobName n = cc (p.1, p.2, is) in
    let own = c.in_err-section_number.ensures.foreign n (let refused : Error → Result ℕ Error = λ e. Err e in ap refused same) in
    let found : slice_get c.args.names.now c.loop-i.i ≡ Some c.in-Some.name.now = sym c.in-Some.ensures in (
      (c.loop-i.i, slice_get_within c.args.names.now c.loop-i.i c.in-Some.name.now found, get_or_from_slice_get c.args.names.now c.loop-i.i c.in-Some.name.now n found ∙ sym own.0),
      λ eight. own.1 (ap length (sym own.0) ∙ eight),
    )

pub loop-i-preserved : goal.loop-i-preserved
loop-i-preserved c =
    let found : slice_get c.args.names.now c.loop-i.i ≡ Some c.in-Some.name.now = sym c.in-Some.ensures in
    let pushed : c.push.new.self.items ≡ c.loop-i.numbers.items ++ c.in_ok-section_number.field-0 ∷ [] = search rules in
    ap (map (to_be_bytes w64)) pushed
    ∙ map-append (to_be_bytes w64) c.loop-i.numbers.items (c.in_ok-section_number.field-0 ∷ [])
    ∙ ap (λ (l : List (List ℕ)). l ++ to_be_bytes w64 c.in_ok-section_number.field-0 ∷ []) c.loop-i.invariant
    ∙ ap (λ (name : List ℕ). take c.loop-i.i c.args.names.now ++ name ∷ []) (sym c.in_ok-section_number.ensures.number.0 ∙ sym (get_or_from_slice_get c.args.names.now c.loop-i.i c.in-Some.name.now [] found))
    ∙ sym (take_more c.args.names.now c.loop-i.i [] (slice_get_within c.args.names.now c.loop-i.i c.in-Some.name.now found))

pub returns-clause-numbers : goal.returns-clause-numbers
returns-clause-numbers c =
    let over : length c.args.names.now ≤ c.loop-i.i = elim c.loop-i-test.branch [
      | else-loop-i-test w ↦ omega (arith, w.loop-i-test.false, c.len-i-end.ensures)
      | then-loop-i-test+in_default w ↦
          let found = slice_get-get_or c.args.names.now c.loop-i.i [] (omega (arith, w.loop-i-test.true, c.len-i-end.ensures)) in
          let none : slice_get c.args.names.now c.loop-i.i ≡ None = sym w.get.ensures ∙ ap option_copied w.in_default.is in
          absurd (cc (found, none))
    ] in
    c.loop-i.invariant ∙ take_all c.loop-i.i c.args.names.now over
