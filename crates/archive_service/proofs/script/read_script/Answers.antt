-- Each line moves from what is left to what was read.
use Rattle.std.proofs.Common.{◌≡◌, ◌≢◌, ◌+◌, List, ℕ, [], ◌∷◌, length, map, refl, sym, ap, ◌∙◌, arith, subst}
use Rattle.std.proofs.lemmas.Bool.{eqb-false, eqb-true}
use Rattle.std.proofs.lemmas.List.{length-map, map-append}
use Rattle.archives.specs.Machine.{asked}
use Rattle.value_codec.specs.Keys.{key8_bytes}
use Rattle.archive_service.specs.Script.{IsFirstBad}
use Rattle.archive_service.proofs.ScriptLemmas.{IsReadSoFar, first_bad_here, one_more_read, shorter_rest, whole_read}
use Rattle.archive_service.proofs.script.read_script.Goals as goal

pub loop-rest-smaller : goal.loop-rest-smaller
loop-rest-smaller c =
    let first = rw c.in-Some.is at c.in_ok-command.ensures in
    shorter_rest c.args.max_value c.loop-rest.rest.now c.in-Some.behind.now (asked key8_bytes (λ v. v) c.in-Some.command) first

pub loop-rest-preserved : goal.loop-rest-preserved
loop-rest-preserved c =
    let first = rw c.in-Some.is at c.in_ok-command.ensures in
    let commands = map (asked key8_bytes (λ v. v)) c.loop-rest.commands.items in
    let pushed = ap (map (asked key8_bytes (λ v. v))) c.in_ok-push-in-Some.ensures.items ∙ map-append (asked key8_bytes (λ v. v)) c.loop-rest.commands.items (c.in-Some.command ∷ []) in
    subst (λ read. IsReadSoFar c.args.max_value c.args.bytes.now read c.in-Some.behind.now) (sym pushed)
    (one_more_read c.args.max_value c.args.bytes.now commands c.loop-rest.rest.now c.in-Some.behind.now (asked key8_bytes (λ v. v) c.in-Some.command) c.loop-rest.invariant first)

no_length : (xs : List ℕ) → length xs ≡ 0 → xs ≡ []
no_length [] e = refl
no_length (x ∷ xs) e = absurd (omega arith)

pub returns-in-None : goal.returns-in-None
returns-in-None c =
    let first = rw c.in-None.is at c.in_ok-command.ensures in
    let some : c.loop-rest.rest.now ≢ [] = λ none. eqb-false (length c.loop-rest.rest.now) 0 (sym c.is_empty.ensures ∙ c.loop-rest-test.true) (ap length none) in
    let commands = map (asked key8_bytes (λ v. v)) c.loop-rest.commands.items in
    let count : c.len.result ≡ length commands = omega (arith, c.len.ensures, c.loop-rest.commands.ok.0, length-map c.loop-rest.commands.items (asked key8_bytes (λ v. v))) in
    subst (λ n. IsFirstBad c.args.max_value c.args.bytes.now (n + 1)) (sym count)
    (first_bad_here c.args.max_value c.args.bytes.now commands c.loop-rest.rest.now c.loop-rest.invariant some first)

pub returns : goal.returns
returns c =
    let commands = map (asked key8_bytes (λ v. v)) c.loop-rest.commands.items in
    whole_read c.args.max_value c.args.bytes.now commands c.loop-rest.rest.now c.loop-rest.invariant
    (no_length c.loop-rest.rest.now (eqb-true (length c.loop-rest.rest.now) 0 (sym c.is_empty.ensures ∙ c.loop-rest-test.false)))
