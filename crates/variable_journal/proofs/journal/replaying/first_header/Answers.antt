use Rattle.std.specs.Prelude.{◌≡◌, ◌++◌, [], take, Some, None, Ok, Err}
use Rattle.std.proofs.Common.{refl, arith, length-take}
use Rattle.variable_journal.specs.lemmas.Frame.{some_byte}
use Rattle.variable_journal.proofs.journal.replaying.first_header.Goals as goal
use Rattle.variable_journal.proofs.journal.replaying.first_header.Goals.{in-Ok-Some, in-Ok-None, in-Err}

pub returns-clause-says : goal.returns-clause-says
returns-clause-says c rest all =
    let m = c.length_of.ensures rest all in
    elim c.match-length_of.branch [
      | in-Ok-Some w ↦ (let at : c.length_of.result ≡ Ok (Some (w.in-Ok-Some.size, w.in-Ok-Some.header)) = cc in rw w.result-is (m.found (w.in-Ok-Some.size, w.in-Ok-Some.header) at).0)
      | in-Ok-None w ↦ (let at : c.length_of.result ≡ Ok None = cc in rw w.result-is (m.none at))
      | in-Err w ↦ (let at : c.length_of.result ≡ Err w.in-Err.field-0 = cc in rw w.result-is (m.refused w.in-Err.field-0 at).1)
    ]

pub returns-clause-small : goal.returns-clause-small
returns-clause-small c few =
    let m = c.length_of.ensures [] (λ _. refl) in
    elim c.match-length_of.branch [
      | in-Ok-Some w ↦ (let at : c.length_of.result ≡ Ok (Some (w.in-Ok-Some.size, w.in-Ok-Some.header)) = cc in rw w.result-is (
          let found = m.found (w.in-Ok-Some.size, w.in-Ok-Some.header) at in
          let byte = some_byte (take w.in-Ok-Some.header (c.args.prefix.now ++ [])) w.in-Ok-Some.size found.0.spelled in
          let seen = found.1 in
          (omega (arith, byte, length-take w.in-Ok-Some.header (c.args.prefix.now ++ [])), omega (arith, seen, few))))
      | in-Ok-None w ↦ rw w.result-is tt
      | in-Err w ↦ rw w.result-is tt
    ]
