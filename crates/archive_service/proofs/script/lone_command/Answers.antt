-- The word is one of seven names, or no command.
use Rattle.archive_service.specs.Texts.{line_of}
use Rattle.archive_service.proofs.LineLemmas.{lone_refused}
use Rattle.archive_service.proofs.WordLemmas.{other_word, same_word}
use Rattle.archive_service.proofs.script.lone_command.Goals as goal

pub returns-then-eq-clause-found : goal.returns-then-eq-clause-found
unfolding line_of
returns-then-eq-clause-found c = (tt, same_word c.as_slice.ensures c.if-eq.ensures)

pub returns-then-eq-2-clause-found : goal.returns-then-eq-2-clause-found
unfolding line_of
returns-then-eq-2-clause-found c = (tt, same_word c.as_slice-else-eq.ensures c.if-eq-2.ensures)

pub returns-then-eq-3-clause-found : goal.returns-then-eq-3-clause-found
unfolding line_of
returns-then-eq-3-clause-found c = (tt, same_word c.as_slice-else-eq-2.ensures c.if-eq-3.ensures)

pub returns-then-eq-4-clause-found : goal.returns-then-eq-4-clause-found
unfolding line_of
returns-then-eq-4-clause-found c = (tt, same_word c.as_slice-else-eq-3.ensures c.if-eq-4.ensures)

pub returns-then-eq-5-clause-found : goal.returns-then-eq-5-clause-found
unfolding line_of
returns-then-eq-5-clause-found c = (tt, same_word c.as_slice-else-eq-4.ensures c.if-eq-5.ensures)

pub returns-then-eq-6-clause-found : goal.returns-then-eq-6-clause-found
unfolding line_of
returns-then-eq-6-clause-found c = (tt, same_word c.as_slice-else-eq-5.ensures c.if-eq-6.ensures)

pub returns-then-eq-7-clause-found : goal.returns-then-eq-7-clause-found
unfolding line_of
returns-then-eq-7-clause-found c = (tt, same_word c.as_slice-else-eq-6.ensures c.if-eq-7.ensures)

pub returns-else-eq-7-clause-none : goal.returns-else-eq-7-clause-none
returns-else-eq-7-clause-none c =
    lone_refused c.args.word.now
    (other_word c.as_slice.ensures c.if-eq.ensures)
    (other_word c.as_slice-else-eq.ensures c.if-eq-2.ensures)
    (other_word c.as_slice-else-eq-2.ensures c.if-eq-3.ensures)
    (other_word c.as_slice-else-eq-3.ensures c.if-eq-4.ensures)
    (other_word c.as_slice-else-eq-4.ensures c.if-eq-5.ensures)
    (other_word c.as_slice-else-eq-5.ensures c.if-eq-6.ensures)
    (other_word c.as_slice-else-eq-6.ensures c.if-eq-7.ensures)
