-- Each name has its reading of the two words.
use Rattle.value_codec.specs.Keys.{key8_bytes}
use Rattle.archive_service.proofs.LineLemmas.{double_found, double_refused, double_unnamed, hasat_named, missing_named}
use Rattle.archive_service.proofs.WordLemmas.{other_word}
use Rattle.archive_service.proofs.script.double_command.Goals as goal
use Rattle.blob_device.proofs.general.Options.{if_none}

pub returns-in_err-index-clause-none : goal.returns-in_err-index-clause-none
returns-in_err-index-clause-none c = λ lacks.
    if_none _ _ (double_refused missing_named c.args.name.now c.args.words.now c.as_slice.ensures c.if-eq.ensures lacks c.in_err-index.ensures)

pub returns-in_ok-index-clause-found : goal.returns-in_ok-index-clause-found
returns-in_ok-index-clause-found c =
    double_found missing_named c.args.name.now c.args.words.now c.as_slice.ensures c.if-eq.ensures (c.in_ok-index.index, c.in_ok-index.count) c.in_ok-index.ensures

pub returns-in_err-index-2-clause-none : goal.returns-in_err-index-2-clause-none
returns-in_err-index-2-clause-none c = λ lacks.
    if_none _ _ (double_refused hasat_named c.args.name.now c.args.words.now c.as_slice-else-eq.ensures c.if-eq-2.ensures lacks c.in_err-index-2.ensures)

pub returns-in_ok-index-2-clause-found : goal.returns-in_ok-index-2-clause-found
returns-in_ok-index-2-clause-found c =
    double_found hasat_named c.args.name.now c.args.words.now c.as_slice-else-eq.ensures c.if-eq-2.ensures (c.in_ok-index-2.index, key8_bytes c.in_ok-index-2.key) c.in_ok-index-2.ensures

pub returns-else-eq-2-clause-none : goal.returns-else-eq-2-clause-none
returns-else-eq-2-clause-none c = λ lacks.
    double_unnamed c.args.name.now c.args.words.now lacks (other_word c.as_slice.ensures c.if-eq.ensures) (other_word c.as_slice-else-eq.ensures c.if-eq-2.ensures)
