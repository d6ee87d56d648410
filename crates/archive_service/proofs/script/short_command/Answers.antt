-- Each name has its reading of the word.
use Rattle.value_codec.specs.Keys.{key8_bytes}
use Rattle.archive_service.proofs.LineLemmas.{all_named, gap_named, get_named, getk_named, has_named, hask_named, prune_named, rangesfrom_named, short_found, short_refused, short_unnamed}
use Rattle.archive_service.proofs.WordLemmas.{other_word}
use Rattle.archive_service.proofs.script.short_command.Goals as goal
use Rattle.blob_device.proofs.general.Options.{if_none}

pub returns-in_err-index_of-clause-none : goal.returns-in_err-index_of-clause-none
returns-in_err-index_of-clause-none c = if_none _ _ (short_refused get_named c.args.name.now c.args.word.now c.as_slice.ensures c.if-eq.ensures c.in_err-index_of.ensures)

pub returns-in_ok-index_of-clause-found : goal.returns-in_ok-index_of-clause-found
returns-in_ok-index_of-clause-found c = short_found get_named c.args.name.now c.args.word.now c.as_slice.ensures c.if-eq.ensures c.in_ok-index_of.field-0 c.in_ok-index_of.ensures

pub returns-in_err-index_of-2-clause-none : goal.returns-in_err-index_of-2-clause-none
returns-in_err-index_of-2-clause-none c = if_none _ _ (short_refused has_named c.args.name.now c.args.word.now c.as_slice-else-eq.ensures c.if-eq-2.ensures c.in_err-index_of-2.ensures)

pub returns-in_ok-index_of-2-clause-found : goal.returns-in_ok-index_of-2-clause-found
returns-in_ok-index_of-2-clause-found c = short_found has_named c.args.name.now c.args.word.now c.as_slice-else-eq.ensures c.if-eq-2.ensures c.in_ok-index_of-2.field-0 c.in_ok-index_of-2.ensures

pub returns-in_err-key_of-clause-none : goal.returns-in_err-key_of-clause-none
returns-in_err-key_of-clause-none c = if_none _ _ (short_refused getk_named c.args.name.now c.args.word.now c.as_slice-else-eq-2.ensures c.if-eq-3.ensures c.in_err-key_of.ensures)

pub returns-in_ok-key_of-clause-found : goal.returns-in_ok-key_of-clause-found
returns-in_ok-key_of-clause-found c = short_found getk_named c.args.name.now c.args.word.now c.as_slice-else-eq-2.ensures c.if-eq-3.ensures (key8_bytes c.in_ok-key_of.field-0) c.in_ok-key_of.ensures

pub returns-in_err-key_of-2-clause-none : goal.returns-in_err-key_of-2-clause-none
returns-in_err-key_of-2-clause-none c = if_none _ _ (short_refused hask_named c.args.name.now c.args.word.now c.as_slice-else-eq-3.ensures c.if-eq-4.ensures c.in_err-key_of-2.ensures)

pub returns-in_ok-key_of-2-clause-found : goal.returns-in_ok-key_of-2-clause-found
returns-in_ok-key_of-2-clause-found c = short_found hask_named c.args.name.now c.args.word.now c.as_slice-else-eq-3.ensures c.if-eq-4.ensures (key8_bytes c.in_ok-key_of-2.field-0) c.in_ok-key_of-2.ensures

pub returns-in_err-index_of-3-clause-none : goal.returns-in_err-index_of-3-clause-none
returns-in_err-index_of-3-clause-none c = if_none _ _ (short_refused gap_named c.args.name.now c.args.word.now c.as_slice-else-eq-4.ensures c.if-eq-5.ensures c.in_err-index_of-3.ensures)

pub returns-in_ok-index_of-3-clause-found : goal.returns-in_ok-index_of-3-clause-found
returns-in_ok-index_of-3-clause-found c = short_found gap_named c.args.name.now c.args.word.now c.as_slice-else-eq-4.ensures c.if-eq-5.ensures c.in_ok-index_of-3.field-0 c.in_ok-index_of-3.ensures

pub returns-in_err-index_of-4-clause-none : goal.returns-in_err-index_of-4-clause-none
returns-in_err-index_of-4-clause-none c = if_none _ _ (short_refused rangesfrom_named c.args.name.now c.args.word.now c.as_slice-else-eq-5.ensures c.if-eq-6.ensures c.in_err-index_of-4.ensures)

pub returns-in_ok-index_of-4-clause-found : goal.returns-in_ok-index_of-4-clause-found
returns-in_ok-index_of-4-clause-found c = short_found rangesfrom_named c.args.name.now c.args.word.now c.as_slice-else-eq-5.ensures c.if-eq-6.ensures c.in_ok-index_of-4.field-0 c.in_ok-index_of-4.ensures

pub returns-in_err-index_of-5-clause-none : goal.returns-in_err-index_of-5-clause-none
returns-in_err-index_of-5-clause-none c = if_none _ _ (short_refused prune_named c.args.name.now c.args.word.now c.as_slice-else-eq-6.ensures c.if-eq-7.ensures c.in_err-index_of-5.ensures)

pub returns-in_ok-index_of-5-clause-found : goal.returns-in_ok-index_of-5-clause-found
returns-in_ok-index_of-5-clause-found c = short_found prune_named c.args.name.now c.args.word.now c.as_slice-else-eq-6.ensures c.if-eq-7.ensures c.in_ok-index_of-5.field-0 c.in_ok-index_of-5.ensures

pub returns-in_err-index_of-6-clause-none : goal.returns-in_err-index_of-6-clause-none
returns-in_err-index_of-6-clause-none c = if_none _ _ (short_refused all_named c.args.name.now c.args.word.now c.as_slice-else-eq-7.ensures c.if-eq-8.ensures c.in_err-index_of-6.ensures)

pub returns-in_ok-index_of-6-clause-found : goal.returns-in_ok-index_of-6-clause-found
returns-in_ok-index_of-6-clause-found c = short_found all_named c.args.name.now c.args.word.now c.as_slice-else-eq-7.ensures c.if-eq-8.ensures c.in_ok-index_of-6.field-0 c.in_ok-index_of-6.ensures

pub returns-else-eq-8-clause-none : goal.returns-else-eq-8-clause-none
returns-else-eq-8-clause-none c =
    short_unnamed c.args.name.now c.args.word.now
    (other_word c.as_slice.ensures c.if-eq.ensures)
    (other_word c.as_slice-else-eq.ensures c.if-eq-2.ensures)
    (other_word c.as_slice-else-eq-2.ensures c.if-eq-3.ensures)
    (other_word c.as_slice-else-eq-3.ensures c.if-eq-4.ensures)
    (other_word c.as_slice-else-eq-4.ensures c.if-eq-5.ensures)
    (other_word c.as_slice-else-eq-5.ensures c.if-eq-6.ensures)
    (other_word c.as_slice-else-eq-6.ensures c.if-eq-7.ensures)
    (other_word c.as_slice-else-eq-7.ensures c.if-eq-8.ensures)
