use Rattle.blob_device.specs.lemmas.Moments.{always_now}
use Rattle.section_manager.specs.Sections.{key_of}
use Rattle.variable_journal.specs.Shown as journal
use Rattle.variable_tests.proofs.KeepingLemmas.{read_on}
use Rattle.variable_tests.proofs.reading.get_many.Goals as goal

pub returns : goal.returns
returns c =
    read_on c.args.journal.now (key_of (journal.shown c.args.journal.now).sections c.args.section) c.args.dev.now c.get_many.new.dev
    c.get_many.ensures.entries (always_now _ _ _ (c.get_many.ensures.unchanged tt)) c.requires
