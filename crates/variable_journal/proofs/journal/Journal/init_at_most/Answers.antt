-- The journal of bytes is opened and cut, and then gone over.
use Rattle.std.specs.Prelude.{◌≡◌, string_bytes}
use Rattle.std.proofs.Common.{refl}
use Rattle.sealed_pages.specs.Buffer.{size_of}
use Rattle.sealed_pages.specs.Shown as page_blob
use Rattle.section_manager.specs.Answers.{seen}
use Rattle.section_manager.specs.declared.journal.Error.TheVariants.{Mem}
use Rattle.section_manager.specs.contracts.sealed.PageBlobSectionBuffer.TheImpl.{ghosts}
use Rattle.segments.specs.FixedShown as bytes
use Rattle.segments.specs.lemmas.adding.Write.{are_pages}
use Rattle.variable_journal.specs.Shown.{config_of, shown}
use Rattle.variable_journal.specs.Walking as replay
use Rattle.variable_journal.specs.Walking.{walk_of}
use Rattle.variable_journal.proofs.AtMostLemmas.{none_past, opened_drained, opened_journal, opened_start, unbegun, unopened}
use Rattle.variable_journal.proofs.journal.Journal.init_at_most.Goals as goal
use Rattle.blob_device.proofs.general.Results.{err_of}

pub returns-in_err-of_bytes : goal.returns-in_err-of_bytes
returns-in_err-of_bytes g c =
    let e = c.in_err-of_bytes.field-0.0 in
    let is : e ≡ Mem = (let at = c.in_err-of_bytes.ensures.cause in cc at) in
    rw (err_of c.from_residual.result e c.from_residual.ensures.1) (rw is
    (unbegun g.S.Seal.seal_of (ghosts g.row.S g.S.Seal g.S.Seal-dict) _ g.D.Device c.args.section c.args.end g.V.Codec.spelling g.V.Codec.accepted c.args.cfg.now.codec_config g.V.Codec.refusal c.args.dev.now (string_bytes c.args.cfg.now.partition) c.args.cfg.now.pages c.requires c.args.cfg.now.write_buffer _ tt))

pub returns-in_err-bytes : goal.returns-in_err-bytes
returns-in_err-bytes g c =
    let e = c.in_err-bytes.field-0.0 in
    rw (err_of c.from_residual-in_err-bytes.result e c.from_residual-in_err-bytes.ensures.1)
    (unopened g.S.Seal.seal_of (ghosts g.row.S g.S.Seal g.S.Seal-dict) _ g.D.Device c.args.section c.args.end g.V.Codec.spelling g.V.Codec.accepted c.args.cfg.now.codec_config g.V.Codec.refusal c.args.dev.now
    (string_bytes c.args.cfg.now.partition) _ c.args.cfg.now.pages _ c.args.cfg.now.write_buffer _ c.in_ok-of_bytes.ensures.same.0 c.in_ok-of_bytes.ensures.same.1 c.in_ok-of_bytes.ensures.same.2 c.open_at_most.new.dev c.requires e _ tt c.in_err-bytes.ensures.bounds c.in_err-bytes.ensures.cause)

pub replay-requires-clause-over : goal.replay-requires-clause-over
replay-requires-clause-over g c =
    opened_journal g.S.Seal.seal_of (ghosts g.row.S g.S.Seal g.S.Seal-dict) _ g.D.Device c.args.section c.args.end g.V.Codec.spelling g.V.Codec.accepted c.args.cfg.now.codec_config g.V.Codec.refusal c.args.dev.now
    (string_bytes c.args.cfg.now.partition) _ c.args.cfg.now.pages _ c.args.cfg.now.write_buffer _ c.in_ok-of_bytes.ensures.same.0 c.in_ok-of_bytes.ensures.same.1 c.in_ok-of_bytes.ensures.same.2 c.open_at_most.new.dev c.requires (are_pages g.row.S g.S.Seal g.S.Seal-dict) (λ f. refl) (bytes.shown c.in_ok-bytes.bytes) c.in_ok-bytes.ensures.bounds

pub replay-requires-clause-start : goal.replay-requires-clause-start
replay-requires-clause-start g c t held =
    opened_start g.S.Seal.seal_of (ghosts g.row.S g.S.Seal g.S.Seal-dict) _ g.D.Device c.args.section c.args.end g.V.Codec.spelling g.V.Codec.accepted c.args.cfg.now.codec_config g.V.Codec.refusal c.args.dev.now
    (string_bytes c.args.cfg.now.partition) _ c.args.cfg.now.pages _ c.args.cfg.now.write_buffer _ c.in_ok-of_bytes.ensures.same.0 c.in_ok-of_bytes.ensures.same.1 c.in_ok-of_bytes.ensures.same.2 c.open_at_most.new.dev c.requires (are_pages g.row.S g.S.Seal g.S.Seal-dict) (λ f. refl) (bytes.shown c.in_ok-bytes.bytes) c.in_ok-bytes.ensures.bounds

pub returns-in_err-replay : goal.returns-in_err-replay
returns-in_err-replay g c = absurd (none_past ((bytes.shown c.in_ok-bytes.bytes).sections.held 0) (λ u. size_of (page_blob.shown u)) (c.in_err-replay.ensures.past.0 c.in_err-replay.ensures.cause))

pub drain-requires-clause-over : goal.drain-requires-clause-over
drain-requires-clause-over g c = c.in_ok-replay.ensures.over

pub drain-requires-clause-fine : goal.drain-requires-clause-fine
drain-requires-clause-fine g c = c.in_ok-replay.ensures.begins.whole

pub drain-requires-clause-going : goal.drain-requires-clause-going
drain-requires-clause-going g c = c.in_ok-replay.ensures.begins.going

pub returns : goal.returns
returns g c =
    opened_drained g.S.Seal.seal_of (ghosts g.row.S g.S.Seal g.S.Seal-dict) _ g.D.Device c.args.section c.args.end g.V.Codec.spelling g.V.Codec.accepted c.args.cfg.now.codec_config g.V.Codec.refusal c.args.dev.now
    (string_bytes c.args.cfg.now.partition) _ c.args.cfg.now.pages _ c.args.cfg.now.write_buffer _ c.in_ok-of_bytes.ensures.same.0 c.in_ok-of_bytes.ensures.same.1 c.in_ok-of_bytes.ensures.same.2 c.open_at_most.new.dev c.requires (are_pages g.row.S g.S.Seal g.S.Seal-dict) (λ f. refl) (bytes.shown c.in_ok-bytes.bytes) c.in_ok-bytes.ensures.bounds
    (walk_of c.in_ok-replay.replay) c.in_ok-replay.ensures.begins c.replay.new.dev c.in_ok-replay.ensures.unchanged (replay.config_of c.in_ok-replay.replay) c.in_ok-replay.ensures.same_config
    c.drain.new.dev (seen shown c.drain.result) (seen config_of c.drain.result) c.drain.ensures.config c.drain.ensures.ends
