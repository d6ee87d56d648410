use Rattle.std.proofs.Common.{◌≡◌, ◌∙◌, ◌⊎◌, List, ℕ, Some, length, drop, subst, arith, rules}
use Rattle.std.proofs.lemmas.List.{take_at}
use Rattle.value_codec.specs.declared.codec.Error.TheVariants.{Mem}
use Rattle.sealed_pages.specs.lemmas.memory.Holding.{fit_size}
use Rattle.section_manager.specs.Raised.{raised, raised_codec}
use Rattle.variable_journal.proofs.ReadingLemmas.{frame_failed, item_failed, item_found, item_idle, item_refused}
use Rattle.variable_journal.proofs.journal.Journal.read_frame.Goals as goal
use Rattle.blob_device.proofs.general.Results.{err_of}

-- no length was read
pub returns-in_err-size-clause-reads : goal.returns-in_err-size-clause-reads
returns-in_err-size-clause-reads g c =
    rw (err_of c.from_residual.result c.in_err-size.field-0.0 c.from_residual.ensures.1)
    (frame_failed g.S.Seal.seal_of g.D.Device c.args.buffer.now c.args.offset c.args.dev.now g.V.Codec.refusal c.args.self.now.codec_config c.header_at.new.dev c.in_err-size.field-0.0 c.in_err-size.ensures.reads)

pub overflow_add-offset : goal.overflow_add-offset
overflow_add-offset g c = omega (arith, c.in_ok-size.ensures.inside, fit_size _ _ _ _ c.args.buffer.now.fit)

-- the item was not read
pub returns-in_err-read_at-clause-reads : goal.returns-in_err-read_at-clause-reads
returns-in_err-read_at-clause-reads g c =
    rw (err_of c.from_residual-in_err-read_at.result (raised c.in_err-read_at.field-0.0) c.from_residual-in_err-read_at.ensures.1)
    (item_failed g.S.Seal.seal_of g.D.Device c.args.buffer.now c.args.offset c.args.dev.now g.V.Codec.refusal c.args.self.now.codec_config c.header_at.new.dev c.in_ok-size.size c.in_ok-size.header c.in_ok-size.ensures.reads
    c.read_at.new.dev _ c.read_at.new.buf (search rules) c.in_err-read_at.field-0.0 c.in_err-read_at.ensures c.in_ok-size.ensures.inside)

-- the codec refuses it
pub returns-in_err-decode_cfg-clause-reads : goal.returns-in_err-decode_cfg-clause-reads
returns-in_err-decode_cfg-clause-reads g c =
    rw (err_of c.from_residual-in_err-decode_cfg.result (raised_codec c.in_err-decode_cfg.field-0.0) c.from_residual-in_err-decode_cfg.ensures.1)
    (item_refused g.S.Seal.seal_of g.D.Device c.args.buffer.now c.args.offset c.args.dev.now g.V.Codec.refusal c.args.self.now.codec_config c.header_at.new.dev c.in_ok-size.size c.in_ok-size.header c.in_ok-size.ensures.reads
    c.read_at.new.dev _ c.read_at.new.buf (search rules) _ c.in_ok-read_at.ensures c.in_err-decode_cfg.field-0.0
    (subst (λ (l : List ℕ). (c.in_err-decode_cfg.field-0.0 ≡ Mem) ⊎ (g.V.Codec.refusal l c.args.self.now.codec_config ≡ Some c.in_err-decode_cfg.field-0.0))
    (c.as_slice.ensures.value ∙ take_at c.read_at.new.buf (drop (length c.read_at.new.buf) c.in_ok-bytes.bytes.items) c.in_ok-bytes.bytes.len (search rules)) c.in_err-decode_cfg.ensures.refused))

pub returns-clause-reads : goal.returns-clause-reads
returns-clause-reads g c =
    item_found g.S.Seal.seal_of g.D.Device c.args.buffer.now c.args.offset c.args.dev.now g.V.Codec.refusal c.args.self.now.codec_config c.header_at.new.dev c.in_ok-size.size c.in_ok-size.header c.in_ok-size.ensures.reads
    c.read_at.new.dev _ c.read_at.new.buf (search rules) _ c.in_ok-read_at.ensures g.V.Codec.spelling g.V.Codec.accepted c.in_ok-decode_cfg.field-0
    (c.in_ok-decode_cfg.ensures.spelled ∙ c.as_slice.ensures.value ∙ take_at c.read_at.new.buf (drop (length c.read_at.new.buf) c.in_ok-bytes.bytes.items) c.in_ok-bytes.bytes.len (search rules))
    c.in_ok-decode_cfg.ensures.allowed

-- Where the frame is in memory, the item is.
pub returns-in_err-read_at-clause-idle : goal.returns-in_err-read_at-clause-idle
returns-in_err-read_at-clause-idle g c =
    item_idle g.S.Seal.seal_of g.D.Device c.args.buffer.now c.args.offset c.args.dev.now g.V.Codec.refusal c.args.self.now.codec_config c.header_at.new.dev c.in_ok-size.size c.in_ok-size.header c.in_ok-size.ensures.reads
    c.read_at.new.dev _ c.read_at.new.buf (search rules) c.in_err-read_at.ensures c.header_at.ensures.idle

pub returns-in_err-decode_cfg-clause-idle : goal.returns-in_err-decode_cfg-clause-idle
returns-in_err-decode_cfg-clause-idle g c =
    item_idle g.S.Seal.seal_of g.D.Device c.args.buffer.now c.args.offset c.args.dev.now g.V.Codec.refusal c.args.self.now.codec_config c.header_at.new.dev c.in_ok-size.size c.in_ok-size.header c.in_ok-size.ensures.reads
    c.read_at.new.dev _ c.read_at.new.buf (search rules) c.in_ok-read_at.ensures c.header_at.ensures.idle

pub returns-clause-idle : goal.returns-clause-idle
returns-clause-idle g c =
    item_idle g.S.Seal.seal_of g.D.Device c.args.buffer.now c.args.offset c.args.dev.now g.V.Codec.refusal c.args.self.now.codec_config c.header_at.new.dev c.in_ok-size.size c.in_ok-size.header c.in_ok-size.ensures.reads
    c.read_at.new.dev _ c.read_at.new.buf (search rules) c.in_ok-read_at.ensures c.header_at.ensures.idle
