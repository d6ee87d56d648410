-- What is left of the section is passed over, and cut off.
use Rattle.std.proofs.Common.{sym, ◌∙◌}
use Rattle.value_codec.specs.declared.codec.Error.TheVariants.{EndOfBuffer}
use Rattle.segments.specs.FixedWalking as bytes
use Rattle.variable_journal.specs.Walking.{config_of, walk_of}
use Rattle.variable_journal.proofs.TornLemmas.{one_byte, torn_cut, torn_failed, torn_goes, torn_going, torn_last, torn_lost, torn_may, torn_none, torn_over, torn_start, torn_stopped, torn_unowed, torn_whole}
use Rattle.variable_journal.proofs.journal.replaying.Replay.end.Goals as goal
use Rattle.blob_device.proofs.general.Results.{err_of}

pub returns-in_err-skip-clause-ends : goal.returns-in_err-skip-clause-ends
returns-in_err-skip-clause-ends g c = rw (err_of c.from_residual.result c.in_err-skip.field-0.0 c.from_residual.ensures.1)
    (torn_stopped _ _ g.S.Seal.seal_of g.D.Device g.V.Codec.spelling g.V.Codec.accepted g.V.Codec.refusal (config_of c.args.self.now) c.args.section c.args.offset (walk_of c.args.self.now) c.args.dev.now c.skip.new.dev c.requires.torn (walk_of c.skip.new.self) c.in_err-skip.field-0.0 c.in_err-skip.ensures.skipped)

pub returns-in_default-clause-ends : goal.returns-in_default-clause-ends
returns-in_default-clause-ends g c = absurd (torn_none _ _ g.S.Seal.seal_of g.D.Device g.V.Codec.spelling g.V.Codec.accepted g.V.Codec.refusal (config_of c.args.self.now) c.args.section c.args.offset (walk_of c.args.self.now) c.args.dev.now c.skip.new.dev c.requires.torn (walk_of c.skip.new.self) c.in_ok-skip.ensures.skipped c.place.result c.place.ensures c.in_default.is)

pub end-requires-clause-over : goal.end-requires-clause-over
end-requires-clause-over g c = torn_over _ _ g.S.Seal.seal_of g.D.Device g.V.Codec.spelling g.V.Codec.accepted g.V.Codec.refusal (config_of c.args.self.now) c.args.section c.args.offset (walk_of c.args.self.now) c.args.dev.now c.skip.new.dev c.requires.torn (walk_of c.skip.new.self) c.in_ok-skip.ensures.skipped

pub end-requires-clause-going : goal.end-requires-clause-going
end-requires-clause-going g c = torn_going _ _ g.S.Seal.seal_of g.D.Device g.V.Codec.spelling g.V.Codec.accepted g.V.Codec.refusal (config_of c.args.self.now) c.args.section c.args.offset (walk_of c.args.self.now) c.args.dev.now c.skip.new.dev c.requires.torn (walk_of c.skip.new.self) c.in_ok-skip.ensures.skipped

pub end-requires-clause-last : goal.end-requires-clause-last
end-requires-clause-last g c = torn_last _ _ g.S.Seal.seal_of g.D.Device g.V.Codec.spelling g.V.Codec.accepted g.V.Codec.refusal (config_of c.args.self.now) c.args.section c.args.offset (walk_of c.args.self.now) c.args.dev.now c.skip.new.dev c.requires.torn (walk_of c.skip.new.self) c.in_ok-skip.ensures.skipped

pub returns-in_err-end-clause-ends : goal.returns-in_err-end-clause-ends
returns-in_err-end-clause-ends g c = rw (err_of c.from_residual-in_err-end.result c.in_err-end.field-0.0 c.from_residual-in_err-end.ensures.1)
    (torn_failed _ _ g.S.Seal.seal_of g.D.Device g.V.Codec.spelling g.V.Codec.accepted g.V.Codec.refusal (config_of c.args.self.now) c.args.section c.args.offset (walk_of c.args.self.now) c.args.dev.now c.skip.new.dev c.requires.torn (walk_of c.skip.new.self) c.in_ok-skip.ensures.skipped
    _ _ _ (bytes.walk_of c.end.new.self) c.end.new.dev c.in_err-end.field-0.0 one_byte c.in_err-end.ensures)

pub returns-then-kept-offset-clause-ends : goal.returns-then-kept-offset-clause-ends
returns-then-kept-offset-clause-ends g c =
    torn_whole _ _ g.S.Seal.seal_of g.D.Device g.V.Codec.spelling g.V.Codec.accepted g.V.Codec.refusal (config_of c.args.self.now) c.args.section c.args.offset (walk_of c.args.self.now) c.args.dev.now c.skip.new.dev c.requires.torn (walk_of c.skip.new.self) c.in_ok-skip.ensures.skipped
    _ _ _ (bytes.walk_of c.end.new.self) c.end.new.dev c.in_ok-end.ensures c.place.result c.in-Some.field-0-0 c.in-Some.kept c.place.ensures (cc) c.if-kept-offset.true

pub returns-then-not-owes-clause-ends : goal.returns-then-not-owes-clause-ends
returns-then-not-owes-clause-ends g c =
    torn_unowed _ _ g.S.Seal.seal_of g.D.Device g.V.Codec.spelling g.V.Codec.accepted g.V.Codec.refusal (config_of c.args.self.now) c.args.section c.args.offset (walk_of c.args.self.now) c.args.dev.now c.skip.new.dev c.requires.torn (walk_of c.skip.new.self) c.in_ok-skip.ensures.skipped
    _ _ _ (bytes.walk_of c.end.new.self) c.end.new.dev c.in_ok-end.ensures c.place.result c.in-Some.field-0-0 c.in-Some.kept c.place.ensures (cc) c.if-kept-offset.false (sym c.owes.ensures ∙ c.if-not-owes.true) EndOfBuffer

pub returns-then-offset-first-clause-ends : goal.returns-then-offset-first-clause-ends
returns-then-offset-first-clause-ends g c =
    torn_start _ _ g.S.Seal.seal_of g.D.Device g.V.Codec.spelling g.V.Codec.accepted g.V.Codec.refusal (config_of c.args.self.now) c.args.section c.args.offset (walk_of c.args.self.now) c.args.dev.now c.skip.new.dev c.requires.torn (walk_of c.skip.new.self) c.in_ok-skip.ensures.skipped
    _ _ _ (bytes.walk_of c.end.new.self) c.end.new.dev c.in_ok-end.ensures c.place.result c.in-Some.field-0-0 c.in-Some.kept c.place.ensures (cc) c.first_position-first.result c.first_position-first.ensures c.if-offset-first.true

pub shorten-requires-clause-going : goal.shorten-requires-clause-going
shorten-requires-clause-going g c =
    torn_goes _ _ g.S.Seal.seal_of g.D.Device g.V.Codec.spelling g.V.Codec.accepted g.V.Codec.refusal (config_of c.args.self.now) c.args.section c.args.offset (walk_of c.args.self.now) c.args.dev.now c.skip.new.dev c.requires.torn (walk_of c.skip.new.self) c.in_ok-skip.ensures.skipped
    _ _ _ (bytes.walk_of c.end.new.self) c.end.new.dev c.in_ok-end.ensures c.place.result c.in-Some.field-0-0 c.in-Some.kept c.place.ensures (cc)

pub shorten-requires-clause-may : goal.shorten-requires-clause-may
shorten-requires-clause-may g c =
    torn_may _ _ g.S.Seal.seal_of g.D.Device g.V.Codec.spelling g.V.Codec.accepted g.V.Codec.refusal (config_of c.args.self.now) c.args.section c.args.offset (walk_of c.args.self.now) c.args.dev.now c.skip.new.dev c.requires.torn (walk_of c.skip.new.self) c.in_ok-skip.ensures.skipped
    _ _ _ (bytes.walk_of c.end.new.self) c.end.new.dev c.in_ok-end.ensures c.place.result c.in-Some.field-0-0 c.in-Some.kept c.place.ensures (cc) (sym c.owes.ensures ∙ c.if-not-owes.false) c.first_position-first.result c.first_position-first.ensures c.if-offset-first.false

pub returns-in_err-shorten-clause-ends : goal.returns-in_err-shorten-clause-ends
returns-in_err-shorten-clause-ends g c = rw (err_of c.from_residual-in_err-shorten.result c.in_err-shorten.field-0.0 c.from_residual-in_err-shorten.ensures.1)
    (torn_lost _ _ g.S.Seal.seal_of g.D.Device g.V.Codec.spelling g.V.Codec.accepted g.V.Codec.refusal (config_of c.args.self.now) c.args.section c.args.offset (walk_of c.args.self.now) c.args.dev.now c.skip.new.dev c.requires.torn (walk_of c.skip.new.self) c.in_ok-skip.ensures.skipped
    _ _ _ (bytes.walk_of c.end.new.self) c.end.new.dev c.in_ok-end.ensures c.place.result c.in-Some.field-0-0 c.in-Some.kept c.place.ensures (cc) (sym c.owes.ensures ∙ c.if-not-owes.false) c.first_position-first.result c.first_position-first.ensures c.if-offset-first.false
    (bytes.walk_of c.shorten.new.self) c.shorten.new.dev c.if-kept-offset.false c.in_err-shorten.field-0.0 c.in_err-shorten.ensures)

pub returns-clause-ends : goal.returns-clause-ends
returns-clause-ends g c =
    torn_cut _ _ g.S.Seal.seal_of g.D.Device g.V.Codec.spelling g.V.Codec.accepted g.V.Codec.refusal (config_of c.args.self.now) c.args.section c.args.offset (walk_of c.args.self.now) c.args.dev.now c.skip.new.dev c.requires.torn (walk_of c.skip.new.self) c.in_ok-skip.ensures.skipped
    _ _ _ (bytes.walk_of c.end.new.self) c.end.new.dev c.in_ok-end.ensures c.place.result c.in-Some.field-0-0 c.in-Some.kept c.place.ensures (cc) (sym c.owes.ensures ∙ c.if-not-owes.false) c.first_position-first.result c.first_position-first.ensures c.if-offset-first.false
    (bytes.walk_of c.shorten.new.self) c.shorten.new.dev c.in_ok-shorten.ensures
