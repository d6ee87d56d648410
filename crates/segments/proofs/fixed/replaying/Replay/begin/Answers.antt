-- The section's bytes are flushed, and the reader goes to the first item.
use Rattle.std.specs.Prelude.{◌≡◌, ℕ, ◌*◌, eqb, cond, [], Some}
use Rattle.std.proofs.Common.{refl, ◌∙◌, ap, subst, arith}
use Rattle.std.proofs.lemmas.Result.{err_from_is_err_and}
use Rattle.blob_device.specs.Timeline.{disk}
use Rattle.sealed_pages.specs.Readers.{Reader, reading, IsReplayOf}
use Rattle.sealed_pages.specs.Shown as page_blob
use Rattle.sealed_pages.specs.lemmas.Unrecovered.{adopted_backed}
use Rattle.segments.specs.FixedReplay.{Walk, first_of}
use Rattle.segments.specs.FixedStepping.{OnlySections}
use Rattle.segments.specs.FixedWalking.{walk_of}
use Rattle.segments.proofs.replay.Opening.{begin_failed, begin_begun, begin_fits, begin_small}
use Rattle.segments.proofs.replay.ErrorSteps.{failed_as}
use Rattle.segments.proofs.fixed.replaying.Replay.begin.Goals as goal
use Rattle.blob_device.proofs.general.Options.{some_of}

-- the first position is that of the replay before the call
abbrev first_at : {F B : Type 0} → Walk F B → ℕ → ℕ
first_at w s = cond (w.journal.unrecovered s) 0 (first_of w s)

begins_at : {F B : Type 0} (w new : Walk F B) (s n : ℕ) → OnlySections w new → n ≡ cond (new.journal.unrecovered s) 0 (first_of new s) → n ≡ first_at w s
begins_at w new s n rest is = is ∙ (λ i. cond (rest.unrecovered s i) 0 (cond (eqb s (rest.section i)) (rest.position i) 0))

pub open_reader-requires-clause-over : goal.open_reader-requires-clause-over
open_reader-requires-clause-over g c = c.requires.over.over

pub open_reader-requires-clause-held : goal.open_reader-requires-clause-held
open_reader-requires-clause-held g c = c.requires.held

pub returns-in_err-reader : goal.returns-in_err-reader
returns-in_err-reader g c =
    let p = err_from_is_err_and c.from_residual.result c.from_residual.ensures.1 in
    let u = some_of ((walk_of c.args.self.now).journal.sections.held c.args.section) c.requires.held in
    rw p.1 (record {
      steps = begin_failed g.S.Seal.seal_of g.A.CodecFixed.SIZE _ _ (walk_of c.args.self.now) (walk_of c.open_reader.new.self) c.args.section c.number_after-self.result (walk_of c.args.self.now).place _ _ (g.D.Device.time c.args.dev.now) (g.D.Device.time c.open_reader.new.dev)
          c.requires.over c.requires.between c.open_reader.result c.open_reader.ensures.rest c.number_after-self.ensures c.open_reader.ensures.touches u.0 u.1 c.requires.ahead c.requires.least
          (λ t. c.open_reader.ensures.moments t u.0 u.1) (λ t. c.open_reader.ensures.steady t u.0 u.1) (λ x b stands. stands.adopted) (c.open_reader.ensures.idle u.0 u.1) g.A.Codec.spelling g.A.Codec.accepted g.A.Codec.refusal _ _ c.open_reader.ensures.faults
          p.0 (c.open_reader.ensures.rest.place ∙ c.requires.between) c.open_reader.ensures.ended c.in_err-reader.ensures.touches.lost (failed_as _ p.0 p.2 _ _ c.in_err-reader.ensures.cause);
      begun = tt;
      left = c.open_reader.ensures.rest.place ∙ c.requires.between;
    })

pub overflow_mul-position : goal.overflow_mul-position
overflow_mul-position g c =
    omega (arith, begin_small g.S.Seal.seal_of g.A.CodecFixed.SIZE _ _ (walk_of c.args.self.now) c.args.section _ (disk (g.D.Device.time c.args.dev.now)) c.requires.over c.requires.held c.requires.ahead c.begin_at-position.result (begins_at (record (walk_of c.args.self.now) { next_section = c.number_after-self.result }) (walk_of c.open_reader.new.self) c.args.section c.begin_at-position.result c.open_reader.ensures.rest c.begin_at-position.ensures), ap (λ (n : ℕ). c.begin_at-position.result * n) c.SIZE.ensures)

pub returns-in_err-seek_to : goal.returns-in_err-seek_to
returns-in_err-seek_to g c =
    let u = some_of ((walk_of c.args.self.now).journal.sections.held c.args.section) c.requires.held in
    let v = some_of ((walk_of c.open_reader.new.self).journal.sections.held c.args.section) c.in_ok-reader.ensures.touches.held in
    let begins = (c.in_ok-reader.ensures.flushed u.0 v.0 u.1 v.1).1 in
    let past = c.in_err-seek_to.ensures.short.0 c.in_err-seek_to.ensures.cause in
    absurd (omega (arith, past, begins.size, begin_fits g.S.Seal.seal_of g.A.CodecFixed.SIZE _ _ (walk_of c.args.self.now) c.args.section _ (disk (g.D.Device.time c.args.dev.now)) c.requires.over u.0 u.1 c.requires.ahead c.begin_at-position.result (begins_at (record (walk_of c.args.self.now) { next_section = c.number_after-self.result }) (walk_of c.open_reader.new.self) c.args.section c.begin_at-position.result c.open_reader.ensures.rest c.begin_at-position.ensures), ap (λ (n : ℕ). c.begin_at-position.result * n) c.SIZE.ensures))

pub returns : goal.returns
returns g c =
    let u = some_of ((walk_of c.args.self.now).journal.sections.held c.args.section) c.requires.held in
    let v = some_of ((walk_of c.open_reader.new.self).journal.sections.held c.args.section) c.in_ok-reader.ensures.touches.held in
    let both = c.in_ok-reader.ensures.flushed u.0 v.0 u.1 v.1 in
    let offset : c.begin_at-position.result * c.SIZE.result ≡ c.begin_at-position.result * g.A.CodecFixed.SIZE = ap (λ (n : ℕ). c.begin_at-position.result * n) c.SIZE.ensures in
    let goes : reading c.seek_to.new.self ≡ record (reading c.in_ok-reader.reader) { at = c.begin_at-position.result * g.A.CodecFixed.SIZE; bytes = [] } = c.in_ok-seek_to.ensures.goes ∙ ap (λ (n : ℕ). record (reading c.in_ok-reader.reader) { at = n; bytes = [] }) offset in
    record {
      steps = begin_begun g.S.Seal.seal_of g.A.CodecFixed.SIZE _ _ (walk_of c.args.self.now) _ c.args.section c.number_after-self.result _ _ _ (g.D.Device.time c.args.dev.now) (g.D.Device.time c.open_reader.new.dev)
          c.requires.over c.requires.between c.open_reader.result (record { unrecovered = c.open_reader.ensures.rest.unrecovered; floors = c.open_reader.ensures.rest.floors; section = c.open_reader.ensures.rest.section; position = c.open_reader.ensures.rest.position; next = c.open_reader.ensures.rest.next; place = refl; failed = c.open_reader.ensures.rest.failed }) c.number_after-self.ensures c.open_reader.ensures.touches u.0 u.1 c.requires.ahead c.requires.least
          (λ t. c.open_reader.ensures.moments t u.0 u.1) (λ t. c.open_reader.ensures.steady t u.0 u.1) (λ x b stands. stands.adopted) (c.open_reader.ensures.idle u.0 u.1) g.A.Codec.spelling g.A.Codec.accepted g.A.Codec.refusal _ _ c.open_reader.ensures.faults
          v.0 v.1 (reading c.in_ok-reader.reader) c.begin_at-position.result (begins_at (record (walk_of c.args.self.now) { next_section = c.number_after-self.result }) (walk_of c.open_reader.new.self) c.args.section c.begin_at-position.result c.open_reader.ensures.rest c.begin_at-position.ensures) both.0 both.1
          (λ content held. subst (λ (r : Reader). IsReplayOf g.S.Seal.seal_of content r) goes (c.seek_to.ensures.replays content (both.1.replays content held))) (λ x b stands. adopted_backed g.S.Seal.seal_of (page_blob.shown x) b stands.adopted)
          (ap (λ (r : Reader). Some (record { section = c.args.section; position = c.begin_at-position.result; reader = r })) goes)
          c.open_reader.ensures.ended g.met.A.CodecFixed.fixed.at_least c.in_ok-reader.ensures.reads;
      begun = record { held = c.requires.held; ahead = c.requires.ahead; least = c.requires.least; position = begins_at (record (walk_of c.args.self.now) { next_section = c.number_after-self.result }) (walk_of c.open_reader.new.self) c.args.section c.begin_at-position.result c.open_reader.ensures.rest c.begin_at-position.ensures };
      left = tt;
    }
