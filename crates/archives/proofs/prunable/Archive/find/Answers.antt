use Rattle.std.proofs.Common.{sym, ◌∙◌, ap, subst, refl}
use Rattle.record_tables.specs.Tables.{AreCandidates}
use Rattle.section_manager.specs.contracts.sealed.PageBlobSectionBuffer.TheImpl as page_blob
use Rattle.archives.specs.Shown.{means}
use Rattle.archives.proofs.FindLemmas.{key_found, key_none, key_unread, next_near, next_placed, none_read, other_more}
use Rattle.archives.proofs.read.Records.{weaker_at}
use Rattle.archives.proofs.TableLemmas.{other_key, same_key}
use Rattle.archives.proofs.prunable.Archive.find.Given as given
use Rattle.archives.proofs.prunable.Archive.find.Goals as goal
use Rattle.archives.proofs.prunable.Archive.find.Goals.{After-candidates-handle-items}
use Rattle.blob_device.proofs.general.Results.{err_of}

-- ---- the handles of the key's word

pub candidates-handle-items-requires : goal.candidates-handle-items-requires
candidates-handle-items-requires g c = record { order = c.requires.over.tied.order }

are : (g : given.Over) (c : After-candidates-handle-items g) → AreCandidates g.T.Word.PartialEq.eq (λ k. g.T.Translator.word_of c.args.self.now.translator (g.K.Key.key_bytes k))
    (g.T.Translator.word_of c.args.self.now.translator (g.K.Key.key_bytes c.args.key.now)) c.args.self.now.tables c.candidates-handle-items.result.now
are g c =
    let word = g.T.Translator.word_of c.args.self.now.translator in
    subst (λ (w : g.row.T-Word.Denot). AreCandidates g.T.Word.PartialEq.eq (λ k. word (g.K.Key.key_bytes k)) w c.args.self.now.tables c.candidates-handle-items.result.now) (c.transform-word.ensures ∙ ap word c.as_bytes.ensures)
    (c.candidates-handle-items.ensures (λ k. word (g.K.Key.key_bytes k)) c.requires.over.tied.words)

pub loop-handle-init : goal.loop-handle-init
loop-handle-init g c = none_read _ g.D.Device c.args.self.now g.K.Key.key_bytes c.args.self.now.tables (g.K.Key.key_bytes c.args.key.now) c.args.dev.now c.requires.over

-- ---- one after another

pub place-section-requires : goal.place-section-requires
place-section-requires g c =
    let n = (goal.at.place-section-requires g c).After-candidates-handle-items in
    next_placed (means (page_blob.ghosts g.row.S g.S.Seal g.S.Seal-dict)) g.D.Device c.args.self.now g.K.Key.key_bytes c.args.self.now.tables (g.K.Key.key_bytes c.args.key.now) (λ s. refl) g.T.Word.PartialEq.eq (g.T.Translator.word_of c.args.self.now.translator) (λ k l. refl) g.met.T.Word.Eq.laws.refl
    c.candidates-handle-items.result.now (are g n) c.loop-handle.handle-index _ c.loop-handle-test.true

pub record_at-requires-clause-kept : goal.record_at-requires-clause-kept
record_at-requires-clause-kept g c =
    let n = (goal.at.record_at-requires-clause-kept g c).After-candidates-handle-items in
    weaker_at _ (λ r is. tt) (next_near (means (page_blob.ghosts g.row.S g.S.Seal g.S.Seal-dict)) g.D.Device c.args.self.now g.K.Key.key_bytes c.args.self.now.tables (g.K.Key.key_bytes c.args.key.now) (λ s. refl) g.T.Word.PartialEq.eq (g.T.Translator.word_of c.args.self.now.translator) (λ k l. refl) g.met.T.Word.Eq.laws.refl
    c.candidates-handle-items.result.now (are g n) c.loop-handle.handle-index _ c.loop-handle-test.true c.place-section.result.0 c.place-section.result.1 c.place-section.ensures)

pub loop-handle-preserved : goal.loop-handle-preserved
loop-handle-preserved g c =
    let n = (goal.at.loop-handle-preserved g c).After-candidates-handle-items in
    let other = other_key g.K.PartialEq.eq g.K.Key.key_bytes g.met.K.Key.eq_by_bytes c.key.result.now c.args.key.now (sym c.eq.ensures ∙ c.if-eq.false) in
    other_more _ g.D.Device c.args.self.now g.K.Key.key_bytes c.args.self.now.tables (g.K.Key.key_bytes c.args.key.now) (λ s. refl) g.T.Word.PartialEq.eq (g.T.Translator.word_of c.args.self.now.translator) (λ k l. refl) g.met.T.Word.Eq.laws.refl
    c.candidates-handle-items.result.now (are g n) c.loop-handle.handle-index _ c.loop-handle-test.true c.place-section.result.0 c.place-section.result.1 c.place-section.ensures
    c.requires.over.tied.order g.met.K.Key.sized c.args.dev.now c.loop-handle.dev c.record_at.new.dev c.loop-handle.invariant c.in_ok-record.record c.in_ok-record.ensures (λ equal. other (ap g.K.Key.key_bytes c.key.ensures ∙ equal))

pub returns-in_err-record : goal.returns-in_err-record
returns-in_err-record g c =
    let n = (goal.at.returns-in_err-record g c).After-candidates-handle-items in
    let e = c.in_err-record.field-0.0 in
    key_unread _ g.D.Device c.args.self.now g.K.Key.key_bytes c.args.self.now.tables (g.K.Key.key_bytes c.args.key.now) (λ s. refl) g.T.Word.PartialEq.eq (g.T.Translator.word_of c.args.self.now.translator) (λ k l. refl) g.met.T.Word.Eq.laws.refl
    c.candidates-handle-items.result.now (are g n) c.loop-handle.handle-index _ c.loop-handle-test.true c.place-section.result.0 c.place-section.result.1 c.place-section.ensures
    c.requires.over.tied.order g.met.K.Key.sized c.args.dev.now c.loop-handle.dev c.record_at.new.dev c.loop-handle.invariant e c.in_err-record.ensures c.from_residual.result (err_of _ e c.from_residual.ensures.1)

pub returns-then-eq : goal.returns-then-eq
returns-then-eq g c =
    let n = (goal.at.returns-then-eq g c).After-candidates-handle-items in
    let equal = same_key g.K.PartialEq.eq g.K.Key.key_bytes g.met.K.Key.eq_by_bytes c.key.result.now c.args.key.now (sym c.eq.ensures ∙ c.if-eq.true) in
    key_found _ g.D.Device c.args.self.now g.K.Key.key_bytes c.args.self.now.tables (g.K.Key.key_bytes c.args.key.now) (λ s. refl) g.T.Word.PartialEq.eq (g.T.Translator.word_of c.args.self.now.translator) (λ k l. refl) g.met.T.Word.Eq.laws.refl
    c.candidates-handle-items.result.now (are g n) c.loop-handle.handle-index _ c.loop-handle-test.true c.place-section.result.0 c.place-section.result.1 c.place-section.ensures
    c.requires.over.tied.order g.met.K.Key.sized c.args.dev.now c.loop-handle.dev c.record_at.new.dev c.loop-handle.invariant c.in_ok-record.record c.in_ok-record.ensures (ap g.K.Key.key_bytes (sym c.key.ensures) ∙ equal)

-- ---- all of them

pub returns : goal.returns
returns g c =
    let n = (goal.at.returns g c).After-candidates-handle-items in
    key_none _ g.D.Device c.args.self.now g.K.Key.key_bytes c.args.self.now.tables (g.K.Key.key_bytes c.args.key.now) (λ s. refl) g.T.Word.PartialEq.eq (g.T.Translator.word_of c.args.self.now.translator) (λ k l. refl) g.met.T.Word.Eq.laws.refl
    c.candidates-handle-items.result.now (are g n) c.args.dev.now c.loop-handle.dev c.requires.over c.loop-handle.handle-index c.loop-handle-test.false c.loop-handle.invariant
