use Rattle.std.proofs.Common.{sym, subst}
use Rattle.record_tables.specs.Tables.{AreCandidates}
use Rattle.record_tables.proofs.CandidateLemmas.{candidates_are}
use Rattle.record_tables.proofs.tables.Tables.candidates.Goals as goal

pub returns : goal.returns
returns g c word_of had =
    subst (AreCandidates g.W.PartialEq.eq word_of c.args.word.now c.args.self.now) (sym c.get.ensures)
    (candidates_are g.W.PartialEq.eq word_of c.args.self.now c.requires.order had c.args.word.now)
