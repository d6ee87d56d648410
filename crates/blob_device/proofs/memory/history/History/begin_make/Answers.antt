use Rattle.std.proofs.Common.{true, min, max, refl, sym, subst}
use Rattle.blob_device.specs.declared.memory.history.History.{History}
use Rattle.blob_device.specs.Change.{Make, during}
use Rattle.blob_device.specs.Histories.{IsHistory}
use Rattle.blob_device.proofs.HistoryLemmas.{history_made}
use Rattle.blob_device.proofs.memory.history.History.begin_make.Goals as goal

pub returns : goal.returns
returns c b is =
    let old = c.args.self.now in
    let begun : History = record old { unsure = true; content = c.clear.new.self; shortest = min old.shortest 0; longest = max old.longest 0 } in
    subst (λ (h : History). IsHistory h (during Make b)) (sym c.begin.ensures) (history_made old begun b is c.if-self.false refl refl c.clear.ensures.items refl refl refl refl)
