use Rattle.std.proofs.Common.{◌≡◌, ◌∙◌, Bool, ap, sym, subst, rules, List, ℕ}
use Rattle.blob_device.specs.declared.memory.history.History.{History}
use Rattle.blob_device.specs.Change.{Resize, resized}
use Rattle.blob_device.specs.Calls.{result_of}
use Rattle.blob_device.specs.Histories.{IsHistory}
use Rattle.blob_device.proofs.HistoryLemmas.{history_begun}
use Rattle.blob_device.proofs.memory.history.History.resize.Goals as goal
use Rattle.blob_device.specs.Lengths.{length-resized}

pub returns-then-failed : goal.returns-then-failed
returns-then-failed c b is =
    let old = c.args.self.now in
    let n = c.args.len in
    let begun = c.begin.ensures in
    subst (λ (f : Bool). IsHistory c.begin.new.self (result_of (Resize n) f b)) (sym c.if-failed.true)
    (history_begun old c.begin.new.self b (resized b.content n) b.content b.loose n is (ap (λ (h : History). h.there) begun) (ap (λ (h : History). h.unsure) begun) (ap (λ (h : History). h.content.items) begun ∙ is.reads_as)
    (ap (λ (h : History). h.settled) begun) (ap (λ (h : History). h.shortest) begun) (ap (λ (h : History). h.longest) begun) (ap (λ (h : History). h.loose.items) begun ∙ is.loose_are) (sym (length-resized b.content n)))

pub returns : goal.returns
returns c b is =
    let old = c.args.self.now in
    let n = c.args.len in
    let begun = c.begin.ensures in
    let new : History = record c.begin.new.self { content = c.resize.new.self } in
    let content : c.resize.new.self.items ≡ resized c.begin.new.self.content.items n = search rules in
    subst (λ (f : Bool). IsHistory new (result_of (Resize n) f b)) (sym c.if-failed.false)
    (history_begun old new b (resized b.content n) (resized b.content n) b.loose n is (ap (λ (h : History). h.there) begun) (ap (λ (h : History). h.unsure) begun)
    (content ∙ ap (λ (l : List ℕ). resized l n) (ap (λ (h : History). h.content.items) begun ∙ is.reads_as))
    (ap (λ (h : History). h.settled) begun) (ap (λ (h : History). h.shortest) begun) (ap (λ (h : History). h.longest) begun) (ap (λ (h : History). h.loose.items) begun ∙ is.loose_are) (sym (length-resized b.content n)))
