use Rattle.std.proofs.Common.{◌≡◌, ◌∙◌, ◌+◌, ◌/◌, ◌∷◌, ◌++◌, [], max, cond, take, ap, sym, subst, arith, rules, List, ℕ, length}
use Rattle.blob_device.specs.declared.memory.history.History.{History}
use Rattle.blob_device.specs.Change.{written}
use Rattle.blob_device.specs.Histories.{IsHistory}
use Rattle.blob_device.proofs.HistoryLemmas.{history_begun, result_write}
use Rattle.blob_device.proofs.memory.history.History.write.Goals as goal
use Rattle.blob_device.specs.Lengths.{length-written}
use Rattle.blob_device.proofs.general.Results.{on_ok}

pub returns : goal.returns
returns c =
    let old = c.args.self.now in
    let at = c.args.at in
    let bytes = c.args.bytes.now in
    let begun = c.begin.ensures in
    let new : History = record c.begin.new.self { content = c.write_into.new.content; loose = c.push.new.self } in
    let pushed : c.push.new.self.items ≡ c.begin.new.self.loose.items ++ (at, length bytes) ∷ [] = search rules in
    let len : c.max.result ≡ max (length old.content.items) (at + length bytes) = omega (arith, c.max.ensures, c.len-len.ensures, c.in-Some.ensures, old.content.ok.0) in
    on_ok c.write_into.result (λ content b is.
    subst (IsHistory new) (result_write at bytes c.args.failed b)
    (history_begun old new b (written b.content at bytes) (written b.content at (cond c.args.failed (take (length bytes / 2) bytes) bytes)) (b.loose ++ (at, length bytes) ∷ []) c.max.result is
    (ap (λ (h : History). h.there) begun) (ap (λ (h : History). h.unsure) begun)
    (content ∙ (λ i. written ((ap (λ (h : History). h.content.items) begun ∙ is.reads_as) i) at (c.left_of.ensures i)))
    (ap (λ (h : History). h.settled) begun) (ap (λ (h : History). h.shortest) begun) (ap (λ (h : History). h.longest) begun)
    (pushed ∙ ap (λ (l : List (ℕ × ℕ)). l ++ (at, length bytes) ∷ []) (ap (λ (h : History). h.loose.items) begun ∙ is.loose_are))
    (len ∙ ap (λ (l : List ℕ). max (length l) (at + length bytes)) is.reads_as ∙ sym (length-written b.content at bytes)))) c.write_into.ensures.ok
