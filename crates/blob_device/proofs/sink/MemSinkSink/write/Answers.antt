use Rattle.std.proofs.Common.{◌==◌, sym, ◌∙◌, ap}
use Rattle.std.specs.List.{list_any}
use Rattle.std.proofs.lemmas.Bool.{false≢true}
use Rattle.blob_device.proofs.sink.MemSinkSink.write.Goals as goal

pub returns-then-is_in_list-clause-succeeds : goal.returns-then-is_in_list-clause-succeeds
returns-then-is_in_list-clause-succeeds c off =
    absurd (false≢true (sym off ∙ sym (c.is_in_list.ensures ∙ ap (list_any (λ n. n == c.args.self.now.writes)) c.as_slice.ensures.value) ∙ c.if-is_in_list.true))

pub returns-in_err-extend_from_slice-clause-fails :
    goal.returns-in_err-extend_from_slice-clause-fails
returns-in_err-extend_from_slice-clause-fails c on =
    absurd (false≢true (sym c.if-is_in_list.false ∙ (c.is_in_list.ensures ∙ ap (list_any (λ n. n == c.args.self.now.writes)) c.as_slice.ensures.value) ∙ on))

pub returns-clause-fails : goal.returns-clause-fails
returns-clause-fails c on =
    absurd (false≢true (sym c.if-is_in_list.false ∙ (c.is_in_list.ensures ∙ ap (list_any (λ n. n == c.args.self.now.writes)) c.as_slice.ensures.value) ∙ on))
