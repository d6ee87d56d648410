use Rattle.std.proofs.Common.{◌≡◌, ◌==◌, length, take, drop, sym, ◌∙◌, ap, arith}
use Rattle.std.specs.List.{list_any}
use Rattle.std.proofs.lemmas.Bool.{false≢true}
use Rattle.blob_device.proofs.Pieces.{read_split, none_left}
use Rattle.blob_device.proofs.source.MemSourceSource.read.Goals as goal

pub returns-then-is_in_list-clause-succeeds : goal.returns-then-is_in_list-clause-succeeds
returns-then-is_in_list-clause-succeeds c off =
    absurd (false≢true (sym off ∙ sym (c.is_in_list.ensures ∙ ap (list_any (λ n. n == c.args.self.now.reads)) c.as_slice.ensures.value) ∙ c.if-is_in_list.true))

pub returns-clause-told : goal.returns-clause-told
returns-clause-told c told =
    let rest : c.split_at.result.1.now ≡ drop c.args.self.now.at c.args.self.now.bytes.items =
    c.split_at.ensures.back ∙ ap (drop c.args.self.now.at) c.as_slice-2.ensures.value in (
      read_split c.args.self.now.bytes.items c.args.self.now.at c.copy_prefix-count.result c.copy_prefix-count.new.into
          (c.copy_prefix-count.ensures.prefix ∙ ap (take c.copy_prefix-count.result) rest),
      λ none. none_left (drop c.args.self.now.at c.args.self.now.bytes.items)
          (omega (arith, ap length rest, c.copy_prefix-count.ensures.count, c.args.self.now.piece_is_some, c.requires)),
    )

pub returns-clause-fails : goal.returns-clause-fails
returns-clause-fails c on =
    absurd (false≢true (sym c.if-is_in_list.false ∙ (c.is_in_list.ensures ∙ ap (list_any (λ n. n == c.args.self.now.reads)) c.as_slice.ensures.value) ∙ on))
