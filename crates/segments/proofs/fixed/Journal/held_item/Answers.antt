use Rattle.std.proofs.Common.{rules, ◌≡◌, ◌∙◌, ◌*◌, inl, inr, None, List, true, false, ℕ, length, drop, sym, ap, arith}
use Rattle.std.proofs.lemmas.List.{take_at}
use Rattle.sealed_pages.specs.Buffer.{size_of, bytes_of}
use Rattle.sealed_pages.specs.Shown.{shown}
use Rattle.sealed_pages.specs.lemmas.memory.Holding.{fit_size}
use Rattle.segments.specs.FixedItems.{item_at}
use Rattle.segments.proofs.looking.Memory.{cache_for, told_held}
use Rattle.segments.proofs.looking.ReadLemmas.{read_item}
use Rattle.segments.proofs.fixed.Journal.held_item.Goals as goal
use Rattle.blob_device.proofs.general.Numbers.{item_ends}

pub overflow_mul-offset : goal.overflow_mul-offset
overflow_mul-offset g c = omega (arith, item_ends g.A.CodecFixed.SIZE (size_of (shown c.args.buffer.now)) c.args.position c.requires, fit_size _ _ _ _ c.args.buffer.now.fit, ap (λ (n : ℕ). c.args.position * n) c.SIZE-2.ensures)

pub returns-then-not-try_read_held-clause-none : goal.returns-then-not-try_read_held-clause-none
returns-then-not-try_read_held-clause-none g c none held content backed =
    let u = c.args.buffer.now in
    let long : length c.as_mut_slice.result.now ≡ g.A.CodecFixed.SIZE = search rules in
    let told = told_held (shown u) g.A.CodecFixed.SIZE c.args.position (c.args.position * c.SIZE-2.result) (length c.as_mut_slice.result.now) (ap (λ (n : ℕ). c.args.position * n) c.SIZE-2.ensures) long
    (omega (arith, u.fit.begun)) (item_ends g.A.CodecFixed.SIZE (size_of (shown u)) c.args.position c.requires) c.try_read_held.result c.try_read_held.ensures.held in
    let no : c.try_read_held.result ≡ false = search rules in
    absurd (cc (sym no ∙ told ∙ held))

pub returns-in-Ok-clause-item : goal.returns-in-Ok-clause-item
returns-in-Ok-clause-item g c v is =
    let u = c.args.buffer.now in
    let at : c.args.position * c.SIZE-2.result ≡ c.args.position * g.A.CodecFixed.SIZE = ap (λ (n : ℕ). c.args.position * n) c.SIZE-2.ensures in
    let long : length c.as_mut_slice.result.now ≡ g.A.CodecFixed.SIZE = search rules in
    let told = told_held (shown u) g.A.CodecFixed.SIZE c.args.position (c.args.position * c.SIZE-2.result) (length c.as_mut_slice.result.now) at long
    (omega (arith, u.fit.begun)) (item_ends g.A.CodecFixed.SIZE (size_of (shown u)) c.args.position c.requires) c.try_read_held.result c.try_read_held.ensures.held in
    let yes : c.try_read_held.result ≡ true = search rules in
    let same : c.in-Ok.item ≡ v = cc is in (
      sym told ∙ yes,
      λ content backed. record {
        spelled = (let whole : length c.try_read_held.new.buf ≡ c.in_ok-bytes.bytes.len = search rules in let spelled : g.A.Codec.spelling c.in-Ok.item ≡ c.try_read_held.new.buf = c.in-Ok.ensures.spelled ∙ c.as_slice.ensures.value ∙ take_at c.try_read_held.new.buf (drop (length c.try_read_held.new.buf) c.in_ok-bytes.bytes.items) c.in_ok-bytes.bytes.len whole in ap g.A.Codec.spelling (sym same) ∙ spelled
            ∙ read_item u.page_size u.first g.A.CodecFixed.SIZE c.args.position (c.args.position * c.SIZE-2.result) (length c.as_mut_slice.result.now) at long c.try_read_held.new.buf (bytes_of (shown u) content) (c.try_read_held.ensures.bytes yes content (cache_for g.S.Seal.seal_of content (shown u) g.A.CodecFixed.SIZE c.args.position (c.args.position * c.SIZE-2.result) (length c.as_mut_slice.result.now) at long backed)));
        allowed = rw (← same) c.in-Ok.ensures.allowed;
      },
    )

pub returns-clause-none : goal.returns-clause-none
returns-clause-none g c none held content cache ok =
    let u = c.args.buffer.now in
    let at : c.args.position * c.SIZE-2.result ≡ c.args.position * g.A.CodecFixed.SIZE = ap (λ (n : ℕ). c.args.position * n) c.SIZE-2.ensures in
    let long : length c.as_mut_slice.result.now ≡ g.A.CodecFixed.SIZE = search rules in
    let yes : c.try_read_held.result ≡ true = search rules in
    let whole : length c.try_read_held.new.buf ≡ c.in_ok-bytes.bytes.len = search rules in
    let stand : c.as_slice.result.now ≡ item_at g.A.CodecFixed.SIZE (bytes_of (shown u) content) c.args.position =
    c.as_slice.ensures.value ∙ take_at c.try_read_held.new.buf (drop (length c.try_read_held.new.buf) c.in_ok-bytes.bytes.items) c.in_ok-bytes.bytes.len whole
    ∙ read_item u.page_size u.first g.A.CodecFixed.SIZE c.args.position (c.args.position * c.SIZE-2.result) (length c.as_mut_slice.result.now) at long c.try_read_held.new.buf (bytes_of (shown u) content)
    (c.try_read_held.ensures.bytes yes content (cache_for g.S.Seal.seal_of content (shown u) g.A.CodecFixed.SIZE c.args.position (c.args.position * c.SIZE-2.result) (length c.as_mut_slice.result.now) at long cache)) in
    elim c.in-Err.ensures.refused [
      | inl memory ↦ absurd (c.in_default.not-Mem memory)
      | inr refused ↦ (let fine : g.A.Codec.refusal c.as_slice.result.now tt ≡ None = ap (λ (l : List ℕ). g.A.Codec.refusal l tt) stand ∙ ok in absurd (cc (refused, fine)))
    ]
