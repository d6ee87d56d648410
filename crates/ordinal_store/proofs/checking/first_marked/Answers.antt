use Rattle.std.proofs.Common.{◌∙◌, Bool, Option, inl, inr, false, ap, arith}
use Rattle.std.specs.Prelude.{unwrap_or}
use Rattle.std.proofs.lemmas.Bool.{cases_eq, cases_lt}
use Rattle.std.proofs.lemmas.Option.{slice_get_past}
use Rattle.ordinal_store.specs.Mending.{is_marked}
use Rattle.ordinal_store.proofs.checking.first_marked.Goals as goal

pub returns-then-get : goal.returns-then-get
returns-then-get c = record {
  after = c.loop-position.invariant.from;
  marked = ap (λ (b : Option Bool). unwrap_or b false) c.if-get.ensures;
  first = c.loop-position.invariant.none;
}

pub loop-position-preserved : goal.loop-position-preserved
loop-position-preserved c = record {
  from = omega (arith, c.loop-position.invariant.from);
  none = λ q after below. elim (cases_eq q c.loop-position.position) [
    | inl here ↦ ap (is_marked c.args.bits.now) here ∙ ap (λ (b : Option Bool). unwrap_or b false) c.if-get.ensures
    | inr other ↦ c.loop-position.invariant.none q after (omega (arith, below, other))
  ];
}

pub returns : goal.returns
returns c = λ p after. elim (cases_lt p c.loop-position.position) [
  | inl below ↦ c.loop-position.invariant.none p after below
  | inr past ↦ ap (λ (b : Option Bool). unwrap_or b false) (slice_get_past c.args.bits.now p (omega (arith, past, c.loop-position-test.false, c.len-position-end.ensures)))
]
