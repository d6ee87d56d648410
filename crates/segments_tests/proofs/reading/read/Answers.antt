use Rattle.std.proofs.Common.{◌≡◌, ◌<◌, ℕ, Less, sym, arith}
use Rattle.std.specs.List.Sorted.{IsStrictlySortedBy}
use Rattle.std.specs.Ordering.{nat_cmp}
use Rattle.std.specs.Cmp.{nat_cmp_is}
use Rattle.segments_tests.proofs.reading.read.Goals as goal

-- a number below another one compares as less
less : (a b : ℕ) → a < b → nat_cmp a b ≡ Less
less a b below = sym (nat_cmp_is a b Less below)

pub read_many-requires-clause-ascending : goal.read_many-requires-clause-ascending
unfolding IsStrictlySortedBy
read_many-requires-clause-ascending c =
    let a_b : c.in-Some-Some-Some.a < c.in-Some-Some-Some.b = c.if-a-b.true in
    let b_c : c.in-Some-Some-Some.b < c.in-Some-Some-Some.c = c.if-b-c.true in
    ((less c.in-Some-Some-Some.a c.in-Some-Some-Some.b a_b, (less c.in-Some-Some-Some.a c.in-Some-Some-Some.c (omega arith), tt)), ((less c.in-Some-Some-Some.b c.in-Some-Some-Some.c b_c, tt), (tt, tt)))

pub read_many-requires-in-Some-Some-None-clause-ascending : goal.read_many-requires-in-Some-Some-None-clause-ascending
unfolding IsStrictlySortedBy
read_many-requires-in-Some-Some-None-clause-ascending c = ((less c.in-Some-Some-None.a c.in-Some-Some-None.b c.if-a-b-2.true, tt), (tt, tt))

pub read_many-requires-in_default-2-clause-ascending : goal.read_many-requires-in_default-2-clause-ascending
unfolding IsStrictlySortedBy
read_many-requires-in_default-2-clause-ascending c = tt
