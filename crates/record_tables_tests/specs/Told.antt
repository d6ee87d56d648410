-- Tables that were told of records with keys, where a word is the key modulo 4.
use Rattle.std.specs.Prelude.{ℕ, ◌%◌, nat_eq}
use Rattle.record_tables.specs.Tables.{AreInOrder, HaveWords}
use Rattle.record_tables_tests.specs.declared.both.Both.{Both}

-- the word of a key
abbrev pub word_of : ℕ → ℕ
word_of key = key % 4

-- Steps go on with these tables.
pub record AreTold (b : Both) : Type 0 where
  -- lookups by index are answered
  pub order : AreInOrder (λ _. ⊥) b.tables
  -- and so are those by word
  pub words : HaveWords nat_eq word_of b.tables
