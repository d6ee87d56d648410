-- The script that is generated, list behind list, and how its replies are counted, one by one.
use Rattle.std.proofs.Common.{◌≡◌, ◌≢◌, ℕ, zero, suc, true, ◌+◌, ◌*◌, ◌%◌, ◌≤◌, ◌^◌, List, [], ◌∷◌, ◌++◌, length, map, Option, Some, codes, eq-eqb, ne_eqb, refl, sym, ap, ◌∙◌, subst, append-nil, append_assoc, length-append, arith}
use Rattle.std.specs.Prelude.{if◌then◌else◌, ◌==◌}
use Rattle.std.specs.Fmt.{decimal}
use Rattle.std.specs.List.{flat_map, range_with_len}
use Rattle.std.proofs.lemmas.List.{flat_map_more, map_push}
use Rattle.std.proofs.lemmas.List.Sums.{sum_by_push}
use Rattle.archives.specs.Commands.{Put, Get, HasKey, Ranges, First, Last, Sync, Reopen}
use Rattle.archives.specs.Machine.{replied}
use Rattle.archives.specs.Replies as reply
use Rattle.archives.specs.Replies.{Reply}
use Rattle.archives.specs.declared.commands.Reply as answering
use Rattle.archives.specs.declared.commands.Reply.TheVariants as answer
use Rattle.archive_service.specs.Made.{first_of, last_of, made, made_key, made_puts, made_tests, made_value, summary_text}
use Rattle.archive_service.specs.MadeCounts.{AddsReply, AreCounted, AreUpTo, index_of_reply, range_count, value_bytes, value_count, yes_count}
use Rattle.archive_service.specs.Texts.{Spelled, number_text}
use Rattle.archive_service.specs.declared.made.Counts.{Counts}

-- ---- numbers in order, and what is made of each

numbers_more : (a n j : ℕ) → a + n ≡ j → range_with_len a (suc n) ≡ range_with_len a n ++ j ∷ []
numbers_more a zero j is = let first : a ≡ j = omega (arith, is) in ap (λ k. k ∷ []) first
numbers_more a (suc n) j is = ap (λ ks. a ∷ ks) (numbers_more (a + 1) n j (omega (arith, is)))

-- what is made of one number more
pub made_more : {X : Type 0} (f : ℕ → List X) (old so_far new : List X) (i : ℕ) → so_far ≡ old ++ flat_map f (range_with_len 0 i) → new ≡ so_far ++ f i
    → new ≡ old ++ flat_map f (range_with_len 0 (i + 1))
made_more f old so_far new i is more =
    let next : i + 1 ≡ suc i = omega arith in
    more ∙ ap (λ l. l ++ f i) is ∙ flat_map_more f old (range_with_len 0 i) i
    ∙ ap (λ l. old ++ flat_map f l) (sym (ap (range_with_len 0) next ∙ numbers_more 0 i i (omega arith)))

-- ---- the script

-- one command more, as it is seen
pub seen_more : {C : Type 0} (seen : C → Spelled) (items : List C) (command : C) (text : List Spelled) (new : List C) → map seen items ≡ text → new ≡ items ++ command ∷ []
    → map seen new ≡ text ++ seen command ∷ []
seen_more seen items command text new is more = ap (map seen) more ∙ map_push seen items command ∙ ap (λ l. l ++ seen command ∷ []) is

-- behind each hundredth put stands a sync
synced : (i : ℕ) → (i + 1) % 100 ≡ 0 → made_puts i ≡ Put (2 * i) (made_key i) (made_value i) ∷ Sync ∷ []
synced i is = ap (λ there. Put (2 * i) (made_key i) (made_value i) ∷ (if there then Sync ∷ [] else [])) (eq-eqb ((i + 1) % 100) 0 is)

unsynced : (i : ℕ) → (i + 1) % 100 ≢ 0 → made_puts i ≡ Put (2 * i) (made_key i) (made_value i) ∷ []
unsynced i is = ap (λ there. Put (2 * i) (made_key i) (made_value i) ∷ (if there then Sync ∷ [] else [])) (ne_eqb ((i + 1) % 100) 0 is)

-- the put of a record, with its parts as the program makes them
pub put_is : (i index : ℕ) (key value : List ℕ) → index ≡ i → key ≡ made_key i → value ≡ made_value i → Put (index * 2) key value ≡ Put (2 * i) (made_key i) (made_value i)
put_is i index key value is k v = let twice : index * 2 ≡ 2 * i = omega (arith, is) in rw (twice, k, v) refl

abbrev pub get_at : ℕ → Spelled
get_at index = Get index

pub get_is : (i index : ℕ) → index ≡ i → get_at (index * 2) ≡ get_at (2 * i)
get_is i index is = let twice : index * 2 ≡ 2 * i = omega (arith, is) in ap get_at twice

-- the put of a record is added
module _ {C : Type 0} (seen : C → Spelled) (items pushed : List C) (put : C) (i : ℕ) (is : seen put ≡ Put (2 * i) (made_key i) (made_value i)) (one : pushed ≡ items ++ put ∷ []) where
  with_put : map seen pushed ≡ map seen items ++ Put (2 * i) (made_key i) (made_value i) ∷ []
  with_put = seen_more seen items put (map seen items) pushed refl one ∙ ap (λ x. map seen items ++ x ∷ []) is

  -- and a sync
  pub put_synced : (sync : C) (all : List C) → seen sync ≡ Sync → all ≡ pushed ++ sync ∷ [] → (i + 1) % 100 ≡ 0 → map seen all ≡ map seen items ++ made_puts i
  put_synced sync all same two due =
      seen_more seen pushed sync (map seen pushed) all refl two ∙ ap (λ x. map seen pushed ++ x ∷ []) same ∙ ap (λ l. l ++ Sync ∷ []) with_put
      ∙ append_assoc (map seen items) (Put (2 * i) (made_key i) (made_value i) ∷ []) (Sync ∷ []) ∙ ap (λ l. map seen items ++ l) (sym (synced i due))

  -- or none
  pub put_unsynced : (i + 1) % 100 ≢ 0 → map seen pushed ≡ map seen items ++ made_puts i
  put_unsynced none = with_put ∙ ap (λ l. map seen items ++ l) (sym (unsynced i none))

-- each thousandth key is asked for
module _ {C : Type 0} (seen : C → Spelled) (items : List C) (i : ℕ) where
  pub key_asked : (test : C) (all : List C) → seen test ≡ HasKey (made_key i) → all ≡ items ++ test ∷ [] → i % 1000 ≡ 0 → map seen all ≡ map seen items ++ made_tests i
  key_asked test all is one due =
      seen_more seen items test (map seen items) all refl one ∙ ap (λ x. map seen items ++ x ∷ []) is
      ∙ ap (λ there. map seen items ++ (if there then HasKey (made_key i) ∷ [] else [])) (sym (eq-eqb (i % 1000) 0 due))

  pub none_asked : i % 1000 ≢ 0 → map seen items ≡ map seen items ++ made_tests i
  none_asked none = sym (append-nil (map seen items)) ∙ ap (λ there. map seen items ++ (if there then HasKey (made_key i) ∷ [] else [])) (sym (ne_eqb (i % 1000) 0 none))

-- the lists of the script, one behind the other
pub whole_script : (n : ℕ) (puts synced opened gets tests ranges first all : List Spelled) → puts ≡ flat_map made_puts (range_with_len 0 n)
    → synced ≡ puts ++ Sync ∷ [] → opened ≡ synced ++ Reopen ∷ []
    → gets ≡ opened ++ map (λ i. Get (2 * i)) (range_with_len 0 n)
    → tests ≡ gets ++ flat_map made_tests (range_with_len 0 n)
    → ranges ≡ tests ++ Ranges ∷ [] → first ≡ ranges ++ First ∷ [] → all ≡ first ++ Last ∷ [] → all ≡ made n
whole_script n puts synced opened gets tests ranges first all is_puts is_synced is_opened is_gets is_tests is_ranges is_first is_all =
    let Ps = flat_map made_puts (range_with_len 0 n) in
    let Gs = map (λ i. Get (2 * i)) (range_with_len 0 n) in
    let Ts = flat_map made_tests (range_with_len 0 n) in
    let two : opened ≡ Ps ++ Sync ∷ Reopen ∷ [] = is_opened ∙ ap (λ l. l ++ Reopen ∷ []) is_synced ∙ append_assoc puts (Sync ∷ []) (Reopen ∷ []) ∙ ap (λ l. l ++ Sync ∷ Reopen ∷ []) is_puts in
    let three : all ≡ tests ++ Ranges ∷ First ∷ Last ∷ [] =
    is_all ∙ ap (λ l. l ++ Last ∷ []) (is_first ∙ ap (λ l. l ++ First ∷ []) is_ranges ∙ append_assoc tests (Ranges ∷ []) (First ∷ [])) ∙ append_assoc tests (Ranges ∷ First ∷ []) (Last ∷ []) in
    three ∙ ap (λ l. l ++ Ranges ∷ First ∷ Last ∷ []) (is_tests ∙ ap (λ l. l ++ Ts) (is_gets ∙ ap (λ l. l ++ Gs) two))

-- ---- its replies

-- the first of the indices with one more, and the last
first_more : (indices : List (Option ℕ)) (index : Option ℕ) → first_of (indices ++ index ∷ []) ≡ (if length indices == 0 then index else first_of indices)
first_more [] index = refl
first_more (one ∷ more) index = ap (λ none. if none then index else one) (sym (ne_eqb (length (one ∷ more)) 0 (λ e. omega (arith, e))))

last_more : (indices : List (Option ℕ)) (index : Option ℕ) → last_of (indices ++ index ∷ []) ≡ index
last_more [] index = refl
last_more (one ∷ []) index = refl
last_more (one ∷ next ∷ more) index = last_more (next ∷ more) index

-- each sum is at most a greater number too
pub up_to : (less most : ℕ) (counts : Counts) → less ≤ most → AreUpTo less counts → AreUpTo most counts
up_to less most counts le are = record {
  values = omega (arith, le, are.values);
  keys = omega (arith, le, are.keys);
  ranges = omega (arith, le, are.ranges);
  bytes = omega (arith, le, are.bytes);
  indices = omega (arith, le, are.indices);
}

-- the reply adds to no sum, and tells of no index
abbrev pub CountsForNothing : Reply (List ℕ) → Type 0
CountsForNothing r = (value_count r ≡ 0) × (yes_count r ≡ 0) × (range_count r ≡ 0) × (value_bytes r ≡ 0) × (index_of_reply r ≡ [])

-- one reply more, which adds this to each sum
module _ (old new : Counts) (r : Reply (List ℕ)) (values : new.values ≡ old.values + value_count r) (keys : new.keys ≡ old.keys + yes_count r)
    (ranges : new.ranges ≡ old.ranges + range_count r) (bytes : new.bytes ≡ old.bytes + value_bytes r)
    (one_value : value_count r ≤ 1) (one_key : yes_count r ≤ 1) (few_ranges : range_count r ≤ 2 ^ 64) (few_bytes : value_bytes r ≤ 2 ^ 64) where
  told_more : (replies : List (Reply (List ℕ))) (last : List (Option ℕ)) → index_of_reply r ≡ last → flat_map index_of_reply (replies ++ r ∷ []) ≡ flat_map index_of_reply replies ++ last
  told_more replies last is = sym (flat_map_more index_of_reply [] replies r) ∙ ap (λ l. flat_map index_of_reply replies ++ l) is

  with_it : (replies : List (Reply (List ℕ))) → AreCounted old replies → (told : List (Option ℕ)) → flat_map index_of_reply (replies ++ r ∷ []) ≡ told
      → new.indices ≡ length told → new.first ≡ first_of told → new.last ≡ last_of told → AreCounted new (replies ++ r ∷ [])
  with_it replies was told is indices first last = record {
    values = values ∙ ap (λ n. n + value_count r) was.values ∙ sym (sum_by_push value_count replies r);
    keys = keys ∙ ap (λ n. n + yes_count r) was.keys ∙ sym (sum_by_push yes_count replies r);
    ranges = ranges ∙ ap (λ n. n + range_count r) was.ranges ∙ sym (sum_by_push range_count replies r);
    bytes = bytes ∙ ap (λ n. n + value_bytes r) was.bytes ∙ sym (sum_by_push value_bytes replies r);
    indices = indices ∙ ap length (sym is);
    first = first ∙ ap first_of (sym is);
    last = last ∙ ap last_of (sym is);
  }

  grown : new.indices ≤ old.indices + 1 → (most : ℕ) → AreUpTo most old → AreUpTo (most + 2 ^ 64) new
  grown indices most was = record {
    values = omega (arith, values, was.values, one_value);
    keys = omega (arith, keys, was.keys, one_key);
    ranges = omega (arith, ranges, was.ranges, few_ranges);
    bytes = omega (arith, bytes, was.bytes, few_bytes);
    indices = omega (arith, indices, was.indices);
  }

  -- it tells of no index
  pub adds_silent : index_of_reply r ≡ [] → new.indices ≡ old.indices → new.first ≡ old.first → new.last ≡ old.last → AddsReply old r new
  adds_silent silent indices first last = record {
    counted = λ replies was.
        with_it replies was (flat_map index_of_reply replies) (told_more replies [] silent ∙ append-nil (flat_map index_of_reply replies)) (indices ∙ was.indices) (first ∙ was.first) (last ∙ was.last);
    grows = grown (omega (arith, indices));
  }

  -- it tells of one
  pub adds_index : (index : Option ℕ) → index_of_reply r ≡ index ∷ [] → new.indices ≡ old.indices + 1 → new.first ≡ (if old.indices == 0 then index else old.first) → new.last ≡ index
      → AddsReply old r new
  adds_index index tells indices first last = record {
    counted = λ replies was.
        let before = flat_map index_of_reply replies in
        with_it replies was (before ++ index ∷ []) (told_more replies (index ∷ []) tells)
        (indices ∙ ap (λ n. n + 1) was.indices ∙ sym (length-append before (index ∷ [])))
        (first ∙ ap (λ n. if n == 0 then index else old.first) was.indices ∙ ap (λ o. if length before == 0 then index else o) was.first ∙ sym (first_more before index))
        (last ∙ sym (last_more before index));
    grows = grown (omega (arith, indices));
  }

-- ---- its replies, by what each is

-- nothing was counted
pub none_up_to : (counts : Counts) → AreCounted counts [] → AreUpTo 0 counts
none_up_to counts are = record {
  values = omega (arith, are.values);
  keys = omega (arith, are.keys);
  ranges = omega (arith, are.ranges);
  bytes = omega (arith, are.bytes);
  indices = omega (arith, are.indices);
}

abbrev pub counts_of : (values keys ranges bytes indices : ℕ) → Option ℕ → Option ℕ → Counts
counts_of values keys ranges bytes indices first last = record { values = values; keys = keys; ranges = ranges; bytes = bytes; indices = indices; first = first; last = last }

module _ (old : Counts) (r : answering.Reply (List ℕ)) where
  pub adds_value : (value : List ℕ) (len : ℕ) → r ≡ answer.Value (Some value) → len ≡ length value → len ≤ 2 ^ 64
      → AddsReply old (replied (λ v. v) r) (counts_of (old.values + 1) old.keys old.ranges (old.bytes + len) old.indices old.first old.last)
  adds_value value len is size fits =
      let new = counts_of (old.values + 1) old.keys old.ranges (old.bytes + len) old.indices old.first old.last in
      subst (λ x. AddsReply old (replied (λ v. v) x) new) (sym is)
      (adds_silent old new (reply.Value (Some value)) refl (omega arith) (omega arith) (omega (arith, size)) (omega arith) (omega arith) (omega arith) (omega (arith, size, fits)) refl refl refl refl)

  pub adds_yes : r ≡ answer.Flag true → AddsReply old (replied (λ v. v) r) (counts_of old.values (old.keys + 1) old.ranges old.bytes old.indices old.first old.last)
  adds_yes is =
      let new = counts_of old.values (old.keys + 1) old.ranges old.bytes old.indices old.first old.last in
      subst (λ x. AddsReply old (replied (λ v. v) x) new) (sym is)
      (adds_silent old new (reply.Flag true) (omega arith) refl (omega arith) (omega arith) (omega arith) (omega arith) (omega arith) (omega arith) refl refl refl refl)

  pub adds_ranges : (runs : List (ℕ × ℕ)) (len : ℕ) → r ≡ answer.Ranges runs → len ≡ length runs → len ≤ 2 ^ 64
      → AddsReply old (replied (λ v. v) r) (counts_of old.values old.keys (old.ranges + len) old.bytes old.indices old.first old.last)
  adds_ranges runs len is size fits =
      let new = counts_of old.values old.keys (old.ranges + len) old.bytes old.indices old.first old.last in
      subst (λ x. AddsReply old (replied (λ v. v) x) new) (sym is)
      (adds_silent old new (reply.Ranges runs) (omega arith) (omega arith) (omega (arith, size)) (omega arith) (omega arith) (omega arith) (omega (arith, size, fits)) (omega arith) refl refl refl refl)

  pub adds_one_index : (index first : Option ℕ) → r ≡ answer.Index index → first ≡ (if old.indices == 0 then index else old.first)
      → AddsReply old (replied (λ v. v) r) (counts_of old.values old.keys old.ranges old.bytes (old.indices + 1) first index)
  adds_one_index index first is is_first =
      let new = counts_of old.values old.keys old.ranges old.bytes (old.indices + 1) first index in
      subst (λ x. AddsReply old (replied (λ v. v) x) new) (sym is)
      (adds_index old new (reply.Index index) (omega arith) (omega arith) (omega arith) (omega arith) (omega arith) (omega arith) (omega arith) (omega arith) index refl refl is_first refl)

  -- a reply that counts for nothing
  pub adds_nothing : (known : answering.Reply (List ℕ)) → r ≡ known → CountsForNothing (replied (λ v. v) known) → AddsReply old (replied (λ v. v) r) old
  adds_nothing known is (values, keys, ranges, bytes, silent) =
      subst (λ x. AddsReply old (replied (λ v. v) x) old) (sym is)
      (adds_silent old old (replied (λ v. v) known) (omega (arith, values)) (omega (arith, keys)) (omega (arith, ranges)) (omega (arith, bytes)) (omega (arith, values)) (omega (arith, keys))
      (omega (arith, ranges)) (omega (arith, bytes)) silent refl refl refl)

-- ---- the line

five_in_order : (a b c d e : List ℕ) → a ++ (b ++ (c ++ (d ++ e))) ≡ a ++ b ++ c ++ d ++ e
five_in_order a b c d e = sym (append_assoc (a ++ b ++ c) d e ∙ append_assoc (a ++ b) c (d ++ e) ∙ append_assoc a b (c ++ (d ++ e)))

in_order : (a b c d e f : List ℕ) → a ++ (b ++ (c ++ (d ++ (e ++ f)))) ≡ a ++ b ++ c ++ d ++ e ++ f
in_order a b c d e f = five_in_order a b c d (e ++ f) ∙ sym (append_assoc (a ++ b ++ c ++ d) e f)

-- the text in order, where its first pieces were joined before
pub prefix_is : (a b c d e f first g h i j text : List ℕ) → first ≡ a ++ (b ++ (c ++ (d ++ (e ++ f)))) → text ≡ first ++ (g ++ (h ++ (i ++ j)))
    → text ≡ a ++ b ++ c ++ d ++ e ++ f ++ g ++ h ++ i ++ j
prefix_is a b c d e f first g h i j text is_first is = is ∙ five_in_order first g h i j ∙ ap (λ l. l ++ g ++ h ++ i ++ j) (is_first ∙ in_order a b c d e f)

-- of these counts
pub line_is : (n : ℕ) (counts : Counts) (replies : List (Reply (List ℕ))) (text first last line : List ℕ) → AreCounted counts replies
    → text ≡ codes "made " ++ decimal n ++ codes " found " ++ decimal counts.values ++ codes " keys " ++ decimal counts.keys ++ codes " ranges " ++ decimal counts.ranges ++ codes " bytes " ++ decimal counts.bytes
    → first ≡ number_text counts.first → last ≡ number_text counts.last → line ≡ text ++ (codes " first " ++ (first ++ (codes " last " ++ (last ++ codes "\n"))))
    → line ≡ summary_text n replies
line_is n counts replies text first last line are is_text is_first is_last is =
    is ∙ in_order text (codes " first ") first (codes " last ") last (codes "\n") ∙ rw (is_text, is_first, is_last, are.values, are.keys, are.ranges, are.bytes, are.first, are.last) refl
