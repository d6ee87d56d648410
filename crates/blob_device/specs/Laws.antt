-- What holds of each blob of a device in memory. The laws of the trait are proved by these.
use Rattle.std.specs.Prelude.{◌≡◌, ◌||◌, ◌&&◌, ℕ, ◌+◌, ◌*◌, ◌/◌, ◌<◌, ◌≤◌, ◌-◌, max, Bool, true, false, cond, not, leb, ltb, List, [], ◌∷◌, ◌++◌, length, take, drop, replicate, Option, Some, None, is_some, IsTrue, IfSome}
use Rattle.std.proofs.Common.{refl, sym, ◌∙◌, ap, subst, arith, length-take, zero, suc}
use Rattle.std.specs.List.{list_all}
use Rattle.std.specs.Option.{option_map}
use Rattle.std.proofs.lemmas.Bool.{and_parts}
use Rattle.std.proofs.lemmas.Bool.Decides.{Decides-ltb, nat_tests}
use Rattle.blob_device.specs.declared.memory.blob_log.Call.{Call}
use Rattle.blob_device.specs.Disk.{Key, Blob, settled_at, shortest, longest, least, greatest, AreBytes, HoldsBytes, PastAgrees, AbsentIsNothing, MayLeave, reads, begun}
use Rattle.blob_device.specs.Change.{Change, Make, Write, Resize, Settle, Remove, Look, during, written, resized}
use Rattle.blob_device.specs.Timeline.{disk}
use Rattle.blob_device.specs.Opened.{Opened}
pub use Rattle.blob_device.specs.Agreeing.{all_added}
use Rattle.blob_device.specs.Agreeing.{agrees_now}
use Rattle.blob_device.specs.Lengths.{length-written, least_push, greatest_push}
use Rattle.blob_device.specs.Calls.{change_of, result_of, after, replay, blob_at, now, Track, timeline_of, entry_of, all_bytes, writes_bytes, starts_with_bytes, IsSound}

pub is_leb : (m n : ℕ) → m ≤ n → leb m n ≡ true
is_leb m n le = grind (arith, nat_tests)

pub not_leb : (m n : ℕ) → n < m → leb m n ≡ false
not_leb m n gt = grind (arith, nat_tests)

-- a moment past one call
pub blob_at-past : (x : Call) (cs : List Call) (b : Blob) (m : ℕ) → 2 * x.number + 1 < m → blob_at (x ∷ cs) b m ≡ blob_at cs (after x b) m
unfolding blob_at
blob_at-past x cs b m gt =
    ap (λ (v : Bool). cond v b (cond (leb m (2 * x.number + 1)) (during (change_of x.step) b) (blob_at cs (after x b) m))) (not_leb m (2 * x.number) (omega arith))
    ∙ ap (λ (v : Bool). cond v (during (change_of x.step) b) (blob_at cs (after x b) m)) (not_leb m (2 * x.number + 1) gt)

-- each call comes before call number n
abbrev pub all_below : ℕ → List Call → Bool
all_below n cs = list_all (λ (c : Call). ltb c.number n) cs

pub below_head : (n : ℕ) (x : Call) (cs : List Call) → all_below n (x ∷ cs) ≡ true → (x.number < n) × (all_below n cs ≡ true)
below_head n x cs below = let parts = and_parts (ltb x.number n) (all_below n cs) below in ((Decides-ltb x.number n).0 parts.0, parts.1)

-- past all the calls
pub blob_at-now : (cs : List Call) (b : Blob) (n m : ℕ) → all_below n cs ≡ true → 2 * n ≤ m → blob_at cs b m ≡ replay cs b
unfolding blob_at replay
blob_at-now [] b n m below le = refl
blob_at-now (x ∷ cs) b n m below le =
    let parts = below_head n x cs below in
    blob_at-past x cs b m (omega (arith, parts.0)) ∙ blob_at-now cs (after x b) n m parts.1 le

-- what the blob reads as is no shorter and no longer than a crash may leave it
pub record Between (b : Blob) : Type 0 where
  pub low : shortest b ≤ length b.content
  pub high : length b.content ≤ longest b

between_settled : (c : List ℕ) → Between (settled_at c)
between_settled c = record { low = omega arith; high = omega arith }

between_pushed : (b : Blob) (whole c : List ℕ) (b' : Blob) → Between b → b'.settled ≡ b.settled → b'.since ≡ b.since ++ whole ∷ [] → b'.content ≡ c → length b.content ≤ length c → length c ≤ max (length b.content) (length whole) → Between b'
between_pushed b whole c b' was s1 s2 s3 ge le = record {
  low = omega (arith, was.low, ge, ap length s3, ap (λ (l : List (List ℕ)). least (length b'.settled) l) s2, ap (λ (l : List ℕ). least (length l) (b.since ++ whole ∷ [])) s1, least_push (length b.settled) b.since whole);
  high = omega (arith, was.high, le, ap length s3, ap (λ (l : List (List ℕ)). greatest (length b'.settled) l) s2, ap (λ (l : List ℕ). greatest (length l) (b.since ++ whole ∷ [])) s1, greatest_push (length b.settled) b.since whole);
}

made_between : (b : Blob) → Between b → (v : Bool) → Between (cond v b (record b { content = []; unsure = true; since = b.since ++ [] ∷ [] }))
made_between b was true = was
made_between b was false = record { low = omega (arith, least_push (length b.settled) b.since []); high = omega arith }

between_result : (change : Change) (f : Bool) (b : Blob) → Between b → Between (result_of change f b)
between_result Make true b was = made_between b was b.there
between_result Make false b was = between_settled _
between_result (Write at bytes) true b was = between_pushed b (written b.content at bytes) (written b.content at (take (length bytes / 2) bytes)) _ was refl refl refl
    (omega (arith, length-written b.content at (take (length bytes / 2) bytes)))
    (omega (arith, length-written b.content at (take (length bytes / 2) bytes), length-written b.content at bytes, length-take (length bytes / 2) bytes))
between_result (Write at bytes) false b was = between_pushed b (written b.content at bytes) (written b.content at bytes) _ was refl refl refl
    (omega (arith, length-written b.content at bytes)) (omega arith)
between_result (Resize n) true b was = between_pushed b (resized b.content n) b.content _ was refl refl refl (omega arith) (omega arith)
between_result (Resize n) false b was = record {
  low = omega (arith, least_push (length b.settled) b.since (resized b.content n));
  high = omega (arith, greatest_push (length b.settled) b.since (resized b.content n));
}
between_result Settle true b was = was
between_result Settle false b was = between_settled _
between_result Remove true b was = record { low = was.low; high = was.high }
between_result Remove false b was = record { low = omega arith; high = omega arith }
between_result Look true b was = was
between_result Look false b was = was

between_replay : (cs : List Call) (b : Blob) → Between b → Between (replay cs b)
unfolding replay
between_replay [] b was = was
between_replay (c ∷ cs) b was = between_replay cs (after c b) (between_result (change_of c.step) c.failed b was)

between_begun : (start : Option (List ℕ)) → Between (begun start)
between_begun None = record { low = omega arith; high = omega arith }
between_begun (Some c) = between_settled c

-- lists of bytes
bytes_append : (xs ys : List ℕ) → AreBytes xs → AreBytes ys → AreBytes (xs ++ ys)
bytes_append [] ys all more = more
bytes_append (x ∷ xs) ys all more = (all.0, bytes_append xs ys all.1 more)

bytes_take : (n : ℕ) (xs : List ℕ) → AreBytes xs → AreBytes (take n xs)
bytes_take zero xs all = tt
bytes_take (suc n) [] all = tt
bytes_take (suc n) (x ∷ xs) all = (all.0, bytes_take n xs all.1)

bytes_drop : (n : ℕ) (xs : List ℕ) → AreBytes xs → AreBytes (drop n xs)
bytes_drop zero xs all = all
bytes_drop (suc n) [] all = tt
bytes_drop (suc n) (x ∷ xs) all = bytes_drop n xs all.1

bytes_zeros : (n : ℕ) → AreBytes (replicate n 0)
bytes_zeros zero = tt
bytes_zeros (suc n) = (omega arith, bytes_zeros n)

pub bytes_written : (old : List ℕ) (at : ℕ) (bytes : List ℕ) → AreBytes old → AreBytes bytes → AreBytes (written old at bytes)
bytes_written old at bytes all more = bytes_append (take at old ++ replicate (at - length old) 0 ++ bytes) (drop (at + length bytes) old)
    (bytes_append (take at old ++ replicate (at - length old) 0) bytes (bytes_append (take at old) (replicate (at - length old) 0) (bytes_take at old all) (bytes_zeros (at - length old))) more)
    (bytes_drop (at + length bytes) old all)

pub bytes_resized : (old : List ℕ) (n : ℕ) → AreBytes old → AreBytes (resized old n)
bytes_resized old n all = bytes_append (take n old) (replicate (n - length old) 0) (bytes_take n old all) (bytes_zeros (n - length old))

pub bytes_tested : (c : List ℕ) → all_bytes c ≡ true → AreBytes c
bytes_tested [] all = tt
bytes_tested (x ∷ xs) all = let parts = and_parts (ltb x 256) (all_bytes xs) all in ((Decides-ltb x 256).0 parts.0, bytes_tested xs parts.1)

holds_settled : (c : List ℕ) → AreBytes c → HoldsBytes (settled_at c)
holds_settled c all = record { content = all; past = (all, tt) }

holds_made : (b : Blob) → HoldsBytes b → (v : Bool) → HoldsBytes (cond v b (record b { content = []; unsure = true; since = b.since ++ [] ∷ [] }))
holds_made b was true = was
holds_made b was false = record { content = tt; past = (was.past.0, all_added AreBytes b.since [] was.past.1 tt) }

made_bytes : (b : Blob) → HoldsBytes b → (v : Bool) → AreBytes (cond v b.content [])
made_bytes b was true = was.content
made_bytes b was false = tt

holds_result : (change : Change) (f : Bool) (b : Blob) → writes_bytes change ≡ true → HoldsBytes b → HoldsBytes (result_of change f b)
holds_result Make true b w was = holds_made b was b.there
holds_result Make false b w was = holds_settled _ (made_bytes b was b.there)
holds_result (Write at bytes) true b w was = record {
  content = bytes_written b.content at (take (length bytes / 2) bytes) was.content (bytes_take (length bytes / 2) bytes (bytes_tested bytes w));
  past = (was.past.0, all_added AreBytes b.since (written b.content at bytes) was.past.1 (bytes_written b.content at bytes was.content (bytes_tested bytes w)));
}
holds_result (Write at bytes) false b w was = record {
  content = bytes_written b.content at bytes was.content (bytes_tested bytes w);
  past = (was.past.0, all_added AreBytes b.since (written b.content at bytes) was.past.1 (bytes_written b.content at bytes was.content (bytes_tested bytes w)));
}
holds_result (Resize n) true b w was = record { content = was.content; past = (was.past.0, all_added AreBytes b.since (resized b.content n) was.past.1 (bytes_resized b.content n was.content)) }
holds_result (Resize n) false b w was = record { content = bytes_resized b.content n was.content; past = (was.past.0, all_added AreBytes b.since (resized b.content n) was.past.1 (bytes_resized b.content n was.content)) }
holds_result Settle true b w was = was
holds_result Settle false b w was = holds_settled _ was.content
holds_result Remove true b w was = record { content = was.content; past = was.past }
holds_result Remove false b w was = record { content = tt; past = (tt, tt) }
holds_result Look true b w was = was
holds_result Look false b w was = was

holds_replay : (cs : List Call) (b : Blob) → list_all (λ (c : Call). writes_bytes (change_of c.step)) cs ≡ true → HoldsBytes b → HoldsBytes (replay cs b)
unfolding replay
holds_replay [] b all was = was
holds_replay (c ∷ cs) b all was =
    let parts = and_parts (writes_bytes (change_of c.step)) (list_all (λ (d : Call). writes_bytes (change_of d.step)) cs) all in
    holds_replay cs (after c b) parts.1 (holds_result (change_of c.step) c.failed b parts.0 was)

holds_begun : (start : Option (List ℕ)) → starts_with_bytes start ≡ true → HoldsBytes (begun start)
holds_begun None all = record { content = tt; past = (tt, tt) }
holds_begun (Some c) all = holds_settled c (bytes_tested c all)

-- the disk now
pub disk_now : (tracks : Key → Track) (n : ℕ) (k : Key) → IsSound n (tracks k) → disk (timeline_of tracks n) k ≡ now (tracks k)
disk_now tracks n k sound = blob_at-now (tracks k).calls (begun (tracks k).start) n (2 * n) sound.below (omega arith)

pub now_holds_bytes : (n : ℕ) (t : Track) → IsSound n t → HoldsBytes (now t)
now_holds_bytes n t sound = holds_replay t.calls (begun t.start) sound.bytes (holds_begun t.start sound.start)

pub now_between : (t : Track) → Between (now t)
now_between t = between_replay t.calls (begun t.start) (between_begun t.start)

there_if_open : (r : Option ℕ) (v : Bool) (len : ℕ) → (is_some r && not v) ≡ false → IfSome (option_map (λ (n : ℕ). record { len = len; reads = n }) r) (λ (o : Opened). IsTrue v × (len ≡ o.len))
there_if_open None v len is = tt
there_if_open (Some r) true len is = (refl, refl)
there_if_open (Some r) false len is = absurd (cc is)

pub opened_stands : (tracks : Key → Track) (n : ℕ) (k : Key) → IsSound n (tracks k) → IfSome (entry_of (tracks k)) (λ o. IsTrue (disk (timeline_of tracks n) k).there × (length (disk (timeline_of tracks n) k).content ≡ o.len))
opened_stands tracks n k sound =
    subst (λ (b : Blob). IfSome (entry_of (tracks k)) (λ o. IsTrue b.there × (length b.content ≡ o.len))) (sym (disk_now tracks n k sound))
    (there_if_open (tracks k).reads (now (tracks k)).there (length (now (tracks k)).content) sound.open_there)

pub holds_bytes : (tracks : Key → Track) (n : ℕ) (k : Key) → IsSound n (tracks k) → HoldsBytes (disk (timeline_of tracks n) k)
holds_bytes tracks n k sound = subst HoldsBytes (sym (disk_now tracks n k sound)) (now_holds_bytes n (tracks k) sound)

as_read_blob : (b : Blob) (v : Bool) → b.there ≡ v → Between b → AreBytes b.content → MayLeave b (cond v (Some b.content) None)
as_read_blob b true is lengths bytes = (ap (λ (w : Bool). w || b.unsure) is, record { no_shorter = lengths.low; no_longer = lengths.high; kept = λ i lt out. refl; bytes = bytes })
as_read_blob b false is lengths bytes = ap (λ (w : Bool). not w || b.unsure) is

pub as_read : (tracks : Key → Track) (n : ℕ) (k : Key) → IsSound n (tracks k) → MayLeave (disk (timeline_of tracks n) k) (reads (disk (timeline_of tracks n) k))
as_read tracks n k sound = subst (λ (b : Blob). MayLeave b (reads b)) (sym (disk_now tracks n k sound))
    (as_read_blob (now (tracks k)) (now (tracks k)).there refl (now_between (tracks k)) (now_holds_bytes n (tracks k) sound).content)

pub past_agrees : (tracks : Key → Track) (n : ℕ) (k : Key) → IsSound n (tracks k) → PastAgrees (disk (timeline_of tracks n) k)
past_agrees tracks n k sound = subst PastAgrees (sym (disk_now tracks n k sound)) (agrees_now (tracks k))

pub absent : (tracks : Key → Track) (n : ℕ) (k : Key) → IsSound n (tracks k) → AbsentIsNothing (disk (timeline_of tracks n) k)
absent tracks n k sound = subst AbsentIsNothing (sym (disk_now tracks n k sound)) sound.absent
