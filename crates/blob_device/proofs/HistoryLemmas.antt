-- How a history goes on over one change.
use Rattle.std.proofs.Common.{◌≡◌, ℕ, ◌/◌, min, max, Bool, true, false, cond, List, [], ◌∷◌, ◌++◌, length, take, refl, sym, ◌∙◌, ap, subst, arith}
use Rattle.blob_device.specs.declared.memory.history.History.{History}
use Rattle.blob_device.specs.Disk.{Blob, settled_at, shortest, longest}
use Rattle.blob_device.specs.Change.{Make, Write, during, done, written}
use Rattle.blob_device.specs.Calls.{result_of}
use Rattle.blob_device.specs.Histories.{IsHistory}
use Rattle.blob_device.specs.Lengths.{greatest_push, least_push}

-- one content more
pub less : (b : Blob) (whole : List ℕ) (n m : ℕ) → n ≡ shortest b → m ≡ length whole → min n m ≡ shortest (record b { since = b.since ++ whole ∷ [] })
less b whole n m is size = omega (arith, is, size, least_push (length b.settled) b.since whole)

pub more : (b : Blob) (whole : List ℕ) (n m : ℕ) → n ≡ longest b → m ≡ length whole → max n m ≡ longest (record b { since = b.since ++ whole ∷ [] })
more b whole n m is size = omega (arith, is, size, greatest_push (length b.settled) b.since whole)

pub history_made : (h h' : History) (b : Blob) → IsHistory h b → h.there ≡ false → h'.there ≡ h.there → h'.unsure ≡ true → h'.content.items ≡ [] → h'.settled ≡ h.settled → h'.shortest ≡ min h.shortest 0 → h'.longest ≡ max h.longest 0 → h'.loose ≡ h.loose
    → IsHistory h' (during Make b)
history_made h h' b is gone there unsure content settled short long loose =
    let absent : b.there ≡ false = sym is.is_there ∙ gone in
    subst (IsHistory h') (sym (ap (λ (v : Bool). cond v b (record b { content = []; unsure = true; since = b.since ++ [] ∷ [] })) absent)) (record {
      is_there = there ∙ is.is_there;
      is_unsure = unsure;
      reads_as = content;
      settled_as = ap (λ v. v.items) settled ∙ is.settled_as;
      least_is = short ∙ less b [] h.shortest 0 is.least_is refl;
      greatest_is = long ∙ more b [] h.longest 0 is.greatest_is refl;
      loose_are = ap (λ v. v.items) loose ∙ is.loose_are;
    })

pub history_stays : (h : History) (b : Blob) → IsHistory h b → h.there ≡ true → IsHistory h (during Make b)
history_stays h b is there = subst (IsHistory h) (sym (ap (λ (v : Bool). cond v b (record b { content = []; unsure = true; since = b.since ++ [] ∷ [] })) (sym is.is_there ∙ there))) is

pub settled_made : (h : History) (b : Blob) → IsHistory h (during Make b) → settled_at h.content.items ≡ done Make b
settled_made h b is = ap settled_at (is.reads_as ∙ same b.there)
  where
    same : (v : Bool) → (cond v b (record b { content = []; unsure = true; since = b.since ++ [] ∷ [] })).content ≡ cond v b.content []
    same true = refl
    same false = refl

pub result_write : (at : ℕ) (bytes : List ℕ) (f : Bool) (b : Blob) → record (during (Write at bytes) b) { content = written b.content at (cond f (take (length bytes / 2) bytes) bytes) } ≡ result_of (Write at bytes) f b
result_write at bytes true b = refl
result_write at bytes false b = refl

-- a write or a resize began
pub history_begun : (h h' : History) (b : Blob) (whole c : List ℕ) (loose : List (ℕ × ℕ)) (len : ℕ) → IsHistory h b → h'.there ≡ h.there → h'.unsure ≡ h.unsure → h'.content.items ≡ c → h'.settled ≡ h.settled
    → h'.shortest ≡ min h.shortest len → h'.longest ≡ max h.longest len → h'.loose.items ≡ loose → len ≡ length whole → IsHistory h' (record b { content = c; since = b.since ++ whole ∷ []; loose = loose })
history_begun h h' b whole c l len is there unsure content settled short long loose size = record {
  is_there = there ∙ is.is_there;
  is_unsure = unsure ∙ is.is_unsure;
  reads_as = content;
  settled_as = ap (λ v. v.items) settled ∙ is.settled_as;
  least_is = short ∙ less b whole h.shortest len is.least_is size;
  greatest_is = long ∙ more b whole h.longest len is.greatest_is size;
  loose_are = loose;
}
