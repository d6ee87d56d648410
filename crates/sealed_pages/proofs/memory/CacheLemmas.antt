-- Pages that are held in memory: what a look-up finds, and what stays when pages are put.
use Rattle.std.proofs.Common.{◌≡◌, inl, inr, ℕ, zero, suc, ◌+◌, ◌-◌, ◌*◌, ◌/◌, ◌<◌, ◌≤◌, Bool, true, false, cond, List, [], ◌∷◌, ◌++◌, length, get_or, take, drop, map, nat_eq, Option, Some, None, Vec, refl, sym, ◌∙◌, ap, subst, arith, length-take, length-drop, length-append}
use Rattle.std.specs.declared.alloc.Global.{Global}
use Rattle.std.specs.List.{list_any}
use Rattle.std.specs.Map.{lookup, lookup_entry, remove_entry, keys_of}
use Rattle.std.specs.Option.{option_map, option_map_or, is_some, ForSome}
use Rattle.std.proofs.lemmas.Map.Made.{is_some-lookup}
use Rattle.std.proofs.lemmas.Bool.{ne_eqb, cases_lt}
use Rattle.std.proofs.lemmas.List.{take-map, take-take, length-map, get_or-take, get_or-drop}
use Rattle.sealed_pages.specs.View.{view, page_at}
use Rattle.std.proofs.lemmas.List.Elements.{All-head, All-tail, All-append, All-take, All-cons, All-nil}
use Rattle.lru.specs.LruCache.{LruCache, lru_cache, put_entries}
use Rattle.std.proofs.lemmas.Map.Entries.{length-keys_of}
use Rattle.std.proofs.lemmas.List.{take_all, map-append, drop-drop, take-append-le}
use Rattle.std.proofs.lemmas.Nat.{div-mul-add}
use Rattle.std.proofs.Math.Nat.{div-mul-le_self, lt-div-mul-add}
use Rattle.sealed_pages.specs.Buffer.{Buffer, cached, AddsPages}
use Rattle.sealed_pages.specs.declared.cache.PageCache.{PageCache}
use Rattle.sealed_pages.specs.Cached.{entries_of, held_in, PutsFull, pages_down, full_pages, uncached, AreFull, AreWhole, IsCachedOf, AreCachedOf}
use Rattle.blob_device.proofs.general.Numbers.{times_next}
use Rattle.sealed_pages.specs.lemmas.memory.Cache.{found_has}

-- a page in a map, with its data bytes
abbrev pub page_entry : ℕ × Vec ℕ Global → ℕ × List ℕ
page_entry e = (e.0, e.1.items)

-- a page with a greater number than all is not among them
none_entry : (P k : ℕ) (es : List (ℕ × Vec ℕ Global)) → AreFull P k (map page_entry es) → lookup_entry (nat_eq k) es ≡ None
none_entry P k [] all = refl
none_entry P k (e ∷ es) all =
    let less : e.0 < k = (All-head (λ (x : ℕ × List ℕ). (x.0 < k) × (length x.1 ≡ P)) (page_entry e) (map page_entry es) all).0 in
    let differ : nat_eq k e.0 ≡ false = ne_eqb k e.0 (λ same. omega (arith, less, same)) in
    ap (λ (t : Bool). cond t (Some e) (lookup_entry (nat_eq k) es)) differ ∙ none_entry P k es (All-tail (λ (x : ℕ × List ℕ). (x.0 < k) × (length x.1 ≡ P)) (page_entry e) (map page_entry es) all)

take_cons : {X : Type 0} (n : ℕ) (x : X) (xs : List X) → 0 < n → take n (x ∷ xs) ≡ x ∷ take (n - 1) xs
take_cons zero x xs some = absurd (omega (arith, some))
take_cons (suc n) x xs some = let e : suc n - 1 ≡ n = omega arith in ap (λ (m : ℕ). x ∷ take m xs) (sym e)

-- what a map holds once a page was put, whose number is greater than all
pub put_shown : (m n : LruCache ℕ (Vec ℕ Global)) (P cap page : ℕ) (v : Vec ℕ Global) (held : List (ℕ × List ℕ)) (bytes : List ℕ) → n ≡ lru_cache (put_entries nat_eq m page v) m.cap
    → m.cap ≡ cap → 0 < cap → entries_of (Some m) ≡ held → v.items ≡ bytes → AreFull P page held → entries_of (Some n) ≡ take cap ((page, bytes) ∷ held)
put_shown m n P cap page v held bytes is size some shown same full =
    let none : lookup_entry (nat_eq page) m.entries ≡ None = none_entry P page m.entries (subst (λ (l : List (ℕ × List ℕ)). AreFull P page l) (sym shown) full) in
    let put : put_entries nat_eq m page v ≡ (page, v) ∷ take (m.cap - 1) m.entries = ap (λ (o : Option (ℕ × Vec ℕ Global)). option_map_or (λ e. (e.0, v) ∷ remove e m page) o ((page, v) ∷ take (m.cap - 1) m.entries)) none in
    ap (λ (c : LruCache ℕ (Vec ℕ Global)). map page_entry c.entries) is ∙ ap (map page_entry) put
    ∙ (λ t. (page, same t) ∷ sym (take-map page_entry (m.cap - 1) m.entries) t)
    ∙ (λ t. (page, bytes) ∷ take (size t - 1) (shown t))
    ∙ sym (take_cons cap (page, bytes) held some)
  where
    remove : ℕ × Vec ℕ Global → LruCache ℕ (Vec ℕ Global) → ℕ → List (ℕ × Vec ℕ Global)
    remove e m page = remove_entry (nat_eq page) m.entries

pub held_most : (n : LruCache ℕ (Vec ℕ Global)) (cap page : ℕ) (held : List (ℕ × List ℕ)) (bytes : List ℕ) → entries_of (Some n) ≡ take cap ((page, bytes) ∷ held) → length n.entries ≤ cap
held_most n most page held bytes is = omega (arith, length-map n.entries page_entry, ap length is, length-take most ((page, bytes) ∷ held))

-- the data bytes of a page
pub found_page : (k : ℕ) (es : List (ℕ × Vec ℕ Global)) → lookup (nat_eq k) (map page_entry es) ≡ option_map (λ v. v.items) (lookup (nat_eq k) es)
found_page k [] = refl
found_page k (e ∷ es) = by_test (nat_eq k e.0) (found_page k es)
  where
    by_test : (t : Bool) → lookup (nat_eq k) (map page_entry es) ≡ option_map (λ v. v.items) (lookup (nat_eq k) es)
        → cond t (Some e.1.items) (lookup (nat_eq k) (map page_entry es)) ≡ option_map (λ (v : Vec ℕ Global). v.items) (cond t (Some e.1) (lookup (nat_eq k) es))
    by_test true rest = refl
    by_test false rest = rest

pub full_whole : (P first : ℕ) (es : List (ℕ × List ℕ)) → AreFull P first es → AreWhole P es
full_whole P first es full k d lt = (full k d lt).1

pub full_later : (P first more : ℕ) (es : List (ℕ × List ℕ)) → first ≤ more → AreFull P first es → AreFull P more es
full_later P first more es le full k d lt = (omega (arith, le, (full k d lt).0), (full k d lt).1)

-- what a look-up in the map tells of the pages
pub found_in : (pages : Option (LruCache ℕ (Vec ℕ Global))) (m : LruCache ℕ (Vec ℕ Global)) (k : ℕ) (r : Option (Vec ℕ Global)) → pages ≡ Some m → r ≡ lookup (nat_eq k) m.entries
    → option_map (λ v. v.items) r ≡ lookup (nat_eq k) (entries_of pages)
found_in pages m k r is found = ap (option_map (λ (v : Vec ℕ Global). v.items)) found ∙ sym (found_page k m.entries) ∙ ap (λ (o : Option (LruCache ℕ (Vec ℕ Global))). lookup (nat_eq k) (entries_of o)) (sym is)

pub found_any : {B : Type 0} (f : B → List ℕ) (r : Option B) (k : ℕ) (es : List (ℕ × List ℕ)) → option_map f r ≡ lookup (nat_eq k) es → list_any (nat_eq k) (keys_of es) ≡ is_some r
found_any f None k es is = sym (is_some-lookup (nat_eq k) es) ∙ ap is_some (sym is)
found_any f (Some b) k es is = sym (is_some-lookup (nat_eq k) es) ∙ ap is_some (sym is)

pub take_again : {X : Type 0} (n : ℕ) (x : X) (xs : List X) → take n (x ∷ take n xs) ≡ take n (x ∷ xs)
take_again zero x xs = refl
take_again (suc n) x xs = ap (λ (l : List _). x ∷ l) (take-take n (suc n) xs (omega arith))

-- the numbers of the pages that were put
pub keys_put : (P first n : ℕ) (bytes : List ℕ) → keys_of (full_pages P first n bytes) ≡ pages_down first n
keys_put P first zero bytes = refl
keys_put P first (suc n) bytes = ap (λ (l : List ℕ). (first + n) ∷ l) (keys_put P first n bytes)

pub keys_take : (n : ℕ) (es : List (ℕ × List ℕ)) → keys_of (take n es) ≡ take n (keys_of es)
keys_take n es = sym (take-map (λ (e : ℕ × List ℕ). e.0) n es)

-- the pages that were put stand where they were put
pub full_put : (P first n : ℕ) (bytes : List ℕ) → n * P ≤ length bytes → AreFull P (first + n) (full_pages P first n bytes)
full_put P first zero bytes long = All-nil (λ (e : ℕ × List ℕ). (e.0 < first + zero) × (length e.1 ≡ P))
full_put P first (suc n) bytes long = All-cons (λ (e : ℕ × List ℕ). (e.0 < first + suc n) × (length e.1 ≡ P)) (first + n, take P (drop (n * P) bytes)) (full_pages P first n bytes)
    (omega arith, omega (arith, length-take P (drop (n * P) bytes), length-drop (n * P) bytes, long, times_next n P))
    (full_later P (first + n) (first + suc n) (full_pages P first n bytes) (omega arith) (full_put P first n bytes (omega (arith, long, times_next n P))))

-- where nothing is flushed
pub cached_none : (u : Buffer) → length u.cache ≤ u.cache_pages → AddsPages u u
cached_none u few = let none : u.first - u.first ≡ 0 = omega arith in sym (ap (λ (n : ℕ). take u.cache_pages (pages_down u.first n ++ cached u)) none ∙ take_all u.cache_pages (cached u) (omega (arith, few, length-keys_of u.cache)))

pub cached_by : (u r : Buffer) (P : ℕ) (bytes : List ℕ) → r.cache ≡ take u.cache_pages (full_pages P u.first (r.first - u.first) bytes ++ u.cache) → AddsPages u r
cached_by u r P bytes is = ap keys_of is ∙ keys_take u.cache_pages (full_pages P u.first (r.first - u.first) bytes ++ u.cache)
    ∙ ap (take u.cache_pages) (map-append (λ (e : ℕ × List ℕ). e.0) (full_pages P u.first (r.first - u.first) bytes) u.cache ∙ ap (λ (l : List ℕ). l ++ cached u) (keys_put P u.first (r.first - u.first) bytes))

pub held_few : (pages : Option (LruCache ℕ (Vec ℕ Global))) (most : ℕ) → ForSome pages (λ m. (m.cap ≡ most) × (length m.entries ≤ most)) → length (entries_of pages) ≤ most
held_few None most bound = omega arith
held_few (Some m) most bound = omega (arith, length-map m.entries page_entry, (bound m refl).1)

-- the pages stand below those that are put next
pub full_next : (P first n most : ℕ) (bytes : List ℕ) (es : List (ℕ × List ℕ)) → n * P ≤ length bytes → AreFull P first es → AreFull P (first + n) (take most (full_pages P first n bytes ++ es))
full_next P first n most bytes es long full = All-take (λ (e : ℕ × List ℕ). (e.0 < first + n) × (length e.1 ≡ P)) most (full_pages P first n bytes ++ es)
    (All-append (λ (e : ℕ × List ℕ). (e.0 < first + n) × (length e.1 ≡ P)) (full_pages P first n bytes) es (full_put P first n bytes long) (full_later P first (first + n) es (omega arith) full))

-- one page more
pub put_next : (P first n most : ℕ) (bytes slice : List ℕ) (es this : List (ℕ × List ℕ)) → this ≡ take most (full_pages P first n bytes ++ es) → slice ≡ take P (drop (n * P) bytes)
    → take most ((first + n, slice) ∷ this) ≡ take most (full_pages P first (n + 1) bytes ++ es)
put_next P first n most bytes slice es this is part = (λ t. take most ((first + n, part t) ∷ is t)) ∙ take_again most (first + n, take P (drop (n * P) bytes)) (full_pages P first n bytes ++ es)
    ∙ ap (λ (m : ℕ). take most (full_pages P first m bytes ++ es)) (let e : suc n ≡ n + 1 = omega arith in e)

pub slice_page : (P size n : ℕ) (bytes : List ℕ) → size ≡ P → take (n * size + size - n * size) (drop (n * size) bytes) ≡ take P (drop (n * P) bytes)
slice_page P size n bytes is = (let e : n * size + size - n * size ≡ size = omega arith in ap (λ (m : ℕ). take m (drop (n * size) bytes)) e) ∙ ap (λ (m : ℕ). take m (drop (n * m) bytes)) is

-- a page that is among them is found
pub found_some : {B : Type 0} (f : B → List ℕ) (r : Option B) (k : ℕ) (es : List (ℕ × List ℕ)) → option_map f r ≡ lookup (nat_eq k) es → list_any (nat_eq k) (keys_of es) ≡ true → r ≡ None → ⊥
found_some f r k es is has none = cc (found_any f r k es is, has, ap is_some none)

-- bytes of a page that is found are as in the content
pub found_bytes : (seal : List ℕ → ℕ) (P : ℕ) (c : List ℕ) (k skip n : ℕ) (bytes : List ℕ) (es : List (ℕ × List ℕ)) → AreCachedOf seal P c es → Some bytes ≡ lookup (nat_eq k) es → skip + n ≤ P
    → (i : ℕ) → i < n → get_or (take n (drop skip bytes)) i 0 ≡ view c (page_at P k + (skip + i))
found_bytes seal P c k skip n bytes es are found part i lt = get_or-take n (drop skip bytes) i 0 lt ∙ get_or-drop skip bytes i 0 ∙ (found_has (IsCachedOf seal P c) k bytes es are (sym found)).same (skip + i) (omega (arith, lt, part))

-- how many pages are not in memory grows with how many there are
pub uncached_more : (pages : List ℕ) (k n m : ℕ) → n ≤ m → uncached pages k n ≤ uncached pages k m
uncached_more pages k n zero le = let e : n ≡ zero = omega (arith, le) in omega (arith, ap (uncached pages k) e)
uncached_more pages k n (suc m) le = elim (cases_lt n (suc m)) [
  | inl less ↦ omega (arith, uncached_more pages k n m (omega (arith, less)))
  | inr past ↦ (let e : n ≡ suc m = omega (arith, le, past) in omega (arith, ap (uncached pages k) e))
]

-- the next page
pub uncached_next : (pages : List ℕ) (first page : ℕ) → first ≤ page → uncached pages first (page - first) + cond (list_any (nat_eq page) pages) 0 1 ≤ uncached pages first (page + 1 - first)
uncached_next pages first page from =
    let e : page + 1 - first ≡ suc (page - first) = omega (arith, from) in
    let at : first + (page - first) ≡ page = omega (arith, from) in
    omega (arith, ap (uncached pages first) e, ap {B = ℕ} (λ (k : ℕ). cond {A = ℕ} (list_any (nat_eq k) pages) 0 1) at)

-- of the pages of these bytes, those from the s-th on are those of the bytes behind the ones before
full_split : (P first s n : ℕ) (bytes : List ℕ) → full_pages P first (s + n) bytes ≡ full_pages P (first + s) n (drop (s * P) bytes) ++ full_pages P first s bytes
full_split P first s zero bytes = (let e : s + 0 ≡ s = omega arith in ap (λ (m : ℕ). full_pages P first m bytes) e)
full_split P first s (suc n) bytes =
    (let e : s + suc n ≡ suc (s + n) = omega arith in ap (λ (m : ℕ). full_pages P first m bytes) e)
    ∙ (λ i. (at i, take P (part i)) ∷ full_split P first s n bytes i)
  where
    at : first + (s + n) ≡ first + s + n
    at = omega arith

    part : drop ((s + n) * P) bytes ≡ drop (n * P) (drop (s * P) bytes)
    part = (let e : (s + n) * P ≡ s * P + n * P = omega arith in ap (λ (m : ℕ). drop m bytes) e) ∙ sym (drop-drop (n * P) (s * P) bytes)

length-full_pages : (P first n : ℕ) (bytes : List ℕ) → length (full_pages P first n bytes) ≡ n
length-full_pages P first zero bytes = refl
length-full_pages P first (suc n) bytes = ap suc (length-full_pages P first n bytes)

-- where only as many stay, the pages before need not be put
last_stay : (P first s n : ℕ) (bytes : List ℕ) (es : List (ℕ × List ℕ)) (most : ℕ) → s ≡ s + n - most → take most (full_pages P (first + s) n (drop (s * P) bytes) ++ es) ≡ take most (full_pages P first (s + n) bytes ++ es)
last_stay P first zero n bytes es most is = (let e : first + 0 ≡ first = omega arith in let f : n ≡ 0 + n = omega arith in let z : 0 * P ≡ 0 = omega arith in (λ i. take most (full_pages P (e i) (f i) (drop (z i) bytes) ++ es)))
last_stay P first (suc s) n bytes es most is =
    let full : length (full_pages P (first + suc s) n (drop (suc s * P) bytes)) ≡ n = length-full_pages P (first + suc s) n (drop (suc s * P) bytes) in
    let some : most ≤ length (full_pages P (first + suc s) n (drop (suc s * P) bytes)) = omega (arith, full, is) in
    let long : most ≤ length (full_pages P (first + suc s) n (drop (suc s * P) bytes) ++ full_pages P first (suc s) bytes) = omega (arith, some, length-append (full_pages P (first + suc s) n (drop (suc s * P) bytes)) (full_pages P first (suc s) bytes)) in
    take-append-le most (full_pages P (first + suc s) n (drop (suc s * P) bytes)) es some
    ∙ sym (take-append-le most (full_pages P (first + suc s) n (drop (suc s * P) bytes)) (full_pages P first (suc s) bytes) some)
    ∙ sym (take-append-le most (full_pages P (first + suc s) n (drop (suc s * P) bytes) ++ full_pages P first (suc s) bytes) es long)
    ∙ ap (λ (l : List (ℕ × List ℕ)). take most (l ++ es)) (sym (full_split P first (suc s) n bytes))

-- how many pages are left
pub last_count : (P s : ℕ) (bytes : List ℕ) → 1 ≤ P → s ≤ length bytes / P → s + length (drop (s * P) bytes) / P ≡ length bytes / P
last_count P s bytes pos le =
    let rest : length bytes < length bytes / P * P + P = lt-div-mul-add (omega (arith, pos)) in
    let parts : (length bytes / P - s) * P + s * P ≡ length bytes / P * P = sym (times_parts (length bytes / P - s) s P) ∙ (let e : length bytes / P - s + s ≡ length bytes / P = omega (arith, le) in ap (λ (m : ℕ). m * P) e) in
    let is : length (drop (s * P) bytes) ≡ (length bytes / P - s) * P + (length bytes - length bytes / P * P) = omega (arith, length-drop (s * P) bytes, parts, div-mul-le_self (length bytes) P) in
    omega (arith, le, ap (λ (m : ℕ). m / P) is, div-mul-add (length bytes / P - s) P (length bytes - length bytes / P * P) (omega (arith, rest, div-mul-le_self (length bytes) P)))
  where
    times_parts : (a b n : ℕ) → (a + b) * n ≡ a * n + b * n
    times_parts a b n = omega arith

-- the last of the pages are put
pub puts_last : (P first s : ℕ) (bytes : List ℕ) (old new : PageCache) → 1 ≤ P → s ≡ length bytes / P - old.most → PutsFull P (first + s) (drop (s * P) bytes) old new → PutsFull P first bytes old new
puts_last P first s bytes old new pos is last =
    let count : s + length (drop (s * P) bytes) / P ≡ length bytes / P = last_count P s bytes pos (omega (arith, is)) in
    record {
      most = last.most;
      pages = last.pages ∙ last_stay P first s (length (drop (s * P) bytes) / P) bytes (held_in old) old.most (omega (arith, is, count))
          ∙ ap (λ (m : ℕ). take old.most (full_pages P first m bytes ++ held_in old)) count;
    }
