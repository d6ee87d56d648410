-- A run that appends one record more.
use Rattle.std.proofs.Common.{◌≡◌, ◌≢◌, ℕ, ◌+◌, ◌<◌, List, [], ◌∷◌, ◌++◌, length, take, get_or, refl, sym, ◌∙◌, ap, subst, arith, append_assoc, length-append, Vec}
use Rattle.std.proofs.lemmas.List.{take_more, append-nil}
use Rattle.std.specs.declared.alloc.Global.{Global}
use Rattle.blob_device.specs.Disk.{Key}
use Rattle.blob_device.specs.Timeline.{Timeline, disk, Always, OnlyAt, Stretches}
use Rattle.blob_device.specs.lemmas.Moments.{always_weaker, always_now}
use Rattle.blob_device.specs.lemmas.Marks.{stretches_start, stretches_push}
use Rattle.append_log.specs.Appended.{Holds, LeavesFirst, joined, grown, Appending, Grown}

joined-push : (rs : List (Vec ℕ Global)) (r : Vec ℕ Global) → joined (rs ++ r ∷ []) ≡ joined rs ++ r.items
unfolding joined
joined-push [] r = append-nil r.items
joined-push (x ∷ rs) r = ap (λ (l : List ℕ). x.items ++ l) (joined-push rs r) ∙ sym (append_assoc x.items (joined rs) r.items)

-- one record more
pub grown_next : (base : List ℕ) (rs : List (Vec ℕ Global)) (n : ℕ) (r : Vec ℕ Global) → n < length rs → r ≡ get_or rs n r → grown base rs (n + 1) ≡ grown base rs n ++ r.items
grown_next base rs n r lt is =
    ap (λ (l : List (Vec ℕ Global)). base ++ joined l) (take_more rs n r lt ∙ ap (λ (x : Vec ℕ Global). take n rs ++ x ∷ []) (sym is))
    ∙ ap (λ (l : List ℕ). base ++ l) (joined-push (take n rs) r) ∙ sym (append_assoc base (joined (take n rs)) r.items)

-- how long the log is with one record more
pub grown_size : (base content : List ℕ) (rs : List (Vec ℕ Global)) (n : ℕ) (r : Vec ℕ Global) → n < length rs → r ≡ get_or rs n r → content ≡ grown base rs n → length content + length r.items ≡ length (grown base rs (n + 1))
grown_size base content rs n r lt is same = sym (ap length (grown_next base rs n r lt is ∙ ap (λ (l : List ℕ). l ++ r.items) (sym same)) ∙ length-append content r.items)

pub grown_start : (k : Key) (records : List (Vec ℕ Global)) (t : Timeline) → Holds (disk t k).content (disk t k) → Grown k (disk t k).content records t t []
unfolding joined
grown_start k records t holds = record {
  holds = subst (λ (l : List ℕ). Holds l (disk t k)) (sym (append-nil (disk t k).content)) holds;
  others = λ q other. refl;
  run = stretches_start t _;
}

module _ (k : Key) (base : List ℕ) (records : List (Vec ℕ Global)) (a b c : Timeline) (marks : List ℕ) (r : Vec ℕ Global) (before : Grown k base records a b marks)
    (lt : length marks < length records) (is : r ≡ get_or records (length marks) r)
    (adding : Always b c (OnlyAt k (disk b) (LeavesFirst (disk b k).content (length (disk b k).content + length r.items)))) where
  next : grown base records (length marks + 1) ≡ (disk b k).content ++ r.items
  next = grown_next base records (length marks) r lt is ∙ ap (λ (l : List ℕ). l ++ r.items) (sym before.holds.content)

  size : length (disk b k).content + length r.items ≡ length (grown base records (length marks + 1))
  size = grown_size base (disk b k).content records (length marks) r lt is before.holds.content

  -- also where it failed
  pub run_more : Stretches a c (marks ++ b.calls ∷ []) (Appending k (disk a) base records)
  run_more = stretches_push a b c marks (Appending k (disk a) base records) before.run
      (always_weaker b c _ (Appending k (disk a) base records (length marks))
      (λ d s. record {
        here = subst (λ (l : List ℕ). LeavesFirst l (length (grown base records (length marks + 1))) (d k)) before.holds.content
            (subst (λ (n : ℕ). LeavesFirst (disk b k).content n (d k)) size s.here);
        others = λ q other. s.others q other ∙ before.others q other;
      }) adding)

  pub others_more : (q : Key) → q ≢ k → disk c q ≡ disk a q
  others_more q other = (always_now b c _ adding).others q other ∙ before.others q other

  pub grown_more : Holds ((disk b k).content ++ r.items) (disk c k) → Grown k base records a c (marks ++ b.calls ∷ [])
  grown_more holds =
      let count : length (marks ++ b.calls ∷ []) ≡ length marks + 1 = omega (arith, length-append marks (b.calls ∷ [])) in
      record {
        holds = subst (λ (l : List ℕ). Holds l (disk c k)) (sym (ap (grown base records) count ∙ next)) holds;
        others = others_more;
        run = run_more;
      }
