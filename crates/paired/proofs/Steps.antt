-- Steps of a call, one behind another: which blobs each touches, in which order, and that each crash keeps so much of what it kept.
use Rattle.std.proofs.Common.{◌≡◌, ◌⊎◌, inl, inr, ℕ, ◌<◌, ◌≤◌, List, refl, ◌∙◌, arith}
use Rattle.std.proofs.lemmas.Bool.{cases_lt}
use Rattle.blob_device.specs.Disk.{Key, Disk}
use Rattle.blob_device.specs.Timeline.{Timeline, disk, Always}
use Rattle.blob_device.specs.lemmas.Moments.{always_start, always_then, always_weaker, always_now}
use Rattle.paired.specs.Crashes.{InOrder}
use Rattle.paired.specs.Kept.{Layout}
use Rattle.paired.specs.Opening.{Relation, IsOrder, RecallsBy}
use Rattle.paired.specs.Records.{Entry}
use Rattle.paired.specs.lemmas.opening.Laws.{recalls_itself, recalls_on_by, recalls_weaker}
use Rattle.paired.proofs.pair.Settling.{in_order, in_order_then}

-- no blob that P names changes
abbrev pub Stay : (Key → Type 0) → Timeline → Timeline → Type 0
Stay P a b = Always a b (λ d. (q : Key) → P q → d q ≡ disk a q)

pub stay_then : (P : Key → Type 0) (a b c : Timeline) → Stay P a b → Stay P b c → Stay P a c
stay_then P a b c first second = always_then a b c (λ d. (q : Key) → P q → d q ≡ disk a q) first
    (always_weaker b c (λ d. (q : Key) → P q → d q ≡ disk b q) (λ d. (q : Key) → P q → d q ≡ disk a q) (λ d same q is. same q is ∙ always_now a b (λ x. (k : Key) → P k → x k ≡ disk a k) first q is) second)

pub stay_start : (P : Key → Type 0) (a : Timeline) → Stay P a a
stay_start P a = always_start a (λ d. (q : Key) → P q → d q ≡ disk a q) (λ q is. refl)

pub stay_fewer : (P Q : Key → Type 0) (a b : Timeline) → ((q : Key) → Q q → P q) → Stay P a b → Stay Q a b
stay_fewer P Q a b fewer = always_weaker a b (λ d. (q : Key) → P q → d q ≡ disk a q) (λ d. (q : Key) → Q q → d q ≡ disk a q) (λ d same q is. same q (fewer q is))

-- two things at each moment
pub both_always : (a b : Timeline) (P Q : Disk → Type 0) → Always a b P → Always a b Q → Always a b (λ d. P d × Q d)
both_always a b P Q first second = record { later = first.later; kept = first.kept; each = λ m lo hi. (first.each m lo hi, second.each m lo hi) }

-- ---- steps
-- A step changes no blob but those that it touches. Where it may, each crash keeps so much of what it kept before the step.
pub record Step (l : Layout) (Rel : Relation) (May : Type 0) (Touched : Key → Type 0) (a b : Timeline) : Type 0 where
  pub only : Stay (λ q. Touched q → ⊥) a b
  pub recalls : May → Always a b (RecallsBy l Rel (disk a))

module _ (l : Layout) (Rel : Relation) (May : Type 0) where
  pub step_wider : (P Q : Key → Type 0) (a b : Timeline) → ((q : Key) → P q → Q q) → Step l Rel May P a b → Step l Rel May Q a b
  step_wider P Q a b wider step = record {
    only = stay_fewer (λ q. P q → ⊥) (λ q. Q q → ⊥) a b (λ q none is. none (wider q is)) step.only;
    recalls = step.recalls;
  }

  -- what keeps more
  pub step_weaker : (Less : Relation) (P : Key → Type 0) (a b : Timeline) → ((s : ℕ) (found list : List Entry) → Rel s found list → Less s found list) → Step l Rel May P a b → Step l Less May P a b
  step_weaker Less P a b weaker step = record {
    only = step.only;
    recalls = λ may. always_weaker a b (RecallsBy l Rel (disk a)) (RecallsBy l Less (disk a)) (λ d. recalls_weaker l Rel Less weaker (disk a) d) (step.recalls may);
  }

  module _ (order : IsOrder Rel) (Touched : Key → Type 0) where
    -- a step that was not begun
    pub no_step : (a : Timeline) → Step l Rel May Touched a a
    no_step a = record {
      only = stay_start (λ q. Touched q → ⊥) a;
      recalls = λ may. always_start a (RecallsBy l Rel (disk a)) (recalls_itself l Rel order (disk a));
    }

    -- one behind another
    pub step_then : (a b c : Timeline) → Step l Rel May Touched a b → Step l Rel May Touched b c → Step l Rel May Touched a c
    step_then a b c first second = record {
      only = stay_then (λ q. Touched q → ⊥) a b c first.only second.only;
      recalls = λ may. always_then a b c (RecallsBy l Rel (disk a)) (first.recalls may)
          (always_weaker b c (RecallsBy l Rel (disk b)) (RecallsBy l Rel (disk a))
          (λ d more. recalls_on_by l Rel order (disk a) (disk b) d (always_now a b (RecallsBy l Rel (disk a)) (first.recalls may)) more) (second.recalls may));
    }

-- ---- their order
pub order_fewer : (First Second Fewer Less : Key → Type 0) (a b : Timeline) → ((q : Key) → Fewer q → First q) → ((q : Key) → Less q → Second q) → InOrder First Second a b → InOrder Fewer Less a b
order_fewer First Second Fewer Less a b fewer less = always_weaker a b (λ d. ((q : Key) → Second q → d q ≡ disk a q) ⊎ ((q : Key) → First q → d q ≡ disk b q)) (λ d. ((q : Key) → Less q → d q ≡ disk a q) ⊎ ((q : Key) → Fewer q → d q ≡ disk b q)) go
  where
    go : (d : Disk) → ((q : Key) → Second q → d q ≡ disk a q) ⊎ ((q : Key) → First q → d q ≡ disk b q) → ((q : Key) → Less q → d q ≡ disk a q) ⊎ ((q : Key) → Fewer q → d q ≡ disk b q)
    go d (inl same) = inl (λ q is. same q (less q is))
    go d (inr done) = inr (λ q is. done q (fewer q is))

-- Blobs are of kinds, none of two.
module _ (Kind : ℕ → Key → Type 0) where
  abbrev pub FirstKinds : ℕ → Key → Type 0
  FirstKinds n q = (i : ℕ) × (i ≤ n) × Kind i q

  abbrev pub LaterKinds : ℕ → Key → Type 0
  LaterKinds n q = (i : ℕ) × (n < i) × Kind i q

  -- The steps so far touched blobs of the kinds up to k alone, and those of a kind only when those of the kinds before it were as they are left.
  pub record Ascends (k : ℕ) (a b : Timeline) : Type 0 where
    pub later : Stay (LaterKinds k) a b
    pub orders : (n : ℕ) → InOrder (FirstKinds n) (LaterKinds n) a b

  pub ascend_start : (k : ℕ) (a : Timeline) → Ascends k a a
  ascend_start k a = record {
    later = stay_start (LaterKinds k) a;
    orders = λ n. in_order (FirstKinds n) (LaterKinds n) a a a (stay_start (LaterKinds n) a) (stay_start (FirstKinds n) a);
  }

  -- and one more, of a kind at or behind the last
  pub ascend_then : ((i j : ℕ) (q : Key) → i < j → Kind i q → Kind j q → ⊥) → (k m : ℕ) (a b c : Timeline) → k ≤ m → Ascends k a b → Stay (λ q. Kind m q → ⊥) b c → Ascends m a c
  ascend_then apart k m a b c le first more = record {
    later = all_later;
    orders = λ n. elim (cases_lt n m) [
      | inl before ↦ in_order_then (FirstKinds n) (LaterKinds n) a b c (first.orders n)
          (stay_fewer (λ q. Kind m q → ⊥) (FirstKinds n) b c (λ q is here. apart is.0 m q (omega (arith, is.1, before)) is.2 here) more)
      | inr behind ↦ in_order (FirstKinds n) (LaterKinds n) a c c
          (stay_fewer (LaterKinds m) (LaterKinds n) a c (λ q is. (is.0, omega (arith, is.1, behind), is.2)) all_later) (stay_start (FirstKinds n) c)
    ];
  }
    where
      all_later : Stay (LaterKinds m) a c
      all_later = stay_then (LaterKinds m) a b c
          (stay_fewer (LaterKinds k) (LaterKinds m) a b (λ q is. (is.0, omega (arith, is.1, le), is.2)) first.later)
          (stay_fewer (λ q. Kind m q → ⊥) (LaterKinds m) b c (λ q is here. apart m is.0 q is.1 here is.2) more)
