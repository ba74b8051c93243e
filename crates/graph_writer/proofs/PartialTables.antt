-- A table of which only the entries of rank below some number are filled in yet, the others being 0, and what tells that a list is such a table.
use mathlib.Core.Path.{◌≡◌, refl, sym, ap, ◌∙◌}
use mathlib.Core.Logic.{◌≢◌}
use mathlib.Core.Bool.{cond}
use mathlib.Core.List.{List, [], ◌∷◌, ◌++◌}
use Prim.Native.Nat.{ℕ, zero, suc, ◌≤◌, ◌<◌}
use native.Mathlib.Decide.{dec_lt, ℕ_discrete}
use native.Mathlib.Omega.{arith}
use lib.Dec.{ltb}
use lib.ListN.{length, get_or, set, replicate, length-set, length-append, length-replicate, get_or-replicate, get_or-append}
use lib.Seq.{ext_get_or, get_or_at, get_or-set_same, get_or-set_other, set-set}
use borrow.Author.Tests.{lt-ltb, le-ltb}
use Rattle.bounded.specs.Below.{run_below}

-- f 0, f 1, .. f (n - 1)
tabulate : ℕ → (ℕ → ℕ) → List ℕ
tabulate n f = run_below n (λ i. f i ∷ [])

length_tabulate : (n : ℕ) (f : ℕ → ℕ) → length (tabulate n f) ≡ n
unfolding tabulate run_below
length_tabulate zero f = refl
length_tabulate (suc n) f = simp length-append (omega (arith, length_tabulate n f))

get_d_tabulate : (n : ℕ) (f : ℕ → ℕ) (i : ℕ) → i < n → get_or (tabulate n f) i 0 ≡ f i
unfolding tabulate run_below
get_d_tabulate zero f i h = absurd (omega arith)
get_d_tabulate (suc n) f i h = go (dec_lt i n) (get_d_tabulate n f i)
  where
    go : Dec (i < n) → (i < n → get_or (tabulate n f) i 0 ≡ f i) → get_or (tabulate n f ++ f n ∷ []) i 0 ≡ f i
    go (yes l) below = get_or-append (tabulate n f) (f n ∷ []) 0 i (omega (arith, length_tabulate n f)) ∙ below l
    go (no l) below = get_or_at (tabulate n f) (f n) [] 0 i (omega (arith, length_tabulate n f)) ∙ ap f (omega arith)

module _ (size : ℕ) (rank : ℕ → ℕ) (table : List ℕ) where
  -- the first `size` entries of the table, those of rank c or above being 0
  pub partial_table : ℕ → List ℕ
  partial_table c = tabulate size (λ i. cond (ltb (rank i) c) (get_or table i 0) 0)

  -- It has `size` entries.
  pub partial_length : (c : ℕ) → length (partial_table c) ≡ size
  unfolding partial_table
  partial_length c = length_tabulate size _

  -- An entry of rank below c is the table's.
  pub partial_old : (c i : ℕ) → i < size → rank i < c → get_or (partial_table c) i 0 ≡ get_or table i 0
  unfolding partial_table
  partial_old c i h r = get_d_tabulate size _ i h ∙ simp (lt-ltb (rank i) c r)

  -- An entry of rank c or above is 0.
  pub partial_new : (c i : ℕ) → i < size → c ≤ rank i → get_or (partial_table c) i 0 ≡ 0
  unfolding partial_table
  partial_new c i h r = get_d_tabulate size _ i h ∙ simp (le-ltb (rank i) c r)

  -- A list of that length and with those entries is that table.
  pub partial_is : (c : ℕ) (l : List ℕ) → length l ≡ size
      → ((i : ℕ) → i < size → rank i < c → get_or l i 0 ≡ get_or table i 0)
      → ((i : ℕ) → i < size → c ≤ rank i → get_or l i 0 ≡ 0)
      → l ≡ partial_table c
  partial_is c l n old new = ext_get_or 0 l (partial_table c) (n ∙ sym (partial_length c)) (λ i h. go i (omega arith) (dec_lt (rank i) c))
    where
      go : (i : ℕ) → i < size → Dec (rank i < c) → get_or l i 0 ≡ get_or (partial_table c) i 0
      go i h (yes r) = old i h r ∙ sym (partial_old c i h r)
      go i h (no r) = new i h (omega arith) ∙ sym (partial_new c i h (omega arith))

  -- No rank is below 0: nothing is filled in.
  pub partial_none : replicate size 0 ≡ partial_table 0
  partial_none = partial_is 0 (replicate size 0) (length-replicate size 0) (λ i h r. absurd (omega arith)) (λ i h r. get_or-replicate size i 0 0 h)

  -- Where the entries of rank c or above are 0, that is the whole table.
  pub partial_all : (c : ℕ) → length table ≡ size → ((i : ℕ) → i < size → c ≤ rank i → get_or table i 0 ≡ 0) → table ≡ partial_table c
  partial_all c n new = partial_is c table n (λ i h r. refl) new

  -- Where the entries of rank c up to d are 0, filling them in changes nothing.
  pub partial_same : (c d : ℕ) → c ≤ d → ((i : ℕ) → i < size → c ≤ rank i → rank i < d → get_or table i 0 ≡ 0) → partial_table c ≡ partial_table d
  partial_same c d cd null =
      partial_is d (partial_table c) (partial_length c) (λ i h r. go i h r (dec_lt (rank i) c)) (λ i h r. partial_new c i h (omega arith))
    where
      go : (i : ℕ) → i < size → rank i < d → Dec (rank i < c) → get_or (partial_table c) i 0 ≡ get_or table i 0
      go i h r (yes s) = partial_old c i h s
      go i h r (no s) = partial_new c i h (omega arith) ∙ sym (null i h (omega arith) r)

  -- Two places set, the only ones of rank c: one rank more is filled in.
  pub partial_set_both : (c i j : ℕ) → i < size → j < size → rank i ≡ c → rank j ≡ c
      → ((k : ℕ) → k < size → k ≢ i → k ≢ j → rank k ≢ c)
      → set (set (partial_table c) i (get_or table i 0)) j (get_or table j 0) ≡ partial_table (suc c)
  partial_set_both c i j hi hj ri rj only = partial_is (suc c) (set one j (get_or table j 0))
      (length-set one j (get_or table j 0) ∙ one_length) (λ k h r. old k h r (ℕ_discrete k j) (ℕ_discrete k i)) new
    where
      one : List ℕ
      one = set (partial_table c) i (get_or table i 0)

      one_length : length one ≡ size
      one_length = length-set (partial_table c) i (get_or table i 0) ∙ partial_length c

      old : (k : ℕ) → k < size → rank k < suc c → Dec (k ≡ j) → Dec (k ≡ i) → get_or (set one j (get_or table j 0)) k 0 ≡ get_or table k 0
      old k h r (yes e) d = rw e (get_or-set_same one j (get_or table j 0) 0 (omega (arith, one_length)))
      old k h r (no ne) (yes e) =
          get_or-set_other one j k (get_or table j 0) 0 ne
          ∙ rw e (get_or-set_same (partial_table c) i (get_or table i 0) 0 (omega (arith, partial_length c)))
      old k h r (no ne) (no ne') =
          get_or-set_other one j k (get_or table j 0) 0 ne
          ∙ get_or-set_other (partial_table c) i k (get_or table i 0) 0 ne'
          ∙ partial_old c k h (omega (arith, only k h ne' ne))

      new : (k : ℕ) → k < size → suc c ≤ rank k → get_or (set one j (get_or table j 0)) k 0 ≡ 0
      new k h r =
          get_or-set_other one j k (get_or table j 0) 0 (λ e. omega (arith, ap rank e))
          ∙ get_or-set_other (partial_table c) i k (get_or table i 0) 0 (λ e. omega (arith, ap rank e))
          ∙ partial_new c k h (omega arith)

  -- One place set, the only one of rank c: one rank more is filled in.
  pub partial_set : (c i : ℕ) → i < size → rank i ≡ c → ((k : ℕ) → k < size → k ≢ i → rank k ≢ c)
      → set (partial_table c) i (get_or table i 0) ≡ partial_table (suc c)
  partial_set c i h r only =
      sym (set-set (partial_table c) i (get_or table i 0) (get_or table i 0)) ∙ partial_set_both c i i h h r r (λ k l ne ne'. only k l ne)
