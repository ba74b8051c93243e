-- The solutions under a node and under a list of nodes: what bounds them, and how children take their parent's place.
use mathlib.Core.Path.{◌≡◌, refl, sym, ◌∙◌}
use mathlib.Core.Logic.{◌⊎◌, inl, inr, ⊎_elim}
use mathlib.Core.Bool.{true, false, true≢false}
use mathlib.Core.List.Memᴰ
use mathlib.Core.List.{
  List,
  [],
  ◌∷◌,
  ◌++◌,
  Memᴰ,
}
use Prim.Native.Nat.{ℕ, ◌≤◌}
use native.Mathlib.Omega.{arith}
use lib.Seq.{append_snoc}
use Rattle.branch_bound.specs.Tree.{Tree, Under, here, below, Lawful}

-- the solution s is under one of the nodes
pub record UnderOne (T : Tree) (nodes : List T.Node) (s : T.Node) : Type 0 where
  pub node : T.Node
  pub member : Memᴰ node nodes
  pub under : Under T node s

-- the solutions under each of the nodes come before those under the later ones
abbrev pub InOrder : (T : Tree) → (T.Node → T.Node → Type 0) → List T.Node → Type 0
InOrder T before [] = Unit {0}
InOrder T before (n ∷ ns) = ((s t : T.Node) → Under T n s → UnderOne T ns t → before s t) × InOrder T before ns

module _ {T : Tree} where
  -- a solution under a node of p that is in q too
  moved : {s : T.Node} {p q : List T.Node} (u : UnderOne T p s) → Memᴰ u.node q → UnderOne T q s
  moved u m = record { node = u.node; member = m; under = u.under }

  -- No solution is under one of no nodes.
  pub under_none : {s : T.Node} → UnderOne T [] s → ⊥
  under_none u = Memᴰ.not-nil u.member

  -- Under a solution there is only itself.
  pub under_last : {n s : T.Node} → T.last n ≡ true → Under T n s → s ≡ n
  under_last final (here e) = refl
  under_last final (below inner m u) = absurd (true≢false (sym final ∙ inner))

  -- Under a node that is no solution are the solutions under its children.
  pub under_child : {n s : T.Node} → T.last n ≡ false → Under T n s → UnderOne T (T.children n) s
  under_child inner (here e) = absurd (true≢false (sym e ∙ inner))
  under_child inner (below {c = c} e m u) = record { node = c; member = m; under = u }

  -- The solutions under a node's children are under the node.
  pub under_parent : {n s : T.Node} → T.last n ≡ false → UnderOne T (T.children n) s → Under T n s
  under_parent inner u = below inner u.member u.under

  -- A solution under n is under one of n ∷ ns.
  pub under_head : {n s : T.Node} {ns : List T.Node} → Under T n s → UnderOne T (n ∷ ns) s
  under_head {n} u = record { node = n; member = Memᴰ.head refl; under = u }

  -- A solution under one of ns is under one of n ∷ ns.
  pub under_tail : {n s : T.Node} {ns : List T.Node} → UnderOne T ns s → UnderOne T (n ∷ ns) s
  under_tail u = moved u (Memᴰ.tail u.member)

  -- A solution under one of n ∷ ns is under n or under one of ns.
  pub under_cons : {n s : T.Node} {ns : List T.Node} → UnderOne T (n ∷ ns) s → Under T n s ⊎ UnderOne T ns s
  under_cons {n} {s} {ns} u =
      ⊎_elim (λ (e : u.node ≡ n). inl (rw e at u.under)) (λ m. inr (moved u m))
      (Memᴰ.cases_cons u.member)

  -- A solution under one of p is under one of p ++ q.
  pub under_left : {s : T.Node} {p : List T.Node} (q : List T.Node) → UnderOne T p s → UnderOne T (p ++ q) s
  under_left q u = moved u (Memᴰ.append_left q u.member)

  -- A solution under one of q is under one of p ++ q.
  pub under_right : {s : T.Node} (p : List T.Node) {q : List T.Node} → UnderOne T q s → UnderOne T (p ++ q) s
  under_right p u = moved u (Memᴰ.append_right p u.member)

  -- A solution under one of p ++ q is under one of p or one of q.
  pub under_append : {s : T.Node} (p : List T.Node) {q : List T.Node} → UnderOne T (p ++ q) s → UnderOne T p s ⊎ UnderOne T q s
  under_append p u =
      ⊎_elim (λ m. inl (moved u m)) (λ m. inr (moved u m))
      (Memᴰ.append_cases p u.member)

  -- Where its children take the first node's place, no solution is lost.
  pub under_opened : {n s : T.Node} (rest : List T.Node) → T.last n ≡ false → UnderOne T (n ∷ rest) s → UnderOne T (T.children n ++ rest) s
  under_opened {n} rest inner u = ⊎_elim (λ v. under_left rest (under_child inner v)) (λ v. under_right (T.children n) v) (under_cons u)

  -- Where its children take the first node's place, no solution is gained.
  pub under_closed : {n s : T.Node} (rest : List T.Node) → T.last n ≡ false → UnderOne T (T.children n ++ rest) s → UnderOne T (n ∷ rest) s
  under_closed {n} rest inner u = ⊎_elim (λ v. under_head (under_parent inner v)) (λ v. under_tail v) (under_append (T.children n) u)

  -- Two lists in order, the first before the second, are one in order.
  pub in_order_append : {before : T.Node → T.Node → Type 0} (p q : List T.Node) → InOrder T before p → InOrder T before q
      → ((s t : T.Node) → UnderOne T p s → UnderOne T q t → before s t) → InOrder T before (p ++ q)
  in_order_append [] q op oq across = oq
  in_order_append (n ∷ p) q op oq across = (
    λ s t u v. ⊎_elim (λ w. op.0 s t u w) (λ w. across s t (under_head u) w) (under_append p v),
    in_order_append p q op.1 oq (λ s t u v. across s t (under_tail u) v),
  )

module _ {T : Tree} {weight : T.Node → ℕ} {before : T.Node → T.Node → Type 0} (L : Lawful T weight before) where
  -- No solution under a node exceeds the node's bound.
  pub under_bound : {n s : T.Node} → Under T n s → T.size s ≤ T.bound n
  under_bound (here {n = n} final) = omega (arith, L.bound_last n final)
  under_bound (below {n = n} {c = c} inner m u) = omega (arith, L.bound_falls n c inner m, under_bound u)

  -- the children from any one on are in order
  siblings_from : (n : T.Node) → T.last n ≡ false → (p q : List T.Node) → T.children n ≡ p ++ q → InOrder T before q
  siblings_from n inner p [] e = tt
  siblings_from n inner p (c ∷ q) e = (
    λ s t u v. L.siblings n p c q inner e v.node v.member s t u v.under,
    siblings_from n inner (p ++ (c ∷ [])) q (e ∙ sym (append_snoc p c q)),
  )

  -- The children of a node are in order.
  pub children_in_order : (n : T.Node) → T.last n ≡ false → InOrder T before (T.children n)
  children_in_order n inner = siblings_from n inner [] (T.children n) refl
