-- A common subgraph with rows left out is a common subgraph, down to the mapping that leaves all rows out.
use mathlib.Core.Path.{◌≡◌, ◌∙◌}
use mathlib.Core.Logic.{◌≢◌}
use mathlib.Core.Bool.{true}
use mathlib.Core.List.{List}
use Prim.Native.Nat.{ℕ, ◌<◌}
use native.Mathlib.Decide.{ℕ_discrete}
use native.Mathlib.Omega.{arith}
use lib.ListN.{length, get_or, set, replicate, length-set, length-replicate, get_or-replicate}
use lib.Seq.{get_or-set_same, get_or-set_other}
use Rattle.problem.specs.Problem.{Problem, SoundProblem, allowed, consistent}
use Rattle.mapping.specs.Common.{Common, Pairwise, unmapped}
use Rattle.mapping.proofs.Pairwise.{common_pairwise, pairwise_common}

-- the entries of m are those of l, except where m leaves a row out
abbrev pub Within : List ℕ → List ℕ → Type 0
Within m l = (length m ≡ length l) × ((v : ℕ) → v < length m → get_or m v 0 ≢ unmapped → get_or m v 0 ≡ get_or l v 0)

pairwise_within : (P : Problem) (l m : List ℕ) → Within m l → Pairwise P l → Pairwise P m
pairwise_within P l m w p = record { entries = w.0 ∙ p.entries; alone = alone; together = together }
  where
    alone : (v : ℕ) → v < length m → get_or m v 0 ≢ unmapped → allowed P v (get_or m v 0) ≡ true
    alone v h n = let e = w.1 v h n in rw e (p.alone v (omega arith) (rw e at n))

    together : (u v : ℕ) → u < v → v < length m → get_or m u 0 ≢ unmapped → get_or m v 0 ≢ unmapped
        → consistent P u (get_or m u 0) v (get_or m v 0) ≡ true
    together u v k h nu nv =
        let eu = w.1 u (omega arith) nu in
        let ev = w.1 v h nv in
        rw (eu, ev) (p.together u v k (omega arith) (rw eu at nu) (rw ev at nv))

-- A common subgraph with some rows left out is one.
pub within_common : (P : Problem) (l m : List ℕ) → SoundProblem P → Within m l → Common P l → Common P m
within_common P l m s w c = pairwise_common P m s (pairwise_within P l m w (common_pairwise P l c))

-- A common subgraph with one row taken out is one.
pub remove_common : (P : Problem) (l : List ℕ) → SoundProblem P → Common P l → (v : ℕ) → v < length l → Common P (set l v unmapped)
remove_common P l s c v h = within_common P l (set l v unmapped) s (length-set l v unmapped, λ u k m. kept u m (ℕ_discrete u v)) c
  where
    kept : (u : ℕ) → get_or (set l v unmapped) u 0 ≢ unmapped → Dec (u ≡ v) → get_or (set l v unmapped) u 0 ≡ get_or l u 0
    kept u m (yes e) = absurd (m (rw e (get_or-set_same l v unmapped 0 h)))
    kept u m (no ne) = get_or-set_other l v u unmapped 0 ne

-- The mapping that leaves all rows out is a common subgraph.
pub none_common : (P : Problem) → SoundProblem P → Common P (replicate P.old.order unmapped)
none_common P s = pairwise_common P none s
    record {
      entries = length-replicate P.old.order unmapped;
      alone = λ v h m. absurd (m (out v h));
      together = λ u v k h mu mv. absurd (mv (out v h));
    }
  where
    none : List ℕ
    none = replicate P.old.order unmapped

    out : (v : ℕ) → v < length none → get_or none v 0 ≡ unmapped
    out v h = get_or-replicate P.old.order v unmapped 0 (omega (arith, length-replicate P.old.order unmapped))
