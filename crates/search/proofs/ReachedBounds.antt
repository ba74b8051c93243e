-- A path that the tree reaches keeps the code in bounds.
use mathlib.Core.Path.{◌≡◌, refl, sym, ◌∙◌}
use mathlib.Core.Logic.{⊎_elim, inl, inr}
use mathlib.Core.List.{List}
use Prim.Native.Nat.{ℕ, ◌≤◌}
use native.Mathlib.Omega.{arith}
use lib.ListN.{length, get_or, take}
use lib.Seq.{get_or-take}
use Rattle.problem.specs.Problem.{Problem}
use Rattle.mapping.specs.Common.{size}
use Rattle.search_tree.specs.Rules.{rules_of}
use Rattle.search_tree.specs.Trees.{Reached}
use Rattle.search_tree.proofs.Candidates.{candidate_value}
use Rattle.search.specs.Walking.{Setting, InBounds}
use Rattle.search.proofs.ReadyWalk.{decided_length}

-- A reached path of at most as many rows as there are is in bounds, over a workspace with room.
pub reached_in_bounds : {P : Problem} {n : ℕ} {edges masks : List ℕ} (path : List ℕ) (depth : ℕ) {ws : List ℕ} → Setting P n edges masks
    → Reached (rules_of P) (take depth path) → depth ≤ P.old.order → length path ≡ 64 → 4160 ≤ length ws
    → InBounds path depth (size (take depth path)) ws
reached_in_bounds {P} path depth setting reached inside long room = record {
  path_length = long;
  room = room;
  depth_max = omega (arith, setting.sound.old_sound.order_max);
  pairs_are = refl;
  entry = λ k h.
      let same : get_or (take depth path) k 0 ≡ get_or path k 0 = get_or-take depth path k 0 h in
      ⊎_elim
      (λ out. inl (sym same ∙ out))
      (λ c.
      let value = candidate_value (rules_of P) (take k (take depth path)) k (get_or (take depth path) k 0) c in
      inr (omega (arith, setting.sound.new_sound.order_max)))
      (reached.entry k (omega (arith, decided_length setting.sound path depth long inside)));
}
