-- The test that computes tells whether the mapped vertices of a sound graph are connected.
use mathlib.Core.Path.{◌≡◌, refl, sym, ◌∙◌}
use mathlib.Core.Bool.{true, true≢false}
use mathlib.Core.List.{List}
use Prim.Native.Nat.{ℕ, ◌≤◌, ◌<◌}
use native.Mathlib.Omega.{arith}
use lib.ListN.{length, get_or}
use Rattle.bitset.specs.Members.{member}
use Rattle.bitset.specs.Least.{least_member}
use Rattle.std.specs.Prelude.{Option}
use Rattle.std.specs.Prelude.{Some, None}
use Rattle.bitset.proofs.SetOf.{member_set_of}
use Rattle.bitset.proofs.LeastBelow.{least_below_member, least_below_empty}
use Rattle.bounded.proofs.Tells.{Tells, tells_lt, tells_ne, tells_both}
use Rattle.graph.specs.Graph.{Graph, Sound, edge}
use Rattle.mapping.specs.Common.{unmapped}
use Rattle.connected.specs.Connected.{Mapped, Adjacent, Way, Connected}
use Rattle.connected.specs.Connected.Way.{here, on}
use Rattle.connected.specs.Spreading.{adjacent, neighbours, is_mapped, mapped_set, is_connected}
use Rattle.connected.proofs.Reached.{Passes, none_connected_set, connected_set_reaches, reaches_connected_set}

mapped_test : (l : List ℕ) (v : ℕ) → Tells (is_mapped l v) (Mapped l v)
mapped_test l v = tells_both _ _ (tells_lt v (length l)) (tells_ne (get_or l v 0) unmapped)

module _ (g : Graph) (sound : Sound g) (l : List ℕ) (few : length l ≤ 64) where
  -- the vertices of the set are those mapped
  in_set : (v : ℕ) → v < 64 → Tells (member (mapped_set l) v) (Mapped l v)
  in_set v h = rw (member_set_of 64 (is_mapped l) v h) (mapped_test l v)

  -- a mapped vertex is below 64, and in the set
  below : {v : ℕ} → Mapped l v → v < 64
  below m = omega (arith, m.0)

  inside : {v : ℕ} → Mapped l v → member (mapped_set l) v ≡ true
  inside {v} m = (in_set v (below m)).1 m

  -- the neighbours of a mapped vertex that are mapped are those joined with it
  near_adjacent : (v u : ℕ) → Mapped l v → Mapped l u → Tells (member (neighbours g.edges v) u) (Adjacent g l v u)
  near_adjacent v u mv mu =
      let told = tells_both _ _ (tells_ne u v) (tells_ne (edge g v u) 0) in
      rw (member_set_of 64 (adjacent g.edges v) u (below mu)) (
        λ e. record { from = mv; to = mu; apart = λ q. (told.0 e).0 (sym q); linked = (told.0 e).1 },
        λ j. told.1 (λ q. j.apart (sym q), j.linked),
      )

  -- the least vertex of the set is mapped
  least_mapped : (s : ℕ) → least_member (mapped_set l) ≡ Some s → Mapped l s
  least_mapped s e = let least = least_below_member 64 (member (mapped_set l)) e in (in_set s least.below).0 least.passes

  -- Ways go on,
  then : {u v w : ℕ} → Way g l u v → Way g l v w → Way g l u w
  then here after = after
  then (on j way) after = on j (then way after)

  -- and back.
  turned : {u v : ℕ} → Adjacent g l u v → Adjacent g l v u
  turned {u} {v} j = record {
    from = j.to;
    to = j.from;
    apart = λ e. j.apart (sym e);
    linked = λ e. j.linked (sound.symmetric u v (below j.from) (below j.to) ∙ e);
  }

  back : {u v : ℕ} → Way g l u v → Way g l v u
  back here = here
  back (on j way) = then (back way) (on (turned j) here)

  -- A way to a vertex goes on to its neighbours,
  way_passes : (s : ℕ) → Passes (neighbours g.edges) (mapped_set l) (Way g l s)
  way_passes s v u hv hu mv mu near way = then way (on ((near_adjacent v u ((in_set v hv).0 mv) ((in_set u hu).0 mu)).0 near) here)

  -- and what goes over to neighbours goes over along a way.
  along : (W : ℕ → Type 0) → Passes (neighbours g.edges) (mapped_set l) W → {u v : ℕ} → Way g l u v → W u → W v
  along W passes here w = w
  along W passes (on {u} {v} j way) w =
      along W passes way
      (passes u v (below j.from) (below j.to) (inside j.from) (inside j.to) ((near_adjacent u v j.from j.to).1 j) w)

  pub connected_test : Tells (is_connected g.edges l) (Connected g l)
  connected_test = go (least_member (mapped_set l)) refl
    where
      go : (found : Option ℕ) → least_member (mapped_set l) ≡ found → Tells (is_connected g.edges l) (Connected g l)
      go (Some s) e = (
        λ passed u v mu mv.
            let reaches = connected_set_reaches (neighbours g.edges) (mapped_set l) e passed (Way g l s) (way_passes s) here in
            then (back (reaches u (below mu) (inside mu))) (reaches v (below mv) (inside mv)),
        λ connected.
            reaches_connected_set (neighbours g.edges) (mapped_set l) e
            (λ W passes own v h m. along W passes (connected s v (least_mapped s e) ((in_set v h).0 m)) own),
      )
      go None e = (
        λ passed u v mu mv. absurd (true≢false (sym (inside mu) ∙ least_below_empty 64 (member (mapped_set l)) e u (below mu))),
        λ connected. none_connected_set (neighbours g.edges) (mapped_set l) e,
      )
