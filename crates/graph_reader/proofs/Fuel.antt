-- Fuel above the number of bytes never runs out, so reading from a place is an equation command by command, with no fuel in it.
use mathlib.Core.Path.{◌≡◌, refl}
use mathlib.Core.List.{List, [], ◌∷◌}
use Prim.Native.Nat.{ℕ, zero, suc, ◌+◌, ◌≤◌, ◌<◌}
use native.Mathlib.Numerals.{add-one}
use native.Mathlib.Omega.{arith}
use lib.ListN.{length, drop, length-drop}
use Rattle.graph.specs.Graph.{Graph}
use Rattle.graph_reader.specs.declared.Edition.{Edition}
use Rattle.graph_reader.specs.declared.Edition.TheVariants.{One, Two}
use Rattle.graph_reader.specs.declared.commands.Command.{Command}
use Rattle.graph_reader.specs.declared.commands.Command.TheVariants.{Vertex, Edge, End, Truncated, Unknown}
use Rattle.graph_reader.specs.Commands.{decode, width}
use Rattle.graph_reader.specs.Reading.{Verdict, grows, ends, faulty, judge, Reading, refuse_at, finish, on_verdict, read_from, read_at}

-- a command that adds to the graph takes a byte at least
pub grows_width : (from to : Edition) (g : Graph) (c : Command) (g' : Graph) → judge to g c ≡ grows g' → 1 ≤ width from c
unfolding judge
grows_width One to g (Vertex label) g' e = omega arith
grows_width Two to g (Vertex label) g' e = omega arith
grows_width from to g (Edge a b label) g' e = omega arith
grows_width from to g End g' e = let z : ◌≡◌ {A = ℕ} 0 1 = cc in omega arith
grows_width from to g Truncated g' e = let z : ◌≡◌ {A = ℕ} 0 1 = cc in omega arith
grows_width from to g Unknown g' e = let z : ◌≡◌ {A = ℕ} 0 1 = cc in omega arith

-- so fewer bytes are left behind it
rest_shorter : (from to : Edition) (g : Graph) (rest : List ℕ) (g' : Graph) → judge to g (decode from rest) ≡ grows g'
    → length (drop (width from (decode from rest)) rest) < length rest
unfolding judge
rest_shorter from to g [] g' e = let z : ◌≡◌ {A = ℕ} 0 1 = cc in omega arith
rest_shorter from to g (x ∷ xs) g' e = simp length-drop (omega (arith, grows_width from to g (decode from (x ∷ xs)) g' e))

-- Two ways to go on that agree on the graph a command makes, and at the end, agree.
pub same_onward : (f f' : Graph → Reading) (e e' : Reading) (r : ℕ → Reading) (j : Verdict)
    → ((g : Graph) → j ≡ grows g → f g ≡ f' g) → e ≡ e' → on_verdict f e r j ≡ on_verdict f' e' r j
same_onward f f' e e' r (grows g) h q = h g refl
same_onward f f' e e' r ends h q = q
same_onward f f' e e' r (faulty number) h q = refl

module _ (from to : Edition) where
  -- Any two fuels above the number of bytes left give the same reading.
  pub fuel_enough : (fuel fuel' : ℕ) (g : Graph) (at : ℕ) (rest : List ℕ) → length rest < fuel → length rest < fuel'
      → read_from from to fuel g at rest ≡ read_from from to fuel' g at rest
  unfolding read_from
  fuel_enough zero fuel' g at rest h h' = absurd (omega arith)
  fuel_enough (suc fuel) zero g at rest h h' = absurd (omega arith)
  fuel_enough (suc fuel) (suc fuel') g at rest h h' =
      same_onward _ _ _ _ _ (judge to g (decode from rest)) (λ g' e. fuel_enough fuel fuel' g' _ _
      (omega (arith, rest_shorter from to g rest g' e)) (omega (arith, rest_shorter from to g rest g' e))) refl

  -- One command: it adds to the graph and the rest is read with that, or it ends the bytes, or it is refused at its place.
  pub read_step : (g : Graph) (at : ℕ) (rest : List ℕ) → read_at from to g at rest ≡
      on_verdict
      (λ g'. read_at from to g' (at + width from (decode from rest)) (drop (width from (decode from rest)) rest))
      (finish g (at + 1) (drop 1 rest))
      (λ number. refuse_at number at)
      (judge to g (decode from rest))
  unfolding read_at read_from
  read_step g at rest =
      rw (add-one (length rest))
      (same_onward _ _ _ _ _ (judge to g (decode from rest)) (λ g' e. fuel_enough (length rest) (length (drop (width from (decode from rest)) rest) + 1) g' _ _
      (rest_shorter from to g rest g' e) (omega arith)) refl)
