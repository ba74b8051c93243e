-- A label of a lent table is at most 65,535, as a test.
use mathlib.Core.Path.{◌≡◌}
use mathlib.Core.Bool.{true}
use Prim.Native.Nat.{ℕ}
use native.Mathlib.Omega.{arith}
use borrow.Author.Tests.{le-leb}
use lib.Dec.{leb}
use mir.Val.{Fits}
use mir.Syntax.{w16}
use Rattle.graph.specs.Graph.{max_label}

pub label_leb : {x : ℕ} → Fits w16 x → leb x max_label ≡ true
label_leb {x} h = le-leb x max_label (omega arith)
