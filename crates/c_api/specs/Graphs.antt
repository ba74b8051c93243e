-- The tables of a call's own, all 0, into which it reads both graphs (01, "Tables: 64 kind bytes and 4,096 link bytes"; 02, U6).
use Rattle.std.specs.Prelude.{◌≡◌, replicate}
use Rattle.c_api.specs.declared.graphs.Graphs.{Graphs}

-- all four are 0 throughout
pub record IsEmpty (g : Graphs) : Type 0 where
  pub old_labels : g.old_labels ≡ replicate 64 0
  pub old_edges : g.old_edges ≡ replicate 4096 0
  pub new_labels : g.new_labels ≡ replicate 64 0
  pub new_edges : g.new_edges ≡ replicate 4096 0
