-- The program reads 8,520 bytes of a file (02, U6): what it prints is what the whole files say.
use mathlib.Core.Path.{◌≡◌, refl}
use mathlib.Core.List.{List}
use Prim.Native.Nat.{ℕ, ◌≤◌}
use native.Mathlib.Omega.{arith}
use lib.ListN.{get_or, take, replicate}
use Rattle.graph_writer.proofs.LongestFile.{reading_cut}
use Rattle.problem_reader.specs.ProblemReading.{reading_problem, read_problem}
use Rattle.refit_text.specs.Program.{refit_text}

pub refit_cut : (old new input : List ℕ) → ((i : ℕ) → get_or old i 0 ≤ 255) → ((i : ℕ) → get_or new i 0 ≤ 255)
    → refit_text (take 8520 old) (take 8520 new) input ≡ refit_text old new input
unfolding refit_text read_problem reading_problem
refit_cut old new input old-bytes new-bytes =
    rw (
      reading_cut (replicate 64 0) (replicate 4096 0) old old-bytes 8520 (omega arith),
      reading_cut (replicate 64 0) (replicate 4096 0) new new-bytes 8520 (omega arith),
    ) refl
