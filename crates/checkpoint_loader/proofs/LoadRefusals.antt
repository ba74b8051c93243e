-- What a load gives, by what its tests say in their order: the graphs, the form, the shape.
use mathlib.Core.Path.{◌≡◌, refl, sym, ap, ◌∙◌}
use mathlib.Core.Bool.{Bool, true, false, cond, true≢false}
use mathlib.Core.List.{List}
use Rattle.std.specs.Prelude.{None, Some}
use Prim.Native.Nat.{ℕ}
use Rattle.answers.specs.Answer.{passed, refused, refused_at}
use Rattle.problem.specs.Problem.{Problem, problem_answer}
use Rattle.checkpoint.specs.declared.Checkpoint.{Checkpoint}
use Rattle.checkpoint.specs.Checkpoints.{in_shape}
use Rattle.checkpoint.specs.Checking.{checkpoint_answer}
use Rattle.checkpoint_loader.specs.Form.{form_fault}
use Rattle.checkpoint_loader.specs.Loading.{Loading, said, refuse, on_shape, loading}

-- what the test of the shape decides
abbrev shaped : Bool → Checkpoint → Loading
shaped b c = cond b (record { answer = passed; checkpoint = c }) (refuse (refused 14))

in_shape_lem : (b : Bool) (c : Checkpoint) → cond b passed (refused 14) ≡ passed → record { answer = passed; checkpoint = c } ≡ shaped b c
in_shape_lem true c e = refl
in_shape_lem false c e = absurd (true≢false (cc))

out_of_shape : (b : Bool) (c : Checkpoint) (m : ℕ) → cond b passed (refused 14) ≡ refused m → refuse (refused m) ≡ shaped b c
out_of_shape true c m e = absurd (true≢false (cc))
out_of_shape false c m e = ap refuse (sym e)

module _ (connected : Bool) (P : Problem) (bytes : List ℕ) where
  -- Graphs that are not sound are refused with their number.
  pub load_flawed : (m : ℕ) → problem_answer P ≡ refused m → refuse (refused m) ≡ loading connected P bytes
  unfolding loading
  load_flawed m e = rw e

  module _ (sound : problem_answer P ≡ passed) where
    -- Bytes that are not in the form are refused with the place.
    pub load_malformed : (at : ℕ) → form_fault P.old.order bytes ≡ Some at → refuse (refused_at 17 at) ≡ loading connected P bytes
    unfolding loading
    load_malformed at e = rw (sound, e)

    module _ (formed : form_fault P.old.order bytes ≡ None) (c : Checkpoint) (told : c ≡ said P.old.order bytes) where
      -- past the first two tests the third decides
      shape_decides : loading connected P bytes ≡ on_shape connected P c
      unfolding loading
      shape_decides = rw (sound, formed, told)

      -- The checkpoint that the bytes say is loaded where its check passes.
      pub load_passed : checkpoint_answer connected P c ≡ passed → record { answer = passed; checkpoint = c } ≡ loading connected P bytes
      unfolding checkpoint_answer
      load_passed e = in_shape_lem (in_shape connected P c) c (rw sound at e) ∙ sym shape_decides

      -- It is refused where its check refuses it.
      pub load_refused : (m : ℕ) → checkpoint_answer connected P c ≡ refused m → refuse (refused m) ≡ loading connected P bytes
      unfolding checkpoint_answer
      load_refused m e = out_of_shape (in_shape connected P c) c m (rw sound at e) ∙ sym shape_decides
