-- What loading accepts is what the code's types say of every checkpoint: two arrays of 64 bytes, and steps of 64 bits.
use mathlib.Core.Bool.{Bool}
use mathlib.Core.Path.{◌≡◌, ap, ◌∙◌}
use mathlib.Core.List.{List}
use Prim.Native.Nat.{ℕ, ◌+◌, ◌^◌, ◌≤◌, ◌<◌}
use native.Mathlib.Omega.{arith}
use lib.ListN.{length, take, drop, length-take, length-drop}
use lib.Seq.{get_or-take, get_or-drop}
use Rattle.little_endian.specs.LittleEndian.{from_little}
use Rattle.little_endian.proofs.LittleEndian.{from_little_max}
use Rattle.answers.specs.Answer.{passed}
use Rattle.problem.specs.Problem.{Problem}
use Rattle.checkpoint.specs.declared.Checkpoint.{Checkpoint}
use Rattle.checkpoint.proofs.Padding.{padded_length}
use Rattle.checkpoint_loader.specs.Form.{holds_of}
use Rattle.checkpoint_loader.specs.Loading.{said, loading}
use Rattle.checkpoint_loader.specs.Between.{Sized}
use Rattle.checkpoint_loader.specs.FaultPlace.{Bytes}
use Rattle.checkpoint_saver.proofs.SavedLength.{incumbent_few}
use Rattle.checkpoint_loader.proofs.FormedBytes.{formed, formed_lengths}
use Rattle.checkpoint_loader.proofs.FormedSays.{said_formed}
use Rattle.checkpoint_loader.proofs.LoadAccepts.{load_accepted}

-- eight bytes say a number of 64 bits
steps_fit : (bytes : List ℕ) → Bytes bytes → 11 ≤ length bytes → from_little (take 8 (drop 3 bytes)) < 2 ^ 64
steps_fit bytes small long =
    rw eight at (from_little_max (take 8 (drop 3 bytes)) (λ i h.
    rw (get_or-take 8 (drop 3 bytes) i 0 (omega (arith, eight)), get_or-drop) (small (3 + i) (omega (arith, eight)))))
  where
    eight : length (take 8 (drop 3 bytes)) ≡ 8
    eight = omega (arith, length-take 8 (drop 3 bytes), length-drop 3 bytes)

-- An accepted load gives such a checkpoint.
pub load_sized : (connected : Bool) (P : Problem) (bytes : List ℕ) → Bytes bytes → (loading connected P bytes).answer ≡ passed → Sized (loading connected P bytes).checkpoint
unfolding said
load_sized connected P bytes small e =
    let found = load_accepted connected P bytes e in
    let few = found.sound.old_sound.order_max in
    let f = formed P.old.order bytes found.whole in
    rw found.loaded (record {
      path_long = ap (λ (c : Checkpoint). length c.path) (said_formed f) ∙ padded_length f.path (omega (arith, f.path_max, few));
      incumbent_long =
          ap (λ (c : Checkpoint). length c.incumbent) (said_formed f)
          ∙ padded_length f.incumbent (omega (arith, f.incumbent_length, few, incumbent_few P.old.order (holds_of f.state)));
      steps_fit = steps_fit bytes small (omega (arith, (formed_lengths P.old.order bytes found.whole).1));
    })
