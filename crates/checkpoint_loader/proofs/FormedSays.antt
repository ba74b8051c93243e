-- What bytes in the form say; saved again it has the same bytes, and what the bytes of a checkpoint say is that checkpoint.
use mathlib.Core.Path.{◌≡◌, refl, sym, ap, ◌∙◌}
use mathlib.Core.Bool.{Bool, true, false, cond}
use mathlib.Core.List.{List, [], ◌∷◌, ◌++◌, append_assoc}
use Rattle.std.specs.Prelude.{None}
use Prim.Native.Nat.{ℕ, zero, suc, ◌+◌, ◌-◌, ◌*◌, ◌≤◌, ◌<◌}
use native.Mathlib.Omega.{arith}
use lib.ListN.{length, get_or, take, drop, replicate, length-append, get_or-append}
use lib.Seq.{take_at}
use Rattle.little_endian.specs.LittleEndian.{little_endian, from_little}
use Rattle.little_endian.proofs.LittleEndian.{little_back, from_little_lem}
use Rattle.problem.specs.Problem.{Problem}
use Rattle.checkpoint.specs.declared.Checkpoint.{Checkpoint}
use Rattle.checkpoint.specs.Checkpoints.{padded, InShape}
use Rattle.checkpoint.proofs.Padding.{padded_back}
use Rattle.checkpoint_loader.specs.Form.{holds_of, finished_of, form_fault}
use Rattle.checkpoint_saver.specs.Saving.{state_byte, checkpoint_bytes}
use Rattle.checkpoint_loader.specs.Loading.{entries, incumbent_entries, path_entries, said}
use Rattle.checkpoint_loader.specs.FaultPlace.{Bytes}
use Rattle.checkpoint_loader.specs.Between.{Sized}
use Rattle.checkpoint_loader.specs.Formed.{pairs, form_bytes, Formed}
use Rattle.checkpoint_loader.proofs.Pairs.{length_pairs, values_below, length_values, values_front, entries_pairs}
use Rattle.checkpoint_loader.proofs.SavedBytes.{state_says, saved_bytes, saved_formed}
use Rattle.checkpoint_loader.proofs.FormedBytes.{after_steps, formed, state_at, incumbent_count, path_count}

module _ {n : ℕ} {bytes : List ℕ} (f : Formed n bytes) where
  -- the header, and the bytes split after it and after the path
  abbrev header : List ℕ
  header = 16 ∷ f.minimum ∷ 17 ∷ (f.steps ++ (18 ∷ f.state ∷ []))

  header_length : length header ≡ 13
  header_length = omega (arith, length-append f.steps (18 ∷ f.state ∷ []), f.steps_length)

  split_header : bytes ≡ header ++ (pairs 19 f.path ++ (pairs 20 f.incumbent ++ (0 ∷ [])))
  split_header = f.whole ∙ simp append_assoc

  split_path : bytes ≡ (header ++ pairs 19 f.path) ++ (pairs 20 f.incumbent ++ (0 ∷ []))
  split_path = f.whole ∙ simp append_assoc

  -- the checkpoint that they say
  abbrev pub says_formed : Checkpoint
  says_formed =
      record {
        minimum = f.minimum;
        steps = from_little f.steps;
        depth = length f.path;
        path = padded f.path;
        finished = finished_of f.state;
        holds = holds_of f.state;
        incumbent = padded f.incumbent;
      }

  -- its steps, its path and its mapping, where they stand
  steps_at : take 8 (drop 3 bytes) ≡ f.steps
  steps_at = ap (λ (l : List ℕ). take 8 (drop 3 l)) f.whole ∙ take_at f.steps _ 8 f.steps_length

  path_at : entries bytes 13 (path_entries n bytes) ≡ f.path
  path_at = entries_pairs 19 bytes header f.path _ 13 (path_entries n bytes) split_header header_length (sym (path_count f))

  incumbent_at : entries bytes (13 + 2 * path_entries n bytes) (incumbent_entries n bytes) ≡ f.incumbent
  incumbent_at =
      entries_pairs 20 bytes (header ++ pairs 19 f.path) f.incumbent _ _ (incumbent_entries n bytes) split_path
      (omega (arith, length-append header (pairs 19 f.path), header_length, length_pairs 19 f.path, path_count f)) (sym (incumbent_count f))

  -- Bytes in the form say this checkpoint.
  pub said_formed : said n bytes ≡ says_formed
  unfolding said
  said_formed = λ i. record {
    minimum = get_or (f.whole i) 1 0;
    steps = from_little (steps_at i);
    depth = path_count f i;
    path = padded (path_at i);
    finished = finished_of (state_at f i);
    holds = holds_of (state_at f i);
    incumbent = padded (incumbent_at i);
  }

-- a state is that of its two parts
state_back : (state : ℕ) → state ≤ 3 → state_byte (finished_of state) (holds_of state) ≡ state
state_back zero h = refl
state_back (suc zero) h = refl
state_back (suc (suc zero)) h = refl
state_back (suc (suc (suc zero))) h = refl
state_back (suc (suc (suc (suc state)))) h = absurd (omega arith)

-- the entries of a padded list
padded_values : (l : List ℕ) (k : ℕ) → k ≡ length l → values_below k (λ i. get_or (padded l) i 0) ≡ l
padded_values l k e =
    values_front k (λ i. get_or (padded l) i 0) (padded l) (omega (arith, length-append l (replicate (64 - length l) 0))) (λ i h. refl)
    ∙ take_at l _ k (sym e)

module _ {n : ℕ} {bytes : List ℕ} (small : Bytes bytes) (f : Formed n bytes) where
  -- the eight bytes of the steps are those of their number
  steps_small : Bytes f.steps
  steps_small i h =
      let inside : suc (suc (suc i)) < length bytes = omega (arith, ap length f.whole, length-append f.steps (after_steps f)) in
      let same : get_or bytes (suc (suc (suc i))) 0 ≡ get_or f.steps i 0 =
      ap (λ (l : List ℕ). get_or l (suc (suc (suc i))) 0) f.whole ∙ get_or-append f.steps (after_steps f) 0 i h in
      rw same at (small (suc (suc (suc i))) inside)

  steps_back : little_endian 8 (from_little f.steps) ≡ f.steps
  steps_back = ap (λ (k : ℕ). little_endian k (from_little f.steps)) (sym f.steps_length) ∙ from_little_lem f.steps steps_small

  -- The checkpoint that bytes in the form say has these bytes.
  formed_back : checkpoint_bytes n (says_formed f) ≡ bytes
  formed_back =
      saved_bytes n (says_formed f)
      ∙ (λ i. form_bytes f.minimum (steps_back i) (state_back f.state f.state_max i)
      (padded_values f.path (length f.path) refl i) (padded_values f.incumbent (cond (holds_of f.state) n 0) (sym f.incumbent_length) i))
      ∙ sym f.whole

-- Bytes in the form, loaded and saved again, are the same bytes.
pub load_save : (n : ℕ) (bytes : List ℕ) → Bytes bytes → form_fault n bytes ≡ None → checkpoint_bytes n (said n bytes) ≡ bytes
load_save n bytes small e =
    let f = formed n bytes e in
    ap (checkpoint_bytes n) (said_formed f) ∙ formed_back small f

-- of 64 entries that are 0 from the k-th on, the first k, padded, are all
values_padded : (k : ℕ) (l : List ℕ) → length l ≡ 64 → k ≤ 64 → ((i : ℕ) → k ≤ i → i < 64 → get_or l i 0 ≡ 0)
    → padded (values_below k (λ i. get_or l i 0)) ≡ l
values_padded k l long few rest =
    ap padded (values_front k (λ i. get_or l i 0) l (omega arith) (λ i h. refl)) ∙ padded_back k l long few rest

-- A checkpoint is what its bytes say: where its steps are 64 bits, its arrays have 64 entries, and those not in use are 0.
pub save_said : (connected : Bool) (P : Problem) (c : Checkpoint) → P.old.order ≤ 64 → Sized c → InShape connected P c → said P.old.order (checkpoint_bytes P.old.order c) ≡ c
unfolding saved_formed
save_said connected P c few sized shape =
    said_formed (saved_formed n c shape.depth_max)
    ∙ (λ i. record {
      minimum = c.minimum;
      steps = little_back 8 c.steps sized.steps_fit i;
      depth = length_values c.depth (λ k. get_or c.path k 0) i;
      path = values_padded c.depth c.path sized.path_long (omega (arith, shape.depth_max)) shape.path_rest i;
      finished = (state_says c.finished c.holds).1 i;
      holds = (state_says c.finished c.holds).0 i;
      incumbent = incumbent_back c.holds refl i;
    })
  where
    n : ℕ
    n = P.old.order

    incumbent_back : (b : Bool) → c.holds ≡ b → padded (values_below (cond b n 0) (λ i. get_or c.incumbent i 0)) ≡ c.incumbent
    incumbent_back true e = values_padded n c.incumbent sized.incumbent_long few shape.incumbent_rest
    incumbent_back false e = values_padded 0 c.incumbent sized.incumbent_long (omega arith) (λ i h. shape.none_rest e i)
