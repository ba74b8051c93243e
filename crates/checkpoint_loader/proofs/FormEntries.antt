-- The form after the header: bytes lead from there to the end exactly where they are the entries of a path, those of a mapping if one is held, and 0.
use mathlib.Core.Path.{◌≡◌, refl, sym, ap, ◌∙◌}
use mathlib.Core.Bool.{Bool, true, false, cond, not, ◌&&◌, true≢false, and-eq-true_iff}
use mathlib.Core.List.{List, [], ◌∷◌, ◌++◌}
use Rattle.std.specs.Prelude.{Some}
use Rattle.std.proofs.lemmas.Option.{same_Some}
use Prim.Native.Nat.{ℕ, zero, suc, ◌+◌, ◌-◌, ◌≤◌, ◌<◌}
use native.Mathlib.Omega.{arith}
use lib.Dec.{eqb, ltb}
use lib.ListN.{length}
use borrow.Author.Tests.{eqb-true, ltb-true, lt-ltb, le-ltb, ltb-false, not-true}
use Rattle.checkpoint_loader.specs.declared.form.Stage.{Stage}
use Rattle.checkpoint_loader.specs.declared.form.Stage.TheVariants.{Path, PathByte, Incumbent, IncumbentByte, Done}
use Rattle.checkpoint_loader.specs.Form.{stage_if, or_stage, next}
use Rattle.checkpoint_loader.specs.Formed.{pairs}
use Rattle.checkpoint_loader.proofs.FormWalk.{Ends, ended, byte, first_byte, any_byte, one_byte}

-- the mapping that bytes say, m entries of it, and the end
pub record IncumbentSection (m : ℕ) (bytes : List ℕ) : Type 0 where
  pub incumbent : List ℕ
  pub incumbent_length : length incumbent ≡ m
  pub whole : bytes ≡ pairs 20 incumbent ++ (0 ∷ [])

-- the path that bytes say, at most m entries of it, with the mapping if one is held, and the end
pub record PathSection (n m : ℕ) (holds : Bool) (bytes : List ℕ) : Type 0 where
  pub path : List ℕ
  pub incumbent : List ℕ
  pub path_max : length path ≤ m
  pub incumbent_length : length incumbent ≡ cond holds n 0
  pub whole : bytes ≡ pairs 19 path ++ (pairs 20 incumbent ++ (0 ∷ []))

-- nothing comes after the end
nothing_after : {n : ℕ} {bytes : List ℕ} → Ends n Done bytes → bytes ≡ []
unfolding next
nothing_after ended = refl
nothing_after (byte stage b later e more) = absurd (true≢false (cc))

-- one more entry of the mapping
incumbent_entry : {m : ℕ} {bytes rest : List ℕ} (b : ℕ) → bytes ≡ 20 ∷ b ∷ rest → IncumbentSection m rest → IncumbentSection (suc m) bytes
unfolding pairs
incumbent_entry b e section = record {
  incumbent = b ∷ section.incumbent;
  incumbent_length = ap suc section.incumbent_length;
  whole = e ∙ ap (λ (t : List ℕ). 20 ∷ b ∷ t) section.whole;
}

module _ (n : ℕ) where
  -- After k entries of a mapping the m that are left follow, and the end.
  pub incumbent_section : (m k : ℕ) (bytes : List ℕ) → k + m ≡ n → Ends n (Incumbent k) bytes → IncumbentSection m bytes
  unfolding next pairs
  incumbent_section zero k bytes e ends =
      let last = one_byte refl ends Done 0 (λ b. rw (le-ltb k n (omega arith))) in
      record { incumbent = []; incumbent_length = refl; whole = last.1 ∙ ap (◌∷◌ 0) (nothing_after last.2) }
  incumbent_section (suc m) k bytes e ends =
      let mark = one_byte refl ends (IncumbentByte k) 20 (λ b. rw (lt-ltb k n (omega arith))) in
      let entry = any_byte refl mark.2 (Incumbent (k + 1)) (λ b. refl) in
      incumbent_entry entry.0 (mark.1 ∙ ap (◌∷◌ 20) entry.2) (incumbent_section m (k + 1) entry.1 (omega arith) entry.3)

  -- what may follow k path entries: another one, or the mapping if one is held, and the end
  data PathNext (holds : Bool) (k : ℕ) (bytes : List ℕ) : Type 0 where
    another : (b : ℕ) (rest : List ℕ) → bytes ≡ 19 ∷ b ∷ rest → k < n → Ends n (Path holds (k + 1)) rest → PathNext holds k bytes
    no_other : IncumbentSection (cond holds n 0) bytes → PathNext holds k bytes

  -- where no mapping is due, it has no entry
  none_incumbent : (holds : Bool) → not (holds && ltb 0 n) ≡ true → cond holds n 0 ≡ 0
  none_incumbent true e = omega (arith, ltb-false 0 n (not-true _ e))
  none_incumbent false e = refl

  -- the byte after k path entries decides which
  path_next : (holds : Bool) (k : ℕ) (bytes : List ℕ) → Ends n (Path holds k) bytes → PathNext holds k bytes
  unfolding next pairs
  path_next holds k bytes ends =
      let (b, rest, later, whole, e, more) = first_byte refl ends in
      go b rest later whole more (eqb b 19 && ltb k n) (eqb b 20 && holds && ltb 0 n) (eqb b 0 && not (holds && ltb 0 n)) refl refl refl e
    where
      go : (b : ℕ) (rest : List ℕ) (later : Stage) → bytes ≡ b ∷ rest → Ends n later rest
          → (t u v : Bool) → (eqb b 19 && ltb k n) ≡ t → (eqb b 20 && holds && ltb 0 n) ≡ u → (eqb b 0 && not (holds && ltb 0 n)) ≡ v
          → or_stage (stage_if t (PathByte holds k)) (or_stage (stage_if u (IncumbentByte 0)) (stage_if v Done)) ≡ Some later
          → PathNext holds k bytes
      go b rest later whole more true u v p q r e =
          let both = (and-eq-true_iff (eqb b 19) (ltb k n)).0 p in
          let second = any_byte {stage = PathByte holds k} refl (rw (← same_Some _ _ e) at more) (Path holds (k + 1)) (λ b. refl) in
          another second.0 second.1 (cc (eqb-true b 19 both.0, second.2)) (ltb-true k n both.1) second.3
      go b rest later whole more false true v p q r e =
          let all = (and-eq-true_iff (eqb b 20 && holds) (ltb 0 n)).0 q in
          let both = (and-eq-true_iff (eqb b 20) holds).0 all.0 in
          let second = any_byte {stage = IncumbentByte 0} refl (rw (← same_Some _ _ e) at more) (Incumbent 1) (λ b. refl) in
          let positive : 0 < n = ltb-true 0 n all.1 in
          let count : suc (n - 1) ≡ cond holds n 0 = rw both.1 (omega arith) in
          no_other (rw (← count)
          (incumbent_entry second.0 (cc (eqb-true b 20 both.0, second.2)) (incumbent_section (n - 1) 1 second.1 (omega arith) second.3)))
      go b rest later whole more false false true p q r e =
          let both = (and-eq-true_iff (eqb b 0) (not (holds && ltb 0 n))).0 r in
          let end : rest ≡ [] = nothing_after {n = n} {bytes = rest} (rw (← same_Some _ _ e) at more) in
          no_other (record { incumbent = []; incumbent_length = sym (none_incumbent holds both.1); whole = cc (eqb-true b 0 both.0) })
      go b rest later whole more false false false p q r e = absurd (true≢false (cc))

  module _ (holds : Bool) where
    -- one more entry of the path
    path_entry : {m : ℕ} {bytes rest : List ℕ} (b : ℕ) → bytes ≡ 19 ∷ b ∷ rest → PathSection n m holds rest → PathSection n (suc m) holds bytes
    unfolding pairs
    path_entry b e section = record {
      path = b ∷ section.path;
      incumbent = section.incumbent;
      path_max = omega (arith, section.path_max);
      incumbent_length = section.incumbent_length;
      whole = e ∙ ap (λ (t : List ℕ). 19 ∷ b ∷ t) section.whole;
    }

    -- no more of them
    path_none : {m : ℕ} {bytes : List ℕ} → IncumbentSection (cond holds n 0) bytes → PathSection n m holds bytes
    unfolding pairs
    path_none section = record {
      path = [];
      incumbent = section.incumbent;
      path_max = omega arith;
      incumbent_length = section.incumbent_length;
      whole = section.whole;
    }

    -- After k path entries at most m follow, then the mapping if one is held, and the end.
    pub path_section : (m k : ℕ) (bytes : List ℕ) → k + m ≡ n → Ends n (Path holds k) bytes → PathSection n m holds bytes
    path_section zero k bytes e ends = elim (path_next holds k bytes ends) [
      | another b rest whole room more ↦ absurd (omega arith)
      | no_other section ↦ path_none section
    ]
    path_section (suc m) k bytes e ends = elim (path_next holds k bytes ends) [
      | another b rest whole room more ↦ path_entry b whole (path_section m (k + 1) rest (omega arith) more)
      | no_other section ↦ path_none section
    ]

  -- The entries of a mapping that are left, and the end, lead from there to the end.
  pub incumbent_ends : (k : ℕ) (incumbent : List ℕ) → k + length incumbent ≡ n → Ends n (Incumbent k) (pairs 20 incumbent ++ (0 ∷ []))
  unfolding next pairs
  incumbent_ends k [] e = byte (Incumbent k) 0 Done (rw (le-ltb k n (omega arith))) ended
  incumbent_ends k (b ∷ incumbent) e =
      byte (Incumbent k) 20 (IncumbentByte k) (rw (lt-ltb k n (omega arith)))
      (byte (IncumbentByte k) b (Incumbent (k + 1)) refl (incumbent_ends (k + 1) incumbent (omega arith)))

  -- the mapping if one is held, and the end
  last_ends : (holds : Bool) (k : ℕ) (incumbent : List ℕ) → length incumbent ≡ cond holds n 0 → Ends n (Path holds k) (pairs 20 incumbent ++ (0 ∷ []))
  unfolding next pairs
  last_ends true k [] e = byte (Path true k) 0 Done (rw (le-ltb 0 n (omega arith))) ended
  last_ends true k (b ∷ incumbent) e =
      byte (Path true k) 20 (IncumbentByte 0) (rw (lt-ltb 0 n (omega arith)))
      (byte (IncumbentByte 0) b (Incumbent 1) refl (incumbent_ends 1 incumbent (omega arith)))
  last_ends false k [] e = byte (Path false k) 0 Done refl ended
  last_ends false k (b ∷ incumbent) e = absurd (omega arith)

  -- Entries of a path, with the mapping if one is held, and the end, lead from there to the end.
  pub path_ends : (holds : Bool) (k : ℕ) (path incumbent : List ℕ) → k + length path ≤ n → length incumbent ≡ cond holds n 0
      → Ends n (Path holds k) (pairs 19 path ++ (pairs 20 incumbent ++ (0 ∷ [])))
  unfolding next pairs
  path_ends holds k [] incumbent few e = last_ends holds k incumbent e
  path_ends holds k (b ∷ path) incumbent few e =
      byte (Path holds k) 19 (PathByte holds k) (rw (lt-ltb k n (omega arith)))
      (byte (PathByte holds k) b (Path holds (k + 1)) refl (path_ends holds (k + 1) path incumbent (omega arith) e))
