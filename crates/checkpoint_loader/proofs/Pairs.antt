-- Bytes in pairs, each entry of a list after one and the same mark, and the entries taken out of them again.
use mathlib.Core.Path.{◌≡◌, refl, sym, ap, ap₂, ◌∙◌}
use mathlib.Core.List.{List, [], ◌∷◌, ◌++◌}
use Prim.Native.Nat.{ℕ, zero, suc, ◌+◌, ◌*◌, ◌≤◌, ◌<◌}
use native.Mathlib.Omega.{arith}
use lib.ListN.{length, get_or, take, length-append}
use lib.Seq.{get_or-append-add, take-suc, take-length}
use Rattle.bounded.specs.Below.{run_below}
use Rattle.checkpoint_saver.specs.Saving.{entry_bytes}
use Rattle.checkpoint_loader.specs.Loading.{entries}
use Rattle.checkpoint_loader.specs.Formed.{pairs}

-- Pairs take two bytes each.
pub length_pairs : (mark : ℕ) (l : List ℕ) → length (pairs mark l) ≡ 2 * length l
unfolding pairs
length_pairs mark [] = refl
length_pairs mark (b ∷ l) = omega (arith, length_pairs mark l)

-- the pairs of two lists, one after the other
pairs_append : (mark : ℕ) (l m : List ℕ) → pairs mark (l ++ m) ≡ pairs mark l ++ pairs mark m
unfolding pairs
pairs_append mark [] m = refl
pairs_append mark (b ∷ l) m = ap (λ (t : List ℕ). mark ∷ b ∷ t) (pairs_append mark l m)

-- f 0, f 1, .. f (k - 1)
abbrev pub values_below : ℕ → (ℕ → ℕ) → List ℕ
values_below k f = run_below k (λ i. f i ∷ [])

-- They are k values.
pub length_values : (k : ℕ) (f : ℕ → ℕ) → length (values_below k f) ≡ k
unfolding run_below
length_values zero f = refl
length_values (suc k) f = omega (arith, length-append (values_below k f) (f k ∷ []), length_values k f)

-- Where they are a list's first k entries, they are its front.
pub values_front : (k : ℕ) (f : ℕ → ℕ) (l : List ℕ) → k ≤ length l → ((i : ℕ) → i < k → f i ≡ get_or l i 0) → values_below k f ≡ take k l
unfolding run_below
values_front zero f l h each = refl
values_front (suc k) f l h each =
    ap₂ (λ (t : List ℕ) (b : ℕ). t ++ (b ∷ [])) (values_front k f l (omega arith) (λ i early. each i (omega arith))) (each k (omega arith))
    ∙ sym (take-suc l k 0 h)

-- Entries, each after its mark, are the pairs of their values.
pub entry_pairs : (mark : ℕ) (l : List ℕ) (k : ℕ) → entry_bytes mark l k ≡ pairs mark (values_below k (λ i. get_or l i 0))
unfolding pairs run_below
entry_pairs mark l zero = refl
entry_pairs mark l (suc k) =
    ap (λ (t : List ℕ). t ++ (mark ∷ get_or l k 0 ∷ [])) (entry_pairs mark l k)
    ∙ sym (pairs_append mark (values_below k (λ i. get_or l i 0)) (get_or l k 0 ∷ []))

-- the second byte of each pair is its entry
get_D_pairs : (mark : ℕ) (l rest : List ℕ) (i : ℕ) → i < length l → get_or (pairs mark l ++ rest) (2 * i + 1) 0 ≡ get_or l i 0
unfolding pairs
get_D_pairs mark [] rest i h = absurd (omega arith)
get_D_pairs mark (b ∷ l) rest zero h = refl
get_D_pairs mark (b ∷ l) rest (suc i) h =
    let place : 2 * suc i + 1 ≡ suc (suc (2 * i + 1)) = omega arith in
    ap (λ (j : ℕ). get_or (mark ∷ b ∷ (pairs mark l ++ rest)) j 0) place ∙ get_D_pairs mark l rest i (omega arith)

-- Where the pairs of a list stand, its entries are read.
pub entries_pairs : (mark : ℕ) (bytes front l rest : List ℕ) (from k : ℕ) → bytes ≡ front ++ (pairs mark l ++ rest)
    → length front ≡ from → length l ≡ k → entries bytes from k ≡ l
entries_pairs mark bytes front l rest from k whole before count =
    values_front k (λ i. get_or bytes (from + 2 * i + 1) 0) l (omega arith) each ∙ ap (λ (m : ℕ). take m l) (sym count) ∙ take-length l
  where
    each : (i : ℕ) → i < k → get_or bytes (from + 2 * i + 1) 0 ≡ get_or l i 0
    each i h =
        let place : from + 2 * i + 1 ≡ length front + (2 * i + 1) = omega arith in
        ap₂ (λ (b : List ℕ) (j : ℕ). get_or b j 0) whole place
        ∙ get_or-append-add front (pairs mark l ++ rest) (2 * i + 1) 0
        ∙ get_D_pairs mark l rest i (omega arith)
