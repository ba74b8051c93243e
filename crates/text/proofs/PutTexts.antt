-- Laws of a text put into a buffer; the chief one: two texts put one after the other are one text put.
use mathlib.Core.Path.{◌≡◌, refl, sym, ap, subst, ◌∙◌}
use mathlib.Core.List.{List, [], ◌∷◌, ◌++◌}
use Prim.Native.Nat.{ℕ, zero, suc, ◌+◌, ◌-◌, ◌≤◌, ◌<◌}
use native.Mathlib.Nat.{add-zero, zero-add, sub-zero, zero-sub}
use native.Mathlib.Numerals.{unary_clauses}
use native.Mathlib.Omega.{arith}
use lib.ListN.{length, take, set, length-append, length-take}
use lib.Seq.{sets, length-sets, take-nil, take_all}
use Rattle.answers.specs.Output.{overwrite}
use Rattle.answers.proofs.Stores.{sets_append, sets_front}
use Rattle.text.specs.Put.{fitting, Put}
use Rattle.text.specs.Writes.{Writes}
use Rattle.text.specs.declared.Writer.{Writer}

-- What holds of a text holds of an equal one.
pub put_same : {s t before after : List ℕ} {at p : ℕ} → s ≡ t → Put s before at p after → Put t before at p after
put_same {before} {after} {at} {p} e put = subst (λ (l : List ℕ). Put l before at p after) e put

-- No text changes nothing.
pub put_none : (before : List ℕ) (at : ℕ) → Put [] before at at before
put_none before at =
    record {
      place_is = rw (take-nil {A = ℕ} (length before - at)) (sym (add-zero at));
      bytes_are = rw (take-nil {A = ℕ} (length before - at));
    }

-- One byte is stored where there is room,
pub put_one : (b : ℕ) (before : List ℕ) (at : ℕ) → at < length before → Put (b ∷ []) before at (at + 1) (set before at b)
put_one b before at h =
    let one : fitting (b ∷ []) before at ≡ b ∷ [] = take_all (length before - at) (b ∷ []) (omega arith) in
    record { place_is = rw one; bytes_are = rw one }

-- and where there is none, nothing is.
pub put_full : (text before : List ℕ) (at : ℕ) → length before ≤ at → Put text before at at before
put_full text before at h =
    let full : length before - at ≡ 0 = omega arith in
    record { place_is = rw full (sym (add-zero at)); bytes_are = rw full }

-- A buffer keeps its length.
pub put_kept : {text before after : List ℕ} {at p : ℕ} → Put text before at p after → length after ≡ length before
put_kept {text} {before} {at} put = ap length put.bytes_are ∙ length-sets before at (fitting text before at)

-- the first bytes of two texts
take_both : (n : ℕ) (s t : List ℕ) → take n (s ++ t) ≡ take n s ++ take (n - length s) t
take_both n [] t = rw (take-nil {A = ℕ} n, sub-zero n)
take_both zero (a ∷ s) t = rw (zero-sub (suc (length s)))
take_both (suc n) (a ∷ s) t = simp unary_clauses (ap (λ (l : List ℕ). a ∷ l) (take_both n s t))

-- Two texts put one after the other are one text put.
pub put_then : {s t before mid after : List ℕ} {at p q : ℕ} → Put s before at p mid → Put t mid p q after → Put (s ++ t) before at q after
put_then {s} {t} {before} {mid} {after} {at} {p} {q} first next =
    let room : length mid - p ≡ length before - at - length s =
    omega (arith, first.place_is, put_kept first, length-take (length before - at) s) in
    let both : fitting (s ++ t) before at ≡ fitting s before at ++ fitting t mid p =
    take_both (length before - at) s t ∙ ap (λ (n : ℕ). fitting s before at ++ take n t) (sym room) in
    record {
      place_is = omega (arith, first.place_is, next.place_is, ap length both, length-append (fitting s before at) (fitting t mid p));
      bytes_are =
          next.bytes_are
          ∙ ap (λ (l : List ℕ). sets l p (fitting t mid p)) first.bytes_are
          ∙ ap (λ (i : ℕ). sets (sets before at (fitting s before at)) i (fitting t mid p)) first.place_is
          ∙ sym (sets_append (fitting s before at) (fitting t mid p) before at)
          ∙ ap (sets before at) (sym both);
    }

-- A text with room at the front of a buffer is put there whole.
pub put_front : {text before after : List ℕ} {p : ℕ} → Put text before 0 p after → length text ≤ length before
    → (p ≡ length text) × (after ≡ overwrite text before)
put_front {text} {before} put h =
    let whole : fitting text before 0 ≡ text = take_all (length before - 0) text (omega arith) in (
      put.place_is ∙ zero-add _ ∙ ap length whole,
      put.bytes_are ∙ ap (sets before 0) whole ∙ sets_front text before h,
    )

-- So it is with what a writer puts.
pub writes_same : {s t : List ℕ} {before after : Writer} → s ≡ t → Writes s before after → Writes t before after
writes_same e put = record { same_buffer = put.same_buffer; text_put = put_same e put.text_put }

pub writes_none : (writer : Writer) → Writes [] writer writer
writes_none writer = record { same_buffer = refl; text_put = put_none writer.out.now writer.at }

pub writes_then : {s t : List ℕ} {before mid after : Writer} → Writes s before mid → Writes t mid after → Writes (s ++ t) before after
writes_then first next =
    record { same_buffer = next.same_buffer ∙ first.same_buffer; text_put = put_then first.text_put next.text_put }

-- What a writer puts from the front of its buffer on.
pub writes_front : {text buffer : List ℕ} {count : ℕ} {before after : Writer} → Writes text before after → before.at ≡ 0 → before.out.now ≡ buffer
    → count ≡ after.at → Put text buffer 0 count after.out.now
writes_front put front same counted = rw (← front, ← same, counted) put.text_put
