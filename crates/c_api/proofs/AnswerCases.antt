-- What holds of each way that answers go holds of what is made of them.
use Prim.Native.Nat.{ℕ}
use Rattle.answers.specs.Answer.{Answer, passed, accepted, refused, refused_at, when_passed, when_accepted}

-- R is what is known of each answer
module _ {A : Type 0} (C : A → Type 0) (R : Answer → Type 0) (refusal : Answer → A) (on-refusal : (a : Answer) → R a → C (refusal a)) where
  pub passed_cases : (a : Answer) → R a → {next : A} → C next → C (when_passed a next refusal)
  passed_cases passed r h = h
  passed_cases (accepted n) r h = on-refusal (accepted n) r
  passed_cases (refused n) r h = on-refusal (refused n) r
  passed_cases (refused_at n at) r h = on-refusal (refused_at n at) r

  accepted_cases : (a : Answer) → R a → {next : ℕ → A} → ((n : ℕ) → C (next n)) → C (when_accepted a next refusal)
  accepted_cases passed r h = on-refusal passed r
  accepted_cases (accepted n) r h = h n
  accepted_cases (refused n) r h = on-refusal (refused n) r
  accepted_cases (refused_at n at) r h = on-refusal (refused_at n at) r

  -- a load, a call on what is loaded, and a save of what the call leaves
  pub saved_cases : (load call save : Answer) → R load → R call → R save → {done : ℕ → ℕ → A} → ((ceiling count : ℕ) → C (done ceiling count))
      → C (when_passed load (when_accepted call (λ ceiling. when_accepted save (λ count. done ceiling count) refusal) refusal) refusal)
  saved_cases load call save l q w h = passed_cases load l (accepted_cases call q (λ ceiling. accepted_cases save w (h ceiling)))
