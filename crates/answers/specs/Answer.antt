-- What an answer says in 01's terms: accepted, with a value or with none, or refused, with 01's number and for some numbers a place
-- (01, "Refusals by place of checking").
use Rattle.std.specs.Prelude.{Bool, true, false, Result, Ok, Err, ℕ}

pub data Answer : Type 0 where
  -- accepted, with nothing to return
  passed : Answer
  accepted : ℕ → Answer
  refused : ℕ → Answer
  -- number, then place
  refused_at : ℕ → ℕ → Answer

-- what each of the four makes
abbrev pub on_answer : {A : Type 0} → A → (ℕ → A) → (ℕ → A) → (ℕ → ℕ → A) → Answer → A
on_answer p a r q passed = p
on_answer p a r q (accepted n) = a n
on_answer p a r q (refused n) = r n
on_answer p a r q (refused_at n at) = q n at

-- what follows where the answer is `passed`, and else what becomes of the answer, handed on as it is
abbrev pub when_passed : {A : Type 0} → Answer → A → (Answer → A) → A
when_passed answer next otherwise =
    on_answer next (λ n. otherwise (accepted n)) (λ n. otherwise (refused n)) (λ n at. otherwise (refused_at n at)) answer

-- what follows where the answer is `accepted`, and else what becomes of the answer
abbrev pub when_accepted : {A : Type 0} → Answer → (ℕ → A) → (Answer → A) → A
when_accepted answer next otherwise = on_answer (otherwise passed) next (λ n. otherwise (refused n)) (λ n at. otherwise (refused_at n at)) answer

-- "the first condition met in this order gives it": the second answer counts where the first one is `passed`
abbrev pub first_refusal : Answer → Answer → Answer
first_refusal first second = when_passed first second (λ refusal. refusal)

abbrev pub is_refused : Answer → Bool
is_refused answer = on_answer false (λ n. false) (λ n. true) (λ n at. true) answer

-- the number of a refusal, or 0
abbrev pub refusal_number : Answer → ℕ
refusal_number answer = on_answer 0 (λ n. 0) (λ n. n) (λ n at. n) answer

-- the value of an accepted call or the place of a refusal, and 0 where neither is given
abbrev pub value_of : Answer → ℕ
value_of answer = on_answer 0 (λ n. n) (λ n. 0) (λ n at. at) answer

-- what a Result says: its value by the first, its error by the second
abbrev pub result_answer : {T E : Type 0} → (T → Answer) → (E → Answer) → Result T E → Answer
result_answer accept refuse (Ok x) = accept x
result_answer accept refuse (Err e) = refuse e

-- what a Result says whose value is the number that is returned
abbrev pub counted : {E : Type 0} → (E → Answer) → Result ℕ E → Answer
counted refuse r = result_answer accepted refuse r

-- what a Result says that returns nothing
abbrev pub tested : {E : Type 0} → (E → Answer) → Result Unit E → Answer
tested refuse r = result_answer (λ _. passed) refuse r
