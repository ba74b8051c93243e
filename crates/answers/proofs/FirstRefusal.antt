-- The first refusal of two answers: passed only where both are, and refused as one of them is.
use mathlib.Core.Path.{◌≡◌, refl}
use mathlib.Core.Bool.{true≢false}
use Rattle.answers.specs.Answer.{Answer, passed, accepted, refused, refused_at, first_refusal}
use Rattle.answers.proofs.RefusalNumbers.{Plain}

pub both_passed : (a b : Answer) → first_refusal a b ≡ passed → (a ≡ passed) × (b ≡ passed)
both_passed passed b e = (refl, e)
both_passed (accepted n) b e = absurd (true≢false (cc))
both_passed (refused n) b e = absurd (true≢false (cc))
both_passed (refused_at n at) b e = absurd (true≢false (cc))

pub first_plain : (a b : Answer) → Plain a → Plain b → Plain (first_refusal a b)
first_plain passed b h k = k
first_plain (accepted n) b h k = h
first_plain (refused n) b h k = h
first_plain (refused_at n at) b h k = h
