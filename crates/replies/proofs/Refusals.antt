-- What an error says is a refusal, and a refusal is handed on.
use mathlib.Core.Path.{◌≡◌, refl, sym}
use mathlib.Core.Bool.{true, true≢false}
use Prim.Native.Nat.{ℕ}
use Rattle.answers.specs.Answer.{Answer, passed, accepted, refused, refused_at, is_refused, when_passed, when_accepted}
use Rattle.checkpoint_saver.specs.declared.SaveError.{SaveError}
use Rattle.checkpoint_saver.specs.declared.SaveError.TheVariants as save
use Rattle.checkpoint_saver.specs.Answers.{save_refusal}
use Rattle.checkpoint_loader.specs.declared.LoadError.{LoadError}
use Rattle.checkpoint_loader.specs.declared.LoadError.TheVariants as load
use Rattle.checkpoint_loader.specs.Answers.{load_refusal}

pub save_refused : (e : SaveError) → is_refused (save_refusal e) ≡ true
save_refused (save.Shape e) = refl
save_refused save.TooShort = refl

pub load_refused : (e : LoadError) → is_refused (load_refusal e) ≡ true
load_refused (load.Shape e) = refl
load_refused (load.Malformed at) = refl

-- what follows on a value does not follow on it
pub off_accepted : {A : Type 0} (done : ℕ → A) (refusal : Answer → A) (a : Answer) → is_refused a ≡ true → refusal a ≡ when_accepted a done refusal
off_accepted done refusal passed e = absurd (true≢false (sym e))
off_accepted done refusal (accepted n) e = absurd (true≢false (sym e))
off_accepted done refusal (refused n) e = refl
off_accepted done refusal (refused_at n at) e = refl

pub off_passed : {A : Type 0} (done : A) (refusal : Answer → A) (a : Answer) → is_refused a ≡ true → refusal a ≡ when_passed a done refusal
off_passed done refusal passed e = absurd (true≢false (sym e))
off_passed done refusal (accepted n) e = absurd (true≢false (sym e))
off_passed done refusal (refused n) e = refl
off_passed done refusal (refused_at n at) e = refl
