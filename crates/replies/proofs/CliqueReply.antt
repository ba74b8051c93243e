-- What clique branching replies, arm by arm of the answer that the code matches on.
use mathlib.Core.Path.{◌≡◌, refl, sym, ap, ◌∙◌}
use mathlib.Core.Bool.{Bool, cond, true, true≢false}
use mathlib.Core.List.{List, []}
use mathlib.Core.Option.{Option, none, some}
use Prim.Native.Nat.{ℕ, ◌-◌, ◌≤◌, ◌<◌}
use native.Mathlib.Omega.{arith}
use Rattle.std.specs.Prelude as Option
use Rattle.std.specs.Prelude.{Result, Some, None, Ok, Err}
use lib.ListN.{length, take, replicate, length-take}
use lib.Seq.{take-append_seam}
use borrow.Author.Tests.{le-leb, lt-leb}
use Rattle.answers.specs.Answer.{Answer, passed, accepted, refused, refused_at, is_refused, when_passed}
use Rattle.answers.specs.Output.{overwrite}
use Rattle.answers.proofs.RefusalNumbers.{Plain}
use Rattle.problem.specs.Problem.{Problem}
use Rattle.mapping.specs.Common.{size}
use Rattle.clique.specs.declared.CliqueError.{CliqueError}
use Rattle.clique.specs.declared.CliqueError.TheVariants.{Flawed, ManyVertices}
use Rattle.clique.specs.Answers.{clique_refusal, called_of}
use Rattle.clique.specs.Branching.{branch}
use Rattle.clique.specs.Call.{Called, padded, called_with, clique_answer, clique_call}
use Rattle.clique.proofs.BranchBest.{branch_length}
use Rattle.clique.proofs.CliquePasses.{clique_plain, passes_clique}
use Rattle.replies.specs.declared.Reply.{Reply}
use Rattle.replies.specs.Reply.{reply, reply_of, too_short}
use Rattle.replies.specs.CliqueReply.{CliqueReply, clique_reply, no_mapping, held_reply, branch_reply}

-- a call, and a reply, by what the tests answer and what is held
abbrev call_on : Answer → Option (List ℕ) → Called
call_on a held = when_passed a (called_with held) (λ refusal. record { answer = refusal; mapping = padded [] })

abbrev reply_on : Answer → Option (List ℕ) → List ℕ → CliqueReply
reply_on a held mapping = when_passed a (held_reply held mapping) (λ (refusal : Answer). no_mapping mapping (reply_of refusal))

module _ (P : Problem) (minimum : ℕ) (r : Result (Option.Option (List ℕ)) CliqueError) (called : called_of r ≡ clique_call P minimum) where
  module _ (bytes : List ℕ) (arm : r ≡ Ok (Some bytes)) where
    told : called_of (Ok (Some bytes)) ≡ clique_call P minimum
    told = ap called_of (sym arm) ∙ called

    -- What is held is the first entries of the eight bytes, one for each old vertex.
    found_held : (clique_answer P ≡ passed) × (branch P minimum ≡ some (take P.old.order bytes))
    unfolding clique_call
    found_held =
        go (clique_answer P) (branch P minimum) refl refl (clique_plain P)
        (ap (λ (q : Called). q.answer) told) (ap (λ (q : Called). q.mapping) told)
      where
        go : (a : Answer) (held : Option (List ℕ)) → clique_answer P ≡ a → branch P minimum ≡ held → Plain a
            → accepted 1 ≡ (call_on a held).answer → bytes ≡ (call_on a held).mapping
            → (a ≡ passed) × (held ≡ some (take P.old.order bytes))
        go passed none e b plain one same = absurd (let z : ◌≡◌ {A = ℕ} 1 0 = cc in omega arith)
        go passed (some l) e b plain one same =
            let long : P.old.order ≡ length l = sym (branch_length P (passes_clique P e).0 minimum l b) in
            (refl, ap some (sym (ap (take P.old.order) same ∙ ap (λ (n : ℕ). take n (padded l)) long ∙ take-append_seam l (replicate (8 - length l) 0))))
        go (accepted n) held e b plain one same = absurd plain
        go (refused n) held e b plain one same = absurd (true≢false (cc))
        go (refused_at n at) held e b plain one same = absurd (true≢false (cc))

    -- these entries
    abbrev entries : List ℕ
    entries = take P.old.order bytes

    -- the reply, by whether they fit
    abbrev by_room : List ℕ → Bool → CliqueReply
    by_room mapping fits = cond fits (clique_reply (reply 0 1) (size entries) (overwrite entries mapping)) (no_mapping mapping too_short)

    -- There is an entry for each old vertex.
    held_length : length entries ≡ P.old.order
    held_length = branch_length P (passes_clique P found_held.0).0 minimum entries found_held.1

    -- The eight are as many.
    pub found_long : P.old.order ≤ length bytes
    found_long = omega (arith, held_length, length-take P.old.order bytes)

    held_reply_lem : (mapping : List ℕ) → held_reply (some entries) mapping ≡ branch_reply P minimum mapping
    unfolding branch_reply
    held_reply_lem mapping =
        ap (λ (held : Option (List ℕ)). held_reply held mapping) (sym found_held.1)
        ∙ ap (λ (a : Answer). reply_on a (branch P minimum) mapping) (sym found_held.0)

    -- A held mapping that does not fit is refused.
    pub branch_short : (mapping : List ℕ) → length mapping < P.old.order → no_mapping mapping too_short ≡ branch_reply P minimum mapping
    branch_short mapping short =
        let e : length mapping < length entries = omega (arith, held_length) in
        ap (by_room mapping) (sym (lt-leb _ _ e))
        ∙ held_reply_lem mapping

    -- One that fits is stored and counted.
    pub branch_stored : (mapping : List ℕ) → P.old.order ≤ length mapping → (count : ℕ) (after : List ℕ)
        → count ≡ size entries → after ≡ overwrite entries mapping → clique_reply (reply 0 1) count after ≡ branch_reply P minimum mapping
    branch_stored mapping room count after counted stored =
        let e : length entries ≤ length mapping = omega (arith, held_length) in
        ap (λ (n : ℕ). clique_reply (reply 0 1) n after) counted
        ∙ ap (clique_reply (reply 0 1) (size entries)) stored
        ∙ ap (by_room mapping) (sym (le-leb _ _ e))
        ∙ held_reply_lem mapping

  -- an answer of the call that is not 1
  handed_on : (told : Answer) → told ≡ (called_of r).answer → (told ≡ accepted 1 → ⊥) → (t : Reply) → t ≡ reply_of told
      → (mapping : List ℕ) → no_mapping mapping t ≡ branch_reply P minimum mapping
  unfolding branch_reply clique_call
  handed_on told is never t replied mapping =
      ap (no_mapping mapping) replied
      ∙ go (clique_answer P) (branch P minimum) (is ∙ ap (λ (q : Called). q.answer) called)
    where
      go : (a : Answer) (held : Option (List ℕ)) → told ≡ (call_on a held).answer → no_mapping mapping (reply_of told) ≡ reply_on a held mapping
      go passed none e = ap (λ (x : Answer). no_mapping mapping (reply_of x)) e
      go passed (some l) e = absurd (never e)
      go (accepted n) held e = ap (λ (x : Answer). no_mapping mapping (reply_of x)) e
      go (refused n) held e = ap (λ (x : Answer). no_mapping mapping (reply_of x)) e
      go (refused_at n at) held e = ap (λ (x : Answer). no_mapping mapping (reply_of x)) e

  refused_error : (e : CliqueError) → is_refused (clique_refusal e) ≡ true
  refused_error (Flawed f) = refl
  refused_error ManyVertices = refl

  -- an answer that holds nothing is not 1
  off_held : (a : Result (Option.Option (List ℕ)) CliqueError) → ((l : List ℕ) → a ≡ Ok (Some l) → ⊥) → (called_of a).answer ≡ accepted 1 → ⊥
  off_held (Ok (Some l)) off told = off l refl
  off_held (Ok None) off told = let z : ◌≡◌ {A = ℕ} 0 1 = cc in omega arith
  off_held (Err e) off told = true≢false (sym (refused_error e) ∙ ap is_refused told)

  -- what is replied to an answer
  abbrev replied : Result (Option.Option (List ℕ)) CliqueError → Reply
  replied a = reply_of (called_of a).answer

  -- Nothing held, or a refusal, is handed on.
  pub branch_not_held : ((l : List ℕ) → r ≡ Ok (Some l) → ⊥) → (t : Reply) → t ≡ reply_of (called_of r).answer
      → (mapping : List ℕ) → no_mapping mapping t ≡ branch_reply P minimum mapping
  branch_not_held off = handed_on (called_of r).answer refl (off_held r off)

  -- Nothing held is told as 0.
  pub branch_nothing : r ≡ Ok None → (t : Reply) → t ≡ reply_of (accepted 0) → (mapping : List ℕ) → no_mapping mapping t ≡ branch_reply P minimum mapping
  branch_nothing arm t told = branch_not_held (λ l e. cc) t (told ∙ ap replied (sym arm))

  -- A refusal is handed on.
  pub branch_refused : (e : CliqueError) → r ≡ Err e → (t : Reply) → t ≡ reply_of (clique_refusal e)
      → (mapping : List ℕ) → no_mapping mapping t ≡ branch_reply P minimum mapping
  branch_refused e arm t told = branch_not_held (λ l q. cc) t (told ∙ ap replied (sym arm))
