-- What each answer of clique branching says in the documents' terms: 1 where a mapping is held, 0 where none is, or a refusal's number (02, U2).
use Rattle.std.specs.Prelude.{List, [], Option, Some, None, Result, Ok, Err, ℕ}
use Rattle.answers.specs.Answer.{Answer, accepted, refused}
use Rattle.problem.specs.Answers.{problem_flaw_number}
use Rattle.clique.specs.declared.CliqueError.{CliqueError}
use Rattle.clique.specs.declared.CliqueError.TheVariants.{Flawed, ManyVertices}
use Rattle.clique.specs.Call.{padded, Called}

abbrev pub clique_refusal : CliqueError → Answer
clique_refusal (Flawed f) = refused (problem_flaw_number f)
clique_refusal ManyVertices = refused 25

-- the bytes are 0 where there is no mapping
abbrev pub called_of : Result (Option (List ℕ)) CliqueError → Called
called_of (Ok (Some l)) = record { answer = accepted 1; mapping = l }
called_of (Ok None) = record { answer = accepted 0; mapping = padded [] }
called_of (Err e) = record { answer = clique_refusal e; mapping = padded [] }
