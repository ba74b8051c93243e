-- What the table of rows holds: the text of each number (01, "Refusals by place of checking").
use Rattle.std.specs.Prelude.{◌≡◌, List, map, ℕ}
use Rattle.std.specs.Borrow.{Bor}
use Rattle.reasons.specs.Reasons.{bytes_of, reasons}

abbrev pub RowsTell : List (Bor (List ℕ)) → Type 0
RowsTell rows = map (λ row. row.now) rows ≡ map bytes_of reasons
