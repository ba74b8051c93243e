-- What a table that tells the texts has in the row of each number.
use mathlib.Core.Path.{◌≡◌, ap, sym, ◌∙◌}
use mathlib.Core.List.{List, []}
use Prim.Native.Nat.{ℕ, ◌≤◌}
use lib.ListN.{get_or, get_or-map, get_or-eq_default}
use Rattle.std.specs.Prelude.{map, Option, unwrap_or}
use Rattle.std.specs.Borrow.{Bor}
use Rattle.reasons.specs.Reasons.{bytes_of, reasons, reason_text}
use Rattle.reasons.specs.Rows.{RowsTell}

-- The row of a number has its text, and a number without a row the empty one.
pub row_text_lem : (rows : List (Bor (List ℕ))) → RowsTell rows → (k : ℕ) (none : Bor (List ℕ)) → none.now ≡ [] → (get_or rows k none).now ≡ reason_text k
unfolding bytes_of reason_text
row_text_lem rows tell k none empty =
    sym (get_or-map (λ (row : Bor (List ℕ)). row.now) rows k none)
    ∙ ap (get_or (map (λ (row : Bor (List ℕ)). row.now) rows) k) empty
    ∙ ap (λ (l : List (List ℕ)). get_or l k []) tell
    ∙ get_or-map bytes_of reasons k ""

-- A number without a row has the empty text.
pub no_text : (k : ℕ) → 29 ≤ k → reason_text k ≡ []
unfolding bytes_of reason_text reasons
no_text k h = ap bytes_of (get_or-eq_default reasons "" h)

-- So has what is read at the number with the empty text in reserve.
pub text_found : (rows : List (Bor (List ℕ))) → RowsTell rows → (k : ℕ) {row found : Option (Bor (List ℕ))} (none : Bor (List ℕ)) {text : Bor (List ℕ)}
    → ((d : Bor (List ℕ)) → unwrap_or found d ≡ get_or rows k d) → row ≡ found → text ≡ unwrap_or row none → none.now ≡ []
    → text.now ≡ reason_text k
text_found rows tell k {row} {found} none {text} at e is empty =
    ap (λ (t : Bor (List ℕ)). t.now) (is ∙ ap (λ (o : Option (Bor (List ℕ))). unwrap_or o none) e ∙ at none) ∙ row_text_lem rows tell k none empty
