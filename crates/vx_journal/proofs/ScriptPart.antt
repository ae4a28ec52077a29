-- The script part of a text, a line at a time.
use Rattle.std.proofs.Common.{◌≡◌, ℕ, ◌+◌, ◌<◌, ◌≤◌, true, false, List, [], ◌∷◌, length, take, drop, refl, sym, ap, ◌∙◌}
use Rattle.std.proofs.lemmas.List.{length-take-le}
use Rattle.vx_lines.proofs.Cutting.{cut_line}
use Rattle.vx_lines.specs.Cutting.{fed_len}
use Rattle.vx_lines.specs.ReadRecords.{fed_lines}
use Rattle.vx_journal.specs.ReadJournal.{is_journal_line, len_before, script_len}

pub begins : (text : List ℕ) → script_len text ≡ len_before 0 (fed_lines text)
unfolding script_len
begins text = refl

pub over : (at : ℕ) → len_before at (fed_lines []) ≡ at
unfolding len_before fed_lines
over at = refl

pub at_line : (at : ℕ) (l : List ℕ) (ls : List (List ℕ)) → is_journal_line l ≡ true → len_before at (l ∷ ls) ≡ at
unfolding len_before
at_line at l ls h = rw h refl

pub past_line : (at : ℕ) (l : List ℕ) (ls : List (List ℕ)) → is_journal_line l ≡ false → len_before at (l ∷ ls) ≡ len_before (at + length l) ls
unfolding len_before
past_line at l ls h = rw h refl

-- the text begins with a journal line
pub found : (at len : ℕ) (text : List ℕ) → 0 < length text → len ≡ fed_len text → is_journal_line (take len text) ≡ true → len_before at (fed_lines text) ≡ at
found at len text some n h =
    let cut : fed_lines text ≡ take len text ∷ fed_lines (drop len text) = rw n (cut_line text some) in
    ap (len_before at) cut ∙ at_line at (take len text) (fed_lines (drop len text)) h

-- it begins with another line
pub passed : (at len : ℕ) (text : List ℕ) → 0 < length text → len ≡ fed_len text → len ≤ length text → is_journal_line (take len text) ≡ false → len_before (at + len) (fed_lines (drop len text)) ≡ len_before at (fed_lines text)
passed at len text some n within h =
    let cut : fed_lines text ≡ take len text ∷ fed_lines (drop len text) = rw n (cut_line text some) in
    let size : length (take len text) ≡ len = length-take-le len text within in
    sym (ap (len_before at) cut ∙ past_line at (take len text) (fed_lines (drop len text)) h ∙ ap (λ (k : ℕ). len_before (at + k) (fed_lines (drop len text))) size)
