-- A text is its first line, and the lines behind it.
use Rattle.std.proofs.Common.{◌≡◌, ℕ, suc, ◌+◌, ◌<◌, ◌≤◌, ◌&&◌, ◌==◌, not, Bool, true, false, cond, List, [], ◌∷◌, length, take, drop, refl, sym, ap, ◌∙◌, arith, Result, Ok}
use Rattle.vx_image.specs.declared.system.System.{System}
use Rattle.vx_script.specs.Lines.{lines_of, begins_with}
use Rattle.vx_script.specs.Steps.{first_line, line_len, without_return, fail_of, LineFails}
use Rattle.vx_text.specs.Lex.{lex, Fails}
use Rattle.vx_text.specs.declared.token.LexFail.{LexFail}
use Rattle.vx_text.specs.declared.token.LexFail.TheVariants as lex_fail
use Rattle.vx_script.specs.Reading.{read_lines, take_line, closed}
use Rattle.vx_script.specs.Results.{◌>>=◌, at_line, ScriptFails}
use Rattle.vx_script.specs.declared.fault.ScriptFail.{ScriptFail}
use Rattle.vx_script.specs.declared.fault.ScriptFault.{ScriptFault}
use Rattle.vx_script.specs.declared.parts.Reading.{Reading}
use Rattle.vx_script.specs.declared.fault.ScriptFail.TheVariants as fail
use Rattle.std.proofs.lemmas.Bool.{and_parts}
use Rattle.std.specs.List.{onto_first}

-- behind a return in front of a line feed stands the line feed

more : (b : ℕ) (bytes : List ℕ) → (b == 13) && begins_with 10 bytes ≡ true → 0 < length bytes
more b [] h = absurd (cc (and_parts (b == 13) false h).1)
more b (c ∷ bytes) h = omega arith

none : (b : ℕ) (bytes : List ℕ) → (b == 13) && begins_with 10 bytes ≡ true → first_line bytes ≡ []
none b [] h = refl
none b (c ∷ bytes) h = rw (and_parts (b == 13) (c == 10) h).1 refl

cut_step : (b : ℕ) (bytes : List ℕ) (t r : Bool) → (r ≡ true → 0 < length bytes) → (r ≡ true → first_line bytes ≡ []) → (0 < length bytes → lines_of bytes ≡ first_line bytes ∷ lines_of (drop (line_len bytes + 1) bytes)) → cond t ([] ∷ lines_of bytes) (cond r (lines_of bytes) (onto_first b (lines_of bytes))) ≡ cond t [] (cond r [] (b ∷ first_line bytes)) ∷ lines_of (drop (cond (not t) (1 + line_len bytes) 0 + 1) (b ∷ bytes))
unfolding lines_of
cut_step b bytes true r pos empty ih = refl
cut_step b bytes false true pos empty ih =
    let n = line_len bytes in
    let one : 1 + n ≡ suc n = omega arith in
    let two : suc n + 1 ≡ suc (n + 1) = omega arith in
    rw (one, two) (ih (pos refl) ∙ ap (λ z. z ∷ lines_of (drop (n + 1) bytes)) (empty refl))
cut_step b [] false false pos empty ih = refl
cut_step b (c ∷ cs) false false pos empty ih =
    let n = line_len (c ∷ cs) in
    let one : 1 + n ≡ suc n = omega arith in
    let two : suc n + 1 ≡ suc (n + 1) = omega arith in
    rw (one, two) (ap (onto_first b) (ih (omega arith)))

pub cut_line : (text : List ℕ) → 0 < length text → lines_of text ≡ first_line text ∷ lines_of (drop (line_len text + 1) text)
unfolding lines_of
cut_line [] h = absurd (omega arith)
cut_line (b ∷ bytes) h = cut_step b bytes (b == 10) ((b == 13) && begins_with 10 bytes) (more b bytes) (none b bytes) (λ k. cut_line bytes k)

-- a reading goes on behind its first line
pub one_line : (line : ℕ) (r : Reading) (text : List ℕ) → 0 < length text → read_lines line r (lines_of text) ≡ (at_line line (take_line line r (first_line text)) >>= λ s. read_lines (line + 1) s (lines_of (drop (line_len text + 1) text)))
unfolding read_lines
one_line line r text h = rw (cut_line text h) refl

-- the end of a text
pub no_line : (line : ℕ) (r : Reading) (text : List ℕ) → length text ≡ 0 → read_lines line r (lines_of text) ≡ closed line r.parts r.current
unfolding read_lines lines_of
no_line line r [] h = refl
no_line line r (b ∷ bytes) h = absurd (omega arith)

-- what stopped a line stops the text
pub stopped : {A B : Type 0} (e : ScriptFail) (r : Result A ScriptFault) (f : A → Result B ScriptFault) → ScriptFails e r → ScriptFails e (r >>= f)
stopped fail.NoMemory r f h = tt
stopped (fail.Fault e) r f h = rw h refl

pub after_line : (line len : ℕ) (r next : Reading) (rest behind text : List ℕ) → 0 < length rest → len ≡ line_len rest → text ≡ first_line rest → behind ≡ drop (len + 1) rest → at_line line (take_line line r text) ≡ Ok next → read_lines (line + 1) next (lines_of behind) ≡ read_lines line r (lines_of rest)
after_line line len r next rest behind text pos n whole cut h =
    let go : Reading → Result System ScriptFault = λ s. read_lines (line + 1) s (lines_of (drop (line_len rest + 1) rest)) in
    rw (cut, one_line line r rest pos, n) (sym (ap (λ z. z >>= go) (rw whole at h)))

pub stopped_line : (e : ScriptFail) (line : ℕ) (r : Reading) (rest text : List ℕ) → 0 < length rest → text ≡ first_line rest → ScriptFails e (at_line line (take_line line r text)) → ScriptFails e (read_lines line r (lines_of rest))
stopped_line e line r rest text pos whole h = rw (one_line line r rest pos) (stopped e _ _ (rw whole at h))

-- How the first line is cut off.

whole_step : (b : ℕ) (bytes : List ℕ) (t r : Bool) → (r ≡ true → line_len bytes ≡ 0) → (r ≡ true → 0 < length bytes) → (length bytes ≤ line_len bytes → first_line bytes ≡ bytes) → suc (length bytes) ≤ cond (not t) (1 + line_len bytes) 0 → cond t [] (cond r [] (b ∷ first_line bytes)) ≡ b ∷ bytes
whole_step b bytes true r feed pos ih h = absurd (omega (arith, h))
whole_step b bytes false true feed pos ih h = absurd (omega (arith, h, feed refl, pos refl))
whole_step b bytes false false feed pos ih h = ap (λ z. b ∷ z) (ih (omega (arith, h)))

feed_next : (b : ℕ) (bytes : List ℕ) → (b == 13) && begins_with 10 bytes ≡ true → line_len bytes ≡ 0
feed_next b [] h = refl
feed_next b (c ∷ bytes) h = rw (and_parts (b == 13) (c == 10) h).1 refl

-- a text without a line feed is its first line
pub first_whole : (text : List ℕ) → length text ≤ line_len text → first_line text ≡ text
first_whole [] h = refl
first_whole (b ∷ bytes) h = whole_step b bytes (b == 10) ((b == 13) && begins_with 10 bytes) (feed_next b bytes) (more b bytes) (λ k. first_whole bytes k) h

alone : (b : ℕ) (c : ℕ) (t : Bool) → (b == 13) && t ≡ false → t ≡ true → without_return (b ∷ []) ≡ b ∷ []
alone b c true h k = by (b == 13) h
  where
    by : (s : Bool) → s && true ≡ false → cond s [] (b ∷ []) ≡ b ∷ []
    by true g = cc
    by false g = refl
alone b c false h k = cc

-- one byte more in front of a line that is cut off before its line feed
onto_cut : (b : ℕ) (bytes : List ℕ) → (b == 13) && begins_with 10 bytes ≡ false → line_len bytes < length bytes → without_return (b ∷ take (line_len bytes) bytes) ≡ b ∷ without_return (take (line_len bytes) bytes)
onto_cut b [] r h = absurd (omega (arith, h))
onto_cut b (c ∷ bytes) r h = by (c == 10) r
  where
    by : (t : Bool) → (b == 13) && t ≡ false → without_return (b ∷ take (cond (not t) (1 + line_len bytes) 0) (c ∷ bytes)) ≡ b ∷ without_return (take (cond (not t) (1 + line_len bytes) 0) (c ∷ bytes))
    by true g = alone b c true g refl
    by false g =
        let one : 1 + line_len bytes ≡ suc (line_len bytes) = omega arith in
        rw one refl

taken_step : (b : ℕ) (bytes : List ℕ) (t r : Bool) → (b == 13) && begins_with 10 bytes ≡ r → (line_len bytes < length bytes → first_line bytes ≡ without_return (take (line_len bytes) bytes)) → cond (not t) (1 + line_len bytes) 0 < suc (length bytes) → cond t [] (cond r [] (b ∷ first_line bytes)) ≡ without_return (take (cond (not t) (1 + line_len bytes) 0) (b ∷ bytes))
taken_step b bytes true r e ih h = refl
taken_step b bytes false true e ih h =
    let zero_len : line_len bytes ≡ 0 = feed_next b bytes e in
    rw (zero_len, (and_parts (b == 13) (begins_with 10 bytes) e).0) refl
taken_step b bytes false false e ih h =
    let one : 1 + line_len bytes ≡ suc (line_len bytes) = omega arith in
    let less : line_len bytes < length bytes = omega (arith, h) in
    rw one (ap (λ z. b ∷ z) (ih less) ∙ sym (onto_cut b bytes e less))

-- a line that a line feed ends is cut off before it, and loses its return
pub first_taken : (text : List ℕ) → line_len text < length text → first_line text ≡ without_return (take (line_len text) text)
first_taken [] h = absurd (omega (arith, h))
first_taken (b ∷ bytes) h = taken_step b bytes (b == 10) ((b == 13) && begins_with 10 bytes) refl (λ k. first_taken bytes k) h

-- a line whose tokens have a fault has it
pub lexed_badly : (e : LexFail) (line : ℕ) (r : Reading) (text : List ℕ) → Fails e (lex text) → LineFails (fail_of e) (take_line line r text)
unfolding take_line
lexed_badly lex_fail.Byte line r text h = rw h refl
lexed_badly lex_fail.Quote line r text h = rw h refl
lexed_badly lex_fail.Number line r text h = rw h refl
lexed_badly lex_fail.Name line r text h = rw h refl
lexed_badly lex_fail.NoMemory line r text h = tt
