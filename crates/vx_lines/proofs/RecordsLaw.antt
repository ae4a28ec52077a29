-- The lines of records that have a spelling are read as the records.
use Rattle.std.proofs.Common.{◌≡◌, ℕ, ◌+◌, ◌<◌, ◌≤◌, ◌^◌, ◌==◌, true, false, List, [], ◌∷◌, ◌++◌, length, map, Some, Result, Ok, refl, sym, ap, ◌∙◌, arith, append_assoc, append-nil, length-append}
use Rattle.std.proofs.lemmas.Grind.{flat_map-append}
use Rattle.std.proofs.lemmas.List.{length-map}
use Rattle.std.specs.Prelude.{decimal}
use Rattle.std.specs.List.{AllByRecursion, list_all, onto_first}
use Rattle.std.proofs.lemmas.Bool.Decides.{nat_tests}
use Rattle.vx_base.specs.Name.{is_digit}
use Rattle.vx_base.specs.declared.effects.Effect.{Effect}
use Rattle.vx_base.specs.declared.record.Rec.{Rec}
use Rattle.vx_base.specs.declared.effects.Effect.TheVariants as effect
use Rattle.vx_image.specs.declared.unit.UnitDecl.{UnitDecl}
use Rattle.vx_lines.specs.Numbers.{digits_value}
use Rattle.vx_lines.specs.ReadEffect.{is_no_feed}
use Rattle.vx_lines.specs.ReadRecords.{begins_with_space, fed_lines, is_of_record, nothing_read, or_bad, read_line, read_lines, read_so_far}
use Rattle.vx_lines.specs.Records.{effect_line, ended_lines, head_line, record_lines, records_lines, event_text, answer_text}
use Rattle.vx_lines.specs.Spelled.{IsSpelled}
use Rattle.vx_lines.specs.SpelledHead.{IsSpelledHead}
use Rattle.vx_lines.specs.SpelledRecords.{AreSpelled, IsSpelledRec, RecordsReadBack}
use Rattle.vx_lines.specs.declared.read.Reading.{Reading}
use Rattle.vx_lines.specs.declared.read.Records.{Records}
use Rattle.vx_lines.proofs.Cutting.{begins, ended, taken}
use Rattle.vx_lines.proofs.EffectsLaw.{spelled_back}
use Rattle.vx_lines.proofs.HeadsLaw.{head_feed, heads_back}
use Rattle.vx_text.proofs.Numbers.{spells}
use Rattle.std.proofs.lemmas.Bool.{not-true, and_parts}

-- A line of a text.

pub front_line : (l rest : List ℕ) → list_all is_no_feed l ≡ true → fed_lines (l ++ 10 ∷ rest) ≡ (l ++ 10 ∷ []) ∷ fed_lines rest
unfolding fed_lines
front_line [] rest h = refl
front_line (b ∷ l) rest h =
    let parts = and_parts (is_no_feed b) (list_all is_no_feed l) h in
    let other : (b == 10) ≡ false = not-true (b == 10) parts.0 in
    rw other (ap (onto_first b) (front_line l rest parts.1))

pub fed_line : (l rest : List ℕ) → list_all is_no_feed l ≡ true → fed_lines ((l ++ 10 ∷ []) ++ rest) ≡ (l ++ 10 ∷ []) ∷ fed_lines rest
fed_line l rest h = ap fed_lines (append_assoc l (10 ∷ []) rest) ∙ front_line l rest h

-- where the reading of lines stands
at_place : (units : List UnitDecl) (a b c d : ℕ) (r s : Reading) (ls : List (List ℕ)) → a ≡ c → b ≡ d → r ≡ s → read_lines units a b r ls ≡ read_lines units c d s ls
at_place units a b c d r s ls e f g = ap (λ (n : ℕ). read_lines units n b r ls) e ∙ ap (λ (n : ℕ). read_lines units c n r ls) f ∙ ap (λ (q : Reading). read_lines units c d q ls) g

-- one line is taken
line_taken : (units : List UnitDecl) (line at : ℕ) (r s : Reading) (l text : List ℕ) → list_all is_no_feed l ≡ true → is_of_record (l ++ 10 ∷ []) ≡ true → read_line units r (l ++ 10 ∷ []) ≡ Some s → read_lines units line at r (fed_lines ((l ++ 10 ∷ []) ++ text)) ≡ read_lines units (line + 1) (at + length (l ++ 10 ∷ [])) s (fed_lines text)
line_taken units line at r s l text clean first read =
    ap (read_lines units line at r) (fed_line l text clean) ∙ taken units line at r (l ++ 10 ∷ []) (fed_lines text) first ∙ ap (λ o. or_bad line o (λ q. read_lines units (line + 1) (at + length (l ++ 10 ∷ [])) q (fed_lines text))) read

-- Effects.

-- the records before one, and that one with the effects that were read
abbrev reading : List Rec → Rec → List Effect → Reading
reading recs r es = record { recs = recs; current = Some (record r { effects = es }) }

spaced_first : (e : Effect) (rest : List ℕ) → begins_with_space (effect_line e ++ rest) ≡ true
spaced_first (effect.Mark id) rest = refl
spaced_first _ rest = refl

of_record_first : (e : Effect) (rest : List ℕ) → is_of_record (effect_line e ++ rest) ≡ true
of_record_first (effect.Mark id) rest = refl
of_record_first _ rest = refl

effect_read : (units : List UnitDecl) (recs : List Rec) (r : Rec) (es : List Effect) (e : Effect) → IsSpelled e → read_line units (reading recs r es) (effect_line e ++ 10 ∷ []) ≡ Some (reading recs r (es ++ e ∷ []))
unfolding read_line
effect_read units recs r es e h = rw (spaced_first e (10 ∷ []), (spelled_back e h).read) refl

effects_taken : (units : List UnitDecl) (line at : ℕ) (recs : List Rec) (r : Rec) (es more : List Effect) (text : List ℕ) → AllByRecursion IsSpelled more → read_lines units line at (reading recs r es) (fed_lines (ended_lines (map effect_line more) ++ text)) ≡ read_lines units (line + length more) (at + length (ended_lines (map effect_line more))) (reading recs r (es ++ more)) (fed_lines text)
effects_taken units line at recs r es [] text h = at_place units line at (line + 0) (at + 0) (reading recs r es) (reading recs r (es ++ [])) (fed_lines text) (omega arith) (omega arith) (ap (reading recs r) (sym (append-nil es)))
effects_taken units line at recs r es (e ∷ more) text h =
    let l : List ℕ = effect_line e in
    let rest : List ℕ = ended_lines (map effect_line more) in
    ap (λ z. read_lines units line at (reading recs r es) (fed_lines z)) (append_assoc (l ++ 10 ∷ []) rest text)
    ∙ line_taken units line at (reading recs r es) (reading recs r (es ++ e ∷ [])) l (rest ++ text) (spelled_back e h.0).feed (of_record_first e (10 ∷ [])) (effect_read units recs r es e h.0)
    ∙ effects_taken units (line + 1) (at + length (l ++ 10 ∷ [])) recs r (es ++ e ∷ []) more text h.1
    ∙ at_place units ((line + 1) + length more) ((at + length (l ++ 10 ∷ [])) + length rest) (line + length (e ∷ more)) (at + length ((l ++ 10 ∷ []) ++ rest)) (reading recs r ((es ++ e ∷ []) ++ more)) (reading recs r (es ++ e ∷ more)) (fed_lines text) (omega arith) (omega (arith, length-append (l ++ 10 ∷ []) rest)) (ap (reading recs r) (append_assoc es (e ∷ []) more))

-- Heads.

digit_by : (ds rest : List ℕ) (n : ℕ) → list_all is_digit ds ≡ true → digits_value ds ≡ n → 1 ≤ n → (is_of_record (ds ++ rest) ≡ true) × (begins_with_space (ds ++ rest) ≡ false)
digit_by [] rest n h v some = absurd (omega (arith, v, some))
digit_by (d ∷ ds) rest n h v some =
    let digit = (and_parts (is_digit d) (list_all is_digit ds) h).0 in
    (rw digit refl, grind (arith, nat_tests, digit))

number_first : (n : ℕ) (rest : List ℕ) → 1 ≤ n → n < 2 ^ 64 → (is_of_record (decimal n ++ rest) ≡ true) × (begins_with_space (decimal n ++ rest) ≡ false)
number_first n rest some h = let s = spells n h in digit_by (decimal n) rest n s.digits s.value some

head_first : (units : List UnitDecl) (n : ℕ) (r : Rec) (rest : List ℕ) → 1 ≤ n → n < 2 ^ 64 → (is_of_record (head_line units n r ++ rest) ≡ true) × (begins_with_space (head_line units n r ++ rest) ≡ false)
head_first units n r rest some h =
    let behind : List ℕ = 32 ∷ (event_text units r.event ++ 32 ∷ answer_text r.answer) in
    let same : head_line units n r ++ rest ≡ decimal n ++ (behind ++ rest) = append_assoc (decimal n) behind rest in
    let first = number_first n (behind ++ rest) some h in
    (ap is_of_record same ∙ first.0, ap begins_with_space same ∙ first.1)

head_read : (units : List UnitDecl) (n : ℕ) (q : Reading) (r : Rec) → n ≡ length (read_so_far q) + 1 → n < 2 ^ 64 → IsSpelledHead units r.event r.answer → read_line units q (head_line units n r ++ 10 ∷ []) ≡ Some (reading (read_so_far q) r [])
unfolding read_line
head_read units n q r is h spelled =
    let some : 1 ≤ n = omega (arith, is) in
    let back = heads_back units n r.event r.answer h spelled in
    rw ((head_first units n r (10 ∷ []) some h).1, sym is, back) refl

-- what is read once records are
abbrev reading_after : Reading → List Rec → Reading
reading_after q [] = q
reading_after q (r ∷ rs) = reading_after (reading (read_so_far q) r r.effects) rs

so_far_after : (q : Reading) (recs : List Rec) → read_so_far (reading_after q recs) ≡ read_so_far q ++ recs
so_far_after q [] = sym (append-nil (read_so_far q))
so_far_after q (r ∷ rs) = so_far_after (reading (read_so_far q) r r.effects) rs ∙ append_assoc (read_so_far q) (r ∷ []) rs

record_taken : (units : List UnitDecl) (line at n : ℕ) (q : Reading) (r : Rec) (text : List ℕ) → n ≡ length (read_so_far q) + 1 → n < 2 ^ 64 → IsSpelledRec units r → read_lines units line at q (fed_lines (ended_lines (record_lines units n r) ++ text)) ≡ read_lines units (line + length (record_lines units n r)) (at + length (ended_lines (record_lines units n r))) (reading (read_so_far q) r r.effects) (fed_lines text)
record_taken units line at n q r text is h spelled =
    let l : List ℕ = head_line units n r in
    let lines : List (List ℕ) = map effect_line r.effects in
    let rest : List ℕ = ended_lines lines in
    let some : 1 ≤ n = omega (arith, is) in
    let count : length lines ≡ length r.effects = length-map r.effects effect_line in
    ap (λ z. read_lines units line at q (fed_lines z)) (append_assoc (l ++ 10 ∷ []) rest text)
    ∙ line_taken units line at q (reading (read_so_far q) r []) l (rest ++ text) (head_feed units n r.event r.answer h spelled.0) (head_first units n r (10 ∷ []) some h).0 (head_read units n q r is h spelled.0)
    ∙ effects_taken units (line + 1) (at + length (l ++ 10 ∷ [])) (read_so_far q) r [] r.effects text spelled.1
    ∙ at_place units ((line + 1) + length r.effects) ((at + length (l ++ 10 ∷ [])) + length rest) (line + length (l ∷ lines)) (at + length ((l ++ 10 ∷ []) ++ rest)) (reading (read_so_far q) r r.effects) (reading (read_so_far q) r r.effects) (fed_lines text) (omega (arith, count)) (omega (arith, length-append (l ++ 10 ∷ []) rest)) refl

records_taken : (units : List UnitDecl) (line at n : ℕ) (q : Reading) (recs : List Rec) (text : List ℕ) → n ≡ length (read_so_far q) + 1 → n + length recs ≤ 2 ^ 64 → AreSpelled units recs → read_lines units line at q (fed_lines (ended_lines (records_lines units n recs) ++ text)) ≡ read_lines units (line + length (records_lines units n recs)) (at + length (ended_lines (records_lines units n recs))) (reading_after q recs) (fed_lines text)
records_taken units line at n q [] text is few h = at_place units line at (line + 0) (at + 0) q q (fed_lines text) (omega arith) (omega arith) refl
records_taken units line at n q (r ∷ rs) text is few h =
    let lines : List (List ℕ) = record_lines units n r in
    let more : List (List ℕ) = records_lines units (n + 1) rs in
    let after : Reading = reading (read_so_far q) r r.effects in
    let fed : ended_lines (lines ++ more) ≡ ended_lines lines ++ ended_lines more = flat_map-append (λ (line : List ℕ). line ++ 10 ∷ []) lines more in
    let next : n + 1 ≡ length (read_so_far after) + 1 = omega (arith, is, length-append (read_so_far q) (r ∷ [])) in
    ap (λ z. read_lines units line at q (fed_lines (z ++ text))) fed
    ∙ ap (λ z. read_lines units line at q (fed_lines z)) (append_assoc (ended_lines lines) (ended_lines more) text)
    ∙ record_taken units line at n q r (ended_lines more ++ text) is (omega (arith, few)) h.0
    ∙ records_taken units (line + length lines) (at + length (ended_lines lines)) (n + 1) after rs text next (omega (arith, few)) h.1
    ∙ at_place units ((line + length lines) + length more) ((at + length (ended_lines lines)) + length (ended_lines more)) (line + length (lines ++ more)) (at + length (ended_lines (lines ++ more))) (reading_after after rs) (reading_after after rs) (fed_lines text) (omega (arith, length-append lines more)) (omega (arith, length-append (ended_lines lines) (ended_lines more), ap length fed)) refl

-- The law.

abbrev read_to : ℕ → ℕ → List Rec → Result Records ℕ
read_to line len recs = Ok (record { recs = recs; line = line; len = len })

pub records_back : RecordsReadBack
records_back units line recs rest few spelled other =
    let text : List ℕ = ended_lines (records_lines units 1 recs) in
    let lines : ℕ = length (records_lines units 1 recs) in
    let after : Reading = reading_after nothing_read recs in
    begins units line (text ++ rest)
    ∙ records_taken units line 0 1 nothing_read recs rest refl (omega (arith, few)) spelled
    ∙ ended units (line + lines) (0 + length text) after rest other
    ∙ ap (λ (n : ℕ). read_to (line + lines) n (read_so_far after)) (omega arith)
    ∙ ap (λ (l : List Rec). read_to (line + lines) (length text) l) (so_far_after nothing_read recs)
