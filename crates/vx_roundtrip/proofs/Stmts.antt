-- Each line of an image is read as its piece.
use Rattle.std.proofs.Common.{◌≡◌, ℕ, zero, suc, ◌<◌, ◌^◌, true, false, List, [], ◌∷◌, ◌++◌, length, codes, nat_lt, nat_le, bytes_eq, None, Ok, refl, ap, ◌∙◌, arith, append-nil}
use Rattle.std.specs.Prelude.{decimal}
use Rattle.std.specs.List.{AllByRecursion}
use Rattle.std.proofs.lemmas.Bool.{ltb-true, leb-true, le-leb, and_parts}
use Rattle.vx_base.specs.declared.call.Call.{Call}
use Rattle.vx_base.specs.declared.call.Operand.{Operand}
use Rattle.vx_base.specs.declared.call.Target.{Target}
use Rattle.vx_base.specs.Name.{is_name}
use Rattle.vx_base.specs.Services.{is_operand, is_target, is_call, args_list}
use Rattle.vx_image.specs.WellFormed.{is_stmt}
use Rattle.vx_image.specs.declared.image.Image.{Image}
use Rattle.vx_image.specs.declared.image.Label.{Label}
use Rattle.vx_image.specs.declared.stmt.Field.{Field}
use Rattle.vx_image.specs.declared.stmt.Field.TheVariants as field
use Rattle.vx_image.specs.declared.stmt.Rel.{Rel}
use Rattle.vx_image.specs.declared.stmt.Rel.TheVariants as rel
use Rattle.vx_image.specs.declared.stmt.Stmt.{Stmt}
use Rattle.vx_image.specs.declared.stmt.Stmt.TheVariants as stmt
use Rattle.vx_text.specs.declared.token.Tok.{Tok}
use Rattle.vx_text.specs.declared.token.Tok.TheVariants as tok
use Rattle.vx_text.specs.Quote.{quote_text}
use Rattle.vx_text.proofs.Leading.{first-cons}
use Rattle.vx_table.specs.Back.{AreHeld}
use Rattle.vx_table.specs.Spelling.{call_text, call_tokens, operand_text, operand_token, target_text, target_token}
use Rattle.vx_table.proofs.Back.{call_back}
use Rattle.vx_script.specs.Fields.{begins_with_sign}
use Rattle.vx_script.specs.Reading.{inside, goes_on, between_images, with_label}
use Rattle.vx_script.specs.Resolving.{with_image}
use Rattle.vx_script.specs.Places.{label_place}
use Rattle.vx_script.specs.Script.{stmt_line, let_words, goto_words, label_name, label_line}
use Rattle.vx_script.specs.Statements.{local_stmt, goto_stmt, if_stmt, put_stmt, byte_stmt, iosb_stmt, rel_name, field_name}
use Rattle.vx_script.specs.declared.draft.Draft.{Draft}
use Rattle.vx_script.specs.declared.draft.Draft.TheVariants as draft
use Rattle.vx_script.specs.declared.draft.DraftImage.{DraftImage}
use Rattle.vx_script.specs.declared.parts.Parts.{Parts}
use Rattle.vx_roundtrip.specs.Held.{IsHeldStmt, IsHeldLabelOf}
use Rattle.vx_roundtrip.proofs.Outer.{Taken, taken_by}
use Rattle.vx_roundtrip.proofs.Words.{Has, has_same, has_call, has_piece, has_sign, has_gap, has_nothing, has_spaced, Ends, ends_nothing, spells_word, spells_number, spells_text, spells_equals, spells_plus, spells_minus, spells_operand, spells_target}
use Rattle.vx_grammar.proofs.ReadStatements.{operand_back, target_back, target_no_colon, operand_no_colon, rel_back, field_back, let_back, add_back, sub_back, let_toks, return_back}
use Rattle.vx_grammar.proofs.LinesBack.{with_draft}

-- a statement as it is drafted: a label stands by its name
abbrev pub draft_of : List Label → Stmt → Draft
draft_of labels (stmt.Goto k) = draft.Goto (label_name labels k)
draft_of labels (stmt.If x r y k) = draft.If x r y (label_name labels k)
draft_of labels s = draft.Plain s

-- The tokens of a statement, behind its word.

abbrev goto_toks : List ℕ → List Tok
goto_toks label = tok.Word label ∷ []

abbrev if_toks : Operand → Rel → Operand → List ℕ → List Tok
if_toks x r y label = operand_token x ∷ tok.Word (rel_name r) ∷ operand_token y ∷ tok.Word (codes "GOTO") ∷ tok.Word label ∷ []

abbrev put_toks : ℕ → List ℕ → List Tok
put_toks b bytes = tok.Num b ∷ tok.Quote bytes ∷ []

abbrev byte_toks : Target → ℕ → Operand → List Tok
byte_toks t b x = target_token t ∷ tok.Num b ∷ operand_token x ∷ []

abbrev iosb_toks : Target → ℕ → Field → List Tok
iosb_toks t i f = target_token t ∷ tok.Num i ∷ tok.Word (field_name f) ∷ []

-- What its tokens are read as.

rel_named : (r : Rel) → is_name (rel_name r) ≡ true
rel_named rel.Eq = refl
rel_named rel.Ne = refl
rel_named rel.Lt = refl
rel_named rel.Ge = refl

field_named : (f : Field) → is_name (field_name f) ≡ true
field_named field.Status = refl
field_named field.Count = refl
field_named field.Info = refl

goto_back : (label : List ℕ) → local_stmt (codes "GOTO") (goto_toks label) ≡ Ok (draft.Goto label)
unfolding local_stmt goto_stmt
goto_back label = refl

if_back : (x : Operand) (r : Rel) (y : Operand) (label : List ℕ) → is_operand x ≡ true → is_operand y ≡ true → local_stmt (codes "IF") (if_toks x r y label) ≡ Ok (draft.If x r y label)
unfolding local_stmt if_stmt
if_back x r y label h k = rw (operand_back x h, rel_back r, operand_back y k) refl

put_back : (b : ℕ) (bytes : List ℕ) → nat_lt b 32 ≡ true → nat_le (length bytes) 2048 ≡ true → local_stmt (codes "PUT") (put_toks b bytes) ≡ Ok (draft.Plain (stmt.Put b bytes))
unfolding local_stmt put_stmt
put_back b bytes h k =
    let low : nat_le 0 b ≡ true = le-leb _ _ (omega arith) in
    let high : nat_le b 31 ≡ true = le-leb _ _ (omega (arith, ltb-true _ _ h)) in
    rw (low, high, k) refl

byte_back : (t : Target) (b : ℕ) (x : Operand) → is_target t ≡ true → nat_lt b 32 ≡ true → is_operand x ≡ true → local_stmt (codes "BYTE") (byte_toks t b x) ≡ Ok (draft.Plain (stmt.Byte t b x))
unfolding local_stmt byte_stmt
byte_back t b x h k l =
    let low : nat_le 0 b ≡ true = le-leb _ _ (omega arith) in
    let high : nat_le b 31 ≡ true = le-leb _ _ (omega (arith, ltb-true _ _ k)) in
    rw (target_back t h, low, high, operand_back x l) refl

iosb_back : (t : Target) (i : ℕ) (f : Field) → is_target t ≡ true → nat_le 1 i ≡ true → nat_le i 32 ≡ true → local_stmt (codes "IOSB") (iosb_toks t i f) ≡ Ok (draft.Plain (stmt.Iosb t i f))
unfolding local_stmt iosb_stmt
iosb_back t i f h l m = rw (target_back t h, l, m, field_back f) refl

-- Lines.

drafted : (line : ℕ) (parts : Parts) (image : DraftImage) (word : List ℕ) (toks : List Tok) (d : Draft) → begins_with_sign 58 toks ≡ false → bytes_eq word (codes "END") ≡ false → local_stmt word toks ≡ Ok d → nat_lt (length image.lines) 10000 ≡ true → inside line parts image (tok.Word word ∷ toks) ≡ Ok (goes_on parts (with_draft line image d))
drafted line parts image word toks d colon last is room = rw (colon, last, is, room) refl

-- a line of a statement by its word
abbrev Takes : ℕ → Parts → DraftImage → List Label → Stmt → Type 0
Takes line parts image labels s = Taken line (goes_on parts image) (stmt_line labels s) (goes_on parts (with_draft line image (draft_of labels s)))

take_word : (line : ℕ) (parts : Parts) (image : DraftImage) (text word : List ℕ) (toks : List Tok) (d : Draft) → Has text (tok.Word word ∷ toks) → begins_with_sign 58 toks ≡ false → bytes_eq word (codes "END") ≡ false → local_stmt word toks ≡ Ok d → nat_lt (length image.lines) 10000 ≡ true → Taken line (goes_on parts image) text (goes_on parts (with_draft line image d))
take_word line parts image text word toks d has colon last is room = taken_by line (goes_on parts image) _ text (tok.Word word ∷ toks) has (drafted line parts image word toks d colon last is room)

pub label_named : (labels : List Label) (k : ℕ) → AllByRecursion IsHeldLabelOf labels → k < length labels → is_name (label_name labels k) ≡ true
label_named [] k held h = absurd (omega arith)
label_named (l ∷ labels) zero held h = held.0
label_named (l ∷ labels) (suc k) held h = label_named labels k held.1 (omega arith)

take_service : (line : ℕ) (parts : Parts) (image : DraftImage) (labels : List Label) (c : Call) → is_call c ≡ true → AreHeld (args_list c.args) → nat_lt (length image.lines) 10000 ≡ true → Takes line parts image labels (stmt.Service c)
take_service line parts image labels c h held room =
    let text = 32 ∷ call_text c in
    let has : Has (32 ∷ text) (call_tokens c) = has_gap text (call_tokens c) (has_gap (call_text c) (call_tokens c) (has_call c h held)) in
    taken_by line (goes_on parts image) _ (stmt_line labels (stmt.Service c)) (call_tokens c) (has_same _ _ _ (ap (λ (bytes : List ℕ). 32 ∷ bytes) (append-nil text)) has) (rw (call_back c h, room) refl)

-- a statement's line is taken as the statement
pub take_stmt : (line : ℕ) (parts : Parts) (current : DraftImage) (decls : List (List ℕ)) (image : Image) (s : Stmt) → is_stmt decls image s ≡ true → IsHeldStmt s → AllByRecursion IsHeldLabelOf image.labels → nat_lt (length current.lines) 10000 ≡ true → Takes line parts current image.labels s
take_stmt line parts current decls image (stmt.Let t x) h held named room =
    let p = and_parts (is_target t) (is_operand x) h in
    let has = has_gap _ _ (has_spaced (let_words t x) (tok.Word (codes "LET") ∷ let_toks t x []) (spells_word (codes "LET") refl, (spells_target t p.0, (spells_equals, (spells_operand x p.1 held, tt))))) in
    take_word line parts current _ (codes "LET") (let_toks t x []) _ has (target_no_colon t) refl (let_back t x [] p.0 p.1) room
take_stmt line parts current decls image (stmt.Add t x y) h held named room =
    let p = and_parts (is_target t) _ h in
    let q = and_parts (is_operand x) (is_operand y) p.1 in
    let toks = let_toks t x (tok.Sign 43 ∷ operand_token y ∷ []) in
    let has = has_gap _ _ (has_spaced (let_words t x ++ codes "+" ∷ operand_text y ∷ []) (tok.Word (codes "LET") ∷ toks) (spells_word (codes "LET") refl, (spells_target t p.0, (spells_equals, (spells_operand x q.0 held.0, (spells_plus, (spells_operand y q.1 held.1, tt))))))) in
    take_word line parts current _ (codes "LET") toks _ has (target_no_colon t) refl (let_back t x _ p.0 q.0 ∙ add_back t x y q.1) room
take_stmt line parts current decls image (stmt.Sub t x y) h held named room =
    let p = and_parts (is_target t) _ h in
    let q = and_parts (is_operand x) (is_operand y) p.1 in
    let toks = let_toks t x (tok.Sign 45 ∷ operand_token y ∷ []) in
    let has = has_gap _ _ (has_spaced (let_words t x ++ codes "-" ∷ operand_text y ∷ []) (tok.Word (codes "LET") ∷ toks) (spells_word (codes "LET") refl, (spells_target t p.0, (spells_equals, (spells_operand x q.0 held.0, (spells_minus, (spells_operand y q.1 held.1, tt))))))) in
    take_word line parts current _ (codes "LET") toks _ has (target_no_colon t) refl (let_back t x _ p.0 q.0 ∙ sub_back t x y q.1) room
take_stmt line parts current decls image (stmt.Goto k) h held named room =
    let label = label_name image.labels k in
    let has = has_gap _ _ (has_spaced (goto_words image.labels k) (tok.Word (codes "GOTO") ∷ goto_toks label) (spells_word (codes "GOTO") refl, (spells_word label (label_named image.labels k named (ltb-true _ _ h)), tt))) in
    take_word line parts current _ (codes "GOTO") (goto_toks label) _ has refl refl (goto_back label) room
take_stmt line parts current decls image (stmt.If x r y k) h held named room =
    let p = and_parts (is_operand x) _ h in
    let q = and_parts (is_operand y) (nat_lt k (length image.labels)) p.1 in
    let label = label_name image.labels k in
    let toks = if_toks x r y label in
    let has = has_gap _ _ (has_spaced (codes "IF" ∷ operand_text x ∷ rel_name r ∷ operand_text y ∷ goto_words image.labels k) (tok.Word (codes "IF") ∷ toks) (spells_word (codes "IF") refl, (spells_operand x p.0 held.0, (spells_word (rel_name r) (rel_named r), (spells_operand y q.0 held.1, (spells_word (codes "GOTO") refl, (spells_word label (label_named image.labels k named (ltb-true _ _ q.1)), tt))))))) in
    take_word line parts current _ (codes "IF") toks _ has (operand_no_colon x) refl (if_back x r y label p.0 q.0) room
take_stmt line parts current decls image (stmt.Put b bytes) h held named room =
    let p = and_parts (nat_lt b 32) (nat_le (length bytes) 2048) h in
    let few : b < 2 ^ 32 = omega (arith, ltb-true _ _ p.0) in
    let has = has_gap _ _ (has_spaced (codes "PUT" ∷ decimal b ∷ quote_text bytes ∷ []) (tok.Word (codes "PUT") ∷ put_toks b bytes) (spells_word (codes "PUT") refl, (spells_number b few, (spells_text bytes held, tt)))) in
    take_word line parts current _ (codes "PUT") (put_toks b bytes) _ has refl refl (put_back b bytes p.0 p.1) room
take_stmt line parts current decls image (stmt.Byte t b x) h held named room =
    let p = and_parts (is_target t) _ h in
    let q = and_parts (nat_lt b 32) (is_operand x) p.1 in
    let few : b < 2 ^ 32 = omega (arith, ltb-true _ _ q.0) in
    let has = has_gap _ _ (has_spaced (codes "BYTE" ∷ target_text t ∷ decimal b ∷ operand_text x ∷ []) (tok.Word (codes "BYTE") ∷ byte_toks t b x) (spells_word (codes "BYTE") refl, (spells_target t p.0, (spells_number b few, (spells_operand x q.1 held, tt))))) in
    take_word line parts current _ (codes "BYTE") (byte_toks t b x) _ has (target_no_colon t) refl (byte_back t b x p.0 q.0 q.1) room
take_stmt line parts current decls image (stmt.Iosb t i f) h held named room =
    let p = and_parts (is_target t) _ h in
    let q = and_parts (nat_le 1 i) (nat_le i 32) p.1 in
    let few : i < 2 ^ 32 = omega (arith, leb-true _ _ q.1) in
    let has = has_gap _ _ (has_spaced (codes "IOSB" ∷ target_text t ∷ decimal i ∷ field_name f ∷ []) (tok.Word (codes "IOSB") ∷ iosb_toks t i f) (spells_word (codes "IOSB") refl, (spells_target t p.0, (spells_number i few, (spells_word (field_name f) (field_named f), tt))))) in
    take_word line parts current _ (codes "IOSB") (iosb_toks t i f) _ has (target_no_colon t) refl (iosb_back t i f p.0 q.0 q.1) room
take_stmt line parts current decls image stmt.Return h held named room =
    let has = has_gap _ _ (has_spaced (codes "RETURN" ∷ []) (tok.Word (codes "RETURN") ∷ []) (spells_word (codes "RETURN") refl, tt)) in
    take_word line parts current _ (codes "RETURN") [] _ has refl refl return_back room
take_stmt line parts current decls image (stmt.Service c) h held named room = take_service line parts current image.labels c (and_parts (is_call c) _ h).0 held room

colon_ends : Ends (58 ∷ [])
colon_ends = record { word = refl; number = refl }

-- a label's line names the next statement
pub take_label : (line : ℕ) (parts : Parts) (image : DraftImage) (l : Label) → is_name l.name ≡ true → label_place l.name image.labels ≡ None → Taken line (goes_on parts image) (label_line l) (goes_on parts (with_label image l.name))
take_label line parts image l named new =
    let toks = tok.Word l.name ∷ tok.Sign 58 ∷ [] in
    let has : Has (label_line l) toks = has_piece l.name (tok.Word l.name) (58 ∷ []) (tok.Sign 58 ∷ []) (spells_word l.name named) colon_ends (has_sign 58 [] [] refl (first-cons 58 []) has_nothing) in
    taken_by line (goes_on parts image) _ (label_line l) toks has (rw new refl)

-- END ends the image
pub take_end : (line : ℕ) (parts : Parts) (image : DraftImage) → Taken line (goes_on parts image) (codes "END") (between_images (with_image parts image))
take_end line parts image =
    let has : Has (codes "END") (tok.Word (codes "END") ∷ []) = has_piece (codes "END") (tok.Word (codes "END")) [] [] (spells_word (codes "END") refl) ends_nothing has_nothing in
    taken_by line (goes_on parts image) _ (codes "END") (tok.Word (codes "END") ∷ []) has refl
