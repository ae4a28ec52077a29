-- The head of a record is read back.
use Rattle.std.proofs.Common.{◌≡◌, ℕ, ◌+◌, ◌-◌, ◌<◌, ◌^◌, Bool, true, false, cond, List, [], ◌∷◌, ◌++◌, length, take, drop, reverse, codes, bytes_eq, Option, Some, Ok, refl, sym, ap, ◌∙◌, arith, append_assoc, length-append}
use Rattle.std.specs.Prelude.{decimal}
use Rattle.std.specs.List.{list_all, prefix_len}
use Rattle.std.proofs.Math.Seq.{take-append_seam, drop-append_seam}
use Rattle.std.proofs.lemmas.List.{length-reverse, reverse-append}
use Rattle.std.proofs.lemmas.Grind.{reverse_onto}
use Rattle.std.proofs.lemmas.List.Folds.{list_all-append}
use Rattle.vx_base.specs.Cond.{name_of}
use Rattle.vx_base.specs.Services.{args_list, is_call}
use Rattle.vx_base.specs.declared.call.Call.{Call}
use Rattle.vx_base.specs.declared.cond.Cond.{Cond}
use Rattle.vx_base.specs.declared.cond.Cond.TheVariants.{Normal}
use Rattle.vx_base.specs.declared.number.Pid.{Pid}
use Rattle.vx_base.specs.declared.record.Answer.{Answer}
use Rattle.vx_base.specs.declared.record.Answer.TheVariants as answer
use Rattle.vx_base.specs.declared.record.Event.TheVariants as event
use Rattle.vx_text.specs.Lex.{lex}
use Rattle.vx_text.proofs.Lexing.{lex_gap}
use Rattle.vx_table.specs.Back.{toks_of, AreHeld}
use Rattle.vx_table.specs.Spelling.{call_text, call_tokens}
use Rattle.vx_table.proofs.Back.{call_back}
use Rattle.vx_table.proofs.Texts.{call_toks}
use Rattle.vx_image.specs.declared.unit.UnitDecl.{UnitDecl}
use Rattle.vx_lines.specs.Fields.{pid_of}
use Rattle.vx_lines.specs.Records.{pid_text}
use Rattle.vx_lines.specs.Spelled.{IsWord}
use Rattle.vx_lines.specs.ReadHead.{is_plain_call, if_plain, call_among, call_of, served_by, served_in, ran_in, with_event, run_in, other_head, head_of}
use Rattle.vx_lines.specs.Words.{◌>>=◌, is_inner, word_len, first_word, second_word, third_word, behind_word, last_len, last_word, before_last}
use Rattle.vx_lines.proofs.WordsBack.{Whole, run_first, run_behind}
use Rattle.vx_lines.proofs.EffectsBack.{whole, tight_number, pid_back}
use Rattle.std.proofs.lemmas.Bool.{and_parts}
use Rattle.vx_text.proofs.Runs.{run_len}
use Rattle.vx_text.proofs.Local.{take-1}
use Rattle.vx_text.proofs.Conditions.{named_by}

-- A call is read from its text.

pub call_of_text : (c : Call) → is_call c ≡ true → AreHeld (args_list c.args) → is_plain_call c ≡ true → call_of (32 ∷ call_text c) ≡ Some c
call_of_text c is held plain =
    let lexed : toks_of (lex (32 ∷ call_text c)) ≡ Ok (call_tokens c) = ap toks_of (lex_gap 0 (call_text c)) ∙ call_toks (0 + 1) c is held in
    ap call_among lexed ∙ ap if_plain (call_back c is) ∙ rw plain refl

-- The last word.

reverse_all : (p : ℕ → Bool) (xs : List ℕ) → list_all p xs ≡ true → list_all p (reverse xs) ≡ true
reverse_all p [] h = refl
reverse_all p (x ∷ xs) h =
    let parts = and_parts (p x) (list_all p xs) h in
    ap (list_all p) (reverse_onto xs x []) ∙ list_all-append p (reverse xs) (x ∷ []) ∙ rw (reverse_all p xs parts.1, parts.0) refl

turned : (front word : List ℕ) → reverse (front ++ 32 ∷ word) ≡ reverse word ++ 32 ∷ reverse front
turned front word = reverse-append front (32 ∷ word) ∙ ap (λ (z : List ℕ). z ++ reverse front) (reverse_onto word 32 []) ∙ append_assoc (reverse word) (32 ∷ []) (reverse front)

last_len_back : (front word : List ℕ) → Whole word → last_len (front ++ 32 ∷ word) ≡ length word
last_len_back front word h = ap (prefix_len is_inner) (turned front word) ∙ run_len is_inner (reverse word) (32 ∷ reverse front) (reverse_all is_inner word h) refl ∙ length-reverse word

pub last_back : (front word : List ℕ) → Whole word → last_word (front ++ 32 ∷ word) ≡ word
last_back front word h =
    let line : List ℕ = front ++ 32 ∷ word in
    let n : length line - last_len line ≡ length (front ++ 32 ∷ []) = omega (arith, last_len_back front word h, length-append front (32 ∷ word), length-append front (32 ∷ [])) in
    ap (λ (k : ℕ). drop k line) n ∙ ap (drop (length (front ++ 32 ∷ []))) (sym (append_assoc front (32 ∷ []) word)) ∙ drop-append_seam (front ++ 32 ∷ []) word

pub before_back : (front word : List ℕ) → Whole word → before_last (front ++ 32 ∷ word) ≡ front
before_back front word h =
    let line : List ℕ = front ++ 32 ∷ word in
    let n : length line - last_len line - 1 ≡ length front = omega (arith, last_len_back front word h, length-append front (32 ∷ word)) in
    ap (λ (k : ℕ). take k line) n ∙ take-append_seam front (32 ∷ word)

-- A service's answer.

no_wait : (c : Cond) → bytes_eq (name_of c) (codes "WAIT") ≡ false
no_wait Normal = refl
no_wait _ = refl

pub served_back : (c : Call) (cond : Cond) → is_call c ≡ true → AreHeld (args_list c.args) → is_plain_call c ≡ true → served_in (32 ∷ call_text c) (name_of cond) ≡ Some (answer.Service c cond)
served_back c cond is held plain = ap (λ (o : Option Call). served_by o (name_of cond)) (call_of_text c is held plain) ∙ rw (no_wait cond, named_by cond) refl

pub waits_back : (c : Call) → is_call c ≡ true → AreHeld (args_list c.args) → is_plain_call c ≡ true → served_in (32 ∷ call_text c) (codes "WAIT") ≡ Some (answer.Wait c)
waits_back c is held plain = ap (λ (o : Option Call). served_by o (codes "WAIT")) (call_of_text c is held plain)

-- A line of two words and what is behind them.

abbrev pub two_words : List ℕ → List ℕ → List ℕ → List ℕ
two_words a b rest = 32 ∷ (a ++ 32 ∷ (b ++ 32 ∷ rest))

pub first_two : (a b rest : List ℕ) → Whole a → first_word (two_words a b rest) ≡ a
first_two a b rest h = run_first is_inner a (32 ∷ (b ++ 32 ∷ rest)) h refl

pub behind_two : (a b rest : List ℕ) → Whole a → Whole b → behind_word (behind_word (two_words a b rest)) ≡ 32 ∷ rest
behind_two a b rest h k = ap behind_word (run_behind is_inner a (32 ∷ (b ++ 32 ∷ rest)) h refl) ∙ run_behind is_inner b (32 ∷ rest) k refl

pub second_two : (a b rest : List ℕ) → Whole a → Whole b → second_word (two_words a b rest) ≡ b
second_two a b rest h k = ap first_word (run_behind is_inner a (32 ∷ (b ++ 32 ∷ rest)) h refl) ∙ run_first is_inner b (32 ∷ rest) k refl

pub third_two : (a b rest : List ℕ) → Whole a → Whole b → third_word (two_words a b rest) ≡ first_word (32 ∷ rest)
third_two a b rest h k = ap first_word (behind_two a b rest h k)

-- RUN and a call
pub ran_call : (p : ℕ) (call word : List ℕ) → p < 2 ^ 32 → Whole word → ran_in (third_word (two_words (codes "RUN") (decimal p) ((36 ∷ call) ++ 32 ∷ word))) (two_words (codes "RUN") (decimal p) ((36 ∷ call) ++ 32 ∷ word)) ≡ served_in (32 ∷ 36 ∷ call) word
ran_call p call word h k =
    let rest : List ℕ = (36 ∷ call) ++ 32 ∷ word in
    let line : List ℕ = two_words (codes "RUN") (decimal p) rest in
    let number = whole (decimal p) (tight_number p h) in
    let third : third_word line ≡ 36 ∷ take (word_len (call ++ 32 ∷ word)) (call ++ 32 ∷ word) = third_two (codes "RUN") (decimal p) rest refl number ∙ take-1 (word_len (call ++ 32 ∷ word)) 36 (call ++ 32 ∷ word) in
    let front : List ℕ = 32 ∷ (codes "RUN" ++ 32 ∷ (decimal p ++ 32 ∷ 36 ∷ call)) in
    let same : line ≡ front ++ 32 ∷ word = ap (λ (z : List ℕ). 32 ∷ (codes "RUN" ++ 32 ∷ z)) (sym (append_assoc (decimal p) (32 ∷ 36 ∷ call) (32 ∷ word))) in
    let last : last_word line ≡ word = ap last_word same ∙ last_back front word k in
    let before : before_last (behind_word (behind_word line)) ≡ 32 ∷ 36 ∷ call = ap before_last (behind_two (codes "RUN") (decimal p) rest refl number) ∙ before_back (32 ∷ 36 ∷ call) word k in
    ap (λ (z : List ℕ). ran_in z line) third ∙ ap (λ (z : List ℕ). served_in z (last_word line)) before ∙ ap (served_in (32 ∷ 36 ∷ call)) last

-- a line of RUN, by its words
pub run_head : (units : List UnitDecl) (p : Pid) (line : List ℕ) (a : Option Answer) → first_word line ≡ codes "RUN" → second_word line ≡ pid_text p → IsWord p.0 → ran_in (third_word line) line ≡ a → head_of units line ≡ with_event (event.Run p) a
run_head units p line a first second h is =
    ap (λ (z : List ℕ). cond (bytes_eq z (codes "RUN")) (run_in line) (other_head units z line)) first
    ∙ ap (λ (z : List ℕ). pid_of z >>= λ q. with_event (event.Run q) (ran_in (third_word line) line)) second
    ∙ ap (λ (o : Option Pid). o >>= λ q. with_event (event.Run q) (ran_in (third_word line) line)) (pid_back p h)
    ∙ ap (with_event (event.Run p)) is
