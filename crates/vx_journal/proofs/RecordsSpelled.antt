-- Lines that are read as records are the lines that the records are printed as.
use Rattle.std.proofs.Common.{◌≡◌, ℕ, ◌+◌, ◌==◌, Bool, true, false, cond, List, [], ◌∷◌, ◌++◌, length, drop, map, flat_map, codes, bytes_eq, Option, Some, None, Result, Ok, IfSome, refl, sym, ap, subst, ◌∙◌, arith, append_assoc, append-nil, drop-drop}
use Rattle.std.proofs.Math.Seq.{drop-append_seam}
use Rattle.std.specs.Prelude.{option_to_list}
use Rattle.std.proofs.lemmas.Grind.{flat_map-append}
use Rattle.std.proofs.lemmas.List.{map-append}
use Rattle.std.proofs.lemmas.Bool.Decides.{nat_tests}
use Rattle.std.proofs.lemmas.Slice.Eq.{bytes_eq-Decides}
use Rattle.vx_record.specs.Types.{Answer, Effect, Event, Rec, UnitDecl}
use Rattle.vx_base.specs.declared.record.Event.TheVariants as event
use Rattle.vx_lines.specs.Fields.{id_of, pid_of, unit_of}
use Rattle.vx_lines.specs.Numbers.{value_up_to}
use Rattle.vx_lines.specs.ReadEffect.{effect_of, if_spelled, read_effect, unfed}
use Rattle.vx_lines.specs.ReadHead.{from_space, head_of, if_head, other_head, ran_in, down_in, read_head, with_event}
use Rattle.vx_lines.specs.ReadRecords.{begins_with_space, effect_line as read_effect_line, fed_lines, head_line as read_head_line, is_of_record, nothing_read, or_bad, read_line, read_lines, read_records, read_so_far, with_head}
use Rattle.vx_lines.specs.Records.{effect_line, ended_lines, head_line, record_lines, records_lines}
use Rattle.vx_lines.specs.Words.{◌>>=◌, first_word, second_word, third_word}
use Rattle.vx_lines.specs.declared.read.Reading.{Reading}
use Rattle.vx_lines.specs.declared.read.Records.{Records}
use Rattle.std.proofs.lemmas.Option.{cond_some}
use Rattle.std.specs.List.{onto_first}

-- A line that is taken is the printed one.

effect_by : (line : List ℕ) (o : Option Effect) (f : Effect) → (o >>= if_spelled line) ≡ Some f → line ≡ effect_line f ++ 10 ∷ []
effect_by line None f h = absurd (cc)
effect_by line (Some e) f h =
    let k = cond_some (bytes_eq (effect_line e ++ 10 ∷ []) line) e f h in
    sym ((bytes_eq-Decides (effect_line e ++ 10 ∷ []) line).0 k.0) ∙ ap (λ z. effect_line z ++ 10 ∷ []) k.1

effect_spelled : (line : List ℕ) (f : Effect) → read_effect line ≡ Some f → line ≡ effect_line f ++ 10 ∷ []
unfolding read_effect
effect_spelled line f h = effect_by line (effect_of (unfed line)) f h

-- A head that is read has no effects.

abbrev pub IsBare : Rec → Type 0
IsBare r = r.effects ≡ []

behind : {A : Type 0} (o : Option A) (f : A → Option Rec) → ((x : A) → IfSome (f x) IsBare) → IfSome (o >>= f) IsBare
behind None f h = tt
behind (Some x) f h = h x

either : (t : Bool) (x y : Option Rec) → IfSome x IsBare → IfSome y IsBare → IfSome (cond t x y) IsBare
either true x y h k = h
either false x y h k = k

answered : (e : Event) (a : Option Answer) → IfSome (with_event e a) IsBare
answered e None = tt
answered e (Some a) = refl

bare_other : (units : List UnitDecl) (word line : List ℕ) → IfSome (other_head units word line) IsBare
bare_other units word line =
    either (bytes_eq word (codes "AST")) _ _ (behind (pid_of (second_word line)) _ (λ p. behind (id_of (third_word line)) _ (λ id. refl))) (
    either (bytes_eq word (codes "RDN")) _ _ (behind (pid_of (second_word line)) _ (λ p. answered (event.Rdn p) (down_in (third_word line)))) (
    either (bytes_eq word (codes "BEG")) _ _ (behind (unit_of units (second_word line)) _ (λ u. behind (id_of (third_word line)) _ (λ id. refl))) (
    either (bytes_eq word (codes "DON")) _ _ (behind (unit_of units (second_word line)) _ (λ u. behind (id_of (third_word line)) _ (λ id. refl))) (
    either (bytes_eq word (codes "TICK")) _ _ (behind (value_up_to 18446744073709551615 (second_word line)) _ (λ t. refl)) tt))))

bare_head : (units : List UnitDecl) (line : List ℕ) → IfSome (head_of units line) IsBare
bare_head units line = either (bytes_eq (first_word line) (codes "RUN")) _ _ (behind (pid_of (second_word line)) _ (λ p. answered (event.Run p) (ran_in (third_word line) line))) (bare_other units (first_word line) line)

head_by : (units : List UnitDecl) (n : ℕ) (line : List ℕ) (o : Option Rec) (r : Rec) → IfSome o IsBare → (o >>= if_head units n line) ≡ Some r → (line ≡ head_line units n r ++ 10 ∷ []) × IsBare r
head_by units n line None r bare h = absurd (cc)
head_by units n line (Some q) r bare h =
    let k = cond_some (bytes_eq (head_line units n q ++ 10 ∷ []) line) q r h in
    (sym ((bytes_eq-Decides (head_line units n q ++ 10 ∷ []) line).0 k.0) ∙ ap (λ z. head_line units n z ++ 10 ∷ []) k.1, subst IsBare k.1 bare)

pub head_spelled : (units : List UnitDecl) (n : ℕ) (line : List ℕ) (r : Rec) → read_head units n line ≡ Some r → (line ≡ head_line units n r ++ 10 ∷ []) × IsBare r
unfolding read_head
head_spelled units n line r h = head_by units n line (head_of units (from_space (unfed line))) r (bare_head units (from_space (unfed line))) h

-- One more line is the printed text of one more head or effect.

pub records_more : (units : List UnitDecl) (n : ℕ) (xs ys : List Rec) → records_lines units n (xs ++ ys) ≡ records_lines units n xs ++ records_lines units (n + length xs) ys
records_more units n [] ys = ap (λ (k : ℕ). records_lines units k ys) (omega arith)
records_more units n (x ∷ xs) ys =
    let next : (n + 1) + length xs ≡ n + length (x ∷ xs) = omega arith in
    ap (λ z. record_lines units n x ++ z) (records_more units (n + 1) xs ys ∙ ap (λ (k : ℕ). records_lines units (n + 1) xs ++ records_lines units k ys) next) ∙ sym (append_assoc (record_lines units n x) (records_lines units (n + 1) xs) (records_lines units (n + length (x ∷ xs)) ys))

-- what records are printed as, with one record at their end
abbrev ends_with : List UnitDecl → List Rec → List (List ℕ) → List ℕ
ends_with units recs lines = ended_lines (records_lines units 1 recs ++ lines)

last_record : (units : List UnitDecl) (recs : List Rec) (r : Rec) → ended_lines (records_lines units 1 (recs ++ r ∷ [])) ≡ ends_with units recs (record_lines units (1 + length recs) r)
last_record units recs r = ap ended_lines (records_more units 1 recs (r ∷ []) ∙ ap (λ z. records_lines units 1 recs ++ z) (append-nil (record_lines units (1 + length recs) r)))

abbrev said : List UnitDecl → Reading → List ℕ
said units r = ended_lines (records_lines units 1 (read_so_far r))

one_more : (lines : List (List ℕ)) (head line : List ℕ) (es : List (List ℕ)) → ended_lines (lines ++ (head ∷ (es ++ line ∷ []))) ≡ ended_lines (lines ++ (head ∷ es)) ++ (line ++ 10 ∷ [])
one_more lines head line es = simp (flat_map-append, append_assoc, append-nil)

effect_added : (units : List UnitDecl) (r s : Reading) (line : List ℕ) (current : Option Rec) (o : Option Effect) → r.current ≡ current → ((f : Effect) → o ≡ Some f → line ≡ effect_line f ++ 10 ∷ []) → (current >>= λ rec. o >>= λ f. Some (record r { current = Some (record rec { effects = rec.effects ++ f ∷ [] }) })) ≡ Some s → said units s ≡ said units r ++ line
effect_added units r s line None o is spelled h = absurd (cc)
effect_added units r s line (Some rec) None is spelled h = absurd (cc)
effect_added units r s line (Some rec) (Some f) is spelled h =
    let more : Rec = record rec { effects = rec.effects ++ f ∷ [] } in
    let now : record r { current = Some more } ≡ s = cc in
    let old : said units r ≡ ends_with units r.recs (record_lines units (1 + length r.recs) rec) = ap (λ o. ended_lines (records_lines units 1 (r.recs ++ option_to_list o))) is ∙ last_record units r.recs rec in
    let lines : map effect_line more.effects ≡ map effect_line rec.effects ++ effect_line f ∷ [] = map-append effect_line rec.effects (f ∷ []) in
    let new : said units (record r { current = Some more }) ≡ ends_with units r.recs (record_lines units (1 + length r.recs) rec) ++ (effect_line f ++ 10 ∷ []) = last_record units r.recs more ∙ ap (λ z. ends_with units r.recs (head_line units (1 + length r.recs) rec ∷ z)) lines ∙ one_more (records_lines units 1 r.recs) (head_line units (1 + length r.recs) rec) (effect_line f) (map effect_line rec.effects) in
    ap (said units) (sym now) ∙ new ∙ ap (λ z. z ++ (effect_line f ++ 10 ∷ [])) (sym old) ∙ ap (λ z. said units r ++ z) (sym (spelled f refl))

head_added : (units : List UnitDecl) (r s : Reading) (line : List ℕ) (o : Option Rec) → ((q : Rec) → o ≡ Some q → (line ≡ head_line units (length (read_so_far r) + 1) q ++ 10 ∷ []) × IsBare q) → with_head r o ≡ Some s → said units s ≡ said units r ++ line
head_added units r s line None spelled h = absurd (cc)
head_added units r s line (Some q) spelled h =
    let recs = read_so_far r in
    let is = spelled q refl in
    let now : record { recs = recs; current = Some q } ≡ s = cc in
    let place : 1 + length recs ≡ length recs + 1 = omega arith in
    let bare : record_lines units (1 + length recs) q ≡ head_line units (length recs + 1) q ∷ [] = ap (λ es. head_line units (1 + length recs) q ∷ map effect_line es) is.1 ∙ ap (λ (n : ℕ). head_line units n q ∷ []) place in
    let new : ended_lines (records_lines units 1 (recs ++ q ∷ [])) ≡ said units r ++ (head_line units (length recs + 1) q ++ 10 ∷ []) = last_record units recs q ∙ ap (ends_with units recs) bare ∙ simp (flat_map-append, append-nil) in
    ap (said units) (sym now) ∙ new ∙ ap (λ z. said units r ++ z) (sym is.0)

line_added : (units : List UnitDecl) (r s : Reading) (line : List ℕ) (t : Bool) → cond t (read_effect_line r line) (read_head_line units r line) ≡ Some s → said units s ≡ said units r ++ line
line_added units r s line true h = effect_added units r s line r.current (read_effect line) refl (effect_spelled line) h
line_added units r s line false h = head_added units r s line (read_head units (length (read_so_far r) + 1) line) (head_spelled units (length (read_so_far r) + 1) line) h

added : (units : List UnitDecl) (r s : Reading) (line : List ℕ) → read_line units r line ≡ Some s → said units s ≡ said units r ++ line
unfolding read_line
added units r s line h = line_added units r s line (begins_with_space line) h

-- All lines.

abbrev joined : List (List ℕ) → List ℕ
joined lines = flat_map (λ line. line) lines

joined_onto : (b : ℕ) (lines : List (List ℕ)) → joined (onto_first b lines) ≡ b ∷ joined lines
joined_onto b [] = refl
joined_onto b (line ∷ lines) = refl

joined_by : (b : ℕ) (lines : List (List ℕ)) (t : Bool) → (b == 10) ≡ t → joined (cond t ((10 ∷ []) ∷ lines) (onto_first b lines)) ≡ b ∷ joined lines
joined_by b lines true is = ap (λ (z : ℕ). z ∷ joined lines) (grind (arith, nat_tests, is))
joined_by b lines false is = joined_onto b lines

-- the lines of a text are the text
joined_lines : (text : List ℕ) → joined (fed_lines text) ≡ text
unfolding fed_lines
joined_lines [] = refl
joined_lines (b ∷ text) = joined_by b (fed_lines text) (b == 10) refl ∙ ap (λ z. b ∷ z) (joined_lines text)

drop_past : (l rest : List ℕ) (n : ℕ) → drop (length l + n) (l ++ rest) ≡ drop n rest
drop_past l rest n = sym (drop-drop n (length l) (l ++ rest)) ∙ ap (λ z. drop n z) (drop-append_seam l rest)

-- what was read so far, and the lines that are left, are the records printed and what they leave
pub record IsPrinted (units : List UnitDecl) (front : List ℕ) (at : ℕ) (rest : List ℕ) (records : Records) : Type 0 where
  pub taken : ℕ
  pub len : records.len ≡ at + taken
  pub text : front ++ rest ≡ ended_lines (records_lines units 1 records.recs) ++ drop taken rest

stopped : (units : List UnitDecl) (line at : ℕ) (r : Reading) (rest : List ℕ) (records : Records) (o : Result Records ℕ) → o ≡ Ok (record { recs = read_so_far r; line = line; len = at }) → o ≡ Ok records → IsPrinted units (said units r) at rest records
stopped units line at r rest records o made h =
    let is : record { recs = read_so_far r; line = line; len = at } ≡ records = cc in
    record {
      taken = 0;
      len = ap (λ (z : Records). z.len) (sym is) ∙ omega arith;
      text = ap (λ (z : Records). ended_lines (records_lines units 1 z.recs) ++ rest) is;
    }

further : (units : List UnitDecl) (at : ℕ) (r s : Reading) (l rest : List ℕ) (records : Records) → said units s ≡ said units r ++ l → IsPrinted units (said units s) (at + length l) rest records → IsPrinted units (said units r) at (l ++ rest) records
further units at r s l rest records more p = record {
  taken = length l + p.taken;
  len = p.len ∙ omega arith;
  text = sym (append_assoc (said units r) l rest) ∙ ap (λ z. z ++ rest) (sym more) ∙ p.text ∙ ap (λ z. ended_lines (records_lines units 1 records.recs) ++ z) (sym (drop_past l rest p.taken));
}

printed_by : (units : List UnitDecl) (line at : ℕ) (r : Reading) (l : List ℕ) (rest : List ℕ) (next : Option Reading) (records : Records) → ((s : Reading) → next ≡ Some s → said units s ≡ said units r ++ l) → (f : Reading → Result Records ℕ) → ((s : Reading) → f s ≡ Ok records → IsPrinted units (said units s) (at + length l) rest records) → or_bad line next f ≡ Ok records → IsPrinted units (said units r) at (l ++ rest) records
printed_by units line at r l rest None records more f then h = absurd (cc)
printed_by units line at r l rest (Some s) records more f then h = further units at r s l rest records (more s refl) (then s h)

printed_if : (units : List UnitDecl) (line at : ℕ) (r : Reading) (l : List ℕ) (ls : List (List ℕ)) (t : Bool) (records : Records) → ((s : Reading) → read_lines units (line + 1) (at + length l) s ls ≡ Ok records → IsPrinted units (said units s) (at + length l) (joined ls) records) → cond t (or_bad line (read_line units r l) (λ s. read_lines units (line + 1) (at + length l) s ls)) (Ok (record { recs = read_so_far r; line = line; len = at })) ≡ Ok records → IsPrinted units (said units r) at (l ++ joined ls) records
printed_if units line at r l ls true records then h = printed_by units line at r l (joined ls) (read_line units r l) records (λ s is. added units r s l is) (λ s. read_lines units (line + 1) (at + length l) s ls) then h
printed_if units line at r l ls false records then h = stopped units line at r (l ++ joined ls) records _ refl h

printed : (units : List UnitDecl) (line at : ℕ) (r : Reading) (ls : List (List ℕ)) (records : Records) → read_lines units line at r ls ≡ Ok records → IsPrinted units (said units r) at (joined ls) records
unfolding read_lines
printed units line at r [] records h = stopped units line at r [] records _ refl h
printed units line at r (l ∷ ls) records h = printed_if units line at r l ls (is_of_record l) records (λ s is. printed units (line + 1) (at + length l) s ls records is) h

-- a text that begins with records begins with what they are printed as
pub records_spelled : (units : List UnitDecl) (line : ℕ) (text : List ℕ) (records : Records) → read_records units line text ≡ Ok records → text ≡ ended_lines (records_lines units 1 records.recs) ++ drop records.len text
unfolding read_records
records_spelled units line text records h =
    let p = printed units line 0 nothing_read (fed_lines text) records h in
    let whole : joined (fed_lines text) ≡ text = joined_lines text in
    let len : p.taken ≡ records.len = omega (arith, p.len) in
    sym whole ∙ p.text ∙ ap (λ (n : ℕ). ended_lines (records_lines units 1 records.recs) ++ drop n (joined (fed_lines text))) len ∙ ap (λ z. ended_lines (records_lines units 1 records.recs) ++ drop records.len z) whole
