-- The lines between IMAGE and END are read as the image's labels and statements.
use Rattle.std.proofs.Common.{◌≡◌, ℕ, suc, ◌+◌, ◌≤◌, Bool, true, false, List, [], ◌∷◌, ◌++◌, length, map, nat_lt, nat_le, refl, sym, subst, ap, ◌∙◌, arith, append-nil, append_assoc, length-append}
use Rattle.std.specs.List.{AllByRecursion, list_all}
use Rattle.std.proofs.lemmas.Bool.{lt-ltb, le-leb, leb-true, leb-false, and_parts}
use Rattle.std.proofs.lemmas.Bool.Decides.{nat_tests}
use Rattle.std.proofs.lemmas.List.{map-append}
use Rattle.vx_image.specs.WellFormed.{is_stmt, falls_nowhere}
use Rattle.vx_image.specs.declared.image.Image.{Image}
use Rattle.vx_image.specs.declared.image.Label.{Label}
use Rattle.vx_image.specs.declared.stmt.Stmt.{Stmt}
use Rattle.vx_script.specs.Reading.{goes_on, with_label}
use Rattle.vx_script.specs.Script.{stmt_line, label_line, labels_up_to, body_lines}
use Rattle.vx_script.specs.declared.draft.Draft.{Draft}
use Rattle.vx_script.specs.declared.draft.DraftImage.{DraftImage}
use Rattle.vx_script.specs.declared.draft.DraftLine.{DraftLine}
use Rattle.vx_script.specs.declared.parts.Parts.{Parts}
use Rattle.vx_roundtrip.specs.Held.{IsHeldStmt, IsHeldLabelOf}
use Rattle.vx_roundtrip.proofs.Names.{Fresh}
use Rattle.vx_roundtrip.proofs.Outer.{Taken, Steps, stays, step, and_then, shaped}
use Rattle.vx_roundtrip.proofs.Stmts.{draft_of, take_stmt, take_label}
use Rattle.vx_grammar.proofs.LinesBack.{no_place, with_draft}

abbrev pub names_of : List Label → List (List ℕ)
names_of labels = map (λ l. l.name) labels

abbrev pub places_of : List Label → List ℕ
places_of labels = map (λ l. l.place) labels

abbrev pub drafts_of : List DraftLine → List Draft
drafts_of lines = map (λ d. d.draft) lines

-- an image whose lines were read up to a place, with the labels and statements that are left
pub record Ready (decls : List (List ℕ)) (image : Image) (place : ℕ) (current : DraftImage) (left : List Label) (stmts : List Stmt) : Type 0 where
  pub stands : length current.lines ≡ place
  pub labels_are : current.labels ++ left ≡ image.labels
  pub fresh : Fresh (names_of current.labels) (names_of left)
  pub named : AllByRecursion IsHeldLabelOf left
  pub order : falls_nowhere place (places_of left) ≡ true
  pub bound : list_all (λ p. nat_le p (place + length stmts)) (places_of left) ≡ true
  pub room : place + length stmts ≤ 10000
  pub stmts_are : list_all (is_stmt decls image) stmts ≡ true
  pub held : AllByRecursion IsHeldStmt stmts
  pub all_named : AllByRecursion IsHeldLabelOf image.labels

-- the lines were read up to these that are left, and give all the labels, and these statements
pub record Bodied (line : ℕ) (parts : Parts) (current : DraftImage) (ls rest : List (List ℕ)) (all : List Label) (stmts : List Stmt) : Type 0 where
  pub line2 : ℕ
  pub lines : List DraftLine
  pub read : Steps line (goes_on parts current) ls line2 (goes_on parts (record { name = current.name; labels = all; lines = lines })) rest
  pub drafts : drafts_of lines ≡ drafts_of current.lines ++ map (draft_of all) stmts

-- no label that is left stands here
abbrev IsLater : ℕ → List Label → Type 0
IsLater place left = falls_nowhere (place + 1) (places_of left) ≡ true

-- how the lines begin

not_below : (n m : ℕ) → m + 1 ≤ n → nat_le n m ≡ false
not_below n m h = grind (arith, nat_tests, h)

here_shape : (all left : List Label) (stmts : List Stmt) (l : Label) (place : ℕ) (rest : List (List ℕ)) → nat_le l.place place ≡ true → body_lines all place (l ∷ left) stmts ++ rest ≡ label_line l ∷ (body_lines all place left stmts ++ rest)
here_shape all left [] l place rest e = refl
here_shape all left (s ∷ stmts) l place rest e =
    let more : 1 + labels_up_to place left ≡ suc (labels_up_to place left) = omega arith in
    rw (e, more) refl

later_shape : (all : List Label) (place : ℕ) (left : List Label) (s : Stmt) (stmts : List Stmt) (rest : List (List ℕ)) → IsLater place left → body_lines all place left (s ∷ stmts) ++ rest ≡ stmt_line all s ∷ (body_lines all (place + 1) left stmts ++ rest)
later_shape all place [] s stmts rest h = refl
later_shape all place (l ∷ left) s stmts rest h =
    let p = and_parts (nat_le (place + 1) l.place) _ h in
    let e : nat_le l.place place ≡ false = not_below l.place place (leb-true _ _ p.0) in
    rw e refl

-- A label.

labelled_as : (current : DraftImage) (l : Label) (place : ℕ) → length current.lines ≡ place → l.place ≡ place → with_label current l.name ≡ record current { labels = current.labels ++ l ∷ [] }
labelled_as current l place stands is = ap (λ (p : ℕ). record current { labels = current.labels ++ record { name = l.name; place = p } ∷ [] }) (stands ∙ sym is)

ready_label : (decls : List (List ℕ)) (image : Image) (place : ℕ) (current : DraftImage) (l : Label) (left : List Label) (stmts : List Stmt) → l.place ≡ place → Ready decls image place current (l ∷ left) stmts → Ready decls image place (record current { labels = current.labels ++ l ∷ [] }) left stmts
ready_label decls image place current l left stmts is r =
    let p = and_parts (nat_le place l.place) _ r.order in
    let q = and_parts (nat_le l.place (place + length stmts)) _ r.bound in
    record {
      stands = r.stands;
      labels_are = append_assoc current.labels (l ∷ []) left ∙ r.labels_are;
      fresh = subst (λ (ns : List (List ℕ)). Fresh ns (names_of left)) (sym (map-append (λ (x : Label). x.name) current.labels (l ∷ []))) r.fresh.1;
      named = r.named.1;
      order = subst (λ (n : ℕ). falls_nowhere n (places_of left) ≡ true) is p.1;
      bound = q.1;
      room = r.room;
      stmts_are = r.stmts_are;
      held = r.held;
      all_named = r.all_named;
    }

-- what follows if no label stands here
abbrev Next : List (List ℕ) → Image → Parts → List (List ℕ) → List Stmt → ℕ → Type 0
Next decls image parts rest stmts place = (line : ℕ) (current : DraftImage) (left : List Label) → Ready decls image place current left stmts → IsLater place left → Bodied line parts current (body_lines image.labels place left stmts ++ rest) rest image.labels stmts

-- what follows whether or not one does
abbrev Goes : List (List ℕ) → Image → Parts → List (List ℕ) → List Stmt → ℕ → List Label → Type 0
Goes decls image parts rest stmts place left = (line : ℕ) (current : DraftImage) → Ready decls image place current left stmts → Bodied line parts current (body_lines image.labels place left stmts ++ rest) rest image.labels stmts

label_by : (decls : List (List ℕ)) (image : Image) (parts : Parts) (rest : List (List ℕ)) (stmts : List Stmt) (place : ℕ) (l : Label) (left : List Label) (t : Bool) → nat_le l.place place ≡ t → Next decls image parts rest stmts place → Goes decls image parts rest stmts place left → Goes decls image parts rest stmts place (l ∷ left)
label_by decls image parts rest stmts place l left true e next more line current r =
    let p = and_parts (nat_le place l.place) _ r.order in
    let is : l.place ≡ place = omega (arith, leb-true _ _ e, leb-true _ _ p.0) in
    let here : DraftImage = record current { labels = current.labels ++ l ∷ [] } in
    let ih = more (line + 1) here (ready_label decls image place current l left stmts is r) in
    let new = no_place (λ (x : Label). x.name) l.name current.labels r.fresh.0 in
    let taken = subst (λ (i : DraftImage). Taken line (goes_on parts current) (label_line l) (goes_on parts i)) (labelled_as current l place r.stands is) (take_label line parts current l r.named.0 new) in
    record {
      line2 = ih.line2;
      lines = ih.lines;
      read = shaped (here_shape image.labels left stmts l place rest e) (and_then (step line (goes_on parts current) (goes_on parts here) (label_line l) _ taken) ih.read);
      drafts = ih.drafts;
    }
label_by decls image parts rest stmts place l left false e next more line current r =
    let p = and_parts (nat_le place l.place) _ r.order in
    let above : nat_le (place + 1) l.place ≡ true = le-leb _ _ (omega (arith, leb-false _ _ e)) in
    next line current (l ∷ left) r (rw above p.1)

body_labels : (decls : List (List ℕ)) (image : Image) (parts : Parts) (rest : List (List ℕ)) (stmts : List Stmt) (place : ℕ) → Next decls image parts rest stmts place → (left : List Label) → Goes decls image parts rest stmts place left
body_labels decls image parts rest stmts place next [] line current r = next line current [] r refl
body_labels decls image parts rest stmts place next (l ∷ left) line current r = label_by decls image parts rest stmts place l left (nat_le l.place place) refl next (body_labels decls image parts rest stmts place next left) line current r

-- A statement.

ready_stmt : (decls : List (List ℕ)) (image : Image) (place line : ℕ) (current : DraftImage) (left : List Label) (s : Stmt) (stmts : List Stmt) (d : Draft) → IsLater place left → Ready decls image place current left (s ∷ stmts) → Ready decls image (place + 1) (with_draft line current d) left stmts
ready_stmt decls image place line current left s stmts d later r =
    let p = and_parts (is_stmt decls image s) _ r.stmts_are in
    let more : place + length (s ∷ stmts) ≡ place + 1 + length stmts = omega arith in
    record {
      stands = length-append current.lines (record { line = line; draft = d } ∷ []) ∙ ap (λ (n : ℕ). n + 1) r.stands;
      labels_are = r.labels_are;
      fresh = r.fresh;
      named = r.named;
      order = later;
      bound = subst (λ (n : ℕ). list_all (λ p. nat_le p n) (places_of left) ≡ true) more r.bound;
      room = omega (arith, r.room);
      stmts_are = p.1;
      held = r.held.1;
      all_named = r.all_named;
    }

drafts_more : (lines : List DraftLine) (line : ℕ) (d : Draft) (more : List Draft) → drafts_of (lines ++ record { line = line; draft = d } ∷ []) ++ more ≡ drafts_of lines ++ d ∷ more
drafts_more lines line d more = ap (λ (ds : List Draft). ds ++ more) (map-append (λ (x : DraftLine). x.draft) lines (record { line = line; draft = d } ∷ [])) ∙ append_assoc (drafts_of lines) (d ∷ []) more

next_stmt : (decls : List (List ℕ)) (image : Image) (parts : Parts) (rest : List (List ℕ)) (s : Stmt) (stmts : List Stmt) (place : ℕ) → ((left : List Label) → Goes decls image parts rest stmts (place + 1) left) → Next decls image parts rest (s ∷ stmts) place
next_stmt decls image parts rest s stmts place more line current left r later =
    let d = draft_of image.labels s in
    let p = and_parts (is_stmt decls image s) _ r.stmts_are in
    let room : nat_lt (length current.lines) 10000 ≡ true = lt-ltb _ _ (omega (arith, r.room, r.stands)) in
    let ih = more left (line + 1) (with_draft line current d) (ready_stmt decls image place line current left s stmts d later r) in
    record {
      line2 = ih.line2;
      lines = ih.lines;
      read = shaped (later_shape image.labels place left s stmts rest later) (and_then (step line (goes_on parts current) (goes_on parts (with_draft line current d)) (stmt_line image.labels s) _ (take_stmt line parts current decls image s p.0 r.held.0 r.all_named room)) ih.read);
      drafts = ih.drafts ∙ drafts_more current.lines line d (map (draft_of image.labels) stmts);
    }

-- The end.

next_end : (decls : List (List ℕ)) (image : Image) (parts : Parts) (rest : List (List ℕ)) (place : ℕ) → Next decls image parts rest [] place
next_end decls image parts rest place line current [] r later =
    record {
      line2 = line;
      lines = current.lines;
      read = subst (λ (ls : List Label). Steps line (goes_on parts current) rest line (goes_on parts (record { name = current.name; labels = ls; lines = current.lines })) rest) (sym (append-nil current.labels) ∙ r.labels_are) (stays line (goes_on parts current) rest);
      drafts = sym (append-nil (drafts_of current.lines));
    }
next_end decls image parts rest place line current (l ∷ left) r later =
    let none : List Stmt = [] in
    let p = and_parts (nat_le l.place (place + length none)) _ r.bound in
    let q = and_parts (nat_le (place + 1) l.place) _ later in
    absurd (omega (arith, leb-true _ _ p.0, leb-true _ _ q.0))

-- the lines of an image's body are read as its labels and statements
pub body_back : (decls : List (List ℕ)) (image : Image) (parts : Parts) (rest : List (List ℕ)) (stmts : List Stmt) (place : ℕ) (left : List Label) → Goes decls image parts rest stmts place left
body_back decls image parts rest [] place left = body_labels decls image parts rest [] place (next_end decls image parts rest place) left
body_back decls image parts rest (s ∷ stmts) place left = body_labels decls image parts rest (s ∷ stmts) place (next_stmt decls image parts rest s stmts place (body_back decls image parts rest stmts (place + 1))) left
