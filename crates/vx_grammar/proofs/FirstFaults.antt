-- The first fault that is told is the first faulty line.
use Rattle.std.proofs.Common.{◌≡◌, ℕ, ◌+◌, ◌≤◌, Bool, true, false, List, [], ◌∷◌, ◌++◌, length, Option, Some, None, Result, Ok, Err, refl, sym, subst, ap, ◌∙◌, arith, append-nil, append_assoc, length-append}
use Rattle.std.proofs.lemmas.Result.{IfOk-at_ok}
use Rattle.vx_image.specs.declared.image.Image.{Image}
use Rattle.vx_text.specs.Lex.{lex}
use Rattle.vx_text.specs.declared.token.Tok.{Tok}
use Rattle.vx_script.specs.Lines.{lines_of}
use Rattle.vx_script.specs.Results.{◌>>=◌, at_line}
use Rattle.vx_script.specs.Reading.{accepted, by_place, take_line, closed, nothing_read, read_lines, read_script}
use Rattle.vx_script.specs.Fields.{with_kind}
use Rattle.vx_script.specs.Resolving.{first_unknown, resolved}
use Rattle.vx_script.specs.declared.draft.DraftImage.{DraftImage}
use Rattle.vx_script.specs.declared.fault.FaultKind.{FaultKind}
use Rattle.vx_script.specs.declared.fault.FaultKind.TheVariants.{End, Unknown}
use Rattle.vx_script.specs.declared.fault.ScriptFault.{ScriptFault}
use Rattle.vx_script.specs.declared.parts.Parts.{Parts}
use Rattle.vx_script.specs.declared.parts.Reading.{Reading}
use Rattle.vx_script.proofs.KeptParts.{IsRead, line_kept, nothing_kept}
use Rattle.vx_grammar.specs.Grammar.{tokens_of}
use Rattle.vx_grammar.specs.Declared.{Declared}
use Rattle.vx_grammar.specs.FirstFault.{Fit, none_fit, one_fits, AllFit, AllKnown, none_known, one_known, FirstUnknown, TellsFault, of_a_line, of_the_end, of_a_name, Tells}
use Rattle.vx_grammar.specs.UnknownName.{names_unknown}
use Rattle.vx_grammar.proofs.Fields.{bind_ok}
use Rattle.vx_grammar.proofs.Feeding.{kinds, taken}
use Rattle.vx_grammar.proofs.TextLines.{cut_lines}
use Rattle.vx_grammar.proofs.Least.{least, Nothing, Sees, least_is, least_none, none_moves, seen_moves, stay_moves}
use Rattle.vx_grammar.proofs.LineFaults.{refused}
use Rattle.vx_grammar.proofs.LinesFit.{open_of, declared_by, declared, fits_read, read_fits}
use Rattle.vx_grammar.proofs.UnknownNames.{firsts, firsts_of, Stepped, stepped}

-- what is read of lines, whatever follows
abbrev pub reads : ℕ → Reading → List (List ℕ) → Result Reading FaultKind
reads line r [] = Ok r
reads line r (l ∷ ls) = take_line line r l >>= λ s. reads (line + 1) s ls

pub one_more : (line : ℕ) (r : Reading) (ls : List (List ℕ)) (l : List ℕ) → reads line r (ls ++ l ∷ []) ≡ (reads line r ls >>= λ s. take_line (line + length ls) s l)
one_more line r [] l = last (take_line line r l) ∙ (let e : line ≡ line + 0 = omega arith in ap (λ (k : ℕ). take_line k r l) e)
  where
    last : (q : Result Reading FaultKind) → (q >>= λ s. Ok s) ≡ q
    last (Ok s) = refl
    last (Err e) = refl
one_more line r (k ∷ ls) l = through (take_line line r k) (λ s. one_more (line + 1) s ls l)
  where
    through : (q : Result Reading FaultKind) → ((s : Reading) → reads (line + 1) s (ls ++ l ∷ []) ≡ (reads (line + 1) s ls >>= λ t. take_line (line + 1 + length ls) t l))
        → (q >>= λ s. reads (line + 1) s (ls ++ l ∷ [])) ≡ ((q >>= λ s. reads (line + 1) s ls) >>= λ s. take_line (line + length (k ∷ ls)) s l)
    through (Err e) more = refl
    through (Ok s) more = more s ∙ (let e : line + 1 + length ls ≡ line + length (k ∷ ls) = omega arith in ap (λ (n : ℕ). reads (line + 1) s ls >>= λ t. take_line n t l) e)

-- Lines that fit are read.

pub record FitRead (ls : List (List ℕ)) (d : Declared) : Type 0 where
  pub r : Reading
  pub read : reads 1 nothing_read ls ≡ Ok r
  pub same : declared r ≡ d

pub fit_read : (ls : List (List ℕ)) (d : Declared) → Fit ls d → FitRead ls d
fit_read _ _ none_fit = record { r = nothing_read; read = refl; same = refl }
fit_read _ _ (one_fits ls l ts d e before lexed fits) =
    let b = fit_read ls d before in
    let n = fits_read d ts e fits (1 + length ls) b.r.parts b.r.current b.same in
    record {
      r = n.next;
      read = one_more 1 nothing_read ls l ∙ ap (λ (q : Result Reading FaultKind). q >>= λ s. take_line (1 + length ls) s l) b.read ∙ taken (1 + length ls) b.r l ts n.next lexed n.read;
      same = n.same;
    }

-- A line that is read fits.

pub line_fits : (line : ℕ) (r s : Reading) (l : List ℕ) (ls : List (List ℕ)) → take_line line r l ≡ Ok s → IsRead s → Fit ls (declared r) → Fit (ls ++ l ∷ []) (declared s)
unfolding take_line
line_fits line r s l ls h is fit =
    let b = bind_ok (with_kind (lex l)) (accepted line r) s h in
    one_fits ls l b.0 (declared r) (declared s) fit (kinds (lex l) b.0 b.1) (read_fits line r.parts r.current b.0 s b.2 is)

-- Names that are looked up in the end.

-- the tokens of a line that is read, and what it does
pub record Taken (fin : Parts) (line : ℕ) (r s : Reading) (l : List ℕ) : Type 0 where
  pub ts : List Tok
  pub lexed : tokens_of l ≡ Ok ts
  pub read : by_place line r.parts r.current ts ≡ Ok s
  pub steps : Stepped fin line r.parts r.current s (names_unknown (declared_by fin None) (declared r).image ts)

pub line_taken : (fin : Parts) (line : ℕ) (r s : Reading) (l : List ℕ) → IsRead r → take_line line r l ≡ Ok s → Taken fin line r s l
unfolding take_line
line_taken fin line r s l is h =
    let b = bind_ok (with_kind (lex l)) (accepted line r) s h in
    record { ts = b.0; lexed = kinds (lex l) b.0 b.1; read = b.2; steps = stepped fin line r.parts r.current b.0 s is.current b.2 }

-- images stay where they stand
pub more_images : (line : ℕ) (r : Reading) (ls : List (List ℕ)) (e : Reading) → IsRead r → reads line r ls ≡ Ok e → (more : List Image) × (e.parts.images ≡ r.parts.images ++ more)
more_images line r [] e is h = ([], ap (λ (q : Reading). q.parts.images) (let k : e ≡ r = cc in k) ∙ sym (append-nil r.parts.images))
more_images line r (l ∷ ls) e is h =
    let b = bind_ok (take_line line r l) _ e h in
    let here = (line_taken e.parts line r b.0 l is b.1).steps.images in
    let rest = more_images (line + 1) b.0 ls e (IfOk-at_ok IsRead b.1 (line_kept line r l is)) b.2 in
    (here.0 ++ rest.0, rest.1 ∙ ap (λ (is : List Image). is ++ rest.0) here.1 ∙ append_assoc r.parts.images here.0 rest.0)

-- a line that is seen is seen in the end
pub stays : (k line : ℕ) (r : Reading) (ls : List (List ℕ)) (e : Reading) → IsRead r → reads line r ls ≡ Ok e → k ≤ line → Sees k (firsts_of e.parts r) → Sees k (firsts_of e.parts e)
stays k line r [] e is h b seen = subst (λ (q : Reading). Sees k (firsts_of e.parts q)) (let same : r ≡ e = cc in same) seen
stays k line r (l ∷ ls) e is h b seen =
    let n = bind_ok (take_line line r l) _ e h in
    let kept = IfOk-at_ok IsRead n.1 (line_kept line r l is) in
    let rest = more_images (line + 1) n.0 ls e kept n.2 in
    let moves = (line_taken e.parts line r n.0 l is n.1).steps.moves rest.0 rest.1 in
    stays k (line + 1) n.0 ls e kept n.2 (omega (arith, b)) (stay_moves k line _ _ _ moves b seen)

-- so far each line names what is there
record Scanned (e : Reading) (line : ℕ) (r : Reading) (front : List (List ℕ)) : Type 0 where
  place : line ≡ 1 + length front
  known : AllKnown (declared_by e.parts None) front (declared r)
  is : IsRead r
  nothing : Nothing (firsts_of e.parts r)

-- the first line that names what is not there
scan : (e : Reading) (lines : List (List ℕ)) (number : ℕ) → Fit lines (declared_by e.parts None) → least (firsts_of e.parts e) ≡ Some number
    → (line : ℕ) (r : Reading) (front ls : List (List ℕ)) → lines ≡ front ++ ls → Scanned e line r front → reads line r ls ≡ Ok e → FirstUnknown lines number
scan e lines number fit told line r front [] split so h =
    let same : r ≡ e = cc in
    let none = least_none (firsts_of e.parts e) (subst (λ (q : Reading). Nothing (firsts_of e.parts q)) same so.nothing) in
    absurd (cc)
scan e lines number fit told line r front (l ∷ ls) split so h =
    let n = bind_ok (take_line line r l) _ e h in
    by n.0 n.1 n.2 (line_taken e.parts line r n.0 l so.is n.1) (names_unknown (declared_by e.parts None) (declared r).image (line_taken e.parts line r n.0 l so.is n.1).ts) refl
    (λ more. scan e lines number fit told (line + 1) n.0 (front ++ l ∷ []) ls (split ∙ sym (append_assoc front (l ∷ []) ls)) more n.2)
  where
    by : (s : Reading) → take_line line r l ≡ Ok s → reads (line + 1) s ls ≡ Ok e → (t : Taken e.parts line r s l) → (b : Bool) → names_unknown (declared_by e.parts None) (declared r).image t.ts ≡ b
        → (Scanned e (line + 1) s (front ++ l ∷ []) → FirstUnknown lines number) → FirstUnknown lines number
    by s taken rest t b flag more =
        let kept = IfOk-at_ok IsRead taken (line_kept line r l so.is) in
        let images = more_images (line + 1) s ls e kept rest in
        let moves = t.steps.moves images.0 images.1 in
        let place = so.place in
        elim b as (λ b. names_unknown (declared_by e.parts None) (declared r).image t.ts ≡ b → FirstUnknown lines number) [
          | true ↦ λ flag.
              let seen = stays line (line + 1) s ls e kept rest (omega arith) (seen_moves line _ _ _ moves flag so.nothing) in
              let same : Some line ≡ Some number = sym (least_is line (firsts_of e.parts e) seen) ∙ told in
              let here : line ≡ number = cc in
              record {
                all = declared_by e.parts None;
                fit = fit;
                ended = refl;
                before = front;
                line = l;
                behind = ls;
                split = split;
                place = omega (arith, here, place);
                declared = declared r;
                known = so.known;
                tokens = t.ts;
                lexed = t.lexed;
                unknown = flag;
              }
          | false ↦ λ flag. more (record {
            place = omega (arith, place, length-append front (l ∷ []));
            known = one_known front l t.ts (declared r) (declared s) so.known t.lexed (read_fits line r.parts r.current t.ts s t.read kept) flag;
            is = kept;
            nothing = none_moves line _ _ _ moves flag so.nothing;
          })
        ] flag

-- What is told of lines, of which these were read.

-- so far these lines were read, and each fits
record Before (line : ℕ) (r : Reading) (front : List (List ℕ)) : Type 0 where
  read : reads 1 nothing_read front ≡ Ok r
  place : line ≡ 1 + length front
  fit : Fit front (declared r)
  is : IsRead r

as_text : (ls : List (List ℕ)) (f : ScriptFault) (g : ScriptFault) → f ≡ g → TellsFault ls f → TellsFault ls g
as_text ls f g e h = subst (λ (x : ScriptFault). TellsFault ls x) e h

tells_line : (line : ℕ) (r : Reading) (front : List (List ℕ)) (l : List ℕ) (ls : List (List ℕ)) (kind : FaultKind) → Before line r front → take_line line r l ≡ Err kind → TellsFault (front ++ l ∷ ls) (record { line = line; kind = kind })
tells_line line r front l ls kind b h =
    let none : AllFit (front ++ l ∷ []) → ⊥ = λ all.
    let f = fit_read (front ++ l ∷ []) all.0 all.1 in
    let first : reads 1 nothing_read (front ++ l ∷ []) ≡ take_line (1 + length front) r l = one_more 1 nothing_read front l ∙ ap (λ (q : Result Reading FaultKind). q >>= λ s. take_line (1 + length front) s l) b.read in
    let second : take_line (1 + length front) r l ≡ Err kind = ap (λ (n : ℕ). take_line n r l) (sym b.place) ∙ h in
    let both : Ok f.r ≡ Err kind = sym f.read ∙ first ∙ second in
    cc
    in
    let place = b.place in
    of_a_line (record { before = front; line = l; behind = ls; split = refl; place = (let n : line ≡ length front + 1 = omega (arith, place) in n); declared = declared r; fit = b.fit; faulty = none }) (refused line r l kind h)

pub nothing_yet : (fin : Parts) → Nothing (firsts_of fin nothing_read)
nothing_yet fin = (refl, (refl, (refl, (refl, (refl, (refl, tt))))))

tells_end : (line : ℕ) (r : Reading) (front : List (List ℕ)) (current : Option DraftImage) (f : ScriptFault) → Before line r front → r.current ≡ current → closed line r.parts current ≡ Err f → TellsFault front f
tells_end line r front (Some image) f b c h =
    as_text front (record { line = line; kind = End }) f (let e : record { line = line; kind = End } ≡ f = cc (h) in e) (
    let opened : (declared r).image ≡ Some (open_of image) = ap (λ (x : Option DraftImage). (declared_by r.parts x).image) c in
    let place = b.place in
    of_the_end (record {
      declared = declared r;
      image = open_of image;
      fit = b.fit;
      not_ended = opened;
      place = (let n : line ≡ length front + 1 = omega (arith, place) in n);
    }) refl)
tells_end line r front None f b c h = by (first_unknown r.parts) refl h
  where
    by : (unknown : Option ℕ) → first_unknown r.parts ≡ unknown → resolved r.parts unknown ≡ Err f → TellsFault front f
    by None u h = absurd (cc)
    by (Some n) u h =
        let all : declared r ≡ declared_by r.parts None = ap (λ (x : Option DraftImage). declared_by r.parts x) c in
        let told : least (firsts_of r.parts r) ≡ Some n = ap (λ (x : Option DraftImage). least (firsts r.parts r.parts x)) c ∙ u in
        let first = scan r front n (subst (λ (d : Declared). Fit front d) all b.fit) told 1 nothing_read [] front refl (record { place = refl; known = none_known; is = nothing_kept; nothing = nothing_yet r.parts }) b.read in
        as_text front (record { line = n; kind = Unknown }) f (let e : record { line = n; kind = Unknown } ≡ f = cc in e) (of_a_name first refl)

tells : (line : ℕ) (r : Reading) (front ls : List (List ℕ)) (f : ScriptFault) → Before line r front → read_lines line r ls ≡ Err f → TellsFault (front ++ ls) f
unfolding read_lines
tells line r front [] f b h = subst (λ (ls : List (List ℕ)). TellsFault ls f) (sym (append-nil front)) (tells_end line r front r.current f b refl h)
tells line r front (l ∷ ls) f b h = by (take_line line r l) refl h (λ s. tells (line + 1) s (front ++ l ∷ []) ls f)
  where
    by : (q : Result Reading FaultKind) → take_line line r l ≡ q → (at_line line q >>= λ s. read_lines (line + 1) s ls) ≡ Err f
        → ((s : Reading) → Before (line + 1) s (front ++ l ∷ []) → read_lines (line + 1) s ls ≡ Err f → TellsFault ((front ++ l ∷ []) ++ ls) f) → TellsFault (front ++ l ∷ ls) f
    by (Err kind) t h rest = as_text (front ++ l ∷ ls) (record { line = line; kind = kind }) f (let e : record { line = line; kind = kind } ≡ f = cc in e) (tells_line line r front l ls kind b t)
    by (Ok s) t h rest =
        let is : IsRead s = IfOk-at_ok IsRead t (line_kept line r l b.is) in
        let place = b.place in
        let more : Before (line + 1) s (front ++ l ∷ []) = record {
          read = one_more 1 nothing_read front l ∙ ap (λ (q : Result Reading FaultKind). q >>= λ s. take_line (1 + length front) s l) b.read ∙ ap (λ (n : ℕ). take_line n r l) (sym b.place) ∙ t;
          place = omega (arith, place, length-append front (l ∷ []));
          fit = line_fits line r s l front t is b.fit;
          is = is;
        } in
        subst (λ (ks : List (List ℕ)). TellsFault ks f) (append_assoc front (l ∷ []) ls) (rest s more h)

pub starts : (text : List ℕ) → read_script text ≡ read_lines 1 nothing_read (lines_of text)
unfolding read_script
starts text = refl

-- the fault of a text is its first
pub first_fault : (text : List ℕ) (f : ScriptFault) → read_script text ≡ Err f → Tells text f
first_fault text f h = (lines_of text, cut_lines text, tells 1 nothing_read [] (lines_of text) f (record { read = refl; place = refl; fit = none_fit; is = nothing_kept }) (sym (starts text) ∙ h))
