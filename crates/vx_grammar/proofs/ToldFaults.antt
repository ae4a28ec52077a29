-- A fault that is told of a text is the one that the reader answers.
use Rattle.std.proofs.Common.{◌≡◌, ℕ, ◌+◌, true, false, List, [], ◌∷◌, ◌++◌, length, Option, Some, None, Result, Ok, Err, refl, sym, subst, ap, ◌∙◌, arith, append-nil, append_assoc, length-append}
use Rattle.std.proofs.lemmas.Result.{IfOk-at_ok}
use Rattle.vx_text.specs.declared.token.Tok.{Tok}
use Rattle.vx_script.specs.Lines.{lines_of}
use Rattle.vx_script.specs.Results.{◌>>=◌, at_line}
use Rattle.vx_script.specs.Reading.{by_place, take_line, closed, nothing_read, read_lines, read_script}
use Rattle.vx_script.specs.Resolving.{first_unknown, resolved}
use Rattle.vx_script.specs.declared.draft.DraftImage.{DraftImage}
use Rattle.vx_script.specs.declared.fault.FaultKind.{FaultKind}
use Rattle.vx_script.specs.declared.fault.FaultKind.TheVariants.{End, Unknown}
use Rattle.vx_script.specs.declared.fault.ScriptFault.{ScriptFault}
use Rattle.vx_script.specs.declared.parts.Parts.{Parts}
use Rattle.vx_script.specs.declared.parts.Reading.{Reading}
use Rattle.vx_script.proofs.KeptParts.{IsRead, line_kept, nothing_kept}
use Rattle.vx_grammar.specs.Grammar.{tokens_of}
use Rattle.vx_grammar.specs.Declared.{DeclaredImage, Declared}
use Rattle.vx_grammar.specs.FirstFault.{Fit, FirstFaulty, AllKnown, none_known, one_known, FirstUnknown, TellsFault, of_a_line, of_the_end, of_a_name, Tells}
use Rattle.vx_grammar.specs.LineFault.{line_fault}
use Rattle.vx_grammar.specs.UnknownName.{names_unknown}
use Rattle.vx_grammar.proofs.Fields.{bind_ok, one_ok, one_err}
use Rattle.vx_grammar.proofs.TextLines.{lines_cut}
use Rattle.vx_grammar.proofs.Least.{least, Nothing, least_is, none_moves, seen_moves}
use Rattle.vx_grammar.proofs.LineFaults.{refused}
use Rattle.vx_grammar.proofs.LinesFit.{declared_by, declared, fits_read}
use Rattle.vx_grammar.proofs.UnknownNames.{firsts, firsts_of}
use Rattle.vx_grammar.proofs.FirstFaults.{reads, FitRead, fit_read, line_fits, line_taken, more_images, stays, starts, nothing_yet}

ends : (line : ℕ) (r : Reading) (ls : List (List ℕ)) → read_lines line r ([] ++ ls) ≡ read_lines (line + 0) r ls
ends line r ls = let e : line ≡ line + 0 = omega arith in ap (λ (k : ℕ). read_lines k r ls) e

-- lines that are read are behind
read_behind : (line : ℕ) (r s : Reading) (front ls : List (List ℕ)) → reads line r front ≡ Ok s → read_lines line r (front ++ ls) ≡ read_lines (line + length front) s ls
unfolding read_lines
read_behind line r s [] ls h = ends line r ls ∙ ap (λ (q : Reading). read_lines (line + 0) q ls) (let e : r ≡ s = cc in e)
read_behind line r s (l ∷ front) ls h =
    let b = bind_ok (take_line line r l) _ s h in
    let e : line + 1 + length front ≡ line + length (l ∷ front) = omega arith in
    ap (λ (q : Result Reading FaultKind). at_line line q >>= λ t. read_lines (line + 1) t (front ++ ls)) b.1 ∙ read_behind (line + 1) b.0 s front ls b.2 ∙ ap (λ (k : ℕ). read_lines k s ls) e

reads_kept : (line : ℕ) (r s : Reading) (front : List (List ℕ)) → IsRead r → reads line r front ≡ Ok s → IsRead s
reads_kept line r s [] is h = subst IsRead (let e : r ≡ s = cc in e) is
reads_kept line r s (l ∷ front) is h =
    let b = bind_ok (take_line line r l) _ s h in
    reads_kept (line + 1) b.0 s front (IfOk-at_ok IsRead b.1 (line_kept line r l is)) b.2

line_told : (line : ℕ) (r : Reading) (l : List ℕ) (ls : List (List ℕ)) (kind : FaultKind) → take_line line r l ≡ Err kind → read_lines line r (l ∷ ls) ≡ Err (record { line = line; kind = kind })
unfolding read_lines
line_told line r l ls kind h = rw h refl

-- a line that is the first faulty one is told, with its kind
record LineTold (text : List ℕ) (number : ℕ) (d : Declared) (l : List ℕ) : Type 0 where
  kind : FaultKind
  told : read_script text ≡ Err (record { line = number; kind = kind })
  is : line_fault d l ≡ Err kind

told_by : (text : List ℕ) (number : ℕ) (f : FirstFaulty (lines_of text) number) (r : FitRead f.before f.declared) (q : Result Reading FaultKind) → take_line (1 + length f.before) r.r f.line ≡ q → LineTold text number f.declared f.line
told_by text number f r (Ok s) e =
    let is : IsRead s = IfOk-at_ok IsRead e (line_kept (1 + length f.before) r.r f.line (reads_kept 1 nothing_read r.r f.before nothing_kept r.read)) in
    let fit : Fit f.before (declared r.r) = subst (λ (d : Declared). Fit f.before d) (sym r.same) f.fit in
    absurd (f.faulty (declared s, line_fits (1 + length f.before) r.r s f.line f.before e is fit))
told_by text number f r (Err kind) e =
    let place = f.place in
    let n : 1 + length f.before ≡ number = omega (arith, place) in
    record {
      kind = kind;
      told = starts text ∙ ap (read_lines 1 nothing_read) f.split ∙ read_behind 1 nothing_read r.r f.before (f.line ∷ f.behind) r.read ∙ line_told (1 + length f.before) r.r f.line f.behind kind e
          ∙ ap (λ (k : ℕ). Err (record { line = k; kind = kind })) n;
      is = ap (λ (d : Declared). line_fault d f.line) (sym r.same) ∙ refused (1 + length f.before) r.r f.line kind e;
    }

line_of_fault : (text : List ℕ) (number : ℕ) (f : FirstFaulty (lines_of text) number) → LineTold text number f.declared f.line
line_of_fault text number f =
    let r = fit_read f.before f.declared f.fit in
    told_by text number f r (take_line (1 + length f.before) r.r f.line) refl

-- A text whose lines all fit.

all_read : (text : List ℕ) (r : Reading) → reads 1 nothing_read (lines_of text) ≡ Ok r → read_script text ≡ closed (1 + length (lines_of text)) r.parts r.current
unfolding read_lines
all_read text r h = starts text ∙ ap (read_lines 1 nothing_read) (sym (append-nil (lines_of text))) ∙ read_behind 1 nothing_read r (lines_of text) [] h

end_told : (line : ℕ) (p : Parts) (current : Option DraftImage) (o : DeclaredImage) → (declared_by p current).image ≡ Some o → closed line p current ≡ Err (record { line = line; kind = End })
end_told line p None o h = absurd (cc)
end_told line p (Some image) o h = refl

ended_told : (line : ℕ) (p : Parts) (current : Option DraftImage) → (declared_by p current).image ≡ None → current ≡ None
ended_told line p None h = refl
ended_told line p (Some image) h = absurd (cc)

-- lines that are read, the rest of which is read too
record Walked (e : Reading) (front : List (List ℕ)) (d : Declared) (ls : List (List ℕ)) : Type 0 where
  q : Reading
  same : declared q ≡ d
  is : IsRead q
  nothing : Nothing (firsts_of e.parts q)
  rest : reads (1 + length front) q ls ≡ Ok e

walk : (e : Reading) (front : List (List ℕ)) (d : Declared) → AllKnown (declared_by e.parts None) front d → (ls : List (List ℕ)) → reads 1 nothing_read (front ++ ls) ≡ Ok e → Walked e front d ls
walk e _ _ none_known ls h = record { q = nothing_read; same = refl; is = nothing_kept; nothing = nothing_yet e.parts; rest = ap (λ (k : ℕ). reads k nothing_read ls) (let one : 1 + 0 ≡ 1 = omega arith in one) ∙ h }
walk e _ _ (one_known lines line tokens d f known lexed fits flag) ls h =
    let w = walk e lines d known (line ∷ ls) (ap (reads 1 nothing_read) (sym (append_assoc lines (line ∷ []) ls)) ∙ h) in
    let n = bind_ok (take_line (1 + length lines) w.q line) _ e w.rest in
    let kept = IfOk-at_ok IsRead n.1 (line_kept (1 + length lines) w.q line w.is) in
    let images = more_images (1 + length lines + 1) n.0 ls e kept n.2 in
    let t = line_taken e.parts (1 + length lines) w.q n.0 line w.is n.1 in
    let tokens_are : t.ts ≡ tokens = one_ok (tokens_of line) t.ts tokens t.lexed lexed in
    let x = fits_read d tokens f fits (1 + length lines) w.q.parts w.q.current w.same in
    let read : by_place (1 + length lines) w.q.parts w.q.current tokens ≡ Ok n.0 = ap (by_place (1 + length lines) w.q.parts w.q.current) (sym tokens_are) ∙ t.read in
    let next : x.next ≡ n.0 = one_ok _ x.next n.0 x.read read in
    let here : names_unknown (declared_by e.parts None) (declared w.q).image t.ts ≡ false =
    ap (λ (us : List Tok). names_unknown (declared_by e.parts None) (declared w.q).image us) tokens_are ∙ ap (λ (g : Declared). names_unknown (declared_by e.parts None) g.image tokens) w.same ∙ flag in
    let place : 1 + length lines + 1 ≡ 1 + length (lines ++ line ∷ []) = omega (arith, length-append lines (line ∷ [])) in
    record {
      q = n.0;
      same = ap declared (sym next) ∙ x.same;
      is = kept;
      nothing = none_moves (1 + length lines) _ _ _ (t.steps.moves images.0 images.1) here w.nothing;
      rest = ap (λ (k : ℕ). reads k n.0 ls) (sym place) ∙ n.2;
    }

-- the first line that names what is not there is told
name_told : (lines : List (List ℕ)) (number : ℕ) (u : FirstUnknown lines number) (e : Reading) → reads 1 nothing_read lines ≡ Ok e → declared_by e.parts None ≡ u.all → least (firsts_of e.parts e) ≡ Some number
name_told lines number u e h all =
    let w = walk e u.before u.declared (subst (λ (a : Declared). AllKnown a u.before u.declared) (sym all) u.known) (u.line ∷ u.behind) (ap (reads 1 nothing_read) (sym u.split) ∙ h) in
    let line = 1 + length u.before in
    let n = bind_ok (take_line line w.q u.line) _ e w.rest in
    let kept = IfOk-at_ok IsRead n.1 (line_kept line w.q u.line w.is) in
    let images = more_images (line + 1) n.0 u.behind e kept n.2 in
    let t = line_taken e.parts line w.q n.0 u.line w.is n.1 in
    let tokens_are : t.ts ≡ u.tokens = one_ok (tokens_of u.line) t.ts u.tokens t.lexed u.lexed in
    let flag : names_unknown (declared_by e.parts None) (declared w.q).image t.ts ≡ true =
    ap (λ (us : List Tok). names_unknown (declared_by e.parts None) (declared w.q).image us) tokens_are
    ∙ ap (λ (g : Declared). names_unknown (declared_by e.parts None) g.image u.tokens) w.same ∙ ap (λ (a : Declared). names_unknown a u.declared.image u.tokens) all ∙ u.unknown in
    let seen = stays line (line + 1) n.0 u.behind e kept n.2 (omega arith) (seen_moves line _ _ _ (t.steps.moves images.0 images.1) flag w.nothing) in
    let place = u.place in
    let here : line ≡ number = omega (arith, place) in
    least_is line (firsts_of e.parts e) seen ∙ ap Some here

-- Any fault.

of_kind : (number : ℕ) (kind : FaultKind) (f : ScriptFault) → number ≡ f.line → kind ≡ f.kind → record { line = number; kind = kind } ≡ f
of_kind number kind f h k = ap (λ (n : ℕ). record { line = n; kind = kind }) h ∙ ap (λ (x : FaultKind). record { line = f.line; kind = x }) k

tells_only : (text : List ℕ) (f : ScriptFault) → TellsFault (lines_of text) f → read_script text ≡ Err f
tells_only text f (of_a_line faulty kind) =
    let t = line_of_fault text f.line faulty in
    t.told ∙ ap Err (of_kind f.line t.kind f refl (one_err (line_fault faulty.declared faulty.line) t.kind f.kind t.is kind))
tells_only text f (of_the_end n kind) =
    let r = fit_read (lines_of text) n.declared n.fit in
    let opened : (declared r.r).image ≡ Some n.image = ap (λ (d : Declared). d.image) r.same ∙ n.not_ended in
    let place = n.place in
    let line : 1 + length (lines_of text) ≡ f.line = omega (arith, place) in
    all_read text r.r r.read ∙ end_told _ r.r.parts r.r.current n.image opened ∙ ap Err (of_kind _ End f line (sym kind))
tells_only text f (of_a_name u kind) =
    let r = fit_read (lines_of text) u.all u.fit in
    let ended : r.r.current ≡ None = ended_told 0 r.r.parts r.r.current (ap (λ (d : Declared). d.image) r.same ∙ u.ended) in
    let all : declared_by r.r.parts None ≡ u.all = ap (declared_by r.r.parts) (sym ended) ∙ r.same in
    let first : first_unknown r.r.parts ≡ Some f.line = ap (λ (x : Option DraftImage). least (firsts r.r.parts r.r.parts x)) (sym ended) ∙ name_told (lines_of text) f.line u r.r r.read all in
    all_read text r.r r.read ∙ ap (closed (1 + length (lines_of text)) r.r.parts) ended ∙ ap (resolved r.r.parts) first ∙ ap Err (of_kind f.line Unknown f refl (sym kind))

-- a text has one fault at most: that which the reader answers
pub only_fault : (text : List ℕ) (f : ScriptFault) → Tells text f → read_script text ≡ Err f
only_fault text f t = tells_only text f (subst (λ (ls : List (List ℕ)). TellsFault ls f) (sym (lines_cut text t.0 t.1)) t.2)
