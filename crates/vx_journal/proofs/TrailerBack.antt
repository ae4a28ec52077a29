-- The lines of a trailer that have a spelling are read as what they spell.
use Rattle.std.proofs.Common.{◌≡◌, ℕ, ◌+◌, true, false, List, [], ◌∷◌, ◌++◌, Option, Some, None, Ok, refl, sym, ap, ◌∙◌, append-nil}
use Rattle.std.specs.Prelude.{decimal}
use Rattle.std.specs.List.{AllByRecursion, list_all}
use Rattle.vx_base.proofs.Any.{both_pass}
use Rattle.vx_base.specs.Name.{is_name}
use Rattle.vx_record.specs.Types.{End, Pid, UnitDecl, UnitNo}
use Rattle.vx_base.specs.declared.record.End.TheVariants.{Done}
use Rattle.vx_text.specs.Quote.{AreBytes, quote_text}
use Rattle.vx_lines.specs.Fields.{text_of, unit_of}
use Rattle.vx_lines.specs.ReadEffect.{is_no_feed}
use Rattle.vx_lines.specs.ReadRecords.{fed_lines, is_of_record}
use Rattle.vx_lines.specs.Records.{pid_text, spaced, unit_name}
use Rattle.vx_lines.specs.Spelled.{IsWord}
use Rattle.vx_lines.specs.SpelledHead.{IsSpelledUnit}
use Rattle.vx_lines.specs.Words.{◌>>=◌, first_word, behind_word, second_word, third_word, fourth_word}
use Rattle.vx_lines.proofs.EffectsBack.{Tight, whole, feedless, tight_number, tight_name, number_back, pid_back, name_back}
use Rattle.vx_lines.proofs.PartsBack.{text_back, text_feed}
use Rattle.vx_lines.proofs.RecordsLaw.{fed_line}
use Rattle.vx_lines.proofs.WordsBack.{run_first, first_back, behind_back, second_back, third_back, fourth_back}
use Rattle.vx_record.specs.declared.standing.Standing.{Standing}
use Rattle.vx_record.specs.declared.standing.Standing.TheVariants as standing
use Rattle.vx_journal.specs.SpelledJournal.{IsSpelledLine, part_behind, trailer_text}
use Rattle.vx_journal.specs.Transcript.{standing_word, end_word}
use Rattle.vx_journal.specs.TrailerLines.{end_in, end_of, ends_at, if_spelled, line_of, or_bad, output_in, place_after, place_behind, process_in, read_line, read_trailer, standing_of, trailer_line, trailer_lines_from}
use Rattle.vx_journal.specs.declared.journal.Part.{Part}
use Rattle.vx_journal.specs.declared.trailer.Place.{Place}
use Rattle.vx_journal.specs.declared.trailer.Place.TheVariants as place
use Rattle.vx_journal.specs.declared.trailer.TrailerLine.{TrailerLine}
use Rattle.vx_journal.specs.declared.trailer.TrailerLine.TheVariants as trailer
use Rattle.vx_journal.proofs.TrailerPart.{begins, first_line, over}
use Rattle.vx_base.proofs.Texts.{same_bytes}

-- Words.

standing_back : (st : Standing) → standing_of (standing_word st) ≡ Some st
standing_back standing.Gone = refl
standing_back _ = refl

tight_standing : (st : Standing) → Tight (standing_word st)
tight_standing standing.Gone = refl
tight_standing _ = refl

end_back : (end : End) → end_of (end_word end) ≡ Some end
end_back Done = refl
end_back _ = refl

tight_end : (end : End) → Tight (end_word end)
tight_end Done = refl
tight_end _ = refl

process_words : (line : List ℕ) (p : Pid) (name : List ℕ) (st : Standing) (code : ℕ) → IsWord p.0 → is_name name ≡ true → IsWord code → first_word line ≡ pid_text p → second_word line ≡ name → third_word line ≡ standing_word st → fourth_word line ≡ decimal code → process_in line ≡ Some (trailer.Process p name st code)
process_words line p name st code h i j a b c d = rw (a, b, c, d, pid_back p h, name_back name i, standing_back st, number_back code j) refl

end_words : (line : List ℕ) (end : End) (n : ℕ) → IsWord n → first_word line ≡ end_word end → second_word line ≡ decimal n → end_in line ≡ Some (trailer.End end n)
end_words line end n h a b = rw (a, b, end_back end, number_back n h) refl

output_words : (units : List UnitDecl) (line name : List ℕ) (u : UnitNo) (bytes : List ℕ) → unit_of units name ≡ Some u → first_word line ≡ name → output_in units line (Some bytes) ≡ Some (trailer.Output u bytes)
output_words units line name u bytes h a = rw (a, h) refl

-- Lines.

-- what is known of a line that has a spelling: it has no line feed, and its words are what it spells
record IsBack (units : List UnitDecl) (t : TrailerLine) : Type 0 where
  feed : list_all is_no_feed (trailer_line units t) ≡ true
  read : line_of units (trailer_line units t) ≡ Some t

process_back : (units : List UnitDecl) (p : Pid) (name : List ℕ) (st : Standing) (code : ℕ) → IsWord p.0 → is_name name ≡ true → IsWord code → IsBack units (trailer.Process p name st code)
process_back units p name st code h i j =
    let a = tight_number p.0 h in
    let b = tight_name name i in
    let c = tight_standing st in
    let d = tight_number code j in
    let words : List (List ℕ) = decimal p.0 ∷ name ∷ standing_word st ∷ decimal code ∷ [] in
    let rest : List ℕ = decimal p.0 ++ 32 ∷ (name ++ 32 ∷ (standing_word st ++ 32 ∷ decimal code)) in
    let same : 32 ∷ rest ≡ spaced words = ap (λ z. 32 ∷ (decimal p.0 ++ 32 ∷ (name ++ 32 ∷ (standing_word st ++ 32 ∷ z)))) (sym (append-nil (decimal code))) in
    record {
      feed = both_pass is_no_feed (decimal p.0) (32 ∷ (name ++ 32 ∷ (standing_word st ++ 32 ∷ decimal code))) (feedless (decimal p.0) a) (both_pass is_no_feed name (32 ∷ (standing_word st ++ 32 ∷ decimal code)) (feedless name b) (both_pass is_no_feed (standing_word st) (32 ∷ decimal code) (feedless (standing_word st) c) (feedless (decimal code) d)));
      read = ap process_in same ∙ process_words (spaced words) p name st code h i j
          (first_back (decimal p.0) (name ∷ standing_word st ∷ decimal code ∷ []) (whole (decimal p.0) a))
          (second_back (decimal p.0) name (standing_word st ∷ decimal code ∷ []) (whole (decimal p.0) a) (whole name b))
          (third_back (decimal p.0) name (standing_word st) (decimal code ∷ []) (whole (decimal p.0) a) (whole name b) (whole (standing_word st) c))
          (fourth_back (decimal p.0) name (standing_word st) (decimal code) [] (whole (decimal p.0) a) (whole name b) (whole (standing_word st) c) (whole (decimal code) d));
    }

output_back : (units : List UnitDecl) (u : UnitNo) (bytes : List ℕ) → IsSpelledUnit units u → AreBytes bytes → IsBack units (trailer.Output u bytes)
output_back units u bytes h i =
    let name : List ℕ = unit_name units u in
    let text : List ℕ = quote_text bytes in
    let a = tight_name name h.0 in
    let words : List (List ℕ) = name ∷ text ∷ [] in
    let same : 32 ∷ (name ++ 32 ∷ text) ≡ spaced words = ap (λ z. 32 ∷ (name ++ 32 ∷ z)) (sym (append-nil text)) in
    let behind : behind_word (spaced words) ≡ spaced (text ∷ []) = behind_back name (text ∷ []) (whole name a) in
    record {
      feed = both_pass is_no_feed name (32 ∷ text) (feedless name a) (text_feed bytes);
      read = ap (λ (z : List ℕ). output_in units z (text_of (behind_word z))) same
          ∙ ap (λ (z : List ℕ). output_in units (spaced words) (text_of z)) behind
          ∙ ap (output_in units (spaced words)) (text_back bytes i)
          ∙ output_words units (spaced words) name u bytes h.1 (first_back name (text ∷ []) (whole name a));
    }

end_line_back : (units : List UnitDecl) (end : End) (n : ℕ) → IsWord n → IsBack units (trailer.End end n)
end_line_back units end n h =
    let word : List ℕ = end_word end in
    let a = tight_end end in
    let b = tight_number n h in
    let words : List (List ℕ) = word ∷ decimal n ∷ [] in
    let same : 32 ∷ (word ++ 32 ∷ decimal n) ≡ spaced words = ap (λ z. 32 ∷ (word ++ 32 ∷ z)) (sym (append-nil (decimal n))) in
    record {
      feed = both_pass is_no_feed word (32 ∷ decimal n) (feedless word a) (feedless (decimal n) b);
      read = ap end_in same ∙ end_words (spaced words) end n h (first_back word (decimal n ∷ []) (whole word a)) (second_back word (decimal n) [] (whole word a) (whole (decimal n) b));
    }

line_is_back : (units : List UnitDecl) (t : TrailerLine) → IsSpelledLine units t → IsBack units t
line_is_back units (trailer.Process p name st code) h = process_back units p name st code h.0 h.1 h.2
line_is_back units (trailer.Output u bytes) h = output_back units u bytes h.0 h.1
line_is_back units (trailer.End end n) h = end_line_back units end n h

line_back : (units : List UnitDecl) (t : TrailerLine) → IsSpelledLine units t → read_line units (trailer_line units t ++ 10 ∷ []) ≡ Some t
unfolding read_line
line_back units t h =
    let is = line_is_back units t h in
    let line : List ℕ = trailer_line units t in
    ap (λ (z : List ℕ). line_of units z >>= if_spelled units (line ++ 10 ∷ [])) (run_first is_no_feed line (10 ∷ []) is.feed refl)
    ∙ ap (λ (o : Option TrailerLine). o >>= if_spelled units (line ++ 10 ∷ [])) is.read
    ∙ rw (same_bytes (line ++ 10 ∷ [])) refl

-- All lines.

by_place : (units : List UnitDecl) (line : ℕ) (ts : List TrailerLine) (ls : List (List ℕ)) (part : Part) (o : Option Place) → ((p : Place) → part_behind p ts ≡ Some part → trailer_lines_from units (line + 1) p ls ≡ Ok part) → (o >>= λ p. part_behind p ts) ≡ Some part → or_bad line o (λ p. trailer_lines_from units (line + 1) p ls) ≡ Ok part
by_place units line ts ls part None more h = absurd (cc)
by_place units line ts ls part (Some p) more h = more p h

lines_back : (units : List UnitDecl) (line : ℕ) (place : Place) (ts : List TrailerLine) (part : Part) → AllByRecursion (IsSpelledLine units) ts → part_behind place ts ≡ Some part → trailer_lines_from units line place (fed_lines (trailer_text units ts)) ≡ Ok part
lines_back units line place [] part spelled h = over units line place ∙ ap (ends_at line) h
lines_back units line place (t ∷ ts) part spelled h =
    let l : List ℕ = trailer_line units t in
    let rest : List ℕ = trailer_text units ts in
    let ls : List (List ℕ) = fed_lines rest in
    let after : place_after units place (l ++ 10 ∷ []) ≡ place_behind place t = ap (λ (o : Option TrailerLine). o >>= place_behind place) (line_back units t spelled.0) in
    ap (trailer_lines_from units line place) (fed_line l rest (line_is_back units t spelled.0).feed)
    ∙ first_line units line place (l ++ 10 ∷ []) ls
    ∙ ap (λ (o : Option Place). or_bad line o (λ p. trailer_lines_from units (line + 1) p ls)) after
    ∙ by_place units line ts ls part (place_behind place t) (λ p k. lines_back units (line + 1) p ts part spelled.1 k) h

pub trailer_back : (units : List UnitDecl) (line : ℕ) (ts : List TrailerLine) (part : Part) → AllByRecursion (IsSpelledLine units) ts → part_behind place.Records ts ≡ Some part → read_trailer units line (trailer_text units ts) ≡ Ok part
trailer_back units line ts part spelled h = begins units line (trailer_text units ts) ∙ lines_back units line place.Records ts part spelled h

-- no line of a trailer begins as one of a record
pub begins_otherwise : (units : List UnitDecl) (ts : List TrailerLine) → is_of_record (trailer_text units ts) ≡ false
begins_otherwise units [] = refl
begins_otherwise units (trailer.Process p name st code ∷ ts) = refl
begins_otherwise units (trailer.Output u bytes ∷ ts) = refl
begins_otherwise units (trailer.End end n ∷ ts) = refl
