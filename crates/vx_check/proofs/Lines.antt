-- The lines of a text's records, followed one after another.
use Rattle.std.proofs.Common.{◌≡◌, ℕ, ◌+◌, ◌≤◌, true, false, List, [], length, take, drop, Option, None, Some, Result, Ok, Err, IfOk, IfSome, refl, sym, ap, subst, ◌∙◌, drop-drop}
use Rattle.vx_record.specs.Types.{NoMemory, Rec, UnitDecl}
use Rattle.vx_lines.proofs.Cutting.{bad, begins, ended, read_on}
use Rattle.vx_lines.specs.Cutting.{fed_len}
use Rattle.vx_lines.specs.ReadEffect.{read_effect}
use Rattle.vx_lines.specs.ReadHead.{read_head}
use Rattle.vx_lines.specs.ReadRecords.{begins_with_space, effect_line, fed_lines, head_line, is_of_record, nothing_read, read_line, read_lines, read_records, read_so_far, with_head}
use Rattle.vx_lines.specs.declared.read.Reading.{Reading}
use Rattle.vx_lines.specs.declared.read.Records.{Records}
use Rattle.vx_record.specs.State.{State}
use Rattle.vx_exec.specs.View.{Executive, Plan}
use Rattle.vx_journal.proofs.RecordsSpelled.{IsBare, head_spelled}
use Rattle.vx_check.proofs.Courses.{effect_followed, ends_by, follows_plan}
use Rattle.vx_check.specs.Following.{FollowsAll, FollowsLine, IsFollowing, IsRight, IsWrong, fresh, with_effect}
use Rattle.vx_check.specs.declared.course.Course.TheVariants.{Begun}
use Rattle.vx_check.specs.declared.course.Progress.{Progress}
use Rattle.vx_check.specs.declared.following.Followed.{Followed}

-- A line.

pub line_of_effect : (units : List UnitDecl) (r : Reading) (l : List ℕ) → begins_with_space l ≡ true → read_line units r l ≡ effect_line r l
unfolding read_line
line_of_effect units r l h = rw h refl

pub line_of_head : (units : List UnitDecl) (r : Reading) (l : List ℕ) → begins_with_space l ≡ false → read_line units r l ≡ head_line units r l
unfolding read_line
line_of_head units r l h = rw h refl

bare_by : (units : List UnitDecl) (n : ℕ) (l : List ℕ) (o : Option Rec) → o ≡ read_head units n l → IfSome o IsBare
bare_by units n l None is = tt
bare_by units n l (Some r) is = (head_spelled units n l r (sym is)).1

-- a head that was read has no effects
pub bare : (units : List UnitDecl) (n : ℕ) (l : List ℕ) (o : Option Rec) → o ≡ read_head units n l → IfSome o (λ h. h.effects ≡ [])
bare units n l o is = bare_by units n l o is

-- a line of a head, by what the head is read as
pub head_line_by : (before after : Executive) (p : Progress) (units : List UnitDecl) (l : List ℕ) (head : Option Rec) (o : Result (Option Progress) NoMemory) → head ≡ read_head units (p.count + 1) l → (IfSome head (λ h. h.effects ≡ []) → IfOk o (λ next. (s : State) (r : Reading) → IsFollowing s before p r → FollowsLine s after next (with_head r head)))
    → IfOk o (λ next. (s : State) (r : Reading) → IsFollowing s before p r → FollowsLine s after next (head_line units r l))
head_line_by before after p units l head o is follows = on o (follows (bare units (p.count + 1) l head is)) where
  on : (o : Result (Option Progress) NoMemory) → IfOk o (λ next. (s : State) (r : Reading) → IsFollowing s before p r → FollowsLine s after next (with_head r head)) → IfOk o (λ next. (s : State) (r : Reading) → IsFollowing s before p r → FollowsLine s after next (head_line units r l))
  on (Ok next) h = λ s r f. subst (λ (z : Option Rec). FollowsLine s after next (with_head r z)) (is ∙ ap (λ (n : ℕ). read_head units (n + 1) l) f.count) (h s r f)
  on (Err e) h = tt

pub head_by : (before after : Executive) (p : Progress) (units : List UnitDecl) (l : List ℕ) (o : Result (Option Progress) NoMemory) → begins_with_space l ≡ false → IfOk o (λ next. (s : State) (r : Reading) → IsFollowing s before p r → FollowsLine s after next (head_line units r l))
    → IfOk o (λ next. (s : State) (r : Reading) → IsFollowing s before p r → FollowsLine s after next (read_line units r l))
head_by before after p units l (Ok next) is h = λ s r f. subst (λ (z : Option Reading). FollowsLine s after next z) (sym (line_of_head units r l is)) (h s r f)
head_by before after p units l (Err e) is h = tt

pub effect_by : (now : Executive) (p : Progress) (units : List UnitDecl) (l : List ℕ) (o : Result (Option Progress) NoMemory) → begins_with_space l ≡ true → IfOk o (λ next. next ≡ with_effect p (read_effect l))
    → IfOk o (λ next. (s : State) (r : Reading) → IsFollowing s now p r → FollowsLine s now next (read_line units r l))
effect_by now p units l (Ok next) is h = λ s r f. subst (λ (z : Option Reading). FollowsLine s now next z) (sym (line_of_effect units r l is)) (subst (λ (z : Option Progress). FollowsLine s now z (effect_line r l)) (sym h) (effect_followed s now p r (read_effect l) f))
effect_by now p units l (Err e) is h = tt

-- Where the loop over the lines stands: behind `at` bytes, with what was read of them.
pub record IsAt (s : State) (now : Executive) (p : Progress) (line at first : ℕ) (text : List ℕ) : Type 0 where
  pub reading : Reading
  pub following : IsFollowing s now p reading
  pub reads : read_lines s.system.units line at reading (fed_lines (drop at text)) ≡ read_records s.system.units first text

pub at_first : (s : State) (now : Executive) (p : Progress) (first : ℕ) (text : List ℕ) → now ≡ fresh s → p ≡ record { count = 0; course = Begun } → IsAt s now p first 0 first text
at_first s now p first text is none = record {
  reading = nothing_read;
  following = subst (λ (q : Progress). IsFollowing s now q nothing_read) (sym none) (record { count = refl; course = (refl, is) });
  reads = sym (begins s.system.units first text);
}

-- the units are the system's
same_units : (s : State) (now : Executive) (p : Progress) (r : Reading) → IsFollowing s now p r → now.state.system.units ≡ s.system.units
same_units s now p r h = ap (λ (z : Plan). z.system.units) (follows_plan s now p.course r h.course)

pub at_units : (s : State) (now : Executive) (p : Progress) (line at first : ℕ) (text : List ℕ) → IsAt s now p line at first text → now.state.system.units ≡ s.system.units
at_units s now p line at first text h = same_units s now p h.reading h.following

pub few_counted : (o : Option Progress) (q : Progress) (n : ℕ) → o ≡ Some q → IfSome o (λ p. p.count ≤ n + 1) → q.count ≤ n + 1
few_counted o q n is h = subst (λ (z : Option Progress). IfSome z (λ p. p.count ≤ n + 1)) is h

-- a line is bad
pub at_bad : (s : State) (before after : Executive) (p : Progress) (line at len first : ℕ) (text l : List ℕ) (h : IsAt s before p line at first text) → is_of_record (drop at text) ≡ true → len ≡ fed_len (drop at text) → l ≡ take len (drop at text)
    → FollowsLine s after None (read_line before.state.system.units h.reading l) → read_records s.system.units first text ≡ Err line
at_bad s before after p line at len first text l h of_record is cut none =
    let own : None ≡ read_line s.system.units h.reading (take len (drop at text)) = sym none ∙ ap (λ (us : List UnitDecl). read_line us h.reading l) (same_units s before p h.reading h.following) ∙ ap (read_line s.system.units h.reading) cut in
    sym h.reads ∙ bad s.system.units line at len h.reading (drop at text) of_record is own

-- a line is read
pub at_next : (s : State) (before after : Executive) (p q : Progress) (line at len first : ℕ) (text l : List ℕ) (h : IsAt s before p line at first text) → is_of_record (drop at text) ≡ true → len ≡ fed_len (drop at text) → len ≤ length (drop at text) → l ≡ take len (drop at text)
    → FollowsLine s after (Some q) (read_line before.state.system.units h.reading l) → IsAt s after q (line + 1) (at + len) first text
at_next s before after p q line at len first text l h of_record is within cut follows =
    let next : Reading = follows.0 in
    let own : Some next ≡ read_line s.system.units h.reading (take len (drop at text)) = sym follows.1.0 ∙ ap (λ (us : List UnitDecl). read_line us h.reading l) (same_units s before p h.reading h.following) ∙ ap (read_line s.system.units h.reading) cut in
    record {
      reading = next;
      following = follows.1.1;
      reads = ap (λ z. read_lines s.system.units (line + 1) (at + len) next (fed_lines z)) (sym (drop-drop len at text)) ∙ read_on s.system.units line at len h.reading next (drop at text) of_record is within own ∙ h.reads;
    }

-- the records are over
pub at_end : (s : State) (now : Executive) (p : Progress) (line at first : ℕ) (text : List ℕ) (f : Followed) → IsAt s now p line at first text → is_of_record (drop at text) ≡ false → f.line ≡ line → f.len ≡ at → (f.wrong ≡ None → IsRight p.course) → ((n : ℕ) → f.wrong ≡ Some n → IsWrong now.taken p.course n) → FollowsAll s now first text f
at_end s now p line at first text f h over lines len right wrong =
    let recs : List Rec = read_so_far h.reading in
    let read_to : ℕ → ℕ → Result Records ℕ = λ n k. Ok (record { recs = recs; line = n; len = k }) in
    record {
      recs = recs;
      reads = sym h.reads ∙ ended s.system.units line at h.reading (drop at text) over ∙ ap (λ n. read_to n at) (sym lines) ∙ ap (λ k. read_to f.line k) (sym len);
      ends = ends_by s now p.course h.reading f.wrong h.following.course right wrong;
    }
