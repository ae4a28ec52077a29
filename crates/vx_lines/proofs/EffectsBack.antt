-- The line of an effect is read as the effect.
use Rattle.std.proofs.Common.{◌≡◌, ℕ, ◌<◌, ◌^◌, ◌==◌, ◌&&◌, Bool, true, false, List, [], ◌∷◌, ◌++◌, Option, Some, None, option_map, refl, ap, ◌∙◌, arith}
use Rattle.std.specs.Prelude.{decimal}
use Rattle.std.specs.List.{list_all}
use Rattle.std.proofs.lemmas.List.Folds.{list_all-append}
use Rattle.std.proofs.lemmas.Bool.Decides.{nat_tests}
use Rattle.vx_base.proofs.Any.{all_weaker}
use Rattle.vx_base.specs.Cond.{name_of}
use Rattle.vx_base.specs.Name.{is_name, is_digit, is_name_byte, is_capital}
use Rattle.vx_base.specs.Services.{is_target}
use Rattle.vx_base.specs.declared.call.Target.{Target}
use Rattle.vx_base.specs.declared.call.Target.TheVariants as target
use Rattle.vx_base.specs.declared.cond.Cond.{Cond}
use Rattle.vx_base.specs.declared.cond.Cond.TheVariants.{Normal}
use Rattle.vx_base.specs.declared.effects.Effect.{Effect}
use Rattle.vx_base.specs.declared.effects.Effect.TheVariants as effect
use Rattle.vx_base.specs.declared.effects.Opened.{Opened}
use Rattle.vx_base.specs.declared.effects.Opened.TheVariants.{Bio}
use Rattle.vx_base.specs.declared.mode.Mode.{Mode}
use Rattle.vx_base.specs.declared.mode.Mode.TheVariants.{Kernel}
use Rattle.vx_base.specs.declared.number.Id.{Id}
use Rattle.vx_base.specs.declared.number.Pid.{Pid}
use Rattle.vx_table.specs.Reading.{target_word}
use Rattle.vx_table.specs.Spelling.{mode_name, target_text}
use Rattle.vx_lines.specs.Fields.{as_id, as_pid, id_of, pid_of, number_of, bit_of, name_in, kind_of, mode_or_none, cond_or_none, is_one}
use Rattle.vx_lines.specs.ReadEffect.{is_no_feed, unfed, effect_of, with_bytes, if_spelled, read_effect, fin_in}
use Rattle.vx_lines.specs.Records.{spaced, id_text, pid_text, bit_text, opened_name, mode_text, cond_text, effect_line}
use Rattle.vx_lines.specs.Spelled.{IsWord}
use Rattle.vx_lines.specs.Words.{◌>>=◌, is_inner, first_word, second_word, third_word}
use Rattle.vx_lines.proofs.WordsBack.{Whole, run_first, first_back, second_back, value_back, number_all, name_all}
use Rattle.std.proofs.lemmas.Bool.{and_parts}
use Rattle.vx_text.proofs.Conditions.{named_by}
use Rattle.vx_base.proofs.Texts.{same_bytes}

-- What stands in a word that is no text: neither a space nor a line feed.

abbrev pub is_tight : ℕ → Bool
is_tight b = is_inner b && is_no_feed b

abbrev pub Tight : List ℕ → Type 0
Tight word = list_all is_tight word ≡ true

pub whole : (word : List ℕ) → Tight word → Whole word
whole word h = all_weaker is_tight is_inner (λ b k. (and_parts (is_inner b) (is_no_feed b) k).0) word h

pub feedless : (word : List ℕ) → Tight word → list_all is_no_feed word ≡ true
feedless word h = all_weaker is_tight is_no_feed (λ b k. (and_parts (is_inner b) (is_no_feed b) k).1) word h

digit_tight : (b : ℕ) → is_digit b ≡ true → is_tight b ≡ true
digit_tight b h = grind (arith, nat_tests, h)

byte_tight : (b : ℕ) → is_name_byte b ≡ true → is_tight b ≡ true
byte_tight b h = grind (arith, nat_tests, h)

capital_tight : (b : ℕ) → is_capital b ≡ true → is_tight b ≡ true
capital_tight b h = grind (arith, nat_tests, h)

pub tight_number : (n : ℕ) → n < 2 ^ 32 → Tight (decimal n)
tight_number n h = number_all is_tight n digit_tight (omega arith)

pub tight_id : (id : Id) → IsWord id.0 → Tight (id_text id)
tight_id id h = tight_number id.0 h

pub tight_name : (name : List ℕ) → is_name name ≡ true → Tight name
tight_name name h = name_all is_tight name byte_tight h

pub tight_bit : (bit : Bool) → Tight (bit_text bit)
tight_bit true = tight_number 1 (omega arith)
tight_bit false = tight_number 0 (omega arith)

pub tight_cond : (c : Cond) → Tight (name_of c)
tight_cond Normal = refl
tight_cond _ = refl

pub tight_mode : (m : Mode) → Tight (mode_name m)
tight_mode Kernel = refl
tight_mode _ = refl

pub tight_kind : (k : Opened) → Tight (opened_name k)
tight_kind Bio = refl
tight_kind _ = refl

pub tight_mode_text : (m : Option Mode) → Tight (mode_text m)
tight_mode_text None = refl
tight_mode_text (Some m) = tight_mode m

pub tight_cond_text : (c : Option Cond) → Tight (cond_text c)
tight_cond_text None = refl
tight_cond_text (Some c) = tight_cond c

pub tight_target : (t : Target) → is_target t ≡ true → Tight (target_text t)
tight_target (target.Var v) h = rw (capital_tight v h) refl
tight_target target.R0 h = refl

-- Fields.

pub number_back : (n : ℕ) → n < 2 ^ 32 → number_of (decimal n) ≡ Some n
number_back n h = value_back 4294967295 n (omega arith) (omega arith)

pub id_back : (id : Id) → IsWord id.0 → id_of (id_text id) ≡ Some id
id_back id h = ap (option_map as_id) (number_back id.0 h)

pub pid_back : (p : Pid) → IsWord p.0 → pid_of (pid_text p) ≡ Some p
pid_back p h = ap (option_map as_pid) (number_back p.0 h)

pub bit_back : (bit : Bool) → bit_of (bit_text bit) ≡ Some bit
bit_back true = ap (option_map is_one) (value_back 1 1 (omega arith) (omega arith))
bit_back false = ap (option_map is_one) (value_back 1 0 (omega arith) (omega arith))

pub kind_back : (k : Opened) → kind_of (opened_name k) ≡ Some k
kind_back Bio = refl
kind_back _ = refl

pub mode_or_none_back : (m : Option Mode) → mode_or_none (mode_text m) ≡ Some m
mode_or_none_back None = refl
mode_or_none_back (Some Kernel) = refl
mode_or_none_back (Some _) = refl

pub cond_or_none_back : (c : Option Cond) → cond_or_none (cond_text c) ≡ Some c
cond_or_none_back None = refl
cond_or_none_back (Some Normal) = refl
cond_or_none_back (Some _) = refl

pub name_back : (name : List ℕ) → is_name name ≡ true → name_in name ≡ Some name
name_back name h = rw h refl

pub target_back : (t : Target) → is_target t ≡ true → target_word (target_text t) ≡ Some t
target_back (target.Var v) h = rw h refl
target_back target.R0 h = refl

-- Lines.

pub by_first : (word line : List ℕ) → first_word line ≡ word → effect_of line ≡ with_bytes word line
by_first word line h = ap (λ (w : List ℕ). with_bytes w line) h

pub nat_same : (b : ℕ) → (b == b) ≡ true
nat_same b = grind (arith, nat_tests)

spelled_same : (e : Effect) → if_spelled (effect_line e ++ 10 ∷ []) e ≡ Some e
spelled_same e = rw (same_bytes (effect_line e ++ 10 ∷ [])) refl

-- an effect whose line has no line feed in it and is read as the effect is read back
pub read_back : (e : Effect) → list_all is_no_feed (effect_line e) ≡ true → effect_of (effect_line e) ≡ Some e → read_effect (effect_line e ++ 10 ∷ []) ≡ Some e
unfolding read_effect
read_back e h is =
    let line : List ℕ = effect_line e ++ 10 ∷ [] in
    let cut : unfed line ≡ effect_line e = run_first is_no_feed (effect_line e) (10 ∷ []) h refl in
    ap (λ (z : List ℕ). effect_of z >>= if_spelled line) cut ∙ ap (λ (o : Option Effect). o >>= if_spelled line) is ∙ spelled_same e

pub feedless_spaced : (word : List ℕ) (words : List (List ℕ)) → list_all is_no_feed word ≡ true → list_all is_no_feed (spaced words) ≡ true → list_all is_no_feed (spaced (word ∷ words)) ≡ true
feedless_spaced word words h k = list_all-append is_no_feed word (spaced words) ∙ rw (h, k) refl

-- An effect with an id alone.

pub only_id_back : (make : Id → Effect) (word : List ℕ) (id : Id) → Tight word → IsWord id.0 → ((line : List ℕ) → with_bytes word line ≡ option_map make (id_of (second_word line))) → effect_of (spaced (word ∷ id_text id ∷ [])) ≡ Some (make id)
only_id_back make word id t h by =
    let line : List ℕ = spaced (word ∷ id_text id ∷ []) in
    by_first word line (first_back word (id_text id ∷ []) (whole word t)) ∙ by line ∙ ap (λ (z : List ℕ). option_map make (id_of z)) (second_back word (id_text id) [] (whole word t) (whole (id_text id) (tight_id id h))) ∙ ap (option_map make) (id_back id h)

pub fin_words : (line : List ℕ) (id : Id) (cond : Cond) → second_word line ≡ id_text id → third_word line ≡ name_of cond → IsWord id.0 → fin_in line ≡ Some (effect.Fin id cond)
fin_words line id cond b c h = rw (b, c, id_back id h, named_by cond) refl
