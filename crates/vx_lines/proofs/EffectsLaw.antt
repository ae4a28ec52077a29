-- Each effect that has a spelling is read back from it.
use Rattle.std.proofs.Common.{◌≡◌, ℕ, ◌≤◌, Bool, true, List, [], ◌∷◌, ◌++◌, codes, Option, Some, option_map, refl, ap, ◌∙◌, arith}
use Rattle.std.specs.Prelude.{decimal}
use Rattle.std.specs.List.{list_all}
use Rattle.vx_base.specs.Cond.{name_of}
use Rattle.vx_base.specs.Name.{is_name}
use Rattle.vx_base.specs.Services.{is_target}
use Rattle.vx_base.specs.declared.call.Target.{Target}
use Rattle.vx_base.specs.declared.cond.Cond.{Cond}
use Rattle.vx_base.specs.declared.effects.Cell.{Cell}
use Rattle.vx_base.specs.declared.effects.Effect.{Effect}
use Rattle.vx_base.specs.declared.effects.Effect.TheVariants as effect
use Rattle.vx_base.specs.declared.effects.Opened.{Opened}
use Rattle.vx_base.specs.declared.mode.Mode.{Mode}
use Rattle.vx_base.specs.declared.number.Id.{Id}
use Rattle.vx_base.specs.declared.number.Pid.{Pid}
use Rattle.vx_base.specs.declared.request.Body.{Body}
use Rattle.vx_text.specs.Quote.{AreBytes, quote_text}
use Rattle.vx_table.specs.Spelling.{mode_name, target_text}
use Rattle.vx_lines.specs.Fields.{pid_of, text_of}
use Rattle.vx_lines.specs.ReadEffect.{is_no_feed, read_effect, effect_of, with_bytes, behind_three, body_of, open_in, flag_in, cef_in, clu_in, iosb_in, var_in, enb_in, new_in, get_in, cut_in, mbx_in, buf_in, put_in}
use Rattle.vx_lines.specs.Records.{effect_line, spaced, id_text, pid_text, bit_text, cluster_text, cell_text, opened_name, mode_text, cond_text, joined_text, body_text, effect_words}
use Rattle.vx_lines.specs.Spelled.{IsSpelled, IsWord, IsSpelledCell, IsSpelledBody, IsSpelledCluster, ReadsBack}
use Rattle.vx_lines.specs.Words.{behind_word, second_word, third_word, fourth_word, fifth_word, sixth_word}
use Rattle.vx_lines.proofs.WordsBack.{first_back, behind_back, second_back, third_back, fourth_back, fifth_back, sixth_back}
use Rattle.vx_lines.proofs.EffectsBack.{Tight, whole, feedless, tight_number, tight_id, tight_name, tight_bit, tight_cond, tight_mode, tight_kind, tight_mode_text, tight_cond_text, tight_target, number_back, id_back, pid_back, bit_back, kind_back, mode_or_none_back, cond_or_none_back, name_back, target_back, by_first, read_back, feedless_spaced, only_id_back, fin_words}
use Rattle.vx_lines.proofs.PartsBack.{cell_back, tight_cell, tight_cluster, cluster_back, cluster_or_none_back, tight_joined, k_back, text_back, text_feed, body_back, body_feed}
use Rattle.vx_table.proofs.Back.{mode_back}

-- words of which none has a space or a line feed

abbrev AllTight : List (List ℕ) → Type 0
AllTight [] = Unit {0}
AllTight (word ∷ words) = Tight word × AllTight words

feedless_words : (words : List (List ℕ)) → AllTight words → list_all is_no_feed (spaced words) ≡ true
feedless_words [] h = refl
feedless_words (word ∷ words) h = feedless_spaced word words (feedless word h.0) (feedless_words words h.1)

-- By how many words an effect has.

two : (w b : List ℕ) (e : Effect) → AllTight (w ∷ b ∷ []) → ((line : List ℕ) → second_word line ≡ b → with_bytes w line ≡ Some e) → effect_of (spaced (w ∷ b ∷ [])) ≡ Some e
two w b e t by =
    let line : List ℕ = spaced (w ∷ b ∷ []) in
    by_first w line (first_back w (b ∷ []) (whole w t.0)) ∙ by line (second_back w b [] (whole w t.0) (whole b t.1.0))

three : (w b c : List ℕ) (e : Effect) → AllTight (w ∷ b ∷ c ∷ []) → ((line : List ℕ) → second_word line ≡ b → third_word line ≡ c → with_bytes w line ≡ Some e) → effect_of (spaced (w ∷ b ∷ c ∷ [])) ≡ Some e
three w b c e t by =
    let line : List ℕ = spaced (w ∷ b ∷ c ∷ []) in
    by_first w line (first_back w (b ∷ c ∷ []) (whole w t.0))
    ∙ by line (second_back w b (c ∷ []) (whole w t.0) (whole b t.1.0)) (third_back w b c [] (whole w t.0) (whole b t.1.0) (whole c t.1.1.0))

four : (w b c d : List ℕ) (e : Effect) → AllTight (w ∷ b ∷ c ∷ d ∷ []) → ((line : List ℕ) → second_word line ≡ b → third_word line ≡ c → fourth_word line ≡ d → with_bytes w line ≡ Some e) → effect_of (spaced (w ∷ b ∷ c ∷ d ∷ [])) ≡ Some e
four w b c d e t by =
    let line : List ℕ = spaced (w ∷ b ∷ c ∷ d ∷ []) in
    by_first w line (first_back w (b ∷ c ∷ d ∷ []) (whole w t.0))
    ∙ by line (second_back w b (c ∷ d ∷ []) (whole w t.0) (whole b t.1.0)) (third_back w b c (d ∷ []) (whole w t.0) (whole b t.1.0) (whole c t.1.1.0)) (fourth_back w b c d [] (whole w t.0) (whole b t.1.0) (whole c t.1.1.0) (whole d t.1.1.1.0))

six : (w b c d f g : List ℕ) (e : Effect) → AllTight (w ∷ b ∷ c ∷ d ∷ f ∷ g ∷ []) → ((line : List ℕ) → second_word line ≡ b → third_word line ≡ c → fourth_word line ≡ d → fifth_word line ≡ f → sixth_word line ≡ g → with_bytes w line ≡ Some e) → effect_of (spaced (w ∷ b ∷ c ∷ d ∷ f ∷ g ∷ [])) ≡ Some e
six w b c d f g e t by =
    let line : List ℕ = spaced (w ∷ b ∷ c ∷ d ∷ f ∷ g ∷ []) in
    by_first w line (first_back w (b ∷ c ∷ d ∷ f ∷ g ∷ []) (whole w t.0))
    ∙ by line (second_back w b (c ∷ d ∷ f ∷ g ∷ []) (whole w t.0) (whole b t.1.0)) (third_back w b c (d ∷ f ∷ g ∷ []) (whole w t.0) (whole b t.1.0) (whole c t.1.1.0)) (fourth_back w b c d (f ∷ g ∷ []) (whole w t.0) (whole b t.1.0) (whole c t.1.1.0) (whole d t.1.1.1.0)) (fifth_back w b c d f (g ∷ []) (whole w t.0) (whole b t.1.0) (whole c t.1.1.0) (whole d t.1.1.1.0) (whole f t.1.1.1.1.0)) (sixth_back w b c d f g [] (whole w t.0) (whole b t.1.0) (whole c t.1.1.0) (whole d t.1.1.1.0) (whole f t.1.1.1.1.0) (whole g t.1.1.1.1.1.0))

-- three words, and a text behind them
with_text : (w b c q : List ℕ) (e : Effect) → AllTight (w ∷ b ∷ c ∷ []) → ((line : List ℕ) → second_word line ≡ b → third_word line ≡ c → behind_three line ≡ spaced (q ∷ []) → with_bytes w line ≡ Some e) → effect_of (spaced (w ∷ b ∷ c ∷ q ∷ [])) ≡ Some e
with_text w b c q e t by =
    let line : List ℕ = spaced (w ∷ b ∷ c ∷ q ∷ []) in
    let a = whole w t.0 in
    let f = whole b t.1.0 in
    let g = whole c t.1.1.0 in
    let rest : behind_three line ≡ spaced (q ∷ []) = ap (λ (z : List ℕ). behind_word (behind_word z)) (behind_back w (b ∷ c ∷ q ∷ []) a) ∙ ap behind_word (behind_back b (c ∷ q ∷ []) f) ∙ behind_back c (q ∷ []) g in
    by_first w line (first_back w (b ∷ c ∷ q ∷ []) a) ∙ by line (second_back w b (c ∷ q ∷ []) a f) (third_back w b c (q ∷ []) a f g) rest

-- What the words of a line are.

open_words : (line : List ℕ) (id : Id) (kind : Opened) (p : Pid) (mode : Option Mode) (n : ℕ) → IsWord id.0 → IsWord p.0 → IsWord n → second_word line ≡ id_text id → third_word line ≡ opened_name kind → fourth_word line ≡ pid_text p → fifth_word line ≡ mode_text mode → sixth_word line ≡ decimal n → open_in line ≡ Some (effect.Open id kind p mode n)
open_words line id kind p mode n h i j b c d f g = rw (b, c, d, f, g, id_back id h, kind_back kind, pid_back p i, mode_or_none_back mode, number_back n j) refl

flag_words : (line : List ℕ) (cell : Cell) (bit : Bool) → IsSpelledCell cell → second_word line ≡ cell_text cell → third_word line ≡ bit_text bit → flag_in line ≡ Some (effect.Flag cell bit)
flag_words line cell bit h b c = rw (b, c, cell_back cell h, bit_back bit) refl

iosb_words : (line : List ℕ) (p : Pid) (i : ℕ) (cond : Option Cond) (count info : ℕ) → IsWord p.0 → IsWord i → IsWord count → IsWord info → second_word line ≡ pid_text p → third_word line ≡ decimal i → fourth_word line ≡ cond_text cond → fifth_word line ≡ decimal count → sixth_word line ≡ decimal info → iosb_in line ≡ Some (effect.Iosb p i cond count info)
iosb_words line p i cond count info h j k l b c d f g = rw (b, c, d, f, g, pid_back p h, number_back i j, cond_or_none_back cond, number_back count k, number_back info l) refl

buf_words : (line : List ℕ) (p : Pid) (b : ℕ) (bytes : List ℕ) → IsWord p.0 → IsWord b → AreBytes bytes → second_word line ≡ pid_text p → third_word line ≡ decimal b → behind_three line ≡ spaced (quote_text bytes ∷ []) → buf_in line (text_of (behind_three line)) ≡ Some (effect.Buf p b bytes)
buf_words line p b bytes h i j c d rest = ap (λ (z : List ℕ). buf_in line (text_of z)) rest ∙ ap (buf_in line) (text_back bytes j) ∙ rw (c, d, pid_back p h, number_back b i) refl

var_words : (line : List ℕ) (p : Pid) (v : Target) (n : ℕ) → IsWord p.0 → is_target v ≡ true → IsWord n → second_word line ≡ pid_text p → third_word line ≡ target_text v → fourth_word line ≡ decimal n → var_in line ≡ Some (effect.Var p v n)
var_words line p v n h i j b c d = rw (b, c, d, pid_back p h, target_back v i, number_back n j) refl

put_words : (line name : List ℕ) (id : Id) (body : Body) → is_name name ≡ true → IsWord id.0 → IsSpelledBody body → second_word line ≡ name → third_word line ≡ id_text id → behind_three line ≡ spaced (body_text body ∷ []) → put_in line (body_of (behind_three line)) ≡ Some (effect.MPut name id body)
put_words line name id body h i j b c rest = ap (λ (z : List ℕ). put_in line (body_of z)) rest ∙ ap (put_in line) (body_back body j) ∙ rw (b, c, name_back name h, id_back id i) refl

get_words : (line name : List ℕ) (w r : Id) → is_name name ≡ true → IsWord w.0 → IsWord r.0 → second_word line ≡ name → third_word line ≡ id_text w → fourth_word line ≡ id_text r → get_in line ≡ Some (effect.MGet name w r)
get_words line name w r h i j b c d = rw (b, c, d, name_back name h, id_back w i, id_back r j) refl

cut_words : (line name : List ℕ) (w : Id) → is_name name ≡ true → IsWord w.0 → second_word line ≡ name → third_word line ≡ id_text w → cut_in line ≡ Some (effect.MCut name w)
cut_words line name w h i b c = rw (b, c, name_back name h, id_back w i) refl

mbx_words : (line name : List ℕ) (bit : Bool) → is_name name ≡ true → second_word line ≡ name → third_word line ≡ bit_text bit → mbx_in line ≡ Some (effect.Mbx name bit)
mbx_words line name bit h b c = rw (b, c, name_back name h, bit_back bit) refl

cef_words : (line : List ℕ) (group : ℕ) (name : List ℕ) (bit : Bool) → IsWord group → is_name name ≡ true → second_word line ≡ cluster_text group name → third_word line ≡ bit_text bit → cef_in line ≡ Some (effect.Cef group name bit)
cef_words line group name bit h i b c = rw (b, c, cluster_back group name h i, bit_back bit) refl

clu_words : (line : List ℕ) (p : Pid) (k : ℕ) (cluster : Option (ℕ × List ℕ)) → IsWord p.0 → 2 ≤ k → k ≤ 3 → IsSpelledCluster cluster → second_word line ≡ pid_text p → third_word line ≡ decimal k → fourth_word line ≡ joined_text cluster → clu_in line ≡ Some (effect.Clu p k cluster)
clu_words line p k cluster h l m i b c d = rw (b, c, d, pid_back p h, k_back k l m, cluster_or_none_back cluster i) refl

enb_words : (line : List ℕ) (p : Pid) (mode : Mode) (bit : Bool) → IsWord p.0 → second_word line ≡ pid_text p → third_word line ≡ mode_name mode → fourth_word line ≡ bit_text bit → enb_in line ≡ Some (effect.Enb p mode bit)
enb_words line p mode bit h b c d = rw (b, c, d, pid_back p h, mode_back mode, bit_back bit) refl

new_words : (line : List ℕ) (p : Pid) (name : List ℕ) → IsWord p.0 → is_name name ≡ true → second_word line ≡ pid_text p → third_word line ≡ name → new_in line ≡ Some (effect.New p name)
new_words line p name h i b c = rw (b, c, pid_back p h, name_back name i) refl

tight_small : (k : ℕ) → k ≤ 3 → Tight (decimal k)
tight_small k h = tight_number k (omega (arith, h))

-- What is known of the line of an effect that has a spelling: it has no line feed, and is read as the effect.
pub record IsBack (e : Effect) : Type 0 where
  pub feed : list_all is_no_feed (effect_line e) ≡ true
  pub read : read_effect (effect_line e ++ 10 ∷ []) ≡ Some e

is_back : (e : Effect) → list_all is_no_feed (effect_line e) ≡ true → effect_of (effect_line e) ≡ Some e → IsBack e
is_back e f g = record { feed = f; read = read_back e f g }

pub spelled_back : (e : Effect) → IsSpelled e → IsBack e
spelled_back (effect.Open id kind p mode n) h =
    let t : AllTight (codes "OPEN" ∷ id_text id ∷ opened_name kind ∷ pid_text p ∷ mode_text mode ∷ decimal n ∷ []) = (refl, (tight_id id h.0, (tight_kind kind, (tight_number p.0 h.1, (tight_mode_text mode, (tight_number n h.2, tt)))))) in
    is_back (effect.Open id kind p mode n) (feedless_words (effect_words (effect.Open id kind p mode n)) t) (six (codes "OPEN") (id_text id) (opened_name kind) (pid_text p) (mode_text mode) (decimal n) (effect.Open id kind p mode n) t (λ line. open_words line id kind p mode n h.0 h.1 h.2))
spelled_back (effect.Fin id cond) h =
    let t : AllTight (codes "FIN" ∷ id_text id ∷ name_of cond ∷ []) = (refl, (tight_id id h, (tight_cond cond, tt))) in
    is_back (effect.Fin id cond) (feedless_words (effect_words (effect.Fin id cond)) t) (three (codes "FIN") (id_text id) (name_of cond) (effect.Fin id cond) t (λ line b c. fin_words line id cond b c h))
spelled_back (effect.Mark id) h = is_back (effect.Mark id) (feedless_words (effect_words (effect.Mark id)) (refl, (tight_id id h, tt))) (only_id_back effect.Mark (codes "MARK") id refl h (λ line. refl))
spelled_back (effect.Que id) h = is_back (effect.Que id) (feedless_words (effect_words (effect.Que id)) (refl, (tight_id id h, tt))) (only_id_back effect.Que (codes "QUE") id refl h (λ line. refl))
spelled_back (effect.Fire id) h = is_back (effect.Fire id) (feedless_words (effect_words (effect.Fire id)) (refl, (tight_id id h, tt))) (only_id_back effect.Fire (codes "FIRE") id refl h (λ line. refl))
spelled_back (effect.Drop id) h = is_back (effect.Drop id) (feedless_words (effect_words (effect.Drop id)) (refl, (tight_id id h, tt))) (only_id_back effect.Drop (codes "DROP") id refl h (λ line. refl))
spelled_back (effect.Enter id) h = is_back (effect.Enter id) (feedless_words (effect_words (effect.Enter id)) (refl, (tight_id id h, tt))) (only_id_back effect.Enter (codes "ENTER") id refl h (λ line. refl))
spelled_back (effect.Leave id) h = is_back (effect.Leave id) (feedless_words (effect_words (effect.Leave id)) (refl, (tight_id id h, tt))) (only_id_back effect.Leave (codes "LEAVE") id refl h (λ line. refl))
spelled_back (effect.Flag cell bit) h =
    let t : AllTight (codes "FLAG" ∷ cell_text cell ∷ bit_text bit ∷ []) = (refl, (tight_cell cell h, (tight_bit bit, tt))) in
    is_back (effect.Flag cell bit) (feedless_words (effect_words (effect.Flag cell bit)) t) (three (codes "FLAG") (cell_text cell) (bit_text bit) (effect.Flag cell bit) t (λ line. flag_words line cell bit h))
spelled_back (effect.Iosb p i cond count info) h =
    let t : AllTight (codes "IOSB" ∷ pid_text p ∷ decimal i ∷ cond_text cond ∷ decimal count ∷ decimal info ∷ []) = (refl, (tight_number p.0 h.0, (tight_number i h.1, (tight_cond_text cond, (tight_number count h.2, (tight_number info h.3, tt)))))) in
    is_back (effect.Iosb p i cond count info) (feedless_words (effect_words (effect.Iosb p i cond count info)) t) (six (codes "IOSB") (pid_text p) (decimal i) (cond_text cond) (decimal count) (decimal info) (effect.Iosb p i cond count info) t (λ line. iosb_words line p i cond count info h.0 h.1 h.2 h.3))
spelled_back (effect.Buf p b bytes) h =
    let t : AllTight (codes "BUF" ∷ pid_text p ∷ decimal b ∷ []) = (refl, (tight_number p.0 h.0, (tight_number b h.1, tt))) in
    let f = feedless_spaced (codes "BUF") (pid_text p ∷ decimal b ∷ quote_text bytes ∷ []) refl (feedless_spaced (pid_text p) (decimal b ∷ quote_text bytes ∷ []) (feedless (pid_text p) t.1.0) (feedless_spaced (decimal b) (quote_text bytes ∷ []) (feedless (decimal b) t.1.1.0) (feedless_spaced (quote_text bytes) [] (text_feed bytes) refl))) in
    is_back (effect.Buf p b bytes) f (with_text (codes "BUF") (pid_text p) (decimal b) (quote_text bytes) (effect.Buf p b bytes) t (λ line. buf_words line p b bytes h.0 h.1 h.2))
spelled_back (effect.Var p v n) h =
    let t : AllTight (codes "VAR" ∷ pid_text p ∷ target_text v ∷ decimal n ∷ []) = (refl, (tight_number p.0 h.0, (tight_target v h.1, (tight_number n h.2, tt)))) in
    is_back (effect.Var p v n) (feedless_words (effect_words (effect.Var p v n)) t) (four (codes "VAR") (pid_text p) (target_text v) (decimal n) (effect.Var p v n) t (λ line. var_words line p v n h.0 h.1 h.2))
spelled_back (effect.MPut name id body) h =
    let t : AllTight (codes "MPUT" ∷ name ∷ id_text id ∷ []) = (refl, (tight_name name h.0, (tight_id id h.1, tt))) in
    let f = feedless_spaced (codes "MPUT") (name ∷ id_text id ∷ body_text body ∷ []) refl (feedless_spaced name (id_text id ∷ body_text body ∷ []) (feedless name t.1.0) (feedless_spaced (id_text id) (body_text body ∷ []) (feedless (id_text id) t.1.1.0) (feedless_spaced (body_text body) [] (body_feed body) refl))) in
    is_back (effect.MPut name id body) f (with_text (codes "MPUT") name (id_text id) (body_text body) (effect.MPut name id body) t (λ line. put_words line name id body h.0 h.1 h.2))
spelled_back (effect.MGet name w r) h =
    let t : AllTight (codes "MGET" ∷ name ∷ id_text w ∷ id_text r ∷ []) = (refl, (tight_name name h.0, (tight_id w h.1, (tight_id r h.2, tt)))) in
    is_back (effect.MGet name w r) (feedless_words (effect_words (effect.MGet name w r)) t) (four (codes "MGET") name (id_text w) (id_text r) (effect.MGet name w r) t (λ line. get_words line name w r h.0 h.1 h.2))
spelled_back (effect.MCut name w) h =
    let t : AllTight (codes "MCUT" ∷ name ∷ id_text w ∷ []) = (refl, (tight_name name h.0, (tight_id w h.1, tt))) in
    is_back (effect.MCut name w) (feedless_words (effect_words (effect.MCut name w)) t) (three (codes "MCUT") name (id_text w) (effect.MCut name w) t (λ line. cut_words line name w h.0 h.1))
spelled_back (effect.Mbx name bit) h =
    let t : AllTight (codes "MBX" ∷ name ∷ bit_text bit ∷ []) = (refl, (tight_name name h, (tight_bit bit, tt))) in
    is_back (effect.Mbx name bit) (feedless_words (effect_words (effect.Mbx name bit)) t) (three (codes "MBX") name (bit_text bit) (effect.Mbx name bit) t (λ line. mbx_words line name bit h))
spelled_back (effect.Cef group name bit) h =
    let t : AllTight (codes "CEF" ∷ cluster_text group name ∷ bit_text bit ∷ []) = (refl, (tight_cluster group name h.0 h.1, (tight_bit bit, tt))) in
    is_back (effect.Cef group name bit) (feedless_words (effect_words (effect.Cef group name bit)) t) (three (codes "CEF") (cluster_text group name) (bit_text bit) (effect.Cef group name bit) t (λ line. cef_words line group name bit h.0 h.1))
spelled_back (effect.Clu p k cluster) h =
    let t : AllTight (codes "CLU" ∷ pid_text p ∷ decimal k ∷ joined_text cluster ∷ []) = (refl, (tight_number p.0 h.0, (tight_small k h.2, (tight_joined cluster h.3, tt)))) in
    is_back (effect.Clu p k cluster) (feedless_words (effect_words (effect.Clu p k cluster)) t) (four (codes "CLU") (pid_text p) (decimal k) (joined_text cluster) (effect.Clu p k cluster) t (λ line. clu_words line p k cluster h.0 h.1 h.2 h.3))
spelled_back (effect.Enb p mode bit) h =
    let t : AllTight (codes "ENB" ∷ pid_text p ∷ mode_name mode ∷ bit_text bit ∷ []) = (refl, (tight_number p.0 h, (tight_mode mode, (tight_bit bit, tt)))) in
    is_back (effect.Enb p mode bit) (feedless_words (effect_words (effect.Enb p mode bit)) t) (four (codes "ENB") (pid_text p) (mode_name mode) (bit_text bit) (effect.Enb p mode bit) t (λ line. enb_words line p mode bit h))
spelled_back (effect.New p name) h =
    let t : AllTight (codes "NEW" ∷ pid_text p ∷ name ∷ []) = (refl, (tight_number p.0 h.0, (tight_name name h.1, tt))) in
    is_back (effect.New p name) (feedless_words (effect_words (effect.New p name)) t) (three (codes "NEW") (pid_text p) name (effect.New p name) t (λ line. new_words line p name h.0 h.1))
spelled_back (effect.Gone p) h =
    let t : AllTight (codes "GONE" ∷ pid_text p ∷ []) = (refl, (tight_number p.0 h, tt)) in
    is_back (effect.Gone p) (feedless_words (effect_words (effect.Gone p)) t) (two (codes "GONE") (pid_text p) (effect.Gone p) t (λ line b. ap (λ (z : List ℕ). option_map effect.Gone (pid_of z)) b ∙ ap (option_map effect.Gone) (pid_back p h)))

pub effects_back : ReadsBack
effects_back e h = (spelled_back e h).read
