-- How the line of an effect is read: by its words, and only if the effect is spelled as the line.
use Rattle.std.specs.Prelude.{ℕ, ◌==◌, not, Bool, List, [], ◌∷◌, ◌++◌, codes, bytes_eq, take, if◌then◌else◌, Option, Some, None, option_map}
use Rattle.std.specs.List.{prefix_len}
use Rattle.vx_base.specs.declared.effects.Effect.{Effect}
use Rattle.vx_base.specs.declared.effects.Effect.TheVariants as effect
use Rattle.vx_base.specs.declared.request.Body.{Body}
use Rattle.vx_base.specs.declared.request.Body.TheVariants as body
use Rattle.vx_text.specs.First.{cond_named}
use Rattle.vx_table.specs.Reading.{mode_word, target_word}
use Rattle.vx_lines.specs.Fields.{number_of, id_of, pid_of, bit_of, name_in, kind_of, mode_or_none, cond_or_none, cell_of, cluster_of, cluster_or_none, common_number, text_of}
use Rattle.vx_lines.specs.Records.{effect_line}
use Rattle.vx_lines.specs.Words.{◌>>=◌, first_word, behind_word, second_word, third_word, fourth_word, fifth_word, sixth_word}

-- Effects that begin with an id.

abbrev pub open_in : List ℕ → Option Effect
open_in line = id_of (second_word line) >>= λ id. kind_of (third_word line) >>= λ kind. pid_of (fourth_word line) >>= λ p. mode_or_none (fifth_word line) >>= λ mode. number_of (sixth_word line) >>= λ n. Some (effect.Open id kind p mode n)

abbrev pub fin_in : List ℕ → Option Effect
fin_in line = id_of (second_word line) >>= λ id. cond_named (third_word line) >>= λ cond. Some (effect.Fin id cond)

abbrev pub only_id : List ℕ → List ℕ → Option Effect
only_id word line =
    if bytes_eq word (codes "MARK") then option_map effect.Mark (id_of (second_word line)) else (
    if bytes_eq word (codes "QUE") then option_map effect.Que (id_of (second_word line)) else (
    if bytes_eq word (codes "FIRE") then option_map effect.Fire (id_of (second_word line)) else (
    if bytes_eq word (codes "DROP") then option_map effect.Drop (id_of (second_word line)) else (
    if bytes_eq word (codes "ENTER") then option_map effect.Enter (id_of (second_word line)) else (
    if bytes_eq word (codes "LEAVE") then option_map effect.Leave (id_of (second_word line)) else None)))))

abbrev pub of_id : List ℕ → List ℕ → Option Effect
of_id word line =
    if bytes_eq word (codes "OPEN") then open_in line else (
    if bytes_eq word (codes "FIN") then fin_in line else only_id word line)

-- Effects on clusters and their flags.

abbrev pub flag_in : List ℕ → Option Effect
flag_in line = cell_of (second_word line) >>= λ cell. bit_of (third_word line) >>= λ bit. Some (effect.Flag cell bit)

abbrev pub cef_in : List ℕ → Option Effect
cef_in line = cluster_of (second_word line) >>= λ cluster. bit_of (third_word line) >>= λ bit. Some (effect.Cef cluster.0 cluster.1 bit)

abbrev pub clu_in : List ℕ → Option Effect
clu_in line = pid_of (second_word line) >>= λ p. common_number (third_word line) >>= λ k. cluster_or_none (fourth_word line) >>= λ cluster. Some (effect.Clu p k cluster)

abbrev pub of_flags : List ℕ → List ℕ → Option Effect
of_flags word line =
    if bytes_eq word (codes "FLAG") then flag_in line else (
    if bytes_eq word (codes "CEF") then cef_in line else (
    if bytes_eq word (codes "CLU") then clu_in line else of_id word line))

-- Effects that begin with a process.

abbrev pub iosb_in : List ℕ → Option Effect
iosb_in line = pid_of (second_word line) >>= λ p. number_of (third_word line) >>= λ i. cond_or_none (fourth_word line) >>= λ cond. number_of (fifth_word line) >>= λ count. number_of (sixth_word line) >>= λ info. Some (effect.Iosb p i cond count info)

abbrev pub var_in : List ℕ → Option Effect
var_in line = pid_of (second_word line) >>= λ p. target_word (third_word line) >>= λ v. number_of (fourth_word line) >>= λ n. Some (effect.Var p v n)

abbrev pub enb_in : List ℕ → Option Effect
enb_in line = pid_of (second_word line) >>= λ p. mode_word (third_word line) >>= λ mode. bit_of (fourth_word line) >>= λ bit. Some (effect.Enb p mode bit)

abbrev pub new_in : List ℕ → Option Effect
new_in line = pid_of (second_word line) >>= λ p. name_in (third_word line) >>= λ name. Some (effect.New p name)

abbrev pub gone_in : List ℕ → Option Effect
gone_in line = option_map effect.Gone (pid_of (second_word line))

abbrev pub of_pid : List ℕ → List ℕ → Option Effect
of_pid word line =
    if bytes_eq word (codes "IOSB") then iosb_in line else (
    if bytes_eq word (codes "VAR") then var_in line else (
    if bytes_eq word (codes "ENB") then enb_in line else (
    if bytes_eq word (codes "NEW") then new_in line else (
    if bytes_eq word (codes "GONE") then gone_in line else of_flags word line))))

-- Effects on mailboxes.

abbrev pub get_in : List ℕ → Option Effect
get_in line = name_in (second_word line) >>= λ name. id_of (third_word line) >>= λ w. id_of (fourth_word line) >>= λ r. Some (effect.MGet name w r)

abbrev pub cut_in : List ℕ → Option Effect
cut_in line = name_in (second_word line) >>= λ name. id_of (third_word line) >>= λ w. Some (effect.MCut name w)

abbrev pub mbx_in : List ℕ → Option Effect
mbx_in line = name_in (second_word line) >>= λ name. bit_of (third_word line) >>= λ bit. Some (effect.Mbx name bit)

abbrev pub of_box : List ℕ → List ℕ → Option Effect
of_box word line =
    if bytes_eq word (codes "MGET") then get_in line else (
    if bytes_eq word (codes "MCUT") then cut_in line else (
    if bytes_eq word (codes "MBX") then mbx_in line else of_pid word line))

-- Effects with bytes, which stand behind the third word.

abbrev pub behind_three : List ℕ → List ℕ
behind_three line = behind_word (behind_word (behind_word line))

abbrev pub buf_in : List ℕ → Option (List ℕ) → Option Effect
buf_in line text = pid_of (second_word line) >>= λ p. number_of (third_word line) >>= λ b. text >>= λ bytes. Some (effect.Buf p b bytes)

-- bytes, or EOF
abbrev pub body_of : List ℕ → Option Body
body_of line = if bytes_eq line (codes " EOF") then Some body.Eof else option_map body.Text (text_of line)

abbrev pub put_in : List ℕ → Option Body → Option Effect
put_in line body = name_in (second_word line) >>= λ name. id_of (third_word line) >>= λ id. body >>= λ b. Some (effect.MPut name id b)

abbrev pub with_bytes : List ℕ → List ℕ → Option Effect
with_bytes word line =
    if bytes_eq word (codes "BUF") then buf_in line (text_of (behind_three line)) else (
    if bytes_eq word (codes "MPUT") then put_in line (body_of (behind_three line)) else of_box word line)

-- the effect that the words of a line are
abbrev pub effect_of : List ℕ → Option Effect
effect_of line = with_bytes (first_word line) line

-- Lines with their line feeds.

abbrev pub is_no_feed : ℕ → Bool
is_no_feed b = not (b == 10)

-- a line without its line feed
abbrev pub unfed : List ℕ → List ℕ
unfed line = take (prefix_len is_no_feed line) line

abbrev pub if_spelled : List ℕ → Effect → Option Effect
if_spelled line e = if bytes_eq (effect_line e ++ 10 ∷ []) line then Some e else None

-- the effect that a line spells
unfoldable pub read_effect : List ℕ → Option Effect
read_effect line = effect_of (unfed line) >>= if_spelled line
