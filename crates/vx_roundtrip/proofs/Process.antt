-- A PROCESS line is read as its declaration.
use Rattle.std.proofs.Common.{◌≡◌, ℕ, zero, suc, ◌+◌, ◌<◌, ◌^◌, Bool, true, false, List, [], ◌∷◌, ◌++◌, length, codes, nat_lt, nat_le, Some, None, Ok, refl, sym, ap, ◌∙◌, arith, append-nil, append_assoc, lit<}
use Rattle.std.specs.Prelude.{decimal, slice_index_or}
use Rattle.std.specs.List.{list_all}
use Rattle.std.proofs.lemmas.Bool.{leb-true, le-leb, and_parts}
use Rattle.vx_base.specs.Flags.{one}
use Rattle.vx_base.specs.Name.{is_name}
use Rattle.vx_base.specs.declared.mode.Mode.{Mode}
use Rattle.vx_base.specs.declared.quota.Need.{Need}
use Rattle.vx_base.specs.declared.quota.Privs.{Privs}
use Rattle.vx_image.specs.Absent.{no_image}
use Rattle.vx_image.specs.WellFormed.{is_decl, are_limits}
use Rattle.vx_image.specs.declared.decl.ProcDecl.{ProcDecl}
use Rattle.vx_image.specs.declared.image.Image.{Image}
use Rattle.vx_text.specs.declared.token.Tok.{Tok}
use Rattle.vx_text.specs.declared.token.Tok.TheVariants as tok
use Rattle.vx_text.proofs.Leading.{first-cons}
use Rattle.vx_table.specs.Spelling.{mode_name}
use Rattle.vx_script.specs.Declarations as read
use Rattle.vx_script.specs.Keys.{keys_from, with_key, uic_at, mode_at, limit_at, privs_at, start_at, limit_name, limit_in, with_limit_in, once, no_keys}
use Rattle.vx_script.specs.Reading.{outside, between_images}
use Rattle.vx_script.specs.Script as script
use Rattle.vx_script.specs.declared.keys.Keys.{Keys}
use Rattle.vx_script.specs.declared.keys.Limit.{Limit}
use Rattle.vx_script.specs.declared.keys.Limit.TheVariants as limit
use Rattle.vx_script.specs.declared.lines.DeclLine.{DeclLine}
use Rattle.vx_script.specs.declared.parts.Parts.{Parts}
use Rattle.vx_roundtrip.proofs.Outer.{Taken, taken_by}
use Rattle.vx_roundtrip.proofs.Words.{Has, has_same, has_piece, has_sign, has_gap, has_nothing, Ends, ends_nothing, ends_gap, Spells, spells_word, spells_number}
use Rattle.vx_table.proofs.Back.{mode_back}
use Rattle.vx_table.proofs.Texts.{mode_names}

ends_equals : (rest : List ℕ) → Ends (61 ∷ rest)
ends_equals rest = record { word = refl; number = refl }

ends_colon : (rest : List ℕ) → Ends (58 ∷ rest)
ends_colon rest = record { word = refl; number = refl }

ends_plus : (rest : List ℕ) → Ends (43 ∷ rest)
ends_plus rest = record { word = refl; number = refl }

-- a key, = and its value
has_key : (key value : List ℕ) (v : Tok) (rest : List ℕ) (toks : List Tok) → is_name key ≡ true → Spells value v → Ends rest → Has rest toks → Has (32 ∷ (key ++ 61 ∷ (value ++ rest))) (tok.Word key ∷ tok.Sign 61 ∷ v ∷ toks)
has_key key value v rest toks h s e more =
    let behind = 61 ∷ (value ++ rest) in
    has_gap (key ++ behind) _ (has_piece key (tok.Word key) behind _ (spells_word key h) (ends_equals _) (has_sign 61 (value ++ rest) (v ∷ toks) refl (first-cons 61 _) (has_piece value v rest toks s e more)))

-- Names joined by +.

abbrev and_toks : List (List ℕ) → List Tok
and_toks [] = []
and_toks (n ∷ ns) = tok.Sign 43 ∷ tok.Word n ∷ and_toks ns

abbrev names_toks : List (List ℕ) → List Tok
names_toks [] = tok.Word (codes "NONE") ∷ []
names_toks (n ∷ ns) = tok.Word n ∷ and_toks ns

ends_and : (ns : List (List ℕ)) (rest : List ℕ) → Ends rest → Ends (script.and_names ns ++ rest)
ends_and [] rest e = e
ends_and (n ∷ ns) rest e = ends_plus _

has_and : (ns : List (List ℕ)) (rest : List ℕ) (toks : List Tok) → list_all is_name ns ≡ true → Ends rest → Has rest toks → Has (script.and_names ns ++ rest) (and_toks ns ++ toks)
has_and [] rest toks h e more = more
has_and (n ∷ ns) rest toks h e more =
    let p = and_parts (is_name n) (list_all is_name ns) h in
    let behind = script.and_names ns ++ rest in
    has_same (43 ∷ ((n ++ script.and_names ns) ++ rest)) (43 ∷ (n ++ behind)) _ (ap (λ (bytes : List ℕ). 43 ∷ bytes) (append_assoc n (script.and_names ns) rest)) (has_sign 43 (n ++ behind) _ refl (first-cons 43 _) (has_piece n (tok.Word n) behind _ (spells_word n p.0) (ends_and ns rest e) (has_and ns rest toks p.1 e more)))

has_names : (ns : List (List ℕ)) (rest : List ℕ) (toks : List Tok) → list_all is_name ns ≡ true → Ends rest → Has rest toks → Has (script.names_text ns ++ rest) (names_toks ns ++ toks)
has_names [] rest toks h e more = has_piece (codes "NONE") (tok.Word (codes "NONE")) rest toks (spells_word (codes "NONE") refl) e more
has_names (n ∷ ns) rest toks h e more =
    let p = and_parts (is_name n) (list_all is_name ns) h in
    let behind = script.and_names ns ++ rest in
    has_same ((n ++ script.and_names ns) ++ rest) (n ++ behind) _ (append_assoc n (script.and_names ns) rest) (has_piece n (tok.Word n) behind _ (spells_word n p.0) (ends_and ns rest e) (has_and ns rest toks p.1 e more))

abbrev privs_made : Bool → Bool → Bool → Bool → Bool → Bool → Privs
privs_made a b c d e f = record { cmexec = a; cmkrnl = b; group = c; prmceb = d; prmmbx = e; world = f }

-- what holds at both holds at each

abbrev Each : (Bool → Type 0) → Type 0
Each P = P true × P false

pick : (P : Bool → Type 0) → Each P → (b : Bool) → P b
pick P h true = h.0
pick P h false = h.1

abbrev Test : Type 1
Test = Bool → Bool → Bool → Bool → Bool → Bool → Type 0

abbrev EachSix : Test → Type 0
EachSix P = Each (λ a. Each (λ b. Each (λ c. Each (λ d. Each (λ e. Each (λ f. P a b c d e f))))))

-- what holds of each six tests holds of a process's privileges
of_privs : (P : Test) → EachSix P → (p : Privs) → P p.cmexec p.cmkrnl p.group p.prmceb p.prmmbx p.world
of_privs P h p =
    let one = pick (λ a. Each (λ b. Each (λ c. Each (λ d. Each (λ e. Each (λ f. P a b c d e f)))))) h p.cmexec in
    let two = pick (λ b. Each (λ c. Each (λ d. Each (λ e. Each (λ f. P p.cmexec b c d e f))))) one p.cmkrnl in
    let three = pick (λ c. Each (λ d. Each (λ e. Each (λ f. P p.cmexec p.cmkrnl c d e f)))) two p.group in
    let four = pick (λ d. Each (λ e. Each (λ f. P p.cmexec p.cmkrnl p.group d e f))) three p.prmceb in
    let five = pick (λ e. Each (λ f. P p.cmexec p.cmkrnl p.group p.prmceb e f)) four p.prmmbx in
    pick (λ f. P p.cmexec p.cmkrnl p.group p.prmceb p.prmmbx f) five p.world

abbrev AreNamed : Test
AreNamed a b c d e f = list_all is_name (script.held_names (privs_made a b c d e f)) ≡ true

each_named : EachSix AreNamed
each_named = search

held_named : (p : Privs) → list_all is_name (script.held_names p) ≡ true
held_named p = of_privs AreNamed each_named p

-- how many there are
abbrev count : List Tok → ℕ
count [] = zero
count (t ∷ toks) = suc (count toks)

abbrev PrivsBack : List Tok → Test
PrivsBack rest a b c d e f = privs_at (tok.Sign 61 ∷ (names_toks (script.held_names (privs_made a b c d e f)) ++ tok.Word (codes "START") ∷ rest)) ≡ Ok (record { privs = privs_made a b c d e f; used = count (names_toks (script.held_names (privs_made a b c d e f))) })

each_back : (rest : List Tok) → EachSix (PrivsBack rest)
unfolding privs_at
each_back rest = search

privs_back : (p : Privs) (rest : List Tok) → privs_at (tok.Sign 61 ∷ (names_toks (script.held_names p) ++ tok.Word (codes "START") ∷ rest)) ≡ Ok (record { privs = p; used = count (names_toks (script.held_names p)) })
privs_back p rest = of_privs (PrivsBack rest) (each_back rest) p

-- Each key is read as its value.

skip_over : (front rest : List Tok) (keys : Keys) → keys_from (count front) keys (front ++ rest) ≡ keys_from 0 keys rest
unfolding keys_from
skip_over [] rest keys = refl
skip_over (t ∷ front) rest keys = skip_over front rest keys

low_zero : (n : ℕ) → nat_le 0 n ≡ true
low_zero n = le-leb _ _ (omega arith)

uic_key : (keys : Keys) (g m : ℕ) (rest : List Tok) → once keys.uic ≡ Ok tt → nat_le 1 g ≡ true → nat_le g 16382 ≡ true → nat_le m 65534 ≡ true → keys_from 0 keys (tok.Word (codes "UIC") ∷ tok.Sign 61 ∷ tok.Num g ∷ tok.Sign 58 ∷ tok.Num m ∷ rest) ≡ keys_from 0 (record keys { uic = Some (record { group = g; member = m }) }) rest
unfolding keys_from with_key uic_at
uic_key keys g m rest o low high most = rw (o, low, high, low_zero m, most) refl

mode_key : (keys : Keys) (m : Mode) (rest : List Tok) → once keys.mode ≡ Ok tt → keys_from 0 keys (tok.Word (codes "MODE") ∷ tok.Sign 61 ∷ tok.Word (mode_name m) ∷ rest) ≡ keys_from 0 (record keys { mode = Some m }) rest
unfolding keys_from with_key mode_at
mode_key keys m rest o = rw (o, mode_back m) refl

limit_key : (l : Limit) (keys : Keys) (n : ℕ) (rest : List Tok) → once (limit_in keys l) ≡ Ok tt → nat_le n 1000000 ≡ true → keys_from 0 keys (tok.Word (limit_name l) ∷ tok.Sign 61 ∷ tok.Num n ∷ rest) ≡ keys_from 0 (with_limit_in keys l n) rest
unfolding keys_from with_key limit_at
limit_key limit.Ast keys n rest o h = rw (o, low_zero n, h) refl
limit_key limit.Bio keys n rest o h = rw (o, low_zero n, h) refl
limit_key limit.Dio keys n rest o h = rw (o, low_zero n, h) refl
limit_key limit.Byt keys n rest o h = rw (o, low_zero n, h) refl
limit_key limit.Tqe keys n rest o h = rw (o, low_zero n, h) refl

privs_taken : (keys : Keys) (p : Privs) (rest : List Tok) → once keys.privs ≡ Ok tt → keys_from 0 keys (tok.Word (codes "PRIV") ∷ tok.Sign 61 ∷ (names_toks (script.held_names p) ++ tok.Word (codes "START") ∷ rest)) ≡ keys_from (count (names_toks (script.held_names p)) + 1) (record keys { privs = Some p }) (tok.Sign 61 ∷ (names_toks (script.held_names p) ++ tok.Word (codes "START") ∷ rest))
unfolding keys_from with_key
privs_taken keys p rest o = rw (o, privs_back p rest) refl

skip_sign : (front rest : List Tok) (keys : Keys) → keys_from (count front + 1) keys (tok.Sign 61 ∷ (front ++ rest)) ≡ keys_from 0 keys rest
skip_sign front rest keys =
    let more : count front + 1 ≡ count (tok.Sign 61 ∷ front) = omega arith in
    ap (λ (n : ℕ). keys_from n keys (tok.Sign 61 ∷ (front ++ rest))) more ∙ skip_over (tok.Sign 61 ∷ front) rest keys

start_by : (keys : Keys) (b : Bool) → once keys.start ≡ Ok tt → keys_from 0 keys (tok.Word (codes "START") ∷ tok.Sign 61 ∷ tok.Num (one b) ∷ []) ≡ Ok (record keys { start = Some b })
unfolding keys_from with_key start_at
start_by keys true o = rw o refl
start_by keys false o = rw o refl

-- The tokens of a line's keys.

abbrev start_toks : ProcDecl → List Tok
start_toks d = tok.Word (codes "START") ∷ tok.Sign 61 ∷ tok.Num (one d.start) ∷ []

abbrev privs_toks : ProcDecl → List Tok
privs_toks d = tok.Word (codes "PRIV") ∷ tok.Sign 61 ∷ (names_toks (script.held_names d.privs) ++ start_toks d)

abbrev limits_toks : Need → List Tok → List Tok
limits_toks n toks =
    tok.Word (codes "ASTLM") ∷ tok.Sign 61 ∷ tok.Num n.ast
    ∷ tok.Word (codes "BIOLM") ∷ tok.Sign 61 ∷ tok.Num n.bio
    ∷ tok.Word (codes "DIOLM") ∷ tok.Sign 61 ∷ tok.Num n.dio
    ∷ tok.Word (codes "BYTLM") ∷ tok.Sign 61 ∷ tok.Num n.byt
    ∷ tok.Word (codes "TQELM") ∷ tok.Sign 61 ∷ tok.Num n.tqe ∷ toks

abbrev rights_toks : ProcDecl → List Tok → List Tok
rights_toks d toks =
    tok.Word (codes "UIC") ∷ tok.Sign 61 ∷ tok.Num d.group ∷ tok.Sign 58 ∷ tok.Num d.member
    ∷ tok.Word (codes "MODE") ∷ tok.Sign 61 ∷ tok.Word (mode_name d.mode) ∷ toks

abbrev key_toks : ProcDecl → List Tok
key_toks d = rights_toks d (limits_toks d.limits (privs_toks d))

-- the keys that a canonical line gives
abbrev pub keys_of : ProcDecl → Keys
keys_of d = record { uic = Some (record { group = d.group; member = d.member }); mode = Some d.mode; ast = Some d.limits.ast; bio = Some d.limits.bio; dio = Some d.limits.dio; byt = Some d.limits.byt; tqe = Some d.limits.tqe; privs = Some d.privs; start = Some d.start }

-- the numbers of a declaration are in their ranges
record InRange (d : ProcDecl) : Type 0 where
  low : nat_le 1 d.group ≡ true
  high : nat_le d.group 16382 ≡ true
  member : nat_le d.member 65534 ≡ true
  ast : nat_le d.limits.ast 1000000 ≡ true
  bio : nat_le d.limits.bio 1000000 ≡ true
  dio : nat_le d.limits.dio 1000000 ≡ true
  byt : nat_le d.limits.byt 1000000 ≡ true
  tqe : nat_le d.limits.tqe 1000000 ≡ true

in_range : (images : ℕ) (d : ProcDecl) → is_decl images d ≡ true → InRange d
in_range images d h =
    let one = and_parts (nat_lt d.image images) _ h in
    let two = and_parts (nat_le 1 d.group) _ one.1 in
    let three = and_parts (nat_le d.group 16382) _ two.1 in
    let four = and_parts (nat_le d.member 65534) (are_limits d.limits) three.1 in
    let five = and_parts (nat_le d.limits.ast 1000000) _ four.1 in
    let six = and_parts (nat_le d.limits.bio 1000000) _ five.1 in
    let seven = and_parts (nat_le d.limits.dio 1000000) _ six.1 in
    let eight = and_parts (nat_le d.limits.byt 1000000) (nat_le d.limits.tqe 1000000) seven.1 in
    record { low = two.0; high = three.0; member = four.0; ast = five.0; bio = six.0; dio = seven.0; byt = eight.0; tqe = eight.1 }

keys_back : (d : ProcDecl) → InRange d → keys_from 0 no_keys (key_toks d) ≡ Ok (keys_of d)
keys_back d r =
    let rest = limits_toks d.limits (privs_toks d) in
    let toks = names_toks (script.held_names d.privs) in
    uic_key no_keys d.group d.member _ refl r.low r.high r.member
    ∙ mode_key _ d.mode rest refl
    ∙ limit_key limit.Ast _ d.limits.ast _ refl r.ast
    ∙ limit_key limit.Bio _ d.limits.bio _ refl r.bio
    ∙ limit_key limit.Dio _ d.limits.dio _ refl r.dio
    ∙ limit_key limit.Byt _ d.limits.byt _ refl r.byt
    ∙ limit_key limit.Tqe _ d.limits.tqe _ refl r.tqe
    ∙ privs_taken _ d.privs _ refl
    ∙ skip_sign toks (start_toks d) _
    ∙ start_by _ d.start refl

-- The text of the line has them.

few : (n most : ℕ) → nat_le n most ≡ true → most < 2 ^ 32 → n < 2 ^ 32
few n most h m = omega (arith, leb-true _ _ h, m)

one_few : (b : Bool) → one b < 2 ^ 32
one_few true = lit< tt
one_few false = lit< tt

start_shape : (names n : List ℕ) → codes " PRIV=" ++ names ++ codes " START=" ++ n ≡ codes " PRIV=" ++ (names ++ (codes " START=" ++ n))
start_shape names n = simp append_assoc

has_start : (d : ProcDecl) → Has (script.start_keys d) (privs_toks d)
unfolding script.start_keys
has_start d =
    let names = script.held_names d.privs in
    let n = decimal (one d.start) in
    let start : Has (32 ∷ (codes "START" ++ 61 ∷ (n ++ []))) (start_toks d) = has_key (codes "START") n (tok.Num (one d.start)) [] [] refl (spells_number (one d.start) (one_few d.start)) ends_nothing has_nothing in
    let behind = codes " START=" ++ (n ++ []) in
    let named : Has (script.names_text names ++ behind) (names_toks names ++ start_toks d) = has_names names behind (start_toks d) (held_named d.privs) (ends_gap _) start in
    let shape : script.start_keys d ≡ codes " PRIV=" ++ (script.names_text names ++ (codes " START=" ++ n)) = start_shape (script.names_text names) n in
    has_same (script.start_keys d) (codes " PRIV=" ++ (script.names_text names ++ behind)) _ (shape ∙ ap (λ (z : List ℕ). codes " PRIV=" ++ (script.names_text names ++ (codes " START=" ++ z))) (sym (append-nil n))) (has_gap (codes "PRIV=" ++ (script.names_text names ++ behind)) _ (has_piece (codes "PRIV") (tok.Word (codes "PRIV")) (61 ∷ (script.names_text names ++ behind)) _ (spells_word (codes "PRIV") refl) (ends_equals _) (has_sign 61 (script.names_text names ++ behind) _ refl (first-cons 61 _) named)))

abbrev limit_text : List ℕ → ℕ → List ℕ → List ℕ
limit_text key n rest = 32 ∷ (key ++ 61 ∷ (decimal n ++ rest))

has_limit : (key : List ℕ) (n : ℕ) (rest : List ℕ) (toks : List Tok) → is_name key ≡ true → nat_le n 1000000 ≡ true → Ends rest → Has rest toks → Has (limit_text key n rest) (tok.Word key ∷ tok.Sign 61 ∷ tok.Num n ∷ toks)
has_limit key n rest toks h small e more = has_key key (decimal n) (tok.Num n) rest toks h (spells_number n (few n 1000000 small (lit< tt))) e more

abbrev limits_text : Need → List ℕ → List ℕ
limits_text n rest = limit_text (codes "ASTLM") n.ast (limit_text (codes "BIOLM") n.bio (limit_text (codes "DIOLM") n.dio (limit_text (codes "BYTLM") n.byt (limit_text (codes "TQELM") n.tqe rest))))

limits_shape : (n : Need) (rest : List ℕ) → script.limits_keys n ++ rest ≡ limits_text n rest
unfolding script.limits_keys
limits_shape n rest = simp append_assoc

has_limits : (d : ProcDecl) (rest : List ℕ) (toks : List Tok) → InRange d → Ends rest → Has rest toks → Has (limits_text d.limits rest) (limits_toks d.limits toks)
has_limits d rest toks r e more =
    has_limit (codes "ASTLM") d.limits.ast _ _ refl r.ast (ends_gap _) (has_limit (codes "BIOLM") d.limits.bio _ _ refl r.bio (ends_gap _) (has_limit (codes "DIOLM") d.limits.dio _ _ refl r.dio (ends_gap _) (has_limit (codes "BYTLM") d.limits.byt _ _ refl r.byt (ends_gap _) (has_limit (codes "TQELM") d.limits.tqe rest toks refl r.tqe e more))))

abbrev rights_text : ProcDecl → List ℕ → List ℕ
rights_text d rest = 32 ∷ (codes "UIC" ++ 61 ∷ (decimal d.group ++ 58 ∷ (decimal d.member ++ 32 ∷ (codes "MODE" ++ 61 ∷ (mode_name d.mode ++ rest)))))

rights_shape : (d : ProcDecl) (rest : List ℕ) → script.rights_keys d ++ rest ≡ rights_text d rest
unfolding script.rights_keys
rights_shape d rest = simp append_assoc

has_rights : (d : ProcDecl) (rest : List ℕ) (toks : List Tok) → InRange d → Ends rest → Has rest toks → Has (rights_text d rest) (rights_toks d toks)
has_rights d rest toks r e more =
    let mode = has_key (codes "MODE") (mode_name d.mode) (tok.Word (mode_name d.mode)) rest toks refl (spells_word (mode_name d.mode) (mode_names d.mode)) e more in
    let member = has_piece (decimal d.member) (tok.Num d.member) _ _ (spells_number d.member (few d.member 65534 r.member (lit< tt))) (ends_gap _) mode in
    has_key (codes "UIC") (decimal d.group) (tok.Num d.group) _ _ refl (spells_number d.group (few d.group 16382 r.high (lit< tt))) (ends_colon _) (has_sign 58 _ _ refl (first-cons 58 _) member)

-- the name of a declaration's image
abbrev pub image_name : List Image → ProcDecl → List ℕ
image_name images d = (slice_index_or images d.image no_image).name

abbrev names_shown : List ℕ → List ℕ → List ℕ → List ℕ
names_shown name image rest = codes "PROCESS" ++ 32 ∷ (name ++ 32 ∷ (image ++ rest))

names_shape : (images : List Image) (d : ProcDecl) (rest : List ℕ) → script.decl_names images d ++ rest ≡ names_shown d.name (image_name images d) rest
unfolding script.decl_names
names_shape images d rest = simp append_assoc

has_shown : (name image rest : List ℕ) (toks : List Tok) → is_name name ≡ true → is_name image ≡ true → Ends rest → Has rest toks → Has (names_shown name image rest) (tok.Word (codes "PROCESS") ∷ tok.Word name ∷ tok.Word image ∷ toks)
has_shown name image rest toks h k e more =
    has_piece (codes "PROCESS") (tok.Word (codes "PROCESS")) _ _ (spells_word (codes "PROCESS") refl) (ends_gap _) (has_gap _ _ (has_piece name (tok.Word name) _ _ (spells_word name h) (ends_gap _) (has_gap _ _ (has_piece image (tok.Word image) rest toks (spells_word image k) e more))))

ends_start : (d : ProcDecl) → Ends (script.start_keys d)
unfolding script.start_keys
ends_start d = ends_gap _

line_shape : (images : List Image) (d : ProcDecl) → script.decl_line images d ≡ names_shown d.name (image_name images d) (rights_text d (limits_text d.limits (script.start_keys d)))
unfolding script.decl_line
line_shape images d =
    let start = script.start_keys d in
    let all : script.decl_line images d ≡ script.decl_names images d ++ (script.rights_keys d ++ (script.limits_keys d.limits ++ start)) = simp append_assoc in
    all ∙ names_shape images d (script.rights_keys d ++ (script.limits_keys d.limits ++ start)) ∙ ap (names_shown d.name (image_name images d)) (rights_shape d (script.limits_keys d.limits ++ start) ∙ ap (rights_text d) (limits_shape d.limits start))

has_decl : (images : List Image) (d : ProcDecl) → InRange d → is_name d.name ≡ true → is_name (image_name images d) ≡ true → Has (script.decl_line images d) (tok.Word (codes "PROCESS") ∷ tok.Word d.name ∷ tok.Word (image_name images d) ∷ key_toks d)
has_decl images d r h k =
    has_same (script.decl_line images d) _ _ (line_shape images d) (has_shown d.name (image_name images d) _ (key_toks d) h k (ends_gap _) (has_rights d _ _ r (ends_gap _) (has_limits d (script.start_keys d) (privs_toks d) r (ends_start d) (has_start d))))

-- the line that a declaration's canonical line is read as
abbrev pub line_of : ℕ → List Image → ProcDecl → DeclLine
line_of line images d = record { line = line; name = d.name; image = image_name images d; keys = keys_of d }

pub take_process : (line : ℕ) (parts : Parts) (images : List Image) (count : ℕ) (d : ProcDecl) → is_decl count d ≡ true → is_name d.name ≡ true → is_name (image_name images d) ≡ true → read.decl_place d.name parts.decls ≡ None → nat_lt (length parts.decls) 1000 ≡ true → Taken line (between_images parts) (script.decl_line images d) (between_images (record parts { decls = parts.decls ++ line_of line images d ∷ [] }))
unfolding outside read.process_line
take_process line parts images count d is h k new room =
    let r = in_range count d is in
    taken_by line (between_images parts) _ (script.decl_line images d) (tok.Word (codes "PROCESS") ∷ tok.Word d.name ∷ tok.Word (image_name images d) ∷ key_toks d) (has_decl images d r h k) (rw (new, keys_back d r, room) refl)
