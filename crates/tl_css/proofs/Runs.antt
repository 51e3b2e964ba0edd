-- Runs of parts: each takes at least a byte, so how many are allowed makes no difference.
use Rattle.std.proofs.Common.{◌≡◌, ℕ, zero, suc, ◌<◌, ◌≤◌, ◌&&◌, ◌||◌, ◌==◌, Bool, true, false, List, [], ◌∷◌, ◌++◌, length, drop, take, Option, Some, None, refl, ap, sym, ◌∙◌, subst, arith, if◌then◌else◌, IfSome, is_some, option_map, codes, nat_eq, cond, encode_utf8}
use Rattle.std.proofs.lemmas.Bool.{true≢false}
use Rattle.std.proofs.lemmas.List.Sums.{take_while-cons}
use Rattle.std.specs.List.{take_while, list_any}
use Rattle.std.specs.Str.{byte, bytes_eq, str_to_ascii_lowercase}
use Rattle.tl_spec.specs.Lex.Runs.{after_needle, read_many}
use Rattle.tl_spec.proofs.Lex.Bytes.{drop-le}
use Rattle.tl_spec.proofs.Lex.Many.{Shrinks, many-none, many-some}
use Rattle.tl_css.specs.Read.{Read}
use Rattle.tl_css.specs.TextView.{without}
use Rattle.std.specs.Char.{to_ascii_lowercase}
use Rattle.tl_spec.proofs.Lex.Shrinks.{if_both, after-le, IsLe, IsLe-more, many-le}
use Rattle.tl_css.specs.Bytes.{is_newline, is_white, backslash, is_hex, hex_number, char_of}
use Rattle.tl_css.specs.Lexical.{past_white, begins, past_escape, escape_by, escape_at, is_plain, escaped_at, part_at, joined, run_at, after_comment, comment_at, past_comments, gap_part_at, gap_result, gap_after, gap_at, is_word}

pub past_white_le : (s : List ℕ) → length (past_white s) ≤ length s
past_white_le [] = omega arith
past_white_le (b ∷ []) = omega arith
past_white_le (b ∷ c ∷ s) = if_both (λ (v : List ℕ). length v ≤ length (b ∷ c ∷ s)) ((b == 0x0D) && (c == 0x0A)) _ _ (λ _. omega arith) (λ _. omega arith)

pub past_escape_le : (s : List ℕ) → length (past_escape s) ≤ length s
past_escape_le s = if_both (λ (v : List ℕ). length v ≤ length s) (begins is_white s) _ _ (λ _. past_white_le s) (λ _. omega arith)

pub escape_by_le : (ds s : List ℕ) → length (escape_by ds s).1 ≤ length s
escape_by_le [] [] = omega arith
escape_by_le [] (b ∷ s) = omega arith
escape_by_le (d ∷ ds) s = let a = past_escape_le (drop (length (d ∷ ds)) s) in let b = drop-le (length (d ∷ ds)) s in omega arith

pub escape_le : (s : List ℕ) → length (escape_at s).1 ≤ length s
escape_le s = escape_by_le (take_while is_hex (take 6 s)) s

-- the digits of an escape stand at its front
front_is : (p : ℕ → Bool) (n : ℕ) (s : List ℕ) → take (length (take_while p (take n s))) s ≡ take_while p (take n s)
front_is p zero s = refl
front_is p (suc n) [] = refl
front_is p (suc n) (b ∷ s) =
    rw (take_while-cons p b (take n s))
    (elim (p b) as (λ v. take (length (cond v (b ∷ take_while p (take n s)) [])) (b ∷ s) ≡ cond v (b ∷ take_while p (take n s)) []) [
      | true ↦ ap (λ (t : List ℕ). b ∷ t) (front_is p n s)
      | false ↦ refl
    ])

escape_digits : (ds s : List ℕ) → (length ds == 0) ≡ false → escape_by ds s ≡ (encode_utf8 (char_of (hex_number 0 ds)), past_escape (drop (length ds) s))
escape_digits [] s some = absurd (true≢false some)
escape_digits (d ∷ ds) s some = refl

pub escape_number : (s digits : List ℕ) (n : ℕ) → n ≡ length (take_while is_hex (take 6 s)) → digits ≡ take n s → (length digits == 0) ≡ false
    → escape_at s ≡ (encode_utf8 (char_of (hex_number 0 digits)), past_escape (drop n s))
escape_number s digits n e are some =
    let is : digits ≡ take_while is_hex (take 6 s) = are ∙ (ap (λ n. take n s) e ∙ front_is is_hex 6 s) in
    let digits_are : escape_at s ≡ escape_by digits s = ap (λ (ds : List ℕ). escape_by ds s) (sym is) in
    let count : length digits ≡ n = ap (λ (ds : List ℕ). length ds) is ∙ sym e in
    digits_are ∙ (escape_digits digits s some ∙ ap (λ k. (encode_utf8 (char_of (hex_number 0 digits)), past_escape (drop k s))) count)

-- what stands after it is no longer than n
abbrev pub Within : {A : Type 0} → ℕ → Option (A × List ℕ) → Type 0
Within n o = IfSome o (λ p. length p.1 ≤ n)

pub escaped_le : (quote : Option ℕ) (s : List ℕ) → Within (length s) (escaped_at quote s)
escaped_le quote [] = tt
escaped_le quote (c ∷ s) = if_both (λ (o : Option (List ℕ × List ℕ)). Within (length (c ∷ s)) o) (is_newline c) _ _
    (λ _. if_both (λ (o : Option (List ℕ × List ℕ)). Within (length (c ∷ s)) o) (is_some quote) _ _ (λ _. past_white_le (c ∷ s)) (λ _. tt))
    (λ _. escape_le (c ∷ s))

-- it is shorter than s
abbrev pub Below : {A : Type 0} → List ℕ → Option (A × List ℕ) → Type 0
Below s o = IfSome o (λ p. length p.1 < length s)

below_cons : {A : Type 0} (b : ℕ) (s : List ℕ) (o : Option (A × List ℕ)) → Within (length s) o → Below (b ∷ s) o
below_cons b s None h = tt
below_cons b s (Some p) h = omega arith

pub part_below : (quote : Option ℕ) (s : List ℕ) → Below s (part_at quote s)
part_below quote [] = tt
part_below quote (b ∷ s) = if_both (λ (o : Option (List ℕ × List ℕ)). Below (b ∷ s) o) (is_plain quote b) _ _ (λ _. omega arith)
    (λ _. if_both (λ (o : Option (List ℕ × List ℕ)). Below (b ∷ s) o) (b == backslash) _ _ (λ _. below_cons b s (escaped_at quote s) (escaped_le quote s)) (λ _. tt))

pub part_shrinks : (quote : Option ℕ) → Shrinks (part_at quote)
part_shrinks quote s found e = subst (λ (o : Option (List ℕ × List ℕ)). Below s o) e (part_below quote s)

-- the parts of a run, one after the other
pub run_some : (quote : Option ℕ) (s : List ℕ) (found : List ℕ × List ℕ) → Some found ≡ part_at quote s
    → run_at quote s ≡ (found.0 ++ (run_at quote found.1).0, (run_at quote found.1).1)
unfolding run_at
run_some quote s found e =
    ap (λ (parts : List (List ℕ) × List ℕ). (joined parts.0, parts.1))
    (many-some (part_at quote) (part_shrinks quote) s found (sym e) (length s) (length found.1) (omega arith) (omega arith))

pub run_none : (quote : Option ℕ) (s : List ℕ) → None ≡ part_at quote s → run_at quote s ≡ ([], s)
unfolding run_at
run_none quote s e = ap (λ (parts : List (List ℕ) × List ℕ). (joined parts.0, parts.1)) (many-none (part_at quote) s (sym e))

pub part_lt : (quote : Option ℕ) (s : List ℕ) (found : List ℕ × List ℕ) → Some found ≡ part_at quote s → length found.1 < length s
part_lt quote s found e = part_shrinks quote s found (sym e)

-- White space

pub after_comment_le : (b : ℕ) (s : List ℕ) → IsLe (length s) (after_comment (b ∷ s))
after_comment_le b [] = tt
after_comment_le b (c ∷ s) = if_both (λ (o : Option (List ℕ)). IsLe (length (c ∷ s)) o) ((b == byte "/") && (c == byte "*")) _ _
    (λ _. IsLe-more (length s) (after_needle (codes "*/") s) (after-le (codes "*/") s)) (λ _. tt)

below_comment : (b : ℕ) (s : List ℕ) (o : Option (List ℕ)) → IsLe (length s) o → Below (b ∷ s) (option_map (λ rest. (false, rest)) o)
below_comment b s None h = tt
below_comment b s (Some rest) h = omega arith

comment_below : (s : List ℕ) → Below s (comment_at s)
comment_below [] = tt
comment_below (b ∷ s) = below_comment b s (after_comment (b ∷ s)) (after_comment_le b s)

comment_shrinks : Shrinks comment_at
comment_shrinks s found e = subst (λ (o : Option (Bool × List ℕ)). Below s o) e (comment_below s)

comment_is : (s rest : List ℕ) → Some rest ≡ after_comment s → comment_at s ≡ Some (false, rest)
comment_is s rest e = ap (λ (o : Option (List ℕ)). option_map (λ rest. (false, rest)) o) (sym e)

pub comment_lt : (s rest : List ℕ) → Some rest ≡ after_comment s → length rest < length s
comment_lt s rest e = comment_shrinks s (false, rest) (comment_is s rest e)

pub past_comments_le : (s : List ℕ) → length (past_comments s) ≤ length s
unfolding past_comments
past_comments_le s = many-le comment_at comment_shrinks (length s) s

pub past_some : (s rest : List ℕ) → Some rest ≡ after_comment s → past_comments rest ≡ past_comments s
unfolding past_comments
past_some s rest e =
    let less = comment_lt s rest e in
    sym (ap (λ (parts : List Bool × List ℕ). parts.1)
    (many-some comment_at comment_shrinks s (false, rest) (comment_is s rest e) (length s) (length rest) (omega arith) (omega arith)))

pub past_none : (s : List ℕ) → None ≡ after_comment s → past_comments s ≡ s
unfolding past_comments
past_none s e =
    ap (λ (parts : List Bool × List ℕ). parts.1)
    (many-none comment_at s (ap (λ (o : Option (List ℕ)). option_map (λ rest. (false, rest)) o) (sym e)))

pub gap_part_below : (s : List ℕ) → Below s (gap_part_at s)
gap_part_below [] = tt
gap_part_below (b ∷ s) = if_both (λ (o : Option (Bool × List ℕ)). Below (b ∷ s) o) (is_white b) _ _ (λ _. omega arith)
    (λ _. comment_below (b ∷ s))

pub gap_shrinks : Shrinks gap_part_at
gap_shrinks s found e = subst (λ (o : Option (Bool × List ℕ)). Below s o) e (gap_part_below s)

pub gap_lt : (s : List ℕ) (found : Bool × List ℕ) → Some found ≡ gap_part_at s → length found.1 < length s
gap_lt s found e = gap_shrinks s found (sym e)

-- a gap, where there was white space before it or not
unfoldable pub gap_from : Bool → List ℕ → Read Bool
gap_from white s = gap_after white (read_many gap_part_at (length s) s)

or_assoc : (a b c : Bool) → ((a || b) || c) ≡ (a || (b || c))
or_assoc true b c = refl
or_assoc false b c = refl

pub gap_some : (white : Bool) (s : List ℕ) (found : Bool × List ℕ) → Some found ≡ gap_part_at s → gap_from (white || found.0) found.1 ≡ gap_from white s
unfolding gap_from
gap_some white s found e =
    let more = read_many gap_part_at (length found.1) found.1 in
    ap (λ w. gap_result w more.1) (or_assoc white found.0 (list_any (λ w. w) more.0))
    ∙ sym (ap (gap_after white) (many-some gap_part_at gap_shrinks s found (sym e) (length s) (length found.1) (omega arith) (omega arith)))

or_false : (b : Bool) → (b || false) ≡ b
or_false true = refl
or_false false = refl

pub gap_none : (white : Bool) (s : List ℕ) → None ≡ gap_part_at s → gap_from white s ≡ gap_result white s
unfolding gap_from
gap_none white s e = ap (gap_after white) (many-none gap_part_at s (sym e)) ∙ ap (λ w. gap_result w s) (or_false white)

pub gap_first : (s : List ℕ) → gap_from false s ≡ gap_at s
unfolding gap_from gap_at
gap_first s = refl

-- Keywords

-- of a name that begins with these bytes
pub word_without : (bs text word : List ℕ) → bytes_eq (str_to_ascii_lowercase (bs ++ text)) word
    ≡ (elim (without bs word) as (λ _. Bool) [ None ↦ false | Some rest ↦ bytes_eq (str_to_ascii_lowercase text) rest ])
word_without [] text word = refl
word_without (b ∷ bs) text [] = refl
word_without (b ∷ bs) text (c ∷ word) =
    let step : (v : Bool) → (v && bytes_eq (str_to_ascii_lowercase (bs ++ text)) word)
    ≡ (elim (if v then without bs word else None) as (λ _. Bool) [ None ↦ false | Some rest ↦ bytes_eq (str_to_ascii_lowercase text) rest ]) = elim [
      | true ↦ word_without bs text word
      | false ↦ refl
    ] in
    step (nat_eq (to_ascii_lowercase b) c)

pub word_some : (s : List ℕ) (found : List ℕ × List ℕ) (word rest : List ℕ) → Some found ≡ part_at None s → Some rest ≡ without found.0 word
    → is_word found.1 rest ≡ is_word s word
word_some s found word rest e w =
    sym (ap (λ (r : List ℕ × List ℕ). bytes_eq (str_to_ascii_lowercase r.0) word) (run_some None s found e)
    ∙ (word_without found.0 (run_at None found.1).0 word
    ∙ ap (λ (o : Option (List ℕ)). elim o as (λ _. Bool) [ None ↦ false | Some rest ↦ bytes_eq (str_to_ascii_lowercase (run_at None found.1).0) rest ]) (sym w)))

pub word_other : (s : List ℕ) (found : List ℕ × List ℕ) (word : List ℕ) → Some found ≡ part_at None s → None ≡ without found.0 word → is_word s word ≡ false
word_other s found word e w =
    ap (λ (r : List ℕ × List ℕ). bytes_eq (str_to_ascii_lowercase r.0) word) (run_some None s found e)
    ∙ (word_without found.0 (run_at None found.1).0 word
    ∙ ap (λ (o : Option (List ℕ)). elim o as (λ _. Bool) [ None ↦ false | Some rest ↦ bytes_eq (str_to_ascii_lowercase (run_at None found.1).0) rest ]) (sym w))

ends_empty : (word : List ℕ) → bytes_eq [] word ≡ (length word == 0)
ends_empty [] = refl
ends_empty (c ∷ word) = let no : (length (c ∷ word) == 0) ≡ false = grind arith in sym no

pub word_end : (s word : List ℕ) → None ≡ part_at None s → is_word s word ≡ (length word == 0)
word_end s word e =
    ap (λ (r : List ℕ × List ℕ). bytes_eq (str_to_ascii_lowercase r.0) word) (run_none None s e)
    ∙ ends_empty word
