-- What stands after something that is read is no longer than what it stands at the front of.
use Rattle.std.proofs.Common.{◌≡◌, ℕ, ◌<◌, ◌≤◌, List, [], ◌∷◌, length, drop, Bool, true, false, not, ◌&&◌, ◌==◌, nat_lt, Option, Some, None, is_some, Result, Ok, Err, IfSome, refl, ap, sym, subst, arith, codes, ℤ, pos}
use Rattle.std.specs.Prelude.{IfOk}
use Rattle.std.specs.Str.{byte}
use Rattle.std.specs.List.{take_while}
use Rattle.std.specs.Char.{is_ascii_digit}
use Rattle.tl_spec.specs.Lex.ByteClass.{is_quote}
use Rattle.tl_spec.specs.Lex.Runs.{read_many, drop_while}
use Rattle.tl_spec.proofs.Lex.Bytes.{drop-le, drop_while-le}
use Rattle.tl_spec.proofs.Lex.Shrinks.{if_both, many-le}
use Rattle.tl_css.specs.declared.error.Wrong.{Wrong}
use Rattle.tl_css.specs.declared.error.Cause.TheVariants.{Unclosed}
use Rattle.tl_css.specs.declared.selector.Formula.{Formula}
use Rattle.tl_css.specs.declared.selector.Link.{Link}
use Rattle.tl_css.specs.declared.selector.Way.{Way}
use Rattle.tl_css.specs.declared.selector.Case.{Case}
use Rattle.tl_css.specs.declared.selector.Op.{Op}
use Rattle.tl_css.specs.declared.selector.Space.{Space}
use Rattle.tl_css.specs.declared.text.role.PseudoClass.{PseudoClass}
use Rattle.tl_css.specs.declared.text.role.PseudoClass.TheVariants as p
use Rattle.tl_css.specs.Selector.{Css, Ident, Test, Value}
use Rattle.tl_css.specs.Bytes.{decimal_number}
use Rattle.tl_css.specs.Read.{Read, wrong, ◌>>=◌, after_byte}
use Rattle.tl_css.specs.Lexical.{part_at, run_at, begins, begins_name, name_at, lower_run, is_word, begins_comment, gap_part_at, gap_at, past_comments}
use Rattle.tl_css.specs.Formula.{largest, digits_by, digits_at, is_n, is_sign, sign_at, with_sign, begins_keyword, end_formula, after_n, terms_at, formula_at}
use Rattle.tl_css.specs.Attribute.{starred_by, space_at, key_at, op_of, op_by, op_at, string_by, value_at, flag_at, close_at, match_at, after_key, attribute_at}
use Rattle.tl_css.specs.PseudoClass.{Simple, pseudo_class, begins_argument, whole_at, is_sibling, after_formula, nth_at, argument_at, class_at, class_by, pseudo_at}
use Rattle.tl_css.specs.Item.{simple_at, star_by, type_at, first_at}
use Rattle.tl_css.proofs.Runs.{part_shrinks, gap_shrinks, run_some, past_comments_le}
use Rattle.tl_css.specs.SimpleGrammar.{GapStands}
use Rattle.tl_css.proofs.Leaf.{simple_by, SimpleReads}

abbrev pub Le : {A : Type 0} → ℕ → Read A → Type 0
Le n r = IfOk r (λ p. length p.1 ≤ n)

le_bind : {A B : Type 0} (n k : ℕ) (r : Read A) (f : A × List ℕ → Read B) → Le k r
    → ((p : A × List ℕ) → length p.1 ≤ k → Le n (f p)) → Le n (r >>= f)
le_bind n k (Ok p) f le h = h p le
le_bind n k (Err w) f le h = tt

run_le : (quote : Option ℕ) (s : List ℕ) → length (run_at quote s).1 ≤ length s
unfolding run_at
run_le quote s = many-le (part_at quote) (part_shrinks quote) (length s) s

run_lt : (s : List ℕ) → begins_name s ≡ true → length (run_at None s).1 < length s
run_lt s h =
    let step : (o : Option (List ℕ × List ℕ)) → part_at None s ≡ o → is_some o ≡ true → length (run_at None s).1 < length s = elim [
      | None ↦ λ e some. absurd (cc)
      | Some found ↦ λ e some.
          let less = part_shrinks None s found e in
          let more = run_le None found.1 in
          let same = ap (λ (r : List ℕ × List ℕ). length r.1) (run_some None s found (sym e)) in
          omega arith
    ] in
    step (part_at None s) refl h

pub gap_le : (s : List ℕ) → Le (length s) (gap_at s)
unfolding gap_at
gap_le s =
    let le = many-le gap_part_at gap_shrinks (length s) s in
    if_both (λ (r : Read Bool). Le (length s) r) (begins_comment (read_many gap_part_at (length s) s).1) _ _ (λ _. tt) (λ _. le)

past_within : (n : ℕ) (s : List ℕ) → length s ≤ n → length (past_comments s) ≤ n
past_within n s h = let le = past_comments_le s in omega arith

gap_within : (n : ℕ) (s : List ℕ) → length s ≤ n → Le n (gap_at s)
gap_within n s h =
    let step : (r : Read Bool) → Le (length s) r → Le n r = elim [ Ok p ↦ λ le. omega arith | Err w ↦ λ le. tt ] in
    step (gap_at s) (gap_le s)

name_within : (n : ℕ) (s : List ℕ) → length s ≤ n → Le n (name_at s)
name_within n s h = let le = run_le None s in if_both (λ (r : Read (List ℕ)). Le n r) (begins_name s) _ _ (λ _. let more : length (run_at None s).1 ≤ n = omega arith in more) (λ _. tt)

-- Attributes

after_byte_le : (b : ℕ) (s : List ℕ) → IfSome (after_byte b s) (λ rest. length rest ≤ length s)
after_byte_le b [] = tt
after_byte_le b (c ∷ s) = if_both (λ (o : Option (List ℕ)). IfSome o (λ rest. length rest ≤ length (c ∷ s))) (c == b) _ _ (λ _. omega arith) (λ _. tt)

-- the same after comments
after_past_le : (b : ℕ) (s : List ℕ) → IfSome (after_byte b (past_comments s)) (λ rest. length rest ≤ length s)
after_past_le b s =
    let le = past_comments_le s in
    let step : (o : Option (List ℕ)) → IfSome o (λ rest. length rest ≤ length (past_comments s)) → IfSome o (λ rest. length rest ≤ length s) = elim [
      | None ↦ λ h. tt
      | Some rest ↦ λ h. omega arith
    ] in
    step (after_byte b (past_comments s)) (after_byte_le b (past_comments s))

starred_le : (n b : ℕ) (s : List ℕ) (o : Option (List ℕ)) → length (b ∷ s) ≤ n → IfSome o (λ rest. length rest ≤ length s)
    → length (starred_by (b ∷ s) o).1 ≤ n
starred_le n b s None h le = h
starred_le n b s (Some rest) h le = past_within n rest (omega arith)

space_le : (n : ℕ) (s : List ℕ) → length s ≤ n → length (space_at s).1 ≤ n
space_le n [] h = h
space_le n (b ∷ s) h =
    let less : length s ≤ n = omega arith in
    if_both (λ (p : Space × List ℕ). length p.1 ≤ n) (b == byte "|") _ _ (λ _. past_within n s less)
    (λ _. if_both (λ (p : Space × List ℕ). length p.1 ≤ n) (b == byte "*") _ _
    (λ _. starred_le n b s (after_byte (byte "|") (past_comments s)) h (after_past_le (byte "|") s)) (λ _. h))

key_le : (n : ℕ) (s : List ℕ) → length s ≤ n → Le n (key_at s)
key_le n s h = le_bind n n (name_at (space_at s).1) _ (name_within n (space_at s).1 (space_le n s h)) (λ p le. le)

op_by_le : (n b : ℕ) (s : List ℕ) (o : Option Op) (r : Option (List ℕ)) → length s ≤ n → IfSome r (λ rest. length rest ≤ length s) → Le n (op_by b s o r)
op_by_le n b s (Some op) (Some rest) h le = omega arith
op_by_le n b s None (Some rest) h le = tt
op_by_le n b s (Some op) None h le = if_both (λ (r : Read Op). Le n r) (b == byte "|") _ _ (λ _. tt) (λ _. tt)
op_by_le n b s None None h le = if_both (λ (r : Read Op). Le n r) (b == byte "|") _ _ (λ _. tt) (λ _. tt)

op_le : (n : ℕ) (s : List ℕ) → length s ≤ n → Le n (op_at s)
op_le n [] h = tt
op_le n (b ∷ s) h =
    let less : length s ≤ n = omega arith in
    if_both (λ (r : Read Op). Le n r) (b == byte "=") _ _ (λ _. less) (λ _. op_by_le n b s (op_of b) (after_byte (byte "=") s) less (after_byte_le (byte "=") s))

string_le : (n : ℕ) (s : List ℕ) (quote : ℕ) (run : List ℕ × List ℕ) → length run.1 ≤ n → Le n (string_by s quote run)
string_le n s quote run h =
    let step : (o : Option (List ℕ)) → IfSome o (λ rest. length rest ≤ length run.1)
    → Le n (elim o as (λ _. Read (List ℕ)) [ None ↦ wrong s Unclosed | Some rest ↦ Ok (run.0, rest) ]) = elim [
      | None ↦ λ le. tt
      | Some rest ↦ λ le. omega arith
    ] in
    step (after_byte quote run.1) (after_byte_le quote run.1)

value_le : (n opened : ℕ) (s : List ℕ) → length s ≤ n → Le n (value_at opened s)
value_le n opened [] h = tt
value_le n opened (b ∷ s) h =
    let string = run_le (Some b) s in
    let name = run_le None (b ∷ s) in
    let some : length (run_at None (b ∷ s)).1 ≤ n = omega arith in
    if_both (λ (r : Read (List ℕ)). Le n r) (is_quote b) _ _ (λ _. string_le n (b ∷ s) b (run_at (Some b) s) (omega arith))
    (λ _. if_both (λ (r : Read (List ℕ)). Le n r) (begins_name (b ∷ s)) _ _ (λ _. some) (λ _. tt))

flag_le : (n : ℕ) (s : List ℕ) → length s ≤ n → Le n (flag_at s)
flag_le n s h =
    let name = run_le None s in
    let some : length (run_at None s).1 ≤ n = omega arith in
    if_both (λ (r : Read Case). Le n r) (begins_name s) _ _
    (λ _. if_both (λ (r : Read Case). Le n r) (is_word s (codes "i")) _ _ (λ _. some)
    (λ _. if_both (λ (r : Read Case). Le n r) (is_word s (codes "s")) _ _ (λ _. some) (λ _. tt)))
    (λ _. h)

close_le : (n opened : ℕ) (s : List ℕ) (t : Test) → length s ≤ n → Le n (close_at opened s >>= λ rest. Ok (t, rest))
close_le n opened [] t h = tt
close_le n opened (b ∷ s) t h =
    let less : length s ≤ n = omega arith in
    if_both (λ (r : Result (List ℕ) Wrong). Le n (r >>= λ rest. Ok (t, rest))) (b == byte "]") _ _ (λ _. less) (λ _. tt)

match_le : (n opened : ℕ) (key : Space × Ident) (op : Op) (s : List ℕ) → length s ≤ n → Le n (match_at opened key op s)
match_le n opened key op s h =
    le_bind n n (gap_at s) _ (gap_within n s h) (λ a ha.
    le_bind n n (value_at opened a.1) _ (value_le n opened a.1 ha) (λ value hv.
    le_bind n n (gap_at value.1) _ (gap_within n value.1 hv) (λ b hb.
    le_bind n n (flag_at b.1) _ (flag_le n b.1 hb) (λ case hf.
    le_bind n n (gap_at case.1) _ (gap_within n case.1 hf) (λ c hc.
    close_le n opened c.1 (Value key.0 key.1 op value.0 case.0) hc)))))

after_key_le : (n opened : ℕ) (key : Space × Ident) (s : List ℕ) → length s ≤ n → Le n (after_key opened key s)
after_key_le n opened key [] h = tt
after_key_le n opened key (b ∷ s) h =
    let less : length s ≤ n = omega arith in
    if_both (λ (r : Read Test). Le n r) (b == byte "]") _ _ (λ _. less)
    (λ _. le_bind n n (op_at (b ∷ s)) _ (op_le n (b ∷ s) h) (λ op ho. match_le n opened key op.0 op.1 ho))

attribute_le : (n opened : ℕ) (s : List ℕ) → length s ≤ n → Le n (attribute_at opened s)
attribute_le n opened s h =
    le_bind n n (gap_at s) _ (gap_within n s h) (λ a ha.
    le_bind n n (key_at a.1) _ (key_le n a.1 ha) (λ key hk.
    le_bind n n (gap_at key.1) _ (gap_within n key.1 hk) (λ b hb.
    after_key_le n opened key.0 b.1 hb)))

-- Formulas

digits_by_le : (n : ℕ) (s ds : List ℕ) → length s ≤ n → Le n (digits_by s ds)
digits_by_le n s [] h = tt
digits_by_le n s (d ∷ ds) h =
    let le = drop_while-le is_ascii_digit s in
    let less : length (drop_while is_ascii_digit s) ≤ n = omega arith in
    if_both (λ (r : Read ℕ). Le n r) (nat_lt largest (decimal_number 0 (d ∷ ds))) _ _ (λ _. tt) (λ _. less)

drop_within : (n k : ℕ) (s : List ℕ) → length s ≤ n → length (drop k s) ≤ n
drop_within n k s h = let le = drop-le k s in omega arith

sign_le : (n : ℕ) (s : List ℕ) → length s ≤ n → length (sign_at s).1 ≤ n
sign_le n s h = if_both (λ (v : List ℕ). length v ≤ n) (begins is_sign s) _ _ (λ _. drop_within n 1 s h) (λ _. h)

end_le : (n : ℕ) (a b : ℤ) (s : List ℕ) → length s ≤ n → Le n (end_formula a b s)
end_le n a b s h = if_both (λ (r : Read Formula). Le n r) (begins_name s) _ _ (λ _. tt) (λ _. h)

after_n_le : (n : ℕ) (a : ℤ) (s : List ℕ) → length s ≤ n → Le n (after_n a s)
after_n_le n a s h = if_both (λ (r : Read Formula). Le n r) (begins_name s && not (begins (λ b. b == byte "-") s)) _ _ (λ _. tt)
    (λ _. le_bind n n (gap_at s) _ (gap_within n s h) (λ gap hg.
    if_both (λ (r : Read Formula). Le n r) (begins is_sign gap.1) _ _
    (λ _. le_bind n n (gap_at (sign_at gap.1).1) _ (gap_within n (sign_at gap.1).1 (sign_le n gap.1 hg)) (λ after ha.
    le_bind n n (digits_at after.1) _ (digits_by_le n after.1 (take_while is_ascii_digit after.1) ha) (λ b hb.
    end_le n a (with_sign (sign_at gap.1).0 b.0) b.1 hb)))
    (λ _. h)))

terms_le : (n : ℕ) (minus : Bool) (s : List ℕ) → length s ≤ n → Le n (terms_at minus s)
terms_le n minus s h = if_both (λ (r : Read Formula). Le n r) (begins is_n s) _ _ (λ _. after_n_le n (with_sign minus 1) (drop 1 s) (drop_within n 1 s h))
    (λ _. le_bind n n (digits_at s) _ (digits_by_le n s (take_while is_ascii_digit s) h) (λ a ha.
    if_both (λ (r : Read Formula). Le n r) (begins is_n a.1) _ _
    (λ _. after_n_le n (with_sign minus a.0) (drop 1 a.1) (drop_within n 1 a.1 ha))
    (λ _. end_le n (pos 0) (with_sign minus a.0) a.1 ha)))

formula_le : (n : ℕ) (s : List ℕ) → length s ≤ n → Le n (formula_at s)
formula_le n s h = if_both (λ (r : Read Formula). Le n r) (begins_keyword (codes "even") s) _ _ (λ _. drop_within n 4 s h)
    (λ _. if_both (λ (r : Read Formula). Le n r) (begins_keyword (codes "odd") s) _ _ (λ _. drop_within n 3 s h)
    (λ _. terms_le n (sign_at s).0 (sign_at s).1 (sign_le n s h)))

-- Pseudo-classes

whole_le : (n : ℕ) (e : Css) (s : List ℕ) → length s ≤ n → Le n (whole_at e s)
whole_le n e s h = if_both (λ (r : Read Simple). Le n r) (begins_argument s) _ _ (λ _. tt) (λ _. h)

after_formula_le : (n opened : ℕ) (way : Way) (link : Link) (formula : Formula) (spaced : Bool) (s : List ℕ) → length s ≤ n
    → Le n (after_formula opened way link formula spaced s)
after_formula_le n opened way link formula spaced [] h = tt
after_formula_le n opened way link formula spaced (b ∷ s) h =
    let less : length s ≤ n = omega arith in
    let name = run_le None (b ∷ s) in
    let some : length (run_at None (b ∷ s)).1 ≤ n = omega arith in
    if_both (λ (r : Read Simple). Le n r) (b == byte ")") _ _ (λ _. less)
    (λ _. if_both (λ (r : Read Simple). Le n r) (spaced && (is_sibling link && is_word (b ∷ s) (codes "of"))) _ _ (λ _. some) (λ _. tt))

nth_le : (n opened : ℕ) (way : Way) (link : Link) (s : List ℕ) → length s ≤ n → Le n (nth_at opened way link s)
nth_le n opened way link s h =
    le_bind n n (gap_at s) _ (gap_within n s h) (λ gap hg.
    if_both (λ (r : Read Simple). Le n r) (length gap.1 == 0) _ _ (λ _. tt)
    (λ _. le_bind n n (formula_at gap.1) _ (formula_le n gap.1 hg) (λ formula hf.
    le_bind n n (gap_at formula.1) _ (gap_within n formula.1 hf) (λ rest hr.
    after_formula_le n opened way link formula.0 rest.0 rest.1 hr))))

argument_le : (n : ℕ) (s : List ℕ) → length s ≤ n → Le n (argument_at s)
argument_le n s h = if_both (λ (r : Read ℕ). Le n r) (begins_argument s) _ _ (λ _. drop_within n 1 s h) (λ _. tt)

class_le : (n : ℕ) (class : PseudoClass) (s : List ℕ) → length s ≤ n → Le n (class_at class s)
class_le n (p.Edge way link) s h = whole_le n _ s h
class_le n (p.Only link) s h = whole_le n _ s h
class_le n (p.Outermost anchor) s h = whole_le n _ s h
class_le n p.Empty s h = whole_le n _ s h
class_le n (p.List role) s h = le_bind n n (argument_at s) _ (argument_le n s h) (λ opened ho. ho)
class_le n (p.Nth way link) s h = le_bind n n (argument_at s) _ (argument_le n s h) (λ opened ho. nth_le n opened.0 way link opened.1 ho)

by_le : (n : ℕ) (class : Option PseudoClass) (word s : List ℕ) → length s ≤ n → Le n (class_by class word s)
by_le n None word s h = tt
by_le n (Some class) word s h = class_le n class s h

pseudo_le : (n : ℕ) (colon s : List ℕ) → length s ≤ n → Le n (pseudo_at colon s)
pseudo_le n colon s h = if_both (λ (r : Read Simple). Le n r) (begins (λ b. b == byte ":") s) _ _ (λ _. tt)
    (λ _. le_bind n n (name_at s) _ (name_within n s h) (λ name hn. by_le n (pseudo_class (lower_run s)) s name.1 hn))

simple_le : (b : ℕ) (s : List ℕ) → Le (length s) (simple_at (b ∷ s))
simple_le b s =
    let n = length s in
    let same : length s ≤ n = omega arith in
    if_both (λ (r : Read Simple). Le n r) (b == byte ":") _ _ (λ _. pseudo_le n (b ∷ s) (past_comments s) (past_within n s same))
    (λ _. if_both (λ (r : Read Simple). Le n r) (b == byte "[") _ _ (λ _. le_bind n n (attribute_at (length (b ∷ s)) s) _ (attribute_le n (length (b ∷ s)) s same) (λ p le. le))
    (λ _. if_both (λ (r : Read Simple). Le n r) (b == byte "#") _ _ (λ _. le_bind n n (name_at s) _ (name_within n s same) (λ p le. le))
    (λ _. if_both (λ (r : Read Simple). Le n r) (b == byte ".") _ _
    (λ _. le_bind n n (name_at (past_comments s)) _ (name_within n (past_comments s) (past_within n s same)) (λ p le. le))
    (λ _. if_both (λ (r : Read Simple). Le n r) (b == byte "&") _ _ (λ _. same) (λ _. tt)))))

type_le : (n : ℕ) (s : List ℕ) → length s ≤ n → Le n (type_at s)
type_le n [] h = tt
type_le n (b ∷ s) h =
    let less : length s ≤ n = omega arith in
    if_both (λ (r : Read Test). Le n r) (b == byte "*") _ _ (λ _. less) (λ _. le_bind n n (name_at (b ∷ s)) _ (name_within n (b ∷ s) h) (λ p le. le))

star_le : (n : ℕ) (s : List ℕ) (o : Option (List ℕ)) → length s ≤ n → IfSome o (λ rest. length rest ≤ length s) → Le n (star_by s o)
star_le n s None h le = h
star_le n s (Some rest) h le = le_bind n n (type_at (past_comments rest)) _ (type_le n (past_comments rest) (past_within n rest (omega arith))) (λ p less. less)

first_le : (b : ℕ) (s : List ℕ) → Le (length s) (first_at (b ∷ s))
first_le b s =
    let n = length s in
    let same : length s ≤ n = omega arith in
    if_both (λ (r : Read Simple). Le n r) (b == byte "*") _ _ (λ _. star_le n s (after_byte (byte "|") (past_comments s)) same (after_past_le (byte "|") s))
    (λ _. if_both (λ (r : Read Simple). Le n r) (b == byte "|") _ _
    (λ _. le_bind n n (type_at (past_comments s)) _ (type_le n (past_comments s) (past_within n s same)) (λ p le. le))
    (λ _. if_both (λ (r : Read Simple). Le n r) (begins_name (b ∷ s)) _ _
    (λ e. let less = run_lt (b ∷ s) e in let le : length (run_at None (b ∷ s)).1 ≤ n = omega arith in le) (λ _. simple_le b s)))

by_which_le : (first : Bool) (b : ℕ) (s : List ℕ) → Le (length s) (simple_by first (b ∷ s))
by_which_le true b s = first_le b s
by_which_le false b s = simple_le b s

no_part : (first : Bool) (x : Simple) (rest : List ℕ) → SimpleReads first [] x rest → ⊥
no_part true x rest h = cc
no_part false x rest h = cc

-- a simple selector takes a byte at least
pub simple_lt : (first : Bool) (s : List ℕ) (x : Simple) (rest : List ℕ) → SimpleReads first s x rest → length rest < length s
simple_lt first [] x rest h = absurd (no_part first x rest h)
simple_lt first (b ∷ s) x rest h =
    let le : length rest ≤ length s = subst (λ (r : Read Simple). Le (length s) r) h (by_which_le first b s) in
    omega arith

pub gap_stands_le : (s : List ℕ) (w : Bool) (rest : List ℕ) → GapStands s w rest → length rest ≤ length s
gap_stands_le s w rest h = subst (λ (r : Read Bool). Le (length s) r) h (gap_le s)
