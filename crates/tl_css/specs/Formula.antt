-- The formulas `a n + b` of CSS Syntax.
use Rattle.std.specs.Prelude.{ℕ, ℤ, pos, neg_ℤ, Bool, not, ◌&&◌, ◌||◌, ◌==◌, nat_lt, if◌then◌else◌, List, [], ◌∷◌, length, take, drop, codes, Ok}
use Rattle.std.specs.Char.{is_ascii_digit}
use Rattle.std.specs.List.{take_while}
use Rattle.std.specs.Str.{byte, str_eq_ignore_ascii_case}
use Rattle.tl_spec.specs.Lex.Runs.{drop_while}
use Rattle.tl_css.specs.declared.error.Cause.TheVariants.{NoFormula, LargeNumber}
use Rattle.tl_css.specs.declared.selector.Formula.{Formula}
use Rattle.tl_css.specs.Bytes.{decimal_number}
use Rattle.tl_css.specs.Read.{Read, wrong, ◌>>=◌}
use Rattle.tl_css.specs.Lexical.{begins, begins_name, gap_at}

-- the largest number that a formula may have
abbrev pub largest : ℕ
largest = 2147483647

abbrev pub digits_by : List ℕ → List ℕ → Read ℕ
digits_by s [] = wrong s NoFormula
digits_by s (d ∷ ds) = if nat_lt largest (decimal_number 0 (d ∷ ds)) then wrong s LargeNumber
    else Ok (decimal_number 0 (d ∷ ds), drop_while is_ascii_digit s)

-- a number of digits
abbrev pub digits_at : List ℕ → Read ℕ
digits_at s = digits_by s (take_while is_ascii_digit s)

abbrev pub is_n : ℕ → Bool
is_n b = (b == byte "n") || (b == byte "N")

abbrev pub is_sign : ℕ → Bool
is_sign b = (b == byte "+") || (b == byte "-")

abbrev pub with_sign : Bool → ℕ → ℤ
with_sign minus n = if minus then neg_ℤ (pos n) else pos n

-- whether a `-` stands first, and what stands after the sign that may stand there
abbrev pub sign_at : List ℕ → Bool × List ℕ
sign_at s = (begins (λ b. b == byte "-") s, if begins is_sign s then drop 1 s else s)

-- `even` or `odd` in any case, without escapes, and nothing more of a name
abbrev pub begins_keyword : List ℕ → List ℕ → Bool
begins_keyword word s =
    str_eq_ignore_ascii_case (take (length word) s) word && not (begins_name (drop (length word) s))

-- a formula ends where no name goes on
abbrev pub end_formula : ℤ → ℤ → List ℕ → Read Formula
end_formula a b s = if begins_name s then wrong s NoFormula else Ok (record { a = a; b = b }, s)

-- after the `n`: a number with its sign, or none; white space may stand around the sign
abbrev pub after_n : ℤ → List ℕ → Read Formula
after_n a s =
    if begins_name s && not (begins (λ b. b == byte "-") s) then wrong s NoFormula
    else (gap_at s >>= λ gap.
    (if begins is_sign gap.1 then
    (gap_at (sign_at gap.1).1 >>= λ after. digits_at after.1 >>= λ b.
    end_formula a (with_sign (sign_at gap.1).0 b.0) b.1)
    else Ok (record { a = a; b = pos 0 }, s)))

-- after the sign: a number, an `n` or both
abbrev pub terms_at : Bool → List ℕ → Read Formula
terms_at minus s =
    if begins is_n s then after_n (with_sign minus 1) (drop 1 s)
    else (digits_at s >>= λ a.
    (if begins is_n a.1 then after_n (with_sign minus a.0) (drop 1 a.1)
    else end_formula (pos 0) (with_sign minus a.0) a.1))

abbrev pub formula_at : List ℕ → Read Formula
formula_at s =
    if begins_keyword (codes "even") s then Ok (record { a = pos 2; b = pos 0 }, drop 4 s)
    else (if begins_keyword (codes "odd") s then Ok (record { a = pos 2; b = pos 1 }, drop 3 s)
    else terms_at (sign_at s).0 (sign_at s).1)
