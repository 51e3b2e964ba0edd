-- The bytes of a run.
use Rattle.std.proofs.Common.{ap, arith, refl, sym, ◌∙◌, ◌≡◌, ◌+◌, ◌<◌, ◌++◌, ◌∷◌, [], Bool, IsTrue, List, cond, false, filter, get_or, length, suc, take, true, ℕ}
use Rattle.std.proofs.Math.Seq.{take-suc}
use Rattle.std.proofs.lemmas.Bool.{and_from, and_parts, or_parts}
use Rattle.std.specs.Bool.{OnTrue}
use Rattle.std.specs.List.{list_all, list_any}
use Rattle.std.specs.Prelude.{◌==◌, not}
use Rattle.tl_dom_spec.specs.Runs.{with_replacements}
use Rattle.tl_html_spec.specs.HtmlTokenizer.{replacement}
use Rattle.tl_tree.proofs.Sought.{is-shut}
use Rattle.tl_tree.specs.Inner.RunBytes.{is_not_null}

pub no_null : (s : List ℕ) → list_any (λ c. c == 0) s ≡ false → IsTrue (list_all is_not_null s)
no_null [] none = refl
no_null (x ∷ xs) none =
    let p = or_parts (x == 0) (list_any (λ c. c == 0) xs) none in
    and_from (not (x == 0)) (list_all is_not_null xs) (ap not p.0) (no_null xs p.1)

-- where any passes, all pass
pub all-any : {A : Type 0} (test : A → Bool) → ((x : A) → test x ≡ true) → (xs : List A) → list_all test xs ≡ true
all-any test any [] = refl
all-any test any (x ∷ xs) = and_from (test x) (list_all test xs) (any x) (all-any test any xs)

-- where all pass, all are kept
pub filter-as : {A : Type 0} (test other : A → Bool) → ((x : A) → test x ≡ other x) → (xs : List A) → list_all other xs ≡ true → filter test xs ≡ xs
filter-as test other same [] all = refl
filter-as test other same (x ∷ xs) all =
    let p = and_parts (other x) (list_all other xs) all in
    ap (λ b. cond b (x ∷ filter test xs) (filter test xs)) (same x ∙ p.0) ∙ ap (λ more. x ∷ more) (filter-as test other same xs p.1)

pub on-true : {P Q : Type 0} (b : Bool) → (P → Q) → OnTrue b P → OnTrue b Q
on-true true f p = f p
on-true false f p = p

pub on-equal : {Q : Type 0} (b x : Bool) → b ≡ x → (x ≡ true → Q) → OnTrue b Q
on-equal true x e f = f (sym e)
on-equal false x e f = tt

pub on-each : {Q : Type 0} (P : ℕ → Type 0) (b : Bool) → (((c : ℕ) → P c) → Q) → ((c : ℕ) → OnTrue b (P c)) → OnTrue b Q
on-each P true f h = f h
on-each P false f h = tt

one-more : (b : Bool) (x : ℕ) (all one more : List ℕ) → all ≡ one ++ more → cond b (replacement ++ all) (x ∷ all) ≡ cond b (replacement ++ one) (x ∷ one) ++ more
one-more true x all one more e = ap (λ own. replacement ++ own) e
one-more false x all one more e = ap (λ own. x ∷ own) e

replaced-append : (xs ys : List ℕ) → with_replacements (xs ++ ys) ≡ with_replacements xs ++ with_replacements ys
replaced-append [] ys = refl
replaced-append (x ∷ xs) ys =
    one-more (x == 0) x (with_replacements (xs ++ ys)) (with_replacements xs) (with_replacements ys) (replaced-append xs ys)

pub replaced-more : (xs : List ℕ) (i d : ℕ) → i < length xs → with_replacements (take (i + 1) xs) ≡ with_replacements (take i xs) ++ with_replacements (get_or xs i d ∷ [])
replaced-more xs i d h =
    let next : i + 1 ≡ suc i = omega arith in
    ap (λ n. with_replacements (take n xs)) next ∙ ap with_replacements (take-suc xs i d h)
    ∙ replaced-append (take i xs) (get_or xs i d ∷ [])

-- without a NUL nothing is replaced
pub replaced-none : (xs : List ℕ) → IsTrue (list_all is_not_null xs) → with_replacements xs ≡ xs
replaced-none [] h = refl
replaced-none (x ∷ xs) h =
    let p = and_parts (is_not_null x) (list_all is_not_null xs) h in
    ap (λ b. cond b (replacement ++ with_replacements xs) (x ∷ with_replacements xs)) (is-shut (x == 0) p.0)
    ∙ ap (λ more. x ∷ more) (replaced-none xs p.1)
