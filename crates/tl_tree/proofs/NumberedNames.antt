-- Names by their numbers: what a number says of a name is what its bytes do.
use Rattle.std.proofs.Common.{List, Some, [], ap, arith, cond, false, get_or, inl, inr, length, map, nat_eq, not, refl, sym, true, true≢false, ℕ, Bool, ◌&&◌, ◌++◌, ◌<◌, ◌||◌, ◌∙◌, ◌∷◌, ◌≡◌}
use Rattle.std.proofs.lemmas.Bool.{and_parts, cases_Bool, false_from_ne_true, not-true}
use Rattle.std.proofs.lemmas.Slice.Eq.{bytes_eq-Decides}
use Rattle.std.specs.List.{list_all, list_any}
use Rattle.std.specs.Prelude.{replicate}
use Rattle.std.specs.Str.{bytes_eq}
use Rattle.tl_html_spec.specs.Balanced.{is_one_of, words}
use Rattle.tl_names.proofs.ElementNames.{by_row, name_of_other, same_number}
use Rattle.tl_names.proofs.TagSets.{class_of_name}
use Rattle.tl_names.specs.ElementNames.{element_names, name_of}
use Rattle.tl_names.specs.Elements.{is_among}
use Rattle.tl_names.specs.TagSets.{is_of, names_in}
use Rattle.tl_names.specs.declared.class.Class.{Class}
use Rattle.tl_names.specs.declared.element_name.ElementName.{ElementName}
use Rattle.tl_tree.proofs.Written.{all-at}
use Rattle.tl_tree.specs.Inner.MetNames.{in_lower_case, lowered_number, number_among, number_in}
use Rattle.tl_tree.specs.Inner.NameLists.{list_of}
use Rattle.tl_tree.specs.declared.names.Names.{Names}
use Rattle.tl_tree.specs.declared.names.Names.TheVariants as N
use Rattle.tl_tree.specs.declared.met_names.MetNames.{MetNames}
use Rattle.tl_tree.specs.declared.met_names.TheConstants.{KNOWN_NUMBERS}

-- Classes, and single names

pub class-told : (class : Class) (name : ElementName) (n : List ℕ) → name ≡ name_of n → is_of class name ≡ is_among (names_in class) n
class-told class name n e = ap (is_of class) e ∙ class_of_name class n

-- an element of a namespace, where it is of that
pub in-space : (r own c b : Bool) → r ≡ own → r ≡ true → c ≡ b → c ≡ (own && b)
in-space r own c b is holds e = e ∙ ap (λ x. x && b) (sym holds ∙ is)

turned : (x n : List ℕ) → bytes_eq x n ≡ bytes_eq n x
turned x n = elim (cases_Bool (bytes_eq x n)) [
  | inl y ↦ y ∙ sym ((bytes_eq-Decides n x).1 (sym ((bytes_eq-Decides x n).0 y)))
  | inr o ↦ o ∙ sym (false_from_ne_true (bytes_eq n x) (λ y. true≢false (sym ((bytes_eq-Decides x n).1 (sym ((bytes_eq-Decides n x).0 y))) ∙ o)))
]

pub one-told : (x : List ℕ) (name : ElementName) (n : List ℕ) → is_among element_names x ≡ true → name ≡ name_of n → nat_eq name.number (name_of x).number ≡ bytes_eq n x
one-told x name n listed e =
    ap (λ (own : ElementName). nat_eq own.number (name_of x).number) e ∙ (same_number x n listed ∙ turned x n)

-- a name that has a number of its own
pub known-among : (name : ElementName) (n : List ℕ) → name ≡ name_of n → nat_eq name.number 159 ≡ false → is_among element_names n ≡ true
known-among name n e other = by-listed (is_among element_names n) refl
  where
    by-listed : (b : Bool) → is_among element_names n ≡ b → b ≡ true
    by-listed true m = refl
    by-listed false m =
        absurd (true≢false (ap (λ (own : ElementName). nat_eq own.number 159) (name_of_other n m ∙ sym e) ∙ other))

-- Lists

-- by computing, each name of a list has a number
pub each-listed : (names : Names) → list_all (is_among element_names) (words (list_of names)) ≡ true
unfolding element_names
each-listed N.Body = refl
each-listed N.Button = refl
each-listed N.Caption = refl
each-listed N.Colgroup = refl
each-listed N.Dd = refl
each-listed N.Dt = refl
each-listed N.Form = refl
each-listed N.Frameset = refl
each-listed N.Head = refl
each-listed N.Li = refl
each-listed N.Optgroup = refl
each-listed N.Option = refl
each-listed N.Paragraph = refl
each-listed N.Rtc = refl
each-listed N.Ruby = refl
each-listed N.Select = refl
each-listed N.Table = refl
each-listed N.Template = refl
each-listed N.Row = refl
each-listed N.Cells = refl
each-listed N.Headings = refl
each-listed N.Lists = refl
each-listed N.FosterTargets = refl
each-listed N.Sections = refl
each-listed N.TableScope = refl
each-listed N.TableContext = refl
each-listed N.BodyContext = refl
each-listed N.RowContext = refl

any-told : (xs : List (List ℕ)) (name : ElementName) (n : List ℕ) → list_all (is_among element_names) xs ≡ true → name ≡ name_of n → list_any (λ (own : ElementName). nat_eq name.number own.number) (map name_of xs) ≡ list_any (bytes_eq n) xs
any-told [] name n all e = refl
any-told (x ∷ xs) name n all e =
    let p = and_parts (is_among element_names x) (list_all (is_among element_names) xs) all in
    ap (λ b. b || list_any (λ (own : ElementName). nat_eq name.number own.number) (map name_of xs)) (one-told x name n p.0 e)
    ∙ ap (λ b. bytes_eq n x || b) (any-told xs name n p.1 e)

pub list-told : (names : Names) (members : List ElementName) (name : ElementName) (n : List ℕ) → members ≡ map name_of (words (list_of names)) → name ≡ name_of n → list_any (λ (own : ElementName). nat_eq name.number own.number) members ≡ is_one_of (list_of names) n
list-told names members name n is e =
    ap (list_any (λ (own : ElementName). nat_eq name.number own.number)) is
    ∙ any-told (words (list_of names)) name n (each-listed names) e

-- Numbers of names in any case

abbrev cased-number : List ℕ → ℕ
cased-number n = cond (is_among element_names n) (name_of (in_lower_case n)).number 0

-- by computing
each-number : map (λ (k : ℕ). k) KNOWN_NUMBERS ≡ map cased-number (element_names ++ replicate 97 [])
unfolding element_names name_of
each-number = refl

other-number : (n : List ℕ) → is_among element_names n ≡ false → cased-number n ≡ cased-number []
unfolding element_names
other-number n m = ap (λ b. cond b (name_of (in_lower_case n)).number 0) m

pub number-told : (name : ElementName) (n : List ℕ) → is_among element_names n ≡ true → name ≡ name_of n → get_or KNOWN_NUMBERS name.number 0 ≡ (name_of (in_lower_case n)).number
number-told name n listed e =
    ap (λ (own : ElementName). get_or KNOWN_NUMBERS own.number 0) e
    ∙ (by_row (λ (k : ℕ). k) cased-number KNOWN_NUMBERS 0 97 (omega arith) each-number other-number n
    ∙ ap (λ b. cond b (name_of (in_lower_case n)).number 0) listed)

abbrev is_numbered : List ℕ → Bool
is_numbered n = not (nat_eq (name_of (in_lower_case n)).number 159)

-- by computing, each name is one in lower case too
each-lowered : list_all is_numbered element_names ≡ true
unfolding element_names name_of
each-lowered = refl

listed-lowered : (xs : List (List ℕ)) (n : List ℕ) → list_all is_numbered xs ≡ true → is_among xs n ≡ true → is_numbered n ≡ true
listed-lowered [] n all listed = absurd (true≢false (sym listed))
listed-lowered (x ∷ xs) n all listed =
    let p = and_parts (is_numbered x) (list_all is_numbered xs) all in
    elim (cases_Bool (bytes_eq n x)) [
      | inl same ↦ ap is_numbered ((bytes_eq-Decides n x).0 same) ∙ p.0
      | inr other ↦ listed-lowered xs n p.1 (sym (ap (λ b. b || is_among xs n) other) ∙ listed)
    ]

-- the number of a name that is known
pub known-number : (names : MetNames) (n : List ℕ) → is_among element_names n ≡ true → number_in names n ≡ Some (name_of (in_lower_case n)).number
unfolding lowered_number
known-number names n listed =
    ap (λ b. cond b (number_among names.numbers.entries (in_lower_case n)) (Some (name_of (in_lower_case n)).number))
    (not-true (nat_eq (name_of (in_lower_case n)).number 159) (listed-lowered element_names n each-lowered listed))
