-- Columns of marks, step by step.
use Rattle.std.proofs.Common.{◌≡◌, Bool, true, false, List, [], ◌∷◌, ◌++◌, length, map, reverse, sym, ap, ◌∙◌, arith, refl, subst, Vec, Global}
use Rattle.std.proofs.lemmas.List.{map-append, reverse-append}
use Rattle.tl_tree_select.specs.Page.{Page}
use Rattle.tl_css.specs.Selector.{Css}
use Rattle.tl_css.specs.Program.{meet, unite}
use Rattle.tl_tree_select.specs.Inner.Columns.{AreColumns, AreMarks, columns_of, join, joined}

abbrev Held : Type 0
Held = List (Vec Bool Global)

pub columns_push : (held : List (Vec Bool Global)) (marks : Vec Bool Global) → columns_of (held ++ marks ∷ []) ≡ marks.items ∷ columns_of held
columns_push held marks =
    let f : Vec Bool Global → List Bool = λ v. v.items in
    ap (λ (xs : List (List Bool)). reverse xs) (map-append f held (marks ∷ [])) ∙ reverse-append (map f held) (marks.items ∷ [])

-- where no column is held no selector waits
none_waits : (page : Page) (es : List Css) → AreColumns page es [] → es ≡ []
none_waits page [] h = refl
none_waits page (e ∷ es) h = absurd h

pub none_left : (page : Page) (es : List Css) (held : List (Vec Bool Global)) → length held ≡ 0 → AreColumns page es (columns_of held) → es ≡ []
none_left page es [] e h = none_waits page es h
none_left page es (v ∷ held) e h = absurd (omega (arith, e))

pub empty : (held : List (Vec Bool Global)) → length held ≡ 0 → held ≡ []
empty [] e = refl
empty (v ∷ held) e = absurd (omega (arith, e))

-- the last selector and its column
pub record Last (page : Page) (es : List Css) (marks : List Bool) (columns : List (List Bool)) : Type 0 where
  pub first : Css
  pub others : List Css
  pub are : es ≡ first ∷ others
  pub marked : AreMarks page first marks
  pub left : AreColumns page others columns

last_of : (page : Page) (es : List Css) (marks : List Bool) (columns : List (List Bool)) → AreColumns page es (marks ∷ columns) → Last page es marks columns
last_of page [] marks columns h = absurd h
last_of page (e ∷ es) marks columns h = record { first = e; others = es; are = refl; marked = h.0; left = h.1 }

pub last_is : (page : Page) (es : List Css) (held left : List (Vec Bool Global)) (marks : Vec Bool Global) → held ≡ left ++ marks ∷ []
    → AreColumns page es (columns_of held) → Last page es marks.items (columns_of left)
last_is page es held left marks e h =
    last_of page es marks.items (columns_of left) (subst (λ (columns : List (List Bool)). AreColumns page es columns) (ap columns_of e ∙ columns_push left marks) h)

-- the last column is another
pub put_back : (page : Page) (es others : List Css) (e : Css) (columns left : List (List Bool)) (marks : List Bool)
    → es ≡ e ∷ others → columns ≡ marks ∷ left → AreMarks page e marks → AreColumns page others left → AreColumns page es columns
put_back page es others e columns left marks are is m h =
    subst (λ (es : List Css). AreColumns page es columns) (sym are)
    (subst (λ (columns : List (List Bool)). AreColumns page (e ∷ others) columns) (sym is) (m, h))

pub join_is : (both : Bool) (es others : List Css) (a b : Css) → es ≡ b ∷ a ∷ others → joined both es ≡ join both a b ∷ others
join_is true es others a b are = ap meet are
join_is false es others a b are = ap unite are
