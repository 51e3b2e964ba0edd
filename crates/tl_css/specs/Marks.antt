-- A selector as a row of marks that gives it back: the code by which proofs tell selectors apart.
use Rattle.std.specs.Prelude.{◌≡◌, List, [], ◌∷◌, refl}
use Rattle.std.proofs.Common.{◌∙◌}
use Rattle.tl_css.specs.declared.selector.Link.{Link}
use Rattle.tl_css.specs.declared.selector.Reach.{Reach}
use Rattle.tl_css.specs.declared.selector.Way.{Way}
use Rattle.tl_css.specs.declared.selector.Formula.{Formula}
use Rattle.tl_css.specs.Selector.{Test, Any, Css, Is, Not, Both, Either, At, Nth}

pub data Mark : Type 0 where
  IsMark : Test → Mark
  NotMark : Mark
  BothMark : Mark
  EitherMark : Mark
  AtMark : Way → Link → Reach → Mark
  NthMark : Way → Link → Formula → Mark

-- the marks of a selector, before others
abbrev pub marks_onto : Css → List Mark → List Mark
marks_onto (Is t) ms = IsMark t ∷ ms
marks_onto (Not e) ms = marks_onto e (NotMark ∷ ms)
marks_onto (Both a b) ms = marks_onto a (marks_onto b (BothMark ∷ ms))
marks_onto (Either a b) ms = marks_onto a (marks_onto b (EitherMark ∷ ms))
marks_onto (At way link reach e) ms = marks_onto e (AtMark way link reach ∷ ms)
marks_onto (Nth way link formula e) ms = marks_onto e (NthMark way link formula ∷ ms)

abbrev pub after_mark : Mark → List Css → List Css
after_mark (IsMark t) es = Is t ∷ es
after_mark NotMark [] = []
after_mark NotMark (e ∷ es) = Not e ∷ es
after_mark BothMark [] = []
after_mark BothMark (b ∷ []) = []
after_mark BothMark (b ∷ a ∷ es) = Both a b ∷ es
after_mark EitherMark [] = []
after_mark EitherMark (b ∷ []) = []
after_mark EitherMark (b ∷ a ∷ es) = Either a b ∷ es
after_mark (AtMark way link reach) [] = []
after_mark (AtMark way link reach) (e ∷ es) = At way link reach e ∷ es
after_mark (NthMark way link formula) [] = []
after_mark (NthMark way link formula) (e ∷ es) = Nth way link formula e ∷ es

abbrev pub after_marks : List Mark → List Css → List Css
after_marks [] es = es
after_marks (m ∷ ms) es = after_marks ms (after_mark m es)

abbrev pub first_or_any : List Css → Css
first_or_any [] = Is Any
first_or_any (e ∷ es) = e

abbrev pub marks_of : Css → List Mark
marks_of e = marks_onto e []

abbrev pub selector_of_marks : List Mark → Css
selector_of_marks ms = first_or_any (after_marks ms [])

pub marks-onto : (e : Css) (ms : List Mark) (es : List Css) →
    after_marks (marks_onto e ms) es ≡ after_marks ms (e ∷ es)
marks-onto (Is t) ms es = refl
marks-onto (Not e) ms es = marks-onto e (NotMark ∷ ms) es
marks-onto (Both a b) ms es =
    marks-onto a (marks_onto b (BothMark ∷ ms)) es ∙ marks-onto b (BothMark ∷ ms) (a ∷ es)
marks-onto (Either a b) ms es =
    marks-onto a (marks_onto b (EitherMark ∷ ms)) es ∙ marks-onto b (EitherMark ∷ ms) (a ∷ es)
marks-onto (At way link reach e) ms es = marks-onto e (AtMark way link reach ∷ ms) es
marks-onto (Nth way link formula e) ms es = marks-onto e (NthMark way link formula ∷ ms) es

pub given_back : (e : Css) → selector_of_marks (marks_of e) ≡ e
given_back e = (λ i. first_or_any (marks-onto e [] [] i))
