-- What the items are that the reader holds, whose names are not decoded yet.
use Rattle.std.specs.Prelude.{ℕ, List, None}
use Rattle.tl_css.specs.declared.text.attribute.Run.{Run}
use Rattle.tl_css.specs.declared.text.attribute.TestText.{TestText}
use Rattle.tl_css.specs.declared.text.attribute.TestText.TheVariants as t
use Rattle.tl_css.specs.declared.text.pseudo_class.Whole.{Whole}
use Rattle.tl_css.specs.declared.text.pseudo_class.Whole.TheVariants as w
use Rattle.tl_css.specs.declared.text.pseudo_class.Simple.{Simple}
use Rattle.tl_css.specs.declared.text.pseudo_class.Simple.TheVariants as p
use Rattle.tl_css.specs.Selector.{Test, Any, Name, Id, Class, Key, Value, Empty, May, Css, Is, Nth}
use Rattle.tl_css.specs.Lexical.{run_at, ident_run}
use Rattle.tl_css.specs.PseudoClass as s
use Rattle.tl_css.specs.PseudoClass.{edge, nowhere, only, outermost}

abbrev pub run_text : Run → List ℕ
run_text run = (run_at run.quote run.text.now).0

abbrev pub test_text : TestText → Test
test_text t.Any = Any
test_text (t.Name name) = Name (ident_run name.now)
test_text (t.Id id) = Id (run_at None id.now).0
test_text (t.Class class) = Class (run_at None class.now).0
test_text (t.Key space key) = Key space (ident_run key.now)
test_text (t.Value space key op value case) =
    Value space (ident_run key.now) op (run_text value) case
test_text t.Empty = Empty

abbrev pub whole : Whole → Css
whole (w.Test test) = Is (test_text test)
whole (w.Edge way link) = edge way link
whole (w.Only link) = only link
whole (w.Outermost anchor) = outermost anchor
whole w.Nowhere = nowhere
whole (w.Nth way link formula) = Nth way link formula (Is Any)

abbrev pub simple : Simple → s.Simple
simple (p.Whole own) = s.Whole (whole own)
simple (p.Opens role left) = s.Opens role left
