use Rattle.std.proofs.Common.{◌≡◌, ◌↔◌, List, subst, true, ℕ}
use Rattle.std.specs.Prelude.{⊤}
use Rattle.tl_css.specs.declared.selector.Space.TheVariants.{Every}
use Rattle.tl_tree_select.specs.Meaning.{HasAttribute}
use Rattle.tl_tree_select.specs.Page.{seen}
use Rattle.tl_tree_select.proofs.attribute.has_some_key.Goals as goal

pub returns : goal.returns
returns c =
    subst (λ (key : List ℕ). (c.has_key_somewhere.result ≡ true) ↔ HasAttribute (seen c.args.page.now) (λ own. ⊤) Every key c.args.number)
    c.spelled_at.ensures c.has_key_somewhere.ensures
