use Rattle.std.proofs.Common.{List, ℕ, subst, sym}
use Rattle.tl_tree_select.specs.Page.{seen}
use Rattle.tl_tree_select.specs.Inner.Kin.{AreLinksOf}
use Rattle.tl_tree_select.proofs.stack.count.Goals as goal

pub terms-requires : goal.terms-requires
terms-requires c =
    let page = seen c.args.page.now in
    record { links = subst (λ (ls : List ℕ). AreLinksOf page c.args.sequence.1 ls) (sym c.links.ensures) c.requires.links }
