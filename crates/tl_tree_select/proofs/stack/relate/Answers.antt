use Rattle.std.proofs.Common.{◌≡◌, List, ℕ, false, rules, subst, sym, true}
use Rattle.tl_css.specs.Selector.{At}
use Rattle.tl_css.specs.declared.selector.Link.{Link}
use Rattle.tl_css.specs.declared.selector.Way.{Way}
use Rattle.tl_css.specs.declared.selector.Way.TheVariants.{From}
use Rattle.tl_tree_select.specs.Inner.Columns.{AreMarks}
use Rattle.tl_tree_select.proofs.Insides.{read_is}
use Rattle.tl_tree_select.specs.Page.{seen}
use Rattle.tl_tree_select.specs.Inner.Kin.{AreLinksOf, is_read}
use Rattle.tl_tree_select.proofs.stack.relate.Goals as goal

pub relatives-requires : goal.relatives-requires
relatives-requires c =
    let page = seen c.args.page.now in
    let kept : is_read c.args.relation.0 c.args.relation.1 ≡ false = search rules in
    record { links = subst (λ (ls : List ℕ). AreLinksOf page c.args.relation.1 ls) (sym c.links.ensures) (c.requires.links kept); kept = kept }

pub returns-then-is_read : goal.returns-then-is_read
returns-then-is_read c e are =
    let page = seen c.args.page.now in
    let read : is_read c.args.relation.0 c.args.relation.1 ≡ true = search rules in
    let is = read_is c.args.relation.0 c.args.relation.1 read in
    let found = c.in_ok-found.found.items in
    subst (λ (way : Way). AreMarks page (At way c.args.relation.1 c.args.relation.2 e) found) (sym is.0)
    (subst (λ (link : Link). AreMarks page (At From link c.args.relation.2 e) found) (sym is.1) (c.in_ok-found.ensures e are))
