use Rattle.std.proofs.Common.{◌≡◌, ◌∙◌, ◌<◌, ◌+◌, IfSome, None, Option, false, inl, refl, rules, subst, sym, true, ℕ}
use Rattle.std.proofs.lemmas.Bool.{false≢true}
use Rattle.std.specs.Option.{option_map_or}
use Rattle.tl_css.specs.declared.selector.Link.TheVariants.{Parent}
use Rattle.tl_css.specs.declared.selector.Way.TheVariants.{From}
use Rattle.tl_tree_select.specs.Inner.Finding.{LeadsTo}
use Rattle.tl_tree_select.specs.Meaning.{IsUpTo}
use Rattle.tl_tree_select.specs.Page.{seen}
use Rattle.tl_tree_select.proofs.Outwards.{from_next, is_closest, left_next, smaller}
use Rattle.tl_tree_select.proofs.Trees.{tree_up}
use Rattle.tl_tree_select.proofs.search.innermost.Goals as goal

pub outwards-init : goal.outwards-init
outwards-init c = record {
  from = inl refl;
  left = λ e finds k around holds. around;
}

pub holds-requires : goal.holds-requires
holds-requires c = c.requires

pub outwards-smaller : goal.outwards-smaller
outwards-smaller c =
    let page = seen c.args.page.now in
    let less = smaller page (tree_up c.args.page.now.tree.now) c.parent_element-next.result c.in-Some.at c.parent_element-next.ensures in
    subst (λ (o : Option ℕ). option_map_or (λ m. m + 1) c.parent_element-next.result 0 < option_map_or (λ m. m + 1) o 0) (sym c.in-Some.is) less

pub outwards-preserved : goal.outwards-preserved
outwards-preserved c =
    let page = seen c.args.page.now in
    let inv = c.outwards.invariant in
    let fails : c.in_ok-holds.holds ≡ false = search rules in
    let around = subst (λ (o : Option ℕ). IfSome o (λ m. IsUpTo page From Parent m c.args.number)) c.in-Some.is inv.from in
    record {
      from = from_next page c.parent_element-next.result c.in-Some.at c.args.number c.parent_element-next.ensures around;
      left = λ e finds k up holds. left_next page e k c.parent_element-next.result c.in-Some.at c.parent_element-next.ensures
          (λ h. false≢true (sym fails ∙ (c.in_ok-holds.ensures e finds).1 h)) holds
          (subst (λ (o : Option ℕ). LeadsTo page o k) c.in-Some.is (inv.left e finds k up holds));
    }

pub returns-then-holds : goal.returns-then-holds
returns-then-holds c e finds =
    let page = seen c.args.page.now in
    let inv = c.outwards.invariant in
    let passes : c.in_ok-holds.holds ≡ true = search rules in
    is_closest page e c.args.number c.in-Some.at c.outwards.next c.in-Some.is inv.from (inv.left e finds) ((c.in_ok-holds.ensures e finds).0 passes)

pub returns : goal.returns
returns c e finds m up holds =
    let page = seen c.args.page.now in
    let none : c.outwards.next ≡ None = search rules in
    subst (λ (o : Option ℕ). LeadsTo page o m) none (c.outwards.invariant.left e finds m up holds)
