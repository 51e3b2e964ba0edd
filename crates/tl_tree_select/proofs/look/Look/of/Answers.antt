use Rattle.std.proofs.Common.{◌≡◌, ◌∙◌, ◌≤◌, List, ap, codes, false, length, refl, rules, subst, sym, ℕ}
use Rattle.tl_css.specs.Selector.{Any, Name}
use Rattle.tl_css.specs.View.{ident, test}
use Rattle.tl_css.specs.declared.selector.Op.TheVariants.{Word}
use Rattle.tl_tree_select.specs.Meaning.{HasValue, Passes}
use Rattle.tl_tree_select.specs.Page.{seen}
use Rattle.tl_tree_select.proofs.Looks.{as_test, class_is, class_long}
use Rattle.tl_tree_select.proofs.look.Look.of.Goals as goal

pub returns-in-Any-clause-seen : goal.returns-in-Any-clause-seen
returns-in-Any-clause-seen c = λ n h. h.0

pub returns-in-Any-clause-passes : goal.returns-in-Any-clause-passes
returns-in-Any-clause-passes c = λ yes.
    let page = seen c.args.page.now in
    record { exact = refl; holds = λ n own. as_test page Any (test c.args.test.now) n (sym (ap test c.in-Any.is)) (own, tt) }

pub returns-in-Name-clause-seen : goal.returns-in-Name-clause-seen
returns-in-Name-clause-seen c = λ n h.
    let page = seen c.args.page.now in
    c.of_name.ensures.seen page n (as_test page (test c.args.test.now) (Name (ident c.in-Name.name)) n (ap test c.in-Name.is) h)

pub returns-in-Name-clause-passes : goal.returns-in-Name-clause-passes
returns-in-Name-clause-passes c = λ yes.
    let page = seen c.args.page.now in
    let enough = c.of_name.ensures.passes yes page in
    record {
      exact = enough.exact;
      holds = λ n own. as_test page (Name (ident c.in-Name.name)) (test c.args.test.now) n (sym (ap test c.in-Name.is)) (enough.holds n own);
    }

pub returns-in-Class-clause-seen : goal.returns-in-Class-clause-seen
returns-in-Class-clause-seen c = λ n h.
    let page = seen c.args.page.now in
    let same : c.len-in-Class.result ≡ length c.in-Class.class.items = search rules in
    subst (λ (k : ℕ). HasValue page (λ own. k ≤ length own) (codes "class") n) (sym same)
    (class_long page (test c.args.test.now) n c.in-Class.class.items (ap test c.in-Class.is) h)

pub returns-in-Class-2-clause-passes : goal.returns-in-Class-2-clause-passes
returns-in-Class-2-clause-passes c = λ yes.
    let page = seen c.args.page.now in
    let no : c.is_quirks-is_quirks.result ≡ false = search rules in
    let exact : page.is_quirks ≡ false = sym c.is_quirks-is_quirks.ensures ∙ no in
    record {
      exact = refl;
      holds = λ n own. (class_is page (test c.args.test.now) n c.in-Class-2.class.items (ap test c.in-Class-2.is) exact).1
          (own.0, subst (λ (class : List ℕ). HasValue page (Passes Word class) (codes "class") n) c.deref-in-Class-2.ensures.value own.1);
    }
