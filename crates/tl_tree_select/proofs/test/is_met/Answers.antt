use Rattle.std.proofs.Common.{◌≡◌, ◌↔◌, ◌∙◌, List, IfOk, ap, codes, rules, subst, true, ℕ}
use Rattle.tl_css.specs.Selector as s
use Rattle.tl_css.specs.View.{ident, test}
use Rattle.tl_css.specs.declared.selector.Op.TheVariants.{Word}
use Rattle.tl_css.specs.declared.selector.Space.{Space}
use Rattle.tl_css.specs.declared.selector.Space.TheVariants.{Bare, Every}
use Rattle.tl_tree_select.specs.Meaning.{HasValue, IsMet, PassesBy}
use Rattle.tl_tree_select.specs.Page.{seen}
use Rattle.tl_tree_select.proofs.Tests.{met_as}
use Rattle.tl_tree_select.proofs.test.is_met.Goals as goal

pub returns-in-Class : goal.returns-in-Class
returns-in-Class c =
    let page = seen c.args.page.now in
    let n = c.args.number in
    let class = c.in-Class.class.items in
    let r = c.has_value-in-Class.result in
    met_as page n (test c.args.test.now) (s.Class class) r (HasValue page (PassesBy page.is_quirks Word class) (codes "class") n) (ap test c.in-Class.is) (λ h. h, λ h. h)
    (subst (λ (v : List ℕ). IfOk r (λ has. (has ≡ true) ↔ HasValue page (PassesBy page.is_quirks Word v) (codes "class") n)) c.deref-in-Class.ensures.value c.has_value-in-Class.ensures)

pub returns-in-Value-Bare-default-default-default-default : goal.returns-in-Value-Bare-default-default-default-default
returns-in-Value-Bare-default-default-default-default c =
    let page = seen c.args.page.now in
    let n = c.args.number in
    let own = c.in-Value-Bare-default-default-default-default in
    let asked = s.Value Bare (ident own.key) own.op own.value.items own.case in
    let is : test c.args.test.now ≡ asked = search rules in
    let r = c.has_attribute.result in
    met_as page n (test c.args.test.now) asked r (IsMet page asked n) is (λ h. h, λ h. h)
    (subst (λ (v : List ℕ). IfOk r (λ has. (has ≡ true) ↔ IsMet page (s.Value Bare (ident own.key) own.op v own.case) n)) c.deref-in-Value-Bare-default-default-default-default.ensures.value c.has_attribute.ensures)

pub returns-in-Value-Every-default-default-default-default : goal.returns-in-Value-Every-default-default-default-default
returns-in-Value-Every-default-default-default-default c =
    let page = seen c.args.page.now in
    let n = c.args.number in
    let own = c.in-Value-Every-default-default-default-default in
    let asked = s.Value Every (ident own.key) own.op own.value.items own.case in
    let space : own.field-0 ≡ Every = search rules in
    let is = ap test own.is ∙ ap (λ (space : Space). s.Value space (ident own.key) own.op own.value.items own.case) space in
    let r = c.has_some_attribute.result in
    met_as page n (test c.args.test.now) asked r (IsMet page asked n) is (λ h. h, λ h. h)
    (subst (λ (v : List ℕ). IfOk r (λ has. (has ≡ true) ↔ IsMet page (s.Value Every (ident own.key) own.op v own.case) n)) c.deref-in-Value-Every-default-default-default-default.ensures.value c.has_some_attribute.ensures)
