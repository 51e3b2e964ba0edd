use Rattle.std.proofs.Common.{◌≡◌, ◌∙◌, ap, rules, sym, true}
use Rattle.std.proofs.lemmas.Bool.{eq-eqb}
use Rattle.std.specs.Option.{option_and_then}
use Rattle.tl_names.specs.declared.element_name.ElementName.{ElementName}
use Rattle.tl_tree.specs.Asked.{name_of, node_at}
use Rattle.tl_tree_select.specs.Meaning.{is_html_at, spelled}
use Rattle.tl_tree_select.specs.Page.{seen}
use Rattle.tl_tree_select.proofs.Tests.{known_name, no_name}
use Rattle.tl_tree_select.proofs.element.may_be_named.Goals as goal

pub returns-in_default : goal.returns-in_default
returns-in_default c name is named =
    let page = seen c.args.page.now in
    absurd (no_name (option_and_then name_of (node_at page.rows c.args.number)) (spelled (is_html_at page c.args.number) name) (search rules) named)

pub returns : goal.returns
returns c name is named =
    let page = seen c.args.page.now in
    let html : is_html_at page c.args.number ≡ true = search rules in
    let same = known_name (option_and_then name_of (node_at page.rows c.args.number)) (is_html_at page c.args.number) c.in-Some.own c.args.known name (search rules) html is named in
    eq-eqb c.number.result c.number-2.result (c.number.ensures ∙ ap (λ (e : ElementName). e.number) same ∙ sym c.number-2.ensures)
