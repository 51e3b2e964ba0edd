use Rattle.std.proofs.Common.{◌≡◌, Some, rules}
use Rattle.std.specs.Option.{option_and_then, option_map}
use Rattle.tl_names.specs.ElementNames.{name_of as number_of}
use Rattle.tl_tree.specs.Asked.{name_of, node_at}
use Rattle.tl_tree_select.specs.Page.{seen}
use Rattle.tl_tree_select.proofs.Looks.{number_at}
use Rattle.tl_tree_select.proofs.element.has_name_number.Goals as goal

pub returns-in-Some : goal.returns-in-Some
returns-in-Some c =
    let o = option_and_then name_of (node_at (seen c.args.page.now).rows c.args.number) in
    let got : Some c.in-Some.own ≡ option_map number_of o = search rules in
    number_at o c.in-Some.own c.args.known c.eq.result got c.eq.ensures
