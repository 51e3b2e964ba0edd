use Rattle.std.proofs.Common.{sym, ◌∙◌}
use Rattle.tl_tree.proofs.Lists.{unplaced}
use Rattle.tl_tree.proofs.NamesMet.{found-among}
use Rattle.tl_tree.proofs.attribute_lists.AttributeLists.place.Goals as goal

pub returns-in-Html : goal.returns-in-Html
returns-in-Html c none key_of both =
    let lists = c.args.self.now in
    let key = c.args.key.now in
    let missed = sym (found-among lists.html_places.entries key) ∙ (sym c.get.ensures.value ∙ (sym c.copied.ensures ∙ none)) in
    rw c.in-Html.is (unplaced lists.html_places.entries key_of key missed lists.html.items both.html)

pub returns-in-Body : goal.returns-in-Body
returns-in-Body c none key_of both =
    let lists = c.args.self.now in
    let key = c.args.key.now in
    let missed = sym (found-among lists.body_places.entries key) ∙ (sym c.get-in-Body.ensures.value ∙ (sym c.copied-in-Body.ensures ∙ none)) in
    rw c.in-Body.is (unplaced lists.body_places.entries key_of key missed lists.body.items both.body)
