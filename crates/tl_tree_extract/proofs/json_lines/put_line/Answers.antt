use Rattle.std.proofs.Common.{List, [], ap, append_assoc, rules, ℕ, ◌++◌, ◌∙◌, ◌∷◌, ◌≡◌}
use Rattle.json.specs.Print.{print}
use Rattle.std.specs.Option.{option_copied}
use Rattle.tl_tree.specs.Sources.{source_at}
use Rattle.tl_tree.specs.TreeView.{rows_in}
use Rattle.tl_tree_extract.proofs.Sinks.{text_of}
use Rattle.tl_tree_extract.specs.Json.{object_tokens}
use Rattle.tl_tree_extract.proofs.json_lines.put_line.Goals as goal

pub returns : goal.returns
returns c =
    let o : List ℕ = c.new-text.result.out.items in
    let start : o ≡ c.args.out.now.items = c.new-text.ensures.out ∙ ap (λ v. v.items) c.replace.ensures.value in
    let said = object_tokens c.args.form (option_copied c.args.file) (source_at c.args.tree.now) (rows_in c.args.tree.now) c.args.number in
    let text : c.into_inner.result.items ≡ c.args.out.now.items ++ print said =
    c.into_inner.ensures
    ∙ text_of o c.put_object.new.out.out.items c.new-text.result.after_value c.put_object.new.out.after_value said c.new-text.ensures.place c.in_ok-put_object.ensures.adds
    ∙ ap (λ l. l ++ print said) start in
    let pushed : c.push.new.self.items ≡ c.into_inner.result.items ++ 10 ∷ [] = search rules in
    pushed
    ∙ ap (λ l. l ++ 10 ∷ []) text
    ∙ append_assoc c.args.out.now.items (print said) (10 ∷ [])
