use Rattle.std.proofs.Common.{length, rules, ap, arith, ℕ, ◌++◌, ◌<◌, ◌≡◌, ◌∙◌, ◌∷◌, List, []}
use Rattle.tl_answers.proofs.Ends.{ended_behind, ended_longer}
use Rattle.tl_answers.specs.Lines.{line_ended}
use Rattle.tl_tree.specs.TreeView.{rows_in}
use Rattle.tl_tree_extract.specs.Readable.{readable_below}
use Rattle.tl_answers.proofs.field.put_readable.Goals as goal

pub returns : goal.returns
returns c =
    let text : List ℕ = readable_below c.args.left_out.now (rows_in c.args.tree.now) c.args.number in
    let after : c.write_readable_text.new.out.items ≡ c.args.out.now.items ++ text = c.in_ok-write_readable_text.ensures in
    let other = c.if-len-start.false in
    let long : c.len.result ≡ length c.write_readable_text.new.out.items = search (rules, c.len.ensures) in
    let short : c.len-start.result ≡ length c.args.out.now.items = search (rules, c.len-start.ensures) in
    let ended = ended_longer text c.args.out.now.items c.write_readable_text.new.out.items c.len.result c.len-start.result after long short other in
    c.in_ok-push.ensures.items ∙ ap (λ (xs : List ℕ). xs ++ 10 ∷ []) after ∙ ended_behind c.args.out.now.items text ended
