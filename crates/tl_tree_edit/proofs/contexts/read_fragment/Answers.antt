use Rattle.std.proofs.Common.{Err, rules, ◌≡◌}
use Rattle.tl_tree.specs.Contexts.{context_of}
use Rattle.tl_tree_edit.proofs.Unread.{unread_in}
use Rattle.tl_tree_edit.specs.Errors.{error_of_read}
use Rattle.tl_tree_edit.proofs.contexts.read_fragment.Goals as goal

pub returns-in_err-read_fragment : goal.returns-in_err-read_fragment
returns-in_err-read_fragment c =
    let why = c.in_err-read_fragment.field-0.0 in
    let is : c.from_residual.result ≡ Err (error_of_read why) = search rules in
    rw is (unread_in c.args.markup.now (context_of c.args.context) c.read_fragment.result why c.in_err-read_fragment.was (λ at h. search (rules, h)) (λ at h. search (rules, h)))
