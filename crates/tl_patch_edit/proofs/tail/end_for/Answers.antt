use Rattle.std.proofs.Common.{List, ℕ, Bool, sym, subst, ◌∙◌}
use Rattle.std.specs.Str.{bytes_eq}
use Rattle.tl_patch_edit.specs.Inner.Tails.{IsEndFor, end_at}
use Rattle.tl_patch_edit.specs.declared.tail.Tail.{Tail}
use Rattle.tl_patch_edit.proofs.Tails.{body_name, html_ends, not_either, other_ends}
use Rattle.tl_patch_edit.proofs.tail.end_for.Goals as goal

pub returns-then-is_html : goal.returns-then-is_html
returns-then-is_html c = λ ps t. html_ends ps c.args.name.now c.args.tail (sym c.is_html-is_html.ensures ∙ c.if-is_html.true) t

pub returns-else-tail : goal.returns-else-tail
returns-else-tail c = λ ps t.
    let name : List ℕ = c.args.name.now in
    let tail : Tail = c.args.tail in
    subst (λ (v : Bool). IsEndFor ps name (end_at tail.body.place v)) (not_either tail.body.is_own (bytes_eq name body_name) c.if-tail.false)
    (other_ends ps name tail (sym c.is_html-is_html.ensures ∙ c.if-is_html.false) t)
