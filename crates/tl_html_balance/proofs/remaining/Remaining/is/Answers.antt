use Rattle.std.proofs.Common.{ap, ◌∙◌, sym, [], arith}
use Rattle.std.proofs.lemmas.List.{get_or-drop}
use Rattle.tl_html_balance.specs.Classes.{classes_of, has, is}
use Rattle.tl_html_balance.specs.View.{open_names}
use Rattle.tl_html_balance.proofs.Opened.{place-fits}
use Rattle.tl_html_balance.proofs.remaining.Remaining.is.Goals as goal

pub overflow_add-self : goal.overflow_add-self
overflow_add-self c =
    let fits = place-fits c.args.self.now.tags.now c.args.self.now.closed c.args.depth c.requires in
    omega arith

pub returns : goal.returns
unfolding is
returns c =
    let left = c.args.self.now in
    c.has.ensures
    ∙ ap (has c.args.wanted) c.classes.ensures
    ∙ sym (ap (λ name. has c.args.wanted (classes_of name)) (get_or-drop left.closed (open_names left.tags.now) c.args.depth []))
