use Rattle.std.proofs.Common.{List, ap, subst, sym, ℕ, ◌∙◌, ◌≡◌}
use Rattle.std.specs.Prelude.{IfOk}
use Rattle.tl_tree_safe.proofs.KeptValues.{said_as_read}
use Rattle.tl_tree_safe.specs.Policies.{listed_words}
use Rattle.tl_tree_safe.proofs.values.said_link.Goals as goal

pub returns-then-is_read_so : goal.returns-then-is_read_so
returns-then-is_read_so c =
    subst (λ (s : List ℕ). IfOk c.own_link.result (λ own. own.items ≡ s))
    (said_as_read (listed_words c.args.lists.now) c.args.value.now (sym c.is_read_so.ensures ∙ c.if-is_read_so.true))
    c.own_link.ensures
