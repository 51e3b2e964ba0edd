use Rattle.std.proofs.Common.{List, ap, sym, ℕ, ◌∙◌}
use Rattle.std.specs.List.{list_all}
use Rattle.tl_tree_safe.proofs.Whole.{whole_stays}
use Rattle.tl_tree_safe.specs.Inner.Cleaning.{is_whole}
use Rattle.tl_tree_safe.proofs.clean.clean_owned.Goals as goal

pub returns-then-is_clean : goal.returns-then-is_clean
returns-then-is_clean c =
    sym (whole_stays c.args.bytes.items
    (ap (λ (s : List ℕ). list_all is_whole s) (sym c.deref.ensures.value) ∙ sym c.is_clean.ensures ∙ c.if-is_clean.true))
