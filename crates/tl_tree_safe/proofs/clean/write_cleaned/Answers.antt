use Rattle.std.proofs.Common.{List, OnOk, subst, sym, ◌++◌, ◌∙◌, ◌≡◌, ℕ}
use Rattle.tl_html_print.specs.Serialized.{escaped}
use Rattle.tl_tree_safe.proofs.Whole.{whole_stays}
use Rattle.tl_tree_safe.proofs.clean.write_cleaned.Goals as goal

pub returns-then-is_clean : goal.returns-then-is_clean
returns-then-is_clean c =
    subst (λ (s : List ℕ). OnOk c.write_escaped.result (c.write_escaped.new.out.items ≡ c.args.out.now.items ++ escaped c.args.in_attribute s))
    (sym (whole_stays c.args.bytes.now (sym c.is_clean.ensures ∙ c.if-is_clean.true)))
    c.write_escaped.ensures
