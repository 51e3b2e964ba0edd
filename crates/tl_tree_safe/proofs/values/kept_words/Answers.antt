use Rattle.std.proofs.Common.{List, subst, sym, ℕ, ◌∙◌, ◌≡◌}
use Rattle.std.specs.Prelude.{IfOk}
use Rattle.tl_safe_fit.specs.Words.{words_of}
use Rattle.tl_tree_safe.proofs.KeptValues.{classes_as_read}
use Rattle.tl_tree_safe.proofs.values.kept_words.Goals as goal

pub returns-then-is_clean : goal.returns-then-is_clean
returns-then-is_clean c =
    subst (λ (s : List ℕ). IfOk c.kept_classes.result (λ kept. kept.items ≡ s))
    (classes_as_read (words_of c.args.lists.now.classes.now) c.args.value.now (sym c.is_clean.ensures ∙ c.if-is_clean.true))
    c.kept_classes.ensures
