use Rattle.std.proofs.Common.{List, ℕ, ap, sym, ◌∙◌}
use Rattle.std.specs.Str.{bytes_eq}
use Rattle.tl_html_balance.specs.View.{open_names}
use Rattle.tl_patch_elements.proofs.Heads.{other_head}
use Rattle.tl_patch_elements.proofs.finder.Finder.is_in_head.Goals as goal

pub returns-in-Some : goal.returns-in-Some
returns-in-Some c = λ e.
    other_head (open_names c.args.self.now.open_tags) c.in-Some.name.now (sym c.in-Some.ensures)
    (ap (λ (x : List ℕ). bytes_eq c.in-Some.name.now x) (sym c.as_slice.ensures) ∙ sym c.eq.ensures ∙ e)
