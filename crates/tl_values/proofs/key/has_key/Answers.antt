use Rattle.std.proofs.Common.{List, ap, ap₂, drop, length, sym, take, ◌&&◌, ◌++◌, ◌∙◌, ◌≡◌, ℕ}
use Rattle.std.proofs.lemmas.List.{take-append-drop}
use Rattle.std.specs.Str.{str_eq_ignore_ascii_case}
use Rattle.tl_values.proofs.SplitKeys.{parts}
use Rattle.tl_values.proofs.key.has_key.Goals as goal

-- by its parts
split : (n : ℕ) (key front back prefix own name : List ℕ) → front ≡ take n key → back ≡ drop n key → length front ≡ length prefix → prefix ++ own ≡ name →
    (str_eq_ignore_ascii_case front prefix && str_eq_ignore_ascii_case back own) ≡ str_eq_ignore_ascii_case key name
split n key front back prefix own name is-front is-back len is =
    sym (parts front prefix back own len)
    ∙ ap (λ k. str_eq_ignore_ascii_case k (prefix ++ own)) (ap₂ ◌++◌ is-front is-back ∙ take-append-drop n key)
    ∙ ap (str_eq_ignore_ascii_case key) is

pub returns-then-are_same : goal.returns-then-are_same
returns-then-are_same c =
    c.are_same-then-are_same.ensures
    ∙ ap (λ b. b && str_eq_ignore_ascii_case c.split_at.result.1.now c.args.attribute.key.now) (sym c.if-are_same.true ∙ c.are_same.ensures)
    ∙ split _ c.args.key.now _ _ c.attribute_prefix-prefix.result.now c.args.attribute.key.now _ c.split_at.ensures.front c.split_at.ensures.back c.split_at.ensures.front_len c.attribute_prefix-prefix.ensures

pub returns-else-are_same : goal.returns-else-are_same
returns-else-are_same c =
    c.if-are_same.false
    ∙ ap (λ b. b && str_eq_ignore_ascii_case c.split_at.result.1.now c.args.attribute.key.now) (sym c.if-are_same.false ∙ c.are_same.ensures)
    ∙ split _ c.args.key.now _ _ c.attribute_prefix-prefix.result.now c.args.attribute.key.now _ c.split_at.ensures.front c.split_at.ensures.back c.split_at.ensures.front_len c.attribute_prefix-prefix.ensures
