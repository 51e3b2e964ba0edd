-- Texts that the first or the second of their parts shows to be no selector.
use Rattle.std.specs.Prelude.{◌≡◌, ℕ, List, None, Some, option_map}
use Rattle.tl_spec.specs.Lex.Runs.{drop_while}
use Rattle.tl_spec.specs.Lex.ByteClass.{is_space}
use Rattle.tl_spec.specs.Select.Reading.{simple_at, next_at, Bad}

-- no part stands first, as in `,a`
abbrev pub LacksFirst : List ℕ → Type 0
LacksFirst s = simple_at (drop_while is_space s) ≡ None

-- after the first part a part is due, and none stands there, as in `a,` or `a >`
abbrev pub LacksSecond : List ℕ → Type 0
LacksSecond s = option_map (λ first. next_at first.1) (simple_at (drop_while is_space s)) ≡ Some Bad
