use Rattle.std.proofs.Common.{drop, map, ◌≡◌}
use Rattle.std.specs.List.{list_any}
use Rattle.std.specs.Str.{bytes_eq}
use Rattle.tl_answers.proofs.links.has_key.Given as goal

-- it is one of those that are left
abbrev pub invariant-loop-key : goal.invariant-loop-key
invariant-loop-key l =
    list_any (bytes_eq l.own) (map (λ key. key.now) l.keys)
    ≡ list_any (bytes_eq l.own) (map (λ key. key.now) (drop l.key-index l.keys))
