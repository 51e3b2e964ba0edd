use Rattle.std.proofs.Common.{◌≡◌, drop, map}
use Rattle.tl_tree_extract.specs.UrlKeys.{key_said, kind_at}
use Rattle.tl_tree_extract.proofs.url_keys.kind_among.Given as goal

abbrev pub invariant-loop-own : goal.invariant-loop-own
invariant-loop-own l =
    kind_at (map key_said (drop l.own-index l.keys)) l.key l.name ≡ kind_at (map key_said l.keys) l.key l.name
