use Rattle.std.proofs.Common.{List, ap, rules, sym, ℕ, ◌==◌, ◌∙◌, ◌≡◌}
use Rattle.tl_tree_extract.proofs.Smooth.{smooth_line}
use Rattle.tl_tree_extract.specs.NodeOutline.{first_words}
use Rattle.tl_tree_extract.specs.Readable.{one_line}
use Rattle.std.specs.List.{before_first}
use Rattle.tl_tree_extract.proofs.node_words.put_first_words.Goals as goal

pub returns-then-is_smooth : goal.returns-then-is_smooth
returns-then-is_smooth c =
    let words : List ℕ = c.behind-words.result.now in
    let is = c.if-is_smooth.true in
    let same = smooth_line words (c.is_smooth.ensures.begins is) (c.is_smooth.ensures.ends is) (c.is_smooth.ensures.smooth is) in
    let said : first_words c.args.bytes.now ≡ words =
    ap (λ (w : List ℕ). one_line (before_first (λ b. b == 10) w)) (sym c.behind-words.ensures) ∙ same in
    rw said (search rules)
