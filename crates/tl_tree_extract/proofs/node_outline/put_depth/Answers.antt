use Rattle.std.proofs.Common.{List, ap, append_assoc, arith, codes, decimal, if◌then◌else◌, nat_lt, refl, sym, true, ℕ, ◌++◌, ◌<◌, ◌∙◌, ◌≡◌, ◌∷◌}
use Rattle.std.proofs.lemmas.Bool.Decides.{nat_tests}
use Rattle.std.proofs.lemmas.Result.{on_ok_weaker}
use Rattle.tl_tree_extract.specs.Outline.{indentation}
use Rattle.tl_tree_extract.proofs.node_outline.put_depth.Goals as goal

deep : (depth most : ℕ) (far near : List ℕ) → most < depth → (if nat_lt most depth then far else near) ≡ far
deep depth most far near lt =
    let test : nat_lt most depth ≡ true = grind (arith, nat_tests) in
    rw test refl

pub returns : goal.returns
returns c =
    let old : List ℕ = c.args.out.now.items in
    let count : List ℕ = 40 ∷ (decimal c.args.depth ++ codes ") ") in
    on_ok_weaker c.put_count.result
    (λ e.
    e
    ∙ ap (λ (v : List ℕ). v ++ count) c.in_ok-put_indentation.ensures
    ∙ append_assoc old (indentation 64) count
    ∙ ap (λ (v : List ℕ). old ++ v) (sym (deep c.args.depth 64 (indentation 64 ++ count) (indentation c.args.depth) (omega arith))))
    c.put_count.ensures
