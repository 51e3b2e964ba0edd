use Rattle.std.proofs.Common.{◌≡◌, ◌<◌, ◌++◌, ℕ, suc, List, length, take, drop, ap₂, ◌∙◌, arith}
use Rattle.tl_patch.proofs.Begins.{start_alone}
use Rattle.tl_patch.proofs.Renamed.{opened_by, renamed}
use Rattle.tl_patch.proofs.Starts.{front_begins}
use Rattle.tl_patch.proofs.rename.renamed.Goals as goal

pub write_with-requires-clause-order : goal.write_with-requires-clause-order
write_with-requires-clause-order c =
    let k = front_begins c.args.end c.args.tag.now _ (c.requires.end).within ((c.requires.end).in_name).1 in
    let e : c.args.end ≡ suc k.0 = k.1 in
    omega arith

pub write_with-requires-clause-inside : goal.write_with-requires-clause-inside
write_with-requires-clause-inside c = let l : c.args.end < length c.args.tag.now = (c.requires.end).within in omega arith

pub returns : goal.returns
returns c =
    let tag : List ℕ = c.args.tag.now in
    let a = start_alone tag c.requires.tag in
    let o = opened_by tag a in
    renamed tag c.args.end c.requires.end a c.args.name.now _ o.0 c.requires.name o.1
    (c.in_ok-write_with.ensures
    ∙ ap₂ (λ (xs ys : List ℕ). xs ++ (take 1 ys ++ (c.args.name.now ++ drop c.args.end tag))) c.new-new.ensures.items o.1)
