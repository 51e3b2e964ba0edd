use Rattle.std.proofs.Common.{◌++◌, ◌-◌, List, ℕ, length, take, drop, ap, ◌∙◌, append_assoc}
use Rattle.std.proofs.lemmas.List.{take_rest}
use Rattle.tl_patch.proofs.rewrite.write_with.Goals as goal

pub returns : goal.returns
returns c =
    let out : List ℕ = c.args.out.now.items in
    let bytes : List ℕ = c.args.bytes.now in
    let put : List ℕ = c.args.put.now in
    let first : List ℕ = take c.args.from bytes in
    c.in_ok-extend_from_slice-3.ensures.items
    ∙ ap (λ xs. xs ++ take (length bytes - c.args.until) (drop c.args.until bytes)) (c.in_ok-extend_from_slice-2.ensures.items ∙ ap (λ xs. xs ++ put) c.in_ok-extend_from_slice.ensures.items)
    ∙ ap (λ xs. ((out ++ first) ++ put) ++ xs) (take_rest bytes c.args.until)
    ∙ append_assoc (out ++ first) put (drop c.args.until bytes)
    ∙ append_assoc out first (put ++ drop c.args.until bytes)
